-- Messages are in transit between two different agents of the problem alone.
use Rattle.std.proofs.Common.{◌≡◌, ℕ, zero, suc, ◌+◌, ◌<◌, ◌≤◌, ◌%◌, Bool, true, false, cond, inl, inr, List, [], ◌∷◌, find, length, slice_get, Option, Some, None, refl, sym, ap, ◌∙◌, subst, arith}
use Rattle.std.specs.List.{enumerate_from}
use Rattle.std.proofs.lemmas.Bool.Decides.{eqb_tells}
use Rattle.dcsp_defs.specs.Words.{In, below}
use Rattle.dcsp_defs.specs.Csp.{Csp, IsCsp, Constraint, count}
use Rattle.dcsp_defs.proofs.Lists.{In-split, In-below, get-In, filter-from}
use Rattle.abt_defs.specs.Agents.{Message, Tell, Refuse, AddLink}
use Rattle.abt_defs.specs.Steps.{Outcome, settle, receive}
use Rattle.abt_defs.specs.Network.{Network, sent_to, acted, left, next_number, deliver_head, deliver_at, deliver, ready, run, start, start_by, empty_network, settle_below, is_false, pairs}
use Rattle.law_agent.proofs.Facts.{asks, bit, Kept}
use Rattle.law_agent.proofs.Moves.{bit_up}
use Rattle.law_agent.proofs.Receives.{announced, heeded}
use Rattle.law_agent.proofs.Runs.{delivered, expected, settled_below, In-pairs}
use Rattle.law_runs.specs.Deliverable.{AreTwoAgents, LinksJoin}
use Rattle.law_runs.proofs.Sends.{Reaches, TellsLower, In-sent, settle_reaches, announce_reaches, refuse_reaches, link_reaches}

-- the lists lead between agents of the problem
abbrev pub Join : Csp → (ℕ → ℕ → List Message) → Type 0
Join p links = (k j : ℕ) (m : Message) → In m (links k j) → AreTwoAgents p k j

-- ---- what is kept says whom an agent tells, and who asks it

module _ (p : Csp) (s : ℕ) (net : Network) (h : Kept p s net) where
  pub tells_lower : (i : ℕ) → TellsLower i (net.agents i)
  tells_lower i j t = (h.sound j).higher i (bit_up _ _ (asks (net.links j i)) (sym (h.asked j i)) t)

  -- a link request comes from a lower agent
  pub asks_higher : (k i : ℕ) (rest : List Message) → net.links k i ≡ AddLink ∷ rest → i < k
  asks_higher k i rest e =
      let q = h.asked k i in
      let n : asks (net.links k i) ≡ suc (asks rest) = ap asks e in
      (h.sound k).higher i (up (bit ((net.agents i).tells k)) ((net.agents k).linked i) (asks rest) (omega arith))
    where
      up : (x : ℕ) (y : Bool) (n : ℕ) → suc n + x ≡ bit y → y ≡ true
      up x true n z = refl
      up x false n z = absurd (omega arith)

-- ---- an agent acts

join_act : (p : Csp) (i : ℕ) (o : Outcome) (net : Network) → i < count p → Join p net.links → Reaches p i o.sent → Join p (acted i o net).links
join_act p i o net l h r k j m = elim (eqb_tells k i) [
  | inl t ↦ rw t.0 (λ u. elim (In-split m (net.links k j) (sent_to j o.sent) u) [
    | inl v ↦ h k j m v
    | inr v ↦
        let x = In-sent j m o.sent v in
        record {
          sender = (let e = t.1 in omega arith);
          receiver = subst (λ z. z < count p) x.2 (r.exists x.0 x.1);
          different = λ e. r.other x.0 x.1 (x.2 ∙ sym e ∙ t.1);
        }
  ])
  | inr t ↦ rw t.0 (λ u. h k j m u)
]

join_left : (p : Csp) (net : Network) (k i : ℕ) (m : Message) (rest : List Message) → Join p net.links → net.links k i ≡ m ∷ rest → Join p (left k i rest net).links
join_left p net k i m rest h e y j z = elim (eqb_tells y k) [
  | inl t ↦ rw t.0 (elim (eqb_tells j i) [
    | inl u ↦ rw u.0 (λ v. let a = h k i z (subst (In z) (sym e) (inr v)) in subst (λ (x : ℕ). AreTwoAgents p x j) (sym t.1) (subst (AreTwoAgents p k) (sym u.1) a))
    | inr u ↦ rw u.0 (λ v. subst (λ (x : ℕ). AreTwoAgents p x j) (sym t.1) (h k j z v))
  ])
  | inr t ↦ rw t.0 (λ v. h y j z v)
]

-- ---- a delivery

-- to whom the receiver sends
pub reaches : (p : Csp) (net : Network) (k i : ℕ) (m : Message) (rest : List Message) → i < count p → Kept p (count p) net → net.links k i ≡ m ∷ rest → Reaches p i (receive p i (next_number net) (net.agents i) k m).sent
reaches p net k i (Tell s) rest l h e =
    let higher = expected p (count p) net k i (Tell s) rest (h.sound i) l h e in
    announce_reaches p i l (next_number net) k (net.agents i) s (announced p i (net.agents i) (h.sound i) l k s higher (h.fine k i (Tell s) (subst (In (Tell s)) (sym e) (inl refl)))).tells (tells_lower p (count p) net h i)
reaches p net k i (Refuse step pairs) rest l h e =
    refuse_reaches p i l (next_number net) k step (net.agents i) pairs (heeded p i (net.agents i) (h.sound i) l k step pairs (h.fine k i (Refuse step pairs) (subst (In (Refuse step pairs)) (sym e) (inl refl)))).tells (tells_lower p (count p) net h i)
reaches p net k i AddLink rest l h e =
    let lower = asks_higher p (count p) net h k i rest e in
    link_reaches p i l (next_number net) k (net.agents i) (h.fine k i AddLink (subst (In AddLink) (sym e) (inl refl))) (λ same. omega arith)

-- what holds of each network that a run reaches
record Joined (p : Csp) (net : Network) : Type 0 where
  kept : net.refuted ≡ false → Kept p (count p) net
  joins : Join p net.links

joined_head : (p : Csp) (net : Network) (k i : ℕ) (ms : List Message) → i < count p → net.refuted ≡ false → Joined p net → net.links k i ≡ ms → Joined p (deliver_head p k i ms net)
joined_head p net k i [] l f h e = h
joined_head p net k i (m ∷ rest) l f h e =
    let kept = h.kept f in
    record {
      kept = λ r. delivered p net k i (m ∷ rest) l kept e (inl r);
      joins = join_act p i (receive p i (next_number net) (net.agents i) k m) (left k i rest net) l (join_left p net k i m rest h.joins e) (reaches p net k i m rest l kept e);
    }

joined_at : (p : Csp) (net : Network) (o : Option (ℕ × ℕ)) → ((x : ℕ × ℕ) → o ≡ Some x → x.1 < count p) → net.refuted ≡ false → Joined p net → Joined p (deliver_at p o net)
joined_at p net None l f h = h
joined_at p net (Some x) l f h = joined_head p net x.0 x.1 (net.links x.0 x.1) (l x refl) f h refl

joined_on : (p : Csp) (c : ℕ) (net : Network) → net.refuted ≡ false → Joined p net → Joined p (deliver p c net)
joined_on p c net f h = joined_at p net (slice_get (ready p net) (c % length (ready p net))) inside f h
  where
    inside : (x : ℕ × ℕ) → slice_get (ready p net) (c % length (ready p net)) ≡ Some x → x.1 < count p
    inside x e = In-below (count p) x.1 (In-pairs (count p) x (below (count p)) (filter-from _ x (pairs (count p)) (get-In (ready p net) _ x e)).0).0

joined_run : (p : Csp) (cs : List ℕ) (net : Network) → Joined p net → Joined p (run p cs net)
joined_run p [] net h = h
joined_run p (c ∷ cs) net h = (elim net.refuted as (λ b. net.refuted ≡ b → Joined p (cond b net (run p cs (deliver p c net)))) [
  | true ↦ λ e. h
  | false ↦ λ e. joined_run p cs (deliver p c net) (joined_on p c net e h)
]) refl

-- ---- the start

join_below : (p : Csp) → IsCsp p → (n : ℕ) → n ≤ count p → Join p (settle_below p n (empty_network p)).links
join_below p ok zero l = λ k j m u. absurd u
join_below p ok (suc i) l =
    let net = settle_below p i (empty_network p) in
    (elim net.refuted as (λ b. net.refuted ≡ b → Join p (cond b net (acted i (settle p i (next_number net) (net.agents i)) net)).links) [
      | true ↦ λ e. join_below p ok i (omega arith)
      | false ↦ λ e. join_act p i (settle p i (next_number net) (net.agents i)) net (omega arith) (join_below p ok i (omega arith))
          (settle_reaches p i (omega arith) (next_number net) (net.agents i) (tells_lower p i net (settled_below p ok i (omega arith) e) i))
    ]) refl

joined_start : (p : Csp) → IsCsp p → (o : Option (ℕ × Constraint)) → Joined p (start_by p o)
joined_start p ok None = record { kept = λ f. settled_below p ok (count p) (omega arith) f; joins = join_below p ok (count p) (omega arith) }
joined_start p ok (Some x) = record { kept = λ f. cc; joins = λ k j m u. absurd u }

pub links_join : (p : Csp) → LinksJoin p
links_join p ok cs = (joined_run p cs (start p) (joined_start p ok (find (λ (x : ℕ × Constraint). is_false x.1) (enumerate_from 0 p.constraints)))).joins
