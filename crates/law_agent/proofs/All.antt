-- The facts hold of every network that a run reaches and that is not refuted.
use Rattle.std.proofs.Common.{◌≡◌, ℕ, zero, suc, ◌+◌, ◌<◌, ◌≤◌, ◌%◌, Bool, true, false, cond, ◌⊎◌, inl, inr, List, [], ◌∷◌, ◌++◌, ◌==◌, find, length, slice_get, Option, Some, None, ℤ, pos, refl, sym, ap, ◌∙◌, subst, arith}
use Rattle.std.specs.List.{enumerate_from}
use native.Mathlib.Decide.{dec_lt}
use Rattle.dcsp_defs.specs.Pairs.{pair_of}
use Rattle.dcsp_defs.specs.Words.{In, below}
use Rattle.dcsp_defs.specs.Csp.{Csp, Constraint, IsCsp, count}
use Rattle.dcsp_defs.proofs.Lists.{In-below, get-In, filter-from}
use Rattle.abt_defs.specs.Agents.{Message, Tell, Refuse, AddLink, Stamped, StampedNogood, lowest, value_in}
use Rattle.abt_defs.specs.Steps.{settle, receive}
use Rattle.abt_defs.specs.Network.{Network, acted, left, next_number, deliver_head, deliver_at, deliver, ready, run, start, start_by, empty_network, settle_below, is_false, pairs}
use Rattle.law_agent.proofs.Nogoods.{value_at-In}
use Rattle.law_agent.proofs.Facts.{asks, bit, Kept}
use Rattle.law_agent.proofs.Moves.{bit_up}
use Rattle.law_agent.proofs.Receives.{only, receives}
use Rattle.law_agent.proofs.Runs.{moved, expected, delivers, settled, settled_below, split_at, In-pairs}
use Rattle.law_agent.specs.Invariants.{requests, Held, In_view, On_list, In_nogood, Own, Witness, Invariants, InvariantsHold}
use Rattle.law_agent.proofs.Last.{Lasts, lasts_after}
use Rattle.law_agent.proofs.Values.{Known, known_after, held_dated}

-- what a run keeps, beside the rest
pub record Also (net : Network) : Type 0 where
  pub lasts : Lasts net
  pub values : Known net

-- ---- by induction over the run

also_head : (p : Csp) (net : Network) (k i : ℕ) (ms : List Message) → i < count p → Kept p (count p) net → Also net → net.links k i ≡ ms → (deliver_head p k i ms net).refuted ≡ false → Also (deliver_head p k i ms net)
also_head p net k i [] l h a e f = a
also_head p net k i (m ∷ rest) l h a e f =
    let done = receives p i (net.agents i) (h.sound i) l k (next_number net) m (h.fine k i m (subst (In m) (sym e) (inl refl))) (expected p (count p) net k i m rest (h.sound i) l h e) (h.chosen i l) f in
    let move = moved p (count p) (count p) i net h (left k i rest net).links (left k i rest net).deliveries (receive p i (next_number net) (net.agents i) k m) (only k m) (split_at net k i m rest e) done (λ j x y. x) l in
    record { lasts = lasts_after p (count p) (count p) net _ h move a.lasts; values = known_after p (count p) (count p) net _ h move a.values }

also_at : (p : Csp) (net : Network) (o : Option (ℕ × ℕ)) → ((x : ℕ × ℕ) → o ≡ Some x → x.1 < count p) → Kept p (count p) net → Also net → (deliver_at p o net).refuted ≡ false → Also (deliver_at p o net)
also_at p net None l h a f = a
also_at p net (Some x) l h a f = also_head p net x.0 x.1 (net.links x.0 x.1) (l x refl) h a refl f

also_on : (p : Csp) (c : ℕ) (net : Network) → Kept p (count p) net → Also net → (deliver p c net).refuted ≡ false → Also (deliver p c net)
also_on p c net h a f = also_at p net (slice_get (ready p net) (c % length (ready p net))) inside h a f
  where
    inside : (x : ℕ × ℕ) → slice_get (ready p net) (c % length (ready p net)) ≡ Some x → x.1 < count p
    inside x e = In-below (count p) x.1 (In-pairs (count p) x (below (count p)) (filter-from _ x (pairs (count p)) (get-In (ready p net) _ x e)).0).0

-- both together
pub record Both (p : Csp) (net : Network) : Type 0 where
  pub kept : Kept p (count p) net
  pub also : Also net

both_run : (p : Csp) (cs : List ℕ) (net : Network) → (net.refuted ≡ false → Both p net) → (run p cs net).refuted ≡ false → Both p (run p cs net)
both_run p [] net h f = h f
both_run p (c ∷ cs) net h f = (elim net.refuted as (λ b. net.refuted ≡ b → (cond b net (run p cs (deliver p c net))).refuted ≡ false → Both p (cond b net (run p cs (deliver p c net)))) [
  | true ↦ λ e g. let z : true ≡ false = sym e ∙ g in cc
  | false ↦ λ e g. let b = h e in both_run p cs (deliver p c net) (λ q. record { kept = delivers p c net b.kept e q; also = also_on p c net b.kept b.also q }) g
]) refl f

also_fresh : (p : Csp) → Also (empty_network p)
also_fresh p = record { lasts = λ k i v t e. cc; values = record { history = λ k n. pos 0; held = none } }
  where
    none : (k : ℕ) (s : Stamped) → Held (empty_network p) k s → pos 0 ≡ s.value
    none k s (In_view i e) = cc
    none k s (On_list i u) = absurd u
    none k s (In_nogood i j step pairs u v) = absurd u
    none k s (Own e f) = cc

also_below : (p : Csp) → IsCsp p → (n : ℕ) → n ≤ count p → (settle_below p n (empty_network p)).refuted ≡ false → Also (settle_below p n (empty_network p))
also_below p ok zero l f = also_fresh p
also_below p ok (suc i) l f =
    let net = settle_below p i (empty_network p) in
    (elim net.refuted as (λ b. net.refuted ≡ b → (cond b net (acted i (settle p i (next_number net) (net.agents i)) net)).refuted ≡ false → Also (cond b net (acted i (settle p i (next_number net) (net.agents i)) net))) [
      | true ↦ λ e g. let z : true ≡ false = sym e ∙ g in cc
      | false ↦ λ e g.
          let h = settled_below p ok i (omega arith) e in
          let a = also_below p ok i (omega arith) e in
          let move = moved p i (suc i) i net h net.links net.deliveries (settle p i (next_number net) (net.agents i)) (λ k. [])
          (λ k j. elim (j == i) as (λ b. net.links k j ≡ cond b [] [] ++ net.links k j) [ true ↦ refl | false ↦ refl ])
          (settled p i (omega arith) (net.agents i) (h.sound i) (next_number net) g)
          (λ j x y. omega arith) (omega arith) in
          record { lasts = lasts_after p i (suc i) net _ h move a.lasts; values = known_after p i (suc i) net _ h move a.values }
    ]) refl f

both_start : (p : Csp) → IsCsp p → (o : Option (ℕ × Constraint)) → (start_by p o).refuted ≡ false → Both p (start_by p o)
both_start p ok None f = record { kept = settled_below p ok (count p) (omega arith) f; also = also_below p ok (count p) (omega arith) f }
both_start p ok (Some x) f = cc

-- ---- the facts

requests-asks : (ms : List Message) → requests ms ≡ asks ms
requests-asks [] = refl
requests-asks (Tell s ∷ ms) = requests-asks ms
requests-asks (Refuse step pairs ∷ ms) = requests-asks ms
requests-asks (AddLink ∷ ms) = ap suc (requests-asks ms)

module _ (p : Csp) (net : Network) (h : Kept p (count p) net) (a : Also net) where
  witness_of : (i : ℕ) → (net.agents i).waits ≡ true → Witness net i
  witness_of i w =
      let b = h.backed i w in
      record {
        first = b.first;
        rest = b.rest;
        step = b.step;
        higher = b.higher;
        seen = b.seen;
        state = elim b.there [
          | inl u ↦ inl u
          | inr u ↦ inr (elim u [
            | inl v ↦ at b.first b.rest b.seen v
            | inr v ↦ inr (v.pair, v.named, v.later)
          ])
        ];
      }
    where
      named : (first : ℕ × Stamped) (rest : StampedNogood) → (t : Stamped) × In (lowest first rest, t) (first ∷ rest)
      named first [] = (first.1, inl refl)
      named first (next ∷ rest) = let q = named next rest in (q.0, inr q.1)

      -- the lowest agent waits, with the stamp that is named or a later one
      at : (first : ℕ × Stamped) (rest : StampedNogood) → ((y : ℕ × Stamped) → In y (first ∷ rest) → (net.agents i).view y.0 ≡ Some y.1) → (net.agents (lowest first rest)).waits ≡ true
          → (((net.agents (lowest first rest)).waits ≡ true) × (s : Stamped) × In (lowest first rest, s) (first ∷ rest) × (s.stamp ≡ (net.agents (lowest first rest)).stamp))
          ⊎ (y : ℕ × Stamped) × In y (first ∷ rest) × (y.1.stamp < (net.agents y.0).stamp)
      at first rest seen w =
          let q = named first rest in
          let d = h.dated_views i (lowest first rest) q.0 (seen (lowest first rest, q.0) q.1) in
          elim (dec_lt q.0.stamp (net.agents (lowest first rest)).stamp) [
            | yes l ↦ inr ((lowest first rest, q.0), q.1, l)
            | no g ↦ inl (w, q.0, q.1, let m = d.most in omega arith)
          ]

  some_of : (o : Option Stamped) (v : ℤ) → value_in o ≡ Some v → (s : Stamped) × (o ≡ Some s)
  some_of None v e = cc
  some_of (Some s) v e = (s, refl)

  one : (x y : Bool) (n : ℕ) → n + bit x ≡ bit y → y ≡ true → x ≡ false → n ≡ 1
  one true y n e f g = cc
  one false true n e f g = omega arith
  one false false n e f g = cc

  zero_of : (x y : Bool) (n : ℕ) → n + bit x ≡ bit y → (y ≡ false) ⊎ (x ≡ true) → n ≡ 0
  zero_of true true n e f = omega arith
  zero_of true false n e f = absurd (omega arith)
  zero_of false true n e f = elim f [ inl g ↦ cc | inr g ↦ cc ]
  zero_of false false n e f = omega arith

  invariants_of : Invariants p net
  invariants_of = record {
    present = a.lasts;
    asked = λ i k e f. requests-asks (net.links i k) ∙ one _ _ (asks (net.links i k)) (h.asked i k) e f;
    not_asked = λ i k e. requests-asks (net.links i k) ∙ zero_of _ _ (asks (net.links i k)) (h.asked i k) e;
    not_later = λ k s u. (held_dated p (count p) net h k s u).1;
    positive = λ k s u. (held_dated p (count p) net h k s u).0;
    same_value = λ k s t u v e. sym (a.values.held k s u) ∙ (ap (a.values.history k) e ∙ a.values.held k t v);
    tells_linked = λ k i t. bit_up _ _ (asks (net.links i k)) (sym (h.asked i k)) t;
    view_linked = h.seen;
    record_linked = λ i x u y v. elim ((h.sound i).agreeing x u y v) [ inl e ↦ inl e | inr e ↦ let s = some_of ((net.agents i).view y.var) y.value e in inr (h.seen i y.var s.0 s.1) ];
    announce_told = h.tells_first;
    linked_higher = λ i. (h.sound i).higher;
    witness = witness_of;
    chosen = λ i l w. let c = h.chosen i l w in (c.value, c.is, (h.sound i).in_domain c.value c.is, c.free);
    lowest_here = λ i x u. ((h.sound i).proper x u).others;
    own_value = λ i x u. let q = (h.sound i).proper x u in (q.own, q.has, (q.in_domains (pair_of i q.own) (value_at-In x.pairs i q.own q.has)).value);
    as_seen = λ i. (h.sound i).agreeing;
  }

pub invariants_hold : (p : Csp) → InvariantsHold p
invariants_hold p ok cs f =
    let b = both_run p cs (start p) (both_start p ok (find (λ (x : ℕ × Constraint). is_false x.1) (enumerate_from 0 p.constraints))) f in
    invariants_of p (run p cs (start p)) b.kept b.also
