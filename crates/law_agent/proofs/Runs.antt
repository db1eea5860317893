-- What is kept holds after the start, and after each delivery.
use Rattle.std.proofs.Common.{◌≡◌, ◌≢◌, ℕ, zero, suc, ◌+◌, ◌<◌, ◌≤◌, Bool, true, false, cond, not, ◌&&◌, ◌⊎◌, inl, inr, List, [], ◌∷◌, ◌++◌, map, find, flat_map, ◌==◌, Option, Some, None, refl, sym, ap, ◌∙◌, subst, arith, append-nil, length, slice_get, ◌%◌}
use Rattle.std.specs.List.{list_any, enumerate_from}
use Rattle.std.proofs.lemmas.Bool.Decides.{nat_tests, eqb_tells}
use Rattle.dcsp_defs.specs.Words.{In, below}
use Rattle.dcsp_defs.specs.Csp.{Csp, Constraint, count, IsCsp}
use Rattle.abt_defs.specs.Agents.{Agent, Message, Tell, Refuse, AddLink, shares}
use Rattle.abt_defs.specs.Steps.{Outcome, settle, receive}
use Rattle.dcsp_defs.specs.Csp.{owns}
use Rattle.abt_defs.specs.Network.{Network, sent_to, refutes, acted, left, next_number, deliver_head, deliver_at, deliver, ready, run, start, empty_network, settle_below, is_false, start_by, pairs}
use Rattle.dcsp_defs.proofs.Lists.{In-split, In-below, In-list_any, list_any-In, and_left, and_right, and_both, get-In, filter-from}
use Rattle.law_agent.proofs.Owners.{owner_in, owner_greatest}
use Rattle.law_agent.proofs.Settles.{settles, rests}
use Rattle.law_agent.proofs.Facts.{asks, bit, Sound, Chosen, Acts, Kept}
use Rattle.law_agent.proofs.Moves.{Moves, kept_after, bit_up}
use Rattle.law_agent.proofs.Receives.{Done, Takes, only, then, receives, IsExpected}

-- nobody acts
pub idle : (p : Csp) (i : ℕ) (a : Agent) → Acts p i a a (λ k. []) (λ j. [])
idle p i a = record {
  view_from = λ k s e. inl e;
  view_up = λ k s e. (s, e, omega arith);
  hears = λ k s u. absurd u;
  heeds = λ k step pairs u. absurd u;
  linked = λ k. omega arith;
  tells = λ j. omega arith;
  ages = inl (refl, refl);
  told = λ j v t e. inl (t, e, refl);
  announced = λ j s u. absurd u;
  sees = λ j step pairs u. absurd u;
  fine = λ j m u. absurd u;
  why = λ w. inl (w, λ k. refl);
  wakes = λ w. inl w;
}

-- Agent i acts in the network, from whose lists came was taken.
module _ (p : Csp) (s r i : ℕ) (net : Network) (h : Kept p s net) (links : ℕ → ℕ → List Message) (d : ℕ) (o : Outcome) (came : ℕ → List Message)
    (before : (k j : ℕ) → net.links k j ≡ cond (j == i) (came k) [] ++ links k j)
    (done : Done p i (net.agents i) o.agent came (λ j. sent_to j o.sent))
    (others : (j : ℕ) → j < r → j ≢ i → j < s)
    (in_range : i < r) where
  new : Network
  new = acted i o (record net { links = links; deliveries = d })

  pub acts_at : (j : ℕ) → Acts p j (net.agents j) ((acted i o (record net { links = links; deliveries = d })).agents j) (λ k. cond (j == i) (came k) []) (λ k. cond (j == i) (sent_to k o.sent) [])
  acts_at j = elim (eqb_tells j i) [
    | inl t ↦ rw t.0 (subst (λ (x : ℕ). Acts p x (net.agents x) o.agent came (λ k. sent_to k o.sent)) (sym t.1) done.acts)
    | inr t ↦ rw t.0 (idle p j (net.agents j))
  ]

  unfoldable pub moved : Moves p r net (acted i o (record net { links = links; deliveries = d }))
  moved = record {
    came = λ k j. cond (j == i) (came k) [];
    mid = links;
    went = λ k j. cond (k == i) (sent_to j o.sent) [];
    before = before;
    after = λ k j. elim (k == i) as (λ b. cond b (links k j ++ sent_to j o.sent) (links k j) ≡ links k j ++ cond b (sent_to j o.sent) []) [ true ↦ refl | false ↦ sym (append-nil (links k j)) ];
    acts = acts_at;
    sound = λ j. elim (eqb_tells j i) [
      | inl t ↦ rw t.0 (subst (λ (x : ℕ). Sound p x o.agent) (sym t.1) done.sound)
      | inr t ↦ rw t.0 (h.sound j)
    ];
    chosen = λ j l. elim (eqb_tells j i) [
      | inl t ↦ rw t.0 (subst (λ (x : ℕ). o.agent.waits ≡ false → Chosen p x o.agent) (sym t.1) done.chosen)
      | inr t ↦ rw t.0 (h.chosen j (others j l t.1))
    ];
    started = λ k j m u. elim (eqb_tells j i) [
      | inl t ↦ let e = t.1 in omega arith
      | inr t ↦ absurd (rw t.0 at u)
    ];
  }

-- ---- a delivery

pub expected : (p : Csp) (s : ℕ) (net : Network) (k i : ℕ) (m : Message) (rest : List Message) (hs : Sound p i (net.agents i)) (l : i < count p) → Kept p s net → net.links k i ≡ m ∷ rest → IsExpected p i (net.agents i) hs l k m
expected p s net k i (Tell t) rest hs l h e =
    let t : (net.agents k).tells i ≡ true = h.tells_first k i t (subst (In (Tell t)) (sym e) (inl refl)) in
    (h.sound i).higher k (bit_up _ _ (asks (net.links i k)) (sym (h.asked i k)) t)
expected p s net k i (Refuse step pairs) rest hs l h e = tt
expected p s net k i AddLink rest hs l h e =
    let q = h.asked k i in let n : asks (net.links k i) ≡ suc (asks rest) = ap asks e in
    none ((net.agents i).tells k) ((net.agents k).linked i) (asks rest) (let z : suc (asks rest) + bit ((net.agents i).tells k) ≡ bit ((net.agents k).linked i) = omega arith in z)
  where
    none : (x y : Bool) (n : ℕ) → suc n + bit x ≡ bit y → x ≡ false
    none true true n z = absurd (omega arith)
    none true false n z = absurd (omega arith)
    none false y n z = refl

-- the lists before the head is taken
pub split_at : (net : Network) (k i : ℕ) (m : Message) (rest : List Message) → net.links k i ≡ m ∷ rest → (x j : ℕ) → net.links x j ≡ cond (j == i) (cond (x == k) (m ∷ []) []) [] ++ (left k i rest net).links x j
split_at net k i m rest e x j = elim (eqb_tells j i) [
  | inl t ↦ elim (eqb_tells x k) [
    | inl u ↦ let q : net.links x j ≡ m ∷ rest = ap (λ z. net.links z j) u.1 ∙ ap (net.links k) t.1 ∙ e in rw (u.0, t.0) q
    | inr u ↦ rw (t.0, u.0) refl
  ]
  | inr t ↦ elim (eqb_tells x k) [
    | inl u ↦ rw (u.0, t.0) (ap (λ z. net.links z j) u.1)
    | inr u ↦ rw (t.0, u.0) refl
  ]
]

pub delivered : (p : Csp) (net : Network) (k i : ℕ) (ms : List Message) → i < count p → Kept p (count p) net → net.links k i ≡ ms → (deliver_head p k i ms net).refuted ≡ false ⊎ (ms ≡ []) → Kept p (count p) (deliver_head p k i ms net)
delivered p net k i [] l h e f = h
delivered p net k i (m ∷ rest) l h e (inr f) = cc
delivered p net k i (m ∷ rest) l h e (inl f) =
    kept_after p (count p) (count p) net _ h
    (moved p (count p) (count p) i net h (left k i rest net).links (left k i rest net).deliveries (receive p i (next_number net) (net.agents i) k m) (only k m) (split_at net k i m rest e)
    (receives p i (net.agents i) (h.sound i) l k (next_number net) m (h.fine k i m (subst (In m) (sym e) (inl refl))) (expected p (count p) net k i m rest (h.sound i) l h e) (h.chosen i l) f)
    (λ j x y. x) l)

delivered_at : (p : Csp) (net : Network) (o : Option (ℕ × ℕ)) → ((x : ℕ × ℕ) → o ≡ Some x → x.1 < count p) → Kept p (count p) net → net.refuted ≡ false → (deliver_at p o net).refuted ≡ false → Kept p (count p) (deliver_at p o net)
delivered_at p net None l h g f = h
delivered_at p net (Some x) l h g f = delivered p net x.0 x.1 (net.links x.0 x.1) (l x refl) h refl (inl f)

-- each pair is of agents of the problem
In-map_pair : (k : ℕ) (x : ℕ × ℕ) (xs : List ℕ) → In x (map (λ i. (k, i)) xs) → In x.1 xs × (x.0 ≡ k)
In-map_pair k x [] h = absurd h
In-map_pair k x (y ∷ ys) (inl e) = (inl (ap (λ (t : ℕ × ℕ). t.1) e), ap (λ (t : ℕ × ℕ). t.0) e)
In-map_pair k x (y ∷ ys) (inr h) = let r = In-map_pair k x ys h in (inr r.0, r.1)

pub In-pairs : (n : ℕ) (x : ℕ × ℕ) (ks : List ℕ) → In x (flat_map (λ k. map (λ i. (k, i)) (below n)) ks) → In x.1 (below n) × In x.0 ks
In-pairs n x [] h = absurd h
In-pairs n x (k ∷ ks) h = elim (In-split x (map (λ i. (k, i)) (below n)) _ h) [
  | inl u ↦ let r = In-map_pair k x (below n) u in (r.0, inl r.1)
  | inr u ↦ let r = In-pairs n x ks u in (r.0, inr r.1)
]

pub delivers : (p : Csp) (c : ℕ) (net : Network) → Kept p (count p) net → net.refuted ≡ false → (deliver p c net).refuted ≡ false → Kept p (count p) (deliver p c net)
delivers p c net h g f = delivered_at p net (slice_get (ready p net) (c % length (ready p net))) inside h g f
  where
    inside : (x : ℕ × ℕ) → slice_get (ready p net) (c % length (ready p net)) ≡ Some x → x.1 < count p
    inside x e = In-below (count p) x.1 (In-pairs (count p) x (below (count p)) (filter-from _ x (pairs (count p)) (get-In (ready p net) _ x e)).0).0

pub runs : (p : Csp) (cs : List ℕ) (net : Network) → (net.refuted ≡ false → Kept p (count p) net) → (run p cs net).refuted ≡ false → Kept p (count p) (run p cs net)
runs p [] net h f = h f
runs p (c ∷ cs) net h f = (elim net.refuted as (λ b. net.refuted ≡ b → (cond b net (run p cs (deliver p c net))).refuted ≡ false → Kept p (count p) (cond b net (run p cs (deliver p c net)))) [
  | true ↦ λ e g. let z : true ≡ false = sym e ∙ g in cc
  | false ↦ λ e g. runs p cs (deliver p c net) (delivers p c net (h e) e) g
]) refl f

-- ---- the start

no_shares_up : (p : Csp) → IsCsp p → (i k : ℕ) → shares p i k ≡ true → k < i
no_shares_up p ok i k h =
    let ne : not (k == i) ≡ true = and_left _ _ h in
    let r = In-list_any (λ (r : Constraint). owns i r && list_any (λ x. k == x) r.scope) p.constraints (and_right _ _ h) in
    let q = In-list_any (λ x. k == x) r.0.scope (and_right _ _ r.2) in
    let t = owner_greatest p ok i q.0 r.0 r.1 (and_left _ _ r.2) q.1 in
    elim (eqb_tells k i) [
      | inl e ↦ let z : not (k == i) ≡ false = ap not e.0 in cc
      | inr e ↦ apart (q.0) q.2 t e.1
    ]
  where
    apart : (x : ℕ) → (k == x) ≡ true → x ≤ i → k ≢ i → k < i
    apart x e t n = grind (arith, nat_tests)

pub start_kept : (p : Csp) → IsCsp p → Kept p 0 (empty_network p)
start_kept p ok = record {
  present = λ k i v t e. cc;
  asked = λ i k. omega arith;
  tells_first = λ k i s u. absurd u;
  seen = λ i k s e. cc;
  fine = λ k j m u. absurd u;
  dated_views = λ i k s e. cc;
  dated = λ k j m u. absurd u;
  sound = λ i. record {
    in_domain = λ v e. cc;
    stamped = λ v e. cc;
    in_view = λ k s e. cc;
    proper = λ x u. absurd u;
    agreeing = λ x u. absurd u;
    distinct = tt;
    higher = λ k h. no_shares_up p ok i k h;
    constraints = λ c h o k g. elim (eqb_tells k i) [
      | inl t ↦ inl t.1
      | inr t ↦ inr (and_both _ _ (ap not t.0) (list_any-In (λ (c : Constraint). owns i c && list_any (λ x. k == x) c.scope) c p.constraints h (and_both _ _ o (list_any-In (λ x. k == x) k c.scope g (grind (arith, nat_tests))))))
    ];
    lower = λ j h.
        let r = In-list_any (λ (c : Constraint). owns j c && list_any (λ x. i == x) c.scope) p.constraints (and_right _ _ h) in
        (ok.constraints r.0 r.1).inside j (owner_in j r.0 (and_left _ _ r.2));
  };
  backed = λ i h. cc;
  chosen = λ i l h. absurd (omega arith);
}

-- an agent settles, and takes no message
pub settled : (p : Csp) (i : ℕ) (l : i < count p) (a : Agent) → Sound p i a → (number : ℕ) → refutes (settle p i number a).step ≡ false → Done p i a (settle p i number a).agent (λ k. []) (λ j. sent_to j (settle p i number a).sent)
settled p i l a h number r =
    let s = settles p i l a h number in
    let q = rests p i l a h number r in
    record {
      acts = then p i l a a _ (λ k. []) (λ j. []) _ (nothing p i a h) s (λ w. inr (q.sends w));
      sound = s.sound;
      chosen = q.chosen;
    }
  where
    nothing : (p : Csp) (i : ℕ) (a : Agent) → Sound p i a → Takes p i a a (λ k. []) (λ j. [])
    nothing p i a h = record {
      view_from = λ k s e. inl e;
      view_up = λ k s e. (s, e, omega arith);
      hears = λ k s u. absurd u;
      heeds = λ k step pairs u. absurd u;
      linked = λ k. omega arith;
      no_asks = λ j. refl;
      only_asks = λ j m u. absurd u;
      value = refl;
      stamp = refl;
      waits = refl;
      tells = refl;
      sound = h;
    }

pub settled_below : (p : Csp) → IsCsp p → (n : ℕ) → n ≤ count p → (settle_below p n (empty_network p)).refuted ≡ false → Kept p n (settle_below p n (empty_network p))
settled_below p ok zero l f = start_kept p ok
settled_below p ok (suc i) l f =
    let net = settle_below p i (empty_network p) in
    (elim net.refuted as (λ b. net.refuted ≡ b → (cond b net (acted i (settle p i (next_number net) (net.agents i)) net)).refuted ≡ false → Kept p (suc i) (cond b net (acted i (settle p i (next_number net) (net.agents i)) net))) [
      | true ↦ λ e g. let z : true ≡ false = sym e ∙ g in cc
      | false ↦ λ e g.
          let h = settled_below p ok i (omega arith) e in
          kept_after p i (suc i) net _ h (moved p i (suc i) i net h net.links net.deliveries (settle p i (next_number net) (net.agents i)) (λ k. [])
          (λ k j. elim (j == i) as (λ b. net.links k j ≡ cond b [] [] ++ net.links k j) [ true ↦ refl | false ↦ refl ])
          (settled p i (omega arith) (net.agents i) (h.sound i) (next_number net) g)
          (λ j x y. omega arith) (omega arith))
    ]) refl f

started_by : (p : Csp) → IsCsp p → (o : Option (ℕ × Constraint)) → (start_by p o).refuted ≡ false → Kept p (count p) (start_by p o)
started_by p ok None f = settled_below p ok (count p) (omega arith) f
started_by p ok (Some x) f = cc

pub started : (p : Csp) → IsCsp p → (start p).refuted ≡ false → Kept p (count p) (start p)
started p ok f = started_by p ok (find (λ (x : ℕ × Constraint). is_false x.1) (enumerate_from 0 p.constraints)) f
