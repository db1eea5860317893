-- A run by its own numbers.
use Rattle.std.proofs.Common.{◌≡◌, ◌≢◌, ℕ, ◌-◌, ◌<◌, ◌≤◌, ◌%◌, Bool, true, false, cond, ◌⊎◌, inl, inr, List, [], ◌∷◌, ◌++◌, length, Some, None, is_some, unwrap_or, slice_get, ◌==◌, refl, sym, ap, ◌∙◌, subst, arith, mod-lt, mod-eq_of_lt}
use Rattle.std.proofs.lemmas.Bool.Decides.{nat_tests, eqb_tells}
use Rattle.dcsp_defs.specs.Csp.{Csp}
use Rattle.abt_defs.specs.Network.{Network, ready, deliver, deliver_at, start, is_empty}
use Rattle.abt_defs.specs.Runs.{End, Refuted, Solved, Capped, Spent, Run, Delivery, stop, stopped, go, delivery, delivery_at, with_delivery}
use Rattle.law_runs.specs.Replay.{Repeats, Replays}

-- a nonempty list has a length
pub not_empty : {X : Type 0} → (xs : List X) → is_empty xs ≡ false → 0 < length xs
not_empty [] h = cc
not_empty (x ∷ xs) h = omega arith

pub remainder_again : (c m : ℕ) → 0 < m → (c % m) % m ≡ c % m
remainder_again c m l = mod-eq_of_lt (mod-lt c l)

-- nothing stops it: it is not refuted, something is in transit, and deliveries are left
pub record Goes (p : Csp) (most : ℕ) (net : Network) : Type 0 where
  pub alive : net.refuted ≡ false
  pub transit : is_empty (ready p net) ≡ false
  pub left : most ≢ 0

pub goes : (p : Csp) (most : ℕ) (net : Network) → is_some (stop p most net) ≡ false → Goes p most net
goes p most net h = by_test net.refuted (is_empty (ready p net)) (most == 0) refl refl refl h
  where
    by_test : (a b c : Bool) → net.refuted ≡ a → is_empty (ready p net) ≡ b → (most == 0) ≡ c → is_some (cond a (Some Refuted) (cond b (Some Solved) (cond c (Some Capped) None))) ≡ false → Goes p most net
    by_test true b c x y z g = cc
    by_test false true c x y z g = cc
    by_test false false true x y z g = cc
    by_test false false false x y z g = record { alive = x; transit = y; left = λ e. let t : (most == 0) ≡ true = grind (arith, nat_tests) in cc }

pub stop_none : (p : Csp) (most : ℕ) (net : Network) → Goes p most net → stop p most net ≡ None
stop_none p most net g = let ne : (most == 0) ≡ false = off most g.left in rw (g.alive, g.transit, ne) refl
  where
    off : (m : ℕ) → m ≢ 0 → (m == 0) ≡ false
    off m n = elim (eqb_tells m 0) [ inl t ↦ absurd (n t.1) | inr t ↦ t.0 ]

-- with no choice left, more deliveries allowed can only turn capped into spent
same_end : (p : Csp) (most more : ℕ) (net : Network) → most ≤ more → (e : End) → e ≡ unwrap_or (stop p most net) Spent → (unwrap_or (stop p more net) Spent ≡ e) ⊎ ((e ≡ Capped) × (unwrap_or (stop p more net) Spent ≡ Spent))
same_end p most more net l e f = by_test net.refuted (is_empty (ready p net)) f
  where
    by_most : (b c : Bool) → (most == 0) ≡ b → (more == 0) ≡ c → e ≡ unwrap_or (cond b (Some Capped) None) Spent → (unwrap_or (cond c (Some Capped) None) Spent ≡ e) ⊎ ((e ≡ Capped) × (unwrap_or (cond c (Some Capped) None) Spent ≡ Spent))
    by_most true true x y g = inl (sym g)
    by_most true false x y g = inr (g, refl)
    by_most false true x y g = absurd (grind (arith, nat_tests))
    by_most false false x y g = inl (sym g)

    by_test : (a b : Bool) → e ≡ unwrap_or (cond a (Some Refuted) (cond b (Some Solved) (cond (most == 0) (Some Capped) None))) Spent → (unwrap_or (cond a (Some Refuted) (cond b (Some Solved) (cond (more == 0) (Some Capped) None))) Spent ≡ e) ⊎ ((e ≡ Capped) × (unwrap_or (cond a (Some Refuted) (cond b (Some Solved) (cond (more == 0) (Some Capped) None))) Spent ≡ Spent))
    by_test true b g = inl (sym g)
    by_test false true g = inl (sym g)
    by_test false false g = by_most (most == 0) (more == 0) refl refl g

pub again : (p : Csp) (most more : ℕ) (cs : List ℕ) (net : Network) → most ≤ more → Repeats (go p most cs net) (go p more (go p most cs net).numbers net)
again p most more [] net l = record { net = refl; left = refl; numbers = refl; trace = refl; end = same_end p most more net l _ refl }
again p most more (c ∷ cs) net l =
    (elim (is_some (stop p most net)) as (λ b. is_some (stop p most net) ≡ b → let r : Run = cond b (stopped p most (c ∷ cs) net) (with_delivery (c % length (ready p net)) (delivery p c net) (go p (most - 1) cs (deliver p c net))) in Repeats r (go p more r.numbers net)) [
      | true ↦ λ e. record { net = refl; left = refl; numbers = refl; trace = refl; end = same_end p most more net l _ refl }
      | false ↦ λ e.
          let g = goes p most net e in
          let n : stop p more net ≡ None = stop_none p more net (record { alive = g.alive; transit = g.transit; left = λ z. let q = g.left in q (omega arith) }) in
          let m : (c % length (ready p net)) % length (ready p net) ≡ c % length (ready p net) = remainder_again c (length (ready p net)) (not_empty (ready p net) g.transit) in
          let d : deliver p (c % length (ready p net)) net ≡ deliver p c net = ap (λ k. deliver_at p (slice_get (ready p net) k) net) m in
          let t : delivery p (c % length (ready p net)) net ≡ delivery p c net = ap (λ k. delivery_at (slice_get (ready p net) k) net) m in
          let ih = again p (most - 1) (more - 1) cs (deliver p c net) (omega arith) in
          let rest = (go p (most - 1) cs (deliver p c net)).numbers in
          let q : Repeats (go p (most - 1) cs (deliver p c net)) (go p (more - 1) rest (deliver p (c % length (ready p net)) net)) = subst (λ (z : Network). Repeats (go p (most - 1) cs (deliver p c net)) (go p (more - 1) rest z)) (sym d) ih in
          rw n (record {
            net = q.net;
            left = q.left;
            numbers = ap (λ k. k ∷ (go p (more - 1) rest (deliver p (c % length (ready p net)) net)).numbers) m ∙ ap (λ z. (c % length (ready p net)) ∷ z) q.numbers;
            trace = ap (λ (z : List Delivery). z ++ (go p (more - 1) rest (deliver p (c % length (ready p net)) net)).trace) t ∙ ap (λ (z : List Delivery). delivery p c net ++ z) q.trace;
            end = q.end;
          })
    ]) refl

pub replays : (p : Csp) → Replays p
replays p most more cs l = again p most more cs (start p) l
