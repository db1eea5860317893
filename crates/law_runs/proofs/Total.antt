-- What was counted is at most the bound.
use Rattle.std.proofs.Common.{◌≡◌, ◌≢◌, ℕ, zero, suc, ◌+◌, ◌-◌, ◌*◌, ◌<◌, ◌≤◌, Bool, true, false, cond, inl, inr, length, nat_lt, Option, Some, None, refl, ap, arith, mul-le-mul_left}
use Rattle.std.proofs.lemmas.Bool.Decides.{nat_tests, eqb_tells, Decides-ltb}
use native.Mathlib.Decide.{dec_lt}
use Rattle.dcsp_defs.specs.Words.{sum_below}
use Rattle.dcsp_defs.specs.Csp.{Csp, domain, count}
use Rattle.abt_defs.specs.Agents.{Stamped, shares}
use Rattle.abt_defs.specs.Network.{Network}
use Rattle.abt_defs.specs.Bound.{product_below, message_bound}
use Rattle.law_agent.proofs.Facts.{bit, asks, Kept}
use Rattle.law_runs.proofs.Sums.{how_many-all, sum-add, sum-same, sum-le, sum-cut}
use Rattle.law_runs.proofs.Counts.{Counted, marked, stamp_in}

-- no term is above the sum
sum-term : (f : ℕ → ℕ) (i n : ℕ) → i < n → f i ≤ sum_below f n
sum-term f i zero l = absurd (omega arith)
sum-term f i (suc n) l = elim (eqb_tells i n) [
  | inl t ↦ let e : f i ≡ f n = ap f t.1 in omega arith
  | inr t ↦ let ne : i ≢ n = t.1 in let r = sum-term f i n (omega arith) in omega arith
]

-- where nothing stands up to k, and at most c at each place above
sum-above : (f : ℕ → ℕ) (k c n : ℕ) → ((j : ℕ) → j ≤ k → f j ≡ 0) → ((j : ℕ) → f j ≤ c) → sum_below f n ≤ (n - 1 - k) * c
sum-above f k c zero z h = omega arith
sum-above f k c (suc n) z h = elim (dec_lt k n) [
  | yes l ↦
      let r = sum-above f k c n z h in let b = h n in
      let e : suc n - 1 - k ≡ (n - 1 - k) + 1 = omega arith in
      rw e (omega arith)
  | no g ↦
      let r = sum-above f k c n z h in let b = z n (omega arith) in
      let e : suc n - 1 - k ≡ 0 = omega arith in let d : n - 1 - k ≡ 0 = omega arith in
      let r2 : sum_below f n ≤ 0 * c = rw d at r in
      rw e (omega arith)
]

module _ (p : Csp) (s : ℕ) (net : Network) (h : Kept p s net) (c : Counted p net) where
  none_up : (k j : ℕ) → j ≤ k → c.told k j ≡ 0
  none_up k j l = c.untold k j (off ((net.agents k).tells j) ((net.agents j).linked k) (h.asked j k) (λ e. (h.sound j).higher k e))
    where
      off : (x y : Bool) → asks (net.links j k) + bit x ≡ bit y → (y ≡ true → k < j) → x ≡ false
      off true true e f = let u = f refl in absurd (omega arith)
      off true false e f = absurd (omega arith)
      off false y e f = refl

  -- how many values the agent took
  taken : ℕ → ℕ
  taken i = (net.agents i).stamp

  changes_by : (i : ℕ) → c.changes i ≤ sum_below taken i
  unfolding taken
  changes_by i =
      let a = c.changed i in
      let d = sum-le (λ k. stamp_in ((net.agents i).view k)) (λ k. (net.agents k).stamp) i (λ k l. at k ((net.agents i).view k) refl) in
      omega arith
    where
      at : (k : ℕ) (o : Option Stamped) → (net.agents i).view k ≡ o → stamp_in o ≤ (net.agents k).stamp
      at k None e = omega arith
      at k (Some t) e = (h.dated_views i k t e).most

  taken_at : (i : ℕ) → c.changes i + 1 ≤ product_below p i → taken i ≤ length (domain p i) * product_below p i
  unfolding taken
  taken_at i l =
      let t = c.takes i in
      let m : marked p i (net.agents i) ≤ length (domain p i) = how_many-all _ (domain p i) in
      let q : length (domain p i) * (c.changes i + 1) ≤ length (domain p i) * product_below p i = mul-le-mul_left (length (domain p i)) l in
      omega arith

  product_covers : (i : ℕ) → sum_below taken i + 1 ≤ product_below p i
  product_covers zero = omega arith
  product_covers (suc i) =
      let r = product_covers i in
      let b = changes_by i in
      let t = taken_at i (omega arith) in
      omega arith

  changes_most : (i : ℕ) → c.changes i + 1 ≤ product_below p i
  changes_most i = let r = product_covers i in let b = changes_by i in omega arith

  new_links : ℕ → ℕ → ℕ
  new_links k j = cond (nat_lt j k) (cond (shares p k j) 0 1) 0

  sent_at : (k j : ℕ) → c.done k j + length (net.links k j) ≤ c.told k j + c.refused k j + cond (nat_lt j k) (cond (shares p k j) 0 1) 0
  sent_at k j =
      let f = c.flow k j in
      let q : bit ((net.agents k).linked j) ≤ bit (shares p k j) + cond (nat_lt j k) (cond (shares p k j) 0 1) 0 = linked_most ((net.agents k).linked j) (shares p k j) (nat_lt j k) (λ e. (Decides-ltb j k).1 ((h.sound k).higher j e)) in
      omega arith
    where
      linked_most : (x y z : Bool) → (x ≡ true → z ≡ true) → bit x ≤ bit y + cond z (cond y 0 1) 0
      linked_most false y z g = omega arith
      linked_most true true z g = omega arith
      linked_most true false z g = let e = g refl in rw e (omega arith)

  row : (k : ℕ) → k < count p → sum_below (λ j. c.done k j + length (net.links k j)) (count p)
      ≤ sum_below (λ j. cond (shares p k j) 0 1) k + ((count p - 1 - k) * length (domain p k) * product_below p k + (product_below p k - 1))
  unfolding taken
  row k l =
      let n = count p in
      let new : ℕ → ℕ = λ j. cond (nat_lt j k) (cond (shares p k j) 0 1) 0 in
      let a : sum_below (λ j. c.done k j + length (net.links k j)) (count p) ≤ sum_below (λ j. c.told k j + c.refused k j + cond (nat_lt j k) (cond (shares p k j) 0 1) 0) (count p) = sum-le _ _ (count p) (λ j u. sent_at k j) in
      let b1 = sum-add (λ j. c.told k j + c.refused k j) (λ j. cond (nat_lt j k) (cond (shares p k j) 0 1) 0) (count p) in
      let b2 = sum-add (c.told k) (c.refused k) (count p) in
      let t = sum-above (c.told k) k (taken k) (count p) (none_up k) (c.fewer k) in
      let g = c.refusals k in
      let cm = changes_most k in
      let tk : (count p - 1 - k) * taken k ≤ (count p - 1 - k) * (length (domain p k) * product_below p k) = mul-le-mul_left (count p - 1 - k) (taken_at k cm) in
      let z1 : sum_below (λ j. cond (nat_lt j k) (cond (shares p k j) 0 1) 0) (count p) ≤ sum_below (λ j. cond (nat_lt j k) (cond (shares p k j) 0 1) 0) k = sum-cut _ k (count p) (λ j u. let f : nat_lt j k ≡ false = grind (arith, nat_tests) in rw f refl) in
      let z2 : sum_below (λ j. cond (nat_lt j k) (cond (shares p k j) 0 1) 0) k ≤ sum_below (λ j. cond (shares p k j) 0 1) k = sum-le _ _ k (λ j u. let f : nat_lt j k ≡ true = grind (arith, nat_tests) in rw f (omega arith)) in
      omega arith

  -- with what is in transit from one agent to another, the deliveries are at most the bound
  pub within : (k i : ℕ) → k < count p → i < count p → net.deliveries + length (net.links k i) ≤ message_bound p
  within k i lk li =
      let t = c.total in
      let all = λ (f : ℕ → ℕ → ℕ). sum_below (λ k. sum_below (f k) (count p)) (count p) in
      let a = sum-term (net_length k) i (count p) li in
      let b = sum-term (λ k. sum_below (net_length k) (count p)) k (count p) lk in
      let d : sum_below (λ k. sum_below (λ j. c.done k j + length (net.links k j)) (count p)) (count p) ≡ sum_below (λ k. sum_below (c.done k) (count p) + sum_below (net_length k) (count p)) (count p) = sum-same _ _ (count p) (λ k l. sum-add (c.done k) (net_length k) (count p)) in
      let e = sum-add (λ k. sum_below (c.done k) (count p)) (λ k. sum_below (net_length k) (count p)) (count p) in
      let f = sum-le (λ k. sum_below (λ j. c.done k j + length (net.links k j)) (count p)) (λ k. sum_below (λ j. cond (shares p k j) 0 1) k + ((count p - 1 - k) * length (domain p k) * product_below p k + (product_below p k - 1))) (count p) row in
      let g = sum-add (λ k. sum_below (λ j. cond (shares p k j) 0 1) k) (λ k. (count p - 1 - k) * length (domain p k) * product_below p k + (product_below p k - 1)) (count p) in
      omega arith
    where
      net_length : ℕ → ℕ → ℕ
      net_length k j = length (net.links k j)
