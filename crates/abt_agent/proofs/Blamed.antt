-- The numbers below one that pass a test.
use Rattle.std.proofs.Common.{◌≡◌, ℕ, zero, suc, ◌+◌, ◌-◌, ◌<◌, ◌≤◌, Bool, true, false, if◌then◌else◌, cond, ◌&&◌, ◌||◌, nat_lt, List, [], ◌∷◌, ◌++◌, filter, length, Option, option_to_list, refl, sym, ap, ◌∙◌, arith}
use Rattle.std.specs.Prelude.{filter_map}
use Rattle.std.proofs.lemmas.Bool.Decides.{nat_tests}
use Rattle.std.proofs.lemmas.List.{append-nil}
use Rattle.std.proofs.lemmas.List.Elements.{filter-append, filter_map-append}
use Rattle.dcsp_defs.specs.Words.{below}
use Rattle.abt_marks.specs.Marks.{has_mark}
use Rattle.abt_parts.proofs.Lists.{one}

-- two tests that agree on the numbers below one
pub filter_below : (p q : ℕ → Bool) (n : ℕ) → ((k : ℕ) → k < n → p k ≡ q k) → filter p (below n) ≡ filter q (below n)
filter_below p q zero same = refl
filter_below p q (suc n) same =
    filter-append p (below n) (n ∷ []) ∙ ap (λ xs. xs ++ filter p (n ∷ [])) (filter_below p q n (λ k l. same k (omega arith)))
    ∙ ap (λ b. filter q (below n) ++ cond b (n ∷ []) []) (same n (omega arith)) ∙ sym (filter-append q (below n) (n ∷ []))

pub low_test : (k bound : ℕ) (b : Bool) → k < bound → (nat_lt k bound && b) ≡ b
low_test k bound b low = let yes : nat_lt k bound ≡ true = grind (arith, nat_tests) in ap (λ x. x && b) yes

-- one number more
pub filter_more : (p : ℕ → Bool) (n : ℕ) → filter p (below (n + 1)) ≡ filter p (below n) ++ (if p n then n ∷ [] else [])
filter_more p n =
    let next : n + 1 ≡ suc n = omega arith in
    ap (λ k. filter p (below k)) next ∙ filter-append p (below n) (n ∷ [])

-- numbers that do not pass are passed over
pub filter_past : (p : ℕ → Bool) (n more : ℕ) → ((k : ℕ) → n ≤ k → k < n + more → p k ≡ false) → filter p (below (n + more)) ≡ filter p (below n)
filter_past p n zero none = let same : n + 0 ≡ n = omega arith in ap (λ k. filter p (below k)) same
filter_past p n (suc more) none =
    let next : n + suc more ≡ n + more + 1 = omega arith in
    let last : p (n + more) ≡ false = none (n + more) (omega arith) (omega arith) in
    ap (λ k. filter p (below k)) next ∙ filter_more p (n + more) ∙ ap (λ b. filter p (below (n + more)) ++ cond b ((n + more) ∷ []) []) last
    ∙ append-nil _ ∙ filter_past p n more (λ k least low. none k least (omega arith))

-- what is told of the numbers that pass, up to the next one
pub told_next : {X : Type 0} → (f : ℕ → Option X) (p : ℕ → Bool) (from next : ℕ) → from ≤ next → ((k : ℕ) → from ≤ k → k < next → p k ≡ false) → p next ≡ true
    → filter_map f (filter p (below (next + 1))) ≡ filter_map f (filter p (below from)) ++ option_to_list (f next)
told_next f p from next after none here =
    let end : from + (next - from) ≡ next = omega arith in
    let past : filter p (below next) ≡ filter p (below from) = ap (λ n. filter p (below n)) (sym end) ∙ filter_past p from (next - from) (λ k least low. none k least (omega arith)) in
    ap (filter_map f) (filter_more p next ∙ ap (λ b. filter p (below next) ++ cond b (next ∷ []) []) here ∙ ap (λ ns. ns ++ next ∷ []) past)
    ∙ filter_map-append f (filter p (below from)) (next ∷ [])
    ∙ ap (λ z. filter_map f (filter p (below from)) ++ z) (one (f next))

-- and where none is left
pub told_end : {X : Type 0} → (f : ℕ → Option X) (p : ℕ → Bool) (from all : ℕ) → from ≤ all → ((k : ℕ) → from ≤ k → k < all → p k ≡ false)
    → filter_map f (filter p (below from)) ≡ filter_map f (filter p (below all))
told_end f p from all within none =
    let end : from + (all - from) ≡ all = omega arith in
    sym (ap (filter_map f) (ap (λ n. filter p (below n)) (sym end) ∙ filter_past p from (all - from) (λ k least low. none k least (omega arith))))

-- the marked agents, where each mark says what a test does of the agents below a bound
pub marked_below : (marks : List Bool) (bound : ℕ) (test : ℕ → Bool) → length marks ≡ bound
    → ((k : ℕ) → has_mark marks k ≡ (nat_lt k bound && test k)) → filter (has_mark marks) (below (length marks)) ≡ filter test (below bound)
marked_below marks bound test size same =
    ap (λ n. filter (has_mark marks) (below n)) size
    ∙ filter_below (has_mark marks) test bound (λ k low. same k ∙ low_test k bound (test k) low)

-- marks gained for some causes and then for others
pub marks_join : (a n x y : Bool) → ((a || (n && x)) || (n && y)) ≡ (a || (n && (x || y)))
marks_join true n x y = refl
marks_join false true x y = refl
marks_join false false x y = refl
