-- The steps that are chosen, and their new numbers.
use Rattle.std.proofs.Common.{◌≡◌, ℕ, zero, suc, ◌+◌, ◌≤◌, ◌==◌, Bool, true, false, cond, List, [], ◌∷◌, ◌++◌, length, map, take, slice_get, Some, inl, inr, refl, sym, ap, ◌∙◌, arith}
use Rattle.std.proofs.lemmas.List.{map-append}
use Rattle.std.proofs.lemmas.Bool.{eq-eqb}
use Rattle.std.specs.Prelude.{slice_index_or}
use Rattle.dcsp_defs.specs.declared.Reason.{Reason}
use Rattle.dcsp_defs.specs.declared.Reason.TheVariants.{Rule, Earlier}
use Rattle.dcsp_defs.specs.declared.Step.{Step}
use Rattle.dcsp_defs.proofs.Lists.{or_left, or_right}
use Rattle.ngd_check.proofs.Once.{compared}
use Rattle.ngd_check.proofs.Growing.{index_before, index_last}
use Rattle.ngd_rewrite.specs.Needed.{cites, renumbered_reason, renumbered, chosen, count_to}
use Rattle.ngd_rewrite.specs.Marks.{number_in}

pub take_next : {X : Type 0} (xs : List X) (k : ℕ) (x : X) → slice_get xs k ≡ Some x → take (suc k) xs ≡ take k xs ++ x ∷ []
take_next [] k x h = cc
take_next (y ∷ ys) zero x h = let e : y ≡ x = cc in ap (λ z. z ∷ []) e
take_next (y ∷ ys) (suc k) x h = ap (λ zs. y ∷ zs) (take_next ys k x h)

pub length_take : {X : Type 0} (xs : List X) (k : ℕ) → k ≤ length xs → length (take k xs) ≡ k
length_take xs zero l = refl
length_take [] (suc k) l = absurd (omega arith)
length_take (y ∷ ys) (suc k) l = ap suc (length_take ys k (omega arith))

pub no_more : {X : Type 0} (xs : List X) → xs ++ [] ≡ xs
no_more [] = refl
no_more (x ∷ xs) = ap (λ (zs : List _). x ∷ zs) (no_more xs)

-- one step more
chosen_more : (test : ℕ → Bool) (number : ℕ) (xs : List Step) (x : Step) → chosen test number (xs ++ x ∷ []) ≡ chosen test number xs ++ cond (test (number + length xs)) (x ∷ []) []
chosen_more test number [] x = let e : number + 0 ≡ number = omega arith in rw e refl
chosen_more test number (y ∷ ys) x =
    let e : number + suc (length ys) ≡ suc number + length ys = omega arith in
    rw e (by_test (test number) (chosen_more test (suc number) ys x))
  where
    by_test : (b : Bool) → chosen test (suc number) (ys ++ x ∷ []) ≡ chosen test (suc number) ys ++ cond (test (suc number + length ys)) (x ∷ []) [] → cond b (y ∷ chosen test (suc number) (ys ++ x ∷ [])) (chosen test (suc number) (ys ++ x ∷ [])) ≡ cond b (y ∷ chosen test (suc number) ys) (chosen test (suc number) ys) ++ cond (test (suc number + length ys)) (x ∷ []) []
    by_test true h = ap (λ (zs : List Step). y ∷ zs) h
    by_test false h = h

pub chosen_next : (test : ℕ → Bool) (steps : List Step) (place : ℕ) (s : Step) → place ≤ length steps → slice_get steps place ≡ Some s → chosen test 1 (take (suc place) steps) ≡ chosen test 1 (take place steps) ++ cond (test (suc place)) (s ∷ []) []
chosen_next test steps place s l there =
    let e : 1 + length (take place steps) ≡ suc place = omega (arith, length_take steps place l) in
    ap (chosen test 1) (take_next steps place s there) ∙ (chosen_more test 1 (take place steps) s ∙ ap (λ n. chosen test 1 (take place steps) ++ cond (test n) (s ∷ []) []) e)

-- how many are chosen
length_chosen : (test : ℕ → Bool) (k : ℕ) (xs : List Step) → length (chosen test (suc k) xs) + count_to test k ≡ count_to test (k + length xs)
length_chosen test k [] = let e : k + 0 ≡ k = omega arith in rw e (omega arith)
length_chosen test k (x ∷ xs) =
    let e : k + suc (length xs) ≡ suc k + length xs = omega arith in
    rw e (by_test (test (suc k)) (length_chosen test (suc k) xs))
  where
    by_test : (b : Bool) → length (chosen test (suc (suc k)) xs) + (count_to test k + cond b 1 0) ≡ count_to test (suc k + length xs) → length (cond b (x ∷ chosen test (suc (suc k)) xs) (chosen test (suc (suc k)) xs)) + count_to test k ≡ count_to test (suc k + length xs)
    by_test true h = omega (arith, h)
    by_test false h = omega (arith, h)

pub chosen_count : (test : ℕ → Bool) (xs : List Step) → length (chosen test 1 xs) ≡ count_to test (length xs)
chosen_count test xs =
    let e : 0 + length xs ≡ length xs = omega arith in
    let h : length (chosen test 1 xs) + 0 ≡ count_to test (length xs) = length_chosen test 0 xs ∙ ap (count_to test) e in
    omega (arith, h)

reasons_same : (f g : ℕ → ℕ) (rs : List Reason) → ((n : ℕ) → cites rs n ≡ true → f n ≡ g n) → map (renumbered_reason f) rs ≡ map (renumbered_reason g) rs
reasons_same f g [] h = refl
reasons_same f g (Rule r ∷ rs) h = ap (λ (xs : List Reason). Rule r ∷ xs) (reasons_same f g rs h)
reasons_same f g (Earlier n ∷ rs) h =
    let here : f n ≡ g n = h n (or_left (n == n) (cites rs n) (eq-eqb n n refl)) in
    ap (λ k. Earlier k ∷ map (renumbered_reason f) rs) here ∙ ap (λ (xs : List Reason). Earlier (g n) ∷ xs) (reasons_same f g rs (λ k c. h k (or_right (k == n) (cites rs k) c)))

-- the new numbers of cited steps alone matter
pub renumbered_same : (f g : ℕ → ℕ) (s : Step) → ((n : ℕ) → cites s.reasons n ≡ true → f n ≡ g n) → renumbered f s ≡ renumbered g s
renumbered_same f g s h = ap (λ (rs : List Reason). record { variable = s.variable; nogood = s.nogood; reasons = rs }) (reasons_same f g s.reasons h)

-- a table of numbers with one more
pub numbers_more : (nums : List ℕ) (x : ℕ) (count : ℕ → ℕ) (place : ℕ) → length nums ≡ place → ((n : ℕ) → n ≤ place → number_in nums n ≡ count n) → x ≡ count (suc place) → (n : ℕ) → n ≤ suc place → number_in (nums ++ x ∷ []) n ≡ count n
numbers_more nums x count place as_many h last n l = elim (compared n (suc place)) [
  | inl less ↦ before n (omega arith) ∙ h n (omega arith)
  | inr r ↦ elim r [
    | inl e ↦ rw e (ap (λ k. slice_index_or (nums ++ x ∷ []) k 0) (sym as_many) ∙ (index_last nums x 0 ∙ last))
    | inr more ↦ absurd (omega (arith, l, more))
  ]
]
  where
    before : (n : ℕ) → n ≤ place → number_in (nums ++ x ∷ []) n ≡ number_in nums n
    before zero l = refl
    before (suc k) l = index_before nums x 0 k (omega (arith, as_many))

-- the trimmed steps with one step more
pub trimmed_next : (f : ℕ → ℕ) (test : ℕ → Bool) (steps : List Step) (place : ℕ) (s : Step) (old new : List Step) → place ≤ length steps → slice_get steps place ≡ Some s → old ≡ map (renumbered f) (chosen test 1 (take place steps)) → new ≡ old ++ cond (test (suc place)) (renumbered f s ∷ []) [] → new ≡ map (renumbered f) (chosen test 1 (take (suc place) steps))
trimmed_next f test steps place s old new l there before e =
    e ∙ (ap (λ (xs : List Step). xs ++ cond (test (suc place)) (renumbered f s ∷ []) []) before ∙ sym (ap (map (renumbered f)) (chosen_next test steps place s l there) ∙ (map-append (renumbered f) (chosen test 1 (take place steps)) (cond (test (suc place)) (s ∷ []) []) ∙ ap (λ (xs : List Step). map (renumbered f) (chosen test 1 (take place steps)) ++ xs) (by_test (test (suc place))))))
  where
    by_test : (b : Bool) → map (renumbered f) (cond b (s ∷ []) []) ≡ cond b (renumbered f s ∷ []) []
    by_test true = refl
    by_test false = refl
