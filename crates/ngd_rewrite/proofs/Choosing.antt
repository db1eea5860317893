-- The needed steps by their places.
use Rattle.std.proofs.Common.{◌≡◌, ℕ, zero, suc, ◌+◌, ◌<◌, ◌≤◌, Bool, true, false, cond, List, [], ◌∷◌, ◌++◌, ◌||◌, length, map, take, drop, get_or, set, slice_get, Some, refl, sym, ap, ◌∙◌, subst, arith, All}
use Rattle.std.specs.Prelude.{filter}
use Rattle.std.proofs.lemmas.List.{map-append}
use Rattle.std.proofs.lemmas.List.Elements.{filter-append}
use Rattle.std.proofs.Math.Seq.{take-length}
use Rattle.std.proofs.lemmas.Option.{slice_get-get_or}
use Rattle.dcsp_defs.specs.declared.Reason.{Reason}
use Rattle.dcsp_defs.specs.declared.Reason.TheVariants.{Rule, Earlier}
use Rattle.dcsp_defs.specs.declared.Step.{Step}
use Rattle.dcsp_defs.specs.Words.{In, below}
use Rattle.dcsp_problem.proofs.RisingNumbers.{In-filter_below}
use Rattle.ngd_check.specs.Places.{no_step}
use Rattle.ngd_check.proofs.Zips.{in_all}
use Rattle.ngd_rewrite.specs.Needed.{renumbered_reason, renumbered, chosen, count_to, cites_rule, names_rule}
use Rattle.ngd_rewrite.specs.Marks.{has_mark, is_marked, number_in, CiteBack, renumbered_at, steps_at}
use Rattle.ngd_rewrite.proofs.Trimming.{renumbered_same, chosen_next}

-- marked places are places
pub marked_below : (q : ℕ → Bool) (n m : ℕ) (xs : List ℕ) → n ≡ m → xs ≡ filter q (below n) → All (λ place. place < m) xs
marked_below q n m xs e f = in_all (λ place. place < m) xs (λ place i. subst (λ k. place < k) e (In-filter_below q n place (subst (λ (ys : List ℕ). In place ys) f i)).0)

-- the steps at the marked places are those that are chosen
module _ (steps : List Step) (marks : List Bool) (numbers : List ℕ) (back : CiteBack steps) (as_many : length marks ≡ length steps) (counted : (number : ℕ) → number ≤ length marks → number_in numbers number ≡ count_to (is_marked marks) number) where
  up_to : (n : ℕ) → n ≤ length steps → map (renumbered_at steps numbers) (filter (has_mark marks) (below n)) ≡ map (renumbered (count_to (is_marked marks))) (chosen (is_marked marks) 1 (take n steps))
  up_to zero l = refl
  up_to (suc n) l =
      let s = get_or steps n no_step in
      let there : slice_get steps n ≡ Some s = slice_get-get_or steps n no_step (omega (arith, l)) in
      let f = count_to (is_marked marks) in
      let same : renumbered_at steps numbers n ≡ renumbered f s = renumbered_same (number_in numbers) f s (λ k c. counted k (let w = (back n s there k c).within in omega (arith, w, l, as_many))) in
      ap (map (renumbered_at steps numbers)) (filter-append (has_mark marks) (below n) (n ∷ []))
      ∙ (map-append (renumbered_at steps numbers) (filter (has_mark marks) (below n)) (filter (has_mark marks) (n ∷ []))
      ∙ (ap (λ (xs : List Step). xs ++ map (renumbered_at steps numbers) (filter (has_mark marks) (n ∷ []))) (up_to n (omega (arith, l)))
      ∙ (ap (λ (xs : List Step). map (renumbered f) (chosen (is_marked marks) 1 (take n steps)) ++ xs) (by_test (has_mark marks n) s same)
      ∙ (sym (map-append (renumbered f) (chosen (is_marked marks) 1 (take n steps)) (cond (has_mark marks n) (s ∷ []) []))
      ∙ sym (ap (map (renumbered f)) (chosen_next (is_marked marks) steps n s (omega (arith, l)) there))))))
    where
      by_test : (b : Bool) (s : Step) → renumbered_at steps numbers n ≡ renumbered (count_to (is_marked marks)) s → map (renumbered_at steps numbers) (cond b (n ∷ []) []) ≡ map (renumbered (count_to (is_marked marks))) (cond b (s ∷ []) [])
      by_test true s e = ap (λ (t : Step). t ∷ []) e
      by_test false s e = refl

  pub marked_steps : (places : List ℕ) → places ≡ filter (has_mark marks) (below (length marks)) → steps_at steps places numbers ≡ map (renumbered (count_to (is_marked marks))) (chosen (is_marked marks) 1 steps)
  marked_steps places e =
      ap (map (renumbered_at steps numbers)) e
      ∙ (ap (λ n. map (renumbered_at steps numbers) (filter (has_mark marks) (below n))) as_many
      ∙ (up_to (length steps) (omega arith)
      ∙ ap (λ (xs : List Step). map (renumbered (count_to (is_marked marks))) (chosen (is_marked marks) 1 xs)) (take-length steps)))

-- the step at a place
pub step_shown : (steps : List Step) (places numbers : List ℕ) (place : ℕ) → place < length places → get_or (steps_at steps places numbers) place no_step ≡ renumbered_at steps numbers (get_or places place 0)
step_shown steps [] numbers place l = absurd (omega (arith, l))
step_shown steps (p ∷ places) numbers zero l = refl
step_shown steps (p ∷ places) numbers (suc k) l = step_shown steps places numbers k (omega (arith, l))

-- new numbers of steps change no rule
pub rules_same : (f : ℕ → ℕ) (reasons : List Reason) (rule : ℕ) → cites_rule (map (renumbered_reason f) reasons) rule ≡ cites_rule reasons rule
rules_same f [] rule = refl
rules_same f (Rule r ∷ reasons) rule = ap (λ b. names_rule (Rule r) rule || b) (rules_same f reasons rule)
rules_same f (Earlier n ∷ reasons) rule = rules_same f reasons rule

-- one more reason with its new number
pub renumbered_more : {X : Type 0} (f : X → X) (xs : List X) (i : ℕ) (d : X) → i < length xs → set (map f (take i xs) ++ drop i xs) i (f (get_or (map f (take i xs) ++ drop i xs) i d)) ≡ map f (take (i + 1) xs) ++ drop (i + 1) xs
renumbered_more f [] i d l = absurd (omega (arith, l))
renumbered_more f (x ∷ xs) zero d l = refl
renumbered_more f (x ∷ xs) (suc i) d l = let e : suc i + 1 ≡ suc (i + 1) = omega arith in rw e (ap (λ ys. f x ∷ ys) (renumbered_more f xs i d (omega (arith, l))))
