-- Kept nogoods and steps, and the lists of pairs that stand for them.
use Rattle.std.proofs.Common.{◌≡◌, ℕ, zero, suc, ◌+◌, ◌-◌, ◌<◌, ◌≤◌, ◌==◌, ◌||◌, Bool, true, false, cond, List, [], ◌∷◌, ◌++◌, length, get_or, Option, Some, None, is_some, inl, inr, refl, sym, ap, ◌∙◌, subst, arith, All}
use Rattle.std.specs.List.{list_any}
use Rattle.std.specs.Option.{option_map}
use Rattle.std.proofs.lemmas.List.{get_or_past}
use Rattle.std.proofs.lemmas.List.Elements.{All-weaker, All-nil}
use Rattle.std.specs.Prelude.{Result, Ok, Err, OnOk}
use Rattle.dcsp_defs.specs.declared.Step.{Step}
use Rattle.dcsp_defs.specs.Csp.{Csp, Nogood}
use Rattle.ngd_store.specs.declared.arena.Placed.{Placed}
use Rattle.ngd_store.specs.declared.arena.TheConstants.{NO_VAR}
use Rattle.ngd_store.specs.Rests.{Rest, no_rest, values_below}
use Rattle.ngd_check.specs.Places.{pairs_of, nogood_left, nogoods_of, step_of, step_in, steps_in, placed_in, no_step, list_at, IsNumber, IsPlaced, AreLists}
use Rattle.ngd_check.specs.Progress.{kept_at}
use Rattle.ngd_check.proofs.Once.{compared}
use Rattle.ngd_check.proofs.Growing.{kept_past, index_before, index_last, length_more}
use Rattle.ngd_store.proofs.Below.{below_length, below_at, below_past, below_same}
use native.Mathlib.Decide.{dec_lt}

cond_none : {A : Type 0} (t : Bool) → cond {A = Option A} t None None ≡ None
cond_none true = refl
cond_none false = refl

-- the nogood with a number is that of its list
pub kept_at_list : (p : Csp) (lists : List (Option (List Placed))) (dropped : List Bool) (k : ℕ) → kept_at (nogoods_of p lists dropped) (suc k) ≡ nogood_left p lists dropped k
kept_at_list p lists dropped k = elim (compared k (length lists)) [
  | inl l ↦ below_at (nogood_left p lists dropped) (length lists) k None l
  | inr r ↦
      let l : length lists ≤ k = elim r [ inl e ↦ omega (arith, e) | inr m ↦ omega (arith, m) ] in
      below_past (nogood_left p lists dropped) (length lists) k None l
      ∙ sym (ap (λ (o : Option (List Placed)). cond (get_or dropped k false) None (option_map (pairs_of p) o)) (get_or_past lists k None l) ∙ cond_none (get_or dropped k false))
]

-- with no mark at its place
pub kept_list : (p : Csp) (lists : List (Option (List Placed))) (dropped : List Bool) (number : ℕ) → 0 < number → get_or dropped (number - 1) false ≡ false → kept_at (nogoods_of p lists dropped) number ≡ option_map (pairs_of p) (list_at lists number)
kept_list p lists dropped zero l h = absurd (omega (arith, l))
kept_list p lists dropped (suc k) l h =
    let e : suc k - 1 ≡ k = omega arith in
    kept_at_list p lists dropped k ∙ ap (λ t. cond t None (option_map (pairs_of p) (get_or lists k None))) (subst (λ n. get_or dropped n false ≡ false) e h)

-- with a mark
pub kept_marked : (p : Csp) (lists : List (Option (List Placed))) (dropped : List Bool) (number : ℕ) → 0 < number → get_or dropped (number - 1) false ≡ true → kept_at (nogoods_of p lists dropped) number ≡ None
kept_marked p lists dropped zero l h = absurd (omega (arith, l))
kept_marked p lists dropped (suc k) l h =
    let e : suc k - 1 ≡ k = omega arith in
    kept_at_list p lists dropped k ∙ ap (λ t. cond t None (option_map (pairs_of p) (get_or lists k None))) (subst (λ n. get_or dropped n false ≡ true) e h)

pub list_before : (lists : List (Option (List Placed))) (number : ℕ) → 0 < number → list_at lists number ≡ get_or lists (number - 1) None
list_before lists zero l = absurd (omega arith)
list_before lists (suc k) l = let e : suc k - 1 ≡ k = omega arith in rw e refl

pub some_alike : {A B : Type 0} (f : A → B) (o : Option A) → is_some o ≡ is_some (option_map f o)
some_alike f None = refl
some_alike f (Some x) = refl

-- a nogood that is kept has the number of a list
pub numbered : (p : Csp) (lists : List (Option (List Placed))) (dropped : List Bool) (numbers : List ℕ) → All (λ number. is_some (kept_at (nogoods_of p lists dropped) number) ≡ true) numbers → All (λ number. IsNumber (length lists) number) numbers
numbered p lists dropped numbers h = All-weaker (λ number. is_some (kept_at (nogoods_of p lists dropped) number) ≡ true) (λ number. IsNumber (length lists) number) one numbers h
  where
    one : (number : ℕ) → is_some (kept_at (nogoods_of p lists dropped) number) ≡ true → IsNumber (length lists) number
    one zero e = absurd cc
    one (suc k) e = elim (dec_lt (length (nogoods_of p lists dropped)) (suc k)) [
      | yes l ↦ absurd (let t : is_some (kept_at (nogoods_of p lists dropped) (suc k)) ≡ false = ap is_some (kept_past (nogoods_of p lists dropped) (suc k) l) in cc)
      | no l ↦ record { some = omega arith; within = let s = below_length (nogood_left p lists dropped) (length lists) in omega (arith, s, l) }
    ]

-- ---- lists that were given back

module _ (p : Csp) (old new : List (Option (List Placed))) (dropped : List Bool) (numbers : List ℕ) (cleared : (number : ℕ) → list_at new number ≡ cond (list_any (λ cleared. number == cleared) numbers) None (list_at old number)) where
  -- what is left are lists of places
  pub lists_dropped : AreLists p old → AreLists p new
  lists_dropped h k placed e = by_test (list_any (λ cleared. suc k == cleared) numbers) (cleared (suc k))
    where
      by_test : (t : Bool) → get_or new k None ≡ cond t None (get_or old k None) → All (IsPlaced p) placed
      by_test true c = absurd (let gone : ◌≡◌ {A = Option (List Placed)} None (Some placed) = sym c ∙ e in cc)
      by_test false c = h k placed (sym c ∙ e)

  pub kept_dropped : (number : ℕ) → kept_at (nogoods_of p new dropped) number ≡ cond (list_any (λ cleared. number == cleared) numbers) None (kept_at (nogoods_of p old dropped) number)
  kept_dropped zero = sym (cond_none (list_any (λ cleared. zero == cleared) numbers))
  kept_dropped (suc k) =
      kept_at_list p new dropped k
      ∙ (ap (λ (o : Option (List Placed)). cond (get_or dropped k false) None (option_map (pairs_of p) o)) (cleared (suc k))
      ∙ (swapped (get_or dropped k false) (list_any (λ cleared. suc k == cleared) numbers) (get_or old k None)
      ∙ ap (cond (list_any (λ cleared. suc k == cleared) numbers) None) (sym (kept_at_list p old dropped k))))
    where
      swapped : (s t : Bool) (o : Option (List Placed)) → cond s None (option_map (pairs_of p) (cond t None o)) ≡ cond t None (cond s None (option_map (pairs_of p) o))
      swapped true true o = refl
      swapped true false o = refl
      swapped false true o = refl
      swapped false false o = refl

-- ---- marks

pub marks_dropped : (p : Csp) (lists : List (Option (List Placed))) (old new : List Bool) (numbers : List ℕ) → ((k : ℕ) → get_or new k false ≡ (list_any (λ number. k + 1 == number) numbers || get_or old k false)) → (number : ℕ) → kept_at (nogoods_of p lists new) number ≡ cond (list_any (λ dropped. number == dropped) numbers) None (kept_at (nogoods_of p lists old) number)
marks_dropped p lists old new numbers marked zero = sym (cond_none (list_any (λ dropped. zero == dropped) numbers))
marks_dropped p lists old new numbers marked (suc k) =
    let e : k + 1 ≡ suc k = omega arith in
    let here : get_or new k false ≡ (list_any (λ dropped. suc k == dropped) numbers || get_or old k false) = subst (λ n. get_or new k false ≡ (list_any (λ dropped. n == dropped) numbers || get_or old k false)) e (marked k) in
    kept_at_list p lists new k
    ∙ (ap (λ t. cond t None (option_map (pairs_of p) (get_or lists k None))) here
    ∙ (both (list_any (λ dropped. suc k == dropped) numbers) (get_or old k false) (option_map (pairs_of p) (get_or lists k None))
    ∙ ap (cond (list_any (λ dropped. suc k == dropped) numbers) None) (sym (kept_at_list p lists old k))))
  where
    both : (s t : Bool) (o : Option Nogood) → cond (s || t) None o ≡ cond s None (cond t None o)
    both true t o = refl
    both false t o = refl

-- ---- one step more

module _ (p : Csp) (lists : List (Option (List Placed))) (placed : List Placed) where
  pub lists_more : AreLists p lists → All (IsPlaced p) placed → AreLists p (lists ++ Some placed ∷ [])
  lists_more h all k other e = elim (compared k (length lists)) [
    | inl l ↦ h k other (sym (index_before lists (Some placed) None k l) ∙ e)
    | inr r ↦ elim r [
      | inl same ↦
          let last : Some placed ≡ Some other = sym (index_last lists (Some placed) None) ∙ (ap (λ n. get_or (lists ++ Some placed ∷ []) n None) (sym same) ∙ e) in
          let is : placed ≡ other = cc in
          subst (All (IsPlaced p)) is all
      | inr past ↦ absurd (let n = length_more lists (Some placed) in let gone : ◌≡◌ {A = Option (List Placed)} None (Some other) = sym (get_or_past (lists ++ Some placed ∷ []) k None (omega (arith, n, past))) ∙ e in cc)
    ]
  ]

  pub nogoods_more : (dropped : List Bool) → length dropped ≤ length lists → nogoods_of p (lists ++ Some placed ∷ []) dropped ≡ nogoods_of p lists dropped ++ Some (pairs_of p placed) ∷ []
  nogoods_more dropped few =
      ap (values_below (nogood_left p (lists ++ Some placed ∷ []) dropped)) (length_more lists (Some placed))
      ∙ (ap (λ xs. xs ++ nogood_left p (lists ++ Some placed ∷ []) dropped (length lists) ∷ []) (below_same (nogood_left p (lists ++ Some placed ∷ []) dropped) (nogood_left p lists dropped) (length lists) (λ k l.
      ap (λ (o : Option (List Placed)). cond (get_or dropped k false) None (option_map (pairs_of p) o)) (index_before lists (Some placed) None k l)))
      ∙ ap (λ x. nogoods_of p lists dropped ++ x ∷ []) (
      ap (λ t. cond t None (option_map (pairs_of p) (get_or (lists ++ Some placed ∷ []) (length lists) None))) (get_or_past dropped (length lists) false few)
      ∙ ap (option_map (pairs_of p)) (index_last lists (Some placed) None)))

  pub rests_with : (rests : List Rest) (rest : Rest) → length rests ≡ length lists → steps_in p (lists ++ Some placed ∷ []) (rests ++ rest ∷ []) ≡ steps_in p lists rests ++ step_of p (Some placed) rest ∷ []
  rests_with rests rest same =
      ap (values_below (step_in p (lists ++ Some placed ∷ []) (rests ++ rest ∷ []))) (length_more rests rest)
      ∙ (ap (λ xs. xs ++ step_in p (lists ++ Some placed ∷ []) (rests ++ rest ∷ []) (length rests) ∷ []) (below_same (step_in p (lists ++ Some placed ∷ []) (rests ++ rest ∷ [])) (step_in p lists rests) (length rests) (λ k l.
      ap (λ o. step_of p o (get_or (rests ++ rest ∷ []) k no_rest)) (index_before lists (Some placed) None k (omega (arith, l, same)))
      ∙ ap (step_of p (get_or lists k None)) (index_before rests rest no_rest k l)))
      ∙ ap (λ x. steps_in p lists rests ++ x ∷ []) (
      ap (λ n. step_of p (get_or (lists ++ Some placed ∷ []) n None) (get_or (rests ++ rest ∷ []) (length rests) no_rest)) same
      ∙ (ap (λ o. step_of p o (get_or (rests ++ rest ∷ []) (length rests) no_rest)) (index_last lists (Some placed) None)
      ∙ ap (step_of p (Some placed)) (index_last rests rest no_rest))))

-- a step is that of its parts
pub step_is : (p : Csp) (placed : List Placed) (step : Step) → pairs_of p placed ≡ step.nogood → step_of p (Some placed) (record { variable = step.variable; reasons = step.reasons }) ≡ step
step_is p placed step e = ap (λ (g : Nogood). with_nogood g) e
  where
    with_nogood : Nogood → Step
    with_nogood g = record { variable = step.variable; nogood = g; reasons = step.reasons }

-- without rests there is no step
pub no_steps : (p : Csp) (old new : List (Option (List Placed))) (rests : List Rest) → rests ≡ [] → steps_in p new rests ≡ steps_in p old rests
no_steps p old new rests e = rw e refl

pub names_below : (p : Csp) (placed : List Placed) → All (IsPlaced p) placed → All (λ pair. pair.var < NO_VAR) placed
names_below p placed h = All-weaker (IsPlaced p) (λ (pair : Placed). pair.var < NO_VAR) (λ pair is. is.named) placed h

-- the list at a place is one of places
pub placed_all : (p : Csp) (lists : List (Option (List Placed))) → AreLists p lists → (k : ℕ) → All (IsPlaced p) (placed_in (get_or lists k None))
placed_all p lists h k = by_case (get_or lists k None) refl
  where
    by_case : (o : Option (List Placed)) → get_or lists k None ≡ o → All (IsPlaced p) (placed_in o)
    by_case None e = All-nil (IsPlaced p)
    by_case (Some placed) e = h k placed e

pub on_ok_both : {T E P Q R : Type 0} (r : Result T E) → OnOk r P → OnOk r Q → (P → Q → R) → OnOk r R
on_ok_both (Ok t) p q f = f p q
on_ok_both (Err e) p q f = tt

-- the step at a place
pub step_there : (p : Csp) (lists : List (Option (List Placed))) (rests : List Rest) (value : List Step) (place : ℕ) → steps_in p lists rests ≡ value → place < length value → place < length rests
step_there p lists rests value place e l = let n = below_length (step_in p lists rests) (length rests) in let m = ap length e in omega (arith, l, n, m)

pub step_at_place : (p : Csp) (lists : List (Option (List Placed))) (rests : List Rest) (value : List Step) (place : ℕ) → steps_in p lists rests ≡ value → place < length value → get_or value place no_step ≡ step_in p lists rests place
step_at_place p lists rests value place e l = ap (λ (xs : List Step). get_or xs place no_step) (sym e) ∙ below_at (step_in p lists rests) (length rests) place no_step (step_there p lists rests value place e l)

pub on_ok_always : {T E P : Type 0} (r : Result T E) → P → OnOk r P
on_ok_always (Ok t) p = p
on_ok_always (Err e) p = tt
