-- Facts on clauses in one list.
use Rattle.std.proofs.Common.{◌≡◌, ◌≢◌, ℕ, ◌<◌, ◌≤◌, ◌+◌, ◌-◌, List, [], ◌∷◌, ◌++◌, length, take, drop, get_or, sym, refl, ap, ◌∙◌, subst, arith, zero, suc}
use Rattle.std.specs.Prelude.{slice_range, Result, Ok, Err, OnOk, OnErr}
use Rattle.std.proofs.lemmas.List.{take-append-le, drop-append-le, length-drop, take_all}
use Rattle.std.proofs.Math.Seq.{drop-append_seam}
use Rattle.std.specs.List.{All}
use Rattle.std.proofs.lemmas.List.{get_or_append_left, get_or_push, get_or-append-add, get_or-take}
use Rattle.std.proofs.lemmas.List.Elements.{All-append}
use Rattle.std.proofs.lemmas.Bool.{cases_eq}
use Rattle.std.proofs.Common.{inl, inr}
use Rattle.std.proofs.Math.Numerals.{suc-eq-add-one}
use Rattle.std.proofs.Common.{length-append}
use Rattle.rup_check.specs.Watches.{Extends}
use Rattle.rup_check.specs.Parts.{parts, part_start, AreEnds}

pub length_parts : (from : ℕ) (es xs : List ℕ) → length (parts from es xs) ≡ length es
length_parts from [] xs = refl
length_parts from (e ∷ es) xs = ap suc (length_parts e es xs)

pub get_or-parts : (from : ℕ) (es xs : List ℕ) (k : ℕ) → k < length es → get_or (parts from es xs) k [] ≡ slice_range xs (part_start from es k) (get_or es k 0)
get_or-parts from [] xs k l = absurd (omega arith)
get_or-parts from (e ∷ es) xs zero l = refl
get_or-parts from (e ∷ es) xs (suc zero) l = get_or-parts e es xs zero (omega arith)
get_or-parts from (e ∷ es) xs (suc (suc k)) l = get_or-parts e es xs (suc k) (omega arith)

-- the start of a part by cases
part_start_before : (from : ℕ) (es : List ℕ) (k : ℕ) → k ≢ 0 → part_start from es k ≡ get_or es (k - 1) 0
part_start_before from es zero n = absurd (n refl)
part_start_before from es (suc k) n = let e : k ≡ suc k - 1 = omega arith in ap (λ j. get_or es j 0) e

pub part_value : (es xs : List ℕ) (k : ℕ) → k < length es → take (get_or es k 0 - part_start 0 es k) (drop (part_start 0 es k) xs) ≡ get_or (parts 0 es xs) k []
part_value es xs k l = sym (get_or-parts 0 es xs k l)

-- a clause of the formula, or of the proof behind it
pub in_formula : (formula proof : List (List ℕ)) (number : ℕ) → number < length formula → get_or formula number [] ≡ get_or (formula ++ proof) number []
in_formula formula proof number l = sym (get_or_append_left formula proof [] number l)

pub in_proof : (formula proof : List (List ℕ)) (number : ℕ) → length formula ≤ number → get_or proof (number - length formula) [] ≡ get_or (formula ++ proof) number []
in_proof formula proof number l =
    let back : length formula + (number - length formula) ≡ number = omega arith in
    sym (ap (λ z. get_or (formula ++ proof) z []) (sym back) ∙ get_or-append-add formula proof (number - length formula) [])

below_take : (all : List (List ℕ)) (count number : ℕ) → number < length (take count all) → number < count
below_take [] zero number l = absurd (omega arith)
below_take [] (suc count) number l = absurd (omega arith)
below_take (c ∷ all) zero number l = absurd (omega arith)
below_take (c ∷ all) (suc count) zero l = omega arith
below_take (c ∷ all) (suc count) (suc number) l = omega (arith, below_take all count number (omega arith))

pub within_all : (all : List (List ℕ)) (count number : ℕ) → number < length (take count all) → number < length all
within_all [] zero number l = absurd (omega arith)
within_all [] (suc count) number l = absurd (omega arith)
within_all (c ∷ all) zero number l = absurd (omega arith)
within_all (c ∷ all) (suc count) zero l = omega arith
within_all (c ∷ all) (suc count) (suc number) l = omega (arith, within_all all count number (omega arith))

pub known_value : (all : List (List ℕ)) (count number : ℕ) → number < length (take count all) → get_or all number [] ≡ get_or (take count all) number []
known_value all count number l = sym (get_or-take count all number [] (below_take all count number l))

slice_kept : (xs ys : List ℕ) (a b : ℕ) → a ≤ b → b ≤ length xs → slice_range (xs ++ ys) a b ≡ slice_range xs a b
slice_kept xs ys a b l m =
    let n : b - a ≤ length (drop a xs) = omega (arith, length-drop a xs) in
    ap (λ z. take (b - a) z) (drop-append-le a xs ys (omega arith)) ∙ take-append-le (b - a) (drop a xs) ys n

-- more after the ends changes no part
parts_kept : (from : ℕ) (es xs ys : List ℕ) → ((k : ℕ) → k < length es → part_start from es k ≤ get_or es k 0) → ((k : ℕ) → k < length es → get_or es k 0 ≤ length xs) → parts from es (xs ++ ys) ≡ parts from es xs
parts_kept from [] xs ys r h = refl
parts_kept from (e ∷ []) xs ys r h = ap (λ z. z ∷ []) (slice_kept xs ys from e (r 0 (omega arith)) (h 0 (omega arith)))
parts_kept from (e ∷ d ∷ es) xs ys r h =
    ap (λ z. z ∷ parts e (d ∷ es) (xs ++ ys)) (slice_kept xs ys from e (r 0 (omega arith)) (h 0 (omega arith))) ∙ ap (λ z. slice_range xs from e ∷ z) (parts_kept e (d ∷ es) xs ys (rising_tail from e d es r) (λ k m. h (suc k) (omega arith))) where
      rising_tail : (from e d : ℕ) (es : List ℕ) → ((k : ℕ) → k < length (e ∷ d ∷ es) → part_start from (e ∷ d ∷ es) k ≤ get_or (e ∷ d ∷ es) k 0) → (k : ℕ) → k < length (d ∷ es) → part_start e (d ∷ es) k ≤ get_or (d ∷ es) k 0
      rising_tail from e d es r zero l = r 1 (omega arith)
      rising_tail from e d es r (suc k) l = r (suc (suc k)) (omega arith)

parts_push : (from : ℕ) (es xs : List ℕ) (e : ℕ) → parts from (es ++ e ∷ []) xs ≡ parts from es xs ++ slice_range xs (part_start from es (length es)) e ∷ []
parts_push from [] xs e = refl
parts_push from (d ∷ []) xs e = refl
parts_push from (d ∷ c ∷ es) xs e = ap (λ z. slice_range xs from d ∷ z) (parts_push d (c ∷ es) xs e)

last_slice : (xs ys : List ℕ) → slice_range (xs ++ ys) (length xs) (length (xs ++ ys)) ≡ ys
last_slice xs ys =
    let n : length ys ≤ length (xs ++ ys) - length xs = omega (arith, length-append xs ys) in
    ap (λ z. take (length (xs ++ ys) - length xs) z) (drop-append_seam xs ys) ∙ take_all (length (xs ++ ys) - length xs) ys n

pub pushed_part : (es es' xs xs' ys : List ℕ) → AreEnds es xs → xs' ≡ xs ++ ys → es' ≡ es ++ length xs' ∷ [] → parts 0 es' xs' ≡ parts 0 es xs ++ ys ∷ []
pushed_part es es' xs xs' ys a x e =
    let f : es' ≡ es ++ length (xs ++ ys) ∷ [] = e ∙ ap (λ z. es ++ length z ∷ []) x in
    ap (λ z. parts 0 z xs') f ∙ ap (λ z. parts 0 (es ++ length (xs ++ ys) ∷ []) z) x ∙ parts_push 0 es (xs ++ ys) (length (xs ++ ys))
    ∙ ap (λ z. z ++ slice_range (xs ++ ys) (part_start 0 es (length es)) (length (xs ++ ys)) ∷ []) (parts_kept 0 es xs ys a.rising a.within)
    ∙ ap (λ z. parts 0 es xs ++ slice_range (xs ++ ys) z (length (xs ++ ys)) ∷ []) a.last ∙ ap (λ z. parts 0 es xs ++ z ∷ []) (last_slice xs ys)

start_kept : (es : List ℕ) (e k : ℕ) → k ≤ length es → part_start 0 (es ++ e ∷ []) k ≡ part_start 0 es k
start_kept es e zero l = refl
start_kept es e (suc k) l = get_or_append_left es (e ∷ []) 0 k (omega arith)

module _ (es xs ys : List ℕ) (a : AreEnds es xs) where
  longer : length xs ≤ length (xs ++ ys)
  longer = omega (arith, length-append xs ys)

  count : length (es ++ length (xs ++ ys) ∷ []) ≡ length es + 1
  count = length-append es (length (xs ++ ys) ∷ [])

  end_new : get_or (es ++ length (xs ++ ys) ∷ []) (length es) 0 ≡ length (xs ++ ys)
  end_new = get_or_push es (length (xs ++ ys)) 0 (length es) refl

  rising_on : (k : ℕ) → k < length (es ++ length (xs ++ ys) ∷ []) → part_start 0 (es ++ length (xs ++ ys) ∷ []) k ≤ get_or (es ++ length (xs ++ ys) ∷ []) k 0
  rising_on k l =
      let m : k ≤ length es = omega (arith, count) in
      let b : part_start 0 (es ++ length (xs ++ ys) ∷ []) k ≡ part_start 0 es k = start_kept es (length (xs ++ ys)) k m in
      (elim (cases_eq k (length es)) [
        | inl f ↦ (let c : part_start 0 es k ≡ length xs = ap (part_start 0 es) f ∙ a.last in let d : get_or (es ++ length (xs ++ ys) ∷ []) k 0 ≡ length (xs ++ ys) = ap (λ z. get_or (es ++ length (xs ++ ys) ∷ []) z 0) f ∙ end_new in omega (arith, b, c, d, longer))
        | inr n ↦ (let i : k < length es = omega arith in let c : get_or (es ++ length (xs ++ ys) ∷ []) k 0 ≡ get_or es k 0 = get_or_append_left es (length (xs ++ ys) ∷ []) 0 k i in let d : part_start 0 es k ≤ get_or es k 0 = a.rising k i in omega (arith, b, c, d))
      ])

  within_on : (k : ℕ) → k < length (es ++ length (xs ++ ys) ∷ []) → get_or (es ++ length (xs ++ ys) ∷ []) k 0 ≤ length (xs ++ ys)
  within_on k l =
      (elim (cases_eq k (length es)) [
        | inl f ↦ (let d : get_or (es ++ length (xs ++ ys) ∷ []) k 0 ≡ length (xs ++ ys) = ap (λ z. get_or (es ++ length (xs ++ ys) ∷ []) z 0) f ∙ end_new in omega (arith, d))
        | inr n ↦ (let i : k < length es = omega (arith, count) in let c : get_or (es ++ length (xs ++ ys) ∷ []) k 0 ≡ get_or es k 0 = get_or_append_left es (length (xs ++ ys) ∷ []) 0 k i in let d : get_or es k 0 ≤ length xs = a.within k i in omega (arith, c, d, longer))
      ])

  last_on : part_start 0 (es ++ length (xs ++ ys) ∷ []) (length (es ++ length (xs ++ ys) ∷ [])) ≡ length (xs ++ ys)
  last_on = ap (part_start 0 (es ++ length (xs ++ ys) ∷ [])) (count ∙ sym (suc-eq-add-one (length es))) ∙ end_new

  ends_on : All (λ x. x ≤ 8191) ys → AreEnds (es ++ length (xs ++ ys) ∷ []) (xs ++ ys)
  ends_on s = record { rising = rising_on; within = within_on; last = last_on; small = All-append (λ x. x ≤ 8191) xs ys a.small s }

pub ends_pushed : (es es' xs xs' ys : List ℕ) → AreEnds es xs → All (λ x. x ≤ 8191) ys → xs' ≡ xs ++ ys → es' ≡ es ++ length xs' ∷ [] → AreEnds es' xs'
ends_pushed es es' xs xs' ys a s x e =
    subst (λ z. AreEnds es' z) (sym x) (subst (λ z. AreEnds z (xs ++ ys)) (sym (e ∙ ap (λ z. es ++ length z ∷ []) x)) (ends_on es xs ys a s))

-- what was added is cut off again
pub truncated : (xs ys : List ℕ) → Extends xs ys → take (length xs) ys ≡ xs
truncated xs ys (more, e) = ap (take (length xs)) e ∙ take-append-le (length xs) xs more (omega arith) ∙ take_all (length xs) xs (omega arith)

pub ends_added : {A B : Type 0} (r : Result A B) (es es' xs xs' ys : List ℕ) → AreEnds es xs → All (λ x. x ≤ 8191) ys → OnOk r (xs' ≡ xs ++ ys) → OnOk r (es' ≡ es ++ length xs' ∷ []) → OnErr r (xs' ≡ xs) → OnErr r (es' ≡ es) → AreEnds es' xs'
ends_added (Ok x) es es' xs xs' ys a s p e n m = ends_pushed es es' xs xs' ys a s p e
ends_added (Err x) es es' xs xs' ys a s p e n m = subst (λ z. AreEnds es' z) (sym n) (subst (λ z. AreEnds z xs) (sym m) a)
