-- Facts on marks and looks.
use Rattle.std.proofs.Common.{◌≡◌, ◌≢◌, ℕ, ◌<◌, ◌≤◌, ◌+◌, List, [], ◌∷◌, ◌++◌, ◌⊎◌, inl, inr, Bool, true, false, not, cond, length, get_or, set, sym, refl, ap, ◌∙◌, subst, arith, zero, suc, length-append}
use Rattle.std.specs.List.{Contains, All, count_by, sum_by}
use Rattle.std.proofs.lemmas.List.{get_or_default, get_or-set_other, get_or-set_same, get_or_append_left, get_or_push, length-set}
use Rattle.std.proofs.lemmas.List.Elements.{Contains-append_left, Contains-get_or, Contains-push, Contains-push_cases, All-push, All-contains}
use Rattle.std.proofs.lemmas.List.Sums.{sum_by-set}
use Rattle.std.proofs.lemmas.Bool.{cases_eq, cases_lt}
use Rattle.rup_check.specs.Propagation.{IsFalsified, Forced, unit}
use Rattle.rup_check.specs.Assignments.{flipped, Has, IsAssignment}
use Rattle.rup_check.specs.Sets.{KeepsSound, IsFinished}
use Rattle.rup_check.specs.Looks.{IsOpen, IsQuiet, IsUnit, IsClosedBetween, OthersFalse}

pub falsified_from_index : (marks : List Bool) (clause : List ℕ) → ((k : ℕ) → k < length clause → Has marks (flipped (get_or clause k 0))) → IsFalsified flipped (Has marks) clause
falsified_from_index marks clause h y (k, l, e) = subst (λ w. Has marks (flipped w)) (get_or_default clause k 0 y l ∙ e) (h k l)

pub none_from_index : (marks : List Bool) (clause : List ℕ) → ((k : ℕ) → k < length clause → get_or marks (get_or clause k 0) false ≡ false) → (x : ℕ) → Contains clause x → Has marks x → ⊥
none_from_index marks clause h x (k, l, e) t =
    let n : get_or marks x false ≡ false = subst (λ w. get_or marks w false ≡ false) (get_or_default clause k 0 x l ∙ e) (h k l) in cc

pub others_from_index : (marks : List Bool) (clause : List ℕ) (but : ℕ) → ((k : ℕ) → k < length clause → get_or clause k 0 ≢ but → Has marks (flipped (get_or clause k 0))) → OthersFalse marks clause but
others_from_index marks clause but h y (k, l, e) n =
    let same : get_or clause k 0 ≡ y = get_or_default clause k 0 y l ∙ e in
    subst (λ w. Has marks (flipped w)) same (h k l (λ z. n (sym same ∙ z)))

-- the places before the middle, and those from there on
pub others_from_parts : (marks : List Bool) (clause : List ℕ) (but middle : ℕ) → IsClosedBetween marks clause but 0 middle → IsClosedBetween marks clause but middle (length clause) → OthersFalse marks clause but
others_from_parts marks clause but middle front back = others_from_index marks clause but (λ k l n. (elim (cases_lt k middle) [
  | inl below ↦ front k (omega arith) below n
  | inr above ↦ back k above l n
]))

false_of : (b : Bool) → (b ≡ true → ⊥) → b ≡ false
false_of true n = absurd (n refl)
false_of false n = refl

count_set : (marks : List Bool) (i : ℕ) → i < length marks → (Has marks i → ⊥) → count_by not (set marks i true) + 1 ≡ count_by not marks
count_set marks i l n =
    let b : get_or marks i false ≡ false = false_of (get_or marks i false) n in
    let e : sum_by (λ x. cond (not x) 1 0) (set marks i true) + cond (not (get_or marks i false)) 1 0 ≡ sum_by (λ x. cond (not x) 1 0) marks + 0 = sum_by-set (λ x. cond (not x) 1 0) marks i true false l in
    let f : sum_by (λ x. cond (not x) 1 0) (set marks i true) + 1 ≡ sum_by (λ x. cond (not x) 1 0) marks + 0 = subst (λ (w : Bool). sum_by (λ x. cond (not x) 1 0) (set marks i true) + cond (not w) 1 0 ≡ sum_by (λ x. cond (not x) 1 0) marks + 0) b e in
    omega (arith, f)

pub has_set : (marks : List Bool) (i x : ℕ) → i < length marks → Has (set marks i true) x → (x ≡ i) ⊎ Has marks x
has_set marks i x l h =
    (elim (cases_eq x i) [
      | inl e ↦ inl e
      | inr n ↦ inr (sym (get_or-set_other marks i x true false n) ∙ h)
    ])

pub has_kept : (marks : List Bool) (i x : ℕ) → i < length marks → Has marks x → Has (set marks i true) x
has_kept marks i x l h =
    (elim (cases_eq x i) [
      | inl e ↦ subst (λ w. Has (set marks i true) w) (sym e) (get_or-set_same marks i true false l)
      | inr n ↦ get_or-set_other marks i x true false n ∙ h
    ])

pub added : (marks : List Bool) (trail : List ℕ) (x : ℕ) → IsAssignment marks trail → x ≤ 8191 → (Has marks x → ⊥) → IsAssignment (set marks x true) (trail ++ x ∷ [])
added marks trail x a small absent =
    let size : length marks ≡ 8192 = a.size in
    let in' : x < length marks = omega arith in
    record {
      size = length-set marks x true ∙ size;
      small = All-push (λ y. y ≤ 8191) trail x a.small small;
      listed = λ y h. (elim (has_set marks x y in' h) [
        | inl e ↦ subst (λ w. Contains (trail ++ x ∷ []) w) (sym e) (Contains-push trail x)
        | inr old ↦ Contains-append_left trail (x ∷ []) y (a.listed y old)
      ]);
      marked = λ y h. (elim (Contains-push_cases trail x y h) [
        | inl old ↦ has_kept marks x y in' (a.marked y old)
        | inr e ↦ subst (λ w. Has (set marks x true) w) e (get_or-set_same marks x true false in')
      ]);
      counted = let before : count_by not marks + length trail ≡ 8192 = a.counted in omega (arith, before, count_set marks x in' absent, length-append trail (x ∷ []));
      apart = λ i j l m. (elim (cases_eq j (length trail)) [
        | inl e ↦ (λ same. absent (subst (λ w. Has marks w) (sym (get_or_append_left trail (x ∷ []) 0 i (omega arith)) ∙ same ∙ ap (λ w. get_or (trail ++ x ∷ []) w 0) e ∙ get_or_push trail x 0 (length trail) refl) (a.marked (get_or trail i 0) (Contains-get_or trail i 0 (omega arith)))))
        | inr n ↦ (let inside : j < length trail = omega (arith, length-append trail (x ∷ [])) in λ same. a.apart i j l inside (sym (get_or_append_left trail (x ∷ []) 0 i (omega arith)) ∙ same ∙ get_or_append_left trail (x ∷ []) 0 j inside))
      ]);
    }

pub added_by : (marks : List Bool) (trail after : List ℕ) (x : ℕ) → after ≡ trail ++ x ∷ [] → IsAssignment marks trail → x ≤ 8191 → (Has marks x → ⊥) → IsAssignment (set marks x true) after
added_by marks trail after x e a small absent = subst (λ w. IsAssignment (set marks x true) w) (sym e) (added marks trail x a small absent)

count_unset : (marks : List Bool) (i : ℕ) → i < length marks → Has marks i → count_by not (set marks i false) ≡ count_by not marks + 1
count_unset marks i l h =
    let e : sum_by (λ x. cond (not x) 1 0) (set marks i false) + cond (not (get_or marks i false)) 1 0 ≡ sum_by (λ x. cond (not x) 1 0) marks + 1 = sum_by-set (λ x. cond (not x) 1 0) marks i false false l in
    let f : sum_by (λ x. cond (not x) 1 0) (set marks i false) + 0 ≡ sum_by (λ x. cond (not x) 1 0) marks + 1 = subst (λ (w : Bool). sum_by (λ x. cond (not x) 1 0) (set marks i false) + cond (not w) 1 0 ≡ sum_by (λ x. cond (not x) 1 0) marks + 1) h e in
    omega (arith, f)

-- the last that came is taken out
module _ (marks : List Bool) (rest : List ℕ) (x : ℕ) (a : IsAssignment marks (rest ++ x ∷ [])) where
  in_marks : x < length marks
  in_marks = has_small' marks x (a.marked x (Contains-push rest x)) where
    has_small' : (marks : List Bool) (x : ℕ) → Has marks x → x < length marks
    has_small' [] x h = cc
    has_small' (b ∷ marks) zero h = omega arith
    has_small' (b ∷ marks) (suc x) h = omega (arith, has_small' marks x h)

  another : (y : ℕ) → Contains rest y → y ≢ x
  another y (k, l, e) same =
      a.apart k (length rest) l (omega (arith, length-append rest (x ∷ []))) (get_or_append_left rest (x ∷ []) 0 k l ∙ get_or_default rest k 0 y l ∙ e ∙ same ∙ sym (get_or_push rest x 0 (length rest) refl))

  pub taken_out : IsAssignment (set marks x false) rest
  taken_out = record {
    size = length-set marks x false ∙ a.size;
    small = λ k d l. subst (λ w. w ≤ 8191) (get_or_append_left rest (x ∷ []) d k l) (a.small k d (omega (arith, length-append rest (x ∷ []))));
    listed = λ y h. (elim (cases_eq y x) [
      | inl e ↦ (let off : get_or (set marks x false) y false ≡ false = ap (λ w. get_or (set marks x false) w false) e ∙ get_or-set_same marks x false false in_marks in cc)
      | inr n ↦ (elim (Contains-push_cases rest x y (a.listed y (sym (get_or-set_other marks x y false false n) ∙ h))) [
        | inl old ↦ old
        | inr e ↦ absurd (n (sym e))
      ])
    ]);
    marked = λ y h. get_or-set_other marks x y false false (another y h) ∙ a.marked y (Contains-append_left rest (x ∷ []) y h);
    counted = let before : count_by not marks + length (rest ++ x ∷ []) ≡ 8192 = a.counted in omega (arith, before, count_unset marks x in_marks (a.marked x (Contains-push rest x)), length-append rest (x ∷ []));
    apart = λ i j l m same. a.apart i j l (omega (arith, length-append rest (x ∷ []))) (get_or_append_left rest (x ∷ []) 0 i (omega arith) ∙ same ∙ sym (get_or_append_left rest (x ∷ []) 0 j m));
  }

pub has_small : (marks : List Bool) (x : ℕ) → Has marks x → x < length marks
has_small [] x h = cc
has_small (b ∷ marks) zero h = omega arith
has_small (b ∷ marks) (suc x) h = omega (arith, has_small marks x h)

pub finished_from_index : (formula : List (List ℕ)) (marks : List Bool) → ((k : ℕ) → k < length formula → IsQuiet marks (get_or formula k [])) → IsFinished formula marks
finished_from_index formula marks h clause (k, l, e) = subst (λ w. IsQuiet marks w) (get_or_default formula k [] clause l ∙ e) (h k l)

-- a unit literal of a clause keeps marks sound
pub unit_sound : (formula : List (List ℕ)) (marks : List Bool) (x : ℕ) → length marks ≡ 8192 → (clause : List ℕ) → Contains formula clause → IsUnit marks clause x → KeepsSound formula marks (set marks x true)
unit_sound formula marks x size clause c u start s =
    let small : x ≤ 8191 = u.small in
    let open_ : IsOpen marks clause x = u.here in
    let others : OthersFalse marks clause x = u.others in
    let in' : x < length marks = omega arith in
    let here : Forced flipped formula start x = unit clause c open_.among (λ y m n. s.within (flipped y) (others y m n)) in
    record {
      within = λ y h. (elim (has_set marks x y in' h) [
        | inl e ↦ subst (λ w. Forced flipped formula start w) (sym e) here
        | inr old ↦ s.within y old
      ]);
      consistent = λ y h g. (elim (has_set marks x y in' h) [
        | inl e ↦ (elim (has_set marks x (flipped y) in' g) [
          | inl f ↦ absurd (omega arith)
          | inr old ↦ open_.open_ (subst (λ w. Has marks (flipped w)) e old)
        ])
        | inr held ↦ (elim (has_set marks x (flipped y) in' g) [
          | inl f ↦ (let yl : y < length marks = has_small marks y held in let back : y ≡ flipped x = omega arith in open_.open_ (subst (λ w. Has marks w) back held))
          | inr old ↦ s.consistent y held old
        ])
      ]);
    }

pub open_small : (marks : List Bool) (clause : List ℕ) (x : ℕ) → All (λ y. y ≤ 8191) clause → IsOpen marks clause x → x ≤ 8191
open_small marks clause x small o = All-contains (λ y. y ≤ 8191) clause x small o.among
