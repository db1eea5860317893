-- Where an upgraded log deletes its steps.
use Rattle.std.proofs.Common.{◌≡◌, ℕ, zero, suc, ◌+◌, ◌==◌, ◌<◌, ◌≤◌, ◌⊎◌, inl, inr, max, Bool, true, false, cond, List, [], ◌∷◌, ◌++◌, filter, length, slice_get, Some, refl, sym, ap, ◌∙◌, subst, append_assoc, length-append, arith}
use Rattle.std.specs.Prelude.{count_by}
use Rattle.std.proofs.lemmas.Bool.Decides.{eqb_tells, leb_tells}
use Rattle.std.proofs.lemmas.List.Sums.{sum_by-append}
use Rattle.dcsp_defs.specs.Words.{In}
use Rattle.dcsp_defs.specs.declared.Step.{Step}
use Rattle.dcsp_defs.specs.declared.Reason.{Reason}
use Rattle.dcsp_defs.specs.declared.Reason.TheVariants.{Rule, Earlier}
use Rattle.dcsp_defs.proofs.Lists.{In-left, In-right, list_any-In, In-list_any, In-filter, filter-from}
use Rattle.dcsp_defs.specs.declared.entry.Entry.{Entry}
use Rattle.dcsp_defs.specs.declared.entry.Entry.TheVariants.{Step as A_step, Delete}
use Rattle.ngd_log.specs.Entries.{steps_of}
use Rattle.ngd_rewrite.specs.Upgrade.{is_citation, cites, last_citing, end_of, numbers, ending, as_deletion, upgraded_from}
use Rattle.ngd_rewrite.proofs.Findings.{steps_same_as}
use Rattle.ngd_rewrite.proofs.Numbers.{in_numbers}
use Rattle.law_subjects.specs.Upgrading.{Cites, IsLastUse, deleted, DeletesAtLastUse}

-- ---- the last use

citation_is : (number : ℕ) (reason : Reason) → is_citation number reason ≡ true → Earlier number ≡ reason
citation_is number (Rule rule) h = cc
citation_is number (Earlier cited) h = elim (eqb_tells cited number) [ inl same ↦ ap Earlier (sym same.1) | inr other ↦ cc (other.0) ]

cites_In : (number : ℕ) (reasons : List Reason) → cites number reasons ≡ true → In (Earlier number) reasons
cites_In number reasons h =
    let found = In-list_any (is_citation number) reasons h in
    subst (λ (r : Reason). In r reasons) (sym (citation_is number found.0 found.2)) found.1

In_cites : (number : ℕ) (reasons : List Reason) → In (Earlier number) reasons → cites number reasons ≡ true
In_cites number reasons i = list_any-In (is_citation number) (Earlier number) reasons i (elim (eqb_tells number number) [ inl same ↦ same.0 | inr other ↦ absurd (other.1 refl) ])

-- of steps, the first of which has the number `first`, the last that cites a number
record IsLastOf (first : ℕ) (steps : List Step) (number last : ℕ) : Type 0 where
  used : (last ≡ 0) ⊎ ((i : ℕ) × (s : Step) × (slice_get steps i ≡ Some s) × (last ≡ first + i) × (cites number s.reasons ≡ true))
  no_later : (i : ℕ) (s : Step) → slice_get steps i ≡ Some s → last < first + i → cites number s.reasons ≡ true → ⊥

-- where one more step stands before them, and none after `most` cites the number
with_step : (first : ℕ) (step : Step) (steps : List Step) (number most : ℕ)
    → (most < first → cites number step.reasons ≡ true → ⊥)
    → ((i : ℕ) (s : Step) → slice_get steps i ≡ Some s → most < first + suc i → cites number s.reasons ≡ true → ⊥)
    → (i : ℕ) (s : Step) → slice_get (step ∷ steps) i ≡ Some s → most < first + i → cites number s.reasons ≡ true → ⊥
with_step first step steps number most here later zero s there less c =
    let e : step ≡ s = cc in here (omega (arith, less)) (ap (λ (x : Step). cites number x.reasons) e ∙ c)
with_step first step steps number most here later (suc i) s there less c = later i s there less c

one_before : (first : ℕ) (step : Step) (steps : List Step) (number last : ℕ) → 0 < first → IsLastOf (first + 1) steps number last
    → IsLastOf first (step ∷ steps) number (max (cond (cites number step.reasons) first 0) last)
one_before first step steps number last positive h =
    (elim (cites number step.reasons) as (λ b. cites number step.reasons ≡ b → IsLastOf first (step ∷ steps) number (max (cond b first 0) last)) [
      | true ↦ λ is. record {
        used = elim h.used [
          | inl none ↦ inr (0, step, refl, omega (arith, none), is)
          | inr w ↦ inr (suc w.0, w.1, w.2, omega (arith, w.3), w.4)
        ];
        no_later = with_step first step steps number (max first last) (λ less c. absurd (omega (arith, less))) (λ i s there less. h.no_later i s there (omega (arith, less)));
      }
      | false ↦ λ is. record {
        used = elim h.used [
          | inl none ↦ inl (omega (arith, none))
          | inr w ↦ inr (suc w.0, w.1, w.2, omega (arith, w.3), w.4)
        ];
        no_later = with_step first step steps number (max 0 last) (λ less c. cc) (λ i s there less. h.no_later i s there (omega (arith, less)));
      }
    ]) refl

last_is : (first : ℕ) (steps : List Step) (number : ℕ) → 0 < first → IsLastOf first steps number (last_citing first steps number)
last_is first [] number positive = record { used = inl refl; no_later = λ i s there later c. cc }
last_is first (step ∷ steps) number positive = one_before first step steps number (last_citing (first + 1) steps number) positive (last_is (first + 1) steps number (omega arith))

no_later_use : (steps : List Step) (number last : ℕ) → IsLastOf 1 steps number last → (later : ℕ) → max number last < later → Cites steps later number → ⊥
no_later_use steps number last h zero less cited = absurd (omega (arith, less))
no_later_use steps number last h (suc i) less cited = h.no_later i cited.0 cited.1 (omega (arith, less)) (In_cites number cited.0.reasons cited.2)

-- a step ends at its last use, and nowhere else
end_is_last_use : (steps : List Step) (number : ℕ) → IsLastUse steps number (end_of steps number)
end_is_last_use steps number =
    let last = last_citing 1 steps number in
    let h = last_is 1 steps number (omega arith) in
    record {
      used = elim (leb_tells last number) [
        | inl before ↦ inl (omega (arith, before.1))
        | inr behind ↦ elim h.used [
          | inl none ↦ absurd (omega (arith, none, behind.1))
          | inr w ↦
              let at : max number last ≡ suc w.0 = omega (arith, w.3, behind.1) in
              inr (omega (arith, behind.1), (w.1, rw at w.2, cites_In number w.1.reasons w.4))
        ]
      ];
      no_later = no_later_use steps number last h;
    }

last_use_is_end : (steps : List Step) (number at : ℕ) → IsLastUse steps number at → at ≡ end_of steps number
last_use_is_end steps number at h =
    let e = end_is_last_use steps number in
    let end = end_of steps number in
    elim (leb_tells at end) [
      | inr above ↦ elim h.used [
        | inl same ↦ elim e.used [ inl it ↦ same ∙ sym it | inr w ↦ absurd (omega (arith, above.1, same, w.0)) ]
        | inr w ↦ absurd (e.no_later at above.1 w.1)
      ]
      | inl most ↦ elim (leb_tells end at) [
        | inl least ↦ omega (arith, most.1, least.1)
        | inr below ↦ elim e.used [
          | inl it ↦ elim h.used [ inl same ↦ same ∙ sym it | inr w ↦ absurd (omega (arith, below.1, it, w.0)) ]
          | inr w ↦ absurd (h.no_later end below.1 w.1)
        ]
      ]
    ]

-- ---- where steps are deleted

numbers_In : (n x : ℕ) → 0 < x → x ≤ n → In x (numbers n)
numbers_In zero x low high = absurd (omega (arith, low, high))
numbers_In (suc n) x low high = elim (leb_tells x n) [
  | inl less ↦ In-left x (numbers n) (suc n ∷ []) (numbers_In n x low less.1)
  | inr more ↦ In-right x (numbers n) (suc n ∷ []) (inl (omega (arith, high, more.1)))
]

-- the numbers that end at a step
ending_In : (steps : List Step) (at number : ℕ) → In number (ending steps at) → (0 < number) × (number ≤ length steps) × (end_of steps number ≡ at)
ending_In steps at number i =
    let from = filter-from (λ n. end_of steps n == at) number (numbers (length steps)) i in
    let range = in_numbers (length steps) number from.0 in
    (range.0, range.1, elim (eqb_tells (end_of steps number) at) [ inl same ↦ same.1 | inr other ↦ cc (other.0, from.1) ])

In_ending : (steps : List Step) (at number : ℕ) → 0 < number → number ≤ length steps → end_of steps number ≡ at → In number (ending steps at)
In_ending steps at number low high is =
    In-filter (λ n. end_of steps n == at) number (numbers (length steps)) (numbers_In (length steps) number low high)
    (elim (eqb_tells (end_of steps number) at) [ inl same ↦ same.0 | inr other ↦ absurd (other.1 is) ])

-- right behind the step with this number, where the first step has the number `first`
record HasDeletion (entries : List Entry) (first number at : ℕ) : Type 0 where
  before : List Entry
  step : Step
  numbers : List ℕ
  after : List Entry
  parts : entries ≡ before ++ A_step step ∷ Delete numbers ∷ after
  counted : length (steps_of before) + first ≡ at
  among : In number numbers

-- deletions have no steps
no_steps : (numbers : List ℕ) (entries : List Entry) → steps_of (as_deletion numbers ++ entries) ≡ steps_of entries
no_steps [] entries = refl
no_steps (number ∷ numbers) entries = refl

behind_first : (step : Step) (numbers : List ℕ) (rest : List Entry) (first number : ℕ) → In number numbers → HasDeletion (A_step step ∷ (as_deletion numbers ++ rest)) first number first
behind_first step [] rest first number i = absurd i
behind_first step (n ∷ numbers) rest first number i = record { before = []; step = step; numbers = n ∷ numbers; after = rest; parts = refl; counted = omega arith; among = i }

behind_later : (step : Step) (numbers : List ℕ) (rest : List Entry) (first number at : ℕ) → HasDeletion rest (first + 1) number at → HasDeletion (A_step step ∷ (as_deletion numbers ++ rest)) first number at
behind_later step numbers rest first number at h = record {
  before = A_step step ∷ (as_deletion numbers ++ h.before);
  step = h.step;
  numbers = h.numbers;
  after = h.after;
  parts = ap (λ es. A_step step ∷ es) (ap (λ es. as_deletion numbers ++ es) h.parts ∙ sym (append_assoc (as_deletion numbers) h.before (A_step h.step ∷ Delete h.numbers ∷ h.after)));
  counted = let silent : length (steps_of (as_deletion numbers ++ h.before)) ≡ length (steps_of h.before) = ap (λ (ss : List Step). length ss) (no_steps numbers h.before) in omega (arith, silent, h.counted);
  among = h.among;
}

has_deletion : (steps xs : List Step) (first number at : ℕ) → In number (ending steps at) → first ≤ at → at + 1 < first + length xs → HasDeletion (upgraded_from steps first xs) first number at
has_deletion steps [] first number at i low high = absurd (omega (arith, low, high))
has_deletion steps (x ∷ []) first number at i low high = absurd (omega (arith, low, high))
has_deletion steps (x ∷ y ∷ ys) first number at i low high = elim (eqb_tells first at) [
  | inl same ↦
      let here : In number (ending steps first) = subst (λ (k : ℕ). In number (ending steps k)) (sym same.1) i in
      subst (λ (k : ℕ). HasDeletion (upgraded_from steps first (x ∷ y ∷ ys)) first number k) same.1 (behind_first x (ending steps first) (upgraded_from steps (first + 1) (y ∷ ys)) first number here)
  | inr other ↦
      behind_later x (ending steps first) (upgraded_from steps (first + 1) (y ∷ ys)) first number at
      (has_deletion steps (y ∷ ys) (first + 1) number at i (omega (arith, low, other.1)) (omega (arith, high)))
]

-- a deletion behind a step, or behind a later one
record IsHereOrLater (numbers : List ℕ) (rest : List Entry) (first number at : ℕ) : Type 0 where
  which : ((at ≡ first) × In number numbers) ⊎ HasDeletion rest (first + 1) number at

split_deletion : (step : Step) (numbers : List ℕ) (rest : List Entry) (first number at : ℕ)
    → ((named : List ℕ) (after : List Entry) → rest ≡ Delete named ∷ after → ⊥)
    → HasDeletion (A_step step ∷ (as_deletion numbers ++ rest)) first number at → IsHereOrLater numbers rest first number at
split_deletion step numbers rest first number at no_front h = by_before numbers h.before h.parts h.counted where
  by_rest : (ns : List ℕ) (before : List Entry) → as_deletion ns ++ rest ≡ before ++ A_step h.step ∷ Delete h.numbers ∷ h.after → length (steps_of before) + (first + 1) ≡ at → HasDeletion rest (first + 1) number at
  by_rest [] before parts counted = record { before = before; step = h.step; numbers = h.numbers; after = h.after; parts = parts; counted = counted; among = h.among }
  by_rest (n ∷ ns) [] parts counted = cc
  by_rest (n ∷ ns) (A_step s ∷ before) parts counted = cc
  by_rest (n ∷ ns) (Delete ms ∷ before) parts counted =
      let others : rest ≡ before ++ A_step h.step ∷ Delete h.numbers ∷ h.after = cc in
      record { before = before; step = h.step; numbers = h.numbers; after = h.after; parts = others; counted = counted; among = h.among }

  by_front : (ns : List ℕ) → as_deletion ns ++ rest ≡ Delete h.numbers ∷ h.after → In number ns
  by_front [] parts = absurd (no_front h.numbers h.after parts)
  by_front (n ∷ ns) parts = let same : h.numbers ≡ n ∷ ns = cc in subst (λ (ms : List ℕ). In number ms) same h.among

  by_before : (ns : List ℕ) (before : List Entry) → A_step step ∷ (as_deletion ns ++ rest) ≡ before ++ A_step h.step ∷ Delete h.numbers ∷ h.after → length (steps_of before) + first ≡ at → IsHereOrLater ns rest first number at
  by_before ns [] parts counted =
      let front : as_deletion ns ++ rest ≡ Delete h.numbers ∷ h.after = cc in
      record { which = inl (omega (arith, counted), by_front ns front) }
  by_before ns (Delete ms ∷ before) parts counted = cc
  by_before ns (A_step s ∷ before) parts counted =
      let others : as_deletion ns ++ rest ≡ before ++ A_step h.step ∷ Delete h.numbers ∷ h.after = cc in
      record { which = inr (by_rest ns before others (omega (arith, counted))) }

-- a deletion behind a step is two entries at the least
two_entries : (entries : List Entry) (first number at : ℕ) → HasDeletion entries first number at → 2 ≤ length entries
two_entries entries first number at h =
    let all : length entries ≡ length h.before + (length h.after + 2) = ap (λ (es : List Entry). length es) h.parts ∙ length-append h.before (A_step h.step ∷ Delete h.numbers ∷ h.after) ∙ omega arith in
    omega (arith, all)

deletion_is : (steps xs : List Step) (first number at : ℕ) → HasDeletion (upgraded_from steps first xs) first number at → In number (ending steps at) × (at + 1 < first + length xs)
deletion_is steps [] first number at h = absurd (omega (arith, two_entries [] first number at h))
deletion_is steps (x ∷ []) first number at h = absurd (omega (arith, two_entries (A_step x ∷ []) first number at h))
deletion_is steps (x ∷ y ∷ ys) first number at h =
    elim (split_deletion x (ending steps first) (upgraded_from steps (first + 1) (y ∷ ys)) first number at (λ named after e. cc) h).which [
      | inl here ↦ (subst (λ (k : ℕ). In number (ending steps k)) (sym here.0) here.1, omega (arith, here.0))
      | inr later ↦ let r = deletion_is steps (y ∷ ys) (first + 1) number at later in (r.0, omega (arith, r.1))
    ]

-- ---- how often

-- how often a number stands in a list
abbrev often : ℕ → List ℕ → ℕ
often number xs = count_by (λ n. n == number) xs

often_append : (number : ℕ) (xs ys : List ℕ) → often number (xs ++ ys) ≡ often number xs + often number ys
often_append number xs ys = sum_by-append (λ n. cond (n == number) 1 0) xs ys

never : (number : ℕ) (xs : List ℕ) → (In number xs → ⊥) → often number xs ≡ 0
never number [] h = refl
never number (x ∷ xs) h = elim (eqb_tells x number) [
  | inl same ↦ absurd (h (inl (sym same.1)))
  | inr other ↦
      let none = never number xs (λ i. h (inr i)) in
      let all = often_append number (x ∷ []) xs in
      let here : often number (x ∷ []) ≡ 0 = rw other.0 refl in
      omega (arith, none, all, here)
]

filtered_less : (number : ℕ) (p : ℕ → Bool) (xs : List ℕ) → often number (filter p xs) ≤ often number xs
filtered_less number p [] = omega arith
filtered_less number p (x ∷ xs) =
    let rest = filtered_less number p xs in
    let all = often_append number (x ∷ []) xs in
    let kept = often_append number (x ∷ []) (filter p xs) in
    elim (p x) as (λ b. often number (cond b (x ∷ filter p xs) (filter p xs)) ≤ often number (x ∷ xs)) [ true ↦ omega (arith, rest, all, kept) | false ↦ omega (arith, rest, all) ]

one_of_numbers : (n number : ℕ) → often number (numbers n) ≤ 1
one_of_numbers zero number = omega arith
one_of_numbers (suc n) number =
    let rest = one_of_numbers n number in
    let all = often_append number (numbers n) (suc n ∷ []) in
    elim (eqb_tells (suc n) number) [
      | inl same ↦
          let none = never number (numbers n) (λ i. let r = in_numbers n number i in omega (arith, r.1, same.1)) in
          let one : often number (suc n ∷ []) ≡ 1 = rw same.0 refl in
          omega (arith, all, none, one)
      | inr other ↦ let no : often number (suc n ∷ []) ≡ 0 = rw other.0 refl in omega (arith, all, rest, no)
    ]

deleted_front : (numbers : List ℕ) (rest : List Entry) → deleted (as_deletion numbers ++ rest) ≡ numbers ++ deleted rest
deleted_front [] rest = refl
deleted_front (n ∷ numbers) rest = refl

-- from the step with this number on
often_from : (steps xs : List Step) (first number : ℕ) → ((first ≤ end_of steps number) → often number (deleted (upgraded_from steps first xs)) ≤ 1) × (end_of steps number < first → often number (deleted (upgraded_from steps first xs)) ≡ 0)
often_from steps [] first number = ((λ h. omega arith), (λ h. refl))
often_from steps (x ∷ []) first number = ((λ h. omega arith), (λ h. refl))
often_from steps (x ∷ y ∷ ys) first number =
    let rest = often_from steps (y ∷ ys) (first + 1) number in
    let after = deleted (upgraded_from steps (first + 1) (y ∷ ys)) in
    let all : often number (deleted (upgraded_from steps first (x ∷ y ∷ ys))) ≡ often number (ending steps first) + often number after =
    ap (λ (ns : List ℕ). often number ns) (deleted_front (ending steps first) (upgraded_from steps (first + 1) (y ∷ ys))) ∙ often_append number (ending steps first) after in
    let here : often number (ending steps first) ≤ 1 = let few = filtered_less number (λ n. end_of steps n == first) (numbers (length steps)) in let one = one_of_numbers (length steps) number in omega (arith, few, one) in
    let none_here : (end_of steps number ≡ first → ⊥) → often number (ending steps first) ≡ 0 = λ h. never number (ending steps first) (λ i. h (ending_In steps first number i).2) in (
      (λ h. elim (eqb_tells (end_of steps number) first) [
        | inl same ↦ let later = rest.1 (omega (arith, same.1)) in omega (arith, all, here, later)
        | inr other ↦ let later = rest.0 (omega (arith, h, other.1)) in let no = none_here other.1 in omega (arith, all, no, later)
      ]),
      (λ h. let later = rest.1 (omega (arith, h)) in let no = none_here (λ same. omega (arith, same, h)) in omega (arith, all, no, later)),
    )

-- ---- the law

pub deletes_at_last_use : (steps : List Step) → DeletesAtLastUse steps
deletes_at_last_use steps = record {
  same_steps = steps_same_as steps;
  behind = λ number at. (
    λ h.
        let is = deletion_is steps steps 1 number at (record { before = h.before; step = h.step; numbers = h.numbers; after = h.after; parts = h.parts; counted = h.counted; among = h.among }) in
        let ends = ending_In steps at number is.0 in
        (omega (arith, ends.0), ends.1, subst (λ (k : ℕ). IsLastUse steps number k) ends.2 (end_is_last_use steps number), omega (arith, is.1)),
    λ h.
        let end = last_use_is_end steps number at h.2 in
        let e = h.2.used in
        let low : number ≤ at = elim e [ inl same ↦ omega (arith, same) | inr w ↦ omega (arith, w.0) ] in
        let d = has_deletion steps steps 1 number at (In_ending steps at number (omega (arith, h.0)) h.1 (sym end)) (omega (arith, h.0, low)) (omega (arith, h.3)) in
        record { before = d.before; step = d.step; numbers = d.numbers; after = d.after; parts = d.parts; counted = d.counted; among = d.among },
  );
  once = λ number. elim (leb_tells 1 (end_of steps number)) [
    | inl low ↦ (often_from steps steps 1 number).0 low.1
    | inr none ↦ let no = (often_from steps steps 1 number).1 none.1 in omega (arith, no)
  ];
}
