-- Of any entries there is a finding, since each part of what makes an entry right can be decided.
use Rattle.std.proofs.Common.{◌≡◌, ℕ, zero, suc, ◌+◌, ◌-◌, ◌<◌, ◌≤◌, ◌⊎◌, inl, inr, Bool, true, false, List, [], ◌∷◌, ◌++◌, length, take, slice_get, Option, Some, None, is_some, refl, sym, ap, ◌∙◌, subst, append_assoc, arith}
use Rattle.std.specs.Prelude.{ℤ, pos, MatchOption, IsSomeAnd}
use Rattle.std.specs.List.{AllZip}
use Rattle.std.specs.Ordering.{int_eq}
use Rattle.std.proofs.lemmas.Bool.Decides.{Decides-int_eq, leb_tells}
use Rattle.std.proofs.lemmas.List.{append-nil}
use Rattle.dcsp_common.proofs.Items.{get_front}
use Rattle.dcsp_defs.specs.declared.nogood.Pair.{Pair}
use Rattle.dcsp_defs.specs.Pairs.{IsRising, var_at, value_at}
use Rattle.dcsp_defs.specs.Words.{In}
use Rattle.dcsp_defs.specs.Csp.{Csp, Constraint, Nogood, PartialAssignment, is_violated, agrees, given_with, domain, count}
use Rattle.dcsp_defs.specs.Derivation.{IsKnownPair, IsFalseAlone, IsRightNowhere, EndsEmpty}
use Rattle.dcsp_defs.specs.declared.Step.{Step}
use Rattle.dcsp_defs.specs.declared.Reason.{Reason}
use Rattle.dcsp_defs.specs.declared.Reason.TheVariants.{Rule, Earlier}
use Rattle.dcsp_defs.proofs.Lists.{get-more, get-last}
use Rattle.dcsp_defs.specs.declared.entry.Entry.{Entry}
use Rattle.dcsp_defs.specs.declared.entry.Entry.TheVariants.{Step as A_step, Delete}
use Rattle.ngd_check.specs.declared.Finding.{Finding}
use Rattle.ngd_check.specs.declared.Finding.TheVariants.{Verified, BadStep, BadDeletion, NotEmpty}
use Rattle.ngd_check.specs.Citing.{Cited, AgreesWith, IsReasonUnder, IsReasonCiting, IsRightAtCiting}
use Rattle.ngd_check.specs.Entries.{steps_of, cited_after, IsRightEntry, AreRight}
use Rattle.ngd_check.specs.Findings.{IsFirstWrongEntry, IsFindingOf}
use Rattle.law_subjects.specs.Finding.{EntriesHaveFinding}

-- it holds, or it does not
abbrev Decided : Type 0 → Type 0
Decided P = P ⊎ (P → ⊥)

both : {P Q : Type 0} → Decided P → Decided Q → Decided (P × Q)
both (inl p) (inl q) = inl (p, q)
both (inl p) (inr q) = inr (λ h. q h.1)
both (inr p) q = inr (λ h. p h.0)

-- the same under another name
as_well : {P Q : Type 0} → (P → Q) → (Q → P) → Decided P → Decided Q
as_well to back (inl p) = inl (to p)
as_well to back (inr p) = inr (λ q. p (back q))

is_true : (b : Bool) → Decided (b ≡ true)
is_true true = inl refl
is_true false = inr (λ e. cc)

is_false : (b : Bool) → Decided (b ≡ false)
is_false true = inr (λ e. cc)
is_false false = inl refl

is_below : (m n : ℕ) → Decided (m < n)
is_below m n = elim (leb_tells n m) [ inl more ↦ inr (λ h. omega (arith, more.1, h)) | inr less ↦ inl less.1 ]

same_integer : (x y : ℤ) → Decided (x ≡ y)
same_integer x y =
    let tells = Decides-int_eq x y in
    (elim (int_eq x y) as (λ b. int_eq x y ≡ b → Decided (x ≡ y)) [ true ↦ λ e. inl (tells.0 e) | false ↦ λ e. inr (λ same. let is = tells.1 same in cc) ]) refl

is_nil : {X : Type 0} (xs : List X) → Decided (xs ≡ [])
is_nil [] = inl refl
is_nil (x ∷ xs) = inr (λ e. cc)

is_none : {X : Type 0} (o : Option X) → Decided (o ≡ None)
is_none None = inl refl
is_none (Some x) = inr (λ e. cc)

is_member : (x : ℤ) (xs : List ℤ) → Decided (In x xs)
is_member x [] = inr (λ i. i)
is_member x (y ∷ ys) = elim (same_integer x y) [
  | inl same ↦ inl (inl same)
  | inr other ↦ elim (is_member x ys) [ inl i ↦ inl (inr i) | inr no_other ↦ inr (λ i. elim i [ inl e ↦ other e | inr j ↦ no_other j ]) ]
]

not_less : (k n : ℕ) → (k < n → ⊥) → n ≤ k
not_less k n h = elim (leb_tells n k) [ inl least ↦ least.1 | inr less ↦ absurd (h less.1) ]

some_same : {X : Type 0} (x y : X) → Some x ≡ Some y → x ≡ y
some_same x y h = cc

-- what is decided of each item is decided of all
of_all : {X : Type 0} (P : X → Type 0) → ((x : X) → Decided (P x)) → (xs : List X) → Decided ((x : X) → In x xs → P x)
of_all P decide [] = inl (λ x i. absurd i)
of_all {X = X} P decide (y ∷ ys) = elim (decide y) [
  | inr not_y ↦ inr (λ h. not_y (h y (inl refl)))
  | inl is_y ↦ elim (of_all P decide ys) [
    | inl rest ↦ inl (λ x i. elim i [ inl e ↦ let at : P x = subst P (sym e) is_y in at | inr j ↦ rest x j ])
    | inr not_rest ↦ inr (λ h. not_rest (λ x i. h x (inr i)))
  ]
]

-- and of each number below another
of_below : (P : ℕ → Type 0) → ((k : ℕ) → Decided (P k)) → (n : ℕ) → Decided ((k : ℕ) → k < n → P k)
of_below P decide zero = inl (λ k l. absurd (omega (arith, l)))
of_below P decide (suc n) = elim (of_below P decide n) [
  | inr not_all ↦ inr (λ h. not_all (λ k l. h k (omega (arith, l))))
  | inl all ↦ elim (decide n) [
    | inr not_n ↦ inr (λ h. not_n (h n (omega arith)))
    | inl is_n ↦ inl (λ k l. elim (is_below k n) [ inl less ↦ all k less | inr last ↦ let e : n ≡ k = omega (arith, l, not_less k n last) in subst P e is_n ])
  ]
]

of_each : {A B : Type 0} (R : A → B → Type 0) → ((a : A) (b : B) → Decided (R a b)) → (xs : List A) (ys : List B) → Decided (AllZip R xs ys)
of_each R decide [] [] = inl tt
of_each R decide [] (y ∷ ys) = inr (λ h. h)
of_each R decide (x ∷ xs) [] = inr (λ h. h)
of_each R decide (x ∷ xs) (y ∷ ys) = both (decide x y) (of_each R decide xs ys)

-- ---- reasons

constraint_there : (p : Csp) (number : ℕ) (test : Constraint → Bool) (wanted : Bool) → ((b : Bool) → Decided (b ≡ wanted)) → Decided ((c : Constraint) × (slice_get p.constraints number ≡ Some c) × (test c ≡ wanted))
constraint_there p number test wanted decide = by_place (slice_get p.constraints number) refl where
  by_place : (o : Option Constraint) → slice_get p.constraints number ≡ o → Decided ((c : Constraint) × (slice_get p.constraints number ≡ Some c) × (test c ≡ wanted))
  by_place None is = inr (λ h. let there = h.1 in cc)
  by_place (Some c) is = elim (decide (test c)) [
    | inl holds ↦ inl (c, is, holds)
    | inr other ↦ inr (λ h. let same : h.0 ≡ c = some_same h.0 c (sym h.1 ∙ is) in other (ap test (sym same) ∙ h.2))
  ]

agreeing : (cited : Cited) (known : PartialAssignment) (number : ℕ) → Decided (AgreesWith cited known number)
agreeing cited known number = by_place (cited number) refl where
  by_place : (o : Option Nogood) → cited number ≡ o → Decided (AgreesWith cited known number)
  by_place None is = inr (λ h. let there = h.1 in cc)
  by_place (Some nogood) is = elim (is_true (agrees known nogood)) [
    | inl holds ↦ inl (nogood, is, holds)
    | inr other ↦ inr (λ h. let same : h.0 ≡ nogood = some_same h.0 nogood (sym h.1 ∙ is) in other (ap (agrees known) (sym same) ∙ h.2))
  ]

reason_decided : (p : Csp) (cited : Cited) (known : PartialAssignment) (reason : Reason) → Decided (IsReasonUnder p cited known reason)
reason_decided p cited known (Rule number) = constraint_there p number (is_violated known) true is_true
reason_decided p cited known (Earlier number) = agreeing cited known number

-- ---- steps

-- at a place of the pairs, which may be the last, they rise
abbrev RisesAt : List Pair → ℕ → Type 0
RisesAt pairs k = (k + 1 < length pairs → ⊥) ⊎ (var_at pairs k < var_at pairs (k + 1))

rises_at : (pairs : List Pair) (k : ℕ) → Decided (RisesAt pairs k)
rises_at pairs k = elim (is_below (k + 1) (length pairs)) [
  | inr last ↦ inl (inl last)
  | inl within ↦ elim (is_below (var_at pairs k) (var_at pairs (k + 1))) [ inl rises ↦ inl (inr rises) | inr falls ↦ inr (λ h. elim h [ inl last ↦ last within | inr rises ↦ falls rises ]) ]
]

known_pair : (p : Csp) (y : Pair) → Decided (IsKnownPair p y)
known_pair p y = as_well (λ h. record { variable = h.0; value = h.1 }) (λ k. (k.variable, k.value)) (both (is_below y.var (count p)) (is_member y.value (domain p y.var)))

rising_decided : (pairs : List Pair) → Decided (IsRising pairs)
rising_decided pairs =
    as_well
    (λ h k l. elim (is_below k (length pairs)) [ inl less ↦ above k l (h k less) | inr more ↦ absurd (let least = not_less k (length pairs) more in omega (arith, l, least)) ])
    (λ h k less. by_place k h)
    (of_below (λ k. RisesAt pairs k) (λ k. rises_at pairs k) (length pairs))
  where
    above : (k : ℕ) → k + 1 < length pairs → RisesAt pairs k → var_at pairs k < var_at pairs (k + 1)
    above k l (inl last) = absurd (last l)
    above k l (inr rises) = rises

    by_place : (k : ℕ) → IsRising pairs → RisesAt pairs k
    by_place k h = elim (is_below (k + 1) (length pairs)) [ inl less ↦ inr (h k less) | inr last ↦ inl last ]

right_at : (p : Csp) (cited : Cited) (x : ℕ) (step : Step) → Decided (IsRightAtCiting p cited x step)
right_at p cited x step =
    as_well
    (λ h. record { variable = h.0.0; rising = h.0.1; pairs = h.1.0; other = h.1.1.0; reasons = h.1.1.1 })
    (λ k. ((k.variable, k.rising), (k.pairs, (k.other, k.reasons))))
    (both (both (is_below x (count p)) (rising_decided step.nogood))
    (both (of_all (IsKnownPair p) (known_pair p) step.nogood)
    (both (is_none (value_at step.nogood x))
    (of_each (IsReasonCiting p cited step.nogood x) (λ v reason. reason_decided p cited (given_with x v step.nogood) reason) (domain p x) step.reasons))))

alone_decided : (p : Csp) (number : ℕ) → Decided (IsFalseAlone p number)
alone_decided p number = by_place (slice_get p.constraints number) refl where
  by_place : (o : Option Constraint) → slice_get p.constraints number ≡ o → Decided (IsFalseAlone p number)
  by_place None is = inr (λ h. let there = h.there in cc)
  by_place (Some c) is =
      let same : (h : IsFalseAlone p number) → h.constraint ≡ c = λ h. some_same h.constraint c (sym h.there ∙ is) in
      as_well
      (λ h. record { constraint = c; there = is; scope = h.0; violated = h.1 })
      (λ (h : IsFalseAlone p number). (ap (λ (d : Constraint). d.scope) (sym (same h)) ∙ h.scope, ap (λ (d : Constraint). d.test (λ k. pos 0)) (sym (same h)) ∙ h.violated))
      (both (is_nil c.scope) (is_false (c.test (λ k. pos 0))))

nowhere_decided : (p : Csp) (step : Step) (reasons : List Reason) → step.reasons ≡ reasons → Decided (IsRightNowhere p step)
nowhere_decided p step [] is = inr (λ h. let r = h.reasons in cc)
nowhere_decided p step (Earlier n ∷ []) is = inr (λ h. let r = h.reasons in cc)
nowhere_decided p step (reason ∷ next ∷ more) is = inr (λ h. let r = h.reasons in cc)
nowhere_decided p step (Rule n ∷ []) is =
    as_well
    (λ h. record { nogood = h.0; number = n; reasons = is; alone = h.1 })
    (λ (h : IsRightNowhere p step). (h.nogood, subst (λ (m : ℕ). IsFalseAlone p m) (let r : Rule h.number ∷ [] ≡ Rule n ∷ [] = sym h.reasons ∙ is in let same : h.number ≡ n = cc in same) h.alone))
    (both (is_nil step.nogood) (alone_decided p n))

step_decided : (p : Csp) (cited : Cited) (step : Step) (variable : Option ℕ) → Decided (MatchOption variable (IsRightNowhere p step) (λ x. IsRightAtCiting p cited x step))
step_decided p cited step None = nowhere_decided p step step.reasons refl
step_decided p cited step (Some x) = right_at p cited x step

entry_decided : (p : Csp) (before : List Entry) (entry : Entry) → Decided (IsRightEntry p before entry)
entry_decided p before (A_step step) = step_decided p (cited_after before) step step.variable
entry_decided p before (Delete numbers) = of_all (λ number. is_some (cited_after before number) ≡ true) (λ number. is_true (is_some (cited_after before number))) numbers

-- ---- entries, one after the other

-- all are right, or one is the first that is not
record RightOrWrong (p : Csp) (entries : List Entry) : Type 0 where
  found : AreRight p entries ⊎ ((place : ℕ) × (entry : Entry) × IsFirstWrongEntry p entries place entry)

take_front : {X : Type 0} (xs ys : List X) (k : ℕ) (x : X) → slice_get xs k ≡ Some x → take k (xs ++ ys) ≡ take k xs
take_front [] ys k x h = cc
take_front (y ∷ xs) ys zero x h = refl
take_front (y ∷ xs) ys (suc k) x h = ap (λ zs. y ∷ zs) (take_front xs ys k x h)

take_all_front : {X : Type 0} (xs ys : List X) → take (length xs) (xs ++ ys) ≡ xs
take_all_front [] ys = refl
take_all_front (x ∷ xs) ys = ap (λ zs. x ∷ zs) (take_all_front xs ys)

right_more : (p : Csp) (entries : List Entry) (entry : Entry) → AreRight p entries → IsRightEntry p entries entry → AreRight p (entries ++ entry ∷ [])
right_more p entries entry all last k e there = elim (get-more entries entry e k there) [
  | inl before ↦ subst (λ (es : List Entry). IsRightEntry p es e) (sym before.1) (all k e before.0)
  | inr here ↦ subst (λ (es : List Entry). IsRightEntry p es e) (sym here.1) (subst (λ (x : Entry). IsRightEntry p entries x) (sym here.0) last)
]

wrong_stays : (p : Csp) (entries more : List Entry) (place : ℕ) (entry : Entry) → IsFirstWrongEntry p entries place entry → IsFirstWrongEntry p (entries ++ more) place entry
wrong_stays p entries more place entry h =
    let front : take place (entries ++ more) ≡ take place entries = take_front entries more place entry h.there in
    record {
      there = get_front entries more place entry h.there;
      right_before = subst (λ (es : List Entry). AreRight p es) (sym front) h.right_before;
      wrong = λ r. h.wrong (subst (λ (es : List Entry). IsRightEntry p es entry) front r);
    }

wrong_here : (p : Csp) (entries : List Entry) (entry : Entry) → AreRight p entries → (IsRightEntry p entries entry → ⊥) → IsFirstWrongEntry p (entries ++ entry ∷ []) (length entries) entry
wrong_here p entries entry all wrong =
    let front = take_all_front entries (entry ∷ []) in
    record {
      there = get-last entries entry;
      right_before = subst (λ (es : List Entry). AreRight p es) (sym front) all;
      wrong = λ r. wrong (subst (λ (es : List Entry). IsRightEntry p es entry) front r);
    }

-- behind entries that are right, with these to come
right_or_wrong : (p : Csp) (done left : List Entry) → AreRight p done → RightOrWrong p (done ++ left)
right_or_wrong p done [] all = record { found = inl (subst (λ (es : List Entry). AreRight p es) (sym (append-nil done)) all) }
right_or_wrong p done (entry ∷ left) all =
    let same : (done ++ entry ∷ []) ++ left ≡ done ++ entry ∷ left = append_assoc done (entry ∷ []) left in
    elim (entry_decided p done entry) [
      | inl right ↦ subst (λ (es : List Entry). RightOrWrong p es) same (right_or_wrong p (done ++ entry ∷ []) left (right_more p done entry all right))
      | inr wrong ↦ subst (λ (es : List Entry). RightOrWrong p es) same (record { found = inr (length done, entry, wrong_stays p (done ++ entry ∷ []) left (length done) entry (wrong_here p done entry all wrong)) })
    ]

ends_decided : (steps : List Step) → Decided (EndsEmpty steps)
ends_decided steps = by_last (slice_get steps (length steps - 1)) where
  by_last : (o : Option Step) → Decided (IsSomeAnd o (λ (step : Step). step.nogood ≡ []))
  by_last None = inr (λ h. h)
  by_last (Some step) = is_nil step.nogood

wrong_found : (p : Csp) (entries : List Entry) (place : ℕ) (entry : Entry) → IsFirstWrongEntry p entries place entry → (finding : Finding) × IsFindingOf p entries finding
wrong_found p entries place (A_step step) h = (BadStep (length (steps_of (take place entries)) + 1), record { place = place; step = step; first = h; numbered = refl })
wrong_found p entries place (Delete numbers) h = (BadDeletion (length (steps_of (take place entries))), record { place = place; numbers = numbers; first = h; counted = refl })

pub entries_have_finding : (p : Csp) → EntriesHaveFinding p
entries_have_finding p entries = elim (right_or_wrong p [] entries (λ k e there. cc)).found [
  | inr wrong ↦ wrong_found p entries wrong.0 wrong.1 wrong.2
  | inl right ↦ elim (ends_decided (steps_of entries)) [
    | inl ends ↦ (Verified, record { right = right; ends = ends })
    | inr elsewhere ↦ (NotEmpty, record { right = right; not_empty = elsewhere })
  ]
]
