-- Marks, and what marked steps cite.
use Rattle.std.proofs.Common.{◌≡◌, ℕ, zero, suc, ◌-◌, ◌<◌, Bool, true, false, ◌||◌, List, [], ◌∷◌, ◌++◌, length, slice_get, Some, inl, inr, refl, sym, ap, ◌∙◌, subst, arith}
use Rattle.std.specs.List.{list_any}
use Rattle.std.specs.Prelude.{slice_index_or}
use Rattle.dcsp_defs.specs.declared.Step.{Step}
use Rattle.dcsp_defs.specs.Derivation.{step_at}
use Rattle.dcsp_defs.proofs.Lists.{get-In, list_any-In, or_cases, or_left, or_right}
use Rattle.ngd_check.proofs.Once.{compared}
use Rattle.ngd_rewrite.specs.Needed.{cites, IsNeeded, is_last, is_cited_by}
use Rattle.ngd_rewrite.specs.Marks.{is_marked, CiteBack}

pub or_later : (a b c : Bool) → ((a || b) || c) ≡ (a || (b || c))
or_later true b c = refl
or_later false b c = refl

or_none : (b : Bool) → (b || false) ≡ b
or_none true = refl
or_none false = refl

pub any_more : {X : Type 0} (q : X → Bool) (xs : List X) (x : X) → list_any q (xs ++ x ∷ []) ≡ (list_any q xs || q x)
any_more q [] x = or_none (q x)
any_more q (y ∷ ys) x = ap (λ b. q y || b) (any_more q ys x) ∙ sym (or_later (q y) (list_any q ys) (q x))

-- what stands at a place and passes is among those that pass
pub any_at : {X : Type 0} (q : X → Bool) (xs : List X) (k : ℕ) (x : X) → slice_get xs k ≡ Some x → q x ≡ true → list_any q xs ≡ true
any_at q xs k x there t = list_any-In q x xs (get-In xs k x there) t

-- the step with a number stands one place before
pub numbered_at : (steps : List Step) (number : ℕ) (s : Step) → 0 < number → slice_get steps (number - 1) ≡ Some s → step_at steps number ≡ Some s
numbered_at steps zero s l h = absurd (omega arith)
numbered_at steps (suc k) s l h = let e : suc k - 1 ≡ k = omega arith in subst (λ (n : ℕ). slice_get steps n ≡ Some s) e h

pub mark_at : (marks : List Bool) (number : ℕ) (b : Bool) → 0 < number → slice_index_or marks (number - 1) false ≡ b → is_marked marks number ≡ b
mark_at marks zero b l h = absurd (omega arith)
mark_at marks (suc k) b l h = let e : suc k - 1 ≡ k = omega arith in subst (λ (n : ℕ). slice_index_or marks n false ≡ b) e h

pub marked_above_0 : (marks : List Bool) (number : ℕ) → is_marked marks number ≡ true → 0 < number
marked_above_0 marks zero h = cc
marked_above_0 marks (suc k) h = omega arith

-- what is marked is needed
abbrev pub AreNeeded : List Step → (ℕ → Bool) → Type 0
AreNeeded steps m = (number : ℕ) → m number ≡ true → IsNeeded steps number

-- what marked steps after these many cite is marked
abbrev pub AreClosed : List Step → (ℕ → Bool) → ℕ → Type 0
AreClosed steps m left = (by : ℕ) (step : Step) (number : ℕ) → left < by → m by ≡ true → step_at steps by ≡ Some step → cites step.reasons number ≡ true → m number ≡ true

module _ (steps : List Step) (back : CiteBack steps) (m new : ℕ → Bool) (left : ℕ) (step : Step) (some : 0 < left) (there : slice_get steps (left - 1) ≡ Some step) (eq : (n : ℕ) → new n ≡ (m n || cites step.reasons n)) where
  pub needed_more : m left ≡ true → AreNeeded steps m → AreNeeded steps new
  needed_more here h = λ n t. elim (or_cases (m n) (cites step.reasons n) (sym (eq n) ∙ t)) [
    | inl old ↦ h n old
    | inr cited ↦ is_cited_by left n step (h left here) (numbered_at steps left step some there) cited
  ]

  pub closed_more : AreClosed steps m left → AreClosed steps new (left - 1)
  closed_more h = λ by s n after marked at cited. elim (compared by left) [
    | inl l ↦ absurd (omega (arith, after, l))
    | inr r ↦ elim r [
      | inl e ↦
          let both : Some s ≡ Some step = sym at ∙ (ap (step_at steps) e ∙ numbered_at steps left step some there) in
          let same : s ≡ step = cc in
          eq n ∙ or_right (m n) (cites step.reasons n) (subst (λ (t : Step). cites t.reasons n ≡ true) same cited)
      | inr l ↦ elim (or_cases (m by) (cites step.reasons by) (sym (eq by) ∙ marked)) [
        | inl old ↦ eq n ∙ or_left (m n) (cites step.reasons n) (h by s n l old at cited)
        | inr here ↦ absurd (let b = (back (left - 1) step there by here).within in omega (arith, b, l))
      ]
    ]
  ]

pub closed_stays : (steps : List Step) (m : ℕ → Bool) (left : ℕ) → m left ≡ false → AreClosed steps m left → AreClosed steps m (left - 1)
closed_stays steps m left off h = λ by s n after marked at cited. elim (compared by left) [
  | inl l ↦ absurd (omega (arith, after, l))
  | inr r ↦ elim r [
    | inl e ↦ absurd (let t : true ≡ false = sym marked ∙ (ap m e ∙ off) in cc)
    | inr l ↦ h by s n l marked at cited
  ]
]

-- all needed steps are marked
pub all_needed : (steps : List Step) (marks : List Bool) → is_marked marks (length steps) ≡ true → AreClosed steps (is_marked marks) 0 → (number : ℕ) → IsNeeded steps number → is_marked marks number ≡ true
all_needed steps marks last closed number (is_last n e) = subst (λ (k : ℕ). is_marked marks k ≡ true) (sym e) last
all_needed steps marks last closed number (is_cited_by by n s h at cited) =
    let t = all_needed steps marks last closed by h in
    closed by s n (marked_above_0 marks by t) t at cited
