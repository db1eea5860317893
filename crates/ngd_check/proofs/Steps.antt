-- One step of a checker.
use Rattle.std.proofs.Common.{◌≡◌, ◌+◌, ◌==◌, ◌↔◌, ap, ℕ, Bool, true, false, cond, List, [], ◌∷◌, ◌++◌, length, Option, Some, None, is_some, MatchOption, refl, sym, ◌∙◌, subst, All, inl, inr, arith}
use Rattle.std.specs.List.{list_any}
use Rattle.std.proofs.lemmas.Bool.Decides.{eqb_tells}
use Rattle.dcsp_defs.specs.declared.Step.{Step}
use Rattle.dcsp_defs.specs.Csp.{Nogood, IsCsp, HasNoSolution}
use Rattle.dcsp_rule.specs.Problems.{csp_of}
use Rattle.dcsp_defs.specs.declared.lent.Lent.{Lent}
use Rattle.dcsp_defs.specs.declared.lent.Lent.TheVariants as lents
use Rattle.ngd_log.specs.Lent.{lent_entries}
use Rattle.dcsp_defs.specs.declared.entry.Entry.{Entry}
use Rattle.dcsp_defs.specs.declared.entry.Entry.TheVariants.{Step as A_step, Delete}
use Rattle.ngd_check.specs.declared.Finding.{Finding}
use Rattle.ngd_check.specs.declared.Finding.TheVariants.{Verified, BadStep, BadDeletion, NotEmpty}
use Rattle.ngd_check.proofs.Growing.{steps_more, steps_same}
use Rattle.ngd_check.proofs.Once.{one_finding_of}
use Rattle.ngd_check.specs.Citing.{IsRightCiting}
use Rattle.ngd_check.specs.Findings.{IsFirstWrongStep, IsFirstWrongDeletion, IsFindingOf}
use Rattle.ngd_check.specs.Progress.{Progress, kept_at, HasTakenRight, IsWrongAt, HasTaken, HasKept, right_steps}
use Rattle.ngd_check.proofs.Forms.{entries_refute}
use Rattle.ngd_check.proofs.Taking.{taken_step, taken_wrong_step, taken_deletion, taken_wrong_deletion, wrong_stays, wrong_found, found_right}

module _ (q : Progress) (going : q.wrong ≡ None) (es : List Entry) (h : HasTaken es q) where
  right_so_far : HasTakenRight (csp_of q.problem) es q.kept q.ends_empty
  right_so_far = subst (λ (o : Option Finding). MatchOption o (HasTakenRight (csp_of q.problem) es q.kept q.ends_empty) (IsWrongAt (csp_of q.problem) es)) going h

  pub progress_step : (s : Step) (kept : List (Option Nogood)) (steps : List Step) (c : Bool) → IsRightCiting (csp_of q.problem) (kept_at q.kept) s → kept ≡ q.kept ++ Some s.nogood ∷ [] → ((c ≡ true) ↔ (s.nogood ≡ [])) → HasTaken (es ++ A_step s ∷ []) (record { problem = q.problem; kept = kept; ends_empty = c; wrong = q.wrong; keeps = q.keeps; steps = steps })
  progress_step s kept steps c right same ends = rw (going, same) (taken_step (csp_of q.problem) es q.kept q.ends_empty right_so_far s c right ends)

  pub progress_wrong_step : (s : Step) → ¬ IsRightCiting (csp_of q.problem) (kept_at q.kept) s → IsFirstWrongStep (csp_of q.problem) (es ++ A_step s ∷ []) (length q.kept + 1)
  progress_wrong_step s wrong = taken_wrong_step (csp_of q.problem) es q.kept q.ends_empty right_so_far s wrong

  pub progress_deletion : (ns : List ℕ) (kept : List (Option Nogood)) → All (λ n. is_some (kept_at q.kept n) ≡ true) ns → length kept ≡ length q.kept → ((n : ℕ) → kept_at kept n ≡ cond (list_any (λ deleted. n == deleted) ns) None (kept_at q.kept n)) → HasTaken (es ++ Delete ns ∷ []) (record { problem = q.problem; kept = kept; ends_empty = q.ends_empty; wrong = q.wrong; keeps = q.keeps; steps = q.steps })
  progress_deletion ns kept there same cleared = rw going (taken_deletion (csp_of q.problem) es q.kept q.ends_empty right_so_far ns kept there same cleared)

  pub progress_wrong_deletion : (ns : List ℕ) → ¬ All (λ n. is_some (kept_at q.kept n) ≡ true) ns → IsFirstWrongDeletion (csp_of q.problem) (es ++ Delete ns ∷ []) (length q.kept)
  progress_wrong_deletion ns wrong = taken_wrong_deletion (csp_of q.problem) es q.kept q.ends_empty right_so_far ns wrong

-- after a first wrong entry nothing changes
pub progress_stays : (q : Progress) (f : Finding) (es : List Entry) (more : Entry) → q.wrong ≡ Some f → HasTaken es q → HasTaken (es ++ more ∷ []) q
progress_stays q f es more found h =
    let M : Option Finding → Type 0 = λ o. MatchOption o (HasTakenRight (csp_of q.problem) es q.kept q.ends_empty) (IsWrongAt (csp_of q.problem) es) in
    let N : Option Finding → Type 0 = λ o. MatchOption o (HasTakenRight (csp_of q.problem) (es ++ more ∷ []) q.kept q.ends_empty) (IsWrongAt (csp_of q.problem) (es ++ more ∷ [])) in
    subst N (sym found) (wrong_stays (csp_of q.problem) es more f (subst M found h))

-- the same of an entry that is lent
pub progress_stays_lent : (q : Progress) (f : Finding) (es : List Entry) (more : Lent) → q.wrong ≡ Some f → HasTaken es q → HasTaken (es ++ lent_entries (Some more)) q
progress_stays_lent q f es (lents.Step step) found h = progress_stays q f es (A_step step) found h
progress_stays_lent q f es (lents.Delete numbers) found h = progress_stays q f es (Delete numbers.now) found h

-- right entries that end in the empty nogood leave no solution
pub progress_refutes : (q : Progress) (es : List Entry) → IsCsp (csp_of q.problem) → HasTaken es q → q.wrong ≡ None → q.ends_empty ≡ true → HasNoSolution (csp_of q.problem)
progress_refutes q es ok h going ends = entries_refute (csp_of q.problem) ok es ((found_right (csp_of q.problem) es q.kept q.ends_empty (right_so_far q going es h)).1 ends)

-- a nogood is empty if its pairs are
pub empty_test : (xs ys : Nogood) (b : Bool) → b ≡ (length xs == 0) → xs ≡ ys → (b ≡ true) ↔ (ys ≡ [])
empty_test xs ys b e same = subst (λ (zs : Nogood). (b ≡ true) ↔ (zs ≡ [])) same (by_pairs xs e)
  where
    by_pairs : (zs : Nogood) → b ≡ (length zs == 0) → (b ≡ true) ↔ (zs ≡ [])
    by_pairs [] f = (λ _. refl, λ _. f)
    by_pairs (z ∷ zs) f = elim (eqb_tells (length (z ∷ zs)) 0) [
      | inl t ↦ absurd (let e : length (z ∷ zs) ≡ 0 = t.1 in omega arith)
      | inr t ↦ (λ u. let g : false ≡ true = sym t.0 ∙ (sym f ∙ u) in cc, λ u. cc)
    ]

pub found_some : (o : Option Finding) → is_some o ≡ true → (f : Finding) × (o ≡ Some f)
found_some None e = cc
found_some (Some f) e = (f, refl)

-- ---- the steps that are kept

module _ (q new : Progress) (es : List Entry) (h : HasKept es q) (same : new.keeps ≡ q.keeps) where
  pub kept_step : (s : Step) → q.wrong ≡ None → (q.keeps ≡ true → new.steps ≡ q.steps ++ s ∷ []) → (q.keeps ≡ false → new.steps ≡ q.steps) → HasKept (es ++ A_step s ∷ []) new
  kept_step s going more fewer = record {
    all = λ w k. more (sym same ∙ k) ∙ (ap (λ (xs : List Step). xs ++ s ∷ []) (h.all going (sym same ∙ k)) ∙ sym (steps_more es s));
    none = λ k. fewer (sym same ∙ k) ∙ h.none (sym same ∙ k);
  }

  pub kept_deletion : (ns : List ℕ) → q.wrong ≡ None → new.steps ≡ q.steps → HasKept (es ++ Delete ns ∷ []) new
  kept_deletion ns going as_before = record {
    all = λ w k. as_before ∙ (h.all going (sym same ∙ k) ∙ sym (steps_same es ns));
    none = λ k. as_before ∙ h.none (sym same ∙ k);
  }

  pub kept_wrong : (more : List Entry) (f : Finding) → new.wrong ≡ Some f → new.steps ≡ q.steps → HasKept more new
  kept_wrong more f wrong as_before = record {
    all = λ w. absurd (let e : ◌≡◌ {A = Option Finding} None (Some f) = sym w ∙ wrong in cc);
    none = λ k. as_before ∙ h.none (sym same ∙ k);
  }

-- none after a wrong entry
pub none_right : (q : Progress) (es : List Entry) (w f : Finding) (steps : List Step) → q.wrong ≡ Some w → HasTaken es q → IsFindingOf (csp_of q.problem) es f → right_steps f steps ≡ []
none_right q es w f steps wrong h found =
    let at : IsWrongAt (csp_of q.problem) es w = subst (λ (o : Option Finding). MatchOption o (HasTakenRight (csp_of q.problem) es q.kept q.ends_empty) (IsWrongAt (csp_of q.problem) es)) wrong h in
    let same : f ≡ w = one_finding_of (csp_of q.problem) es f w found (wrong_found (csp_of q.problem) es w at) in
    ap (λ (g : Finding). right_steps g steps) same ∙ by_case w at
  where
    by_case : (g : Finding) → IsWrongAt (csp_of q.problem) es g → right_steps g steps ≡ []
    by_case Verified k = absurd k
    by_case (BadStep n) k = refl
    by_case (BadDeletion n) k = refl
    by_case NotEmpty k = absurd k

-- all where each was right
pub all_right : (q : Progress) (es : List Entry) (f : Finding) (steps : List Step) → q.wrong ≡ None → HasTaken es q → IsFindingOf (csp_of q.problem) es f → right_steps f steps ≡ steps
all_right q es Verified steps going h found = refl
all_right q es NotEmpty steps going h found = refl
all_right q es (BadStep n) steps going h found = absurd (found.first.wrong ((right_so_far q going es h).right found.place (A_step found.step) found.first.there))
all_right q es (BadDeletion n) steps going h found = absurd (found.first.wrong ((right_so_far q going es h).right found.place (Delete found.numbers) found.first.there))
