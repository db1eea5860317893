-- What is found of steps is what is found of them as entries.
use Rattle.std.proofs.Common.{◌≡◌, ◌≤◌, ◌-◌, ℕ, zero, suc, List, [], ◌∷◌, length, take, slice_get, Some, refl, sym, ap, ◌∙◌, subst, arith}
use Rattle.dcsp_defs.specs.declared.Step.{Step}
use Rattle.dcsp_defs.specs.Csp.{Csp}
use Rattle.dcsp_defs.specs.Derivation.{IsRight, IsDerivation, EndsEmpty}
use Rattle.dcsp_defs.specs.declared.entry.Entry.{Entry}
use Rattle.dcsp_defs.specs.declared.entry.Entry.TheVariants.{Step as A_step, Delete}
use Rattle.ngd_check.specs.declared.Finding.TheVariants.{Verified, BadStep, BadDeletion, NotEmpty}
use Rattle.ngd_check.specs.Citing.{IsRightCiting, nogood_at}
use Rattle.ngd_check.specs.Entries.{steps_of, cited_after, IsRightEntry, AreRight, entries_of}
use Rattle.ngd_check.specs.Findings.{IsFirstWrong, IsFirstWrongEntry, IsFirstWrongStep, IsFirstWrongDeletion, IsFoundAlike}
use Rattle.ngd_check.proofs.Parts.{within}
use Rattle.ngd_check.proofs.Citing.{right_more, right_to, right_from}
use Rattle.ngd_check.proofs.Forms.{steps_back, take_entries, entry_step, nogood_cited, cited_nogood, derivation_enters, entries_leave, one_form}

-- a step is right after steps exactly if it is a right entry after them
step_enters : (p : Csp) (steps : List Step) (k : ℕ) (s : Step) → IsRight p (take k steps) s → IsRightEntry p (take k (entries_of steps)) (A_step s)
step_enters p steps k s h = subst (λ (before : List Entry). IsRightEntry p before (A_step s)) (sym (take_entries steps k)) (right_more p (nogood_at (take k steps)) (cited_after (entries_of (take k steps))) (nogood_cited (take k steps)) s (right_to p (take k steps) s h))

step_leaves : (p : Csp) (steps : List Step) (k : ℕ) (s : Step) → IsRightEntry p (take k (entries_of steps)) (A_step s) → IsRight p (take k steps) s
step_leaves p steps k s h =
    let before = entries_of (take k steps) in
    let cites : IsRightCiting p (cited_after before) s = subst (λ (es : List Entry). IsRightEntry p es (A_step s)) (take_entries steps k) h in
    subst (λ (earlier : List Step). IsRight p earlier s) (steps_back (take k steps)) (right_from p (steps_of before) s (right_more p (cited_after before) (nogood_at (steps_of before)) (cited_nogood before) s cites))

step_entry : (steps : List Step) (k : ℕ) (s : Step) → slice_get steps k ≡ Some s → slice_get (entries_of steps) k ≡ Some (A_step s)
step_entry [] k s h = cc
step_entry (t ∷ steps) zero s h = let e : t ≡ s = cc in ap (λ (u : Step). Some (A_step u)) e
step_entry (t ∷ steps) (suc k) s h = step_entry steps k s h

length_front : {X : Type 0} (xs : List X) (k : ℕ) → k ≤ length xs → length (take k xs) ≡ k
length_front xs zero l = refl
length_front [] (suc k) l = absurd (omega arith)
length_front (x ∷ xs) (suc k) l = ap suc (length_front xs k (omega arith))

-- how many steps stand before a place
steps_before : (steps : List Step) (k : ℕ) → k ≤ length steps → length (steps_of (take k (entries_of steps))) ≡ k
steps_before steps k l = ap (λ (es : List Entry). length (steps_of es)) (take_entries steps k) ∙ (ap length (steps_back (take k steps)) ∙ length_front steps k l)

wrong_enters : (p : Csp) (steps : List Step) (number : ℕ) → IsFirstWrong p steps number → IsFirstWrongStep p (entries_of steps) number
wrong_enters p steps zero w = let t = w.there in absurd cc
wrong_enters p steps (suc k) w =
    let place : suc k - 1 ≡ k = omega arith in
    let l = within steps k w.step w.there in
    let before : IsDerivation p (take k steps) = subst (λ (n : ℕ). IsDerivation p (take n steps)) place w.right_before in
    record {
      place = k;
      step = w.step;
      first = record {
        there = step_entry steps k w.step w.there;
        right_before = subst (AreRight p) (sym (take_entries steps k)) (derivation_enters p (take k steps) before);
        wrong = λ r. w.wrong (subst (λ (n : ℕ). IsRight p (take n steps) w.step) (sym place) (step_leaves p steps k w.step r));
      };
      numbered = omega (arith, steps_before steps k (omega (arith, l)));
    }

wrong_leaves : (p : Csp) (steps : List Step) (number : ℕ) → IsFirstWrongStep p (entries_of steps) number → IsFirstWrong p steps number
wrong_leaves p steps number w =
    let r = entry_step steps w.place (A_step w.step) w.first.there in
    let same : w.step ≡ r.0 = let e = r.2 in cc in
    let there : slice_get steps w.place ≡ Some w.step = r.1 ∙ ap Some (sym same) in
    let l = within steps w.place w.step there in
    let number_is : number ≡ suc w.place = omega (arith, w.numbered, steps_before steps w.place (omega (arith, l))) in
    subst (IsFirstWrong p steps) (sym number_is) (at w.place w.step there w.first)
  where
    at : (k : ℕ) (s : Step) → slice_get steps k ≡ Some s → IsFirstWrongEntry p (entries_of steps) k (A_step s) → IsFirstWrong p steps (suc k)
    at k s there first =
        let place : suc k - 1 ≡ k = omega arith in
        record {
          step = s;
          there = there;
          right_before = subst (λ (n : ℕ). IsDerivation p (take n steps)) (sym place) (entries_leave p (take k steps) (subst (AreRight p) (take_entries steps k) first.right_before));
          wrong = λ h. first.wrong (step_enters p steps k s (subst (λ (n : ℕ). IsRight p (take n steps) s) place h));
        }

no_deletion : (p : Csp) (steps : List Step) (after : ℕ) → IsFirstWrongDeletion p (entries_of steps) after → ⊥
no_deletion p steps after w = let r = entry_step steps w.place (Delete w.numbers) w.first.there in let e = r.2 in cc

pub found_alike : (p : Csp) (steps : List Step) → IsFoundAlike p steps
found_alike p steps Verified = (one_form p steps).refutation
found_alike p steps (BadStep number) = (wrong_enters p steps number, wrong_leaves p steps number)
found_alike p steps (BadDeletion after) = (λ h. absurd h, λ w. no_deletion p steps after w)
found_alike p steps NotEmpty = (
  λ h. record { right = derivation_enters p steps h.right; not_empty = λ e. h.not_empty (subst EndsEmpty (steps_back steps) e) },
  λ h. record { right = entries_leave p steps h.right; not_empty = λ e. h.not_empty (subst EndsEmpty (sym (steps_back steps)) e) },
)
