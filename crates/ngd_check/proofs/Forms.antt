-- Right entries and derivations.
use Rattle.std.proofs.Common.{◌≡◌, ℕ, zero, suc, Bool, true, false, cond, List, [], ◌∷◌, take, slice_get, Some, None, refl, sym, ap, subst}
use Rattle.dcsp_defs.specs.declared.Step.{Step}
use Rattle.dcsp_defs.specs.Csp.{Csp}
use Rattle.dcsp_defs.specs.Derivation.{IsRight, IsDerivation, EndsEmpty}
use Rattle.dcsp_defs.proofs.Sound.{nogoods_exclude, refutations_refute}
use Rattle.dcsp_defs.specs.declared.entry.Entry.{Entry}
use Rattle.dcsp_defs.specs.declared.entry.Entry.TheVariants.{Step as A_step, Delete}
use Rattle.ngd_check.specs.Citing.{IsRightCiting, nogood_at}
use Rattle.ngd_check.specs.Entries.{steps_of, is_deleted, cited_after, IsRightEntry, AreRight, entries_of, EntriesExclude, EntriesRefute, AreOneForm}
use Rattle.ngd_check.proofs.Citing.{CitesAll, right_more, right_to, right_from}

-- where a step stands among the entries
step_place : (es : List Entry) (k : ℕ) (s : Step) → slice_get (steps_of es) k ≡ Some s → (j : ℕ) × (slice_get es j ≡ Some (A_step s)) × (steps_of (take j es) ≡ take k (steps_of es))
step_place [] k s h = cc
step_place (A_step t ∷ es) zero s h = let e : t ≡ s = cc in (0, ap (λ (x : Step). Some (A_step x)) e, refl)
step_place (A_step t ∷ es) (suc k) s h = let r = step_place es k s h in (suc r.0, r.1, ap (λ (xs : List Step). t ∷ xs) r.2)
step_place (Delete ns ∷ es) k s h = let r = step_place es k s h in (suc r.0, r.1, r.2)

-- what a number cites is the nogood of its step
pub cited_nogood : (es : List Entry) → CitesAll (cited_after es) (nogood_at (steps_of es))
cited_nogood es n g h = by_deleted (is_deleted es n) h
  where
    by_deleted : (b : Bool) → cond b None (nogood_at (steps_of es) n) ≡ Some g → nogood_at (steps_of es) n ≡ Some g
    by_deleted true h = cc
    by_deleted false h = h

-- the steps of right entries are a derivation
pub entries_derive : (p : Csp) (es : List Entry) → AreRight p es → IsDerivation p (steps_of es)
entries_derive p es h = λ k s there.
    let r = step_place es k s there in
    let before = take r.0 es in
    let cites : IsRightCiting p (cited_after before) s = h r.0 (A_step s) r.1 in
    subst (λ (earlier : List Step). IsRight p earlier s) r.2 (right_from p (steps_of before) s (right_more p (cited_after before) (nogood_at (steps_of before)) (cited_nogood before) s cites))

pub entries_exclude : (p : Csp) → EntriesExclude p
entries_exclude p ok es h = nogoods_exclude p ok (steps_of es) (entries_derive p es h)

pub entries_refute : (p : Csp) → EntriesRefute p
entries_refute p ok es h = refutations_refute p ok (steps_of es) (record { right = entries_derive p es h.right; ends = h.ends })

pub steps_back : (steps : List Step) → steps_of (entries_of steps) ≡ steps
steps_back [] = refl
steps_back (s ∷ steps) = ap (λ (xs : List Step). s ∷ xs) (steps_back steps)

pub none_deleted : (steps : List Step) (n : ℕ) → is_deleted (entries_of steps) n ≡ false
none_deleted [] n = refl
none_deleted (s ∷ steps) n = none_deleted steps n

pub take_entries : (steps : List Step) (k : ℕ) → take k (entries_of steps) ≡ entries_of (take k steps)
take_entries steps zero = refl
take_entries [] (suc k) = refl
take_entries (s ∷ steps) (suc k) = ap (λ (xs : List Entry). A_step s ∷ xs) (take_entries steps k)

pub entry_step : (steps : List Step) (k : ℕ) (e : Entry) → slice_get (entries_of steps) k ≡ Some e → (s : Step) × (slice_get steps k ≡ Some s) × (e ≡ A_step s)
entry_step [] k e h = cc
entry_step (s ∷ steps) zero e h = let same : e ≡ A_step s = cc in (s, refl, same)
entry_step (s ∷ steps) (suc k) e h = entry_step steps k e h

-- without deletions a number cites the nogood of its step
pub nogood_cited : (steps : List Step) → CitesAll (nogood_at steps) (cited_after (entries_of steps))
nogood_cited steps n g h = rw (none_deleted steps n, steps_back steps) h

pub derivation_enters : (p : Csp) (steps : List Step) → IsDerivation p steps → AreRight p (entries_of steps)
derivation_enters p steps h = λ k e there.
    let r = entry_step steps k e there in
    let cites : IsRightCiting p (cited_after (entries_of (take k steps))) r.0 = right_more p (nogood_at (take k steps)) (cited_after (entries_of (take k steps))) (nogood_cited (take k steps)) r.0 (right_to p (take k steps) r.0 (h k r.0 r.1)) in
    subst (λ (x : Entry). IsRightEntry p (take k (entries_of steps)) x) (sym r.2) (subst (λ (before : List Entry). IsRightEntry p before (A_step r.0)) (sym (take_entries steps k)) cites)

pub entries_leave : (p : Csp) (steps : List Step) → AreRight p (entries_of steps) → IsDerivation p steps
entries_leave p steps h = subst (IsDerivation p) (steps_back steps) (entries_derive p (entries_of steps) h)

pub one_form : (p : Csp) (steps : List Step) → AreOneForm p steps
one_form p steps = record {
  derivation = (derivation_enters p steps, entries_leave p steps);
  refutation = (
    λ h. record { right = derivation_enters p steps h.right; ends = subst EndsEmpty (sym (steps_back steps)) h.ends },
    λ h. record { right = entries_leave p steps h.right; ends = subst EndsEmpty (steps_back steps) h.ends },
  );
}
