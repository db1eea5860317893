-- What a checker has taken, with one entry more.
use Rattle.std.proofs.Common.{◌≡◌, ◌≤◌, ◌+◌, ◌==◌, ◌↔◌, ℕ, zero, suc, Bool, true, false, cond, List, [], ◌∷◌, ◌++◌, length, take, Option, Some, None, is_some, inl, inr, refl, sym, ap, ◌∙◌, subst, arith, All}
use Rattle.std.specs.List.{list_any}
use Rattle.std.proofs.lemmas.Bool.Decides.{eqb_tells}
use native.Mathlib.Decide.{dec_lt}
use Rattle.dcsp_defs.specs.declared.Step.{Step}
use Rattle.dcsp_defs.specs.Csp.{Csp, Nogood}
use Rattle.dcsp_defs.proofs.Lists.{get-last, or_cases, In-list_any}
use Rattle.dcsp_defs.specs.declared.entry.Entry.{Entry}
use Rattle.dcsp_defs.specs.declared.entry.Entry.TheVariants.{Step as A_step, Delete}
use Rattle.ngd_check.specs.declared.Finding.{Finding}
use Rattle.ngd_check.specs.declared.Finding.TheVariants.{Verified, BadStep, BadDeletion, NotEmpty}
use Rattle.ngd_check.specs.Citing.{IsRightCiting}
use Rattle.ngd_check.specs.Entries.{steps_of, is_deleted, cited_after, IsRightEntry, AreRight, DoRefute}
use Rattle.ngd_check.specs.Findings.{IsFirstWrongEntry, IsFirstWrongStep, IsFirstWrongDeletion, EndElsewhere, IsFindingOf}
use Rattle.ngd_check.specs.Progress.{kept_at, HasTakenRight, IsWrongAt}
use Rattle.ngd_check.proofs.Parts.{within}
use Rattle.ngd_check.proofs.Zips.{all_in, in_all}
use Rattle.ngd_check.proofs.Citing.{right_more}
use Rattle.ngd_check.proofs.Growing.{steps_more, steps_same, deleted_same, deleted_more, length_more, take_length, kept_past, cited_step, cited_deletion, right_push, ends_more, get_before}

-- no entry is taken yet
pub taken_none : (p : Csp) → HasTakenRight p [] [] false
taken_none p = record {
  right = λ k e h. cc;
  steps = refl;
  cited = none;
  named = λ n h. cc;
  ends = (λ h. cc, λ h. absurd h);
}
  where
    none : (n : ℕ) → kept_at [] n ≡ cited_after [] n
    none zero = refl
    none (suc k) = refl

module _ (p : Csp) (es : List Entry) (kept : List (Option Nogood)) (b : Bool) (h : HasTakenRight p es kept b) where
  -- a right step
  pub taken_step : (s : Step) (c : Bool) → IsRightCiting p (kept_at kept) s → ((c ≡ true) ↔ (s.nogood ≡ [])) → HasTakenRight p (es ++ A_step s ∷ []) (kept ++ Some s.nogood ∷ []) c
  taken_step s c right ends = record {
    right = right_push p es (A_step s) h.right (right_more p (kept_at kept) (cited_after es) (λ n g e. sym (h.cited n) ∙ e) s right);
    steps = length_more kept (Some s.nogood) ∙ (ap suc h.steps ∙ sym (ap length (steps_more es s) ∙ length_more (steps_of es) s));
    cited = cited_step kept es h.steps h.cited h.named s;
    named = λ n d.
        let m = h.named n (sym (deleted_same es s n) ∙ d) in
        rw (steps_more es s, length_more (steps_of es) s) (omega (arith, m));
    ends = rw (steps_more es s) (let e = ends_more (steps_of es) s in (λ t. e.1 (ends.0 t), λ t. ends.1 (e.0 t)));
  }

  -- the first wrong entry is the one more
  now_wrong : (e : Entry) → ¬ IsRightEntry p es e → IsFirstWrongEntry p (es ++ e ∷ []) (length es) e
  now_wrong e wrong = record {
    there = get-last es e;
    right_before = subst (AreRight p) (sym (take_length es (e ∷ []))) h.right;
    wrong = λ r. wrong (subst (λ (before : List Entry). IsRightEntry p before e) (take_length es (e ∷ [])) r);
  }

  -- a wrong step
  pub taken_wrong_step : (s : Step) → ¬ IsRightCiting p (kept_at kept) s → IsFirstWrongStep p (es ++ A_step s ∷ []) (length kept + 1)
  taken_wrong_step s wrong = record {
    place = length es;
    step = s;
    first = now_wrong (A_step s) (λ r. wrong (right_more p (cited_after es) (kept_at kept) (λ n g e. h.cited n ∙ e) s r));
    numbered = ap (λ k. k + 1) (h.steps ∙ ap (λ (before : List Entry). length (steps_of before)) (sym (take_length es (A_step s ∷ []))));
  }

  -- what is kept is kept of a step
  kept_within : (n : ℕ) → is_some (kept_at kept n) ≡ true → n ≤ length kept
  kept_within n e = elim (dec_lt (length kept) n) [
    | yes l ↦ absurd (let t : is_some (kept_at kept n) ≡ false = ap is_some (kept_past kept n l) in cc)
    | no l ↦ omega arith
  ]

  -- a right deletion
  pub taken_deletion : (ns : List ℕ) (new : List (Option Nogood)) → All (λ n. is_some (kept_at kept n) ≡ true) ns → length new ≡ length kept → ((n : ℕ) → kept_at new n ≡ cond (list_any (λ deleted. n == deleted) ns) None (kept_at kept n)) → HasTakenRight p (es ++ Delete ns ∷ []) new b
  taken_deletion ns new there same cleared = record {
    right = right_push p es (Delete ns) h.right (λ n u. subst (λ (o : Option Nogood). is_some o ≡ true) (h.cited n) (all_in (λ n. is_some (kept_at kept n) ≡ true) ns there n u));
    steps = same ∙ (h.steps ∙ ap length (sym (steps_same es ns)));
    cited = λ n. cleared n ∙ cited_deletion kept es h.steps h.cited h.named ns n;
    named = λ n d. elim (or_cases (is_deleted es n) (list_any (λ deleted. n == deleted) ns) (sym (deleted_more es ns n) ∙ d)) [
      | inl old ↦ let m = h.named n old in rw (steps_same es ns) m
      | inr new ↦
          let r = In-list_any (λ deleted. n == deleted) ns new in
          let m = kept_within r.0 (all_in (λ n. is_some (kept_at kept n) ≡ true) ns there r.0 r.1) in
          rw (steps_same es ns) (equal_within n r.0 r.2 (omega (arith, m, h.steps)))
    ];
    ends = rw (steps_same es ns) h.ends;
  }
    where
      equal_within : (n k : ℕ) → (n == k) ≡ true → k ≤ length (steps_of es) → n ≤ length (steps_of es)
      equal_within n k e l = elim (eqb_tells n k) [
        | inl t ↦ rw t.1 l
        | inr t ↦ absurd (let f = t.0 in cc)
      ]

  -- a wrong deletion
  pub taken_wrong_deletion : (ns : List ℕ) → ¬ All (λ n. is_some (kept_at kept n) ≡ true) ns → IsFirstWrongDeletion p (es ++ Delete ns ∷ []) (length kept)
  taken_wrong_deletion ns wrong = record {
    place = length es;
    numbers = ns;
    first = now_wrong (Delete ns) (λ r. wrong (in_all (λ n. is_some (kept_at kept n) ≡ true) ns (λ n u. subst (λ (o : Option Nogood). is_some o ≡ true) (sym (h.cited n)) (r n u))));
    counted = h.steps ∙ ap (λ (before : List Entry). length (steps_of before)) (sym (take_length es (Delete ns ∷ [])));
  }

  -- what is found of right entries
  pub found_right : DoRefute p es ↔ (b ≡ true)
  found_right = (λ r. h.ends.1 r.ends, λ t. record { right = h.right; ends = h.ends.0 t })

  pub found_elsewhere : b ≡ false → EndElsewhere p es
  found_elsewhere f = record { right = h.right; not_empty = λ e. let t = h.ends.1 e in cc }

-- the first places of entries with more
take_front : (es more : List Entry) (k : ℕ) → k ≤ length es → take k (es ++ more) ≡ take k es
take_front es more zero l = refl
take_front [] more (suc k) l = absurd (omega arith)
take_front (e ∷ es) more (suc k) l = ap (λ (xs : List Entry). e ∷ xs) (take_front es more k (omega arith))

wrong_entry_stays : (p : Csp) (es : List Entry) (more e : Entry) (place : ℕ) → IsFirstWrongEntry p es place e → IsFirstWrongEntry p (es ++ more ∷ []) place e
wrong_entry_stays p es more e place w =
    let inside = within es place e w.there in
    let same = take_front es (more ∷ []) place (omega (arith, inside)) in
    record {
      there = get_before es more place inside ∙ w.there;
      right_before = subst (AreRight p) (sym same) w.right_before;
      wrong = λ r. w.wrong (subst (λ (before : List Entry). IsRightEntry p before e) same r);
    }

-- the first wrong entry stays the first
pub wrong_stays : (p : Csp) (es : List Entry) (more : Entry) (f : Finding) → IsWrongAt p es f → IsWrongAt p (es ++ more ∷ []) f
wrong_stays p es more Verified h = absurd h
wrong_stays p es more (BadStep n) h =
    let inside = within es h.place (A_step h.step) h.first.there in
    record {
      place = h.place;
      step = h.step;
      first = wrong_entry_stays p es more (A_step h.step) h.place h.first;
      numbered = h.numbered ∙ ap (λ (before : List Entry). length (steps_of before) + 1) (sym (take_front es (more ∷ []) h.place (omega (arith, inside))));
    }
wrong_stays p es more (BadDeletion n) h =
    let inside = within es h.place (Delete h.numbers) h.first.there in
    record {
      place = h.place;
      numbers = h.numbers;
      first = wrong_entry_stays p es more (Delete h.numbers) h.place h.first;
      counted = h.counted ∙ ap (λ (before : List Entry). length (steps_of before)) (sym (take_front es (more ∷ []) h.place (omega (arith, inside))));
    }
wrong_stays p es more NotEmpty h = absurd h

-- what is found of a first wrong entry is what is found of the entries
pub wrong_found : (p : Csp) (es : List Entry) (f : Finding) → IsWrongAt p es f → IsFindingOf p es f
wrong_found p es Verified h = absurd h
wrong_found p es (BadStep n) h = h
wrong_found p es (BadDeletion n) h = h
wrong_found p es NotEmpty h = absurd h
