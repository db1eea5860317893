-- The core of a log that refutes.
use Rattle.std.proofs.Common.{◌≡◌, ℕ, zero, suc, ◌+◌, ◌<◌, ◌≤◌, ◌==◌, Bool, true, false, List, [], ◌∷◌, ◌++◌, length, map, slice_get, Option, Some, None, codes, refl, sym, ap, subst, ◌∙◌, arith}
use Rattle.std.specs.Prelude.{if◌then◌else◌, IfNone}
use Rattle.std.specs.List.{AllByRecursion, concat}
use Rattle.std.proofs.lemmas.Bool.{eq-eqb}
use Rattle.std.proofs.lemmas.List.{length-map}
use Rattle.dcsp_defs.specs.declared.Reason.{Reason}
use Rattle.dcsp_defs.specs.declared.Reason.TheVariants.{Rule, Earlier}
use Rattle.dcsp_defs.specs.declared.Step.{Step}
use Rattle.dcsp_defs.specs.Csp.{Csp, HasNoSolution}
use Rattle.dcsp_defs.specs.Derivation.{IsRefutation}
use Rattle.dcsp_defs.proofs.Lists.{or_left, or_right}
use Rattle.dcsp_rule.specs.Problems.{Contents, csp_of}
use Rattle.dcsp_defs.specs.declared.entry.Entry.{Entry}
use Rattle.dcsp_defs.specs.declared.entry.Entry.TheVariants.{Step as A_step, Delete}
use Rattle.ngd_log.specs.declared.standing.Version.{Version}
use Rattle.ngd_log.specs.declared.standing.Version.TheVariants.{One}
use Rattle.ngd_log.specs.StepText.{step_line, IsStepNumber, IsReasonInRange, IsRuleAlone, IsWritable}
use Rattle.ngd_log.specs.Logs.{step_lines, log_text, AreWritable}
use Rattle.ngd_log.specs.Entries.{steps_of, entries_of}
use Rattle.ngd_log.specs.EntryTexts.{entry_lines, IsWritableEntry, IsLogOfEntries}
use Rattle.ngd_log.proofs.OneAnswer.{have_text}
use Rattle.ngd_log.proofs.EntryLaws.{entries_or_bad_line}
use Rattle.ngd_check.specs.declared.Finding.TheVariants.{Verified}
use Rattle.ngd_check.specs.Findings.{IsFindingOf}
use Rattle.ngd_check.specs.Entries.{DoRefute}
use Rattle.ngd_check.proofs.Forms.{entries_derive, one_form}
use Rattle.ngd_rewrite.specs.declared.cores.Core.{Core}
use Rattle.ngd_rewrite.specs.Cores.{limited}
use Rattle.ngd_rewrite.specs.Needed.{cites, IsNeeded, is_cited_by, renumbered_reason, renumbered, chosen, count_to, IsTrimmed}
use Rattle.ngd_rewrite.proofs.Trimming.{chosen_count}
use Rattle.abt_input.specs.Inputs.{most_log}
use Rattle.line_rewrite.specs.CorePromise.{IsCoreOf}
use Rattle.line_rewrite.specs.Trimming.{IsCore}

-- ---- the log

-- the steps of entries that refute
pub steps_refute : (p : Csp) (entries : List Entry) → DoRefute p entries → IsRefutation p (steps_of entries)
steps_refute p entries h = record { right = entries_derive p entries h.right; ends = h.ends }

pub each_step : (version : Version) (entries : List Entry) → AllByRecursion (IsWritableEntry version) entries → AllByRecursion IsWritable (steps_of entries)
each_step version [] h = tt
each_step version (A_step s ∷ entries) h = (h.0, each_step version entries h.1)
each_step version (Delete numbers ∷ entries) h = each_step version entries h.1

-- the steps of a log can be written
pub log_writable : (text : List ℕ) (entries : List Entry) → IsLogOfEntries text entries → AreWritable (steps_of entries)
log_writable text entries h = record { count = h.1.writable.count; each = each_step h.0 entries h.1.writable.each }

-- ---- the trimmed steps can be written

pub count_within : (test : ℕ → Bool) (n : ℕ) → count_to test n ≤ n
count_within test zero = omega arith
count_within test (suc n) = by_test (test (suc n)) (count_within test n)
  where
    by_test : (b : Bool) → count_to test n ≤ n → count_to test n + (if b then 1 else 0) ≤ suc n
    by_test true h = omega (arith, h)
    by_test false h = omega (arith, h)

count_some : (test : ℕ → Bool) (n : ℕ) → test n ≡ true → 0 < n → 0 < count_to test n
count_some test zero t l = absurd (omega (arith, l))
count_some test (suc n) t l =
    let e : count_to test (suc n) ≡ count_to test n + 1 = ap (λ (b : Bool). count_to test n + (if b then 1 else 0)) t in
    omega (arith, e)

new_number : (test : ℕ → Bool) (n : ℕ) → test n ≡ true → IsStepNumber n → IsStepNumber (count_to test n)
new_number test n t h = record { positive = count_some test n t h.positive; bounded = (let w = count_within test n in let b = h.bounded in omega (arith, w, b)) }

module _ (new : ℕ → ℕ) where
  reasons_ranged : (rs : List Reason) → ((n : ℕ) → cites rs n ≡ true → IsStepNumber n → IsStepNumber (new n)) → AllByRecursion IsReasonInRange rs → AllByRecursion IsReasonInRange (map (renumbered_reason new) rs)
  reasons_ranged [] f h = tt
  reasons_ranged (Rule r ∷ rs) f h = (h.0, reasons_ranged rs f h.1)
  reasons_ranged (Earlier k ∷ rs) f h = (
    f k (or_left (k == k) (cites rs k) (eq-eqb k k refl)) h.0,
    reasons_ranged rs (λ n c. f n (or_right (n == k) (cites rs n) c)) h.1,
  )

  nowhere_same : (step : Step) (variable : Option ℕ) → IfNone variable (IsRuleAlone step) → IfNone variable (IsRuleAlone (renumbered new step))
  nowhere_same step None h = record { nogood = h.nogood; rule = h.rule; reasons = ap (map (renumbered_reason new)) h.reasons }
  nowhere_same step (Some x) h = h

  step_ranged : (step : Step) → ((n : ℕ) → cites step.reasons n ≡ true → IsStepNumber n → IsStepNumber (new n)) → IsWritable step → IsWritable (renumbered new step)
  step_ranged step f w = record {
    in_range = record {
      variable = w.in_range.variable;
      nowhere = nowhere_same step step.variable w.in_range.nowhere;
      pairs = w.in_range.pairs;
      reasons = reasons_ranged step.reasons f w.in_range.reasons;
    };
    rising = w.rising;
    values = w.values;
  }

each_chosen : (f : Step → Step) (test : ℕ → Bool) (number : ℕ) (others : List Step) → ((i : ℕ) (s : Step) → slice_get others i ≡ Some s → test (number + i) ≡ true → IsWritable (f s)) → AllByRecursion IsWritable (map f (chosen test number others))
each_chosen f test number [] h = tt
each_chosen f test number (s ∷ others) h =
    let later : AllByRecursion IsWritable (map f (chosen test (suc number) others)) = each_chosen f test (suc number) others (λ i t there is. h (suc i) t there (let e : number + suc i ≡ suc number + i = omega arith in ap test e ∙ is)) in
    by_test (test number) refl later
  where
    by_test : (b : Bool) → test number ≡ b → AllByRecursion IsWritable (map f (chosen test (suc number) others)) → AllByRecursion IsWritable (map f (if b then s ∷ chosen test (suc number) others else chosen test (suc number) others))
    by_test true e later = (h 0 s refl (let z : number + 0 ≡ number = omega arith in ap test z ∙ e), later)
    by_test false e later = later

each_get : (steps : List Step) (i : ℕ) (s : Step) → slice_get steps i ≡ Some s → AllByRecursion IsWritable steps → IsWritable s
each_get [] i s there h = cc
each_get (t ∷ steps) zero s there h = let e : t ≡ s = cc in subst IsWritable e h.0
each_get (t ∷ steps) (suc i) s there h = each_get steps i s there h.1

pub trimmed_writable : (steps trimmed : List Step) → IsTrimmed steps trimmed → AreWritable steps → AreWritable trimmed
trimmed_writable steps trimmed h w = subst AreWritable (sym h.same) (record {
  count = (
      let all = length-map (chosen h.needed 1 steps) (renumbered (count_to h.needed)) in
      let some = chosen_count h.needed steps in
      let few = count_within h.needed (length steps) in
      let count = w.count in
      omega (arith, all, some, few, count)
      );
  each = each_chosen (renumbered (count_to h.needed)) h.needed 1 steps (λ i s there is. step_ranged (count_to h.needed) s (needed i s there is) (each_get steps i s there w.each));
})
  where
    -- what a needed step cites is needed
    needed : (i : ℕ) (s : Step) → slice_get steps i ≡ Some s → h.needed (1 + i) ≡ true → (n : ℕ) → cites s.reasons n ≡ true → IsStepNumber n → IsStepNumber (count_to h.needed n)
    needed i s there is n c number =
        let e : 1 + i ≡ suc i = omega arith in
        let by : IsNeeded steps (suc i) = (h.exactly (suc i)).0 (ap h.needed (sym e) ∙ is) in
        new_number h.needed n ((h.exactly n).1 (is_cited_by (suc i) n s by there c)) number

-- ---- the trimmed log

lines_same : (number : ℕ) (steps : List Step) → entry_lines number (entries_of steps) ≡ step_lines number steps
lines_same number [] = refl
lines_same number (s ∷ steps) = ap (λ (x : List (List ℕ)). step_line number s ∷ x) (lines_same (number + 1) steps)

-- the log of steps is the text of them as entries
as_entries : (steps : List Step) → AreWritable steps → IsLogOfEntries (log_text steps) (entries_of steps)
as_entries steps w = (One, record { writable = have_text One steps w; same = sym (ap (λ (ls : List (List ℕ)). codes "ngd 1\n" ++ concat ls ++ codes "end\n") (lines_same 1 steps)) })

-- the log of a refutation is verified
log_verified : (p : Csp) (steps : List Step) (entries : List Entry) → AreWritable steps → IsRefutation p steps → IsLogOfEntries (log_text steps) entries → IsFindingOf p entries Verified
log_verified p steps entries w h is =
    subst (λ (es : List Entry). IsFindingOf p es Verified) ((entries_or_bad_line (log_text steps)).one_list (entries_of steps) entries (as_entries steps w) is) ((one_form p steps).refutation.0 h)

-- the core that was found is one
pub is_core : (problem : Contents) (steps : List Step) (core : Core) → AreWritable steps → length (log_text core.steps) ≤ most_log → IsCoreOf steps core → IsRefutation (csp_of problem) core.steps → HasNoSolution (limited (csp_of problem) core.rules) → IsCore problem steps core
is_core problem steps core w short is refutes none =
    let writable = trimmed_writable steps core.steps is.trimmed w in
    record {
      is = is;
      refutes = refutes;
      log = record { short = short; reads = record { writable = writable; same = refl } };
      verified = λ entries text. log_verified (csp_of problem) core.steps entries writable refutes text;
      unsolvable = none;
    }
