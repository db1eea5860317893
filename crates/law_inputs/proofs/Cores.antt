-- Any steps have a core, since it can be told which of them are needed and which rules these cite; and any bytes are a log of either version or are refused.
use Rattle.std.proofs.Common.{◌≡◌, ℕ, zero, suc, ◌+◌, ◌<◌, ◌&&◌, ◌||◌, ◌⊎◌, inl, inr, Bool, true, false, eqb, List, [], ◌∷◌, filter, length, map, Option, Some, None, refl, sym, ap, ◌∙◌, subst, arith}
use Rattle.std.proofs.lemmas.Bool.{eqb-true, eq-eqb}
use Rattle.std.proofs.lemmas.Bool.Decides.{leb_tells}
use Rattle.dcsp_defs.specs.declared.Reason.{Reason}
use Rattle.dcsp_defs.specs.declared.Reason.TheVariants.{Rule, Earlier}
use Rattle.dcsp_defs.specs.declared.Step.{Step}
use Rattle.dcsp_defs.specs.declared.entry.Entry.{Entry}
use Rattle.dcsp_defs.specs.Words.{below}
use Rattle.dcsp_defs.specs.Derivation.{step_at}
use Rattle.dcsp_defs.proofs.Lists.{and_left, and_right, and_both, or_cases, or_left, or_right, In-filter, below-In}
use Rattle.dcsp_rule.specs.Problems.{Contents, csp_of}
use Rattle.dcsp_common.specs.declared.limits.Which.{Which}
use Rattle.dcsp_problem.proofs.RisingNumbers.{rising-filter_below, In-filter_below}
use Rattle.abt_input.specs.Kinds.{IsTotal}
use Rattle.abt_input.specs.Inputs.{most_log}
use Rattle.abt_input.specs.declared.error.CommandError.{CommandError}
use Rattle.abt_input.specs.declared.error.CommandError.TheVariants.{ModelLong, ModelRefused, NoAim, LogLong, LogLine, ScheduleLong, ScheduleLine, OrderRefused, Clauses, Fault, Memory}
use Rattle.abt_input.specs.declared.clauses_error.ClausesError.TheVariants.{CnfLimit}
use Rattle.ngd_log.proofs.EntryLaws.{entries_or_bad_line}
use Rattle.ngd_check.specs.declared.Finding.{Finding}
use Rattle.ngd_check.specs.declared.Finding.TheVariants.{Verified, BadStep, BadDeletion, NotEmpty}
use Rattle.ngd_check.specs.Entries.{steps_of}
use Rattle.ngd_check.specs.Progress.{right_steps}
use Rattle.ngd_check.proofs.Parts.{within}
use Rattle.ngd_check.specs.Findings.{IsFindingOf}
use Rattle.ngd_rewrite.specs.declared.cores.Core.{Core}
use Rattle.ngd_rewrite.specs.Needed.{cites, cites_rule, is_cited, IsNeeded, is_last, is_cited_by, renumbered, chosen, count_to}
use Rattle.line_check.specs.declared.log_check.Checked.{Checked}
use Rattle.line_check.specs.Checks.{HasEntries, IsErrorOfEntries, log_for}
use Rattle.line_check.specs.LogChecks.{IsKeptFor, kept_log}
use Rattle.line_rewrite.specs.CorePromise.{IsCoreOf}
use Rattle.line_export.specs.Clauses.{formula}
use Rattle.line_export.specs.Limits.{limit_past}
use Rattle.line_export.specs.ExportPromise.{IsErrorOfExport, a_refutation}

-- ---- chains of citations

-- whether there is a step that cites the one with this number
abbrev cites_number : Option Step → ℕ → Bool
cites_number None number = false
cites_number (Some step) number = cites step.reasons number

-- whether citations lead from one step to another, by way of steps with numbers below this one alone
abbrev leads : List Step → ℕ → ℕ → ℕ → Bool
leads steps zero citing cited = cites_number (step_at steps citing) cited
leads steps (suc way) citing cited = leads steps way citing cited || (leads steps way citing way && leads steps way way cited)

-- where they lead to from a needed step is needed
needed_along : (steps : List Step) (way citing cited : ℕ) → leads steps way citing cited ≡ true → IsNeeded steps citing → IsNeeded steps cited
needed_along steps zero citing cited t h = by_step (step_at steps citing) refl t
  where
    by_step : (o : Option Step) → step_at steps citing ≡ o → cites_number o cited ≡ true → IsNeeded steps cited
    by_step None there c = cc
    by_step (Some step) there c = is_cited_by citing cited step h there c
needed_along steps (suc way) citing cited t h = elim (or_cases (leads steps way citing cited) (leads steps way citing way && leads steps way way cited) t) [
  | inl direct ↦ needed_along steps way citing cited direct h
  | inr both ↦
      let here = needed_along steps way citing way (and_left (leads steps way citing way) (leads steps way way cited) both) h in
      needed_along steps way way cited (and_right (leads steps way citing way) (leads steps way way cited) both) here
]

-- a citation leads from one step to another
cited_leads : (steps : List Step) (way citing cited : ℕ) → cites_number (step_at steps citing) cited ≡ true → leads steps way citing cited ≡ true
cited_leads steps zero citing cited t = t
cited_leads steps (suc way) citing cited t = or_left (leads steps way citing cited) (leads steps way citing way && leads steps way way cited) (cited_leads steps way citing cited t)

module _ (steps : List Step) (way : ℕ) where
  -- to the greatest number that may be passed, and on from it
  across : (citing cited : ℕ) → leads steps way citing way ≡ true → leads steps way way cited ≡ true → leads steps (suc way) citing cited ≡ true
  across citing cited t u =
      or_right (leads steps way citing cited) (leads steps way citing way && leads steps way way cited) (and_both (leads steps way citing way) (leads steps way way cited) t u)

  -- they lead there without this number, or by way of it
  record Leads (citing cited : ℕ) : Type 0 where
    kind : (leads steps way citing cited ≡ true) ⊎ ((leads steps way citing way ≡ true) × (leads steps way way cited ≡ true))

  -- it is one or the other
  parts : (citing cited : ℕ) → leads steps (suc way) citing cited ≡ true → Leads citing cited
  parts citing cited t = elim (or_cases (leads steps way citing cited) (leads steps way citing way && leads steps way way cited) t) [
    | inl direct ↦ record { kind = inl direct }
    | inr both ↦ record { kind = inr (and_left (leads steps way citing way) (leads steps way way cited) both, and_right (leads steps way citing way) (leads steps way way cited) both) }
  ]

  -- to this number they lead without it
  to_last : (citing : ℕ) → leads steps (suc way) citing way ≡ true → leads steps way citing way ≡ true
  to_last citing t = elim (parts citing way t).kind [ inl direct ↦ direct | inr both ↦ both.0 ]

  -- and so from it
  from_last : (cited : ℕ) → leads steps (suc way) way cited ≡ true → leads steps way way cited ≡ true
  from_last cited t = elim (parts way cited t).kind [ inl direct ↦ direct | inr both ↦ both.1 ]

  -- where they lead without it they lead
  without : (citing cited : ℕ) → leads steps way citing cited ≡ true → leads steps (suc way) citing cited ≡ true
  without citing cited t = or_left (leads steps way citing cited) (leads steps way citing way && leads steps way way cited) t

-- where they lead to a step that may be passed, and on from it, they lead all the way
joined : (steps : List Step) (way citing middle cited : ℕ) → middle < way → leads steps way citing middle ≡ true → leads steps way middle cited ≡ true → leads steps way citing cited ≡ true
joined steps zero citing middle cited l t u = absurd (omega (arith, l))
joined steps (suc way) citing middle cited l t u = elim (leb_tells way middle) [
  | inl last ↦
      let same : middle ≡ way = omega (arith, l, last.1) in
      across steps way citing cited
      (to_last steps way citing (subst (λ (k : ℕ). leads steps (suc way) citing k ≡ true) same t))
      (from_last steps way cited (subst (λ (k : ℕ). leads steps (suc way) k cited ≡ true) same u))
  | inr less ↦ elim (parts steps way citing middle t).kind [
    | inl before ↦ elim (parts steps way middle cited u).kind [
      | inl behind ↦ without steps way citing cited (joined steps way citing middle cited less.1 before behind)
      | inr behind ↦ across steps way citing cited (joined steps way citing middle way less.1 before behind.0) behind.1
    ]
    | inr before ↦ elim (parts steps way middle cited u).kind [
      | inl behind ↦ across steps way citing cited before.0 (joined steps way way middle cited less.1 before.1 behind)
      | inr behind ↦ across steps way citing cited before.0 behind.1
    ]
  ]
]

-- ---- the needed steps

-- whether the step is the last one, or citations lead to it from there
abbrev is_needed : List Step → ℕ → Bool
is_needed steps number = eqb number (length steps) || leads steps (suc (length steps)) (length steps) number

-- then it is needed
needed_sound : (steps : List Step) (number : ℕ) → is_needed steps number ≡ true → IsNeeded steps number
needed_sound steps number t = elim (or_cases (eqb number (length steps)) (leads steps (suc (length steps)) (length steps) number) t) [
  | inl last ↦ is_last number (eqb-true number (length steps) last)
  | inr led ↦ needed_along steps (suc (length steps)) (length steps) number led (is_last (length steps) refl)
]

-- the number of a step is no greater than that of the last one
numbered_within : (steps : List Step) (number : ℕ) (step : Step) → step_at steps number ≡ Some step → number < suc (length steps)
numbered_within steps zero step there = omega arith
numbered_within steps (suc place) step there = let l = within steps place step there in omega (arith, l)

-- and only then
needed_whole : (steps : List Step) (number : ℕ) → IsNeeded steps number → is_needed steps number ≡ true
needed_whole steps number (is_last n e) = or_left (eqb number (length steps)) (leads steps (suc (length steps)) (length steps) number) (eq-eqb number (length steps) e)
needed_whole steps number (is_cited_by by n step h there c) =
    let way = suc (length steps) in
    let last = length steps in
    let one : leads steps way by n ≡ true = cited_leads steps way by n (ap (λ (o : Option Step). cites_number o n) there ∙ c) in
    or_right (eqb n last) (leads steps way last n) (elim (or_cases (eqb by last) (leads steps way last by) (needed_whole steps by h)) [
      | inl here ↦ subst (λ (k : ℕ). leads steps way k n ≡ true) (eqb-true by last here) one
      | inr led ↦ joined steps way last by n (numbered_within steps by step there) led one
    ])

-- ---- a number above those of all cited rules

-- above the rule that the reason is
abbrev rule_bound : Reason → ℕ
rule_bound (Rule rule) = suc rule
rule_bound (Earlier number) = 0

-- above the rules among the reasons
abbrev reasons_bound : List Reason → ℕ
reasons_bound [] = 0
reasons_bound (reason ∷ reasons) = rule_bound reason + reasons_bound reasons

-- above the rules that the steps cite
abbrev steps_bound : List Step → ℕ
steps_bound [] = 0
steps_bound (step ∷ steps) = reasons_bound step.reasons + steps_bound steps

-- a rule among the reasons is below it
rule_below : (reasons : List Reason) (rule : ℕ) → cites_rule reasons rule ≡ true → rule < reasons_bound reasons
rule_below [] rule t = cc
rule_below (Rule k ∷ reasons) rule t = elim (or_cases (eqb rule k) (cites_rule reasons rule) t) [
  | inl here ↦ let same = eqb-true rule k here in omega (arith, same)
  | inr later ↦ let l = rule_below reasons rule later in omega (arith, l)
]
rule_below (Earlier k ∷ reasons) rule t = let l = rule_below reasons rule t in omega (arith, l)

-- a rule that a step cites is below it
cited_below : (steps : List Step) (rule : ℕ) → is_cited steps rule ≡ true → rule < steps_bound steps
cited_below [] rule t = cc
cited_below (step ∷ steps) rule t = elim (or_cases (cites_rule step.reasons rule) (is_cited steps rule) t) [
  | inl here ↦ let l = rule_below step.reasons rule here in omega (arith, l)
  | inr later ↦ let l = cited_below steps rule later in omega (arith, l)
]

-- ---- the core

-- any steps have a core
pub core_exists : (steps : List Step) → (core : Core) × IsCoreOf steps core
core_exists steps =
    let needed = is_needed steps in
    let trimmed : List Step = map (renumbered (count_to needed)) (chosen needed 1 steps) in
    let bound = steps_bound trimmed in
    let core : Core = record { rules = filter (is_cited trimmed) (below bound); steps = trimmed } in (
      core,
      record {
        trimmed = record { needed = needed; exactly = λ number. (needed_sound steps number, needed_whole steps number); same = refl };
        rising = rising-filter_below (is_cited trimmed) bound;
        cited = λ rule. (
          λ i. (In-filter_below (is_cited trimmed) bound rule i).1,
          λ t. In-filter (is_cited trimmed) rule (below bound) (below-In bound rule (cited_below trimmed rule t)) t,
        );
      },
    )

-- ---- logs of either version

-- any bytes have entries or are refused
pub entries_total : (log : List ℕ) → ((entries : List Entry) × HasEntries log entries) ⊎ ((error : CommandError) × IsErrorOfEntries log error)
entries_total log = elim (leb_tells (length log) most_log) [
  | inr long ↦ inr (LogLong, long.1)
  | inl short ↦ elim (entries_or_bad_line log).some [
    | inl read ↦ inl (read.0, record { short = short.1; reads = read.1 })
    | inr bad ↦ inr (LogLine bad.0, record { short = short.1; line = bad.1 })
  ]
]

-- a log that is refused is refused by `export` too
as_export : (problem : Contents) (log : List ℕ) (error : CommandError) → IsErrorOfEntries log error → IsErrorOfExport problem log error
as_export problem log ModelLong h = h
as_export problem log (ModelRefused error) h = h
as_export problem log LogLong h = h
as_export problem log (LogLine number) h = h
as_export problem log ScheduleLong h = h
as_export problem log (ScheduleLine number) h = h
as_export problem log (OrderRefused error) h = h
as_export problem log NoAim h = h
as_export problem log (Clauses error) h = absurd h
as_export problem log Fault h = h
as_export problem log Memory h = h

-- of a problem for which any entries have a finding
module _ (problem : Contents) (find : (entries : List Entry) → (finding : Finding) × IsFindingOf (csp_of problem) entries finding) where
  -- any bytes are a log of which something is found, or are refused
  pub log_for_total : IsTotal (log_for problem)
  log_for_total log = elim (entries_total log) [
    | inr error ↦ inr error
    | inl read ↦ let found = find read.0 in inl (found.0, record { entries = read.0; log_is = read.1; found = found.1 })
  ]

  -- what is found of the entries, with their steps
  kept_of : (log : List ℕ) (entries : List Entry) → HasEntries log entries → (checked : Checked) × IsKeptFor problem log checked
  kept_of log entries h =
      let found = find entries in
      (record { finding = found.0; steps = right_steps found.0 (steps_of entries) }, record { entries = entries; log_is = h; found = found.1; steps = refl })

  -- the same with the steps kept
  pub kept_log_total : IsTotal (kept_log problem)
  kept_log_total log = elim (entries_total log) [ inr error ↦ inr error | inl read ↦ inl (kept_of log read.0 read.1) ]

  -- the same, where the formula of steps that refute may pass a limit
  pub a_refutation_total : IsTotal (a_refutation problem)
  a_refutation_total log = elim (entries_total log) [
    | inr error ↦ inr (error.0, as_export problem log error.0 error.1)
    | inl read ↦ let kept = kept_of log read.0 read.1 in by_finding kept.0 kept.1 kept.0.finding refl
  ]
    where
      by_limit : (checked : Checked) → IsKeptFor problem log checked → checked.finding ≡ Verified → (o : Option (Which × ℕ)) → limit_past problem (formula problem checked.steps) ≡ o
          → ((value : Checked) × (a_refutation problem).Is log value) ⊎ ((error : CommandError) × (a_refutation problem).Refuses log error)
      by_limit checked kept verified None is = inl (checked, record { kept = kept; within = λ e. is })
      by_limit checked kept verified (Some past) is = inr (Clauses (CnfLimit past.0 past.1), record { checked = checked; kept = kept; verified = verified; past = is })

      by_finding : (checked : Checked) → IsKeptFor problem log checked → (finding : Finding) → checked.finding ≡ finding
          → ((value : Checked) × (a_refutation problem).Is log value) ⊎ ((error : CommandError) × (a_refutation problem).Refuses log error)
      by_finding checked kept Verified is = by_limit checked kept is (limit_past problem (formula problem checked.steps)) refl
      by_finding checked kept (BadStep step) is = inl (checked, record { kept = kept; within = λ e. absurd (let clash = sym is ∙ e in cc) })
      by_finding checked kept (BadDeletion after) is = inl (checked, record { kept = kept; within = λ e. absurd (let clash = sym is ∙ e in cc) })
      by_finding checked kept NotEmpty is = inl (checked, record { kept = kept; within = λ e. absurd (let clash = sym is ∙ e in cc) })
