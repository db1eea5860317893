-- What a run of `cnf` means.
use Rattle.std.proofs.Common.{[], ◌≡◌, ℕ, zero, suc, ◌+◌, ◌^◌, ◌<◌, Bool, true, false, not, cond, List, length, map, Option, Some, None, refl, sym, ap, subst, ◌∙◌, arith}
use Rattle.std.specs.Prelude.{ℤ, pos, negsuc, neg_ℤ, All, Contains}
use Rattle.std.proofs.lemmas.List.Elements.{All-contains}
use Rattle.dcsp_meaning.specs.Words.{is_one}
use Rattle.dcsp_defs.specs.declared.nogood.Pair.{Pair}
use Rattle.dcsp_outside.specs.Outside.{bytes_of}
use Rattle.dcsp_defs.specs.Words.{In, below}
use Rattle.dcsp_defs.specs.Csp.{IsCsp, count}
use Rattle.dcsp_defs.specs.declared.Step.{Step}
use Rattle.dcsp_defs.proofs.Lists.{below-In}
use Rattle.dcsp_rule.specs.declared.rule.Rule.{Rule}
use Rattle.dcsp_rule.specs.Rules.{IsRuleOf, scope_of}
use Rattle.dcsp_rule.specs.Problems.{Contents, csp_of}
use Rattle.dcsp_problem.specs.WellFormed.{IsProblem}
use Rattle.dcsp_problem.proofs.RisingNumbers.{Contains-In}
use Rattle.dcsp_problem.proofs.OwnerLists.{length-map_below}
use Rattle.dcsp_problem.proofs.Scopes.{In-from_scope, variables_below}
use Rattle.rup_check.specs.Literals.{is_true, IsUnsatisfiable}
use Rattle.rup_check.specs.Propagation.{IsAccepted, IsTotalOn}
use Rattle.rup_check.proofs.VerdictLaws.{true_alone, one_of}
use Rattle.rup_check.proofs.PropagationLaws.{contains_map, contains_mapped, accepted_refutes}
use Rattle.cnf_front.specs.Clauses.{literal_against, rule_clause, IsClauseRule}
use Rattle.abt_defs.specs.Network.{values}
use Rattle.dcsp_script.specs.declared.status.Status.{Status}
use Rattle.dcsp_script.specs.declared.status.Status.TheVariants.{Good, No}
use Rattle.dcsp_script.specs.Promises.{IsHeld}
use Rattle.rup_check.specs.declared.check.Rup.TheVariants.{Verified}
use Rattle.dcsp_script.specs.Promises.{Report}
use Rattle.abt_input.specs.Inputs.{IsFormulaOf, HasClauses}
use Rattle.abt_input.proofs.Once.{one_formula}
use Rattle.line_replay.specs.Endings.{assigned, final_values, end_status}
use Rattle.line_replay.specs.Asked.{seed_alone}
use Rattle.line_replay.proofs.Verdicts as verdicts
use Rattle.line_replay.proofs.Verdicts.{solve_unfinished}
use Rattle.line_cnf.specs.Satisfying.{clauses_of, step_clause, truths}
use Rattle.line_cnf.specs.RupPromise.{rup_report, RupReport}
use Rattle.line_cnf.specs.CnfRuns.{cnf_asked, cnf_run, value_literal, value_literals}
use Rattle.line_cnf.specs.CnfHeadline.{printed_literals, written_clauses, written_text, IsSatisfiedBy, IsCnfRun, HoldsCnfRun}
use Rattle.line_cnf.proofs.Satisfying.{variable_true, negation_true, formula_rules, solutions_satisfy, is_refuted}
use Rattle.line_cnf.proofs.Domains.{formula_binary}
use Rattle.line_cnf.proofs.Lawful.{only_report}
use Rattle.line_cnf.proofs.CnfOutcomes.{right_steps}
use Rattle.line_cnf.proofs.CnfTexts.{text_read}
use Rattle.line_cnf.proofs.Accepting.{IsOfScope, plain_one, negated_one, literal_of_scope, accepted}

-- ---- literals that are printed

printed_one : (list : List ℤ) (k : ℕ) → is_one (assigned list k) ≡ true → value_literal list k ≡ pos (k + 1)
printed_one list k e = ap (λ b. cond b (pos (k + 1)) (negsuc k)) e

printed_other : (list : List ℤ) (k : ℕ) → not (is_one (assigned list k)) ≡ true → value_literal list k ≡ negsuc k
printed_other list k e = ap (λ b. cond b (pos (k + 1)) (negsuc k)) (of (is_one (assigned list k)) e)
  where
    of : (b : Bool) → not b ≡ true → b ≡ false
    of true h = cc
    of false h = refl

-- a literal of a variable that is true of its value is printed
printed : (list : List ℤ) (k : ℕ) (y : ℤ) → k < length list → value_literal list k ≡ y → Contains (value_literals list) y
printed list k y l e = subst (Contains (value_literals list)) e (contains_mapped (value_literal list) (below (length list)) k (Contains-In (below (length list)) k (below-In (length list) k l)))

module _ (p : Contents) (clausal : All IsClauseRule p.rules) (known_rules : All (IsRuleOf (length p.domains)) p.rules) (list : List ℤ) (long : length list ≡ length p.domains) where
  true_printed : (rule : Rule) → Contains p.rules rule → (y : ℤ) → Contains (rule_clause rule) y → is_true (truths (assigned list)) y ≡ true → Contains (value_literals list) y
  true_printed rule r y c t = of (literal_of_scope (length p.domains) rule (All-contains IsClauseRule p.rules rule clausal r) known y c)
    where
      known : IsRuleOf (length p.domains) rule
      known = All-contains (IsRuleOf (length p.domains)) p.rules rule known_rules r

      inside : (k : ℕ) → In k (scope_of (length p.domains) rule) → k < length list
      inside k u = let l = variables_below (length p.domains) rule known k (In-from_scope (length p.domains) rule k u) in omega (arith, long, l)

      of : IsOfScope (length p.domains) rule y → Contains (value_literals list) y
      of (plain_one k u e) = printed list k y (inside k u) (printed_one list k (sym (variable_true (assigned list) k) ∙ ap (is_true (truths (assigned list))) (sym e) ∙ t) ∙ sym e)
      of (negated_one k u e) = printed list k y (inside k u) (printed_other list k (sym (negation_true (assigned list) k) ∙ ap (is_true (truths (assigned list))) (sym e) ∙ t) ∙ sym e)

-- ---- literals that are written

against_sign : (x : ℕ) (v : ℤ) → literal_against x v ≡ pos 0 → ⊥
against_sign x (pos zero) e = let same : x + 1 ≡ 0 = cc in omega (arith, same)
against_sign x (pos (suc n)) e = cc
against_sign x (negsuc n) e = cc

total : (truth : ℕ → Bool) (steps : List Step) → IsTotalOn neg_ℤ (is_true truth) (map step_clause steps)
total truth steps clause x c m =
    let s = contains_map step_clause steps clause c in
    let y = contains_map (λ (z : Pair). literal_against z.var z.value) s.0.nogood x (subst (λ l. Contains l x) (sym s.2) m) in
    one_of truth x (λ e. against_sign y.0.var y.0.value (y.2 ∙ e))

-- ---- the run

module _ (text : List ℕ) (p : Contents) (seed : ℕ) (formula : IsFormulaOf text p) (ok : IsCsp (csp_of p)) (fine : IsProblem p) (status : Status) (status_is : status ≡ end_status (cnf_run p seed).end) where
  satisfied : status ≡ Good → IsSatisfiedBy p (printed_literals p seed)
  satisfied good clause c =
      let list = final_values None p (cnf_run p seed) in
      let s = verdicts.solved (cnf_asked p seed) refl fine tt status status_is good in
      let t = solutions_satisfy text p formula (assigned list) s clause c in
      let r = contains_map rule_clause p.rules clause c in
      (t.0, t.1, true_printed p (formula_rules text p formula) fine.rules list (length-map_below (values (cnf_run p seed).net) (count (csp_of p))) r.0 r.1 t.0 (subst (λ l. Contains l t.0) (sym r.2) t.1) t.2)

  is_accepted : status ≡ No → IsAccepted neg_ℤ (clauses_of p) (written_clauses p seed)
  is_accepted says = let b = formula_binary text p formula in accepted p b.0 b.1 (formula_rules text p formula) fine.rules (cnf_run p seed).net.steps (verdicts.refuted (cnf_asked p seed) refl fine tt status status_is says)

  unsatisfiable : status ≡ No → IsUnsatisfiable (clauses_of p)
  unsatisfiable says truth sat = accepted_refutes neg_ℤ (clauses_of p) (written_clauses p seed) (is_accepted says) (is_true truth) (true_alone truth) (total truth (cnf_run p seed).net.steps) sat

  verified : status ≡ No → length (written_clauses p seed) < 2 ^ 32 → (report : Report) → RupReport text (written_text p seed) report → report ≡ rup_report Verified
  verified says few report r =
      let b = formula_binary text p formula in
      let read : HasClauses (written_text p seed) (written_clauses p seed) = text_read p b.0 b.1 (cnf_run p seed).net.steps (right_steps p seed ok) few in
      only_report text (written_text p seed) p (written_clauses p seed) Verified formula read (is_accepted says) report r

  pub is_cnf_run : IsCnfRun text p seed status
  is_cnf_run =
      let u = solve_unfinished None p [] (seed_alone seed) status status_is in
      record {
        satisfied = satisfied;
        accepted = is_accepted;
        verified = verified;
        refuted = λ says. is_refuted text p formula (unsatisfiable says);
        unfinished = u;
        bounded = verdicts.bounded (cnf_asked p seed) refl fine tt status status_is u;
      }

-- where the folder tells the formula
pub holds_cnf_run : (files : Option (List ℕ → Option (List ℕ))) (c : List ℕ) (seed : ℕ) (p : Contents) (status : Status) → (text : List ℕ) × IsHeld files c text × IsFormulaOf text p → IsCsp (csp_of p) → IsProblem p → status ≡ end_status (cnf_run p seed).end → HoldsCnfRun files c seed status
holds_cnf_run None c seed p status h ok fine is = tt
holds_cnf_run (Some files) c seed p status h ok fine is = λ q i.
    let here : IsFormulaOf (bytes_of (files c)) p = subst (λ t. IsFormulaOf t p) h.1 h.2 in
    subst (λ x. IsCnfRun (bytes_of (files c)) x seed status) (one_formula (bytes_of (files c)) p q here i) (is_cnf_run (bytes_of (files c)) p seed here ok fine status is)
