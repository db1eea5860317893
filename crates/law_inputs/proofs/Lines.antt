-- Each line has a report, whatever the bytes of its files are.
use Rattle.std.proofs.Common.{ℕ, ℤ, Bool, List, [], ◌∷◌, Option}
use Rattle.dcsp_defs.specs.Csp.{Csp}
use Rattle.law_subjects.specs.Finding.{EntriesHaveFinding}
use Rattle.dcsp_defs.specs.declared.Step.{Step}
use Rattle.dcsp_rule.specs.declared.aim.Aim.{Aim}
use Rattle.dcsp_rule.specs.declared.aim.Aim.TheVariants.{Satisfy, Least, Greatest}
use Rattle.dcsp_rule.specs.Problems.{Contents, csp_of}
use Rattle.dcsp_order.specs.declared.by_rule.OrderRule.{OrderRule}
use Rattle.ngd_check.specs.declared.Finding.{Finding}
use Rattle.ngd_check.specs.declared.Finding.TheVariants.{Verified, BadStep, BadDeletion, NotEmpty}
use Rattle.abt_input.specs.Inputs.{IsModelOf}
use Rattle.abt_input.specs.Plans.{Plan, Read, order_then, under_order, IsAnswered}
use Rattle.abt_input.specs.Kinds.{a_schedule}
use Rattle.line_check.specs.Taking.{taking_of}
use Rattle.line_check.specs.CheckReports.{check_plan, check_promise}
use Rattle.line_model.specs.BoundReports.{bound_plan, bound_promise, bound_under}
use Rattle.line_model.specs.OrderPromise.{order_plan, order_promise}
use Rattle.line_model.specs.Generated.{print_plan, print_promise}
use Rattle.line_replay.specs.Settings.{Settings}
use Rattle.line_replay.specs.Asked.{created_names}
use Rattle.line_replay.specs.ReplayPromise.{choices_plan, replay_plan, replay_promise}
use Rattle.line_solve.specs.SolvePromise.{plan_for, solve_plan, solve_promise}
use Rattle.line_rewrite.specs.UpgradePromise.{upgrade_plan, upgrade_promise}
use Rattle.line_rewrite.specs.CorePromise.{core_plan, core_promise, trimming_plan}
use Rattle.line_export.specs.ExportPromise.{export_plan, export_promise, writing_plan}
use Rattle.line_starve.specs.StarvePromise.{starved_under, starve_plan, starve_promise}
use Rattle.line_lossy.specs.LossyPromise.{lossy_plan, lossy_promise, ordered_plan}
use Rattle.line_measure.specs.MeasurePromise.{measure_plan, measure_promise, measured_under, survey_plan, survey_promise, surveyed_under}
use Rattle.line_story.specs.StoryPromise.{story_plan, story_promise, told_plan}
use Rattle.line_cnf.specs.RupPromise.{rup_plan, rup_promise}
use Rattle.line_cnf.specs.CnfPromise.{cnf_plan, cnf_promise}
use Rattle.line_cnf.specs.Satisfying.{clauses_of}
use Rattle.abt_command.specs.Lines.{Line, Help, Version, Usage, Check, Replay, Solve, Bound, Order, Queens, Colouring, Sparse, Pigeons, Binary, Meetings, Sensors, Drill, Upgrade, Core, Export, Starve, Lossy, Measure, Survey, Story, Rup, Cnf, promise_of}
use Rattle.law_inputs.proofs.Drill.{drill_answered}
use Rattle.law_inputs.proofs.Plans.{HasReport, has_answer, ordered_report}
use Rattle.law_inputs.proofs.TotalKinds.{model_total, model_problem, taking_total, log_total, schedule_total, formula_total, proof_total, orders_total}
use Rattle.law_inputs.proofs.Verdicts.{verdict_exists}
use Rattle.law_inputs.proofs.Cores.{core_exists, log_for_total, kept_log_total, a_refutation_total}
use Rattle.law_inputs.proofs.Orders.{order_by_rule_exists}

-- a plan that reads a model, and goes on under an order, where one is named
modelled : (names : List (List ℕ)) (order_file : Option (List ℕ)) (problem : Contents) (bytes : List ℕ) (next : Option (List ℕ) → Plan) → IsModelOf bytes problem → ((order : Option (List ℕ)) → HasReport names (next order))
    → HasReport (order_then order_file names) (under_order order_file problem next)
modelled names order_file problem bytes next is has = ordered_report orders_total names next order_file problem (model_problem bytes problem is).few_variables has

pub print_answered : (text : List ℕ) → IsAnswered (print_promise text)
print_answered text = has_answer [] [] (print_plan text) tt

pub bound_answered : (model : List ℕ) (order_file : Option (List ℕ)) → IsAnswered (bound_promise model order_file)
bound_answered model order_file =
    has_answer (model ∷ order_then order_file []) [] (bound_plan order_file) (model_total, λ bytes problem is. modelled [] order_file problem bytes (bound_under problem) is (λ order. tt))

pub order_answered : (model : List ℕ) (rule : OrderRule) (file : List ℕ) → IsAnswered (order_promise model rule file)
order_answered model rule file =
    has_answer (model ∷ []) (file ∷ []) (order_plan rule file) (model_total, λ bytes problem is. let order = order_by_rule_exists rule (csp_of problem) in (order.0, order.1, tt))

pub replay_answered : (model schedule log : List ℕ) (trace : Bool) (order_file : Option (List ℕ)) → IsAnswered (replay_promise model schedule log trace order_file)
replay_answered model schedule log trace order_file =
    has_answer (model ∷ order_then order_file (schedule ∷ [])) (log ∷ []) (replay_plan log trace order_file)
    (model_total, λ bytes problem is. modelled (schedule ∷ []) order_file problem bytes (choices_plan log trace problem) is (λ order. (schedule_total, λ choice_bytes choices are. tt)))

solved : (problem : Contents) (log : List ℕ) (s : Settings) (order : Option (List ℕ)) (aim : Aim) → HasReport [] (plan_for aim problem log s order)
solved problem log s order Satisfy = tt
solved problem log s order (Least term) = tt
solved problem log s order (Greatest term) = tt

pub solve_answered : (model log : List ℕ) (s : Settings) → IsAnswered (solve_promise model log s)
solve_answered model log s =
    has_answer (model ∷ order_then s.order_file []) (created_names log s.record_file) (solve_plan log s)
    (model_total, λ bytes problem is. modelled [] s.order_file problem bytes (plan_for problem.aim problem log s) is (λ order. solved problem log s order problem.aim))

pub upgrade_answered : (log new : List ℕ) → IsAnswered (upgrade_promise log new)
upgrade_answered log new = has_answer (log ∷ []) (new ∷ []) (upgrade_plan new) (log_total, λ bytes steps are. tt)

pub starve_answered : (model : List ℕ) (from to : ℕ) (file : List ℕ) (order_file : Option (List ℕ)) → IsAnswered (starve_promise model from to file order_file)
starve_answered model from to file order_file =
    has_answer (model ∷ order_then order_file []) (file ∷ []) (starve_plan from to file order_file)
    (model_total, λ bytes problem is. modelled [] order_file problem bytes (starved_under from to file problem) is (λ order. tt))

pub lossy_answered : (model : List ℕ) (order_file : Option (List ℕ)) (log : List ℕ) (events seed : ℕ) (record_file : Option (List ℕ)) → IsAnswered (lossy_promise model order_file log events seed record_file)
lossy_answered model order_file log events seed record_file =
    has_answer (model ∷ order_then order_file []) (created_names log record_file) (lossy_plan log events seed record_file order_file)
    (model_total, λ bytes problem is. modelled [] order_file problem bytes (ordered_plan log events seed record_file problem) is (λ order. tt))

pub survey_answered : (model : List ℕ) (from count : ℕ) (order_file : Option (List ℕ)) → IsAnswered (survey_promise model from count order_file)
survey_answered model from count order_file =
    has_answer (model ∷ order_then order_file []) [] (survey_plan from count order_file)
    (model_total, λ bytes problem is. modelled [] order_file problem bytes (surveyed_under from count problem) is (λ order. tt))

pub rup_answered : (cnf proof : List ℕ) → IsAnswered (rup_promise cnf proof)
rup_answered cnf proof =
    has_answer (cnf ∷ proof ∷ []) [] rup_plan
    (formula_total, λ bytes problem is. (proof_total, λ proof_bytes clauses are. let verdict = verdict_exists (clauses_of problem) clauses in (verdict.0, verdict.1, tt)))

pub cnf_answered : (cnf proof : List ℕ) (seed : ℕ) → IsAnswered (cnf_promise cnf proof seed)
cnf_answered cnf proof seed = has_answer (cnf ∷ []) (proof ∷ []) (cnf_plan proof seed) (formula_total, λ bytes problem is. tt)

pub measure_answered : (model schedule : List ℕ) (order_file : Option (List ℕ)) → IsAnswered (measure_promise model schedule order_file)
measure_answered model schedule order_file =
    has_answer (model ∷ order_then order_file (schedule ∷ [])) [] (measure_plan order_file)
    (model_total, λ bytes problem is. modelled (schedule ∷ []) order_file problem bytes (measured_under problem) is (λ order. (schedule_total, λ choice_bytes choices are. tt)))

pub story_answered : (model : List ℕ) (order_file : Option (List ℕ)) (schedule file : List ℕ) → IsAnswered (story_promise model order_file schedule file)
story_answered model order_file schedule file =
    has_answer (model ∷ order_then order_file (schedule ∷ [])) (file ∷ []) (story_plan order_file file)
    (model_total, λ bytes problem is. modelled (schedule ∷ []) order_file problem bytes (λ order. Read a_schedule (λ choices. told_plan order problem choices file)) is (λ order. (schedule_total, λ choice_bytes choices are. tt)))

-- where any entries have a finding
module _ (find : (p : Csp) → EntriesHaveFinding p) where
  pub check_answered : (better : Option ℤ) (model log : List ℕ) → IsAnswered (check_promise (taking_of better) model log)
  check_answered better model log =
      has_answer (model ∷ log ∷ []) [] (check_plan (taking_of better)) (taking_total better, λ bytes problem is. (log_for_total problem (find (csp_of problem)), λ log_bytes finding found. tt))

  trimmed_report : (trimmed : List ℕ) (problem : Contents) (steps : List Step) (finding : Finding) → HasReport [] (trimming_plan trimmed problem steps finding)
  trimmed_report trimmed problem steps Verified = let core = core_exists steps in (core.0, core.1, tt)
  trimmed_report trimmed problem steps (BadStep step) = tt
  trimmed_report trimmed problem steps (BadDeletion after) = tt
  trimmed_report trimmed problem steps NotEmpty = tt

  pub core_answered : (better : Option ℤ) (model log trimmed : List ℕ) → IsAnswered (core_promise (taking_of better) model log trimmed)
  core_answered better model log trimmed =
      has_answer (model ∷ log ∷ []) (trimmed ∷ []) (core_plan (taking_of better) trimmed)
      (taking_total better, λ bytes problem is. (kept_log_total problem (find (csp_of problem)), λ log_bytes checked kept. trimmed_report trimmed problem checked.steps checked.finding))

  written_report : (cnf proof : List ℕ) (wanted : Bool) (problem : Contents) (steps : List Step) (finding : Finding) → HasReport [] (writing_plan cnf proof wanted problem steps finding)
  written_report cnf proof wanted problem steps Verified = tt
  written_report cnf proof wanted problem steps (BadStep step) = tt
  written_report cnf proof wanted problem steps (BadDeletion after) = tt
  written_report cnf proof wanted problem steps NotEmpty = tt

  pub export_answered : (better : Option ℤ) (model log cnf proof : List ℕ) (wanted : Bool) → IsAnswered (export_promise (taking_of better) model log cnf proof wanted)
  export_answered better model log cnf proof wanted =
      has_answer (model ∷ log ∷ []) (cnf ∷ proof ∷ []) (export_plan (taking_of better) cnf proof wanted)
      (taking_total better, λ bytes problem is. (a_refutation_total problem (find (csp_of problem)), λ log_bytes checked kept. written_report cnf proof wanted problem checked.steps checked.finding))

  -- each line
  pub line_answered : (line : Line) → IsAnswered (promise_of line)
  line_answered Help = print_answered _
  line_answered Version = print_answered _
  line_answered Usage = print_answered _
  line_answered (Check model log better) = check_answered better model log
  line_answered (Replay model schedule log trace order_file) = replay_answered model schedule log trace order_file
  line_answered (Solve model log settings) = solve_answered model log settings
  line_answered (Bound model order_file) = bound_answered model order_file
  line_answered (Order model rule file) = order_answered model rule file
  line_answered (Queens n) = print_answered _
  line_answered (Colouring n k seed) = print_answered _
  line_answered (Sparse n seed) = print_answered _
  line_answered (Binary n d edges forbidden seed) = print_answered _
  line_answered (Meetings people meetings each hours busy seed) = print_answered _
  line_answered (Sensors side targets sees seed) = print_answered _
  line_answered (Pigeons n) = print_answered _
  line_answered (Drill seed) = drill_answered seed
  line_answered (Upgrade log new) = upgrade_answered log new
  line_answered (Core model log trimmed better) = core_answered better model log trimmed
  line_answered (Export model log cnf proof told better) = export_answered better model log cnf proof told
  line_answered (Starve model from to file order_file) = starve_answered model from to file order_file
  line_answered (Lossy model log events seed record_file order_file) = lossy_answered model order_file log events seed record_file
  line_answered (Measure model schedule order_file) = measure_answered model schedule order_file
  line_answered (Story model schedule file order_file) = story_answered model order_file schedule file
  line_answered (Survey model count from order_file) = survey_answered model from count order_file
  line_answered (Rup cnf proof) = rup_answered cnf proof
  line_answered (Cnf cnf proof seed) = cnf_answered cnf proof seed
