use Rattle.std.proofs.Common.{◌≡◌, List, Ok, Err, subst, sym, ap, ◌∙◌}
use Rattle.std.specs.Prelude.{All}
use Rattle.dcsp_defs.specs.declared.Step.{Step}
use Rattle.dcsp_rule.specs.Problems.{Contents}
use Rattle.abt_input.proofs.Files.{read_held}
use Rattle.abt_input.proofs.Keeping.{kept, came_unread, came_read, came_answer, came_answer_with, came_stopped}
use Rattle.line_check.specs.Taking.{taking_of}
use Rattle.line_rewrite.proofs.Writing.{wrote_as}
use Rattle.line_rewrite.proofs.CoreFiles.{found_refutes}
use Rattle.line_rewrite.proofs.CoreLawful.{rejected_status, rejected}
use Rattle.line_export.specs.Clauses.{formula, IsStepIn}
use Rattle.line_export.specs.Limits.{IsFormulaWithin}
use Rattle.line_export.specs.Texts.{export_script}
use Rattle.line_export.specs.ExportPromise.{export_plan}
use Rattle.line_export.proofs.Naming.{steps_in}
use Rattle.line_export.proofs.Within.{small_of}
use Rattle.line_export.proofs.Refusing.{not_kept, other_kept, refuting_kept, kept_lacking, kept_refused}
use Rattle.line_export.proofs.Lawful.{export_sound, keeps_written, keeps_told}
use Rattle.line_export.proofs.Files.{has_exported, told_export}
use Rattle.line_export.proofs.export.run_export.Goals as goal

pub returns-in_err-problem-clause-came : goal.returns-in_err-problem-clause-came
returns-in_err-problem-clause-came g c =
    let l = c.args.line in
    kept (export_plan (taking_of l.better) l.cnf.now l.proof.now l.atoms) (export_sound l.better l.model.now l.log.now l.cnf.now l.proof.now l.atoms) (came_unread _ c.from_residual.ensures c.in_err-problem.ensures)

pub returns-in_err-checked-clause-came : goal.returns-in_err-checked-clause-came
returns-in_err-checked-clause-came g c =
    let l = c.args.line in
    kept (export_plan (taking_of l.better) l.cnf.now l.proof.now l.atoms) (export_sound l.better l.model.now l.log.now l.cnf.now l.proof.now l.atoms)
    (came_read c.in_ok-problem.ensures (came_unread _ c.from_residual-in_err-checked.ensures (not_kept c.in_ok-problem.problem l.log.now _ _ _ c.in_err-checked.ensures)))

pub returns-in_err-tell-clause-came : goal.returns-in_err-tell-clause-came
returns-in_err-tell-clause-came g c =
    let l = c.args.line in
    let p = c.in_ok-problem.problem in
    let checked = c.in_ok-checked.checked in
    let unlike = rejected _ c.if-not-is_verified.true c.is_verified.ensures in
    kept (export_plan (taking_of l.better) l.cnf.now l.proof.now l.atoms) (export_sound l.better l.model.now l.log.now l.cnf.now l.proof.now l.atoms)
    (came_read c.in_ok-problem.ensures (came_read (other_kept p l.log.now _ _ checked c.in_ok-checked.ensures unlike)
    (keeps_told l.cnf.now l.proof.now l.atoms p checked.steps checked.finding unlike (came_stopped _ c.from_residual-in_err-tell.ensures (c.in_err-tell.ensures _)))))

pub returns-then-not-is_verified-clause-came : goal.returns-then-not-is_verified-clause-came
returns-then-not-is_verified-clause-came g c =
    let l = c.args.line in
    let p = c.in_ok-problem.problem in
    let checked = c.in_ok-checked.checked in
    let unlike = rejected _ c.if-not-is_verified.true c.is_verified.ensures in
    kept (export_plan (taking_of l.better) l.cnf.now l.proof.now l.atoms) (export_sound l.better l.model.now l.log.now l.cnf.now l.proof.now l.atoms)
    (came_read c.in_ok-problem.ensures (came_read (other_kept p l.log.now _ _ checked c.in_ok-checked.ensures unlike)
    (keeps_told l.cnf.now l.proof.now l.atoms p checked.steps checked.finding unlike (came_answer_with _ (rejected_status _ unlike) (c.in_ok-tell.ensures _)))))

pub returns-in_err-atoms-clause-came : goal.returns-in_err-atoms-clause-came
returns-in_err-atoms-clause-came g c =
    let l = c.args.line in
    let p = c.in_ok-problem.problem in
    let checked = c.in_ok-checked.checked in
    kept (export_plan (taking_of l.better) l.cnf.now l.proof.now l.atoms) (export_sound l.better l.model.now l.log.now l.cnf.now l.proof.now l.atoms)
    (came_read c.in_ok-problem.ensures (came_unread _ c.from_residual-in_err-atoms.ensures (kept_lacking p l.log.now _ _ checked c.in_ok-checked.ensures)))

pub returns-in_err-copy-clause-came : goal.returns-in_err-copy-clause-came
returns-in_err-copy-clause-came g c =
    let l = c.args.line in
    let p = c.in_ok-problem.problem in
    let checked = c.in_ok-checked.checked in
    kept (export_plan (taking_of l.better) l.cnf.now l.proof.now l.atoms) (export_sound l.better l.model.now l.log.now l.cnf.now l.proof.now l.atoms)
    (came_read c.in_ok-problem.ensures (came_unread _ c.from_residual-in_err-copy.ensures (kept_lacking p l.log.now _ _ checked c.in_ok-checked.ensures)))

pub formula_within-requires-clause-steps : goal.formula_within-requires-clause-steps
formula_within-requires-clause-steps g c =
    let p = c.in_ok-problem.problem in
    let log = read_held c.in_ok-checked.ensures in
    let refutes = found_refutes p log.0 c.in_ok-checked.checked log.2 (c.is_verified.ensures.0 c.if-not-is_verified.false) in
    subst (λ (q : Contents). All (IsStepIn q) c.steps.result.now) (sym c.in_ok-atoms.ensures.problem) (subst (λ (ss : List Step). All (IsStepIn p) ss) (sym (c.steps.ensures ∙ c.in_ok-copy.ensures)) (steps_in p c.in_ok-checked.checked.steps refutes.right))

pub returns-in_err-clauses-clause-came : goal.returns-in_err-clauses-clause-came
returns-in_err-clauses-clause-came g c =
    let l = c.args.line in
    let p = c.in_ok-problem.problem in
    let checked = c.in_ok-checked.checked in
    let verified = c.is_verified.ensures.0 c.if-not-is_verified.false in
    let same : c.in_ok-atoms.atoms.problem.now ≡ p = c.in_ok-atoms.ensures.problem in
    let failed = subst (λ (q : Contents). IsFormulaWithin q checked.steps (Err c.in_err-clauses.field-0.0)) same (subst (λ (ss : List Step). IsFormulaWithin c.in_ok-atoms.atoms.problem.now ss (Err c.in_err-clauses.field-0.0)) (c.steps.ensures ∙ c.in_ok-copy.ensures) c.in_err-clauses.ensures) in
    kept (export_plan (taking_of l.better) l.cnf.now l.proof.now l.atoms) (export_sound l.better l.model.now l.log.now l.cnf.now l.proof.now l.atoms)
    (came_read c.in_ok-problem.ensures (came_unread _ c.from_residual-in_err-clauses.ensures (kept_refused p l.log.now _ _ checked c.in_ok-checked.ensures verified c.in_err-clauses.field-0.0 failed)))

pub write-requires-clause-steps : goal.write-requires-clause-steps
write-requires-clause-steps g c =
    let p = c.in_ok-problem.problem in
    let log = read_held c.in_ok-checked.ensures in
    let refutes = found_refutes p log.0 c.in_ok-checked.checked log.2 (c.is_verified.ensures.0 c.if-not-is_verified.false) in
    subst (λ (q : Contents). All (IsStepIn q) c.in_ok-copy.copy) (sym c.in_ok-atoms.ensures.problem) (subst (λ (ss : List Step). All (IsStepIn p) ss) (sym c.in_ok-copy.ensures) (steps_in p c.in_ok-checked.checked.steps refutes.right))

pub returns-in_err-write-clause-came : goal.returns-in_err-write-clause-came
returns-in_err-write-clause-came g c =
    let l = c.args.line in
    let p = c.in_ok-problem.problem in
    let checked = c.in_ok-checked.checked in
    let verified = c.is_verified.ensures.0 c.if-not-is_verified.false in
    let same : c.in_ok-atoms.atoms.problem.now ≡ p = c.in_ok-atoms.ensures.problem in
    let made = subst (λ (q : Contents). IsFormulaWithin q checked.steps (Ok c.in_ok-clauses.clauses)) same (subst (λ (ss : List Step). IsFormulaWithin c.in_ok-atoms.atoms.problem.now ss (Ok c.in_ok-clauses.clauses)) (c.steps.ensures ∙ c.in_ok-copy.ensures) c.in_ok-clauses.ensures) in
    let script = ap (λ (q : Contents). export_script l.cnf.now l.proof.now l.atoms q c.in_ok-copy.copy) same ∙ ap (λ (ss : List Step). export_script l.cnf.now l.proof.now l.atoms p ss) c.in_ok-copy.ensures in
    kept (export_plan (taking_of l.better) l.cnf.now l.proof.now l.atoms) (export_sound l.better l.model.now l.log.now l.cnf.now l.proof.now l.atoms)
    (came_read c.in_ok-problem.ensures (came_read (refuting_kept p l.log.now _ _ checked c.in_ok-checked.ensures made.1)
    (keeps_written l.cnf.now l.proof.now l.atoms p checked.steps checked.finding verified (came_stopped _ c.from_residual-in_err-write.ensures (wrote_as script c.in_err-write.ensures)))))

pub returns-clause-came : goal.returns-clause-came
returns-clause-came g c =
    let l = c.args.line in
    let p = c.in_ok-problem.problem in
    let checked = c.in_ok-checked.checked in
    let verified = c.is_verified.ensures.0 c.if-not-is_verified.false in
    let same : c.in_ok-atoms.atoms.problem.now ≡ p = c.in_ok-atoms.ensures.problem in
    let made = subst (λ (q : Contents). IsFormulaWithin q checked.steps (Ok c.in_ok-clauses.clauses)) same (subst (λ (ss : List Step). IsFormulaWithin c.in_ok-atoms.atoms.problem.now ss (Ok c.in_ok-clauses.clauses)) (c.steps.ensures ∙ c.in_ok-copy.ensures) c.in_ok-clauses.ensures) in
    let script = ap (λ (q : Contents). export_script l.cnf.now l.proof.now l.atoms q c.in_ok-copy.copy) same ∙ ap (λ (ss : List Step). export_script l.cnf.now l.proof.now l.atoms p ss) c.in_ok-copy.ensures in
    kept (export_plan (taking_of l.better) l.cnf.now l.proof.now l.atoms) (export_sound l.better l.model.now l.log.now l.cnf.now l.proof.now l.atoms)
    (came_read c.in_ok-problem.ensures (came_read (refuting_kept p l.log.now _ _ checked c.in_ok-checked.ensures made.1)
    (keeps_written l.cnf.now l.proof.now l.atoms p checked.steps checked.finding verified (came_answer (wrote_as script c.in_ok-write.ensures)))))

pub returns-clause-exports : goal.returns-clause-exports
returns-clause-exports g c = λ good unlike.
    let l = c.args.line in
    let p = c.in_ok-problem.problem in
    let checked = c.in_ok-checked.checked in
    let verified = c.is_verified.ensures.0 c.if-not-is_verified.false in
    let same : c.in_ok-atoms.atoms.problem.now ≡ p = c.in_ok-atoms.ensures.problem in
    let made = subst (λ (q : Contents). IsFormulaWithin q checked.steps (Ok c.in_ok-clauses.clauses)) same (subst (λ (ss : List Step). IsFormulaWithin c.in_ok-atoms.atoms.problem.now ss (Ok c.in_ok-clauses.clauses)) (c.steps.ensures ∙ c.in_ok-copy.ensures) c.in_ok-clauses.ensures) in
    let script = ap (λ (q : Contents). export_script l.cnf.now l.proof.now l.atoms q c.in_ok-copy.copy) same ∙ ap (λ (ss : List Step). export_script l.cnf.now l.proof.now l.atoms p ss) c.in_ok-copy.ensures in
    let m = c.in_ok-problem.ensures in
    let k = c.in_ok-checked.ensures in
    let log = read_held k in
    let refutes = found_refutes p log.0 checked log.2 verified in
    let before = g.F.Folder.place c.args.outside.now.folder in
    let mid = g.F.Folder.place c.take_problem.new.folder in
    let after = g.F.Folder.place c.check_and_keep.new.folder in
    told_export l.better l.model.now l.log.now l.cnf.now l.proof.now l.atoms before.held mid.held p checked _ _ verified m.held (read_held m) log
    (has_exported p c.denotes_csp.ensures.csp c.denotes_csp.ensures.problem.few_variables checked.steps refutes (small_of p (formula p checked.steps) made.1) _ l.atoms l.cnf.now l.proof.now before after _ _ (k.held ∙ m.held) unlike (wrote_as script c.in_ok-write.ensures))
