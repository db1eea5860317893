use Rattle.std.proofs.Common.{ℕ, List, [], ◌∷◌, subst, sym, ap, ◌∙◌}
use Rattle.std.specs.Prelude.{Contains}
use Rattle.dcsp_script.specs.Scripts.{Append}
use Rattle.dcsp_script.proofs.Left.{left_all}
use Rattle.dcsp_script.proofs.Lines.{first_wrote, first_stopped, then_rest, then_stopped}
use Rattle.dcsp_rule.specs.Problems.{value_count}
use Rattle.line_rewrite.proofs.Writing.{wrote_as, left_memory, created_here}
use Rattle.line_export.specs.Texts.{header_line}
use Rattle.line_export.proofs.Written.{cnf_script}
use Rattle.line_export.proofs.write.write_cnf.Goals as goal

pub returns-in_err-create : goal.returns-in_err-create
returns-in_err-create g c = λ out. first_stopped c.from_residual.ensures (c.in_err-create.ensures.wrote out)

pub append_atoms-requires-clause-created : goal.append_atoms-requires-clause-created
append_atoms-requires-clause-created g c = created_here _ c.args.name.now c.in_ok-create.ensures.created

pub returns-in_err-append_atoms : goal.returns-in_err-append_atoms
returns-in_err-append_atoms g c = λ out.
    wrote_as (cnf_script c.args.name.now c.args.formula.now.atoms.problem.now c.args.told c.args.formula.now.clauses) (first_wrote (c.in_ok-create.ensures.wrote out) (then_stopped _ c.from_residual-in_err-append_atoms.ensures (c.in_err-append_atoms.ensures.wrote out)))

pub returns-in_err-line : goal.returns-in_err-line
returns-in_err-line g c = λ out.
    wrote_as (cnf_script c.args.name.now c.args.formula.now.atoms.problem.now c.args.told c.args.formula.now.clauses) (first_wrote (c.in_ok-create.ensures.wrote out) (then_rest (c.in_ok-append_atoms.ensures.wrote out) (left_memory _ c.from_residual-in_err-line.ensures (left_all _ _))))

pub append-requires : goal.append-requires
append-requires g c = subst (λ names. Contains names c.args.name.now) (sym c.in_ok-append_atoms.ensures.created) (created_here _ c.args.name.now c.in_ok-create.ensures.created)

pub returns-in_err-append : goal.returns-in_err-append
returns-in_err-append g c =
    let line = c.deref.ensures.value ∙ c.in_ok-line.ensures ∙ ap (λ n. header_line n c.len.result) (c.from.ensures ∙ c.requires.count) ∙ ap (header_line (value_count c.args.formula.now.atoms.problem.now)) c.len.ensures.len in
    λ out. wrote_as (cnf_script c.args.name.now c.args.formula.now.atoms.problem.now c.args.told c.args.formula.now.clauses) (first_wrote (c.in_ok-create.ensures.wrote out) (then_rest (c.in_ok-append_atoms.ensures.wrote out)
    (first_stopped c.from_residual-in_err-append.ensures (wrote_as (ap (λ (b : List ℕ). Append c.args.name.now b ∷ []) line) (c.in_err-append.ensures.wrote out)))))

pub append_clauses-requires : goal.append_clauses-requires
append_clauses-requires g c = record { created = subst (λ names. Contains names c.args.name.now) (sym (c.in_ok-append.ensures.created ∙ c.in_ok-append_atoms.ensures.created)) (created_here _ c.args.name.now c.in_ok-create.ensures.created) }

pub returns : goal.returns
returns g c =
    let line = c.deref.ensures.value ∙ c.in_ok-line.ensures ∙ ap (λ n. header_line n c.len.result) (c.from.ensures ∙ c.requires.count) ∙ ap (header_line (value_count c.args.formula.now.atoms.problem.now)) c.len.ensures.len in
    λ out. wrote_as (cnf_script c.args.name.now c.args.formula.now.atoms.problem.now c.args.told c.args.formula.now.clauses) (first_wrote (c.in_ok-create.ensures.wrote out) (then_rest (c.in_ok-append_atoms.ensures.wrote out)
    (first_wrote (wrote_as (ap (λ (b : List ℕ). Append c.args.name.now b ∷ []) line) (c.in_ok-append.ensures.wrote out)) (c.append_clauses.ensures.wrote out))))
