use Rattle.std.proofs.Common.{ℕ, List, [], ◌∷◌, ◌++◌, length, map, sym, ap, ◌∙◌}
use Rattle.dcsp_script.proofs.Lines.{then_rest, then_stopped}
use Rattle.dcsp_rule.specs.Problems.{value_count}
use Rattle.rup_check.specs.ProofText.{clause_line}
use Rattle.line_rewrite.specs.UpgradePromise.{file_script}
use Rattle.line_rewrite.proofs.Writing.{wrote_as}
use Rattle.line_export.specs.Clauses.{Clause, proof}
use Rattle.std.proofs.Common.{append_assoc}
use Rattle.dcsp_defs.specs.declared.Step.{Step}
use Rattle.dcsp_script.specs.Scripts.{Put}
use Rattle.line_export.specs.Texts.{cnf_lines, counts_text}
use Rattle.line_export.specs.Clauses.{formula}
use Rattle.line_export.proofs.export.write.Goals as goal

pub returns-in_err-write_cnf : goal.returns-in_err-write_cnf
returns-in_err-write_cnf g c =
    let l = c.args.line in
    let p = c.args.formula.now.atoms.problem.now in
    let ss = c.args.formula.now.steps in
    let one = file_script l.cnf.now (cnf_lines p l.atoms (formula p ss)) in
    let two = file_script l.proof.now (map clause_line (proof p ss)) in
    let told_last = Put (counts_text (value_count p) (length (formula p ss)) (length ss)) ∷ [] in
    let first = ap (λ (cs : List Clause). file_script l.cnf.now (cnf_lines p l.atoms cs)) c.requires.clauses in
    wrote_as (sym (append_assoc one two told_last)) (then_stopped (two ++ told_last) c.from_residual.ensures (wrote_as first (c.in_err-write_cnf.ensures _)))

pub returns-in_err-write_proof : goal.returns-in_err-write_proof
returns-in_err-write_proof g c =
    let l = c.args.line in
    let p = c.args.formula.now.atoms.problem.now in
    let ss = c.args.formula.now.steps in
    let one = file_script l.cnf.now (cnf_lines p l.atoms (formula p ss)) in
    let two = file_script l.proof.now (map clause_line (proof p ss)) in
    let told_last = Put (counts_text (value_count p) (length (formula p ss)) (length ss)) ∷ [] in
    let first = ap (λ (cs : List Clause). file_script l.cnf.now (cnf_lines p l.atoms cs)) c.requires.clauses in
    let second = ap (λ (ss : List Step). file_script l.proof.now (map clause_line (proof p ss))) c.steps.ensures in
    wrote_as (sym (append_assoc one two told_last)) (then_rest (wrote_as first (c.in_ok-write_cnf.ensures _)) (then_stopped told_last c.from_residual-in_err-write_proof.ensures (wrote_as second (c.in_err-write_proof.ensures _))))

pub returns : goal.returns
returns g c =
    let l = c.args.line in
    let p = c.args.formula.now.atoms.problem.now in
    let ss = c.args.formula.now.steps in
    let one = file_script l.cnf.now (cnf_lines p l.atoms (formula p ss)) in
    let two = file_script l.proof.now (map clause_line (proof p ss)) in
    let told_last = Put (counts_text (value_count p) (length (formula p ss)) (length ss)) ∷ [] in
    let first = ap (λ (cs : List Clause). file_script l.cnf.now (cnf_lines p l.atoms cs)) c.requires.clauses in
    let second = ap (λ (ss : List Step). file_script l.proof.now (map clause_line (proof p ss))) c.steps.ensures in
    let told = ap (λ n. counts_text n c.len-clauses.result c.len.result) (c.from-variables.ensures ∙ c.requires.atoms.count) ∙ ap (λ n. counts_text (value_count p) n c.len.result) (c.len-clauses.ensures.len ∙ ap (λ (cs : List Clause). length cs) c.requires.clauses) ∙ ap (counts_text (value_count p) (length (formula p c.args.formula.now.steps))) c.len.ensures in
    wrote_as (sym (append_assoc one two told_last)) (then_rest (wrote_as first (c.in_ok-write_cnf.ensures _)) (then_rest (wrote_as second (c.in_ok-write_proof.ensures _)) (wrote_as (ap (λ (t : List ℕ). Put t ∷ []) told) (c.tell.ensures _))))
