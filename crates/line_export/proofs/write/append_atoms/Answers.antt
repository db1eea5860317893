use Rattle.std.proofs.Common.{Bool, length, subst, sym, refl, ap, ◌∙◌, arith}
use Rattle.std.specs.Prelude.{Contains}
use Rattle.dcsp_script.proofs.Left.{left_all, left_more, left_stopped, left_ends}
use Rattle.dcsp_script.proofs.Lines.{wrote_nothing}
use Rattle.dcsp_rule.specs.Problems.{csp_of}
use Rattle.dcsp_defs.specs.Words.{below}
use Rattle.line_rewrite.specs.UpgradePromise.{appends}
use Rattle.line_rewrite.proofs.Writing.{wrote_as}
use Rattle.line_export.specs.Texts.{variable_lines}
use Rattle.line_export.proofs.Written.{groups_left, groups_done, below_at}
use Rattle.line_export.specs.Texts.{atom_lines}
use Rattle.line_export.proofs.Written.{below_size}
use Rattle.line_export.proofs.write.append_atoms.Goals as goal

pub loop-var-init : goal.loop-var-init
loop-var-init g c = record { left = λ out. left_all _ _; created = c.requires.created; same = refl }

pub returns-in_err-append_variable-clause-wrote : goal.returns-in_err-append_variable-clause-wrote
returns-in_err-append_variable-clause-wrote g c =
    let p = csp_of c.args.atoms.now.problem.now in
    let n = length c.args.atoms.now.problem.now.domains in
    let k = c.loop-var.var in
    let all = c.vars-var-end.ensures.vars in
    let size = below_size n in
    let split = groups_left c.args.name.now (variable_lines p) (below n) k k (omega (arith, all, size)) (below_at n k (omega (arith, all))) in
    λ out. wrote_as (ap (λ (b : Bool). appends c.args.name.now (atom_lines p b)) (sym c.if-not-wanted.false)) (left_stopped _ _ _ split c.from_residual.ensures (c.loop-var.invariant.left out) (c.in_err-append_variable.ensures.wrote out))

pub loop-var-preserved : goal.loop-var-preserved
loop-var-preserved g c =
    let p = csp_of c.args.atoms.now.problem.now in
    let n = length c.args.atoms.now.problem.now.domains in
    let k = c.loop-var.var in
    let all = c.vars-var-end.ensures.vars in
    let size = below_size n in
    let split = groups_left c.args.name.now (variable_lines p) (below n) k k (omega (arith, all, size)) (below_at n k (omega (arith, all))) in
    record {
      left = λ out. left_more _ split (c.loop-var.invariant.left out) (c.in_ok-append_variable.ensures.wrote out);
      created = subst (λ names. Contains names c.args.name.now) (sym c.in_ok-append_variable.ensures.created) c.loop-var.invariant.created;
      same = c.in_ok-append_variable.ensures.created ∙ c.loop-var.invariant.same;
    }

pub returns-clause-wrote : goal.returns-clause-wrote
returns-clause-wrote g c =
    let p = csp_of c.args.atoms.now.problem.now in
    let n = length c.args.atoms.now.problem.now.domains in
    let all = c.vars-var-end.ensures.vars in
    let size = below_size n in
    λ out. wrote_as (ap (λ (b : Bool). appends c.args.name.now (atom_lines p b)) (sym c.if-not-wanted.false)) (left_ends _ (groups_done c.args.name.now (variable_lines p) (below n) c.loop-var.var (omega (arith, all, size))) (c.loop-var.invariant.left out) wrote_nothing)
