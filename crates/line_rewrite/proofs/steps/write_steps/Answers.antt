use Rattle.std.proofs.Common.{subst, sym, ◌∙◌}
use Rattle.std.specs.Prelude.{Contains}
use Rattle.dcsp_script.proofs.Lines.{first_wrote, first_stopped, then_rest, then_stopped}
use Rattle.line_rewrite.proofs.Writing.{created_here, wrote_file}
use Rattle.line_rewrite.proofs.steps.write_steps.Goals as goal

pub returns-in_err-create : goal.returns-in_err-create
returns-in_err-create g c = λ out. first_stopped c.from_residual.ensures (c.in_err-create.ensures.wrote out)

pub returns-in_err-append : goal.returns-in_err-append
returns-in_err-append g c = λ out. first_wrote (c.in_ok-create.ensures.wrote out) (first_stopped c.from_residual-in_err-append.ensures (c.in_err-append.ensures.wrote out))

pub append_steps-requires-clause-created : goal.append_steps-requires-clause-created
append_steps-requires-clause-created g c = subst (λ names. Contains names c.args.name.now) (sym c.in_ok-append.ensures.created) (created_here _ c.args.name.now c.in_ok-create.ensures.created)

pub returns-in_err-append_steps : goal.returns-in_err-append_steps
returns-in_err-append_steps g c = λ out.
    wrote_file c.args.name.now _ _ _ (first_wrote (c.in_ok-create.ensures.wrote out) (first_wrote (c.in_ok-append.ensures.wrote out) (then_stopped _ c.from_residual-in_err-append_steps.ensures (c.in_err-append_steps.ensures.wrote out))))

pub append-requires-2 : goal.append-requires-2
append-requires-2 g c = subst (λ names. Contains names c.args.name.now) (sym (c.in_ok-append_steps.ensures.created ∙ c.in_ok-append.ensures.created)) (created_here _ c.args.name.now c.in_ok-create.ensures.created)

pub returns : goal.returns
returns g c = λ out.
    wrote_file c.args.name.now _ _ _ (first_wrote (c.in_ok-create.ensures.wrote out) (first_wrote (c.in_ok-append.ensures.wrote out) (then_rest (c.in_ok-append_steps.ensures.wrote out) (c.append-2.ensures.wrote out))))
