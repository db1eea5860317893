use Rattle.std.proofs.Common.{subst, sym, ◌∙◌}
use Rattle.std.specs.Prelude.{Contains}
use Rattle.dcsp_script.proofs.Lines.{first_wrote, first_stopped, then_rest, then_stopped}
use Rattle.line_rewrite.proofs.Writing.{created_here, wrote_file}
use Rattle.line_rewrite.proofs.entries.write_upgraded.Goals as goal

pub returns-in_err-create-clause-wrote : goal.returns-in_err-create-clause-wrote
returns-in_err-create-clause-wrote g c = λ out. first_stopped c.from_residual.ensures (c.in_err-create.ensures.wrote out)

pub returns-in_err-append-clause-wrote : goal.returns-in_err-append-clause-wrote
returns-in_err-append-clause-wrote g c = λ out. first_wrote (c.in_ok-create.ensures.wrote out) (first_stopped c.from_residual-in_err-append.ensures (c.in_err-append.ensures.wrote out))

pub append_upgraded-requires-clause-created : goal.append_upgraded-requires-clause-created
append_upgraded-requires-clause-created g c = subst (λ names. Contains names c.args.name.now) (sym c.in_ok-append.ensures.created) (created_here _ c.args.name.now c.in_ok-create.ensures.created)

pub returns-in_err-deleted-clause-wrote : goal.returns-in_err-deleted-clause-wrote
returns-in_err-deleted-clause-wrote g c = λ out.
    wrote_file c.args.name.now _ _ _ (first_wrote (c.in_ok-create.ensures.wrote out) (first_wrote (c.in_ok-append.ensures.wrote out) (then_stopped _ c.from_residual-in_err-deleted.ensures (c.in_err-deleted.ensures.wrote out))))

pub append-requires-2 : goal.append-requires-2
append-requires-2 g c = subst (λ names. Contains names c.args.name.now) (sym (c.in_ok-deleted.ensures.created ∙ c.in_ok-append.ensures.created)) (created_here _ c.args.name.now c.in_ok-create.ensures.created)

pub returns-in_err-append-2-clause-wrote : goal.returns-in_err-append-2-clause-wrote
returns-in_err-append-2-clause-wrote g c = λ out.
    wrote_file c.args.name.now _ _ _ (first_wrote (c.in_ok-create.ensures.wrote out) (first_wrote (c.in_ok-append.ensures.wrote out) (then_rest (c.in_ok-deleted.ensures.wrote out) (first_stopped c.from_residual-in_err-append-2.ensures (c.in_err-append-2.ensures.wrote out)))))

pub returns-clause-wrote : goal.returns-clause-wrote
returns-clause-wrote g c = λ out.
    wrote_file c.args.name.now _ _ _ (first_wrote (c.in_ok-create.ensures.wrote out) (first_wrote (c.in_ok-append.ensures.wrote out) (then_rest (c.in_ok-deleted.ensures.wrote out) (let w = c.in_ok-append-2.ensures.wrote out in record { ended = w.ended; handed = w.handed }))))
