use Rattle.abt_session.proofs.Pieces.{memory_at_once}
use Rattle.abt_session.proofs.Whole.{created_here, created_still}
use Rattle.dcsp_script.proofs.Lines.{first_stopped, first_wrote}
use Rattle.line_story.proofs.Runs.{text_appended}
use Rattle.line_story.proofs.teller.Teller.begin.Goals as goal

pub returns-in_err-create-clause-wrote : goal.returns-in_err-create-clause-wrote
returns-in_err-create-clause-wrote g c = λ out. first_stopped c.from_residual.ensures (c.in_err-create.ensures.wrote out)

pub append-requires : goal.append-requires
append-requires g c = created_here _ c.args.self.now.file.now c.in_ok-create.ensures.created

pub returns-in_err-append-clause-wrote : goal.returns-in_err-append-clause-wrote
returns-in_err-append-clause-wrote g c = λ out. first_wrote (c.in_ok-create.ensures.wrote out) (first_stopped c.from_residual-in_err-append.ensures (c.in_err-append.ensures.wrote out))

pub returns-in_default-clause-wrote : goal.returns-in_default-clause-wrote
returns-in_default-clause-wrote g c = λ out. first_wrote (c.in_ok-create.ensures.wrote out) (first_wrote (c.in_ok-append.ensures.wrote out) (memory_at_once _ _))

pub append_some-requires : goal.append_some-requires
append_some-requires g c = created_still _ c.args.self.now.file.now c.in_ok-create.ensures.created c.in_ok-append.ensures.created

pub returns-clause-wrote : goal.returns-clause-wrote
returns-clause-wrote g c = λ out.
    first_wrote (c.in_ok-create.ensures.wrote out)
    (first_wrote (c.in_ok-append.ensures.wrote out) (text_appended c.args.self.now.file.now _ _ c.deref.ensures.value c.in-Ok.ensures.told c.clear.ensures.items (c.append_some.ensures.wrote out)))
