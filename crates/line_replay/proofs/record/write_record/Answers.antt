use Rattle.dcsp_script.proofs.Lines.{first_wrote, first_stopped}
use Rattle.abt_session.proofs.Pieces.{line_appended}
use Rattle.abt_session.proofs.Whole.{created_here}
use Rattle.line_replay.proofs.record.write_record.Goals as goal

pub returns-in_err-create : goal.returns-in_err-create
returns-in_err-create g c = λ out. rw c.in-Some.is (first_stopped c.from_residual.ensures (c.in_err-create.ensures.wrote out))

pub append-requires : goal.append-requires
append-requires g c = created_here _ c.in-Some.name.now c.in_ok-create.ensures.created

pub returns : goal.returns
returns g c = λ out. rw c.in-Some.is (first_wrote (c.in_ok-create.ensures.wrote out) (line_appended c.in-Some.name.now _ _ c.deref.ensures.value c.in-Ok.ensures.ok c.new-text.ensures.items (c.append.ensures.wrote out)))
