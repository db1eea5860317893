use Rattle.dcsp_script.proofs.Lines.{first_wrote, first_stopped}
use Rattle.abt_session.proofs.Pieces.{line_appended, memory_at_once}
use Rattle.abt_session.proofs.Whole.{created_here}
use Rattle.line_starve.proofs.starve.write_choices.Goals as goal

pub returns-in_default : goal.returns-in_default
returns-in_default g c = λ out. memory_at_once _ _

pub returns-in_err-create : goal.returns-in_err-create
returns-in_err-create g c = λ out. first_stopped c.from_residual.ensures (c.in_err-create.ensures.wrote out)

pub append-requires : goal.append-requires
append-requires g c = created_here _ c.args.file.now c.in_ok-create.ensures.created

pub returns : goal.returns
returns g c = λ out. first_wrote (c.in_ok-create.ensures.wrote out) (line_appended c.args.file.now _ _ c.deref.ensures.value c.in-Ok.ensures.ok c.new-text.ensures.items (c.append.ensures.wrote out))
