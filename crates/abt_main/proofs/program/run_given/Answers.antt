use Rattle.dcsp_script.proofs.Ways.{did_nothing}
use Rattle.abt_main.proofs.program.run_given.Goals as goal

pub returns-in-Ok : goal.returns-in-Ok
returns-in-Ok g c = rw c.in-Ok.is (c.run_command.result, c.code.ensures, rw c.deref.ensures.value at c.run_command.ensures.runs)

pub returns-in-Err : goal.returns-in-Err
returns-in-Err g c = rw c.in-Err.is (record { code_is = c.code-in-Err.ensures; nothing = did_nothing _; said = c.say.ensures })
