-- A run that starves a link, as the code asks for it.
use Rattle.std.specs.Prelude.{ℕ, List}
use Rattle.abt_defs.specs.Runs.{Run}
use Rattle.abt_session.specs.declared.starved_run.StarvingRun.{StarvingRun}
use Rattle.line_starve.specs.StarvePromise.{choices_of, starving_run}

-- the run
abbrev pub run_of : StarvingRun → Run
run_of run = starving_run run.problem.now run.from run.to run.most

-- its choices
abbrev pub its_choices : StarvingRun → List ℕ
its_choices run = choices_of run.problem.now run.from run.to run.most
