-- The line as the code has its words, and what its run makes.
use Rattle.std.specs.Prelude.{ℕ, List, Option, option_copied}
use Rattle.dcsp_defs.specs.declared.Step.{Step}
use Rattle.dcsp_rule.specs.Problems.{csp_of}
use Rattle.dcsp_order.specs.Told.{steps_told}
use Rattle.dcsp_script.specs.declared.status.Status.{Status}
use Rattle.dcsp_script.specs.Promises.{Promise}
use Rattle.abt_lossy.specs.InWorld.{reached}
use Rattle.line_lossy.specs.Asked.{seeded_words, words_of}
use Rattle.line_lossy.specs.LossyPromise.{lossy_promise}
use Rattle.line_lossy.specs.Meaning.{HoldsLossyRun}
use Rattle.line_lossy.specs.Runners.{order_of}
use Rattle.line_lossy.specs.declared.line.Losses.{Losses}
use Rattle.line_lossy.specs.declared.runner.LossyRunner.{LossyRunner}

-- what the line promises
abbrev pub promise_of : Losses → Promise
promise_of line = lossy_promise line.model.now (option_copied line.order_file) line.log.now line.events line.seed (option_copied line.record_file)

-- where the folder tells its files, the status is right of the line's run
abbrev pub HoldsItsRun : Option (List ℕ → Option (List ℕ)) → Losses → Status → Type 0
HoldsItsRun files line status = HoldsLossyRun files line.model.now (option_copied line.order_file) line.events line.seed line.log.now (option_copied line.record_file) status

-- the words of a run's events: so many from the seed, and then calm ones
abbrev pub words_by : LossyRunner → ℕ → ℕ → ℕ → List ℕ
words_by r seed events most = words_of (csp_of r.medium.problem) (seeded_words seed events) most

-- the steps of its events
abbrev pub steps_by : LossyRunner → List ℕ → List Step
steps_by r words = steps_told (order_of r) (reached r.medium words).network.steps
