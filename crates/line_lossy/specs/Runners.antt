-- A run over the medium on its way.
use Rattle.std.specs.Prelude.{◌≡◌, ℕ, ◌+◌, ◌≤◌, ◌++◌, Bool, true, false, List, [], Option, option_copied, drop, length, map}
use Rattle.dcsp_defs.specs.Words.{below}
use Rattle.dcsp_defs.specs.declared.Step.{Step}
use Rattle.dcsp_rule.specs.Problems.{Contents, csp_of}
use Rattle.dcsp_order.specs.Told.{steps_told}
use Rattle.dcsp_script.specs.Scripts.{Write}
use Rattle.law_runs.specs.Worlds.{begin}
use Rattle.law_runs.specs.Deliveries.{numbers}
use Rattle.law_runs.specs.LossyEnds.{calm_words, used}
use Rattle.abt_schedule.specs.Answers.{word_at}
use Rattle.rand_pcg.specs.Lcg.{Lcg}
use Rattle.abt_lossy.specs.InWorld.{LossyState, IsAfter, reached}
use Rattle.abt_session.specs.Running.{kept, IsOutcome}
use Rattle.abt_session.specs.Sessions.{step_writes}
use Rattle.abt_session.specs.declared.ordered.Ordered.{Ordered}
use Rattle.abt_session.specs.Ordering.{order_in}
use Rattle.line_lossy.specs.declared.line.Losses.{Losses}
use Rattle.line_lossy.specs.Asked.{Asked, lossy, end_of, run_problem, run_words, run_world}
use Rattle.line_lossy.specs.declared.runner.LossyRunner.{LossyRunner}
use Rattle.line_lossy.specs.declared.ending.LossyOutcome.{LossyOutcome}

-- the numbers of all that these events of its problem hand up
abbrev pub numbers_after : LossyState → List ℕ → List ℕ
numbers_after s words = numbers (csp_of s.problem) words (begin (csp_of s.problem))

-- these events were made; the steps were counted, and what was handed up was counted and, where that is asked for, taken down
pub record HasMade (words : List ℕ) (r : LossyRunner) : Type 0 where
  pub after : IsAfter r.medium words
  pub begun : r.medium.begun ≡ true
  pub sound : r.medium.spent ≡ false
  pub steps : r.steps ≡ length (reached r.medium words).network.steps
  pub deliveries : r.deliveries ≡ length (numbers_after r.medium words)
  pub taken : r.taken ≡ kept r.keep (numbers_after r.medium words)
  pub few_steps : r.steps ≤ r.medium.events + 1
  pub few_deliveries : r.deliveries ≤ r.medium.events

-- where these steps grew to those, an append for each that is new
abbrev pub new_writes : List ℕ → List Step → List Step → List Write
new_writes log before now = step_writes log (length before + 1) (drop (length before) now)

-- the order under which it runs, where that is not the file's own
abbrev pub order_of : LossyRunner → Option (List ℕ)
order_of r = option_copied r.order

-- the appends of the steps that the world of these later words has beyond that of the earlier ones, in the model's own numbers
abbrev pub writes_between : LossyRunner → List ℕ → List ℕ → List Write
writes_between r earlier later = new_writes r.log.now (steps_told (order_of r) (reached r.medium earlier).network.steps) (steps_told (order_of r) (reached r.medium later).network.steps)

-- the first words of a generator, so many of them, until a verdict stands
abbrev pub seeded_until_verdict : LossyState → Lcg → ℕ → List ℕ
seeded_until_verdict s generator events = used (csp_of s.problem) (map (word_at generator) (below events)) (begin (csp_of s.problem))

-- these words and calm ones after them, at most so many, until a verdict stands
abbrev pub calmed : LossyState → List ℕ → ℕ → List ℕ
calmed s words most = words ++ calm_words (csp_of s.problem) most (reached s words)

-- what events leave as it was
pub record SameTask (old new : LossyRunner) : Type 0 where
  pub order : order_of new ≡ order_of old
  pub problem : new.medium.problem ≡ old.medium.problem
  pub log : new.log.now ≡ old.log.now
  pub keep : new.keep ≡ old.keep

-- it is to run this problem, which is so under the order, with this log, and nothing was made yet
pub record IsFresh (under : Option (List ℕ)) (p : Contents) (log_name : List ℕ) (keeps : Bool) (r : LossyRunner) : Type 0 where
  pub order : order_of r ≡ under
  pub problem : r.medium.problem ≡ p
  pub log : r.log.now ≡ log_name
  pub keep : r.keep ≡ keeps
  pub sound : r.medium.spent ≡ false
  pub fresh : r.medium.begun ≡ false
  pub steps : r.steps ≡ 0
  pub deliveries : r.deliveries ≡ 0
  pub taken : r.taken ≡ []

-- what the run gives: its end, with the values where it is solved, and its counts
pub record IsEnded (asked : Asked) (ended : LossyOutcome) : Type 0 where
  pub outcome : IsOutcome asked.order (run_problem asked) (run_world asked).network (end_of (run_problem asked) (run_world asked)) ended.outcome
  pub events : ended.events ≡ length (run_words asked)

-- the run that a line asks for of a model's problem under an order
abbrev pub asked_by : Ordered → Losses → Asked
asked_by model line = lossy (order_in model) model.problem.now line.events line.seed line.log.now (option_copied line.record_file)
