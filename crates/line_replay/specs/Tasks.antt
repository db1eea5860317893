-- The runs of a model's problem that the code asks for.
use Rattle.std.specs.Prelude.{ℕ, Option}
use Rattle.dcsp_order.specs.Told.{ordered}
use Rattle.abt_session.specs.Ordering.{order_in}
use Rattle.abt_session.specs.Sessions.{Session}
use Rattle.abt_session.specs.Running.{session_of}
use Rattle.abt_session.specs.declared.ordered.Ordered.{Ordered}
use Rattle.line_replay.specs.Asked.{Asked, replay, solve}
use Rattle.line_replay.specs.Settings.{settings_of}
use Rattle.line_replay.specs.declared.record.Task.{Task}
use Rattle.line_replay.specs.declared.replay.Chosen.{Chosen}
use Rattle.line_replay.specs.declared.replay.Replay.{Replay}
use Rattle.line_replay.specs.declared.solve.Solve.{Solve}

-- with a record, by these answers
abbrev pub task_session : (ℕ → Option ℕ) → Task → Session
task_session answers task =
    let order = order_in task.model in session_of order (ordered order task.model.problem.now) task.most answers task.log.now task.telling

-- by the choices of a schedule
abbrev pub replay_of : Chosen → Replay → Asked
replay_of read line = replay (order_in read.model) read.model.problem.now read.choices line.log.now line.trace

-- by the choices of a seed
abbrev pub solve_of : Ordered → Solve → Asked
solve_of model line = solve (order_in model) model.problem.now line.log.now (settings_of line.options)
