-- A search, and the run of a round, as the code asks for them.
use Rattle.std.specs.Prelude.{ℕ, Some}
use Rattle.abt_session.specs.Ordering.{order_in}
use Rattle.abt_session.specs.Sessions.{Session}
use Rattle.abt_session.specs.declared.ordered.Ordered.{Ordered}
use Rattle.line_replay.specs.Asked.{set_session}
use Rattle.line_replay.specs.Settings.{settings_of}
use Rattle.line_replay.specs.declared.solve.Solve.{Solve}
use Rattle.line_solve.specs.Searching.{AskedSearch, best_search}

-- the search of this problem for the best value
abbrev pub search_of : Ordered → Solve → AskedSearch
search_of model line = best_search (order_in model) model.problem.now line.log.now (settings_of line.options)

-- the run of this problem as the round with this number
abbrev pub round_of : Ordered → Solve → ℕ → Session
round_of model line number = set_session (order_in model) model.problem.now line.log.now (settings_of line.options) (Some number)
