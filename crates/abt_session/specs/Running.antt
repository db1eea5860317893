-- What the code of a run keeps, and what a run gives.
use Rattle.std.specs.Prelude.{◌≡◌, ℕ, ℤ, Bool, false, None, List, [], ◌++◌, map, length, Option, if◌then◌else◌}
use Rattle.dcsp_defs.specs.Csp.{Csp, count}
use Rattle.dcsp_defs.specs.Words.{below}
use Rattle.dcsp_outside.specs.Outside.{IsPrefixOf}
use Rattle.dcsp_rule.specs.Problems.{Contents, csp_of}
use Rattle.abt_defs.specs.Network.{Network, values}
use Rattle.abt_defs.specs.Runs as runs
use Rattle.abt_network.specs.Standing.{NetworkState, StandsAt, reached}
use Rattle.dcsp_order.specs.Told.{ordered, values_told}
use Rattle.abt_session.specs.Answers.{first_answers}
use Rattle.abt_session.specs.declared.telling.Telling.{Telling}
use Rattle.abt_session.specs.declared.session.RunTask.{RunTask}
use Rattle.abt_session.specs.Ordering.{order_in}
use Rattle.abt_session.specs.Sessions.{Session, run_of}
use Rattle.abt_defs.specs.declared.end.End.{End}
use Rattle.abt_defs.specs.declared.end.End.TheVariants.{Solved, Refuted, Spent, Capped}
use Rattle.abt_session.specs.declared.outcome.Outcome.{Outcome}

-- the run of this problem, which is so under the order, if there is one, by these answers
abbrev pub session_of : Option (List ℕ) → Contents → ℕ → (ℕ → Option ℕ) → List ℕ → Telling → Session
session_of order run most answers log telling = record { problem = csp_of run; order = order; most = most; choices = first_answers most answers; log = log; telling = telling }

-- the order that a task asks for
abbrev pub order_of : RunTask → Option (List ℕ)
order_of task = order_in task.model

-- the run of this problem by these answers that a task asks for
abbrev pub session_for : Contents → (ℕ → Option ℕ) → RunTask → Session
session_for run answers task = session_of (order_of task) run task.most answers task.log.now task.telling

-- the run that it asks for: that of its problem under the order
abbrev pub session_by : (ℕ → Option ℕ) → RunTask → Session
session_by answers task = session_for (ordered (order_of task) task.model.problem.now) answers task

-- nothing tells of a run's deliveries
abbrev pub nothing_told : Telling
nothing_told = record { trace = false; progress = false; round = None }

-- its trace alone tells of them, where it is asked for
abbrev pub trace_told : Bool → Telling
trace_told trace = record { trace = trace; progress = false; round = None }

-- these choices lead to where the network stands
abbrev pub IsAfter : NetworkState → List ℕ → Type 0
IsAfter s choices = StandsAt s (reached s choices)

-- some choices do
abbrev pub IsOnRun : NetworkState → Type 0
IsOnRun s = (choices : List ℕ) × IsAfter s choices

-- what is taken down of these numbers
abbrev pub kept : Bool → List ℕ → List ℕ
kept keep numbers = if keep then numbers else []

-- some first numbers of the run were taken down, if that was asked for
pub record TakesPart (keep : Bool) (numbers old new : List ℕ) : Type 0 where
  pub part : List ℕ
  pub begins : IsPrefixOf part numbers
  pub added : new ≡ old ++ kept keep part

-- the values of all variables of a model, in order, where its problem is run to this network
abbrev pub values_of : Option (List ℕ) → Csp → Network → List ℤ
values_of order p net = map (values_told order (values net)) (below (count p))

-- an end as the definitions have it; where nothing is in transit it has the values of all variables
abbrev pub IsEnd : Option (List ℕ) → Csp → Network → runs.End → End (List ℤ) → Type 0
IsEnd order p net end (Solved list) = (end ≡ runs.Solved) × (list ≡ values_of order p net)
IsEnd order p net end Refuted = end ≡ runs.Refuted
IsEnd order p net end Spent = end ≡ runs.Spent
IsEnd order p net end Capped = end ≡ runs.Capped

-- how a run of this problem ended with this network, and how many deliveries and steps it made
pub record IsOutcome (order : Option (List ℕ)) (p : Csp) (net : Network) (ended : runs.End) (outcome : Outcome) : Type 0 where
  pub end : IsEnd order p net ended outcome.end
  pub deliveries : outcome.deliveries ≡ net.deliveries
  pub steps : outcome.steps ≡ length net.steps

-- what a run gives
abbrev pub Gives : Session → Outcome → Type 0
Gives s outcome = IsOutcome s.order s.problem (run_of s).net (run_of s).end outcome
