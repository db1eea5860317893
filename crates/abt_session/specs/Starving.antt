-- Runs that starve a link: a message is delivered from it only where no other is in transit.
use Rattle.std.specs.Prelude.{◌≡◌, ◌≢◌, ◌↔◌, ◌≤◌, ℕ, Bool, List, length, if◌then◌else◌}
use Rattle.std.specs.List.{AllByRecursion}
use Rattle.dcsp_defs.specs.Csp.{Csp}
use Rattle.dcsp_rule.specs.Problems.{csp_of}
use Rattle.abt_defs.specs.Network.{Network, start, ready, is_empty}
use Rattle.abt_defs.specs.Bound.{message_bound}
use Rattle.abt_defs.specs.Runs as runs
use Rattle.abt_defs.specs.Runs.{starved, starved_choices}
use Rattle.law_runs.specs.Stops.{IsOpen}
use Rattle.abt_defs.specs.declared.end.End.TheVariants.{Solved, Refuted, Spent, Capped}
use Rattle.abt_session.specs.Ends.{BareEnd, end_of}
use Rattle.abt_session.specs.declared.starved_run.Starved.{Starved}
use Rattle.abt_session.specs.declared.starved_run.StarvingRun.{StarvingRun}

-- the choices that starve the link from a to b, from the start on, for at most this many deliveries
abbrev pub starving_choices : Csp → ℕ → ℕ → ℕ → List ℕ
starving_choices p a b most = starved_choices p a b most (start p)

-- the choices of the run that is asked for
abbrev pub choices_of : StarvingRun → List ℕ
choices_of run = starving_choices (csp_of run.problem.now) run.from run.to run.most

-- the run that is asked for
abbrev pub run_of : StarvingRun → runs.Run
run_of run = starved (csp_of run.problem.now) run.from run.to run.most

-- the choices of a run that starves a link: no more than so many, each of which is 0 or 1
pub record AreNear (most : ℕ) (choices : List ℕ) : Type 0 where
  pub few : length choices ≤ most
  pub each : AllByRecursion (λ choice. choice ≤ 1) choices

-- how a run has ended that leaves a network: refuted, or with nothing in transit, or neither
abbrev pub end_by : Bool → Bool → BareEnd
end_by refuted empty = if refuted then Refuted else (if empty then Solved tt else Capped)

-- how a run has ended that leaves this network
abbrev pub end_at : Csp → Network → BareEnd
end_at p net = end_by net.refuted (is_empty (ready p net))

-- what is told is how the run under these choices ends, and how many deliveries it makes
pub record IsStarved (p : Csp) (a b most : ℕ) (told : Starved) : Type 0 where
  pub end : (starved p a b most).end ≡ end_of told.end
  pub deliveries : told.deliveries ≡ (starved p a b most).net.deliveries
  -- capped exactly where the most were made, a message is in transit and nothing was refuted
  pub open_ : (told.end ≡ Capped) ↔ (IsOpen p (starved p a b most).net × (told.deliveries ≡ most))
  pub never_spent : told.end ≢ Spent
  pub bound : told.deliveries ≤ message_bound p
