-- A run on its way.
use Rattle.std.specs.Prelude.{◌≡◌, ℕ, ◌+◌, Bool, false, List, ◌++◌, Option, Result, IfOk}
use Rattle.dcsp_script.specs.declared.stop.Stop.{Stop}
use Rattle.dcsp_script.specs.Scripts.{Write, World}
use Rattle.dcsp_script.specs.Ways.{Wrote}
use Rattle.abt_network.specs.Standing.{NetworkState, StandsAt}
use Rattle.abt_session.specs.Sessions.{Session, run_of}
use Rattle.abt_session.specs.Running.{kept, order_of}
use Rattle.abt_session.specs.Ends.{BareEnd, end_of}
use Rattle.abt_session.specs.declared.runner.Runner.{Runner}

-- the run has stopped: the network stands at its end, its numbers were taken down, where that was asked for, and the answers to come are those behind its choices
pub record Finishes (s : Session) (keep : Bool) (taken now : List ℕ) (answers to_come : ℕ → Option ℕ) (network : NetworkState) (told : BareEnd) : Type 0 where
  pub end : (run_of s).end ≡ end_of told
  pub stands : StandsAt network (run_of s).net
  pub sound : network.spent ≡ false
  pub takes : now ≡ taken ++ kept keep (run_of s).numbers
  pub behind : (k : ℕ) → to_come k ≡ answers ((run_of s).net.deliveries + k)

-- what a part of a run's work leaves: it writes this script
pub record Leaves (s : Session) (script : List Write) (keep : Bool) (taken now : List ℕ) (answers to_come : ℕ → Option ℕ) (network : NetworkState) (old new : World) (result : Result BareEnd Stop) : Type 0 where
  pub wrote : Wrote script old new result
  pub finishes : IfOk result (Finishes s keep taken now answers to_come network)

-- what a delivery leaves as it was
pub record SameTask (old new : Runner) : Type 0 where
  pub problem : new.network.problem ≡ old.network.problem
  pub most : new.task.most ≡ old.task.most
  pub log : new.task.log.now ≡ old.task.log.now
  pub telling : new.task.telling ≡ old.task.telling
  pub keep : new.task.keep ≡ old.task.keep
  pub order : order_of new.task ≡ order_of old.task
