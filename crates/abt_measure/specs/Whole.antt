-- A whole run with its measures.
use Rattle.std.specs.Prelude.{◌≡◌, ℕ, Bool, true, false, List, length, take}
use Rattle.dcsp_defs.specs.Csp.{Csp}
use Rattle.dcsp_rule.specs.Problems.{Contents, csp_of}
use Rattle.abt_defs.specs.Network.{run, start}
use Rattle.abt_defs.specs.Runs.{whole}
use Rattle.abt_defs.specs.Events.{acts}
use Rattle.abt_network.specs.Standing.{StandsAt}
use Rattle.abt_measure.specs.declared.run.MeasuredRun.{MeasuredRun}
use Rattle.abt_measure.specs.Learning.{AreLearned}
use Rattle.abt_measure.specs.Measuring.{IsMeasured}

-- the choices that a run uses
abbrev pub used : Csp → ℕ → List ℕ → List ℕ
used p most choices = take (whole p most choices).net.deliveries choices

-- the run has come so far under these choices, and all that was counted is that of it
pub record IsAfter (p : Contents) (choices : List ℕ) (r : MeasuredRun) : Type 0 where
  pub problem : r.network.problem ≡ p
  pub stands : StandsAt r.network (run (csp_of p) choices (start (csp_of p)))
  pub sound : r.network.spent ≡ false
  pub begun : r.network.begun ≡ true
  pub measured : IsMeasured (csp_of p) choices r.measures
  pub learned : r.listens ≡ true → AreLearned (acts (csp_of p) choices) r.learned
  pub rows : length r.measures.rows ≡ length p.domains
  pub lists : length r.learned ≡ length p.domains

-- it is the whole run under these choices
pub record IsMeasuredRun (p : Contents) (most : ℕ) (choices : List ℕ) (listens : Bool) (r : MeasuredRun) : Type 0 where
  pub after : IsAfter p (used (csp_of p) most choices) r
  pub stands : StandsAt r.network (whole (csp_of p) most choices).net
  pub listens_is : r.listens ≡ listens
