-- A run that is told as it is made.
use Rattle.std.specs.Prelude.{◌≡◌, ℕ, true, false, List, ◌∷◌, Option, flat_map}
use Rattle.std.specs.List.{range_with_len}
use Rattle.dcsp_defs.specs.Csp.{Csp}
use Rattle.dcsp_rule.specs.Problems.{csp_of}
use Rattle.dcsp_script.specs.Scripts.{Write, Create, Append}
use Rattle.abt_defs.specs.Network.{Network}
use Rattle.abt_defs.specs.Runs.{whole}
use Rattle.abt_session.specs.Ordering.{order_in}
use Rattle.abt_story.specs.Telling.{delivery_lines, lines_at, start_lines}
use Rattle.line_story.specs.StoryPromise.{event_write, head}
use Rattle.line_story.specs.declared.teller.Teller.{Teller}

-- the file is created and begun, and the lines of the start are appended
abbrev pub begin_script : List ℕ → Option (List ℕ) → Csp → List Write
begin_script file order p = Create file ∷ Append file head ∷ event_write file (start_lines order p)

-- the deliveries of a run write
abbrev pub deliveries_write : List ℕ → Option (List ℕ) → Csp → ℕ → List ℕ → List Write
deliveries_write file order p most choices = flat_map (λ k. event_write file (lines_at order p choices k)) (range_with_len 0 (whole p most choices).net.deliveries)

-- the problem that is run
abbrev pub csp_told : Teller → Csp
csp_told t = csp_of t.model.problem.now

-- the lines of the delivery that a choice makes in a network
abbrev pub told_write : Teller → ℕ → Network → List Write
told_write t choice net = event_write t.file.now (delivery_lines (order_in t.model) (csp_told t) choice net)

-- the run is on its way
pub record IsReady (t : Teller) : Type 0 where
  pub problem : t.network.problem ≡ t.model.problem.now
  pub sound : t.network.spent ≡ false
  pub begun : t.network.begun ≡ true

-- it is the same run, told by the same numbers, and the same file
pub record SameTask (old new : Teller) : Type 0 where
  pub order : order_in new.model ≡ order_in old.model
  pub problem : new.model.problem.now ≡ old.model.problem.now
  pub file : new.file.now ≡ old.file.now
