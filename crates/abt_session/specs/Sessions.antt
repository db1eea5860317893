-- What a run writes: its log, and what tells of its deliveries, in the model's own numbers.
use Rattle.std.specs.Prelude.{ℕ, ◌+◌, List, [], ◌∷◌, ◌++◌, length, map, flat_map, drop, slice_index, codes, Option}
use Rattle.std.specs.List.{range_with_len}
use Rattle.dcsp_defs.specs.Csp.{Csp}
use Rattle.dcsp_defs.specs.declared.Step.{Step}
use Rattle.abt_defs.specs.Network.{Network, start, deliver}
use Rattle.abt_defs.specs.Runs.{Delivery, Run, whole, delivery}
use Rattle.law_runs.specs.Stops.{after}
use Rattle.ngd_log.specs.Logs.{step_lines}
use Rattle.dcsp_order.specs.Told.{steps_told}
use Rattle.dcsp_script.specs.Scripts.{Write, Create, Append, Put}
use Rattle.abt_session.specs.declared.telling.Telling.{Telling}
use Rattle.abt_session.specs.Traces.{delivery_told, delivery_texts}

-- a run that is asked for: the problem that is run and under which order of the model's variables it is so, its choices and the greatest number of deliveries, the name of its log, and what is put of each delivery
pub record Session : Type 0 where
  pub problem : Csp
  pub order : Option (List ℕ)
  pub most : ℕ
  pub choices : List ℕ
  pub log : List ℕ
  pub telling : Telling

-- the run
abbrev pub run_of : Session → Run
run_of s = whole s.problem s.most s.choices

-- the network after so many deliveries
abbrev pub network_after : Session → ℕ → Network
network_after s k = after s.problem s.choices k

-- one append for each of these steps, the first of which has this number
abbrev pub step_writes : List ℕ → ℕ → List Step → List Write
step_writes log number steps = map (Append log) (step_lines number steps)

-- what tells of a delivery with this number, after which so many steps are made, is put text by text
abbrev pub telling_writes : Telling → ℕ → ℕ → List Delivery → List Write
telling_writes telling number steps deliveries = map Put (flat_map (delivery_texts telling number steps) deliveries)

-- the steps that a choice makes in a network: one, or none
abbrev pub steps_made : Csp → ℕ → Network → List Step
steps_made p c net = drop (length net.steps) (deliver p c net).steps

-- the delivery that a choice makes in a network, as the one with this number, writes the line of its step, if it makes one, and then what tells of it
abbrev pub choice_writes : Option (List ℕ) → Csp → List ℕ → Telling → ℕ → ℕ → Network → List Write
choice_writes order p log telling number c net =
    step_writes log (length net.steps + 1) (steps_told order (steps_made p c net)) ++ telling_writes telling number (length (deliver p c net).steps) (map (delivery_told order) (delivery p c net))

-- what delivery k writes, counted from 0
abbrev pub delivery_writes : Session → ℕ → List Write
delivery_writes s k = choice_writes s.order s.problem s.log s.telling (k + 1) (slice_index s.choices k) (network_after s k)

-- what all deliveries write
abbrev pub deliveries_write : Session → List Write
deliveries_write s = flat_map (delivery_writes s) (range_with_len 0 (run_of s).net.deliveries)

-- the log is created and begun, and the start's step is appended, if it makes one
abbrev pub begun_script : Option (List ℕ) → Csp → List ℕ → List Write
begun_script order p log = Create log ∷ Append log (codes "ngd 1\n") ∷ step_writes log 1 (steps_told order (start p).steps)

-- then each delivery writes, and the log ends
abbrev pub run_script : Session → List Write
run_script s = begun_script s.order s.problem s.log ++ (deliveries_write s ++ Append s.log (codes "end\n") ∷ [])
