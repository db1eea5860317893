-- What is told of a delivery in a room.
use Rattle.std.specs.Prelude.{Bool, true, false, Option, None, Some}
use Rattle.dcsp_defs.specs.declared.Step.{Step}
use Rattle.abt_network.specs.declared.Delivery.{Delivery}
use Rattle.abt_network.specs.declared.room.DeliveryRoom.{DeliveryRoom}

-- the step, where there is one
abbrev pub step_if : Bool → Step → Option Step
step_if true s = Some s
step_if false s = None

-- the step that the receiver made
abbrev pub made_in : DeliveryRoom → Option Step
made_in r = step_if r.has_step r.step

-- the delivery
abbrev pub delivery_in : DeliveryRoom → Delivery
delivery_in r = record { number = r.number; from = r.from; to = r.to; cargo = r.cargo; step = made_in r }
