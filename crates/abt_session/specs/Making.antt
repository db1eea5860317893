-- A delivery that was made, and what is put of it.
use Rattle.std.specs.Prelude.{List, [], ◌∷◌}
use Rattle.dcsp_script.specs.Scripts.{Write}
use Rattle.abt_network.specs.Rooms.{delivery_in}
use Rattle.abt_network.specs.Standing.{delivery_of}
use Rattle.abt_session.specs.declared.lines.Made.{Made}
use Rattle.abt_session.specs.declared.telling.Telling.{Telling}
use Rattle.abt_session.specs.Sessions.{telling_writes}

-- what tells of it
abbrev pub made_writes : Telling → Made → List Write
made_writes telling made = telling_writes telling made.number made.steps (delivery_of (delivery_in made.delivery.now) ∷ [])
