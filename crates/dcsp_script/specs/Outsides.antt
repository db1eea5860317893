-- What is said of a line's outside.
use Rattle.dcsp_outside.specs.Outside.{Place, Stream}
use Rattle.dcsp_script.specs.declared.outside.Outside.{Outside}
use Rattle.dcsp_script.specs.Scripts.{World, outside}

-- what a folder and a stream are to a script, where `place` and `stream` tell each of them
abbrev pub world : {F S : Type 0} → (F → Place) → (S → Stream) → Outside F S → World
world place stream at = outside (place at.folder) (stream at.out)
