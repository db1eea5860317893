use Rattle.std.proofs.Common.{arith, map, ap, string_bytes}
use Rattle.abt_main.proofs.Endings.{ends_with}
use Rattle.abt_main.proofs.program.run.Goals as goal

pub array_drop-held-requires : goal.array_drop-held-requires
array_drop-held-requires c = omega arith

pub returns : goal.returns
returns c = ends_with _ _ _ _ _ _ (record { created = ap (map string_bytes) c.new-folder.ensures.created; handed = c.new-folder.ensures.handed }) c.run_given-code.ensures
