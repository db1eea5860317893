use Rattle.std.proofs.Common.{◌≡◌, length, take}
use Rattle.std.specs.Prelude.{OnOk}
use Rattle.abt_files.specs.Waiting.{NoneWaits, KeepTexts}
use Rattle.abt_files.proofs.open_files.OpenFiles+D+D+File.write_waiting.Given as goal

-- nothing waits for the files before this one, and the texts are as they were unless some write failed
abbrev pub invariant-loop-place : goal.invariant-loop-place
invariant-loop-place g l =
    (length l.self.files.items ≡ l.place-end)
    × NoneWaits (take l.place l.self.files.items)
    × OnOk l.wrote (KeepTexts g.D.File.Write.contents l.fn.self.files.items l.self.files.items)
