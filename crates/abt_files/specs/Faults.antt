-- How the system's folder counts its faults.
use Rattle.std.specs.Prelude.{◌≡◌, ℕ}
use Rattle.dcsp_outside.specs.Outside.{one_more}
use Rattle.dcsp_outside.specs.declared.folder.FolderError.{FolderError}
use Rattle.dcsp_outside.specs.declared.folder.FolderError.TheVariants.{Failed, Memory}

-- a fault is counted, and want of memory is not
abbrev pub CountsFault : FolderError → ℕ → ℕ → Type 0
CountsFault Failed before now = now ≡ one_more before
CountsFault Memory before now = now ≡ before
