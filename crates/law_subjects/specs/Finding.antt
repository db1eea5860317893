-- What a check finds.
use Rattle.dcsp_defs.specs.Csp.{Csp}
use Rattle.dcsp_defs.specs.declared.entry.Entry.{Entry}
use Rattle.std.specs.Prelude.{List}
use Rattle.ngd_check.specs.declared.Finding.{Finding}
use Rattle.ngd_check.specs.Findings.{IsFindingOf}

-- Of any entries, and so of any log, there is a finding.
abbrev pub EntriesHaveFinding : Csp → Type 0
EntriesHaveFinding p = (entries : List Entry) → (finding : Finding) × IsFindingOf p entries finding
