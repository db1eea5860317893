-- The statuses of a command.
use Rattle.std.specs.Prelude.{ℕ, List, codes, ⊤}
use Rattle.dcsp_script.specs.declared.stop.Stop.{Stop}
use Rattle.dcsp_script.specs.declared.stop.Stop.TheVariants as stops
use Rattle.dcsp_script.specs.declared.status.Status.{Status}
use Rattle.dcsp_script.specs.declared.status.Status.TheVariants.{Good, No, Words, Model, Input, Unfinished, Fault, Memory}

-- the number of each status
abbrev pub code_of : Status → ℕ
code_of Good = 0
code_of No = 1
code_of Words = 2
code_of Model = 3
code_of Input = 4
code_of Unfinished = 5
code_of Fault = 6
code_of Memory = 7

-- the status of a report: the command was not stopped
abbrev pub IsFinal : Status → Type 0
IsFinal Good = ⊤
IsFinal No = ⊤
IsFinal Words = ⊥
IsFinal Model = ⊤
IsFinal Input = ⊤
IsFinal Unfinished = ⊤
IsFinal Fault = ⊥
IsFinal Memory = ⊥

-- the words or the input were refused
abbrev pub IsRefusal : Status → Type 0
IsRefusal Good = ⊥
IsRefusal No = ⊥
IsRefusal Words = ⊤
IsRefusal Model = ⊤
IsRefusal Input = ⊤
IsRefusal Unfinished = ⊥
IsRefusal Fault = ⊥
IsRefusal Memory = ⊥

-- the status of a command that was stopped
abbrev pub stop_status : Stop → Status
stop_status stops.Fault = Fault
stop_status stops.Memory = Memory

-- what a command that was stopped says on `err`
abbrev pub stop_text : Stop → List ℕ
stop_text stops.Fault = codes "abt: fault\n"
stop_text stops.Memory = codes "abt: memory\n"
