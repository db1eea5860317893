-- What reading a file gives.
use Rattle.std.specs.Prelude.{◌≡◌, ℕ, ◌<◌, ◌≤◌, List, length, Option, Some, None, Result, Ok, Err, ⊤}
use Rattle.std.specs.declared.vec.Vec.{Vec}
use Rattle.std.specs.declared.alloc.Global.{Global}
use Rattle.dcsp_outside.specs.Outside.{Place, SameCounts, Rose}
use Rattle.dcsp_rule.specs.Problems.{Contents}
use Rattle.dcsp_script.specs.Promises.{IsFetched}
use Rattle.abt_input.specs.Kinds.{FileKind, ReadsAs, an_order}
use Rattle.abt_input.specs.declared.read.Unread.{Unread}
use Rattle.abt_input.specs.declared.read.Unread.TheVariants as unread
use Rattle.abt_input.specs.declared.error.CommandError.{CommandError}
use Rattle.abt_input.specs.declared.error.CommandError.TheVariants.{LogLong, Fault}
use Rattle.abt_input.specs.Inputs.{most_log}

-- this holds unless a file could not be read for a fault
abbrev pub UnlessUnread : {T : Type 0} → Result T Unread → Type 0 → Type 0
UnlessUnread (Ok text) P = P
UnlessUnread (Err unread.Long) P = P
UnlessUnread (Err unread.Fault) P = ⊤
UnlessUnread (Err unread.Memory) P = P

-- this holds unless the command was stopped by a fault
abbrev pub UnlessFault : {T : Type 0} → Result T CommandError → Type 0 → Type 0
UnlessFault (Ok read) P = P
UnlessFault (Err Fault) P = ⊤
UnlessFault (Err error) P = P

-- reading at most so many of these bytes
abbrev pub IsReadOf : List ℕ → ℕ → Result (Vec ℕ Global) Unread → Type 0
IsReadOf bytes most (Ok text) = (text.items ≡ bytes) × (length bytes ≤ most)
IsReadOf bytes most (Err unread.Long) = most < length bytes
IsReadOf bytes most (Err unread.Fault) = ⊤
IsReadOf bytes most (Err unread.Memory) = ⊤

-- reading at most so many bytes under the name
abbrev pub IsRead : Place → Place → List ℕ → ℕ → Result (Vec ℕ Global) Unread → Type 0
IsRead old new name most result = (bytes : List ℕ) × IsFetched old new name bytes × IsReadOf bytes most result

-- the file under the name was read as this kind, and nothing else was done
pub record HasRead (kind : FileKind) (name : List ℕ) (old new : Place) (result : Result kind.Value CommandError) : Type 0 where
  pub read : (bytes : List ℕ) × IsFetched old new name bytes × ReadsAs kind bytes result
  pub held : new.held ≡ old.held
  pub created : new.created ≡ old.created
  pub counts : UnlessFault result (SameCounts old new)
  pub fault : result ≡ Err Fault → Rose (old.reads name) (new.reads name)

-- a log has too many bytes
abbrev pub IsLongLog : List ℕ → CommandError → Type 0
IsLongLog log LogLong = most_log < length log
IsLongLog log error = ⊥

-- the text has the bytes of a log, which are not too many
abbrev pub HasLogBytes : List ℕ → Vec ℕ Global → Type 0
HasLogBytes log text = (text.items ≡ log) × (length log ≤ most_log)

-- a log, whatever its bytes say
abbrev pub any_log : FileKind
any_log = record { Value = Vec ℕ Global; Is = HasLogBytes; Refuses = IsLongLog }

-- reading the order that is named: as one of the problem's variables; where none is named nothing is done
abbrev pub ReadsOrder : Option (List ℕ) → Contents → Place → Place → Result (Option (List ℕ)) CommandError → Type 0
ReadsOrder None problem old new result = (result ≡ Ok None) × (new ≡ old)
ReadsOrder (Some name) problem old new (Ok None) = ⊥
ReadsOrder (Some name) problem old new (Ok (Some order)) = HasRead (an_order (length problem.domains)) name old new (Ok order)
ReadsOrder (Some name) problem old new (Err error) = HasRead (an_order (length problem.domains)) name old new (Err error)

-- the order that is named was read
pub record HasOrderRead (order_file : Option (List ℕ)) (problem : Contents) (old new : Place) (result : Result (Option (List ℕ)) CommandError) : Type 0 where
  pub reads : ReadsOrder order_file problem old new result
