-- What the code's rows stand for.
use Rattle.std.specs.Prelude.{ℕ, ◌+◌, List, [], ◌∷◌, max, Option, Some, None}
use Rattle.abt_defs.specs.Checks as checks
use Rattle.abt_defs.specs.Measures as measures
use Rattle.abt_parts.specs.declared.message.SentTo.{SentTo}
use Rattle.abt_parts.specs.declared.message.MessageKind.{MessageKind}
use Rattle.abt_parts.specs.declared.message.MessageKind.TheVariants.{Tell, Refuse, AddLink}
use Rattle.abt_measure.specs.declared.row.Kinds.{Kinds}
use Rattle.abt_measure.specs.declared.row.Row.{Row}

abbrev pub as_kinds : Kinds → measures.Kinds
as_kinds k = record { ok = k.ok; nogood = k.nogood; link = k.link }

abbrev pub as_row : Row → measures.Row
as_row r = record { sent = as_kinds r.sent; got = as_kinds r.got; constraints = r.constraints; nogoods = r.nogoods; recorded = r.recorded }

abbrev pub no_kinds : measures.Kinds
no_kinds = record { ok = 0; nogood = 0; link = 0 }

-- before the start
abbrev pub no_row : measures.Row
no_row = record { sent = no_kinds; got = no_kinds; constraints = 0; nogoods = 0; recorded = 0 }

-- both together
abbrev pub more_kinds : measures.Kinds → measures.Kinds → measures.Kinds
more_kinds a b = record { ok = a.ok + b.ok; nogood = a.nogood + b.nogood; link = a.link + b.link }

-- one message of this kind
abbrev pub kind_counts : MessageKind → measures.Kinds
kind_counts Tell = record { ok = 1; nogood = 0; link = 0 }
kind_counts Refuse = record { ok = 0; nogood = 1; link = 0 }
kind_counts AddLink = record { ok = 0; nogood = 0; link = 1 }

-- the message that came, if one did
abbrev pub came_kinds : Option MessageKind → measures.Kinds
came_kinds None = no_kinds
came_kinds (Some kind) = kind_counts kind

-- the messages that were sent
abbrev pub kinds_sent : List SentTo → measures.Kinds
kinds_sent [] = no_kinds
kinds_sent (x ∷ xs) = more_kinds (kind_counts x.kind) (kinds_sent xs)

-- after an act
abbrev pub row_after : measures.Row → measures.Kinds → checks.Checks → ℕ → measures.Kinds → measures.Row
row_after r got c recorded sent = record {
  sent = more_kinds r.sent sent;
  got = more_kinds r.got got;
  constraints = r.constraints + c.constraints;
  nogoods = r.nogoods + c.nogoods;
  recorded = max r.recorded recorded;
}

-- what stands past the last row
abbrev pub blank_row : Row
blank_row = let none : Kinds = record { ok = 0; nogood = 0; link = 0 } in record { sent = none; got = none; constraints = 0; nogoods = 0; recorded = 0 }
