-- How an answer of a fetch is noted.
use Rattle.std.specs.Prelude.{ℕ, List}
use Rattle.dcsp_outside.specs.declared.handing.Portion.{Portion}
use Rattle.dcsp_outside.specs.declared.handing.Portion.TheVariants.{All, More, Part, End}
use Rattle.dcsp_outside.specs.Handed.{Handed, AllOf, MoreThan, PartOf, EndOf}

-- the answer about a name that handed over these bytes
abbrev pub handed_of : List ℕ → List ℕ → Portion → Handed
handed_of name bytes All = AllOf name bytes
handed_of name bytes (More most) = MoreThan name most
handed_of name bytes (Part from) = PartOf name from bytes
handed_of name bytes (End from) = EndOf name from bytes
