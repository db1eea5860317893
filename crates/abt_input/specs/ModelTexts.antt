-- What is said of a refused model: what is wrong, and the place in bytes from 0.
use Rattle.std.specs.Prelude.{ℕ, List, ◌++◌, decimal, codes}
use Rattle.dcsp_common.specs.declared.limits.Which.{Which}
use Rattle.dcsp_common.specs.declared.limits.Which.TheVariants.{DomainSize, Variables, DomainValues, Rules, Terms, Elements}
use Rattle.fzn_token.specs.declared.refusal.Refusal.{Refusal}
use Rattle.fzn_token.specs.declared.refusal.Refusal.TheVariants as refusal

-- how what is limited is called
abbrev pub which_text : Which → List ℕ
which_text DomainSize = codes "domain-size"
which_text Variables = codes "variables"
which_text DomainValues = codes "domain-values"
which_text Rules = codes "rules"
which_text Terms = codes "terms"
which_text Elements = codes "elements"

-- a place, and the line's end
abbrev pub place_text : ℕ → List ℕ
place_text at = decimal at ++ codes "\n"

-- which limit would be passed, and by how many
abbrev pub reached_text : Which → ℕ → List ℕ
reached_text which count = which_text which ++ codes " " ++ decimal count

-- the same, and where
abbrev pub limit_text : Which → ℕ → ℕ → List ℕ
limit_text which count at = which_text which ++ codes " " ++ decimal count ++ codes " at " ++ place_text at

-- the line that tells why a model has no problem
abbrev pub refusal_text : Refusal → List ℕ
refusal_text (refusal.Lex at) = codes "abt: model: bad byte at " ++ place_text at
refusal_text (refusal.IntRange at) = codes "abt: model: integer range at " ++ place_text at
refusal_text (refusal.Syntax at) = codes "abt: model: syntax at " ++ place_text at
refusal_text (refusal.Misplaced at) = codes "abt: model: misplaced at " ++ place_text at
refusal_text (refusal.Duplicate at) = codes "abt: model: duplicate at " ++ place_text at
refusal_text (refusal.Undeclared at) = codes "abt: model: undeclared at " ++ place_text at
refusal_text (refusal.Unbounded at) = codes "abt: model: unbounded at " ++ place_text at
refusal_text (refusal.Unsupported at) = codes "abt: model: unsupported at " ++ place_text at
refusal_text (refusal.UnknownConstraint at) = codes "abt: model: unknown constraint at " ++ place_text at
refusal_text (refusal.IllTyped at) = codes "abt: model: ill-typed at " ++ place_text at
refusal_text (refusal.OutputShape at) = codes "abt: model: output shape at " ++ place_text at
refusal_text (refusal.WideSum at) = codes "abt: model: wide sum at " ++ place_text at
refusal_text (refusal.Limit which count at) = codes "abt: model: limit " ++ limit_text which count at
refusal_text refusal.NoSolve = codes "abt: model: no solve item\n"
