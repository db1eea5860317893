-- Terms of variables that exist.
use Rattle.std.specs.Prelude.{ℕ, List, All}
use Rattle.dcsp_rule.specs.Rules.{IsTermOf}
use Rattle.fzn_scope.specs.declared.names.Declared.{Declared}
use Rattle.fzn_scope.specs.declared.names.Declared.TheVariants as declared
use Rattle.fzn_scope.specs.Names.{Scope}

-- a name stands for terms over so many variables
abbrev pub IsKnown : ℕ → Declared → Type 0
IsKnown variables (declared.One boolean term) = IsTermOf variables term
IsKnown variables (declared.Set set) = Unit {0}
IsKnown variables (declared.Many boolean variable terms) = All (IsTermOf variables) terms

-- and so does each name
abbrev pub AreKnown : ℕ → Scope → Type 0
AreKnown variables scope = All (λ (d : List ℕ × Declared). IsKnown variables d.1) scope
