-- Names stand for terms of variables that exist.
use Rattle.std.proofs.Common.{◌≡◌, ℕ, ◌≤◌, List, [], ◌∷◌, ◌++◌, Option, Some, None, IfSome, subst, sym}
use Rattle.dcsp_rule.specs.declared.rule.Term.{Term}
use Rattle.dcsp_rule.specs.Rules.{IsTermOf}
use Rattle.fzn_scope.specs.declared.names.Declared.{Declared}
use Rattle.fzn_scope.specs.Names.{Scope}
use Rattle.fzn_scope.specs.Known.{IsKnown, AreKnown}
use Rattle.fzn_scope.proofs.KnownLaws.{term_of_more, scope_of_more, scope_with_more}

-- a term of fewer variables, if there is one, is one of more
pub source_of_more : (m n : ℕ) → m ≤ n → (source : Option Term) → IfSome source (IsTermOf m) → IfSome source (IsTermOf n)
source_of_more m n more None h = tt
source_of_more m n more (Some term) h = term_of_more m n more term h

-- one name more, after there were more variables
pub sound_with : (m n : ℕ) → m ≤ n → (scope new : Scope) (name : List ℕ) (meant : Declared) → new ≡ scope ++ (name, meant) ∷ [] → AreKnown m scope → IsKnown n meant → AreKnown n new
sound_with m n more scope new name meant is h k = subst (AreKnown n) (sym is) (scope_with_more n scope name meant (scope_of_more m n more scope h) k)
