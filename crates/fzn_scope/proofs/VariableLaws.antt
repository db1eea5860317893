-- Variables by their names, once more were declared.
use Rattle.std.proofs.Common.{◌≡◌, ℕ, Bool, List, [], ◌∷◌, ◌++◌, length, All, IfSome, Option, None, Some, sym, ◌∙◌, ap}
use Rattle.dcsp_rule.specs.declared.rule.Term.TheVariants as term
use Rattle.fzn_scope.specs.declared.names.Declared.{Declared}
use Rattle.fzn_scope.specs.declared.names.Declared.TheVariants as declared
use Rattle.fzn_scope.specs.declared.variables.Known.{Known}
use Rattle.fzn_scope.specs.Names.{Scope, declared_as}
use Rattle.fzn_scope.specs.Variables.{AreBytes, IsNamed, StandsFor}
use Rattle.fzn_scope.proofs.Declaring.{declared-old}
use Rattle.fzn_scope.proofs.SameNames.{keys_same}

-- what variables were known by their names are so once more names were declared
pub stand_on : (scope more : Scope) (known : List Known) → All (StandsFor scope) known → All (StandsFor (scope ++ more)) known
stand_on scope more known all k d below name bytes named = declared-old scope more name (declared.One _ (term.Var _)) (all k d below name bytes named)

-- a name that stands for a variable is the only one by which it is known
pub stands : (scope : Scope) (known : Known) (written : List ℕ) → AreBytes written → IsNamed known written → declared_as scope written ≡ Some (declared.One known.boolean (term.Var known.variable)) → StandsFor scope known
stands scope known written written_bytes written_named found name bytes named =
    let same : name ≡ written = keys_same name written bytes written_bytes named.0 (sym named.1 ∙ written_named.1) (sym named.2 ∙ written_named.2) in
    ap (declared_as scope) same ∙ found

-- variables stand on once one name was declared
pub stand_on_after : (old new : Scope) (name : List ℕ) (d : Declared) (known : List Known) → new ≡ old ++ (name, d) ∷ [] → All (StandsFor old) known → All (StandsFor new) known
stand_on_after old new name d known is all = rw (is) (stand_on old ((name, d) ∷ []) known all)

-- a name that was declared as a variable stands for it
pub found_in : (variable : Option (Bool × ℕ)) (scope : Scope) (name : List ℕ) (d : Declared) → IfSome variable (λ v. d ≡ declared.One v.0 (term.Var v.1)) → declared_as scope name ≡ Some d → IfSome variable (λ v. declared_as scope name ≡ Some (declared.One v.0 (term.Var v.1)))
found_in None scope name d is found = tt
found_in (Some v) scope name d is found = found ∙ ap Some is
