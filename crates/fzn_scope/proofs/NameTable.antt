-- The table of names, as the list that a contract sees.
use Rattle.std.proofs.Common.{◌≡◌, ℕ, cond, List, [], ◌∷◌, map, Some, refl, ap, sym, ◌∙◌}
use Rattle.std.specs.Map.{lookup}
use Rattle.std.specs.Str.{bytes_eq}
use Rattle.fzn_scope.specs.declared.names.Declared.{Declared}
use Rattle.fzn_scope.specs.Names.{declared_as}

-- a look-up in the table is one in that list
pub looked_up : {K : Type 0} (bytes : K → List ℕ) (name : List ℕ) (entries : List (K × Declared)) → lookup (λ k. bytes_eq name (bytes k)) entries ≡ declared_as (map (λ e. (bytes e.0, e.1)) entries) name
looked_up bytes name [] = refl
looked_up bytes name (e ∷ es) = ap (cond (bytes_eq name (bytes e.0)) (Some e.1)) (looked_up bytes name es)

-- a name is looked up as any key with its bytes
pub guessed_is : {K : Type 0} (bytes : K → List ℕ) (key : K) (name : List ℕ) (entries : List (K × Declared)) (d : Declared) → lookup (λ k. bytes_eq (bytes key) (bytes k)) entries ≡ Some d → bytes key ≡ name → declared_as (map (λ e. (bytes e.0, e.1)) entries) name ≡ Some d
guessed_is bytes key name entries d found same = rw (sym same) (sym (looked_up bytes (bytes key) entries) ∙ found)
