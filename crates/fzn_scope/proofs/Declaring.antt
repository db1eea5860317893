-- What names stand for once more were declared.
use Rattle.std.proofs.Common.{◌≡◌, ℕ, Bool, true, false, List, [], ◌∷◌, ◌++◌, Option, Some, None, refl, ap, ◌∙◌, if◌then◌else◌}
use Rattle.std.specs.Str.{bytes_eq}
use Rattle.std.proofs.lemmas.Slice.Eq.{bytes_eq-Decides}
use Rattle.fzn_scope.specs.declared.names.Declared.{Declared}
use Rattle.fzn_scope.specs.Names.{Scope, declared_as}

chosen : {A : Type 0} (b : Bool) (a : A) (x y : Option A) (d : A) → (x ≡ Some d → y ≡ Some d) → (if b then Some a else x) ≡ Some d → (if b then Some a else y) ≡ Some d
chosen true a x y d f e = e
chosen false a x y d f e = f e

skipped : {A : Type 0} (b : Bool) (a : A) (x y z : Option A) → (x ≡ None → y ≡ z) → (if b then Some a else x) ≡ None → (if b then Some a else y) ≡ z
skipped true a x y z f e = absurd cc
skipped false a x y z f e = f e

-- what names stand for that were declared
pub declared-old : (xs ys : Scope) (written : List ℕ) (d : Declared) → declared_as xs written ≡ Some d → declared_as (xs ++ ys) written ≡ Some d
declared-old [] ys written d e = absurd cc
declared-old (x ∷ xs) ys written d e = chosen (bytes_eq written x.0) x.1 (declared_as xs written) (declared_as (xs ++ ys) written) d (declared-old xs ys written d) e

-- names that were not declared are looked up among those that follow
pub declared-new : (xs ys : Scope) (written : List ℕ) → declared_as xs written ≡ None → declared_as (xs ++ ys) written ≡ declared_as ys written
declared-new [] ys written e = refl
declared-new (x ∷ xs) ys written e = skipped (bytes_eq written x.0) x.1 (declared_as xs written) (declared_as (xs ++ ys) written) (declared_as ys written) (declared-new xs ys written) e

-- the last name
pub declared-last : (scope : Scope) (written : List ℕ) (d : Declared) → declared_as scope written ≡ None → declared_as (scope ++ (written, d) ∷ []) written ≡ Some d
declared-last scope written d fresh =
    declared-new scope ((written, d) ∷ []) written fresh ∙ ap (λ (b : Bool). if b then Some d else None) ((bytes_eq-Decides written written).1 refl)
