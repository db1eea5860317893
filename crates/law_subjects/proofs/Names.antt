-- Names that are looked up, and names of variables, which differ.
use Rattle.std.proofs.Common.{◌≡◌, ℕ, ◌+◌, ◌≤◌, Bool, true, false, List, [], ◌∷◌, ◌++◌, length, Some, None, refl, ap, ◌∙◌, arith, decimal, if◌then◌else◌, length-append}
use Rattle.std.specs.Str.{bytes_eq}
use Rattle.std.proofs.lemmas.List.{append_cancel_left}
use Rattle.std.proofs.lemmas.Fmt.{decimal_injective, decimal_nonempty}
use Rattle.std.proofs.lemmas.Slice.Eq.{bytes_eq-Decides}
use Rattle.dcsp_gen.specs.Lines.{name}
use Rattle.fzn_scope.specs.declared.names.Declared.{Declared}
use Rattle.fzn_scope.specs.Names.{Scope, declared_as}
use Rattle.fzn_scope.proofs.Declaring.{declared-new}

false_if : (b : Bool) → (b ≡ true → ⊥) → b ≡ false
false_if true f = absurd (f refl)
false_if false f = refl

-- a name that is neither the last nor one before it
pub declared-not : (scope : Scope) (last written : List ℕ) (d : Declared) → (written ≡ last → ⊥) → declared_as scope written ≡ None → declared_as (scope ++ (last, d) ∷ []) written ≡ None
declared-not scope last written d apart fresh =
    let test : bytes_eq written last ≡ false = false_if (bytes_eq written last) (λ e. apart ((bytes_eq-Decides written last).0 e)) in
    declared-new scope ((last, d) ∷ []) written fresh ∙ ap (λ (b : Bool). if b then Some d else None) test

-- variables of two numbers have two names
pub distinct : (letter : List ℕ) (i j : ℕ) → i ≤ 4096 → j ≤ 4096 → name letter i ≡ name letter j → i ≡ j
distinct letter i j small also same = decimal_injective i j (omega (arith, small)) (omega (arith, also)) (append_cancel_left letter (decimal i) (decimal j) same)

-- which are not the letter alone
pub longer : (letter : List ℕ) (i : ℕ) → i ≤ 4096 → letter ≡ name letter i → ⊥
longer letter i small same =
    let some = decimal_nonempty i (omega (arith, small)) in
    let long : length (name letter i) ≡ length letter + length (decimal i) = length-append letter (decimal i) in
    let equal : length letter ≡ length (name letter i) = ap (λ (bytes : List ℕ). length bytes) same in
    absurd (omega (arith, some, long, equal))
