-- The environment gives each declared name what it stands for.
use Rattle.std.proofs.Common.{◌≡◌, ℕ, Bool, true, false, List, [], ◌∷◌, ◌++◌, Option, Some, None, refl, sym, ◌∙◌, subst}
use Rattle.std.specs.Prelude.{◌↔◌, map, if◌then◌else◌, ◌⊎◌}
use Rattle.std.proofs.Common.{inl, inr}
use Rattle.std.specs.Str.{bytes_eq}
use Rattle.std.proofs.lemmas.Slice.Eq.{bytes_eq-Decides}
use Rattle.dcsp_defs.specs.Csp.{Assignment}
use Rattle.dcsp_rule.specs.Rules.{value_under}
use Rattle.fzn_scope.specs.declared.names.Declared.{Declared}
use Rattle.fzn_scope.specs.declared.names.Declared.TheVariants as declared
use Rattle.fzn_scope.specs.Names.{Scope, declared_as}
use Rattle.fzn_scope.proofs.Declaring.{declared-old, declared-new, declared-last}
use Rattle.law_subjects.specs.Environments.{Value, Number, Numbers, Set, Environment}

-- the value of what a name stands for
abbrev pub meaning : Assignment → Declared → Value
meaning values (declared.One boolean term) = Number (value_under values term)
meaning values (declared.Set set) = Set set
meaning values (declared.Many boolean variable terms) = Numbers (map (value_under values) terms)

-- P holds of each name and what it stands for
abbrev pub Each : (List ℕ → Declared → Type 0) → Scope → Type 0
Each P scope = (name : List ℕ) (d : Declared) → declared_as scope name ≡ Some d → P name d

-- the environment has the value of what each name stands for
abbrev pub Agrees : Assignment → Environment → Scope → Type 0
Agrees values env scope = Each (λ name d. env name ≡ meaning values d) scope

only : {A : Type 0} (b : Bool) (a d : A) → (if b then Some a else None) ≡ Some d → (b ≡ true) × (a ≡ d)
only true a d e = (refl, cc)
only false a d e = absurd cc

either : {A : Type 0} (x : Option A) → (x ≡ None) ⊎ ((a : A) × (x ≡ Some a))
either None = inl refl
either (Some a) = inr (a, refl)

-- one name more
pub each_push : (P : List ℕ → Declared → Type 0) (scope : Scope) (name : List ℕ) (d : Declared) → declared_as scope name ≡ None
    → Each P (scope ++ (name, d) ∷ []) ↔ (Each P scope × P name d)
each_push P scope name d fresh = (
  (λ h. (
    (λ n e l. h n e (declared-old scope ((name, d) ∷ []) n e l)),
    h name d (declared-last scope name d fresh),
  )),
  (λ h n e l. elim (either (declared_as scope n)) [
    | inl none ↦
        let o = only (bytes_eq n name) d e (sym (declared-new scope ((name, d) ∷ []) n none) ∙ l) in
        subst (λ (x : Declared). P n x) o.1 (subst (λ (m : List ℕ). P m d) (sym ((bytes_eq-Decides n name).0 o.0)) h.1)
    | inr some ↦
        let same : Some some.0 ≡ Some e = sym (declared-old scope ((name, d) ∷ []) n some.0 some.1) ∙ l in
        h.0 n e (some.1 ∙ same)
  ]),
)
