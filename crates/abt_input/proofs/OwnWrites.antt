-- Which names a script writes under.
use Rattle.std.proofs.Common.{ℕ, zero, suc, List, [], ◌∷◌, ◌++◌, map, subst, inl, inr, arith}
use Rattle.std.specs.Prelude.{Contains}
use Rattle.std.proofs.lemmas.List.Elements.{Contains-append_cases}
use Rattle.dcsp_script.specs.Scripts.{Write, Create, Append, Put}
use Rattle.dcsp_script.specs.Texts.{Touches}
use Rattle.abt_input.specs.Plans.{WritesOwn}

pub own_none : {created : List (List ℕ)} → WritesOwn created []
own_none = record { only = λ w (i, below, is). absurd (omega arith) }

-- one write, and then others
more : (created : List (List ℕ)) (first : Write) (script : List Write) → ((name : List ℕ) → Touches first name → Contains created name) → WritesOwn created script → WritesOwn created (first ∷ script)
more created first script this rest = record { only = at }
  where
    at : (w : Write) → Contains (first ∷ script) w → (name : List ℕ) → Touches w name → Contains created name
    at w (zero, below, is) = subst (λ x. (name : List ℕ) → Touches x name → Contains created name) is this
    at w (suc i, below, is) = rest.only w (i, omega (arith, below), is)

pub own_put : {created : List (List ℕ)} {bytes : List ℕ} {script : List Write} → WritesOwn created script → WritesOwn created (Put bytes ∷ script)
own_put {created = created} {bytes = bytes} {script = script} rest = more created (Put bytes) script (λ name t. absurd t) rest

pub own_create : {created : List (List ℕ)} {this : List ℕ} {script : List Write} → Contains created this → WritesOwn created script → WritesOwn created (Create this ∷ script)
own_create {created = created} {this = this} {script = script} is rest = more created (Create this) script (λ name t. subst (λ n. Contains created n) t is) rest

pub own_append : {created : List (List ℕ)} {this bytes : List ℕ} {script : List Write} → Contains created this → WritesOwn created script → WritesOwn created (Append this bytes ∷ script)
own_append {created = created} {this = this} {bytes = bytes} {script = script} is rest = more created (Append this bytes) script (λ name t. subst (λ n. Contains created n) t is) rest

-- one script, and then another
pub own_both : {created : List (List ℕ)} {s t : List Write} → WritesOwn created s → WritesOwn created t → WritesOwn created (s ++ t)
own_both {created = created} {s = s} {t = t} first rest = record {
  only = λ w is. elim (Contains-append_cases s t w is) [ inl i ↦ first.only w i | inr i ↦ rest.only w i ];
}

-- each line goes last under the name, by itself
pub own_appends : {created : List (List ℕ)} {A : Type 0} (this : List ℕ) (line : A → List ℕ) (items : List A) → Contains created this → WritesOwn created (map (λ (x : A). Append this (line x)) items)
own_appends this line [] is = own_none
own_appends this line (x ∷ items) is = own_append is (own_appends this line items is)
