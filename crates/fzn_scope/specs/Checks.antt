-- Checks that are made one after another, of which the first that fails decides.
use Rattle.std.specs.Prelude.{◌≡◌, Bool, Result, Ok, Err, if◌then◌else◌}
use Rattle.fzn_token.specs.declared.refusal.Refusal.{Refusal}
use Rattle.fzn_token.specs.declared.refusal.ModelError.{ModelError}
use Rattle.fzn_token.specs.declared.refusal.ModelError.TheVariants as errors

-- one check, and then the next with what the first gave
infixl 10 ◌>>=◌
abbrev pub ◌>>=◌ : {A B E : Type 0} → Result A E → (A → Result B E) → Result B E
(Ok x) >>= f = f x
(Err e) >>= f = Err e

-- refused so, where this is true
abbrev pub refused_if : {E : Type 0} → Bool → E → Result (Unit {0}) E
refused_if b refusal = if b then Err refusal else Ok tt

-- what a call stopped with is the refusal that is meant, unless memory ran out
abbrev pub Stops : {X : Type 0} → ModelError → Result X Refusal → Type 0
Stops (errors.Refused refusal) meaning = meaning ≡ Err refusal
Stops errors.Memory meaning = Unit {0}

-- what a call answers is what is meant, unless memory ran out
abbrev pub Gives : {X : Type 0} → Result X ModelError → Result X Refusal → Type 0
Gives (Ok x) meaning = meaning ≡ Ok x
Gives (Err e) meaning = Stops e meaning

-- a call that changes something into this does what is meant, unless memory ran out
abbrev pub Leaves : {A X : Type 0} → X → Result A ModelError → Result X Refusal → Type 0
Leaves now (Ok a) meaning = meaning ≡ Ok now
Leaves now (Err e) meaning = Stops e meaning
