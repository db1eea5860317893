-- Checks made one after another: what holds of the value at the end.
use Rattle.std.proofs.Common.{◌≡◌, ℕ, Bool, true, false, ◌||◌, Option, Some, Result, Ok, Err, IfSome, IfOk, refl, sym, ◌∙◌}
use Rattle.std.specs.Prelude.{if◌then◌else◌}
use Rattle.fzn_token.specs.declared.refusal.Refusal.{Refusal}
use Rattle.std.proofs.lemmas.Result.{IfOk-at_ok}
use Rattle.fzn_token.specs.declared.refusal.ModelError.{ModelError}
use Rattle.dcsp_rule.specs.declared.lent.RuleRef.{RuleRef}
use Rattle.dcsp_rule.specs.declared.rule.Rule.{Rule}
use Rattle.dcsp_rule.specs.Lent.{lent_rule}
use Rattle.fzn_scope.specs.Checks.{◌>>=◌, refused_if, Gives}
use Rattle.fzn_scope.specs.Lent.{GivesRule}

-- what holds after one check and the next
pub ok_then : {A B : Type 0} (P : A → Type 0) (Q : B → Type 0) (x : Result A Refusal) (f : A → Result B Refusal) → IfOk x P → ((a : A) → P a → IfOk (f a) Q) → IfOk (x >>= f) Q
ok_then P Q (Ok a) f h k = k a h
ok_then P Q (Err e) f h k = tt

-- what holds after the next check, whatever the first gave
pub ok_each : {A B : Type 0} (Q : B → Type 0) (x : Result A Refusal) (f : A → Result B Refusal) → ((a : A) → IfOk (f a) Q) → IfOk (x >>= f) Q
ok_each Q (Ok a) f k = k a
ok_each Q (Err e) f k = tt

-- what holds where nothing is refused
pub ok_unless : {B : Type 0} (Q : B → Type 0) (b : Bool) (refusal : Refusal) (rest : Result B Refusal) → (b ≡ false → IfOk rest Q) → IfOk (refused_if b refusal >>= λ _. rest) Q
ok_unless Q true refusal rest k = tt
ok_unless Q false refusal rest k = k refl

-- a value that passes a test, or a refusal
pub ok_if : {A : Type 0} (P : A → Type 0) (b : Bool) (a : A) (refusal : Refusal) → P a → IfOk (if b then Ok a else Err refusal) P
ok_if P true a refusal h = h
ok_if P false a refusal h = tt

-- one value or another
pub some_if : {A : Type 0} (P : A → Type 0) (b : Bool) (a : A) (rest : Option A) → P a → IfSome rest P → IfSome (if b then Some a else rest) P
some_if P true a rest h k = h
some_if P false a rest h k = k

-- what two steps leave as it was, where neither changes it
pub both_keep : {A : Type 0} (b c : Bool) (x y z : A) → (b ≡ false → y ≡ x) → (c ≡ false → z ≡ y) → (b || c) ≡ false → z ≡ x
both_keep true c x y z p q h = absurd cc
both_keep false c x y z p q h = q h ∙ p refl

-- what holds of a rule that is meant holds of the one that is lent
pub if_rule : (P : Rule → Type 0) (r : Result RuleRef ModelError) (meaning : Result Rule Refusal) → GivesRule r meaning → IfOk meaning P → IfOk r (λ rule. P (lent_rule rule))
if_rule P (Ok rule) meaning given h = IfOk-at_ok P given h
if_rule P (Err e) meaning given h = tt

-- the same for each number that something holds of
pub if_rule_each : (K : ℕ → Type 0) (P : ℕ → Rule → Type 0) (r : Result RuleRef ModelError) (meaning : Result Rule Refusal) → GivesRule r meaning → ((n : ℕ) → K n → IfOk meaning (P n)) → IfOk r (λ rule. (n : ℕ) → K n → P n (lent_rule rule))
if_rule_each K P (Ok rule) meaning given h = λ n k. IfOk-at_ok (P n) given (h n k)
if_rule_each K P (Err e) meaning given h = tt

-- what holds of a value that is meant, for each such number, holds of one that is given
pub if_given_each : {X : Type 0} (K : ℕ → Type 0) (P : ℕ → X → Type 0) (r : Result X ModelError) (meaning : Result X Refusal) → Gives r meaning → ((n : ℕ) → K n → IfOk meaning (P n)) → IfOk r (λ x. (n : ℕ) → K n → P n x)
if_given_each K P (Ok x) meaning given h = λ n k. IfOk-at_ok (P n) given (h n k)
if_given_each K P (Err e) meaning given h = tt

-- and where the answer itself is what is meant
pub if_meant_each : {X : Type 0} (K : ℕ → Type 0) (P : ℕ → X → Type 0) (r meaning : Result X Refusal) → r ≡ meaning → ((n : ℕ) → K n → IfOk meaning (P n)) → IfOk r (λ x. (n : ℕ) → K n → P n x)
if_meant_each K P (Ok x) meaning same h = λ n k. IfOk-at_ok (P n) (sym same) (h n k)
if_meant_each K P (Err e) meaning same h = tt
