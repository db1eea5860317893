-- Checks and their tests: a check passes exactly where its test is true.
use Rattle.std.proofs.Common.{◌≡◌, Bool, true, false, not, ◌&&◌, Result, Ok, Err, refl, sym, ap, subst}
use Rattle.std.specs.Prelude.{if◌then◌else◌}
use Rattle.fzn_scope.specs.Checks.{◌>>=◌, refused_if}

-- the check passes exactly where the test is true, and P holds of what it gives
abbrev pub Judged : {X E : Type 0} → Result X E → Bool → (X → Type 0) → Type 0
Judged (Ok x) b P = (b ≡ true) × P x
Judged (Err e) b P = b ≡ false

pub judged_bind : {A B E : Type 0} (x : Result A E) (f : A → Result B E) (b c : Bool) (P : A → Type 0) (Q : B → Type 0) → Judged x b P → ((a : A) → P a → Judged (f a) c Q) → Judged (x >>= f) (b && c) Q
judged_bind (Ok a) f b c P Q h k = subst (λ (t : Bool). Judged (f a) (t && c) Q) (sym h.0) (k a h.1)
judged_bind (Err e) f b c P Q h k = ap (λ (t : Bool). t && c) h

pub judged_map : {A B E : Type 0} (x : Result A E) (f : A → B) (b : Bool) (P : A → Type 0) (Q : B → Type 0) → Judged x b P → ((a : A) → P a → Q (f a)) → Judged (x >>= (λ a. Ok (f a))) b Q
judged_map (Ok a) f b P Q h k = (h.0, k a h.1)
judged_map (Err e) f b P Q h k = h

pub judged_if : {E : Type 0} (t : Bool) (e : E) → Judged (refused_if t e) (not t) (λ _. t ≡ false)
judged_if true e = refl
judged_if false e = (refl, refl)

pub judged_choice : {X E : Type 0} (t : Bool) (x : X) (e : E) (P : X → Type 0) → (t ≡ true → P x) → Judged (if t then Ok x else Err e) t P
judged_choice true x e P h = (refl, h refl)
judged_choice false x e P h = refl

-- the test may be another that is true where it is
pub judged_test : {X E : Type 0} (x : Result X E) (b c : Bool) (P : X → Type 0) → b ≡ c → Judged x b P → Judged x c P
judged_test x b c P e h = subst (λ (t : Bool). Judged x t P) e h

pub judged_more : {X E : Type 0} (x : Result X E) (b : Bool) (P Q : X → Type 0) → ((a : X) → P a → Q a) → Judged x b P → Judged x b Q
judged_more (Ok a) b P Q k h = (h.0, k a h.1)
judged_more (Err e) b P Q k h = h

-- a test that is true wherever a second one is adds nothing to it
pub and_absorbs : (a b : Bool) → (b ≡ true → a ≡ true) → (a && b) ≡ b
and_absorbs true b h = refl
and_absorbs false true h = h refl
and_absorbs false false h = refl

pub not_not : (b : Bool) → not (not b) ≡ b
not_not true = refl
not_not false = refl

-- that the test is true may be told of what the check gives
pub judged_with : {X E : Type 0} (x : Result X E) (b : Bool) (P : X → Type 0) → Judged x b P → Judged x b (λ a. (b ≡ true) × P a)
judged_with (Ok a) b P h = (h.0, (h.0, h.1))
judged_with (Err e) b P h = h
