-- An error of a text has one of two causes: the text is too long, or it is refused for a reason.
use Rattle.std.proofs.Common.{◌≡◌, ℕ, ◌<◌, ◌≤◌, List, length, sym, ap, subst, ◌∙◌, arith}
use Rattle.abt_input.specs.declared.error.CommandError.{CommandError}

pub data HasCause {R : Type 0} (most : ℕ) (long : CommandError) (IsBad : List ℕ → R → Type 0) (bad : R → CommandError) (text : List ℕ) (e : CommandError) : Type 0 where
  too_long : most < length text → e ≡ long → HasCause most long IsBad bad text e
  refused_for : (reason : R) → IsBad text reason → e ≡ bad reason → HasCause most long IsBad bad text e

-- a short text that is not refused has no error
pub no_error : {R : Type 0} {most : ℕ} {long : CommandError} {IsBad : List ℕ → R → Type 0} {bad : R → CommandError} {text : List ℕ} {e : CommandError}
    → HasCause most long IsBad bad text e → length text ≤ most → ((reason : R) → IsBad text reason → ⊥) → ⊥
no_error (too_long l is) short none = omega (arith, short, l)
no_error (refused_for reason l is) short none = none reason l

-- a text that is refused for one reason at most, and only where it is short, has one error
pub one_error : {R : Type 0} {most : ℕ} {long : CommandError} {IsBad : List ℕ → R → Type 0} {bad : R → CommandError} {text : List ℕ} {e d : CommandError}
    → HasCause most long IsBad bad text e → HasCause most long IsBad bad text d → ((reason : R) → IsBad text reason → length text ≤ most) → ((x y : R) → IsBad text x → IsBad text y → x ≡ y) → e ≡ d
one_error (too_long l is) (too_long m be) short one = is ∙ sym be
one_error (too_long l is) (refused_for y m be) short one = absurd (let s = short y m in omega (arith, s, l))
one_error (refused_for x l is) (too_long m be) short one = absurd (let s = short x l in omega (arith, s, m))
one_error {bad = bad} (refused_for x l is) (refused_for y m be) short one = is ∙ ap bad (one x y l m) ∙ sym be

-- what holds of both causes' errors holds of the error
pub of_causes : {R : Type 0} {most : ℕ} {long : CommandError} {IsBad : List ℕ → R → Type 0} {bad : R → CommandError} {text : List ℕ} {e : CommandError}
    (P : CommandError → Type 0) → HasCause most long IsBad bad text e → P long → ((reason : R) → P (bad reason)) → P e
of_causes P (too_long l is) p q = subst P (sym is) p
of_causes P (refused_for x l is) p q = subst P (sym is) (q x)
