-- The line of a learner and an owner.
use Rattle.std.proofs.Common.{◌≡◌, ◌∙◌, ℕ, zero, suc, ◌+◌, ◌<◌, ◌==◌, Bool, false, List, [], ◌++◌, codes, sym, ap, arith, append-nil}
use Rattle.std.specs.Prelude.{if◌then◌else◌}
use Rattle.std.proofs.lemmas.Bool.Decides.{nat_tests}
use Rattle.line_measure.specs.Texts.{learned_line, numbered}

-- nothing stands where no value was learned
pub learned_none : (i k values size : ℕ) (old : List ℕ) → values ≡ 0 → old ≡ old ++ learned_line i k values size
learned_none i k zero size old h = sym (append-nil old)
learned_none i k (suc n) size old h = absurd (omega arith)

-- a test that fails
not_none : (values : ℕ) → 0 < values → (values == 0) ≡ false
not_none values h = grind (arith, nat_tests)

-- else the line
pub learned_some : (i k values size : ℕ) → 0 < values
    → learned_line i k values size ≡ numbered (codes "v") (i + 1) ++ numbered (codes " learned v") (k + 1) ++ numbered (codes " ") values ++ numbered (codes " of ") size ++ codes "\n"
learned_some i k values size h =
    ap (λ (b : Bool). if b then [] else numbered (codes "v") (i + 1) ++ numbered (codes " learned v") (k + 1) ++ numbered (codes " ") values ++ numbered (codes " of ") size ++ codes "\n") (not_none values h)

-- the line by what the numbers are
pub learned_same : (i k a b m n : ℕ) (now new : List ℕ) → a ≡ b → m ≡ n → new ≡ now ++ learned_line i k a m → new ≡ now ++ learned_line i k b n
learned_same i k a b m n now new e f h = h ∙ ap (λ x. now ++ learned_line i k x m) e ∙ ap (λ x. now ++ learned_line i k b x) f
