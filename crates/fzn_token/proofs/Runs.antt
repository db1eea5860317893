-- Runs of bytes.
use Rattle.std.proofs.Common.{◌≡◌, ℕ, ◌+◌, ◌<◌, ◌≤◌, Bool, true, false, List, length, ⊎_elim, arith, sym, ◌∙◌}
use Rattle.std.specs.Prelude.{slice_index}
use Rattle.std.proofs.lemmas.Bool.{cases_lt, false≢true}
use Rattle.fzn_token.specs.Bytes.{IsRun}

-- no run goes on past a byte that does not pass
pub run_at_most : {p : ℕ → Bool} {text : List ℕ} {i j to : ℕ} → (j < length text → p (slice_index text j) ≡ false) → i ≤ j → IsRun p text i to → to ≤ j
run_at_most {j = j} {to = to} stops ordered run =
    ⊎_elim (λ past. let below : j < length _ = omega arith in absurd (false≢true (sym (stops below) ∙ run.each j ordered past))) (λ within. within) (cases_lt j to)

-- a run is one byte longer
pub run_more : {p : ℕ → Bool} {text : List ℕ} {i j : ℕ} → IsRun p text i j → j < length text → p (slice_index text j) ≡ true → IsRun p text i (j + 1)
run_more {j = j} run below passes = record {
  ordered = omega arith;
  within = omega arith;
  each = λ k from below_next. ⊎_elim (λ before. run.each k from before) (λ not_before. let same : j ≡ k = omega arith in rw same at passes) (cases_lt k j);
}

-- a run is one byte longer, up to a place that is the next
pub run_on : {p : ℕ → Bool} {text : List ℕ} {i j k : ℕ} → IsRun p text i j → j < length text → p (slice_index text j) ≡ true → k ≡ j + 1 → IsRun p text i k
run_on run below passes is = rw is (run_more run below passes)
