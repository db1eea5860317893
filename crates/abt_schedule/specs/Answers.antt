-- The answers of choices: the words of a generator, and a list's items.
use Rattle.std.specs.Prelude.{◌≡◌, ℕ, zero, suc, List, [], ◌∷◌, Option, Some, None, slice_get}
use Rattle.rand_core.specs.Pcg32Seed.{pcg32_seed}
use Rattle.rand_pcg.specs.Lcg.{Lcg}
use Rattle.rand_pcg.specs.Pcg.{pcg32, pcg32_of_seed}

-- word number k of the generator, counted from 0
abbrev pub word_at : Lcg → ℕ → ℕ
word_at generator zero = (pcg32 generator).0
word_at generator (suc k) = word_at (pcg32 generator).1 k

-- the generator of a seed: its 16 bytes are made of the number
abbrev pub generator_of : ℕ → Lcg
generator_of seed = pcg32_of_seed (pcg32_seed 16 seed)

-- a list has no item behind its end
pub none_behind : (choices : List ℕ) (k : ℕ) → slice_get choices k ≡ None → slice_get choices (suc k) ≡ None
none_behind [] k h = h
none_behind (c ∷ cs) zero h = absurd cc
none_behind (c ∷ cs) (suc k) h = none_behind cs k h

-- something is not nothing
pub no_none : {X : Type 0} (word : ℕ) → ◌≡◌ {A = Option ℕ} (Some word) None → X
no_none word h = absurd cc
