-- What steps have beside their nogoods, in one list of words.
use Rattle.std.specs.Prelude.{◌≡◌, ℕ, zero, suc, ◌+◌, ◌-◌, ◌*◌, ◌<◌, ◌≤◌, ◌==◌, if◌then◌else◌, List, [], ◌∷◌, ◌++◌, length, take, drop, Option, Some, None, slice_index_or}
use Rattle.dcsp_defs.specs.declared.Reason.{Reason}
use Rattle.dcsp_defs.specs.declared.Reason.TheVariants.{Rule, Earlier}
use Rattle.ngd_store.specs.declared.arena.TheConstants.{NO_VAR}
use Rattle.ngd_store.specs.declared.rests.TheConstants.{A_STEP, FAR_RULE}

-- f 0, .., f (n - 1)
abbrev pub values_below : {A : Type 0} → (ℕ → A) → ℕ → List A
values_below f zero = []
values_below f (suc n) = values_below f n ++ f n ∷ []

-- a step's variable and reasons
pub record Rest : Type 0 where
  pub variable : Option ℕ
  pub reasons : List Reason

-- what stands past the last
abbrev pub no_rest : Rest
no_rest = record { variable = None; reasons = [] }

-- the reasons that words stand for: a rule is a word, but after a mark a step or a rule with a great number is two
abbrev pub reasons_in : List ℕ → List Reason
reasons_in [] = []
reasons_in (word ∷ []) = Rule word ∷ []
reasons_in (word ∷ next ∷ []) = Rule word ∷ reasons_in (next ∷ [])
reasons_in (word ∷ high ∷ low ∷ words) =
    if word == A_STEP then Earlier (high * 65536 + low) ∷ reasons_in words else (if word == FAR_RULE then Rule (high * 65536 + low) ∷ reasons_in words else Rule word ∷ reasons_in (high ∷ low ∷ words))

-- the variable that a word stands for
abbrev pub variable_in : ℕ → Option ℕ
variable_in word = if word == NO_VAR then None else Some word

-- the variable is the first word, the reasons are the others
abbrev pub rest_in : List ℕ → Rest
rest_in [] = no_rest
rest_in (word ∷ words) = record { variable = variable_in word; reasons = reasons_in words }

-- where the words of a step begin and end, by where those of each step end
abbrev pub start_at : List ℕ → ℕ → ℕ
start_at ends zero = 0
start_at ends (suc k) = slice_index_or ends k 0

abbrev pub end_at : List ℕ → ℕ → ℕ
end_at ends k = slice_index_or ends k 0

-- the words from a place to another
abbrev pub part : List ℕ → ℕ → ℕ → List ℕ
part words start end = take (end - start) (drop start words)

-- the step at a place
abbrev pub rest_at : List ℕ → List ℕ → ℕ → Rest
rest_at words ends k = rest_in (part words (start_at ends k) (end_at ends k))

abbrev pub rests_in : List ℕ → List ℕ → List Rest
rests_in words ends = values_below (rest_at words ends) (length ends)

-- the words of a step end where they begin or later, and are there
pub record IsEnd (words start end : ℕ) : Type 0 where
  pub after : start ≤ end
  pub within : end ≤ words

abbrev pub AreEnds : List ℕ → List ℕ → Type 0
AreEnds words ends = (k : ℕ) → k < length ends → IsEnd (length words) (start_at ends k) (end_at ends k)

-- words that stand for these reasons were added
pub record HasAdded (old new : List ℕ) (reasons : List Reason) : Type 0 where
  pub added : List ℕ
  pub same : new ≡ old ++ added
  pub read : (more : List ℕ) → reasons_in (added ++ more) ≡ reasons ++ reasons_in more

-- the words so far, and behind them those of a step with this rest
pub record HasAddedRest (old new : List ℕ) (rest : Rest) : Type 0 where
  pub added : List ℕ
  pub same : new ≡ old ++ added
  pub read : rest_in added ≡ rest

-- a mark was added, and the two words of the number
pub record IsFar (old new : List ℕ) (mark number : ℕ) : Type 0 where
  pub high : ℕ
  pub low : ℕ
  pub same : new ≡ old ++ mark ∷ high ∷ low ∷ []
  pub number_is : high * 65536 + low ≡ number
