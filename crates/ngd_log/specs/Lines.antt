-- The lines of a text, and the first bad line of a text that is not whole.
use Rattle.std.specs.Prelude.{◌≡◌, ℕ, ◌+◌, ◌-◌, ◌<◌, ◌≤◌, ◌⊎◌, false, List, [], ◌∷◌, ◌++◌, length, take, codes, ◌==◌, if◌then◌else◌}
use Rattle.std.specs.List.{AllByRecursion}

-- the byte before the first of the lines
abbrev pub with_byte : ℕ → List (List ℕ) → List (List ℕ)
with_byte b [] = (b ∷ []) ∷ []
with_byte b (line ∷ others) = (b ∷ line) ∷ others

-- the lines of a text, each with its line feed; what stands after the last line feed is a line where it is not empty
abbrev pub lines : List ℕ → List (List ℕ)
lines [] = []
lines (b ∷ text) = if b == 10 then (b ∷ []) ∷ lines text else with_byte b (lines text)

-- no line feed is among the bytes
abbrev pub HasNoLineFeed : List ℕ → Type 0
HasNoLineFeed bytes = AllByRecursion (λ b. (b == 10) ≡ false) bytes

-- one line feed, at the end
pub record IsLine (line : List ℕ) : Type 0 where
  pub body : List ℕ
  pub plain : HasNoLineFeed body
  pub same : line ≡ body ++ codes "\n"

-- some whole text begins with these lines, where `are_whole` says which lines are those of whole texts
abbrev pub Begin : (List (List ℕ) → Type 0) → List (List ℕ) → Type 0
Begin are_whole front = (others : List (List ℕ)) × are_whole (front ++ others)

-- the line with this number, counted from 1, is there, and no whole text begins with the lines up to it
pub record IsWrong (are_whole : List (List ℕ) → Type 0) (text : List ℕ) (number : ℕ) : Type 0 where
  pub there : number ≤ length (lines text)
  pub wrong : Begin are_whole (take number (lines text)) → ⊥

-- the text stops before the line with this number, and is not whole
pub record IsMissing (are_whole : List (List ℕ) → Type 0) (text : List ℕ) (number : ℕ) : Type 0 where
  pub after_last : number ≡ length (lines text) + 1
  pub not_whole : are_whole (lines text) → ⊥

-- the first bad line, counted from 1: some whole text begins with the lines before it, and it is wrong or missing
pub record IsFirstBadOf (are_whole : List (List ℕ) → Type 0) (text : List ℕ) (number : ℕ) : Type 0 where
  pub positive : 0 < number
  pub before : Begin are_whole (take (number - 1) (lines text))
  pub bad : IsWrong are_whole text number ⊎ IsMissing are_whole text number
