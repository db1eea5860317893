-- Orders as text, and the first bad line of any other text.
use Rattle.std.specs.Prelude.{◌≡◌, ℕ, ◌+◌, ◌⊎◌, List, [], ◌∷◌, ◌++◌, map, codes, decimal, Result, Err, Option, Some}
use Rattle.std.specs.List.{concat}
use Rattle.dcsp_common.specs.Reading.{◌>>=◌}
use Rattle.ngd_log.specs.Lines.{IsFirstBadOf}
use Rattle.ngd_log.specs.Reading.{after, counted_at}
use Rattle.dcsp_order.specs.Orders.{IsOrder}
use Rattle.dcsp_order.specs.declared.text.OrderError.{OrderError}
use Rattle.dcsp_order.specs.declared.text.OrderError.TheVariants.{Line, Memory}

-- the line of the variable with this number, which is told from 1
abbrev pub variable_line : ℕ → List ℕ
variable_line number = decimal (number + 1) ++ codes "\n"

-- the lines of an order, each with its line feed
abbrev pub order_lines : List ℕ → List (List ℕ)
order_lines order = codes "order 1\n" ∷ map variable_line order ++ codes "end\n" ∷ []

-- the order's text: its lines, one after the other
abbrev pub order_text : List ℕ → List ℕ
order_text order = concat (order_lines order)

-- the text is that of an order of so many variables
pub record IsTextOf (variables : ℕ) (text order : List ℕ) : Type 0 where
  pub is_order : IsOrder variables order
  pub same : text ≡ order_text order

-- the lines are those of some order of so many variables
abbrev pub AreOrderLines : ℕ → List (List ℕ) → Type 0
AreOrderLines variables ls = (order : List ℕ) × IsOrder variables order × (order_lines order ≡ ls)

-- the first bad line, counted from 1: the text of some order begins with the lines before it, and it is wrong or missing
abbrev pub IsFirstBad : ℕ → List ℕ → ℕ → Type 0
IsFirstBad variables text number = IsFirstBadOf (AreOrderLines variables) text number

-- why reading the text gave this error: its first bad line, or want of memory
abbrev pub IsCause : ℕ → List ℕ → OrderError → Type 0
IsCause variables text (Line number) = IsFirstBad variables text number
IsCause variables text Memory = Unit {0}

-- a result that can only differ from this one by want of memory
abbrev pub IsUnlessMemory : Result (List ℕ) OrderError → Result (List ℕ) OrderError → Type 0
IsUnlessMemory wanted result = (result ≡ wanted) ⊎ (result ≡ Err Memory)

-- A text is that of one order at most, has one first bad line at most, and never both.
pub record OneAnswer (variables : ℕ) (text : List ℕ) : Type 0 where
  pub one_order : (a b : List ℕ) → IsTextOf variables text a → IsTextOf variables text b → a ≡ b
  pub one_line : (m n : ℕ) → IsFirstBad variables text m → IsFirstBad variables text n → m ≡ n
  pub not_both : (order : List ℕ) (number : ℕ) → IsTextOf variables text order → IsFirstBad variables text number → ⊥

-- reading: the variable whose line is at the front, one of so many, and what follows the line
unfoldable pub variable_at : ℕ → List ℕ → Option (ℕ × List ℕ)
variable_at variables bytes = do
  number ← counted_at variables bytes
  rest ← after (codes "\n") number.1
  Some (number.0, rest)
