-- The problem of a DIMACS text, or its first refusal.
use Rattle.std.specs.Prelude.{◌≡◌, ℕ, ◌+◌, ◌-◌, ◌*◌, ◌^◌, zero, suc, Bool, true, false, ◌&&◌, List, [], ◌∷◌, ◌++◌, length, replicate, Option, Some, None, Result, Ok, Err, ℤ, pos, negsuc, neg_ℤ, nat_lt, nat_le, ◌==◌, if◌then◌else◌}
use Rattle.std.specs.Str.{byte}
use Rattle.std.specs.Char.{is_ascii_digit}
use Rattle.dcsp_meaning.specs.declared.kinds.ConstraintKind.TheVariants.{BoolClause}
use Rattle.dcsp_rule.specs.declared.aim.Aim.TheVariants.{Satisfy}
use Rattle.dcsp_common.specs.declared.limits.Which.TheVariants.{Variables}
use Rattle.dcsp_problem.specs.declared.limits.BuildError.{BuildError}
use Rattle.dcsp_problem.specs.declared.limits.BuildError.TheVariants as build
use Rattle.dcsp_rule.specs.declared.rule.Term.{Term}
use Rattle.dcsp_rule.specs.declared.rule.Term.TheVariants.{Var}
use Rattle.dcsp_rule.specs.declared.rule.Members.TheVariants.{Listed}
use Rattle.dcsp_rule.specs.declared.rule.Rule.{Rule}
use Rattle.dcsp_rule.specs.declared.rule.Rule.TheVariants.{Plain}
use Rattle.dcsp_rule.specs.Problems.{Contents}
use Rattle.dcsp_common.specs.Limits.{most}
use Rattle.dcsp_problem.specs.Limits.{rule_refusal}
use Rattle.cnf_front.specs.declared.header.CnfError.{CnfError}
use Rattle.cnf_front.specs.declared.header.CnfError.TheVariants.{Syntax, Limit, Memory}
use Rattle.cnf_front.specs.declared.header.Mark.{Mark}
use Rattle.cnf_front.specs.declared.header.Mark.TheVariants.{P, Cnf, Clauses}
use Rattle.cnf_front.specs.declared.words.Stand.TheVariants.{Start}
use Rattle.cnf_front.specs.Dimacs.{TextWord, words}

infixl 10 ◌>>=◌
abbrev pub ◌>>=◌ : {A B : Type 0} → Result A CnfError → (A → Result B CnfError) → Result B CnfError
(Err e) >>= f = Err e
(Ok x) >>= f = f x

abbrev pub and_then : {A B : Type 0} → Option A → (A → Option B) → Option B
and_then None f = None
and_then (Some x) f = f x

-- ---- words

abbrev pub is_p : List ℕ → Bool
is_p [] = false
is_p (a ∷ []) = a == byte "p"
is_p (a ∷ b ∷ bytes) = false

abbrev pub is_cnf : List ℕ → Bool
is_cnf (a ∷ b ∷ c ∷ []) = a == byte "c" && b == byte "n" && c == byte "f"
is_cnf other = false

-- the word ends the text: there is none, or it is `%`
abbrev pub is_end : List ℕ → Bool
is_end [] = true
is_end (b ∷ []) = b == byte "%"
is_end (b ∷ c ∷ bytes) = false

-- each byte is a digit
unfoldable pub all_digits : List ℕ → Bool
all_digits [] = true
all_digits (b ∷ bytes) = if is_ascii_digit b then all_digits bytes else false

-- a whole number without sign
abbrev pub is_number : List ℕ → Bool
is_number [] = false
is_number (b ∷ bytes) = all_digits (b ∷ bytes)

-- the number that digits write after those of the number so far, as long as it has 64 bits
unfoldable pub digits_of : ℕ → List ℕ → Option ℕ
digits_of number [] = Some number
digits_of number (b ∷ bytes) =
    if is_ascii_digit b
    then (if nat_lt (number * 10 + (b - 48)) (2 ^ 64) then digits_of (number * 10 + (b - 48)) bytes else None)
    else None

-- the number of 64 bits that a word writes
unfoldable pub number_of : List ℕ → Option ℕ
number_of [] = None
number_of (b ∷ bytes) = digits_of 0 (b ∷ bytes)

-- a negated variable, of so many
unfoldable pub negated : ℕ → ℕ → Option ℤ
negated variables n = if nat_lt 0 n && nat_le n variables then Some (neg_ℤ (pos n)) else None

-- a variable, of so many, or 0
unfoldable pub plain : ℕ → ℕ → Option ℤ
plain variables n = if nat_le n variables then Some (pos n) else None

-- the literal over so many variables, or 0, that a word writes
unfoldable pub literal_in : ℕ → List ℕ → Option ℤ
literal_in variables [] = None
literal_in variables (b ∷ bytes) =
    if b == byte "-" then and_then (number_of bytes) (negated variables) else and_then (number_of (b ∷ bytes)) (plain variables)

-- ---- the header

-- the test of a word of the header
abbrev pub passes : Mark → List ℕ → Bool
passes P word = is_p word
passes Cnf word = is_cnf word
passes Clauses word = is_number word

-- the words after one that passes the test
abbrev pub expect : (List ℕ → Bool) → List TextWord → Result (List TextWord) CnfError
expect test [] = Err (Syntax 0)
expect test (w ∷ ws) = if test w.bytes then Ok ws else Err (Syntax w.at)

-- a number of variables that is within its limit
abbrev pub within_limit : ℕ → Option ℕ → List TextWord → Result (ℕ × List TextWord) CnfError
within_limit at None ws = Err (Syntax at)
within_limit at (Some n) ws = if nat_le n (most Variables) then Ok (n, ws) else Err (Limit Variables n at)

-- the number of variables, and the words after it
abbrev pub variables_at : List TextWord → Result (ℕ × List TextWord) CnfError
variables_at [] = Err (Syntax 0)
variables_at (w ∷ ws) = within_limit w.at (number_of w.bytes) ws

-- `p cnf`, the number of variables and that of clauses, which is not compared: the first number, and the words of the clauses
unfoldable pub header : List TextWord → Result (ℕ × List TextWord) CnfError
header ws = do
  a ← expect (passes P) ws
  b ← expect (passes Cnf) a
  v ← variables_at b
  c ← expect (passes Clauses) v.1
  Ok (v.0, c)

-- ---- the clauses

-- the terms of a clause
pub record Clause : Type 0 where
  pub positive : List Term
  pub negative : List Term

abbrev pub no_literals : Clause
no_literals = record { positive = []; negative = [] }

abbrev pub with_literal : Clause → ℤ → Clause
with_literal c (pos n) = record { positive = c.positive ++ Var (n - 1) ∷ []; negative = c.negative }
with_literal c (negsuc n) = record { positive = c.positive; negative = c.negative ++ Var n ∷ [] }

-- `bool_clause` of the clause's terms
abbrev pub clause_rule : Clause → Rule
clause_rule c = Plain BoolClause [] c.positive c.negative (Listed [])

-- a refusal of the problem, said at a place of the text
abbrev pub refused_at : ℕ → Option BuildError → Contents → Result Contents CnfError
refused_at at None p = Ok p
refused_at at (Some (build.Limit which count)) p = Err (Limit which count at)
refused_at at (Some build.WideSum) p = Err Memory
refused_at at (Some build.Memory) p = Err Memory

-- the problem with the clause as its next rule, where no limit is passed
abbrev pub with_clause : ℕ → Contents → Clause → Result Contents CnfError
with_clause at p c = refused_at at (rule_refusal p (clause_rule c)) (record p { rules = p.rules ++ clause_rule c ∷ [] })

-- the same of a clause that the text's end closes, where it has a literal
abbrev pub with_last : ℕ → Contents → Clause → Result Contents CnfError
with_last at p c = if length c.positive == 0 && length c.negative == 0 then Ok p else with_clause at p c

-- what a literal does to the problem and the clause so far; 0 closes the clause
abbrev pub with_word : ℕ → Contents → Clause → Option ℤ → Result (Contents × Clause) CnfError
with_word at p c None = Err (Syntax at)
with_word at p c (Some (pos zero)) = with_clause at p c >>= (λ q. Ok (q, no_literals))
with_word at p c (Some (pos (suc n))) = Ok (p, with_literal c (pos (suc n)))
with_word at p c (Some (negsuc n)) = Ok (p, with_literal c (negsuc n))

-- the problem, where the clauses go on with these words
unfoldable pub clauses_from : ℕ → Contents → Clause → List TextWord → Result Contents CnfError
clauses_from variables p c [] = Ok p
clauses_from variables p c (w ∷ ws) =
    if is_end w.bytes then with_last w.at p c
    else (with_word w.at p c (literal_in variables w.bytes) >>= (λ s. clauses_from variables s.0 s.1 ws))

-- so many variables with the domain 0, 1, and no rules
abbrev pub only_variables : ℕ → Contents
only_variables variables = record { domains = replicate variables (pos 0 ∷ pos 1 ∷ []); rules = []; outputs = []; aim = Satisfy }

-- the problem of a text, or its first refusal
unfoldable pub problem_of : List ℕ → Result Contents CnfError
problem_of text = do
  h ← header (words Start 0 text)
  clauses_from h.0 (only_variables h.0) no_literals h.1

-- what a call returned, seen by `view`, is this, unless memory ran out
abbrev pub Gives : {X Y : Type 0} → (X → Y) → Result X CnfError → Result Y CnfError → Type 0
Gives view (Ok x) given = given ≡ Ok (view x)
Gives view (Err Memory) given = Unit {0}
Gives view (Err (Syntax at)) given = given ≡ Err (Syntax at)
Gives view (Err (Limit which count at)) given = given ≡ Err (Limit which count at)

-- the clause with these terms
abbrev pub terms_so_far : List Term → List Term → Clause
terms_so_far positive negative = record { positive = positive; negative = negative }
