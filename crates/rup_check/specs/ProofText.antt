-- The text of a proof, and the first bad line of any other text.
use Rattle.std.specs.Prelude.{◌≡◌, ◌≢◌, ℕ, ℤ, ◌+◌, ◌^◌, ◌<◌, ◌≤◌, ◌⊎◌, List, [], ◌++◌, length, flat_map, codes, Result, Err}
use Rattle.std.specs.List.{AllByRecursion}
use Rattle.std.specs.Fmt.{signed_decimal}
use Rattle.rup_check.specs.Literals.{IsLiteral}
use Rattle.rup_check.specs.declared.reader.ProofError.{ProofError}
use Rattle.rup_check.specs.declared.reader.ProofError.TheVariants.{Line, Memory}

-- a literal and the space after it
abbrev pub literal_text : ℤ → List ℕ
literal_text literal = signed_decimal literal ++ codes " "

-- the line of a clause: its literals in their order, then 0
abbrev pub clause_line : List ℤ → List ℕ
clause_line clause = flat_map literal_text clause ++ codes "0\n"

-- the text of a proof: the lines of its clauses
abbrev pub proof_text : List (List ℤ) → List ℕ
proof_text clauses = flat_map clause_line clauses

-- each of them is a literal
abbrev pub IsClause : List ℤ → Type 0
IsClause clause = AllByRecursion IsLiteral clause

-- the text is that of this proof, which has fewer than 2^32 clauses
pub record IsProofOf (text : List ℕ) (proof : List (List ℤ)) : Type 0 where
  pub clauses : AllByRecursion IsClause proof
  pub count : length proof < 2 ^ 32
  pub same : text ≡ proof_text proof

-- the line of a clause comes next
pub record BeginsWithClause (text : List ℕ) : Type 0 where
  pub clause : List ℤ
  pub literals : IsClause clause
  pub rest : List ℕ
  pub parts : text ≡ clause_line clause ++ rest

-- the first bad line, counted from 1: lines of clauses stand before it, and it is there, but is no clause's line or has the number 2^32
pub record IsFirstBadLine (text : List ℕ) (number : ℕ) : Type 0 where
  pub before : List (List ℤ)
  pub clauses : AllByRecursion IsClause before
  pub counted : number ≡ length before + 1
  pub rest : List ℕ
  pub parts : text ≡ proof_text before ++ rest
  pub there : rest ≢ []
  pub bad : (BeginsWithClause rest → ⊥) ⊎ (number ≡ 2 ^ 32)
  pub within : number ≤ 2 ^ 32

-- Each text is that of one proof, or has one first bad line.
pub record ProofOrBadLine (text : List ℕ) : Type 0 where
  pub some : ((proof : List (List ℤ)) × IsProofOf text proof) ⊎ ((number : ℕ) × IsFirstBadLine text number)
  pub one_proof : (a b : List (List ℤ)) → IsProofOf text a → IsProofOf text b → a ≡ b
  pub one_line : (m n : ℕ) → IsFirstBadLine text m → IsFirstBadLine text n → m ≡ n
  pub not_both : (proof : List (List ℤ)) (number : ℕ) → IsProofOf text proof → IsFirstBadLine text number → ⊥

-- a result that can only differ from this one by want of memory
abbrev pub IsUnlessMemory : Result (List (List ℤ)) ProofError → Result (List (List ℤ)) ProofError → Type 0
IsUnlessMemory wanted result = (result ≡ wanted) ⊎ (result ≡ Err Memory)

-- why reading the text gave this error: its first bad line, or want of memory
abbrev pub IsCause : List ℕ → ProofError → Type 0
IsCause text (Line number) = IsFirstBadLine text number
IsCause text Memory = Unit {0}

-- the line of this clause comes next, and this after it
pub record IsNextClause (text : List ℕ) (clause : List ℤ) (rest : List ℕ) : Type 0 where
  pub literals : IsClause clause
  pub parts : text ≡ clause_line clause ++ rest
