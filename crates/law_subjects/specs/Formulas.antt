-- The texts of formulas: what stands between words, which words there are, and what is refused.
use Rattle.std.specs.Prelude.{◌≡◌, ◌≢◌, ◌↔◌, ◌⊎◌, ℕ, ◌+◌, ◌-◌, ◌≤◌, ℤ, pos, negsuc, codes, replicate, Some, Bool, true, false, List, [], ◌∷◌, ◌++◌, length, map, Ok, Err, ◌==◌, ⊤}
use Rattle.dcsp_defs.specs.Words.{In}
use Rattle.dcsp_meaning.specs.declared.kinds.ConstraintKind.TheVariants.{BoolClause}
use Rattle.dcsp_rule.specs.Problems.{Contents}
use Rattle.dcsp_rule.specs.declared.aim.Aim.TheVariants.{Satisfy}
use Rattle.dcsp_rule.specs.declared.rule.Term.{Term}
use Rattle.dcsp_rule.specs.declared.rule.Term.TheVariants.{Var}
use Rattle.dcsp_rule.specs.declared.rule.Members.TheVariants.{Listed}
use Rattle.dcsp_rule.specs.declared.rule.Rule.{Rule}
use Rattle.dcsp_rule.specs.declared.rule.Rule.TheVariants.{Plain}
use Rattle.dcsp_common.specs.declared.limits.Which.{Which}
use Rattle.dcsp_common.specs.Limits.{most}
use Rattle.dcsp_common.specs.declared.limits.Which.TheVariants.{Variables}
use Rattle.cnf_front.specs.declared.header.CnfError.TheVariants.{Syntax, Limit}
use Rattle.cnf_front.specs.declared.words.Stand.TheVariants.{Start}
use Rattle.cnf_front.specs.Dimacs.{TextWord, word_at, is_blank, words}
use Rattle.cnf_front.specs.Formulas.{problem_of, is_end, is_number, number_of, literal_in}

-- no line ends among these bytes
abbrev pub IsOneLine : List ℕ → Type 0
IsOneLine bytes = In 10 bytes → ⊥

-- what stands between words: blanks, and comments, each of which begins with `c` at the begin of a line and goes up to its line feed; the truths tell whether a line begins, before it and behind it
pub data Gap : Bool → List ℕ → Bool → Type 0 where
  nothing : {line after : Bool} {gap : List ℕ} → gap ≡ [] → after ≡ line → Gap line gap after
  blank : {line after : Bool} {gap : List ℕ} (byte : ℕ) (rest : List ℕ) → gap ≡ byte ∷ rest → is_blank byte ≡ true → Gap (byte == 10) rest after → Gap line gap after
  comment : {line after : Bool} {gap : List ℕ} (text rest : List ℕ) → line ≡ true → gap ≡ 99 ∷ text ++ 10 ∷ rest → IsOneLine text → Gap true rest after → Gap line gap after

-- a word has no blanks, and where a line begins, it does not begin with `c`
abbrev pub IsWord : Bool → List ℕ → Type 0
IsWord line [] = ⊥
IsWord line (b ∷ bytes) = ((c : ℕ) → In c (b ∷ bytes) → is_blank c ≡ false) × (line ≡ true → b ≢ 99)

-- a word ends before this: there is nothing, or a blank
abbrev pub EndsWord : List ℕ → Type 0
EndsWord [] = ⊤
EndsWord (b ∷ bytes) = is_blank b ≡ true

-- the words of a text from a place on, each with its place, and last the text's end, which is a word without bytes
pub data Words : Bool → ℕ → List ℕ → List TextWord → Type 0 where
  ends : {line : Bool} {at : ℕ} {text : List ℕ} {ws : List TextWord} (after : Bool) → Gap line text after → ws ≡ word_at [] (at + length text) ∷ [] → Words line at text ws
  ends_in_comment : {line : Bool} {at : ℕ} {text : List ℕ} {ws : List TextWord} (gap last : List ℕ) → Gap line gap true → IsOneLine last → text ≡ gap ++ 99 ∷ last → ws ≡ word_at [] (at + length text) ∷ [] → Words line at text ws
  word : {line : Bool} {at : ℕ} {text : List ℕ} {ws : List TextWord} (after : Bool) (gap bytes rest : List ℕ) (more : List TextWord)
      → Gap line gap after → IsWord after bytes → EndsWord rest → text ≡ gap ++ bytes ++ rest
      → ws ≡ word_at bytes (at + length gap) ∷ more → Words false (at + length gap + length bytes) rest more → Words line at text ws

-- A text has exactly these words.
abbrev pub TextsAreWords : Type 0
TextsAreWords = (text : List ℕ) (ws : List TextWord) → Words true 0 text ws ↔ (words Start 0 text ≡ ws)

-- the bytes of words
abbrev pub bytes_of : List TextWord → List (List ℕ)
bytes_of ws = map (λ (w : TextWord). w.bytes) ws

-- Where two texts have the same words, whatever stands between them, a problem of the one is that of the other.
abbrev pub GapsAreIgnored : Type 0
GapsAreIgnored = (one other : List ℕ) → bytes_of (words Start 0 one) ≡ bytes_of (words Start 0 other)
    → (p : Contents) → problem_of one ≡ Ok p → problem_of other ≡ Ok p

-- the place is that of a word of the text, or the text's end
abbrev pub IsPlaceOfWord : List ℕ → ℕ → Type 0
IsPlaceOfWord text at = (w : TextWord) × In w (words Start 0 text) × (at ≡ w.at)

-- Each text has a problem or is refused, at the place of a word or at the text's end; want of memory refuses none.
abbrev pub EachHasAnswer : Type 0
EachHasAnswer = (text : List ℕ)
    → ((p : Contents) × (problem_of text ≡ Ok p))
    ⊎ ((at : ℕ) × IsPlaceOfWord text at × (problem_of text ≡ Err (Syntax at)))
    ⊎ ((which : Which) × (count : ℕ) × (at : ℕ) × IsPlaceOfWord text at × (problem_of text ≡ Err (Limit which count at)))

-- ---- what words say

-- the literals that are variables, as terms
abbrev pub plain_terms : List ℤ → List Term
plain_terms [] = []
plain_terms (pos n ∷ literals) = Var (n - 1) ∷ plain_terms literals
plain_terms (negsuc n ∷ literals) = plain_terms literals

-- those that are negated
abbrev pub negated_terms : List ℤ → List Term
negated_terms [] = []
negated_terms (pos n ∷ literals) = negated_terms literals
negated_terms (negsuc n ∷ literals) = Var n ∷ negated_terms literals

-- the rule of a clause of these literals
abbrev pub rule_of : List ℤ → Rule
rule_of literals = Plain BoolClause [] (plain_terms literals) (negated_terms literals) (Listed [])

-- each word writes one of the literals, none of which is 0
abbrev pub WriteEach : ℕ → List TextWord → List ℤ → Type 0
WriteEach variables [] [] = ⊤
WriteEach variables [] (z ∷ literals) = ⊥
WriteEach variables (w ∷ ws) [] = ⊥
WriteEach variables (w ∷ ws) (z ∷ literals) = (literal_in variables w.bytes ≡ Some z) × (z ≢ pos 0) × WriteEach variables ws literals

-- the words say these clauses: of each its literals and then 0, which may be left out behind the last; then comes `%` or the text's end
pub data Says : ℕ → List TextWord → List (List ℤ) → Type 0 where
  no_more : {variables : ℕ} {ws : List TextWord} {clauses : List (List ℤ)} (end : TextWord) (later : List TextWord) → ws ≡ end ∷ later → is_end end.bytes ≡ true → clauses ≡ [] → Says variables ws clauses
  last : {variables : ℕ} {ws : List TextWord} {clauses : List (List ℤ)} (written : List TextWord) (literals : List ℤ) (end : TextWord) (later : List TextWord)
      → WriteEach variables written literals → literals ≢ [] → ws ≡ written ++ end ∷ later → is_end end.bytes ≡ true → clauses ≡ literals ∷ [] → Says variables ws clauses
  clause : {variables : ℕ} {ws : List TextWord} {clauses : List (List ℤ)} (written : List TextWord) (literals : List ℤ) (zero : TextWord) (rest : List TextWord) (more : List (List ℤ))
      → WriteEach variables written literals → ws ≡ written ++ zero ∷ rest → literal_in variables zero.bytes ≡ Some (pos 0) → clauses ≡ literals ∷ more → Says variables rest more → Says variables ws clauses

-- the words `p`, `cnf`, a number of variables, and another number, and then words that say clauses
pub record IsFormula (ws : List TextWord) (variables : ℕ) (clauses : List (List ℤ)) : Type 0 where
  pub p : TextWord
  pub cnf : TextWord
  pub count : TextWord
  pub clause_count : TextWord
  pub rest : List TextWord
  pub parts : ws ≡ p ∷ cnf ∷ count ∷ clause_count ∷ rest
  pub is_p : p.bytes ≡ codes "p"
  pub is_cnf : cnf.bytes ≡ codes "cnf"
  pub is_count : number_of count.bytes ≡ Some variables
  pub is_number : is_number clause_count.bytes ≡ true
  pub within : variables ≤ most Variables
  pub says : Says variables rest clauses

-- A text that has a problem says clauses behind its header, and the problem has a variable with the values 0 and 1 for each that the header counts, and the rules of these clauses.
abbrev pub FormulasSayClauses : Type 0
FormulasSayClauses = (text : List ℕ) (p : Contents) → problem_of text ≡ Ok p
    → (variables : ℕ) × (clauses : List (List ℤ)) × IsFormula (words Start 0 text) variables clauses
    × (p ≡ record { domains = replicate variables (pos 0 ∷ pos 1 ∷ []); rules = map rule_of clauses; outputs = []; aim = Satisfy })
