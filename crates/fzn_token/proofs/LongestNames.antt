-- The longest token where a name begins.
use Rattle.std.proofs.Common.{◌≡◌, ℕ, ◌+◌, ◌<◌, ◌≤◌, true, false, List, length, ⊎_elim, arith, sym, ◌∙◌, ap, Some, None}
use Rattle.std.specs.Prelude.{slice_index, slice_range}
use Rattle.std.proofs.lemmas.Bool.{cases_lt, false≢true}
use Rattle.std.proofs.lemmas.Bool.Decides.{nat_tests}
use Rattle.fzn_token.specs.declared.token.Word.{Word}
use Rattle.fzn_token.specs.declared.token.Word.TheVariants as w
use Rattle.fzn_token.specs.declared.token.TokenKind.{TokenKind}
use Rattle.fzn_token.specs.declared.token.TokenKind.TheVariants as kind
use Rattle.fzn_token.specs.Bytes.{IsWholeRun, is_name_byte, is_letter}
use Rattle.fzn_token.specs.Words.{word_text}
use Rattle.fzn_token.specs.Lookup.{word_in}
use Rattle.fzn_token.specs.Tokens.{Spells, IsLongest}
use Rattle.fzn_token.proofs.Runs.{run_at_most}
use Rattle.fzn_token.proofs.Literals.{range_here, here_run}
use Rattle.fzn_token.proofs.Keywords.{word_is_name, word_found, word_missing}
use Rattle.fzn_token.proofs.Classes.{letter, letter_class, other_class}

letter_is_name : (b : ℕ) → is_letter b ≡ true → is_name_byte b ≡ true
letter_is_name b is = grind (arith, nat_tests)

module _ (text : List ℕ) (i j : ℕ) (whole : IsWholeRun is_name_byte text i j) (first : is_letter (slice_index text i) ≡ true) (below : i < length text) where
  -- no token ends after the whole run of bytes of names
  name_at_most : (k : TokenKind) (to : ℕ) → Spells k text i to → to ≤ j
  name_at_most kind.Name to s = run_at_most whole.stops whole.run.ordered s.0.run
  name_at_most (kind.Word word) to s = run_at_most whole.stops whole.run.ordered (here_run is_name_byte (word_text word) text i to (omega arith) (word_is_name word) s)
  name_at_most (kind.Whole z) to s = absurd (other_class (kind.Whole z) text i to letter (letter_class (slice_index text i) first) (λ e. cc) s)
  name_at_most kind.Float to s = absurd (other_class kind.Float text i to letter (letter_class (slice_index text i) first) (λ e. cc) s)
  name_at_most kind.Text to s = absurd (other_class kind.Text text i to letter (letter_class (slice_index text i) first) (λ e. cc) s)
  name_at_most (kind.Mark mark) to s = absurd (other_class (kind.Mark mark) text i to letter (letter_class (slice_index text i) first) (λ e. cc) s)

  -- a keyword that is the whole run is the longest token
  pub word_longest : (word : Word) → word_in (slice_range text i j) ≡ Some word → IsLongest (kind.Word word) text i j
  word_longest word found = record {
    spelled = range_here (word_text word) text i j whole.run.ordered whole.run.within (word_found _ word found);
    longest = name_at_most;
  }

  -- the run has some bytes
  pub name_some : i < j
  name_some = ⊎_elim (λ some. some) (λ none. let same : j ≡ i = omega (arith, whole.run.ordered) in absurd (false≢true (sym (whole.stops (omega arith)) ∙ ap (λ x. is_name_byte (slice_index text x)) same ∙ letter_is_name (slice_index text i) first))) (cases_lt i j)

  -- a run that is no keyword is a name, and the longest token
  pub name_longest : word_in (slice_range text i j) ≡ None → IsLongest kind.Name text i j
  name_longest none = let some = name_some in record {
    spelled = (record { first = first; some = some; run = whole.run }, λ keyword. word_missing text i j (omega arith) none keyword.0 keyword.1);
    longest = name_at_most;
  }

-- `constraint` that no byte of a name follows is the longest token
pub constraint_longest : (text : List ℕ) (i : ℕ) → i + 10 < length text → is_name_byte (slice_index text (i + 10)) ≡ false → word_in (slice_range text i (i + 10)) ≡ Some w.Constraint → IsLongest (kind.Word w.Constraint) text i (i + 10)
constraint_longest text i below stop found =
    let here = range_here (word_text w.Constraint) text i (i + 10) (omega arith) (omega arith) (word_found _ w.Constraint found) in
    let run = here_run is_name_byte (word_text w.Constraint) text i (i + 10) (omega arith) (word_is_name w.Constraint) here in
    word_longest text i (i + 10) (record { run = run; stops = λ _. stop }) (ap is_letter here.1) here.0 w.Constraint found
