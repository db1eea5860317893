-- Names, keywords and marks in a text: each is the longest token at its place where what follows stops it.
use Rattle.std.proofs.Common.{◌≡◌, ℕ, ◌+◌, ◌<◌, Bool, true, false, List, [], ◌∷◌, ◌++◌, length, slice_index, Some, None, refl, ap, ◌∙◌, subst, arith}
use Rattle.std.specs.Prelude.{◌==◌, ◌&&◌, nat_lt}
use Rattle.std.specs.List.{list_all}
use Rattle.std.proofs.lemmas.Bool.{false≢true}
use Rattle.std.proofs.lemmas.Bool.Decides.{nat_tests}
use Rattle.fzn_token.specs.Bytes.{IsHere, is_letter, is_name_byte}
use Rattle.fzn_token.specs.Words.{word_text, mark_text}
use Rattle.fzn_token.specs.Lookup.{word_in, mark_in}
use Rattle.fzn_token.specs.Tokens.{IsLongest}
use Rattle.fzn_token.specs.declared.token.Word.{Word}
use Rattle.fzn_token.specs.declared.token.Word.TheVariants as w
use Rattle.fzn_token.specs.declared.token.Mark.{Mark}
use Rattle.fzn_token.specs.declared.token.TokenKind.TheVariants as kind
use Rattle.fzn_token.proofs.LongestNames.{name_longest, word_longest}
use Rattle.fzn_token.proofs.LongestMarks.{mark_longest}
use Rattle.fzn_token.proofs.Keywords.{word_in_text, word_is_name}
use Rattle.fzn_token.proofs.Classes.{class_of, other}
use Rattle.law_subjects.proofs.Places.{stops, placed, whole_run, reads}

-- some bytes begin with one that passes
abbrev pub starts : (ℕ → Bool) → List ℕ → Bool
starts p [] = false
starts p (c ∷ cs) = p c

-- where they stand, a byte that passes stands
pub first_passes : (p : ℕ → Bool) (bs text : List ℕ) (i j : ℕ) → starts p bs ≡ true → IsHere bs text i j → (i < length text) × (p (slice_index text i) ≡ true)
first_passes p [] text i j pass h = absurd (false≢true pass)
first_passes p (b ∷ bs) text i j pass h = (h.0, ap p h.1 ∙ pass)

-- a name
pub name_piece : (text before bs after : List ℕ) → text ≡ before ++ (bs ++ after) → starts is_letter bs ≡ true → list_all is_name_byte bs ≡ true → stops is_name_byte after ≡ true → word_in bs ≡ None
    → IsLongest kind.Name text (length before) (length before + length bs)
name_piece text before bs after e letter all stop none =
    let first = first_passes is_letter bs text (length before) (length before + length bs) letter (placed text before bs after e) in
    name_longest text (length before) (length before + length bs) (whole_run is_name_byte text before bs after e all stop) first.1 first.0 (ap word_in (reads text before bs after e) ∙ none)

-- a keyword begins with a letter
word_letter : (word : Word) → starts is_letter (word_text word) ≡ true
word_letter w.Array = refl
word_letter w.Bool = refl
word_letter w.Constraint = refl
word_letter w.False = refl
word_letter w.Float = refl
word_letter w.Int = refl
word_letter w.Maximize = refl
word_letter w.Minimize = refl
word_letter w.Of = refl
word_letter w.Predicate = refl
word_letter w.Satisfy = refl
word_letter w.Set = refl
word_letter w.Solve = refl
word_letter w.True = refl
word_letter w.Var = refl

-- a keyword
pub word_piece : (text before after : List ℕ) (word : Word) → text ≡ before ++ (word_text word ++ after) → stops is_name_byte after ≡ true
    → IsLongest (kind.Word word) text (length before) (length before + length (word_text word))
word_piece text before after word e stop =
    let bs = word_text word in
    let first = first_passes is_letter bs text (length before) (length before + length bs) (word_letter word) (placed text before bs after e) in
    word_longest text (length before) (length before + length bs) (whole_run is_name_byte text before bs after e (word_is_name word) stop) first.1 first.0 word (ap word_in (reads text before bs after e) ∙ word_in_text word)

-- whether the byte at place i stands there twice
abbrev pub is_twice : List ℕ → ℕ → Bool
is_twice text i = nat_lt (i + 1) (length text) && (slice_index text (i + 1) == slice_index text i)

-- it does
pub twice : (text : List ℕ) (i : ℕ) → i + 1 < length text → slice_index text (i + 1) ≡ slice_index text i → is_twice text i ≡ true
twice text i below same = grind (arith, nat_tests)

-- the byte here, and the next one
pub told : (text : List ℕ) (i : ℕ) → is_twice text i ≡ true → (i + 1 < length text) × (slice_index text (i + 1) ≡ slice_index text i)
told text i t = (grind (arith, nat_tests), grind (arith, nat_tests))

-- a mark that the look-up finds at its first byte
pub mark_piece : (text before : List ℕ) (c : ℕ) (cs after : List ℕ) (mark : Mark) → text ≡ before ++ (mark_text mark ++ after) → mark_text mark ≡ c ∷ cs → class_of c ≡ other → mark_in (is_twice text (length before)) c ≡ Some mark
    → IsLongest (kind.Mark mark) text (length before) (length before + length (mark_text mark))
mark_piece text before c cs after mark e is class found =
    let h = subst (λ bs. IsHere bs text (length before) (length before + length (mark_text mark))) is (placed text before (mark_text mark) after e) in
    mark_longest text (length before) (ap class_of h.1 ∙ class) (is_twice text (length before)) (λ n. twice text (length before) n.0 n.1) h.0 (told text (length before)) mark (ap (mark_in (is_twice text (length before))) h.1 ∙ found)
