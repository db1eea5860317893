-- Keywords are found where they are written.
use Rattle.std.proofs.Common.{◌≡◌, ℕ, ◌≤◌, Bool, true, false, cond, List, length, ◌∙◌, refl, ap, Option, Some, None}
use Rattle.std.specs.Prelude.{slice_range, codes}
use Rattle.std.specs.List.{list_all}
use Rattle.std.specs.Str.{bytes_eq}
use Rattle.std.proofs.lemmas.Slice.Eq.{bytes_eq-Decides}
use Rattle.fzn_token.specs.declared.token.Word.{Word}
use Rattle.fzn_token.specs.declared.token.Word.TheVariants as w
use Rattle.fzn_token.specs.Bytes.{IsHere, is_name_byte}
use Rattle.fzn_token.specs.Words.{word_text}
use Rattle.fzn_token.specs.Lookup.{word_in}
use Rattle.fzn_token.proofs.Literals.{here_range}

-- a keyword is found by what is written
pub word_in_text : (word : Word) → word_in (word_text word) ≡ Some word
word_in_text w.Array = refl
word_in_text w.Bool = refl
word_in_text w.Constraint = refl
word_in_text w.False = refl
word_in_text w.Float = refl
word_in_text w.Int = refl
word_in_text w.Maximize = refl
word_in_text w.Minimize = refl
word_in_text w.Of = refl
word_in_text w.Predicate = refl
word_in_text w.Satisfy = refl
word_in_text w.Set = refl
word_in_text w.Solve = refl
word_in_text w.True = refl
word_in_text w.Var = refl

-- a keyword has bytes of names alone
pub word_is_name : (word : Word) → list_all is_name_byte (word_text word) ≡ true
word_is_name w.Array = refl
word_is_name w.Bool = refl
word_is_name w.Constraint = refl
word_is_name w.False = refl
word_is_name w.Float = refl
word_is_name w.Int = refl
word_is_name w.Maximize = refl
word_is_name w.Minimize = refl
word_is_name w.Of = refl
word_is_name w.Predicate = refl
word_is_name w.Satisfy = refl
word_is_name w.Set = refl
word_is_name w.Solve = refl
word_is_name w.True = refl
word_is_name w.Var = refl

-- one turn of the look-up, by the outcome of its test
pick_by : (b : Bool) (bs t : List ℕ) (first : Word) (rest : Option Word) (word : Word) → (b ≡ true → bs ≡ t) → t ≡ word_text first → (rest ≡ Some word → bs ≡ word_text word) → cond b (Some first) rest ≡ Some word → bs ≡ word_text word
pick_by true bs t first rest word same t_is go e = let one : first ≡ word = cc in same refl ∙ t_is ∙ ap word_text one
pick_by false bs t first rest word same t_is go e = go e

-- one turn of the look-up
pick : (bs t : List ℕ) (first : Word) (rest : Option Word) (word : Word) → t ≡ word_text first → (rest ≡ Some word → bs ≡ word_text word) → cond (bytes_eq bs t) (Some first) rest ≡ Some word → bs ≡ word_text word
pick bs t first rest word t_is go e = pick_by (bytes_eq bs t) bs t first rest word ((bytes_eq-Decides bs t).0) t_is go e

-- what is found is the keyword that is written
pub word_found : (bs : List ℕ) (word : Word) → word_in bs ≡ Some word → bs ≡ word_text word
word_found bs word e =
    pick bs (codes "array") w.Array _ word refl (
    pick bs (codes "bool") w.Bool _ word refl (
    pick bs (codes "constraint") w.Constraint _ word refl (
    pick bs (codes "false") w.False _ word refl (
    pick bs (codes "float") w.Float _ word refl (
    pick bs (codes "int") w.Int _ word refl (
    pick bs (codes "maximize") w.Maximize _ word refl (
    pick bs (codes "minimize") w.Minimize _ word refl (
    pick bs (codes "of") w.Of _ word refl (
    pick bs (codes "predicate") w.Predicate _ word refl (
    pick bs (codes "satisfy") w.Satisfy _ word refl (
    pick bs (codes "set") w.Set _ word refl (
    pick bs (codes "solve") w.Solve _ word refl (
    pick bs (codes "true") w.True _ word refl (
    pick bs (codes "var") w.Var _ word refl (
    λ none. cc))))))))))))))) e

-- no keyword is spelled where the look-up finds none
pub word_missing : (text : List ℕ) (i j : ℕ) → i ≤ length text → word_in (slice_range text i j) ≡ None → (word : Word) → IsHere (word_text word) text i j → ⊥
word_missing text i j within none word h =
    let found : word_in (slice_range text i j) ≡ Some word = ap word_in (here_range (word_text word) text i j within h) ∙ word_in_text word in cc
