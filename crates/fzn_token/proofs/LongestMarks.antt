-- The longest token where a mark begins.
use Rattle.std.proofs.Common.{◌≡◌, ℕ, ◌+◌, ◌<◌, ◌≤◌, Bool, true, false, cond, eqb, List, [], ◌∷◌, length, arith, sym, ◌∙◌, refl, subst, Option, Some, None}
use Rattle.std.specs.Prelude.{slice_index, ⊤, MatchOption}
use Rattle.std.proofs.lemmas.Bool.Decides.{Decides-eqb}
use Rattle.fzn_token.specs.declared.token.Mark.{Mark}
use Rattle.fzn_token.specs.declared.token.Mark.TheVariants as m
use Rattle.fzn_token.specs.declared.token.TokenKind.{TokenKind}
use Rattle.fzn_token.specs.declared.token.TokenKind.TheVariants as kind
use Rattle.fzn_token.specs.Bytes.{IsHere}
use Rattle.fzn_token.specs.Words.{mark_text}
use Rattle.fzn_token.specs.Lookup.{mark_in}
use Rattle.fzn_token.specs.Tokens.{Spells, IsLongest}
use Rattle.fzn_token.proofs.Classes.{other, class_of, class_of_kind, spelled_class}

-- one turn of the look-up, by the outcome of its test
choose_by : (t : Bool) (b c : ℕ) (P : Option Mark → Type 0) (x y : Option Mark) → (t ≡ true → b ≡ c) → (b ≡ c → P x) → P y → P (cond t x y)
choose_by true b c P x y same one two = one (same refl)
choose_by false b c P x y same one two = two

-- one turn of the look-up
pub choose : (b c : ℕ) (P : Option Mark → Type 0) (x y : Option Mark) → (b ≡ c → P x) → P y → P (cond (eqb b c) x y)
choose b c P x y one two = choose_by (eqb b c) b c P x y ((Decides-eqb b c).0) one two

module _ (text : List ℕ) (i : ℕ) (below : i < length text) (twice : Bool) where
  -- the mark that is found, if one is, is written at place i
  abbrev pub Here : Option Mark → Type 0
  Here o = MatchOption o ⊤ (λ mark. IsHere (mark_text mark) text i (i + length (mark_text mark)))

  -- a mark of one byte
  found_one : (c : ℕ) → slice_index text i ≡ c → IsHere (c ∷ []) text i (i + 1)
  found_one c is = (below, is, refl)

  -- a mark of one byte twice
  found_two : (c : ℕ) → (i + 1 < length text) × (slice_index text (i + 1) ≡ slice_index text i) → slice_index text i ≡ c → IsHere (c ∷ c ∷ []) text i (i + 2)
  found_two c next is = (below, is, (next.0, next.1 ∙ is, omega arith))

  -- the outcome hangs on whether the byte stands there twice
  both_ways : (t : Bool) (x y : Option Mark) → (t ≡ true → Here x) → Here y → Here (cond t x y)
  both_ways true x y one two = one refl
  both_ways false x y one two = two

  -- the mark that is found is written at place i
  pub mark_here : (twice ≡ true → (i + 1 < length text) × (slice_index text (i + 1) ≡ slice_index text i)) → Here (mark_in twice (slice_index text i))
  mark_here next = let b : ℕ = slice_index text i in
      choose b 58 Here _ _ (λ is. both_ways twice _ _ (λ t. found_two 58 (next t) is) (found_one 58 is)) (
      choose b 46 Here _ _ (λ is. both_ways twice _ _ (λ t. found_two 46 (next t) is) tt) (
      choose b 59 Here _ _ (found_one 59) (
      choose b 44 Here _ _ (found_one 44) (
      choose b 61 Here _ _ (found_one 61) (
      choose b 40 Here _ _ (found_one 40) (
      choose b 41 Here _ _ (found_one 41) (
      choose b 91 Here _ _ (found_one 91) (
      choose b 93 Here _ _ (found_one 93) (
      choose b 123 Here _ _ (found_one 123) (
      choose b 125 Here _ _ (found_one 125) tt))))))))))

-- a mark is found, and place to is no later than its end
abbrev pub IsWithin : ℕ → ℕ → Option Mark → Type 0
IsWithin i to o = MatchOption o ⊥ (λ mark. to ≤ i + length (mark_text mark))

-- no mark of one byte is longer than the one that is found
single : (text : List ℕ) (i to c : ℕ) (twice : Bool) → IsWithin i (i + 1) (mark_in twice c) → IsHere (c ∷ []) text i to → IsWithin i to (mark_in twice (slice_index text i))
single text i to c twice within h = subst (λ x. IsWithin i x (mark_in twice (slice_index text i))) h.2 (subst (λ b. IsWithin i (i + 1) (mark_in twice b)) (sym h.1) within)

-- a `:` is no longer than what is found
colon : (i : ℕ) (twice : Bool) → IsWithin i (i + 1) (mark_in twice 58)
colon i true = omega arith
colon i false = omega arith

-- no mark of two bytes is longer than the one that is found
double : (text : List ℕ) (i to c : ℕ) (twice : Bool) → ((i + 1 < length text) × (slice_index text (i + 1) ≡ slice_index text i) → twice ≡ true) → IsWithin i (i + 2) (mark_in true c) → IsHere (c ∷ c ∷ []) text i to → IsWithin i to (mark_in twice (slice_index text i))
double text i to c twice next within h =
    let is_twice : twice ≡ true = next (h.2.0, h.2.1 ∙ sym h.1) in
    let end : i + 2 ≡ to = (let steps : i + 1 + 1 ≡ to = h.2.2 in omega arith) in
    subst (λ x. IsWithin i x (mark_in twice (slice_index text i))) end (subst (λ t. IsWithin i (i + 2) (mark_in t (slice_index text i))) (sym is_twice) (subst (λ b. IsWithin i (i + 2) (mark_in true b)) (sym h.1) within))

-- no mark is longer than the one that is found
pub mark_within : (mark : Mark) (text : List ℕ) (i to : ℕ) (twice : Bool) → ((i + 1 < length text) × (slice_index text (i + 1) ≡ slice_index text i) → twice ≡ true) → IsHere (mark_text mark) text i to → IsWithin i to (mark_in twice (slice_index text i))
mark_within m.ColonColon text i to twice next h = double text i to 58 twice next (omega arith) h
mark_within m.DotDot text i to twice next h = double text i to 46 twice next (omega arith) h
mark_within m.Colon text i to twice next h = single text i to 58 twice (colon i twice) h
mark_within m.Semicolon text i to twice next h = single text i to 59 twice (omega arith) h
mark_within m.Comma text i to twice next h = single text i to 44 twice (omega arith) h
mark_within m.Equals text i to twice next h = single text i to 61 twice (omega arith) h
mark_within m.OpenParen text i to twice next h = single text i to 40 twice (omega arith) h
mark_within m.CloseParen text i to twice next h = single text i to 41 twice (omega arith) h
mark_within m.OpenBracket text i to twice next h = single text i to 91 twice (omega arith) h
mark_within m.CloseBracket text i to twice next h = single text i to 93 twice (omega arith) h
mark_within m.OpenBrace text i to twice next h = single text i to 123 twice (omega arith) h
mark_within m.CloseBrace text i to twice next h = single text i to 125 twice (omega arith) h

-- only marks begin with a byte of the last class
module _ (text : List ℕ) (i : ℕ) (here : class_of (slice_index text i) ≡ other) (twice : Bool) (next : (i + 1 < length text) × (slice_index text (i + 1) ≡ slice_index text i) → twice ≡ true) where
  -- no token of another class begins here
  differs : (k : TokenKind) (j : ℕ) → (class_of_kind k ≡ other → ⊥) → Spells k text i j → ⊥
  differs k j not_other s = not_other (sym (spelled_class k text i j s).1 ∙ here)

  -- no token is longer than the mark that is found
  pub within : (k : TokenKind) (to : ℕ) → Spells k text i to → IsWithin i to (mark_in twice (slice_index text i))
  within kind.Name to s = absurd (differs kind.Name to (λ e. cc) s)
  within (kind.Word word) to s = absurd (differs (kind.Word word) to (λ e. cc) s)
  within (kind.Whole z) to s = absurd (differs (kind.Whole z) to (λ e. cc) s)
  within kind.Float to s = absurd (differs kind.Float to (λ e. cc) s)
  within kind.Text to s = absurd (differs kind.Text to (λ e. cc) s)
  within (kind.Mark mark) to s = mark_within mark text i to twice next s

  -- where no mark is found, no token begins
  pub mark_missing : mark_in twice (slice_index text i) ≡ None → (k : TokenKind) (to : ℕ) → Spells k text i to → ⊥
  mark_missing none k to s = subst (IsWithin i to) none (within k to s)

  -- the mark that is found is the longest token
  pub mark_longest : i < length text → (twice ≡ true → (i + 1 < length text) × (slice_index text (i + 1) ≡ slice_index text i)) → (mark : Mark) → mark_in twice (slice_index text i) ≡ Some mark → IsLongest (kind.Mark mark) text i (i + length (mark_text mark))
  mark_longest below is_next mark found = record {
    spelled = subst (λ o. MatchOption o ⊤ (λ x. IsHere (mark_text x) text i (i + length (mark_text x)))) found (mark_here text i below twice is_next);
    longest = λ k to s. subst (IsWithin i to) found (within k to s);
  }
