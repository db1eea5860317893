-- The words of a formula's text.
use Rattle.std.proofs.Common.{◌≡◌, ◌≢◌, ℕ, zero, suc, ◌+◌, ◌≤◌, ◌==◌, ◌⊎◌, inl, inr, Bool, true, false, cond, List, [], ◌∷◌, ◌++◌, length, Some, None, refl, sym, ap, ◌∙◌, subst, append_assoc, length-append, arith}
use Rattle.std.proofs.lemmas.Bool.Decides.{eqb_tells}
use Rattle.std.proofs.lemmas.List.{append-nil}
use Rattle.dcsp_defs.specs.Words.{In}
use Rattle.cnf_front.specs.declared.words.Stand.{Stand}
use Rattle.cnf_front.specs.declared.words.Stand.TheVariants.{Start, Inside, Comment}
use Rattle.cnf_front.specs.Dimacs.{TextWord, word_at, is_blank, after_blank, step, ends_word, before_first, with_byte, on_step, words}
use Rattle.law_subjects.specs.Formulas.{IsOneLine, Gap, nothing, blank, comment, IsWord, EndsWord, Words, ends, ends_in_comment, word, TextsAreWords}

-- where the first byte stands
abbrev stand_of : Bool → Stand
stand_of true = Start
stand_of false = Inside

-- ---- what is read is what the automaton reads

after_is : (b : ℕ) → after_blank b ≡ stand_of (b == 10)
after_is b = elim (b == 10) as (λ t. cond t Start Inside ≡ stand_of t) [ true ↦ refl | false ↦ refl ]

no_comment : (b : ℕ) → is_blank b ≡ true → (b == 99) ≡ false
no_comment b h = elim (eqb_tells b 99) [ inl same ↦ absurd (let is : is_blank 99 ≡ true = ap is_blank (sym same.1) ∙ h in cc) | inr other ↦ other.0 ]

blank_step : (line : Bool) (b : ℕ) → is_blank b ≡ true → step (stand_of line) b ≡ Some (stand_of (b == 10))
unfolding step
blank_step true b h = rw (no_comment b h) (rw h (ap Some (after_is b)))
blank_step false b h = rw h (ap Some (after_is b))

comment_byte : (b : ℕ) → (b ≡ 10 → ⊥) → step Comment b ≡ Some Comment
unfolding step
comment_byte b h = elim (eqb_tells b 10) [ inl same ↦ absurd (h same.1) | inr other ↦ rw other.0 refl ]

words_on : (s t : Stand) (b at : ℕ) (bytes : List ℕ) → step s b ≡ Some t → words s at (b ∷ bytes) ≡ words t (at + 1) bytes
unfolding words
words_on s t b at bytes h = ap (λ o. on_step o (λ next. words next (at + 1) bytes) (with_byte b at (ends_word bytes) (words Inside (at + 1) bytes))) h

c_step : step Start 99 ≡ Some Comment
unfolding step
c_step = refl

comment_words : (text more : List ℕ) (at : ℕ) → IsOneLine text → words Comment at (text ++ 10 ∷ more) ≡ words Start (at + length text + 1) more
unfolding step
comment_words [] more at one = words_on Comment Start 10 at more refl ∙ ap (λ n. words Start n more) (omega arith)
comment_words (b ∷ text) more at one =
    words_on Comment Comment b at (text ++ 10 ∷ more) (comment_byte b (λ e. one (inl (sym e))))
    ∙ comment_words text more (at + 1) (λ i. one (inr i)) ∙ ap (λ n. words Start n more) (omega arith)

open_comment : (text : List ℕ) (at : ℕ) → IsOneLine text → words Comment at text ≡ word_at [] (at + length text) ∷ []
unfolding words
open_comment [] at one = ap (λ n. word_at [] n ∷ []) (omega arith)
open_comment (b ∷ text) at one =
    words_on Comment Comment b at text (comment_byte b (λ e. one (inl (sym e))))
    ∙ open_comment text (at + 1) (λ i. one (inr i)) ∙ ap (λ n. word_at [] n ∷ []) (omega arith)

gap_words : (line after : Bool) (gap : List ℕ) (at : ℕ) (more : List ℕ) → Gap line gap after → words (stand_of line) at (gap ++ more) ≡ words (stand_of after) (at + length gap) more
gap_words line after gap at more (nothing none same) =
    ap (λ (g : List ℕ). words (stand_of line) at (g ++ more)) none ∙ ap (λ l. words (stand_of l) at more) (sym same) ∙ ap (λ n. words (stand_of after) n more) (let size = ap (λ (g : List ℕ). length g) none in omega (arith, size))
gap_words line after gap at more (blank byte rest parts is g) =
    ap (λ (g : List ℕ). words (stand_of line) at (g ++ more)) parts
    ∙ words_on (stand_of line) (stand_of (byte == 10)) byte at (rest ++ more) (blank_step line byte is)
    ∙ gap_words (byte == 10) after rest (at + 1) more g
    ∙ ap (λ n. words (stand_of after) n more) (let size = ap (λ (g : List ℕ). length g) parts in omega (arith, size))
gap_words line after gap at more (comment text rest begins parts one g) =
    ap (λ (g : List ℕ). words (stand_of line) at (g ++ more)) parts
    ∙ ap (λ l. words (stand_of l) at (99 ∷ ((text ++ 10 ∷ rest) ++ more))) begins
    ∙ words_on Start Comment 99 at ((text ++ 10 ∷ rest) ++ more) c_step
    ∙ ap (λ (m : List ℕ). words Comment (at + 1) m) (append_assoc text (10 ∷ rest) more)
    ∙ comment_words text (rest ++ more) (at + 1) one
    ∙ gap_words true after rest (at + 1 + length text + 1) more g
    ∙ ap (λ n. words (stand_of after) n more) (let size = ap (λ (g : List ℕ). length g) parts ∙ ap suc (length-append text (10 ∷ rest)) in omega (arith, size))

inside_step : (b : ℕ) → is_blank b ≡ false → step Inside b ≡ None
unfolding step
inside_step b h = rw h refl

-- the bytes of a word, one after the other
word_bytes : (bytes rest : List ℕ) (b at : ℕ) → ((c : ℕ) → In c bytes → is_blank c ≡ false) → EndsWord rest
    → with_byte b at (ends_word (bytes ++ rest)) (words Inside (at + 1) (bytes ++ rest)) ≡ word_at (b ∷ bytes) at ∷ words Inside (at + 1 + length bytes) rest
unfolding words
word_bytes [] [] b at solid end = ap (λ n. word_at (b ∷ []) at ∷ word_at [] n ∷ []) (omega arith)
word_bytes [] (c ∷ rest) b at solid end = rw end (ap (λ n. word_at (b ∷ []) at ∷ words Inside n (c ∷ rest)) (omega arith))
word_bytes (c ∷ bytes) rest b at solid end =
    let dark : is_blank c ≡ false = solid c (inl refl) in
    let next : words Inside (at + 1) (c ∷ (bytes ++ rest)) ≡ word_at (c ∷ bytes) (at + 1) ∷ words Inside (at + 1 + 1 + length bytes) rest =
    ap (λ o. on_step o (λ stand. words stand (at + 1 + 1) (bytes ++ rest)) (with_byte c (at + 1) (ends_word (bytes ++ rest)) (words Inside (at + 1 + 1) (bytes ++ rest)))) (inside_step c dark)
    ∙ word_bytes bytes rest c (at + 1) (λ d i. solid d (inr i)) end in
    ap (λ t. with_byte b at t (words Inside (at + 1) (c ∷ (bytes ++ rest)))) dark
    ∙ ap (λ ws. before_first b at ws) next
    ∙ ap (λ n. word_at (b ∷ c ∷ bytes) at ∷ words Inside n rest) (omega arith)

word_step : (line : Bool) (b : ℕ) → is_blank b ≡ false → (line ≡ true → b ≢ 99) → step (stand_of line) b ≡ None
unfolding step
word_step true b h other = elim (eqb_tells b 99) [ inl same ↦ absurd (other refl same.1) | inr differs ↦ rw differs.0 (rw h refl) ]
word_step false b h other = rw h refl

word_words : (line : Bool) (bytes rest : List ℕ) (at : ℕ) → IsWord line bytes → EndsWord rest → words (stand_of line) at (bytes ++ rest) ≡ word_at bytes at ∷ words Inside (at + length bytes) rest
unfolding words
word_words line [] rest at h end = absurd h
word_words line (b ∷ bytes) rest at h end =
    ap (λ o. on_step o (λ next. words next (at + 1) (bytes ++ rest)) (with_byte b at (ends_word (bytes ++ rest)) (words Inside (at + 1) (bytes ++ rest)))) (word_step line b (h.0 b (inl refl)) h.1)
    ∙ word_bytes bytes rest b at (λ c i. h.0 c (inr i)) end
    ∙ ap (λ n. word_at (b ∷ bytes) at ∷ words Inside n rest) (omega arith)

at_end : (stand : Stand) (at : ℕ) → words stand at [] ≡ word_at [] at ∷ []
unfolding words
at_end stand at = refl

pub reads_words : (line : Bool) (at : ℕ) (text : List ℕ) (ws : List TextWord) → Words line at text ws → words (stand_of line) at text ≡ ws
reads_words line at text ws (ends after gap is) =
    ap (λ (t : List ℕ). words (stand_of line) at t) (sym (append-nil text)) ∙ gap_words line after text at [] gap ∙ at_end (stand_of after) (at + length text) ∙ sym is
reads_words line at text ws (ends_in_comment gap last g one parts is) =
    ap (λ (t : List ℕ). words (stand_of line) at t) parts
    ∙ gap_words line true gap at (99 ∷ last) g
    ∙ words_on Start Comment 99 (at + length gap) last c_step
    ∙ open_comment last (at + length gap + 1) one
    ∙ ap (λ n. word_at [] n ∷ []) (let size = ap (λ (t : List ℕ). length t) parts ∙ length-append gap (99 ∷ last) in omega (arith, size))
    ∙ sym is
reads_words line at text ws (word after gap bytes rest more g w end parts is later) =
    ap (λ (t : List ℕ). words (stand_of line) at t) (parts ∙ append_assoc gap bytes rest)
    ∙ gap_words line after gap at (bytes ++ rest) g
    ∙ word_words after bytes rest (at + length gap) w end
    ∙ ap (λ ms. word_at bytes (at + length gap) ∷ ms) (reads_words false (at + length gap + length bytes) rest more later)
    ∙ sym is

-- ---- each text is read

-- what holds before a text that is read holds before it with a front that is part of a gap
prepend : (line mid : Bool) (at : ℕ) (front text : List ℕ) (ws : List TextWord) → ((gap : List ℕ) (after : Bool) → Gap mid gap after → Gap line (front ++ gap) after)
    → Words mid (at + length front) text ws → Words line at (front ++ text) ws
prepend line mid at front text ws wrap (ends after g is) =
    ends after (wrap text after g) (is ∙ ap (λ n. word_at [] n ∷ []) (let size = length-append front text in omega (arith, size)))
prepend line mid at front text ws wrap (ends_in_comment gap last g one parts is) =
    ends_in_comment (front ++ gap) last (wrap gap true g) one (ap (λ (t : List ℕ). front ++ t) parts ∙ sym (append_assoc front gap (99 ∷ last))) (is ∙ ap (λ n. word_at [] n ∷ []) (let size = length-append front text in omega (arith, size)))
prepend line mid at front text ws wrap (word after gap bytes rest more g w end parts is later) =
    let size : at + length front + length gap ≡ at + length (front ++ gap) = let s = length-append front gap in omega (arith, s) in
    word after (front ++ gap) bytes rest more (wrap gap after g) w end
    (ap (λ (t : List ℕ). front ++ t) parts ∙ ap (λ (t : List ℕ). front ++ t) (append_assoc gap bytes rest) ∙ sym (append_assoc front gap (bytes ++ rest)) ∙ sym (append_assoc (front ++ gap) bytes rest))
    (is ∙ ap (λ n. word_at bytes n ∷ more) size)
    (subst (λ (n : ℕ). Words false (n + length bytes) rest more) size later)

-- a line feed, if there is one
record Split (bytes : List ℕ) : Type 0 where
  found : IsOneLine bytes ⊎ ((text : List ℕ) × (rest : List ℕ) × (bytes ≡ text ++ 10 ∷ rest) × IsOneLine text)

split_line : (bytes : List ℕ) → Split bytes
split_line [] = record { found = inl (λ i. i) }
split_line (b ∷ bytes) = elim (eqb_tells b 10) [
  | inl same ↦ record { found = inr ([], bytes, ap (λ c. c ∷ bytes) same.1, (λ i. i)) }
  | inr other ↦ elim (split_line bytes).found [
    | inl one ↦ record { found = inl (λ i. elim i [ inl e ↦ other.1 (sym e) | inr j ↦ one j ]) }
    | inr s ↦ record { found = inr (b ∷ s.0, s.1, ap (λ bs. b ∷ bs) s.2, (λ i. elim i [ inl e ↦ other.1 (sym e) | inr j ↦ s.3 j ])) }
  ]
]

-- the bytes up to a blank
record Front (bytes : List ℕ) : Type 0 where
  front : List ℕ
  rest : List ℕ
  parts : bytes ≡ front ++ rest
  solid : (c : ℕ) → In c front → is_blank c ≡ false
  end : EndsWord rest

split_word : (bytes : List ℕ) → Front bytes
split_word [] = record { front = []; rest = []; parts = refl; solid = λ c i. absurd i; end = tt }
split_word (b ∷ bytes) =
    let more = split_word bytes in
    (elim (is_blank b) as (λ t. is_blank b ≡ t → Front (b ∷ bytes)) [
      | true ↦ λ is. record { front = []; rest = b ∷ bytes; parts = refl; solid = λ c i. absurd i; end = is }
      | false ↦ λ is. record {
        front = b ∷ more.front;
        rest = more.rest;
        parts = ap (λ bs. b ∷ bs) more.parts;
        solid = λ c i. elim i [ inl e ↦ ap is_blank e ∙ is | inr j ↦ more.solid c j ];
        end = more.end;
      }
    ]) refl

with_blank : (line : Bool) (b : ℕ) → is_blank b ≡ true → (gap : List ℕ) (after : Bool) → Gap (b == 10) gap after → Gap line (b ∷ gap) after
with_blank line b is gap after g = blank b gap refl is g

with_comment : (text : List ℕ) → IsOneLine text → (gap : List ℕ) (after : Bool) → Gap true gap after → Gap true ((99 ∷ text ++ 10 ∷ []) ++ gap) after
with_comment text one gap after g = comment text gap refl (ap (λ bs. 99 ∷ bs) (append_assoc text (10 ∷ []) gap)) one g

-- what is read from each place of a shorter text
abbrev ReadsBelow : ℕ → Type 0
ReadsBelow most = (line : Bool) (at : ℕ) (text : List ℕ) → length text ≤ most → Words line at text (words (stand_of line) at text)

after_blank_words : (most : ℕ) (line : Bool) (at b : ℕ) (bytes : List ℕ) → length bytes ≤ most → ReadsBelow most → is_blank b ≡ true → Words line at (b ∷ bytes) (words (stand_of line) at (b ∷ bytes))
after_blank_words most line at b bytes fits below is =
    subst (λ (ws : List TextWord). Words line at (b ∷ bytes) ws) (sym (words_on (stand_of line) (stand_of (b == 10)) b at bytes (blank_step line b is)))
    (prepend line (b == 10) at (b ∷ []) bytes (words (stand_of (b == 10)) (at + 1) bytes) (with_blank line b is) (below (b == 10) (at + 1) bytes fits))

comment_read : (most : ℕ) (at : ℕ) (bytes : List ℕ) → length bytes ≤ most → ReadsBelow most → Words true at (99 ∷ bytes) (words Start at (99 ∷ bytes))
comment_read most at bytes fits below = elim (split_line bytes).found [
  | inl one ↦
      ends_in_comment [] bytes (nothing refl refl) one refl
      (words_on Start Comment 99 at bytes c_step ∙ open_comment bytes (at + 1) one ∙ ap (λ n. word_at [] n ∷ []) (omega arith))
  | inr s ↦
      let text = s.0 in
      let rest = s.1 in
      let front : List ℕ = 99 ∷ text ++ 10 ∷ [] in
      let size : length bytes ≡ length text + suc (length rest) = ap (λ (bs : List ℕ). length bs) s.2 ∙ length-append text (10 ∷ rest) in
      let front_size : length front ≡ length text + 2 = ap suc (length-append text (10 ∷ [])) ∙ omega arith in
      let same : 99 ∷ bytes ≡ front ++ rest = ap (λ bs. 99 ∷ bs) (s.2 ∙ sym (append_assoc text (10 ∷ []) rest)) in
      let read : words Start at (99 ∷ bytes) ≡ words Start (at + length front) rest =
      words_on Start Comment 99 at bytes c_step ∙ ap (λ (bs : List ℕ). words Comment (at + 1) bs) s.2 ∙ comment_words text rest (at + 1) s.3 ∙ ap (λ n. words Start n rest) (omega (arith, front_size)) in
      subst (λ (bs : List ℕ). Words true at bs (words Start at (99 ∷ bytes))) (sym same)
      (subst (λ (ws : List TextWord). Words true at (front ++ rest) ws) (sym read)
      (prepend true true at front rest (words Start (at + length front) rest) (with_comment text s.3) (below true (at + length front) rest (omega (arith, fits, size)))))
]

word_read : (most : ℕ) (line : Bool) (at b : ℕ) (bytes : List ℕ) → length bytes ≤ most → ReadsBelow most → is_blank b ≡ false → (line ≡ true → b ≢ 99) → Words line at (b ∷ bytes) (words (stand_of line) at (b ∷ bytes))
word_read most line at b bytes fits below dark other =
    let f = split_word bytes in
    let w : IsWord line (b ∷ f.front) = ((λ c i. elim i [ inl e ↦ ap is_blank e ∙ dark | inr j ↦ f.solid c j ]), other) in
    let size : length bytes ≡ length f.front + length f.rest = ap (λ (bs : List ℕ). length bs) f.parts ∙ length-append f.front f.rest in
    word line [] (b ∷ f.front) f.rest (words Inside (at + 0 + length (b ∷ f.front)) f.rest) (nothing refl refl) w f.end (ap (λ bs. b ∷ bs) f.parts)
    (ap (λ (bs : List ℕ). words (stand_of line) at (b ∷ bs)) f.parts ∙ word_words line (b ∷ f.front) f.rest at w f.end ∙ ap (λ n. word_at (b ∷ f.front) n ∷ words Inside (n + length (b ∷ f.front)) f.rest) (omega arith))
    (below false (at + 0 + length (b ∷ f.front)) f.rest (omega (arith, fits, size)))

dark_read : (most : ℕ) (line : Bool) (at b : ℕ) (bytes : List ℕ) → length bytes ≤ most → ReadsBelow most → is_blank b ≡ false → Words line at (b ∷ bytes) (words (stand_of line) at (b ∷ bytes))
dark_read most false at b bytes fits below dark = word_read most false at b bytes fits below dark (λ e. cc)
dark_read most true at b bytes fits below dark = elim (eqb_tells b 99) [
  | inl same ↦ subst (λ (c : ℕ). Words true at (c ∷ bytes) (words Start at (c ∷ bytes))) (sym same.1) (comment_read most at bytes fits below)
  | inr differs ↦ word_read most true at b bytes fits below dark (λ e. differs.1)
]

has_words : (most : ℕ) → ReadsBelow most
has_words most line at [] fits = ends line (nothing refl refl) (at_end (stand_of line) at ∙ ap (λ n. word_at [] n ∷ []) (omega arith))
has_words zero line at (b ∷ bytes) fits = absurd (omega (arith, fits))
has_words (suc most) line at (b ∷ bytes) fits =
    (elim (is_blank b) as (λ t. is_blank b ≡ t → Words line at (b ∷ bytes) (words (stand_of line) at (b ∷ bytes))) [
      | true ↦ λ is. after_blank_words most line at b bytes (omega (arith, fits)) (has_words most) is
      | false ↦ λ is. dark_read most line at b bytes (omega (arith, fits)) (has_words most) is
    ]) refl

pub texts_are_words : TextsAreWords
texts_are_words text ws = (
  reads_words true 0 text ws,
  λ h. subst (λ (xs : List TextWord). Words true 0 text xs) h (has_words (length text) true 0 text (omega arith)),
)
