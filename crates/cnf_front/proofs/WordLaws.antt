-- The word that is next.
use Rattle.std.proofs.Common.{◌≡◌, ℕ, suc, ◌+◌, Bool, true, false, cond, eqb, List, [], ◌∷◌, take, drop, Some, None, inl, inr, refl, sym, ap, ◌∙◌, subst, arith}
use Rattle.std.proofs.lemmas.Bool.{cases_Bool}
use Rattle.cnf_front.specs.declared.words.Stand.{Stand}
use Rattle.cnf_front.specs.declared.words.Stand.TheVariants.{Start, Inside, Comment}
use Rattle.cnf_front.specs.Dimacs.{TextWord, word_at, is_blank, after_blank, step, ends_word, before_first, with_byte, on_step, words, word_length, IsNextWord, IsAtWord}

none_of : (b : Bool) (s : Stand) → cond b (Some s) None ≡ None → b ≡ false
none_of true s h = absurd cc
none_of false s h = refl

-- the first byte of a word is not blank
begins : (stand : Stand) (b : ℕ) → step stand b ≡ None → is_blank b ≡ false
unfolding step
begins Start b h = of (eqb b 99) h where
  of : (c : Bool) → cond c (Some Comment) (cond (is_blank b) (Some (after_blank b)) None) ≡ None → is_blank b ≡ false
  of true h = absurd cc
  of false h = none_of (is_blank b) (after_blank b) h
begins Inside b h = none_of (is_blank b) (after_blank b) h
begins Comment b h = of (eqb b 10) h where
  of : (c : Bool) → cond c (Some Start) (Some Comment) ≡ None → is_blank b ≡ false
  of true h = absurd cc
  of false h = absurd cc

not_blank : (b : ℕ) → is_blank b ≡ false → step Inside b ≡ None
unfolding step
not_blank b h = ap (λ t. cond t (Some (after_blank b)) None) h

-- a word from its first byte on
word_here : (b at : ℕ) (bytes : List ℕ) → with_byte b at (ends_word bytes) (words Inside (at + 1) bytes) ≡ word_at (b ∷ take (word_length bytes) bytes) at ∷ words Inside (at + suc (word_length bytes)) (drop (word_length bytes) bytes)
unfolding words word_length
word_here b at [] = refl
word_here b at (c ∷ cs) = elim (cases_Bool (is_blank c)) [
  | inl t ↦ rw t refl
  | inr f ↦
      let first : words Inside (at + 1) (c ∷ cs) ≡ with_byte c (at + 1) (ends_word cs) (words Inside (at + 1 + 1) cs) = ap (λ o. on_step o (λ next. words next (at + 1 + 1) cs) (with_byte c (at + 1) (ends_word cs) (words Inside (at + 1 + 1) cs))) (not_blank c f) in
      let place : at + 1 + suc (word_length cs) ≡ at + suc (suc (word_length cs)) = omega arith in
      let rest : words Inside (at + 1) (c ∷ cs) ≡ word_at (c ∷ take (word_length cs) cs) (at + 1) ∷ words Inside (at + suc (suc (word_length cs))) (drop (word_length cs) cs) = first ∙ word_here c (at + 1) cs ∙ ap (λ k. word_at (c ∷ take (word_length cs) cs) (at + 1) ∷ words Inside k (drop (word_length cs) cs)) place in
      rw f (ap (before_first b at) rest)
]

-- what follows where a word begins
next_here : (stand : Stand) (at : ℕ) (bytes : List ℕ) → IsAtWord stand bytes → IsNextWord (words stand at bytes) (word_at (take (word_length bytes) bytes) at) (words Inside (at + word_length bytes) (drop (word_length bytes) bytes))
unfolding words word_length
next_here stand at [] h = record { last = λ e. refl; more = λ n. absurd (n refl) }
next_here stand at (b ∷ bytes) h =
    let f : is_blank b ≡ false = begins stand b h in
    rw (h, f) record { last = λ e. absurd cc; more = λ n. word_here b at bytes }

pub next_is : (stand : Stand) (at count : ℕ) (bytes word others : List ℕ) (before : List TextWord) → words stand at bytes ≡ before → IsAtWord stand bytes → count ≡ word_length bytes → word ≡ take count bytes → others ≡ drop count bytes → IsNextWord before (word_at word at) (words Inside (at + count) others)
next_is stand at count bytes word others before e h c w o =
    subst (λ x. IsNextWord x (word_at word at) (words Inside (at + count) others)) e
    (subst (λ x. IsNextWord (words stand at bytes) (word_at x at) (words Inside (at + count) others)) (sym (w ∙ ap (λ k. take k bytes) c))
    (subst (λ x. IsNextWord (words stand at bytes) (word_at (take (word_length bytes) bytes) at) (words Inside (at + count) x)) (sym (o ∙ ap (λ k. drop k bytes) c))
    (subst (λ x. IsNextWord (words stand at bytes) (word_at (take (word_length bytes) bytes) at) (words Inside (at + x) (drop (word_length bytes) bytes))) (sym c) (next_here stand at bytes h))))
