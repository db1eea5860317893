-- Texts that take a word for each item.
use Rattle.std.proofs.Common.{◌≡◌, ℕ, List, [], ◌∷◌, ◌++◌, ap, ◌∙◌, append_assoc}
use Rattle.rand_pcg.specs.Lcg.{Lcg}
use Rattle.rand_pcg.specs.Pcg.{pcg32}
use Rattle.abt_schedule.specs.Answers.{word_at}
use Rattle.dcsp_gen.specs.Words.{with_words, TakesWords}

-- one word, for one item
pub one_word : {X : Type 0} (make : ℕ → X → List ℕ) (text new : List ℕ) (words left : Lcg) (word : ℕ) (x : X)
    → ◌≡◌ {A = ℕ × Lcg} (word, left) (pcg32 words) → new ≡ text ++ make word x → TakesWords make (x ∷ []) text words new left
one_word make text new words left word x drawn gained =
    let first : word ≡ (pcg32 words).0 = ap (λ (p : ℕ × Lcg). p.0) drawn in
    let rest : left ≡ (pcg32 words).1 = ap (λ (p : ℕ × Lcg). p.1) drawn in
    λ later.
    ap (λ (g : Lcg). new ++ with_words make (word_at g) later) rest
    ∙ ap (λ (t : List ℕ). t ++ with_words make (word_at (pcg32 words).1) later) (gained ∙ ap (λ (w : ℕ). text ++ make w x) first)
    ∙ append_assoc text (make (pcg32 words).0 x) (with_words make (word_at (pcg32 words).1) later)
