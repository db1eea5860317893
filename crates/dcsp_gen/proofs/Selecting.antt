-- Selection in order, thing by thing, and how many pairs there are to select from.
use Rattle.std.proofs.Common.{◌≡◌, ℕ, zero, suc, ◌+◌, ◌-◌, ◌*◌, ◌≤◌, ◌<◌, Bool, true, false, not, List, [], ◌∷◌, ◌++◌, flat_map, length, refl, ap, ◌∙◌, append_assoc, arith, length-append, sym, Vec, Global}
use Rattle.std.specs.Prelude.{if◌then◌else◌}
use Rattle.std.specs.List.{range_with_len}
use Rattle.std.proofs.lemmas.List.{length-map}
use Rattle.std.proofs.Math.Nat.{mul-add, mul_comm}
use mathlib.Core.Bool.{beq}
use Rattle.rand_pcg.specs.Lcg.{Lcg}
use Rattle.rand_pcg.specs.Pcg.{pcg32}
use Rattle.abt_schedule.specs.Answers.{word_at}
use Rattle.dcsp_gen.specs.Lists.{lists_in}
use Rattle.dcsp_gen.specs.Problems.{pairs, pairs_of}
use Rattle.dcsp_gen.specs.Selection.{chooses, selected, selections, wanted_after, words_after}
use Rattle.dcsp_gen.specs.Binary.{value_pairs, values_with}

-- a thing is put behind those before it, where it is to be kept
pick : {X : Type 0} → (kept chosen : Bool) (list : List X) (x : X) (rest : List X)
    → (if beq chosen kept then list ++ x ∷ [] else list) ++ rest ≡ list ++ (if (if kept then chosen else not chosen) then x ∷ rest else rest)
pick true true list x rest = append_assoc list (x ∷ []) rest
pick true false list x rest = refl
pick false true list x rest = refl
pick false false list x rest = append_assoc list (x ∷ []) rest

-- one word is taken for one thing
pub one_selected : {X : Type 0} → (kept : Bool) (words new : Lcg) (word still : ℕ) (x : X) (rest : List X) (chosen : Bool) (after : ℕ) (list more : List X)
    → ◌≡◌ {A = ℕ × Lcg} (word, new) (pcg32 words) → chosen ≡ chooses word still (suc (length rest)) → after ≡ wanted_after chosen still
    → more ≡ (if beq chosen kept then list ++ x ∷ [] else list)
    → more ++ selected kept (word_at new) after rest ≡ list ++ selected kept (word_at words) still (x ∷ rest)
one_selected kept words new word still x rest chosen after list more drawn is_chosen is_after gained =
    let first : word ≡ (pcg32 words).0 = ap (λ (p : ℕ × Lcg). p.0) drawn in
    let left : new ≡ (pcg32 words).1 = ap (λ (p : ℕ × Lcg). p.1) drawn in
    let choice : chosen ≡ chooses (pcg32 words).0 still (suc (length rest)) = is_chosen ∙ ap (λ w. chooses w still (suc (length rest))) first in
    ap (λ z. z ++ selected kept (word_at new) after rest) gained
    ∙ pick kept chosen list x (selected kept (word_at new) after rest)
    ∙ ap (λ (g : Lcg). list ++ (if (if kept then chosen else not chosen) then x ∷ selected kept (word_at g) after rest else selected kept (word_at g) after rest)) left
    ∙ ap (λ n. list ++ (if (if kept then chosen else not chosen) then x ∷ selected kept (word_at (pcg32 words).1) n rest else selected kept (word_at (pcg32 words).1) n rest)) is_after
    ∙ ap (λ b. list ++ (if (if kept then b else not b) then x ∷ selected kept (word_at (pcg32 words).1) (wanted_after b still) rest else selected kept (word_at (pcg32 words).1) (wanted_after b still) rest)) choice

-- the words after it
pub one_word_less : (count : ℕ) (words new : Lcg) (word : ℕ) → ◌≡◌ {A = ℕ × Lcg} (word, new) (pcg32 words) → words_after count (word_at new) ≡ words_after (suc count) (word_at words)
one_word_less count words new word drawn = ap (λ (p : ℕ × Lcg). words_after count (word_at p.1)) drawn

-- ---- selections, one after another

pub once_more : (c d : ℕ) → suc c * d ≡ d + c * d
once_more c d =
    let turned = mul_comm (suc c) d in
    let one : suc c ≡ c + 1 = omega arith in
    let parts = ap (λ m. d * m) one ∙ mul-add d c 1 in
    let other = mul_comm d c in
    omega (arith, turned, parts, other)

-- the words after some, and then some more
words_further : (first second : ℕ) (words : ℕ → ℕ) → words_after second (words_after first words) ≡ words_after (first + second) words
words_further zero second words = let same : second ≡ zero + second = omega arith in ap (λ n. words_after n words) same
words_further (suc first) second words =
    let shape : suc (first + second) ≡ suc first + second = omega arith in words_further first second (λ k. words (suc k)) ∙ ap (λ n. words_after n words) shape

pub words_more : (done high : ℕ) (words : ℕ → ℕ) → words_after high (words_after (done * high) words) ≡ words_after ((done + 1) * high) words
words_more done high words =
    let one : suc done * high ≡ high + done * high = once_more done high in
    let next : done + 1 ≡ suc done = omega arith in
    let shape : done * high + high ≡ (done + 1) * high = rw next (omega (arith, one)) in words_further (done * high) high words ∙ ap (λ n. words_after n words) shape

pub selections_more : (kept : Bool) (words : ℕ → ℕ) (wanted high done : ℕ)
    → selections kept words wanted high (done + 1) ≡ selections kept words wanted high done ++ selected kept (words_after (done * high) words) wanted (range_with_len 1 high) ∷ []
selections_more kept words wanted high zero =
    let none : zero ≡ zero * high = omega arith in ap (λ n. selected kept (words_after n words) wanted (range_with_len 1 high) ∷ []) none
selections_more kept words wanted high (suc done) =
    let shape : suc done + 1 ≡ suc (done + 1) = omega arith in
    let more : high + done * high ≡ suc done * high = sym (once_more done high) in
    let first = selected kept words wanted (range_with_len 1 high) in
    ap (selections kept words wanted high) shape
    ∙ ap (λ (rest : List (List ℕ)). first ∷ rest) (selections_more kept (words_after high words) wanted high done)
    ∙ ap (λ (w : ℕ → ℕ). first ∷ selections kept (words_after high words) wanted high done ++ selected kept w wanted (range_with_len 1 high) ∷ [])
    (words_further high (done * high) words ∙ ap (λ n. words_after n words) more)

-- there are as many lists as selections
selected_lists : (kept : Bool) (words : ℕ → ℕ) (wanted high count : ℕ) → length (selections kept words wanted high count) ≡ count
selected_lists kept words wanted high zero = refl
selected_lists kept words wanted high (suc count) = ap suc (selected_lists kept (words_after high words) wanted high count)

pub lists_count : (lists : List (Vec ℕ Global)) (kept : Bool) (words : ℕ → ℕ) (wanted high count : ℕ) → lists_in lists ≡ selections kept words wanted high count → length lists ≡ count
lists_count lists kept words wanted high count e =
    sym (length-map lists (λ (v : Vec ℕ Global). v.items)) ∙ ap (λ (z : List (List ℕ)). length z) e ∙ selected_lists kept words wanted high count

-- ---- how many pairs there are

pub length_range : (low count : ℕ) → length (range_with_len low count) ≡ count
length_range low zero = refl
length_range low (suc count) = ap suc (length_range (low + 1) count)

-- lists that are not longer than 200 each
short_rows : {X : Type 0} → (f : ℕ → List X) (ns : List ℕ) → ((n : ℕ) → length (f n) ≤ 200) → length (flat_map f ns) ≤ 200 * length ns
short_rows f [] each = omega arith
short_rows f (n ∷ ns) each =
    let here = each n in
    let rest = short_rows f ns each in
    let both = length-append (f n) (flat_map f ns) in
    omega (arith, here, rest, both)

pub few_pairs : (n : ℕ) → n ≤ 200 → length (pairs n) < 2147483648
few_pairs n l =
    let short = short_rows (pairs_of n) (range_with_len 1 n) (λ first.
    let many = length-map {B = ℕ × ℕ} (range_with_len (first + 1) (n - first)) (λ second. (first, second)) in
    let count = length_range (first + 1) (n - first) in
    omega (arith, l, many, count))
    in
    omega (arith, l, short, length_range 1 n)

pub few_value_pairs : (n : ℕ) → n ≤ 100 → length (value_pairs n) < 2147483648
few_value_pairs n l =
    let short = short_rows (values_with n) (range_with_len 0 n) (λ first.
    let many = length-map {B = ℕ × ℕ} (range_with_len 0 n) (λ second. (first, second)) in
    let count = length_range 0 n in
    omega (arith, l, many, count))
    in
    omega (arith, l, short, length_range 0 n)
