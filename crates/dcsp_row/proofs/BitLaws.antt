-- One mark among the bits of some words.
use Rattle.std.proofs.Common.{◌≡◌, ◌≢◌, ℕ, ◌*◌, ◌/◌, ◌%◌, ◌<◌, ◌≤◌, ◌==◌, Bool, false, List, length, get_or, set, sym, ap, ◌∙◌, arith, inl, inr}
use Rattle.std.specs.Int.{bit_at}
use Rattle.std.proofs.lemmas.Bool.{cases_eq, cases_lt}
use Rattle.std.proofs.lemmas.List.{length-set, get_or-set_same, get_or-set_other, ext_get_or}
use Rattle.std.proofs.lemmas.List.FromFn.{get_or-map-range_with_len, length-map-range_with_len}
use Rattle.std.proofs.lemmas.Nat.Bits.{bit_at-zero}
use Rattle.std.proofs.Math.ListN.{get_or-eq_default}
use Rattle.dcsp_row.specs.Bits.{has_bit, marks_of}

-- the mark of a place
pub mark_at : (size : ℕ) (words : List ℕ) (place : ℕ) → place < size → get_or (marks_of size words) place false ≡ has_bit words place
mark_at size words place within = get_or-map-range_with_len (has_bit words) 0 size place place false within (omega arith)

pub size_of_marks : (size : ℕ) (words : List ℕ) → length (marks_of size words) ≡ size
size_of_marks size words = length-map-range_with_len (has_bit words) 0 size

module _ (size place word : ℕ) (words : List ℕ) (mark : Bool) (within : place < size) (room : size ≤ 64 * length words)
    (here : (bit_at word (place % 64) == 1) ≡ mark) (others : (other : ℕ) → other < 64 → other ≢ place % 64 → bit_at word other ≡ bit_at (get_or words (place / 64) 0) other) where
  inside : place / 64 < length words
  inside = omega arith

  abbrev pub now : List ℕ
  now = set words (place / 64) word

  bit_here : has_bit now place ≡ mark
  bit_here = ap (λ w. bit_at w (place % 64) == 1) (get_or-set_same words (place / 64) word 0 inside) ∙ here

  bit_there : (k : ℕ) → k ≢ place → has_bit now k ≡ has_bit words k
  bit_there k apart = elim (cases_eq (k / 64) (place / 64)) [
    | inl same ↦
        let other : k % 64 ≢ place % 64 = λ e. apart (omega (arith, e, same)) in
        ap (λ n. bit_at (get_or now n 0) (k % 64) == 1) same ∙ ap (λ w. bit_at w (k % 64) == 1) (get_or-set_same words (place / 64) word 0 inside)
        ∙ ap (λ b. b == 1) (others (k % 64) (omega arith) other) ∙ sym (ap (λ n. bit_at (get_or words n 0) (k % 64) == 1) same)
    | inr other ↦ ap (λ w. bit_at w (k % 64) == 1) (get_or-set_other words (place / 64) (k / 64) word 0 other)
  ]

  -- the word with the mark stands for the marks with it
  pub mark_put : marks_of size now ≡ set (marks_of size words) place mark
  mark_put =
      let old : List Bool = marks_of size words in
      let for_place : place < length old = omega (arith, size_of_marks size words) in
      ext_get_or false (marks_of size now) (set old place mark) (size_of_marks size now ∙ sym (length-set old place mark ∙ size_of_marks size words))
      (λ k l.
      let below : k < size = omega (arith, size_of_marks size now) in
      elim (cases_eq k place) [
        | inl same ↦ mark_at size now k below ∙ ap (has_bit now) same ∙ bit_here ∙ sym (ap (λ n. get_or (set old place mark) n false) same ∙ get_or-set_same old place mark false for_place)
        | inr apart ↦ mark_at size now k below ∙ bit_there k apart ∙ sym (get_or-set_other old place k mark false apart ∙ mark_at size words k below)
      ])

-- no bit, no mark
pub no_mark : (size : ℕ) (words : List ℕ) (place : ℕ) → ((block : ℕ) → get_or words block 0 ≡ 0) → get_or (marks_of size words) place false ≡ false
no_mark size words place zeros = elim (cases_lt place size) [
  | inl within ↦ mark_at size words place within ∙ ap (λ w. bit_at w (place % 64) == 1) (zeros (place / 64)) ∙ ap (λ b. b == 1) (bit_at-zero (place % 64))
  | inr past ↦ get_or-eq_default (marks_of size words) false (let all = size_of_marks size words in omega arith)
]

-- the same bit, the same mark
pub same_marks : (size more : ℕ) (words others : List ℕ) (row other : List Bool) → marks_of size words ≡ row → marks_of more others ≡ other → length other ≡ length row → (k : ℕ) → k < length row → has_bit words k ≡ has_bit others k
    → get_or row k false ≡ get_or other k false
same_marks size more words others row other e f same k l has =
    let within : k < size = omega (arith, l, size_of_marks size words, ap length e) in
    let inside : k < more = omega (arith, l, same, size_of_marks more others, ap length f) in
    sym (ap (λ (r : List Bool). get_or r k false) e) ∙ mark_at size words k within ∙ has ∙ sym (mark_at more others k inside) ∙ ap (λ (r : List Bool). get_or r k false) f
