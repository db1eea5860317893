-- Rows of marks that are made and changed.
use Rattle.std.proofs.Common.{◌≡◌, ◌≢◌, ℕ, zero, suc, ◌+◌, ◌-◌, ◌*◌, ◌/◌, ◌%◌, ◌^◌, ◌<◌, ◌≤◌, inl, inr, List, [], ◌∷◌, ◌++◌, length, get_or, set, cond, eqb, sum, take, min, bit_and, replicate, refl, sym, ◌∙◌, ap, subst, arith, Bool, true, false, Some, slice_get}
use Rattle.std.specs.Prelude.{if◌then◌else◌}
use mathlib.Core.Bool.{beq}
use Rattle.std.specs.Int.{bit_at}
use Rattle.std.specs.Int.Bits.{mask_lt}
use Rattle.std.specs.Int.Count.{ones}
use Rattle.std.proofs.lemmas.Nat.{pow_below}
use Rattle.std.proofs.lemmas.Nat.Bits.{bit_at-zero, bit_at-lt, bit_at_and, bit_at_ones}
use Rattle.std.proofs.lemmas.Bool.{cases_eq, cases_lt, cases_Bool, eq-eqb, ne_eqb, both_ways}
use Rattle.std.proofs.lemmas.List.{length-set, get_or-set_same, get_or-set_other, get_or_default, get_or_past, length-replicate, get_or-replicate, length_push, get_or_push, get_or_append_left, get_or_read}
use Rattle.dcsp_defs.specs.Words.{sum_below}
use Rattle.abt_links.specs.Marks.{Marks, is_set, marked, marked_pairs, rank, AreUsed, IsCounted, IsFresh, row_at}
use Rattle.abt_links.proofs.Ranks.{rank_on, rank_off, rank_up, sum_is, count_pairs, bits_of, ones_rank, rank_word, sums_to, nth_pair}

-- ---- bounds

pub rank_le : (p : ℕ → Bool) (n : ℕ) → rank p n ≤ n
rank_le p zero = omega arith
rank_le p (suc n) =
    let ih : rank p n ≤ n = rank_le p n in
    let more : suc n ≡ n + 1 = omega arith in
    elim (cases_Bool (p n)) [ inl on ↦ omega (arith, ap (rank p) more, rank_on p n on) | inr off ↦ omega (arith, ap (rank p) more, rank_off p n off) ]

pub sum_below_le : (f : ℕ → ℕ) (n : ℕ) → ((k : ℕ) → f k ≤ 4096) → sum_below f n ≤ 4096 * n
sum_below_le f zero h = omega arith
sum_below_le f (suc n) h = let ih : sum_below f n ≤ 4096 * n = sum_below_le f n h in let one : f n ≤ 4096 = h n in omega arith

pub few_pairs : (marks : Marks) (sums : List ℕ) → IsCounted marks sums → sum sums < 4294967295
few_pairs marks sums counted =
    let le : sum_below (λ k. rank (marked marks k) marks.agents) marks.agents ≤ 4096 * marks.agents = sum_below_le (λ k. rank (marked marks k) marks.agents) marks.agents (λ k. omega (arith, rank_le (marked marks k) marks.agents, counted.small)) in
    omega (arith, sum_is marks sums counted, count_pairs marks, counted.small)

-- ---- the ones below a bit

pub same_below : (p q : ℕ → Bool) (n : ℕ) → ((i : ℕ) → i < n → p i ≡ q i) → rank p n ≡ rank q n
same_below p q zero h = refl
same_below p q (suc n) h = ap (λ k. k + cond (p n) 1 0) (same_below p q n (λ i less. h i (omega arith))) ∙ ap (λ b. rank q n + cond b 1 0) (h n (omega arith))

masked_bit : (w j i : ℕ) → i < j → bits_of (bit_and w (2 ^ j - 1)) i ≡ bits_of w i
masked_bit w j i less =
    let one : bit_at (2 ^ j - 1) i ≡ 1 = bit_at_ones j i less in
    let low : bit_at w i < 2 = bit_at-lt w i in
    let least : min (bit_at w i) 1 ≡ bit_at w i = omega arith in
    ap (λ b. eqb b 1) (bit_at_and w (2 ^ j - 1) i ∙ ap (min (bit_at w i)) one ∙ least)

low_ones : (w j : ℕ) → ones (bit_and w (2 ^ j - 1)) ≡ rank (bits_of w) j
low_ones w j = ones_rank j (bit_and w (2 ^ j - 1)) (mask_lt w j) ∙ same_below (bits_of (bit_and w (2 ^ j - 1))) (bits_of w) j (masked_bit w j)

pub masked_ones : (w j : ℕ) → j < 64 → ones (bit_and w (1 * 2 ^ j % 2 ^ 64 - 1)) ≡ rank (bits_of w) j
masked_ones w j less =
    let mask : 1 * 2 ^ j % 2 ^ 64 ≡ 2 ^ j = omega (arith, pow_below j 64 less) in
    ap (λ m. ones (bit_and w (m - 1))) mask ∙ low_ones w j

-- a word has at most 64 ones
pub few_ones : (w k : ℕ) → k ≡ 64 → w < 2 ^ k → ones w ≤ 64
few_ones w k is fits = omega (arith, ones_rank k w fits, rank_le (bits_of w) k)

-- one word more
pub words_more : (words : List ℕ) (place before k : ℕ) → k ≡ 64 → get_or words place 0 < 2 ^ k → before ≡ rank (is_set words) (64 * place) → before + ones (get_or words place 0) ≡ rank (is_set words) (64 * (place + 1))
words_more words place before k is fits inv =
    let next : 64 * (place + 1) ≡ 64 * place + k = omega arith in
    omega (arith, ap (rank (is_set words)) next, rank_word words place k (omega arith), ones_rank k (get_or words place 0) fits)

-- the last word's ones
pub last_word : (words : List ℕ) (number before last : ℕ) → last ≡ number / 64 → before ≡ rank (is_set words) (64 * last) → before + rank (bits_of (get_or words last 0)) (number % 64) ≡ rank (is_set words) number
last_word words number before last is inv =
    let at : number ≡ 64 * last + number % 64 = omega arith in
    omega (arith, ap (rank (is_set words)) at, rank_word words last (number % 64) (omega arith))

-- ---- one number goes in or out

pub one_goes_in : (p q : ℕ → Bool) (to n : ℕ) → to < n → p to ≡ false → q to ≡ true → ((i : ℕ) → i ≢ to → p i ≡ q i) → rank q n ≡ rank p n + 1
one_goes_in p q to zero less off on same = absurd (omega arith)
one_goes_in p q to (suc n) less off on same =
    let more : suc n ≡ n + 1 = omega arith in
    elim (cases_eq to n) [
      | inl here ↦
          let p_off : p n ≡ false = subst (λ i. p i ≡ false) here off in
          let q_on : q n ≡ true = subst (λ i. q i ≡ true) here on in
          omega (arith, ap (rank p) more, ap (rank q) more, rank_off p n p_off, rank_on q n q_on, same_below p q n (λ i below. same i (λ e. absurd (omega arith))))
      | inr other ↦
          let alike : p n ≡ q n = same n (λ e. other (sym e)) in
          let ih : rank q n ≡ rank p n + 1 = one_goes_in p q to n (omega arith) off on same in
          elim (cases_Bool (q n)) [
            | inl q_on ↦ omega (arith, ap (rank p) more, ap (rank q) more, rank_on q n q_on, rank_on p n (alike ∙ q_on))
            | inr q_off ↦ omega (arith, ap (rank p) more, ap (rank q) more, rank_off q n q_off, rank_off p n (alike ∙ q_off))
          ]
    ]

-- a row whose number `to` is now so
pub record IsTurned (old new : List ℕ) (to : ℕ) (is_in : Bool) : Type 0 where
  pub marks : (i : ℕ) → is_set new i ≡ (if eqb i to then is_in else is_set old i)
  pub long : length new ≡ length old

pub turned_here : (old new : List ℕ) (to : ℕ) (is_in : Bool) → IsTurned old new to is_in → is_set new to ≡ is_in
turned_here old new to is_in t = t.marks to ∙ ap (λ b. if b then is_in else is_set old to) (eq-eqb to to refl)

pub turned_other : (old new : List ℕ) (to i : ℕ) (is_in : Bool) → IsTurned old new to is_in → i ≢ to → is_set new i ≡ is_set old i
turned_other old new to i is_in t other = t.marks i ∙ ap (λ b. if b then is_in else is_set old i) (ne_eqb i to other)

-- ---- the number of a pair

pub number-small : (marks : Marks) (sums : List ℕ) (from to : ℕ) → IsCounted marks sums → from < marks.agents → sum (take from sums) + rank (marked marks from) to ≤ 16777216 + to
number-small marks sums from to counted sender =
    let le : sum_below (λ k. rank (marked marks k) marks.agents) from ≤ 4096 * from = sum_below_le (λ k. rank (marked marks k) marks.agents) from (λ k. omega (arith, rank_le (marked marks k) marks.agents, counted.small)) in
    omega (arith, sums_to marks sums counted from (omega arith), counted.small, rank_le (marked marks from) to)

pub number-is : (marks : Marks) (sums : List ℕ) (from to : ℕ) → IsCounted marks sums → from < marks.agents → to < marks.agents → marked marks from to ≡ true
    → slice_get (marked_pairs marks) (sum (take from sums) + rank (marked marks from) to) ≡ Some (from, to)
number-is marks sums from to counted sender receiver holds =
    nth_pair marks from to (sum (take from sums) + rank (marked marks from) to) sender receiver holds
    (ap (λ n. n + rank (marked marks from) to) (sums_to marks sums counted from (omega arith)))

module _ (marks : Marks) (sums : List ℕ) (from to : ℕ) (row : List ℕ) (counted : IsCounted marks sums) (sender : from < marks.agents) (receiver : to < marks.agents) (read : row ≡ get_or marks.rows from row) where
  abbrev pub row_is_at : row ≡ row_at marks from
  row_is_at = read ∙ get_or_default marks.rows from row [] (omega (arith, counted.long))

  pub is_counted : is_set row to ≡ true → 0 < get_or sums from 0
  is_counted on =
      let at : is_set (row_at marks from) to ≡ true = subst (λ (l : List ℕ). is_set l to ≡ true) row_is_at on in
      omega (arith, counted.counts from sender, rank_on (marked marks from) to at, rank_up (marked marks from) (to + 1) marks.agents (omega arith))

  -- the new row and the new count
  module _ (new : List ℕ) (is_in : Bool) (turned : IsTurned row new to is_in) (n : ℕ) (count : n ≡ rank (is_set new) marks.agents) where
    abbrev pub after : Marks
    after = record { agents = marks.agents; rows = set marks.rows from new }

    inside : from < length marks.rows
    inside = omega (arith, counted.long)

    row_here : row_at after from ≡ new
    row_here = get_or-set_same marks.rows from new [] inside

    row_other : (k : ℕ) → k ≢ from → row_at after k ≡ row_at marks k
    row_other k other = get_or-set_other marks.rows from k new [] other

    pub turned-counted : IsCounted after (set sums from n)
    turned-counted = record {
      long = length-set marks.rows from new ∙ counted.long;
      small = counted.small;
      sums_long = length-set sums from n ∙ counted.sums_long;
      room = λ k less. elim (cases_eq k from) [
        | inl here ↦ omega (arith, ap (λ j. length (row_at after j)) here, ap length row_here, turned.long, ap length row_is_at, counted.room from sender)
        | inr other ↦ omega (arith, ap length (row_other k other), counted.room k less)
      ];
      short = λ k less. elim (cases_eq k from) [
        | inl here ↦ omega (arith, ap (λ j. length (row_at after j)) here, ap length row_here, turned.long, ap length row_is_at, counted.short from sender)
        | inr other ↦ omega (arith, ap length (row_other k other), counted.short k less)
      ];
      beyond = λ k i past. elim (cases_eq k from) [
        | inl here ↦
            ap (λ j. is_set (row_at after j) i) here ∙ ap (λ (l : List ℕ). is_set l i) row_here
            ∙ turned_other row new to i is_in turned (λ e. absurd (omega arith))
            ∙ ap (λ (l : List ℕ). is_set l i) row_is_at
            ∙ counted.beyond from i past
        | inr other ↦ ap (λ (l : List ℕ). is_set l i) (row_other k other) ∙ counted.beyond k i past
      ];
      counts = λ k less. elim (cases_eq k from) [
        | inl here ↦
            ap (λ j. get_or (set sums from n) j 0) here ∙ get_or-set_same sums from n 0 (omega (arith, counted.sums_long)) ∙ count
            ∙ ap (λ (l : List ℕ). rank (is_set l) marks.agents) (sym row_here)
            ∙ ap (λ j. rank (is_set (row_at after j)) marks.agents) (sym here)
        | inr other ↦
            get_or-set_other sums from k n 0 other ∙ counted.counts k less
            ∙ ap (λ (l : List ℕ). rank (is_set l) marks.agents) (sym (row_other k other))
      ];
    }

  count_at : get_or sums from 0 ≡ rank (is_set row) marks.agents
  count_at = counted.counts from sender ∙ ap (λ (l : List ℕ). rank (is_set l) marks.agents) (sym row_is_at)

  pub put_in : (new : List ℕ) → IsTurned row new to true → is_set row to ≡ false → IsCounted (record { agents = marks.agents; rows = set marks.rows from new }) (set sums from (get_or sums from 0 + 1))
  put_in new turned off = turned-counted new true turned (get_or sums from 0 + 1)
      (let more : rank (is_set new) marks.agents ≡ rank (is_set row) marks.agents + 1 =
      one_goes_in (is_set row) (is_set new) to marks.agents receiver off (turned_here row new to true turned) (λ i other. sym (turned_other row new to i true turned other)) in
      omega (arith, count_at))

  pub taken_out : (new : List ℕ) → IsTurned row new to false → is_set row to ≡ true → IsCounted (record { agents = marks.agents; rows = set marks.rows from new }) (set sums from (get_or sums from 0 - 1))
  taken_out new turned on = turned-counted new false turned (get_or sums from 0 - 1)
      (let more : rank (is_set row) marks.agents ≡ rank (is_set new) marks.agents + 1 =
      one_goes_in (is_set new) (is_set row) to marks.agents receiver (turned_here row new to false turned) on (λ i other. turned_other row new to i false turned other) in
      omega (arith, count_at))

-- the row is not as it is to be
pub off_is : (a b : Bool) → beq a b ≡ false → b ≡ true → a ≡ false
off_is true true h e = absurd (both_ways true h refl)
off_is true false h e = sym e
off_is false b h e = refl

pub on_is : (a b : Bool) → beq a b ≡ false → b ≡ false → a ≡ true
on_is true b h e = refl
on_is false true h e = sym e
on_is false false h e = absurd (both_ways true h refl)

-- ---- no number yet

pub no_rank : (p : ℕ → Bool) (n : ℕ) → ((i : ℕ) → p i ≡ false) → rank p n ≡ 0
no_rank p zero h = refl
no_rank p (suc n) h = let more : suc n ≡ n + 1 = omega arith in omega (arith, ap (rank p) more, no_rank p n h, rank_off p n (h n))

pub none_set : (i : ℕ) → is_set [] i ≡ false
none_set i = ap (λ b. eqb b 1) (bit_at-zero (i % 64))

-- each of the rows is fresh
pub record AllFresh (bound n : ℕ) (rows : List (List ℕ)) : Type 0 where
  pub long : length rows ≡ n
  pub each : (k : ℕ) → k < n → IsFresh bound (get_or rows k [])

pub fresh_more : (bound n : ℕ) (rows : List (List ℕ)) (row : List ℕ) → AllFresh bound n rows → IsFresh bound row → AllFresh bound (n + 1) (rows ++ row ∷ [])
fresh_more bound n rows row all fresh = record {
  long = omega (arith, length_push rows row, all.long);
  each = λ k less. elim (cases_eq k n) [
    | inl here ↦ subst (IsFresh bound) (sym (get_or_push rows row [] k (omega (arith, all.long)))) fresh
    | inr other ↦ subst (IsFresh bound) (sym (get_or_append_left rows (row ∷ []) [] k (omega (arith, all.long)))) (all.each k (omega arith))
  ];
}

pub none_fresh : (bound : ℕ) → AllFresh bound 0 []
none_fresh bound = record { long = refl; each = λ k less. absurd (omega arith) }

pub fresh_none : (agents : ℕ) (rows : List (List ℕ)) → AllFresh agents agents rows → (k i : ℕ) → marked (record { agents = agents; rows = rows }) k i ≡ false
fresh_none agents rows all k i = elim (cases_lt k agents) [
  | inl less ↦ (all.each k less).none i
  | inr past ↦ ap (λ (l : List ℕ). is_set l i) (get_or_past rows k [] (omega (arith, all.long))) ∙ none_set i
]

pub fresh-counted : (agents : ℕ) (rows : List (List ℕ)) → agents ≤ 4096 → AllFresh agents agents rows → IsCounted (record { agents = agents; rows = rows }) (replicate agents 0)
fresh-counted agents rows small all = record {
  long = all.long;
  small = small;
  sums_long = length-replicate {A = ℕ} agents 0;
  room = λ k less. (all.each k less).room;
  short = λ k less. (all.each k less).short;
  beyond = λ k i past. fresh_none agents rows all k i;
  counts = λ k less. get_or-replicate agents k 0 0 less ∙ sym (no_rank (marked (record { agents = agents; rows = rows }) k) agents (fresh_none agents rows all k));
}

-- ---- which words have numbers

-- a word that stays with some number, in a row of which it is known
pub kept-used : (words : List ℕ) (used place word old : ℕ) → AreUsed words used → place < length words → old ≡ get_or words place old → word ≤ old → word ≢ 0 → AreUsed (set words place word) used
kept-used words used place word old are inside read less some = record {
  short = omega (arith, length-set words place word, are.short);
  none = λ several p within off.
      let within' : p < length words = omega (arith, length-set words place word) in
      let none : get_or words p 0 ≡ 0 = are.none (omega (arith, length-set words place word, several)) p within' off in
      elim (cases_eq p place) [
        | inl here ↦
            let was : old ≡ 0 = get_or_read words place old inside read 0 ∙ ap (λ k. get_or words k 0) (sym here) ∙ none in
            absurd (some (omega (arith, less, was)))
        | inr other ↦ get_or-set_other words place p word 0 other ∙ none
      ];
}
