-- The table of pairs that rows of bits stand for.
use Rattle.std.proofs.Common.{◌≡◌, ℕ, zero, suc, ◌+◌, ◌-◌, ◌<◌, ◌≤◌, inl, inr, List, [], ◌∷◌, map, length, get_or, set, cond, eqb, refl, sym, ◌∙◌, ap, arith, Bool, true, false, ◌&&◌, get_or-set_same, get_or-set_other}
use Rattle.std.proofs.lemmas.Bool.{cases_eq, cases_lt, eq-eqb, ne_eqb, both_ways}
use mathlib.Core.Bool.{beq}
use Rattle.std.proofs.lemmas.List.{get_or-map, get_or_past, get_or_default, set-get_or, length-map, length_push, get_or_push, get_or_append_left}
use Rattle.std.proofs.lemmas.List.Elements.{filter_agree}
use Rattle.dcsp_defs.specs.Words.{below}
use Rattle.abt_defs.specs.Network.{pairs}
use Rattle.abt_links.specs.PairTables.{PairTable, has_pair, members}
use Rattle.abt_links.specs.Marks.{Marks, is_set, marked, marked_pairs, row_at, IsCounted, table_of}
use Rattle.abt_links.proofs.Rows.{IsTurned, none_set, put_in, taken_out}

length-below : (n : ℕ) → length (below n) ≡ n
length-below zero = refl
length-below (suc n) = let ih : length (below n) ≡ n = length-below n in omega (arith, length_push (below n) n)

get-below : (n i : ℕ) → i < n → get_or (below n) i 0 ≡ i
get-below zero i h = absurd (omega arith)
get-below (suc n) i h = elim (cases_eq i n) [
  | inl last ↦ get_or_push (below n) n 0 i (omega (arith, length-below n)) ∙ sym last
  | inr other ↦ get_or_append_left (below n) (n ∷ []) 0 i (omega (arith, length-below n)) ∙ get-below n i (omega arith)
]

-- the pairs of a sender
abbrev row_of : ℕ → List ℕ → List Bool
row_of n words = map (is_set words) (below n)

row-bits : (n : ℕ) (words : List ℕ) (i : ℕ) → ((j : ℕ) → n ≤ j → is_set words j ≡ false) → get_or (row_of n words) i false ≡ is_set words i
row-bits n words i none = elim (cases_lt i n) [
  | inl less ↦ get_or-map (is_set words) (below n) i 0 false (omega (arith, length-below n)) ∙ ap (is_set words) (get-below n i less)
  | inr past ↦ get_or_past (row_of n words) i false (omega (arith, length-map (below n) (is_set words), length-below n)) ∙ sym (none i past)
]

module _ (marks : Marks) (sums : List ℕ) (counted : IsCounted marks sums) where
  pub has-table : (k i : ℕ) → has_pair (table_of marks) k i ≡ marked marks k i
  has-table k i = elim (cases_lt k marks.agents) [
    | inl less ↦
        ap (λ l. get_or l i false) (get_or-map (row_of marks.agents) marks.rows k [] [] (omega (arith, counted.long)))
        ∙ row-bits marks.agents (row_at marks k) i (counted.beyond k)
    | inr past ↦
        ap (λ l. get_or l i false) (get_or_past (map (row_of marks.agents) marks.rows) k [] (omega (arith, counted.long, length-map marks.rows (row_of marks.agents))))
        ∙ sym (ap (λ (l : List ℕ). is_set l i) (get_or_past marks.rows k [] (omega (arith, counted.long))) ∙ none_set i)
  ]

  pub members-table : members (table_of marks) ≡ marked_pairs marks
  members-table = filter_agree (λ (x : ℕ × ℕ). has_pair (table_of marks) x.0 x.1) (λ (x : ℕ × ℕ). marked marks x.0 x.1) (λ x. has-table x.0 x.1) (pairs marks.agents)

  -- a pair that is in is of agents
  pub inside-table : (k i : ℕ) → marked marks k i ≡ true → (k < marks.agents) × (i < marks.agents)
  inside-table k i holds = (
    elim (cases_lt k marks.agents) [
      | inl less ↦ less
      | inr past ↦ absurd (both_ways (marked marks k i) (ap (λ (l : List ℕ). is_set l i) (get_or_past marks.rows k [] (omega (arith, counted.long))) ∙ none_set i) holds)
    ],
    elim (cases_lt i marks.agents) [ inl less ↦ less | inr past ↦ absurd (both_ways (marked marks k i) (counted.beyond k i past) holds) ],
  )

-- one bit of one row changes
pub set-marks : (agents : ℕ) (rows : List (List ℕ)) (from to : ℕ) (row new : List ℕ) (b : Bool) → from < length rows → row ≡ get_or rows from [] → IsTurned row new to b
    → (k i : ℕ) → marked (record { agents = agents; rows = set rows from new }) k i ≡ cond (eqb k from && eqb i to) b (marked (record { agents = agents; rows = rows }) k i)
set-marks agents rows from to row new b inside read turned k i = elim (cases_eq k from) [
  | inl here ↦
      ap (λ j. is_set (get_or (set rows from new) j []) i) here
      ∙ ap (λ (l : List ℕ). is_set l i) (get_or-set_same rows from new [] inside)
      ∙ turned.marks i
      ∙ ap (λ (l : List ℕ). cond (eqb i to) b (is_set l i)) (read ∙ ap (λ j. get_or rows j []) (sym here))
      ∙ ap (λ c. cond (c && eqb i to) b (is_set (get_or rows k []) i)) (sym (eq-eqb k from here))
  | inr other ↦
      ap (λ (l : List ℕ). is_set l i) (get_or-set_other rows from k new [] other)
      ∙ ap (λ c. cond (c && eqb i to) b (is_set (get_or rows k []) i)) (sym (ne_eqb k from other))
]

-- the table is so already
pub same-marks : (marks : Marks) (from to : ℕ) (b : Bool) → marked marks from to ≡ b → (k i : ℕ) → marked marks k i ≡ cond (eqb k from && eqb i to) b (marked marks k i)
same-marks marks from to b is k i = elim (cases_eq k from) [
  | inl here ↦ elim (cases_eq i to) [
    | inl there ↦
        ap (λ j. marked marks j i) here ∙ ap (λ j. marked marks from j) there ∙ is
        ∙ ap (λ c. cond (c && true) b (marked marks k i)) (sym (eq-eqb k from here))
        ∙ ap (λ c. cond (eqb k from && c) b (marked marks k i)) (sym (eq-eqb i to there))
    | inr other ↦
        ap (λ c. cond (c && false) b (marked marks k i)) (sym (eq-eqb k from here))
        ∙ ap (λ c. cond (eqb k from && c) b (marked marks k i)) (sym (ne_eqb i to other))
  ]
  | inr other ↦ ap (λ c. cond (c && eqb i to) b (marked marks k i)) (sym (ne_eqb k from other))
]

-- what holds of the bits holds of the table
pub set-table : (old new : Marks) (sums sums' : List ℕ) (from to : ℕ) (b : Bool) → IsCounted old sums → IsCounted new sums'
    → ((k i : ℕ) → marked new k i ≡ cond (eqb k from && eqb i to) b (marked old k i))
    → (k i : ℕ) → has_pair (table_of new) k i ≡ cond (eqb k from && eqb i to) b (has_pair (table_of old) k i)
set-table old new sums sums' from to b counted counted' turned k i =
    has-table new sums' counted' k i ∙ turned k i ∙ ap (λ x. cond (eqb k from && eqb i to) b x) (sym (has-table old sums counted k i))

-- equal answers are equal
pub alike : (a b : Bool) → beq a b ≡ true → a ≡ b
alike true true h = refl
alike true false h = sym h
alike false true h = h
alike false false h = refl

-- ---- as the code has it

module _ (marks : Marks) (sums : List ℕ) (from to : ℕ) (row : List ℕ) (counted : IsCounted marks sums) (sender : from < marks.agents) (receiver : to < marks.agents) (read : row ≡ get_or marks.rows from row) (table : PairTable) (shown : table_of marks ≡ table) where
  row_is : row ≡ get_or marks.rows from []
  row_is = read ∙ get_or_default marks.rows from row [] (omega (arith, counted.long))

  -- the marks with another row
  abbrev pub with_row : List ℕ → Marks
  with_row new = record { agents = marks.agents; rows = set marks.rows from new }

  -- the row stays
  pub set-same : (b : Bool) → is_set row to ≡ b → (k i : ℕ) → has_pair (table_of (with_row row)) k i ≡ cond (eqb k from && eqb i to) b (has_pair table k i)
  set-same b is k i =
      ap (λ rows. has_pair (table_of (record { agents = marks.agents; rows = rows })) k i) (ap (set marks.rows from) read ∙ set-get_or marks.rows from row)
      ∙ set-table marks marks sums sums from to b counted counted (same-marks marks from to b (ap (λ (l : List ℕ). is_set l to) (sym row_is) ∙ is)) k i
      ∙ ap (λ t. cond (eqb k from && eqb i to) b (has_pair t k i)) shown

  turned-table : (new : List ℕ) (sums' : List ℕ) (b : Bool) → IsTurned row new to b → IsCounted (with_row new) sums' → (k i : ℕ) → has_pair (table_of (with_row new)) k i ≡ cond (eqb k from && eqb i to) b (has_pair table k i)
  turned-table new sums' b turned counted' k i =
      set-table marks (with_row new) sums sums' from to b counted counted' (set-marks marks.agents marks.rows from to row new b (omega (arith, counted.long)) row_is turned) k i
      ∙ ap (λ t. cond (eqb k from && eqb i to) b (has_pair t k i)) shown

  -- the pair goes in
  pub set-in : (new : List ℕ) → IsTurned row new to true → is_set row to ≡ false → (b : Bool) → b ≡ true → (k i : ℕ) → has_pair (table_of (with_row new)) k i ≡ cond (eqb k from && eqb i to) b (has_pair table k i)
  set-in new turned off b is k i =
      turned-table new (set sums from (get_or sums from 0 + 1)) true turned (put_in marks sums from to row counted sender receiver read new turned off) k i
      ∙ ap (λ c. cond (eqb k from && eqb i to) c (has_pair table k i)) (sym is)

  -- the pair goes out
  pub set-out : (new : List ℕ) → IsTurned row new to false → is_set row to ≡ true → (b : Bool) → b ≡ false → (k i : ℕ) → has_pair (table_of (with_row new)) k i ≡ cond (eqb k from && eqb i to) b (has_pair table k i)
  set-out new turned on b is k i =
      turned-table new (set sums from (get_or sums from 0 - 1)) false turned (taken_out marks sums from to row counted sender receiver read new turned on) k i
      ∙ ap (λ c. cond (eqb k from && eqb i to) c (has_pair table k i)) (sym is)
