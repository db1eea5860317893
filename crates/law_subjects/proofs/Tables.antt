-- The tables of a random binary problem: how many there are, how large they are, and that their numbers are small.
use Rattle.std.proofs.Common.{◌≡◌, ℕ, suc, ◌+◌, ◌-◌, ◌*◌, ◌<◌, ◌≤◌, ◌^◌, Bool, true, false, not, List, [], ◌∷◌, ◌++◌, flat_map, length, sum_by, codes, refl, sym, ap, ◌∙◌, mul-le-mul, arith}
use Rattle.std.specs.Prelude.{nat_le, ◌&&◌, if◌then◌else◌}
use Rattle.std.specs.List.{range_with_len, AllByRecursion}
use Rattle.std.proofs.lemmas.Bool.Decides.{nat_tests}
use Rattle.std.proofs.lemmas.List.Sums.{sum_by-append}
use Rattle.dcsp_defs.proofs.Lists.{and_left, and_right}
use Rattle.dcsp_rule.specs.Rules.{size_of}
use Rattle.dcsp_gen.specs.Problems.{pairs}
use Rattle.dcsp_gen.specs.Selection.{chooses, selected, wanted_after, words_after}
use Rattle.dcsp_gen.specs.Binary.{value_pairs, values_with, table_line, table_lines, sizes_fit}
use Rattle.dcsp_gen.proofs.Selecting.{once_more}
use Rattle.dcsp_gen.proofs.Choosing.{exact, many_variables, many_values}
use Rattle.law_subjects.specs.Lines.{Table, tables, binary_tables}
use Rattle.law_subjects.specs.Laws.{HasSmallEntries, HasSmallNumbers, lines_text}
use Rattle.law_subjects.specs.Problems.{rules_of, IsConstraint}
use Rattle.law_subjects.proofs.Lists.{all_weaker, all_map, all_flat_map, all_range}
use Rattle.law_subjects.proofs.Pairs.{IsPair, are_pairs}
use Rattle.law_subjects.proofs.Steps.{many_entries}

-- what holds of each thing holds of each that is selected
pub all_selected : {X : Type 0} (P : X → Type 0) (kept : Bool) (words : ℕ → ℕ) (wanted : ℕ) (xs : List X) → AllByRecursion P xs → AllByRecursion P (selected kept words wanted xs)
all_selected P kept words wanted [] h = tt
all_selected {X = X} P kept words wanted (x ∷ xs) h =
    let chosen = chooses (words 0) wanted (suc (length xs)) in
    picked (selected kept (λ k. words (suc k)) (wanted_after chosen wanted) xs) (all_selected P kept (λ k. words (suc k)) (wanted_after chosen wanted) xs h.1) (if kept then chosen else not chosen)
  where
    picked : (rest : List X) → AllByRecursion P rest → (b : Bool) → AllByRecursion P (if b then x ∷ rest else rest)
    picked rest r true = (h.0, r)
    picked rest r false = r

-- the pairs of values below d
pub values_below : (d : ℕ) → AllByRecursion (λ (pair : ℕ × ℕ). (pair.0 < d) × (pair.1 < d)) (value_pairs d)
values_below d =
    all_flat_map (λ (pair : ℕ × ℕ). (pair.0 < d) × (pair.1 < d)) (values_with d) (range_with_len 0 d) (
    all_range (λ first. AllByRecursion (λ (pair : ℕ × ℕ). (pair.0 < d) × (pair.1 < d)) (values_with d first)) 0 d (λ first l r.
    all_map (λ (pair : ℕ × ℕ). (pair.0 < d) × (pair.1 < d)) (λ second. (first, second)) (range_with_len 0 d) (
    all_range (λ second. (first < d) × (second < d)) 0 d (λ second m s. (omega (arith, r), omega (arith, s))))))

-- ---- of any pairs of variables and of values

pub tables_many : (forbidden : ℕ) (values : List (ℕ × ℕ)) (words : ℕ → ℕ) (edges : List (ℕ × ℕ)) → length (tables forbidden values words edges) ≡ length edges
tables_many forbidden values words [] = refl
tables_many forbidden values words (edge ∷ edges) = ap suc (tables_many forbidden values (words_after (length values) words) edges)

pub tables_text : (forbidden : ℕ) (values : List (ℕ × ℕ)) (words : ℕ → ℕ) (edges : List (ℕ × ℕ)) → lines_text (codes "x") (tables forbidden values words edges) ≡ table_lines forbidden values words edges
tables_text forbidden values words [] = refl
tables_text forbidden values words ((first, second) ∷ edges) =
    ap (λ (t : List ℕ). table_line (first, second) (selected false words forbidden values) ++ t) (tables_text forbidden values (words_after (length values) words) edges)

module _ (forbidden : ℕ) (values : List (ℕ × ℕ)) (enough : forbidden ≤ length values) where
  -- a table has all pairs of values but the forbidden ones
  pub rows_left : (words : ℕ → ℕ) → length (selected false words forbidden values) ≡ length values - forbidden
  rows_left words = (exact words forbidden values enough).others

  pub tables_size : (words : ℕ → ℕ) (edges : List (ℕ × ℕ)) → sum_by size_of (flat_map rules_of (tables forbidden values words edges)) ≡ length edges * (2 * (length values - forbidden) + 2)
  tables_size words [] = omega arith
  tables_size words (edge ∷ edges) =
      let rows = selected false words forbidden values in
      let line = Table edge.0 edge.1 rows in
      let later = tables forbidden values (words_after (length values) words) edges in
      let here : sum_by size_of (rules_of line) ≡ 2 * (length values - forbidden) + 2 = (let many = many_entries rows in let left = rows_left words in omega (arith, many, left)) in
      let rest = tables_size (words_after (length values) words) edges in
      let both = sum_by-append size_of (rules_of line) (flat_map rules_of later) in
      let more = once_more (length edges) (2 * (length values - forbidden) + 2) in
      both ∙ (omega (arith, here, rest) ∙ sym more)

  pub tables_constrained : (n : ℕ) (words : ℕ → ℕ) (edges : List (ℕ × ℕ)) → length values ≤ 2 ^ 15 → AllByRecursion (IsPair n) edges → AllByRecursion (IsConstraint n) (tables forbidden values words edges)
  tables_constrained n words [] few h = tt
  tables_constrained n words (edge ∷ edges) few h =
      let low = h.0.0 in
      let rising = h.0.1 in
      let high = h.0.2 in
      let left = rows_left words in
      (((low, omega (arith, rising, high), omega (arith, low, rising), high), omega (arith, left, few)), tables_constrained n (words_after (length values) words) edges few h.1)

pub tables_small : (n forbidden : ℕ) (values : List (ℕ × ℕ)) (words : ℕ → ℕ) (edges : List (ℕ × ℕ)) → n ≤ 2 ^ 31 → AllByRecursion HasSmallEntries values → AllByRecursion (IsPair n) edges
    → AllByRecursion HasSmallNumbers (tables forbidden values words edges)
tables_small n forbidden values words [] few small h = tt
tables_small n forbidden values words (edge ∷ edges) few small h =
    let low = h.0.0 in
    let rising = h.0.1 in
    let high = h.0.2 in (
      ((low, omega (arith, rising, high, few)), (omega (arith, low, rising), omega (arith, high, few)), all_selected HasSmallEntries false words forbidden values small),
      tables_small n forbidden values (words_after (length values) words) edges few small h.1,
    )

-- ---- of numbers that go together

pub le_from : (a b : ℕ) → nat_le a b ≡ true → a ≤ b
le_from a b h = grind (arith, nat_tests)

-- there are enough pairs of variables and of values, and not too many terms and entries
pub record Fit (n d edges forbidden : ℕ) : Type 0 where
  pub variables : edges ≤ length (pairs n)
  pub values : forbidden ≤ length (value_pairs d)
  pub terms : edges * (2 * (length (value_pairs d) - forbidden) + 2) ≤ 1048576

pub fit : (n d edges forbidden : ℕ) → sizes_fit n d edges forbidden ≡ true → Fit n d edges forbidden
fit n d edges forbidden h =
    let a = nat_le (2 * edges) (n * (n - 1)) in
    let b = nat_le forbidden (d * d) in
    let c = nat_le (edges * (2 * (d * d - forbidden) + 2)) 1048576 in
    let first = le_from (2 * edges) (n * (n - 1)) (and_left a b (and_left (a && b) c h)) in
    let second = le_from forbidden (d * d) (and_right a b (and_left (a && b) c h)) in
    let third = le_from (edges * (2 * (d * d - forbidden) + 2)) 1048576 (and_right (a && b) c h) in
    let many = many_variables n in
    record {
      variables = omega (arith, first, many);
      values = rw (many_values d) second;
      terms = rw (many_values d) third;
    }

-- exactly so many pairs of variables are chosen
pub edges_many : (n d edges forbidden : ℕ) (words : ℕ → ℕ) → Fit n d edges forbidden → length (selected true words edges (pairs n)) ≡ edges
edges_many n d edges forbidden words f = (exact words edges (pairs n) f.variables).many

pub edges_are_pairs : (n edges : ℕ) (words : ℕ → ℕ) → AllByRecursion (IsPair n) (selected true words edges (pairs n))
edges_are_pairs n edges words = all_selected (IsPair n) true words edges (pairs n) (are_pairs n)

pub few_values : (d : ℕ) → d ≤ 100 → length (value_pairs d) ≤ 10000
few_values d small = let square : d * d ≤ 100 * 100 = mul-le-mul small small in rw (many_values d) square

pub binary_many : (n d edges forbidden : ℕ) (words : ℕ → ℕ) → Fit n d edges forbidden → length (binary_tables n d edges forbidden words) ≡ edges
binary_many n d edges forbidden words f =
    tables_many forbidden (value_pairs d) (words_after (length (pairs n)) words) (selected true words edges (pairs n)) ∙ edges_many n d edges forbidden words f

pub binary_terms : (n d edges forbidden : ℕ) (words : ℕ → ℕ) → Fit n d edges forbidden → sum_by size_of (flat_map rules_of (binary_tables n d edges forbidden words)) ≤ 1048576
binary_terms n d edges forbidden words f =
    let size = tables_size forbidden (value_pairs d) f.values (words_after (length (pairs n)) words) (selected true words edges (pairs n)) in
    let each = 2 * (length (value_pairs d) - forbidden) + 2 in
    let many = ap (λ k. k * each) (edges_many n d edges forbidden words f) in
    let terms = f.terms in
    omega (arith, size, many, terms)

pub binary_constrained : (n d edges forbidden : ℕ) (words : ℕ → ℕ) → d ≤ 100 → Fit n d edges forbidden → AllByRecursion (IsConstraint n) (binary_tables n d edges forbidden words)
binary_constrained n d edges forbidden words small f =
    let few = few_values d small in
    tables_constrained forbidden (value_pairs d) f.values n (words_after (length (pairs n)) words) (selected true words edges (pairs n)) (omega (arith, few)) (edges_are_pairs n edges words)

pub binary_small : (n d edges forbidden : ℕ) (words : ℕ → ℕ) → n ≤ 200 → d ≤ 100 → AllByRecursion HasSmallNumbers (binary_tables n d edges forbidden words)
binary_small n d edges forbidden words few small =
    let values = all_weaker (λ (pair : ℕ × ℕ). (pair.0 < d) × (pair.1 < d)) HasSmallEntries (value_pairs d) (λ pair h. let a = h.0 in let b = h.1 in (omega (arith, a, small), omega (arith, b, small))) (values_below d) in
    tables_small n forbidden (value_pairs d) (words_after (length (pairs n)) words) (selected true words edges (pairs n)) (omega (arith, few)) values (edges_are_pairs n edges words)
