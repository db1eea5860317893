use Rattle.std.proofs.Common.{◌≡◌, ◌<◌, ◌+◌, ◌∙◌, ℕ, List, length, take, sum, true, ap, subst, sym, arith, Some, slice_get, []}
use Rattle.std.specs.Prelude.{slice_index_or}
use Rattle.std.proofs.lemmas.List.{get_or_default}
use Rattle.abt_links.specs.PairTables.{PairTable, has_pair, members}
use Rattle.abt_links.specs.Marks.{Marks, marked, marked_pairs, rank, is_set, row_at, IsCounted, table_of}
use Rattle.abt_links.proofs.Rows.{few_pairs, number-small, number-is}
use Rattle.abt_links.proofs.Tables.{has-table, members-table, inside-table}
use Rattle.abt_links.proofs.pair_set.PairSet.number.Goals as goal

-- what is known of a pair that is in
record Known (marks : Marks) (sums : List ℕ) (from to : ℕ) : Type 0 where
  pub counted : IsCounted marks sums
  pub holds : marked marks from to ≡ true
  pub sender : from < marks.agents
  pub receiver : to < marks.agents

known : (marks : Marks) (sums : List ℕ) (from to : ℕ) (table : PairTable) → IsCounted marks sums → table_of marks ≡ table → has_pair table from to ≡ true → Known marks sums from to
known marks sums from to table counted shown is_in =
    let holds : marked marks from to ≡ true = sym (has-table marks sums counted from to) ∙ subst (λ (t : PairTable). has_pair t from to ≡ true) (sym shown) is_in in
    let both : (from < marks.agents) × (to < marks.agents) = inside-table marks sums counted from to holds in
    record { counted = counted; holds = holds; sender = both.0; receiver = both.1 }

-- the row that is read
row_read : (marks : Marks) (sums : List ℕ) (from to : ℕ) (row : List ℕ) → Known marks sums from to → row ≡ slice_index_or marks.rows from row → row ≡ row_at marks from
row_read marks sums from to row k read = read ∙ get_or_default marks.rows from row [] (omega (arith, k.sender, k.counted.long))

pub before-requires-clause-exists : goal.before-requires-clause-exists
before-requires-clause-exists c =
    let k : Known (record { agents = c.self.inside.agents; rows = c.self.inside.rows.items }) c.self.inside.sums c.args.from c.args.to = known (record { agents = c.self.inside.agents; rows = c.self.inside.rows.items }) c.self.inside.sums c.args.from c.args.to c.args.self.now c.self.invariant c.self.view_is c.requires in
    omega (arith, k.sender, c.self.invariant.sums_long)

pub before-requires-clause-few : goal.before-requires-clause-few
before-requires-clause-few c = omega (arith, few_pairs (record { agents = c.self.inside.agents; rows = c.self.inside.rows.items }) c.self.inside.sums c.self.invariant)

pub rank-requires-clause-short : goal.rank-requires-clause-short
rank-requires-clause-short c =
    let k : Known (record { agents = c.self.inside.agents; rows = c.self.inside.rows.items }) c.self.inside.sums c.args.from c.args.to = known (record { agents = c.self.inside.agents; rows = c.self.inside.rows.items }) c.self.inside.sums c.args.from c.args.to c.args.self.now c.self.invariant c.self.view_is c.requires in
    let row : c.index.result.now ≡ row_at (record { agents = c.self.inside.agents; rows = c.self.inside.rows.items }) c.args.from = row_read (record { agents = c.self.inside.agents; rows = c.self.inside.rows.items }) c.self.inside.sums c.args.from c.args.to c.index.result.now k c.index.ensures in
    omega (arith, ap length row, c.self.invariant.short c.args.from k.sender)

pub rank-requires-clause-room : goal.rank-requires-clause-room
rank-requires-clause-room c =
    let k : Known (record { agents = c.self.inside.agents; rows = c.self.inside.rows.items }) c.self.inside.sums c.args.from c.args.to = known (record { agents = c.self.inside.agents; rows = c.self.inside.rows.items }) c.self.inside.sums c.args.from c.args.to c.args.self.now c.self.invariant c.self.view_is c.requires in
    let row : c.index.result.now ≡ row_at (record { agents = c.self.inside.agents; rows = c.self.inside.rows.items }) c.args.from = row_read (record { agents = c.self.inside.agents; rows = c.self.inside.rows.items }) c.self.inside.sums c.args.from c.args.to c.index.result.now k c.index.ensures in
    omega (arith, ap length row, c.self.invariant.room c.args.from k.sender, k.receiver)

-- the sum is the pair's number
number_is : (marks : Marks) (sums : List ℕ) (from to before own : ℕ) (row : List ℕ) → before ≡ sum (take from sums) → own ≡ rank (is_set row) to → row ≡ row_at marks from
    → before + own ≡ sum (take from sums) + rank (marked marks from) to
number_is marks sums from to before own row a b at = ap (λ n. n + own) a ∙ ap (λ n. sum (take from sums) + n) (b ∙ ap (λ (l : List ℕ). rank (is_set l) to) at)

pub overflow_add-result : goal.overflow_add-result
overflow_add-result c =
    let k : Known (record { agents = c.self.inside.agents; rows = c.self.inside.rows.items }) c.self.inside.sums c.args.from c.args.to = known (record { agents = c.self.inside.agents; rows = c.self.inside.rows.items }) c.self.inside.sums c.args.from c.args.to c.args.self.now c.self.invariant c.self.view_is c.requires in
    let row : c.index.result.now ≡ row_at (record { agents = c.self.inside.agents; rows = c.self.inside.rows.items }) c.args.from = row_read (record { agents = c.self.inside.agents; rows = c.self.inside.rows.items }) c.self.inside.sums c.args.from c.args.to c.index.result.now k c.index.ensures in
    omega (
      arith,
      number_is (record { agents = c.self.inside.agents; rows = c.self.inside.rows.items }) c.self.inside.sums c.args.from c.args.to c.before-2.result c.rank.result c.index.result.now c.before-2.ensures c.rank.ensures row,
      number-small (record { agents = c.self.inside.agents; rows = c.self.inside.rows.items }) c.self.inside.sums c.args.from c.args.to c.self.invariant k.sender,
      k.receiver,
      c.self.invariant.small,
    )

pub returns : goal.returns
returns c =
    let k : Known (record { agents = c.self.inside.agents; rows = c.self.inside.rows.items }) c.self.inside.sums c.args.from c.args.to = known (record { agents = c.self.inside.agents; rows = c.self.inside.rows.items }) c.self.inside.sums c.args.from c.args.to c.args.self.now c.self.invariant c.self.view_is c.requires in
    let row : c.index.result.now ≡ row_at (record { agents = c.self.inside.agents; rows = c.self.inside.rows.items }) c.args.from = row_read (record { agents = c.self.inside.agents; rows = c.self.inside.rows.items }) c.self.inside.sums c.args.from c.args.to c.index.result.now k c.index.ensures in
    subst (λ (t : PairTable). slice_get (members t) (c.before-2.result + c.rank.result) ≡ Some (c.args.from, c.args.to)) c.self.view_is
    (ap (λ (l : List (ℕ × ℕ)). slice_get l (c.before-2.result + c.rank.result)) (members-table (record { agents = c.self.inside.agents; rows = c.self.inside.rows.items }) c.self.inside.sums c.self.invariant)
    ∙ ap (slice_get (marked_pairs (record { agents = c.self.inside.agents; rows = c.self.inside.rows.items }))) (number_is (record { agents = c.self.inside.agents; rows = c.self.inside.rows.items }) c.self.inside.sums c.args.from c.args.to c.before-2.result c.rank.result c.index.result.now c.before-2.ensures c.rank.ensures row)
    ∙ number-is (record { agents = c.self.inside.agents; rows = c.self.inside.rows.items }) c.self.inside.sums c.args.from c.args.to c.self.invariant k.sender k.receiver k.holds)
