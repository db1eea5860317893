use Rattle.std.proofs.Common.{◌<◌, subst, sym, ◌∙◌, set}
use Rattle.abt_links.specs.PairTables.{PairTable}
use Rattle.abt_links.specs.Marks.{IsCounted}
use Rattle.abt_links.proofs.Rows.{few_pairs, on_is, off_is, put_in, taken_out, is_counted}
use Rattle.abt_links.proofs.Tables.{alike, set-same, set-in, set-out}
use Rattle.abt_links.proofs.pair_set.PairSet.set.Goals as goal

pub raise-requires-clause-few : goal.raise-requires-clause-few
raise-requires-clause-few c = few_pairs (record { agents = c.self.inside.agents; rows = c.self.inside.rows.items }) c.self.inside.sums c.self.invariant

pub lower-requires-clause-some : goal.lower-requires-clause-some
lower-requires-clause-some c =
    is_counted (record { agents = c.self.inside.agents; rows = c.self.inside.rows.items }) c.self.inside.sums c.args.from c.args.to c.index_mut-row.result.now c.self.invariant (subst (λ (t : PairTable). c.args.from < t.agents) (sym c.self.view_is) c.requires.sender) (subst (λ (t : PairTable). c.args.to < t.agents) (sym c.self.view_is) c.requires.receiver) c.index_mut-row.ensures.value (sym c.contains.ensures ∙ on_is c.contains.result c.args.is_in c.if-contains-is_in.false c.if-is_in.false)

pub invariant_of-self-then-is_in : goal.invariant_of-self-then-is_in
invariant_of-self-then-is_in c =
    subst (IsCounted (record { agents = c.self.inside.agents; rows = set c.self.inside.rows.items c.args.from c.insert.new.self })) (sym c.raise.ensures)
    (put_in (record { agents = c.self.inside.agents; rows = c.self.inside.rows.items }) c.self.inside.sums c.args.from c.args.to c.index_mut-row.result.now c.self.invariant (subst (λ (t : PairTable). c.args.from < t.agents) (sym c.self.view_is) c.requires.sender) (subst (λ (t : PairTable). c.args.to < t.agents) (sym c.self.view_is) c.requires.receiver) c.index_mut-row.ensures.value c.insert.new.self (record { marks = c.insert.ensures.marks; long = c.insert.ensures.length }) (sym c.contains.ensures ∙ off_is c.contains.result c.args.is_in c.if-contains-is_in.false c.if-is_in.true))

pub invariant_of-self-2 : goal.invariant_of-self-2
invariant_of-self-2 c =
    subst (IsCounted (record { agents = c.self.inside.agents; rows = set c.self.inside.rows.items c.args.from c.remove.new.self })) (sym c.lower.ensures)
    (taken_out (record { agents = c.self.inside.agents; rows = c.self.inside.rows.items }) c.self.inside.sums c.args.from c.args.to c.index_mut-row.result.now c.self.invariant (subst (λ (t : PairTable). c.args.from < t.agents) (sym c.self.view_is) c.requires.sender) (subst (λ (t : PairTable). c.args.to < t.agents) (sym c.self.view_is) c.requires.receiver) c.index_mut-row.ensures.value c.remove.new.self (record { marks = c.remove.ensures.marks; long = c.remove.ensures.length }) (sym c.contains.ensures ∙ on_is c.contains.result c.args.is_in c.if-contains-is_in.false c.if-is_in.false))

pub returns-then-contains-is_in-clause-pairs : goal.returns-then-contains-is_in-clause-pairs
returns-then-contains-is_in-clause-pairs c =
    set-same (record { agents = c.self.inside.agents; rows = c.self.inside.rows.items }) c.self.inside.sums c.args.from c.args.to c.index_mut-row.result.now c.self.invariant (subst (λ (t : PairTable). c.args.from < t.agents) (sym c.self.view_is) c.requires.sender) (subst (λ (t : PairTable). c.args.to < t.agents) (sym c.self.view_is) c.requires.receiver) c.index_mut-row.ensures.value c.args.self.now c.self.view_is c.args.is_in (sym c.contains.ensures ∙ alike c.contains.result c.args.is_in c.if-contains-is_in.true)

pub returns-then-is_in-clause-pairs : goal.returns-then-is_in-clause-pairs
returns-then-is_in-clause-pairs c =
    set-in (record { agents = c.self.inside.agents; rows = c.self.inside.rows.items }) c.self.inside.sums c.args.from c.args.to c.index_mut-row.result.now c.self.invariant (subst (λ (t : PairTable). c.args.from < t.agents) (sym c.self.view_is) c.requires.sender) (subst (λ (t : PairTable). c.args.to < t.agents) (sym c.self.view_is) c.requires.receiver) c.index_mut-row.ensures.value c.args.self.now c.self.view_is c.insert.new.self (record { marks = c.insert.ensures.marks; long = c.insert.ensures.length }) (sym c.contains.ensures ∙ off_is c.contains.result c.args.is_in c.if-contains-is_in.false c.if-is_in.true) c.args.is_in c.if-is_in.true

pub returns-clause-pairs : goal.returns-clause-pairs
returns-clause-pairs c =
    set-out (record { agents = c.self.inside.agents; rows = c.self.inside.rows.items }) c.self.inside.sums c.args.from c.args.to c.index_mut-row.result.now c.self.invariant (subst (λ (t : PairTable). c.args.from < t.agents) (sym c.self.view_is) c.requires.sender) (subst (λ (t : PairTable). c.args.to < t.agents) (sym c.self.view_is) c.requires.receiver) c.index_mut-row.ensures.value c.args.self.now c.self.view_is c.remove.new.self (record { marks = c.remove.ensures.marks; long = c.remove.ensures.length }) (sym c.contains.ensures ∙ on_is c.contains.result c.args.is_in c.if-contains-is_in.false c.if-is_in.false) c.args.is_in c.if-is_in.false
