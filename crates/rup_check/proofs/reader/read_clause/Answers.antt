use Rattle.rup_check.proofs.ProofLaws.{pushed_literal, literals_more, parts_more, next_clause, no_clause}
use Rattle.rup_check.proofs.reader.read_clause.Goals as goal

pub returns-in-Some : goal.returns-in-Some
returns-in-Some c =
    next_clause c.args.text.now c.loop-others.rest.now c.in-Some.others.now c.loop-others.clause.items c.loop-others.invariant.literals c.loop-others.invariant.parts c.in-Some.ensures

pub returns-in_default-literal_at : goal.returns-in_default-literal_at
returns-in_default-literal_at c =
    no_clause c.args.text.now c.loop-others.rest.now c.loop-others.clause.items c.loop-others.invariant.literals c.loop-others.invariant.parts c.in_default.ensures c.in_default-literal_at.ensures.reads

pub loop-others-preserved : goal.loop-others-preserved
loop-others-preserved c =
    let z = c.in-Some-literal_at.literal in
    let pushed = pushed_literal c.loop-others.clause.items c.add_literal.new.clause.items z c.loop-others.rest.now c.in-Some-literal_at.others.now c.in-Some-literal_at.ensures.reads c.in_ok-add_literal.ensures in
    record {
      literals = literals_more c.loop-others.clause.items c.add_literal.new.clause.items z c.loop-others.rest.now c.in-Some-literal_at.others.now c.loop-others.invariant.literals c.in-Some-literal_at.ensures.reads pushed;
      parts = parts_more c.args.text.now c.loop-others.rest.now c.in-Some-literal_at.others.now c.loop-others.clause.items c.add_literal.new.clause.items z c.loop-others.invariant.parts c.in-Some-literal_at.ensures.reads pushed;
    }
