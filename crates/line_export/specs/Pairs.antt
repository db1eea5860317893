-- What the pairs of a nogood and one pair more give.
use Rattle.dcsp_defs.specs.Csp.{PartialAssignment, given_with}
use Rattle.line_export.specs.declared.formula.WithPair.{WithPair}

-- the values that they give
abbrev pub given_by : WithPair → PartialAssignment
given_by given = given_with given.pair.var given.pair.value given.nogood.now
