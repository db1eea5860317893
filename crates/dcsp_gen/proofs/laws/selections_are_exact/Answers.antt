use Rattle.dcsp_gen.proofs.Choosing.{exact, many_variables, many_values}
use Rattle.dcsp_gen.proofs.laws.selections_are_exact.Goals as goal

pub returns-clause-exact : goal.returns-clause-exact
returns-clause-exact c = λ words wanted things l. exact words wanted things l

pub returns-clause-numbers : goal.returns-clause-numbers
returns-clause-numbers c = λ words wanted things l. exact words wanted things l

pub returns-clause-pairs : goal.returns-clause-pairs
returns-clause-pairs c = record { variables = many_variables; values = many_values }
