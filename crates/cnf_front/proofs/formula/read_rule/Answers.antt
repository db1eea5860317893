use Rattle.std.proofs.Common.{ap, refl}
use Rattle.dcsp_rule.specs.Lent.{lent_members, lent_rule}
use Rattle.cnf_front.proofs.FormulaLaws.{first_terms, second_terms, clause_literals}
use Rattle.cnf_front.proofs.formula.read_rule.Goals as goal

pub add_variables-requires-clause-known : goal.add_variables-requires-clause-known
add_variables-requires-clause-known c =
    first_terms c.args.variables (lent_rule c.args.rule) c.in-Plain.kind c.in-Plain.scalars.now c.in-Plain.first.now c.in-Plain.second.now (lent_members c.in-Plain.members) c.in-Plain.first.now (ap lent_rule c.in-Plain.is) refl c.requires.known

pub add_negations-requires-clause-known : goal.add_negations-requires-clause-known
add_negations-requires-clause-known c =
    second_terms c.args.variables (lent_rule c.args.rule) c.in-Plain.kind c.in-Plain.scalars.now c.in-Plain.first.now c.in-Plain.second.now (lent_members c.in-Plain.members) c.in-Plain.second.now (ap lent_rule c.in-Plain.is) refl c.requires.known

pub returns-in_ok-add_variables-in-Plain-clause-literals :
    goal.returns-in_ok-add_variables-in-Plain-clause-literals
returns-in_ok-add_variables-in-Plain-clause-literals c =
    clause_literals c.add_negations.result c.args.variables (lent_rule c.args.rule) c.in-Plain.kind c.in-Plain.scalars.now c.in-Plain.first.now c.in-Plain.second.now (lent_members c.in-Plain.members) c.in-Plain.first.now c.in-Plain.second.now c.args.clause.now.items c.add_variables.new.clause.items c.add_negations.new.clause.items (ap lent_rule c.in-Plain.is) refl refl c.requires.empty c.in_ok-add_variables-in-Plain.ensures c.add_negations.ensures c.requires.few c.requires.form c.requires.known
