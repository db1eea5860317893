use Rattle.std.proofs.Common.{◌++◌, ◌∙◌, ap, append-nil, sym}
use Rattle.std.specs.Option.{option_to_list}
use Rattle.dcsp_rule.specs.declared.rule.Term.{Term}
use Rattle.dcsp_rule.specs.Rules.{variable_of}
use Rattle.dcsp_problem.proofs.index.push_variable.Goals as goal

pub returns-in-Const : goal.returns-in-Const
returns-in-Const c =
    let items = c.args.variables.now.items in
    sym (ap (λ (t : Term). items ++ option_to_list (variable_of t)) c.in-Const.is ∙ append-nil items)
