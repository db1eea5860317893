use Rattle.std.proofs.Common.{List, [], ◌∷◌, ◌++◌, ◌∙◌, arith, sym, ap}
use Rattle.std.proofs.lemmas.List.{append-nil}
use Rattle.dcsp_rule.specs.declared.rule.Rule.{Rule}
use Rattle.dcsp_rule.specs.Flat.{rule_of_lists, rules_in}
use Rattle.dcsp_rule.proofs.FlatLaws.{inside_more, on_err_always, rules_kept, rules_more}
use Rattle.dcsp_rule.proofs.flat.RuleTable.push_lists.Goals as goal

pub returns-in_err-add_terms-clause-err : goal.returns-in_err-add_terms-clause-err
returns-in_err-add_terms-clause-err c =
    on_err_always c.from_residual-in_err-add_terms.result (rules_kept c.self.inside.terms.items c.add_terms.new.terms.items c.self.inside.numbers.items c.self.inside.numbers.items c.self.inside.heads.items c.in_ok-head.head c.self.invariant
    c.in_err-add_terms.ensures.err (record { more = []; is = sym (append-nil c.self.inside.numbers.items) }) ∙ c.self.view_is)

pub returns-in_err-append-clause-err : goal.returns-in_err-append-clause-err
returns-in_err-append-clause-err c =
    on_err_always c.from_residual-in_err-append.result (rules_kept c.self.inside.terms.items c.add_terms.new.terms.items c.self.inside.numbers.items c.append.new.list.items c.self.inside.heads.items c.in_ok-head.head c.self.invariant
    (record { more = c.args.lists.first.now ++ (c.args.lists.second.now ++ c.args.lists.third.now); is = c.in_ok-add_terms.ensures.ok }) c.in_err-append.ensures.err ∙ c.self.view_is)

pub returns-in_err-push-clause-err : goal.returns-in_err-push-clause-err
returns-in_err-push-clause-err c =
    on_err_always c.from_residual-in_err-push.result (ap (λ z. rules_in c.add_terms.new.terms.items c.append.new.list.items z) c.in_err-push.ensures.items
    ∙ rules_kept c.self.inside.terms.items c.add_terms.new.terms.items c.self.inside.numbers.items c.append.new.list.items c.self.inside.heads.items c.in_ok-head.head c.self.invariant
    (record { more = c.args.lists.first.now ++ (c.args.lists.second.now ++ c.args.lists.third.now); is = c.in_ok-add_terms.ensures.ok }) (record { more = c.args.lists.numbers.now; is = c.in_ok-append.ensures.ok }) ∙ c.self.view_is)

pub invariant_of-self-2 : goal.invariant_of-self-2
invariant_of-self-2 c =
    inside_more c.args.kind c.self.inside.terms.items c.args.lists.first.now c.args.lists.second.now c.args.lists.third.now c.add_terms.new.terms.items c.self.inside.numbers.items c.args.lists.numbers.now c.append.new.list.items
    c.self.inside.heads.items c.push.new.self.items c.in_ok-head.head c.len.result c.len-2.result c.self.invariant c.in_ok-add_terms.ensures.ok c.in_ok-append.ensures.ok (omega arith) (omega arith) c.in_ok-head.ensures c.in_ok-push.ensures.items

pub returns-clause-ok : goal.returns-clause-ok
returns-clause-ok c =
    rules_more c.args.kind c.self.inside.terms.items c.args.lists.first.now c.args.lists.second.now c.args.lists.third.now c.add_terms.new.terms.items c.self.inside.numbers.items c.args.lists.numbers.now c.append.new.list.items
    c.self.inside.heads.items c.push.new.self.items c.in_ok-head.head c.len.result c.len-2.result c.self.invariant c.in_ok-add_terms.ensures.ok c.in_ok-append.ensures.ok (omega arith) (omega arith) c.in_ok-head.ensures c.in_ok-push.ensures.items
    ∙ ap (λ (z : List Rule). z ++ rule_of_lists c.args.kind c.args.lists.first.now c.args.lists.second.now c.args.lists.third.now c.args.lists.numbers.now ∷ []) c.self.view_is
