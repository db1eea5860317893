use Rattle.std.proofs.Common.{◌<◌, ◌∙◌, ap, length, get_or, arith, ℕ, List}
use Rattle.abt_defs.specs.Agents.{values_in}
use Rattle.abt_parts.specs.Views.{view_of}
use Rattle.abt_reason.specs.Cached.{size_of}
use Rattle.abt_reason.proofs.MarkLaws.{others_at, right_at}
use Rattle.abt_reason.proofs.rules.refresh.Goals as goal

pub returns-in-Some-clause-right : goal.returns-in-Some-clause-right
returns-in-Some-clause-right c =
    let rows = c.replace_span.new.self.rows.items in
    let here : c.args.place < length rows = omega (arith, c.requires.place, c.requires.rows.each_rule, c.replace_span.ensures.rules) in
    right_at c.args.owner.now.problem.now c.args.owner.now.agent (values_in (view_of c.args.owner.now.view.now)) rows c.args.place _ here (ap (λ (rules : List ℕ). get_or rules c.args.place 0) c.requires.owner.rules_are)
    (λ k within.
    let inside : k < c.args.owner.now.values = omega (arith, within, c.requires.owner.values_are) in
    c.replace_span.ensures.replaced k inside ∙ c.in-Some.ensures.span k within)

pub returns-in-Some-clause-others : goal.returns-in-Some-clause-others
returns-in-Some-clause-others c = others_at (size_of c.args.owner.now.problem.now c.args.owner.now.agent) c.args.ruled_out.now.rows.items c.replace_span.new.self.rows.items c.args.place c.replace_span.ensures.rules c.replace_span.ensures.others

pub returns-clause-right : goal.returns-clause-right
returns-clause-right c =
    let rows = c.replace.new.self.rows.items in
    let here : c.args.place < length rows = omega (arith, c.requires.place, c.requires.rows.each_rule, c.replace.ensures.rules) in
    right_at c.args.owner.now.problem.now c.args.owner.now.agent (values_in (view_of c.args.owner.now.view.now)) rows c.args.place _ here (ap (λ (rules : List ℕ). get_or rules c.args.place 0) c.requires.owner.rules_are)
    (λ k within.
    let inside : k < c.args.owner.now.values = omega (arith, within, c.requires.owner.values_are) in
    c.replace.ensures.replaced k inside ∙ c.fill.ensures.marks k within)

pub returns-clause-others : goal.returns-clause-others
returns-clause-others c = others_at (size_of c.args.owner.now.problem.now c.args.owner.now.agent) c.args.ruled_out.now.rows.items c.replace.new.self.rows.items c.args.place c.replace.ensures.rules c.replace.ensures.others
