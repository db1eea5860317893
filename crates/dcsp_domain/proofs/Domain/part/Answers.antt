use Rattle.std.proofs.Common.{◌+◌, ◌∙◌, ap, sym, subst}
use Rattle.std.specs.Prelude.{ℤ, List, slice_range}
use Rattle.dcsp_domain.specs.Sets.{IsPart}
use Rattle.dcsp_domain.proofs.Parts.{is_part, part_is}
use Rattle.dcsp_domain.proofs.Domain.part.Goals as goal

pub invariant_of-result : goal.invariant_of-result
invariant_of-result c =
    let list = c.self.inside.numbers.value.items in
    let made = is_part list c.args.self.now c.self.inside.from c.self.inside.to c.args.from c.args.to c.self.view_is c.self.invariant c.requires.order c.requires.within in
    subst (λ (z : List ℤ). IsPart z (c.self.inside.from + c.args.from) (c.self.inside.from + c.args.to)) (sym (ap (λ z. z.items) c.in-Ok.ensures.cases)) made

pub returns : goal.returns
returns c =
    let list = c.self.inside.numbers.value.items in
    ap (λ z. slice_range z.items (c.self.inside.from + c.args.from) (c.self.inside.from + c.args.to)) c.in-Ok.ensures.cases
    ∙ part_is list c.args.self.now c.self.inside.from c.self.inside.to c.args.from c.args.to c.self.view_is c.self.invariant c.requires.order c.requires.within
