use Rattle.std.proofs.Common.{sym, subst, List, All, Contains, ◌∙◌}
use Rattle.std.specs.List.{slice_range}
use Rattle.abt_reason.specs.declared.named.Naming.{Naming}
use Rattle.abt_reason.specs.Named.{naming}
use Rattle.abt_reason.proofs.NamedLaws.{part_of, all_between}
use Rattle.abt_reason.proofs.named.NamedIn.of.Goals as goal

pub returns-clause-part : goal.returns-clause-part
returns-clause-part c =
    let namings = c.as_slice-namings.result.now in
    let part = c.part_of-part.result in
    subst (λ (xs : List Naming). All (Contains xs) (slice_range namings part.start part.end)) (c.as_slice-namings.ensures.value ∙ c.self.view_is) (part_of namings part.start part.end c.part_of-part.ensures.within)

pub returns-clause-complete : goal.returns-clause-complete
returns-clause-complete c = λ place found.
    let namings = c.as_slice-namings.result.now in
    let part = c.part_of-part.result in
    all_between namings c.args.var part.start part.end c.part_of-part.ensures.before c.part_of-part.ensures.after place c.part_of-part.ensures.within
    (subst (λ (xs : List Naming). Contains xs (naming place c.args.var)) (sym (c.as_slice-namings.ensures.value ∙ c.self.view_is)) found)
