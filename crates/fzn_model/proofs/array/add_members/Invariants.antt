use Rattle.std.proofs.Common.{◌≡◌, drop}
use Rattle.fzn_model.specs.Declarations.{element_set, with_members}
use Rattle.fzn_model.proofs.array.add_members.Given as goal

-- the terms that are left are still to be added to what there is
abbrev pub invariant-loop-term : goal.invariant-loop-term
invariant-loop-term l =
    (with_members l.declaration.name_at l.builder (element_set l.declaration.base.now) (drop l.term-index l.terms) ≡ with_members l.declaration.name_at l.initial.builder (element_set l.declaration.base.now) l.terms)
    × (l.builder.domains ≡ l.initial.builder.domains)
    × (l.builder.outputs ≡ l.initial.builder.outputs)
