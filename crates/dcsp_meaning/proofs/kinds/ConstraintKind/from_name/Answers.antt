use Rattle.std.proofs.Common.{sym, ap, ◌∙◌}
use Rattle.dcsp_meaning.specs.Names.{kind_among}
use Rattle.dcsp_meaning.specs.declared.kinds.TheConstants.{KINDS}
use Rattle.dcsp_meaning.proofs.KindNames.{among_named, finds}
use Rattle.dcsp_meaning.proofs.kinds.ConstraintKind.from_name.Goals as goal

pub returns-clause-named : goal.returns-clause-named
returns-clause-named c = rw (c.first_named.ensures) (among_named c.args.name.now KINDS)

pub returns-clause-every : goal.returns-clause-every
returns-clause-every c k named = c.first_named.ensures ∙ (sym (ap (λ name. kind_among name KINDS) named) ∙ finds k)
