use Rattle.std.proofs.Common.{◌≡◌, subst}
use Rattle.std.specs.Prelude.{Option}
use Rattle.std.specs.List.{AllByRecursion}
use Rattle.ngd_log.specs.declared.standing.EntryKind.{EntryKind}
use Rattle.ngd_log.specs.Lent.{lent_in, RisesIn}
use Rattle.ngd_log.proofs.body.append_lent.Goals as goal

pub owned_entry-requires : goal.owned_entry-requires
owned_entry-requires c = (subst (λ (o : Option EntryKind). AllByRecursion RisesIn (lent_in o c.args.body.now.gathered)) c.in-Some.is c.requires).0
