use Rattle.std.proofs.Common.{[], get_or, subst, sym}
use Rattle.std.proofs.lemmas.List.{take_more}
use Rattle.rup_check.specs.Kept.{all_of, clauses_of, more_of}
use Rattle.rup_check.specs.Watches.{IsRoot}
use Rattle.rup_check.specs.Found.{IsFound}
use Rattle.rup_check.proofs.GrowLaws.{root_covered}
use Rattle.rup_check.proofs.propagation.add_found.Goals as goal

pub returns-in_ok-add_none-in-Covered : goal.returns-in_ok-add_none-in-Covered
returns-in_ok-add_none-in-Covered c =
    let known = c.args.known.now in
    let a = c.args.assignment.now in
    subst (λ b. IsRoot (more_of known) c.add_none.new.self.pairs.items c.add_none.new.self.lists.items a.marks.items a.trail.items b) (sym c.add_none.ensures.refuted)
    (root_covered (clauses_of known) (more_of known) c.args.watches.now.pairs.items c.add_none.new.self.pairs.items c.args.watches.now.lists.items c.add_none.new.self.lists.items a.marks.items a.trail.items (get_or (all_of known) known.count []) c.args.watches.now.refuted
    (take_more (all_of known) known.count [] c.requires.next) c.requires.ready c.in_ok-add_none-in-Covered.ensures.pairs c.add_none.ensures.lists
    (subst (λ f. IsFound (clauses_of known) a.trail.items (get_or (all_of known) known.count []) f) c.in-Covered.is c.requires.found).1)
