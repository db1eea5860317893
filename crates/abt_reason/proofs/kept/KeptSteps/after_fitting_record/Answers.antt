use Rattle.std.proofs.Common.{ap, length, subst, sym}
use Rattle.abt_reason.specs.Kept.{IsFitting}
use Rattle.abt_reason.proofs.AfterLaws.{fitting_added, last_is, own_added, own_more}
use Rattle.abt_reason.proofs.kept.KeptSteps.after_fitting_record.Goals as goal

pub returns-clause-kept : goal.returns-clause-kept
returns-clause-kept c = λ agent known without.
    let s = without.stood in
    let values = c.args.domain.now in
    let old = c.args.self.now in
    let item = c.index-items-items.result in
    let is = last_is c.items-items.result.now c.args.store.now s.items_before s.last item c.items-items.ensures.items s.added c.index-items-items.is in
    let fits = subst (IsFitting agent known) (sym is) without.fitting in
    let new = c.add_step.new.kept.items in
    let added = fitting_added values agent known item old.steps.items new fits c.add_step.ensures.added in
    record {
      first = own_added values agent known s.items_before c.args.store.now s.last item old.steps.items new old.count old.own s.stood s.added is fits.own added;
      all = ap length c.items-items.ensures.items;
      own_alone = own_more values agent known s.items_before c.args.store.now s.last item old.steps.items new old.count old.own s.stood s.added is fits.own;
      once = c.items-items.ensures.once;
    }
