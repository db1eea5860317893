use Rattle.std.proofs.Common.{◌∷◌, ◌++◌, [], sym, subst}
use Rattle.abt_defs.specs.Clocks.{all_checks, constraints_alone, messages_alone}
use Rattle.abt_measure.specs.Measuring.{IsCounted}
use Rattle.abt_measure.proofs.CountLaws.{by_weights, got_more, sent_more}
use Rattle.abt_measure.proofs.measures.Measures.count.Goals as goal

pub returns-clause-counted : goal.returns-clause-counted
returns-clause-counted c = λ p acts a h act.
    let k = subst (IsCounted p acts) (sym c.self.view_is) h in
    let old = c.self.inside in
    record {
      rows = c.in_ok-count.ensures.counts p acts a k.rows act;
      all = by_weights p all_checks acts (acts ++ a ∷ []) old.all c.count_by_clock.new.clock k.all (λ w. c.in_ok-count_by_clock.ensures.counts p acts a w act);
      constraints = by_weights p constraints_alone acts (acts ++ a ∷ []) old.constraints c.count_by_clock-2.new.clock k.constraints (λ w. c.in_ok-count_by_clock-2.ensures.counts p acts a w act);
      messages = by_weights p messages_alone acts (acts ++ a ∷ []) old.messages c.count_by_clock-3.new.clock k.messages (λ w. c.in_ok-count_by_clock-3.ensures.counts p acts a w act);
      sent = sent_more acts a old.sent c.in_ok-self-inside.field-0 c.args.deed.sent.now c.in_ok-self-inside.ensures act.sent_is k.sent;
      got = got_more acts a old.got c.in_ok-self-inside-2.field-0 c.received.result c.args.deed.came c.in_ok-self-inside-2.ensures c.received.ensures act.came_is k.got;
    }
