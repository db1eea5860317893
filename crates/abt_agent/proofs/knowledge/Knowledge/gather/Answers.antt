use Rattle.std.proofs.Common.{◌≡◌, ◌≤◌, ◌<◌, ◌∙◌, ap, false, length, List, ℕ, arith}
use Rattle.dcsp_defs.specs.declared.nogood.Pair.{Pair}
use Rattle.abt_parts.specs.Messages.{with_stamps}
use Rattle.abt_parts.specs.Views.{view_of}
use Rattle.abt_marks.specs.Marks.{has_mark}
use Rattle.abt_agent.specs.Causes.{told_of}
use Rattle.abt_agent.proofs.Blamed.{told_next, told_end}
use Rattle.abt_agent.proofs.Gathered.{told_rises}
use Rattle.abt_agent.proofs.knowledge.Knowledge.gather.Goals as goal

pub loop-agent-preserved : goal.loop-agent-preserved
loop-agent-preserved c =
    let has = has_mark c.args.marks.now in
    let none : (k : ℕ) → c.loop-agent.walk.from ≤ k → k < c.in-Some.agent → has k ≡ false = λ k after before. c.in-Some.ensures.before k after before (omega (arith, before, c.in-Some.ensures.within.1)) in
    let more = told_next (told_of (view_of c.args.self.now.view)) has c.loop-agent.walk.from c.in-Some.agent c.in-Some.ensures.within.0 none c.in-Some.ensures.marked in
    record {
      told = cc (c.in_ok-add_told.ensures.told, c.loop-agent.invariant.told, c.stamped_value.ensures.told, more, c.in-Some.ensures.passed);
      size = c.in_ok-add_told.ensures.size;
      positive = c.in_ok-add_told.ensures.positive;
      within = omega (arith, c.in-Some.ensures.within.1, c.in-Some.ensures.passed);
      on = c.in-Some.ensures.on;
    }

pub of_rising-requires : goal.of_rising-requires
of_rising-requires c = told_rises (view_of c.args.self.now.view) (has_mark c.args.marks.now) c.loop-agent.walk.from c.loop-agent.pairs.items c.loop-agent.stamps.items c.loop-agent.invariant.told

pub returns-clause-told : goal.returns-clause-told
returns-clause-told c =
    let has = has_mark c.args.marks.now in
    let told = told_of (view_of c.args.self.now.view) in
    ap (λ (pairs : List Pair). with_stamps pairs c.from_vec.result) c.of_rising.ensures
    ∙ ap (λ (stamps : List ℕ). with_stamps c.loop-agent.pairs.items stamps) c.from_vec.ensures
    ∙ c.loop-agent.invariant.told
    ∙ told_end told has c.loop-agent.walk.from (length c.args.marks.now) c.loop-agent.invariant.within (λ k after before. c.in_default.ensures.before k after before before)
