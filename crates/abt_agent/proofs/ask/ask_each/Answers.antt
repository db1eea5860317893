use Rattle.std.proofs.Common.{cond, [], ◌∷◌, get_or, sym, subst}
use Rattle.std.specs.Prelude.{take}
use Rattle.dcsp_defs.specs.Pairs.{no_pair}
use Rattle.abt_defs.specs.Agents.{AddLink}
use Rattle.abt_defs.specs.Steps as steps
use Rattle.abt_agent.specs.Asks.{unlinked_names}
use Rattle.abt_marks.specs.Links.{is_unlinked}
use Rattle.abt_parts.specs.Outgoing.{Posts}
use Rattle.abt_agent.proofs.Asks.{asked_more}
use Rattle.abt_parts.proofs.Posting.{posts_then}
use Rattle.abt_agent.proofs.ask.ask_each.Goals as goal

pub loop-pair-preserved : goal.loop-pair-preserved
loop-pair-preserved c =
    let linked = c.args.linked.now in
    let pairs = c.args.pairs.now in
    let k = c.loop-pair.pair-index in
    let to = (get_or pairs k no_pair).var in
    subst (Posts c.args.out.now c.ask_one.new.out) (sym (asked_more linked pairs k no_pair c.loop-pair-test.true))
    (posts_then c.args.out.now c.loop-pair.out c.ask_one.new.out (steps.to_each AddLink (unlinked_names linked (take k pairs))) (cond (is_unlinked linked to) ((to, AddLink) ∷ []) []) c.loop-pair.invariant c.in_ok-ask_one.ensures)
