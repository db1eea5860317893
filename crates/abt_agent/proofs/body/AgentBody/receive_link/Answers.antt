use Rattle.std.proofs.Common.{length, refl, Ok, [], None}
use Rattle.abt_parts.specs.Views.{view_of}
use Rattle.abt_parts.specs.Stores.{records_of}
use Rattle.abt_marks.specs.Marks.{has_mark}
use Rattle.abt_parts.proofs.Insertion.{told_more, exist_more}
use Rattle.abt_agent.specs.declared.TurnKind.TheVariants.{Quiet}
use Rattle.abt_agent.specs.Turns.{turn_with}
use Rattle.abt_agent.proofs.Receives.{good_linked}
use Rattle.abt_agent.proofs.body.AgentBody.receive_link.Goals as goal

pub returns-clause-does : goal.returns-clause-does
returns-clause-does c number made =
    let b = c.args.self.now in
    let sized = c.requires.good.sized in
    let added = c.in_ok-add_rising.ensures in
    let told = told_more b.tells.items c.add_rising.new.agents.items c.args.from added.among in
    record {
      agent = λ x. record { value = b.value; stamp = b.stamp; waits = b.waits; view = view_of b.known.view; recorded = records_of b.known.store; tells = λ k. told k x; linked = has_mark b.linked };
      sent = c.in_ok-tell_own.ensures;
      turn_is = (refl, refl);
      sized = record {
        in_step = sized.in_step;
        linked = sized.linked;
        tells = added.rising;
        told_exist = exist_more b.tells.items c.add_rising.new.agents.items c.args.from added.among (length b.known.problem.now.domains) c.requires.exists sized.told_exist;
      };
    }

pub returns-clause-good : goal.returns-clause-good
returns-clause-good c =
    let after = record c.args.self.now { tells = c.add_rising.new.agents } in
    good_linked (λ kind. turn_with kind (record { variable = None; nogood = []; reasons = [] })) c.agents_stay_sound.ensures 0 c.args.from c.args.self.now after c.args.out.now c.tell_own.new.out (Ok Quiet) c.requires.good c.requires.exists refl (returns-clause-does c 0 (record { variable = None; nogood = []; reasons = [] }))
