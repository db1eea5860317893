use Rattle.std.proofs.Common.{◌≡◌, ◌∙◌, ◌∷◌, ◌++◌, [], false, true}
use Rattle.dcsp_rule.specs.Problems.{csp_of}
use Rattle.abt_network.specs.Standing.{reached, StandsAt}
use Rattle.abt_measure.specs.Measuring.{IsMeasured}
use Rattle.abt_measure.proofs.RunLaws.{on_all}
use Rattle.abt_measure.proofs.run.MeasuredRun.deliver.Goals as goal

pub listen_if-requires-clause-sound : goal.listen_if-requires-clause-sound
listen_if-requires-clause-sound c = c.requires.after.1.sound

pub listen_if-requires-clause-on_run : goal.listen_if-requires-clause-on_run
listen_if-requires-clause-on_run c = record { choices = c.requires.after.0; stands = c.requires.after.1.stands }

pub listen_if-requires-clause-long : goal.listen_if-requires-clause-long
listen_if-requires-clause-long c = c.requires.after.1.lists

pub deliver_one-requires-clause-sound : goal.deliver_one-requires-clause-sound
deliver_one-requires-clause-sound c = c.requires.after.1.sound

pub deliver_one-requires-clause-on_run : goal.deliver_one-requires-clause-on_run
deliver_one-requires-clause-on_run c = record { choices = c.requires.after.0; stands = c.requires.after.1.stands }

pub deliver_one-requires-clause-long : goal.deliver_one-requires-clause-long
deliver_one-requires-clause-long c = c.requires.after.1.rows

pub returns-clause-after : goal.returns-clause-after
returns-clause-after c = λ choices h.
    let d = c.deliver_one.ensures in
    let s = c.args.self.now.network in
    let more = choices ++ c.args.choice ∷ [] in
    on_all c.deliver_one.result (d.measured choices h.stands h.measured) (d.stands choices h.stands) d.sound d.begun
    (λ (m : IsMeasured (csp_of s.problem) more c.deliver_one.new.measures) (st : StandsAt c.deliver_one.new.network (reached s more)) (sound : c.deliver_one.new.network.spent ≡ false) (begun : c.deliver_one.new.network.begun ≡ true). record {
      problem = d.problem;
      stands = st;
      sound = sound;
      begun = begun;
      measured = m;
      learned = c.in_ok-listen_if.ensures.learned choices h.stands h.learned;
      rows = d.long ∙ h.rows;
      lists = c.in_ok-listen_if.ensures.long ∙ h.lists;
    })
