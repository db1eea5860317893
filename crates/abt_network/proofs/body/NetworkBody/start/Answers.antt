use Rattle.std.proofs.Common.{[], refl, sym, subst, arith, true, false, Some, None}
use Rattle.abt_defs.specs.Network.{run, start}
use Rattle.dcsp_rule.specs.Problems.{Contents, csp_of}
use Rattle.abt_network.specs.declared.Begun.TheVariants as begun
use Rattle.abt_network.specs.Standing.{StandsAt}
use Rattle.abt_network.specs.Bodies.{shown}
use Rattle.abt_network.specs.Settling.{HaveSettled}
use Rattle.abt_network.proofs.Beginning.{starts_of}
use Rattle.abt_network.proofs.body.NetworkBody.start.Goals as goal

pub returns-in-Some-clause-starts : goal.returns-in-Some-clause-starts
returns-in-Some-clause-starts c =
    let p = c.args.self.now.problem.now in
    let s = shown (record c.begin.new.self { refuted = true; deliveries = 0; steps = 1; begun = true }) false in
    starts_of p s (begun.Refuted c.in-Some.step) (Some c.in-Some.step) c.denotes_csp.ensures.csp c.denotes_csp.ensures.problem (subst (HaveSettled p s.agents s.links (start (csp_of p))) c.in-Some.is c.in_ok-step.ensures.begins) refl refl c.in_ok-step.ensures.problem refl refl refl

pub returns-in-Some-clause-kept : goal.returns-in-Some-clause-kept
returns-in-Some-clause-kept c =
    let s = shown (record c.begin.new.self { refuted = true; deliveries = 0; steps = 1; begun = true }) false in
    let tidy = c.in_ok-step.ensures.tidy in
    record {
      tidy = record {
        sized = record { long = tidy.sized.long; linked = tidy.sized.linked };
        seated = tidy.seated;
        none_out = tidy.none_out;
        stamped = tidy.stamped;
      };
      few = omega arith;
      blank = λ e. cc;
      reached = λ e. record {
        choices = [];
        stands = subst (λ (q : Contents). StandsAt s (run (csp_of q) [] (start (csp_of q)))) (sym c.in_ok-step.ensures.problem) (returns-in-Some-clause-starts c).stands;
      };
    }

pub returns-in-Some-clause-sized : goal.returns-in-Some-clause-sized
returns-in-Some-clause-sized c = record { long = c.in_ok-step.ensures.sized.long; linked = c.in_ok-step.ensures.sized.linked }

pub returns-in-None-clause-starts : goal.returns-in-None-clause-starts
returns-in-None-clause-starts c =
    let p = c.args.self.now.problem.now in
    let s = shown (record c.begin.new.self { refuted = false; deliveries = 0; steps = 0; begun = true }) false in
    starts_of p s begun.Running None c.denotes_csp.ensures.csp c.denotes_csp.ensures.problem (subst (HaveSettled p s.agents s.links (start (csp_of p))) c.in-None.is c.in_ok-step.ensures.begins) refl refl c.in_ok-step.ensures.problem refl refl refl

pub returns-in-None-clause-kept : goal.returns-in-None-clause-kept
returns-in-None-clause-kept c =
    let s = shown (record c.begin.new.self { refuted = false; deliveries = 0; steps = 0; begun = true }) false in
    let tidy = c.in_ok-step.ensures.tidy in
    record {
      tidy = record {
        sized = record { long = tidy.sized.long; linked = tidy.sized.linked };
        seated = tidy.seated;
        none_out = tidy.none_out;
        stamped = tidy.stamped;
      };
      few = omega arith;
      blank = λ e. cc;
      reached = λ e. record {
        choices = [];
        stands = subst (λ (q : Contents). StandsAt s (run (csp_of q) [] (start (csp_of q)))) (sym c.in_ok-step.ensures.problem) (returns-in-None-clause-starts c).stands;
      };
    }

pub returns-in-None-clause-sized : goal.returns-in-None-clause-sized
returns-in-None-clause-sized c = record { long = c.in_ok-step.ensures.sized.long; linked = c.in_ok-step.ensures.sized.linked }
