use Rattle.std.proofs.Common.{◌≡◌, ◌∙◌, ap, sym, subst, arith}
use Rattle.dcsp_rule.specs.Problems.{Contents, csp_of}
use Rattle.abt_defs.specs.Network.{deliver}
use Rattle.abt_network.specs.Standing.{standing_of}
use Rattle.abt_session.specs.Sessions.{network_after}
use Rattle.line_cnf.specs.CnfOutcomes.{IsFormula}
use Rattle.line_cnf.specs.ClauseRuns.{IsRunAt}
use Rattle.line_cnf.proofs.ClauseLoop.{s, at_start, few, on_run, ends_refuted, ends_solved, ends_spent, ends_capped, next}
use Rattle.line_cnf.proofs.clause_run.ClauseRun.deliver_all.Goals as goal

pub loop-made-init : goal.loop-made-init
loop-made-init g c = at_start c.args.self.now.network.problem c.args.most (g.C.Choices.answers c.args.choices.now) c.args.self.now c.requires.starts

pub returns-in-Refuted : goal.returns-in-Refuted
returns-in-Refuted g c =
    let i = c.loop-made.invariant in
    let P = c.args.self.now.network.problem in
    let answers = g.C.Choices.answers c.args.choices.now in
    let net = network_after (s P c.args.most answers) c.loop-made._made in
    let st : c.state.result ≡ standing_of (csp_of P) net = c.state.ensures.machine net i.there.stands i.there.sound ∙ ap (λ (q : Contents). standing_of (csp_of q) net) i.there.problem in
    ends_refuted P c.args.most answers c.loop-made._made _ c.loop-made.self i (sym c.in-Refuted.is ∙ st)

pub returns-in-Quiet : goal.returns-in-Quiet
returns-in-Quiet g c =
    let i = c.loop-made.invariant in
    let P = c.args.self.now.network.problem in
    let answers = g.C.Choices.answers c.args.choices.now in
    let net = network_after (s P c.args.most answers) c.loop-made._made in
    let st : c.state.result ≡ standing_of (csp_of P) net = c.state.ensures.machine net i.there.stands i.there.sound ∙ ap (λ (q : Contents). standing_of (csp_of q) net) i.there.problem in
    ends_solved P c.args.most answers c.loop-made._made _ c.loop-made.self i (sym c.in-Quiet.is ∙ st)

pub returns-in_default : goal.returns-in_default
returns-in_default g c =
    let i = c.loop-made.invariant in
    let P = c.args.self.now.network.problem in
    let answers = g.C.Choices.answers c.args.choices.now in
    let net = network_after (s P c.args.most answers) c.loop-made._made in
    let st : c.state.result ≡ standing_of (csp_of P) net = c.state.ensures.machine net i.there.stands i.there.sound ∙ ap (λ (q : Contents). standing_of (csp_of q) net) i.there.problem in
    ends_spent P c.args.most answers c.loop-made._made _ c.loop-made.self i (sym c.in-Open.is ∙ st) c.loop-made-test.true c.next.result c.next.ensures.first c.in_default.is

pub deliver-requires-clause-can : goal.deliver-requires-clause-can
deliver-requires-clause-can g c =
    let i = c.loop-made.invariant in
    record {
      begun = i.there.begun;
      open_ = sym c.state.ensures.standing ∙ c.in-Open.is;
      few = few c.args.self.now.network.problem c.args.most (g.C.Choices.answers c.args.choices.now) c.loop-made._made _ c.loop-made.self i c.requires.most;
    }

pub deliver-requires-clause-formula : goal.deliver-requires-clause-formula
deliver-requires-clause-formula g c = subst IsFormula (sym c.loop-made.invariant.there.problem) c.requires.formula

pub deliver-requires-clause-on_run : goal.deliver-requires-clause-on_run
deliver-requires-clause-on_run g c = on_run c.args.self.now.network.problem c.args.most (g.C.Choices.answers c.args.choices.now) c.loop-made._made _ c.loop-made.self c.loop-made.invariant

pub loop-made-preserved : goal.loop-made-preserved
loop-made-preserved g c =
    let i = c.loop-made.invariant in
    let P = c.args.self.now.network.problem in
    let answers = g.C.Choices.answers c.args.choices.now in
    let net = network_after (s P c.args.most answers) c.loop-made._made in
    let st : c.state.result ≡ standing_of (csp_of P) net = c.state.ensures.machine net i.there.stands i.there.sound ∙ ap (λ (q : Contents). standing_of (csp_of q) net) i.there.problem in
    let here = subst (λ (q : Contents). IsRunAt q net c.loop-made.self) (sym i.there.problem) i.there in
    let after = subst (λ (q : Contents). IsRunAt q (deliver (csp_of q) c.in-Some.choice net) c.deliver.new.self) i.there.problem (c.in_ok-deliver.ensures net here) in
    next P c.args.most answers c.loop-made._made _ c.loop-made.self i (sym c.in-Open.is ∙ st) c.loop-made-test.true c.in-Some.choice c.next.result c.next.ensures.first c.in-Some.is c.deliver.new.self _ after c.next.ensures.rest

pub returns-in-Refuted-state : goal.returns-in-Refuted-state
returns-in-Refuted-state g c =
    let i = c.loop-made.invariant in
    let P = c.args.self.now.network.problem in
    let answers = g.C.Choices.answers c.args.choices.now in
    let net = network_after (s P c.args.most answers) c.loop-made._made in
    let st : c.state-2.result ≡ standing_of (csp_of P) net = c.state-2.ensures.machine net i.there.stands i.there.sound ∙ ap (λ (q : Contents). standing_of (csp_of q) net) i.there.problem in
    ends_refuted P c.args.most answers c.loop-made._made _ c.loop-made.self i (sym c.in-Refuted-state.is ∙ st)

pub returns-in-Quiet-state : goal.returns-in-Quiet-state
returns-in-Quiet-state g c =
    let i = c.loop-made.invariant in
    let P = c.args.self.now.network.problem in
    let answers = g.C.Choices.answers c.args.choices.now in
    let net = network_after (s P c.args.most answers) c.loop-made._made in
    let st : c.state-2.result ≡ standing_of (csp_of P) net = c.state-2.ensures.machine net i.there.stands i.there.sound ∙ ap (λ (q : Contents). standing_of (csp_of q) net) i.there.problem in
    ends_solved P c.args.most answers c.loop-made._made _ c.loop-made.self i (sym c.in-Quiet-state.is ∙ st)

pub returns-in-Open-state : goal.returns-in-Open-state
returns-in-Open-state g c =
    let i = c.loop-made.invariant in
    let P = c.args.self.now.network.problem in
    let answers = g.C.Choices.answers c.args.choices.now in
    let net = network_after (s P c.args.most answers) c.loop-made._made in
    let st : c.state-2.result ≡ standing_of (csp_of P) net = c.state-2.ensures.machine net i.there.stands i.there.sound ∙ ap (λ (q : Contents). standing_of (csp_of q) net) i.there.problem in
    let full : c.loop-made._made ≡ c.args.most = let l = c.loop-made-test.false in let m = c.loop-made.auto._made-end in omega arith in
    ends_capped P c.args.most answers c.loop-made._made _ c.loop-made.self i (sym c.in-Open-state.is ∙ st) full
