use Rattle.std.proofs.Common.{◌≡◌, ◌∙◌, ◌++◌, ◌∷◌, [], ap, sym, subst, refl, take, inl, inr}
use Rattle.dcsp_defs.specs.Csp.{IsCsp}
use Rattle.dcsp_rule.specs.Problems.{Contents, csp_of}
use Rattle.abt_network.specs.Standing.{standing_of}
use Rattle.abt_session.specs.Answers.{first_answers}
use Rattle.abt_session.specs.Sessions.{network_after}
use Rattle.abt_measure.specs.Whole.{IsAfter}
use Rattle.abt_measure.proofs.RunLaws.{s, at_start, few, ends_refuted, ends_quiet, ends_spent, ends_capped, goes_on}
use Rattle.abt_measure.proofs.run.MeasuredRun.deliver_all.Goals as goal

pub loop-made-init : goal.loop-made-init
loop-made-init g c = at_start c.args.self.now.network.problem c.args.most (g.C.Choices.answers c.args.choices.now) c.args.self.now.listens c.args.self.now c.requires.starts refl

pub returns-in-Refuted : goal.returns-in-Refuted
returns-in-Refuted g c =
    let i = c.loop-made.invariant in
    let P = c.args.self.now.network.problem in
    let answers = g.C.Choices.answers c.args.choices.now in
    let net = network_after (s P c.args.most answers c.args.self.now.listens) c.loop-made._made in
    let st : c.state.result ≡ standing_of (csp_of P) net = c.state.ensures.machine net i.after.stands i.after.sound ∙ ap (λ (q : Contents). standing_of (csp_of q) net) i.after.problem in
    elim c.in-Refuted.is [
      | inl e ↦ ends_refuted P c.args.most answers c.args.self.now.listens c.loop-made._made _ c.loop-made.self i (sym e ∙ st)
      | inr e ↦ ends_quiet P c.args.most answers c.args.self.now.listens c.loop-made._made _ c.loop-made.self i (sym e ∙ st)
    ]

pub returns-in_default : goal.returns-in_default
returns-in_default g c =
    let i = c.loop-made.invariant in
    ends_spent c.args.self.now.network.problem c.args.most (g.C.Choices.answers c.args.choices.now) c.args.self.now.listens c.loop-made._made _ c.loop-made.self i c.loop-made-test.true c.next.result c.next.ensures.first c.in_default.is

pub deliver-requires-clause-can : goal.deliver-requires-clause-can
deliver-requires-clause-can g c =
    let i = c.loop-made.invariant in
    record {
      begun = i.after.begun;
      open_ = sym c.state.ensures.standing ∙ c.in-Open.is;
      few = few c.args.self.now.network.problem c.args.most (g.C.Choices.answers c.args.choices.now) c.args.self.now.listens c.loop-made._made _ c.loop-made.self i c.requires.most;
    }

pub deliver-requires-clause-csp : goal.deliver-requires-clause-csp
deliver-requires-clause-csp g c = subst (λ (q : Contents). IsCsp (csp_of q)) (sym c.loop-made.invariant.after.problem) c.requires.csp

pub deliver-requires-clause-after : goal.deliver-requires-clause-after
deliver-requires-clause-after g c =
    let i = c.loop-made.invariant in
    (_, subst (λ (q : Contents). IsAfter q (take c.loop-made._made (first_answers c.args.most (g.C.Choices.answers c.args.choices.now))) c.loop-made.self) (sym i.after.problem) i.after)

pub loop-made-preserved : goal.loop-made-preserved
loop-made-preserved g c =
    let i = c.loop-made.invariant in
    let P = c.args.self.now.network.problem in
    let answers = g.C.Choices.answers c.args.choices.now in
    let net = network_after (s P c.args.most answers c.args.self.now.listens) c.loop-made._made in
    let st : c.state.result ≡ standing_of (csp_of P) net = c.state.ensures.machine net i.after.stands i.after.sound ∙ ap (λ (q : Contents). standing_of (csp_of q) net) i.after.problem in
    let done = take c.loop-made._made (first_answers c.args.most answers) in
    let here = subst (λ (q : Contents). IsAfter q done c.loop-made.self) (sym i.after.problem) i.after in
    let after = subst (λ (q : Contents). IsAfter q (done ++ c.in-Some.choice ∷ []) c.deliver.new.self) i.after.problem (c.in_ok-deliver.ensures.after done here) in
    goes_on P c.args.most answers c.args.self.now.listens c.loop-made._made _ c.loop-made.self i (sym c.in-Open.is ∙ st) c.loop-made-test.true c.in-Some.choice c.next.result c.next.ensures.first c.in-Some.is c.deliver.new.self _ after c.in_ok-deliver.ensures.listens c.next.ensures.rest

pub returns : goal.returns
returns g c = ends_capped c.args.self.now.network.problem c.args.most (g.C.Choices.answers c.args.choices.now) c.args.self.now.listens c.loop-made._made _ c.loop-made.self c.loop-made.invariant c.loop-made-test.false
