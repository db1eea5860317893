use Rattle.std.proofs.Common.{◌≡◌, ◌∙◌, ◌∷◌, ◌++◌, [], ap, refl, subst, sym, take}
use Rattle.std.specs.Prelude.{option_copied}
use Rattle.dcsp_rule.specs.Problems.{Contents, csp_of}
use Rattle.abt_defs.specs.Network.{run, start}
use Rattle.abt_network.specs.Standing.{standing_of, StandsAt}
use Rattle.abt_session.specs.Answers.{first_answers}
use Rattle.abt_session.specs.Sessions.{network_after}
use Rattle.abt_session.proofs.Pieces.{wrote_as}
use Rattle.line_story.proofs.Runs.{s, at_start, cut_off, ends_capped, ends_closed, ends_spent, event_as, few, goes_on, stands_last, wrote_all}
use Rattle.line_story.proofs.teller.Teller.deliver_all.Goals as goal

pub loop-made-init : goal.loop-made-init
loop-made-init g c = record {
  far = at_start c.args.self.now.model.problem.now c.args.most (g.C.Choices.answers c.args.choices.now) c.args.self.now.file.now (option_copied c.args.self.now.model.order) c.args.self.now.network (g.F.Folder.place c.args.folder.now) c.requires.starts;
  ready = c.requires.ready;
  same = record { order = refl; problem = refl; file = refl };
  created = refl;
}

pub returns-in-Refuted-clause-wrote : goal.returns-in-Refuted-clause-wrote
returns-in-Refuted-clause-wrote g c = λ out.
    let i = c.loop-made.invariant in
    let P = c.args.self.now.model.problem.now in
    let answers = g.C.Choices.answers c.args.choices.now in
    let file = c.args.self.now.file.now in
    let order = option_copied c.args.self.now.model.order in
    let net = network_after (s P c.args.most answers file order) c.loop-made._made in
    let st : c.state.result ≡ standing_of (csp_of P) net = c.state.ensures.machine net i.far.stands i.ready.sound ∙ ap (λ (q : Contents). standing_of (csp_of q) net) (i.ready.problem ∙ i.same.problem) in
    wrote_all P c.args.most answers file order c.loop-made._made _ _ _ _ i.far _ out (ends_closed P c.args.most answers file order c.loop-made._made _ _ _ _ i.far c.state.result st c.in-Refuted.is)

pub returns-in-Refuted-clause-stands : goal.returns-in-Refuted-clause-stands
returns-in-Refuted-clause-stands g c =
    let i = c.loop-made.invariant in
    let P = c.args.self.now.model.problem.now in
    let answers = g.C.Choices.answers c.args.choices.now in
    let file = c.args.self.now.file.now in
    let order = option_copied c.args.self.now.model.order in
    let net = network_after (s P c.args.most answers file order) c.loop-made._made in
    let st : c.state.result ≡ standing_of (csp_of P) net = c.state.ensures.machine net i.far.stands i.ready.sound ∙ ap (λ (q : Contents). standing_of (csp_of q) net) (i.ready.problem ∙ i.same.problem) in
    stands_last P c.args.most answers file order c.loop-made._made _ _ _ _ i.far (ends_closed P c.args.most answers file order c.loop-made._made _ _ _ _ i.far c.state.result st c.in-Refuted.is)

pub returns-in_default-clause-wrote : goal.returns-in_default-clause-wrote
returns-in_default-clause-wrote g c = λ out.
    let i = c.loop-made.invariant in
    let P = c.args.self.now.model.problem.now in
    let answers = g.C.Choices.answers c.args.choices.now in
    let file = c.args.self.now.file.now in
    let order = option_copied c.args.self.now.model.order in
    wrote_all P c.args.most answers file order c.loop-made._made _ _ _ _ i.far _ out (ends_spent P c.args.most answers file order c.loop-made._made _ _ _ _ i.far c.loop-made-test.true c.next.result c.next.ensures.first c.in_default.is)

pub returns-in_default-clause-stands : goal.returns-in_default-clause-stands
returns-in_default-clause-stands g c =
    let i = c.loop-made.invariant in
    let P = c.args.self.now.model.problem.now in
    let answers = g.C.Choices.answers c.args.choices.now in
    let file = c.args.self.now.file.now in
    let order = option_copied c.args.self.now.model.order in
    stands_last P c.args.most answers file order c.loop-made._made _ _ _ _ i.far (ends_spent P c.args.most answers file order c.loop-made._made _ _ _ _ i.far c.loop-made-test.true c.next.result c.next.ensures.first c.in_default.is)

pub deliver-requires-clause-can : goal.deliver-requires-clause-can
deliver-requires-clause-can g c =
    let i = c.loop-made.invariant in
    record {
      begun = i.ready.begun;
      open_ = sym c.state.ensures.standing ∙ c.in-Open.is;
      few = few c.args.self.now.model.problem.now c.args.most (g.C.Choices.answers c.args.choices.now) c.args.self.now.file.now (option_copied c.args.self.now.model.order) c.loop-made._made _ _ _ _ i.far c.requires.most;
    }

pub deliver-requires-clause-on_run : goal.deliver-requires-clause-on_run
deliver-requires-clause-on_run g c =
    let i = c.loop-made.invariant in
    let done = take c.loop-made._made (first_answers c.args.most (g.C.Choices.answers c.args.choices.now)) in
    (done, subst (λ (q : Contents). StandsAt c.loop-made.self.network (run (csp_of q) done (start (csp_of q)))) (sym (i.ready.problem ∙ i.same.problem)) i.far.stands)

pub returns-in_err-deliver-clause-wrote : goal.returns-in_err-deliver-clause-wrote
returns-in_err-deliver-clause-wrote g c = λ out.
    let i = c.loop-made.invariant in
    let P = c.args.self.now.model.problem.now in
    let answers = g.C.Choices.answers c.args.choices.now in
    let file = c.args.self.now.file.now in
    let order = option_copied c.args.self.now.model.order in
    let net = network_after (s P c.args.most answers file order) c.loop-made._made in
    let at = i.ready.problem ∙ i.same.problem in
    let st : c.state.result ≡ standing_of (csp_of P) net = c.state.ensures.machine net i.far.stands i.ready.sound ∙ ap (λ (q : Contents). standing_of (csp_of q) net) at in
    let done = take c.loop-made._made (first_answers c.args.most answers) in
    let here = subst (λ (q : Contents). StandsAt c.loop-made.self.network (run (csp_of q) done (start (csp_of q)))) (sym at) i.far.stands in
    let wrote = wrote_as (event_as c.in-Some.choice done i.same.file i.same.order i.same.problem at) (c.in_err-deliver.ensures.wrote done out here) in
    cut_off P c.args.most answers file order c.loop-made._made _ _ _ _ i.far c.loop-made-test.true c.in-Some.choice c.next.result c.next.ensures.first c.in-Some.is (sym c.in-Open.is ∙ st) _ c.from_residual.result _ out wrote c.from_residual.ensures

pub loop-made-preserved : goal.loop-made-preserved
loop-made-preserved g c =
    let i = c.loop-made.invariant in
    let P = c.args.self.now.model.problem.now in
    let answers = g.C.Choices.answers c.args.choices.now in
    let file = c.args.self.now.file.now in
    let order = option_copied c.args.self.now.model.order in
    let net = network_after (s P c.args.most answers file order) c.loop-made._made in
    let at = i.ready.problem ∙ i.same.problem in
    let st : c.state.result ≡ standing_of (csp_of P) net = c.state.ensures.machine net i.far.stands i.ready.sound ∙ ap (λ (q : Contents). standing_of (csp_of q) net) at in
    let done = take c.loop-made._made (first_answers c.args.most answers) in
    let more = done ++ c.in-Some.choice ∷ [] in
    let here = subst (λ (q : Contents). StandsAt c.loop-made.self.network (run (csp_of q) done (start (csp_of q)))) (sym at) i.far.stands in
    let one = c.in_ok-deliver.ensures in
    record {
      far = goes_on P c.args.most answers file order c.loop-made._made _ _ _ _ i.far c.loop-made-test.true c.in-Some.choice c.next.result c.next.ensures.first c.in-Some.is (sym c.in-Open.is ∙ st) _ c.deliver.new.self.network _ _
          (λ out. wrote_as (event_as c.in-Some.choice done i.same.file i.same.order i.same.problem at) (one.wrote done out here))
          (subst (λ (q : Contents). StandsAt c.deliver.new.self.network (run (csp_of q) more (start (csp_of q)))) at (one.stands done here)) c.next.ensures.rest;
      ready = one.ready;
      same = record { order = one.same.order ∙ i.same.order; problem = one.same.problem ∙ i.same.problem; file = one.same.file ∙ i.same.file };
      created = one.created ∙ i.created;
    }

pub returns-clause-wrote : goal.returns-clause-wrote
returns-clause-wrote g c = λ out.
    let i = c.loop-made.invariant in
    let P = c.args.self.now.model.problem.now in
    let answers = g.C.Choices.answers c.args.choices.now in
    let file = c.args.self.now.file.now in
    let order = option_copied c.args.self.now.model.order in
    wrote_all P c.args.most answers file order c.loop-made._made _ _ _ _ i.far _ out (ends_capped P c.args.most answers file order c.loop-made._made _ _ _ _ i.far c.loop-made-test.false)

pub returns-clause-stands : goal.returns-clause-stands
returns-clause-stands g c =
    let i = c.loop-made.invariant in
    let P = c.args.self.now.model.problem.now in
    let answers = g.C.Choices.answers c.args.choices.now in
    let file = c.args.self.now.file.now in
    let order = option_copied c.args.self.now.model.order in
    stands_last P c.args.most answers file order c.loop-made._made _ _ _ _ i.far (ends_capped P c.args.most answers file order c.loop-made._made _ _ _ _ i.far c.loop-made-test.false)
