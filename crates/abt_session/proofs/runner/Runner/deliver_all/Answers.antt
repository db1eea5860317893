use Rattle.std.proofs.Common.{◌+◌, ◌≡◌, ◌∷◌, [], sym, ap, ◌∙◌, refl, arith}
use Rattle.law_runs.specs.Stops.{list_number}
use Rattle.dcsp_rule.specs.Problems.{csp_of}
use Rattle.dcsp_script.specs.Outsides.{world}
use Rattle.abt_session.specs.Sessions.{network_after}
use Rattle.abt_session.specs.Running.{order_of, session_for}
use Rattle.abt_session.proofs.Pieces.{wrote_as}
use Rattle.abt_session.proofs.Turns.{first_turn, next_turn, cut_off, halts_refuted, halts_solved, halts_spent, halts_capped, is_open, none_found, choice_found, few_made, on_run, task_writes, keeps_same, with_answers}
use Rattle.abt_session.proofs.runner.Runner.deliver_all.Goals as goal

pub loop-made-init : goal.loop-made-init
loop-made-init g c =
    let old = c.args.self.now in
    let answers = g.C.Choices.answers c.args.choices.now in
    let s = session_for old.network.problem answers old.task in
    record {
      turns = first_turn s old.task.keep old.network old.taken answers (world g.F.Folder.place g.S.Sink.stream c.args.outside.now) c.requires.starts;
      same = record { problem = refl; most = refl; log = refl; telling = refl; keep = refl; order = refl };
      sound = c.requires.sound;
      begun = c.requires.begun;
      created = refl;
    }

pub returns-in-Refuted-clause-leaves : goal.returns-in-Refuted-clause-leaves
returns-in-Refuted-clause-leaves g c =
    let i = c.loop-made.invariant in
    halts_refuted _ _ _ _ _ _ _ _ _ _ i.turns i.sound (csp_of c.loop-made.self.network.problem) (sym c.in-Refuted.is ∙ c.state.ensures.machine _ i.turns.stands i.sound)

pub returns-in-Quiet-clause-leaves : goal.returns-in-Quiet-clause-leaves
returns-in-Quiet-clause-leaves g c =
    let i = c.loop-made.invariant in
    halts_solved _ _ _ _ _ _ _ _ _ _ i.turns i.sound (csp_of c.loop-made.self.network.problem) (ap csp_of i.same.problem) (sym c.in-Quiet.is ∙ c.state.ensures.machine _ i.turns.stands i.sound)

pub returns-in_default-clause-leaves : goal.returns-in_default-clause-leaves
returns-in_default-clause-leaves g c =
    let i = c.loop-made.invariant in
    let old = c.args.self.now in
    let answers = g.C.Choices.answers c.args.choices.now in
    let s = session_for old.network.problem answers old.task in
    let open_ = is_open (csp_of c.loop-made.self.network.problem) s.problem (ap csp_of i.same.problem) (network_after s c.loop-made._made) (sym c.in-Open.is ∙ c.state.ensures.machine _ i.turns.stands i.sound) in
    let used = none_found (order_of old.task) old.network.problem old.task.most answers old.task.log.now old.task.telling _ _ _ _ _ _ _ _ i.turns c.loop-made-test.true c.next.result c.next.ensures.first c.in_default.is in
    let turns = with_answers (g.C.Choices.answers c.next.new.self) i.turns (c.in_default.ensures.none refl) in
    halts_spent s _ _ _ _ _ _ _ _ _ turns i.sound open_ c.loop-made-test.true used

pub deliver_one-requires-clause-can : goal.deliver_one-requires-clause-can
deliver_one-requires-clause-can g c =
    let i = c.loop-made.invariant in
    let old = c.args.self.now in
    record {
      begun = i.begun;
      open_ = sym c.state.ensures.standing ∙ c.in-Open.is;
      few = few_made (order_of old.task) old.network.problem old.task.most (g.C.Choices.answers c.args.choices.now) old.task.log.now old.task.telling _ _ _ _ _ _ _ _ i.turns c.loop-made-test.true c.requires.most;
    }

pub deliver_one-requires-clause-on_run : goal.deliver_one-requires-clause-on_run
deliver_one-requires-clause-on_run g c =
    let i = c.loop-made.invariant in
    let old = c.args.self.now in
    on_run (order_of old.task) old.network.problem old.task.most (g.C.Choices.answers c.args.choices.now) old.task.log.now old.task.telling _ _ _ _ _ _ _ _ i.turns c.loop-made-test.true i.same.problem

pub returns-in_err-deliver_one-clause-leaves : goal.returns-in_err-deliver_one-clause-leaves
returns-in_err-deliver_one-clause-leaves g c =
    let i = c.loop-made.invariant in
    let old = c.args.self.now in
    let answers = g.C.Choices.answers c.args.choices.now in
    let s = session_for old.network.problem answers old.task in
    let q = csp_of c.loop-made.self.network.problem in
    let net = network_after s c.loop-made._made in
    let open_ = is_open q s.problem (ap csp_of i.same.problem) net (sym c.in-Open.is ∙ c.state.ensures.machine _ i.turns.stands i.sound) in
    let found = choice_found (order_of old.task) old.network.problem old.task.most answers old.task.log.now old.task.telling _ _ _ _ _ _ _ _ i.turns c.loop-made-test.true c.next.result c.in-Some.choice c.next.ensures.first c.in-Some.is in
    let wrote = wrote_as (task_writes q (net.deliveries + 1) c.in-Some.choice net i.same.order i.same.log i.same.telling) (c.in_err-deliver_one.ensures.wrote net i.turns.stands) in
    cut_off s old.task.keep c.loop-made._made c.in-Some.choice _ _ _ _ _ _ _ i.turns open_ found c.loop-made-test.true q (ap csp_of i.same.problem) _ c.from_residual.result _ _ _ _ wrote c.from_residual.ensures

pub loop-made-preserved : goal.loop-made-preserved
loop-made-preserved g c =
    let i = c.loop-made.invariant in
    let old = c.args.self.now in
    let answers = g.C.Choices.answers c.args.choices.now in
    let s = session_for old.network.problem answers old.task in
    let q = csp_of c.loop-made.self.network.problem in
    let net = network_after s c.loop-made._made in
    let open_ = is_open q s.problem (ap csp_of i.same.problem) net (sym c.in-Open.is ∙ c.state.ensures.machine _ i.turns.stands i.sound) in
    let found = choice_found (order_of old.task) old.network.problem old.task.most answers old.task.log.now old.task.telling _ _ _ _ _ _ _ _ i.turns c.loop-made-test.true c.next.result c.in-Some.choice c.next.ensures.first c.in-Some.is in
    let one = c.in_ok-deliver_one.ensures in
    let wrote = wrote_as (task_writes q (net.deliveries + 1) c.in-Some.choice net i.same.order i.same.log i.same.telling) (one.wrote net i.turns.stands) in
    let takes = keeps_same _ _ (list_number q c.in-Some.choice net ∷ []) i.same.keep (one.takes net i.turns.stands) in
    record {
      turns = next_turn s old.task.keep c.loop-made._made c.in-Some.choice _ _ _ _ _ _ _ i.turns open_ found c.loop-made-test.true q (ap csp_of i.same.problem) _ _ _ _ _ wrote (one.stands net i.turns.stands) takes c.next.ensures.rest;
      same = record {
        problem = one.same.problem ∙ i.same.problem;
        most = one.same.most ∙ i.same.most;
        log = one.same.log ∙ i.same.log;
        telling = one.same.telling ∙ i.same.telling;
        keep = one.same.keep ∙ i.same.keep;
        order = one.same.order ∙ i.same.order;
      };
      sound = one.sound;
      begun = one.begun;
      created = one.created ∙ i.created;
    }

pub returns-in-Refuted-state-clause-leaves : goal.returns-in-Refuted-state-clause-leaves
returns-in-Refuted-state-clause-leaves g c =
    let i = c.loop-made.invariant in
    halts_refuted _ _ _ _ _ _ _ _ _ _ i.turns i.sound (csp_of c.loop-made.self.network.problem) (sym c.in-Refuted-state.is ∙ c.state-2.ensures.machine _ i.turns.stands i.sound)

pub returns-in-Quiet-state-clause-leaves : goal.returns-in-Quiet-state-clause-leaves
returns-in-Quiet-state-clause-leaves g c =
    let i = c.loop-made.invariant in
    halts_solved _ _ _ _ _ _ _ _ _ _ i.turns i.sound (csp_of c.loop-made.self.network.problem) (ap csp_of i.same.problem) (sym c.in-Quiet-state.is ∙ c.state-2.ensures.machine _ i.turns.stands i.sound)

pub returns-in-Open-state-clause-leaves : goal.returns-in-Open-state-clause-leaves
returns-in-Open-state-clause-leaves g c =
    let i = c.loop-made.invariant in
    let old = c.args.self.now in
    let s = session_for old.network.problem (g.C.Choices.answers c.args.choices.now) old.task in
    let open_ = is_open (csp_of c.loop-made.self.network.problem) s.problem (ap csp_of i.same.problem) (network_after s c.loop-made._made) (sym c.in-Open-state.is ∙ c.state-2.ensures.machine _ i.turns.stands i.sound) in
    let full : c.loop-made._made ≡ old.task.most = let l = c.loop-made-test.false in let m = c.loop-made.auto._made-end in omega arith in
    halts_capped s _ _ _ _ _ _ _ _ _ i.turns i.sound open_ full
