use Rattle.std.proofs.Common.{◌≡◌, ◌+◌, ◌++◌, ◌∷◌, [], true, false, sym, ap, subst, ◌∙◌, arith}
use Rattle.dcsp_rule.specs.Problems.{Contents, csp_of}
use Rattle.abt_defs.specs.Network.{run, start}
use Rattle.abt_network.specs.Standing.{StandsAt, reached}
use Rattle.abt_network.specs.Bodies.{shown}
use Rattle.abt_network.specs.Rooms.{delivery_in}
use Rattle.abt_network.proofs.Quiet.{is_open, few_steps}
use Rattle.abt_network.proofs.Fitting.{expects}
use Rattle.abt_network.proofs.Leading.{delivers_of, leads_of}
use Rattle.abt_network.proofs.body.NetworkBody.deliver.Goals as goal

pub pass_on-requires-clause-some : goal.pass_on-requires-clause-some
pass_on-requires-clause-some c = (is_open (shown c.args.self.now false) c.requires.can.open_).1

pub pass_on-requires-clause-few : goal.pass_on-requires-clause-few
pass_on-requires-clause-few c =
    let few = few_steps c.args.self.now c.denotes_csp.ensures.csp c.requires.kept in
    let most = c.requires.kept.few in
    omega (arith, few, most)

pub pass_on-requires-clause-expects : goal.pass_on-requires-clause-expects
pass_on-requires-clause-expects c =
    let b = c.args.self.now in
    let r = c.requires.kept.reached c.requires.can.begun in
    let most = c.requires.kept.few in
    let same = r.stands.deliveries in
    expects b.problem.now b.agents.items b.links b.steps r.choices c.denotes_csp.ensures.csp (sym r.stands.refuted ∙ (is_open (shown b false) c.requires.can.open_).0) (omega (arith, most, same)) r.stands.steps r.stands.parts c.requires.kept.tidy.seated c.requires.kept.tidy.stamped

pub overflow_add-self-2 : goal.overflow_add-self-2
overflow_add-self-2 c =
    let few = few_steps c.args.self.now c.denotes_csp.ensures.csp c.requires.kept in
    let most = c.requires.kept.few in
    let same = c.in_ok-pass_on.ensures.steps in
    let one = c.count_of.ensures.few in
    omega (arith, few, most, same, one)

pub returns-clause-delivers : goal.returns-clause-delivers
returns-clause-delivers c net st =
    let s = shown c.args.self.now false in
    let s' = shown (record c.pass_on.new.self { refuted = c.refutes-self.result; deliveries = c.pass_on.new.self.deliveries + 1; steps = c.pass_on.new.self.steps + c.count_of.result }) false in
    let done = c.in_ok-pass_on.ensures in
    delivers_of s s' net c.args.choice (delivery_in c.pass_on.new.room) st (done.passes net st) (record {
      problem = done.problem;
      refuted = c.refutes-self.ensures;
      deliveries = ap (λ k. k + 1) done.deliveries;
      steps = ap (λ k. k + c.count_of.result) done.steps ∙ ap (λ k. c.args.self.now.steps + k) c.count_of.ensures.count;
    })

pub returns-clause-leads : goal.returns-clause-leads
returns-clause-leads c choices st =
    let s = shown c.args.self.now false in
    let s' = shown (record c.pass_on.new.self { refuted = c.refutes-self.result; deliveries = c.pass_on.new.self.deliveries + 1; steps = c.pass_on.new.self.steps + c.count_of.result }) false in
    let open_ = is_open s c.requires.can.open_ in
    let few = few_steps c.args.self.now c.denotes_csp.ensures.csp c.requires.kept in
    let most = c.requires.kept.few in
    leads_of s s' choices c.args.choice (delivery_in c.pass_on.new.room) c.denotes_csp.ensures.csp c.denotes_csp.ensures.problem (omega (arith, few, most)) open_.0 open_.1 c.requires.kept.tidy.sized.linked st (returns-clause-delivers c (reached s choices) st)

pub returns-clause-kept : goal.returns-clause-kept
returns-clause-kept c =
    let s = shown c.args.self.now false in
    let s' = shown (record c.pass_on.new.self { refuted = c.refutes-self.result; deliveries = c.pass_on.new.self.deliveries + 1; steps = c.pass_on.new.self.steps + c.count_of.result }) false in
    let done = c.in_ok-pass_on.ensures in
    let few = c.requires.can.few in
    let same = done.deliveries in
    let r = c.requires.kept.reached c.requires.can.begun in
    record {
      tidy = record {
        sized = record { long = done.tidy.sized.long; linked = done.tidy.sized.linked };
        seated = done.tidy.seated;
        none_out = done.tidy.none_out;
        stamped = done.tidy.stamped;
      };
      few = omega (arith, few, same);
      blank = λ e. let z : true ≡ false = sym c.requires.can.begun ∙ sym done.begun ∙ e in cc;
      reached = λ e. record {
        choices = r.choices ++ c.args.choice ∷ [];
        stands = subst (λ (q : Contents). StandsAt s' (run (csp_of q) (r.choices ++ c.args.choice ∷ []) (start (csp_of q)))) (sym done.problem) (returns-clause-leads c r.choices r.stands).stands;
      };
    }

pub returns-clause-sized : goal.returns-clause-sized
returns-clause-sized c = record { long = c.in_ok-pass_on.ensures.sized.long; linked = c.in_ok-pass_on.ensures.sized.linked }

pub returns-clause-begun : goal.returns-clause-begun
returns-clause-begun c = c.in_ok-pass_on.ensures.begun ∙ c.requires.can.begun
