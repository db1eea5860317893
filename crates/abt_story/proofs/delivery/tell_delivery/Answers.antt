use Rattle.std.proofs.Common.{◌≡◌, ◌∙◌, ◌++◌, ◌<◌, ℕ, List, ap, length, subst, sym}
use Rattle.std.specs.Prelude.{OnOk, option_copied}
use Rattle.std.proofs.lemmas.List.{length-map}
use Rattle.dcsp_defs.specs.Csp.{domain}
use Rattle.dcsp_rule.specs.Problems.{Contents, csp_of}
use Rattle.abt_defs.specs.Events.{Act}
use Rattle.abt_defs.specs.Network.{deliver}
use Rattle.abt_network.specs.Standing.{reached}
use Rattle.dcsp_order.specs.Told.{number_told}
use Rattle.abt_story.specs.Numbers.{facts_told}
use Rattle.abt_story.specs.Telling.{delivery_lines, facts, step_between}
use Rattle.abt_story.specs.Texts.{facts_text, lines_text}
use Rattle.abt_story.specs.Looking.{IsSeen}
use Rattle.abt_story.proofs.Deliveries.{a, head, is_made, receiver, same_receiver, some, told}
use Rattle.abt_story.proofs.delivery.tell_delivery.Goals as goal

pub look-requires-clause-receiver : goal.look-requires-clause-receiver
look-requires-clause-receiver c =
    let s = c.args.network.now in
    let r = c.requires.on_run in
    let net = reached s r.0 in
    let pair = c.ready_pair-from.result in
    receiver s r.0 r.1 c.args.choice c.ready.result pair.0 pair.1 (c.ready.ensures.machine net r.1 c.requires.sound) (c.ready_pair-from.ensures.machine net r.1 c.requires.sound)

pub look-requires-clause-some : goal.look-requires-clause-some
look-requires-clause-some c =
    let s = c.args.network.now in
    let r = c.requires.on_run in
    let net = reached s r.0 in
    let pair = c.ready_pair-from.result in
    some s r.0 r.1 c.args.choice c.ready.result pair.0 pair.1 (c.ready.ensures.machine net r.1 c.requires.sound) (c.ready_pair-from.ensures.machine net r.1 c.requires.sound)

pub tell_made-requires-clause-receiver : goal.tell_made-requires-clause-receiver
tell_made-requires-clause-receiver c =
    let s = c.args.network.now in
    let r = c.requires.on_run in
    let net = reached s r.0 in
    let pair = c.ready_pair-from.result in
    let n_is = c.ready.ensures.machine net r.1 c.requires.sound in
    let chosen = c.ready_pair-from.ensures.machine net r.1 c.requires.sound in
    let there = receiver s r.0 r.1 c.args.choice c.ready.result pair.0 pair.1 n_is chosen in
    let same = same_receiver s r.0 r.1 c.args.choice c.ready.result pair.0 pair.1 n_is chosen c.in_ok-delivery.delivery (c.in_ok-delivery.ensures.delivers net r.1).told in
    subst (λ j. j < length c.args.model.problem.now.domains) (sym same) (subst (λ (q : Contents). pair.1 < length q.domains) c.requires.problem there)

pub tell_made-requires-clause-long : goal.tell_made-requires-clause-long
tell_made-requires-clause-long c =
    let s = c.args.network.now in
    let r = c.requires.on_run in
    let net = reached s r.0 in
    let pair = c.ready_pair-from.result in
    let n_is = c.ready.ensures.machine net r.1 c.requires.sound in
    let chosen = c.ready_pair-from.ensures.machine net r.1 c.requires.sound in
    let first = head s r.0 r.1 c.args.choice c.ready.result pair.0 pair.1 n_is chosen in
    let seen = c.in_ok-before.ensures.seen net first.message first.rest r.1 first.is in
    let same = same_receiver s r.0 r.1 c.args.choice c.ready.result pair.0 pair.1 n_is chosen c.in_ok-delivery.delivery (c.in_ok-delivery.ensures.delivers net r.1).told in
    ap length seen.reasons ∙ length-map _ _ ∙ ap (λ (q : Contents). length (domain (csp_of q) pair.1)) c.requires.problem ∙ ap (λ j. length (domain (csp_of c.args.model.problem.now) j)) (sym same)

pub returns-clause-told : goal.returns-clause-told
returns-clause-told c = λ choices st.
    let order = option_copied c.args.model.order in
    let s = c.args.network.now in
    let net = reached s choices in
    let pair = c.ready_pair-from.result in
    let d = c.in_ok-delivery.delivery in
    let p = csp_of c.args.model.problem.now in
    let next = deliver (csp_of s.problem) c.args.choice net in
    let n_is = c.ready.ensures.machine net st c.requires.sound in
    let chosen = c.ready_pair-from.ensures.machine net st c.requires.sound in
    let first = head s choices st c.args.choice c.ready.result pair.0 pair.1 n_is chosen in
    let act : Act = a s choices st c.args.choice c.ready.result pair.0 pair.1 n_is chosen in
    let delivers = c.in_ok-delivery.ensures.delivers net st in
    let same = same_receiver s choices st c.args.choice c.ready.result pair.0 pair.1 n_is chosen d delivers.told in
    let seen = c.in_ok-before.ensures.seen net first.message first.rest st first.is in
    let mine = subst (λ j. IsSeen order p j act.came act.before c.in_ok-before.before) (sym same) (subst (λ (q : Contents). IsSeen order (csp_of q) pair.1 act.came act.before c.in_ok-before.before) c.requires.problem seen) in
    let made = is_made s choices st c.args.choice c.ready.result pair.0 pair.1 n_is chosen d c.in_ok-before.before.steps c.deliver.new.self.sent delivers.told c.in_ok-before.ensures.steps (c.in_ok-delivery.ensures.sends net st) in
    let lines = told s choices st c.args.choice c.ready.result pair.0 pair.1 n_is chosen order in
    let text = ap (λ j. facts_text next.deliveries (number_told order j) (facts_told order (facts order p (step_between net next) act))) same
    ∙ ap (λ (q : Contents). facts_text next.deliveries (number_told order pair.1) (facts_told order (facts order (csp_of q) (step_between net next) act))) (sym c.requires.problem)
    ∙ sym lines ∙ ap (λ (q : Contents). lines_text (delivery_lines order (csp_of q) c.args.choice net)) c.requires.problem in
    subst (λ (t : List ℕ). OnOk c.tell_made.result (c.tell_made.new.into.items ≡ c.args.into.now.items ++ t)) text (c.tell_made.ensures act net next delivers.stands mine made)
