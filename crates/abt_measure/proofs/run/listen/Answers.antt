use Rattle.std.proofs.Common.{◌∙◌, Option, Some, None, IsSome, ap, sym, subst, refl, arith}
use Rattle.std.specs.Option.{option_copied, option_map}
use Rattle.dcsp_rule.specs.Problems.{csp_of}
use Rattle.abt_defs.specs.Events.{acts}
use Rattle.abt_parts.specs.declared.message.Message.{Message}
use Rattle.abt_parts.specs.Messages.{message_of}
use Rattle.abt_links.specs.Transit.{link_of}
use Rattle.abt_network.specs.Standing.{reached}
use Rattle.abt_network.proofs.Quiet.{is_open}
use Rattle.abt_measure.proofs.DeliveryLaws.{a, has_first, heard, receiver, some}
use Rattle.abt_measure.proofs.run.listen.Goals as goal

pub unwrap-message-requires : goal.unwrap-message-requires
unwrap-message-requires c =
    let s = c.args.network.now in
    let r = c.requires.on_run in
    let net = reached s r.choices in
    let full = some s r.choices r.stands c.args.choice c.ready.result c.ready_pair-from.result.0 c.ready_pair-from.result.1 (c.ready.ensures.machine net r.stands c.requires.sound) (c.ready_pair-from.ensures.machine net r.stands c.requires.sound) in
    let there : IsSome (option_copied c.first.result) = subst (λ (o : Option Message). IsSome o) (sym c.first.ensures.first) (has_first (link_of s.links c.ready_pair-from.result.0 c.ready_pair-from.result.1) full) in
    elim c.first.result as (λ o. IsSome (option_copied o) → IsSome o) [
      | None ↦ λ h. h
      | Some x ↦ λ h. refl
    ] there

pub receive-requires : goal.receive-requires
receive-requires c =
    let s = c.args.network.now in
    let r = c.requires.on_run in
    let net = reached s r.choices in
    let l = receiver s r.choices r.stands c.args.choice c.ready.result c.ready_pair-from.result.0 c.ready_pair-from.result.1 (c.ready.ensures.machine net r.stands c.requires.sound) (c.ready_pair-from.ensures.machine net r.stands c.requires.sound) in
    let e = c.requires.long in omega (arith, l, e)

pub returns-clause-learned : goal.returns-clause-learned
returns-clause-learned c = λ choices st h.
    let s = c.args.network.now in
    let net = reached s choices in
    let k = c.ready_pair-from.result.0 in
    let i = c.ready_pair-from.result.1 in
    let n_is = c.ready.ensures.machine net st c.requires.sound in
    let pair = c.ready_pair-from.ensures.machine net st c.requires.sound in
    let m = message_of c.unwrap-message.result.now in
    let first = c.first.ensures.machine net st ∙ ap (λ o. option_map message_of (option_copied o)) c.unwrap-message.ensures in
    heard s choices st c.args.choice c.ready.result k i n_is pair (sym st.refuted ∙ (is_open s c.requires.can.open_).0) c.receive.result m c.receive.new.self first
    (λ came. c.receive.ensures.learned (acts (csp_of s.problem) choices) (a s choices st c.args.choice c.ready.result k i n_is pair) h refl came)
