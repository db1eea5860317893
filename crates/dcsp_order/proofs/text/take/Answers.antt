use Rattle.std.proofs.Common.{◌≡◌, ◌<◌, length, arith, true, false, ◌∙◌, sym, length-set, List, Bool}
use Rattle.std.proofs.lemmas.List.{get_or_default}
use Rattle.dcsp_order.specs.Taken.{flag_at}
use Rattle.dcsp_order.proofs.Placing.{absent_from, from_among, taken_more}
use Rattle.dcsp_order.proofs.text.take.Goals as goal

pub returns-then-index : goal.returns-then-index
returns-then-index c =
    let taken : List Bool = c.args.taken.now.items in
    let within : c.args.number < length taken = omega (arith, c.requires.within) in
    let here : flag_at taken c.args.number ≡ true = sym (c.index.ensures ∙ get_or_default taken c.args.number c.index.result.now false within) ∙ c.if-index.true in
    from_among c.args.number c.args.numbers.now.items (sym (c.requires.taken c.args.number within) ∙ here)

pub returns : goal.returns
returns c =
    let taken : List Bool = c.args.taken.now.items in
    let within : c.args.number < length taken = omega (arith, c.requires.within) in
    let here : flag_at taken c.args.number ≡ false = sym (c.index.ensures ∙ get_or_default taken c.args.number c.index.result.now false within) ∙ c.if-index.false in (
      absent_from c.args.number c.args.numbers.now.items (sym (c.requires.taken c.args.number within) ∙ here),
      c.in_ok-push.ensures.items,
      length-set taken c.args.number true,
      taken_more c.args.numbers.now.items c.push.new.self.items taken c.args.number c.requires.taken within c.in_ok-push.ensures.items,
    )
