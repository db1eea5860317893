use Rattle.std.proofs.Common.{◌≡◌, ◌<◌, ◌∙◌, ap, length, None, ℕ, Option, arith}
use Rattle.std.proofs.lemmas.List.{length-set}
use Rattle.dcsp_defs.specs.Csp.{PartialAssignment, with_value}
use Rattle.abt_defs.specs.Agents.{values_in}
use Rattle.abt_parts.specs.Views.{view_of}
use Rattle.abt_reason.specs.Causes.{first_step}
use Rattle.abt_reason.specs.Kept.{own_at}
use Rattle.abt_reason.proofs.Loops.{done_more}
use Rattle.abt_reason.proofs.kept.search_items.Goals as goal

pub loop-k-preserved : goal.loop-k-preserved
loop-k-preserved c =
    let kept = c.loop-k.kept.items in
    let i = c.loop-k.k in
    let so_far = c.loop-k.invariant in
    let within : i < length kept = omega (arith, so_far.0, c.requires) in
    let found = λ (k : ℕ) (o : Option ℕ). o ≡ first_step (with_value c.args.seat.now.agent (own_at c.args.seat.now.domain.now k) (values_in (view_of c.args.seat.now.known.now.view.now))) c.args.items.now in (
      length-set kept i c.first_agreeing.result ∙ so_far.0,
      done_more found kept i c.first_agreeing.result None within so_far.1 (c.first_agreeing.ensures ∙ ap (λ (known : PartialAssignment). first_step known c.args.items.now) c.under-under.ensures),
    )
