use Rattle.std.proofs.Common.{◌≡◌, ◌<◌, ◌≤◌, ◌∙◌, ℕ, ap, sym, true, length, arith}
use Rattle.std.proofs.lemmas.List.{get_or_default}
use Rattle.dcsp_row.specs.Marks.{is_marked}
use Rattle.abt_reason.specs.Grids.{is_marked_at}
use Rattle.abt_reason.proofs.MarkLaws.{at_default, marks_are}
use Rattle.abt_reason.proofs.grid.run_over.Goals as goal

pub returns-then-has : goal.returns-then-has
returns-then-has c =
    let rows = c.args.rows.now in
    let value = c.args.value in
    let place = c.loop-place.place in
    let here : place < length rows = c.loop-place-test.true in
    let inv = c.loop-place.invariant in
    let run = c.end_of_run.ensures in
    let end = c.min-end.result in
    let below : end ≤ c.loop-place.end = omega (arith, c.min-end.ensures) in
    let inside : end ≤ c.end_of_run.result = omega (arith, c.min-end.ensures) in
    let marked : (k : ℕ) → value ≤ k → k < end → is_marked_at rows place k ≡ true = λ k from l.
    at_default rows place c.index-rows-place.result k here ∙ sym (ap (λ m. is_marked m k) c.index-rows-place.is) ∙ run.same k from (omega (arith, l, inside))
    ∙ ap (λ m. is_marked m value) (c.index-rows-place.is ∙ get_or_default rows place c.index-rows-place.result c.index-rows-place-in-loop-place.result here ∙ sym c.index-rows-place-in-loop-place.is) ∙ sym c.has.ensures ∙ c.if-has.true in
    record {
      later = omega (arith, c.min-end.ensures, inv.later, run.later);
      most = omega (arith, below, inv.most);
      same = λ k from l.
          let within : k < c.args.values = omega (arith, l, below, inv.most) in (
            here,
            marks_are c.args.values rows place k here within ∙ marked k from l,
            λ j before.
                let first : j < length rows = omega (arith, before, here) in
                marks_are c.args.values rows j k first within ∙ inv.none k from (omega (arith, l, below)) j before,
          );
    }

pub returns : goal.returns
returns c = record {
  later = c.loop-place.invariant.later;
  most = c.loop-place.invariant.most;
  same = λ k from below j l.
      let within : k < c.args.values = omega (arith, below, c.loop-place.invariant.most) in
      marks_are c.args.values c.args.rows.now j k l within ∙ c.loop-place.invariant.none k from below j (omega (arith, l, c.loop-place-test.false));
}
