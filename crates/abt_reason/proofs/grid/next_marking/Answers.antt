use Rattle.std.proofs.Common.{◌≡◌, ◌∙◌, ◌<◌, false, true, length, sym, ap, arith, inl, inr}
use Rattle.std.proofs.lemmas.Bool.{cases_lt}
use Rattle.dcsp_row.specs.Marks.{is_marked}
use Rattle.abt_reason.specs.Grids.{is_marked_at}
use Rattle.abt_reason.proofs.MarkLaws.{at_default}
use Rattle.abt_reason.proofs.grid.next_marking.Goals as goal

pub returns-then-has : goal.returns-then-has
returns-then-has c = λ q before after zero.
    let rows = c.args.rows.now in
    let value = c.args.cell.value in
    let next = c.loop-next.next in
    let here : next < length rows = c.loop-next-test.true in
    let marked : is_marked_at rows next value ≡ true = at_default rows next c.index-rows-next.result value here ∙ sym (ap (λ m. is_marked m value) c.index-rows-next.is) ∙ sym c.has.ensures ∙ c.if-has.true in (
      here,
      after next (omega arith) here ∙ marked,
      λ j l. elim (cases_lt c.args.cell.place j) [
        | inl past ↦ after j past (omega (arith, l, here)) ∙ c.loop-next.invariant j past l
        | inr not_past ↦ before j not_past
      ],
    )

pub loop-next-preserved : goal.loop-next-preserved
loop-next-preserved c = λ j past l.
    let rows = c.args.rows.now in
    let value = c.args.cell.value in
    let next = c.loop-next.next in
    let here : next < length rows = c.loop-next-test.true in
    let marked : is_marked_at rows next value ≡ false = at_default rows next c.index-rows-next.result value here ∙ sym (ap (λ m. is_marked m value) c.index-rows-next.is) ∙ sym c.has.ensures ∙ c.if-has.false in
    elim (cases_lt j next) [
      | inl below ↦ c.loop-next.invariant j past below
      | inr at ↦ let same : j ≡ next = omega (arith, l, at) in ap (λ n. is_marked_at rows n value) same ∙ marked
    ]

pub returns : goal.returns
returns c = λ q before after zero j l. elim (cases_lt c.args.cell.place j) [
  | inl past ↦ after j past l ∙ c.loop-next.invariant j past (omega (arith, l, c.loop-next-test.false))
  | inr not_past ↦ before j not_past
]
