use Rattle.std.proofs.Common.{inl, inr}
use Rattle.line_replay.proofs.Outcomes.{ok_part}
use Rattle.line_replay.proofs.ending.push_end.Goals as goal

pub returns-in-Ok : goal.returns-in-Ok
returns-in-Ok c = rw (c.in-Solved.is, ← c.items.ensures) c.in-Ok.ensures

pub returns-in-Refuted : goal.returns-in-Refuted
returns-in-Refuted c = rw c.in-Refuted.is (ok_part c.extend_from_slice.result _ _ _ c.extend_from_slice.ensures.items)

pub returns-in-Spent : goal.returns-in-Spent
returns-in-Spent c =
    let grown = ok_part c.extend_from_slice-in-Spent.result _ _ _ c.extend_from_slice-in-Spent.ensures.items in
    elim c.in-Spent.is [ inl e ↦ rw e grown | inr e ↦ rw e grown ]
