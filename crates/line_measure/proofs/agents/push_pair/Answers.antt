use Rattle.std.proofs.Common.{◌≡◌, ◌<◌, ◌++◌, List, ℕ, subst, sym, arith}
use Rattle.std.specs.Prelude.{OnOk}
use Rattle.line_measure.proofs.Growing.{bytes_last, piece_more}
use Rattle.line_measure.proofs.LearnedLines.{learned_none, learned_some}
use Rattle.line_measure.proofs.agents.push_pair.Goals as goal

pub returns-then-count-eq0 : goal.returns-then-count-eq0
returns-then-count-eq0 c = learned_none c.args.learner c.args.owner c.args.count c.args.size c.args.into.now.items (omega arith)

pub returns : goal.returns
returns c =
    let old = c.args.into.now.items in
    let some : 0 < c.args.count = omega arith in
    let owner = piece_more old _ _ _ _ c.in_ok-push_number.ensures c.in_ok-push_number-2.ensures in
    let count = piece_more old _ _ _ _ owner c.in_ok-push_number-3.ensures in
    let size = piece_more old _ _ _ _ count c.in_ok-push_number-4.ensures in
    let line = bytes_last c.extend_from_slice.result old _ _ _ _ size c.extend_from_slice.ensures.items in
    subst (λ (t : List ℕ). OnOk c.extend_from_slice.result (c.extend_from_slice.new.self.items ≡ old ++ t)) (sym (learned_some c.args.learner c.args.owner c.args.count c.args.size some)) line
