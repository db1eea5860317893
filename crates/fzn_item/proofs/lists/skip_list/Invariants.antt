use Rattle.std.proofs.Common.{length, ◌≤◌, ◌+◌}
use Rattle.fzn_item.proofs.ListsSoFar.{IsCountSoFar}
use Rattle.fzn_item.proofs.lists.skip_list.Given as goal

-- so many forms are read, of no more tokens than there were
abbrev pub invariant-forms : goal.invariant-forms
invariant-forms g l = IsCountSoFar g.F.Form.form l.close l.tokens l.count l.rest × (l.count + length l.rest ≤ length l.tokens)

abbrev pub decreases-forms : goal.decreases-forms
decreases-forms g l = length l.rest
