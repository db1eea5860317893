use Rattle.std.proofs.Common.{length, ◌≤◌}
use Rattle.fzn_item.proofs.ListsSoFar.{IsListSoFar}
use Rattle.fzn_item.proofs.lists.list_of.Given as goal

abbrev pub invariant-forms : goal.invariant-forms
invariant-forms g l = IsListSoFar g.F.Form.form l.close l.tokens l.list l.rest × (length l.rest ≤ length l.tokens)

abbrev pub decreases-forms : goal.decreases-forms
decreases-forms g l = length l.rest
