use Rattle.std.proofs.Common.{ℕ, length, ◌≤◌, ◌+◌, ◌*◌, List}
use Rattle.fzn_item.specs.Skipping.{IsSkipped}
use Rattle.fzn_item.specs.declared.annotation.Skipped.{Skipped}
use Rattle.fzn_item.specs.declared.annotation.Skipped.TheVariants as skipped
use Rattle.fzn_item.proofs.ListsSoFar.{IsListSoFar}
use Rattle.fzn_item.proofs.annotation.+annotations.Given as goal

-- how deep the forms of a list may be
abbrev pub depth_of : Skipped → ℕ
depth_of (skipped.Inner depth) = depth
depth_of skipped.Number = 0

abbrev pub decreases-inner : goal.decreases-inner
decreases-inner l = 5 * l.depth

abbrev pub decreases-form : goal.decreases-form
decreases-form l = 5 * depth_of l.skipped + 1

abbrev pub decreases-any_list : goal.decreases-any_list
decreases-any_list l = 5 * depth_of l.skipped + 2

abbrev pub decreases-annotation_end : goal.decreases-annotation_end
decreases-annotation_end l = 5 * l.depth + 3

abbrev pub decreases-inner_after : goal.decreases-inner_after
decreases-inner_after l = 5 * l.depth + 4

abbrev pub invariant-any_list-forms : goal.invariant-any_list-forms
invariant-any_list-forms l = (length l.rest ≤ length l.tokens) × ((vs : List (Unit {0})) × IsListSoFar (IsSkipped l.skipped) l.close l.tokens vs l.rest)

abbrev pub decreases-any_list-forms : goal.decreases-any_list-forms
decreases-any_list-forms l = length l.rest
