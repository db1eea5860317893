use Rattle.dcsp_domain.specs.Ranges.{count_between}
use Rattle.dcsp_domain.proofs.RangeLaws.{rising-numbers_from, length-numbers_from, numbers_between_has}
use Rattle.dcsp_domain.proofs.ranges_are_sets.Goals as goal

pub returns-clause-rising : goal.returns-clause-rising
returns-clause-rising c = λ low high. rising-numbers_from low (count_between low high)

pub returns-clause-length : goal.returns-clause-length
returns-clause-length c = λ low high. length-numbers_from low (count_between low high)

pub returns-clause-members : goal.returns-clause-members
returns-clause-members c = numbers_between_has
