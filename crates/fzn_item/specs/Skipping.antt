-- What stands in lists that are read and have no effect.
use Rattle.fzn_item.specs.Productions.{Production}
use Rattle.fzn_item.specs.Annotations.{IsNumber, IsInner}
use Rattle.fzn_item.specs.declared.annotation.Skipped.{Skipped}
use Rattle.fzn_item.specs.declared.annotation.Skipped.TheVariants as skipped

-- the forms of such a list
abbrev pub IsSkipped : Skipped → Production (Unit {0})
IsSkipped (skipped.Inner depth) = IsInner depth
IsSkipped skipped.Number = IsNumber
