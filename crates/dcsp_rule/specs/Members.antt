-- The numbers that a membership constraint asks about.
use Rattle.std.specs.Prelude.{ℤ, Bool, ◌&&◌, List, [], int_le}
use Rattle.dcsp_domain.specs.Sets.{has}
use Rattle.dcsp_rule.specs.declared.rule.Members.{Members}
use Rattle.dcsp_rule.specs.declared.rule.Members.TheVariants.{Between, Listed}

-- whether the number is one of the members
abbrev pub is_member : Members → ℤ → Bool
is_member (Between low high) value = int_le low value && int_le value high
is_member (Listed values) value = has values value

-- the listed values as they are written; a range lists none
abbrev pub values_of : Members → List ℤ
values_of (Between low high) = []
values_of (Listed values) = values
