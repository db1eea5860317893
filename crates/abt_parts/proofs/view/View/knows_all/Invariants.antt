use Rattle.std.proofs.Common.{◌≡◌, true, take, ℤ, is_some}
use Rattle.std.specs.List.{list_all}
use Rattle.dcsp_defs.specs.Csp.{with_value}
use Rattle.abt_defs.specs.Agents.{values_in}
use Rattle.abt_parts.specs.Views.{view_of}
use Rattle.abt_parts.proofs.view.View.knows_all.Given as goal

abbrev pub invariant-loop-place : goal.invariant-loop-place
invariant-loop-place l = (v : ℤ) → list_all (λ k. is_some (with_value l.me v (values_in (view_of l.self)) k)) (take l.place l.variables) ≡ true
