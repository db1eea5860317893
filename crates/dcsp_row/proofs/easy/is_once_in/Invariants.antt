use Rattle.std.proofs.Common.{◌≡◌, ◌+◌, cond, length, drop}
use Rattle.dcsp_row.specs.Easy.{own_coefs}
use Rattle.dcsp_row.proofs.easy.is_once_in.Given as goal

abbrev pub invariant-loop-place : goal.invariant-loop-place
invariant-loop-place l = cond l.found 1 0 + length (own_coefs l.var (drop l.place l.coefs) (drop l.place l.terms)) ≡ length (own_coefs l.var l.coefs l.terms)
