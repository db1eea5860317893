use Rattle.std.proofs.lemmas.Result.{err_from_is_err_and}
use Rattle.dcsp_defs.proofs.nogood.Nogood.merge_without.Goals as goal

pub returns-in_err-self-inside-clause-clash : goal.returns-in_err-self-inside-clause-clash
returns-in_err-self-inside-clause-clash c v a b e =
    let p = err_from_is_err_and c.from_residual.result c.from_residual.ensures.1 in
    rw (← c.self.view_is, ← c.other.view_is, ← c.deref.ensures.value, ← c.deref-2.ensures.value) (c.in_err-self-inside.ensures.clash v a b cc)
