use Rattle.std.proofs.lemmas.List.Elements.{Contains-push}
use Rattle.bench_parts.proofs.appends.append_all.Goals as goal

pub loop-made-init : goal.loop-made-init
loop-made-init g c = rw c.in_ok-create.ensures.created (Contains-push _ _)
