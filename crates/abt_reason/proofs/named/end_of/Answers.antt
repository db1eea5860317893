use Rattle.std.proofs.Common.{ap, arith}
use Rattle.std.proofs.lemmas.List.{get_or_default}
use Rattle.abt_reason.specs.declared.named.Naming.{Naming}
use Rattle.abt_reason.specs.Named.{naming}
use Rattle.abt_reason.proofs.named.end_of.Goals as goal

pub returns-then-namings-end-clause-after : goal.returns-then-namings-end-clause-after
returns-then-namings-end-clause-after c = λ k d past within.
    let namings = c.args.namings.now in
    let end = c.loop-end.end in
    let rises = c.requires.rising end k d past within in
    let same = ap (λ (n : Naming). n.var) (get_or_default namings end (naming 0 0) d c.loop-end-test.true) in
    omega (arith, rises, same, c.if-namings-end.true)
