use Rattle.std.proofs.Common.{ap, arith}
use Rattle.std.proofs.lemmas.List.{get_or_default}
use Rattle.abt_reason.specs.declared.named.Naming.{Naming}
use Rattle.abt_reason.specs.Named.{naming}
use Rattle.abt_reason.proofs.named.start_in_few.Goals as goal

pub returns-then-namings-start-clause-after : goal.returns-then-namings-start-clause-after
returns-then-namings-start-clause-after c = λ k d past within.
    let namings = c.args.namings.now in
    let start = c.loop-start.start in
    let rises = c.requires start k d past within in
    let same = ap (λ (n : Naming). n.var) (get_or_default namings start (naming 0 0) d c.loop-start-test.true) in
    omega (arith, rises, same, c.if-namings-start.true)
