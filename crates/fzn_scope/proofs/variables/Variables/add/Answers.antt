use Rattle.std.proofs.Common.{arith, length, refl}
use Rattle.std.proofs.lemmas.Int.{ints}
use Rattle.std.proofs.lemmas.List.Elements.{All-push}
use Rattle.fzn_scope.specs.declared.variables.Known.{Known}
use Rattle.fzn_scope.specs.Variables.{StandsFor}
use Rattle.fzn_scope.proofs.VariableLaws.{stands}
use Rattle.fzn_scope.proofs.variables.Variables.add.Goals as goal

pub returns : goal.returns
returns c scope all found =
    let known : Known = record { key = c.in-Some-of.key; variable = c.in-Some.variable; len = length c.args.name.now; boolean = c.in-Some.boolean } in
    let fits = stands scope known c.args.name.now (λ i. let byte = c.type_inv.name i in omega (arith, ints, byte)) (c.in-Some-of.ensures.has, refl, c.in-Some-of.ensures.key) (rw (c.in-Some.is) at found) in
    rw (c.push_reserved.ensures.items, c.point_to_next.ensures) (All-push (StandsFor scope) c.args.self.now.known.items known all fits)
