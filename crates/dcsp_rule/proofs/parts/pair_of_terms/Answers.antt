use Rattle.std.proofs.Common.{◌≡◌, ◌+ℤ◌, ◌-ℤ◌, arith, refl, rules, w64, SFits}
use Rattle.std.specs.Int.{w128}
use Rattle.std.proofs.lemmas.Int.{to_z-of_z, ints}
use Rattle.dcsp_rule.proofs.PartLaws.{both_variables, first_variable, second_variable}
use Rattle.dcsp_rule.proofs.parts.pair_of_terms.Goals as goal

pub returns-in-Var-second : goal.returns-in-Var-second
returns-in-Var-second c =
    let t = c.from-total.result in
    let t_is : t ≡ c.args.compared.total = omega (arith, ints, c.from-total.ensures) in
    let t_fits : SFits w128 t = search rules in
    let small : SFits w64 c.args.compared.total = search rules in
    rw (to_z-of_z w128 t t_fits, t_is, c.in-Var.is, c.in-Var-second.is) (both_variables c.args.compared c.in-Var.var c.in-Var-second.other (omega (arith, ints, small)), refl)

pub returns-in-Const-second : goal.returns-in-Const-second
returns-in-Const-second c =
    let t = c.from-total.result in
    let v = c.from.result in
    let value = c.in-Const-second.value in
    let t_is : t ≡ c.args.compared.total = omega (arith, ints, c.from-total.ensures) in
    let v_is : v ≡ value = omega (arith, ints, c.from.ensures) in
    let t_fits : SFits w128 t = search rules in
    let v_fits : SFits w128 v = search rules in
    let small : SFits w64 c.args.compared.total = search rules in
    let small_value : SFits w64 value = search rules in
    let sum_fits : SFits w128 (t +ℤ v) = search rules in
    rw (to_z-of_z w128 t t_fits, to_z-of_z w128 v v_fits, to_z-of_z w128 (t +ℤ v) sum_fits, c.in-Var.is, c.in-Const-second.is)
    (first_variable c.args.compared c.in-Var.var value (t +ℤ v) (omega (arith, ints, t_is, v_is)) (omega (arith, ints, t_is, v_is, small, small_value)), refl)

pub returns-in-Var-second-2 : goal.returns-in-Var-second-2
returns-in-Var-second-2 c =
    let t = c.from-total.result in
    let v = c.from-in-Var-second-2.result in
    let value = c.in-Const.value in
    let t_is : t ≡ c.args.compared.total = omega (arith, ints, c.from-total.ensures) in
    let v_is : v ≡ value = omega (arith, ints, c.from-in-Var-second-2.ensures) in
    let t_fits : SFits w128 t = search rules in
    let v_fits : SFits w128 v = search rules in
    let small : SFits w64 c.args.compared.total = search rules in
    let small_value : SFits w64 value = search rules in
    let rest_fits : SFits w128 (t -ℤ v) = search rules in
    rw (to_z-of_z w128 t t_fits, to_z-of_z w128 v v_fits, to_z-of_z w128 (t -ℤ v) rest_fits, c.in-Const.is, c.in-Var-second-2.is)
    (second_variable c.args.compared c.in-Var-second-2.var value (t -ℤ v) (omega (arith, ints, t_is, v_is)) (omega (arith, ints, t_is, v_is, small, small_value)), refl)
