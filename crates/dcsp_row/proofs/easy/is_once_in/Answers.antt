use Rattle.std.proofs.Common.{ℕ, ◌≤◌, ◌+◌, ◌∙◌, cond, ap, sym, length, arith}
use Rattle.std.proofs.lemmas.Bool.Decides.{nat_tests}
use Rattle.dcsp_row.specs.Easy.{own_coefs}
use Rattle.dcsp_row.proofs.EasyLaws.{own_here, own_elsewhere}
use Rattle.dcsp_row.proofs.easy.is_once_in.Goals as goal

pub loop-place-preserved-then-not-is_variable : goal.loop-place-preserved-then-not-is_variable
loop-place-preserved-then-not-is_variable c =
    let other = sym c.is_variable.ensures ∙ c.if-not-is_variable.true in
    sym (ap (λ l. cond c.loop-place.found 1 0 + length l) (own_elsewhere c.args.var c.args.coefs.now c.args.terms.now c.loop-place.place _ c.requires c.loop-place-test.true other)) ∙ c.loop-place.invariant

pub returns-then-found : goal.returns-then-found
returns-then-found c =
    let own = sym c.is_variable.ensures ∙ c.if-not-is_variable.false in
    let here = ap (λ l. length l) (own_here c.args.var c.args.coefs.now c.args.terms.now c.loop-place.place _ c.requires c.loop-place-test.true own) in
    let one = ap {B = ℕ} (λ b. cond b 1 0) c.if-found.true in
    let many : 2 ≤ length (own_coefs c.args.var c.args.coefs.now c.args.terms.now) = omega (arith, here, one, c.loop-place.invariant) in
    grind (arith, nat_tests, many)

pub loop-place-preserved : goal.loop-place-preserved
loop-place-preserved c =
    let own = sym c.is_variable.ensures ∙ c.if-not-is_variable.false in
    let here = ap (λ l. length l) (own_here c.args.var c.args.coefs.now c.args.terms.now c.loop-place.place _ c.requires c.loop-place-test.true own) in
    let none = ap {B = ℕ} (λ b. cond b 1 0) c.if-found.false in
    omega (arith, here, none, c.loop-place.invariant)
