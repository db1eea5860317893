use Rattle.std.proofs.Common.{◌≡◌, ℕ, ◌*◌, ◌<◌, ◌∙◌, ap, pos, length, get_or, map, arith, rules, SFits, w64}
use Rattle.std.specs.Prelude.{unsigned_abs}
use Rattle.std.proofs.lemmas.Int.{to_z-of_z}
use Rattle.std.proofs.lemmas.List.{get_or_default}
use Rattle.dcsp_rule.specs.declared.rule.Term.TheVariants.{Const}
use Rattle.dcsp_meaning.specs.Sums.{width_of}
use Rattle.dcsp_meaning.specs.declared.linear.TheConstants.{WIDEST}
use Rattle.dcsp_meaning.proofs.Steps.{greatest-end}
use Rattle.dcsp_rule.specs.Widths.{greatest_of}
use Rattle.dcsp_problem.proofs.WidthLaws.{width_here, is_wider, is_narrower}
use Rattle.dcsp_problem.proofs.widths.is_wide.Goals as goal

pub returns-then-width-gt-WIDEST : goal.returns-then-width-gt-WIDEST
returns-then-width-gt-WIDEST c =
    let k = c.loop-place.place in
    let coefs = c.args.coefs.now in
    let here : k < length coefs = omega arith in
    let fits : SFits w64 (get_or coefs k (pos 0)) = search rules in
    let said = simp to_z-of_z at c.plus_greatest-width.ensures in
    let at : c.greatest_of-greatest.result ≡ greatest_of c.args.domains.now (get_or c.args.terms.now k (Const (pos 0))) =
    c.greatest_of-greatest.ensures ∙ ap (greatest_of c.args.domains.now) (get_or_default c.args.terms.now k _ (Const (pos 0)) (omega (arith, here, c.requires.shape))) in
    let product = ap (λ (z : ℕ). unsigned_abs (get_or coefs k (pos 0)) * z) at in
    is_wider (width_of coefs (map (greatest_of c.args.domains.now) c.args.terms.now) c.args.total) WIDEST
    (omega (arith, said, product, width_here c.args.domains.now coefs c.args.terms.now k (Const (pos 0)) c.requires.shape here, c.loop-place.invariant.summed, c.if-width-gt-WIDEST.true))

pub loop-place-preserved : goal.loop-place-preserved
loop-place-preserved c =
    let k = c.loop-place.place in
    let coefs = c.args.coefs.now in
    let here : k < length coefs = omega arith in
    let fits : SFits w64 (get_or coefs k (pos 0)) = search rules in
    let said = simp to_z-of_z at c.plus_greatest-width.ensures in
    let at : c.greatest_of-greatest.result ≡ greatest_of c.args.domains.now (get_or c.args.terms.now k (Const (pos 0))) =
    c.greatest_of-greatest.ensures ∙ ap (greatest_of c.args.domains.now) (get_or_default c.args.terms.now k _ (Const (pos 0)) (omega (arith, here, c.requires.shape))) in
    let product = ap (λ (z : ℕ). unsigned_abs (get_or coefs k (pos 0)) * z) at in
    record {
      summed = omega (arith, said, product, width_here c.args.domains.now coefs c.args.terms.now k (Const (pos 0)) c.requires.shape here, c.loop-place.invariant.summed);
      fits = omega arith;
    }

pub returns : goal.returns
returns c =
    let greatest = map (greatest_of c.args.domains.now) c.args.terms.now in
    let end = greatest-end c.args.coefs.now greatest c.loop-place.place (omega arith) in
    is_narrower (width_of c.args.coefs.now greatest c.args.total) WIDEST (omega (arith, end, c.loop-place.invariant.summed, c.loop-place.invariant.fits))
