use Rattle.std.proofs.Common.{◌≡◌, ◌+◌, ℕ, suc, false, cond, get_or, List, length, sym, ap, ◌∙◌, arith}
use Rattle.ngd_check.proofs.Growing.{length_more}
use Rattle.ngd_rewrite.specs.Needed.{count_to}
use Rattle.ngd_rewrite.specs.Marks.{is_marked, number_in}
use Rattle.ngd_rewrite.proofs.Trimming.{numbers_more}
use Rattle.ngd_rewrite.proofs.trim.numbers_of.Goals as goal

pub loop-mark-preserved : goal.loop-mark-preserved
loop-mark-preserved c =
    let test = is_marked c.args.marks.now in
    let i = c.loop-mark.mark-index in
    let next : i + 1 ≡ suc i = omega arith in
    let count : c.in_ok-count.count ≡ count_to test (suc i) = c.in_ok-count.ensures ∙ ap (λ n. n + cond (get_or c.args.marks.now i false) 1 0) c.loop-mark.invariant.count in
    record {
      count = count ∙ ap (count_to test) (sym next);
      as_many = ap length c.in_ok-push_number.ensures ∙ (length_more c.loop-mark.numbers.items c.in_ok-count.count ∙ (ap suc c.loop-mark.invariant.as_many ∙ sym next));
      numbers = λ n l. ap (λ (xs : List ℕ). number_in xs n) c.in_ok-push_number.ensures ∙ numbers_more c.loop-mark.numbers.items c.in_ok-count.count (count_to test) i c.loop-mark.invariant.as_many c.loop-mark.invariant.numbers count n (omega (arith, l));
    }
