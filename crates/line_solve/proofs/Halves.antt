-- A search by halves comes to what one without comes to.
use Rattle.std.proofs.Common.{◌≡◌, ◌≢◌, ◌∙◌, ℤ, true, false, List, refl, sym, ap, subst}
use Rattle.std.specs.Prelude.{◌↔◌}
use Rattle.dcsp_rule.specs.declared.aim.Aim.TheVariants.{Satisfy}
use Rattle.dcsp_script.specs.declared.status.Status.TheVariants.{No, Unfinished}
use Rattle.abt_optimum.specs.declared.best.BestEnd.{BestEnd}
use Rattle.abt_optimum.specs.declared.best.BestEnd.TheVariants.{Optimal, NoSolution, Open}
use Rattle.abt_optimum.specs.Best.{IsBest}
use Rattle.abt_optimum.proofs.Improving.{one_value}
use Rattle.line_solve.specs.Searching.{AskedSearch, IsAskable, whole_search}
use Rattle.line_solve.specs.BestAnswers.{found, best_status, search_status}
use Rattle.line_solve.specs.BestHeadline.{with_halves, HalvesChangeNothing}
use Rattle.line_solve.proofs.Verdicts.{is_best, is_refuted}

-- two ends have one status, where each is 1 exactly where the same is so, and neither is 5
same_status : (F : Type 0) (x y : BestEnd) → (best_status x ≡ No) ↔ F → (best_status y ≡ No) ↔ F → best_status x ≢ Unfinished → best_status y ≢ Unfinished → best_status x ≡ best_status y
same_status F (Optimal xs) (Optimal ys) h k n m = refl
same_status F (Optimal xs) NoSolution h k n m = h.1 (k.0 refl)
same_status F NoSolution (Optimal ys) h k n m = sym (k.1 (h.0 refl))
same_status F NoSolution NoSolution h k n m = refl
same_status F (Open xs) y h k n m = absurd (n refl)
same_status F x (Open ys) h k n m = absurd (m refl)

best_of : (asked : AskedSearch) → IsAskable asked → asked.problem.aim ≢ Satisfy → (values : List ℤ) → found (whole_search asked) ≡ Optimal values → IsBest asked.problem values
best_of asked ok aimed values e =
    let h = is_best asked ok aimed (search_status asked) refl (ap best_status e) in
    let same : h.0 ≡ values = (let both : Optimal h.0 ≡ Optimal values = sym h.1.printed ∙ e in cc) in
    subst (IsBest asked.problem) same h.1.best

pub changes_nothing : (asked : AskedSearch) → HalvesChangeNothing asked
changes_nothing asked ok aimed closed plain_closed =
    let halves = with_halves true asked in
    let plain = with_halves false asked in
    let fine : IsAskable halves = record { problem = ok.problem; order = ok.order } in
    let good : IsAskable plain = record { problem = ok.problem; order = ok.order } in
    record {
      status = same_status _ (found (whole_search halves)) (found (whole_search plain)) (is_refuted halves fine aimed (search_status halves) refl).exactly (is_refuted plain good aimed (search_status plain) refl).exactly closed plain_closed;
      value = λ xs ys e f. one_value asked.problem xs ys (best_of halves fine aimed xs e) (best_of plain good aimed ys f);
    }
