use Rattle.std.proofs.Common.{◌≡◌, List, true, sym, subst, arith}
use Rattle.std.specs.Prelude.{◌↔◌}
use Rattle.abt_optimum.specs.declared.round.Round.{Round}
use Rattle.abt_optimum.specs.declared.best.BestEnd.TheVariants.{NoSolution}
use Rattle.abt_optimum.specs.Rounds.{is_done}
use Rattle.abt_optimum.specs.Searches.{SearchState}
use Rattle.abt_optimum.specs.Outcomes.{BeginsRefuted, EndsCapped, IsBestEnd}
use Rattle.abt_optimum.specs.Kept.{shown}
use Rattle.abt_optimum.proofs.Fewer.{few}
use Rattle.abt_optimum.proofs.SearchLaws.{end_is, no_solution_is}
use Rattle.abt_optimum.proofs.search.Search.outcome.Goals as goal

-- what is told of the search is so, as it was kept
so : (c : goal.After-drop-self-inside) → ((c.ends_capped.result ≡ true) ↔ EndsCapped c.self.inside.rounds.items) × IsBestEnd (shown c.self.inside.problem.now c.self.inside.halves c.self.inside.rounds.items c.self.inside.values) c.best_end-end.result
so c =
    let s : SearchState = shown c.self.inside.problem.now c.self.inside.halves c.self.inside.rounds.items c.self.inside.values in
    let over = subst (λ (z : SearchState). is_done z.problem.aim z.rounds ≡ true) (sym c.self.view_is) c.requires in
    let capped = subst (λ (rounds : List Round). (c.ends_capped.result ≡ true) ↔ EndsCapped rounds) c.deref.ensures.value c.ends_capped.ensures in
    (capped, subst (IsBestEnd s) (sym c.best_end-end.ensures) (end_is s c.self.invariant.search c.self.invariant.aim c.self.invariant.rising c.ends_capped.result over capped))

pub returns-clause-end : goal.returns-clause-end
returns-clause-end c = subst (λ (z : SearchState). IsBestEnd z c.best_end-end.result) c.self.view_is (so c).1

pub returns-clause-no_solution : goal.returns-clause-no_solution
returns-clause-no_solution c =
    let s : SearchState = shown c.self.inside.problem.now c.self.inside.halves c.self.inside.rounds.items c.self.inside.values in
    let both = so c in
    subst (λ (z : SearchState). BeginsRefuted z.rounds ↔ (c.best_end-end.result ≡ NoSolution)) c.self.view_is
    (no_solution_is s c.self.invariant.search c.self.invariant.aim c.self.invariant.rising c.best_end-end.result c.ends_capped.result c.best_end-end.ensures both.0 both.1)

pub returns-clause-few : goal.returns-clause-few
returns-clause-few c = let most = few _ _ (λ _. c.self.invariant.rising) _ c.self.invariant.search.rounds in rw (← c.self.view_is) (omega arith)
