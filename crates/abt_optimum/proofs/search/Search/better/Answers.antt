use Rattle.std.proofs.Common.{◌≡◌, ◌∙◌, false, sym, ap, subst}
use Rattle.abt_optimum.specs.Rounds.{better_than, is_done, known_of}
use Rattle.abt_optimum.specs.Searches.{SearchState, next_better}
use Rattle.abt_optimum.specs.Kept.{shown}
use Rattle.abt_optimum.proofs.RoundLists.{first_only}
use Rattle.abt_optimum.proofs.search.Search.better.Goals as goal

pub returns-clause-first : goal.returns-clause-first
returns-clause-first c =
    let s : SearchState = shown c.self.inside.problem.now c.self.inside.halves c.self.inside.rounds.items c.self.inside.values in
    let still = subst (λ (z : SearchState). is_done z.problem.aim z.rounds ≡ false) (sym c.self.view_is) c.requires in
    let same : c.better_than.result ≡ next_better s = c.better_than.ensures ∙ ap (better_than c.self.inside.problem.now c.self.inside.halves) (c.known.ensures ∙ ap known_of c.deref.ensures.value) in
    let rounds = ap (λ (z : SearchState). z.rounds) c.self.view_is in
    let both = first_only s still in
    (λ none. sym rounds ∙ both.0 (sym same ∙ none), λ first. same ∙ both.1 (rounds ∙ first))
