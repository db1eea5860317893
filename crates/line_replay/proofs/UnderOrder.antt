-- What a run under an order means for the model's problem.
use Rattle.std.proofs.Common.{◌≡◌, ◌∙◌, ℕ, ◌<◌, List, length, Option, Some, None, refl, sym, subst}
use Rattle.std.specs.Prelude.{ℤ, pos}
use Rattle.dcsp_defs.specs.declared.Step.{Step}
use Rattle.dcsp_defs.specs.Csp.{IsCsp, IsSolution, count}
use Rattle.dcsp_defs.specs.Derivation.{IsDerivation, IsRefutation}
use Rattle.dcsp_rule.specs.Problems.{Contents, csp_of}
use Rattle.dcsp_problem.specs.WellFormed.{IsProblem}
use Rattle.dcsp_problem.proofs.OwnerLists.{get_or-map_below, length-map_below}
use Rattle.dcsp_problem.proofs.WellFormed.{is_csp}
use Rattle.dcsp_order.specs.Told.{ordered, steps_told, values_told, IsOrderFor}
use Rattle.dcsp_order.proofs.Solutions.{same_count, solutions_come}
use Rattle.dcsp_order.proofs.Steps.{derivations_come, refutations_come}
use Rattle.dcsp_order.proofs.Telling.{well_ordered}
use Rattle.abt_defs.specs.Network.{values}
use Rattle.abt_defs.specs.Runs.{Run}
use Rattle.line_replay.specs.Endings.{assigned, final_values}

module _ (order : Option (List ℕ)) (p : Contents) (ok : IsProblem p) (good : IsOrderFor order p) where
  -- the problem that is run is one
  pub ordered_csp : IsCsp (csp_of (ordered order p))
  ordered_csp = is_csp (ordered order p) (well_ordered order p ok good)

-- it has as many variables
pub ordered_count : (order : Option (List ℕ)) (p : Contents) → IsProblem p → IsOrderFor order p → count (csp_of (ordered order p)) ≡ count (csp_of p)
ordered_count None p ok good = refl
ordered_count (Some order) p ok good = same_count p ok order good

-- its solutions are, told by numbers, those of the model
pub solution_told : (order : Option (List ℕ)) (p : Contents) → IsProblem p → IsOrderFor order p → (v : ℕ → ℤ) → IsSolution (csp_of (ordered order p)) v → IsSolution (csp_of p) (values_told order v)
solution_told None p ok good v h = h
solution_told (Some order) p ok good v h = solutions_come p ok order good v h

-- and so are its derivations and refutations
pub derivation_told : (order : Option (List ℕ)) (p : Contents) → IsProblem p → IsOrderFor order p → (steps : List Step) → IsDerivation (csp_of (ordered order p)) steps → IsDerivation (csp_of p) (steps_told order steps)
derivation_told None p ok good steps h = h
derivation_told (Some order) p ok good steps h = derivations_come p ok order good steps h

pub refutation_told : (order : Option (List ℕ)) (p : Contents) → IsProblem p → IsOrderFor order p → (steps : List Step) → IsRefutation (csp_of (ordered order p)) steps → IsRefutation (csp_of p) (steps_told order steps)
refutation_told None p ok good steps h = h
refutation_told (Some order) p ok good steps h = refutations_come p ok order good steps h

-- the values at the end are those of the agents
pub final_value : (order : Option (List ℕ)) (p : Contents) → IsProblem p → IsOrderFor order p → (run : Run) (i : ℕ) → i < count (csp_of p) → assigned (final_values order p run) i ≡ values_told order (values run.net) i
final_value order p ok good run i l =
    get_or-map_below (values_told order (values run.net)) (count (csp_of (ordered order p))) i (pos 0) (subst (λ n. i < n) (sym (ordered_count order p ok good)) l)

-- and as many as the model has variables
pub final_count : (order : Option (List ℕ)) (p : Contents) → IsProblem p → IsOrderFor order p → (run : Run) → length (final_values order p run) ≡ length p.domains
final_count order p ok good run = length-map_below (values_told order (values run.net)) (count (csp_of (ordered order p))) ∙ ordered_count order p ok good
