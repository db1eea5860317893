-- What is read off a network between two deliveries.
use Rattle.std.proofs.Common.{◌≡◌, ℕ, ◌+◌, ◌<◌, ◌≤◌, Bool, true, false, cond, List, [], ◌∷◌, length, sym, ◌∙◌, ap, subst, arith, refl}
use Rattle.dcsp_defs.specs.Csp.{IsCsp}
use Rattle.abt_defs.specs.Network.{is_empty, IsSolved}
use Rattle.law_runs.proofs.Stall.{no_stall}
use Rattle.law_runs.proofs.Whole.{quiet_if_none}
use Rattle.law_runs.proofs.SizeRuns.{sizes_hold}
use Rattle.law_agent.specs.Stores.{IsBoundedStore}
use Rattle.law_agent.proofs.StoreRuns.{bounded_stores}
use Rattle.dcsp_rule.specs.Problems.{csp_of}
use Rattle.abt_agent.specs.States.{stands_for}
use Rattle.abt_links.specs.Transit.{ready_pairs}
use Rattle.abt_network.specs.declared.Standing.TheVariants.{Open, Quiet, Refuted}
use Rattle.abt_network.specs.Standing.{NetworkState, StandsAt, state_at, reached, standing_in}
use Rattle.abt_network.specs.declared.body.NetworkBody.{NetworkBody}
use Rattle.abt_network.specs.Bodies.{IsKept}
use Rattle.abt_network.proofs.Delivering.{same_ready}

none_empty : {X : Type 0} (l : List X) → length l ≡ 0 → is_empty l ≡ true
none_empty [] h = refl
none_empty (x ∷ xs) h = absurd (omega arith)

some_not : {X : Type 0} (l : List X) → is_empty l ≡ false → 0 < length l
some_not [] h = cc
some_not (x ∷ xs) h = omega arith

-- where a delivery can be made, nothing is refuted and some list is ready
pub is_open : (s : NetworkState) → standing_in s ≡ Open → (s.refuted ≡ false) × (0 < length (ready_pairs s.links))
is_open s h = by s.refuted refl h
  where
    inner : (e : Bool) → is_empty (ready_pairs s.links) ≡ e → cond e Quiet Open ≡ Open → 0 < length (ready_pairs s.links)
    inner true q g = cc
    inner false q g = some_not (ready_pairs s.links) q

    by : (r : Bool) → s.refuted ≡ r → cond r Refuted (cond (is_empty (ready_pairs s.links)) Quiet Open) ≡ Open → (s.refuted ≡ false) × (0 < length (ready_pairs s.links))
    by true q g = cc
    by false q g = (q, inner (is_empty (ready_pairs s.links)) refl g)

-- in a quiet network the values are a solution
pub solved : (s : NetworkState) → IsCsp (csp_of s.problem) → s.links.agents ≡ length s.problem.domains → s.refuted ≡ false → length (ready_pairs s.links) ≡ 0
    → (choices : List ℕ) → StandsAt s (reached s choices) → IsSolved (csp_of s.problem) (reached s choices)
solved s ok linked unrefuted none choices st =
    no_stall (csp_of s.problem) ok choices (sym st.refuted ∙ unrefuted)
    (quiet_if_none (csp_of s.problem) (reached s choices) (ap is_empty (same_ready s.problem s.agents s.links (reached s choices) st.parts linked) ∙ none_empty (ready_pairs s.links) none))

pub bounded : (s : NetworkState) → IsCsp (csp_of s.problem) → (choices : List ℕ) → StandsAt s (reached s choices) → (i : ℕ) → i < length s.problem.domains → IsBoundedStore (csp_of s.problem) i (stands_for (state_at s.agents i))
bounded s ok choices st i l = subst (IsBoundedStore (csp_of s.problem) i) (sym (st.parts.states i l)) (bounded_stores (csp_of s.problem) ok choices i)

pub few_steps : (b : NetworkBody) → IsCsp (csp_of b.problem.now) → IsKept b → b.steps ≤ b.deliveries + 1
few_steps b ok kept = by b.begun refl
  where
    by : (x : Bool) → b.begun ≡ x → b.steps ≤ b.deliveries + 1
    by true e =
        let r = kept.reached e in
        let sizes = sizes_hold (csp_of b.problem.now) ok r.choices in
        let a = sizes.steps in let c = r.stands.steps in let d = r.stands.deliveries in
        omega (arith, a, c, d)
    by false e = let z = (kept.blank e).stands.steps in let y : b.steps ≡ 0 = z in omega arith
