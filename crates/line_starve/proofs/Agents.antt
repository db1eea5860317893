-- Which run is starved: of which problem, and between which agents.
use Rattle.std.proofs.Common.{◌≡◌, ℕ, ◌+◌, ◌≤◌, Bool, List, [], ◌∷◌, length, None, Result, refl, sym, ap, inl, inr, arith}
use Rattle.std.specs.Prelude.{if◌then◌else◌}
use Rattle.std.proofs.lemmas.Bool.Decides.{eqb_tells}
use Rattle.dcsp_defs.specs.Words.{In}
use Rattle.dcsp_rule.specs.Problems.{Contents, csp_of}
use Rattle.dcsp_order.specs.Orders.{place_of, IsOrder}
use Rattle.abt_defs.specs.Bound.{message_bound}
use Rattle.abt_schedule.specs.Schedules.{schedule_text}
use Rattle.dcsp_script.specs.declared.stop.Stop.{Stop}
use Rattle.dcsp_script.specs.Scripts.{World}
use Rattle.dcsp_script.specs.Ways.{Wrote}
use Rattle.abt_input.specs.Inputs.{HasChoices}
use Rattle.line_starve.specs.StarvePromise.{most_starved, choices_of, starving_run, starved_script}
use Rattle.line_starve.specs.Starving.{IsReplayed}

-- a number that is not there has the place behind the last
place_absent : (order : List ℕ) (number : ℕ) → (In number order → ⊥) → place_of order number ≡ length order
place_absent [] number absent = refl
place_absent (first ∷ order) number absent = elim (eqb_tells number first) [
  | inl t ↦ absurd (absent (inl t.1))
  | inr t ↦
      let there = ap (λ (b : Bool). if b then 0 else place_of order number + 1) t.0 in
      let rest = place_absent order number (λ i. absent (inr i)) in
      omega (arith, there, rest)
]

-- so it is with a number that no variable has
pub place_behind : (order : List ℕ) (number : ℕ) → IsOrder (length order) order → length order ≤ number → length order ≡ place_of order number
place_behind order number good past = sym (place_absent order number (λ i. let low = good.inside number i in omega (arith, low, past)))

-- what holds of the run of this problem that starves this link
pub record StarvesRightly (p : Contents) (from to : ℕ) : Type 0 where
  pub schedule : HasChoices (schedule_text (choices_of p from to most_starved)) (choices_of p from to most_starved)
  pub replayed : IsReplayed None p from to most_starved
  pub bound : (starving_run p from to most_starved).net.deliveries ≤ message_bound (csp_of p)

-- the same run, by what its problem and its agents are
module _ (p q : Contents) (a b u v : ℕ) (problem : p ≡ q) (from : a ≡ u) (to : b ≡ v) where
  pub starved_as : {T : Type 0} {old new : World} {r : Result T Stop} (file : List ℕ) → Wrote (starved_script file p a b) old new r → Wrote (starved_script file q u v) old new r
  starved_as file w = rw (sym problem, sym from, sym to) w

  pub rightly_as : StarvesRightly p a b → StarvesRightly q u v
  rightly_as h = rw (sym problem, sym from, sym to) h
