-- A refuted run ends in the empty nogood.
use Rattle.std.proofs.Common.{◌≡◌, ℕ, zero, suc, ◌-◌, true, false, cond, List, [], ◌∷◌, ◌++◌, Option, Some, None, slice_get, ◌%◌, length, refl, option_to_list, find, arith, length-append}
use Rattle.std.specs.List.{enumerate_from}
use Rattle.dcsp_defs.specs.Csp.{Csp, Constraint, count}
use Rattle.dcsp_defs.specs.declared.Step.{Step}
use Rattle.dcsp_defs.specs.Derivation.{EndsEmpty}
use Rattle.abt_defs.specs.Agents.{Message}
use Rattle.abt_defs.specs.Steps.{Outcome, settle, receive}
use Rattle.abt_defs.specs.Network.{Network, ready, deliver, deliver_at, deliver_head, acted, left, next_number, refutes, run, start, start_by, settle_below, empty_network, is_empty, is_false}
use Rattle.dcsp_defs.proofs.Lists.{get-last}
use Rattle.law_agent.specs.StepsRight.{RefutedRefutes}
use Rattle.law_agent.proofs.StepRuns.{steps_right}

empty-nil : {X : Type 0} → (xs : List X) → is_empty xs ≡ true → xs ≡ []
empty-nil [] h = refl
empty-nil (x ∷ xs) h = cc

-- the last step of these is s
ends_more : (steps : List Step) (s : Step) → s.nogood ≡ [] → EndsEmpty (steps ++ s ∷ [])
ends_more steps s h =
    let n : length (steps ++ s ∷ []) - 1 ≡ length steps = omega (arith, length-append steps (s ∷ [])) in
    rw (n, get-last steps s) h

Closed : Network → Type 0
Closed net = net.refuted ≡ true → EndsEmpty net.steps

closed_act : (i : ℕ) (o : Outcome) (net : Network) → Closed (acted i o net)
unfolding Closed
closed_act i o net f = by_step o.step f
  where
    by_step : (s : Option Step) → refutes s ≡ true → EndsEmpty (net.steps ++ option_to_list s)
    by_step None g = cc
    by_step (Some s) g = ends_more net.steps s (empty-nil s.nogood g)

closed_at : (p : Csp) (o : Option (ℕ × ℕ)) (net : Network) → Closed net → Closed (deliver_at p o net)
closed_at p None net h = h
closed_at p (Some x) net h = by_list (net.links x.0 x.1)
  where
    by_list : (ms : List Message) → Closed (deliver_head p x.0 x.1 ms net)
    by_list [] = h
    by_list (m ∷ rest) = closed_act x.1 (receive p x.1 (next_number net) (net.agents x.1) x.0 m) (left x.0 x.1 rest net)

closed_run : (p : Csp) (cs : List ℕ) (net : Network) → Closed net → Closed (run p cs net)
closed_run p [] net h = h
closed_run p (c ∷ cs) net h = elim net.refuted as (λ b. Closed (cond b net (run p cs (deliver p c net)))) [
  | true ↦ h
  | false ↦ closed_run p cs (deliver p c net) (closed_at p (slice_get (ready p net) (c % length (ready p net))) net h)
]

closed_below : (p : Csp) (n : ℕ) → Closed (settle_below p n (empty_network p))
unfolding Closed
closed_below p zero = λ f. cc
closed_below p (suc i) =
    let net = settle_below p i (empty_network p) in
    elim net.refuted as (λ b. Closed (cond b net (acted i (settle p i (next_number net) (net.agents i)) net))) [
      | true ↦ closed_below p i
      | false ↦ closed_act i (settle p i (next_number net) (net.agents i)) net
    ]

closed_start : (p : Csp) (o : Option (ℕ × Constraint)) → Closed (start_by p o)
unfolding Closed
closed_start p None = closed_below p (count p)
closed_start p (Some x) = λ f. refl

pub refuted_refutes : (p : Csp) → RefutedRefutes p
unfolding Closed
refuted_refutes p ok cs f = record {
  right = steps_right p ok cs;
  ends = closed_run p cs (start p) (closed_start p (find (λ (x : ℕ × Constraint). is_false x.1) (enumerate_from 0 p.constraints))) f;
}
