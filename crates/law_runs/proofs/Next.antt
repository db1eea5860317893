-- One delivery more.
use Rattle.std.proofs.Common.{◌≡◌, ℕ, ◌+◌, ◌≤◌, ◌%◌, true, false, cond, List, [], ◌∷◌, ◌++◌, Option, Some, None, length, length-append, slice_get, option_to_list, refl, sym, ap, ◌∙◌, subst, arith}
use Rattle.dcsp_defs.specs.Csp.{Csp}
use Rattle.dcsp_defs.specs.declared.Step.{Step}
use Rattle.dcsp_defs.specs.Derivation.{IsDerivation}
use Rattle.abt_defs.specs.Agents.{Message}
use Rattle.abt_defs.specs.Steps.{receive}
use Rattle.abt_defs.specs.Network.{Network, ready, deliver, deliver_at, deliver_head, next_number, run, start}
use Rattle.law_runs.proofs.BoundRuns.{goes_run, goes_start}
use Rattle.law_agent.proofs.StepRuns.{steps_right}
use Rattle.law_runs.specs.Replay.{Continues}
use Rattle.law_runs.proofs.Whole.{delivers_one}
use Rattle.law_runs.proofs.Below.{below_bound}

pub run_more : (p : Csp) (cs : List ℕ) (c : ℕ) (net : Network) → run p (cs ++ c ∷ []) net ≡ cond (run p cs net).refuted (run p cs net) (deliver p c (run p cs net))
run_more p [] c net = refl
run_more p (x ∷ xs) c net = (elim net.refuted as (λ b. net.refuted ≡ b → cond b net (run p (xs ++ c ∷ []) (deliver p x net)) ≡ (let end = cond b net (run p xs (deliver p x net)) in cond end.refuted end (deliver p c end))) [
  | true ↦ λ e. sym (ap (λ b. cond b net (deliver p c net)) e)
  | false ↦ λ e. run_more p xs c (deliver p x net)
]) refl

one_step : (p : Csp) (c : ℕ) (net : Network) → length (deliver p c net).steps ≤ length net.steps + 1
one_step p c net = by_pair (slice_get (ready p net) (c % length (ready p net)))
  where
    at_most_one : (o : Option Step) → length (net.steps ++ option_to_list o) ≤ length net.steps + 1
    at_most_one None = let e = length-append net.steps [] in omega arith
    at_most_one (Some s) = let e = length-append net.steps (s ∷ []) in omega arith

    by_list : (x : ℕ × ℕ) (ms : List Message) → length (deliver_head p x.0 x.1 ms net).steps ≤ length net.steps + 1
    by_list x [] = omega arith
    by_list x (m ∷ ms) = at_most_one (receive p x.1 (next_number net) (net.agents x.1) x.0 m).step

    by_pair : (o : Option (ℕ × ℕ)) → length (deliver_at p o net).steps ≤ length net.steps + 1
    by_pair None = omega arith
    by_pair (Some x) = by_list x (net.links x.0 x.1)

pub continues : (p : Csp) → Continues p
continues p ok cs c f t =
    let net = run p cs (start p) in
    let n : run p (cs ++ c ∷ []) (start p) ≡ deliver p c net = run_more p cs c (start p) ∙ ap (λ b. cond b net (deliver p c net)) f in
    record {
      next = n;
      counted = (delivers_one p c net t).0;
      bound = let l = below_bound p net (goes_run p cs (start p) (goes_start p ok)) f t in omega arith;
      right = subst (λ (z : Network). IsDerivation p z.steps) n (steps_right p ok (cs ++ c ∷ []));
      steps = one_step p c net;
    }
