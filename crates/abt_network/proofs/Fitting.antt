-- What may come to an agent of a reached network.
use Rattle.std.proofs.Common.{◌≡◌, ℕ, zero, suc, ◌+◌, ◌<◌, ◌≤◌, ◌^◌, List, [], ◌∷◌, map, length, refl, sym, ◌∙◌, ap, subst, false, inl, Some, arith, slice_get}
use Rattle.dcsp_defs.specs.declared.nogood.Pair.{Pair}
use Rattle.dcsp_defs.specs.Words.{In}
use Rattle.dcsp_defs.specs.Csp.{IsCsp}
use Rattle.dcsp_defs.specs.declared.Step.{Step}
use Rattle.dcsp_defs.specs.Derivation.{step_at}
use Rattle.abt_defs.specs.Agents.{Agent, Message, Tell, Refuse, AddLink}
use Rattle.abt_defs.specs.Steps.{receive}
use Rattle.abt_defs.specs.Network.{Network, run, start}
use Rattle.law_agent.proofs.Runs.{runs, started}
use Rattle.law_runs.proofs.SizeRuns.{sizes_hold}
use Rattle.law_runs.specs.Deliverable.{Deliverable, HasLowest}
use Rattle.law_runs.proofs.Takes.{all_deliverable}
use Rattle.law_runs.proofs.Joins.{reaches}
use Rattle.dcsp_rule.specs.Problems.{Contents, csp_of}
use Rattle.abt_parts.specs.declared.message.Message.{Message as TheMessage}
use Rattle.abt_parts.specs.declared.message.Message.TheVariants as code
use Rattle.abt_parts.specs.Messages.{message_of, with_stamps}
use Rattle.abt_parts.specs.Outgoing.{IsStamped}
use Rattle.abt_agent.specs.States.{State, stands_for, IsFit}
use Rattle.abt_parts.proofs.Lists.{plain-with_stamps}
use Rattle.abt_links.specs.Transit.{Transit}
use Rattle.abt_network.specs.Standing.{state_at, Stands}
use Rattle.abt_network.specs.Bodies.{AreStamped, IsSeated, ExpectsAll}

-- a step that is there has a number that is made
within : {X : Type 0} → (xs : List X) (k : ℕ) (x : X) → slice_get xs k ≡ Some x → k < length xs
within [] zero x h = cc
within [] (suc k) x h = cc
within (y ∷ ys) zero x h = omega arith
within (y ∷ ys) (suc k) x h = let ih = within ys k x h in omega arith

made : (steps : List Step) (k : ℕ) (s : Step) → step_at steps k ≡ Some s → k < length steps + 1
made steps zero s h = cc
made steps (suc k) s h = let l = within steps k s h in omega arith

fit : (p : Contents) (net : Network) (from to : ℕ) (m : TheMessage) → Deliverable (csp_of p) net → IsStamped m → In (message_of m) (net.links from to) → IsFit p to (length net.steps + 1) from m
fit p net from to (code.Tell value stamp) d s u =
    let t = d.messages from to (Tell (record { value = value; stamp = stamp })) u in
    record { higher = t.higher; value_in = t.value_in; stamped = t.stamped }
fit p net from to (code.Refuse nogood stamps step) d s u =
    let r = d.messages from to (Refuse step (with_stamps nogood stamps)) u in
    let same = plain-with_stamps nogood stamps in (
      record {
        lowest = subst (λ (pairs : List Pair). HasLowest pairs to) same r.lowest;
        values = λ y v. r.values y (subst (In y) (sym same) v);
        stamped = s;
      },
      made net.steps step r.of_step.0 r.of_step.1,
    )
fit p net from to code.AddLink d s u = let a = d.messages from to AddLink u in (a.lower, a.exists)

pub expects : (p : Contents) (agents : List State) (t : Transit) (steps : ℕ) (choices : List ℕ) → IsCsp (csp_of p)
    → (run (csp_of p) choices (start (csp_of p))).refuted ≡ false → (run (csp_of p) choices (start (csp_of p))).deliveries ≤ 2 ^ 48
    → steps ≡ length (run (csp_of p) choices (start (csp_of p))).steps
    → Stands p agents t (run (csp_of p) choices (start (csp_of p))) → IsSeated p agents → AreStamped t → ExpectsAll p agents t (steps + 1)
expects p agents t steps choices ok unrefuted few counted stands seated stamped from to m rest sender receiver link =
    let net : Network = run (csp_of p) choices (start (csp_of p)) in
    let on : map message_of (m ∷ rest) ≡ net.links from to = ap (map message_of) (sym link) ∙ stands.lists from to in
    let there : In (message_of m) (net.links from to) = subst (In (message_of m)) on (inl refl) in
    let same : stands_for (state_at agents to) ≡ net.agents to = stands.states to receiver in
    let most = (sizes_hold (csp_of p) ok choices).stamps to in
    let stamp : (state_at agents to).stamp ≤ net.deliveries + 1 = subst (λ (a : Agent). a.stamp ≤ net.deliveries + 1) (sym same) most in
    let fits = fit p net from to m (all_deliverable (csp_of p) ok choices unrefuted) (stamped from to m (subst (In m) (sym link) (inl refl))) there in
    let reach = reaches (csp_of p) net from to (message_of m) (map message_of rest) receiver (runs (csp_of p) choices (start (csp_of p)) (λ f. started (csp_of p) ok f) unrefuted) (sym on) in
    record {
      fit = record {
        stamp = omega arith;
        fit = subst (λ (q : Contents). IsFit q (state_at agents to).me (steps + 1) from m) (sym (seated.problems to receiver))
            (subst (λ i. IsFit p i (steps + 1) from m) (sym (seated.seats to receiver))
            (subst (λ k. IsFit p to (k + 1) from m) (sym counted) fits));
      };
      receivers = subst (λ (a : Agent). (x : ℕ × Message) → In x (receive (csp_of p) to (steps + 1) a from (message_of m)).sent → x.0 < length p.domains) (sym same)
          (subst (λ k. (x : ℕ × Message) → In x (receive (csp_of p) to (k + 1) (net.agents to) from (message_of m)).sent → x.0 < length p.domains) (sym counted) reach.exists);
    }
