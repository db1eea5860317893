-- A delivery of the code goes on with the run.
use Rattle.std.proofs.Common.{◌≡◌, ℕ, ◌+◌, ◌<◌, ◌≤◌, ◌^◌, List, [], ◌∷◌, ◌++◌, length, length-append, Option, None, Some, option_to_list, refl, sym, ◌∙◌, ap, subst, false, arith}
use Rattle.std.proofs.Math.Seq.{take-append_seam}
use Rattle.std.specs.Prelude.{IfSome}
use Rattle.dcsp_defs.specs.Csp.{Csp, IsCsp}
use Rattle.dcsp_defs.specs.Derivation.{IsDerivation, IsRight}
use Rattle.dcsp_defs.specs.declared.Step.{Step}
use Rattle.dcsp_defs.proofs.Lists.{get-last}
use Rattle.abt_defs.specs.Network.{Network, deliver, is_empty, refutes}
use Rattle.law_runs.specs.Replay.{GoesOn}
use Rattle.law_runs.proofs.Next.{continues}
use Rattle.dcsp_rule.specs.Problems.{Contents, csp_of}
use Rattle.dcsp_problem.specs.WellFormed.{IsProblem}
use Rattle.ngd_log.specs.StepText.{IsInRange}
use Rattle.abt_network.proofs.InRange.{right_in}
use Rattle.abt_links.specs.Transit.{ready_pairs}
use Rattle.abt_network.specs.declared.Delivery.{Delivery}
use Rattle.abt_network.specs.Standing.{NetworkState, Stands, StandsAt, reached, Delivers, LeadsOn, IsRightStep}
use Rattle.abt_network.specs.Passing.{PassesOn, steps_made}
use Rattle.abt_network.proofs.Delivering.{same_ready}

nonempty : {X : Type 0} (l : List X) → 0 < length l → is_empty l ≡ false
nonempty [] h = absurd (omega arith)
nonempty (x ∷ xs) h = refl

length_made : (o : Option Step) → length (option_to_list o) ≡ steps_made o
length_made None = refl
length_made (Some s) = refl

-- what the counts of the code become
pub record Counts (s s' : NetworkState) (d : Delivery) : Type 0 where
  pub problem : s'.problem ≡ s.problem
  pub refuted : s'.refuted ≡ refutes d.step
  pub deliveries : s'.deliveries ≡ s.deliveries + 1
  pub steps : s'.steps ≡ s.steps + steps_made d.step

pub delivers_of : (s s' : NetworkState) (net : Network) (choice : ℕ) (d : Delivery) → StandsAt s net → PassesOn s.problem s'.agents s'.links net choice d → Counts s s' d → Delivers s.problem s' net choice d
delivers_of s s' net choice d st h c = record {
  stands = record {
    parts = subst (λ (q : Contents). Stands q s'.agents s'.links (deliver (csp_of s.problem) choice net)) (sym c.problem) h.stands;
    refuted = c.refuted ∙ sym h.refuted;
    deliveries = c.deliveries ∙ ap (λ n. n + 1) st.deliveries ∙ sym h.deliveries;
    steps = c.steps ∙ ap (λ n. n + steps_made d.step) st.steps ∙ ap (λ n. length net.steps + n) (sym (length_made d.step)) ∙ sym (length-append net.steps (option_to_list d.step)) ∙ ap length (sym h.steps);
  };
  number = h.number;
  told = h.told;
  steps = h.steps;
  refuted = h.refuted;
}

-- the last step of a derivation is right after the others
last_right : (p : Csp) (steps : List Step) (o : Option Step) → IsDerivation p (steps ++ option_to_list o) → IsRightStep p steps o
last_right p steps None h = tt
last_right p steps (Some s) h = subst (λ (earlier : List Step). IsRight p earlier s) (take-append_seam steps (s ∷ [])) (h (length steps) s (get-last steps s))

-- and can stand in a log
last_in_range : (p : Contents) → IsProblem p → (steps : List Step) → length steps ≤ 2 ^ 62 → (o : Option Step) → IsRightStep (csp_of p) steps o → IfSome o IsInRange
last_in_range p ok steps few None h = tt
last_in_range p ok steps few (Some s) h = right_in p ok steps few s h

pub leads_of : (s s' : NetworkState) (choices : List ℕ) (choice : ℕ) (d : Delivery) → IsCsp (csp_of s.problem) → IsProblem s.problem → s.steps ≤ 2 ^ 62 → s.refuted ≡ false → 0 < length (ready_pairs s.links) → s.links.agents ≡ length s.problem.domains
    → StandsAt s (reached s choices) → Delivers s.problem s' (reached s choices) choice d → LeadsOn s s' choices choice d
leads_of s s' choices choice d ok problem few unrefuted some linked st h =
    let g : GoesOn (csp_of s.problem) choices choice (reached s choices) =
    continues (csp_of s.problem) ok choices choice (sym st.refuted ∙ unrefuted)
    (ap is_empty (same_ready s.problem s.agents s.links (reached s choices) st.parts linked) ∙ nonempty (ready_pairs s.links) some) in
    let e = h.stands.deliveries in
    let f = g.counted in
    let b = g.bound in
    let right = last_right (csp_of s.problem) (reached s choices).steps d.step (subst (IsDerivation (csp_of s.problem)) h.steps g.right) in
    let counted = st.steps in
    record {
      stands = subst (λ (x : Network). StandsAt s' x) (sym g.next) h.stands;
      bound = omega (arith, e, f, b);
      right = right;
      in_range = last_in_range s.problem problem (reached s choices).steps (omega arith) d.step right;
    }
