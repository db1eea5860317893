-- The numbers that were counted are those of the run.
use Rattle.std.proofs.Common.{◌≡◌, ◌∙◌, ℕ, Bool, true, false, cond, List, take, length, ◌≤◌, ◌⊎◌, inl, inr, refl, sym, ap, subst, arith}
use Rattle.std.proofs.lemmas.List.{take_all}
use Rattle.dcsp_defs.specs.Csp.{Csp}
use Rattle.abt_defs.specs.Network.{Network, is_empty, ready, start}
use Rattle.abt_defs.specs.Events.{Act, acts, later_acts, start_acts}
use Rattle.abt_defs.specs.Clocks.{all_checks, clock, constraints_alone, messages_alone}
use Rattle.abt_defs.specs.Measures.{most_in_transit, most_recorded}
use Rattle.law_runs.specs.Keeping.{MeasuresAgain}
use Rattle.abt_measure.specs.Totals.{totals_of}
use Rattle.abt_defs.specs.Runs.{End, Refuted, Solved, Capped, Spent, whole}
use Rattle.law_runs.specs.Stops.{Stops}
use Rattle.law_runs.specs.Replay.{Repeats}
use Rattle.law_runs.proofs.Stopping.{stops}
use Rattle.law_runs.proofs.Again.{replays}
use Rattle.law_runs.proofs.Keeping.{numbers_measure_alike}
use Rattle.abt_network.specs.declared.Standing.{Standing}
use Rattle.abt_network.specs.declared.Standing.TheVariants as standing
use Rattle.abt_network.specs.Standing.{standing_of}
use Rattle.abt_measure.specs.Whole.{used}
use Rattle.line_replay.specs.Asked.{most_deliveries}
use Rattle.line_replay.proofs.Outcomes.{list_answers}
use Rattle.line_measure.specs.declared.numbers.Numbers.{Numbers}
use Rattle.line_measure.specs.Numbers.{listed, numbers_by, numbers_of, run_under, standing_at, used_under}

-- how the network stands in which a run ends
pub standing_is : (p : Csp) (choices : List ℕ) → standing_of p (run_under p choices).net ≡ standing_at (run_under p choices).end
standing_is p choices = by_end (run_under p choices).end refl
  where
    law : Stops p most_deliveries choices (run_under p choices)
    law = stops p most_deliveries choices

    net : Network
    net = (run_under p choices).net

    stands : (a b : Bool) → net.refuted ≡ a → is_empty (ready p net) ≡ b → standing_of p net ≡ cond a standing.Refuted (cond b standing.Quiet standing.Open)
    stands a b e f = ap (λ x. cond x standing.Refuted (cond (is_empty (ready p net)) standing.Quiet standing.Open)) e ∙ ap (λ x. cond a standing.Refuted (cond x standing.Quiet standing.Open)) f

    refuted_so : (b : Bool) → net.refuted ≡ true → is_empty (ready p net) ≡ b → standing_of p net ≡ standing.Refuted
    refuted_so b e f = stands true b e f

    by_end : (e : End) → (run_under p choices).end ≡ e → standing_of p net ≡ standing_at e
    by_end Refuted e = refuted_so (is_empty (ready p net)) (law.ends.refuted.0 e) refl
    by_end Solved e = let s = law.ends.solved.0 e in stands false true s.0 s.1
    by_end Capped e = let o = (law.ends.capped.0 e).0 in stands false false o.alive o.in_transit
    by_end Spent e = let o = (law.ends.spent.0 e).0 in stands false false o.alive o.in_transit

-- ---- a run by its record

-- ends that differ in the choices that were left are told alike
same_end : (a b : End) → (b ≡ a) ⊎ ((a ≡ Capped) × (b ≡ Spent)) → standing_at b ≡ standing_at a
same_end a b (inl e) = ap standing_at e
same_end a b (inr h) = ap standing_at h.1 ∙ sym (ap standing_at h.0)

-- the numbers by what they are made of
abbrev made : Csp → Standing → Network → List Act → ℕ → List Act → Numbers
made p end net all recorded later = record {
  end = end;
  deliveries = net.deliveries;
  got = (totals_of p all).got;
  steps = length net.steps;
  constraints = (totals_of p all).constraints;
  nogoods = (totals_of p all).nogoods;
  concurrent = clock p all_checks all;
  concurrent_constraints = clock p constraints_alone all;
  longest_chain = clock p messages_alone all;
  recorded = recorded;
  transit = most_in_transit (start_acts p) later;
}

-- a record is measured as its run is
pub records_alike : (p : Csp) (choices : List ℕ) → numbers_of p (listed (run_under p choices).numbers) ≡ numbers_of p choices
unfolding numbers_of
records_alike p choices =
    let r = run_under p choices in
    let law : Stops p most_deliveries choices r = stops p most_deliveries choices in
    let few : length r.numbers ≤ most_deliveries = (let n = law.numbers in let m = law.at_most in omega arith) in
    let list : listed r.numbers ≡ r.numbers = list_answers most_deliveries r.numbers ∙ take_all most_deliveries r.numbers few in
    let again : Repeats r (whole p most_deliveries r.numbers) = replays p most_deliveries most_deliveries choices (omega arith) in
    let uses : used p most_deliveries r.numbers ≡ r.numbers = ap (λ (n : Network). take n.deliveries r.numbers) again.net ∙ take_all r.net.deliveries r.numbers (let n = law.numbers in omega arith) in
    let mine : take (length r.numbers) choices ≡ used p most_deliveries choices = ap (λ k. take k choices) law.numbers in
    let alike : MeasuresAgain p (used p most_deliveries choices) r.numbers = subst (λ l. MeasuresAgain p l r.numbers) mine (numbers_measure_alike p most_deliveries choices) in
    let next = whole p most_deliveries r.numbers in
    let one : made p (standing_at next.end) next.net (acts p r.numbers) (most_recorded p r.numbers (start p)) (later_acts p r.numbers (start p)) ≡ made p (standing_at r.end) next.net (acts p r.numbers) (most_recorded p r.numbers (start p)) (later_acts p r.numbers (start p)) =
    ap (λ e. made p e next.net (acts p r.numbers) (most_recorded p r.numbers (start p)) (later_acts p r.numbers (start p))) (same_end r.end next.end again.end) in
    ap (λ l. numbers_by p (run_under p l) (used_under p l)) list ∙ ap (numbers_by p next) uses
    ∙ one ∙ ap (λ n. made p (standing_at r.end) n (acts p r.numbers) (most_recorded p r.numbers (start p)) (later_acts p r.numbers (start p))) again.net
    ∙ ap (λ l. made p (standing_at r.end) r.net l (most_recorded p r.numbers (start p)) (later_acts p r.numbers (start p))) alike.acts
    ∙ ap (λ k. made p (standing_at r.end) r.net (acts p (used p most_deliveries choices)) k (later_acts p r.numbers (start p))) alike.recorded
    ∙ ap (made p (standing_at r.end) r.net (acts p (used p most_deliveries choices)) (most_recorded p (used p most_deliveries choices) (start p))) alike.later
