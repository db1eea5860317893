-- The measures of a run that speak of all agents.
use Rattle.std.specs.Prelude.{ℕ, List, Some, length, slice_get}
use Rattle.dcsp_defs.specs.Csp.{Csp}
use Rattle.abt_defs.specs.Network.{start}
use Rattle.abt_defs.specs.Runs.{End, Refuted, Solved, Capped, Spent, Run, whole}
use Rattle.abt_defs.specs.Events.{acts, later_acts, start_acts}
use Rattle.abt_defs.specs.Clocks.{all_checks, clock, constraints_alone, messages_alone}
use Rattle.abt_defs.specs.Measures.{most_in_transit, most_recorded}
use Rattle.abt_network.specs.declared.Standing.{Standing}
use Rattle.abt_network.specs.declared.Standing.TheVariants as standing
use Rattle.abt_schedule.specs.Answers.{generator_of, word_at}
use Rattle.abt_session.specs.Answers.{first_answers}
use Rattle.abt_measure.specs.Totals.{totals_of}
use Rattle.abt_measure.specs.Whole.{used}
use Rattle.line_replay.specs.Asked.{most_deliveries}
use Rattle.line_measure.specs.declared.numbers.Numbers.{Numbers}

-- ---- runs

-- the choices of a run under a list
abbrev pub listed : List ℕ → List ℕ
listed choices = first_answers most_deliveries (λ k. slice_get choices k)

-- those of a run under a seed, as `solve` makes it
abbrev pub seeded : ℕ → List ℕ
seeded seed = first_answers most_deliveries (λ k. Some (word_at (generator_of seed) k))

-- the run under these choices
abbrev pub run_under : Csp → List ℕ → Run
run_under p choices = whole p most_deliveries choices

-- the choices that it uses
abbrev pub used_under : Csp → List ℕ → List ℕ
used_under p choices = used p most_deliveries choices

-- ---- numbers

-- how the network stands in which a run ends: open where a message is in transit
abbrev pub standing_at : End → Standing
standing_at Refuted = standing.Refuted
standing_at Solved = standing.Quiet
standing_at Capped = standing.Open
standing_at Spent = standing.Open

-- of a run, by the choices that it uses
abbrev pub numbers_by : Csp → Run → List ℕ → Numbers
numbers_by p r choices = record {
  end = standing_at r.end;
  deliveries = r.net.deliveries;
  got = (totals_of p (acts p choices)).got;
  steps = length r.net.steps;
  constraints = (totals_of p (acts p choices)).constraints;
  nogoods = (totals_of p (acts p choices)).nogoods;
  concurrent = clock p all_checks (acts p choices);
  concurrent_constraints = clock p constraints_alone (acts p choices);
  longest_chain = clock p messages_alone (acts p choices);
  recorded = most_recorded p choices (start p);
  transit = most_in_transit (start_acts p) (later_acts p choices (start p));
}

-- of the run under these choices
unfoldable pub numbers_of : Csp → List ℕ → Numbers
numbers_of p choices = numbers_by p (run_under p choices) (used_under p choices)
