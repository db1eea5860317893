use Rattle.std.proofs.Common.{◌≡◌, [], length, map}
use Rattle.std.specs.List.{flat_map}
use Rattle.dcsp_defs.specs.Words.{below}
use Rattle.dcsp_rule.specs.Problems.{csp_of}
use Rattle.law_runs.specs.Starts.{first_act}
use Rattle.abt_measure.specs.Measuring.{IsCounted, SameEvents}
use Rattle.abt_measure.proofs.StartLaws.{pairs_of}
use Rattle.abt_measure.proofs.starting.count_settlings.Given as goal

abbrev pub invariant-loop-agent : goal.invariant-loop-agent
invariant-loop-agent l = record {
  counted : IsCounted (csp_of l.network.problem) [] l.initial.measures → IsCounted (csp_of l.network.problem) (map (first_act (csp_of l.network.problem)) (below l.agent)) l.measures;
  events : SameEvents l.initial.measures l.measures;
  long : length l.measures.rows ≡ length l.initial.measures.rows;
  place : l.place ≡ length (flat_map (pairs_of (csp_of l.network.problem)) (below l.agent));
}
