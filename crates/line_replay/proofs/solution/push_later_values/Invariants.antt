use Rattle.std.proofs.Common.{◌≡◌, ◌++◌, pos, codes, flat_map, take, slice_index_or}
use Rattle.dcsp_rule.specs.Rules.{value_under}
use Rattle.line_replay.specs.Solutions.{value_text}
use Rattle.line_replay.proofs.solution.push_later_values.Given as goal

abbrev pub invariant-loop-term : goal.invariant-loop-term
invariant-loop-term l =
    l.into.items ≡ l.initial.into.items ++ flat_map (λ term. codes ", " ++ value_text l.boolean (value_under (λ var. slice_index_or l.values var (pos 0)) term)) (take l.term-index l.terms)
