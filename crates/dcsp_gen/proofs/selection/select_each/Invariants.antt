use Rattle.std.proofs.Common.{◌≡◌, ◌*◌}
use Rattle.abt_schedule.specs.Answers.{word_at}
use Rattle.dcsp_gen.specs.Lists.{lists_in}
use Rattle.dcsp_gen.specs.Selection.{selections, words_after}
use Rattle.dcsp_gen.proofs.selection.select_each.Given as goal

abbrev pub invariant-loop-done : goal.invariant-loop-done
invariant-loop-done l = record {
  lists : lists_in l.lists.items ≡ selections l.choosing.kept (word_at l.initial.words) l.choosing.wanted l.high l._done;
  words : word_at l.words ≡ words_after (l._done * l.high) (word_at l.initial.words);
}
