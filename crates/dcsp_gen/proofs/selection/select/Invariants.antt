use Rattle.std.proofs.Common.{◌≡◌, ◌++◌, drop, length}
use Rattle.abt_schedule.specs.Answers.{word_at}
use Rattle.dcsp_gen.specs.Selection.{selected, words_after}
use Rattle.dcsp_gen.proofs.selection.select.Given as goal

abbrev pub invariant-loop-place : goal.invariant-loop-place
invariant-loop-place g l = record {
  items : l.list.items ++ selected l.choosing.kept (word_at l.words) l.still (drop l.place l.things) ≡ selected l.choosing.kept (word_at l.initial.words) l.choosing.wanted l.things;
  words : words_after (length (drop l.place l.things)) (word_at l.words) ≡ words_after (length l.things) (word_at l.initial.words);
}
