use Rattle.std.proofs.Common.{◌≡◌, ◌++◌, List, [], ℕ, refl, sym, ap, ◌∙◌, length, rules}
use Rattle.std.proofs.lemmas.List.{nil_from_length}
use Rattle.ngd_log.specs.Lent.{lent_in}
use Rattle.ngd_log.proofs.Standings.{feeds_line, feeds_memory, feeds_refused, joined_line, sound_line}
use Rattle.ngd_log.proofs.body.take_line.Goals.{in-Ok, in-Err}
use Rattle.ngd_log.proofs.body.take_line.Goals as goal

pub after_line-after-requires-clause-whole : goal.after_line-after-requires-clause-whole
after_line-after-requires-clause-whole c = joined_line c.args.body.now.part.items c.args.line.now c.deref.result.now (c.deref.ensures.value ∙ c.in-Ok.ensures.items) c.requires.sound.plain c.requires.whole

pub returns-clause-feeds : goal.returns-clause-feeds
returns-clause-feeds c =
    elim c.match-extend_from_slice.branch [
      | in-Ok w ↦ rw (w.body-is, w.after-is) (let after = w.after_line-after in feeds_line _ _ c.args.line.now w.deref.result.now [] (lent_in after.result.kind after.new.gathered) c.in_default.not-Refused (w.deref.ensures.value ∙ w.in-Ok.ensures.items) c.clear.ensures.items refl after.ensures.stands)
      | in-Err w ↦ rw (w.body-is, w.after-is) (feeds_memory _ _ c.args.line.now [] c.in_default.not-Refused refl c.clear.ensures.items refl)
    ]

pub returns-clause-sound : goal.returns-clause-sound
returns-clause-sound c =
    elim c.match-extend_from_slice.branch [
      | in-Ok w ↦ rw (w.body-is, w.after-is) (sound_line _ c.args.body.now.fed c.args.line.now c.requires.whole (w.after_line-after.ensures.within c.args.body.now.fed c.requires.sound.within) refl c.clear.ensures.items w.after_line-after.ensures.rising)
      | in-Err w ↦ rw (w.body-is, w.after-is) (sound_line _ c.args.body.now.fed c.args.line.now c.requires.whole tt refl c.clear.ensures.items tt)
    ]

pub returns-in-Refused-clause-feeds : goal.returns-in-Refused-clause-feeds
returns-in-Refused-clause-feeds c = feeds_refused c.in-Refused.field-0 _ _ c.args.line.now [] c.in-Refused.is c.in-Refused.is refl refl
