use Rattle.std.proofs.Common.{◌+◌, [], refl}
use Rattle.ngd_log.proofs.LogLines.{tail}
use Rattle.ngd_log.proofs.Answered.{same_text, unequal_text}
use Rattle.ngd_log.proofs.Standings.{after_end, after_kind, after_bad, after_memory, rising_read}
use Rattle.ngd_log.specs.declared.standing.Standing.TheVariants.{Inside}
use Rattle.ngd_log.specs.Lent.{entry_in}
use Rattle.ngd_log.proofs.body.after_inside.Goals as goal

pub returns-then-eq-clause-stands : goal.returns-then-eq-clause-stands
returns-then-eq-clause-stands c = let is = c.no_entry.ensures in rw (is.standing, is.kind) (after_end c.args.place (c.args.place.line + 1) c.args.line.now [] (same_text c.args.line.now tail c.if-eq.ensures) refl)

pub returns-in-Ok-clause-stands : goal.returns-in-Ok-clause-stands
returns-in-Ok-clause-stands c = after_kind c.args.place c.after_entry.result c.args.line.now c.in-Ok.kind c.read_entry.new.gathered c.in-Ok.ensures c.after_entry.ensures

pub returns-in-Ok-clause-rising : goal.returns-in-Ok-clause-rising
returns-in-Ok-clause-rising c = rising_read c.args.place c.args.line.now (entry_in c.in-Ok.kind c.read_entry.new.gathered) c.in-Ok.ensures

pub returns-in-Err-Bad-clause-stands : goal.returns-in-Err-Bad-clause-stands
returns-in-Err-Bad-clause-stands c = let is = c.no_entry-in-Err-Bad.ensures in rw (is.standing, is.kind) (after_bad c.args.place c.args.line.now [] (rw c.in-Err-Bad.field-0-is at c.in-Err-Bad.ensures) (unequal_text c.args.line.now tail c.if-eq.ensures) c.requires.whole)

pub returns-in-Err-Memory-clause-stands : goal.returns-in-Err-Memory-clause-stands
returns-in-Err-Memory-clause-stands c = let is = c.no_entry-in-Err-Memory.ensures in rw (is.standing, is.kind) (after_memory (Inside c.args.place) c.args.line.now [])
