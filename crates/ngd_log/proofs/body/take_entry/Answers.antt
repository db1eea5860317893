use Rattle.std.proofs.Common.{◌≡◌, ◌+◌, ◌-◌, ◌<◌, ◌≤◌, length, refl, rules, arith}
use Rattle.std.proofs.lemmas.List.{nil_from_length}
use Rattle.ngd_log.specs.EntryTexts.{entry_line}
use Rattle.ngd_log.specs.Lent.{entry_in}
use Rattle.ngd_log.specs.Pieces.{kept}
use Rattle.ngd_log.proofs.Standings.{feeds_entry, front_of, line_some, rising_front, sound_line, within_next}
use Rattle.ngd_log.proofs.body.take_entry.Goals as goal

pub overflow_sub-body : goal.overflow_sub-body
overflow_sub-body c =
    let place = c.in-Inside.place in
    let is = front_of place.version place.step c.args.piece.now c.in-Ok.rest.now (entry_in c.in-Ok.kind c.entry_front-read.new.gathered) c.in-Ok.ensures in
    let size = is.1 in
    omega (arith, size)

pub returns-clause-front : goal.returns-clause-front
returns-clause-front c =
    let b = c.args.body.now in
    let place = c.in-Inside.place in
    let zero : length b.part.items ≡ 0 = search rules in
    let none = nil_from_length b.part.items zero in
    let size = (front_of place.version place.step c.args.piece.now c.in-Ok.rest.now (entry_in c.in-Ok.kind c.entry_front-read.new.gathered) c.in-Ok.ensures).1 in
    feeds_entry (kept b) _ place c.after_entry.result c.in-Ok.kind c.entry_front-read.new.gathered c.args.piece.now c.in-Ok.rest.now c.in-Inside.is none c.in-Ok.ensures c.after_entry.ensures refl none (omega (arith, size)) refl

pub returns-clause-shorter : goal.returns-clause-shorter
returns-clause-shorter c =
    let place = c.in-Inside.place in
    let entry = entry_in c.in-Ok.kind c.entry_front-read.new.gathered in
    let is = front_of place.version place.step c.args.piece.now c.in-Ok.rest.now entry c.in-Ok.ensures in
    let size = is.1 in
    let some = line_some (entry_line place.step entry) is.0 in
    let less : length c.in-Ok.rest.now < length c.args.piece.now = omega (arith, size, some) in
    less

pub returns-clause-sound : goal.returns-clause-sound
returns-clause-sound c =
    let b = c.args.body.now in
    let place = c.in-Inside.place in
    let entry = entry_in c.in-Ok.kind c.entry_front-read.new.gathered in
    let zero : length b.part.items ≡ 0 = search rules in
    let none = nil_from_length b.part.items zero in
    let is = front_of place.version place.step c.args.piece.now c.in-Ok.rest.now entry c.in-Ok.ensures in
    let size = is.1 in
    let within = rw c.in-Inside.is at c.requires.sound.within in
    sound_line _ b.fed (entry_line place.step entry) is.0 (within_next place c.after_entry.result c.in-Ok.kind b.fed c.after_entry.ensures within) (omega (arith, size)) none (rising_front place.version place.step c.args.piece.now c.in-Ok.rest.now entry c.in-Ok.ensures)
