use Rattle.std.proofs.Common.{rules, arith, ◌<◌, ◌≤◌, length, refl, subst}
use Rattle.std.proofs.lemmas.Grind.{common_steps}
use Rattle.std.proofs.lemmas.Option.{slice_get_read}
use Rattle.abt_files.specs.Waiting.{NoneWaits}
use Rattle.std.proofs.lemmas.List.{take_all}
use Rattle.abt_files.proofs.Texts.{texts_stay, texts_next, both_ok}
use Rattle.abt_files.proofs.open_files.OpenFiles+D+D+File.write_waiting.Goals as goal

pub loop-place-init : goal.loop-place-init
loop-place-init g c = (search rules, search rules, texts_stay g.D.File.Write.contents c.args.self.now.files.items)

pub loop-place-preserved : goal.loop-place-preserved
loop-place-preserved g c =
    let files = c.loop-place.self.files.items in
    let inside : c.loop-place.place < length files = search rules in
    let is = slice_get_read files (length files) c.loop-place.place c.index_mut.result.now refl inside c.index_mut.ensures.value in (
      search rules,
      grind (arith, common_steps),
      rw c.and-wrote.ensures (both_ok c.write_waiting.result c.loop-place.wrote (λ text texts.
          texts_next g.D.File.Write.contents c.args.self.now.files.items files c.loop-place.place c.index_mut.result.now c.write_waiting.new.self texts is (record { name = c.write_waiting.ensures.name; text = text }))
          c.write_waiting.ensures.text c.loop-place.invariant.2),
    )

pub returns-clause-waits : goal.returns-clause-waits
returns-clause-waits g c =
    let long : length c.loop-place.self.files.items ≤ c.loop-place.place = search rules in
    subst NoneWaits (take_all c.loop-place.place c.loop-place.self.files.items long) c.loop-place.invariant.1
