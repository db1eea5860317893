use Rattle.std.proofs.Common.{rules, length, ◌<◌, refl}
use Rattle.std.proofs.lemmas.Option.{slice_get_read}
use Rattle.abt_files.proofs.open_files.OpenFiles+D+D+File.place_of.Goals as goal

pub returns-then-eq : goal.returns-then-eq
returns-then-eq g c =
    let inside : c.loop-place.place < length c.args.self.now.files.items = search rules in
    record {
      file = c.index.result.now;
      is = slice_get_read c.args.self.now.files.items (length c.args.self.now.files.items) c.loop-place.place c.index.result.now refl inside c.index.ensures;
      named = search rules;
    }
