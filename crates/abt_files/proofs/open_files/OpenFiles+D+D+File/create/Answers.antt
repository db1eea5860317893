use Rattle.std.proofs.Common.{◌≡◌, sym, ap, ◌∙◌, subst, string_bytes}
use Rattle.std.proofs.lemmas.Option.{get_or_from_slice_get}
use Rattle.std.specs.Io.KnownBytes.{IsAtEnd}
use Rattle.abt_files.specs.Waiting.{held_by}
use Rattle.abt_files.proofs.Places.{get_replaced, get_beside}
use Rattle.abt_files.proofs.open_files.OpenFiles+D+D+File.create.Goals as goal

pub returns : goal.returns
returns g c =
    let files = c.place_for.new.self.files.items in
    let place = c.in_ok-place.place in
    let at = c.in_ok-place.ensures.named in
    let same : c.index_mut.result.now ≡ at.file = c.index_mut.ensures.value ∙ get_or_from_slice_get files place at.file _ at.is in
    record {
      fresh = record {
        place = place;
        at = record {
          file = c.begin.new.self;
          is = get_replaced files place at.file c.begin.new.self at.is;
          named = ap string_bytes (c.begin.ensures.name ∙ ap (λ f. f.name) same) ∙ at.named;
        };
        empty = subst (λ f. IsAtEnd (held_by g.D.File.Write.contents f)) (sym c.begin.ensures.file) c.in_ok-file.ensures.empty;
        waits = c.begin.ensures.waiting;
        others = λ other differs file is. get_beside files place other c.begin.new.self differs ∙ c.place_for.ensures.others other file is;
      };
    }
