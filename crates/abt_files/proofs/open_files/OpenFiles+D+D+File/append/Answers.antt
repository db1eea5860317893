use Rattle.std.proofs.Common.{◌≡◌, refl, ap, ◌∙◌, subst}
use Rattle.std.proofs.lemmas.Option.{get_or_from_slice_get}
use Rattle.std.proofs.lemmas.Result.{on_ok_weaker}
use Rattle.std.specs.Io.KnownBytes.{Appends}
use Rattle.abt_files.specs.Waiting.{text_of}
use Rattle.abt_files.proofs.open_files.OpenFiles+D+D+File.append.Goals as goal

pub returns-in-Some : goal.returns-in-Some
returns-in-Some g c =
    let at = c.in-Some.ensures in
    let same : c.index_mut.result.now ≡ at.file = c.index_mut.ensures.value ∙ get_or_from_slice_get c.args.self.now.files.items c.in-Some.place at.file _ at.is in
    record {
      text = on_ok_weaker c.append.result (λ appends. record {
        place = c.in-Some.place;
        at = at;
        file = c.append.new.self;
        new_is = refl;
        same_name = c.append.ensures.name ∙ ap (λ f. f.name) same;
        appends = subst (λ f. Appends (text_of g.D.File.Write.contents f) (text_of g.D.File.Write.contents c.append.new.self) c.args.bytes.now) same appends;
      }) c.append.ensures.text;
    }
