use Rattle.std.proofs.Common.{rules, ◌≡◌, sym, ◌∷◌, [], ◌++◌, length, subst, Some, slice_get}
use Rattle.dcsp_common.proofs.Items.{get_front}
use Rattle.abt_files.proofs.Places.{get_last}
use Rattle.abt_files.proofs.open_files.OpenFiles+D+D+File.make_room.Goals as goal

pub returns-clause-named : goal.returns-clause-named
returns-clause-named g c =
    let files = c.args.self.now.files.items in
    let pushed : c.push.new.self.items ≡ files ++ (c.in_ok-file.file ∷ []) = search rules in
    let last : c.len-place.result ≡ length files = search rules in
    record {
      file = c.in_ok-file.file;
      is = rw (pushed, last) (get_last files c.in_ok-file.file);
      named = c.in_ok-file.ensures;
    }

pub returns-clause-others : goal.returns-clause-others
returns-clause-others g c =
    let files = c.args.self.now.files.items in
    let pushed : c.push.new.self.items ≡ files ++ (c.in_ok-file.file ∷ []) = search rules in
    λ place file is. subst (λ list. slice_get list place ≡ Some file) (sym pushed) (get_front files (c.in_ok-file.file ∷ []) place file is)
