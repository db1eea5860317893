-- The moment at which a first part of a script had been made.
use Rattle.std.proofs.Common.{ℕ, List, ◌++◌, Option, Some, None, refl, sym, ap, ◌∙◌, append_assoc}
use Rattle.std.specs.Prelude.{option_map}
use Rattle.dcsp_outside.specs.Outside.{Told}
use Rattle.dcsp_script.specs.Scripts.{Write, World, file_after, put_by, created_by, FilesAfter, PutAfter, IsAfter}
use Rattle.dcsp_script.specs.Ways.{Did}
use Rattle.dcsp_script.proofs.After.{put_by-append, file_after-append, created_by-append}

-- the outside after this script, where nothing failed
abbrev pub after_script : List Write → World → World
after_script s a = record {
  folder = record a.folder { held = option_map (λ (files : List ℕ → Option (List ℕ)) (name : List ℕ). file_after s name (files name)) a.folder.held; created = a.folder.created ++ created_by s };
  out = record a.out { written = option_map (λ (written : List ℕ). written ++ put_by s) a.out.written };
}

held_after : (s : List Write) (x : Option (List ℕ → Option (List ℕ))) → Told x (option_map (λ (files : List ℕ → Option (List ℕ)) (name : List ℕ). file_after s name (files name)) x) (FilesAfter s)
held_after s None = tt
held_after s (Some files) = λ name. refl

put_after : (s : List Write) (x : Option (List ℕ)) → Told x (option_map (λ (written : List ℕ). written ++ put_by s) x) (PutAfter s)
put_after s None = tt
put_after s (Some written) = refl

pub did_then : (s : List Write) (a : World) → Did s a (after_script s a)
did_then s a = record {
  after = record { files = held_after s a.folder.held; out = put_after s a.out.written; created = refl };
  counts = record { folder = record { reads = refl; writes = refl }; out = refl };
}

held_later : (s t : List Write) (x y : Option (List ℕ → Option (List ℕ))) → Told x y (FilesAfter (s ++ t)) → Told (option_map (λ (files : List ℕ → Option (List ℕ)) (name : List ℕ). file_after s name (files name)) x) y (FilesAfter t)
held_later s t None None h = tt
held_later s t None (Some now) h = absurd h
held_later s t (Some files) None h = absurd h
held_later s t (Some files) (Some now) h = λ name. h name ∙ file_after-append s t name (files name)

put_later : (s t : List Write) (x y : Option (List ℕ)) → Told x y (PutAfter (s ++ t)) → Told (option_map (λ (written : List ℕ). written ++ put_by s) x) y (PutAfter t)
put_later s t None None h = tt
put_later s t None (Some now) h = absurd h
put_later s t (Some written) None h = absurd h
put_later s t (Some written) (Some now) h = h ∙ ap (λ l. written ++ l) (put_by-append s t) ∙ sym (append_assoc written (put_by s) (put_by t))

-- what was made after it is the rest
pub after_then : (s t : List Write) (a b : World) → IsAfter (s ++ t) a b → IsAfter t (after_script s a) b
after_then s t a b h = record {
  files = held_later s t a.folder.held b.folder.held h.files;
  out = put_later s t a.out.written b.out.written h.out;
  created = h.created ∙ ap (λ l. a.folder.created ++ l) (created_by-append s t) ∙ sym (append_assoc a.folder.created (created_by s) (created_by t));
}
