-- What stands after two scripts, one made after the other.
use Rattle.std.proofs.Common.{◌≡◌, ℕ, List, [], ◌∷◌, ◌++◌, Option, refl, sym, ap, ◌∙◌, append_assoc, append-nil}
use Rattle.dcsp_outside.proofs.Changes.{Told-trans, Told-same}
use Rattle.dcsp_script.specs.Scripts.{Write, World, after_write, file_after, put_of, put_by, created_of, created_by, FilesAfter, PutAfter, IsAfter}

-- a file after two scripts
pub file_after-append : (s t : List Write) (name : List ℕ) (file : Option (List ℕ)) → file_after (s ++ t) name file ≡ file_after t name (file_after s name file)
file_after-append [] t name file = refl
file_after-append (w ∷ s) t name file = file_after-append s t name (after_write w name file)

-- what two scripts put
pub put_by-append : (s t : List Write) → put_by (s ++ t) ≡ put_by s ++ put_by t
put_by-append [] t = refl
put_by-append (w ∷ s) t = ap (λ l. put_of w ++ l) (put_by-append s t) ∙ sym (append_assoc (put_of w) (put_by s) (put_by t))

-- what two scripts create
pub created_by-append : (s t : List Write) → created_by (s ++ t) ≡ created_by s ++ created_by t
created_by-append [] t = refl
created_by-append (w ∷ s) t = ap (λ l. created_of w ++ l) (created_by-append s t) ∙ sym (append_assoc (created_of w) (created_by s) (created_by t))

-- nothing was made
pub IsAfter-nothing : (a : World) → IsAfter [] a a
IsAfter-nothing a = record {
  files = Told-same (FilesAfter []) (λ f name. refl) a.folder.held a.folder.held refl;
  out = Told-same (PutAfter []) (λ x. sym (append-nil x)) a.out.written a.out.written refl;
  created = sym (append-nil a.folder.created);
}

-- a script, and then another
pub IsAfter-append : (s t : List Write) (a b c : World) → IsAfter s a b → IsAfter t b c → IsAfter (s ++ t) a c
IsAfter-append s t a b c p q = record {
  files = Told-trans (FilesAfter s) (FilesAfter t) (FilesAfter (s ++ t)) (λ f g h x y name. y name ∙ ap (file_after t name) (x name) ∙ sym (file_after-append s t name (f name))) a.folder.held b.folder.held c.folder.held p.files q.files;
  out = Told-trans (PutAfter s) (PutAfter t) (PutAfter (s ++ t)) (λ x y z e f. f ∙ ap (λ l. l ++ put_by t) e ∙ append_assoc x (put_by s) (put_by t) ∙ ap (λ l. x ++ l) (sym (put_by-append s t))) a.out.written b.out.written c.out.written p.out q.out;
  created = q.created ∙ ap (λ l. l ++ created_by t) p.created ∙ append_assoc a.folder.created (created_by s) (created_by t) ∙ ap (λ l. a.folder.created ++ l) (sym (created_by-append s t));
}
