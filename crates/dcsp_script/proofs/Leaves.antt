-- What one call of a folder or of a sink makes.
use Rattle.std.proofs.Common.{◌≡◌, ◌≢◌, ◌⊎◌, ℕ, ◌≤◌, Bool, true, false, cond, List, [], ◌∷◌, ◌++◌, Option, Some, None, Ok, Err, refl, sym, ap, ◌∙◌, inl, inr, arith, append-nil}
use Rattle.std.specs.Str.{bytes_eq}
use Rattle.std.specs.Cmp.Lexicographic.{bytes_decides}
use Rattle.dcsp_outside.specs.Outside.{Place, Stream, Told, NoneFalls, SameCounts, Rose, ChangesName, AppendsPartOf, AddsPartOf, IsPrefixOf, bytes_of}
use Rattle.dcsp_outside.proofs.Changes.{Told-same}
use Rattle.dcsp_script.specs.declared.stop.Stop.TheVariants.{Fault, Memory}
use Rattle.dcsp_script.specs.Scripts.{Write, Create, Empty, Append, Put, outside, put_by, created_by, FilesAfter, PutAfter, IsAfter}
use Rattle.dcsp_script.specs.Ways.{IsLeftOf, RoseAt, Did, Wrote}

-- one name changed so, and no other
by_name : (name : List ℕ) (change : Option (List ℕ) → Option (List ℕ)) (f g : List ℕ → Option (List ℕ)) → g name ≡ change (f name) → ((other : List ℕ) → other ≢ name → g other ≡ f other) → (n : List ℕ) → g n ≡ cond (bytes_eq n name) (change (f n)) (f n)
by_name name change f g this others n = step (bytes_eq n name) refl
  where
    step : (b : Bool) → bytes_eq n name ≡ b → g n ≡ cond b (change (f n)) (f n)
    step true e = rw ((bytes_decides n name).0 e) this
    step false e = others n (λ s. (let t = (bytes_decides n name).1 s in absurd cc))

-- no name changed
unchanged : (name : List ℕ) (f g : List ℕ → Option (List ℕ)) → g name ≡ f name → ((other : List ℕ) → other ≢ name → g other ≡ f other) → FilesAfter [] f g
unchanged name f g this others n = step (bytes_eq n name) refl
  where
    step : (b : Bool) → bytes_eq n name ≡ b → g n ≡ f n
    step true e = rw ((bytes_decides n name).0 e) this
    step false e = others n (λ s. (let t = (bytes_decides n name).1 s in absurd cc))

-- what a write on the folder left
record FolderLeft (write : Write) (f g : Option (List ℕ → Option (List ℕ))) : Type 0 where
  left : List Write
  is_left : IsLeftOf left write
  files : Told f g (FilesAfter left)
  puts : put_by left ≡ []
  creates : created_by left ≡ []

left_nothing : (write : Write) (f g : Option (List ℕ → Option (List ℕ))) → Told f g (FilesAfter []) → FolderLeft write f g
left_nothing write f g h = record { left = []; is_left = tt; files = h; puts = refl; creates = refl }

left_appended : (name bytes : List ℕ) (f g : Option (List ℕ → Option (List ℕ))) → Told f g (ChangesName name (AppendsPartOf bytes)) → FolderLeft (Append name bytes) f g
left_appended name bytes (Some f) (Some g) h =
    elim h.this [
      | inl same ↦ left_nothing (Append name bytes) (Some f) (Some g) (unchanged name f g same h.others)
      | inr p ↦ record { left = Append name p.0 ∷ []; is_left = (refl, p.1); files = by_name name (λ x. Some (bytes_of x ++ p.0)) f g p.2 h.others; puts = refl; creates = refl }
    ]
left_appended name bytes (Some f) None h = absurd h
left_appended name bytes None (Some g) h = absurd h
left_appended name bytes None None h = left_nothing (Append name bytes) None None tt

left_created : (name : List ℕ) (f g : Option (List ℕ → Option (List ℕ))) → Told f g (ChangesName name (λ old new. (new ≡ old) ⊎ (new ≡ Some []))) → FolderLeft (Create name) f g
left_created name (Some f) (Some g) h =
    elim h.this [
      | inl same ↦ left_nothing (Create name) (Some f) (Some g) (unchanged name f g same h.others)
      | inr e ↦ record { left = Empty name ∷ []; is_left = refl; files = by_name name (λ x. Some []) f g e h.others; puts = refl; creates = refl }
    ]
left_created name (Some f) None h = absurd h
left_created name None (Some g) h = absurd h
left_created name None None h = left_nothing (Create name) None None tt

-- nothing more on `out`
out_same : (script : List Write) (x : Option (List ℕ)) → put_by script ≡ [] → Told x x (PutAfter script)
out_same script (Some x) e = rw e (sym (append-nil x))
out_same script None e = tt

-- no file changed
files_same : (bytes : List ℕ) (f : Option (List ℕ → Option (List ℕ))) → Told f f (FilesAfter (Put bytes ∷ []))
files_same bytes (Some f) = λ n. refl
files_same bytes None = tt

files_told : (write : Write) (name : List ℕ) (change : Option (List ℕ) → Option (List ℕ)) (f g : Option (List ℕ → Option (List ℕ))) → ((h k : List ℕ → Option (List ℕ)) → ChangesName name (λ old new. new ≡ change old) h k → FilesAfter (write ∷ []) h k) → Told f g (ChangesName name (λ old new. new ≡ change old)) → Told f g (FilesAfter (write ∷ []))
files_told write name change (Some f) (Some g) to h = to f g h
files_told write name change (Some f) None to h = h
files_told write name change None (Some g) to h = h
files_told write name change None None to h = h

module _ (p q : Place) (out : Stream) where
  folder_failed : {T : Type 0} (write : Write) (m : FolderLeft write p.held q.held) → q.handed ≡ p.handed → q.created ≡ p.created → NoneFalls p.reads q.reads → NoneFalls p.writes q.writes → RoseAt write (outside p out) (outside q out) → Wrote {T = T} (write ∷ []) (outside p out) (outside q out) (Err Fault)
  folder_failed write m handed created reads writes rose = record {
    ended = record {
      start = [];
      write = write;
      rest = [];
      is_script = refl;
      left = m.left;
      is_left = m.is_left;
      after = record { files = m.files; out = out_same m.left out.written m.puts; created = rw m.creates (created ∙ sym (append-nil p.created)) };
      rose = rose;
      none_fell = record { reads = reads; writes = writes; out = omega arith };
    };
    handed = handed;
  }

  pub append_failed : {T : Type 0} (name bytes : List ℕ) → Told p.held q.held (ChangesName name (AppendsPartOf bytes)) → q.handed ≡ p.handed → q.created ≡ p.created → NoneFalls p.reads q.reads → NoneFalls p.writes q.writes → Rose (p.writes name) (q.writes name) → Wrote {T = T} (Append name bytes ∷ []) (outside p out) (outside q out) (Err Fault)
  append_failed name bytes h handed created reads writes rose = folder_failed (Append name bytes) (left_appended name bytes p.held q.held h) handed created reads writes rose

  pub create_failed : {T : Type 0} (name : List ℕ) → Told p.held q.held (ChangesName name (λ old new. (new ≡ old) ⊎ (new ≡ Some []))) → q.handed ≡ p.handed → q.created ≡ p.created → NoneFalls p.reads q.reads → NoneFalls p.writes q.writes → Rose (p.writes name) (q.writes name) → Wrote {T = T} (Create name ∷ []) (outside p out) (outside q out) (Err Fault)
  create_failed name h handed created reads writes rose = folder_failed (Create name) (left_created name p.held q.held h) handed created reads writes rose

  pub append_made : {T : Type 0} (x : T) (name bytes : List ℕ) → Told p.held q.held (ChangesName name (λ old new. new ≡ Some (bytes_of old ++ bytes))) → q.handed ≡ p.handed → q.created ≡ p.created → SameCounts p q → Wrote (Append name bytes ∷ []) (outside p out) (outside q out) (Ok x)
  append_made x name bytes h handed created counts = record {
    ended = record {
      after = record {
        files = files_told (Append name bytes) name (λ old. Some (bytes_of old ++ bytes)) p.held q.held (λ f g c. by_name name (λ old. Some (bytes_of old ++ bytes)) f g c.this c.others) h;
        out = out_same (Append name bytes ∷ []) out.written refl;
        created = created ∙ sym (append-nil p.created);
      };
      counts = record { folder = counts; out = refl };
    };
    handed = handed;
  }

  pub create_made : {T : Type 0} (x : T) (name : List ℕ) → Told p.held q.held (ChangesName name (λ old new. new ≡ Some [])) → q.handed ≡ p.handed → q.created ≡ p.created ++ name ∷ [] → SameCounts p q → Wrote (Create name ∷ []) (outside p out) (outside q out) (Ok x)
  create_made x name h handed created counts = record {
    ended = record {
      after = record {
        files = files_told (Create name) name (λ old. Some []) p.held q.held (λ f g c. by_name name (λ old. Some []) f g c.this c.others) h;
        out = out_same (Create name ∷ []) out.written refl;
        created = created;
      };
      counts = record { folder = counts; out = refl };
    };
    handed = handed;
  }

  -- a folder whose contents are as they were
  pub after_read : q.held ≡ p.held → q.created ≡ p.created → IsAfter [] (outside p out) (outside q out)
  after_read held created = record {
    files = Told-same (FilesAfter []) (λ f name. refl) p.held q.held held;
    out = out_same [] out.written refl;
    created = created ∙ sym (append-nil p.created);
  }

  -- a folder that is as it was
  pub did_read : q.held ≡ p.held → q.created ≡ p.created → SameCounts p q → Did [] (outside p out) (outside q out)
  did_read held created counts = record { after = after_read held created; counts = record { folder = counts; out = refl } }

  -- a write of the folder for which memory was wanted
  pub folder_lacked : {T : Type 0} (write : Write) → q.held ≡ p.held → q.handed ≡ p.handed → q.created ≡ p.created → SameCounts p q → Wrote {T = T} (write ∷ []) (outside p out) (outside q out) (Err Memory)
  folder_lacked write held handed created counts = record { ended = record { start = []; rest = write ∷ []; is_script = refl; did = did_read held created counts }; handed = handed }

module _ (p : Place) (a b : Stream) where
  put_piece : (bytes : List ℕ) (x y : Option (List ℕ)) → Told x y (AddsPartOf bytes) → (part : List ℕ) × IsPrefixOf part bytes × Told x y (PutAfter (Put part ∷ []))
  put_piece bytes (Some x) (Some y) h = (h.0, h.1, h.2 ∙ ap (λ l. x ++ l) (sym (append-nil h.0)))
  put_piece bytes (Some x) None h = absurd h
  put_piece bytes None (Some y) h = absurd h
  put_piece bytes None None h = ([], (bytes, refl), tt)

  -- some first bytes went last, or none
  pub put_failed : {T : Type 0} (bytes : List ℕ) → Told a.written b.written (AddsPartOf bytes) → a.faults ≤ b.faults → Rose a.faults b.faults → Wrote {T = T} (Put bytes ∷ []) (outside p a) (outside p b) (Err Fault)
  put_failed bytes h never rose =
      let made = put_piece bytes a.written b.written h in
      record {
        ended = record {
          start = [];
          write = Put bytes;
          rest = [];
          is_script = refl;
          left = Put made.0 ∷ [];
          is_left = made.1;
          after = record { files = files_same made.0 p.held; out = made.2; created = sym (append-nil p.created) };
          rose = rose;
          none_fell = record { reads = λ name. omega arith; writes = λ name. omega arith; out = never };
        };
        handed = refl;
      }

  put_told : (bytes : List ℕ) (x y : Option (List ℕ)) → Told x y (λ old new. new ≡ old ++ bytes) → Told x y (PutAfter (Put bytes ∷ []))
  put_told bytes (Some x) (Some y) h = h ∙ ap (λ l. x ++ l) (sym (append-nil bytes))
  put_told bytes (Some x) None h = h
  put_told bytes None (Some y) h = h
  put_told bytes None None h = h

  pub put_made : {T : Type 0} (x : T) (bytes : List ℕ) → Told a.written b.written (λ old new. new ≡ old ++ bytes) → b.faults ≡ a.faults → Wrote (Put bytes ∷ []) (outside p a) (outside p b) (Ok x)
  put_made x bytes h count = record {
    ended = record {
      after = record { files = files_same bytes p.held; out = put_told bytes a.written b.written h; created = sym (append-nil p.created) };
      counts = record { folder = record { reads = refl; writes = refl }; out = count };
    };
    handed = refl;
  }

  pub put_lacked : {T : Type 0} (bytes : List ℕ) → b.written ≡ a.written → b.faults ≡ a.faults → Wrote {T = T} (Put bytes ∷ []) (outside p a) (outside p b) (Err Memory)
  put_lacked bytes written count = record {
    ended = record {
      start = [];
      rest = Put bytes ∷ [];
      is_script = refl;
      did = record {
        after = record {
          files = Told-same (FilesAfter []) (λ f name. refl) p.held p.held refl;
          out = Told-same (PutAfter []) (λ x. sym (append-nil x)) a.written b.written written;
          created = sym (append-nil p.created);
        };
        counts = record { folder = record { reads = refl; writes = refl }; out = count };
      };
    };
    handed = refl;
  }
