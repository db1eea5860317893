-- The finite map that a map from texts to vectors shows.
use Rattle.std.proofs.Common.{◌≡◌, ◌≢◌, ℕ, Bool, true, false, cond, List, [], ◌∷◌, ◌++◌, map, Option, Some, None, String, BTreeMap, Vec, Global, refl, sym, ap, ◌∙◌}
use Rattle.std.specs.Option.{option_map}
use Rattle.std.specs.Map.{lookup}
use Rattle.std.specs.Ordering.{nat_cmp, is_eq}
use Rattle.std.specs.Cmp.Lexicographic.{slice_cmp, nat_list_cmp_total, nat_list_eq_equiv, bytes_decides}
use Rattle.std.specs.Str.{bytes_eq}
use Rattle.std.specs.String.{string_bytes, string_cmp}
use Rattle.std.specs.BTreeMap.{is_at, get_by_text, UpdatesBy}
use Rattle.std.specs.FinMap.{get, insert, find, get-from_entries, get-insert, same_map, slice_cmp-IsAntisymmetric, nat_cmp-IsAntisymmetric}
use Rattle.std.proofs.lemmas.Map.Text.{is_eq-slice_cmp, btree_map_updates_text}
use Rattle.dcsp_outside.specs.Memory.{Files, files_of}
use Rattle.dcsp_outside.specs.Outside.{ChangesName, bytes_of}

-- what the shown list finds is what the map finds, as a list
find_shown : (q : List ℕ) (es : List (String Global × Vec ℕ Global)) → find (slice_cmp nat_cmp) q (map (λ e. (string_bytes e.0, e.1.items)) es) ≡ option_map (λ (v : Vec ℕ Global). v.items) (lookup (is_at (λ k. slice_cmp nat_cmp q (string_bytes k))) es)
find_shown q [] = refl
find_shown q (e ∷ es) =
    elim (is_eq (slice_cmp nat_cmp q (string_bytes e.0))) as (λ b. cond b (Some e.1.items) (find (slice_cmp nat_cmp) q (map (λ f. (string_bytes f.0, f.1.items)) es)) ≡ option_map (λ (v : Vec ℕ Global). v.items) (cond b (Some e.1) (lookup (is_at (λ k. slice_cmp nat_cmp q (string_bytes k))) es))) [
      | true ↦ refl
      | false ↦ find_shown q es
    ]

-- a look-up in the shown map is one in the map
pub get-files_of : (t : BTreeMap (String Global) (Vec ℕ Global)) (q : List ℕ) → get (files_of t) q ≡ option_map (λ v. v.items) (get_by_text t q)
get-files_of t q = get-from_entries nat_list_cmp_total _ q ∙ find_shown q t.entries

-- two files that answer alike are equal
same_files : (m n : Files) → ((q : List ℕ) → get m q ≡ get n q) → m ≡ n
same_files = same_map nat_list_cmp_total (slice_cmp-IsAntisymmetric nat_cmp-IsAntisymmetric)

-- a look-up after a name was given bytes
pub get-insert_file : (m : Files) (name bytes q : List ℕ) → get (insert m name bytes) q ≡ cond (bytes_eq q name) (Some bytes) (get m q)
get-insert_file m name bytes q = get-insert nat_list_cmp_total m name bytes q ∙ ap (λ b. cond b (Some bytes) (get m q)) (is_eq-slice_cmp q name)

-- the map that changed at one text shows the finite map that changed at its bytes
pub files_of-updates : (name : List ℕ) (t n : BTreeMap (String Global) (Vec ℕ Global)) (v : Vec ℕ Global) → UpdatesBy string_cmp (λ k. slice_cmp nat_cmp name (string_bytes k)) t n (Some v) → files_of n ≡ insert (files_of t) name v.items
files_of-updates name t n v updates =
    same_files _ _ (λ q. get-files_of n q ∙ ap (option_map (λ (w : Vec ℕ Global). w.items)) (btree_map_updates_text name t n (Some v) updates q) ∙ shown q (bytes_eq name q) refl)
  where
    shown : (q : List ℕ) (b : Bool) → bytes_eq name q ≡ b → option_map (λ (w : Vec ℕ Global). w.items) (cond (bytes_eq name q) (Some v) (get_by_text t q)) ≡ get (insert (files_of t) name v.items) q
    shown q true same = rw (get-insert_file, nat_list_eq_equiv.symm q name, same) refl
    shown q false differs = rw (get-insert_file, nat_list_eq_equiv.symm q name, differs) (sym (get-files_of t q))

-- to give a name the bytes that it has changes nothing
pub insert_same : (m : Files) (name bytes : List ℕ) → get m name ≡ Some bytes → insert m name bytes ≡ m
insert_same m name bytes has = same_files _ _ (λ q. get-insert_file m name bytes q ∙ kept q (bytes_eq q name) refl)
  where
    kept : (q : List ℕ) (b : Bool) → bytes_eq q name ≡ b → cond b (Some bytes) (get m q) ≡ get m q
    kept q true same = sym has ∙ ap (get m) (sym ((bytes_decides q name).0 same))
    kept q false differs = refl

-- to give a name bytes changes what is held under that name, and nothing else
pub insert-changes : (name bytes : List ℕ) (m : Files) (P : Option (List ℕ) → Option (List ℕ) → Type 0) → P (get m name) (Some bytes) → ChangesName name P (get m) (get (insert m name bytes))
insert-changes name bytes m P holds = record {
  this = rw (get-insert_file, (bytes_decides name name).1 refl) holds;
  others = λ other ne. get-insert_file m name bytes other ∙ kept other ne (bytes_eq other name) refl;
}
  where
    kept : (other : List ℕ) → other ≢ name → (b : Bool) → bytes_eq other name ≡ b → cond b (Some bytes) (get m other) ≡ get m other
    kept other ne true same = absurd (ne ((bytes_decides other name).0 same))
    kept other ne false differs = refl

-- a map that changed at one text, as files that changed at one name
pub files_of-changes : (name : List ℕ) (t n : BTreeMap (String Global) (Vec ℕ Global)) (v : Vec ℕ Global) (P : Option (List ℕ) → Option (List ℕ) → Type 0) → UpdatesBy string_cmp (λ k. slice_cmp nat_cmp name (string_bytes k)) t n (Some v) → P (get (files_of t) name) (Some v.items) → ChangesName name P (get (files_of t)) (get (files_of n))
files_of-changes name t n v P updates holds = rw (files_of-updates name t n v updates) (insert-changes name v.items (files_of t) P holds)

-- what a map holds at a text, as what is held under that name
pub held-files_of : (name : List ℕ) (t : BTreeMap (String Global) (Vec ℕ Global)) (found : Option (Vec ℕ Global)) → found ≡ get_by_text t name → get (files_of t) name ≡ option_map (λ v. v.items) found
held-files_of name t found is = get-files_of t name ∙ ap (option_map (λ (v : Vec ℕ Global). v.items)) (sym is)

-- a piece that went last at a text went last under that name
pub files_of-appends : (name piece : List ℕ) (t n : BTreeMap (String Global) (Vec ℕ Global)) (file v : Vec ℕ Global) → Some file ≡ get_by_text t name → UpdatesBy string_cmp (λ k. slice_cmp nat_cmp name (string_bytes k)) t n (Some v) → v.items ≡ file.items ++ piece → ChangesName name (λ old new. new ≡ Some (bytes_of old ++ piece)) (get (files_of t)) (get (files_of n))
files_of-appends name piece t n file v is updates items =
    files_of-changes name t n v (λ old new. new ≡ Some (bytes_of old ++ piece)) updates (rw (held-files_of name t (Some file) is, items) refl)

-- the bytes that were there, written back, change nothing
pub files_of-same : (name : List ℕ) (t n : BTreeMap (String Global) (Vec ℕ Global)) (file v : Vec ℕ Global) → Some file ≡ get_by_text t name → UpdatesBy string_cmp (λ k. slice_cmp nat_cmp name (string_bytes k)) t n (Some v) → v.items ≡ file.items → files_of n ≡ files_of t
files_of-same name t n file v is updates items =
    files_of-updates name t n v updates ∙ insert_same (files_of t) name v.items (held-files_of name t (Some file) is ∙ ap Some (sym items))

-- bytes written under a name that was not held are bytes that went last
pub appends_new : (name bytes : List ℕ) (old new : Files) → get old name ≡ None → ChangesName name (λ before now. now ≡ Some bytes) (get old) (get new) → ChangesName name (λ before now. now ≡ Some (bytes_of before ++ bytes)) (get old) (get new)
appends_new name bytes old new none changes = record { this = rw none changes.this; others = changes.others }
