-- What a part of a script leaves of the text under one name.
use Rattle.std.proofs.Common.{◌≡◌, ℕ, zero, suc, ◌<◌, Bool, true, false, cond, List, [], ◌∷◌, ◌++◌, get_or, Option, Some, refl, sym, ap, subst, ◌∙◌, append_assoc, append-nil, inl, inr, arith}
use Rattle.std.specs.Prelude.{Contains}
use Rattle.std.specs.Str.{bytes_eq}
use Rattle.std.specs.Cmp.Lexicographic.{bytes_decides}
use Rattle.std.proofs.lemmas.List.Elements.{Contains-append_cases, Contains-push, Contains-append_left, Contains-append_right}
use Rattle.dcsp_outside.specs.Outside.{IsPrefixOf}
use Rattle.dcsp_script.specs.Scripts.{Write, Create, Empty, Append, Put, after_write, file_after, created_of, created_by}
use Rattle.dcsp_script.specs.Ways.{IsPieceOf, IsPartOf}
use Rattle.dcsp_script.specs.Texts.{Touches, LeavesAlone, IsKept, OnlyAppends, appended_of, appended_by, HoldsPartOf}
use Rattle.dcsp_script.proofs.After.{file_after-append, created_by-append}
use Rattle.dcsp_script.proofs.Parts.{part_splits, left_alone, part_leaves}

-- what two scripts append
pub appended_by-append : (s t : List Write) (name : List ℕ) → appended_by (s ++ t) name ≡ appended_by s name ++ appended_by t name
appended_by-append [] t name = refl
appended_by-append (w ∷ s) t name = ap (λ l. appended_of w name ++ l) (appended_by-append s t name) ∙ sym (append_assoc (appended_of w name) (appended_by s name) (appended_by t name))

kept : (w : Write) (name x : List ℕ) → IsKept w name → after_write w name (Some x) ≡ Some (x ++ appended_of w name)
kept (Create this) name x h = other (bytes_eq name this) refl
  where
    other : (b : Bool) → bytes_eq name this ≡ b → cond b (Some []) (Some x) ≡ Some (x ++ [])
    other true e = absurd (h (sym ((bytes_decides name this).0 e)))
    other false e = ap Some (sym (append-nil x))
kept (Empty this) name x h = other (bytes_eq name this) refl
  where
    other : (b : Bool) → bytes_eq name this ≡ b → cond b (Some []) (Some x) ≡ Some (x ++ [])
    other true e = absurd (h (sym ((bytes_decides name this).0 e)))
    other false e = ap Some (sym (append-nil x))
kept (Append this bytes) name x h = elim (bytes_eq name this) as (λ b. cond b (Some (x ++ bytes)) (Some x) ≡ Some (x ++ cond b bytes [])) [ true ↦ refl | false ↦ ap Some (sym (append-nil x)) ]
kept (Put bytes) name x h = ap Some (sym (append-nil x))

-- a script that only appends under a name
pub appends_to : (s : List Write) (name x : List ℕ) → OnlyAppends s name → file_after s name (Some x) ≡ Some (x ++ appended_by s name)
appends_to [] name x h = ap Some (sym (append-nil x))
appends_to (w ∷ s) name x h = ap (file_after s name) (kept w name x h.0) ∙ appends_to s name (x ++ appended_of w name) h.1 ∙ ap Some (append_assoc x (appended_of w name) (appended_by s name))

piece_kept : (w v : Write) (name : List ℕ) → IsPieceOf w v → IsKept v name → IsKept w name
piece_kept (Empty this) (Create at) name h k = λ e. k (sym h ∙ e)
piece_kept (Append this part) v name h k = tt
piece_kept (Put part) v name h k = tt
piece_kept (Create this) v name h k = absurd h
piece_kept (Empty this) (Empty at) name h k = absurd h
piece_kept (Empty this) (Append at bytes) name h k = absurd h
piece_kept (Empty this) (Put bytes) name h k = absurd h

piece_appended : (w v : Write) (name : List ℕ) → IsPieceOf w v → IsPrefixOf (appended_of w name) (appended_of v name)
piece_appended (Empty this) (Create at) name h = ([], refl)
piece_appended (Append this part) (Append at bytes) name h = rw h.0 (elim (bytes_eq name at) as (λ b. IsPrefixOf (cond b part []) (cond b bytes [])) [ true ↦ h.1 | false ↦ ([], refl) ])
piece_appended (Put part) (Put bytes) name h = ([], refl)
piece_appended (Create this) v name h = absurd h
piece_appended (Empty this) (Empty at) name h = absurd h
piece_appended (Empty this) (Append at bytes) name h = absurd h
piece_appended (Empty this) (Put bytes) name h = absurd h
piece_appended (Append this part) (Create at) name h = absurd h
piece_appended (Append this part) (Empty at) name h = absurd h
piece_appended (Append this part) (Put bytes) name h = absurd h
piece_appended (Put part) (Create at) name h = absurd h
piece_appended (Put part) (Empty at) name h = absurd h
piece_appended (Put part) (Append at bytes) name h = absurd h

-- a part of a script that only appends only appends
pub part_appends : (part s : List Write) (name : List ℕ) → IsPartOf part s → OnlyAppends s name → OnlyAppends part name
part_appends [] s name h k = tt
part_appends (w ∷ part) [] name h k = absurd h
part_appends (w ∷ part) (v ∷ s) name h k =
    elim h [
      | inl x ↦ (subst (λ y. IsKept y name) (sym x.0) k.0, part_appends part s name x.1 k.1)
      | inr x ↦ (piece_kept w v name x.0 k.0, rw x.1 tt)
    ]

-- and what it appends is a first part of the text
pub appended_of_part : (part s : List Write) (name : List ℕ) → IsPartOf part s → IsPrefixOf (appended_by part name) (appended_by s name)
appended_of_part [] s name h = (appended_by s name, refl)
appended_of_part (w ∷ part) [] name h = absurd h
appended_of_part (w ∷ part) (v ∷ s) name h =
    elim h [
      | inl x ↦ rw x.0 (let p = appended_of_part part s name x.1 in (p.0, append_assoc (appended_of v name) (appended_by part name) p.0 ∙ ap (λ l. appended_of v name ++ l) p.1))
      | inr x ↦ rw x.1 (rw append-nil (let p = piece_appended w v name x.0 in (p.0 ++ appended_by s name, sym (append_assoc (appended_of w name) p.0 (appended_by s name)) ∙ ap (λ l. l ++ appended_by s name) p.1)))
    ]

never : (name : List ℕ) → Contains [] name → ⊥
never name h = omega (arith, h.1)

-- a script that leaves a name alone does not create it
pub leaves_uncreated : (s : List Write) (name : List ℕ) → LeavesAlone s name → Contains (created_by s) name → ⊥
leaves_uncreated [] name l h = never name h
leaves_uncreated (w ∷ s) name l h = elim (Contains-append_cases (created_of w) (created_by s) name h) [ inl x ↦ l.0 (touched w x) | inr x ↦ leaves_uncreated s name l.1 x ]
  where
    touched : (w : Write) → Contains (created_of w) name → Touches w name
    touched (Create this) (k, below, is) = first k below is
      where
        first : (k : ℕ) → k < 1 → get_or (this ∷ []) k name ≡ name → this ≡ name
        first zero below is = is
        first (suc k) below is = absurd (omega arith)
    touched (Empty this) h = absurd (never name h)
    touched (Append this bytes) h = absurd (never name h)
    touched (Put bytes) h = absurd (never name h)

-- a name that a script creates and then only appends to
pub created_once : (more s : List Write) (name : List ℕ) (file : Option (List ℕ)) → OnlyAppends s name → IsPartOf more (Create name ∷ s) → HoldsPartOf name (appended_by s name) (Contains (created_by more) name) file (file_after more name file)
created_once [] s name file k h = record { created = λ c. absurd (never name c); uncreated = λ c. inl refl }
created_once (w ∷ more) s name file k h =
    elim h [
      | inl x ↦ rw x.0 (record { created = λ c. whole more x.1; uncreated = λ c. absurd (c (Contains-append_left (name ∷ []) (created_by more) name (Contains-push [] name))) })
      | inr x ↦ rw x.1 (emptied w x.0)
    ]
  where
    whole : (more : List Write) → IsPartOf more s → (text : List ℕ) × IsPrefixOf text (appended_by s name) × (file_after more name (cond (bytes_eq name name) (Some []) file) ≡ Some text)
    whole more p = rw ((bytes_decides name name).1 refl) (appended_by more name, appended_of_part more s name p, appends_to more name [] (part_appends more s name p k))

    emptied : (w : Write) → IsPieceOf w (Create name) → HoldsPartOf name (appended_by s name) (Contains (created_by (w ∷ [])) name) file (file_after (w ∷ []) name file)
    emptied (Empty this) e = rw (e, (bytes_decides name name).1 refl) (record { created = λ c. absurd (never name c); uncreated = λ c. inr refl })
    emptied (Create this) e = absurd e
    emptied (Append this bytes) e = absurd e
    emptied (Put bytes) e = absurd e

-- the same where writes that leave the name alone come first
pub holds_part : (part before s : List Write) (name : List ℕ) (file : Option (List ℕ)) → LeavesAlone before name → OnlyAppends s name → IsPartOf part (before ++ Create name ∷ s) → HoldsPartOf name (appended_by s name) (Contains (created_by part) name) file (file_after part name file)
holds_part part before s name file l k h =
    elim (part_splits part before (Create name ∷ s) h) [
      | inl x ↦ record {
        created = λ c. absurd (leaves_uncreated part name (part_leaves part before name x l) c);
        uncreated = λ c. inl (left_alone part name file (part_leaves part before name x l));
      }
      | inr x ↦ rw (x.1, created_by-append before x.0, file_after-append before x.0 name file, left_alone before name file l) (later x.0 (created_once x.0 s name file k x.2))
    ]
  where
    later : (more : List Write) → HoldsPartOf name (appended_by s name) (Contains (created_by more) name) file (file_after more name file) → HoldsPartOf name (appended_by s name) (Contains (created_by before ++ created_by more) name) file (file_after more name file)
    later more m = record {
      created = λ c. elim (Contains-append_cases (created_by before) (created_by more) name c) [ inl y ↦ absurd (leaves_uncreated before name l y) | inr y ↦ m.created y ];
      uncreated = λ c. m.uncreated (λ y. c (Contains-append_right (created_by before) (created_by more) name y));
    }
