-- What a part of a script leaves.
use Rattle.std.proofs.Common.{◌≡◌, ◌⊎◌, ℕ, ◌+◌, ◌<◌, ◌≤◌, Bool, true, false, cond, List, [], ◌∷◌, ◌++◌, length, Option, Some, Result, Ok, Err, refl, sym, ap, subst, ◌∙◌, append_assoc, append-nil, inl, inr, arith, length-append}
use Rattle.std.specs.Str.{bytes_eq}
use Rattle.std.specs.Cmp.Lexicographic.{bytes_decides}
use Rattle.dcsp_outside.specs.Outside.{IsPrefixOf, bytes_of}
use Rattle.dcsp_script.specs.Scripts.{Write, Create, Empty, Append, Put, World, after_write, file_after, put_of, put_by}
use Rattle.dcsp_script.specs.Ways.{IsPieceOf, IsLeftOf, IsPartOf, Did, DidStartOf, FailedIn, DidPartOf, Ended, Wrote}
use Rattle.dcsp_script.specs.declared.stop.Stop.{Stop}
use Rattle.dcsp_script.specs.declared.stop.Stop.TheVariants.{Fault, Memory}
use Rattle.dcsp_script.specs.Texts.{Touches, LeavesAlone}
use Rattle.dcsp_script.proofs.After.{put_by-append}

-- a part of two scripts ends in the first, or takes it whole and goes on in the second
pub part_splits : (part s t : List Write) → IsPartOf part (s ++ t) → IsPartOf part s ⊎ ((more : List Write) × (part ≡ s ++ more) × IsPartOf more t)
part_splits part [] t h = inr (part, refl, h)
part_splits [] (v ∷ s) t h = inl tt
part_splits (w ∷ part) (v ∷ s) t h =
    elim h [
      | inl x ↦ elim (part_splits part s t x.1) [ inl y ↦ inl (inl (x.0, y)) | inr y ↦ inr (y.0, (let e = x.0 in let f = y.1 in cc), y.2) ]
      | inr x ↦ inl (inr x)
    ]

-- some first writes are a part, and so are some first writes with what the next one left
pub IsPartOf-append : (start rest : List Write) → IsPartOf start (start ++ rest)
IsPartOf-append [] rest = tt
IsPartOf-append (w ∷ start) rest = inl (refl, IsPartOf-append start rest)

IsPartOf-left : (start : List Write) (write : Write) (rest left : List Write) → IsLeftOf left write → IsPartOf (start ++ left) (start ++ write ∷ rest)
IsPartOf-left [] write rest [] h = tt
IsPartOf-left [] write rest (piece ∷ []) h = inr (h, refl)
IsPartOf-left [] write rest (piece ∷ next ∷ more) h = absurd h
IsPartOf-left (w ∷ start) write rest left h = inl (refl, IsPartOf-left start write rest left h)

-- each way makes a part of the script
pub did_part : (s : List Write) (a b : World) → Did s a b → DidPartOf s a b
did_part s a b d = record { part = s; is_part = subst (λ l. IsPartOf s l) (append-nil s) (IsPartOf-append s []); after = d.after }

pub start_part : (s : List Write) (a b : World) → DidStartOf s a b → DidPartOf s a b
start_part s a b h = record { part = h.start; is_part = subst (λ l. IsPartOf h.start l) h.is_script (IsPartOf-append h.start h.rest); after = h.did.after }

pub failed_part : (s : List Write) (a b : World) → FailedIn s a b → DidPartOf s a b
failed_part s a b h = record { part = h.start ++ h.left; is_part = subst (λ l. IsPartOf (h.start ++ h.left) l) h.is_script (IsPartOf-left h.start h.write h.rest h.left h.is_left); after = h.after }

pub wrote_part : {T : Type 0} {s : List Write} {a b : World} {r : Result T Stop} → Wrote s a b r → DidPartOf s a b
wrote_part {s = s} {a = a} {b = b} {r = r} w = way r w.ended
  where
    way : {T : Type 0} (r : Result T Stop) → Ended s a b r → DidPartOf s a b
    way (Ok x) h = did_part s a b h
    way (Err Fault) h = failed_part s a b h
    way (Err Memory) h = start_part s a b h

prefix_longer : (part whole more : List ℕ) → IsPrefixOf part whole → IsPrefixOf part (whole ++ more)
prefix_longer part whole more h = (h.0 ++ more, sym (append_assoc part h.0 more) ∙ ap (λ l. l ++ more) h.1)

prefix_after : (first part whole : List ℕ) → IsPrefixOf part whole → IsPrefixOf (first ++ part) (first ++ whole)
prefix_after first part whole h = (h.0, append_assoc first part h.0 ∙ ap (λ l. first ++ l) h.1)

pub prefix_short : (part whole : List ℕ) → IsPrefixOf part whole → length part ≤ length whole
prefix_short part whole h = omega (arith, length-append part h.0, ap length h.1)

pub prefix_all : (part whole : List ℕ) → IsPrefixOf part whole → length whole ≤ length part → part ≡ whole
prefix_all part whole (rest, e) l = none rest e (omega (arith, length-append part rest, ap length e))
  where
    none : (rest : List ℕ) → part ++ rest ≡ whole → length rest ≡ 0 → part ≡ whole
    none [] e l = sym (append-nil part) ∙ e
    none (x ∷ rest) e l = absurd (omega arith)

-- a piece of a write puts a first part of what the write puts
put_of_piece : (w v : Write) → IsPieceOf w v → IsPrefixOf (put_of w) (put_of v)
put_of_piece (Empty this) (Create name) h = ([], refl)
put_of_piece (Append this part) (Append name bytes) h = ([], refl)
put_of_piece (Put part) (Put bytes) h = h
put_of_piece (Create this) v h = absurd h
put_of_piece (Empty this) (Empty name) h = absurd h
put_of_piece (Empty this) (Append name bytes) h = absurd h
put_of_piece (Empty this) (Put bytes) h = absurd h
put_of_piece (Append this part) (Create name) h = absurd h
put_of_piece (Append this part) (Empty name) h = absurd h
put_of_piece (Append this part) (Put bytes) h = absurd h
put_of_piece (Put part) (Create name) h = absurd h
put_of_piece (Put part) (Empty name) h = absurd h
put_of_piece (Put part) (Append name bytes) h = absurd h

-- a part puts a first part of what the script puts
pub put_of_part : (part s : List Write) → IsPartOf part s → IsPrefixOf (put_by part) (put_by s)
put_of_part [] s h = (put_by s, refl)
put_of_part (w ∷ part) [] h = absurd h
put_of_part (w ∷ part) (v ∷ s) h =
    elim h [
      | inl x ↦ rw x.0 (prefix_after (put_of v) (put_by part) (put_by s) (put_of_part part s x.1))
      | inr x ↦ rw x.1 (rw append-nil (prefix_longer (put_of w) (put_of v) (put_by s) (put_of_piece w v x.0)))
    ]

-- where more was put than a script puts, the script was made whole
pub part_past : (part s t : List Write) → IsPartOf part (s ++ t) → length (put_by s) < length (put_by part) → (more : List Write) × (part ≡ s ++ more) × IsPartOf more t
part_past part s t h l =
    elim (part_splits part s t h) [
      | inl x ↦ absurd (let p = prefix_short (put_by part) (put_by s) (put_of_part part s x) in omega arith)
      | inr x ↦ x
    ]

-- where less was put than a script puts, no more than a part of it was made
pub part_within : (part s t : List Write) → IsPartOf part (s ++ t) → length (put_by part) < length (put_by s) → IsPartOf part s
part_within part s t h l =
    elim (part_splits part s t h) [
      | inl x ↦ x
      | inr x ↦ absurd (omega (arith, ap (λ p. length (put_by p)) x.1, ap length (put_by-append s x.0), length-append (put_by s) (put_by x.0)))
    ]

-- a last line that was put whole
line_whole : (more : List Write) (line : List ℕ) → IsPartOf more (Put line ∷ []) → length line ≤ length (put_by more) → 0 < length line → more ≡ Put line ∷ []
line_whole [] line h l p = absurd (omega arith)
line_whole (w ∷ more) line h l p =
    elim h [
      | inl x ↦ ap (λ v. v ∷ more) x.0 ∙ ap (λ m. Put line ∷ m) (none more x.1)
      | inr x ↦ whole w more x.0 x.1 l
    ]
  where
    none : (more : List Write) → IsPartOf more [] → more ≡ []
    none [] h = refl
    none (w ∷ more) h = absurd h

    whole : (w : Write) (more : List Write) → IsPieceOf w (Put line) → more ≡ [] → length line ≤ length (put_of w ++ put_by more) → w ∷ more ≡ Put line ∷ []
    whole (Put piece) more h e l = let same : piece ≡ line = prefix_all piece line h (omega (arith, length-append piece (put_by more), ap (λ m. length (put_by m)) e)) in cc
    whole (Create name) more h e l = absurd h
    whole (Empty name) more h e l = absurd h
    whole (Append name bytes) more h e l = absurd h

-- where all was put that a script and a line put, both were made whole
pub part_at : (part s : List Write) (line : List ℕ) (t : List Write) → IsPartOf part ((s ++ Put line ∷ []) ++ t) → 0 < length line → length (put_by s) + length line ≤ length (put_by part) → (more : List Write) × (part ≡ (s ++ Put line ∷ []) ++ more) × IsPartOf more t
part_at part s line t h p l =
    elim (part_splits part (s ++ Put line ∷ []) t h) [
      | inl x ↦ elim (part_splits part s (Put line ∷ []) x) [
        | inl y ↦ absurd (let q = prefix_short (put_by part) (put_by s) (put_of_part part s y) in omega arith)
        | inr y ↦ (let e = line_whole y.0 line y.2 (omega (arith, ap (λ m. length (put_by m)) y.1, ap length (put_by-append s y.0), length-append (put_by s) (put_by y.0))) p in
            ([], y.1 ∙ ap (λ m. s ++ m) e ∙ sym (append-nil (s ++ Put line ∷ [])), tt))
      ]
      | inr x ↦ x
    ]

-- a write that leaves a name alone
alone : (w : Write) (name : List ℕ) (file : Option (List ℕ)) → (Touches w name → ⊥) → after_write w name file ≡ file
alone (Create this) name file h = other (bytes_eq name this) refl
  where
    other : (b : Bool) → bytes_eq name this ≡ b → cond b (Some []) file ≡ file
    other true e = absurd (h (sym ((bytes_decides name this).0 e)))
    other false e = refl
alone (Empty this) name file h = other (bytes_eq name this) refl
  where
    other : (b : Bool) → bytes_eq name this ≡ b → cond b (Some []) file ≡ file
    other true e = absurd (h (sym ((bytes_decides name this).0 e)))
    other false e = refl
alone (Append this bytes) name file h = other (bytes_eq name this) refl
  where
    other : (b : Bool) → bytes_eq name this ≡ b → cond b (Some (bytes_of file ++ bytes)) file ≡ file
    other true e = absurd (h (sym ((bytes_decides name this).0 e)))
    other false e = refl
alone (Put bytes) name file h = refl

-- a script that leaves a name alone
pub left_alone : (s : List Write) (name : List ℕ) (file : Option (List ℕ)) → LeavesAlone s name → file_after s name file ≡ file
left_alone [] name file h = refl
left_alone (w ∷ s) name file h = ap (file_after s name) (alone w name file h.0) ∙ left_alone s name file h.1

piece_touches : (w v : Write) (name : List ℕ) → IsPieceOf w v → Touches w name → Touches v name
piece_touches (Empty this) (Create at) name h t = sym h ∙ t
piece_touches (Append this part) (Append at bytes) name h t = sym h.0 ∙ t
piece_touches (Put part) (Put bytes) name h t = t
piece_touches (Create this) v name h t = absurd h
piece_touches (Empty this) (Empty at) name h t = absurd h
piece_touches (Empty this) (Append at bytes) name h t = absurd h
piece_touches (Empty this) (Put bytes) name h t = absurd h
piece_touches (Append this part) (Create at) name h t = absurd h
piece_touches (Append this part) (Empty at) name h t = absurd h
piece_touches (Append this part) (Put bytes) name h t = absurd h
piece_touches (Put part) (Create at) name h t = absurd h
piece_touches (Put part) (Empty at) name h t = absurd h
piece_touches (Put part) (Append at bytes) name h t = absurd h

-- a part leaves alone what the script leaves alone
pub part_leaves : (part s : List Write) (name : List ℕ) → IsPartOf part s → LeavesAlone s name → LeavesAlone part name
part_leaves [] s name h l = tt
part_leaves (w ∷ part) [] name h l = absurd h
part_leaves (w ∷ part) (v ∷ s) name h l =
    elim h [
      | inl x ↦ ((λ t. l.0 (subst (λ y. Touches y name) x.0 t)), part_leaves part s name x.1 l.1)
      | inr x ↦ ((λ t. l.0 (piece_touches w v name x.0 t)), rw x.1 tt)
    ]
