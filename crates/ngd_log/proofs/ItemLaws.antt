-- Items that are read are those that were written, and those that were written are read again.
use Rattle.std.proofs.Common.{◌≡◌, ℕ, zero, suc, ◌+◌, ◌≤◌, false, List, [], ◌∷◌, ◌++◌, length, Option, Some, None, refl, sym, ap, subst, ◌∙◌, append_assoc, arith}
use Rattle.std.specs.Prelude.{codes, flat_map}
use Rattle.std.specs.List.{AllByRecursion}
use Rattle.std.specs.Char.{is_ascii_digit}
use Rattle.std.proofs.lemmas.List.{length-append}
use Rattle.dcsp_defs.specs.declared.nogood.Pair.{Pair}
use Rattle.dcsp_defs.specs.declared.Reason.{Reason}
use Rattle.ngd_log.specs.StepText.{pair_text, pairs_text, reason_text, reasons_text, IsReasonInRange}
use Rattle.dcsp_common.specs.Reading.{◌>>=◌, begins_with_digit}
use Rattle.ngd_log.specs.Reading.{after, if_next, items_at, pair_at, nogood_of, nogood_from, nogood_before, nogood_at, reason_at, reasons_at}
use Rattle.dcsp_common.proofs.Chosen.{bind_then, some_is}
use Rattle.ngd_log.proofs.AfterPrefix.{after_takes, after_again}
use Rattle.dcsp_defs.specs.Pairs.{IsRising}
use Rattle.ngd_log.proofs.Rising.{nogood_of-rising, nogood_of-rises}
use Rattle.ngd_log.proofs.Fields.{Took, IsPair, pair_takes, pair_again, reason_takes, reason_again}

-- the items' texts, each behind the separator
abbrev pub items_text : {X : Type 0} → ℕ → (X → List ℕ) → List X → List ℕ
items_text separator text xs = flat_map (λ x. (separator ∷ []) ++ text x) xs

-- an item that is read is one that was written
abbrev pub Takes : {X : Type 0} → (List ℕ → Option (X × List ℕ)) → (X → List ℕ) → (X → Type 0) → Type 0
Takes {X = X} item text ok = (bytes : List ℕ) (x : X) (rest : List ℕ) → item bytes ≡ Some (x, rest) → Took bytes (text x) rest (ok x)

-- an item that was written is read again, where no digit follows
abbrev pub Again : {X : Type 0} → (List ℕ → Option (X × List ℕ)) → (X → List ℕ) → (X → Type 0) → Type 0
Again {X = X} item text ok = (x : X) (rest : List ℕ) → ok x → begins_with_digit rest ≡ false → item (text x ++ rest) ≡ Some (x, rest)

-- items that were read
pub items_takes : {X : Type 0} (c : ℕ) (item : List ℕ → Option (X × List ℕ)) (text : X → List ℕ) (ok : X → Type 0) → Takes item text ok
    → (most : ℕ) (bytes : List ℕ) (xs : List X) (rest : List ℕ) → items_at (c ∷ []) item most bytes ≡ Some (xs, rest) → Took bytes (items_text c text xs) rest (AllByRecursion ok xs)
unfolding items_at
items_takes {X = X} c item text ok law zero bytes xs rest h =
    subst (λ (p : List X × List ℕ). Took bytes (items_text c text p.0) p.1 (AllByRecursion ok p.0)) (some_is ([], bytes) (xs, rest) h) (record { parts = refl; holds = tt })
items_takes {X = X} c item text ok law (suc most) bytes xs rest h =
    (elim (after (c ∷ []) bytes) as (λ o. after (c ∷ []) bytes ≡ o → if_next bytes o (λ r. item r >>= (λ x. items_at (c ∷ []) item most x.1 >>= (λ ys. Some (x.0 ∷ ys.0, ys.1)))) ≡ Some (xs, rest) → Took bytes (items_text c text xs) rest (AllByRecursion ok xs)) [
      | None ↦ λ a k. subst (λ (p : List X × List ℕ). Took bytes (items_text c text p.0) p.1 (AllByRecursion ok p.0)) (some_is ([], bytes) (xs, rest) k) (record { parts = refl; holds = tt })
      | Some r ↦ λ a k.
          bind_then (item r) (λ x. items_at (c ∷ []) item most x.1 >>= (λ ys. Some (x.0 ∷ ys.0, ys.1))) (xs, rest) k (λ x rx e.
          bind_then (items_at (c ∷ []) item most x.1) (λ ys. Some (x.0 ∷ ys.0, ys.1)) (xs, rest) e (λ ys ry f.
          let t = law r x.0 x.1 rx in
          let u = items_takes c item text ok law most x.1 ys.0 ys.1 ry in
          let parts : bytes ≡ items_text c text (x.0 ∷ ys.0) ++ ys.1 = after_takes (c ∷ []) bytes r a ∙ rw (t.parts, u.parts) (simp append_assoc) in
          subst (λ (p : List X × List ℕ). Took bytes (items_text c text p.0) p.1 (AllByRecursion ok p.0)) (some_is (x.0 ∷ ys.0, ys.1) (xs, rest) f) (record { parts = parts; holds = (t.holds, u.holds) })))
    ]) refl h

-- no digit stands at the front of items behind a separator that is none
stops : {X : Type 0} (c : ℕ) (text : X → List ℕ) (xs : List X) (rest : List ℕ) → is_ascii_digit c ≡ false → begins_with_digit rest ≡ false → begins_with_digit (items_text c text xs ++ rest) ≡ false
stops c text [] rest d stop = stop
stops c text (x ∷ xs) rest d stop = d

-- the text of items is read again
pub items_again : {X : Type 0} (c : ℕ) (item : List ℕ → Option (X × List ℕ)) (text : X → List ℕ) (ok : X → Type 0) → Again item text ok → is_ascii_digit c ≡ false
    → (most : ℕ) (xs : List X) (rest : List ℕ) → length xs ≤ most → AllByRecursion ok xs → begins_with_digit rest ≡ false → after (c ∷ []) rest ≡ None
    → items_at (c ∷ []) item most (items_text c text xs ++ rest) ≡ Some (xs, rest)
unfolding items_at
items_again c item text ok law d zero [] rest room h stop none = refl
items_again c item text ok law d (suc most) [] rest room h stop none = rw none refl
items_again c item text ok law d zero (x ∷ xs) rest room h stop none = absurd (omega arith)
items_again c item text ok law d (suc most) (x ∷ xs) rest room h stop none =
    let regrouped : items_text c text (x ∷ xs) ++ rest ≡ (c ∷ []) ++ (text x ++ (items_text c text xs ++ rest)) = simp append_assoc in
    rw (
      regrouped,
      after_again (c ∷ []) (text x ++ (items_text c text xs ++ rest)),
      law x (items_text c text xs ++ rest) h.0 (stops c text xs rest d stop),
      items_again c item text ok law d most xs rest (omega arith) h.1 stop none,
    ) refl

-- there are no more items than bytes
pub fewer : {X : Type 0} (c : ℕ) (text : X → List ℕ) (xs : List X) (rest : List ℕ) → length xs ≤ length (items_text c text xs ++ rest)
fewer c text [] rest = omega arith
fewer c text (x ∷ xs) rest =
    let h = fewer c text xs rest in
    let e : length (items_text c text (x ∷ xs) ++ rest) ≡ suc (length (text x) + length (items_text c text xs ++ rest)) = simp length-append (omega (arith, length-append (items_text c text xs) rest)) in
    omega arith

-- ---- reasons

-- reasons that were read
pub reasons_takes : (bytes : List ℕ) (rs : List Reason) (rest : List ℕ) → reasons_at bytes ≡ Some (rs, rest) → Took bytes (reasons_text rs) rest (AllByRecursion IsReasonInRange rs)
reasons_takes bytes rs rest h = items_takes 32 reason_at reason_text IsReasonInRange reason_takes (length bytes) bytes rs rest h

-- the text of reasons is read again
pub reasons_again : (rs : List Reason) (rest : List ℕ) → AllByRecursion IsReasonInRange rs → begins_with_digit rest ≡ false → after (codes " ") rest ≡ None → reasons_at (reasons_text rs ++ rest) ≡ Some (rs, rest)
reasons_again rs rest h stop none = items_again 32 reason_at reason_text IsReasonInRange reason_again refl (length (reasons_text rs ++ rest)) rs rest (fewer 32 reason_text rs rest) h stop none

-- ---- pairs

-- five texts, joined from the right
regroup : (a b c d rest : List ℕ) → (a ++ b ++ c ++ d) ++ rest ≡ a ++ (b ++ (c ++ (d ++ rest)))
regroup a b c d rest = simp append_assoc

-- pairs, by their parts
joined : (bytes a : List ℕ) (y : Pair) (b : List ℕ) (ys : List Pair) (d r : List ℕ) → bytes ≡ codes "[" ++ a → a ≡ pair_text y ++ b → b ≡ items_text 44 pair_text ys ++ d → d ≡ codes "]" ++ r → bytes ≡ pairs_text (y ∷ ys) ++ r
joined bytes a y b ys d r e f g h = rw (e, f, g, h) (sym (regroup (codes "[") (pair_text y) (items_text 44 pair_text ys) (codes "]") r))

-- pairs that can be those of a nogood
pub record AreNogood (ys : List Pair) : Type 0 where
  pub pairs : AllByRecursion IsPair ys
  pub rising : IsRising ys

-- the pairs of a nogood that were read
pub nogood_takes : (bytes : List ℕ) (ys : List Pair) (rest : List ℕ) → nogood_at bytes ≡ Some (ys, rest) → Took bytes (pairs_text ys) rest (AreNogood ys)
unfolding nogood_at nogood_before
nogood_takes bytes ys rest h =
    bind_then (after (codes "[") bytes) (λ a. nogood_before a (after (codes "]") a)) (ys, rest) h (λ a ra e.
    (elim (after (codes "]") a) as (λ o. after (codes "]") a ≡ o → nogood_before a o ≡ Some (ys, rest) → Took bytes (pairs_text ys) rest (AreNogood ys)) [
      | Some r ↦ λ b k.
          let parts : bytes ≡ codes "[]" ++ r = after_takes (codes "[") bytes a ra ∙ ap (λ (x : List ℕ). codes "[" ++ x) (after_takes (codes "]") a r b) in
          subst (λ (p : List Pair × List ℕ). Took bytes (pairs_text p.0) p.1 (AreNogood p.0)) (some_is ([], r) (ys, rest) k) (record { parts = parts; holds = record { pairs = tt; rising = λ k lt. absurd (omega arith) } })
      | None ↦ λ b k.
          bind_then (pair_at a) (λ y. nogood_from y.0 y.1 >>= λ zs. after (codes "]") zs.1 >>= λ r. Some (zs.0, r)) (ys, rest) k (λ y ry f.
          bind_then (nogood_from y.0 y.1) (λ zs. after (codes "]") zs.1 >>= λ r. Some (zs.0, r)) (ys, rest) f (λ zs rz g.
          bind_then (after (codes "]") zs.1) (λ r. Some (zs.0, r)) (ys, rest) g (λ r rr i.
          bind_then (items_at (codes ",") pair_at (length y.1) y.1 >>= λ ws. Some (y.0 ∷ ws.0, ws.1)) (λ ws. nogood_of ws.0 >>= λ nogood. Some (nogood, ws.1)) zs rz (λ all read rs.
          bind_then (items_at (codes ",") pair_at (length y.1) y.1) (λ ws. Some (y.0 ∷ ws.0, ws.1)) all read (λ ws rows j.
          bind_then (nogood_of all.0) (λ nogood. Some (nogood, all.1)) zs rs (λ nogood rn m.
          let t = pair_takes a y.0 y.1 ry in
          let u = items_takes 44 pair_at pair_text IsPair pair_takes (length y.1) y.1 ws.0 ws.1 rows in
          let n = nogood_of-rises all.0 nogood rn in
          let same : y.0 ∷ ws.0 ≡ zs.0 = ap (λ (p : List Pair × List ℕ). p.0) (some_is (y.0 ∷ ws.0, ws.1) all j) ∙ n.0 ∙ ap (λ (p : List Pair × List ℕ). p.0) (some_is (nogood, all.1) zs m) in
          let left : ws.1 ≡ zs.1 = ap (λ (p : List Pair × List ℕ). p.1) (some_is (y.0 ∷ ws.0, ws.1) all j) ∙ ap (λ (p : List Pair × List ℕ). p.1) (some_is (nogood, all.1) zs m) in
          let parts = joined bytes a y.0 y.1 ws.0 ws.1 r (after_takes (codes "[") bytes a ra) t.parts u.parts (left ∙ after_takes (codes "]") zs.1 r rr) in
          let rising : IsRising (y.0 ∷ ws.0) = subst IsRising (sym (ap (λ (p : List Pair × List ℕ). p.0) (some_is (y.0 ∷ ws.0, ws.1) all j))) n.1 in
          let first : Took bytes (pairs_text (y.0 ∷ ws.0)) r (AreNogood (y.0 ∷ ws.0)) = record { parts = parts; holds = record { pairs = (t.holds, u.holds); rising = rising } } in
          let second : Took bytes (pairs_text zs.0) r (AreNogood zs.0) = subst (λ (p : List Pair). Took bytes (pairs_text p) r (AreNogood p)) same first in
          subst (λ (p : List Pair × List ℕ). Took bytes (pairs_text p.0) p.1 (AreNogood p.0)) (some_is (zs.0, r) (ys, rest) i) second))))))
    ]) refl e)

-- the text of pairs is read again
pub nogood_again : (ys : List Pair) (rest : List ℕ) → AllByRecursion IsPair ys → IsRising ys → nogood_at (pairs_text ys ++ rest) ≡ Some (ys, rest)
unfolding nogood_at nogood_before after
nogood_again [] rest h rising = refl
nogood_again (y ∷ ys) rest h rising =
    let others = items_text 44 pair_text ys ++ (codes "]" ++ rest) in
    let regrouped : pairs_text (y ∷ ys) ++ rest ≡ codes "[" ++ (pair_text y ++ others) = regroup (codes "[") (pair_text y) (items_text 44 pair_text ys) (codes "]") rest in
    ap nogood_at regrouped ∙ rw (
      pair_again y others h.0 (stops 44 pair_text ys (codes "]" ++ rest) refl refl),
      items_again 44 pair_at pair_text IsPair pair_again refl (length others) ys (codes "]" ++ rest) (fewer 44 pair_text ys (codes "]" ++ rest)) h.1 refl refl,
      nogood_of-rising (y ∷ ys) rising,
    ) refl
