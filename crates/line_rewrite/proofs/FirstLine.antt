-- The first line of a text.
use Rattle.std.proofs.Common.{◌≡◌, ℕ, zero, suc, ◌+◌, ◌≤◌, List, [], ◌∷◌, length, take, drop, sym, ap, subst, ◌∙◌, arith}
use Rattle.std.proofs.lemmas.Bool.{eqb-true, eq-eqb, ne_eqb}
use Rattle.std.proofs.lemmas.List.{take_all, drop_all}
use Rattle.memchr.specs.Find.{is_byte, Passes, Nowhere, NoneBefore}
use Rattle.ngd_log.specs.Lines.{lines, HasNoLineFeed}
use Rattle.ngd_log.proofs.LineFeeds.{lines_plain, lines_split}
use Rattle.ngd_log.proofs.LogLines.{cons_head, cons_tail}

-- a line and what follows it are the text's first line and its others
pub first_is : (text front : List ℕ) (back : List (List ℕ)) → lines text ≡ front ∷ back → (line : List ℕ) (others : List (List ℕ)) → lines text ≡ line ∷ others → (front ≡ line) × (back ≡ others)
first_is text front back e line others h = let f = sym e ∙ h in (cons_head _ _ _ _ f, cons_tail _ _ _ _ f)

-- before a place that a search came to stands no line feed
none_before : (text : List ℕ) (n : ℕ) → n ≤ length text → Nowhere (Passes (is_byte 10) text) 0 n → HasNoLineFeed (take n text)
none_before text zero le h = tt
none_before [] (suc n) le h = tt
none_before (b ∷ text) (suc n) le h = (
  ne_eqb b 10 (λ e. h 0 (omega arith) (omega arith) (eq-eqb b 10 e)),
  none_before text n (omega (arith, le)) (λ k low high. h (suc k) (omega arith) (omega (arith, high))),
)

-- the search came to the end of the first line
pub first_found : (text : List ℕ) (at : ℕ) → NoneBefore (Passes (is_byte 10) text) 0 (length text) at × Passes (is_byte 10) text at → lines text ≡ take (at + 1) text ∷ lines (drop (at + 1) text)
first_found text at h = let lt = h.0.high in lines_split text at lt (eqb-true _ _ h.1) (none_before text at (omega (arith, lt)) h.0.before)

-- a text without a line feed is its first line, if it has one
pub first_plain : (text : List ℕ) → HasNoLineFeed text → (line : List ℕ) (others : List (List ℕ)) → lines text ≡ line ∷ others → (text ≡ line) × ([] ≡ others)
first_plain [] h line others e = absurd (let no = e in cc)
first_plain (b ∷ text) h line others e = first_is (b ∷ text) (b ∷ text) [] (lines_plain (b ∷ text) h (omega arith)) line others e

-- so it is where the search found none, and it is taken whole
pub first_whole : (text : List ℕ) (n : ℕ) → length text ≤ n → Nowhere (Passes (is_byte 10) text) 0 (length text) → (line : List ℕ) (others : List (List ℕ)) → lines text ≡ line ∷ others → (take n text ≡ line) × (lines (drop n text) ≡ others)
first_whole text n le h line others e =
    let is = first_plain text (subst HasNoLineFeed (take_all (length text) text (omega arith)) (none_before text (length text) (omega arith) h)) line others e in
    (take_all n text le ∙ is.0, ap lines (drop_all n text le) ∙ is.1)
