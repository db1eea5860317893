-- The lines of a text.
use Rattle.std.proofs.Common.{◌≡◌, ℕ, zero, suc, ◌+◌, ◌<◌, ◌≤◌, ◌^◌, true, false, cond, eqb, List, [], ◌∷◌, ◌++◌, length, take, drop, get_or, Option, Some, None, ℤ, pos, negsuc, FitsSigned, inl, inr, refl, sym, ap, subst, ◌∙◌, append_assoc, arith}
use Rattle.std.specs.Prelude.{codes, decimal, flat_map}
use Rattle.std.specs.Int.{w64}
use Rattle.std.specs.List.{AllByRecursion, concat}
use Rattle.std.specs.Str.{all_ascii_digits}
use Rattle.std.specs.Char.{is_ascii_digit}
use Rattle.std.specs.Fmt.{signed_decimal}
use Rattle.std.proofs.lemmas.Bool.{false≢true, eqb-true, eq-eqb, ne_eqb}
use Rattle.std.proofs.lemmas.List.{take_all, take_more, take-append-drop}
use Rattle.memchr.specs.Find.{is_byte, Passes, Nowhere, NoneBefore}
use Rattle.dcsp_defs.proofs.Lists.{and_left, and_right}
use Rattle.dcsp_defs.specs.declared.nogood.Pair.{Pair}
use Rattle.dcsp_defs.specs.declared.Reason.{Reason}
use Rattle.dcsp_defs.specs.declared.Reason.TheVariants.{Rule, Earlier}
use Rattle.dcsp_defs.specs.declared.Step.{Step}
use Rattle.ngd_log.specs.StepText.{pair_text, pairs_text, reason_text, reasons_text, variable_text, step_line, IsVariable, IsStepNumber, IsReasonInRange, IsWritable}
use Rattle.ngd_log.specs.Lines.{lines, with_byte, HasNoLineFeed, IsLine}
use Rattle.dcsp_common.proofs.Chosen.{chosen}
use Rattle.ngd_log.proofs.Each.{each_append, each_both}
use Rattle.ngd_log.proofs.Fields.{IsPair}
use Rattle.dcsp_common.proofs.Decimals.{decimal_digits}

-- ---- a step's line has one line feed

-- no digit is a line feed
no_feed_in_digits : (ds : List ℕ) → all_ascii_digits ds ≡ true → HasNoLineFeed ds
no_feed_in_digits [] h = tt
no_feed_in_digits (c ∷ cs) h =
    let d : is_ascii_digit c ≡ true = and_left _ _ h in
    (ne_eqb c 10 (λ e. absurd (false≢true (ap is_ascii_digit (sym e) ∙ d))), no_feed_in_digits cs (and_right _ _ h))

-- nor is one in a number
pub no_feed_in_decimal : (n : ℕ) → n < 2 ^ 64 → HasNoLineFeed (decimal n)
no_feed_in_decimal n small = no_feed_in_digits (decimal n) (decimal_digits n small)

-- in a signed number
no_feed_in_signed : (v : ℤ) → FitsSigned w64 v → HasNoLineFeed (signed_decimal v)
no_feed_in_signed (pos n) fits = let s : n < 2 ^ 63 = fits.sfits in no_feed_in_decimal n (omega arith)
no_feed_in_signed (negsuc n) fits = let s : n < 2 ^ 63 = fits.sfits in (refl, no_feed_in_decimal (suc n) (omega arith))

-- in two texts
pub both : (xs ys : List ℕ) → HasNoLineFeed xs → HasNoLineFeed ys → HasNoLineFeed (xs ++ ys)
both xs ys h k = each_append (λ b. eqb b 10 ≡ false) xs ys h k

-- in a pair
no_feed_in_pair : (y : Pair) → IsPair y → HasNoLineFeed (pair_text y)
no_feed_in_pair y i =
    let v = i.variable in
    both (codes "v" ++ decimal (y.var + 1) ++ codes "=") (signed_decimal y.value)
    (both (codes "v" ++ decimal (y.var + 1)) (codes "=") (refl, no_feed_in_decimal (y.var + 1) (omega arith)) (refl, tt)) (no_feed_in_signed y.value i.value)

-- in items
pub no_feed_in_items : {X : Type 0} (c : ℕ) (text : X → List ℕ) (ok : X → Type 0) (xs : List X) → eqb c 10 ≡ false → ((x : X) → ok x → HasNoLineFeed (text x)) → AllByRecursion ok xs → HasNoLineFeed (flat_map (λ x. (c ∷ []) ++ text x) xs)
no_feed_in_items c text ok [] e f h = tt
no_feed_in_items c text ok (x ∷ xs) e f h = (e, both (text x) (flat_map (λ x. (c ∷ []) ++ text x) xs) (f x h.0) (no_feed_in_items c text ok xs e f h.1))

-- in pairs
no_feed_in_pairs : (ys : List Pair) → AllByRecursion IsPair ys → HasNoLineFeed (pairs_text ys)
no_feed_in_pairs [] h = (refl, (refl, tt))
no_feed_in_pairs (y ∷ ys) h =
    both (codes "[" ++ pair_text y ++ flat_map (λ (z : Pair). codes "," ++ pair_text z) ys) (codes "]")
    (both (codes "[" ++ pair_text y) (flat_map (λ (z : Pair). codes "," ++ pair_text z) ys) (refl, no_feed_in_pair y h.0) (no_feed_in_items 44 pair_text IsPair ys refl no_feed_in_pair h.1)) (refl, tt)

-- in a reason
no_feed_in_reason : (r : Reason) → IsReasonInRange r → HasNoLineFeed (reason_text r)
no_feed_in_reason (Rule x) h = (refl, no_feed_in_decimal (x + 1) (omega arith))
no_feed_in_reason (Earlier k) h = let b = h.bounded in (refl, no_feed_in_decimal k (omega arith))

-- in a variable
no_feed_in_variable : (o : Option ℕ) (nogood : List Pair) (reasons : List Reason) → IsWritable (record { variable = o; nogood = nogood; reasons = reasons }) → HasNoLineFeed (variable_text o)
no_feed_in_variable None nogood reasons w = (refl, tt)
no_feed_in_variable (Some x) nogood reasons w = let v : x < 4096 = w.in_range.variable in (refl, no_feed_in_decimal (x + 1) (omega arith))

-- a step's line has one line feed, at its end
pub step_line-IsLine : (number : ℕ) (step : Step) → IsStepNumber number → IsWritable step → IsLine (step_line number step)
step_line-IsLine number step numbered w =
    let a = decimal number in
    let b = codes " " in
    let c = variable_text step.variable in
    let d = pairs_text step.nogood in
    let e = codes " <-" in
    let f = reasons_text step.reasons in
    let most = numbered.bounded in
    let pairs : AllByRecursion IsPair step.nogood = each_both (λ (y : Pair). IsVariable y.var) (λ (y : Pair). FitsSigned w64 y.value) IsPair step.nogood (λ y v f. record { variable = v; value = f }) w.in_range.pairs w.values in
    record {
      body = a ++ b ++ c ++ b ++ d ++ e ++ f;
      plain =
          both (a ++ b ++ c ++ b ++ d ++ e) f
          (both (a ++ b ++ c ++ b ++ d) e
          (both (a ++ b ++ c ++ b) d
          (both (a ++ b ++ c) b (both (a ++ b) c (both a b (no_feed_in_decimal number (omega arith)) (refl, tt)) (no_feed_in_variable step.variable step.nogood step.reasons w)) (refl, tt))
          (no_feed_in_pairs step.nogood pairs))
          (refl, (refl, (refl, tt))))
          (no_feed_in_items 32 reason_text IsReasonInRange step.reasons refl no_feed_in_reason w.in_range.reasons);
      same = refl;
    }

-- ---- lines

-- bytes without a line feed, and one
lines-cons : (body rest : List ℕ) → HasNoLineFeed body → lines (body ++ codes "\n" ++ rest) ≡ (body ++ codes "\n") ∷ lines rest
lines-cons [] rest h = refl
lines-cons (b ∷ body) rest h = rw (h.0, lines-cons body rest h.1) refl

-- a line, and the lines of what follows it
pub lines_after : (line rest : List ℕ) → IsLine line → lines (line ++ rest) ≡ line ∷ lines rest
lines_after line rest is = rw is.same (lines-cons is.body rest is.plain)

-- several lines, and those of what follows them
pub lines-concat : (ls : List (List ℕ)) (rest : List ℕ) → AllByRecursion IsLine ls → lines (concat ls ++ rest) ≡ ls ++ lines rest
lines-concat [] rest h = refl
lines-concat (l ∷ ls) rest h = ap lines (append_assoc l (concat ls) rest) ∙ lines_after l (concat ls ++ rest) h.0 ∙ ap (λ (x : List (List ℕ)). l ∷ x) (lines-concat ls rest h.1)

-- without a line feed there is one line, or none where the text is empty
pub lines_plain : (text : List ℕ) → HasNoLineFeed text → 0 < length text → lines text ≡ text ∷ []
lines_plain [] h some = absurd (omega arith)
lines_plain (b ∷ []) h some = rw h.0 refl
lines_plain (b ∷ c ∷ text) h some = rw (h.0, lines_plain (c ∷ text) h.1 (omega arith)) refl

-- there is a line before which the byte stands
with_byte-some : (b : ℕ) (ls : List (List ℕ)) → with_byte b ls ≡ [] → ⊥
with_byte-some b [] h = cc
with_byte-some b (l ∷ ls) h = cc

-- a text without lines is empty
pub no_lines : (text : List ℕ) → lines text ≡ [] → text ≡ []
no_lines [] h = refl
no_lines (b ∷ text) h =
    elim (chosen (eqb b 10) ((b ∷ []) ∷ lines text) (with_byte b (lines text)) [] h) [ inl e ↦ absurd (let g = e.1 in cc) | inr e ↦ absurd (with_byte-some b (lines text) e.1) ]

-- the byte stands first
concat-with_byte : (b : ℕ) (ls : List (List ℕ)) → concat (with_byte b ls) ≡ b ∷ concat ls
concat-with_byte b [] = refl
concat-with_byte b (l ∷ ls) = refl

-- the lines make up the text
pub concat-lines : (text : List ℕ) → concat (lines text) ≡ text
concat-lines [] = refl
concat-lines (b ∷ text) =
    elim (eqb b 10) as (λ t. concat (cond t ((b ∷ []) ∷ lines text) (with_byte b (lines text))) ≡ b ∷ text) [
      | true ↦ ap (λ (x : List ℕ). b ∷ x) (concat-lines text)
      | false ↦ concat-with_byte b (lines text) ∙ ap (λ (x : List ℕ). b ∷ x) (concat-lines text)
    ]

-- a text with a line feed at its end has one
pub line_has_feed : (line : List ℕ) → IsLine line → HasNoLineFeed line → ⊥
line_has_feed line is h = in_body is.body (subst HasNoLineFeed is.same h)
  where
    in_body : (body : List ℕ) → HasNoLineFeed (body ++ codes "\n") → ⊥
    in_body [] k = let e : true ≡ false = k.0 in cc
    in_body (b ∷ body) k = in_body body k.1

-- a text up to its first line feed, and what follows it
pub lines_split : (text : List ℕ) (at : ℕ) → at < length text → get_or text at 0 ≡ 10 → HasNoLineFeed (take at text) → lines text ≡ take (at + 1) text ∷ lines (drop (at + 1) text)
lines_split text at lt feed plain =
    let front : take (at + 1) text ≡ take at text ++ codes "\n" = take_more text at 0 lt ∙ ap (λ (b : ℕ). take at text ++ b ∷ []) feed in
    ap lines (sym (take-append-drop (at + 1) text)) ∙ lines_after (take (at + 1) text) (drop (at + 1) text) (record { body = take at text; plain = plain; same = front })

-- before a place that a search came to stands no line feed
none_before : (text : List ℕ) (n : ℕ) → n ≤ length text → Nowhere (Passes (is_byte 10) text) 0 n → HasNoLineFeed (take n text)
none_before text zero le h = tt
none_before [] (suc n) le h = tt
none_before (b ∷ text) (suc n) le h = (
  ne_eqb b 10 (λ e. h 0 (omega arith) (omega arith) (eq-eqb b 10 e)),
  none_before text n (omega (arith, le)) (λ k low high. h (suc k) (omega arith) (omega (arith, high))),
)

-- a text up to the line feed that the search came to is a line
pub first_is_line : (text : List ℕ) (at : ℕ) → NoneBefore (Passes (is_byte 10) text) 0 (length text) at → Passes (is_byte 10) text at → IsLine (take (at + 1) text)
first_is_line text at h found =
    let lt = h.high in
    record { body = take at text; plain = none_before text at (omega (arith, lt)) h.before; same = take_more text at 0 lt ∙ ap (λ (b : ℕ). take at text ++ b ∷ []) (eqb-true _ _ found) }

-- it is the first of the text's lines
pub first_found : (text : List ℕ) (at : ℕ) → NoneBefore (Passes (is_byte 10) text) 0 (length text) at → Passes (is_byte 10) text at → lines text ≡ take (at + 1) text ∷ lines (drop (at + 1) text)
first_found text at h found = let lt = h.high in lines_split text at lt (eqb-true _ _ found) (none_before text at (omega (arith, lt)) h.before)

-- the search found none
pub none_found : (text : List ℕ) → Nowhere (Passes (is_byte 10) text) 0 (length text) → HasNoLineFeed text
none_found text h = subst HasNoLineFeed (take_all (length text) text (omega arith)) (none_before text (length text) (omega arith) h)
