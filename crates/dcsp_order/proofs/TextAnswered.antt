-- What a reader of an order meets, and what it answers.
use Rattle.std.proofs.Common.{◌≡◌, ℕ, ◌+◌, ◌<◌, ◌≤◌, Bool, true, false, List, [], ◌∷◌, ◌++◌, map, length, take, get_or, Option, Some, None, Result, Ok, Err, inl, inr, refl, sym, ap, subst, ◌∙◌, append_assoc, arith}
use Rattle.std.specs.Prelude.{codes, decimal, IfOk, IfErr}
use Rattle.std.specs.List.{concat}
use Rattle.std.proofs.lemmas.List.{append-nil, take_more, nil_from_length}
use Rattle.std.proofs.lemmas.List.Folds.{concat-append}
use Rattle.dcsp_common.specs.Reading.{◌>>=◌}
use Rattle.dcsp_common.proofs.Chosen.{some_is, bind_then}
use Rattle.dcsp_defs.specs.Words.{In}
use Rattle.ngd_log.specs.Lines.{lines}
use Rattle.ngd_log.specs.Reading.{after, counted_at}
use Rattle.ngd_log.proofs.AfterPrefix.{after_takes, after_again}
use Rattle.ngd_log.proofs.BadLines.{one_line, not_both}
use Rattle.ngd_log.proofs.Fields.{counted_takes, counted_again}
use Rattle.ngd_log.proofs.LineFeeds.{concat-lines, lines_after, no_lines}
use Rattle.ngd_log.proofs.LogLines.{tail, tail-IsLine, cons_tail}
use Rattle.dcsp_order.specs.declared.text.OrderError.{OrderError}
use Rattle.dcsp_order.specs.declared.text.OrderError.TheVariants.{Line, Memory}
use Rattle.dcsp_order.specs.Texts.{variable_line, variable_at, order_lines, order_text, AreOrderLines, IsTextOf, IsFirstBad, IsCause, IsUnlessMemory, OneAnswer}
use Rattle.dcsp_order.specs.Taken.{Takes}
use Rattle.dcsp_order.proofs.Places.{all_stand}
use Rattle.dcsp_order.proofs.TextLines.{head, front_lines, head-IsLine, variable_line-IsLine, split_lines, lines_of_text, front_push}
use Rattle.dcsp_order.proofs.FirstBad.{HasFront, bad_head, bad_next, bad_rest, front_more, text_of_front}

-- ---- a variable's line at the front

-- the bytes begin with the line of one of so many variables
pub record BeginsWithVariable (n : ℕ) (bytes : List ℕ) (k : ℕ) (rest : List ℕ) : Type 0 where
  pub low : k < n
  pub same : bytes ≡ variable_line k ++ rest

pub variable_takes : (n : ℕ) (bytes : List ℕ) (k : ℕ) (rest : List ℕ) → variable_at n bytes ≡ Some (k, rest) → BeginsWithVariable n bytes k rest
unfolding variable_at
variable_takes n bytes k rest h =
    bind_then (counted_at n bytes) (λ x. after (codes "\n") x.1 >>= λ r. Some (x.0, r)) (k, rest) h (λ x rx f.
    bind_then (after (codes "\n") x.1) (λ r. Some (x.0, r)) (k, rest) f (λ r rr g.
    let t = counted_takes n bytes x.0 x.1 rx in
    let one : BeginsWithVariable n bytes x.0 r = record {
      low = t.holds;
      same = t.parts ∙ ap (λ (l : List ℕ). decimal (x.0 + 1) ++ l) (after_takes (codes "\n") x.1 r rr) ∙ sym (append_assoc (decimal (x.0 + 1)) (codes "\n") r);
    } in
    subst (λ (z : ℕ × List ℕ). BeginsWithVariable n bytes z.0 z.1) (some_is (x.0, r) (k, rest) g) one))

pub variable_again : (n : ℕ) (k : ℕ) (rest : List ℕ) → n ≤ 4096 → k < n → variable_at n (variable_line k ++ rest) ≡ Some (k, rest)
unfolding variable_at
variable_again n k rest few low =
    rw (
      append_assoc (decimal (k + 1)) (codes "\n") rest,
      counted_again n k (codes "\n" ++ rest) low (omega (arith, few)) refl,
      after_again (codes "\n") rest,
    ) refl

-- ---- what the reader meets

begins : (text line : List ℕ) (others : List (List ℕ)) → lines text ≡ line ∷ others → text ≡ line ++ concat others
begins text line others e = sym (concat-lines text) ∙ ap concat e

no_none : {A X : Type 0} (o : Option A) (x : A) → o ≡ None → o ≡ Some x → X
no_none o x e f = absurd cc

-- another beginning
pub bad_start : (n : ℕ) (text : List ℕ) → after head text ≡ None → IsFirstBad n text 1
bad_start n text none = bad_head n text (λ others e. no_none (after head text) (concat others) none (ap (after head) (begins text head others e) ∙ after_again head (concat others)))

pub front_start : (n : ℕ) (text rest : List ℕ) → after head text ≡ Some rest → HasFront n text [] (lines rest)
front_start n text rest read = record {
  some = record { inside = λ k i. absurd i; once = tt };
  same = ap lines (after_takes head text rest read) ∙ lines_after head rest head-IsLine;
}

-- a variable's line is read
pub front_next : (n : ℕ) (text order bytes : List ℕ) (k : ℕ) (rest : List ℕ) → n ≤ 4096 → HasFront n text order (lines bytes) → variable_at n bytes ≡ Some (k, rest) → (In k order → ⊥)
    → HasFront n text (order ++ k ∷ []) (lines rest)
front_next n text order bytes k rest few f read none =
    let b = variable_takes n bytes k rest read in
    let low = b.low in
    let line : lines bytes ≡ variable_line k ∷ lines rest = ap lines b.same ∙ lines_after (variable_line k) rest (variable_line-IsLine k (omega (arith, low, few))) in
    front_more n text order (variable_line k) (lines rest) k (subst (HasFront n text order) line f) refl b.low none

-- the next line is that of no variable that is missing
no_variable : (n : ℕ) (text order bytes : List ℕ) → n ≤ 4096 → length order < n → HasFront n text order (lines bytes)
    → ((k : ℕ) (rest : List ℕ) → k < n → (In k order → ⊥) → variable_at n bytes ≡ Some (k, rest) → ⊥) → IsFirstBad n text (length order + 2)
no_variable n text order bytes few fewer f none =
    (elim (lines bytes) as (λ ls. lines bytes ≡ ls → IsFirstBad n text (length order + 2)) [
      | [] ↦ λ e. bad_next n text order [] few (subst (HasFront n text order) e f) tt
      | line ∷ others ↦ λ e. bad_next n text order (line ∷ others) few (subst (HasFront n text order) e f) (record {
        no_variable = λ k low absent is.
            none k (concat others) low absent (ap (variable_at n) (begins bytes line others e ∙ ap (λ (l : List ℕ). l ++ concat others) is) ∙ variable_again n k (concat others) few low);
        no_end = λ whole. absurd (omega (arith, whole, fewer));
      })
    ]) refl

-- no variable's line is read
pub bad_variable : (n : ℕ) (text order bytes : List ℕ) → n ≤ 4096 → length order < n → HasFront n text order (lines bytes) → variable_at n bytes ≡ None → IsFirstBad n text (length order + 2)
bad_variable n text order bytes few fewer f none = no_variable n text order bytes few fewer f (λ k rest low absent read. no_none (variable_at n bytes) (k, rest) none read)

-- the line of a variable is read that stands before
pub bad_again : (n : ℕ) (text order bytes : List ℕ) (k : ℕ) (rest : List ℕ) → n ≤ 4096 → length order < n → HasFront n text order (lines bytes) → variable_at n bytes ≡ Some (k, rest) → In k order
    → IsFirstBad n text (length order + 2)
bad_again n text order bytes k rest few fewer f read here =
    no_variable n text order bytes few fewer f (λ j r low absent other.
    let same : k ≡ j = ap (λ (x : ℕ × List ℕ). x.0) (some_is (k, rest) (j, r) (sym read ∙ other)) in
    absent (subst (λ (z : ℕ). In z order) same here))

-- `end` is not read
pub bad_tail : (n : ℕ) (text order bytes : List ℕ) → n ≤ 4096 → length order ≡ n → HasFront n text order (lines bytes) → after tail bytes ≡ None → IsFirstBad n text (length order + 2)
bad_tail n text order bytes few whole f none =
    (elim (lines bytes) as (λ ls. lines bytes ≡ ls → IsFirstBad n text (length order + 2)) [
      | [] ↦ λ e. bad_next n text order [] few (subst (HasFront n text order) e f) tt
      | line ∷ others ↦ λ e. bad_next n text order (line ∷ others) few (subst (HasFront n text order) e f) (record {
        no_variable = λ k low absent is. absent (stands k low);
        no_end = λ all is. no_none (after tail bytes) (concat others) none (ap (after tail) (begins bytes line others e ∙ ap (λ (l : List ℕ). l ++ concat others) is) ∙ after_again tail (concat others));
      })
    ]) refl
  where
    stands : (k : ℕ) → k < n → In k order
    stands k low = all_stand n order (record { whole = whole; inside = f.some.inside; once = f.some.once }) k low

-- `end` is read, and nothing is left
pub whole_end : (n : ℕ) (text order bytes left : List ℕ) → length order ≡ n → HasFront n text order (lines bytes) → after tail bytes ≡ Some left → length left < 1 → IsTextOf n text order
whole_end n text order bytes left whole f read none =
    let line : lines bytes ≡ tail ∷ [] = ap lines (after_takes tail bytes left read) ∙ lines_after tail left tail-IsLine ∙ ap (λ (l : List ℕ). tail ∷ lines l) (nil_from_length left (omega (arith, none))) in
    text_of_front n text order whole (subst (HasFront n text order) line f)

-- `end` is read, and bytes are left
pub bad_more : (n : ℕ) (text order bytes left : List ℕ) → n ≤ 4096 → length order ≡ n → HasFront n text order (lines bytes) → after tail bytes ≡ Some left → 0 < length left → IsFirstBad n text (length order + 3)
bad_more n text order bytes left few whole f read some =
    let line : lines bytes ≡ tail ∷ lines left = ap lines (after_takes tail bytes left read) ∙ lines_after tail left tail-IsLine in
    (elim (lines left) as (λ ls. lines left ≡ ls → IsFirstBad n text (length order + 3)) [
      | [] ↦ λ e. absurd (let none : length left ≡ 0 = ap length (no_lines left e) in omega (arith, none, some))
      | l ∷ ls ↦ λ e. bad_rest n text order l ls few whole (subst (HasFront n text order) (line ∙ ap (λ (x : List (List ℕ)). tail ∷ x) e) f)
    ]) refl

-- ---- answers

lines_are : (n : ℕ) (text order : List ℕ) → n ≤ 4096 → IsTextOf n text order → lines text ≡ order_lines order
lines_are n text order few is = ap lines is.same ∙ lines_of_text order (λ k i. let low = is.is_order.inside k i in omega (arith, low, few))

-- a text is that of one order
one_order : (n : ℕ) (text a b : List ℕ) → n ≤ 4096 → IsTextOf n text a → IsTextOf n text b → a ≡ b
one_order n text a b few ia ib =
    let same : order_lines a ≡ order_lines b = sym (lines_are n text a few ia) ∙ lines_are n text b few ib in
    let split = split_lines a b (tail ∷ []) (λ k i. let low = ia.is_order.inside k i in omega (arith, low, few)) (λ k i. let low = ib.is_order.inside k i in omega (arith, low, few)) (cons_tail _ _ _ _ same) in
    none_more split.0 split.1 split.2
  where
    none_more : (c : List ℕ) → a ≡ b ++ c → tail ∷ [] ≡ map variable_line c ++ tail ∷ [] → a ≡ b
    none_more [] e f = e ∙ append-nil b
    none_more (k ∷ []) e f = let no : [] ≡ tail ∷ [] = cons_tail _ _ _ _ f in cc
    none_more (k ∷ j ∷ c) e f = let no : [] ≡ variable_line j ∷ (map variable_line c ++ tail ∷ []) = cons_tail _ _ _ _ f in cc

pub one_answer : (n : ℕ) (text : List ℕ) → n ≤ 4096 → OneAnswer n text
one_answer n text few = record {
  one_order = λ a b ia ib. one_order n text a b few ia ib;
  one_line = one_line (AreOrderLines n) text;
  not_both = λ order number is. not_both (AreOrderLines n) text number (order, is.is_order, sym (lines_are n text order few is));
}

-- a text of an order is read, unless memory ran out
pub accepted : (n : ℕ) (text : List ℕ) (r : Result (List ℕ) OrderError) → n ≤ 4096 → IfOk r (λ o. IsTextOf n text o) → IfErr r (IsCause n text) → (order : List ℕ) → IsTextOf n text order → IsUnlessMemory (Ok order) r
accepted n text (Ok o) few h k order is = inl (ap Ok ((one_answer n text few).one_order o order h is))
accepted n text (Err (Line number)) few h k order is = absurd ((one_answer n text few).not_both order number is k)
accepted n text (Err Memory) few h k order is = inr refl

-- a first bad line is named, unless memory ran out
pub refused : (n : ℕ) (text : List ℕ) (r : Result (List ℕ) OrderError) → n ≤ 4096 → IfOk r (λ o. IsTextOf n text o) → IfErr r (IsCause n text) → (number : ℕ) → IsFirstBad n text number → IsUnlessMemory (Err (Line number)) r
refused n text (Ok o) few h k number bad = absurd ((one_answer n text few).not_both o number h bad)
refused n text (Err (Line m)) few h k number bad = inl (ap (λ (z : ℕ). Err (Line z)) ((one_answer n text few).one_line m number k bad))
refused n text (Err Memory) few h k number bad = inr refl

-- a line that is named is the first bad one
pub caused : (n : ℕ) (text : List ℕ) (r : Result (List ℕ) OrderError) → IfErr r (IsCause n text) → (number : ℕ) → r ≡ Err (Line number) → IsFirstBad n text number
caused n text (Ok o) k number e = absurd cc
caused n text (Err (Line m)) k number e = let f : m ≡ number = cc in subst (IsFirstBad n text) f k
caused n text (Err Memory) k number e = absurd cc

-- ---- what is written

-- one line more
pub text_more : (now order : List ℕ) (i : ℕ) → i < length order → now ≡ concat (front_lines (take i order)) → now ++ variable_line (get_or order i 0) ≡ concat (front_lines (take (i + 1) order))
text_more now order i within is =
    ap (λ (l : List ℕ). l ++ variable_line (get_or order i 0)) is
    ∙ one_more (take i order) (get_or order i 0)
    ∙ ap (λ (o : List ℕ). concat (front_lines o)) (sym (take_more order i 0 within))
  where
    one_more : (o : List ℕ) (k : ℕ) → concat (front_lines o) ++ variable_line k ≡ concat (front_lines (o ++ k ∷ []))
    one_more o k =
        ap (λ (l : List ℕ). concat (front_lines o) ++ l) (sym (append-nil (variable_line k)))
        ∙ sym (concat-append (front_lines o) (variable_line k ∷ []))
        ∙ ap concat (sym (front_push o k))

-- the last line
pub text_end : (now order : List ℕ) → now ≡ concat (front_lines order) → now ++ tail ≡ order_text order
text_end now order is =
    ap (λ (l : List ℕ). l ++ tail) is
    ∙ ap (λ (l : List ℕ). concat (front_lines order) ++ l) (sym (append-nil tail))
    ∙ sym (concat-append (front_lines order) (tail ∷ []))

-- ---- numbers that are taken

pub takes_new : (b : Bool) (number : ℕ) (old new : List ℕ) (before after : List Bool) → b ≡ true → Takes b number old new before after → Takes true number old new before after
takes_new true number old new before after e h = h
takes_new false number old new before after e h = absurd (let no : false ≡ true = e in cc)

pub takes_old : (b : Bool) (number : ℕ) (old new : List ℕ) (before after : List Bool) → b ≡ false → Takes b number old new before after → In number old
takes_old true number old new before after e h = absurd (let no : true ≡ false = e in cc)
takes_old false number old new before after e h = h
