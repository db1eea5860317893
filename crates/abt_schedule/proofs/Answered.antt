-- What a reader of a schedule meets, and what it answers.
use Rattle.std.proofs.Common.{◌≡◌, ℕ, ◌+◌, ◌<◌, ◌≤◌, List, [], ◌∷◌, ◌++◌, length, take, get_or, Option, Some, None, ℤ, pos, negsuc, Result, Ok, Err, inl, inr, refl, sym, ap, subst, ◌∙◌, append_assoc, arith}
use Rattle.std.specs.Prelude.{codes, decimal, IfOk, IfErr, unsigned_abs}
use Rattle.std.specs.Int.{FitsUnsignedBits, w64}
use mir.Val.{to_z, of_z}
use Rattle.std.proofs.lemmas.Int.{to_z-of_z}
use Rattle.std.specs.List.{concat}
use Rattle.ngd_log.specs.Lines.{lines}
use Rattle.ngd_log.specs.Reading.{after, integer_at}
use Rattle.ngd_log.proofs.AfterPrefix.{after_takes, after_again}
use Rattle.std.proofs.lemmas.List.{append-nil, take-take, length-take, take_more, nil_from_length}
use Rattle.std.proofs.lemmas.List.Folds.{concat-append}
use Rattle.dcsp_common.proofs.Chosen.{some_is}
use Rattle.ngd_log.proofs.Fields.{integer_takes, integer_again}
use Rattle.ngd_log.proofs.LineFeeds.{concat-lines, lines_after, no_lines}
use Rattle.ngd_log.proofs.LogLines.{tail, tail-IsLine}
use Rattle.abt_schedule.specs.declared.schedule.ScheduleError.{ScheduleError}
use Rattle.abt_schedule.specs.declared.schedule.ScheduleError.TheVariants.{Line, Memory}
use Rattle.abt_schedule.specs.Schedules.{choice_line, schedule_text, IsScheduleOf, BeginsWithChoice, IsFirstBad, IsCause, IsUnlessMemory}
use Rattle.abt_schedule.proofs.ScheduleLines.{head, front_lines, head-IsLine, choice_line-IsLine, choice_lines-push}
use Rattle.abt_schedule.proofs.FirstBad.{bad_head, HasFront, bad_stop, bad_line, bad_rest, front_more, schedule_of_front}
use Rattle.abt_schedule.proofs.ScheduleLaws.{schedule_or_bad_line}

-- a text whose lines begin with this line begins with it
begins : (text line : List ℕ) (others : List (List ℕ)) → lines text ≡ line ∷ others → text ≡ line ++ concat others
begins text line others e = sym (concat-lines text) ∙ ap concat e

-- something is not nothing
no_none : {X : Type 0} (o : Option (List ℕ)) (rest : List ℕ) → o ≡ None → o ≡ Some rest → X
no_none o rest e f = absurd cc

-- another beginning
pub bad_start : (text : List ℕ) → after head text ≡ None → IsFirstBad text 1
bad_start text none = bad_head text (λ others e. no_none (after head text) (concat others) none (ap (after head) (begins text head others e) ∙ after_again head (concat others)))

-- the first line is read
pub front_start : (text rest : List ℕ) → after head text ≡ Some rest → HasFront text [] (lines rest)
front_start text rest read = record { in_range = tt; front = ap lines (after_takes head text rest read) ∙ lines_after head rest head-IsLine }

-- one choice's line is read
pub front_next : (text choices bytes : List ℕ) (choice : ℕ) (rest : List ℕ) → HasFront text choices (lines bytes) → BeginsWithChoice bytes choice rest → HasFront text (choices ++ choice ∷ []) (lines rest)
front_next text choices bytes choice rest f b =
    let line : lines bytes ≡ choice_line choice ∷ lines rest = ap lines b.same ∙ lines_after (choice_line choice) rest (choice_line-IsLine choice b.in_range) in
    front_more text choices (choice_line choice) (lines rest) choice (subst (λ (ls : List (List ℕ)). HasFront text choices ls) line f) (record { in_range = b.in_range; same = refl })

-- `end` is read, and nothing is left
pub whole_end : (text choices bytes left : List ℕ) → HasFront text choices (lines bytes) → after tail bytes ≡ Some left → length left < 1 → IsScheduleOf text choices
whole_end text choices bytes left f read none =
    let line : lines bytes ≡ tail ∷ [] = ap lines (after_takes tail bytes left read) ∙ lines_after tail left tail-IsLine ∙ ap (λ (l : List ℕ). tail ∷ lines l) (nil_from_length left (omega arith)) in
    schedule_of_front text choices (subst (λ (ls : List (List ℕ)). HasFront text choices ls) line f)

-- `end` is read, and bytes are left
pub bad_more : (text choices bytes left : List ℕ) → HasFront text choices (lines bytes) → after tail bytes ≡ Some left → 0 < length left → IsFirstBad text (length choices + 3)
bad_more text choices bytes left f read some =
    let line : lines bytes ≡ tail ∷ lines left = ap lines (after_takes tail bytes left read) ∙ lines_after tail left tail-IsLine in
    (elim (lines left) as (λ ls. lines left ≡ ls → IsFirstBad text (length choices + 3)) [
      | [] ↦ λ e. absurd (let none : length left ≡ 0 = ap length (no_lines left e) in omega arith)
      | l ∷ ls ↦ λ e. bad_rest text choices l ls (subst (λ (x : List (List ℕ)). HasFront text choices x) (line ∙ ap (λ (x : List (List ℕ)). tail ∷ x) e) f)
    ]) refl

-- neither a choice's line nor `end` is next
pub bad_next : (text choices bytes : List ℕ) → HasFront text choices (lines bytes) → ((choice : ℕ) (rest : List ℕ) → BeginsWithChoice bytes choice rest → ⊥) → after tail bytes ≡ None → IsFirstBad text (length choices + 2)
bad_next text choices bytes f no_choice no_end =
    (elim (lines bytes) as (λ ls. lines bytes ≡ ls → IsFirstBad text (length choices + 2)) [
      | [] ↦ λ e. bad_stop text choices (subst (λ (x : List (List ℕ)). HasFront text choices x) e f)
      | line ∷ others ↦ λ e. bad_line text choices line others (subst (λ (x : List (List ℕ)). HasFront text choices x) e f)
          (λ choice is. no_choice choice (concat others) (record { in_range = is.in_range; same = begins bytes line others e ∙ ap (λ (l : List ℕ). l ++ concat others) is.same }))
          (λ is. no_none (after tail bytes) (concat others) no_end (ap (after tail) (begins bytes line others e ∙ ap (λ (l : List ℕ). l ++ concat others) is) ∙ after_again tail (concat others)))
    ]) refl

-- ---- answers

-- a schedule is read, unless memory ran out
pub accepted : (text : List ℕ) (r : Result (List ℕ) ScheduleError) → IfOk r (λ c. IsScheduleOf text c) → IfErr r (IsCause text) → (choices : List ℕ) → IsScheduleOf text choices → IsUnlessMemory (Ok choices) r
accepted text (Ok c) h k choices is = inl (ap Ok ((schedule_or_bad_line text).one_schedule c choices h is))
accepted text (Err (Line number)) h k choices is = absurd ((schedule_or_bad_line text).not_both choices number is k)
accepted text (Err Memory) h k choices is = inr refl

-- a first bad line is named, unless memory ran out
pub refused : (text : List ℕ) (r : Result (List ℕ) ScheduleError) → IfOk r (λ c. IsScheduleOf text c) → IfErr r (IsCause text) → (number : ℕ) → IsFirstBad text number → IsUnlessMemory (Err (Line number)) r
refused text (Ok c) h k number bad = absurd ((schedule_or_bad_line text).not_both c number h bad)
refused text (Err (Line m)) h k number bad = inl (ap (λ (n : ℕ). Err (Line n)) ((schedule_or_bad_line text).one_line m number k bad))
refused text (Err Memory) h k number bad = inr refl

-- a line that is named is the first bad one
pub caused : (text : List ℕ) (r : Result (List ℕ) ScheduleError) → IfErr r (IsCause text) → (number : ℕ) → r ≡ Err (Line number) → IsFirstBad text number
caused text (Ok c) k number e = absurd cc
caused text (Err (Line m)) k number e = let f : m ≡ number = cc in subst (IsFirstBad text) f k
caused text (Err Memory) k number e = absurd cc

-- ---- a choice's line at the front

-- a signed number of 64 bits, seen as its bits and back
abbrev pub seen : ℤ → ℤ
seen v = to_z w64 (of_z w64 v)

seen_is : (bytes : List ℕ) (v : ℤ) (r : List ℕ) → integer_at bytes ≡ Some (v, r) → seen v ≡ v
seen_is bytes v r read = to_z-of_z w64 v (integer_takes bytes v r read).holds

-- a choice that was read
read_choice : (bytes : List ℕ) (v : ℤ) (r rest : List ℕ) (choice : ℕ) → integer_at bytes ≡ Some (v, r) → FitsUnsignedBits 32 v → choice ≡ unsigned_abs v → after (codes "\n") r ≡ Some rest → BeginsWithChoice bytes choice rest
read_choice bytes (pos n) r rest choice read fits is feed = record {
  in_range = rw is fits;
  same = (integer_takes bytes (pos n) r read).parts
      ∙ ap (λ (l : List ℕ). decimal n ++ l) (after_takes (codes "\n") r rest feed)
      ∙ sym (append_assoc (decimal n) (codes "\n") rest)
      ∙ ap (λ (k : ℕ). choice_line k ++ rest) (sym is);
}
read_choice bytes (negsuc n) r rest choice read fits is feed = absurd fits

pub choice_read : (bytes : List ℕ) (v : ℤ) (r rest : List ℕ) (choice : ℕ) → integer_at bytes ≡ Some (v, r) → FitsUnsignedBits 32 (seen v) → choice ≡ unsigned_abs (seen v) → after (codes "\n") r ≡ Some rest → BeginsWithChoice bytes choice rest
choice_read bytes v r rest choice read fits is feed =
    let same : seen v ≡ v = seen_is bytes v r read in
    read_choice bytes v r rest choice read (subst (FitsUnsignedBits 32) same fits) (is ∙ ap unsigned_abs same) feed

-- a choice's line is read
read_again : (bytes : List ℕ) (choice : ℕ) (rest : List ℕ) → BeginsWithChoice bytes choice rest → integer_at bytes ≡ Some (pos choice, codes "\n" ++ rest)
read_again bytes choice rest b =
    let small = b.in_range in
    ap integer_at (b.same ∙ append_assoc (decimal choice) (codes "\n") rest)
    ∙ integer_again (pos choice) (codes "\n" ++ rest) (record { sfits = omega arith }) refl

-- no number is read
pub no_number : (bytes : List ℕ) → integer_at bytes ≡ None → (choice : ℕ) (rest : List ℕ) → BeginsWithChoice bytes choice rest → ⊥
no_number bytes none choice rest b = clash (integer_at bytes) (pos choice, codes "\n" ++ rest) none (read_again bytes choice rest b)
  where
    clash : (o : Option (ℤ × List ℕ)) (x : ℤ × List ℕ) → o ≡ None → o ≡ Some x → ⊥
    clash o x e f = cc

-- what is read there
read_is : (bytes : List ℕ) (v : ℤ) (r : List ℕ) (choice : ℕ) (rest : List ℕ) → integer_at bytes ≡ Some (v, r) → BeginsWithChoice bytes choice rest → ◌≡◌ {A = ℤ × List ℕ} (v, r) (pos choice, codes "\n" ++ rest)
read_is bytes v r choice rest read b = some_is (v, r) (pos choice, codes "\n" ++ rest) (sym read ∙ read_again bytes choice rest b)

-- a number that is no choice is read
pub no_choice : (bytes : List ℕ) (v : ℤ) (r : List ℕ) → integer_at bytes ≡ Some (v, r) → (FitsUnsignedBits 32 (seen v) → ⊥) → (choice : ℕ) (rest : List ℕ) → BeginsWithChoice bytes choice rest → ⊥
no_choice bytes v r read large choice rest b =
    large (subst (FitsUnsignedBits 32) (sym (seen_is bytes v r read ∙ ap (λ (x : ℤ × List ℕ). x.0) (read_is bytes v r choice rest read b))) b.in_range)

-- no line feed follows
pub no_feed : (bytes : List ℕ) (v : ℤ) (r : List ℕ) → integer_at bytes ≡ Some (v, r) → after (codes "\n") r ≡ None → (choice : ℕ) (rest : List ℕ) → BeginsWithChoice bytes choice rest → ⊥
no_feed bytes v r read none choice rest b =
    no_none (after (codes "\n") r) rest none (ap (after (codes "\n")) (ap (λ (x : ℤ × List ℕ). x.1) (read_is bytes v r choice rest read b)) ∙ after_again (codes "\n") rest)

-- ---- what is written

-- what stays through two steps
pub kept_through : (a b c : List ℕ) → take (length a) b ≡ a → take (length b) c ≡ b → take (length a) c ≡ a
kept_through a b c first second =
    let le : length a ≤ length b = omega (arith, ap length first, length-take (length a) b) in
    sym (take-take (length a) (length b) c le) ∙ ap (take (length a)) second ∙ first

-- one line more
pub lines_more : (old now choices : List ℕ) (i : ℕ) → i < length choices → now ≡ old ++ concat (front_lines (take i choices)) → now ++ choice_line (get_or choices i 0) ≡ old ++ concat (front_lines (take (i + 1) choices))
lines_more old now choices i within is =
    ap (λ (l : List ℕ). l ++ choice_line (get_or choices i 0)) is
    ∙ append_assoc old (concat (front_lines (take i choices))) (choice_line (get_or choices i 0))
    ∙ ap (λ (l : List ℕ). old ++ l) (one_more (take i choices) (get_or choices i 0) ∙ ap (λ (cs : List ℕ). concat (front_lines cs)) (sym (take_more choices i 0 within)))
  where
    one_more : (cs : List ℕ) (c : ℕ) → concat (front_lines cs) ++ choice_line c ≡ concat (front_lines (cs ++ c ∷ []))
    one_more cs c =
        ap (λ (l : List ℕ). concat (front_lines cs) ++ l) (sym (append-nil (choice_line c)))
        ∙ sym (concat-append (front_lines cs) (choice_line c ∷ []))
        ∙ ap (λ (ls : List (List ℕ)). concat (head ∷ ls)) (sym (choice_lines-push cs c))

-- the last line
pub lines_end : (old now choices : List ℕ) → now ≡ old ++ concat (front_lines choices) → now ++ tail ≡ old ++ schedule_text choices
lines_end old now choices is =
    ap (λ (l : List ℕ). l ++ tail) is ∙ append_assoc old (concat (front_lines choices)) tail
    ∙ ap (λ (l : List ℕ). old ++ l) (ap (λ (l : List ℕ). concat (front_lines choices) ++ l) (sym (append-nil tail)) ∙ sym (concat-append (front_lines choices) (tail ∷ [])))
