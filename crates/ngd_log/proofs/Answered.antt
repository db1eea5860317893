-- What a reader of a log meets, and what it answers.
use Rattle.std.proofs.Common.{◌≡◌, ℕ, ◌+◌, true, false, not, List, [], ◌∷◌, length, Result, Ok, Err, is_err, inl, inr, refl, sym, ap, subst, ◌∙◌, arith}
use Rattle.std.specs.Prelude.{OnOk, IfOk, IfErr}
use Rattle.std.specs.Str.{bytes_eq}
use Rattle.std.proofs.lemmas.Bool.{false≢true}
use Rattle.std.proofs.lemmas.Slice.Eq.{bytes_eq-Decides}
use Rattle.dcsp_defs.specs.declared.Step.{Step}
use Rattle.ngd_log.specs.declared.log.LogError.{LogError}
use Rattle.ngd_log.specs.declared.log.LogError.TheVariants.{Line, Memory}
use Rattle.ngd_log.specs.Lines.{lines, HasNoLineFeed}
use Rattle.ngd_log.specs.Logs.{IsLogOf, IsFirstBad, IsCause, IsUnlessMemory}
use Rattle.ngd_log.proofs.LineFeeds.{step_line-IsLine, lines_plain, line_has_feed, no_lines}
use Rattle.ngd_log.proofs.LogLines.{head, tail, head-IsLine, tail-IsLine, cons_head}
use Rattle.ngd_log.proofs.FirstBad.{bad_head, HasFront, bad_stop, bad_line, bad_rest}
use Rattle.ngd_log.proofs.LogLaws.{log_or_bad_line}

-- a text without a line feed has no first line
pub bad_head_plain : (text : List ℕ) → HasNoLineFeed text → IsFirstBad text 1
bad_head_plain [] plain = bad_head [] (λ others e. let f : [] ≡ head ∷ others = e in cc)
bad_head_plain (b ∷ text) plain = bad_head (b ∷ text) (λ others e.
    let f : head ≡ b ∷ text = cons_head _ _ _ _ (sym e ∙ lines_plain (b ∷ text) plain (omega arith)) in
    line_has_feed head head-IsLine (subst HasNoLineFeed (sym f) plain))

-- another first line
pub bad_head_other : (text line : List ℕ) (others : List (List ℕ)) → lines text ≡ line ∷ others → (line ≡ head → ⊥) → IsFirstBad text 1
bad_head_other text line others e n = bad_head text (λ rest f. n (cons_head _ _ _ _ (sym e ∙ f)))

-- a rest without a line feed
pub bad_open : (text : List ℕ) (steps : List Step) (rest : List ℕ) → HasFront text steps (lines rest) → HasNoLineFeed rest → IsFirstBad text (length steps + 2)
bad_open text steps [] f plain = bad_stop text steps f
bad_open text steps (b ∷ rest) f plain =
    let one : lines (b ∷ rest) ≡ (b ∷ rest) ∷ [] = lines_plain (b ∷ rest) plain (omega arith) in
    bad_line text steps (b ∷ rest) [] (subst (λ (ls : List (List ℕ)). HasFront text steps ls) one f)
    (λ s is. line_has_feed (b ∷ rest) (rw is.same (step_line-IsLine (length steps + 1) s is.numbered is.writable)) plain)
    (λ e. line_has_feed tail tail-IsLine (subst HasNoLineFeed e plain))

-- bytes after `end`
pub bad_more : (text : List ℕ) (steps : List Step) (rest others : List ℕ) → HasFront text steps (lines rest) → lines rest ≡ tail ∷ lines others → (others ≡ [] → ⊥) → IsFirstBad text (length steps + 3)
bad_more text steps rest others f e n =
    (elim (lines others) as (λ ls. lines others ≡ ls → IsFirstBad text (length steps + 3)) [
      | [] ↦ λ k. absurd (n (no_lines others k))
      | l ∷ ls ↦ λ k. bad_rest text steps l ls (subst (λ (x : List (List ℕ)). HasFront text steps x) (e ∙ ap (λ (x : List (List ℕ)). tail ∷ x) k) f)
    ]) refl

-- `==` and `!=` of two texts
pub same_text : (xs ys : List ℕ) → true ≡ bytes_eq xs ys → xs ≡ ys
same_text xs ys e = (bytes_eq-Decides xs ys).0 (sym e)

-- texts that `!=` tells apart
pub other_text : (xs ys : List ℕ) → true ≡ not (bytes_eq xs ys) → xs ≡ ys → ⊥
other_text xs ys e f = let g : bytes_eq xs ys ≡ true = (bytes_eq-Decides xs ys).1 f in false≢true (ap not (sym g) ∙ sym e)

-- texts that `==` tells apart
pub unequal_text : (xs ys : List ℕ) → false ≡ bytes_eq xs ys → xs ≡ ys → ⊥
unequal_text xs ys e f = false≢true (e ∙ (bytes_eq-Decides xs ys).1 f)

-- what holds where there is no error
pub ok_holds : {T E : Type 0} (r : Result T E) (P : Type 0) → is_err r ≡ false → OnOk r P → P
ok_holds (Ok x) P e h = h
ok_holds (Err y) P e h = absurd cc

-- ---- answers

-- a log is read, unless memory ran out
pub accepted : (text : List ℕ) (r : Result (List Step) LogError) → IfOk r (λ d. IsLogOf text d) → IfErr r (IsCause text) → (steps : List Step) → IsLogOf text steps → IsUnlessMemory (Ok steps) r
accepted text (Ok d) h k steps is = inl (ap Ok ((log_or_bad_line text).one_log d steps h is))
accepted text (Err (Line number)) h k steps is = absurd ((log_or_bad_line text).not_both steps number is k)
accepted text (Err Memory) h k steps is = inr refl

-- a first bad line is named, unless memory ran out
pub refused : (text : List ℕ) (r : Result (List Step) LogError) → IfOk r (λ d. IsLogOf text d) → IfErr r (IsCause text) → (number : ℕ) → IsFirstBad text number → IsUnlessMemory (Err (Line number)) r
refused text (Ok d) h k number bad = absurd ((log_or_bad_line text).not_both d number h bad)
refused text (Err (Line m)) h k number bad = inl (ap (λ (n : ℕ). Err (Line n)) ((log_or_bad_line text).one_line m number k bad))
refused text (Err Memory) h k number bad = inr refl

-- a line that is named is the first bad one
pub caused : (text : List ℕ) (r : Result (List Step) LogError) → IfErr r (IsCause text) → (number : ℕ) → r ≡ Err (Line number) → IsFirstBad text number
caused text (Ok d) k number e = absurd cc
caused text (Err (Line m)) k number e = let f : m ≡ number = cc in subst (IsFirstBad text) f k
caused text (Err Memory) k number e = absurd cc
