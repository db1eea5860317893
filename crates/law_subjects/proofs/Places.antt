-- Bytes at their places in a text that is put together of parts.
use Rattle.std.proofs.Common.{◌≡◌, ℕ, ◌+◌, ◌<◌, ◌≤◌, Bool, true, false, List, [], ◌∷◌, ◌++◌, length, slice_index, slice_range, sym, refl, ap, ◌∙◌, subst, append_assoc, length-append, arith}
use Rattle.std.specs.Prelude.{not, nat_lt}
use Rattle.std.specs.List.{list_all}
use Rattle.std.proofs.Math.Seq.{get_or-append_seam}
use Rattle.std.proofs.lemmas.Bool.Decides.{nat_tests}
use Rattle.fzn_token.specs.Bytes.{IsHere, IsWholeRun}
use Rattle.fzn_token.proofs.Literals.{here_run, here_range}
use Rattle.fzn_scope.specs.Names.{bytes_at}

-- what follows does not begin with a byte that passes
abbrev pub stops : (ℕ → Bool) → List ℕ → Bool
stops p [] = true
stops p (c ∷ cs) = not (p c)

-- a test that does not fail passes
pub not_true : (b : Bool) → not b ≡ true → b ≡ false
not_true true e = sym e
not_true false e = refl

-- the length of a text that is put together
pub long : (text before bs after : List ℕ) → text ≡ before ++ (bs ++ after) → length text ≡ length before + (length bs + length after)
long text before bs after e = ap (λ (t : List ℕ). length t) e ∙ length-append before (bs ++ after) ∙ ap (λ n. length before + n) (length-append bs after)

-- the bytes stand where they were put
pub placed : (text before bs after : List ℕ) → text ≡ before ++ (bs ++ after) → IsHere bs text (length before) (length before + length bs)
placed text before [] after e = omega arith
placed text before (b ∷ bs) after e =
    let size : length text ≡ length before + length (b ∷ (bs ++ after)) = ap (λ (t : List ℕ). length t) e ∙ length-append before (b ∷ (bs ++ after)) in
    let seam : slice_index (before ++ b ∷ (bs ++ after)) (length before) ≡ b = get_or-append_seam before b (bs ++ after) 0 in
    let more : length (before ++ b ∷ []) ≡ length before + 1 = length-append before (b ∷ []) in
    let rest = placed text (before ++ b ∷ []) bs after (e ∙ sym (append_assoc before (b ∷ []) (bs ++ after))) in
    let end : length (before ++ b ∷ []) + length bs ≡ length before + length (b ∷ bs) = omega (arith, more) in (
      omega (arith, size),
      ap (λ (t : List ℕ). slice_index t (length before)) e ∙ seam,
      subst (λ (j : ℕ). IsHere bs text (length before + 1) j) end (subst (λ (i : ℕ). IsHere bs text i (length (before ++ b ∷ []) + length bs)) more rest),
    )

-- the byte behind them
pub next_is : (text before bs : List ℕ) (c : ℕ) (cs : List ℕ) → text ≡ before ++ (bs ++ c ∷ cs) → slice_index text (length before + length bs) ≡ c
next_is text before bs c cs e =
    let parts : text ≡ (before ++ bs) ++ c ∷ cs = e ∙ sym (append_assoc before bs (c ∷ cs)) in
    let place : length (before ++ bs) ≡ length before + length bs = length-append before bs in
    let here : slice_index text (length (before ++ bs)) ≡ c = ap (λ (t : List ℕ). slice_index t (length (before ++ bs))) parts ∙ get_or-append_seam (before ++ bs) c cs 0 in
    ap (slice_index text) (sym place) ∙ here

-- the byte behind them does not pass, where there is one
pub next_stops : (p : ℕ → Bool) (text before bs after : List ℕ) → text ≡ before ++ (bs ++ after) → stops p after ≡ true → length before + length bs < length text → p (slice_index text (length before + length bs)) ≡ false
next_stops p text before bs [] e stop l = let size = long text before bs [] e in absurd (omega (arith, size, l))
next_stops p text before bs (c ∷ cs) e stop l = ap p (next_is text before bs c cs e) ∙ not_true (p c) stop

-- a run of bytes that pass is whole where what follows stops it
pub whole_run : (p : ℕ → Bool) (text before bs after : List ℕ) → text ≡ before ++ (bs ++ after) → list_all p bs ≡ true → stops p after ≡ true → IsWholeRun p text (length before) (length before + length bs)
whole_run p text before bs after e all stop =
    let size = long text before bs after e in
    record {
      run = here_run p bs text (length before) (length before + length bs) (omega (arith, size)) all (placed text before bs after e);
      stops = next_stops p text before bs after e stop;
    }

-- they read so
pub reads : (text before bs after : List ℕ) → text ≡ before ++ (bs ++ after) → slice_range text (length before) (length before + length bs) ≡ bs
reads text before bs after e = let size = long text before bs after e in here_range bs text (length before) (length before + length bs) (omega (arith, size)) (placed text before bs after e)

-- the part of a text between two places that are in order and within it
in_order : (text : List ℕ) (from to : ℕ) → from ≤ to → to ≤ length text → bytes_at text from to ≡ slice_range text from to
in_order text from to ordered within =
    let first : nat_lt to from ≡ false = grind (arith, nat_tests) in
    let last : nat_lt (length text) to ≡ false = grind (arith, nat_tests) in
    rw (first, last) refl

-- so a name that was put there is found by its places
pub found : (text before bs after : List ℕ) → text ≡ before ++ (bs ++ after) → bytes_at text (length before) (length before + length bs) ≡ bs
found text before bs after e =
    let size = long text before bs after e in
    in_order text (length before) (length before + length bs) (omega arith) (omega (arith, size)) ∙ reads text before bs after e
