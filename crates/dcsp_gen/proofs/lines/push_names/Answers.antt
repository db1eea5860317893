use Rattle.std.proofs.Common.{◌≡◌, ℕ, ◌++◌, ◌+◌, ◌-◌, ◌∷◌, [], List, string_bytes, arith, suc}
use Rattle.dcsp_gen.proofs.Ranges.{appended, joined_more}
use Rattle.dcsp_gen.specs.Lines.{name, names}
use Rattle.dcsp_gen.proofs.lines.push_names.Goals as goal

-- the names of one variable more
names_more : (letter : List ℕ) (n k : ℕ) → n ≡ suc k + 1 → names letter n ≡ names letter (n - 1) ++ 44 ∷ name letter n
names_more letter n k e =
    let before : n - 1 ≡ suc k = omega (arith, e) in
    rw (before, e) (joined_more 44 (name letter) 1 k (suc k + 1) (omega arith))

pub loop-number-preserved : goal.loop-number-preserved
loop-number-preserved c =
    let n = c.loop-number.number in
    let letter = c.args.letter.now in
    let before = string_bytes c.args.text.now in
    let two : n ≡ suc (n - 2) + 1 = omega (arith, c.loop-number.auto.number) in
    let same : n + 1 - 1 ≡ n = omega arith in
    let now = appended _ _ _ (44 ∷ []) (name letter n) c.in_ok-push_str.ensures.bytes c.in_ok-push_name-2.ensures in
    rw (same, names_more letter n (n - 2) two) (appended before _ _ (names letter (n - 1)) (44 ∷ name letter n) c.loop-number.invariant now)
