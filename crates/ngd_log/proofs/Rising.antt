-- The test of a rising list of pairs.
use Rattle.std.proofs.Common.{◌≡◌, ℕ, zero, suc, ◌+◌, ◌<◌, Bool, true, false, ◌&&◌, nat_lt, List, [], ◌∷◌, ◌++◌, Some, None, cond, refl, sym, ap, ◌∙◌, arith, ◌≤◌, length}
use Rattle.std.proofs.lemmas.Bool.{ltb-true, lt-ltb}
use Rattle.dcsp_defs.proofs.Lists.{and_left, and_right, and_both}
use Rattle.dcsp_defs.specs.declared.nogood.Pair.{Pair}
use Rattle.dcsp_defs.specs.Pairs.{IsRising}
use Rattle.std.specs.Prelude.{Option}
use Rattle.dcsp_common.specs.Reading.{◌>>=◌}
use Rattle.ngd_log.specs.Reading.{rises, nogood_of}
use Rattle.ngd_log.proofs.Items.{with_front}
use Rattle.ngd_log.specs.EntryReading.{rises_after}

and-true : (b : Bool) → (b && true) ≡ b
and-true true = refl
and-true false = refl

and-assoc : (a b c : Bool) → ((a && b) && c) ≡ (a && (b && c))
and-assoc true b c = refl
and-assoc false b c = refl

-- where not both hold, they do not where the second does less often
not_both : (a b c : Bool) → (b ≡ false → c ≡ false) → (a && b) ≡ false → (a && c) ≡ false
not_both true b c h e = h e
not_both false b c h e = refl

-- pairs that pass the test rise
pub rises-IsRising : (ys : List Pair) → rises ys ≡ true → IsRising ys
rises-IsRising [] h k lt = absurd (omega arith)
rises-IsRising (y ∷ []) h k lt = absurd (omega arith)
rises-IsRising (y ∷ z ∷ ys) h zero lt = ltb-true _ _ (and_left _ _ h)
rises-IsRising (y ∷ z ∷ ys) h (suc k) lt =
    let e : suc k + 1 ≡ suc (k + 1) = omega arith in
    rw e (rises-IsRising (z ∷ ys) (and_right _ _ h) k (omega arith))

-- pairs that rise pass the test
pub IsRising-rises : (ys : List Pair) → IsRising ys → rises ys ≡ true
IsRising-rises [] h = refl
IsRising-rises (y ∷ []) h = refl
IsRising-rises (y ∷ z ∷ ys) h =
    let first : y.var < z.var = h 0 (omega arith) in
    let others : IsRising (z ∷ ys) = λ k lt. let e : suc k + 1 ≡ suc (k + 1) = omega arith in rw e at (h (suc k) (omega arith)) in
    and_both _ _ (lt-ltb _ _ first) (IsRising-rises (z ∷ ys) others)

-- pairs that rise are a nogood
pub nogood_of-rising : (ys : List Pair) → IsRising ys → nogood_of ys ≡ Some ys
nogood_of-rising ys h = rw (IsRising-rises ys h) refl

-- the variable of the last pair, where `last` is that of one before them
abbrev pub last_var : ℕ → List Pair → ℕ
last_var last [] = last
last_var last (y ∷ ys) = last_var y.var ys

-- with one pair more
pub last_var-more : (last : ℕ) (ys : List Pair) (z : Pair) → last_var last (ys ++ z ∷ []) ≡ z.var
last_var-more last [] z = refl
last_var-more last (y ∷ ys) z = last_var-more y.var ys z

rises-behind : (y : Pair) (ys : List Pair) (z : Pair) → rises (y ∷ ys ++ z ∷ []) ≡ (rises (y ∷ ys) && nat_lt (last_var y.var ys) z.var)
rises-behind y [] z = and-true (nat_lt y.var z.var)
rises-behind y (x ∷ ys) z = ap (λ b. nat_lt y.var x.var && b) (rises-behind x ys z) ∙ sym (and-assoc (nat_lt y.var x.var) (rises (x ∷ ys)) (nat_lt (last_var x.var ys) z.var))

pub rises-more : (last : ℕ) (ys : List Pair) (z : Pair) → 1 ≤ length ys → rises (ys ++ z ∷ []) ≡ (rises ys && nat_lt (last_var last ys) z.var)
rises-more last [] z some = absurd (omega arith)
rises-more last (y ∷ ys) z some = rises-behind y ys z

-- pairs that do not rise do not with more behind them
pub rises-front : (xs ys : List Pair) → rises xs ≡ false → rises (xs ++ ys) ≡ false
rises-front [] ys h = absurd cc
rises-front (x ∷ []) ys h = absurd cc
rises-front (x ∷ z ∷ xs) ys h = not_both (nat_lt x.var z.var) (rises (z ∷ xs)) (rises (z ∷ xs ++ ys)) (rises-front (z ∷ xs) ys) h

-- they make no nogood, whatever is read behind them
pub no_nogood : (front : List Pair) (read total : Option (List Pair × List ℕ)) → rises front ≡ false → with_front front read ≡ total → (◌>>=◌ {B = List Pair × List ℕ} total (λ ys. ◌>>=◌ {B = List Pair × List ℕ} (nogood_of ys.0) (λ nogood. Some (nogood, ys.1)))) ≡ None
no_nogood front None total h e = rw (sym e) refl
no_nogood front (Some xs) total h e = rw (sym e, rises-front front xs.0 h) refl

-- pairs that rise make one
pub some_nogood : (ys : List Pair) (rest : List ℕ) (total : Option (List Pair × List ℕ)) → rises ys ≡ true → total ≡ Some (ys, rest) → (◌>>=◌ {B = List Pair × List ℕ} total (λ zs. ◌>>=◌ {B = List Pair × List ℕ} (nogood_of zs.0) (λ nogood. Some (nogood, zs.1)))) ≡ Some (ys, rest)
some_nogood ys rest total h e = rw (e, h) refl

-- the last of numbers, where `last` is the one before them
abbrev pub last_number : ℕ → List ℕ → ℕ
last_number last [] = last
last_number last (k ∷ numbers) = last_number k numbers

pub last_number-more : (last : ℕ) (numbers : List ℕ) (k : ℕ) → last_number last (numbers ++ k ∷ []) ≡ k
last_number-more last [] k = refl
last_number-more last (j ∷ numbers) k = last_number-more j numbers k

pub rises_after-more : (last : ℕ) (numbers : List ℕ) (k : ℕ) → rises_after last (numbers ++ k ∷ []) ≡ (rises_after last numbers && nat_lt (last_number last numbers) k)
rises_after-more last [] k = and-true (nat_lt last k)
rises_after-more last (j ∷ numbers) k = ap (λ b. nat_lt last j && b) (rises_after-more j numbers k) ∙ sym (and-assoc (nat_lt last j) (rises_after j numbers) (nat_lt (last_number j numbers) k))

-- numbers that do not rise do not with more behind them
pub rises_after-front : (last : ℕ) (xs ys : List ℕ) → rises_after last xs ≡ false → rises_after last (xs ++ ys) ≡ false
rises_after-front last [] ys h = absurd cc
rises_after-front last (k ∷ xs) ys h = not_both (nat_lt last k) (rises_after k xs) (rises_after k (xs ++ ys)) (rises_after-front k xs ys) h

-- they are refused, whatever is read behind them
pub no_rising : (front : List ℕ) (read total : Option (List ℕ × List ℕ)) → rises_after 0 front ≡ false → with_front front read ≡ total → (total >>= λ ns. cond (rises_after 0 ns.0) (Some ns) None) ≡ None
no_rising front None total h e = rw (sym e) refl
no_rising front (Some xs) total h e = rw (sym e, rises_after-front 0 front xs.0 h) refl

-- numbers that rise are what is read
pub some_rising : (ns rest : List ℕ) (total : Option (List ℕ × List ℕ)) → rises_after 0 ns ≡ true → total ≡ Some (ns, rest) → (total >>= λ xs. cond (rises_after 0 xs.0) (Some xs) None) ≡ Some (ns, rest)
some_rising ns rest total h e = rw (e, h) refl

-- what is a nogood rises
pub nogood_of-rises : (ys nogood : List Pair) → nogood_of ys ≡ Some nogood → (ys ≡ nogood) × IsRising ys
nogood_of-rises ys nogood h =
    (elim (rises ys) as (λ b. rises ys ≡ b → cond b (Some ys) None ≡ Some nogood → (ys ≡ nogood) × IsRising ys) [
      | true ↦ λ e k. (cc, rises-IsRising ys e)
      | false ↦ λ e k. absurd cc
    ]) refl h
