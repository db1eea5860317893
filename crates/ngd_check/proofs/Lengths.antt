-- How long the lines of a log are.
use Rattle.std.proofs.Common.{◌≡◌, ℕ, suc, ◌+◌, ◌*◌, ◌^◌, ◌<◌, ◌≤◌, ℤ, pos, negsuc, List, [], ◌∷◌, ◌++◌, length, flat_map, codes, Option, Some, None, arith, length-append}
use Rattle.std.specs.Prelude.{decimal, FitsSigned, IfSome}
use Rattle.std.specs.Int.{w64}
use Rattle.std.specs.Fmt.{signed_decimal}
use Rattle.std.specs.List.{AllByRecursion, concat}
use Rattle.std.proofs.lemmas.Fmt.{length-decimal-le}
use Rattle.dcsp_defs.specs.declared.nogood.Pair.{Pair}
use Rattle.dcsp_defs.specs.Pairs.{IsRising}
use Rattle.dcsp_defs.specs.declared.Reason.{Reason}
use Rattle.dcsp_defs.specs.declared.Reason.TheVariants.{Rule, Earlier}
use Rattle.dcsp_defs.specs.declared.Step.{Step}
use Rattle.ngd_log.specs.StepText.{pair_text, pairs_text, reason_text, reasons_text, variable_text, step_line, IsVariable, IsReasonInRange, IsWritable}
use Rattle.ngd_log.specs.Logs.{step_lines, open_log, log_text}

-- a number of 64 bits has at most 20 digits
number_length : (n : ℕ) → n < 2 ^ 64 → length (decimal n) ≤ 20
number_length n fits = length-decimal-le 20 n (omega arith) (omega arith) fits

signed_length : (z : ℤ) → FitsSigned w64 z → length (signed_decimal z) ≤ 21
signed_length (pos n) fits = let l = number_length n (omega arith) in omega arith
signed_length (negsuc n) fits = let l = number_length (suc n) (omega arith) in omega arith

-- what each item adds, at most so much
pub flat_length : {X : Type 0} (P : X → Type 0) (f : X → List ℕ) (most : ℕ) → ((x : X) → P x → length (f x) ≤ most) → (xs : List X) → AllByRecursion P xs → length (flat_map f xs) ≤ most * length xs
flat_length P f most each [] all = omega arith
flat_length P f most each (x ∷ xs) all =
    let one = each x all.0 in
    let more = flat_length P f most each xs all.1 in
    omega (arith, length-append (f x) (flat_map f xs))

-- what holds of a pair of a step with a line
abbrev pub IsPlainPair : Pair → Type 0
IsPlainPair y = IsVariable y.var × FitsSigned w64 y.value

pair_length : (y : Pair) → IsPlainPair y → length (pair_text y) ≤ 43
pair_length y h =
    let name = number_length (y.var + 1) (let v = h.0 in omega arith) in
    let value = signed_length y.value h.1 in
    omega (arith, length-append (codes "v") (decimal (y.var + 1)), length-append (codes "v" ++ decimal (y.var + 1)) (codes "="), length-append (codes "v" ++ decimal (y.var + 1) ++ codes "=") (signed_decimal y.value))

pairs_length : (ys : List Pair) → AllByRecursion IsPlainPair ys → length (pairs_text ys) ≤ 44 * length ys + 2
pairs_length [] all = omega arith
pairs_length (y ∷ ys) all =
    let one = pair_length y all.0 in
    let comma : (z : Pair) → IsPlainPair z → length (codes "," ++ pair_text z) ≤ 44 = λ z h. let l = pair_length z h in omega (arith, length-append (codes ",") (pair_text z)) in
    let more = flat_length IsPlainPair (λ (z : Pair). codes "," ++ pair_text z) 44 comma ys all.1 in
    omega (
      arith,
      length-append (codes "[") (pair_text y),
      length-append (codes "[" ++ pair_text y) (flat_map (λ (z : Pair). codes "," ++ pair_text z) ys),
      length-append (codes "[" ++ pair_text y ++ flat_map (λ (z : Pair). codes "," ++ pair_text z) ys) (codes "]"),
    )

reason_length : (r : Reason) → IsReasonInRange r → length (codes " " ++ reason_text r) ≤ 22
reason_length (Rule r) h = let n = number_length (r + 1) (omega arith) in omega (arith, length-append (codes "c") (decimal (r + 1)), length-append (codes " ") (codes "c" ++ decimal (r + 1)))
reason_length (Earlier k) h =
    let n = number_length k (let b = h.bounded in omega arith) in omega (arith, length-append (codes "n") (decimal k), length-append (codes " ") (codes "n" ++ decimal k))

reasons_length : (rs : List Reason) → AllByRecursion IsReasonInRange rs → length (reasons_text rs) ≤ 22 * length rs
reasons_length rs all = flat_length IsReasonInRange (λ (r : Reason). codes " " ++ reason_text r) 22 reason_length rs all

variable_length : (o : Option ℕ) → IfSome o IsVariable → length (variable_text o) ≤ 21
variable_length None h = omega arith
variable_length (Some x) h = let n = number_length (x + 1) (omega arith) in omega (arith, length-append (codes "v") (decimal (x + 1)))

-- rising variables from a least one on
room : (least : ℕ) (y : Pair) (ys : List Pair) → least ≤ y.var → IsRising (y ∷ ys) → AllByRecursion (λ (z : Pair). IsVariable z.var) (y ∷ ys) → least + length (y ∷ ys) ≤ 4096
room least y [] low rises all = let v = all.0 in omega arith
room least y (z ∷ ys) low rises all =
    let step : y.var < z.var = rises 0 (omega arith) in
    let others : IsRising (z ∷ ys) = λ k lt. let e : suc k + 1 ≡ suc (k + 1) = omega arith in rw e at (rises (suc k) (omega arith)) in
    let more = room (suc least) z ys (omega arith) others all.1 in
    omega arith

-- a nogood names each variable once
few_pairs : (ys : List Pair) → IsRising ys → AllByRecursion (λ (z : Pair). IsVariable z.var) ys → length ys ≤ 4096
few_pairs [] rises all = omega arith
few_pairs (y ∷ ys) rises all = let r = room 0 y ys (omega arith) rises all in omega arith

both : {X : Type 0} (P Q : X → Type 0) (xs : List X) → AllByRecursion P xs → AllByRecursion Q xs → AllByRecursion (λ x. P x × Q x) xs
both P Q [] p q = tt
both P Q (x ∷ xs) p q = ((p.0, q.0), both P Q xs p.1 q.1)

-- a line has at most 2^21 bytes where there are few reasons
pub line_length : (number : ℕ) (step : Step) → number < 2 ^ 64 → IsWritable step → length step.reasons ≤ 65536 → length (step_line number step) ≤ 2 ^ 21
line_length number step fits w few =
    let range = w.in_range in
    let a = number_length number fits in
    let b = variable_length step.variable range.variable in
    let c = pairs_length step.nogood (both (λ (y : Pair). IsVariable y.var) (λ (y : Pair). FitsSigned w64 y.value) step.nogood range.pairs w.values) in
    let d = reasons_length step.reasons range.reasons in
    let e = few_pairs step.nogood w.rising range.pairs in
    let one = decimal number ++ codes " " in
    let two = one ++ variable_text step.variable in
    let three = two ++ codes " " in
    let four = three ++ pairs_text step.nogood in
    let five = four ++ codes " <-" in
    let six = five ++ reasons_text step.reasons in
    omega (
      arith,
      length-append (decimal number) (codes " "),
      length-append one (variable_text step.variable),
      length-append two (codes " "),
      length-append three (pairs_text step.nogood),
      length-append four (codes " <-"),
      length-append five (reasons_text step.reasons),
      length-append six (codes "\n"),
    )

-- the lines of steps with few reasons
lines_length : (number : ℕ) (steps : List Step) → number + length steps < 2 ^ 64 → AllByRecursion (λ s. IsWritable s × (length s.reasons ≤ 65536)) steps → length (concat (step_lines number steps)) ≤ 2 ^ 21 * length steps
lines_length number [] fits all = omega arith
lines_length number (s ∷ steps) fits all =
    let one = line_length number s (omega arith) all.0.0 all.0.1 in
    let more = lines_length (number + 1) steps (omega arith) all.1 in
    omega (arith, length-append (step_line number s) (concat (step_lines (number + 1) steps)))

-- a log of few steps is short
pub short_log : (steps : List Step) → length steps ≤ 2 ^ 40 + 2 ^ 32 → AllByRecursion (λ s. IsWritable s × (length s.reasons ≤ 65536)) steps → length (log_text steps) ≤ 2 ^ 62
short_log steps few all =
    let lines = lines_length 1 steps (omega arith) all in
    omega (arith, length-append (codes "ngd 1\n") (concat (step_lines 1 steps)), length-append (open_log steps) (codes "end\n"))
