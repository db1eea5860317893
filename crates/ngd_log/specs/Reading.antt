-- Reading a line of a log from left to right, on lists. A field is a value and the bytes after it; what is no field gives none.
use Rattle.std.specs.Prelude.{◌≡◌, ℕ, zero, suc, ◌-◌, ◌^◌, Bool, true, false, ◌&&◌, List, [], ◌∷◌, length, Option, Some, None, Result, Ok, Err, ℤ, pos, neg_ℤ, nat_lt, nat_le, ◌==◌, if◌then◌else◌, codes}
use Rattle.std.specs.Str.{byte}
pub use Rattle.dcsp_common.specs.Reading.{number_at, digits_at}
use Rattle.dcsp_common.specs.Reading.{◌>>=◌}
use Rattle.dcsp_defs.specs.declared.nogood.Pair.{Pair}
use Rattle.dcsp_defs.specs.declared.Reason.{Reason}
use Rattle.dcsp_defs.specs.declared.Reason.TheVariants.{Rule, Earlier}
use Rattle.dcsp_defs.specs.declared.Step.{Step}
use Rattle.ngd_log.specs.declared.reader.LineError.{LineError}
use Rattle.ngd_log.specs.declared.reader.LineError.TheVariants.{Bad, Memory}

-- an error: reading gives none, unless memory ran out
abbrev pub Fails : {Y : Type 0} → LineError → Option Y → Type 0
Fails Memory read = Unit {0}
Fails Bad read = read ≡ None

-- what a function returned, seen by `view`, is what reading gives, unless memory ran out
abbrev pub Gives : {X Y : Type 0} → (X → Y) → Result X LineError → Option Y → Type 0
Gives view (Ok x) read = read ≡ Some (view x)
Gives view (Err e) read = Fails e read

-- what stands after this text
unfoldable pub after : List ℕ → List ℕ → Option (List ℕ)
after [] bytes = Some bytes
after (c ∷ text) [] = None
after (c ∷ text) (b ∷ bytes) = if b == c then after text bytes else None

-- the value of a number after `-`
unfoldable pub negative : ℕ × List ℕ → Option (ℤ × List ℕ)
negative n = if nat_lt 0 n.0 && nat_le n.0 (2 ^ 63) then Some (neg_ℤ (pos n.0), n.1) else None

-- the value of a number without sign
unfoldable pub plain : ℕ × List ℕ → Option (ℤ × List ℕ)
plain n = if nat_lt n.0 (2 ^ 63) then Some (pos n.0, n.1) else None

-- a signed number, where `unsigned` is what stands after its `-`, if there is one
abbrev pub signed_at : List ℕ → Option (List ℕ) → Option (ℤ × List ℕ)
signed_at bytes None = number_at bytes >>= plain
signed_at bytes (Some unsigned) = number_at unsigned >>= negative

-- a signed number of 64 bits, and no `-0`
unfoldable pub integer_at : List ℕ → Option (ℤ × List ℕ)
integer_at bytes = signed_at bytes (after (codes "-") bytes)

-- a number from 1 to `most`, as a number counted from 0
unfoldable pub counted_at : ℕ → List ℕ → Option (ℕ × List ℕ)
counted_at most bytes = do
  n ← number_at bytes
  if nat_lt 0 n.0 && nat_le n.0 most then Some (n.0 - 1, n.1) else None

-- the number of a step
unfoldable pub step_number_at : List ℕ → Option (ℕ × List ℕ)
step_number_at bytes = do
  n ← number_at bytes
  if nat_lt 0 n.0 && nat_le n.0 (2 ^ 62) then Some n else None

-- a pair, as `v2=-7`
unfoldable pub pair_at : List ℕ → Option (Pair × List ℕ)
pair_at bytes = do
  a ← after (codes "v") bytes
  x ← counted_at 4096 a
  b ← after (codes "=") x.1
  v ← integer_at b
  Some (record { var = x.0; value = v.0 }, v.1)

-- a reason, as `c2` or `n5`
unfoldable pub reason_at : List ℕ → Option (Reason × List ℕ)
reason_at [] = None
reason_at (b ∷ bytes) =
    if b == byte "c" then counted_at 262144 bytes >>= (λ n. Some (Rule n.0, n.1))
    else (if b == byte "n" then step_number_at bytes >>= (λ n. Some (Earlier n.0, n.1)) else None)

-- nothing more where the separator is not next, and else what is read behind it
abbrev pub if_next : {X : Type 0} → List ℕ → Option (List ℕ) → (List ℕ → Option (List X × List ℕ)) → Option (List X × List ℕ)
if_next bytes None more = Some ([], bytes)
if_next bytes (Some rest) more = more rest

-- items, each behind a separator, and no more than this many
unfoldable pub items_at : {X : Type 0} → List ℕ → (List ℕ → Option (X × List ℕ)) → ℕ → List ℕ → Option (List X × List ℕ)
items_at separator item zero bytes = Some ([], bytes)
items_at separator item (suc most) bytes = if_next bytes (after separator bytes) (λ rest.
    item rest >>= (λ x. items_at separator item most x.1 >>= (λ xs. Some (x.0 ∷ xs.0, xs.1))))

-- the reasons, each behind a space
abbrev pub reasons_at : List ℕ → Option (List Reason × List ℕ)
reasons_at bytes = items_at (codes " ") reason_at (length bytes) bytes

-- the pairs after this first one, each behind a comma
abbrev pub pairs_from : Pair → List ℕ → Option (List Pair × List ℕ)
pairs_from first bytes = do
  ys ← items_at (codes ",") pair_at (length bytes) bytes
  Some (first ∷ ys.0, ys.1)

-- whether each pair's variable is above the one before it
abbrev pub rises : List Pair → Bool
rises [] = true
rises (y ∷ []) = true
rises (y ∷ z ∷ ys) = nat_lt y.var z.var && rises (z ∷ ys)

-- the pairs as a nogood
abbrev pub nogood_of : List Pair → Option (List Pair)
nogood_of pairs = if rises pairs then Some pairs else None

-- the pairs after this first one, each behind a comma, where all of them rise
abbrev pub nogood_from : Pair → List ℕ → Option (List Pair × List ℕ)
nogood_from first bytes = do
  ys ← pairs_from first bytes
  nogood ← nogood_of ys.0
  Some (nogood, ys.1)

-- the pairs up to `]`, where `rest` is what stands after it if it is next
unfoldable pub nogood_before : List ℕ → Option (List ℕ) → Option (List Pair × List ℕ)
nogood_before bytes (Some rest) = Some ([], rest)
nogood_before bytes None = do
  y ← pair_at bytes
  ys ← nogood_from y.0 y.1
  rest ← after (codes "]") ys.1
  Some (ys.0, rest)

-- the pairs of a nogood in brackets
unfoldable pub nogood_at : List ℕ → Option (List Pair × List ℕ)
nogood_at bytes = do
  a ← after (codes "[") bytes
  nogood_before a (after (codes "]") a)

-- what was read, where nothing stands after it
abbrev pub alone : {X : Type 0} → X × List ℕ → Option X
alone (x, []) = Some x
alone (x, b ∷ bytes) = None

-- the rest of a line with a variable, after the step's number, and what stands after its line feed
unfoldable pub variable_front : List ℕ → Option (Step × List ℕ)
variable_front bytes = do
  a ← after (codes "v") bytes
  x ← counted_at 4096 a
  b ← after (codes " ") x.1
  ys ← nogood_at b
  c ← after (codes " <-") ys.1
  rs ← reasons_at c
  rest ← after (codes "\n") rs.1
  Some (record { variable = Some x.0; nogood = ys.0; reasons = rs.0 }, rest)

-- the rest of a line without a variable, after `- [] <- c`, and what stands after its line feed
unfoldable pub rule_front : List ℕ → Option (Step × List ℕ)
rule_front bytes = do
  n ← counted_at 262144 bytes
  rest ← after (codes "\n") n.1
  Some (record { variable = None; nogood = []; reasons = Rule n.0 ∷ [] }, rest)

-- the rest of a line after the step's number, where `rest` is what stands after `- [] <- c` if that is next
abbrev pub form_front : List ℕ → Option (List ℕ) → Option (Step × List ℕ)
form_front bytes None = variable_front bytes
form_front bytes (Some rest) = rule_front rest

-- the step whose line is in front, which has this number, and what stands after the line
unfoldable pub step_front : ℕ → List ℕ → Option (Step × List ℕ)
step_front number bytes = do
  n ← step_number_at bytes
  a ← after (codes " ") n.1
  if n.0 == number then form_front a (after (codes "- [] <- c") a) else None

-- the step of a whole line, which has this number
unfoldable pub step_of : ℕ → List ℕ → Option Step
step_of number line = step_front number line >>= alone
