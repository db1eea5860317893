-- The text of a solution tells the values that it prints.
use Rattle.std.proofs.Common.{◌≡◌, ◌∙◌, ℕ, suc, ◌<◌, ◌^◌, ℤ, pos, negsuc, Bool, true, false, List, [], ◌∷◌, ◌++◌, flat_map, length, Option, Some, codes, decimal, FitsSigned, refl, sym, ap, arith, append_assoc, if◌then◌else◌}
use Rattle.std.specs.Int.{w64}
use Rattle.std.specs.List.{AllByRecursion}
use Rattle.std.specs.Fmt.{signed_decimal}
use Rattle.std.proofs.lemmas.Bool.{false≢true}
use Rattle.std.proofs.lemmas.List.{append_cancel_left}
use Rattle.dcsp_common.specs.Reading.{begins_with_digit, number_at}
use Rattle.dcsp_common.proofs.Chosen.{some_is}
use Rattle.dcsp_common.proofs.Decimals.{BeginsWithDigit, number_again, begins_decimal}
use Rattle.dcsp_meaning.specs.Words.{is_one}
use Rattle.dcsp_rule.specs.declared.rule.Term.{Term}
use Rattle.dcsp_rule.specs.declared.output.Output.{Output}
use Rattle.dcsp_rule.specs.declared.output.Shape.{Shape}
use Rattle.dcsp_rule.specs.declared.output.Shape.TheVariants.{One, Ranges}
use Rattle.dcsp_rule.specs.Rules.{value_under}
use Rattle.dcsp_rule.specs.Problems.{Contents}
use Rattle.line_replay.specs.Solutions.{value_text, listed, values_text, range_text, laid_out, output_line}
use Rattle.line_replay.specs.Printed.{AreAlike, FitsOutput, IsSameOutput, TextTellsValues}

-- ---- numbers

the_number : (m n : ℕ) (x y : List ℕ) → ◌≡◌ {A = Option (ℕ × List ℕ)} (Some (m, x)) (Some (n, y)) → (m ≡ n) × (x ≡ y)
the_number m n x y e =
    let same = some_is (m, x) (n, y) e in
    (ap (λ (p : ℕ × List ℕ). p.0) same, ap (λ (p : ℕ × List ℕ). p.1) same)

-- digits begin with no sign
no_minus : (text rest : List ℕ) → BeginsWithDigit text → text ≡ 45 ∷ rest → ⊥
no_minus text rest b e = false≢true (ap begins_with_digit (sym e) ∙ ap begins_with_digit b.parts ∙ b.digit)

-- what begins with a number's digits, where none follows
digits_once : (m n : ℕ) (x y : List ℕ) → m < 2 ^ 64 → n < 2 ^ 64 → begins_with_digit x ≡ false → begins_with_digit y ≡ false → decimal m ++ x ≡ decimal n ++ y → (m ≡ n) × (x ≡ y)
digits_once m n x y small also stop ends e = the_number m n x y (sym (number_again m x small stop) ∙ ap number_at e ∙ number_again n y also ends)

-- and with a sign
signed_once : (v w : ℤ) (x y : List ℕ) → FitsSigned w64 v → FitsSigned w64 w → begins_with_digit x ≡ false → begins_with_digit y ≡ false → signed_decimal v ++ x ≡ signed_decimal w ++ y → (v ≡ w) × (x ≡ y)
signed_once (pos m) (pos n) x y fits also stop ends e =
    let a = fits.sfits in
    let b = also.sfits in
    let h = digits_once m n x y (omega arith) (omega arith) stop ends e in
    (ap pos h.0, h.1)
signed_once (pos m) (negsuc n) x y fits also stop ends e = let a = fits.sfits in absurd (no_minus (decimal m ++ x) (decimal (suc n) ++ y) (begins_decimal m x (omega arith)) e)
signed_once (negsuc m) (pos n) x y fits also stop ends e = let b = also.sfits in absurd (no_minus (decimal n ++ y) (decimal (suc m) ++ x) (begins_decimal n y (omega arith)) (sym e))
signed_once (negsuc m) (negsuc n) x y fits also stop ends e =
    let a = fits.sfits in
    let b = also.sfits in
    let h = digits_once (suc m) (suc n) x y (omega arith) (omega arith) stop ends (append_cancel_left (45 ∷ []) (decimal (suc m) ++ x) (decimal (suc n) ++ y) e) in
    (less h.0, h.1)
  where
    less : suc m ≡ suc n → negsuc m ≡ negsuc n
    less f = let g : m ≡ n = omega arith in ap negsuc g

-- ---- values

first_byte : {a b : ℕ} {xs ys : List ℕ} → a ∷ xs ≡ b ∷ ys → a ≡ b
first_byte e = cc

-- `true` and `false` begin otherwise
apart : {xs ys : List ℕ} → 116 ∷ xs ≡ 102 ∷ ys → ⊥
apart e = absurd (let f = first_byte e in omega arith)

-- the text of a truth
abbrev truth_text : Bool → List ℕ
truth_text true = codes "true"
truth_text false = codes "false"

truth_once : (b c : Bool) (x y : List ℕ) → truth_text b ++ x ≡ truth_text c ++ y → (b ≡ c) × (x ≡ y)
truth_once true true x y e = (refl, append_cancel_left (codes "true") x y e)
truth_once true false x y e = absurd (apart e)
truth_once false true x y e = absurd (apart (sym e))
truth_once false false x y e = (refl, append_cancel_left (codes "false") x y e)

truth_is : (v : ℤ) → value_text true v ≡ truth_text (is_one v)
truth_is v = of (is_one v)
  where
    of : (b : Bool) → (if b then codes "true" else codes "false") ≡ truth_text b
    of true = refl
    of false = refl

-- what begins with a value's text, where no digit follows
value_once : (boolean : Bool) (v w : ℤ) (x y : List ℕ) → FitsSigned w64 v → FitsSigned w64 w → begins_with_digit x ≡ false → begins_with_digit y ≡ false
    → value_text boolean v ++ x ≡ value_text boolean w ++ y → AreAlike boolean v w × (x ≡ y)
value_once true v w x y fits also stop ends e = truth_once (is_one v) (is_one w) x y (ap (λ t. t ++ x) (sym (truth_is v)) ∙ e ∙ ap (λ t. t ++ y) (truth_is w))
value_once false v w x y fits also stop ends e = signed_once v w x y fits also stop ends e

value_same : (boolean : Bool) (v w : ℤ) → AreAlike boolean v w → value_text boolean v ≡ value_text boolean w
value_same true v w e = truth_is v ∙ ap truth_text e ∙ sym (truth_is w)
value_same false v w e = ap signed_decimal e

-- ---- the elements of an output

module _ (boolean : Bool) (values others : ℕ → ℤ) where
  abbrev text : (ℕ → ℤ) → Term → List ℕ
  text at term = value_text boolean (value_under at term)

  abbrev later : (ℕ → ℤ) → Term → List ℕ
  later at term = codes ", " ++ text at term

  abbrev Fit : (ℕ → ℤ) → List Term → Type 0
  Fit at terms = AllByRecursion (λ term. FitsSigned w64 (value_under at term)) terms

  abbrev Same : List Term → Type 0
  Same terms = AllByRecursion (λ term. AreAlike boolean (value_under values term) (value_under others term)) terms

  -- behind an element stands no digit
  no_digit : (at : ℕ → ℤ) (terms : List Term) (x : List ℕ) → begins_with_digit x ≡ false → begins_with_digit (flat_map (later at) terms ++ x) ≡ false
  no_digit at [] x stop = stop
  no_digit at (t ∷ ts) x stop = refl

  joined : (at : ℕ → ℤ) (t : Term) (ts : List Term) (x : List ℕ) → (text at t ++ flat_map (later at) ts) ++ x ≡ text at t ++ (flat_map (later at) ts ++ x)
  joined at t ts x = append_assoc (text at t) (flat_map (later at) ts) x

  -- an element and those behind it
  elements_once : (t : Term) (ts : List Term) (x y : List ℕ) → Fit values (t ∷ ts) → Fit others (t ∷ ts) → begins_with_digit x ≡ false → begins_with_digit y ≡ false
      → text values t ++ (flat_map (later values) ts ++ x) ≡ text others t ++ (flat_map (later others) ts ++ y) → Same (t ∷ ts) × (x ≡ y)
  elements_once t [] x y fits also stop ends e =
      let h = value_once boolean (value_under values t) (value_under others t) x y fits.0 also.0 stop ends e in
      ((h.0, tt), h.1)
  elements_once t (u ∷ ts) x y fits also stop ends e =
      let h = value_once boolean (value_under values t) (value_under others t) (flat_map (later values) (u ∷ ts) ++ x) (flat_map (later others) (u ∷ ts) ++ y) fits.0 also.0 refl refl e in
      let more = elements_once u ts x y fits.1 also.1 stop ends (sym (joined values u ts x) ∙ append_cancel_left (codes ", ") _ _ h.1 ∙ joined others u ts y) in
      ((h.0, more.0), more.1)

  list_once : (ts : List Term) (x y : List ℕ) → Fit values ts → Fit others ts → begins_with_digit x ≡ false → begins_with_digit y ≡ false
      → listed (text values) ts ++ x ≡ listed (text others) ts ++ y → Same ts × (x ≡ y)
  list_once [] x y fits also stop ends e = (tt, e)
  list_once (t ∷ ts) x y fits also stop ends e = elements_once t ts x y fits also stop ends (sym (joined values t ts x) ∙ e ∙ joined others t ts y)

  later_same : (ts : List Term) → Same ts → flat_map (later values) ts ≡ flat_map (later others) ts
  later_same [] h = refl
  later_same (t ∷ ts) h = ap (λ l. (codes ", " ++ l) ++ flat_map (later values) ts) (value_same boolean (value_under values t) (value_under others t) h.0) ∙ ap (λ l. later others t ++ l) (later_same ts h.1)

  list_same : (ts : List Term) → Same ts → listed (text values) ts ≡ listed (text others) ts
  list_same [] h = refl
  list_same (t ∷ ts) h = ap (λ l. l ++ flat_map (later values) ts) (value_same boolean (value_under values t) (value_under others t) h.0) ∙ ap (λ l. text others t ++ l) (later_same ts h.1)

-- ---- outputs

module _ (values others : ℕ → ℤ) where
  -- what an array's line has before its values
  abbrev opening : List (ℤ × ℤ) → List ℕ
  opening ranges = codes "array" ++ decimal (length ranges) ++ codes "d(" ++ flat_map range_text ranges ++ codes "["

  laid_once : (output : Output) (shape : Shape) (x y : List ℕ) → FitsOutput values output → FitsOutput others output
      → laid_out shape (values_text values output) ++ (codes ";\n" ++ x) ≡ laid_out shape (values_text others output) ++ (codes ";\n" ++ y) → IsSameOutput values others output × (x ≡ y)
  laid_once output One x y fits also e =
      let h = list_once output.boolean values others output.terms (codes ";\n" ++ x) (codes ";\n" ++ y) fits also refl refl e in
      (h.0, append_cancel_left (codes ";\n") x y h.1)
  laid_once output (Ranges ranges) x y fits also e =
      let h = list_once output.boolean values others output.terms (codes "])" ++ (codes ";\n" ++ x)) (codes "])" ++ (codes ";\n" ++ y)) fits also refl refl
      (append_cancel_left (opening ranges) _ _ (sym (parts ranges (values_text values output) x) ∙ e ∙ parts ranges (values_text others output) y)) in
      (h.0, append_cancel_left (codes "]);\n") x y h.1)
    where
      parts : (ranges : List (ℤ × ℤ)) (t z : List ℕ) → laid_out (Ranges ranges) t ++ (codes ";\n" ++ z) ≡ opening ranges ++ (t ++ (codes "])" ++ (codes ";\n" ++ z)))
      parts ranges t z = append_assoc (opening ranges ++ t) (codes "])") (codes ";\n" ++ z) ∙ append_assoc (opening ranges) t (codes "])" ++ (codes ";\n" ++ z))

  line_once : (output : Output) (x y : List ℕ) → FitsOutput values output → FitsOutput others output → output_line values output ++ x ≡ output_line others output ++ y → IsSameOutput values others output × (x ≡ y)
  line_once output x y fits also e =
      laid_once output output.shape x y fits also (append_cancel_left (output.name ++ codes " = ") _ _ (sym (parts (laid_out output.shape (values_text values output)) x) ∙ e ∙ parts (laid_out output.shape (values_text others output)) y))
    where
      parts : (t z : List ℕ) → (output.name ++ codes " = " ++ t ++ codes ";\n") ++ z ≡ (output.name ++ codes " = ") ++ (t ++ (codes ";\n" ++ z))
      parts t z = append_assoc ((output.name ++ codes " = ") ++ t) (codes ";\n") z ∙ append_assoc (output.name ++ codes " = ") t (codes ";\n" ++ z)

  line_same : (output : Output) → IsSameOutput values others output → output_line values output ≡ output_line others output
  line_same output h = ap (λ t. output.name ++ codes " = " ++ laid_out output.shape t ++ codes ";\n") (list_same output.boolean values others output.terms h)

  lines_once : (outputs : List Output) (x y : List ℕ) → AllByRecursion (FitsOutput values) outputs → AllByRecursion (FitsOutput others) outputs
      → flat_map (output_line values) outputs ++ x ≡ flat_map (output_line others) outputs ++ y → AllByRecursion (IsSameOutput values others) outputs
  lines_once [] x y fits also e = tt
  lines_once (o ∷ os) x y fits also e =
      let h = line_once o (flat_map (output_line values) os ++ x) (flat_map (output_line others) os ++ y) fits.0 also.0
      (sym (append_assoc (output_line values o) (flat_map (output_line values) os) x) ∙ e ∙ append_assoc (output_line others o) (flat_map (output_line others) os) y) in
      (h.0, lines_once os x y fits.1 also.1 h.1)

  lines_same : (outputs : List Output) → AllByRecursion (IsSameOutput values others) outputs → flat_map (output_line values) outputs ≡ flat_map (output_line others) outputs
  lines_same [] h = refl
  lines_same (o ∷ os) h = ap (λ l. l ++ flat_map (output_line values) os) (line_same o h.0) ∙ ap (λ l. output_line others o ++ l) (lines_same os h.1)

pub texts_tell_values : (p : Contents) → TextTellsValues p
texts_tell_values p values others fits also =
    (λ e. lines_once values others p.outputs (codes "----------\n") (codes "----------\n") fits also e, λ h. ap (λ l. l ++ codes "----------\n") (lines_same values others p.outputs h))
