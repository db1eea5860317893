-- The text of a solution.
use Rattle.std.specs.Prelude.{ℕ, ℤ, List, [], ◌∷◌, ◌++◌, Bool, length, flat_map, codes, decimal, if◌then◌else◌}
use Rattle.std.specs.Fmt.{signed_decimal}
use Rattle.dcsp_meaning.specs.Words.{is_one}
use Rattle.dcsp_rule.specs.declared.output.Output.{Output}
use Rattle.dcsp_rule.specs.declared.output.Shape.{Shape}
use Rattle.dcsp_rule.specs.declared.output.Shape.TheVariants.{One, Ranges}
use Rattle.dcsp_rule.specs.Rules.{value_under}
use Rattle.dcsp_rule.specs.Problems.{Contents}

-- a value: a number, or a truth, which is true exactly where it is 1
abbrev pub value_text : Bool → ℤ → List ℕ
value_text boolean value =
    if boolean then (if is_one value then codes "true" else codes "false") else signed_decimal value

-- the texts of the items, a comma and a blank between two
abbrev pub listed : {X : Type 0} → (X → List ℕ) → List X → List ℕ
listed text [] = []
listed text (x ∷ xs) = text x ++ flat_map (λ later. codes ", " ++ text later) xs

-- the values of an output's terms
abbrev pub values_text : (ℕ → ℤ) → Output → List ℕ
values_text values output = listed (λ term. value_text output.boolean (value_under values term)) output.terms

-- a range, and what parts it from what follows
abbrev pub range_text : ℤ × ℤ → List ℕ
range_text (low, high) = signed_decimal low ++ codes ".." ++ signed_decimal high ++ codes ", "

-- a value as it is, or an array's ranges and its values in brackets
abbrev pub laid_out : Shape → List ℕ → List ℕ
laid_out One values = values
laid_out (Ranges ranges) values =
    codes "array" ++ decimal (length ranges) ++ codes "d(" ++ flat_map range_text ranges ++ codes "[" ++ values ++ codes "])"

-- the line of an output
abbrev pub output_line : (ℕ → ℤ) → Output → List ℕ
output_line values output = output.name ++ codes " = " ++ laid_out output.shape (values_text values output) ++ codes ";\n"

-- the lines of all outputs, in their order, and the line that ends a solution
abbrev pub solution_text : Contents → (ℕ → ℤ) → List ℕ
solution_text p values = flat_map (output_line values) p.outputs ++ codes "----------\n"
