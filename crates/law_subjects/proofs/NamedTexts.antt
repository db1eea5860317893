-- Texts of lines with names of their own: they have the problem of the lines, and are short.
use Rattle.std.proofs.Common.{◌≡◌, ℕ, ◌+◌, ◌*◌, ◌≤◌, ◌^◌, inr, List, [], ◌∷◌, ◌++◌, map, flat_map, length, Ok, codes, decimal, sym, ap, ◌∙◌, subst, length-append, arith}
use Rattle.std.specs.List.{AllByRecursion}
use Rattle.std.proofs.lemmas.Grind.{flat_map-append}
use Rattle.dcsp_gen.specs.Binary.{entries}
use Rattle.dcsp_gen.specs.Lines.{solve_line}
use Rattle.dcsp_gen.specs.Lists.{later_number, listed, domain}
use Rattle.fzn_model.specs.Models.{longest_text, Answers}
use Rattle.law_subjects.specs.Named.{Equal, Less, Different, NamedLine, Choose, Compare, Allow, Finish, named_text, named_lines_text, IsWellNamed, Choice, choose, named_lines, named_problem, AreNamedWithin}
use Rattle.law_subjects.proofs.Folded.{total_append}
use Rattle.law_subjects.proofs.Lengths.{digits_to, total, concat_length, entries_length}
use Rattle.law_subjects.proofs.Lists.{all_append}
use Rattle.law_subjects.proofs.NamedWhole.{named_lines_are_read}
use Rattle.law_subjects.proofs.NamedProblems.{named_lines_have_problem}

-- such lines are well named where their parts are
pub all_well_named : (choices : List Choice) (constraints : List NamedLine) → AllByRecursion IsWellNamed (map choose choices) → AllByRecursion IsWellNamed constraints → AllByRecursion IsWellNamed (named_lines choices constraints)
all_well_named choices constraints first second = all_append IsWellNamed (map choose choices) (constraints ++ Finish ∷ []) first (all_append IsWellNamed constraints (Finish ∷ []) second (tt, tt))

-- a text of such lines has their problem
pub named_answered : (text : List ℕ) (choices : List Choice) (constraints : List NamedLine) → text ≡ named_lines_text (named_lines choices constraints) → AllByRecursion IsWellNamed (named_lines choices constraints)
    → AreNamedWithin choices constraints → Answers text (Ok (named_problem (named_lines choices constraints)))
named_answered text choices constraints is well within =
    let lines = named_lines choices constraints in
    let read = named_lines_are_read lines well in
    subst (λ (bytes : List ℕ). Answers bytes (Ok (named_problem lines))) (sym is) (inr (inr (record {
      tokens = read.tokens;
      items = read.items;
      lexed = read.lexed;
      read = read.parsed;
      result_is = sym (named_lines_have_problem (named_lines_text lines) choices constraints read.items within read.said);
    })))

-- the text of the parts
pub named_parts : (choices : List Choice) (constraints : List NamedLine) → named_lines_text (named_lines choices constraints) ≡ named_lines_text (map choose choices) ++ (named_lines_text constraints ++ solve_line)
named_parts choices constraints =
    flat_map-append named_text (map choose choices) (constraints ++ Finish ∷ [])
    ∙ ap (λ (t : List ℕ). named_lines_text (map choose choices) ++ t) (flat_map-append named_text constraints (Finish ∷ []))

-- ---- lengths

-- a name of at most 16 bytes
abbrev pub IsShortName : List ℕ → Type 0
IsShortName name = length name ≤ 16

-- the most bytes of a line
abbrev pub named_room : NamedLine → ℕ
named_room (Choose values name) = 80 + 11 * length values
named_room (Compare comparison first second) = 60
named_room (Allow first second rows) = 120 + 12 * length rows
named_room Finish = 80

-- the names of a line are short
abbrev pub HasShortNames : NamedLine → Type 0
HasShortNames (Choose values name) = IsShortName name
HasShortNames (Compare comparison first second) = IsShortName first × IsShortName second
HasShortNames (Allow first second rows) = IsShortName first × IsShortName second
HasShortNames Finish = Unit {0}

-- numbers behind a comma each
later_length : (values : List ℕ) → AllByRecursion (λ value. value ≤ 2 ^ 31) values → length (flat_map later_number values) ≤ 11 * length values
later_length [] small = omega arith
later_length (value ∷ values) small =
    let here = digits_to value small.0 in
    let rest = later_length values small.1 in
    let one = length-append (codes ",") (decimal value) in
    omega (arith, here, rest, one, length-append (later_number value) (flat_map later_number values))

-- numbers with a comma between two
listed_length : (values : List ℕ) → AllByRecursion (λ value. value ≤ 2 ^ 31) values → length (listed values) ≤ 11 * length values
listed_length [] small = omega arith
listed_length (value ∷ values) small =
    let here = digits_to value small.0 in
    let rest = later_length values small.1 in
    omega (arith, here, rest, length-append (decimal value) (flat_map later_number values))

-- a declaration
choose_length : (values name : List ℕ) → AllByRecursion (λ value. value ≤ 2 ^ 31) values → IsShortName name → length (named_text (Choose values name)) ≤ 80 + 11 * length values
choose_length values name small short =
    let rest = concat_length (codes ": " ∷ name ∷ codes " :: output_var;\n" ∷ []) in
    let numbers = listed_length values small in
    let first = length-append (codes "var {") (listed values) in
    let second = length-append (codes "var {" ++ listed values) (codes "}") in
    omega (arith, rest, numbers, first, second, short, length-append (domain values) (codes ": " ++ (name ++ codes " :: output_var;\n")))

-- a line
line_length : (line : NamedLine) → IsWellNamed line → HasShortNames line → length (named_text line) ≤ named_room line
line_length (Choose values name) well short = choose_length values name well.0 short
line_length (Compare Equal first second) well short =
    let all = concat_length (codes "constraint " ∷ codes "int_eq" ∷ codes "(" ∷ first ∷ codes "," ∷ second ∷ codes ");\n" ∷ []) in let a = short.0 in let b = short.1 in omega (arith, all, a, b)
line_length (Compare Less first second) well short =
    let all = concat_length (codes "constraint " ∷ codes "int_lt" ∷ codes "(" ∷ first ∷ codes "," ∷ second ∷ codes ");\n" ∷ []) in let a = short.0 in let b = short.1 in omega (arith, all, a, b)
line_length (Compare Different first second) well short =
    let all = concat_length (codes "constraint " ∷ codes "int_ne" ∷ codes "(" ∷ first ∷ codes "," ∷ second ∷ codes ");\n" ∷ []) in let a = short.0 in let b = short.1 in omega (arith, all, a, b)
line_length (Allow first second rows) well short =
    let all = concat_length (codes "constraint fzn_table_int([" ∷ first ∷ codes "," ∷ second ∷ codes "],[" ∷ entries rows ∷ codes "]);\n" ∷ []) in
    let a = short.0 in
    let b = short.1 in
    omega (arith, all, a, b, entries_length rows well.2)
line_length Finish well short = omega arith

-- lines
lines_length : (lines : List NamedLine) → AllByRecursion IsWellNamed lines → AllByRecursion HasShortNames lines → length (named_lines_text lines) ≤ total named_room lines
lines_length [] well short = omega arith
lines_length (line ∷ lines) well short =
    let here = line_length line well.0 short.0 in
    let rest = lines_length lines well.1 short.1 in
    omega (arith, here, rest, length-append (named_text line) (named_lines_text lines))

-- such lines are short where there is room for their parts
pub named_short : (text : List ℕ) (choices : List Choice) (constraints : List NamedLine) → text ≡ named_lines_text (named_lines choices constraints) → AllByRecursion IsWellNamed (named_lines choices constraints)
    → AllByRecursion HasShortNames (map choose choices) → AllByRecursion HasShortNames constraints → total named_room (map choose choices) + total named_room constraints + 80 ≤ longest_text → length text ≤ longest_text
named_short text choices constraints is well first second room =
    let short = all_append HasShortNames (map choose choices) (constraints ++ Finish ∷ []) first (all_append HasShortNames constraints (Finish ∷ []) second (tt, tt)) in
    let long = lines_length (named_lines choices constraints) well short in
    let one = total_append named_room (map choose choices) (constraints ++ Finish ∷ []) in
    let two = total_append named_room constraints (Finish ∷ []) in
    let size = ap (λ (bytes : List ℕ). length bytes) is in
    omega (arith, long, one, two, size, room)
