-- Lines of problems whose variables have names of their own, as they are written; their items, and the problem that they say.
use Rattle.std.specs.Prelude.{◌≡◌, ℕ, suc, ◌≤◌, ◌^◌, ℤ, pos, false, true, List, [], ◌∷◌, ◌++◌, map, flat_map, length, sum_by, None, Ok, codes, if◌then◌else◌}
use Rattle.std.specs.List.{concat, list_all, AllByRecursion}
use Rattle.std.specs.Str.{bytes_eq}
use Rattle.dcsp_common.specs.Limits.{most}
use Rattle.dcsp_common.specs.declared.limits.Which.TheVariants.{Variables}
use Rattle.dcsp_defs.specs.Words.{In}
use Rattle.dcsp_domain.specs.Sets.{set_of}
use Rattle.dcsp_gen.specs.Binary.{entries}
use Rattle.dcsp_gen.specs.Lines.{solve_line}
use Rattle.dcsp_gen.specs.Lists.{domain}
use Rattle.dcsp_meaning.specs.declared.kinds.ConstraintKind.{ConstraintKind}
use Rattle.dcsp_meaning.specs.declared.kinds.ConstraintKind.TheVariants.{IntEq, IntLt, IntNe}
use Rattle.dcsp_rule.specs.declared.rule.Members.TheVariants.{Listed}
use Rattle.dcsp_rule.specs.declared.rule.Rule.{Rule}
use Rattle.dcsp_rule.specs.declared.rule.Rule.TheVariants.{Plain}
use Rattle.dcsp_rule.specs.declared.output.Output.{Output}
use Rattle.dcsp_rule.specs.declared.output.Shape.TheVariants.{One}
use Rattle.dcsp_rule.specs.declared.aim.Aim.TheVariants.{Satisfy}
use Rattle.dcsp_rule.specs.Problems.{Contents}
use Rattle.dcsp_rule.specs.Rules.{size_of}
use Rattle.fzn_token.specs.Bytes.{is_letter, is_name_byte}
use Rattle.fzn_token.specs.Lookup.{word_in}
use Rattle.fzn_token.specs.declared.token.Token.{Token}
use Rattle.fzn_token.specs.Reading as lexing
use Rattle.fzn_item.specs.declared.item.Atom.{Atom}
use Rattle.fzn_item.specs.declared.item.Base.TheVariants as base
use Rattle.fzn_item.specs.declared.item.Expr.TheVariants as expr
use Rattle.fzn_item.specs.declared.item.Marked.TheVariants as marked
use Rattle.fzn_item.specs.declared.item.Item.{Item}
use Rattle.fzn_item.specs.declared.item.Item.TheVariants as item
use Rattle.fzn_item.specs.Items as parsing
use Rattle.fzn_scope.specs.Names.{bytes_at}
use Rattle.fzn_model.specs.Items.{resolved}
use Rattle.law_subjects.specs.Says.{IsNamed, IsTable, IsSolve}
use Rattle.law_subjects.specs.Problems.{variable, table_rule}
use Rattle.law_subjects.specs.Laws.{HasSmallEntries}
use Rattle.law_subjects.specs.RandomBinary.{AreApart}

-- how two values are compared
pub data Comparison : Type 0 where
  Equal : Comparison
  Less : Comparison
  Different : Comparison

-- a line of a problem; variables by their names, as they are written
pub data NamedLine : Type 0 where
  -- a variable has one of the values, and a solution prints it
  Choose : (values name : List ℕ) → NamedLine
  -- the values of two variables compare so
  Compare : (comparison : Comparison) (first second : List ℕ) → NamedLine
  -- the values of two variables are one of the rows
  Allow : (first second : List ℕ) (rows : List (ℕ × ℕ)) → NamedLine
  -- any solution is asked for
  Finish : NamedLine

-- ---- as text

-- the constraint's name
abbrev pub comparison_name : Comparison → List ℕ
comparison_name Equal = codes "int_eq"
comparison_name Less = codes "int_lt"
comparison_name Different = codes "int_ne"

-- var {VALUES}: NAME :: output_var;
abbrev pub choose_line : List ℕ → List ℕ → List ℕ
choose_line values name = domain values ++ concat (codes ": " ∷ name ∷ codes " :: output_var;\n" ∷ [])

-- constraint COMPARISON(NAME,NAME);
abbrev pub compare_line : Comparison → List ℕ → List ℕ → List ℕ
compare_line comparison first second = concat (codes "constraint " ∷ comparison_name comparison ∷ codes "(" ∷ first ∷ codes "," ∷ second ∷ codes ");\n" ∷ [])

-- constraint fzn_table_int([NAME,NAME],[ENTRIES]);
abbrev pub allow_line : List ℕ → List ℕ → List (ℕ × ℕ) → List ℕ
allow_line first second rows = concat (codes "constraint fzn_table_int([" ∷ first ∷ codes "," ∷ second ∷ codes "],[" ∷ entries rows ∷ codes "]);\n" ∷ [])

-- a line as text
abbrev pub named_text : NamedLine → List ℕ
named_text (Choose values name) = choose_line values name
named_text (Compare comparison first second) = compare_line comparison first second
named_text (Allow first second rows) = allow_line first second rows
named_text Finish = solve_line

-- lines as text
abbrev pub named_lines_text : List NamedLine → List ℕ
named_lines_text lines = flat_map named_text lines

-- ---- as items

-- a variable of this name that has one of the values, and that a solution prints
pub record IsChoice (text name values : List ℕ) (i : Item) : Type 0 where
  pub at : ℕ
  pub from : ℕ
  pub to : ℕ
  pub item_is : i ≡ item.Declare at true None (base.Listed (map (λ value. pos value) values)) from to marked.Variable None
  pub written_is : bytes_at text from to ≡ name

-- the values of the variables of these names compare so
pub record IsComparison (text : List ℕ) (comparison : Comparison) (first second : List ℕ) (i : Item) : Type 0 where
  pub at : ℕ
  pub from : ℕ
  pub to : ℕ
  pub x : Atom
  pub y : Atom
  pub item_is : i ≡ item.Constraint at from to (expr.One x ∷ expr.One y ∷ [])
  pub written_is : bytes_at text from to ≡ comparison_name comparison
  pub x_is : IsNamed text first x
  pub y_is : IsNamed text second y

-- the line reads as the item
abbrev pub SaysNamed : List ℕ → NamedLine → Item → Type 0
SaysNamed text (Choose values name) i = IsChoice text name values i
SaysNamed text (Compare comparison first second) i = IsComparison text comparison first second i
SaysNamed text (Allow first second rows) i = IsTable text first second rows i
SaysNamed text Finish i = IsSolve i

-- one item for each line, in order
abbrev pub AreNamedSaid : List ℕ → List NamedLine → List Item → Type 0
AreNamedSaid text [] items = items ≡ []
AreNamedSaid text (line ∷ lines) [] = ⊥
AreNamedSaid text (line ∷ lines) (i ∷ items) = SaysNamed text line i × AreNamedSaid text lines items

-- a letter or `_`, and letters, digits and `_` behind it, which together are no keyword
abbrev pub IsName : List ℕ → Type 0
IsName [] = ⊥
IsName (byte ∷ bytes) = (is_letter byte ≡ true) × (list_all is_name_byte bytes ≡ true) × (word_in (byte ∷ bytes) ≡ None)

-- the names of a line are names, and its numbers are small
abbrev pub IsWellNamed : NamedLine → Type 0
IsWellNamed (Choose values name) = AllByRecursion (λ value. value ≤ 2 ^ 31) values × IsName name
IsWellNamed (Compare comparison first second) = IsName first × IsName second
IsWellNamed (Allow first second rows) = IsName first × IsName second × AllByRecursion HasSmallEntries rows
IsWellNamed Finish = Unit {0}

-- the text of some lines has tokens, and these are items, one for each line
pub record AreNamedRead (lines : List NamedLine) : Type 0 where
  pub tokens : List Token
  pub items : List Item
  pub lexed : lexing.Answers (named_lines_text lines) (Ok tokens)
  pub parsed : parsing.Answers (named_lines_text lines) tokens (Ok items)
  pub said : AreNamedSaid (named_lines_text lines) lines items

-- The text of lines reads as their items.
abbrev pub NamedLinesAreRead : Type 0
NamedLinesAreRead = (lines : List NamedLine) → AllByRecursion IsWellNamed lines → AreNamedRead lines

-- ---- as a problem

-- the name of the variable that a line declares, if it declares one
abbrev pub name_of : NamedLine → List (List ℕ)
name_of (Choose values name) = name ∷ []
name_of (Compare comparison first second) = []
name_of (Allow first second rows) = []
name_of Finish = []

-- the number of a name among those that are declared, counted from 1
abbrev pub number_of : List (List ℕ) → List ℕ → ℕ
number_of [] name = 1
number_of (other ∷ others) name = if bytes_eq name other then 1 else suc (number_of others name)

-- the kind of a comparison's rule
abbrev pub comparison_kind : Comparison → ConstraintKind
comparison_kind Equal = IntEq
comparison_kind Less = IntLt
comparison_kind Different = IntNe

-- the values of two variables compare so
abbrev pub compare_rule : Comparison → ℕ → ℕ → Rule
compare_rule comparison first second = Plain (comparison_kind comparison) (variable first ∷ variable second ∷ []) [] [] (Listed [])

-- the domain that a line adds, if it declares a variable
abbrev pub named_domains : NamedLine → List (List ℤ)
named_domains (Choose values name) = set_of (map (λ value. pos value) values) ∷ []
named_domains (Compare comparison first second) = []
named_domains (Allow first second rows) = []
named_domains Finish = []

-- the rule that a line adds, if it states a constraint on variables that are declared by these names
abbrev pub named_rules : List (List ℕ) → NamedLine → List Rule
named_rules names (Choose values name) = []
named_rules names (Compare comparison first second) = compare_rule comparison (number_of names first) (number_of names second) ∷ []
named_rules names (Allow first second rows) = table_rule (number_of names first) (number_of names second) rows ∷ []
named_rules names Finish = []

-- the value of a variable under its name
abbrev pub value_output : List ℕ → ℕ → Output
value_output name number = record { name = name; boolean = false; shape = One; terms = variable number ∷ [] }

-- what a solution prints for lines: the value of each variable that they declare, the first of which has this number
abbrev pub named_outputs : ℕ → List NamedLine → List Output
named_outputs number [] = []
named_outputs number (Choose values name ∷ lines) = value_output name number ∷ named_outputs (suc number) lines
named_outputs number (Compare comparison first second ∷ lines) = named_outputs number lines
named_outputs number (Allow first second rows ∷ lines) = named_outputs number lines
named_outputs number (Finish ∷ lines) = named_outputs number lines

-- the problem of lines
abbrev pub named_problem : List NamedLine → Contents
named_problem lines =
    record { domains = flat_map named_domains lines; rules = flat_map (named_rules (flat_map name_of lines)) lines; outputs = named_outputs 1 lines; aim = Satisfy }

-- a variable to be declared: its values and its name
abbrev pub Choice : Type 0
Choice = List ℕ × List ℕ

-- the line that declares it
abbrev pub choose : Choice → NamedLine
choose choice = Choose choice.0 choice.1

-- the names of these variables
abbrev pub names_of : List Choice → List (List ℕ)
names_of choices = map (λ choice. choice.1) choices

-- the lines of a problem: its variables, constraints on them, and the request for any solution
abbrev pub named_lines : List Choice → List NamedLine → List NamedLine
named_lines choices constraints = map choose choices ++ (constraints ++ Finish ∷ [])

-- the line states a constraint on variables of these names
abbrev pub IsConstraintOn : List (List ℕ) → NamedLine → Type 0
IsConstraintOn names (Choose values name) = ⊥
IsConstraintOn names (Compare comparison first second) = In first names × In second names
IsConstraintOn names (Allow first second rows) = In first names × In second names × (length rows ≤ 2 ^ 15)
IsConstraintOn names Finish = ⊥

-- such lines that are within the limits of a problem
pub record AreNamedWithin (choices : List Choice) (constraints : List NamedLine) : Type 0 where
  pub apart : AreApart (names_of choices)
  pub constrained : AllByRecursion (IsConstraintOn (names_of choices)) constraints
  pub variables : length choices ≤ most Variables
  pub values : AllByRecursion (λ (choice : Choice). length choice.0 ≤ 65536) choices
  pub all_values : sum_by (λ (choice : Choice). length choice.0) choices ≤ 1048576
  pub rules : length constraints ≤ 262144
  pub terms : sum_by size_of (flat_map (named_rules (names_of choices)) constraints) ≤ 1048576

-- Such lines say the values of the variables as domains, the constraints' rules, and that each variable is printed.
abbrev pub NamedLinesSayProblem : Type 0
NamedLinesSayProblem = (choices : List Choice) (constraints : List NamedLine) → AreNamedWithin choices constraints
    → named_problem (named_lines choices constraints) ≡ record {
      domains = map (λ (choice : Choice). set_of (map (λ value. pos value) choice.0)) choices;
      rules = flat_map (named_rules (names_of choices)) constraints;
      outputs = named_outputs 1 (map choose choices);
      aim = Satisfy;
    }

-- Items that say such lines have the problem of these lines.
abbrev pub NamedLinesHaveProblem : Type 0
NamedLinesHaveProblem = (text : List ℕ) (choices : List Choice) (constraints : List NamedLine) (items : List Item) → AreNamedWithin choices constraints
    → AreNamedSaid text (named_lines choices constraints) items → resolved text items ≡ Ok (named_problem (named_lines choices constraints))
