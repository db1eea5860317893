-- The table of constraints: how each is called, and what its arguments are.
use Rattle.std.specs.Prelude.{ℕ, ◌==◌, Bool, true, false, List, [], ◌∷◌, ◌++◌, Option, None, Some, codes, if◌then◌else◌}
use Rattle.std.specs.Str.{bytes_eq}
use Rattle.dcsp_meaning.specs.declared.kinds.ConstraintKind.{ConstraintKind}
use Rattle.dcsp_meaning.specs.declared.kinds.ConstraintKind.TheVariants as kind
use Rattle.dcsp_meaning.specs.declared.linear.Rel.TheVariants.{Equal, AtMost, Differ}
use Rattle.dcsp_meaning.specs.Table.{is_reified, plain_of}
use Rattle.dcsp_meaning.specs.Names.{kind_named}
use Rattle.fzn_scope.specs.declared.form.Place.{Place}
use Rattle.fzn_scope.specs.declared.form.Place.TheVariants.{Scalar, First, Second, Set}
use Rattle.fzn_scope.specs.declared.form.Form.{Form}
use Rattle.fzn_scope.specs.declared.form.Form.TheVariants.{Plain, Sum}

-- an integer
abbrev pub whole : Place
whole = Scalar false

-- a Boolean
abbrev pub truth : Place
truth = Scalar true

-- the first list, of integers
abbrev pub wholes : Place
wholes = First (record { boolean = false; constant = false })

-- the first list, of Booleans
abbrev pub truths : Place
truths = First (record { boolean = true; constant = false })

-- the first list, of a sum's coefficients, which are constants
abbrev pub coefficients : Place
coefficients = First (record { boolean = false; constant = true })

-- the second list, of integers or of Booleans
abbrev pub others : Bool → Place
others boolean = Second (record { boolean = boolean; constant = false })

-- the second list, of a table's entries, which are constants
abbrev pub rows : Bool → Place
rows boolean = Second (record { boolean = boolean; constant = true })

-- the arguments of a constraint that needs no sum and is not reified. `bool_xor` takes two or three
abbrev pub plain_places : ConstraintKind → ℕ → List Place
plain_places kind.IntEq count = whole ∷ whole ∷ []
plain_places kind.IntNe count = whole ∷ whole ∷ []
plain_places kind.IntLe count = whole ∷ whole ∷ []
plain_places kind.IntLt count = whole ∷ whole ∷ []
plain_places kind.IntPlus count = whole ∷ whole ∷ whole ∷ []
plain_places kind.IntTimes count = whole ∷ whole ∷ whole ∷ []
plain_places kind.IntMin count = whole ∷ whole ∷ whole ∷ []
plain_places kind.IntMax count = whole ∷ whole ∷ whole ∷ []
plain_places kind.IntAbs count = whole ∷ whole ∷ []
plain_places kind.IntDiv count = whole ∷ whole ∷ whole ∷ []
plain_places kind.IntMod count = whole ∷ whole ∷ whole ∷ []
plain_places kind.BoolEq count = truth ∷ truth ∷ []
plain_places kind.BoolLe count = truth ∷ truth ∷ []
plain_places kind.BoolLt count = truth ∷ truth ∷ []
plain_places kind.BoolNot count = truth ∷ truth ∷ []
plain_places kind.BoolAnd count = truth ∷ truth ∷ truth ∷ []
plain_places kind.BoolOr count = truth ∷ truth ∷ truth ∷ []
plain_places kind.BoolXor count = if count == 2 then truth ∷ truth ∷ [] else truth ∷ truth ∷ truth ∷ []
plain_places kind.Bool2int count = truth ∷ whole ∷ []
plain_places kind.BoolClause count = truths ∷ others true ∷ []
plain_places kind.ArrayBoolAnd count = truths ∷ truth ∷ []
plain_places kind.ArrayBoolOr count = truths ∷ truth ∷ []
plain_places kind.ArrayBoolXor count = truths ∷ []
plain_places kind.ArrayIntElement count = whole ∷ wholes ∷ whole ∷ []
plain_places kind.ArrayVarIntElement count = whole ∷ wholes ∷ whole ∷ []
plain_places kind.ArrayBoolElement count = whole ∷ truths ∷ truth ∷ []
plain_places kind.ArrayVarBoolElement count = whole ∷ truths ∷ truth ∷ []
plain_places kind.SetIn count = whole ∷ Set ∷ []
plain_places kind.FznAllDifferentInt count = wholes ∷ []
plain_places kind.FznTableInt count = wholes ∷ rows false ∷ []
plain_places kind.FznTableBool count = truths ∷ rows true ∷ []
plain_places reified count = []

-- a reified form takes one Boolean more, at the end
abbrev pub reified_places : Bool → List Place → List Place
reified_places true places = places ++ truth ∷ []
reified_places false places = places

-- the arguments that a constraint takes where so many are given, from left to right
abbrev pub places_of : Form → ℕ → List Place
places_of (Plain kind) count = reified_places (is_reified kind) (plain_places (plain_of kind) count)
places_of (Sum rel boolean reified) count = reified_places reified (coefficients ∷ others boolean ∷ whole ∷ [])

-- the sums
abbrev pub sums : List (List ℕ × Form)
sums =
    (codes "int_lin_eq", Sum Equal false false) ∷
    (codes "int_lin_eq_reif", Sum Equal false true) ∷
    (codes "int_lin_ne", Sum Differ false false) ∷
    (codes "int_lin_ne_reif", Sum Differ false true) ∷
    (codes "int_lin_le", Sum AtMost false false) ∷
    (codes "int_lin_le_reif", Sum AtMost false true) ∷
    (codes "bool_lin_eq", Sum Equal true false) ∷
    (codes "bool_lin_le", Sum AtMost true false) ∷
    []

-- the form beside the first of these names that is equal
abbrev pub form_among : List ℕ → List (List ℕ × Form) → Option Form
form_among name [] = None
form_among name (s ∷ ss) = if bytes_eq name s.0 then Some s.1 else form_among name ss

-- the kind's form, or that of a sum with this name
abbrev pub kind_or_sum : Option ConstraintKind → List ℕ → Option Form
kind_or_sum (Some kind) name = Some (Plain kind)
kind_or_sum None name = form_among name sums

-- the form of a constraint's name, if it has one: that of a kind that needs no sum, or a sum
abbrev pub form_named : List ℕ → Option Form
form_named name = kind_or_sum (kind_named name) name
