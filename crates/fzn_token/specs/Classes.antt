-- The class of a byte, which tells the token that begins with it.
use Rattle.std.specs.Prelude.{◌==◌, ◌||◌, ℕ, Option, Some, None, false, if◌then◌else◌}
use Rattle.fzn_token.specs.Bytes.{is_blank, is_letter, is_digit_in}
use Rattle.fzn_token.specs.Lookup.{mark_in}
use Rattle.fzn_token.specs.declared.token.Mark.{Mark}
use Rattle.fzn_token.specs.declared.class.Class.{Class}
use Rattle.fzn_token.specs.declared.class.Class.TheVariants as class

-- the class of a byte that is this mark
abbrev pub mark_class : Option Mark → Class
mark_class (Some mark) = class.Mark mark
mark_class None = class.Other

-- the class of a byte that is no letter, digit, `-` or `"`
abbrev pub rest_class : ℕ → Class
rest_class b =
    if is_blank b then class.Blank
    else (if b == 37 then class.Percent
    else (if b == 58 || b == 46 then class.Twin
    else mark_class (mark_in false b)))

-- the class of a byte
abbrev pub class_of : ℕ → Class
class_of b =
    if is_letter b then class.Letter
    else (if is_digit_in 10 b then class.Digit
    else (if b == 45 then class.Minus
    else (if b == 34 then class.Quote
    else rest_class b)))
