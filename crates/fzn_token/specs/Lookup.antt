-- The keyword that some bytes are, and the mark that begins with a byte.
use Rattle.std.specs.Prelude.{Bool as Truth, ◌==◌, ℕ, List, Option, Some, None, if◌then◌else◌, codes}
use Rattle.std.specs.Str.{bytes_eq}
use Rattle.fzn_token.specs.declared.token.Mark.{Mark}
use Rattle.fzn_token.specs.declared.token.Mark.TheVariants as m
use Rattle.fzn_token.specs.declared.token.Word.{Word}
use Rattle.fzn_token.specs.declared.token.Word.TheVariants.{Array, Bool, Constraint, False, Float, Int, Maximize, Minimize, Of, Predicate, Satisfy, Set, Solve, True, Var}

-- the keyword from `maximize` on that these bytes are
abbrev pub later_word_in : List ℕ → Option Word
later_word_in bs =
    if bytes_eq bs (codes "maximize") then Some Maximize
    else (if bytes_eq bs (codes "minimize") then Some Minimize
    else (if bytes_eq bs (codes "of") then Some Of
    else (if bytes_eq bs (codes "predicate") then Some Predicate
    else (if bytes_eq bs (codes "satisfy") then Some Satisfy
    else (if bytes_eq bs (codes "set") then Some Set
    else (if bytes_eq bs (codes "solve") then Some Solve
    else (if bytes_eq bs (codes "true") then Some True
    else (if bytes_eq bs (codes "var") then Some Var
    else None))))))))

-- the keyword that these bytes are
abbrev pub word_in : List ℕ → Option Word
word_in bs =
    if bytes_eq bs (codes "array") then Some Array
    else (if bytes_eq bs (codes "bool") then Some Bool
    else (if bytes_eq bs (codes "constraint") then Some Constraint
    else (if bytes_eq bs (codes "false") then Some False
    else (if bytes_eq bs (codes "float") then Some Float
    else (if bytes_eq bs (codes "int") then Some Int
    else later_word_in bs)))))

-- the longest mark that begins with this byte, where `twice` says whether the byte stands there twice
abbrev pub mark_in : Truth → ℕ → Option Mark
mark_in twice b =
    if b == 58 then (if twice then Some m.ColonColon else Some m.Colon)
    else (if b == 46 then (if twice then Some m.DotDot else None)
    else (if b == 59 then Some m.Semicolon
    else (if b == 44 then Some m.Comma
    else (if b == 61 then Some m.Equals
    else (if b == 40 then Some m.OpenParen
    else (if b == 41 then Some m.CloseParen
    else (if b == 91 then Some m.OpenBracket
    else (if b == 93 then Some m.CloseBracket
    else (if b == 123 then Some m.OpenBrace
    else (if b == 125 then Some m.CloseBrace
    else None))))))))))
