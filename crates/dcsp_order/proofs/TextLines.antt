-- The lines of orders.
use Rattle.std.proofs.Common.{◌≡◌, ℕ, ◌+◌, ◌<◌, List, [], ◌∷◌, ◌++◌, map, get_or, Option, Some, inl, inr, refl, sym, ap, ◌∙◌, arith}
use Rattle.std.specs.Prelude.{codes, decimal}
use Rattle.std.specs.List.{AllByRecursion}
use Rattle.std.specs.Char.{is_ascii_digit}
use Rattle.std.proofs.lemmas.Bool.{false≢true}
use Rattle.std.proofs.lemmas.List.{append-nil, map-append}
use Rattle.dcsp_common.specs.Reading.{number_at}
use Rattle.dcsp_common.proofs.Chosen.{some_is}
use Rattle.dcsp_common.proofs.Decimals.{begins_decimal, number_again}
use Rattle.dcsp_defs.specs.Words.{In}
use Rattle.ngd_log.specs.Lines.{lines, IsLine}
use Rattle.ngd_log.proofs.Each.{each_append}
use Rattle.ngd_log.proofs.LineFeeds.{no_feed_in_decimal, lines-concat}
use Rattle.ngd_log.proofs.LogLines.{tail, tail-IsLine, cons_head, cons_tail}
use Rattle.dcsp_order.specs.Texts.{variable_line, order_lines, order_text}

-- the first line
abbrev pub head : List ℕ
head = codes "order 1\n"

-- the lines before those that are still to come
abbrev pub front_lines : List ℕ → List (List ℕ)
front_lines order = head ∷ map variable_line order

pub head-IsLine : IsLine head
head-IsLine = record { body = codes "order 1"; plain = (refl, (refl, (refl, (refl, (refl, (refl, (refl, tt))))))); same = refl }

pub variable_line-IsLine : (k : ℕ) → k < 4096 → IsLine (variable_line k)
variable_line-IsLine k small = record { body = decimal (k + 1); plain = no_feed_in_decimal (k + 1) (omega (arith, small)); same = refl }

-- each number is that of a variable
abbrev pub AreSmall : List ℕ → Type 0
AreSmall numbers = (k : ℕ) → In k numbers → k < 4096

variable_lines-IsLine : (numbers : List ℕ) → AreSmall numbers → AllByRecursion IsLine (map variable_line numbers)
variable_lines-IsLine [] small = tt
variable_lines-IsLine (k ∷ numbers) small = (variable_line-IsLine k (small k (inl refl)), variable_lines-IsLine numbers (λ j i. small j (inr i)))

-- a variable's line is not `end`
pub not_tail : (k : ℕ) → k < 4096 → variable_line k ≡ tail → ⊥
not_tail k small e =
    let b = begins_decimal (k + 1) (codes "\n") (omega (arith, small)) in
    let first : b.first ≡ 101 = ap (λ (x : List ℕ). get_or x 0 0) (sym b.parts ∙ e) in
    false≢true (ap is_ascii_digit (sym first) ∙ b.digit)

-- one variable has a line
one_variable : (a b : ℕ) → a < 4096 → b < 4096 → variable_line a ≡ variable_line b → a ≡ b
one_variable a b sa sb e =
    let both : ◌≡◌ {A = Option (ℕ × List ℕ)} (Some (a + 1, codes "\n")) (Some (b + 1, codes "\n")) =
    sym (number_again (a + 1) (codes "\n") (omega (arith, sa)) refl) ∙ ap number_at e ∙ number_again (b + 1) (codes "\n") (omega (arith, sb)) refl in
    let same : a + 1 ≡ b + 1 = ap (λ (p : ℕ × List ℕ). p.0) (some_is (a + 1, codes "\n") (b + 1, codes "\n") both) in
    omega (arith, same)

-- what the lines of an order have after those of these numbers
pub split_lines : (a b : List ℕ) (others : List (List ℕ)) → AreSmall a → AreSmall b → map variable_line a ++ tail ∷ [] ≡ map variable_line b ++ others
    → (c : List ℕ) × (a ≡ b ++ c) × (others ≡ map variable_line c ++ tail ∷ [])
split_lines a [] others sa sb e = (a, refl, sym e)
split_lines [] (k ∷ b) others sa sb e = absurd (not_tail k (sb k (inl refl)) (sym (cons_head _ _ _ _ e)))
split_lines (j ∷ a) (k ∷ b) others sa sb e =
    let one : j ≡ k = one_variable j k (sa j (inl refl)) (sb k (inl refl)) (cons_head _ _ _ _ e) in
    let rest = split_lines a b others (λ i h. sa i (inr h)) (λ i h. sb i (inr h)) (cons_tail _ _ _ _ e) in
    (rest.0, ap (λ (z : ℕ). z ∷ a) one ∙ ap (λ (z : List ℕ). k ∷ z) rest.1, rest.2)

-- the lines of an order's text
pub lines_of_text : (order : List ℕ) → AreSmall order → lines (order_text order) ≡ order_lines order
lines_of_text order small =
    ap lines (sym (append-nil (order_text order)))
    ∙ lines-concat (order_lines order) [] (each_append IsLine (front_lines order) (tail ∷ []) (head-IsLine, variable_lines-IsLine order small) (tail-IsLine, tt))
    ∙ append-nil (order_lines order)

pub front_push : (order : List ℕ) (k : ℕ) → front_lines (order ++ k ∷ []) ≡ front_lines order ++ variable_line k ∷ []
front_push order k = ap (λ (x : List (List ℕ)). head ∷ x) (map-append variable_line order (k ∷ []))
