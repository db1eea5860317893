-- The first bad line of a text that is no order.
use Rattle.std.proofs.Common.{◌≡◌, ℕ, ◌+◌, ◌-◌, ◌<◌, ◌≤◌, List, [], ◌∷◌, ◌++◌, map, length, take, inl, inr, refl, sym, ap, subst, ◌∙◌, append_assoc, arith}
use Rattle.std.specs.List.{concat}
use Rattle.std.proofs.lemmas.List.{append-nil, length-append, length-map, take_at}
use Rattle.dcsp_defs.specs.Words.{In}
use Rattle.dcsp_defs.proofs.Lists.{In-right}
use Rattle.ngd_log.specs.Lines.{lines, Begin, IsFirstBadOf}
use Rattle.ngd_log.proofs.LineFeeds.{concat-lines}
use Rattle.ngd_log.proofs.LogLines.{tail, cons_head, cons_tail}
use Rattle.dcsp_order.specs.Orders.{IsDistinct, IsOrder}
use Rattle.dcsp_order.specs.Texts.{variable_line, order_lines, AreOrderLines, IsFirstBad, IsTextOf}
use Rattle.dcsp_order.proofs.Missing.{AreSome, begins_order, some_push}
use Rattle.dcsp_order.proofs.TextLines.{head, front_lines, AreSmall, not_tail, split_lines, front_push}

-- ---- of whatever texts are whole

-- no whole text goes on so: none ends here, where nothing follows, or none has the next line
abbrev pub EndsHere : (List (List ℕ) → Type 0) → List (List ℕ) → List (List ℕ) → Type 0
EndsHere whole front [] = whole front → ⊥
EndsHere whole front (line ∷ others) = (more : List (List ℕ)) → whole (front ++ line ∷ more) → ⊥

front_taken : (text : List ℕ) (front others : List (List ℕ)) (n : ℕ) → lines text ≡ front ++ others → n ≡ length front → take n (lines text) ≡ front
front_taken text front others n e k = ap (take n) e ∙ take_at front others n (sym k)

bad_after : (whole : List (List ℕ) → Type 0) (text : List ℕ) (front others : List (List ℕ)) → Begin whole front → lines text ≡ front ++ others → EndsHere whole front others
    → IsFirstBadOf whole text (length front + 1)
bad_after whole text front [] begins e none =
    let count : length (lines text) ≡ length front = ap length e ∙ ap length (append-nil front) in
    record {
      positive = omega arith;
      before = subst (Begin whole) (sym (front_taken text front [] (length front + 1 - 1) e (omega arith))) begins;
      bad = inr (record { after_last = omega (arith, count); not_whole = λ w. none (subst whole (e ∙ append-nil front) w) });
    }
bad_after whole text front (line ∷ others) begins e none =
    let count : length (lines text) ≡ length front + (1 + length others) = ap length e ∙ length-append front (line ∷ others) ∙ omega arith in
    let longer : length (front ++ line ∷ []) ≡ length front + 1 = length-append front (line ∷ []) in
    record {
      positive = omega arith;
      before = subst (Begin whole) (sym (front_taken text front (line ∷ others) (length front + 1 - 1) e (omega arith))) begins;
      bad = inl (record {
        there = omega (arith, count);
        wrong = λ b.
            let t = front_taken text (front ++ line ∷ []) others (length front + 1) (e ∙ sym (append_assoc front (line ∷ []) others)) (sym longer) in
            none b.0 (subst whole (ap (λ (x : List (List ℕ)). x ++ b.0) t ∙ append_assoc front (line ∷ []) b.0) b.1);
      });
    }

-- ---- of orders

-- the text's lines begin with those of these numbers
pub record HasFront (n : ℕ) (text order : List ℕ) (others : List (List ℕ)) : Type 0 where
  pub some : AreSome n order
  pub same : lines text ≡ front_lines order ++ others

-- so an order goes on that begins with these numbers
pub record GoesOn (n : ℕ) (order : List ℕ) (others : List (List ℕ)) : Type 0 where
  pub rest : List ℕ
  pub is_order : IsOrder n (order ++ rest)
  pub lines_are : others ≡ map variable_line rest ++ tail ∷ []

small : (n : ℕ) (order : List ℕ) → n ≤ 4096 → ((k : ℕ) → In k order → k < n) → AreSmall order
small n order few inside k i = let low = inside k i in omega (arith, few, low)

goes_on : (n : ℕ) (order : List ℕ) (others : List (List ℕ)) → n ≤ 4096 → AreSome n order → AreOrderLines n (front_lines order ++ others) → GoesOn n order others
goes_on n order others few some w =
    let split = split_lines w.0 order others (small n w.0 few w.1.inside) (small n order few some.inside) (cons_tail _ _ _ _ w.2) in
    record { rest = split.0; is_order = subst (IsOrder n) split.1 w.1; lines_are = split.2 }

not_there : (k : ℕ) (order rest : List ℕ) → IsDistinct (order ++ k ∷ rest) → In k order → ⊥
not_there k [] rest once i = i
not_there k (x ∷ order) rest once (inl e) = once.0 (In-right x order (k ∷ rest) (inl (sym e)))
not_there k (x ∷ order) rest once (inr i) = not_there k order rest once.1 i

-- the line is that of no number that is missing, and `end` only where one is
pub record IsNoNext (n : ℕ) (order line : List ℕ) : Type 0 where
  pub no_variable : (k : ℕ) → k < n → (In k order → ⊥) → line ≡ variable_line k → ⊥
  pub no_end : length order ≡ n → line ≡ tail → ⊥

abbrev pub HasNoNext : ℕ → List ℕ → List (List ℕ) → Type 0
HasNoNext n order [] = Unit {0}
HasNoNext n order (line ∷ others) = IsNoNext n order line

no_way : (n : ℕ) (order line : List ℕ) (more : List (List ℕ)) → n ≤ 4096 → IsNoNext n order line → GoesOn n order (line ∷ more) → ⊥
no_way n order line more few none g = at g.rest g.is_order g.lines_are where
  at : (rest : List ℕ) → IsOrder n (order ++ rest) → line ∷ more ≡ map variable_line rest ++ tail ∷ [] → ⊥
  at [] is e = none.no_end (ap length (sym (append-nil order)) ∙ is.whole) (cons_head _ _ _ _ e)
  at (k ∷ rest) is e = none.no_variable k (is.inside k (In-right k order (k ∷ rest) (inl refl))) (not_there k order rest is.once) (cons_head _ _ _ _ e)

no_stop : (n : ℕ) (order : List ℕ) → GoesOn n order [] → ⊥
no_stop n order g = at g.rest g.lines_are where
  at : (rest : List ℕ) → [] ≡ map variable_line rest ++ tail ∷ [] → ⊥
  at [] e = cc
  at (k ∷ rest) e = cc

begins_text : (n : ℕ) (order : List ℕ) → AreSome n order → Begin (AreOrderLines n) (front_lines order)
begins_text n order some =
    let b = begins_order n order some in
    (map variable_line b.0 ++ tail ∷ [], (order ++ b.0, b.1, ap (λ (x : List (List ℕ)). head ∷ x) (map_more order b.0)))
  where
    map_more : (xs ys : List ℕ) → map variable_line (xs ++ ys) ++ tail ∷ [] ≡ map variable_line xs ++ (map variable_line ys ++ tail ∷ [])
    map_more [] ys = refl
    map_more (x ∷ xs) ys = ap (λ (z : List (List ℕ)). variable_line x ∷ z) (map_more xs ys)

length-front : (order : List ℕ) → length (front_lines order) ≡ length order + 1
length-front order = let h = length-map order variable_line in omega (arith, h)

-- the line after those of the numbers is bad
pub bad_next : (n : ℕ) (text order : List ℕ) (others : List (List ℕ)) → n ≤ 4096 → HasFront n text order others → HasNoNext n order others → IsFirstBad n text (length order + 2)
bad_next n text order others few f none =
    let count = length-front order in
    let number : length (front_lines order) + 1 ≡ length order + 2 = omega (arith, count) in
    subst (λ (z : ℕ). IsFirstBad n text z) number
    (bad_after (AreOrderLines n) text (front_lines order) others (begins_text n order f.some) f.same (ends others none))
  where
    ends : (rest : List (List ℕ)) → HasNoNext n order rest → EndsHere (AreOrderLines n) (front_lines order) rest
    ends [] h = λ w. no_stop n order (goes_on n order [] few f.some (subst (AreOrderLines n) (sym (append-nil (front_lines order))) w))
    ends (line ∷ rest) h = λ more w. no_way n order line more few h (goes_on n order (line ∷ more) few f.some w)

-- a line after `end` is bad
pub bad_rest : (n : ℕ) (text order line : List ℕ) (others : List (List ℕ)) → n ≤ 4096 → length order ≡ n → HasFront n text order (tail ∷ line ∷ others) → IsFirstBad n text (length order + 3)
bad_rest n text order line others few whole f =
    let front = front_lines order in
    let count = length-front order in
    let longer : length (front ++ tail ∷ []) ≡ length front + 1 = length-append front (tail ∷ []) in
    let number : length (front ++ tail ∷ []) + 1 ≡ length order + 3 = omega (arith, count, longer) in
    let is : IsOrder n order = record { whole = whole; inside = f.some.inside; once = f.some.once } in
    subst (λ (z : ℕ). IsFirstBad n text z) number
    (bad_after (AreOrderLines n) text (front ++ tail ∷ []) (line ∷ others) ([], subst (AreOrderLines n) (sym (append-nil (front ++ tail ∷ []))) (order, is, refl))
    (f.same ∙ sym (append_assoc front (tail ∷ []) (line ∷ others)))
    (λ more w. no_more more (goes_on n order (tail ∷ line ∷ more) few f.some (subst (AreOrderLines n) (append_assoc front (tail ∷ []) (line ∷ more)) w))))
  where
    no_more : (more : List (List ℕ)) → GoesOn n order (tail ∷ line ∷ more) → ⊥
    no_more more g = at g.rest g.is_order g.lines_are where
      at : (rest : List ℕ) → IsOrder n (order ++ rest) → tail ∷ line ∷ more ≡ map variable_line rest ++ tail ∷ [] → ⊥
      at [] is e = let none : line ∷ more ≡ [] = cons_tail _ _ _ _ e in cc
      at (k ∷ rest) is e =
          let low = is.inside k (In-right k order (k ∷ rest) (inl refl)) in
          not_tail k (omega (arith, few, low)) (sym (cons_head _ _ _ _ e))

-- the first line is bad where it is not `order 1`
pub bad_head : (n : ℕ) (text : List ℕ) → ((others : List (List ℕ)) → lines text ≡ head ∷ others → ⊥) → IsFirstBad n text 1
bad_head n text other =
    let none : AreSome n [] = record { inside = λ k i. absurd i; once = tt } in
    let b = begins_order n [] none in
    bad_after (AreOrderLines n) text [] (lines text) (order_lines b.0, (b.0, b.1, refl)) refl (ends (lines text) refl)
  where
    ends : (ls : List (List ℕ)) → lines text ≡ ls → EndsHere (AreOrderLines n) [] ls
    ends [] e = λ w. let no = w.2 in cc
    ends (line ∷ ls) e = λ more w. other ls (e ∙ ap (λ (l : List ℕ). l ∷ ls) (sym (cons_head _ _ _ _ w.2)))

-- one number more
pub front_more : (n : ℕ) (text order line : List ℕ) (others : List (List ℕ)) (k : ℕ) → HasFront n text order (line ∷ others) → line ≡ variable_line k → k < n → (In k order → ⊥)
    → HasFront n text (order ++ k ∷ []) others
front_more n text order line others k f is low none = record {
  some = some_push n k order f.some low none;
  same =
      f.same ∙ ap (λ (l : List ℕ). front_lines order ++ l ∷ others) is
      ∙ sym (append_assoc (front_lines order) (variable_line k ∷ []) others)
      ∙ ap (λ (x : List (List ℕ)). x ++ others) (sym (front_push order k));
}

-- the text is that of the order where `end` comes last
pub text_of_front : (n : ℕ) (text order : List ℕ) → length order ≡ n → HasFront n text order (tail ∷ []) → IsTextOf n text order
text_of_front n text order whole f = record {
  is_order = record { whole = whole; inside = f.some.inside; once = f.some.once };
  same = sym (concat-lines text) ∙ ap concat f.same;
}
