-- Rules whose lists are pieces of two lists, and how a further rule leaves those before it.
use Rattle.std.proofs.Common.{◌≡◌, refl, ℕ, ◌+◌, ◌-◌, ◌<◌, ◌≤◌, ℤ, List, [], ◌∷◌, ◌++◌, length, get_or, take, drop, sym, ap, ◌∙◌, arith}
use Rattle.std.specs.Prelude.{All, Result, Ok, Err, OnErr}
use Rattle.std.proofs.lemmas.List.{map-append, append-nil, append_assoc, ext_get_or, get_or-map, length-append, length-drop, length-map, take-append-le, drop-append-le}
use Rattle.std.proofs.lemmas.List.Elements.{All-push}
use Rattle.std.proofs.Math.Seq.{drop-append_seam, take-append_seam}
use Rattle.dcsp_rule.specs.declared.rule.Term.{Term}
use Rattle.dcsp_rule.specs.declared.rule.Rule.{Rule}
use Rattle.dcsp_rule.specs.declared.flat.HeadKind.{HeadKind}
use Rattle.dcsp_rule.specs.declared.flat.RuleHead.{RuleHead}
use Rattle.dcsp_rule.specs.Rules.{no_rule}
use Rattle.dcsp_rule.specs.Flat.{head_of, piece, rule_in, rule_of_lists, rules_in, Extends, IsInside}

pub on_err_always : {X E : Type 0} {P : Type 0} (r : Result X E) → P → OnErr r P
on_err_always (Ok value) h = tt
on_err_always (Err error) h = h

-- what comes later changes no piece
piece_kept : {X : Type 0} (items more : List X) (start end : ℕ) → start ≤ end → end ≤ length items → piece (items ++ more) start end ≡ piece items start end
piece_kept items more start end rises inside =
    let rest = length-drop start items in
    ap (λ z. take (end - start) z) (drop-append-le start items more (omega arith))
    ∙ take-append-le (end - start) (drop start items) more (omega arith)

-- a list that stands within others is the piece there
piece_there : {X : Type 0} (all before mid after : List X) (start end : ℕ) → all ≡ before ++ (mid ++ after) → start ≡ length before → end ≡ start + length mid → piece all start end ≡ mid
piece_there all before mid after start end is from to =
    let size : end - start ≡ length mid = omega (arith, to) in
    ap (λ z. piece z start end) is
    ∙ ap (λ n. take (end - start) (drop n (before ++ (mid ++ after)))) from
    ∙ ap (λ z. take (end - start) z) (drop-append_seam before (mid ++ after))
    ∙ ap (λ n. take n (mid ++ after)) size
    ∙ take-append_seam mid after

same_lists : (kind : HeadKind) (a b c d e f : List Term) (g h : List ℤ) → a ≡ d → b ≡ e → c ≡ f → g ≡ h → rule_of_lists kind a b c g ≡ rule_of_lists kind d e f h
same_lists kind a b c d e f g h first second third numbers =
    ap (λ z. rule_of_lists kind z b c g) first ∙ ap (λ z. rule_of_lists kind d z c g) second ∙ ap (λ z. rule_of_lists kind d e z g) third ∙ ap (λ z. rule_of_lists kind d e f z) numbers

rule_kept : (terms more : List Term) (numbers others : List ℤ) (head : RuleHead) → IsInside (length terms) (length numbers) head → rule_in (terms ++ more) (numbers ++ others) head ≡ rule_in terms numbers head
rule_kept terms more numbers others head is =
    let first = is.first in let second = is.second in let third = is.third in let end = is.end in
    same_lists head.kind _ _ _ _ _ _ _ _
    (piece_kept terms more head.first head.second is.first (omega arith))
    (piece_kept terms more head.second head.third is.second (omega arith))
    (piece_kept terms more head.third head.end is.third is.end)
    (piece_kept numbers others head.numbers head.numbers_end is.numbers is.numbers_end)

-- further terms and numbers change no rule
rules_longer : (terms more : List Term) (numbers others : List ℤ) (heads : List RuleHead) (d : RuleHead) → All (IsInside (length terms) (length numbers)) heads
    → rules_in (terms ++ more) (numbers ++ others) heads ≡ rules_in terms numbers heads
rules_longer terms more numbers others heads d inside =
    let here = length-map heads (rule_in terms numbers) in
    let there = length-map heads (rule_in (terms ++ more) (numbers ++ others)) in
    ext_get_or no_rule (rules_in (terms ++ more) (numbers ++ others) heads) (rules_in terms numbers heads) (omega arith) (λ i l.
    let inner : i < length heads = omega (arith, l) in
    get_or-map (rule_in (terms ++ more) (numbers ++ others)) heads i d no_rule inner ∙ rule_kept terms more numbers others (get_or heads i d) (inside i d inner)
    ∙ sym (get_or-map (rule_in terms numbers) heads i d no_rule inner))

pub rules_kept : (terms new_terms : List Term) (numbers new_numbers : List ℤ) (heads : List RuleHead) (d : RuleHead) → All (IsInside (length terms) (length numbers)) heads → Extends terms new_terms → Extends numbers new_numbers
    → rules_in new_terms new_numbers heads ≡ rules_in terms numbers heads
rules_kept terms new_terms numbers new_numbers heads d inside t n =
    ap (λ z. rules_in z new_numbers heads) t.is ∙ ap (λ z. rules_in (terms ++ t.more) z heads) n.is ∙ rules_longer terms t.more numbers n.more heads d inside

pub inside_kept : (terms new_terms : List Term) (numbers new_numbers : List ℤ) (heads : List RuleHead) → All (IsInside (length terms) (length numbers)) heads → Extends terms new_terms → Extends numbers new_numbers
    → All (IsInside (length new_terms) (length new_numbers)) heads
inside_kept terms new_terms numbers new_numbers heads inside t n k d l =
    let is = inside k d l in
    let first = is.first in let second = is.second in let third = is.third in let end = is.end in let low = is.numbers in let high = is.numbers_end in
    let longer = ap length t.is in let more = length-append terms t.more in
    let wider = ap length n.is in let others = length-append numbers n.more in
    record { first = first; second = second; third = third; end = omega arith; numbers = low; numbers_end = omega arith }

-- the lists of a further rule
pub rule_added : (kind : HeadKind) (terms a b c new_terms : List Term) (numbers ns new_numbers : List ℤ) → new_terms ≡ terms ++ (a ++ (b ++ c)) → new_numbers ≡ numbers ++ ns
    → rule_in new_terms new_numbers (head_of kind (length terms) (length numbers) (length a) (length b) (length c) (length ns)) ≡ rule_of_lists kind a b c ns
rule_added kind terms a b c new_terms numbers ns new_numbers t n =
    let one = length-append terms a in
    let two = length-append (terms ++ a) b in
    same_lists kind _ _ _ a b c _ ns
    (piece_there new_terms terms a (b ++ c) (length terms) (length terms + length a) t refl refl)
    (piece_there new_terms (terms ++ a) b c (length terms + length a) (length terms + length a + length b) (t ∙ sym (append_assoc terms a (b ++ c))) (sym one) refl)
    (piece_there new_terms ((terms ++ a) ++ b) c [] (length terms + length a + length b) (length terms + length a + length b + length c)
    (t ∙ sym (append_assoc terms a (b ++ c)) ∙ sym (append_assoc (terms ++ a) b c) ∙ ap (λ z. ((terms ++ a) ++ b) ++ z) (sym (append-nil c))) (omega arith) refl)
    (piece_there new_numbers numbers ns [] (length numbers) (length numbers + length ns) (n ∙ ap (λ z. numbers ++ z) (sym (append-nil ns))) refl refl)

pub head_inside : (kind : HeadKind) (terms a b c new_terms : List Term) (numbers ns new_numbers : List ℤ) → new_terms ≡ terms ++ (a ++ (b ++ c)) → new_numbers ≡ numbers ++ ns
    → IsInside (length new_terms) (length new_numbers) (head_of kind (length terms) (length numbers) (length a) (length b) (length c) (length ns))
head_inside kind terms a b c new_terms numbers ns new_numbers t n =
    let long = ap length t in let one = length-append terms (a ++ (b ++ c)) in let two = length-append a (b ++ c) in let three = length-append b c in
    let wide = ap length n in let four = length-append numbers ns in
    record { first = omega arith; second = omega arith; third = omega arith; end = omega arith; numbers = omega arith; numbers_end = omega arith }

placed : (kind : HeadKind) (from terms start numbers a b c n : ℕ) → from ≡ terms → start ≡ numbers → head_of kind from start a b c n ≡ head_of kind terms numbers a b c n
placed kind from terms start numbers a b c n f g = ap (λ z. head_of kind z start a b c n) f ∙ ap (λ z. head_of kind terms z a b c n) g

-- one rule more
pub rules_more : (kind : HeadKind) (terms a b c new_terms : List Term) (numbers ns new_numbers : List ℤ) (heads new_heads : List RuleHead) (head : RuleHead) (from start : ℕ)
    → All (IsInside (length terms) (length numbers)) heads → new_terms ≡ terms ++ (a ++ (b ++ c)) → new_numbers ≡ numbers ++ ns
    → from ≡ length terms → start ≡ length numbers → head ≡ head_of kind from start (length a) (length b) (length c) (length ns) → new_heads ≡ heads ++ head ∷ []
    → rules_in new_terms new_numbers new_heads ≡ rules_in terms numbers heads ++ rule_of_lists kind a b c ns ∷ []
rules_more kind terms a b c new_terms numbers ns new_numbers heads new_heads head from start inside t n f g h e =
    let is = h ∙ placed kind from (length terms) start (length numbers) (length a) (length b) (length c) (length ns) f g in
    ap (λ z. rules_in new_terms new_numbers z) e
    ∙ map-append (rule_in new_terms new_numbers) heads (head ∷ [])
    ∙ ap (λ (z : List Rule). z ++ rule_in new_terms new_numbers head ∷ []) (rules_kept terms new_terms numbers new_numbers heads head inside (record { more = a ++ (b ++ c); is = t }) (record { more = ns; is = n }))
    ∙ ap (λ (z : Rule). rules_in terms numbers heads ++ z ∷ []) (ap (rule_in new_terms new_numbers) is ∙ rule_added kind terms a b c new_terms numbers ns new_numbers t n)

pub inside_more : (kind : HeadKind) (terms a b c new_terms : List Term) (numbers ns new_numbers : List ℤ) (heads new_heads : List RuleHead) (head : RuleHead) (from start : ℕ)
    → All (IsInside (length terms) (length numbers)) heads → new_terms ≡ terms ++ (a ++ (b ++ c)) → new_numbers ≡ numbers ++ ns
    → from ≡ length terms → start ≡ length numbers → head ≡ head_of kind from start (length a) (length b) (length c) (length ns) → new_heads ≡ heads ++ head ∷ []
    → All (IsInside (length new_terms) (length new_numbers)) new_heads
inside_more kind terms a b c new_terms numbers ns new_numbers heads new_heads head from start inside t n f g h e =
    let is = h ∙ placed kind from (length terms) start (length numbers) (length a) (length b) (length c) (length ns) f g in
    let kept = inside_kept terms new_terms numbers new_numbers heads inside (record { more = a ++ (b ++ c); is = t }) (record { more = ns; is = n }) in
    let last : IsInside (length new_terms) (length new_numbers) head = rw is (head_inside kind terms a b c new_terms numbers ns new_numbers t n) in
    rw e (All-push (IsInside (length new_terms) (length new_numbers)) heads head kept last)
