-- Each text is that of an order or has a first bad line, and each problem has an order by each rule.
use Rattle.std.proofs.Common.{◌≡◌, ◌≢◌, ℕ, zero, suc, ◌+◌, ◌<◌, ◌≤◌, true, false, ◌⊎◌, List, [], ◌∷◌, ◌++◌, length, inl, inr, refl, sym, ap, subst, ◌∙◌, arith}
use Rattle.std.specs.Str.{bytes_eq}
use Rattle.std.proofs.lemmas.Bool.{false≢true, cases_lt}
use Rattle.std.proofs.lemmas.Bool.Decides.{eqb_tells}
use Rattle.std.proofs.lemmas.List.{length_push}
use Rattle.std.proofs.lemmas.Slice.Eq.{bytes_eq-Decides}
use Rattle.dcsp_defs.specs.Words.{In}
use Rattle.dcsp_defs.specs.Csp.{Csp, count}
use Rattle.ngd_log.specs.Lines.{lines}
use Rattle.ngd_log.proofs.LogLines.{tail, cons_head}
use Rattle.dcsp_common.specs.declared.limits.Which.TheVariants.{Variables}
use Rattle.dcsp_common.specs.Limits.{most}
use Rattle.dcsp_order.specs.ByRule.{GreaterOr, IsBefore, IsOrderBy}
use Rattle.dcsp_order.specs.Texts.{variable_line, IsTextOf, IsFirstBad}
use Rattle.dcsp_order.specs.declared.by_rule.OrderRule.{OrderRule}
use Rattle.dcsp_order.specs.declared.by_rule.OrderRule.TheVariants.{Degree, Links, Reverse}
use Rattle.dcsp_order.proofs.FirstBad.{HasFront, bad_head, bad_next, bad_rest, front_more, text_of_front}
use Rattle.dcsp_order.proofs.Missing.{in_or_not, missing}
use Rattle.dcsp_order.proofs.Placing.{IsPartly, partly_more, partly_whole}
use Rattle.dcsp_order.proofs.TextLines.{head, not_tail}

-- ---- texts

-- an order that the text is of, or a first bad line
abbrev OrderOrBad : ℕ → List ℕ → Type 0
OrderOrBad n text = ((order : List ℕ) × IsTextOf n text order) ⊎ ((number : ℕ) × IsFirstBad n text number)

-- two lines are the same, or they are not
same_or_not : (a b : List ℕ) → (a ≡ b) ⊎ (a ≡ b → ⊥)
same_or_not a b =
    let d = bytes_eq-Decides a b in
    (elim (bytes_eq a b) as (λ t. bytes_eq a b ≡ t → (a ≡ b) ⊎ (a ≡ b → ⊥)) [
      | true ↦ λ same. inl (d.0 same)
      | false ↦ λ other. inr (λ e. false≢true (sym other ∙ d.1 e))
    ]) refl

-- the line is that of this number, which is below m and missing
record IsNextLine (order line : List ℕ) (m k : ℕ) : Type 0 where
  low : k < m
  new : In k order → ⊥
  same : line ≡ variable_line k

-- the line is that of a number below m that is missing, or of none
next_or_not : (order line : List ℕ) (m : ℕ) → ((k : ℕ) × IsNextLine order line m k) ⊎ ((k : ℕ) → k < m → (In k order → ⊥) → line ≡ variable_line k → ⊥)
next_or_not order line zero = inr (λ k l new e. absurd (omega (arith, l)))
next_or_not order line (suc m) = elim (next_or_not order line m) [
  | inl found ↦ let low = found.1.low in inl (found.0, record { low = omega (arith, low); new = found.1.new; same = found.1.same })
  | inr none ↦ elim (in_or_not m order) [
    | inl here ↦ inr (λ k l new e. elim (eqb_tells k m) [
      | inl t ↦ new (subst (λ (z : ℕ). In z order) (sym t.1) here)
      | inr t ↦ none k (omega (arith, l, t.1)) new e
    ])
    | inr new ↦ elim (same_or_not line (variable_line m)) [
      | inl same ↦ inl (m, record { low = omega arith; new = new; same = same })
      | inr other ↦ inr (λ k l absent e. elim (eqb_tells k m) [
        | inl t ↦ other (e ∙ ap variable_line t.1)
        | inr t ↦ none k (omega (arith, l, t.1)) absent e
      ])
    ]
  ]
]

-- from `end` on
at_end : (n : ℕ) (text order : List ℕ) (others : List (List ℕ)) → n ≤ 4096 → length order ≡ n → HasFront n text order (tail ∷ others) → OrderOrBad n text
at_end n text order [] few whole f = inl (order, text_of_front n text order whole f)
at_end n text order (line ∷ others) few whole f = inr (length order + 3, bad_rest n text order line others few whole f)

-- from the lines of these numbers on
from_front : (n : ℕ) (text : List ℕ) (others : List (List ℕ)) (order : List ℕ) → n ≤ 4096 → HasFront n text order others → OrderOrBad n text
from_front n text [] order few f = inr (length order + 2, bad_next n text order [] few f tt)
from_front n text (line ∷ others) order few f = elim (same_or_not line tail) [
  | inl same ↦ elim (eqb_tells (length order) n) [
    | inl whole ↦ at_end n text order others few whole.1 (subst (λ (l : List ℕ). HasFront n text order (l ∷ others)) same f)
    | inr short ↦ inr (
      length order + 2,
      bad_next n text order (line ∷ others) few f (record {
        no_variable = λ k l new e. not_tail k (omega (arith, few, l)) (sym e ∙ same);
        no_end = λ whole e. short.1 whole;
      }),
    )
  ]
  | inr other ↦ elim (next_or_not order line n) [
    | inl next ↦ from_front n text others (order ++ next.0 ∷ []) few (front_more n text order line others next.0 f next.1.same next.1.low next.1.new)
    | inr none ↦ inr (length order + 2, bad_next n text order (line ∷ others) few f (record { no_variable = none; no_end = λ whole e. other e }))
  ]
]

-- each text is that of an order, or has a first bad line
pub order_or_bad_line : (variables : ℕ) → variables ≤ most Variables → (text : List ℕ) → ((order : List ℕ) × IsTextOf variables text order) ⊎ ((number : ℕ) × IsFirstBad variables text number)
order_or_bad_line n few text = start (lines text) refl where
  start : (ls : List (List ℕ)) → lines text ≡ ls → OrderOrBad n text
  start [] e = inr (1, bad_head n text (λ others h. let no : [] ≡ head ∷ others = sym e ∙ h in cc))
  start (line ∷ ls) e = elim (same_or_not line head) [
    | inl same ↦ from_front n text ls [] few (record {
      some = record { inside = λ k i. absurd i; once = tt };
      same = e ∙ ap (λ (l : List ℕ). l ∷ ls) same;
    })
    | inr other ↦ inr (1, bad_head n text (λ others h. other (cons_head _ _ _ _ (sym e ∙ h))))
  ]

-- ---- rules

-- one of two is greater, or both are the same and what is said then decides
greater_or : (a b : ℕ) (X Y : Type 0) → X ⊎ Y → GreaterOr a b X ⊎ GreaterOr b a Y
greater_or a b X Y o = elim (cases_lt b a) [
  | inl l ↦ inl (inl l)
  | inr g ↦ elim (cases_lt a b) [
    | inl l ↦ inr (inl l)
    | inr h ↦
        let e : a ≡ b = omega (arith, g, h) in
        elim o [ inl x ↦ inl (inr (e, x)) | inr y ↦ inr (inr (sym e, y)) ]
  ]
]

-- what is greater than a second one is greater than all that this one is greater than
greater_then : (a b c : ℕ) (X Y Z : Type 0) → (X → Y → Z) → GreaterOr a b X → GreaterOr b c Y → GreaterOr a c Z
greater_then a b c X Y Z then (inl l) (inl m) = inl (omega (arith, l, m))
greater_then a b c X Y Z then (inl l) (inr m) = inl (let e = m.0 in omega (arith, l, e))
greater_then a b c X Y Z then (inr l) (inl m) = inl (let e = l.0 in omega (arith, m, e))
greater_then a b c X Y Z then (inr l) (inr m) = inr (l.0 ∙ m.0, then l.1 m.1)

-- of two numbers one is lower
lower_or : (i k : ℕ) → i ≢ k → (i < k) ⊎ (k < i)
lower_or i k other = elim (cases_lt i k) [ inl l ↦ inl l | inr g ↦ inr (omega (arith, g, other)) ]

-- a number is lower than all that a greater one is lower than
lower_then : (i j k : ℕ) → i < j → j < k → i < k
lower_then i j k l m = omega (arith, l, m)

-- of two variables one goes before the other
before_or : (rule : OrderRule) (p : Csp) (placed : List ℕ) (i k : ℕ) → i ≢ k → IsBefore rule p placed i k ⊎ IsBefore rule p placed k i
before_or Degree p placed i k other = greater_or _ _ (i < k) (k < i) (lower_or i k other)
before_or Links p placed i k other = greater_or _ _ _ _ (greater_or _ _ (i < k) (k < i) (lower_or i k other))
before_or Reverse p placed i k other = lower_or k i (λ e. other (sym e))

-- what goes before a variable goes before all that this one goes before
before_then : (rule : OrderRule) (p : Csp) (placed : List ℕ) (i j k : ℕ) → IsBefore rule p placed i j → IsBefore rule p placed j k → IsBefore rule p placed i k
before_then Degree p placed i j k a b = greater_then _ _ _ (i < j) (j < k) (i < k) (lower_then i j k) a b
before_then Links p placed i j k a b = greater_then _ _ _ _ _ _ (greater_then _ _ _ (i < j) (j < k) (i < k) (lower_then i j k)) a b
before_then Reverse p placed i j k a b = lower_then k j i b a

-- of the variables below m that are not placed, this one goes before all others
record Leads (rule : OrderRule) (p : Csp) (placed : List ℕ) (m i : ℕ) : Type 0 where
  low : i < m
  new : In i placed → ⊥
  before : (k : ℕ) → k < m → (In k placed → ⊥) → k ≢ i → IsBefore rule p placed i k

module _ (rule : OrderRule) (p : Csp) (placed : List ℕ) where
  -- one variable more, which is placed
  leads_past : (m i : ℕ) → In m placed → Leads rule p placed m i → Leads rule p placed (suc m) i
  leads_past m i here h = let low = h.low in record {
    low = omega (arith, low);
    new = h.new;
    before = λ k l new other. elim (eqb_tells k m) [
      | inl t ↦ absurd (new (subst (λ (z : ℕ). In z placed) (sym t.1) here))
      | inr t ↦ h.before k (omega (arith, l, t.1)) new other
    ];
  }

  -- one variable more, before which the leading one goes
  leads_still : (m i : ℕ) → IsBefore rule p placed i m → Leads rule p placed m i → Leads rule p placed (suc m) i
  leads_still m i first h = let low = h.low in record {
    low = omega (arith, low);
    new = h.new;
    before = λ k l new other. elim (eqb_tells k m) [
      | inl t ↦ subst (λ (z : ℕ). IsBefore rule p placed i z) (sym t.1) first
      | inr t ↦ h.before k (omega (arith, l, t.1)) new other
    ];
  }

  -- one variable more, which goes before the leading one
  leads_now : (m i : ℕ) → (In m placed → ⊥) → IsBefore rule p placed m i → Leads rule p placed m i → Leads rule p placed (suc m) m
  leads_now m i absent first h = record {
    low = omega arith;
    new = absent;
    before = λ k l new other. elim (eqb_tells k i) [
      | inl t ↦ subst (λ (z : ℕ). IsBefore rule p placed m z) (sym t.1) first
      | inr t ↦ before_then rule p placed m i k first (h.before k (omega (arith, l, other)) new t.1)
    ];
  }

  -- all variables below m are placed, or one leads
  leading : (m : ℕ) → ((k : ℕ) → k < m → In k placed) ⊎ ((i : ℕ) × Leads rule p placed m i)
  leading zero = inl (λ k l. absurd (omega (arith, l)))
  leading (suc m) = elim (in_or_not m placed) [
    | inl here ↦ elim (leading m) [
      | inl all ↦ inl (λ k l. elim (eqb_tells k m) [
        | inl t ↦ subst (λ (z : ℕ). In z placed) (sym t.1) here
        | inr t ↦ all k (omega (arith, l, t.1))
      ])
      | inr i ↦ inr (i.0, leads_past m i.0 here i.1)
    ]
    | inr absent ↦ elim (leading m) [
      | inl all ↦ inr (m, record { low = omega arith; new = absent; before = λ k l new other. absurd (new (all k (omega (arith, l, other)))) })
      | inr i ↦ let low = i.1.low in elim (before_or rule p placed i.0 m (λ e. absurd (omega (arith, low, e)))) [
        | inl first ↦ inr (i.0, leads_still m i.0 first i.1)
        | inr first ↦ inr (m, leads_now m i.0 absent first i.1)
      ]
    ]
  ]

-- so many variables are still to be placed
place_all : (rule : OrderRule) (p : Csp) (more : ℕ) (placed : List ℕ) → IsPartly rule p placed → length placed + more ≡ count p → (order : List ℕ) × IsOrderBy rule p order
place_all rule p zero placed so_far e = (placed, partly_whole rule p placed so_far (omega (arith, e)))
place_all rule p (suc more) placed so_far e = elim (leading rule p placed (count p)) [
  | inl all ↦
      let one = missing (count p) placed so_far.some (omega (arith, e)) in
      absurd (one.2 (all one.0 one.1))
  | inr i ↦
      let longer = length_push placed i.0 in
      place_all rule p more (placed ++ i.0 ∷ []) (partly_more rule p placed i.0 so_far i.1.low i.1.new i.1.before) (omega (arith, e, longer))
]

-- each problem has an order by each rule
pub order_by_rule_exists : (rule : OrderRule) (p : Csp) → (order : List ℕ) × IsOrderBy rule p order
order_by_rule_exists rule p = place_all rule p (count p) [] (record {
  some = record { inside = λ k i. absurd i; once = tt };
  first = λ a k l lk absent. absurd (omega (arith, l));
}) (omega arith)
