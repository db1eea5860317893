-- Renumbering is one-to-one, so lines in own numbers tell what the lines over places do.
use Rattle.std.proofs.Common.{◌≡◌, ◌∙◌, ℕ, ℤ, ◌<◌, ◌≤◌, Bool, true, false, cond, not, ◌&&◌, inl, inr, List, [], ◌∷◌, ◌++◌, ◌==◌, drop, length, map, Option, Some, None, refl, sym, ap, subst, arith, eq-eqb}
use Rattle.std.specs.List.{list_any}
use Rattle.std.specs.Option.{option_map}
use Rattle.std.proofs.lemmas.Bool.{cases_lt, ne_eqb}
use Rattle.std.proofs.lemmas.Bool.Decides.{eqb_tells}
use Rattle.std.proofs.lemmas.List.{get_or_past, map-append}
use Rattle.dcsp_defs.specs.Words.{In, below}
use Rattle.dcsp_defs.specs.Csp.{Csp, count}
use Rattle.dcsp_defs.proofs.Lists.{In-filter, In-map, below-In, list_any-In}
use Rattle.abt_defs.specs.Agents.{is_among}
use Rattle.abt_defs.specs.Network.{Network}
use Rattle.dcsp_defs.specs.declared.Reason.{Reason}
use Rattle.abt_defs.specs.Runs.{Cargo, Delivery, Tell, Refuse, AddLink}
use Rattle.dcsp_order.specs.Orders.{number_at, place_of, IsOrder}
use Rattle.dcsp_order.specs.Told.{number_told}
use Rattle.dcsp_order.proofs.Places.{item_in, place_there_again}
use Rattle.abt_story.specs.Facts.{Fact, Receives, Knows, Forgets, Keeps, Declines, Out, Takes, Sends, Line, RuledOut}
use Rattle.abt_session.specs.Traces.{delivery_told}
use Rattle.abt_story.specs.Numbers.{deliveries_told, fact_told, facts_told, line_told, lines_told, IsOrderOn}
use Rattle.abt_story.specs.Telling.{answers, by_numbers, drops, makes, ruled_out, rules_out, same_reasons, takes, takes_value}
use Rattle.abt_story.specs.Retelling.{by_line, deliveries_in, delivery_of, known_after, list_after, list_by, list_told, recorded_after, retold, ruled_after, value_after, waits_after, Shows}

-- ---- lists

pub facts_append : (order : Option (List ℕ)) (fs gs : List Fact) → facts_told order (fs ++ gs) ≡ facts_told order fs ++ facts_told order gs
facts_append None fs gs = refl
facts_append (Some order) fs gs = map-append (fact_told (Some order)) fs gs

pub lines_append : (order : Option (List ℕ)) (ls ms : List Line) → lines_told order (ls ++ ms) ≡ lines_told order ls ++ lines_told order ms
lines_append None ls ms = refl
lines_append (Some order) ls ms = map-append (line_told (Some order)) ls ms

-- without an order a fact stays
fact_stays : (f : Fact) → fact_told None f ≡ f
fact_stays (Takes value) = refl
fact_stays other = refl

pub one_told : (order : Option (List ℕ)) (f : Fact) → facts_told order (f ∷ []) ≡ fact_told order f ∷ []
one_told None f = ap (λ g. g ∷ []) (sym (fact_stays f))
one_told (Some order) f = refl

-- facts that name no agents stay
pub drops_stay : (order : Option (List ℕ)) (before after : List ℕ) → facts_told order (drops before after) ≡ drops before after
drops_stay None before after = refl
drops_stay (Some order) [] after = refl
drops_stay (Some order) (step ∷ before) after = elim (is_among step after) as (λ b. map (fact_told (Some order)) (cond b [] (Forgets step ∷ []) ++ drops before after) ≡ cond b [] (Forgets step ∷ []) ++ drops before after) [
  | true ↦ drops_stay (Some order) before after
  | false ↦ ap (λ l. Forgets step ∷ l) (drops_stay (Some order) before after)
]

pub answers_stay : (order : Option (List ℕ)) (came : Option (ℕ × Cargo)) (after : List ℕ) → facts_told order (answers came after) ≡ answers came after
answers_stay None came after = refl
answers_stay (Some order) None after = refl
answers_stay (Some order) (Some (k, Tell value)) after = refl
answers_stay (Some order) (Some (k, Refuse step)) after = elim (is_among step after) as (λ b. map (fact_told (Some order)) (cond b (Keeps step) (Declines step) ∷ []) ≡ cond b (Keeps step) (Declines step) ∷ []) [ true ↦ refl | false ↦ refl ]
answers_stay (Some order) (Some (k, AddLink)) after = refl

pub ruled_stay : (order : Option (List ℕ)) (values : List ℤ) (before after : ℤ → Option Reason) → facts_told order (rules_out values before after) ≡ rules_out values before after
ruled_stay None values before after = refl
ruled_stay (Some order) values before after = elim (list_any (λ v. not (same_reasons (before v) (after v))) values) as (λ b. map (fact_told (Some order)) (cond b (Out (ruled_out values after) ∷ []) []) ≡ cond b (Out (ruled_out values after) ∷ []) []) [ true ↦ refl | false ↦ refl ]

pub takes_stay : (order : Option (List ℕ)) (before stamp : ℕ) (value : Option ℤ) → facts_told order (takes before stamp value) ≡ takes before stamp value
takes_stay None before stamp value = refl
takes_stay (Some order) before stamp value = elim (stamp == before) as (λ b. map (fact_told (Some order)) (cond b [] (takes_value value)) ≡ cond b [] (takes_value value)) [ true ↦ refl | false ↦ by_value value ]
  where
    by_value : (v : Option ℤ) → map (fact_told (Some order)) (takes_value v) ≡ takes_value v
    by_value None = refl
    by_value (Some v) = refl

pub makes_stay : (order : Option (List ℕ)) (made : Option ℕ) → facts_told order (makes made) ≡ makes made
makes_stay None made = refl
makes_stay (Some order) None = refl
makes_stay (Some order) (Some step) = refl

-- ---- the deliveries of lines

of_line : (order : List ℕ) (o : Option ℕ) (f : Fact) → delivery_of (option_map (number_at order) o) (fact_told (Some order) f) ≡ map (delivery_told (Some order)) (delivery_of o f)
of_line order (Some i) (Receives from cargo) = refl
of_line order None f = by_fact f
  where
    by_fact : (g : Fact) → delivery_of None (fact_told (Some order) g) ≡ map (delivery_told (Some order)) (delivery_of None g)
    by_fact (Receives from cargo) = refl
    by_fact other = refl
of_line order (Some i) other = refl

moved_in : (order : List ℕ) (ls : List Line) → deliveries_in (map (line_told (Some order)) ls) ≡ map (delivery_told (Some order)) (deliveries_in ls)
moved_in order [] = refl
moved_in order (l ∷ ls) =
    ap (λ ds. ds ++ deliveries_in (map (line_told (Some order)) ls)) (of_line order l.agent l.fact) ∙ ap (λ ds. map (delivery_told (Some order)) (delivery_of l.agent l.fact) ++ ds) (moved_in order ls)
    ∙ sym (map-append (delivery_told (Some order)) (delivery_of l.agent l.fact) (deliveries_in ls))

-- ---- one number for each place

module _ (n : ℕ) (order : List ℕ) (h : IsOrder n order) where
  abbrev pub number : ℕ → ℕ
  number = number_at order

  pub inside : (place : ℕ) → place < n → number place < n
  inside place l = let whole = h.whole in h.inside (number place) (item_in order place place (omega arith))

  past : (place : ℕ) → n ≤ place → number place ≡ place
  past place l = let whole = h.whole in get_or_past order place place (omega arith)

  there : (place : ℕ) → place < n → place_of order (number place) ≡ place
  there place l = let whole = h.whole in place_there_again order place place h.once (omega arith)

  pub once : (i j : ℕ) → number i ≡ number j → i ≡ j
  once i j e = elim (cases_lt i n) [
    | inl a ↦ elim (cases_lt j n) [
      | inl b ↦ sym (there i a) ∙ ap (place_of order) e ∙ there j b
      | inr b ↦ absurd (let low = inside i a in let same = past j b in omega arith)
    ]
    | inr a ↦ elim (cases_lt j n) [
      | inl b ↦ absurd (let low = inside j b in let same = past i a in omega arith)
      | inr b ↦ sym (past i a) ∙ e ∙ past j b
    ]
  ]

  same_test : (i j : ℕ) → (number i == number j) ≡ (i == j)
  same_test i j = elim (eqb_tells i j) [
    | inl t ↦ eq-eqb (number i) (number j) (ap number t.1) ∙ sym t.0
    | inr t ↦ ne_eqb (number i) (number j) (λ e. t.1 (once i j e)) ∙ sym t.0
  ]

  -- an agent that is named is named where all go by their numbers
  pub in_numbers : (agents : List ℕ) (k : ℕ) → k < n → In k agents → In k (by_numbers (Some order) agents)
  in_numbers agents k l i =
      let whole = h.whole in
      let low : number k < length order = let few = inside k l in omega arith in
      In-filter (λ j. is_among j agents) k (map (place_of order) (below (length order))) (subst (λ j. In j (map (place_of order) (below (length order)))) (there k l) (In-map (place_of order) (number k) (below (length order)) (below-In (length order) (number k) low)))
      (list_any-In (λ x. k == x) k agents i (eq-eqb k k refl))

  -- ---- what lines make of what is kept of an agent

  retold_same : {X : Type 0} (change moved : Fact → X → X) → ((f : Fact) (x : X) → moved (fact_told (Some order) f) x ≡ change f x) → (i : ℕ) (x : X) (ls : List Line) → retold moved (number i) x (map (line_told (Some order)) ls) ≡ retold change i x ls
  retold_same change moved each i x [] = refl
  retold_same change moved each i x (l ∷ ls) =
      retold_same change moved each i (by_line moved (number i) (option_map number l.agent) (fact_told (Some order) l.fact) x) ls ∙ ap (λ y. retold change i y ls) (by_agent l.agent)
    where
      by_agent : (o : Option ℕ) → by_line moved (number i) (option_map number o) (fact_told (Some order) l.fact) x ≡ by_line change i o l.fact x
      by_agent None = refl
      by_agent (Some j) = ap (λ (b : Bool). cond b (moved (fact_told (Some order) l.fact) x) x) (same_test i j) ∙ ap (λ y. cond (i == j) y x) (each l.fact x)

  value_same : (f : Fact) (x : Option _) → value_after (fact_told (Some order) f) x ≡ value_after f x
  value_same (Takes value) x = refl
  value_same other x = refl

  waits_same : (f : Fact) (x : Bool) → waits_after (fact_told (Some order) f) x ≡ waits_after f x
  waits_same (Takes value) x = refl
  waits_same other x = refl

  recorded_same : (f : Fact) (x : List ℕ) → recorded_after (fact_told (Some order) f) x ≡ recorded_after f x
  recorded_same (Takes value) x = refl
  recorded_same other x = refl

  ruled_same : (f : Fact) (x : List RuledOut) → ruled_after (fact_told (Some order) f) x ≡ ruled_after f x
  ruled_same (Takes value) x = refl
  ruled_same other x = refl

  known_same : (k : ℕ) (f : Fact) (x : Option _) → known_after (number k) (fact_told (Some order) f) x ≡ known_after k f x
  known_same k (Knows j value) x = ap (λ (b : Bool). cond b (Some value) x) (same_test j k)
  known_same k other x = refl

  -- ---- and of a list

  both_same : (a b c d : ℕ) (X : Type 0) (x y : X) → cond (number a == number b && number c == number d) x y ≡ cond (a == b && c == d) x y
  both_same a b c d X x y = ap (λ (t : Bool). cond (t && (number c == number d)) x y) (same_test a b) ∙ ap (λ (t : Bool). cond ((a == b) && t) x y) (same_test c d)

  after_same : (k j i : ℕ) (f : Fact) (x : List Cargo) → list_after (number k) (number j) (number i) (fact_told (Some order) f) x ≡ list_after k j i f x
  after_same k j i (Receives from cargo) x = both_same k from j i (List Cargo) (drop 1 x) x
  after_same k j i (Sends to cargo) x = both_same k i to j (List Cargo) (x ++ cargo ∷ []) x
  after_same k j i other x = refl

  list_same : (k j : ℕ) (x : List Cargo) (ls : List Line) → list_told (number k) (number j) x (map (line_told (Some order)) ls) ≡ list_told k j x ls
  list_same k j x [] = refl
  list_same k j x (l ∷ ls) = list_same k j (list_by (number k) (number j) (option_map number l.agent) (fact_told (Some order) l.fact) x) ls ∙ ap (λ y. list_told k j y ls) (by_agent l.agent)
    where
      by_agent : (o : Option ℕ) → list_by (number k) (number j) (option_map number o) (fact_told (Some order) l.fact) x ≡ list_by k j o l.fact x
      by_agent None = refl
      by_agent (Some i) = after_same k j i l.fact x

  moved_shows : (p : Csp) (ls : List Line) (net : Network) → Shows None p ls net → Shows (Some order) p (map (line_told (Some order)) ls) net
  moved_shows p ls net s = record {
    lists = λ k j. list_same k j [] ls ∙ s.lists k j;
    values = λ i l. retold_same value_after value_after value_same i None ls ∙ s.values i l;
    waits = λ alive i l. retold_same waits_after waits_after waits_same i false ls ∙ s.waits alive i l;
    known_is = λ i k l. retold_same (known_after k) (known_after (number k)) (known_same k) i None ls ∙ s.known_is i k l;
    recorded = λ i. retold_same recorded_after recorded_after recorded_same i [] ls ∙ s.recorded i;
    ruled = λ i l. retold_same ruled_after ruled_after ruled_same i [] ls ∙ s.ruled i l;
  }

  -- ---- deliveries

  one_delivery : (d e : Delivery) → delivery_told (Some order) d ≡ delivery_told (Some order) e → d ≡ e
  one_delivery d e same =
      let sender = once d.sender e.sender (ap (λ (x : Delivery). x.sender) same) in
      let receiver = once d.receiver e.receiver (ap (λ (x : Delivery). x.receiver) same) in
      ap (λ k. record { sender = k; receiver = d.receiver; cargo = d.cargo }) sender ∙ ap (λ k. record { sender = e.sender; receiver = k; cargo = d.cargo }) receiver
      ∙ ap (λ c. record { sender = e.sender; receiver = e.receiver; cargo = c }) (ap (λ (x : Delivery). x.cargo) same)

  same_deliveries : (ds es : List Delivery) → map (delivery_told (Some order)) ds ≡ map (delivery_told (Some order)) es → ds ≡ es
  same_deliveries [] [] same = refl
  same_deliveries [] (e ∷ es) same = cc
  same_deliveries (d ∷ ds) [] same = cc
  same_deliveries (d ∷ ds) (e ∷ es) same = ap (λ x. x ∷ ds) (one_delivery d e (first same)) ∙ ap (λ l. e ∷ l) (same_deliveries ds es (others same))
    where
      first : {X : Type 0} {x y : X} {xs ys : List X} → x ∷ xs ≡ y ∷ ys → x ≡ y
      first u = cc

      others : {X : Type 0} {x y : X} {xs ys : List X} → x ∷ xs ≡ y ∷ ys → xs ≡ ys
      others u = cc

-- ---- the same, without an order too

pub shows_told : (order : Option (List ℕ)) (p : Csp) → IsOrderOn order p → (ls : List Line) (net : Network) → Shows None p ls net → Shows order p (lines_told order ls) net
shows_told None p h ls net s = s
shows_told (Some order) p h ls net s = moved_shows (count p) order h p ls net s

pub named_too : (order : Option (List ℕ)) (p : Csp) → IsOrderOn order p → (agents : List ℕ) (k : ℕ) → k < count p → In k agents → In k (by_numbers order agents)
named_too None p h agents k l i = i
named_too (Some order) p h agents k l i = in_numbers (count p) order h agents k l i

pub told_low : (order : Option (List ℕ)) (p : Csp) → IsOrderOn order p → (k : ℕ) → k < count p → number_told order k < count p
told_low None p h k l = l
told_low (Some order) p h k l = inside (count p) order h k l

pub told_in : (order : Option (List ℕ)) (ls : List Line) → deliveries_in (lines_told order ls) ≡ deliveries_told order (deliveries_in ls)
told_in None ls = refl
told_in (Some order) ls = moved_in order ls

pub told_once : (order : Option (List ℕ)) (p : Csp) → IsOrderOn order p → (ds es : List Delivery) → deliveries_told order ds ≡ deliveries_told order es → ds ≡ es
told_once None p h ds es same = same
told_once (Some order) p h ds es same = same_deliveries (count p) order h ds es same
