-- Where a row of a table fits, and what marks it leaves.
use Rattle.std.proofs.Common.{◌≡◌, ℕ, zero, suc, ◌+◌, ◌<◌, ℤ, Bool, true, false, not, ◌&&◌, ◌||◌, List, [], ◌∷◌, length, refl, sym, ap, ◌∙◌, subst, arith, drop, get_or, set, inl, inr, pos, ◌<ℤ◌}
use Rattle.std.specs.Prelude.{if◌then◌else◌, slice_index_or, map, ◌≤◌}
use Rattle.std.specs.Ordering.{int_eq}
use Rattle.std.proofs.lemmas.Bool.{cases_order, cases_eq, false_from_ne_true}
use Rattle.std.proofs.lemmas.Int.{ints}
use Rattle.std.proofs.lemmas.List.{length-map, drop_more}
use Rattle.std.proofs.lemmas.List.{get_or-set_same, get_or-set_other}
use Rattle.std.proofs.lemmas.Bool.Decides.{Decides-int_eq}
use Rattle.dcsp_domain.specs.Sets.{IsRising, has}
use Rattle.dcsp_meaning.specs.Words.{argument, same}
use Rattle.dcsp_meaning.specs.Rows.{stands_at}
use Rattle.dcsp_meaning.specs.declared.kinds.ConstraintKind.{ConstraintKind}
use Rattle.dcsp_defs.specs.Csp.{PartialAssignment}
use Rattle.dcsp_rule.specs.declared.rule.Term.{Term}
use Rattle.dcsp_rule.specs.declared.rule.Members.{Members}
use Rattle.dcsp_rule.specs.declared.rule.Rule.{Rule}
use Rattle.dcsp_rule.specs.declared.rule.Rule.TheVariants.{Plain}
use Rattle.dcsp_rule.specs.Members.{is_member}
use Rattle.dcsp_defs.proofs.Lists.{list_any-In}
use Rattle.dcsp_problem.proofs.RisingNumbers.{In-get_or}
use Rattle.dcsp_row.specs.Rows.{own_at, is_false}
use Rattle.dcsp_row.specs.Tables.{values_at, is_off_table, TellsTable}

-- the order of two numbers plays no part
pub int_eq-sym : (x y : ℤ) → int_eq x y ≡ int_eq y x
int_eq-sym x y = by_test (int_eq y x) refl where
  by_test : (b : Bool) → int_eq y x ≡ b → int_eq x y ≡ b
  by_test true e = (Decides-int_eq x y).1 (sym ((Decides-int_eq y x).0 e))
  by_test false e = false_from_ne_true (int_eq x y) (λ h. absurd (let t = (Decides-int_eq y x).1 (sym ((Decides-int_eq x y).0 h)) in cc))

-- two values of one variable cannot both be had
pub both_at : (x y value : ℤ) → (int_eq x y ≡ false) → (int_eq value x && int_eq value y) ≡ false
both_at x y value apart = by_test (int_eq value x) refl where
  by_test : (b : Bool) → int_eq value x ≡ b → (b && int_eq value y) ≡ false
  by_test false e = refl
  by_test true e = subst (λ z. int_eq z y ≡ false) (sym ((Decides-int_eq value x).0 e)) apart

-- one value, asked for twice
pub twice_at : (x y value : ℤ) → int_eq x y ≡ true → (int_eq value x && int_eq value y) ≡ int_eq value x
twice_at x y value e = ap (λ z. int_eq value x && int_eq value z) (sym ((Decides-int_eq x y).0 e)) ∙ once (int_eq value x) where
  once : (b : Bool) → (b && b) ≡ b
  once true = refl
  once false = refl

-- one of two reasons to put a mark is enough
pub either_mark : (a b mark other : Bool) → (if b then mark else (if a then mark else other)) ≡ (if a || b then mark else other)
either_mark true true mark other = refl
either_mark true false mark other = refl
either_mark false true mark other = refl
either_mark false false mark other = refl

-- the mark that is left, where this was told
pub told_mark : (found told : Bool) → (if found then not told else told) ≡ not (same found told)
told_mark true told = refl
told_mark false true = refl
told_mark false false = refl

-- the value at another place is another one
pub other_value : (values : List ℤ) (place k : ℕ) (value : ℤ) → IsRising values → place < length values → k < length values → own_at values place ≡ value → (k ≡ place → ⊥) → int_eq (own_at values k) value ≡ false
other_value values place k value rising inside within is apart = false_from_ne_true (int_eq (own_at values k) value) (λ h.
    let equal : own_at values k ≡ own_at values place = (Decides-int_eq (own_at values k) value).0 h ∙ sym is in
    elim (cases_order k place) [
      | inl at ↦ apart at
      | inr (inl before) ↦ let below : own_at values k <ℤ own_at values place = rising k place (pos 0) before inside in absurd (omega (arith, ints, below, equal))
      | inr (inr after) ↦ let below : own_at values place <ℤ own_at values k = rising place k (pos 0) after within in absurd (omega (arith, ints, below, equal))
    ])

-- a value that is none of these is at no place
pub no_value : (values : List ℤ) (k : ℕ) (value : ℤ) → has values value ≡ false → k < length values → int_eq (own_at values k) value ≡ false
no_value values k value none within = false_from_ne_true (int_eq (own_at values k) value) (λ h.
    let there = list_any-In (int_eq value) (own_at values k) values (In-get_or values k (pos 0) within) (int_eq-sym value (own_at values k) ∙ h) in
    let clash : false ≡ true = sym none ∙ there in absurd cc)

-- one mark is put, at the place of the value
pub one_put : (values : List ℤ) (marks new : List Bool) (place : ℕ) (value : ℤ) (mark : Bool) → IsRising values → length marks ≡ length values → place < length values → own_at values place ≡ value → new ≡ set marks place mark
    → (k : ℕ) → k < length values → slice_index_or new k false ≡ (if int_eq (own_at values k) value then mark else slice_index_or marks k false)
one_put values marks new place value mark rising size inside is put k within = elim (cases_eq k place) [
  | inl same ↦
      let there : place < length marks = omega (arith, size, inside) in
      let hit : int_eq (own_at values k) value ≡ true = (Decides-int_eq (own_at values k) value).1 (ap (own_at values) same ∙ is) in
      ap (λ (l : List Bool). get_or l k false) put ∙ ap (λ n. get_or (set marks place mark) n false) same ∙ get_or-set_same marks place mark false there ∙ sym (ap (λ b. if b then mark else get_or marks k false) hit)
  | inr apart ↦
      let miss = other_value values place k value rising inside within is apart in
      ap (λ (l : List Bool). get_or l k false) put ∙ get_or-set_other marks place k mark false apart ∙ sym (ap (λ b. if b then mark else get_or marks k false) miss)
]

-- grouping plays no part
pub and_group : (a b c : Bool) → ((a && b) && c) ≡ (a && (b && c))
and_group true b c = refl
and_group false b c = refl

-- the value of the term at a place
mapped : (vals : Term → ℤ) (terms : List Term) (place : ℕ) (d : Term) → place < length terms → argument (map vals terms) place ≡ vals (get_or terms place d)
mapped vals [] place d h = absurd (omega (arith, h))
mapped vals (t ∷ ts) zero d h = refl
mapped vals (t ∷ ts) (suc place) d h = mapped vals ts place d (omega (arith, h))

-- one entry more is compared
pub next_entry : (vals : Term → ℤ) (row table : List Term) (place entry : ℕ) (d e : Term) (old new here all : Bool) → place < length row → entry + length row ≤ length table
    → here ≡ int_eq (vals (get_or row place d)) (vals (get_or table (entry + place) e)) → new ≡ (old && here)
    → (old && stands_at int_eq (drop place (map vals row)) (map vals table) (entry + place)) ≡ all
    → (new && stands_at int_eq (drop (place + 1) (map vals row)) (map vals table) (entry + (place + 1))) ≡ all
next_entry vals row table place entry d e old new here all inside within is more before =
    let m = map vals row in
    let t = map vals table in
    let rest = stands_at int_eq (drop (place + 1) m) t (entry + (place + 1)) in
    let long : place < length m = omega (arith, inside, length-map row vals) in
    let there : entry + place < length table = omega (arith, inside, within) in
    let next : entry + place + 1 ≡ entry + (place + 1) = omega arith in
    let compared : int_eq (argument m place) (argument t (entry + place)) ≡ here = ap (λ z. int_eq z (argument t (entry + place))) (mapped vals row place d inside) ∙ ap (λ z. int_eq (vals (get_or row place d)) z) (mapped vals table (entry + place) e there) ∙ sym is in
    let opened : stands_at int_eq (drop place m) t (entry + place) ≡ (here && rest) =
    ap (λ (l : List ℤ). stands_at int_eq l t (entry + place)) (drop_more m place (pos 0) long)
    ∙ ap (λ n. int_eq (argument m place) (argument t (entry + place)) && stands_at int_eq (drop (place + 1) m) t n) next
    ∙ ap (λ b. b && rest) compared in
    ap (λ b. b && rest) more ∙ and_group old here rest ∙ sym (ap (λ b. old && b) opened) ∙ before

-- what never fits does not stand there
pub never : (old rest all : Bool) → old ≡ false → (old && rest) ≡ all → false ≡ all
never old rest all off h = sym (ap (λ b. b && rest) off) ∙ h

-- a table's marks are those of its rule
pub table_told : (k : ConstraintKind) (scalars first second s f t : List Term) (members : Members) (told : Bool) (var : ℕ) (known : PartialAssignment) (value : ℤ) (rule : Rule) → rule ≡ Plain k scalars first second members → s ≡ scalars → f ≡ first → t ≡ second
    → TellsTable k (values_at var known s value) told → is_off_table var known f t told value ≡ is_false rule var known value
table_told k scalars first second s f t members told var known value rule is a b c h =
    let here = subst (λ (l : List Term). TellsTable k (values_at var known l value) told) a h in
    ap (λ (l : List Term). is_off_table var known l t told value) b
    ∙ ap (λ (l : List Term). is_off_table var known first l told value) c
    ∙ ap not (sym (here (values_at var known first value) (values_at var known second value) (is_member members)))
    ∙ ap (λ (r : Rule). is_false r var known value) (sym is)
