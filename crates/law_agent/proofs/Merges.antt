-- The derived nogood is the union of what the reasons contribute.
use Rattle.std.proofs.Common.{◌≡◌, ◌≢◌, ℕ, ◌<◌, Bool, true, false, cond, ◌⊎◌, inl, inr, List, [], ◌∷◌, map, filter, ◌==◌, Option, Some, None, ℤ, is_some, refl, sym, ap, ◌∙◌, subst, arith}
use Rattle.std.proofs.lemmas.Bool.Decides.{eqb_tells}
use Rattle.std.proofs.lemmas.Bool.{eqb-true}
use Rattle.std.specs.List.{list_any, cons_option, enumerate_from}
use Rattle.std.specs.Option.{option_map}
use Rattle.dcsp_defs.specs.declared.nogood.Pair.{Pair}
use Rattle.dcsp_defs.specs.Pairs.{value_at, pair_of}
use Rattle.dcsp_defs.specs.Words.{In, below}
use Rattle.dcsp_defs.specs.Csp.{Csp, IsCsp, Constraint, PartialAssignment, Nogood, names, owns, domain}
use Rattle.dcsp_defs.proofs.Lists.{In-map, In-split, In-below, In-filter_map, In-list_any, find-found, get-In, filter-from}
use Rattle.abt_defs.specs.Agents.{Agent, Record, Stamped, plain, known, value_in}
use Rattle.abt_defs.specs.Reasons.{Item, items, constraint_item, record_item, known_pairs, cause, causes, blamed, derived}
use Rattle.abt_defs.specs.Network.{run, start}
use Rattle.law_agent.proofs.Nogoods.{In-map-from, In-plain, value_at-In}
use Rattle.law_agent.proofs.Owners.{owner_greatest}
use Rattle.law_agent.proofs.Facts.{Sound}
use Rattle.law_agent.proofs.Settles.{blamed-some}
use Rattle.law_agent.proofs.Sounds.{sounds}
use Rattle.law_agent.specs.Merges.{IsUnionOfReasons, MergesAreUnions}
use Rattle.law_agent.proofs.Reasons.{derived_given, enumerate-at, seen_is}

-- what the pairs of a scope give a variable is what is known of it
known_pairs-is : (known : PartialAssignment) (scope : List ℕ) (k : ℕ) (v : ℤ) → value_at (known_pairs known scope) k ≡ Some v → In k scope × (known k ≡ Some v)
known_pairs-is known [] k v h = cc
known_pairs-is known (x ∷ xs) k v h = by_value (known x) refl (λ g. known_pairs-is known xs k v g) h
  where
    by_value : (o : Option ℤ) → known x ≡ o → (value_at (known_pairs known xs) k ≡ Some v → In k xs × (known k ≡ Some v)) → value_at (cons_option (option_map (pair_of x) o) (known_pairs known xs)) k ≡ Some v → In k (x ∷ xs) × (known k ≡ Some v)
    by_value None e ih g = let r = ih g in (inr r.0, r.1)
    by_value (Some w) e ih g = elim (eqb_tells k x) [
      | inl t ↦ let s : Some w ≡ Some v = rw t.0 at g in (inl t.1, ap known t.1 ∙ e ∙ s)
      | inr t ↦ let r = ih (rw t.0 at g) in (inr r.0, r.1)
    ]

-- the pairs of the rest, behind another variable's
behind_other : (x k : ℕ) (o : Option ℤ) (rest : Nogood) (v : ℤ) → (k == x) ≡ false → value_at rest k ≡ Some v → value_at (cons_option (option_map (pair_of x) o) rest) k ≡ Some v
behind_other x k None rest v ne g = g
behind_other x k (Some w) rest v ne g = rw ne g

known_pairs-has : (known : PartialAssignment) (scope : List ℕ) (k : ℕ) (v : ℤ) → In k scope → known k ≡ Some v → value_at (known_pairs known scope) k ≡ Some v
known_pairs-has known [] k v h e = absurd h
known_pairs-has known (x ∷ xs) k v h e = elim (eqb_tells k x) [
  | inl t ↦ let here : known x ≡ Some v = ap known (sym t.1) ∙ e in rw here (rw t.0 refl)
  | inr t ↦ behind_other x k (known x) (known_pairs known xs) v t.0 (elim h [ inl same ↦ absurd (t.1 same) | inr u ↦ known_pairs-has known xs k v u e ])
]

-- a named variable has a value
named_value : (pairs : Nogood) (k : ℕ) → In k (names pairs) → (v : ℤ) × (value_at pairs k ≡ Some v)
named_value [] k h = absurd h
named_value (y ∷ ys) k h = elim (eqb_tells k y.var) [
  | inl t ↦ (y.value, rw t.0 refl)
  | inr t ↦ elim h [ inl same ↦ absurd (t.1 same) | inr u ↦ let r = named_value ys k u in (r.0, rw t.0 r.1) ]
]

module _ (p : Csp) (ok : IsCsp p) (i : ℕ) (a : Agent) (h : Sound p i a) where
  -- a cause is a constraint that i owns, or a recorded nogood
  pub cause_item : (x : Item) → In x (causes p i (known a) a.recorded)
      → ((c : ℕ × Constraint) × In c.1 p.constraints × (owns i c.1 ≡ true) × (x ≡ constraint_item c)) ⊎ ((r : Record) × In r a.recorded × (x ≡ record_item r))
  cause_item x u =
      let m = In-filter_map (cause p i (known a) a.recorded) x (domain p i) u in
      let f = find-found _ x (items p i a.recorded) m.2 in
      elim (In-split x (map constraint_item (filter (λ (c : ℕ × Constraint). owns i c.1) (enumerate_from 0 p.constraints))) (map record_item a.recorded) f.0) [
        | inl v ↦
            let r = In-map-from constraint_item x _ v in
            let o = filter-from (λ (c : ℕ × Constraint). owns i c.1) r.0 (enumerate_from 0 p.constraints) r.1 in
            let q = enumerate-at 0 p.constraints r.0 o.0 in
            inl (r.0, get-In p.constraints q.0 r.0.1 q.2, o.1, r.2)
        | inr v ↦ let r = In-map-from record_item x a.recorded v in inr (r.0, r.1, r.2)
      ]

  -- what a cause contributes of another variable is what the view has of it, and the cause names it
  pub contributes : (x : Item) → In x (causes p i (known a) a.recorded) → (k : ℕ) (v : ℤ) → k ≢ i → value_at (x.pairs (known a)) k ≡ Some v
      → (k < i) × In k x.variables × (known a k ≡ Some v)
  contributes x u k v ne e = elim (cause_item x u) [
    | inl c ↦
        let f : value_at (known_pairs (known a) c.0.1.scope) k ≡ Some v = ap (λ (z : Item). value_at (z.pairs (known a)) k) (sym c.3) ∙ e in
        let r = known_pairs-is (known a) c.0.1.scope k v f in
        let l = owner_greatest p ok i k c.0.1 c.1 c.2 r.0 in
        let at : In k x.variables = subst (λ (z : Item). In k z.variables) (sym c.3) r.0 in
        (omega arith, at, r.1)
    | inr c ↦
        let f : value_at c.0.pairs k ≡ Some v = ap (λ (z : Item). value_at (z.pairs (known a)) k) (sym c.2) ∙ e in
        let y = value_at-In c.0.pairs k v f in
        let l = (h.proper c.0 c.1).others (pair_of k v) y in
        let at : In k x.variables = subst (λ (z : Item). In k z.variables) (sym c.2) (In-map (λ (z : Pair). z.var) (pair_of k v) c.0.pairs y) in
        elim (h.agreeing c.0 c.1 (pair_of k v) y) [ inl same ↦ absurd (ne same) | inr seen ↦ (omega arith, at, seen) ]
  ]

  -- what a cause names, it contributes as the view has it
  pub contributed : (x : Item) → In x (causes p i (known a) a.recorded) → (k : ℕ) (v : ℤ) → k ≢ i → In k x.variables → known a k ≡ Some v → value_at (x.pairs (known a)) k ≡ Some v
  contributed x u k v ne n e = elim (cause_item x u) [
    | inl c ↦ ap (λ (z : Item). value_at (z.pairs (known a)) k) c.3 ∙ known_pairs-has (known a) c.0.1.scope k v (subst (λ (z : Item). In k z.variables) c.3 n) e
    | inr c ↦
        let r = named_value c.0.pairs k (subst (λ (z : Item). In k z.variables) c.2 n) in
        let y = value_at-In c.0.pairs k r.0 r.1 in
        elim (h.agreeing c.0 c.1 (pair_of k r.0) y) [
          | inl same ↦ absurd (ne same)
          | inr seen ↦ ap (λ (z : Item). value_at (z.pairs (known a)) k) c.2 ∙ r.1 ∙ sym seen ∙ e
        ]
  ]

  -- a pair of the derived nogood is one that a cause names
  derived_by : (k : ℕ) (v : ℤ) → value_at (plain (derived p i a.view a.recorded)) k ≡ Some v → (x : Item) × In x (causes p i (known a) a.recorded) × (k < i) × In k x.variables × (known a k ≡ Some v)
  derived_by k v e =
      let y = In-plain (derived p i a.view a.recorded) (pair_of k v) (value_at-In (plain (derived p i a.view a.recorded)) k v e) in
      let m = In-filter_map (blamed p i a.view a.recorded) y.0 (below i) y.1 in
      let b = blamed-some p i a m.0 y.0 m.2 in
      let at : k ≡ y.0.0 = ap (λ (t : Pair). t.var) y.2 in
      let is : v ≡ y.0.1.value = ap (λ (t : Pair). t.value) y.2 in
      let l = In-below i m.0 m.1 in
      let same : k ≡ m.0 = at ∙ b.0 in
      let seen : known a k ≡ Some v = ap (known a) same ∙ ap value_in b.1 ∙ ap Some (sym is) in
      let c = by_test (list_any (λ (x : Item). list_any (λ z. m.0 == z) x.variables) (causes p i (known a) a.recorded)) _ _ m.2 in
      let x = In-list_any (λ (x : Item). list_any (λ z. m.0 == z) x.variables) (causes p i (known a) a.recorded) c in
      let z = In-list_any (λ z. m.0 == z) x.0.variables x.2 in
      (x.0, x.1, omega arith, subst (λ n. In n x.0.variables) (sym (same ∙ eqb-true m.0 z.0 z.2)) z.1, seen)
    where
      by_test : (b : Bool) (o : Option (ℕ × Stamped)) (y : ℕ × Stamped) → cond b o None ≡ Some y → b ≡ true
      by_test true o y f = refl
      by_test false o y f = cc

  pub union_of_reasons : IsUnionOfReasons p i a
  union_of_reasons = record {
    agree = λ x y u w k ne v t e f.
        let one = contributes x u k v ne e in let other = contributes y w k t ne f in
        let both : Some v ≡ Some t = sym one.2 ∙ other.2 in cc;
    has = λ x u k v ne e.
        let c = contributes x u k v ne e in
        let s = seen_is (a.view k) (ap (λ (o : Option ℤ). is_some o) c.2) in
        let g = derived_given p i a k s.0 x c.0 u c.1 s.1 in
        let same : Some s.0.value ≡ Some v = sym (ap value_in s.1) ∙ c.2 in
        g ∙ same;
    only = λ k v e.
        let d = derived_by k v e in
        let ne : k ≢ i = λ same. let l = d.2 in omega arith in
        (d.0, d.1, ne, contributed d.0 d.1 k v ne d.3 d.4);
  }

pub merges_are_unions : (p : Csp) → MergesAreUnions p
merges_are_unions p ok cs i = union_of_reasons p ok i ((run p cs (start p)).agents i) ((sounds p ok cs).sound i)
