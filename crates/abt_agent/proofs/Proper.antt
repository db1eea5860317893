-- Nogoods whose lowest agent is one given.
use Rattle.std.proofs.Common.{◌≡◌, ◌||◌, ℕ, suc, ◌+◌, ◌-◌, ◌<◌, ◌≤◌, List, [], ◌∷◌, length, Option, Some, None, ℤ, refl, sym, ap, subst, ◌∙◌, arith, inl, inr, slice_get}
use Rattle.std.specs.Option.{option_map}
use Rattle.std.proofs.lemmas.Bool.Decides.{eqb_tells}
use Rattle.dcsp_defs.specs.declared.nogood.Pair.{Pair}
use Rattle.dcsp_defs.specs.Pairs.{value_at, var_at, IsRising as PairsRise}
use Rattle.dcsp_defs.specs.Words.{In, IsRising, is_value}
use Rattle.dcsp_defs.specs.Csp.{Csp, names}
use Rattle.abt_defs.specs.Agents.{Record}
use Rattle.abt_defs.specs.Steps.{is_refused}
use Rattle.law_agent.specs.OneAgent.{Proper}
use Rattle.dcsp_rule.specs.Problems.{Contents, csp_of}
use Rattle.abt_parts.specs.declared.recorded.Recorded.{Recorded}
use Rattle.abt_parts.specs.Stores.{record_of, records_of, lowest_value, is_ruled_out}
use Rattle.abt_reason.specs.Kept.{IsOwn}
use Rattle.abt_agent.specs.States.{IsNogoodFor}
use Rattle.abt_parts.proofs.Members.{In-map}

-- the pair at the lowest place
abbrev pub lowest_var : List Pair → Option ℕ
lowest_var pairs = option_map (λ (pair : Pair). pair.var) (slice_get pairs (length pairs - 1))

tail_rises : (y : Pair) (ys : List Pair) → PairsRise (y ∷ ys) → PairsRise ys
tail_rises y ys h k l =
    let e : suc k + 1 ≡ suc (k + 1) = omega arith in
    subst (λ (n : ℕ). var_at (y ∷ ys) (suc k) < var_at (y ∷ ys) n) e (h (suc k) (omega arith))

-- places that rise are variables that rise
pub names_rise : (pairs : List Pair) → PairsRise pairs → IsRising (names pairs)
names_rise [] h = tt
names_rise (y ∷ []) h = (λ k u. absurd u, tt)
names_rise (y ∷ z ∷ zs) h =
    let later = names_rise (z ∷ zs) (tail_rises y (z ∷ zs) h) in
    let first : y.var < z.var = h 0 (omega arith) in
    (λ k u. elim u [ inl e ↦ omega arith | inr v ↦ let l = later.0 k v in omega arith ], later)

tail_lowest : (y z : Pair) (zs : List Pair) → slice_get (y ∷ z ∷ zs) (length (y ∷ z ∷ zs) - 1) ≡ slice_get (z ∷ zs) (length (z ∷ zs) - 1)
tail_lowest y z zs = let e : suc (suc (length zs)) - 1 ≡ suc (suc (length zs) - 1) = omega arith in ap (λ (n : ℕ). slice_get (y ∷ z ∷ zs) n) e

-- no variable is lower than that of the lowest pair
pub none_lower : (pairs : List Pair) (i : ℕ) → IsRising (names pairs) → lowest_var pairs ≡ Some i → (y : Pair) → In y pairs → y.var ≤ i
none_lower [] i r e y u = absurd u
none_lower (x ∷ []) i r e y (inl s) = let same : x.var ≡ i = cc in let v : y.var ≡ x.var = ap (λ (p : Pair). p.var) s in omega arith
none_lower (x ∷ []) i r e y (inr u) = absurd u
none_lower (x ∷ z ∷ zs) i r e y u =
    let rest = sym (ap (option_map (λ (p : Pair). p.var)) (tail_lowest x z zs)) ∙ e in
    elim u [
      | inl s ↦ let v : y.var ≡ x.var = ap (λ (p : Pair). p.var) s in let a = none_lower (z ∷ zs) i r.1 rest z (inl refl) in let b = r.0 z.var (inl refl) in omega arith
      | inr w ↦ none_lower (z ∷ zs) i r.1 rest y w
    ]

-- the value for the lowest agent is that of the lowest pair
pub lowest_given : (pairs : List Pair) (i : ℕ) → IsRising (names pairs) → lowest_var pairs ≡ Some i → value_at pairs i ≡ lowest_value pairs
lowest_given [] i r e = refl
lowest_given (x ∷ []) i r e = elim (eqb_tells i x.var) [
  | inl t ↦ rw t.0 refl
  | inr t ↦ let same : x.var ≡ i = cc in absurd (t.1 (sym same))
]
lowest_given (x ∷ z ∷ zs) i r e =
    let rest = sym (ap (option_map (λ (p : Pair). p.var)) (tail_lowest x z zs)) ∙ e in
    let a = none_lower (z ∷ zs) i r.1 rest z (inl refl) in
    let b = r.0 z.var (inl refl) in
    elim (eqb_tells i x.var) [
      | inl t ↦ let s = t.1 in absurd (omega arith)
      | inr t ↦ rw t.0 (lowest_given (z ∷ zs) i r.1 rest ∙ sym (ap (option_map (λ (p : Pair). p.value)) (tail_lowest x z zs)))
    ]

own_value : (pairs : List Pair) (i : ℕ) → lowest_var pairs ≡ Some i → (v : ℤ) × (lowest_value pairs ≡ Some v)
own_value pairs i e = by_pair (slice_get pairs (length pairs - 1)) e
  where
    by_pair : (o : Option Pair) → option_map (λ (p : Pair). p.var) o ≡ Some i → (v : ℤ) × (option_map (λ (p : Pair). p.value) o ≡ Some v)
    by_pair None f = cc
    by_pair (Some p) f = (p.value, refl)

-- a nogood that may come is proper
pub proper_nogood : (p : Contents) (i : ℕ) (nogood : List Pair) (stamps : List ℕ) → i < length p.domains → PairsRise nogood → IsNogoodFor p i nogood stamps → Proper (csp_of p) i nogood
proper_nogood p i nogood stamps l up h =
    let rises = names_rise nogood up in
    let own = own_value nogood i h.lowest in
    let low = none_lower nogood i rises h.lowest in
    record {
      rising = rises;
      own = own.0;
      has = lowest_given nogood i rises h.lowest ∙ own.1;
      others = low;
      in_domains = λ y u. record { variable = (let a = low y u in omega arith); value = h.values y u };
    }

-- of a proper nogood the lowest variable is the agent
lowest_of : (p : Csp) (i : ℕ) (pairs : List Pair) → IsRising (names pairs) → ((y : Pair) → In y pairs → y.var ≤ i) → (own : ℤ) → value_at pairs i ≡ Some own → lowest_value pairs ≡ Some own
lowest_of p i [] r low own e = cc
lowest_of p i (x ∷ []) r low own e = elim (eqb_tells i x.var) [
  | inl t ↦ rw t.0 at e
  | inr t ↦ let none : None ≡ Some own = rw t.0 at e in cc
]
lowest_of p i (x ∷ z ∷ zs) r low own e =
    let a = r.0 z.var (inl refl) in
    let b = low z (inr (inl refl)) in
    ap (option_map (λ (p : Pair). p.value)) (tail_lowest x z zs)
    ∙ elim (eqb_tells i x.var) [
      | inl t ↦ let s = t.1 in absurd (omega arith)
      | inr t ↦ lowest_of p i (z ∷ zs) r.1 (λ y u. low y (inr u)) own (rw t.0 at e)
    ]

pub lowest_proper : (p : Csp) (i : ℕ) (pairs : List Pair) → Proper p i pairs → lowest_value pairs ≡ value_at pairs i
lowest_proper p i pairs h = lowest_of p i pairs h.rising h.others h.own h.has ∙ sym h.has

-- so the two tests of a value for which a nogood is kept are one
pub refused_same : (p : Csp) (i : ℕ) (kept : List Recorded) (v : ℤ) → ((x : Record) → In x (records_of kept) → Proper p i x.pairs) → is_refused i (records_of kept) (Some v) ≡ is_ruled_out v kept
refused_same p i [] v h = refl
refused_same p i (x ∷ xs) v h =
    ap (λ o. is_value o v || is_refused i (records_of xs) (Some v)) (sym (lowest_proper p i x.nogood (h (record_of x) (inl refl))))
    ∙ ap (λ b. is_value (lowest_value x.nogood) v || b) (refused_same p i xs v (λ y u. h y (inr u)))

-- of a proper nogood the lowest variable is the agent
lowest_at : (i : ℕ) (pairs : List Pair) → IsRising (names pairs) → ((y : Pair) → In y pairs → y.var ≤ i) → (own : ℤ) → value_at pairs i ≡ Some own → lowest_var pairs ≡ Some i
lowest_at i [] r low own e = cc
lowest_at i (x ∷ []) r low own e = elim (eqb_tells i x.var) [
  | inl t ↦ ap Some (sym t.1)
  | inr t ↦ let none : None ≡ Some own = rw t.0 at e in cc
]
lowest_at i (x ∷ z ∷ zs) r low own e =
    let a = r.0 z.var (inl refl) in
    let b = low z (inr (inl refl)) in
    ap (option_map (λ (p : Pair). p.var)) (tail_lowest x z zs)
    ∙ elim (eqb_tells i x.var) [
      | inl t ↦ let s = t.1 in absurd (omega arith)
      | inr t ↦ lowest_at i (z ∷ zs) r.1 (λ y u. low y (inr u)) own (rw t.0 at e)
    ]

pub own_lowest : (p : Csp) (i : ℕ) (pairs : List Pair) → Proper p i pairs → lowest_var pairs ≡ Some i
own_lowest p i pairs h = lowest_at i pairs h.rising h.others h.own h.has

pub proper_own : (p : Csp) (i : ℕ) (kept : List Recorded) → ((x : Record) → In x (records_of kept) → Proper p i x.pairs) → (x : Recorded) → In x kept → IsOwn i x
proper_own p i kept h x u = own_lowest p i x.nogood (h (record_of x) (In-map record_of x kept u))
