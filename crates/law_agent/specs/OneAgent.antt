-- What always holds of one agent, whatever came to it.
use Rattle.std.specs.Prelude.{◌≡◌, ◌≢◌, ℕ, ◌<◌, ◌≤◌, true, ◌⊎◌, List, [], ◌∷◌, Some, ℤ}
use Rattle.dcsp_defs.specs.declared.nogood.Pair.{Pair}
use Rattle.dcsp_defs.specs.Pairs.{value_at}
use Rattle.dcsp_defs.specs.Words.{In, IsRising}
use Rattle.dcsp_defs.specs.Csp.{Csp, Constraint, Nogood, names, domain, count, owns}
use Rattle.dcsp_defs.specs.Derivation.{IsKnownPair}
use Rattle.abt_defs.specs.Agents.{Agent, Record, Stamped, known}

-- a nogood whose lowest agent is j, with values of the domains
pub record Proper (p : Csp) (j : ℕ) (pairs : Nogood) : Type 0 where
  pub rising : IsRising (names pairs)
  pub own : ℤ
  pub has : value_at pairs j ≡ Some own
  pub others : (y : Pair) → In y pairs → y.var ≤ j
  pub in_domains : (y : Pair) → In y pairs → IsKnownPair p y

-- no two of the nogoods have the same value for i
abbrev pub Distinct : ℕ → List Record → Type 0
Distinct i [] = Unit {0}
Distinct i (x ∷ xs) = ((y : Record) → In y xs → value_at x.pairs i ≢ value_at y.pairs i) × Distinct i xs

-- each recorded nogood has the view's values at other agents than i
abbrev pub Agreeing : ℕ → Agent → Type 0
Agreeing i a = (x : Record) → In x a.recorded → (y : Pair) → In y x.pairs → (y.var ≡ i) ⊎ (known a y.var ≡ Some y.value)

-- what always holds of agent i
pub record Sound (p : Csp) (i : ℕ) (a : Agent) : Type 0 where
  pub in_domain : (v : ℤ) → a.value ≡ Some v → In v (domain p i)
  pub stamped : (v : ℤ) → a.value ≡ Some v → 0 < a.stamp
  pub in_view : (k : ℕ) (s : Stamped) → a.view k ≡ Some s → (k < count p) × In s.value (domain p k)
  pub proper : (x : Record) → In x a.recorded → Proper p i x.pairs
  pub agreeing : Agreeing i a
  pub distinct : Distinct i a.recorded
  pub higher : (k : ℕ) → a.linked k ≡ true → k < i
  pub constraints : (c : Constraint) → In c p.constraints → owns i c ≡ true → (k : ℕ) → In k c.scope → (k ≡ i) ⊎ (a.linked k ≡ true)
  pub lower : (j : ℕ) → a.tells j ≡ true → j < count p
