-- A rule of which it is known that it names one agent beside its owner.
use Rattle.std.proofs.Common.{◌≡◌, ◌≢◌, ℕ, ◌<◌, Bool, false, ◌&&◌, ◌||◌, cond, nat_lt, eqb, List, [], ◌∷◌, Option, Some, None, sym, ap, subst, ◌∙◌, arith, inl, inr}
use Rattle.std.specs.Option.{IfSome}
use Rattle.std.proofs.Math.Bool.{or-false}
use Rattle.std.proofs.lemmas.Bool.{cases_lt, ne_eqb}
use Rattle.std.proofs.lemmas.Bool.Decides.{eqb_tells, nat_tests}
use Rattle.abt_defs.specs.Agents.{is_among}
use Rattle.dcsp_rule.specs.Problems.{Contents, constraint_at}
use Rattle.abt_parts.specs.declared.recorded.Recorded.{Recorded}
use Rattle.abt_reason.specs.declared.grid.ValueRun.{ValueRun}
use Rattle.abt_reason.specs.Named.{only_other}
use Rattle.abt_reason.specs.Cached.{Cached, owned_at, IsOtherIn}
use Rattle.abt_agent.specs.declared.search.Cause.{Cause}
use Rattle.abt_agent.specs.declared.search.Cause.TheVariants.{OwnedRule}
use Rattle.abt_agent.specs.Causes.{blames_one, NamesOther}

-- a scope of which one other variable is told has no further one
only_names : (agent : ℕ) (scope : List ℕ) (var : ℕ) → only_other agent scope ≡ Some var → (k : ℕ) → k ≢ agent → is_among k scope ≡ eqb k var
only_names agent [] var e k apart = absurd (cc)
only_names agent (a ∷ []) var e k apart = absurd (cc)
only_names agent (a ∷ b ∷ []) var e k apart = elim (eqb_tells b agent) [
  | inl t ↦
      let some : Some a ≡ Some var = sym (ap (λ z. cond z (Some a) None) t.0) ∙ e in
      let same : a ≡ var = cc in
      let other : eqb k b ≡ false = ne_eqb k b (λ is. apart (is ∙ t.1)) in
      ap (λ z. eqb k a || (z || false)) other ∙ or-false (eqb k a) ∙ ap (eqb k) same
  | inr t ↦ let none : None ≡ Some var = sym (ap (λ z. cond z (Some a) None) t.0) ∙ e in absurd (cc)
]
only_names agent (a ∷ b ∷ c ∷ rest) var e k apart = absurd (cc)

-- what is told of the run's rule holds of the cause
pub names_other : (p : Contents) (me : ℕ) (kept : List Recorded) (r : Cached) (run : ValueRun) (cause : Option Cause) (other : Option ℕ) (count : ℕ) → r.problem ≡ p → r.agent ≡ me → count ≡ me
    → IfSome other (IsOtherIn r run) → ((at : ℕ) → run.first ≡ Some at → cause ≡ Some (OwnedRule (owned_at r at))) → IfSome cause (λ x. NamesOther p kept count x other)
names_other p me kept r run None other count problem agent size is rule = tt
names_other p me kept r run (Some x) other count problem agent size is rule = λ var some k below.
    let o : IsOtherIn r run var = subst (λ (z : Option ℕ). IfSome z (IsOtherIn r run)) some is in
    let cause : Some x ≡ Some (OwnedRule (owned_at r o.at)) = rule o.at o.first in
    let same : x ≡ OwnedRule (owned_at r o.at) = cc in
    let apart : k ≢ r.agent = λ e. absurd (omega (arith, below, size, agent, e)) in
    ap (λ (y : Cause). blames_one p kept y k) same ∙ ap (λ (q : Contents). is_among k (constraint_at q (owned_at r o.at)).scope) (sym problem)
    ∙ only_names r.agent (constraint_at r.problem (owned_at r o.at)).scope var o.other k apart

-- tests that agree below a bound
pub below_alike : (k bound : ℕ) (a b : Bool) → (k < bound → a ≡ b) → (nat_lt k bound && a) ≡ (nat_lt k bound && b)
below_alike k bound a b same = elim (cases_lt k bound) [
  | inl low ↦ ap (λ z. nat_lt k bound && z) (same low)
  | inr high ↦ let no : nat_lt k bound ≡ false = grind (arith, nat_tests) in ap (λ z. z && a) no ∙ sym (ap (λ z. z && b) no)
]
