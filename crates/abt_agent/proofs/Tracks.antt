-- The reasons are kept up with view and store.
use Rattle.std.proofs.Common.{◌≡◌, ◌≢◌, ℕ, ◌<◌, Bool, cond, List, Option, Some, length, refl, sym, ap, subst, ◌∙◌, inl, inr}
use Rattle.std.specs.Prelude.{filter}
use Rattle.std.proofs.lemmas.Bool.{cases_eq, ne_eqb, eq-eqb}
use Rattle.std.proofs.lemmas.Bool.Decides.{eqb_tells}
use Rattle.std.proofs.Math.Path.{fun_ext}
use Rattle.dcsp_defs.specs.Words.{In, update}
use Rattle.dcsp_defs.specs.Csp.{Csp, PartialAssignment, domain}
use Rattle.abt_defs.specs.Agents.{Stamped, View, values_in, value_in}
use Rattle.abt_defs.specs.Steps.{is_newer}
use Rattle.dcsp_rule.specs.Problems.{AreInDomains}
use Rattle.abt_parts.specs.declared.recorded.Recorded.{Recorded}
use Rattle.abt_parts.specs.declared.view.StampedValue.{StampedValue}
use Rattle.abt_parts.specs.Views.{stamped_in, told_at, view_of, Slots}
use Rattle.abt_parts.specs.Stores.{fits}
use Rattle.abt_reason.specs.Cached.{Cached, StandsFor, StoodBefore}
use Rattle.abt_reason.proofs.AfterLaws.{all_left}
use Rattle.abt_parts.specs.Outgoing.{IsStampedView}

module _ (old new : View) (from : ℕ) (s : Stamped) (e : new ≡ update old from (Some s)) where
  at : (k : ℕ) → new k ≡ update old from (Some s) k
  at k = ap (λ (f : View). f k) e

  pub new_domains : (p : Csp) → In s.value (domain p from) → AreInDomains p (values_in old) → AreInDomains p (values_in new)
  new_domains p there all var v l g = elim (eqb_tells var from) [
    | inl t ↦
        let some : Some s.value ≡ Some v = sym (ap (λ b. value_in (cond b (Some s) (old var))) t.0) ∙ sym (ap value_in (at var)) ∙ g in
        let same : s.value ≡ v = cc in
        subst (λ z. In v (domain p z)) (sym t.1) (subst (λ z. In z (domain p from)) same there)
    | inr t ↦ all var v l (sym (ap (λ b. value_in (cond b (Some s) (old var))) t.0) ∙ sym (ap value_in (at var)) ∙ g)
  ]

  pub new_stamps : 0 < s.stamp → IsStampedView old → IsStampedView new
  new_stamps positive all k t g = elim (eqb_tells k from) [
    | inl u ↦
        let some : Some s ≡ Some t = sym (ap (λ b. cond b (Some s) (old k)) u.0) ∙ sym (at k) ∙ g in
        let same : s ≡ t = cc in
        subst (λ (z : Stamped). 0 < z.stamp) same positive
    | inr u ↦ all k t (sym (ap (λ b. cond b (Some s) (old k)) u.0) ∙ sym (at k) ∙ g)
  ]

  same_others : (k : ℕ) → k ≢ from → values_in old k ≡ values_in new k
  same_others k ne = sym (ap (λ b. value_in (cond b (Some s) (old k))) (ne_eqb k from ne)) ∙ sym (ap value_in (at k))

  new_value : values_in new from ≡ Some s.value
  new_value = ap value_in (at from) ∙ ap (λ b. value_in (cond b (Some s) (old from))) (eq-eqb from from refl)

  pub stood_before : (r : Cached) (before items : List Recorded) → StandsFor r (values_in old) before → items ≡ filter (fits from s.value) before → StoodBefore r from (values_in new) items
  stood_before r before items stood left = record {
    known_before = values_in old;
    items_before = before;
    stood = stood;
    others = same_others;
    left = inr (s.value, new_value, left);
  }

  -- where the value was known, all values are as they were
  same_values : values_in old from ≡ Some s.value → values_in old ≡ values_in new
  same_values was = fun_ext (λ k. elim (cases_eq k from) [
    | inl same ↦ ap (values_in old) same ∙ was ∙ sym new_value ∙ sym (ap (values_in new) same)
    | inr other ↦ same_others k other
  ])

  -- and where nothing was forgotten, the reasons are those that they were
  pub stands_still : (r : Cached) (before items : List Recorded) → StandsFor r (values_in old) before → items ≡ filter (fits from s.value) before
      → values_in old from ≡ Some s.value → length items ≡ length before → StandsFor r (values_in new) items
  stands_still r before items stood left was size =
      let same : items ≡ before = left ∙ all_left (fits from s.value) before (sym (ap length left) ∙ size) in
      subst (λ (known : PartialAssignment). StandsFor r known items) (same_values was) (subst (λ (xs : List Recorded). StandsFor r (values_in old) xs) (sym same) stood)

-- the view after something was told, where it is known whether that is newer
pub heard : (slots : Slots) (from stamp : ℕ) (before : Option StampedValue) (newer : Bool) (x y z : View) → before ≡ told_at slots from → newer ≡ is_newer (stamped_in before) stamp
    → z ≡ cond (is_newer (view_of slots from) stamp) x y → z ≡ cond newer x y
heard slots from stamp before newer x y z was is e = e ∙ ap (λ b. cond b x y) (sym (is ∙ ap (λ o. is_newer (stamped_in o) stamp) was))
