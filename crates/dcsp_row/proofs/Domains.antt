-- Values of domains, and marks for them.
use Rattle.std.proofs.Common.{◌≡◌, ℕ, ◌+◌, ◌<◌, arith, set, cond, Bool, false, List, length, get_or, Some, ℤ, sym, ap, subst, ◌∙◌, inl, inr}
use Rattle.std.specs.Prelude.{slice_get, unwrap_or}
use Rattle.std.proofs.lemmas.Bool.{cases_eq}
use Rattle.std.proofs.lemmas.List.{length-set, get_or-set_same, get_or-set_other}
use Rattle.std.proofs.lemmas.Bool.Decides.{eqb_tells}
use Rattle.std.proofs.lemmas.Option.{unwrap_or-slice_get}
use Rattle.dcsp_defs.specs.Words.{In}
use Rattle.dcsp_defs.specs.Csp.{Csp, PartialAssignment, domain, with_value}
use Rattle.dcsp_rule.specs.Problems.{AreInDomains}
use Rattle.dcsp_row.specs.Rows.{own_at, MarksBelow}

-- a view's values with one of the agent's domain
pub own_in_domains : (p : Csp) (agent : ℕ) (v : ℤ) (known : PartialAssignment) → In v (domain p agent) → AreInDomains p known → AreInDomains p (with_value agent v known)
own_in_domains p agent v known there all var w l e = elim (eqb_tells var agent) [
  | inl t ↦
      let some : Some v ≡ Some w = sym (ap (λ b. cond b (Some v) (known var)) t.0) ∙ e in
      let same : v ≡ w = cc in
      subst (λ z. In w (domain p z)) (sym t.1) (subst (λ z. In z (domain p agent)) same there)
  | inr t ↦ all var w l (sym (ap (λ b. cond b (Some v) (known var)) t.0) ∙ e)
]

-- what stands at a place
pub get_or_found : {X : Type 0} (xs : List X) (k : ℕ) (x d : X) → slice_get xs k ≡ Some x → get_or xs k d ≡ x
get_or_found xs k x d e = sym (unwrap_or-slice_get xs k d) ∙ ap (λ o. unwrap_or o d) e

-- one value more has its mark
pub one_marked : (test : ℤ → Bool) (values : List ℤ) (place : ℕ) (row new : List Bool) (mark : Bool) → MarksBelow test values place row → place < length values → new ≡ set row place mark → mark ≡ test (own_at values place)
    → MarksBelow test values (place + 1) new
one_marked test values place row new mark before inside is right =
    let size = before.0 in
    let within : place < length row = omega arith in
    subst (MarksBelow test values (place + 1)) (sym is) (
      length-set row place mark ∙ size,
      λ k l. elim (cases_eq k place) [
        | inl same ↦ ap (λ n. get_or (set row place mark) n false) same ∙ get_or-set_same row place mark false within ∙ right ∙ sym (ap (λ n. test (own_at values n)) same)
        | inr apart ↦ let early : k < place = omega arith in get_or-set_other row place k mark false apart ∙ before.1 k early
      ],
    )
