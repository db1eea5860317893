-- A nogood that fits the view agrees with it where the agent has the value of its lowest pair.
use Rattle.std.proofs.Common.{◌≡◌, ◌≢◌, ℕ, ◌<◌, ◌≤◌, Bool, true, false, cond, not, ◌&&◌, ◌||◌, List, [], ◌∷◌, Some, ℤ, nat_lt, inl, inr, refl, sym, ap, ◌∙◌, arith}
use Rattle.std.proofs.lemmas.Bool.{ne_eqb, eq-eqb}
use Rattle.std.proofs.lemmas.Bool.Decides.{eqb_tells, Decides-ltb, Decides-int_eq}
use Rattle.dcsp_defs.specs.declared.nogood.Pair.{Pair}
use Rattle.dcsp_defs.specs.Pairs.{value_at}
use Rattle.dcsp_defs.specs.Words.{In, IsRising, is_value}
use Rattle.dcsp_defs.specs.Csp.{Csp, agrees, names, with_value}
use Rattle.abt_defs.specs.Agents.{Agent, known}
use Rattle.abt_defs.specs.Steps.{fits}
use Rattle.law_agent.specs.OneAgent.{Proper}
use Rattle.abt_parts.specs.declared.recorded.Recorded.{Recorded}
use Rattle.abt_reason.specs.Kept.{IsFitting}
use Rattle.abt_agent.proofs.Proper.{lowest_proper, own_lowest}

both : (a b : Bool) → (a && b) ≡ true → (a ≡ true) × (b ≡ true)
both true b e = (refl, e)
both false b e = cc

and_both : (a b : Bool) → a ≡ true → b ≡ true → (a && b) ≡ true
and_both a b e f = ap (λ x. x && b) e ∙ f

-- a pair of a higher agent
higher_value : (lower : Bool) (b : Bool) → lower ≡ true → (not lower || b) ≡ true → b ≡ true
higher_value true b l e = e
higher_value false b l e = cc

module _ (me : ℕ) (v : ℤ) (a : Agent) where
  -- the pairs of higher agents are as the view has them, and the last one is the agent's
  agreeing : (pairs : List Pair) → IsRising (names pairs) → ((y : Pair) → In y pairs → y.var ≤ me) → fits me pairs a ≡ true → value_at pairs me ≡ Some v → agrees (with_value me v (known a)) pairs ≡ true
  agreeing [] r low fit own = refl
  agreeing (x ∷ xs) r low fit own = elim (eqb_tells me x.var) [
    | inl t ↦
        let given : Some x.value ≡ Some v = sym (ap (λ b. cond b (Some x.value) (value_at xs me)) t.0) ∙ own in
        let same : v ≡ x.value = cc in
        let here : with_value me v (known a) x.var ≡ Some v = ap (λ b. cond b (Some v) (known a x.var)) (eq-eqb x.var me (sym t.1)) in
        and_both _ _ (ap (λ o. is_value o x.value) here ∙ (Decides-int_eq v x.value).1 same) (none_behind xs r low t.1)
    | inr t ↦
        let parts = both (not (nat_lt x.var me) || is_value (known a x.var) x.value) (fits me xs a) fit in
        let up = low x (inl refl) in
        let other : x.var ≢ me = λ same. t.1 (sym same) in
        let lower : x.var < me = omega arith in
        let here : with_value me v (known a) x.var ≡ known a x.var = ap (λ b. cond b (Some v) (known a x.var)) (ne_eqb x.var me other) in
        let has = higher_value (nat_lt x.var me) (is_value (known a x.var) x.value) ((Decides-ltb x.var me).1 lower) parts.0 in
        and_both _ _ (ap (λ o. is_value o x.value) here ∙ has)
        (agreeing xs r.1 (λ y u. low y (inr u)) parts.1 (sym (ap (λ b. cond b (Some x.value) (value_at xs me)) t.0) ∙ own))
  ] where
    none_behind : (ys : List Pair) → IsRising (names (x ∷ ys)) → ((y : Pair) → In y (x ∷ ys) → y.var ≤ me) → me ≡ x.var → agrees (with_value me v (known a)) ys ≡ true
    none_behind [] up below same = refl
    none_behind (y ∷ ys) up below same =
        let above = up.0 y.var (inl refl) in
        let within = below y (inr (inl refl)) in
        absurd (omega arith)

pub fitting : (p : Csp) (me : ℕ) (a : Agent) (item : Recorded) → Proper p me item.nogood → fits me item.nogood a ≡ true → IsFitting me (known a) item
fitting p me a item proper fit = record {
  own = own_lowest p me item.nogood proper;
  agreeing = λ v is. agreeing me v a item.nogood proper.rising proper.others fit (sym (lowest_proper p me item.nogood proper) ∙ is);
}

-- a nogood that is wanted fits
pub wanted_fits : (wanted fit refused : Bool) → wanted ≡ true → wanted ≡ (fit && not refused) → fit ≡ true
wanted_fits wanted fit refused holds is = (both fit (not refused) (sym is ∙ holds)).0
