-- What one act can make of a stamp and a value.
use Rattle.std.proofs.Common.{◌≡◌, ℕ, ◌+◌, ◌≤◌, Bool, true, false, cond, not, ◌&&◌, inl, [], ◌∷◌, Option, Some, None, ℤ, refl, sym, ◌∙◌, subst, arith}
use Rattle.dcsp_defs.specs.Words.{In, update}
use Rattle.dcsp_defs.specs.Csp.{Csp}
use Rattle.abt_defs.specs.Agents.{Agent, Message, Tell, Refuse, AddLink, StampedNogood, plain, fresh}
use Rattle.abt_defs.specs.Reasons.{derived, step_of}
use Rattle.abt_defs.specs.Steps.{Outcome, stay, to_each, is_free, choice, refuse, take_or_refuse, settle, is_newer, forget, learn, learn_all, is_news, unlinked, ask, heed, first_sent, receive}
use Rattle.abt_defs.specs.Network.{refutes, is_empty}
use Rattle.law_agent.proofs.Learns.{learns_all, keeps}
use Rattle.law_agent.proofs.Settles.{derived_seen}

abbrev pub HasValue : Agent → Type 0
HasValue a = (v : ℤ) × (a.value ≡ Some v)

-- the stamp rises by at most one, and a value stays a value
pub record Modest (a b : Agent) : Type 0 where
  pub stamp : b.stamp ≤ a.stamp + 1
  pub value : HasValue a → HasValue b

pub settle_modest : (p : Csp) (i number : ℕ) (a : Agent) → Modest a (settle p i number a).agent
settle_modest p i number a = elim (not a.waits && is_free p i a a.value) as (λ b. Modest a (cond b (stay a) (take_or_refuse p i number a (choice p i a))).agent) [
  | true ↦ record { stamp = omega arith; value = λ h. h }
  | false ↦ taken (choice p i a)
]
  where
    refused : (d : StampedNogood) → Modest a (refuse number a (step_of p i a.view a.recorded) d).agent
    refused [] = record { stamp = omega arith; value = λ h. h }
    refused (first ∷ rest) = record { stamp = omega arith; value = λ h. h }

    taken : (o : Option ℤ) → Modest a (take_or_refuse p i number a o).agent
    taken (Some v) = record { stamp = omega arith; value = λ h. (v, refl) }
    taken None = refused (derived p i a.view a.recorded)

-- the same as before, but for what it knows
same_modest : (a b c : Agent) → b.value ≡ a.value → b.stamp ≡ a.stamp → Modest b c → Modest a c
same_modest a b c v s m = record { stamp = let x = m.stamp in omega arith; value = λ h. m.value (h.0, v ∙ h.1) }

pub receive_modest : (p : Csp) (i number : ℕ) (a : Agent) (k : ℕ) (m : Message) → Modest a (receive p i number a k m).agent
receive_modest p i number a k (Tell s) = elim (is_newer (a.view k) s.stamp) as (λ b. Modest a (cond b (settle p i number (learn k s a)) (stay a)).agent) [
  | true ↦ same_modest a (learn k s a) _ (learned (is_newer (a.view k) s.stamp)).0 (learned (is_newer (a.view k) s.stamp)).1 (settle_modest p i number (learn k s a))
  | false ↦ record { stamp = omega arith; value = λ h. h }
]
  where
    learned : (b : Bool) → let c : Agent = cond b (record a { view = update a.view k (Some s); recorded = forget k s.value a.recorded }) a in (c.value ≡ a.value) × (c.stamp ≡ a.stamp)
    learned true = (refl, refl)
    learned false = (refl, refl)
receive_modest p i number a k (Refuse step pairs) =
    let b = heed i step pairs a in
    let f = learns_all i pairs (ask i (plain pairs) a) in
    let g = keeps i (record { step = step; pairs = plain pairs }) (learn_all i pairs (ask i (plain pairs) a)) in
    elim (a.waits && not (is_news i pairs a)) as (λ c. Modest a (first_sent (to_each AddLink (unlinked i (plain pairs) a)) (cond c (stay b) (settle p i number b))).agent) [
      | true ↦ same_modest a b b (g.value ∙ f.value) (g.stamp ∙ f.stamp) (record { stamp = omega arith; value = λ h. h })
      | false ↦ same_modest a b _ (g.value ∙ f.value) (g.stamp ∙ f.stamp) (settle_modest p i number b)
    ]
receive_modest p i number a k AddLink = record { stamp = omega arith; value = λ h. h }

-- an agent that knows nothing takes a value or refutes
pub record Begins (o : Outcome) : Type 0 where
  pub value : refutes o.step ≡ false → HasValue o.agent
  pub step : refutes o.step ≡ false → o.step ≡ None

pub fresh_begins : (p : Csp) (i number : ℕ) → Begins (settle p i number (fresh p i))
fresh_begins p i number = taken (choice p i (fresh p i)) refl
  where
    refused : (d : StampedNogood) → derived p i (fresh p i).view (fresh p i).recorded ≡ d → Begins (refuse number (fresh p i) (step_of p i (fresh p i).view (fresh p i).recorded) d)
    refused [] e = record { value = λ f. let t : true ≡ false = subst (λ (d : StampedNogood). is_empty (plain d) ≡ false) e f in cc; step = λ f. let t : true ≡ false = subst (λ (d : StampedNogood). is_empty (plain d) ≡ false) e f in cc }
    refused (first ∷ rest) e = let q : None ≡ Some first.1 = derived_seen p i (fresh p i) first (subst (In first) (sym e) (inl refl)) in cc

    taken : (o : Option ℤ) → choice p i (fresh p i) ≡ o → Begins (take_or_refuse p i number (fresh p i) o)
    taken (Some v) e = record { value = λ f. (v, refl); step = λ f. refl }
    taken None e = refused (derived p i (fresh p i).view (fresh p i).recorded) refl
