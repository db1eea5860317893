-- To whom an agent sends.
use Rattle.std.proofs.Common.{◌≡◌, ◌≢◌, ℕ, ◌+◌, ◌<◌, List, [], ◌∷◌, ◌++◌, filter, cond, refl, sym, subst, Bool, true, false, not, ◌&&◌, inl, inr, Option, Some, None, ℤ, arith}
use Rattle.std.proofs.lemmas.Bool.Decides.{eqb_tells}
use Rattle.dcsp_defs.specs.Words.{In, below}
use Rattle.dcsp_defs.specs.Csp.{Csp, count}
use Rattle.dcsp_defs.specs.declared.Step.{Step}
use Rattle.dcsp_defs.proofs.Lists.{In-split, In-below, filter-from}
use Rattle.law_agent.proofs.Nogoods.{In-map-from}
use Rattle.law_agent.proofs.Settles.{derived_higher}
use Rattle.abt_defs.specs.Agents.{Agent, Message, Tell, Refuse, AddLink, Stamped, StampedNogood, lowest, plain}
use Rattle.abt_defs.specs.Reasons.{derived, step_of}
use Rattle.abt_defs.specs.Steps.{Outcome, stay, settle, take_or_refuse, refuse, choice, is_free, receive, to_each, unlinked, own_value, is_newer, learn, heed, is_news, is_named}
use Rattle.abt_defs.specs.Network.{sent_to}

-- each receiver is another agent of the problem
pub record Reaches (p : Csp) (i : ℕ) (sent : List (ℕ × Message)) : Type 0 where
  pub exists : (x : ℕ × Message) → In x sent → x.0 < count p
  pub other : (x : ℕ × Message) → In x sent → x.0 ≢ i

-- only lower agents are told
abbrev pub TellsLower : ℕ → Agent → Type 0
TellsLower i a = (j : ℕ) → a.tells j ≡ true → i < j

-- what is sent to j was sent
pub In-sent : (j : ℕ) (m : Message) (sent : List (ℕ × Message)) → In m (sent_to j sent) → (x : ℕ × Message) × In x sent × (x.0 ≡ j)
In-sent j m [] h = absurd h
In-sent j m (x ∷ xs) h = elim (eqb_tells x.0 j) [
  | inl t ↦ elim (rw t.0 at h) as (λ _. (y : ℕ × Message) × In y (x ∷ xs) × (y.0 ≡ j)) [
    | inl e ↦ (x, inl refl, t.1)
    | inr u ↦ let r = In-sent j m xs u in (r.0, inr r.1, r.2)
  ]
  | inr t ↦ let r = In-sent j m xs (rw t.0 at h) in (r.0, inr r.1, r.2)
]

module _ (p : Csp) (i : ℕ) (l : i < count p) where
  none : Reaches p i []
  none = record { exists = λ x u. absurd u; other = λ x u. absurd u }

  one : (k : ℕ) (m : Message) → k < count p → k ≢ i → Reaches p i ((k, m) ∷ [])
  one k m h ne = record {
    exists = λ x u. elim u [ inl e ↦ subst (λ (z : ℕ × Message). z.0 < count p) (sym e) h | inr v ↦ absurd v ];
    other = λ x u. elim u [ inl e ↦ subst (λ (z : ℕ × Message). z.0 ≢ i) (sym e) ne | inr v ↦ absurd v ];
  }

  both : (xs ys : List (ℕ × Message)) → Reaches p i xs → Reaches p i ys → Reaches p i (xs ++ ys)
  both xs ys f g = record {
    exists = λ x u. elim (In-split x xs ys u) [ inl v ↦ f.exists x v | inr v ↦ g.exists x v ];
    other = λ x u. elim (In-split x xs ys u) [ inl v ↦ f.other x v | inr v ↦ g.other x v ];
  }

  either : (b : Bool) (o u : Outcome) → Reaches p i o.sent → Reaches p i u.sent → Reaches p i (cond b o u).sent
  either true o u f g = f
  either false o u f g = g

  each : (n : ℕ) (m : Message) (q : ℕ → Bool) → ((j : ℕ) → j < n → q j ≡ true → (j < count p) × (j ≢ i)) → Reaches p i (to_each m (filter q (below n)))
  each n m q h = record { exists = λ x u. (at x u).0; other = λ x u. (at x u).1 }
    where
      at : (x : ℕ × Message) → In x (to_each m (filter q (below n))) → (x.0 < count p) × (x.0 ≢ i)
      at x u =
          let r = In-map-from (λ (j : ℕ). (j, m)) x (filter q (below n)) u in
          let f = filter-from q r.0 (below n) r.1 in
          subst (λ (z : ℕ × Message). (z.0 < count p) × (z.0 ≢ i)) (sym r.2) (h r.0 (In-below n r.0 f.0) f.1)

  to_lowest : (number : ℕ) (a : Agent) (step : Step) (pairs : StampedNogood) → ((y : ℕ × Stamped) → In y pairs → y.0 < i) → Reaches p i (refuse number a step pairs).sent
  to_lowest number a step [] h = none
  to_lowest number a step (first ∷ rest) h = let d = low first rest h in one (lowest first rest) (Refuse number (first ∷ rest)) (omega arith) (λ e. omega arith)
    where
      low : (first : ℕ × Stamped) (rest : StampedNogood) → ((y : ℕ × Stamped) → In y (first ∷ rest) → y.0 < i) → lowest first rest < i
      low first [] g = g first (inl refl)
      low first (next ∷ rest) g = low next rest (λ y u. g y (inr u))

  taken : (number : ℕ) (a : Agent) (o : Option ℤ) → TellsLower i a → Reaches p i (take_or_refuse p i number a o).sent
  taken number a (Some v) h = each (count p) (Tell (record { value = v; stamp = a.stamp + 1 })) a.tells (λ j w t. (w, λ e. let d = h j t in omega arith))
  taken number a None h = to_lowest number a (step_of p i a.view a.recorded) (derived p i a.view a.recorded) (derived_higher p i a)

  pub settle_reaches : (number : ℕ) (a : Agent) → TellsLower i a → Reaches p i (settle p i number a).sent
  settle_reaches number a h = either (not a.waits && is_free p i a a.value) (stay a) (take_or_refuse p i number a (choice p i a)) none (taken number a (choice p i a) h)

  told : (k : ℕ) (a : Agent) (o : Option ℤ) → k < count p → k ≢ i → Reaches p i (own_value k a o)
  told k a None h ne = none
  told k a (Some v) h ne = one k (Tell (record { value = v; stamp = a.stamp })) h ne

  -- to whom, when a value comes
  pub announce_reaches : (number k : ℕ) (a : Agent) (s : Stamped) → (learn k s a).tells ≡ a.tells → TellsLower i a → Reaches p i (receive p i number a k (Tell s)).sent
  announce_reaches number k a s same h =
      either (is_newer (a.view k) s.stamp) (settle p i number (learn k s a)) (stay a)
      (settle_reaches number (learn k s a) (λ j t. h j (subst (λ (f : ℕ → Bool). f j ≡ true) same t))) none

  -- when a nogood comes
  pub refuse_reaches : (number k step : ℕ) (a : Agent) (pairs : StampedNogood) → (heed i step pairs a).tells ≡ a.tells → TellsLower i a → Reaches p i (receive p i number a k (Refuse step pairs)).sent
  refuse_reaches number k step a pairs same h =
      both (to_each AddLink (unlinked i (plain pairs) a)) (cond (a.waits && not (is_news i pairs a)) (stay (heed i step pairs a)) (settle p i number (heed i step pairs a))).sent
      (each i AddLink (λ j. is_named j (plain pairs) && not (a.linked j)) (λ j w t. (omega arith, λ e. omega arith)))
      (either (a.waits && not (is_news i pairs a)) (stay (heed i step pairs a)) (settle p i number (heed i step pairs a)) none
      (settle_reaches number (heed i step pairs a) (λ j t. h j (subst (λ (f : ℕ → Bool). f j ≡ true) same t))))

  -- when a link request comes
  pub link_reaches : (number k : ℕ) (a : Agent) → k < count p → k ≢ i → Reaches p i (receive p i number a k AddLink).sent
  link_reaches number k a h ne = told k a a.value h ne
