-- What an event makes of an agent.
use Rattle.std.proofs.Common.{◌≡◌, ◌∙◌, ℕ, ℤ, ◌+◌, Bool, true, false, cond, not, ◌&&◌, ◌⊎◌, inl, inr, List, [], ◌∷◌, ◌++◌, map, Option, Some, None, refl, sym, ap, arith, nat_lt}
use Rattle.dcsp_defs.specs.declared.Step.{Step}
use Rattle.dcsp_defs.specs.Words.{In, update}
use Rattle.std.proofs.lemmas.Bool.Decides.{eqb_tells, nat_tests}
use Rattle.dcsp_defs.specs.Csp.{Csp}
use Rattle.abt_defs.specs.Agents.{Agent, Tell, Refuse, AddLink, Message, Record, Stamped, StampedNogood, plain}
use Rattle.abt_defs.specs.Reasons.{derived, step_of}
use Rattle.abt_defs.specs.Steps.{Outcome, ask, choice, first_sent, forget, heed, is_free, is_newer, is_news, keep, learn, learn_all, receive, refuse, settle, stay, take_or_refuse, to_each, unlinked, fits, is_refused}
use Rattle.dcsp_defs.specs.Pairs.{value_at}
use Rattle.abt_defs.specs.Network.{is_empty}
use Rattle.abt_story.specs.Telling.{is_later, named_by, stamp_in}

-- ---- value, stamp and mark

-- the agent has what it had
pub record Same (a b : Agent) : Type 0 where
  pub value : b.value ≡ a.value
  pub stamp : b.stamp ≡ a.stamp
  pub waits : b.waits ≡ a.waits

pub record Stays (a : Agent) (o : Outcome) : Type 0 where
  pub same : Same a o.agent
  pub step : o.step ≡ None

pub record TakesOne (a : Agent) (o : Outcome) : Type 0 where
  pub value : ℤ
  pub is : o.agent.value ≡ Some value
  pub stamp : o.agent.stamp ≡ a.stamp + 1
  pub waits : o.agent.waits ≡ false
  pub step : o.step ≡ None

pub record GivesUp (a : Agent) (o : Outcome) : Type 0 where
  pub value : o.agent.value ≡ a.value
  pub stamp : o.agent.stamp ≡ a.stamp
  pub step : Step
  pub is : o.step ≡ Some step
  pub waits : (o.agent.waits ≡ true) ⊎ (is_empty step.nogood ≡ true)

abbrev pub Moves : Agent → Outcome → Type 0
Moves a o = Stays a o ⊎ (TakesOne a o ⊎ GivesUp a o)

moved : (a b : Agent) (o : Outcome) (sent : List (ℕ × Message)) → Same a b → Moves b o → Moves a (first_sent sent o)
moved a b o sent s (inl h) = inl (record { same = record { value = h.same.value ∙ s.value; stamp = h.same.stamp ∙ s.stamp; waits = h.same.waits ∙ s.waits }; step = h.step })
moved a b o sent s (inr (inl h)) = inr (inl (record { value = h.value; is = h.is; stamp = h.stamp ∙ ap (λ n. n + 1) s.stamp; waits = h.waits; step = h.step }))
moved a b o sent s (inr (inr h)) = inr (inr (record { value = h.value ∙ s.value; stamp = h.stamp ∙ s.stamp; step = h.step; is = h.is; waits = h.waits }))

pub settle_moves : (p : Csp) (i number : ℕ) (a : Agent) → Moves a (settle p i number a)
settle_moves p i number a = elim (not a.waits && is_free p i a a.value) as (λ b. Moves a (cond b (stay a) (take_or_refuse p i number a (choice p i a)))) [
  | true ↦ inl (record { same = record { value = refl; stamp = refl; waits = refl }; step = refl })
  | false ↦ by_choice (choice p i a)
]
  where
    refused : (d : StampedNogood) → d ≡ derived p i a.view a.recorded → Moves a (refuse number a (step_of p i a.view a.recorded) d)
    refused [] e = inr (inr (record { value = refl; stamp = refl; step = step_of p i a.view a.recorded; is = refl; waits = inr (ap (λ l. is_empty (plain l)) (sym e)) }))
    refused (x ∷ xs) e = inr (inr (record { value = refl; stamp = refl; step = step_of p i a.view a.recorded; is = refl; waits = inl refl }))

    by_choice : (o : Option ℤ) → Moves a (take_or_refuse p i number a o)
    by_choice (Some v) = inr (inl (record { value = v; is = refl; stamp = refl; waits = refl; step = refl }))
    by_choice None = refused (derived p i a.view a.recorded) refl

same_all : (a : Agent) → Same a a
same_all a = record { value = refl; stamp = refl; waits = refl }

same_learn : (k : ℕ) (s : Stamped) (a b : Agent) → Same a b → Same a (learn k s b)
same_learn k s a b h = elim (is_newer (b.view k) s.stamp) as (λ t. Same a (cond t (record b { view = update b.view k (Some s); recorded = forget k s.value b.recorded }) b)) [ true ↦ record { value = h.value; stamp = h.stamp; waits = h.waits } | false ↦ h ]

same_learned : (i : ℕ) (pairs : StampedNogood) (a b : Agent) → Same a b → Same a (learn_all i pairs b)
same_learned i [] a b h = h
same_learned i (y ∷ ys) a b h = elim (nat_lt y.0 i) as (λ t. Same a (learn_all i ys (cond t (learn y.0 y.1 b) b))) [
  | true ↦ same_learned i ys a (learn y.0 y.1 b) (same_learn y.0 y.1 a b h)
  | false ↦ same_learned i ys a b h
]

same_kept : (i : ℕ) (x : Record) (a b : Agent) → Same a b → Same a (keep i x b)
same_kept i x a b h = elim (fits i x.pairs b && not (is_refused i b.recorded (value_at x.pairs i))) as (λ t. Same a (cond t (record b { recorded = b.recorded ++ x ∷ [] }) b)) [ true ↦ record { value = h.value; stamp = h.stamp; waits = h.waits } | false ↦ h ]

same_heeded : (i step : ℕ) (pairs : StampedNogood) (a : Agent) → Same a (heed i step pairs a)
same_heeded i step pairs a =
    same_kept i (record { step = step; pairs = plain pairs }) a (learn_all i pairs (ask i (plain pairs) a)) (same_learned i pairs a (ask i (plain pairs) a) (record { value = refl; stamp = refl; waits = refl }))

-- an agent that receives a message stays as it is, takes a value, or makes a step
pub receive_moves : (p : Csp) (i number : ℕ) (a : Agent) (k : ℕ) (m : Message) → Moves a (receive p i number a k m)
receive_moves p i number a k (Tell s) = elim (is_newer (a.view k) s.stamp) as (λ t. Moves a (cond t (settle p i number (learn k s a)) (stay a))) [
  | true ↦ moved a (learn k s a) (settle p i number (learn k s a)) [] (same_learn k s a a (same_all a)) (settle_moves p i number (learn k s a))
  | false ↦ inl (record { same = same_all a; step = refl })
]
receive_moves p i number a k (Refuse step pairs) =
    let b = heed i step pairs a in
    let same = same_heeded i step pairs a in
    moved a b (cond (a.waits && not (is_news i pairs a)) (stay b) (settle p i number b)) (to_each AddLink (unlinked i (plain pairs) a)) same
    (elim (a.waits && not (is_news i pairs a)) as (λ t. Moves b (cond t (stay b) (settle p i number b))) [ true ↦ inl (record { same = same_all b; step = refl }) | false ↦ settle_moves p i number b ])
receive_moves p i number a k AddLink = inl (record { same = record { value = refl; stamp = refl; waits = refl }; step = refl })

-- ---- the view

-- it has what it had, or something newer, of an agent that is named
abbrev pub Enters : Type 0 → Option Stamped → Option Stamped → Type 0
Enters IsNamed before after = (after ≡ before) ⊎ (IsNamed × (s : Stamped) × (after ≡ Some s) × (is_later (stamp_in before) s.stamp ≡ true))

newer_is_later : (o : Option Stamped) (stamp : ℕ) → is_newer o stamp ≡ is_later (stamp_in o) stamp
newer_is_later None stamp = refl
newer_is_later (Some s) stamp = refl

later_twice : (o : Option ℕ) (m n : ℕ) → is_later o m ≡ true → nat_lt m n ≡ true → is_later o n ≡ true
later_twice None m n h g = refl
later_twice (Some k) m n h g = grind (arith, nat_tests)

enters_twice : (A B : Type 0) (x y z : Option Stamped) → Enters A x y → Enters B y z → Enters (A ⊎ B) x z
enters_twice A B x y z (inl e) (inl f) = inl (f ∙ e)
enters_twice A B x y z (inl e) (inr (b, s, f, l)) = inr (inr b, s, f, ap (λ o. is_later (stamp_in o) s.stamp) (sym e) ∙ l)
enters_twice A B x y z (inr (a, s, f, l)) (inl e) = inr (inl a, s, e ∙ f, l)
enters_twice A B x y z (inr (a, s, f, l)) (inr (b, t, g, m)) = inr (inl a, t, g, later_twice (stamp_in x) s.stamp t.stamp l (ap (λ o. is_later (stamp_in o) t.stamp) (sym f) ∙ m))

learn_enters : (k : ℕ) (s : Stamped) (a : Agent) (j : ℕ) → Enters (j ≡ k) (a.view j) ((learn k s a).view j)
learn_enters k s a j = by_test (is_newer (a.view k) s.stamp) refl
  where
    by_test : (t : Bool) → is_newer (a.view k) s.stamp ≡ t → Enters (j ≡ k) (a.view j) ((cond t (record a { view = update a.view k (Some s); recorded = forget k s.value a.recorded }) a).view j)
    by_test false e = inl refl
    by_test true e = elim (eqb_tells j k) [
      | inl u ↦ inr (u.1, s, ap (λ b. cond b (Some s) (a.view j)) u.0, ap (λ i. is_later (stamp_in (a.view i)) s.stamp) u.1 ∙ sym (newer_is_later (a.view k) s.stamp) ∙ e)
      | inr u ↦ inl (ap (λ b. cond b (Some s) (a.view j)) u.0)
    ]

pub weaken : (A B : Type 0) (x y : Option Stamped) → (A → B) → Enters A x y → Enters B x y
weaken A B x y f (inl e) = inl e
weaken A B x y f (inr (a, s, e, l)) = inr (f a, s, e, l)

learned_enters : (i : ℕ) (pairs : StampedNogood) (a : Agent) (j : ℕ) → Enters (In j (map (λ (y : ℕ × Stamped). y.0) pairs)) (a.view j) ((learn_all i pairs a).view j)
learned_enters i [] a j = inl refl
learned_enters i (y ∷ ys) a j = elim (nat_lt y.0 i) as (λ t. Enters ((j ≡ y.0) ⊎ In j (map (λ (y : ℕ × Stamped). y.0) ys)) (a.view j) ((learn_all i ys (cond t (learn y.0 y.1 a) a)).view j)) [
  | true ↦ enters_twice (j ≡ y.0) (In j (map (λ (y : ℕ × Stamped). y.0) ys)) (a.view j) ((learn y.0 y.1 a).view j) _ (learn_enters y.0 y.1 a j) (learned_enters i ys (learn y.0 y.1 a) j)
  | false ↦ weaken _ _ (a.view j) _ inr (learned_enters i ys a j)
]

pub settle_view : (p : Csp) (i number : ℕ) (a : Agent) → (settle p i number a).agent.view ≡ a.view
settle_view p i number a = elim (not a.waits && is_free p i a a.value) as (λ b. (cond b (stay a) (take_or_refuse p i number a (choice p i a))).agent.view ≡ a.view) [ true ↦ refl | false ↦ by_choice (choice p i a) ]
  where
    refused : (d : StampedNogood) → (refuse number a (step_of p i a.view a.recorded) d).agent.view ≡ a.view
    refused [] = refl
    refused (x ∷ xs) = refl

    by_choice : (o : Option ℤ) → (take_or_refuse p i number a o).agent.view ≡ a.view
    by_choice (Some v) = refl
    by_choice None = refused (derived p i a.view a.recorded)

kept_view : (i : ℕ) (x : Record) (b : Agent) → (keep i x b).view ≡ b.view
kept_view i x b = elim (fits i x.pairs b && not (is_refused i b.recorded (value_at x.pairs i))) as (λ t. (cond t (record b { recorded = b.recorded ++ x ∷ [] }) b).view ≡ b.view) [ true ↦ refl | false ↦ refl ]

-- what enters the view is newer, and of an agent that the message names
pub receive_enters : (p : Csp) (i number : ℕ) (a : Agent) (k : ℕ) (m : Message) (j : ℕ) → Enters (In j (named_by None k m)) (a.view j) ((receive p i number a k m).agent.view j)
receive_enters p i number a k (Tell s) j = by_test (is_newer (a.view k) s.stamp) refl
  where
    by_test : (t : Bool) → is_newer (a.view k) s.stamp ≡ t → Enters ((j ≡ k) ⊎ ⊥) (a.view j) ((cond t (settle p i number (learn k s a)) (stay a)).agent.view j)
    by_test true e = rw (settle_view p i number (learn k s a)) (weaken _ _ (a.view j) _ inl (learn_enters k s a j))
    by_test false e = inl refl
receive_enters p i number a k (Refuse step pairs) j =
    let b = heed i step pairs a in
    let heeded : b.view ≡ (learn_all i pairs (ask i (plain pairs) a)).view = kept_view i (record { step = step; pairs = plain pairs }) (learn_all i pairs (ask i (plain pairs) a)) in
    let all : Enters (In j (map (λ (y : ℕ × Stamped). y.0) pairs)) (a.view j) (b.view j) = rw heeded (learned_enters i pairs (ask i (plain pairs) a) j) in
    elim (a.waits && not (is_news i pairs a)) as (λ t. Enters (In j (map (λ (y : ℕ × Stamped). y.0) pairs)) (a.view j) ((cond t (stay b) (settle p i number b)).agent.view j)) [
      | true ↦ all
      | false ↦ rw (settle_view p i number b) all
    ]
receive_enters p i number a k AddLink j = inl refl
