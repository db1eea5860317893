-- The nogood of a step comes to an agent once: while it is in transit, the agent has recorded none of that step.
use Rattle.std.proofs.Common.{◌≡◌, ◌∙◌, ℕ, ◌+◌, ◌%◌, ◌<◌, ◌≤◌, true, false, cond, not, ◌&&◌, ◌⊎◌, inl, inr, List, [], ◌∷◌, ◌++◌, ◌==◌, filter, length, map, slice_get, Option, Some, None, option_to_list, refl, sym, ap, subst, arith, append-nil, length-append, ℤ}
use Rattle.std.proofs.lemmas.Bool.Decides.{eqb_tells}
use native.Mathlib.Decide.{dec_lt}
use Rattle.dcsp_defs.specs.declared.Step.{Step}
use Rattle.dcsp_defs.specs.Words.{In, below}
use Rattle.dcsp_defs.specs.Csp.{Csp, count}
use Rattle.dcsp_defs.proofs.Lists.{In-split}
use Rattle.abt_defs.specs.Agents.{Agent, Tell, Refuse, AddLink, Message, Record, StampedNogood, lowest, plain}
use Rattle.abt_defs.specs.Reasons.{derived, step_of}
use Rattle.abt_defs.specs.Steps.{Outcome, choice, first_sent, heed, is_free, is_newer, is_news, learn, own_value, receive, refuse, settle, stay, take_or_refuse, to_each, unlinked}
use Rattle.abt_defs.specs.Network.{Network, acted, deliver, deliver_at, deliver_head, left, next_number, ready, run, sent_to, start}
use Rattle.law_runs.specs.Starts.{settled_in, StartsWith}
use Rattle.law_runs.proofs.Starting.{starts_in_order}
use Rattle.abt_story.specs.Telling.{steps_of}
use Rattle.abt_story.proofs.Records.{HasNew, receive_records}

-- ---- the steps of the nogoods in a list of messages

abbrev pub steps_in : List Message → List ℕ
steps_in [] = []
steps_in (Tell told ∷ ms) = steps_in ms
steps_in (Refuse step pairs ∷ ms) = step ∷ steps_in ms
steps_in (AddLink ∷ ms) = steps_in ms

steps_append : (ms ns : List Message) → steps_in (ms ++ ns) ≡ steps_in ms ++ steps_in ns
steps_append [] ns = refl
steps_append (Tell told ∷ ms) ns = steps_append ms ns
steps_append (Refuse step pairs ∷ ms) ns = ap (λ l. step ∷ l) (steps_append ms ns)
steps_append (AddLink ∷ ms) ns = steps_append ms ns

-- no step twice
abbrev pub Apart : List ℕ → Type 0
Apart [] = Unit {0}
Apart (x ∷ xs) = (In x xs → ⊥) × Apart xs

apart_last : (xs : List ℕ) (y : ℕ) → Apart xs → (In y xs → ⊥) → Apart (xs ++ y ∷ [])
apart_last [] y h n = (λ u. absurd u, tt)
apart_last (x ∷ xs) y h n = (
  λ u. elim (In-split x xs (y ∷ []) u) [
    | inl v ↦ h.0 v
    | inr v ↦ elim v [ inl e ↦ n (inl (sym e)) | inr w ↦ absurd w ]
  ],
  apart_last xs y h.1 (λ u. n (inr u)),
)

-- ---- what an agent sends

-- no nogood for j, or one of the step with this number, which was made
abbrev pub Sends_one : ℕ → Outcome → ℕ → Type 0
Sends_one number o j = (steps_in (sent_to j o.sent) ≡ []) ⊎ ((steps_in (sent_to j o.sent) ≡ number ∷ []) × (s : Step) × (o.step ≡ Some s))

none_to : (m : Message) → steps_in (m ∷ []) ≡ [] → (j : ℕ) (ks : List ℕ) → steps_in (sent_to j (to_each m ks)) ≡ []
none_to m e j [] = refl
none_to m e j (k ∷ ks) = elim (k == j) as (λ b. steps_in (cond b (m ∷ sent_to j (to_each m ks)) (sent_to j (to_each m ks))) ≡ []) [
  | true ↦ steps_append (m ∷ []) (sent_to j (to_each m ks)) ∙ ap (λ l. l ++ steps_in (sent_to j (to_each m ks))) e ∙ none_to m e j ks
  | false ↦ none_to m e j ks
]

settle_sends : (p : Csp) (i number : ℕ) (a : Agent) (j : ℕ) → Sends_one number (settle p i number a) j
settle_sends p i number a j = elim (not a.waits && is_free p i a a.value) as (λ b. Sends_one number (cond b (stay a) (take_or_refuse p i number a (choice p i a))) j) [ true ↦ inl refl | false ↦ by_choice (choice p i a) ]
  where
    refused : (s : Step) (d : StampedNogood) → Sends_one number (refuse number a s d) j
    refused s [] = inl refl
    refused s (x ∷ xs) = elim (lowest x xs == j) as (λ b. (steps_in (cond b (Refuse number (x ∷ xs) ∷ []) []) ≡ []) ⊎ ((steps_in (cond b (Refuse number (x ∷ xs) ∷ []) []) ≡ number ∷ []) × (t : Step) × (Some s ≡ Some t))) [
      | true ↦ inr (refl, s, refl)
      | false ↦ inl refl
    ]

    by_choice : (o : Option ℤ) → Sends_one number (take_or_refuse p i number a o) j
    by_choice (Some v) = inl (none_to (Tell (record { value = v; stamp = a.stamp + 1 })) refl j (filter a.tells (below (count p))))
    by_choice None = refused (step_of p i a.view a.recorded) (derived p i a.view a.recorded)

sent_append : (j : ℕ) (xs ys : List (ℕ × Message)) → sent_to j (xs ++ ys) ≡ sent_to j xs ++ sent_to j ys
sent_append j [] ys = refl
sent_append j (x ∷ xs) ys = elim (x.0 == j) as (λ b. cond b (x.1 ∷ sent_to j (xs ++ ys)) (sent_to j (xs ++ ys)) ≡ cond b (x.1 ∷ sent_to j xs) (sent_to j xs) ++ sent_to j ys) [
  | true ↦ ap (λ l. x.1 ∷ l) (sent_append j xs ys)
  | false ↦ sent_append j xs ys
]

-- requests before it change nothing
asked_first : (number : ℕ) (ks : List ℕ) (o : Outcome) (j : ℕ) → Sends_one number o j → Sends_one number (first_sent (to_each AddLink ks) o) j
asked_first number ks o j h =
    let same : steps_in (sent_to j (to_each AddLink ks ++ o.sent)) ≡ steps_in (sent_to j o.sent)
    = ap steps_in (sent_append j (to_each AddLink ks) o.sent) ∙ steps_append (sent_to j (to_each AddLink ks)) (sent_to j o.sent) ∙ ap (λ l. l ++ steps_in (sent_to j o.sent)) (none_to AddLink refl j ks) in
    elim h [ inl e ↦ inl (same ∙ e) | inr e ↦ inr (same ∙ e.0, e.1, e.2) ]

receive_sends : (p : Csp) (i number : ℕ) (a : Agent) (k : ℕ) (m : Message) (j : ℕ) → Sends_one number (receive p i number a k m) j
receive_sends p i number a k (Tell s) j = elim (is_newer (a.view k) s.stamp) as (λ t. Sends_one number (cond t (settle p i number (learn k s a)) (stay a)) j) [ true ↦ settle_sends p i number (learn k s a) j | false ↦ inl refl ]
receive_sends p i number a k (Refuse step pairs) j =
    let b = heed i step pairs a in
    asked_first number (unlinked i (plain pairs) a) (cond (a.waits && not (is_news i pairs a)) (stay b) (settle p i number b)) j
    (elim (a.waits && not (is_news i pairs a)) as (λ t. Sends_one number (cond t (stay b) (settle p i number b)) j) [ true ↦ inl refl | false ↦ settle_sends p i number b j ])
receive_sends p i number a k AddLink j = inl (by_value a.value)
  where
    by_value : (o : Option ℤ) → steps_in (sent_to j (own_value k a o)) ≡ []
    by_value None = refl
    by_value (Some v) = elim (k == j) as (λ b. steps_in (cond b (Tell (record { value = v; stamp = a.stamp }) ∷ []) []) ≡ []) [ true ↦ refl | false ↦ refl ]

-- ---- a network

-- each nogood in transit is of a step that was made, no two that come to an agent are of one step, and the agent has recorded none of it
pub record Once (net : Network) : Type 0 where
  pub made : (k j n : ℕ) → In n (steps_in (net.links k j)) → n ≤ length net.steps
  pub recorded : (j n : ℕ) → In n (steps_of (net.agents j)) → n ≤ length net.steps
  pub apart : (k j : ℕ) → Apart (steps_in (net.links k j))
  pub one_sender : (k l j n : ℕ) → In n (steps_in (net.links k j)) → In n (steps_in (net.links l j)) → k ≡ l
  pub unrecorded : (k j n : ℕ) → In n (steps_in (net.links k j)) → In n (steps_of (net.agents j)) → ⊥

module _ (p : Csp) (net : Network) (k i : ℕ) (m : Message) (rest : List Message) (head : net.links k i ≡ m ∷ rest) (h : Once net) where
  abbrev o : Outcome
  o = receive p i (next_number net) (net.agents i) k m

  abbrev mid : ℕ → ℕ → List ℕ
  mid l j = steps_in ((left k i rest net).links l j)

  abbrev next : Network
  next = acted i o (left k i rest net)

  -- of the list from k to i the head is gone
  mid_own : mid k i ≡ steps_in rest
  mid_own = elim (eqb_tells k k) [
    | inl t ↦ elim (eqb_tells i i) [ inl u ↦ rw (t.0, u.0) refl | inr u ↦ absurd (u.1 refl) ]
    | inr t ↦ absurd (t.1 refl)
  ]

  -- the others are as before
  mid_is : (l j : ℕ) → ((l ≡ k) × (j ≡ i)) ⊎ (mid l j ≡ steps_in (net.links l j))
  mid_is l j = elim (eqb_tells l k) [
    | inl t ↦ elim (eqb_tells j i) [
      | inl u ↦ inl (t.1, u.1)
      | inr u ↦ inr (rw (t.0, u.0) (ap (λ x. steps_in (net.links x j)) (sym t.1)))
    ]
    | inr t ↦ inr (rw t.0 refl)
  ]

  rest_in : (n : ℕ) → In n (steps_in rest) → In n (steps_in (net.links k i))
  rest_in n u = subst (In n) (sym (ap steps_in head)) (by_message m u)
    where
      by_message : (x : Message) → In n (steps_in rest) → In n (steps_in (x ∷ rest))
      by_message (Tell told) u = u
      by_message (Refuse step pairs) u = inr u
      by_message AddLink u = u

  mid_in : (l j n : ℕ) → In n (mid l j) → In n (steps_in (net.links l j))
  mid_in l j n u = elim (mid_is l j) [
    | inl e ↦
        let own : In n (mid k i) = subst (λ x. In n (mid x i)) e.0 (subst (λ y. In n (mid l y)) e.1 u) in
        subst (λ x. In n (steps_in (net.links x j))) (sym e.0) (subst (λ y. In n (steps_in (net.links k y))) (sym e.1) (rest_in n (subst (In n) mid_own own)))
    | inr e ↦ subst (In n) e u
  ]

  mid_apart : (l j : ℕ) → Apart (mid l j)
  mid_apart l j = elim (mid_is l j) [
    | inl e ↦
        let own : Apart (mid k i) = subst Apart (sym mid_own) (by_message m (subst Apart (ap steps_in head) (h.apart k i))) in
        subst (λ x. Apart (mid x j)) (sym e.0) (subst (λ y. Apart (mid k y)) (sym e.1) own)
    | inr e ↦ subst Apart (sym e) (h.apart l j)
  ]
    where
      by_message : (x : Message) → Apart (steps_in (x ∷ rest)) → Apart (steps_in rest)
      by_message (Tell told) u = u
      by_message (Refuse step pairs) u = u.1
      by_message AddLink u = u

  -- what came is no more in transit
  came_is_gone : (l n : ℕ) → HasNew m n → In n (mid l i) → ⊥
  came_is_gone l n new u = by_message m refl new
    where
      by_message : (x : Message) → m ≡ x → HasNew x n → ⊥
      by_message (Tell told) e g = g
      by_message (Refuse step pairs) e g =
          let there : steps_in (net.links k i) ≡ step ∷ steps_in rest = ap steps_in head ∙ ap (λ y. steps_in (y ∷ rest)) e in
          let in_own : In n (steps_in (net.links k i)) = subst (In n) (sym there) (inl g) in
          let same : l ≡ k = h.one_sender l k i n (mid_in l i n u) in_own in
          let again : In n (steps_in rest) = subst (In n) mid_own (subst (λ x. In n (mid x i)) same u) in
          (subst Apart there (h.apart k i)).0 (subst (λ x. In x (steps_in rest)) g again)
      by_message AddLink e g = g

  came_was_made : (n : ℕ) → HasNew m n → n ≤ length net.steps
  came_was_made n new = by_message m refl new
    where
      by_message : (x : Message) → m ≡ x → HasNew x n → n ≤ length net.steps
      by_message (Tell told) e g = absurd g
      by_message (Refuse step pairs) e g = h.made k i n (subst (In n) (sym (ap steps_in head ∙ ap (λ y. steps_in (y ∷ rest)) e)) (inl g))
      by_message AddLink e g = absurd g

  -- what agents have recorded then
  records : (j n : ℕ) → In n (steps_of (next.agents j)) → In n (steps_of (net.agents j)) ⊎ ((j ≡ i) × HasNew m n)
  records j n = elim (eqb_tells j i) [
    | inl t ↦ rw t.0 (λ u. elim (receive_records p i (next_number net) (net.agents i) k m n u) [ inl v ↦ inl (rw t.1 v) | inr v ↦ inr (t.1, v) ])
    | inr t ↦ rw t.0 (λ u. inl u)
  ]

  -- and what is in transit
  lists : (l j : ℕ) → (steps_in (next.links l j) ≡ mid l j) ⊎ ((l ≡ i) × (steps_in (next.links l j) ≡ mid l j ++ (length net.steps + 1) ∷ []) × (length next.steps ≡ length net.steps + 1))
  lists l j = elim (eqb_tells l i) [
    | inl t ↦ rw t.0 (elim (receive_sends p i (next_number net) (net.agents i) k m j) [
      | inl e ↦ inl (steps_append ((left k i rest net).links l j) (sent_to j o.sent) ∙ ap (λ x. mid l j ++ x) e ∙ append-nil (mid l j))
      | inr e ↦ inr (t.1, steps_append ((left k i rest net).links l j) (sent_to j o.sent) ∙ ap (λ x. mid l j ++ x) e.0, ap (λ x. length (net.steps ++ option_to_list x)) e.2 ∙ length-append net.steps (e.1 ∷ []))
    ])
    | inr t ↦ rw t.0 (inl refl)
  ]

  longer : length net.steps ≤ length next.steps
  longer = let e = length-append net.steps (option_to_list o.step) in omega arith

  -- in transit then: still there, or new
  in_transit : (l j n : ℕ) → In n (steps_in (next.links l j)) → In n (mid l j) ⊎ ((l ≡ i) × (n ≡ length net.steps + 1) × (length next.steps ≡ length net.steps + 1))
  in_transit l j n u = elim (lists l j) [
    | inl e ↦ inl (subst (In n) e u)
    | inr e ↦ elim (In-split n (mid l j) ((length net.steps + 1) ∷ []) (subst (In n) e.1 u)) [
      | inl v ↦ inl v
      | inr v ↦ elim v [ inl f ↦ inr (e.0, f, e.2) | inr w ↦ absurd w ]
    ]
  ]

  unmade : (l j n : ℕ) → n ≡ length net.steps + 1 → In n (mid l j) → ⊥
  unmade l j n e u = let s = h.made l j n (mid_in l j n u) in omega arith

  pub once_next : Once next
  once_next = record {
    made = λ l j n u. elim (in_transit l j n u) [
      | inl v ↦ let s = h.made l j n (mid_in l j n v) in let t = longer in omega arith
      | inr v ↦ let e = v.1 in let f = v.2 in omega arith
    ];
    recorded = λ j n u. elim (records j n u) [
      | inl v ↦ let s = h.recorded j n v in let t = longer in omega arith
      | inr v ↦ let s = came_was_made n v.1 in let t = longer in omega arith
    ];
    apart = λ l j. elim (lists l j) [
      | inl e ↦ subst Apart (sym e) (mid_apart l j)
      | inr e ↦ subst Apart (sym e.1) (apart_last (mid l j) (length net.steps + 1) (mid_apart l j) (unmade l j (length net.steps + 1) refl))
    ];
    one_sender = λ l l' j n u v. elim (in_transit l j n u) [
      | inl x ↦ elim (in_transit l' j n v) [
        | inl y ↦ h.one_sender l l' j n (mid_in l j n x) (mid_in l' j n y)
        | inr y ↦ absurd (unmade l j n y.1 x)
      ]
      | inr x ↦ elim (in_transit l' j n v) [
        | inl y ↦ absurd (unmade l' j n x.1 y)
        | inr y ↦ x.0 ∙ sym y.0
      ]
    ];
    unrecorded = λ l j n u v. elim (records j n v) [
      | inl y ↦ elim (in_transit l j n u) [
        | inl x ↦ h.unrecorded l j n (mid_in l j n x) y
        | inr x ↦ let s = h.recorded j n y in let e = x.1 in absurd (omega arith)
      ]
      | inr y ↦ elim (in_transit l j n u) [
        | inl x ↦ came_is_gone l n y.1 (subst (λ z. In n (mid l z)) y.0 x)
        | inr x ↦ let s = came_was_made n y.1 in let e = x.1 in absurd (omega arith)
      ]
    ];
  }

-- ---- runs

pub lt_or_ge : (a b : ℕ) → (a < b) ⊎ (b ≤ a)
lt_or_ge a b = elim (dec_lt a b) [ yes l ↦ inl l | no n ↦ inr (omega arith) ]

once_start : (p : Csp) → Once (start p)
once_start p = record {
  made = λ k j n u. absurd (empty k j n u);
  recorded = λ j n u. absurd (none j n u);
  apart = λ k j. subst Apart (sym (all_empty k j)) tt;
  one_sender = λ k l j n u v. absurd (empty k j n u);
  unrecorded = λ k j n u v. empty k j n u;
}
  where
    h : StartsWith p (settled_in (count p) (start p).steps)
    h = starts_in_order p

    all_empty : (k j : ℕ) → steps_in ((start p).links k j) ≡ []
    all_empty k j = elim (lt_or_ge k (settled_in (count p) (start p).steps)) [
      | inl l ↦ ap steps_in (h.sent k j l) ∙ ap (λ s. steps_in (sent_to j s)) ((h.tells k).sent_is) ∙ none_to (Tell (h.tells k).told) refl j (filter (h.tells k).tells (below (count p)))
      | inr l ↦ ap steps_in (h.others k j l)
    ]

    empty : (k j n : ℕ) → In n (steps_in ((start p).links k j)) → ⊥
    empty k j n u = subst (In n) (all_empty k j) u

    none : (j n : ℕ) → In n (steps_of ((start p).agents j)) → ⊥
    none j n u = subst (λ l. In n (map (λ (x : Record). x.step) l)) (h.recorded j) u

once_delivered : (p : Csp) (net : Network) (o : Option (ℕ × ℕ)) → Once net → Once (deliver_at p o net)
once_delivered p net None h = h
once_delivered p net (Some x) h = by_list (net.links x.0 x.1) refl
  where
    by_list : (l : List Message) → net.links x.0 x.1 ≡ l → Once (deliver_head p x.0 x.1 l net)
    by_list [] e = h
    by_list (m ∷ rest) e = once_next p net x.0 x.1 m rest e h

once_run : (p : Csp) (cs : List ℕ) (net : Network) → Once net → Once (run p cs net)
once_run p [] net h = h
once_run p (c ∷ cs) net h = elim net.refuted as (λ b. Once (cond b net (run p cs (deliver p c net)))) [
  | true ↦ h
  | false ↦ once_run p cs (deliver p c net) (once_delivered p net (slice_get (ready p net) (c % length (ready p net))) h)
]

pub once_holds : (p : Csp) (cs : List ℕ) → Once (run p cs (start p))
once_holds p cs = once_run p cs (start p) (once_start p)
