-- What is sent on a link is delivered in its order.
use Rattle.std.proofs.Common.{◌≡◌, ℕ, Bool, true, false, cond, ◌&&◌, inl, inr, List, [], ◌∷◌, ◌++◌, ◌==◌, Option, Some, None, refl, sym, ap, ◌∙◌, append_assoc, append-nil}
use Rattle.std.proofs.lemmas.Bool.Decides.{eqb_tells}
use Rattle.dcsp_defs.specs.Words.{update}
use Rattle.dcsp_defs.specs.Csp.{Csp}
use Rattle.abt_defs.specs.Agents.{Message}
use Rattle.abt_defs.specs.Network.{Network, deliver, deliver_at, deliver_head, run, start}
use Rattle.law_runs.specs.Orders.{chosen_pair, first_of, taken_by, sent_by, sent_at, delivered, sent, FirstInFirstOut}

-- the list of a and b once the head from k to i has left
left_on : (net : Network) (k i : ℕ) (m : Message) (rest : List Message) → net.links k i ≡ m ∷ rest → (a b : ℕ)
    → net.links a b ≡ cond (a == k && b == i) (first_of (net.links a b)) [] ++ update net.links k (update (net.links k) i rest) a b
left_on net k i m rest e a b = elim (eqb_tells a k) [
  | inl t ↦ elim (eqb_tells b i) [
    | inl u ↦
        let here : net.links a b ≡ m ∷ rest = ap (λ x. net.links x b) t.1 ∙ ap (net.links k) u.1 ∙ e in
        rw (t.0, u.0) (here ∙ sym (ap (λ l. first_of l ++ rest) here))
    | inr u ↦ rw (t.0, u.0) (ap (λ x. net.links x b) t.1)
  ]
  | inr t ↦ rw t.0 refl
]

-- the messages that went, if any, go behind those that stay
one_more : (c : Bool) (old went stays taken : List Message) → old ≡ taken ++ stays → old ++ cond c went [] ≡ taken ++ cond c (stays ++ went) stays
one_more true old went stays taken e = ap (λ l. l ++ went) e ∙ append_assoc taken stays went
one_more false old went stays taken e = append-nil old ∙ e

-- two deliveries in turn
in_turn : (old now later taken next taken_later end : List Message) → old ++ now ≡ taken ++ next → next ++ later ≡ taken_later ++ end → old ++ (now ++ later) ≡ (taken ++ taken_later) ++ end
in_turn old now later taken next taken_later end e f =
    sym (append_assoc old now later) ∙ ap (λ l. l ++ later) e ∙ append_assoc taken next later ∙ ap (λ l. taken ++ l) f ∙ sym (append_assoc taken taken_later end)

-- one delivery on the pair
on_head : (p : Csp) (net : Network) (k i : ℕ) (ms : List Message) → net.links k i ≡ ms → (a b : ℕ)
    → net.links a b ++ sent_by p k i ms net a b ≡ cond (a == k && b == i) (first_of (net.links a b)) [] ++ (deliver_head p k i ms net).links a b
on_head p net k i [] e a b = elim (eqb_tells a k) [
  | inl t ↦ elim (eqb_tells b i) [
    | inl u ↦ let here : net.links a b ≡ [] = ap (λ x. net.links x b) t.1 ∙ ap (net.links k) u.1 ∙ e in rw (t.0, u.0, here) refl
    | inr u ↦ rw (t.0, u.0) (append-nil (net.links a b))
  ]
  | inr t ↦ rw t.0 (append-nil (net.links a b))
]
on_head p net k i (m ∷ rest) e a b = one_more (a == i) _ _ _ _ (left_on net k i m rest e a b)

on_pair : (p : Csp) (net : Network) (o : Option (ℕ × ℕ)) (a b : ℕ) → net.links a b ++ sent_at p o net a b ≡ taken_by o net a b ++ (deliver_at p o net).links a b
on_pair p net None a b = append-nil (net.links a b)
on_pair p net (Some pair) a b = on_head p net pair.0 pair.1 (net.links pair.0 pair.1) refl a b

kept_in_order : (p : Csp) (cs : List ℕ) (net : Network) (a b : ℕ) → net.links a b ++ sent p cs net a b ≡ delivered p cs net a b ++ (run p cs net).links a b
kept_in_order p [] net a b = append-nil (net.links a b)
kept_in_order p (c ∷ cs) net a b =
    elim net.refuted as (λ r. net.links a b ++ cond r [] (sent_at p (chosen_pair p c net) net a b ++ sent p cs (deliver p c net) a b) ≡ cond r [] (taken_by (chosen_pair p c net) net a b ++ delivered p cs (deliver p c net) a b) ++ (cond r net (run p cs (deliver p c net))).links a b) [
      | true ↦ append-nil (net.links a b)
      | false ↦ in_turn (net.links a b) _ _ _ ((deliver p c net).links a b) _ _ (on_pair p net (chosen_pair p c net) a b) (kept_in_order p cs (deliver p c net) a b)
    ]

pub first_in_first_out : (p : Csp) → FirstInFirstOut p
first_in_first_out p cs a b = kept_in_order p cs (start p) a b
