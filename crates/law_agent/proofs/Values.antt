-- Two stamped values of one agent with the same stamp are the same.
use Rattle.std.proofs.Common.{◌≡◌, ℕ, ◌<◌, ◌≤◌, true, false, cond, inl, inr, Some, ℤ, pos, unwrap_or, nat_le, sym, ap, ◌∙◌, subst, arith}
use Rattle.std.proofs.lemmas.Bool.Decides.{nat_tests}
use Rattle.dcsp_defs.specs.Words.{In}
use Rattle.dcsp_defs.specs.Csp.{Csp}
use Rattle.dcsp_defs.proofs.Lists.{In-split}
use Rattle.abt_defs.specs.Agents.{Tell, Refuse, Stamped}
use Rattle.abt_defs.specs.Network.{Network}
use Rattle.law_agent.proofs.Facts.{Kept}
use Rattle.law_agent.proofs.Moves.{Moves, in_came, in_mid}
use Rattle.law_agent.specs.Invariants.{Held, In_view, On_list, In_nogood, Own}

-- which value each agent took when: history k n is the n-th of agent k
pub record Known (net : Network) : Type 0 where
  pub history : ℕ → ℕ → ℤ
  pub held : (k : ℕ) (s : Stamped) → Held net k s → history k s.stamp ≡ s.value

-- what is held is not later than the present
pub held_dated : (p : Csp) (r : ℕ) (net : Network) → Kept p r net → (k : ℕ) (s : Stamped) → Held net k s → (0 < s.stamp) × (s.stamp ≤ (net.agents k).stamp)
held_dated p r net h k s (In_view i e) = let d = h.dated_views i k s e in (d.positive, d.most)
held_dated p r net h k s (On_list i u) = let d = h.dated k i (Tell s) u in (d.positive, d.most)
held_dated p r net h k s (In_nogood i j step pairs u v) = let d = h.dated i j (Refuse step pairs) u (k, s) v in (d.positive, d.most)
held_dated p r net h k s (Own e f) = let q = (h.sound k).stamped s.value e in (omega arith, omega arith)

module _ (p : Csp) (s r : ℕ) (net new : Network) (h : Kept p s net) (m : Moves p r net new) (old : Known net) where
  next : ℕ → ℕ → ℤ
  next k n = cond (nat_le n (net.agents k).stamp) (old.history k n) (unwrap_or (new.agents k).value (pos 0))

  -- what was held before
  before : (k : ℕ) (t : Stamped) → Held net k t → next k t.stamp ≡ t.value
  unfolding next
  before k t u = let l = (held_dated p s net h k t u).1 in let e : nat_le t.stamp (net.agents k).stamp ≡ true = grind (arith, nat_tests) in rw e (old.held k t u)

  -- what the agent has now
  own : (k : ℕ) (t : Stamped) → (new.agents k).value ≡ Some t.value → t.stamp ≡ (new.agents k).stamp → next k t.stamp ≡ t.value
  unfolding next
  own k t e f = elim ((m.acts k).ages) [
    | inl a ↦ before k t (Own (sym a.1 ∙ e) (f ∙ a.0))
    | inr l ↦ let g : nat_le t.stamp (net.agents k).stamp ≡ false = grind (arith, nat_tests) in rw g (ap (λ o. unwrap_or o (pos 0)) e)
  ]

  in_view : (i k : ℕ) (t : Stamped) → (new.agents i).view k ≡ Some t → next k t.stamp ≡ t.value
  in_view i k t e = elim ((m.acts i).view_from k t e) [
    | inl u ↦ before k t (In_view i u)
    | inr u ↦ elim u [
      | inl v ↦ before k t (On_list i (in_came p s r net new h m k i (Tell t) v))
      | inr v ↦ before k t (In_nogood v.sender i v.step v.pairs (in_came p s r net new h m v.sender i _ v.there) v.named)
    ]
  ]

  held_after : (k : ℕ) (t : Stamped) → Held new k t → next k t.stamp ≡ t.value
  held_after k t (In_view i e) = in_view i k t e
  held_after k t (On_list i u) = elim (In-split (Tell t) (m.mid k i) (m.went k i) (subst (In (Tell t)) (m.after k i) u)) [
    | inl v ↦ before k t (On_list i (in_mid p s r net new h m k i _ v))
    | inr v ↦ let a = (m.acts k).announced i t v in own k t a.1 a.2
  ]
  held_after k t (In_nogood i j step pairs u w) = elim (In-split (Refuse step pairs) (m.mid i j) (m.went i j) (subst (In (Refuse step pairs)) (m.after i j) u)) [
    | inl v ↦ before k t (In_nogood i j step pairs (in_mid p s r net new h m i j _ v) w)
    | inr v ↦ in_view i k t ((m.acts i).sees j step pairs v (k, t) w)
  ]
  held_after k t (Own e f) = own k t e f

  pub known_after : Known new
  known_after = record { history = next; held = held_after }
