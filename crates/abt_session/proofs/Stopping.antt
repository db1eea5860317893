-- Where a run stops, seen from its deliveries.
use Rattle.std.proofs.Common.{◌≡◌, ℕ, ◌+◌, ◌<◌, ◌≤◌, cond, ◌⊎◌, inl, inr, List, take, drop, length, Some, slice_get, refl, sym, ap, subst, ◌∙◌, arith}
use Rattle.std.proofs.Math.Nat.{eq-or-lt_of_le}
use Rattle.dcsp_defs.specs.Csp.{Csp}
use Rattle.abt_defs.specs.Network.{Network, ready, deliver, run, start, is_empty}
use Rattle.abt_defs.specs.Runs.{End, Refuted, Solved, Capped, Spent}
use Rattle.law_runs.specs.Stops.{after, IsOpen, Stops}
use Rattle.law_runs.proofs.Next.{run_more}
use Rattle.law_runs.proofs.Stopping.{stops}
use Rattle.abt_session.specs.Sessions.{Session, run_of, network_after}
use Rattle.abt_session.proofs.Places.{at_place, used_up}

-- one delivery more
pub after_next : (p : Csp) (choices : List ℕ) (k c : ℕ) → IsOpen p (after p choices k) → slice_get choices k ≡ Some c → after p choices (k + 1) ≡ deliver p c (after p choices k)
after_next p choices k c h s =
    ap (λ l. run p l (start p)) (at_place choices k c s).front ∙ run_more p (take k choices) c (start p) ∙ ap (λ b. cond b (after p choices k) (deliver p c (after p choices k))) h.alive

-- which of the four ends it is
one_end : (e : End) → (e ≡ Refuted) ⊎ ((e ≡ Solved) ⊎ ((e ≡ Capped) ⊎ (e ≡ Spent)))
one_end Refuted = inl refl
one_end Solved = inr (inl refl)
one_end Capped = inr (inr (inl refl))
one_end Spent = inr (inr (inr refl))

module _ (s : Session) where
  p : Csp
  p = s.problem

  -- the run has come so far: it was open before each of so many deliveries, for which there were choices and room
  pub record ComesTo (k : ℕ) : Type 0 where
    pub opened : (j : ℕ) → j < k → IsOpen s.problem (network_after s j)
    pub chosen : k ≤ length s.choices
    pub room : k ≤ s.most

  law : Stops s.problem s.most s.choices (run_of s)
  law = stops s.problem s.most s.choices

  -- it does not stop where it is open, with a choice and room
  goes_past : (d : ℕ) → d ≡ (run_of s).net.deliveries → IsOpen s.problem (network_after s d) → d < length s.choices → d < s.most → ⊥
  goes_past d e open_ c r = by_end (one_end (run_of s).end)
    where
      here : (run_of s).net ≡ network_after s d
      here = law.net ∙ ap (network_after s) (sym e)

      by_end : ((run_of s).end ≡ Refuted) ⊎ (((run_of s).end ≡ Solved) ⊎ (((run_of s).end ≡ Capped) ⊎ ((run_of s).end ≡ Spent))) → ⊥
      by_end (inl h) = let f = law.ends.refuted.0 h in let g = ap (λ (n : Network). n.refuted) here in let a = open_.alive in cc
      by_end (inr (inl h)) = let f = (law.ends.solved.0 h).1 in let g = ap (λ (n : Network). is_empty (ready s.problem n)) here in let a = open_.in_transit in cc
      by_end (inr (inr (inl h))) = let f = (law.ends.capped.0 h).1 in omega arith
      by_end (inr (inr (inr h))) = let f = used_up s.choices d (ap (λ k. drop k s.choices) e ∙ sym law.left ∙ (law.ends.spent.0 h).1.1) in omega arith

  -- the run makes at least so many deliveries
  pub not_fewer : (k : ℕ) → ComesTo k → k ≤ (run_of s).net.deliveries
  not_fewer k h = at_least (run_of s).net.deliveries refl
    where
      at_least : (d : ℕ) → d ≡ (run_of s).net.deliveries → k ≤ d
      at_least d e =
          let none : d < k → ⊥ = λ l. goes_past d e (h.opened d l) (let c = h.chosen in omega arith) (let r = h.room in omega arith) in
          omega arith

  -- and one more, where it goes on
  pub one_more : (k c : ℕ) → ComesTo k → IsOpen s.problem (network_after s k) → slice_get s.choices k ≡ Some c → k < s.most → ComesTo (k + 1)
  one_more k c h open_ found room = record {
    opened = λ j l. before j (omega arith);
    chosen = let w = (at_place s.choices k c found).within in omega arith;
    room = omega arith;
  }
    where
      before : (j : ℕ) → j ≤ k → IsOpen s.problem (network_after s j)
      before j l = elim (eq-or-lt_of_le l) [ inl e ↦ subst (λ i. IsOpen s.problem (network_after s i)) (sym e) open_ | inr m ↦ h.opened j m ]

  -- it makes exactly so many, where it is not open any more
  pub stops_here : (k : ℕ) → ComesTo k → (IsOpen s.problem (network_after s k) → ⊥) → k ≡ (run_of s).net.deliveries
  stops_here k h closed =
      let least = not_fewer k h in
      let none : k < (run_of s).net.deliveries → ⊥ = λ l. closed (law.open_before k l) in
      omega arith

  -- or has no room, or no choice
  pub ends_here : (k : ℕ) → ComesTo k → (s.most ≤ k) ⊎ (length s.choices ≤ k) → k ≡ (run_of s).net.deliveries
  ends_here k h (inl l) = let least = not_fewer k h in let most = law.at_most in omega arith
  ends_here k h (inr l) = let least = not_fewer k h in let most = law.chosen in omega arith
