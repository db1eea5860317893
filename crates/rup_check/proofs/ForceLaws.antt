-- The end of the queue, and the rest after it.
use Rattle.std.proofs.Common.{◌≡◌, ℕ, zero, suc, ◌<◌, ◌+◌, List, [], inl, inr, Bool, true, false, length, get_or, sym, subst, arith}
use Rattle.std.specs.List.{Contains}
use Rattle.rup_check.specs.Assignments.{flipped, Has, IsAssignment}
use Rattle.rup_check.specs.Sets.{IsFinished, IsEnd}
use Rattle.rup_check.specs.Looks.{IsQuiet, IsOpen}
use Rattle.rup_check.specs.Watches.{IsPairOf, IsSettled, IsState, HasOneOf, Covers, IsClean, IsEnded, IsRest, no_pair}
use Rattle.rup_check.specs.declared.watches.WatchedPair.{WatchedPair}
use Rattle.rup_check.proofs.StateLaws.{undone, nothing_done}
use Rattle.rup_check.proofs.PropagationLaws.{true_or_not}
use Rattle.rup_check.proofs.MarkLaws.{finished_from_index}

module _ (formula : List (List ℕ)) (pairs : List WatchedPair) (lists : List (List ℕ)) (units base : List ℕ) (marks : List Bool) (trail : List ℕ) (s : IsState formula pairs lists units base marks trail) (listed : (x : ℕ) → Has marks x → Contains trail x) (forced : (x : ℕ) → Contains units x → Has marks x) (clean : IsClean marks) where
  quiet_pair : (clause : List ℕ) (pair : WatchedPair) → IsPairOf clause pair → IsSettled marks trail pair → IsQuiet marks clause
  quiet_pair clause pair p t =
      (elim (true_or_not (get_or marks pair.first false)) [
        | inl h ↦ inl (pair.first, p.first, h)
        | inr n ↦ (elim (true_or_not (get_or marks pair.second false)) [
          | inl h ↦ inl (pair.second, p.second, h)
          | inr m ↦ inr (pair.first, pair.second, record { among = p.first; open_ = λ h. m (t.first (listed (flipped pair.first) h)) }, record { among = p.second; open_ = λ h. n (t.second (listed (flipped pair.second) h)) }, p.apart)
        ])
      ])

  quiet_short : (clause : List ℕ) → HasOneOf units clause → IsQuiet marks clause
  quiet_short clause (x, u, c) = inl (x, c, forced x u)

  -- what covers a clause is no weaker
  quiet_covered : (by clause : List ℕ) → Covers units by clause → IsQuiet marks by → IsQuiet marks clause
  quiet_covered by clause covers (inl (x, among, h)) =
      (elim (covers x among) [
        | inl here ↦ inl (x, here, h)
        | inr u ↦ absurd (clean x h (forced (flipped x) u))
      ])
  quiet_covered by clause covers (inr (x, y, ox, oy, n)) =
      inr (x, y, record { among = still x ox; open_ = ox.open_ }, record { among = still y oy; open_ = oy.open_ }, n)
    where
      still : (z : ℕ) → IsOpen marks by z → Contains clause z
      still z o = (elim (covers z o.among) [
        | inl here ↦ here
        | inr u ↦ absurd (o.open_ (forced (flipped z) u))
      ])

  quiet_below : (bound k : ℕ) → k < bound → k < length formula → IsQuiet marks (get_or formula k [])
  quiet_below zero k m l = absurd (omega arith)
  quiet_below (suc bound) k m l = (elim (s.clauses k l) [
    | inl t ↦ quiet_pair (get_or formula k []) (get_or pairs k no_pair) t.pair_of t.settled
    | inr (inl t) ↦ quiet_short (get_or formula k []) t
    | inr (inr t) ↦ (let e = t.earlier in quiet_covered (get_or formula t.by []) (get_or formula k []) t.covers (quiet_below bound t.by (omega arith) (omega arith)))
  ])

  -- where all on the trail is done each clause is quiet
  pub finished_of_state : IsFinished formula marks
  finished_of_state = finished_from_index formula marks (λ k l. quiet_below (k + 1) k (omega arith) l)

-- the end of the queue
pub end_of_run : (formula : List (List ℕ)) (units base : List ℕ) (pairs : List WatchedPair) (lists : List (List ℕ)) (marks : List Bool) (trail : List ℕ) (b : Bool) → IsAssignment marks trail → ((x : ℕ) → Contains units x → Has marks x) → IsClean marks → IsEnded formula units base pairs lists marks trail b → IsEnd formula marks b
end_of_run formula units base pairs lists marks trail true a forced clean r = r.1
end_of_run formula units base pairs lists marks trail false a forced clean r = finished_of_state formula pairs lists units base marks trail r a.listed forced clean

-- the rest after the trail was undone
pub rest_again : (formula : List (List ℕ)) (pairs pairs' : List WatchedPair) (lists lists' : List (List ℕ)) (marks between marks' : List Bool) (trail done trail' : List ℕ) → IsRest formula pairs lists marks trail → IsAssignment marks' trail' → trail' ≡ trail → IsState formula pairs' lists' trail trail between done → IsRest formula pairs' lists' marks' trail'
rest_again formula pairs pairs' lists lists' marks between marks' trail done trail' r a e s =
    subst (λ z. IsRest formula pairs' lists' marks' z) (sym e) record {
      assigned = subst (λ z. IsAssignment marks' z) e a;
      sound = record { within = λ x h. r.sound.within x (old x h); consistent = λ x h g. r.sound.consistent x (old x h) (old (flipped x) g) };
      state = undone formula pairs' lists' trail trail between marks' done s (λ y h. a.marked y (subst (λ z. Contains z y) (sym e) h));
    } where
      old : (x : ℕ) → Has marks' x → Has marks x
      old x h = r.assigned.marked x (subst (λ z. Contains z x) e (a.listed x h))

pub ended_state : (formula : List (List ℕ)) (units base : List ℕ) (pairs : List WatchedPair) (lists : List (List ℕ)) (marks : List Bool) (trail : List ℕ) (b : Bool) → IsEnded formula units base pairs lists marks trail b → IsState formula pairs lists units base marks []
ended_state formula units base pairs lists marks trail true r = r.0
ended_state formula units base pairs lists marks trail false r = nothing_done formula pairs lists units base marks marks trail r r.base_marked
