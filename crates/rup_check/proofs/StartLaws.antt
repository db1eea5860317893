-- The first watches.
use Rattle.std.proofs.Common.{◌≡◌, ℕ, List, [], Bool, length, get_or, replicate, ap, ◌∙◌, subst, arith, zero, suc}
use Rattle.std.specs.List.{Contains}
use Rattle.std.proofs.lemmas.List.{length-replicate}
use Rattle.rup_check.specs.Assignments.{Has, IsAssignment}
use Rattle.rup_check.specs.Watches.{IsRest}
use Rattle.rup_check.specs.declared.watches.WatchedPair.{WatchedPair}
use Rattle.rup_check.proofs.PropagationLaws.{contains_nil}

in_nothing : (n x k : ℕ) → Contains (get_or (replicate n []) x []) k → ⊥
in_nothing zero x k h = contains_nil k h
in_nothing (suc n) zero k h = contains_nil k h
in_nothing (suc n) (suc x) k h = in_nothing n x k h

pub rest_none : (pairs : List WatchedPair) (lists : List (List ℕ)) (marks : List Bool) (trail : List ℕ) → pairs ≡ [] → lists ≡ replicate 8192 [] → IsAssignment marks trail → trail ≡ [] → IsRest [] pairs lists marks trail
rest_none pairs lists marks trail p l a t = record {
  assigned = a;
  sound = record { within = λ x h. absurd (none x h); consistent = λ x h g. none x h };
  state = record {
    counted = ap length p;
    sized = ap length l ∙ length-replicate {A = List ℕ} 8192 [];
    entries = λ x k h. absurd (in_nothing 8192 x k (subst (λ z. Contains (get_or z x []) k) l h));
    done_marked = a.marked;
    base_marked = a.marked;
    clauses = λ k m. absurd (omega arith);
  };
} where
  none : (x : ℕ) → Has marks x → ⊥
  none x h = contains_nil x (subst (λ z. Contains z x) t (a.listed x h))
