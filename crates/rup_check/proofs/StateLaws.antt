-- From state to state.
use Rattle.std.proofs.Common.{◌≡◌, ℕ, ◌<◌, ◌≤◌, List, [], ◌∷◌, ◌++◌, ◌⊎◌, inl, inr, Bool, length, get_or, set, sym, ◌∙◌, subst, arith}
use Rattle.std.specs.List.{Contains}
use Rattle.std.proofs.lemmas.Bool.{cases_eq}
use Rattle.std.proofs.lemmas.List.{get_or-set_other, get_or-set_same, length-set}
use Rattle.std.proofs.lemmas.List.Elements.{Contains-push_cases}
use Rattle.rup_check.specs.Assignments.{flipped, Has, IsAssignment}
use Rattle.rup_check.specs.Sets.{Grows}
use Rattle.rup_check.specs.Watches.{IsListed, IsSettled, IsSettledAt, IsRooted, IsWatch, IsEntry, IsState, IsCovered, no_pair}
use Rattle.rup_check.specs.declared.watches.WatchedPair.{WatchedPair}
use Rattle.rup_check.proofs.PropagationLaws.{contains_nil}

module _ (formula : List (List ℕ)) (pairs : List WatchedPair) (lists : List (List ℕ)) (units base : List ℕ) (q : ℕ) (marks : List Bool) (done : List ℕ) where
  -- the list of q is taken out
  module _ (small : q ≤ 8191) (s : IsState formula pairs lists units base marks done) where
    within : q < length lists
    within = let sized : length lists ≡ 8192 = s.sized in omega arith

    taken_listed : (x k : ℕ) → Contains (get_or lists x []) k → IsListed (set lists q []) (get_or lists q []) q x k
    taken_listed x k h =
        (elim (cases_eq x q) [
          | inl e ↦ inr (e, subst (λ w. Contains (get_or lists w []) k) e h)
          | inr n ↦ inl (subst (λ w. Contains w k) (sym (get_or-set_other lists q x [] [] n)) h)
        ])

    taken_here : (pair : WatchedPair) (k : ℕ) → Contains (get_or lists pair.first []) k → Contains (get_or lists pair.second []) k → Contains (get_or lists q []) k ⊎ IsSettledAt marks q pair
    taken_here pair k a b =
        (elim (cases_eq pair.first q) [
          | inl e ↦ inl (subst (λ w. Contains (get_or lists w []) k) e a)
          | inr n ↦ (elim (cases_eq pair.second q) [
            | inl e ↦ inl (subst (λ w. Contains (get_or lists w []) k) e b)
            | inr m ↦ inr record { first = λ e. absurd (n e); second = λ e. absurd (m e) }
          ])
        ])

    taken_entries : (x k : ℕ) → Contains (get_or (set lists q []) x []) k → IsEntry formula pairs k
    taken_entries x k h =
        (elim (cases_eq x q) [
          | inl e ↦ absurd (contains_nil k (subst (λ w. Contains w k) (get_or-set_same lists q [] [] within) (subst (λ w. Contains (get_or (set lists q []) w []) k) e h)))
          | inr n ↦ s.entries x k (subst (λ w. Contains w k) (get_or-set_other lists q x [] [] n) h)
        ])

    pub opened : IsWatch formula pairs (set lists q []) units base (get_or lists q []) (get_or lists q []) q marks done
    opened = record {
      counted = s.counted;
      sized = length-set lists q [] ∙ s.sized;
      entries = taken_entries;
      left = λ k h. s.entries q k h;
      done_marked = s.done_marked;
      base_marked = s.base_marked;
      clauses = λ k l. (elim (s.clauses k l) [
        | inr t ↦ inr t
        | inl t ↦ inl record {
          pair_of = t.pair_of;
          first = taken_listed (get_or pairs k no_pair).first k t.first;
          second = taken_listed (get_or pairs k no_pair).second k t.second;
          settled = t.settled;
          rooted = t.rooted;
          here = taken_here (get_or pairs k no_pair) k t.first t.second;
        }
      ]);
    }

-- the same clauses and watches, with other marks, and other literals done
module _ (formula : List (List ℕ)) (pairs : List WatchedPair) (lists : List (List ℕ)) (units base : List ℕ) (marks marks' : List Bool) (done : List ℕ) (s : IsState formula pairs lists units base marks done) where
  with_done : (done' : List ℕ) → ((y : ℕ) → Contains base y → Has marks' y) → ((y : ℕ) → Contains done' y → Has marks' y) → ((pair : WatchedPair) → IsSettled marks done pair → IsRooted base pair → IsSettled marks' done' pair) → IsState formula pairs lists units base marks' done'
  with_done done' base_marked done_marked on = record {
    counted = s.counted;
    sized = s.sized;
    entries = s.entries;
    done_marked = done_marked;
    base_marked = base_marked;
    clauses = λ k l. (elim (s.clauses k l) [
      | inr t ↦ inr t
      | inl t ↦ inl record {
        pair_of = t.pair_of;
        first = t.first;
        second = t.second;
        settled = on (get_or pairs k no_pair) t.settled t.rooted;
        rooted = t.rooted;
      }
    ]);
  }

  -- nothing is done
  pub nothing_done : ((y : ℕ) → Contains base y → Has marks' y) → IsState formula pairs lists units base marks' []
  nothing_done base_marked = with_done [] base_marked (λ y h. absurd (contains_nil y h)) (λ pair t r. record { first = λ h. absurd (contains_nil (flipped pair.first) h); second = λ h. absurd (contains_nil (flipped pair.second) h) })

  -- what stays marked is done, whatever else was marked and done
  pub undone : ((y : ℕ) → Contains base y → Has marks' y) → IsState formula pairs lists units base marks' base
  undone base_marked = with_done base base_marked base_marked (λ pair t r. record { first = λ h. base_marked pair.second (r.first h); second = λ h. base_marked pair.first (r.second h) })

  -- more is marked
  pub marked_more : Grows marks marks' → IsState formula pairs lists units base marks' done
  marked_more grows = with_done done (λ y h. grows y (s.base_marked y h)) (λ y h. grows y (s.done_marked y h)) (λ pair t r. record { first = λ h. grows pair.second (t.first h); second = λ h. grows pair.first (t.second h) })

-- what is covered stays covered where there are more units
pub covered_on : (formula : List (List ℕ)) (units units' clause : List ℕ) (k : ℕ) → ((y : ℕ) → Contains units y → Contains units' y) → IsCovered formula units clause k → IsCovered formula units' clause k
covered_on formula units units' clause k more t = record {
  by = t.by;
  earlier = t.earlier;
  covers = λ x m. (elim (t.covers x m) [ inl here ↦ inl here | inr u ↦ inr (more (flipped x) u) ]);
}

-- all that is marked is done
pub settled_down : (formula : List (List ℕ)) (pairs : List WatchedPair) (lists : List (List ℕ)) (units base : List ℕ) (marks : List Bool) (trail : List ℕ) → IsAssignment marks trail → ((y : ℕ) → Contains units y → Contains trail y) → IsState formula pairs lists units base marks trail → IsState formula pairs lists trail trail marks trail
settled_down formula pairs lists units base marks trail a within s = record {
  counted = s.counted;
  sized = s.sized;
  entries = s.entries;
  done_marked = s.done_marked;
  base_marked = s.done_marked;
  clauses = λ k l. (elim (s.clauses k l) [
    | inr (inl (x, u, m)) ↦ inr (inl (x, within x u, m))
    | inr (inr t) ↦ inr (inr (covered_on formula units trail (get_or formula k []) k within t))
    | inl t ↦ inl record {
      pair_of = t.pair_of;
      first = t.first;
      second = t.second;
      settled = t.settled;
      rooted = record { first = λ h. a.listed (get_or pairs k no_pair).second (t.settled.first h); second = λ h. a.listed (get_or pairs k no_pair).first (t.settled.second h) };
    }
  ]);
}

-- the list of q is put back
module _ (formula : List (List ℕ)) (pairs : List WatchedPair) (lists : List (List ℕ)) (units base : List ℕ) (held pending : List ℕ) (q : ℕ) (marks : List Bool) (done : List ℕ) (small : q ≤ 8191) (out : get_or lists q [] ≡ []) (w : IsWatch formula pairs lists units base held pending q marks done) where
  back_within : q < length lists
  back_within = let sized : length lists ≡ 8192 = w.sized in omega arith

  back_listed : (x k : ℕ) → IsListed lists held q x k → Contains (get_or (set lists q held) x []) k
  back_listed x k h =
      (elim (cases_eq x q) [
        | inl e ↦ subst (λ z. Contains (get_or (set lists q held) z []) k) (sym e) (subst (λ z. Contains z k) (sym (get_or-set_same lists q held [] back_within)) (elim h [
          | inl i ↦ absurd (contains_nil k (subst (λ z. Contains z k) out (subst (λ z. Contains (get_or lists z []) k) e i)))
          | inr i ↦ i.1
        ]))
        | inr n ↦ subst (λ z. Contains z k) (sym (get_or-set_other lists q x held [] n)) (elim h [ inl i ↦ i | inr i ↦ absurd (n i.0) ])
      ])

  back_entries : (x k : ℕ) → Contains (get_or (set lists q held) x []) k → IsEntry formula pairs k
  back_entries x k h =
      (elim (cases_eq x q) [
        | inl e ↦ w.left k (subst (λ z. Contains z k) (get_or-set_same lists q held [] back_within) (subst (λ z. Contains (get_or (set lists q held) z []) k) e h))
        | inr n ↦ w.entries x k (subst (λ z. Contains z k) (get_or-set_other lists q x held [] n) h)
      ])

  pub restored : (marks' : List Bool) → Grows marks marks' → IsState formula pairs (set lists q held) units base marks' []
  restored marks' grows = record {
    counted = w.counted;
    sized = length-set lists q held ∙ w.sized;
    entries = back_entries;
    done_marked = λ y h. absurd (contains_nil y h);
    base_marked = λ y h. grows y (w.base_marked y h);
    clauses = λ k l. (elim (w.clauses k l) [
      | inr t ↦ inr t
      | inl t ↦ inl record {
        pair_of = t.pair_of;
        first = back_listed (get_or pairs k no_pair).first k t.first;
        second = back_listed (get_or pairs k no_pair).second k t.second;
        settled = record { first = λ h. absurd (contains_nil (flipped (get_or pairs k no_pair).first) h); second = λ h. absurd (contains_nil (flipped (get_or pairs k no_pair).second) h) };
        rooted = t.rooted;
      }
    ]);
  }

  at_q : (x : ℕ) → x ≤ 8191 → flipped q ≡ flipped x → x ≡ q
  at_q x l e = omega arith

  settled_on : (pair : WatchedPair) (k : ℕ) → (pair.first ≤ 8191 × pair.second ≤ 8191) → IsSettled marks done pair → (Contains [] k ⊎ IsSettledAt marks q pair) → IsSettled marks (done ++ flipped q ∷ []) pair
  settled_on pair k l t (inl n) = absurd (contains_nil k n)
  settled_on pair k l t (inr here) = record {
    first = λ m. (elim (Contains-push_cases done (flipped q) (flipped pair.first) m) [
      | inl old ↦ t.first old
      | inr e ↦ here.first (at_q pair.first l.0 e)
    ]);
    second = λ m. (elim (Contains-push_cases done (flipped q) (flipped pair.second) m) [
      | inl old ↦ t.second old
      | inr e ↦ here.second (at_q pair.second l.1 e)
    ]);
  }

  -- where all of it was looked at, q is done
  pub closed : Has marks (flipped q) → pending ≡ [] → IsState formula pairs (set lists q held) units base marks (done ++ flipped q ∷ [])
  closed h none = record {
    counted = w.counted;
    sized = length-set lists q held ∙ w.sized;
    entries = back_entries;
    done_marked = λ y m. (elim (Contains-push_cases done (flipped q) y m) [
      | inl old ↦ w.done_marked y old
      | inr e ↦ subst (λ z. Has marks z) e h
    ]);
    base_marked = w.base_marked;
    clauses = λ k l. (elim (w.clauses k l) [
      | inr t ↦ inr t
      | inl t ↦ inl record {
        pair_of = t.pair_of;
        first = back_listed (get_or pairs k no_pair).first k t.first;
        second = back_listed (get_or pairs k no_pair).second k t.second;
        settled = settled_on (get_or pairs k no_pair) k (t.pair_of.first_small, t.pair_of.second_small) t.settled (subst (λ z. Contains z k ⊎ IsSettledAt marks q (get_or pairs k no_pair)) none t.here);
        rooted = t.rooted;
      }
    ]);
  }
