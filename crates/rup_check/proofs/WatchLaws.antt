-- One clause of a watch list.
use Rattle.std.proofs.Common.{◌≡◌, ◌≢◌, ℕ, ◌<◌, ◌≤◌, List, [], ◌∷◌, ◌++◌, ◌⊎◌, inl, inr, Bool, true, false, length, get_or, set, sym, refl, ap, ◌∙◌, subst, arith}
use Rattle.std.specs.List.{Contains}
use Rattle.std.proofs.lemmas.Bool.{cases_eq}
use Rattle.std.proofs.lemmas.List.{get_or-set_other, get_or-set_same, length-set}
use Rattle.std.proofs.lemmas.List.Elements.{Contains-append_left, Contains-push, Contains-push_cases, Contains-get_or}
use Rattle.rup_check.specs.Assignments.{flipped, Has}
use Rattle.rup_check.specs.Sets.{Grows, KeepsSound}
use Rattle.rup_check.specs.Assignments.{IsSound}
use Rattle.rup_check.specs.declared.turns.Turn.TheVariants as turn
use Rattle.rup_check.specs.declared.turns.Look.TheVariants as look
use Rattle.rup_check.proofs.MarkLaws.{has_set, has_kept, has_small, unit_sound}
use Rattle.rup_check.specs.Looks.{IsOpen, IsUnit}
use Rattle.rup_check.specs.Watches.{IsPairOf, IsListed, IsSettled, IsTended, IsOther, IsWatch, IsEntry, IsClean, IsTurn, IsTaken, IsWithout, no_pair}
use Rattle.rup_check.specs.declared.watches.WatchedPair.{WatchedPair}

-- ---- lists that grow

abbrev pub ListsGrow : List (List ℕ) → List (List ℕ) → Type 0
ListsGrow before after = (x k : ℕ) → Contains (get_or before x []) k → Contains (get_or after x []) k

pub grown : (lists : List (List ℕ)) (place k : ℕ) → place < length lists → ListsGrow lists (set lists place (get_or lists place [] ++ k ∷ []))
grown lists place k l x j h =
    (elim (cases_eq x place) [
      | inl e ↦ subst (λ w. Contains (get_or (set lists place (get_or lists place [] ++ k ∷ [])) w []) j) (sym e) (subst (λ w. Contains w j) (sym (get_or-set_same lists place (get_or lists place [] ++ k ∷ []) [] l)) (Contains-append_left (get_or lists place []) (k ∷ []) j (subst (λ w. Contains (get_or lists w []) j) e h)))
      | inr n ↦ subst (λ w. Contains w j) (sym (get_or-set_other lists place x (get_or lists place [] ++ k ∷ []) [] n)) h
    ])

pub pushed : (lists : List (List ℕ)) (place k : ℕ) → place < length lists → Contains (get_or (set lists place (get_or lists place [] ++ k ∷ [])) place []) k
pushed lists place k l = subst (λ w. Contains w k) (sym (get_or-set_same lists place (get_or lists place [] ++ k ∷ []) [] l)) (Contains-push (get_or lists place []) k)

record OtherFacts (lists : List (List ℕ)) (held : List ℕ) (q : ℕ) (marks : List Bool) (base done clause : List ℕ) (other at : ℕ) : Type 0 where
  among : Contains clause other
  apart : other ≢ q
  small : other ≤ 8191
  listed : IsListed lists held q other at
  settled : Contains done (flipped other) → Has marks q
  rooted : Contains base (flipped other) → Contains base q

-- ---- a clause other than the one at hand

module _ (lists after : List (List ℕ)) (held held' pending rest : List ℕ) (q : ℕ) (marks marks' : List Bool) (base done : List ℕ) (at : ℕ) (popped : pending ≡ rest ++ at ∷ []) (held_kept : (k : ℕ) → k ≢ at → Contains held k → Contains held' k) (lists_grow : ListsGrow lists after) (marks_grow : Grows marks marks') where
  still : (k : ℕ) → k ≢ at → Contains pending k → Contains rest k
  still k n h =
      (elim (Contains-push_cases rest at k (subst (λ w. Contains w k) popped h)) [
        | inl r ↦ r
        | inr e ↦ absurd (n (sym e))
      ])

  listed_kept : (k x : ℕ) → k ≢ at → IsListed lists held q x k → IsListed after held' q x k
  listed_kept k x n (inl h) = inl (lists_grow x k h)
  listed_kept k x n (inr (e, h)) = inr (e, held_kept k n h)

  settled_kept : (pair : WatchedPair) → IsSettled marks done pair → IsSettled marks' done pair
  settled_kept pair s = record { first = λ h. marks_grow pair.second (s.first h); second = λ h. marks_grow pair.first (s.second h) }

  pub tended_kept : (clause : List ℕ) (pair : WatchedPair) (k : ℕ) → k ≢ at → IsTended lists held pending q base marks done clause pair k → IsTended after held' rest q base marks' done clause pair k
  tended_kept clause pair k n t = record {
    pair_of = t.pair_of;
    first = listed_kept k pair.first n t.first;
    second = listed_kept k pair.second n t.second;
    settled = settled_kept pair t.settled;
    rooted = t.rooted;
    here = (elim t.here [
      | inl h ↦ inl (still k n h)
      | inr s ↦ inr record { first = λ e. marks_grow pair.second (s.first e); second = λ e. marks_grow pair.first (s.second e) }
    ]);
  }

  -- a literal other than q keeps the clause at hand in its list
  listed_apart : (x : ℕ) → x ≢ q → IsListed lists held q x at → IsListed after held' q x at
  listed_apart x n (inl h) = inl (lists_grow x at h)
  listed_apart x n (inr (e, h)) = absurd (n e)

  -- so does each, where the clause at hand stays
  listed_stays : (x : ℕ) → (Contains held at → Contains held' at) → IsListed lists held q x at → IsListed after held' q x at
  listed_stays x stays (inl h) = inl (lists_grow x at h)
  listed_stays x stays (inr (e, h)) = inr (e, stays h)

  other_facts : (clause : List ℕ) (pair : WatchedPair) (other : ℕ) → IsOther pair q other → IsTended lists held pending q base marks done clause pair at → OtherFacts lists held q marks base done clause other at
  other_facts clause pair other (inl (e, o)) t = record {
    among = subst (λ w. Contains clause w) (sym o) t.pair_of.second;
    apart = λ h. t.pair_of.apart (e ∙ sym h ∙ o);
    small = subst (λ w. w ≤ 8191) (sym o) t.pair_of.second_small;
    listed = subst (λ w. IsListed lists held q w at) (sym o) t.second;
    settled = λ h. subst (λ w. Has marks w) e (t.settled.second (subst (λ w. Contains done (flipped w)) o h));
    rooted = λ h. subst (λ w. Contains base w) e (t.rooted.second (subst (λ w. Contains base (flipped w)) o h));
  }
  other_facts clause pair other (inr (e, o)) t = record {
    among = subst (λ w. Contains clause w) (sym o) t.pair_of.first;
    apart = λ h. t.pair_of.apart (sym o ∙ h ∙ sym e);
    small = subst (λ w. w ≤ 8191) (sym o) t.pair_of.first_small;
    listed = subst (λ w. IsListed lists held q w at) (sym o) t.first;
    settled = λ h. subst (λ w. Has marks w) e (t.settled.first (subst (λ w. Contains done (flipped w)) o h));
    rooted = λ h. subst (λ w. Contains base w) e (t.rooted.first (subst (λ w. Contains base (flipped w)) o h));
  }

  -- neither of the pair is q: it leaves
  pub tended_dropped : (clause : List ℕ) (pair : WatchedPair) → pair.first ≢ q → pair.second ≢ q → IsTended lists held pending q base marks done clause pair at → IsTended after held' rest q base marks' done clause pair at
  tended_dropped clause pair n m t = record {
    pair_of = t.pair_of;
    first = listed_apart pair.first n t.first;
    second = listed_apart pair.second m t.second;
    settled = settled_kept pair t.settled;
    rooted = t.rooted;
    here = inr record { first = λ e. absurd (n e); second = λ e. absurd (m e) };
  }

  -- the other is true, now or before: the clause stays
  pub tended_stays : (clause : List ℕ) (pair : WatchedPair) (other : ℕ) → IsOther pair q other → Has marks' other → (Contains held at → Contains held' at) → IsTended lists held pending q base marks done clause pair at → IsTended after held' rest q base marks' done clause pair at
  tended_stays clause pair other o h stays t = record {
    pair_of = t.pair_of;
    first = listed_stays pair.first stays t.first;
    second = listed_stays pair.second stays t.second;
    settled = settled_kept pair t.settled;
    rooted = t.rooted;
    here = inr (elim o [
      | inl s ↦ record {
        first = λ e. subst (λ w. Has marks' w) s.1 h;
        second = λ e. absurd (t.pair_of.apart (s.0 ∙ sym e));
      }
      | inr s ↦ record {
        first = λ e. absurd (t.pair_of.apart (e ∙ sym s.0));
        second = λ e. subst (λ w. Has marks' w) s.1 h;
      }
    ]);
  }

  -- the pair becomes the other and a literal that is not false
  pub tended_moved : (clause : List ℕ) (pair : WatchedPair) (other to hint : ℕ) → IsOther pair q other → IsOpen marks clause to → to ≢ other → to ≤ 8191 → ((y : ℕ) → Contains done y → Has marks y) → ((y : ℕ) → Contains base y → Has marks y) → Has marks (flipped q) → (Has marks q → ⊥) → Contains (get_or after to []) at → IsTended lists held pending q base marks done clause pair at → IsTended after held' rest q base marks' done clause (record { first = other; second = to; at = hint }) at
  tended_moved clause pair other to hint o open_ n to_small done_marked base_marked q_false q_absent there t =
      let f = other_facts clause pair other o t in
      record {
        pair_of = record { first = f.among; second = open_.among; apart = λ e. n (sym e); first_small = f.small; second_small = to_small };
        first = listed_apart other f.apart f.listed;
        second = inl there;
        settled = record { first = λ h. absurd (q_absent (f.settled h)); second = λ h. absurd (open_.open_ (done_marked (flipped to) h)) };
        rooted = record { first = λ h. absurd (q_absent (base_marked q (f.rooted h))); second = λ h. absurd (open_.open_ (base_marked (flipped to) h)) };
        here = inr record { first = λ e. absurd (f.apart e); second = λ e. absurd (open_.open_ (subst (λ w. Has marks (flipped w)) (sym e) q_false)) };
      }

pub grown_cases : (lists : List (List ℕ)) (place k x j : ℕ) → place < length lists → Contains (get_or (set lists place (get_or lists place [] ++ k ∷ [])) x []) j → Contains (get_or lists x []) j ⊎ (j ≡ k)
grown_cases lists place k x j l h =
    (elim (cases_eq x place) [
      | inl e ↦ (elim (Contains-push_cases (get_or lists place []) k j (subst (λ w. Contains w j) (get_or-set_same lists place (get_or lists place [] ++ k ∷ []) [] l) (subst (λ w. Contains (get_or (set lists place (get_or lists place [] ++ k ∷ [])) w []) j) e h))) [
        | inl old ↦ inl (subst (λ w. Contains (get_or lists w []) j) (sym e) old)
        | inr f ↦ inr (sym f)
      ])
      | inr n ↦ inl (subst (λ w. Contains w j) (get_or-set_other lists place x (get_or lists place [] ++ k ∷ []) [] n) h)
    ])

module _ (formula : List (List ℕ)) (pairs : List WatchedPair) (lists : List (List ℕ)) (units base : List ℕ) (held rest : List ℕ) (q : ℕ) (marks : List Bool) (done : List ℕ) (at : ℕ) (entry : IsEntry formula pairs at) (w : IsWatch formula pairs lists units base held (rest ++ at ∷ []) q marks done) where
  -- the clause at hand was looked at
  pub step_on : (pairs' : List WatchedPair) (lists' : List (List ℕ)) (held' : List ℕ) (marks' : List Bool) → IsWithout held held' at → ListsGrow lists lists' → Grows marks marks' → length pairs' ≡ length pairs → length lists' ≡ length lists → ((x j : ℕ) → Contains (get_or lists' x []) j → Contains (get_or lists x []) j ⊎ (j ≡ at)) → ((k : ℕ) → k ≢ at → get_or pairs' k no_pair ≡ get_or pairs k no_pair) → IsPairOf (get_or formula at []) (get_or pairs' at no_pair) → (IsTended lists held (rest ++ at ∷ []) q base marks done (get_or formula at []) (get_or pairs at no_pair) at → IsTended lists' held' rest q base marks' done (get_or formula at []) (get_or pairs' at no_pair) at) → IsWatch formula pairs' lists' units base held' rest q marks' done
  step_on pairs' lists' held' marks' without lists_grow marks_grow counted sized from others pair_of tended = record {
    counted = counted ∙ w.counted;
    sized = sized ∙ w.sized;
    entries = λ x k h. (elim (from x k h) [ inl old ↦ entry' k (w.entries x k old) | inr e ↦ subst (λ m. IsEntry formula pairs' m) (sym e) here ]);
    left = λ k h. entry' k (w.left k (without.only k h));
    done_marked = λ y h. marks_grow y (w.done_marked y h);
    base_marked = λ y h. marks_grow y (w.base_marked y h);
    clauses = λ k l. (elim (w.clauses k l) [
      | inr s ↦ inr s
      | inl t ↦ inl (elim (cases_eq k at) [
        | inl e ↦ subst (λ m. IsTended lists' held' rest q base marks' done (get_or formula m []) (get_or pairs' m no_pair) m) (sym e) (tended (subst (λ m. IsTended lists held (rest ++ at ∷ []) q base marks done (get_or formula m []) (get_or pairs m no_pair) m) e t))
        | inr n ↦ subst (λ p. IsTended lists' held' rest q base marks' done (get_or formula k []) p k) (sym (others k n)) (tended_kept lists lists' held held' (rest ++ at ∷ []) rest q marks marks' base done at refl without.others lists_grow marks_grow (get_or formula k []) (get_or pairs k no_pair) k n t)
      ])
    ]);
  } where
    here : IsEntry formula pairs' at
    here = record { in_range = entry.in_range; pair_of = pair_of }

    entry' : (k : ℕ) → IsEntry formula pairs k → IsEntry formula pairs' k
    entry' k e =
        (elim (cases_eq k at) [
          | inl f ↦ subst (λ m. IsEntry formula pairs' m) (sym f) here
          | inr n ↦ record { in_range = e.in_range; pair_of = subst (λ p. IsPairOf (get_or formula k []) p) (sym (others k n)) e.pair_of }
        ])

  lists_same : ListsGrow lists lists
  lists_same x k h = h

  held_same : IsWithout held held at
  held_same = record { others = λ k n h. h; only = λ k h. h }

  pub step_dropped : (held' : List ℕ) → IsWithout held held' at → (get_or pairs at no_pair).first ≢ q → (get_or pairs at no_pair).second ≢ q → IsWatch formula pairs lists units base held' rest q marks done
  step_dropped held' without n m = step_on pairs lists held' marks without lists_same (λ x h. h) refl refl (λ x j h. inl h) (λ k ne. refl) entry.pair_of (tended_dropped lists lists held held' (rest ++ at ∷ []) rest q marks marks base done at refl without.others lists_same (λ x h. h) (get_or formula at []) (get_or pairs at no_pair) n m)

  -- the clause stays in the list of q, and marks may have grown
  pub step_stays : (marks' : List Bool) (other : ℕ) → Grows marks marks' → IsOther (get_or pairs at no_pair) q other → Has marks' other → IsWatch formula pairs lists units base held rest q marks' done
  step_stays marks' other grows o h =
      step_on pairs lists held marks' held_same lists_same grows refl refl (λ x j g. inl g) (λ k ne. refl) entry.pair_of (tended_stays lists lists held held (rest ++ at ∷ []) rest q marks marks' base done at refl held_same.others lists_same grows (get_or formula at []) (get_or pairs at no_pair) other o h (λ g. g))

  -- the clause goes to another list
  pub step_moved : (held' : List ℕ) (other to hint : ℕ) → IsWithout held held' at → to ≤ 8191 → IsClean marks → Has marks (flipped q) → q ≤ 8191 → IsOther (get_or pairs at no_pair) q other → IsOpen marks (get_or formula at []) to → to ≢ other → IsWatch formula (set pairs at (record { first = other; second = to; at = hint })) (set lists to (get_or lists to [] ++ at ∷ [])) units base held' rest q marks done
  step_moved held' other to hint without small clean q_false q_small o open_ n =
      let sized : length lists ≡ 8192 = w.sized in
      let l : to < length lists = omega arith in
      let counted : length pairs ≡ length formula = w.counted in
      let in_range : at < length formula = entry.in_range in
      let m : at < length pairs = omega arith in
      let new : WatchedPair = record { first = other; second = to; at = hint } in
      let same : get_or (set pairs at new) at no_pair ≡ new = get_or-set_same pairs at new no_pair m in
      let other_of : Contains (get_or formula at []) other = (elim o [
        | inl s ↦ subst (λ z. Contains (get_or formula at []) z) (sym s.1) entry.pair_of.second
        | inr s ↦ subst (λ z. Contains (get_or formula at []) z) (sym s.1) entry.pair_of.first
      ]) in
      let other_small : other ≤ 8191 = (elim o [
        | inl s ↦ subst (λ z. z ≤ 8191) (sym s.1) entry.pair_of.second_small
        | inr s ↦ subst (λ z. z ≤ 8191) (sym s.1) entry.pair_of.first_small
      ]) in
      step_on (set pairs at new) (set lists to (get_or lists to [] ++ at ∷ [])) held' marks without (grown lists to at l) (λ x h. h) (length-set pairs at new) (length-set lists to (get_or lists to [] ++ at ∷ [])) (λ x j g. grown_cases lists to at x j l g) (λ k ne. get_or-set_other pairs at k new no_pair ne)
      (subst (λ p. IsPairOf (get_or formula at []) p) (sym same) record { first = other_of; second = open_.among; apart = λ e. n (sym e); first_small = other_small; second_small = small })
      (λ t. subst (λ p. IsTended (set lists to (get_or lists to [] ++ at ∷ [])) held' rest q base marks done (get_or formula at []) p at) (sym same) (tended_moved lists (set lists to (get_or lists to [] ++ at ∷ [])) held held' (rest ++ at ∷ []) rest q marks marks base done at refl without.others (grown lists to at l) (λ x h. h) (get_or formula at []) (get_or pairs at no_pair) other to hint o open_ n small w.done_marked w.base_marked q_false (λ h. clean q h q_false) (pushed lists to at l) t))

-- ---- the arms of a turn, over plain variables

module _ (formula : List (List ℕ)) (pairs : List WatchedPair) (lists : List (List ℕ)) (q : ℕ) (marks : List Bool) (number : ℕ) (pair : WatchedPair) (entry : IsEntry formula pairs number) (pair_is : pair ≡ get_or pairs number no_pair) where
  pub arm_drop : IsTurn marks (get_or formula number []) pair q turn.Drop → IsTaken formula number q pairs lists marks pairs lists marks look.Leaves
  arm_drop t units base held held' rest done without w =
      step_dropped formula pairs lists units base held rest q marks done number entry w held' without (λ e. t.0 (ap (λ (p : WatchedPair). p.first) pair_is ∙ e)) (λ e. t.1 (ap (λ (p : WatchedPair). p.second) pair_is ∙ e))

  pub arm_stay : IsTurn marks (get_or formula number []) pair q turn.Stay → IsTaken formula number q pairs lists marks pairs lists marks look.Stays
  arm_stay (other, o, h) units base held rest done w =
      step_stays formula pairs lists units base held rest q marks done number entry w marks other (λ x g. g) (subst (λ p. IsOther p q other) pair_is o) h

  pub arm_move : (pairs' : List WatchedPair) (lists' : List (List ℕ)) (other to hint : ℕ) → pairs' ≡ set pairs number (record { first = other; second = to; at = hint }) → lists' ≡ set lists to (get_or lists to [] ++ number ∷ []) → IsClean marks → Has marks (flipped q) → q ≤ 8191 → IsTurn marks (get_or formula number []) pair q (turn.Move other to hint) → IsTaken formula number q pairs lists marks pairs' lists' marks look.Leaves
  arm_move pairs' lists' other to hint d e clean q_false small t units base held held' rest done without w =
      subst (λ z. IsWatch formula z lists' units base held' rest q marks done) (sym d) (subst (λ z. IsWatch formula (set pairs number (record { first = other; second = to; at = hint })) z units base held' rest q marks done) (sym e) (step_moved formula pairs lists units base held rest q marks done number entry w held' other to hint without t.3 clean q_false small (subst (λ p. IsOther p q other) pair_is t.0) t.1 t.2))

  -- the list of q is not the one that the clause goes to
  pub arm_out : (lists' : List (List ℕ)) (other to hint : ℕ) → lists' ≡ set lists to (get_or lists to [] ++ number ∷ []) → Has marks (flipped q) → IsTurn marks (get_or formula number []) pair q (turn.Move other to hint) → get_or lists' q [] ≡ get_or lists q []
  arm_out lists' other to hint e q_false t =
      ap (λ z. get_or z q []) e ∙ get_or-set_other lists to q (get_or lists to [] ++ number ∷ []) [] (λ f. t.1.open_ (subst (λ z. Has marks (flipped z)) f q_false))

  pub arm_force : (marks' : List Bool) (other : ℕ) → length marks ≡ 8192 → marks' ≡ set marks other true → IsTurn marks (get_or formula number []) pair q (turn.Force other) → IsTaken formula number q pairs lists marks pairs lists marks' look.Stays
  arm_force marks' other size m t units base held rest done w =
      let u : IsUnit marks (get_or formula number []) other = t.1 in
      let other_small : other ≤ 8191 = u.small in
      let l : other < length marks = omega arith in
      subst (λ z. IsWatch formula pairs lists units base held rest q z done) (sym m) (step_stays formula pairs lists units base held rest q marks done number entry w (set marks other true) other (λ x g. has_kept marks other x l g) (subst (λ p. IsOther p q other) pair_is t.0) (get_or-set_same marks other true false l))

  among : Contains formula (get_or formula number [])
  among = Contains-get_or formula number [] entry.in_range

  pub arm_sound : (marks' : List Bool) (other : ℕ) → length marks ≡ 8192 → marks' ≡ set marks other true → IsTurn marks (get_or formula number []) pair q (turn.Force other) → KeepsSound formula marks marks'
  arm_sound marks' other size m t start s =
      subst (λ z. IsSound formula start z) (sym m) (unit_sound formula marks other size (get_or formula number []) among t.1 start s)

  pub arm_conflict : IsTurn marks (get_or formula number []) pair q turn.Conflict → IsTaken formula number q pairs lists marks pairs lists marks look.IsFalse
  arm_conflict t = (refl, refl, (get_or formula number [], among, t))

pub clean_added : (marks : List Bool) (clause : List ℕ) (x : ℕ) → length marks ≡ 8192 → IsClean marks → IsUnit marks clause x → IsClean (set marks x true)
clean_added marks clause x size clean u y h g =
    let small : x ≤ 8191 = u.small in
    let in' : x < length marks = omega arith in
    (elim (has_set marks x y in' h) [
      | inl e ↦ (elim (has_set marks x (flipped y) in' g) [
        | inl f ↦ absurd (omega arith)
        | inr old ↦ u.here.open_ (subst (λ w. Has marks (flipped w)) e old)
      ])
      | inr held ↦ (elim (has_set marks x (flipped y) in' g) [
        | inl f ↦ (let yl : y < length marks = has_small marks y held in let back : y ≡ flipped x = omega arith in u.here.open_ (subst (λ w. Has marks w) back held))
        | inr old ↦ clean y held old
      ])
    ])
