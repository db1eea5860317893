-- One clause more.
use Rattle.std.proofs.Common.{◌≡◌, ℕ, ◌<◌, ◌≤◌, ◌+◌, List, [], ◌∷◌, ◌++◌, ◌⊎◌, inl, inr, Bool, true, false, length, get_or, set, sym, refl, ap, ◌∙◌, subst, arith, length-append}
use Rattle.std.specs.List.{Contains, All}
use Rattle.std.proofs.lemmas.Bool.{cases_eq}
use Rattle.std.proofs.lemmas.List.{get_or_append_left, get_or_push, length-set}
use Rattle.std.proofs.lemmas.List.Elements.{All-contains, Contains-append_left, Contains-push}
use Rattle.rup_check.specs.Propagation.{Conflicts, IsFalsified}
use Rattle.rup_check.specs.Assignments.{flipped, Has, IsAssignment, IsSound}
use Rattle.rup_check.specs.Looks.{IsOpen, IsUnit, OthersFalse}
use Rattle.rup_check.specs.Sets.{KeepsSound, HasFalse}
use Rattle.rup_check.specs.Watches.{IsPairOf, IsState, IsKept, NeedsNoWatch, IsCovered, IsCoveredBySome, Covers, IsEntry, IsEnded, IsRest, IsRoot, AreListed, Extends, no_pair}
use Rattle.rup_check.specs.declared.watches.WatchedPair.{WatchedPair}
use Rattle.rup_check.proofs.WatchLaws.{ListsGrow, grown, pushed, grown_cases}
use Rattle.rup_check.proofs.MarkLaws.{unit_sound, has_kept}
use Rattle.rup_check.proofs.StateLaws.{covered_on, marked_more, settled_down}
use Rattle.rup_check.proofs.RunLaws.{contains_front}
use Rattle.rup_check.proofs.PropagationLaws.{forced_grow, conflicts_grow}

module _ (formula : List (List ℕ)) (pairs : List WatchedPair) (lists lists' : List (List ℕ)) (units units' base : List ℕ) (marks : List Bool) (done : List ℕ) (clause : List ℕ) (p : WatchedPair) (s : IsState formula pairs lists units base marks done) (sized : length lists' ≡ length lists) (lists_grow : ListsGrow lists lists') (units_grow : (x : ℕ) → Contains units x → Contains units' x) (entries' : (x k : ℕ) → Contains (get_or lists' x []) k → Contains (get_or lists x []) k ⊎ ((k ≡ length formula) × IsPairOf clause p)) (here : IsKept lists' base marks done clause p (length formula) ⊎ NeedsNoWatch formula units' clause (length formula)) where
  old_clause : (k : ℕ) → k < length formula → get_or (formula ++ clause ∷ []) k [] ≡ get_or formula k []
  old_clause k l = get_or_append_left formula (clause ∷ []) [] k l

  old_pair : (k : ℕ) → k < length formula → get_or (pairs ++ p ∷ []) k no_pair ≡ get_or pairs k no_pair
  old_pair k l = let c : length pairs ≡ length formula = s.counted in get_or_append_left pairs (p ∷ []) no_pair k (omega arith)

  new_clause : get_or (formula ++ clause ∷ []) (length formula) [] ≡ clause
  new_clause = get_or_push formula clause [] (length formula) refl

  new_pair : get_or (pairs ++ p ∷ []) (length formula) no_pair ≡ p
  new_pair = get_or_push pairs p no_pair (length formula) s.counted

  longer : length (formula ++ clause ∷ []) ≡ length formula + 1
  longer = length-append formula (clause ∷ [])

  entry_on : (k : ℕ) → IsEntry formula pairs k → IsEntry (formula ++ clause ∷ []) (pairs ++ p ∷ []) k
  entry_on k i = record {
    in_range = let l : k < length formula = i.in_range in omega (arith, longer);
    pair_of = subst (λ z. IsPairOf z (get_or (pairs ++ p ∷ []) k no_pair)) (sym (old_clause k i.in_range)) (subst (λ z. IsPairOf (get_or formula k []) z) (sym (old_pair k i.in_range)) i.pair_of);
  }

  entry_new : IsPairOf clause p → IsEntry (formula ++ clause ∷ []) (pairs ++ p ∷ []) (length formula)
  entry_new i = record {
    in_range = omega (arith, longer);
    pair_of = subst (λ z. IsPairOf z (get_or (pairs ++ p ∷ []) (length formula) no_pair)) (sym new_clause) (subst (λ z. IsPairOf clause z) (sym new_pair) i);
  }

  kept_on : (k : ℕ) → IsKept lists base marks done (get_or formula k []) (get_or pairs k no_pair) k → IsKept lists' base marks done (get_or formula k []) (get_or pairs k no_pair) k
  kept_on k t = record {
    pair_of = t.pair_of;
    first = lists_grow (get_or pairs k no_pair).first k t.first;
    second = lists_grow (get_or pairs k no_pair).second k t.second;
    settled = t.settled;
    rooted = t.rooted;
  }

  covered_more : (c : List ℕ) (k : ℕ) → k ≤ length formula → IsCovered formula units' c k → IsCovered (formula ++ clause ∷ []) units' c k
  covered_more c k l t = record { by = t.by; earlier = t.earlier; covers = (let e = t.earlier in subst (λ z. Covers units' z c) (sym (old_clause t.by (omega arith))) t.covers) }

  short_here : (c : List ℕ) (k : ℕ) → k ≤ length formula → NeedsNoWatch formula units' c k → NeedsNoWatch (formula ++ clause ∷ []) units' c k
  short_here c k l (inl h) = inl h
  short_here c k l (inr t) = inr (covered_more c k l t)

  short_on : (c : List ℕ) (k : ℕ) → k ≤ length formula → NeedsNoWatch formula units c k → NeedsNoWatch (formula ++ clause ∷ []) units' c k
  short_on c k l (inl (x, u, m)) = inl (x, units_grow x u, m)
  short_on c k l (inr t) = inr (covered_more c k l (covered_on formula units units' c k units_grow t))

  abbrev Tended : List ℕ → WatchedPair → ℕ → Type 0
  Tended c q k = IsKept lists' base marks done c q k ⊎ NeedsNoWatch (formula ++ clause ∷ []) units' c k

  tended_here : Tended clause p (length formula)
  tended_here = elim here [ inl t ↦ inl t | inr t ↦ inr (short_here clause (length formula) (omega arith) t) ]

  pub state_grown : IsState (formula ++ clause ∷ []) (pairs ++ p ∷ []) lists' units' base marks done
  state_grown = record {
    counted = length-append pairs (p ∷ []) ∙ ap (λ n. n + 1) s.counted ∙ sym longer;
    sized = sized ∙ s.sized;
    entries = λ x k h. (elim (entries' x k h) [ inl i ↦ entry_on k (s.entries x k i) | inr i ↦ subst (λ z. IsEntry (formula ++ clause ∷ []) (pairs ++ p ∷ []) z) (sym i.0) (entry_new i.1) ]);
    done_marked = s.done_marked;
    base_marked = s.base_marked;
    clauses = λ k l. (elim (cases_eq k (length formula)) [
      | inl f ↦ subst (λ z. Tended (get_or (formula ++ clause ∷ []) z []) (get_or (pairs ++ p ∷ []) z no_pair) z) (sym f) (subst (λ z. Tended z (get_or (pairs ++ p ∷ []) (length formula) no_pair) (length formula)) (sym new_clause) (subst (λ z. Tended clause z (length formula)) (sym new_pair) tended_here))
      | inr n ↦ (let m : k < length formula = omega (arith, longer) in subst (λ z. Tended z (get_or (pairs ++ p ∷ []) k no_pair) k) (sym (old_clause k m)) (subst (λ z. Tended (get_or formula k []) z k) (sym (old_pair k m)) (elim (s.clauses k m) [
        | inl t ↦ inl (kept_on k t)
        | inr t ↦ inr (short_on (get_or formula k []) k (omega arith) t)
      ])))
    ]);
  }

lists_same : (lists : List (List ℕ)) → ListsGrow lists lists
lists_same lists x k h = h

in_more : (formula : List (List ℕ)) (clause c : List ℕ) → Contains formula c → Contains (formula ++ clause ∷ []) c
in_more formula clause c h = Contains-append_left formula (clause ∷ []) c h

sound_more : (formula : List (List ℕ)) (clause : List ℕ) (marks : List Bool) → IsSound formula [] marks → IsSound (formula ++ clause ∷ []) [] marks
sound_more formula clause marks s = record {
  within = λ x h. forced_grow flipped formula (formula ++ clause ∷ []) [] [] (in_more formula clause) (λ y g. g) x (s.within x h);
  consistent = s.consistent;
}

false_conflicts : (formula : List (List ℕ)) (marks : List Bool) → IsSound formula [] marks → HasFalse formula marks → Conflicts flipped formula []
false_conflicts formula marks s (clause, c, f) = inl (clause, c, λ y m. s.within (flipped y) (f y m))

pub still_refuted : (formula more : List (List ℕ)) (clause : List ℕ) → more ≡ formula ++ clause ∷ [] → Conflicts flipped formula [] → Conflicts flipped more []
still_refuted formula more clause m c =
    subst (λ z. Conflicts flipped z []) (sym m) (conflicts_grow flipped formula (formula ++ clause ∷ []) [] [] (in_more formula clause) (λ y g. g) c)

-- ---- the kinds of a clause

module _ (formula more : List (List ℕ)) (pairs pairs' : List WatchedPair) (lists : List (List ℕ)) (marks : List Bool) (trail : List ℕ) (clause : List ℕ) (more_is : more ≡ formula ++ clause ∷ []) (r : IsRest formula pairs lists marks trail) where
  rest_by : (p : WatchedPair) (lists' : List (List ℕ)) → pairs' ≡ pairs ++ p ∷ [] → IsState (formula ++ clause ∷ []) (pairs ++ p ∷ []) lists' trail trail marks trail → IsRest more pairs' lists' marks trail
  rest_by p lists' e s =
      subst (λ z. IsRest z pairs' lists' marks trail) (sym more_is) (subst (λ z. IsRest (formula ++ clause ∷ []) z lists' marks trail) (sym e) record { assigned = r.assigned; sound = sound_more formula clause marks r.sound; state = s })

  pub rest_true : pairs' ≡ pairs ++ no_pair ∷ [] → (x : ℕ) → Contains clause x → Has marks x → IsRest more pairs' lists marks trail
  rest_true e x m h =
      rest_by no_pair lists e (state_grown formula pairs lists lists trail trail trail marks trail clause no_pair r.state refl (lists_same lists) (λ y g. g) (λ y k g. inl g) (inr (inl (x, r.assigned.listed x h, m))))

  pub rest_covered : pairs' ≡ pairs ++ no_pair ∷ [] → IsCoveredBySome formula trail clause → IsRest more pairs' lists marks trail
  rest_covered e t =
      rest_by no_pair lists e (state_grown formula pairs lists lists trail trail trail marks trail clause no_pair r.state refl (lists_same lists) (λ y g. g) (λ y k g. inl g) (inr (inr t)))

  pub root_false : IsFalsified flipped (Has marks) clause → Conflicts flipped more []
  root_false f =
      subst (λ z. Conflicts flipped z []) (sym more_is) (false_conflicts (formula ++ clause ∷ []) marks (sound_more formula clause marks r.sound) (clause, Contains-push formula clause, f))

  pub rest_long : (p : WatchedPair) (lists' : List (List ℕ)) → pairs' ≡ pairs ++ p ∷ [] → AreListed lists lists' p (length pairs) → IsPairOf clause p → IsOpen marks clause p.first → IsOpen marks clause p.second → IsRest more pairs' lists' marks trail
  rest_long p after e (middle, m, a) i first_open second_open =
      let sized : length lists ≡ 8192 = r.state.sized in
      let counted : length pairs ≡ length formula = r.state.counted in
      let m' : middle ≡ set lists p.first (get_or lists p.first [] ++ length formula ∷ []) = m ∙ ap (λ z. set lists p.first (get_or lists p.first [] ++ z ∷ [])) counted in
      let a' : after ≡ set middle p.second (get_or middle p.second [] ++ length formula ∷ []) = a ∙ ap (λ z. set middle p.second (get_or middle p.second [] ++ z ∷ [])) counted in
      let first_small : p.first ≤ 8191 = i.first_small in
      let second_small : p.second ≤ 8191 = i.second_small in
      let l1 : p.first < length lists = omega arith in
      let s1 : length middle ≡ length lists = ap length m' ∙ length-set lists p.first (get_or lists p.first [] ++ length formula ∷ []) in
      let l2 : p.second < length middle = omega arith in
      let s2 : length after ≡ length middle = ap length a' ∙ length-set middle p.second (get_or middle p.second [] ++ length formula ∷ []) in
      let g1 : ListsGrow lists middle = subst (λ z. ListsGrow lists z) (sym m') (grown lists p.first (length formula) l1) in
      let g2 : ListsGrow middle after = subst (λ z. ListsGrow middle z) (sym a') (grown middle p.second (length formula) l2) in
      let at1 : Contains (get_or middle p.first []) (length formula) = subst (λ z. Contains (get_or z p.first []) (length formula)) (sym m') (pushed lists p.first (length formula) l1) in
      let at2 : Contains (get_or after p.second []) (length formula) = subst (λ z. Contains (get_or z p.second []) (length formula)) (sym a') (pushed middle p.second (length formula) l2) in
      let cases : (x k : ℕ) → Contains (get_or after x []) k → Contains (get_or lists x []) k ⊎ ((k ≡ length formula) × IsPairOf clause p) = (λ x k h. (elim (grown_cases middle p.second (length formula) x k l2 (subst (λ z. Contains (get_or z x []) k) a' h)) [
        | inl g ↦ (elim (grown_cases lists p.first (length formula) x k l1 (subst (λ z. Contains (get_or z x []) k) m' g)) [
          | inl f ↦ inl f
          | inr f ↦ inr (f, i)
        ])
        | inr f ↦ inr (f, i)
      ])) in
      rest_by p after e (state_grown formula pairs lists after trail trail trail marks trail clause p r.state (s2 ∙ s1) (λ x k h. g2 x k (g1 x k h)) (λ x h. h) cases (inl record {
        pair_of = i;
        first = g2 p.first (length formula) at1;
        second = at2;
        settled = record { first = λ h. absurd (first_open.open_ (r.assigned.marked (flipped p.first) h)); second = λ h. absurd (second_open.open_ (r.assigned.marked (flipped p.second) h)) };
        rooted = record { first = λ h. absurd (first_open.open_ (r.assigned.marked (flipped p.first) h)); second = λ h. absurd (second_open.open_ (r.assigned.marked (flipped p.second) h)) };
      }))

  -- a unit, before what it forces is looked at
  module _ (x : ℕ) (marks' : List Bool) (trail' : List ℕ) (u : IsUnit marks clause x) (e : pairs' ≡ pairs ++ no_pair ∷ []) (marks_are : marks' ≡ set marks x true) (trail_is : trail' ≡ trail ++ x ∷ []) where
    in_marks : x < length marks
    in_marks = let small : x ≤ 8191 = u.small in let size : length marks ≡ 8192 = r.assigned.size in omega arith

    pub unit_state : IsState more pairs' lists trail' trail marks' trail
    unit_state =
        subst (λ z. IsState z pairs' lists trail' trail marks' trail) (sym more_is) (subst (λ z. IsState (formula ++ clause ∷ []) z lists trail' trail marks' trail) (sym e)
        (marked_more (formula ++ clause ∷ []) (pairs ++ no_pair ∷ []) lists trail' trail marks marks' trail
        (state_grown formula pairs lists lists trail trail' trail marks trail clause no_pair r.state refl (lists_same lists) (λ y g. subst (λ z. Contains z y) (sym trail_is) (Contains-append_left trail (x ∷ []) y g)) (λ y k g. inl g) (inr (inl (x, subst (λ z. Contains z x) (sym trail_is) (Contains-push trail x), u.here.among))))
        (λ y g. subst (λ z. Has z y) (sym marks_are) (has_kept marks x y in_marks g))))

    pub unit_root_sound : IsSound more [] marks'
    unit_root_sound =
        subst (λ z. IsSound more [] z) (sym marks_are) (subst (λ z. IsSound z [] (set marks x true)) (sym more_is)
        (unit_sound (formula ++ clause ∷ []) marks x r.assigned.size clause (Contains-push formula clause) u [] (sound_more formula clause marks r.sound)))

    -- and after it
    pub unit_root : (pairs'' : List WatchedPair) (lists' : List (List ℕ)) (marks'' : List Bool) (trail'' : List ℕ) (found : Bool) → IsAssignment marks'' trail'' → Extends trail' trail'' → KeepsSound more marks' marks'' → IsEnded more trail' trail pairs'' lists' marks'' trail'' found → IsRoot more pairs'' lists' marks'' trail'' found
    unit_root pairs'' lists' marks'' trail'' true a extends keeps (s, f) = false_conflicts more marks'' (keeps [] unit_root_sound) f
    unit_root pairs'' lists' marks'' trail'' false a extends keeps s = record {
      assigned = a;
      sound = keeps [] unit_root_sound;
      state = settled_down more pairs'' lists' trail' trail marks'' trail'' a (λ y h. contains_front trail' trail'' y extends h) s;
    }

-- a clause that another covers
pub root_covered : (formula more : List (List ℕ)) (pairs pairs' : List WatchedPair) (lists lists' : List (List ℕ)) (marks : List Bool) (trail clause : List ℕ) (b : Bool) → more ≡ formula ++ clause ∷ [] → IsRoot formula pairs lists marks trail b → pairs' ≡ pairs ++ no_pair ∷ [] → lists' ≡ lists → IsCoveredBySome formula trail clause → IsRoot more pairs' lists' marks trail b
root_covered formula more pairs pairs' lists lists' marks trail clause true m r e l t = still_refuted formula more clause m r
root_covered formula more pairs pairs' lists lists' marks trail clause false m r e l t =
    subst (λ z. IsRest more pairs' z marks trail) (sym l) (rest_covered formula more pairs pairs' lists marks trail clause m r e t)

-- ---- what a clause is

pub unit_kind : (marks : List Bool) (clause : List ℕ) (x : ℕ) → All (λ y. y ≤ 8191) clause → ((y : ℕ) → Contains clause y → Has marks y → ⊥) → IsOpen marks clause x → OthersFalse marks clause x → IsUnit marks clause x
unit_kind marks clause x small none o others = record { small = All-contains (λ y. y ≤ 8191) clause x small o.among; here = o; absent = none x o.among; others = others }

pub long_kind : (marks : List Bool) (clause : List ℕ) (p : WatchedPair) → All (λ y. y ≤ 8191) clause → IsOpen marks clause p.first → IsOpen marks clause p.second → (p.second ≡ p.first → ⊥) → IsPairOf clause p
long_kind marks clause p small o q n = record {
  first = o.among;
  second = q.among;
  apart = λ e. n (sym e);
  first_small = All-contains (λ y. y ≤ 8191) clause p.first small o.among;
  second_small = All-contains (λ y. y ≤ 8191) clause p.second small q.among;
}
