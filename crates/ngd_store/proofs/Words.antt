-- Words and ends of steps, as more are added.
use Rattle.std.proofs.Common.{◌≡◌, ℕ, zero, suc, ◌+◌, ◌-◌, ◌<◌, ◌≤◌, ◌==◌, false, List, [], ◌∷◌, ◌++◌, length, take, drop, get_or, Option, Some, None, inl, inr, refl, sym, ap, ◌∙◌, subst, arith, append_assoc, append-nil}
use Rattle.std.proofs.lemmas.List.{take-append-le, drop-append-le, length-take-le, length-take, length-drop, length-append, take-append-drop}
use Rattle.std.proofs.Math.Seq.{drop-append_seam, take-append_seam, take-length}
use Rattle.dcsp_defs.specs.declared.Reason.{Reason}
use Rattle.dcsp_defs.specs.declared.Reason.TheVariants.{Rule, Earlier}
use Rattle.std.proofs.lemmas.Bool.{ne_eqb}
use Rattle.std.specs.Prelude.{IsSome, Result, Ok, Err, OnErr}
use Rattle.std.specs.Option.{option_to_list}
use Rattle.ngd_store.specs.declared.rests.TheConstants.{A_STEP, FAR_RULE}
use Rattle.ngd_store.specs.Rests.{values_below, Rest, variable_in, reasons_in, rest_in, start_at, end_at, part, rest_at, rests_in, AreEnds, HasAdded, HasAddedRest, IsFar}
use Rattle.ngd_store.proofs.Growing.{compared}
use Rattle.ngd_store.proofs.Growing.{index_before, index_last, length_more}
use Rattle.ngd_store.proofs.Below.{below_length, below_same}

-- a part of the words depends on those in front of its end alone
pub part_same : (old new : List ℕ) (start end : ℕ) → start ≤ end → end ≤ length old → end ≤ length new → take end new ≡ take end old → part new start end ≡ part old start end
part_same old new start end a b c e = in_front new c ∙ (ap (λ (xs : List ℕ). part xs start end) e ∙ sym (in_front old b))
  where
    in_front : (xs : List ℕ) → end ≤ length xs → part xs start end ≡ part (take end xs) start end
    in_front xs l =
        let n = length-take-le end xs l in
        let m = length-drop start (take end xs) in
        ap (λ (ys : List ℕ). part ys start end) (sym (take-append-drop end xs))
        ∙ (ap (take (end - start)) (drop-append-le start (take end xs) (drop end xs) (omega (arith, n, a)))
        ∙ take-append-le (end - start) (drop start (take end xs)) (drop end xs) (omega (arith, n, m, a)))

pub start_before : (ends : List ℕ) (end k : ℕ) → k ≤ length ends → start_at (ends ++ end ∷ []) k ≡ start_at ends k
start_before ends end zero l = refl
start_before ends end (suc k) l = index_before ends end 0 k (omega (arith, l))

-- how far the words of the steps reach
abbrev pub last_end : List ℕ → ℕ
last_end ends = start_at ends (length ends)

pub end_below : (words ends : List ℕ) → AreEnds words ends → last_end ends ≤ length words
end_below words [] h = omega arith
end_below words (e ∷ es) h = (h (length es) (omega arith)).within

-- ends rise
pub ends_rise : (words ends : List ℕ) → AreEnds words ends → (k : ℕ) → k < length ends → end_at ends k ≤ last_end ends
ends_rise words ends h k l = up_to (length ends) (omega arith) k l
  where
    up_to : (n : ℕ) → n ≤ length ends → (k : ℕ) → k < n → end_at ends k ≤ start_at ends n
    up_to zero m k l = absurd (omega (arith, l))
    up_to (suc n) m k l = elim (compared k n) [
      | inl less ↦ (let r = up_to n (omega (arith, m)) k less in let a = (h n (omega (arith, m))).after in omega (arith, r, a))
      | inr r ↦ elim r [
        | inl e ↦ rw e (omega arith)
        | inr more ↦ absurd (omega (arith, l, more))
      ]
    ]

-- words that are the same as far as the steps reach
pub ends_same : (old new ends : List ℕ) → AreEnds old ends → last_end ends ≤ length new → AreEnds new ends
ends_same old new ends h l = λ k m. record { after = (h k m).after; within = let r = ends_rise old ends h k m in omega (arith, r, l) }

pub rests_same : (old new ends : List ℕ) → AreEnds old ends → last_end ends ≤ length new → take (last_end ends) new ≡ take (last_end ends) old → rests_in new ends ≡ rests_in old ends
rests_same old new ends h l e = below_same (rest_at new ends) (rest_at old ends) (length ends) (λ k m.
    let r = ends_rise old ends h k m in
    let a = (h k m).after in
    let w = (h k m).within in
    ap rest_in (part_same old new (start_at ends k) (end_at ends k) a w (omega (arith, r, l)) (shorter k r)))
  where
    shorter : (k : ℕ) → end_at ends k ≤ last_end ends → take (end_at ends k) new ≡ take (end_at ends k) old
    shorter k r = twice new r l ∙ (ap (take (end_at ends k)) e ∙ sym (twice old r (end_below old ends h)))
      where
        twice : (xs : List ℕ) → end_at ends k ≤ last_end ends → last_end ends ≤ length xs → take (end_at ends k) xs ≡ take (end_at ends k) (take (last_end ends) xs)
        twice xs r l =
            let n = length-take-le (last_end ends) xs l in
            ap (take (end_at ends k)) (sym (take-append-drop (last_end ends) xs)) ∙ take-append-le (end_at ends k) (take (last_end ends) xs) (drop (last_end ends) xs) (omega (arith, n, r))

module _ (old new ends : List ℕ) (h : AreEnds old ends) (rest : Rest) (added : List ℕ) (same : new ≡ take (last_end ends) old ++ added) (read : rest_in added ≡ rest) where
  front : length (take (last_end ends) old) ≡ last_end ends
  front = length-take-le (last_end ends) old (end_below old ends h)

  long : length new ≡ last_end ends + length added
  long = ap length same ∙ (length-append (take (last_end ends) old) added ∙ ap (λ n. n + length added) front)

  kept : take (last_end ends) new ≡ take (last_end ends) old
  kept = ap (take (last_end ends)) same ∙ (ap (λ n. take n (take (last_end ends) old ++ added)) (sym front) ∙ take-append_seam (take (last_end ends) old) added)

  -- with one step more
  pub ends_more : AreEnds new (ends ++ length new ∷ [])
  ends_more = λ k l. elim (compared k (length ends)) [
    | inl less ↦
        let a = (h k less).after in
        let r = ends_rise old ends h k less in
        let s = start_before ends (length new) k (omega (arith, less)) in
        let e = index_before ends (length new) 0 k less in
        record { after = omega (arith, a, s, e); within = omega (arith, r, e, long) }
    | inr r ↦ elim r [
      | inl e ↦
          let s = start_before ends (length new) k (omega (arith, e)) in
          let t = ap (start_at ends) e in
          let i = ap (λ j. get_or (ends ++ length new ∷ []) j 0) e ∙ index_last ends (length new) 0 in
          record { after = omega (arith, s, t, i, long); within = omega (arith, i) }
      | inr more ↦ absurd (let n = length_more ends (length new) in omega (arith, l, more, n))
    ]
  ]

  pub rests_more : rests_in new (ends ++ length new ∷ []) ≡ rests_in old ends ++ rest ∷ []
  rests_more =
      ap (values_below (rest_at new (ends ++ length new ∷ []))) (length_more ends (length new))
      ∙ (ap (λ xs. xs ++ rest_at new (ends ++ length new ∷ []) (length ends) ∷ []) before
      ∙ ap (λ x. rests_in old ends ++ x ∷ []) here)
    where
      before : values_below (rest_at new (ends ++ length new ∷ [])) (length ends) ≡ rests_in old ends
      before =
          below_same (rest_at new (ends ++ length new ∷ [])) (rest_at new ends) (length ends) (λ k l.
          ap (λ s. rest_in (part new s (end_at (ends ++ length new ∷ []) k))) (start_before ends (length new) k (omega (arith, l)))
          ∙ ap (λ e. rest_in (part new (start_at ends k) e)) (index_before ends (length new) 0 k l))
          ∙ rests_same old new ends h (omega (arith, long)) kept

      here : rest_at new (ends ++ length new ∷ []) (length ends) ≡ rest
      here =
          let e : length new - last_end ends ≡ length added = omega (arith, long) in
          let d : drop (last_end ends) new ≡ added = ap (drop (last_end ends)) same ∙ (ap (λ n. drop n (take (last_end ends) old ++ added)) (sym front) ∙ drop-append_seam (take (last_end ends) old) added) in
          ap (λ s. rest_in (part new s (end_at (ends ++ length new ∷ []) (length ends)))) (start_before ends (length new) (length ends) (omega arith))
          ∙ (ap (λ f. rest_in (part new (last_end ends) f)) (index_last ends (length new) 0)
          ∙ (ap (λ xs. rest_in (take (length new - last_end ends) xs)) d ∙ (ap (λ n. rest_in (take n added)) e ∙ (ap rest_in (take-length added) ∙ read))))

-- without the last
pub ends_less : (words ends : List ℕ) (end : ℕ) → AreEnds words (ends ++ end ∷ []) → AreEnds words ends
ends_less words ends end h = λ k l.
    let m = length_more ends end in
    let w = h k (omega (arith, l, m)) in
    let a = w.after in
    let b = w.within in
    let s = start_before ends end k (omega (arith, l)) in
    let e = index_before ends end 0 k l in
    record { after = omega (arith, a, s, e); within = omega (arith, b, e) }

-- ---- words that stand for reasons

pub added_none : (words : List ℕ) → HasAdded words words []
added_none words = record { added = []; same = sym (append-nil words); read = λ more. refl }

pub added_more : (old mid new : List ℕ) (rs : List Reason) (r : Reason) → HasAdded old mid rs → HasAdded mid new (r ∷ []) → HasAdded old new (rs ++ r ∷ [])
added_more old mid new rs r h k = record {
  added = h.added ++ k.added;
  same = k.same ∙ (ap (λ (xs : List ℕ). xs ++ k.added) h.same ∙ append_assoc old h.added k.added);
  read = λ more.
      ap reasons_in (append_assoc h.added k.added more)
      ∙ (h.read (k.added ++ more)
      ∙ (ap (λ (xs : List Reason). rs ++ xs) (k.read more) ∙ sym (append_assoc rs (r ∷ []) (reasons_in more))));
}

pub added_kept : (old new : List ℕ) (rs : List Reason) → HasAdded old new rs → take (length old) new ≡ old
added_kept old new rs h = ap (take (length old)) h.same ∙ take-append_seam old h.added

pub put_kept : (old new more : List ℕ) → new ≡ old ++ more → take (length old) new ≡ old
put_kept old new more e = ap (take (length old)) e ∙ take-append_seam old more

-- words that were kept before and after
pub kept_both : (old mid new : List ℕ) → length old ≤ length mid → take (length old) mid ≡ old → take (length mid) new ≡ mid → take (length old) new ≡ old
kept_both old mid new l e f = by_parts
  where
    by_parts : take (length old) new ≡ old
    by_parts =
        ap (take (length old)) (sym (take-append-drop (length mid) new))
        ∙ (ap (λ (xs : List ℕ). take (length old) (xs ++ drop (length mid) new)) f
        ∙ (take-append-le (length old) mid (drop (length mid) new) l ∙ e))

pub rest_added : (old mid new : List ℕ) (word : ℕ) (variable : Option ℕ) (rs : List Reason) → mid ≡ old ++ word ∷ [] → variable_in word ≡ variable → HasAdded mid new rs → HasAddedRest old new (record { variable = variable; reasons = rs })
rest_added old mid new word variable rs e v h = record {
  added = word ∷ h.added;
  same = h.same ∙ (ap (λ (xs : List ℕ). xs ++ h.added) e ∙ append_assoc old (word ∷ []) h.added);
  read =
      ap (λ (o : Option ℕ). rest_with o (reasons_in h.added)) v
      ∙ ap (rest_with variable) (ap reasons_in (sym (append-nil h.added)) ∙ (h.read [] ∙ append-nil rs));
}
  where
    rest_with : Option ℕ → List Reason → Rest
    rest_with o xs = record { variable = o; reasons = xs }

-- a word below the marks is a rule
near : (word : ℕ) (more : List ℕ) → word < FAR_RULE → reasons_in (word ∷ more) ≡ Rule word ∷ reasons_in more
near word [] l = refl
near word (a ∷ []) l = refl
near word (a ∷ b ∷ more) l =
    let e : (word == A_STEP) ≡ false = ne_eqb word A_STEP (λ e. omega (arith, l, e)) in
    let f : (word == FAR_RULE) ≡ false = ne_eqb word FAR_RULE (λ e. omega (arith, l, e)) in
    rw (e, f) refl

pub added_near : (old new : List ℕ) (word : ℕ) → word < FAR_RULE → new ≡ old ++ word ∷ [] → HasAdded old new (Rule word ∷ [])
added_near old new word l e = record { added = word ∷ []; same = e; read = λ more. near word more l }

pub added_step : (old new : List ℕ) (number : ℕ) → IsFar old new A_STEP number → HasAdded old new (Earlier number ∷ [])
added_step old new number h = record { added = A_STEP ∷ h.high ∷ h.low ∷ []; same = h.same; read = λ more. ap (λ n. Earlier n ∷ reasons_in more) h.number_is }

pub added_rule : (old new : List ℕ) (number : ℕ) → IsFar old new FAR_RULE number → HasAdded old new (Rule number ∷ [])
added_rule old new number h = record { added = FAR_RULE ∷ h.high ∷ h.low ∷ []; same = h.same; read = λ more. ap (λ n. Rule n ∷ reasons_in more) h.number_is }

-- the step before, where the last was taken away
pub rests_less : (words ends less : List ℕ) (end : ℕ) → ends ≡ less ++ end ∷ [] → (rests : List Rest) (rest : Rest) → rests_in words ends ≡ rests ++ rest ∷ [] → rests_in words less ≡ rests
rests_less words ends less end e rests rest f =
    let last : rests_in words (less ++ end ∷ []) ≡ values_below (rest_at words (less ++ end ∷ [])) (length less) ++ rest_at words (less ++ end ∷ []) (length less) ∷ [] = ap (values_below (rest_at words (less ++ end ∷ []))) (length_more less end) in
    let same : values_below (rest_at words (less ++ end ∷ [])) (length less) ≡ rests_in words less =
    below_same (rest_at words (less ++ end ∷ [])) (rest_at words less) (length less) (λ k l.
    ap (λ s. rest_in (part words s (end_at (less ++ end ∷ []) k))) (start_before less end k (omega (arith, l)))
    ∙ ap (λ n. rest_in (part words (start_at less k) n)) (index_before less end 0 k l)) in
    sym same ∙ fronts (values_below (rest_at words (less ++ end ∷ [])) (length less)) rests (rest_at words (less ++ end ∷ []) (length less)) rest (sym last ∙ (ap (rests_in words) (sym e) ∙ f))
  where
    fronts : (xs ys : List Rest) (x y : Rest) → xs ++ x ∷ [] ≡ ys ++ y ∷ [] → xs ≡ ys
    fronts [] [] x y e = refl
    fronts [] (b ∷ ys) x y e = absurd (let n = ap length e in let m = length_more (b ∷ ys) y in omega (arith, n, m))
    fronts (a ∷ xs) [] x y e = absurd (let n = ap length e in let m = length_more (a ∷ xs) x in omega (arith, n, m))
    fronts (a ∷ xs) (b ∷ ys) x y e =
        let h : a ≡ b = cc in
        let t : xs ++ x ∷ [] ≡ ys ++ y ∷ [] = cc in
        ap (λ z. z ∷ xs) h ∙ ap (λ zs. b ∷ zs) (fronts xs ys x y t)

-- a step put behind the words that the steps reach
module _ (old new mid ends : List ℕ) (h : AreEnds old ends) (m : mid ≡ take (last_end ends) old) (k : take (length mid) new ≡ mid) where
  as_far : length mid ≡ last_end ends
  as_far = ap length m ∙ length-take-le (last_end ends) old (end_below old ends h)

  kept_front : take (last_end ends) new ≡ take (last_end ends) old
  kept_front = ap (λ n. take n new) (sym as_far) ∙ (k ∙ m)

  reach : last_end ends ≤ length new
  reach =
      let e : length (take (last_end ends) new) ≡ last_end ends = ap length (kept_front ∙ sym m) ∙ as_far in
      let t = length-take (last_end ends) new in
      omega (arith, e, t)

  pub put_ends : AreEnds new ends
  put_ends = ends_same old new ends h reach

  pub put_same : rests_in new ends ≡ rests_in old ends
  put_same = rests_same old new ends h reach kept_front

  module _ (rest : Rest) (a : HasAddedRest mid new rest) (end : ℕ) (is : end ≡ length new) where
    same_words : new ≡ take (last_end ends) old ++ a.added
    same_words = a.same ∙ ap (λ (xs : List ℕ). xs ++ a.added) m

    pub put_ends_more : AreEnds new (ends ++ end ∷ [])
    put_ends_more = subst (λ e. AreEnds new (ends ++ e ∷ [])) (sym is) (ends_more old new ends h rest a.added same_words a.read)

    pub put_more : rests_in new (ends ++ end ∷ []) ≡ rests_in old ends ++ rest ∷ []
    put_more = ap (λ e. rests_in new (ends ++ e ∷ [])) is ∙ rests_more old new ends h rest a.added same_words a.read

-- the same by what a pop tells
pub rests_popped : (words ends less : List ℕ) (last : Option ℕ) → ends ≡ less ++ option_to_list last → (0 < length ends → IsSome last) → (rests : List Rest) (rest : Rest) → rests_in words ends ≡ rests ++ rest ∷ [] → rests_in words less ≡ rests
rests_popped words ends less (Some end) e some rests rest f = rests_less words ends less end e rests rest f
rests_popped words ends less None e some rests rest f = absurd (let no = some (let n = ap length f in let m = length_more rests rest in let k = below_length (rest_at words ends) (length ends) in omega (arith, n, m, k)) in cc)

pub ends_popped : (words ends less : List ℕ) (last : Option ℕ) → ends ≡ less ++ option_to_list last → AreEnds words ends → AreEnds words less
ends_popped words ends less (Some end) e h = ends_less words less end (subst (AreEnds words) e h)
ends_popped words ends less None e h = subst (AreEnds words) (e ∙ append-nil less) h

-- the words as far as the steps reach, by what the calls tell
pub front_of : (words mid ends shown : List ℕ) (n start : ℕ) → mid ≡ take start words → start ≡ start_at shown n → shown ≡ ends → n ≡ length ends → mid ≡ take (last_end ends) words
front_of words mid ends shown n start m s e l = m ∙ ap (λ k. take k words) (s ∙ (ap (λ (xs : List ℕ). start_at xs n) e ∙ ap (start_at ends) l))

pub take_more : {X : Type 0} (xs : List X) (i : ℕ) (d : X) → i < length xs → take (i + 1) xs ≡ take i xs ++ get_or xs i d ∷ []
take_more [] i d l = absurd (omega (arith, l))
take_more (x ∷ xs) zero d l = refl
take_more (x ∷ xs) (suc i) d l = let e : suc i + 1 ≡ suc (i + 1) = omega arith in rw e (ap (λ ys. x ∷ ys) (take_more xs i d (omega (arith, l))))

pub on_err_always : {T E P : Type 0} (r : Result T E) → P → OnErr r P
on_err_always (Ok t) p = tt
on_err_always (Err e) p = p
