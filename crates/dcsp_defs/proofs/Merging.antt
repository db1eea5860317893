-- The turns of a merge of two rising lists of pairs.
use Rattle.std.proofs.Common.{◌≡◌, ◌≢◌, ℕ, ◌+◌, ◌-◌, ◌<◌, ◌≤◌, Bool, true, false, cond, eqb, List, [], ◌∷◌, ◌++◌, length, get_or, drop, Option, Some, None, refl, sym, ap, ◌∙◌, arith, ◌⊎◌, inl, inr}
use Rattle.std.specs.Prelude.{ℤ}
use Rattle.std.proofs.lemmas.Bool.{cases_eq, ne_eqb, eq-eqb, eqb-true}
use Rattle.dcsp_defs.specs.declared.nogood.Pair.{Pair}
use Rattle.dcsp_defs.specs.Pairs.{no_pair, var_at, IsRising, value_at, or_else, union_at, IsUnion, AgreeAt, IsLeastClash}
use Rattle.dcsp_defs.proofs.PairsLemmas.{value_at-drop, value_at-past, value_at-push, value_at-above, value_at-drop_here, value_at-drop_other, value_at-from_drop, IsRising-push, last_var}

-- out is the union of the first i of xs and the first j of ys
pub record Merging (xs ys : List Pair) (except i j : ℕ) (out : List Pair) : Type 0 where
  pub mine_in : i ≤ length xs
  pub theirs_in : j ≤ length ys
  pub rising : IsRising out
  pub below_mine : 0 < length out → i < length xs → var_at out (length out - 1) < var_at xs i
  pub below_theirs : 0 < length out → j < length ys → var_at out (length out - 1) < var_at ys j
  pub values : (v : ℕ) → or_else (value_at out v) (union_at (drop i xs) (drop j ys) except v) ≡ union_at xs ys except v
  pub agreed : (w : ℕ) → w ≢ except → (a b : ℤ) → value_at xs w ≡ Some a → value_at ys w ≡ Some b → (a ≡ b) ⊎ ((value_at (drop i xs) w ≡ Some a) × (value_at (drop j ys) w ≡ Some b))

pub Merging-start : (xs ys : List Pair) (except : ℕ) → Merging xs ys except 0 0 []
Merging-start xs ys except = record {
  mine_in = omega arith;
  theirs_in = omega arith;
  rising = λ k h. absurd (omega arith);
  below_mine = λ h _. absurd (omega arith);
  below_theirs = λ h _. absurd (omega arith);
  values = λ v. refl;
  agreed = λ w _ a b ha hb. inr (ha, hb);
}

-- a pair goes from what is left of xs to the end of what was made
mine_values : (o r u : Option ℤ) (t : Bool) (x : ℤ) → or_else (or_else o (cond t (Some x) None)) (or_else r u) ≡ or_else o (or_else (cond t (Some x) r) u)
mine_values None r u true x = refl
mine_values None r u false x = refl
mine_values (Some a) r u t x = refl

-- a pair goes from what is left of ys, which xs does not have and which is not left out
theirs_values : (o r s : Option ℤ) (t e : Bool) (y : ℤ) → (t ≡ true → r ≡ None) → (t ≡ true → e ≡ false) → or_else (or_else o (cond t (Some y) None)) (or_else r (cond e None s)) ≡ or_else o (or_else r (cond e None (cond t (Some y) s)))
theirs_values (Some a) r s t e y none kept = refl
theirs_values None r s false e y none kept = refl
theirs_values None r s true e y none kept = rw (none refl, kept refl)

-- a pair that both have
both_values : (o r s : Option ℤ) (t e : Bool) (x y : ℤ) → or_else (or_else o (cond t (Some x) None)) (or_else r (cond e None s)) ≡ or_else o (or_else (cond t (Some x) r) (cond e None (cond t (Some y) s)))
both_values (Some a) r s t e x y = refl
both_values None r s true e x y = refl
both_values None r s false e x y = refl

end_values : (o : Option ℤ) (e : Bool) → or_else o (or_else None (cond e None None)) ≡ o
end_values None true = refl
end_values None false = refl
end_values (Some a) e = refl

module _ (xs ys : List Pair) (except i j : ℕ) (out : List Pair) (mine_up : IsRising xs) (theirs_up : IsRising ys) (m : Merging xs ys except i j out) where
  -- the next pair of xs
  pub Merging-mine : i < length xs → (j < length ys → var_at xs i < var_at ys j) → Merging xs ys except (i + 1) j (out ++ get_or xs i no_pair ∷ [])
  Merging-mine here next =
      let p = get_or xs i no_pair in
      record {
        mine_in = omega arith;
        theirs_in = m.theirs_in;
        rising = IsRising-push out p m.rising (λ h. m.below_mine h here);
        below_mine = λ h h2. omega (arith, last_var out p, mine_up i h2);
        below_theirs = λ h h2. omega (arith, last_var out p, next h2);
        values = λ v. rw (value_at-push out p v) (mine_values (value_at out v) (value_at (drop (i + 1) xs) v) (cond (eqb v except) None (value_at (drop j ys) v)) (eqb v p.var) p.value ∙ rw (value_at-drop xs i v no_pair here) at (m.values v));
        agreed = λ w ne a b ha hb. elim (m.agreed w ne a b ha hb) [
          | inl same ↦ inl same
          | inr ahead ↦ elim (cases_eq (var_at xs i) w) [
            | inl here_w ↦ let none : value_at (drop j ys) w ≡ None = value_at-above (length ys) ys j w (omega arith) theirs_up (λ h. omega (arith, next h, here_w)) in cc
            | inr other ↦ inr (sym (value_at-drop_other xs i w here other) ∙ ahead.0, ahead.1)
          ]
        ];
      }

  -- the next pair of ys, which is not left out
  pub Merging-theirs : j < length ys → (i < length xs → var_at ys j < var_at xs i) → var_at ys j ≢ except → Merging xs ys except i (j + 1) (out ++ get_or ys j no_pair ∷ [])
  Merging-theirs here next kept =
      let p = get_or ys j no_pair in
      let none : (w : ℕ) → p.var ≡ w → value_at (drop i xs) w ≡ None = λ w e. value_at-above (length xs) xs i w (omega arith) mine_up (λ h. omega (arith, next h, e)) in
      record {
        mine_in = m.mine_in;
        theirs_in = omega arith;
        rising = IsRising-push out p m.rising (λ h. m.below_theirs h here);
        below_mine = λ h h2. omega (arith, last_var out p, next h2);
        below_theirs = λ h h2. omega (arith, last_var out p, theirs_up j h2);
        values = λ v. rw (value_at-push out p v) (theirs_values (value_at out v) (value_at (drop i xs) v) (value_at (drop (j + 1) ys) v) (eqb v p.var) (eqb v except) p.value (λ t. none v (sym (eqb-true v p.var t))) (λ t. ne_eqb v except (λ e. kept (sym (eqb-true v p.var t) ∙ e))) ∙ rw (value_at-drop ys j v no_pair here) at (m.values v));
        agreed = λ w ne a b ha hb. elim (m.agreed w ne a b ha hb) [
          | inl same ↦ inl same
          | inr ahead ↦ elim (cases_eq (var_at ys j) w) [
            | inl here_w ↦ let gone : value_at (drop i xs) w ≡ None = none w here_w in cc
            | inr other ↦ inr (ahead.0, sym (value_at-drop_other ys j w here other) ∙ ahead.1)
          ]
        ];
      }

  -- the next pair of ys is left out
  pub Merging-skip : j < length ys → var_at ys j ≡ except → Merging xs ys except i (j + 1) out
  Merging-skip here left = record {
    mine_in = m.mine_in;
    theirs_in = omega arith;
    rising = m.rising;
    below_mine = m.below_mine;
    below_theirs = λ h h2. omega (arith, m.below_theirs h here, theirs_up j h2);
    values = λ v. elim (cases_eq v except) [
      | inl e ↦ rw (eq-eqb v except e) (rw (eq-eqb v except e) at (m.values v))
      | inr ne ↦ rw (value_at-drop_other ys j v here (λ e. ne (sym e ∙ left))) at (m.values v)
    ];
    agreed = λ w ne a b ha hb. elim (m.agreed w ne a b ha hb) [
      | inl same ↦ inl same
      | inr ahead ↦ inr (ahead.0, sym (value_at-drop_other ys j w here (λ e. ne (sym e ∙ left))) ∙ ahead.1)
    ];
  }

  -- both have the next pair
  pub Merging-both : i < length xs → j < length ys → var_at xs i ≡ var_at ys j → (get_or xs i no_pair).value ≡ (get_or ys j no_pair).value → Merging xs ys except (i + 1) (j + 1) (out ++ get_or xs i no_pair ∷ [])
  Merging-both here there same_var same_value =
      let p = get_or xs i no_pair in
      let q = get_or ys j no_pair in
      record {
        mine_in = omega arith;
        theirs_in = omega arith;
        rising = IsRising-push out p m.rising (λ h. m.below_mine h here);
        below_mine = λ h h2. omega (arith, last_var out p, mine_up i h2);
        below_theirs = λ h h2. omega (arith, last_var out p, theirs_up j h2, same_var);
        values = λ v.
            let d : value_at (drop j ys) v ≡ cond (eqb v p.var) (Some q.value) (value_at (drop (j + 1) ys) v) = value_at-drop ys j v no_pair there ∙ ap (λ n. cond (eqb v n) (Some q.value) (value_at (drop (j + 1) ys) v)) (sym same_var) in
            rw (value_at-push out p v) (both_values (value_at out v) (value_at (drop (i + 1) xs) v) (value_at (drop (j + 1) ys) v) (eqb v p.var) (eqb v except) p.value q.value ∙ rw (value_at-drop xs i v no_pair here, d) at (m.values v));
        agreed = λ w ne a b ha hb. elim (m.agreed w ne a b ha hb) [
          | inl same ↦ inl same
          | inr ahead ↦ elim (cases_eq (var_at xs i) w) [
            | inl here_w ↦
                let ea : Some p.value ≡ Some a = sym (value_at-drop_here xs i here) ∙ ap (λ n. value_at (drop i xs) n) here_w ∙ ahead.0 in
                let eb : Some q.value ≡ Some b = sym (value_at-drop_here ys j there) ∙ ap (λ n. value_at (drop j ys) n) (sym same_var ∙ here_w) ∙ ahead.1 in
                inl cc
            | inr other ↦ inr (sym (value_at-drop_other xs i w here other) ∙ ahead.0, sym (value_at-drop_other ys j w there (λ e. other (same_var ∙ e))) ∙ ahead.1)
          ]
        ];
      }

  -- nothing is left
  pub Merging-end : length xs ≤ i → length ys ≤ j → IsUnion xs ys except out
  Merging-end no_mine no_theirs = record {
    rising = m.rising;
    values = λ v. sym (end_values (value_at out v) (eqb v except)) ∙ rw (value_at-past xs i v no_mine, value_at-past ys j v no_theirs) at (m.values v);
  }

  pub Merging-agree : length xs ≤ i → (w : ℕ) → AgreeAt xs ys except w
  Merging-agree no_mine w ne a b ha hb = elim (m.agreed w ne a b ha hb) [
    | inl same ↦ same
    | inr ahead ↦ absurd (let none : value_at (drop i xs) w ≡ None = value_at-past xs i w no_mine in cc)
  ]

  -- both have the next pair, and the values differ
  pub Merging-clash : i < length xs → j < length ys → var_at xs i ≡ var_at ys j → var_at xs i ≢ except → (get_or xs i no_pair).value ≢ (get_or ys j no_pair).value → IsLeastClash xs ys except (var_at xs i) (get_or xs i no_pair).value (get_or ys j no_pair).value
  Merging-clash here there same_var kept differ = record {
    other = kept;
    in_mine = value_at-from_drop i xs _ _ mine_up m.mine_in (value_at-drop_here xs i here);
    in_theirs = value_at-from_drop j ys _ _ theirs_up m.theirs_in (rw same_var (value_at-drop_here ys j there));
    differ = differ;
    least = λ w below ne a b ha hb. elim (m.agreed w ne a b ha hb) [
      | inl same ↦ same
      | inr ahead ↦ absurd (let none : value_at (drop i xs) w ≡ None = value_at-above (length xs) xs i w (omega arith) mine_up (λ _. below) in cc)
    ];
  }
