-- What settling costs.
use Rattle.std.proofs.Common.{◌≡◌, ◌≢◌, ℕ, ◌+◌, ◌≤◌, Bool, true, false, cond, not, ◌&&◌, ◌||◌, ◌⊎◌, inl, inr, List, [], ◌∷◌, ◌==◌, nat_lt, Option, Some, None, ℤ, refl, sym, ap, ◌∙◌, subst, arith}
use Rattle.std.proofs.lemmas.Bool.Decides.{eqb_tells, Decides-int_eq}
use Rattle.std.specs.Ordering.{int_eq}
use Rattle.dcsp_defs.specs.Words.{In, sum_below, is_value}
use Rattle.dcsp_defs.specs.Csp.{Csp, domain, count}
use Rattle.abt_defs.specs.Agents.{Agent, Message, Tell, Refuse, Stamped, StampedNogood, plain, lowest, known}
use Rattle.abt_defs.specs.Reasons.{ruled_out, derived, step_of}
use Rattle.abt_defs.specs.Steps.{Outcome, stay, is_free, choice, take_value, refuse, take_or_refuse, settle}
use Rattle.abt_defs.specs.Network.{sent_to, refutes, is_empty}
use Rattle.dcsp_defs.proofs.Lists.{or_cases, or_left, or_right}
use Rattle.law_agent.proofs.Sent.{sent_to-each}
use Rattle.law_agent.proofs.Nogoods.{is_value-is}
use Rattle.law_agent.proofs.Facts.{bit, Sound}
use Rattle.law_agent.proofs.Settles.{derived_seen, choice_free}
use Rattle.law_runs.proofs.Sums.{how_many, how_many-more, how_many-one, sum-zero, sum-at_most}
use Rattle.law_runs.proofs.Counts.{announces_in, nogoods_in, marked, RefusesOnce}

-- what settling costs
pub record SettleCosts (p : Csp) (i : ℕ) (a b : Agent) (went : ℕ → List Message) : Type 0 where
  pub took : Bool
  pub stamp : b.stamp ≡ a.stamp + bit took
  pub view : b.view ≡ a.view
  pub tells : b.tells ≡ a.tells
  pub tells_more : (j : ℕ) → announces_in (went j) ≤ bit took
  pub tells_none : (j : ℕ) → a.tells j ≡ false → announces_in (went j) ≡ 0
  pub refusals : (sum_below (λ j. nogoods_in (went j)) (count p) ≡ 0) ⊎ RefusesOnce p a b true went
  pub marks : a.waits ≡ false → marked p i a + bit took ≤ marked p i b
  pub marks_one : bit took ≤ marked p i b

same_value : (v : ℤ) → int_eq v v ≡ true
same_value v = (Decides-int_eq v v).1 refl

or_false : (a b : Bool) → a ≡ false → b ≡ false → (a || b) ≡ false
or_false true b h k = cc
or_false false b h k = k

-- the own value is ruled out where it is not free
own_out : (p : Csp) (i : ℕ) (a : Agent) (v : ℤ) → is_free p i a a.value ≡ false → a.value ≡ Some v → ruled_out p i (known a) a.recorded v ≡ true
own_out p i a v k e = let f : is_free p i a (Some v) ≡ false = subst (λ (o : Option ℤ). is_free p i a o ≡ false) e k in from (ruled_out p i (known a) a.recorded v) f
  where
    from : (b : Bool) → not b ≡ false → b ≡ true
    from true h = refl
    from false h = cc

module _ (p : Csp) (i number : ℕ) (a : Agent) (h : Sound p i a) where
  stay_costs : SettleCosts p i a a (λ j. [])
  stay_costs = record {
    took = false;
    stamp = omega arith;
    view = refl;
    tells = refl;
    tells_more = λ j. omega arith;
    tells_none = λ j f. refl;
    refusals = inl (sum-zero (λ j. 0) (count p) (λ k l. refl));
    marks = λ w. omega arith;
    marks_one = omega arith;
  }

  take_costs : (v : ℤ) → choice p i a ≡ Some v → (a.waits ≡ false → is_free p i a a.value ≡ false) → SettleCosts p i a (take_value p a v).agent (λ j. sent_to j (take_value p a v).sent)
  take_costs v e k = record {
    took = true;
    stamp = refl;
    view = refl;
    tells = refl;
    tells_more = λ j. rw (sent_to-each (Tell (record { value = v; stamp = a.stamp + 1 })) a.tells j (count p)) (elim (nat_lt j (count p) && a.tells j) as (λ c. announces_in (cond c (Tell (record { value = v; stamp = a.stamp + 1 }) ∷ []) []) ≤ 1) [ true ↦ omega arith | false ↦ omega arith ]);
    tells_none = λ j f. rw (sent_to-each (Tell (record { value = v; stamp = a.stamp + 1 })) a.tells j (count p), f) (elim (nat_lt j (count p)) as (λ c. announces_in (cond (c && false) (Tell (record { value = v; stamp = a.stamp + 1 }) ∷ []) []) ≡ 0) [ true ↦ refl | false ↦ refl ]);
    refusals = inl (sum-zero (λ j. nogoods_in (sent_to j (take_value p a v).sent)) (count p) (λ j l. rw (sent_to-each (Tell (record { value = v; stamp = a.stamp + 1 })) a.tells j (count p)) (elim (nat_lt j (count p) && a.tells j) as (λ c. nogoods_in (cond c (Tell (record { value = v; stamp = a.stamp + 1 }) ∷ []) []) ≡ 0) [ true ↦ refl | false ↦ refl ])));
    marks = λ w. more (k w);
    marks_one = how_many-one (λ w. ruled_out p i (known a) a.recorded w || int_eq v w) v (domain p i) f.0 (or_right (ruled_out p i (known a) a.recorded v) _ (same_value v));
  }
    where
      f : In v (domain p i) × (ruled_out p i (known a) a.recorded v ≡ false)
      f = choice_free p i a h v e

      more : is_free p i a a.value ≡ false → how_many (λ w. ruled_out p i (known a) a.recorded w || is_value a.value w) (domain p i) + 1 ≤ how_many (λ w. ruled_out p i (known a) a.recorded w || int_eq v w) (domain p i)
      more k =
          how_many-more (λ w. ruled_out p i (known a) a.recorded w || is_value a.value w) (λ w. ruled_out p i (known a) a.recorded w || int_eq v w) v (domain p i)
          (λ w g. elim (or_cases (ruled_out p i (known a) a.recorded w) (is_value a.value w) g) [
            | inl t ↦ or_left _ _ t
            | inr t ↦ or_left _ _ (own_out p i a w k (is_value-is a.value w t))
          ])
          f.0
          (or_false _ _ f.1 (is_not (is_value a.value v) refl f.1))
          (or_right (ruled_out p i (known a) a.recorded v) _ (same_value v))
        where
          is_not : (b : Bool) → is_value a.value v ≡ b → ruled_out p i (known a) a.recorded v ≡ false → b ≡ false
          is_not true g r = let t : true ≡ false = sym (own_out p i a v k (is_value-is a.value v g)) ∙ r in cc
          is_not false g r = refl

  refuse_costs : (first : ℕ × Stamped) (rest : StampedNogood) → derived p i a.view a.recorded ≡ first ∷ rest
      → SettleCosts p i a (record a { waits = true }) (λ j. sent_to j ((lowest first rest, Refuse number (first ∷ rest)) ∷ []))
  refuse_costs first rest e = record {
    took = false;
    stamp = omega arith;
    view = refl;
    tells = refl;
    tells_more = λ j. elim (lowest first rest == j) as (λ c. announces_in (cond c (Refuse number (first ∷ rest) ∷ []) []) ≤ 0) [ true ↦ omega arith | false ↦ omega arith ];
    tells_none = λ j f. elim (lowest first rest == j) as (λ c. announces_in (cond c (Refuse number (first ∷ rest) ∷ []) []) ≡ 0) [ true ↦ refl | false ↦ refl ];
    refusals = inr (record {
      once = le_then (sum-at_most (λ j. nogoods_in (sent_to j ((lowest first rest, Refuse number (first ∷ rest)) ∷ []))) (lowest first rest) (count p) other) (most (lowest first rest == lowest first rest));
      waits = refl;
      fresh = inl refl;
      about = first.0;
      value = first.1;
      seen = derived_seen p i a first (subst (In first) (sym e) (inl refl));
    });
    marks = λ w. let e : marked p i a ≡ marked p i (record a { waits = true }) = refl in omega arith;
    marks_one = omega arith;
  }
    where
      le_then : {x y z : ℕ} → x ≤ y → y ≤ z → x ≤ z
      le_then h k = omega arith

      most : (c : Bool) → nogoods_in (cond c (Refuse number (first ∷ rest) ∷ []) []) ≤ 1
      most true = omega arith
      most false = omega arith

      other : (k : ℕ) → k ≢ lowest first rest → nogoods_in (cond (lowest first rest == k) (Refuse number (first ∷ rest) ∷ []) []) ≡ 0
      other k n = elim (eqb_tells (lowest first rest) k) [ inl t ↦ absurd (n (sym t.1)) | inr t ↦ rw t.0 refl ]

  pub settle_costs : refutes (settle p i number a).step ≡ false → SettleCosts p i a (settle p i number a).agent (λ j. sent_to j (settle p i number a).sent)
  settle_costs r =
      (elim (not a.waits && is_free p i a a.value) as (λ b. (not a.waits && is_free p i a a.value) ≡ b → let o : Outcome = cond b (stay a) (take_or_refuse p i number a (choice p i a)) in refutes o.step ≡ false → SettleCosts p i a o.agent (λ j. sent_to j o.sent)) [
        | true ↦ λ k f. stay_costs
        | false ↦ λ k f. taken (λ w. not_free a.waits (is_free p i a a.value) w k) (choice p i a) refl f
      ]) refl r
    where
      not_free : (w f : Bool) → w ≡ false → (not w && f) ≡ false → f ≡ false
      not_free true f e g = cc
      not_free false f e g = g

      refused : (d : StampedNogood) → derived p i a.view a.recorded ≡ d → refutes (refuse number a (step_of p i a.view a.recorded) d).step ≡ false → SettleCosts p i a (refuse number a (step_of p i a.view a.recorded) d).agent (λ j. sent_to j (refuse number a (step_of p i a.view a.recorded) d).sent)
      refused [] e f = let t : is_empty (plain (derived p i a.view a.recorded)) ≡ true = ap (λ (d : StampedNogood). is_empty (plain d)) e in let g : is_empty (plain (derived p i a.view a.recorded)) ≡ false = f in let x : true ≡ false = sym t ∙ g in cc
      refused (first ∷ rest) e f = refuse_costs first rest e

      taken : (a.waits ≡ false → is_free p i a a.value ≡ false) → (o : Option ℤ) → choice p i a ≡ o → refutes (take_or_refuse p i number a o).step ≡ false → SettleCosts p i a (take_or_refuse p i number a o).agent (λ j. sent_to j (take_or_refuse p i number a o).sent)
      taken k (Some v) e f = take_costs v e k
      taken k None e f = refused (derived p i a.view a.recorded) refl f
