-- What settling does.
use Rattle.dcsp_defs.specs.Pairs.{pair_of}
use Rattle.dcsp_defs.specs.declared.nogood.Pair.{Pair}
use Rattle.std.proofs.Common.{◌≡◌, ℕ, ◌+◌, ◌<◌, Bool, true, false, cond, not, ◌&&◌, ◌⊎◌, inl, inr, List, [], ◌∷◌, find, ◌==◌, nat_lt, Option, Some, None, ℤ, refl, sym, ap, ◌∙◌, subst, arith}
use Rattle.std.proofs.lemmas.Bool.Decides.{eqb_tells, Decides-ltb}
use Rattle.std.specs.List.{list_any}
use Rattle.dcsp_defs.specs.Derivation.{IsKnownPair}
use Rattle.dcsp_defs.specs.Words.{In, IsRising, below}
use Rattle.dcsp_defs.specs.Csp.{Csp, names, domain, count}
use Rattle.abt_defs.specs.Agents.{Agent, Message, Tell, Refuse, Stamped, StampedNogood, plain, lowest, known}
use Rattle.abt_defs.specs.Reasons.{Item, ruled_out, causes, blamed, pair_at, derived, step_of}
use Rattle.abt_defs.specs.Steps.{Outcome, stay, take_value, is_free, choice, refuse, take_or_refuse, settle}
use Rattle.abt_defs.specs.Network.{sent_to, refutes, is_empty}
use Rattle.dcsp_defs.proofs.Lists.{In-filter_map, In-below, find-found, and_left, and_right}
use Rattle.law_agent.proofs.Sent.{In-cond, In-cond-true, sent_to-each}
use Rattle.law_agent.proofs.Nogoods.{In-value_at, In-plain, plain-In, map_rises, lowest-last}
use Rattle.law_agent.proofs.Facts.{asks, Proper, Fine, Sound, Chosen, Sends}

-- ---- the derived nogood

pub pair_at-some : (k : ℕ) (o : Option Stamped) (y : ℕ × Stamped) → pair_at k o ≡ Some y → (y.0 ≡ k) × (o ≡ Some y.1)
pair_at-some k None y h = cc
pair_at-some k (Some v) y h = let e : (k, v) ≡ y = cc in (ap (λ (t : ℕ × Stamped). t.0) (sym e), ap (λ (t : ℕ × Stamped). Some t.1) e)

pub blamed-some : (p : Csp) (i : ℕ) (a : Agent) (k : ℕ) (y : ℕ × Stamped) → blamed p i a.view a.recorded k ≡ Some y → (y.0 ≡ k) × (a.view k ≡ Some y.1)
blamed-some p i a k y h = from (list_any (λ (x : Item). list_any (λ z. k == z) x.variables) (causes p i (known a) a.recorded)) h
  where
    from : (b : Bool) → cond b (pair_at k (a.view k)) None ≡ Some y → (y.0 ≡ k) × (a.view k ≡ Some y.1)
    from true e = pair_at-some k (a.view k) y e
    from false e = cc

-- each pair of the derived nogood is in the view
pub derived_seen : (p : Csp) (i : ℕ) (a : Agent) (y : ℕ × Stamped) → In y (derived p i a.view a.recorded) → a.view y.0 ≡ Some y.1
derived_seen p i a y h =
    let r = In-filter_map (blamed p i a.view a.recorded) y (below i) h in
    let s = blamed-some p i a r.0 y r.2 in ap a.view s.0 ∙ s.1

pub derived_higher : (p : Csp) (i : ℕ) (a : Agent) (y : ℕ × Stamped) → In y (derived p i a.view a.recorded) → y.0 < i
derived_higher p i a y h =
    let r = In-filter_map (blamed p i a.view a.recorded) y (below i) h in
    let s = blamed-some p i a r.0 y r.2 in let l = In-below i r.0 r.1 in subst (λ (z : ℕ). z < i) (sym s.0) l

pub derived_rises : (p : Csp) (i : ℕ) (a : Agent) → IsRising (names (plain (derived p i a.view a.recorded)))
derived_rises p i a = map_rises (blamed p i a.view a.recorded) (λ k y e. (blamed-some p i a k y e).0) i

-- ---- settling

pub record Settles (p : Csp) (i : ℕ) (a b : Agent) (went : ℕ → List Message) : Type 0 where
  pub view : b.view ≡ a.view
  pub recorded : b.recorded ≡ a.recorded
  pub linked : b.linked ≡ a.linked
  pub tells : b.tells ≡ a.tells
  pub ages : ((b.stamp ≡ a.stamp) × (b.value ≡ a.value)) ⊎ (a.stamp < b.stamp)
  pub told : (j : ℕ) (v : ℤ) → a.tells j ≡ true → b.value ≡ Some v → ((a.value ≡ Some v) × (b.stamp ≡ a.stamp)) ⊎ In (Tell (record { value = v; stamp = b.stamp })) (went j)
  pub announced : (j : ℕ) (s : Stamped) → In (Tell s) (went j) → (a.tells j ≡ true) × (b.value ≡ Some s.value) × (s.stamp ≡ b.stamp)
  pub sees : (j step : ℕ) (pairs : StampedNogood) → In (Refuse step pairs) (went j) → (y : ℕ × Stamped) → In y pairs → a.view y.0 ≡ Some y.1
  pub fine : (j : ℕ) (m : Message) → In m (went j) → Fine p i j m
  pub no_asks : (j : ℕ) → asks (went j) ≡ 0
  pub wakes : a.waits ≡ true → (b.waits ≡ true) ⊎ (a.stamp < b.stamp)
  pub sound : Sound p i b

-- it waits with a nogood sent, or has a value that is not ruled out
pub record Rests (p : Csp) (i : ℕ) (b : Agent) (went : ℕ → List Message) : Type 0 where
  pub sends : b.waits ≡ true → Sends i b went
  pub chosen : b.waits ≡ false → Chosen p i b

pub not_true : (b : Bool) → not b ≡ true → b ≡ false
not_true true h = cc
not_true false h = refl

some-same : (v w : ℤ) → Some v ≡ Some w → v ≡ w
some-same v w e = cc

-- nothing changes
pub stays : (p : Csp) (i : ℕ) (a : Agent) → Sound p i a → Settles p i a a (λ j. [])
stays p i a h = record {
  view = refl;
  recorded = refl;
  linked = refl;
  tells = refl;
  ages = inl (refl, refl);
  told = λ j v t e. inl (e, refl);
  announced = λ j s u. absurd u;
  sees = λ j step pairs u. absurd u;
  fine = λ j m u. absurd u;
  no_asks = λ j. refl;
  wakes = λ w. inl w;
  sound = h;
}

-- the value to take is in the domain, and not ruled out
pub choice_free : (p : Csp) (i : ℕ) (a : Agent) → Sound p i a → (v : ℤ) → choice p i a ≡ Some v → In v (domain p i) × (ruled_out p i (known a) a.recorded v ≡ false)
choice_free p i a h v e = own (is_free p i a a.value) refl e
  where
    own : (b : Bool) → is_free p i a a.value ≡ b → cond b a.value (find (λ v. not (ruled_out p i (known a) a.recorded v)) (domain p i)) ≡ Some v → In v (domain p i) × (ruled_out p i (known a) a.recorded v ≡ false)
    own true f g = (h.in_domain v g, not_true _ (subst (λ (o : Option ℤ). is_free p i a o ≡ true) g f))
    own false f g = let r = find-found (λ v. not (ruled_out p i (known a) a.recorded v)) v (domain p i) g in (r.0, not_true _ r.1)

module _ (p : Csp) (i : ℕ) (in_range : i < count p) (a : Agent) (h : Sound p i a) where
  module _ (v : ℤ) (e : choice p i a ≡ Some v) where
    new_value : Stamped
    new_value = record { value = v; stamp = a.stamp + 1 }

    takes : Settles p i a (take_value p a v).agent (λ j. sent_to j (take_value p a v).sent)
    unfolding new_value
    takes = record {
      view = refl;
      recorded = refl;
      linked = refl;
      tells = refl;
      ages = inr (omega arith);
      told = λ j w t f. let same : v ≡ w = some-same v w f in rw (sent_to-each (Tell new_value) a.tells j (count p)) (inr (subst (λ (w : ℤ). In (Tell (record { value = w; stamp = a.stamp + 1 })) (cond (nat_lt j (count p) && a.tells j) (Tell new_value ∷ []) [])) same (reaches j t)));
      announced = λ j s. rw (sent_to-each (Tell new_value) a.tells j (count p)) (λ u.
          let t : a.tells j ≡ true = and_right (nat_lt j (count p)) (a.tells j) (In-cond-true (nat_lt j (count p) && a.tells j) (Tell s) (Tell new_value) u) in
          let q : Tell s ≡ Tell new_value = In-cond (nat_lt j (count p) && a.tells j) (Tell s) (Tell new_value) u in
          let q2 : s ≡ new_value = cc in
          (t, ap (λ (z : Stamped). Some z.value) (sym q2), ap (λ (z : Stamped). z.stamp) q2));
      sees = λ j step pairs. rw (sent_to-each (Tell new_value) a.tells j (count p)) (λ u.
          let q : Refuse step pairs ≡ Tell new_value = In-cond (nat_lt j (count p) && a.tells j) (Refuse step pairs) (Tell new_value) u in cc);
      fine = λ j m. rw (sent_to-each (Tell new_value) a.tells j (count p)) (λ u. subst (Fine p i j) (sym (In-cond (nat_lt j (count p) && a.tells j) m (Tell new_value) u)) (in_range, (choice_free p i a h v e).0));
      no_asks = λ j. rw (sent_to-each (Tell new_value) a.tells j (count p)) (elim (nat_lt j (count p) && a.tells j) as (λ b. asks (cond b (Tell new_value ∷ []) []) ≡ 0) [ true ↦ refl | false ↦ refl ]);
      wakes = λ w. inr (omega arith);
      sound = record {
        in_domain = λ w f. let same : v ≡ w = some-same v w f in subst (λ (w : ℤ). In w (domain p i)) same (choice_free p i a h v e).0;
        stamped = λ w f. omega arith;
        in_view = h.in_view;
        proper = h.proper;
        agreeing = h.agreeing;
        distinct = h.distinct;
        higher = h.higher;
        constraints = h.constraints;
        lower = h.lower;
      };
    }
      where
        reaches : (j : ℕ) → a.tells j ≡ true → In (Tell (record { value = v; stamp = a.stamp + 1 })) (cond (nat_lt j (count p) && a.tells j) (Tell (record { value = v; stamp = a.stamp + 1 }) ∷ []) [])
        reaches j t = let l : nat_lt j (count p) ≡ true = (Decides-ltb j (count p)).1 (h.lower j t) in rw (l, t) (inl refl)

    rests_free : Rests p i (take_value p a v).agent (λ j. sent_to j (take_value p a v).sent)
    rests_free = record { sends = λ w. cc; chosen = λ w. record { value = v; is = refl; free = (choice_free p i a h v e).1 } }

  module _ (number : ℕ) (first : ℕ × Stamped) (rest : StampedNogood) (e : derived p i a.view a.recorded ≡ first ∷ rest) where
    sent_proper : Proper p (lowest first rest) (plain (first ∷ rest))
    sent_proper =
        let rises = subst (λ (z : StampedNogood). IsRising (names (plain z))) e (derived_rises p i a) in
        let l = lowest-last first rest rises in
        record {
          rising = rises;
          own = l.0.value;
          has = In-value_at (plain (first ∷ rest)) rises (pair_of (lowest first rest) l.0.value) (plain-In (first ∷ rest) (lowest first rest, l.0) l.1);
          others = λ y u. let z = In-plain (first ∷ rest) y u in let at : y.var ≡ z.0.0 = ap (λ (t : Pair). t.var) z.2 in let m = l.2 z.0 z.1 in omega arith;
          in_domains = λ y u. let z = In-plain (first ∷ rest) y u in
              let v = h.in_view z.0.0 z.0.1 (derived_seen p i a z.0 (subst (In z.0) (sym e) z.1)) in
              subst (IsKnownPair p) (sym z.2) (record { variable = v.0; value = v.1 });
        }

    refuses : Settles p i a (refuse number a (step_of p i a.view a.recorded) (first ∷ rest)).agent (λ j. sent_to j (refuse number a (step_of p i a.view a.recorded) (first ∷ rest)).sent)
    refuses = record {
      view = refl;
      recorded = refl;
      linked = refl;
      tells = refl;
      ages = inl (refl, refl);
      told = λ j w t f. inl (f, refl);
      announced = λ j s u. let q : Tell s ≡ Refuse number (first ∷ rest) = In-cond (lowest first rest == j) _ _ u in cc;
      sees = λ j step pairs u y v.
          let q : Refuse step pairs ≡ Refuse number (first ∷ rest) = In-cond (lowest first rest == j) _ _ u in
          let q2 : pairs ≡ first ∷ rest = cc in
          derived_seen p i a y (subst (In y) (q2 ∙ sym e) v);
      fine = λ j m u. elim (eqb_tells (lowest first rest) j) [
        | inl t ↦ elim (rw t.0 at u) [ inl v ↦ subst (Fine p i j) (sym v) (subst (λ (z : ℕ). Proper p z (plain (first ∷ rest))) t.1 sent_proper) | inr v ↦ absurd v ]
        | inr t ↦ absurd (rw t.0 at u)
      ];
      no_asks = λ j. elim (lowest first rest == j) as (λ c. asks (cond c (Refuse number (first ∷ rest) ∷ []) []) ≡ 0) [ true ↦ refl | false ↦ refl ];
      wakes = λ w. inl refl;
      sound = record { in_domain = h.in_domain; stamped = h.stamped; in_view = h.in_view; proper = h.proper; agreeing = h.agreeing; distinct = h.distinct; higher = h.higher; constraints = h.constraints; lower = h.lower };
    }

    rests_sent : Rests p i (refuse number a (step_of p i a.view a.recorded) (first ∷ rest)).agent (λ j. sent_to j (refuse number a (step_of p i a.view a.recorded) (first ∷ rest)).sent)
    rests_sent = record {
      sends = λ w. record {
        first = first;
        rest = rest;
        step = number;
        higher = λ y u. derived_higher p i a y (subst (In y) (sym e) u);
        seen = λ y u. derived_seen p i a y (subst (In y) (sym e) u);
        goes = elim (eqb_tells (lowest first rest) (lowest first rest)) [ inl t ↦ rw t.0 (inl refl) | inr t ↦ absurd (t.1 refl) ];
      };
      chosen = λ w. cc;
    }

  pub settles : (number : ℕ) → Settles p i a (settle p i number a).agent (λ j. sent_to j (settle p i number a).sent)
  settles number =
      elim (not a.waits && is_free p i a a.value) as (λ b. let o : Outcome = cond b (stay a) (take_or_refuse p i number a (choice p i a)) in Settles p i a o.agent (λ j. sent_to j o.sent)) [
        | true ↦ stays p i a h
        | false ↦ taken (choice p i a) refl
      ]
    where
      refused : (d : StampedNogood) → derived p i a.view a.recorded ≡ d → Settles p i a (refuse number a (step_of p i a.view a.recorded) d).agent (λ j. sent_to j (refuse number a (step_of p i a.view a.recorded) d).sent)
      refused [] e = stays p i a h
      refused (first ∷ rest) e = refuses number first rest e

      taken : (o : Option ℤ) → choice p i a ≡ o → Settles p i a (take_or_refuse p i number a o).agent (λ j. sent_to j (take_or_refuse p i number a o).sent)
      taken (Some v) e = takes v e
      taken None e = refused (derived p i a.view a.recorded) refl

  pub rests : (number : ℕ) → refutes (settle p i number a).step ≡ false → Rests p i (settle p i number a).agent (λ j. sent_to j (settle p i number a).sent)
  rests number r =
      (elim (not a.waits && is_free p i a a.value) as (λ b. (not a.waits && is_free p i a a.value) ≡ b → let o : Outcome = cond b (stay a) (take_or_refuse p i number a (choice p i a)) in refutes o.step ≡ false → Rests p i o.agent (λ j. sent_to j o.sent)) [
        | true ↦ λ e f. kept (not_true _ (and_left _ _ e)) a.value refl (and_right _ _ e)
        | false ↦ λ e f. taken (choice p i a) refl f
      ]) refl r
    where
      kept : a.waits ≡ false → (o : Option ℤ) → a.value ≡ o → is_free p i a o ≡ true → Rests p i a (λ j. [])
      kept w None e f = cc
      kept w (Some v) e f = record { sends = λ x. let t : true ≡ false = sym x ∙ w in cc; chosen = λ x. record { value = v; is = e; free = not_true _ f } }

      refused : (d : StampedNogood) → derived p i a.view a.recorded ≡ d → refutes (refuse number a (step_of p i a.view a.recorded) d).step ≡ false → Rests p i (refuse number a (step_of p i a.view a.recorded) d).agent (λ j. sent_to j (refuse number a (step_of p i a.view a.recorded) d).sent)
      refused [] e f = let t : is_empty (plain (derived p i a.view a.recorded)) ≡ true = ap (λ (d : StampedNogood). is_empty (plain d)) e in let g : is_empty (plain (derived p i a.view a.recorded)) ≡ false = f in let x : true ≡ false = sym t ∙ g in cc
      refused (first ∷ rest) e f = rests_sent number first rest e

      taken : (o : Option ℤ) → choice p i a ≡ o → refutes (take_or_refuse p i number a o).step ≡ false → Rests p i (take_or_refuse p i number a o).agent (λ j. sent_to j (take_or_refuse p i number a o).sent)
      taken (Some v) e f = rests_free v e
      taken None e f = refused (derived p i a.view a.recorded) refl f
