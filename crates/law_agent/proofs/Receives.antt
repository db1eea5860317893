-- What a message does to its receiver.
use Rattle.dcsp_defs.specs.Pairs.{pair_of}
use Rattle.dcsp_defs.specs.declared.nogood.Pair.{Pair}
use Rattle.std.proofs.Common.{◌≡◌, ℕ, ◌+◌, ◌<◌, Bool, true, false, cond, not, ◌&&◌, ◌||◌, ◌⊎◌, inl, inr, List, [], ◌∷◌, ◌++◌, ◌==◌, nat_lt, Option, Some, None, ℤ, refl, sym, ap, ◌∙◌, subst, arith}
use Rattle.std.proofs.lemmas.Bool.Decides.{nat_tests, eqb_tells, Decides-ltb}
use Rattle.dcsp_defs.specs.Words.{In, update}
use Rattle.dcsp_defs.specs.Csp.{Csp, domain, count}
use Rattle.abt_defs.specs.Agents.{Agent, Message, Tell, Refuse, AddLink, Record, Stamped, StampedNogood, View, plain, value_in}
use Rattle.abt_defs.specs.Steps.{Outcome, to_each, settle, stay, is_newer, learn, learn_all, is_news, is_named, unlinked, ask, heed, first_sent, own_value, receive}
use Rattle.abt_defs.specs.Network.{sent_to, refutes}
use Rattle.dcsp_defs.proofs.Lists.{In-right, In-split, or_cases, or_right, or_left, and_left, and_right, and_both, list_any-In}
use Rattle.law_agent.proofs.Sent.{In-cond, In-cond-true, sent_to-each, sent_to-append}
use Rattle.law_agent.proofs.Nogoods.{plain-In}
use Rattle.law_agent.proofs.Facts.{asks, bit, AtLeast, Proper, Fine, Sound, Chosen, Brought, Heeds, Sends, Acts}
use Rattle.law_agent.proofs.Moves.{asks-append}
use Rattle.law_agent.proofs.Settles.{Settles, settles, rests, stays}
use Rattle.law_agent.proofs.Learns.{learns_one, learns_all, not_newer, keeps}

-- one agent acts and stays sound
pub record Done (p : Csp) (i : ℕ) (a b : Agent) (came went : ℕ → List Message) : Type 0 where
  pub acts : Acts p i a b came went
  pub sound : Sound p i b
  pub chosen : b.waits ≡ false → Chosen p i b

-- one message, from k
abbrev pub only : ℕ → Message → ℕ → List Message
only k m j = cond (j == k) (m ∷ []) []

-- the first part, before settling: the message is taken in
pub record Takes (p : Csp) (i : ℕ) (a b : Agent) (came first : ℕ → List Message) : Type 0 where
  pub view_from : (k : ℕ) (s : Stamped) → b.view k ≡ Some s → (a.view k ≡ Some s) ⊎ (In (Tell s) (came k) ⊎ Brought b came k s)
  pub view_up : (k : ℕ) (s : Stamped) → a.view k ≡ Some s → AtLeast (b.view k) s.stamp
  pub hears : (k : ℕ) (s : Stamped) → In (Tell s) (came k) → AtLeast (b.view k) s.stamp
  pub heeds : (k step : ℕ) (pairs : StampedNogood) → In (Refuse step pairs) (came k) → Heeds i b pairs
  pub linked : (k : ℕ) → bit (b.linked k) ≡ asks (first k) + bit (a.linked k)
  pub no_asks : (j : ℕ) → asks (came j) ≡ 0
  pub only_asks : (j : ℕ) (m : Message) → In m (first j) → m ≡ AddLink
  pub value : b.value ≡ a.value
  pub stamp : b.stamp ≡ a.stamp
  pub waits : b.waits ≡ a.waits
  pub tells : b.tells ≡ a.tells
  pub sound : Sound p i b

module _ (p : Csp) (i : ℕ) (in_range : i < count p) (a b c : Agent) (came first second : ℕ → List Message) (t : Takes p i a b came first) (s : Settles p i b c second) where
  view_at : (k : ℕ) → c.view k ≡ b.view k
  view_at k = ap (λ (f : View). f k) s.view

  tells_at : (j : ℕ) → c.tells j ≡ a.tells j
  tells_at j = ap (λ (f : ℕ → Bool). f j) (s.tells ∙ t.tells)

  linked_at : (k : ℕ) → c.linked k ≡ b.linked k
  linked_at k = ap (λ (f : ℕ → Bool). f k) s.linked

  heeds_too : (pairs : StampedNogood) → Heeds i b pairs → Heeds i c pairs
  heeds_too pairs h = record {
    covers = λ y u l. subst (λ (o : Option Stamped). AtLeast o y.1.stamp) (sym (view_at y.0)) (h.covers y u l);
    kept = λ f v e. let r = h.kept (λ y u l. ap value_in (sym (view_at y.var)) ∙ f y u l) v e in (r.0, subst (λ (z : List Record). In r.0 z) (sym s.recorded) r.1, r.2);
  }

  -- the message is taken in, and then the agent settles
  pub then : (c.waits ≡ true → ((a.waits ≡ true) × ((k : ℕ) → c.view k ≡ a.view k)) ⊎ Sends i c second) → Acts p i a c came (λ j. first j ++ second j)
  then w = record {
    view_from = λ k x e. elim (t.view_from k x (sym (view_at k) ∙ e)) [
      | inl u ↦ inl u
      | inr u ↦ elim u [
        | inl v ↦ inr (inl v)
        | inr v ↦ inr (inr (record { sender = v.sender; step = v.step; pairs = v.pairs; there = v.there; named = v.named; linked = linked_at k ∙ v.linked }))
      ]
    ];
    view_up = λ k x e. subst (λ (o : Option Stamped). AtLeast o x.stamp) (sym (view_at k)) (t.view_up k x e);
    hears = λ k x u. subst (λ (o : Option Stamped). AtLeast o x.stamp) (sym (view_at k)) (t.hears k x u);
    heeds = λ k step pairs u. heeds_too pairs (t.heeds k step pairs u);
    linked = λ k. let e = asks-append (first k) (second k) in let f = t.linked k in let g = s.no_asks k in let h : bit (c.linked k) ≡ bit (b.linked k) = ap bit (linked_at k) in omega arith;
    tells = λ j. let e = t.no_asks j in let h : bit (c.tells j) ≡ bit (a.tells j) = ap bit (tells_at j) in omega arith;
    ages = elim s.ages [ inl e ↦ inl (e.0 ∙ t.stamp, e.1 ∙ t.value) | inr l ↦ inr (let e = t.stamp in omega arith) ];
    told = λ j v e f. elim (s.told j v (ap (λ (f : ℕ → Bool). f j) t.tells ∙ (sym (tells_at j) ∙ e)) f) [
      | inl o ↦ inl (sym (tells_at j) ∙ e, sym t.value ∙ o.0, o.1 ∙ t.stamp)
      | inr u ↦ inr (In-right _ (first j) (second j) u)
    ];
    announced = λ j x u. elim (In-split _ (first j) (second j) u) [
      | inl v ↦ let q = t.only_asks j (Tell x) v in cc
      | inr v ↦ let q = s.announced j x v in (ap (λ (f : ℕ → Bool). f j) s.tells ∙ q.0, q.1, q.2)
    ];
    sees = λ j step pairs u y v. elim (In-split _ (first j) (second j) u) [
      | inl w ↦ let q = t.only_asks j (Refuse step pairs) w in cc
      | inr w ↦ view_at y.0 ∙ s.sees j step pairs w y v
    ];
    fine = λ j m u. elim (In-split m (first j) (second j) u) [
      | inl v ↦ subst (Fine p i j) (sym (t.only_asks j m v)) in_range
      | inr v ↦ s.fine j m v
    ];
    why = λ e. elim (w e) [
      | inl o ↦ inl o
      | inr z ↦ inr (record { first = z.first; rest = z.rest; step = z.step; higher = z.higher; seen = z.seen; goes = In-right _ (first _) (second _) z.goes })
    ];
    wakes = λ e. elim (s.wakes (t.waits ∙ e)) [ inl x ↦ inl x | inr l ↦ inr (let f = t.stamp in omega arith) ];
  }

-- an agent that tells one more agent
pub one_more : (p : Csp) (i k : ℕ) (a : Agent) → Sound p i a → k < count p → Sound p i (record a { tells = update a.tells k true })
one_more p i k a h l = record {
  in_domain = h.in_domain;
  stamped = h.stamped;
  in_view = h.in_view;
  proper = h.proper;
  agreeing = h.agreeing;
  distinct = h.distinct;
  higher = h.higher;
  constraints = h.constraints;
  lower = λ j u. elim (eqb_tells j k) [ inl t ↦ omega arith | inr t ↦ h.lower j (rw t.0 at u) ];
}

module _ (p : Csp) (i : ℕ) (a : Agent) (h : Sound p i a) (in_range : i < count p) (k : ℕ) where
  -- a value that comes
  pub announced : (s : Stamped) → k < i → (k < count p) × In s.value (domain p k) → Takes p i a (learn k s a) (only k (Tell s)) (λ j. [])
  announced s l d =
      let q = learns_one i k s a l in
      record {
        view_from = λ j t e. elim (q.view_from j t e) [
          | inl u ↦ inl u
          | inr u ↦ inr (inl (here j t u.1))
        ];
        view_up = q.view_up;
        hears = λ j t u. let same : Tell t ≡ Tell s = In-cond (j == k) _ _ u in let same2 : s ≡ t = cc in
            subst (λ (z : Stamped). AtLeast ((learn k s a).view j) z.stamp) same2 (subst (λ (z : ℕ). AtLeast ((learn k s a).view z) s.stamp) (is_k j (In-cond-true (j == k) _ _ u)) (q.covers (k, s) (inl refl) l));
        heeds = λ j step pairs u. let same : Refuse step pairs ≡ Tell s = In-cond (j == k) _ _ u in cc;
        linked = λ j. let e : bit ((learn k s a).linked j) ≡ bit (a.linked j) = ap (λ (f : ℕ → Bool). bit (f j)) q.linked in omega arith;
        no_asks = λ j. elim (j == k) as (λ b. asks (cond b (Tell s ∷ []) []) ≡ 0) [ true ↦ refl | false ↦ refl ];
        only_asks = λ j m u. absurd u;
        value = q.value;
        stamp = q.stamp;
        waits = q.waits;
        tells = q.tells;
        sound = record {
          in_domain = λ v e. h.in_domain v (sym q.value ∙ e);
          stamped = λ v e. let x = h.stamped v (sym q.value ∙ e) in let y = q.stamp in omega arith;
          in_view = λ j t e. elim (q.view_from j t e) [
            | inl u ↦ h.in_view j t u
            | inr u ↦ elim u.1 [ inl f ↦ subst (λ (z : ℕ × Stamped). (z.0 < count p) × In z.1.value (domain p z.0)) (sym f) d | inr w ↦ absurd w ]
          ];
          proper = λ x u. h.proper x (q.recorded x u);
          agreeing = q.agreeing h.agreeing;
          distinct = q.distinct h.distinct;
          higher = λ j e. h.higher j (sym (ap (λ (f : ℕ → Bool). f j) q.linked) ∙ e);
          constraints = λ c u o j v. elim (h.constraints c u o j v) [ inl e ↦ inl e | inr e ↦ inr (ap (λ (f : ℕ → Bool). f j) q.linked ∙ e) ];
          lower = λ j e. h.lower j (sym (ap (λ (f : ℕ → Bool). f j) q.tells) ∙ e);
        };
      }
    where
      is_k : (j : ℕ) → (j == k) ≡ true → k ≡ j
      is_k j e = grind (arith, nat_tests)

      here : (j : ℕ) (t : Stamped) → In {X = ℕ × Stamped} (j, t) ((k, s) ∷ []) → In (Tell t) (only k (Tell s) j)
      here j t (inr w) = absurd w
      here j t (inl e) = elim (eqb_tells j k) [
        | inl u ↦ rw u.0 (inl (ap (λ (z : ℕ × Stamped). Tell z.1) e))
        | inr u ↦ absurd (u.1 (ap (λ (z : ℕ × Stamped). z.0) e))
      ]

  -- a value that is old
  pub stale : (s : Stamped) → is_newer (a.view k) s.stamp ≡ false → Takes p i a a (only k (Tell s)) (λ j. [])
  stale s n = record {
    view_from = λ j t e. inl e;
    view_up = λ j t e. (t, e, omega arith);
    hears = λ j t u. let same : Tell t ≡ Tell s = In-cond (j == k) _ _ u in let same2 : s ≡ t = cc in
        subst (λ (z : Stamped). AtLeast (a.view j) z.stamp) same2 (subst (λ (z : ℕ). AtLeast (a.view z) s.stamp) (is_k j (In-cond-true (j == k) _ _ u)) (not_newer (a.view k) s.stamp n));
    heeds = λ j step pairs u. let same : Refuse step pairs ≡ Tell s = In-cond (j == k) _ _ u in cc;
    linked = λ j. omega arith;
    no_asks = λ j. elim (j == k) as (λ b. asks (cond b (Tell s ∷ []) []) ≡ 0) [ true ↦ refl | false ↦ refl ];
    only_asks = λ j m u. absurd u;
    value = refl;
    stamp = refl;
    waits = refl;
    tells = refl;
    sound = h;
  }
    where
      is_k : (j : ℕ) → (j == k) ≡ true → k ≡ j
      is_k j e = grind (arith, nat_tests)

  -- a nogood that comes
  module _ (step : ℕ) (pairs : StampedNogood) (proper : Proper p i (plain pairs)) where
    asker : Agent
    asker = ask i (plain pairs) a

    learner : Agent
    learner = learn_all i pairs (ask i (plain pairs) a)

    kept : Record
    kept = record { step = step; pairs = plain pairs }

    named : (j : ℕ) (s : Stamped) → In (j, s) pairs → is_named j (plain pairs) ≡ true
    named j s u = list_any-In (λ (y : Pair). j == y.var) (pair_of j s.value) (plain pairs) (plain-In pairs (j, s) u) (same j)
      where
        same : (n : ℕ) → (n == n) ≡ true
        same n = grind (arith, nat_tests)

    pub heeded : Takes p i a (heed i step pairs a) (only k (Refuse step pairs)) (λ j. sent_to j (to_each AddLink (unlinked i (plain pairs) a)))
    unfolding asker learner kept
    heeded =
        let f = learns_all i pairs asker in
        let g = keeps i kept learner in
        let view_at : (j : ℕ) → (heed i step pairs a).view j ≡ learner.view j = λ j. ap (λ (z : View). z j) g.view in
        let linked_at : (j : ℕ) → (heed i step pairs a).linked j ≡ asker.linked j = λ j. ap (λ (z : ℕ → Bool). z j) (g.linked ∙ f.linked) in
        let tells_at : (j : ℕ) → (heed i step pairs a).tells j ≡ a.tells j = λ j. ap (λ (z : ℕ → Bool). z j) (g.tells ∙ f.tells) in
        record {
          view_from = λ j s e. elim (f.view_from j s (sym (view_at j) ∙ e)) [
            | inl u ↦ inl u
            | inr u ↦ inr (inr (record {
              sender = k;
              step = step;
              pairs = pairs;
              there = here;
              named = u.1;
              linked = linked_at j ∙ or_right (a.linked j) _ (and_both (nat_lt j i) (is_named j (plain pairs)) ((Decides-ltb j i).1 u.0) (named j s u.1));
            }))
          ];
          view_up = λ j s e. subst (λ (o : Option Stamped). AtLeast o s.stamp) (sym (view_at j)) (f.view_up j s e);
          hears = λ j s u. let same : Tell s ≡ Refuse step pairs = In-cond (j == k) _ _ u in cc;
          heeds = λ j st pr u.
              let same : Refuse st pr ≡ Refuse step pairs = In-cond (j == k) _ _ u in
              let same2 : pairs ≡ pr = cc in
              subst (Heeds i (heed i step pairs a)) same2 (record {
                covers = λ y u l. subst (λ (o : Option Stamped). AtLeast o y.1.stamp) (sym (view_at y.0)) (f.covers y u l);
                kept = λ s v e. g.has (λ y u l. ap value_in (sym (view_at y.var)) ∙ s y u l) v e;
              });
          linked = λ j. rw (sent_to-each AddLink (λ z. is_named z (plain pairs) && not (a.linked z)) j i) (ap bit (linked_at j) ∙ three (a.linked j) (nat_lt j i) (is_named j (plain pairs)));
          no_asks = λ j. elim (j == k) as (λ b. asks (cond b (Refuse step pairs ∷ []) []) ≡ 0) [ true ↦ refl | false ↦ refl ];
          only_asks = λ j m. rw (sent_to-each AddLink (λ z. is_named z (plain pairs) && not (a.linked z)) j i) (λ u. In-cond (nat_lt j i && (is_named j (plain pairs) && not (a.linked j))) m AddLink u);
          value = g.value ∙ f.value;
          stamp = g.stamp ∙ f.stamp;
          waits = g.waits ∙ f.waits;
          tells = g.tells ∙ f.tells;
          sound = record {
            in_domain = λ v e. h.in_domain v (sym (g.value ∙ f.value) ∙ e);
            stamped = λ v e. let x = h.stamped v (sym (g.value ∙ f.value) ∙ e) in let y : (heed i step pairs a).stamp ≡ a.stamp = g.stamp ∙ f.stamp in omega arith;
            in_view = λ j s e. elim (f.view_from j s (sym (view_at j) ∙ e)) [
              | inl u ↦ h.in_view j s u
              | inr u ↦ let q = proper.in_domains (pair_of j s.value) (plain-In pairs (j, s) u.1) in (q.variable, q.value)
            ];
            proper = λ x u. elim (g.recorded x u) [
              | inl v ↦ h.proper x (f.recorded x v)
              | inr v ↦ subst (λ (z : Record). Proper p i z.pairs) (sym v) proper
            ];
            agreeing = g.agreeing proper.others (f.agreeing h.agreeing);
            distinct = g.distinct (f.distinct h.distinct);
            higher = λ j e. elim (or_cases (a.linked j) (nat_lt j i && is_named j (plain pairs)) (sym (linked_at j) ∙ e)) [ inl u ↦ h.higher j u | inr u ↦ (Decides-ltb j i).0 (and_left _ _ u) ];
            constraints = λ c u o j v. elim (h.constraints c u o j v) [ inl e ↦ inl e | inr e ↦ inr (linked_at j ∙ or_left _ _ e) ];
            lower = λ j e. h.lower j (sym (tells_at j) ∙ e);
          };
        }
      where
        here : In (Refuse step pairs) (only k (Refuse step pairs) k)
        here = elim (eqb_tells k k) [ inl t ↦ rw t.0 (inl refl) | inr t ↦ absurd (t.1 refl) ]

        three : (x y z : Bool) → bit (x || (y && z)) ≡ asks (cond (y && (z && not x)) (AddLink ∷ []) []) + bit x
        three true true true = omega arith
        three true true false = omega arith
        three true false z = omega arith
        three false true true = omega arith
        three false true false = omega arith
        three false false z = omega arith

    -- where it tells nothing new, the view is as before
    pub unchanged : is_news i pairs a ≡ false → (j : ℕ) → (heed i step pairs a).view j ≡ a.view j
    unfolding asker learner kept
    unchanged n j =
        let f = learns_all i pairs asker in
        let g = keeps i kept learner in
        ap (λ (z : View). z j) g.view ∙ ap (λ (z : Agent). z.view j) (f.silent n)

  -- a link request that comes
  asked : k < count p → a.tells k ≡ false → (a.waits ≡ false → Chosen p i a) → Done p i a (record a { tells = update a.tells k true }) (only k AddLink) (λ j. sent_to j (own_value k a a.value))
  asked r f c = record {
    acts = record {
      view_from = λ j s e. inl e;
      view_up = λ j s e. (s, e, omega arith);
      hears = λ j s u. let same : Tell s ≡ AddLink = In-cond (j == k) _ _ u in cc;
      heeds = λ j step pairs u. let same : Refuse step pairs ≡ AddLink = In-cond (j == k) _ _ u in cc;
      linked = λ j. none (no_asks j a.value);
      tells = λ j. elim (eqb_tells j k) [
        | inl t ↦ let fj : a.tells j ≡ false = ap a.tells t.1 ∙ f in rw (t.0, fj) (omega arith)
        | inr t ↦ rw t.0 (omega arith)
      ];
      ages = inl (refl, refl);
      told = λ j v e g. elim (eqb_tells j k) [
        | inl t ↦ inr (rw g (own j v (sym t.1)))
        | inr t ↦ inl (rw t.0 at e, g, refl)
      ];
      announced = λ j s u. by_value a.value refl j s u;
      sees = λ j step pairs u. not_refused a.value j step pairs u;
      fine = λ j m u. all_fine a.value refl j m u;
      why = λ w. inl (w, λ j. refl);
      wakes = λ w. inl w;
    };
    sound = record {
      in_domain = h.in_domain;
      stamped = h.stamped;
      in_view = h.in_view;
      proper = h.proper;
      agreeing = h.agreeing;
      distinct = h.distinct;
      higher = h.higher;
      constraints = h.constraints;
      lower = λ j u. elim (eqb_tells j k) [ inl t ↦ omega arith | inr t ↦ h.lower j (rw t.0 at u) ];
    };
    chosen = λ w. let x = c w in record { value = x.value; is = x.is; free = x.free };
  }
    where
      none : {n m : ℕ} → n ≡ 0 → m ≡ n + m
      none e = omega arith

      no_asks : (j : ℕ) (o : Option ℤ) → asks (sent_to j (own_value k a o)) ≡ 0
      no_asks j None = refl
      no_asks j (Some v) = elim (k == j) as (λ b. asks (cond b (Tell (record { value = v; stamp = a.stamp }) ∷ []) []) ≡ 0) [ true ↦ refl | false ↦ refl ]

      own : (j : ℕ) (v : ℤ) → k ≡ j → In (Tell (record { value = v; stamp = a.stamp })) (sent_to j (own_value k a (Some v)))
      own j v e = elim (eqb_tells k j) [ inl t ↦ rw t.0 (inl refl) | inr t ↦ absurd (t.1 e) ]

      by_value : (o : Option ℤ) → a.value ≡ o → (j : ℕ) (s : Stamped) → In (Tell s) (sent_to j (own_value k a o)) → (update a.tells k true j ≡ true) × (o ≡ Some s.value) × (s.stamp ≡ a.stamp)
      by_value None e j s u = absurd u
      by_value (Some v) e j s u =
          let same : Tell s ≡ Tell (record { value = v; stamp = a.stamp }) = In-cond (k == j) _ _ u in
          let same2 : s ≡ record { value = v; stamp = a.stamp } = cc in
          (tells_it j (In-cond-true (k == j) _ _ u), ap (λ (z : Stamped). Some z.value) (sym same2), ap (λ (z : Stamped). z.stamp) same2)
        where
          tells_it : (j : ℕ) → (k == j) ≡ true → update a.tells k true j ≡ true
          tells_it j e = elim (eqb_tells j k) [ inl t ↦ rw t.0 refl | inr t ↦ absurd (t.1 (grind (arith, nat_tests))) ]

      not_refused : (o : Option ℤ) (j step : ℕ) (pairs : StampedNogood) → In (Refuse step pairs) (sent_to j (own_value k a o)) → (y : ℕ × Stamped) → In y pairs → a.view y.0 ≡ Some y.1
      not_refused None j step pairs u = absurd u
      not_refused (Some v) j step pairs u = let same : Refuse step pairs ≡ Tell (record { value = v; stamp = a.stamp }) = In-cond (k == j) _ _ u in cc

      all_fine : (o : Option ℤ) → a.value ≡ o → (j : ℕ) (m : Message) → In m (sent_to j (own_value k a o)) → Fine p i j m
      all_fine None e j m u = absurd u
      all_fine (Some v) e j m u = subst (Fine p i j) (sym (In-cond (k == j) m _ u)) (in_range, h.in_domain v e)

  -- What is known of a message before it comes.
  abbrev pub IsExpected : Message → Type 0
  IsExpected (Tell s) = k < i
  IsExpected (Refuse step pairs) = Unit {0}
  IsExpected AddLink = a.tells k ≡ false

  pub received_sound : (number : ℕ) (m : Message) → Fine p k i m → IsExpected m → Sound p i (receive p i number a k m).agent
  received_sound number (Tell s) f n = (elim (is_newer (a.view k) s.stamp) as (λ b. Sound p i (cond b (settle p i number (learn k s a)) (stay a)).agent) [
    | true ↦ (settles p i in_range (learn k s a) (announced s n f).sound number).sound
    | false ↦ h
  ])
  received_sound number (Refuse step pairs) f n =
      let b = heed i step pairs a in
      elim (a.waits && not (is_news i pairs a)) as (λ c. Sound p i (first_sent (to_each AddLink (unlinked i (plain pairs) a)) (cond c (stay b) (settle p i number b))).agent) [
        | true ↦ (heeded step pairs f).sound
        | false ↦ (settles p i in_range b (heeded step pairs f).sound number).sound
      ]
  received_sound number AddLink f n = one_more p i k a h f

  settles_after : (number : ℕ) (b : Agent) (came first : ℕ → List Message) → Takes p i a b came first → refutes (settle p i number b).step ≡ false → Done p i a (settle p i number b).agent came (λ j. first j ++ sent_to j (settle p i number b).sent)
  settles_after number b came first t r =
      let s = settles p i in_range b t.sound number in
      let q = rests p i in_range b t.sound number r in
      record { acts = then p i in_range a b _ came first _ t s (λ w. inr (q.sends w)); sound = s.sound; chosen = q.chosen }

  stays_after : (b : Agent) (came first : ℕ → List Message) → Takes p i a b came first → ((j : ℕ) → b.view j ≡ a.view j) → (b.waits ≡ false → Chosen p i b) → Done p i a b came (λ j. first j ++ [])
  stays_after b came first t v c = record { acts = then p i in_range a b b came first (λ j. []) t (stays p i b t.sound) (λ w. inl (sym t.waits ∙ w, v)); sound = t.sound; chosen = c }

  pub receives : (number : ℕ) (m : Message) → Fine p k i m → IsExpected m → (a.waits ≡ false → Chosen p i a) → refutes (receive p i number a k m).step ≡ false
      → Done p i a (receive p i number a k m).agent (only k m) (λ j. sent_to j (receive p i number a k m).sent)
  receives number (Tell s) f n c r =
      (elim (is_newer (a.view k) s.stamp) as (λ b. is_newer (a.view k) s.stamp ≡ b → let o : Outcome = cond b (settle p i number (learn k s a)) (stay a) in refutes o.step ≡ false → Done p i a o.agent (only k (Tell s)) (λ j. sent_to j o.sent)) [
        | true ↦ λ e r. settles_after number (learn k s a) (only k (Tell s)) (λ j. []) (announced s n f) r
        | false ↦ λ e r. stays_after a (only k (Tell s)) (λ j. []) (stale s e) (λ j. refl) c
      ]) refl r
  receives number (Refuse step pairs) f n c r =
      let b = heed i step pairs a in
      (elim (a.waits && not (is_news i pairs a)) as (λ w. (a.waits && not (is_news i pairs a)) ≡ w → let o : Outcome = first_sent (to_each AddLink (unlinked i (plain pairs) a)) (cond w (stay b) (settle p i number b)) in refutes o.step ≡ false → Done p i a o.agent (only k (Refuse step pairs)) (λ j. sent_to j o.sent)) [
        | true ↦ λ e r. subst (λ (went : ℕ → List Message). Done p i a b (only k (Refuse step pairs)) went) (λ t j. sym (sent_to-append j (to_each AddLink (unlinked i (plain pairs) a)) []) t)
            (stays_after b (only k (Refuse step pairs)) _ (heeded step pairs f) (unchanged step pairs f (not_true _ (and_right a.waits _ e))) (λ x. let t : true ≡ false = sym ((heeded step pairs f).waits ∙ and_left _ _ e) ∙ x in cc))
        | false ↦ λ e r. subst (λ (went : ℕ → List Message). Done p i a (settle p i number b).agent (only k (Refuse step pairs)) went) (λ t j. sym (sent_to-append j (to_each AddLink (unlinked i (plain pairs) a)) (settle p i number b).sent) t)
            (settles_after number b (only k (Refuse step pairs)) _ (heeded step pairs f) r)
      ]) refl r
    where
      not_true : (b : Bool) → not b ≡ true → b ≡ false
      not_true true h = cc
      not_true false h = refl
  receives number AddLink f n c r = asked f n c
