-- One agent acts, and what is kept stays.
use Rattle.dcsp_defs.specs.declared.nogood.Pair.{Pair}
use Rattle.std.proofs.Common.{◌≡◌, ℕ, ◌+◌, ◌<◌, Bool, true, false, ◌⊎◌, inl, inr, List, [], ◌∷◌, ◌++◌, Some, ℤ, refl, sym, ap, ◌∙◌, subst, arith}
use Rattle.std.proofs.lemmas.Bool.Decides.{eqb_tells}
use native.Mathlib.Decide.{dec_lt}
use Rattle.dcsp_defs.specs.Words.{In, is_value}
use Rattle.dcsp_defs.specs.Csp.{Csp, with_value}
use Rattle.dcsp_defs.specs.Pairs.{value_at, pair_of}
use Rattle.abt_defs.specs.Agents.{Agent, Message, Tell, Refuse, AddLink, Record, Stamped, StampedNogood, plain, lowest, known, value_in}
use Rattle.abt_defs.specs.Reasons.{Item, items, record_item, ruled_out}
use Rattle.abt_defs.specs.Network.{Network}
use Rattle.dcsp_defs.proofs.Lists.{In-left, In-right, In-split, In-map, In-list_all, find-some}
use Rattle.law_agent.proofs.Nogoods.{In-value_at, In-plain, is-is_value, value_at-In}
use Rattle.law_agent.proofs.Facts.{asks, bit, AtLeast, Dated, Fine, IsDated, Sound, Chosen, Passed, Backed, Kept, Acts}

pub asks-append : (xs ys : List Message) → asks (xs ++ ys) ≡ asks xs + asks ys
asks-append [] ys = omega arith
asks-append (Tell s ∷ xs) ys = asks-append xs ys
asks-append (Refuse step pairs ∷ xs) ys = asks-append xs ys
asks-append (AddLink ∷ xs) ys = let h = asks-append xs ys in omega arith

pub bit_up : (x y : Bool) (n : ℕ) → bit y ≡ n + bit x → x ≡ true → y ≡ true
bit_up x true n e f = refl
bit_up x false n e f = absurd (let g : bit x ≡ 1 = ap bit f in omega arith)

pub stamped-same : (s : Stamped) (v : ℤ) (n : ℕ) → s.value ≡ v → s.stamp ≡ n → s ≡ record { value = v; stamp = n }
stamped-same s v n e f = ap (λ (w : ℤ). let t : Stamped = record { value = w; stamp = s.stamp } in t) e ∙ ap (λ (m : ℕ). let t : Stamped = record { value = v; stamp = m } in t) f

-- a nogood recorded here, whose value for i is v, rules v out
pub recorded_rules_out : (p : Csp) (i : ℕ) (a : Agent) (v : ℤ) (x : Record) → Sound p i a → In x a.recorded → value_at x.pairs i ≡ Some v → ruled_out p i (known a) a.recorded v ≡ true
recorded_rules_out p i a v x h here own =
    find-some (λ (z : Item). z.violated (with_value i v (known a))) (record_item x) (items p i a.recorded) (In-right (record_item x) _ _ (In-map record_item x a.recorded here))
    (In-list_all (λ (y : Pair). is_value (with_value i v (known a) y.var) y.value) x.pairs each)
  where
    each : (y : Pair) → In y x.pairs → is_value (with_value i v (known a) y.var) y.value ≡ true
    each y u = elim (eqb_tells y.var i) [
      | inl t ↦ let e : Some v ≡ Some y.value = sym own ∙ (ap (value_at x.pairs) (sym t.1) ∙ In-value_at x.pairs (h.proper x here).rising y u) in rw t.0 (is-is_value (Some v) y.value e)
      | inr t ↦ rw t.0 (elim (h.agreeing x here y u) [ inl e ↦ absurd (t.1 e) | inr e ↦ is-is_value _ y.value e ])
    ]

-- A move of the whole network. From the list of each pair came is taken, mid is left, and went is added.
pub record Moves (p : Csp) (r : ℕ) (net new : Network) : Type 0 where
  pub came : ℕ → ℕ → List Message
  pub mid : ℕ → ℕ → List Message
  pub went : ℕ → ℕ → List Message
  pub before : (k j : ℕ) → net.links k j ≡ came k j ++ mid k j
  pub after : (k j : ℕ) → new.links k j ≡ mid k j ++ went k j
  pub acts : (i : ℕ) → Acts p i (net.agents i) (new.agents i) (λ k. came k i) (went i)
  pub sound : (i : ℕ) → Sound p i (new.agents i)
  pub chosen : (i : ℕ) → i < r → (new.agents i).waits ≡ false → Chosen p i (new.agents i)
  pub started : (k j : ℕ) (m : Message) → In m (came k j) → j < r

-- what the agent had, it had
pub persists : (a b : Agent) (s : Stamped) → ((b.stamp ≡ a.stamp) × (b.value ≡ a.value)) ⊎ (a.stamp < b.stamp) → Dated a s → Dated b s
persists a b s (inl e) d = record { positive = d.positive; most = let m = d.most in let f = e.0 in omega arith; same = λ f. e.1 ∙ d.same (f ∙ e.0) }
persists a b s (inr l) d = record { positive = d.positive; most = let m = d.most in omega arith; same = λ f. let m = d.most in absurd (omega arith) }

module _ (p : Csp) (s r : ℕ) (net new : Network) (h : Kept p s net) (m : Moves p r net new) where
  pub in_came : (k j : ℕ) (x : Message) → In x (m.came k j) → In x (net.links k j)
  in_came k j x u = subst (In x) (sym (m.before k j)) (In-left x (m.came k j) (m.mid k j) u)

  pub in_mid : (k j : ℕ) (x : Message) → In x (m.mid k j) → In x (net.links k j)
  in_mid k j x u = subst (In x) (sym (m.before k j)) (In-right x (m.came k j) (m.mid k j) u)

  mid_in : (k j : ℕ) (x : Message) → In x (m.mid k j) → In x (new.links k j)
  mid_in k j x u = subst (In x) (sym (m.after k j)) (In-left x (m.mid k j) (m.went k j) u)

  went_in : (k j : ℕ) (x : Message) → In x (m.went k j) → In x (new.links k j)
  went_in k j x u = subst (In x) (sym (m.after k j)) (In-right x (m.mid k j) (m.went k j) u)

  pub older : (k : ℕ) (s : Stamped) → Dated (net.agents k) s → Dated (new.agents k) s
  older k s d = persists (net.agents k) (new.agents k) s (m.acts k).ages d

  linked_up : (i k : ℕ) → (net.agents i).linked k ≡ true → (new.agents i).linked k ≡ true
  linked_up i k e = bit_up _ _ (asks (m.went i k)) ((m.acts i).linked k) e

  tells_up : (k i : ℕ) → (net.agents k).tells i ≡ true → (new.agents k).tells i ≡ true
  tells_up k i e = bit_up _ _ (asks (m.came i k)) ((m.acts k).tells i) e

  pub dated_views_after : (i k : ℕ) (t : Stamped) → (new.agents i).view k ≡ Some t → Dated (new.agents k) t
  dated_views_after i k t e = older k t (elim ((m.acts i).view_from k t e) [
    | inl u ↦ h.dated_views i k t u
    | inr u ↦ elim u [
      | inl v ↦ h.dated k i (Tell t) (in_came k i (Tell t) v)
      | inr v ↦ h.dated v.sender i (Refuse v.step v.pairs) (in_came v.sender i _ v.there) (k, t) v.named
    ]
  ])

  -- a view that is at least as new as the present is the present
  pub up_to_date : (i k : ℕ) (v : ℤ) → (new.agents k).value ≡ Some v → AtLeast ((new.agents i).view k) (new.agents k).stamp → (new.agents i).view k ≡ Some (record { value = v; stamp = (new.agents k).stamp })
  up_to_date i k v e a =
      let d = dated_views_after i k a.0 a.1 in
      let f : a.0.stamp ≡ (new.agents k).stamp = let x = d.most in let y = a.2 in omega arith in
      let g : Some v ≡ Some a.0.value = sym e ∙ d.same f in
      let w : a.0.value ≡ v = cc in
      a.1 ∙ ap Some (stamped-same a.0 v (new.agents k).stamp w f)

  present_after : (k i : ℕ) (v : ℤ) → (new.agents k).tells i ≡ true → (new.agents k).value ≡ Some v
      → ((new.agents i).view k ≡ Some (record { value = v; stamp = (new.agents k).stamp })) ⊎ In (Tell (record { value = v; stamp = (new.agents k).stamp })) (new.links k i)
  present_after k i v t e = elim ((m.acts k).told i v t e) [
    | inr u ↦ inr (went_in k i _ u)
    | inl o ↦ at o.2 (elim (h.present k i v o.0 o.1) [
      | inl u ↦ inl ((m.acts i).view_up k _ u)
      | inr u ↦ elim (In-split _ (m.came k i) (m.mid k i) (subst (In _) (m.before k i) u)) [
        | inl w ↦ inl ((m.acts i).hears k _ w)
        | inr w ↦ inr (mid_in k i _ w)
      ]
    ])
  ]
    where
      at : (new.agents k).stamp ≡ (net.agents k).stamp → AtLeast ((new.agents i).view k) (net.agents k).stamp ⊎ In (Tell (record { value = v; stamp = (net.agents k).stamp })) (new.links k i)
          → ((new.agents i).view k ≡ Some (record { value = v; stamp = (new.agents k).stamp })) ⊎ In (Tell (record { value = v; stamp = (new.agents k).stamp })) (new.links k i)
      at f (inl a) = inl (up_to_date i k v e (subst (AtLeast ((new.agents i).view k)) (sym f) a))
      at f (inr u) = inr (subst (λ (n : ℕ). In (Tell (record { value = v; stamp = n })) (new.links k i)) (sym f) u)

  asked_after : (i k : ℕ) → asks (new.links i k) + bit ((new.agents k).tells i) ≡ bit ((new.agents i).linked k)
  asked_after i k =
      let a : asks (new.links i k) ≡ asks (m.mid i k) + asks (m.went i k) = ap asks (m.after i k) ∙ asks-append (m.mid i k) (m.went i k) in
      let b : asks (net.links i k) ≡ asks (m.came i k) + asks (m.mid i k) = ap asks (m.before i k) ∙ asks-append (m.came i k) (m.mid i k) in
      let c = (m.acts i).linked k in
      let d = (m.acts k).tells i in
      let e = h.asked i k in
      omega arith

  -- who tells is linked
  linked_before : (k i : ℕ) → (net.agents k).tells i ≡ true → (net.agents i).linked k ≡ true
  linked_before k i t = bit_up _ _ (asks (net.links i k)) (sym (h.asked i k)) t

  tells_first_after : (k i : ℕ) (t : Stamped) → In (Tell t) (new.links k i) → (new.agents k).tells i ≡ true
  tells_first_after k i t u = elim (In-split (Tell t) (m.mid k i) (m.went k i) (subst (In (Tell t)) (m.after k i) u)) [
    | inl v ↦ tells_up k i (h.tells_first k i t (in_mid k i _ v))
    | inr v ↦ ((m.acts k).announced i t v).0
  ]

  seen_after : (i k : ℕ) (t : Stamped) → (new.agents i).view k ≡ Some t → (new.agents i).linked k ≡ true
  seen_after i k t e = elim ((m.acts i).view_from k t e) [
    | inl u ↦ linked_up i k (h.seen i k t u)
    | inr u ↦ elim u [
      | inl v ↦ linked_up i k (linked_before k i (h.tells_first k i t (in_came k i _ v)))
      | inr v ↦ v.linked
    ]
  ]

  fine_after : (k j : ℕ) (x : Message) → In x (new.links k j) → Fine p k j x
  fine_after k j x i = elim (In-split x (m.mid k j) (m.went k j) (subst (In x) (m.after k j) i)) [
    | inl u ↦ h.fine k j x (in_mid k j x u)
    | inr u ↦ (m.acts k).fine j x u
  ]

  dated_after : (k j : ℕ) (x : Message) → In x (new.links k j) → IsDated new k x
  dated_after k j x u = elim (In-split x (m.mid k j) (m.went k j) (subst (In x) (m.after k j) u)) [
    | inl v ↦ still x (h.dated k j x (in_mid k j x v))
    | inr v ↦ sent x v
  ]
    where
      still : (x : Message) → IsDated net k x → IsDated new k x
      still (Tell t) d = older k t d
      still (Refuse step pairs) d = λ y w. older y.0 y.1 (d y w)
      still AddLink d = tt

      sent : (x : Message) → In x (m.went k j) → IsDated new k x
      sent (Tell t) v =
          let a = (m.acts k).announced j t v in
          let q = (m.sound k).stamped t.value a.1 in
          let f = a.2 in
          record { positive = omega arith; most = omega arith; same = λ g. a.1 }
      sent (Refuse step pairs) v = λ y w. dated_views_after k y.0 y.1 ((m.acts k).sees j step pairs v y w)
      sent AddLink v = tt

  -- either an agent that the nogood names has taken a value since, or all its values are present
  passed_or_present : (pairs : StampedNogood) → ((y : ℕ × Stamped) → In y pairs → Dated (new.agents y.0) y.1) → Passed new pairs ⊎ ((y : ℕ × Stamped) → In y pairs → y.1.stamp ≡ (new.agents y.0).stamp)
  passed_or_present [] d = inr (λ y u. absurd u)
  passed_or_present (x ∷ xs) d = elim (dec_lt x.1.stamp (new.agents x.0).stamp) [
    | yes l ↦ inl (record { pair = x; named = inl refl; later = l })
    | no g ↦ elim (passed_or_present xs (λ y u. d y (inr u))) [
      | inl q ↦ inl (record { pair = q.pair; named = inr q.named; later = q.later })
      | inr q ↦ inr (λ y u. elim u [
        | inl e ↦ subst (λ (z : ℕ × Stamped). z.1.stamp ≡ (new.agents z.0).stamp) (sym e) (let o = (d x (inl refl)).most in omega arith)
        | inr v ↦ q y v
      ])
    ]
  ]

  -- a nogood that has come to j: j waits, or the nogood has passed
  arrives : (k j step : ℕ) (pairs : StampedNogood) → In (Refuse step pairs) (m.came k j) → ((new.agents j).waits ≡ true) ⊎ Passed new pairs
  arrives k j step pairs u = elim (passed_or_present pairs dates) [
    | inl q ↦ inr q
    | inr now ↦ by_waiting now (new.agents j).waits refl
  ]
    where
      dates : (y : ℕ × Stamped) → In y pairs → Dated (new.agents y.0) y.1
      dates y v = older y.0 y.1 (h.dated k j (Refuse step pairs) (in_came k j _ u) y v)

      by_waiting : ((y : ℕ × Stamped) → In y pairs → y.1.stamp ≡ (new.agents y.0).stamp) → (b : Bool) → (new.agents j).waits ≡ b → ((new.agents j).waits ≡ true) ⊎ Passed new pairs
      by_waiting now true e = inl e
      by_waiting now false e =
          let c = m.chosen j (m.started k j _ u) e in
          let proper = h.fine k j (Refuse step pairs) (in_came k j _ u) in
          let heeds = (m.acts j).heeds k step pairs u in
          let own = In-plain pairs (pair_of j proper.own) (value_at-In (plain pairs) j proper.own proper.has) in
          let at : j ≡ own.0.0 = ap (λ (t : Pair). t.var) own.2 in
          let is : proper.own ≡ own.0.1.value = ap (λ (t : Pair). t.value) own.2 in
          let has : (new.agents j).value ≡ Some own.0.1.value = ap (λ z. (new.agents z).value) at ∙ (dates own.0 own.1).same (now own.0 own.1) in
          let same : Some c.value ≡ Some own.0.1.value = sym c.is ∙ has in
          let same2 : c.value ≡ own.0.1.value = cc in
          let kept = heeds.kept fits c.value (proper.has ∙ ap Some (is ∙ sym same2)) in
          let out = recorded_rules_out p j (new.agents j) c.value kept.0 (m.sound j) kept.1 kept.2 in
          let f : false ≡ true = sym c.free ∙ out in cc
        where
          fits : (y : Pair) → In y (plain pairs) → y.var < j → known (new.agents j) y.var ≡ Some y.value
          fits y v l =
              let z = In-plain pairs y v in
              let at : y.var ≡ z.0.0 = ap (λ (t : Pair). t.var) z.2 in
              let is : y.value ≡ z.0.1.value = ap (λ (t : Pair). t.value) z.2 in
              let c : AtLeast ((new.agents j).view z.0.0) z.0.1.stamp = ((m.acts j).heeds k step pairs u).covers z.0 z.1 (omega arith) in
              let d = dates z.0 z.1 in
              let n = now z.0 z.1 in
              let e = up_to_date j z.0.0 z.0.1.value (d.same n) (subst (AtLeast ((new.agents j).view z.0.0)) n c) in
              ap (known (new.agents j)) at ∙ ap value_in e ∙ ap Some (sym is)

  backed_after : (i : ℕ) → (new.agents i).waits ≡ true → Backed new i
  backed_after i w = elim ((m.acts i).why w) [
    | inl same ↦
        let b = h.backed i same.0 in
        record {
          first = b.first;
          rest = b.rest;
          step = b.step;
          higher = b.higher;
          seen = λ y u. same.1 y.0 ∙ b.seen y u;
          there = still b.first b.rest b.step b.seen b.there;
        }
    | inr s ↦ record {
      first = s.first;
      rest = s.rest;
      step = s.step;
      higher = s.higher;
      seen = s.seen;
      there = inl (went_in i (lowest s.first s.rest) _ s.goes);
    }
  ]
    where
      still : (first : ℕ × Stamped) (rest : StampedNogood) (step : ℕ) → ((y : ℕ × Stamped) → In y (first ∷ rest) → (net.agents i).view y.0 ≡ Some y.1)
          → In (Refuse step (first ∷ rest)) (net.links i (lowest first rest)) ⊎ (((net.agents (lowest first rest)).waits ≡ true) ⊎ Passed net (first ∷ rest))
          → In (Refuse step (first ∷ rest)) (new.links i (lowest first rest)) ⊎ (((new.agents (lowest first rest)).waits ≡ true) ⊎ Passed new (first ∷ rest))
      still first rest step d (inl u) = elim (In-split (Refuse step (first ∷ rest)) (m.came i (lowest first rest)) (m.mid i (lowest first rest)) (subst (In _) (m.before i (lowest first rest)) u)) [
        | inl v ↦ inr (arrives i (lowest first rest) step (first ∷ rest) v)
        | inr v ↦ inl (mid_in i (lowest first rest) _ v)
      ]
      still first rest step d (inr (inr q)) = inr (inr (record {
        pair = q.pair;
        named = q.named;
        later = elim ((m.acts q.pair.0).ages) [ inl e ↦ let l = q.later in let f = e.0 in omega arith | inr e ↦ let l = q.later in omega arith ];
      }))
      still first rest step d (inr (inl w)) = elim ((m.acts (lowest first rest)).wakes w) [
        | inl v ↦ inr (inl v)
        | inr l ↦
            let q = named first rest in
            let old = h.dated_views i (lowest first rest) q.0 (d (lowest first rest, q.0) q.1) in
            inr (inr (record { pair = (lowest first rest, q.0); named = q.1; later = let o = old.most in omega arith }))
      ]
        where
          named : (first : ℕ × Stamped) (rest : StampedNogood) → (t : Stamped) × In (lowest first rest, t) (first ∷ rest)
          named first [] = (first.1, inl refl)
          named first (next ∷ rest) = let q = named next rest in (q.0, inr q.1)

  pub kept_after : Kept p r new
  kept_after = record {
    present = present_after;
    asked = asked_after;
    tells_first = tells_first_after;
    seen = seen_after;
    fine = fine_after;
    dated_views = dated_views_after;
    dated = dated_after;
    sound = m.sound;
    backed = backed_after;
    chosen = m.chosen;
  }
