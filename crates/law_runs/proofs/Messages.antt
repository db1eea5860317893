-- What a message costs.
use Rattle.std.proofs.Common.{◌≡◌, ◌≢◌, ℕ, ◌+◌, ◌<◌, ◌≤◌, Bool, true, false, cond, not, ◌&&◌, ◌||◌, ◌⊎◌, inl, inr, List, [], ◌∷◌, ◌++◌, map, ◌==◌, nat_lt, Option, Some, None, ℤ, is_some, refl, sym, ap, ◌∙◌, subst, arith}
use Rattle.std.proofs.lemmas.Bool.Decides.{eqb_tells, Decides-ltb}
use Rattle.dcsp_defs.specs.Words.{In, update, sum_below, is_value}
use Rattle.dcsp_defs.specs.Csp.{Csp, domain, count, with_value}
use Rattle.dcsp_defs.specs.Pairs.{value_at}
use Rattle.abt_defs.specs.Agents.{Agent, Message, Tell, Refuse, AddLink, Record, Stamped, StampedNogood, View, plain, known}
use Rattle.abt_defs.specs.Reasons.{Item, items, record_item, cause, ruled_out}
use Rattle.abt_defs.specs.Steps.{Outcome, to_each, settle, stay, is_newer, learn, learn_all, is_news, unlinked, ask, fits, is_refused, keep, heed, first_sent, own_value, receive}
use Rattle.abt_defs.specs.Network.{sent_to, refutes}
use Rattle.dcsp_defs.proofs.Lists.{In-left, In-right, In-split, In-list_any, or_cases, or_left, or_right, and_left, and_right, find-found, find-some}
use Rattle.law_agent.proofs.Sent.{sent_to-append}
use Rattle.law_agent.proofs.Facts.{bit, AtLeast, Fine, Sound}
use Rattle.law_agent.proofs.Learns.{learns_all}
use Rattle.law_agent.proofs.Receives.{Takes, only, announced, heeded, unchanged, IsExpected}
use Rattle.law_runs.proofs.Sums.{how_many-le, sum-same, sum-zero, sum-le, sum-more}
use Rattle.law_runs.proofs.Counts.{announces_in, nogoods_in, announces-append, nogoods-append, marked, stamp_in, stamps, Costs}
use Rattle.law_runs.proofs.BoundActs.{SettleCosts, settle_costs}

-- ---- stamps in views

at_least_stamp : (o : Option Stamped) (n : ℕ) → AtLeast o n → n ≤ stamp_in o
at_least_stamp None n a = let e = a.1 in cc
at_least_stamp (Some s) n a = let e : Some s ≡ Some a.0 = a.1 in let f : s ≡ a.0 = cc in let g : s.stamp ≡ a.0.stamp = ap (λ (z : Stamped). z.stamp) f in let l = a.2 in omega arith

module _ (i : ℕ) (a b : Agent) (up : (k : ℕ) (s : Stamped) → a.view k ≡ Some s → AtLeast (b.view k) s.stamp) where
  pub no_less : (k : ℕ) → stamp_in (a.view k) ≤ stamp_in (b.view k)
  no_less k = at (a.view k) refl
    where
      at : (o : Option Stamped) → a.view k ≡ o → stamp_in o ≤ stamp_in (b.view k)
      at None e = omega arith
      at (Some s) e = at_least_stamp (b.view k) s.stamp (up k s e)

  pub stamps_up : stamps i a ≤ stamps i b
  stamps_up = sum-le (λ k. stamp_in (a.view k)) (λ k. stamp_in (b.view k)) i (λ k l. no_less k)

  -- something newer came
  pub stamps_rise : (k n : ℕ) → k < i → 0 < n → is_newer (a.view k) n ≡ true → AtLeast (b.view k) n → 1 + stamps i a ≤ stamps i b
  stamps_rise k n l q e at = sum-more (λ k. stamp_in (a.view k)) (λ k. stamp_in (b.view k)) k i l no_less (let x = at_least_stamp (b.view k) n at in let y = lower (a.view k) e in omega arith)
    where
      lower : (o : Option Stamped) → is_newer o n ≡ true → stamp_in o < n
      lower None e = q
      lower (Some s) e = (Decides-ltb s.stamp n).0 e

-- ---- nothing but links

no_announces : (ms : List Message) → ((m : Message) → In m ms → m ≡ AddLink) → (announces_in ms ≡ 0) × (nogoods_in ms ≡ 0)
no_announces [] h = (refl, refl)
no_announces (Tell s ∷ ms) h = let e = h (Tell s) (inl refl) in cc
no_announces (Refuse step pairs ∷ ms) h = let e = h (Refuse step pairs) (inl refl) in cc
no_announces (AddLink ∷ ms) h = no_announces ms (λ m u. h m (inr u))

-- ---- a nogood that is recorded rules no fewer values out

ruled_out_more : (p : Csp) (i : ℕ) (a : Agent) (x : Record) (v : ℤ) → ruled_out p i (known a) a.recorded v ≡ true → ruled_out p i (known (record a { recorded = a.recorded ++ x ∷ [] })) (record a { recorded = a.recorded ++ x ∷ [] }).recorded v ≡ true
ruled_out_more p i a x v h = found (cause p i (known a) a.recorded v) refl h
  where
    more : (z : Item) (ys : List Item) (rs : List Record) → In z (ys ++ map record_item rs) → In z (ys ++ map record_item (rs ++ x ∷ []))
    more z ys rs u = elim (In-split z ys (map record_item rs) u) [ inl w ↦ In-left z ys _ w | inr w ↦ In-right z ys _ (mapped z rs w) ]
      where
        mapped : (z : Item) (rs : List Record) → In z (map record_item rs) → In z (map record_item (rs ++ x ∷ []))
        mapped z [] u = absurd u
        mapped z (r ∷ rs) (inl e) = inl e
        mapped z (r ∷ rs) (inr u) = inr (mapped z rs u)

    found : (o : Option Item) → cause p i (known a) a.recorded v ≡ o → is_some o ≡ true → ruled_out p i (known (record a { recorded = a.recorded ++ x ∷ [] })) (record a { recorded = a.recorded ++ x ∷ [] }).recorded v ≡ true
    found None e f = cc
    found (Some z) e f =
        let q = find-found (λ (y : Item). y.violated (with_value i v (known a))) z (items p i a.recorded) e in
        find-some (λ (y : Item). y.violated (with_value i v (known a))) z (items p i (record a { recorded = a.recorded ++ x ∷ [] }).recorded) (more z _ a.recorded q.0) q.1

marks_kept : (p : Csp) (i : ℕ) (a : Agent) (x : Record) → marked p i a ≤ marked p i (keep i x a)
marks_kept p i a x = elim (fits i x.pairs a && not (is_refused i a.recorded (value_at x.pairs i))) as (λ b. marked p i a ≤ marked p i (cond b (record a { recorded = a.recorded ++ x ∷ [] }) a)) [
  | true ↦ how_many-le (λ v. ruled_out p i (known a) a.recorded v || is_value a.value v) (λ v. ruled_out p i (known (record a { recorded = a.recorded ++ x ∷ [] })) (record a { recorded = a.recorded ++ x ∷ [] }).recorded v || is_value a.value v) (domain p i)
      (λ v g. elim (or_cases (ruled_out p i (known a) a.recorded v) (is_value a.value v) g) [ inl t ↦ or_left _ _ (ruled_out_more p i a x v t) | inr t ↦ or_right _ _ t ])
  | false ↦ omega arith
]

-- a nogood that tells nothing new
marks_heeded : (p : Csp) (i step : ℕ) (pairs : StampedNogood) (a : Agent) → is_news i pairs a ≡ false → marked p i a ≤ marked p i (heed i step pairs a)
marks_heeded p i step pairs a n =
    let b = ask i (plain pairs) a in
    let same : learn_all i pairs b ≡ b = (learns_all i pairs b).silent n in
    subst (λ (z : Agent). marked p i a ≤ marked p i (keep i (record { step = step; pairs = plain pairs }) z)) (sym same) (marks_kept p i b (record { step = step; pairs = plain pairs }))

-- ---- taking a message in, and then settling

module _ (p : Csp) (i : ℕ) (a b : Agent) (came first : ℕ → List Message) (t : Takes p i a b came first) (changed : Bool)
    (same : changed ≡ false → (k : ℕ) → b.view k ≡ a.view k)
    (rises : bit changed + stamps i a ≤ stamps i b)
    (marks : changed ≡ false → marked p i a ≤ marked p i b) where
  sent_announces : (second : ℕ → List Message) (j : ℕ) → announces_in (first j ++ second j) ≡ announces_in (second j)
  sent_announces second j = announces-append (first j) (second j) ∙ (let z = (no_announces (first j) (t.only_asks j)).0 in omega arith)

  sent_nogoods : (second : ℕ → List Message) (j : ℕ) → nogoods_in (first j ++ second j) ≡ nogoods_in (second j)
  sent_nogoods second j = nogoods-append (first j) (second j) ∙ (let z = (no_announces (first j) (t.only_asks j)).1 in omega arith)

  pub then_settles : (changed ≡ false → a.waits ≡ false) → (c : Agent) (second : ℕ → List Message) → SettleCosts p i b c second → Costs p i a c (λ j. first j ++ second j)
  then_settles idle c second s = record {
    took = s.took;
    changed = changed;
    stamp = let e = s.stamp in let f = t.stamp in omega arith;
    same = λ f k. ap (λ (v : View). v k) s.view ∙ same f k;
    rises = let e : stamps i c ≡ stamps i b = ap (λ (v : View). sum_below (λ k. stamp_in (v k)) i) s.view in omega arith;
    tells_more = λ j. inl (let e = sent_announces second j in let l = s.tells_more j in omega arith);
    tells_none = λ j f. sent_announces second j ∙ s.tells_none j (sym (ap (λ (z : ℕ → Bool). z j) s.tells) ∙ f);
    refusals = let e = sum-same (λ j. nogoods_in (first j ++ second j)) (λ j. nogoods_in (second j)) (count p) (λ j l. sent_nogoods second j) in
        elim s.refusals [
          | inl z ↦ inl (e ∙ z)
          | inr o ↦ inr (record { once = let u = o.once in omega arith; waits = o.waits; fresh = by_change changed refl; about = o.about; value = o.value; seen = o.seen })
        ];
    rests = λ f g. idle g;
    marks = λ f. let m = marks f in let n = s.marks (t.waits ∙ idle f) in omega arith;
    marks_one = s.marks_one;
  }
    where
      by_change : (c : Bool) → changed ≡ c → (changed ≡ true) ⊎ (a.waits ≡ false)
      by_change true e = inl e
      by_change false e = inr (idle e)

  pub then_stays : changed ≡ false → Costs p i a b (λ j. first j ++ [])
  then_stays f = record {
    took = false;
    changed = false;
    stamp = let e = t.stamp in omega arith;
    same = λ g. same f;
    rises = let e : bit changed ≡ 0 = ap bit f in omega arith;
    tells_more = λ j. inl (let e = sent_announces (λ j. []) j in omega arith);
    tells_none = λ j g. sent_announces (λ j. []) j;
    refusals = inl (sum-zero (λ j. nogoods_in (first j ++ [])) (count p) (λ j l. sent_nogoods (λ j. []) j));
    rests = λ g e. sym t.waits ∙ g;
    marks = λ g. let m = marks f in omega arith;
    marks_one = omega arith;
  }

-- nobody acts
pub idle_costs : (p : Csp) (i : ℕ) (a : Agent) → Costs p i a a (λ j. [])
idle_costs p i a = record {
  took = false;
  changed = false;
  stamp = omega arith;
  same = λ g k. refl;
  rises = omega arith;
  tells_more = λ j. inl (omega arith);
  tells_none = λ j g. refl;
  refusals = inl (sum-zero (λ j. 0) (count p) (λ j l. refl));
  rests = λ g e. g;
  marks = λ g. omega arith;
  marks_one = omega arith;
}

-- each stamp in the message is above 0
abbrev pub IsPositive : Message → Type 0
IsPositive (Tell s) = 0 < s.stamp
IsPositive (Refuse step pairs) = (y : ℕ × Stamped) → In y pairs → 0 < y.1.stamp
IsPositive AddLink = Unit {0}

module _ (p : Csp) (i : ℕ) (a : Agent) (h : Sound p i a) (in_range : i < count p) (k : ℕ) where
  asked_costs : a.tells k ≡ false → Costs p i a (record a { tells = update a.tells k true }) (λ j. sent_to j (own_value k a a.value))
  asked_costs f = record {
    took = false;
    changed = false;
    stamp = omega arith;
    same = λ g j. refl;
    rises = omega arith;
    tells_more = λ j. more j a.value refl;
    tells_none = λ j g. elim (eqb_tells j k) [
      | inl t ↦ let x : true ≡ false = rw t.0 at g in cc
      | inr t ↦ let ne : (k == j) ≡ false = apart j k t.1 in elim a.value as (λ o. announces_in (sent_to j (own_value k a o)) ≡ 0) [ None ↦ refl | Some v ↦ rw ne refl ]
    ];
    refusals = inl (sum-zero (λ j. nogoods_in (sent_to j (own_value k a a.value))) (count p) (λ j l. elim a.value as (λ o. nogoods_in (sent_to j (own_value k a o)) ≡ 0) [ None ↦ refl | Some v ↦ elim (k == j) as (λ c. nogoods_in (cond c (Tell (record { value = v; stamp = a.stamp }) ∷ []) []) ≡ 0) [ true ↦ refl | false ↦ refl ] ]));
    rests = λ g e. g;
    marks = λ g. let e : marked p i a ≡ marked p i (record a { tells = update a.tells k true }) = refl in omega arith;
    marks_one = omega arith;
  }
    where
      apart : (j k : ℕ) → j ≢ k → (k == j) ≡ false
      apart j k n = elim (eqb_tells k j) [ inl t ↦ absurd (n (sym t.1)) | inr t ↦ t.0 ]

      more : (j : ℕ) (o : Option ℤ) → a.value ≡ o → (announces_in (sent_to j (own_value k a o)) ≤ 0) ⊎ ((a.tells j ≡ false) × (announces_in (sent_to j (own_value k a o)) ≤ 1) × (v : ℤ) × (a.value ≡ Some v))
      more j None e = inl (omega arith)
      more j (Some v) e = elim (eqb_tells k j) [
        | inl t ↦ inr (ap a.tells (sym t.1) ∙ f, rw t.0 (omega arith), v, e)
        | inr t ↦ inl (rw t.0 (omega arith))
      ]

  pub receive_costs : (number : ℕ) (m : Message) → Fine p k i m → IsExpected p i a h in_range k m → IsPositive m → refutes (receive p i number a k m).step ≡ false → Costs p i a (receive p i number a k m).agent (λ j. sent_to j (receive p i number a k m).sent)
  receive_costs number (Tell s) f n q r =
      (elim (is_newer (a.view k) s.stamp) as (λ b. is_newer (a.view k) s.stamp ≡ b → let o : Outcome = cond b (settle p i number (learn k s a)) (stay a) in refutes o.step ≡ false → Costs p i a o.agent (λ j. sent_to j o.sent)) [
        | true ↦ λ e r.
            let t = announced p i a h in_range k s n f in
            then_settles p i a (learn k s a) (only k (Tell s)) (λ j. []) t true (λ g. cc)
            (stamps_rise i a (learn k s a) t.view_up k s.stamp n q e (t.hears k s here))
            (λ g. cc) (λ g. cc) (settle p i number (learn k s a)).agent (λ j. sent_to j (settle p i number (learn k s a)).sent)
            (settle_costs p i number (learn k s a) t.sound r)
        | false ↦ λ e r. idle_costs p i a
      ]) refl r
    where
      here : In (Tell s) (only k (Tell s) k)
      here = elim (eqb_tells k k) [ inl t ↦ rw t.0 (inl refl) | inr t ↦ absurd (t.1 refl) ]
  receive_costs number (Refuse step pairs) f n q r =
      let b = heed i step pairs a in
      let t = heeded p i a h in_range k step pairs f in
      (elim (a.waits && not (is_news i pairs a)) as (λ w. (a.waits && not (is_news i pairs a)) ≡ w → let o : Outcome = first_sent (to_each AddLink (unlinked i (plain pairs) a)) (cond w (stay b) (settle p i number b)) in refutes o.step ≡ false → Costs p i a o.agent (λ j. sent_to j o.sent)) [
        | true ↦ λ e r. subst (λ (went : ℕ → List Message). Costs p i a b went) (λ t j. sym (sent_to-append j (to_each AddLink (unlinked i (plain pairs) a)) []) t)
            (let none = not_true _ (and_right a.waits _ e) in
            then_stays p i a b (only k (Refuse step pairs)) _ t (is_news i pairs a) (same) (risen (is_news i pairs a) refl) (marks_heeded p i step pairs a) none)
        | false ↦ λ e r. subst (λ (went : ℕ → List Message). Costs p i a (settle p i number b).agent went) (λ t j. sym (sent_to-append j (to_each AddLink (unlinked i (plain pairs) a)) (settle p i number b).sent) t)
            (then_settles p i a b (only k (Refuse step pairs)) _ t (is_news i pairs a) same (risen (is_news i pairs a) refl) (marks_heeded p i step pairs a) (awake a.waits (is_news i pairs a) e)
            (settle p i number b).agent (λ j. sent_to j (settle p i number b).sent) (settle_costs p i number b t.sound r))
      ]) refl r
    where
      not_true : (b : Bool) → not b ≡ true → b ≡ false
      not_true true h = cc
      not_true false h = refl

      awake : (w n : Bool) → (w && not n) ≡ false → n ≡ false → w ≡ false
      awake true n e g = let x : not n ≡ true = ap not g in cc
      awake false n e g = refl

      same : is_news i pairs a ≡ false → (j : ℕ) → (heed i step pairs a).view j ≡ a.view j
      same e = unchanged p i a h in_range k step pairs f e

      here : In (Refuse step pairs) (only k (Refuse step pairs) k)
      here = elim (eqb_tells k k) [ inl t ↦ rw t.0 (inl refl) | inr t ↦ absurd (t.1 refl) ]

      risen : (c : Bool) → is_news i pairs a ≡ c → bit c + stamps i a ≤ stamps i (heed i step pairs a)
      risen false e = let u = stamps_up i a (heed i step pairs a) (heeded p i a h in_range k step pairs f).view_up in omega arith
      risen true e =
          let y = In-list_any (λ (y : ℕ × Stamped). nat_lt y.0 i && is_newer (a.view y.0) y.1.stamp) pairs e in
          let t = heeded p i a h in_range k step pairs f in
          let l = (Decides-ltb y.0.0 i).0 (and_left (nat_lt y.0.0 i) _ y.2) in
          stamps_rise i a (heed i step pairs a) t.view_up y.0.0 y.0.1.stamp l (q y.0 y.1) (and_right (nat_lt y.0.0 i) _ y.2) ((t.heeds k step pairs here).covers y.0 y.1 l)
  receive_costs number AddLink f n q r = asked_costs n
