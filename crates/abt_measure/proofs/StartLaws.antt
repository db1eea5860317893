-- Who is told in the start, read off the lists that are ready then.
use Rattle.std.proofs.Common.{◌≡◌, ◌≢◌, ◌∙◌, ℕ, zero, suc, ◌+◌, ◌-◌, ◌<◌, ◌≤◌, Bool, true, false, cond, not, ◌||◌, inl, inr, List, [], ◌∷◌, ◌++◌, ◌==◌, map, drop, filter, length, get_or, slice_get, Some, None, Result, Ok, Err, refl, sym, ap, subst, arith, append-nil, append_assoc, length-append, eq-eqb}
use Rattle.std.specs.Prelude.{OnOk}
use Rattle.std.specs.List.{flat_map, list_any}
use Rattle.std.proofs.lemmas.Bool.Decides.{eqb_tells}
use Rattle.std.proofs.lemmas.Grind.{flat_map-append}
use Rattle.std.proofs.lemmas.List.{drop_all, drop_at, length-map, map-append}
use Rattle.std.proofs.lemmas.List.Elements.{filter-append}
use Rattle.dcsp_defs.specs.Words.{In, below, sum_below}
use Rattle.dcsp_defs.specs.Csp.{Csp, IsCsp, count}
use Rattle.dcsp_defs.proofs.Lists.{In-below, below-In, In-filter, In-split, In-list_any, filter-from, list_any-In}
use Rattle.abt_defs.specs.Agents.{Agent, Message, Tell, Stamped, fresh, known}
use Rattle.abt_defs.specs.Steps.{to_each}
use Rattle.abt_defs.specs.Network.{Network, is_empty, pairs, ready, sent_to, start}
use Rattle.abt_defs.specs.Events.{Act, acts, start_acts}
use Rattle.dcsp_rule.specs.Problems.{Contents, csp_of}
use Rattle.abt_defs.specs.Checks.{checks, checks_of, is_settling, no_checks}
use Rattle.abt_defs.specs.Clocks.{all_checks, constraints_alone, messages_alone}
use Rattle.abt_defs.specs.Measures.{in_transit}
use Rattle.law_runs.specs.Starts.{first_act, first_outcome, settled_in, StartsWith}
use Rattle.law_runs.proofs.Starting.{starts_in_order}
use Rattle.abt_parts.specs.declared.message.SentTo.{SentTo}
use Rattle.abt_parts.specs.Messages.{told_sent}
use Rattle.abt_network.proofs.Beginning.{settle_exists}
use Rattle.abt_measure.specs.Counting.{AreRows, IsClock}
use Rattle.abt_measure.specs.Measuring.{EndsEvent, HasNoEvents, IsCounted, IsMeasured, MeasureState, SameEvents}
use Rattle.dcsp_defs.specs.declared.nogood.Pair.{Pair}
use Rattle.abt_measure.specs.Learning.{AreLearned}
use Rattle.abt_measure.proofs.LearnLaws.{learned_same}
use Rattle.abt_measure.specs.Starting.{leading, tell_to, IsFirst}
use Rattle.abt_measure.proofs.DeliveryLaws.{all_told, minus_both}

-- ---- lists

filter-flat : {X Y : Type 0} (q : Y → Bool) (f : X → List Y) (xs : List X) → filter q (flat_map f xs) ≡ flat_map (λ x. filter q (f x)) xs
filter-flat q f [] = refl
filter-flat q f (x ∷ xs) = filter-append q (f x) (flat_map f xs) ∙ ap (λ l. filter q (f x) ++ l) (filter-flat q f xs)

filter-map : {X Y : Type 0} (q : Y → Bool) (f : X → Y) (xs : List X) → filter q (map f xs) ≡ map f (filter (λ x. q (f x)) xs)
filter-map q f [] = refl
filter-map q f (x ∷ xs) = elim (q (f x)) as (λ b. cond b (f x ∷ filter q (map f xs)) (filter q (map f xs)) ≡ map f (cond b (x ∷ filter (λ y. q (f y)) xs) (filter (λ y. q (f y)) xs))) [
  | true ↦ ap (λ l. f x ∷ l) (filter-map q f xs)
  | false ↦ filter-map q f xs
]

filter-on : {X : Type 0} (f g : X → Bool) (xs : List X) → ((x : X) → In x xs → f x ≡ g x) → filter f xs ≡ filter g xs
filter-on f g [] h = refl
filter-on f g (x ∷ xs) h = ap (λ b. cond b (x ∷ filter f xs) (filter f xs)) (h x (inl refl)) ∙ ap (λ l. cond (g x) (x ∷ l) l) (filter-on f g xs (λ y u. h y (inr u)))

-- ---- who is told

-- a message to each of these comes to those among them
reaches : (m : Message) (j : ℕ) (ks : List ℕ) → not (is_empty (sent_to j (to_each m ks))) ≡ list_any (λ k. k == j) ks
reaches m j [] = refl
reaches m j (k ∷ ks) = elim (k == j) as (λ b. not (is_empty (cond b (m ∷ sent_to j (to_each m ks)) (sent_to j (to_each m ks)))) ≡ (b || list_any (λ i. i == j) ks)) [
  | true ↦ refl
  | false ↦ reaches m j ks
]

among : (t : ℕ → Bool) (n j : ℕ) → j < n → list_any (λ k. k == j) (filter t (below n)) ≡ t j
among t n j l = by_test (t j) refl
  where
    by_test : (b : Bool) → t j ≡ b → list_any (λ k. k == j) (filter t (below n)) ≡ b
    by_test true e = list_any-In (λ k. k == j) j (filter t (below n)) (In-filter t j (below n) (below-In n j l) e) (eq-eqb j j refl)
    by_test false e = none (list_any (λ k. k == j) (filter t (below n))) refl
      where
        none : (c : Bool) → list_any (λ k. k == j) (filter t (below n)) ≡ c → c ≡ false
        none false f = refl
        none true f =
            let some = In-list_any (λ k. k == j) (filter t (below n)) f in
            elim (eqb_tells some.0 j) [
              | inl u ↦ let p : t some.0 ≡ true = (filter-from t some.0 (below n) some.1).1 in let q : t some.0 ≡ t j = ap t u.1 in let r = e in cc
              | inr u ↦ let g = some.2 in let v = u.0 in cc
            ]

module _ (p : Csp) where
  -- those to whom k has sent in the start
  abbrev pub receivers : ℕ → List ℕ
  receivers k = filter (λ i. not (is_empty ((start p).links k i))) (below (count p))

  abbrev pub pairs_of : ℕ → List (ℕ × ℕ)
  pairs_of k = map (λ i. (k, i)) (receivers k)

  ready_is : ready p (start p) ≡ flat_map pairs_of (below (count p))
  ready_is = filter-flat (λ (x : ℕ × ℕ). not (is_empty ((start p).links x.0 x.1))) (λ k. map (λ i. (k, i)) (below (count p))) (below (count p)) ∙ each (below (count p))
    where
      each : (ks : List ℕ) → flat_map (λ k. filter (λ (x : ℕ × ℕ). not (is_empty ((start p).links x.0 x.1))) (map (λ i. (k, i)) (below (count p)))) ks ≡ flat_map pairs_of ks
      each [] = refl
      each (k ∷ ks) =
          ap (λ l. l ++ flat_map (λ j. filter (λ (x : ℕ × ℕ). not (is_empty ((start p).links x.0 x.1))) (map (λ i. (j, i)) (below (count p)))) ks) (filter-map (λ (x : ℕ × ℕ). not (is_empty ((start p).links x.0 x.1))) (λ i. (k, i)) (below (count p)))
          ∙ ap (λ l. pairs_of k ++ l) (each ks)

  -- the numbers below n, about a
  record Split (a n : ℕ) : Type 0 where
    later : List ℕ
    is : below n ≡ below a ++ a ∷ later
    above : (k : ℕ) → In k later → a < k

  split : (a n : ℕ) → a < n → Split a n
  split a zero l = absurd (omega arith)
  split a (suc n) l = elim (eqb_tells a n) [
    | inl t ↦ record { later = []; is = ap (λ k. below k ++ n ∷ []) (sym t.1) ∙ ap (λ k. below a ++ k ∷ []) (sym t.1); above = λ k h. absurd h }
    | inr t ↦
        let ne : a ≢ n = t.1 in
        let s = split a n (omega arith) in
        record {
          later = s.later ++ n ∷ [];
          is = ap (λ l. l ++ n ∷ []) s.is ∙ append_assoc (below a) (a ∷ s.later) (n ∷ []);
          above = λ k h. elim (In-split k s.later (n ∷ []) h) [
            | inl u ↦ s.above k u
            | inr (inl e) ↦ (let d = e in omega arith)
            | inr (inr u) ↦ absurd u
          ];
        }
  ]

  leading-own : (a : ℕ) (ks : List ℕ) (xs : List (ℕ × ℕ)) → leading a (map (λ i. (a, i)) ks ++ xs) ≡ ks ++ leading a xs
  leading-own a [] xs = refl
  leading-own a (k ∷ ks) xs = elim (eqb_tells a a) [
    | inl t ↦ rw t.0 (ap (λ l. k ∷ l) (leading-own a ks xs))
    | inr t ↦ absurd (t.1 refl)
  ]

  leading-none : (a : ℕ) (ks : List ℕ) → ((k : ℕ) → In k ks → a < k) → leading a (flat_map pairs_of ks) ≡ []
  leading-none a [] h = refl
  leading-none a (k ∷ ks) h = by_list (leading-none a ks (λ j u. h j (inr u))) (receivers k)
    where
      by_list : leading a (flat_map pairs_of ks) ≡ [] → (is : List ℕ) → leading a (map (λ i. (k, i)) is ++ flat_map pairs_of ks) ≡ []
      by_list rest [] = rest
      by_list rest (i ∷ is) = elim (eqb_tells k a) [
        | inl t ↦ absurd (let e = t.1 in let l = h k (inl refl) in omega arith)
        | inr t ↦ rw t.0 refl
      ]

  -- the lists of agent a begin here
  pub leads : (a place : ℕ) → a < count p → place ≡ length (flat_map pairs_of (below a)) → leading a (drop place (ready p (start p))) ≡ receivers a
  leads a place l e =
      let s = split a (count p) l in
      let whole : ready p (start p) ≡ flat_map pairs_of (below a) ++ (pairs_of a ++ flat_map pairs_of s.later) = ready_is ∙ ap (flat_map pairs_of) s.is ∙ flat_map-append pairs_of (below a) (a ∷ s.later) in
      ap (λ z. leading a (drop place z)) whole ∙ ap (leading a) (drop_at (flat_map pairs_of (below a)) (pairs_of a ++ flat_map pairs_of s.later) place (sym e))
      ∙ leading-own a (receivers a) (flat_map pairs_of s.later) ∙ ap (λ z. receivers a ++ z) (leading-none a s.later s.above) ∙ append-nil (receivers a)

  -- and end there
  pub ends : (a place : ℕ) → place ≡ length (flat_map pairs_of (below a)) → place + length (receivers a) ≡ length (flat_map pairs_of (below (a + 1)))
  ends a place e =
      let n : a + 1 ≡ suc a = omega arith in
      let g : length (flat_map pairs_of (below (suc a))) ≡ length (flat_map pairs_of (below a)) + length (receivers a) =
      ap length (flat_map-append pairs_of (below a) (a ∷ []) ∙ ap (λ z. flat_map pairs_of (below a) ++ z) (append-nil (pairs_of a))) ∙ length-append (flat_map pairs_of (below a)) (pairs_of a) ∙ ap (λ k. length (flat_map pairs_of (below a)) + k) (length-map (receivers a) (λ i. (a, i))) in
      ap (λ k. k + length (receivers a)) e ∙ sym g ∙ ap (λ k. length (flat_map pairs_of (below k))) (sym n)

  pub fits : (a place : ℕ) → a < count p → place ≡ length (flat_map pairs_of (below a)) → place + length (receivers a) ≤ length (ready p (start p))
  fits a place l e =
      let s = split a (count p) l in
      let whole : length (ready p (start p)) ≡ length (flat_map pairs_of (below a)) + length (pairs_of a ++ flat_map pairs_of s.later) = ap length (ready_is ∙ ap (flat_map pairs_of) s.is ∙ flat_map-append pairs_of (below a) (a ∷ s.later)) ∙ length-append (flat_map pairs_of (below a)) (pairs_of a ++ flat_map pairs_of s.later) in
      let more = length-append (pairs_of a) (flat_map pairs_of s.later) in
      let same : length (pairs_of a) ≡ length (receivers a) = length-map (receivers a) (λ i. (a, i)) in
      omega arith

  module _ (settled : ℕ) (h : StartsWith p settled) where
    -- they are told what the agent sends
    pub told_is : (i : ℕ) → i < settled → map tell_to (receivers i) ≡ map told_sent (first_outcome p i).sent
    told_is i l =
        let t = h.tells i in
        let m = Tell t.told in
        let ks = filter t.tells (below (count p)) in
        let same : receivers i ≡ ks = filter-on (λ j. not (is_empty ((start p).links i j))) t.tells (below (count p)) (λ j u.
        ap (λ z. not (is_empty z)) (h.sent i j l ∙ ap (sent_to j) t.sent_is) ∙ reaches m j ks ∙ among t.tells (count p) j (In-below (count p) j u)) in
        ap (map tell_to) same ∙ each t.told ks ∙ ap (map told_sent) (sym t.sent_is)
      where
        each : (s : Stamped) (ks : List ℕ) → map tell_to ks ≡ map told_sent (to_each (Tell s) ks)
        each s [] = refl
        each s (k ∷ ks) = ap (λ l. tell_to k ∷ l) (each s ks)

    -- it is an act of the start
    pub is_first : (i : ℕ) (sent : List SentTo) → i < settled → sent ≡ map tell_to (receivers i) → IsFirst (first_act p i) i sent (start p)
    is_first i sent l e = record {
      agent = refl;
      came = refl;
      own = refl;
      after = h.agents i l;
      recorded = ap (λ (a : Agent). a.recorded) (sym (h.agents i l)) ∙ h.recorded i;
      sent_is = e ∙ told_is i l;
    }

    -- each receiver is an agent
    pub within : IsCsp p → (i : ℕ) (sent : List SentTo) (n : ℕ) → n ≡ count p → i < settled → sent ≡ map tell_to (receivers i) → (k : ℕ) (d : SentTo) → k < length sent → (get_or sent k d).to < n
    within ok i sent n same l e =
        subst (λ (z : List SentTo). (k : ℕ) (d : SentTo) → k < length z → (get_or z k d).to < n) (sym (e ∙ told_is i l))
        (all_told (first_outcome p i).sent n (λ y u. let r = settle_exists p ok i 1 (fresh p i) (let f = h.few in omega arith) refl y u in omega arith))

    -- one act more
    pub counted_more : (i : ℕ) (m : MeasureState) → IsCounted p (map (first_act p) (below i) ++ first_act p i ∷ []) m → IsCounted p (map (first_act p) (below (i + 1))) m
    counted_more i m c =
        let n : i + 1 ≡ suc i = omega arith in
        subst (λ l. IsCounted p l m) (sym (ap (λ k. map (first_act p) (below k)) n ∙ map-append (first_act p) (below i) (i ∷ []))) c

    -- all have settled
    pub counted_all : (i : ℕ) (m : MeasureState) → i ≡ settled → IsCounted p (map (first_act p) (below i)) m → IsCounted p (start_acts p) m
    counted_all i m e c = subst (λ l. IsCounted p l m) (ap (λ k. map (first_act p) (below k)) e ∙ sym h.acts) c

    none_recorded : (n : ℕ) → sum_below (λ i. length ((start p).agents i).recorded) n ≡ 0
    none_recorded zero = refl
    none_recorded (suc n) = let e : length ((start p).agents n).recorded ≡ 0 = ap length (h.recorded n) in let r = none_recorded n in omega arith

    -- the start is over
    pub measured_start : (old mid new : MeasureState) → HasNoEvents old → SameEvents old mid → EndsEvent 0 0 mid new → IsCounted p (start_acts p) mid → IsMeasured p [] new
    measured_start old mid new none same ends c =
        let counted : IsCounted p (acts p []) new = subst (λ l. IsCounted p l new) (sym (append-nil (start_acts p))) (record {
          rows = subst (AreRows p (start_acts p)) (sym ends.rows) c.rows;
          all = subst (IsClock p all_checks (start_acts p)) (sym ends.all) c.all;
          constraints = subst (IsClock p constraints_alone (start_acts p)) (sym ends.constraints) c.constraints;
          messages = subst (IsClock p messages_alone (start_acts p)) (sym ends.messages) c.messages;
          sent = ends.sent ∙ c.sent;
          got = ends.got ∙ c.got;
        }) in
        let transit : mid.sent - mid.got ≡ in_transit (start_acts p) = minus_both mid.sent mid.got _ _ c.sent c.got in
        let no = none_recorded (count p) in
        let a = none.most_in_transit in
        let b = none.recorded in
        let d = none.most_recorded in
        let e = same.most_in_transit in
        let f = same.recorded in
        let g = same.most_recorded in
        let x = ends.most_in_transit in
        let y = ends.recorded in
        let z = ends.most_recorded in
        record {
          counted = counted;
          transit = omega arith;
          recorded = omega arith;
          most = omega arith;
        }

-- ---- the leading pairs, one after the other

pub lead_stop : (pairs : List (ℕ × ℕ)) (k : ℕ) (x : ℕ × ℕ) (a : ℕ) → slice_get pairs k ≡ Some x → x.0 ≢ a → leading a (drop k pairs) ≡ []
lead_stop [] k x a h ne = absurd (let e = h in cc)
lead_stop (y ∷ ys) zero x a h ne =
    let e : y ≡ x = cc in
    elim (eqb_tells y.0 a) [
      | inl t ↦ absurd (ne (sym (ap (λ (z : ℕ × ℕ). z.0) e) ∙ t.1))
      | inr t ↦ rw t.0 refl
    ]
lead_stop (y ∷ ys) (suc k) x a h ne = lead_stop ys k x a h ne

pub lead_more : (pairs : List (ℕ × ℕ)) (k : ℕ) (x : ℕ × ℕ) (a : ℕ) → slice_get pairs k ≡ Some x → x.0 ≡ a → leading a (drop k pairs) ≡ x.1 ∷ leading a (drop (k + 1) pairs)
lead_more [] k x a h e = absurd (let f = h in cc)
lead_more (y ∷ ys) zero x a h e =
    let f : y ≡ x = cc in
    elim (eqb_tells y.0 a) [
      | inl t ↦ rw t.0 (ap (λ (z : ℕ × ℕ). z.1 ∷ leading a ys) f)
      | inr t ↦ absurd (t.1 (ap (λ (z : ℕ × ℕ). z.0) f ∙ e))
    ]
lead_more (y ∷ ys) (suc k) x a h e = let n : suc k + 1 ≡ suc (k + 1) = omega arith in lead_more ys k x a h e ∙ ap (λ j. x.1 ∷ leading a (drop j (y ∷ ys))) (sym n)

pub lead_end : (pairs : List (ℕ × ℕ)) (k a : ℕ) → length pairs ≤ k → leading a (drop k pairs) ≡ []
lead_end pairs k a l = ap (leading a) (drop_all k pairs l)

-- ---- checks

pub first_checks : (P : Contents) (a : Act) (i : ℕ) (sent : List SentTo) (net : Network) → IsFirst a i sent net → (q : Contents) (me : ℕ) (b : Agent) → q ≡ P → me ≡ i → b ≡ net.agents i → checks (csp_of q) me (known b) b.recorded None ≡ checks_of (csp_of P) a
first_checks P a i sent net h q me b e f g =
    ap (λ (z : Contents). checks (csp_of z) me (known b) b.recorded None) e ∙ ap (λ k. checks (csp_of P) k (known b) b.recorded None) (f ∙ sym h.agent)
    ∙ ap (λ (x : Agent). checks (csp_of P) a.agent (known x) x.recorded None) (g ∙ h.after) ∙ ap (checks (csp_of P) a.agent (known a.after) a.after.recorded) (sym h.own)
    ∙ sym (ap (λ o. cond (is_settling a.agent a.before o) (checks (csp_of P) a.agent (known a.after) a.after.recorded a.before.value) no_checks) h.came)

-- events as before, and as before again
pub same_events : (old mid new : MeasureState) → SameEvents old mid → SameEvents mid new → SameEvents old new
same_events old mid new h g = record {
  most_in_transit = g.most_in_transit ∙ h.most_in_transit;
  recorded = g.recorded ∙ h.recorded;
  most_recorded = g.most_recorded ∙ h.most_recorded;
}

pub any_ok : {T E P : Type 0} → (r : Result T E) → P → OnOk r P
any_ok (Ok x) p = p
any_ok (Err y) p = tt

-- ---- what agents were told

-- in the start nothing
pub learned_start : (p : Csp) (lists : List (List Pair)) → AreLearned [] lists → AreLearned (acts p []) lists
learned_start p lists h =
    let all = starts_in_order p in
    subst (λ l. AreLearned l lists) (sym (append-nil (start_acts p) ∙ all.acts)) (each (settled_in (count p) (start p).steps))
  where
    each : (n : ℕ) → AreLearned (map (first_act p) (below n)) lists
    each zero = h
    each (suc n) = subst (λ l. AreLearned l lists) (sym (map-append (first_act p) (below n) (n ∷ []))) (learned_same (map (first_act p) (below n)) (first_act p n) lists (each n) refl)
