-- How many calm events it takes to a verdict.
use Rattle.std.proofs.Common.{◌≡◌, ℕ, zero, suc, ◌+◌, ◌*◌, ◌%◌, ◌<◌, ◌≤◌, Bool, true, false, cond, not, ◌||◌, ◌⊎◌, inl, inr, List, [], ◌∷◌, ◌++◌, length, take, drop, slice_get, Option, Some, None, ◌==◌, refl, sym, ap, ◌∙◌, subst, arith}
use Rattle.std.specs.Prelude.{nat_lt, nat_le}
use Rattle.std.proofs.Math.Nat.{mod-eq_of_lt}
use Rattle.std.proofs.lemmas.Bool.Decides.{nat_tests, eqb_tells, leb_tells}
use Rattle.dcsp_defs.specs.Words.{In}
use Rattle.dcsp_defs.specs.Csp.{Csp, IsCsp, count}
use Rattle.dcsp_defs.proofs.Lists.{In-filter, In-list_all}
use Rattle.abt_defs.specs.Agents.{Message}
use Rattle.abt_defs.specs.Network.{Network, pairs, ready, deliver, run, start, is_empty, IsQuiet}
use Rattle.abt_defs.specs.Bound.{message_bound}
use Rattle.law_runs.proofs.Below.{unfinished_below}
use Rattle.law_runs.proofs.Sums.{sum-le}
use Rattle.law_runs.specs.Packets.{Packet, place, coming, staying, Data, Acknowledgement}
use Rattle.law_runs.specs.Worlds.{World, begin, reliable, raised, unacknowledged, add_packet, send_first, send_on, acknowledge, hand_up, arrive, come, event, after}
use Rattle.law_runs.specs.Deliveries.{pair_of_event, numbers}
use Rattle.law_runs.specs.LossyEnds.{is_quiet, has_verdict, calm_word, calm}
use Rattle.law_runs.specs.WorldFacts.{IsRightData, Facts}
use Rattle.law_runs.specs.LossyVerdicts.{total}
use Rattle.law_runs.specs.CalmEvents.{CalmBudget}
use Rattle.law_runs.proofs.WorldFacts.{facts_event, facts_after, facts_begin, is_unacknowledged}
use Rattle.law_runs.proofs.Events.{moves, same_reliable, pairs-In}
use Rattle.law_runs.proofs.WorldRuns.{is_run, network_quiet, IsCounted, counted_event, counted_after, counted_begin, total_raised}

-- ---- what every world that is reached keeps

record Reached (p : Csp) (w : World) : Type 0 where
  facts : Facts p w
  choices : List ℕ
  runs : reliable w ≡ run p choices (start p)
  counted : IsCounted p w

pub run_more : (p : Csp) (cs : List ℕ) (c : ℕ) (net : Network) → run p (cs ++ c ∷ []) net ≡ cond (run p cs net).refuted (run p cs net) (deliver p c (run p cs net))
run_more p [] c net = refl
run_more p (x ∷ xs) c net = (elim net.refuted as (λ b. net.refuted ≡ b → cond b net (run p (xs ++ c ∷ []) (deliver p x net)) ≡ (let end = cond b net (run p xs (deliver p x net)) in cond end.refuted end (deliver p c end))) [
  | true ↦ λ e. sym (ap (λ b. cond b net (deliver p c net)) e)
  | false ↦ λ e. run_more p xs c (deliver p x net)
]) refl

reached_event : (p : Csp) (word : ℕ) (w : World) → w.network.refuted ≡ false → Reached p w → Reached p (event p word w)
reached_event p word w f g = elim (moves p word w g.facts) [
  | inl n ↦ record {
    facts = facts_event p word w g.facts;
    choices = g.choices;
    runs = same_reliable w (pair_of_event word w) (event p word w) n ∙ g.runs;
    counted = counted_event p word w g.facts g.counted;
  }
  | inr d ↦ record {
    facts = facts_event p word w g.facts;
    choices = g.choices ++ d.choice ∷ [];
    runs =
        let open_still : (run p g.choices (start p)).refuted ≡ false = ap (λ (x : Network). x.refuted) (sym g.runs) ∙ f in
        d.next ∙ ap (deliver p d.choice) g.runs ∙ sym (run_more p g.choices d.choice (start p) ∙ ap (λ b. cond b (run p g.choices (start p)) (deliver p d.choice (run p g.choices (start p)))) open_still);
    counted = counted_event p word w g.facts g.counted;
  }
]

-- ---- without a verdict

verdict_parts : (a b : Bool) → (a || b) ≡ false → (a ≡ false) × (b ≡ false)
verdict_parts true b h = cc
verdict_parts false b h = (refl, h)

empty_nil : {X : Type 0} → (xs : List X) → is_empty xs ≡ true → xs ≡ []
empty_nil [] h = refl
empty_nil (x ∷ xs) h = cc

In-nil : {X : Type 0} → (x : X) (xs : List X) → xs ≡ [] → In x xs → ⊥
In-nil x xs e u = subst (In x) e u

pub quiet_if_none : (p : Csp) (net : Network) → is_empty (ready p net) ≡ true → IsQuiet p net
quiet_if_none p net h k i lk li = by_test (is_empty (net.links k i)) refl
  where
    by_test : (b : Bool) → is_empty (net.links k i) ≡ b → net.links k i ≡ []
    by_test true e = empty_nil (net.links k i) e
    by_test false e = absurd (In-nil (k, i) (ready p net) (empty_nil (ready p net) h) (In-filter (λ (x : ℕ × ℕ). not (is_empty (net.links x.0 x.1))) (k, i) (pairs (count p)) (pairs-In (count p) k i lk li) (ap not e)))

-- fewer messages are acknowledged than the bound says
below_bound : (p : Csp) → IsCsp p → (w : World) → Reached p w → has_verdict p w ≡ false → total p w.acknowledged < message_bound p
below_bound p ok w g v =
    let parts = verdict_parts w.network.refuted (is_quiet p w) v in
    let f : (run p g.choices (start p)).refuted ≡ false = ap (λ (x : Network). x.refuted) (sym g.runs) ∙ parts.0 in
    let t : is_empty (ready p (run p g.choices (start p))) ≡ false = ap (λ (x : Network). is_empty (ready p x)) (sym g.runs) ∙ not_empty (is_empty (ready p (reliable w))) refl in
    let l = unfinished_below p ok g.choices f t in
    let d : w.network.deliveries ≡ (run p g.choices (start p)).deliveries = ap (λ (x : Network). x.deliveries) g.runs in
    let c : total p w.handed_up ≡ w.network.deliveries = g.counted in
    let s : total p w.acknowledged ≤ total p w.handed_up = sum-le _ _ (count p) (λ k lk. sum-le (w.acknowledged k) (w.handed_up k) (count p) (λ i li. g.facts.acknowledged k i)) in
    omega arith
  where
    not_empty : (b : Bool) → is_empty (ready p (reliable w)) ≡ b → is_empty (ready p (reliable w)) ≡ false
    not_empty false e = e
    not_empty true e = let q = network_quiet p w g.facts (quiet_if_none p (reliable w) e) in let z = (verdict_parts w.network.refuted (is_quiet p w) v).1 in let y : true ≡ false = sym q ∙ z in cc

-- where no pair has a message that is not acknowledged, the world is quiet
none_unacknowledged : (p : Csp) (w : World) → Facts p w → unacknowledged p w ≡ [] → is_quiet p w ≡ true
none_unacknowledged p w h e = In-list_all (λ (x : ℕ × ℕ). w.handed_up x.0 x.1 == length (w.network.links x.0 x.1)) (pairs (count p)) (λ x u. by_test x u (nat_lt (w.acknowledged x.0 x.1) (length (w.network.links x.0 x.1))) refl)
  where
    by_test : (x : ℕ × ℕ) → In x (pairs (count p)) → (b : Bool) → nat_lt (w.acknowledged x.0 x.1) (length (w.network.links x.0 x.1)) ≡ b → (w.handed_up x.0 x.1 == length (w.network.links x.0 x.1)) ≡ true
    by_test x u true t = absurd (In-nil x (unacknowledged p w) e (In-filter (λ (x : ℕ × ℕ). nat_lt (w.acknowledged x.0 x.1) (length (w.network.links x.0 x.1))) x (pairs (count p)) u t))
    by_test x u false t = equal (w.acknowledged x.0 x.1) (w.handed_up x.0 x.1) (length (w.network.links x.0 x.1)) (h.acknowledged x.0 x.1) (h.handed_up x.0 x.1) t
      where
        equal : (a b c : ℕ) → a ≤ b → b ≤ c → nat_lt a c ≡ false → (b == c) ≡ true
        equal a b c l m t = let n : c ≤ a = grind (arith, nat_tests) in let q : b ≡ c = omega arith in grind (arith, nat_tests)

-- ---- the weight of a pool: data leaves at most one acknowledgement

abbrev cost : Packet → ℕ
cost (Data k i n m) = 2
cost (Acknowledgement k i n) = 1

abbrev weight : List Packet → ℕ
weight [] = 0
weight (x ∷ xs) = cost x + weight xs

weight_append : (xs : List Packet) (x : Packet) → weight (xs ++ x ∷ []) ≡ weight xs + cost x
weight_append [] x = omega arith
weight_append (y ∷ ys) x = let h = weight_append ys x in omega arith

weight_most : (xs : List Packet) → weight xs ≤ 2 * length xs
weight_most [] = omega arith
weight_most (Data k i n m ∷ xs) = let h = weight_most xs in omega arith
weight_most (Acknowledgement k i n ∷ xs) = let h = weight_most xs in omega arith

weight_acknowledge : (k i n : ℕ) (w : World) → weight (acknowledge k i n w).pool ≤ weight w.pool + 1
weight_acknowledge k i n w = elim w.network.refuted as (λ b. weight (cond b w (add_packet (Acknowledgement k i n) w)).pool ≤ weight w.pool + 1) [ true ↦ omega arith | false ↦ let e = weight_append w.pool (Acknowledgement k i n) in omega arith ]

weight_arrive : (p : Csp) (x : Packet) (w : World) → weight (arrive p x w).pool + 1 ≤ weight w.pool + cost x
weight_arrive p (Data k i n m) w = elim (n == w.handed_up k i + 1) as (λ b. weight (cond b (acknowledge k i n (hand_up p k i m w)) (cond (nat_le n (w.handed_up k i)) (acknowledge k i n w) w)).pool + 1 ≤ weight w.pool + 2) [
  | true ↦ let h = weight_acknowledge k i n (hand_up p k i m w) in omega arith
  | false ↦ elim (nat_le n (w.handed_up k i)) as (λ b. weight (cond b (acknowledge k i n w) w).pool + 1 ≤ weight w.pool + 2) [
    | true ↦ let h = weight_acknowledge k i n w in omega arith
    | false ↦ omega arith
  ]
]
weight_arrive p (Acknowledgement k i n) w = elim (n == w.acknowledged k i + 1) as (λ b. weight (cond b (record w { acknowledged = raised w.acknowledged k i }) w).pool + 1 ≤ weight w.pool + 1) [ true ↦ omega arith | false ↦ omega arith ]

-- ---- one calm event

zero_mod : (n : ℕ) → 0 < n → 0 % n ≡ 0
zero_mod n l = mod-eq_of_lt l

-- where there are packets, the first arrives and leaves
first_comes : (p : Csp) (w : World) (x : Packet) (rest : List Packet) → w.pool ≡ x ∷ rest → event p (calm_word w) w ≡ arrive p x (record w { pool = rest })
first_comes p w x rest e =
    let z : place 1 (x ∷ rest) ≡ 0 = zero_mod (length (x ∷ rest)) (omega arith) in
    ap (λ (pool : List Packet). event p (cond (is_empty pool) 0 1) w) e
    ∙ ap (λ (pool : List Packet). come p (coming 1 pool) (record w { pool = staying 1 pool })) e
    ∙ ap (λ n. come p (slice_get (x ∷ rest) n) (record w { pool = take n (x ∷ rest) ++ drop (suc n) (x ∷ rest) })) z

-- where there is none, the first pair sends that may
first_sends : (p : Csp) (w : World) (x : ℕ × ℕ) (rest : List (ℕ × ℕ)) → w.pool ≡ [] → unacknowledged p w ≡ x ∷ rest → event p (calm_word w) w ≡ send_on (Some x) w
first_sends p w x rest e u =
    let z : 0 % length (x ∷ rest) ≡ 0 = zero_mod (length (x ∷ rest)) (omega arith) in
    ap (λ (pool : List Packet). event p (cond (is_empty pool) 0 1) w) e
    ∙ ap (λ (xs : List (ℕ × ℕ)). send_on (slice_get xs (0 % length xs)) w) u
    ∙ ap (λ n. send_on (slice_get (x ∷ rest) n) w) z

-- what n calm events more are enough for: the pool to be emptied first, or one message after another to be sent, to arrive and to be acknowledged
data Budget (p : Csp) (bound n : ℕ) (w : World) : Type 0 where
  Emptying : weight w.pool + 3 * bound ≤ n → Budget p bound n w
  Empty : w.pool ≡ [] → 3 * bound ≤ n + 3 * total p w.acknowledged → Budget p bound n w
  On_its_way : (k i : ℕ) (m : Message) → w.pool ≡ Data k i (w.acknowledged k i + 1) m ∷ [] → 3 * bound ≤ n + 3 * total p w.acknowledged + 1 → Budget p bound n w
  On_its_way_back : (k i : ℕ) → k < count p → i < count p → w.pool ≡ Acknowledgement k i (w.acknowledged k i + 1) ∷ [] → 3 * bound ≤ n + 3 * total p w.acknowledged + 2 → Budget p bound n w

abbrev Next : Csp → ℕ → ℕ → World → Type 0
Next p bound n v = (has_verdict p v ≡ true) ⊎ Budget p bound n v

one_emptied : (p : Csp) (bound n : ℕ) (w : World) (x : Packet) (rest : List Packet) → w.pool ≡ x ∷ rest → weight w.pool + 3 * bound ≤ suc n → Next p bound n (event p (calm_word w) w)
one_emptied p bound n w x rest e l =
    let c = weight_arrive p x (record w { pool = rest }) in
    let f : weight w.pool ≡ cost x + weight rest = ap weight e in
    let g : weight (event p (calm_word w) w).pool ≡ weight (arrive p x (record w { pool = rest })).pool = ap (λ (v : World). weight v.pool) (first_comes p w x rest e) in
    inr (Emptying (omega arith))

one_sent : (p : Csp) (bound n : ℕ) (w : World) → Reached p w → has_verdict p w ≡ false → w.pool ≡ [] → 3 * bound ≤ suc n + 3 * total p w.acknowledged → Next p bound n (event p (calm_word w) w)
one_sent p bound n w g v e l = by_list (unacknowledged p w) refl
  where
    by_message : (x : ℕ × ℕ) → (o : Option Message) → w.acknowledged x.0 x.1 < length (w.network.links x.0 x.1) → slice_get (w.network.links x.0 x.1) (w.acknowledged x.0 x.1) ≡ o → Next p bound n (send_first x.0 x.1 o w)
    by_message x None s o = absurd (some (w.network.links x.0 x.1) (w.acknowledged x.0 x.1) s o)
      where
        some : {X : Type 0} → (xs : List X) (n : ℕ) → n < length xs → slice_get xs n ≡ None → ⊥
        some [] n u e = absurd (omega arith)
        some (x ∷ xs) zero u e = cc
        some (x ∷ xs) (suc n) u e = some xs n (omega arith) e
    by_message x (Some m) s o = inr (On_its_way x.0 x.1 m (ap (λ (pool : List Packet). pool ++ Data x.0 x.1 (w.acknowledged x.0 x.1 + 1) m ∷ []) e) (omega arith))

    by_list : (xs : List (ℕ × ℕ)) → unacknowledged p w ≡ xs → Next p bound n (event p (calm_word w) w)
    by_list [] u = let q = none_unacknowledged p w g.facts u in let z = (verdict_parts w.network.refuted (is_quiet p w) v).1 in let y : true ≡ false = sym q ∙ z in cc
    by_list (x ∷ xs) u = subst (Next p bound n) (sym (first_sends p w x xs e u)) (by_message x (slice_get (w.network.links x.0 x.1) (w.acknowledged x.0 x.1)) (is_unacknowledged p w x (subst (In x) (sym u) (inl refl))).2 refl)

-- data of the first number that is not acknowledged comes
one_handed : (p : Csp) (bound n : ℕ) (w : World) (k i : ℕ) (m : Message) → Reached p w → has_verdict p w ≡ false → w.pool ≡ Data k i (w.acknowledged k i + 1) m ∷ [] → 3 * bound ≤ suc n + 3 * total p w.acknowledged + 1 → Next p bound n (event p (calm_word w) w)
one_handed p bound n w k i m g v e l = subst (Next p bound n) (sym (first_comes p w (Data k i (w.acknowledged k i + 1) m) [] e)) comes
  where
    told : IsRightData p w k i (w.acknowledged k i + 1) m
    told = g.facts.packets (Data k i (w.acknowledged k i + 1) m) (subst (In (Data k i (w.acknowledged k i + 1) m)) (sym e) (inl refl))

    up : (b : Bool) → (hand_up p k i m (record w { pool = [] })).network.refuted ≡ b → Next p bound n (cond b (hand_up p k i m (record w { pool = [] })) (add_packet (Acknowledgement k i (w.acknowledged k i + 1)) (hand_up p k i m (record w { pool = [] }))))
    up true f = inl (ap (λ b. b || is_quiet p (hand_up p k i m (record w { pool = [] }))) f)
    up false f = inr (On_its_way_back k i told.sender told.receiver refl (omega arith))

    again : (b : Bool) → w.network.refuted ≡ b → Next p bound n (cond b (record w { pool = [] }) (add_packet (Acknowledgement k i (w.acknowledged k i + 1)) (record w { pool = [] })))
    again true f = let z = (verdict_parts w.network.refuted (is_quiet p w) v).0 in let y : true ≡ false = sym f ∙ z in cc
    again false f = inr (On_its_way_back k i told.sender told.receiver refl (omega arith))

    comes : Next p bound n (arrive p (Data k i (w.acknowledged k i + 1) m) (record w { pool = [] }))
    comes = elim (eqb_tells (w.acknowledged k i + 1) (w.handed_up k i + 1)) [
      | inl t ↦ rw t.0 (up (hand_up p k i m (record w { pool = [] })).network.refuted refl)
      | inr t ↦ rw t.0 (elim (leb_tells (w.acknowledged k i + 1) (w.handed_up k i)) [
        | inl u ↦ rw u.0 (again w.network.refuted refl)
        | inr u ↦ let ne = t.1 in let h = g.facts.acknowledged k i in let a = u.1 in absurd (ne (omega arith))
      ])
    ]

-- its acknowledgement comes
one_known : (p : Csp) (bound n : ℕ) (w : World) (k i : ℕ) → k < count p → i < count p → w.pool ≡ Acknowledgement k i (w.acknowledged k i + 1) ∷ [] → 3 * bound ≤ suc n + 3 * total p w.acknowledged + 2 → Next p bound n (event p (calm_word w) w)
one_known p bound n w k i lk li e l = subst (Next p bound n) (sym (first_comes p w (Acknowledgement k i (w.acknowledged k i + 1)) [] e)) comes
  where
    comes : Next p bound n (arrive p (Acknowledgement k i (w.acknowledged k i + 1)) (record w { pool = [] }))
    comes = elim (eqb_tells (w.acknowledged k i + 1) (w.acknowledged k i + 1)) [
      | inl t ↦ rw t.0 (inr (Empty refl (let s = total_raised p w.acknowledged k i lk li in omega arith)))
      | inr t ↦ absurd (t.1 refl)
    ]

one_event : (p : Csp) (bound n : ℕ) (w : World) → Reached p w → has_verdict p w ≡ false → Budget p bound (suc n) w → Next p bound n (event p (calm_word w) w)
one_event p bound n w g v (Emptying l) = by_pool w.pool refl
  where
    by_pool : (xs : List Packet) → w.pool ≡ xs → Next p bound n (event p (calm_word w) w)
    by_pool [] e = one_sent p bound n w g v e (omega arith)
    by_pool (x ∷ rest) e = one_emptied p bound n w x rest e l
one_event p bound n w g v (Empty e l) = one_sent p bound n w g v e l
one_event p bound n w g v (On_its_way k i m e l) = one_handed p bound n w k i m g v e l
one_event p bound n w g v (On_its_way_back k i lk li e l) = one_known p bound n w k i lk li e l

-- with no event left there is a verdict
none_left : (p : Csp) (w : World) (bound : ℕ) → Budget p bound 0 w → total p w.acknowledged < bound → ⊥
none_left p w bound (Emptying l) u = omega arith
none_left p w bound (Empty e l) u = omega arith
none_left p w bound (On_its_way k i m e l) u = omega arith
none_left p w bound (On_its_way_back k i lk li e l) u = omega arith

-- a verdict stays
stays : (p : Csp) (n : ℕ) (w : World) → has_verdict p w ≡ true → calm p n w ≡ w
stays p zero w v = refl
stays p (suc n) w v = ap (λ b. cond b w (calm p n (event p (calm_word w) w))) v

ends : (p : Csp) → IsCsp p → (n : ℕ) (w : World) → Reached p w → Budget p (message_bound p) n w → has_verdict p (calm p n w) ≡ true
ends p ok zero w g b = by_verdict (has_verdict p w) refl
  where
    by_verdict : (v : Bool) → has_verdict p w ≡ v → has_verdict p w ≡ true
    by_verdict true e = e
    by_verdict false e = absurd (none_left p w (message_bound p) b (below_bound p ok w g e))
ends p ok (suc n) w g b =
    (elim (has_verdict p w) as (λ v. has_verdict p w ≡ v → has_verdict p (cond v w (calm p n (event p (calm_word w) w))) ≡ true) [
      | true ↦ λ e. e
      | false ↦ λ e. elim (one_event p (message_bound p) n w g e b) [
        | inl v ↦ ap (has_verdict p) (stays p n (event p (calm_word w) w) v) ∙ v
        | inr c ↦ ends p ok n (event p (calm_word w) w) (reached_event p (calm_word w) w (verdict_parts w.network.refuted (is_quiet p w) e).0 g) c
      ]
    ]) refl

pub calm_budget : (p : Csp) → CalmBudget p
calm_budget p ok words n small =
    let w = after p words (begin p) in
    let g : Reached p w = record {
      facts = facts_after p words (begin p) (facts_begin p);
      choices = numbers p words (begin p);
      runs = is_run p words;
      counted = counted_after p words (begin p) (facts_begin p) (counted_begin p);
    } in
    ends p ok n w g (Emptying (let l = weight_most w.pool in omega arith))
