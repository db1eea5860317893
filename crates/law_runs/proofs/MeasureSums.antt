-- How the measures of a run stand to each other.
use Rattle.std.proofs.Common.{◌≡◌, ℕ, zero, suc, ◌+◌, ◌*◌, ◌%◌, ◌<◌, ◌≤◌, ◌⊎◌, Bool, true, false, cond, not, ◌&&◌, inl, inr, List, [], ◌∷◌, ◌++◌, ◌==◌, filter, find, map, length, slice_get, max, Option, Some, None, refl, sym, ap, ◌∙◌, arith, subst}
use Rattle.std.specs.List.{flat_map, sum_by, enumerate_from}
use Rattle.std.proofs.Math.Nat.{le-max_left, le-max_right, max-eq_left, max-eq_right, max-le}
use Rattle.std.proofs.lemmas.Bool.Decides.{eqb_tells}
use Rattle.std.proofs.lemmas.List.Concat.{length-flat_map}
use Rattle.std.proofs.lemmas.List.Sums.{sum_by-cons}
use native.Mathlib.Decide.{dec_lt}
use Rattle.dcsp_defs.specs.Words.{In, update, below, sum_below}
use Rattle.dcsp_defs.specs.Csp.{Csp, Constraint, count}
use Rattle.dcsp_defs.proofs.Lists.{In-split, In-below, get-In, filter-from}
use Rattle.abt_defs.specs.Agents.{Message, Tell, Refuse, AddLink}
use Rattle.abt_defs.specs.Network.{Network, empty_network, settle_below, next_number, deliver, ready, run, start, is_empty, is_false, pairs}
use Rattle.abt_defs.specs.Steps.{settle}
use Rattle.abt_defs.specs.Events.{Act, act_of, acts, acts_at, head_acts, choice_acts, later_acts, settlings_below, start_acts, start_acts_by}
use Rattle.abt_defs.specs.Checks.{checks_of}
use Rattle.abt_defs.specs.Clocks.{Event, Clocks, Weights, no_clocks, first_of, rest_of, is_from, reached, clock_after, copies, tick, ticks, greatest_clock, sender_of, event_of, clock, all_checks, messages_alone}
use Rattle.abt_defs.specs.Measures.{Row, is_ok, is_nogood, is_link, acts_by, messages_got, message_in, row, total}
use Rattle.law_agent.proofs.Runs.{In-pairs}
use Rattle.law_runs.proofs.Sums.{sum-add, sum-same, sum-at, sum-zero}
use Rattle.law_runs.proofs.BoundRuns.{goes_run, goes_start}
use Rattle.law_runs.specs.MeasureSums.{checks_in, with_latency, Compares, MeasuresCompare}
use Rattle.law_runs.proofs.ActsMaking.{acts_make_runs}

which : (a b : ℕ) → ((max a b ≡ a) × (b ≤ a)) ⊎ ((max a b ≡ b) × (a ≤ b))
which a b = elim (dec_lt a b) [
  | yes h ↦ let l : a ≤ b = omega arith in inr (max-eq_right l, l)
  | no h ↦ let l : b ≤ a = omega arith in inl (max-eq_left l, l)
]

changed : (f : ℕ → ℕ) (k x : ℕ) → update f k x k ≡ x
changed f k x = elim (eqb_tells k k) [ inl t ↦ rw t.0 refl | inr t ↦ absurd (t.1 refl) ]

same : (f : ℕ → ℕ) (k x j : ℕ) → (j ≡ k → ⊥) → update f k x j ≡ f j
same f k x j ne = elim (eqb_tells j k) [ inl t ↦ absurd (ne t.1) | inr t ↦ rw t.0 refl ]

in-copies : (d n b : ℕ) (xs : List ℕ) → In d (copies n b xs) → d ≡ n
in-copies d n b [] h = absurd h
in-copies d n b (x ∷ xs) h = (elim (x == b) as (λ t. In d (cond t (n ∷ copies n b xs) (copies n b xs)) → d ≡ n) [
  | true ↦ λ g. elim g [ inl e ↦ e | inr u ↦ in-copies d n b xs u ]
  | false ↦ λ g. in-copies d n b xs g
]) h

-- ---- clocks are at most what all events weigh

sent_latency : ℕ → Option ℕ → ℕ
sent_latency latency None = 0
sent_latency latency (Some k) = latency

cost : ℕ → Event → ℕ
unfolding sent_latency
cost latency e = e.work + sent_latency latency e.sender

AllBelow : ℕ → List ℕ → Type 0
AllBelow w xs = (x : ℕ) → In x xs → x ≤ w

record Upper (w : ℕ) (c : Clocks) : Type 0 where
  agents : (i : ℕ) → c.of_agent i ≤ w
  carried : (a b x : ℕ) → In x (c.carried a b) → x ≤ w
  greatest : c.greatest ≤ w

first_below : (w : ℕ) (xs : List ℕ) → ((x : ℕ) → In x xs → x ≤ w) → first_of xs ≤ w
first_below w [] h = omega arith
first_below w (x ∷ xs) h = h x (inl refl)

rest_in : (x : ℕ) (xs : List ℕ) → In x (rest_of xs) → In x xs
rest_in x [] h = h
rest_in x (y ∷ ys) h = inr h

upper_reached : (latency w i : ℕ) (o : Option ℕ) (c : Clocks) → Upper w c → reached latency i o c ≤ w + sent_latency latency o
unfolding sent_latency
upper_reached latency w i None c h = let a = h.agents i in omega arith
upper_reached latency w i (Some k) c h =
    let a = h.agents i in
    let b = first_below w (c.carried k i) (h.carried k i) in
    max-le (let l : c.of_agent i ≤ w + latency = omega arith in l) (let l : first_of (c.carried k i) + latency ≤ w + latency = omega arith in l)

upper_tick : (latency w : ℕ) (e : Event) (c : Clocks) → Upper w c → Upper (w + cost latency e) (tick latency e c)
unfolding cost
upper_tick latency w e c h =
    let r = upper_reached latency w e.agent e.sender c h in
    let k : clock_after latency e c ≤ w + (e.work + sent_latency latency e.sender) = omega arith in
    record {
      agents = λ i. elim (eqb_tells i e.agent) [
        | inl t ↦ let g : update c.of_agent e.agent (clock_after latency e c) i ≡ clock_after latency e c = ap (update c.of_agent e.agent (clock_after latency e c)) t.1 ∙ changed c.of_agent e.agent (clock_after latency e c) in omega arith
        | inr t ↦ let g = same c.of_agent e.agent (clock_after latency e c) i t.1 in let a = h.agents i in omega arith
      ];
      carried = λ a b x u. elim (In-split x (cond (is_from a e.sender && b == e.agent) (rest_of (c.carried a b)) (c.carried a b)) (cond (a == e.agent) (copies (clock_after latency e c) b e.receivers) []) u) [
        | inl v ↦ let l = old (is_from a e.sender && b == e.agent) a b x v in omega arith
        | inr v ↦ let l = new (a == e.agent) b x v in omega arith
      ];
      greatest = let g = h.greatest in max-le (let l : c.greatest ≤ w + (e.work + sent_latency latency e.sender) = omega arith in l) k;
    }
  where
    old : (t : Bool) (a b x : ℕ) → In x (cond t (rest_of (c.carried a b)) (c.carried a b)) → x ≤ w
    old true a b x v = h.carried a b x (rest_in x (c.carried a b) v)
    old false a b x v = h.carried a b x v

    new : (t : Bool) (b x : ℕ) → In x (cond t (copies (clock_after latency e c) b e.receivers) []) → x ≡ clock_after latency e c
    new true b x v = in-copies x (clock_after latency e c) b e.receivers v
    new false b x v = absurd v

upper_ticks : (latency w : ℕ) (es : List Event) (c : Clocks) → Upper w c → Upper (w + sum_by (cost latency) es) (ticks latency es c)
upper_ticks latency w [] c h = let e : w ≡ w + 0 = omega arith in subst (λ k. Upper k c) e h
upper_ticks latency w (x ∷ xs) c h =
    let q = sum_by-cons (cost latency) x xs in
    let e : w + cost latency x + sum_by (cost latency) xs ≡ w + sum_by (cost latency) (x ∷ xs) = omega arith in
    subst (λ k. Upper k (ticks latency xs (tick latency x c))) e (upper_ticks latency (w + cost latency x) xs (tick latency x c) (upper_tick latency w x c h))

upper : (latency : ℕ) (es : List Event) → greatest_clock latency es ≤ sum_by (cost latency) es
upper latency es = let u = (upper_ticks latency 0 es no_clocks (record { agents = λ i. omega arith; carried = λ a b x v. absurd v; greatest = omega arith })).greatest in omega arith

no_latency : (o : Option ℕ) → sent_latency 0 o ≡ 0
unfolding sent_latency
no_latency None = refl
no_latency (Some k) = refl

free_way : (e : Event) → cost 0 e ≡ e.work
unfolding cost
free_way e = let z = no_latency e.sender in omega arith

way_of : (o : Option (ℕ × Message)) → sent_latency 1 (sender_of o) ≡ length (message_in o)
unfolding sent_latency
way_of None = refl
way_of (Some x) = refl

way_alone : (p : Csp) (a : Act) → cost 1 (event_of p messages_alone a) ≡ length (messages_got a)
unfolding cost
way_alone p a = let z = way_of a.came in omega arith

-- ---- clocks are at least what one agent works

own : ℕ → List Event → ℕ
own i [] = 0
own i (e ∷ es) = cond (e.agent == i) e.work 0 + own i es

record Lower (w i : ℕ) (c : Clocks) : Type 0 where
  agent : w ≤ c.of_agent i
  greatest : (j : ℕ) → c.of_agent j ≤ c.greatest

lower_tick : (latency w i : ℕ) (e : Event) (c : Clocks) → Lower w i c → Lower (w + cond (e.agent == i) e.work 0) i (tick latency e c)
lower_tick latency w i e c h = record {
  agent = elim (eqb_tells e.agent i) [
    | inl t ↦ let g : update c.of_agent e.agent (clock_after latency e c) i ≡ clock_after latency e c = ap (update c.of_agent e.agent (clock_after latency e c)) (sym t.1) ∙ changed c.of_agent e.agent (clock_after latency e c) in
        let r = by_agent e.sender in let a = h.agent in let q : c.of_agent e.agent ≡ c.of_agent i = ap c.of_agent t.1 in rw t.0 (omega arith)
    | inr t ↦ let g = same c.of_agent e.agent (clock_after latency e c) i (λ z. t.1 (sym z)) in let a = h.agent in rw t.0 (omega arith)
  ];
  greatest = λ j. let l = le-max_left c.greatest (clock_after latency e c) in let r = le-max_right c.greatest (clock_after latency e c) in let a = h.greatest j in elim (eqb_tells j e.agent) [
    | inl t ↦ let g : update c.of_agent e.agent (clock_after latency e c) j ≡ clock_after latency e c = ap (update c.of_agent e.agent (clock_after latency e c)) t.1 ∙ changed c.of_agent e.agent (clock_after latency e c) in omega arith
    | inr t ↦ let g = same c.of_agent e.agent (clock_after latency e c) j t.1 in omega arith
  ];
}
  where
    by_agent : (o : Option ℕ) → c.of_agent e.agent ≤ reached latency e.agent o c
    by_agent None = omega arith
    by_agent (Some k) = le-max_left (c.of_agent e.agent) (first_of (c.carried k e.agent) + latency)

lower_ticks : (latency w i : ℕ) (es : List Event) (c : Clocks) → Lower w i c → Lower (w + own i es) i (ticks latency es c)
unfolding own
lower_ticks latency w i [] c h = let e : w ≡ w + 0 = omega arith in subst (λ k. Lower k i c) e h
lower_ticks latency w i (x ∷ xs) c h =
    let d = cond (x.agent == i) x.work 0 in
    let e : w + d + own i xs ≡ w + (d + own i xs) = omega arith in
    subst (λ k. Lower k i (ticks latency xs (tick latency x c))) e (lower_ticks latency (w + d) i xs (tick latency x c) (lower_tick latency w i x c h))

lower : (latency i : ℕ) (es : List Event) → own i es ≤ greatest_clock latency es
lower latency i es =
    let l = lower_ticks latency 0 i es no_clocks (record { agent = omega arith; greatest = λ j. omega arith }) in
    let a = l.agent in let g = l.greatest i in omega arith

-- ---- with and without latency

record Between (latency x y z : ℕ) : Type 0 where
  least : x ≤ y
  most : y ≤ x + latency * z

ListsBetween : ℕ → List ℕ → List ℕ → List ℕ → Type 0
ListsBetween latency [] ys zs = (ys ≡ []) × (zs ≡ [])
ListsBetween latency (x ∷ xs) ys zs = (y : ℕ) × (more : List ℕ) × (z : ℕ) × (others : List ℕ) × (ys ≡ y ∷ more) × (zs ≡ z ∷ others) × Between latency x y z × ListsBetween latency xs more others

module _ (latency : ℕ) where
  none_between : Between latency 0 0 0
  none_between = record { least = omega arith; most = omega arith }

  first_between : (xs ys zs : List ℕ) → ListsBetween latency xs ys zs → Between latency (first_of xs) (first_of ys) (first_of zs)
  unfolding ListsBetween
  first_between [] ys zs h = subst (λ l. Between latency 0 (first_of l) (first_of zs)) (sym h.0) (subst (λ l. Between latency 0 0 (first_of l)) (sym h.1) none_between)
  first_between (x ∷ xs) ys zs h = subst (λ l. Between latency x (first_of l) (first_of zs)) (sym h.4) (subst (λ l. Between latency x h.0 (first_of l)) (sym h.5) h.6)

  rest_between : (xs ys zs : List ℕ) → ListsBetween latency xs ys zs → ListsBetween latency (rest_of xs) (rest_of ys) (rest_of zs)
  unfolding ListsBetween
  rest_between [] ys zs h = (ap rest_of h.0, ap rest_of h.1)
  rest_between (x ∷ xs) ys zs h = subst (λ l. ListsBetween latency xs (rest_of l) (rest_of zs)) (sym h.4) (subst (λ l. ListsBetween latency xs h.1 (rest_of l)) (sym h.5) h.7)

  both_between : (xs ys zs us vs ws : List ℕ) → ListsBetween latency xs ys zs → ListsBetween latency us vs ws → ListsBetween latency (xs ++ us) (ys ++ vs) (zs ++ ws)
  unfolding ListsBetween
  both_between [] ys zs us vs ws h g = subst (λ l. ListsBetween latency us (l ++ vs) (zs ++ ws)) (sym h.0) (subst (λ l. ListsBetween latency us vs (l ++ ws)) (sym h.1) g)
  both_between (x ∷ xs) ys zs us vs ws h g = (h.0, h.1 ++ vs, h.2, h.3 ++ ws, ap (λ l. l ++ vs) h.4, ap (λ l. l ++ ws) h.5, h.6, both_between xs h.1 h.3 us vs ws h.7 g)

  copies_between : (x y z b : ℕ) (rs : List ℕ) → Between latency x y z → ListsBetween latency (copies x b rs) (copies y b rs) (copies z b rs)
  unfolding ListsBetween
  copies_between x y z b [] h = (refl, refl)
  copies_between x y z b (r ∷ rs) h = elim (r == b) as (λ t. ListsBetween latency (cond t (x ∷ copies x b rs) (copies x b rs)) (cond t (y ∷ copies y b rs) (copies y b rs)) (cond t (z ∷ copies z b rs) (copies z b rs))) [
    | true ↦ (y, copies y b rs, z, copies z b rs, refl, refl, h, copies_between x y z b rs h)
    | false ↦ copies_between x y z b rs h
  ]

  times-le : (a b : ℕ) → a ≤ b → latency * a ≤ latency * b
  times-le a b l = grind (arith)

  max_between : (x y z u v w : ℕ) → Between latency x y z → Between latency u v w → Between latency (max x u) (max y v) (max z w)
  max_between x y z u v w h g =
      let a = le-max_left x u in let b = le-max_right x u in let c = le-max_left y v in let d = le-max_right y v in
      let p = times-le z (max z w) (le-max_left z w) in
      let q = times-le w (max z w) (le-max_right z w) in
      let hl = h.least in let hm = h.most in let gl = g.least in let gm = g.most in
      record {
        least = max-le (let l : x ≤ max y v = omega arith in l) (let l : u ≤ max y v = omega arith in l);
        most = max-le (let l : y ≤ max x u + latency * max z w = omega arith in l) (let l : v ≤ max x u + latency * max z w = omega arith in l);
      }

  later_between : (x y z : ℕ) → Between latency x y z → Between latency (x + 0) (y + latency) (z + 1)
  later_between x y z h = let a = h.least in let b = h.most in let c : latency * (z + 1) ≡ latency * z + latency = grind (arith) in record { least = omega arith; most = omega arith }

  work_between : (x y z k : ℕ) → Between latency x y z → Between latency (x + k) (y + k) (z + 0)
  work_between x y z k h = let a = h.least in let b = h.most in let c : latency * (z + 0) ≡ latency * z = (let e : z + 0 ≡ z = omega arith in ap (λ n. latency * n) e) in record { least = omega arith; most = omega arith }

  record Three (c d f : Clocks) : Type 0 where
    agents : (i : ℕ) → Between latency (c.of_agent i) (d.of_agent i) (f.of_agent i)
    carried : (a b : ℕ) → ListsBetween latency (c.carried a b) (d.carried a b) (f.carried a b)
    greatest : Between latency c.greatest d.greatest f.greatest

  -- the events of one act, as the three clocks see them
  three_tick : (e g : Event) (c d f : Clocks) → g.agent ≡ e.agent → g.sender ≡ e.sender → g.receivers ≡ e.receivers → g.work ≡ 0 → Three c d f → Three (tick 0 e c) (tick latency e d) (tick 1 g f)
  three_tick e g c d f ea es er ew h = record {
    agents = λ i. subst (λ k. Between latency (update c.of_agent e.agent (clock_after 0 e c) i) (update d.of_agent e.agent (clock_after latency e d) i) (update f.of_agent k (clock_after 1 g f) i)) (sym ea) (by_test (i == e.agent) i);
    carried = λ a b.
        both_between _ _ _ _ _ _ (subst (λ k. ListsBetween latency (cond (is_from a e.sender && b == e.agent) (rest_of (c.carried a b)) (c.carried a b)) (cond (is_from a e.sender && b == e.agent) (rest_of (d.carried a b)) (d.carried a b)) (cond (is_from a k && b == g.agent) (rest_of (f.carried a b)) (f.carried a b))) (sym es)
        (subst (λ k. ListsBetween latency (cond (is_from a e.sender && b == e.agent) (rest_of (c.carried a b)) (c.carried a b)) (cond (is_from a e.sender && b == e.agent) (rest_of (d.carried a b)) (d.carried a b)) (cond (is_from a e.sender && b == k) (rest_of (f.carried a b)) (f.carried a b))) (sym ea)
        (old (is_from a e.sender && b == e.agent) a b)))
        (subst (λ k. ListsBetween latency (cond (a == e.agent) (copies (clock_after 0 e c) b e.receivers) []) (cond (a == e.agent) (copies (clock_after latency e d) b e.receivers) []) (cond (a == k) (copies (clock_after 1 g f) b g.receivers) [])) (sym ea)
        (subst (λ r. ListsBetween latency (cond (a == e.agent) (copies (clock_after 0 e c) b e.receivers) []) (cond (a == e.agent) (copies (clock_after latency e d) b e.receivers) []) (cond (a == e.agent) (copies (clock_after 1 g f) b r) [])) (sym er)
        (new (a == e.agent) b)));
    greatest = max_between _ _ _ _ _ _ h.greatest clocks;
  }
    where
      reach : (o : Option ℕ) → Between latency (reached 0 e.agent o c) (reached latency e.agent o d) (reached 1 e.agent o f)
      reach None = h.agents e.agent
      reach (Some k) = max_between _ _ _ _ _ _ (h.agents e.agent) (later_between _ _ _ (first_between _ _ _ (h.carried k e.agent)))

      clocks : Between latency (clock_after 0 e c) (clock_after latency e d) (clock_after 1 g f)
      clocks =
          let r : Between latency (reached 0 e.agent e.sender c) (reached latency e.agent e.sender d) (reached 1 g.agent g.sender f) = subst (λ k. Between latency (reached 0 e.agent e.sender c) (reached latency e.agent e.sender d) (reached 1 k g.sender f)) (sym ea) (subst (λ o. Between latency (reached 0 e.agent e.sender c) (reached latency e.agent e.sender d) (reached 1 e.agent o f)) (sym es) (reach e.sender)) in
          subst (λ k. Between latency (reached 0 e.agent e.sender c + e.work) (reached latency e.agent e.sender d + e.work) (reached 1 g.agent g.sender f + k)) (sym ew) (work_between _ _ _ e.work r)

      by_test : (t : Bool) (i : ℕ) → Between latency (cond t (clock_after 0 e c) (c.of_agent i)) (cond t (clock_after latency e d) (d.of_agent i)) (cond t (clock_after 1 g f) (f.of_agent i))
      by_test true i = clocks
      by_test false i = h.agents i

      old : (t : Bool) (a b : ℕ) → ListsBetween latency (cond t (rest_of (c.carried a b)) (c.carried a b)) (cond t (rest_of (d.carried a b)) (d.carried a b)) (cond t (rest_of (f.carried a b)) (f.carried a b))
      old true a b = rest_between _ _ _ (h.carried a b)
      old false a b = h.carried a b

      new : (t : Bool) (b : ℕ) → ListsBetween latency (cond t (copies (clock_after 0 e c) b e.receivers) []) (cond t (copies (clock_after latency e d) b e.receivers) []) (cond t (copies (clock_after 1 g f) b e.receivers) [])
      new true b = copies_between _ _ _ b e.receivers clocks
      new false b = copies_between 0 0 0 0 [] none_between

  three_ticks : (p : Csp) (list : List Act) (c d f : Clocks) → Three c d f → Three (ticks 0 (map (event_of p all_checks) list) c) (ticks latency (map (event_of p (with_latency latency)) list) d) (ticks 1 (map (event_of p messages_alone) list) f)
  three_ticks p [] c d f h = h
  three_ticks p (x ∷ xs) c d f h = three_ticks p xs _ _ _ (three_tick (event_of p all_checks x) (event_of p messages_alone x) c d f refl refl refl (omega arith) h)

  three : (p : Csp) (list : List Act) → Between latency (clock p all_checks list) (clock p (with_latency latency) list) (clock p messages_alone list)
  three p list = (three_ticks p list no_clocks no_clocks no_clocks (record { agents = λ i. none_between; carried = λ a b. copies_between 0 0 0 0 [] none_between; greatest = none_between })).greatest

-- ---- each act is one agent's of the problem

record Ranged (n : ℕ) (list : List Act) : Type 0 where
  within : (x : Act) → In x list → x.agent < n

both_ranged : (n : ℕ) (xs ys : List Act) → Ranged n xs → Ranged n ys → Ranged n (xs ++ ys)
both_ranged n xs ys h g = record { within = λ x u. elim (In-split x xs ys u) [ inl v ↦ h.within x v | inr v ↦ g.within x v ] }

none_ranged : (n : ℕ) → Ranged n []
none_ranged n = record { within = λ x u. absurd u }

one_ranged : (n : ℕ) (x : Act) → x.agent < n → Ranged n (x ∷ [])
one_ranged n x l = record { within = λ y u. elim u [ inl e ↦ subst (λ (z : Act). z.agent < n) (sym e) l | inr v ↦ absurd v ] }

settlings_ranged : (p : Csp) (n i : ℕ) → i ≤ n → Ranged n (settlings_below p i)
settlings_ranged p n zero l = none_ranged n
settlings_ranged p n (suc i) l =
    let before = settle_below p i (empty_network p) in
    both_ranged n (settlings_below p i) _ (settlings_ranged p n i (omega arith)) (by_test before.refuted (act_of i None (before.agents i) (settle p i (next_number before) (before.agents i))) (omega arith))
  where
    by_test : (b : Bool) (x : Act) → x.agent < n → Ranged n (cond b [] (x ∷ []))
    by_test true x u = none_ranged n
    by_test false x u = one_ranged n x u

start_ranged : (p : Csp) (o : Option (ℕ × Constraint)) → Ranged (count p) (start_acts_by p o)
start_ranged p None = settlings_ranged p (count p) (count p) (omega arith)
start_ranged p (Some x) = none_ranged (count p)

choice_ranged : (p : Csp) (c : ℕ) (net : Network) → Ranged (count p) (choice_acts p c net)
choice_ranged p c net = by_pair (slice_get (ready p net) (c % length (ready p net))) refl
  where
    by_list : (x : ℕ × ℕ) (ms : List Message) → x.1 < count p → Ranged (count p) (head_acts p x.0 x.1 ms net)
    by_list x [] l = none_ranged (count p)
    by_list x (m ∷ ms) l = one_ranged (count p) _ l

    by_pair : (o : Option (ℕ × ℕ)) → slice_get (ready p net) (c % length (ready p net)) ≡ o → Ranged (count p) (acts_at p o net)
    by_pair None e = none_ranged (count p)
    by_pair (Some x) e = by_list x (net.links x.0 x.1) (In-below (count p) x.1 (In-pairs (count p) x (below (count p)) (filter-from (λ (y : ℕ × ℕ). not (is_empty (net.links y.0 y.1))) x (pairs (count p)) (get-In (ready p net) _ x e)).0).0)

later_ranged : (p : Csp) (cs : List ℕ) (net : Network) → Ranged (count p) (later_acts p cs net)
later_ranged p [] net = none_ranged (count p)
later_ranged p (c ∷ cs) net = elim net.refuted as (λ b. Ranged (count p) (cond b [] (choice_acts p c net ++ later_acts p cs (deliver p c net)))) [
  | true ↦ none_ranged (count p)
  | false ↦ both_ranged (count p) (choice_acts p c net) (later_acts p cs (deliver p c net)) (choice_ranged p c net) (later_ranged p cs (deliver p c net))
]

pub acts_ranged : (p : Csp) (choices : List ℕ) → (x : Act) → In x (acts p choices) → x.agent < count p
acts_ranged p choices = (both_ranged (count p) (start_acts p) (later_acts p choices (start p)) (start_ranged p (find (λ (x : ℕ × Constraint). is_false x.1) (enumerate_from 0 p.constraints))) (later_ranged p choices (start p))).within

-- ---- sums over the agents

one_by : (f : Act → ℕ) (x : Act) (xs : List Act) (i : ℕ) → sum_by f (acts_by i (x ∷ xs)) ≡ cond (x.agent == i) (f x) 0 + sum_by f (acts_by i xs)
one_by f x xs i = by_test (x.agent == i) where
  by_test : (t : Bool) → sum_by f (cond t (x ∷ acts_by i xs) (acts_by i xs)) ≡ cond t (f x) 0 + sum_by f (acts_by i xs)
  by_test true = sum_by-cons f x (acts_by i xs)
  by_test false = omega arith

one_agent_sum : (k j n : ℕ) → j < n → sum_below (λ i. cond (j == i) k 0) n ≡ k
one_agent_sum k j n l = sum-at (λ i. cond (j == i) k 0) j n l (λ i ne. elim (eqb_tells j i) [ inl t ↦ absurd (ne (sym t.1)) | inr t ↦ rw t.0 refl ]) ∙ elim (eqb_tells j j) [ inl t ↦ rw t.0 refl | inr t ↦ absurd (t.1 refl) ]

by_agents : (f : Act → ℕ) (list : List Act) (n : ℕ) → ((x : Act) → In x list → x.agent < n) → sum_below (λ i. sum_by f (acts_by i list)) n ≡ sum_by f list
by_agents f [] n h = sum-zero (λ i. sum_by f (acts_by i [])) n (λ i l. refl)
by_agents f (x ∷ xs) n h =
    sum-same (λ i. sum_by f (acts_by i (x ∷ xs))) (λ i. cond (x.agent == i) (f x) 0 + sum_by f (acts_by i xs)) n (λ i l. one_by f x xs i)
    ∙ sum-add (λ i. cond (x.agent == i) (f x) 0) (λ i. sum_by f (acts_by i xs)) n
    ∙ (let a = one_agent_sum (f x) x.agent n (h x (inl refl)) in let b = by_agents f xs n (λ y u. h y (inr u)) in let q = sum_by-cons f x xs in omega arith)

kinds_long : (ms : List Message) → length (filter is_ok ms) + length (filter is_nogood ms) + length (filter is_link ms) ≡ length ms
kinds_long [] = refl
kinds_long (Tell s ∷ ms) = let h = kinds_long ms in omega arith
kinds_long (Refuse step pairs ∷ ms) = let h = kinds_long ms in omega arith
kinds_long (AddLink ∷ ms) = let h = kinds_long ms in omega arith

-- what an agent works by itself
own_is : (p : Csp) (w : Weights) (i : ℕ) (list : List Act) → own i (map (event_of p w) list) ≡ sum_by (λ (a : Act). (event_of p w a).work) (acts_by i list)
unfolding own
own_is p w i [] = refl
own_is p w i (x ∷ xs) = let h = own_is p w i xs in let g = one_by (λ (a : Act). (event_of p w a).work) x xs i in omega arith

sum_two : (f g k : Act → ℕ) (list : List Act) → ((a : Act) → k a ≡ f a + g a) → sum_by k list ≡ sum_by f list + sum_by g list
sum_two f g k [] e = refl
sum_two f g k (x ∷ xs) e = let h = sum_two f g k xs e in let q = e x in let a = sum_by-cons f x xs in let b = sum_by-cons g x xs in let c = sum_by-cons k x xs in omega arith

sum_alike : (f g : Act → ℕ) (list : List Act) → ((a : Act) → f a ≡ g a) → sum_by f list ≡ sum_by g list
sum_alike f g [] e = refl
sum_alike f g (x ∷ xs) e = let h = sum_alike f g xs e in let q = e x in let a = sum_by-cons f x xs in let b = sum_by-cons g x xs in omega arith

sum-map : (f : Event → ℕ) (ev : Act → Event) (list : List Act) → sum_by f (map ev list) ≡ sum_by (λ a. f (ev a)) list
sum-map f ev [] = refl
sum-map f ev (x ∷ xs) = let h = sum-map f ev xs in let a = sum_by-cons f (ev x) (map ev xs) in let b = sum_by-cons (λ y. f (ev y)) x xs in omega arith

module _ (p : Csp) (list : List Act) (inside : (x : Act) → In x list → x.agent < count p) where
  abbrev constraints : Act → ℕ
  constraints a = (checks_of p a).constraints

  abbrev nogoods : Act → ℕ
  nogoods a = (checks_of p a).nogoods

  abbrev got : Act → ℕ
  got a = length (messages_got a)

  kinds_sum : (d : ℕ) → length (flat_map messages_got list) ≡ d → total p list (λ (r : Row). r.got.ok) + total p list (λ (r : Row). r.got.nogood) + total p list (λ (r : Row). r.got.link) ≡ d
  kinds_sum d e =
      let n = count p in
      let ok = λ (i : ℕ). length (filter is_ok (flat_map messages_got (acts_by i list))) in
      let ng = λ (i : ℕ). length (filter is_nogood (flat_map messages_got (acts_by i list))) in
      let lk = λ (i : ℕ). length (filter is_link (flat_map messages_got (acts_by i list))) in
      let a : sum_below (λ i. ok i + ng i) n ≡ sum_below ok n + sum_below ng n = sum-add ok ng n in
      let b : sum_below (λ i. ok i + ng i + lk i) n ≡ sum_below (λ i. ok i + ng i) n + sum_below lk n = sum-add (λ i. ok i + ng i) lk n in
      let c : sum_below (λ i. ok i + ng i + lk i) n ≡ sum_below (λ i. sum_by got (acts_by i list)) n = sum-same (λ i. ok i + ng i + lk i) (λ i. sum_by got (acts_by i list)) n (λ i l. kinds_long (flat_map messages_got (acts_by i list)) ∙ length-flat_map messages_got (acts_by i list)) in
      let f : sum_below (λ i. sum_by got (acts_by i list)) n ≡ sum_by got list = by_agents got list n inside in
      let g : sum_by got list ≡ d = sym (length-flat_map messages_got list) ∙ e in
      omega arith

  one_checks : (i : ℕ) → checks_in (row p list i) ≤ clock p all_checks list
  one_checks i =
      let l = lower 0 i (map (event_of p all_checks) list) in
      let o = own_is p all_checks i list in
      let s : sum_by (λ (a : Act). (event_of p all_checks a).work) (acts_by i list) ≡ sum_by constraints (acts_by i list) + sum_by nogoods (acts_by i list) = sum_two constraints nogoods (λ (a : Act). (event_of p all_checks a).work) (acts_by i list) (λ a. omega arith) in
      omega arith

  all_sum : clock p all_checks list ≤ total p list checks_in
  all_sum =
      let n = count p in
      let u = upper 0 (map (event_of p all_checks) list) in
      let m : sum_by (cost 0) (map (event_of p all_checks) list) ≡ sum_by (λ a. cost 0 (event_of p all_checks a)) list = sum-map (cost 0) (event_of p all_checks) list in
      let s : sum_by (λ a. cost 0 (event_of p all_checks a)) list ≡ sum_by constraints list + sum_by nogoods list = sum_two constraints nogoods (λ a. cost 0 (event_of p all_checks a)) list (λ a. let z = free_way (event_of p all_checks a) in omega arith) in
      let c = by_agents constraints list n inside in
      let d = by_agents nogoods list n inside in
      let t : total p list checks_in ≡ sum_below (λ i. sum_by constraints (acts_by i list)) n + sum_below (λ i. sum_by nogoods (acts_by i list)) n = sum-add (λ i. sum_by constraints (acts_by i list)) (λ i. sum_by nogoods (acts_by i list)) n in
      omega arith

  chain_few : (d : ℕ) → length (flat_map messages_got list) ≡ d → clock p messages_alone list ≤ d
  chain_few d e =
      let u = upper 1 (map (event_of p messages_alone) list) in
      let m : sum_by (cost 1) (map (event_of p messages_alone) list) ≡ sum_by (λ a. cost 1 (event_of p messages_alone a)) list = sum-map (cost 1) (event_of p messages_alone) list in
      let s : sum_by (λ a. cost 1 (event_of p messages_alone a)) list ≡ sum_by got list = sum_alike (λ a. cost 1 (event_of p messages_alone a)) got list (λ a. way_alone p a) in
      let g : sum_by got list ≡ d = sym (length-flat_map messages_got list) ∙ e in
      omega arith

  compared : (d : ℕ) → length (flat_map messages_got list) ≡ d → Compares p list d
  compared d e = record {
    kinds = kinds_sum d e;
    one_agent = λ i l. one_checks i;
    all_agents = all_sum;
    chain = chain_few d e;
    at_least = λ latency. (three latency p list).least;
    at_most = λ latency. (three latency p list).most;
  }

pub measures_compare : (p : Csp) → MeasuresCompare p
measures_compare p = record {
  compares = λ choices. compared p (acts p choices) (acts_ranged p choices) (run p choices (start p)).deliveries (acts_make_runs p choices).deliveries;
  bounded = λ ok choices.
      let c = (compared p (acts p choices) (acts_ranged p choices) (run p choices (start p)).deliveries (acts_make_runs p choices).deliveries).chain in
      let b = (goes_run p choices (start p) (goes_start p ok)).small in
      omega arith;
}
