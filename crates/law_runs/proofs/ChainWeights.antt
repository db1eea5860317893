-- The greatest clock of events is the greatest weight of a causal chain.
use Rattle.std.proofs.Common.{◌≡◌, ◌≢◌, ℕ, zero, suc, ◌+◌, ◌<◌, ◌≤◌, ◌⊎◌, Bool, true, false, cond, ◌&&◌, inl, inr, List, [], ◌∷◌, ◌++◌, ◌==◌, length, map, take, drop, slice_get, Option, Some, None, max, refl, sym, ap, ◌∙◌, arith, subst, append_assoc, append-nil, length-append}
use Rattle.std.proofs.Math.Nat.{le-max_left, le-max_right, max-eq_left, max-eq_right}
use Rattle.std.proofs.lemmas.Bool.Decides.{eqb_tells}
use Rattle.std.proofs.lemmas.List.{take-append-le, map-append}
use Rattle.std.proofs.lemmas.List.Elements.{filter-append}
use native.Mathlib.Decide.{dec_lt}
use Rattle.dcsp_common.proofs.Items.{get_front}
use Rattle.dcsp_defs.specs.Words.{In, update}
use Rattle.abt_defs.specs.Clocks.{Event, Clocks, no_clocks, first_of, rest_of, reached, clock_after, copies, is_from, tick, ticks, greatest_clock}
use Rattle.law_runs.specs.Chains.{IsEvent, sendings, receipts, ComesNext, IsSentIn, Chain, Alone, Goes_on, Arrives, IsGreatestWeight}

-- ---- lists

get-end : {X : Type 0} → (xs : List X) (y : X) → slice_get (xs ++ y ∷ []) (length xs) ≡ Some y
get-end [] y = refl
get-end (x ∷ xs) y = get-end xs y

pub get-more : {X : Type 0} → (xs ys : List X) (x : X) (i : ℕ) → slice_get xs i ≡ Some x → slice_get (xs ++ ys) i ≡ Some x
get-more xs ys x i h = get_front xs ys i x h

pub get-within : {X : Type 0} → (xs : List X) (x : X) (i : ℕ) → slice_get xs i ≡ Some x → i < length xs
get-within [] x i h = cc
get-within (z ∷ zs) x zero h = omega arith
get-within (z ∷ zs) x (suc i) h = let k = get-within zs x i h in omega arith

get-front : {X : Type 0} → (xs ys : List X) (i : ℕ) → i < length xs → slice_get (xs ++ ys) i ≡ slice_get xs i
get-front [] ys i l = absurd (omega arith)
get-front (z ∷ zs) ys zero l = refl
get-front (z ∷ zs) ys (suc i) l = get-front zs ys i (omega arith)

get-some : {X : Type 0} → (xs : List X) (i : ℕ) → i < length xs → (x : X) × (slice_get xs i ≡ Some x)
get-some [] i l = absurd (omega arith)
get-some (z ∷ zs) zero l = (z, refl)
get-some (z ∷ zs) (suc i) l = get-some zs i (omega arith)

pub get-split : {X : Type 0} → (xs : List X) (y x : X) (i : ℕ) → slice_get (xs ++ y ∷ []) i ≡ Some x → (slice_get xs i ≡ Some x) ⊎ ((i ≡ length xs) × (x ≡ y))
get-split [] y x zero h = inr (refl, cc)
get-split [] y x (suc i) h = cc
get-split (z ∷ zs) y x zero h = inl h
get-split (z ∷ zs) y x (suc i) h = elim (get-split zs y x i h) [ inl k ↦ inl k | inr k ↦ inr (ap suc k.0, k.1) ]

get-in : {X : Type 0} → (xs : List X) (x : X) (i : ℕ) → slice_get xs i ≡ Some x → In x xs
get-in [] x i h = cc
get-in (z ∷ zs) x zero h = inl cc
get-in (z ∷ zs) x (suc i) h = inr (get-in zs x i h)

in-split : (x : ℕ) (xs ys : List ℕ) → In x (xs ++ ys) → In x xs ⊎ In x ys
in-split x [] ys h = inr h
in-split x (z ∷ zs) ys (inl e) = inl (inl e)
in-split x (z ∷ zs) ys (inr h) = elim (in-split x zs ys h) [ inl u ↦ inl (inr u) | inr u ↦ inr u ]

drop-front : (r : ℕ) (xs ys : List ℕ) → r ≤ length xs → drop r (xs ++ ys) ≡ drop r xs ++ ys
drop-front zero xs ys l = refl
drop-front (suc r) [] ys l = absurd (omega arith)
drop-front (suc r) (x ∷ xs) ys l = drop-front r xs ys (omega arith)

drop-in : (d r : ℕ) (xs : List ℕ) → In d (drop r xs) → In d xs
drop-in d zero xs h = h
drop-in d (suc r) [] h = h
drop-in d (suc r) (x ∷ xs) h = inr (drop-in d r xs h)

map-same : (f g : ℕ → ℕ) (xs : List ℕ) → ((d : ℕ) → In d xs → f d ≡ g d) → map f xs ≡ map g xs
map-same f g [] h = refl
map-same f g (x ∷ xs) h = let e = h x (inl refl) in let r = map-same f g xs (λ d u. h d (inr u)) in cc

first-at : (f : ℕ → ℕ) (r d : ℕ) (xs : List ℕ) → slice_get xs r ≡ Some d → first_of (map f (drop r xs)) ≡ f d
first-at f r d [] h = cc
first-at f zero d (x ∷ xs) h = let e : x ≡ d = cc in ap f e
first-at f (suc r) d (x ∷ xs) h = first-at f r d xs h

rest-at : (f : ℕ → ℕ) (r : ℕ) (xs : List ℕ) → rest_of (map f (drop r xs)) ≡ map f (drop (suc r) xs)
rest-at f zero [] = refl
rest-at f zero (x ∷ xs) = refl
rest-at f (suc r) [] = refl
rest-at f (suc r) (x ∷ xs) = rest-at f r xs

map-copies : (f : ℕ → ℕ) (n b : ℕ) (xs : List ℕ) → map f (copies n b xs) ≡ copies (f n) b xs
map-copies f n b [] = refl
map-copies f n b (x ∷ xs) = elim (x == b) as (λ t. map f (cond t (n ∷ copies n b xs) (copies n b xs)) ≡ cond t (f n ∷ copies (f n) b xs) (copies (f n) b xs)) [
  | true ↦ ap (λ l. f n ∷ l) (map-copies f n b xs)
  | false ↦ map-copies f n b xs
]

in-copies : (d n b : ℕ) (xs : List ℕ) → In d (copies n b xs) → d ≡ n
in-copies d n b [] h = absurd h
in-copies d n b (x ∷ xs) h = (elim (x == b) as (λ t. In d (cond t (n ∷ copies n b xs) (copies n b xs)) → d ≡ n) [
  | true ↦ λ g. elim g [ inl e ↦ e | inr u ↦ in-copies d n b xs u ]
  | false ↦ λ g. in-copies d n b xs g
]) h

which : (a b : ℕ) → ((max a b ≡ a) × (b ≤ a)) ⊎ ((max a b ≡ b) × (a ≤ b))
which a b = elim (dec_lt a b) [
  | yes h ↦ let l : a ≤ b = omega arith in inr (max-eq_right l, l)
  | no h ↦ let l : b ≤ a = omega arith in inl (max-eq_left l, l)
]

-- ---- messages

sendings-append : (a b n : ℕ) (xs ys : List Event) → sendings a b n (xs ++ ys) ≡ sendings a b n xs ++ sendings a b (n + length xs) ys
sendings-append a b n [] ys = let e : n ≡ n + 0 = omega arith in ap (λ k. sendings a b k ys) e
sendings-append a b n (x ∷ xs) ys =
    let here = cond (a == x.agent) (copies n b x.receivers) [] in
    let e : n + 1 + length xs ≡ n + suc (length xs) = omega arith in
    ap (λ l. here ++ l) (sendings-append a b (n + 1) xs ys ∙ ap (λ k. sendings a b (n + 1) xs ++ sendings a b k ys) e) ∙ sym (append_assoc here (sendings a b (n + 1) xs) (sendings a b (n + suc (length xs)) ys))

sendings-below : (a b n d : ℕ) (xs : List Event) → In d (sendings a b n xs) → d < n + length xs
sendings-below a b n d [] h = absurd h
sendings-below a b n d (x ∷ xs) h = elim (in-split d (cond (a == x.agent) (copies n b x.receivers) []) (sendings a b (n + 1) xs) h) [
  | inl u ↦ let e = here (a == x.agent) u in omega arith
  | inr u ↦ let r = sendings-below a b (n + 1) d xs u in omega arith
]
  where
    here : (t : Bool) → In d (cond t (copies n b x.receivers) []) → d ≡ n
    here true u = in-copies d n b x.receivers u
    here false u = absurd u

receipts-append : (a b : ℕ) (xs ys : List Event) → receipts a b (xs ++ ys) ≡ receipts a b xs + receipts a b ys
receipts-append a b xs ys = ap length (filter-append (λ (x : Event). is_from a x.sender && b == x.agent) xs ys) ∙ length-append _ _

-- ---- histories: each message that is received was sent before

pub record IsHistory (events : List Event) : Type 0 where
  pub has : (e : ℕ) (x : Event) (k : ℕ) → IsEvent events e x → x.sender ≡ Some k → receipts k x.agent (take e events) < length (sendings k x.agent 0 (take e events))

changed : (f : ℕ → ℕ) (k x : ℕ) → update f k x k ≡ x
changed f k x = elim (eqb_tells k k) [ inl t ↦ rw t.0 refl | inr t ↦ absurd (t.1 refl) ]

same : (f : ℕ → ℕ) (k x j : ℕ) → (j ≡ k → ⊥) → update f k x j ≡ f j
same f k x j ne = elim (eqb_tells j k) [ inl t ↦ absurd (ne t.1) | inr t ↦ rw t.0 refl ]

-- the clock of an agent is that of its last event, or 0 where it has none
abbrev NoneOf : List Event → ℕ → Type 0
NoneOf es i = (k : ℕ) (z : Event) → IsEvent es k z → z.agent ≢ i

record LastOf (es : List Event) (at : ℕ → ℕ) (i clock : ℕ) : Type 0 where
  number : ℕ
  event : Event
  is : IsEvent es number event
  mine : event.agent ≡ i
  clock_is : at number ≡ clock
  last : (k : ℕ) (z : Event) → number < k → IsEvent es k z → z.agent ≢ i

-- what holds of the clocks after these events
record Good (latency : ℕ) (es : List Event) (c : Clocks) : Type 0 where
  at : ℕ → ℕ
  behind : (a b : ℕ) → receipts a b es ≤ length (sendings a b 0 es)
  agent_last : (i : ℕ) → (NoneOf es i × (c.of_agent i ≡ 0)) ⊎ LastOf es at i (c.of_agent i)
  after_agent : (e : ℕ) (x : Event) → IsEvent es e x → at e ≤ c.of_agent x.agent
  carried : (a b : ℕ) → c.carried a b ≡ map at (drop (receipts a b es) (sendings a b 0 es))
  alone : (e : ℕ) (x : Event) → IsEvent es e x → x.work ≤ at e
  next : (d e : ℕ) (x : Event) → IsEvent es e x → ComesNext es d e x → at d + x.work ≤ at e
  sent : (d e : ℕ) (x : Event) → IsEvent es e x → IsSentIn es d e x → at d + latency + x.work ≤ at e
  chain : (e : ℕ) (x : Event) → IsEvent es e x → Chain es latency e (at e)
  most : (e : ℕ) (x : Event) → IsEvent es e x → at e ≤ c.greatest
  attained : 0 < length es → (e : ℕ) × (x : Event) × IsEvent es e x × (at e ≡ c.greatest)
  none : es ≡ [] → c.greatest ≡ 0

module _ (latency : ℕ) (es : List Event) (y : Event) where
  abbrev longer : List Event
  longer = es ++ y ∷ []

  abbrev n : ℕ
  n = length es

  take-same : (e : ℕ) → e ≤ n → take e longer ≡ take e es
  take-same e l = take-append-le e es (y ∷ []) l

  take-all : take n longer ≡ es
  take-all = go es where
    go : (xs : List Event) → take (length xs) (xs ++ y ∷ []) ≡ xs
    go [] = refl
    go (x ∷ xs) = ap (λ l. x ∷ l) (go xs)

  more_next : (d e : ℕ) (x : Event) → IsEvent es e x → ComesNext es d e x → ComesNext longer d e x
  more_next d e x is h = record {
    before = h.before;
    first = h.first;
    is_first = get-more es (y ∷ []) h.first d h.is_first;
    same = h.same;
    none_between = λ k z l u w. elim (get-split es y z k w) [
      | inl o ↦ h.none_between k z l u o
      | inr o ↦ absurd (let b = get-within es x e is in let q = o.0 in omega arith)
    ];
  }

  less_next : (d e : ℕ) (x : Event) → IsEvent es e x → ComesNext longer d e x → ComesNext es d e x
  less_next d e x is h = record {
    before = h.before;
    first = h.first;
    same = h.same;
    is_first = elim (get-split es y h.first d h.is_first) [
      | inl o ↦ o
      | inr o ↦ absurd (let b = get-within es x e is in let q = o.0 in let r = h.before in omega arith)
    ];
    none_between = λ k z l u w. h.none_between k z l u (get-more es (y ∷ []) z k w);
  }

  more_sendings : (a b : ℕ) → sendings a b 0 longer ≡ sendings a b 0 es ++ sendings a b n (y ∷ [])
  more_sendings a b = sendings-append a b 0 es (y ∷ []) ∙ (let e : 0 + n ≡ n = omega arith in ap (λ k. sendings a b 0 es ++ sendings a b k (y ∷ [])) e)

  more_sent : (d e : ℕ) (x : Event) → IsEvent es e x → IsSentIn es d e x → IsSentIn longer d e x
  more_sent d e x is h = record {
    sender = h.sender;
    came = h.came;
    sent =
        let l : e ≤ n = (let b = get-within es x e is in omega arith) in
        ap (λ t. slice_get (sendings h.sender x.agent 0 longer) (receipts h.sender x.agent t)) (take-same e l)
        ∙ ap (λ s. slice_get s (receipts h.sender x.agent (take e es))) (more_sendings h.sender x.agent)
        ∙ get-more (sendings h.sender x.agent 0 es) (sendings h.sender x.agent n (y ∷ [])) d (receipts h.sender x.agent (take e es)) h.sent;
  }

  more_chain : (e w : ℕ) → Chain es latency e w → Chain longer latency e w
  more_chain _ _ (Alone e x is) = Alone e x (get-more es (y ∷ []) x e is)
  more_chain _ _ (Goes_on d e v x c is h) = Goes_on d e v x (more_chain d v c) (get-more es (y ∷ []) x e is) (more_next d e x is h)
  more_chain _ _ (Arrives d e v x c is h) = Arrives d e v x (more_chain d v c) (get-more es (y ∷ []) x e is) (more_sent d e x is h)

  module _ (hist : IsHistory longer) where
    -- the numbers of the first ones stand
    short : (e : ℕ) → e ≤ n → (k i : ℕ) → length (sendings k i 0 (take e es)) ≤ length (sendings k i 0 es)
    short e l k i = go e es 0 where
      go : (e : ℕ) (xs : List Event) (m : ℕ) → length (sendings k i m (take e xs)) ≤ length (sendings k i m xs)
      go zero xs m = omega arith
      go (suc e) [] m = omega arith
      go (suc e) (x ∷ xs) m =
          let here = cond (k == x.agent) (copies m i x.receivers) [] in
          let h = go e xs (m + 1) in
          let f = length-append here (sendings k i (m + 1) (take e xs)) in
          let g = length-append here (sendings k i (m + 1) xs) in
          omega arith

    has_old : (e : ℕ) (x : Event) (k : ℕ) → IsEvent es e x → x.sender ≡ Some k → receipts k x.agent (take e es) < length (sendings k x.agent 0 es)
    has_old e x k is f =
        let l : e ≤ n = (let b = get-within es x e is in omega arith) in
        let h : receipts k x.agent (take e es) < length (sendings k x.agent 0 (take e es)) = subst (λ t. receipts k x.agent t < length (sendings k x.agent 0 t)) (take-same e l) (hist.has e x k (get-more es (y ∷ []) x e is) f) in
        let s = short e l k x.agent in omega arith

    has_new : (k : ℕ) → y.sender ≡ Some k → receipts k y.agent es < length (sendings k y.agent 0 es)
    has_new k f = subst (λ t. receipts k y.agent t < length (sendings k y.agent 0 t)) take-all (hist.has n y k (get-end es y) f)

    less_sent : (d e : ℕ) (x : Event) → IsEvent es e x → IsSentIn longer d e x → IsSentIn es d e x
    less_sent d e x is h = record {
      sender = h.sender;
      came = h.came;
      sent =
          let l : e ≤ n = (let b = get-within es x e is in omega arith) in
          let r = receipts h.sender x.agent (take e es) in
          sym (get-front (sendings h.sender x.agent 0 es) (sendings h.sender x.agent n (y ∷ [])) r (has_old e x h.sender is h.came))
          ∙ ap (λ s. slice_get s r) (sym (more_sendings h.sender x.agent))
          ∙ ap (λ t. slice_get (sendings h.sender x.agent 0 longer) (receipts h.sender x.agent t)) (sym (take-same e l))
          ∙ h.sent;
    }

    new_sent : (d : ℕ) (h : IsSentIn longer d n y) → slice_get (sendings h.sender y.agent 0 es) (receipts h.sender y.agent es) ≡ Some d
    new_sent d h =
        sym (get-front (sendings h.sender y.agent 0 es) (sendings h.sender y.agent n (y ∷ [])) (receipts h.sender y.agent es) (has_new h.sender h.came))
        ∙ ap (λ s. slice_get s (receipts h.sender y.agent es)) (sym (more_sendings h.sender y.agent))
        ∙ ap (λ t. slice_get (sendings h.sender y.agent 0 longer) (receipts h.sender y.agent t)) (sym take-all)
        ∙ h.sent

    module _ (c : Clocks) (h : Good latency es c) where
      abbrev clk : ℕ
      clk = clock_after latency y c

      at' : ℕ → ℕ
      at' = update h.at n clk

      new_is : at' n ≡ clk
      unfolding at'
      new_is = changed h.at n clk

      old_is : (d : ℕ) → d < n → at' d ≡ h.at d
      unfolding at'
      old_is d l = same h.at n clk d (λ e. omega arith)

      kept_is : (d : ℕ) (x : Event) → IsEvent es d x → at' d ≡ h.at d
      kept_is d x k = old_is d (get-within es x d k)

      by_agent : c.of_agent y.agent ≤ reached latency y.agent y.sender c
      by_agent = go y.sender where
        go : (o : Option ℕ) → c.of_agent y.agent ≤ reached latency y.agent o c
        go None = omega arith
        go (Some k) = le-max_left (c.of_agent y.agent) (first_of (c.carried k y.agent) + latency)

      by_message : (k : ℕ) → y.sender ≡ Some k → first_of (c.carried k y.agent) + latency ≤ reached latency y.agent y.sender c
      by_message k e = rw e (le-max_right (c.of_agent y.agent) (first_of (c.carried k y.agent) + latency))

      first_is : (k d : ℕ) → slice_get (sendings k y.agent 0 es) (receipts k y.agent es) ≡ Some d → first_of (c.carried k y.agent) ≡ h.at d
      first_is k d g = ap first_of (h.carried k y.agent) ∙ first-at h.at (receipts k y.agent es) d (sendings k y.agent 0 es) g

      sent_old : (k d i : ℕ) → slice_get (sendings k i 0 es) (receipts k i es) ≡ Some d → d < n
      sent_old k d i g = let b = sendings-below k i 0 d es (get-in (sendings k i 0 es) d (receipts k i es) g) in omega arith

      -- the chain of the new event
      from_agent : Chain longer latency n (c.of_agent y.agent + y.work)
      from_agent = elim (h.agent_last y.agent) [
        | inl z ↦ let e : c.of_agent y.agent + y.work ≡ y.work = (let o = z.1 in omega arith) in subst (Chain longer latency n) (sym e) (Alone n y (get-end es y))
        | inr l ↦ subst (λ k. Chain longer latency n (k + y.work)) l.clock_is
            (Goes_on l.number n (h.at l.number) y (more_chain l.number (h.at l.number) (h.chain l.number l.event l.is)) (get-end es y) (record {
              before = get-within es l.event l.number l.is;
              first = l.event;
              is_first = get-more es (y ∷ []) l.event l.number l.is;
              same = l.mine;
              none_between = λ k z u v w. elim (get-split es y z k w) [ inl o ↦ l.last k z u o | inr o ↦ absurd (let q = o.0 in omega arith) ];
            }))
      ]

      from_message : (k : ℕ) → y.sender ≡ Some k → Chain longer latency n (first_of (c.carried k y.agent) + latency + y.work)
      from_message k e =
          let s = get-some (sendings k y.agent 0 es) (receipts k y.agent es) (has_new k e) in
          let d = s.0 in
          let old = sent_old k d y.agent s.1 in
          let x = get-some es d old in
          subst (λ z. Chain longer latency n (z + latency + y.work)) (sym (first_is k d s.1))
          (Arrives d n (h.at d) y (more_chain d (h.at d) (h.chain d x.0 x.1)) (get-end es y) (record {
            sender = k;
            came = e;
            sent = ap (λ t. slice_get (sendings k y.agent 0 longer) (receipts k y.agent t)) take-all
                ∙ ap (λ z. slice_get z (receipts k y.agent es)) (more_sendings k y.agent)
                ∙ get-more (sendings k y.agent 0 es) (sendings k y.agent n (y ∷ [])) d (receipts k y.agent es) s.1;
          }))

      new_chain : Chain longer latency n clk
      new_chain = go y.sender refl where
        go : (o : Option ℕ) → y.sender ≡ o → Chain longer latency n (reached latency y.agent o c + y.work)
        go None e = from_agent
        go (Some k) e = elim (which (c.of_agent y.agent) (first_of (c.carried k y.agent) + latency)) [
          | inl m ↦ subst (λ z. Chain longer latency n (z + y.work)) (sym m.0) from_agent
          | inr m ↦ subst (λ z. Chain longer latency n (z + y.work)) (sym m.0) (from_message k e)
        ]

      -- a message that came was behind
      both_tests : (a b : ℕ) (o : Option ℕ) → y.sender ≡ o → (is_from a o && b == y.agent) ≡ true → (y.sender ≡ Some a) × (b ≡ y.agent)
      both_tests a b None f g = cc
      both_tests a b (Some k) f g = elim (eqb_tells a k) [
        | inl t ↦ elim (eqb_tells b y.agent) [
          | inl u ↦ (f ∙ ap (λ z. Some z) (sym t.1), u.1)
          | inr u ↦ absurd (let q : (true && false) ≡ true = sym (ap (λ z. z && (b == y.agent)) t.0 ∙ ap (λ z. true && z) u.0) ∙ g in cc)
        ]
        | inr t ↦ absurd (let q : (false && (b == y.agent)) ≡ true = sym (ap (λ z. z && (b == y.agent)) t.0) ∙ g in cc)
      ]

      enough : (a b : ℕ) → (is_from a y.sender && b == y.agent) ≡ true → suc (receipts a b es) ≤ length (sendings a b 0 es)
      enough a b g = let q = both_tests a b y.sender refl g in subst (λ i. suc (receipts a i es) ≤ length (sendings a i 0 es)) (sym q.1) (has_new a q.0)

      count : (a b : ℕ) (t : Bool) → (is_from a y.sender && b == y.agent) ≡ t → receipts a b (y ∷ []) ≡ cond t 1 0
      count a b t e = ap (λ u. length (cond u (y ∷ []) [])) e ∙ by t where
        by : (t : Bool) → length (cond t (y ∷ []) []) ≡ cond t 1 0
        by true = refl
        by false = refl

      behind' : (a b : ℕ) → receipts a b longer ≤ length (sendings a b 0 longer)
      behind' a b =
          let r = receipts-append a b es (y ∷ []) in
          let l = ap length (more_sendings a b) ∙ length-append (sendings a b 0 es) (sendings a b n (y ∷ [])) in
          by_test (is_from a y.sender && b == y.agent) refl r l
        where
          by_test : (t : Bool) → (is_from a y.sender && b == y.agent) ≡ t → receipts a b longer ≡ receipts a b es + receipts a b (y ∷ []) → length (sendings a b 0 longer) ≡ length (sendings a b 0 es) + length (sendings a b n (y ∷ []))
              → receipts a b longer ≤ length (sendings a b 0 longer)
          by_test true e r l = let k = count a b true e in let f = enough a b e in omega arith
          by_test false e r l = let k = count a b false e in let f = h.behind a b in omega arith

      -- what messages carry
      carried' : (a b : ℕ) → (tick latency y c).carried a b ≡ map at' (drop (receipts a b longer) (sendings a b 0 longer))
      carried' a b =
          let s = sendings a b 0 es in
          let r = receipts a b es in
          let went : sendings a b n (y ∷ []) ≡ cond (a == y.agent) (copies n b y.receivers) [] = append-nil _ in
          let all : sendings a b 0 longer ≡ s ++ cond (a == y.agent) (copies n b y.receivers) [] = more_sendings a b ∙ ap (λ l. s ++ l) went in
          by_test (is_from a y.sender && b == y.agent) refl s r went all
        where
          new_ones : (t : Bool) → map at' (cond t (copies n b y.receivers) []) ≡ cond t (copies clk b y.receivers) []
          new_ones true = map-copies at' n b y.receivers ∙ ap (λ k. copies k b y.receivers) new_is
          new_ones false = refl

          old_ones : (r : ℕ) → map at' (drop r (sendings a b 0 es)) ≡ map h.at (drop r (sendings a b 0 es))
          old_ones r = map-same at' h.at (drop r (sendings a b 0 es)) (λ d u. old_is d (let l = sendings-below a b 0 d es (drop-in d r (sendings a b 0 es) u) in omega arith))

          both : (r : ℕ) → r ≤ length (sendings a b 0 es) → map h.at (drop r (sendings a b 0 es)) ++ cond (a == y.agent) (copies clk b y.receivers) []
              ≡ map at' (drop r (sendings a b 0 es ++ cond (a == y.agent) (copies n b y.receivers) []))
          both r l =
              ap (λ z. z ++ cond (a == y.agent) (copies clk b y.receivers) []) (sym (old_ones r)) ∙ ap (λ z. map at' (drop r (sendings a b 0 es)) ++ z) (sym (new_ones (a == y.agent)))
              ∙ sym (map-append at' (drop r (sendings a b 0 es)) (cond (a == y.agent) (copies n b y.receivers) []))
              ∙ ap (map at') (sym (drop-front r (sendings a b 0 es) (cond (a == y.agent) (copies n b y.receivers) []) l))

          by_test : (t : Bool) → (is_from a y.sender && b == y.agent) ≡ t → (s : List ℕ) (r : ℕ) → sendings a b n (y ∷ []) ≡ cond (a == y.agent) (copies n b y.receivers) []
              → sendings a b 0 longer ≡ sendings a b 0 es ++ cond (a == y.agent) (copies n b y.receivers) []
              → cond (is_from a y.sender && b == y.agent) (rest_of (c.carried a b)) (c.carried a b) ++ cond (a == y.agent) (copies clk b y.receivers) [] ≡ map at' (drop (receipts a b longer) (sendings a b 0 longer))
          by_test true e s r went all =
              let many : receipts a b longer ≡ suc (receipts a b es) = receipts-append a b es (y ∷ []) ∙ (let k = count a b true e in omega arith) in
              let few : suc (receipts a b es) ≤ length (sendings a b 0 es) = enough a b e in
              ap (λ t. cond t (rest_of (c.carried a b)) (c.carried a b) ++ cond (a == y.agent) (copies clk b y.receivers) []) e
              ∙ ap (λ z. rest_of z ++ cond (a == y.agent) (copies clk b y.receivers) []) (h.carried a b)
              ∙ ap (λ z. z ++ cond (a == y.agent) (copies clk b y.receivers) []) (rest-at h.at (receipts a b es) (sendings a b 0 es))
              ∙ both (suc (receipts a b es)) few
              ∙ ap (λ z. map at' (drop z (sendings a b 0 es ++ cond (a == y.agent) (copies n b y.receivers) []))) (sym many)
              ∙ ap (λ z. map at' (drop (receipts a b longer) z)) (sym all)
          by_test false e s r went all =
              let many : receipts a b longer ≡ receipts a b es = receipts-append a b es (y ∷ []) ∙ (let k = count a b false e in omega arith) in
              let few : receipts a b es ≤ length (sendings a b 0 es) = h.behind a b in
              ap (λ t. cond t (rest_of (c.carried a b)) (c.carried a b) ++ cond (a == y.agent) (copies clk b y.receivers) []) e
              ∙ ap (λ z. z ++ cond (a == y.agent) (copies clk b y.receivers) []) (h.carried a b)
              ∙ both (receipts a b es) few
              ∙ ap (λ z. map at' (drop z (sendings a b 0 es ++ cond (a == y.agent) (copies n b y.receivers) []))) (sym many)
              ∙ ap (λ z. map at' (drop (receipts a b longer) z)) (sym all)

      agent_new : (i : ℕ) → i ≡ y.agent → (tick latency y c).of_agent i ≡ clk
      agent_new i e = ap (update c.of_agent y.agent clk) e ∙ changed c.of_agent y.agent clk

      agent_old : (i : ℕ) → (i ≡ y.agent → ⊥) → (tick latency y c).of_agent i ≡ c.of_agent i
      agent_old i ne = same c.of_agent y.agent clk i ne

      agent_last' : (i : ℕ) → (NoneOf longer i × ((tick latency y c).of_agent i ≡ 0)) ⊎ LastOf longer at' i ((tick latency y c).of_agent i)
      agent_last' i = elim (eqb_tells i y.agent) [
        | inl t ↦ inr (record {
          number = n;
          event = y;
          is = get-end es y;
          mine = sym t.1;
          clock_is = new_is ∙ sym (agent_new i t.1);
          last = λ k z l w. absurd (let b = get-within longer z k w in let m = length-append es (y ∷ []) in omega arith);
        })
        | inr t ↦ elim (h.agent_last i) [
          | inl o ↦ inl (λ k z w. elim (get-split es y z k w) [ inl u ↦ o.0 k z u | inr u ↦ λ e. t.1 (sym e ∙ ap (λ (q : Event). q.agent) u.1) ], agent_old i t.1 ∙ o.1)
          | inr o ↦ inr (record {
            number = o.number;
            event = o.event;
            is = get-more es (y ∷ []) o.event o.number o.is;
            mine = o.mine;
            clock_is = kept_is o.number o.event o.is ∙ o.clock_is ∙ sym (agent_old i t.1);
            last = λ k z l w. elim (get-split es y z k w) [ inl u ↦ o.last k z l u | inr u ↦ λ e. t.1 (sym e ∙ ap (λ (q : Event). q.agent) u.1) ];
          })
        ]
      ]

      -- at most the new clock, or as before
      old_at : (e : ℕ) (x : Event) → IsEvent es e x → (z : ℕ) → z ≤ h.at e → z ≤ at' e
      old_at e x is z l = let k = kept_is e x is in omega arith

      new_at : (e : ℕ) → e ≡ n → (z : ℕ) → z ≤ clk → z ≤ at' e
      new_at e q z l = let k : at' e ≡ clk = ap at' q ∙ new_is in omega arith

      after_agent' : (e : ℕ) (x : Event) → IsEvent longer e x → at' e ≤ (tick latency y c).of_agent x.agent
      after_agent' e x w = elim (get-split es y x e w) [
        | inl o ↦
            let k = kept_is e x o in
            let b = h.after_agent e x o in
            elim (eqb_tells x.agent y.agent) [
              | inl u ↦ let g = agent_new x.agent u.1 in let f : c.of_agent x.agent ≡ c.of_agent y.agent = ap c.of_agent u.1 in let m = by_agent in omega arith
              | inr u ↦ let g = agent_old x.agent u.1 in omega arith
            ]
        | inr o ↦ let k : at' e ≡ clk = ap at' o.0 ∙ new_is in let g = agent_new x.agent (ap (λ (q : Event). q.agent) o.1) in omega arith
      ]

      next' : (d e : ℕ) (x : Event) → IsEvent longer e x → ComesNext longer d e x → at' d + x.work ≤ at' e
      next' d e x w g = elim (get-split es y x e w) [
        | inl o ↦ let f = less_next d e x o g in let a = h.next d e x o f in let k = kept_is e x o in let m = kept_is d f.first f.is_first in omega arith
        | inr o ↦
            let k : at' e ≡ clk = ap at' o.0 ∙ new_is in
            elim (get-split es y g.first d g.is_first) [
              | inl u ↦
                  let m = kept_is d g.first u in
                  let b = h.after_agent d g.first u in
                  let f : c.of_agent g.first.agent ≡ c.of_agent y.agent = ap c.of_agent (g.same ∙ ap (λ (q : Event). q.agent) o.1) in
                  let v : x.work ≡ y.work = ap (λ (q : Event). q.work) o.1 in
                  let a = by_agent in omega arith
              | inr u ↦ absurd (let q = u.0 in let r = o.0 in let b = g.before in omega arith)
            ]
      ]

      sent' : (d e : ℕ) (x : Event) → IsEvent longer e x → IsSentIn longer d e x → at' d + latency + x.work ≤ at' e
      sent' d e x w g = elim (get-split es y x e w) [
        | inl o ↦
            let f = less_sent d e x o g in
            let a = h.sent d e x o f in
            let k = kept_is e x o in
            let l : d < n = (let b = sendings-below f.sender x.agent 0 d es (get-in (sendings f.sender x.agent 0 es) d _ f.sent) in omega arith) in
            let m = old_is d l in omega arith
        | inr o ↦
            let g2 : IsSentIn longer d n y = subst (λ k. IsSentIn longer d k y) o.0 (subst (λ q. IsSentIn longer d e q) o.1 g) in
            let f = new_sent d g2 in
            let m = old_is d (sent_old g2.sender d y.agent f) in
            let a = first_is g2.sender d f in
            let b = by_message g2.sender g2.came in
            let k : at' e ≡ clk = ap at' o.0 ∙ new_is in
            let v : x.work ≡ y.work = ap (λ (q : Event). q.work) o.1 in omega arith
      ]

      good_more : Good latency longer (tick latency y c)
      good_more = record {
        at = at';
        behind = behind';
        agent_last = agent_last';
        after_agent = after_agent';
        carried = carried';
        alone = λ e x w. elim (get-split es y x e w) [
          | inl o ↦ old_at e x o x.work (h.alone e x o)
          | inr o ↦ new_at e o.0 x.work (let v : x.work ≡ y.work = ap (λ (q : Event). q.work) o.1 in omega arith)
        ];
        next = next';
        sent = sent';
        chain = λ e x w. elim (get-split es y x e w) [
          | inl o ↦ subst (Chain longer latency e) (sym (kept_is e x o)) (more_chain e (h.at e) (h.chain e x o))
          | inr o ↦ subst (λ k. Chain longer latency k (at' k)) (sym o.0) (subst (Chain longer latency n) (sym new_is) new_chain)
        ];
        most = λ e x w. elim (get-split es y x e w) [
          | inl o ↦ let k = kept_is e x o in let m = h.most e x o in let l = le-max_left c.greatest clk in omega arith
          | inr o ↦ let k : at' e ≡ clk = ap at' o.0 ∙ new_is in let l = le-max_right c.greatest clk in omega arith
        ];
        attained = λ l. elim (which c.greatest clk) [
          | inl m ↦ by_old es refl m
          | inr m ↦ (n, y, get-end es y, new_is ∙ sym m.0)
        ];
        none = λ e. absurd (let k : length longer ≡ 0 = ap length e in let m = length-append es (y ∷ []) in omega arith);
      }
        where
          by_old : (xs : List Event) → es ≡ xs → (max c.greatest clk ≡ c.greatest) × (clk ≤ c.greatest) → (e : ℕ) × (x : Event) × IsEvent longer e x × (at' e ≡ max c.greatest clk)
          by_old [] e m = (n, y, get-end es y, new_is ∙ (let z = h.none e in let q = m.0 in let r = m.1 in omega arith))
          by_old (x ∷ xs) e m =
              let r = h.attained (let k : length es ≡ suc (length xs) = ap length e in omega arith) in
              (r.0, r.1, get-more es (y ∷ []) r.1 r.0 r.2, kept_is r.0 r.1 r.2 ∙ r.3 ∙ sym m.0)

good_none : (latency : ℕ) → Good latency [] no_clocks
good_none latency = record {
  at = λ e. 0;
  behind = λ a b. omega arith;
  agent_last = λ i. inl (λ k z w. absurd (let b = get-within [] z k w in omega arith), refl);
  after_agent = λ e x w. omega arith;
  carried = λ a b. refl;
  alone = λ e x w. absurd (let b = get-within [] x e w in omega arith);
  next = λ d e x w g. absurd (let b = get-within [] x e w in omega arith);
  sent = λ d e x w g. absurd (let b = get-within [] x e w in omega arith);
  chain = λ e x w. absurd (let b = get-within [] x e w in omega arith);
  most = λ e x w. omega arith;
  attained = λ l. absurd (omega arith);
  none = λ e. refl;
}

history-front : (xs ys : List Event) → IsHistory (xs ++ ys) → IsHistory xs
history-front xs ys h = record {
  has = λ e x k w f.
      let l : e ≤ length xs = (let b = get-within xs x e w in omega arith) in
      subst (λ t. receipts k x.agent t < length (sendings k x.agent 0 t)) (take-append-le e xs ys l) (h.has e x k (get-more xs ys x e w) f);
}

good_all : (latency : ℕ) (es done : List Event) (c : Clocks) → IsHistory (done ++ es) → Good latency done c → Good latency (done ++ es) (ticks latency es c)
good_all latency [] done c hist h = subst (λ (z : List Event). Good latency z c) (sym (append-nil done)) h
good_all latency (e ∷ es) done c hist h =
    let hist2 : IsHistory ((done ++ e ∷ []) ++ es) = subst IsHistory (sym (append_assoc done (e ∷ []) es)) hist in
    subst (λ (z : List Event). Good latency z (ticks latency es (tick latency e c))) (append_assoc done (e ∷ []) es)
    (good_all latency es (done ++ e ∷ []) (tick latency e c) hist2 (good_more latency done e (history-front (done ++ e ∷ []) es hist2) c h))

module _ (events : List Event) (latency : ℕ) (c : Clocks) (h : Good latency events c) where
  below_at : (e w : ℕ) → Chain events latency e w → (w ≤ h.at e) × ((x : Event) × IsEvent events e x)
  below_at _ _ (Alone e x is) = (h.alone e x is, (x, is))
  below_at _ _ (Goes_on d e v x k is g) = let r = below_at d v k in let a = h.next d e x is g in let b = r.0 in (omega arith, (x, is))
  below_at _ _ (Arrives d e v x k is g) = let r = below_at d v k in let a = h.sent d e x is g in let b = r.0 in (omega arith, (x, is))

  weighs : IsGreatestWeight events latency c.greatest
  weighs = record {
    above = λ e w k. let r = below_at e w k in let a = r.0 in let m = h.most e r.1.0 r.1.1 in omega arith;
    attained = λ l. let r = h.attained l in (r.0, subst (Chain events latency r.0) r.3 (h.chain r.0 r.1 r.2));
    none = h.none;
  }

pub clocks_weigh : (events : List Event) (latency : ℕ) → IsHistory events → IsGreatestWeight events latency (greatest_clock latency events)
clocks_weigh events latency hist = weighs events latency (ticks latency events no_clocks) (good_all latency events [] no_clocks hist (good_none latency))
