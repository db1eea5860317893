-- The world is a run over reliable links, and what follows from it.
use Rattle.std.proofs.Common.{◌≡◌, ◌≢◌, ℕ, zero, suc, ◌+◌, ◌-◌, ◌<◌, ◌≤◌, true, false, cond, ◌&&◌, inl, inr, List, [], ◌∷◌, ◌++◌, length, length-drop, take, drop, append_assoc, append-nil, slice_get, Option, Some, None, option_to_list, find, ◌==◌, refl, sym, ap, ◌∙◌, subst, arith}
use Rattle.std.specs.List.{enumerate_from}
use Rattle.std.proofs.lemmas.List.{take-append-le, drop_all}
use Rattle.std.proofs.lemmas.Bool.Decides.{nat_tests, eqb_tells}
use Rattle.dcsp_defs.specs.Words.{below, sum_below}
use Rattle.dcsp_defs.specs.Csp.{Csp, Constraint, count}
use Rattle.dcsp_defs.proofs.Lists.{In-below, list_all-In, In-list_all}
use Rattle.abt_defs.specs.Agents.{Message}
use Rattle.abt_defs.specs.Steps.{receive}
use Rattle.abt_defs.specs.Network.{Network, next_number, sent_to, pairs, deliver, run, start, start_by, is_false, IsQuiet, IsSolved}
use Rattle.law_agent.proofs.Runs.{In-pairs}
use Rattle.law_runs.proofs.Stall.{no_stall}
use Rattle.law_agent.proofs.StepRuns.{steps_right}
use Rattle.law_agent.proofs.Ends.{refuted_refutes}
use Rattle.dcsp_defs.specs.Derivation.{IsDerivation, IsRefutation}
use Rattle.dcsp_defs.proofs.Sound.{refutations_refute}
use Rattle.law_runs.proofs.BoundRuns.{bounded, no_deliveries}
use Rattle.law_runs.proofs.Sums.{sum-zero, sum-same}
use Rattle.law_runs.specs.Packets.{Packet, coming}
use Rattle.law_runs.specs.Worlds.{World, begin, reliable, raised, hand_up, event, after}
use Rattle.law_runs.specs.Deliveries.{pair_of_event, number_of, delivered, numbers, message_in, message_on, handed_messages}
use Rattle.law_runs.specs.LossyEnds.{is_quiet}
use Rattle.law_runs.specs.WorldFacts.{Facts}
use Rattle.law_runs.specs.LossyLinks.{HandsUpInOrder}
use Rattle.law_runs.specs.LossyRuns.{IsRun}
use Rattle.law_runs.specs.LossyVerdicts.{QuietIsSolved, StepsAreRight, total, HandedUpBounded}
use Rattle.law_runs.proofs.PacketLists.{raised_here, raised_row, raised_cell, take_get}
use Rattle.law_runs.proofs.WorldFacts.{facts_event, facts_begin}
use Rattle.law_runs.proofs.Events.{moves, same_reliable, pairs-In, raised_within}

-- ---- the run

pub run_from : (p : Csp) (words : List ℕ) (w : World) → Facts p w → reliable (after p words w) ≡ run p (numbers p words w) (reliable w)
run_from p [] w h = refl
run_from p (word ∷ words) w h =
    let ns = numbers p words (event p word w) in
    let ih = run_from p words (event p word w) (facts_event p word w h) in
    (elim w.network.refuted as (λ b. w.network.refuted ≡ b → reliable (cond b w (after p words (event p word w))) ≡ run p (cond b [] (option_to_list (delivered p word w) ++ ns)) (reliable w)) [
      | true ↦ λ e. refl
      | false ↦ λ e. elim (moves p word w h) [
        | inl n ↦
            ih ∙ ap (run p ns) (same_reliable w (pair_of_event word w) (event p word w) n)
            ∙ sym (ap (λ (o : Option (ℕ × ℕ)). run p (option_to_list (number_of p (reliable w) o) ++ ns) (reliable w)) n.pair_none)
        | inr d ↦
            ih ∙ ap (run p ns) d.next
            ∙ sym (ap (λ b. cond b (reliable w) (run p ns (deliver p d.choice (reliable w)))) e)
            ∙ sym (ap (λ (o : Option ℕ). run p (option_to_list o ++ ns) (reliable w)) d.number)
      ]
    ]) refl

pub is_run : (p : Csp) → IsRun p
is_run p words = run_from p words (begin p) (facts_begin p)

-- ---- what was handed up

-- the first part of the pair's list, one longer where this is the pair
one_longer : (links : List Message) (f : ℕ → ℕ → ℕ) (k i a b : ℕ) (m : Message) → (a ≡ k → b ≡ i → slice_get links (f a b) ≡ Some m) → take (f a b) links ++ cond (a == k && b == i) (m ∷ []) [] ≡ take (raised f k i a b) links
one_longer links f k i a b m g = elim (eqb_tells a k) [
  | inl t ↦ elim (eqb_tells b i) [
    | inl u ↦
        let e : f k i + 1 ≡ f a b + 1 = ap (λ z. z + 1) (sym (ap (λ z. f z b) t.1 ∙ ap (f k) u.1)) in
        rw (t.0, u.0) (sym (take_get links (f a b) m (g t.1 u.1)) ∙ sym (ap (λ n. take n links) e))
    | inr u ↦ rw (t.0, u.0) (append-nil (take (f a b) links) ∙ ap (λ z. take (f z b) links) t.1)
  ]
  | inr t ↦ rw t.0 (append-nil (take (f a b) links))
]

-- what one event hands up
one_event : (p : Csp) (word : ℕ) (w : World) → Facts p w → (a b : ℕ)
    → take (w.handed_up a b) (w.network.links a b) ++ message_on (pair_of_event word w) (coming word w.pool) a b ≡ take ((event p word w).handed_up a b) ((event p word w).network.links a b)
one_event p word w h a b = elim (moves p word w h) [
  | inl n ↦
      ap (λ (o : Option (ℕ × ℕ)). take (w.handed_up a b) (w.network.links a b) ++ message_on o (coming word w.pool) a b) n.pair_none
      ∙ append-nil (take (w.handed_up a b) (w.network.links a b))
      ∙ sym (ap (λ (c : ℕ → ℕ → ℕ). take (c a b) (w.network.links a b)) n.handed_up)
      ∙ sym (ap (λ (x : Network). take ((event p word w).handed_up a b) (x.links a b)) n.network)
  | inr d ↦
      let k = d.up.k in let i = d.up.i in let m = d.up.m in
      let s = (receive p i (next_number w.network) (w.network.agents i) k m).sent in
      let head : slice_get (w.network.links k i) (w.handed_up k i) ≡ Some m = let at : w.handed_up k i ≡ d.up.n - 1 = let e = d.up.next in omega arith in ap (slice_get (w.network.links k i)) at ∙ d.data_is.message in
      ap (λ (o : Option (ℕ × ℕ)). take (w.handed_up a b) (w.network.links a b) ++ message_on o (coming word w.pool) a b) d.up.pair_is
      ∙ ap (λ (o : Option Packet). take (w.handed_up a b) (w.network.links a b) ++ cond (a == k && b == i) (message_in o) []) d.up.packet_is
      ∙ one_longer (w.network.links a b) w.handed_up k i a b m (λ x y. ap (λ z. slice_get (w.network.links z b) (w.handed_up z b)) x ∙ ap (λ z. slice_get (w.network.links k z) (w.handed_up k z)) y ∙ head)
      ∙ sym (elim (a == i) as (λ c. take (raised w.handed_up k i a b) (cond c (w.network.links a b ++ sent_to b s) (w.network.links a b)) ≡ take (raised w.handed_up k i a b) (w.network.links a b)) [
        | true ↦ take-append-le (raised w.handed_up k i a b) (w.network.links a b) (sent_to b s) (raised_within p w k i d.up.n m h d.up.next d.data_is a b)
        | false ↦ refl
      ])
      ∙ sym (ap (λ (c : ℕ → ℕ → ℕ). take (c a b) ((hand_up p k i m w).network.links a b)) d.up.handed_up)
      ∙ sym (ap (λ (x : Network). take ((event p word w).handed_up a b) (x.links a b)) d.up.network)
]

up_in_order : (p : Csp) (words : List ℕ) (w : World) → Facts p w → (a b : ℕ)
    → take (w.handed_up a b) (w.network.links a b) ++ handed_messages p words w a b ≡ take ((after p words w).handed_up a b) ((after p words w).network.links a b)
up_in_order p [] w h a b = append-nil (take (w.handed_up a b) (w.network.links a b))
up_in_order p (word ∷ words) w h a b =
    let v = event p word w in
    let ih = up_in_order p words v (facts_event p word w h) a b in
    let up = message_on (pair_of_event word w) (coming word w.pool) a b in
    let more = handed_messages p words v a b in
    elim w.network.refuted as (λ r. take (w.handed_up a b) (w.network.links a b) ++ cond r [] (up ++ more) ≡ take ((cond r w (after p words v)).handed_up a b) ((cond r w (after p words v)).network.links a b)) [
      | true ↦ append-nil (take (w.handed_up a b) (w.network.links a b))
      | false ↦ sym (append_assoc (take (w.handed_up a b) (w.network.links a b)) up more) ∙ ap (λ l. l ++ more) (one_event p word w h a b) ∙ ih
    ]

pub hands_up_in_order : (p : Csp) → HandsUpInOrder p
hands_up_in_order p words a b = up_in_order p words (begin p) (facts_begin p) a b

-- ---- a quiet world

pub quiet_network : (p : Csp) (w : World) → is_quiet p w ≡ true → IsQuiet p (reliable w)
quiet_network p w q k i lk li =
    let e = list_all-In (λ (x : ℕ × ℕ). w.handed_up x.0 x.1 == length (w.network.links x.0 x.1)) (k, i) (pairs (count p)) q (pairs-In (count p) k i lk li) in
    all_gone (w.handed_up k i) (w.network.links k i) e
  where
    all_gone : (n : ℕ) (xs : List Message) → (n == length xs) ≡ true → drop n xs ≡ []
    all_gone n xs e = let f : n ≡ length xs = grind (arith, nat_tests) in drop_all n xs (omega arith)

pub network_quiet : (p : Csp) (w : World) → Facts p w → IsQuiet p (reliable w) → is_quiet p w ≡ true
network_quiet p w h q = In-list_all (λ (x : ℕ × ℕ). w.handed_up x.0 x.1 == length (w.network.links x.0 x.1)) (pairs (count p)) (λ x u.
    let r = In-pairs (count p) x (below (count p)) u in
    all_there (w.handed_up x.0 x.1) (w.network.links x.0 x.1) (h.handed_up x.0 x.1) (q x.0 x.1 (In-below (count p) x.0 r.1) (In-below (count p) x.1 r.0)))
  where
    all_there : (n : ℕ) (xs : List Message) → n ≤ length xs → drop n xs ≡ [] → (n == length xs) ≡ true
    all_there n xs l e = let f : length (drop n xs) ≡ 0 = ap length e in let g = length-drop n xs in let i : n ≡ length xs = omega arith in grind (arith, nat_tests)

pub quiet_is_solved : (p : Csp) → QuietIsSolved p
quiet_is_solved p ok words f q =
    let w = after p words (begin p) in
    let cs = numbers p words (begin p) in
    let e : reliable w ≡ run p cs (start p) = is_run p words in
    let solved : IsSolved p (run p cs (start p)) = no_stall p ok cs (ap (λ (n : Network). n.refuted) (sym e) ∙ f) (subst (IsQuiet p) e (quiet_network p w q)) in
    let here : IsSolved p (reliable w) = subst (IsSolved p) (sym e) solved in
    record { nobody_waits = here.nobody_waits; have_values = here.have_values; solution = here.solution }

-- ---- the steps

pub steps_are_right : (p : Csp) → StepsAreRight p
steps_are_right p ok words =
    let w = after p words (begin p) in
    let choices = numbers p words (begin p) in
    let same : reliable w ≡ run p choices (start p) = is_run p words in
    let refuted_run : w.network.refuted ≡ true → (run p choices (start p)).refuted ≡ true = λ r. ap (λ (n : Network). n.refuted) (sym same) ∙ r in
    let refutation : w.network.refuted ≡ true → IsRefutation p w.network.steps = λ r. subst (λ (n : Network). IsRefutation p n.steps) (sym same) (refuted_refutes p ok choices (refuted_run r)) in
    record {
      right = subst (λ (n : Network). IsDerivation p n.steps) (sym same) (steps_right p ok choices);
      refuted = refutation;
      no_solution = λ r. refutations_refute p ok w.network.steps (refutation r);
    }

-- ---- how many

sum_raise : (f g : ℕ → ℕ) (i n : ℕ) → i < n → g i ≡ f i + 1 → ((j : ℕ) → j ≢ i → g j ≡ f j) → sum_below g n ≡ sum_below f n + 1
sum_raise f g i zero l e o = absurd (omega arith)
sum_raise f g i (suc n) l e o = elim (eqb_tells n i) [
  | inl t ↦
      let s : sum_below g n ≡ sum_below f n = sum-same g f n (λ j u. o j (λ z. let y : n ≡ i = t.1 in absurd (omega arith))) in
      let a : g n ≡ g i = ap g t.1 in let b : f n ≡ f i = ap f t.1 in omega arith
  | inr t ↦ let ne : n ≢ i = t.1 in let r = sum_raise f g i n (omega arith) e o in let s = o n t.1 in omega arith
]

pub total_raised : (p : Csp) (f : ℕ → ℕ → ℕ) (k i : ℕ) → k < count p → i < count p → total p (raised f k i) ≡ total p f + 1
total_raised p f k i lk li =
    sum_raise (λ a. sum_below (f a) (count p)) (λ a. sum_below (raised f k i a) (count p)) k (count p) lk
    (sum_raise (f k) (raised f k i k) i (count p) li (raised_here f k i) (λ j ne. raised_cell f k i j ne))
    (λ a ne. sum-same (raised f k i a) (f a) (count p) (λ b u. raised_row f k i a ne b))

-- the sum of what was handed up is the number of deliveries
abbrev pub IsCounted : Csp → World → Type 0
IsCounted p w = total p w.handed_up ≡ w.network.deliveries

pub counted_event : (p : Csp) (word : ℕ) (w : World) → Facts p w → IsCounted p w → IsCounted p (event p word w)
counted_event p word w h c = elim (moves p word w h) [
  | inl n ↦ ap (total p) n.handed_up ∙ c ∙ sym (ap (λ (a : Network). a.deliveries) n.network)
  | inr d ↦ let t = total_raised p w.handed_up d.up.k d.up.i d.data_is.sender d.data_is.receiver in let e = d.counted in let g : total p (event p word w).handed_up ≡ total p (raised w.handed_up d.up.k d.up.i) = ap (total p) d.up.handed_up in let x : total p w.handed_up ≡ w.network.deliveries = c in omega arith
]

pub counted_after : (p : Csp) (words : List ℕ) (w : World) → Facts p w → IsCounted p w → IsCounted p (after p words w)
counted_after p [] w h c = c
counted_after p (word ∷ words) w h c = elim w.network.refuted as (λ b. IsCounted p (cond b w (after p words (event p word w)))) [
  | true ↦ c
  | false ↦ counted_after p words (event p word w) (facts_event p word w h) (counted_event p word w h c)
]

none_at_start : (p : Csp) (o : Option (ℕ × Constraint)) → (start_by p o).deliveries ≡ 0
none_at_start p None = no_deliveries p (count p)
none_at_start p (Some x) = refl

pub no_start : (p : Csp) → (start p).deliveries ≡ 0
no_start p = none_at_start p (find (λ (x : ℕ × Constraint). is_false x.1) (enumerate_from 0 p.constraints))

pub counted_begin : (p : Csp) → IsCounted p (begin p)
counted_begin p = sum-zero _ (count p) (λ k l. sum-zero _ (count p) (λ i u. refl)) ∙ sym (no_start p)

-- one number for each delivery
pub numbered_after : (p : Csp) (words : List ℕ) (w : World) → Facts p w → length (numbers p words w) + w.network.deliveries ≡ (after p words w).network.deliveries
numbered_after p [] w h = omega arith
numbered_after p (word ∷ words) w h =
    let ns = numbers p words (event p word w) in
    let ih = numbered_after p words (event p word w) (facts_event p word w h) in
    elim w.network.refuted as (λ b. length (cond b [] (option_to_list (delivered p word w) ++ ns)) + w.network.deliveries ≡ (cond b w (after p words (event p word w))).network.deliveries) [
      | true ↦ omega arith
      | false ↦ elim (moves p word w h) [
        | inl n ↦
            let e : length (option_to_list (delivered p word w) ++ ns) ≡ length ns = ap (λ (o : Option (ℕ × ℕ)). length (option_to_list (number_of p (reliable w) o) ++ ns)) n.pair_none in
            let g : (event p word w).network.deliveries ≡ w.network.deliveries = ap (λ (a : Network). a.deliveries) n.network in
            omega arith
        | inr d ↦
            let e : length (option_to_list (delivered p word w) ++ ns) ≡ suc (length ns) = ap (λ (o : Option ℕ). length (option_to_list o ++ ns)) d.number in
            let g = d.counted in
            omega arith
      ]
    ]

pub handed_up_bounded : (p : Csp) → HandedUpBounded p
handed_up_bounded p ok words =
    let w = after p words (begin p) in
    let cs = numbers p words (begin p) in
    let e : w.network.deliveries ≡ (run p cs (start p)).deliveries = ap (λ (n : Network). n.deliveries) (is_run p words) in
    record {
      counted = counted_after p words (begin p) (facts_begin p) (counted_begin p);
      numbered = let a = numbered_after p words (begin p) (facts_begin p) in let z = no_start p in omega arith;
      bound = let b = bounded p ok cs in omega arith;
    }
