-- The counts after the start and after each delivery, and the bound.
use Rattle.std.proofs.Common.{◌≡◌, ◌≢◌, ℕ, zero, suc, ◌+◌, ◌<◌, ◌≤◌, Bool, true, false, cond, inl, inr, List, [], ◌∷◌, ◌++◌, find, ◌==◌, Option, Some, None, refl, sym, ap, ◌∙◌, subst, arith, length, slice_get, ◌%◌}
use Rattle.std.proofs.lemmas.Bool.Decides.{eqb_tells}
use Rattle.std.specs.List.{enumerate_from}
use Rattle.dcsp_defs.specs.Words.{In, below, sum_below}
use Rattle.dcsp_defs.specs.Csp.{Csp, Constraint, count, IsCsp}
use Rattle.abt_defs.specs.Agents.{Agent, Message, Tell, Refuse, AddLink, View, fresh}
use Rattle.abt_defs.specs.Steps.{Outcome, settle, receive}
use Rattle.abt_defs.specs.Network.{Network, sent_to, acted, left, next_number, deliver_head, deliver_at, deliver, ready, run, start, empty_network, settle_below, is_false, start_by, pairs}
use Rattle.abt_defs.specs.Bound.{message_bound}
use Rattle.dcsp_defs.proofs.Lists.{In-below, get-In, filter-from}
use Rattle.law_agent.proofs.Facts.{IsDated, Kept}
use Rattle.law_agent.proofs.Receives.{Done, only, receives}
use Rattle.law_agent.proofs.Runs.{moved, expected, delivered, settled, settled_below, In-pairs, split_at}
use Rattle.law_runs.specs.Bounded.{Bounded}
use Rattle.law_runs.proofs.Sums.{sum-zero, sum-at}
use Rattle.law_runs.proofs.Counts.{Counted, Costs, counted_after, stamps, stamp_in}
use Rattle.law_runs.proofs.BoundActs.{settle_costs}
use Rattle.law_runs.proofs.Messages.{IsPositive, idle_costs, receive_costs}
use Rattle.law_runs.proofs.Total.{within}

-- Agent i acts in the network, from whose lists came was taken.
module _ (p : Csp) (s r i : ℕ) (net : Network) (h : Kept p s net) (links : ℕ → ℕ → List Message) (d : ℕ) (o : Outcome) (came : ℕ → List Message)
    (before : (k j : ℕ) → net.links k j ≡ cond (j == i) (came k) [] ++ links k j)
    (done : Done p i (net.agents i) o.agent came (λ j. sent_to j o.sent))
    (others : (j : ℕ) → j < r → j ≢ i → j < s)
    (in_range : i < r)
    (counted : Counted p net)
    (costs : Costs p i (net.agents i) o.agent (λ j. sent_to j o.sent))
    (counts : d ≡ net.deliveries + sum_below (λ k. sum_below (λ j. length (cond (j == i) (came k) [])) (count p)) (count p)) where
  costs_at : (j : ℕ) → Costs p j (net.agents j) ((acted i o (record net { links = links; deliveries = d })).agents j) (λ k. cond (j == i) (sent_to k o.sent) [])
  costs_at j = elim (eqb_tells j i) [
    | inl t ↦ rw t.0 (subst (λ (x : ℕ). Costs p x (net.agents x) o.agent (λ k. sent_to k o.sent)) (sym t.1) costs)
    | inr t ↦ rw t.0 (idle_costs p j (net.agents j))
  ]

  pub counted_moved : Counted p (acted i o (record net { links = links; deliveries = d }))
  unfolding moved
  counted_moved = counted_after p r net _ (moved p s r i net h links d o came before done others in_range) counted h.sound costs_at counts

positive : (net : Network) (k : ℕ) (m : Message) → IsDated net k m → IsPositive m
positive net k (Tell s) d = d.positive
positive net k (Refuse step pairs) d = λ y u. (d y u).positive
positive net k AddLink d = tt

-- one message is taken
one_taken : (n k i : ℕ) (m : Message) → k < n → i < n → sum_below (λ x. sum_below (λ j. length (cond (j == i) (only k m x) [])) n) n ≡ 1
one_taken n k i m lk li =
    sum-at (λ x. sum_below (λ j. length (cond (j == i) (only k m x) [])) n) k n lk (λ x ne. sum-zero _ n (λ j u. elim (eqb_tells x k) [
      | inl t ↦ absurd (ne t.1)
      | inr t ↦ rw t.0 (elim (j == i) as (λ b. length {A = Message} (cond b [] []) ≡ 0) [ true ↦ refl | false ↦ refl ])
    ]))
    ∙ sum-at (λ j. length (cond (j == i) (only k m k) [])) i n li (λ j ne. elim (eqb_tells j i) [ inl t ↦ absurd (ne t.1) | inr t ↦ rw t.0 refl ])
    ∙ (elim (eqb_tells i i) [
      | inl t ↦ elim (eqb_tells k k) [ inl u ↦ rw (t.0, u.0) refl | inr u ↦ absurd (u.1 refl) ]
      | inr t ↦ absurd (t.1 refl)
    ])

-- no message is taken
none_taken : (n i : ℕ) → sum_below (λ x. sum_below (λ j. length {A = Message} (cond (j == i) [] [])) n) n ≡ 0
none_taken n i = sum-zero _ n (λ k l. sum-zero _ n (λ j u. elim (j == i) as (λ b. length {A = Message} (cond b [] []) ≡ 0) [ true ↦ refl | false ↦ refl ]))

-- what holds of each network that a run reaches
pub record Goes (p : Csp) (net : Network) : Type 0 where
  pub kept : net.refuted ≡ false → Kept p (count p) net
  pub counted : net.refuted ≡ false → Counted p net
  pub small : net.deliveries ≤ message_bound p

goes_head : (p : Csp) (net : Network) (k i : ℕ) (ms : List Message) → k < count p → i < count p → net.refuted ≡ false → Goes p net → net.links k i ≡ ms → Goes p (deliver_head p k i ms net)
goes_head p net k i [] lk li f g e = g
goes_head p net k i (m ∷ rest) lk li f g e =
    let h = g.kept f in
    let c = g.counted f in
    record {
      kept = λ r. delivered p net k i (m ∷ rest) li h e (inl r);
      counted = λ r.
          let fine = h.fine k i m (subst (In m) (sym e) (inl refl)) in
          let new = expected p (count p) net k i m rest (h.sound i) li h e in
          let dated = h.dated k i m (subst (In m) (sym e) (inl refl)) in
          counted_moved p (count p) (count p) i net h (left k i rest net).links (left k i rest net).deliveries (receive p i (next_number net) (net.agents i) k m) (only k m)
          (split_at net k i m rest e)
          (receives p i (net.agents i) (h.sound i) li k (next_number net) m fine new (h.chosen i li) r)
          (λ j x y. x) li c
          (receive_costs p i (net.agents i) (h.sound i) li k (next_number net) m fine new (positive net k m dated) r)
          (let o = one_taken (count p) k i m lk li in omega arith);
      small = let w = within p (count p) net h c k i lk li in let l : length (net.links k i) ≡ suc (length rest) = ap length e in omega arith;
    }

goes_at : (p : Csp) (net : Network) (o : Option (ℕ × ℕ)) → ((x : ℕ × ℕ) → o ≡ Some x → (x.0 < count p) × (x.1 < count p)) → net.refuted ≡ false → Goes p net → Goes p (deliver_at p o net)
goes_at p net None l f g = g
goes_at p net (Some x) l f g = let b = l x refl in goes_head p net x.0 x.1 (net.links x.0 x.1) b.0 b.1 f g refl

goes_on : (p : Csp) (c : ℕ) (net : Network) → net.refuted ≡ false → Goes p net → Goes p (deliver p c net)
goes_on p c net f g = goes_at p net (slice_get (ready p net) (c % length (ready p net))) inside f g
  where
    inside : (x : ℕ × ℕ) → slice_get (ready p net) (c % length (ready p net)) ≡ Some x → (x.0 < count p) × (x.1 < count p)
    inside x e = let q = In-pairs (count p) x (below (count p)) (filter-from _ x (pairs (count p)) (get-In (ready p net) _ x e)).0 in (In-below (count p) x.0 q.1, In-below (count p) x.1 q.0)

pub goes_run : (p : Csp) (cs : List ℕ) (net : Network) → Goes p net → Goes p (run p cs net)
goes_run p [] net g = g
goes_run p (c ∷ cs) net g = (elim net.refuted as (λ b. net.refuted ≡ b → Goes p (cond b net (run p cs (deliver p c net)))) [
  | true ↦ λ e. g
  | false ↦ λ e. goes_run p cs (deliver p c net) (goes_on p c net e g)
]) refl

-- ---- the start

untouched : (p : Csp) (n j : ℕ) → n ≤ j → (settle_below p n (empty_network p)).agents j ≡ fresh p j
untouched p zero j l = refl
untouched p (suc i) j l =
    let net = settle_below p i (empty_network p) in
    elim net.refuted as (λ b. (cond b net (acted i (settle p i (next_number net) (net.agents i)) net)).agents j ≡ fresh p j) [
      | true ↦ untouched p i j (omega arith)
      | false ↦ elim (eqb_tells j i) [
        | inl t ↦ let e : j ≡ i = t.1 in absurd (omega arith)
        | inr t ↦ rw t.0 (untouched p i j (omega arith))
      ]
    ]

pub no_deliveries : (p : Csp) (n : ℕ) → (settle_below p n (empty_network p)).deliveries ≡ 0
no_deliveries p zero = refl
no_deliveries p (suc i) =
    let net = settle_below p i (empty_network p) in
    elim net.refuted as (λ b. (cond b net (acted i (settle p i (next_number net) (net.agents i)) net)).deliveries ≡ 0) [ true ↦ no_deliveries p i | false ↦ no_deliveries p i ]

counted_fresh : (p : Csp) → Counted p (empty_network p)
counted_fresh p = record {
  changes = λ i. 0;
  told = λ k j. 0;
  refused = λ k j. 0;
  done = λ k j. 0;
  flow = λ k j. refl;
  changed = λ i. omega arith;
  fewer = λ k j. omega arith;
  untold = λ k j f. refl;
  refusals = λ i. let z = sum-zero (λ j. 0) (count p) (λ k l. refl) in omega arith;
  rests = λ i f. let z = sum-zero (λ j. 0) (count p) (λ k l. refl) in omega arith;
  takes = λ i. omega arith;
  blank = λ i e k. refl;
  total = sym (sum-zero (λ k. sum_below (λ j. 0) (count p)) (count p) (λ k l. sum-zero (λ j. 0) (count p) (λ j u. refl)));
}

counted_below : (p : Csp) → IsCsp p → (n : ℕ) → n ≤ count p → (settle_below p n (empty_network p)).refuted ≡ false → Counted p (settle_below p n (empty_network p))
counted_below p ok zero l f = counted_fresh p
counted_below p ok (suc i) l f =
    let net = settle_below p i (empty_network p) in
    (elim net.refuted as (λ b. net.refuted ≡ b → (cond b net (acted i (settle p i (next_number net) (net.agents i)) net)).refuted ≡ false → Counted p (cond b net (acted i (settle p i (next_number net) (net.agents i)) net))) [
      | true ↦ λ e g. let z : true ≡ false = sym e ∙ g in cc
      | false ↦ λ e g.
          let h = settled_below p ok i (omega arith) e in
          let c = counted_below p ok i (omega arith) e in
          let q = settle_costs p i (next_number net) (net.agents i) (h.sound i) g in
          let idle_before : (net.agents i).waits ≡ false = ap (λ (a : Agent). a.waits) (untouched p i i (omega arith)) in
          counted_moved p i (suc i) i net h net.links net.deliveries (settle p i (next_number net) (net.agents i)) (λ k. [])
          (λ k j. elim (j == i) as (λ b. net.links k j ≡ cond b [] [] ++ net.links k j) [ true ↦ refl | false ↦ refl ])
          (settled p i (omega arith) (net.agents i) (h.sound i) (next_number net) g)
          (λ j x y. omega arith) (omega arith) c
          (record {
            took = q.took;
            changed = false;
            stamp = q.stamp;
            same = λ f k. ap (λ (v : View). v k) q.view;
            rises = let e : stamps i (settle p i (next_number net) (net.agents i)).agent ≡ stamps i (net.agents i) = ap (λ (v : View). sum_below (λ k. stamp_in (v k)) i) q.view in omega arith;
            tells_more = λ j. inl (q.tells_more j);
            tells_none = λ j f. q.tells_none j (sym (ap (λ (z : ℕ → Bool). z j) q.tells) ∙ f);
            refusals = elim q.refusals [ inl z ↦ inl z | inr o ↦ inr (record { once = o.once; waits = o.waits; fresh = inr idle_before; about = o.about; value = o.value; seen = o.seen }) ];
            rests = λ f g. idle_before;
            marks = λ f. q.marks idle_before;
            marks_one = q.marks_one;
          })
          (let z = none_taken (count p) i in omega arith)
    ]) refl f

goes_start_by : (p : Csp) → IsCsp p → (o : Option (ℕ × Constraint)) → Goes p (start_by p o)
goes_start_by p ok None = record {
  kept = λ f. settled_below p ok (count p) (omega arith) f;
  counted = λ f. counted_below p ok (count p) (omega arith) f;
  small = let z = no_deliveries p (count p) in omega arith;
}
goes_start_by p ok (Some x) = record { kept = λ f. cc; counted = λ f. cc; small = omega arith }

pub goes_start : (p : Csp) → IsCsp p → Goes p (start p)
goes_start p ok = goes_start_by p ok (find (λ (x : ℕ × Constraint). is_false x.1) (enumerate_from 0 p.constraints))

pub bounded : (p : Csp) → Bounded p
bounded p ok cs = (goes_run p cs (start p) (goes_start p ok)).small
