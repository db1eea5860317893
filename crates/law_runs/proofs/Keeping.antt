-- What agents keep and receive, at most; and a run by its own numbers.
use Rattle.std.proofs.Common.{◌≡◌, ◌∙◌, ℕ, zero, suc, ◌+◌, ◌-◌, ◌%◌, ◌<◌, ◌≤◌, Bool, true, false, cond, inl, inr, List, [], ◌∷◌, ◌++◌, take, length, map, max, slice_get, Option, Some, None, is_some, refl, sym, ap, subst, arith, length-append}
use Rattle.std.specs.List.{flat_map}
use Rattle.std.proofs.lemmas.Bool.Decides.{eqb_tells}
use Rattle.std.proofs.lemmas.List.{map-append}
use Rattle.dcsp_defs.specs.Words.{below}
use Rattle.dcsp_defs.specs.Csp.{Csp, IsCsp, count, domain}
use Rattle.abt_defs.specs.Agents.{Agent, Message}
use Rattle.abt_defs.specs.Network.{Network, deliver, deliver_at, ready, run, start}
use Rattle.abt_defs.specs.Runs.{Run, delivery, go, stop, stopped, with_delivery}
use Rattle.abt_defs.specs.Events.{Act, acts, acts_at, choice_acts, head_acts, later_acts, start_acts}
use Rattle.abt_defs.specs.Measures.{acts_by, greatest_by, most_recorded, recorded_in}
use Rattle.law_agent.proofs.StoreRuns.{bounded_stores}
use Rattle.law_runs.proofs.Again.{goes, not_empty, remainder_again}
use Rattle.law_runs.specs.ActRuns.{gets}
use Rattle.law_runs.specs.Starts.{first_act, first_outcome, settled_in}
use Rattle.law_runs.specs.Keeping.{got_from, sent_from, DeliversSent, NumbersMeasureAlike, RecordedFew}
use Rattle.law_runs.proofs.ActsGoing.{run-more}
use Rattle.law_runs.proofs.ActsMaking.{acts_make_runs}
use Rattle.law_runs.proofs.NextActs.{next_act, after_is}
use Rattle.law_runs.proofs.Starting.{starts_in_order}

-- ---- recorded nogoods

module _ (p : Csp) where
  -- each of the acts leaves its agent with at most so many recorded nogoods
  abbrev AreFew : List Act → Type 0
  AreFew [] = Unit {0}
  AreFew (x ∷ xs) = (length x.after.recorded ≤ length (domain p x.agent)) × AreFew xs

  few_both : (xs ys : List Act) → AreFew xs → AreFew ys → AreFew (xs ++ ys)
  few_both [] ys h g = g
  few_both (x ∷ xs) ys h g = (h.0, few_both xs ys h.1 g)

  few_row : (i : ℕ) (xs : List Act) → AreFew xs → greatest_by (λ (a : Act). length a.after.recorded) (acts_by i xs) ≤ length (domain p i)
  few_row i [] h = omega arith
  few_row i (x ∷ xs) h = elim (eqb_tells x.agent i) [
    | inl t ↦ let r = few_row i xs h.1 in let l : length x.after.recorded ≤ length (domain p i) = subst (λ k. length x.after.recorded ≤ length (domain p k)) t.1 h.0 in rw t.0 (omega arith)
    | inr t ↦ rw t.0 (few_row i xs h.1)
  ]

  few_start : AreFew (start_acts p)
  few_start =
      let s = starts_in_order p in
      subst AreFew (sym s.acts) (each (settled_in (count p) (start p).steps) (λ i l. ap (λ (a : Agent). length a.recorded) (sym (s.agents i l)) ∙ ap length (s.recorded i)))
    where
      each : (n : ℕ) → ((i : ℕ) → i < n → length (first_outcome p i).agent.recorded ≡ 0) → AreFew (map (first_act p) (below n))
      each zero h = tt
      each (suc n) h =
          subst AreFew (sym (map-append (first_act p) (below n) (n ∷ []))) (few_both (map (first_act p) (below n)) (first_act p n ∷ []) (each n (λ i l. h i (omega arith)))
          ((let e = h n (omega arith) in omega arith), tt))

  module _ (ok : IsCsp p) where
    few_later : (cs pre : List ℕ) → AreFew (later_acts p cs (run p pre (start p)))
    few_later [] pre = tt
    few_later (c ∷ cs) pre = by_test (few_later cs (pre ++ c ∷ [])) (run p pre (start p)).refuted refl
      where
        net : Network
        net = run p pre (start p)

        here : net.refuted ≡ false → AreFew (choice_acts p c net)
        here alive = by_pair (slice_get (ready p net) (c % length (ready p net))) refl
          where
            by_list : (x : ℕ × ℕ) → slice_get (ready p net) (c % length (ready p net)) ≡ Some x → (ms : List Message) → net.links x.0 x.1 ≡ ms → AreFew (head_acts p x.0 x.1 ms net)
            by_list x chosen [] e = tt
            by_list x chosen (m ∷ rest) e =
                let after = after_is p net c x.0 x.1 m rest chosen e in
                let bound = (bounded_stores p ok (pre ++ c ∷ []) x.1).few in
                let there : length (next_act p net c x.0 x.1 m rest chosen e).after.recorded ≤ length (domain p x.1) = subst (λ (a : Agent). length a.recorded ≤ length (domain p x.1)) (ap (λ (n : Network). n.agents x.1) (run-more p pre c (start p) alive) ∙ after) bound in
                (there, tt)

            by_pair : (o : Option (ℕ × ℕ)) → slice_get (ready p net) (c % length (ready p net)) ≡ o → AreFew (acts_at p o net)
            by_pair None e = tt
            by_pair (Some x) e = by_list x e (net.links x.0 x.1) refl

        by_test : AreFew (later_acts p cs (run p (pre ++ c ∷ []) (start p))) → (b : Bool) → net.refuted ≡ b → AreFew (cond b [] (choice_acts p c net ++ later_acts p cs (deliver p c net)))
        by_test rest true e = tt
        by_test rest false e = few_both (choice_acts p c net) (later_acts p cs (deliver p c net)) (here e) (subst (λ n. AreFew (later_acts p cs n)) (run-more p pre c (start p) e) rest)

pub recorded_few : (p : Csp) → RecordedFew p
recorded_few p ok choices i = few_row p i (acts p choices) (few_both p (start_acts p) (later_acts p choices (start p)) (few_start p) (few_later p ok choices []))

-- ---- messages

pub delivers_sent : (p : Csp) → DeliversSent p
delivers_sent p = record {
  at_most = λ choices a b. let e = both choices a b in omega arith;
  all = λ choices a b h. let e = both choices a b in let z : length ((run p choices (start p)).links a b) ≡ 0 = ap length h in omega arith;
}
  where
    both : (choices : List ℕ) (a b : ℕ) → sent_from a b p choices ≡ got_from a b p choices + length ((run p choices (start p)).links a b)
    both choices a b = ap length ((acts_make_runs p choices).links a b) ∙ length-append (flat_map (gets a b) (acts p choices)) ((run p choices (start p)).links a b)

-- ---- a run by its own numbers

record Alike (p : Csp) (choices numbers : List ℕ) (net : Network) : Type 0 where
  later : later_acts p numbers net ≡ later_acts p choices net
  recorded : most_recorded p numbers net ≡ most_recorded p choices net

alike : (p : Csp) (most : ℕ) (cs : List ℕ) (net : Network) → Alike p (take (length (go p most cs net).numbers) cs) (go p most cs net).numbers net
alike p most [] net = record { later = refl; recorded = refl }
alike p most (c ∷ cs) net =
    (elim (is_some (stop p most net)) as (λ b. is_some (stop p most net) ≡ b → let r : Run = cond b (stopped p most (c ∷ cs) net) (with_delivery (c % length (ready p net)) (delivery p c net) (go p (most - 1) cs (deliver p c net))) in Alike p (take (length r.numbers) (c ∷ cs)) r.numbers net) [
      | true ↦ λ e. record { later = refl; recorded = refl }
      | false ↦ λ e.
          let g = goes p most net e in
          let m : (c % length (ready p net)) % length (ready p net) ≡ c % length (ready p net) = remainder_again c (length (ready p net)) (not_empty (ready p net) g.transit) in
          let d : deliver p (c % length (ready p net)) net ≡ deliver p c net = ap (λ k. deliver_at p (slice_get (ready p net) k) net) m in
          let a : choice_acts p (c % length (ready p net)) net ≡ choice_acts p c net = ap (λ k. acts_at p (slice_get (ready p net) k) net) m in
          let ns = (go p (most - 1) cs (deliver p c net)).numbers in
          let h = alike p (most - 1) cs (deliver p c net) in
          record {
            later = ap (λ l. cond net.refuted [] l) (ap (λ l. l ++ later_acts p ns (deliver p (c % length (ready p net)) net)) a ∙ ap (λ n. choice_acts p c net ++ later_acts p ns n) d ∙ ap (λ l. choice_acts p c net ++ l) h.later);
            recorded = ap (λ k. cond net.refuted (recorded_in p net) (max (recorded_in p net) k)) (ap (most_recorded p ns) d ∙ h.recorded);
          }
    ]) refl

pub numbers_measure_alike : (p : Csp) → NumbersMeasureAlike p
numbers_measure_alike p most choices =
    let h = alike p most choices (start p) in
    record {
      acts = ap (λ l. start_acts p ++ l) h.later;
      later = h.later;
      recorded = h.recorded;
    }
