-- A whole run by its deliveries.
use Rattle.std.proofs.Common.{◌≡◌, ◌≢◌, ◌↔◌, ◌≤◌, ◌+◌, ℕ, zero, suc, ◌-◌, ◌<◌, ◌%◌, Bool, true, false, cond, List, [], ◌∷◌, take, drop, length, Option, Some, None, is_some, unwrap_or, slice_get, ◌==◌, refl, sym, ap, ◌∙◌, subst, arith, find}
use Rattle.std.specs.List.{enumerate_from}
use Rattle.std.proofs.lemmas.Bool.Decides.{nat_tests}
use Rattle.dcsp_defs.specs.Csp.{Csp, Constraint, count}
use Rattle.abt_defs.specs.Network.{Network, ready, deliver, run, start, start_by, is_empty, is_false}
use Rattle.abt_defs.specs.Runs.{Delivery, End, Refuted, Solved, Capped, Spent, Run, stop, stopped, go, delivery, with_delivery, whole}
use Rattle.law_runs.proofs.BoundRuns.{no_deliveries}
use Rattle.law_runs.specs.Stops.{after, IsOpen, list_number, EndsBy, Delivers, Stops, AllStop}
use Rattle.law_runs.proofs.Again.{goes}
use Rattle.law_runs.proofs.Whole.{delivers_one}

-- a list of one item
one_of : {X : Type 0} (xs : List X) → length xs ≡ 1 → (x : X) × (xs ≡ x ∷ [])
one_of [] h = absurd (omega arith)
one_of (x ∷ []) h = (x, refl)
one_of (x ∷ y ∷ ys) h = absurd (omega arith)

-- a run that is not refuted goes on by its next choice
run_on : (p : Csp) (c : ℕ) (cs : List ℕ) (net : Network) → net.refuted ≡ false → run p (c ∷ cs) net ≡ run p cs (deliver p c net)
run_on p c cs net f = ap (λ b. cond b net (run p cs (deliver p c net))) f

-- what a run does with choice k, from any network
record Makes (p : Csp) (choices : List ℕ) (net : Network) (r : Run) (k c : ℕ) : Type 0 where
  number : slice_get r.numbers k ≡ Some (list_number p c (run p (take k choices) net))
  made : Delivery
  is_made : delivery p c (run p (take k choices) net) ≡ made ∷ []
  traced : slice_get r.trace k ≡ Some made

-- the end of a run that may make so many deliveries more
record EndsIn (p : Csp) (left : ℕ) (r : Run) : Type 0 where
  refuted : (r.end ≡ Refuted) ↔ (r.net.refuted ≡ true)
  solved : (r.end ≡ Solved) ↔ ((r.net.refuted ≡ false) × (is_empty (ready p r.net) ≡ true))
  capped : (r.end ≡ Capped) ↔ (IsOpen p r.net × (left ≡ 0))
  spent : (r.end ≡ Spent) ↔ (IsOpen p r.net × ((0 < left) × (r.left ≡ [])))

-- a run from any network, by its deliveries
record Went (p : Csp) (most : ℕ) (choices : List ℕ) (net : Network) (r : Run) (made : ℕ) : Type 0 where
  last : r.net ≡ run p (take made choices) net
  left : r.left ≡ drop made choices
  at_most : made ≤ most
  chosen : made ≤ length choices
  counted : (k : ℕ) → k ≤ made → (run p (take k choices) net).deliveries ≡ net.deliveries + k
  open_before : (k : ℕ) → k < made → IsOpen p (run p (take k choices) net)
  makes : (k c : ℕ) → k < made → slice_get choices k ≡ Some c → Makes p choices net r k c
  numbers : length r.numbers ≡ made
  trace : length r.trace ≡ made
  ends : EndsIn p (most - made) r

-- no delivery is made where the run stops at once
ends_at_once : (p : Csp) (most : ℕ) (left : List ℕ) (net : Network) → (is_some (stop p most net) ≡ false → left ≡ []) → EndsIn p most (stopped p most left net)
ends_at_once p most left net none = by_test net.refuted (is_empty (ready p net)) (most == 0) refl refl refl none
  where
    by_test : (a b c : Bool) → net.refuted ≡ a → is_empty (ready p net) ≡ b → (most == 0) ≡ c
        → (is_some (cond a (Some Refuted) (cond b (Some Solved) (cond c (Some Capped) None))) ≡ false → left ≡ [])
        → EndsIn p most (record { end = unwrap_or (cond a (Some Refuted) (cond b (Some Solved) (cond c (Some Capped) None))) Spent; net = net; left = left; numbers = []; trace = [] })
    by_test true b c x y z none = record {
      refuted = (λ e. x, λ e. refl);
      solved = (λ e. cc, λ h. let f = h.0 in cc);
      capped = (λ e. cc, λ h. let f = h.0.alive in cc);
      spent = (λ e. cc, λ h. let f = h.0.alive in cc);
    }
    by_test false true c x y z none = record {
      refuted = (λ e. cc, λ h. cc);
      solved = (λ e. (x, y), λ h. refl);
      capped = (λ e. cc, λ h. let f = h.0.in_transit in cc);
      spent = (λ e. cc, λ h. let f = h.0.in_transit in cc);
    }
    by_test false false true x y z none = record {
      refuted = (λ e. cc, λ h. cc);
      solved = (λ e. cc, λ h. let f = h.1 in cc);
      capped = (λ e. (record { alive = x; in_transit = y }, grind (arith, nat_tests)), λ h. refl);
      spent = (λ e. cc, λ h. let l = h.1.0 in absurd (grind (arith, nat_tests)));
    }
    by_test false false false x y z none = record {
      refuted = (λ e. cc, λ h. cc);
      solved = (λ e. cc, λ h. let f = h.1 in cc);
      capped = (λ e. cc, λ h. let l = h.1 in absurd (grind (arith, nat_tests)));
      spent = (λ e. (record { alive = x; in_transit = y }, (grind (arith, nat_tests), none refl)), λ h. refl);
    }

no_delivery : (p : Csp) (most : ℕ) (choices : List ℕ) (net : Network) → (is_some (stop p most net) ≡ false → choices ≡ []) → Went p most choices net (stopped p most choices net) 0
no_delivery p most choices net none =
    let e : most ≡ most - 0 = omega arith in
    record {
      last = refl;
      left = refl;
      at_most = omega arith;
      chosen = omega arith;
      counted = λ k l. let z : k ≡ 0 = omega arith in rw z (omega arith);
      open_before = λ k l. absurd (omega arith);
      makes = λ k c l s. absurd (omega arith);
      numbers = refl;
      trace = refl;
      ends = subst (λ m. EndsIn p m (stopped p most choices net)) e (ends_at_once p most choices net none);
    }

-- one delivery before a run
module _ (p : Csp) (most c : ℕ) (cs : List ℕ) (net : Network) (alive : net.refuted ≡ false) (in_transit : is_empty (ready p net) ≡ false) (room : most ≢ 0) where
  next : Network
  next = deliver p c net

  on : (k : ℕ) → run p (take (suc k) (c ∷ cs)) net ≡ run p (take k cs) (deliver p c net)
  on k = run_on p c (take k cs) net alive

  module _ (r : Run) (m : ℕ) (w : Went p (most - 1) cs (deliver p c net) r m) (d : Delivery) (one : delivery p c net ≡ d ∷ []) where
    counted_more : (k : ℕ) → k ≤ suc m → (run p (take k (c ∷ cs)) net).deliveries ≡ net.deliveries + k
    counted_more zero l = omega arith
    counted_more (suc k) l =
        let e = ap (λ (n : Network). n.deliveries) (on k) in
        let f = w.counted k (omega arith) in
        let g = (delivers_one p c net in_transit).0 in
        omega (arith, e, f, g)

    open_more : (k : ℕ) → k < suc m → IsOpen p (run p (take k (c ∷ cs)) net)
    open_more zero l = record { alive = alive; in_transit = in_transit }
    open_more (suc k) l = subst (IsOpen p) (sym (on k)) (w.open_before k (omega arith))

    makes_more : (k b : ℕ) → k < suc m → slice_get (c ∷ cs) k ≡ Some b → Makes p (c ∷ cs) net (with_delivery (c % length (ready p net)) (d ∷ []) r) k b
    makes_more zero b l s =
        let same : c ≡ b = cc in
        record {
          number = ap (λ x. Some (list_number p x net)) same;
          made = d;
          is_made = ap (λ x. delivery p x net) (sym same) ∙ one;
          traced = refl;
        }
    makes_more (suc k) b l s =
        let h = w.makes k b (omega arith) s in
        record {
          number = h.number ∙ ap (λ (n : Network). Some (list_number p b n)) (sym (on k));
          made = h.made;
          is_made = ap (λ (n : Network). delivery p b n) (on k) ∙ h.is_made;
          traced = h.traced;
        }

    went_more : Went p most (c ∷ cs) net (with_delivery (c % length (ready p net)) (d ∷ []) r) (suc m)
    went_more =
        let e = w.ends in
        let fewer : most - 1 - m ≡ most - suc m = omega arith in
        record {
          last = w.last ∙ sym (on m);
          left = w.left;
          at_most = let l = w.at_most in omega (arith, l, room);
          chosen = let l = w.chosen in omega (arith, l);
          counted = counted_more;
          open_before = open_more;
          makes = makes_more;
          numbers = ap suc w.numbers;
          trace = ap suc w.trace;
          ends = record {
            refuted = e.refuted;
            solved = e.solved;
            capped = subst (λ l. (r.end ≡ Capped) ↔ (IsOpen p r.net × (l ≡ 0))) fewer e.capped;
            spent = subst (λ l. (r.end ≡ Spent) ↔ (IsOpen p r.net × ((0 < l) × (r.left ≡ [])))) fewer e.spent;
          };
        }

-- each run, from any network
went : (p : Csp) (most : ℕ) (choices : List ℕ) (net : Network) → (m : ℕ) × Went p most choices net (go p most choices net) m
went p most [] net = (0, no_delivery p most [] net (λ e. refl))
went p most (c ∷ cs) net =
    (elim (is_some (stop p most net)) as (λ b. is_some (stop p most net) ≡ b → (m : ℕ) × Went p most (c ∷ cs) net (cond b (stopped p most (c ∷ cs) net) (with_delivery (c % length (ready p net)) (delivery p c net) (go p (most - 1) cs (deliver p c net)))) m) [
      | true ↦ λ e. (0, no_delivery p most (c ∷ cs) net (λ f. cc))
      | false ↦ λ e.
          let g = goes p most net e in
          let one = one_of (delivery p c net) (delivers_one p c net g.transit).1 in
          let (m, w) = went p (most - 1) cs (deliver p c net) in (
            suc m,
            subst (λ ds. Went p most (c ∷ cs) net (with_delivery (c % length (ready p net)) ds (go p (most - 1) cs (deliver p c net))) (suc m)) (sym one.1)
                (went_more p most c cs net g.alive g.transit g.left (go p (most - 1) cs (deliver p c net)) m w one.0 one.1),
          )
    ]) refl

-- nothing was delivered at the start
start_counts : (p : Csp) → (start p).deliveries ≡ 0
start_counts p = by_rule (find (λ (x : ℕ × Constraint). is_false x.1) (enumerate_from 0 p.constraints))
  where
    by_rule : (o : Option (ℕ × Constraint)) → (start_by p o).deliveries ≡ 0
    by_rule None = no_deliveries p (count p)
    by_rule (Some x) = refl

pub stops : (p : Csp) → AllStop p
stops p most choices =
    let r = whole p most choices in
    let (m, w) = went p most choices (start p) in
    let zero_at = start_counts p in
    let same : r.net.deliveries ≡ m = let e = ap (λ (n : Network). n.deliveries) w.last in let f = w.counted m (omega arith) in omega (arith, e, f, zero_at) in
    let ends = w.ends in
    record {
      net = w.last ∙ ap (λ k. run p (take k choices) (start p)) (sym same);
      left = w.left ∙ ap (λ k. drop k choices) (sym same);
      at_most = let l = w.at_most in omega (arith, l, same);
      chosen = let l = w.chosen in omega (arith, l, same);
      counted = λ k l. let e = w.counted k (omega (arith, l, same)) in omega (arith, e, zero_at);
      open_before = λ k l. w.open_before k (omega (arith, l, same));
      delivers = λ k c l s. let h = w.makes k c (omega (arith, l, same)) s in record { number = h.number; made = h.made; is_made = h.is_made; traced = h.traced };
      numbers = w.numbers ∙ sym same;
      trace = w.trace ∙ sym same;
      ends = record {
        refuted = ends.refuted;
        solved = ends.solved;
        capped = (λ e. let h = ends.capped.0 e in let l = w.at_most in (h.0, omega (arith, h.1, l, same)), λ h. ends.capped.1 (h.0, omega (arith, h.1, same)));
        spent = (λ e. let h = ends.spent.0 e in (h.0, (omega (arith, h.1.0, same), h.1.1)), λ h. ends.spent.1 (h.0, (omega (arith, h.1.0, same), h.1.1)));
      };
    }
