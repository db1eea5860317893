-- One delivery more.
use Rattle.std.proofs.Common.{◌≡◌, ℕ, true, false, cond, List, [], ◌∷◌, ◌++◌, max, refl, sym, ap, ◌∙◌, arith, append_assoc, append-nil}
use Rattle.std.specs.List.{list_any}
use Rattle.dcsp_defs.specs.declared.nogood.Pair.{Pair}
use Rattle.dcsp_defs.specs.Csp.{Csp}
use Rattle.abt_defs.specs.Network.{Network, deliver, run}
use Rattle.abt_defs.specs.Events.{Act, choice_acts, later_acts}
use Rattle.abt_defs.specs.Clocks.{Clocks, Event, tick, ticks}
use Rattle.abt_defs.specs.Measures.{greatest_by, in_transit, most_in_transit, recorded_in, most_recorded, is_pair, once}

pub run-more : (p : Csp) (cs : List ℕ) (c : ℕ) (net : Network) → (run p cs net).refuted ≡ false → run p (cs ++ c ∷ []) net ≡ deliver p c (run p cs net)
run-more p [] c net h = ap (λ b. cond b net (deliver p c net)) h
run-more p (d ∷ ds) c net h = (elim net.refuted as (λ b. net.refuted ≡ b → (cond b net (run p ds (deliver p d net))).refuted ≡ false → cond b net (run p (ds ++ c ∷ []) (deliver p d net)) ≡ deliver p c (cond b net (run p ds (deliver p d net)))) [
  | true ↦ λ e g. cc
  | false ↦ λ e g. run-more p ds c (deliver p d net) g
]) refl h

pub later-more : (p : Csp) (cs : List ℕ) (c : ℕ) (net : Network) → (run p cs net).refuted ≡ false → later_acts p (cs ++ c ∷ []) net ≡ later_acts p cs net ++ choice_acts p c (run p cs net)
later-more p [] c net h = ap (λ b. cond b [] (choice_acts p c net ++ [])) h ∙ append-nil (choice_acts p c net)
later-more p (d ∷ ds) c net h = (elim net.refuted as (λ b. net.refuted ≡ b → (cond b net (run p ds (deliver p d net))).refuted ≡ false
    → cond b [] (choice_acts p d net ++ later_acts p (ds ++ c ∷ []) (deliver p d net)) ≡ cond b [] (choice_acts p d net ++ later_acts p ds (deliver p d net)) ++ choice_acts p c (cond b net (run p ds (deliver p d net)))) [
      | true ↦ λ e g. cc
      | false ↦ λ e g. ap (λ l. choice_acts p d net ++ l) (later-more p ds c (deliver p d net) g) ∙ sym (append_assoc (choice_acts p d net) (later_acts p ds (deliver p d net)) (choice_acts p c (run p ds (deliver p d net))))
    ]) refl h

pub recorded-more : (p : Csp) (cs : List ℕ) (c : ℕ) (net : Network) → (run p cs net).refuted ≡ false → most_recorded p (cs ++ c ∷ []) net ≡ max (most_recorded p cs net) (recorded_in p (deliver p c (run p cs net)))
recorded-more p [] c net h = ap (λ b. cond b (recorded_in p net) (max (recorded_in p net) (recorded_in p (deliver p c net)))) h
recorded-more p (d ∷ ds) c net h = (elim net.refuted as (λ b. net.refuted ≡ b → (cond b net (run p ds (deliver p d net))).refuted ≡ false
    → cond b (recorded_in p net) (max (recorded_in p net) (most_recorded p (ds ++ c ∷ []) (deliver p d net))) ≡ max (cond b (recorded_in p net) (max (recorded_in p net) (most_recorded p ds (deliver p d net)))) (recorded_in p (deliver p c (cond b net (run p ds (deliver p d net)))))) [
      | true ↦ λ e g. cc
      | false ↦ λ e g. ap (max (recorded_in p net)) (recorded-more p ds c (deliver p d net) g) ∙ (let r = recorded_in p net in let m = most_recorded p ds (deliver p d net) in let l = recorded_in p (deliver p c (run p ds (deliver p d net))) in omega arith)
    ]) refl h

pub transit-more : (first later : List Act) (a : Act) → most_in_transit first (later ++ a ∷ []) ≡ max (most_in_transit first later) (in_transit ((first ++ later) ++ a ∷ []))
transit-more first [] a = ap (λ l. max (in_transit first) (in_transit (l ++ a ∷ []))) (sym (append-nil first))
transit-more first (x ∷ xs) a =
    let h = transit-more (first ++ x ∷ []) xs a in
    let e : in_transit (((first ++ x ∷ []) ++ xs) ++ a ∷ []) ≡ in_transit ((first ++ x ∷ xs) ++ a ∷ []) = ap (λ l. in_transit (l ++ a ∷ [])) (append_assoc first (x ∷ []) xs) in
    let t = in_transit first in
    let m = most_in_transit (first ++ x ∷ []) xs in
    omega arith

pub ticks-more : (latency : ℕ) (es : List Event) (e : Event) (c : Clocks) → ticks latency (es ++ e ∷ []) c ≡ tick latency e (ticks latency es c)
ticks-more latency [] e c = refl
ticks-more latency (x ∷ xs) e c = ticks-more latency xs e (tick latency x c)

pub ticks-append : (latency : ℕ) (es fs : List Event) (c : Clocks) → ticks latency (es ++ fs) c ≡ ticks latency fs (ticks latency es c)
ticks-append latency [] fs c = refl
ticks-append latency (x ∷ xs) fs c = ticks-append latency xs fs (tick latency x c)

pub once-append : (known xs ys : List Pair) → once known (xs ++ ys) ≡ once (once known xs) ys
once-append known [] ys = refl
once-append known (x ∷ xs) ys = once-append (cond (list_any (is_pair x) known) known (known ++ x ∷ [])) xs ys

pub greatest-more : {X : Type 0} → (f : X → ℕ) (xs : List X) (x : X) → greatest_by f (xs ++ x ∷ []) ≡ max (greatest_by f xs) (f x)
greatest-more f [] x = omega arith
greatest-more f (y ∷ ys) x = let h = greatest-more f ys x in omega arith
