-- The sizes after the start and after each delivery.
use Rattle.std.proofs.Common.{◌≡◌, ◌≢◌, ℕ, zero, suc, ◌+◌, ◌<◌, ◌≤◌, ◌%◌, true, false, cond, inl, inr, List, [], ◌∷◌, ◌++◌, find, length, length-append, slice_get, Option, Some, None, option_to_list, refl, sym, ap, ◌∙◌, subst, arith}
use Rattle.std.proofs.lemmas.Bool.Decides.{eqb_tells}
use Rattle.std.specs.List.{enumerate_from}
use Rattle.dcsp_defs.specs.Csp.{Csp, Constraint, count}
use Rattle.dcsp_defs.specs.declared.Step.{Step}
use Rattle.abt_defs.specs.Agents.{Agent, Message, fresh}
use Rattle.abt_defs.specs.Steps.{settle, receive}
use Rattle.abt_defs.specs.Network.{Network, acted, next_number, deliver_head, deliver_at, deliver, ready, run, start, start_by, empty_network, settle_below, is_false}
use Rattle.law_runs.specs.Sizes.{Sizes, SizesHold}
use Rattle.law_runs.proofs.SizeActs.{HasValue, receive_modest, Begins, fresh_begins, settle_modest}

more_steps : (steps : List Step) (o : Option Step) → length (steps ++ option_to_list o) ≤ length steps + 1
more_steps steps None = let e = length-append steps [] in omega arith
more_steps steps (Some s) = let e = length-append steps (s ∷ []) in omega arith

sizes_head : (p : Csp) (k i : ℕ) (ms : List Message) (net : Network) → net.refuted ≡ false → Sizes p net → Sizes p (deliver_head p k i ms net)
sizes_head p k i [] net f h = h
sizes_head p k i (m ∷ rest) net f h =
    let o = receive p i (next_number net) (net.agents i) k m in
    let q = receive_modest p i (next_number net) (net.agents i) k m in
    let s = more_steps net.steps o.step in
    let t = h.fewer f in
    record {
      stamps = λ j. elim (eqb_tells j i) [
        | inl u ↦ rw u.0 (let x = q.stamp in let y = h.stamps i in omega arith)
        | inr u ↦ rw u.0 (let y = h.stamps j in omega arith)
      ];
      steps = omega arith;
      fewer = λ g. omega arith;
      values = λ g j l. elim (eqb_tells j i) [
        | inl u ↦ let e = u.1 in rw u.0 (q.value (h.values f i (omega arith)))
        | inr u ↦ rw u.0 (h.values f j l)
      ];
    }

sizes_at : (p : Csp) (o : Option (ℕ × ℕ)) (net : Network) → net.refuted ≡ false → Sizes p net → Sizes p (deliver_at p o net)
sizes_at p None net f h = h
sizes_at p (Some x) net f h = sizes_head p x.0 x.1 (net.links x.0 x.1) net f h

sizes_run : (p : Csp) (cs : List ℕ) (net : Network) → Sizes p net → Sizes p (run p cs net)
sizes_run p [] net h = h
sizes_run p (c ∷ cs) net h = (elim net.refuted as (λ b. net.refuted ≡ b → Sizes p (cond b net (run p cs (deliver p c net)))) [
  | true ↦ λ e. h
  | false ↦ λ e. sizes_run p cs (deliver p c net) (sizes_at p (slice_get (ready p net) (c % length (ready p net))) net e h)
]) refl

-- during the start
pub record Begun (p : Csp) (n : ℕ) (net : Network) : Type 0 where
  pub stamps : (i : ℕ) → (net.agents i).stamp ≤ 1
  pub untouched : (i : ℕ) → n ≤ i → net.agents i ≡ fresh p i
  pub none : net.deliveries ≡ 0
  pub steps : length net.steps ≤ 1
  pub no_steps : net.refuted ≡ false → net.steps ≡ []
  pub values : net.refuted ≡ false → (i : ℕ) → i < n → HasValue (net.agents i)

begun : (p : Csp) (n : ℕ) → Begun p n (settle_below p n (empty_network p))
begun p zero = record { stamps = λ i. omega arith; untouched = λ i l. refl; none = refl; steps = omega arith; no_steps = λ f. refl; values = λ f i l. absurd (omega arith) }
begun p (suc n) =
    let net = settle_below p n (empty_network p) in
    let h = begun p n in
    (elim net.refuted as (λ b. net.refuted ≡ b → Begun p (suc n) (cond b net (acted n (settle p n (next_number net) (net.agents n)) net))) [
      | true ↦ λ e. record { stamps = h.stamps; untouched = λ i l. h.untouched i (omega arith); none = h.none; steps = h.steps; no_steps = h.no_steps; values = λ f. let t : true ≡ false = sym e ∙ f in cc }
      | false ↦ λ e.
          let o = settle p n (next_number net) (net.agents n) in
          let same : net.agents n ≡ fresh p n = h.untouched n (omega arith) in
          let b : Begins o = subst (λ (a : Agent). Begins (settle p n (next_number net) a)) (sym same) (fresh_begins p n (next_number net)) in
          let q = settle_modest p n (next_number net) (net.agents n) in
          let s : (net.agents n).stamp ≡ 0 = ap (λ (a : Agent). a.stamp) same in
          let empty = h.no_steps e in
          record {
            stamps = λ i. elim (eqb_tells i n) [
              | inl u ↦ rw u.0 (let x = q.stamp in omega arith)
              | inr u ↦ rw u.0 (h.stamps i)
            ];
            untouched = λ i l. elim (eqb_tells i n) [
              | inl u ↦ let x = u.1 in absurd (omega arith)
              | inr u ↦ rw u.0 (h.untouched i (omega arith))
            ];
            none = h.none;
            steps = let m = more_steps net.steps o.step in let z : length net.steps ≡ 0 = ap length empty in omega arith;
            no_steps = λ f. ap (λ (z : List Step). z ++ option_to_list o.step) empty ∙ ap option_to_list (b.step f);
            values = λ f i l. elim (eqb_tells i n) [
              | inl u ↦ rw u.0 (b.value f)
              | inr u ↦ let ne : i ≢ n = u.1 in rw u.0 (h.values e i (omega arith))
            ];
          }
    ]) refl

sizes_start : (p : Csp) (o : Option (ℕ × Constraint)) → Sizes p (start_by p o)
sizes_start p None =
    let b = begun p (count p) in
    record {
      stamps = λ i. let s = b.stamps i in omega arith;
      steps = let s = b.steps in omega arith;
      fewer = λ f. let e : length (settle_below p (count p) (empty_network p)).steps ≡ 0 = ap length (b.no_steps f) in omega arith;
      values = b.values;
    }
sizes_start p (Some x) = record { stamps = λ i. omega arith; steps = omega arith; fewer = λ f. cc; values = λ f. cc }

pub sizes_hold : (p : Csp) → SizesHold p
sizes_hold p ok cs = sizes_run p cs (start p) (sizes_start p (find (λ (x : ℕ × Constraint). is_false x.1) (enumerate_from 0 p.constraints)))
