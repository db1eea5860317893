-- One event more, and the whole run under the numbers of what was handed up.
use Rattle.std.proofs.Common.{◌≡◌, ℕ, suc, ◌-◌, ◌%◌, ◌<◌, ◌≤◌, Bool, true, false, cond, not, inl, inr, List, [], ◌∷◌, ◌++◌, length, append_assoc, append-nil, Option, Some, None, option_to_list, unwrap_or, ◌==◌, refl, sym, ap, ◌∙◌, subst, arith}
use Rattle.std.proofs.Math.Nat.{mod-eq_of_lt}
use Rattle.std.proofs.lemmas.Bool.Decides.{nat_tests}
use Rattle.dcsp_defs.specs.Words.{In, below}
use Rattle.dcsp_defs.specs.Csp.{Csp, count}
use Rattle.dcsp_defs.proofs.Lists.{In-below, filter-from}
use Rattle.law_agent.proofs.Runs.{In-pairs}
use Rattle.abt_defs.specs.Agents.{Message}
use Rattle.abt_defs.specs.Network.{Network, pairs, ready, deliver, is_empty, IsQuiet}
use Rattle.abt_defs.specs.Runs.{End, Refuted, Solved, Capped, Spent, Run, stop, stopped, go}
use Rattle.law_runs.proofs.Again.{stop_none}
use Rattle.law_runs.specs.Worlds.{World, begin, reliable, event, after}
use Rattle.law_runs.specs.Deliveries.{pair_of_event, number_of, delivered, numbers}
use Rattle.law_runs.specs.LossyEnds.{is_quiet}
use Rattle.law_runs.specs.WorldFacts.{Facts}
use Rattle.law_runs.specs.LossyRuns.{OneMoreEvent, IsWhole}
use Rattle.law_runs.proofs.WorldFacts.{facts_event, facts_after, facts_begin}
use Rattle.law_runs.proofs.Events.{moves, same_reliable}
use Rattle.law_runs.proofs.WorldRuns.{network_quiet, quiet_network, numbered_after, no_start}
use Rattle.law_runs.proofs.CalmEvents.{quiet_if_none}

-- ---- one event more

after_more : (p : Csp) (words : List ℕ) (word : ℕ) (w : World) → after p (words ++ word ∷ []) w ≡ cond (after p words w).network.refuted (after p words w) (event p word (after p words w))
after_more p [] word w = refl
after_more p (x ∷ xs) word w =
    (elim w.network.refuted as (λ b. w.network.refuted ≡ b → cond b w (after p (xs ++ word ∷ []) (event p x w)) ≡ (let end = cond b w (after p xs (event p x w)) in cond end.network.refuted end (event p word end))) [
      | true ↦ λ e. sym (ap (λ b. cond b w (event p word w)) e)
      | false ↦ λ e. after_more p xs word (event p x w)
    ]) refl

numbers_more : (p : Csp) (words : List ℕ) (word : ℕ) (w : World) → (after p words w).network.refuted ≡ false → numbers p (words ++ word ∷ []) w ≡ numbers p words w ++ option_to_list (delivered p word (after p words w))
numbers_more p [] word w f = ap (λ b. cond b [] (option_to_list (delivered p word w) ++ [])) f ∙ append-nil (option_to_list (delivered p word w))
numbers_more p (x ∷ xs) word w f =
    (elim w.network.refuted as (λ b. w.network.refuted ≡ b → (cond b w (after p xs (event p x w))).network.refuted ≡ false → cond b [] (option_to_list (delivered p x w) ++ numbers p (xs ++ word ∷ []) (event p x w)) ≡ cond b [] (option_to_list (delivered p x w) ++ numbers p xs (event p x w)) ++ option_to_list (delivered p word (cond b w (after p xs (event p x w))))) [
      | true ↦ λ e g. let z : true ≡ false = sym e ∙ g in cc
      | false ↦ λ e g. ap (λ l. option_to_list (delivered p x w) ++ l) (numbers_more p xs word (event p x w) g) ∙ sym (append_assoc (option_to_list (delivered p x w)) _ _)
    ]) refl f

pub one_more_event : (p : Csp) → OneMoreEvent p
one_more_event p words word f =
    let w = after p words (begin p) in
    record {
      next = after_more p words word (begin p) ∙ ap (λ b. cond b w (event p word w)) f;
      numbers = numbers_more p words word (begin p) f;
      moves = elim (moves p word w (facts_after p words (begin p) (facts_begin p))) [
        | inl n ↦ inl (ap (number_of p (reliable w)) n.pair_none, same_reliable w (pair_of_event word w) (event p word w) n)
        | inr d ↦ inr (d.choice, d.number, d.small, d.next)
      ];
    }

-- ---- the whole run

pub quiet_same : (p : Csp) (w : World) → Facts p w → is_empty (ready p (reliable w)) ≡ is_quiet p w
quiet_same p w h = by_tests (is_empty (ready p (reliable w))) (is_quiet p w) refl refl
  where
    none_ready : (xs : List (ℕ × ℕ)) → ready p (reliable w) ≡ xs → IsQuiet p (reliable w) → is_empty xs ≡ true
    none_ready [] e q = refl
    none_ready (x ∷ xs) e q =
        let r = filter-from (λ (x : ℕ × ℕ). not (is_empty ((reliable w).links x.0 x.1))) x (pairs (count p)) (subst (In x) (sym e) (inl refl)) in
        let u = In-pairs (count p) x (below (count p)) r.0 in
        let z : (reliable w).links x.0 x.1 ≡ [] = q x.0 x.1 (In-below (count p) x.0 u.1) (In-below (count p) x.1 u.0) in
        let y : false ≡ true = sym (ap (λ (l : List Message). not (is_empty l)) z) ∙ r.1 in
        cc

    by_tests : (a b : Bool) → is_empty (ready p (reliable w)) ≡ a → is_quiet p w ≡ b → a ≡ b
    by_tests true true e f = refl
    by_tests false false e f = refl
    by_tests true false e f = sym (network_quiet p w h (quiet_if_none p (reliable w) e)) ∙ f
    by_tests false true e f = sym e ∙ none_ready (ready p (reliable w)) refl (quiet_network p w f)

-- the end where this many deliveries may still come
abbrev ends_with : Csp → ℕ → World → End
ends_with p most w = cond w.network.refuted Refuted (cond (is_quiet p w) Solved (cond (most == 0) Capped Spent))

stop_end : (p : Csp) (most : ℕ) (w : World) → Facts p w → unwrap_or (stop p most (reliable w)) Spent ≡ ends_with p most w
stop_end p most w h = rw (quiet_same p w h) (by_tests w.network.refuted (is_quiet p w) (most == 0))
  where
    by_tests : (a b c : Bool) → unwrap_or (cond a (Some Refuted) (cond b (Some Solved) (cond c (Some Capped) None))) Spent ≡ cond a Refuted (cond b Solved (cond c Capped Spent))
    by_tests true b c = refl
    by_tests false true c = refl
    by_tests false false true = refl
    by_tests false false false = refl

record Same (p : Csp) (most : ℕ) (ns : List ℕ) (w : World) (r : Run) : Type 0 where
  net : r.net ≡ reliable w
  numbers : r.numbers ≡ ns
  left : r.left ≡ []
  end : r.end ≡ ends_with p (most - length ns) w

none_more : (p : Csp) (most : ℕ) (w : World) → Facts p w → Same p most [] w (stopped p most [] (reliable w))
none_more p most w h = record { net = refl; numbers = refl; left = refl; end = let e : most - 0 ≡ most = omega arith in stop_end p most w h ∙ ap (λ n. ends_with p n w) (sym e) }

whole_from : (p : Csp) (words : List ℕ) (most : ℕ) (w : World) → Facts p w → length (numbers p words w) ≤ most → Same p most (numbers p words w) (after p words w) (go p most (numbers p words w) (reliable w))
whole_from p [] most w h l = none_more p most w h
whole_from p (word ∷ words) most w h l =
    let v = event p word w in
    let ns = numbers p words v in
    (elim w.network.refuted as (λ b. w.network.refuted ≡ b → length (cond b [] (option_to_list (delivered p word w) ++ ns)) ≤ most → Same p most (cond b [] (option_to_list (delivered p word w) ++ ns)) (cond b w (after p words v)) (go p most (cond b [] (option_to_list (delivered p word w) ++ ns)) (reliable w))) [
      | true ↦ λ e g. none_more p most w h
      | false ↦ λ e g. elim (moves p word w h) [
        | inl n ↦
            let o : option_to_list (delivered p word w) ++ ns ≡ ns = ap (λ (x : Option (ℕ × ℕ)). option_to_list (number_of p (reliable w) x) ++ ns) n.pair_none in
            let s : reliable v ≡ reliable w = same_reliable w (pair_of_event word w) v n in
            let m : length (option_to_list (delivered p word w) ++ ns) ≡ length ns = ap length o in
            let ih = whole_from p words most v (facts_event p word w h) (omega arith) in
            subst (λ (l : List ℕ). Same p most l (after p words v) (go p most l (reliable w))) (sym o) (subst (λ (x : Network). Same p most ns (after p words v) (go p most ns x)) s ih)
        | inr d ↦
            let c = d.choice in
            let o : option_to_list (delivered p word w) ++ ns ≡ c ∷ ns = ap (λ (x : Option ℕ). option_to_list x ++ ns) d.number in
            let m : length (option_to_list (delivered p word w) ++ ns) ≡ suc (length ns) = ap length o in
            let ih = whole_from p words (most - 1) v (facts_event p word w h) (omega arith) in
            let small : c % length (ready p (reliable w)) ≡ c = mod-eq_of_lt d.small in
            let goes : stop p most (reliable w) ≡ None = stop_none p most (reliable w) (record { alive = e; transit = some_ready (ready p (reliable w)) c d.small; left = λ z. absurd (omega arith) }) in
            let q : Same p (most - 1) ns (after p words v) (go p (most - 1) ns (deliver p c (reliable w))) = subst (λ (x : Network). Same p (most - 1) ns (after p words v) (go p (most - 1) ns x)) d.next ih in
            subst (λ (l : List ℕ). Same p most l (after p words v) (go p most l (reliable w))) (sym o) (rw goes (record {
              net = q.net;
              numbers = ap (λ k. k ∷ (go p (most - 1) ns (deliver p c (reliable w))).numbers) small ∙ ap (λ (l : List ℕ). c ∷ l) q.numbers;
              left = q.left;
              end = q.end ∙ ap (λ k. ends_with p k (after p words v)) (let t : most - 1 - length ns ≡ most - suc (length ns) = omega arith in t);
            }))
      ]
    ]) refl l
  where
    some_ready : {X : Type 0} → (xs : List X) (n : ℕ) → n < length xs → is_empty xs ≡ false
    some_ready [] n u = absurd (omega arith)
    some_ready (x ∷ xs) n u = refl

pub is_whole : (p : Csp) → IsWhole p
is_whole p words most l =
    let w = after p words (begin p) in
    let ns = numbers p words (begin p) in
    let s = whole_from p words most (begin p) (facts_begin p) l in
    let d = numbered_after p words (begin p) (facts_begin p) in
    let z = no_start p in
    record {
      net = s.net;
      numbers = s.numbers;
      left = s.left;
      end = s.end ∙ ap (λ b. cond w.network.refuted Refuted (cond (is_quiet p w) Solved (cond b Capped Spent))) (same_test (length ns) w.network.deliveries most l (omega arith));
    }
  where
    same_test : (n d most : ℕ) → n ≤ most → n ≡ d → (most - n == 0) ≡ (d == most)
    same_test n d most l e = grind (arith, nat_tests)
