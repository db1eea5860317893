-- The loop of a measured run.
use Rattle.std.proofs.Common.{◌≡◌, ◌∙◌, ℕ, ◌+◌, ◌<◌, ◌≤◌, ◌^◌, Bool, true, false, List, [], ◌∷◌, ◌++◌, take, length, slice_get, Option, Some, None, Result, Ok, Err, inl, inr, refl, sym, ap, subst, arith}
use Rattle.std.specs.Prelude.{OnOk}
use Rattle.dcsp_rule.specs.Problems.{Contents, csp_of}
use Rattle.abt_defs.specs.Network.{start}
use Rattle.law_runs.specs.Stops.{Stops}
use Rattle.law_runs.proofs.Stopping.{stops}
use Rattle.abt_network.specs.declared.Standing.TheVariants as standing
use Rattle.abt_network.specs.Standing.{NetworkState, StandsAt, standing_of}
use Rattle.abt_session.specs.Answers.{first_answers}
use Rattle.abt_session.specs.Sessions.{Session, network_after, run_of}
use Rattle.abt_session.specs.Running.{nothing_told, session_of}
use Rattle.abt_session.proofs.Places.{answers_at, at_place, past_end}
use Rattle.abt_session.proofs.Stopping.{ComesTo, ends_here, not_fewer, one_more, stops_here}
use Rattle.abt_session.proofs.Turns.{is_open, is_quiet, is_refuted}
use Rattle.abt_measure.specs.declared.run.MeasuredRun.{MeasuredRun}
use Rattle.dcsp_defs.specs.declared.nogood.Pair.{Pair}
use Rattle.abt_measure.specs.Learning.{AreLearned}
use Rattle.abt_measure.specs.Measuring.{IsMeasured, MeasureState}
use Rattle.abt_measure.specs.Whole.{IsAfter, IsMeasuredRun}
use Rattle.abt_measure.proofs.StartLaws.{learned_start}

module _ (P : Contents) (most : ℕ) (answers : ℕ → Option ℕ) (listens : Bool) where
  abbrev pub s : Session
  s = session_of None P most answers [] nothing_told

  law : Stops s.problem s.most s.choices (run_of s)
  law = stops s.problem s.most s.choices

  -- so many deliveries were made
  pub record Far (k : ℕ) (to_come : ℕ → Option ℕ) (r : MeasuredRun) : Type 0 where
    pub comes : ComesTo s k
    pub after : IsAfter P (take k (first_answers most answers)) r
    pub same : r.listens ≡ listens
    pub behind : (j : ℕ) → to_come j ≡ answers (k + j)

  pub at_start : (r : MeasuredRun) → IsAfter P [] r → r.listens ≡ listens → Far 0 answers r
  at_start r h e = record {
    comes = record { opened = λ j l. absurd (omega arith); chosen = omega arith; room = omega arith };
    after = h;
    same = e;
    behind = λ j. let n : j ≡ 0 + j = omega arith in ap answers n;
  }

  module _ (k : ℕ) (to_come : ℕ → Option ℕ) (r : MeasuredRun) (h : Far k to_come r) where
    -- it has come to its end
    ended : k ≡ (run_of s).net.deliveries → IsMeasuredRun P most (first_answers most answers) listens r
    ended e = record {
      after = subst (λ n. IsAfter P (take n (first_answers most answers)) r) e h.after;
      stands = subst (StandsAt r.network) (ap (network_after s) e ∙ sym law.net) h.after.stands;
      listens_is = h.same;
    }

    pub few : most ≤ 2 ^ 40 → r.network.deliveries < 2 ^ 48
    few small =
        let e = h.after.stands.deliveries in
        let l = not_fewer s k h.comes in
        let c = law.counted k l in
        let m = law.at_most in omega arith

    pub ends_refuted : standing.Refuted ≡ standing_of (csp_of P) (network_after s k) → IsMeasuredRun P most (first_answers most answers) listens r
    ends_refuted e = let f = is_refuted (csp_of P) (network_after s k) e in ended (stops_here s k h.comes (λ o. let a = o.alive in cc))

    pub ends_quiet : standing.Quiet ≡ standing_of (csp_of P) (network_after s k) → IsMeasuredRun P most (first_answers most answers) listens r
    ends_quiet e = let f = is_quiet (csp_of P) (network_after s k) e in ended (stops_here s k h.comes (λ o. let a = o.in_transit in let b = f.1 in cc))

    answer_here : k < most → slice_get (first_answers most answers) k ≡ to_come 0
    answer_here room = let e : k ≡ k + 0 = omega arith in answers_at most answers k room h.comes.chosen ∙ ap answers e ∙ sym (h.behind 0)

    pub ends_spent : k < most → (o : Option ℕ) → o ≡ to_come 0 → o ≡ None → IsMeasuredRun P most (first_answers most answers) listens r
    ends_spent room o e f = ended (ends_here s k h.comes (inr (past_end (first_answers most answers) k (answer_here room ∙ sym e ∙ f))))

    pub ends_capped : most ≤ k → IsMeasuredRun P most (first_answers most answers) listens r
    ends_capped l = ended (ends_here s k h.comes (inl l))

    -- one delivery more
    pub goes_on : standing.Open ≡ standing_of (csp_of P) (network_after s k) → k < most → (c : ℕ) (o : Option ℕ) → o ≡ to_come 0 → o ≡ Some c → (new : MeasuredRun) (later : ℕ → Option ℕ) → IsAfter P (take k (first_answers most answers) ++ c ∷ []) new
        → new.listens ≡ r.listens → ((j : ℕ) → later j ≡ to_come (j + 1)) → Far (k + 1) later new
    goes_on e room c o first is new later after same rest =
        let found : slice_get (first_answers most answers) k ≡ Some c = answer_here room ∙ sym first ∙ is in
        record {
          comes = one_more s k c h.comes (is_open (csp_of P) (csp_of P) refl (network_after s k) e) found room;
          after = subst (λ l. IsAfter P l new) (sym (at_place (first_answers most answers) k c found).front) after;
          same = same ∙ h.same;
          behind = λ j. let n : k + (j + 1) ≡ k + 1 + j = omega arith in rest j ∙ h.behind (j + 1) ∙ ap answers n;
        }

-- ---- one delivery

pub on_all : {T E A B C D F : Type 0} → (r : Result T E) → OnOk r A → OnOk r B → OnOk r C → OnOk r D → (A → B → C → D → F) → OnOk r F
on_all (Ok x) a b c d f = f a b c d
on_all (Err y) a b c d f = tt

-- the run after its start
pub started_run : (P : Contents) (net shown : NetworkState) (m counted : MeasureState) (listens : Bool) (lists : List (List Pair)) → shown ≡ net → counted ≡ m → net.problem ≡ P → StandsAt net (start (csp_of P)) → net.spent ≡ false → net.begun ≡ true
    → IsMeasured (csp_of P) [] m → AreLearned [] lists → length m.rows ≡ length P.domains → length lists ≡ length P.domains → IsAfter P [] (record { network = shown; measures = counted; listens = listens; learned = lists })
started_run P net shown m counted listens lists e f problem stands sound begun measured learned rows long =
    subst (λ (x : NetworkState). IsAfter P [] (record { network = x; measures = counted; listens = listens; learned = lists })) (sym e)
    (subst (λ (y : MeasureState). IsAfter P [] (record { network = net; measures = y; listens = listens; learned = lists })) (sym f) (record {
      problem = problem;
      stands = stands;
      sound = sound;
      begun = begun;
      measured = measured;
      learned = λ is. learned_start (csp_of P) lists learned;
      rows = rows;
      lists = long;
    }))
