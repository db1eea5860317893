-- The loop of a formula's run.
use Rattle.std.proofs.Common.{◌≡◌, ◌∙◌, ℕ, ◌+◌, ◌<◌, ◌≤◌, ◌^◌, true, false, [], ◌++◌, take, slice_get, Option, Some, None, option_to_list, Result, Ok, Err, inl, inr, refl, sym, ap, subst, arith}
use Rattle.std.specs.Prelude.{OnOk}
use Rattle.std.proofs.lemmas.List.{drop_all}
use Rattle.dcsp_defs.specs.declared.Step.{Step}
use Rattle.dcsp_rule.specs.Problems.{Contents, csp_of}
use Rattle.abt_defs.specs.Network.{Network, start, deliver, ready, run, is_empty}
use Rattle.abt_defs.specs.declared.end.End.TheVariants as ends
use Rattle.law_runs.specs.Stops.{Stops, IsOpen}
use Rattle.law_runs.proofs.Stopping.{stops}
use Rattle.abt_network.specs.declared.Standing.TheVariants as standing
use Rattle.abt_network.specs.Standing.{NetworkState, StandsAt, standing_of}
use Rattle.abt_session.specs.Answers.{first_answers}
use Rattle.abt_session.specs.Ends.{BareEnd, end_of}
use Rattle.abt_session.specs.Sessions.{Session, network_after, run_of}
use Rattle.abt_session.specs.Running.{nothing_told, session_of, IsOnRun}
use Rattle.abt_session.proofs.Places.{answers_at, past_end}
use Rattle.abt_session.proofs.Stopping.{ComesTo, after_next, ends_here, not_fewer, one_more, stops_here}
use Rattle.abt_session.proofs.Turns.{is_open, is_quiet, is_refuted}
use Rattle.line_cnf.specs.declared.clause_run.ClauseRun.{ClauseRun}
use Rattle.line_cnf.specs.ClauseRows.{steps_row}
use Rattle.line_cnf.specs.ClauseRuns.{IsRunAt, StopsAs}
use Rattle.line_cnf.proofs.ClauseRows.{row_both}

module _ (P : Contents) (most : ℕ) (answers : ℕ → Option ℕ) where
  abbrev pub s : Session
  s = session_of None P most answers [] nothing_told

  law : Stops s.problem s.most s.choices (run_of s)
  law = stops s.problem s.most s.choices

  -- so many deliveries were made
  pub record Far (k : ℕ) (to_come : ℕ → Option ℕ) (r : ClauseRun) : Type 0 where
    pub comes : ComesTo s k
    pub there : IsRunAt P (network_after s k) r
    pub behind : (j : ℕ) → to_come j ≡ answers (k + j)

  pub at_start : (r : ClauseRun) → IsRunAt P (start (csp_of P)) r → Far 0 answers r
  at_start r h = record {
    comes = record { opened = λ j l. absurd (omega arith); chosen = omega arith; room = omega arith };
    there = h;
    behind = λ j. let n : j ≡ 0 + j = omega arith in ap answers n;
  }

  module _ (k : ℕ) (to_come : ℕ → Option ℕ) (r : ClauseRun) (h : Far k to_come r) where
    here : k ≡ (run_of s).net.deliveries → (run_of s).net ≡ network_after s k
    here last = law.net ∙ ap (network_after s) (sym last)

    -- it has come to its end
    stopped_as : (told : BareEnd) → k ≡ (run_of s).net.deliveries → (run_of s).end ≡ end_of told → StopsAs P (run_of s) r told
    stopped_as told last e = record { end = e; at_end = subst (λ (n : Network). IsRunAt P n r) (sym (here last)) h.there }

    -- the network can deliver
    pub few : most ≤ 2 ^ 40 → r.network.deliveries < 2 ^ 48
    few small =
        let e = h.there.stands.deliveries in
        let l = not_fewer s k h.comes in
        let c = law.counted k l in
        let m = law.at_most in omega arith

    -- a run leads to it
    pub on_run : IsOnRun r.network
    on_run = (take k (first_answers most answers), subst (λ (q : Contents). StandsAt r.network (run (csp_of q) (take k (first_answers most answers)) (start (csp_of q)))) (sym h.there.problem) h.there.stands)

    -- it was refuted
    pub ends_refuted : standing.Refuted ≡ standing_of (csp_of P) (network_after s k) → StopsAs P (run_of s) r ends.Refuted
    ends_refuted e =
        let refuted = is_refuted (csp_of P) (network_after s k) e in
        let last = stops_here s k h.comes (λ o. let alive = o.alive in cc) in
        stopped_as ends.Refuted last (law.ends.refuted.1 (ap (λ (n : Network). n.refuted) (here last) ∙ refuted))

    -- nothing is in transit
    pub ends_solved : standing.Quiet ≡ standing_of (csp_of P) (network_after s k) → StopsAs P (run_of s) r (ends.Solved tt)
    ends_solved e =
        let quiet = is_quiet (csp_of P) (network_after s k) e in
        let empty = quiet.1 in
        let last = stops_here s k h.comes (λ o. let full = o.in_transit in cc) in
        stopped_as (ends.Solved tt) last
        (law.ends.solved.1 (ap (λ (n : Network). n.refuted) (here last) ∙ quiet.0, ap (λ (n : Network). is_empty (ready s.problem n)) (here last) ∙ empty))

    answer_here : k < most → slice_get (first_answers most answers) k ≡ to_come 0
    answer_here room = let e : k ≡ k + 0 = omega arith in answers_at most answers k room h.comes.chosen ∙ ap answers e ∙ sym (h.behind 0)

    module _ (e : standing.Open ≡ standing_of (csp_of P) (network_after s k)) where
      open_ : IsOpen s.problem (network_after s k)
      open_ = is_open (csp_of P) (csp_of P) refl (network_after s k) e

      -- the choices are used up
      pub ends_spent : k < most → (o : Option ℕ) → o ≡ to_come 0 → o ≡ None → StopsAs P (run_of s) r ends.Spent
      ends_spent room o first is =
          let used = past_end (first_answers most answers) k (answer_here room ∙ sym first ∙ is) in
          let last = ends_here s k h.comes (inr used) in
          stopped_as ends.Spent last
          (law.ends.spent.1 (subst (IsOpen s.problem) (sym (here last)) open_, (omega arith, law.left ∙ drop_all (run_of s).net.deliveries s.choices (omega arith))))

      -- the greatest number was delivered
      pub ends_capped : k ≡ most → StopsAs P (run_of s) r ends.Capped
      ends_capped full =
          let last = ends_here s k h.comes (inl (omega arith)) in
          stopped_as ends.Capped last (law.ends.capped.1 (subst (IsOpen s.problem) (sym (here last)) open_, omega arith))

      -- one delivery more
      pub next : k < most → (c : ℕ) (o : Option ℕ) → o ≡ to_come 0 → o ≡ Some c → (new : ClauseRun) (later : ℕ → Option ℕ)
          → IsRunAt P (deliver (csp_of P) c (network_after s k)) new → ((j : ℕ) → later j ≡ to_come (j + 1)) → Far (k + 1) later new
      next room c o first is new later after rest =
          let found : slice_get (first_answers most answers) k ≡ Some c = answer_here room ∙ sym first ∙ is in
          record {
            comes = one_more s k c h.comes open_ found room;
            there = subst (λ (n : Network). IsRunAt P n new) (sym (after_next s.problem s.choices k c open_ found)) after;
            behind = λ j. let n : k + (j + 1) ≡ k + 1 + j = omega arith in rest j ∙ h.behind (j + 1) ∙ ap answers n;
          }

-- ---- one delivery

pub on_ok : {T E A B : Type 0} (r : Result T E) → OnOk r A → (A → B) → OnOk r B
on_ok (Ok x) a f = f a
on_ok (Err y) a f = tt

module _ (p : Contents) (net after : Network) (r new : ClauseRun) (there : NetworkState) (h : IsRunAt p net r) (same : new.network ≡ there) (problem : there.problem ≡ r.network.problem) (stands : StandsAt there after)
    (sound : there.spent ≡ false) (begun : there.begun ≡ true) where
  run_at : new.clauses ≡ steps_row after.steps → IsRunAt p after new
  run_at e = record {
    problem = ap (λ (n : NetworkState). n.problem) same ∙ problem ∙ h.problem;
    stands = subst (λ (n : NetworkState). StandsAt n after) (sym same) stands;
    sound = ap (λ (n : NetworkState). n.spent) same ∙ sound;
    begun = ap (λ (n : NetworkState). n.begun) same ∙ begun;
    clauses = e;
  }

  -- the clause of its step was kept, if it made one
  pub after_delivery : (o : Option Step) → after.steps ≡ net.steps ++ option_to_list o → new.clauses ≡ r.clauses ++ steps_row (option_to_list o) → IsRunAt p after new
  after_delivery o more kept = run_at (kept ∙ ap (λ l. l ++ steps_row (option_to_list o)) h.clauses ∙ sym (row_both net.steps (option_to_list o)) ∙ ap steps_row (sym more))
