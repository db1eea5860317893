use Rattle.std.proofs.Common.{Some, None, inl, inr, refl, sym, subst}
use Rattle.dcsp_script.proofs.Coming.{came_ran}
use Rattle.dcsp_script.proofs.Ways.{did_nothing}
use Rattle.dcsp_script.specs.Statuses.{IsFinal, IsRefusal}
use Rattle.dcsp_script.proofs.Following.{ran_answers, ran_cause, ran_complete, ran_creates, ran_faults, ran_lacks, ran_others, ran_refused, ran_stays, ran_text}
use Rattle.abt_input.specs.Errors.{way_of}
use Rattle.abt_command.specs.Lines.{Check, Solve, Core, Export, Order, Starve, Story, Rup, Cnf, Upgrade, line_of, promise_of}
use Rattle.abt_command.proofs.Meanings.{means_of, refuted_by, no_better_by}
use Rattle.abt_command.proofs.Concluding.{meant}
use Rattle.abt_command.proofs.Checks.{check_told}
use Rattle.abt_command.proofs.Lines.{one_line, lawful, export_names}
use Rattle.abt_command.proofs.Searches.{asks_no_search, searches_improve, the_search, search_best, search_refuted, search_checked, search_satisfies, search_unfinished, search_bounded, search_ordered, search_answered, searches_are_true}
use Rattle.abt_command.proofs.Drilled.{is_drilled}
use Rattle.abt_command.proofs.Puts.{tells_cnf, tells_upgrade, tells_verdict}
use Rattle.abt_command.proofs.Losses.{asks_no_lossy, lossy_answers, lossy_is_true}
use Rattle.abt_command.proofs.Runs.{runs_are_true, asks_for_none, the_run, run_solved, run_refuted, run_checked, run_satisfies, run_unfinished, run_bounded, run_ordered, run_answered}
use Rattle.abt_command.proofs.command.run_command.Goals as goal

pub returns-in-Some-clause-answers : goal.returns-in-Some-clause-answers
returns-in-Some-clause-answers g c = λ line is. rw (one_line _ line (line_of c.in-Some.request) is c.in-Some.ensures.some) (λ final. ran_answers (promise_of (line_of c.in-Some.request)) (lawful (line_of c.in-Some.request)) _ _ _ _ c.conclude.result (came_ran _ _ (way_of c.run-came.result) c.conclude.result c.run-came.ensures.came c.conclude.ensures) final)

pub returns-in-Some-clause-faults : goal.returns-in-Some-clause-faults
returns-in-Some-clause-faults g c = λ line is. rw (one_line _ line (line_of c.in-Some.request) is c.in-Some.ensures.some) (λ fault. ran_faults (promise_of (line_of c.in-Some.request)) (lawful (line_of c.in-Some.request)) _ _ _ _ c.conclude.result (came_ran _ _ (way_of c.run-came.result) c.conclude.result c.run-came.ensures.came c.conclude.ensures) fault)

pub returns-in-Some-clause-lacks : goal.returns-in-Some-clause-lacks
returns-in-Some-clause-lacks g c = λ line is. rw (one_line _ line (line_of c.in-Some.request) is c.in-Some.ensures.some) (λ memory. ran_lacks (promise_of (line_of c.in-Some.request)) (lawful (line_of c.in-Some.request)) _ _ _ _ c.conclude.result (came_ran _ _ (way_of c.run-came.result) c.conclude.result c.run-came.ensures.came c.conclude.ensures) memory)

pub returns-in-Some-clause-cause : goal.returns-in-Some-clause-cause
returns-in-Some-clause-cause g c = λ line is. rw (one_line _ line (line_of c.in-Some.request) is c.in-Some.ensures.some) (λ fault. ran_cause (promise_of (line_of c.in-Some.request)) (lawful (line_of c.in-Some.request)) _ _ _ _ c.conclude.result (came_ran _ _ (way_of c.run-came.result) c.conclude.result c.run-came.ensures.came c.conclude.ensures) fault)

pub returns-in-Some-clause-complete : goal.returns-in-Some-clause-complete
returns-in-Some-clause-complete g c = λ line is. rw (one_line _ line (line_of c.in-Some.request) is c.in-Some.ensures.some) (ran_complete (promise_of (line_of c.in-Some.request)) (lawful (line_of c.in-Some.request)) _ _ _ _ c.conclude.result (came_ran _ _ (way_of c.run-came.result) c.conclude.result c.run-came.ensures.came c.conclude.ensures))

pub returns-in-Some-clause-text : goal.returns-in-Some-clause-text
returns-in-Some-clause-text g c = λ line is. rw (one_line _ line (line_of c.in-Some.request) is c.in-Some.ensures.some) (ran_text (promise_of (line_of c.in-Some.request)) (lawful (line_of c.in-Some.request)) _ _ _ _ c.conclude.result (came_ran _ _ (way_of c.run-came.result) c.conclude.result c.run-came.ensures.came c.conclude.ensures))

pub returns-in-Some-clause-others : goal.returns-in-Some-clause-others
returns-in-Some-clause-others g c = λ line is. rw (one_line _ line (line_of c.in-Some.request) is c.in-Some.ensures.some) (ran_others (promise_of (line_of c.in-Some.request)) (lawful (line_of c.in-Some.request)) _ _ _ _ c.conclude.result (came_ran _ _ (way_of c.run-came.result) c.conclude.result c.run-came.ensures.came c.conclude.ensures))

pub returns-in-Some-clause-created : goal.returns-in-Some-clause-created
returns-in-Some-clause-created g c = λ line is. rw (one_line _ line (line_of c.in-Some.request) is c.in-Some.ensures.some) (ran_creates (promise_of (line_of c.in-Some.request)) (lawful (line_of c.in-Some.request)) _ _ _ _ c.conclude.result (came_ran _ _ (way_of c.run-came.result) c.conclude.result c.run-came.ensures.came c.conclude.ensures))

pub returns-in-Some-clause-stays : goal.returns-in-Some-clause-stays
returns-in-Some-clause-stays g c = ran_stays (promise_of (line_of c.in-Some.request)) (lawful (line_of c.in-Some.request)) _ _ _ _ c.conclude.result (came_ran _ _ (way_of c.run-came.result) c.conclude.result c.run-came.ensures.came c.conclude.ensures)

pub returns-in-Some-clause-refused : goal.returns-in-Some-clause-refused
returns-in-Some-clause-refused g c = ran_refused (promise_of (line_of c.in-Some.request)) (lawful (line_of c.in-Some.request)) _ _ _ _ c.conclude.result (came_ran _ _ (way_of c.run-came.result) c.conclude.result c.run-came.ensures.came c.conclude.ensures)

pub returns-in-Some-clause-means : goal.returns-in-Some-clause-means
returns-in-Some-clause-means g c = λ line is final answers.
    means_of _ _ _ (one_line _ (line_of c.in-Some.request) line c.in-Some.ensures.some is) (meant (line_of c.in-Some.request) _ _ c.run-came.result _ _ c.conclude.result c.run-came.ensures.means c.conclude.ensures final answers)

pub returns-in-None-clause-means : goal.returns-in-None-clause-means
returns-in-None-clause-means g c = λ line is. absurd (c.in-None.ensures.none refl line is)

pub returns-in-Some-clause-verified : goal.returns-in-Some-clause-verified
returns-in-Some-clause-verified g c = λ model log is good. refuted_by _ _ _ (one_line _ (line_of c.in-Some.request) (Check model log None) c.in-Some.ensures.some is) good (meant (line_of c.in-Some.request) _ _ c.run-came.result _ _ c.conclude.result c.run-came.ensures.means c.conclude.ensures)

pub returns-in-Some-clause-no_better : goal.returns-in-Some-clause-no_better
returns-in-Some-clause-no_better g c = λ model log bound is good. no_better_by _ _ _ (one_line _ (line_of c.in-Some.request) (Check model log (Some bound)) c.in-Some.ensures.some is) good (meant (line_of c.in-Some.request) _ _ c.run-came.result _ _ c.conclude.result c.run-came.ensures.means c.conclude.ensures)

pub returns-in-Some-clause-exact : goal.returns-in-Some-clause-exact
returns-in-Some-clause-exact g c = check_told _ (line_of c.in-Some.request) c.in-Some.ensures.some _ _ _ _ c.conclude.result (came_ran _ _ (way_of c.run-came.result) c.conclude.result c.run-came.ensures.came c.conclude.ensures)

pub returns-in-Some-clause-true_runs : goal.returns-in-Some-clause-true_runs
returns-in-Some-clause-true_runs g c = runs_are_true _ _

pub returns-in-Some-clause-each_better : goal.returns-in-Some-clause-each_better
returns-in-Some-clause-each_better g c = searches_improve _ _

pub returns-in-None-clause-each_better : goal.returns-in-None-clause-each_better
returns-in-None-clause-each_better g c = searches_improve _ _

pub returns-in-None-clause-true_runs : goal.returns-in-None-clause-true_runs
returns-in-None-clause-true_runs g c = runs_are_true _ _

pub returns-in-Some-clause-runs : goal.returns-in-Some-clause-runs
returns-in-Some-clause-runs g c = inl (line_of c.in-Some.request, c.in-Some.ensures.some, (came_ran _ _ (way_of c.run-came.result) c.conclude.result c.run-came.ensures.came c.conclude.ensures))

pub returns-in-Some-clause-the_run : goal.returns-in-Some-clause-the_run
returns-in-Some-clause-the_run g c = the_run _ (line_of c.in-Some.request) c.in-Some.ensures.some _ _ _ _ c.conclude.result (came_ran _ _ (way_of c.run-came.result) c.conclude.result c.run-came.ensures.came c.conclude.ensures)

pub returns-in-Some-clause-solved : goal.returns-in-Some-clause-solved
returns-in-Some-clause-solved g c = run_solved _ (line_of c.in-Some.request) c.in-Some.ensures.some _ _ _ _ c.conclude.result (came_ran _ _ (way_of c.run-came.result) c.conclude.result c.run-came.ensures.came c.conclude.ensures)

pub returns-in-Some-clause-refuted : goal.returns-in-Some-clause-refuted
returns-in-Some-clause-refuted g c = run_refuted _ (line_of c.in-Some.request) c.in-Some.ensures.some _ _ _ _ c.conclude.result (came_ran _ _ (way_of c.run-came.result) c.conclude.result c.run-came.ensures.came c.conclude.ensures)

pub returns-in-Some-clause-checks : goal.returns-in-Some-clause-checks
returns-in-Some-clause-checks g c = run_checked _ (line_of c.in-Some.request) c.in-Some.ensures.some _ _ _ _ c.conclude.result (came_ran _ _ (way_of c.run-came.result) c.conclude.result c.run-came.ensures.came c.conclude.ensures)

pub returns-in-Some-clause-answer_checks : goal.returns-in-Some-clause-answer_checks
returns-in-Some-clause-answer_checks g c = run_answered _ (line_of c.in-Some.request) c.in-Some.ensures.some _ _ _ _ c.conclude.result (came_ran _ _ (way_of c.run-came.result) c.conclude.result c.run-came.ensures.came c.conclude.ensures)

pub returns-in-None-clause-answer_checks : goal.returns-in-None-clause-answer_checks
returns-in-None-clause-answer_checks g c = asks_for_none _ _ _ (c.in-None.ensures.none refl)

pub returns-in-Some-clause-best_answer_checks : goal.returns-in-Some-clause-best_answer_checks
returns-in-Some-clause-best_answer_checks g c = search_answered _ (line_of c.in-Some.request) c.in-Some.ensures.some _ _ _ _ c.conclude.result (came_ran _ _ (way_of c.run-came.result) c.conclude.result c.run-came.ensures.came c.conclude.ensures)

pub returns-in-None-clause-best_answer_checks : goal.returns-in-None-clause-best_answer_checks
returns-in-None-clause-best_answer_checks g c = asks_no_search _ _ _ (c.in-None.ensures.none refl)

pub returns-in-Some-clause-true_searches : goal.returns-in-Some-clause-true_searches
returns-in-Some-clause-true_searches g c = searches_are_true _ _

pub returns-in-None-clause-true_searches : goal.returns-in-None-clause-true_searches
returns-in-None-clause-true_searches g c = searches_are_true _ _

pub returns-in-Some-clause-records : goal.returns-in-Some-clause-records
returns-in-Some-clause-records g c = λ model log settings is final answers.
    means_of _ _ _ (one_line _ (line_of c.in-Some.request) (Solve model log settings) c.in-Some.ensures.some is) (meant (line_of c.in-Some.request) _ _ c.run-came.result _ _ c.conclude.result c.run-came.ensures.means c.conclude.ensures final answers)

pub returns-in-Some-clause-satisfies : goal.returns-in-Some-clause-satisfies
returns-in-Some-clause-satisfies g c = run_satisfies _ (line_of c.in-Some.request) c.in-Some.ensures.some _ _ _ _ c.conclude.result (came_ran _ _ (way_of c.run-came.result) c.conclude.result c.run-came.ensures.came c.conclude.ensures)

pub returns-in-Some-clause-proved : goal.returns-in-Some-clause-proved
returns-in-Some-clause-proved g c = λ cnf proof is final answers. record {
  answer = means_of _ _ _ (one_line _ (line_of c.in-Some.request) (Rup cnf proof) c.in-Some.ensures.some is) (meant (line_of c.in-Some.request) _ _ c.run-came.result _ _ c.conclude.result c.run-came.ensures.means c.conclude.ensures final answers);
  tells = tells_verdict _ (line_of c.in-Some.request) c.in-Some.ensures.some _ _ _ _ c.conclude.result (came_ran _ _ (way_of c.run-came.result) c.conclude.result c.run-came.ensures.came c.conclude.ensures) cnf proof is final;
}

pub returns-in-Some-clause-formula : goal.returns-in-Some-clause-formula
returns-in-Some-clause-formula g c = λ cnf proof seed is final answers. record {
  answer = means_of _ _ _ (one_line _ (line_of c.in-Some.request) (Cnf cnf proof seed) c.in-Some.ensures.some is) (meant (line_of c.in-Some.request) _ _ c.run-came.result _ _ c.conclude.result c.run-came.ensures.means c.conclude.ensures final answers);
  tells = tells_cnf _ (line_of c.in-Some.request) c.in-Some.ensures.some _ _ _ _ c.conclude.result (came_ran _ _ (way_of c.run-came.result) c.conclude.result c.run-came.ensures.came c.conclude.ensures) cnf proof seed is final;
}

pub returns-in-Some-clause-upgraded : goal.returns-in-Some-clause-upgraded
returns-in-Some-clause-upgraded g c = λ log new is good.
    let final = subst IsFinal (sym good) tt in
    record {
      writes = means_of _ _ _ (one_line _ (line_of c.in-Some.request) (Upgrade log new) c.in-Some.ensures.some is) (meant (line_of c.in-Some.request) _ _ c.run-came.result _ _ c.conclude.result c.run-came.ensures.means c.conclude.ensures final (λ r. subst IsRefusal good r));
      tells = tells_upgrade _ (line_of c.in-Some.request) c.in-Some.ensures.some _ _ _ _ c.conclude.result (came_ran _ _ (way_of c.run-came.result) c.conclude.result c.run-came.ensures.came c.conclude.ensures) log new is final;
    }

pub returns-in-Some-clause-trimmed : goal.returns-in-Some-clause-trimmed
returns-in-Some-clause-trimmed g c = λ model log trimmed better is final answers.
    means_of _ _ _ (one_line _ (line_of c.in-Some.request) (Core model log trimmed better) c.in-Some.ensures.some is) (meant (line_of c.in-Some.request) _ _ c.run-came.result _ _ c.conclude.result c.run-came.ensures.means c.conclude.ensures final answers)

pub returns-in-Some-clause-exported : goal.returns-in-Some-clause-exported
returns-in-Some-clause-exported g c = λ model log cnf proof told better is final answers.
    means_of _ _ _ (one_line _ (line_of c.in-Some.request) (Export model log cnf proof told better) c.in-Some.ensures.some is) (meant (line_of c.in-Some.request) _ _ c.run-came.result _ _ c.conclude.result c.run-came.ensures.means c.conclude.ensures final answers) (export_names _ model log cnf proof told better is)

pub returns-in-Some-clause-ordered : goal.returns-in-Some-clause-ordered
returns-in-Some-clause-ordered g c = λ model rule file is good.
    means_of _ _ _ (one_line _ (line_of c.in-Some.request) (Order model rule file) c.in-Some.ensures.some is) (meant (line_of c.in-Some.request) _ _ c.run-came.result _ _ c.conclude.result c.run-came.ensures.means c.conclude.ensures (subst IsFinal (sym good) tt) (λ r. subst IsRefusal good r))

pub returns-in-Some-clause-starved : goal.returns-in-Some-clause-starved
returns-in-Some-clause-starved g c = λ model from to file order_file is good.
    means_of _ _ _ (one_line _ (line_of c.in-Some.request) (Starve model from to file order_file) c.in-Some.ensures.some is) (meant (line_of c.in-Some.request) _ _ c.run-came.result _ _ c.conclude.result c.run-came.ensures.means c.conclude.ensures (subst IsFinal (sym good) tt) (λ r. subst IsRefusal good r))

pub returns-in-Some-clause-lossy : goal.returns-in-Some-clause-lossy
returns-in-Some-clause-lossy g c = lossy_answers _ (line_of c.in-Some.request) c.in-Some.ensures.some _ _ _ _ c.conclude.result (came_ran _ _ (way_of c.run-came.result) c.conclude.result c.run-came.ensures.came c.conclude.ensures)

pub returns-in-None-clause-lossy : goal.returns-in-None-clause-lossy
returns-in-None-clause-lossy g c = asks_no_lossy _ _ _ (c.in-None.ensures.none refl)

pub returns-in-Some-clause-true_lossy : goal.returns-in-Some-clause-true_lossy
returns-in-Some-clause-true_lossy g c = lossy_is_true _ (line_of c.in-Some.request) c.in-Some.ensures.some _ _ _ _ c.conclude.result (came_ran _ _ (way_of c.run-came.result) c.conclude.result c.run-came.ensures.came c.conclude.ensures)

pub returns-in-None-clause-true_lossy : goal.returns-in-None-clause-true_lossy
returns-in-None-clause-true_lossy g c = asks_no_lossy _ _ _ (c.in-None.ensures.none refl)

pub returns-in-Some-clause-drilled : goal.returns-in-Some-clause-drilled
returns-in-Some-clause-drilled g c = is_drilled _ (line_of c.in-Some.request) c.in-Some.ensures.some _ _ _ _ c.conclude.result (came_ran _ _ (way_of c.run-came.result) c.conclude.result c.run-came.ensures.came c.conclude.ensures)

pub returns-in-Some-clause-told : goal.returns-in-Some-clause-told
returns-in-Some-clause-told g c = λ model schedule file order is final answers.
    means_of _ _ _ (one_line _ (line_of c.in-Some.request) (Story model schedule file order) c.in-Some.ensures.some is) (meant (line_of c.in-Some.request) _ _ c.run-came.result _ _ c.conclude.result c.run-came.ensures.means c.conclude.ensures final answers)

pub returns-in-Some-clause-no_stall : goal.returns-in-Some-clause-no_stall
returns-in-Some-clause-no_stall g c = run_unfinished _ (line_of c.in-Some.request) c.in-Some.ensures.some _ _ _ _ c.conclude.result (came_ran _ _ (way_of c.run-came.result) c.conclude.result c.run-came.ensures.came c.conclude.ensures)

pub returns-in-Some-clause-bound : goal.returns-in-Some-clause-bound
returns-in-Some-clause-bound g c = run_bounded _ (line_of c.in-Some.request) c.in-Some.ensures.some _ _ _ _ c.conclude.result (came_ran _ _ (way_of c.run-came.result) c.conclude.result c.run-came.ensures.came c.conclude.ensures)

pub returns-in-Some-clause-in_order : goal.returns-in-Some-clause-in_order
returns-in-Some-clause-in_order g c = run_ordered _ (line_of c.in-Some.request) c.in-Some.ensures.some _ _ _ _ c.conclude.result (came_ran _ _ (way_of c.run-came.result) c.conclude.result c.run-came.ensures.came c.conclude.ensures)

pub returns-in-Some-clause-the_search : goal.returns-in-Some-clause-the_search
returns-in-Some-clause-the_search g c = the_search _ (line_of c.in-Some.request) c.in-Some.ensures.some _ _ _ _ c.conclude.result (came_ran _ _ (way_of c.run-came.result) c.conclude.result c.run-came.ensures.came c.conclude.ensures)

pub returns-in-Some-clause-best : goal.returns-in-Some-clause-best
returns-in-Some-clause-best g c = search_best _ (line_of c.in-Some.request) c.in-Some.ensures.some _ _ _ _ c.conclude.result (came_ran _ _ (way_of c.run-came.result) c.conclude.result c.run-came.ensures.came c.conclude.ensures)

pub returns-in-Some-clause-none_at_all : goal.returns-in-Some-clause-none_at_all
returns-in-Some-clause-none_at_all g c = search_refuted _ (line_of c.in-Some.request) c.in-Some.ensures.some _ _ _ _ c.conclude.result (came_ran _ _ (way_of c.run-came.result) c.conclude.result c.run-came.ensures.came c.conclude.ensures)

pub returns-in-Some-clause-best_checks : goal.returns-in-Some-clause-best_checks
returns-in-Some-clause-best_checks g c = search_checked _ (line_of c.in-Some.request) c.in-Some.ensures.some _ _ _ _ c.conclude.result (came_ran _ _ (way_of c.run-came.result) c.conclude.result c.run-came.ensures.came c.conclude.ensures)

pub returns-in-Some-clause-best_satisfies : goal.returns-in-Some-clause-best_satisfies
returns-in-Some-clause-best_satisfies g c = search_satisfies _ (line_of c.in-Some.request) c.in-Some.ensures.some _ _ _ _ c.conclude.result (came_ran _ _ (way_of c.run-came.result) c.conclude.result c.run-came.ensures.came c.conclude.ensures)

pub returns-in-Some-clause-capped : goal.returns-in-Some-clause-capped
returns-in-Some-clause-capped g c = search_unfinished _ (line_of c.in-Some.request) c.in-Some.ensures.some _ _ _ _ c.conclude.result (came_ran _ _ (way_of c.run-came.result) c.conclude.result c.run-came.ensures.came c.conclude.ensures)

pub returns-in-Some-clause-rounds : goal.returns-in-Some-clause-rounds
returns-in-Some-clause-rounds g c = search_bounded _ (line_of c.in-Some.request) c.in-Some.ensures.some _ _ _ _ c.conclude.result (came_ran _ _ (way_of c.run-came.result) c.conclude.result c.run-came.ensures.came c.conclude.ensures)

pub returns-in-Some-clause-rounds_in_order : goal.returns-in-Some-clause-rounds_in_order
returns-in-Some-clause-rounds_in_order g c = search_ordered _ (line_of c.in-Some.request) c.in-Some.ensures.some _ _ _ _ c.conclude.result (came_ran _ _ (way_of c.run-came.result) c.conclude.result c.run-came.ensures.came c.conclude.ensures)

pub returns-in-None-clause-the_search : goal.returns-in-None-clause-the_search
returns-in-None-clause-the_search g c = asks_no_search _ _ _ (c.in-None.ensures.none refl)

pub returns-in-None-clause-best : goal.returns-in-None-clause-best
returns-in-None-clause-best g c = asks_no_search _ _ _ (c.in-None.ensures.none refl)

pub returns-in-None-clause-none_at_all : goal.returns-in-None-clause-none_at_all
returns-in-None-clause-none_at_all g c = asks_no_search _ _ _ (c.in-None.ensures.none refl)

pub returns-in-None-clause-best_checks : goal.returns-in-None-clause-best_checks
returns-in-None-clause-best_checks g c = asks_no_search _ _ _ (c.in-None.ensures.none refl)

pub returns-in-None-clause-best_satisfies : goal.returns-in-None-clause-best_satisfies
returns-in-None-clause-best_satisfies g c = asks_no_search _ _ _ (c.in-None.ensures.none refl)

pub returns-in-None-clause-capped : goal.returns-in-None-clause-capped
returns-in-None-clause-capped g c = asks_no_search _ _ _ (c.in-None.ensures.none refl)

pub returns-in-None-clause-rounds : goal.returns-in-None-clause-rounds
returns-in-None-clause-rounds g c = asks_no_search _ _ _ (c.in-None.ensures.none refl)

pub returns-in-None-clause-rounds_in_order : goal.returns-in-None-clause-rounds_in_order
returns-in-None-clause-rounds_in_order g c = asks_no_search _ _ _ (c.in-None.ensures.none refl)

pub returns-in-None-clause-the_run : goal.returns-in-None-clause-the_run
returns-in-None-clause-the_run g c = asks_for_none _ _ _ (c.in-None.ensures.none refl)

pub returns-in-None-clause-solved : goal.returns-in-None-clause-solved
returns-in-None-clause-solved g c = asks_for_none _ _ _ (c.in-None.ensures.none refl)

pub returns-in-None-clause-refuted : goal.returns-in-None-clause-refuted
returns-in-None-clause-refuted g c = asks_for_none _ _ _ (c.in-None.ensures.none refl)

pub returns-in-None-clause-checks : goal.returns-in-None-clause-checks
returns-in-None-clause-checks g c = asks_for_none _ _ _ (c.in-None.ensures.none refl)

pub returns-in-None-clause-satisfies : goal.returns-in-None-clause-satisfies
returns-in-None-clause-satisfies g c = asks_for_none _ _ _ (c.in-None.ensures.none refl)

pub returns-in-None-clause-no_stall : goal.returns-in-None-clause-no_stall
returns-in-None-clause-no_stall g c = asks_for_none _ _ _ (c.in-None.ensures.none refl)

pub returns-in-None-clause-bound : goal.returns-in-None-clause-bound
returns-in-None-clause-bound g c = asks_for_none _ _ _ (c.in-None.ensures.none refl)

pub returns-in-None-clause-in_order : goal.returns-in-None-clause-in_order
returns-in-None-clause-in_order g c = asks_for_none _ _ _ (c.in-None.ensures.none refl)

pub run-came-requires : goal.run-came-requires
run-came-requires g c = (_, c.in-Some.ensures.some)

pub returns-in-None-clause-runs : goal.returns-in-None-clause-runs
returns-in-None-clause-runs g c = inr (c.in-None.ensures.none refl, refl, did_nothing _, c.say.ensures)

pub returns-in-None-clause-words : goal.returns-in-None-clause-words
returns-in-None-clause-words g c = (λ bad. c.in-None.ensures.none refl, λ none. refl)

pub returns-in-None-clause-complete : goal.returns-in-None-clause-complete
returns-in-None-clause-complete g c = λ line is. absurd (c.in-None.ensures.none refl line is)
