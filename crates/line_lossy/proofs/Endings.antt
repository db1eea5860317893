-- The whole log, the record and the answer.
use Rattle.std.proofs.Common.{◌≡◌, ℕ, cond, List, [], ◌∷◌, ◌++◌, length, Option, Result, Ok, Err, refl, sym, ap, subst, ◌∙◌, append_assoc}
use Rattle.std.specs.Prelude.{IsErr, IsErrAnd, codes}
use Rattle.dcsp_defs.specs.Csp.{Csp}
use Rattle.dcsp_rule.specs.Problems.{Contents, csp_of}
use Rattle.dcsp_script.specs.declared.stop.Stop.{Stop}
use Rattle.dcsp_script.specs.Scripts.{Write, Create, Append, Put, World as Outside}
use Rattle.dcsp_script.specs.Ways.{Wrote}
use Rattle.dcsp_script.proofs.Lines.{then_rest, then_stopped}
use Rattle.abt_defs.specs.Runs as runs
use Rattle.abt_defs.specs.Runs.{Run}
use Rattle.abt_network.specs.declared.Standing.TheVariants as standing
use Rattle.abt_lossy.specs.InWorld.{standing_of, reached}
use Rattle.law_runs.specs.Worlds.{World, begin, after}
use Rattle.law_runs.specs.Deliveries.{numbers}
use Rattle.law_runs.specs.LossyEnds.{is_quiet, used, calm_words}
use Rattle.abt_session.specs.Sessions.{begun_script, step_writes}
use Rattle.abt_session.specs.Running.{kept, IsEnd, IsOutcome}
use Rattle.abt_defs.specs.declared.end.End.TheVariants as ends
use Rattle.abt_session.specs.declared.outcome.Outcome.{Outcome}
use Rattle.abt_session.proofs.Pieces.{wrote_as, stopped_so}
use Rattle.line_replay.specs.Asked.{record_script}
use Rattle.line_replay.specs.Endings.{end_status, ending_text}
use Rattle.line_replay.specs.Outcomes.{outcome_text, outcome_status, HasAllValues}
use Rattle.line_replay.proofs.Outcomes as outcomes
use Rattle.line_replay.proofs.Telling.{as_ok}
use Rattle.dcsp_problem.specs.WellFormed.{IsProblem}
use Rattle.dcsp_order.specs.Told.{ordered, IsOrderFor}
use Rattle.line_lossy.specs.Asked.{Asked, most_calm, seeded_words, words_of, run_problem, run_words, run_world, run_numbers, run_steps, end_of, events_text, answer_text, log_script, asked_script}
use Rattle.line_lossy.specs.Runners.{new_writes, numbers_after, order_of, HasMade, SameTask, IsEnded}
use Rattle.line_lossy.specs.declared.runner.LossyRunner.{LossyRunner}
use Rattle.line_lossy.specs.declared.ending.LossyOutcome.{LossyOutcome}
use Rattle.line_lossy.proofs.Worlds.{all_new}
use Rattle.line_lossy.proofs.Making.{is_refuted, is_at_rest, is_going_on}
use Rattle.line_lossy.proofs.Turns.{more_told, steps_at, calm_left}

-- ---- the words of the whole run

pub words_are : (p : Csp) (given : List ℕ) (n : ℕ) → used p given (begin p) ++ calm_words p n (after p (used p given (begin p)) (begin p)) ≡ words_of p given n
unfolding words_of
words_are p given n = refl

-- the log of the start, of the seed's events and of the calm ones is that of all
pub whole_log : (order : Option (List ℕ)) (P : Contents) (log : List ℕ) (xs ys : List ℕ)
    → begun_script order (csp_of P) log ++ (new_writes log (steps_at order P []) (steps_at order P xs) ++ (new_writes log (steps_at order P xs) (steps_at order P (xs ++ ys)) ++ Append log (codes "end\n") ∷ []))
    ≡ log_script log (steps_at order P (xs ++ ys))
whole_log order P log xs ys =
    let s = steps_at order P [] in
    let t = steps_at order P xs in
    let u = steps_at order P (xs ++ ys) in
    let end : List Write = Append log (codes "end\n") ∷ [] in
    let first : step_writes log 1 s ++ new_writes log s t ≡ step_writes log 1 t = sym (all_new log s t (more_told order P [] xs)) in
    let then : step_writes log 1 t ++ new_writes log t u ≡ step_writes log 1 u = sym (all_new log t u (more_told order P xs ys)) in
    let lines : step_writes log 1 s ++ (new_writes log s t ++ (new_writes log t u ++ end)) ≡ step_writes log 1 u ++ end =
    sym (append_assoc (step_writes log 1 s) (new_writes log s t) (new_writes log t u ++ end)) ∙ ap (λ l. l ++ (new_writes log t u ++ end)) first
    ∙ sym (append_assoc (step_writes log 1 t) (new_writes log t u) end) ∙ ap (λ l. l ++ end) then in
    ap (λ l. Create log ∷ Append log (codes "ngd 1\n") ∷ l) lines

-- the lines of the seed's events, and of the calm ones after these
abbrev pub seed_part : Option (List ℕ) → Contents → List ℕ → List ℕ → List Write
seed_part order P log given = new_writes log (steps_at order P []) (steps_at order P (used (csp_of P) given (begin (csp_of P))))

abbrev pub calm_part : Option (List ℕ) → Contents → List ℕ → List ℕ → ℕ → List Write
calm_part order P log first n = new_writes log (steps_at order P first) (steps_at order P (first ++ calm_left P n first))

-- of the same problem and the same log
pub seed_same : (o o' : Option (List ℕ)) (P Q : Contents) (log same : List ℕ) (given : List ℕ) → o' ≡ o → Q ≡ P → same ≡ log → seed_part o' Q same given ≡ seed_part o P log given
seed_same o o' P Q log same given d e f = ap (λ x. seed_part x Q same given) d ∙ ap (λ R. seed_part o R same given) e ∙ ap (λ l. seed_part o P l given) f

pub calm_same : (o o' : Option (List ℕ)) (P Q R : Contents) (log same : List ℕ) (given : List ℕ) (n : ℕ) → o' ≡ o → Q ≡ P → R ≡ P → same ≡ log
    → calm_part o' R same (used (csp_of Q) given (begin (csp_of Q))) n ≡ calm_part o P log (used (csp_of P) given (begin (csp_of P))) n
calm_same o o' P Q R log same given n d e f g =
    ap (λ x. calm_part x R same (used (csp_of Q) given (begin (csp_of Q))) n) d ∙ ap (λ S. calm_part o R same (used (csp_of S) given (begin (csp_of S))) n) e
    ∙ ap (λ S. calm_part o S same (used (csp_of P) given (begin (csp_of P))) n) f ∙ ap (λ l. calm_part o P l (used (csp_of P) given (begin (csp_of P))) n) g

pub words_same : (P Q R : Contents) (given : List ℕ) (n : ℕ) → Q ≡ P → R ≡ P → (let first = used (csp_of Q) given (begin (csp_of Q)) in first ++ calm_left R n first) ≡ words_of (csp_of P) given n
words_same P Q R given n e f =
    ap (λ S. let first = used (csp_of S) given (begin (csp_of S)) in first ++ calm_left R n first) e
    ∙ ap (λ S. let first = used (csp_of P) given (begin (csp_of P)) in first ++ calm_left S n first) f ∙ words_are (csp_of P) given n

module _ (order : Option (List ℕ)) (P : Contents) (log given : List ℕ) (n : ℕ) where
  abbrev first : List ℕ
  first = used (csp_of P) given (begin (csp_of P))

  abbrev begun : List Write
  begun = begun_script order (csp_of P) log

  abbrev end : List Write
  end = Append log (codes "end\n") ∷ []

  abbrev pub run_log : List Write
  run_log = log_script log (steps_at order P (words_of (csp_of P) given n))

  parts_are : begun ++ (seed_part order P log given ++ (calm_part order P log first n ++ end)) ≡ run_log
  parts_are = whole_log order P log first (calm_left P n first) ∙ ap (λ l. log_script log (steps_at order P l)) (words_are (csp_of P) given n)

  -- it was stopped at its start
  pub start_stopped : {T U : Type 0} {a b : Outside} {e : Stop} (r : Result U Stop) → IsErr r × IsErrAnd r (λ y. y ≡ e) → Wrote {T = T} begun a b (Err e) → Wrote run_log a b r
  start_stopped r is w = wrote_as parts_are (then_stopped (seed_part order P log given ++ (calm_part order P log first n ++ end)) is w)

  -- or among the events of the seed
  pub seed_part_stopped : {T U V : Type 0} {a b c : Outside} {x : T} {e : Stop} (r : Result V Stop) → IsErr r × IsErrAnd r (λ y. y ≡ e) → Wrote {T = T} begun a b (Ok x) → Wrote {T = U} (seed_part order P log given) b c (Err e) → Wrote run_log a c r
  seed_part_stopped r is w v = wrote_as parts_are (then_rest w (then_stopped (calm_part order P log first n ++ end) is v))

  -- or among the calm ones
  pub calm_part_stopped : {T U V X : Type 0} {a b c d : Outside} {x : T} {y : U} {e : Stop} (r : Result X Stop) → IsErr r × IsErrAnd r (λ z. z ≡ e) → Wrote {T = T} begun a b (Ok x) → Wrote {T = U} (seed_part order P log given) b c (Ok y) → Wrote {T = V} (calm_part order P log first n) c d (Err e) → Wrote run_log a d r
  calm_part_stopped r is w v u = wrote_as parts_are (then_rest w (then_rest v (then_stopped end is u)))

  -- or not before its end
  pub run_written : {T U V X : Type 0} {a b c d f : Outside} {x : T} {y : U} {z : V} (r : Result X Stop) → Wrote {T = T} begun a b (Ok x) → Wrote {T = U} (seed_part order P log given) b c (Ok y) → Wrote {T = V} (calm_part order P log first n) c d (Ok z) → Wrote end d f r → Wrote run_log a f r
  run_written r w v u t = wrote_as parts_are (then_rest w (then_rest v (then_rest u t)))

-- ---- the outcome

module _ (order : Option (List ℕ)) (p : Csp) (w : World) where
  pub ends_refuted : standing.Refuted ≡ standing_of p w → IsEnd order p w.network (end_of p w) ends.Refuted
  ends_refuted h = ap (λ b. cond b runs.Refuted (cond (is_quiet p w) runs.Solved runs.Capped)) (is_refuted p w h)

  pub ends_solved : standing.Quiet ≡ standing_of p w → end_of p w ≡ runs.Solved
  ends_solved h = let t = is_at_rest p w h in ap (λ b. cond b runs.Refuted (cond (is_quiet p w) runs.Solved runs.Capped)) t.0 ∙ ap (λ b. cond b runs.Solved runs.Capped) t.1

  pub ends_capped : standing.Open ≡ standing_of p w → IsEnd order p w.network (end_of p w) ends.Capped
  ends_capped h = let t = is_going_on p w h in ap (λ b. cond b runs.Refuted (cond (is_quiet p w) runs.Solved runs.Capped)) t.0 ∙ ap (λ b. cond b runs.Solved runs.Capped) t.1

-- ---- the answer

-- the world's run, as a run
abbrev as_run : Csp → World → Run
as_run p w = record { end = end_of p w; net = w.network; left = []; numbers = []; trace = [] }

module _ (asked : Asked) (ended : LossyOutcome) (h : IsEnded asked ended) where
  abbrev its_run : Run
  its_run = as_run (run_problem asked) (run_world asked)

  -- what is put is the answer
  pub text_is : outcome_text asked.problem ended.outcome ++ events_text ended.events ≡ answer_text asked
  text_is =
      ap (λ t. t ++ events_text ended.events) (outcomes.text_is asked.order asked.problem its_run ended.outcome h.outcome) ∙ ap (λ n. ending_text asked.order asked.problem its_run ++ events_text n) h.events

  pub status_is : outcome_status ended.outcome.end ≡ end_status (end_of (run_problem asked) (run_world asked))
  status_is = outcomes.status_is asked.order asked.problem its_run ended.outcome.end h.outcome.end

  pub has_values : IsProblem asked.problem → IsOrderFor asked.order asked.problem → HasAllValues asked.problem ended.outcome.end
  has_values ok good = outcomes.has_values asked.order asked.problem its_run ok good ended.outcome.end h.outcome.end

-- ---- the script

module _ (asked : Asked) where
  abbrev pub before_answer : List Write
  before_answer = log_script asked.log (run_steps asked) ++ record_script asked.record_file (run_numbers asked)

  script_is : before_answer ++ Put (answer_text asked) ∷ [] ≡ asked_script asked
  script_is = append_assoc (log_script asked.log (run_steps asked)) (record_script asked.record_file (run_numbers asked)) (Put (answer_text asked) ∷ [])

  -- the run or its record was stopped
  pub before_stopped : {T U : Type 0} {a b : Outside} {e : Stop} (r : Result U Stop) → IsErr r × IsErrAnd r (λ y. y ≡ e) → Wrote {T = T} before_answer a b (Err e) → Wrote (asked_script asked) a b r
  before_stopped r is w = wrote_as script_is (then_stopped (Put (answer_text asked) ∷ []) is w)

  module _ (text : List ℕ) (same : text ≡ answer_text asked) where
    -- the answer was not put
    pub answer_stopped : {T U V : Type 0} {a b c : Outside} {x : T} {e : Stop} (r : Result V Stop) → IsErr r × IsErrAnd r (λ y. y ≡ e) → Wrote {T = T} before_answer a b (Ok x) → Wrote {T = U} (Put text ∷ []) b c (Err e) → Wrote (asked_script asked) a c r
    answer_stopped r is w v = wrote_as script_is (then_rest w (stopped_so r is (wrote_as (ap (λ t. Put t ∷ []) same) v)))

    -- it was
    pub answered : {T U V : Type 0} {a b c : Outside} {x : T} {y : U} (z : V) → Wrote {T = T} before_answer a b (Ok x) → Wrote {T = U} (Put text ∷ []) b c (Ok y) → Wrote (asked_script asked) a c (Ok z)
    answered z w v = wrote_as script_is (then_rest w (as_ok z (wrote_as (ap (λ t. Put t ∷ []) same) v)))

-- ---- a run that was made

-- the log of a run of this problem
pub log_is : (asked : Asked) (r : LossyRunner) (n : ℕ) → order_of r ≡ asked.order → r.medium.problem ≡ ordered asked.order asked.problem → r.log.now ≡ asked.log
    → log_script r.log.now (steps_at (order_of r) r.medium.problem (words_of (csp_of r.medium.problem) (seeded_words asked.seed asked.events) n))
    ≡ log_script asked.log (steps_at asked.order (ordered asked.order asked.problem) (words_of (run_problem asked) (seeded_words asked.seed asked.events) n))
log_is asked r n d e f =
    ap (λ l. log_script l (steps_at (order_of r) r.medium.problem (words_of (csp_of r.medium.problem) (seeded_words asked.seed asked.events) n))) f
    ∙ ap (λ o. log_script asked.log (steps_at o r.medium.problem (words_of (csp_of r.medium.problem) (seeded_words asked.seed asked.events) n))) d
    ∙ ap (λ (Q : Contents). log_script asked.log (steps_at asked.order Q (words_of (csp_of Q) (seeded_words asked.seed asked.events) n))) e

module _ (asked : Asked) (r s : LossyRunner) (same : SameTask r s) (order : order_of r ≡ asked.order) (problem : r.medium.problem ≡ ordered asked.order asked.problem) (has : HasMade (words_of (csp_of r.medium.problem) (seeded_words asked.seed asked.events) most_calm) s) where
  abbrev made : List ℕ
  made = words_of (csp_of r.medium.problem) (seeded_words asked.seed asked.events) most_calm

  words_is : made ≡ run_words asked
  words_is = ap (λ (Q : Contents). words_of (csp_of Q) (seeded_words asked.seed asked.events) most_calm) problem

  world_is : reached s.medium made ≡ run_world asked
  world_is = ap (λ (Q : Contents). after (csp_of Q) made (begin (csp_of Q))) (same.problem ∙ problem) ∙ ap (λ l. after (run_problem asked) l (begin (run_problem asked))) words_is

  numbers_are : numbers_after s.medium made ≡ run_numbers asked
  numbers_are = ap (λ (Q : Contents). numbers (csp_of Q) made (begin (csp_of Q))) (same.problem ∙ problem) ∙ ap (λ l. numbers (run_problem asked) l (begin (run_problem asked))) words_is

  -- what was taken down
  pub taken_is : s.taken ≡ kept r.keep (run_numbers asked)
  taken_is = has.taken ∙ ap (λ b. kept b (numbers_after s.medium made)) same.keep ∙ ap (kept r.keep) numbers_are

  -- what is told of it
  pub is_ended : (outcome : Outcome) (events : ℕ) → ((words : List ℕ) → HasMade words s → let p = csp_of s.medium.problem in IsOutcome (order_of s) p (reached s.medium words).network (end_of p (reached s.medium words)) outcome)
      → events ≡ s.medium.events → IsEnded asked (record { outcome = outcome; events = events })
  is_ended outcome events gives counted =
      let mine = gives made has in
      let by_world = subst (λ (w : World). IsOutcome (order_of s) (csp_of s.medium.problem) w.network (end_of (csp_of s.medium.problem) w) outcome) world_is mine in
      let by_problem = subst (λ (Q : Contents). IsOutcome (order_of s) (csp_of Q) (run_world asked).network (end_of (csp_of Q) (run_world asked)) outcome) (same.problem ∙ problem) by_world in
      record {
        outcome = subst (λ o. IsOutcome o (run_problem asked) (run_world asked).network (end_of (run_problem asked) (run_world asked)) outcome) (same.order ∙ order) by_problem;
        events = counted ∙ has.after.events ∙ ap length words_is;
      }
