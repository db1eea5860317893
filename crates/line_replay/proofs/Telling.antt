-- The answer is put last.
use Rattle.std.proofs.Common.{◌≡◌, ℕ, List, [], ◌∷◌, ◌++◌, Some, None, Result, Ok, Err, sym, ap, ◌∙◌}
use Rattle.std.specs.Prelude.{Bool, Option, IsErr, IsErrAnd}
use Rattle.dcsp_script.specs.declared.stop.Stop.{Stop}
use Rattle.dcsp_script.specs.Scripts.{Write, Put, World}
use Rattle.dcsp_script.specs.Ways.{Wrote}
use Rattle.dcsp_script.proofs.Lines.{then_rest, then_stopped}
use Rattle.dcsp_rule.specs.Problems.{Contents}
use Rattle.abt_session.specs.Running.{Gives}
use Rattle.abt_session.specs.declared.outcome.Outcome.{Outcome}
use Rattle.abt_session.proofs.Pieces.{wrote_as, stopped_so}
use Rattle.line_replay.specs.Endings.{ending_text, unused_text}
use Rattle.line_replay.specs.Outcomes.{outcome_text}
use Rattle.line_replay.specs.Settings.{Settings}
use Rattle.line_replay.specs.Asked.{Asked, asked_run, answer_text, left_over, asked_script, replay, solve}
use Rattle.line_replay.proofs.Outcomes.{text_is}
use Rattle.line_replay.proofs.Scripts.{before_answer, script_is}

-- what was made is made, whatever it gives
pub as_ok : {T U : Type 0} {s : List Write} {a b : World} {x : T} (y : U) → Wrote {T = T} s a b (Ok x) → Wrote s a b (Ok y)
as_ok y w = record { ended = w.ended; handed = w.handed }

module _ (asked : Asked) where
  -- the run or its record was stopped
  pub before_stopped : {T U : Type 0} {a b : World} {e : Stop} (r : Result U Stop) → IsErr r × IsErrAnd r (λ y. y ≡ e) → Wrote {T = T} (before_answer asked) a b (Err e) → Wrote (asked_script asked) a b r
  before_stopped r is w = wrote_as (sym (script_is asked)) (then_stopped (Put (answer_text asked) ∷ []) is w)

  module _ (text : List ℕ) (text_is : text ≡ answer_text asked) where
    -- the answer was not put
    pub answer_stopped : {T U V : Type 0} {a b c : World} {x : T} {e : Stop} (r : Result V Stop) → IsErr r × IsErrAnd r (λ y. y ≡ e) → Wrote {T = T} (before_answer asked) a b (Ok x) → Wrote {T = U} (Put text ∷ []) b c (Err e) → Wrote (asked_script asked) a c r
    answer_stopped r is w v = wrote_as (sym (script_is asked)) (then_rest w (stopped_so r is (wrote_as (ap (λ t. Put t ∷ []) text_is) v)))

    -- it was
    pub answered : {T U V : Type 0} {a b c : World} {x : T} {y : U} (z : V) → Wrote {T = T} (before_answer asked) a b (Ok x) → Wrote {T = U} (Put text ∷ []) b c (Ok y) → Wrote (asked_script asked) a c (Ok z)
    answered z w v = wrote_as (sym (script_is asked)) (then_rest w (as_ok z (wrote_as (ap (λ t. Put t ∷ []) text_is) v)))

-- what is put is the answer
pub replay_text : (order : Option (List ℕ)) (p : Contents) (choices log : List ℕ) (trace : Bool) (outcome : Outcome) (left : ℕ) → Gives (replay order p choices log trace).session outcome → left ≡ left_over choices (asked_run (replay order p choices log trace)) → outcome_text p outcome ++ unused_text (Some left) ≡ answer_text (replay order p choices log trace)
replay_text order p choices log trace outcome left h e =
    ap (λ t. t ++ unused_text (Some left)) (text_is order p (asked_run (replay order p choices log trace)) outcome h)
    ∙ ap (λ n. ending_text order p (asked_run (replay order p choices log trace)) ++ unused_text (Some n)) e

pub solve_text : (order : Option (List ℕ)) (p : Contents) (log : List ℕ) (s : Settings) (outcome : Outcome) → Gives (solve order p log s).session outcome → outcome_text p outcome ++ unused_text None ≡ answer_text (solve order p log s)
solve_text order p log s outcome h = ap (λ t. t ++ unused_text None) (text_is order p (asked_run (solve order p log s)) outcome h)
