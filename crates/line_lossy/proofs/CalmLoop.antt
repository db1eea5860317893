-- The loop over calm events.
use Rattle.std.proofs.Common.{◌≡◌, ◌⊎◌, inl, inr, ℕ, ◌+◌, ◌-◌, ◌<◌, ◌≤◌, Bool, false, true, List, [], ◌∷◌, ◌++◌, length, length-append, Result, Ok, Err, sym, ap, ◌∙◌, arith}
use Rattle.std.specs.Prelude.{IsErr, IsErrAnd}
use Rattle.dcsp_outside.specs.Outside.{Place, Stream}
use Rattle.dcsp_rule.specs.Problems.{Contents, csp_of}
use Rattle.dcsp_script.specs.declared.stop.Stop.{Stop}
use Rattle.dcsp_script.specs.Scripts.{outside}
use Rattle.dcsp_script.specs.Ways.{Wrote}
use Rattle.law_runs.specs.LossyEnds.{has_verdict, calm_word}
use Rattle.abt_lossy.specs.InWorld.{reached}
use Rattle.line_lossy.specs.Runners.{HasMade, SameTask}
use Rattle.line_lossy.specs.declared.runner.LossyRunner.{LossyRunner}
use Rattle.line_lossy.proofs.Worlds.{none_calm}
use Rattle.line_lossy.proofs.Turns.{WritesEvent, Stands, world_at, from_to, Turn, first_turn, next_turn, turn_stopped, all_written, all_made, calm_left, next_calm, no_calm}

-- so many were made after the first words, and no verdict stood before
pub record CalmLoop (first : List ℕ) (n k : ℕ) (old new : LossyRunner) (a b : Place) : Type 0 where
  pub words : List ℕ
  pub long : length words ≡ length first + k
  pub turn : Turn first (first ++ calm_left old.medium.problem n first) words (calm_left old.medium.problem (n - k) words) old new a b

pub calm_init : (first : List ℕ) (n : ℕ) (r : LossyRunner) (a : Place) → HasMade first r → CalmLoop first n 0 r r a a
calm_init first n r a h = record {
  words = first;
  long = omega arith;
  turn = let e : n - 0 ≡ n = omega arith in first_turn first (first ++ calm_left r.medium.problem n first) (calm_left r.medium.problem (n - 0) first) r a h (ap (λ m. first ++ calm_left r.medium.problem m first) e);
}

module _ (first : List ℕ) (n k : ℕ) (old mid : LossyRunner) (a b : Place) (l : CalmLoop first n k old mid a b) where
  abbrev whole : List ℕ
  whole = first ++ calm_left old.medium.problem n first

  verdict : (answer : Bool) → Stands mid answer → answer ≡ has_verdict (csp_of old.medium.problem) (world_at old.medium.problem l.words)
  verdict answer h = h l.words l.turn.has ∙ ap (λ (Q : Contents). has_verdict (csp_of Q) (world_at Q l.words)) l.turn.same.problem

  module _ (x : ℕ) (is : (words : List ℕ) → HasMade words mid → x ≡ calm_word (reached mid.medium words)) (small : k < n) (open_ : Stands mid false) where
    first_is : calm_left old.medium.problem (n - k) l.words ≡ x ∷ calm_left old.medium.problem (n - (k + 1)) (l.words ++ x ∷ [])
    first_is =
        let same : x ≡ calm_word (world_at old.medium.problem l.words) = is l.words l.turn.has ∙ ap (λ (Q : Contents). calm_word (world_at Q l.words)) l.turn.same.problem in
        next_calm old.medium.problem n k l.words small (sym (verdict false open_)) ∙ ap (λ y. y ∷ calm_left old.medium.problem (n - (k + 1)) (l.words ++ y ∷ [])) (sym same)

    pub calm_next : {T : Type 0} (y : T) (new : LossyRunner) (c : Place) → WritesEvent x mid b c (Ok y) → ((words : List ℕ) → HasMade words mid → HasMade (words ++ x ∷ []) new) → SameTask mid new → c.created ≡ b.created → CalmLoop first n (k + 1) old new a c
    calm_next y new c wrote made same created = record {
      words = l.words ++ x ∷ [];
      long = let e = length-append l.words (x ∷ []) in let h = l.long in omega (arith, e, h);
      turn = next_turn first whole l.words (calm_left old.medium.problem (n - k) l.words) old mid a b l.turn x (calm_left old.medium.problem (n - (k + 1)) (l.words ++ x ∷ [])) first_is y new c (λ out. wrote l.words out l.turn.has) (made l.words l.turn.has) same created;
    }

    pub calm_stopped : {T U : Type 0} {e : Stop} (r : Result U Stop) (c : Place) → IsErr r × IsErrAnd r (λ y. y ≡ e) → WritesEvent {T = T} x mid b c (Err e) → (out : Stream) → Wrote (from_to old first (first ++ calm_left old.medium.problem n first)) (outside a out) (outside c out) r
    calm_stopped {T = T} {e = e} r c is_err wrote =
        turn_stopped first whole l.words (calm_left old.medium.problem (n - k) l.words) old mid a b l.turn x (calm_left old.medium.problem (n - (k + 1)) (l.words ++ x ∷ [])) first_is {T = T} {e = e} r c is_err (λ out. wrote l.words out l.turn.has)

  -- a verdict stands, or all were made
  pub no_more_calm : (Stands mid true) ⊎ (n ≤ k) → calm_left old.medium.problem (n - k) l.words ≡ []
  no_more_calm (inl h) = none_calm (csp_of old.medium.problem) (n - k) (world_at old.medium.problem l.words) (sym (verdict true h))
  no_more_calm (inr h) = no_calm old.medium.problem n k l.words h

  pub calm_written : {T : Type 0} (y : T) → (Stands mid true) ⊎ (n ≤ k) → (out : Stream) → Wrote (from_to old first (first ++ calm_left old.medium.problem n first)) (outside a out) (outside b out) (Ok y)
  calm_written y h = all_written first whole l.words (calm_left old.medium.problem (n - k) l.words) old mid a b l.turn (no_more_calm h) y

  pub calm_made : (Stands mid true) ⊎ (n ≤ k) → HasMade (first ++ calm_left old.medium.problem n first) mid
  calm_made h = all_made first whole l.words (calm_left old.medium.problem (n - k) l.words) old mid a b l.turn (no_more_calm h)
