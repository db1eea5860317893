-- The loop over the events of a seed.
use Rattle.std.proofs.Common.{◌≡◌, ◌⊎◌, inl, inr, ℕ, ◌+◌, ◌<◌, ◌≤◌, Bool, false, true, List, [], ◌∷◌, ◌++◌, length, length-append, map, drop, Result, Ok, Err, refl, sym, ap, ◌∙◌, arith}
use Rattle.std.specs.Prelude.{IsErr, IsErrAnd}
use Rattle.dcsp_outside.specs.Outside.{Place, Stream}
use Rattle.dcsp_defs.specs.Words.{below}
use Rattle.dcsp_rule.specs.Problems.{Contents, csp_of}
use Rattle.dcsp_script.specs.declared.stop.Stop.{Stop}
use Rattle.dcsp_script.specs.Scripts.{outside}
use Rattle.dcsp_script.specs.Ways.{Wrote}
use Rattle.law_runs.specs.LossyEnds.{has_verdict}
use Rattle.line_lossy.specs.Runners.{HasMade, SameTask}
use Rattle.line_lossy.specs.declared.runner.LossyRunner.{LossyRunner}
use Rattle.line_lossy.proofs.Worlds.{none_used}
use Rattle.line_lossy.proofs.Turns.{WritesEvent, Stands, world_at, from_to, Turn, first_turn, next_turn, turn_stopped, all_written, all_made, seeds_left, next_seed, no_seed}

-- so many of them were made, and no verdict stood before
pub record SeedLoop (f : ℕ → ℕ) (n k : ℕ) (old new : LossyRunner) (a b : Place) : Type 0 where
  pub words : List ℕ
  pub long : length words ≡ k
  pub turn : Turn [] (seeds_left old.medium.problem f n 0 []) words (seeds_left old.medium.problem f n k words) old new a b

pub seed_init : (f : ℕ → ℕ) (n : ℕ) (r : LossyRunner) (a : Place) → HasMade [] r → SeedLoop f n 0 r r a a
seed_init f n r a h = record { words = []; long = refl; turn = first_turn [] (seeds_left r.medium.problem f n 0 []) (seeds_left r.medium.problem f n 0 []) r a h refl }

module _ (f : ℕ → ℕ) (n k : ℕ) (old mid : LossyRunner) (a b : Place) (l : SeedLoop f n k old mid a b) where
  abbrev P : Contents
  P = old.medium.problem

  abbrev whole : List ℕ
  whole = seeds_left old.medium.problem f n 0 []

  verdict : (answer : Bool) → Stands mid answer → answer ≡ has_verdict (csp_of old.medium.problem) (world_at old.medium.problem l.words)
  verdict answer h = h l.words l.turn.has ∙ ap (λ (Q : Contents). has_verdict (csp_of Q) (world_at Q l.words)) l.turn.same.problem

  module _ (x : ℕ) (is : x ≡ f k) (small : k < n) (open_ : Stands mid false) where
    first_is : seeds_left old.medium.problem f n k l.words ≡ x ∷ seeds_left old.medium.problem f n (k + 1) (l.words ++ x ∷ [])
    first_is = next_seed old.medium.problem f n k l.words small (sym (verdict false open_)) ∙ ap (λ y. y ∷ seeds_left old.medium.problem f n (k + 1) (l.words ++ y ∷ [])) (sym is)

    pub seed_next : {T : Type 0} (y : T) (new : LossyRunner) (c : Place) → WritesEvent x mid b c (Ok y) → ((words : List ℕ) → HasMade words mid → HasMade (words ++ x ∷ []) new) → SameTask mid new → c.created ≡ b.created → SeedLoop f n (k + 1) old new a c
    seed_next y new c wrote made same created = record {
      words = l.words ++ x ∷ [];
      long = let e = length-append l.words (x ∷ []) in let h = l.long in omega (arith, e, h);
      turn = next_turn [] whole l.words (seeds_left old.medium.problem f n k l.words) old mid a b l.turn x (seeds_left old.medium.problem f n (k + 1) (l.words ++ x ∷ [])) first_is y new c (λ out. wrote l.words out l.turn.has) (made l.words l.turn.has) same created;
    }

    pub seed_stopped : {T U : Type 0} {e : Stop} (r : Result U Stop) (c : Place) → IsErr r × IsErrAnd r (λ y. y ≡ e) → WritesEvent {T = T} x mid b c (Err e) → (out : Stream) → Wrote (from_to old [] (seeds_left old.medium.problem f n 0 [])) (outside a out) (outside c out) r
    seed_stopped {T = T} {e = e} r c is_err wrote =
        turn_stopped [] whole l.words (seeds_left old.medium.problem f n k l.words) old mid a b l.turn x (seeds_left old.medium.problem f n (k + 1) (l.words ++ x ∷ [])) first_is {T = T} {e = e} r c is_err (λ out. wrote l.words out l.turn.has)

  -- a verdict stands, or all were made
  pub no_more_seeds : (Stands mid true) ⊎ (n ≤ k) → seeds_left old.medium.problem f n k l.words ≡ []
  no_more_seeds (inl h) = none_used (csp_of old.medium.problem) (drop k (map f (below n))) (world_at old.medium.problem l.words) (sym (verdict true h))
  no_more_seeds (inr h) = no_seed old.medium.problem f n k l.words h

  pub seeds_written : {T : Type 0} (y : T) → (Stands mid true) ⊎ (n ≤ k) → (out : Stream) → Wrote (from_to old [] (seeds_left old.medium.problem f n 0 [])) (outside a out) (outside b out) (Ok y)
  seeds_written y h = all_written [] whole l.words (seeds_left old.medium.problem f n k l.words) old mid a b l.turn (no_more_seeds h) y

  pub seeds_made : (Stands mid true) ⊎ (n ≤ k) → HasMade (seeds_left old.medium.problem f n 0 []) mid
  seeds_made h = all_made [] whole l.words (seeds_left old.medium.problem f n k l.words) old mid a b l.turn (no_more_seeds h)
