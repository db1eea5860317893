-- The events of a run, made one by one.
use Rattle.std.proofs.Common.{◌≡◌, ℕ, suc, ◌+◌, ◌-◌, ◌<◌, ◌≤◌, false, true, List, [], ◌∷◌, ◌++◌, map, drop, Option, Result, Ok, Err, append-nil, append_assoc, refl, sym, ap, subst, ◌∙◌, arith}
use Rattle.std.specs.Prelude.{Bool, IsErr, IsErrAnd, ◌||◌}
use Rattle.std.proofs.lemmas.List.{drop_all}
use Rattle.dcsp_outside.specs.Outside.{Place, Stream}
use Rattle.dcsp_defs.specs.Csp.{Csp}
use Rattle.dcsp_defs.specs.Words.{below}
use Rattle.dcsp_defs.specs.declared.Step.{Step}
use Rattle.dcsp_rule.specs.Problems.{Contents, csp_of}
use Rattle.dcsp_problem.proofs.OwnerLists.{length-map_below}
use Rattle.dcsp_script.specs.declared.stop.Stop.{Stop}
use Rattle.dcsp_script.specs.Scripts.{Write, outside}
use Rattle.dcsp_script.specs.Ways.{Wrote}
use Rattle.dcsp_script.specs.Left.{HasLeft}
use Rattle.dcsp_script.proofs.Left.{left_all, left_more, left_stopped, left_ends}
use Rattle.dcsp_script.proofs.Ways.{did_nothing}
use Rattle.law_runs.specs.Worlds.{World, begin, event, after}
use Rattle.law_runs.specs.LossyEnds.{has_verdict, is_quiet, used, calm_word, calm_words}
use Rattle.law_runs.proofs.WholeWorlds.{one_more_event}
use Rattle.abt_lossy.specs.InWorld.{reached}
use Rattle.abt_session.proofs.Pieces.{wrote_as}
use Rattle.dcsp_order.specs.Told.{steps_told}
use Rattle.line_lossy.specs.Runners.{new_writes, order_of, writes_between, HasMade, SameTask}
use Rattle.line_lossy.specs.declared.runner.LossyRunner.{LossyRunner}
use Rattle.line_lossy.proofs.Worlds.{Grown, more_grows, told_grown, new_both, none_new, first_left, first_used, first_calm}

-- the steps after these events, told in own numbers
abbrev pub steps_at : Option (List ℕ) → Contents → List ℕ → List Step
steps_at order P words = steps_told order (after (csp_of P) words (begin (csp_of P))).network.steps

-- more words, more steps
pub more_told : (order : Option (List ℕ)) (P : Contents) (xs ys : List ℕ) → Grown (steps_at order P xs) (steps_at order P (xs ++ ys))
more_told order P xs ys =
    told_grown order (after (csp_of P) xs (begin (csp_of P))).network.steps (after (csp_of P) (xs ++ ys) (begin (csp_of P))).network.steps (more_grows (csp_of P) xs ys (begin (csp_of P)))

-- the world after these events
abbrev pub world_at : Contents → List ℕ → World
world_at P words = after (csp_of P) words (begin (csp_of P))

-- what more words make
abbrev pub from_to : LossyRunner → List ℕ → List ℕ → List Write
from_to r first words = new_writes r.log.now (steps_at (order_of r) r.medium.problem first) (steps_at (order_of r) r.medium.problem words)

-- The events of these words were made, from those of the first on; other words are to come, and their lines are left.
pub record Turn (first whole words more : List ℕ) (old new : LossyRunner) (a b : Place) : Type 0 where
  pub joined : words ++ more ≡ whole
  pub has : HasMade words new
  pub left : (out : Stream) → HasLeft (from_to old first whole) (from_to old words whole) (outside a out) (outside b out)
  pub same : SameTask old new
  pub created : b.created ≡ a.created

-- no event was made
pub first_turn : (first whole more : List ℕ) (r : LossyRunner) (a : Place) → HasMade first r → first ++ more ≡ whole → Turn first whole first more r r a a
first_turn first whole more r a h e = record {
  joined = e;
  has = h;
  left = λ out. left_all (from_to r first whole) (outside a out);
  same = record { order = refl; problem = refl; log = refl; keep = refl };
  created = refl;
}

module _ (first whole words more : List ℕ) (old mid : LossyRunner) (a b : Place) (t : Turn first whole words more old mid a b) (x : ℕ) (rest : List ℕ) (is : more ≡ x ∷ rest) where
  abbrev next : List ℕ
  next = words ++ x ∷ []

  joined : next ++ rest ≡ whole
  joined = append_assoc words (x ∷ []) rest ∙ ap (λ l. words ++ l) (sym is) ∙ t.joined

  -- the line of the next event comes first
  lines : from_to old words whole ≡ from_to old words next ++ from_to old next whole
  lines =
      let o = order_of old in
      let P = old.medium.problem in
      new_both old.log.now (steps_at o P words) (steps_at o P next) (steps_at o P whole) (more_told o P words (x ∷ [])) (subst (λ l. Grown (steps_at o P next) (steps_at o P l)) joined (more_told o P next rest))

  same_lines : from_to mid words next ≡ from_to old words next
  same_lines =
      ap (λ l. new_writes l (steps_at (order_of mid) mid.medium.problem words) (steps_at (order_of mid) mid.medium.problem next)) t.same.log
      ∙ ap (λ o. new_writes old.log.now (steps_at o mid.medium.problem words) (steps_at o mid.medium.problem next)) t.same.order
      ∙ ap (λ P. new_writes old.log.now (steps_at (order_of old) P words) (steps_at (order_of old) P next)) t.same.problem

  -- it was made
  pub next_turn : {T : Type 0} (y : T) (new : LossyRunner) (c : Place) → ((out : Stream) → Wrote (from_to mid words next) (outside b out) (outside c out) (Ok y)) → HasMade next new → SameTask mid new → c.created ≡ b.created → Turn first whole next rest old new a c
  next_turn y new c wrote has same created = record {
    joined = joined;
    has = has;
    left = λ out. left_more (from_to old words whole) lines (t.left out) (wrote_as same_lines (wrote out));
    same = record { order = same.order ∙ t.same.order; problem = same.problem ∙ t.same.problem; log = same.log ∙ t.same.log; keep = same.keep ∙ t.same.keep };
    created = created ∙ t.created;
  }

  -- it was stopped
  pub turn_stopped : {T U : Type 0} {e : Stop} (r : Result U Stop) (c : Place) → IsErr r × IsErrAnd r (λ y. y ≡ e) → ((out : Stream) → Wrote {T = T} (from_to mid words next) (outside b out) (outside c out) (Err e)) → (out : Stream) → Wrote (from_to old first whole) (outside a out) (outside c out) r
  turn_stopped {T = T} r c is_err wrote out = left_stopped {T = T} (from_to old next whole) (from_to old words whole) r lines is_err (t.left out) (wrote_as same_lines (wrote out))

-- none is to come
module _ (first whole words more : List ℕ) (old new : LossyRunner) (a b : Place) (t : Turn first whole words more old new a b) (none : more ≡ []) where
  all : words ≡ whole
  all = sym (append-nil words) ∙ ap (λ l. words ++ l) (sym none) ∙ t.joined

  pub all_written : {T : Type 0} (y : T) (out : Stream) → Wrote (from_to old first whole) (outside a out) (outside b out) (Ok y)
  all_written y out =
      left_ends (from_to old words whole) (ap (λ l. from_to old l whole) all ∙ none_new old.log.now (steps_at (order_of old) old.medium.problem whole)) (t.left out) (record { ended = did_nothing (outside b out); handed = refl })

  pub all_made : HasMade whole new
  all_made = subst (λ l. HasMade l new) all t.has

-- ---- the words to come

-- of the words of a seed
abbrev pub seeds_left : Contents → (ℕ → ℕ) → ℕ → ℕ → List ℕ → List ℕ
seeds_left P f n k words = used (csp_of P) (drop k (map f (below n))) (world_at P words)

-- of calm ones
abbrev pub calm_left : Contents → ℕ → List ℕ → List ℕ
calm_left P n words = calm_words (csp_of P) n (world_at P words)

not_refuted : (p : Csp) (w : World) → has_verdict p w ≡ false → w.network.refuted ≡ false
not_refuted p w h = by_tests w.network.refuted refl
  where
    by_tests : (b : Bool) → w.network.refuted ≡ b → w.network.refuted ≡ false
    by_tests true e = let z : true ≡ false = sym (ap (λ c. c || is_quiet p w) e) ∙ h in cc
    by_tests false e = e

-- one event more
one_more : (P : Contents) (words : List ℕ) (x : ℕ) → has_verdict (csp_of P) (world_at P words) ≡ false → event (csp_of P) x (world_at P words) ≡ world_at P (words ++ x ∷ [])
one_more P words x h = sym (one_more_event (csp_of P) words x (not_refuted (csp_of P) (world_at P words) h)).next

pub next_seed : (P : Contents) (f : ℕ → ℕ) (n k : ℕ) (words : List ℕ) → k < n → has_verdict (csp_of P) (world_at P words) ≡ false → seeds_left P f n k words ≡ f k ∷ seeds_left P f n (k + 1) (words ++ f k ∷ [])
next_seed P f n k words l h =
    ap (λ r. used (csp_of P) r (world_at P words)) (first_left f n k l) ∙ first_used (csp_of P) (f k) (drop (k + 1) (map f (below n))) (world_at P words) h
    ∙ ap (λ w. f k ∷ used (csp_of P) (drop (k + 1) (map f (below n))) w) (one_more P words (f k) h)

pub no_seed : (P : Contents) (f : ℕ → ℕ) (n k : ℕ) (words : List ℕ) → n ≤ k → seeds_left P f n k words ≡ []
no_seed P f n k words l =
    let long = length-map_below f n in
    ap (λ r. used (csp_of P) r (world_at P words)) (drop_all k (map f (below n)) (omega (arith, long, l)))

pub next_calm : (P : Contents) (n k : ℕ) (words : List ℕ) → k < n → has_verdict (csp_of P) (world_at P words) ≡ false → calm_left P (n - k) words ≡ calm_word (world_at P words) ∷ calm_left P (n - (k + 1)) (words ++ calm_word (world_at P words) ∷ [])
next_calm P n k words l h =
    let m : n - k ≡ suc (n - (k + 1)) = omega (arith, l) in
    ap (λ i. calm_words (csp_of P) i (world_at P words)) m ∙ first_calm (csp_of P) (n - (k + 1)) (world_at P words) h
    ∙ ap (λ w. calm_word (world_at P words) ∷ calm_words (csp_of P) (n - (k + 1)) w) (one_more P words (calm_word (world_at P words)) h)

pub no_calm : (P : Contents) (n k : ℕ) (words : List ℕ) → n ≤ k → calm_left P (n - k) words ≡ []
no_calm P n k words l = let m : n - k ≡ 0 = omega (arith, l) in ap (λ i. calm_words (csp_of P) i (world_at P words)) m

-- ---- what a loop knows

-- what making the event of this word writes, with this result
abbrev pub WritesEvent : {T : Type 0} → ℕ → LossyRunner → Place → Place → Result T Stop → Type 0
WritesEvent x r b c result = (words : List ℕ) (out : Stream) → HasMade words r → Wrote (writes_between r words (words ++ x ∷ [])) (outside b out) (outside c out) result

-- whether a verdict stands
abbrev pub Stands : LossyRunner → Bool → Type 0
Stands r answer = (words : List ℕ) → HasMade words r → answer ≡ has_verdict (csp_of r.medium.problem) (reached r.medium words)
