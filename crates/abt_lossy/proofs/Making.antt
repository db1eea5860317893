-- What callers see of the agents over the medium, before and after a call.
use Rattle.std.proofs.Common.{◌≡◌, ℕ, ◌+◌, ◌<◌, ◌^◌, Bool, true, false, cond, List, [], ◌∷◌, ◌++◌, length, length-append, option_to_list, refl, sym, ap, ◌∙◌, subst, arith}
use Rattle.dcsp_defs.specs.Csp.{Csp, IsCsp, HasNoSolution, count}
use Rattle.dcsp_rule.specs.Problems.{Contents, csp_of}
use Rattle.abt_defs.specs.Network.{Network as Net, run, start, ready, is_empty, IsSolved}
use Rattle.abt_network.specs.declared.Begun.{Begun}
use Rattle.abt_network.specs.declared.Standing.{Standing}
use Rattle.abt_network.specs.declared.Standing.TheVariants.{Open, Quiet, Refuted}
use Rattle.abt_network.specs.Standing as network
use Rattle.abt_network.specs.Standing.{NetworkState, StandsAt, Starts, standing_in}
use Rattle.abt_network.proofs.Quiet.{is_open}
use Rattle.law_runs.specs.Worlds.{World, begin, reliable, event, after}
use Rattle.law_runs.specs.Deliveries.{numbers}
use Rattle.law_runs.specs.LossyEnds.{is_quiet}
use Rattle.law_runs.proofs.WorldFacts.{facts_after, facts_begin}
use Rattle.law_runs.proofs.WorldRuns.{is_run, hands_up_in_order, handed_up_bounded, quiet_is_solved, steps_are_right}
use Rattle.law_runs.proofs.WholeWorlds.{one_more_event, is_whole, quiet_same}
use Rattle.abt_lossy.specs.declared.parts.Parts.{Parts}
use Rattle.abt_lossy.specs.declared.parts.Happened.{Happened}
use Rattle.abt_lossy.specs.AtWorld.{IsAt, IsBlank, IsReached, Does}
use Rattle.abt_lossy.specs.InWorld.{LossyState, standing_of, reached, IsIn, IsAfter, Begins, Happens, IsOrderly, CanHappen}
use Rattle.abt_lossy.specs.Kept.{shown, IsMade, IsKept, IsSound}

-- ---- what they are after

-- where some events lead here, any that are seen to lead here do
pub at_after : (p : Contents) (l : Parts) (events : ℕ) (spent : Bool) → IsMade p l events → (words : List ℕ) → IsAfter (shown p l events spent) words → IsAt (csp_of p) words l
at_after p l events spent made words a =
    let s = made.stands in
    record {
      problem = s.problem;
      network = subst (λ (n : Net). StandsAt l.network n) (is_run (csp_of p) words) a.world.network;
      carrier = a.world.carrier;
      agents = s.agents;
      senders = s.senders;
      marks = s.marks;
      begun = s.begun;
      sound = s.sound;
    }

pub after_at : (p : Contents) (l : Parts) (events : ℕ) (spent : Bool) (words : List ℕ) → IsAt (csp_of p) words l → events ≡ length words → IsAfter (shown p l events spent) words
after_at p l events spent words s e = record {
  world = record { network = subst (λ (n : Net). StandsAt l.network n) (sym (is_run (csp_of p) words)) s.network; carrier = s.carrier };
  events = e;
}

-- ---- before the start, and the start

pub blank_sound : (p : Contents) (l : Parts) → l.network.problem ≡ p → IsBlank l → IsSound p l 0 false
blank_sound p l e blank = record {
  problem = e;
  kept = λ _. record { sound = blank.sound; blank = λ _. blank; unused = λ _. refl; made = λ b. let z : true ≡ false = sym b ∙ blank.begun in cc };
}

-- the parts have started
pub record HasBegun (p : Contents) (l : Parts) (events : ℕ) (told : Begun) : Type 0 where
  pub kept : IsKept p l events
  pub stands : IsAt (csp_of p) [] l
  pub none : events ≡ 0
  pub starts : Starts p l.network told

pub has_begun : (p : Contents) (old new : Parts) (events : ℕ) (told : Begun) → old.network.problem ≡ p → IsKept p old events → old.network.begun ≡ false → IsAt (csp_of old.network.problem) [] new → Starts old.network.problem new.network told → HasBegun p new events told
has_begun p old new events told e kept fresh stands starts =
    let s : IsAt (csp_of p) [] new = subst (λ (q : Contents). IsAt (csp_of q) [] new) e stands in
    let none = kept.unused fresh in
    record {
      kept = record {
        sound = s.sound;
        blank = λ b. let z : true ≡ false = sym s.begun ∙ b in cc;
        unused = λ b. let z : true ≡ false = sym s.begun ∙ b in cc;
        made = λ b. record { words = []; stands = s; many = sym none };
      };
      stands = s;
      none = none;
      starts = subst (λ (q : Contents). Starts q new.network told) e starts;
    }

pub begins : (p : Contents) (l : Parts) (events : ℕ) (before spent : Bool) (old : Parts) (count : ℕ) (told : Begun) → HasBegun p l events told → Begins (shown p old count before) (shown p l events spent) told
begins p l events before spent old count told h = record { world = (after_at p l events spent [] h.stands h.none).world; starts = h.starts }

pub after_start : (p : Contents) (l : Parts) (events : ℕ) (spent : Bool) (told : Begun) → HasBegun p l events told → IsAfter (shown p l events spent) []
after_start p l events spent told h = after_at p l events spent [] h.stands h.none

-- ---- an event

alive_by : (q : Csp) (words : List ℕ) (s : NetworkState) → s.refuted ≡ false → StandsAt s (run q (numbers q words (begin q)) (start q)) → (after q words (begin q)).network.refuted ≡ false
alive_by q words s f h = ap (λ (n : Net). n.refuted) (is_run q words) ∙ sym h.refuted ∙ f

-- where an event can be made, some events lead here, which refuted nothing and are not many
pub can_be_made : (p : Contents) (l : Parts) (events : ℕ) (spent : Bool) → IsKept p l events → CanHappen (shown p l events spent) → IsReached l
can_be_made p l events spent kept can =
    let made = kept.made can.begun in
    let few = can.few in
    let many = made.many in
    record { p = csp_of p; words = made.words; stands = made.stands; alive = alive_by (csp_of p) made.words l.network (is_open l.network can.open_).0 made.stands.network; few = omega (arith, few, many) }

pub happens : (p : Contents) (old new : Parts) (events : ℕ) (before later : Bool) (word : ℕ) (happened : Happened) → IsKept p old events → CanHappen (shown p old events before) → Does word happened old new
    → (words : List ℕ) → IsAfter (shown p old events before) words → Happens (shown p old events before) (shown p new (events + 1) later) words word happened
happens p old new events before later word happened kept can does words a =
    let s = at_after p old events before (kept.made can.begun) words a in
    let alive = alive_by (csp_of p) words old.network (is_open old.network can.open_).0 s.network in
    let did = does (csp_of p) words s alive in
    let many = a.events in
    let longer = length-append words (word ∷ []) in
    record {
      after = after_at p new (events + 1) later (words ++ word ∷ []) did.stands (omega (arith, many, longer));
      world = (one_more_event (csp_of p) words word alive).next;
      delivered = sym did.delivered;
      numbers = (one_more_event (csp_of p) words word alive).numbers ∙ ap (λ o. numbers (csp_of p) words (begin (csp_of p)) ++ option_to_list o) did.delivered;
      steps = did.steps;
      right = did.right;
      in_range = did.in_range;
    }

-- after an event the parts are kept
pub keeps : (p : Contents) (old new : Parts) (events : ℕ) (spent : Bool) (word : ℕ) (happened : Happened) → IsKept p old events → CanHappen (shown p old events spent) → Does word happened old new → IsKept p new (events + 1)
keeps p old new events spent word happened kept can does =
    let made = kept.made can.begun in
    let alive = alive_by (csp_of p) made.words old.network (is_open old.network can.open_).0 made.stands.network in
    let s = (does (csp_of p) made.words made.stands alive).stands in
    let many = made.many in
    let longer = length-append made.words (word ∷ []) in
    record {
      sound = s.sound;
      blank = λ e. let z : true ≡ false = sym s.begun ∙ e in cc;
      unused = λ e. let z : true ≡ false = sym s.begun ∙ e in cc;
      made = λ e. record { words = made.words ++ word ∷ []; stands = s; many = omega (arith, many, longer) };
    }

-- and has begun
pub still_begun : (p : Contents) (old new : Parts) (events : ℕ) (spent : Bool) (word : ℕ) (happened : Happened) → IsKept p old events → CanHappen (shown p old events spent) → Does word happened old new → new.network.begun ≡ true
still_begun p old new events spent word happened kept can does =
    let made = kept.made can.begun in
    (does (csp_of p) made.words made.stands (alive_by (csp_of p) made.words old.network (is_open old.network can.open_).0 made.stands.network)).stands.begun

-- what callers have seen to hold
pub can_of : (s t : LossyState) → s ≡ t → (t.spent ≡ false → CanHappen t) → s.spent ≡ false → CanHappen s
can_of s t e h = subst (λ (z : LossyState). z.spent ≡ false → CanHappen z) (sym e) h

pub orderly : (q : Csp) → IsCsp q → (words : List ℕ) → IsOrderly q words (after q words (begin q))
orderly q ok words = record {
  in_order = hands_up_in_order q words;
  run = is_run q words;
  whole = is_whole q words;
  bounded = handed_up_bounded q ok words;
  steps = steps_are_right q ok words;
  solved = quiet_is_solved q ok words;
}

-- ---- how they stand

pub stands_as : (p : Contents) (l : Parts) (events : ℕ) (spent : Bool) (standing : Standing) → IsSound p l events spent → ((net : Net) → StandsAt l.network net → l.network.spent ≡ false → standing ≡ network.standing_of (csp_of l.network.problem) net)
    → (words : List ℕ) → IsAfter (shown p l events spent) words → spent ≡ false → standing ≡ standing_of (csp_of p) (after (csp_of p) words (begin (csp_of p)))
stands_as p l events spent standing sound machine words a f =
    let q = csp_of p in
    let w = after q words (begin q) in
    machine (reliable w) a.world.network (sound.kept f).sound
    ∙ ap (λ (c : Contents). network.standing_of (csp_of c) (reliable w)) sound.problem ∙ ap (λ b. cond w.network.refuted Refuted (cond b Quiet Open)) (quiet_same q w (facts_after q words (begin q) (facts_begin q)))

quiet_tells : (r q : Bool) → cond r Refuted (cond q Quiet Open) ≡ Quiet → (r ≡ false) × (q ≡ true)
quiet_tells true q h = cc
quiet_tells false true h = (refl, refl)
quiet_tells false false h = cc

refuted_tells : (r q : Bool) → cond r Refuted (cond q Quiet Open) ≡ Refuted → r ≡ true
refuted_tells true q h = refl
refuted_tells false true h = cc
refuted_tells false false h = cc

pub quiet_solves : (q : Csp) → IsCsp q → (words : List ℕ) → standing_of q (after q words (begin q)) ≡ Quiet → IsSolved q (after q words (begin q)).network
quiet_solves q ok words h =
    let w = after q words (begin q) in
    let t = quiet_tells w.network.refuted (is_quiet q w) h in
    quiet_is_solved q ok words t.0 t.1

pub refuted_has_none : (q : Csp) → IsCsp q → (words : List ℕ) → standing_of q (after q words (begin q)) ≡ Refuted → HasNoSolution q
refuted_has_none q ok words h =
    let w = after q words (begin q) in
    (steps_are_right q ok words).no_solution (refuted_tells w.network.refuted (is_quiet q w) h)
