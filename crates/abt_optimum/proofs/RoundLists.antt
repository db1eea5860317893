-- Lists of rounds: their last one, and one round more.
use Rattle.std.proofs.Common.{◌≡◌, ◌∙◌, ℕ, zero, suc, ◌-◌, ◌<◌, ◌||◌, not, Bool, true, false, List, [], ◌∷◌, ◌++◌, length, take, slice_get, Option, Some, None, refl, sym, ap, subst, inl, inr, arith}
use Rattle.std.specs.Prelude.{◌↔◌, ℤ, is_none, option_map, IsSome}
use Rattle.std.specs.Option.{option_map_or}
use Rattle.std.proofs.lemmas.List.{length-append, length-take-le}
use Rattle.dcsp_rule.specs.declared.aim.Aim.{Aim}
use Rattle.dcsp_rule.specs.Problems.{Contents}
use Rattle.dcsp_rule.specs.Aims.{aimed_at}
use Rattle.dcsp_defs.proofs.Lists.{get-last, get-more}
use Rattle.abt_defs.specs.declared.end.End.{End}
use Rattle.abt_defs.specs.declared.end.End.TheVariants.{Solved, Refuted, Spent, Capped}
use Rattle.abt_optimum.specs.declared.round.Known.{Known}
use Rattle.abt_optimum.specs.declared.round.Round.{Round}
use Rattle.abt_optimum.specs.Halves.{next_value}
use Rattle.abt_optimum.specs.Rounds.{last_round, known_at_first, known_after, known_of, best_value, aim_values, better_than, is_beyond, ends_search, is_last, is_done, Follows, AreRounds}
use Rattle.abt_optimum.specs.Searches.{SearchState, next_better}
use Rattle.abt_optimum.specs.Outcomes.{refuted_first, BeginsRefuted}

-- the last of a list with one more is that one
pub last_more : (rounds : List Round) (round : Round) → last_round (rounds ++ round ∷ []) ≡ Some round
last_more rounds round =
    let size : length (rounds ++ round ∷ []) - 1 ≡ length rounds = omega (arith, length-append rounds (round ∷ [])) in
    ap (slice_get (rounds ++ round ∷ [])) size ∙ get-last rounds round

get_first : (rounds : List Round) (j k : ℕ) → j < k → slice_get (take k rounds) j ≡ slice_get rounds j
get_first rounds j zero l = absurd (omega arith)
get_first [] j (suc k) l = refl
get_first (x ∷ xs) zero (suc k) l = refl
get_first (x ∷ xs) (suc j) (suc k) l = get_first xs j k (omega arith)

-- the last of the first rounds
pub last_first : (rounds : List Round) (j : ℕ) → j < length rounds → last_round (take (suc j) rounds) ≡ slice_get rounds j
last_first rounds j l =
    let size : length (take (suc j) rounds) - 1 ≡ j = omega (arith, length-take-le (suc j) rounds (omega arith)) in
    ap (slice_get (take (suc j) rounds)) size ∙ get_first rounds j (suc j) (omega arith)

pub no_rounds : (halves : Bool) (p : Contents) → AreRounds halves p []
no_rounds halves p k round e = cc

pub rounds_more : (halves : Bool) (p : Contents) (rounds : List Round) (round : Round) → AreRounds halves p rounds → Follows halves p rounds round → AreRounds halves p (rounds ++ round ∷ [])
rounds_more halves p rounds round h f = λ k x e. elim (get-more rounds round x k e) [
  | inl old ↦ subst (λ (before : List Round). Follows halves p before x) (sym old.1) (h k x old.0)
  | inr new ↦ subst (λ (before : List Round). Follows halves p before x) (sym new.1) (subst (Follows halves p rounds) (sym new.0) f)
]

-- the last one of rounds after which others come
pub some_aim : (aim : Aim) (round : Round) → is_last aim round ≡ false → is_none (aimed_at aim) ≡ false
some_aim aim round still = by round.end still where
  or_false : (a b : Bool) → a || b ≡ false → b ≡ false
  or_false true b e = cc
  or_false false b e = e

  by : (end : End ℤ) → ends_search aim round.known.best round.better end ≡ false → is_none (aimed_at aim) ≡ false
  by (Solved value) e = e
  by Refuted e = or_false _ _ e
  by Spent e = cc
  by Capped e = cc

pub not_or : (a b : Bool) → not a || b ≡ false → a ≡ true
not_or true b e = refl
not_or false b e = cc

-- and the other way round
pub neither_ends : (a b : Bool) → a ≡ true → b ≡ false → not a || b ≡ true → ⊥
neither_ends true false h k e = let clash : false ≡ true = e in cc
neither_ends true true h k e = cc
neither_ends false b h k e = cc

pub some_of : (o : Option ℕ) → is_none o ≡ false → IsSome o
some_of None e = absurd (cc)
some_of (Some x) e = refl

-- a list of rounds with this last one
pub known_is : (rounds : List Round) (round : Round) → last_round rounds ≡ Some round → known_of rounds ≡ known_after round.known round.better round.end
known_is rounds round last = ap (λ (o : Option Round). option_map_or (λ (r : Round). known_after r.known r.better r.end) o known_at_first) last

pub goes_on_after : (aim : Aim) (rounds : List Round) (round : Round) → last_round rounds ≡ Some round → is_done aim rounds ≡ false → is_last aim round ≡ false
goes_on_after aim rounds round last open_still = ap (λ (o : Option Round). option_map_or (is_last aim) o false) (sym last) ∙ open_still

-- there is a round at each place within
pub get_some : (rounds : List Round) (k : ℕ) → k < length rounds → slice_get rounds k ≡ None → ⊥
get_some [] k l e = absurd (omega arith)
get_some (x ∷ xs) zero l e = cc
get_some (x ∷ xs) (suc k) l e = get_some xs k (omega arith) e

-- there is no last round only where there is none
none_last : (rounds : List Round) → last_round rounds ≡ None → rounds ≡ []
none_last [] e = refl
none_last (x ∷ xs) e = absurd (get_some (x ∷ xs) (length (x ∷ xs) - 1) (omega arith) e)

-- where another round follows and no value was found, no round has ended
open_at : (aim : Aim) (rounds : List Round) (known : Known) (better : Option ℤ) (end : End ℤ) → ends_search aim known.best better end ≡ false → (known_after known better end).best ≡ None → rounds ≡ []
open_at aim rounds known better (Solved value) still none = cc
open_at aim rounds known better Refuted still none =
    let beyond = not_or (is_beyond aim known.best better) (is_none (aimed_at aim)) still in
    let clash : is_beyond aim None better ≡ true = subst (λ (o : Option ℤ). is_beyond aim o better ≡ true) none beyond in
    cc
open_at aim rounds known better Spent still none = cc
open_at aim rounds known better Capped still none = cc

pub none_ended : (aim : Aim) (rounds : List Round) → is_done aim rounds ≡ false → best_value rounds ≡ None → rounds ≡ []
none_ended aim rounds still none = by (last_round rounds) refl where
  by : (o : Option Round) → last_round rounds ≡ o → rounds ≡ []
  by None last = none_last rounds last
  by (Some round) last = open_at aim rounds round.known round.better round.end (goes_on_after aim rounds round last still) (sym (ap (λ (z : Known). z.best) (known_is rounds round last)) ∙ none)

-- no value is to be bettered only where none was found
pub no_better : (p : Contents) (halves : Bool) (known : Known) → better_than p halves known ≡ None → known.best ≡ None
no_better p halves known none = by known.best none where
  by : (o : Option ℤ) → option_map (λ best. next_value halves p.aim (aim_values p) best known.limit) o ≡ None → o ≡ None
  by None e = refl
  by (Some best) e = cc

-- nothing is to be bettered exactly before the first round
pub first_only : (s : SearchState) → is_done s.problem.aim s.rounds ≡ false → (next_better s ≡ None) ↔ (s.rounds ≡ [])
first_only s still = (
  λ none. none_ended s.problem.aim s.rounds still (no_better s.problem s.halves (known_of s.rounds) none),
  λ first. ap (λ (l : List Round). better_than s.problem s.halves (known_of l)) first,
)

one_round : (rounds : List Round) (round : Round) → last_round rounds ≡ Some round → take (length rounds - 1) rounds ≡ [] → rounds ≡ round ∷ []
one_round [] round last first = cc
one_round (x ∷ []) round last first = let same : x ≡ round = cc in ap (λ (r : Round). r ∷ []) same
one_round (x ∷ y ∷ rest) round last first =
    let size : length (take (length (x ∷ y ∷ rest) - 1) (x ∷ y ∷ rest)) ≡ length (x ∷ y ∷ rest) - 1 = length-take-le (length (x ∷ y ∷ rest) - 1) (x ∷ y ∷ rest) (omega arith) in
    let no_more = ap length first in
    absurd (omega arith)

-- a last round with nothing to better is the only one
pub only_round : (halves : Bool) (p : Contents) (rounds : List Round) (round : Round) → AreRounds halves p rounds → last_round rounds ≡ Some round → round.better ≡ None → rounds ≡ round ∷ []
only_round halves p rounds round h last none =
    let f = h (length rounds - 1) round last in
    let before = take (length rounds - 1) rounds in
    one_round rounds round last (none_ended p.aim before f.goes_on (no_better p halves (known_of before) (sym f.better ∙ none)))

-- the entry of a refuted first round
pub first_entry : (halves : Bool) (p : Contents) (round : Round) → Follows halves p [] round → round.end ≡ Refuted → round ≡ refuted_first
first_entry halves p round f e = at round f.known f.better e where
  at : (round : Round) → round.known ≡ known_at_first → round.better ≡ None → round.end ≡ Refuted → round ≡ refuted_first
  at round k b e = rw (← k, ← b, ← e) refl

-- nothing follows a first round that was refuted, which had nothing to better
pub only_refuted : (halves : Bool) (p : Contents) (rounds : List Round) → AreRounds halves p rounds → BeginsRefuted rounds → rounds ≡ refuted_first ∷ []
only_refuted halves p [] h first = absurd first
only_refuted halves p (x ∷ []) h first = ap (λ (r : Round). r ∷ []) (first_entry halves p x (h 0 x refl) first)
only_refuted halves p (x ∷ y ∷ rest) h first =
    let still = (h 1 y refl).goes_on in
    let same = first_entry halves p x (h 0 x refl) first in
    let clash : is_last p.aim refuted_first ≡ false = ap (is_last p.aim) (sym same) ∙ still in
    cc
