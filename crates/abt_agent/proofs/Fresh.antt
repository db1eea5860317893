-- An agent before its start.
use Rattle.std.proofs.Common.{◌≡◌, ℕ, zero, suc, ◌+◌, ◌<◌, ◌≤◌, Bool, true, false, cond, not, ◌&&◌, ◌||◌, List, [], ◌∷◌, map, filter, length, Option, Some, None, ◌==◌, refl, sym, ap, subst, ◌∙◌, arith, ℤ, inl, inr}
use Rattle.std.specs.Prelude.{filter_map, nat_lt, slice_index_or}
use Rattle.std.specs.List.{list_any, enumerate_from, cons_option}
use Rattle.std.proofs.Math.Bool.{and-true}
use Rattle.std.proofs.lemmas.Bool.{and_right, cases_lt, false_from_ne_true, lt-ltb, ltb-true}
use Rattle.std.proofs.lemmas.Bool.Decides.{nat_tests}
use Rattle.std.proofs.lemmas.List.{length_push, map-append, length-map, get_or_append_left, get_or_push, get_or_past}
use Rattle.dcsp_defs.specs.Words.{In, IsRising, below}
use Rattle.dcsp_defs.specs.Csp.{Csp, Constraint, count, owns}
use Rattle.dcsp_defs.specs.declared.Step.{Step}
use Rattle.abt_defs.specs.Agents.{Agent, plain, fresh, shares, is_among}
use Rattle.abt_defs.specs.Reasons.{Item, blamed, causes, derived, step_of}
use Rattle.abt_defs.specs.Steps as steps
use Rattle.abt_defs.specs.Steps.{Outcome}
use Rattle.law_agent.specs.OneAgent.{Sound}
use Rattle.dcsp_rule.specs.Problems.{Contents, csp_of, constraint_at}
use Rattle.dcsp_problem.specs.Index.{owned_rules}
use Rattle.dcsp_problem.specs.Lower.{joins, lower_owners}
use Rattle.abt_parts.specs.Views.{view_of}
use Rattle.abt_parts.specs.Stores.{records_of}
use Rattle.abt_agent.specs.declared.body.AgentBody.{AgentBody}
use Rattle.abt_agent.specs.declared.Turn.{Turn}
use Rattle.abt_agent.specs.declared.Turn.TheVariants.{Quiet, Announced, Derived, Empty}
use Rattle.abt_agent.specs.Turns.{IsTurn, IsFirstTurn}
use Rattle.abt_agent.specs.Bodies.{agent_of, owner_of, IsGood, IsInStep}
use Rattle.abt_marks.specs.Marks.{names_any}
use Rattle.abt_agent.proofs.Causes.{any-map, owned_are}
use Rattle.abt_parts.proofs.Members.{among-below, among-filter, In-filtered}
use Rattle.abt_parts.proofs.Insertion.{rising-filter_below}

-- ---- which agents share

among : (f g : Constraint → Bool) (cs : List Constraint) (k : ℕ)
    → list_any (λ (c : Constraint). f c && g c) cs ≡ list_any (λ (x : ℕ × Constraint). g x.1) (filter (λ (x : ℕ × Constraint). f x.1) (enumerate_from k cs))
among f g [] k = refl
among f g (c ∷ cs) k =
    ap (λ z. (f c && g c) || z) (among f g cs (k + 1))
    ∙ elim (f c) as (λ b. ((b && g c) || list_any (λ (x : ℕ × Constraint). g x.1) (filter (λ (x : ℕ × Constraint). f x.1) (enumerate_from (k + 1) cs))) ≡ list_any (λ (x : ℕ × Constraint). g x.1) (cond b ((k, c) ∷ filter (λ (x : ℕ × Constraint). f x.1) (enumerate_from (k + 1) cs)) (filter (λ (x : ℕ × Constraint). f x.1) (enumerate_from (k + 1) cs)))) [ true ↦ refl | false ↦ refl ]

pub shares_is : (p : Contents) (i k : ℕ) → (not (k == i) && names_any p k (owned_rules p i)) ≡ shares (csp_of p) i k
shares_is p i k =
    ap (λ z. not (k == i) && z) (sym (
    among (owns i) (λ (c : Constraint). is_among k c.scope) (csp_of p).constraints 0
    ∙ ap (list_any (λ (x : ℕ × Constraint). is_among k x.1.scope)) (owned_are p i)
    ∙ any-map (λ (x : ℕ × Constraint). is_among k x.1.scope) (λ (r : ℕ). (r, constraint_at p r)) (owned_rules p i)
    ))

-- ---- nobody shares beyond the tables

shares_higher : (p : Csp) → ((i : ℕ) → Sound p i (fresh p i)) → (i k : ℕ) → i ≤ k → shares p i k ≡ false
shares_higher p sound i k l = false_from_ne_true (shares p i k) (λ e. let s = (sound i).higher k e in omega arith)

shares_inside : (p : Csp) → ((i : ℕ) → Sound p i (fresh p i)) → (i k : ℕ) → count p ≤ i → shares p i k ≡ false
shares_inside p sound i k l = false_from_ne_true (shares p i k) (λ e. let s = (sound k).lower i e in omega arith)

-- a filter of the numbers below n has just those that pass
among_filter_below : (q : ℕ → Bool) (n j : ℕ) → is_among j (filter q (below n)) ≡ (q j && nat_lt j n)
among_filter_below q n j = among-filter q j (below n) ∙ ap (λ b. q j && b) (among-below j n)

-- the test of a lower owner
abbrev joins_lower : Csp → ℕ → ℕ → Bool
joins_lower p me o = nat_lt me o && list_any (joins o me) p.constraints

-- the lower owners are those that share
lower_share : (p : Csp) → ((i : ℕ) → Sound p i (fresh p i)) → (me j : ℕ) → j < count p → is_among j (lower_owners p me) ≡ shares p j me
lower_share p sound me j l =
    among_filter_below (joins_lower p me) (count p) j
    ∙ ap (λ b. joins_lower p me j && b) (lt-ltb j (count p) l)
    ∙ and-true (joins_lower p me j)
    ∙ elim (cases_lt me j) [
      | inl after ↦ ap (λ z. z && list_any (joins j me) p.constraints) (both me j after)
      | inr past ↦ ap (λ z. z && list_any (joins j me) p.constraints) (none me j past) ∙ sym (shares_higher p sound j me past)
    ]
  where
    both : (m o : ℕ) → m < o → nat_lt m o ≡ not (m == o)
    both m o h = grind (arith, nat_tests)

    none : (m o : ℕ) → o ≤ m → nat_lt m o ≡ false
    none m o h = grind (arith, nat_tests)

-- also past the last agent
lower_are : (p : Csp) → ((i : ℕ) → Sound p i (fresh p i)) → (me j : ℕ) → is_among j (lower_owners p me) ≡ shares p j me
lower_are p sound me j = elim (cases_lt j (count p)) [
  | inl l ↦ lower_share p sound me j l
  | inr past ↦
      among_filter_below (joins_lower p me) (count p) j
      ∙ and_right (joins_lower p me j) (nat_lt j (count p)) (false_from_ne_true (nat_lt j (count p)) (λ e. let l = ltb-true j (count p) e in omega arith))
      ∙ sym (shares_inside p sound j me past)
]

-- ---- tables of marks

pub length-below : (n : ℕ) → length (below n) ≡ n
length-below zero = refl
length-below (suc n) = let ih = length-below n in let e = length_push (below n) n in omega arith

pub length-marks : (f : ℕ → Bool) (n : ℕ) → length (map f (below n)) ≡ n
length-marks f n = length-map (below n) f ∙ length-below n

marks_at : (f : ℕ → Bool) (n k : ℕ) → k < n → slice_index_or (map f (below n)) k false ≡ f k
marks_at f zero k h = absurd (omega arith)
marks_at f (suc n) k h =
    let l = length-marks f n in
    ap (λ z. slice_index_or z k false) (map-append f (below n) (n ∷ []))
    ∙ elim (cases_lt k n) [
      | inl before ↦ get_or_append_left (map f (below n)) (f n ∷ []) false k (omega arith) ∙ marks_at f n k before
      | inr past ↦ let same : n ≡ k = omega arith in get_or_push (map f (below n)) (f n) false k (omega arith) ∙ ap f same
    ]

marks_are : (f : ℕ → Bool) (n : ℕ) → ((k : ℕ) → n ≤ k → f k ≡ false) → (k : ℕ) → slice_index_or (map f (below n)) k false ≡ f k
marks_are f n h k = elim (cases_lt k n) [
  | inl before ↦ marks_at f n k before
  | inr past ↦ let l = length-marks f n in get_or_past (map f (below n)) k false (omega arith) ∙ sym (h k past)
]

-- ---- the whole

pub fresh_is : (p : Contents) → ((i : ℕ) → Sound (csp_of p) i (fresh (csp_of p) i)) → (me : ℕ) (b : AgentBody) → b.value ≡ None → b.stamp ≡ 0 → b.waits ≡ false → view_of b.known.view ≡ (λ k. None) → b.known.store ≡ []
    → b.tells.items ≡ lower_owners (csp_of p) me → b.linked ≡ map (shares (csp_of p) me) (below me)
    → agent_of b ≡ fresh (csp_of p) me
fresh_is p sound me b v s w view store tells linked =
    let tell = λ (j : ℕ). ap (is_among j) tells ∙ lower_are (csp_of p) sound me j in
    let link = λ (k : ℕ). ap (λ z. slice_index_or z k false) linked ∙ marks_are (shares (csp_of p) me) me (λ k l. shares_higher (csp_of p) sound me k l) k in
    let kept = ap records_of store in
    λ x. record { value = v x; stamp = s x; waits = w x; view = view x; recorded = kept x; tells = λ j. tell j x; linked = λ k. link k x }

pub fresh_good : (p : Contents) → ((i : ℕ) → Sound (csp_of p) i (fresh (csp_of p) i)) → (me : ℕ) (b : AgentBody) → owner_of b.known ≡ (p, me) → IsInStep b.known → b.tells.items ≡ lower_owners (csp_of p) me → length b.linked ≡ me
    → agent_of b ≡ fresh (csp_of p) me → IsGood b
fresh_good p sound me b e in_step tells linked f = record {
  sized = record {
    in_step = in_step;
    linked = linked ∙ sym (ap (λ (x : Contents × ℕ). x.1) e);
    tells = subst IsRising (sym tells) (rising-filter_below (joins_lower (csp_of p) me) (count (csp_of p)));
    told_exist = λ k u.
        let passes = (In-filtered (joins_lower (csp_of p) me) k (below (length p.domains)) (subst (λ (z : List ℕ). In k z) tells u)).1 in
        let l : k < length p.domains = ltb-true k (length p.domains) (sym (among-below k (length p.domains)) ∙ passes) in
        subst (λ (x : Contents × ℕ). k < length x.0.domains) (sym e) l;
  };
  sound = subst (λ (x : Contents × ℕ). Sound (csp_of x.0) x.1 (agent_of b)) (sym e) (subst (Sound (csp_of p) me) (sym f) (sound me));
}

-- ---- no step's number matters

none-mapped : {X Y : Type 0} → (f : X → Option Y) (xs : List X) → ((x : X) → f x ≡ None) → filter_map f xs ≡ []
none-mapped f [] h = refl
none-mapped f (x ∷ xs) h = ap (λ o. cons_option o (filter_map f xs)) (h x) ∙ none-mapped f xs h

none_either : {Y : Type 0} → (b : Bool) → cond {A = Option Y} b None None ≡ None
none_either true = refl
none_either false = refl

fresh_derives : (p : Csp) (me : ℕ) → derived p me (fresh p me).view (fresh p me).recorded ≡ []
fresh_derives p me =
    none-mapped (blamed p me (fresh p me).view (fresh p me).recorded) (below me)
    (λ k. none_either (list_any (λ (x : Item). is_among k x.variables) (causes p me (λ j. None) [])))

same_choice : (p : Csp) (me n m : ℕ) (a : Agent) (o : Option ℤ) → derived p me a.view a.recorded ≡ [] → steps.take_or_refuse p me n a o ≡ steps.take_or_refuse p me m a o
same_choice p me n m a (Some v) e = refl
same_choice p me n m a None e = ap (steps.refuse n a (step_of p me a.view a.recorded)) e ∙ sym (ap (steps.refuse m a (step_of p me a.view a.recorded)) e)

pub same_number : (p : Csp) (me n m : ℕ) (a : Agent) → a ≡ fresh p me → steps.settle p me n a ≡ steps.settle p me m a
same_number p me n m a f =
    ap (λ z. cond (not a.waits && steps.is_free p me a a.value) (steps.stay a) z)
    (same_choice p me n m a (steps.choice p me a) (ap (λ (z : Agent). derived p me z.view z.recorded) f ∙ fresh_derives p me))

-- ---- what the first turn is

takes_first : (p : Csp) (me n : ℕ) (o : Option ℤ) (turn : Turn) → IsTurn (fresh p me) (steps.take_or_refuse p me n (fresh p me) o) turn → IsFirstTurn turn
takes_first p me n (Some v) Quiet h = let e = h.1 in absurd (omega arith)
takes_first p me n (Some v) Announced h = tt
takes_first p me n (Some v) (Derived s) h = let e = h.0 in cc
takes_first p me n (Some v) (Empty s) h = tt
takes_first p me n None turn h = by_turn turn (subst (λ (o : Outcome). IsTurn (fresh p me) o turn) (ap (steps.refuse n (fresh p me) (step_of p me (fresh p me).view (fresh p me).recorded)) (fresh_derives p me)) h)
  where
    by_turn : (turn : Turn) → IsTurn (fresh p me) (record { agent = fresh p me; sent = []; step = Some (step_of p me (fresh p me).view (fresh p me).recorded) }) turn → IsFirstTurn turn
    by_turn Quiet g = let e = g.0 in cc
    by_turn Announced g = tt
    by_turn (Derived s) g =
        let same : step_of p me (fresh p me).view (fresh p me).recorded ≡ s = cc in
        g.1 (ap (λ (z : Step). z.nogood) (sym same) ∙ ap plain (fresh_derives p me))
    by_turn (Empty s) g = tt

pub first_turn : (p : Csp) (me n : ℕ) (a : Agent) (turn : Turn) → a ≡ fresh p me → IsTurn a (steps.settle p me n a) turn → IsFirstTurn turn
first_turn p me n a turn f h = takes_first p me n (steps.choice p me (fresh p me)) turn (subst (λ (z : Agent). IsTurn z (steps.settle p me n z) turn) f h)
