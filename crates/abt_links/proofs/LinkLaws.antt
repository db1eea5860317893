-- What a change of one list makes of the look-ups.
use Rattle.std.proofs.Common.{◌≡◌, ◌≢◌, ℕ, zero, suc, ◌+◌, ◌<◌, ◌⊎◌, inl, inr, List, [], ◌∷◌, ◌++◌, filter, length, Option, Some, None, get_or, set, slice_get, refl, sym, ◌∙◌, ap, subst, arith, get_or-set_same, get_or-set_other, Bool, true, false, not, ◌&&◌, ◌||◌, cond, is_some, eq-eqb, eqb, ltb}
use Rattle.std.specs.List.{position, list_any, position_or_len, sum_by}
use Rattle.std.specs.Option.{option_map}
use Rattle.std.proofs.lemmas.Bool.{cases_lt, cases_Bool, and_parts, and_from, eqb-true, lt-ltb, le-ltb, cond-true, cond-false, both_ways, or_cases, or_left, or_right}
use Rattle.std.proofs.lemmas.List.{length-set}
use Rattle.std.proofs.lemmas.List.Quantifiers.{position-Some}
use Rattle.std.proofs.lemmas.List.Folds.{list_any-append}
use Rattle.std.proofs.lemmas.List.{length-append}
use Rattle.std.proofs.lemmas.List.Sums.{sum_by-set, sum_by_push}
use Rattle.std.proofs.lemmas.List.Elements.{filter_agree}
use Rattle.abt_parts.specs.declared.message.Message.{Message}
use Rattle.abt_defs.specs.Network.{is_empty, pairs}
use Rattle.abt_links.specs.PairTables.{PairTable, has_pair, members}
use Rattle.abt_links.specs.Transit.{Transit, is_pair, list_at, link_of, IsOpen, ready_pairs, message_count, Sends, Takes, Opens}
use Rattle.abt_links.specs.Whole.{IsWhole}

-- the tests of one pair
pub same_pair : (k i from to : ℕ) → (eqb k from && eqb i to) ≡ true → (k ≡ from) × (i ≡ to)
same_pair k i from to h = let both : (eqb k from ≡ true) × (eqb i to ≡ true) = and_parts (eqb k from) (eqb i to) h in (eqb-true k from both.0, eqb-true i to both.1)

-- another pair stands in another place
pub other_place : (opened : List (ℕ × ℕ)) (e f k i from to : ℕ) → position (is_pair from to) opened ≡ Some e → position (is_pair k i) opened ≡ Some f → (eqb k from && eqb i to) ≡ false → f ≢ e
other_place opened e f k i from to at_e at_f differ same =
    let there : is_pair from to (get_or opened e (0, 0)) ≡ true = (position-Some (is_pair from to) opened e (0, 0) at_e).1 in
    let here : is_pair k i (get_or opened f (0, 0)) ≡ true = (position-Some (is_pair k i) opened f (0, 0) at_f).1 in
    let here' : is_pair k i (get_or opened e (0, 0)) ≡ true = subst (λ n. is_pair k i (get_or opened n (0, 0)) ≡ true) same here in
    let x : ℕ × ℕ = get_or opened e (0, 0) in
    let a : (from ≡ x.0) × (to ≡ x.1) = same_pair from to x.0 x.1 there in
    let b : (k ≡ x.0) × (i ≡ x.1) = same_pair k i x.0 x.1 here' in
    both_ways (eqb k from && eqb i to) differ (and_from (eqb k from) (eqb i to) (eq-eqb k from (b.0 ∙ sym a.0)) (eq-eqb i to (b.1 ∙ sym a.1)))

-- the list of the pair
pub at_place : (lists : List (List Message)) (o : Option ℕ) (e : ℕ) → o ≡ Some e → list_at lists o ≡ get_or lists e []
at_place lists o e is = ap (list_at lists) is

other_list : (lists : List (List Message)) (ms : List Message) (e : ℕ) (o : Option ℕ) → ((f : ℕ) → o ≡ Some f → f ≢ e) → list_at (set lists e ms) o ≡ list_at lists o
other_list lists ms e None h = refl
other_list lists ms e (Some f) h = get_or-set_other lists e f ms [] (h f refl)

pub set_link : (opened : List (ℕ × ℕ)) (lists : List (List Message)) (e from to : ℕ) (ms : List Message) → position (is_pair from to) opened ≡ Some e → e < length lists
    → (k i : ℕ) → list_at (set lists e ms) (position (is_pair k i) opened) ≡ cond (eqb k from && eqb i to) ms (list_at lists (position (is_pair k i) opened))
set_link opened lists e from to ms at within k i = elim (cases_Bool (eqb k from && eqb i to)) [
  | inl same ↦
      let both : (k ≡ from) × (i ≡ to) = same_pair k i from to same in
      let here : position (is_pair k i) opened ≡ Some e = ap (λ n. position (is_pair n i) opened) both.0 ∙ ap (λ n. position (is_pair from n) opened) both.1 ∙ at in
      at_place (set lists e ms) (position (is_pair k i) opened) e here
      ∙ get_or-set_same lists e ms [] within
      ∙ sym (cond-true (eqb k from && eqb i to) ms (list_at lists (position (is_pair k i) opened)) same)
  | inr differ ↦
      other_list lists ms e (position (is_pair k i) opened) (λ f at_f. other_place opened e f k i from to at at_f differ)
      ∙ sym (cond-false (eqb k from && eqb i to) ms (list_at lists (position (is_pair k i) opened)) differ)
]

-- an opened pair has a list
pub has_list : (t : Transit) (ready : PairTable) (e from to : ℕ) → IsWhole t ready → position (is_pair from to) t.opened ≡ Some e → e < length t.lists
has_list t ready e from to whole at = omega (arith, whole.long, (position-Some (is_pair from to) t.opened e (0, 0) at).0)

-- one list and its mark change
module _ (t : Transit) (ready ready' : PairTable) (e from to : ℕ) (ms : List Message) (b : Bool) (whole : IsWhole t ready) (at : position (is_pair from to) t.opened ≡ Some e) where
  abbrev pub changed : Transit
  changed = record { agents = t.agents; opened = t.opened; lists = set t.lists e ms }

  pub changed_link : (k i : ℕ) → link_of changed k i ≡ cond (eqb k from && eqb i to) ms (link_of t k i)
  changed_link k i = set_link t.opened t.lists e from to ms at (has_list t ready e from to whole at) k i

  pub whole_changed : ready'.agents ≡ ready.agents → ((k i : ℕ) → has_pair ready' k i ≡ cond (eqb k from && eqb i to) b (has_pair ready k i)) → b ≡ not (is_empty ms) → IsWhole changed ready'
  whole_changed agents marks is = record {
    long = length-set t.lists e ms ∙ whole.long;
    agents = agents ∙ whole.agents;
    inside = whole.inside;
    filled = λ k i. marks k i ∙ both (eqb k from && eqb i to) (has_pair ready k i) (link_of t k i) (whole.filled k i) ∙ ap (λ l. not (is_empty l)) (sym (changed_link k i));
  }
    where
      both : (c : Bool) (mark : Bool) (l : List Message) → mark ≡ not (is_empty l) → cond c b mark ≡ not (is_empty (cond c ms l))
      both true mark l h = is
      both false mark l h = h

not_empty_push : (l : List Message) (m : Message) → true ≡ not (is_empty (l ++ m ∷ []))
not_empty_push [] m = refl
not_empty_push (x ∷ l) m = refl

-- ---- send

pub sent-whole : (t : Transit) (lists' : List (List Message)) (ready ready' : PairTable) (e from to : ℕ) (m : Message) → IsWhole t ready → position (is_pair from to) t.opened ≡ Some e
    → lists' ≡ set t.lists e (get_or t.lists e [] ++ m ∷ []) → ready'.agents ≡ ready.agents → ((k i : ℕ) → has_pair ready' k i ≡ cond (eqb k from && eqb i to) true (has_pair ready k i))
    → IsWhole (record { agents = t.agents; opened = t.opened; lists = lists' }) ready'
sent-whole t lists' ready ready' e from to m whole at lists agents marks =
    subst (λ l. IsWhole (record { agents = t.agents; opened = t.opened; lists = l }) ready') (sym lists)
    (whole_changed t ready ready' e from to (get_or t.lists e [] ++ m ∷ []) true whole at agents marks (not_empty_push (get_or t.lists e []) m))

pub sent-lists : (t : Transit) (lists' : List (List Message)) (ready : PairTable) (e from to : ℕ) (m : Message) → IsWhole t ready → position (is_pair from to) t.opened ≡ Some e
    → lists' ≡ set t.lists e (get_or t.lists e [] ++ m ∷ []) → Sends t (record { agents = t.agents; opened = t.opened; lists = lists' }) from to m
sent-lists t lists' ready e from to m whole at lists = record {
  agents = refl;
  opened = refl;
  lists = λ k i.
      ap (λ l. list_at l (position (is_pair k i) t.opened)) lists
      ∙ changed_link t ready ready e from to (get_or t.lists e [] ++ m ∷ []) true whole at k i
      ∙ at_pair k i (cases_Bool (eqb k from && eqb i to));
}
  where
    at_pair : (k i : ℕ) → ((eqb k from && eqb i to) ≡ true) ⊎ ((eqb k from && eqb i to) ≡ false)
        → cond (eqb k from && eqb i to) (get_or t.lists e [] ++ m ∷ []) (link_of t k i) ≡ cond (eqb k from && eqb i to) (link_of t k i ++ m ∷ []) (link_of t k i)
    at_pair k i (inl same) =
        let both : (k ≡ from) × (i ≡ to) = same_pair k i from to same in
        let here : position (is_pair k i) t.opened ≡ Some e = ap (λ n. position (is_pair n i) t.opened) both.0 ∙ ap (λ n. position (is_pair from n) t.opened) both.1 ∙ at in
        ap (λ l. cond (eqb k from && eqb i to) (l ++ m ∷ []) (link_of t k i)) (sym (at_place t.lists (position (is_pair k i) t.opened) e here))
    at_pair k i (inr differ) = cond-false (eqb k from && eqb i to) (get_or t.lists e [] ++ m ∷ []) (link_of t k i) differ ∙ sym (cond-false (eqb k from && eqb i to) (link_of t k i ++ m ∷ []) (link_of t k i) differ)

-- ---- the pairs that are ready

pub same_ready : (t : Transit) (ready : PairTable) → IsWhole t ready → members ready ≡ ready_pairs t
same_ready t ready whole =
    ap (λ n. filter (λ (x : ℕ × ℕ). has_pair ready x.0 x.1) (pairs n)) whole.agents
    ∙ filter_agree (λ (x : ℕ × ℕ). has_pair ready x.0 x.1) (λ (x : ℕ × ℕ). not (is_empty (link_of t x.0 x.1))) (λ x. whole.filled x.0 x.1) (pairs t.agents)

-- what passes the filter passes the test
pass_at : {X : Type 0} (p : X → Bool) (y : X) (rest : List X) (x : X) → ((k : ℕ) → slice_get rest k ≡ Some x → p x ≡ true) → (b : Bool) → p y ≡ b → (n : ℕ) → slice_get (cond b (y ∷ rest) rest) n ≡ Some x → p x ≡ true
pass_at p y rest x ih true is zero h = let same : y ≡ x = cc in subst (λ z. p z ≡ true) same is
pass_at p y rest x ih true is (suc n) h = ih n h
pass_at p y rest x ih false is n h = ih n h

passes : {X : Type 0} (p : X → Bool) (xs : List X) (n : ℕ) (x : X) → slice_get (filter p xs) n ≡ Some x → p x ≡ true
passes p [] n x h = cc
passes p (y ∷ ys) n x h = pass_at p y (filter p ys) x (λ k. passes p ys k x) (p y) refl n h

pub ready_link : (t : Transit) (ready : PairTable) (n : ℕ) (x : ℕ × ℕ) → IsWhole t ready → slice_get (members ready) n ≡ Some x → not (is_empty (link_of t x.0 x.1)) ≡ true
ready_link t ready n x whole at = sym (whole.filled x.0 x.1) ∙ passes (λ (y : ℕ × ℕ). has_pair ready y.0 y.1) (pairs ready.agents) n x at

list_some : (lists : List (List Message)) (o : Option ℕ) → not (is_empty (list_at lists o)) ≡ true → is_some o ≡ true
list_some lists None h = cc
list_some lists (Some e) h = refl

pub ready_open : (t : Transit) (ready : PairTable) (n : ℕ) (x : ℕ × ℕ) → IsWhole t ready → slice_get (members ready) n ≡ Some x → IsOpen t x.0 x.1
ready_open t ready n x whole at = list_some t.lists (position (is_pair x.0 x.1) t.opened) (ready_link t ready n x whole at)

pub ready_some : (t : Transit) (ready : PairTable) (n e : ℕ) (x : ℕ × ℕ) → IsWhole t ready → slice_get (members ready) n ≡ Some x → position (is_pair x.0 x.1) t.opened ≡ Some e → get_or t.lists e [] ≢ []
ready_some t ready n e x whole at place nil =
    let some : not (is_empty (link_of t x.0 x.1)) ≡ true = ready_link t ready n x whole at in
    let none : link_of t x.0 x.1 ≡ [] = at_place t.lists (position (is_pair x.0 x.1) t.opened) e place ∙ nil in
    both_ways (not (is_empty (link_of t x.0 x.1))) (ap (λ l. not (is_empty l)) none) some

-- ---- take

pub taken-whole : (t : Transit) (lists' : List (List Message)) (ready ready' : PairTable) (e from to : ℕ) (last : Bool) → IsWhole t ready → position (is_pair from to) t.opened ≡ Some e
    → lists' ≡ set t.lists e (get_or lists' e []) → (((last ≡ true) → get_or lists' e [] ≡ []) × (get_or lists' e [] ≡ [] → last ≡ true))
    → ready'.agents ≡ ready.agents → ((k i : ℕ) → has_pair ready' k i ≡ cond (eqb k from && eqb i to) (not last) (has_pair ready k i))
    → IsWhole (record { agents = t.agents; opened = t.opened; lists = lists' }) ready'
taken-whole t lists' ready ready' e from to last whole at lists is agents marks =
    subst (λ l. IsWhole (record { agents = t.agents; opened = t.opened; lists = l }) ready') (sym lists)
    (whole_changed t ready ready' e from to (get_or lists' e []) (not last) whole at agents marks (ap not (tells last (get_or lists' e []) is.0 is.1)))
  where
    tells : (b : Bool) (l : List Message) → (b ≡ true → l ≡ []) → (l ≡ [] → b ≡ true) → b ≡ is_empty l
    tells b [] one two = two refl
    tells true (x ∷ l) one two = let no : x ∷ l ≡ [] = one refl in cc
    tells false (x ∷ l) one two = refl

pub taken-lists : (t : Transit) (lists' : List (List Message)) (ready : PairTable) (e from to : ℕ) (m : Message) → IsWhole t ready → position (is_pair from to) t.opened ≡ Some e
    → get_or t.lists e [] ≡ m ∷ get_or lists' e [] → lists' ≡ set t.lists e (get_or lists' e []) → Takes t (record { agents = t.agents; opened = t.opened; lists = lists' }) from to m
taken-lists t lists' ready e from to m whole at first lists = record {
  agents = refl;
  opened = refl;
  lists = λ k i. at_pair k i (cases_Bool (eqb k from && eqb i to));
}
  where
    new_link : (k i : ℕ) → list_at lists' (position (is_pair k i) t.opened) ≡ cond (eqb k from && eqb i to) (get_or lists' e []) (link_of t k i)
    new_link k i = ap (λ l. list_at l (position (is_pair k i) t.opened)) lists ∙ changed_link t ready ready e from to (get_or lists' e []) true whole at k i

    at_pair : (k i : ℕ) → ((eqb k from && eqb i to) ≡ true) ⊎ ((eqb k from && eqb i to) ≡ false)
        → link_of t k i ≡ cond (eqb k from && eqb i to) (m ∷ list_at lists' (position (is_pair k i) t.opened)) (list_at lists' (position (is_pair k i) t.opened))
    at_pair k i (inl same) =
        let both : (k ≡ from) × (i ≡ to) = same_pair k i from to same in
        let here : position (is_pair k i) t.opened ≡ Some e = ap (λ n. position (is_pair n i) t.opened) both.0 ∙ ap (λ n. position (is_pair from n) t.opened) both.1 ∙ at in
        at_place t.lists (position (is_pair k i) t.opened) e here ∙ first ∙ ap (λ l. m ∷ l) (sym (at_place lists' (position (is_pair k i) t.opened) e here))
        ∙ sym (cond-true (eqb k from && eqb i to) (m ∷ list_at lists' (position (is_pair k i) t.opened)) (list_at lists' (position (is_pair k i) t.opened)) same)
    at_pair k i (inr differ) =
        sym (new_link k i ∙ cond-false (eqb k from && eqb i to) (get_or lists' e []) (link_of t k i) differ)
        ∙ sym (cond-false (eqb k from && eqb i to) (m ∷ list_at lists' (position (is_pair k i) t.opened)) (list_at lists' (position (is_pair k i) t.opened)) differ)

-- ---- open

pos_suc : (l n : ℕ) → cond (ltb (1 + l) (suc n)) (Some (1 + l)) None ≡ option_map suc (cond (ltb l n) (Some l) None)
pos_suc l n = elim (cases_lt l n) [
  | inl less ↦
      let a : ltb (1 + l) (suc n) ≡ true = lt-ltb (1 + l) (suc n) (omega arith) in
      let b : ltb l n ≡ true = lt-ltb l n less in
      let more : 1 + l ≡ suc l = omega arith in
      cond-true (ltb (1 + l) (suc n)) (Some (1 + l)) None a ∙ ap Some more ∙ sym (ap (option_map suc) (cond-true (ltb l n) (Some l) None b))
  | inr past ↦
      let a : ltb (1 + l) (suc n) ≡ false = le-ltb (1 + l) (suc n) (omega arith) in
      let b : ltb l n ≡ false = le-ltb l n past in
      cond-false (ltb (1 + l) (suc n)) (Some (1 + l)) None a ∙ sym (ap (option_map suc) (cond-false (ltb l n) (Some l) None b))
]

pub pos_cons : (p : ℕ × ℕ → Bool) (x : ℕ × ℕ) (xs : List (ℕ × ℕ)) → position p (x ∷ xs) ≡ cond (p x) (Some 0) (option_map suc (position p xs))
pos_cons p x xs = elim (cases_Bool (p x)) [
  | inl holds ↦ rw holds (cond-true (ltb 0 (suc (length xs))) (Some 0) None (lt-ltb 0 (suc (length xs)) (omega arith)))
  | inr fails ↦ rw fails (pos_suc (position_or_len p xs) (length xs))
]

pub some_any : (p : ℕ × ℕ → Bool) (xs : List (ℕ × ℕ)) → is_some (position p xs) ≡ list_any p xs
some_any p [] = refl
some_any p (x ∷ xs) = ap is_some (pos_cons p x xs) ∙ cases (p x) (position p xs) ∙ ap (λ b. p x || b) (some_any p xs)
  where
    cases : (b : Bool) (o : Option ℕ) → is_some (cond b (Some 0) (option_map suc o)) ≡ (b || is_some o)
    cases true o = refl
    cases false None = refl
    cases false (Some e) = refl

pub none_any : (p : ℕ × ℕ → Bool) (xs : List (ℕ × ℕ)) → position p xs ≡ None → list_any p xs ≡ false
none_any p xs h = sym (some_any p xs) ∙ ap is_some h

-- a list more
head_or : (l : List Message) (lists : List (List Message)) (b : Bool) (o : Option ℕ) → list_at (l ∷ lists) (cond b (Some 0) (option_map suc o)) ≡ cond b l (list_at lists o)
head_or l lists true o = refl
head_or l lists false None = refl
head_or l lists false (Some e) = refl

pub link_more : (p : ℕ × ℕ → Bool) (xs : List (ℕ × ℕ)) (lists : List (List Message)) (y : ℕ × ℕ) → length lists ≡ length xs → list_at (lists ++ [] ∷ []) (position p (xs ++ y ∷ [])) ≡ list_at lists (position p xs)
link_more p [] [] y long = ap (list_at ([] ∷ [])) (pos_cons p y []) ∙ head_or [] [] (p y) None ∙ one (p y)
  where
    one : (b : Bool) → cond b [] (list_at [] None) ≡ list_at [] None
    one true = refl
    one false = refl
link_more p [] (l ∷ lists) y long = cc
link_more p (x ∷ xs) [] y long = cc
link_more p (x ∷ xs) (l ∷ lists) y long =
    ap (list_at (l ∷ (lists ++ [] ∷ []))) (pos_cons p x (xs ++ y ∷ []))
    ∙ head_or l (lists ++ [] ∷ []) (p x) (position p (xs ++ y ∷ []))
    ∙ ap (cond (p x) l) (link_more p xs lists y (omega arith))
    ∙ sym (head_or l lists (p x) (position p xs))
    ∙ ap (list_at (l ∷ lists)) (sym (pos_cons p x xs))

-- a pair more
abbrev pub with_pair : Transit → ℕ → ℕ → Transit
with_pair t from to = record { agents = t.agents; opened = t.opened ++ (from, to) ∷ []; lists = t.lists ++ [] ∷ [] }

pub pair-links : (t : Transit) (from to : ℕ) → length t.lists ≡ length t.opened → (k i : ℕ) → link_of (with_pair t from to) k i ≡ link_of t k i
pair-links t from to long k i = link_more (is_pair k i) t.opened t.lists (from, to) long

any_more : (t : Transit) (from to k i : ℕ) → is_some (position (is_pair k i) (t.opened ++ (from, to) ∷ [])) ≡ (is_some (position (is_pair k i) t.opened) || ((eqb k from && eqb i to) || false))
any_more t from to k i =
    some_any (is_pair k i) (t.opened ++ (from, to) ∷ [])
    ∙ list_any-append (is_pair k i) t.opened ((from, to) ∷ [])
    ∙ ap (λ b. b || ((eqb k from && eqb i to) || false)) (sym (some_any (is_pair k i) t.opened))

pub pair-opens : (t : Transit) (from to : ℕ) → length t.lists ≡ length t.opened → Opens t (with_pair t from to) from to
pair-opens t from to long = record {
  agents = refl;
  opened = any_more t from to from to ∙ or_right (is_some (position (is_pair from to) t.opened)) ((eqb from from && eqb to to) || false) (or_left (eqb from from && eqb to to) false (and_from (eqb from from) (eqb to to) (eq-eqb from from refl) (eq-eqb to to refl)));
  others = λ k i is_open. any_more t from to k i ∙ or_left (is_some (position (is_pair k i) t.opened)) ((eqb k from && eqb i to) || false) is_open;
  only = λ k i is_open. elim (or_cases (is_some (position (is_pair k i) t.opened)) ((eqb k from && eqb i to) || false) (sym (any_more t from to k i) ∙ is_open)) [
    | inl before ↦ inl before
    | inr now ↦ elim (or_cases (eqb k from && eqb i to) false now) [
      | inl here ↦ inr (same_pair k i from to here)
      | inr never ↦ cc
    ]
  ];
  lists = λ k i. pair-links t from to long k i;
}

pub pair-whole : (t : Transit) (ready : PairTable) (from to : ℕ) → IsWhole t ready → from < t.agents → to < t.agents → IsWhole (with_pair t from to) ready
pair-whole t ready from to whole sender receiver = record {
  long = omega (arith, whole.long, length-append t.lists ([] ∷ []), length-append t.opened ((from, to) ∷ []));
  agents = whole.agents;
  inside = λ k i is_open. elim (or_cases (is_some (position (is_pair k i) t.opened)) ((eqb k from && eqb i to) || false) (sym (any_more t from to k i) ∙ is_open)) [
    | inl before ↦ whole.inside k i before
    | inr now ↦ elim (or_cases (eqb k from && eqb i to) false now) [
      | inl here ↦ let both : (k ≡ from) × (i ≡ to) = same_pair k i from to here in (omega (arith, both.0), omega (arith, both.1))
      | inr never ↦ cc
    ]
  ];
  filled = λ k i. whole.filled k i ∙ ap (λ l. not (is_empty l)) (sym (pair-links t from to whole.long k i));
}

-- ---- how many there are

-- how long one list is
abbrev weight : List Message → ℕ
weight ms = length ms

-- a message more on one list is one more in all
pub sent-count : (t : Transit) (lists' : List (List Message)) (ready : PairTable) (e from to : ℕ) (m : Message) → IsWhole t ready → position (is_pair from to) t.opened ≡ Some e
    → lists' ≡ set t.lists e (get_or t.lists e [] ++ m ∷ []) → message_count (record { agents = t.agents; opened = t.opened; lists = lists' }) ≡ message_count t + 1
sent-count t lists' ready e from to m whole at lists =
    ap (sum_by weight) lists ∙ omega (arith, sum_by-set weight t.lists e (get_or t.lists e [] ++ m ∷ []) [] (has_list t ready e from to whole at), length-append (get_or t.lists e []) (m ∷ []))

-- a message less on one list is one less in all
pub taken-count : (t : Transit) (lists' : List (List Message)) (ready : PairTable) (e from to : ℕ) (m : Message) → IsWhole t ready → position (is_pair from to) t.opened ≡ Some e
    → get_or t.lists e [] ≡ m ∷ get_or lists' e [] → lists' ≡ set t.lists e (get_or lists' e []) → message_count (record { agents = t.agents; opened = t.opened; lists = lists' }) + 1 ≡ message_count t
taken-count t lists' ready e from to m whole at head lists =
    omega (arith, ap (sum_by weight) lists, sum_by-set weight t.lists e (get_or lists' e []) [] (has_list t ready e from to whole at), ap weight head)

-- an empty list more changes nothing
pub opened-count : (agents : ℕ) (opened more : List (ℕ × ℕ)) (lists : List (List Message)) → message_count (record { agents = agents; opened = more; lists = lists ++ [] ∷ [] }) ≡ message_count (record { agents = agents; opened = opened; lists = lists })
opened-count agents opened more lists = omega (arith, sum_by_push weight lists [])
