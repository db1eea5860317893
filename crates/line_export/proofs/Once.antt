-- Clauses that are written once: which they are.
use Rattle.std.proofs.Common.{◌≡◌, ◌⊎◌, ℕ, ◌+◌, ◌<◌, ◌≤◌, Bool, true, false, ◌||◌, List, [], ◌∷◌, ◌++◌, length, map, take, drop, get_or, Some, slice_get, refl, sym, ap, subst, ◌∙◌, inl, inr, arith, drop-cons, add-one}
use Rattle.std.specs.Prelude.{ℤ, All, Contains, flat_map, if◌then◌else◌}
use Rattle.std.specs.List.{list_any}
use Rattle.std.specs.Ordering.{int_eq}
use Rattle.std.specs.Cmp.Lexicographic.{pointwise, pointwise_decides}
use Rattle.std.proofs.lemmas.Bool.Decides.{Decides-int_eq}
use Rattle.std.proofs.lemmas.List.Elements.{Contains-append_left, Contains-append_right, Contains-append_cases, Contains-push, Contains-push_cases}
use Rattle.std.proofs.lemmas.List.{map-append, drop_all}
use Rattle.std.proofs.lemmas.Option.{slice_get_within, get_or_from_slice_get}
use Rattle.std.proofs.Math.Seq.{take-suc}
use Rattle.std.proofs.lemmas.List.Concat.{flat_map-cons}
use Rattle.std.specs.declared.vec.Vec.{Vec}
use Rattle.std.specs.declared.alloc.Global.{Global}
use Rattle.indexmap.specs.IndexSet.{insert_key}
use Rattle.dcsp_defs.specs.Words.{In, below}
use Rattle.dcsp_defs.specs.Csp.{Nogood, given_with}
use Rattle.dcsp_defs.specs.declared.Reason.{Reason}
use Rattle.dcsp_rule.specs.Problems.{Contents}
use Rattle.dcsp_defs.proofs.Lists.{In-list_any}
use Rattle.dcsp_problem.proofs.RisingNumbers.{Contains-In}
use Rattle.rup_check.proofs.PropagationLaws.{contains_cases, contains_cons, contains_nil}
use Rattle.line_export.specs.Clauses.{Clause, reason_clauses, clauses_at, with_clause, with_clauses, IsReasonIn}

-- a clause that equals one of these is among them
is_there : (clauses : List Clause) (c : Clause) → list_any (pointwise int_eq c) clauses ≡ true → Contains clauses c
is_there clauses c h =
    let r = In-list_any (pointwise int_eq c) clauses h in
    subst (Contains clauses) (sym ((pointwise_decides Decides-int_eq c r.0).0 r.2)) (Contains-In clauses r.0 r.1)

-- what is added is there, and what was there stays
added : (clauses : List Clause) (c : Clause) → Contains (with_clause clauses c) c
added clauses c = of (list_any (pointwise int_eq c) clauses) refl
  where
    of : (b : Bool) → list_any (pointwise int_eq c) clauses ≡ b → Contains (if b then clauses else clauses ++ c ∷ []) c
    of true e = is_there clauses c e
    of false e = Contains-push clauses c

stays : (clauses : List Clause) (c d : Clause) → Contains clauses d → Contains (with_clause clauses c) d
stays clauses c d m = of (list_any (pointwise int_eq c) clauses)
  where
    of : (b : Bool) → Contains (if b then clauses else clauses ++ c ∷ []) d
    of true = m
    of false = Contains-append_left clauses (c ∷ []) d m

all_stay : (clauses more : List Clause) (d : Clause) → Contains clauses d → Contains (with_clauses clauses more) d
all_stay clauses [] d m = m
all_stay clauses (c ∷ more) d m = all_stay (with_clause clauses c) more d (stays clauses c d m)

all_added : (clauses more : List Clause) (d : Clause) → Contains more d → Contains (with_clauses clauses more) d
all_added clauses [] d m = absurd (contains_nil d m)
all_added clauses (c ∷ more) d m = elim (contains_cases c more d m) [
  | inl e ↦ all_stay (with_clause clauses c) more d (subst (Contains (with_clause clauses c)) e (added clauses c))
  | inr later ↦ all_added (with_clause clauses c) more d later
]

-- each of them is written
pub all_written : (more : List Clause) (d : Clause) → Contains more d → Contains (with_clauses [] more) d
all_written more d m = all_added [] more d m

-- nothing else is
none_else : (clauses : List Clause) (c d : Clause) → Contains (with_clause clauses c) d → Contains clauses d ⊎ (c ≡ d)
none_else clauses c d = of (list_any (pointwise int_eq c) clauses)
  where
    of : (b : Bool) → Contains (if b then clauses else clauses ++ c ∷ []) d → Contains clauses d ⊎ (c ≡ d)
    of true m = inl m
    of false m = Contains-push_cases clauses c d m

only : (clauses more : List Clause) (d : Clause) → Contains (with_clauses clauses more) d → Contains clauses d ⊎ Contains more d
only clauses [] d m = inl m
only clauses (c ∷ more) d m = elim (only (with_clause clauses c) more d m) [
  | inl here ↦ elim (none_else clauses c d here) [ inl old ↦ inl old | inr e ↦ inr (0, omega arith, e) ]
  | inr later ↦ inr (contains_cons c more d later)
]

pub only_written : (more : List Clause) (d : Clause) → Contains (with_clauses [] more) d → Contains more d
only_written more d m = elim (only [] more d m) [ inl none ↦ absurd (contains_nil d none) | inr is ↦ is ]

-- one list after the other
pub with_both : (clauses one other : List Clause) → with_clauses clauses (one ++ other) ≡ with_clauses (with_clauses clauses one) other
with_both clauses [] other = refl
with_both clauses (c ∷ one) other = with_both (with_clause clauses c) one other

-- ---- lists of lists

pub contains_flat : {X Y : Type 0} (f : X → List Y) (xs : List X) (x : X) → In x xs → (y : Y) → Contains (f x) y → Contains (flat_map f xs) y
contains_flat f [] x i y m = absurd i
contains_flat f (z ∷ xs) x (inl e) y m = subst (λ l. Contains l y) (sym (flat_map-cons f z xs)) (Contains-append_left (f z) (flat_map f xs) y (subst (λ w. Contains (f w) y) e m))
contains_flat f (z ∷ xs) x (inr i) y m = subst (λ l. Contains l y) (sym (flat_map-cons f z xs)) (Contains-append_right (f z) (flat_map f xs) y (contains_flat f xs x i y m))

pub flat_contains : {X Y : Type 0} (f : X → List Y) (xs : List X) (y : Y) → Contains (flat_map f xs) y → (x : X) × In x xs × Contains (f x) y
flat_contains f [] y m = absurd (contains_nil y m)
flat_contains f (z ∷ xs) y m = elim (Contains-append_cases (f z) (flat_map f xs) y (subst (λ l. Contains l y) (flat_map-cons f z xs) m)) [
  | inl here ↦ (z, inl refl, here)
  | inr later ↦ (let r = flat_contains f xs y later in (r.0, inr r.1, r.2))
]

-- ---- the index

any_mapped : {X Y : Type 0} (f : X → Y) (test : Y → Bool) (xs : List X) → list_any (λ x. test (f x)) xs ≡ list_any test (map f xs)
any_mapped f test [] = refl
any_mapped f test (x ∷ xs) = ap (λ b. test (f x) || b) (any_mapped f test xs)

abbrev items : Vec ℤ Global → Clause
items clause = clause.items

-- a clause is put into the index as it is into the list
pub put_in : (keys : List (Vec ℤ Global)) (c : Vec ℤ Global) → map (λ (k : Vec ℤ Global). k.items) (insert_key (λ (x y : Vec ℤ Global). pointwise int_eq x.items y.items) keys c) ≡ with_clause (map (λ (k : Vec ℤ Global). k.items) keys) c.items
put_in keys c = of (list_any (λ (k : Vec ℤ Global). pointwise int_eq c.items k.items) keys) ∙ ap (λ b. if b then map items keys else map items keys ++ c.items ∷ []) (any_mapped items (pointwise int_eq c.items) keys)
  where
    of : (b : Bool) → map (λ (k : Vec ℤ Global). k.items) (if b then keys else keys ++ c ∷ []) ≡ (if b then map items keys else map items keys ++ c.items ∷ [])
    of true = refl
    of false = map-append items keys (c ∷ [])

-- the clauses of the variables up to one, and then its own
pub with_next : (clauses : List Clause) (f : ℕ → Clause) (n : ℕ) → with_clauses clauses (map f (below (n + 1))) ≡ with_clause (with_clauses clauses (map f (below n))) (f n)
with_next clauses f n = ap (λ m. with_clauses clauses (map f (below m))) (add-one n) ∙ ap (with_clauses clauses) (map-append f (below n) (n ∷ [])) ∙ with_both clauses (map f (below n)) (f n ∷ [])

-- the items from one on begin with it
pub from_here : {A : Type 0} (xs : List A) (i : ℕ) (x d : A) → i < length xs → x ≡ get_or xs i d → drop i xs ≡ x ∷ drop (i + 1) xs
from_here xs i x d l is = drop-cons xs i d l ∙ ap (λ n. get_or xs i d ∷ drop n xs) (sym (add-one i)) ∙ ap (λ y. y ∷ drop (i + 1) xs) (sym is)

-- a map of the items up to one, and then of that one
pub mapped_next : {A B : Type 0} (f : A → B) (xs : List A) (i : ℕ) (x : A) → slice_get xs i ≡ Some x → map f (take (i + 1) xs) ≡ map f (take i xs) ++ f x ∷ []
mapped_next f xs i x e =
    let l = slice_get_within xs i x e in
    ap (λ n. map f (take n xs)) (add-one i) ∙ ap (map f) (take-suc xs i x l) ∙ map-append f (take i xs) (get_or xs i x ∷ []) ∙ ap (λ y. map f (take i xs) ++ f y ∷ []) (get_or_from_slice_get xs i x x e)

module _ (p : Contents) (pairs : Nogood) (x : ℕ) (vs : List ℤ) (rs : List Reason) where
  -- what the reasons from one on say begins with what that one says
  pub reasons_left : (i : ℕ) (v : ℤ) (r d : Reason) → slice_get vs i ≡ Some v → i < length rs → r ≡ get_or rs i d → clauses_at p pairs x (drop i vs) (drop i rs) ≡ reason_clauses p (given_with x v pairs) r ++ clauses_at p pairs x (drop (i + 1) vs) (drop (i + 1) rs)
  reasons_left i v r d e l is =
      let inside = slice_get_within vs i v e in
      ap (λ (ws : List ℤ). clauses_at p pairs x ws (drop i rs)) (from_here vs i v v inside (sym (get_or_from_slice_get vs i v v e)))
      ∙ ap (λ (ss : List Reason). clauses_at p pairs x (v ∷ drop (i + 1) vs) ss) (from_here rs i r d l is)

  -- nothing is left behind the last
  pub reasons_done : (i : ℕ) → length vs ≤ i → clauses_at p pairs x (drop i vs) (drop i rs) ≡ []
  reasons_done i l = ap (λ (ws : List ℤ). clauses_at p pairs x ws (drop i rs)) (drop_all i vs l)

-- the reason at a place is one of the problem
pub reason_at : (p : Contents) (rs ss : List Reason) (i : ℕ) (d : Reason) → rs ≡ ss → i < length rs → All (IsReasonIn p) ss → IsReasonIn p (get_or rs i d)
reason_at p rs ss i d e l all = (subst (λ (ts : List Reason). All (IsReasonIn p) ts) (sym e) all) i d l
