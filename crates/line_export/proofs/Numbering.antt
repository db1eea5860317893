-- Where atoms stand: different values have different atoms, and there are as many as values.
use Rattle.std.proofs.Common.{◌≡◌, ◌⊎◌, ℕ, zero, suc, ◌+◌, ◌<◌, ◌≤◌, Bool, true, false, List, [], ◌∷◌, length, take, get_or, Option, Some, None, slice_get, is_some, unwrap_or, refl, sym, ap, subst, ◌∙◌, inl, inr, arith, take_all}
use Rattle.std.specs.Prelude.{ℤ, ◌<ℤ◌, IfSome, sum_by, if◌then◌else◌}
use Rattle.std.specs.Int.Signed.{<ℤ_irrefl}
use Rattle.std.specs.Ordering.{int_eq}
use Rattle.std.proofs.lemmas.Bool.Decides.{eqb_tells, Decides-int_eq}
use Rattle.std.proofs.lemmas.List.Sums.{sum_by-append}
use Rattle.std.proofs.Math.Seq.{take-suc}
use Rattle.std.proofs.lemmas.Option.{slice_get_within, get_or_from_slice_get}
use Rattle.dcsp_domain.specs.Sets.{has, IsRising}
use Rattle.dcsp_defs.specs.Words.{In, sum_below}
use Rattle.dcsp_defs.specs.Csp.{Csp, domain, count}
use Rattle.dcsp_problem.proofs.OwnerLists.{length-map_below, get_or-map_below}
use Rattle.dcsp_rule.specs.Problems.{Contents, csp_of, value_count}
use Rattle.line_export.specs.declared.atoms.Atoms.{Atoms}
use Rattle.line_export.specs.Atoms.{place_in, values_before, atoms_before, AreAtoms}

-- ---- places

same : (v : ℤ) → int_eq v v ≡ true
same v = (Decides-int_eq v v).1 refl

other : (v w : ℤ) → (v ≡ w → ⊥) → int_eq v w ≡ false
other v w n = of (int_eq v w) refl
  where
    of : (b : Bool) → int_eq v w ≡ b → b ≡ false
    of true e = absurd (n ((Decides-int_eq v w).0 e))
    of false e = refl

-- a value that is there has its place, where it stands
pub place_there : (xs : List ℤ) (v : ℤ) → In v xs → slice_get xs (place_in xs v) ≡ Some v
place_there [] v i = absurd i
place_there (x ∷ xs) v (inl e) = rw (ap (int_eq v) (sym e) ∙ same v) (ap Some (sym e))
place_there (x ∷ xs) v (inr i) = of (int_eq v x) refl (place_there xs v i)
  where
    of : (b : Bool) → int_eq v x ≡ b → slice_get xs (place_in xs v) ≡ Some v → slice_get (x ∷ xs) (if b then 0 else suc (place_in xs v)) ≡ Some v
    of true e ih = ap Some (sym ((Decides-int_eq v x).0 e))
    of false e ih = ih

pub place_below : (xs : List ℤ) (v : ℤ) → In v xs → place_in xs v < length xs
place_below [] v i = absurd i
place_below (x ∷ xs) v i = of (int_eq v x) refl i (place_below xs v)
  where
    of : (b : Bool) → int_eq v x ≡ b → In v (x ∷ xs) → (In v xs → place_in xs v < length xs) → (if b then 0 else suc (place_in xs v)) < suc (length xs)
    of true e i ih = omega arith
    of false e (inl s) ih = absurd (let no = same v in let is : int_eq v v ≡ false = ap (int_eq v) s ∙ e in cc)
    of false e (inr i) ih = let l = ih i in omega (arith, l)

pub place_most : (xs : List ℤ) (v : ℤ) → place_in xs v ≤ length xs
place_most [] v = omega arith
place_most (x ∷ xs) v = of (int_eq v x) (place_most xs v)
  where
    of : (b : Bool) → place_in xs v ≤ length xs → (if b then 0 else suc (place_in xs v)) ≤ suc (length xs)
    of true ih = omega arith
    of false ih = omega (arith, ih)

-- one place has one value
one_place : (xs : List ℤ) (v w : ℤ) → In v xs → In w xs → place_in xs v ≡ place_in xs w → v ≡ w
one_place xs v w i j e = let both : Some v ≡ Some w = sym (place_there xs v i) ∙ ap (slice_get xs) e ∙ place_there xs w j in cc

-- in a rising list the value at a place has that place
pub place_at : (xs : List ℤ) → IsRising xs → (k : ℕ) (v : ℤ) → slice_get xs k ≡ Some v → place_in xs v ≡ k
place_at [] r k v e = absurd cc
place_at (x ∷ xs) r zero v e = let is : x ≡ v = cc in rw (ap (int_eq v) is ∙ same v) refl
place_at (x ∷ xs) r (suc k) v e =
    let l = slice_get_within xs k v e in
    let above : x <ℤ v = subst (λ y. x <ℤ y) (get_or_from_slice_get xs k v x e) (r 0 (suc k) x (omega arith) (omega (arith, l))) in
    rw (other v x (λ is. <ℤ_irrefl (subst (λ y. x <ℤ y) is above))) (ap suc (place_at xs (λ i j d a b. r (suc i) (suc j) d (omega (arith, a)) (omega (arith, b))) k v e))

-- a value that is not there has the place past the end
pub place_past : (xs : List ℤ) (v : ℤ) → has xs v ≡ false → place_in xs v ≡ length xs
place_past [] v h = refl
place_past (x ∷ xs) v h = of (int_eq v x) refl h (place_past xs v)
  where
    of : (b : Bool) → int_eq v x ≡ b → has (x ∷ xs) v ≡ false → (has xs v ≡ false → place_in xs v ≡ length xs) → (if b then 0 else suc (place_in xs v)) ≡ suc (length xs)
    of true e h ih = absurd (let is : has (x ∷ xs) v ≡ true = rw e refl in cc)
    of false e h ih = ap suc (ih (rw e at h))

-- ---- atoms

module _ (p : Csp) where
  size : ℕ → ℕ
  size j = length (domain p j)

  pub before_grows : (k m : ℕ) → k < m → values_before p k + length (domain p k) ≤ values_before p m
  before_grows k zero l = absurd (omega arith)
  before_grows k (suc m) l = elim (eqb_tells k m) [
    | inl t ↦ (let e : values_before p m + length (domain p m) ≡ values_before p k + length (domain p k) = ap (λ j. values_before p j + length (domain p j)) (sym t.1) in omega (arith, e))
    | inr t ↦ (let n = t.1 in let ih = before_grows k m (omega (arith, l, n)) in omega (arith, ih))
  ]

  pub atom_below : (k : ℕ) (v : ℤ) → k < count p → In v (domain p k) → atoms_before p k v < values_before p (count p)
  atom_below k v l i = let a = place_below (domain p k) v i in let b = before_grows k (count p) l in omega (arith, a, b)

  -- variables with an atom in common are one
  one_variable : (k m : ℕ) (v w : ℤ) → In v (domain p k) → In w (domain p m) → atoms_before p k v ≡ atoms_before p m w → k < m → ⊥
  one_variable k m v w i j e l =
      let a = place_below (domain p k) v i in
      let b = before_grows k m l in
      omega (arith, a, b, e)

  pub one_atom : (k m : ℕ) (v w : ℤ) → In v (domain p k) → In w (domain p m) → atoms_before p k v ≡ atoms_before p m w → (k ≡ m) × (v ≡ w)
  one_atom k m v w i j e = elim (eqb_tells k m) [
    | inl t ↦ (t.1, (let here : In w (domain p k) = subst (λ n. In w (domain p n)) (sym t.1) j in let f : atoms_before p k v ≡ atoms_before p k w = e ∙ ap (λ n. atoms_before p n w) (sym t.1) in one_place (domain p k) v w i here (omega (arith, f))))
    | inr t ↦ absurd (elim (apart k m t.1) [ inl l ↦ one_variable k m v w i j e l | inr l ↦ one_variable m k w v j i (sym e) l ])
  ]
    where
      apart : (a b : ℕ) → (a ≡ b → ⊥) → (a < b) ⊎ (b < a)
      apart zero zero n = absurd (n refl)
      apart zero (suc b) n = inl (omega arith)
      apart (suc a) zero n = inr (omega arith)
      apart (suc a) (suc b) n = elim (apart a b (λ e. n (ap suc e))) [ inl l ↦ inl (omega (arith, l)) | inr l ↦ inr (omega (arith, l)) ]

-- ---- how many there are

values_taken : (ds : List (List ℤ)) (k : ℕ) → k ≤ length ds → sum_below (λ j. length (get_or ds j [])) k ≡ sum_by length (take k ds)
values_taken ds zero l = refl
values_taken ds (suc k) l =
    let ih = values_taken ds k (omega (arith, l)) in
    let more = ap (sum_by length) (take-suc ds k [] (omega (arith, l))) ∙ sum_by-append length (take k ds) (get_or ds k [] ∷ []) in
    omega (arith, ih, more)

pub all_values : (p : Contents) → values_before (csp_of p) (length p.domains) ≡ value_count p
all_values p = values_taken p.domains (length p.domains) (omega arith) ∙ ap (sum_by length) (take_all (length p.domains) p.domains (omega arith))

pub before_few : (p : Contents) (k : ℕ) → k < length p.domains → values_before (csp_of p) k + length (domain (csp_of p) k) ≤ value_count p
before_few p k l = let a = before_grows (csp_of p) k (length p.domains) l in let b = all_values p in omega (arith, a, b)

-- ---- what the code keeps

-- a search found the place, or the value is not there
pub place_found : (xs : List ℤ) → IsRising xs → (v : ℤ) (o : Option ℕ) → IfSome o (λ place. slice_get xs place ≡ Some v) → is_some o ≡ has xs v → unwrap_or o (length xs) ≡ place_in xs v
place_found xs r v None f h = sym (place_past xs v (sym h))
place_found xs r v (Some k) f h = sym (place_at xs r k v f)

module _ (atoms : Atoms) (are : AreAtoms atoms) where
  pub before_length : length atoms.before.items ≡ length atoms.problem.now.domains
  before_length = ap (λ (xs : List ℕ). length xs) are.before ∙ length-map_below (values_before (csp_of atoms.problem.now)) (length atoms.problem.now.domains)

  pub before_at : (k b : ℕ) → k < length atoms.problem.now.domains → b ≡ get_or atoms.before.items k b → b ≡ values_before (csp_of atoms.problem.now) k
  before_at k b l is = is ∙ ap (λ (xs : List ℕ). get_or xs k b) are.before ∙ get_or-map_below (values_before (csp_of atoms.problem.now)) (length atoms.problem.now.domains) k b l
