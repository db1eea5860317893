-- Lines that are written one by one.
use Rattle.std.proofs.Common.{◌≡◌, ℕ, zero, suc, ◌+◌, ◌<◌, ◌≤◌, List, [], ◌∷◌, ◌++◌, length, map, get_or, drop, refl, sym, ap, subst, ◌∙◌, arith, length-append}
use Rattle.std.specs.Prelude.{flat_map}
use Rattle.std.proofs.lemmas.List.{drop_all, map-append}
use Rattle.dcsp_defs.specs.declared.Step.{Step}
use Rattle.dcsp_rule.specs.Problems.{Contents}
use Rattle.std.specs.Prelude.{Bool, All}
use Rattle.dcsp_defs.specs.Words.{below}
use Rattle.dcsp_problem.proofs.OwnerLists.{get_or-map_below}
use Rattle.dcsp_rule.specs.Problems.{value_count}
use Rattle.dcsp_script.specs.Scripts.{Create, Append}
use Rattle.line_rewrite.specs.UpgradePromise.{file_script}
use Rattle.rup_check.specs.ProofText.{clause_line}
use Rattle.line_rewrite.specs.UpgradePromise.{appends}
use Rattle.line_export.specs.Clauses.{Clause, nogood_clause, proof, IsStepIn}
use Rattle.line_export.specs.Texts.{header_line, cnf_lines, atom_lines}
use Rattle.line_export.proofs.Once.{from_here}
use Rattle.dcsp_rule.specs.Problems.{csp_of}

-- the lines that a loop over items has left begin with that of the item at hand
pub items_left : {A : Type 0} (name : List ℕ) (f : A → List ℕ) (xs : List A) (i : ℕ) (x : A) → i < length xs → x ≡ get_or xs i x → appends name (map f (drop i xs)) ≡ Append name (f x) ∷ appends name (map f (drop (i + 1) xs))
items_left name f xs i x l is = ap (λ ys. appends name (map f ys)) (from_here xs i x x l is)

pub items_done : {A : Type 0} (name : List ℕ) (f : A → List ℕ) (xs : List A) (i : ℕ) → length xs ≤ i → appends name (map f (drop i xs)) ≡ []
items_done name f xs i l = ap (λ ys. appends name (map f ys)) (drop_all i xs l)

-- the same of the clauses of steps
pub steps_left : (name : List ℕ) (p : Contents) (steps : List Step) (i : ℕ) (s : Step) → i < length steps → s ≡ get_or steps i s → appends name (map clause_line (proof p (drop i steps))) ≡ Append name (clause_line (nogood_clause (csp_of p) s.nogood)) ∷ appends name (map clause_line (proof p (drop (i + 1) steps)))
steps_left name p steps i s l is = ap (λ (ys : List Step). appends name (map clause_line (proof p ys))) (from_here steps i s s l is)

pub steps_done : (name : List ℕ) (p : Contents) (steps : List Step) (i : ℕ) → length steps ≤ i → appends name (map clause_line (proof p (drop i steps))) ≡ []
steps_done name p steps i l = ap (λ (ys : List Step). appends name (map clause_line (proof p ys))) (drop_all i steps l)

-- and of items of which each has several lines
pub groups_left : {A : Type 0} (name : List ℕ) (f : A → List (List ℕ)) (xs : List A) (i : ℕ) (x : A) → i < length xs → x ≡ get_or xs i x → appends name (flat_map f (drop i xs)) ≡ appends name (f x) ++ appends name (flat_map f (drop (i + 1) xs))
groups_left name f xs i x l is = ap (λ ys. appends name (flat_map f ys)) (from_here xs i x x l is) ∙ map-append (λ (line : List ℕ). Append name line) (f x) (flat_map f (drop (i + 1) xs))

pub groups_done : {A : Type 0} (name : List ℕ) (f : A → List (List ℕ)) (xs : List A) (i : ℕ) → length xs ≤ i → appends name (flat_map f (drop i xs)) ≡ []
groups_done name f xs i l = ap (λ ys. appends name (flat_map f ys)) (drop_all i xs l)

map_same : (xs : List ℕ) → map (λ v. v) xs ≡ xs
map_same [] = refl
map_same (x ∷ xs) = ap (λ ys. x ∷ ys) (map_same xs)

-- the number at a place of those below n
pub below_at : (n i : ℕ) → i < n → i ≡ get_or (below n) i i
below_at n i l = sym (ap (λ ys. get_or ys i i) (sym (map_same (below n))) ∙ get_or-map_below (λ v. v) n i i l)

-- the script of a formula
pub cnf_script : (name : List ℕ) (p : Contents) (wanted : Bool) (clauses : List Clause) → Create name ∷ (appends name (atom_lines (csp_of p) wanted) ++ (Append name (header_line (value_count p) (length clauses)) ∷ appends name (map clause_line clauses))) ≡ file_script name (cnf_lines p wanted clauses)
cnf_script name p wanted clauses = ap (λ s. Create name ∷ s) (sym (map-append (λ (line : List ℕ). Append name line) (atom_lines (csp_of p) wanted) (header_line (value_count p) (length clauses) ∷ map clause_line clauses)))

pub below_size : (n : ℕ) → length (below n) ≡ n
below_size zero = refl
below_size (suc n) = let a = length-append (below n) (n ∷ []) in let ih = below_size n in omega (arith, a, ih)

-- the step at hand names parts of the problem alone
pub step_in : (p : Contents) (steps : List Step) (i : ℕ) (s : Step) → i < length steps → s ≡ get_or steps i s → All (IsStepIn p) steps → IsStepIn p s
step_in p steps i s l is all = subst (IsStepIn p) (sym is) (all i s l)
