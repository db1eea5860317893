-- The atoms of a problem: one for each value of each variable, in order, numbered from 1.
use Rattle.std.specs.Prelude.{◌≡◌, ◌≤◌, ◌<◌, ℕ, ◌+◌, suc, ℤ, pos, negsuc, Bool, List, [], ◌∷◌, map, length, ◌==◌, if◌then◌else◌}
use Rattle.std.specs.List.{list_any}
use Rattle.std.specs.Ordering.{int_eq}
use Rattle.dcsp_defs.specs.Words.{In, below, sum_below}
use Rattle.dcsp_defs.specs.Csp.{Csp, Assignment, domain, count}
use Rattle.dcsp_rule.specs.Problems.{csp_of, value_count}
use Rattle.line_export.specs.declared.atoms.Atoms.{Atoms}

-- the place of a value among these, counted from 0; past their end where it is not among them
abbrev pub place_in : List ℤ → ℤ → ℕ
place_in [] value = 0
place_in (x ∷ xs) value = if int_eq value x then 0 else suc (place_in xs value)

-- how many values the domains before the variable's have
abbrev pub values_before : Csp → ℕ → ℕ
values_before p k = sum_below (λ j. length (domain p j)) k

-- how many atoms come before the one that says that the variable has this value
abbrev pub atoms_before : Csp → ℕ → ℤ → ℕ
atoms_before p k value = values_before p k + place_in (domain p k) value

-- the literal that says that the variable has the value: the number of its atom
abbrev pub has_value : Csp → ℕ → ℤ → ℤ
has_value p k value = pos (suc (atoms_before p k value))

-- the literal that says that it has not: the number with a sign
abbrev pub lacks_value : Csp → ℕ → ℤ → ℤ
lacks_value p k value = negsuc (atoms_before p k value)

-- which atoms an assignment makes true: for each variable the one of its value
abbrev pub is_true_atom : Csp → Assignment → ℕ → Bool
is_true_atom p values number = list_any (λ k. number == suc (atoms_before p k (values k))) (below (count p))

-- each variable has a value of its domain
abbrev pub HasValues : Csp → Assignment → Type 0
HasValues p values = (k : ℕ) → k < count p → In (values k) (domain p k)

-- what the code keeps of atoms: for each variable how many come before those of its values, and how many there are
pub record AreAtoms (atoms : Atoms) : Type 0 where
  pub before : atoms.before.items ≡ map (values_before (csp_of atoms.problem.now)) (below (length atoms.problem.now.domains))
  pub count : atoms.count ≡ value_count atoms.problem.now
  pub few : value_count atoms.problem.now ≤ 1048576
