-- The first false rule without variables.
use Rattle.std.proofs.Common.{◌≡◌, ℕ, zero, suc, ◌+◌, ◌<◌, ◌≤◌, Bool, true, false, not, ◌&&◌, List, [], ◌∷◌, map, length, get_or, Some, None, pos, refl, sym, ap, ◌∙◌, arith}
use Rattle.std.specs.Prelude.{find}
use Rattle.std.specs.List.{list_all, enumerate_from}
use Rattle.std.specs.Option.{option_map}
use Rattle.dcsp_defs.specs.Csp.{Constraint, is_violated}
use Rattle.abt_defs.specs.Network.{is_false, is_empty}
use Rattle.dcsp_rule.specs.declared.rule.Rule.{Rule}
use Rattle.dcsp_rule.specs.Rules.{no_rule}
use Rattle.dcsp_rule.specs.Problems.{Contents, csp_of, constraint_of, constraint_at}
use Rattle.abt_network.specs.Settling.{first_false}

-- where nothing has a value, a false rule is one without variables
pub nothing_known : (c : Constraint) → is_violated (λ k. None) c ≡ is_false c
nothing_known c = by_scope c.scope (not (c.test (λ k. pos 0)))
  where
    by_scope : (xs : List ℕ) (b : Bool) → (list_all (λ (k : ℕ). false) xs && b) ≡ (is_empty xs && b)
    by_scope [] b = refl
    by_scope (x ∷ xs) b = refl

pub find_first : (f : Rule → Constraint) (rs : List Rule) (m k : ℕ) → ((j : ℕ) → j < k → is_false (f (get_or rs j no_rule)) ≡ false) → k < length rs → is_false (f (get_or rs k no_rule)) ≡ true
    → option_map (λ (x : ℕ × Constraint). x.0) (find (λ (x : ℕ × Constraint). is_false x.1) (enumerate_from m (map f rs))) ≡ Some (m + k)
find_first f [] m k h l e = absurd (omega arith)
find_first f (r ∷ rs) m zero h l e = rw e (ap Some (omega arith))
find_first f (r ∷ rs) m (suc k) h l e =
    let first = h 0 (omega arith) in
    rw first (find_first f rs (m + 1) k (λ j w. h (suc j) (omega arith)) (omega arith) e ∙ ap Some (omega arith))

pub find_none : (f : Rule → Constraint) (rs : List Rule) (m : ℕ) → ((j : ℕ) → j < length rs → is_false (f (get_or rs j no_rule)) ≡ false)
    → option_map (λ (x : ℕ × Constraint). x.0) (find (λ (x : ℕ × Constraint). is_false x.1) (enumerate_from m (map f rs))) ≡ None
find_none f [] m h = refl
find_none f (r ∷ rs) m h =
    let first = h 0 (omega arith) in
    rw first (find_none f rs (m + 1) (λ j w. h (suc j) (omega arith)))

pub is_first : (p : Contents) (k : ℕ) → ((j : ℕ) → j < k → is_false (constraint_at p j) ≡ false) → k < length p.rules → is_false (constraint_at p k) ≡ true → Some k ≡ first_false (csp_of p)
is_first p k h l e = sym (find_first (constraint_of (length p.domains)) p.rules 0 k h l e ∙ ap Some (omega arith))

pub is_none : (p : Contents) (n : ℕ) → length p.rules ≤ n → ((j : ℕ) → j < n → is_false (constraint_at p j) ≡ false) → None ≡ first_false (csp_of p)
is_none p n e h = sym (find_none (constraint_of (length p.domains)) p.rules 0 (λ j l. h j (omega arith)))
