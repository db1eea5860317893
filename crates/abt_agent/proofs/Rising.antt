-- Rising lists of agents: the numbers below one that pass a test.
use Rattle.std.proofs.Common.{◌≡◌, ℕ, zero, suc, ◌+◌, ◌<◌, ◌≤◌, Bool, true, false, cond, ◌||◌, ◌==◌, List, [], ◌∷◌, ◌++◌, filter, refl, sym, ap, ◌∙◌, arith, inl, inr}
use Rattle.std.proofs.lemmas.Bool.{cases_lt, eq-eqb, false_from_ne_true, ne_eqb}
use Rattle.std.proofs.lemmas.List.Elements.{filter-append}
use Rattle.dcsp_defs.specs.Words.{In, IsRising, below}
use Rattle.abt_defs.specs.Agents.{is_among}
use Rattle.abt_agent.proofs.Blamed.{filter_below, filter_past}
use Rattle.abt_parts.proofs.Members.{among_In}

none_below : (p : ℕ → Bool) (n : ℕ) → ((k : ℕ) → k < n → p k ≡ false) → filter p (below n) ≡ []
none_below p n none = let end : 0 + n ≡ n = omega arith in ap (λ m. filter p (below m)) (sym end) ∙ filter_past p 0 n (λ k least low. none k (omega arith))

-- a number below all others that pass comes first
first_passes : (p : ℕ → Bool) (x n : ℕ) → ((k : ℕ) → p k ≡ true → x < k) → x < n → filter (λ k. (k == x) || p k) (below n) ≡ x ∷ filter p (below n)
first_passes p x zero above l = absurd (omega arith)
first_passes p x (suc n) above l = elim (cases_lt x n) [
  | inl early ↦
      filter-append (λ k. (k == x) || p k) (below n) (n ∷ [])
      ∙ ap (λ z. z ++ cond ((n == x) || p n) (n ∷ []) []) (first_passes p x n above early)
      ∙ ap (λ b. x ∷ filter p (below n) ++ cond (b || p n) (n ∷ []) []) (ne_eqb n x (λ e. omega arith))
      ∙ ap (λ z. x ∷ z) (sym (filter-append p (below n) (n ∷ [])))
  | inr last ↦
      let same : n ≡ x = omega arith in
      filter-append (λ k. (k == x) || p k) (below n) (n ∷ [])
      ∙ ap (λ z. z ++ cond ((n == x) || p n) (n ∷ []) []) (none_below (λ k. (k == x) || p k) n (λ k low. ap (λ b. b || p k) (ne_eqb k x (λ e. omega arith)) ∙ fails k (omega arith)))
      ∙ ap (λ b. cond (b || p n) (n ∷ []) []) (eq-eqb n x same)
      ∙ ap (λ z. z ∷ []) same
      ∙ ap (λ z. x ∷ z) (sym (none_below p (suc n) (λ k low. fails k (omega arith))))
]
  where
    fails : (k : ℕ) → k ≤ x → p k ≡ false
    fails k low = false_from_ne_true (p k) (λ e. let up = above k e in omega arith)

-- a rising list is made of those below n that are in it
pub filter_among : (ts : List ℕ) (n : ℕ) → IsRising ts → ((v : ℕ) → In v ts → v < n) → filter (λ k. is_among k ts) (below n) ≡ ts
filter_among [] n up inside = none_below (λ k. is_among k []) n (λ k low. refl)
filter_among (x ∷ xs) n up inside =
    first_passes (λ k. is_among k xs) x n (λ k e. up.0 k (among_In k xs e)) (inside x (inl refl)) ∙ ap (λ z. x ∷ z) (filter_among xs n up.1 (λ v i. inside v (inr i)))

-- so it is made of those that pass a test, if just its numbers pass
pub filter_is : (q : ℕ → Bool) (ts : List ℕ) (n : ℕ) → IsRising ts → ((v : ℕ) → In v ts → v < n) → ((v : ℕ) → v < n → q v ≡ is_among v ts) → filter q (below n) ≡ ts
filter_is q ts n up inside same = filter_below q (λ k. is_among k ts) n same ∙ filter_among ts n up inside
