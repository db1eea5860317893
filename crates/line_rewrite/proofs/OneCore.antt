-- The steps of a log have one core.
use Rattle.std.proofs.Common.{◌≡◌, ℕ, zero, suc, ◌+◌, Bool, true, false, List, [], ◌∷◌, map, refl, sym, ap, ◌∙◌}
use Rattle.std.specs.Prelude.{if◌then◌else◌}
use Rattle.dcsp_defs.specs.declared.Step.{Step}
use Rattle.dcsp_defs.specs.Words.{In}
use Rattle.dcsp_problem.proofs.RisingNumbers.{same_members}
use Rattle.ngd_rewrite.specs.declared.cores.Core.{Core}
use Rattle.ngd_rewrite.specs.Needed.{is_cited, renumbered, chosen, count_to, IsTrimmed}
use Rattle.ngd_rewrite.proofs.Trimming.{renumbered_same}
use Rattle.line_rewrite.specs.CorePromise.{IsCoreOf}

-- tests that pass alike are the same
alike : (x y : Bool) → (x ≡ true → y ≡ true) → (y ≡ true → x ≡ true) → x ≡ y
alike true y f g = sym (f refl)
alike false true f g = g refl
alike false false f g = refl

module _ (f g : ℕ → Bool) (same : (n : ℕ) → f n ≡ g n) where
  chosen_same : (number : ℕ) (steps : List Step) → chosen f number steps ≡ chosen g number steps
  chosen_same number [] = refl
  chosen_same number (s ∷ steps) =
      ap (λ (b : Bool). if b then s ∷ chosen f (suc number) steps else chosen f (suc number) steps) (same number) ∙ ap (λ (xs : List Step). if g number then s ∷ xs else xs) (chosen_same (suc number) steps)

  count_same : (n : ℕ) → count_to f n ≡ count_to g n
  count_same zero = refl
  count_same (suc n) =
      ap (λ (b : Bool). count_to f n + (if b then 1 else 0)) (same (suc n)) ∙ ap (λ (k : ℕ). k + (if g (suc n) then 1 else 0)) (count_same n)

renumbered_alike : (f g : ℕ → ℕ) → ((n : ℕ) → f n ≡ g n) → (steps : List Step) → map (renumbered f) steps ≡ map (renumbered g) steps
renumbered_alike f g same [] = refl
renumbered_alike f g same (s ∷ steps) =
    ap (λ (t : Step). t ∷ map (renumbered f) steps) (renumbered_same f g s (λ n c. same n)) ∙ ap (λ (ts : List Step). renumbered g s ∷ ts) (renumbered_alike f g same steps)

one_trimmed : (steps a b : List Step) → IsTrimmed steps a → IsTrimmed steps b → a ≡ b
one_trimmed steps a b h k =
    let same : (n : ℕ) → h.needed n ≡ k.needed n = λ n. alike (h.needed n) (k.needed n) (λ t. (k.exactly n).1 ((h.exactly n).0 t)) (λ t. (h.exactly n).1 ((k.exactly n).0 t)) in
    h.same
    ∙ (ap (map (renumbered (count_to h.needed))) (chosen_same h.needed k.needed same 1 steps)
    ∙ (renumbered_alike (count_to h.needed) (count_to k.needed) (count_same h.needed k.needed same) (chosen k.needed 1 steps)
    ∙ sym k.same))

-- equal parts make equal cores
abbrev core_with : List ℕ → List Step → Core
core_with rules steps = record { rules = rules; steps = steps }

pub one_core : (steps : List Step) (a b : Core) → IsCoreOf steps a → IsCoreOf steps b → a ≡ b
one_core steps a b h k =
    let trimmed : a.steps ≡ b.steps = one_trimmed steps a.steps b.steps h.trimmed k.trimmed in
    let there : (rule : ℕ) → In rule a.rules → In rule b.rules = λ rule i. (k.cited rule).1 (ap (λ (xs : List Step). is_cited xs rule) (sym trimmed) ∙ (h.cited rule).0 i) in
    let back : (rule : ℕ) → In rule b.rules → In rule a.rules = λ rule i. (h.cited rule).1 (ap (λ (xs : List Step). is_cited xs rule) trimmed ∙ (k.cited rule).0 i) in
    let rules : a.rules ≡ b.rules = same_members a.rules b.rules h.rising k.rising there back in
    ap (λ (xs : List ℕ). core_with xs a.steps) rules ∙ ap (core_with b.rules) trimmed
