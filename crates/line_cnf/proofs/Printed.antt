-- The literals of values, printed one by one.
use Rattle.std.proofs.Common.{◌≡◌, ℕ, suc, ◌+◌, List, [], ◌∷◌, ◌++◌, map, sym, ap, ◌∙◌, append_assoc, append-nil, arith}
use Rattle.std.specs.Prelude.{ℤ, flat_map}
use Rattle.std.proofs.lemmas.List.{map-append}
use Rattle.std.proofs.lemmas.List.Concat.{flat_map-cons}
use Rattle.std.proofs.lemmas.Grind.{flat_map-append}
use Rattle.dcsp_defs.specs.Words.{below}
use Rattle.rup_check.specs.ProofText.{literal_text}

module _ (f : ℕ → ℤ) where
  one_more : (n : ℕ) → flat_map literal_text (map f (below (suc n))) ≡ flat_map literal_text (map f (below n)) ++ literal_text (f n)
  one_more n =
      ap (flat_map literal_text) (map-append f (below n) (n ∷ []))
      ∙ flat_map-append literal_text (map f (below n)) (f n ∷ [])
      ∙ ap (λ t. flat_map literal_text (map f (below n)) ++ t) (flat_map-cons literal_text (f n) [] ∙ append-nil (literal_text (f n)))

  -- one literal more was printed
  pub printed_more : (n : ℕ) (before now after : List ℕ) → now ≡ before ++ flat_map literal_text (map f (below n)) → after ≡ now ++ literal_text (f n) → after ≡ before ++ flat_map literal_text (map f (below (n + 1)))
  printed_more n before now after h g =
      let next : suc n ≡ n + 1 = omega arith in
      g ∙ ap (λ t. t ++ literal_text (f n)) h ∙ append_assoc before (flat_map literal_text (map f (below n))) (literal_text (f n)) ∙ ap (λ t. before ++ t) (sym (one_more n)) ∙ ap (λ k. before ++ flat_map literal_text (map f (below k))) next
