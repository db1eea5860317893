-- The table of links.
use Rattle.std.proofs.Common.{◌≡◌, ℕ, ◌≤◌, Bool, false, not, ◌&&◌, ◌||◌, List, [], ◌∷◌, length, nat_lt, refl, ap, ◌∙◌, arith, inl, inr}
use Rattle.std.specs.List.{list_any}
use Rattle.std.proofs.lemmas.Bool.{and_right, cases_lt, false_from_ne_true, ltb-true}
use Rattle.abt_marks.specs.Links.{is_unlinked, AreLinkedBefore}
use Rattle.abt_marks.specs.Marks.{has_mark}

-- where each agent with a place is marked, none is unlinked
pub none_unlinked : (linked : List Bool) (end : ℕ) → AreLinkedBefore end linked → length linked ≤ end → (ks : List ℕ) → list_any (is_unlinked linked) ks ≡ false
none_unlinked linked end all size [] = refl
none_unlinked linked end all size (k ∷ ks) = ap (λ b. b || list_any (is_unlinked linked) ks) (elim (cases_lt k (length linked)) [
  | inl within ↦ ap (λ b. nat_lt k (length linked) && not b) (all.marked k (omega (arith, size, within))) ∙ and_right (nat_lt k (length linked)) false refl
  | inr past ↦ ap (λ b. b && not (has_mark linked k)) (false_from_ne_true (nat_lt k (length linked)) (λ e. let low = ltb-true k (length linked) e in omega (arith, low, past)))
]) ∙ none_unlinked linked end all size ks

-- marks that are added leave the marked ones
pub still_linked : (end : ℕ) (old new : List Bool) (more : ℕ → Bool) → length new ≡ length old → ((k : ℕ) → has_mark new k ≡ (has_mark old k || more k)) → AreLinkedBefore end old → AreLinkedBefore end new
still_linked end old new more size marks all = record {
  within = let fits = all.within in omega (arith, size, fits);
  marked = λ k l. marks k ∙ ap (λ b. b || more k) (all.marked k l);
}
