-- The domain of a type has the numbers of that type.
use Rattle.std.proofs.Common.{◌≡◌, ℕ, Bool, true, false, ◌&&◌, ◌||◌, List, [], ◌∷◌, length, Ok, refl, sym, ap, ◌∙◌, subst, rules}
use Rattle.std.specs.Prelude.{◌↔◌, ℤ, pos, ◌≤ℤ◌, int_le, nat_lt}
use Rattle.std.specs.Ordering.{int_eq}
use Rattle.std.proofs.lemmas.Bool.Decides.{Decides-int_eq}
use Rattle.dcsp_domain.specs.Sets.{has, set_of}
use Rattle.dcsp_domain.specs.Ranges.{count_between, numbers_between}
use Rattle.dcsp_domain.proofs.SetLaws.{set_of_is_set}
use Rattle.dcsp_domain.proofs.RangeLaws.{numbers_between_has}
use Rattle.dcsp_defs.specs.Words.{In}
use Rattle.dcsp_defs.proofs.Lists.{list_any-In, In-list_any, and_left, and_right, and_both}
use Rattle.fzn_item.specs.declared.item.Base.{Base}
use Rattle.fzn_item.specs.declared.item.Base.TheVariants as base
use Rattle.dcsp_common.specs.declared.limits.Which.TheVariants as which
use Rattle.dcsp_common.specs.Limits.{most}
use Rattle.fzn_token.specs.declared.refusal.Refusal.TheVariants as refusal
use Rattle.fzn_model.specs.Declarations.{domain_of}
use Rattle.law_subjects.specs.Holding.{in_type}
use Rattle.law_subjects.proofs.Checks.{not_refused}

pub has_In : (xs : List ℤ) (v : ℤ) → (has xs v ≡ true) ↔ In v xs
has_In xs v = (
  (λ h. let f = In-list_any (int_eq v) xs h in subst (λ (x : ℤ). In x xs) (sym ((Decides-int_eq v f.0).0 f.2)) f.1),
  (λ i. list_any-In (int_eq v) v xs i ((Decides-int_eq v v).1 refl)),
)

le_is : (a b : ℤ) → (int_le a b ≡ true) ↔ (a ≤ℤ b)
le_is a b = (λ h. search rules, λ h. search rules)

or_false : (b : Bool) → (b || false) ≡ b
or_false true = refl
or_false false = refl

-- a range's numbers
between_is : (low high v : ℤ) → has (numbers_between low high) v ≡ true ↔ ((int_le low v && int_le v high) ≡ true)
between_is low high v = (
  (λ h. let b = (numbers_between_has low high v).0 h in and_both (int_le low v) (int_le v high) ((le_is low v).1 b.0) ((le_is v high).1 b.1)),
  (λ h. (numbers_between_has low high v).1 ((le_is low v).0 (and_left (int_le low v) (int_le v high) h), (le_is v high).0 (and_right (int_le low v) (int_le v high) h))),
)

same_has : (xs ys : List ℤ) (v : ℤ) → xs ≡ ys → has xs v ≡ has ys v
same_has xs ys v e = ap (λ (l : List ℤ). has l v) e

has_type : (at : ℕ) (type : Base) (domain : List ℤ) (v : ℤ) → domain_of at type ≡ Ok domain → (has domain v ≡ true) ↔ (in_type type v ≡ true)
has_type at base.Bool domain v e =
    let is : pos 0 ∷ pos 1 ∷ [] ≡ domain = cc in
    let same : has domain v ≡ (int_eq v (pos 0) || int_eq v (pos 1)) = same_has domain (pos 0 ∷ pos 1 ∷ []) v (sym is) ∙ ap (λ (b : Bool). int_eq v (pos 0) || b) (or_false (int_eq v (pos 1))) in
    ((λ h. sym same ∙ h), (λ h. same ∙ h))
has_type at base.Int domain v e = absurd cc
has_type at base.Float domain v e = absurd cc
has_type at base.Set domain v e = absurd cc
has_type at (base.Range low high) domain v e =
    let n = not_refused (nat_lt (most which.DomainSize) (count_between low high)) (refusal.Limit which.DomainSize (count_between low high) at) (λ u. Ok (numbers_between low high)) domain e in
    let is : numbers_between low high ≡ domain = let k = n.1 in cc in
    let b = between_is low high v in
    ((λ h. b.0 (same_has (numbers_between low high) domain v is ∙ h)), (λ h. sym (same_has (numbers_between low high) domain v is) ∙ b.1 h))
has_type at (base.Listed values) domain v e =
    let n = not_refused (nat_lt (most which.DomainSize) (length (set_of values))) (refusal.Limit which.DomainSize (length (set_of values)) at) (λ u. Ok (set_of values)) domain e in
    let is : set_of values ≡ domain = let k = n.1 in cc in
    let same : has domain v ≡ has values v = sym (same_has (set_of values) domain v is) ∙ (set_of_is_set values).members v in
    ((λ h. sym same ∙ h), (λ h. same ∙ h))

-- a value is in the domain of a type where it is of the type
pub in_domain : (at : ℕ) (type : Base) (domain : List ℤ) (v : ℤ) → domain_of at type ≡ Ok domain → In v domain ↔ (in_type type v ≡ true)
in_domain at type domain v e = ((λ i. (has_type at type domain v e).0 ((has_In domain v).1 i)), (λ h. (has_In domain v).0 ((has_type at type domain v e).1 h)))
