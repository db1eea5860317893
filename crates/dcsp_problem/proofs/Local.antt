-- A rule's truth looks at the values of its own variables alone.
use Rattle.std.proofs.Common.{◌≡◌, ℕ, List, [], ◌∷◌, ◌++◌, map, zip, refl, sym, ap, ◌∙◌, inl, subst}
use Rattle.std.specs.Prelude.{ℤ, filter_map, Option, Some, None}
use Rattle.std.specs.Option.{option_map, option_to_list}
use Rattle.std.proofs.lemmas.List.Elements.{filter_map-append}
use Rattle.dcsp_meaning.specs.Table.{truth}
use Rattle.dcsp_meaning.specs.Sums.{sum_of, stands}
use Rattle.dcsp_defs.specs.Words.{In}
use Rattle.dcsp_defs.proofs.Lists.{In-left, In-right}
use Rattle.dcsp_rule.specs.declared.rule.Term.{Term}
use Rattle.dcsp_rule.specs.declared.rule.Term.TheVariants.{Const, Var}
use Rattle.dcsp_rule.specs.declared.rule.Rule.{Rule}
use Rattle.dcsp_rule.specs.declared.rule.Rule.TheVariants.{Plain, Sum}
use Rattle.dcsp_rule.specs.Members.{is_member}
use Rattle.dcsp_rule.specs.Rules.{variable_of, value_under, variables_of, weighted_values, is_told, rule_truth}

-- a fact of each variable among these terms
pub record OfEach (P : ℕ → Type 0) (terms : List Term) : Type 0 where
  pub each : (v : ℕ) → In v (filter_map variable_of terms) → P v

pub of_left : (P : ℕ → Type 0) (xs ys : List Term) → OfEach P (xs ++ ys) → OfEach P xs
of_left P xs ys h = record {
  each = λ v i. h.each v (subst (λ (z : List ℕ). In v z) (sym (filter_map-append variable_of xs ys)) (In-left v _ _ i));
}

pub of_right : (P : ℕ → Type 0) (xs ys : List Term) → OfEach P (xs ++ ys) → OfEach P ys
of_right P xs ys h = record {
  each = λ v i. h.each v (subst (λ (z : List ℕ). In v z) (sym (filter_map-append variable_of xs ys)) (In-right v (filter_map variable_of xs) _ i));
}

pub of_first : (P : ℕ → Type 0) (x : Term) (xs : List Term) → OfEach P (x ∷ xs) → OfEach P (x ∷ [])
of_first P x xs h = of_left P (x ∷ []) xs h

pub of_rest : (P : ℕ → Type 0) (x : Term) (xs : List Term) → OfEach P (x ∷ xs) → OfEach P xs
of_rest P x xs h = of_right P (x ∷ []) xs h

-- two assignments agree on the variables among these terms
abbrev Agree : (ℕ → ℤ) → (ℕ → ℤ) → List Term → Type 0
Agree f g terms = OfEach (λ v. f v ≡ g v) terms

same_value : (f g : ℕ → ℤ) (term : Term) → Agree f g (term ∷ []) → value_under f term ≡ value_under g term
same_value f g (Const c) h = refl
same_value f g (Var w) h = h.each w (inl refl)

same_values : (f g : ℕ → ℤ) (terms : List Term) → Agree f g terms → map (value_under f) terms ≡ map (value_under g) terms
same_values f g [] h = refl
same_values f g (term ∷ terms) h =
    ap (λ z. z ∷ map (value_under f) terms) (same_value f g term (of_first (λ v. f v ≡ g v) term terms h))
    ∙ ap (λ z. value_under g term ∷ z) (same_values f g terms (of_rest (λ v. f v ≡ g v) term terms h))

same_told : (f g : ℕ → ℤ) (told : Option Term) → Agree f g (option_to_list told) → option_map (value_under f) told ≡ option_map (value_under g) told
same_told f g None h = refl
same_told f g (Some term) h = ap (λ z. Some z) (same_value f g term h)

pub truth_local : (rule : Rule) (f g : ℕ → ℤ) → ((v : ℕ) → In v (variables_of rule) → f v ≡ g v) → rule_truth rule f ≡ rule_truth rule g
truth_local (Plain kind xs ys zs members) f g h =
    let same = λ (v : ℕ). f v ≡ g v in
    let all : OfEach same ((xs ++ ys) ++ zs) = record { each = h } in
    let front : OfEach same (xs ++ ys) = of_left same (xs ++ ys) zs all in
    let a = same_values f g xs (of_left same xs ys front) in
    let b = same_values f g ys (of_right same xs ys front) in
    let c = same_values f g zs (of_right same (xs ++ ys) zs all) in
    ap (λ z. truth kind z (map (value_under f) ys) (map (value_under f) zs) (is_member members)) a
    ∙ ap (λ z. truth kind (map (value_under g) xs) z (map (value_under f) zs) (is_member members)) b
    ∙ ap (λ z. truth kind (map (value_under g) xs) (map (value_under g) ys) z (is_member members)) c
truth_local (Sum rel coefs terms total told) f g h =
    let same = λ (v : ℕ). f v ≡ g v in
    let all : OfEach same (terms ++ total ∷ option_to_list told) = record { each = h } in
    let rest : OfEach same (total ∷ option_to_list told) = of_right same terms (total ∷ option_to_list told) all in
    let a = same_values f g terms (of_left same terms (total ∷ option_to_list told) all) in
    let b = same_value f g total (of_first same total (option_to_list told) rest) in
    let c = same_told f g told (of_rest same total (option_to_list told) rest) in
    ap (λ z. is_told (option_map (value_under f) told) (stands rel (sum_of (zip coefs z)) (value_under f total))) a
    ∙ ap (λ z. is_told (option_map (value_under f) told) (stands rel (sum_of (weighted_values g coefs terms)) z)) b
    ∙ ap (λ z. is_told z (stands rel (sum_of (weighted_values g coefs terms)) (value_under g total))) c
