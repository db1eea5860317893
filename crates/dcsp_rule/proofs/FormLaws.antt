-- What a form tells of its rule.
use Rattle.std.proofs.Common.{◌≡◌, ℕ, ◌+◌, ◌-◌, ◌<◌, List, [], ◌∷◌, ◌++◌, map, length, get_or, refl, sym, ap, ◌∙◌, arith, inl, inr}
use Rattle.std.proofs.Math.Path.{fun_ext}
use Rattle.std.specs.Prelude.{ℤ, Bool, Option, Some, None, IsTrue, IfOk, Result, Ok, Err}
use Rattle.std.proofs.lemmas.Bool.{cases_eq}
use Rattle.std.proofs.lemmas.List.{get_or_append_left, get_or-append_right, get_or_default}
use Rattle.dcsp_domain.specs.Sets.{has, set_of}
use Rattle.dcsp_domain.proofs.SetLaws.{set_of_is_set}
use Rattle.dcsp_meaning.specs.Table.{truth}
use Rattle.dcsp_rule.specs.declared.rule.Members.{Members}
use Rattle.dcsp_rule.specs.declared.rule.Members.TheVariants.{Between, Listed}
use Rattle.dcsp_rule.specs.declared.rule.Rule.{Rule}
use Rattle.dcsp_rule.specs.declared.rule.Rule.TheVariants.{Plain, Sum}
use Rattle.dcsp_rule.specs.declared.pair.BinaryRule.{BinaryRule}
use Rattle.dcsp_rule.specs.declared.form.Form.{Form}
use Rattle.dcsp_rule.specs.declared.form.Form.TheVariants as form
use Rattle.dcsp_rule.specs.Members.{is_member, values_of}
use Rattle.dcsp_rule.specs.Rules.{listed_of, no_rule, value_under}
use Rattle.dcsp_rule.specs.Pairs.{compares_variable, IsPairOf, IsSmallSum}
use Rattle.dcsp_rule.specs.Forms.{form_has, is_found_by, pair_in, pair_or_truth, AreForms, IsFormOf, LooksUp}

-- what is found is a member
found_members : (found : ℤ → Bool) (members : Members) → ((v : ℤ) → found v ≡ has (values_of members) v) → is_found_by found members ≡ is_member members
found_members found (Between low high) h = refl
found_members found (Listed values) h = fun_ext h

looks_up : (made : Form) (rule : Rule) → pair_in made ≡ None → ((v : ℤ) → form_has made v ≡ has (listed_of rule) v) → LooksUp rule made
looks_up made (Plain kind scalars first second members) none h =
    (none, λ values. ap (truth kind (map (value_under values) scalars) (map (value_under values) first) (map (value_under values) second)) (found_members (form_has made) members h))
looks_up made (Sum rel coefs terms total told) none h = (none, λ values. refl)

-- no set is needed where nothing is listed
pub looks_plain : (rule : Rule) → listed_of rule ≡ [] → LooksUp rule form.Plain
looks_plain rule e = looks_up form.Plain rule refl (λ v. sym (ap (λ z. has z v) e))

-- and else that of the listed values serves
pub looks_listed : (rule : Rule) (set : List ℤ) → set ≡ set_of (listed_of rule) → LooksUp rule (form.Listed set)
looks_listed rule set e = looks_up (form.Listed set) rule refl (λ v. ap (λ z. has z v) e ∙ (set_of_is_set (listed_of rule)).members v)

looking_form : (made : Form) (rule : Rule) → (IsTrue (compares_variable rule) → ⊥) → ((v w : ℕ) → IsSmallSum v w rule → ⊥) → LooksUp rule made → IsFormOf made rule
looking_form made rule none none_small h = record {
  truth = λ values. ap (λ (o : Option BinaryRule). pair_or_truth o (form_has made) rule values) h.0 ∙ h.1 values;
  pair = rw h.0 tt;
  compared = λ t. absurd (none t);
  summed = λ v w t. absurd (none_small v w t);
}

pub looking_result : {E : Type 0} (made : Result Form E) (rule : Rule) → (IsTrue (compares_variable rule) → ⊥) → ((v w : ℕ) → IsSmallSum v w rule → ⊥) → IfOk made (LooksUp rule) → IfOk made (λ form. IsFormOf form rule)
looking_result (Ok form) rule none none_small h = looking_form form rule none none_small h
looking_result (Err error) rule none none_small h = h

paired_form : (made : Form) (rule : Rule) (pair : BinaryRule) → IsPairOf pair rule → pair_in made ≡ Some pair → IsFormOf made rule
paired_form made rule pair is there = record {
  truth = λ values. ap (λ (o : Option BinaryRule). pair_or_truth o (form_has made) rule values) there ∙ is.truth values;
  pair = rw there is;
  compared = λ t. rw there refl;
  summed = λ v w t. rw there refl;
}

-- the form of a pair is its rule's
pub paired_result : {E : Type 0} (made : Result Form E) (rule : Rule) (pair : BinaryRule) → IsPairOf pair rule → IfOk made (λ form. pair_in form ≡ Some pair) → IfOk made (λ form. IsFormOf form rule)
paired_result (Ok form) rule pair is h = paired_form form rule pair is h
paired_result (Err error) rule pair is h = h

-- one form more
pub forms_more : (forms : List Form) (rules : List Rule) (i : ℕ) (made : Form) (rule : Rule) → length forms ≡ i → rule ≡ get_or rules i no_rule → IsFormOf made rule
    → ((k : ℕ) → k < i → IsFormOf (get_or forms k form.Plain) (get_or rules k no_rule)) → (k : ℕ) → k < i + 1 → IsFormOf (get_or (forms ++ made ∷ []) k form.Plain) (get_or rules k no_rule)
forms_more forms rules i made rule size is ok before k l = elim (cases_eq k i) [
  | inl same ↦
      let here : k - i ≡ 0 = omega (arith, same) in
      let at : get_or (forms ++ made ∷ []) k form.Plain ≡ made = get_or-append_right forms (made ∷ []) i k form.Plain size (omega (arith, same)) ∙ ap (λ n. get_or (made ∷ []) n form.Plain) here in
      let there : get_or rules k no_rule ≡ rule = ap (λ n. get_or rules n no_rule) same ∙ sym is in
      rw (at, there) ok
  | inr apart ↦
      let at : get_or (forms ++ made ∷ []) k form.Plain ≡ get_or forms k form.Plain = get_or_append_left forms (made ∷ []) form.Plain k (omega (arith, l, apart, size)) in
      rw at (before k (omega (arith, l, apart)))
]

pub form_at : (forms : List Form) (rules : List Rule) (k : ℕ) (made : Form) → AreForms forms rules → k < length rules → made ≡ get_or forms k made → IsFormOf made (get_or rules k no_rule)
form_at forms rules k made are l e =
    let at : made ≡ get_or forms k form.Plain = e ∙ get_or_default forms k made form.Plain (omega (arith, l, are.many)) in
    rw at (are.each k l)
