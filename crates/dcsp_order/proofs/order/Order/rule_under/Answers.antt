use Rattle.std.proofs.Common.{◌≡◌, ◌++◌, ◌∷◌, ℕ, List, length, ap, subst, inl, inr, refl}
use Rattle.std.specs.Prelude.{All}
use Rattle.std.specs.Option.{option_to_list}
use Rattle.std.proofs.lemmas.List.Elements.{All-contains}
use Rattle.dcsp_defs.specs.Words.{In}
use Rattle.dcsp_defs.proofs.Lists.{In-left, In-right}
use Rattle.dcsp_problem.proofs.RisingNumbers.{Contains-In}
use Rattle.dcsp_rule.specs.declared.rule.Rule.{Rule}
use Rattle.dcsp_rule.specs.declared.rule.Term.{Term}
use Rattle.dcsp_rule.specs.Lent.{lent_rule}
use Rattle.dcsp_rule.specs.Rules.{terms_of, IsTermOf}
use Rattle.dcsp_order.proofs.Mapped.{all_of, some_of}
use Rattle.dcsp_order.proofs.order.Order.rule_under.Goals as goal

known : (n : ℕ) (rule : Rule) (terms : List Term) → All (IsTermOf n) (terms_of rule) → terms_of rule ≡ terms → (x : Term) → In x terms → IsTermOf n x
known n rule terms h same x i =
    let all = subst (λ (z : List Term). All (IsTermOf n) z) same h in
    All-contains (IsTermOf n) terms x all (Contains-In terms x i)

pub terms_under-requires-in-Plain : goal.terms_under-requires-in-Plain
terms_under-requires-in-Plain c =
    let xs : List Term = c.in-Plain.scalars.now in
    let ys : List Term = c.in-Plain.first.now in
    let zs : List Term = c.in-Plain.second.now in
    let n = length c.args.self.now in
    let all = known n (lent_rule c.args.rule) ((xs ++ ys) ++ zs) c.requires (ap (λ z. terms_of (lent_rule z)) c.in-Plain.is) in
    (all_of (IsTermOf n) ys (λ x i. all x (In-left x (xs ++ ys) zs (In-right x xs ys i))))

pub terms_under-requires-in-Plain-2 : goal.terms_under-requires-in-Plain-2
terms_under-requires-in-Plain-2 c =
    let xs : List Term = c.in-Plain.scalars.now in
    let ys : List Term = c.in-Plain.first.now in
    let zs : List Term = c.in-Plain.second.now in
    let n = length c.args.self.now in
    let all = known n (lent_rule c.args.rule) ((xs ++ ys) ++ zs) c.requires (ap (λ z. terms_of (lent_rule z)) c.in-Plain.is) in
    (all_of (IsTermOf n) zs (λ x i. all x (In-right x (xs ++ ys) zs i)))

pub terms_under-requires-in-Sum : goal.terms_under-requires-in-Sum
terms_under-requires-in-Sum c =
    let terms : List Term = c.in-Sum.terms.now in
    let n = length c.args.self.now in
    let all = known n (lent_rule c.args.rule) (terms ++ c.in-Sum.total ∷ option_to_list c.in-Sum.truth) c.requires (ap (λ z. terms_of (lent_rule z)) c.in-Sum.is) in
    (all_of (IsTermOf n) terms (λ x i. all x (In-left x terms (c.in-Sum.total ∷ option_to_list c.in-Sum.truth) i)))

pub term_under-requires : goal.term_under-requires
term_under-requires c =
    let terms : List Term = c.in-Sum.terms.now in
    let rest : List Term = c.in-Sum.total ∷ option_to_list c.in-Sum.truth in
    let all = known (length c.args.self.now) (lent_rule c.args.rule) (terms ++ rest) c.requires (ap (λ z. terms_of (lent_rule z)) c.in-Sum.is) in
    all c.in-Sum.total (In-right c.in-Sum.total terms rest (inl refl))

pub told_under-requires : goal.told_under-requires
told_under-requires c =
    let terms : List Term = c.in-Sum.terms.now in
    let rest : List Term = c.in-Sum.total ∷ option_to_list c.in-Sum.truth in
    let all = known (length c.args.self.now) (lent_rule c.args.rule) (terms ++ rest) c.requires (ap (λ z. terms_of (lent_rule z)) c.in-Sum.is) in
    some_of (IsTermOf (length c.args.self.now)) c.in-Sum.truth (λ x i. all x (In-right x terms rest (inr i)))
