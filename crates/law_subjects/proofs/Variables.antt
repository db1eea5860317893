-- Items that declare variables, one after another, and their array.
use Rattle.std.proofs.Common.{◌≡◌, ℕ, zero, suc, ◌+◌, ◌-◌, ◌*◌, ◌<◌, ◌≤◌, inl, inr, false, List, [], ◌∷◌, ◌++◌, map, flat_map, length, sum_by, Some, None, refl, sym, ap, ◌∙◌, subst, append_assoc, append-nil, length-append, mul-le-mul_right, arith}
use Rattle.std.specs.Prelude.{ℤ, pos, slice_index_or}
use Rattle.std.specs.List.{range_with_len}
use Rattle.std.proofs.Math.ListN.{get_or-append}
use Rattle.std.proofs.Math.Seq.{get_or-append_seam}
use Rattle.std.proofs.lemmas.Bool.Decides.{eqb_tells}
use Rattle.std.proofs.lemmas.List.Sums.{sum_by_push}
use Rattle.fzn_item.specs.declared.item.Item.{Item}
use Rattle.dcsp_domain.specs.Ranges.{numbers_between}
use Rattle.dcsp_rule.specs.declared.rule.Term.TheVariants.{Var}
use Rattle.dcsp_gen.specs.Lines.{name}
use Rattle.fzn_scope.specs.declared.names.Declared.{Declared}
use Rattle.fzn_scope.specs.declared.names.Declared.TheVariants as declared
use Rattle.fzn_scope.specs.Names.{Scope, declared_as}
use Rattle.fzn_model.specs.Items.{after_all}
use Rattle.law_subjects.specs.Lines.{ModelLine, Declare}
use Rattle.law_subjects.specs.Says.{AreSaid}
use Rattle.law_subjects.specs.Problems.{variable, domains_of}
use Rattle.fzn_scope.proofs.Declaring.{declared-old, declared-last}
use Rattle.law_subjects.proofs.Names.{declared-not, distinct, longer}
use Rattle.law_subjects.proofs.Limits.{free_variable}
use Rattle.law_subjects.proofs.Steps.{so_far, problem_so_far, StandsFor, after_one, variable_step}

-- the first variables are declared, with their domains, and no others
pub record AreDeclared (letter : List ℕ) (low high span count : ℕ) (scope : Scope) (domains : List (List ℤ)) : Type 0 where
  pub there : (i : ℕ) → 1 ≤ i → i ≤ count → StandsFor scope (name letter i) i
  pub later : (i : ℕ) → count < i → i ≤ 4096 → declared_as scope (name letter i) ≡ None
  pub free : declared_as scope letter ≡ None
  pub many : length domains ≡ count
  pub values : sum_by length domains ≡ count * span
  pub each : (i : ℕ) → i < count → slice_index_or domains i [] ≡ numbers_between (pos low) (pos high)

pub none_declared : (letter : List ℕ) (low high span : ℕ) → AreDeclared letter low high span 0 [] []
none_declared letter low high span = record {
  there = λ i l r. absurd (omega (arith, l, r));
  later = λ i l r. refl;
  free = refl;
  many = refl;
  values = omega arith;
  each = λ i l. absurd (omega (arith, l));
}

-- the name of the variable after so many, and what it stands for
abbrev entry : List ℕ → ℕ → List ℕ × Declared
entry letter m = (name letter (m + 1), declared.One false (Var m))

module _ (letter : List ℕ) (low high span m : ℕ) (wide : length (numbers_between (pos low) (pos high)) ≡ span) (scope : Scope) (domains : List (List ℤ)) (so : AreDeclared letter low high span m scope domains) (room : m + 1 ≤ 4096) where
  fresh : declared_as scope (name letter (m + 1)) ≡ None
  fresh = so.later (m + 1) (omega arith) room

  there_more : (i : ℕ) → 1 ≤ i → i ≤ m + 1 → StandsFor (scope ++ entry letter m ∷ []) (name letter i) i
  there_more i l r = elim (eqb_tells i (m + 1)) [
    | inl t ↦
        let same : i - 1 ≡ m = omega (arith, t.1) in
        subst (λ (j : ℕ). declared_as (scope ++ entry letter m ∷ []) (name letter j) ≡ Some (declared.One false (Var (i - 1)))) (sym t.1) (
        declared-last scope (name letter (m + 1)) (declared.One false (Var m)) fresh ∙ ap (λ (v : ℕ). Some (declared.One false (Var v))) (sym same))
    | inr t ↦
        let apart = t.1 in
        declared-old scope (entry letter m ∷ []) (name letter i) (declared.One false (variable i)) (so.there i l (omega (arith, r, apart)))
  ]

  each_more : (i : ℕ) → i < m + 1 → slice_index_or (domains ++ numbers_between (pos low) (pos high) ∷ []) i [] ≡ numbers_between (pos low) (pos high)
  each_more i l =
      let d = numbers_between (pos low) (pos high) in
      let many = so.many in
      elim (eqb_tells i m) [
        | inl t ↦
            let place : i ≡ length domains = t.1 ∙ sym many in
            ap (λ (j : ℕ). slice_index_or (domains ++ d ∷ []) j []) place ∙ get_or-append_seam domains d [] []
        | inr t ↦ let apart = t.1 in get_or-append domains (d ∷ []) [] i (omega (arith, many, l, apart)) ∙ so.each i (omega (arith, l, apart))
      ]

  -- one variable more
  one_more : AreDeclared letter low high span (m + 1) (scope ++ entry letter m ∷ []) (domains ++ numbers_between (pos low) (pos high) ∷ [])
  one_more =
      let d = numbers_between (pos low) (pos high) in
      let many = so.many in
      let values = so.values in
      let long : length (domains ++ d ∷ []) ≡ length domains + 1 = length-append domains (d ∷ []) in
      let sum : sum_by length (domains ++ d ∷ []) ≡ sum_by length domains + length d = sum_by_push length domains d in
      record {
        there = there_more;
        later = λ i l r. declared-not scope (name letter (m + 1)) (name letter i) (declared.One false (Var m)) (λ e. let same = distinct letter i (m + 1) r room e in absurd (omega (arith, l, same))) (so.later i (omega (arith, l)) r);
        free = declared-not scope (name letter (m + 1)) letter (declared.One false (Var m)) (longer letter (m + 1) room) so.free;
        many = omega (arith, many, long);
        values = omega (arith, values, sum, wide);
        each = each_more;
      }

-- what items leave that declare these variables, and then say the rest
pub record AfterVariables (text letter : List ℕ) (low high span n : ℕ) (items : List Item) (scope : Scope) (domains : List (List ℤ)) (rest : List ModelLine) (k from : ℕ) : Type 0 where
  pub left : List Item
  pub last : Scope
  pub said : AreSaid text letter rest left
  pub declared : AreDeclared letter low high span n last (domains ++ flat_map domains_of (map (Declare low high) (range_with_len from k)))
  pub reached : after_all text (so_far scope domains [] [] false) items ≡ after_all text (so_far last (domains ++ flat_map domains_of (map (Declare low high) (range_with_len from k))) [] [] false) left

module _ (text letter : List ℕ) (low high span n : ℕ) (wide : length (numbers_between (pos low) (pos high)) ≡ span) (small : suc high - low ≤ 65536) (few : n ≤ 4096) (values : n * span ≤ 1048576) (rest : List ModelLine) where
  pub variables_after : (k m : ℕ) (scope : Scope) (domains : List (List ℤ)) (items : List Item) → m + k ≡ n → AreDeclared letter low high span m scope domains
      → AreSaid text letter (map (Declare low high) (range_with_len (m + 1) k) ++ rest) items → AfterVariables text letter low high span n items scope domains rest k (m + 1)
  variables_after zero m scope domains items e so says =
      let same : m ≡ n = omega (arith, e) in record {
        left = items;
        last = scope;
        said = says;
        declared = subst (λ (ds : List (List ℤ)). AreDeclared letter low high span n scope ds) (sym (append-nil domains)) (subst (λ (j : ℕ). AreDeclared letter low high span j scope domains) same so);
        reached = ap (λ (ds : List (List ℤ)). after_all text (so_far scope ds [] [] false) items) (sym (append-nil domains));
      }
  variables_after (suc k) m scope domains [] e so says = absurd says
  variables_after (suc k) m scope domains (i ∷ items) e so says =
      let d = numbers_between (pos low) (pos high) in
      let many = so.many in
      let total = so.values in
      let room : m + 1 ≤ 4096 = omega (arith, e, few) in
      let more : (m + 1) * span ≤ n * span = mul-le-mul_right span (omega (arith, e)) in
      let free = free_variable (problem_so_far domains [] []) d (omega (arith, many, room)) (omega (arith, total, more, values, wide)) in
      let step = variable_step text scope domains low high (name letter (m + 1)) i says.0 small (so.later (m + 1) (omega arith) room) free in
      let number : so_far (scope ++ (name letter (m + 1), declared.One false (Var (length domains))) ∷ []) (domains ++ d ∷ []) [] [] false ≡ so_far (scope ++ entry letter m ∷ []) (domains ++ d ∷ []) [] [] false =
      ap (λ (j : ℕ). so_far (scope ++ (name letter (m + 1), declared.One false (Var j)) ∷ []) (domains ++ d ∷ []) [] [] false) many in
      let next = variables_after k (m + 1) (scope ++ entry letter m ∷ []) (domains ++ d ∷ []) items (omega (arith, e)) (one_more letter low high span m wide scope domains so room) says.1 in
      let regrouped : (domains ++ d ∷ []) ++ flat_map domains_of (map (Declare low high) (range_with_len (m + 1 + 1) k)) ≡ domains ++ flat_map domains_of (map (Declare low high) (range_with_len (m + 1) (suc k))) =
      append_assoc domains (d ∷ []) (flat_map domains_of (map (Declare low high) (range_with_len (m + 1 + 1) k))) in
      record {
        left = next.left;
        last = next.last;
        said = next.said;
        declared = subst (λ (ds : List (List ℤ)). AreDeclared letter low high span n next.last ds) regrouped next.declared;
        reached =
            after_one text (so_far scope domains [] [] false) (so_far (scope ++ (name letter (m + 1), declared.One false (Var (length domains))) ∷ []) (domains ++ d ∷ []) [] [] false) i items step
            ∙ ap (λ s. after_all text s items) number
            ∙ next.reached
            ∙ ap (λ (ds : List (List ℤ)). after_all text (so_far next.last ds [] [] false) next.left) regrouped;
      }
