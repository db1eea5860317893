-- The best assignments of a text are the best solutions of its problem.
use Rattle.std.proofs.Common.{◌≡◌, ℕ, inl, inr, List, [], ◌∷◌, Some, sym, ap, ◌∙◌, subst}
use Rattle.std.specs.Prelude.{◌↔◌, ℤ, int_lt}
use Rattle.std.specs.Option.{option_map}
use Rattle.fzn_item.specs.declared.item.Goal.{Goal}
use Rattle.fzn_item.specs.declared.item.Goal.TheVariants as goals
use Rattle.fzn_item.specs.declared.item.Item.{Item}
use Rattle.dcsp_defs.specs.Csp.{Assignment, IsSolution}
use Rattle.dcsp_rule.specs.declared.rule.Term.{Term}
use Rattle.dcsp_rule.specs.declared.aim.Aim.{Aim}
use Rattle.dcsp_rule.specs.declared.aim.Aim.TheVariants.{Satisfy, Least, Greatest}
use Rattle.dcsp_rule.specs.Rules.{value_under}
use Rattle.dcsp_rule.specs.Problems.{Contents, csp_of}
use Rattle.dcsp_rule.specs.Aims.{is_better}
use Rattle.law_subjects.specs.Environments.{Value, Number, Environment, expr_value}
use Rattle.law_subjects.specs.Meaning.{goals_of, Satisfies, SatisfiesText, IsAskedBy, IsMeaningOf}
use Rattle.law_subjects.specs.Best.{asked_of, betters, Attains, NoneBetters, IsBestFor, IsAt, HasNoneBetter, IsBestSolution, BoundsAgree, BestAgree}
use Rattle.law_subjects.proofs.MeantWhole.{means_its_text, same_tokens, same_items}

-- the aim is at the term as the goal is at a value, and the term has it
record Aimed (aim : Aim) (values : Assignment) (goal : Goal) (value : ℤ) : Type 0 where
  term : Term
  aimed : IsAt aim term
  value_is : value_under values term ≡ value
  same : (bound : ℤ) → betters goal bound value ≡ is_better aim bound (value_under values term)

some_number : (x : Value) (v w : ℤ) → x ≡ Number v → Some x ≡ Some (Number w) → v ≡ w
some_number x v w e h = let k : Some (Number v) ≡ Some (Number w) = ap (λ (y : Value). Some y) (sym e) ∙ h in cc

-- a value that a goal has is the aim's
aimed_of : (text : List ℕ) (items : List Item) (goal : Goal) (aim : Aim) (values : Assignment) (env : Environment) (value : ℤ) → IsAskedBy text items goal aim → Satisfies text items values env
    → option_map (expr_value text env) (asked_of goal) ≡ Some (Number value) → Aimed aim values goal value
aimed_of text items goals.Satisfy aim values env value h s e = absurd cc
aimed_of text items (goals.Minimize at what) aim values env value h s e =
    let is = some_number (expr_value text env what) (value_under values h.0) value (h.2 values env s) e in
    record {
      term = h.0;
      aimed = inl h.1;
      value_is = is;
      same = λ bound. ap (λ (v : ℤ). int_lt v bound) (sym is) ∙ ap (λ (a : Aim). is_better a bound (value_under values h.0)) (sym h.1);
    }
aimed_of text items (goals.Maximize at what) aim values env value h s e =
    let is = some_number (expr_value text env what) (value_under values h.0) value (h.2 values env s) e in
    record {
      term = h.0;
      aimed = inr h.1;
      value_is = is;
      same = λ bound. ap (λ (v : ℤ). int_lt bound v) (sym is) ∙ ap (λ (a : Aim). is_better a bound (value_under values h.0)) (sym h.1);
    }

-- the value at the aim is the goal's
record Reached (text : List ℕ) (values : Assignment) (env : Environment) (goal : Goal) (aim : Aim) (term : Term) : Type 0 where
  attained : option_map (expr_value text env) (asked_of goal) ≡ Some (Number (value_under values term))
  same : (bound : ℤ) → betters goal bound (value_under values term) ≡ is_better aim bound (value_under values term)

reached_of : (text : List ℕ) (items : List Item) (goal : Goal) (aim : Aim) (values : Assignment) (env : Environment) (term : Term) → IsAskedBy text items goal aim → Satisfies text items values env → IsAt aim term → Reached text values env goal aim term
reached_of text items goals.Satisfy aim values env term h s at = absurd (elim at [ inl e ↦ (let k : Satisfy ≡ Least term = sym h ∙ e in cc) | inr e ↦ (let k : Satisfy ≡ Greatest term = sym h ∙ e in cc) ])
reached_of text items (goals.Minimize place what) aim values env term h s at = elim at [
  | inl e ↦
      let k : Least h.0 ≡ Least term = sym h.1 ∙ e in
      let is : h.0 ≡ term = cc in
      record {
        attained = ap (λ (x : Value). Some x) (h.2 values env s) ∙ ap (λ (t : Term). Some (Number (value_under values t))) is;
        same = λ bound. ap (λ (a : Aim). is_better a bound (value_under values term)) (sym e);
      }
  | inr e ↦ absurd (let k : Least h.0 ≡ Greatest term = sym h.1 ∙ e in cc)
]
reached_of text items (goals.Maximize place what) aim values env term h s at = elim at [
  | inl e ↦ absurd (let k : Greatest h.0 ≡ Least term = sym h.1 ∙ e in cc)
  | inr e ↦
      let k : Greatest h.0 ≡ Greatest term = sym h.1 ∙ e in
      let is : h.0 ≡ term = cc in
      record {
        attained = ap (λ (x : Value). Some x) (h.2 values env s) ∙ ap (λ (t : Term). Some (Number (value_under values t))) is;
        same = λ bound. ap (λ (a : Aim). is_better a bound (value_under values term)) (sym e);
      }
]

only_goal : (g h : Goal) (gs : List Goal) → gs ≡ g ∷ [] → gs ≡ h ∷ [] → g ≡ h
only_goal g h gs e k = let s : g ∷ [] ≡ h ∷ [] = sym e ∙ k in cc

module _ (text : List ℕ) (problem : Contents) (m : IsMeaningOf text problem) where
  -- an assignment that attains a value is a solution with this value at the aim
  attains_is : (values : Assignment) (goal : Goal) (value : ℤ) → Attains text values goal value → IsSolution (csp_of problem) values × Aimed problem.aim values goal value
  attains_is values goal value h =
      let k = h.satisfied in
      let is = same_items text k.tokens m.tokens k.items m.items (same_tokens text k.tokens m.tokens k.lexed m.lexed) k.read m.read in
      let satisfied = subst (λ (x : List Item). Satisfies text x values k.environment) is k.satisfied in
      let stated = subst (λ (x : List Item). goals_of x ≡ goal ∷ []) is h.stated in
      let asked = subst (λ (g : Goal). IsAskedBy text m.items g problem.aim) (only_goal m.aim.goal goal (goals_of m.items) m.aim.only stated) m.aim.asked in
      ((m.means values).1 (k.environment, satisfied), aimed_of text m.items goal problem.aim values k.environment value asked satisfied h.attained)

  -- a solution attains its value at the aim
  attained_by : (values : Assignment) (term : Term) → IsSolution (csp_of problem) values → IsAt problem.aim term
      → Attains text values m.aim.goal (value_under values term) × ((bound : ℤ) → betters m.aim.goal bound (value_under values term) ≡ is_better problem.aim bound (value_under values term))
  attained_by values term h at =
      let e = (m.means values).0 h in
      let r = reached_of text m.items m.aim.goal problem.aim values e.0 term m.aim.asked e.1 at in
      let k : SatisfiesText text values = record { tokens = m.tokens; items = m.items; lexed = m.lexed; read = m.read; environment = e.0; satisfied = e.1 } in
      (record { satisfied = k; stated = m.aim.only; attained = r.attained }, r.same)

  bounds : (bound : ℤ) → NoneBetters text bound ↔ HasNoneBetter problem bound
  bounds bound = (
    (λ h values term s at. let k = attained_by values term s at in sym (k.1 bound) ∙ h values m.aim.goal (value_under values term) k.0),
    (λ h values goal value k. let r = attains_is values goal value k in r.1.same bound ∙ h values r.1.term r.0 r.1.aimed),
  )

  bests : (values : Assignment) → IsBestFor text values ↔ IsBestSolution problem values
  bests values = (
    (λ h.
        let r = attains_is values h.goal h.value h.attains in
        record { solution = r.0; term = r.1.term; aimed = r.1.aimed; none_better = (bounds (value_under values r.1.term)).0 (subst (NoneBetters text) (sym r.1.value_is) h.none_betters) }),
    (λ h.
        let k = attained_by values h.term h.solution h.aimed in
        record { goal = m.aim.goal; value = value_under values h.term; attains = k.0; none_betters = (bounds (value_under values h.term)).1 h.none_better }),
  )

pub bounds_agree : BoundsAgree
bounds_agree text problem h bound = bounds text problem (means_its_text text problem h) bound

pub best_agree : BestAgree
best_agree text problem h values = bests text problem (means_its_text text problem h) values
