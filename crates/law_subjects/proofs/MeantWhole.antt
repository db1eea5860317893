-- What the problem of items, and of a text, means.
use Rattle.std.proofs.Common.{◌≡◌, ℕ, ◌+◌, pos, inl, inr, List, [], Option, Some, None, Ok, sym, ap, ◌∙◌, subst, arith}
use Rattle.fzn_token.specs.declared.token.Token.{Token}
use Rattle.fzn_token.specs.Tokens.{AreTokens}
use Rattle.fzn_token.proofs.OneAnswer.{one_answer_lem}
use Rattle.fzn_item.specs.declared.item.Item.{Item}
use Rattle.fzn_item.specs.Items.{AreItemsTo}
use Rattle.fzn_item.proofs.OneAnswer.{one_answer_law}
use Rattle.dcsp_defs.specs.Csp.{Assignment, IsSolution}
use Rattle.dcsp_rule.specs.Problems.{Contents, csp_of}
use Rattle.fzn_scope.specs.declared.names.Declared.{Declared}
use Rattle.fzn_scope.specs.Names.{declared_as}
use Rattle.fzn_model.specs.Items.{start, after_all, finished, resolved}
use Rattle.law_subjects.specs.Environments.{Value, Number, Environment}
use Rattle.law_subjects.specs.Meaning.{Satisfies, MeansItsItems, MeansItsText, SolutionsSatisfy, VariablesDetermine}
use Rattle.law_subjects.proofs.Checks.{bind_ok}
use Rattle.law_subjects.proofs.MeantNames.{meaning}
use Rattle.law_subjects.proofs.Growth.{solution_is}
use Rattle.law_subjects.proofs.Fits.{Fits}
use Rattle.law_subjects.proofs.MeantSteps.{steps_of, start_sorted, satisfied_fits, problem_is}
use Rattle.law_subjects.proofs.Goals.{aims_at_its_goal}

-- the value of what a name stands for, if it was declared
abbrev value_if : Assignment → Option Declared → Value
value_if values None = Number (pos 0)
value_if values (Some d) = meaning values d

pub means_its_items : MeansItsItems
unfolding resolved
means_its_items text items p e values =
    let b = bind_ok (after_all text start items) finished p e in
    let t = b.0 in
    let is = (problem_is t p b.2).1 in
    let steps = steps_of text items start t start_sorted b.1 in
    let solves = solution_is values t.problem in
    let number : (k : ℕ) → 0 + k ≡ k = λ k. omega arith in (
      (λ h.
          let s = solves.0 (subst (λ (q : Contents). IsSolution (csp_of q) values) (sym is) h) in
          let env : Environment = λ name. value_if values (declared_as t.scope name) in
          let fits : Fits values env t = record { agrees = λ name d l. ap (value_if values) l; domains = s.0; rules = s.1 } in
          let r = (steps.fits values env).0 fits in
          (env, record { each = r.1.0; numbered = λ k name l. r.1.1 k name l ∙ ap (λ (j : ℕ). Number (values j)) (number k) })),
      (λ h.
          let f = satisfied_fits text items t b.1 values h.0 h.1 in
          subst (λ (q : Contents). IsSolution (csp_of q) values) is (solves.1 (f.domains, f.rules))),
    )

pub means_its_text : MeansItsText
means_its_text text p h = elim h [
  | inl lexical ↦ absurd (let e = lexical.1 in cc)
  | inr rest ↦ elim rest [
    | inl unread ↦ absurd (let e = unread.result_is in cc)
    | inr r ↦
        let is = sym r.result_is in
        record { tokens = r.tokens; items = r.items; lexed = r.lexed; read = r.read; means = means_its_items text r.items p is; aim = aims_at_its_goal text r.items p is }
  ]
]

-- a text has one list of tokens
pub same_tokens : (text : List ℕ) (ts us : List Token) → AreTokens text ts → AreTokens text us → ts ≡ us
same_tokens text ts us h k = let e = one_answer_lem text (Ok ts) (Ok us) h k (λ e. cc) (λ e. cc) in cc

-- tokens have one list of items
pub same_items : (text : List ℕ) (ts us : List Token) (is js : List Item) → ts ≡ us → AreItemsTo text ts is [] → AreItemsTo text us js [] → is ≡ js
same_items text ts us is js e h k =
    let s = one_answer_law text us (Ok is) (Ok js) (subst (λ (x : List Token). AreItemsTo text x is []) e h) k (λ e. cc) (λ e. cc) in cc

pub solutions_satisfy : SolutionsSatisfy
solutions_satisfy text p h values =
    let m = means_its_text text p h in (
      (λ s. let e = (m.means values).0 s in record { tokens = m.tokens; items = m.items; lexed = m.lexed; read = m.read; environment = e.0; satisfied = e.1 }),
      (λ s.
          let is = same_items text s.tokens m.tokens s.items m.items (same_tokens text s.tokens m.tokens s.lexed m.lexed) s.read m.read in
          (m.means values).1 (s.environment, subst (λ (x : List Item). Satisfies text x values s.environment) is s.satisfied)),
    )

pub variables_determine : VariablesDetermine
unfolding resolved
variables_determine text items p e values env other h k i name within named =
    let b = bind_ok (after_all text start items) finished p e in
    let steps = steps_of text items start b.0 start_sorted b.1 in
    let f = satisfied_fits text items b.0 b.1 values env h in
    let g = satisfied_fits text items b.0 b.1 values other k in
    let d = steps.declares i name within named in
    f.agrees name d.0 d.1 ∙ sym (g.agrees name d.0 d.1)
