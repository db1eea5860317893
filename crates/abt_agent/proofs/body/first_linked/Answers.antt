use Rattle.std.proofs.Common.{◌≡◌, ℕ, zero, suc, ◌+◌, ◌<◌, ◌≤◌, Bool, true, false, not, ◌&&◌, ◌==◌, List, [], ◌∷◌, ◌++◌, map, length, get_or, take, refl, sym, ap, ◌∙◌, arith}
use Rattle.std.proofs.lemmas.Bool.Decides.{nat_tests}
use Rattle.std.proofs.lemmas.List.{map-append, take_more, take_all}
use Rattle.dcsp_defs.specs.Words.{below}
use Rattle.dcsp_rule.specs.Problems.{csp_of}
use Rattle.dcsp_problem.specs.Index.{owned_rules}
use Rattle.abt_defs.specs.Agents.{shares}
use Rattle.abt_marks.specs.Marks.{names_any}
use Rattle.abt_agent.proofs.Fresh.{shares_is}
use Rattle.abt_agent.proofs.body.first_linked.Goals as goal

-- marks that read so are these
marks_to : (f : ℕ → Bool) (marks : List Bool) (n : ℕ) → n ≤ length marks → ((j : ℕ) → j < n → get_or marks j false ≡ f j) → take n marks ≡ map f (below n)
marks_to f marks zero l h = refl
marks_to f marks (suc n) l h =
    ap (λ (z : ℕ). take z marks) (let e : suc n ≡ n + 1 = omega arith in e)
    ∙ take_more marks n false (omega arith)
    ∙ ap (λ (z : List Bool). z ++ get_or marks n false ∷ []) (marks_to f marks n (omega arith) (λ j b. h j (omega arith)))
    ∙ ap (λ (z : Bool). map f (below n) ++ z ∷ []) (h n (omega arith))
    ∙ sym (map-append f (below n) (n ∷ []))

marks_are_all : (f : ℕ → Bool) (marks : List Bool) (n : ℕ) → length marks ≡ n → ((j : ℕ) → j < n → get_or marks j false ≡ f j) → marks ≡ map f (below n)
marks_are_all f marks n size h = sym (take_all n marks (omega arith)) ∙ marks_to f marks n (omega arith) h

apart : (k n : ℕ) → k < n → not (k == n) ≡ true
apart k n l = grind (arith, nat_tests)

pub returns : goal.returns
returns c =
    let p = c.args.problem.now in
    let me = c.args.me in
    c.of.ensures ∙ marks_are_all (shares (csp_of p) me) c.in_ok-marks.marks me c.in_ok-marks.ensures.size (λ j l.
    c.in_ok-marks.ensures.marks j l
    ∙ ap (names_any p j) c.owned.ensures.rules
    ∙ ap (λ b. b && names_any p j (owned_rules p me)) (sym (apart j me l))
    ∙ shares_is p me j)
