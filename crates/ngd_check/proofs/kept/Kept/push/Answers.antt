use Rattle.std.proofs.Common.{◌∷◌, ◌++◌, [], Some, sym, ap, ◌∙◌, subst}
use Rattle.std.proofs.lemmas.Result.{on_ok_weaker}
use Rattle.dcsp_defs.specs.declared.Step.{Step}
use Rattle.dcsp_defs.specs.Csp.{Nogood}
use Rattle.dcsp_rule.specs.Problems.{csp_of}
use Rattle.ngd_store.specs.Rests.{Rest}
use Rattle.ngd_check.specs.Places.{KeptFor, ArePlaced, nogoods_of, steps_in}
use Rattle.ngd_check.proofs.KeptLists.{nogoods_more, rests_with, step_is, on_ok_both}
use Rattle.ngd_check.proofs.kept.Kept.push.Goals as goal

pub returns-then-self-clause-ok : goal.returns-then-self-clause-ok
returns-then-self-clause-ok c =
    let p = csp_of c.self.inside.problem.now in
    let placed = subst (λ (q : KeptFor). ArePlaced (csp_of q.problem) c.args.step.now.nogood c.args.placed.now) (sym c.self.view_is) c.requires in
    on_ok_weaker c.push_both.result (λ e.
    ap (λ lists. nogoods_of p lists c.self.inside.dropped.items) e
    ∙ (nogoods_more p c.self.inside.lists c.args.placed.now c.self.inside.dropped.items c.self.invariant.marked
    ∙ (ap (λ (g : Nogood). nogoods_of p c.self.inside.lists c.self.inside.dropped.items ++ Some g ∷ []) placed.same
    ∙ ap (λ (q : KeptFor). q.nogoods ++ Some c.args.step.now.nogood ∷ []) c.self.view_is))) c.push_both.ensures.lists

pub returns-else-self-clause-ok : goal.returns-else-self-clause-ok
returns-else-self-clause-ok c =
    let p = csp_of c.self.inside.problem.now in
    let placed = subst (λ (q : KeptFor). ArePlaced (csp_of q.problem) c.args.step.now.nogood c.args.placed.now) (sym c.self.view_is) c.requires in
    on_ok_weaker c.push.result (λ e.
    ap (λ lists. nogoods_of p lists c.self.inside.dropped.items) e
    ∙ (nogoods_more p c.self.inside.lists c.args.placed.now c.self.inside.dropped.items c.self.invariant.marked
    ∙ (ap (λ (g : Nogood). nogoods_of p c.self.inside.lists c.self.inside.dropped.items ++ Some g ∷ []) placed.same
    ∙ ap (λ (q : KeptFor). q.nogoods ++ Some c.args.step.now.nogood ∷ []) c.self.view_is))) c.push.ensures.ok

pub returns-then-self-clause-all : goal.returns-then-self-clause-all
returns-then-self-clause-all c = λ k.
    let p = csp_of c.self.inside.problem.now in
    let lists = c.self.inside.lists in
    let rests = c.self.inside.rests in
    let rest : Rest = record { variable = c.args.step.now.variable; reasons = c.args.step.now.reasons } in
    let placed = subst (λ (q : KeptFor). ArePlaced (csp_of q.problem) c.args.step.now.nogood c.args.placed.now) (sym c.self.view_is) c.requires in
    on_ok_both c.push_both.result c.push_both.ensures.lists c.push_both.ensures.rests (λ e f.
    ap (λ ls. steps_in p ls c.push_both.new.rests) e
    ∙ (ap (steps_in p (lists ++ Some c.args.placed.now ∷ [])) f
    ∙ (rests_with p lists c.args.placed.now rests rest (c.self.invariant.all c.if-self.true)
    ∙ (ap (λ (s : Step). steps_in p lists rests ++ s ∷ []) (step_is p c.args.placed.now c.args.step.now placed.same)
    ∙ ap (λ (q : KeptFor). q.steps ++ c.args.step.now ∷ []) c.self.view_is))))
