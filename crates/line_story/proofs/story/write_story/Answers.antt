use Rattle.std.proofs.Common.{◌≡◌, ◌∙◌, List, ap, rules, subst, sym, ℕ}
use Rattle.std.specs.Prelude.{Contains, option_copied}
use Rattle.dcsp_defs.specs.Csp.{IsCsp}
use Rattle.dcsp_rule.specs.Problems.{Contents, csp_of}
use Rattle.dcsp_order.specs.Told.{ordered}
use Rattle.ngd_check.specs.Logged.{IsSmall}
use Rattle.abt_defs.specs.Network.{start}
use Rattle.abt_network.specs.Standing.{StandsAt, standing_of}
use Rattle.abt_session.proofs.Pieces.{memory_at_once, wrote_as}
use Rattle.line_story.specs.StoryPromise.{listed, most_told, status_at, told_run}
use Rattle.line_story.proofs.Runs.{answer_as, answer_stopped, begin_as, begin_stopped, deliveries_as, deliveries_stopped, last_as, last_stopped, stands_as, told_whole}
use Rattle.line_story.proofs.story.write_story.Goals as goal

pub returns-in_default-clause-wrote : goal.returns-in_default-clause-wrote
returns-in_default-clause-wrote g c = memory_at_once _ _

pub returns-in_default-new-clause-wrote : goal.returns-in_default-new-clause-wrote
returns-in_default-new-clause-wrote g c = memory_at_once _ _

pub returns-in_err-begin-clause-wrote : goal.returns-in_err-begin-clause-wrote
returns-in_err-begin-clause-wrote g c =
    let order = option_copied c.args.task.order in
    let p = ordered order c.args.task.problem.now in
    let choices = c.args.choices in
    let file = c.args.task.file.now in
    let run : c.unwrap_or-run.result.now ≡ ordered (option_copied c.args.task.order) c.args.task.problem.now = search rules in
    begin_stopped order p choices file _ c.from_residual.ensures (wrote_as (begin_as file order run) (c.in_err-begin.ensures.wrote (g.S.Sink.stream c.args.outside.now.out)))

pub deliver_all-requires-clause-starts : goal.deliver_all-requires-clause-starts
deliver_all-requires-clause-starts g c =
    let b = c.in_ok-begin.ensures in
    subst (λ (q : Contents). StandsAt c.begin.new.self.network (start (csp_of q))) (sym b.same.problem) b.stands

pub deliver_all-requires-clause-created : goal.deliver_all-requires-clause-created
deliver_all-requires-clause-created g c =
    let b = c.in_ok-begin.ensures in
    subst (λ (n : List ℕ). Contains (g.F.Folder.place c.begin.new.folder).created n) (sym b.same.file) b.created

pub returns-in_err-deliver_all-clause-wrote : goal.returns-in_err-deliver_all-clause-wrote
returns-in_err-deliver_all-clause-wrote g c =
    let order = option_copied c.args.task.order in
    let p = ordered order c.args.task.problem.now in
    let choices = c.args.choices in
    let file = c.args.task.file.now in
    let run : c.unwrap_or-run.result.now ≡ ordered (option_copied c.args.task.order) c.args.task.problem.now = search rules in
    let b = c.in_ok-begin.ensures in
    let out = g.S.Sink.stream c.args.outside.now.out in
    let begun = wrote_as (begin_as file order run) (b.wrote out) in
    deliveries_stopped order p choices file begun _ c.from_residual-in_err-deliver_all.ensures
    (wrote_as (deliveries_as most_told (listed choices) b.same.file b.same.order (b.same.problem ∙ run)) (c.in_err-deliver_all.ensures.wrote out))

pub end-requires-clause-created : goal.end-requires-clause-created
end-requires-clause-created g c =
    let b = c.in_ok-begin.ensures in
    let d = c.in_ok-deliver_all.ensures in
    subst (λ (n : List ℕ). Contains (g.F.Folder.place c.deliver_all.new.folder).created n) (sym (d.same.file ∙ b.same.file)) (subst (λ (all : List (List ℕ)). Contains all c.args.task.file.now) (sym d.created) b.created)

pub returns-in_err-end-clause-wrote : goal.returns-in_err-end-clause-wrote
returns-in_err-end-clause-wrote g c =
    let order = option_copied c.args.task.order in
    let p = ordered order c.args.task.problem.now in
    let choices = c.args.choices in
    let file = c.args.task.file.now in
    let run : c.unwrap_or-run.result.now ≡ ordered (option_copied c.args.task.order) c.args.task.problem.now = search rules in
    let b = c.in_ok-begin.ensures in
    let out = g.S.Sink.stream c.args.outside.now.out in
    let begun = wrote_as (begin_as file order run) (b.wrote out) in
    let d = c.in_ok-deliver_all.ensures in
    let net = (told_run (csp_of p) choices).net in
    let delivered = wrote_as (deliveries_as most_told (listed choices) b.same.file b.same.order (b.same.problem ∙ run)) (d.wrote out) in
    let here = stands_as {P = p} choices c.deliver_all.new.self.network (b.same.problem ∙ run) d.stands in
    let same = d.same.problem ∙ b.same.problem ∙ run in
    last_stopped order p choices file begun delivered _ c.from_residual-in_err-end.ensures (wrote_as (last_as net (d.same.file ∙ b.same.file) same) (c.in_err-end.ensures net out here))

pub returns-in_err-answer-clause-wrote : goal.returns-in_err-answer-clause-wrote
returns-in_err-answer-clause-wrote g c =
    let order = option_copied c.args.task.order in
    let p = ordered order c.args.task.problem.now in
    let choices = c.args.choices in
    let file = c.args.task.file.now in
    let run : c.unwrap_or-run.result.now ≡ ordered (option_copied c.args.task.order) c.args.task.problem.now = search rules in
    let b = c.in_ok-begin.ensures in
    let out = g.S.Sink.stream c.args.outside.now.out in
    let begun = wrote_as (begin_as file order run) (b.wrote out) in
    let d = c.in_ok-deliver_all.ensures in
    let net = (told_run (csp_of p) choices).net in
    let delivered = wrote_as (deliveries_as most_told (listed choices) b.same.file b.same.order (b.same.problem ∙ run)) (d.wrote out) in
    let here = stands_as {P = p} choices c.deliver_all.new.self.network (b.same.problem ∙ run) d.stands in
    let same = d.same.problem ∙ b.same.problem ∙ run in
    let ended = wrote_as (last_as net (d.same.file ∙ b.same.file) same) (c.in_ok-end.ensures net out here) in
    answer_stopped order p choices file begun delivered ended _ c.from_residual-in_err-answer.ensures (wrote_as (answer_as net same) (c.in_err-answer.ensures net _ here))

pub returns-clause-wrote : goal.returns-clause-wrote
returns-clause-wrote g c =
    let order = option_copied c.args.task.order in
    let p = ordered order c.args.task.problem.now in
    let choices = c.args.choices in
    let file = c.args.task.file.now in
    let run : c.unwrap_or-run.result.now ≡ ordered (option_copied c.args.task.order) c.args.task.problem.now = search rules in
    let b = c.in_ok-begin.ensures in
    let out = g.S.Sink.stream c.args.outside.now.out in
    let begun = wrote_as (begin_as file order run) (b.wrote out) in
    let d = c.in_ok-deliver_all.ensures in
    let net = (told_run (csp_of p) choices).net in
    let delivered = wrote_as (deliveries_as most_told (listed choices) b.same.file b.same.order (b.same.problem ∙ run)) (d.wrote out) in
    let here = stands_as {P = p} choices c.deliver_all.new.self.network (b.same.problem ∙ run) d.stands in
    let same = d.same.problem ∙ b.same.problem ∙ run in
    let ended = wrote_as (last_as net (d.same.file ∙ b.same.file) same) (c.in_ok-end.ensures net out here) in
    told_whole order p choices file begun delivered ended _ (wrote_as (answer_as net same) (c.in_ok-answer.ensures net _ here))

pub returns-clause-status : goal.returns-clause-status
returns-clause-status g c =
    let order = option_copied c.args.task.order in
    let p = ordered order c.args.task.problem.now in
    let choices = c.args.choices in
    let file = c.args.task.file.now in
    let run : c.unwrap_or-run.result.now ≡ ordered (option_copied c.args.task.order) c.args.task.problem.now = search rules in
    let b = c.in_ok-begin.ensures in
    let d = c.in_ok-deliver_all.ensures in
    let net = (told_run (csp_of p) choices).net in
    let here = stands_as {P = p} choices c.deliver_all.new.self.network (b.same.problem ∙ run) d.stands in
    c.status.ensures net here ∙ ap (λ (q : Contents). status_at (standing_of (csp_of q) net)) (d.same.problem ∙ b.same.problem ∙ run)

pub returns-clause-csp : goal.returns-clause-csp
returns-clause-csp g c =
    let run : c.unwrap_or-run.result.now ≡ ordered (option_copied c.args.task.order) c.args.task.problem.now = search rules in subst (λ (q : Contents). IsCsp (csp_of q)) run c.denotes_csp.ensures.csp

pub returns-clause-small : goal.returns-clause-small
returns-clause-small g c =
    let run : c.unwrap_or-run.result.now ≡ ordered (option_copied c.args.task.order) c.args.task.problem.now = search rules in subst (λ (q : Contents). IsSmall (csp_of q)) run c.problems_are_small.ensures
