use Rattle.std.proofs.Common.{◌≡◌, ◌≤◌, ◌+◌, ◌∙◌, ℕ, List, replicate, subst, sym, arith}
use Rattle.abt_links.specs.Marks.{IsCounted}
use Rattle.abt_links.proofs.Rows.{AllFresh, fresh_more, none_fresh, fresh_none, fresh-counted}
use Rattle.abt_links.proofs.Tables.{has-table}
use Rattle.abt_links.proofs.pair_set.PairSet.new.Goals as goal

pub loop-init : goal.loop-init
loop-init c = subst (AllFresh c.args.agents 0) (sym c.new-rows.ensures.items) (none_fresh c.args.agents)

pub loop-preserved : goal.loop-preserved
loop-preserved c =
    subst (AllFresh c.args.agents (c.loop.counter + 1)) (sym c.in_ok-push.ensures.items)
    (fresh_more c.args.agents c.loop.counter c.loop.rows.items c.in_ok-new.field-0 c.loop.invariant
    (record { room = c.in_ok-new.ensures.room; short = c.in_ok-new.ensures.short; none = c.in_ok-new.ensures.none }))

-- the counts are those of the rows
counted : (agents n : ℕ) (rows : List (List ℕ)) (sums : List ℕ) → agents ≤ 4096 → n ≡ agents → AllFresh agents n rows → sums ≡ replicate agents 0 → IsCounted (record { agents = agents; rows = rows }) sums
counted agents n rows sums small all fresh zeros =
    subst (IsCounted (record { agents = agents; rows = rows })) (sym zeros) (fresh-counted agents rows small (subst (λ m. AllFresh agents m rows) all fresh))

pub invariant_of-result : goal.invariant_of-result
invariant_of-result c =
    counted c.args.agents c.loop.counter c.loop.rows.items c.in_ok-sums.sums c.requires (omega (arith, c.loop-test.false, c.loop.auto.counter-end)) c.loop.invariant c.in_ok-sums.ensures

pub returns-clause-none : goal.returns-clause-none
returns-clause-none c k i =
    let all : c.loop.counter ≡ c.args.agents = omega (arith, c.loop-test.false, c.loop.auto.counter-end) in
    has-table (record { agents = c.args.agents; rows = c.loop.rows.items }) c.in_ok-sums.sums
    (counted c.args.agents c.loop.counter c.loop.rows.items c.in_ok-sums.sums c.requires all c.loop.invariant c.in_ok-sums.ensures) k i
    ∙ fresh_none c.args.agents c.loop.rows.items (subst (λ n. AllFresh c.args.agents n c.loop.rows.items) all c.loop.invariant) k i
