use Rattle.std.proofs.Common.{◌≡◌, ℕ, ◌<◌, ◌+◌, ◌||◌, ◌∷◌, ◌++◌, [], ◌∙◌, ap, sym, subst, false, length, get_or, arith, rules, List}
use Rattle.std.specs.Prelude.{IsTrue}
use Rattle.std.proofs.lemmas.List.{length_push}
use Rattle.dcsp_rule.specs.Problems.{rule_at}
use Rattle.dcsp_row.specs.declared.marks.Marks.{Marks}
use Rattle.dcsp_row.specs.Easy.{has_span}
use Rattle.dcsp_row.specs.Marks.{is_marked, is_row, FitsSize}
use Rattle.abt_reason.specs.Grids.{marks_at}
use Rattle.abt_reason.proofs.MarkLaws.{all_pushed}
use Rattle.abt_reason.proofs.grid.empty_rows.Goals as goal

pub loop-rule-preserved : goal.loop-rule-preserved
loop-rule-preserved c =
    let rows = c.loop-rule.rows.items in
    let m = c.in_ok-row.row in
    let inv = c.loop-rule.invariant in
    let has_room = λ (place : ℕ) (x : Marks). IsTrue (has_span c.args.empty.now.agent (rule_at c.args.empty.now.problem.now (get_or c.args.empty.now.rules.now place 0)) || is_row x) in
    let room = all_pushed has_room rows m inv.room (subst (λ n. has_room n m) (sym inv.size) c.in_ok-row.ensures.room) in
    let sized = all_pushed (λ place x. FitsSize c.args.empty.now.values x) rows m inv.sized c.in_ok-row.ensures.sized in
    let none = all_pushed (λ place x. (value : ℕ) → is_marked x value ≡ false) rows m inv.none c.in_ok-row.ensures.none in
    let pushed : c.push.new.self.items ≡ rows ++ m ∷ [] = search rules in
    record {
      size = ap length pushed ∙ length_push rows m ∙ ap (λ n. n + 1) inv.size;
      sized = subst (λ (xs : List Marks). (place : ℕ) → place < length xs → FitsSize c.args.empty.now.values (marks_at xs place)) (sym pushed) sized;
      none = subst (λ (xs : List Marks). (place : ℕ) → place < length xs → (value : ℕ) → is_marked (marks_at xs place) value ≡ false) (sym pushed) none;
      room = subst (λ (xs : List Marks). (place : ℕ) → place < length xs → has_room place (marks_at xs place)) (sym pushed) room;
    }

pub returns-clause-rules : goal.returns-clause-rules
returns-clause-rules c = omega (arith, c.loop-rule.invariant.size, c.loop-rule-test.false, c.loop-rule.auto.rule-index-end)

pub returns-clause-none : goal.returns-clause-none
returns-clause-none c = λ place value here. c.loop-rule.invariant.none place here value

pub returns-clause-room : goal.returns-clause-room
returns-clause-room c = λ place here. c.loop-rule.invariant.room place (omega (arith, here, c.loop-rule.invariant.size, c.loop-rule-test.false))
