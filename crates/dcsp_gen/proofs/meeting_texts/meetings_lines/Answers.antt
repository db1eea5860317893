use Rattle.std.proofs.Common.{◌≡◌, ◌*◌, List, ℕ, Vec, Global, true, false, length, arith, ◌∙◌, ap, string_bytes, subst, IfOk}
use Rattle.abt_schedule.specs.Answers.{word_at}
use Rattle.dcsp_gen.specs.Lists.{lists_in}
use Rattle.dcsp_gen.specs.Meetings.{agenda}
use Rattle.dcsp_gen.specs.Selection.{selections, words_after}
use Rattle.dcsp_gen.proofs.Selecting.{lists_count}
use Rattle.dcsp_gen.proofs.meeting_texts.meetings_lines.Goals as goal

pub agenda-requires-clause-people : goal.agenda-requires-clause-people
agenda-requires-clause-people c =
    let sizes = c.args.sizes in
    let many : length c.deref.result.now ≡ sizes.people =
    ap (λ (z : List (Vec ℕ Global)). length z) c.deref.ensures.value
    ∙ lists_count c.in_ok-free.free.items false (word_at c.args.words.now) sizes.busy sizes.hours sizes.people c.in_ok-free.ensures.lists
    in
    omega (arith, many, c.requires.people)

pub agenda-requires-clause-meetings : goal.agenda-requires-clause-meetings
agenda-requires-clause-meetings c =
    let sizes = c.args.sizes in
    let many : length c.deref-2.result.now ≡ sizes.meetings =
    ap (λ (z : List (Vec ℕ Global)). length z) c.deref-2.ensures.value
    ∙ lists_count c.in_ok-groups.groups.items true (word_at c.select_each.new.words) sizes.each sizes.people sizes.meetings c.in_ok-groups.ensures.lists
    in
    omega (arith, many, c.requires.meetings)

pub returns : goal.returns
returns c =
    let sizes = c.args.sizes in
    let words = word_at c.args.words.now in
    let free : lists_in c.deref.result.now ≡ selections false words sizes.busy sizes.hours sizes.people = ap lists_in c.deref.ensures.value ∙ c.in_ok-free.ensures.lists in
    let groups : lists_in c.deref-2.result.now ≡ selections true (words_after (sizes.people * sizes.hours) words) sizes.each sizes.people sizes.meetings =
    ap lists_in c.deref-2.ensures.value ∙ c.in_ok-groups.ensures.lists ∙ ap (λ (w : ℕ → ℕ). selections true w sizes.each sizes.people sizes.meetings) c.in_ok-free.ensures.words
    in
    let whole = ap (λ (z : List (List ℕ)). agenda z (lists_in c.deref-2.result.now)) free ∙ ap (agenda (selections false words sizes.busy sizes.hours sizes.people)) groups in
    subst (λ (t : List ℕ). IfOk c.agenda.result (λ text. string_bytes text ≡ t)) whole c.agenda.ensures
