use Rattle.std.proofs.Common.{◌≡◌, refl, sym, ◌∙◌, arith, rules, inl, inr, ◌++◌}
use Rattle.std.proofs.lemmas.Bool.{eqb-false}
use Rattle.ngd_log.proofs.Standings.{feeds_start, feeds_inside, feeds_memory, feeds_ended, feeds_refused}
use Rattle.ngd_log.proofs.body.take_part.Goals as goal

pub returns-then-is_err-clause-feeds : goal.returns-then-is_err-clause-feeds
returns-then-is_err-clause-feeds c = λ entries. feeds_memory _ _ c.args.part.now entries (λ error e. elim c.in-Start.is [ inl s ↦ (let f = sym s ∙ e in cc) | inr s ↦ (let f = sym s.1 ∙ e in cc) ]) refl c.clear.ensures.items refl

pub returns-else-is_err-clause-feeds : goal.returns-else-is_err-clause-feeds
returns-else-is_err-clause-feeds c = λ entries.
    let kept : c.extend_from_slice.new.self.items ≡ c.args.body.now.part.items ++ c.args.part.now = search rules in
    elim c.in-Start.is [
      | inl s ↦ feeds_start _ _ c.args.part.now entries s s kept refl c.requires.plain
      | inr s ↦ feeds_inside s.0 _ _ c.args.part.now entries s.1 s.1 kept refl c.requires.plain
    ]

pub returns-then-not-is_empty-clause-feeds : goal.returns-then-not-is_empty-clause-feeds
returns-then-not-is_empty-clause-feeds c = λ entries.
    let n = eqb-false _ _ (sym c.if-not-is_empty.ensures) in
    feeds_ended c.in-Ended.number _ _ c.args.part.now entries c.in-Ended.is refl refl refl (omega arith)

pub returns-in-Refused-clause-feeds : goal.returns-in-Refused-clause-feeds
returns-in-Refused-clause-feeds c = λ entries. feeds_refused c.in-Refused.field-0 _ _ c.args.part.now entries c.in-Refused.is c.in-Refused.is refl refl
