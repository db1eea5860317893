use Rattle.std.proofs.Common.{◌≡◌, ◌<◌, ap, sym, subst, ◌∙◌, ◌&&◌, ◌||◌, nat_lt, length, get_or, ℕ}
use Rattle.abt_defs.specs.Steps.{is_named}
use Rattle.abt_agent.specs.declared.search.Cause.{Cause}
use Rattle.abt_marks.specs.Marks.{has_mark}
use Rattle.abt_agent.specs.Causes.{blames_one, IsCause}
use Rattle.abt_agent.proofs.Causes.{named_at}
use Rattle.abt_agent.proofs.Others.{below_alike}
use Rattle.abt_agent.proofs.knowledge.Knowledge.name_one.Goals as goal

pub returns-in-KeptNogood-clause-marks : goal.returns-in-KeptNogood-clause-marks
returns-in-KeptNogood-clause-marks c =
    let p = c.args.self.now.problem.now in
    let kept = c.args.self.now.store in
    let old = c.args.marks.now in
    let within : c.in-KeptNogood.place < length kept = subst (λ (x : Cause). IsCause p kept x) c.in-KeptNogood.is c.requires.cause in
    let named : (k : ℕ) → is_named k c.pairs.result.now ≡ blames_one p kept c.args.cause k = λ k.
    ap (is_named k) c.pairs.ensures.pairs ∙ ap (λ z. is_named k (get_or z c.in-KeptNogood.place c.index-items-place.result).nogood) c.items.ensures.items ∙ named_at p kept c.in-KeptNogood.place k c.index-items-place.result within ∙ ap (λ (x : Cause). blames_one p kept x k) (sym c.in-KeptNogood.is) in
    λ k. c.mark_pairs.ensures.marks k ∙ ap (λ b. has_mark old k || (nat_lt k (length old) && b)) (named k)

pub returns-in-Some-clause-marks : goal.returns-in-Some-clause-marks
returns-in-Some-clause-marks c = λ k.
    let old = c.args.marks.now in
    c.mark.ensures.marks k
    ∙ ap (λ b. has_mark old k || b) (below_alike k (length old) _ (blames_one c.args.self.now.problem.now c.args.self.now.store c.args.cause k) (λ low. sym (c.requires.other c.in-Some.var c.in-Some.is k low)))
