use Rattle.std.proofs.Common.{◌≡◌, ◌&&◌, ap, ◌∙◌, ◌+◌, take, drop, sym, subst, ℕ, ℤ, to_z, of_z, get_or, rules, w64, SFits}
use Rattle.std.proofs.lemmas.Int.{to_z-of_z}
use Rattle.dcsp_defs.specs.Pairs.{no_pair}
use Rattle.dcsp_defs.specs.Words.{In}
use Rattle.dcsp_defs.specs.Csp.{domain}
use Rattle.dcsp_rule.specs.Problems.{Contents, csp_of}
use Rattle.abt_defs.specs.Steps as steps
use Rattle.abt_parts.specs.Messages.{with_stamps}
use Rattle.abt_agent.specs.Bodies.{agent_of}
use Rattle.abt_agent.proofs.Fits.{fits_next, learn_next}
use Rattle.abt_parts.proofs.Members.{In-get_or}
use Rattle.abt_agent.proofs.body.AgentBody.learn_each.Goals as goal
use Rattle.abt_agent.proofs.body.AgentBody.learn_each.Goals.{then-is_so, else-is_so}

pub learn_higher-requires-clause-value : goal.learn_higher-requires-clause-value
learn_higher-requires-clause-value c =
    let pair = get_or c.args.pairs.now c.loop-place.place no_pair in
    let fits : SFits w64 pair.value = search rules in
    subst (λ (x : Contents × ℕ). In (to_z w64 (of_z w64 pair.value)) (domain (csp_of x.0) pair.var)) (sym c.loop-place.invariant.owner)
    (subst (λ (z : ℤ). In z (domain (csp_of c.args.self.now.known.problem.now) pair.var)) (sym (to_z-of_z w64 pair.value fits)) (c.requires.values pair (In-get_or c.args.pairs.now c.loop-place.place no_pair c.loop-place-test.true)))

pub loop-place-preserved : goal.loop-place-preserved
loop-place-preserved c =
    let place = c.loop-place.place in
    let pairs = c.args.pairs.now in
    let stamps = c.args.stamps.now in
    let pair = get_or pairs place no_pair in
    let value : SFits w64 pair.value = search rules in
    let before = agent_of c.loop-place.self in
    let after = agent_of c.learn_higher.new.self in
    let me : c.loop-place.self.known.me ≡ c.args.self.now.known.me = ap (λ (x : Contents × ℕ). x.1) c.loop-place.invariant.owner in
    let both : c.if-is_so.fits ≡ (c.in_ok-is_so.is_so && c.loop-place.fits) = elim c.if-is_so.branch [
      | then-is_so w ↦ w.fits-is ∙ ap (λ z. z && c.loop-place.fits) (sym w.if-is_so.true)
      | else-is_so w ↦ w.fits-is ∙ w.if-is_so.false ∙ ap (λ z. z && c.loop-place.fits) (sym w.if-is_so.false)
    ] in
    record {
      fits = both ∙ subst (λ (m : ℕ). (c.in_ok-is_so.is_so && c.loop-place.fits) ≡ steps.fits m (take (place + 1) pairs) after) me
          (fits_next c.loop-place.self.known.me place pairs (record { value = to_z w64 (of_z w64 pair.value); stamp = get_or stamps place 0 }) before after c.in_ok-is_so.is_so c.loop-place.fits
          c.loop-place-test.true c.requires.rising (to_z-of_z w64 pair.value value) c.in_ok-is_so.ensures.agent c.in_ok-is_so.ensures.fits
          (c.loop-place.invariant.fits ∙ ap (λ (m : ℕ). steps.fits m (take place pairs) before) (sym me)));
      agent = subst (λ (m : ℕ). steps.learn_all m (with_stamps (drop (place + 1) pairs) (drop (place + 1) stamps)) after ≡ steps.learn_all m (with_stamps (drop place pairs) (drop place stamps)) before) me
          (learn_next c.loop-place.self.known.me place pairs stamps (to_z w64 (of_z w64 pair.value)) before after c.loop-place-test.true c.requires.stamped.many (to_z-of_z w64 pair.value value) c.in_ok-is_so.ensures.agent)
          ∙ c.loop-place.invariant.agent;
      owner = c.learn_higher.ensures.owner ∙ c.loop-place.invariant.owner;
      sized = c.in_ok-is_so.ensures.sized;
    }
