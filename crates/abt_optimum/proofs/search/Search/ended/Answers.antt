use Rattle.std.proofs.Common.{◌≡◌, ◌∙◌, false, sym, ap, subst, arith}
use Rattle.dcsp_rule.specs.declared.aim.Aim.{Aim}
use Rattle.abt_optimum.specs.Rounds.{is_done, known_of, round_problem}
use Rattle.abt_optimum.specs.Searches.{SearchState, end_at, next_better, EndsRightly}
use Rattle.abt_optimum.specs.Kept.{shown}
use Rattle.abt_optimum.proofs.Fewer.{room}
use Rattle.abt_optimum.proofs.SearchLaws.{search_more}
use Rattle.abt_optimum.proofs.search.Search.ended.Goals as goal

pub push_reserved-requires : goal.push_reserved-requires
push_reserved-requires c =
    let s : SearchState = shown c.self.inside.problem.now c.self.inside.halves c.self.inside.rounds.items c.self.inside.values in
    let still = subst (λ (z : SearchState). is_done z.problem.aim z.rounds ≡ false) (sym c.self.view_is) c.requires.goes_on in
    let less = room s.halves s.problem (λ _. c.self.invariant.rising) s.rounds c.self.invariant.search.rounds still in
    let there = c.self.invariant.room in
    omega arith

pub invariant_of-self : goal.invariant_of-self
invariant_of-self c =
    let s : SearchState = shown c.self.inside.problem.now c.self.inside.halves c.self.inside.rounds.items c.self.inside.values in
    let still = subst (λ (z : SearchState). is_done z.problem.aim z.rounds ≡ false) (sym c.self.view_is) c.requires.goes_on in
    let right = subst (λ (z : SearchState). EndsRightly (round_problem z.problem (next_better z)) c.args.end) (sym c.self.view_is) c.requires.right in
    let better = c.better-better.ensures.better ∙ ap next_better (sym c.self.view_is) in
    let known = c.known-known.ensures ∙ ap known_of c.deref.ensures.value in
    let end = c.keep-end.ensures.end ∙ ap (λ (aim : Aim). end_at aim c.args.end) c.aim.ensures.aim in
    record {
      search = rw (c.push_reserved.ensures.items, known, better, end, c.keep-end.ensures.values) (search_more s c.self.invariant.search c.self.invariant.aim still c.args.end right);
      aim = c.self.invariant.aim;
      rising = c.self.invariant.rising;
      room = rw c.push_reserved.ensures.capacity c.self.invariant.room;
    }
