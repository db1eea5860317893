use Rattle.std.proofs.Common.{◌≡◌, ◌<◌, ℕ, List, length, get_or, sym, ap, ◌∙◌, arith}
use Rattle.std.proofs.lemmas.List.{get_or_default}
use Rattle.ngd_store.specs.Rests.{Rest, no_rest, rest_at, rest_in, part, start_at, end_at, rests_in}
use Rattle.ngd_store.proofs.Below.{below_length, below_at}
use Rattle.ngd_store.proofs.rests.Rests.words_at.Goals as goal

there : (words ends : List ℕ) (value : List Rest) (place : ℕ) → rests_in words ends ≡ value → place < length value → place < length ends
there words ends value place e l = let n = below_length (rest_at words ends) (length ends) in let m = ap length e in omega (arith, l, n, m)

pub start_of-start-requires : goal.start_of-start-requires
start_of-start-requires c =
    let l = there c.self.inside.words.items c.self.inside.ends.items c.args.self.now c.args.place c.self.view_is c.requires in
    let e = ap length c.deref.ensures.value in
    omega (arith, l, e)

pub index-requires : goal.index-requires
index-requires c = let l = there c.self.inside.words.items c.self.inside.ends.items c.args.self.now c.args.place c.self.view_is c.requires in omega (arith, l)

pub part_of-requires-clause-after : goal.part_of-requires-clause-after
part_of-requires-clause-after c =
    let l = there c.self.inside.words.items c.self.inside.ends.items c.args.self.now c.args.place c.self.view_is c.requires in
    let end : c.index.result.now ≡ end_at c.self.inside.ends.items c.args.place = c.index.ensures ∙ get_or_default c.self.inside.ends.items c.args.place c.index.result.now 0 l in
    let start : c.start_of-start.result ≡ start_at c.self.inside.ends.items c.args.place = c.start_of-start.ensures ∙ ap (λ (xs : List ℕ). start_at xs c.args.place) c.deref.ensures.value in
    let after = (c.self.invariant c.args.place l).after in
    omega (arith, end, start, after)

pub part_of-requires-clause-within : goal.part_of-requires-clause-within
part_of-requires-clause-within c =
    let l = there c.self.inside.words.items c.self.inside.ends.items c.args.self.now c.args.place c.self.view_is c.requires in
    let end : c.index.result.now ≡ end_at c.self.inside.ends.items c.args.place = c.index.ensures ∙ get_or_default c.self.inside.ends.items c.args.place c.index.result.now 0 l in
    let words = ap length c.deref-2.ensures.value in
    let within = (c.self.invariant c.args.place l).within in
    omega (arith, end, words, within)

pub returns : goal.returns
returns c =
    let words = c.self.inside.words.items in
    let ends = c.self.inside.ends.items in
    let l = there words ends c.args.self.now c.args.place c.self.view_is c.requires in
    let end : c.index.result.now ≡ end_at ends c.args.place = c.index.ensures ∙ get_or_default ends c.args.place c.index.result.now 0 l in
    let start : c.start_of-start.result ≡ start_at ends c.args.place = c.start_of-start.ensures ∙ ap (λ (xs : List ℕ). start_at xs c.args.place) c.deref.ensures.value in
    ap rest_in c.part_of.ensures
    ∙ (ap (λ (xs : List ℕ). rest_in (part xs c.start_of-start.result c.index.result.now)) c.deref-2.ensures.value
    ∙ (ap (λ s. rest_in (part words s c.index.result.now)) start
    ∙ (ap (λ e. rest_in (part words (start_at ends c.args.place) e)) end
    ∙ (sym (below_at (rest_at words ends) (length ends) c.args.place no_rest l)
    ∙ ap (λ (rests : List Rest). get_or rests c.args.place no_rest) c.self.view_is))))
