use Rattle.std.proofs.Common.{◌≡◌, ◌+◌, ◌-◌, ◌++◌, ◌∷◌, [], ◌&&◌, nat_lt, ◌≤◌, true, false, length, ◌∙◌, arith, codes, refl, rules}
use Rattle.std.proofs.lemmas.Bool.{lt-ltb, ltb-true, false_from_ne_true}
use Rattle.std.proofs.lemmas.List.{length_push}
use Rattle.ngd_log.specs.Reading.{items_at, nogood_of, pair_at, pairs_from, rises}
use Rattle.ngd_log.proofs.Items.{goes_on, fails_on, is_done, with_front}
use Rattle.ngd_log.proofs.Rising.{last_var, rises-more, last_var-more, no_nogood, some_nogood}
use Rattle.ngd_log.proofs.reader.nogood_from.Goals as goal

pub returns-in_default-pair_at : goal.returns-in_default-pair_at
returns-in_default-pair_at c =
    let l = c.loop-next in
    let none = fails_on (codes ",") pair_at l.pairs.items (length c.args.bytes.now + 1 - length l.pairs.items - 1) (length c.args.bytes.now + 1 - length l.pairs.items) l.rest.now c.in-Some.next.now (pairs_from c.args.first c.args.bytes.now)
    (let s = c.in-Some.ensures.shorter in let r = l.invariant.room in omega arith) c.in-Some.ensures.reads c.in_default-pair_at.ensures.reads l.invariant.same in
    rw none refl

pub returns-then-pair-last : goal.returns-then-pair-last
returns-then-pair-last c =
    let l = c.loop-next in
    let x = c.in-Some-pair_at.pair in
    let s = c.in-Some.ensures.shorter in
    let r = l.invariant.room in
    let most = length c.args.bytes.now + 1 - length l.pairs.items in
    let le : x.var ≤ l.last = search rules in
    let below : nat_lt l.last x.var ≡ false = false_from_ne_true (nat_lt l.last x.var) (λ t. let lt = ltb-true l.last x.var t in absurd (omega (arith, lt, le))) in
    let falls : (rises l.pairs.items && nat_lt (last_var 0 l.pairs.items) x.var) ≡ false = rw (l.invariant.rising, l.invariant.last) below in
    no_nogood (l.pairs.items ++ x ∷ []) (items_at (codes ",") pair_at (most - 1) c.in-Some-pair_at.others.now) (pairs_from c.args.first c.args.bytes.now) (rises-more 0 l.pairs.items x l.invariant.some ∙ falls)
    (goes_on (codes ",") pair_at l.pairs.items (most - 1) most l.rest.now c.in-Some.next.now x c.in-Some-pair_at.others.now (pairs_from c.args.first c.args.bytes.now) (omega arith) c.in-Some.ensures.reads c.in-Some-pair_at.ensures.reads l.invariant.same)

pub returns : goal.returns
returns c =
    let l = c.loop-next in
    some_nogood l.pairs.items l.rest.now (pairs_from c.args.first c.args.bytes.now) l.invariant.rising
    (is_done (codes ",") pair_at l.pairs.items (length c.args.bytes.now + 1 - length l.pairs.items) l.rest.now (pairs_from c.args.first c.args.bytes.now) c.in_default.ensures.reads l.invariant.same)

pub loop-next-preserved : goal.loop-next-preserved
loop-next-preserved c =
    let l = c.loop-next in
    let x = c.in-Some-pair_at.pair in
    let s = c.in-Some.ensures.shorter in
    let t = c.in-Some-pair_at.ensures.shorter in
    let r = l.invariant.room in
    let n = length_push l.pairs.items x in
    let pushed : c.push-in-Some.new.self.items ≡ l.pairs.items ++ x ∷ [] = c.in_ok-push-2.ensures.items in
    let left : length c.args.bytes.now + 1 - length c.push-in-Some.new.self.items ≡ length c.args.bytes.now + 1 - length l.pairs.items - 1 = rw pushed (omega arith) in
    let above : nat_lt l.last x.var ≡ true = lt-ltb l.last x.var (search rules) in
    let more : (rises l.pairs.items && nat_lt (last_var 0 l.pairs.items) x.var) ≡ true = rw (l.invariant.rising, l.invariant.last) above in
    record {
      same = rw (left, pushed) (goes_on (codes ",") pair_at l.pairs.items (length c.args.bytes.now + 1 - length l.pairs.items - 1) (length c.args.bytes.now + 1 - length l.pairs.items) l.rest.now c.in-Some.next.now x c.in-Some-pair_at.others.now (pairs_from c.args.first c.args.bytes.now)
          (omega arith) c.in-Some.ensures.reads c.in-Some-pair_at.ensures.reads l.invariant.same);
      room = rw pushed (omega arith);
      some = rw pushed (omega arith);
      rising = rw pushed (rises-more 0 l.pairs.items x l.invariant.some ∙ more);
      last = rw pushed (last_var-more 0 l.pairs.items x);
    }
