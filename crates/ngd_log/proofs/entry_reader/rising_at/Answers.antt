use Rattle.std.proofs.Common.{◌≡◌, ◌+◌, ◌-◌, ◌++◌, ◌∷◌, [], ◌&&◌, nat_lt, ◌≤◌, true, false, length, ◌∙◌, arith, codes, refl, rules}
use Rattle.std.proofs.lemmas.Bool.{lt-ltb, ltb-true, false_from_ne_true}
use Rattle.std.proofs.lemmas.List.{length_push}
use Rattle.ngd_log.specs.Reading.{items_at, step_number_at}
use Rattle.ngd_log.specs.EntryReading.{numbers_at, rises_after}
use Rattle.ngd_log.proofs.Items.{goes_on, fails_on, is_done}
use Rattle.ngd_log.proofs.Rising.{last_number, rises_after-more, last_number-more, no_rising, some_rising}
use Rattle.ngd_log.proofs.entry_reader.rising_at.Goals as goal

pub returns-in_default-step_number_at : goal.returns-in_default-step_number_at
returns-in_default-step_number_at c =
    let l = c.loop-next in
    let none = fails_on (codes " ") step_number_at l.numbers.items (length c.args.bytes.now - length l.numbers.items - 1) (length c.args.bytes.now - length l.numbers.items) l.rest.now c.in-Some.next.now (numbers_at c.args.bytes.now)
    (let s = c.in-Some.ensures.shorter in let r = l.invariant.room in omega arith) c.in-Some.ensures.reads c.in_default-step_number_at.ensures.reads l.invariant.same in
    rw none refl

pub returns : goal.returns
returns c =
    let l = c.loop-next in
    some_rising l.numbers.items l.rest.now (numbers_at c.args.bytes.now) l.invariant.rising
    (is_done (codes " ") step_number_at l.numbers.items (length c.args.bytes.now - length l.numbers.items) l.rest.now (numbers_at c.args.bytes.now) c.in_default.ensures.reads l.invariant.same)

pub returns-then-number-last : goal.returns-then-number-last
returns-then-number-last c =
    let l = c.loop-next in
    let x = c.in-Some-step_number_at.number in
    let s = c.in-Some.ensures.shorter in
    let r = l.invariant.room in
    let most = length c.args.bytes.now - length l.numbers.items in
    let le : x ≤ l.last = search rules in
    let below : nat_lt l.last x ≡ false = false_from_ne_true (nat_lt l.last x) (λ t. let lt = ltb-true l.last x t in absurd (omega (arith, lt, le))) in
    let falls : (rises_after 0 l.numbers.items && nat_lt (last_number 0 l.numbers.items) x) ≡ false = rw (l.invariant.rising, l.invariant.last) below in
    no_rising (l.numbers.items ++ x ∷ []) (items_at (codes " ") step_number_at (most - 1) c.in-Some-step_number_at.others.now) (numbers_at c.args.bytes.now) (rises_after-more 0 l.numbers.items x ∙ falls)
    (goes_on (codes " ") step_number_at l.numbers.items (most - 1) most l.rest.now c.in-Some.next.now x c.in-Some-step_number_at.others.now (numbers_at c.args.bytes.now) (omega arith) c.in-Some.ensures.reads c.in-Some-step_number_at.ensures.reads l.invariant.same)

pub loop-next-preserved : goal.loop-next-preserved
loop-next-preserved c =
    let l = c.loop-next in
    let x = c.in-Some-step_number_at.number in
    let s = c.in-Some.ensures.shorter in
    let t = c.in-Some-step_number_at.ensures.shorter in
    let r = l.invariant.room in
    let n = length_push l.numbers.items x in
    let pushed : c.push.new.self.items ≡ l.numbers.items ++ x ∷ [] = c.in_ok-push.ensures.items in
    let left : length c.args.bytes.now - length c.push.new.self.items ≡ length c.args.bytes.now - length l.numbers.items - 1 = rw pushed (omega arith) in
    let above : nat_lt l.last x ≡ true = lt-ltb l.last x (search rules) in
    let more : (rises_after 0 l.numbers.items && nat_lt (last_number 0 l.numbers.items) x) ≡ true = rw (l.invariant.rising, l.invariant.last) above in
    record {
      same = rw (left, pushed) (goes_on (codes " ") step_number_at l.numbers.items (length c.args.bytes.now - length l.numbers.items - 1) (length c.args.bytes.now - length l.numbers.items) l.rest.now c.in-Some.next.now x c.in-Some-step_number_at.others.now (numbers_at c.args.bytes.now)
          (omega arith) c.in-Some.ensures.reads c.in-Some-step_number_at.ensures.reads l.invariant.same);
      room = rw pushed (omega arith);
      rising = rw pushed (rises_after-more 0 l.numbers.items x ∙ more);
      last = rw pushed (last_number-more 0 l.numbers.items x);
    }
