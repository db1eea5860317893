use Rattle.std.proofs.Common.{rules, ◌≡◌, ◌≤◌, length, take, ◌+◌, ◌-◌, arith, ap, ◌∙◌, length-take-le}
use Rattle.std.proofs.lemmas.List.{with_items_is, places}
use borrow.Rule.Slice.PartMut.{put_mid}
use Rattle.abt_files.proofs.Filling.{read_behind, length_of_room}
use Rattle.abt_files.proofs.transfer.append_next.Goals as goal

pub returns-in-Ok-clause-gains : goal.returns-in-Ok-clause-gains
returns-in-Ok-clause-gains g c =
    let s = c.len-start.result in
    let long = c.deref_mut.result.now in
    let count = c.in-Ok.count in
    let room = c.fill.new.room in
    let w = c.in-Ok.ensures.within in
    let r = c.in-Ok.ensures.room in
    let long_is : length long ≡ s + c.args.most = c.deref_mut.ensures.len ∙ c.in_ok-resize.ensures.len in
    let free = length_of_room s long in
    let within : count ≤ length room = omega arith in
    let whole = with_items_is c.resize.new.self (put_mid s (length long - s) long room) (search (rules, places)) in
    let behind = read_behind c.args.into.now.items _ long room s c.args.most count (omega arith) (c.deref_mut.ensures.value ∙ c.in_ok-resize.ensures.items) long_is within in
    record {
      bytes = take count room;
      counted = length-take-le count room within;
      within = omega arith;
      gained = c.truncate.ensures.items ∙ ap (take (s + count)) whole ∙ behind;
      taken = c.in-Ok.ensures.bytes;
      end = λ few. c.in-Ok.ensures.end (omega arith);
    }
