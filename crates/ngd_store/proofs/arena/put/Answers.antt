use Rattle.std.proofs.Common.{◌<◌, List, length, sym, ap, subst}
use Rattle.ngd_store.specs.declared.arena.Placed.{Placed}
use Rattle.ngd_store.specs.Rooms.{HadBack, AreGivenBack}
use Rattle.ngd_store.proofs.Rooms.{reused}
use Rattle.ngd_store.proofs.arena.put.Goals as goal

pub is_given_back-requires : goal.is_given_back-requires
is_given_back-requires c s k h = subst (λ n. k < n) (ap (λ (cells : List Placed). length cells) (sym c.deref.ensures.value)) (c.requires s k (subst (λ (cells : List Placed). HadBack cells s k) c.deref.ensures.value h))

pub returns-then-is_given_back-clause-put : goal.returns-then-is_given_back-clause-put
returns-then-is_given_back-clause-put c =
    reused c.args.cells.now.items _ c.args.pairs.now c.in_ok-room.room c.take-again.result c.in_ok-room.ensures c.write_at.ensures
    (subst (λ (cells : List Placed). AreGivenBack cells c.take-again.result (length c.args.pairs.now)) c.deref.ensures.value (c.is_given_back.ensures c.if-is_given_back.true))
