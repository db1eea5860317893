use Rattle.std.proofs.Common.{◌∷◌, ◌++◌, [], Some, Option, List, map, ap, ◌∙◌}
use Rattle.std.proofs.lemmas.Result.{on_ok_weaker, on_err_weaker}
use Rattle.ngd_store.specs.declared.arena.Placed.{Placed}
use Rattle.ngd_store.specs.Rooms.{content, IsTidy}
use Rattle.ngd_store.proofs.Rooms.{put_tidy, put_same, added_tidy, added_content, either}
use Rattle.ngd_store.proofs.arena.Arena.push.Goals as goal

pub invariant_of-self-2 : goal.invariant_of-self-2
invariant_of-self-2 c =
    let new = c.put.new.cells.items in
    let put = c.in_ok-room.ensures.put in
    either c.add_room.result (IsTidy new) c.add_room.new.rooms.items (c.self.inside.rooms.items ++ c.in_ok-room.room ∷ []) c.self.inside.rooms.items c.add_room.ensures.ok c.add_room.ensures.err
    (added_tidy c.self.inside.cells.items new c.args.pairs.now c.in_ok-room.room c.self.inside.rooms.items c.self.invariant put c.requires)
    (put_tidy c.self.inside.cells.items new c.args.pairs.now c.in_ok-room.room c.self.inside.rooms.items c.self.invariant put c.requires)

pub returns-clause-ok : goal.returns-clause-ok
returns-clause-ok c =
    let new = c.put.new.cells.items in
    let put = c.in_ok-room.ensures.put in
    on_ok_weaker c.add_room.result (λ e. ap (map (content new)) e ∙ (added_content c.self.inside.cells.items new c.args.pairs.now c.in_ok-room.room c.self.inside.rooms.items c.self.invariant put c.requires ∙ ap (λ (xs : List (Option (List Placed))). xs ++ Some c.args.pairs.now ∷ []) c.self.view_is)) c.add_room.ensures.ok

pub returns-clause-err : goal.returns-clause-err
returns-clause-err c =
    let new = c.put.new.cells.items in
    on_err_weaker c.add_room.result (λ e. ap (map (content new)) e ∙ (put_same c.self.inside.cells.items new c.args.pairs.now c.in_ok-room.room c.self.inside.rooms.items c.self.invariant c.in_ok-room.ensures.put ∙ c.self.view_is)) c.add_room.ensures.err
