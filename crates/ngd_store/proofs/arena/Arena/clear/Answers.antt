use Rattle.std.proofs.Common.{◌≡◌, ◌<◌, Bool, true, false, not, refl, sym, ap, ◌∙◌, subst, arith, cond, ℕ, None, List, Option, length, map, get_or, set, ◌==◌}
use Rattle.std.proofs.lemmas.List.{length-map, get_or_default}
use Rattle.ngd_store.specs.declared.arena.Placed.{Placed}
use Rattle.ngd_store.specs.declared.arena.Room.{Room}
use Rattle.ngd_store.specs.Rooms.{no_room, room_at, content, IsTidy, HasGivenBack}
use Rattle.ngd_store.proofs.Rooms.{cleared_tidy, cleared_content}
use Rattle.ngd_store.proofs.arena.Arena.clear.Goals as goal

not_false : (b : Bool) → not b ≡ false → b ≡ true
not_false true e = refl
not_false false e = absurd cc

there : (cells : List Placed) (rooms : List Room) (value : List (Option (List Placed))) (number : ℕ) → map (content cells) rooms ≡ value → number < length value → number < length rooms
there cells rooms value number e l = let s = length-map rooms (content cells) in let m = ap length e in omega (arith, l, s, m)

pub invariant_of-self : goal.invariant_of-self
invariant_of-self c =
    let old = c.self.inside.cells.items in
    let new = c.give_back.new.cells.items in
    let rooms = c.self.inside.rooms.items in
    let l = there old rooms c.args.self.now c.args.number c.self.view_is c.requires in
    let e : c.index-room.result.now ≡ room_at rooms c.args.number = c.index-room.ensures ∙ get_or_default rooms c.args.number c.index-room.result.now no_room l in
    let f : c.index_mut.result.now ≡ room_at rooms c.args.number = c.index_mut.ensures.value ∙ get_or_default rooms c.args.number c.index_mut.result.now no_room l in
    let given = subst (λ (s : Room). HasGivenBack old new s.start s.len) e c.give_back.ensures in
    let kept = ap (λ (s : Room). s.kept) (sym e) ∙ not_false c.index-room.result.now.kept c.if-not-room.false in
    subst (λ (s : Room). IsTidy new (set rooms c.args.number (record { start = s.start; len = s.len; kept = false }))) (sym f) (cleared_tidy old new rooms c.args.number c.self.invariant l given kept)

pub returns-clause-cleared : goal.returns-clause-cleared
returns-clause-cleared c k =
    let old = c.self.inside.cells.items in
    let new = c.give_back.new.cells.items in
    let rooms = c.self.inside.rooms.items in
    let l = there old rooms c.args.self.now c.args.number c.self.view_is c.requires in
    let e : c.index-room.result.now ≡ room_at rooms c.args.number = c.index-room.ensures ∙ get_or_default rooms c.args.number c.index-room.result.now no_room l in
    let f : c.index_mut.result.now ≡ room_at rooms c.args.number = c.index_mut.ensures.value ∙ get_or_default rooms c.args.number c.index_mut.result.now no_room l in
    let given = subst (λ (s : Room). HasGivenBack old new s.start s.len) e c.give_back.ensures in
    let kept = ap (λ (s : Room). s.kept) (sym e) ∙ not_false c.index-room.result.now.kept c.if-not-room.false in
    let done = cleared_content old new rooms c.args.number c.self.invariant l given kept k in
    let at : get_or (map (content new) (set rooms c.args.number (record { start = c.index_mut.result.now.start; len = c.index_mut.result.now.len; kept = false }))) k None ≡ cond (k == c.args.number) None (get_or (map (content old) rooms) k None) = subst (λ (s : Room). get_or (map (content new) (set rooms c.args.number (record { start = s.start; len = s.len; kept = false }))) k None ≡ cond (k == c.args.number) None (get_or (map (content old) rooms) k None)) (sym f) done in
    at ∙ ap (λ (xs : List (Option (List Placed))). cond (k == c.args.number) None (get_or xs k None)) c.self.view_is
