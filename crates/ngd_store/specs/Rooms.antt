-- What lies in the rooms of an arena.
use Rattle.std.specs.Prelude.{◌≡◌, ◌⊎◌, ℕ, ◌+◌, ◌<◌, ◌≤◌, true, false, List, length, take, drop, Option, Some, None, All, slice_index_or, if◌then◌else◌}
use Rattle.ngd_store.specs.declared.arena.Placed.{Placed}
use Rattle.ngd_store.specs.declared.arena.Room.{Room}
use Rattle.ngd_store.specs.declared.arena.TheConstants.{NO_VAR}

-- what stands past the end of the cells, and past the end of the rooms
abbrev pub no_cell : Placed
no_cell = record { var = 0; place = 0 }

abbrev pub no_room : Room
no_room = record { start = 0; len = 0; kept = false }

abbrev pub cell_at : List Placed → ℕ → Placed
cell_at cells k = slice_index_or cells k no_cell

abbrev pub room_at : List Room → ℕ → Room
room_at rooms i = slice_index_or rooms i no_room

-- the pairs in a room, where it is kept
abbrev pub content : List Placed → Room → Option (List Placed)
content cells room = if room.kept then Some (take room.len (drop room.start cells)) else None

-- the room lies among so many cells
abbrev pub IsWithin : ℕ → Room → Type 0
IsWithin cells room = room.start + room.len ≤ cells

-- the room is kept, and has the cell with this number
pub record Holds (room : Room) (k : ℕ) : Type 0 where
  pub kept : room.kept ≡ true
  pub from : room.start ≤ k
  pub to : k < room.start + room.len

-- a list that was given back begins at the cell s, and had the cell k
pub record HadBack (cells : List Placed) (s k : ℕ) : Type 0 where
  pub mark : (cell_at cells s).var ≡ NO_VAR
  pub from : s ≤ k
  pub to : k < s + (cell_at cells s).place

-- the cells of lists that were given back are there
abbrev pub AreThere : List Placed → Type 0
AreThere cells = (s k : ℕ) → HadBack cells s k → k < length cells

-- each room lies among the cells, the cells of kept rooms are in use, and no two kept rooms have a cell in common; nor have lists that were given back, with these or with each other
pub record IsTidy (cells : List Placed) (rooms : List Room) : Type 0 where
  pub within : All (IsWithin (length cells)) rooms
  pub in_use : (i k : ℕ) → Holds (room_at rooms i) k → (cell_at cells k).var < NO_VAR
  pub apart : (i j k : ℕ) → Holds (room_at rooms i) k → Holds (room_at rooms j) k → i ≡ j
  pub there : AreThere cells
  pub free : (s i k : ℕ) → HadBack cells s k → Holds (room_at rooms i) k → ⊥
  pub distinct : (s t k : ℕ) → HadBack cells s k → HadBack cells t k → s ≡ t

-- so many cells from this one on are there, and are those of one list that was given back
pub record AreGivenBack (cells : List Placed) (start count : ℕ) : Type 0 where
  pub there : start + count ≤ length cells
  pub back : (k : ℕ) → start ≤ k → k < start + count → HadBack cells start k

-- but for so many cells from this one on, the cells are as before
pub record IsSameBeside (old new : List Placed) (start count : ℕ) : Type 0 where
  pub before : (k : ℕ) → k < start → cell_at new k ≡ cell_at old k
  pub after : (k : ℕ) → start + count ≤ k → cell_at new k ≡ cell_at old k
  pub longer : length old ≤ length new

-- the cell is one of so many from the start on
pub record IsAmong (start count k : ℕ) : Type 0 where
  pub from : start ≤ k
  pub to : k < start + count

-- a list of so many cells from this one on was given back, and no other
pub record HasGivenBack (old new : List Placed) (start count : ℕ) : Type 0 where
  pub beside : IsSameBeside old new start count
  pub same : length new ≡ length old
  pub back : (s k : ℕ) → HadBack new s k → (HadBack old s k) ⊎ ((s ≡ start) × (IsAmong start count k))

-- the pairs were written over the cells from this one on
pub record HasWritten (old new : List Placed) (start : ℕ) (pairs : List Placed) : Type 0 where
  pub beside : IsSameBeside old new start (length pairs)
  pub there : start + length pairs ≤ length new
  pub written : take (length pairs) (drop start new) ≡ pairs

-- the pairs were written into the cells of this room, which were not there or those of a list that was given back
pub record IsPut (old new pairs : List Placed) (room : Room) : Type 0 where
  pub kept : room.kept ≡ true
  pub count : room.len ≡ length pairs
  pub beside : IsSameBeside old new room.start room.len
  pub there : IsWithin (length new) room
  pub written : take room.len (drop room.start new) ≡ pairs
  pub back : (k : ℕ) → room.start ≤ k → k < room.start + room.len → k < length old → HadBack old room.start k
