-- The ways in which a script may end: it was made, or one of its writes failed, or memory was wanted.
use Rattle.std.specs.Prelude.{◌≡◌, ◌⊎◌, ◌≤◌, List, [], ◌∷◌, ◌++◌, Result, Ok, Err, ⊤}
use Rattle.dcsp_outside.specs.Outside.{Rose, NoneFalls, SameCounts, IsPrefixOf}
use Rattle.dcsp_script.specs.declared.stop.Stop.{Stop}
use Rattle.dcsp_script.specs.declared.stop.Stop.TheVariants.{Fault, Memory}
use Rattle.dcsp_script.specs.Scripts.{Write, Create, Empty, Append, Put, World, IsAfter}

-- every count of failures, of every name and kind and of `out`, is as it was
pub record CountsStay (old new : World) : Type 0 where
  pub folder : SameCounts old.folder new.folder
  pub out : new.out.faults ≡ old.out.faults

-- no count of failures fell
pub record NoneFell (old new : World) : Type 0 where
  pub reads : NoneFalls old.folder.reads new.folder.reads
  pub writes : NoneFalls old.folder.writes new.folder.writes
  pub out : old.out.faults ≤ new.out.faults

-- the count of failures of this write rose
abbrev pub RoseAt : Write → World → World → Type 0
RoseAt (Create name) old new = Rose (old.folder.writes name) (new.folder.writes name)
RoseAt (Empty name) old new = Rose (old.folder.writes name) (new.folder.writes name)
RoseAt (Append name bytes) old new = Rose (old.folder.writes name) (new.folder.writes name)
RoseAt (Put bytes) old new = Rose old.out.faults new.out.faults

-- the first write is what the second may leave where it fails: some first bytes went last, or the name was emptied
abbrev pub IsPieceOf : Write → Write → Type 0
IsPieceOf (Empty this) (Create name) = this ≡ name
IsPieceOf (Append this part) (Append name bytes) = (this ≡ name) × IsPrefixOf part bytes
IsPieceOf (Put part) (Put bytes) = IsPrefixOf part bytes
IsPieceOf part write = ⊥

-- what a write leaves where it fails: nothing, or a piece of it
abbrev pub IsLeftOf : List Write → Write → Type 0
IsLeftOf [] write = ⊤
IsLeftOf (piece ∷ []) write = IsPieceOf piece write
IsLeftOf (piece ∷ next ∷ more) write = ⊥

-- some first writes of the script, and of the next one a piece or nothing
abbrev pub IsPartOf : List Write → List Write → Type 0
IsPartOf [] script = ⊤
IsPartOf (write ∷ part) [] = ⊥
IsPartOf (write ∷ part) (next ∷ script) = ((write ≡ next) × IsPartOf part script) ⊎ (IsPieceOf write next × (part ≡ []))

-- the whole script was made, and nothing failed
pub record Did (script : List Write) (old new : World) : Type 0 where
  pub after : IsAfter script old new
  pub counts : CountsStay old new

-- some first writes of the script were made whole, and nothing failed
pub record DidStartOf (script : List Write) (old new : World) : Type 0 where
  pub start : List Write
  pub rest : List Write
  pub is_script : start ++ rest ≡ script
  pub did : Did start old new

-- one write of the script failed, and its count rose: what comes before it was made whole, of itself a piece or nothing, and no write that comes after it
pub record FailedIn (script : List Write) (old new : World) : Type 0 where
  pub start : List Write
  pub write : Write
  pub rest : List Write
  pub is_script : start ++ write ∷ rest ≡ script
  pub left : List Write
  pub is_left : IsLeftOf left write
  pub after : IsAfter (start ++ left) old new
  pub rose : RoseAt write old new
  pub none_fell : NoneFell old new

-- a part of the script was made, whatever the way
pub record DidPartOf (script : List Write) (old new : World) : Type 0 where
  pub part : List Write
  pub is_part : IsPartOf part script
  pub after : IsAfter part old new

-- how a script ended: it was made; or one of its writes failed; or memory was wanted, and some first writes were made
abbrev pub Ended : {T : Type 0} → List Write → World → World → Result T Stop → Type 0
Ended script old new (Ok done) = Did script old new
Ended script old new (Err Fault) = FailedIn script old new
Ended script old new (Err Memory) = DidStartOf script old new

-- a call that was to make this script ended so, and the folder handed nothing over
pub record Wrote {T : Type 0} (script : List Write) (old new : World) (result : Result T Stop) : Type 0 where
  pub ended : Ended script old new result
  pub handed : new.folder.handed ≡ old.folder.handed
