-- Bytes that a file may have had.
use Rattle.std.proofs.Common.{◌≡◌, ℕ, zero, suc, ◌<◌, ◌≤◌, List, [], ◌∷◌, ◌++◌, length, Option, Some, None, Result, Ok, Err, refl, sym, ap, subst, arith}
use Rattle.std.specs.Prelude.{IfSome}
use Rattle.dcsp_outside.specs.declared.folder.Fetched.{Fetched}
use Rattle.dcsp_outside.specs.declared.folder.Fetched.TheVariants.{Whole, Long}
use Rattle.dcsp_outside.specs.Handed.{Handed, AllOf, MoreThan}
use Rattle.dcsp_outside.specs.Outside.{Place, Fetches, AddsUpTo, gained, handed_by, bytes_of}
use Rattle.dcsp_script.specs.Promises.{IsHeld, AreBytesOf}
use Rattle.dcsp_script.proofs.Fetched.{fetched_held}
use Rattle.abt_input.specs.declared.error.CommandError.{CommandError}
use Rattle.abt_input.specs.declared.error.CommandError.TheVariants.{ModelLong, ModelRefused, NoAim, LogLong, LogLine, ScheduleLong, ScheduleLine, OrderRefused, Clauses, Fault, Memory}
use Rattle.abt_input.specs.Kinds.{FileKind, ReadsAs}
use Rattle.abt_input.specs.Files.{UnlessFault, HasRead}

-- so many zeros
zeros : ℕ → List ℕ
zeros zero = []
zeros (suc n) = 0 ∷ zeros n

length-zeros : (n : ℕ) → length (zeros n) ≡ n
unfolding zeros
length-zeros zero = refl
length-zeros (suc n) = ap suc (length-zeros n)

-- all bytes were handed over
pub whole_bytes : (files : Option (List ℕ → Option (List ℕ))) (old new : List Handed) (name : List ℕ) (most : ℕ) (before now : List ℕ) (fetched : Fetched) → fetched ≡ Whole → before ≡ [] → new ≡ old ++ handed_by name most (gained before now) (Ok fetched)
    → AddsUpTo most before now (Ok fetched) → IfSome files (λ f. Fetches (bytes_of (f name)) most before now (Ok fetched)) → AreBytesOf files old new name now × (length now ≤ most)
whole_bytes files old new name most before now Long is none handed adds fetches = absurd (let f = is in cc)
whole_bytes files old new name most (b ∷ before) now Whole is none handed adds fetches = absurd (let f = none in cc)
whole_bytes files old new name most [] now Whole is none handed adds fetches = (by files fetches, (let few = adds.1 in subst (λ l. length l ≤ most) (sym adds.2) few))
  where
    by : (files : Option (List ℕ → Option (List ℕ))) → IfSome files (λ f. Fetches (bytes_of (f name)) most [] now (Ok Whole)) → AreBytesOf files old new name now
    by None h = (AllOf name now ∷ [], handed, (refl, refl, tt))
    by (Some f) h = h.1

-- there are more than are allowed
pub many_bytes : (files : Option (List ℕ → Option (List ℕ))) (old new : List Handed) (name : List ℕ) (most : ℕ) (before now : List ℕ) (fetched : Fetched) → fetched ≡ Long → new ≡ old ++ handed_by name most (gained before now) (Ok fetched)
    → IfSome files (λ f. Fetches (bytes_of (f name)) most before now (Ok fetched)) → (x : List ℕ) × AreBytesOf files old new name x × most < length x
many_bytes files old new name most before now Whole is handed fetches = absurd (let f = is in cc)
many_bytes None old new name most before now Long is handed fetches =
    let long : most < length (zeros (suc most)) = omega (arith, length-zeros (suc most)) in (zeros (suc most), (MoreThan name most ∷ [], handed, (refl, long, tt)), long)
many_bytes (Some files) old new name most before now Long is handed fetches = (bytes_of (files name), refl, fetches.0)

-- nothing was handed over
pub no_bytes : (files : Option (List ℕ → Option (List ℕ))) (old new : List Handed) (name : List ℕ) → new ≡ old ++ [] → (x : List ℕ) × AreBytesOf files old new name x × Unit {0}
no_bytes None old new name handed = ([], ([], handed, tt), tt)
no_bytes (Some files) old new name handed = (bytes_of (files name), refl, tt)

-- what holds anyway holds unless there was a fault
pub unless_fault : {T P : Type 0} (r : Result T CommandError) → P → UnlessFault r P
unless_fault (Ok x) p = p
unless_fault (Err ModelLong) p = p
unless_fault (Err (ModelRefused error)) p = p
unless_fault (Err NoAim) p = p
unless_fault (Err LogLong) p = p
unless_fault (Err (LogLine number)) p = p
unless_fault (Err ScheduleLong) p = p
unless_fault (Err (ScheduleLine number)) p = p
unless_fault (Err (OrderRefused error)) p = p
unless_fault (Err (Clauses error)) p = p
unless_fault (Err Fault) p = tt
unless_fault (Err Memory) p = p

-- what was read, with the bytes that the folder held, where it tells them
pub read_held : {kind : FileKind} {name : List ℕ} {p q : Place} {r : Result kind.Value CommandError} → HasRead kind name p q r → (bytes : List ℕ) × IsHeld p.held name bytes × ReadsAs kind bytes r
read_held {name = name} {p = p} {q = q} h = (h.read.0, fetched_held p q name h.read.0 h.read.1, h.read.2)
