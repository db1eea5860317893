-- What the folders and the sink in memory are seen as.
use Rattle.std.specs.Prelude.{◌≡◌, ◌⊎◌, ℕ, ◌==◌, Bool, ◌||◌, List, [], ◌∷◌, map, take, Option, Some, None, true, false, Result, Ok, Err, is_none, is_some, unwrap_or, if◌then◌else◌, refl}
use Rattle.std.proofs.Common.{inl, inr}
use Rattle.std.specs.Ordering.{nat_cmp}
use Rattle.std.specs.Cmp.Lexicographic.{slice_cmp}
use Rattle.std.specs.FinMap.{FinMap, get, from_entries, code}
use Rattle.std.specs.BTreeMap.{BTreeMap}
use Rattle.std.specs.String.{string_bytes}
use Rattle.std.specs.declared.string.String.{String}
use Rattle.std.specs.declared.vec.Vec.{Vec}
use Rattle.std.specs.declared.alloc.Global.{Global}
use Rattle.std.specs.Coded.{Coded, code_by, coded×, coded⊎, coded_ℕ, coded_list}
use Rattle.dcsp_outside.specs.declared.call_plan.Failure.{Failure}
use Rattle.dcsp_outside.specs.declared.folder.FolderError.{FolderError}
use Rattle.dcsp_outside.specs.declared.folder.FolderError.TheVariants.{Failed, Memory}
use Rattle.dcsp_outside.specs.declared.sink.SinkError.{SinkError}
use Rattle.dcsp_outside.specs.declared.sink.SinkError.TheVariants as sink_errors
use Rattle.dcsp_outside.specs.Outside.{one_more}
use Rattle.dcsp_outside.specs.Handed.{Handed, AllOf, MoreThan, PartOf, EndOf}

-- the bytes of each name that is held
abbrev pub Files : Type 0
Files = FinMap (slice_cmp nat_cmp) (List ℕ)

-- the files that a map from texts to vectors holds
abbrev pub files_of : BTreeMap (String Global) (Vec ℕ Global) → Files
files_of table = from_entries (map (λ e. (string_bytes e.0, e.1.items)) table.entries)

-- what a folder in memory keeps: its files, and the names created in it, in order
pub record Kept : Type 0 where
  pub files : Files
  pub created : List (List ℕ)

-- what a folder in memory that never fails keeps, and what it has handed over
pub record SureState : Type 0 where
  pub files : Files
  pub created : List (List ℕ)
  pub handed : List Handed

-- files are stored as the list of their names and bytes
abbrev pub files_code : Coded Files
files_code = code (coded_list coded_ℕ) (coded_list coded_ℕ)

-- what is kept is stored as the pair of its fields
abbrev pub kept_code : Coded Kept
kept_code =
    code_by (Files × List (List ℕ)) (coded× files_code (coded_list (coded_list coded_ℕ))) (λ k. (k.files, k.created)) (λ p. record { files = p.0; created = p.1 }) (λ _. refl)

-- the parts of an answer: whole names and bytes, names with numbers, and pieces
abbrev pub HandedParts : Type 0
HandedParts = (List ℕ × List ℕ) ⊎ ((List ℕ × ℕ) ⊎ ((List ℕ × (ℕ × List ℕ)) ⊎ (List ℕ × (ℕ × List ℕ))))

abbrev pub handed_parts : Handed → HandedParts
handed_parts (AllOf name bytes) = inl (name, bytes)
handed_parts (MoreThan name most) = inr (inl (name, most))
handed_parts (PartOf name from piece) = inr (inr (inl (name, (from, piece))))
handed_parts (EndOf name from piece) = inr (inr (inr (name, (from, piece))))

abbrev pub handed_from : HandedParts → Handed
handed_from (inl (name, bytes)) = AllOf name bytes
handed_from (inr (inl (name, most))) = MoreThan name most
handed_from (inr (inr (inl (name, (from, piece))))) = PartOf name from piece
handed_from (inr (inr (inr (name, (from, piece))))) = EndOf name from piece

pub handed_from-parts : (h : Handed) → handed_from (handed_parts h) ≡ h
handed_from-parts (AllOf name bytes) = refl
handed_from-parts (MoreThan name most) = refl
handed_from-parts (PartOf name from piece) = refl
handed_from-parts (EndOf name from piece) = refl

abbrev piece_code : Coded (List ℕ × (ℕ × List ℕ))
piece_code = coded× (coded_list coded_ℕ) (coded× coded_ℕ (coded_list coded_ℕ))

-- an answer is stored as its parts
abbrev pub handed_code : Coded Handed
handed_code =
    code_by HandedParts (coded⊎ (coded× (coded_list coded_ℕ) (coded_list coded_ℕ)) (coded⊎ (coded× (coded_list coded_ℕ) coded_ℕ) (coded⊎ piece_code piece_code))) handed_parts handed_from handed_from-parts

-- and what a folder that never fails keeps as the tuple of its fields
abbrev pub sure_code : Coded SureState
sure_code =
    code_by (Files × (List (List ℕ) × List Handed)) (coded× files_code (coded× (coded_list (coded_list coded_ℕ)) (coded_list handed_code))) (λ s. (s.files, (s.created, s.handed))) (λ p. record { files = p.0; created = p.1.0; handed = p.1.1 }) (λ _. refl)

-- the calls that were made, those that are to fail, and the faults so far
pub record Calls : Type 0 where
  pub made : ℕ
  pub failing : List Failure
  pub faults : ℕ

-- a call that is to fail is stored as the pair of its fields
abbrev pub failure_code : Coded Failure
failure_code = code_by (ℕ × ℕ) (coded× coded_ℕ coded_ℕ) (λ f. (f.call, f.kept)) (λ p. record { call = p.0; kept = p.1 }) (λ _. refl)

-- a plan of calls is stored as the tuple of its fields
abbrev pub calls_code : Coded Calls
calls_code =
    code_by (ℕ × (List Failure × ℕ)) (coded× coded_ℕ (coded× (coded_list failure_code) coded_ℕ)) (λ c. (c.made, (c.failing, c.faults))) (λ p. record { made = p.0; failing = p.1.0; faults = p.1.1 }) (λ _. refl)

-- how many first bytes of its piece the call keeps, where one of these lets it fail; the first that names it decides
abbrev pub kept_at : ℕ → List Failure → Option ℕ
kept_at call [] = None
kept_at call (failure ∷ failures) = if failure.call == call then Some failure.kept else kept_at call failures

-- the same of the call that comes next
abbrev pub kept_next : Calls → Option ℕ
kept_next calls = kept_at (one_more calls.made) calls.failing

-- the call that comes next is to fail
abbrev pub fails_next : Calls → Bool
fails_next calls = is_some (kept_next calls)

-- the first bytes of a piece that the call that comes next keeps where it fails
abbrev pub kept_of : Calls → List ℕ → List ℕ
kept_of calls piece = take (unwrap_or (kept_next calls) 0) piece

-- one more call was made, and one more fault was counted if it failed
abbrev pub after_call : Calls → Bool → Calls
after_call calls failed = record calls { made = one_more calls.made; faults = if failed then one_more calls.faults else calls.faults }

-- a folder in memory whose calls can be made to fail
pub record FolderState : Type 0 where
  pub kept : Kept
  pub calls : Calls
  pub handed : List Handed

-- a folder's state is stored as the tuple of its fields
abbrev pub folder_code : Coded FolderState
folder_code =
    code_by (Kept × (Calls × List Handed)) (coded× kept_code (coded× calls_code (coded_list handed_code))) (λ f. (f.kept, (f.calls, f.handed))) (λ p. record { kept = p.0; calls = p.1.0; handed = p.1.1 }) (λ _. refl)

-- whether the folder failed
abbrev pub is_failure : {T : Type 0} → Result T FolderError → Bool
is_failure (Ok done) = false
is_failure (Err Failed) = true
is_failure (Err Memory) = false

-- whether the sink failed
abbrev pub is_put_failure : {T : Type 0} → Result T SinkError → Bool
is_put_failure (Ok done) = false
is_put_failure (Err sink_errors.Failed) = true
is_put_failure (Err sink_errors.Memory) = false

-- a fetch fails if its call is to fail, or if the name is not held
abbrev pub fails_fetch : FolderState → List ℕ → Bool
fails_fetch folder name = fails_next folder.calls || is_none (get folder.kept.files name)

-- a sink in memory whose calls can be made to fail: all bytes that were written, its calls, and how many were refused for want of memory
pub record SinkState : Type 0 where
  pub written : List ℕ
  pub calls : Calls
  pub lacks : ℕ

-- a sink in memory that never fails: all bytes that were written, and how many calls were refused for want of memory
pub record SureSinkState : Type 0 where
  pub written : List ℕ
  pub lacks : ℕ

-- one more refusal is counted, if this was one for want of memory
abbrev pub lacks_after : {T : Type 0} → ℕ → Result T SinkError → ℕ
lacks_after lacks (Ok done) = lacks
lacks_after lacks (Err sink_errors.Failed) = lacks
lacks_after lacks (Err sink_errors.Memory) = one_more lacks
