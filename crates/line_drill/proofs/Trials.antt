-- What is read of a sure folder.
use Rattle.std.proofs.Common.{◌≡◌, ℕ, List, Option, Some, Err, refl, ap, subst, ◌∙◌}
use Rattle.dcsp_outside.specs.Outside.{Place, Rose, bytes_of}
use Rattle.dcsp_script.specs.Promises.{IsHeld}
use Rattle.abt_input.specs.Kinds.{FileKind, ReadsAs}
use Rattle.abt_input.specs.Files.{HasRead}
use Rattle.abt_input.proofs.Files.{read_held}
use Rattle.abt_input.specs.declared.error.CommandError.{CommandError}
use Rattle.abt_input.specs.declared.error.CommandError.TheVariants.{ModelLong, ModelRefused, NoAim, LogLong, LogLine, ScheduleLong, ScheduleLine, OrderRefused, Clauses, Fault, Memory}

-- what is said of the bytes that are held is said of those that were placed
pub said_of : (files : List ℕ → Option (List ℕ)) (name placed : List ℕ) (P : List ℕ → Type 0) → files name ≡ Some placed → ((bytes : List ℕ) × IsHeld (Some files) name bytes × P bytes) → P placed
said_of files name placed P e h = subst P (h.1 ∙ ap bytes_of e) h.2

-- a file that says something is refused for want of memory alone, where its folder does not fail
only_memory : (kind : FileKind) (bytes : List ℕ) (e : CommandError) → (kind.Refuses bytes e → ⊥) → (e ≡ Fault → ⊥) → ReadsAs kind bytes (Err e) → e ≡ Memory
only_memory kind bytes ModelLong good sure h = absurd (good h)
only_memory kind bytes (ModelRefused error) good sure h = absurd (good h)
only_memory kind bytes NoAim good sure h = absurd (good h)
only_memory kind bytes LogLong good sure h = absurd (good h)
only_memory kind bytes (LogLine number) good sure h = absurd (good h)
only_memory kind bytes ScheduleLong good sure h = absurd (good h)
only_memory kind bytes (ScheduleLine number) good sure h = absurd (good h)
only_memory kind bytes (OrderRefused error) good sure h = absurd (good h)
only_memory kind bytes (Clauses error) good sure h = absurd (good h)
only_memory kind bytes Fault good sure h = absurd (sure refl)
only_memory kind bytes Memory good sure h = refl

-- so is one in memory, whose bytes were placed
pub sure_error : {kind : FileKind} {p q : Place} {e : CommandError} (files : List ℕ → Option (List ℕ)) (name placed : List ℕ) → HasRead kind name p q (Err e) → p.held ≡ Some files → files name ≡ Some placed → (kind.Refuses placed e → ⊥) → (Rose (p.reads name) (q.reads name) → ⊥) → e ≡ Memory
sure_error {kind} {p} {q} {e} files name placed h told held good sure =
    let read = read_held h in
    let reads : (bytes : List ℕ) × IsHeld (Some files) name bytes × ReadsAs kind bytes (Err e) = subst (λ f. (bytes : List ℕ) × IsHeld f name bytes × ReadsAs kind bytes (Err e)) told read in
    only_memory kind placed e good (λ is. sure (h.fault (ap Err is))) (said_of files name placed (λ bytes. ReadsAs kind bytes (Err e)) held reads)
