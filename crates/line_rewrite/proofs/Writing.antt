-- Entries that are written line by line.
use Rattle.std.proofs.Common.{◌≡◌, ℕ, List, [], ◌∷◌, ◌++◌, length, Result, Ok, Err, refl, sym, ap, subst, ◌∙◌}
use Rattle.std.specs.Prelude.{IsErr, IsErrAnd, Contains}
use Rattle.std.proofs.lemmas.List.{map-append}
use Rattle.std.proofs.lemmas.List.Elements.{Contains-push}
use Rattle.dcsp_defs.specs.declared.Step.{Step}
use Rattle.dcsp_script.specs.declared.stop.Stop.{Stop}
use Rattle.dcsp_script.specs.declared.stop.Stop.TheVariants.{Memory}
use Rattle.dcsp_script.specs.Scripts.{Write, Create, Append, Put, World}
use Rattle.dcsp_script.specs.Ways.{Wrote}
use Rattle.dcsp_script.specs.Left.{HasLeft}
use Rattle.dcsp_script.proofs.Ways.{did_nothing}
use Rattle.dcsp_script.proofs.Lines.{then_rest, then_stopped}
use Rattle.dcsp_defs.specs.declared.entry.Entry.{Entry}
use Rattle.ngd_log.specs.declared.standing.Version.TheVariants.{Two}
use Rattle.ngd_log.specs.EntryTexts.{text_lines}
use Rattle.ngd_rewrite.specs.Upgrade.{upgraded, deleted_count}
use Rattle.line_rewrite.specs.UpgradePromise.{appends, file_script, counts_text, upgrade_text, upgrade_script}

-- memory is wanted before anything was made
pub memory_at_once : {T : Type 0} (s : List Write) (a : World) → Wrote {T = T} s a a (Err Memory)
memory_at_once s a = record { ended = record { start = []; rest = s; is_script = refl; did = did_nothing a }; handed = refl }

-- memory is wanted before the first of what is left
pub left_memory : {U : Type 0} {script rest : List Write} {a b : World} (r : Result U Stop) → IsErr r × IsErrAnd r (λ y. y ≡ Memory) → HasLeft script rest a b → Wrote script a b r
left_memory (Ok x) is h = absurd (let no = is.0 in cc)
left_memory {rest = rest} (Err y) is h = rw is.1 (record { ended = record { start = h.made; rest = rest; is_script = h.is_script; did = h.did }; handed = h.handed })

-- a name was created
pub created_here : (before : List (List ℕ)) {now : List (List ℕ)} (name : List ℕ) → now ≡ before ++ name ∷ [] → Contains now name
created_here before name e = rw e (Contains-push before name)

-- the last line goes last
pub appends_last : (name : List ℕ) (lines : List (List ℕ)) (last : List ℕ) → appends name (lines ++ last ∷ []) ≡ appends name lines ++ Append name last ∷ []
appends_last name lines last = map-append (λ (line : List ℕ). Append name line) lines (last ∷ [])

-- an equal script came to the same
pub wrote_as : {T : Type 0} {s t : List Write} {a b : World} {r : Result T Stop} → s ≡ t → Wrote s a b r → Wrote t a b r
wrote_as {a = a} {b = b} {r = r} e w = subst (λ l. Wrote l a b r) e w

-- the lines between the first and the last were appended by a loop
pub wrote_file : {T : Type 0} {a b : World} {r : Result T Stop} (name first : List ℕ) (lines : List (List ℕ)) (last : List ℕ) → Wrote (Create name ∷ Append name first ∷ (appends name lines ++ Append name last ∷ [])) a b r → Wrote (file_script name (first ∷ (lines ++ last ∷ []))) a b r
wrote_file name first lines last w = wrote_as (ap (λ s. Create name ∷ Append name first ∷ s) (sym (appends_last name lines last))) w

module _ (name : List ℕ) (steps : List Step) (entries : List Entry) (are : entries ≡ upgraded steps) where
  -- the new log was not written whole
  pub upgrade_stopped : {T U : Type 0} {a b : World} {e : Stop} (r : Result U Stop) → IsErr r × IsErrAnd r (λ y. y ≡ e) → Wrote {T = T} (file_script name (text_lines Two entries)) a b (Err e) → Wrote (upgrade_script name steps) a b r
  upgrade_stopped {T = T} r is w = then_stopped {T = T} (Put (upgrade_text steps) ∷ []) is (wrote_as (ap (λ es. file_script name (text_lines Two es)) are) w)

  -- it was, and then the counts came to be put
  pub upgrade_told : {T U : Type 0} {a b c : World} {x : T} {r : Result U Stop} (counted deleted : ℕ) → counted ≡ length steps → deleted ≡ deleted_count (upgraded steps) → Wrote {T = T} (file_script name (text_lines Two entries)) a b (Ok x) → Wrote (Put (counts_text counted deleted) ∷ []) b c r → Wrote (upgrade_script name steps) a c r
  upgrade_told counted deleted e f w put =
      then_rest (wrote_as (ap (λ es. file_script name (text_lines Two es)) are) w) (wrote_as (ap (λ n. Put (counts_text n deleted) ∷ []) e ∙ ap (λ n. Put (counts_text (length steps) n) ∷ []) f) put)
