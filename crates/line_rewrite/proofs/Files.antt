-- What is under the new name once an upgrade was written.
use Rattle.std.proofs.Common.{◌≡◌, ℕ, List, [], ◌∷◌, ◌++◌, Option, Some, None, Ok, refl, sym, ap, subst, ◌∙◌, append-nil, append_assoc}
use Rattle.std.specs.Prelude.{if◌then◌else◌, codes}
use Rattle.std.specs.List.{concat}
use Rattle.std.specs.Cmp.Lexicographic.{bytes_decides}
use Rattle.std.proofs.lemmas.List.Folds.{concat-append}
use Rattle.dcsp_defs.specs.declared.Step.{Step}
use Rattle.dcsp_outside.specs.Outside.{Place, Stream, Told, bytes_of}
use Rattle.dcsp_script.specs.Scripts.{Write, Create, Append, Put, World, outside, after_write, file_after, FilesAfter}
use Rattle.dcsp_script.specs.Ways.{Wrote}
use Rattle.dcsp_script.specs.Texts.{LeavesAlone, appended_by}
use Rattle.dcsp_script.proofs.After.{file_after-append}
use Rattle.dcsp_script.proofs.Parts.{left_alone}
use Rattle.dcsp_script.proofs.Texts.{appended_by-append}
use Rattle.dcsp_defs.specs.declared.entry.Entry.{Entry}
use Rattle.ngd_log.specs.declared.standing.Version.TheVariants.{Two}
use Rattle.ngd_log.specs.Logs.{AreWritable}
use Rattle.ngd_log.specs.EntryTexts.{entry_lines, head, entries_text, text_lines}
use Rattle.ngd_rewrite.specs.Upgrade.{upgraded}
use Rattle.dcsp_script.specs.Promises.{IsHeld}
use Rattle.abt_input.specs.Inputs.{IsTextOf}
use Rattle.abt_input.proofs.Once.{one_text}
use Rattle.line_rewrite.specs.UpgradePromise.{appends, file_script, upgrade_text, upgrade_script}
use Rattle.line_rewrite.specs.Upgrading.{new_text, WritesUpgrade, HoldsUpgrade}
use Rattle.line_rewrite.proofs.Meaning.{is_upgrade}

-- the lines of a text, joined, are the text
pub lines_joined : (entries : List Entry) → concat (text_lines Two entries) ≡ entries_text Two entries
lines_joined entries = ap (λ t. head Two ++ t) (concat-append (entry_lines 1 entries) (codes "end\n" ∷ []) ∙ ap (λ t. concat (entry_lines 1 entries) ++ t) (append-nil (codes "end\n")))

module _ (name : List ℕ) where
  append_here : (held bytes : List ℕ) → after_write (Append name bytes) name (Some held) ≡ Some (held ++ bytes)
  append_here held bytes = ap (λ b. if b then Some (held ++ bytes) else Some held) ((bytes_decides name name).1 refl)

  create_here : (file : Option (List ℕ)) → after_write (Create name) name file ≡ Some []
  create_here file = ap (λ b. if b then Some [] else file) ((bytes_decides name name).1 refl)

  -- lines go last
  lines_file : (lines : List (List ℕ)) (held : List ℕ) → file_after (appends name lines) name (Some held) ≡ Some (held ++ concat lines)
  lines_file [] held = ap Some (sym (append-nil held))
  lines_file (line ∷ lines) held =
      ap (file_after (appends name lines) name) (append_here held line) ∙ lines_file lines (held ++ line) ∙ ap Some (append_assoc held line (concat lines))

  -- a file is whole once it was written
  pub whole_file : (lines : List (List ℕ)) (file : Option (List ℕ)) → file_after (file_script name lines) name file ≡ Some (concat lines)
  whole_file lines file = ap (file_after (appends name lines) name) (create_here file) ∙ lines_file lines []

  pub upgraded_file : (steps : List Step) (file : Option (List ℕ)) → file_after (upgrade_script name steps) name file ≡ Some (new_text steps)
  upgraded_file steps file =
      file_after-append (file_script name (text_lines Two (upgraded steps))) (Put (upgrade_text steps) ∷ []) name file
      ∙ whole_file (text_lines Two (upgraded steps)) file ∙ ap Some (lines_joined (upgraded steps))

  lines_appended : (lines : List (List ℕ)) → appended_by (appends name lines) name ≡ concat lines
  lines_appended [] = refl
  lines_appended (line ∷ lines) = ap (λ b. (if b then line else []) ++ appended_by (appends name lines) name) ((bytes_decides name name).1 refl) ∙ ap (λ t. line ++ t) (lines_appended lines)

  -- the lines that are appended are the text
  pub upgrade_appended : (steps : List Step) → appended_by (upgrade_script name steps) name ≡ new_text steps
  upgrade_appended steps =
      appended_by-append (file_script name (text_lines Two (upgraded steps))) (Put (upgrade_text steps) ∷ []) name
      ∙ append-nil (appended_by (appends name (text_lines Two (upgraded steps))) name)
      ∙ lines_appended (text_lines Two (upgraded steps)) ∙ lines_joined (upgraded steps)

module _ (name other : List ℕ) (unlike : name ≡ other → ⊥) where
  pub leaves : (lines : List (List ℕ)) (rest : List Write) → LeavesAlone rest other → LeavesAlone (appends name lines ++ rest) other
  leaves [] rest h = h
  leaves (line ∷ lines) rest h = (unlike, leaves lines rest h)

  pub upgrade_leaves : (steps : List Step) → LeavesAlone (upgrade_script name steps) other
  upgrade_leaves steps = (unlike, leaves (text_lines Two (upgraded steps)) (Put (upgrade_text steps) ∷ []) ((λ u. u), tt))

writes_upgrade : (steps : List Step) (name : List ℕ) (files now : List ℕ → Option (List ℕ)) → AreWritable steps → FilesAfter (upgrade_script name steps) files now → WritesUpgrade steps name files now
writes_upgrade steps name files now writable after = record {
  written = after name ∙ upgraded_file name steps (files name);
  upgrade = is_upgrade steps writable;
  others = λ other unlike. after other ∙ left_alone (upgrade_script name steps) other (files other) (upgrade_leaves name other (λ e. unlike (sym e)) steps);
}

module _ (log name : List ℕ) (steps : List Step) where
  told_upgrade : (files now : Option (List ℕ → Option (List ℕ))) → (text : List ℕ) × IsHeld files log text × IsTextOf text steps → Told files now (FilesAfter (upgrade_script name steps)) → HoldsUpgrade log name files now
  told_upgrade None None h t = tt
  told_upgrade None (Some now) h t = t
  told_upgrade (Some files) None h t = t
  told_upgrade (Some files) (Some now) h t = λ other is.
      subst (λ x. WritesUpgrade x name files now) (one_text (bytes_of (files log)) steps other (subst (λ m. IsTextOf m steps) h.1 h.2) is) (writes_upgrade steps name files now h.2.reads.writable t)

  -- in a folder that told the same when the log was read
  pub holds_upgrade : {T : Type 0} (files : Option (List ℕ → Option (List ℕ))) (q : Place) (out : Stream) (w : World) (x : T) → q.held ≡ files → (text : List ℕ) × IsHeld files log text × IsTextOf text steps → Wrote (upgrade_script name steps) (outside q out) w (Ok x) → HoldsUpgrade log name files w.folder.held
  holds_upgrade files q out w x same h wrote =
      told_upgrade files w.folder.held h (subst (λ f. Told f w.folder.held (FilesAfter (upgrade_script name steps))) same wrote.ended.after.files)
