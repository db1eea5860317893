-- What is held and told once a refutation was exported.
use Rattle.std.proofs.Common.{◌≡◌, ℕ, ℤ, ◌<◌, ◌≤◌, ◌^◌, Bool, List, [], ◌∷◌, ◌++◌, length, map, Option, Some, None, Ok, refl, sym, ap, subst, ◌∙◌, append-nil, append_assoc}
use Rattle.std.specs.Prelude.{◌≢◌, IfSome}
use Rattle.std.specs.List.{concat}
use Rattle.dcsp_defs.specs.Csp.{IsCsp}
use Rattle.dcsp_defs.specs.declared.Step.{Step}
use Rattle.dcsp_defs.specs.declared.entry.Entry.{Entry}
use Rattle.dcsp_defs.specs.Derivation.{IsRefutation}
use Rattle.dcsp_outside.specs.Outside.{Place, Stream, Told, bytes_of}
use Rattle.dcsp_rule.specs.Problems.{Contents, csp_of, value_count}
use Rattle.dcsp_script.specs.Scripts.{Write, Put, World, outside, put_by, file_after, FilesAfter, PutAfter}
use Rattle.dcsp_script.specs.Ways.{Wrote}
use Rattle.dcsp_script.specs.Texts.{LeavesAlone}
use Rattle.dcsp_script.proofs.After.{file_after-append}
use Rattle.dcsp_script.proofs.Parts.{left_alone}
use Rattle.rup_check.specs.ProofText.{clause_line, proof_text}
use Rattle.ngd_log.specs.EntryTexts.{IsLogOfEntries}
use Rattle.ngd_log.proofs.EntryLaws.{entries_or_bad_line}
use Rattle.ngd_check.specs.Entries.{steps_of}
use Rattle.dcsp_script.specs.Promises.{IsHeld}
use Rattle.line_check.specs.declared.log_check.Checked.{Checked}
use Rattle.line_check.specs.Checks.{HasEntries}
use Rattle.ngd_check.specs.declared.Finding.TheVariants.{Verified}
use Rattle.line_check.specs.LogChecks.{IsKeptFor}
use Rattle.line_rewrite.proofs.CoreFiles.{all_steps}
use Rattle.line_check.specs.Taking.{taking_of}
use Rattle.line_check.proofs.Taken.{settled}
use Rattle.line_rewrite.specs.UpgradePromise.{appends, file_script}
use Rattle.line_rewrite.proofs.Files.{whole_file, leaves}
use Rattle.line_export.specs.Clauses.{Clause, formula, proof}
use Rattle.line_export.specs.Texts.{cnf_lines, counts_text, export_script}
use Rattle.line_export.specs.Exporting.{cnf_text, WritesExport, IsProofVerified, HasExported}
use Rattle.line_export.proofs.Accepting.{accepted}
use Rattle.line_export.proofs.Saying.{says}
use Rattle.line_export.proofs.Fine.{formula_fine, proof_read}
use Rattle.line_export.proofs.FormulaText.{IsReadBack, read_back}
use Rattle.line_export.proofs.Within.{IsSmall}
use Rattle.line_export.proofs.Verified.{proof_verified}

-- lines joined are the text of a proof
joined : (clauses : List Clause) → concat (map clause_line clauses) ≡ proof_text clauses
joined [] = refl
joined (c ∷ clauses) = ap (λ t. clause_line c ++ t) (joined clauses)

-- ---- the files

-- a file that is written leaves the others alone
file_leaves : (name other : List ℕ) → (name ≡ other → ⊥) → (lines : List (List ℕ)) → LeavesAlone (file_script name lines) other
file_leaves name other unlike lines = (unlike, subst (λ (s : List Write). LeavesAlone s other) (append-nil (appends name lines)) (leaves name other unlike lines [] tt))

module _ (cnf proof_name : List ℕ) (wanted : Bool) (p : Contents) (steps : List Step) where
  abbrev first : List Write
  first = file_script cnf (cnf_lines p wanted (formula p steps))

  abbrev last : List Write
  last = Put (counts_text (value_count p) (length (formula p steps)) (length steps)) ∷ []

  abbrev second : List Write
  second = file_script proof_name (map clause_line (proof p steps))

  second_leaves : (other : List ℕ) → (proof_name ≡ other → ⊥) → LeavesAlone second other
  second_leaves other unlike = file_leaves proof_name other unlike (map clause_line (proof p steps))

  first_leaves : (other : List ℕ) → (cnf ≡ other → ⊥) → LeavesAlone first other
  first_leaves other unlike = file_leaves cnf other unlike (cnf_lines p wanted (formula p steps))

  -- what is put changes no file
  both_after : (name : List ℕ) (file : Option (List ℕ)) → file_after (export_script cnf proof_name wanted p steps) name file ≡ file_after second name (file_after first name file)
  both_after name file = file_after-append (first ++ second) last name file ∙ file_after-append first second name file

  cnf_file : cnf ≢ proof_name → (file : Option (List ℕ)) → file_after (export_script cnf proof_name wanted p steps) cnf file ≡ Some (cnf_text p wanted (formula p steps))
  cnf_file unlike file =
      both_after cnf file ∙ ap (file_after second cnf) (whole_file cnf (cnf_lines p wanted (formula p steps)) file)
      ∙ left_alone second cnf (Some (cnf_text p wanted (formula p steps))) (second_leaves cnf (λ e. unlike (sym e)))

  proof_file : (file : Option (List ℕ)) → file_after (export_script cnf proof_name wanted p steps) proof_name file ≡ Some (proof_text (proof p steps))
  proof_file file =
      both_after proof_name file
      ∙ whole_file proof_name (map clause_line (proof p steps)) (file_after first proof_name file) ∙ ap Some (joined (proof p steps))

  other_file : (other : List ℕ) → other ≢ cnf → other ≢ proof_name → (file : Option (List ℕ)) → file_after (export_script cnf proof_name wanted p steps) other file ≡ file
  other_file other a b file =
      both_after other file
      ∙ left_alone second other (file_after first other file) (second_leaves other (λ e. b (sym e)))
      ∙ left_alone first other file (first_leaves other (λ e. a (sym e)))

  told_files : cnf ≢ proof_name → (files now : Option (List ℕ → Option (List ℕ))) → Told files now (FilesAfter (export_script cnf proof_name wanted p steps)) → Told files now (WritesExport p steps wanted cnf proof_name)
  told_files unlike None None t = tt
  told_files unlike None (Some now) t = t
  told_files unlike (Some files) None t = t
  told_files unlike (Some files) (Some now) t = record {
    cnf_written = t cnf ∙ cnf_file unlike (files cnf);
    proof_written = t proof_name ∙ proof_file (files proof_name);
    others = λ other a b. t other ∙ other_file other a b (files other);
  }

put_later : (name : List ℕ) (lines : List (List ℕ)) (rest : List Write) → put_by (appends name lines ++ rest) ≡ put_by rest
put_later name [] rest = refl
put_later name (line ∷ lines) rest = put_later name lines rest

told_out : (cnf proof_name : List ℕ) (wanted : Bool) (p : Contents) (steps : List Step) (before now : Option (List ℕ)) → Told before now (PutAfter (export_script cnf proof_name wanted p steps)) → Told before now (λ old new. new ≡ old ++ counts_text (value_count p) (length (formula p steps)) (length steps))
told_out cnf proof_name wanted p steps None None t = tt
told_out cnf proof_name wanted p steps None (Some now) t = t
told_out cnf proof_name wanted p steps (Some before) None t = t
told_out cnf proof_name wanted p steps (Some before) (Some now) t =
    let text = counts_text (value_count p) (length (formula p steps)) (length steps) in
    t ∙ ap (λ (x : List ℕ). before ++ x) (ap put_by (append_assoc (file_script cnf (cnf_lines p wanted (formula p steps))) (file_script proof_name (map clause_line (proof p steps))) (Put text ∷ [])) ∙ put_later cnf (cnf_lines p wanted (formula p steps)) (file_script proof_name (map clause_line (proof p steps)) ++ Put text ∷ []) ∙ put_later proof_name (map clause_line (proof p steps)) (Put text ∷ []) ∙ append-nil text)

-- ---- what it means

module _ (p : Contents) (ok : IsCsp (csp_of p)) (many : length p.domains ≤ 4096) (steps : List Step) (refutes : IsRefutation (csp_of p) steps) (small : IsSmall p (formula p steps)) where
  formula_back : (wanted : Bool) → IsReadBack (cnf_text p wanted (formula p steps)) (formula p steps)
  formula_back wanted = read_back p wanted (formula p steps) small.atoms small.clauses_few small.literals (formula_fine p ok many small.atoms steps refutes.right)

  told_checks : (wanted : Bool) (cnf proof_name : List ℕ) (files now : Option (List ℕ → Option (List ℕ))) → Told files now (WritesExport p steps wanted cnf proof_name) → length steps < 2 ^ 32 → IfSome now (λ after. IsProofVerified after cnf proof_name)
  told_checks wanted cnf proof_name None None t few = tt
  told_checks wanted cnf proof_name None (Some after) t few = absurd t
  told_checks wanted cnf proof_name (Some files) None t few = tt
  told_checks wanted cnf proof_name (Some files) (Some after) t few =
      proof_verified after cnf proof_name (cnf_text p wanted (formula p steps)) (proof_text (proof p steps)) (formula p steps) (proof p steps) t.cnf_written t.proof_written
      (formula_back wanted) (proof_read p small.atoms many steps refutes.right few) (accepted p steps refutes)

  pub has_exported : {T : Type 0} (x : T) (wanted : Bool) (cnf proof_name : List ℕ) (a b : Place) (out : Stream) (w : World) → b.held ≡ a.held → cnf ≢ proof_name → Wrote (export_script cnf proof_name wanted p steps) (outside b out) w (Ok x) → HasExported p steps wanted cnf proof_name (outside a out) w
  has_exported x wanted cnf proof_name a b out w held unlike wrote =
      let done = wrote.ended.after in
      let files = told_files cnf proof_name wanted p steps unlike a.held w.folder.held (subst (λ (f : Option (List ℕ → Option (List ℕ))). Told f w.folder.held (FilesAfter (export_script cnf proof_name wanted p steps))) held done.files) in
      record {
        says = says p ok steps refutes.right;
        accepted = accepted p steps refutes;
        files = files;
        checks = told_checks wanted cnf proof_name a.held w.folder.held files;
        told = told_out cnf proof_name wanted p steps out.written w.out.written done.out;
      }

-- what was done for what was found was done for the model and the log under the names
module _ (better : Option ℤ) (m l cnf proof_name : List ℕ) (wanted : Bool) where
  pub told_export : (files mid : Option (List ℕ → Option (List ℕ))) (p : Contents) (checked : Checked) (old new : World) → checked.finding ≡ Verified → mid ≡ files → (model : List ℕ) × IsHeld files m model × (taking_of better).Is model p → (log : List ℕ) × IsHeld mid l log × IsKeptFor p log checked → HasExported p checked.steps wanted cnf proof_name old new
      → IfSome files (λ g. (problem : Contents) (entries : List Entry) → (taking_of better).Is (bytes_of (g m)) problem → HasEntries (bytes_of (g l)) entries → HasExported problem (steps_of entries) wanted cnf proof_name old new)
  told_export None mid p checked old new verified same h k has = tt
  told_export (Some g) mid p checked old new verified same h k has = λ problem entries is_model is_log.
      let held : IsHeld (Some g) l k.0 = subst (λ f. IsHeld f l k.0) same k.1 in
      let kept = k.2 in
      let problems : p ≡ problem = (settled better).one (bytes_of (g m)) p problem (subst (λ (x : List ℕ). (taking_of better).Is x p) h.1 h.2) is_model in
      let lists : kept.entries ≡ entries = (entries_or_bad_line (bytes_of (g l))).one_list kept.entries entries (subst (λ (x : List ℕ). IsLogOfEntries x kept.entries) held kept.log_is.reads) is_log.reads in
      subst (λ (x : Contents). HasExported x (steps_of entries) wanted cnf proof_name old new) problems (subst (λ (s : List Step). HasExported p s wanted cnf proof_name old new) (all_steps p k.0 checked kept verified ∙ ap steps_of lists) has)
