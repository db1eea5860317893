-- What is under the proof's name after a run.
use Rattle.std.proofs.Common.{◌≡◌, ℕ, List, [], ◌∷◌, ◌++◌, map, Option, Some, None, Ok, refl, sym, ap, subst, ◌∙◌, append-nil, append_assoc}
use Rattle.std.specs.Prelude.{if◌then◌else◌}
use Rattle.std.specs.Cmp.Lexicographic.{bytes_decides}
use Rattle.std.proofs.lemmas.List.Concat.{flat_map-cons}
use Rattle.dcsp_defs.specs.declared.Step.{Step}
use Rattle.dcsp_outside.specs.Outside.{Place, Stream, Told, bytes_of}
use Rattle.dcsp_rule.specs.Problems.{Contents}
use Rattle.dcsp_script.specs.Scripts.{Create, Append, Put, World, outside, after_write, file_after, FilesAfter}
use Rattle.dcsp_script.specs.Ways.{Wrote}
use Rattle.dcsp_script.proofs.After.{file_after-append}
use Rattle.dcsp_script.proofs.Parts.{left_alone}
use Rattle.rup_check.specs.ProofText.{clause_line, proof_text}
use Rattle.abt_defs.specs.Runs.{Run, End, Refuted, Solved, Capped, Spent}
use Rattle.dcsp_script.specs.declared.status.Status.{Status}
use Rattle.dcsp_script.specs.declared.status.Status.TheVariants.{No}
use Rattle.dcsp_script.specs.Promises.{IsHeld}
use Rattle.abt_input.specs.Inputs.{IsFormulaOf}
use Rattle.abt_input.proofs.Once.{one_formula}
use Rattle.line_replay.specs.Endings.{end_status}
use Rattle.line_cnf.specs.Satisfying.{step_clause}
use Rattle.line_cnf.specs.CnfRuns.{cnf_run, cnf_text, clause_write, proof_script, refutation_at, cnf_script}
use Rattle.line_cnf.specs.CnfHeadline.{WritesProof, HoldsProof}
use Rattle.line_cnf.proofs.CnfLawful.{run_leaves}

module _ (name : List ℕ) where
  append_here : (held bytes : List ℕ) → after_write (Append name bytes) name (Some held) ≡ Some (held ++ bytes)
  append_here held bytes = ap (λ b. if b then Some (held ++ bytes) else Some held) ((bytes_decides name name).1 refl)

  create_here : (file : Option (List ℕ)) → after_write (Create name) name file ≡ Some []
  create_here file = ap (λ b. if b then Some [] else file) ((bytes_decides name name).1 refl)

  -- lines go last
  clauses_file : (steps : List Step) (held : List ℕ) → file_after (map (clause_write name) steps) name (Some held) ≡ Some (held ++ proof_text (map step_clause steps))
  clauses_file [] held = ap Some (sym (append-nil held))
  clauses_file (s ∷ steps) held =
      let line = clause_line (step_clause s) in
      ap (file_after (map (clause_write name) steps) name) (append_here held line) ∙ clauses_file steps (held ++ line)
      ∙ ap Some (append_assoc held line (proof_text (map step_clause steps)) ∙ ap (λ t. held ++ t) (sym (flat_map-cons clause_line (step_clause s) (map step_clause steps))))

  -- a proof is whole once it was written
  proof_file : (steps : List Step) (file : Option (List ℕ)) → file_after (proof_script name (Some steps)) name file ≡ Some (proof_text (map step_clause steps))
  proof_file steps file = ap (file_after (map (clause_write name) steps) name) (create_here file) ∙ clauses_file steps []

  module _ (p : Contents) (run : Run) where
    -- a put changes no file
    before_put : (file : Option (List ℕ)) → file_after (cnf_script p name run) name file ≡ file_after (proof_script name (refutation_at run.end run.net.steps)) name file
    before_put file = file_after-append (proof_script name (refutation_at run.end run.net.steps)) (Put (cnf_text p run) ∷ []) name file

    refuted_file : (end : End) (steps : List Step) (file : Option (List ℕ)) → end_status end ≡ No → file_after (proof_script name (refutation_at end steps)) name file ≡ Some (proof_text (map step_clause steps))
    refuted_file Refuted steps file e = proof_file steps file
    refuted_file Solved steps file e = absurd cc
    refuted_file Capped steps file e = absurd cc
    refuted_file Spent steps file e = absurd cc

    other_file : (end : End) (steps : List Step) (file : Option (List ℕ)) → (end_status end ≡ No → ⊥) → file_after (proof_script name (refutation_at end steps)) name file ≡ file
    other_file Refuted steps file n = absurd (n refl)
    other_file Solved steps file n = refl
    other_file Capped steps file n = refl
    other_file Spent steps file n = refl

writes_proof : (p : Contents) (seed : ℕ) (name : List ℕ) (status : Status) → status ≡ end_status (cnf_run p seed).end → (files now : List ℕ → Option (List ℕ)) → FilesAfter (cnf_script p name (cnf_run p seed)) files now → WritesProof p seed name status files now
writes_proof p seed name status is files now after =
    let run = cnf_run p seed in
    record {
      written = λ says. after name ∙ before_put name p run (files name) ∙ refuted_file name p run run.end run.net.steps (files name) (sym is ∙ says);
      unwritten = λ other. after name ∙ before_put name p run (files name) ∙ other_file name p run run.end run.net.steps (files name) (λ e. other (is ∙ e));
      others = λ other unlike. after other ∙ left_alone (cnf_script p name run) other (files other) (run_leaves p name other run (λ e. unlike (sym e)));
    }

module _ (c name : List ℕ) (seed : ℕ) (problem : Contents) (status : Status) (is : status ≡ end_status (cnf_run problem seed).end) where
  told_proof : (files now : Option (List ℕ → Option (List ℕ))) → (text : List ℕ) × IsHeld files c text × IsFormulaOf text problem → Told files now (FilesAfter (cnf_script problem name (cnf_run problem seed))) → HoldsProof c name seed status files now
  told_proof None None h t = tt
  told_proof None (Some now) h t = t
  told_proof (Some files) None h t = t
  told_proof (Some files) (Some now) h t = λ other i.
      subst (λ x. WritesProof x seed name status files now) (one_formula (bytes_of (files c)) problem other (subst (λ m. IsFormulaOf m problem) h.1 h.2) i) (writes_proof problem seed name status is files now t)

  -- in a folder that told the same when the formula was read
  pub holds_proof : (files : Option (List ℕ → Option (List ℕ))) (q : Place) (out : Stream) (w : World) → q.held ≡ files → (text : List ℕ) × IsHeld files c text × IsFormulaOf text problem → Wrote (cnf_script problem name (cnf_run problem seed)) (outside q out) w (Ok status) → HoldsProof c name seed status files w.folder.held
  holds_proof files q out w same h wrote =
      told_proof files w.folder.held h (subst (λ f. Told f w.folder.held (FilesAfter (cnf_script problem name (cnf_run problem seed)))) same wrote.ended.after.files)
