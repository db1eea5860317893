-- The lines of a row's clauses, written one by one.
use Rattle.std.proofs.Common.{◌≡◌, ℕ, ◌+◌, ◌<◌, ◌≤◌, List, [], ◌∷◌, ◌++◌, length, get_or, drop, codes, Option, Some, None, Result, Ok, Err, refl, sym, ap, subst, ◌∙◌, append-nil, drop-cons, add-one}
use Rattle.std.specs.Prelude.{ℤ, pos, Contains, flat_map, IsErr, IsErrAnd}
use Rattle.std.specs.Option.{option_map}
use Rattle.std.proofs.lemmas.List.{drop_all}
use Rattle.std.proofs.lemmas.List.Concat.{flat_map-cons}
use Rattle.std.proofs.lemmas.Grind.{flat_map-append}
use Rattle.dcsp_defs.specs.declared.Step.{Step}
use Rattle.dcsp_outside.specs.Outside.{Place, Stream}
use Rattle.dcsp_script.specs.declared.stop.Stop.{Stop}
use Rattle.dcsp_script.specs.declared.stop.Stop.TheVariants.{Memory}
use Rattle.dcsp_script.specs.Scripts.{Write, Create, Append, World, outside}
use Rattle.dcsp_script.specs.Ways.{Wrote}
use Rattle.dcsp_script.specs.Left.{HasLeft}
use Rattle.dcsp_script.proofs.Left.{left_all, left_more, left_stopped, left_ends}
use Rattle.dcsp_script.proofs.Lines.{wrote_nothing}
use Rattle.abt_session.proofs.Pieces.{memory_told}
use Rattle.rup_check.specs.ProofText.{clause_line, literal_text}
use Rattle.line_cnf.specs.ClauseRows.{clause_writes, clauses_in, clauses_behind, steps_row}
use Rattle.line_cnf.specs.CnfRuns.{proof_script}
use Rattle.line_cnf.proofs.ClauseRows.{goes_on, ends_clause, none_behind, row_written}

-- one literal more is in a line
line_more : (literals : List ℤ) (z : ℤ) → flat_map literal_text (literals ++ z ∷ []) ≡ flat_map literal_text literals ++ literal_text z
line_more literals z = flat_map-append literal_text literals (z ∷ []) ∙ ap (λ t. flat_map literal_text literals ++ t) (flat_map-cons literal_text z [] ∙ append-nil (literal_text z))

module _ (name : List ℕ) (row : List ℤ) where
  -- A row was read so far: the line has the literals of the clause that was begun, and the lines from that clause's on are left.
  pub record ReadsTo (i : ℕ) (line : List ℕ) (old new : Place) : Type 0 where
    pub begun : List ℤ
    pub line_is : line ≡ flat_map literal_text begun
    pub left : (out : Stream) → HasLeft (clause_writes name (clauses_in row)) (clause_writes name (clauses_behind begun (drop i row))) (outside old out) (outside new out)
    pub created : Contains new.created name

  pub reads_none : (line : List ℕ) (place : Place) → line ≡ [] → Contains place.created name → ReadsTo 0 line place place
  reads_none line place e there = record { begun = []; line_is = e; left = λ out. left_all (clause_writes name (clauses_in row)) (outside place out); created = there }

  module _ (i : ℕ) (line : List ℕ) (old new : Place) (h : ReadsTo i line old new) where
    module _ (d z : ℤ) (within : i < length row) (is : z ≡ get_or row i d) where
      first : drop i row ≡ z ∷ drop (i + 1) row
      first = drop-cons row i d within ∙ ap (λ n. get_or row i d ∷ drop n row) (sym (add-one i)) ∙ ap (λ y. y ∷ drop (i + 1) row) (sym is)

      -- a literal goes to the line
      pub reads_literal : (z ≡ pos 0 → ⊥) → (later : List ℕ) → later ≡ line ++ literal_text z → ReadsTo (i + 1) later old new
      reads_literal other later e = record {
        begun = h.begun ++ z ∷ [];
        line_is = e ∙ ap (λ t. t ++ literal_text z) h.line_is ∙ sym (line_more h.begun z);
        left = λ out.
            subst (λ (rest : List (List ℤ)). HasLeft (clause_writes name (clauses_in row)) (clause_writes name rest) (outside old out) (outside new out))
            (ap (clauses_behind h.begun) first ∙ goes_on h.begun (drop (i + 1) row) z other) (h.left out);
        created = h.created;
      }

      module _ (zero_is : z ≡ pos 0) where
        line_left : clause_writes name (clauses_behind h.begun (drop i row)) ≡ (Append name (clause_line h.begun) ∷ []) ++ clause_writes name (clauses_in (drop (i + 1) row))
        line_left = ap (λ l. clause_writes name (clauses_behind h.begun l)) first ∙ ap (clause_writes name) (ends_clause h.begun (drop (i + 1) row) z zero_is)

        line_here : Append name (line ++ codes "0\n") ∷ [] ≡ Append name (clause_line h.begun) ∷ []
        line_here = ap (λ t. Append name (t ++ codes "0\n") ∷ []) h.line_is

        -- 0 has the line appended
        pub reads_end : {T : Type 0} {x : T} (later : List ℕ) (then : Place) → later ≡ [] → then.created ≡ new.created
            → ((out : Stream) → Wrote {T = T} (Append name (line ++ codes "0\n") ∷ []) (outside new out) (outside then out) (Ok x)) → ReadsTo (i + 1) later old then
        reads_end {T} {x} later then e same wrote = record {
          begun = [];
          line_is = e;
          left = λ out. left_more (clause_writes name (clauses_behind h.begun (drop i row))) line_left (h.left out)
              (subst (λ (l : List Write). Wrote {T = T} l (outside new out) (outside then out) (Ok x)) line_here (wrote out));
          created = subst (λ names. Contains names name) (sym same) h.created;
        }

        -- or is stopped in it
        pub reads_stopped : {T U : Type 0} {e : Stop} (then : Place) (r : Result U Stop) → IsErr r × IsErrAnd r (λ y. y ≡ e) → (out : Stream)
            → Wrote {T = T} (Append name (line ++ codes "0\n") ∷ []) (outside new out) (outside then out) (Err e) → Wrote (clause_writes name (clauses_in row)) (outside old out) (outside then out) r
        reads_stopped {T} {U} {e} then r err out wrote =
            left_stopped (clause_writes name (clauses_in (drop (i + 1) row))) (clause_writes name (clauses_behind h.begun (drop i row))) r line_left err (h.left out)
            (subst (λ (l : List Write). Wrote {T = T} l (outside new out) (outside then out) (Err e)) line_here wrote)

    -- memory is wanted
    pub reads_lacking : {U : Type 0} (r : Result U Stop) → IsErr r × IsErrAnd r (λ y. y ≡ Memory) → (out : Stream) → Wrote (clause_writes name (clauses_in row)) (outside old out) (outside new out) r
    reads_lacking r err out = left_ends (clause_writes name (clauses_behind h.begun (drop i row))) refl (h.left out) (memory_told (clause_writes name (clauses_behind h.begun (drop i row))) (outside new out) r err)

    -- all is read
    pub reads_all : {T : Type 0} (x : T) → length row ≤ i → (out : Stream) → Wrote (clause_writes name (clauses_in row)) (outside old out) (outside new out) (Ok x)
    reads_all x over out =
        left_ends (clause_writes name (clauses_behind h.begun (drop i row))) (ap (λ l. clause_writes name (clauses_behind h.begun l)) (drop_all i row over) ∙ ap (clause_writes name) (none_behind h.begun)) (h.left out) wrote_nothing

-- ---- the whole proof

-- where there are no steps, nothing is written
pub writes_none : {T : Type 0} (name : List ℕ) (steps : Option (List Step)) (a : World) (x : T) → option_map steps_row steps ≡ None → Wrote (proof_script name steps) a a (Ok x)
writes_none name None a x e = wrote_nothing
writes_none name (Some l) a x e = absurd cc

-- the name is created, and the lines of their row are appended
pub writes_row : (name : List ℕ) (steps : Option (List Step)) (row : List ℤ) → option_map steps_row steps ≡ Some row → Create name ∷ clause_writes name (clauses_in row) ≡ proof_script name steps
writes_row name None row e = absurd cc
writes_row name (Some l) row e = let same : row ≡ steps_row l = cc in ap (λ (r : List ℤ). Create name ∷ clause_writes name (clauses_in r)) same ∙ ap (λ (t : List Write). Create name ∷ t) (row_written name l)
