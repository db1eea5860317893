-- The generated texts have problems.
use Rattle.std.proofs.Common.{◌≡◌, ℕ, List, codes, Result, Ok, Err, sym, subst, arith}
use Rattle.std.specs.Prelude.{IfOk}
use Rattle.std.specs.declared.vec.Vec.{Vec}
use Rattle.std.specs.declared.alloc.Global.{Global}
use Rattle.std.specs.declared.alloc.AllocError.{AllocError as Memory}
use Rattle.dcsp_gen.specs.Problems.{sparse_text, queens_text, pigeons_text}
use Rattle.fzn_token.specs.declared.refusal.Refusal.{Refusal}
use Rattle.fzn_model.specs.Models.{Answers}
use Rattle.fzn_model.proofs.Once.{once}
use Rattle.law_subjects.specs.Lines.{queens, sparse, pigeons}
use Rattle.law_subjects.specs.Problems.{problem_of}
use Rattle.law_subjects.proofs.Lengths.{are_short}
use Rattle.law_subjects.proofs.Texts.{queens_have_problem, sparse_has_problem, pigeons_have_problem}
use Rattle.abt_input.specs.Inputs.{IsModelOf}
use Rattle.line_drill.specs.Drills.{HasProblem}

pub its_queens : IsModelOf (queens_text 6) (problem_of (codes "q") (queens 6))
its_queens = record { short = are_short.queens_are 6 (omega arith) (omega arith); reads = queens_have_problem 6 (omega arith) (omega arith) }

pub its_pigeons : IsModelOf (pigeons_text 5) (problem_of (codes "p") (pigeons 5))
its_pigeons = record { short = are_short.pigeons_are 5 (omega arith) (omega arith); reads = pigeons_have_problem 5 (omega arith) (omega arith) }

pub its_sparse : (words : ℕ → ℕ) → IsModelOf (sparse_text 500 words) (problem_of (codes "c") (sparse 500 words))
its_sparse words = record { short = are_short.sparse_is 500 words (omega arith) (omega arith); reads = sparse_has_problem 500 words (omega arith) (omega arith) }

-- a text that was made as one that has a problem has that
pub has_problem : (text : List ℕ) (r : Result (Vec ℕ Global) Memory) → HasProblem text → IfOk r (λ bytes. bytes.items ≡ text) → IfOk r (λ bytes. HasProblem bytes.items)
has_problem text (Ok bytes) has same = subst HasProblem (sym same) has
has_problem text (Err e) has same = tt

-- a text that has a problem is not refused
pub not_refused : {text : List ℕ} {refusal : Refusal} → HasProblem text → Answers text (Err refusal) → ⊥
not_refused {text} {refusal} has refused = let e = once text (Ok has.0) (Err refusal) has.1.reads refused in cc
