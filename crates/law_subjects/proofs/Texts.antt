-- Generated texts have the problems of their lines.
use Rattle.std.proofs.Common.{◌≡◌, ℕ, ◌≤◌, inr, List, Ok, codes, refl, sym, subst, arith}
use Rattle.std.specs.List.{AllByRecursion}
use Rattle.dcsp_gen.specs.Binary.{binary_text}
use Rattle.dcsp_gen.specs.Problems.{queens_text, colouring_text, sparse_text, pigeons_text}
use Rattle.fzn_model.specs.Models.{Answers}
use Rattle.law_subjects.specs.Lines.{ModelLine, queens, colouring, sparse, pigeons, binary}
use Rattle.law_subjects.specs.Laws.{IsSmallLetter, HasSmallNumbers, lines_text, AreRead}
use Rattle.law_subjects.proofs.WholeItems.{lines_are_read}
use Rattle.law_subjects.proofs.ItemTexts.{texts_are_lines}
use Rattle.law_subjects.proofs.ItemLimits.{numbers_are_small}
use Rattle.law_subjects.specs.Problems.{problem_of}
use Rattle.law_subjects.specs.Generated.{Resolve, QueensHaveProblem, ColouringHasProblem, SparseHasProblem, PigeonsHaveProblem, BinaryHasProblem, HasProblem}
use Rattle.law_subjects.proofs.Generators.{generated_lines_resolve}

-- a text whose items resolve has their problem
answered : (letter : List ℕ) (lines : List ModelLine) → AreRead letter lines → Resolve letter lines → Answers (lines_text letter lines) (Ok (problem_of letter lines))
answered letter lines read resolve = inr (inr (record {
  tokens = read.tokens;
  items = read.items;
  lexed = read.lexed;
  read = read.parsed;
  result_is = sym (resolve (lines_text letter lines) read.items read.said);
}))

queens_letter : IsSmallLetter (codes "q")
queens_letter = record { byte = 113; low = omega arith; high = omega arith; letter_is = refl }

graph_letter : IsSmallLetter (codes "c")
graph_letter = record { byte = 99; low = omega arith; high = omega arith; letter_is = refl }

pigeons_letter : IsSmallLetter (codes "p")
pigeons_letter = record { byte = 112; low = omega arith; high = omega arith; letter_is = refl }

text_answered : (letter : List ℕ) (text : List ℕ) (lines : List ModelLine) → IsSmallLetter letter → AllByRecursion HasSmallNumbers lines → text ≡ lines_text letter lines → Resolve letter lines
    → Answers text (Ok (problem_of letter lines))
text_answered letter text lines small within is resolve =
    subst (λ (bytes : List ℕ). Answers bytes (Ok (problem_of letter lines))) (sym is) (answered letter lines (lines_are_read letter lines small within) resolve)

pub queens_have_problem : QueensHaveProblem
queens_have_problem n some few = text_answered (codes "q") (queens_text n) (queens n) queens_letter (numbers_are_small.queens_are n some few) (texts_are_lines.queens_are n) (generated_lines_resolve.queens_do n some few)

pub colouring_has_problem : ColouringHasProblem
colouring_has_problem n k words some few coloured low =
    text_answered (codes "c") (colouring_text n k words) (colouring n k words) graph_letter (numbers_are_small.colouring_is n k words some few coloured low) (texts_are_lines.colouring_is n k words) (generated_lines_resolve.colouring_does n k words some few coloured low)

pub sparse_has_problem : SparseHasProblem
sparse_has_problem n words some few =
    text_answered (codes "c") (sparse_text n words) (sparse n words) graph_letter (numbers_are_small.sparse_is n words some few) (texts_are_lines.sparse_is n words) (generated_lines_resolve.sparse_does n words some few)

pub pigeons_have_problem : PigeonsHaveProblem
pigeons_have_problem n some few = text_answered (codes "p") (pigeons_text n) (pigeons n) pigeons_letter (numbers_are_small.pigeons_are n some few) (texts_are_lines.pigeons_are n) (generated_lines_resolve.pigeons_do n some few)

values_letter : IsSmallLetter (codes "x")
values_letter = record { byte = 120; low = omega arith; high = omega arith; letter_is = refl }

pub binary_has_problem : BinaryHasProblem
binary_has_problem n d edges forbidden words sizes =
    text_answered (codes "x") (binary_text n d edges forbidden words) (binary n d edges forbidden words) values_letter
    (numbers_are_small.binary_is n d edges forbidden words sizes.some_variables sizes.variables sizes.some_values sizes.values) (texts_are_lines.binary_is n d edges forbidden words)
    (generated_lines_resolve.binary_does n d edges forbidden words sizes)

queens_do : (n : ℕ) → 1 ≤ n → n ≤ 200 → HasProblem (queens_text n)
queens_do n some few = (problem_of (codes "q") (queens n), queens_have_problem n some few)

sparse_does : (n : ℕ) (words : ℕ → ℕ) → 1 ≤ n → n ≤ 4096 → HasProblem (sparse_text n words)
sparse_does n words some few = (problem_of (codes "c") (sparse n words), sparse_has_problem n words some few)

pigeons_do : (n : ℕ) → 2 ≤ n → n ≤ 200 → HasProblem (pigeons_text n)
pigeons_do n some few = (problem_of (codes "p") (pigeons n), pigeons_have_problem n some few)

pub six_queens : HasProblem (queens_text 6)
six_queens = queens_do 6 (omega arith) (omega arith)

pub five_pigeons : HasProblem (pigeons_text 5)
five_pigeons = pigeons_do 5 (omega arith) (omega arith)

pub five_hundred_nodes : (words : ℕ → ℕ) → HasProblem (sparse_text 500 words)
five_hundred_nodes words = sparse_does 500 words (omega arith) (omega arith)
