use Rattle.abt_schedule.specs.Answers.{generator_of, word_at}
use Rattle.dcsp_gen.specs.Binary.{binary_text}
use Rattle.dcsp_gen.specs.Meetings.{meetings_text}
use Rattle.dcsp_gen.specs.Sensors.{sensors_text}
use Rattle.dcsp_gen.specs.Problems.{queens_text, colouring_text, sparse_text, pigeons_text}
use Rattle.line_model.proofs.Lawful.{print_lawful, bound_lawful, order_lawful}
use Rattle.line_model.proofs.laws.promises_are_lawful.Goals as goal

pub returns-clause-bound : goal.returns-clause-bound
returns-clause-bound c = bound_lawful

pub returns-clause-order : goal.returns-clause-order
returns-clause-order c = order_lawful

pub returns-clause-queens : goal.returns-clause-queens
returns-clause-queens c = λ n. print_lawful (queens_text n)

pub returns-clause-colouring : goal.returns-clause-colouring
returns-clause-colouring c = λ n k seed. print_lawful (colouring_text n k (word_at (generator_of seed)))

pub returns-clause-sparse : goal.returns-clause-sparse
returns-clause-sparse c = λ n seed. print_lawful (sparse_text n (word_at (generator_of seed)))

pub returns-clause-pigeons : goal.returns-clause-pigeons
returns-clause-pigeons c = λ n. print_lawful (pigeons_text n)

pub returns-clause-binary : goal.returns-clause-binary
returns-clause-binary c = λ n d edges forbidden seed. print_lawful (binary_text n d edges forbidden (word_at (generator_of seed)))

pub returns-clause-meetings : goal.returns-clause-meetings
returns-clause-meetings c = λ people meetings each hours busy seed. print_lawful (meetings_text people meetings each hours busy (word_at (generator_of seed)))

pub returns-clause-sensors : goal.returns-clause-sensors
returns-clause-sensors c = λ side targets sees seed. print_lawful (sensors_text side targets sees (word_at (generator_of seed)))
