-- What the lines promise that print a generated model.
use Rattle.std.specs.Prelude.{ℕ, List, [], ◌∷◌}
use Rattle.dcsp_script.specs.Scripts.{Put}
use Rattle.dcsp_script.specs.declared.status.Status.TheVariants.{Good}
use Rattle.dcsp_script.specs.Promises.{Promise}
use Rattle.abt_input.specs.Plans.{Plan, Answer, promise_by}
use Rattle.abt_schedule.specs.Answers.{generator_of, word_at}
use Rattle.dcsp_gen.specs.Binary.{binary_text}
use Rattle.dcsp_gen.specs.Meetings.{meetings_text}
use Rattle.dcsp_gen.specs.Sensors.{sensors_text}
use Rattle.dcsp_gen.specs.Problems.{queens_text, colouring_text, sparse_text, pigeons_text}

-- a line that puts one text on `out`
abbrev pub print_plan : List ℕ → Plan
print_plan text = Answer Good (Put text ∷ [])

-- its promise: it reads and creates nothing
abbrev pub print_promise : List ℕ → Promise
print_promise text = promise_by [] [] (print_plan text)

-- `gen queens N`
abbrev pub queens_promise : ℕ → Promise
queens_promise n = print_promise (queens_text n)

-- `gen colouring N K SEED`
abbrev pub colouring_promise : ℕ → ℕ → ℕ → Promise
colouring_promise n k seed = print_promise (colouring_text n k (word_at (generator_of seed)))

-- `gen sparse N SEED`
abbrev pub sparse_promise : ℕ → ℕ → Promise
sparse_promise n seed = print_promise (sparse_text n (word_at (generator_of seed)))

-- `gen pigeons N`
abbrev pub pigeons_promise : ℕ → Promise
pigeons_promise n = print_promise (pigeons_text n)

-- `gen binary N D EDGES PAIRS SEED`
abbrev pub binary_promise : ℕ → ℕ → ℕ → ℕ → ℕ → Promise
binary_promise n d edges forbidden seed = print_promise (binary_text n d edges forbidden (word_at (generator_of seed)))

-- `gen meetings PEOPLE MEETINGS EACH HOURS BUSY SEED`
abbrev pub meetings_promise : ℕ → ℕ → ℕ → ℕ → ℕ → ℕ → Promise
meetings_promise people meetings each hours busy seed = print_promise (meetings_text people meetings each hours busy (word_at (generator_of seed)))

-- `gen sensors SIDE TARGETS SEES SEED`
abbrev pub sensors_promise : ℕ → ℕ → ℕ → ℕ → Promise
sensors_promise side targets sees seed = print_promise (sensors_text side targets sees (word_at (generator_of seed)))
