use Rattle.std.proofs.Common.{refl, map}
use Rattle.std.specs.Prelude.{string_bytes}
use Rattle.abt_words.specs.Values.{said_in}
use Rattle.abt_command.proofs.Lines.{is_line, no_line, some_order}
use Rattle.abt_command.proofs.request.words_of.Goals as goal

pub returns-in_err-said-clause-none : goal.returns-in_err-said-clause-none
returns-in_err-said-clause-none c = λ none line is. c.in_err-said.ensures.none refl is.said is.is_said

pub returns-clause-some : goal.returns-clause-some
returns-clause-some c = some_order c.request_of.result (λ request h. is_line (map string_bytes c.args.words.now) (said_in c.in_ok-said.said) request c.in_ok-said.ensures.some h) c.request_of.ensures.some

pub returns-clause-none : goal.returns-clause-none
returns-clause-none c = λ none. no_line (map string_bytes c.args.words.now) (said_in c.in_ok-said.said) c.in_ok-said.ensures.some (c.request_of.ensures.none none)
