-- Parts of lines that the code pushes.
use Rattle.std.specs.Prelude.{ℕ, List, ◌++◌, codes, decimal}
use Rattle.abt_story.specs.declared.texts.StepFact.{StepFact}
use Rattle.abt_story.specs.declared.texts.StepFact.TheVariants as facts
use Rattle.abt_story.specs.declared.texts.Who.{Who}
use Rattle.abt_story.specs.Facts.{Fact, Forgets, Keeps, Declines, Makes}
use Rattle.abt_story.specs.Texts.{agent_text}

-- what the lines of an agent begin with
abbrev pub who_head : Who → List ℕ
who_head who = decimal who.event ++ codes " " ++ agent_text who.agent

-- the word before a step's number
abbrev pub word_of : StepFact → List ℕ
word_of facts.Forgets = codes " forgets n"
word_of facts.Keeps = codes " keeps n"
word_of facts.Declines = codes " refuses n"
word_of facts.Makes = codes " makes n"

-- the fact that has it
abbrev pub step_fact : StepFact → ℕ → Fact
step_fact facts.Forgets step = Forgets step
step_fact facts.Keeps step = Keeps step
step_fact facts.Declines step = Declines step
step_fact facts.Makes step = Makes step
