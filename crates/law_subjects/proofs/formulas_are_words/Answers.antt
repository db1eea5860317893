use Rattle.law_subjects.proofs.Formulas.{texts_are_words}
use Rattle.law_subjects.proofs.Refusals.{gaps_are_ignored, each_has_answer}
use Rattle.law_subjects.proofs.Clauses.{formulas_say_clauses}
use Rattle.law_subjects.proofs.formulas_are_words.Goals as goal

pub returns-clause-words : goal.returns-clause-words
returns-clause-words c = texts_are_words

pub returns-clause-gaps : goal.returns-clause-gaps
returns-clause-gaps c = gaps_are_ignored

pub returns-clause-answers : goal.returns-clause-answers
returns-clause-answers c = each_has_answer

pub returns-clause-clauses : goal.returns-clause-clauses
returns-clause-clauses c = formulas_say_clauses
