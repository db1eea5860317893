use Rattle.line_measure.proofs.Lawful.{measure_lawful, survey_lawful}
use Rattle.line_measure.proofs.laws.measures_are_lawful.Goals as goal

pub returns-clause-measure : goal.returns-clause-measure
returns-clause-measure c = measure_lawful

pub returns-clause-survey : goal.returns-clause-survey
returns-clause-survey c = survey_lawful
