use Rattle.law_subjects.proofs.GeneratedSolutions.{queens_are_placed, colourings_are_proper, pigeons_do_not_fit, sparse_graphs_are_coloured, six_queens_are_placed}
use Rattle.law_subjects.proofs.MeetingSolutions.{meetings_are_timetables}
use Rattle.law_subjects.proofs.SensorSolutions.{sensors_track_targets}
use Rattle.law_subjects.proofs.generated_solutions.Goals as goal

pub returns-clause-queens : goal.returns-clause-queens
returns-clause-queens c = queens_are_placed

pub returns-clause-colourings : goal.returns-clause-colourings
returns-clause-colourings c = colourings_are_proper

pub returns-clause-pigeons : goal.returns-clause-pigeons
returns-clause-pigeons c = pigeons_do_not_fit

pub returns-clause-sparse : goal.returns-clause-sparse
returns-clause-sparse c = sparse_graphs_are_coloured

pub returns-clause-six_queens : goal.returns-clause-six_queens
returns-clause-six_queens c = six_queens_are_placed

pub returns-clause-meetings : goal.returns-clause-meetings
returns-clause-meetings c = meetings_are_timetables

pub returns-clause-sensors : goal.returns-clause-sensors
returns-clause-sensors c = sensors_track_targets
