use Rattle.std.proofs.Common.{subst}
use Rattle.abt_command.specs.Lines.{IsSomeLine, line_of}
use Rattle.abt_command.proofs.Meanings.{always, always_both, good_alone, good_or_no, both_facts}
use Rattle.abt_command.proofs.Lines.{queens_within, colouring_within, sparse_within, pigeons_within, binary_within, meetings_within, sensors_within, solve_within, starve_within, survey_within}
use Rattle.abt_command.proofs.request.Request.run.Goals as goal

pub run_queens-requires-clause-least : goal.run_queens-requires-clause-least
run_queens-requires-clause-least g c = (queens_within _ (subst (λ o. IsSomeLine (line_of o)) c.in-GenQueens.is c.requires)).0

pub run_queens-requires-clause-most : goal.run_queens-requires-clause-most
run_queens-requires-clause-most g c = (queens_within _ (subst (λ o. IsSomeLine (line_of o)) c.in-GenQueens.is c.requires)).1

pub run_colouring-requires-clause-least : goal.run_colouring-requires-clause-least
run_colouring-requires-clause-least g c = (colouring_within _ _ _ (subst (λ o. IsSomeLine (line_of o)) c.in-GenColouring.is c.requires)).0

pub run_colouring-requires-clause-most : goal.run_colouring-requires-clause-most
run_colouring-requires-clause-most g c = (colouring_within _ _ _ (subst (λ o. IsSomeLine (line_of o)) c.in-GenColouring.is c.requires)).1

pub returns-in-GenQueens-clause-came : goal.returns-in-GenQueens-clause-came
returns-in-GenQueens-clause-came g c = rw c.in-GenQueens.is (c.run_queens.ensures _)

pub returns-in-GenColouring-clause-came : goal.returns-in-GenColouring-clause-came
returns-in-GenColouring-clause-came g c = rw c.in-GenColouring.is (c.run_colouring.ensures _)

pub run_sparse-requires-clause-least : goal.run_sparse-requires-clause-least
run_sparse-requires-clause-least g c = (sparse_within _ _ (subst (λ o. IsSomeLine (line_of o)) c.in-GenSparse.is c.requires)).0

pub run_sparse-requires-clause-most : goal.run_sparse-requires-clause-most
run_sparse-requires-clause-most g c = (sparse_within _ _ (subst (λ o. IsSomeLine (line_of o)) c.in-GenSparse.is c.requires)).1

pub run_pigeons-requires-clause-least : goal.run_pigeons-requires-clause-least
run_pigeons-requires-clause-least g c = (pigeons_within _ (subst (λ o. IsSomeLine (line_of o)) c.in-GenPigeons.is c.requires)).0

pub run_pigeons-requires-clause-most : goal.run_pigeons-requires-clause-most
run_pigeons-requires-clause-most g c = (pigeons_within _ (subst (λ o. IsSomeLine (line_of o)) c.in-GenPigeons.is c.requires)).1

pub run_binary-requires-clause-variables : goal.run_binary-requires-clause-variables
run_binary-requires-clause-variables g c =
    let sizes = binary_within _ _ _ _ _ (subst (λ o. IsSomeLine (line_of o)) c.in-GenBinary.is c.requires) in
    (sizes.0, sizes.1)

pub run_binary-requires-clause-values : goal.run_binary-requires-clause-values
run_binary-requires-clause-values g c =
    let sizes = binary_within _ _ _ _ _ (subst (λ o. IsSomeLine (line_of o)) c.in-GenBinary.is c.requires) in
    (sizes.2, sizes.3)

pub returns-in-GenBinary-clause-came : goal.returns-in-GenBinary-clause-came
returns-in-GenBinary-clause-came g c = rw c.in-GenBinary.is (c.run_binary.ensures _)

pub run_meetings-requires-clause-people : goal.run_meetings-requires-clause-people
run_meetings-requires-clause-people g c = (meetings_within _ _ _ _ _ _ (subst (λ o. IsSomeLine (line_of o)) c.in-GenMeetings.is c.requires)).0

pub run_meetings-requires-clause-meetings : goal.run_meetings-requires-clause-meetings
run_meetings-requires-clause-meetings g c = (meetings_within _ _ _ _ _ _ (subst (λ o. IsSomeLine (line_of o)) c.in-GenMeetings.is c.requires)).1

pub run_meetings-requires-clause-hours : goal.run_meetings-requires-clause-hours
run_meetings-requires-clause-hours g c = (meetings_within _ _ _ _ _ _ (subst (λ o. IsSomeLine (line_of o)) c.in-GenMeetings.is c.requires)).2

pub returns-in-GenMeetings-clause-came : goal.returns-in-GenMeetings-clause-came
returns-in-GenMeetings-clause-came g c = rw c.in-GenMeetings.is (c.run_meetings.ensures _)

pub run_sensors-requires-clause-side : goal.run_sensors-requires-clause-side
run_sensors-requires-clause-side g c =
    let sizes = sensors_within _ _ _ _ (subst (λ o. IsSomeLine (line_of o)) c.in-GenSensors.is c.requires) in
    (sizes.0, sizes.1)

pub run_sensors-requires-clause-targets : goal.run_sensors-requires-clause-targets
run_sensors-requires-clause-targets g c = (sensors_within _ _ _ _ (subst (λ o. IsSomeLine (line_of o)) c.in-GenSensors.is c.requires)).2

pub returns-in-GenSensors-clause-came : goal.returns-in-GenSensors-clause-came
returns-in-GenSensors-clause-came g c = rw c.in-GenSensors.is (c.run_sensors.ensures _)

pub returns-in-GenSparse-clause-came : goal.returns-in-GenSparse-clause-came
returns-in-GenSparse-clause-came g c = rw c.in-GenSparse.is (c.run_sparse.ensures _)

pub returns-in-GenPigeons-clause-came : goal.returns-in-GenPigeons-clause-came
returns-in-GenPigeons-clause-came g c = rw c.in-GenPigeons.is (c.run_pigeons.ensures _)

pub returns-in-Drill-clause-came : goal.returns-in-Drill-clause-came
returns-in-Drill-clause-came g c = rw c.in-Drill.is (c.run_drill.ensures _)

pub returns-in-Check-clause-means : goal.returns-in-Check-clause-means
returns-in-Check-clause-means g c = rw c.in-Check.is (good_alone c.run_check.result c.run_check.ensures.verified)

pub run_solve-requires : goal.run_solve-requires
run_solve-requires g c = solve_within _ _ _ (subst (λ o. IsSomeLine (line_of o)) c.in-Solve.is c.requires)

pub returns-in-Solve-clause-means : goal.returns-in-Solve-clause-means
returns-in-Solve-clause-means g c = rw c.in-Solve.is (always _ c.run_solve.result c.run_solve.ensures.records)

pub returns-in-Rup-clause-means : goal.returns-in-Rup-clause-means
returns-in-Rup-clause-means g c = rw c.in-Rup.is (both_facts _ c.run_rup.result (λ s p q. record { exact = p; refutes = q }) c.run_rup.ensures.exact c.run_rup.ensures.refutes)

pub returns-in-Cnf-clause-means : goal.returns-in-Cnf-clause-means
returns-in-Cnf-clause-means g c = rw c.in-Cnf.is (both_facts _ c.run_cnf.result (λ s p q. record { means = p; writes = q }) c.run_cnf.ensures.means c.run_cnf.ensures.writes)

pub returns-in-Order-clause-means : goal.returns-in-Order-clause-means
returns-in-Order-clause-means g c = rw c.in-Order.is (always _ c.run_order.result c.run_order.ensures.writes)

pub returns-in-Upgrade-clause-means : goal.returns-in-Upgrade-clause-means
returns-in-Upgrade-clause-means g c = rw c.in-Upgrade.is (always _ c.run_upgrade.result c.run_upgrade.ensures.writes)

pub run_starve-requires-clause-from : goal.run_starve-requires-clause-from
run_starve-requires-clause-from g c = (starve_within _ _ _ _ _ (subst (λ o. IsSomeLine (line_of o)) c.in-Starve.is c.requires)).0

pub run_starve-requires-clause-to : goal.run_starve-requires-clause-to
run_starve-requires-clause-to g c = (starve_within _ _ _ _ _ (subst (λ o. IsSomeLine (line_of o)) c.in-Starve.is c.requires)).1

pub returns-in-Core-clause-means : goal.returns-in-Core-clause-means
returns-in-Core-clause-means g c = rw c.in-Core.is (good_or_no _ c.run_core.result (λ s p q. record { trims = p; rejects = q }) c.run_core.ensures.trims c.run_core.ensures.rejects)

pub returns-in-Export-clause-means : goal.returns-in-Export-clause-means
returns-in-Export-clause-means g c = rw c.in-Export.is (good_or_no _ c.run_export.result (λ s p q. λ unlike. record { exports = λ good. p good unlike; rejects = q }) c.run_export.ensures.exports c.run_export.ensures.rejects)

pub returns-in-Starve-clause-means : goal.returns-in-Starve-clause-means
returns-in-Starve-clause-means g c = rw c.in-Starve.is (always_both _ c.run_starve.result (λ p q. record { writes = p; tells = q }) c.run_starve.ensures.writes c.run_starve.ensures.tells)

pub returns-in-Story-clause-means : goal.returns-in-Story-clause-means
returns-in-Story-clause-means g c = rw c.in-Story.is (always _ c.run_story.result c.run_story.ensures.writes)

pub run_survey-requires : goal.run_survey-requires
run_survey-requires g c = survey_within _ _ _ _ (subst (λ o. IsSomeLine (line_of o)) c.in-Survey.is c.requires)
