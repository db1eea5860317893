use Rattle.std.proofs.Common.{refl}
use Rattle.abt_words.specs.declared.rows.LineName.TheVariants as names
use Rattle.abt_words.specs.Values.{said_in}
use Rattle.abt_command.proofs.Lines.{at_least, at_most}
use Rattle.abt_command.proofs.request.request_of.Goals as goal

pub starve_of-requires-clause-from : goal.starve_of-requires-clause-from
starve_of-requires-clause-from c = at_most c.requires.0 (said_in c.args.said.now) c.requires.1 names.Starve c.in-Starve.is 1 _ 1 4096 refl refl

pub starve_of-requires-clause-to : goal.starve_of-requires-clause-to
starve_of-requires-clause-to c = at_most c.requires.0 (said_in c.args.said.now) c.requires.1 names.Starve c.in-Starve.is 2 _ 1 4096 refl refl

pub lossy_of-requires : goal.lossy_of-requires
lossy_of-requires c = at_most c.requires.0 (said_in c.args.said.now) c.requires.1 names.Lossy c.in-Lossy.is 2 _ 0 1000000 refl refl

pub queens_of-requires : goal.queens_of-requires
queens_of-requires c = at_most c.requires.0 (said_in c.args.said.now) c.requires.1 names.Queens c.in-Queens.is 0 _ 1 200 refl refl

pub colouring_of-requires-clause-nodes : goal.colouring_of-requires-clause-nodes
colouring_of-requires-clause-nodes c = at_most c.requires.0 (said_in c.args.said.now) c.requires.1 names.Colouring c.in-Colouring.is 0 _ 1 200 refl refl

pub colouring_of-requires-clause-colours : goal.colouring_of-requires-clause-colours
colouring_of-requires-clause-colours c = at_most c.requires.0 (said_in c.args.said.now) c.requires.1 names.Colouring c.in-Colouring.is 1 _ 1 16 refl refl

pub sparse_of-requires : goal.sparse_of-requires
sparse_of-requires c = at_most c.requires.0 (said_in c.args.said.now) c.requires.1 names.Sparse c.in-Sparse.is 0 _ 1 4096 refl refl

pub pigeons_of-requires : goal.pigeons_of-requires
pigeons_of-requires c = at_most c.requires.0 (said_in c.args.said.now) c.requires.1 names.Pigeons c.in-Pigeons.is 0 _ 2 200 refl refl

pub survey_of-requires : goal.survey_of-requires
survey_of-requires c = at_least c.requires.0 (said_in c.args.said.now) c.requires.1 names.Survey c.in-Survey.is 1 _ 1 1000000 refl refl

pub binary_of-requires-clause-variables : goal.binary_of-requires-clause-variables
binary_of-requires-clause-variables c = (
  at_least c.requires.0 (said_in c.args.said.now) c.requires.1 names.Binary c.in-Binary.is 0 _ 1 200 refl refl,
  at_most c.requires.0 (said_in c.args.said.now) c.requires.1 names.Binary c.in-Binary.is 0 _ 1 200 refl refl,
)

pub binary_of-requires-clause-values : goal.binary_of-requires-clause-values
binary_of-requires-clause-values c = at_most c.requires.0 (said_in c.args.said.now) c.requires.1 names.Binary c.in-Binary.is 1 _ 1 100 refl refl

pub binary_of-requires-clause-edges : goal.binary_of-requires-clause-edges
binary_of-requires-clause-edges c = at_most c.requires.0 (said_in c.args.said.now) c.requires.1 names.Binary c.in-Binary.is 2 _ 0 19900 refl refl

pub binary_of-requires-clause-forbidden : goal.binary_of-requires-clause-forbidden
binary_of-requires-clause-forbidden c = at_most c.requires.0 (said_in c.args.said.now) c.requires.1 names.Binary c.in-Binary.is 3 _ 0 10000 refl refl

pub meetings_of-requires-clause-people : goal.meetings_of-requires-clause-people
meetings_of-requires-clause-people c = at_most c.requires.0 (said_in c.args.said.now) c.requires.1 names.Meetings c.in-Meetings.is 0 _ 1 64 refl refl

pub meetings_of-requires-clause-meetings : goal.meetings_of-requires-clause-meetings
meetings_of-requires-clause-meetings c = at_most c.requires.0 (said_in c.args.said.now) c.requires.1 names.Meetings c.in-Meetings.is 1 _ 1 64 refl refl

pub meetings_of-requires-clause-each : goal.meetings_of-requires-clause-each
meetings_of-requires-clause-each c = at_most c.requires.0 (said_in c.args.said.now) c.requires.1 names.Meetings c.in-Meetings.is 2 _ 1 64 refl refl

pub meetings_of-requires-clause-hours : goal.meetings_of-requires-clause-hours
meetings_of-requires-clause-hours c = at_most c.requires.0 (said_in c.args.said.now) c.requires.1 names.Meetings c.in-Meetings.is 3 _ 1 100 refl refl

pub meetings_of-requires-clause-busy : goal.meetings_of-requires-clause-busy
meetings_of-requires-clause-busy c = at_most c.requires.0 (said_in c.args.said.now) c.requires.1 names.Meetings c.in-Meetings.is 4 _ 0 99 refl refl

pub sensors_of-requires-clause-side : goal.sensors_of-requires-clause-side
sensors_of-requires-clause-side c = at_most c.requires.0 (said_in c.args.said.now) c.requires.1 names.Sensors c.in-Sensors.is 0 _ 2 16 refl refl

pub sensors_of-requires-clause-targets : goal.sensors_of-requires-clause-targets
sensors_of-requires-clause-targets c = at_most c.requires.0 (said_in c.args.said.now) c.requires.1 names.Sensors c.in-Sensors.is 1 _ 1 32 refl refl

pub sensors_of-requires-clause-sees : goal.sensors_of-requires-clause-sees
sensors_of-requires-clause-sees c = at_most c.requires.0 (said_in c.args.said.now) c.requires.1 names.Sensors c.in-Sensors.is 2 _ 3 256 refl refl
