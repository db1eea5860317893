use Rattle.abt_session.proofs.lines.append_made.Goals as goal

pub returns-in-Some-clause-wrote : goal.returns-in-Some-clause-wrote
returns-in-Some-clause-wrote g c = λ out. rw c.in-Some.is (c.append_step.ensures.wrote out)
