use Rattle.abt_session.proofs.lines.append_begun.Goals as goal

pub returns-in-Refuted-clause-wrote : goal.returns-in-Refuted-clause-wrote
returns-in-Refuted-clause-wrote g c = λ out. rw c.in-Refuted.is (c.append_step.ensures.wrote out)
