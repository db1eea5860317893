use Rattle.line_solve.proofs.answer.put_found.Goals as goal

pub returns-in-Solved : goal.returns-in-Solved
returns-in-Solved g c = λ folder. rw (c.if-not-each.false, c.in-Solved.is, ← c.items.ensures) (c.put_solution.ensures folder)
