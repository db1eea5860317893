use Rattle.std.proofs.Common.{◌≡◌, List, ℕ, refl, sym, subst}
use Rattle.ngd_log.specs.Pieces.{Kept, kept, fault_of, IsFed}
use Rattle.ngd_log.specs.declared.log.LogError.TheVariants.{Line, Memory}
use Rattle.ngd_log.proofs.Fed.{tells_ok, tells_err, end_log, end_line, accepts_at_end, refuses_at_end, memory_at_end, memory_before}
use Rattle.ngd_log.proofs.pieces.LogReader.finish.Goals as goal

-- the reader, by its fields
inside : (body now : Kept) (text : List ℕ) → body ≡ now → IsFed now text → IsFed body text
inside body now text e h = subst (λ (r : Kept). IsFed r text) (sym e) h

pub returns-clause-log : goal.returns-clause-log
returns-clause-log c = let body = c.self.inside.body in tells_ok (fault_of body.standing) c.answer_at_end.result _ c.answer_at_end.ensures (λ o text h.
    let f = inside (kept body) _ text c.self.view_is h in
    end_log body.standing body.part.items text f.entries o f.leads)

pub returns-clause-line : goal.returns-clause-line
returns-clause-line c = let body = c.self.inside.body in λ number e text h.
    let f = inside (kept body) _ text c.self.view_is h in
    end_line body.standing body.part.items text f.entries number (tells_err (fault_of body.standing) c.answer_at_end.result (Line number) c.answer_at_end.ensures e) f.leads

pub returns-clause-accepts : goal.returns-clause-accepts
returns-clause-accepts c = let body = c.self.inside.body in λ text entries h is.
    let f = inside (kept body) _ text c.self.view_is h in
    accepts_at_end body.standing c.answer_at_end.result body.part.items text f.entries entries (fault_of body.standing) refl c.answer_at_end.ensures f.leads is

pub returns-clause-refuses : goal.returns-clause-refuses
returns-clause-refuses c = let body = c.self.inside.body in λ text number h bad.
    let f = inside (kept body) _ text c.self.view_is h in
    refuses_at_end body.standing c.answer_at_end.result body.part.items text f.entries number (fault_of body.standing) refl c.answer_at_end.ensures f.leads bad

pub returns-clause-memory : goal.returns-clause-memory
returns-clause-memory c =
    let body = c.self.inside.body in
    rw (← c.self.view_is) (
      λ e. memory_at_end body.standing (tells_err (fault_of body.standing) c.answer_at_end.result Memory c.answer_at_end.ensures e),
      λ e. memory_before body.standing c.answer_at_end.result e c.answer_at_end.ensures,
    )
