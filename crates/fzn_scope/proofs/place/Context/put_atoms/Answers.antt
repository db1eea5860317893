use Rattle.std.proofs.Common.{sym, ap, ◌∙◌, Ok}
use Rattle.std.proofs.lemmas.Result.{err_from_is_err_and}
use Rattle.fzn_token.specs.declared.token.Mark.TheVariants as mark
use Rattle.fzn_item.specs.Exprs.{IsAtom}
use Rattle.fzn_scope.proofs.LentSteps.{first_begins, left_close, left_refused}
use Rattle.fzn_scope.proofs.place.Context.put_atoms.Goals as goal

pub next_atom-requires : goal.next_atom-requires
next_atom-requires c = first_begins IsAtom mark.CloseBracket c.atoms.invariant.standing

pub returns-in_err-term : goal.returns-in_err-term
returns-in_err-term c = λ atoms behind list.
    let p = err_from_is_err_and c.from_residual-in_err-term.result c.from_residual-in_err-term.ensures.1 in
    rw (p.1, p.2) (left_refused c.args.self.text.now c.args.self.names.now c.args.wanted c.args.tokens.now c.atoms.terms.items c.atoms.rest.now c.in_ok-atom.atom c.in_ok-atom.after.now c.atoms.invariant c.in_ok-atom.ensures.reads _ (sym c.in_err-term.ensures) atoms behind list)

pub returns-in-Some-after_mark-2 : goal.returns-in-Some-after_mark-2
returns-in-Some-after_mark-2 c = λ atoms behind list.
    let r = left_close c.args.self.text.now c.args.self.names.now c.args.wanted c.args.tokens.now c.atoms.terms.items c.atoms.rest.now c.in_ok-atom.atom c.in_ok-atom.after.now c.atoms.invariant c.in_ok-atom.ensures.reads c.in_ok-term.term c.in-Some-after_mark-2.end.now (sym c.in_ok-term.ensures) c.in-Some-after_mark-2.ensures.reads atoms behind list in
    (r.0 ∙ ap Ok (sym c.in_ok-push.ensures.items), r.1)
