use Rattle.std.proofs.Common.{ap, arith, rules}
use Rattle.std.specs.Prelude.{codes}
use Rattle.std.proofs.lemmas.Slice.Eq.{text_from_reads}
use Rattle.fzn_scope.specs.Forms.{form_named}
use Rattle.fzn_scope.proofs.form.often_named.Goals as goal

pub returns-in-105 : goal.returns-in-105
returns-in-105 c = ap form_named (text_from_reads c.args.name.now (codes "int_eq") (omega arith) (search rules))

pub returns-in-105-2 : goal.returns-in-105-2
returns-in-105-2 c = ap form_named (text_from_reads c.args.name.now (codes "int_ne") (omega arith) (search rules))

pub returns-in-105-3 : goal.returns-in-105-3
returns-in-105-3 c = ap form_named (text_from_reads c.args.name.now (codes "int_le") (omega arith) (search rules))

pub returns-in-105-4 : goal.returns-in-105-4
returns-in-105-4 c = ap form_named (text_from_reads c.args.name.now (codes "int_lt") (omega arith) (search rules))

pub returns-in-105-5 : goal.returns-in-105-5
returns-in-105-5 c = ap form_named (text_from_reads c.args.name.now (codes "int_plus") (omega arith) (search rules))

pub returns-in-98 : goal.returns-in-98
returns-in-98 c = ap form_named (text_from_reads c.args.name.now (codes "bool_clause") (omega arith) (search rules))
