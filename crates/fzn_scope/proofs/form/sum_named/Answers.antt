use Rattle.std.proofs.Common.{◌∙◌, Some, ap, arith, rules, sym}
use Rattle.std.specs.Prelude.{codes}
use Rattle.std.proofs.lemmas.Slice.Eq.{text_from_reads}
use Rattle.fzn_scope.specs.Forms.{form_among, sums}
use Rattle.fzn_scope.proofs.form.sum_named.Goals as goal

pub returns-in-105 : goal.returns-in-105
returns-in-105 c = ap Some c.sum.ensures ∙ sym (ap (λ n. form_among n sums) (text_from_reads c.args.name.now (codes "int_lin_eq") (omega arith) (search rules)))

pub returns-in-105-2 : goal.returns-in-105-2
returns-in-105-2 c = ap Some c.sum-in-105-2.ensures ∙ sym (ap (λ n. form_among n sums) (text_from_reads c.args.name.now (codes "int_lin_eq_reif") (omega arith) (search rules)))

pub returns-in-105-3 : goal.returns-in-105-3
returns-in-105-3 c = ap Some c.sum-in-105-3.ensures ∙ sym (ap (λ n. form_among n sums) (text_from_reads c.args.name.now (codes "int_lin_ne") (omega arith) (search rules)))

pub returns-in-105-4 : goal.returns-in-105-4
returns-in-105-4 c = ap Some c.sum-in-105-4.ensures ∙ sym (ap (λ n. form_among n sums) (text_from_reads c.args.name.now (codes "int_lin_ne_reif") (omega arith) (search rules)))

pub returns-in-105-5 : goal.returns-in-105-5
returns-in-105-5 c = ap Some c.sum-in-105-5.ensures ∙ sym (ap (λ n. form_among n sums) (text_from_reads c.args.name.now (codes "int_lin_le") (omega arith) (search rules)))

pub returns-in-105-6 : goal.returns-in-105-6
returns-in-105-6 c = ap Some c.sum-in-105-6.ensures ∙ sym (ap (λ n. form_among n sums) (text_from_reads c.args.name.now (codes "int_lin_le_reif") (omega arith) (search rules)))

pub returns-in-98 : goal.returns-in-98
returns-in-98 c = ap Some c.sum-in-98.ensures ∙ sym (ap (λ n. form_among n sums) (text_from_reads c.args.name.now (codes "bool_lin_eq") (omega arith) (search rules)))

pub returns-in-98-2 : goal.returns-in-98-2
returns-in-98-2 c = ap Some c.sum-in-98-2.ensures ∙ sym (ap (λ n. form_among n sums) (text_from_reads c.args.name.now (codes "bool_lin_le") (omega arith) (search rules)))
