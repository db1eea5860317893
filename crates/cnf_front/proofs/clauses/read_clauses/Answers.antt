use Rattle.std.proofs.Common.{ap, ◌∙◌, length}
use Rattle.cnf_front.specs.Dimacs.{word_at}
use Rattle.cnf_front.specs.Formulas.{terms_so_far}
use Rattle.cnf_front.proofs.HeaderLaws.{clauses_ended, clauses_went, clauses_failed, gives_by, gives_failed}
use Rattle.cnf_front.proofs.clauses.read_clauses.Goals as goal

pub returns-then-is_end : goal.returns-then-is_end
returns-then-is_end c =
    let w = word_at c.next_word.result.0.bytes.now c.next_word.result.0.at in
    gives_by _ c.close_last.result _ _ (c.loop-word.invariant.same ∙ clauses_ended c.args.variables c.loop-word.builder (terms_so_far c.loop-word.clause.positive.items c.loop-word.clause.negative.items) _ _ w c.next_word.ensures.next c.if-is_end.ensures) c.close_last.ensures

pub returns-in-Err : goal.returns-in-Err
returns-in-Err c =
    let w = word_at c.next_word.result.0.bytes.now c.next_word.result.0.at in
    gives_failed (c.read_word.new.builder, terms_so_far c.read_word.new.clause.positive.items c.read_word.new.clause.negative.items) c.args.builder.now c.in-Err.error _ _ (λ f e. c.loop-word.invariant.same ∙ clauses_failed c.args.variables c.loop-word.builder (terms_so_far c.loop-word.clause.positive.items c.loop-word.clause.negative.items) _ _ w c.literal_in-literal.result c.next_word.ensures.next c.if-is_end.ensures c.literal_in-literal.ensures.literal f e) c.in-Err.ensures.given

pub loop-word-preserved : goal.loop-word-preserved
loop-word-preserved c =
    let w = word_at c.next_word.result.0.bytes.now c.next_word.result.0.at in
    let read = c.in_default.ensures in
    record {
      same = c.loop-word.invariant.same ∙ clauses_went c.args.variables c.loop-word.builder c.read_word.new.builder (terms_so_far c.loop-word.clause.positive.items c.loop-word.clause.negative.items) (terms_so_far c.read_word.new.clause.positive.items c.read_word.new.clause.negative.items) _ _ w c.literal_in-literal.result c.next_word.ensures.next c.if-is_end.ensures c.literal_in-literal.ensures.literal read.given;
      end = c.next_word.ensures.end ∙ c.loop-word.invariant.end;
      domains = ap length read.domains ∙ c.loop-word.invariant.domains;
      positive = read.positive;
      negative = read.negative;
    }
