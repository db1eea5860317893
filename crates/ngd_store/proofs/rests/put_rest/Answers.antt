use Rattle.std.proofs.Common.{◌∷◌, [], length, ap, arith}
use Rattle.std.proofs.lemmas.Result.{on_ok_weaker}
use Rattle.ngd_store.proofs.Words.{rest_added, put_kept, kept_both}
use Rattle.ngd_store.proofs.Growing.{length_more}
use Rattle.ngd_store.proofs.rests.put_rest.Goals as goal

pub returns-clause-ok : goal.returns-clause-ok
returns-clause-ok c =
    on_ok_weaker c.put_reasons.result (rest_added c.args.words.now.items c.put_word.new.words.items c.put_reasons.new.words.items c.in_ok-word.word c.args.variable c.args.reasons.now c.in_ok-put_word.ensures.ok c.in_ok-word.ensures) c.put_reasons.ensures.ok

pub returns-clause-kept : goal.returns-clause-kept
returns-clause-kept c =
    let e = c.in_ok-put_word.ensures.ok in
    let l = ap length e in
    let m = length_more c.args.words.now.items c.in_ok-word.word in
    kept_both c.args.words.now.items c.put_word.new.words.items c.put_reasons.new.words.items (omega (arith, l, m)) (put_kept c.args.words.now.items c.put_word.new.words.items (c.in_ok-word.word ∷ []) e) c.put_reasons.ensures.kept
