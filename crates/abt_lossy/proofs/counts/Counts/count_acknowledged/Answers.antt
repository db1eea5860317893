use Rattle.std.proofs.Common.{◌∙◌, sym, ap}
use Rattle.std.specs.Prelude.{◌+◌}
use Rattle.std.proofs.Math.Path.{fun_ext}
use Rattle.law_runs.specs.Worlds.{raised}
use Rattle.abt_lossy.specs.Carries.{Counts, acknowledged_in, acknowledged_of, counts_at, handed_up_in, handed_up_of}
use Rattle.abt_lossy.proofs.Pairs.{read_after, same_after}
use Rattle.abt_lossy.proofs.counts.Counts.count_acknowledged.Goals as goal

pub returns-clause-acknowledged : goal.returns-clause-acknowledged
returns-clause-acknowledged c =
    let entries : Counts = c.self.inside.pairs.entries in
    fun_ext (λ a. fun_ext (λ b.
    ap acknowledged_in (c.in-Ok.ensures.updates.0 (a, b))
    ∙ read_after acknowledged_in (counts_at entries) c.args.sender c.args.receiver (record { handed_up = c.of_pair-counts.result.handed_up; acknowledged = c.of_pair-counts.result.acknowledged + 1 }) (ap (λ n. n + 1) (c.of_pair-counts.ensures.acknowledged ∙ ap (λ (s : Counts). acknowledged_of s c.args.sender c.args.receiver) (sym c.self.view_is))) a b))
    ∙ ap (λ (s : Counts). raised (acknowledged_of s) c.args.sender c.args.receiver) c.self.view_is

pub returns-clause-handed_up : goal.returns-clause-handed_up
returns-clause-handed_up c =
    let entries : Counts = c.self.inside.pairs.entries in
    fun_ext (λ a. fun_ext (λ b.
    ap handed_up_in (c.in-Ok.ensures.updates.0 (a, b))
    ∙ same_after handed_up_in (counts_at entries) c.args.sender c.args.receiver (record { handed_up = c.of_pair-counts.result.handed_up; acknowledged = c.of_pair-counts.result.acknowledged + 1 }) (c.of_pair-counts.ensures.handed_up ∙ ap (λ (s : Counts). handed_up_of s c.args.sender c.args.receiver) (sym c.self.view_is)) a b))
    ∙ ap (λ (s : Counts). handed_up_of s) c.self.view_is
