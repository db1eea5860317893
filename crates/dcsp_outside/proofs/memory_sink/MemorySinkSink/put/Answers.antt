use Rattle.std.proofs.Common.{rules, ◌≡◌, ◌++◌, take}
use Rattle.dcsp_outside.proofs.Changes.{adds_part}
use Rattle.dcsp_outside.proofs.memory_sink.MemorySinkSink.put.Goals as goal

-- what a failing put keeps is a part of its piece
pub returns-clause-part : goal.returns-clause-part
returns-clause-part c _ =
    let failed : c.self-2.inside.written.items ≡ c.args.self.now.written ++ take c.in-Some.kept c.args.bytes.now = search rules in
    adds_part c.in-Some.kept _ _ _ failed
