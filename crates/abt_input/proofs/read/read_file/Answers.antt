use Rattle.std.proofs.Common.{refl}
use Rattle.abt_input.proofs.Files.{whole_bytes, many_bytes, no_bytes}
use Rattle.abt_input.proofs.read.read_file.Goals as goal

pub returns-in-Ok-Whole-clause-read : goal.returns-in-Ok-Whole-clause-read
returns-in-Ok-Whole-clause-read g c =
    let p = g.F.Folder.place c.args.folder.now in
    let e = c.in-Ok-Whole.ensures in
    let h = whole_bytes p.held p.handed (g.F.Folder.place c.fetch.new.self).handed c.args.name.now c.args.most c.new-bytes.result.items c.fetch.new.into.items c.in-Ok-Whole.field-0 c.in-Ok-Whole.field-0-is c.new-bytes.ensures.items e.handed e.adds e.bytes in
    (c.fetch.new.into.items, h.0, (refl, h.1))

pub returns-in-Ok-Long-clause-read : goal.returns-in-Ok-Long-clause-read
returns-in-Ok-Long-clause-read g c =
    let p = g.F.Folder.place c.args.folder.now in
    let e = c.in-Ok-Long.ensures in
    many_bytes p.held p.handed (g.F.Folder.place c.fetch.new.self).handed c.args.name.now c.args.most c.new-bytes.result.items c.fetch.new.into.items c.in-Ok-Long.field-0 c.in-Ok-Long.field-0-is e.handed e.bytes

pub returns-in-Err-Failed-clause-read : goal.returns-in-Err-Failed-clause-read
returns-in-Err-Failed-clause-read g c =
    let p = g.F.Folder.place c.args.folder.now in
    no_bytes p.held p.handed (g.F.Folder.place c.fetch.new.self).handed c.args.name.now c.in-Err-Failed.ensures.handed

pub returns-clause-read : goal.returns-clause-read
returns-clause-read g c =
    let p = g.F.Folder.place c.args.folder.now in
    no_bytes p.held p.handed (g.F.Folder.place c.fetch.new.self).handed c.args.name.now c.in-Err-Memory.ensures.handed
