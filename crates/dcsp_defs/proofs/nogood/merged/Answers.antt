use Rattle.std.proofs.Common.{◌≡◌, rules, get_or, w64, SFits}
use Rattle.std.proofs.lemmas.Int.{to_z-of_z}
use Rattle.dcsp_defs.specs.Pairs.{no_pair}
use Rattle.dcsp_defs.proofs.Merging.{Merging-mine, Merging-theirs, Merging-both, Merging-skip, Merging-clash}
use Rattle.dcsp_defs.proofs.nogood.merged.Goals as goal

pub loop-i-preserved-in-Mine : goal.loop-i-preserved-in-Mine
loop-i-preserved-in-Mine c =
    rw c.in_ok-push_pair-in-Mine.ensures.ok (Merging-mine _ _ _ _ _ _ c.requires.mine c.requires.theirs c.loop-i.invariant c.in-Mine.ensures.0 c.in-Mine.ensures.1)

pub loop-i-preserved-in-Theirs : goal.loop-i-preserved-in-Theirs
loop-i-preserved-in-Theirs c =
    rw c.in_ok-push_pair-in-Theirs.ensures.ok (Merging-theirs _ _ _ _ _ _ c.requires.mine c.requires.theirs c.loop-i.invariant c.in-Theirs.ensures.0 c.in-Theirs.ensures.1 c.in-Theirs.ensures.2)

pub loop-i-preserved-in-Both : goal.loop-i-preserved-in-Both
loop-i-preserved-in-Both c =
    let f = c.in-Both.ensures in
    rw c.in_ok-push_pair-in-Both.ensures.ok (Merging-both _ _ _ _ _ _ c.requires.mine c.requires.theirs c.loop-i.invariant f.0.here f.0.there f.0.same f.1)

pub loop-i-preserved : goal.loop-i-preserved
loop-i-preserved c =
    Merging-skip _ _ _ _ _ _ c.requires.mine c.requires.theirs c.loop-i.invariant c.in-LeftOut.ensures.0 c.in-LeftOut.ensures.1

pub returns-in-Clash-clause-clash : goal.returns-in-Clash-clause-clash
returns-in-Clash-clause-clash c v a b e =
    let f = c.in-Clash.ensures in
    let l = Merging-clash _ _ _ _ _ _ c.requires.mine c.requires.theirs c.loop-i.invariant f.0.here f.0.there f.0.same f.0.kept f.1 in
    let mine_fits : SFits w64 (get_or c.args.mine.now c.loop-i.i no_pair).value = search rules in
    let theirs_fits : SFits w64 (get_or c.args.theirs.now c.loop-i.j no_pair).value = search rules in
    let same = simp to_z-of_z at e in
    let x = get_or c.args.mine.now c.loop-i.i no_pair in
    let y = get_or c.args.theirs.now c.loop-i.j no_pair in
    let same_var : x.var ≡ v = cc in
    let same_mine : x.value ≡ a = cc in
    let same_theirs : y.value ≡ b = cc in
    rw (← same_var, ← same_mine, ← same_theirs) l
