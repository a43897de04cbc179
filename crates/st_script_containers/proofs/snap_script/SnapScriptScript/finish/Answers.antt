use Rattle.std.proofs.Common.{◌≡◌, ◌-◌, arith}
use Rattle.st_snap.specs.Changes.{shown}
use Rattle.st_script_containers.specs.SnapScripts.{last}
use Rattle.st_script_containers.proofs.SnapAnswers.{last_of}
use Rattle.st_script_containers.proofs.snap_script.SnapScriptScript.finish.Goals as goal

pub returns : goal.returns
unfolding last
returns c = λ s h.
    let free = c.free.ensures s.blocks s.changes h in
    let same : c.free.result ≡ s.blocks - shown s.changes = omega (arith, free) in
    last_of c.put_last.result c.args.text.now.items c.put_last.new.text.items c.args.events c.free.result (s.blocks - shown s.changes) same c.put_last.ensures
