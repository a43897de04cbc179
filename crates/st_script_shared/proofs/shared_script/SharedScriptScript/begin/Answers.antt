use Rattle.std.proofs.Common.{refl, sym}
use Rattle.st_script_shared.specs.SharedScripts.{fresh}
use Rattle.st_script_shared.proofs.shared_script.SharedScriptScript.begin.Goals as goal

pub returns : goal.returns
returns c = (fresh c.in_ok-counts.counts, (c.in_ok-counts.ensures, (refl, sym c.new-file.ensures.fresh)))
