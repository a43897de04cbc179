use Rattle.st_script_containers.specs.SnapScripts.{fresh}
use Rattle.st_script_containers.proofs.snap_script.SnapScriptScript.begin.Goals as goal

pub returns : goal.returns
returns c = (fresh c.in_ok-blocks.blocks, (c.in_ok-blocks.ensures.value, c.in_ok-volume.ensures))
