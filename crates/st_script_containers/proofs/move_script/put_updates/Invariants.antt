use Rattle.std.proofs.Common.{◌≡◌, ◌++◌, flat_map, take}
use Rattle.st_script_containers.specs.MoveScripts.{word}
use Rattle.st_script_containers.proofs.move_script.put_updates.Given as goal

abbrev pub invariant-loop-i : goal.invariant-loop-i
invariant-loop-i l = l.text.items ≡ l.fn.text.items ++ flat_map word (take l.i l.updates)
