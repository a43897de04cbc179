use Rattle.st_locks.proofs.UntouchedFiles.{marked_if, unmarked_if}
use Rattle.st_locks.proofs.touched_files.TouchedFiles.touch_if.Goals as goal

pub returns-then-yes : goal.returns-then-yes
returns-then-yes c = marked_if c.args.yes c.args.ino c.args.self.now c.touch.new.self c.if-yes.true c.touch.ensures

pub returns-else-yes : goal.returns-else-yes
returns-else-yes c = unmarked_if c.args.yes c.args.ino c.args.self.now c.if-yes.false
