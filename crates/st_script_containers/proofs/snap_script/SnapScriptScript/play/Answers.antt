use Rattle.st_script_containers.specs.SnapScripts.{answer}
use Rattle.st_script_containers.proofs.snap_script.SnapScriptScript.play.Goals as goal

pub returns-in-Read-clause-text : goal.returns-in-Read-clause-text
unfolding answer
returns-in-Read-clause-text c = λ s h. rw c.in-Read.is (c.play_read.ensures s.blocks s.changes h)

pub returns-in-Take-clause-text : goal.returns-in-Take-clause-text
unfolding answer
returns-in-Take-clause-text c = λ s h. rw c.in-Take.is (c.play_take.ensures.text s.blocks s.changes h)

pub returns-in-Forget-clause-text : goal.returns-in-Forget-clause-text
unfolding answer
returns-in-Forget-clause-text c = λ s h. rw c.in-Forget.is (c.play_forget.ensures.text s.blocks s.changes h)
