use Rattle.std.proofs.Common.{sym, ◌∙◌}
use Rattle.st_rules.specs.World.{is_flush_of}
use Rattle.st_lemmas.proofs.PutPlaces.{put_at, put_behind}
use Rattle.st_world_events.proofs.flushes.put_step.Goals as goal

pub returns-in_ok-push-in-None : goal.returns-in_ok-push-in-None
returns-in_ok-push-in-None c = c.in_ok-push-in-None.ensures.items ∙ sym (put_behind (is_flush_of c.args.step.client c.args.step.server) c.args.step c.args.flushed.now.items (sym c.in-None.is ∙ (rw c.as_slice.ensures.value at c.index_of_step.ensures)))

pub returns-in-Some : goal.returns-in-Some
returns-in-Some c = sym (put_at (is_flush_of c.args.step.client c.args.step.server) c.args.step c.args.flushed.now.items c.in-Some.index (sym c.in-Some.is ∙ (rw c.as_slice.ensures.value at c.index_of_step.ensures)))
