use Rattle.std.proofs.Common.{get_or}
use Rattle.st_model.proofs.Ranged.{ranged_at}
use Rattle.st_model.proofs.pages.page_after.Goals as goal

pub put_entry-requires-clause-range : goal.put_entry-requires-clause-range
put_entry-requires-clause-range c = ranged_at c.args.entries.now (get_or c.args.places.now c.loop-i.i 0) c.index-entries-k.result c.requires.ranges (c.requires.places c.loop-i.i c.loop-i-test.true) c.index-entries-k.is
