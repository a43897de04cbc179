use Rattle.st_extents.proofs.LaidPages.{laid_new}
use Rattle.st_extents.proofs.mapping.Mapping.new.Goals as goal

pub invariant_of-result : goal.invariant_of-result
invariant_of-result c = rw (c.in_ok-new.ensures, c.len-places.ensures, c.args.own.ok.0, c.new-2.ensures.rows) (laid_new c.args.own.items c.requires.order)
