use Rattle.std.proofs.Common.{refl, ◌∙◌}
use Rattle.st_rules.specs.Extents.{release_from}
use Rattle.st_extents.proofs.Owned.{released_sound}
use Rattle.st_extents.proofs.extents.Extents.release_from.Goals as goal

pub invariant_of-self : goal.invariant_of-self
unfolding release_from
invariant_of-self c = record {
  own = c.release.ensures.own ∙ c.self.invariant.own;
  sound = rw (c.release.ensures.rows, c.release.ensures.births) (released_sound _ c.args.file c.args.page c.self.invariant.sound);
}

pub returns-clause-released : goal.returns-clause-released
unfolding release_from
returns-clause-released c = rw (← c.self.view_is, c.release.ensures.rows, c.release.ensures.births) refl

pub returns-clause-owned : goal.returns-clause-owned
unfolding release_from
returns-clause-owned c = rw (c.release.ensures.rows, c.release.ensures.births) (released_sound _ c.args.file c.args.page c.self.invariant.sound).owned
