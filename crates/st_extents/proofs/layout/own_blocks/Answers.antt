use Rattle.std.proofs.Common.{◌≡◌, ◌-◌, refl, arith}
use Rattle.std.proofs.lemmas.Bool.{eq-eqb, ne_eqb}
use Rattle.st_rules.specs.Extents.{own_blocks}
use Rattle.st_extents.proofs.Blocks.{rows_more, rows_skip, rows_end}
use Rattle.st_extents.proofs.layout.own_blocks.Goals as goal

pub loop-place-init : goal.loop-place-init
unfolding own_blocks
loop-place-init c = record { added = let e : c.args.disks - 0 ≡ c.args.disks = omega arith in rw (c.new-own.ensures.items, e) refl; bounded = grind arith }

pub loop-place-preserved : goal.loop-place-preserved
loop-place-preserved c = record {
  added = rows_more _ _ _ _ _ c.loop-place.place c.args.disks c.loop-place-test.true (eq-eqb _ _ c.if-place-servers.false) c.in_ok-push_disk.ensures.added c.loop-place.invariant.added;
  bounded = grind arith;
}

pub loop-place-preserved-then-place-servers : goal.loop-place-preserved-then-place-servers
loop-place-preserved-then-place-servers c = record {
  added = rows_skip _ _ _ _ c.loop-place.place c.args.disks c.loop-place-test.true (ne_eqb _ _ c.if-place-servers.true) c.loop-place.invariant.added;
  bounded = grind arith;
}

pub returns-clause-blocks : goal.returns-clause-blocks
returns-clause-blocks c = rows_end _ _ _ _ _ _ c.loop-place-test.false c.loop-place.invariant.added

pub returns-clause-few : goal.returns-clause-few
returns-clause-few c = grind arith
