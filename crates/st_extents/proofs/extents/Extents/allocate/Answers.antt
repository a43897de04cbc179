use Rattle.std.proofs.Common.{arith, refl, ap, length, ◌∙◌}
use Rattle.st_extents.specs.Layout.{Shape, with_shape}
use Rattle.st_extents.proofs.Blocks.{allocate_gives, allocate_refuses, free_is}
use Rattle.st_extents.proofs.FreshPages.{fresh_unmapped, low_unmapped}
use Rattle.st_extents.proofs.Owned.{allocated_sound}
use Rattle.st_extents.proofs.extents.Extents.allocate.Goals as goal

pub returns-then-free-asked-clause-exact : goal.returns-then-free-asked-clause-exact
returns-then-free-asked-clause-exact c =
    let s : Shape = record { server = c.self.inside.server; servers = c.self.inside.servers; disks = c.self.inside.disks; blocks = c.self.inside.blocks } in (
      rw (← c.self.view_is)
          (allocate_refuses (with_shape s c.self.inside.mapping.rows c.self.inside.mapping.births) c.args.file c.args.page c.args.count c.in_ok-pages.pages.items _ _ c.in_ok-pages.ensures.pages
          (c.free-free.ensures.free ∙ ap length (free_is s c.self.inside.mapping.rows c.self.inside.mapping.births c.self.inside.mapping.own c.self.invariant.own))
          (c.len-asked.ensures ∙ c.in_ok-pages.pages.ok.0)
          c.if-free-asked.true),
      refl,
    )

pub place_pages-requires-clause-fresh : goal.place_pages-requires-clause-fresh
place_pages-requires-clause-fresh c = rw (c.as_slice.ensures.value, c.in_ok-pages.ensures.pages) (fresh_unmapped c.self.inside.mapping.rows c.args.file c.args.page c.args.count)

pub place_pages-requires-clause-low : goal.place_pages-requires-clause-low
place_pages-requires-clause-low c = rw (c.as_slice.ensures.value, c.in_ok-pages.ensures.pages) (low_unmapped c.self.inside.mapping.rows c.args.file c.args.page c.args.count c.requires.range)

pub invariant_of-self-2 : goal.invariant_of-self-2
invariant_of-self-2 c =
    let s : Shape = record { server = c.self.inside.server; servers = c.self.inside.servers; disks = c.self.inside.disks; blocks = c.self.inside.blocks } in
    record {
      own = c.place_pages.ensures.own ∙ c.self.invariant.own;
      sound = allocated_sound s c.self.inside.mapping.rows c.place_pages.new.mapping.rows c.self.inside.mapping.births c.place_pages.new.mapping.births c.args.file c.args.page c.args.count c.self.invariant.sound
          (rw (c.as_slice.ensures.value, c.in_ok-pages.ensures.pages) at (c.in_ok-place_pages.ensures.placed s c.self.invariant.own))
          (omega (arith, c.place_pages.ensures.few, (rw (← c.self.view_is) at c.requires.births), c.requires.range, c.as_slice.ensures.len, c.in_ok-pages.ensures.few));
    }

pub returns-clause-exact : goal.returns-clause-exact
returns-clause-exact c =
    let s : Shape = record { server = c.self.inside.server; servers = c.self.inside.servers; disks = c.self.inside.disks; blocks = c.self.inside.blocks } in
    rw (← c.self.view_is)
    (allocate_gives (with_shape s c.self.inside.mapping.rows c.self.inside.mapping.births) (with_shape s c.place_pages.new.mapping.rows c.place_pages.new.mapping.births) c.args.file c.args.page c.args.count c.in_ok-pages.pages.items _ _
    c.in_ok-pages.ensures.pages
    (c.free-free.ensures.free ∙ ap length (free_is s c.self.inside.mapping.rows c.self.inside.mapping.births c.self.inside.mapping.own c.self.invariant.own))
    (c.len-asked.ensures ∙ c.in_ok-pages.pages.ok.0)
    c.if-free-asked.false
    (rw c.as_slice.ensures.value at (c.in_ok-place_pages.ensures.placed s c.self.invariant.own)))

pub returns-clause-owned : goal.returns-clause-owned
returns-clause-owned c = (invariant_of-self-2 c).sound.owned
