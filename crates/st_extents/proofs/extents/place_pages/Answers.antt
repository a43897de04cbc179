use Rattle.std.proofs.Common.{◌+◌, ◌<◌, ◌≤◌, ap, arith, filter, get_or, length, refl, ◌∙◌}
use Rattle.st_base.specs.declared.ids.PageNo.{PageNo}
use Rattle.st_extents.specs.Layout.{none_at, with_shape}
use Rattle.st_extents.proofs.TakenBack.{added_by}
use Rattle.st_extents.proofs.Blocks.{pages_done, pages_step}
use Rattle.st_extents.proofs.FreshPages.{fresh_next, mapped_is, still_fresh}
use Rattle.st_extents.proofs.LaidPages.{every_at}
use Rattle.st_extents.proofs.extents.place_pages.Goals as goal

abbrev first : PageNo
first = record { 0 = 0 }

pub place-requires-clause-page : goal.place-requires-clause-page
place-requires-clause-page c = every_at (λ (p : PageNo). p.0 < 1048576) c.args.pages.now c.loop-place.place first (omega (arith, c.loop-place-test.true)) c.requires.low

pub loop-place-preserved : goal.loop-place-preserved
loop-place-preserved c =
    let inside : c.loop-place.place < length c.args.pages.now = omega (arith, c.loop-place-test.true) in
    let page = get_or c.args.pages.now c.loop-place.place first in
    let more = c.in-Ok.ensures.added in
    let room : 1 ≤ length (filter (none_at c.loop-place.mapping.rows) c.args.mapping.now.own) = omega (arith, c.loop-place.invariant.room, inside) in
    let left = rw c.loop-place.invariant.own at c.in-Ok.ensures.room in
    record {
      placed = λ s e.
          pages_step c.args.file c.args.pages.now c.loop-place.place first (with_shape s c.loop-place.mapping.rows c.loop-place.mapping.births) (with_shape s c.place.new.self.rows c.place.new.self.births) _ inside
          (ap (with_shape s c.place.new.self.rows) c.in-Ok.ensures.births
          ∙ mapped_is s c.loop-place.mapping.rows c.place.new.self.rows c.loop-place.mapping.births c.args.file page c.args.mapping.now.own e room (rw c.loop-place.invariant.own at c.in-Ok.ensures.placed))
          (c.loop-place.invariant.placed s e);
      own = c.place.ensures.own ∙ c.loop-place.invariant.own;
      room = omega (arith, left, c.loop-place.invariant.room, inside);
      births = omega (arith, c.in-Ok.ensures.births, c.loop-place.invariant.births);
      added = added_by c.args.file c.args.pages.now c.loop-place.place first c.args.mapping.now.rows c.loop-place.mapping.rows c.place.new.self.rows c.args.mapping.now.births c.loop-place.mapping.births inside c.loop-place.invariant.births c.loop-place.invariant.added more;
      fresh = fresh_next c.loop-place.mapping.rows c.args.file c.place.new.self.rows c.args.pages.now c.loop-place.place first inside
          (λ q none other. still_fresh c.args.file page q c.loop-place.mapping.rows c.place.new.self.rows (record { file = c.args.file; page = page; at = more.0; birth = c.loop-place.mapping.births + 1 }) more.1 refl none other)
          c.loop-place.invariant.fresh;
    }

pub returns-clause-placed : goal.returns-clause-placed
returns-clause-placed c = λ s e. pages_done c.args.file c.args.pages.now c.loop-place.place _ _ (omega (arith, c.loop-place-test.false)) (c.loop-place.invariant.placed s e)
