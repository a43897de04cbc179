use Rattle.std.proofs.Common.{◌≡◌, ◌+◌, ◌-◌, ◌∷◌, ◌++◌, [], length, arith, refl, rules}
use Rattle.st_snapshot.specs.Snapshots.{PageFits, page}
use Rattle.st_snapshot.proofs.Rows.{read_more, read_none, rest_short, stops}
use Rattle.st_snapshot.proofs.Spelled.{page_long}
use Rattle.st_snapshot.proofs.page.read_pages.Goals as goal

pub loop-place-init : goal.loop-place-init
loop-place-init c = read_none page PageFits c.args.bytes.now c.args.pages.now.items c.requires.none

pub overflow_sub-at : goal.overflow_sub-at
overflow_sub-at c = omega
    (arith, rest_short page PageFits c.args.bytes.now c.loop-place.rest.now c.loop-place._place c.loop-place.pages.items c.loop-place.invariant, c.requires.within)

pub returns-then-rest-lt24-clause-err : goal.returns-then-rest-lt24-clause-err
returns-then-rest-lt24-clause-err c =
    let short = rest_short page PageFits c.args.bytes.now c.loop-place.rest.now c.loop-place._place c.loop-place.pages.items c.loop-place.invariant in
    stops page PageFits c.args.bytes.now c.loop-place.rest.now c.loop-place._place c.args.count c.args.whole (c.args.whole - length c.loop-place.rest.now) c.loop-place.pages.items
    c.loop-place.invariant (omega (arith, c.loop-place-test.true)) (omega (arith, short, c.requires.within))
    (λ x more fits is. let n = page_long x c.loop-place.rest.now more is in omega (arith, n, c.if-rest-lt24.true))

pub loop-place-preserved : goal.loop-place-preserved
loop-place-preserved c =
    let pushed : c.push.new.self.items ≡ c.loop-place.pages.items ++ c.split_page.result.0 ∷ [] = search rules in
    rw pushed
    (read_more page PageFits c.args.bytes.now c.loop-place.rest.now c.split_page.result.1.now c.loop-place._place (c.loop-place._place + 1) c.loop-place.pages.items c.split_page.result.0
    c.loop-place.invariant c.split_page.ensures.bytes c.split_page.ensures.fits refl)
