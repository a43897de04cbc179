use Rattle.std.proofs.Common.{◌<◌, arith, append-nil, get_or, length, refl, sym}
use Rattle.st_rules.specs.declared.extents.Extent.{Extent}
use Rattle.st_snapshot.specs.Snapshots.{PageFits, page}
use Rattle.st_snapshot.proofs.Rows.{fits_more, written_more}
use Rattle.st_snapshot.proofs.page.put_pages.Goals as goal

abbrev nothing : Extent
nothing =
    record { file = record { server = record { 0 = 0 }; ino = 0 }; page = record { 0 = 0 }; at = record { disk = record { 0 = 0 }; block = 0 }; birth = 0 }

pub loop-place-init : goal.loop-place-init
loop-place-init c = record { bytes = sym (append-nil c.args.out.now.items); fits = tt }

pub loop-place-preserved : goal.loop-place-preserved
loop-place-preserved c =
    let all = c.args.pages.now in
    let i = c.loop-place.place in
    let row = get_or all i nothing in
    let inside : i < length all = omega (arith, c.loop-place-test.true) in
    record {
      bytes = written_more page c.args.out.now.items c.loop-place.out.items c.put_page.new.out.items all i row nothing inside c.loop-place.invariant.bytes c.in_ok-put_page.ensures.bytes refl;
      fits = fits_more PageFits all i row nothing inside c.loop-place.invariant.fits c.in_ok-put_page.ensures.fits refl;
    }
