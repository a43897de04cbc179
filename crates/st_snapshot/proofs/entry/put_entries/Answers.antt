use Rattle.std.proofs.Common.{◌≡◌, ◌<◌, arith, append-nil, get_or, length, sym}
use Rattle.std.proofs.lemmas.List.{get_or_read}
use Rattle.st_snapshot.specs.Snapshots.{EntryFits, entry}
use Rattle.st_snapshot.proofs.Rows.{fits_more, written_more}
use Rattle.st_snapshot.proofs.entry.put_entries.Goals as goal

pub loop-place-init : goal.loop-place-init
loop-place-init c = record { bytes = sym (append-nil c.args.out.now.items); fits = tt }

pub loop-place-preserved : goal.loop-place-preserved
loop-place-preserved c =
    let all = c.args.entries.now in
    let i = c.loop-place.place in
    let row = c.index-entries-place.result in
    let inside : i < length all = omega (arith, c.loop-place-test.true) in
    let is : row ≡ get_or all i row = get_or_read all i row inside c.index-entries-place.is row in
    record {
      bytes = written_more entry c.args.out.now.items c.loop-place.out.items c.put_entry.new.out.items all i row row inside c.loop-place.invariant.bytes c.in_ok-put_entry.ensures.bytes is;
      fits = fits_more EntryFits all i row row inside c.loop-place.invariant.fits c.in_ok-put_entry.ensures.fits is;
    }
