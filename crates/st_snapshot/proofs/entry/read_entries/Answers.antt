use Rattle.std.proofs.Common.{◌≡◌, ◌+◌, ◌∷◌, ◌++◌, [], arith, refl, rules}
use Rattle.st_snapshot.specs.Snapshots.{EntryFits, entry}
use Rattle.st_snapshot.proofs.Rows.{read_more, read_none, rest_short}
use Rattle.st_snapshot.proofs.entry.read_entries.Goals as goal

pub loop-place-init : goal.loop-place-init
loop-place-init c = read_none entry EntryFits c.args.bytes.now c.args.entries.now.items c.requires.none

pub overflow_sub-at : goal.overflow_sub-at
overflow_sub-at c = omega
    (arith, rest_short entry EntryFits c.args.bytes.now c.loop-place.rest.now c.loop-place._place c.loop-place.entries.items c.loop-place.invariant, c.requires.within)

pub loop-place-preserved : goal.loop-place-preserved
loop-place-preserved c =
    let pushed : c.push.new.self.items ≡ c.loop-place.entries.items ++ c.in-Some.row ∷ [] = search rules in
    let read : c.loop-place.rest.now ≡ entry c.in-Some.row ++ c.in-Some.more.now = search rules in
    let fits : EntryFits c.in-Some.row = search rules in
    rw pushed
    (read_more entry EntryFits c.args.bytes.now c.loop-place.rest.now c.in-Some.more.now c.loop-place._place (c.loop-place._place + 1) c.loop-place.entries.items c.in-Some.row
    c.loop-place.invariant read fits refl)
