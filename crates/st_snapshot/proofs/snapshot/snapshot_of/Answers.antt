use Rattle.std.proofs.Common.{◌≡◌, ◌-◌, ◌++◌, arith, refl}
use Rattle.st_rules.specs.Server.{Stable}
use Rattle.st_snapshot.specs.Snapshots.{counters, counters_of, entry, page, rows}
use Rattle.st_snapshot.specs.declared.counters.Counters.{Counters}
use Rattle.st_snapshot.proofs.Read.{counters_same, snapshot_made}
use Rattle.st_snapshot.proofs.snapshot.snapshot_of.Goals as goal

pub returns-clause-bytes : goal.returns-clause-bytes
returns-clause-bytes c =
    let t : Stable = record { epoch = c.args.epoch; names = c.args.names.now; extents = c.args.extents.now } in
    let k : Counters =
    record {
      epoch = c.args.epoch.0;
      births = c.next_birth.result - 1;
      next = c.next_ino.result;
      limit = c.limit.result;
      entries = c.entries.result;
      pages = c.mapped.result;
    } in
    let es = c.in_ok-entries.entries.items in
    let xs = c.in_ok-pages.pages.items in
    let same : k ≡ counters_of t =
    counters_same k (counters_of t) refl (omega (arith, c.next_birth.ensures)) c.next_ino.ensures c.limit.ensures c.entries.ensures c.mapped.ensures.mapped in
    let written : c.put_pages.new.out.items ≡ (counters k ++ rows entry es) ++ rows page xs =
    rw (
      c.in_ok-put_pages.ensures.bytes,
      c.in_ok-put_entries.ensures.bytes,
      c.in_ok-put_counters.ensures.bytes,
      c.as_slice.ensures.value,
      c.as_slice-2.ensures.value,
      c.new-out.ensures.items,
    ) refl in
    snapshot_made t k es xs c.put_pages.new.out.items c.in_ok-entries.ensures.rows c.in_ok-pages.ensures.rows same written
