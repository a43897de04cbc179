use Rattle.st_extents.specs.Layout.{Shape}
use Rattle.st_journal.specs.OpenedJournal.{fresh_of}
use Rattle.st_journal.specs.Parts.{stable_of}
use Rattle.st_journal.proofs.OpenedJournal.{fresh_known}
use Rattle.st_journal.proofs.journal.Journal.open.Goals as goal

pub reopen-requires-clause-known : goal.reopen-requires-clause-known
reopen-requires-clause-known g c =
    let shape : Shape = record { server = c.args.server; servers = c.args.servers; disks = c.args.disks; blocks = c.args.blocks } in (
      fresh_of c.args.server c.args.servers c.args.disks c.args.blocks,
      fresh_known shape (stable_of c.in-Ok.stable) (g.D.Store.seen c.args.store) c.in-Ok.ensures c.requires.some,
    )

pub returns-in-Ok-clause-ok : goal.returns-in-Ok-clause-ok
returns-in-Ok-clause-ok g c =
    let shape : Shape = record { server = c.args.server; servers = c.args.servers; disks = c.args.disks; blocks = c.args.blocks } in
    c.reopen.ensures.ok (fresh_of c.args.server c.args.servers c.args.disks c.args.blocks)
    (fresh_known shape (stable_of c.in-Ok.stable) (g.D.Store.seen c.args.store) c.in-Ok.ensures c.requires.some)

pub returns-in-Ok-clause-err : goal.returns-in-Ok-clause-err
returns-in-Ok-clause-err g c =
    let shape : Shape = record { server = c.args.server; servers = c.args.servers; disks = c.args.disks; blocks = c.args.blocks } in
    c.reopen.ensures.err (fresh_of c.args.server c.args.servers c.args.disks c.args.blocks)
    (fresh_known shape (stable_of c.in-Ok.stable) (g.D.Store.seen c.args.store) c.in-Ok.ensures c.requires.some)

pub returns-in-Ok-clause-prefix : goal.returns-in-Ok-clause-prefix
returns-in-Ok-clause-prefix g c = λ acked under_way last leads has.
    let shape : Shape = record { server = c.args.server; servers = c.args.servers; disks = c.args.disks; blocks = c.args.blocks } in
    c.reopen.ensures.prefix (fresh_of c.args.server c.args.servers c.args.disks c.args.blocks) acked under_way last
    (fresh_known shape (stable_of c.in-Ok.stable) (g.D.Store.seen c.args.store) c.in-Ok.ensures c.requires.some) leads has
