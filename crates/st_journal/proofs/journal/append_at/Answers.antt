use Rattle.std.proofs.Common.{◌≡◌, ◌≤◌, ◌+◌, ◌++◌, ◌∷◌, [], Err, List, ℕ, length, refl, sym, subst, rules}
use Rattle.std.proofs.lemmas.Result.{err_from_is_err_and}
use Rattle.st_journal.specs.Journal.{framed}
use Rattle.st_journal.specs.OpenedJournal.{room_behind, room_for}
use Rattle.st_journal.specs.Appends.{Puts}
use Rattle.st_journal.proofs.Records.{has_room, no_room, puts_at, room_asked}
use Rattle.st_journal.proofs.journal.append_at.Goals as goal

pub returns-in_err-check_room-clause-err : goal.returns-in_err-check_room-clause-err
returns-in_err-check_room-clause-err g c =
    let p = err_from_is_err_and c.from_residual.result c.from_residual.ensures.1 in
    rw (p.1, p.2) (no_room g.D.Store.seen g.D.Store.faults c.args.store.now c.args.gate c.args.change.now c.size-asked.result c.size.result c.in_err-check_room.field-0.0 c.size-asked.ensures.size c.size.ensures
    c.in_err-check_room.ensures.err)

pub returns-in_default-clause-err : goal.returns-in_default-clause-err
returns-in_default-clause-err g c =
    (room_asked c.args.change.now c.size-asked.result c.size.result (length (g.D.Store.seen c.args.store.now)) c.args.gate c.size-asked.ensures.size c.size.ensures c.in_ok-check_room.ensures.ok, refl)

pub put_record-requires-clause-within : goal.put_record-requires-clause-within
put_record-requires-clause-within g c =
    let is : c.as_slice.result.now ≡ framed c.args.change.now ++ 0 ∷ [] = search rules in
    let room : room_for c.args.change.now ≤ room_behind (length (g.D.Store.seen c.args.store.now)) c.args.gate =
    room_asked c.args.change.now c.size-asked.result c.size.result (length (g.D.Store.seen c.args.store.now)) c.args.gate c.size-asked.ensures.size c.size.ensures c.in_ok-check_room.ensures.ok in
    subst (λ (b : List ℕ). c.args.gate + 1 + length b ≤ length (g.D.Store.seen c.args.store.now)) (sym is) (has_room c.args.change.now (length (g.D.Store.seen c.args.store.now)) c.args.gate c.requires.within room)

pub returns-in-Ok-put_record-clause-ok : goal.returns-in-Ok-put_record-clause-ok
returns-in-Ok-put_record-clause-ok g c =
    let is : c.as_slice.result.now ≡ framed c.args.change.now ++ 0 ∷ [] = search rules in
    let room : room_for c.args.change.now ≤ room_behind (length (g.D.Store.seen c.args.store.now)) c.args.gate =
    room_asked c.args.change.now c.size-asked.result c.size.result (length (g.D.Store.seen c.args.store.now)) c.args.gate c.size-asked.ensures.size c.size.ensures c.in_ok-check_room.ensures.ok in
    puts_at g.D.Store.seen g.D.Store.may_leave c.args.store.now c.put_record.new.store c.args.gate c.args.change.now c.size-asked.result c.as_slice.result.now c.size-asked.ensures.size is room
    c.in-Ok-put_record.ensures.seen c.in-Ok-put_record.ensures.durable

pub returns-clause-err : goal.returns-clause-err
returns-clause-err g c = (
  room_asked c.args.change.now c.size-asked.result c.size.result (length (g.D.Store.seen c.args.store.now)) c.args.gate c.size-asked.ensures.size c.size.ensures c.in_ok-check_room.ensures.ok,
  c.in-Err.ensures.cause.failed,
)

pub returns-clause-calls : goal.returns-clause-calls
returns-clause-calls g c =
    let is : c.as_slice.result.now ≡ framed c.args.change.now ++ 0 ∷ [] = search rules in
    (c.in-Err.field-0, subst (λ (b : List ℕ). Puts g.D.Store.writes g.D.Store.syncs c.args.gate b c.args.store.now (Err c.in-Err.field-0) c.put_record.new.store) is c.in-Err.ensures.exact)
