use Rattle.std.proofs.Common.{◌≡◌, ◌∙◌, ◌<◌, sym, subst, find, length, arith}
use Rattle.std.specs.Prelude.{None}
use Rattle.st_rules.specs.Keys.{put}
use Rattle.st_tables.specs.Indexes.{IsIndexed, numbers_in, queue_in}
use Rattle.st_tables.specs.Tables.{has_key}
use Rattle.st_tables.proofs.ClientRows.{counted_new, room_for_one}
use Rattle.st_tables.proofs.Indexes.{done, failed, owned_back, owned_new, queued_back, queued_new}
use Rattle.st_tables.proofs.clients.ClientTable.put_new.Goals as goal

pub invariant_of-self-then-is_err : goal.invariant_of-self-then-is_err
invariant_of-self-then-is_err g c = record {
  counts = c.self.invariant.counts;
  queued = λ n. failed c.push.result c.is_err.result c.is_err.ensures.value c.if-is_err.true c.push.ensures.err n ∙ c.self.invariant.queued n;
  owned = owned_back g.V.Row.key_of c.self.inside.table (numbers_in c.self.inside.owned.items) (numbers_in c.gain.new.owned.items)
      (numbers_in c.lose.new.owned.items) c.args.row c.args.key c.requires.key c.self.invariant.owned
      (subst (λ l. find (has_key g.V.Row.key_of c.args.key) l ≡ None) (sym c.self.view_is) c.requires.none) c.in_ok-gain.ensures.ok c.lose.ensures;
}

pub invariant_of-self-then-is_err-2 : goal.invariant_of-self-then-is_err-2
invariant_of-self-then-is_err-2 g c =
    subst (λ l. IsIndexed g.V.Row.key_of l c.self.inside.counts c.leave.new.queues.entries c.lose-then-is_err-2.new.owned.items)
    (sym (failed c.put.result c.is_err-2.result c.is_err-2.ensures.value c.if-is_err-2.true c.put.ensures.err)) (record {
      counts = c.self.invariant.counts;
      queued = queued_back g.V.Row.key_of c.self.inside.table (queue_in c.self.inside.queues.entries) (queue_in c.push.new.queues.entries)
          (queue_in c.leave.new.queues.entries) c.args.row c.args.key c.requires.key c.self.invariant.queued
          (subst (λ l. find (has_key g.V.Row.key_of c.args.key) l ≡ None) (sym c.self.view_is) c.requires.none)
          (done c.push.result c.is_err.result c.is_err.ensures.value c.if-is_err.false c.push.ensures.ok) c.leave.ensures;
      owned = owned_back g.V.Row.key_of c.self.inside.table (numbers_in c.self.inside.owned.items) (numbers_in c.gain.new.owned.items)
          (numbers_in c.lose-then-is_err-2.new.owned.items) c.args.row c.args.key c.requires.key c.self.invariant.owned
          (subst (λ l. find (has_key g.V.Row.key_of c.args.key) l ≡ None) (sym c.self.view_is) c.requires.none) c.in_ok-gain.ensures.ok
          c.lose-then-is_err-2.ensures;
    })

pub count_up-requires : goal.count_up-requires
count_up-requires g c = λ l.
    let p : c.put.new.self ≡ put (has_key g.V.Row.key_of (g.V.Row.key_of c.args.row)) c.args.row c.self.inside.table =
    done c.put.result c.is_err-2.result c.is_err-2.ensures.value c.if-is_err-2.false c.put.ensures.ok in
    let n : length (put (has_key g.V.Row.key_of (g.V.Row.key_of c.args.row)) c.args.row c.self.inside.table) < 9223372036854775808 =
    subst (λ xs. length xs < 9223372036854775808) p (subst (λ m. m < 9223372036854775808) c.len-len.ensures.len c.len-len.ensures.small) in
    let r = room_for_one g.V.Row.key_of c.self.inside.table c.self.inside.counts c.args.row c.args.key c.requires.key c.self.invariant.counts
    (subst (λ l. find (has_key g.V.Row.key_of c.args.key) l ≡ None) (sym c.self.view_is) c.requires.none) 9223372036854775808 n l in
    omega (arith, r)

pub invariant_of-self-2 : goal.invariant_of-self-2
invariant_of-self-2 g c =
    let p : c.put.new.self ≡ put (has_key g.V.Row.key_of (g.V.Row.key_of c.args.row)) c.args.row c.self.inside.table =
    done c.put.result c.is_err-2.result c.is_err-2.ensures.value c.if-is_err-2.false c.put.ensures.ok in
    subst (λ l. IsIndexed g.V.Row.key_of l c.count_up.new.counts c.push.new.queues.entries c.gain.new.owned.items) (sym p) (record {
      counts = counted_new g.V.Row.key_of c.self.inside.table c.self.inside.counts c.count_up.new.counts c.args.row c.args.key c.requires.key
          c.self.invariant.counts (subst (λ l. find (has_key g.V.Row.key_of c.args.key) l ≡ None) (sym c.self.view_is) c.requires.none) c.requires.client
          c.count_up.ensures;
      queued = queued_new g.V.Row.key_of c.self.inside.table (queue_in c.self.inside.queues.entries) (queue_in c.push.new.queues.entries) c.args.row c.args.key
          c.requires.key c.self.invariant.queued (subst (λ l. find (has_key g.V.Row.key_of c.args.key) l ≡ None) (sym c.self.view_is) c.requires.none)
          (done c.push.result c.is_err.result c.is_err.ensures.value c.if-is_err.false c.push.ensures.ok);
      owned = owned_new g.V.Row.key_of c.self.inside.table (numbers_in c.self.inside.owned.items) (numbers_in c.gain.new.owned.items) c.args.row c.args.key
          c.requires.key c.self.invariant.owned (subst (λ l. find (has_key g.V.Row.key_of c.args.key) l ≡ None) (sym c.self.view_is) c.requires.none)
          c.in_ok-gain.ensures.ok;
    })
