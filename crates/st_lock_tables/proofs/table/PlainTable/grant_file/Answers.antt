use Rattle.std.proofs.Common.{◌≡◌, ◌-◌, suc, ap, ◌∙◌, arith}
use Rattle.st_rules.specs.Locks.{grant_file}
use Rattle.st_lock_tables.specs.Calls.{granting}
use Rattle.st_lock_tables.proofs.Grants.{room_after, grants_on}
use Rattle.st_lock_tables.proofs.table.PlainTable.grant_file.Goals as goal

pub loop-left-preserved : goal.loop-left-preserved
loop-left-preserved c =
    let one : suc (c.loop-left.left - 1) ≡ c.loop-left.left = omega (arith, c.loop-left-test.true) in
    record {
      passes = grants_on c.loop-left.self c.grant_waiter.new.self c.loop-left.granted.items c.grant_waiter.new.granted.items c.in-Some.w c.args.ino (c.loop-left.left - 1) c.in_ok-grant_waiter.ensures c.in-Some.ensures.next
          ∙ ap (λ n. grant_file c.args.ino n (granting c.loop-left.self c.loop-left.granted.items)) one ∙ c.loop-left.invariant.passes;
      room = room_after c.loop-left.self c.grant_waiter.new.self c.loop-left.granted.items c.grant_waiter.new.granted.items c.in-Some.w c.args.ino 4294967296 c.in_ok-grant_waiter.ensures c.in-Some.ensures.next c.loop-left.invariant.room;
    }
