use Rattle.std.proofs.Common.{◌≡◌, ◌+◌, ◌∙◌, ◌++◌, ◌∷◌, [], sym, ap, arith, map, filter, if◌then◌else◌}
use Rattle.std.specs.Prelude.{◌||◌, ◌&&◌}
use Rattle.std.specs.List.{list_any}
use Rattle.st_tables.specs.Tables.{has_key, wait_key}
use Rattle.st_rules.specs.Keys.{client}
use Rattle.st_tables.proofs.RisingKeys.{numbers, probe_more}
use Rattle.st_lock_tables.proofs.Ways.{besides, in_way, way_looked}
use Rattle.st_lock_tables.proofs.table.PlainTable.in_the_way.Goals as goal

pub loop-i-preserved : goal.loop-i-preserved
loop-i-preserved c =
    c.in_ok-push_if.ensures
    ∙ (λ j. c.loop-i.invariant j
    ++ (if (c.either.ensures ∙ (λ k. (c.has_in-waits.ensures ∙ ap (λ x. list_any (λ w. has_key wait_key x w && besides c.args.client w) c.self.inside.waits) c.key.ensures) k || c.is_against-holds.ensures k)) j then client (c.loop-i.i + 1) ∷ [] else []))
    ∙ sym (probe_more (in_way c.args.client c.args.ino c.args.mode c.self.inside.rows c.self.inside.waits) c.loop-i.i)

pub returns : goal.returns
returns c =
    let end : c.loop-i.i ≡ 16 = omega arith in
    rw (← c.self.view_is)
    (c.loop-i.invariant ∙ ap (λ n. map client (filter (in_way c.args.client c.args.ino c.args.mode c.self.inside.rows c.self.inside.waits) (numbers 1 n))) end
    ∙ ap (map client) (sym (way_looked c.args.client c.args.ino c.args.mode c.self.inside.rows c.self.inside.waits c.len-rows.ensures.clients c.len-waits.ensures.clients)))
