use Rattle.st_lemmas.proofs.Words
use Words.{◌≡◌, ◌+◌, ◌∙◌, ap, arith, drop, sym}
use Words.ClientPages.{with_known, with_known_rows}
use Rattle.std.specs.Map.{values_of}
use Rattle.st_page_cache.proofs.KnownRows.{known_put, rows_more, table_known}
use Rattle.st_page_cache.proofs.known_extents.KnownExtents.know_rows.Goals as goal

pub loop-i-preserved : goal.loop-i-preserved
loop-i-preserved c =
    let stored : values_of c.store.new.rows.entries ≡ with_known c.told.result (values_of c.loop-i.self-inside.rows.entries) = ap values_of c.store.ensures.entries ∙ known_put c.told.result c.loop-i.self-inside.rows.entries c.loop-i.invariant.table in
    record {
      told =
          ap (with_known_rows c.args.ino (drop (c.loop-i.i + 1) c.args.rows.now)) stored
          ∙ sym (rows_more c.args.ino c.args.rows.now c.loop-i.i c.told.result _ (values_of c.loop-i.self-inside.rows.entries) c.loop-i-test.true c.told.ensures)
          ∙ c.loop-i.invariant.told;
      room = omega (arith, c.loop-i.invariant.room, c.store.ensures.room);
      table = rw c.store.ensures.entries (table_known c.told.result c.loop-i.self-inside.rows.entries c.loop-i.invariant.table (rw c.store.ensures.entries at c.store.ensures.unique));
    }
