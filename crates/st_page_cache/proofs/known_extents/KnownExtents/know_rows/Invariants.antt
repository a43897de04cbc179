use Rattle.st_lemmas.proofs.Words
use Words.{◌≡◌, ◌+◌, ◌≤◌, drop, length}
use Words.ClientPages.{with_known_rows}
use Rattle.std.specs.Map.{values_of}
use Rattle.indexmap.specs.IndexMap.{spare}
use Rattle.st_page_cache.specs.KeyedPages.{IsKnown}
use Rattle.st_page_cache.proofs.known_extents.KnownExtents.know_rows.Given as goal

abbrev pub invariant-loop-i : goal.invariant-loop-i
invariant-loop-i l =
    record {
      told : with_known_rows l.ino (drop l.i l.rows) (values_of l.self-inside.rows.entries) ≡ with_known_rows l.ino l.rows (values_of l.initial.self-inside.rows.entries);
      room : length l.rows ≤ spare l.self-inside.rows + l.i;
      table : IsKnown l.self-inside.rows.entries;
    }
