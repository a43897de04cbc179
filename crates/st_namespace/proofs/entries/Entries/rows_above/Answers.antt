use Rattle.std.proofs.Common.{◌≡◌, ◌<◌, ap, drop, filter, get_or, length, map, subst, sym, take, ◌∙◌}
use Rattle.std.specs.Prelude.{IfOk}
use Rattle.st_rules.specs.Names.{by_name, is_in, is_listed, name_row}
use Rattle.st_namespace.specs.StoredEntries.{entries_of}
use Rattle.st_namespace.proofs.Rows.{dir_ahead, rows_are, rows_behind}
use Rattle.st_namespace.proofs.entries.Entries.rows_above.Goals as goal

pub rows_from-requires-clause-ahead : goal.rows_from-requires-clause-ahead
rows_from-requires-clause-ahead c = λ j d k l.
    let inside : j < length c.self.inside.sorted.items = rw c.as_slice-2.ensures.value at l in
    rw c.as_slice-2.ensures.value (dir_ahead c.args.dir c.args.after.now (get_or c.self.inside.sorted.items j d) ((rw c.as_slice.ensures.value at c.place_behind-start.ensures.behind) j d k inside))

pub returns : goal.returns
returns c =
    let same : take 256 (map name_row (filter (is_in c.args.dir) (drop c.place_behind-start.result c.as_slice-2.result.now))) ≡ take 256 (by_name (map name_row (filter (is_listed c.args.dir c.args.after.now) (entries_of c.self.inside.inodes.items c.self.inside.sorted.items)))) =
    ap (λ l. take 256 (map name_row (filter (is_in c.args.dir) (drop c.place_behind-start.result l)))) c.as_slice-2.ensures.value
    ∙ ap (take 256) (sym (rows_are (entries_of c.self.inside.inodes.items c.self.inside.sorted.items) c.self.inside.inodes.items c.self.inside.sorted.items c.self.invariant c.args.dir c.args.after.now
    ∙ rows_behind c.args.dir c.args.after.now c.self.inside.sorted.items c.place_behind-start.result (rw c.as_slice.ensures.value at c.place_behind-start.ensures.before) (rw c.as_slice.ensures.value at c.place_behind-start.ensures.behind))) in
    rw (← c.self.view_is) (subst (λ z. IfOk c.rows_from.result (λ v. v.items ≡ z)) same c.rows_from.ensures)
