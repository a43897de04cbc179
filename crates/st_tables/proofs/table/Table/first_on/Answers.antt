use Rattle.std.proofs.Common.{◌≡◌, ◌∙◌, sym, ap, subst, arith, find}
use Rattle.st_tables.specs.Tables.{row_at, place_of, is_on, sooner}
use Rattle.st_tables.proofs.Places.{least_of, least_none, least_more, first_found}
use Rattle.st_tables.proofs.table.Table.first_on.Goals as goal

pub loop-i-init : goal.loop-i-init
loop-i-init g c = sym (least_none (place_of c.self.inside.places.entries) c.args.second c.self.inside.next)

pub loop-i-preserved : goal.loop-i-preserved
loop-i-preserved g c =
    c.sooner-least.ensures ∙ (λ j. sooner (c.loop-i.invariant j) ((c.copied.ensures ∙ c.get.ensures.value) j))
    ∙ sym (least_more (place_of c.self.inside.places.entries) c.args.second c.self.inside.next c.loop-i.i)

pub returns : goal.returns
returns g c =
    let end : c.loop-i.i ≡ 16 = omega arith in
    c.copied-2.ensures ∙ c.get-2.ensures.value
    ∙ ap (row_at c.self.inside.rows.entries) (c.loop-i.invariant ∙ ap (least_of (place_of c.self.inside.places.entries) c.args.second c.self.inside.next) end)
    ∙ subst (λ l. row_at c.self.inside.rows.entries (least_of (place_of c.self.inside.places.entries) c.args.second c.self.inside.next 16) ≡ find (is_on g.V.Row.key_of c.args.second) l) c.self.view_is
    (first_found g.V.Row.key_of c.self.inside.next (row_at c.self.inside.rows.entries) (place_of c.self.inside.places.entries) c.self.invariant c.args.second)
