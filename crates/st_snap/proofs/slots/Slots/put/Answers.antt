use Rattle.st_lemmas.proofs.Words
use Words.{◌==◌, cond, Some, sym, ap, ◌∙◌}
use Words.Extents as extents
use Words.Keys.{page_no}
use Rattle.st_snap.specs.Slots.{slot_at, slots_of}
use Rattle.std.proofs.lemmas.Option.{none-some, some_pair_parts}
use Rattle.st_snap.proofs.Slotted.{extent_there, map_there, on_ok, put_slots}
use Rattle.st_snap.proofs.slots.Slots.put.Goals as goal

pub unreachable-requires : goal.unreachable-requires
unreachable-requires c =
    let e = extent_there c.self.inside.extents c.self.inside.disks c.self.inside.last c.self.invariant c.args.slot (rw (← c.self.view_is) at c.requires) in
    none-some (e.0.at, e.0.birth) (sym c.in_default.is ∙ c.map.ensures ∙ ap (λ f. extents.map_page c.self.inside.extents f (page_no 0)) c.file_of.ensures ∙ map_there c.self.inside.extents c.args.slot e.0 e.1)

pub returns-clause-written : goal.returns-clause-written
returns-clause-written c =
    let x = c.self.inside.extents in
    let d = c.self.inside.disks in
    let e = extent_there x d c.self.inside.last c.self.invariant c.args.slot (rw (← c.self.view_is) at c.requires) in
    let p = some_pair_parts e.0.at c.in-Some.at e.0.birth c.in-Some.birth (sym (map_there x c.args.slot e.0 e.1) ∙ ap (λ f. extents.map_page x f (page_no 0)) (sym c.file_of.ensures) ∙ sym c.map.ensures ∙ c.in-Some.is) in
    rw (← c.self.view_is)
    (on_ok c.write_block.result _ _ c.write_block.ensures.ok
    (λ w q.
    put_slots x.rows c.self.inside.last c.args.slot d c.write_block.new.disks e.0 _ c.self.invariant.slots c.self.invariant.owned.blocks e.1 (sym p.0) w q
    ∙ ap (λ b. cond (c.args.slot == q) (Some b) (slot_at (slots_of d x.rows) q)) c.in_ok-copy.ensures))
