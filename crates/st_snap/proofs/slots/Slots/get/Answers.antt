use Rattle.st_lemmas.proofs.Words
use Words.{Some, sym, ap, subst, ◌∙◌, BlockAt}
use Words.Extents as extents
use Words.Disks.{block}
use Words.Keys.{page_no}
use Rattle.std.proofs.lemmas.Option.{none-some, some_pair_parts}
use Rattle.std.specs.Option.{option_map}
use Rattle.st_disk.specs.Calls.{HasBlock}
use Rattle.st_snap.proofs.Slotted.{bytes_at, extent_there, has_block, map_there, slot_found}
use Rattle.st_snap.proofs.slots.Slots.get.Goals as goal

pub unreachable-requires : goal.unreachable-requires
unreachable-requires c =
    let e = extent_there c.self.inside.extents c.self.inside.disks c.self.inside.last c.self.invariant c.args.slot (rw (← c.self.view_is) at c.requires) in
    none-some (e.0.at, e.0.birth) (sym c.in_default.is ∙ c.map.ensures ∙ ap (λ f. extents.map_page c.self.inside.extents f (page_no 0)) c.file_of.ensures ∙ map_there c.self.inside.extents c.args.slot e.0 e.1)

pub block-requires : goal.block-requires
block-requires c =
    let x = c.self.inside.extents in
    let e = extent_there x c.self.inside.disks c.self.inside.last c.self.invariant c.args.slot (rw (← c.self.view_is) at c.requires) in
    let p = some_pair_parts e.0.at c.in-Some.at e.0.birth c.in-Some._birth (sym (map_there x c.args.slot e.0 e.1) ∙ ap (λ f. extents.map_page x f (page_no 0)) (sym c.file_of.ensures) ∙ sym c.map.ensures ∙ c.in-Some.is) in
    record { exists = subst (HasBlock c.self.inside.disks) p.0 (has_block x c.self.inside.disks c.self.inside.last c.self.invariant c.args.slot e.0 e.1) }

pub returns : goal.returns
returns c =
    let x = c.self.inside.extents in
    let d = c.self.inside.disks in
    let e = extent_there x d c.self.inside.last c.self.invariant c.args.slot (rw (← c.self.view_is) at c.requires) in
    let p = some_pair_parts e.0.at c.in-Some.at e.0.birth c.in-Some._birth (sym (map_there x c.args.slot e.0 e.1) ∙ ap (λ f. extents.map_page x f (page_no 0)) (sym c.file_of.ensures) ∙ sym c.map.ensures ∙ c.in-Some.is) in
    rw (← c.self.view_is)
    (slot_found d c.self.inside.last x.rows c.self.invariant.slots c.args.slot ∙ ap (option_map (bytes_at d)) e.1 ∙ ap (λ (k : BlockAt). Some (block d k).bytes) p.0 ∙ ap Some (sym c.block.ensures.bytes))
