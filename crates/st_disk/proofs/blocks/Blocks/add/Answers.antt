use Rattle.std.proofs.Common.{sym, ap, ◌∙◌, if◌then◌else◌}
use Rattle.std.specs.Prelude.{Some, None}
use Rattle.std.specs.List.{position}
use Rattle.std.specs.Map.{lookup}
use Rattle.indexmap.specs.IndexMap.{get}
use Rattle.st_rules.specs.Disks.{is_block_at}
use Rattle.st_rules.specs.Keys.{put}
use Rattle.st_lemmas.proofs.PutPlaces.{put_behind}
use Rattle.st_disk.specs.Indexes.{place_key, same_place}
use Rattle.st_disk.proofs.Places.{index_more}
use Rattle.st_disk.proofs.blocks.Blocks.add.Goals as goal

pub invariant_of-self-2 : goal.invariant_of-self-2
invariant_of-self-2 c = λ at.
    c.keep.ensures (place_key at)
    ∙ (λ i. if same_place (c.place_key-key.ensures i) (place_key at) then Some (c.count_of-index.ensures i) else lookup (same_place (place_key at)) (c.in_ok-reserve.ensures.entries i))
    ∙ index_more c.self.inside.written.items c.args.block at (get same_place c.self.inside.indexes (place_key at)) (ap (position (is_block_at c.args.block.at)) c.self.view_is ∙ c.requires) (c.self.invariant at)
    ∙ ap (position (is_block_at at)) (sym c.in_ok-push.ensures.items)

pub returns-clause-ok : goal.returns-clause-ok
returns-clause-ok c =
    let none = ap (position (is_block_at c.args.block.at)) c.self.view_is ∙ c.requires in
    c.in_ok-push.ensures.items
    ∙ sym (put_behind (is_block_at c.args.block.at) c.args.block c.self.inside.written.items (sym none))
    ∙ ap (put (is_block_at c.args.block.at) c.args.block) c.self.view_is
