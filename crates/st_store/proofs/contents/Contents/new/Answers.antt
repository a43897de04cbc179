use Rattle.std.proofs.Common.{◌≡◌, [], rules}
use Rattle.st_store.proofs.Parts.{kept_new}
use Rattle.st_store.proofs.contents.Contents.new.Goals as goal

pub invariant_of-result : goal.invariant_of-result
invariant_of-result c =
    let history : c.new.result.items ≡ [] = search rules in
    let loose : c.new-2.result.items ≡ [] = search rules in
    kept_new c.args.size c.in_ok-vec.field-0.items c.new.result.items c.new-2.result.items (c.in_ok-vec.ensures.items_if_clones_equal (λ y h. h)) history loose
