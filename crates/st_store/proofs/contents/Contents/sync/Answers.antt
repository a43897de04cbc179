use Rattle.std.proofs.Common.{◌≡◌, ◌++◌, ◌∷◌, [], length, rules}
use Rattle.st_store.specs.declared.history.StoreCall.TheVariants.{Sync}
use Rattle.st_store.proofs.Parts.{kept_sync}
use Rattle.st_store.proofs.contents.Contents.sync.Goals as goal

pub invariant_of-self-2 : goal.invariant_of-self-2
invariant_of-self-2 c =
    let later : c.push.new.self.items ≡ c.self.inside.history.items ++ Sync c.self.inside.fill ∷ [] = search rules in
    kept_sync (length c.self.inside.bytes.items) c.self.inside.history.items c.self.inside.fill c.self.inside.bytes.items c.self.inside.loose.items c.self.invariant
    c.push.new.self.items c.clear.new.self.items later c.clear.ensures.items
