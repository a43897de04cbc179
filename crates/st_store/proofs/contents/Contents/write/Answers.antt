use Rattle.std.proofs.Common.{◌≡◌, ◌+◌, ◌≤◌, ◌++◌, ◌∷◌, [], length, List, ℕ, take, drop, sym, ap, ◌∙◌, subst, rules, arith}
use Rattle.st_store.specs.InMemory.{Contents}
use Rattle.st_store.specs.Invariants.{IsKept}
use Rattle.st_store.specs.Laws.{length-written}
use Rattle.st_store.specs.Store.{written}
use Rattle.st_store.specs.declared.history.Span.{Span}
use Rattle.st_store.specs.declared.history.StoreCall.TheVariants.{Write}
use Rattle.st_store.proofs.Parts.{kept_write, whole_written}
use Rattle.st_store.proofs.contents.Contents.write.Goals as goal

pub invariant_of-self-2 : goal.invariant_of-self-2
invariant_of-self-2 c =
    let items = c.self.inside.bytes.items in
    let new = c.args.new.now in
    let put : c.put.new.bytes ≡ written items c.args.at new = search rules in
    let size : length c.put.new.bytes ≡ length items = ap length put ∙ length-written items c.args.at new in
    let now : take c.self.inside.bytes.len (c.put.new.bytes ++ drop (length c.put.new.bytes) items) ≡ c.put.new.bytes = whole_written c.self.inside.bytes.len items c.put.new.bytes (search rules) size in
    let later : c.push.new.self.items ≡ c.self.inside.history.items ++ Write c.self.inside.fill c.args.at new ∷ [] = search rules in
    let span : Span = record { at = c.args.at; count = length new } in
    let more : c.push-2.new.self.items ≡ c.self.inside.loose.items ++ span ∷ [] = search rules in
    let room : c.args.at + length new ≤ length items = omega (arith, c.requires, ap (λ (s : Contents). s.size) c.self.view_is) in
    let kept = kept_write (length items) c.self.inside.history.items c.self.inside.fill items c.self.inside.loose.items c.self.invariant c.args.at new
    c.push.new.self.items c.push-2.new.self.items c.put.new.bytes later more put room in
    let long : length items ≡ length (take c.self.inside.bytes.len (c.put.new.bytes ++ drop (length c.put.new.bytes) items)) = sym (ap length now ∙ size) in
    subst (λ (n : ℕ). IsKept (record { size = n; history = c.push.new.self.items; fill = Rattle.std.specs.Prelude.None }) (take c.self.inside.bytes.len (c.put.new.bytes ++ drop (length c.put.new.bytes) items)) c.push-2.new.self.items) long
    (subst (λ (b : List ℕ). IsKept (record { size = length items; history = c.push.new.self.items; fill = Rattle.std.specs.Prelude.None }) b c.push-2.new.self.items) (sym now) kept)
