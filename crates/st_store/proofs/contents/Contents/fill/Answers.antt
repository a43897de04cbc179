use Rattle.std.proofs.Common.{◌≡◌, ◌++◌, length, List, ℕ, take, drop, sym, ap, ◌∙◌, subst, rules}
use Rattle.st_store.specs.InMemory.{filled}
use Rattle.st_store.specs.Invariants.{IsKept}
use Rattle.st_store.specs.Laws.{length-filled}
use Rattle.st_store.proofs.Parts.{kept_fill, whole_written}
use Rattle.st_store.proofs.contents.Contents.fill.Goals as goal

pub invariant_of-self : goal.invariant_of-self
invariant_of-self c =
    let items = c.self.inside.bytes.items in
    let loose = c.self.inside.loose.items in
    let is : c.fill_spans.new.bytes ≡ filled c.args.byte loose items = search rules in
    let size : length c.fill_spans.new.bytes ≡ length items = ap length is ∙ length-filled c.args.byte loose items in
    let now : take c.self.inside.bytes.len (c.fill_spans.new.bytes ++ drop (length c.fill_spans.new.bytes) items) ≡ c.fill_spans.new.bytes = whole_written c.self.inside.bytes.len items c.fill_spans.new.bytes (search rules) size in
    let kept = kept_fill (length items) c.self.inside.history.items c.self.inside.fill items loose c.self.invariant c.args.byte c.fill_spans.new.bytes is in
    let long : length items ≡ length (take c.self.inside.bytes.len (c.fill_spans.new.bytes ++ drop (length c.fill_spans.new.bytes) items)) = sym (ap length now ∙ size) in
    subst (λ (n : ℕ). IsKept (record { size = n; history = c.self.inside.history.items; fill = Rattle.std.specs.Prelude.Some c.args.byte }) (take c.self.inside.bytes.len (c.fill_spans.new.bytes ++ drop (length c.fill_spans.new.bytes) items)) loose) long
    (subst (λ (b : List ℕ). IsKept (record { size = length items; history = c.self.inside.history.items; fill = Rattle.std.specs.Prelude.Some c.args.byte }) b loose) (sym now) kept)
