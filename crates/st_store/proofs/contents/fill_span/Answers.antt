use Rattle.std.proofs.Common.{◌≡◌, ◌+◌, ◌-◌, length, ap, ◌∙◌, sym, refl, List, ℕ, replicate, arith, length-drop, rules}
use Rattle.std.proofs.lemmas.List.{length-replicate, length-take}
use borrow.Rule.Slice.PartMut.{put_mid}
use Rattle.st_store.proofs.Parts.{put_written}
use Rattle.st_store.proofs.contents.fill_span.Goals as goal

pub returns : goal.returns
returns c =
    let at = c.args.span.at in
    let count = c.args.span.count in
    let long : length (Rattle.std.proofs.Common.take (at + count - at) (Rattle.std.proofs.Common.drop at c.args.bytes.now)) ≡ count =
    omega (arith, length-take (at + count - at) (Rattle.std.proofs.Common.drop at c.args.bytes.now), length-drop at c.args.bytes.now, c.requires) in
    let filled : c.fill.new.self ≡ replicate (length (Rattle.std.proofs.Common.take (at + count - at) (Rattle.std.proofs.Common.drop at c.args.bytes.now))) c.args.byte = search rules in
    let is : c.fill.new.self ≡ replicate count c.args.byte = filled ∙ ap (λ (n : ℕ). replicate n c.args.byte) long in
    ap (λ (b : List ℕ). put_mid at (at + count - at) c.args.bytes.now b) is
    ∙ put_written at (at + count) c.args.bytes.now (replicate count c.args.byte) (omega (arith, length-replicate count c.args.byte)) c.requires
