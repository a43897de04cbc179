use Rattle.st_lemmas.proofs.Words
use Words.{◌≡◌, ◌<◌, ◌≤◌, ◌-◌, ◌*◌, ◌/◌, ◌%◌, length, Some, slice_get, sym, ap, subst, ◌∙◌, arith}
use Rattle.std.proofs.Math.Nat.{mod-lt}
use Rattle.std.proofs.lemmas.Option.{slice_get-get_or}
use Rattle.st_move.specs.Chunks.{chunks_of}
use Rattle.st_move.proofs.InChunks.{behind_place, chunk_at, chunks_end, get_behind, get_in_chunk}
use Rattle.st_move.proofs.chunks.UpdateList.get.Goals as goal

pub get-requires-then-i-chunks : goal.get-requires-then-i-chunks
get-requires-then-i-chunks c =
    let n : length c.get.result.now ≡ 32 = chunk_at (chunks_of c.self.inside.chunks) (c.args.i / 32) c.get.result.now c.self.invariant c.get.ensures in
    let m : c.args.i % 32 < 32 = mod-lt c.args.i (omega arith) in
    omega (arith, n, m)

pub index-requires : goal.index-requires
index-requires c =
    let p : c.len-chunks.result * 32 ≤ c.args.i = chunks_end c.len-chunks.result c.args.i (omega (arith, c.if-i-chunks.false)) in
    let h = behind_place (chunks_of c.self.inside.chunks) c.self.inside.last.items c.args.self.now c.len-chunks.result c.args.i c.self.invariant c.self.view_is c.len-chunks.ensures p c.requires in
    omega (arith, h)

pub returns-then-i-chunks : goal.returns-then-i-chunks
returns-then-i-chunks c =
    ap (λ us. slice_get us c.args.i) (sym c.self.view_is)
    ∙ get_in_chunk (chunks_of c.self.inside.chunks) c.self.inside.last.items c.args.i c.get.result.now c.get-then-i-chunks.result.now c.self.invariant c.get.ensures c.get-then-i-chunks.ensures

pub returns-else-i-chunks : goal.returns-else-i-chunks
returns-else-i-chunks c =
    let cs = chunks_of c.self.inside.chunks in
    let us = c.self.inside.last.items in
    let place = c.args.i - c.len-chunks.result * 32 in
    let p : c.len-chunks.result * 32 ≤ c.args.i = chunks_end c.len-chunks.result c.args.i (omega (arith, c.if-i-chunks.false)) in
    let h : place < length us = behind_place cs us c.args.self.now c.len-chunks.result c.args.i c.self.invariant c.self.view_is c.len-chunks.ensures p c.requires in
    let there : slice_get us place ≡ Some c.index.result.now = slice_get-get_or us place c.index.result.now h ∙ ap Some (sym c.index.ensures) in
    ap (λ zs. slice_get zs c.args.i) (sym c.self.view_is)
    ∙ get_behind cs us c.args.i c.index.result.now c.self.invariant (subst (λ n. n * 32 ≤ c.args.i) c.len-chunks.ensures p)
    (subst (λ n. slice_get us (c.args.i - n * 32) ≡ Some c.index.result.now) c.len-chunks.ensures there)
