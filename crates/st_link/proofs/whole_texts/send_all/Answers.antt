use Rattle.std.proofs.Common.{◌∙◌, subst, sym, arith}
use Rattle.std.specs.Io.KnownBytes.{Appends}
use Rattle.std.proofs.KnownBytes.{Appends-trans}
use Rattle.std.proofs.lemmas.List.{take_rest}
use Rattle.std.proofs.Math.Seq.{take-add}
use Rattle.st_link.proofs.whole_texts.send_all.Goals as goal

-- the bytes before the piece, and then those of the piece, are the first bytes
pub loop-done-preserved : goal.loop-done-preserved
loop-done-preserved g c = record {
  in_range = omega (arith, c.in_ok-n.ensures.bound);
  written = subst (λ xs. Appends (g.L.Sink.written c.args.link.now) (g.L.Sink.written c.send.new.self) xs) (rw take_rest (sym (take-add _ _ _)))
      (Appends-trans _ (g.L.Sink.written c.loop-done.link) _ _ _ c.loop-done.invariant.written c.in_ok-n.ensures.bytes);
  kept = c.send.ensures.left ∙ c.loop-done.invariant.kept;
  names = c.send.ensures.names ∙ c.loop-done.invariant.names;
  still = c.in_ok-n.ensures.cause.still ∙ c.loop-done.invariant.still;
}
