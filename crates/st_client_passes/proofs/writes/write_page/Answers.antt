use Rattle.std.proofs.Common.{◌∙◌, sym}
use Rattle.std.proofs.lemmas.Result.{on_ok_weaker}
use Rattle.st_rules.specs.ClientPages.{dirty_of}
use Rattle.st_client_association.specs.Turns.{session_of}
use Rattle.st_client_passes.proofs.Writing.{due_free, due_out, not_due}
use Rattle.st_client_passes.proofs.writes.write_page.Goals as goal

pub write_out-requires-clause-free : goal.write_out-requires-clause-free
write_out-requires-clause-free c = due_free c.args.t.now (session_of c.args.t.now) c.args.now c.args.tick c.args.ino c.args.page (sym c.is_place_due.ensures ∙ c.if-is_place_due.true)

pub returns-then-is_place_due : goal.returns-then-is_place_due
returns-then-is_place_due c =
    on_ok_weaker c.write_out.result
    (due_out c.args.t.now (session_of c.args.t.now) c.args.now c.args.tick c.write_out.new.t (dirty_of c.args.t.now.here.store.pages c.args.ino c.args.page) (sym c.is_place_due.ensures ∙ c.if-is_place_due.true))
    c.write_out.ensures

pub returns-else-is_place_due : goal.returns-else-is_place_due
returns-else-is_place_due c = not_due c.args.t.now (session_of c.args.t.now) c.args.now c.args.tick (dirty_of c.args.t.now.here.store.pages c.args.ino c.args.page) (sym c.is_place_due.ensures ∙ c.if-is_place_due.false)
