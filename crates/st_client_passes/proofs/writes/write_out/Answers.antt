use Rattle.std.proofs.Common.{◌∙◌, ap, sym}
use Rattle.st_rules.specs.ClientPages.{mapping_of}
use Rattle.st_rules.specs.ClientState.{Turn}
use Rattle.st_client_passes.proofs.Writing.{out_none, out_some}
use Rattle.st_client_passes.proofs.writes.write_out.Goals as goal

pub returns-in-None : goal.returns-in-None
returns-in-None c = λ d e. out_none c.args.t.now c.args.ino c.args.page d e (sym c.in-None.is ∙ c.mapping.ensures ∙ ap (λ (u : Turn). mapping_of u.here.store.extents c.args.ino c.args.page) c.turn.ensures)

pub returns-in_ok-submit_write-in-Some : goal.returns-in_ok-submit_write-in-Some
returns-in_ok-submit_write-in-Some c = λ d e. c.in_ok-submit_write-in-Some.ensures d e ∙ out_some c.args.t.now c.args.ino c.args.page d c.in-Some.mapping e (sym c.in-Some.is ∙ c.mapping.ensures ∙ ap (λ (u : Turn). mapping_of u.here.store.extents c.args.ino c.args.page) c.turn.ensures)
