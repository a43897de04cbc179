use Rattle.std.proofs.Common.{◌≡◌, ◌∙◌, ap, subst}
use Rattle.std.specs.Prelude.{OnOk}
use Rattle.st_rules.specs.ClientPages.{dirty_places}
use Rattle.st_rules.specs.ClientPasses.{write_each, writes_by}
use Rattle.st_rules.specs.ClientState.{Turn}
use Rattle.st_client_association.specs.Turns.{session_of}
use Rattle.st_client_passes.proofs.writes.write_all.Goals as goal

pub returns : goal.returns
unfolding writes_by
returns c =
    subst (λ u. OnOk c.write_each.result (c.write_each.new.t ≡ u))
    (ap (λ places. write_each (session_of c.args.t.now) c.args.now c.args.tick places c.args.t.now)
    (c.as_slice.ensures.value ∙ c.in_ok-places.ensures ∙ ap (λ (t : Turn). dirty_places t.here.store.pages) c.turn.ensures))
    c.write_each.ensures
