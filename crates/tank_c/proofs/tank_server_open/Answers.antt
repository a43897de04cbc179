use Rattle.std.proofs.Common.{sym, subst, ◌∙◌, length, rules}
use Rattle.st_base.specs.declared.config.Config.{Config}
use Rattle.st_embed.specs.Servers.{MayOpen}
use Rattle.tank_c.specs.Calls.{server_id, stamp}
use Rattle.tank_c.specs.ServerCalls.{shape_of}
use Rattle.tank_c.proofs.Unopened.{no_server_memory, no_server_opened}
use Rattle.tank_c.proofs.tank_server_open.Goals as goal

pub returns-in-Ok-clause-refused : goal.returns-in-Ok-clause-refused
returns-in-Ok-clause-refused c =
    λ _. no_server_memory c.args.server.now.slot.value c.args.settings.now c.args.shape.now c.args.now c.args.journal.now (sym c.args.server.now.agrees ∙ c.if-server.false)
    (subst (λ (k : Config). MayOpen (server_id c.args.shape.now.id) k (shape_of c.args.shape.now) (stamp c.args.now) (length c.args.journal.now)) c.config_of.ensures c.in-Ok.ensures.may)

pub returns-clause-refused : goal.returns-clause-refused
returns-clause-refused c =
    λ _. no_server_opened c.args.server.now.slot.value c.args.settings.now c.args.shape.now c.args.now c.args.journal.now c.config_of.result _ c.server_open_code.result c.server_open_place.result
    (search rules) c.config_of.ensures c.server_open_code.ensures.exact c.server_open_place.ensures (sym c.args.server.now.agrees ∙ c.if-server.false)
