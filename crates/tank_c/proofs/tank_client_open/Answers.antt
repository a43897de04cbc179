use Rattle.std.proofs.Common.{sym, subst, ◌∙◌}
use Rattle.st_base.specs.declared.config.Config.{Config}
use Rattle.st_embed.specs.Clients.{MayOpen}
use Rattle.tank_c.specs.Calls.{client_id}
use Rattle.tank_c.proofs.Unopened.{no_memory}
use Rattle.tank_c.proofs.tank_client_open.Goals as goal

pub returns-in-Ok-clause-refused : goal.returns-in-Ok-clause-refused
returns-in-Ok-clause-refused c =
    λ _. no_memory c.args.client.now.slot.value c.args.id c.args.settings.now c.args.lives.now (sym c.args.client.now.agrees ∙ c.if-client.false)
    (subst (λ (k : Config). MayOpen (client_id c.args.id) k c.args.lives.now) c.config_of.ensures c.in-Ok.ensures.may)
