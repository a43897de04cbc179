-- Files of which a client knows where pages lie: their servers have them.
use Rattle.std.specs.Prelude.{◌≡◌, true, Some}
use Rattle.st_base.specs.declared.ids.ClientId.{ClientId}
use Rattle.st_base.specs.declared.ids.NodeId.TheVariants as nodes
use Rattle.st_rules.specs.declared.client.KnownExtent.{KnownExtent}
use Rattle.st_rules.specs.ClientState.{Association}
use Rattle.st_rules.specs.Names.{is_file}
use Rattle.st_rules.specs.Safety.{Promise}
use Rattle.st_rules.specs.Server.{ServerNode}
use Rattle.st_rules.specs.World.{World, WorldClient, clock_of, node_of, site_of}
use Rattle.st_lemmas.specs.Lists.{Has}
use Rattle.st_laws_refine.specs.Client.Invariants.{Lasts}

-- What a client that runs knows of extents, under a lease that isn't over, is of files that the server has.
pub record SiteKnowsFiles (w : World) (c : ClientId) (site : WorldClient) : Type 0 where
  pub files : site.node.running ≡ true → (a : Association) → Has a site.node.state.associations →
      Lasts site.node.state.config.lease (clock_of w (nodes.Client c)).0 a.session → (e : KnownExtent) → Has e a.store.extents →
      (node : ServerNode) → node_of w a.server ≡ Some node → is_file node.state.stable.names e.ino ≡ true

-- all clients
abbrev pub AllKnowFiles : World → Type 0
AllKnowFiles w = (c : ClientId) (site : WorldClient) → site_of w c ≡ Some site → SiteKnowsFiles w c site

-- Known files exist: after every event.
abbrev pub KnownFilesExist : Promise
KnownFilesExist past x = AllKnowFiles x.after.world
