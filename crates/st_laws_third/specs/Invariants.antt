-- What holds of the clients of a world of the third form after each event.
use Rattle.std.specs.Prelude.{◌≡◌, ℕ, List, [], length, Some}
use Rattle.st_base.specs.declared.config.Config.{Config}
use Rattle.st_rules.specs.ClientState.{Association}
use Rattle.st_rules.specs.World.{WorldClient, numbered}
use Rattle.st_lemmas.specs.Lists.{Has}
use Rattle.st_laws_steps.specs.Client.Losses.{Fit}
use Rattle.st_third.specs.declared.event.ThirdEvent.{ThirdEvent}
use Rattle.st_third.specs.declared.limits.Limits.{Limits}
use Rattle.st_third.specs.Promises.{ThirdPromise, Throughout}
use Rattle.st_third.specs.State.{ClientBeside}
use Rattle.st_third.specs.Steps.{steps, third_traced}
use Rattle.st_third.specs.World.{ThirdWorld, third_world}

-- A client has the world's settings; its dirty pages are known as mapped, and nothing is known of the
-- page whose place it asks for.
pub record ClientFits (k : Config) (site : WorldClient) : Type 0 where
  pub config : site.node.state.config ≡ k
  pub fit : (a : Association) → Has a site.node.state.associations → Fit a

-- So it is with each client, and something is beside each of its associations.
pub record WorldFits (w : ThirdWorld) : Type 0 where
  pub sites : (n : ℕ) (site : WorldClient) → numbered w.world.clients n ≡ Some site → ClientFits w.world.config site
  pub there : (n : ℕ) (site : WorldClient) → numbered w.world.clients n ≡ Some site → (b : ClientBeside) × (numbered w.besides n ≡ Some b)
  pub pairs : (n : ℕ) (site : WorldClient) (b : ClientBeside) → numbered w.world.clients n ≡ Some site → numbered w.besides n ≡ Some b →
      length b.besides ≡ length site.node.state.associations

-- after an event
abbrev pub ClientsFit : ThirdPromise
ClientsFit past x = WorldFits x.after.third

-- In every run of the third form
abbrev pub EveryClientFits : Type 0
EveryClientFits =
    (k : Config) (m : Limits) (clients servers disks blocks : ℕ) (es : List ThirdEvent) →
    Throughout ClientsFit [] (steps es (third_traced (third_world k m clients servers disks blocks 3)))
