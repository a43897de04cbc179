-- The outstanding request of a session is the last one that it asked.
use Rattle.std.specs.Prelude.{◌≡◌, ◌+◌, ℕ, List, [], Option, Some, None}
use Rattle.st_base.specs.declared.config.Config.{Config}
use Rattle.st_base.specs.declared.ids.ClientId.{ClientId}
use Rattle.st_messages.specs.declared.event.Event.{Event}
use Rattle.st_rules.specs.declared.client.Request.{Request}
use Rattle.st_rules.specs.ClientState.{Association, ClientSession, Requests}
use Rattle.st_rules.specs.History.{traced}
use Rattle.st_rules.specs.Safety.{Promise, Throughout, steps}
use Rattle.st_rules.specs.World.{World, WorldClient, fresh_world, site_of}
use Rattle.st_lemmas.specs.Lists.{Has}

-- the outstanding request has the number before the next
abbrev pub IsLastRequest : Requests → Type 0
IsLastRequest r = (q : Request) → r.asked ≡ Some q → q.number + 1 ≡ r.next

-- in a session, if there is one
abbrev pub AsksLast : Option ClientSession → Type 0
AsksLast None = Unit {0}
AsksLast (Some s) = IsLastRequest s.requests

-- in every session of every client of a world
abbrev pub AllLast : World → Type 0
AllLast w = (c : ClientId) (site : WorldClient) → site_of w c ≡ Some site → (a : Association) → Has a site.node.state.associations → AsksLast a.session

-- after a step
abbrev pub LastAfter : Promise
LastAfter past x = AllLast x.after.world

-- In every run, with no premise: outstanding requests are the last ones.
abbrev pub RequestsAreLast : Type 0
RequestsAreLast =
    (k : Config) (clients servers disks blocks form : ℕ) (es : List Event) →
    Throughout LastAfter [] (steps es (traced (fresh_world k clients servers disks blocks form)))
