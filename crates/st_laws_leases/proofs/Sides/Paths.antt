-- Every event is steps of the machine of each server and its clients: each server of the world after it came from where it was.
use Rattle.st_lemmas.proofs.Words
use Words.{◌≡◌, ℕ, Some, refl, subst}
use Words.Server.{ServerNode}
use Words.World.{World, node_of, server}
use Rattle.st_protocol.specs.Assoc as net
use Rattle.st_protocol.specs.Assoc.{Config}
use Rattle.st_laws_refine.specs.Server.Paths.{Path, Here}
use Rattle.st_laws_leases.specs.Sides.Paths.{EventsArePaths, Led, pairs_of}
use Rattle.st_laws_leases.specs.Sides.World.{AllStand}
use Rattle.st_laws_leases.proofs.Sides.AllAssociations.{stays_led}

-- where the paths begin
abbrev Begins : (k : Config) (count : ℕ) (w : World) → AllStand k count w → ℕ → net.World → Type 0
Begins k count w all s V = (node : ServerNode) × (at : node_of w (server s) ≡ Some node) × (V ≡ pairs_of k w s node (all.servers s node at))

pub follows : EventsArePaths
follows k count w e sc all full taken =
    record {
      after = record led.all { servers = λ s node at. (led.servers s node at).stands };
      came = λ s next at. let l = led.servers s next at in
          record { node = l.is.0; before = l.is.1; path = subst (λ V. Path k V (pairs_of k sc.world s next l.stands)) l.is.2 l.path };
    }
  where
    led : Led k count sc.world (Begins k count w all)
    led = stays_led k count (Begins k count w all) w e sc
        (record {
          all = all;
          servers = λ s node at. record { stands = all.servers s node at; from = pairs_of k w s node (all.servers s node at); is = (node, at, refl); path = Here _ };
        }) full taken
