-- In every run each grant number of a server has a client and a file: they are those of the grant
-- that was sent under it.
use Rattle.st_lemmas.proofs.Words
use Words.{◌≡◌, ℕ, true, List, [], Option, Some, None, Ok, sym, ap, subst, arith}
use Words.{Event}
use Words.Client as cl
use Words.ClientState.{Association}
use Words.Events.{WorldTurn, world_step}
use Words.Extents.{numbers}
use Words.History.{Traced}
use Words.Lists.{Has}
use Words.Safety.{Step, is_event}
use Words.Server as server
use Words.Tables.{has_map}
use Words.World.{World, WorldClient, fresh_site, fresh_world, node_at_start}
use Rattle.st_base.specs.declared.config.Config as base
use Rattle.st_protocol.specs.Assoc as net
use Rattle.st_laws_pages.proofs.Lives.Fresh.{fresh_is}
use Rattle.st_laws_refine.specs.Client.Invariants.{Kept}
use Rattle.st_laws_refine.specs.Views.Halves.{held_in}
use Rattle.st_laws_extents.proofs.CutRequests.Law.{Hold, owed}
use Rattle.st_laws_grants.specs.Owners.{AllGiveOnce, GivesOnce, Side}
use Rattle.st_laws_grants.proofs.World.{goes_on}

pub gives_on : (k : net.Config) (count : ℕ) (past : List Step) (t : Traced) (e : Event)
    (sc : WorldTurn) →
    is_event count e ≡ true → Hold k count past t → world_step t.world e ≡ Ok sc →
    AllGiveOnce t.world →
    AllGiveOnce sc.world
gives_on k count past t e sc r h f g =
    (goes_on k count t.world h.all g (λ s n at. (h.cuts.servers s n at).id) e sc
    (owed k count past t e sc r h f) f).0

pub fresh_gives : (k : base.Config) (clients servers disks blocks form : ℕ) →
    AllGiveOnce (fresh_world k clients servers disks blocks form)
unfolding fresh_world cl.fresh_client server.fresh_server
fresh_gives k clients servers disks blocks form s node e =
    subst (GivesOnce w s) (sym (fresh_is (node_at_start k servers disks blocks) servers s.0 node e))
    fresh
  where
    w : World
    w = fresh_world k clients servers disks blocks form

    none : {A B : Type 0} {x : A} → ◌≡◌ {A = Option A} None (Some x) → B
    none e = cc

    empty : (c : ℕ) (a : Association) → a.session ≡ None → Side (λ n. None) c a []
    empty c a e =
        record {
          kept = subst (λ x. Kept a.life.0 a.store x []) (sym e) tt;
          held = λ i l. absurd (let y = ap (λ x. (held_in x i).mode) e in omega (arith, l, y));
        }

    session : (c : ℕ) (site : WorldClient) → site ≡ fresh_site k servers c → (a : Association) →
        Has a site.node.state.associations → a.session ≡ None
    session c site e a i =
        let z = has_map cl.fresh_association (numbers 1 servers) a
        (subst (λ (y : WorldClient). Has a y.node.state.associations) e i) in
        ap (λ (y : Association). y.session) z.2

    fresh : GivesOnce w s (node_at_start k servers disks blocks s.0)
    fresh =
        record {
          owner = λ n. None;
          state = (record { low = λ n y e. none e; rows = λ r h. absurd h }, λ c x e. none e);
          told = λ n y e. none e;
          pairs = λ c. record {
            net = [];
            tells = λ m h. absurd h;
            shows = λ m h from to. absurd h;
            receives = λ m h to of from. absurd h;
            side = λ site e a i here.
                empty c a (session c site (fresh_is (fresh_site k servers) clients c site e) a i);
          };
        }
