-- No counter of a reached world of fewer than 2^29 events is at its end, by the laws on counters.
use Rattle.st_lemmas.proofs.Words
use Words.{◌≡◌, ℕ, ◌+◌, ◌*◌, ◌^◌, ◌<◌, true, Option, Some, None, refl, arith, nat_lt, lt-ltb, ClientId, ServerId}
use Words.Tables.{all_pass, and_both}
use Words.ClientState.{Association, ClientSession, ClientState}
use Words.Server.{ServerNode}
use Words.World.{World, WorldClient, node_of, site_of}
use Rattle.st_client.specs.Room as client_room
use Rattle.st_client_association.specs.Associations.{has_room_at, may_ask}
use Rattle.st_laws_bounds.specs.Counters.Counts.{AsksLow, ClientsFew, LocksFew, ReadsFew, ServersFew, TheftsFew}
use Rattle.st_laws_bounds.specs.Counters.Rises.{ClientsWithin, IsWithin, IsWithinAt}
use Rattle.st_laws_bounds.specs.Counters.ReachedWorlds as laws
use Rattle.st_laws_bounds.specs.Counters.ReachedWorlds.{InEveryReached}
use Rattle.st_world.specs.Counters.{CountersHaveRoom, NodeHasRoom, SiteHasRoom}
use Rattle.st_world.specs.ReachedWorlds.{IsReached}

asks_low : (most : ℕ) (s : Option ClientSession) → most < 2 ^ 62 → AsksLow most s → may_ask s ≡ true
asks_low most None few low = refl
asks_low most (Some s) few low = lt-ltb _ _ (omega (arith, few, low))

room_at : (most : ℕ) (a : Association) → most < 2 ^ 62 → IsWithinAt most a → has_room_at a ≡ true
room_at most a few h =
    let versions : nat_lt a.store.pages.next_version (2 ^ 62) ≡ true = lt-ltb _ _ (omega (arith, h.versions, few)) in
    let lives : nat_lt a.life.0 (2 ^ 62) ≡ true = lt-ltb _ _ (omega (arith, h.lives, few)) in
    and_both _ _ versions (and_both _ _ lives (asks_low most a.session few h.requests))

client_has : (most : ℕ) (s : ClientState) → most < 2 ^ 62 → IsWithin most s → client_room.HasRoom s
client_has most s few h =
    record { commands = omega (arith, h.commands, few); each = all_pass has_room_at s.associations (λ a i. room_at most a few (h.each a i)) }

pub have_room : InEveryReached ClientsFew → InEveryReached ClientsWithin → InEveryReached ServersFew → InEveryReached LocksFew → InEveryReached ReadsFew → InEveryReached TheftsFew →
    (w : World) → IsReached w → w.tally.events < 2 ^ 29 → CountersHaveRoom w
have_room counts within servers locks reads thefts w r few =
    record {
      reads = (let n = reads r.config r.clients r.servers r.disks r.blocks r.form r.events w by in omega (arith, n, few));
      stolen = (let n = thefts r.config r.clients r.servers r.disks r.blocks r.form r.events w by in omega (arith, n, few));
      clients = site;
      servers = node;
    }
  where
    by : laws.IsReachedBy r.config r.clients r.servers r.disks r.blocks r.form r.events w
    by = record { head = r.by.head; events = r.by.events; world = r.by.world; stands = r.by.stands }

    site : (c : ClientId) (x : WorldClient) → site_of w c ≡ Some x → SiteHasRoom x
    site c x e =
        let f = counts r.config r.clients r.servers r.disks r.blocks r.form r.events w by c x e in
        let i = within r.config r.clients r.servers r.disks r.blocks r.form r.events w by c x e in
        let a = f.asks in let s = f.starts in
        record { asks = omega (arith, a, few); starts = omega (arith, s, few); counters = client_has (1 + 32768 * w.tally.events) x.node.state (omega (arith, few)) i }

    node : (s : ServerId) (x : ServerNode) → node_of w s ≡ Some x → NodeHasRoom x
    node s x e =
        let f = servers r.config r.clients r.servers r.disks r.blocks r.form r.events w by s x e in
        let l = locks r.config r.clients r.servers r.disks r.blocks r.form r.events w by s x e in
        let p = f.epochs in let n = f.inodes in let b = f.births in
        record { epochs = omega (arith, p, few); counters = record { locks = omega (arith, l); inodes = omega (arith, n, few); births = omega (arith, b, few) } }
