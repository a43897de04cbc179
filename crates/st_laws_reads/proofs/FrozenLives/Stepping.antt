-- Lives that a crash ended are frozen through each event at which no client crashes.
use Rattle.st_lemmas.proofs.Words
use Words.{◌≡◌, ℕ, ◌<◌, ◌⊎◌, List, [], ◌∷◌, Some, Ok, sym, ap, ◌∙◌, subst, inl, inr, arith, ClientId, Event, LogEntry, LogOwner, LeaseLife}
use Words.nodes
use Words.events
use Words.Events.{WorldTurn, counted, world_step}
use Words.Server.{ServerNode}
use Words.World.{World, WorldClient, clock_of, end_or_present, ended_of, site_of}
use Words.Worlds.{counted_admits}
use Rattle.st_protocol.specs.Assoc.{Config}
use Rattle.st_lemmas.proofs.Steps.{step_happens}
use Rattle.st_laws_pages.specs.Fates.Fates.{BeforeEnd, PendingAll}
use Rattle.st_laws_steps.specs.Lives.Lives.{LivesHold}
use Rattle.st_laws_pages.proofs.Lives.NodeTurns.{row_is}
use Rattle.st_laws_refine.specs.Server.Pair.{stamp_number}
use Rattle.st_laws_leases.specs.Sides.World.{AllStand, IsFull, ServerStands}
use Rattle.st_laws_leases.specs.Sides.Paths.{CameFrom, Followed, pairs_of}
use Rattle.st_laws_reads.specs.FrozenLives.Frozen.{FrozenLife, IsOver}
use Rattle.st_laws_reads.specs.FrozenLives.PendingEntries.{FrozenHold, OfCrashed, StandsStill, StoodLife, Tracked}
use Rattle.st_laws_leases.proofs.Sides.Paths.{follows}
use Rattle.st_laws_reads.proofs.FrozenLives.Tracked.{tracked}
use Rattle.st_laws_reads.proofs.FrozenLives.Walks.{paths_keep}
use Rattle.st_laws_refine.proofs.Server.Late.{clock_in}

-- two facts of what is pending
pub pending_both : (P Q R : LogOwner → Type 0) (es : List LogEntry) → ((o : LogOwner) → P o → Q o → R o) → PendingAll P es → PendingAll Q es → PendingAll R es
pending_both P Q R [] f a b = record {}
pending_both P Q R (e ∷ es) f a b = record { one = λ p. f e.of (a.one p) (b.one p); rest = pending_both P Q R es f a.rest b.rest }

-- the lease end of a life that ended is ahead
pub ahead : (w : World) (o : LogOwner) → BeforeEnd w o → (row : LeaseLife) → ended_of w o.client o.file.server o.life ≡ Some row → (clock_of w (nodes.Client o.client)).0 < stamp_number row.end
ahead w o b row q = let e = ap (λ x. stamp_number (end_or_present w o.client o.file.server x)) (sym q) ∙ ap stamp_number b.is in let z = b.before in omega (arith, e, z)

-- the site of a life that ended
pub site_there : (w : World) → LivesHold w → (o : LogOwner) (row : LeaseLife) → ended_of w o.client o.file.server o.life ≡ Some row → (site : WorldClient) × (site_of w o.client ≡ Some site)
site_there w h o row q =
    let y = row_is o.client o.file.server o.life w.ended row q in
    let x = h.lives.ends row y.0 in
    (x.site, subst (λ (c : ClientId). site_of w c ≡ Some x.site) y.1 x.there)

-- A life that was frozen still is at the end of a path.
module _ (k : Config) (count : ℕ) (w v : World) (all : AllStand k count w) (after : AllStand k count v) (o : LogOwner) (row : LeaseLife) (q : ended_of v o.client o.file.server o.life ≡ Some row) (b : BeforeEnd v o) where
  pub still_on : (next : ServerNode) (z : ServerStands k v o.file.server.0 next) (from : CameFrom k count w all v o.file.server.0 next z) → StoodLife k w o.file.server.0 from.node (all.servers o.file.server.0 from.node from.before) row o →
      StoodLife k v o.file.server.0 next z row o
  still_on next z from y =
      record {
        half = y.half;
        life = y.life;
        end = y.end;
        locked = y.locked;
        frozen = still (paths_keep k o.client.0 o.file.ino y.half _ _ after.sound y.locked from.path (inr y.frozen));
      }
    where
      still : IsOver k y.half ((pairs_of k v o.file.server.0 next z).at o.client.0) ⊎ FrozenLife k o.client.0 y.half.life y.half (pairs_of k v o.file.server.0 next z) → FrozenLife k o.client.0 y.half.life y.half (pairs_of k v o.file.server.0 next z)
      still (inr g) = g
      still (inl over) =
          let x = site_there v after.fates.lives o row q in
          let t = clock_in v o.client.0 o.file.server.0 (z.ended o.client.0) x.0 x.1 in
          let a = ahead v o b row q in
          let d = y.end in
          absurd (omega (arith, over, t, a, d))

module _ (k : Config) (count : ℕ) (w : World) (h : FrozenHold k count w) (e : Event) (sc : WorldTurn) (full : IsFull w e) (taken : world_step w e ≡ Ok sc) (never : (c : ClientId) → e ≡ events.Crash (nodes.Client c) → ⊥) where
  followed : Followed k count w h.all sc.world
  followed = follows k count w e sc h.all full taken

  was : Tracked (StandsStill k count w h.all) sc.world
  was =
      let p = step_happens w e sc taken in
      subst (λ (x : WorldTurn). Tracked (StandsStill k count w h.all) x.world) (sym p.1)
      (tracked (StandsStill k count w h.all) (counted w) e never (counted_admits w e p.0) (record { lives = record { lives = h.all.fates.lives.lives; known = h.all.fates.lives.known }; pending = h.frozen_lives }))

  pub frozen_go_on : FrozenHold k count sc.world
  frozen_go_on =
      record {
        all = followed.after;
        frozen_lives = pending_both (BeforeEnd sc.world) (OfCrashed (StandsStill k count w h.all) sc.world) (OfCrashed (StandsStill k count sc.world followed.after) sc.world) sc.world.log
            (λ o b g row q crashed next at.
            let from = followed.came o.file.server.0 next at in
            still_on k count w sc.world h.all followed.after o row q b next (followed.after.servers o.file.server.0 next at) from (g row q crashed from.node from.before))
            followed.after.fates.pending was.pending;
      }
