-- Lives that a crash ended, of which a write is not reported, are frozen up to their lease ends, through each event at which no client crashes.
use Rattle.st_lemmas.proofs.Words
use Words.{◌≡◌, ℕ, ◌≤◌, ◌⊎◌, true, false, List, Some, None, Ok, sym, ap, ◌∙◌, subst, inl, inr, arith, length, ClientId, Stamp, Event, ClientInput, LogOwner}
use Words.{LeaseLife}
use Words.nodes
use Words.events
use Words.Admissible as adm
use Words.Client as cl
use Words.Events as ev
use Words.Events.{WorldTurn, client_says_all, counted, world_step}
use Words.Server.{ServerNode}
use Words.World as world
use Words.World.{World, WorldClient, clock_of, ended_of, node_of, numbered, server, site_of}
use Words.Worlds.{counted_admits}
use Rattle.st_protocol.specs.Assoc.{Config}
use Rattle.st_lemmas.proofs.Steps.{step_happens}
use Rattle.st_laws_pages.proofs.Lives.Each.{SteppedNode, each_event}
use Rattle.st_laws_pages.proofs.Lives.Lasting.{flush_parts}
use Rattle.st_laws_pages.proofs.Disks.Moves.{clock_up}
use Rattle.st_laws_pages.proofs.Lives.Turning.{says_lives}
use Rattle.st_laws_leases.specs.Sides.World.{AllStand, IsFull, ServerStands}
use Rattle.st_laws_refine.specs.Server.Pair.{stamp_number}
use Rattle.st_laws_reads.specs.FrozenLives.PendingEntries.{StoodLife}
use Rattle.st_laws_reads.specs.FrozenLives.Frozen.{FrozenLife, IsOver}
use Rattle.st_laws_leases.specs.Sides.Paths.{CameFrom, Followed, pairs_of}
use Rattle.st_laws_leases.proofs.Sides.Paths.{follows}
use Rattle.st_laws_reads.proofs.FrozenLives.Stepping.{site_there}
use Rattle.st_laws_reads.proofs.FrozenLives.Walks.{paths_keep}
use Rattle.st_laws_reads.specs.OpenWrites.StandStill.{OpenTracked, OverOrStill, WritesHold, writer}
use Rattle.st_laws_reads.proofs.OpenWrites.Tracked.{tracked}
use Rattle.st_laws_refine.proofs.Server.Late.{clock_in}

-- A client's clock goes on.
module _ (d : ClientId) (n : ℕ) where
  abbrev Reads : World → Type 0
  Reads w = n ≤ (clock_of w (nodes.Client d)).0

  reads_same : (w v : World) → v.clocks ≡ w.clocks → Reads w → Reads v
  reads_same w v e h = subst (λ ts. n ≤ (Rattle.std.specs.Prelude.unwrap_or (numbered ts d.0) (world.stamp 0)).0) (sym e) h

  reads_step : (w : World) (c : ClientId) (input : ClientInput) (old site : WorldClient) → site_of w c ≡ Some old → old.node ≡ site.node → site.node.running ≡ true → Reads w → Reads (ev.client_took w c site (Ok (SteppedNode w c site input))).world
  unfolding ev.client_took
  reads_step w c input old site there same r h = reads_same w (ev.flushes c t.node.state (world.all_servers u) u) (fl ∙ said) h
    where
      t : cl.NodeTurn
      t = SteppedNode w c site input

      v : World
      v = ev.with_site c (ev.at_node t.node site) w

      u : World
      u = (client_says_all c site.node.state t.out (ev.quiet v)).world

      said : u.clocks ≡ v.clocks
      said = (says_lives c site.node.state t.out (ev.quiet v)).clocks

      fl : (ev.flushes c t.node.state (world.all_servers u) u).clocks ≡ u.clocks
      fl = (flush_parts c t.node.state (world.all_servers u) u).clocks

  reads_advance : (w : World) (steps : List ℕ) → Reads w → Reads (ev.advances w steps).world
  unfolding ev.advances ev.marks
  reads_advance w steps h = let z = clock_up w steps d in omega (arith, h, z)

  reads_start : (w : World) (c : ClientId) (site : WorldClient) → site_of w c ≡ Some site → site.node.running ≡ false → Reads w → Reads (ev.starts_client w c (Some site))
  unfolding ev.starts_client
  reads_start w c site there r h = h

  reads_on : (w : World) (e : Event) → ((c : ClientId) → e ≡ events.Crash (nodes.Client c) → ⊥) → adm.refusal w e ≡ None → Reads w → Reads (ev.happens w e).world
  reads_on w e never r h =
      each_event (λ c. ⊥) Reads (record { besides = λ w n s d t g h. h; cut = λ w f p g. g; hard = λ w x g. g; client = reads_step; advance = reads_advance; crash = λ w c site no. absurd no; start = reads_start }) w e never r h

-- A life that was frozen still is at the end of a path, or its lease is over.
module _ (k : Config) (count : ℕ) (w v : World) (all : AllStand k count w) (after : AllStand k count v) (o : LogOwner) (row : LeaseLife) (q : ended_of v o.client o.file.server o.life ≡ Some row) (end : Stamp) (is : row.end ≡ Some end) where
  pub still_on : (next : ServerNode) (z : ServerStands k v o.file.server.0 next) (from : CameFrom k count w all v o.file.server.0 next z) → StoodLife k w o.file.server.0 from.node (all.servers o.file.server.0 from.node from.before) row o →
      (end.0 ≤ (clock_of v (nodes.Client o.client)).0) ⊎ StoodLife k v o.file.server.0 next z row o
  still_on next z from y = still (paths_keep k o.client.0 o.file.ino y.half _ _ after.sound y.locked from.path (inr y.frozen))
    where
      still : IsOver k y.half ((pairs_of k v o.file.server.0 next z).at o.client.0) ⊎ FrozenLife k o.client.0 y.half.life y.half (pairs_of k v o.file.server.0 next z) →
          (end.0 ≤ (clock_of v (nodes.Client o.client)).0) ⊎ StoodLife k v o.file.server.0 next z row o
      still (inr g) = inr (record { half = y.half; life = y.life; end = y.end; locked = y.locked; frozen = g })
      still (inl over) =
          inl
          (let x = site_there v after.fates.lives o row q in
          let t = clock_in v o.client.0 o.file.server.0 (z.ended o.client.0) x.0 x.1 in
          let d = y.end in
          let s = ap stamp_number is in
          omega (arith, over, t, d, s))

module _ (k : Config) (count : ℕ) (w : World) (h : WritesHold k count w) (counts : length w.commands ≡ length w.disks.commands) (e : Event) (sc : WorldTurn) (full : IsFull w e) (taken : world_step w e ≡ Ok sc) (never : (c : ClientId) → e ≡ events.Crash (nodes.Client c) → ⊥) where
  followed : Followed k count w h.all sc.world
  followed = follows k count w e sc h.all full taken

  was : OpenTracked (OverOrStill k count w h.all) sc.world
  was =
      let p = step_happens w e sc taken in
      subst (λ (x : WorldTurn). OpenTracked (OverOrStill k count w h.all) x.world) (sym p.1)
      (tracked (OverOrStill k count w h.all) (counted w) e never (counted_admits w e p.0)
      (record {
        lives = record { lives = h.all.fates.lives.lives; known = h.all.fates.lives.known };
        counts = counts;
        there = λ n x at tag bytes o. h.there n x at tag bytes (record { issued = o.issued; command = o.command; is = o.is; what = o.what; unreported = o.unreported });
        open_ = λ n x at tag bytes o. h.writes n x at tag bytes (record { issued = o.issued; command = o.command; is = o.is; what = o.what; unreported = o.unreported });
      }))

  later : (d : ClientId) (n : ℕ) → n ≤ (clock_of w (nodes.Client d)).0 → n ≤ (clock_of sc.world (nodes.Client d)).0
  later d n l =
      let p = step_happens w e sc taken in
      subst (λ (x : WorldTurn). n ≤ (clock_of x.world (nodes.Client d)).0) (sym p.1) (reads_on d n (counted w) e never (counted_admits w e p.0) l)

  pub writes_go_on : WritesHold k count sc.world
  writes_go_on =
      record {
        all = followed.after;
        there = was.there;
        writes = λ n x at tag bytes o row q crashed.
            let y = was.open_ n x at tag bytes o row q crashed in
            record {
              end = y.end;
              is = y.is;
              still = λ next there.
                  let from = followed.came (writer x tag).file.server.0 next there in
                  go (writer x tag) row q y.end y.is next there from (y.still from.node from.before);
            };
      }
    where
      go : (o : LogOwner) (row : LeaseLife) → ended_of sc.world o.client o.file.server o.life ≡ Some row → (end : Stamp) → row.end ≡ Some end → (next : ServerNode) (there : node_of sc.world (server o.file.server.0) ≡ Some next) →
          (from : CameFrom k count w h.all sc.world o.file.server.0 next (followed.after.servers o.file.server.0 next there)) →
          (end.0 ≤ (clock_of w (nodes.Client o.client)).0) ⊎ StoodLife k w o.file.server.0 from.node (h.all.servers o.file.server.0 from.node from.before) row o →
          (end.0 ≤ (clock_of sc.world (nodes.Client o.client)).0) ⊎ StoodLife k sc.world o.file.server.0 next (followed.after.servers o.file.server.0 next there) row o
      go o row q end is next there from (inl l) = inl (later o.client end.0 l)
      go o row q end is next there from (inr s) = still_on k count w sc.world h.all followed.after o row q end is next (followed.after.servers o.file.server.0 next there) from s
