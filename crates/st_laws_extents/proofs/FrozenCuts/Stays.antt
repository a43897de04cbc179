-- No message of a life that a crash ended cuts a file of which a write of the life is not reported: through every event.
use Rattle.st_lemmas.proofs.Words
use Words.{◌≡◌, ℕ, ◌≤◌, ◌<◌, true, List, Option, Some, None, Ok, refl, sym, ap, ◌∙◌, subst, arith, find, length, ClientId, GrantNo, Life, PageNo, ServerId}
use Words.{BlockAt, Tag, Event, Message, LogOwner, IssuedCommand, LeaseLife}
use Words.nodes
use Words.events
use Words.ClientState.{is_at}
use Words.Events as ev
use Words.Events.{WorldTurn, counted, world_step}
use Words.History.{Traced}
use Words.Keys.{client, server_node}
use Words.Safety.{Step}
use Words.World.{World, WorldClient, server, site_of, ended_of}
use Words.Lists.{Has}
use Words.Lookups.{some_is}
use Words.Numbers.{numbered_below}
use Words.Admissible as adm
use Words.World as world
use Words.Worlds.{counted_admits, stands_not}
use Rattle.st_protocol.specs.Assoc.{Config}
use Rattle.st_lemmas.proofs.Steps.{step_happens}
use Rattle.st_laws_leases.specs.Dates.Dates.{messages}
use Rattle.st_laws_leases.specs.Sides.World.{AllStand}
use Rattle.st_laws_extents.specs.CutRequests.EndedLives.{Goes, LifeHarmless, SentBy}
use Rattle.st_laws_extents.specs.CutRequests.Law.{gifts}
use Rattle.st_laws_extents.specs.FrozenCuts.FrozenFiles.{FrozenFilesUncut, UncutLife}
use Rattle.st_laws_pages.proofs.Lives.NodeTurns.{row_is}
use Rattle.st_laws_steps.proofs.Lives.Associations.{own_found}
use Rattle.st_laws_steps.specs.Lives.Lives.{LivesHold, NodeHolds}
use Rattle.st_laws_pages.specs.Writes.Writes.{IsListed, OpenHold}
use Rattle.st_laws_reads.specs.AllClients.CutFiles.{AllCleared, Cuts}
use Rattle.st_laws_reads.specs.OpenWrites.StandStill.{OpenThere, OpenTracked, OpenWrite, writer}
use Rattle.st_laws_extents.proofs.CutRequests.Law.{Hold, followed, gifts_stay, owed}
use Rattle.st_laws_reads.proofs.FrozenLives.Falling.{OwnRow, V, own_row, there_too}
use Rattle.st_laws_reads.proofs.OpenWrites.Tracked.{tracked}
use Rattle.st_laws_extents.proofs.CutRequests.ServersGoOn.{event_goes}
use Rattle.st_laws_extents.proofs.CutRequests.EndedLives.{harmless, harmless_stays, life_stays}

server_same : (s x : ServerId) → server_node s ≡ server_node x → s ≡ x
server_same s x e = ap (λ (n : ℕ). server n) (omega (arith, e))

-- In a life that is over nothing is sent.
silent : (w : World) → LivesHold w → (o : LogOwner) (row : LeaseLife) → ended_of w o.client o.file.server o.life ≡ Some row → (m : Message) → m.header.from ≡ o.client.0 → m.header.to ≡ server_node o.file.server → m.header.life ≡ o.life.0 → SentBy w m → ⊥
silent w h o row q m from to life z = omega (arith, over, z.life, life, its)
  where
    y : Has row w.ended × (row.client ≡ o.client) × (row.server ≡ o.file.server) × (row.life ≡ o.life)
    y = row_is o.client o.file.server o.life w.ended row q

    same : o.client ≡ z.client
    same = ap (λ (n : ℕ). client n) (sym from ∙ z.from)

    place : o.file.server ≡ z.at.server
    place = server_same o.file.server z.at.server (sym to ∙ z.to)

    node : NodeHolds w.config w.clocks w.ended z.client z.site.node
    node = h.lives.sites z.client z.site z.there

    over : row.life.0 < z.at.life.0
    over =
        (node.below row y.0 (y.1 ∙ same) z.at (ap (λ s. find (is_at s) z.site.node.state.associations) (y.2 ∙ place) ∙ own_found z.site.node.state.associations node.once z.at z.among)).below z.running

    its : row.life.0 ≡ o.life.0
    its = ap (λ (l : Life). l.0) y.3

module _ (k : Config) (count : ℕ) (past : List Step) (t : Traced) (e : Event) (sc : WorldTurn) (ranges : Rattle.st_rules.specs.Safety.is_event count e ≡ true) (h : Hold k count past t) (taken : world_step t.world e ≡ Ok sc)
    (safe : FrozenFilesUncut k count t.world h.all) (there : OpenThere t.world) (counts : length t.world.commands ≡ length t.world.disks.commands) (open_ : OpenHold t.world) (clear : AllCleared t.world) where
  w : World
  w = t.world

  g : Goes t.world sc.world
  g = event_goes past t h.replies e sc (owed k count past t e sc ranges h taken) taken

  refusal : adm.refusal t.world e ≡ None
  refusal = (step_happens t.world e sc taken).0

  gifts_go_on : (c : ClientId) (s : ServerId) (i : ℕ) (n : GrantNo) → gifts k count t.world h.all c s i n →
      gifts k count sc.world (followed k count past t e sc ranges h taken).after c s i n
  gifts_go_on c s i n = gifts_stay k count t.world sc.world h.all (followed k count past t e sc ranges h taken) c s i n

  -- If no client crashes.
  on : ((c : ClientId) → e ≡ events.Crash (nodes.Client c) → ⊥) → FrozenFilesUncut k count sc.world (followed k count past t e sc ranges h taken).after
  unfolding w
  on never = (subst (λ (x : WorldTurn). OpenTracked (UncutLife k count sc.world (followed k count past t e sc ranges h taken).after sc.world) x.world) (sym (step_happens t.world e sc taken).1) was).open_
    where
      was : OpenTracked (UncutLife k count sc.world (followed k count past t e sc ranges h taken).after sc.world) (ev.happens (counted t.world) e).world
      was =
          tracked (UncutLife k count sc.world (followed k count past t e sc ranges h taken).after sc.world) (counted t.world) e never (counted_admits t.world e refusal)
          (record {
            lives = record { lives = h.all.fates.lives.lives; known = h.all.fates.lives.known };
            counts = counts;
            there = λ n x at tag bytes o. there n x at tag bytes (record { issued = o.issued; command = o.command; is = o.is; what = o.what; unreported = o.unreported });
            open_ = λ n x at tag bytes o row q crashed. one n x at tag bytes (record { issued = o.issued; command = o.command; is = o.is; what = o.what; unreported = o.unreported }) row q crashed;
          })
        where
          one : (n : ℕ) (x : IssuedCommand) (at : BlockAt) (tag : Tag) (bytes : List ℕ) → OpenWrite t.world n x at tag bytes → (row : LeaseLife) → ended_of t.world x.client x.server x.life ≡ Some row → row.crashed ≡ true →
              UncutLife k count sc.world (followed k count past t e sc ranges h taken).after sc.world row (writer x tag)
          one n x at tag bytes o row q crashed =
              life_stays (gifts k count t.world h.all x.client x.server)
              (gifts k count sc.world (followed k count past t e sc ranges h taken).after x.client x.server) (gifts_go_on x.client x.server) t.world
              sc.world g x.client x.server x.life.0 tag.file.ino few
              (λ m from to life z. silent t.world h.all.fates.lives (writer x tag) row q m from to life z) (safe n x at tag bytes o row q crashed)
            where
              few : x.client.0 ≤ 16
              few = let s = there n x at tag bytes o in let z = (numbered_below t.world.clients x.client.0 s.0 s.1).1 in let y = h.cuts.few in omega (arith, z, y)

  -- A client's crash.
  module _ (c : ClientId) (site : WorldClient) (at_site : site_of t.world c ≡ Some site) (runs : site.node.running ≡ true) (here : sc.world ≡ (ev.crashes_client (counted t.world) c (Some site)).world) where
    after0 : AllStand k count (V k count t.world c.0 site at_site runs h.all)
    after0 = subst (AllStand k count) here (followed k count past t e sc ranges h taken).after

    same_open : (n : ℕ) (x : IssuedCommand) (at : BlockAt) (tag : Tag) (bytes : List ℕ) → OpenWrite (ev.crashes_client (counted t.world) c (Some site)).world n x at tag bytes → OpenWrite t.world n x at tag bytes
    unfolding ev.crashes_client ev.marks
    same_open n x at tag bytes o = record { issued = o.issued; command = o.command; is = o.is; what = o.what; unreported = o.unreported }

    same_messages : messages (ev.crashes_client (counted t.world) c (Some site)).world ≡ messages t.world
    unfolding ev.crashes_client ev.marks
    same_messages = refl

    before : (n : ℕ) (x : IssuedCommand) (at : BlockAt) (tag : Tag) (bytes : List ℕ) → OpenWrite t.world n x at tag bytes → (row : LeaseLife) → ended_of (V k count t.world c.0 site at_site runs h.all) x.client x.server x.life ≡ Some row → row.crashed ≡ true →
        LifeHarmless (gifts k count t.world h.all x.client x.server) t.world x.client x.server x.life.0 tag.file.ino
    before n x at tag bytes o row q crashed = go (ended_of t.world x.client x.server x.life) refl
      where
        go : (p : Option LeaseLife) → ended_of t.world x.client x.server x.life ≡ p → LifeHarmless (gifts k count t.world h.all x.client x.server) t.world x.client x.server x.life.0 tag.file.ino
        go (Some y) z =
            let same : y ≡ row = some_is (sym (there_too k count t.world c.0 site at_site runs h.all (writer x tag) y z) ∙ q) in
            safe n x at tag bytes o row (z ∙ ap Some same) crashed
        go None z = by (own_row k count t.world c.0 site at_site runs h.all after0 (writer x tag) row z q)
          where
            by : OwnRow k count t.world c.0 site at_site runs h.all after0 row (writer x tag) → LifeHarmless (gifts k count t.world h.all x.client x.server) t.world x.client x.server x.life.0 tag.file.ino
            by y =
                subst (λ v. LifeHarmless (gifts k count t.world h.all v x.server) t.world v x.server x.life.0 tag.file.ino) (sym y.client_is)
                (subst (λ v. LifeHarmless (gifts k count t.world h.all c v) t.world c v x.life.0 tag.file.ino) (sym y.server_is)
                (subst (λ (v : Life). LifeHarmless (gifts k count t.world h.all c y.a.server) t.world c y.a.server v.0 tag.file.ino) (sym y.life_is)
                (harmless k count past t h.cuts h.all h.asks c site (record { there = at_site; runs = runs }) y.a y.here tag.file.ino uncut)))
              where
                l : IsListed y.a x.number tag
                l = (open_ c site at_site runs y.a y.here n x o.command at tag bytes o.issued o.is o.what o.unreported y.client_is y.server_is y.life_is).listed

                uncut : (p : PageNo) → Cuts y.a.session tag.file.ino p → ⊥
                uncut p u = (clear c site at_site y.a y.here tag.file.ino p u).commands l.command l.here l.ino

    crash : FrozenFilesUncut k count sc.world (followed k count past t e sc ranges h taken).after
    crash n x at tag bytes o row q crashed m i from to life =
        harmless_stays (gifts k count t.world h.all x.client x.server)
        (gifts k count sc.world (followed k count past t e sc ranges h taken).after x.client x.server) (gifts_go_on x.client x.server) t.world sc.world g
        x.client x.server tag.file.ino m
        (before n x at tag bytes (same_open n x at tag bytes (subst (λ v. OpenWrite v n x at tag bytes) here o)) row (ap (λ v. ended_of v x.client x.server x.life) (sym here) ∙ q) crashed m (subst (Has m) (ap messages here ∙ same_messages) i) from to life)

  crash_runs : (c : ClientId) → adm.refusal t.world (events.Crash (nodes.Client c)) ≡ None → world.site_runs (site_of t.world c) ≡ true
  unfolding adm.refusal
  crash_runs c r = Rattle.st_lemmas.proofs.Tables.not_false _ (stands_not _ _ (Rattle.st_laws_pages.proofs.Disks.Effects.or_none _ _ r).1)

  crashes : (c : ClientId) → e ≡ events.Crash (nodes.Client c) → FrozenFilesUncut k count sc.world (followed k count past t e sc ranges h taken).after
  unfolding ev.happens ev.crashes
  crashes c is = go (site_of t.world c) refl
    where
      happened : sc.world ≡ (ev.crashes_client (counted t.world) c (site_of t.world c)).world
      happened = ap (λ (x : WorldTurn). x.world) (step_happens t.world e sc taken).1 ∙ ap (λ y. (ev.happens (counted t.world) y).world) is

      runs : world.site_runs (site_of t.world c) ≡ true
      runs = crash_runs c (subst (λ y. adm.refusal t.world y ≡ None) is refusal)

      nobody : world.site_runs None ≡ true → ⊥
      nobody z = cc z

      go : (o : Option WorldClient) → site_of t.world c ≡ o → FrozenFilesUncut k count sc.world (followed k count past t e sc ranges h taken).after
      go None z = absurd (nobody (ap world.site_runs (sym z) ∙ runs))
      go (Some site) z = crash c site z (ap world.site_runs (sym z) ∙ runs) (happened ∙ ap (λ o. (ev.crashes_client (counted t.world) c o).world) z)

  pub uncut_stays : FrozenFilesUncut k count sc.world (followed k count past t e sc ranges h taken).after
  uncut_stays = go e refl
    where
      go : (x : Event) → e ≡ x → FrozenFilesUncut k count sc.world (followed k count past t e sc ranges h taken).after
      go (events.Crash (nodes.Client c)) q = crashes c q
      go (events.Crash (nodes.Server s)) q = on (λ c z. cc (sym q ∙ z))
      go (events.Tick n) q = on (λ c z. cc (sym q ∙ z))
      go (events.App d ask) q = on (λ c z. cc (sym q ∙ z))
      go (events.Deliver n) q = on (λ c z. cc (sym q ∙ z))
      go (events.Lose n) q = on (λ c z. cc (sym q ∙ z))
      go (events.Cut x y) q = on (λ c z. cc (sym q ∙ z))
      go (events.Heal x y) q = on (λ c z. cc (sym q ∙ z))
      go (events.Advance steps) q = on (λ c z. cc (sym q ∙ z))
      go (events.Effect n) q = on (λ c z. cc (sym q ∙ z))
      go (events.Report n ok) q = on (λ c z. cc (sym q ∙ z))
      go (events.Start n) q = on (λ c z. cc (sym q ∙ z))
