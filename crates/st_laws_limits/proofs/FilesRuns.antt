-- In each event of the third form no client gets rows and waits of more files at a server than may be.
use Rattle.st_lemmas.proofs.Words
use Words.{◌≡◌, ◌≢◌, ◌≤◌, ◌<◌, ◌+◌, ◌⊎◌, ℕ, Bool, true, false, List, [], length, Some, Ok, refl, sym, ap, ◌∙◌, subst, inl, inr, arith, if◌then◌else◌, leb-false, leb-true, nat_le}
use Words.{ClientId, GrantNo, Message, Mode, ServerId, ServerInput, Session, Stamp}
use Words.bodies
use Words.nodes
use Words.Events as ev
use Words.Grace as grace
use Words.Keys.{server_node}
use Words.Lists.{Has}
use Words.Lookups.{some_is}
use Words.Server as server
use Words.Server.{ServerNode, sender}
use Words.Sessions.{is_live, session_of}
use Words.Tables.{same_or_not}
use Words.World.{World, clock_of, node_of, numbered}
use Rattle.st_rules.specs.declared.input.ServerInput.TheVariants as inputs
use Rattle.st_third.specs.declared.event.ThirdEvent.{ThirdEvent}
use Rattle.st_third.specs.Events as every
use Rattle.st_third.specs.Events.{ThirdWorldTurn}
use Rattle.st_third.specs.Limits.{is_client_node, limited_node, most_clients}
use Rattle.st_third.specs.World.{ThirdWorld}
use Rattle.st_laws_third.proofs.DemandsSeen.{People, within_most}
use Rattle.st_laws_third.proofs.EventWalk.{Client_step, EventLawOf, ServerTakes, Server_step, walk_by_event}
use Rattle.st_laws_third.proofs.FewRows.{RowsIn}
use Rattle.st_laws_third.proofs.Sound.{Sound}
use Rattle.st_laws_leaving.specs.Leavers.{HasHome}
use Rattle.st_laws_leaving.specs.Quiet.{IsSent, Standing}
use Rattle.st_laws_leaving.proofs.Betweens.{standing_as}
use Rattle.st_laws_leaving.proofs.Posts.{took_post}
use Rattle.st_laws_leaving.proofs.ServesStanding as serving
use Rattle.st_laws_leaving.proofs.Standing.{twice_other, twice_own}
use Rattle.st_laws_limits.proofs.ClientMail.{MailFits}
use Rattle.st_laws_limits.proofs.Files.{ByRow, ByWait, FilesFew, HasFile, fewer_than}
use Rattle.st_laws_limits.proofs.InOrder.{all_as}
use Rattle.st_laws_limits.proofs.ServerFiles.{IsTimely, server_files}
use Rattle.st_laws_limits.proofs.Welcomed.{AllInOrder, IsOff}

-- at each server, with this limit
abbrev pub AllFiles : ℕ → World → Type 0
AllFiles n w = (k : ℕ) (node : ServerNode) → numbered w.servers k ≡ Some node → FilesFew n node.state.locks

files_as : (n : ℕ) (w : World) (vs : List ServerNode) → vs ≡ w.servers → AllFiles n w → (k : ℕ) (node : ServerNode) → numbered vs k ≡ Some node →
    FilesFew n node.state.locks
files_as n w vs e f k node q = f k node (sym (ap (λ xs. numbered xs k) e) ∙ q)

-- A server takes an input.
module _ (e : ThirdEvent) (w : ThirdWorld) (so : Sound w) (pe : People w) (st : Standing w.world) (mail : MailFits w) (order : AllInOrder w.world)
    (files : AllFiles w.limits.locks w.world) (s : ServerId) (node : ServerNode) (input : ServerInput) (there : node_of w.world s ≡ Some node)
    (why : ServerTakes w s e input) (up : node.running ≡ true) where
  abbrev now : Stamp
  now = clock_of w.world (nodes.Server s)

  -- a client is one of 64
  low : (n : ℕ) → is_client_node w.world.form n ≡ true → n ≤ 64
  unfolding most_clients
  low n q =
      let l = within_most 1 (most_clients w.world.form) n q in
      let k : most_clients w.world.form ≡ 64 = ap (λ b. if b then 64 else 16) so.form in omega (arith, l, k)

  few : (x : Message) (rows : List (ℕ × GrantNo × Mode)) → input ≡ inputs.Control x → x.body ≡ bodies.Reassert rows →
      is_client_node w.world.form x.header.from ≡ true → length rows ≤ w.limits.locks
  few x rows i b c =
      subst (RowsIn w.limits) b
      (mail.rows x (serving.comes e w so pe st s node input there why up x i).0 (low x.header.from c))

  lives : (x : Message) (rows : List (ℕ × GrantNo × Mode)) → input ≡ inputs.Control x → x.body ≡ bodies.Reassert rows →
      is_client_node w.world.form x.header.from ≡ true → x.header.epoch ≡ node.state.stable.epoch.0 → grace.is_on node.state.grace now ≡ true →
      (y : Session) → session_of node.state.sessions (sender x.header) ≡ Some y → is_live y ≡ true → x.header.life ≤ y.life.0
  lives x rows i b c ep on y q live = go (nat_le x.header.life y.life.0) refl
    where
      j : (IsSent w.world x) × (x.header.to ≡ server_node s)
      j = serving.comes e w so pe st s node input there why up x i

      home : HasHome w.world (sender x.header) s
      home = mail.home (sender x.header) s x j.0 (refl, j.1) (low x.header.from c)

      over : y.life.0 < x.header.life → IsOff w.world home.association node
      over o =
          (order x.header.from home.site home.association node home.there home.has (ap (numbered w.world.servers) home.is ∙ there)).served y q x
          (record { sent = j.0; to = (refl, j.1 ∙ ap (λ k. 32768 + k) (sym home.is)); other = λ z. no (sym b ∙ z) }) o
        where
          no : bodies.Reassert rows ≡ bodies.Hello → ⊥
          no z = cc z

      never : IsOff w.world home.association node → ⊥
      never o = no (sym on ∙ ap (λ k. grace.is_on node.state.grace (clock_of w.world (nodes.Server (record { 0 = k })))) (sym home.is) ∙ o)
        where
          no : true ≡ false → ⊥
          no z = cc z

      go : (d : Bool) → nat_le x.header.life y.life.0 ≡ d → x.header.life ≤ y.life.0
      go true k = leb-true x.header.life y.life.0 k
      go false k = absurd (never (over (leb-false x.header.life y.life.0 k)))

  timely : IsTimely (is_client_node w.world.form) w.limits.locks node.state now input
  timely = record { few = few; lives = lives }

  served_files : AllFiles w.limits.locks (every.as_plain w (ev.server_took w.world s (Ok (Server_step w s node input)))).third.world
  served_files =
      serving.by_server e w so pe st s node input there why up (λ k x. FilesFew w.limits.locks x.state.locks)
      (server_files w.limits.locks w.world.form node.state now input (st.serving s.0 node there) timely (files s.0 node there))
      (λ k x ne q. files k x q)

-- A server that begins has none.
module _ (n : ℕ) (w : World) (vs : List ServerNode) (s : ServerId) (node new : ServerNode) (there : node_of w s ≡ Some node)
    (at_own : numbered vs s.0 ≡ Some new) (at_other : (k : ℕ) → k ≢ s.0 → numbered vs k ≡ numbered w.servers k)
    (limit : new.state.locks.limit ≡ n) (rows : new.state.locks.rows ≡ []) (waits : new.state.locks.waiters ≡ []) (files : AllFiles n w) where
  none : (c : ClientId) (i : ℕ) → HasFile new.state.locks c i → Has i []
  none c i (ByRow r h e q) = subst (Has r) rows h
  none c i (ByWait x h e q) = subst (Has x) waits h

  begun_files : (k : ℕ) (x : ServerNode) → numbered vs k ≡ Some x → FilesFew n x.state.locks
  begun_files k x q = go (same_or_not k s.0)
    where
      own : FilesFew n new.state.locks
      own = record { limit = limit; few = λ c. let a = fewer_than new.state.locks c [] (none c) in omega (arith, a) }

      go : (k ≡ s.0) ⊎ (k ≢ s.0) → FilesFew n x.state.locks
      go (inl i) = subst (λ (y : ServerNode). FilesFew n y.state.locks) (some_is (sym at_own ∙ sym (ap (numbered vs) i) ∙ q)) own
      go (inr ne) = files k x (sym (at_other k ne) ∙ q)

-- Each event.

abbrev StayFew : ThirdWorld → ThirdWorldTurn → Type 0
StayFew w sc =
    Sound w → People w → Standing w.world → MailFits w → AllInOrder w.world → AllFiles w.limits.locks w.world → AllFiles w.limits.locks sc.third.world

files_law : (e : ThirdEvent) → EventLawOf e StayFew
unfolding ev.advances ev.effects ev.marks ev.crashes_client ev.crashes_server ev.starts_client ev.starts_server every.client_begins every.server_begins
    server.crash server.start server.begin_epoch
files_law e =
    record {
      still = λ w so pe st mail order f. f;
      takes = λ w c old site b input there same q why r so pe st mail order f. files_as w.limits.locks w.world _ (took_post w c site (Client_step w c site b input)).servers f;
      serves = λ w s node input there why up so pe st mail order f. served_files e w so pe st mail order f s node input there why up;
      loses = λ w k m q so pe st mail order f. f;
      cuts = λ w from to so pe st mail order f. f;
      heals = λ w from to so pe st mail order f. f;
      advances = λ w steps so pe st mail order f. f;
      effects = λ w k so pe st mail order f. f;
      reports =
          λ w k ok sc which h so pe st mail order f. h (record { fits = record { sites = so.fits.sites; there = so.fits.there; pairs = so.fits.pairs }; form = so.form })
          (record { asks = pe.asks; ids = pe.ids; servers = pe.servers; few = pe.few }) (standing_as w.world _ refl refl (λ m i. i) st)
          (record {
            home =
                λ c s m i t l. let g = mail.home c s m i t l in
                record { site = g.site; there = g.there; association = g.association; has = g.has; is = g.is };
            rows = mail.rows;
          })
          (all_as w.world _ refl refl refl (λ m i. i) order) f;
      client_crashes = λ w c site q so pe st mail order f. f;
      server_crashes =
          λ w s node q so pe st mail order f. let mid : ServerNode = server.crash_node node in
          begun_files w.limits.locks w.world _ s node (limited_node w.limits mid) q (twice_own w.world.servers s.0 node mid (limited_node w.limits mid) q)
          (λ n ne. twice_other w.world.servers s.0 n node mid (limited_node w.limits mid) q ne) refl refl refl f;
      client_starts = λ w c site q which so pe st mail order f. f;
      server_starts =
          λ w s node q which so pe st mail order f. let mid : ServerNode = server.start_node node (clock_of w.world (nodes.Server s)) in
          begun_files w.limits.locks w.world _ s node (limited_node w.limits mid) q (twice_own w.world.servers s.0 node mid (limited_node w.limits mid) q)
          (λ n ne. twice_other w.world.servers s.0 n node mid (limited_node w.limits mid) q ne) refl refl refl f;
    }

pub files_after : (w : ThirdWorld) (e : ThirdEvent) → Sound w → People w → Standing w.world → MailFits w → AllInOrder w.world →
    AllFiles w.limits.locks w.world → AllFiles w.limits.locks (every.happens w e).third.world
files_after w e so = walk_by_event e StayFew (files_law e) w so.form so
