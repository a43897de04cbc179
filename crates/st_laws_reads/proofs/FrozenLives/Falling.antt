-- A client's crash: the lives that it ends are frozen, with the locks of what is pending, and those that were frozen stay so.
use Rattle.st_lemmas.proofs.Words
use Words.{◌||◌, ◌≡◌, ◌≢◌, ℕ, ◌+◌, ◌<◌, ◌≤◌, ◌⊎◌, true, false, List, [], ◌∷◌, Option, Some, None, refl, sym, ap, ◌∙◌, subst, inl, inr, arith, eqb, find}
use Words.{map, option_map, ClientId, Life, LogEntry, LogOwner, DirtyPage, LeaseLife, PageNo, list_any}
use Words.nodes
use Words.Client as cl
use Words.ClientLease as lease
use Words.ClientPages.{has_dirty, has_write_on, is_dirty_of, is_dirty_on}
use Words.ClientState.{Association, ClientSession}
use Words.Events as ev
use Words.Events.{counted}
use Words.FlatLog as log
use Words.FlatLog.{is_pending}
use Words.Keys.{client, server_node}
use Words.Server.{ServerNode}
use Words.World.{World, WorldClient, clock_of, end_or_present, ended_of, is_life_of, life_of_association, lives_of, node_of, server, site_of}
use Words.Lists.{Has}
use Words.Tables.{and_true, found_at, has_map, some_passes}
use Words.Numbers.{set_length}
use Rattle.std.proofs.lemmas.Bool.Decides.{eqb_tells}
use Rattle.st_base.specs.declared.config.Config as base
use Rattle.st_protocol.proofs.World.{exactly}
use Rattle.st_protocol.specs.Assoc as net
use Rattle.st_protocol.specs.Assoc.{Config, Crashes, GoesOn, Moves, Row, Stays, upd}
use Rattle.st_laws_refine.specs.Views.Halves.{client_of, date_in, held_in, leased_in}
use Rattle.st_laws_refine.specs.Server.Pair.{client_in, stamp_number}
use Rattle.st_laws_refine.proofs.Server.Counts.{few_more}
use Rattle.st_laws_pages.specs.Fates.Fates.{BeforeEnd, PendingAll}
use Rattle.st_laws_pages.specs.Flush.Flush.{DirtyHere}
use Rattle.st_laws_pages.proofs.Fates.FateLaw.{pending_fewer}
use Rattle.st_laws_pages.proofs.Lives.Lives.{find_back, find_front}
use Rattle.st_laws_pages.proofs.Lives.NodeTurns.{row_is}
use Rattle.st_laws_leases.specs.Sides.Invariants.{Both, Standing}
use Rattle.st_laws_leases.specs.Sides.World.{AllStand, ServerStands}
use Rattle.st_laws_leases.proofs.Sides.Pairs.{only_here, own_view}
use Rattle.st_laws_reads.specs.FrozenLives.PendingEntries.{FrozenHold, OfCrashed, StandsStill, StoodLife}
use Rattle.st_laws_reads.specs.FrozenLives.Frozen.{Crashed, FrozenLife}
use Rattle.st_laws_refine.specs.Server.Paths.{Here, Path, WorkedOn}
use Rattle.st_laws_leases.specs.Sides.Paths.{CameFrom, pairs_of}
use Rattle.st_laws_leases.proofs.Sides.Crashes.{crashed}
use Rattle.st_laws_reads.proofs.FrozenLives.Crashing.{crash_is}
use Rattle.st_laws_leases.proofs.Sides.AllAssociations.{timed_on}
use Rattle.st_laws_leases.proofs.Sides.Fold.{counted_same, same}
use Rattle.st_laws_reads.proofs.FrozenLives.Stepping.{still_on}
use Rattle.st_laws_reads.proofs.FrozenLives.Walks.{begins}
use Rattle.st_laws_reads.proofs.AllClients.Alone.{owner_at}

-- A crash is a step of the machine.
module _ (k : Config) (c : ℕ) (A B : net.World) (x : Crashed k c A B) where
  row_same : (d : ℕ) → (B.at d).s.row ≡ (A.at d).s.row
  row_same d = go (eqb_tells d c)
    where
      go : ((eqb d c ≡ true) × (d ≡ c)) ⊎ ((eqb d c ≡ false) × (d ≢ c)) → (B.at d).s.row ≡ (A.at d).s.row
      go (inl e) = subst (λ d. (B.at d).s.row ≡ (A.at d).s.row) (sym e.1) (ap (λ (a : net.Assoc). a.s.row) x.own)
      go (inr e) = ap (λ (a : net.Assoc). a.s.row) (x.others d e.1)

  mode_same : (d i : ℕ) → ((B.at d).s.row i).mode ≡ ((A.at d).s.row i).mode
  mode_same d i = ap (λ (f : ℕ → Row). (f i).mode) (row_same d)

  moves : (d : ℕ) → Moves k (A.at d) (B.at d)
  moves d = go (eqb_tells d c)
    where
      go : ((eqb d c ≡ true) × (d ≡ c)) ⊎ ((eqb d c ≡ false) × (d ≢ c)) → Moves k (A.at d) (B.at d)
      go (inl e) = subst (λ d. Moves k (A.at d) (B.at d)) (sym e.1) (subst (λ b. Moves k (A.at c) b) (sym x.own) (GoesOn (Crashes (A.at c)) refl (Stays _)))
      go (inr e) = subst (λ b. Moves k (A.at d) b) (sym (x.others d e.1)) (Stays _)

  pub crash_path : Path k A B
  crash_path =
      WorkedOn (Here A) (record {
        each = moves;
        table = λ u v h y z i ne p q.
            let e = mode_same y i in let f = mode_same z i in
            let r = h y z i ne (omega (arith, p, e)) (omega (arith, q, f)) in omega (arith, r, e, f);
      })

pending_from : (P : LogOwner → Type 0) (es : List LogEntry) → ((e : LogEntry) → Has e es → is_pending e.fate ≡ true → P e.of) → PendingAll P es
pending_from P [] f = record {}
pending_from P (e ∷ es) f = record { one = f e (inl refl); rest = pending_from P es (λ x i. f x (inr i)) }

-- a file of a dirty page has a dirty page
pub dirty_any : (ino : ℕ) (p : PageNo) (xs : List DirtyPage) (d : DirtyPage) → find (is_dirty_of ino p) xs ≡ Some d → list_any (is_dirty_on ino) xs ≡ true
dirty_any ino p xs d e = let f = found_at (is_dirty_of ino p) xs d e in some_passes (is_dirty_on ino) xs d f.1 (and_true (is_dirty_on ino d) _ f.0).0

-- a lock is under a lease, which has an end
leased_held : (o : Option ClientSession) (i : ℕ) → 2 ≤ (held_in o i).mode → leased_in o ≡ true
leased_held None i h = absurd (omega (arith, h))
leased_held (Some s) i h = refl

end_is : (kb : base.Config) (o : Option ClientSession) → leased_in o ≡ true → date_in o + kb.lease ≡ stamp_number (lease.end_at kb (option_map cl.lease_of_session o))
end_is kb None e = cc e
end_is kb (Some s) e = refl

-- A crash of a client that runs.
module _ (k : Config) (count : ℕ) (w : World) (c : ℕ) (site : WorldClient) (there : site_of w (client c) ≡ Some site) (runs : site.node.running ≡ true) (all : AllStand k count w) where
  abbrev pub V : World
  V = (ev.crashes_client (counted w) (client c) (Some site)).world

  unfoldable pub before_at : (s : ℕ) (node : ServerNode) → node_of V (server s) ≡ Some node → node_of w (server s) ≡ Some node
  unfolding ev.crashes_client ev.marks
  before_at s node e = e

  both_counted : (s : ℕ) (node : ServerNode) (z : ServerStands k w s node) → Both k s (counted w) node z.ended z.ghosts
  both_counted s node z = same k s node z.ended z.ghosts w (counted w) (counted_same k s node z.ended z.ghosts w) z.both

  -- what holds of a server after it
  pub stands : (s : ℕ) (node : ServerNode) → ServerStands k w s node → ServerStands k V s node
  unfolding ev.crashes_client ev.marks
  stands s node z =
      let x = crashed k s (counted w) node z.ended z.ghosts c site (both_counted s node z) there runs in
      record {
        ended = upd z.ended c x.ends;
        ghosts = z.ghosts;
        both = x.both;
        timed = timed_on k s w V z.ghosts z.ghosts z.timed refl refl refl (set_length w.clients _ (ev.stopped_site site)) refl (λ d. refl);
        calm = z.calm;
        few = few_more w.net.bytes V.net.bytes node.state (omega arith) z.few;
      }

  pub crash_at : (s : ℕ) (node : ServerNode) (z : ServerStands k w s node) → Crashed k c (pairs_of k w s node z) (pairs_of k V s node (stands s node z))
  unfolding stands
  crash_at s node z = crash_is k all.sound s (counted w) node z.ended z.ghosts c site (both_counted s node z) there runs

  -- lives that ended, clocks, and what is pending
  pub there_too : (o : LogOwner) (y : LeaseLife) → ended_of w o.client o.file.server o.life ≡ Some y → ended_of V o.client o.file.server o.life ≡ Some y
  unfolding ev.crashes_client ev.marks
  there_too o y f = find_front (is_life_of o.client o.file.server o.life) w.ended _ y f

  pub same_clock : (d : ClientId) (n : ℕ) → (clock_of w (nodes.Client d)).0 < n → (clock_of V (nodes.Client d)).0 < n
  unfolding ev.crashes_client ev.marks
  same_clock d n t = t

  log_left : (Q : LogOwner → Type 0) → PendingAll Q w.log → PendingAll Q V.log
  unfolding ev.crashes_client ev.marks ev.log_crashed log.drop_picked
  log_left Q p = pending_fewer Q 1 _ _ w.log p

  module _ (after0 : AllStand k count V) where
    unfoldable pub after : AllStand k count V
    after = record after0 { servers = λ s node at. stands s node (all.servers s node (before_at s node at)) }

    unfoldable pub came : (s : ℕ) (node : ServerNode) (at : node_of V (server s) ≡ Some node) → CameFrom k count w all V s node (after.servers s node at)
    unfolding after
    came s node at = record { node = node; before = before_at s node at; path = crash_path k c _ _ (crash_at s node (all.servers s node (before_at s node at))) }

    -- a row of the client's own lives
    pub record OwnRow (row : LeaseLife) (o : LogOwner) : Type 0 where
      pub a : Association
      pub here : Has a site.node.state.associations
      pub client_is : o.client ≡ client c
      pub server_is : o.file.server ≡ a.server
      pub life_is : o.life ≡ a.life
      pub end : row.end ≡ lease.end_at site.node.state.config (option_map cl.lease_of_session a.session)

    pub own_row : (o : LogOwner) (row : LeaseLife) → ended_of w o.client o.file.server o.life ≡ None → ended_of V o.client o.file.server o.life ≡ Some row → OwnRow row o
    unfolding ev.crashes_client ev.marks
    own_row o row f q =
        let rows : List LeaseLife = map ev.crashed_life (lives_of site.node.state) in
        let y = row_is o.client o.file.server o.life rows row (sym (find_back (is_life_of o.client o.file.server o.life) w.ended rows f) ∙ q) in
        let x = has_map ev.crashed_life (lives_of site.node.state) row y.0 in
        let n = has_map (life_of_association site.node.state.config site.node.state.id) site.node.state.associations x.0 x.1 in
        let is : row ≡ ev.crashed_life (life_of_association site.node.state.config site.node.state.id n.0) = x.2 ∙ ap ev.crashed_life n.2 in
        record {
          a = n.0;
          here = n.1;
          client_is = sym y.1 ∙ ap (λ (l : LeaseLife). l.client) is ∙ (all.fates.lives.lives.sites (client c) site there).id;
          server_is = sym y.2 ∙ ap (λ (l : LeaseLife). l.server) is;
          life_is = sym y.3 ∙ ap (λ (l : LeaseLife). l.life) is;
          end = ap (λ (l : LeaseLife). l.end) is;
        }

    -- a life with a dirty page of the file is frozen from now on
    module _ (row : LeaseLife) (o : LogOwner) (x : OwnRow row o) (dirty : has_dirty x.a.store.pages o.file.ino ≡ true) where
      pub falls : (node : ServerNode) (z : ServerStands k w o.file.server.0 node) → StoodLife k V o.file.server.0 node (stands o.file.server.0 node z) row o
      falls node z =
          record {
            half = client_in w c s (z.ended c);
            life = ap (λ (C : net.Client). C.life) view ∙ ap (λ (l : Life). l.0) (sym x.life_is);
            end = ap (λ (C : net.Client). C.date + k.lease) view ∙ ap (λ n. date_in x.a.session + n) (sym st.sim.terms) ∙ end_is site.node.state.config x.a.session leased ∙ ap stamp_number (sym x.end);
            locked = record { leased = ap (λ (C : net.Client). C.leased) view ∙ leased; exclusive = subst (λ (C : net.Client). 2 ≤ (C.held o.file.ino).mode) (sym view) two };
            frozen = subst (λ d. FrozenLife k d (client_in w c s (z.ended c)).life (client_in w c s (z.ended c)) (pairs_of k V s node (stands s node z))) (ap (λ (d : ClientId). d.0) (sym x.client_is))
                (begins k c (pairs_of k w s node z) (pairs_of k V s node (stands s node z)) all.sound z.both.stands.reached (crash_at s node z));
          }
        where
          s : ℕ
          s = o.file.server.0

          st : Standing k s c site w.ended (z.ghosts c).net
          st = z.both.clients c site there

          is : x.a ≡ st.association
          is = only_here s site.node.state.associations st.association st.sim.place x.a x.here (ap server_node (sym x.server_is))

          view : client_in w c s (z.ended c) ≡ client_of (z.ended c) (clock_of w (nodes.Client (client c))).0 x.a
          view = own_view w c s (z.ended c) site st.association there runs st.sim.place ∙ ap (client_of (z.ended c) (clock_of w (nodes.Client (client c))).0) (sym is)

          -- the page is dirty, so the lock is exclusive
          two : 2 ≤ (held_in x.a.session o.file.ino).mode
          two =
              subst (λ (C : net.Client). 2 ≤ (C.held o.file.ino).mode) view
              ((exactly k (pairs_of k w s node z) all.sound z.both.stands.reached c).busy o.file.ino
              (ap (λ (C : net.Client). C.busy o.file.ino) view ∙ ap (λ b. b || has_write_on x.a.store.commands o.file.ino) dirty))

          leased : leased_in x.a.session ≡ true
          leased = leased_held x.a.session o.file.ino two

    module _ (frozen_lives : PendingAll (OfCrashed (StandsStill k count w all) w) w.log) (cared : (a : Association) → Has a site.node.state.associations → PendingAll (DirtyHere (client c) a) w.log) (e : LogEntry) (logged : Has e w.log) (pending : is_pending e.fate ≡ true) where
      abbrev o : LogOwner
      o = e.of

      before : BeforeEnd w o
      before = owner_at (BeforeEnd w) w.log e all.fates.pending logged pending

      dirty : (row : LeaseLife) (x : OwnRow row o) → has_dirty x.a.store.pages o.file.ino ≡ true
      dirty row x = let d = owner_at (DirtyHere (client c) x.a) w.log e (cared x.a x.here) logged pending x.client_is x.server_is x.life_is in dirty_any o.file.ino o.page x.a.store.pages.dirty d.0 d.1

      crashed_stand : OfCrashed (StandsStill k count V after) V o
      unfolding after came before_at
      crashed_stand row q crash next at = go (ended_of w o.client o.file.server o.life) refl
        where
          z : ServerStands k w o.file.server.0 next
          z = all.servers o.file.server.0 next (before_at o.file.server.0 next at)

          go : (p : Option LeaseLife) → ended_of w o.client o.file.server o.life ≡ p → StoodLife k V o.file.server.0 next (stands o.file.server.0 next z) row o
          go None f = let x = own_row o row f q in falls row o x (dirty row x) next z
          go (Some y) f =
              let w_row : ended_of w o.client o.file.server o.life ≡ Some row = f ∙ sym (there_too o y f) ∙ q in
              still_on k count w V all after o row q
              (record { end = before.end; is = ap (end_or_present V o.client o.file.server) q ∙ ap (end_or_present w o.client o.file.server) (sym w_row) ∙ before.is; before = same_clock o.client before.end.0 before.before })
              next (stands o.file.server.0 next z) (came o.file.server.0 next at)
              (owner_at (OfCrashed (StandsStill k count w all) w) w.log e frozen_lives logged pending row w_row crash next (before_at o.file.server.0 next at))

    pub frozen_fall : PendingAll (OfCrashed (StandsStill k count w all) w) w.log → ((a : Association) → Has a site.node.state.associations → PendingAll (DirtyHere (client c) a) w.log) → FrozenHold k count V
    frozen_fall frozen_lives cared = record { all = after; frozen_lives = log_left (OfCrashed (StandsStill k count V after) V) (pending_from (OfCrashed (StandsStill k count V after) V) w.log (λ e i p. crashed_stand frozen_lives cared e i p)) }
