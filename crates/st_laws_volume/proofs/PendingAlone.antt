-- What is pending of a file stands alone: no other client has an exclusive row of the file, or holds a lock of it while its page is dirty.
use Rattle.st_lemmas.proofs.Words
use Words.{◌≡◌, ◌≢◌, ◌⊎◌, ℕ, ◌+◌, ◌<◌, ◌≤◌, arith, Bool, true, false, not, ◌&&◌, ◌||◌, ◌==◌, List, length, Option, Some, None, refl, sym, ap, ◌∙◌, subst, inl, inr}
use Words.{eq-eqb, eqb-true, is_some, list_all, lt-ltb, ClientId, FileId, Life, ServerId, Fate}
use Words.{DirtyPage, LeaseLife, LockRow, LogEntry, LogOwner}
use Words.fates
use Words.modes
use Words.nodes
use Words.Client as cl
use Words.ClientPages as pages
use Words.Events as ev
use Words.ClientState.{Association}
use Words.Extents as extents
use Words.FlatLog.{is_of_life, is_pending}
use Words.History.{association_at, association_of}
use Words.Keys.{client, same_client, same_page, same_server}
use Words.Lists.{Has}
use Words.Locks.{row_of}
use Words.Lookups.{or_cases, or_right}
use Words.Members.{between_in_numbers, some_member_passes}
use Words.Numbers.{numbered_below}
use Words.Safety.{Step, all_alone, are_alone, dirty_at, dirty_files, file_of_dirty, has_row, has_row_at, holds, is_alone, is_apart, is_before, lasts, lasts_at}
use Words.Server.{ServerNode}
use Words.Tables.{and_both, and_true, each_passes, found_at, has_map_in, none_has, not_true, same_or_not}
use Words.Truth.{clash}
use Words.World as world
use Words.World.{World, WorldClient, all_clients, all_servers, clock_of, end_or_present, ended_of, is_life_of, lease_end_of, node_of, present_end, server, site_of}
use Rattle.st_base.specs.Mode.{number_of}
use Rattle.st_protocol.specs.Assoc as net
use Rattle.st_protocol.specs.Assoc.{Alive, Assoc, upd}
use Rattle.st_protocol.proofs.Lists.{upd-other, upd-same}
use Rattle.st_protocol.proofs.World as machine
use Rattle.st_laws_steps.specs.Lives.Lives.{NodeHolds}
use Rattle.st_laws_steps.proofs.Lives.Associations.{own_found}
use Rattle.st_laws_refine.specs.Server.Pair.{client_in}
use Rattle.st_laws_refine.specs.Views.Halves.{row_or, row_view}
use Rattle.st_laws_refine.proofs.Server.Late.{clock_in}
use Rattle.st_laws_pages.specs.Fates.Fates.{BeforeEnd}
use Rattle.st_laws_pages.specs.Flush.Flush.{FlushHold}
use Rattle.st_laws_pages.proofs.Fates.GoneLaw.{pending_crashed}
use Rattle.st_laws_leases.specs.Sides.Paths.{pairs_of}
use Rattle.st_laws_leases.specs.Sides.World.{AllStand, ServerStands}
use Rattle.st_laws_leases.proofs.Sides.DirtyPages.{all_stand_alone}
use Rattle.st_laws_reads.specs.AllClients.Law.{Running}
use Rattle.st_laws_reads.specs.FrozenLives.Frozen.{FrozenLife, LockedHalf, replaced, stood}
use Rattle.st_laws_reads.specs.FrozenLives.PendingEntries.{FrozenHold, OfCrashed, StandsStill, StoodLife}
use Rattle.st_laws_reads.proofs.AllClients.Alone.{owner_at}
use Rattle.st_laws_reads.proofs.FrozenLives.Stepping.{ahead, site_there}
use Rattle.st_laws_volume.specs.FateMarks.{is_crash_of, is_crashed_life}
use Rattle.st_laws_volume.proofs.FailureLives.{PresentOf, present}

pub server_same : (s r : ServerId) → (s.0 == r.0) ≡ true → s ≡ r
server_same s r e = ap (λ n. record { 0 = n }) (eqb-true s.0 r.0 e)

-- a client and a server are among all
pub client_there : (w : World) (c : ClientId) (site : WorldClient) → site_of w c ≡ Some site → Has c (all_clients w)
client_there w c site at =
    let l = numbered_below w.clients c.0 site at in
    let high = l.1 in
    has_map_in client (extents.numbers 1 (length w.clients)) c.0 (between_in_numbers 1 (length w.clients) c.0 l.0 (omega (arith, high)))

pub server_there : (w : World) (s : ServerId) → 1 ≤ s.0 → s.0 ≤ length w.servers → Has s (all_servers w)
server_there w s low high =
    has_map_in world.server (extents.numbers 1 (length w.servers)) s.0 (between_in_numbers 1 (length w.servers) s.0 low (omega (arith, high)))

-- A world in which all holds.
module _ (k : net.Config) (count : ℕ) (past : List Step) (w : World) (all : AllStand k count w) (flush : FlushHold past w) where
  apart : list_all (all_alone w) (all_clients w) ≡ true
  apart = all_stand_alone k count w all

  holds_of : (c : ClientId) (site : WorldClient) → site_of w c ≡ Some site → NodeHolds w.config w.clocks w.ended c site.node
  holds_of c site at = all.fates.lives.lives.sites c site at

  -- An entry of a present life of a client that runs: its page is dirty there, so no other client holds a lock of its file or has a row of it.
  module _ (c : ClientId) (f : FileId) (among : Has c (all_clients w)) (locks : (holds w c f || has_row w c f) ≡ true) (d : ℕ) (other : WorldClient)
      (running : Running w d other) (b : Association) (has : Has b other.node.state.associations) (e : LogEntry) (logged : Has e w.log)
      (open_ : is_pending e.fate ≡ true) (life : is_of_life (client d) b.server b.life e.of ≡ true) (same : e.of.file ≡ f) (differs : client d ≡ c → ⊥) where
    of_client : e.of.client ≡ client d
    of_client = ap (λ n. record { 0 = n }) (eqb-true e.of.client.0 d (and_true (same_client e.of.client (client d)) _ life).0)

    of_life : (e.of.file.server ≡ b.server) × (e.of.life ≡ b.life)
    of_life =
        let q = and_true (same_server e.of.file.server b.server) (e.of.life.0 == b.life.0) (and_true (same_client e.of.client (client d)) _ life).1 in
        (server_same e.of.file.server b.server q.0, ap (λ n. record { 0 = n }) (eqb-true e.of.life.0 b.life.0 q.1))

    dirty_page : (x : DirtyPage) × (pages.dirty_of b.store.pages e.of.file.ino e.of.page ≡ Some x)
    dirty_page =
        owner_at _ w.log e ((flush.sites (client d) other running.there running.runs).cared b has).entries logged open_ of_client of_life.0 of_life.1

    found : cl.association_with other.node.state b.server ≡ Some b
    found = own_found other.node.state.associations (holds_of (client d) other running.there).once b has

    goes_on : ended_of w (client d) b.server b.life ≡ None
    goes_on = go (ended_of w (client d) b.server b.life) refl
      where
        go : (o : Option LeaseLife) → ended_of w (client d) b.server b.life ≡ o → o ≡ None
        go None q = refl
        go (Some row) q =
            let z = found_at (is_life_of (client d) b.server b.life) w.ended row q in
            let y = and_true (same_client row.client (client d)) _ z.0 in
            let r = and_true (same_server row.server b.server) (row.life.0 == b.life.0) y.1 in
            let sv : row.server ≡ b.server = server_same row.server b.server r.0 in
            let below =
            ((holds_of (client d) other running.there).below row z.1 (ap (λ n. record { 0 = n }) (eqb-true row.client.0 d y.0)) b
            (subst (λ (v : ServerId). cl.association_with other.node.state v ≡ Some b) (sym sv) found)).below running.runs in
            let l = eqb-true row.life.0 b.life.0 r.1 in
            absurd (omega (arith, below, l))

    lease_there : lasts w (client d) b.server ≡ true
    lease_there =
        let y : BeforeEnd w e.of = owner_at (BeforeEnd w) w.log e all.fates.pending logged open_ in
        let q : lease_end_of w (client d) b.server b.life ≡ Some y.end =
        subst (λ (l : Life). lease_end_of w (client d) b.server l ≡ Some y.end) of_life.1
        (subst (λ (s : ServerId). lease_end_of w (client d) s e.of.life ≡ Some y.end) of_life.0
        (subst (λ (x : ClientId). lease_end_of w x e.of.file.server e.of.life ≡ Some y.end) of_client y.is)) in
        let end : cl.lease_end_with other.node.state b.server ≡ Some y.end =
        sym (ap (end_or_present w (client d) b.server) goes_on ∙ ap (present_end w b.server) running.there) ∙ q in
        let before : (clock_of w (nodes.Client (client d))).0 < y.end.0 =
        subst (λ (x : ClientId). (clock_of w (nodes.Client x)).0 < y.end.0) of_client y.before in
        ap (lasts_at (clock_of w (nodes.Client (client d))) b.server) running.there
        ∙ and_both other.node.running (is_before (clock_of w (nodes.Client (client d))) (cl.lease_end_with other.node.state b.server)) running.runs
        (ap (is_before (clock_of w (nodes.Client (client d)))) end ∙ lt-ltb (clock_of w (nodes.Client (client d))).0 y.end.0 before)

    abbrev its : FileId
    its = file_of_dirty b.server dirty_page.0

    its_file : its ≡ f
    its_file =
        let z = found_at (pages.is_dirty_of e.of.file.ino e.of.page) b.store.pages.dirty dirty_page.0 dirty_page.1 in
        let i = eqb-true dirty_page.0.ino e.of.file.ino (and_true (dirty_page.0.ino == e.of.file.ino) (same_page dirty_page.0.page e.of.page) z.0).0 in
        ap (λ (s : ServerId). record { server = s; ino = dirty_page.0.ino }) (sym of_life.0)
        ∙ (ap (λ (n : ℕ). record { server = e.of.file.server; ino = n }) i ∙ same)

    in_list : Has its (dirty_files w (client d) b.server)
    in_list =
        let z = found_at (pages.is_dirty_of e.of.file.ino e.of.page) b.store.pages.dirty dirty_page.0 dirty_page.1 in
        has_map_in (file_of_dirty b.server) (dirty_at (association_of w (client d) b.server)) dirty_page.0
        (subst (λ o. Has dirty_page.0 (dirty_at o)) (sym (ap (association_at b.server) running.there ∙ found)) z.1)

    stands : list_all (is_alone w (client d)) (dirty_files w (client d) b.server) ≡ true
    stands =
        let z = flush.servers (client d) other running.there b has in
        let one = each_passes (all_alone w) (all_clients w) apart (client d) (client_there w (client d) other running.there) in
        let two = each_passes (are_alone w (client d)) (all_servers w) one b.server (server_there w b.server z.0 z.1) in
        sym (ap (λ x. not x || list_all (is_alone w (client d)) (dirty_files w (client d) b.server)) lease_there) ∙ two

    pub no_other : ⊥
    no_other =
        let one = each_passes (is_alone w (client d)) (dirty_files w (client d) b.server) stands its in_list in
        let two = subst (λ (x : FileId). is_alone w (client d) x ≡ true) its_file one in
        let z = each_passes (is_apart w f (client d)) (all_clients w) two c among in
        go (or_cases (same_client (client d) c) _ z)
      where
        go : (same_client (client d) c ≡ true) ⊎ (not (holds w c f || has_row w c f) ≡ true) → ⊥
        go (inl q) = differs (ap (λ n. record { 0 = n }) (eqb-true d c.0 q))
        go (inr q) =
            clash locks (not_true (holds w c f || has_row w c f) q)

-- A life that is frozen with an exclusive lock on a file: no other client has a row of the file at the server while it runs.
module _ (k : net.Config) (c i d : ℕ) (C : net.Client) (W : net.World) (ok : net.ConfigOk k) (locked : LockedHalf C i)
    (before : (W.at c).c.clock < C.date + k.lease) (f : FrozenLife k c C.life C W) (differs : d ≢ c) (up : (W.at d).s.up ≡ true) where
  abbrev X : Assoc
  X = stood C f.begun f.messages (W.at c)

  own : upd W.at c X c ≡ X
  own = upd-same W.at c X

  other : upd W.at c X d ≡ W.at d
  other = upd-other W.at c X d differs

  no_row : ((W.at d).s.row i).mode ≡ 0
  no_row =
      ap (λ (a : Assoc). (a.s.row i).mode) (sym other)
      ∙ machine.alone k (replaced W c X) ok f.reached c d i (λ (e : c ≡ d). differs (sym e))
      (subst (λ (a : Assoc). Alive k a.c) (sym own) (record { leased = locked.leased; lasts = before }))
      (subst (λ (a : Assoc). 2 ≤ (a.c.held i).mode) (sym own) locked.exclusive)
      (ap (λ (a : Assoc). a.s.up) other ∙ up)

pending_is : (f : Fate) → is_pending f ≡ true → f ≡ fates.Pending
pending_is fates.Pending q = refl
pending_is fates.Hard q = cc q
pending_is (fates.Gone cause) q = cc q

-- An exclusive row of a client at a server that runs.
module _ (k : net.Config) (count : ℕ) (past : List Step) (w : World) (h : FrozenHold k count w) (flush : FlushHold past w) (f : FileId) (node : ServerNode)
    (at : node_of w f.server ≡ Some node) (runs : node.running ≡ true) (c : ClientId) (among : Has c (all_clients w)) (row : LockRow)
    (there : row_of node.state.locks c f.ino ≡ Some row) (exclusive : row.mode ≡ modes.X) where
  abbrev s : ℕ
  s = f.server.0

  z : ServerStands k w s node
  z = h.all.servers s node at

  has_it : has_row w c f ≡ true
  has_it =
      ap (has_row_at c f.ino) at ∙ and_both node.running (is_some (row_of node.state.locks c f.ino)) runs (ap is_some there)

  -- what is pending of a life that a crash ended
  crashed : (e : LogEntry) → Has e w.log → is_pending e.fate ≡ true → e.of.file ≡ f → is_crashed_life w.ended e.of ≡ true → (c.0 ≡ e.of.client.0 → ⊥) → ⊥
  crashed e logged open_ same over differs = go (ended_of w o.client o.file.server o.life) refl
    where
      o : LogOwner
      o = e.of

      before : BeforeEnd w o
      before = owner_at (BeforeEnd w) w.log e h.all.fates.pending logged open_

      some : (l : LeaseLife) × Has l w.ended × (is_crash_of o l ≡ true)
      some = some_member_passes (is_crash_of o) w.ended over

      its : is_life_of o.client o.file.server o.life some.0 ≡ true
      its =
          let a = and_true some.0.crashed (ev.is_of_life_over some.0 0 o) some.2 in
          let b = and_true (same_client o.client some.0.client) (same_server o.file.server some.0.server && (o.life.0 == some.0.life.0)) a.1 in
          let d = and_true (same_server o.file.server some.0.server) (o.life.0 == some.0.life.0) b.1 in
          and_both (same_client some.0.client o.client) (same_server some.0.server o.file.server && (some.0.life.0 == o.life.0))
          (eq-eqb some.0.client.0 o.client.0 (sym (eqb-true o.client.0 some.0.client.0 b.0)))
          (and_both (same_server some.0.server o.file.server) (some.0.life.0 == o.life.0)
          (eq-eqb some.0.server.0 o.file.server.0 (sym (eqb-true o.file.server.0 some.0.server.0 d.0)))
          (eq-eqb some.0.life.0 o.life.0 (sym (eqb-true o.life.0 some.0.life.0 d.1))))

      go : (x : Option LeaseLife) → ended_of w o.client o.file.server o.life ≡ x → ⊥
      go None q = clash its (none_has (is_life_of o.client o.file.server o.life) w.ended q some.0 some.1)
      go (Some l) q = absurd (omega (arith, mode, zero_mode))
        where
          place : o.file.server.0 ≡ s
          place = ap (λ (x : FileId). x.server.0) same

          its_at : node_of w (server o.file.server.0) ≡ Some node
          its_at = ap (λ (x : FileId). node_of w x.server) same ∙ at

          y : ServerStands k w o.file.server.0 node
          y = h.all.servers o.file.server.0 node its_at

          x : StoodLife k w o.file.server.0 node y l o
          x = owner_at (OfCrashed (StandsStill k count w h.all) w) w.log e h.frozen_lives logged open_ l q (pending_crashed w h.all.fates.lives o l q before)
              node
              its_at

          clock : (client_in w o.client.0 o.file.server.0 (y.ended o.client.0)).clock < x.half.date + k.lease
          clock =
              let u = site_there w h.all.fates.lives o l q in
              let t = clock_in w o.client.0 o.file.server.0 (y.ended o.client.0) u.0 u.1 in
              let a = ahead w o before l q in
              let b = x.end in omega (arith, t, a, b)

          row_there : row_of node.state.locks c o.file.ino ≡ Some row
          row_there = ap (λ (j : FileId). row_of node.state.locks c j.ino) same ∙ there

          mode : (((pairs_of k w o.file.server.0 node y).at c.0).s.row o.file.ino).mode ≡ 2
          mode = ap (λ r. (row_or (row_view r)).mode) row_there ∙ ap number_of exclusive

          zero_mode : (((pairs_of k w o.file.server.0 node y).at c.0).s.row o.file.ino).mode ≡ 0
          zero_mode = no_row k o.client.0 o.file.ino c.0 x.half (pairs_of k w o.file.server.0 node y) h.all.sound x.locked clock x.frozen differs runs

  -- what is pending of the file is its own
  pub row_alone : (e : LogEntry) → Has e w.log → is_pending e.fate ≡ true → e.of.file ≡ f → e.of.client ≡ c
  row_alone e logged open_ same = go (same_or_not c.0 e.of.client.0)
    where
      living : (c.0 ≡ e.of.client.0 → ⊥) → PresentOf w e.of → ⊥
      living differs p =
          no_other k count past w h.all flush c f among (or_right (holds w c f) (has_row w c f) has_it) e.of.client.0 p.site
          (record { there = p.there; runs = p.runs }) p.a p.has e logged open_ own same (λ q. differs (ap (λ (x : ClientId). x.0) (sym q)))
        where
          own : is_of_life (client e.of.client.0) p.a.server p.a.life e.of ≡ true
          own =
              and_both (same_client e.of.client (client e.of.client.0)) (same_server e.of.file.server p.a.server && (e.of.life.0 == p.a.life.0))
              (eq-eqb e.of.client.0 e.of.client.0 refl)
              (and_both (same_server e.of.file.server p.a.server) (e.of.life.0 == p.a.life.0)
              (eq-eqb e.of.file.server.0 p.a.server.0 (ap (λ (x : ServerId). x.0) (sym p.server)))
              (eq-eqb e.of.life.0 p.a.life.0 (ap (λ (x : Life). x.0) (sym p.life))))

      by : (c.0 ≡ e.of.client.0 → ⊥) → (b : Bool) → is_crashed_life w.ended e.of ≡ b → ⊥
      by differs true q = crashed e logged open_ same q differs
      by differs false q = living differs (present w h.all.fates e logged (pending_is e.fate open_) q)

      go : (c.0 ≡ e.of.client.0) ⊎ (c.0 ≢ e.of.client.0) → e.of.client ≡ c
      go (inl q) = ap (λ n. record { 0 = n }) (sym q)
      go (inr n) = absurd (by n (is_crashed_life w.ended e.of) refl)
