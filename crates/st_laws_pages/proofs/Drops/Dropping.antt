-- What an advance owes for the causes of drops: if a life's end is reached that no crash ended, the last write of each page of which it
-- has a pending entry was reported failed.
use Rattle.st_lemmas.proofs.Words
use Words.{◌≡◌, ℕ, ◌+◌, ◌≤◌, ◌⊎◌, Bool, true, false, not, ◌&&◌, ◌||◌, List, [], ◌∷◌, ◌++◌, ◌==◌, Option, Some, None, refl, sym, ap, ◌∙◌, subst, inl}
use Words.{inr, arith, find, filter, is_some, leb-true, length, nat_le, nat_lt, option_map, list_any, eqb-true, ClientId, PageNo, ServerId, Stamp, PageCommand, LogEntry}
use Words.{LogOwner, DirtyPage, FlushStep, LeaseLife}
use Words.nodes
use Words.events
use Words.Extents.{numbers}
use Words.FlatLog as log
use Words.ClientLease as lease
use Words.ClientPages as pages
use Words.Client as cl
use Words.ClientState.{Association, ClientSession, is_at}
use Words.World as world
use Words.World.{World, WorldClient, numbered, site_of, clock_of, ended_of}
use Words.Admissible as adm
use Words.Events as ev
use Words.Events.{present_lives}
use Words.Safety.{Step}
use Words.Lists.{Has}
use Words.Lookups.{some_is}
use Words.Numbers.{numbered_below}
use Words.Tables.{and_true, has_append, has_filter, has_map_in, none_passes, found_at}
use Words.Members.{between_in_numbers, some_member_passes}
use Words.Truth.{none_not_some, not_both}
use Words.Worlds.{stands_not}
use Rattle.st_laws_pages.specs.Drops.Causes.{AdvanceOwes, FlushOwes}
use Rattle.st_laws_pages.specs.Fates.Fates.{PendingAll, BeforeEnd}
use Rattle.st_laws_steps.specs.Lives.Lives.{NodeHolds}
use Rattle.st_laws_pages.specs.Disks.Obligations.{FatesHold}
use Rattle.st_laws_pages.specs.Flush.Flush.{owner_at_page, DirtyHere, LastFailed, Cared, Covered, FlushHold}
use Rattle.st_laws_pages.specs.Writes.Writes.{ListsAgree}
use Rattle.st_laws_steps.proofs.Lives.Associations.{own_found}
use Rattle.st_laws_pages.proofs.Disks.Effects.{or_none}
use Rattle.st_laws_pages.proofs.Disks.Moves.{clock_is}
use Rattle.st_laws_pages.proofs.Fates.Fates.{pending_map}
use Rattle.st_laws_pages.proofs.Fates.GoneLaw.{pending_crashed}
use Rattle.st_laws_pages.proofs.Lives.Lasting.{Present, present_is, present_end_is}

-- No client comes to a lease end unflushed.
missed_none : (w : World) (steps : List ℕ) (c : ClientId) (ss : List ServerId) → adm.missed_by w steps c ss ≡ None → (s : ServerId) → Has s ss →
    adm.missed_at w steps c s (site_of w c) ≡ None
unfolding adm.missed_by
missed_none w steps c [] e s i = absurd i
missed_none w steps c (x ∷ ss) e s (inl q) = subst (λ y. adm.missed_at w steps c y (site_of w c) ≡ None) (sym q)
    (or_none (adm.missed_at w steps c x (site_of w c)) (adm.missed_by w steps c ss) e).0
missed_none w steps c (x ∷ ss) e s (inr i) = missed_none w steps c ss (or_none (adm.missed_at w steps c x (site_of w c)) (adm.missed_by w steps c ss) e).1 s i

flush_none : (w : World) (steps : List ℕ) (cs : List ClientId) → adm.flush_missed w steps cs ≡ None → (c : ClientId) → Has c cs →
    adm.missed_by w steps c (world.all_servers w) ≡ None
unfolding adm.flush_missed
flush_none w steps [] e c i = absurd i
flush_none w steps (x ∷ cs) e c (inl q) = subst (λ y. adm.missed_by w steps y (world.all_servers w) ≡ None) (sym q)
    (or_none (adm.missed_by w steps x (world.all_servers w)) (adm.flush_missed w steps cs) e).0
flush_none w steps (x ∷ cs) e c (inr i) = flush_none w steps cs (or_none (adm.missed_by w steps x (world.all_servers w)) (adm.flush_missed w steps cs) e).1 c i

advance_none : (w : World) (steps : List ℕ) → adm.refusal w (events.Advance steps) ≡ None → adm.flush_missed w steps (world.all_clients w) ≡ None
unfolding adm.refusal
advance_none w steps r = (or_none (adm.clocks_refused w steps) (adm.flush_missed w steps (world.all_clients w)) r).1

-- What follows if none is unflushed: flushed, and no write is outstanding.
three : (a b d e : Bool) → (a && (b && (d && e))) ≡ false → a ≡ true → b ≡ true → d ≡ true → e ≡ false
three true true true e h x y z = h
three false b d e h x y z = cc
three true false d e h x y z = cc
three true true false e h x y z = cc

two : (a b : Bool) → (not a || b) ≡ false → (a ≡ true) × (b ≡ false)
two true b h = (refl, h)
two false b h = cc

module _ (past : List Step) (w : World) where
  -- the failed command of a dirty page is its last write, and carried its latest entry
  abbrev pub FailedAs : ClientId → Association → ℕ → PageNo → DirtyPage → Type 0
  FailedAs c a ino q d = (n : ℕ) × (d.failed ≡ Some n) × LastFailed past w.commands w.log (owner_at_page c a ino q) n

-- A page that is dirty at its client, whose lease is over once clocks have advanced so.
pub record IsLeft (w : World) (steps : List ℕ) (o : LogOwner) : Type 0 where
  pub site : WorldClient
  pub there : numbered w.clients o.client.0 ≡ Some site
  pub runs : site.node.running ≡ true
  pub a : Association
  pub place : find (is_at o.file.server) site.node.state.associations ≡ Some a
  pub session : ClientSession
  pub is : a.session ≡ Some session
  pub over : (lease.end_of site.node.state.config session.lease).0 ≤ (clock_of (ev.with_clocks steps w) (nodes.Client o.client)).0
  pub page : DirtyPage
  pub dirty : pages.dirty_of a.store.pages o.file.ino o.page ≡ Some page

module _ (past : List Step) (w : World) (steps : List ℕ) (r : adm.refusal w (events.Advance steps) ≡ None) (f : FatesHold w) (h : FlushHold past w)
    (agree : ListsAgree w) where
  -- of a life that no crash ended, which is present
  module _ (l : LeaseLife) (p : Present w l) (reached : ev.is_reached w steps l ≡ true) where
    abbrev a : Association
    a = p.a

    m : NodeHolds w.config w.clocks w.ended l.client p.site.node
    m = f.lives.lives.sites l.client p.site p.there

    has_end : (t : Stamp) × (l.end ≡ Some t)
    has_end = go l.end refl reached
      where
        go : (o : Option Stamp) → l.end ≡ o → adm.reaches (clock_of w (nodes.Client l.client)) (adm.step_of l.client steps) o ≡ true →
            (t : Stamp) × (l.end ≡ Some t)
        go None q e = cc
        go (Some t) q e = (t, q)

    runs : p.site.node.running ≡ true
    runs = (present_end_is w f.lives l p has_end.0 has_end.1).0

    found : find (is_at a.server) p.site.node.state.associations ≡ Some a
    found = own_found p.site.node.state.associations m.once a p.has

    end_is : cl.lease_end_with p.site.node.state a.server ≡ l.end
    end_is =
        ap (λ k. lease.end_at k (cl.lease_at (find (is_at a.server) p.site.node.state.associations))) m.config ∙
        ap (λ o. lease.end_at w.config (cl.lease_at o)) found ∙ ap (λ (x : LeaseLife). x.end) (sym p.is)

    -- the session whose lease ends
    session : (s : ClientSession) × (a.session ≡ Some s) × (lease.end_of w.config s.lease ≡ has_end.0)
    session = go a.session refl
      where
        its : lease.end_at w.config (cl.lease_at (Some a)) ≡ Some has_end.0
        its = ap (λ (x : LeaseLife). x.end) (sym p.is) ∙ has_end.1

        go : (o : Option ClientSession) → a.session ≡ o → (s : ClientSession) × (a.session ≡ Some s) × (lease.end_of w.config s.lease ≡ has_end.0)
        go None q = absurd (no (ap (λ o. lease.end_at w.config (option_map cl.lease_of_session o)) (sym q) ∙ its))
          where
            no : ◌≡◌ {A = Option Stamp} None (Some has_end.0) → ⊥
            no z = cc
        go (Some s) q = (s, q, some_is (ap (λ o. lease.end_at w.config (option_map cl.lease_of_session o)) (sym q) ∙ its))

    range : (1 ≤ a.server.0) × (a.server.0 ≤ length w.servers)
    range = h.servers l.client p.site p.there a p.has

    missed : adm.misses w l.client a.server (adm.step_of l.client steps) p.site (cl.lease_end_with p.site.node.state a.server) ≡ false
    missed =
        stands_not _ _
        (ap (λ o. adm.missed_at w steps l.client a.server o) (sym p.there)
        ∙ missed_none w steps l.client (world.all_servers w) (flush_none w steps (world.all_clients w) (advance_none w steps r) l.client client) a.server
        server)
      where
        to_client : ℕ → ClientId
        to_client n = record { 0 = n }

        to_server : ℕ → ServerId
        to_server n = record { 0 = n }

        in_clients : (1 ≤ l.client.0) × (l.client.0 ≤ length w.clients)
        in_clients = numbered_below w.clients l.client.0 p.site p.there

        client : Has l.client (world.all_clients w)
        client = has_map_in to_client (numbers 1 (length w.clients)) l.client.0
            (let x = in_clients.0 in let y = in_clients.1 in between_in_numbers 1 (length w.clients) l.client.0 x (omega (arith, y)))

        server : Has a.server (world.all_servers w)
        server = has_map_in to_server (numbers 1 (length w.servers)) a.server.0
            (let x = range.0 in let y = range.1 in between_in_numbers 1 (length w.servers) a.server.0 x (omega (arith, y)))

    store_is : cl.store_at (cl.association_with p.site.node.state a.server) ≡ a.store
    store_is = ap cl.store_at found

    -- with a dirty page it was flushed, and the world has no write out
    flushed : (ino : ℕ) (q : PageNo) (d : DirtyPage) → pages.dirty_of a.store.pages ino q ≡ Some d →
        (adm.has_flushed w l.client a.server l.end ≡ true) × (adm.has_write_out w l.client a.server p.site ≡ false)
    flushed ino q d e =
        let z = two (adm.has_flushed w l.client a.server (cl.lease_end_with p.site.node.state a.server)) (adm.has_write_out w l.client a.server p.site)
        (three p.site.node.running
        (adm.reaches (clock_of w (nodes.Client l.client)) (adm.step_of l.client steps) (cl.lease_end_with p.site.node.state a.server))
        (cl.has_dirty_with p.site.node.state a.server) _ missed runs
        (ap (adm.reaches (clock_of w (nodes.Client l.client)) (adm.step_of l.client steps)) end_is ∙ reached)
        (ap (λ (s : pages.Store). cl.is_any s.pages.dirty) store_is ∙
        any a.store.pages.dirty (found_at (pages.is_dirty_of ino q) a.store.pages.dirty d e).1)) in
        (ap (adm.has_flushed w l.client a.server) (sym end_is) ∙ z.0, z.1)
      where
        any : (xs : List DirtyPage) → Has d xs → cl.is_any xs ≡ true
        any [] i = absurd i
        any (x ∷ xs) i = refl

    -- so each of its dirty pages is covered
    covered : adm.has_flushed w l.client a.server l.end ≡ true → Covered a
    covered e =
        go (some_member_passes (adm.is_flush_under l.client a.server (Some has_end.0)) w.flushed (ap (adm.has_flushed w l.client a.server) (sym has_end.1) ∙ e))
      where
        go : (x : FlushStep) × Has x w.flushed × (adm.is_flush_under l.client a.server (Some has_end.0) x ≡ true) → Covered a
        go (x, i, t) =
            let u = and_true (world.is_flush_of l.client a.server x) (x.end.0 == has_end.0.0) t in
            let v = and_true (Rattle.st_rules.specs.Keys.same_client x.client l.client) (Rattle.st_rules.specs.Keys.same_server x.server a.server) u.0 in
            (h.flushes x i).covered p.site (ap (numbered w.clients) (eqb-true x.client.0 l.client.0 v.0) ∙ p.there) runs a p.has
            (sym (eqb-true x.server.0 a.server.0 v.1)) session.0 session.1
            (ap (λ (t : Stamp). t.0) session.2 ∙ sym (eqb-true x.end.0 has_end.0.0 u.1))

    cared : Cared past w.commands w.log l.client p.site.starts p.site.node.state.next_command a
    cared = (h.sites l.client p.site p.there runs).cared a p.has

    -- the last write of a dirty page carried its latest entry, and was reported failed
    pub dirty_failed : (ino : ℕ) (q : PageNo) (d : DirtyPage) → pages.dirty_of a.store.pages ino q ≡ Some d → FailedAs past w l.client a ino q d
    dirty_failed ino q d e = go (covered z.0 ino q d e)
      where
        z : (adm.has_flushed w l.client a.server l.end ≡ true) × (adm.has_write_out w l.client a.server p.site ≡ false)
        z = flushed ino q d e

        unlisted : list_any pages.is_any_write a.store.commands ≡ false
        unlisted =
            ap (λ (s : pages.Store). list_any pages.is_any_write s.commands) (sym store_is) ∙ agree l.client p.site p.there runs a p.has ∙ z.1

        written : pages.is_being_written a.store.commands ino q ≡ true → ⊥
        written b = at (some_member_passes (pages.is_write_of ino q) a.store.commands b)
          where
            at : (pc : PageCommand) × Has pc a.store.commands × (pages.is_write_of ino q pc ≡ true) → ⊥
            at (pc, i, k) = not_both (pages.is_write pc.kind) (and_true (pages.is_write pc.kind) _ k).0
                (none_passes pages.is_any_write a.store.commands unlisted pc i)

        failed : (n : Option ℕ) → d.failed ≡ n → is_some n ≡ true → FailedAs past w l.client a ino q d
        failed None f k = cc
        failed (Some n) f k = last (cared.failed ino q d n e f)
          where
            last : (pages.is_being_written a.store.commands ino q ≡ true) ⊎ LastFailed past w.commands w.log (owner_at_page l.client a ino q) n →
                FailedAs past w l.client a ino q d
            last (inl b) = absurd (written b)
            last (inr b) = (n, f, b)

        go : (pages.is_being_written a.store.commands ino q ≡ true) ⊎ (is_some d.failed ≡ true) → FailedAs past w l.client a ino q d
        go (inl b) = absurd (written b)
        go (inr b) = failed d.failed refl b

    -- an owner of this life
    of_life : (o : LogOwner) → ev.is_of_life_over l 0 o ≡ true → (o.client ≡ l.client) × (o.file.server ≡ a.server) × (o.life ≡ a.life)
    of_life o t =
        let x = and_true (Rattle.st_rules.specs.Keys.same_client o.client l.client)
        (Rattle.st_rules.specs.Keys.same_server o.file.server l.server && (o.life.0 == l.life.0)) t in
        let y = and_true (Rattle.st_rules.specs.Keys.same_server o.file.server l.server) (o.life.0 == l.life.0) x.1 in (
          ap (λ n. record { 0 = n }) (eqb-true o.client.0 l.client.0 x.0),
          ap (λ n. record { 0 = n }) (eqb-true o.file.server.0 l.server.0 y.0) ∙ ap (λ (x : LeaseLife). x.server) p.is,
          ap (λ n. record { 0 = n }) (eqb-true o.life.0 l.life.0 y.1) ∙ ap (λ (x : LeaseLife). x.life) p.is,
        )

    -- so was that of a page with a pending entry
    pub pending_failed : (o : LogOwner) → DirtyHere l.client a o → ev.is_of_life_over l 0 o ≡ true → (n : ℕ) × LastFailed past w.commands w.log o n
    pending_failed o g t = by (g z.0 z.1 z.2)
      where
        z : (o.client ≡ l.client) × (o.file.server ≡ a.server) × (o.life ≡ a.life)
        z = of_life o t

        owner_is : owner_at_page l.client a o.file.ino o.page ≡ o
        owner_is =
            ap (λ x. log.owner x a.life (record { server = a.server; ino = o.file.ino }) o.page) (sym z.0) ∙
            ap (λ x. log.owner o.client x (record { server = a.server; ino = o.file.ino }) o.page) (sym z.2)
            ∙ ap (λ x. log.owner o.client o.life (record { server = x; ino = o.file.ino }) o.page) (sym z.1)

        by : (d : DirtyPage) × (pages.dirty_of a.store.pages o.file.ino o.page ≡ Some d) → (n : ℕ) × LastFailed past w.commands w.log o n
        by (d, e) = let x = dirty_failed o.file.ino o.page d e in (x.0, subst (λ y. LastFailed past w.commands w.log y x.0) owner_is x.2)

    -- and the page is lost with the next step of its client
    pub pending_left : (o : LogOwner) → DirtyHere l.client a o → ev.is_of_life_over l 0 o ≡ true → IsLeft w steps o
    pending_left o g t =
        record {
          site = p.site;
          there = ap (λ (c : ClientId). numbered w.clients c.0) z.0 ∙ p.there;
          runs = runs;
          a = a;
          place = ap (λ s. find (is_at s) p.site.node.state.associations) z.1 ∙ found;
          session = session.0;
          is = session.1;
          over = end;
          page = d.0;
          dirty = d.1;
        }
      where
        z : (o.client ≡ l.client) × (o.file.server ≡ a.server) × (o.life ≡ a.life)
        z = of_life o t

        d : (d : DirtyPage) × (pages.dirty_of a.store.pages o.file.ino o.page ≡ Some d)
        d = g z.0 z.1 z.2

        clock : ℕ
        clock = (clock_of w (nodes.Client l.client)).0

        before : has_end.0.0 ≤ clock + adm.step_of l.client steps
        before = leb-true has_end.0.0 (clock + adm.step_of l.client steps)
            (and_true (nat_lt clock has_end.0.0) (nat_le has_end.0.0 (clock + adm.step_of l.client steps))
            (ap (adm.reaches (clock_of w (nodes.Client l.client)) (adm.step_of l.client steps)) (sym has_end.1) ∙ reached)).1

        end : (lease.end_of p.site.node.state.config session.0.lease).0 ≤ (clock_of (ev.with_clocks steps w) (nodes.Client o.client)).0
        end =
            let x = before in
            let y = clock_is w steps l.client m.clock m.ticks in
            let u : (clock_of (ev.with_clocks steps w) (nodes.Client o.client)).0 ≡ (clock_of (ev.with_clocks steps w) (nodes.Client l.client)).0 =
            ap (λ c. (clock_of (ev.with_clocks steps w) (nodes.Client c)).0) z.0 in
            let v : (lease.end_of p.site.node.state.config session.0.lease).0 ≡ has_end.0.0 =
            ap (λ k. (lease.end_of k session.0.lease).0) m.config ∙ ap (λ (t : Stamp). t.0) session.2 in omega (arith, x, y, u, v)

    present_owes : (es : List LogEntry) → PendingAll (DirtyHere l.client a) es → AdvanceOwes past w.commands l es
    present_owes [] g = record {}
    present_owes (e ∷ es) g = record { one = λ n t q. (pending_failed e.of (g.one q) t).1.told; rest = present_owes es g.rest }

  -- what is pending of a life that ended is of a crash
  ended_crashed : (l : LeaseLife) → Has l w.ended → (o : LogOwner) → ev.is_of_life_over l 0 o ≡ true → BeforeEnd w o → l.crashed ≡ true
  ended_crashed l i o t b =
      let x = and_true (Rattle.st_rules.specs.Keys.same_client o.client l.client)
      (Rattle.st_rules.specs.Keys.same_server o.file.server l.server && (o.life.0 == l.life.0)) t in
      let y = and_true (Rattle.st_rules.specs.Keys.same_server o.file.server l.server) (o.life.0 == l.life.0) x.1 in
      pending_crashed w f.lives o l
      (ap (λ n. ended_of w (record { 0 = n }) o.file.server o.life) (eqb-true o.client.0 l.client.0 x.0) ∙
      ap (λ n. ended_of w l.client (record { 0 = n }) o.life) (eqb-true o.file.server.0 l.server.0 y.0)
      ∙ ap (λ n. ended_of w l.client l.server (record { 0 = n })) (eqb-true o.life.0 l.life.0 y.1) ∙ (f.lives.lives.ends l i).self) b

  -- of a life that ended
  ended_owes : (l : LeaseLife) → Has l w.ended → (es : List LogEntry) → PendingAll (BeforeEnd w) es → AdvanceOwes past w.commands l es
  ended_owes l i [] g = record {}
  ended_owes l i (e ∷ es) g = record { one = λ n t q. absurd (not_both l.crashed (ended_crashed l i e.of t (g.one q)) n); rest = ended_owes l i es g.rest }

  owes_all : (ls : List LeaseLife) → ((l : LeaseLife) → Has l ls → Has l (present_lives w.clients ++ w.ended) × (ev.is_reached w steps l ≡ true)) →
      FlushOwes past w ls
  owes_all [] g = record {}
  owes_all (l ∷ ls) g = record { one = at (g l (inl refl)); rest = owes_all ls (λ y i. g y (inr i)) }
    where
      at : Has l (present_lives w.clients ++ w.ended) × (ev.is_reached w steps l ≡ true) → AdvanceOwes past w.commands l w.log
      at (i, t) = go (has_append (present_lives w.clients) w.ended l i)
        where
          go : Has l (present_lives w.clients) ⊎ Has l w.ended → AdvanceOwes past w.commands l w.log
          go (inl j) =
              let p = present_is w f.lives l j in
              present_owes l p t w.log ((h.sites l.client p.site p.there (runs l p t)).cared p.a p.has).entries
          go (inr j) = ended_owes l j w.log f.pending

  pub advance_owed : FlushOwes past w (ev.lives_reached w steps)
  unfolding ev.lives_reached
  advance_owed = owes_all (filter (ev.is_reached w steps) (present_lives w.clients ++ w.ended))
      (λ l i. has_filter (ev.is_reached w steps) (present_lives w.clients ++ w.ended) l i)

  -- what is pending of a reached life that no crash ended: the last write of each page carried its latest entry, and was reported failed
  abbrev pub EndsFailed : LeaseLife → LogOwner → Type 0
  EndsFailed l o = ev.is_of_life_over l 0 o ≡ true → (n : ℕ) × LastFailed past w.commands w.log o n

  pub reached_failed : (l : LeaseLife) → Has l (ev.lives_reached w steps) → l.crashed ≡ false → PendingAll (EndsFailed l) w.log
  unfolding ev.lives_reached
  reached_failed l i alive = go (has_append (present_lives w.clients) w.ended l there.0)
    where
      there : Has l (present_lives w.clients ++ w.ended) × (ev.is_reached w steps l ≡ true)
      there = has_filter (ev.is_reached w steps) (present_lives w.clients ++ w.ended) l i

      go : Has l (present_lives w.clients) ⊎ Has l w.ended → PendingAll (EndsFailed l) w.log
      go (inl j) =
          let p = present_is w f.lives l j in
          pending_map (DirtyHere l.client p.a) (EndsFailed l) w.log (λ o. pending_failed l p there.1 o)
          ((h.sites l.client p.site p.there (runs l p there.1)).cared p.a p.has).entries
      go (inr j) = pending_map (BeforeEnd w) (EndsFailed l) w.log (λ o b t. absurd (not_both l.crashed (ended_crashed l j o t b) alive)) f.pending

  -- and the page is lost with the next step of its client
  pub reached_left : (l : LeaseLife) → Has l (ev.lives_reached w steps) → l.crashed ≡ false →
      PendingAll (λ o. ev.is_of_life_over l 0 o ≡ true → IsLeft w steps o) w.log
  unfolding ev.lives_reached
  reached_left l i alive = go (has_append (present_lives w.clients) w.ended l there.0)
    where
      there : Has l (present_lives w.clients ++ w.ended) × (ev.is_reached w steps l ≡ true)
      there = has_filter (ev.is_reached w steps) (present_lives w.clients ++ w.ended) l i

      go : Has l (present_lives w.clients) ⊎ Has l w.ended → PendingAll (λ o. ev.is_of_life_over l 0 o ≡ true → IsLeft w steps o) w.log
      go (inl j) =
          let p = present_is w f.lives l j in
          pending_map (DirtyHere l.client p.a) (λ o. ev.is_of_life_over l 0 o ≡ true → IsLeft w steps o) w.log (λ o. pending_left l p there.1 o)
          ((h.sites l.client p.site p.there (runs l p there.1)).cared p.a p.has).entries
      go (inr j) =
          pending_map (BeforeEnd w) (λ o. ev.is_of_life_over l 0 o ≡ true → IsLeft w steps o) w.log
          (λ o b t. absurd (not_both l.crashed (ended_crashed l j o t b) alive)) f.pending

  -- a crash ended a reached life only if it is among those that ended
  pub reached_crashed : (l : LeaseLife) → Has l (ev.lives_reached w steps) → l.crashed ≡ true → Has l w.ended
  unfolding ev.lives_reached
  reached_crashed l i crashed = go (has_append (present_lives w.clients) w.ended l there)
    where
      there : Has l (present_lives w.clients ++ w.ended)
      there = (has_filter (ev.is_reached w steps) (present_lives w.clients ++ w.ended) l i).0

      go : Has l (present_lives w.clients) ⊎ Has l w.ended → Has l w.ended
      go (inl j) = absurd (not_both l.crashed crashed (ap (λ (x : LeaseLife). x.crashed) (present_is w f.lives l j).is))
      go (inr j) = j

  -- and otherwise ended no life of its client and server with its number
  pub reached_alive : (l : LeaseLife) → Has l (ev.lives_reached w steps) → l.crashed ≡ false → (r : LeaseLife) → Has r w.ended → r.crashed ≡ true →
      r.client ≡ l.client → r.server ≡ l.server → r.life ≡ l.life → ⊥
  unfolding ev.lives_reached
  reached_alive l i alive r j crashed client server life = go (has_append (present_lives w.clients) w.ended l there.0)
    where
      there : Has l (present_lives w.clients ++ w.ended) × (ev.is_reached w steps l ≡ true)
      there = has_filter (ev.is_reached w steps) (present_lives w.clients ++ w.ended) l i

      found : ended_of w l.client l.server l.life ≡ Some r
      found =
          ap (λ c. ended_of w c l.server l.life) (sym client)
          ∙ (ap (λ s. ended_of w r.client s l.life) (sym server) ∙ (ap (ended_of w r.client r.server) (sym life) ∙ (f.lives.lives.ends r j).self))

      go : Has l (present_lives w.clients) ⊎ Has l w.ended → ⊥
      go (inl k) =
          let p = present_is w f.lives l k in
          let z = has_end l p there.1 in none_not_some r (sym (present_end_is w f.lives l p z.0 z.1).1 ∙ found)
      go (inr k) = not_both r.crashed crashed (ap (λ (x : LeaseLife). x.crashed) (some_is (sym found ∙ (f.lives.lives.ends l k).self)) ∙ alive)
