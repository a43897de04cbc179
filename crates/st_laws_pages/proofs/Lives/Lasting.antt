-- What was late stays late; and the ends of leases that an advance looks at are the present ones.
use Rattle.st_lemmas.proofs.Words
use Words.{◌≡◌, ◌≢◌, ℕ, ◌⊎◌, Bool, true, false, List, [], ◌∷◌, ◌++◌, Option, Some, None, Ok, refl, sym, ap, ◌∙◌, inl, inr, arith, find, nat_le, suc}
use Words.{slice_get, option_map, ne_eqb, ClientId, ServerId, Life, Stamp, Phase, LeaseLife}
use Words.nodes
use Words.phases
use Words.refusals
use Words.ClientLease as lease
use Words.Client as cl
use Words.ClientState.{Association, ClientState, ClientSession, is_at}
use Words.World as world
use Words.World.{World, WorldClient, numbered, with_numbered, site_of, clock_of, is_life_of, ended_of, end_or_present, lease_end_of, life_of_association}
use Words.World.{lives_of}
use Words.Admissible as adm
use Words.Events as ev
use Words.Events.{client_says_all, present_lives}
use Words.Lists.{Has}
use Words.Tables.{has_append, has_map, same_or_not}
use Words.Numbers.{numbered_other, numbered_below, numbered_has}
use Words.Truth.{none_not_some}
use Words.Worlds.{present_at}
use Rattle.st_laws_pages.specs.Disks.World.{Timely, LateStays, EndsAt, EndsAgree}
use Rattle.st_laws_steps.specs.Client.Losses.{is_ended}
use Rattle.st_laws_steps.specs.Lives.Lives.{ended_rows, rows_lost, Stepped, clock_in, IsKnown, NodeHolds, LivesHold, CrashLives}
use Rattle.st_laws_pages.proofs.Lives.Lives.{find_front, find_back}
use Rattle.st_laws_steps.proofs.Lives.Associations.{own_found, lost_found, lost_other}
use Rattle.st_laws_pages.proofs.Lives.NodeTurns.{row_is}
use Rattle.st_laws_pages.proofs.Lives.Turning.{Said, says_lives}

-- A command's life that has not ended is the present one.
pub known_crash : (w : World) (c : ClientId) → LivesHold w → CrashLives w c
known_crash w c h k x i q n = go (h.known.commands x (numbered_has w.commands k x i))
  where
    go : IsKnown w.clients w.ended x.client x.server x.life → (ev.present_life w x.client x.server).0 ≡ x.life.0
    go (inl (e, z)) = absurd (none_not_some e (sym n ∙ z))
    go (inr z) = z

-- Start: a client that does not run has no session.
pub start_stays : (w : World) (c : ClientId) (site : WorldClient) → site_of w c ≡ Some site → site.node.running ≡ false → LivesHold w → LateStays w (ev.starts_client w c (Some site))
unfolding ev.starts_client
start_stays w c site there r h k x i t = go (ended_of w x.client x.server x.life) refl (same_or_not x.client.0 c.0)
  where
    v : World
    v = ev.with_site c (ev.started_site site) w

    clock : Stamp
    clock = clock_of w (nodes.Client x.client)

    none : (a : Option Association) → find (is_at x.server) site.node.state.associations ≡ a → cl.lease_at a ≡ None
    none None e = refl
    none (Some a) e = ap (option_map cl.lease_of_session) ((h.lives.sites c site there).stopped r a (Rattle.st_laws_steps.proofs.Lives.Associations.found_has x.server site.node.state.associations a e).0).session

    go : (o : Option LeaseLife) → ended_of w x.client x.server x.life ≡ o → (x.client.0 ≡ c.0) ⊎ (x.client.0 ≢ c.0) → Timely w k x
    go (Some e) q n = ap (λ o. adm.late_at clock (end_or_present w x.client x.server o)) q ∙ ap (λ o. adm.late_at clock (end_or_present v x.client x.server o)) (sym q) ∙ t
    go None q (inl n) =
        ap (λ o. adm.late_at clock (end_or_present w x.client x.server o)) q ∙ ap (λ z. adm.late_at clock (world.present_end w x.server (numbered w.clients z))) n ∙ ap (λ z. adm.late_at clock (world.present_end w x.server z)) there
        ∙ ap (λ l. adm.late_at clock (lease.end_at site.node.state.config l)) (none (find (is_at x.server) site.node.state.associations) refl)
    go None q (inr n) =
        ap (λ o. adm.late_at clock (end_or_present w x.client x.server o)) q
        ∙ ap (λ z. adm.late_at clock (world.present_end w x.server z)) (sym (numbered_other w.clients c.0 x.client.0 (ev.started_site site) (numbered_below w.clients c.0 site there).0 n))
        ∙ ap (λ o. adm.late_at clock (end_or_present v x.client x.server o)) (sym q) ∙ t

-- A step of a client.

-- what flush steps leave
pub record Flushed (w v : World) : Type 0 where
  pub clocks : v.clocks ≡ w.clocks
  pub clients : v.clients ≡ w.clients
  pub ended : v.ended ≡ w.ended
  pub log : v.log ≡ w.log
  pub commands : v.commands ≡ w.commands
  pub config : v.config ≡ w.config
  pub servers : v.servers ≡ w.servers

pub flush_parts : (c : ClientId) (s : ClientState) (ss : List ServerId) (w : World) → Flushed w (ev.flushes c s ss w)
unfolding ev.flushes
flush_parts c s [] w = record { clocks = refl; clients = refl; ended = refl; log = refl; commands = refl; config = refl; servers = refl }
flush_parts c s (x ∷ ss) w = go (in_phase (cl.lease_end_with s x) (cl.phase_with s x (clock_of w (nodes.Client c)))) (flush_parts c s ss (ev.flushed_at w c x s))
  where
    under : (o : Option Stamp) → Flushed w (ev.flushed_under w c x o)
    under None = record { clocks = refl; clients = refl; ended = refl; log = refl; commands = refl; config = refl; servers = refl }
    under (Some e) = record { clocks = refl; clients = refl; ended = refl; log = refl; commands = refl; config = refl; servers = refl }

    in_phase : (o : Option Stamp) (p : Option Phase) → Flushed w (ev.flushed_in w c x o p)
    in_phase o (Some phases.Flush) = under o
    in_phase o (Some phases.Valid) = record { clocks = refl; clients = refl; ended = refl; log = refl; commands = refl; config = refl; servers = refl }
    in_phase o (Some phases.Renewal) = record { clocks = refl; clients = refl; ended = refl; log = refl; commands = refl; config = refl; servers = refl }
    in_phase o (Some phases.Quiesce) = record { clocks = refl; clients = refl; ended = refl; log = refl; commands = refl; config = refl; servers = refl }
    in_phase o (Some phases.Expired) = record { clocks = refl; clients = refl; ended = refl; log = refl; commands = refl; config = refl; servers = refl }
    in_phase o None = record { clocks = refl; clients = refl; ended = refl; log = refl; commands = refl; config = refl; servers = refl }

    go : Flushed w (ev.flushed_at w c x s) → Flushed (ev.flushed_at w c x s) (ev.flushes c s ss (ev.flushed_at w c x s)) → Flushed w (ev.flushes c s ss (ev.flushed_at w c x s))
    go a b = record { clocks = b.clocks ∙ a.clocks; clients = b.clients ∙ a.clients; ended = b.ended ∙ a.ended; log = b.log ∙ a.log; commands = b.commands ∙ a.commands; config = b.config ∙ a.config; servers = b.servers ∙ a.servers }

-- what was late stays late, by the parts of a world
late_parts : (w v : World) (c : ClientId) (old site : WorldClient) → site_of w c ≡ Some old → LivesHold w → v.clocks ≡ w.clocks → v.clients ≡ with_numbered c.0 site w.clients →
    v.ended ≡ w.ended ++ rows_lost c old.node.state (clock_in w.clocks c) old.node.state.associations → LateStays w v
unfolding adm.stands
late_parts w v c old site there h ts cs es k x i t = go (ended_of w x.client x.server x.life) refl (same_or_not x.client.0 c.0)
  where
    rows : List LeaseLife
    rows = rows_lost c old.node.state (clock_in w.clocks c) old.node.state.associations

    clock : Stamp
    clock = clock_in w.clocks x.client

    p : LeaseLife → Bool
    p = is_life_of x.client x.server x.life

    -- the test in the new world, by what is found there
    now_timely : (o : Option LeaseLife) → find p (w.ended ++ rows) ≡ o → adm.late_at clock (end_or_present v x.client x.server o) ≡ None
    now_timely o q =
        ap (λ z. adm.late_at clock (end_or_present v x.client x.server z)) (sym (ap (find p) es ∙ q))
        ∙ ap (λ z. adm.late_at (clock_in z x.client) (end_or_present v x.client x.server (find p v.ended))) (sym ts) ∙ t

    mine : NodeHolds w.config w.clocks w.ended c old.node
    mine = h.lives.sites c old there

    -- a session that is not over at this moment
    by_session : (a : Association) → find (is_at x.server) old.node.state.associations ≡ Some a → find p w.ended ≡ None → x.client.0 ≡ c.0 → (s : Option ClientSession) → a.session ≡ s →
        adm.late_at clock (lease.end_at old.node.state.config (option_map cl.lease_of_session s)) ≡ None
    by_session a f n q None e = refl
    by_session a f n q (Some s) e = ended (nat_le (lease.end_of old.node.state.config s.lease).0 clock.0) refl
      where
        end : Stamp
        end = lease.end_of old.node.state.config s.lease

        id : c ≡ x.client
        id = ap (λ n. record { 0 = n }) (sym q)

        server : a.server ≡ x.server
        server = (Rattle.st_laws_steps.proofs.Lives.Associations.found_has x.server old.node.state.associations a f).1

        ends_so : cl.lease_end_with old.node.state a.server ≡ Some end
        ends_so = ap (λ z. lease.end_at old.node.state.config (cl.lease_at (find (is_at z) old.node.state.associations))) server ∙ ap (λ o. lease.end_at old.node.state.config (cl.lease_at o)) f ∙ ap (λ o. lease.end_at old.node.state.config (option_map cl.lease_of_session o)) e

        life : a.life.0 ≡ x.life.0
        life = known (h.known.commands x (numbered_has w.commands k x i))
          where
            known : IsKnown w.clients w.ended x.client x.server x.life → a.life.0 ≡ x.life.0
            known (inl (r, z)) = absurd (none_not_some r (sym n ∙ z))
            known (inr z) = ap (λ o. (world.life_at o).0) (sym f) ∙ ap (λ o. (ev.life_of_site x.server o).0) (sym there) ∙ ap (λ m. (ev.life_of_site x.server (numbered w.clients m)).0) (sym q) ∙ z

        row : LeaseLife
        row = Rattle.st_laws_steps.specs.Lives.Lives.lost_row c old.node.state a.server a.life

        found : nat_le end.0 clock.0 ≡ true → find p (w.ended ++ rows) ≡ Some row
        found b =
            find_back p w.ended rows n ∙ ap (λ z. find (is_life_of z x.server x.life) rows) (sym id)
            ∙ lost_found c old.node.state (clock_in w.clocks c) x.server x.life old.node.state.associations a f (ap (is_ended old.node.state.config (clock_in w.clocks c)) e ∙ ap (λ z. nat_le end.0 (clock_in w.clocks z).0) id ∙ b) life

        ended : (b : Bool) → nat_le end.0 clock.0 ≡ b → adm.late_at clock (Some end) ≡ None
        ended true b = ap (adm.late_at clock) (sym ends_so) ∙ now_timely (Some row) (found b)
        ended false b = ap (λ z. adm.stands z (refusals.LateDisk clock end)) b

    by_place : (a : Option Association) → find (is_at x.server) old.node.state.associations ≡ a → find p w.ended ≡ None → x.client.0 ≡ c.0 → adm.late_at clock (lease.end_at old.node.state.config (cl.lease_at a)) ≡ None
    by_place None f n q = refl
    by_place (Some a) f n q = by_session a f n q a.session refl

    go : (o : Option LeaseLife) → ended_of w x.client x.server x.life ≡ o → (x.client.0 ≡ c.0) ⊎ (x.client.0 ≢ c.0) → Timely w k x
    go (Some e) q n = ap (λ o. adm.late_at clock (end_or_present w x.client x.server o)) q ∙ now_timely (Some e) (find_front p w.ended rows e q)
    go None q (inl n) =
        ap (λ o. adm.late_at clock (end_or_present w x.client x.server o)) q ∙ ap (λ z. adm.late_at clock (world.present_end w x.server (numbered w.clients z))) n ∙ ap (λ z. adm.late_at clock (world.present_end w x.server z)) there
        ∙ by_place (find (is_at x.server) old.node.state.associations) refl q n
    go None q (inr n) =
        ap (λ o. adm.late_at clock (end_or_present w x.client x.server o)) q
        ∙ ap (λ z. adm.late_at clock (world.present_end w x.server z)) (sym (ap (λ z. numbered z x.client.0) cs ∙ numbered_other w.clients c.0 x.client.0 site (numbered_below w.clients c.0 old there).0 n))
        ∙ now_timely None (find_back p w.ended rows q ∙ lost_other c x.client old.node.state (clock_in w.clocks c) x.server x.life old.node.state.associations (ne_eqb c.0 x.client.0 (λ z. n (sym z))))

pub client_stays : (w : World) (c : ClientId) (old site : WorldClient) (t : cl.NodeTurn) → site_of w c ≡ Some old → old.node ≡ site.node → Stepped (clock_of w (nodes.Client c)) c old.node.state t.node.state t.out → LivesHold w → LateStays w (ev.client_took w c site (Ok t)).world
unfolding ev.client_took
client_stays w c old site t there same st h =
    late_parts w (ev.flushes c t.node.state (world.all_servers u) u) c old (ev.at_node t.node site) there h (f.clocks ∙ said.clocks) (f.clients ∙ said.clients)
    (f.ended ∙ said.ended ∙ ap (λ z. w.ended ++ z) (ap (λ (n : cl.ClientNode). ended_rows c n.state t.out) (sym same) ∙ st.rows))
  where
    v : World
    v = ev.with_site c (ev.at_node t.node site) w

    u : World
    u = (client_says_all c site.node.state t.out (ev.quiet v)).world

    said : Said c (ended_rows c site.node.state t.out) v u
    said = says_lives c site.node.state t.out (ev.quiet v)

    f : Flushed u (ev.flushes c t.node.state (world.all_servers u) u)
    f = flush_parts c t.node.state (world.all_servers u) u

-- a present life with a lease end belongs to a client that runs, and has not ended
pub record Present (w : World) (e : LeaseLife) : Type 0 where
  pub site : WorldClient
  pub there : numbered w.clients e.client.0 ≡ Some site
  pub a : Association
  pub has : Has a site.node.state.associations
  pub is : e ≡ life_of_association w.config e.client a

pub present_is : (w : World) → LivesHold w → (e : LeaseLife) → Has e (present_lives w.clients) → Present w e
present_is w h e i = go (present_at w.clients e i)
  where
    go : (n : ℕ) × (site : WorldClient) × (slice_get w.clients n ≡ Some site) × Has e (lives_of site.node.state) → Present w e
    go (n, site, q, i) = at (has_map (life_of_association site.node.state.config site.node.state.id) site.node.state.associations e i)
      where
        c : ClientId
        c = record { 0 = suc n }

        m : NodeHolds w.config w.clocks w.ended c site.node
        m = h.lives.sites c site q

        at : (a : Association) × Has a site.node.state.associations × (e ≡ life_of_association site.node.state.config site.node.state.id a) → Present w e
        at (a, j, z) =
            let y : e ≡ life_of_association w.config c a = z ∙ ap (λ k. life_of_association k site.node.state.id a) m.config ∙ ap (λ d. life_of_association w.config d a) m.id in
            let d : e.client ≡ c = ap (λ (x : LeaseLife). x.client) y in
            record { site = site; there = ap (λ (x : ClientId). numbered w.clients x.0) d ∙ q; a = a; has = j; is = y ∙ ap (λ x. life_of_association w.config x a) (sym d) }

-- the lease end of a present life is looked up
pub present_end_is : (w : World) → LivesHold w → (e : LeaseLife) (p : Present w e) (t : Stamp) → e.end ≡ Some t → (p.site.node.running ≡ true) × (ended_of w e.client e.server e.life ≡ None) × (lease_end_of w e.client e.server e.life ≡ Some t)
present_end_is w h e p t q = go p.site.node.running refl
  where
    m : NodeHolds w.config w.clocks w.ended e.client p.site.node
    m = h.lives.sites e.client p.site p.there

    none : (o : Option LeaseLife) → find (is_life_of e.client e.server e.life) w.ended ≡ o → p.site.node.running ≡ true → o ≡ None
    none None f r = refl
    none (Some x) f r =
        let z = row_is e.client e.server e.life w.ended x f in
        let b = m.below x z.0 z.1 p.a (ap (λ s. find (is_at s) p.site.node.state.associations) (z.2 ∙ ap (λ (y : LeaseLife). y.server) p.is) ∙ own_found p.site.node.state.associations m.once p.a p.has) in
        let lt = b.below r in let eq = ap (λ (l : Life). l.0) (z.3 ∙ ap (λ (y : LeaseLife). y.life) p.is) in absurd (omega (arith, lt, eq))

    end_is : lease.end_at w.config (cl.lease_at (Some p.a)) ≡ Some t
    end_is = ap (λ (y : LeaseLife). y.end) (sym p.is) ∙ q

    go : (b : Bool) → p.site.node.running ≡ b → (p.site.node.running ≡ true) × (ended_of w e.client e.server e.life ≡ None) × (lease_end_of w e.client e.server e.life ≡ Some t)
    go false r = absurd (none_not_some t (ap (λ o. lease.end_at w.config (option_map cl.lease_of_session o)) (sym (m.stopped r p.a p.has).session) ∙ end_is))
    go true r =
        let n = none (find (is_life_of e.client e.server e.life) w.ended) refl r in (
          r,
          n,
          ap (end_or_present w e.client e.server) n ∙ ap (world.present_end w e.server) p.there ∙ ap (λ s. cl.lease_end_with p.site.node.state s) (ap (λ (y : LeaseLife). y.server) p.is)
              ∙ ap (λ o. lease.end_at p.site.node.state.config (cl.lease_at o)) (own_found p.site.node.state.associations m.once p.a p.has) ∙ ap (λ k. lease.end_at k (cl.lease_at (Some p.a))) m.config ∙ end_is,
        )

pub end_one : (w : World) → LivesHold w → (e : LeaseLife) → Has e (present_lives w.clients ++ w.ended) → (t : Stamp) → e.end ≡ Some t → EndsAt w e t
end_one w h e i t q = go (has_append (present_lives w.clients) w.ended e i)
  where
    go : Has e (present_lives w.clients) ⊎ Has e w.ended → EndsAt w e t
    go (inl i) = let p = present_is w h e i in let m = h.lives.sites e.client p.site p.there in record { agree = (present_end_is w h e p t q).2; clock = m.clock; there = m.ticks }
    go (inr i) = let o = h.lives.ends e i in let m = h.lives.sites e.client o.site o.there in record { agree = ap (end_or_present w e.client e.server) o.self ∙ q; clock = m.clock; there = m.ticks }

ends_all : (w : World) (ls : List LeaseLife) → ((e : LeaseLife) → Has e ls → (t : Stamp) → e.end ≡ Some t → EndsAt w e t) → EndsAgree w ls
ends_all w [] f = record {}
ends_all w (e ∷ ls) f = record { one = f e (inl refl); rest = ends_all w ls (λ x i. f x (inr i)) }

pub ends_agree : (w : World) → LivesHold w → EndsAgree w (present_lives w.clients ++ w.ended)
ends_agree w h = ends_all w (present_lives w.clients ++ w.ended) (λ e i t q. end_one w h e i t q)
