-- A cut that another client asks finds no write of a life that a crash ended: beside the lock of a frozen life no other client has an exclusive row.
use Rattle.st_lemmas.proofs.Words
use Words.{◌≡◌, ◌≢◌, ℕ, ◌+◌, ◌<◌, ◌≤◌, ◌⊎◌, true, List, Some, refl, sym, ap, ◌∙◌, subst, inl, inr, arith, BlockAt, Tag, FileId, PageNo, ServerId, IssuedCommand}
use Words.nodes
use Words.Events.{counted}
use Words.World.{World, clock_of, end_or_present, lease_end_of, node_of, server}
use Words.Tables.{same_or_not}
use Words.Keys.{client}
use Words.Sessions as sessions
use Rattle.st_base.specs.Mode.{number_of}
use Rattle.st_protocol.specs.Assoc as net
use Rattle.st_protocol.specs.Assoc.{Alive, Assoc, ByHeld, ByRow, Client, Config, ConfigOk, Frozen, InService, Row, upd}
use Rattle.st_protocol.proofs.Claims.{in_service}
use Rattle.st_protocol.proofs.Lists.{upd-same}
use Rattle.st_protocol.proofs.World as assoc
use Rattle.st_laws_refine.specs.Views.Halves.{life_view, live_view, row_or, row_view}
use Rattle.st_laws_extents.proofs.CutRequests.Standing.{meets}
use Rattle.st_laws_refine.specs.Server.Pair.{client_in, stamp_number}
use Rattle.st_laws_pages.specs.Disks.World.{Living, Timely}
use Rattle.st_laws_leases.specs.Sides.World.{ServerStands}
use Rattle.st_laws_reads.specs.FrozenLives.PendingEntries.{StoodLife}
use Rattle.st_laws_reads.specs.FrozenLives.Frozen.{FrozenLife, LockedHalf, replaced, stood}
use Rattle.st_laws_leases.specs.Sides.Paths.{pairs_of}
use Rattle.st_laws_reads.proofs.FrozenLives.Stepping.{site_there}
use Rattle.st_laws_reads.proofs.FrozenLives.Walks.{row_same, up_same}
use Rattle.st_laws_extents.specs.CutRequests.Cut.{CutIn}
use Rattle.st_laws_reads.specs.OpenWrites.StandStill.{OverOrStill, WritesHold, writer}
use Rattle.st_laws_extents.specs.Submits.Obligations.{NoFrozenWrites, NoOwnWrites}
use Rattle.st_laws_reads.proofs.OpenWrites.Locked.{timely_end}
use Rattle.st_laws_refine.proofs.Server.Late.{clock_in}
use Rattle.st_protocol.proofs.World.{frozen_or_not}

module _ (k : Config) (c i : ℕ) (C : Client) (W : net.World) (ok : ConfigOk k) (locked : LockedHalf C i) (lasts : (W.at c).c.clock < C.date + k.lease) (f : FrozenLife k c C.life C W) where
  st : assoc.All k (replaced W c (stood C f.begun f.messages (W.at c)))
  st = assoc.all k ok f.reached

  own : upd W.at c (stood C f.begun f.messages (W.at c)) c ≡ stood C f.begun f.messages (W.at c)
  own = upd-same W.at c (stood C f.begun f.messages (W.at c))

  alive : Alive k (upd W.at c (stood C f.begun f.messages (W.at c)) c).c
  alive = subst (λ (a : Assoc). Alive k a.c) (sym own) (record { leased = locked.leased; lasts = lasts })

  held : ((upd W.at c (stood C f.begun f.messages (W.at c)) c).c.held i).mode ≡ (C.held i).mode
  held = ap (λ (a : Assoc). (a.c.held i).mode) own

  -- the session that the server serves belongs to that life
  pub same_life : (W.at c).s.up ≡ true → (W.at c).s.live ≡ true → (W.at c).s.session ≡ C.life
  same_life up live =
      let m = meets k (upd W.at c (stood C f.begun f.messages (W.at c)) c) (assoc.invariant k (replaced W c (stood C f.begun f.messages (W.at c))) ok f.reached c) (ap (λ (a : Assoc). a.s.up) own ∙ up) (ap (λ (a : Assoc). a.s.live) own ∙ live) alive in
      sym (ap (λ (a : Assoc). a.s.session) own) ∙ m.0 ∙ ap (λ (a : Assoc). a.c.life) own

  -- and no other client has an exclusive row
  module _ (d : ℕ) (ne : d ≢ c) (up : (W.at d).s.up ≡ true) (two : 2 ≤ ((W.at d).s.row i).mode) where
    row : ((upd W.at c (stood C f.begun f.messages (W.at c)) d).s.row i).mode ≡ ((W.at d).s.row i).mode
    row = ap (λ (g : ℕ → Row). (g i).mode) (row_same W c (stood C f.begun f.messages (W.at c)) refl refl refl d)

    runs : (upd W.at c (stood C f.begun f.messages (W.at c)) d).s.up ≡ true
    runs = up_same W c (stood C f.begun f.messages (W.at c)) refl refl refl d ∙ up

    pub no_row : ⊥
    no_row = go (frozen_or_not (upd W.at c (stood C f.begun f.messages (W.at c)) 0).s)
      where
        x : 2 ≤ (C.held i).mode
        x = locked.exclusive

        go : Frozen (upd W.at c (stood C f.begun f.messages (W.at c)) 0).s ⊎ InService (upd W.at c (stood C f.begun f.messages (W.at c)) 0).s → ⊥
        go (inl z) =
            let y = st.claims z d c i ((upd W.at c (stood C f.begun f.messages (W.at c)) d).s.row i).mode ((upd W.at c (stood C f.begun f.messages (W.at c)) c).c.held i).mode ne (omega (arith, two, row)) (omega (arith, x, held)) (ByRow runs refl) (ByHeld alive refl) in
            omega (arith, y, two, row, x, held)
        go (inr z) =
            let s = in_service k (upd W.at c (stood C f.begun f.messages (W.at c)) c) (st.own c).timing_ (st.own c).locks_ ((st.shared c 0).up ∙ z.up) ((st.shared c 0).grace ∙ z.grace) alive i (omega (arith, x, held)) in
            let y = st.rows z d c i ne (omega (arith, two, row)) (omega (arith, s, x, held)) in omega (arith, y, two, row, s, x, held)

-- So a cut finds only writes of the client that asks for it.
pub uncut_by : (k : Config) (count : ℕ) (w : World) (h : WritesHold k count w) (f : FileId) (p : PageNo) (c : CutIn (counted w) f p) →
    ((n : ℕ) (y : IssuedCommand) (at : BlockAt) (tag : Tag) (bytes : List ℕ) → Living (Timely w) w.commands w.disks.commands n y at tag bytes → y.server ≡ tag.file.server) →
    NoOwnWrites w f c.message.header.from c.message.header.life → NoFrozenWrites w f
uncut_by k count w h f p c served own n y at tag bytes l e row q crash = go (same_or_not c.message.header.from y.client.0)
  where
    d : ℕ
    d = c.message.header.from

    sv : y.server ≡ f.server
    sv = served n y at tag bytes l ∙ ap (λ (g : FileId). g.server) e

    there : node_of w (server y.server.0) ≡ Some c.node
    there = ap (λ (v : ServerId). node_of w v) sv ∙ c.there

    z : OverOrStill k count w h.all row (writer y tag)
    z = h.writes n y at tag bytes (record { issued = l.issued; command = l.command; is = l.is; what = l.what; unreported = l.unreported }) row q crash

    before : (clock_of w (nodes.Client y.client)).0 < z.end.0
    before = timely_end (clock_of w (nodes.Client y.client)) (lease_end_of w y.client y.server y.life) z.end (ap (end_or_present w y.client y.server) q ∙ z.is) l.timely

    v : ServerStands k w y.server.0 c.node
    v = h.all.servers y.server.0 c.node there

    two : 2 ≤ number_of c.by.row.mode
    two = let g = ap number_of c.by.exclusive in omega (arith, g)

    clock : (clock_of w (nodes.Client y.client)).0 < z.end.0 → (s : StoodLife k w y.server.0 c.node (h.all.servers y.server.0 c.node there) row (writer y tag)) → (client_in w y.client.0 y.server.0 ((h.all.servers y.server.0 c.node there).ended y.client.0)).clock < s.half.date + k.lease
    clock b s =
        let x = site_there w h.all.fates.lives (writer y tag) row q in
        let t = clock_in w y.client.0 y.server.0 ((h.all.servers y.server.0 c.node there).ended y.client.0) x.0 x.1 in
        let g = ap stamp_number z.is in
        let o = s.end in omega (arith, t, b, g, o)

    -- the message belongs to the life of the write
    mine : c.message.header.from ≡ y.client.0 → (clock_of w (nodes.Client y.client)).0 < z.end.0 → (z.end.0 ≤ (clock_of w (nodes.Client y.client)).0) ⊎ StoodLife k w y.server.0 c.node (h.all.servers y.server.0 c.node there) row (writer y tag) → y.life.0 ≡ c.message.header.life
    mine o b (inl late) = absurd (omega (arith, b, late))
    mine o b (inr s) =
        sym s.life ∙ sym (same_life k y.client.0 tag.file.ino s.half (pairs_of k w y.server.0 c.node (h.all.servers y.server.0 c.node there)) h.all.sound s.locked (clock b s) s.frozen c.running (ap live_view session ∙ ap sessions.is_live_state c.by.state))
        ∙ ap life_view session ∙ c.by.of_life
      where
        session : sessions.session_of c.node.state.sessions (client y.client.0) ≡ Some c.by.session
        session = subst (λ n. sessions.session_of c.node.state.sessions (client n) ≡ Some c.by.session) o c.by.is

    other : c.message.header.from ≢ y.client.0 → (clock_of w (nodes.Client y.client)).0 < z.end.0 → (z.end.0 ≤ (clock_of w (nodes.Client y.client)).0) ⊎ StoodLife k w y.server.0 c.node (h.all.servers y.server.0 c.node there) row (writer y tag) → ⊥
    other ne b (inl late) = omega (arith, b, late)
    other ne b (inr s) =
        no_row k y.client.0 tag.file.ino s.half (pairs_of k w y.server.0 c.node (h.all.servers y.server.0 c.node there)) h.all.sound s.locked (clock b s) s.frozen c.message.header.from ne c.running there_row
      where
        there_row : 2 ≤ (((pairs_of k w y.server.0 c.node (h.all.servers y.server.0 c.node there)).at c.message.header.from).s.row tag.file.ino).mode
        there_row = let r = ap (λ o. (row_or (row_view o)).mode) (ap (λ i. Rattle.st_rules.specs.Locks.row_of c.node.state.locks (Rattle.st_rules.specs.Server.sender c.message.header) i) (ap (λ (g : FileId). g.ino) e) ∙ c.by.found) in omega (arith, r, two)

    go : (c.message.header.from ≡ y.client.0) ⊎ (c.message.header.from ≢ y.client.0) → ⊥
    go (inl o) = own n y at tag bytes l e (sym o) (mine o before (z.still c.node there)) row q crash
    go (inr ne) = other ne before (z.still c.node there)
