-- Open writes of present lives are outstanding at their clients, and only those, after every event.
use Rattle.st_lemmas.proofs.Words
use Words.{◌≡◌, ◌≢◌, ℕ, zero, suc, ◌+◌, ◌⊎◌, Bool, true, false, ◌==◌, List, [], ◌∷◌, Option, Some, None, Ok, Err, refl, sym, ap, ◌∙◌, subst, inl, inr}
use Words.{arith, if◌then◌else◌, Result, length, eq-eqb, eqb-true, option_map, Config, ClientId, Life, NodeId, ServerId, Event, Note, Output, ClientInput, DiskCommand}
use Words.{ServerInput, StepRefusal, IssuedCommand, SentMessage}
use Words.nodes
use Words.events
use Words.notes
use Words.outputs
use Words.inputs
use Words.reports
use Words.serving
use Words.Admissible as adm
use Words.Client as cl
use Words.ClientState.{Association}
use Words.Disks as disks
use Words.Events as ev
use Words.Events.{WorldTurn}
use Words.FlatLog as log
use Words.Extents.{numbers}
use Words.Safety.{Step}
use Words.Server as server
use Words.Server.{ServerNode}
use Words.World as world
use Words.World.{World, WorldClient, clock_of, fresh_world, issued_of, node_of, numbered, site_of, with_numbered}
use Words.Lists.{Has}
use Words.Lookups.{some_is}
use Words.Numbers.{numbered_below, numbered_has, numbered_other, numbered_own, set_length, set_own}
use Words.Tables.{and_both, and_true, has_map, same_or_not}
use Words.Truth.{not_both}
use Rattle.st_rules.specs.declared.node.StepRefusal.TheVariants.{Crashed}
use Rattle.st_laws_pages.specs.Flush.Flush.{NumbersApart, WriteCared}
use Rattle.st_laws_steps.specs.Lives.Lives.{LivesHold}
use Rattle.st_laws_steps.specs.Client.Losses.{Fit}
use Rattle.st_laws_pages.proofs.Disks.Effects.{report_finds, report_is, reported_world}
use Rattle.st_laws_pages.proofs.Disks.Opens.{OpensFrom, StaysOpen, WritesStay, goes_effect, opens_set, set_leaves, writes_effect}
use Rattle.st_laws_pages.proofs.Disks.Whole.{site_is}
use Rattle.st_laws_pages.proofs.Asks.Places.{Knows}
use Rattle.st_laws_pages.proofs.Causes.FlushSteps.{BothHold}
use Rattle.st_laws_pages.proofs.Causes.Placed.{InputTells, PlacesAt, step_placed}
use Rattle.st_laws_pages.specs.Writes.Writes.{IsOut, ListedHold, OpenHold, WritesOnce}
use Rattle.st_laws_pages.proofs.Writes.Joining.{EndsReported, ListedBut, client_listed, client_open, life_low}
use Rattle.st_laws_pages.proofs.Writes.Submitting.{ToldAsWrites}
use Rattle.st_laws_pages.proofs.Writes.Walking.{EndedBy}

-- What holds in a world.
pub record WritesMatch (w : World) : Type 0 where
  pub open_ : OpenHold w
  pub listed : ListedHold w

moved : (w v : World) → v.clients ≡ w.clients → v.commands ≡ w.commands → OpensFrom w.disks.commands v.disks.commands → OpenHold w → OpenHold v
moved w v cs xs f h c site e r a i k x d at tag bytes is js wh op cx sx lx =
    let z = f k d js op in
    h c site (ap (λ zs. numbered zs c.0) (sym cs) ∙ e) r a i k x z.0 at tag bytes (ap (λ zs. numbered zs k) (sym xs) ∙ is) z.1 (sym z.3 ∙ wh) z.2 cx sx lx

-- a write of the world in one with the same commands, in which it stays open
still_out : (w v : World) → v.commands ≡ w.commands → (c : ClientId) (starts : ℕ) (a : Association) (number : ℕ)
    (o : IsOut w.commands w.disks.commands c starts a number) →
    StaysOpen v.disks.commands o.place o.disk → IsOut v.commands v.disks.commands c starts a number
still_out w v xs c starts a number o s =
    record {
      place = o.place;
      command = o.command;
      there = ap (λ zs. numbered zs o.place) xs ∙ o.there;
      disk = s.after;
      on_disk = s.is;
      unreported = s.unreported;
      at = o.at;
      tag = o.tag;
      bytes = o.bytes;
      what_is = s.what_is ∙ o.what_is;
      unsampled = s.sample_is ∙ o.unsampled;
      client = o.client;
      since = o.since;
      server = o.server;
      life = o.life;
      number_is = o.number_is;
      carries = o.carries;
    }

listed_stay : (w v : World) → v.clients ≡ w.clients → v.commands ≡ w.commands → WritesStay w.disks.commands v.disks.commands → ListedHold w → ListedHold v
listed_stay w v cs xs f h c site e r a i pc n j k =
    let o : IsOut w.commands w.disks.commands c site.starts a pc.number = h c site (ap (λ zs. numbered zs c.0) (sym cs) ∙ e) r a i pc n j k in
    still_out w v xs c site.starts a pc.number o (f o.place o.disk o.at o.tag o.bytes o.on_disk o.what_is o.unreported)

-- A client that takes an input.
takes : (past : List Step) (w : World) (c : ClientId) (input : ClientInput) (old site : WorldClient) → site_of w c ≡ Some old → old.node ≡ site.node →
    old.starts ≡ site.starts → LivesHold w → PlacesAt (length w.servers) w → length w.commands ≡ length w.disks.commands →
    InputTells (length w.servers) input → (site.node.running ≡ true → (a : Association) → Has a old.node.state.associations → WritesOnce a) →
    (site.node.running ≡ true → EndsReported w c old input) → OpenHold w →
    (site.node.running ≡ true → (a : Association) → Has a old.node.state.associations → NumbersApart a.store.commands) →
    (site.node.running ≡ true → (a : Association) → Has a old.node.state.associations → ToldAsWrites input a) → ListedBut w c (EndedBy input) →
    WritesMatch (ev.client_takes w c input site).world
unfolding cl.node_step ev.client_takes ev.client_took
takes past w c input old site there same starts l pl n tells once ends h apart told but = go site.node.running refl
  where
    t : cl.NodeTurn
    t = cl.node_turn site.node (cl.client_step site.node.state (clock_of w (nodes.Client c)) input)

    fit : (b : Association) → Has b site.node.state.associations → Fit b
    fit = subst (λ (m : cl.ClientNode). (b : Association) → Has b m.state.associations → Fit b) same (l.lives.sites c old there).fit

    knows : (b : Association) → Has b site.node.state.associations → Knows (length w.servers) b.server b.store.extents
    knows = subst (λ (m : cl.ClientNode). (b : Association) → Has b m.state.associations → Knows (length w.servers) b.server b.store.extents) same
        (pl.known c old there)

    idle : site.node.running ≡ false → ListedHold w
    idle r d y e s a i pc v j k =
        but d y e s a i pc v j k
        (λ q z. not_both y.node.running s
        (ap (λ (x : WorldClient). x.node.running) (some_is (sym e ∙ ap (λ (x : ClientId). numbered w.clients x.0) q ∙ there)) ∙
        ap (λ (x : cl.ClientNode). x.running) same ∙ r))

    go : (b : Bool) → site.node.running ≡ b → WritesMatch (ev.client_took w c site (if b then Ok t else Err Crashed)).world
    go true r =
        let p = step_placed (length w.servers) c site.node.state (clock_of w (nodes.Client c)) input tells fit knows in
        record {
          open_ = client_open w c old site input there same starts r l n p (once r) (ends r) h (apart r) (told r) but;
          listed = client_listed w c old site input there same starts r l n p (once r) (ends r) h (apart r) (told r) but;
        }
    go false r = record { open_ = h; listed = idle r }

-- A server's step.
server_one : (s : ServerId) (o : Output) (sc : WorldTurn) → WritesMatch sc.world → WritesMatch (ev.server_says sc s o).world
unfolding ev.server_says ev.server_notes ev.cuts ev.sends log.cut
server_one s (outputs.Send m) sc h = record { open_ = h.open_; listed = h.listed }
server_one s (outputs.Note n) sc h = noted n
  where
    noted : (n : Note) → WritesMatch (ev.server_notes sc s n).world
    noted (notes.CutDone f p) = record { open_ = h.open_; listed = h.listed }
    noted (notes.Stolen c life) = record { open_ = h.open_; listed = h.listed }
    noted n = record { open_ = h.open_; listed = h.listed }
server_one s o sc h = record { open_ = h.open_; listed = h.listed }

server_says : (s : ServerId) (os : List Output) (sc : WorldTurn) → WritesMatch sc.world → WritesMatch (ev.server_says_all s os sc).world
unfolding ev.server_says_all
server_says s [] sc h = h
server_says s (o ∷ os) sc h = server_says s os (ev.server_says sc s o) (server_one s o sc h)

at_server : (w : World) (s : ServerId) (input : ServerInput) (o : Option ServerNode) → WritesMatch w → WritesMatch (ev.at_server w s input o).world
unfolding ev.at_server ev.server_takes ev.server_took
at_server w s input None h = h
at_server w s input (Some node) h = go (server.node_step node (clock_of w (nodes.Server s)) input)
  where
    go : (r : Result server.NodeTurn StepRefusal) → WritesMatch (ev.server_took w s r).world
    go (Err e) = h
    go (Ok t) = server_says s t.out (ev.quiet (ev.with_node s t.node w)) (record { open_ = h.open_; listed = h.listed })

-- A crash of a client, and its start.
own_or_other : (w : World) (c d : ClientId) (site new y : WorldClient) → site_of w c ≡ Some site → numbered (with_numbered c.0 new w.clients) d.0 ≡ Some y →
    ((d ≡ c) × (y ≡ new)) ⊎ (numbered w.clients d.0 ≡ Some y)
own_or_other w c d site new y there e = go (same_or_not d.0 c.0)
  where
    go : (d.0 ≡ c.0) ⊎ (d.0 ≢ c.0) → ((d ≡ c) × (y ≡ new)) ⊎ (numbered w.clients d.0 ≡ Some y)
    go (inl q) =
        inl (ap (λ n. record { 0 = n }) q, some_is (sym e ∙ ap (numbered (with_numbered c.0 new w.clients)) q ∙ numbered_own w.clients c.0 new site there))
    go (inr n) = inr (sym (numbered_other w.clients c.0 d.0 new (numbered_below w.clients c.0 site there).0 n) ∙ e)

crashed : (w : World) (c : ClientId) (site : WorldClient) → site_of w c ≡ Some site → OpenHold w → OpenHold (ev.crashes_client w c (Some site)).world
unfolding ev.crashes_client ev.marks cl.crash
crashed w c site there h d y e r a i = go (own_or_other w c d site (ev.stopped_site site) y there e)
  where
    no : ◌≡◌ {A = Bool} false true → ⊥
    no z = cc

    go : ((d ≡ c) × (y ≡ ev.stopped_site site)) ⊎ (numbered w.clients d.0 ≡ Some y) →
        Rattle.st_laws_pages.specs.Writes.Writes.OpenListed w.commands w.disks.commands d y.starts a
    go (inl q) = absurd (no (sym (ap (λ (z : WorldClient). z.node.running) q.1) ∙ r))
    go (inr q) = h d y q r a i

started : (w : World) (c : ClientId) (site : WorldClient) → site_of w c ≡ Some site → LivesHold w → OpenHold w → OpenHold (ev.starts_client w c (Some site))
unfolding ev.starts_client cl.start
started w c site there l h d y e r a i = go (own_or_other w c d site (ev.started_site site) y there e)
  where
    go : ((d ≡ c) × (y ≡ ev.started_site site)) ⊎ (numbered w.clients d.0 ≡ Some y) →
        Rattle.st_laws_pages.specs.Writes.Writes.OpenListed w.commands w.disks.commands d y.starts a
    go (inr q) = h d y q r a i
    go (inl q) = λ k x dc at tag bytes is js wh op cx sx lx.
        let z = has_map cl.started_association site.node.state.associations a (subst (λ (s : WorldClient). Has a s.node.state.associations) q.1 i) in
        let low = life_low w c site there l z.0 z.1 k x is (cx ∙ q.0) (sx ∙ ap (λ (b : Association). b.server) z.2) in
        let next = ap (λ (b : Association). b.life.0) z.2 in
        let same = ap (λ (v : Life). v.0) lx in absurd (omega (arith, low, next, same))

listed_crashed : (w : World) (c : ClientId) (site : WorldClient) → site_of w c ≡ Some site → ListedHold w → ListedHold (ev.crashes_client w c (Some site)).world
unfolding ev.crashes_client ev.marks cl.crash
listed_crashed w c site there h d y e r a i pc n j k = go (own_or_other w c d site (ev.stopped_site site) y there e)
  where
    go : ((d ≡ c) × (y ≡ ev.stopped_site site)) ⊎ (numbered w.clients d.0 ≡ Some y) → IsOut w.commands w.disks.commands d y.starts a pc.number
    go (inl q) = absurd (not_both y.node.running r (ap (λ (z : WorldClient). z.node.running) q.1))
    go (inr q) = h d y q r a i pc n j k

listed_started : (w : World) (c : ClientId) (site : WorldClient) → site_of w c ≡ Some site → ListedHold w → ListedHold (ev.starts_client w c (Some site))
unfolding ev.starts_client cl.start
listed_started w c site there h d y e r a i pc n j k = go (own_or_other w c d site (ev.started_site site) y there e)
  where
    go : ((d ≡ c) × (y ≡ ev.started_site site)) ⊎ (numbered w.clients d.0 ≡ Some y) → IsOut w.commands w.disks.commands d y.starts a pc.number
    go (inr q) = h d y q r a i pc n j k
    go (inl q) =
        let z = has_map cl.started_association site.node.state.associations a (subst (λ (s : WorldClient). Has a s.node.state.associations) q.1 i) in
        absurd (subst (λ (b : Association). Has pc b.store.commands) z.2 j)

-- Every event.
module _ (past : List Step) (w : World) (l : LivesHold w) (pl : PlacesAt (length w.servers) w) (b : BothHold past w) (h : WritesMatch w) where
  none_ends : (c : ClientId) (old : WorldClient) (input : ClientInput) → ((n : ℕ) → EndedBy input n → ⊥) → EndsReported w c old input
  none_ends c old input f k x d tag a is js op cx i ls e = f x.number e

  once_at : (c : ClientId) (site : WorldClient) → site_of w c ≡ Some site → site.node.running ≡ true → (a : Association) → Has a site.node.state.associations →
      WritesOnce a
  once_at c site e r a i = ((b.flush.sites c site e r).cared a i).once

  apart_at : (c : ClientId) (site : WorldClient) → site_of w c ≡ Some site → site.node.running ≡ true → (a : Association) → Has a site.node.state.associations →
      NumbersApart a.store.commands
  apart_at c site e r a i = (b.flush.sites c site e r).apart a i

  none_told : (input : ClientInput) → ((n : ℕ) → EndedBy input n → ⊥) → (a : Association) → ToldAsWrites input a
  none_told input f a pc v i k e = absurd (f pc.number e)

  but_none : (c : ClientId) (E : ℕ → Type 0) → ListedBut w c E
  but_none c E d y e r a i pc v j k f = h.listed d y e r a i pc v j k

  at_client : (c : ClientId) (input : ClientInput) (o : Option WorldClient) → site_of w c ≡ o → InputTells (length w.servers) input →
      ((n : ℕ) → EndedBy input n → ⊥) → WritesMatch (ev.at_client w c input o).world
  unfolding ev.at_client
  at_client c input None e tells f = h
  at_client c input (Some site) e tells f = takes past w c input site site e refl refl l pl b.writes.commands.counts tells (once_at c site e)
      (λ r. none_ends c site input f) h.open_ (apart_at c site e) (λ r a i. none_told input f a) (but_none c (EndedBy input))

  -- the end of a command
  module _ (n : ℕ) (ok : Bool) (d : DiskCommand) (is : disks.command w.disks (suc n) ≡ Some d) where
    abbrev v : World
    v = reported_world w (suc n) ok d

    shut : (b : Bool) → disks.report_of b ≡ reports.Open → ⊥
    shut true e = cc
    shut false e = cc

    open_v : OpenHold v
    open_v = moved w v refl refl (opens_set w.disks.commands n d (disks.reported ok d) is (λ e. absurd (shut ok e)) refl) h.open_

    own : disks.command v.disks (suc n) ≡ Some (disks.reported ok d)
    own = set_own w.disks.commands n (disks.reported ok d) d is

    ends : (y : IssuedCommand) (site : WorldClient) → issued_of w (suc n) ≡ Some y → site_of w y.client ≡ Some site → y.starts ≡ site.starts →
        site.node.running ≡ true → EndsReported v y.client site (ev.end_told v (suc n) ok y)
    ends y site q there st r k x dc tag a xs js op cx i ls e =
        shut ok (ap (λ (z : DiskCommand). z.report) (some_is (sym own ∙ ap (disks.command_at v.disks.commands) (sym same) ∙ js)) ∙ op)
      where
        cared : WriteCared w.commands w.log y.client site.starts a ls.listed.command ls.listed.version
        cared = ((b.flush.sites y.client site there r).cared a i).writes ls.listed.command ls.listed.here ls.listed.version ls.listed.kind

        same : k ≡ suc n
        same =
            sym (cared.world k x xs (record { client = cx; instance_ = ls.since; number_is = sym ls.listed.number_is })).last
            ∙ (cared.world (suc n) y q (record { client = refl; instance_ = st; number_is = sym e ∙ sym ls.listed.number_is })).last

    -- another write is still out
    out_v : (c : ClientId) (starts : ℕ) (a : Association) (number : ℕ) (o : IsOut w.commands w.disks.commands c starts a number) → (o.place ≢ suc n) →
        IsOut v.commands v.disks.commands c starts a number
    out_v c starts a number o q =
        still_out w v refl c starts a number o
        (record {
          after = o.disk;
          is = set_leaves w.disks.commands n o.place (disks.reported ok d) o.disk q o.on_disk;
          unreported = o.unreported;
          what_is =
              refl;
          sample_is = refl;
        })

    -- the one that ends is out only for its own client
    listed_but : (y : IssuedCommand) → issued_of w (suc n) ≡ Some y → ListedBut v y.client (EndedBy (ev.end_told v (suc n) ok y))
    listed_but y q c site e r a i pc x j k f = go (same_or_not o.place (suc n))
      where
        o : IsOut w.commands w.disks.commands c site.starts a pc.number
        o = h.listed c site e r a i pc x j k

        go : (o.place ≡ suc n) ⊎ (o.place ≢ suc n) → IsOut v.commands v.disks.commands c site.starts a pc.number
        go (inr z) = out_v c site.starts a pc.number o z
        go (inl z) =
            let s : o.command ≡ y = some_is (sym o.there ∙ ap (numbered w.commands) z ∙ q) in
            absurd (f (sym o.client ∙ ap (λ (t : IssuedCommand). t.client) s) (sym o.number_is ∙ ap (λ (t : IssuedCommand). t.number) s))

    -- and if that is of no instance that runs, all are still out
    listed_v : ((y : IssuedCommand) → issued_of w (suc n) ≡ Some y → (site : WorldClient) → site_of w y.client ≡ Some site → ev.is_same_instance y site ≡ false)
        → ListedHold v
    listed_v f c site e r a i pc x j k = go (same_or_not o.place (suc n))
      where
        o : IsOut w.commands w.disks.commands c site.starts a pc.number
        o = h.listed c site e r a i pc x j k

        go : (o.place ≡ suc n) ⊎ (o.place ≢ suc n) → IsOut v.commands v.disks.commands c site.starts a pc.number
        go (inr z) = out_v c site.starts a pc.number o z
        go (inl z) =
            absurd
            (not_both (ev.is_same_instance o.command site)
            (and_both site.node.running (site.starts == o.command.starts) r (eq-eqb site.starts o.command.starts (sym o.since)))
            (f o.command (sym (ap (numbered w.commands) z) ∙ o.there) site (ap (λ (t : ClientId). numbered w.clients t.0) o.client ∙ e)))

    -- it ends as a write if it is one
    told_as : (y : IssuedCommand) (site : WorldClient) → issued_of w (suc n) ≡ Some y → site_of w y.client ≡ Some site → y.starts ≡ site.starts →
        site.node.running ≡ true → (a : Association) → Has a site.node.state.associations →
        ToldAsWrites (ev.end_told v (suc n) ok y) a
    told_as y site q there st r a i pc x j k e block res = wrote ok res
      where
        o : IsOut w.commands w.disks.commands y.client site.starts a pc.number
        o = h.listed y.client site there r a i pc x j k

        cared : WriteCared w.commands w.log y.client site.starts a pc x
        cared = ((b.flush.sites y.client site there r).cared a i).writes pc j x k

        same : o.place ≡ suc n
        same =
            sym (cared.world o.place o.command o.there (record { client = o.client; instance_ = o.since; number_is = o.number_is })).last
            ∙ (cared.world (suc n) y q (record { client = refl; instance_ = st; number_is = sym e })).last

        found : disks.sample v.disks (suc n) ≡ None
        found = ap disks.sample_of own ∙ ap (λ (z : DiskCommand). z.sample) (some_is (sym is ∙ ap (disks.command_at w.disks.commands) (sym same) ∙ o.on_disk)) ∙
            o.unsampled

        wrote : (b : Bool) → ev.result_of b (disks.sample v.disks (suc n)) ≡ Some block → block ≡ None
        wrote false z = cc
        wrote true z = sym (some_is z) ∙ ap (option_map ev.tag_and_bytes) found

    told : (o : Option IssuedCommand) → issued_of w (suc n) ≡ o → WritesMatch (ev.tells v (suc n) ok o).world
    unfolding ev.tells ev.tells_client ev.tells_site
    told None q = record { open_ = open_v; listed = listed_v (λ y z. absurd (no y (sym q ∙ z))) }
      where
        no : (y : IssuedCommand) → ◌≡◌ {A = Option IssuedCommand} None (Some y) → ⊥
        no y z = cc
    told (Some y) q = at_site (site_of w y.client) refl
      where
        its : (x : IssuedCommand) → issued_of w (suc n) ≡ Some x → y ≡ x
        its x z = some_is (sym q ∙ z)

        at : (site : WorldClient) → site_of w y.client ≡ Some site → (z : Bool) → ev.is_same_instance y site ≡ z →
            WritesMatch (if z then ev.client_takes v y.client (ev.end_told v (suc n) ok y) site else ev.quiet v).world
        at site s true t =
            let st : y.starts ≡ site.starts = sym (eqb-true site.starts y.starts (and_true site.node.running (site.starts == y.starts) t).1) in
            takes past v y.client (ev.end_told v (suc n) ok y) site site s refl refl (record { lives = l.lives; known = l.known })
            (record { count = pl.count; told = pl.told; known = pl.known })
            (b.writes.commands.counts ∙ sym (set_length w.disks.commands n (disks.reported ok d))) tt (once_at y.client site s)
            (ends y site q s st) open_v (apart_at y.client site s) (told_as y site q s st) (listed_but y q)
        at site s false t =
            record {
              open_ = open_v;
              listed = listed_v
                  (λ x z new e. ap (λ w. ev.is_same_instance w new) (sym (its x z)) ∙
                  ap (ev.is_same_instance y) (some_is (sym e ∙ ap (λ (w : IssuedCommand). site_at w) (sym (its x z)) ∙ s)) ∙ t);
            }
          where
            site_at : IssuedCommand → Option WorldClient
            site_at x = site_of w x.client

        at_site : (s : Option WorldClient) → site_of w y.client ≡ s → WritesMatch (ev.tells_client v (suc n) ok y s).world
        at_site None s =
            record { open_ = open_v; listed = listed_v (λ x z new e. absurd (no new (sym s ∙ ap (λ (t : IssuedCommand). site_of w t.client) (its x z) ∙ e))) }
          where
            no : (new : WorldClient) → ◌≡◌ {A = Option WorldClient} None (Some new) → ⊥
            no new z = cc
        at_site (Some site) s = at site s (ev.is_same_instance y site) refl

  no_report : (k : ℕ) (ok : Bool) → disks.command w.disks k ≡ None → adm.refusal w (events.Report k ok) ≡ None → ⊥
  unfolding adm.refusal adm.refused_report
  no_report k ok e r = no (ap (adm.refused_report w k ok) (sym e) ∙ r)
    where
      no : adm.refused_report w k ok None ≡ None → ⊥
      no q = cc

  report_open : (k : ℕ) (ok : Bool) → adm.refusal w (events.Report k ok) ≡ None → WritesMatch (ev.reports_of w k ok).world
  report_open zero ok r = absurd (no_report zero ok refl r)
  report_open (suc n) ok r = go (disks.command w.disks (suc n)) refl
    where
      go : (d : Option DiskCommand) → disks.command w.disks (suc n) ≡ d → WritesMatch (ev.reports_of w (suc n) ok).world
      go None q = absurd (no_report (suc n) ok q r)
      go (Some d) q = subst (λ (s : WorldTurn). WritesMatch s.world) (sym (report_is w (suc n) ok d (report_finds w (suc n) ok d q r)))
          (told n ok d q (issued_of w (suc n)) refl)

  none : (n : ℕ) → ⊥ → ⊥
  none n e = e

  pub happens_matched : (e : Event) → adm.refusal w e ≡ None → WritesMatch (ev.happens w e).world
  unfolding ev.happens ev.ticks ev.asks_at ev.delivers ev.delivers_to ev.loses_message ev.marks ev.effects ev.advances ev.crashes ev.crashes_client
      ev.crashes_server ev.starts ev.starts_client ev.starts_server
  happens_matched (events.Tick (nodes.Client c)) r = at_client c inputs.Tick (site_of w c) refl tt none
  happens_matched (events.Tick (nodes.Server s)) r = at_server w s serving.Tick (node_of w s) h
  happens_matched (events.App c ask) r = go (site_of w c) refl
    where
      go : (s : Option WorldClient) → site_of w c ≡ s → WritesMatch (ev.asks_at w c ask s).world
      go None e = h
      go (Some site) e = takes past w c (inputs.App (site.asks + 1) ask) site (ev.asked_once_more site) e refl refl l pl b.writes.commands.counts tt
          (once_at c site e) (λ z. none_ends c site (inputs.App (site.asks + 1) ask) none) h.open_ (apart_at c site e)
          (λ r a i. none_told (inputs.App (site.asks + 1) ask) none a) (but_none c (EndedBy (inputs.App (site.asks + 1) ask)))
  happens_matched (events.Deliver k) r = go (world.message_of w k) refl
    where
      to : (m : SentMessage) → Has m w.net.messages → (n : NodeId) → WritesMatch (ev.delivers_to w m.message n).world
      to m i (nodes.Client c) = at_client c (inputs.Control m.message) (site_of w c) refl (pl.told m i) none
      to m i (nodes.Server s) = at_server w s (serving.Control m.message) (node_of w s) h

      go : (m : Option SentMessage) → world.message_of w k ≡ m → WritesMatch (ev.delivers w m).world
      go None e = h
      go (Some m) e = to m (numbered_has w.net.messages k m e) (world.receiver_of m)
  happens_matched (events.Lose k) r = go (world.message_of w k)
    where
      go : (m : Option SentMessage) → WritesMatch (ev.loses_message w k m)
      go None = record { open_ = h.open_; listed = h.listed }
      go (Some m) = record { open_ = h.open_; listed = h.listed }
  happens_matched (events.Cut from to) r = record { open_ = h.open_; listed = h.listed }
  happens_matched (events.Heal from to) r = record { open_ = h.open_; listed = h.listed }
  happens_matched (events.Advance steps) r = record { open_ = h.open_; listed = h.listed }
  happens_matched (events.Effect k) r =
      record {
        open_ = moved w (ev.effects w k).world refl refl (goes_effect w.disks k).opens h.open_;
        listed = listed_stay w (ev.effects w k).world refl refl (writes_effect w.disks k) h.listed;
      }
  happens_matched (events.Report k ok) r = report_open k ok r
  happens_matched (events.Crash (nodes.Client c)) r = go (site_of w c) refl
    where
      go : (s : Option WorldClient) → site_of w c ≡ s → WritesMatch (ev.crashes_client w c s).world
      go None e = h
      go (Some site) e = record { open_ = crashed w c site e h.open_; listed = listed_crashed w c site e h.listed }
  happens_matched (events.Crash (nodes.Server s)) r = go (node_of w s)
    where
      go : (n : Option ServerNode) → WritesMatch (ev.crashes_server w s n)
      go None = record { open_ = h.open_; listed = h.listed }
      go (Some node) = record { open_ = h.open_; listed = h.listed }
  happens_matched (events.Start (nodes.Client c)) r = go (site_of w c) refl
    where
      go : (s : Option WorldClient) → site_of w c ≡ s → WritesMatch (ev.starts_client w c s)
      go None e = h
      go (Some site) e = record { open_ = started w c site e l h.open_; listed = listed_started w c site e h.listed }
  happens_matched (events.Start (nodes.Server s)) r = go (node_of w s)
    where
      go : (n : Option ServerNode) → WritesMatch (ev.starts_server w s n)
      go None = record { open_ = h.open_; listed = h.listed }
      go (Some node) = record { open_ = h.open_; listed = h.listed }

-- The start.
pub fresh_match : (k : Config) (clients servers d b form : ℕ) → WritesMatch (fresh_world k clients servers d b form)
unfolding fresh_world cl.fresh_client
fresh_match k clients servers d b form =
    record {
      open_ = λ c site e r a i j x dc at tag bytes is js wh op cx sx lx. absurd (none j x is);
      listed = λ c site e r a i pc v j q.
          let z = has_map cl.fresh_association (numbers 1 servers) a
          (subst (λ (s : WorldClient). Has a s.node.state.associations) (site_is k clients servers c.0 site e).0 i) in
          absurd (subst (λ (x : Association). Has pc x.store.commands) z.2 j);
    }
  where
    none : (j : ℕ) (x : IssuedCommand) → numbered {A = IssuedCommand} [] j ≡ Some x → ⊥
    none zero x e = cc
    none (suc j) x e = cc
