-- After the latest entries of dirty pages nothing of the page counts, through each event at which no client takes an input.
use Rattle.st_lemmas.proofs.Words
use Words.{◌≡◌, ◌≢◌, ℕ, ◌+◌, ◌≤◌, ◌⊎◌, Bool, true, false, ◌&&◌, List, [], ◌∷◌, ◌++◌, Option, Some, None, Ok, Err, refl, sym, ap, ◌∙◌, subst, inl, inr, arith}
use Words.{if◌then◌else◌, Result, map, nat_le, eqb-true, leb-true, ne_eqb, ClientId, FileId, NodeId, PageNo, ServerId, Stamp, Ask, Event, Message, Note, Output}
use Words.{ServerInput, Cause, Fate, LogEntry, LogOwner, StepRefusal, DirtyPage, Carried, IssuedCommand, LeaseLife, SentMessage}
use Words.nodes
use Words.events
use Words.notes
use Words.outputs
use Words.inputs
use Words.serving
use Words.fates
use Words.Client as cl
use Words.ClientPages as pages
use Words.ClientState.{Association, ClientSession}
use Words.Disks as disks
use Words.Events as ev
use Words.Events.{happens, latest}
use Words.FlatLog as log
use Words.FlatLog.{hard_cut, matters, touches}
use Words.Keys.{client, same_file}
use Words.Server as server
use Words.Server.{ServerNode}
use Words.World as world
use Words.World.{World, WorldClient, clock_of, issued_of, message_of, node_of, numbered, receiver_of, site_of, with_numbered}
use Words.Lists.{Has}
use Words.Lookups.{some_is}
use Words.Numbers.{numbered_below, numbered_other, numbered_own}
use Words.Tables.{and_right, and_true, has_map, same_or_not}
use Words.Truth.{some_not_none}
use Rattle.st_lemmas.proofs.Marks.{of_entry}
use Rattle.st_laws_refine.specs.Views.Halves.{held_in}
use Rattle.st_laws_refine.specs.Client.Invariants.{Lasts}
use Rattle.st_laws_pages.specs.Flush.Flush.{file_at}
use Rattle.st_laws_pages.specs.Disks.Folds.{LastIs}
use Rattle.st_laws_steps.specs.Lives.Lives.{clock_in}
use Rattle.st_laws_pages.proofs.Disks.Moves.{clock_up}
use Rattle.st_laws_pages.proofs.Disks.Writer.{latest_same}
use Rattle.st_laws_reads.specs.Copies.Copies.{Nothing}
use Rattle.st_laws_reads.specs.Copies.Law.{StandsAt}
use Rattle.st_laws_reads.specs.Copies.World.{asking, receiving, receiving_of, taken, taking, told_at, told_of}
use Rattle.st_laws_reads.specs.AllClients.Events.{CutFree, CutFreeOf, CutsFree, MessageFree, OthersOwed, ReceiverFree, ServerFree, TurnFree}
use Rattle.st_laws_reads.specs.AllClients.Law.{Running}
use Rattle.st_laws_reads.specs.AllClients.World.{CopiesHold}
use Rattle.st_laws_reads.proofs.AllClients.Alone.{while_at}
use Rattle.st_laws_extents.specs.Submits.Submits.{LastIn}
use Rattle.st_laws_extents.proofs.Submits.Last.{last_other}

-- Folds over logs of the same owners and changes, if no more entries count.
pub data Fewer : List LogEntry → List LogEntry → Type 0 where
  NoneLeft : Fewer [] []
  OneLeft : (e f : LogEntry) (es fs : List LogEntry) → f.of ≡ e.of → f.change ≡ e.change → (log.counts e.fate ≡ false → log.counts f.fate ≡ false) → Fewer es fs → Fewer (e ∷ es) (f ∷ fs)

fewer_owners : (es fs : List LogEntry) → Fewer es fs → map of_entry fs ≡ map of_entry es
fewer_owners _ _ NoneLeft = refl
fewer_owners _ _ (OneLeft e f es fs o c g r) = ap (λ x. x ∷ map of_entry fs) o ∙ ap (λ x. e.of ∷ x) (fewer_owners es fs r)

fewer_matters : (f : FileId) (p : PageNo) (e g : LogEntry) → g.of ≡ e.of → g.change ≡ e.change → (log.counts e.fate ≡ false → log.counts g.fate ≡ false) → matters f p e ≡ false → matters f p g ≡ false
fewer_matters f p e g o c k h = go (touches f p e) refl (log.counts e.fate) refl
  where
    same : touches f p g ≡ touches f p e
    same = ap (λ (x : LogOwner). same_file x.file f && log.reaches g.change x.page p) o ∙ ap (λ x. same_file e.of.file f && log.reaches x e.of.page p) c

    go : (a : Bool) → touches f p e ≡ a → (b : Bool) → log.counts e.fate ≡ b → matters f p g ≡ false
    go false t b q = ap (λ x. x && log.counts g.fate) (same ∙ t)
    go true t false q = and_right (touches f p g) (log.counts g.fate) (k q)
    go true t true q = let z = ap (λ x. x && log.counts e.fate) (sym t) ∙ h in let y = sym q ∙ z in cc y

fewer_last : (n i : ℕ) (f : FileId) (p : PageNo) (es fs : List LogEntry) → Fewer es fs → LastIs n i f p es → LastIs n i f p fs
fewer_last n i f p _ _ NoneLeft h = record {}
fewer_last n i f p _ _ (OneLeft e g es fs o c k r) h = record { one = λ q. fewer_matters f p e g o c k (h.one q); rest = fewer_last (n + 1) i f p es fs r h.rest }

pub latest_fewer : (c : ClientId) (f : FileId) (p : PageNo) (es fs : List LogEntry) → Fewer es fs → LastIs 1 (latest es c f p) f p es → LastIs 1 (latest fs c f p) f p fs
unfolding latest
latest_fewer c f p es fs r h = subst (λ i. LastIs 1 i f p fs) (sym (latest_same 1 0 c f p es fs (fewer_owners es fs r))) (fewer_last 1 (latest es c f p) f p es fs r h)

fewer_same : (es : List LogEntry) → Fewer es es
fewer_same [] = NoneLeft
fewer_same (e ∷ es) = OneLeft e e es es refl refl (λ q. q) (fewer_same es)

fewer_then : (es fs gs : List LogEntry) → Fewer es fs → Fewer fs gs → Fewer es gs
fewer_then _ _ _ NoneLeft NoneLeft = NoneLeft
fewer_then _ _ _ (OneLeft e f es fs o c k r) (OneLeft _ g _ gs o2 c2 k2 r2) = OneLeft e g es gs (o2 ∙ o) (c2 ∙ c) (λ q. k2 (k q)) (fewer_then es fs gs r r2)

fewer_dropped : (n : ℕ) (picked : ℕ → LogOwner → Bool) (cause : FileId → PageNo → Cause) (es : List LogEntry) → Fewer es (log.drop_from n picked cause es)
unfolding log.drop_from log.dropped log.lost_entry
fewer_dropped n picked cause [] = NoneLeft
fewer_dropped n picked cause (e ∷ es) = go (picked n e.of) (fewer_dropped (n + 1) picked cause es)
  where
    lost : (z : Fate) → log.counts z ≡ false → log.counts (log.lost (cause e.of.file e.of.page) z) ≡ false
    lost fates.Pending q = cc q
    lost fates.Hard q = cc q
    lost (fates.Gone c) q = refl

    go : (b : Bool) → Fewer es (log.drop_from (n + 1) picked cause es) → Fewer (e ∷ es) ((if b then record e { fate = log.lost (cause e.of.file e.of.page) e.fate } else e) ∷ log.drop_from (n + 1) picked cause es)
    go true r = OneLeft e _ es _ refl refl (lost e.fate) r
    go false r = OneLeft e e es _ refl refl (λ q. q) r

fewer_hardened : (n i : ℕ) (o : LogOwner) (es : List LogEntry) → Fewer es (log.harden_from n i o es)
unfolding log.harden_from log.hardened log.harder_entry
fewer_hardened n i o [] = NoneLeft
fewer_hardened n i o (e ∷ es) = go (nat_le n i && log.same_owner e.of o) (fewer_hardened (n + 1) i o es)
  where
    harder : (z : Fate) → log.counts z ≡ false → log.counts (log.harder z) ≡ false
    harder fates.Pending q = cc q
    harder fates.Hard q = cc q
    harder (fates.Gone c) q = refl

    go : (b : Bool) → Fewer es (log.harden_from (n + 1) i o es) → Fewer (e ∷ es) ((if b then record e { fate = log.harder e.fate } else e) ∷ log.harden_from (n + 1) i o es)
    go true r = OneLeft e _ es _ refl refl (harder e.fate) r
    go false r = OneLeft e e es _ refl refl (λ q. q) r

fewer_hard : (es : List LogEntry) (x : Option Carried) → Fewer es (ev.log_hard es x)
unfolding log.harden log.harden_at
fewer_hard es None = fewer_same es
fewer_hard es (Some x) = go (log.entry_at es x.index)
  where
    go : (o : Option LogEntry) → Fewer es (log.harden_at es x.index o)
    go None = fewer_same es
    go (Some e) = fewer_hardened 1 x.index e.of es

fewer_ended : (cs : List IssuedCommand) (ls : List LeaseLife) (es : List LogEntry) → Fewer es (ev.log_ended_all cs ls es)
unfolding ev.log_ended_all ev.log_ended log.drop_picked
fewer_ended cs [] es = fewer_same es
fewer_ended cs (l ∷ ls) es = fewer_then es (ev.log_ended cs l es) (ev.log_ended_all cs ls (ev.log_ended cs l es)) (fewer_dropped 1 _ _ es) (fewer_ended cs ls (ev.log_ended cs l es))

-- Worlds of the same clients, whose clocks go on, and a log in which no more counts.
pub last_fewer : (w v : World) (es fs : List LogEntry) → v.clients ≡ w.clients → ((c : ℕ) → (clock_of w (nodes.Client (client c))).0 ≤ (clock_of v (nodes.Client (client c))).0) → Fewer es fs → LastIn w es → LastIn v fs
last_fewer w v es fs cs ts r h c site run a i l ino p d e =
    latest_fewer (client c) (file_at a ino) p es fs r (h c site (record { there = ap (λ z. numbered z c) (sym cs) ∙ run.there; runs = run.runs }) a i (earlier a.session l) ino p d e)
  where
    earlier : (s : Option ClientSession) → Lasts site.node.state.config.lease (clock_of v (nodes.Client (client c))).0 s → Lasts site.node.state.config.lease (clock_of w (nodes.Client (client c))).0 s
    earlier None l = tt
    earlier (Some s) l = let z = ts c in omega (arith, l, z)

pub last_still : (w v : World) → v.clients ≡ w.clients → v.clocks ≡ w.clocks → v.log ≡ w.log → LastIn w w.log → LastIn v v.log
last_still w v cs ts ls h = subst (LastIn v) (sym ls) (last_fewer w v w.log w.log cs (λ c. subst (λ z. (clock_in w.clocks (client c)).0 ≤ (clock_in z (client c)).0) (sym ts) (omega arith)) (fewer_same w.log) h)

-- A cut.
module _ (asks : ℕ → ℕ → Option Ask) (w : World) (copies : CopiesHold asks w) where
  pub free_at : (f : FileId) (p : PageNo) (lease now : ℕ) (xs : List Association) → CutFreeOf f p lease now xs → (a : Association) → Has a xs → Lasts lease now a.session → f.server ≡ a.server → ((held_in a.session f.ino).mode ≡ 0) ⊎ ((q : PageNo) → p.0 ≤ q.0 → Nothing a.store f.ino q)
  free_at f p lease now [] r a i = elim i [ ]
  free_at f p lease now (x ∷ xs) r a (inl e) = subst (λ (y : Association). Lasts lease now y.session → f.server ≡ y.server → ((held_in y.session f.ino).mode ≡ 0) ⊎ ((q : PageNo) → p.0 ≤ q.0 → Nothing y.store f.ino q)) (sym e) r.one
  free_at f p lease now (x ∷ xs) r a (inr i) = free_at f p lease now xs r.rest a i

  pub cut_apart : (f : FileId) (p : PageNo) → CutFree w f p → (c : ℕ) (site : WorldClient) → Running w c site → (a : Association) → Has a site.node.state.associations → Lasts site.node.state.config.lease (clock_of w (nodes.Client (client c))).0 a.session →
      (ino : ℕ) (q : PageNo) (d : DirtyPage) → pages.dirty_of a.store.pages ino q ≡ Some d → touches (file_at a ino) q (hard_cut f p) ≡ true → ⊥
  cut_apart f p free c site run a i l ino q d e t = go (free_at f p site.node.state.config.lease (clock_of w (nodes.Client (client c))).0 site.node.state.associations (free c site run) a i l sv)
    where
      x : (same_file f (file_at a ino) ≡ true) × (nat_le p.0 q.0 ≡ true)
      x = and_true (same_file f (file_at a ino)) (nat_le p.0 q.0) t

      y : (Rattle.st_rules.specs.Keys.same_server f.server a.server ≡ true) × ((Rattle.std.specs.Prelude.◌==◌ f.ino ino) ≡ true)
      y = and_true _ _ x.0

      sv : f.server ≡ a.server
      sv = ap (λ n. record { 0 = n }) (eqb-true f.server.0 a.server.0 y.0)

      file : f.ino ≡ ino
      file = eqb-true f.ino ino y.1

      none : ◌≡◌ {A = Option DirtyPage} None (Some d) → ⊥
      none z = cc

      go : ((held_in a.session f.ino).mode ≡ 0) ⊎ ((q : PageNo) → p.0 ≤ q.0 → Nothing a.store f.ino q) → ⊥
      go (inl z) =
          let s : StandsAt (client c) w.log a = (while_at _ _ (client c) w.log site.node.state.associations a ((copies c site run.there).runs run.runs).copies i).lasting l in
          let m = (s.pages ino q).mode d e in
          let n = ap (λ j. (held_in a.session j).mode) file in absurd (omega (arith, z, m, n))
      go (inr z) = none (sym (z q (leb-true p.0 q.0 x.1)).dirty ∙ ap (λ j. pages.dirty_of a.store.pages j q) file ∙ e)

  cut_last : (f : FileId) (p : PageNo) → CutFree w f p → (es : List LogEntry) → LastIn w es → LastIn w (es ++ hard_cut f p ∷ [])
  cut_last f p free es h c site run a i l ino q d e =
      last_other (client c) (file_at a ino) q es (hard_cut f p) (nobodys c site run) (go (touches (file_at a ino) q (hard_cut f p)) refl) (h c site run a i l ino q d e)
    where
      nobodys : (c : ℕ) (site : WorldClient) → Running w c site → ev.is_entry_of (client c) (file_at a ino) q (hard_cut f p) ≡ false
      nobodys c site run = let b = (numbered_below w.clients c site run.there).0 in ap (λ z. z && (same_file f (file_at a ino) && Rattle.st_rules.specs.Keys.same_page p q)) (ne_eqb 0 c (λ z. (let y : 0 ≡ c = z in omega (arith, b, y))))

      go : (b : Bool) → touches (file_at a ino) q (hard_cut f p) ≡ b → matters (file_at a ino) q (hard_cut f p) ≡ false
      go true t = absurd (cut_apart f p free c site run a i l ino q d e t)
      go false t = ap (λ z. z && true) t

  -- what a server says
  record Goes (sc : ev.WorldTurn) : Type 0 where
    clients : sc.world.clients ≡ w.clients
    clocks : sc.world.clocks ≡ w.clocks
    last : LastIn w sc.world.log

  says_one : (s : ServerId) (o : Output) (sc : ev.WorldTurn) → ((f : FileId) (p : PageNo) → outputs.Note (notes.CutDone f p) ≡ o → CutFree w f p) → Goes sc → Goes (ev.server_says sc s o)
  unfolding ev.server_says ev.server_notes ev.cuts ev.sends log.cut
  says_one s (outputs.Send m) sc f h = record { clients = h.clients; clocks = h.clocks; last = h.last }
  says_one s (outputs.Note n) sc f h = noted n f
    where
      noted : (n : Note) → ((g : FileId) (p : PageNo) → outputs.Note (notes.CutDone g p) ≡ outputs.Note n → CutFree w g p) → Goes (ev.server_notes sc s n)
      noted (notes.CutDone g p) f = record { clients = h.clients; clocks = h.clocks; last = cut_last g p (f g p refl) sc.world.log h.last }
      noted (notes.Stolen c life) f = record { clients = h.clients; clocks = h.clocks; last = h.last }
      noted (notes.Suspected c t) f = record { clients = h.clients; clocks = h.clocks; last = h.last }
      noted n f = h
  says_one s o sc f h = h

  says_all : (s : ServerId) (os : List Output) (sc : ev.WorldTurn) → CutsFree w os → Goes sc → Goes (ev.server_says_all s os sc)
  unfolding ev.server_says_all
  says_all s [] sc f h = h
  says_all s (o ∷ os) sc f h = says_all s os (ev.server_says sc s o) (λ g p i. f g p (inr i)) (says_one s o sc (λ g p e. f g p (inl e)) h)

  said : (sc : ev.WorldTurn) → Goes sc → LastIn sc.world sc.world.log
  said sc g = last_fewer w sc.world sc.world.log sc.world.log g.clients (λ c. subst (λ z. (clock_in w.clocks (client c)).0 ≤ (clock_in z (client c)).0) (sym g.clocks) (omega arith)) (fewer_same sc.world.log) g.last

  pub server_last : (s : ServerId) (input : ServerInput) (o : Option ServerNode) → ServerFree w s input o → LastIn w w.log → LastIn (ev.at_server w s input o).world (ev.at_server w s input o).world.log
  unfolding ev.at_server ev.server_takes ev.server_took
  server_last s input None g h = h
  server_last s input (Some node) g h = go (server.node_step node (clock_of w (nodes.Server s)) input) g
    where
      go : (r : Result server.NodeTurn StepRefusal) → TurnFree w r → LastIn (ev.server_took w s r).world (ev.server_took w s r).world.log
      go (Err e) g = h
      go (Ok t) g = said (ev.server_says_all s t.out (ev.quiet (ev.with_node s t.node w))) (says_all s t.out (ev.quiet (ev.with_node s t.node w)) g (record { clients = refl; clocks = refl; last = h }))

  receiver_last : (m : Message) (n : NodeId) → receiving w m n ≡ None → ReceiverFree w m n → LastIn w w.log → LastIn (ev.delivers_to w m n).world (ev.delivers_to w m n).world.log
  unfolding ev.delivers_to ev.at_client
  receiver_last m (nodes.Client c) e g h = go (site_of w c) e
    where
      go : (o : Option WorldClient) → taking w c (inputs.Control m) o ≡ None → LastIn (ev.at_client w c (inputs.Control m) o).world (ev.at_client w c (inputs.Control m) o).world.log
      go None e = h
      go (Some site) e = absurd (some_not_none _ e)
  receiver_last m (nodes.Server s) e g h = server_last s (serving.Control m) (node_of w s) g h

  message_last : (o : Option SentMessage) → receiving_of w o ≡ None → MessageFree w o → LastIn w w.log → LastIn (ev.delivers w o).world (ev.delivers w o).world.log
  unfolding ev.delivers
  message_last None e g h = h
  message_last (Some m) e g h = receiver_last m.message (receiver_of m) e g h

-- A client that stops or starts has nothing dirty.
swapped : (w v : World) (c : ClientId) (old new : WorldClient) (fs : List LogEntry) → site_of w c ≡ Some old → v.clients ≡ with_numbered c.0 new w.clients → v.clocks ≡ w.clocks → Fewer w.log fs →
    (new.node.running ≡ true → (a : Association) → Has a new.node.state.associations → (ino : ℕ) (p : PageNo) (d : DirtyPage) → pages.dirty_of a.store.pages ino p ≡ Some d → ⊥) → LastIn w w.log → LastIn v fs
swapped w v c old new fs there cs ts r none h d site run a i l ino p x e = go (same_or_not d c.0)
  where
    its : numbered (with_numbered c.0 new w.clients) d ≡ Some site
    its = ap (λ z. numbered z d) (sym cs) ∙ run.there

    clock : clock_in v.clocks (client d) ≡ clock_in w.clocks (client d)
    clock = ap (λ z. clock_in z (client d)) ts

    go : (d ≡ c.0) ⊎ (d ≢ c.0) → LastIs 1 (latest fs (client d) (file_at a ino) p) (file_at a ino) p fs
    go (inl q) =
        let s : new ≡ site = some_is (sym (numbered_own w.clients c.0 new old there) ∙ ap (numbered (with_numbered c.0 new w.clients)) (sym q) ∙ its) in
        absurd (none (ap (λ (z : WorldClient). z.node.running) s ∙ run.runs) a (subst (λ (z : WorldClient). Has a z.node.state.associations) (sym s) i) ino p x e)
    go (inr n) =
        latest_fewer (client d) (file_at a ino) p w.log fs r
        (h d site (record { there = sym (numbered_other w.clients c.0 d new (numbered_below w.clients c.0 old there).0 n) ∙ its; runs = run.runs }) a i
        (subst (λ (t : Stamp). Lasts site.node.state.config.lease t.0 a.session) clock l) ino p x e)

crash_last : (w : World) (c : ClientId) (site : WorldClient) → site_of w c ≡ Some site → LastIn w w.log → LastIn (ev.crashes_client w c (Some site)).world (ev.crashes_client w c (Some site)).world.log
unfolding ev.crashes_client ev.marks ev.log_crashed log.drop_picked
crash_last w c site there h = swapped w (ev.crashes_client w c (Some site)).world c site (ev.stopped_site site) (ev.crashes_client w c (Some site)).world.log there refl refl (fewer_dropped 1 _ _ w.log) (λ r. absurd (no r)) h
  where
    no : false ≡ true → ⊥
    no r = cc

start_last : (w : World) (c : ClientId) (site : WorldClient) → site_of w c ≡ Some site → LastIn w w.log → LastIn (ev.starts_client w c (Some site)) (ev.starts_client w c (Some site)).log
unfolding ev.starts_client cl.start
start_last w c site there h =
    swapped w (ev.starts_client w c (Some site)) c site (ev.started_site site) w.log there refl refl (fewer_same w.log)
    (λ r a i ino p d e. let z = has_map cl.started_association site.node.state.associations a i in none d (ap (λ (b : Association). pages.dirty_of b.store.pages ino p) (sym z.2) ∙ e)) h
  where
    none : (d : DirtyPage) → ◌≡◌ {A = Option DirtyPage} None (Some d) → ⊥
    none d e = cc

-- Each event at which no client takes an input.
pub others_last : (asks : ℕ → ℕ → Option Ask) (w : World) (e : Event) → CopiesHold asks w → taken w e ≡ None → OthersOwed w e → LastIn w w.log → LastIn (happens w e).world (happens w e).world.log
unfolding ev.happens ev.ticks ev.loses_message ev.reports_of ev.advances ev.marks ev.crashes ev.crashes_server ev.starts ev.starts_server ev.effects ev.at_client ev.asks_at ev.tells ev.tells_client ev.tells_site ev.crashes_client ev.starts_client
others_last asks w (events.Tick (nodes.Client c)) copies t o h = go (site_of w c) t
  where
    go : (s : Option WorldClient) → taking w c inputs.Tick s ≡ None → LastIn (ev.at_client w c inputs.Tick s).world (ev.at_client w c inputs.Tick s).world.log
    go None t = h
    go (Some site) t = absurd (some_not_none _ t)
others_last asks w (events.Tick (nodes.Server s)) copies t o h = server_last asks w copies s serving.Tick (node_of w s) o h
others_last asks w (events.App c ask) copies t o h = go (site_of w c) t
  where
    go : (s : Option WorldClient) → asking w c ask s ≡ None → LastIn (ev.asks_at w c ask s).world (ev.asks_at w c ask s).world.log
    go None t = h
    go (Some site) t = absurd (some_not_none _ t)
others_last asks w (events.Deliver n) copies t o h = message_last asks w copies (message_of w n) t o h
others_last asks w (events.Lose n) copies t o h = go (message_of w n)
  where
    go : (m : Option SentMessage) → LastIn (ev.loses_message w n m) (ev.loses_message w n m).log
    go None = h
    go (Some m) = last_still w (ev.with_lost n m w) refl refl refl h
others_last asks w (events.Cut x y) copies t o h = last_still w (ev.with_cut x y w) refl refl refl h
others_last asks w (events.Heal x y) copies t o h = last_still w (ev.without_cut x y w) refl refl refl h
others_last asks w (events.Advance steps) copies t o h = last_fewer w (ev.advances w steps).world w.log (ev.advances w steps).world.log refl (λ c. clock_up w steps (client c)) (fewer_ended w.commands (ev.lives_reached w steps) w.log) h
others_last asks w (events.Effect n) copies t o h = last_fewer w (ev.effects w n).world w.log (ev.effects w n).world.log refl (λ c. omega arith) (fewer_hard w.log (ev.carried_by (issued_of w n))) h
others_last asks w (events.Report n ok) copies t o h = go (issued_of w n) t
  where
    v : World
    v = ev.with_disks (ev.disks_after w.disks (disks.done w.disks n ok)) w

    h_v : LastIn (ev.with_disks (ev.disks_after w.disks (disks.done w.disks n ok)) w) w.log
    h_v = last_still w (ev.with_disks (ev.disks_after w.disks (disks.done w.disks n ok)) w) refl refl refl h

    by : (y : IssuedCommand) (site : WorldClient) (b : Bool) → (if b then taking (ev.with_disks (ev.disks_after w.disks (disks.done w.disks n ok)) w) y.client (ev.end_told (ev.with_disks (ev.disks_after w.disks (disks.done w.disks n ok)) w) n ok y) (Some site) else None) ≡ None →
        LastIn (if b then ev.client_takes (ev.with_disks (ev.disks_after w.disks (disks.done w.disks n ok)) w) y.client (ev.end_told (ev.with_disks (ev.disks_after w.disks (disks.done w.disks n ok)) w) n ok y) site else ev.quiet (ev.with_disks (ev.disks_after w.disks (disks.done w.disks n ok)) w)).world
        (if b then ev.client_takes (ev.with_disks (ev.disks_after w.disks (disks.done w.disks n ok)) w) y.client (ev.end_told (ev.with_disks (ev.disks_after w.disks (disks.done w.disks n ok)) w) n ok y) site else ev.quiet (ev.with_disks (ev.disks_after w.disks (disks.done w.disks n ok)) w)).world.log
    by y site true t = absurd (some_not_none _ t)
    by y site false t = h_v

    at : (y : IssuedCommand) (s : Option WorldClient) → told_at (ev.with_disks (ev.disks_after w.disks (disks.done w.disks n ok)) w) n ok y s ≡ None → LastIn (ev.tells_client (ev.with_disks (ev.disks_after w.disks (disks.done w.disks n ok)) w) n ok y s).world (ev.tells_client (ev.with_disks (ev.disks_after w.disks (disks.done w.disks n ok)) w) n ok y s).world.log
    at y None t = h_v
    at y (Some site) t = by y site (ev.is_same_instance y site) t

    go : (o : Option IssuedCommand) → told_of (ev.with_disks (ev.disks_after w.disks (disks.done w.disks n ok)) w) n ok o ≡ None → LastIn (ev.tells (ev.with_disks (ev.disks_after w.disks (disks.done w.disks n ok)) w) n ok o).world (ev.tells (ev.with_disks (ev.disks_after w.disks (disks.done w.disks n ok)) w) n ok o).world.log
    go None t = h_v
    go (Some y) t = at y (site_of w y.client) t
others_last asks w (events.Crash (nodes.Client c)) copies t o h = go (site_of w c) refl
  where
    go : (s : Option WorldClient) → site_of w c ≡ s → LastIn (ev.crashes_client w c s).world (ev.crashes_client w c s).world.log
    go None e = h
    go (Some site) e = crash_last w c site e h
others_last asks w (events.Crash (nodes.Server s)) copies t o h = go (node_of w s)
  where
    go : (n : Option ServerNode) → LastIn (ev.crashes_server w s n) (ev.crashes_server w s n).log
    go None = h
    go (Some node) = last_still w (ev.with_node s (server.crash_node node) w) refl refl refl h
others_last asks w (events.Start (nodes.Client c)) copies t o h = go (site_of w c) refl
  where
    go : (s : Option WorldClient) → site_of w c ≡ s → LastIn (ev.starts_client w c s) (ev.starts_client w c s).log
    go None e = h
    go (Some site) e = start_last w c site e h
others_last asks w (events.Start (nodes.Server s)) copies t o h = go (node_of w s)
  where
    go : (n : Option ServerNode) → LastIn (ev.starts_server w s n) (ev.starts_server w s n).log
    go None = h
    go (Some node) = last_still w (ev.with_node s _ w) refl refl refl h
