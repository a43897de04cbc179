-- The latest entry of a dirty page belongs to its association's life: through entries, through each change at one server, and as a command ends.
use Rattle.st_lemmas.proofs.Words
use Words.{◌≡◌, ℕ, ◌+◌, Bool, true, false, ◌&&◌, ◌==◌, List, [], ◌∷◌, ◌++◌, Option, Some, None, refl, sym, ap, ◌∙◌, subst, arith, if◌then◌else◌, length, map}
use Words.{option_map, suc, find, eq-eqb, ne_eqb, BlockAt, Tag, ClientId, FileId, Life, PageNo, ServerId, Stamp, PageCommand, DiskCommand, LogEntry, LogOwner}
use Words.{DirtyPage, IssuedCommand}
use Words.commands
use Words.io
use Words.Client as cl
use Words.ClientPages as pages
use Words.ClientPasses as cp
use Words.ClientState.{Association, Turn}
use Words.Disks as disks
use Words.Events as ev
use Words.Events.{latest, latest_at}
use Words.FlatLog as log
use Words.FlatLog.{owner}
use Words.Keys.{put, same_client, same_file, same_page, same_server}
use Words.Safety.{Step}
use Words.World.{numbered}
use Words.Lists.{Has}
use Words.Numbers.{get_last}
use Words.Tables.{and_true, and_both}
use Rattle.st_rules.specs.declared.log.Change as logged
use Rattle.st_lemmas.proofs.Contents.{Place_is, one_place}
use Rattle.st_lemmas.proofs.Marks.{of_entry}
use Rattle.st_laws_steps.specs.Client.Client.{Change, Says, Operates, Answers, Greets, TellsLost, Begins, Follows, Learns, Forgets, Caches, Writes, Reads}
use Rattle.st_laws_steps.specs.Client.Client.{Submits}
use Rattle.st_laws_pages.specs.Flush.Flush.{file_at, owner_at_page, Cared, IsIts, Sent}
use Rattle.st_laws_pages.specs.Disks.Folds.{DoneUpto, owner_at}
use Rattle.st_laws_steps.specs.Client.Losses.{Ends, Unknown, Passes, Hardens, Fails}
use Rattle.st_laws_pages.proofs.Flush.Caring.{latest_stays}
use Rattle.st_laws_pages.proofs.Flush.Ending.{SuccessOwed}
use Rattle.st_laws_pages.proofs.Disks.ReadsFind.{none_upto}
use Rattle.st_laws_pages.proofs.Flush.Growing.{Adds, AddsEntry}
use Rattle.st_laws_pages.proofs.Disks.Law.{owner_more, owner_same}
use Rattle.st_laws_steps.proofs.Client.Nexts.{dirty_put, failed_found, found_fewer}
use Rattle.st_laws_pages.proofs.Disks.Writer.{latest_last, latest_same}
use Rattle.st_laws_pages.specs.Causes.Invariants.{CommandsStand, LatestOwn}

-- Logs with the same owners.
pub latest_owned : (c : ClientId) (a : Association) (es fs : List LogEntry) → map of_entry fs ≡ map of_entry es → LatestOwn c es a → LatestOwn c fs a
unfolding latest
latest_owned c a es fs e h = λ ino p d i. owner_same es fs (latest fs c (file_at a ino) p) e ∙ ap (owner_at es) (latest_same 1 0 c (file_at a ino) p es fs e) ∙ h ino p d i

-- One more entry: not of this client's page, or of its life.
pub entry_last : (c : ClientId) (f : FileId) (p : PageNo) (es : List LogEntry) (e : LogEntry) → ev.is_entry_of c f p e ≡ true → latest (es ++ e ∷ []) c f p ≡ suc (length es)
unfolding latest latest_at
entry_last c f p es e q = latest_last 1 0 c f p es e ∙ ap (λ b. if b then 1 + length es else latest es c f p) q ∙ (let z : 1 + length es ≡ suc (length es) = omega arith in z)

more_at : (c : ClientId) (life : Life) (f : FileId) (p : PageNo) (es : List LogEntry) (e : LogEntry) → (b : Bool) → ev.is_entry_of c f p e ≡ b → (b ≡ true → e.of ≡ owner c life f p) → (b ≡ false → owner_at es (latest es c f p) ≡ Some (owner c life f p)) →
    owner_at (es ++ e ∷ []) (latest (es ++ e ∷ []) c f p) ≡ Some (owner c life f p)
more_at c life f p es e true q own old = ap (owner_at (es ++ e ∷ [])) (entry_last c f p es e q) ∙ ap (option_map of_entry) (get_last es e) ∙ ap (λ o. Some o) (own refl)
more_at c life f p es e false q own old = ap (owner_at (es ++ e ∷ [])) (latest_stays c f p es e q) ∙ owner_more es e (latest es c f p) (owner c life f p) (old refl)

-- an entry elsewhere: of another client, server or page
pub latest_elsewhere : (c : ClientId) (a : Association) (es : List LogEntry) (e : LogEntry) → ((ino : ℕ) (p : PageNo) → ev.is_entry_of c (file_at a ino) p e ≡ false) → LatestOwn c es a → LatestOwn c (es ++ e ∷ []) a
latest_elsewhere c a es e n h = λ ino p d i. more_at c a.life (file_at a ino) p es e false (n ino p) (λ z. cc z) (λ z. h ino p d i)

-- an entry of its own life
own_entry : (c : ClientId) (a : Association) (f : FileId) (p : PageNo) (ch : logged.Change) (ino : ℕ) (q : PageNo) → f.server ≡ a.server → ev.is_entry_of c (file_at a ino) q (log.pending (owner c a.life f p) ch) ≡ true → owner c a.life f p ≡ owner c a.life (file_at a ino) q
own_entry c a f p ch ino q sv e =
    let x = and_true (same_client c c) (same_file f (file_at a ino) && same_page p q) e in
    let y = and_true (same_file f (file_at a ino)) (same_page p q) x.1 in
    let z = and_true (same_server f.server a.server) (f.ino == ino) y.0 in
    ap (λ s. owner c a.life (record { server = s; ino = f.ino }) p) sv ∙ ap (λ j. owner c a.life (record { server = a.server; ino = j }) p) (Rattle.std.proofs.lemmas.Bool.eqb-true f.ino ino z.1) ∙ ap (λ j. owner c a.life (file_at a ino) (record { 0 = j })) (Rattle.std.proofs.lemmas.Bool.eqb-true p.0 q.0 y.1)

pub self_entry : (c : ClientId) (a : Association) (f : FileId) (p : PageNo) (ch : logged.Change) → f.server ≡ a.server → ev.is_entry_of c (file_at a f.ino) p (log.pending (owner c a.life f p) ch) ≡ true
self_entry c a f p ch sv =
    and_both (same_client c c) _ (eq-eqb c.0 c.0 refl)
    (and_both (same_file f (file_at a f.ino)) (same_page p p) (and_both (same_server f.server a.server) (f.ino == f.ino) (eq-eqb f.server.0 a.server.0 (ap (λ (s : ServerId). s.0) sv)) (eq-eqb f.ino f.ino refl)) (eq-eqb p.0 p.0 refl))

-- A page is changed.
latest_written : (c : ClientId) (a : Association) (f : FileId) (p : PageNo) (bytes : List ℕ) (cs : List PageCommand) (es : List LogEntry) (ch : logged.Change) → f.server ≡ a.server → LatestOwn c es a →
    LatestOwn c (es ++ log.pending (owner c a.life f p) ch ∷ []) (record a { store = record a.store { pages = pages.written a.store.pages f.ino p bytes; commands = cs } })
unfolding pages.written
latest_written c a f p bytes cs es ch sv h = λ ino q d i. at ino q d i (Place_is f.ino p ino q) refl
  where
    e : LogEntry
    e = log.pending (owner c a.life f p) ch

    new : DirtyPage
    new = pages.new_dirty a.store.pages f.ino p bytes

    at : (ino : ℕ) (q : PageNo) (d : DirtyPage) → find (pages.is_dirty_of ino q) (put (pages.is_dirty_of f.ino p) new a.store.pages.dirty) ≡ Some d → (b : Bool) → Place_is f.ino p ino q ≡ b →
        owner_at (es ++ e ∷ []) (latest (es ++ e ∷ []) c (file_at a ino) q) ≡ Some (owner c a.life (file_at a ino) q)
    at ino q d i true z =
        let o = one_place f.ino p ino q z in
        more_at c a.life (file_at a ino) q es e true (subst (λ j. ev.is_entry_of c (file_at a j) q e ≡ true) o.0 (subst (λ r. ev.is_entry_of c (file_at a f.ino) r e ≡ true) o.1 (self_entry c a f p ch sv)))
        (λ y. own_entry c a f p ch ino q sv (subst (λ j. ev.is_entry_of c (file_at a j) q e ≡ true) o.0 (subst (λ r. ev.is_entry_of c (file_at a f.ino) r e ≡ true) o.1 (self_entry c a f p ch sv)))) (λ y. cc y)
    at ino q d i false z =
        more_at c a.life (file_at a ino) q es e (ev.is_entry_of c (file_at a ino) q e) refl (λ y. own_entry c a f p ch ino q sv y)
        (λ y. h ino q d (sym (dirty_put new a.store.pages.dirty ino q false z) ∙ i))

-- Each change keeps it, in the log with what it adds.
moved : (c : ClientId) (a : Association) (es gs : List LogEntry) → gs ≡ es → LatestOwn c es a → LatestOwn c gs a
moved c a es gs e h = subst (λ x. LatestOwn c x a) (sym e) h

pub change_latest : (c : ClientId) (now : Stamp) (t u : Turn) (ch : Change now t u) (cs ds : List IssuedCommand) (es gs : List LogEntry) → Adds c now t u ch cs ds es gs → LatestOwn c es t.here → LatestOwn c gs u.here
unfolding cp.submit_read cp.submit_write cp.submit_command pages.forget_from pages.drop_from
change_latest c now t _ (Says _ o p) cs ds es gs z h = moved c t.here es gs z.log h
change_latest c now t _ (Operates _ os) cs ds es gs z h = moved c t.here es gs z.log h
change_latest c now t _ (Answers _ os ops a) cs ds es gs z h = moved c t.here es gs z.log h
change_latest c now t _ (Greets _ g) cs ds es gs z h = subst (λ x. LatestOwn c x t.here) (sym z.log) h
change_latest c now t _ (TellsLost _ lost) cs ds es gs z h = subst (λ x. LatestOwn c x t.here) (sym z.log) h
change_latest c now t _ (Begins _ s e b n) cs ds es gs z h = subst (λ x. LatestOwn c x t.here) (sym z.log) h
change_latest c now t _ (Follows _ s v e g) cs ds es gs z h = subst (λ x. LatestOwn c x t.here) (sym z.log) h
change_latest c now t _ (Learns _ e v n) cs ds es gs z h = subst (λ x. LatestOwn c x t.here) (sym z.log) h
change_latest c now t _ (Forgets _ ino p i) cs ds es gs z h = subst (λ x. LatestOwn c x t.here) (sym z.log) h
change_latest c now t _ (Caches _ clean) cs ds es gs z h = subst (λ x. LatestOwn c x t.here) (sym z.log) h
change_latest c now t _ (Writes _ s f p bytes n e sv own m x) cs ds es gs z h =
    subst (λ y. LatestOwn c y (cp.with_pages_changed (pages.written t.here.store.pages f.ino p bytes) f.ino p t).here) (sym z.log) (latest_written c t.here f p bytes (pages.forget_read t.here.store.commands f.ino p) es z.change own h)
change_latest c now t _ (Reads _ ino p m i clean) cs ds es gs z h = subst (λ x. LatestOwn c x t.here) (sym z.log) h
change_latest c now t _ (Submits _ s ino p d m e i k w) cs ds es gs z h = subst (λ x. LatestOwn c x t.here) (sym z.log) h

-- a change at another server
pub entry_apart : (c : ClientId) (t : Turn) (f : FileId) (p : PageNo) (cs ds : List IssuedCommand) (es gs : List LogEntry) (b : Association) → f.server ≡ t.here.server → (b.server.0 ≡ t.here.server.0 → ⊥) → AddsEntry c t f p cs ds es gs →
    LatestOwn c es b → LatestOwn c gs b
entry_apart c t f p cs ds es gs b own n z h = moved c b _ gs z.log (latest_elsewhere c b es (log.pending (owner c t.here.life f p) z.change) none h)
  where
    none : (ino : ℕ) (q : PageNo) → ev.is_entry_of c (file_at b ino) q (log.pending (owner c t.here.life f p) z.change) ≡ false
    none ino q = go (same_client c c) (same_server f.server b.server) (f.ino == ino) (same_page p q) (ne_eqb f.server.0 b.server.0 (λ e. n (sym e ∙ ap (λ (s : ServerId). s.0) own)))
      where
        go : (x y u v : Bool) → y ≡ false → (x && ((y && u) && v)) ≡ false
        go true false u v e = refl
        go true true u v e = cc
        go false y u v e = refl

pub change_apart : (c : ClientId) (now : Stamp) (t u : Turn) (ch : Change now t u) (cs ds : List IssuedCommand) (es gs : List LogEntry) (b : Association) → (b.server.0 ≡ t.here.server.0 → ⊥) → Adds c now t u ch cs ds es gs → LatestOwn c es b → LatestOwn c gs b
change_apart c now t _ (Says _ o p) cs ds es gs b n z h = moved c b es gs z.log h
change_apart c now t _ (Operates _ os) cs ds es gs b n z h = moved c b es gs z.log h
change_apart c now t _ (Answers _ os ops a) cs ds es gs b n z h = moved c b es gs z.log h
change_apart c now t _ (Greets _ g) cs ds es gs b n z h = moved c b es gs z.log h
change_apart c now t _ (TellsLost _ lost) cs ds es gs b n z h = moved c b es gs z.log h
change_apart c now t _ (Begins _ s e y m) cs ds es gs b n z h = moved c b es gs z.log h
change_apart c now t _ (Follows _ s v e g) cs ds es gs b n z h = moved c b es gs z.log h
change_apart c now t _ (Learns _ e v m) cs ds es gs b n z h = moved c b es gs z.log h
change_apart c now t _ (Forgets _ ino p i) cs ds es gs b n z h = moved c b es gs z.log h
change_apart c now t _ (Caches _ clean) cs ds es gs b n z h = moved c b es gs z.log h
change_apart c now t _ (Writes _ s f p bytes m e sv own k x) cs ds es gs b n z h = entry_apart c t f p cs ds es gs b own n z h
change_apart c now t _ (Reads _ ino p m i clean) cs ds es gs b n z h = moved c b es gs z.log h
change_apart c now t _ (Submits _ s ino p d m e i k w) cs ds es gs b n z h = moved c b es gs z.log h

-- The end of a command: what is dirty was dirty.
pub ends_latest : (c : ClientId) (number : ℕ) (ok : Bool) (t u : Turn) → Ends number ok t u → (es : List LogEntry) → LatestOwn c es t.here → LatestOwn c es u.here
unfolding cl.hardened pages.harden pages.harden_at pages.harden_page pages.fail pages.failed_by
ends_latest c number ok t _ Unknown es h = h
ends_latest c number ok t _ (Passes pc e o) es h = h
ends_latest c number ok t _ (Hardens pc v e o k w) es h = λ ino p d i. h ino p (old ino p d (pages.dirty_of t.here.store.pages pc.ino pc.page) i).0 (old ino p d (pages.dirty_of t.here.store.pages pc.ino pc.page) i).1
  where
    old : (ino : ℕ) (p : PageNo) (d : DirtyPage) (o : Option DirtyPage) → pages.dirty_of (pages.harden_at t.here.store.pages o) ino p ≡ Some d → (x : DirtyPage) × (pages.dirty_of t.here.store.pages ino p ≡ Some x)
    old ino p d None i = (d, i)
    old ino p d (Some x) i = found_fewer (pages.is_dirty_of ino p) _ t.here.store.pages.dirty d i
ends_latest c number ok t _ (Fails pc v e o k w) es h = λ ino p d i. let z = failed_found pc.ino pc.page pc.number ino p t.here.store.pages.dirty d i in h ino p z.0 z.1

-- A write of a page as it is, which had its effect, leaves nothing of the page pending.
pub success_own : (past : List Step) (cs : List IssuedCommand) (es : List LogEntry) (c : ClientId) (starts next : ℕ) (a : Association) (ds : List DiskCommand) (k : ℕ) (x : IssuedCommand) (d : DiskCommand) (at : BlockAt) (tag : Tag) (bytes : List ℕ) →
    numbered cs k ≡ Some x → disks.command_at ds k ≡ Some d → d.what ≡ commands.Write at tag bytes → d.effected ≡ true → CommandsStand es cs ds → LatestOwn c es a → Cared past cs es c starts next a →
    (pc : PageCommand) → Has pc a.store.commands → IsIts c starts pc.number x → (v : ℕ) → pc.kind ≡ io.Write v → SuccessOwed es c a pc v
unfolding latest
success_own past cs es c starts next a ds k x d at tag bytes j l w f hs own h pc i s v q page y z = go ((h.writes pc i v q).world k x j s)
  where
    o : LogOwner
    o = owner_at_page c a pc.ino pc.page

    go : Sent cs es c a pc v k x → Rattle.st_laws_pages.proofs.Flush.Ending.NonePending o es
    go m =
        none_upto 1 0 o es (omega arith)
        (subst (λ n. DoneUpto 1 n o es) (m.latest_is page y z)
        (hs.done k x d at tag bytes j l w f (record { file = file_at a pc.ino; page = pc.page; index = m.index }) o m.carries (ap (owner_at es) (m.latest_is page y z) ∙ own pc.ino pc.page page y)))
