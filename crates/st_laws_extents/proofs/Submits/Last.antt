-- After the latest entry of a dirty page nothing of the page counts: through entries, through each change at one server, and as a command ends.
use Rattle.st_lemmas.proofs.Words
use Words.{◌≡◌, ℕ, suc, ◌+◌, ◌≤◌, Bool, true, false, ◌&&◌, ◌==◌, List, [], ◌∷◌, ◌++◌, Option, Some, None, refl, sym, ap, ◌∙◌, subst, arith, find}
use Words.{length, eq-eqb, leb-false, ne_eqb, ClientId, FileId, Life, PageNo, ServerId, Stamp, PageCommand, LogEntry, DirtyPage}
use Words.changes
use Words.Client as cl
use Words.ClientPages as pages
use Words.ClientPasses as cp
use Words.ClientState.{Association, Turn}
use Words.Events as ev
use Words.Events.{latest}
use Words.FlatLog as log
use Words.FlatLog.{matters, owner}
use Words.Keys.{put, same_client, same_file, same_page, same_server}
use Words.Tables.{and_left}
use Words.Numbers.{length_more}
use Rattle.st_rules.specs.declared.log.Change as logged
use Rattle.st_lemmas.proofs.Contents.{Place_is, one_place}
use Rattle.st_laws_steps.specs.Client.Client.{Change, Says, Operates, Answers, Greets, TellsLost, Begins, Follows, Learns, Forgets, Caches, Writes, Reads}
use Rattle.st_laws_steps.specs.Client.Client.{Submits}
use Rattle.st_laws_pages.specs.Flush.Flush.{file_at}
use Rattle.st_laws_pages.specs.Disks.Folds.{LastIs}
use Rattle.st_laws_steps.specs.Client.Losses.{Ends, Unknown, Passes, Hardens, Fails}
use Rattle.st_laws_pages.proofs.Flush.Caring.{latest_stays}
use Rattle.st_laws_steps.proofs.Client.Nexts.{dirty_put, failed_found, found_fewer}
use Rattle.st_laws_extents.specs.Submits.Submits.{LatestLast}
use Rattle.st_laws_pages.proofs.Causes.Latest.{entry_last, self_entry}

-- Folds.
pub last_all : (n i : ℕ) (f : FileId) (p : PageNo) (es : List LogEntry) → n + length es ≤ i + 1 → LastIs n i f p es
last_all n i f p [] h = record {}
last_all n i f p (e ∷ es) h = record { one = λ q. (let z = leb-false n i q in absurd (omega (arith, h, z))); rest = last_all (n + 1) i f p es (omega (arith, h)) }

pub last_entry : (n i : ℕ) (f : FileId) (p : PageNo) (es : List LogEntry) (e : LogEntry) → matters f p e ≡ false → LastIs n i f p es → LastIs n i f p (es ++ e ∷ [])
last_entry n i f p [] e m h = record { one = λ q. m; rest = record {} }
last_entry n i f p (x ∷ es) e m h = record { one = h.one; rest = last_entry (n + 1) i f p es e m h.rest }

pub last_own : (c : ClientId) (f : FileId) (p : PageNo) (es : List LogEntry) (e : LogEntry) → ev.is_entry_of c f p e ≡ true → LastIs 1 (latest (es ++ e ∷ []) c f p) f p (es ++ e ∷ [])
last_own c f p es e q = subst (λ i. LastIs 1 i f p (es ++ e ∷ [])) (sym (entry_last c f p es e q)) (last_all 1 (suc (length es)) f p (es ++ e ∷ []) (let z = length_more es e in omega (arith, z)))

pub last_other : (c : ClientId) (f : FileId) (p : PageNo) (es : List LogEntry) (e : LogEntry) → ev.is_entry_of c f p e ≡ false → matters f p e ≡ false → LastIs 1 (latest es c f p) f p es → LastIs 1 (latest (es ++ e ∷ []) c f p) f p (es ++ e ∷ [])
last_other c f p es e q m h = subst (λ i. LastIs 1 i f p (es ++ e ∷ [])) (sym (latest_stays c f p es e q)) (last_entry 1 (latest es c f p) f p es e m h)

-- an entry of a client, of a write or a patch, touches the pages of which it is an entry
touches_as : (c : ClientId) (life : Life) (g : FileId) (q : PageNo) (f : FileId) (p : PageNo) (ch : logged.Change) → ev.changes_page ch ≡ true → ev.is_entry_of c f p (log.pending (owner c life g q) ch) ≡ false → matters f p (log.pending (owner c life g q) ch) ≡ false
touches_as c life g q f p ch k e = go ch k
  where
    place : (same_file g f && same_page q p) ≡ false
    place = ap (λ b. b && (same_file g f && same_page q p)) (sym (eq-eqb c.0 c.0 refl)) ∙ e

    go : (ch : logged.Change) → ev.changes_page ch ≡ true → matters f p (log.pending (owner c life g q) ch) ≡ false
    go (changes.Write bytes) k = and_left (same_file g f && same_page q p) true place
    go (changes.Patch at bytes) k = and_left (same_file g f && same_page q p) true place
    go changes.Cut k = cc k

-- one more entry of a client's page
pub last_joined : (c : ClientId) (life : Life) (g : FileId) (q : PageNo) (ch : logged.Change) (f : FileId) (p : PageNo) (es : List LogEntry) → ev.changes_page ch ≡ true → (b : Bool) → ev.is_entry_of c f p (log.pending (owner c life g q) ch) ≡ b →
    (b ≡ false → LastIs 1 (latest es c f p) f p es) → LastIs 1 (latest (es ++ log.pending (owner c life g q) ch ∷ []) c f p) f p (es ++ log.pending (owner c life g q) ch ∷ [])
last_joined c life g q ch f p es k true e h = last_own c f p es (log.pending (owner c life g q) ch) e
last_joined c life g q ch f p es k false e h = last_other c f p es (log.pending (owner c life g q) ch) e (touches_as c life g q f p ch k e) (h refl)

-- What a change adds to the log.
pub record AddsOne (c : ClientId) (t : Turn) (f : FileId) (p : PageNo) (es gs : List LogEntry) : Type 0 where
  pub change : logged.Change
  pub kind : ev.changes_page change ≡ true
  pub log : gs ≡ es ++ log.pending (owner c t.here.life f p) change ∷ []

abbrev pub Logs : (c : ClientId) (now : Stamp) (t u : Turn) → Change now t u → (es gs : List LogEntry) → Type 0
Logs c now t _ (Writes _ s f p bytes n e sv own m h) es gs = AddsOne c t f p es gs
Logs c now t u ch es gs = gs ≡ es

last_written : (c : ClientId) (a : Association) (f : FileId) (p : PageNo) (bytes : List ℕ) (cs : List PageCommand) (es : List LogEntry) (ch : logged.Change) → ev.changes_page ch ≡ true → f.server ≡ a.server → LatestLast c es a →
    LatestLast c (es ++ log.pending (owner c a.life f p) ch ∷ []) (record a { store = record a.store { pages = pages.written a.store.pages f.ino p bytes; commands = cs } })
unfolding pages.written
last_written c a f p bytes cs es ch k sv h = λ ino q d i. at ino q d i (Place_is f.ino p ino q) refl
  where
    e : LogEntry
    e = log.pending (owner c a.life f p) ch

    new : DirtyPage
    new = pages.new_dirty a.store.pages f.ino p bytes

    at : (ino : ℕ) (q : PageNo) (d : DirtyPage) → find (pages.is_dirty_of ino q) (put (pages.is_dirty_of f.ino p) new a.store.pages.dirty) ≡ Some d → (b : Bool) → Place_is f.ino p ino q ≡ b →
        LastIs 1 (latest (es ++ log.pending (owner c a.life f p) ch ∷ []) c (file_at a ino) q) (file_at a ino) q (es ++ log.pending (owner c a.life f p) ch ∷ [])
    at ino q d i true z =
        let o = one_place f.ino p ino q z in
        last_own c (file_at a ino) q es (log.pending (owner c a.life f p) ch)
        (subst (λ j. ev.is_entry_of c (file_at a j) q (log.pending (owner c a.life f p) ch) ≡ true) o.0 (subst (λ r. ev.is_entry_of c (file_at a f.ino) r (log.pending (owner c a.life f p) ch) ≡ true) o.1 (self_entry c a f p ch sv)))
    at ino q d i false z =
        last_joined c a.life f p ch (file_at a ino) q es k (ev.is_entry_of c (file_at a ino) q (log.pending (owner c a.life f p) ch)) refl
        (λ y. h ino q d (sym (dirty_put new a.store.pages.dirty ino q false z) ∙ i))

moved : (c : ClientId) (a : Association) (es gs : List LogEntry) → gs ≡ es → LatestLast c es a → LatestLast c gs a
moved c a es gs e h = subst (λ x. LatestLast c x a) (sym e) h

pub change_last : (c : ClientId) (now : Stamp) (t u : Turn) (ch : Change now t u) (es gs : List LogEntry) → Logs c now t u ch es gs → LatestLast c es t.here → LatestLast c gs u.here
unfolding cp.submit_read cp.submit_write cp.submit_command pages.forget_from pages.drop_from
change_last c now t _ (Says _ o p) es gs z h = moved c t.here es gs z h
change_last c now t _ (Operates _ os) es gs z h = moved c t.here es gs z h
change_last c now t _ (Answers _ os ops a) es gs z h = moved c t.here es gs z h
change_last c now t _ (Greets _ g) es gs z h = subst (λ x. LatestLast c x t.here) (sym z) h
change_last c now t _ (TellsLost _ lost) es gs z h = subst (λ x. LatestLast c x t.here) (sym z) h
change_last c now t _ (Begins _ s e b n) es gs z h = subst (λ x. LatestLast c x t.here) (sym z) h
change_last c now t _ (Follows _ s v e g) es gs z h = subst (λ x. LatestLast c x t.here) (sym z) h
change_last c now t _ (Learns _ e v n) es gs z h = subst (λ x. LatestLast c x t.here) (sym z) h
change_last c now t _ (Forgets _ ino p i) es gs z h = subst (λ x. LatestLast c x t.here) (sym z) h
change_last c now t _ (Caches _ clean) es gs z h = subst (λ x. LatestLast c x t.here) (sym z) h
change_last c now t _ (Writes _ s f p bytes n e sv own m x) es gs z h =
    subst (λ y. LatestLast c y (cp.with_pages_changed (pages.written t.here.store.pages f.ino p bytes) f.ino p t).here) (sym z.log) (last_written c t.here f p bytes (pages.forget_read t.here.store.commands f.ino p) es z.change z.kind own h)
change_last c now t _ (Reads _ ino p m i clean) es gs z h = subst (λ x. LatestLast c x t.here) (sym z) h
change_last c now t _ (Submits _ s ino p d m e i k w) es gs z h = subst (λ x. LatestLast c x t.here) (sym z) h

-- a change at another server
entry_apart : (c : ClientId) (t : Turn) (f : FileId) (p : PageNo) (es gs : List LogEntry) (b : Association) → f.server ≡ t.here.server → (b.server.0 ≡ t.here.server.0 → ⊥) → AddsOne c t f p es gs → LatestLast c es b → LatestLast c gs b
entry_apart c t f p es gs b own n z h =
    subst (λ x. LatestLast c x b) (sym z.log)
    (λ ino q d i. last_joined c t.here.life f p z.change (file_at b ino) q es z.kind false (none ino q) (λ y. h ino q d i))
  where
    none : (ino : ℕ) (q : PageNo) → ev.is_entry_of c (file_at b ino) q (log.pending (owner c t.here.life f p) z.change) ≡ false
    none ino q = go (same_client c c) (same_server f.server b.server) (f.ino == ino) (same_page p q) (ne_eqb f.server.0 b.server.0 (λ e. n (sym e ∙ ap (λ (s : ServerId). s.0) own)))
      where
        go : (x y u v : Bool) → y ≡ false → (x && ((y && u) && v)) ≡ false
        go true false u v e = refl
        go true true u v e = cc
        go false y u v e = refl

pub change_apart : (c : ClientId) (now : Stamp) (t u : Turn) (ch : Change now t u) (es gs : List LogEntry) (b : Association) → (b.server.0 ≡ t.here.server.0 → ⊥) → Logs c now t u ch es gs → LatestLast c es b → LatestLast c gs b
change_apart c now t _ (Says _ o p) es gs b n z h = moved c b es gs z h
change_apart c now t _ (Operates _ os) es gs b n z h = moved c b es gs z h
change_apart c now t _ (Answers _ os ops a) es gs b n z h = moved c b es gs z h
change_apart c now t _ (Greets _ g) es gs b n z h = moved c b es gs z h
change_apart c now t _ (TellsLost _ lost) es gs b n z h = moved c b es gs z h
change_apart c now t _ (Begins _ s e y m) es gs b n z h = moved c b es gs z h
change_apart c now t _ (Follows _ s v e g) es gs b n z h = moved c b es gs z h
change_apart c now t _ (Learns _ e v m) es gs b n z h = moved c b es gs z h
change_apart c now t _ (Forgets _ ino p i) es gs b n z h = moved c b es gs z h
change_apart c now t _ (Caches _ clean) es gs b n z h = moved c b es gs z h
change_apart c now t _ (Writes _ s f p bytes m e sv own k x) es gs b n z h = entry_apart c t f p es gs b own n z h
change_apart c now t _ (Reads _ ino p m i clean) es gs b n z h = moved c b es gs z h
change_apart c now t _ (Submits _ s ino p d m e i k w) es gs b n z h = moved c b es gs z h

-- The end of a command: what is dirty was dirty.
pub ends_last : (c : ClientId) (number : ℕ) (ok : Bool) (t u : Turn) → Ends number ok t u → (es : List LogEntry) → LatestLast c es t.here → LatestLast c es u.here
unfolding cl.hardened pages.harden pages.harden_at pages.harden_page pages.fail pages.failed_by
ends_last c number ok t _ Unknown es h = h
ends_last c number ok t _ (Passes pc e o) es h = h
ends_last c number ok t _ (Hardens pc v e o k w) es h = λ ino p d i. let z = old ino p d (pages.dirty_of t.here.store.pages pc.ino pc.page) i in h ino p z.0 z.1
  where
    old : (ino : ℕ) (p : PageNo) (d : DirtyPage) (o : Option DirtyPage) → pages.dirty_of (pages.harden_at t.here.store.pages o) ino p ≡ Some d → (x : DirtyPage) × (pages.dirty_of t.here.store.pages ino p ≡ Some x)
    old ino p d None i = (d, i)
    old ino p d (Some x) i = found_fewer (pages.is_dirty_of ino p) _ t.here.store.pages.dirty d i
ends_last c number ok t _ (Fails pc v e o k w) es h = λ ino p d i. let z = failed_found pc.ino pc.page pc.number ino p t.here.store.pages.dirty d i in h ino p z.0 z.1
