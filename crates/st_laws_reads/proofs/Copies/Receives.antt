-- What a message does keeps the pages as the log has them, under what its sender owes.
use Rattle.st_lemmas.proofs.Words
use Words.{◌≡◌, ℕ, ◌≤◌, Bool, true, false, not, List, [], ◌∷◌, Option, Some, None, refl, sym, ap, ◌∙◌, subst, if◌then◌else◌, find, filter, map, ClientId}
use Words.{ServerId, Life, GrantNo, PageNo, Stamp, ExtentRow, Mode, nat_le, Ask, AppAnswer, Body, NameReply, Why, Output, HeldLock, Operation, LogEntry}
use Words.modes
use Words.stages
use Words.Page.{filled}
use Words.answers
use Words.bodies
use Words.replies
use Words.why
use Words.outputs
use Words.FlatLog.{content}
use Words.ClientLease as lease
use Words.ClientLocks as locks
use Words.ClientLocks.{lock_of, is_lock_on, held_lock}
use Words.ClientPages as pages
use Words.ClientState as st
use Words.ClientState.{ClientSession, Turn, with_session, with_store, answer_each, is_asked}
use Words.ClientReplies as cr
use Rattle.st_base.specs.Mode.{number_of, covers}
use Rattle.st_protocol.specs.Assoc.{Lock}
use Rattle.st_laws_refine.specs.Views.Halves.{held_at, held_in}
use Rattle.st_laws_refine.specs.Client.World.{logged}
use Rattle.st_laws_reads.specs.Copies.Copies.{RightOne, RightBehind, PageOk, Nothing, AskedSo, file_at, Keeps}
use Rattle.st_laws_reads.proofs.Copies.Logs.{still}
use Rattle.st_laws_refine.proofs.Client.Replies.{lock_set, lock_cut}
use Rattle.st_protocol.proofs.Lists.{upd_all}
use Rattle.st_laws_reads.proofs.Copies.Copies.{copies_kept_by_same, copies_kept_by_sequence, copies_kept_by_choice, copies_kept_by_aside}
use Rattle.st_laws_reads.proofs.Copies.Caches.{nothing_ok, copies_kept_by_session, copies_kept_by_granted, copies_kept_by_known}

module _ (ask_of : ℕ → Option Ask) (c : ClientId) (lives : ServerId → Life) (es : List LogEntry) where
  -- answers that owe nothing
  abbrev Harmless : AppAnswer → Type 0
  Harmless a = (last : Option Output) (x : List LogEntry) (op : ℕ) → RightOne ask_of c lives last x (outputs.Answer op a)

  pub copies_kept_by_each : (picked : Operation → Bool) (a : AppAnswer) (t : Turn) → Harmless a → Keeps ask_of c lives es t (answer_each picked a t)
  unfolding answer_each
  copies_kept_by_each picked a t h =
      copies_kept_by_aside ask_of c lives es t (filter (λ o. not (picked o)) t.operations) t.next_command _ (quiet (filter picked t.operations))
      (λ r. right (filter picked t.operations) _ (logged c lives t.out es)) (kept t.operations)
    where
      quiet : (os : List Operation) (l : List LogEntry) → logged c lives (map (st.answer_to a) os) l ≡ l
      quiet [] l = refl
      quiet (o ∷ os) l = quiet os l

      right : (os : List Operation) (last : Option Output) (l : List LogEntry) → RightBehind ask_of c lives last l (map (st.answer_to a) os)
      right [] last l = record {}
      right (o ∷ os) last l = record { one = h last l o.op; rest = right os _ l }

      kept : (os : List Operation) → AskedSo ask_of os → AskedSo ask_of (filter (λ o. not (picked o)) os)
      kept [] r = r
      kept (o ∷ os) r = go (not (picked o)) (kept os r.rest)
        where
          go : (b : Bool) → AskedSo ask_of (filter (λ o. not (picked o)) os) →
              AskedSo ask_of (if b then o ∷ filter (λ o. not (picked o)) os else filter (λ o. not (picked o)) os)
          go true q = record { one = r.one; rest = q }
          go false q = q

  pub copies_kept_by_like : (t : Turn) (s s2 : ClientSession) → s2.locks.rows ≡ s.locks.rows → Keeps ask_of c lives es (with_session s t) (with_session s2 t)
  copies_kept_by_like t s s2 e = copies_kept_by_session ask_of c lives es t s s2
      (λ now j q r. subst (λ rows. PageOk (held_at (find (is_lock_on j) rows)).mode now t.here.store j q) (sym e) r)

  pub copies_kept_by_lease : (t : Turn) (l : lease.ClientLease) → Keeps ask_of c lives es t (cr.note_lease l t)
  unfolding cr.note_lease
  copies_kept_by_lease t l = copies_kept_by_aside ask_of c lives es t t.operations t.next_command _ (λ x. refl)
      (λ r. record { one = record {}; rest = record {} }) (λ a. a)

  pub copies_kept_by_condemn : (t : Turn) (s : ClientSession) → Keeps ask_of c lives es (with_session s t) (cr.condemn (with_session s t) s)
  unfolding cr.condemn
  copies_kept_by_condemn t s = copies_kept_by_like t s _ refl

  -- a demand leaves every mode
  pub copies_kept_by_demand : (t : Turn) (s : ClientSession) (ino : ℕ) (g : GrantNo) (to : Mode) →
      Keeps ask_of c lives es (with_session s t) (cr.demand (with_session s t) s ino g to)
  unfolding cr.demand cr.demand_by cr.demand_as cr.release_unheld cr.observe_demand st.send locks.demand locks.demand_at locks.demand_unheld locks.demand_held
      locks.demand_lock locks.demand_stale locks.observe
  copies_kept_by_demand t s ino g to = go (lock_of s.locks ino) refl
    where
      v : ClientSession
      v = st.with_cache (locks.observe s.locks ino (locks.greater_grant (locks.seen_of s.locks ino) g)) s

      unheld : (b : Bool) → Keeps ask_of c lives es (with_session s t) (with_session (if b then v else st.with_release ino g modes.None v) t)
      unheld true = copies_kept_by_like t s v refl
      unheld false = copies_kept_by_like t s (st.with_release ino g modes.None v) refl

      held : (l : HeldLock) → lock_of s.locks ino ≡ Some l → (b : Bool) →
          Keeps ask_of c lives es (with_session s t)
          (cr.demand_by (with_session s t) s ino g (if b then locks.demand_lock s.locks ino g to l else locks.demand_stale s.locks))
      held l e false = copies_kept_by_same ask_of c lives es (with_session s t)
      held l e true =
          let u : ClientSession = st.with_cache (locks.demand_lock s.locks ino g to l).locks s in
          copies_kept_by_sequence ask_of c lives es (with_session s t) (with_session u t) _
          (copies_kept_by_session ask_of c lives es t s u
          (λ now j q r. subst (λ h. PageOk h now t.here.store j q)
          (sym (ap (λ (m : Lock). m.mode) (lock_set s.locks.rows (held_lock ino g l.mode) j)
          ∙ upd_all (λ j (m : Lock). m.mode ≡ (held_at (lock_of s.locks j)).mode) (λ d. held_at (lock_of s.locks d)) ino
          (record { g = g.0; mode = number_of l.mode }) (sym (ap (λ o. (held_at o).mode) e)) (λ d n. refl) j)) r))
          (copies_kept_by_aside ask_of c lives es (with_session u t) t.operations t.next_command _ (λ x. refl)
          (λ r. record { one = record {}; rest = record {} }) (λ a. a))

      go : (o : Option HeldLock) → lock_of s.locks ino ≡ o →
          Keeps ask_of c lives es (with_session s t) (cr.demand_by (with_session s t) s ino g (locks.demand_at s.locks ino g to o))
      go None e = unheld (cr.has_release v ino g)
      go (Some l) e = held l e (nat_le l.g.0 g.0)

  -- told rows
  copies_kept_by_rows : (ino : ℕ) (rows : List ExtentRow) (t : Turn) → 1 ≤ (held_in t.here.session ino).mode →
      Keeps ask_of c lives es t (with_store (cr.with_extents_known ino rows t.here.store) t)
  unfolding pages.with_known_rows
  copies_kept_by_rows ino [] t l = copies_kept_by_same ask_of c lives es t
  copies_kept_by_rows ino (r ∷ rs) t l =
      let u : Turn = with_store (record t.here.store { extents = pages.with_known (pages.known_row ino r) t.here.store.extents }) t in
      copies_kept_by_sequence ask_of c lives es t u _ (copies_kept_by_known ask_of c lives es t (pages.known_row ino r) l (λ e. cc))
      (copies_kept_by_rows ino rs u l)

  copies_kept_by_learned : (t : Turn) (ino : ℕ) (rows : List ExtentRow) (asked : Body) → 1 ≤ (held_in t.here.session ino).mode →
      ((i : ℕ) (g : GrantNo) (p : PageNo) → asked ≡ bodies.Map i g p → rows ≡ [] → filled 0 ≡ content (logged c lives t.out es) (file_at t.here.server ino) p) →
      Keeps ask_of c lives es t (with_store (cr.learned ino rows asked t.here.store) t)
  copies_kept_by_learned t ino rows (bodies.Map i g p) l zero = go rows refl
    where
      go : (x : List ExtentRow) → rows ≡ x → Keeps ask_of c lives es t (with_store (cr.learn_map ino p x t.here.store) t)
      go [] e = copies_kept_by_known ask_of c lives es t (pages.known_unmapped ino p) l (λ m. zero i g p refl e)
      go (r ∷ rs) e = copies_kept_by_rows ino (r ∷ rs) t l
  copies_kept_by_learned t ino rows asked l zero = copies_kept_by_rows ino rows t l

  -- a lock of a file of which nothing is left goes
  copies_kept_by_dropped : (t : Turn) (s : ClientSession) (ino : ℕ) (l : HeldLock) → ((p : PageNo) → Nothing t.here.store ino p) →
      Keeps ask_of c lives es (with_session s t) (cr.drop_lock (with_session s t) s ino l)
  unfolding cr.drop_lock locks.drop_lock
  copies_kept_by_dropped t s ino l none =
      copies_kept_by_session ask_of c lives es t s (st.with_release ino l.g modes.None (st.with_cache (locks.drop_lock s.locks ino) s))
      (λ now j q r. subst (λ h. PageOk h now t.here.store j q) (sym (ap (λ (m : Lock). m.mode) (lock_cut s.locks.rows ino j)))
      (upd_all (λ j (m : Lock). PageOk (held_in (Some s) j).mode now t.here.store j q → PageOk m.mode now t.here.store j q) (λ d. held_at (lock_of s.locks d))
      ino _
      (λ r. nothing_ok 0 now t.here.store ino q (none q)) (λ d n r. r) j r))

  -- what the sender of a reply owes, and what holds of the request
  pub record Owed (t : Turn) (s : ClientSession) (reply asked : Body) (file : Option ℕ) : Type 0 where
    pub up : (ino : ℕ) (g : GrantNo) (mode : Mode) → reply ≡ bodies.Granted ino g mode → locks.is_above_seen s.locks ino g ≡ true →
        (held_at (lock_of s.locks ino)).mode ≤ number_of mode
    pub held : (ino : ℕ) (rows : List ExtentRow) → reply ≡ bodies.Extents ino rows → cr.is_current s.locks asked ≡ true →
        1 ≤ (held_at (lock_of s.locks ino)).mode
    pub zero : (ino : ℕ) (rows : List ExtentRow) → reply ≡ bodies.Extents ino rows → cr.is_current s.locks asked ≡ true → (i : ℕ) (g : GrantNo) (p : PageNo) →
        asked ≡ bodies.Map i g p → rows ≡ [] → filled 0 ≡ content (logged c lives t.out es) (file_at t.here.server ino) p
    pub none : (r : NameReply) (ino : ℕ) → reply ≡ bodies.Named r → file ≡ Some ino → (p : PageNo) → Nothing t.here.store ino p

  copies_kept_by_named : (t : Turn) (s : ClientSession) (file : Option ℕ) (reply : NameReply) →
      ((ino : ℕ) → file ≡ Some ino → (p : PageNo) → Nothing t.here.store ino p) →
      Keeps ask_of c lives es (with_session s t) (cr.named (with_session s t) s file reply)
  unfolding cr.named cr.named_as cr.removed cr.drop_held answer_each
  copies_kept_by_named t s file reply none = copies_kept_by_sequence ask_of c lives es (with_session s t) (with_session s t2) _
      (copies_kept_by_each (is_asked t.here.server) (cr.name_answer reply) (with_session s t) (harmless reply)) (go reply)
    where
      t2 : Turn
      t2 = answer_each (is_asked t.here.server) (cr.name_answer reply) t

      harmless : (r : NameReply) → Harmless (cr.name_answer r)
      harmless (replies.Ino ino) last x op = record {}
      harmless (replies.Listed rows) last x op = record {}
      harmless (replies.Refused code) last x op = record {}

      lock : (ino : ℕ) → file ≡ Some ino → (o : Option HeldLock) → lock_of s.locks ino ≡ o →
          Keeps ask_of c lives es (with_session s t2) (cr.drop_held (with_session s t2) s ino o)
      lock ino f None e = copies_kept_by_same ask_of c lives es (with_session s t2)
      lock ino f (Some l) e = copies_kept_by_dropped t2 s ino l (none ino f)

      gone : (o : Option ℕ) → file ≡ o → Keeps ask_of c lives es (with_session s t2) (cr.removed (with_session s t2) s o)
      gone None f = copies_kept_by_same ask_of c lives es (with_session s t2)
      gone (Some ino) f = lock ino f (lock_of s.locks ino) refl

      go : (y : NameReply) → Keeps ask_of c lives es (with_session s t2) (cr.named_as (with_session s t2) s file y)
      go (replies.Ino ino) = gone file refl
      go y = copies_kept_by_same ask_of c lives es (with_session s t2)

  copies_kept_by_refuse_as : (t : Turn) (w : Why) (a b : ℕ) (file : Option ℕ) (asked : Body) → Keeps ask_of c lives es t (cr.refuse_as t w a b file asked)
  unfolding cr.refuse_as cr.refuse_file cr.refuse_page cr.refuse_holder
  copies_kept_by_refuse_as t why.NoFile a b None asked = copies_kept_by_same ask_of c lives es t
  copies_kept_by_refuse_as t why.NoFile a b (Some ino) asked = copies_kept_by_each (cr.works_on t ino) answers.NoFile t (λ last x op. record {})
  copies_kept_by_refuse_as t why.TooManyLocks a b None asked = copies_kept_by_same ask_of c lives es t
  copies_kept_by_refuse_as t why.TooManyLocks a b (Some ino) asked = copies_kept_by_each (cr.works_on t ino) answers.TooManyLocks t (λ last x op. record {})
  copies_kept_by_refuse_as t why.NoSpace a b file asked = page file (st.page_asked asked)
    where
      page : (f : Option ℕ) (p : Option PageNo) → Keeps ask_of c lives es t (cr.refuse_page t (answers.NoSpace a b) f p)
      page (Some ino) (Some p) = copies_kept_by_each (cr.writes_on t ino p) (answers.NoSpace a b) t (λ last x op. record {})
      page None p = copies_kept_by_same ask_of c lives es t
      page (Some ino) None = copies_kept_by_same ask_of c lives es t
  copies_kept_by_refuse_as t why.NotHolder a b file asked =
      copies_kept_by_choice ask_of c lives es t (st.asks_cut_or_remove asked) _ t
      (λ h. copies_kept_by_each (is_asked t.here.server) answers.NotHolder t (λ last x op. record {})) (λ h. copies_kept_by_same ask_of c lives es t)
  copies_kept_by_refuse_as t other a b file asked = copies_kept_by_same ask_of c lives es t

  marked : (f : Operation → Operation) → ((o : Operation) → ((f o).op ≡ o.op) × ((f o).ask ≡ o.ask)) → (os : List Operation) → AskedSo ask_of os →
      AskedSo ask_of (map f os)
  marked f h [] r = r
  marked f h (o ∷ os) r = record { one = ap ask_of (h o).0 ∙ r.one ∙ ap (λ a. Some a) (sym (h o).1); rest = marked f h os r.rest }

  copies_kept_by_refused : (t : Turn) (w : Why) (a b : ℕ) (file : Option ℕ) (asked : Body) → Keeps ask_of c lives es t (cr.refused t w a b file asked)
  unfolding cr.refused cr.leave_stuck
  copies_kept_by_refused t w a b file asked =
      let u : Turn = cr.refuse_as t w a b file asked in
      copies_kept_by_sequence ask_of c lives es t u _ (copies_kept_by_refuse_as t w a b file asked)
      (record {
        keep =
            λ r. record
            { pages = r.pages; right = r.right; asked = marked (cr.stuck u) (λ o. same u o (is_asked u.here.server o)) u.operations r.asked; fates = r.fates };
        away = still _ _ _;
      })
    where
      same : (u : Turn) (o : Operation) (b : Bool) → ((if b then st.at_stage stages.Stuck o else o).op ≡ o.op) ×
          ((if b then st.at_stage stages.Stuck o else o).ask ≡ o.ask)
      same u o true = (refl, refl)
      same u o false = (refl, refl)

  pub copies_kept_by_effect : (t : Turn) (s : ClientSession) (n : Stamp) (reply : Body) (file : Option ℕ) (asked : Body) → Owed t s reply asked file →
      Keeps ask_of c lives es (with_session s t) (cr.effect (with_session s t) s n reply file asked)
  unfolding cr.effect cr.acknowledged cr.queued cr.wait_unless_held cr.wait_told cr.extents cr.learn cr.reasserted
  copies_kept_by_effect t s n (bodies.Granted ino g mode) file asked w = copies_kept_by_granted ask_of c lives es t s ino g mode (w.up ino g mode refl)
  copies_kept_by_effect t s n (bodies.Queued ino mode) file asked w = waits (covers (locks.mode_of s.locks ino) mode)
    where
      waits : (b : Bool) → Keeps ask_of c lives es (with_session s t) (with_session (if b then s else cr.wait_told s ino mode n) t)
      waits true = copies_kept_by_same ask_of c lives es (with_session s t)
      waits false = copies_kept_by_like t s _ refl
  copies_kept_by_effect t s n (bodies.Extents ino rows) file asked w =
      copies_kept_by_choice ask_of c lives es (with_session s t) (cr.is_current s.locks asked) _ _
      (λ h. copies_kept_by_learned (with_session s t) ino rows asked (w.held ino rows refl h) (w.zero ino rows refl h))
      (λ h. copies_kept_by_same ask_of c lives es (with_session s t))
  copies_kept_by_effect t s n bodies.Ack file asked w = copies_kept_by_each (is_asked t.here.server) answers.Cut (with_session s t) (λ last x op. record {})
  copies_kept_by_effect t s n (bodies.Named reply) file asked w = copies_kept_by_named t s file reply (λ ino. w.none reply ino refl)
  copies_kept_by_effect t s n bodies.Reasserted file asked w = copies_kept_by_like t s _ refl
  copies_kept_by_effect t s n (bodies.Nack x y z) file asked w = copies_kept_by_refused (with_session s t) x y z file asked
  copies_kept_by_effect t s n reply file asked w = copies_kept_by_same ask_of c lives es (with_session s t)
