-- What a client does with a message, at one server: each change with its cause.
use Rattle.std.specs.Prelude.{◌≡◌, ◌≤◌, ℕ, true, false, List, map, Option, Some, None}
use Rattle.st_base.specs.declared.ids.Epoch.{Epoch}
use Rattle.st_base.specs.declared.ids.GrantNo.{GrantNo}
use Rattle.st_base.specs.declared.ids.PageNo.{PageNo}
use Rattle.st_base.specs.declared.ids.Stamp.{Stamp}
use Rattle.st_base.specs.declared.mode.Mode.{Mode}
use Rattle.st_base.specs.declared.mode.Mode.TheVariants as modes
use Rattle.st_base.specs.declared.names.NameRow.{NameRow}
use Rattle.st_base.specs.declared.rows.ExtentRow.{ExtentRow}
use Rattle.st_base.specs.Mode.{covers}
use Rattle.st_messages.specs.declared.answer.AppAnswer.TheVariants as answers
use Rattle.st_messages.specs.declared.message.Body.{Body}
use Rattle.st_messages.specs.declared.message.Body.TheVariants as bodies
use Rattle.st_messages.specs.declared.message.Header.{Header}
use Rattle.st_messages.specs.declared.message.NameReply.{NameReply}
use Rattle.st_messages.specs.declared.message.NameReply.TheVariants as names
use Rattle.st_messages.specs.declared.message.Why.{Why}
use Rattle.st_messages.specs.declared.message.Why.TheVariants as why
use Rattle.st_messages.specs.declared.output.Note.TheVariants as notes
use Rattle.st_rules.specs.declared.client.Asked.TheVariants as demands
use Rattle.st_rules.specs.declared.client.HeldLock.{HeldLock}
use Rattle.st_rules.specs.declared.client.Request.{Request}
use Rattle.st_rules.specs.Dating.{may_date}
use Rattle.st_rules.specs.Keys.{server_node}
use Rattle.st_rules.specs.ClientLease as lease
use Rattle.st_rules.specs.ClientLocks as locks
use Rattle.st_rules.specs.ClientReplies as replies
use Rattle.st_rules.specs.ClientState as state
use Rattle.st_rules.specs.ClientState.{ClientSession, Turn, answer_each, forget_wait, note, send, with_cache, with_lease, with_operations, with_release}
use Rattle.st_rules.specs.ClientState.{with_session, with_store, with_wait}

-- the stamp and the epoch of a message
abbrev pub stamp_of : Header → Stamp
stamp_of h = record { 0 = h.stamp }

abbrev pub epoch_of : Header → Epoch
epoch_of h = record { 0 = h.epoch }

-- A message of this server comes in the client's life there, and is stamped no later than now.
pub record Received (now : Stamp) (h : Header) (t : Turn) : Type 0 where
  pub from : h.from ≡ server_node t.here.server
  pub life : h.life ≡ t.here.life.0
  pub stamp : h.stamp ≤ now.0

-- with a session
pub record Met (now : Stamp) (h : Header) (t : Turn) (s : ClientSession) : Type 0 where
  pub received : Received now h t
  pub session : t.here.session ≡ Some s

-- in the session's epoch
pub record Heard (now : Stamp) (h : Header) (t : Turn) (s : ClientSession) : Type 0 where
  pub received : Received now h t
  pub session : t.here.session ≡ Some s
  pub epoch : h.epoch ≡ s.epoch.0

-- A reply that ends the outstanding request: no refusal of the client or of its epoch, and no grant that answers no request.
pub record Replied (now : Stamp) (h : Header) (b : Body) (t : Turn) (s : ClientSession) (q : Request) : Type 0 where
  pub heard : Heard now h t s
  pub asked : s.requests.asked ≡ Some q
  pub number : q.number ≡ h.number
  pub fits : state.fits b q.body ≡ true
  pub dates : may_date h.number b ≡ true
  pub kept : replies.refuses_reassertion b q.body ≡ false

-- Why a lease is condemned.
pub data Condemns (h : Header) (s : ClientSession) : Body → Type 0 where
  IsSuspect : (a b : ℕ) → Condemns h s (bodies.Nack why.Suspect a b)
  HasNoSession : (a b : ℕ) → Condemns h s (bodies.Nack why.NoSession a b)
  IsAfterGrace : (a b : ℕ) → Condemns h s (bodies.Nack why.GraceOver a b)
  Conflicts : (a b : ℕ) → Condemns h s (bodies.Nack why.Conflict a b)
  RefusesLocks : (b : Body) (q : Request) → s.requests.asked ≡ Some q → replies.is_counting h.number b q ≡ true → replies.refuses_reassertion b q.body ≡ true →
      Condemns h s b

-- What becomes of a grant: it is installed, or declined if there is no place for it, or it is an old one.
pub data Grants (s : ClientSession) (ino : ℕ) (g : GrantNo) (mode : Mode) : ClientSession → Type 0 where
  Installs : locks.is_above_seen s.locks ino g ≡ true → locks.has_place s.locks ino ≡ true → Grants s ino g mode
      (with_cache (locks.installed s.locks ino g mode) s)
  Declines : locks.is_above_seen s.locks ino g ≡ true → locks.has_place s.locks ino ≡ false →
      Grants s ino g mode (with_release ino g modes.None (with_cache (locks.observe s.locks ino g) s))
  IsOld : locks.is_above_seen s.locks ino g ≡ false → Grants s ino g mode s

-- Why the server refused a request, and which operations are answered so: those of the request's file, of its page, or the one that asked.
pub data Refusal (t : Turn) (file : Option ℕ) (asked : Body) : Why → ℕ → ℕ → Turn → Type 0 where
  NoFile : (a b ino : ℕ) → file ≡ Some ino → Refusal t file asked why.NoFile a b (answer_each (replies.works_on t ino) answers.NoFile t)
  TooManyLocks : (a b ino : ℕ) → file ≡ Some ino → Refusal t file asked why.TooManyLocks a b (answer_each (replies.works_on t ino) answers.TooManyLocks t)
  NoSpace : (a b ino : ℕ) (p : PageNo) → file ≡ Some ino → state.page_asked asked ≡ Some p →
      Refusal t file asked why.NoSpace a b (answer_each (replies.writes_on t ino p) (answers.NoSpace a b) t)
  NotHolder : (a b : ℕ) → state.asks_cut_or_remove asked ≡ true →
      Refusal t file asked why.NotHolder a b (answer_each (state.is_asked t.here.server) answers.NotHolder t)
  AnswersNone : (w : Why) (a b : ℕ) → Refusal t file asked w a b t

-- the operation of a refused request that is still pending is stuck
abbrev pub left_stuck : Turn → Turn
left_stuck t = with_operations (map (replies.stuck t) t.operations) t

-- Why a reply about a name takes no lock from the client: no file was removed, or its lock was not held.
pub data DropsNone (s : ClientSession) (file : Option ℕ) : NameReply → Type 0 where
  HasNoFile : (ino : ℕ) → file ≡ None → DropsNone s file (names.Ino ino)
  HoldsNone : (ino removed : ℕ) → file ≡ Some removed → locks.lock_of s.locks removed ≡ None → DropsNone s file (names.Ino ino)
  IsListed : (rows : List NameRow) → DropsNone s file (names.Listed rows)
  IsRefused : (code : ℕ) → DropsNone s file (names.Refused code)

-- What a reply does beside ending its request: by the reply and by what was asked.
pub data Effect (now : Stamp) (t : Turn) (s : ClientSession) (file : Option ℕ) (asked : Body) : Body → Turn → Type 0 where
  IsGranted : (ino : ℕ) (g : GrantNo) (mode : Mode) (v : ClientSession) → Grants (forget_wait ino s) ino g mode v →
      Effect now t s file asked (bodies.Granted ino g mode) (with_session v t)
  IsQueued : (ino : ℕ) (mode : Mode) → covers (locks.mode_of s.locks ino) mode ≡ false →
      Effect now t s file asked (bodies.Queued ino mode) (with_session (record s { waits = with_wait (replies.told_wait ino mode now) s.waits }) t)
  HoldsAlready : (ino : ℕ) (mode : Mode) → covers (locks.mode_of s.locks ino) mode ≡ true → Effect now t s file asked (bodies.Queued ino mode)
      (with_session s t)
  IsToldExtents : (ino : ℕ) (rows : List ExtentRow) → replies.is_current s.locks asked ≡ true →
      Effect now t s file asked (bodies.Extents ino rows) (with_store (replies.learned ino rows asked t.here.store) t)
  IsToldLate : (ino : ℕ) (rows : List ExtentRow) → replies.is_current s.locks asked ≡ false → Effect now t s file asked (bodies.Extents ino rows) t
  IsAcknowledged : Effect now t s file asked bodies.Ack (answer_each (state.is_asked t.here.server) answers.Cut t)
  IsNamed : (r : NameReply) → DropsNone s file r → Effect now t s file asked (bodies.Named r)
      (answer_each (state.is_asked t.here.server) (replies.name_answer r) t)
  -- of a file that was removed the lock goes, and its release goes last
  IsRemoved : (ino removed : ℕ) (l : HeldLock) → file ≡ Some removed → locks.lock_of s.locks removed ≡ Some l →
      Effect now t s file asked (bodies.Named (names.Ino ino))
      (with_session (with_release removed l.g modes.None (with_cache (locks.drop_lock s.locks removed) s))
      (answer_each (state.is_asked t.here.server) (answers.Named ino) t))
  IsReasserted : Effect now t s file asked bodies.Reasserted (with_session (record s { due = false }) t)
  IsRefused : (w : Why) (a b : ℕ) (u : Turn) → Refusal t file asked w a b u → Effect now t s file asked (bodies.Nack w a b) (left_stuck u)

-- A reply renews the lease if it is not condemned and the reply's stamp is later, with a note.
pub data Renews (t : Turn) (s : ClientSession) (stamp : Stamp) : Turn → Type 0 where
  IsLater : lease.is_renewal stamp s.lease ≡ true →
      Renews t s stamp (note t (notes.Leased t.here.server (lease.end_of t.config (lease.renewed stamp s.lease))))
  IsNoLater : lease.is_renewal stamp s.lease ≡ false → Renews t s stamp t

-- What a client does with a message.
pub data Receives (now : Stamp) (h : Header) (t : Turn) : Body → Turn → Type 0 where
  PassesOver : (b : Body) → Receives now h t b t
  -- a session begins, with a note of its lease
  Begins : Received now h t → t.here.session ≡ None → replies.is_timely t now (stamp_of h) ≡ true →
      Receives now h t bodies.Welcome
      (note (replies.begin_here (replies.new_session (epoch_of h) (stamp_of h)) t)
      (notes.Leased t.here.server (lease.end_of t.config (lease.new_lease (stamp_of h)))))
  -- the server's epoch is a newer one, and the operation of the outstanding request is uncertain
  FollowsEpoch : (s : ClientSession) (a b : ℕ) → Met now h t s → replies.is_newer s (epoch_of h) ≡ true →
      Receives now h t (bodies.Nack why.OtherEpoch a b)
      (answer_each (state.is_asked t.here.server) (answers.Uncertain s.epoch.0 h.epoch) (with_session (replies.in_epoch (epoch_of h) s) t))
  IsCondemned : (b : Body) (s : ClientSession) → Heard now h t s → Condemns h s b → Receives now h t b (with_session (with_lease (lease.condemned s.lease) s) t)
  -- a grant that answers no request
  IsGrantedLater : (ino : ℕ) (g : GrantNo) (mode : Mode) (s v : ClientSession) → Heard now h t s → h.number ≡ 0 → Grants (forget_wait ino s) ino g mode v →
      Receives now h t (bodies.Granted ino g mode) (with_session v t)
  -- a demand is seen, or the file is given up that is not held
  SeesDemand : (ino : ℕ) (g : GrantNo) (to : Mode) (s : ClientSession) → Heard now h t s → (locks.demand s.locks ino g to).asked ≡ demands.Reduce →
      Receives now h t (bodies.Demand ino g to) (send (with_session (with_cache (locks.demand s.locks ino g to).locks s) t) s.epoch.0 0 0
      (bodies.DemandSeen ino g))
  GivesUp : (ino : ℕ) (g : GrantNo) (to : Mode) (s : ClientSession) → Heard now h t s → (locks.demand s.locks ino g to).asked ≡ demands.NotHeld →
      replies.has_release (with_cache (locks.demand s.locks ino g to).locks s) ino g ≡ false →
      Receives now h t (bodies.Demand ino g to) (with_session (with_release ino g modes.None (with_cache (locks.demand s.locks ino g to).locks s)) t)
  HasGivenUp : (ino : ℕ) (g : GrantNo) (to : Mode) (s : ClientSession) → Heard now h t s → (locks.demand s.locks ino g to).asked ≡ demands.NotHeld →
      replies.has_release (with_cache (locks.demand s.locks ino g to).locks s) ino g ≡ true →
      Receives now h t (bodies.Demand ino g to) (with_session (with_cache (locks.demand s.locks ino g to).locks s) t)
  -- a reply ends the outstanding request, renews the lease, and has its effect
  IsAnswered : (b : Body) (s : ClientSession) (q : Request) (v u : Turn) → Replied now h b t s q → Renews t s (stamp_of h) v →
      Effect now (with_session (replies.ended_by (stamp_of h) s) v) (replies.ended_by (stamp_of h) s) (state.file_asked s.cutting q.body) q.body b u →
      Receives now h t b u
