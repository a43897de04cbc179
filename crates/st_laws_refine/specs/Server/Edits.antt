-- A server's step, as changes one after another: what each of them leaves, and what the rule that makes it has found. What
-- each change keeps, a whole step keeps.
use Rattle.std.specs.Prelude.{◌≡◌, ℕ, ◌≤◌, ◌<◌, ◌⊎◌, Bool, true, false, not, List, [], ◌∷◌, find, Some, None, Ok, Err, is_some}
use Rattle.std.specs.List.{list_any}
use Rattle.st_base.specs.declared.ids.ClientId.{ClientId}
use Rattle.st_base.specs.declared.ids.FileId.{FileId}
use Rattle.st_base.specs.declared.ids.GrantNo.{GrantNo}
use Rattle.st_base.specs.declared.ids.Life.{Life}
use Rattle.st_base.specs.declared.ids.PageNo.{PageNo}
use Rattle.st_base.specs.declared.ids.Stamp.{Stamp}
use Rattle.st_base.specs.declared.mode.Mode.{Mode}
use Rattle.st_base.specs.Mode.{number_of}
use Rattle.st_messages.specs.declared.message.Message.{Message}
use Rattle.st_messages.specs.declared.message.Body.{Body}
use Rattle.st_messages.specs.declared.message.Body.TheVariants as bodies
use Rattle.st_messages.specs.declared.message.NameOp.TheVariants.{Remove}
use Rattle.st_messages.specs.declared.output.Note.TheVariants as notes
use Rattle.st_messages.specs.declared.output.Output.{Output}
use Rattle.st_messages.specs.declared.output.Output.TheVariants as outputs
use Rattle.st_rules.specs.declared.input.ServerInput.{ServerInput}
use Rattle.st_rules.specs.declared.input.ServerInput.TheVariants.{Tick, Control}
use Rattle.st_rules.specs.declared.locks.LockRow.{LockRow}
use Rattle.st_rules.specs.declared.locks.RowDemand.{RowDemand}
use Rattle.st_rules.specs.declared.locks.Waiter.{Waiter}
use Rattle.st_rules.specs.declared.authority.AcceptRefusal.{AcceptRefusal}
use Rattle.st_rules.specs.declared.sessions.Session.{Session}
use Rattle.st_rules.specs.declared.sessions.SessionState.TheVariants.{Live}
use Rattle.st_rules.specs.Locks as locks
use Rattle.st_rules.specs.Locks.{Locks, demand_now, is_under, is_wait_on, row_of, stands_against, waits_besides, first_conflict, with_rows, grant, queue, release_to, with_demand}
use Rattle.st_rules.specs.Sessions as sessions
use Rattle.st_rules.specs.Authority as authority
use Rattle.st_rules.specs.Grace as grace
use Rattle.st_rules.specs.Keys.{server_node}
use Rattle.st_rules.specs.Extents.{Extents}
use Rattle.st_rules.specs.Names as names
use Rattle.st_rules.specs.Names.{Names}
use Rattle.st_rules.specs.Server.{ServerState, ServerTurn, turn, with_sessions, with_locks, with_authority, with_names, with_extents, note, reply, tell, sender, life_in, thefts, steal_from, suspect_client, keep_and_reply, refused_reassertion, is_client_node, is_tick}
use Rattle.st_rules.specs.Dating.{refuses_client, is_request, may_date}
use Rattle.st_rules.specs.Safety.{is_conflict}
use Rattle.st_lemmas.specs.Lists.{Has}
use Rattle.st_trace.specs.Server.Edits.{NoSends}

-- each row of a reassertion has a mode
abbrev pub AllSome : List (ℕ × GrantNo × Mode) → Type 0
AllSome rows = (r : ℕ × GrantNo × Mode) → Has r rows → 1 ≤ number_of r.2

-- a request asks for a lock in some mode, and reasserts locks that have a mode
abbrev pub Wish : Body → Type 0
Wish (bodies.Acquire i m) = 1 ≤ number_of m
Wish (bodies.Reassert rows) = AllSome rows
Wish b = Unit {0}

-- a client's message that comes does so
abbrev pub WishInput : ServerInput → Type 0
WishInput Tick = Unit {0}
WishInput (Control m) = is_client_node m.header.from ≡ true → Wish m.body

-- the client has a session, or a row
abbrev pub KnownClient : ServerState → ClientId → Type 0
KnownClient s c = (is_some (sessions.session_of s.sessions c) ≡ true) ⊎ ((r : LockRow) × Has r s.locks.rows × (r.client ≡ c))

-- a reply that a session may keep: an answer, or a refusal of what was asked and not of the client
abbrev pub is_kept : Body → Bool
is_kept bodies.Ack = true
is_kept bodies.Reasserted = true
is_kept (bodies.Granted ino g mode) = true
is_kept (bodies.Queued ino mode) = true
is_kept (bodies.Extents ino rows) = true
is_kept (bodies.Named r) = true
is_kept (bodies.Nack w a b) = not (refuses_client w)
is_kept b = false

-- A reply to a request of a client that isn't a suspect, or one that dates no lease; and no conflict.
pub record ReplyOk (s : ServerState) (m : Message) (b : Body) : Type 0 where
  pub calm : is_conflict b ≡ false
  pub free : may_date m.header.number b ≡ true → authority.may_ack s.authority (sender m.header) ≡ true
  pub request : is_request m.body ≡ true

-- What an acquired lock makes of the table: outside grace a grant if no row conflicts with it and nobody else waits, or a wait.
pub data Acquired (graced : Bool) (l : Locks) (c : ClientId) (life : Life) (ino : ℕ) (mode : Mode) : Locks → Type 0 where
  AtOnce : graced ≡ false → 1 ≤ number_of mode → list_any (stands_against c ino mode) l.rows ≡ false →
      list_any (waits_besides c ino) l.waiters ≡ false →
      Acquired graced l c life ino mode (grant l c life ino mode)
  InTurn : 1 ≤ number_of mode → Acquired graced l c life ino mode (queue l c life ino mode)

-- A reassertion of a new life, in grace and right after the thefts.
pub record InGrace (n : ServerState) (now : Stamp) (t : ServerTurn) (m : Message) (rows : List (ℕ × GrantNo × Mode)) : Type 0 where
  pub from : is_client_node m.header.from ≡ true
  pub there : m.header.to ≡ server_node t.state.id
  pub body : m.body ≡ bodies.Reassert rows
  pub first : t ≡ thefts (turn n []) now
  pub on : grace.is_on t.state.grace now ≡ true
  pub epoch : m.header.epoch ≡ t.state.stable.epoch.0
  pub new : sessions.knows t.state.sessions (sender m.header) (life_in m.header) ≡ false

-- One change of a step that began in the state n, at a moment and with an input.
pub data Edit (n : ServerState) (now : Stamp) (i : ServerInput) : ServerTurn → ServerTurn → Type 0 where
  -- the timers that are over are taken out, and their clients' locks are stolen
  TakesTimers : (t : ServerTurn) → t ≡ turn n [] → Edit n now i t (with_authority (authority.still_running t.state.authority now) t)
  Steals : (t : ServerTurn) (c : ClientId) (s : Session) → Has c (authority.over n.authority now) → sessions.session_of t.state.sessions c ≡ Some s →
      Edit n now i t (steal_from t c s)
  -- a client's timer starts
  Suspects : (t : ServerTurn) (c : ClientId) → NoSends t.out → authority.may_ack t.state.authority c ≡ true → KnownClient t.state c →
      Edit n now i t (suspect_client t now c)
  -- a session begins, loses its waits, keeps a reply
  Begins : (t : ServerTurn) (c : ClientId) (life : Life) → Edit n now i t (with_sessions (sessions.with_new_session c life t.state.sessions) t)
  DropsWaits : (t : ServerTurn) (m : Message) (s : Session) → i ≡ Control m → m.body ≡ bodies.Hello →
      sessions.session_of (thefts (turn n []) now).state.sessions (sender m.header) ≡ Some s → s.life.0 < m.header.life →
      Edit n now i t (with_locks (locks.drop_waits t.state.locks (sender m.header)) t)
  Keeps : (t : ServerTurn) (c : ClientId) (number : ℕ) (b : Body) → is_kept b ≡ true →
      Edit n now i t (with_sessions (sessions.store t.state.sessions c number b) t)
  -- a reassertion is accepted
  Reasserts : (t : ServerTurn) (m : Message) (rows : List (ℕ × GrantNo × Mode)) → i ≡ Control m → AllSome rows → InGrace n now t m rows →
      first_conflict t.state.locks (sender m.header) rows ≡ None →
      Edit n now i t
      (with_sessions (sessions.reasserted t.state.sessions (sender m.header) (life_in m.header))
      (with_locks (with_rows t.state.locks (sender m.header) (life_in m.header) rows) t))
  -- the lock table
  Sees : (t : ServerTurn) (m : Message) (ino : ℕ) (g : GrantNo) → i ≡ Control m → t ≡ thefts (turn n []) now → m.body ≡ bodies.DemandSeen ino g →
      Edit n now i t (with_locks (locks.demand_seen t.state.locks (sender m.header) ino g) t)
  Acquires : (t : ServerTurn) (m : Message) (ino : ℕ) (mode : Mode) (l : Locks) (b : Body) (s : Session) → i ≡ Control m → t ≡ thefts (turn n []) now →
      m.body ≡ bodies.Acquire ino mode →
      sessions.session_of t.state.sessions (sender m.header) ≡ Some s → s.life.0 ≡ m.header.life → ReplyOk t.state m b → is_kept b ≡ true →
      Acquired (grace.is_on t.state.grace now) t.state.locks (sender m.header) (life_in m.header) ino mode l →
      Edit n now i t (keep_and_reply (with_locks l t) m.header b)
  Releases : (t : ServerTurn) (m : Message) (ino : ℕ) (g : GrantNo) (to : Mode) (r : LockRow) → i ≡ Control m → t ≡ thefts (turn n []) now →
      m.body ≡ bodies.Released ino g to →
      row_of t.state.locks (sender m.header) ino ≡ Some r → is_under (life_in m.header) g r ≡ true →
      Edit n now i t (with_locks (release_to t.state.locks (sender m.header) ino to) t)
  DropsFile : (t : ServerTurn) (m : Message) (dir : ℕ) (name : List ℕ) (g : GrantNo) (ino : ℕ) → i ≡ Control m →
      m.body ≡ bodies.Name (Remove dir name g) →
      names.lookup (thefts (turn n []) now).state.stable.names dir name ≡ Ok ino →
      Edit n now i t (with_locks (locks.drop_file_waits t.state.locks ino) t)
  Grants : (t : ServerTurn) (w : Waiter) → grace.is_on t.state.grace now ≡ false → Has w t.state.locks.waiters →
      find (is_wait_on w.ino) t.state.locks.waiters ≡ Some w →
      list_any (stands_against w.client w.ino w.mode) t.state.locks.rows ≡ false →
      Edit n now i t (with_locks (grant t.state.locks w.client w.life w.ino w.mode) t)
  Demands : (t : ServerTurn) (r : LockRow) (x : RowDemand) (to : Mode) → row_of t.state.locks r.client r.ino ≡ Some r →
      demand_now t.state.config now (is_tick i) to r.demand ≡ Some x → Edit n now i t (with_locks (with_demand r x t.state.locks) t)
  -- names and pages
  NamesChange : (t : ServerTurn) (v : Names) → Edit n now i t (with_names v t)
  ExtentsChange : (t : ServerTurn) (v : Extents) → Edit n now i t (with_extents v t)
  Cuts : (t : ServerTurn) (f : FileId) (p : PageNo) → Edit n now i t (note t (notes.CutDone f p))
  -- what is sent
  Replies : (t : ServerTurn) (m : Message) (b : Body) → i ≡ Control m → ReplyOk t.state m b → Edit n now i t (reply t m.header b)
  Repeats : (t : ServerTurn) (m : Message) (s : Session) (last : ℕ) (b : Body) → i ≡ Control m → is_request m.body ≡ true →
      authority.may_ack t.state.authority (sender m.header) ≡ true → sessions.session_of t.state.sessions (sender m.header) ≡ Some s →
      s.state ≡ Live last (Some b) → Edit n now i t (reply t m.header b)
  Refuses : (t : ServerTurn) (m : Message) (rows : List (ℕ × GrantNo × Mode)) (r : AcceptRefusal) → i ≡ Control m →
      authority.may_ack t.state.authority (sender m.header) ≡ true → InGrace n now t m rows →
      grace.accept t.state.grace now (sender m.header) (life_in m.header) rows t.state.locks t.state.sessions ≡ Err r →
      Edit n now i t (reply t m.header (refused_reassertion r))
  TellsGrant : (t : ServerTurn) (c : ClientId) (life : Life) (ino : ℕ) (g : GrantNo) (mode : Mode) → Edit n now i t (tell t c life (bodies.Granted ino g mode))
  TellsDemand : (t : ServerTurn) (c : ClientId) (life : Life) (ino : ℕ) (g : GrantNo) (mode : Mode) → Edit n now i t (tell t c life (bodies.Demand ino g mode))
