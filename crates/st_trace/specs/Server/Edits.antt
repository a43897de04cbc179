-- A server's step, as changes one after another: what each of them leaves, and why: what the rule that makes it has found.
use Rattle.std.specs.Prelude.{◌≡◌, ℕ, ◌+◌, ◌<◌, ◌==◌, Bool, true, false, List, [], ◌∷◌, find, Option, Some, None, Ok, Err}
use Rattle.std.specs.List.{list_any}
use Rattle.st_base.specs.declared.ids.ClientId.{ClientId}
use Rattle.st_base.specs.declared.ids.GrantNo.{GrantNo}
use Rattle.st_base.specs.declared.ids.Life.{Life}
use Rattle.st_base.specs.declared.ids.PageNo.{PageNo}
use Rattle.st_base.specs.declared.ids.Stamp.{Stamp}
use Rattle.st_base.specs.declared.mode.Mode.{Mode}
use Rattle.st_base.specs.declared.mode.Mode.TheVariants as modes
use Rattle.st_base.specs.declared.names.NameRow.{NameRow}
use Rattle.st_base.specs.Mode.{covers}
use Rattle.st_messages.specs.declared.message.Header.{Header}
use Rattle.st_messages.specs.declared.message.Message.{Message}
use Rattle.st_messages.specs.declared.message.Body.{Body}
use Rattle.st_messages.specs.declared.message.Body.TheVariants as bodies
use Rattle.st_messages.specs.declared.message.NameOp.{NameOp}
use Rattle.st_messages.specs.declared.message.NameOp.TheVariants as ops
use Rattle.st_messages.specs.declared.message.NameReply.TheVariants as replies
use Rattle.st_messages.specs.declared.message.Why.TheVariants as why
use Rattle.st_messages.specs.declared.output.Output.{Output}
use Rattle.st_messages.specs.declared.output.Output.TheVariants as outputs
use Rattle.st_rules.specs.declared.authority.AcceptRefusal.{AcceptRefusal}
use Rattle.st_rules.specs.declared.extents.AllocateRefusal.TheVariants.{NoSpace}
use Rattle.st_rules.specs.declared.input.ServerInput.{ServerInput}
use Rattle.st_rules.specs.declared.input.ServerInput.TheVariants.{Tick, Control}
use Rattle.st_rules.specs.declared.locks.LockRow.{LockRow}
use Rattle.st_rules.specs.declared.locks.RowDemand.{RowDemand}
use Rattle.st_rules.specs.declared.locks.Verdict.TheVariants as verdicts
use Rattle.st_rules.specs.declared.locks.Waiter.{Waiter}
use Rattle.st_rules.specs.declared.names.EntryRefusal.{EntryRefusal}
use Rattle.st_rules.specs.declared.names.EntryRefusal.TheVariants.{IsDir}
use Rattle.st_rules.specs.declared.sessions.Session.{Session}
use Rattle.st_rules.specs.declared.sessions.SessionState.TheVariants.{Live}
use Rattle.st_rules.specs.declared.sessions.Taken.TheVariants as takes
use Rattle.st_rules.specs.Authority as authority
use Rattle.st_rules.specs.Dating.{is_request}
use Rattle.st_rules.specs.Extents as extents
use Rattle.st_rules.specs.Extents.{Extents}
use Rattle.st_rules.specs.Grace as grace
use Rattle.st_rules.specs.Keys.{server_node}
use Rattle.st_rules.specs.Locks as locks
use Rattle.st_rules.specs.Locks.{Locks, demand_now, first_conflict, grant, in_the_way, is_overdue, is_under, is_wait_on, may_grant, next_grant, queue}
use Rattle.st_rules.specs.Locks.{release_to, row_of, stands_against, to_demand, waits_besides, wish, with_demand, with_rows}
use Rattle.st_rules.specs.Names as names
use Rattle.st_rules.specs.Names.{Names}
use Rattle.st_rules.specs.Server as sv
use Rattle.st_rules.specs.Server.{ServerState, ServerTurn, turn, with_sessions, with_locks, with_authority, with_names, with_extents, reply, tell, sender}
use Rattle.st_rules.specs.Server.{life_in, thefts, steal_from, suspect_client, keep_and_reply, cut_pages, cut_whole, refused_reassertion, is_client_node}
use Rattle.st_rules.specs.Server.{is_tick}
use Rattle.st_rules.specs.Sessions as sessions
use Rattle.st_lemmas.specs.Lists.{Has}

-- no message was sent yet
abbrev pub NoSends : List Output → Type 0
NoSends [] = Unit {0}
NoSends (outputs.Send m ∷ os) = ⊥
NoSends (o ∷ os) = NoSends os

-- What the thefts leave of a server: all but its timers, its sessions and its locks; each session that lives and each row was there before;
-- and they send nothing.
pub record Begun (n : ServerState) (t : ServerTurn) : Type 0 where
  pub id : t.state.id ≡ n.id
  pub config : t.state.config ≡ n.config
  pub stable : t.state.stable ≡ n.stable
  pub grace : t.state.grace ≡ n.grace
  pub sessions : (c : ClientId) (y : Session) → sessions.session_of t.state.sessions c ≡ Some y → sessions.is_live y ≡ true →
      sessions.session_of n.sessions c ≡ Some y
  pub rows : (c : ClientId) (ino : ℕ) (r : LockRow) → row_of t.state.locks c ino ≡ Some r → row_of n.locks c ino ≡ Some r
  pub quiet : NoSends t.out

-- A client's message to this server comes, right after the thefts.
pub record CameOf (clients : ℕ → Bool) (n : ServerState) (now : Stamp) (i : ServerInput) (t : ServerTurn) (m : Message) : Type 0 where
  pub is : i ≡ Control m
  pub first : t ≡ thefts (turn n []) now
  pub begun : Begun n t
  pub from : clients m.header.from ≡ true
  pub there : m.header.to ≡ server_node t.state.id

-- and the client isn't a suspect
pub record HeardOf (clients : ℕ → Bool) (n : ServerState) (now : Stamp) (i : ServerInput) (t : ServerTurn) (m : Message) : Type 0 where
  pub came : CameOf clients n now i t m
  pub free : authority.may_ack t.state.authority (sender m.header) ≡ true

-- it greets, outside grace
pub record GreetedOf (clients : ℕ → Bool) (n : ServerState) (now : Stamp) (i : ServerInput) (t : ServerTurn) (m : Message) : Type 0 where
  pub heard : HeardOf clients n now i t m
  pub asks : m.body ≡ bodies.Hello
  pub off : grace.is_on t.state.grace now ≡ false

-- it asks for something in this epoch
pub record AskedOf (clients : ℕ → Bool) (n : ServerState) (now : Stamp) (i : ServerInput) (t : ServerTurn) (m : Message) : Type 0 where
  pub heard : HeardOf clients n now i t m
  pub request : is_request m.body ≡ true
  pub epoch : m.header.epoch ≡ t.state.stable.epoch.0

-- in the life of its client's living session
pub record InLife (t : ServerTurn) (h : Header) : Type 0 where
  pub session : Session
  pub is : sessions.session_of t.state.sessions (sender h) ≡ Some session
  pub of_life : session.life.0 ≡ h.life
  pub last : ℕ
  pub old : Option Body
  pub state : session.state ≡ Live last old

-- and it is the next one of its session
pub record ServedOf (clients : ℕ → Bool) (n : ServerState) (now : Stamp) (i : ServerInput) (t : ServerTurn) (m : Message) : Type 0 where
  pub asked : AskedOf clients n now i t m
  pub fresh : sv.take t m.header ≡ takes.Fresh
  pub in_life : InLife t m.header
  pub next : m.header.number ≡ in_life.last + 1

-- it reasserts locks in a life that is new
pub record ReassertedOf (clients : ℕ → Bool) (n : ServerState) (now : Stamp) (i : ServerInput) (t : ServerTurn) (m : Message) (rows : List (ℕ × GrantNo × Mode))
    : Type 0 where
  pub asked : AskedOf clients n now i t m
  pub asks : m.body ≡ bodies.Reassert rows
  pub new : sessions.knows t.state.sessions (sender m.header) (life_in m.header) ≡ false

-- What is asked of names, and why it is refused.
pub data NameRefused (n : Names) : NameOp → EntryRefusal → Type 0 where
  NoLookup : (dir : ℕ) (x : List ℕ) (r : EntryRefusal) → names.lookup n dir x ≡ Err r → NameRefused n (ops.Lookup dir x) r
  NoCreate : (dir : ℕ) (x : List ℕ) (r : EntryRefusal) → names.create n dir x ≡ Err r → NameRefused n (ops.Create dir x) r
  NoMkdir : (dir : ℕ) (x : List ℕ) (r : EntryRefusal) → names.mkdir n dir x ≡ Err r → NameRefused n (ops.Mkdir dir x) r
  NoRename : (dir : ℕ) (x : List ℕ) (dir2 : ℕ) (x2 : List ℕ) (r : EntryRefusal) → names.rename n dir x dir2 x2 ≡ Err r →
      NameRefused n (ops.Rename dir x dir2 x2) r
  NoList : (dir : ℕ) (after : List ℕ) (r : EntryRefusal) → names.list n dir after ≡ Err r → NameRefused n (ops.List dir after) r
  NoEntry : (dir : ℕ) (x : List ℕ) (g : GrantNo) (r : EntryRefusal) → names.lookup n dir x ≡ Err r → NameRefused n (ops.Remove dir x g) r
  NoRemove : (dir : ℕ) (x : List ℕ) (g : GrantNo) (ino : ℕ) (r : EntryRefusal) → names.lookup n dir x ≡ Ok ino → names.remove n dir x ≡ Err r →
      NameRefused n (ops.Remove dir x g) r
  IsFolder : (dir : ℕ) (x : List ℕ) (g : GrantNo) (ino : ℕ) → names.lookup n dir x ≡ Ok ino → names.is_file n ino ≡ false → (g.0 == 0) ≡ false →
      NameRefused n (ops.Remove dir x g) IsDir

-- the file that a request is about
abbrev pub file_in : Body → Option ℕ
file_in (bodies.Acquire ino mode) = Some ino
file_in (bodies.Map ino g p) = Some ino
file_in (bodies.Allocate ino g p count) = Some ino
file_in (bodies.Cut ino g p) = Some ino
file_in b = None

-- the lock that a request wants its client to hold
abbrev pub lock_in : Body → Option (ℕ × GrantNo × Mode)
lock_in (bodies.Map ino g p) = Some (ino, g, modes.S)
lock_in (bodies.Allocate ino g p count) = Some (ino, g, modes.X)
lock_in (bodies.Cut ino g p) = Some (ino, g, modes.X)
lock_in b = None

-- An answer to what is asked that leaves all as it was.
pub data Told (t : ServerTurn) (h : Header) : Body → Body → Type 0 where
  IsAlive : Told t h bodies.KeepAlive bodies.Ack
  IsHeld : (ino : ℕ) (mode : Mode) (r : LockRow) → names.is_file t.state.stable.names ino ≡ true → row_of t.state.locks (sender h) ino ≡ Some r →
      covers r.mode mode ≡ true →
      Told t h (bodies.Acquire ino mode) (bodies.Granted ino r.g r.mode)
  HasTooMany : (ino : ℕ) (mode : Mode) → names.is_file t.state.stable.names ino ≡ true → row_of t.state.locks (sender h) ino ≡ None →
      locks.has_place t.state.locks (sender h) ino ≡ false →
      Told t h (bodies.Acquire ino mode) (bodies.Nack why.TooManyLocks t.state.locks.limit 0)
  HasNoRow : (ino : ℕ) (g : GrantNo) (to : Mode) → ((r : LockRow) → row_of t.state.locks (sender h) ino ≡ Some r → is_under (life_in h) g r ≡ false) →
      Told t h (bodies.Released ino g to) bodies.Ack
  IsMapped : (ino : ℕ) (g : GrantNo) (p : PageNo) → names.is_file t.state.stable.names ino ≡ true → sv.holds t h ino g modes.S ≡ true →
      Told t h (bodies.Map ino g p) (sv.extents_body t ino p 1)
  IsNoFile : (b : Body) (ino : ℕ) → file_in b ≡ Some ino → names.is_file t.state.stable.names ino ≡ false → Told t h b (bodies.Nack why.NoFile ino 0)
  HoldsNot : (b : Body) (ino : ℕ) (g : GrantNo) (mode : Mode) → lock_in b ≡ Some (ino, g, mode) → names.is_file t.state.stable.names ino ≡ true →
      sv.holds t h ino g mode ≡ false →
      Told t h b (bodies.Nack why.NotHolder ino g.0)
  HasNoSpace : (ino : ℕ) (g : GrantNo) (p : PageNo) (count free wanted : ℕ) → names.is_file t.state.stable.names ino ≡ true →
      sv.holds t h ino g modes.X ≡ true →
      extents.allocate t.state.stable.extents (sv.file t ino) p count ≡ Err (NoSpace free wanted) →
      Told t h (bodies.Allocate ino g p count) (bodies.Nack why.NoSpace free wanted)
  IsNamed : (dir : ℕ) (x : List ℕ) (ino : ℕ) → names.lookup t.state.stable.names dir x ≡ Ok ino →
      Told t h (bodies.Name (ops.Lookup dir x)) (bodies.Named (replies.Ino ino))
  AreListed : (dir : ℕ) (after : List ℕ) (rows : List NameRow) → names.list t.state.stable.names dir after ≡ Ok rows →
      Told t h (bodies.Name (ops.List dir after)) (bodies.Named (replies.Listed rows))
  IsRefused : (op : NameOp) (r : EntryRefusal) → NameRefused t.state.stable.names op r →
      Told t h (bodies.Name op) (bodies.Named (replies.Refused (names.code_of r)))
  RemovesNot : (dir : ℕ) (x : List ℕ) (g : GrantNo) (ino : ℕ) → names.lookup t.state.stable.names dir x ≡ Ok ino →
      names.is_file t.state.stable.names ino ≡ true →
      sv.holds t h ino g modes.X ≡ false → Told t h (bodies.Name (ops.Remove dir x g)) (bodies.Nack why.NotHolder ino g.0)

-- What becomes of a lock that is asked for: a grant outside grace if no row conflicts with it and nobody else waits, or a wait.
pub data Gets (grants : Bool) (l : Locks) (c : ClientId) (life : Life) (ino : ℕ) (mode : Mode) : locks.Acquired → Type 0 where
  AtOnce : grants ≡ true → list_any (stands_against c ino mode) l.rows ≡ false → list_any (waits_besides c ino) l.waiters ≡ false →
      Gets grants l c life ino mode (record { locks = grant l c life ino mode; verdict = verdicts.Granted (next_grant l) mode })
  InTurn : may_grant l c ino mode grants ≡ false →
      Gets grants l c life ino mode (record { locks = queue l c life ino mode; verdict = verdicts.Queued (in_the_way l c ino mode) })

-- The client has no lock on the file that covers the mode, and has place for one more if it has none.
pub record Lacks (l : Locks) (c : ClientId) (ino : ℕ) (mode : Mode) : Type 0 where
  pub covered : (r : LockRow) → row_of l c ino ≡ Some r → covers r.mode mode ≡ false
  pub place : row_of l c ino ≡ None → locks.has_place l c ino ≡ true

-- What the rule of a request makes of the turn, and its reply: one constructor a rule that changes something.
pub data Ruled (now : Stamp) (t : ServerTurn) (h : Header) : Body → ServerTurn → Body → Type 0 where
  Tells : (b r : Body) → Told t h b r → Ruled now t h b t r
  Acquires : (ino : ℕ) (mode : Mode) (a : locks.Acquired) → names.is_file t.state.stable.names ino ≡ true → Lacks t.state.locks (sender h) ino mode →
      Gets (sv.grants_now t now) t.state.locks (sender h) (life_in h) ino mode a →
      Ruled now t h (bodies.Acquire ino mode) (with_locks a.locks t) (sv.verdict_body ino mode a.verdict)
  Releases : (ino : ℕ) (g : GrantNo) (to : Mode) (r : LockRow) → row_of t.state.locks (sender h) ino ≡ Some r → is_under (life_in h) g r ≡ true →
      Ruled now t h (bodies.Released ino g to) (with_locks (release_to t.state.locks (sender h) ino to) t) bodies.Ack
  Allocates : (ino : ℕ) (g : GrantNo) (p : PageNo) (count : ℕ) (x : Extents) → names.is_file t.state.stable.names ino ≡ true →
      sv.holds t h ino g modes.X ≡ true →
      extents.allocate t.state.stable.extents (sv.file t ino) p count ≡ Ok x →
      Ruled now t h (bodies.Allocate ino g p count) (with_extents x t) (sv.extents_body (with_extents x t) ino p count)
  Cuts : (ino : ℕ) (g : GrantNo) (p : PageNo) → names.is_file t.state.stable.names ino ≡ true → sv.holds t h ino g modes.X ≡ true →
      Ruled now t h (bodies.Cut ino g p) (cut_pages t ino p) bodies.Ack
  Creates : (dir : ℕ) (x : List ℕ) (d : names.Changed) → names.create t.state.stable.names dir x ≡ Ok d →
      Ruled now t h (bodies.Name (ops.Create dir x)) (with_names d.names t) (bodies.Named (replies.Ino d.ino))
  MakesDir : (dir : ℕ) (x : List ℕ) (d : names.Changed) → names.mkdir t.state.stable.names dir x ≡ Ok d →
      Ruled now t h (bodies.Name (ops.Mkdir dir x)) (with_names d.names t) (bodies.Named (replies.Ino d.ino))
  Renames : (dir : ℕ) (x : List ℕ) (dir2 : ℕ) (x2 : List ℕ) (d : names.Changed) → names.rename t.state.stable.names dir x dir2 x2 ≡ Ok d →
      Ruled now t h (bodies.Name (ops.Rename dir x dir2 x2)) (with_names d.names t) (bodies.Named (replies.Ino d.ino))
  RemovesDir : (dir : ℕ) (x : List ℕ) (g : GrantNo) (ino : ℕ) (d : names.Changed) → names.lookup t.state.stable.names dir x ≡ Ok ino →
      names.is_file t.state.stable.names ino ≡ false →
      (g.0 == 0) ≡ true → names.remove t.state.stable.names dir x ≡ Ok d → d.ino ≡ ino →
      Ruled now t h (bodies.Name (ops.Remove dir x g)) (with_names d.names t) (bodies.Named (replies.Ino d.ino))
  RemovesFile : (dir : ℕ) (x : List ℕ) (g : GrantNo) (ino : ℕ) (d : names.Changed) → names.lookup t.state.stable.names dir x ≡ Ok ino →
      names.is_file t.state.stable.names ino ≡ true →
      sv.holds t h ino g modes.X ≡ true → names.remove t.state.stable.names dir x ≡ Ok d → d.ino ≡ ino →
      Ruled now t h (bodies.Name (ops.Remove dir x g)) (cut_whole (with_names d.names t) d.ino) (bodies.Named (replies.Ino d.ino))

-- Why a message is refused with a reply that is not kept.
pub data RefusedOf (clients : ℕ → Bool) (n : ServerState) (now : Stamp) (i : ServerInput) (t : ServerTurn) (m : Message) : Body → Type 0 where
  IsSuspect : (start : Stamp) → CameOf clients n now i t m → is_request m.body ≡ true → authority.started t.state.authority (sender m.header) ≡ Some start →
      RefusedOf clients n now i t m (bodies.Nack why.Suspect start.0 0)
  GreetsInGrace : HeardOf clients n now i t m → m.body ≡ bodies.Hello → grace.is_on t.state.grace now ≡ true →
      RefusedOf clients n now i t m (bodies.Nack why.Grace (grace.grace_start t.state.grace).0 0)
  OfOtherEpoch : HeardOf clients n now i t m → is_request m.body ≡ true →
      RefusedOf clients n now i t m (bodies.Nack why.OtherEpoch m.header.epoch t.state.stable.epoch.0)
  HasNoSession : AskedOf clients n now i t m → sv.take t m.header ≡ takes.NoSession → RefusedOf clients n now i t m (bodies.Nack why.NoSession 0 0)
  IsRefusedRows : (rows : List (ℕ × GrantNo × Mode)) (r : AcceptRefusal) → ReassertedOf clients n now i t m rows →
      grace.accept t.state.grace now (sender m.header) (life_in m.header) rows t.state.locks t.state.sessions ≡ Err r →
      RefusedOf clients n now i t m (refused_reassertion r)

-- The parts of a step, in their order.
pub data Phase : Type 0 where
  AtThefts : Phase
  AtInput : Phase
  AtSuspicion : Phase
  AtGrants : Phase
  AtDemands : Phase

-- One change of a step that began in the state n, at a moment and with an input.
pub data EditOf (clients : ℕ → Bool) (n : ServerState) (now : Stamp) (i : ServerInput) : Phase → ServerTurn → ServerTurn → Type 0 where
  -- Before the input: the timers that are over are taken out, and their clients' locks are stolen.
  TakesTimers : (t : ServerTurn) → t ≡ turn n [] → EditOf clients n now i AtThefts t (with_authority (authority.still_running t.state.authority now) t)
  Steals : (t : ServerTurn) (c : ClientId) (s : Session) → Has c (authority.over n.authority now) → sessions.session_of t.state.sessions c ≡ Some s →
      EditOf clients n now i AtThefts t (steal_from t c s)
  -- The input: at most one of these, with its reply.
  Welcomes : (t : ServerTurn) (m : Message) (s : Session) → GreetedOf clients n now i t m → sessions.session_of t.state.sessions (sender m.header) ≡ Some s →
      sessions.is_live s ≡ true →
      s.life.0 ≡ m.header.life → EditOf clients n now i AtInput t (reply t m.header bodies.Welcome)
  Begins : (t : ServerTurn) (m : Message) → GreetedOf clients n now i t m →
      ((s : Session) → sessions.session_of t.state.sessions (sender m.header) ≡ Some s → (sessions.is_live s ≡ false) × (s.life.0 < m.header.life)) →
      EditOf clients n now i AtInput t
      (reply (with_sessions (sessions.with_new_session (sender m.header) (life_in m.header) t.state.sessions) t) m.header bodies.Welcome)
  Replaces : (t : ServerTurn) (m : Message) (s : Session) → GreetedOf clients n now i t m → sessions.session_of t.state.sessions (sender m.header) ≡ Some s →
      sessions.is_live s ≡ true →
      s.life.0 < m.header.life → locks.has_rows t.state.locks (sender m.header) ≡ false →
      EditOf clients n now i AtInput t
      (reply (with_locks (locks.drop_waits t.state.locks (sender m.header))
      (with_sessions (sessions.with_new_session (sender m.header) (life_in m.header) t.state.sessions) t))
      m.header bodies.Welcome)
  PutsOff : (t : ServerTurn) (m : Message) (s : Session) → GreetedOf clients n now i t m → sessions.session_of t.state.sessions (sender m.header) ≡ Some s →
      sessions.is_live s ≡ true →
      s.life.0 < m.header.life → locks.has_rows t.state.locks (sender m.header) ≡ true →
      EditOf clients n now i AtInput t (reply (suspect_client t now (sender m.header)) m.header (bodies.Nack why.Suspect now.0 0))
  Sees : (t : ServerTurn) (m : Message) (ino : ℕ) (g : GrantNo) → HeardOf clients n now i t m → m.body ≡ bodies.DemandSeen ino g →
      sv.is_served t m.header ≡ true →
      EditOf clients n now i AtInput t (with_locks (locks.demand_seen t.state.locks (sender m.header) ino g) t)
  Reasserts : (t : ServerTurn) (m : Message) (rows : List (ℕ × GrantNo × Mode)) → ReassertedOf clients n now i t m rows → grace.is_on t.state.grace now ≡ true →
      first_conflict t.state.locks (sender m.header) rows ≡ None →
      EditOf clients n now i AtInput t
      (reply (with_sessions (sessions.reasserted t.state.sessions (sender m.header) (life_in m.header))
      (with_locks (with_rows t.state.locks (sender m.header) (life_in m.header) rows) t)) m.header bodies.Reasserted)
  Serves : (t : ServerTurn) (m : Message) (u : ServerTurn) (b : Body) → ServedOf clients n now i t m → sv.rule t now m.header m.body ≡ sv.replied u b →
      Ruled now t m.header m.body u b →
      EditOf clients n now i AtInput t (keep_and_reply u m.header b)
  Repeats : (t : ServerTurn) (m : Message) (s : Session) (b : Body) → AskedOf clients n now i t m → sv.take t m.header ≡ takes.Again b →
      sessions.session_of t.state.sessions (sender m.header) ≡ Some s → s.life.0 ≡ m.header.life → s.state ≡ Live m.header.number (Some b) →
      EditOf clients n now i AtInput t (reply t m.header b)
  Refuses : (t : ServerTurn) (m : Message) (b : Body) → RefusedOf clients n now i t m b → EditOf clients n now i AtInput t (reply t m.header b)
  -- After the input: suspicion, grants and demands, each with its message.
  Suspects : (t : ServerTurn) (c : ClientId) (r : LockRow) → i ≡ Tick → NoSends t.out → authority.may_ack t.state.authority c ≡ true →
      Has r t.state.locks.rows → r.client ≡ c →
      is_overdue t.state.config now r ≡ true → EditOf clients n now i AtSuspicion t (suspect_client t now c)
  Grants : (t : ServerTurn) (w : Waiter) → grace.is_on t.state.grace now ≡ false → Has w t.state.locks.waiters →
      find (is_wait_on w.ino) t.state.locks.waiters ≡ Some w →
      list_any (stands_against w.client w.ino w.mode) t.state.locks.rows ≡ false →
      EditOf clients n now i AtGrants t (tell (with_locks (grant t.state.locks w.client w.life w.ino w.mode) t) w.client w.life
      (bodies.Granted w.ino (next_grant t.state.locks) w.mode))
  Demands : (t : ServerTurn) (w : Waiter) (r : LockRow) (x : RowDemand) → find (is_wait_on w.ino) t.state.locks.waiters ≡ Some w →
      Has r.client (to_demand t.state.locks (authority.suspects_of t.state.authority) w) → r.ino ≡ w.ino → row_of t.state.locks r.client r.ino ≡ Some r →
      demand_now t.state.config now (is_tick i) (wish w.mode) r.demand ≡ Some x →
      EditOf clients n now i AtDemands t (tell (with_locks (with_demand r x t.state.locks) t) r.client r.life (bodies.Demand r.ino r.g x.to))

-- The same in the first two forms, whose clients are the nodes 1 to 16.

-- a client's message comes
abbrev pub Came : ServerState → Stamp → ServerInput → ServerTurn → Message → Type 0
Came = CameOf is_client_node

-- the client isn't a suspect
abbrev pub Heard : ServerState → Stamp → ServerInput → ServerTurn → Message → Type 0
Heard = HeardOf is_client_node

-- it asks
abbrev pub Asked : ServerState → Stamp → ServerInput → ServerTurn → Message → Type 0
Asked = AskedOf is_client_node

-- its request is the next one
abbrev pub Served : ServerState → Stamp → ServerInput → ServerTurn → Message → Type 0
Served = ServedOf is_client_node

-- it reasserts locks
abbrev pub Reasserted : ServerState → Stamp → ServerInput → ServerTurn → Message → List (ℕ × GrantNo × Mode) → Type 0
Reasserted = ReassertedOf is_client_node

-- a message is refused
abbrev pub Refused : ServerState → Stamp → ServerInput → ServerTurn → Message → Body → Type 0
Refused = RefusedOf is_client_node

-- one change
abbrev pub Edit : ServerState → Stamp → ServerInput → Phase → ServerTurn → ServerTurn → Type 0
Edit = EditOf is_client_node
