-- What always holds of a server: whatever it keeps fits into a message, and its rows and waits are of lives that its clients'
-- sessions have.
use Rattle.std.specs.Prelude.{◌≡◌, ◌≤◌, ◌^◌, ◌-◌, ℕ, Bool, true, false, ◌&&◌, Option, Some, None}
use Rattle.std.specs.List.{list_all}
use Rattle.st_base.specs.declared.ids.Epoch.{Epoch}
use Rattle.st_base.specs.declared.ids.GrantNo.{GrantNo}
use Rattle.st_base.specs.declared.ids.Life.{Life}
use Rattle.st_base.specs.declared.ids.ClientId.{ClientId}
use Rattle.st_base.specs.declared.mode.Mode.{Mode}
use Rattle.st_messages.specs.declared.kind.Need.TheVariants.{Positive}
use Rattle.st_messages.specs.declared.message.Body.{Body}
use Rattle.st_messages.specs.declared.message.Body.TheVariants as bodies
use Rattle.st_messages.specs.declared.output.Output.{Output}
use Rattle.st_messages.specs.declared.output.Output.TheVariants as outputs
use Rattle.st_messages.specs.Kinds.{allows, between, is_word64}
use Rattle.st_messages.specs.Ranges.{fits, has_length, is_block, is_body, is_grant, is_ino, is_mode}
use Rattle.st_rules.specs.declared.authority.Suspect.{Suspect}
use Rattle.st_rules.specs.declared.extents.Extent.{Extent}
use Rattle.st_rules.specs.declared.locks.LockRow.{LockRow}
use Rattle.st_rules.specs.declared.locks.RowDemand.{RowDemand}
use Rattle.st_rules.specs.declared.locks.Waiter.{Waiter}
use Rattle.st_rules.specs.declared.names.NameEntry.{NameEntry}
use Rattle.st_rules.specs.declared.sessions.Session.{Session}
use Rattle.st_rules.specs.declared.sessions.SessionState.{SessionState}
use Rattle.st_rules.specs.declared.sessions.SessionState.TheVariants.{Live, Ended}
use Rattle.st_rules.specs.Extents.{Extents}
use Rattle.st_rules.specs.Grace.{grace_start}
use Rattle.st_rules.specs.Locks.{Locks}
use Rattle.st_rules.specs.Names.{Names}
use Rattle.st_rules.specs.Server.{ServerState, is_client_node}
use Rattle.st_rules.specs.Sessions.{Sessions, session_of}
use Rattle.st_server.specs.RuleConditions.{is_lived, is_row_lived}
use Rattle.st_server.specs.Room.{taken_locks}

-- Locks.

-- a client, a life and a file can be told in a message
abbrev pub is_told : ClientId → Life → ℕ → Bool
is_told c life ino = is_client_node c.0 && (allows Positive life.0 && is_ino ino)

-- what is demanded can be told
abbrev pub is_told_demand : Option RowDemand → Bool
is_told_demand None = true
is_told_demand (Some d) = is_mode 0 1 d.to

-- what is held can be told
abbrev pub is_told_lock : GrantNo → Mode → Option RowDemand → Bool
is_told_lock g mode d = is_grant g && (is_mode 1 2 mode && is_told_demand d)

-- a row can be told, and belongs to a life that its client's session has
abbrev pub is_good_row : Sessions → LockRow → Bool
is_good_row t r = is_row_lived t r && (is_told r.client r.life r.ino && is_told_lock r.g r.mode r.demand)

-- a wait can be told, and belongs to a life that its client's session has
abbrev pub is_good_wait : Sessions → Waiter → Bool
is_good_wait t w = is_lived w.life (session_of t w.client) && (is_told w.client w.life w.ino && is_mode 1 2 w.mode)

-- the rows and waits of a lock table; grants and waits are at most this many
pub record AreHeld (n : ℕ) (of : Epoch) (t : Sessions) (l : Locks) : Type 0 where
  pub rows : list_all (is_good_row t) l.rows ≡ true
  pub waits : list_all (is_good_wait t) l.waiters ≡ true
  pub few : taken_locks l ≤ n
  pub epoch : l.epoch ≡ of
  pub limit : is_word64 l.limit ≡ true

-- Sessions.

-- a reply that a session may keep
abbrev pub may_keep : Body → Bool
may_keep bodies.Ack = true
may_keep bodies.Reasserted = true
may_keep (bodies.Nack w a b) = true
may_keep (bodies.Granted ino g mode) = true
may_keep (bodies.Queued ino mode) = true
may_keep (bodies.Extents ino rows) = true
may_keep (bodies.Named r) = true
may_keep b = false

-- a reply that a session may keep, and that can be told
abbrev pub is_reply : Body → Bool
is_reply b = may_keep b && is_body b

-- the reply that is kept, if there is one
abbrev pub keeps_reply : Option Body → Bool
keeps_reply None = true
keeps_reply (Some b) = is_reply b

-- a session's reply
abbrev pub has_reply : SessionState → Bool
has_reply (Live last reply) = keeps_reply reply
has_reply Ended = true

-- the session keeps a reply that can be told
abbrev pub is_good_session : Session → Bool
is_good_session s = has_reply s.state

-- Timers.

-- the start of a timer can be told
abbrev pub has_start : Suspect → Bool
has_start s = is_word64 s.start.0

-- Names.

-- an entry can be told
abbrev pub is_good_entry : NameEntry → Bool
is_good_entry e = is_ino e.ino && has_length 1 64 e.name

-- the entries can be told
pub record AreNamed (n : Names) : Type 0 where
  pub entries : list_all is_good_entry n.entries ≡ true
  pub next : 1 ≤ n.next

-- Extents.

-- an extent can be told
abbrev pub is_good_extent : Extent → Bool
is_good_extent e = is_block e.at && is_word64 e.birth

-- the mapped pages can be told
pub record AreMapped (x : Extents) : Type 0 where
  pub rows : list_all is_good_extent x.rows ≡ true
  pub disks : x.disks ≤ 8
  pub blocks : x.blocks ≤ 4096

-- The server: its grants and waits in this epoch are at most this many.
pub record IsSoundTo (n : ℕ) (s : ServerState) : Type 0 where
  pub id : between 1 4 s.id.0 ≡ true
  pub epoch : between 1 (2 ^ 32 - 1) s.stable.epoch.0 ≡ true
  pub held : AreHeld n s.stable.epoch s.sessions s.locks
  pub kept : list_all is_good_session s.sessions.rows ≡ true
  pub timed : list_all has_start s.authority.suspects ≡ true
  pub graced : is_word64 (grace_start s.grace).0 ≡ true
  pub named : AreNamed s.stable.names
  pub mapped : AreMapped s.stable.extents

-- what always holds of a server
abbrev pub IsSound : ServerState → Type 0
IsSound s = IsSoundTo (taken_locks s.locks) s

-- a message among outputs has every field in its range
abbrev pub is_sent : Output → Bool
is_sent (outputs.Send m) = fits m
is_sent o = true
