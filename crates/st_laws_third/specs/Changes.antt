-- What the rules of a client of the third form do at one server, as a list of small changes: those of
-- the first two forms, and a few more.
use Rattle.std.specs.Prelude.{◌≡◌, ℕ, ◌+◌, ◌<◌, ◌≤◌, ◌⊎◌, pred, Bool, true, false, List, [], length, Option, Some, None}
use Rattle.st_base.specs.declared.ids.Epoch.{Epoch}
use Rattle.st_base.specs.declared.ids.Stamp.{Stamp}
use Rattle.st_base.specs.declared.ids.GrantNo.{GrantNo}
use Rattle.st_base.specs.declared.ids.PageNo.{PageNo}
use Rattle.st_base.specs.declared.mode.Mode.{Mode}
use Rattle.st_messages.specs.declared.answer.AppAnswer.{AppAnswer}
use Rattle.st_messages.specs.declared.answer.AppAnswer.TheVariants as answers
use Rattle.st_messages.specs.declared.message.Body.{Body}
use Rattle.st_messages.specs.declared.message.Body.TheVariants as bodies
use Rattle.st_messages.specs.declared.message.Message.{Message}
use Rattle.st_messages.specs.declared.message.Why.TheVariants as why
use Rattle.st_messages.specs.declared.output.Output.{Output}
use Rattle.st_messages.specs.declared.output.Output.TheVariants as outputs
use Rattle.st_rules.specs.declared.client.DemandedFile.{DemandedFile}
use Rattle.st_rules.specs.declared.client.Request.{Request}
use Rattle.st_rules.specs.declared.client.HeldLock.{HeldLock}
use Rattle.st_rules.specs.ClientLease as lease
use Rattle.st_rules.specs.ClientLocks as locks
use Rattle.st_rules.specs.ClientLocks.{LockCache}
use Rattle.st_rules.specs.ClientPages as pages
use Rattle.st_rules.specs.ClientPages.{Store}
use Rattle.st_rules.specs.ClientReplies as replies
use Rattle.st_rules.specs.ClientState.{Association, ClientSession, Turn, header_of}
use Rattle.st_rules.specs.Keys.{server_node}
use Rattle.st_promises.specs.Faults as faults
use Rattle.st_laws_steps.specs.Client.Client as client
use Rattle.st_laws_steps.specs.Client.Client.{Change}
use Rattle.st_laws_steps.specs.Client.Losses.{Ends, is_ended}
use Rattle.st_laws_steps.specs.Client.Session.{SessionChange, AsksNew, IsReasserted}
use Rattle.st_lemmas.specs.Lists.{Has}
use Rattle.st_third.specs.declared.beside.Leave.{Leave}
use Rattle.st_third.specs.declared.limits.Limits.{Limits}
use Rattle.st_third.specs.declared.output.ThirdOutput.{ThirdOutput}
use Rattle.st_third.specs.declared.output.ThirdOutput.TheVariants as says
use Rattle.st_third.specs.GiveBack.{demanded}
use Rattle.st_third.specs.Leave.{emptied, is_unasked, noted_lost}
use Rattle.st_third.specs.Limits.{is_dirty_full, limited_session}
use Rattle.st_third.specs.Promises.{is_dirty_full_at, is_stuck_at}
use Rattle.st_third.specs.State.{Beside, RUN, ThirdTurn, here, is_leave_of, say, session, with_beside, with_its_session}
use Rattle.st_third.specs.UsedOnce.{reduced}

-- with this turn of the first two forms
abbrev pub with_plain : Turn → ThirdTurn → ThirdTurn
with_plain u t = record t { plain = u }

-- with these leaves
abbrev pub with_leaves : List Leave → ThirdTurn → ThirdTurn
with_leaves ls t = record t { leaves = ls }

-- so many changes wait for room
abbrev pub with_room : ℕ → ThirdTurn → ThirdTurn
with_room n t = record t { room = n }

-- The ask of this number has left: it is a pending leave of the server, and nothing was asked in the session yet.
pub record HasLeave (t : ThirdTurn) (op : ℕ) : Type 0 where
  pub leave : Leave
  pub pending : Has leave t.leaves
  pub number : leave.op ≡ op
  pub of_server : is_leave_of (here t) leave ≡ true
  pub unasked : is_unasked (session t) ≡ true

-- What a client sends: a greeting, that a demand was seen in a session, or what a session asks. Its header has the session's epoch.
pub data Sends (t : Turn) : Message → Type 0 where
  Greets : (stamp : ℕ) → Sends t (record { header = header_of t 0 0 stamp; body = bodies.Hello })
  Sees : (s : ClientSession) (ino : ℕ) (g : GrantNo) → t.here.session ≡ Some s →
      Sends t (record { header = header_of t s.epoch.0 0 0; body = bodies.DemandSeen ino g })
  Asks : (s : ClientSession) (q : Request) (stamp : ℕ) → t.here.session ≡ Some s → s.requests.asked ≡ Some q →
      Sends t (record { header = header_of t s.epoch.0 q.number stamp; body = q.body })

-- a message is one of these
abbrev pub SendsRight : Turn → Output → Type 0
SendsRight t (outputs.Send m) = Sends t m
SendsRight t o = Unit {0}

-- What a client may hear: a message, an ask to leave, or that the command of this number failed.
pub data HeardWord : Type 0 where
  HeardMessage : Message → HeardWord
  HeardLeave : Leave → HeardWord
  HeardFailure : ℕ → HeardWord

-- What is heard: the one that the client takes, if it takes one.
abbrev pub Heard : Type 0
Heard = Option HeardWord

-- what is heard at the end of a command, done or failed
abbrev pub heard_end : ℕ → Bool → Heard
heard_end number true = None
heard_end number false = Some (HeardFailure number)

-- a message that refuses what was asked
pub record HearsRefusal (got : Heard) : Type 0 where
  pub message : Message
  pub is : got ≡ Some (HeardMessage message)
  pub refuses : faults.refuses message.body ≡ true

-- one that refuses a lock, or another request, as too many
pub record HearsTooMany (got : Heard) : Type 0 where
  pub message : Message
  pub is : got ≡ Some (HeardMessage message)
  pub limit : ℕ
  pub more : ℕ
  pub body : message.body ≡ bodies.Nack why.TooManyLocks limit more

-- the association's server says this in its life there, and in this epoch
pub record Hears (got : Heard) (a : Association) (epoch : ℕ) (b : Body) : Type 0 where
  pub message : Message
  pub is : got ≡ Some (HeardMessage message)
  pub from : message.header.from ≡ server_node a.server
  pub life : message.header.life ≡ a.life.0
  pub in_epoch : message.header.epoch ≡ epoch
  pub body : message.body ≡ b

-- Why there is a lock under its number: it was among these, or the server granted or demanded it.
pub data LockFrom (got : Heard) (a : Association) (rows : List HeldLock) (l : HeldLock) : Type 0 where
  WasHeld : (k : HeldLock) → Has k rows → k.ino ≡ l.ino → k.g ≡ l.g → LockFrom got a rows l
  IsGranted : (epoch : ℕ) (mode : Mode) → Hears got a epoch (bodies.Granted l.ino l.g mode) → LockFrom got a rows l
  IsDemanded : (epoch : ℕ) (to : Mode) → Hears got a epoch (bodies.Demand l.ino l.g to) → LockFrom got a rows l

-- Why a session has its epoch: the session before it had it, or the server has it.
pub data EpochFrom (got : Heard) (a : Association) (old : Option ClientSession) (u : ClientSession) : Type 0 where
  SameEpoch : (s : ClientSession) → old ≡ Some s → u.epoch ≡ s.epoch → EpochFrom got a old u
  NewerEpoch : (b : Body) → Hears got a u.epoch.0 b → EpochFrom got a old u

-- the locks of a session, if there is one
abbrev pub locks_in : Option ClientSession → List HeldLock
locks_in None = []
locks_in (Some s) = s.locks.rows

-- a session goes on, or begins: its locks and its epoch have a cause
pub record GoesOnBy (got : Heard) (a : Association) (old : Option ClientSession) (u : ClientSession) : Type 0 where
  pub locks : (l : HeldLock) → Has l u.locks.rows → LockFrom got a (locks_in old) l
  pub epoch : EpochFrom got a old u

-- a request for blocks is for no more pages than this limit of runs allows
abbrev pub IsRun : ℕ → Body → Type 0
IsRun run (bodies.Allocate ino g p count) = count ≤ pred run + 1
IsRun run b = Unit {0}

-- a reassertion is of all locks
abbrev pub IsWhole : LockCache → Body → Type 0
IsWhole c (bodies.Reassert rows) = rows ≡ locks.all_locks c
IsWhole c b = Unit {0}

-- so is a new request; and locks are reasserted while a request is outstanding
abbrev pub AsksRight : (run : ℕ) (st : Store) (s u : ClientSession) → SessionChange st s u → Type 0
AsksRight run st s _ (AsksNew _ r now body cutting a c i) = (IsRun run body) × (IsWhole r.locks body)
AsksRight run st s _ (IsReasserted _) = (q : Request) × (s.requests.asked ≡ Some q)
AsksRight run st s u c = Unit {0}

-- What bounds a change: what is heard, how many pages a run may have, and how much there may be of what.
pub record Bounds : Type 0 where
  pub heard : Heard
  pub run : ℕ
  pub limits : Limits

-- those of a turn
abbrev pub bounds : Heard → ThirdTurn → Bounds
bounds got t = record { heard = got; run = t.beside.run; limits = t.limits }

-- Why an application may be answered so. A fault of a disk is that of the command that failed. A
-- refusal was heard. All locks are stuck, or too many were heard of. As many pages are dirty as may be,
-- and none makes room. That too many operations are pending is answered only to an ask, at once.
abbrev pub AnswersRight : Bounds → Turn → AppAnswer → Type 0
AnswersRight within t (answers.DiskFault number) = within.heard ≡ Some (HeardFailure number)
AnswersRight within t answers.NotHolder = HearsRefusal within.heard
AnswersRight within t (answers.NoSpace free wanted) = HearsRefusal within.heard
AnswersRight within t (answers.Refused code) = HearsRefusal within.heard
AnswersRight within t answers.TooManyLocks = (is_stuck_at within.limits t.here ≡ true) ⊎ HearsTooMany within.heard
AnswersRight within t answers.DirtyFull = is_dirty_full_at within.limits t.here ≡ true
AnswersRight within t answers.OpsFull = ⊥
AnswersRight within t a = Unit {0}

-- a message that is sent, or an answer
abbrev pub SaysRight : Bounds → Turn → Output → Type 0
SaysRight within t (outputs.Send m) = Sends t m
SaysRight within t (outputs.Answer op a) = AnswersRight within t a
SaysRight within t o = Unit {0}

-- an answer to an application
abbrev pub IsAnswer : Bounds → Turn → Output → Type 0
IsAnswer within t (outputs.Answer op a) = AnswersRight within t a
IsAnswer within t o = ⊥

-- an answer, or a word of the third form; but not the end of a life
abbrev pub PlainWord : Heard → ThirdTurn → ThirdOutput → Type 0
PlainWord got t (says.Plain o) = IsAnswer (bounds got t) t.plain o
PlainWord got t (says.Left op) = HasLeave t op
PlainWord got t (says.Ended s life end) = ⊥
PlainWord got t o = Unit {0}

-- A change of the first two forms, within bounds. It begins no session, sends nothing else, and answers
-- nothing without a cause. It asks for no longer run, changes a page only if there is room for it, and
-- leaves no more clean pages than may be. A lock and an epoch that are new were heard.
abbrev pub Continues : (within : Bounds) (now : Stamp) (t u : Turn) → Change now t u → Type 0
Continues within now t _ (client.Begins _ s a b c) = ⊥
Continues within now t _ (client.Says _ o p) = SaysRight within t o
Continues within now t _ (client.Answers _ os ops a) = AnswersRight within t a
Continues within now t _ (client.Follows _ s u e g) = (AsksRight within.run t.here.store s u g.how) × (GoesOnBy within.heard t.here (Some s) u)
Continues within now t _ (client.Caches _ clean) = length clean ≤ t.here.store.pages.most_clean
Continues within now t _ (client.Writes _ s f p bytes n se sv own m h) = is_dirty_full within.limits.dirty t.here.store.pages f.ino p ≡ false
Continues within now t u c = Unit {0}

-- How the limit of runs changes: it stays, is whole again, or is less than the blocks that the
-- outstanding request asks for.
pub data RunLimit (t : ThirdTurn) (b : Beside) : Type 0 where
  SameRun : b.run ≡ t.beside.run → RunLimit t b
  WholeRun : b.run ≡ RUN → RunLimit t b
  FreeRun : (s : ClientSession) (q : Request) (ino : ℕ) (g : GrantNo) (p : PageNo) (count : ℕ) → session t ≡ Some s →
      s.requests.asked ≡ Some q → q.body ≡ bodies.Allocate ino g p count → b.run < count → RunLimit t b

-- The leaves that are pending were pending before, but for the one that is asked.
abbrev pub ArePending : Heard → List Leave → List Leave → Type 0
ArePending got old new = (l : Leave) → Has l new → (Has l old) ⊎ (got ≡ Some (HeardLeave l))

-- One change, by a rule at a moment, after something was heard or nothing.
pub data ThirdChange (got : Heard) (now : Stamp) : ThirdTurn → ThirdTurn → Type 0 where
  -- one that the first two forms make too
  Plainly : (t : ThirdTurn) (u : Turn) (c : Change now t.plain u) → Continues (bounds got t) now t.plain u c → ThirdChange got now t (with_plain u t)
  -- a word
  Says : (t : ThirdTurn) (o : ThirdOutput) → PlainWord got t o → ThirdChange got now t (say t o)
  -- other leaves are pending
  Leaves : (t : ThirdTurn) (ls : List Leave) → ArePending got t.leaves ls → ThirdChange got now t (with_leaves ls t)
  -- other uses are owed, or runs have another limit, or the server was full at another time
  IsBeside : (t : ThirdTurn) (b : Beside) → RunLimit t b → ThirdChange got now t (with_beside b t)
  -- more or fewer changes wait for room
  WaitsForRoom : (t : ThirdTurn) (n : ℕ) → ThirdChange got now t (with_room n t)
  -- a session begins with the limit of its locks, by a fresh welcome in its epoch
  Begins : (t : ThirdTurn) (epoch : Epoch) (stamp : Stamp) → session t ≡ None → now.0 < stamp.0 + t.plain.config.renew →
      Hears got t.plain.here epoch.0 bodies.Welcome →
      ThirdChange got now t (with_its_session (limited_session t.limits (replies.new_session epoch stamp)) t)
  -- a lock that is held is demanded by its own client, down to none
  GivesBack : (t : ThirdTurn) (s : ClientSession) (l : HeldLock) → session t ≡ Some s → Has l s.locks.rows →
      ThirdChange got now t (with_its_session (demanded l.ino s) t)
  -- an idle file is reduced to a demand
  Reduces : (t : ThirdTurn) (s : ClientSession) (d : DemandedFile) (ino : ℕ) → session t ≡ Some s → d.ino ≡ ino →
      pages.is_idle t.plain.here.store ino ≡ true → ThirdChange got now t (with_plain (reduced s (Some d) ino t.plain) t)

-- Changes, one after another.
pub data ThirdChanges (got : Heard) (now : Stamp) : ThirdTurn → ThirdTurn → Type 0 where
  Still : (t : ThirdTurn) → ThirdChanges got now t t
  Then : (t u v : ThirdTurn) → ThirdChange got now t u → ThirdChanges got now u v → ThirdChanges got now t v

-- Losing: a lease that has ended is lost, with a note, and nothing is left of the association but its
-- lost rows. Nothing is heard; so it is with the passes.
pub data ThirdLoses (now : Stamp) (t : ThirdTurn) : ThirdTurn → Type 0 where
  Lasts : is_ended t.plain.config now (session t) ≡ false → ThirdLoses now t t
  IsLost : (s : ClientSession) (v : ThirdTurn) → session t ≡ Some s → is_ended t.plain.config now (session t) ≡ true →
      ThirdChanges None now (with_plain (noted_lost t.plain) t) v → ThirdLoses now t (emptied v)

-- Ending: the end of the command of a number, done or failed, changes the pages of the association; and
-- changes follow. That it failed is heard.
pub record ThirdFinishes (now : Stamp) (number : ℕ) (ok : Bool) (t u : ThirdTurn) : Type 0 where
  pub middle : Turn
  pub ends : Ends number ok t.plain middle
  pub rest : ThirdChanges (heard_end number ok) now (with_plain middle t) u

-- Leaving: a life ends that has nothing left at its server, with the lease end that it has then.
pub data ThirdLeaves (now : Stamp) (t : ThirdTurn) : ThirdTurn → Type 0 where
  Stays : ThirdLeaves now t t
  HasLeft : (s : ClientSession) → session t ≡ Some s →
      ThirdLeaves now t (emptied (say t (says.Ended (here t) t.plain.here.life (lease.end_of t.plain.config s.lease))))

-- All passes: what comes before leaving, leaving, and what comes after it.
pub record ThirdPasses (now : Stamp) (t u : ThirdTurn) : Type 0 where
  pub written : ThirdTurn
  pub left : ThirdTurn
  pub works : ThirdChanges None now t written
  pub leaves : ThirdLeaves now written left
  pub asks : ThirdChanges None now left u
