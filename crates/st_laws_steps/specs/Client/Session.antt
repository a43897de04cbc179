-- How a rule of a client changes its session at a server.
use Rattle.std.specs.Prelude.{◌≡◌, ℕ, ◌≤◌, ◌<◌, true, false, List, Option, Some, None}
use Rattle.st_base.specs.declared.ids.Epoch.{Epoch}
use Rattle.st_base.specs.declared.ids.GrantNo.{GrantNo}
use Rattle.st_base.specs.declared.ids.PageNo.{PageNo}
use Rattle.st_base.specs.declared.ids.Stamp.{Stamp}
use Rattle.st_base.specs.declared.mode.Mode.{Mode}
use Rattle.st_base.specs.declared.mode.Mode.TheVariants as modes
use Rattle.st_messages.specs.declared.message.Body.{Body}
use Rattle.st_messages.specs.declared.message.Body.TheVariants as bodies
use Rattle.st_messages.specs.declared.message.NameOp.TheVariants as ops
use Rattle.st_rules.specs.declared.client.HeldLock.{HeldLock}
use Rattle.st_rules.specs.declared.client.KnownExtent.{KnownExtent}
use Rattle.st_rules.specs.declared.client.Request.{Request}
use Rattle.st_rules.specs.ClientLocks as locks
use Rattle.st_rules.specs.ClientLocks.{LockCache}
use Rattle.st_rules.specs.ClientPages as pages
use Rattle.st_rules.specs.ClientPages.{Store}
use Rattle.st_rules.specs.ClientPasses as passes
use Rattle.st_rules.specs.ClientReplies as replies
use Rattle.st_rules.specs.ClientState.{ClientSession, reasserts, with_cache, with_release}
use Rattle.st_rules.specs.Keys.{page_no}
use Rattle.st_lemmas.specs.Lists.{Has}

-- the page from which on a request cuts its file; a remove cuts all of it
abbrev pub cuts_from : Body → Option PageNo
cuts_from (bodies.Cut ino g from) = Some from
cuts_from (bodies.Name op) = Some (page_no 0)
cuts_from body = None

-- an exclusive lock of a file is held, under this grant
pub record HasExclusive (s : ClientSession) (ino : ℕ) (g : GrantNo) : Type 0 where
  pub lock : HeldLock
  pub is : locks.lock_of s.locks ino ≡ Some lock
  pub under : lock.g ≡ g
  pub exclusive : lock.mode ≡ modes.X

-- a lock of a file is held, under this grant
abbrev pub HasLockUnder : LockCache → ℕ → GrantNo → Type 0
HasLockUnder c ino g = (l : HeldLock) × (locks.lock_of c ino ≡ Some l) × (l.g ≡ g)

-- What a session may ask of a server while a file is being cut: extents under the grant of a lock that it holds; to cut that file; and to remove it, if a
-- grant is named under which it is the only holder of the file.
abbrev pub MayAsk : ClientSession → Option ℕ → Body → Type 0
MayAsk s cutting bodies.KeepAlive = Unit {0}
MayAsk s cutting (bodies.Reassert rows) = Unit {0}
MayAsk s cutting (bodies.Released ino g to) = Unit {0}
MayAsk s cutting (bodies.Acquire ino mode) = Unit {0}
MayAsk s cutting (bodies.Map ino g p) = HasLockUnder s.locks ino g
MayAsk s cutting (bodies.Allocate ino g p count) = HasLockUnder s.locks ino g
MayAsk s cutting (bodies.Cut ino g from) = cutting ≡ Some ino
MayAsk s cutting (bodies.Name (ops.Remove dir name g)) = 1 ≤ g.0 → (ino : ℕ) × (cutting ≡ Some ino) × HasExclusive s ino g
MayAsk s cutting (bodies.Name op) = Unit {0}
MayAsk s cutting body = ⊥

-- A new request: none is outstanding, it is a reassertion if one is due, and it may be asked.
pub record IsAsked (s : ClientSession) (cutting : Option ℕ) (body : Body) : Type 0 where
  pub free : s.requests.asked ≡ None
  pub due : reasserts body ≡ s.due
  pub may : MayAsk s cutting body

-- nothing is known of where pages of this file lie
abbrev pub NothingKnown : List KnownExtent → ℕ → Type 0
NothingKnown xs ino = (e : KnownExtent) → Has e xs → e.ino ≡ ino → ⊥

-- How the locks of a session change if it asks nothing. A lock is given up only if nothing is known of its file.
pub data LocksStep (xs : List KnownExtent) : LockCache → LockCache → Type 0 where
  LocksStay : (c : LockCache) → LocksStep xs c c
  LocksReduced : (c : LockCache) (ino : ℕ) (g : GrantNo) (to : Mode) → (locks.reduce c ino).given ≡ Some (g, to) → (to ≡ modes.None → NothingKnown xs ino) → LocksStep xs c (locks.reduce c ino).locks
  LocksGranted : (z : ClientSession) (ino : ℕ) (g : GrantNo) (mode : Mode) → LocksStep xs z.locks (replies.grant z ino g mode).locks
  LocksDemanded : (c : LockCache) (ino : ℕ) (g : GrantNo) (to : Mode) → LocksStep xs c (locks.demand c ino g to).locks

-- A session that asks nothing: its epoch, its requests and the date of its lease are what they were.
pub record AsksNothing (xs : List KnownExtent) (s r : ClientSession) : Type 0 where
  pub epoch : r.epoch ≡ s.epoch
  pub requests : r.requests ≡ s.requests
  pub cutting : r.cutting ≡ s.cutting
  pub due : r.due ≡ s.due
  pub date : r.lease.date ≡ s.lease.date
  pub locks : LocksStep xs s.locks r.locks

-- A store from which a file was forgotten from a page on, if the file was idle.
pub record IsForgotten (st : Store) (ino : ℕ) (p : PageNo) : Type 0 where
  pub store : Store
  pub idle : pages.is_idle store ino ≡ true
  pub is : st ≡ pages.forget_from store ino p

-- what is asked to be cut was forgotten
abbrev pub CutsForgotten : Store → Body → Option ℕ → Type 0
CutsForgotten st body cutting = (ino : ℕ) (p : PageNo) → cutting ≡ Some ino → cuts_from body ≡ Some p → IsForgotten st ino p

-- One change of a session, beside what a store holds.
pub data SessionChange (st : Store) : ClientSession → ClientSession → Type 0 where
  -- nothing is asked
  Keeps : (s u : ClientSession) → AsksNothing st.extents s u → SessionChange st s u
  -- the lock of a file that was removed goes
  DropsLock : (s : ClientSession) (ino : ℕ) (l : HeldLock) → SessionChange st s (with_release ino l.g modes.None (with_cache (locks.drop_lock s.locks ino) s))
  -- its locks need no longer be reasserted
  IsReasserted : (s : ClientSession) → SessionChange st s (record s { due = false })
  -- the outstanding request ends
  EndsRequest : (s : ClientSession) (stamp : Stamp) → SessionChange st s (replies.ended_by stamp s)
  -- the server's epoch is a newer one
  NewEpoch : (s : ClientSession) (epoch : Epoch) → s.epoch.0 < epoch.0 → SessionChange st s (replies.in_epoch epoch s)
  -- a new request is asked
  AsksNew : (s r : ClientSession) (now : Stamp) (body : Body) (cutting : Option ℕ) → AsksNothing st.extents s r → CutsForgotten st body cutting →
      IsAsked r cutting body →
      SessionChange st s (passes.asking_session r now body cutting)
  -- the outstanding request is asked again
  AsksAgain : (s : ClientSession) (now : Stamp) (q : Request) → s.requests.asked ≡ Some q → SessionChange st s (passes.again_session s now q)
