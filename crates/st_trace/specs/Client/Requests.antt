-- What a client sends to a server at the end of a step: a greeting, a request, or one once more; each with its cause.
use Rattle.std.specs.Prelude.{◌≡◌, ℕ, Bool, true, false, List, [], ◌∷◌, ◌++◌, Option, Some, None}
use Rattle.st_base.specs.declared.ids.FileId.{FileId}
use Rattle.st_base.specs.declared.ids.PageNo.{PageNo}
use Rattle.st_base.specs.declared.ids.ServerId.{ServerId}
use Rattle.st_base.specs.declared.ids.Stamp.{Stamp}
use Rattle.st_base.specs.declared.mode.Mode.TheVariants as modes
use Rattle.st_base.specs.declared.names.NameAsk.{NameAsk}
use Rattle.st_base.specs.Mode.{covers}
use Rattle.st_messages.specs.declared.ask.Ask.{Ask}
use Rattle.st_messages.specs.declared.ask.Ask.TheVariants as asks
use Rattle.st_messages.specs.declared.message.Body.{Body}
use Rattle.st_messages.specs.declared.message.Body.TheVariants as bodies
use Rattle.st_rules.specs.declared.client.HeldLock.{HeldLock}
use Rattle.st_rules.specs.declared.client.Operation.{Operation}
use Rattle.st_rules.specs.declared.client.Release.{Release}
use Rattle.st_rules.specs.declared.client.Request.{Request}
use Rattle.st_rules.specs.Keys.{page_no}
use Rattle.st_rules.specs.ClientLease as lease
use Rattle.st_rules.specs.ClientLocks as locks
use Rattle.st_rules.specs.ClientPages as pages
use Rattle.st_rules.specs.ClientPasses as passes
use Rattle.st_rules.specs.ClientPasses.{Wanted}
use Rattle.st_lemmas.specs.Lists.{Has}
use Rattle.st_rules.specs.ClientState.{ClientSession, Turn, file_of, file_of_name, is_serving, is_sync, send, wait_of, with_operations, with_session}
use Rattle.st_rules.specs.ClientState.{with_store}

-- A greeting is sent if there is no session and an operation of the server waits.
pub data Greets (now : Stamp) (tick : Bool) (t : Turn) : Turn → Type 0 where
  IsSilent : Greets now tick t t
  SaysHello : t.here.session ≡ None → passes.must_greet t now tick ≡ true → Greets now tick t (send (passes.with_greeting now t) 0 0 now.0 bodies.Hello)

-- Why an operation asks this of its server.
pub data Wants (t : Turn) (s : ClientSession) (now : Stamp) (ask : Ask) : Wanted → Type 0 where
  -- a lock, which conflicts with none that it waits for
  ForLock : (ino : ℕ) → file_of ask ≡ Some ino → is_sync ask ≡ false → covers (locks.mode_of s.locks ino) (passes.need ask) ≡ false →
      passes.is_wait_old t.config now (passes.need ask) (wait_of s.waits ino) ≡ true →
      Wants t s now ask (record { body = bodies.Acquire ino (passes.need ask); own = false; cut = None })
  -- the place of a page that will be read
  ForPlace : (f : FileId) (p : PageNo) (l : HeldLock) → ask ≡ asks.Read f p → locks.lock_of s.locks f.ino ≡ Some l → covers l.mode modes.S ≡ true →
      passes.is_at_hand t f.ino p ≡ false → Wants t s now ask (record { body = bodies.Map f.ino l.g p; own = false; cut = None })
  -- a block for a page that will be written or patched
  ToWrite : (f : FileId) (p : PageNo) (bytes : List ℕ) (l : HeldLock) → ask ≡ asks.Write f p bytes → locks.lock_of s.locks f.ino ≡ Some l →
      covers l.mode modes.X ≡ true →
      pages.is_mapped t.here.store.extents f.ino p ≡ false → Wants t s now ask (record { body = bodies.Allocate f.ino l.g p 1; own = false; cut = None })
  ToPatch : (f : FileId) (p : PageNo) (at : ℕ) (bytes : List ℕ) (l : HeldLock) → ask ≡ asks.Patch f p at bytes → locks.lock_of s.locks f.ino ≡ Some l →
      covers l.mode modes.X ≡ true → pages.is_mapped t.here.store.extents f.ino p ≡ false →
      Wants t s now ask (record { body = bodies.Allocate f.ino l.g p 1; own = false; cut = None })
  -- itself: a cut, and a remove of a file, if the file is idle; and what is asked only of names
  ToCut : (f : FileId) (p : PageNo) (l : HeldLock) → ask ≡ asks.Cut f p → locks.lock_of s.locks f.ino ≡ Some l → covers l.mode modes.X ≡ true →
      pages.is_idle t.here.store f.ino ≡ true → Wants t s now ask (record { body = bodies.Cut f.ino l.g p; own = true; cut = Some (f.ino, p) })
  ToRemove : (server : ServerId) (n : NameAsk) (ino : ℕ) (l : HeldLock) → ask ≡ asks.Name server n → file_of_name n ≡ Some ino →
      locks.lock_of s.locks ino ≡ Some l →
      covers l.mode modes.X ≡ true → pages.is_idle t.here.store ino ≡ true →
      Wants t s now ask (record { body = bodies.Name (passes.name_op n l.g); own = true; cut = Some (ino, page_no 0) })
  ToName : (server : ServerId) (n : NameAsk) → ask ≡ asks.Name server n → file_of_name n ≡ None →
      Wants t s now ask (record { body = bodies.Name (passes.name_op n locks.no_grant); own = true; cut = None })

-- The first of the operations that asks: none before it asks anything, and only it may change.
pub record AsksFirst (t : Turn) (s : ClientSession) (now : Stamp) (xs : List Operation) (o : Operation) (ys : List Operation) (w : Wanted)
    (os : List Operation) : Type 0 where
  pub there : os ≡ xs ++ o ∷ ys
  pub before : (x : Operation) → Has x xs → passes.asked_by t s now x ≡ None
  pub may : passes.may_ask t s o ≡ true
  pub wants : Wants t s now o.ask w

-- A session that may ask: its lease is not condemned, and no request is outstanding.
pub record MayAsk (t : Turn) (s : ClientSession) : Type 0 where
  pub session : t.here.session ≡ Some s
  pub sound : s.lease.condemned ≡ false
  pub none : s.requests.asked ≡ None

-- and nothing must be reasserted or released before
pub record IsFree (t : Turn) (s : ClientSession) : Type 0 where
  pub may : MayAsk t s
  pub settled : s.due ≡ false
  pub released : s.releases ≡ []

-- a request is sent, with the next number
abbrev pub asked : Turn → ClientSession → Stamp → Body → Option ℕ → Turn
asked t s now body cutting = send (with_session (passes.asking_session s now body cutting) t) s.epoch.0 s.requests.next now.0 body

-- What is asked of a server at the end of a step.
pub data Requests (now : Stamp) (tick : Bool) (t : Turn) : Turn → Type 0 where
  AsksNothing : Requests now tick t t
  AsksAgain : (s : ClientSession) (q : Request) → t.here.session ≡ Some s → s.lease.condemned ≡ false → s.requests.asked ≡ Some q →
      passes.is_old t.config now tick q ≡ true →
      Requests now tick t (send (with_session (passes.again_session s now q) t) s.epoch.0 q.number now.0 q.body)
  Reasserts : (s : ClientSession) → MayAsk t s → s.due ≡ true → Requests now tick t (asked t s now (bodies.Reassert (locks.all_locks s.locks)) None)
  Releases : (s : ClientSession) (r : Release) (rs : List Release) → MayAsk t s → s.due ≡ false → s.releases ≡ r ∷ rs →
      Requests now tick t (asked t (record s { releases = rs }) now (bodies.Released r.ino r.g r.to) None)
  AsksFor : (s : ClientSession) (xs : List Operation) (o : Operation) (ys : List Operation) (w : Wanted) → IsFree t s → is_serving t.config s now ≡ true →
      AsksFirst t s now xs o ys w t.operations →
      Requests now tick t
      (asked (with_store (passes.cut_store w.cut t.here.store) (with_operations (xs ++ passes.sent_if w.own o ∷ ys) t)) s now w.body (passes.file_cut w.cut))
  KeepsAlive : (s : ClientSession) → IsFree t s → lease.is_renewing (lease.phase_of t.config s.lease now) ≡ true →
      Requests now tick t (asked t s now bodies.KeepAlive None)
