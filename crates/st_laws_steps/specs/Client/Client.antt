-- What the rules of a client do at one server, as a list of small changes.
use Rattle.std.specs.Prelude.{◌≡◌, ℕ, ◌≤◌, ◌<◌, ◌⊎◌, true, false, List, ◌++◌, map, Option, Some, None}
use Rattle.st_base.specs.declared.ids.Epoch.{Epoch}
use Rattle.st_base.specs.declared.ids.FileId.{FileId}
use Rattle.st_base.specs.declared.ids.PageNo.{PageNo}
use Rattle.st_base.specs.declared.ids.Stamp.{Stamp}
use Rattle.st_messages.specs.declared.answer.AppAnswer.{AppAnswer}
use Rattle.st_messages.specs.declared.answer.AppAnswer.TheVariants as answers
use Rattle.st_messages.specs.declared.message.Body.{Body}
use Rattle.st_messages.specs.declared.message.Body.TheVariants as bodies
use Rattle.st_messages.specs.declared.output.Note.{Note}
use Rattle.st_messages.specs.declared.output.Note.TheVariants as notes
use Rattle.st_messages.specs.declared.output.Output.{Output}
use Rattle.st_messages.specs.declared.output.Output.TheVariants as outputs
use Rattle.st_rules.specs.declared.pages.DirtyPage.{DirtyPage}
use Rattle.st_rules.specs.declared.client.CleanPage.{CleanPage}
use Rattle.st_rules.specs.declared.client.KnownExtent.{KnownExtent}
use Rattle.st_rules.specs.declared.client.LostPage.{LostPage}
use Rattle.st_rules.specs.declared.client.MappedBlock.{MappedBlock}
use Rattle.st_rules.specs.declared.client.Operation.{Operation}
use Rattle.st_rules.specs.declared.client.Request.{Request}
use Rattle.st_rules.specs.ClientLease as lease
use Rattle.st_rules.specs.ClientPages as pages
use Rattle.st_rules.specs.ClientPages.{Store}
use Rattle.st_rules.specs.ClientPasses as passes
use Rattle.st_rules.specs.ClientReplies.{new_session}
use Rattle.st_rules.specs.ClientState.{ClientSession, Turn, with_session, with_store, with_operations, with_lost_rows, say, note, answer_to, is_serving}
use Rattle.st_laws_steps.specs.Client.Session.{SessionChange}

-- a note that neither changes the log nor ends a life
abbrev pub PlainNote : Note → Type 0
PlainNote (notes.Lost s life) = ⊥
PlainNote (notes.Accepted f p bytes) = ⊥
PlainNote (notes.Patched f p at bytes) = ⊥
PlainNote n = Unit {0}

-- an output that changes neither the log, nor the commands, nor a life
abbrev pub Plain : Output → Type 0
Plain (outputs.Send m) = Unit {0}
Plain (outputs.Submit number at what) = ⊥
Plain (outputs.Answer op answer) = Unit {0}
Plain (outputs.Note n) = PlainNote n

-- the note of a change of this page
abbrev pub ChangesPage : FileId → PageNo → Note → Type 0
ChangesPage f p (notes.Accepted g q bytes) = (f ≡ g) × (p ≡ q)
ChangesPage f p (notes.Patched g q at bytes) = (f ≡ g) × (p ≡ q)
ChangesPage f p n = ⊥

-- the page whose place a request asks for
abbrev pub map_in : Body → Option (ℕ × PageNo)
map_in (bodies.Map ino g p) = Some (ino, p)
map_in body = None

-- the page whose place the outstanding request asks for
abbrev pub map_asked : Option Request → Option (ℕ × PageNo)
map_asked None = None
map_asked (Some q) = map_in q.body

-- where a page lies is asked only if nothing is known of it
abbrev pub Asks : Store → Option Request → Option Request → Type 0
Asks st old new = (x : ℕ × PageNo) → map_asked new ≡ Some x → (map_asked old ≡ Some x) ⊎ (pages.known_of st.extents x.0 x.1 ≡ None)

-- an answer other than hard
abbrev pub UnhardAnswer : AppAnswer → Type 0
UnhardAnswer answers.Hard = ⊥
UnhardAnswer a = Unit {0}

-- no sync is answered hard
abbrev pub Unhard : Output → Type 0
Unhard (outputs.Answer op a) = UnhardAnswer a
Unhard o = Unit {0}

-- A session that goes on, and how: its lease is dated no earlier than before.
pub record GoesOn (st : Store) (s u : ClientSession) : Type 0 where
  pub how : SessionChange st s u
  pub date : s.lease.date.0 ≤ u.lease.date.0
  pub asks : Asks st s.requests.asked u.requests.asked

-- no request is outstanding
abbrev pub Unasked : Option ClientSession → Type 0
Unasked None = Unit {0}
Unasked (Some s) = s.requests.asked ≡ None

-- a session as it begins
abbrev pub IsBegun : ClientSession → Type 0
IsBegun s = (epoch : Epoch) × (stamp : Stamp) × (s ≡ new_session epoch stamp)

-- with this greeting
abbrev pub with_greeted : Option Stamp → Turn → Turn
with_greeted g t = record t { here = record t.here { greeting = g } }

-- One change, by a rule at a moment.
pub data Change (now : Stamp) : Turn → Turn → Type 0 where
  -- an output
  Says : (t : Turn) (o : Output) → Plain o → Change now t (say t o)
  -- other operations are pending
  Operates : (t : Turn) (os : List Operation) → Change now t (with_operations os t)
  -- operations are answered
  Answers : (t : Turn) (os ops : List Operation) (answer : AppAnswer) → Change now t (record t { operations = os; out = t.out ++ map (answer_to answer) ops })
  -- when it greeted
  Greets : (t : Turn) (g : Option Stamp) → Change now t (with_greeted g t)
  -- the lost pages that nobody was told about change
  TellsLost : (t : Turn) (lost : List LostPage) → Change now t (with_lost_rows lost t)
  -- a session begins, whose lease is not over
  Begins : (t : Turn) (s : ClientSession) → t.here.session ≡ None → now.0 < (lease.end_of t.config s.lease).0 → IsBegun s →
      Change now t (with_session s t)
  -- a session goes on
  Follows : (t : Turn) (s u : ClientSession) → t.here.session ≡ Some s → GoesOn t.here.store s u → Change now t (with_session u t)
  -- the place of a page is known
  Learns : (t : Turn) (e : KnownExtent) → Unasked t.here.session → (e.mapping ≡ None → pages.known_of t.here.store.extents e.ino e.page ≡ None) →
      Change now t (with_store (record t.here.store { extents = pages.with_known e t.here.store.extents }) t)
  -- a file is forgotten from a page on, if it is idle
  Forgets : (t : Turn) (ino : ℕ) (p : PageNo) → pages.is_idle t.here.store ino ≡ true → Change now t (with_store (pages.forget_from t.here.store ino p) t)
  -- the clean pages change
  Caches : (t : Turn) (clean : List CleanPage) → Change now t (with_store (record t.here.store { pages = record t.here.store.pages { clean = clean } }) t)
  -- a page is changed: under a lease that serves, if the page is known as mapped
  Writes : (t : Turn) (s : ClientSession) (f : FileId) (p : PageNo) (bytes : List ℕ) (n : Note) → t.here.session ≡ Some s →
      is_serving t.config s now ≡ true → f.server ≡ t.here.server → pages.is_mapped t.here.store.extents f.ino p ≡ true →
      ChangesPage f p n → Change now t (passes.with_pages_changed (pages.written t.here.store.pages f.ino p bytes) f.ino p (note t n))
  -- a read is submitted, of a page that is not dirty
  Reads : (t : Turn) (ino : ℕ) (p : PageNo) (m : MappedBlock) → pages.mapping_of t.here.store.extents ino p ≡ Some m →
      pages.dirty_of t.here.store.pages ino p ≡ None → Change now t (passes.submit_read t ino p m)
  -- a write of a dirty page is submitted, if none is outstanding
  Submits : (t : Turn) (s : ClientSession) (ino : ℕ) (p : PageNo) (d : DirtyPage) (m : MappedBlock) → t.here.session ≡ Some s →
      pages.dirty_of t.here.store.pages ino p ≡ Some d → pages.mapping_of t.here.store.extents d.ino d.page ≡ Some m →
      pages.is_being_written t.here.store.commands d.ino d.page ≡ false → Change now t (passes.submit_write t d m)

-- Changes, one after another.
pub data Changes (now : Stamp) : Turn → Turn → Type 0 where
  Still : (t : Turn) → Changes now t t
  Then : (t u v : Turn) → Change now t u → Changes now u v → Changes now t v
