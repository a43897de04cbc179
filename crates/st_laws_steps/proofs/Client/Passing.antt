-- The passes of a client's step are made of changes that begin no session and learn of no page.
use Rattle.st_lemmas.proofs.Words
use Words.{◌≡◌, ℕ, Bool, true, false, List, ◌++◌, ◌∷◌, [], Option, Some, None, refl, if◌then◌else◌, FileId, PageNo, Stamp, AppAnswer, Message, Note, Output}
use Words.{CleanPage, MappedBlock, Operation, Request, DirtyPage}
use Words.answers
use Words.asks.{Sync}
use Words.bodies
use Words.outputs
use Words.ClientPages as pages
use Words.ClientPages.{Store}
use Words.ClientPasses as passes
use Words.ClientState.{ClientSession, Turn, answered, header_of, is_serving, keep, note, say, with_operations, with_session, with_store}
use Words.Lists.{Has}
use Rattle.st_laws_steps.specs.Client.Client as client
use Rattle.st_laws_steps.specs.Client.Client.{Change, ChangesPage, GoesOn, Plain, with_greeted}
use Rattle.st_laws_steps.specs.Client.Session.{SessionChange, Keeps, DropsLock, IsReasserted, EndsRequest, NewEpoch, AsksNew, AsksAgain}
use Rattle.st_laws_steps.proofs.Client.Only.{Only, all, joined, lifted, single, Ends}

-- a sync of one of these operations that may be answered hard: its file is of this server, and is hard
pub record IsHardSync (syncs : List Operation) (t : Turn) (op : ℕ) : Type 0 where
  pub operation : Operation
  pub has : Has operation syncs
  pub op_is : operation.op ≡ op
  pub file : FileId
  pub was_asked : operation.ask ≡ Sync file
  pub own : file.server ≡ t.here.server
  pub hard : pages.is_hard t.here.store file.ino ≡ true

-- an answer of a pass
abbrev pub AnswersRight : List Operation → Turn → ℕ → AppAnswer → Type 0
AnswersRight syncs t op answers.Hard = IsHardSync syncs t op
AnswersRight syncs t op a = Unit {0}

-- the messages of a pass: a greeting, and the outstanding request, with the time at which they are sent
pub data Sends (now : Stamp) (t : Turn) : Message → Type 0 where
  SendsHello : Sends now t (record { header = header_of t 0 0 now.0; body = bodies.Hello })
  SendsRequest : (s : ClientSession) (q : Request) → t.here.session ≡ Some s → s.requests.asked ≡ Some q → Sends now t (record { header = header_of t s.epoch.0 q.number now.0; body = q.body })

-- what a pass says beside the changes of pages: messages, and answers
abbrev pub SaysRight : List Operation → Stamp → Turn → Output → Type 0
SaysRight syncs now t (outputs.Send m) = Sends now t m
SaysRight syncs now t (outputs.Submit number at what) = ⊥
SaysRight syncs now t (outputs.Answer op a) = AnswersRight syncs t op a
SaysRight syncs now t (outputs.Note n) = ⊥

-- what a part of a pass does with its session: it asks nothing, it only asks, or any of the two
pub data Part : Type 0 where
  OnlyKeeps : Part
  OnlyAsks : Part
  KeepsOrAsks : Part

abbrev pub may_keep : Part → Bool
may_keep OnlyAsks = false
may_keep part = true

abbrev pub may_ask : Part → Bool
may_ask OnlyKeeps = false
may_ask part = true

pub record KeepsIn (part : Part) : Type 0 where
  pub may : may_keep part ≡ true

pub record AsksIn (part : Part) : Type 0 where
  pub may : may_ask part ≡ true

-- how a session changes in a part of a pass
abbrev pub FollowsBy : Part → (st : Store) (s u : ClientSession) → SessionChange st s u → Type 0
FollowsBy part st s u (Keeps _ _ a) = KeepsIn part
FollowsBy part st s _ (DropsLock _ ino l) = ⊥
FollowsBy part st s _ (IsReasserted _) = ⊥
FollowsBy part st s _ (EndsRequest _ stamp) = ⊥
FollowsBy part st s _ (NewEpoch _ epoch n) = ⊥
FollowsBy part st s _ (AsksNew _ r now body cutting a c i) = AsksIn part
FollowsBy part st s _ (AsksAgain _ now q e) = AsksIn part

-- no request is outstanding that cuts this file
abbrev pub Uncut : Turn → ℕ → Type 0
Uncut t ino = (s : ClientSession) → t.here.session ≡ Some s → s.cutting ≡ Some ino → ⊥

-- Neither begins a session, nor learns where a page lies, nor tells or answers anybody of what was lost; it answers hard only these syncs, and asks only
-- if it may; no clean page is new, and pages are changed and read of no file that is cut.
abbrev pub IsPassing : List Operation → Part → (now : Stamp) (t u : Turn) → Change now t u → Type 0
IsPassing syncs asks now t _ (client.Says _ o p) = SaysRight syncs now t o
IsPassing syncs asks now t _ (client.Answers _ os ops a) = ⊥
IsPassing syncs asks now t _ (client.TellsLost _ lost) = ⊥
IsPassing syncs asks now t _ (client.Begins _ s a b c) = ⊥
IsPassing syncs asks now t _ (client.Follows _ s u e g) = FollowsBy asks t.here.store s u g.how
IsPassing syncs asks now t _ (client.Learns _ e a b) = ⊥
IsPassing syncs asks now t _ (client.Caches _ clean) = (y : CleanPage) → Has y clean → Has y t.here.store.pages.clean
IsPassing syncs asks now t _ (client.Writes _ s f p bytes n se sv own m h) = Uncut t f.ino
IsPassing syncs asks now t _ (client.Reads _ ino p m i clean) = Uncut t ino
IsPassing syncs asks now t u c = Unit {0}

abbrev pub Changes : List Operation → Part → Stamp → Turn → Turn → Type 0
Changes syncs asks now t u = Only (IsPassing syncs asks) now t u

pub changes : {syncs : List Operation} {asks : Part} {now : Stamp} {t u : Turn} → Changes syncs asks now t u → client.Changes now t u
changes {syncs} {asks} {now} {t} {u} c = all (IsPassing syncs asks) now t u c

-- what may answer fewer syncs, and ask less, may more
pub wider : (os syncs : List Operation) (a asks : Part) {now : Stamp} {t u : Turn} → ((o : Operation) → Has o os → Has o syncs) → (KeepsIn a → KeepsIn asks) →
    (AsksIn a → AsksIn asks) → Changes os a now t u → Changes syncs asks now t u
wider os syncs a asks {now} {t} {u} f k g cs = lifted (IsPassing os a) (IsPassing syncs asks) now one t u cs
  where
    answer : (v : Turn) (op : ℕ) (x : AppAnswer) → AnswersRight os v op x → AnswersRight syncs v op x
    answer v op answers.Hard h = record { operation = h.operation; has = f h.operation h.has; op_is = h.op_is; file = h.file; was_asked = h.was_asked; own = h.own; hard = h.hard }
    answer v op x h = tt

    said : (v : Turn) (o : Output) → SaysRight os now v o → SaysRight syncs now v o
    said v (outputs.Send m) h = h
    said v (outputs.Submit number at what) h = h
    said v (outputs.Answer op x) h = answer v op x h
    said v (outputs.Note n) h = h

    follows : (st : Store) (s r : ClientSession) (c : SessionChange st s r) → FollowsBy a st s r c → FollowsBy asks st s r c
    follows st s r (Keeps _ _ x) h = k h
    follows st s _ (DropsLock _ ino l) h = h
    follows st s _ (IsReasserted _) h = h
    follows st s _ (EndsRequest _ stamp) h = h
    follows st s _ (NewEpoch _ epoch n) h = h
    follows st s _ (AsksNew _ r now body cutting x c i) h = g h
    follows st s _ (AsksAgain _ now q e) h = g h

    one : (v w : Turn) (c : Change now v w) → IsPassing os a now v w c → IsPassing syncs asks now v w c
    one v _ (client.Says _ o p) h = said v o h
    one v _ (client.Operates _ os) h = tt
    one v _ (client.Answers _ os ops x) h = h
    one v _ (client.Greets _ x) h = tt
    one v _ (client.TellsLost _ lost) h = h
    one v _ (client.Begins _ s x b c) h = h
    one v _ (client.Follows _ s r e x) h = follows v.here.store s r x.how h
    one v _ (client.Learns _ e x b) h = h
    one v _ (client.Forgets _ ino p i) h = tt
    one v _ (client.Caches _ clean) h = h
    one v _ (client.Writes _ s f p bytes n se sv own m x) h = h
    one v _ (client.Reads _ ino p m i clean) h = h
    one v _ (client.Submits _ s ino p d m se e i w) h = tt

pub Still : {syncs : List Operation} {asks : Part} {now : Stamp} (t : Turn) → Changes syncs asks now t t
Still t = Ends t

pub one : {syncs : List Operation} {asks : Part} {now : Stamp} {t u : Turn} → Changes syncs asks now t u → Changes syncs asks now t u
one c = c

pub both : {syncs : List Operation} {asks : Part} {now : Stamp} {t u v : Turn} → Changes syncs asks now t u → Changes syncs asks now u v →
    Changes syncs asks now t v
both {syncs} {asks} {now} {t} {u} {v} a b = joined (IsPassing syncs asks) now t u v a b

pub if_changes : {syncs : List Operation} {asks : Part} {now : Stamp} (b : Bool) (t u v : Turn) → (b ≡ true → Changes syncs asks now t u) →
    (b ≡ false → Changes syncs asks now t v) → Changes syncs asks now t (if b then u else v)
if_changes true t u v f g = f refl
if_changes false t u v f g = g refl

pub Says : {syncs : List Operation} {asks : Part} {now : Stamp} (t : Turn) (o : Output) → Plain o → SaysRight syncs now t o → Changes syncs asks now t (say t o)
Says {syncs} {asks} {now} t o p q = single (IsPassing syncs asks) now t _ (client.Says t o p) q

pub Operates : {syncs : List Operation} {asks : Part} {now : Stamp} (t : Turn) (os : List Operation) → Changes syncs asks now t (with_operations os t)
Operates {syncs} {asks} {now} t os = single (IsPassing syncs asks) now t _ (client.Operates t os) tt

pub Greets : {syncs : List Operation} {asks : Part} {now : Stamp} (t : Turn) (g : Option Stamp) → Changes syncs asks now t (with_greeted g t)
Greets {syncs} {asks} {now} t g = single (IsPassing syncs asks) now t _ (client.Greets t g) tt

pub Follows : {syncs : List Operation} {asks : Part} {now : Stamp} (t : Turn) (s u : ClientSession) → t.here.session ≡ Some s → (g : GoesOn t.here.store s u) →
    FollowsBy asks t.here.store s u g.how → Changes syncs asks now t (with_session u t)
Follows {syncs} {asks} {now} t s u e g q = single (IsPassing syncs asks) now t _ (client.Follows t s u e g) q

pub Forgets : {syncs : List Operation} {asks : Part} {now : Stamp} (t : Turn) (ino : ℕ) (p : PageNo) → pages.is_idle t.here.store ino ≡ true →
    Changes syncs asks now t (with_store (pages.forget_from t.here.store ino p) t)
Forgets {syncs} {asks} {now} t ino p i = single (IsPassing syncs asks) now t _ (client.Forgets t ino p i) tt

pub Caches : {syncs : List Operation} {asks : Part} {now : Stamp} (t : Turn) (clean : List CleanPage) →
    ((y : CleanPage) → Has y clean → Has y t.here.store.pages.clean) →
    Changes syncs asks now t (with_store (record t.here.store { pages = record t.here.store.pages { clean = clean } }) t)
Caches {syncs} {asks} {now} t clean q = single (IsPassing syncs asks) now t _ (client.Caches t clean) q

pub Writes : {syncs : List Operation} {asks : Part} {now : Stamp} (t : Turn) (s : ClientSession) (f : FileId) (p : PageNo) (bytes : List ℕ) (n : Note) →
    t.here.session ≡ Some s → is_serving t.config s now ≡ true →
    f.server ≡ t.here.server → pages.is_mapped t.here.store.extents f.ino p ≡ true → ChangesPage f p n → Uncut t f.ino →
    Changes syncs asks now t (passes.with_pages_changed (pages.written t.here.store.pages f.ino p bytes) f.ino p (note t n))
Writes {syncs} {asks} {now} t s f p bytes n se sv own m h q = single (IsPassing syncs asks) now t _ (client.Writes t s f p bytes n se sv own m h) q

pub Reads : {syncs : List Operation} {asks : Part} {now : Stamp} (t : Turn) (ino : ℕ) (p : PageNo) (m : MappedBlock) →
    pages.mapping_of t.here.store.extents ino p ≡ Some m → pages.dirty_of t.here.store.pages ino p ≡ None → Uncut t ino →
    Changes syncs asks now t (passes.submit_read t ino p m)
Reads {syncs} {asks} {now} t ino p m i clean q = single (IsPassing syncs asks) now t _ (client.Reads t ino p m i clean) q

pub Submits : {syncs : List Operation} {asks : Part} {now : Stamp} (t : Turn) (s : ClientSession) (ino : ℕ) (p : PageNo) (d : DirtyPage) (m : MappedBlock) →
    t.here.session ≡ Some s → pages.dirty_of t.here.store.pages ino p ≡ Some d →
    pages.mapping_of t.here.store.extents d.ino d.page ≡ Some m → pages.is_being_written t.here.store.commands d.ino d.page ≡ false → Changes syncs asks now t (passes.submit_write t d m)
Submits {syncs} {asks} {now} t s ino p d m se e i w = single (IsPassing syncs asks) now t _ (client.Submits t s ino p d m se e i w) tt

pub changes_by_keeping : {syncs : List Operation} {asks : Part} {now : Stamp} (t : Turn) (o : Operation) → Changes syncs asks now t (keep o t)
changes_by_keeping t o = Operates t (t.operations ++ o ∷ [])

pub changes_by_answer : {syncs : List Operation} {asks : Part} {now : Stamp} (t : Turn) (op : ℕ) (a : AppAnswer) → AnswersRight syncs t op a →
    Changes syncs asks now t (answered t op a)
changes_by_answer t op a q = Says t (outputs.Answer op a) tt q
