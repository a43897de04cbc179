-- What a client receives, is asked and loses is made of changes that submit nothing and change no page.
use Rattle.st_lemmas.proofs.Words
use Words.{◌≡◌, ℕ, ◌<◌, Bool, true, false, List, ◌++◌, ◌∷◌, [], Option, Some, None, refl, if◌then◌else◌, map, Stamp, AppAnswer, Output, CleanPage, KnownExtent}
use Words.{LostPage, Operation}
use Words.outputs
use Words.ClientLease as lease
use Words.ClientPages as pages
use Words.ClientState.{ClientSession, Turn, answer_each, answer_to, answered, keep, say, with_lost_rows, with_operations, with_session, with_store}
use Rattle.st_laws_steps.specs.Client.Client as client
use Rattle.st_laws_steps.specs.Client.Client.{Change, GoesOn, IsBegun, Plain, Unasked, Unhard, UnhardAnswer, with_greeted}
use Rattle.st_laws_steps.proofs.Client.Only.{Only, all, joined, single, Ends}

-- what is said: a message or a note only if a message is received, and no answer that a sync is hard
abbrev pub SaysCalm : Bool → Output → Type 0
SaysCalm receives (outputs.Note n) = receives ≡ true
SaysCalm receives (outputs.Send m) = receives ≡ true
SaysCalm receives o = Unhard o

-- Neither changes a page, nor submits a command, nor forgets a file, nor answers a sync hard. The session changes and extents are learned only if a
-- message is received, and the clean pages change only if none is.
abbrev pub IsCalm : Bool → (now : Stamp) (t u : Turn) → Change now t u → Type 0
IsCalm receives now t _ (client.Says _ o p) = SaysCalm receives o
IsCalm receives now t _ (client.Answers _ os ops a) = UnhardAnswer a
IsCalm receives now t _ (client.Begins _ s a b c) = receives ≡ true
IsCalm receives now t _ (client.Follows _ s u e g) = receives ≡ true
IsCalm receives now t _ (client.Learns _ e a b) = receives ≡ true
IsCalm receives now t _ (client.Forgets _ ino p i) = ⊥
IsCalm receives now t _ (client.Caches _ clean) = receives ≡ false
IsCalm receives now t _ (client.Writes _ s f p bytes n se sv own m h) = ⊥
IsCalm receives now t _ (client.Reads _ ino p m i clean) = ⊥
IsCalm receives now t _ (client.Submits _ s ino p d m se e i w) = ⊥
IsCalm receives now t u c = Unit {0}

abbrev pub Changes : Bool → Stamp → Turn → Turn → Type 0
Changes receives now t u = Only (IsCalm receives) now t u

pub changes : {receives : Bool} {now : Stamp} {t u : Turn} → Changes receives now t u → client.Changes now t u
changes {receives} {now} {t} {u} c = all (IsCalm receives) now t u c

pub Still : {receives : Bool} {now : Stamp} (t : Turn) → Changes receives now t t
Still t = Ends t

pub one : {receives : Bool} {now : Stamp} {t u : Turn} → Changes receives now t u → Changes receives now t u
one c = c

pub both : {receives : Bool} {now : Stamp} {t u v : Turn} → Changes receives now t u → Changes receives now u v → Changes receives now t v
both {receives} {now} {t} {u} {v} a b = joined (IsCalm receives) now t u v a b

pub if_changes : {receives : Bool} {now : Stamp} (b : Bool) (t u v : Turn) → (b ≡ true → Changes receives now t u) → (b ≡ false → Changes receives now t v) → Changes receives now t (if b then u else v)
if_changes true t u v f g = f refl
if_changes false t u v f g = g refl

pub Says : {receives : Bool} {now : Stamp} (t : Turn) (o : Output) → Plain o → SaysCalm receives o → Changes receives now t (say t o)
Says {receives} {now} t o p q = single (IsCalm receives) now t _ (client.Says t o p) q

pub Operates : {receives : Bool} {now : Stamp} (t : Turn) (os : List Operation) → Changes receives now t (with_operations os t)
Operates {receives} {now} t os = single (IsCalm receives) now t _ (client.Operates t os) tt

pub Answers : {receives : Bool} {now : Stamp} (t : Turn) (os ops : List Operation) (answer : AppAnswer) → UnhardAnswer answer → Changes receives now t (record t { operations = os; out = t.out ++ map (answer_to answer) ops })
Answers {receives} {now} t os ops a q = single (IsCalm receives) now t _ (client.Answers t os ops a) q

pub Greets : {receives : Bool} {now : Stamp} (t : Turn) (g : Option Stamp) → Changes receives now t (with_greeted g t)
Greets {receives} {now} t g = single (IsCalm receives) now t _ (client.Greets t g) tt

pub TellsLost : {receives : Bool} {now : Stamp} (t : Turn) (lost : List LostPage) → Changes receives now t (with_lost_rows lost t)
TellsLost {receives} {now} t lost = single (IsCalm receives) now t _ (client.TellsLost t lost) tt

pub Begins : {now : Stamp} (t : Turn) (s : ClientSession) → t.here.session ≡ None → now.0 < (lease.end_of t.config s.lease).0 → IsBegun s →
    Changes true now t (with_session s t)
Begins {now} t s a b c = single (IsCalm true) now t _ (client.Begins t s a b c) refl

pub Follows : {now : Stamp} (t : Turn) (s u : ClientSession) → t.here.session ≡ Some s → GoesOn t.here.store s u → Changes true now t (with_session u t)
Follows {now} t s u e g = single (IsCalm true) now t _ (client.Follows t s u e g) refl

pub Learns : {now : Stamp} (t : Turn) (e : KnownExtent) → Unasked t.here.session → (e.mapping ≡ None → pages.known_of t.here.store.extents e.ino e.page ≡ None) →
    Changes true now t (with_store (record t.here.store { extents = pages.with_known e t.here.store.extents }) t)
Learns {now} t e a b = single (IsCalm true) now t _ (client.Learns t e a b) refl

pub Caches : {now : Stamp} (t : Turn) (clean : List CleanPage) → Changes false now t (with_store (record t.here.store { pages = record t.here.store.pages { clean = clean } }) t)
Caches {now} t clean = single (IsCalm false) now t _ (client.Caches t clean) refl

pub changes_by_keeping : {receives : Bool} {now : Stamp} (t : Turn) (o : Operation) → Changes receives now t (keep o t)
changes_by_keeping t o = Operates t (t.operations ++ o ∷ [])

pub changes_by_answer : {receives : Bool} {now : Stamp} (t : Turn) (op : ℕ) (a : AppAnswer) → UnhardAnswer a → Changes receives now t (answered t op a)
changes_by_answer t op a q = Says t (outputs.Answer op a) tt q

pub changes_by_each_answer : {receives : Bool} {now : Stamp} (picked : Operation → Bool) (a : AppAnswer) (t : Turn) → UnhardAnswer a → Changes receives now t (answer_each picked a t)
unfolding answer_each
changes_by_each_answer picked a t q = Answers t _ _ a q
