-- What holds of an association's dirty pages and outstanding writes, through each change, with what the change adds to the world.
use Rattle.st_lemmas.proofs.Words
use Words.{◌≡◌, ℕ, ◌<◌, not, List, [], ◌∷◌, ◌++◌, Some, None, sym, subst, ClientId, Stamp, LogEntry, DirtyPage, IssuedCommand, PageCommand}
use Words.FlatLog as log
use Words.FlatLog.{owner}
use Words.ClientPages as pages
use Words.ClientPasses as cp
use Words.ClientState.{Turn, note}
use Words.Events.{latest}
use Words.Safety.{Step}
use Words.Lists.{Has}
use Words.io
use Rattle.st_laws_steps.specs.Client.Client.{Change, Says, Operates, Answers, Greets, TellsLost, Begins, Follows, Learns, Forgets, Caches, Writes, Reads}
use Rattle.st_laws_steps.specs.Client.Client.{Submits}
use Rattle.st_laws_pages.specs.Flush.Flush.{file_at, Cared, NumbersBelow, NumbersApart}
use Rattle.st_laws_pages.proofs.Flush.Caring.{written_cared, read_cared, submitted_cared}
use Rattle.st_laws_pages.proofs.Flush.Ending.{IsQuiet, quiet_cared, apart_fewer, apart_more}
use Rattle.st_laws_steps.proofs.Client.Nexts.{dirty_on}

-- the world's commands and log after one more entry of this association
pub record AddsEntry (c : ClientId) (t : Turn) (f : Rattle.st_base.specs.declared.ids.FileId.FileId) (p : Rattle.st_base.specs.declared.ids.PageNo.PageNo) (cs ds : List IssuedCommand) (es gs : List LogEntry) : Type 0 where
  pub change : Rattle.st_rules.specs.declared.log.Change.Change
  pub commands : ds ≡ cs
  pub log : gs ≡ es ++ log.pending (owner c t.here.life f p) change ∷ []

-- after a read
pub record AddsRead (t : Turn) (cs ds : List IssuedCommand) (es gs : List LogEntry) : Type 0 where
  pub command : IssuedCommand
  pub commands : ds ≡ cs ++ command ∷ []
  pub log : gs ≡ es
  pub number : command.number ≡ t.next_command
  pub carries : command.carries ≡ None

-- after a write of a dirty page
pub record AddsWrite (c : ClientId) (t : Turn) (d : DirtyPage) (cs ds : List IssuedCommand) (es gs : List LogEntry) : Type 0 where
  pub command : IssuedCommand
  pub commands : ds ≡ cs ++ command ∷ []
  pub log : gs ≡ es
  pub number : command.number ≡ t.next_command
  pub client : command.client ≡ c
  pub life : command.life ≡ t.here.life
  pub carries : command.carries ≡ Some (record { file = file_at t.here d.ino; page = d.page; index = latest es c (file_at t.here d.ino) d.page })

-- after a change that adds nothing
pub record AddsNothing (cs ds : List IssuedCommand) (es gs : List LogEntry) : Type 0 where
  pub commands : ds ≡ cs
  pub log : gs ≡ es

-- What a change adds to the world's commands and log.
abbrev pub Adds : (c : ClientId) (now : Stamp) (t u : Turn) → Change now t u → (cs ds : List IssuedCommand) (es gs : List LogEntry) → Type 0
Adds c now t _ (Writes _ s f p bytes n e sv own m h) cs ds es gs = AddsEntry c t f p cs ds es gs
Adds c now t _ (Reads _ ino p m i clean) cs ds es gs = AddsRead t cs ds es gs
Adds c now t _ (Submits _ s ino p d m e i k w) cs ds es gs = AddsWrite c t d cs ds es gs
Adds c now t u ch cs ds es gs = AddsNothing cs ds es gs

-- the world's lists by their equations
moved : (past : List Step) (c : ClientId) (starts : ℕ) (u : Turn) (cs ds : List IssuedCommand) (es gs : List LogEntry) → ds ≡ cs → gs ≡ es → Cared past cs es c starts u.next_command u.here → Cared past ds gs c starts u.next_command u.here
moved past c starts u cs ds es gs a b h = subst (λ x. Cared past x gs c starts u.next_command u.here) (sym a) (subst (λ x. Cared past cs x c starts u.next_command u.here) (sym b) h)

quiet : (past : List Step) (c : ClientId) (starts : ℕ) (now : Stamp) (t u : Turn) (ch : Change now t u) → IsQuiet now t u ch → (cs ds : List IssuedCommand) (es gs : List LogEntry) → AddsNothing cs ds es gs → Cared past cs es c starts t.next_command t.here → Cared past ds gs c starts u.next_command u.here
quiet past c starts now t u ch q cs ds es gs z h = moved past c starts u cs ds es gs z.commands z.log (quiet_cared past cs es c starts now t u ch q h)

-- Each change keeps what holds of the association, in the world with what it adds.
pub change_cared : (past : List Step) (c : ClientId) (starts : ℕ) (now : Stamp) (t u : Turn) (ch : Change now t u) (cs ds : List IssuedCommand) (es gs : List LogEntry) → Adds c now t u ch cs ds es gs → NumbersBelow cs c starts t.next_command → Cared past cs es c starts t.next_command t.here →
    Cared past ds gs c starts u.next_command u.here
unfolding cp.submit_read cp.submit_write cp.submit_command
change_cared past c starts now t _ (Says _ o p) cs ds es gs z nb h = quiet past c starts now t _ (Says t o p) tt cs ds es gs z h
change_cared past c starts now t _ (Operates _ os) cs ds es gs z nb h = quiet past c starts now t _ (Operates t os) tt cs ds es gs z h
change_cared past c starts now t _ (Answers _ os ops a) cs ds es gs z nb h = quiet past c starts now t _ (Answers t os ops a) tt cs ds es gs z h
change_cared past c starts now t _ (Greets _ g) cs ds es gs z nb h = quiet past c starts now t _ (Greets t g) tt cs ds es gs z h
change_cared past c starts now t _ (TellsLost _ lost) cs ds es gs z nb h = quiet past c starts now t _ (TellsLost t lost) tt cs ds es gs z h
change_cared past c starts now t _ (Begins _ s e b n) cs ds es gs z nb h = quiet past c starts now t _ (Begins t s e b n) tt cs ds es gs z h
change_cared past c starts now t _ (Follows _ s v e g) cs ds es gs z nb h = quiet past c starts now t _ (Follows t s v e g) tt cs ds es gs z h
change_cared past c starts now t _ (Learns _ e v n) cs ds es gs z nb h = quiet past c starts now t _ (Learns t e v n) tt cs ds es gs z h
change_cared past c starts now t _ (Forgets _ ino p i) cs ds es gs z nb h = quiet past c starts now t _ (Forgets t ino p i) tt cs ds es gs z h
change_cared past c starts now t _ (Caches _ clean) cs ds es gs z nb h = quiet past c starts now t _ (Caches t clean) tt cs ds es gs z h
change_cared past c starts now t _ (Writes _ s f p bytes n e sv own m x) cs ds es gs z nb h = moved past c starts (cp.with_pages_changed (pages.written t.here.store.pages f.ino p bytes) f.ino p (note t n)) cs ds _ gs z.commands z.log (written_cared past cs es c starts t.next_command t.here f p bytes z.change own h)
change_cared past c starts now t _ (Reads _ ino p m i clean) cs ds es gs z nb h = moved past c starts (cp.submit_read t ino p m) _ ds es gs z.commands z.log (read_cared past cs es c starts t.next_command t.here ino p z.command z.number z.carries nb h)
change_cared past c starts now t _ (Submits _ s ino p d m e i k w) cs ds es gs z nb h =
    let o = dirty_on t.here.store.pages ino p d i in
    moved past c starts (cp.submit_write t d m) _ ds es gs z.commands z.log (submitted_cared past cs es c starts t.next_command t.here ino p d z.command i o.0 o.1 w z.number z.client z.life z.carries nb h)

-- The numbers of outstanding commands stay apart.
pub change_apart : (now : Stamp) (t u : Turn) → Change now t u → ((pc : PageCommand) → Has pc t.here.store.commands → pc.number < t.next_command) → NumbersApart t.here.store.commands → NumbersApart u.here.store.commands
unfolding cp.submit_read cp.submit_write cp.submit_command pages.begin_command pages.forget_read pages.forget_from
change_apart now t _ (Says _ o p) low h = h
change_apart now t _ (Operates _ os) low h = h
change_apart now t _ (Answers _ os ops a) low h = h
change_apart now t _ (Greets _ g) low h = h
change_apart now t _ (TellsLost _ lost) low h = h
change_apart now t _ (Begins _ s e b n) low h = h
change_apart now t _ (Follows _ s v e g) low h = h
change_apart now t _ (Learns _ e v n) low h = h
change_apart now t _ (Forgets _ ino p i) low h = h
change_apart now t _ (Caches _ clean) low h = h
change_apart now t _ (Writes _ s f p bytes n e sv own m x) low h = apart_fewer (λ c. not (pages.is_read_of f.ino p c)) t.here.store.commands h
change_apart now t _ (Reads _ ino p m i clean) low h = apart_more t.here.store.commands (pages.page_command t.next_command ino p io.Read) low h
change_apart now t _ (Submits _ s ino p d m e i k w) low h = apart_more t.here.store.commands (pages.page_command t.next_command d.ino d.page (io.Write d.version)) low h
