-- Outstanding reads of a client's pages, through the rules of a client.
use Rattle.std.specs.Prelude.{◌≡◌, ◌≤◌, ◌⊎◌, true, List, None, ◌++◌}
use Rattle.st_base.specs.declared.ids.FileId.{FileId}
use Rattle.st_base.specs.declared.ids.PageNo.{PageNo}
use Rattle.st_base.specs.declared.ids.ServerId.{ServerId}
use Rattle.st_base.specs.declared.ids.Stamp.{Stamp}
use Rattle.st_messages.specs.declared.output.Note.{Note}
use Rattle.st_messages.specs.declared.output.Output.{Output}
use Rattle.st_messages.specs.declared.output.Output.TheVariants as outputs
use Rattle.st_rules.specs.declared.client.IoKind.TheVariants as io
use Rattle.st_rules.specs.declared.client.PageCommand.{PageCommand}
use Rattle.st_rules.specs.ClientPages as pages
use Rattle.st_rules.specs.ClientPages.{Store}
use Rattle.st_rules.specs.ClientState.{Turn}
use Rattle.st_lemmas.specs.Lists.{Has}
use Rattle.st_laws_steps.specs.Client.Client.{ChangesPage}

-- the page of an outstanding read is not dirty, and is known as mapped
abbrev pub ReadsClean : Store → Type 0
ReadsClean st =
    (pc : PageCommand) → Has pc st.commands → pc.kind ≡ io.Read →
    (pages.dirty_of st.pages pc.ino pc.page ≡ None) × (pages.is_mapped st.extents pc.ino pc.page ≡ true)

-- no output notes a change of a command's page at a server
abbrev pub Unchanged : ServerId → PageCommand → List Output → Type 0
Unchanged sv pc os =
    (n : Note) → Has (outputs.Note n) os → (f : FileId) (p : PageNo) → ChangesPage f p n → f.server ≡ sv → f.ino ≡ pc.ino → p ≡ pc.page → ⊥

-- What rules leave of outstanding reads: each one was outstanding, and its page was not changed since; or it is new.
pub record ReadsKept (now : Stamp) (t u : Turn) : Type 0 where
  pub low : t.next_command ≤ u.next_command
  pub server : u.here.server ≡ t.here.server
  pub more : List Output
  pub out : u.out ≡ t.out ++ more
  pub notes : (n : Note) → Has (outputs.Note n) more → (f : FileId) (p : PageNo) → ChangesPage f p n → f.server ≡ t.here.server
  pub reads : (pc : PageCommand) → Has pc u.here.store.commands → pc.kind ≡ io.Read →
      (Has pc t.here.store.commands × Unchanged t.here.server pc more) ⊎ (t.next_command ≤ pc.number)
  pub clean : ReadsClean t.here.store → ReadsClean u.here.store
