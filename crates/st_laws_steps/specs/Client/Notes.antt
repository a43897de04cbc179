-- What the notes of a client's step say about its pages: a page that was changed is dirty, under a lease that is not over.
use Rattle.std.specs.Prelude.{◌≡◌, ℕ, ◌<◌, List, [], ◌∷◌, Some}
use Rattle.st_base.specs.declared.config.Config.{Config}
use Rattle.st_base.specs.declared.ids.FileId.{FileId}
use Rattle.st_base.specs.declared.ids.PageNo.{PageNo}
use Rattle.st_base.specs.declared.ids.Stamp.{Stamp}
use Rattle.st_messages.specs.declared.output.Note.TheVariants as notes
use Rattle.st_messages.specs.declared.output.Output.{Output}
use Rattle.st_messages.specs.declared.output.Output.TheVariants as outputs
use Rattle.st_rules.specs.declared.pages.DirtyPage.{DirtyPage}
use Rattle.st_rules.specs.ClientLease as lease
use Rattle.st_rules.specs.ClientPages as pages
use Rattle.st_rules.specs.ClientState.{ClientSession, Association}
use Rattle.st_lemmas.specs.Lists.{Has}

-- a fact of the page that an output says to be changed
abbrev pub NoteAt : (FileId → PageNo → Type 0) → Output → Type 0
NoteAt Q (outputs.Note (notes.Accepted f p bytes)) = Q f p
NoteAt Q (outputs.Note (notes.Patched f p at bytes)) = Q f p
NoteAt Q o = Unit {0}

-- the same of all pages that the outputs say to be changed
abbrev pub NotesAll : (FileId → PageNo → Type 0) → List Output → Type 0
NotesAll Q [] = Unit {0}
NotesAll Q (o ∷ os) = record { one : NoteAt Q o; rest : NotesAll Q os }

-- A page that was changed is dirty at its server's association, whose lease is not over.
pub record IsChanged (k : Config) (now : Stamp) (a : Association) (f : FileId) (p : PageNo) : Type 0 where
  pub server : f.server ≡ a.server
  pub session : ClientSession
  pub is : a.session ≡ Some session
  pub before : now.0 < (lease.end_of k session.lease).0
  pub page : DirtyPage
  pub dirty : pages.dirty_of a.store.pages f.ino p ≡ Some page

-- at one of these associations
abbrev pub IsChangedAt : Config → Stamp → List Association → FileId → PageNo → Type 0
IsChangedAt k now al f p = (a : Association) × Has a al × IsChanged k now a f p

-- what is dirty stays so
abbrev pub StaysDirty : Association → Association → Type 0
StaysDirty a b =
    (ino : ℕ) (p : PageNo) (d : DirtyPage) → pages.dirty_of a.store.pages ino p ≡ Some d → (e : DirtyPage) × (pages.dirty_of b.store.pages ino p ≡ Some e)
