-- Files whose sync was answered hard: no page of them is dirty then that was not changed since.
use Rattle.std.specs.Prelude.{◌≡◌, ℕ, Bool, true, false, ◌&&◌, ◌||◌, ◌==◌, if◌then◌else◌, List, [], ◌∷◌, Option, Some}
use Rattle.st_base.specs.declared.ids.ClientId.{ClientId}
use Rattle.st_base.specs.declared.ids.FileId.{FileId}
use Rattle.st_base.specs.declared.ids.PageNo.{PageNo}
use Rattle.st_base.specs.declared.ids.ServerId.{ServerId}
use Rattle.st_messages.specs.declared.answer.AppAnswer.{AppAnswer}
use Rattle.st_messages.specs.declared.answer.AppAnswer.TheVariants as answers
use Rattle.st_messages.specs.declared.ask.Ask.{Ask}
use Rattle.st_messages.specs.declared.ask.Ask.TheVariants as asks
use Rattle.st_rules.specs.declared.observation.Observation.{Observation}
use Rattle.st_rules.specs.declared.observation.Observation.TheVariants as seen
use Rattle.st_rules.specs.declared.pages.DirtyPage.{DirtyPage}
use Rattle.st_rules.specs.ClientPages.{dirty_of}
use Rattle.st_rules.specs.ClientState.{Association}
use Rattle.st_rules.specs.Keys.{same_client}
use Rattle.st_rules.specs.Safety.{Promise, ask_of}
use Rattle.st_rules.specs.World.{WorldClient, site_of}
use Rattle.st_lemmas.specs.Lists.{Has}

-- a sync of a file of a server
abbrev pub is_sync_at : ServerId → ℕ → Option Ask → Bool
is_sync_at s ino (Some (asks.Sync f)) = (f.server.0 == s.0) && (f.ino == ino)
is_sync_at s ino o = false

-- a page of a server
abbrev pub is_page_at : ServerId → ℕ → PageNo → FileId → PageNo → Bool
is_page_at s ino p f q = ((f.server.0 == s.0) && (f.ino == ino)) && (q.0 == p.0)

-- Whether a sync of a page's file was answered hard to a client, and the client has not changed the page since: after one more line, and after lines.
abbrev pub after_hard : Bool → ServerId → ℕ → Bool → Option Ask → AppAnswer → Bool
after_hard mine s ino b asked answers.Hard = (mine && is_sync_at s ino asked) || b
after_hard mine s ino b asked answer = b

abbrev pub after_line : (ℕ → Option Ask) → ClientId → ServerId → ℕ → PageNo → Bool → Observation → Bool
after_line asked c s ino p b (seen.Answered d op answer) = after_hard (same_client d c) s ino b (asked op) answer
after_line asked c s ino p b (seen.Wrote i d f q bytes) = if same_client d c && is_page_at s ino p f q then false else b
after_line asked c s ino p b (seen.Patched i d f q at bytes) = if same_client d c && is_page_at s ino p f q then false else b
after_line asked c s ino p b o = b

unfoldable pub after_lines : (ℕ → Option Ask) → ClientId → ServerId → ℕ → PageNo → Bool → List Observation → Bool
after_lines asked c s ino p b [] = b
after_lines asked c s ino p b (o ∷ os) = after_lines asked c s ino p (after_line asked c s ino p b o) os

-- Hard files are clean: a page that is dirty after an event was changed after each answer of the event that its file is hard.
abbrev pub HardFilesAreClean : Promise
HardFilesAreClean past x =
    (c : ClientId) (site : WorldClient) (a : Association) (ino : ℕ) (p : PageNo) (d : DirtyPage)
    → site_of x.after.world c ≡ Some site
    → Has a site.node.state.associations
    → dirty_of a.store.pages ino p ≡ Some d
    → after_lines (ask_of past x c) c a.server ino p false x.seen ≡ false
