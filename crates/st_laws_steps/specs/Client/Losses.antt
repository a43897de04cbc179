-- What becomes of an association in a client's step: its lease is lost, or it goes on; and how a disk command ends for it.
use Rattle.std.specs.Prelude.{◌≡◌, ℕ, ◌≤◌, ◌<◌, Bool, true, false, nat_le, Option, Some, None}
use Rattle.st_base.specs.declared.config.Config.{Config}
use Rattle.st_base.specs.declared.ids.PageNo.{PageNo}
use Rattle.st_base.specs.declared.ids.Stamp.{Stamp}
use Rattle.st_messages.specs.declared.output.Note.TheVariants as notes
use Rattle.st_rules.specs.declared.pages.DirtyPage.{DirtyPage}
use Rattle.st_rules.specs.declared.client.IoKind.TheVariants as io
use Rattle.st_rules.specs.declared.client.PageCommand.{PageCommand}
use Rattle.st_rules.specs.declared.client.Request.{Request}
use Rattle.st_rules.specs.ClientLease as lease
use Rattle.st_rules.specs.ClientPages as pages
use Rattle.st_rules.specs.ClientPages.{Store}
use Rattle.st_rules.specs.ClientState.{ClientSession, Association, Turn, note, with_store}
use Rattle.st_rules.specs.Client as cl
use Rattle.st_laws_steps.specs.Client.Client.{map_asked, Changes}

-- nothing is known of the page whose place the outstanding request asks for
abbrev pub AskedFresh : Store → Option Request → Type 0
AskedFresh st asked = (x : ℕ × PageNo) → map_asked asked ≡ Some x → pages.known_of st.extents x.0 x.1 ≡ None

-- the same of a session, if there is one
abbrev pub SessionFresh : Store → Option ClientSession → Type 0
SessionFresh st None = Unit {0}
SessionFresh st (Some s) = AskedFresh st s.requests.asked

-- What always holds of an association: its dirty pages are known as mapped, and nothing is known of the page that is asked for.
pub record Fit (a : Association) : Type 0 where
  pub mapped : (ino : ℕ) (p : PageNo) (d : DirtyPage) → pages.dirty_of a.store.pages ino p ≡ Some d → pages.is_mapped a.store.extents ino p ≡ true
  pub fresh : SessionFresh a.store a.session

-- the lease of a session has ended
abbrev pub is_ended : Config → Stamp → Option ClientSession → Bool
is_ended k now None = false
is_ended k now (Some s) = nat_le (lease.end_of k s.lease).0 now.0

-- a session goes on, or begins
abbrev pub SessionNext : Config → Stamp → Option ClientSession → Option ClientSession → Type 0
SessionNext k now None None = Unit {0}
SessionNext k now None (Some u) = now.0 < (lease.end_of k u.lease).0
SessionNext k now (Some s) None = ⊥
SessionNext k now (Some s) (Some u) = s.lease.date.0 ≤ u.lease.date.0

-- Losing: a lease that has ended is lost, with a note, and nothing is left of the association but its lost pages.
pub data Loses (now : Stamp) (t : Turn) : Turn → Type 0 where
  Lasts : is_ended t.config now t.here.session ≡ false → Loses now t t
  IsLost : (s : ClientSession) → t.here.session ≡ Some s → is_ended t.config now t.here.session ≡ true → (v : Turn) →
      Changes now (note t (notes.Lost t.here.server t.here.life)) v → Loses now t (cl.empty_here v)

-- the command's version is not the page's
abbrev pub IsOutdated : Turn → PageCommand → Type 0
IsOutdated t c = (v : ℕ) (d : DirtyPage) → c.kind ≡ io.Write v → pages.dirty_of t.here.store.pages c.ino c.page ≡ Some d → d.version ≡ v → ⊥

-- without this command
abbrev pub without : ℕ → Turn → Turn
without number t = with_store (record t.here.store { commands = pages.without_command number t.here.store.commands }) t

-- Ending: how the end of the command of a number, done or failed, changes the pages of an association.
pub data Ends (number : ℕ) (ok : Bool) (t : Turn) : Turn → Type 0 where
  Unknown : Ends number ok t t
  -- a read, or a write of an older version
  Passes : (c : PageCommand) → pages.command_of t.here.store.commands number ≡ Some c → IsOutdated t c → Ends number ok t (without number t)
  -- a write of the page as it is, which is done
  Hardens : (c : PageCommand) (v : ℕ) → pages.command_of t.here.store.commands number ≡ Some c → ok ≡ true → c.kind ≡ io.Write v →
      pages.version_of t.here.store.pages c.ino c.page ≡ v → Ends number ok t (cl.hardened (without number t) c)
  -- a write of the page as it is, which failed
  Fails : (c : PageCommand) (v : ℕ) → pages.command_of t.here.store.commands number ≡ Some c → ok ≡ false → c.kind ≡ io.Write v →
      pages.version_of t.here.store.pages c.ino c.page ≡ v → Ends number ok t (cl.with_failed c (without number t))
