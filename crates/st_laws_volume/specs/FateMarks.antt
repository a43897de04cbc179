-- What entries of the volume remember: that their client crashed, and which failed write carried them.
use Rattle.std.specs.Prelude.{◌≡◌, ◌≤◌, ◌<◌, find, ℕ, ◌+◌, Bool, true, false, ◌&&◌, List, [], ◌∷◌, ◌++◌, slice_get, Some, ⊤}
use Rattle.std.specs.List.{list_any}
use Rattle.st_rules.specs.declared.log.Fate.TheVariants as fates
use Rattle.st_rules.specs.declared.log.LogEntry.{LogEntry}
use Rattle.st_rules.specs.declared.log.LogOwner.{LogOwner}
use Rattle.st_rules.specs.declared.world.Carried.{Carried}
use Rattle.st_rules.specs.declared.world.IssuedCommand.{IssuedCommand}
use Rattle.st_rules.specs.declared.world.LeaseLife.{LeaseLife}
use Rattle.st_rules.specs.ClientState.{Association, is_at}
use Rattle.st_rules.specs.Events.{is_change, is_of_life_over, last_write}
use Rattle.st_rules.specs.Safety.{Promise, Step, reports_failure}
use Rattle.st_rules.specs.World.{World, WorldClient, numbered, site_of}
use Rattle.st_laws_volume.specs.Options.{OnSome}
use Rattle.st_laws_volume.specs.Witness.{led_by, led_to}
use Rattle.st_volume.specs.Pages.{Entry}
use Rattle.st_volume.specs.Volume.{Volume}

-- Crashes since: an entry whose client's life a crash ended remembers that its client crashed since
-- it joined the log.

-- a crash ended the life of an owner
abbrev pub is_crash_of : LogOwner → LeaseLife → Bool
is_crash_of o l = l.crashed && is_of_life_over l 0 o

abbrev pub is_crashed_life : List LeaseLife → LogOwner → Bool
is_crashed_life ended o = list_any (is_crash_of o) ended

-- each write and patch of such a life
abbrev pub AreMarked : List LeaseLife → List LogEntry → List Entry → Type 0
AreMarked ended [] es = ⊤
AreMarked ended (o ∷ os) [] = ⊤
AreMarked ended (o ∷ os) (e ∷ es) =
    (is_change o ≡ true → is_crashed_life ended o.of ≡ true → e.crashed ≡ true)
    × AreMarked ended os es

-- Crashes are marked: after every event, if the volume has taken the steps of all events so far.
abbrev pub CrashesAreMarked : Promise
CrashesAreMarked past x =
    OnSome (λ v. AreMarked x.after.world.ended x.after.world.log v.log) (led_by (led_to past x) x).volume

-- Marked entries are of lives that are over: of an earlier life than the present one of a client that runs.
abbrev pub IsPast : World → LogOwner → Type 0
IsPast w o =
    (site : WorldClient) (a : Association)
    → site_of w o.client ≡ Some site
    → site.node.running ≡ true
    → find (is_at o.file.server) site.node.state.associations ≡ Some a
    → o.life.0 < a.life.0

-- each write and patch that is marked, by its place in both logs
abbrev pub ArePast : World → List LogEntry → List Entry → Type 0
ArePast w os es =
    (n : ℕ) (o : LogEntry) (e : Entry)
    → slice_get os n ≡ Some o
    → slice_get es n ≡ Some e
    → is_change o ≡ true
    → e.crashed ≡ true
    → IsPast w o.of

-- Crashed entries are past: after every event, if the volume has taken the steps of all events so far.
abbrev pub CrashedEntriesArePast : Promise
CrashedEntriesArePast past x = OnSome (λ v. ArePast x.after.world x.after.world.log v.log) (led_by (led_to past x) x).volume

-- Failed writes: a pending entry of a life that no crash ended remembers the last write of its page by that life, if this write carried the entry,
-- or carried it along, and was reported failed. Writes go by their clients' own numbers.
abbrev pub IsRemembered : List Step → World → ℕ → LogEntry → Entry → Type 0
IsRemembered past w index o e =
    (x : IssuedCommand) (y : Carried)
    → o.fate ≡ fates.Pending
    → is_crashed_life w.ended o.of ≡ false
    → numbered w.commands (last_write w.commands o.of) ≡ Some x
    → x.carries ≡ Some y
    → index ≤ y.index
    → list_any (reports_failure (last_write w.commands o.of)) past ≡ true
    → e.failed ≡ x.number

-- each entry, by its place in both logs
abbrev pub AreRemembered : List Step → World → Volume → Type 0
AreRemembered past w v =
    (n : ℕ) (o : LogEntry) (e : Entry)
    → slice_get w.log n ≡ Some o
    → slice_get v.log n ≡ Some e
    → IsRemembered past w (n + 1) o e

-- Failed writes are remembered: after every event, if the volume has taken the steps of all events so far.
abbrev pub FailedWritesAreRemembered : Promise
FailedWritesAreRemembered past x = OnSome (AreRemembered (past ++ x ∷ []) x.after.world) (led_by (led_to past x) x).volume
