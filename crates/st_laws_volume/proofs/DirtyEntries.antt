-- In every run dirty pages have entries in the volume, and a client whose pages of a server are full is full in the volume too.
use Rattle.st_lemmas.proofs.Words
use Words.{◌≡◌, ◌≤◌, ℕ, zero, suc, Bool, true, false, List, [], ◌∷◌, ◌++◌, Option, Some, None, refl, sym, ap, ◌∙◌, subst, arith}
use Words.{find, slice_get, ClientId, PageNo, Fate}
use Words.{DirtyPage, LogEntry, LogOwner}
use Words.fates
use Words.ClientPages as pages
use Words.ClientState.{Association, is_at}
use Words.Events.{is_change, latest}
use Words.FlatLog as log
use Words.Lookups.{some_is}
use Words.Numbers.{numbered_below}
use Words.Safety.{Step, steps}
use Words.Truth.{clash}
use Words.World.{World, fresh_world}
use Rattle.st_lemmas.proofs.Marks.{of_entry}
use Rattle.st_rules.specs.History.{Traced, traced}
use Rattle.st_promises.specs.Safe.{EveryRunIsSafe}
use Rattle.st_laws_steps.proofs.Lives.Associations.{own_found}
use Rattle.st_laws_pages.specs.Disks.Folds.{owner_at}
use Rattle.st_laws_pages.specs.Disks.Runs.{PagesAfter}
use Rattle.st_laws_pages.specs.Flush.Flush.{file_at, owner_at_page}
use Rattle.st_laws_volume.specs.DirtyEntries.{AreFull, DirtyPagesHaveEntries, FullClientsAreFull, HaveEntries, IsLive}
use Rattle.st_laws_volume.specs.Logs.{InEveryRun, IsLogOf, IsSame, fate_of}
use Rattle.st_laws_volume.specs.LossMarks.{AllOnce}
use Rattle.st_laws_volume.specs.Witness.{Witness, led_by, led_to}
use Rattle.st_laws_volume.proofs.Carried.{Led}
use Rattle.st_laws_volume.proofs.ChangeLines.{on_both}
use Rattle.st_laws_volume.proofs.CrashedLives.{AreOver, over_at, past_of, is_over}
use Rattle.st_laws_volume.proofs.FailedWrites.{changed}
use Rattle.st_laws_volume.proofs.FailureLives.{PresentOf}
use Rattle.st_laws_volume.proofs.FullPlaces.{HasEntry, entry_has, is_full}
use Rattle.st_laws_volume.proofs.GoneLives.{gone_ended}
use Rattle.st_laws_volume.proofs.LogEntries.{same_first}
use Rattle.st_laws_volume.proofs.LossLines.{first_at}
use Rattle.st_laws_volume.proofs.Options.{on_more}
use Rattle.st_laws_volume.proofs.OwedHolds.{RowsHold, RowsStand, rows_hold}
use Rattle.st_laws_volume.proofs.OwedLines.{once_found}
use Rattle.st_laws_volume.proofs.ReadPages.{throughout_more}
use Rattle.st_volume.specs.Pages.{Entry, is_dropped}
use Rattle.st_volume.specs.Volume.{Volume}
use Rattle.std.specs.Prelude.{option_map}

-- Between events.
module _ (past : List Step) (t : Traced) (it : Witness) (h : RowsHold past t it) (v : Volume) (a : IsLogOf t.world.log v) (rows : RowsStand past t.world v)
    (over : AreOver t.world.ended t.world.log v.log) where
  abbrev w : World
  w = t.world

  -- One dirty page.
  module _ (c : ClientId) (b : Association) (live : IsLive w c b) (ino : ℕ) (p : PageNo) (d : DirtyPage)
      (dirty : pages.dirty_of b.store.pages ino p ≡ Some d) where
    record Entry0 : Type 0 where
      m : ℕ
      index : latest w.log c (file_at b ino) p ≡ suc m
      o : LogEntry
      at : slice_get w.log m ≡ Some o
      own : o.of ≡ owner_at_page c b ino p

    entry0 : Entry0
    entry0 = go (latest w.log c (file_at b ino) p) refl
        (h.met.failures.stand.stand.both.writes.latest_own c live.site live.there live.runs b live.has ino p d dirty)
      where
        at_place : (m : ℕ) → latest w.log c (file_at b ino) p ≡ suc m → (o : Option LogEntry) → slice_get w.log m ≡ o →
            option_map of_entry o ≡ Some (owner_at_page c b ino p) → Entry0
        at_place m z None k q = cc q
        at_place m z (Some o) k q = record { m = m; index = z; o = o; at = k; own = some_is q }

        go : (k : ℕ) → latest w.log c (file_at b ino) p ≡ k → owner_at w.log k ≡ Some (owner_at_page c b ino p) → Entry0
        go zero z q = cc q
        go (suc m) z q = at_place m z (slice_get w.log m) refl q

    place : find (is_at b.server) live.site.node.state.associations ≡ Some b
    place = own_found live.site.node.state.associations (h.over.fates.lives.lives.sites c live.site live.there).once b live.has

    abbrev present : PresentOf w (owner_at_page c b ino p)
    present =
        record { site = live.site; there = live.there; runs = live.runs; a = b; has = live.has; place = place; server = refl; life = refl }

    change : is_change entry0.o ≡ true
    change =
        changed w.log entry0.m entry0.o h.met.failures.stand.entries.cuts entry0.at
        (subst (λ (k : LogOwner). 1 ≤ k.client.0) (sym entry0.own) (numbered_below w.clients c.0 live.site live.there).0) (is_change entry0.o) refl

    f : (f : Entry) × (slice_get v.log entry0.m ≡ Some f) × IsSame entry0.o f
    f = first_at w.log v.log (same_first w.log v.log a.entries) entry0.m entry0.o entry0.at

    untold : f.0.told ≡ false
    untold = rows.untold_ c live.site b ino p d live.there live.runs live.has dirty entry0.m entry0.o f.0 entry0.at f.1 entry0.index entry0.own

    uncrashed : f.0.crashed ≡ false
    uncrashed = go f.0.crashed refl
      where
        go : (k : Bool) → f.0.crashed ≡ k → k ≡ false
        go false z = refl
        go true z =
            let past_life = over_at w.ended w.log v.log over entry0.m entry0.o f.0 entry0.at f.1 change z in
            let low =
            past_of w h.over.fates.lives (owner_at_page c b ino p) (ap (is_over w.ended) (sym entry0.own) ∙ past_life)
            live.site b live.there live.runs place in
            absurd (omega (arith, low))

    dropped_gone : (z : Fate) → is_dropped (fate_of z) ≡ true → log.counts z ≡ false
    dropped_gone (fates.Gone cause) q = refl
    dropped_gone fates.Pending q = cc q
    dropped_gone fates.Hard q = cc q

    kept : is_dropped f.0.fate ≡ false
    kept = go (is_dropped f.0.fate) refl
      where
        go : (k : Bool) → is_dropped f.0.fate ≡ k → k ≡ false
        go false z = refl
        go true z =
            absurd
            (clash
            (gone_ended w h.over.fates (owner_at_page c b ino p) present entry0.m entry0.o entry0.at entry0.own
            (dropped_gone entry0.o.fate (ap is_dropped (sym f.2.fate) ∙ z)))
            live.lasts)

    has_entry : HasEntry v c b.server ino p
    has_entry = entry_has v c b ino p entry0.m entry0.o f.0 f.1 f.2 change entry0.own untold uncrashed kept

  have_entries : HaveEntries w v
  have_entries c b ino p d live dirty = has_entry c b live ino p d dirty

-- A full client.
are_full : (w : World) (v : Volume) → AllOnce w → HaveEntries w v → AreFull w v
are_full w v once have c b q f p live client at own full =
    let o = once c live.site live.there b live.has in
    is_full v c b.server b.store.pages.dirty o (λ d i. have c b d.ino d.page d live (once_found b.store.pages.dirty o d i)) q client f p at own full

-- In every run.
all_entries : (past : List Step) (x : Step) → Led RowsHold past x → DirtyPagesHaveEntries past x
all_entries past x h =
    on_more (λ v. IsLogOf x.after.world.log v × (RowsStand (past ++ x ∷ []) x.after.world v × AreOver x.after.world.ended x.after.world.log v.log))
    (HaveEntries x.after.world)
    (λ v k. have_entries (past ++ x ∷ []) x.after (led_by (led_to past x) x) h v k.0 k.1.0 k.1.1)
    (led_by (led_to past x) x).volume
    (on_both (IsLogOf x.after.world.log) (λ v. RowsStand (past ++ x ∷ []) x.after.world v × AreOver x.after.world.ended x.after.world.log v.log)
    (led_by (led_to past x) x).volume h.met.failures.log
    (on_both (RowsStand (past ++ x ∷ []) x.after.world) (λ v. AreOver x.after.world.ended x.after.world.log v.log) (led_by (led_to past x) x).volume h.rows
    h.over.over))

pub dirty_pages_have_entries : EveryRunIsSafe → InEveryRun PagesAfter → InEveryRun DirtyPagesHaveEntries
dirty_pages_have_entries safe pages k clients servers disks blocks form es head events =
    throughout_more (Led RowsHold) DirtyPagesHaveEntries all_entries [] (steps es (traced (fresh_world k clients servers disks blocks form)))
    (rows_hold safe pages k clients servers disks blocks form es head events)

pub full_clients_are_full : EveryRunIsSafe → InEveryRun PagesAfter → InEveryRun FullClientsAreFull
full_clients_are_full safe pages k clients servers disks blocks form es head events =
    throughout_more (Led RowsHold) FullClientsAreFull
    (λ past x h. on_more (HaveEntries x.after.world) (AreFull x.after.world) (λ v i. are_full x.after.world v h.once i) (led_by (led_to past x) x).volume
    (all_entries past x h))
    [] (steps es (traced (fresh_world k clients servers disks blocks form))) (rows_hold safe pages k clients servers disks blocks form es head events)
