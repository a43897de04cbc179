-- What is read of a snapshot.
use Rattle.std.proofs.Common.{◌≡◌, ℕ, ◌+◌, ◌<◌, ◌≤◌, List, [], ◌++◌, length, refl, sym, ap, subst, ◌∙◌, append_assoc, append-nil, arith}
use Rattle.std.specs.Prelude.{IfErr, IfOk, Result, Ok, Err}
use Rattle.st_journal.specs.Parts.{stable_of}
use Rattle.st_journal.specs.declared.stable.Stable.{Stable as Restored}
use Rattle.std.specs.List.{AllByRecursion}
use Rattle.std.proofs.lemmas.List.{length-append}
use Rattle.st_extents.specs.Layout.{Shape, with_shape}
use Rattle.st_extents.specs.Restored as extents
use Rattle.st_extents.specs.declared.restored.RestoreRefusal.{RestoreRefusal as ExtentsRefusal}
use Rattle.st_extents.specs.declared.restored.RestoreRefusal.TheVariants as extents_refusals
use Rattle.st_namespace.specs.Order.{IsInOrder}
use Rattle.st_namespace.specs.declared.restored.RestoreRefusal.{RestoreRefusal as NamesRefusal}
use Rattle.st_namespace.specs.declared.restored.RestoreRefusal.TheVariants as names_refusals
use Rattle.st_rules.specs.Names.{Names}
use Rattle.st_rules.specs.Extents.{Extents}
use Rattle.st_rules.specs.Server.{Stable}
use Rattle.st_rules.specs.declared.extents.Extent.{Extent}
use Rattle.st_rules.specs.declared.names.NameEntry.{NameEntry}
use Rattle.st_snapshot.specs.Snapshots.{CanBe, CountersFit, EntryFits, Fits, HasShape, PageFits, counters, counters_of, entry, page, rows, snapshot}
use Rattle.st_snapshot.specs.Reading.{AreNoExtents, AreNoNames, ArePartsBefore, ArePartsOf, GoesOn, AreRead, HasNoParts, IsNoEntry, IsNoPage, IsNotRestored, IsReadAs, IsRefused, StopsInEntries, StopsInPages, stable_with}
use Rattle.st_snapshot.specs.declared.counters.Counters.{Counters}
use Rattle.st_snapshot.specs.declared.fault.SnapshotFault.{SnapshotFault}
use Rattle.st_snapshot.specs.declared.fault.SnapshotFault.TheVariants as faults
use Rattle.st_snapshot.proofs.Rows.{none_long, rows_once, rows_stop}
use Rattle.st_snapshot.proofs.Spelled.{counters_long, counters_once, entry_once, page_once}

pub counters_same : (c d : Counters) → c.epoch ≡ d.epoch → c.births ≡ d.births → c.next ≡ d.next → c.limit ≡ d.limit → c.entries ≡ d.entries →
    c.pages ≡ d.pages → c ≡ d
counters_same c d a b e f g h = rw (a, b, e, f, g, h) refl

snapshot_is : (t : Stable) → snapshot t ≡ counters (counters_of t) ++ (rows entry t.names.entries ++ rows page t.extents.rows)
unfolding snapshot
snapshot_is t = refl

-- parts that are read are those of the stable part that they give
module _ (s : Shape) (bytes : List ℕ) (c : Counters) (es : List NameEntry) (xs : List Extent) (p : ArePartsOf bytes c es xs) where
  known : counters_of (stable_with s c es xs) ≡ c
  known = counters_same (counters_of (stable_with s c es xs)) c refl refl refl refl p.entries p.pages

  pub parts_spell : bytes ≡ snapshot (stable_with s c es xs)
  parts_spell =
      p.parts ∙
      (ap (λ (l : List ℕ). counters c ++ (rows entry es ++ l)) (append-nil (rows page xs)) ∙
      (ap (λ (d : Counters). counters d ++ (rows entry es ++ rows page xs)) (sym known) ∙ sym (snapshot_is (stable_with s c es xs))))

  pub parts_fit : Fits (stable_with s c es xs)
  parts_fit = record { counters = subst CountersFit (sym known) p.counters_fit; entries = p.entries_fit; pages = p.pages_fit }

-- a snapshot and other parts that are in front of the same bytes
module _ (t : Stable) (fits : Fits t) (bytes : List ℕ) (is : bytes ≡ snapshot t) where
  whole : (c : Counters) (rest : List ℕ) → CountersFit c → bytes ≡ counters c ++ rest →
      (c ≡ counters_of t) × (rest ≡ rows entry t.names.entries ++ rows page t.extents.rows)
  whole c rest f e = counters_once c (counters_of t) rest (rows entry t.names.entries ++ rows page t.extents.rows) f fits.counters
      (sym e ∙ (is ∙ snapshot_is t))

  none_short : length bytes < 32 → ⊥
  none_short l = let n = counters_long (counters_of t) bytes _ (is ∙ snapshot_is t) in omega (arith, l, n)

  no_entries : (at : ℕ) → StopsInEntries bytes at → ⊥
  no_entries at h =
      let known = whole h.c h.rest h.fit h.parts in
      rows_stop entry EntryFits entry_once h.stops.done t.names.entries h.stops.rest (rows page t.extents.rows) h.stops.each fits.entries
      (omega (arith, h.stops.fewer, ap (λ (c : Counters). c.entries) known.0)) (sym h.stops.parts ∙ known.1) h.stops.none

  after_entries : (c : Counters) (es : List NameEntry) (rest : List ℕ) → CountersFit c → length es ≡ c.entries → AllByRecursion EntryFits es →
      bytes ≡ counters c ++ (rows entry es ++ rest) → (c ≡ counters_of t) × (rest ≡ rows page t.extents.rows)
  after_entries c es rest f n g e =
      let known = whole c (rows entry es ++ rest) f e in
      let same = rows_once entry EntryFits entry_once es t.names.entries rest (rows page t.extents.rows) g fits.entries
      (n ∙ ap (λ (d : Counters). d.entries) known.0) known.1 in
      (known.0, same.1)

  no_pages : (at : ℕ) → StopsInPages bytes at → ⊥
  no_pages at h =
      let known = after_entries h.c h.es h.rest h.fit h.entries h.entries_fit h.parts in
      rows_stop page PageFits page_once h.stops.done t.extents.rows h.stops.rest [] h.stops.each fits.pages
      (omega (arith, h.stops.fewer, ap (λ (c : Counters). c.pages) known.0)) (sym h.stops.parts ∙ (known.1 ∙ sym (append-nil (rows page t.extents.rows))))
      h.stops.none

  not_longer : (at : ℕ) → GoesOn bytes at → ⊥
  not_longer at h =
      let known = after_entries h.c h.es (rows page h.xs ++ h.more) h.parts.counters_fit h.parts.entries h.parts.entries_fit h.parts.parts in
      let same = rows_once page PageFits page_once h.xs t.extents.rows h.more [] h.parts.pages_fit fits.pages
      (h.parts.pages ∙ ap (λ (d : Counters). d.pages) known.0) (known.1 ∙ sym (append-nil (rows page t.extents.rows))) in
      omega (arith, h.some, ap length same.1)

-- One snapshot has one stable part, in a world of one shape.
stable_same : (t u : Stable) → t.epoch.0 ≡ u.epoch.0 → t.names.entries ≡ u.names.entries → t.names.next ≡ u.names.next → t.names.limit ≡ u.names.limit →
    t.extents ≡ u.extents → t ≡ u
stable_same t u a b e f g = rw (a, b, e, f, g) refl

pub snapshot_once : (s : Shape) (t u : Stable) → Fits t → Fits u → HasShape s t → HasShape s u → snapshot t ≡ snapshot u → t ≡ u
snapshot_once s t u f g v w e =
    let known = whole u g (snapshot t) e (counters_of t) (rows entry t.names.entries ++ rows page t.extents.rows) f.counters (snapshot_is t) in
    let entries = rows_once entry EntryFits entry_once t.names.entries u.names.entries (rows page t.extents.rows) (rows page u.extents.rows) f.entries g.entries
    (ap (λ (d : Counters). d.entries) known.0) known.1 in
    let pages = rows_once page PageFits page_once t.extents.rows u.extents.rows [] [] f.pages g.pages
    (ap (λ (d : Counters). d.pages) known.0) (append-nil (rows page t.extents.rows) ∙ (entries.1 ∙ sym (append-nil (rows page u.extents.rows)))) in
    stable_same t u (ap (λ (d : Counters). d.epoch) known.0) entries.0 (ap (λ (d : Counters). d.next) known.0) (ap (λ (d : Counters). d.limit) known.0)
    (v ∙ (ap (λ (xs : List Extent). with_shape s xs t.extents.births) pages.0 ∙
    (ap (λ (n : ℕ). with_shape s u.extents.rows n) (ap (λ (d : Counters). d.births) known.0) ∙ sym w)))

no_names : (r : NamesRefusal) (n : Names) → IsInOrder n → AreNoNames r n → ⊥
no_names names_refusals.NotRising n o h = h o.rising
no_names names_refusals.NotYetGiven n o h = h o.used
no_names names_refusals.NameTwice n o h = h o.names
no_names names_refusals.TooMany n o h = h o.few
no_names names_refusals.Memory n o h = h

no_extents : (r : ExtentsRefusal) (x : Extents) → extents.CanBe x → AreNoExtents r x → ⊥
no_extents extents_refusals.WrongBirth x o h = h o.births
no_extents extents_refusals.WrongPage x o h = h o.low
no_extents extents_refusals.PageTwice x o h = h o.owned.pages
no_extents extents_refusals.NotOwn x o h = h o.owned.own
no_extents extents_refusals.BlockTwice x o h = h o.owned.blocks
no_extents extents_refusals.Memory x o h = h

-- A snapshot that a server may have is refused only if memory ran out.
pub refused_for_memory : (s : Shape) (bytes : List ℕ) (f : SnapshotFault) (t : Stable) → IsRefused s bytes f → Fits t → CanBe t → HasShape s t →
    bytes ≡ snapshot t →
    f ≡ faults.Memory
refused_for_memory s bytes faults.NoCounters t h fits can w is = absurd (none_short t fits bytes is h)
refused_for_memory s bytes (faults.NoEntry at) t h fits can w is = absurd (no_entries t fits bytes is at h)
refused_for_memory s bytes (faults.NoPage at) t h fits can w is = absurd (no_pages t fits bytes is at h)
refused_for_memory s bytes (faults.Longer at) t h fits can w is = absurd (not_longer t fits bytes is at h)
refused_for_memory s bytes (faults.Names r) t h fits can w is =
    let same = snapshot_once s h.t t h.fits fits h.shape w (sym h.parts ∙ is) in
    absurd (no_names r t.names can.names (subst (λ (u : Stable). AreNoNames r u.names) same h.refused))
refused_for_memory s bytes (faults.Extents r) t h fits can w is =
    let same = snapshot_once s h.t t h.fits fits h.shape w (sym h.parts ∙ is) in
    absurd (no_extents r t.extents can.extents (subst (λ (u : Stable). AreNoExtents r u.extents) same h.refused))
refused_for_memory s bytes faults.Memory t h fits can w is = refl

-- what is wrong with the parts is wrong with the whole

pub refused_parts : (s : Shape) (bytes : List ℕ) (f : SnapshotFault) → HasNoParts bytes f → IsRefused s bytes f
refused_parts s bytes faults.NoCounters h = h
refused_parts s bytes (faults.NoEntry at) h = h
refused_parts s bytes (faults.NoPage at) h = h
refused_parts s bytes (faults.Longer at) h = h
refused_parts s bytes (faults.Names r) h = absurd h
refused_parts s bytes (faults.Extents r) h = absurd h
refused_parts s bytes faults.Memory h = tt

pub refused_restored : (s : Shape) (bytes : List ℕ) (c : Counters) (es : List NameEntry) (xs : List Extent) (f : SnapshotFault) → ArePartsOf bytes c es xs →
    IsNotRestored (stable_with s c es xs) f → IsRefused s bytes f
refused_restored s bytes c es xs faults.NoCounters p h = absurd h
refused_restored s bytes c es xs (faults.NoEntry at) p h = absurd h
refused_restored s bytes c es xs (faults.NoPage at) p h = absurd h
refused_restored s bytes c es xs (faults.Longer at) p h = absurd h
refused_restored s bytes c es xs (faults.Names r) p h =
    record { t = stable_with s c es xs; parts = parts_spell s bytes c es xs p; fits = parts_fit s bytes c es xs p; shape = refl; refused = h }
refused_restored s bytes c es xs (faults.Extents r) p h =
    record { t = stable_with s c es xs; parts = parts_spell s bytes c es xs p; fits = parts_fit s bytes c es xs p; shape = refl; refused = h }
refused_restored s bytes c es xs faults.Memory p h = tt

-- What results of a whole call.

pub spelled_of : (r : Result Restored SnapshotFault) (s : Shape) (bytes : List ℕ) (c : Counters) (es : List NameEntry) (xs : List Extent) →
    ArePartsOf bytes c es xs →
    IfOk r (λ x. stable_of x ≡ stable_with s c es xs) → IfOk r (λ x. bytes ≡ snapshot (stable_of x))
spelled_of (Ok x) s bytes c es xs p e = parts_spell s bytes c es xs p ∙ ap snapshot (sym e)
spelled_of (Err f) s bytes c es xs p e = tt

pub fit_of : (r : Result Restored SnapshotFault) (s : Shape) (bytes : List ℕ) (c : Counters) (es : List NameEntry) (xs : List Extent) →
    ArePartsOf bytes c es xs →
    IfOk r (λ x. stable_of x ≡ stable_with s c es xs) → IfOk r (λ x. Fits (stable_of x))
fit_of (Ok x) s bytes c es xs p e = subst Fits (sym e) (parts_fit s bytes c es xs p)
fit_of (Err f) s bytes c es xs p e = tt

pub shape_of : (r : Result Restored SnapshotFault) (s : Shape) (c : Counters) (es : List NameEntry) (xs : List Extent) →
    IfOk r (λ x. stable_of x ≡ stable_with s c es xs) →
    IfOk r (λ x. HasShape s (stable_of x))
shape_of (Ok x) s c es xs e = subst (λ (t : Stable). HasShape s t) (sym e) refl
shape_of (Err f) s c es xs e = tt

pub refused_of : (r : Result Restored SnapshotFault) (s : Shape) (bytes : List ℕ) (c : Counters) (es : List NameEntry) (xs : List Extent) →
    ArePartsOf bytes c es xs →
    IfErr r (IsNotRestored (stable_with s c es xs)) → IfErr r (IsRefused s bytes)
refused_of (Ok x) s bytes c es xs p e = tt
refused_of (Err f) s bytes c es xs p e = refused_restored s bytes c es xs f p e

pub read_exactly : (s : Shape) (bytes : List ℕ) (r : Result Restored SnapshotFault) → IfOk r (λ x. bytes ≡ snapshot (stable_of x)) →
    IfOk r (λ x. Fits (stable_of x)) →
    IfOk r (λ x. HasShape s (stable_of x)) → IfErr r (IsRefused s bytes) → (t : Stable) → Fits t → CanBe t → HasShape s t → bytes ≡ snapshot t → IsReadAs t r
read_exactly s bytes (Ok x) a b w err t fits can shape is = snapshot_once s (stable_of x) t b fits w shape (sym a ∙ is)
read_exactly s bytes (Err f) a b w err t fits can shape is = refused_for_memory s bytes f t err fits can shape is

-- What is read one after another.

pub entries_refused : (bytes rest : List ℕ) (c : Counters) (f : SnapshotFault) → bytes ≡ counters c ++ rest → CountersFit c →
    IsNoEntry rest c.entries (length bytes) f →
    HasNoParts bytes f
entries_refused bytes rest c faults.NoCounters e fit h = absurd h
entries_refused bytes rest c (faults.NoEntry at) e fit h = record { c = c; rest = rest; parts = e; fit = fit; stops = h }
entries_refused bytes rest c (faults.NoPage at) e fit h = absurd h
entries_refused bytes rest c (faults.Longer at) e fit h = absurd h
entries_refused bytes rest c (faults.Names r) e fit h = absurd h
entries_refused bytes rest c (faults.Extents r) e fit h = absurd h
entries_refused bytes rest c faults.Memory e fit h = tt

pub pages_refused : (bytes rest others : List ℕ) (c : Counters) (es : List NameEntry) (f : SnapshotFault) → bytes ≡ counters c ++ rest → CountersFit c →
    AreRead entry EntryFits rest c.entries es others → IsNoPage others c.pages (length bytes) f → HasNoParts bytes f
pages_refused bytes rest others c es faults.NoCounters e fit a h = absurd h
pages_refused bytes rest others c es (faults.NoEntry at) e fit a h = absurd h
pages_refused bytes rest others c es (faults.NoPage at) e fit a h = record {
  c = c;
  es = es;
  rest = others;
  parts = e ∙ ap (λ (l : List ℕ). counters c ++ l) a.parts;
  fit = fit;
  entries = a.many;
  entries_fit = a.each;
  stops = h;
}
pages_refused bytes rest others c es (faults.Longer at) e fit a h = absurd h
pages_refused bytes rest others c es (faults.Names r) e fit a h = absurd h
pages_refused bytes rest others c es (faults.Extents r) e fit a h = absurd h
pages_refused bytes rest others c es faults.Memory e fit a h = tt

pub parts_read : (bytes rest others more : List ℕ) (c : Counters) (es : List NameEntry) (xs : List Extent) → bytes ≡ counters c ++ rest → CountersFit c →
    AreRead entry EntryFits rest c.entries es others → AreRead page PageFits others c.pages xs more → ArePartsBefore bytes c es xs more
parts_read bytes rest others more c es xs e fit a b = record {
  parts = e ∙ (ap (λ (l : List ℕ). counters c ++ l) a.parts ∙ ap (λ (l : List ℕ). counters c ++ (rows entry es ++ l)) b.parts);
  counters_fit = fit;
  entries = a.many;
  pages = b.many;
  entries_fit = a.each;
  pages_fit = b.each;
}

pub nothing_more : (bytes more : List ℕ) (c : Counters) (es : List NameEntry) (xs : List Extent) → ArePartsBefore bytes c es xs more → length more ≡ 0 →
    ArePartsOf bytes c es xs
nothing_more bytes more c es xs p e = subst (λ (l : List ℕ). ArePartsBefore bytes c es xs l) (none_long more e) p

pub after_short : (bytes rest others more : List ℕ) (c : Counters) (es : List NameEntry) (xs : List Extent) → bytes ≡ counters c ++ rest →
    AreRead entry EntryFits rest c.entries es others → AreRead page PageFits others c.pages xs more →
    (length others ≤ length bytes) × (length more ≤ length bytes)
after_short bytes rest others more c es xs e a b =
    let first = length-append (counters c) rest in
    let second = length-append (rows entry es) others in
    let third = length-append (rows page xs) more in
    (omega (arith, first, second, ap length e, ap length a.parts), omega (arith, first, second, third, ap length e, ap length a.parts, ap length b.parts))

pub longer : (bytes more : List ℕ) (c : Counters) (es : List NameEntry) (xs : List Extent) (at : ℕ) → ArePartsBefore bytes c es xs more → 1 ≤ length more →
    at + length more ≡ length bytes →
    GoesOn bytes at
longer bytes more c es xs at p s e = record { c = c; es = es; xs = xs; more = more; parts = p; some = s; place = e }

-- What is written is the snapshot.
pub snapshot_made : (t : Stable) (c : Counters) (es : List NameEntry) (xs : List Extent) (out : List ℕ) → es ≡ t.names.entries → xs ≡ t.extents.rows →
    c ≡ counters_of t →
    out ≡ (counters c ++ rows entry es) ++ rows page xs → out ≡ snapshot t
snapshot_made t c es xs out e f g o =
    o ∙ (append_assoc (counters c) (rows entry es) (rows page xs) ∙ (rw (e, f, g) refl ∙ sym (snapshot_is t)))
