-- Stable parts: what always holds of a server's stable part stays after each change.
use Rattle.st_lemmas.proofs.Words
use Words.{◌≡◌, ℕ, ◌+◌, ◌-◌, ◌^◌, ◌<◌, ◌≤◌, Bool, true, false, cond, List, [], ◌∷◌, length, Option, Some, None, refl, ap, subst, arith, nat_le, nat_lt, list_all, Result, Ok, Err, and_parts, leb-true, ltb-true}
use Words.{FileId, PageNo, Extent, AllocateRefusal, EntryRefusal, AllByRecursion, ServerId}
use Words.wants as space
use Words.Extents as extents
use Words.Extents.{Extents}
use Words.Kinds.{between, is_word64}
use Words.Ranges.{is_block}
use Words.Keys.{page_no}
use Words.Names as names
use Words.Server.{Stable}
use Words.Tables.{cond_either}
use Rattle.std.specs.Prelude.{All}
use Rattle.std.proofs.lemmas.List.Elements.{recursion_from_All}
use Rattle.st_extents.specs.Layout.{IsWithinLimits, Shape}
use Rattle.st_extents.proofs.Owned.{mapped_within}
use Rattle.st_journal.specs.Changes as changes
use Rattle.st_journal.specs.Changes.{fits}
use Rattle.st_journal.specs.Stable as journal
use Rattle.st_journal.specs.Stable.{apply, kept}
use Rattle.st_journal.specs.declared.change.Change.{Change}
use Rattle.st_journal.specs.declared.change.Change.TheVariants as kinds
use Rattle.st_journal.specs.declared.stable.ChangeRefusal.{ChangeRefusal}
use Rattle.st_server.specs.Invariants.{is_good_extent}
use Rattle.st_server.proofs.NameChanges as told
use Rattle.st_snapshot.specs.Snapshots.{HasShape, PageFits}
use Rattle.st_stable_file.specs.Stables.{changed, has_room}
use Rattle.st_server_states.specs.States.{MayHave}
use Rattle.st_server_states.proofs.ExtentsKept as pages
use Rattle.st_server_states.proofs.ExtentsKept.{ExtentsMayBe, FileFits, IsLow, own_few}
use Rattle.st_server_states.proofs.NamesKept as entries
use Rattle.st_server_states.proofs.NamesKept.{NamesMayBe}

-- The parts of a stable part.

files_of : (es : List Extent) → AllByRecursion PageFits es → AllByRecursion (λ (e : Extent). FileFits e.file) es
files_of [] a = tt
files_of (e ∷ es) a = (record { server = a.0.server; ino = a.0.ino }, files_of es a.1)

page_fits : (e : Extent) → IsLow e → is_good_extent e ≡ true → FileFits e.file → PageFits e
page_fits e low good f =
    let both = and_parts (is_block e.at) (is_word64 e.birth) good in
    let at = and_parts (between 1 8 e.at.disk.0) (between 0 4095 e.at.block) both.0 in
    let disk = leb-true e.at.disk.0 8 (and_parts (nat_le 1 e.at.disk.0) (nat_le e.at.disk.0 8) at.0).1 in
    let block = leb-true e.at.block 4095 (and_parts (nat_le 0 e.at.block) (nat_le e.at.block 4095) at.1).1 in
    record {
      server = f.server;
      ino = f.ino;
      page = omega (arith, low);
      disk = omega (arith, disk);
      block = omega (arith, block);
      birth = ltb-true e.birth (2 ^ 64) both.1;
    }

pages_fit : (es : List Extent) → AllByRecursion IsLow es → list_all is_good_extent es ≡ true → AllByRecursion (λ (e : Extent). FileFits e.file) es →
    AllByRecursion PageFits es
pages_fit [] low good f = tt
pages_fit (e ∷ es) low good f =
    let both = and_parts (is_good_extent e) (list_all is_good_extent es) good in (page_fits e low.0 both.0 f.0, pages_fit es low.1 both.1 f.1)

names_may : (s : Shape) (t : Stable) → MayHave s t → NamesMayBe t.names
names_may s t m = record {
  order = record { order = m.can.names; next = m.fits.counters.next; limit = m.fits.counters.limit; entries = m.fits.entries };
  named = m.named;
}

extents_may : (s : Shape) (t : Stable) → MayHave s t → ExtentsMayBe s t.extents
extents_may s t m = record { shape = m.shape; can = m.can.extents; mapped = m.mapped; files = files_of t.extents.rows m.fits.pages }

pub joined : (s : Shape) (t : Stable) → IsWithinLimits s.server.0 s.servers s.disks s.blocks → t.epoch.0 < 2 ^ 64 → NamesMayBe t.names →
    ExtentsMayBe s t.extents → MayHave s t
joined s t limits epoch n x =
    let few = n.order.order.few in
    let limit = n.order.limit in
    let within = mapped_within t.extents x.can.owned in
    let blocks = own_few t.extents x.mapped in
    let births = x.can.births.few in
    record {
      limits = limits;
      shape = x.shape;
      fits = record {
        counters = record {
          epoch = epoch;
          births = omega (arith, births);
          next = n.order.next;
          limit = limit;
          entries = omega (arith, few, limit);
          pages = omega (arith, within, blocks);
        };
        entries = n.order.entries;
        pages = pages_fit t.extents.rows (recursion_from_All IsLow t.extents.rows x.can.low) x.mapped.rows x.files;
      };
      can = record { names = n.order.order; extents = x.can };
      named = n.named;
      mapped = x.mapped;
    }

-- What a change makes is not refused, and its counter has room.

pub record IsApplied (t u : Stable) (x : Change) : Type 0 where
  pub room : has_room t x ≡ true
  pub applied : apply t x ≡ Ok u

applied_by : (t u : Stable) (x : Change) (b : Bool) (r : Result Stable ChangeRefusal) → has_room t x ≡ b → apply t x ≡ r → cond b (kept r) None ≡ Some u →
    IsApplied t u x
applied_by t u x true (Ok v) room e q = let same : v ≡ u = cc in record { room = room; applied = subst (λ (w : Stable). apply t x ≡ Ok w) same e }
applied_by t u x true (Err r) room e q = absurd cc
applied_by t u x false r room e q = absurd cc

pub is_applied : (t u : Stable) (x : Change) → changed t x ≡ Some u → IsApplied t u x
is_applied t u x e = applied_by t u x (has_room t x) (apply t x) refl refl e

abbrev ok_of : Stable → Result Stable ChangeRefusal
ok_of v = Ok v

-- The stable part after a change has what every result of this kind has.
module _ (t u : Stable) (P : Stable → Type 0) where
  moved : (v : Stable) → ok_of v ≡ Ok u → P v → P u
  moved v e p = let same : v ≡ u = cc in subst P same p

  pub named_has : (r : Result names.Changed EntryRefusal) → journal.named t r ≡ Ok u → ((d : names.Changed) → r ≡ Ok d → P (journal.with_names t d.names)) → P u
  unfolding journal.named
  named_has (Ok d) e p = moved (journal.with_names t d.names) e (p d refl)
  named_has (Err r) e p = absurd cc

  pub removed_has : (r : Result names.Changed EntryRefusal) → journal.removed t r ≡ Ok u → ((d : names.Changed) → r ≡ Ok d → P (journal.without t d)) → P u
  unfolding journal.removed
  removed_has (Ok d) e p = moved (journal.without t d) e (p d refl)
  removed_has (Err r) e p = absurd cc

  mapped_has : (r : Result Extents AllocateRefusal) → journal.mapped t r ≡ Ok u → ((x : Extents) → r ≡ Ok x → P (record t { extents = x })) → P u
  mapped_has (Ok x) e p = moved (record t { extents = x }) e (p x refl)
  mapped_has (Err (space.NoSpace free asked)) e p = absurd cc

  pub allocated_has : (ino : ℕ) (page : PageNo) (count : ℕ) → journal.allocate t ino page count ≡ Ok u →
      ((x : Extents) → extents.allocate t.extents (journal.file t ino) page count ≡ Ok x → P (record t { extents = x })) → P u
  unfolding journal.allocate
  allocated_has ino page count e p =
      cond_either (λ (r : Result Stable ChangeRefusal). r ≡ Ok u → P u) (names.is_file t.names ino)
      (journal.mapped t (extents.allocate t.extents (journal.file t ino) page count)) _ (λ q k. mapped_has _ k p) (λ q k. absurd cc) e

  pub cut_has : (ino : ℕ) (from : PageNo) → journal.cut t ino from ≡ Ok u → P (journal.released t ino from) → P u
  unfolding journal.cut
  cut_has ino from e p =
      cond_either (λ (r : Result Stable ChangeRefusal). r ≡ Ok u → P u) (names.is_file t.names ino) (Ok (journal.released t ino from)) _
      (λ q k. moved (journal.released t ino from) k p) (λ q k. absurd cc) e

-- The shape.
module _ (s : Shape) (t u : Stable) (h : HasShape s t) where
  abbrev Shaped : Stable → Type 0
  Shaped v = HasShape s v

  shape_by_pages : (r : Result Extents AllocateRefusal) → pages.ShapeBy s r → (x : Extents) → r ≡ Ok x → Shaped (record t { extents = x })
  shape_by_pages (Ok y) k x e = let same : y ≡ x = cc in subst (λ (z : Extents). Shaped (record t { extents = z })) same k
  shape_by_pages (Err r) k x e = absurd cc

  without_shape : (d : names.Changed) → Shaped (journal.without t d)
  without_shape d =
      cond_either Shaped (names.is_file t.names d.ino) (journal.released (journal.with_names t d.names) d.ino (page_no 0)) (journal.with_names t d.names)
      (λ q. pages.release_shape s t.extents (journal.file t d.ino) (page_no 0) h) (λ q. h)

  apply_shape : (x : Change) → apply t x ≡ Ok u → Shaped u
  unfolding apply
  apply_shape kinds.Epoch e = moved t u Shaped (journal.next_epoch t) e h
  apply_shape (kinds.Allocate ino page count) e =
      allocated_has t u Shaped ino page count e
      (shape_by_pages (extents.allocate t.extents (journal.file t ino) page count) (pages.allocate_shape s t.extents (journal.file t ino) page count h))
  apply_shape (kinds.Cut ino from) e = cut_has t u Shaped ino from e (pages.release_shape s t.extents (journal.file t ino) from h)
  apply_shape (kinds.Create dir n) e = named_has t u Shaped (names.create t.names dir n) e (λ d q. h)
  apply_shape (kinds.Mkdir dir n) e = named_has t u Shaped (names.mkdir t.names dir n) e (λ d q. h)
  apply_shape (kinds.Remove dir n) e = removed_has t u Shaped (names.remove t.names dir n) e (λ d q. without_shape d)
  apply_shape (kinds.Rename dir n dir2 n2) e = named_has t u Shaped (names.rename t.names dir n dir2 n2) e (λ d q. h)

pub change_shape : (s : Shape) (t u : Stable) (x : Change) → HasShape s t → changed t x ≡ Some u → HasShape s u
change_shape s t u x h e = apply_shape s t u h x (is_applied t u x e).applied

-- One change.
module _ (s : Shape) (t u : Stable) (m : MayHave s t) where
  abbrev May : Stable → Type 0
  May v = MayHave s v

  epochs : t.epoch.0 < 2 ^ 64
  epochs = m.fits.counters.epoch

  -- other names
  with_names : (n : names.Names) → NamesMayBe n → May (journal.with_names t n)
  with_names n h = joined s (journal.with_names t n) m.limits epochs h (extents_may s t m)

  by_names : (r : Result names.Changed EntryRefusal) → entries.MayBeBy r → (d : names.Changed) → r ≡ Ok d → May (journal.with_names t d.names)
  by_names (Ok c) h d e = let same : c ≡ d = cc in subst (λ (b : names.Changed). May (journal.with_names t b.names)) same (with_names c.names h)
  by_names (Err r) h d e = absurd cc

  without_may : (d : names.Changed) → NamesMayBe d.names → May (journal.without t d)
  without_may d h =
      cond_either May (names.is_file t.names d.ino) (journal.released (journal.with_names t d.names) d.ino (page_no 0)) (journal.with_names t d.names)
      (λ q. joined s (journal.released (journal.with_names t d.names) d.ino (page_no 0)) m.limits epochs h
      (pages.release_may s t.extents (extents_may s t m) (journal.file t d.ino) (page_no 0)))
      (λ q. with_names d.names h)

  by_removal : (r : Result names.Changed EntryRefusal) → entries.MayBeBy r → (d : names.Changed) → r ≡ Ok d → May (journal.without t d)
  by_removal (Ok c) h d e = let same : c ≡ d = cc in subst (λ (b : names.Changed). May (journal.without t b)) same (without_may c h)
  by_removal (Err r) h d e = absurd cc

  -- other extents
  by_pages : (r : Result Extents AllocateRefusal) → pages.MayBeBy s r → (x : Extents) → r ≡ Ok x → May (record t { extents = x })
  by_pages (Ok y) h x e = let same : y ≡ x = cc in subst (λ (z : Extents). May (record t { extents = z })) same
      (joined s (record t { extents = y }) m.limits epochs (names_may s t m) h)
  by_pages (Err r) h x e = absurd cc

  file_fits : (ino : ℕ) → ino < 2 ^ 32 → FileFits (journal.file t ino)
  file_fits ino l =
      let own : t.extents.server.0 ≡ s.server.0 = ap (λ (x : Extents). x.server.0) m.shape in
      let known = m.limits.known_server in
      let few = m.limits.few_servers in
      record { server = omega (arith, own, known, few); ino = l }

  ino_small : (ino : ℕ) → changes.is_ino ino ≡ true → ino < 2 ^ 32
  ino_small ino e = let l = leb-true ino 4294967295 (and_parts (nat_le 1 ino) (nat_le ino 4294967295) e).1 in omega (arith, l)

  allocate_may : (ino : ℕ) (page : PageNo) (count : ℕ) → fits (kinds.Allocate ino page count) ≡ true → t.extents.births < 2 ^ 62 →
      journal.allocate t ino page count ≡ Ok u → May u
  unfolding fits
  allocate_may ino page count f room e =
      let all = and_parts (changes.is_ino ino) _ f in
      let c = and_parts (changes.between 1 64 count) (nat_le (page.0 + count) 1048576)
      (and_parts (changes.is_page page.0) (changes.is_count page.0 count) all.1).1 in
      let few = leb-true count 64 (and_parts (nat_le 1 count) (nat_le count 64) c.0).1 in
      allocated_has t u May ino page count e
      (by_pages (extents.allocate t.extents (journal.file t ino) page count)
      (pages.allocate_may s t.extents (extents_may s t m) (journal.file t ino) page count (file_fits ino (ino_small ino all.0))
      (leb-true (page.0 + count) 1048576 c.1) few room))

  cut_may : (ino : ℕ) (from : PageNo) → journal.cut t ino from ≡ Ok u → May u
  cut_may ino from e =
      cut_has t u May ino from e
      (joined s (journal.released t ino from) m.limits epochs (names_may s t m) (pages.release_may s t.extents (extents_may s t m) (journal.file t ino) from))

  -- a directory and a name that are in their ranges

  dir_fits : (dir : ℕ) (n : List ℕ) → changes.is_entry dir n ≡ true → dir < 2 ^ 32
  dir_fits dir n f = ltb-true dir (2 ^ 32) (and_parts (changes.is_word32 dir) (changes.is_short n) f).0

  name_fits : (dir : ℕ) (n : List ℕ) → changes.is_entry dir n ≡ true → length n < 2 ^ 64
  name_fits dir n f = let l = leb-true (length n) 255 (and_parts (changes.is_word32 dir) (changes.is_short n) f).1 in omega (arith, l)

  abbrev has : NamesMayBe t.names
  has = names_may s t m

  apply_may : (x : Change) → has_room t x ≡ true → fits x ≡ true → apply t x ≡ Ok u → May u
  unfolding apply fits
  apply_may kinds.Epoch room f e =
      let low = ltb-true t.epoch.0 (2 ^ 64 - 1) room in
      moved t u May (journal.next_epoch t) e (joined s (journal.next_epoch t) m.limits (omega (arith, low)) has (extents_may s t m))
  apply_may (kinds.Allocate ino page count) room f e = allocate_may ino page count f (ltb-true t.extents.births (2 ^ 62) room) e
  apply_may (kinds.Cut ino from) room f e = cut_may ino from e
  apply_may (kinds.Create dir n) room f e =
      let low = ltb-true t.names.next (2 ^ 32 - 1) room in
      named_has t u May (names.create t.names dir n) e
      (by_names (names.create t.names dir n)
      (entries.both t.names m.named (names.create t.names dir n) (entries.create_order t.names has.order dir n low (dir_fits dir n f) (name_fits dir n f))
      (told.create_changes t.names m.named dir n low)))
  apply_may (kinds.Mkdir dir n) room f e =
      let low = ltb-true t.names.next (2 ^ 32 - 1) room in
      named_has t u May (names.mkdir t.names dir n) e
      (by_names (names.mkdir t.names dir n)
      (entries.both t.names m.named (names.mkdir t.names dir n) (entries.mkdir_order t.names has.order dir n low (dir_fits dir n f) (name_fits dir n f))
      (told.mkdir_changes t.names m.named dir n low)))
  apply_may (kinds.Remove dir n) room f e =
      removed_has t u May (names.remove t.names dir n) e
      (by_removal (names.remove t.names dir n)
      (entries.both t.names m.named (names.remove t.names dir n) (entries.remove_order t.names has.order dir n) (told.remove_changes t.names m.named dir n)))
  apply_may (kinds.Rename dir n dir2 n2) room f e =
      let g = (and_parts (changes.is_entry dir n) (changes.is_entry dir2 n2) f).1 in
      named_has t u May (names.rename t.names dir n dir2 n2) e
      (by_names (names.rename t.names dir n dir2 n2)
      (entries.both t.names m.named (names.rename t.names dir n dir2 n2)
      (entries.rename_order t.names has.order dir n dir2 n2 (dir_fits dir2 n2 g) (name_fits dir2 n2 g)) (told.rename_changes t.names m.named dir n dir2 n2)))

pub change_keeps : (s : Shape) (t u : Stable) (x : Change) → MayHave s t → fits x ≡ true → changed t x ≡ Some u → MayHave s u
change_keeps s t u x m f e = let a = is_applied t u x e in apply_may s t u m x a.room f a.applied
