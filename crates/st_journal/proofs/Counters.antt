-- What a change that applies is and raises: its fields fit, and each counter rises by as much as it may.
use Rattle.std.proofs.Common.{◌≡◌, ℕ, zero, suc, ◌+◌, ◌*◌, ◌-◌, ◌^◌, ◌≤◌, ◌<◌, Bool, true, false, cond, List, [], ◌∷◌, ◌++◌, length, map, Option, Some, None, Result, Ok, Err, refl, sym, ap, ◌∙◌, subst, arith}
use Rattle.std.specs.Prelude.{◌&&◌, nat_le, nat_lt, filter, not, is_some}
use Rattle.std.specs.Option.{option_or}
use Rattle.std.proofs.lemmas.Bool.{and_parts, and_from, le-leb, leb-true, cases_Bool, cond-true, cond-false}
use Rattle.std.proofs.lemmas.List.{length-map}
use Rattle.st_base.specs.declared.ids.FileId.{FileId}
use Rattle.st_base.specs.declared.ids.PageNo.{PageNo}
use Rattle.st_base.specs.declared.disk.BlockAt.{BlockAt}
use Rattle.st_rules.specs.Extents as extents
use Rattle.st_rules.specs.Names as names
use Rattle.st_rules.specs.Server.{Stable}
use Rattle.st_rules.specs.declared.names.NameEntry.{NameEntry}
use Rattle.st_rules.specs.declared.names.EntryRefusal.{EntryRefusal}
use Rattle.st_rules.specs.declared.names.EntryRefusal.TheVariants as refusals
use Rattle.st_rules.specs.declared.extents.AllocateRefusal.{AllocateRefusal}
use Rattle.st_rules.specs.declared.extents.AllocateRefusal.TheVariants as space
use Rattle.st_journal.specs.Changes.{between, is_word32, is_short, is_count, is_entry, fits, is_ranged, has_words, is_page, is_ino}
use Rattle.st_journal.specs.Scan.{AreLow}
use Rattle.st_journal.specs.Stable.{apply, allocate, cut, named, removed, mapped, released, without, with_names, next_epoch, HasRoom}
use Rattle.st_journal.specs.declared.change.Change.{Change}
use Rattle.st_journal.specs.declared.change.Change.TheVariants as kinds
use Rattle.st_journal.specs.declared.stable.ChangeRefusal.{ChangeRefusal}
use Rattle.st_journal.specs.declared.stable.ChangeRefusal.TheVariants.{NoFile}

abbrev Told : Type 0
Told = Result Stable ChangeRefusal

abbrev ok_of : {A : Type 0} (E : Type 0) → A → Result A E
ok_of E x = Ok x

ok_is : {A : Type 0} (E : Type 0) (x y : A) → ok_of E x ≡ ok_of E y → x ≡ y
ok_is E x y e = cc

-- Names: a rule that is not refused found a good name.

good_is_short : (n : List ℕ) → names.is_good n ≡ true → is_short n ≡ true
unfolding names.is_good
good_is_short n e =
    let long = and_parts (names.is_between 1 64 (length n)) _ e in
    let most = and_parts (nat_le 1 (length n)) (nat_le (length n) 64) long.0 in
    let few : length n ≤ 64 = leb-true (length n) 64 most.1 in
    le-leb (length n) 255 (omega arith)

abbrev unrefused : Option EntryRefusal
unrefused = None

named_good : (n : List ℕ) → names.name_refusal n ≡ unrefused → is_short n ≡ true
named_good n e = elim (cases_Bool (names.is_good n)) [
  | Rattle.std.proofs.Common.inl good ↦ good_is_short n good
  | Rattle.std.proofs.Common.inr bad ↦ absurd (some_not (rw bad at e))
]
  where
    some_not : Some refusals.BadName ≡ unrefused → ⊥
    some_not e = cc

or_none : (a b : Option EntryRefusal) → option_or a b ≡ unrefused → (a ≡ unrefused) × (b ≡ unrefused)
or_none None b e = (refl, e)
or_none (Some r) b e = absurd cc

place_good : (t : names.Names) (dir : ℕ) (n : List ℕ) → names.place_refusal t dir n ≡ unrefused → is_short n ≡ true
unfolding names.place_refusal
place_good t dir n e = named_good n (or_none (names.dir_refusal t dir) (names.name_refusal n) e).1

-- what was added: one more inode
record Adds (t : names.Names) (n : List ℕ) (c : names.Changed) : Type 0 where
  short : is_short n ≡ true
  next : c.names.next ≤ t.next + 1

add_adds : (t : names.Names) (dir : ℕ) (n : List ℕ) (d : Bool) (c : names.Changed) → names.add t dir n d ≡ Ok c → Adds t n c
unfolding names.add names.add_new names.added names.add_beside names.add_at
add_adds t dir n d c e = at (names.place_refusal t dir n) refl e
  where
    new : (c : names.Changed) → names.add_new t dir n d ≡ Ok c → c.names.next ≤ t.next + 1
    new c e = elim (cases_Bool (nat_lt (names.live_inodes t) t.limit)) [
      | Rattle.std.proofs.Common.inl room ↦ let is = ok_is EntryRefusal (names.added t dir n d) c (sym (cond-true _ _ _ room) ∙ e) in subst (λ (x : names.Changed). x.names.next ≤ t.next + 1) is (omega arith)
      | Rattle.std.proofs.Common.inr full ↦ absurd (err_not (sym (cond-false _ _ _ full) ∙ e))
    ]
      where
        err_not : {c : names.Changed} → Err refusals.TooMany ≡ ok_of EntryRefusal c → ⊥
        err_not e = cc

    beside : (c : names.Changed) → names.add_beside t dir n d ≡ Ok c → c.names.next ≤ t.next + 1
    beside c e = elim (cases_Bool (is_some (names.entry_at t dir n))) [
      | Rattle.std.proofs.Common.inl there ↦ absurd (err_not (sym (cond-true _ _ _ there) ∙ e))
      | Rattle.std.proofs.Common.inr free ↦ new c (sym (cond-false _ _ _ free) ∙ e)
    ]
      where
        err_not : {c : names.Changed} → Err refusals.Exists ≡ ok_of EntryRefusal c → ⊥
        err_not e = cc

    at : (o : Option EntryRefusal) → names.place_refusal t dir n ≡ o → names.add_at t dir n d o ≡ Ok c → Adds t n c
    at None p e = record { short = place_good t dir n p; next = beside c e }
    at (Some r) p e = absurd cc

-- what a rule that changes names leaves: no more than one inode more
record Keeps (t : names.Names) (n : List ℕ) (c : names.Changed) : Type 0 where
  short : is_short n ≡ true
  next : c.names.next ≡ t.next

remove_keeps : (t : names.Names) (dir : ℕ) (n : List ℕ) (c : names.Changed) → names.remove t dir n ≡ Ok c → Keeps t n c
unfolding names.remove names.remove_entry names.without names.remove_found names.remove_at
remove_keeps t dir n c e = at (names.place_refusal t dir n) refl e
  where
    entry : (x : NameEntry) → names.remove_entry t dir n x ≡ Ok c → c.names.next ≡ t.next
    entry x e = elim (cases_Bool (names.is_full t x)) [
      | Rattle.std.proofs.Common.inl full ↦ absurd (err_not (sym (cond-true _ _ _ full) ∙ e))
      | Rattle.std.proofs.Common.inr empty ↦ ap (λ (d : names.Changed). d.names.next) (sym (ok_is EntryRefusal (names.without t dir n x) c (sym (cond-false _ _ _ empty) ∙ e)))
    ]
      where
        err_not : {c : names.Changed} → Err refusals.NotEmpty ≡ ok_of EntryRefusal c → ⊥
        err_not e = cc

    found : (o : Option NameEntry) → names.remove_found t dir n o ≡ Ok c → c.names.next ≡ t.next
    found None e = absurd cc
    found (Some x) e = entry x e

    at : (o : Option EntryRefusal) → names.place_refusal t dir n ≡ o → names.remove_at t dir n o ≡ Ok c → Keeps t n c
    at None p e = record { short = place_good t dir n p; next = found (names.entry_at t dir n) e }
    at (Some r) p e = absurd cc

-- a renaming: both names are good
record Moves (t : names.Names) (n n2 : List ℕ) (c : names.Changed) : Type 0 where
  from : is_short n ≡ true
  to : is_short n2 ≡ true
  next : c.names.next ≡ t.next

rename_moves : (t : names.Names) (dir : ℕ) (n : List ℕ) (dir2 : ℕ) (n2 : List ℕ) (c : names.Changed) → names.rename t dir n dir2 n2 ≡ Ok c → Moves t n n2 c
unfolding names.rename names.rename_free names.renamed names.rename_entry names.rename_found names.rename_at
rename_moves t dir n dir2 n2 c e = at (option_or (names.place_refusal t dir n) (names.place_refusal t dir2 n2)) refl e
  where
    free : (x : NameEntry) → names.rename_free t dir n dir2 n2 x ≡ Ok c → c.names.next ≡ t.next
    free x e = elim (cases_Bool (names.comes_under_itself t dir2 x)) [
      | Rattle.std.proofs.Common.inl under ↦ absurd (err_not (sym (cond-true _ _ _ under) ∙ e))
      | Rattle.std.proofs.Common.inr beside ↦ ap (λ (d : names.Changed). d.names.next) (sym (ok_is EntryRefusal (names.renamed t dir n dir2 n2 x) c (sym (cond-false _ _ _ beside) ∙ e)))
    ]
      where
        err_not : {c : names.Changed} → Err refusals.Cycle ≡ ok_of EntryRefusal c → ⊥
        err_not e = cc

    entry : (x : NameEntry) → names.rename_entry t dir n dir2 n2 x ≡ Ok c → c.names.next ≡ t.next
    entry x e = elim (cases_Bool (is_some (names.entry_at t dir2 n2))) [
      | Rattle.std.proofs.Common.inl there ↦ absurd (err_not (sym (cond-true _ _ _ there) ∙ e))
      | Rattle.std.proofs.Common.inr gone ↦ free x (sym (cond-false _ _ _ gone) ∙ e)
    ]
      where
        err_not : {c : names.Changed} → Err refusals.Exists ≡ ok_of EntryRefusal c → ⊥
        err_not e = cc

    found : (o : Option NameEntry) → names.rename_found t dir n dir2 n2 o ≡ Ok c → c.names.next ≡ t.next
    found None e = absurd cc
    found (Some x) e = entry x e

    at : (o : Option EntryRefusal) → option_or (names.place_refusal t dir n) (names.place_refusal t dir2 n2) ≡ o → names.rename_at t dir n dir2 n2 o ≡ Ok c → Moves t n n2 c
    at None p e =
        let both = or_none (names.place_refusal t dir n) (names.place_refusal t dir2 n2) p in
        record { from = place_good t dir n both.0; to = place_good t dir2 n2 both.1; next = found (names.entry_at t dir n) e }
    at (Some r) p e = absurd cc

-- Extents: each page that is mapped takes one birth.

place_one : (x : extents.Extents) (f : FileId) (p : PageNo) (bs : List BlockAt) → (extents.place_on x f p bs).births ≤ x.births + 1
unfolding extents.place_on
place_one x f p [] = omega arith
place_one x f p (b ∷ bs) = omega arith

place_all : (f : FileId) (ps : List PageNo) (x : extents.Extents) → (extents.place_pages f ps x).births ≤ x.births + length ps
unfolding extents.place_pages
place_all f [] x = omega arith
place_all f (p ∷ ps) x = omega (arith, place_all f ps (extents.place_on x f p (extents.free_blocks x)), place_one x f p (extents.free_blocks x))

length-numbers : (first count : ℕ) → length (extents.numbers first count) ≡ count
unfolding extents.numbers
length-numbers first zero = refl
length-numbers first (suc n) = ap suc (length-numbers (first + 1) n)

kept_few : {X : Type 0} (p : X → Bool) (xs : List X) → length (filter p xs) ≤ length xs
kept_few p [] = omega arith
kept_few p (x ∷ xs) = elim (cases_Bool (p x)) [
  | Rattle.std.proofs.Common.inl passes ↦ subst (λ (l : List _). length l ≤ length (x ∷ xs)) (sym (cond-true _ _ _ passes)) (omega (arith, kept_few p xs))
  | Rattle.std.proofs.Common.inr fails ↦ subst (λ (l : List _). length l ≤ length (x ∷ xs)) (sym (cond-false _ _ _ fails)) (omega (arith, kept_few p xs))
]

asked : (x : extents.Extents) (f : FileId) (p : PageNo) (count : ℕ) → length (extents.unmapped x f p count) ≤ count
asked x f p count =
    omega (arith, kept_few (λ q. not (extents.is_mapped x f q)) (extents.pages_from p count), length-map (extents.numbers p.0 count) Rattle.st_rules.specs.Keys.page_no, length-numbers p.0 count)

allocate_births : (x : extents.Extents) (f : FileId) (p : PageNo) (count : ℕ) (y : extents.Extents) → extents.allocate x f p count ≡ Ok y → y.births ≤ x.births + count
unfolding extents.allocate extents.allocate_pages
allocate_births x f p count y e = elim (cases_Bool (nat_le (length (extents.unmapped x f p count)) (extents.free x))) [
  | Rattle.std.proofs.Common.inl room ↦
      let is = ok_is AllocateRefusal (extents.place_pages f (extents.unmapped x f p count) x) y (sym (cond-true _ _ _ room) ∙ e) in
      subst (λ (z : extents.Extents). z.births ≤ x.births + count) is (omega (arith, place_all f (extents.unmapped x f p count) x, asked x f p count))
  | Rattle.std.proofs.Common.inr full ↦ absurd (err_not (sym (cond-false _ _ _ full) ∙ e))
]
  where
    err_not : {a b : ℕ} {y : extents.Extents} → Err (space.NoSpace a b) ≡ ok_of AllocateRefusal y → ⊥
    err_not e = cc

-- Changes.

named_ok : (t : Stable) (r : Result names.Changed EntryRefusal) (u : Stable) → named t r ≡ Ok u → (c : names.Changed) × (r ≡ Ok c) × (with_names t c.names ≡ u)
unfolding named
named_ok t (Ok c) u e = (c, refl, ok_is ChangeRefusal (with_names t c.names) u e)
named_ok t (Err r) u e = absurd cc

removed_ok : (t : Stable) (r : Result names.Changed EntryRefusal) (u : Stable) → removed t r ≡ Ok u → (c : names.Changed) × (r ≡ Ok c) × (without t c ≡ u)
unfolding removed
removed_ok t (Ok c) u e = (c, refl, ok_is ChangeRefusal (without t c) u e)
removed_ok t (Err r) u e = absurd cc

-- The fields of a change that applies fit if its numbers are in their ranges.
pub applied_fits : (t : Stable) (x : Change) (u : Stable) → apply t x ≡ Ok u → is_ranged x ≡ true → has_words x ≡ true → fits x ≡ true
unfolding apply fits is_ranged has_words names.create names.mkdir
applied_fits t kinds.Epoch u e r w = refl
applied_fits t (kinds.Allocate ino page count) u e r w = r
applied_fits t (kinds.Cut ino from) u e r w = r
applied_fits t (kinds.Create dir n) u e r w = let c = named_ok t (names.create t.names dir n) u e in and_from (is_word32 dir) (is_short n) w (add_adds t.names dir n false c.0 c.1).short
applied_fits t (kinds.Mkdir dir n) u e r w = let c = named_ok t (names.mkdir t.names dir n) u e in and_from (is_word32 dir) (is_short n) w (add_adds t.names dir n true c.0 c.1).short
applied_fits t (kinds.Remove dir n) u e r w = let c = removed_ok t (names.remove t.names dir n) u e in and_from (is_word32 dir) (is_short n) w (remove_keeps t.names dir n c.0 c.1).short
applied_fits t (kinds.Rename dir n dir2 n2) u e r w =
    let c = named_ok t (names.rename t.names dir n dir2 n2) u e in
    let m = rename_moves t.names dir n dir2 n2 c.0 c.1 in
    let ws = and_parts (is_word32 dir) (is_word32 dir2) w in
    and_from (is_entry dir n) (is_entry dir2 n2) (and_from (is_word32 dir) (is_short n) ws.0 m.from) (and_from (is_word32 dir2) (is_short n2) ws.1 m.to)

-- The numbers of a change that fits are in their ranges.
pub fits_ranged : (x : Change) → fits x ≡ true → is_ranged x ≡ true
unfolding fits is_ranged
fits_ranged kinds.Epoch e = refl
fits_ranged (kinds.Allocate ino page count) e = e
fits_ranged (kinds.Cut ino from) e = e
fits_ranged (kinds.Create dir n) e = refl
fits_ranged (kinds.Mkdir dir n) e = refl
fits_ranged (kinds.Remove dir n) e = refl
fits_ranged (kinds.Rename dir n dir2 n2) e = refl

mapped_ok : (t : Stable) (r : Result extents.Extents AllocateRefusal) (u : Stable) → mapped t r ≡ Ok u → (x : extents.Extents) × (r ≡ Ok x) × (record t { extents = x } ≡ u)
mapped_ok t (Ok x) u e = (x, refl, ok_is ChangeRefusal (record t { extents = x }) u e)
mapped_ok t (Err (space.NoSpace free asked)) u e = absurd cc

allocate_ok : (t : Stable) (ino : ℕ) (page : PageNo) (count : ℕ) (u : Stable) → allocate t ino page count ≡ Ok u → (x : extents.Extents) × (x.births ≤ t.extents.births + count) × (record t { extents = x } ≡ u)
unfolding allocate
allocate_ok t ino page count u e = elim (cases_Bool (names.is_file t.names ino)) [
  | Rattle.std.proofs.Common.inl is ↦
      let m = mapped_ok t (extents.allocate t.extents (Rattle.st_journal.specs.Stable.file t ino) page count) u (sym (cond-true _ _ _ is) ∙ e) in
      (m.0, allocate_births t.extents (Rattle.st_journal.specs.Stable.file t ino) page count m.0 m.1, m.2)
  | Rattle.std.proofs.Common.inr fails ↦ absurd (err_not (sym (cond-false _ _ _ fails) ∙ e))
]
  where
    err_not : {a : ℕ} {y : Stable} → Err (NoFile a) ≡ ok_of ChangeRefusal y → ⊥
    err_not e = cc

cut_ok : (t : Stable) (ino : ℕ) (from : PageNo) (u : Stable) → cut t ino from ≡ Ok u → released t ino from ≡ u
unfolding cut
cut_ok t ino from u e = elim (cases_Bool (names.is_file t.names ino)) [
  | Rattle.std.proofs.Common.inl is ↦ ok_is ChangeRefusal (released t ino from) u (sym (cond-true _ _ _ is) ∙ e)
  | Rattle.std.proofs.Common.inr fails ↦ absurd (err_not (sym (cond-false _ _ _ fails) ∙ e))
]
  where
    err_not : {a : ℕ} {y : Stable} → Err (NoFile a) ≡ ok_of ChangeRefusal y → ⊥
    err_not e = cc

released_births : (t : Stable) (ino : ℕ) (from : PageNo) → (released t ino from).extents.births ≡ t.extents.births
unfolding extents.release_from
released_births t ino from = refl

counts_le : (page count : ℕ) → is_count page count ≡ true → count ≤ 64
counts_le page count e = leb-true count 64 (and_parts (nat_le 1 count) (nat_le count 64) (and_parts (between 1 64 count) (nat_le (page + count) 1048576) e).0).1

same_low : (n : ℕ) (t u : Stable) → AreLow n t → u.epoch.0 ≤ t.epoch.0 + 1 → u.names.next ≤ t.names.next + 1 → u.extents.births ≤ t.extents.births + 64 → AreLow (n + 1) u
same_low n t u low a b c = record { epochs = omega (arith, low.epochs, a); inodes = omega (arith, low.inodes, b); births = omega (arith, low.births, c) }

moved_low : (n : ℕ) (t v u : Stable) → v ≡ u → AreLow (n + 1) v → AreLow (n + 1) u
moved_low n t v u e low = subst (λ (s : Stable). AreLow (n + 1) s) e low

without_low : (n : ℕ) (t : Stable) (c : names.Changed) → AreLow n t → c.names.next ≡ t.names.next → AreLow (n + 1) (without t c)
without_low n t c low e = elim (cases_Bool (names.is_file t.names c.ino)) [
  | Rattle.std.proofs.Common.inl is ↦
      subst (λ (s : Stable). AreLow (n + 1) s) (sym (cond-true _ _ _ is))
      (same_low n t (released (with_names t c.names) c.ino (Rattle.st_rules.specs.Keys.page_no 0)) low (omega arith) (omega (arith, e)) (omega (arith, released_births (with_names t c.names) c.ino (Rattle.st_rules.specs.Keys.page_no 0))))
  | Rattle.std.proofs.Common.inr fails ↦ subst (λ (s : Stable). AreLow (n + 1) s) (sym (cond-false _ _ _ fails)) (same_low n t (with_names t c.names) low (omega arith) (omega (arith, e)) (omega arith))
]

-- Counters stay low.
pub applied_low : (n : ℕ) (t : Stable) (x : Change) (u : Stable) → fits x ≡ true → apply t x ≡ Ok u → AreLow n t → AreLow (n + 1) u
unfolding apply fits names.create names.mkdir
applied_low n t kinds.Epoch u f e low = moved_low n t (next_epoch t) u (ok_is ChangeRefusal (next_epoch t) u e) (same_low n t (next_epoch t) low (omega arith) (omega arith) (omega arith))
applied_low n t (kinds.Allocate ino page count) u f e low =
    let a = allocate_ok t ino page count u e in
    let few : count ≤ 64 = counts_le page.0 count (and_parts (is_page page.0) (is_count page.0 count) (and_parts (is_ino ino) (is_page page.0 && is_count page.0 count) f).1).1 in
    moved_low n t (record t { extents = a.0 }) u a.2 (same_low n t (record t { extents = a.0 }) low (omega arith) (omega arith) (omega (arith, few, a.1)))
applied_low n t (kinds.Cut ino from) u f e low = moved_low n t (released t ino from) u (cut_ok t ino from u e) (same_low n t (released t ino from) low (omega arith) (omega arith) (omega (arith, released_births t ino from)))
applied_low n t (kinds.Create dir m) u f e low = let c = named_ok t (names.create t.names dir m) u e in moved_low n t (with_names t c.0.names) u c.2 (same_low n t (with_names t c.0.names) low (omega arith) (add_adds t.names dir m false c.0 c.1).next (omega arith))
applied_low n t (kinds.Mkdir dir m) u f e low = let c = named_ok t (names.mkdir t.names dir m) u e in moved_low n t (with_names t c.0.names) u c.2 (same_low n t (with_names t c.0.names) low (omega arith) (add_adds t.names dir m true c.0 c.1).next (omega arith))
applied_low n t (kinds.Remove dir m) u f e low = let c = removed_ok t (names.remove t.names dir m) u e in moved_low n t (without t c.0) u c.2 (without_low n t c.0 low (remove_keeps t.names dir m c.0 c.1).next)
applied_low n t (kinds.Rename dir m dir2 m2) u f e low =
    let c = named_ok t (names.rename t.names dir m dir2 m2) u e in
    moved_low n t (with_names t c.0.names) u c.2 (same_low n t (with_names t c.0.names) low (omega arith) (omega (arith, (rename_moves t.names dir m dir2 m2 c.0 c.1).next)) (omega arith))

-- A low counter has room.
pub low_room : (n : ℕ) (t : Stable) (x : Change) → n < 715827883 → AreLow n t → HasRoom t x
low_room n t kinds.Epoch few low = omega (arith, low.epochs)
low_room n t (kinds.Allocate ino page count) few low = omega (arith, low.births)
low_room n t (kinds.Cut ino from) few low = tt
low_room n t (kinds.Create dir m) few low = omega (arith, low.inodes)
low_room n t (kinds.Mkdir dir m) few low = omega (arith, low.inodes)
low_room n t (kinds.Remove dir m) few low = tt
low_room n t (kinds.Rename dir m dir2 m2) few low = tt
