-- What an area stands for is what is opened: its bytes have one snapshot and one list of changes, and no such area is refused.
use Rattle.std.proofs.Common.{◌≡◌, ℕ, ◌+◌, ◌^◌, ◌<◌, ◌≤◌, Bool, true, false, cond, ltb, List, [], ◌∷◌, ◌++◌, length, Option, Some, None, refl, sym, ap, ◌∙◌, subst, append_assoc, append-nil, arith, inl, inr}
use Rattle.std.specs.Prelude.{◌⊎◌, IfErr, IfOk, Result, Ok, Err, drop, option_map}
use Rattle.std.specs.List.{AllByRecursion}
use Rattle.std.proofs.Math.Bridge.{le_prop}
use Rattle.std.proofs.lemmas.Bool.{ltb-false}
use Rattle.std.proofs.lemmas.List.{drop_at, length-append}
use Rattle.st_extents.specs.Layout.{Shape}
use Rattle.st_journal.specs.Changes.{bytes_of, fits}
use Rattle.st_journal.specs.Decoder.{change_of}
use Rattle.st_journal.specs.declared.change.Change.{Change}
use Rattle.st_journal.proofs.DecodedChanges.{only}
use Rattle.st_journal.proofs.Exact.{some_is}
use Rattle.st_journal_bytes.specs.Areas.{HasNoSnapshot, IsClosed}
use Rattle.st_journal_bytes.specs.Moments.{Dated, after_dated, apply_dated, dated, dated_bytes}
use Rattle.st_journal_bytes.specs.Plain.{plain}
use Rattle.st_journal_bytes.proofs.Numbers.{length-word64, once_64}
use Rattle.st_journal_bytes.specs.Words.{word64}
use Rattle.st_journal_bytes.proofs.Scans.{length-part, part_once}
use Rattle.st_journal_file.specs.Layout.{CLOSED, OPEN, IsArea, after_changes, all_opened, front, opened, part}
use Rattle.st_rules.specs.Server.{Stable}
use Rattle.st_snapshot.specs.Snapshots.{CanBe, Fits, HasShape, snapshot}
use Rattle.st_snapshot.proofs.Read.{refused_for_memory, snapshot_once}
use Rattle.st_snapshot.specs.Reading.{IsRefused}
use Rattle.st_snapshot.specs.declared.fault.SnapshotFault.{SnapshotFault}
use Rattle.st_snapshot.specs.declared.fault.SnapshotFault.TheVariants as snapshot_faults
use Rattle.st_stable_file.specs.Stables.{changed, stables}
use Rattle.st_stable_file.specs.Opened.{CanBeOpened, DatedFits, IsChange, IsNotOpened, IsOpenedAs, IsUnread, Opens, StandsForState, StopsAfter}
use Rattle.st_stable_file.specs.declared.area.OpenedArea.{OpenedArea}
use Rattle.st_stable_file.specs.declared.fault.StableFault.{StableFault}
use Rattle.st_stable_file.specs.declared.fault.StableFault.TheVariants as faults
use Rattle.st_stable_file.proofs.Applied.{opened_same, part_same}

-- what was made at one moment is one

one_proof : {A : Type 0} (m : ℕ) (f g : m < 2 ^ 64) (a : A) →
    ◌≡◌ {A = Dated A} (record { moment = m; fits = f; made = a }) (record { moment = m; fits = g; made = a })
one_proof {A = A} m f g a = ap {B = Dated A} (λ (h : m < 2 ^ 64). record { moment = m; fits = h; made = a }) (le_prop f g)

one_moment : {A : Type 0} (m n : ℕ) (e : m ≡ n) (f : m < 2 ^ 64) (g : n < 2 ^ 64) (a : A) →
    ◌≡◌ {A = Dated A} (record { moment = m; fits = f; made = a }) (record { moment = n; fits = g; made = a })
one_moment {A = A} m n e f g a =
    subst (λ (k : ℕ). (h : k < 2 ^ 64) → ◌≡◌ {A = Dated A} (record { moment = m; fits = f; made = a }) (record { moment = k; fits = h; made = a })) e
    (λ h. one_proof m f h a) g

pub dated_same : {A : Type 0} (d e : Dated A) → d.moment ≡ e.moment → d.made ≡ e.made → d ≡ e
dated_same {A = A} d e m a = one_moment d.moment e.moment m d.fits e.fits d.made ∙
    ap {B = Dated A} (λ (x : A). record { moment = e.moment; fits = e.fits; made = x }) a

-- two dated lists of bytes
pub dated_once : (m n : ℕ) (xs ys : List ℕ) → m < 2 ^ 64 → n < 2 ^ 64 → dated_bytes m xs ≡ dated_bytes n ys → (m ≡ n) × (xs ≡ ys)
dated_once m n xs ys f g e = once_64 m n xs ys f g e

pub change_once : (x y : Change) → fits x ≡ true → fits y ≡ true → bytes_of x ≡ bytes_of y → x ≡ y
change_once x y f g e =
    some_is x y (sym (only (bytes_of x) x (record { text = refl; ranges = f })) ∙ only (bytes_of x) y (record { text = e; ranges = g }))

pub dated_change_once : (x y : Dated Change) → DatedFits x → DatedFits y → (dated stables).spelled x ≡ (dated stables).spelled y → x ≡ y
dated_change_once x y f g e =
    let one = dated_once x.moment y.moment (bytes_of x.made) (bytes_of y.made) x.fits y.fits e in
    dated_same x y one.0 (change_once x.made y.made f g one.1)

pub dated_state_once : (s : Shape) (d e : Dated Stable) → Fits d.made → Fits e.made → HasShape s d.made → HasShape s e.made →
    (dated stables).snapshot d ≡ (dated stables).snapshot e → d ≡ e
dated_state_once s d e f g v w is =
    let one = dated_once d.moment e.moment (snapshot d.made) (snapshot e.made) d.fits e.fits is in
    dated_same d e one.0 (snapshot_once s d.made e.made f g v w one.1)

-- what a change made, if it was not refused

none_stays : (xs : List (Dated Change)) (u : Dated Stable) → after_changes (dated stables) None xs ≡ Some u → ⊥
none_stays [] u e = absurd cc
none_stays (x ∷ xs) u e = none_stays xs u e

record Made (d : Dated Stable) (x : Dated Change) : Type 0 where
  pub later : d.moment ≤ x.moment
  pub stable : Stable
  pub applied : changed d.made x.made ≡ Some stable

made_by : (d : Dated Stable) (x : Dated Change) (b : Bool) (o : Option Stable) (e : Dated Stable) → ltb x.moment d.moment ≡ b → changed d.made x.made ≡ o →
    cond b None (option_map (after_dated x) o) ≡ Some e → Made d x
made_by d x true o e l c is = absurd cc
made_by d x false None e l c is = absurd cc
made_by d x false (Some u) e l c is = record { later = ltb-false x.moment d.moment l; stable = u; applied = c }

made_so : (d e : Dated Stable) (x : Dated Change) → apply_dated stables d x ≡ Some e → Made d x
made_so d e x is = made_by d x (ltb x.moment d.moment) (changed d.made x.made) e refl refl is

closed_open : CLOSED ≡ OPEN → ⊥
closed_open e = let g : 0 ≡ 255 = e in omega (arith, g)

head_is : (a b : ℕ) (xs ys : List ℕ) → a ∷ xs ≡ b ∷ ys → a ≡ b
head_is a b xs ys e = cc

tail_is : (a b : ℕ) (xs ys : List ℕ) → a ∷ xs ≡ b ∷ ys → xs ≡ ys
tail_is a b xs ys e = cc

opened_is : (x : Dated Change) (xs : List (Dated Change)) (r : List ℕ) →
    all_opened (dated stables) (x ∷ xs) ++ r ≡ OPEN ∷ (part plain ((dated stables).spelled x) ++ (all_opened (dated stables) xs ++ r))
opened_is x xs r = append_assoc (opened (dated stables) x) (all_opened (dated stables) xs) r ∙
    ap (λ (l : List ℕ). l ++ (all_opened (dated stables) xs ++ r)) (opened_same x)

brief : (x : Dated Change) (xs : List (Dated Change)) (r : List ℕ) → length (all_opened (dated stables) (x ∷ xs) ++ r) < 2 ^ 32 →
    (length ((dated stables).spelled x) < 2 ^ 32) × (length (all_opened (dated stables) xs ++ r) < 2 ^ 32)
brief x xs r few =
    let size = ap length (opened_is x xs r) in
    let parts = length-append (part plain ((dated stables).spelled x)) (all_opened (dated stables) xs ++ r) in
    let part_size = length-part ((dated stables).spelled x) in
    (omega (arith, few, size, parts, part_size), omega (arith, few, size, parts, part_size))

-- Two lists of changes with the same bytes are one.
first_same : (x y : Dated Change) (xs ys : List (Dated Change)) (r q : List ℕ) → length (all_opened (dated stables) (x ∷ xs) ++ r) < 2 ^ 32 → DatedFits x →
    DatedFits y →
    all_opened (dated stables) (x ∷ xs) ++ r ≡ all_opened (dated stables) (y ∷ ys) ++ q →
    (x ≡ y) × (all_opened (dated stables) xs ++ r ≡ all_opened (dated stables) ys ++ q)
first_same x y xs ys r q few f g e =
    let other : length (all_opened (dated stables) (y ∷ ys) ++ q) < 2 ^ 32 = subst (λ (l : List ℕ). length l < 2 ^ 32) e few in
    let one = part_once ((dated stables).spelled x) ((dated stables).spelled y) (all_opened (dated stables) xs ++ r) (all_opened (dated stables) ys ++ q)
    (brief x xs r few).0 (brief y ys q other).0
    (tail_is OPEN OPEN (part plain ((dated stables).spelled x) ++ (all_opened (dated stables) xs ++ r))
    (part plain ((dated stables).spelled y) ++ (all_opened (dated stables) ys ++ q))
    (sym (opened_is x xs r) ∙ (e ∙ opened_is y ys q))) in
    (dated_change_once x y f g one.0, one.1)

cons_same : {A : Type 0} (x y : A) (xs ys : List A) → x ≡ y → xs ≡ ys → x ∷ xs ≡ y ∷ ys
cons_same x y xs ys e f = cc

pub changes_once : (xs ys : List (Dated Change)) (r q : List ℕ) → length (all_opened (dated stables) xs ++ CLOSED ∷ r) < 2 ^ 32 → AllByRecursion DatedFits xs →
    AllByRecursion DatedFits ys →
    all_opened (dated stables) xs ++ CLOSED ∷ r ≡ all_opened (dated stables) ys ++ CLOSED ∷ q → xs ≡ ys
changes_once [] [] r q few f g e = refl
changes_once [] (y ∷ ys) r q few f g e =
    absurd (closed_open
    (head_is CLOSED OPEN r (part plain ((dated stables).spelled y) ++ (all_opened (dated stables) ys ++ CLOSED ∷ q)) (e ∙ opened_is y ys (CLOSED ∷ q))))
changes_once (x ∷ xs) [] r q few f g e =
    absurd (closed_open
    (sym (head_is OPEN CLOSED (part plain ((dated stables).spelled x) ++ (all_opened (dated stables) xs ++ CLOSED ∷ r)) q
    (sym (opened_is x xs (CLOSED ∷ r)) ∙ e))))
changes_once (x ∷ xs) (y ∷ ys) r q few f g e =
    let one = first_same x y xs ys (CLOSED ∷ r) (CLOSED ∷ q) few f.0 g.0 e in
    cons_same x y xs ys one.0 (changes_once xs ys r q (brief x xs (CLOSED ∷ r) few).1 f.1 g.1 one.1)

-- Reading does not stop before the closed gate of changes that apply.

step_first : (d e : Dated Stable) (x y : Dated Change) (ys : List (Dated Change)) (u : Dated Stable) → x ≡ y → apply_dated stables d x ≡ Some e →
    after_changes (dated stables) (apply_dated stables d y) ys ≡ Some u → after_changes (dated stables) (Some e) ys ≡ Some u
step_first d e x y ys u s a is =
    sym (ap (λ (o : Option (Dated Stable)). after_changes (dated stables) o ys) (sym (ap (λ z. apply_dated stables d z) s) ∙ a)) ∙ is

no_change : (d : Dated Stable) (y : Dated Change) (ys : List (Dated Change)) (u : Dated Stable) (r q : List ℕ) (o : Option (Dated Stable)) →
    apply_dated stables d y ≡ o →
    after_changes (dated stables) o ys ≡ Some u → DatedFits y → length ((dated stables).spelled y) < 2 ^ 32 →
    r ≡ all_opened (dated stables) (y ∷ ys) ++ CLOSED ∷ q →
    ((record_bytes more : List ℕ) (v : Stable) (later : ℕ) → length record_bytes < 2 ^ 32 → r ≡ opened plain record_bytes ++ more →
    IsChange d.made d.moment record_bytes v later → ⊥) → ⊥
no_change d y ys u r q None a is f short e none = none_stays ys u is
no_change d y ys u r q (Some t) a is f short e none =
    let m = made_so d t y a in
    none ((dated stables).spelled y) (all_opened (dated stables) ys ++ CLOSED ∷ q) m.stable y.moment short (e ∙ opened_is y ys (CLOSED ∷ q))
    (record { change = y.made; parts = refl; ranges = f; small = y.fits; later = m.later; applied = m.applied })

-- one change more was read
then_stop : (d state u : Dated Stable) (x y : Dated Change) (xs ys : List (Dated Change)) (o : Option (Dated Stable)) → apply_dated stables d x ≡ o → x ≡ y →
    after_changes (dated stables) o xs ≡ Some state → after_changes (dated stables) (apply_dated stables d y) ys ≡ Some u →
    ((e : Dated Stable) → after_changes (dated stables) (Some e) xs ≡ Some state → after_changes (dated stables) (Some e) ys ≡ Some u → ⊥) → ⊥
then_stop d state u x y xs ys None a s is js others = none_stays xs state is
then_stop d state u x y xs ys (Some e) a s is js others = others e is (step_first d e x y ys u s a js)

here : (d state : Dated Stable) → Some d ≡ Some state → d ≡ state
here d state e = cc

no_stop : (d state u : Dated Stable) (xs ys : List (Dated Change)) (r q : List ℕ) → length (all_opened (dated stables) xs ++ r) < 2 ^ 32 →
    AllByRecursion DatedFits xs →
    AllByRecursion DatedFits ys → after_changes (dated stables) (Some d) xs ≡ Some state → after_changes (dated stables) (Some d) ys ≡ Some u →
    all_opened (dated stables) xs ++ r ≡ all_opened (dated stables) ys ++ CLOSED ∷ q → (IsClosed r → ⊥) →
    ((record_bytes more : List ℕ) (v : Stable) (later : ℕ) → length record_bytes < 2 ^ 32 → r ≡ opened plain record_bytes ++ more →
    IsChange state.made state.moment record_bytes v later → ⊥)
    → ⊥
no_stop d state u [] [] r q few f g is js e closed none = closed (record { rest = q; parts = e })
no_stop d state u [] (y ∷ ys) r q few f g is js e closed none =
    let short = (brief y ys (CLOSED ∷ q) (subst (λ (l : List ℕ). length l < 2 ^ 32) e few)).0 in
    no_change state y ys u r q (apply_dated stables state y) refl
    (subst (λ (b : Dated Stable). after_changes (dated stables) (apply_dated stables b y) ys ≡ Some u) (here d state is) js) g.0 short e none
no_stop d state u (x ∷ xs) [] r q few f g is js e closed none =
    closed_open (sym (head_is OPEN CLOSED (part plain ((dated stables).spelled x) ++ (all_opened (dated stables) xs ++ r)) q (sym (opened_is x xs r) ∙ e)))
no_stop d state u (x ∷ xs) (y ∷ ys) r q few f g is js e closed none =
    let one = first_same x y xs ys r (CLOSED ∷ q) few f.0 g.0 e in
    then_stop d state u x y xs ys (apply_dated stables d x) refl one.0 is js
    (λ t a b. no_stop t state u xs ys r q (brief x xs r few).1 f.1 g.1 a b one.1 closed none)

-- the area's snapshot and what is after it
area_is : (bytes : List ℕ) (d : Dated Stable) (xs : List (Dated Change)) → (a : IsArea (dated stables) bytes d xs) →
    bytes ≡ part plain ((dated stables).snapshot d) ++ (all_opened (dated stables) xs ++ CLOSED ∷ a.rest)
area_is bytes d xs a =
    a.parts ∙ (append_assoc (part (dated stables) ((dated stables).snapshot d)) (all_opened (dated stables) xs) (CLOSED ∷ a.rest) ∙
    ap (λ (l : List ℕ). l ++ (all_opened (dated stables) xs ++ CLOSED ∷ a.rest)) (part_same ((dated stables).snapshot d)))

halves : (a r bytes : List ℕ) → bytes ≡ part plain a ++ r → length bytes < 2 ^ 32 → (length a < 2 ^ 32) × (length r < 2 ^ 32)
halves a r bytes e few =
    let size = ap length e in
    let parts = length-append (part plain a) r in
    (omega (arith, few, size, parts, length-part a), omega (arith, few, size, parts, length-part a))

module _ (s : Shape) (bytes : List ℕ) (few : length bytes < 2 ^ 32) (state : Dated Stable) (i : StandsForState s bytes state) where
  abbrev after : List ℕ
  after = all_opened (dated stables) i.changes ++ CLOSED ∷ i.area.rest

  whole : bytes ≡ part plain ((dated stables).snapshot i.first) ++ after
  whole = area_is bytes i.first i.changes i.area

  -- whatever is read in front is the snapshot
  in_front : (a r : List ℕ) → bytes ≡ part plain a ++ r → (a ≡ (dated stables).snapshot i.first) × (r ≡ after)
  in_front a r e = part_once a ((dated stables).snapshot i.first) r after (halves a r bytes e few).0
      (halves ((dated stables).snapshot i.first) after bytes whole few).0 (sym e ∙ whole)

  pub has_snapshot : HasNoSnapshot bytes → ⊥
  has_snapshot none = none ((dated stables).snapshot i.first) after (halves ((dated stables).snapshot i.first) after bytes whole few).0 whole

  pub not_stopped : (at : ℕ) → StopsAfter s bytes at → ⊥
  not_stopped at h =
      let front_is = in_front (dated_bytes h.first.moment (snapshot h.first.made)) h.rest h.parts in
      let first : h.first ≡ i.first = dated_state_once s h.first i.first h.fits i.fits h.shape i.shape front_is.0 in
      let a = h.stops.applied in
      let short : length h.rest < 2 ^ 32 = (halves (dated_bytes h.first.moment (snapshot h.first.made)) h.rest bytes h.parts few).1 in
      no_stop i.first a.state state a.changes i.changes h.stops.rest i.area.rest (subst (λ (l : List ℕ). length l < 2 ^ 32) a.parts short) a.each i.each
      (ap (λ (d : Dated Stable). after_changes (dated stables) (Some d) a.changes) (sym first) ∙ a.leads) i.leads (sym a.parts ∙ front_is.1) h.stops.closed
      (λ record_bytes more v later l e c. h.stops.none record_bytes more v later l e (subst (λ (m : ℕ). IsChange h.stops.t m record_bytes v later) a.when
      (subst (λ (t : Stable). IsChange t a.state.moment record_bytes v later) a.made c)))

  pub state_once : (other : Dated Stable) → StandsForState s bytes other → other ≡ state
  state_once other j =
      let theirs = area_is bytes j.first j.changes j.area in
      let front_is = in_front ((dated stables).snapshot j.first) (all_opened (dated stables) j.changes ++ CLOSED ∷ j.area.rest) theirs in
      let first : j.first ≡ i.first = dated_state_once s j.first i.first j.fits i.fits j.shape i.shape front_is.0 in
      let short = (halves ((dated stables).snapshot j.first) (all_opened (dated stables) j.changes ++ CLOSED ∷ j.area.rest) bytes theirs few).1 in
      let list : j.changes ≡ i.changes = changes_once j.changes i.changes j.area.rest i.area.rest short j.each i.each front_is.1 in
      here other state
      (sym j.leads ∙
      (ap (λ (d : Dated Stable). after_changes (dated stables) (Some d) j.changes) first ∙
      (ap (λ ys. after_changes (dated stables) (Some i.first) ys) list ∙ i.leads)))

-- after the moments come the same bytes
behind_moment : (m n : ℕ) (xs ys : List ℕ) → dated_bytes m xs ≡ dated_bytes n ys → xs ≡ ys
behind_moment m n xs ys e =
    sym (drop_at (word64 m) xs 8 (length-word64 m)) ∙ (ap (λ (l : List ℕ). drop 8 l) e ∙ drop_at (word64 n) ys 8 (length-word64 n))

pub long_enough : (m : ℕ) (xs : List ℕ) → length (dated_bytes m xs) < 8 → ⊥
long_enough m xs l = omega (arith, l, length-append (word64 m) xs, length-word64 m)

-- what a server may have is read
unread_for_memory : (s : Shape) (a : List ℕ) (f : SnapshotFault) (d : Dated Stable) → a ≡ (dated stables).snapshot d → Fits d.made → CanBe d.made →
    HasShape s d.made →
    ((length a < 8) × (f ≡ snapshot_faults.NoCounters)) ⊎ ((moment : ℕ) × ((more : List ℕ) × ((a ≡ dated_bytes moment more) × IsRefused s more f))) →
    f ≡ snapshot_faults.Memory
unread_for_memory s a f d e fits can shape (inl h) = absurd (long_enough d.moment (snapshot d.made) (subst (λ (l : List ℕ). length l < 8) e h.0))
unread_for_memory s a f d e fits can shape (inr h) =
    refused_for_memory s h.1.0 f d.made h.1.1.1 fits can shape (behind_moment h.0 d.moment h.1.0 (snapshot d.made) (sym h.1.1.0 ∙ e))

pub no_unread : (s : Shape) (a : List ℕ) (f : SnapshotFault) (d : Dated Stable) → a ≡ (dated stables).snapshot d → Fits d.made → CanBe d.made →
    HasShape s d.made → IsUnread s a f → ⊥
no_unread s a snapshot_faults.NoCounters d e fits can shape h = let m = unread_for_memory s a snapshot_faults.NoCounters d e fits can shape h in absurd cc
no_unread s a (snapshot_faults.NoEntry at) d e fits can shape h = let m = unread_for_memory s a (snapshot_faults.NoEntry at) d e fits can shape h in absurd cc
no_unread s a (snapshot_faults.NoPage at) d e fits can shape h = let m = unread_for_memory s a (snapshot_faults.NoPage at) d e fits can shape h in absurd cc
no_unread s a (snapshot_faults.Longer at) d e fits can shape h = let m = unread_for_memory s a (snapshot_faults.Longer at) d e fits can shape h in absurd cc
no_unread s a (snapshot_faults.Names r) d e fits can shape h = let m = unread_for_memory s a (snapshot_faults.Names r) d e fits can shape h in absurd cc
no_unread s a (snapshot_faults.Extents r) d e fits can shape h = let m = unread_for_memory s a (snapshot_faults.Extents r) d e fits can shape h in absurd cc
no_unread s a snapshot_faults.Memory d e fits can shape h = h

-- What an area stands for is opened, or memory ran out.
pub opened_exactly : (s : Shape) (bytes : List ℕ) (r : Result OpenedArea StableFault) → length bytes < 2 ^ 32 → IfOk r (Opens s bytes) →
    IfErr r (IsNotOpened s bytes) →
    (state : Dated Stable) → CanBeOpened s bytes state → IsOpenedAs state r
opened_exactly s bytes (Ok o) few ok err state h =
    let same : ok.state ≡ state = state_once s bytes few state h.stands ok.state ok.stands in
    (sym ok.made ∙ ap (λ (d : Dated Stable). d.made) same, sym ok.when ∙ ap (λ (d : Dated Stable). d.moment) same)
opened_exactly s bytes (Err (faults.Damaged at)) few ok err state o = absurd (not_damaged err)
  where
    not_damaged : ((at ≡ 0) × HasNoSnapshot bytes) ⊎ StopsAfter s bytes at → ⊥
    not_damaged (inl h) = has_snapshot s bytes few state o.stands h.1
    not_damaged (inr h) = not_stopped s bytes few state o.stands at h
opened_exactly s bytes (Err (faults.Snapshot f)) few ok err state o =
    absurd (no_unread s err.snapshot_bytes f o.stands.first (in_front s bytes few state o.stands err.snapshot_bytes err.rest err.parts).0 o.stands.fits o.can
    o.stands.shape err.why)
opened_exactly s bytes (Err faults.Memory) few ok err state o = refl
