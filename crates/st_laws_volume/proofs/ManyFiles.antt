-- A server refuses a request for a lock with *too many locks* only if its client has locks of as
-- many other files as the limit says, or waits for them. The volume counts these files.
use Rattle.st_lemmas.proofs.Words
use Words.{◌≡◌, ◌≤◌, ◌<◌, ◌⊎◌, ℕ, suc, Bool, true, false, not, ◌&&◌, ◌||◌, ◌==◌, List, [], ◌∷◌, ◌++◌, Option, Some, None, Ok, Err, refl, sym, ap, ◌∙◌, subst, inl, inr, arith, if◌then◌else◌}
use Words.{eq-eqb, filter, is_some, length, list_any, lt-ltb, ltb-false, map, nat_lt, Body, ClientId, FileId, Header, LockRow, Mode, ServerId, Stamp, Verdict, Waiter}
use Words.bodies
use Words.verdicts
use Words.why
use Words.Lists.{Has, Rises}
use Words.Locks as locks
use Words.Locks.{Locks}
use Words.Members.{has_right, some_member_passes}
use Words.Server as sv
use Words.Server.{ServerTurn}
use Words.Tables.{and_both, has_append, has_filter, has_filter_in, has_map, has_map_in, none_has}
use Words.Truth.{clash, file_is}
use Rattle.std.proofs.lemmas.List.{length-map}
use Rattle.st_rules.specs.declared.locks.AcquireRefusal.TheVariants as refusals
use Rattle.st_lemmas.proofs.Keys.{rising_has}
use Rattle.st_laws_volume.proofs.PlaceCounts.{AllApart, apart_few}
use Rattle.st_volume.specs.Pages.{same_file}
use Rattle.st_volume.specs.Volume as volume
use Rattle.st_volume.specs.Volume.{Pending, Volume, distinct, is_lockable, is_too_many}

-- A client at the limit, that has nothing of this file.
pub record IsAtLimit (t : ServerTurn) (c : ClientId) (ino : ℕ) : Type 0 where
  pub row : locks.row_of t.state.locks c ino ≡ None
  pub place : locks.has_place t.state.locks c ino ≡ false

module _ (t : ServerTurn) (now : Stamp) (h : Header) (ino : ℕ) (mode : Mode) (x n : ℕ) where
  abbrev c : ClientId
  c = sv.sender h

  abbrev Refused : Option Body → Type 0
  Refused r = r ≡ Some (bodies.Nack why.TooManyLocks x n)

  not_told : (v : Verdict) → Refused (Some (sv.verdict_body ino mode v)) → ⊥
  not_told (verdicts.Granted g held) e = cc e
  not_told (verdicts.Queued clients) e = cc e

  pub at_limit : Refused (sv.rule t now h (bodies.Acquire ino mode)).reply →
      IsAtLimit t (sv.sender h) ino
  unfolding sv.rule sv.acquire sv.acquire_lock sv.acquire_by sv.no_file locks.acquire
      locks.acquire_at locks.acquire_new
  at_limit q = on_file (sv.is_file t ino) q
    where
      new : locks.row_of t.state.locks c ino ≡ None → (b : Bool) →
          locks.has_place t.state.locks c ino ≡ b →
          Refused (sv.acquire_by t ino mode (if b
          then Ok (locks.acquire_more t.state.locks c (sv.life_in h) ino mode (sv.grants_now t now))
          else Err refusals.TooManyLocks)).reply → IsAtLimit t c ino
      new r true e q =
          absurd
          (not_told
          (locks.acquire_more t.state.locks c (sv.life_in h) ino mode (sv.grants_now t now)).verdict
          q)
      new r false e q = record { row = r; place = e }

      by_row : (o : Option LockRow) → locks.row_of t.state.locks c ino ≡ o →
          Refused (sv.acquire_by t ino mode
          (locks.acquire_at t.state.locks c (sv.life_in h) ino mode (sv.grants_now t now)
          o)).reply →
          IsAtLimit t c ino
      by_row None r q = new r (locks.has_place t.state.locks c ino) refl q
      by_row (Some y) r q =
          absurd (not_told
          (locks.acquire_over t.state.locks c (sv.life_in h) ino mode (sv.grants_now t now)
          y).verdict q)

      on_file : (b : Bool) → Refused
          (if b then sv.acquire_lock t now h ino mode else sv.no_file t ino).reply →
          IsAtLimit t c ino
      on_file true q = by_row (locks.row_of t.state.locks c ino) refl q
      on_file false q = cc q

-- The files of which a client has something.
module _ (l : Locks) (c : ClientId) where
  pub data Has_it (i : ℕ) : Type 0 where
    HasRow : (r : LockRow) → Has r l.rows → r.client ≡ c → r.ino ≡ i → Has_it i
    Waits : (w : Waiter) → Has w l.waiters → w.client ≡ c → w.ino ≡ i → Has_it i

  pub file_of : (i : ℕ) → Has i (locks.files_of l c) → Has_it i
  file_of i h =
      go (has_append (map locks.ino_of_row rows) (map locks.ino_of_wait waits) i
      (rising_has (map locks.ino_of_row rows ++ map locks.ino_of_wait waits) i h))
    where
      rows : List LockRow
      rows = filter (locks.is_row_by c) l.rows

      waits : List Waiter
      waits = filter (locks.is_wait_by c) l.waiters

      same : (d : ClientId) → (d.0 == c.0) ≡ true → d ≡ c
      same d q = Words.Truth.client_is d c q

      go : Has i (map locks.ino_of_row rows) ⊎ Has i (map locks.ino_of_wait waits) → Has_it i
      go (inl j) =
          let z = has_map locks.ino_of_row rows i j in
          let y = has_filter (locks.is_row_by c) l.rows z.0 z.1 in
          HasRow z.0 y.0 (same z.0.client y.1) (sym z.2)
      go (inr j) =
          let z = has_map locks.ino_of_wait waits i j in
          let y = has_filter (locks.is_wait_by c) l.waiters z.0 z.1 in
          Waits z.0 y.0 (same z.0.client y.1) (sym z.2)

  -- At the limit.
  module _ (ino : ℕ) (row : locks.row_of l c ino ≡ None) (place : locks.has_place l c ino ≡ false)
    where
      parts : (a b : Bool) → (a || b) ≡ false → (a ≡ false) × (b ≡ false)
      parts true b q = cc q
      parts false b q = (refl, q)

      full : (is_some (locks.wait_of l c ino) ≡ false) ×
          (nat_lt (length (locks.files_of l c)) l.limit ≡ false)
      full = parts (is_some (locks.wait_of l c ino)) (nat_lt (length (locks.files_of l c)) l.limit)
          place

      pub many_files : l.limit ≤ length (locks.files_of l c)
      many_files = ltb-false (length (locks.files_of l c)) l.limit full.1

      no_wait : (o : Option Waiter) → is_some o ≡ false → o ≡ None
      no_wait None q = refl
      no_wait (Some w) q = cc q

      pub other_files : (i : ℕ) → Has i (locks.files_of l c) → i ≡ ino → ⊥
      other_files i h e = by (file_of i h)
        where
          by : Has_it i → ⊥
          by (HasRow r j client its) =
              clash
              (and_both (r.client.0 == c.0) (r.ino == ino)
              (eq-eqb r.client.0 c.0 (ap (λ (d : ClientId). d.0) client))
              (eq-eqb r.ino ino (its ∙ e)))
              (none_has (locks.is_row_of c ino) l.rows row r j)
          by (Waits w j client its) =
              clash
              (and_both (w.client.0 == c.0) (w.ino == ino)
              (eq-eqb w.client.0 c.0 (ap (λ (d : ClientId). d.0) client))
              (eq-eqb w.ino ino (its ∙ e)))
              (none_has (locks.is_wait_of c ino) l.waiters (no_wait (locks.wait_of l c ino) full.0) w
              j)

-- Files that differ.
file_distinct : (xs : List FileId) (x : FileId) → Has x xs → Has x (distinct same_file xs)
unfolding distinct
file_distinct [] x h = absurd h
file_distinct (y ∷ ys) x (inr h) =
    has_right (if list_any (same_file y) ys then [] else y ∷ []) (distinct same_file ys) x
    (file_distinct ys x h)
file_distinct (y ∷ ys) x (inl e) = go (list_any (same_file y) ys) refl (file_distinct ys x)
  where
    go : (b : Bool) → list_any (same_file y) ys ≡ b → (Has x ys → Has x (distinct same_file ys)) →
        Has x ((if b then [] else y ∷ []) ++ distinct same_file ys)
    go false q r = inl e
    go true q r =
        let m = some_member_passes (same_file y) ys q in
        r (subst (λ z. Has z ys) (sym (e ∙ file_is y m.0 m.2)) m.1)

-- A client that was asked of so many files.
module _ (u : Volume) (c : ClientId) (s : ServerId) (ino : ℕ) (files : List ℕ) (rises : Rises files)
    (apart : (i : ℕ) → Has i files → i ≡ ino → ⊥) (many : 1024 ≤ length files)
    (there : (i : ℕ) → (i ≡ ino) ⊎ Has i files →
    (nat_lt 0 i ≡ true) × Has (c, record { server = s; ino = i }) u.asked)
    (a : Pending) (client : a.client ≡ c)
    (file : volume.file_of a.ask ≡ record { server = s; ino = ino })
    (no_sync : volume.is_sync a.ask ≡ false) where
  abbrev file_at : ℕ → FileId
  file_at i = record { server = s; ino = i }

  abbrev lockable : ClientId × FileId → Bool
  lockable = is_lockable a.client (volume.server_of a.ask)

  abbrev all : List FileId
  all = map (λ (x : ClientId × FileId). x.1) (filter lockable u.asked)

  abbrev mine : List FileId
  mine = map file_at (ino ∷ files)

  apart_map : (is : List ℕ) → Rises is → AllApart (map file_at is)
  apart_map [] r = tt
  apart_map (i ∷ is) r = (
    λ z h e.
        let m = has_map file_at is z h in
        let low = r.first m.0 m.1 in
        let same = ap (λ (f : FileId). f.ino) (sym m.2 ∙ e) in absurd (omega (arith, low, same)),
    apart_map is r.rest,
  )

  all_apart : AllApart mine
  all_apart = (
    λ z h e. let m = has_map file_at files z h in
        apart m.0 m.1 (ap (λ (f : FileId). f.ino) (sym m.2 ∙ e)),
    apart_map files rises,
  )

  each : (x : FileId) → Has x mine → Has x (distinct same_file all)
  each x h = its (has_map file_at (ino ∷ files) x h)
    where
      passes : (i : ℕ) → nat_lt 0 i ≡ true → lockable (c, file_at i) ≡ true
      passes i l =
          and_both (c.0 == a.client.0) ((s.0 == (volume.server_of a.ask).0) && nat_lt 0 i)
          (eq-eqb c.0 a.client.0 (ap (λ (d : ClientId). d.0) (sym client)))
          (and_both (s.0 == (volume.server_of a.ask).0) (nat_lt 0 i)
          (eq-eqb s.0 (volume.server_of a.ask).0 (ap (λ (f : FileId). f.server.0) (sym file))) l)

      its : (i : ℕ) × Has i (ino ∷ files) × (x ≡ file_at i) → Has x (distinct same_file all)
      its (i, h, e) =
          let k = there i h in
          file_distinct all x
          (subst (λ y. Has y all) (sym e)
          (has_map_in (λ (y : ClientId × FileId). y.1) (filter lockable u.asked) (c, file_at i)
          (has_filter_in lockable u.asked (c, file_at i) k.1 (passes i k.0))))

  pub asked_of_many : is_too_many u a ≡ true
  asked_of_many =
      and_both (not (volume.is_sync a.ask) && nat_lt 0 (volume.file_of a.ask).ino)
      (nat_lt 1024 (length (distinct same_file all)))
      (and_both (not (volume.is_sync a.ask)) (nat_lt 0 (volume.file_of a.ask).ino) (ap not no_sync)
      (ap (λ (f : FileId). nat_lt 0 f.ino) file ∙ (there ino (inl refl)).0))
      (lt-ltb 1024 (length (distinct same_file all))
      (let few = apart_few mine (distinct same_file all) all_apart each in
      let n = length-map files file_at in omega (arith, few, n, many)))
