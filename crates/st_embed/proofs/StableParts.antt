-- What changes make of a fresh stable part is one that a server may have.
use Rattle.st_lemmas.proofs.Words
use Words.{◌≡◌, ℕ, ◌+◌, ◌*◌, ◌^◌, ◌<◌, ◌≤◌, true, List, [], ◌∷◌, length, Some, None, refl, subst, ◌∙◌, arith, length-append, Result, Ok, Err, nat_le, list_all}
use Words.{and_parts, leb-true, PageNo, ServerId, AllocateRefusal, EntryRefusal}
use Words.Tables.{cond_either}
use Words.wants.{NoSpace}
use Words.Extents as extents
use Words.Extents.{Extents}
use Words.Keys.{page_no}
use Words.Names as names
use Words.Server.{Stable}
use Rattle.std.specs.Int.{w32, to_be_bytes}
use Rattle.st_journal.specs.Changes.{bytes_of, fits, is_count, is_ino, is_page, word32}
use Rattle.st_journal.specs.Journal.{StandsFor, all_opened, framed, opened}
use Rattle.st_journal.specs.OpenedJournal.{room_for}
use Rattle.st_journal.proofs.Records.{gate_within}
use Rattle.st_embed.specs.Servers.{IsOfServer, start_of}
use Rattle.st_embed.specs.declared.server.Shape.{Shape}
use Rattle.st_extents.specs.Layout.{IsWithinLimits}
use Rattle.st_journal.specs.Scan.{AreLow}
use Rattle.st_journal.specs.Stable.{HasRoom, after_changes, allocate, apply, cut, fresh, kept, mapped, named, released, removed, with_names, without}
use Rattle.st_journal.specs.declared.change.Change.{Change}
use Rattle.st_journal.specs.declared.change.Change.TheVariants as kinds
use Rattle.st_journal.specs.declared.stable.ChangeRefusal.{ChangeRefusal}
use Rattle.st_journal.proofs.Counters.{applied_low, low_room}
use Rattle.st_server.proofs.ExtentChanges.{Allocated, allocated, release_mapped}
use Rattle.st_server.proofs.NameChanges as changes
use Rattle.st_server.specs.Invariants.{AreMapped, AreNamed}
use Rattle.st_durable.proofs.Marks.{marks_tell}

-- its names and extents can be told
pub record IsGood (t : Stable) : Type 0 where
  pub named : AreNamed t.names
  pub mapped : AreMapped t.extents

abbrev ok_of : {A : Type 0} (E : Type 0) → A → Result A E
ok_of E x = Ok x

ok_is : {A : Type 0} (E : Type 0) (x y : A) → ok_of E x ≡ ok_of E y → x ≡ y
ok_is E x y e = cc

module _ (t u : Stable) (g : IsGood t) where
  moved : (v : Stable) → ok_of ChangeRefusal v ≡ Ok u → IsGood v → IsGood u
  moved v e h = subst IsGood (ok_is ChangeRefusal v u e) h

  named_good : (r : Result names.Changed EntryRefusal) → named t r ≡ Ok u → changes.ChangesBy t.names g.named r → IsGood u
  unfolding named
  named_good (Ok d) e c = moved (with_names t d.names) e (record { named = c.named; mapped = g.mapped })
  named_good (Err r) e c = absurd cc

  mapped_good : (r : Result Extents AllocateRefusal) → mapped t r ≡ Ok u → Allocated r → IsGood u
  mapped_good (Ok x) e a = moved (record t { extents = x }) e (record { named = g.named; mapped = a })
  mapped_good (Err (NoSpace free asked)) e a = absurd cc

  allocate_good : (ino : ℕ) (page : PageNo) (count : ℕ) → allocate t ino page count ≡ Ok u → count ≤ 64 → t.extents.births < 2 ^ 62 → IsGood u
  unfolding allocate
  allocate_good ino page count e few room =
      cond_either (λ (r : Result Stable ChangeRefusal). r ≡ Ok u → IsGood u) (names.is_file t.names ino)
      (mapped t (extents.allocate t.extents (Rattle.st_journal.specs.Stable.file t ino) page count)) _
      (λ q k. mapped_good _ k (allocated t.extents (Rattle.st_journal.specs.Stable.file t ino) page count few g.mapped room))
      (λ q k. absurd cc) e

  cut_good : (ino : ℕ) (from : PageNo) → cut t ino from ≡ Ok u → IsGood u
  unfolding cut
  cut_good ino from e =
      cond_either (λ (r : Result Stable ChangeRefusal). r ≡ Ok u → IsGood u) (names.is_file t.names ino) (Ok (released t ino from)) _
      (λ q k. moved (released t ino from) k (record { named = g.named; mapped = release_mapped t.extents (Rattle.st_journal.specs.Stable.file t ino) from g.mapped }))
      (λ q k. absurd cc) e

  without_good : (d : names.Changed) → AreNamed d.names → IsGood (without t d)
  without_good d n =
      cond_either IsGood (names.is_file t.names d.ino) (released (with_names t d.names) d.ino (page_no 0)) (with_names t d.names)
      (λ q. record { named = n; mapped = release_mapped t.extents (Rattle.st_journal.specs.Stable.file t d.ino) (page_no 0) g.mapped })
      (λ q. record { named = n; mapped = g.mapped })

  removed_good : (r : Result names.Changed EntryRefusal) → removed t r ≡ Ok u → changes.ChangesBy t.names g.named r → IsGood u
  unfolding removed
  removed_good (Ok d) e c = moved (without t d) e (without_good d c.named)
  removed_good (Err r) e c = absurd cc

pub applied_good : (t u : Stable) (x : Change) → apply t x ≡ Ok u → fits x ≡ true → HasRoom t x → IsGood t → IsGood u
unfolding apply fits
applied_good t u kinds.Epoch e f room g = moved t u g (Rattle.st_journal.specs.Stable.next_epoch t) e (record { named = g.named; mapped = g.mapped })
applied_good t u (kinds.Allocate ino page count) e f room g =
    let c = and_parts (nat_le 1 count) (nat_le count 64)
    (and_parts (Rattle.st_journal.specs.Changes.between 1 64 count) _ (and_parts (is_page page.0) (is_count page.0 count) (and_parts (is_ino ino) _ f).1).1).0 in
    allocate_good t u g ino page count e (leb-true count 64 c.1) room
applied_good t u (kinds.Cut ino from) e f room g = cut_good t u g ino from e
applied_good t u (kinds.Create dir n) e f room g = named_good t u g (names.create t.names dir n) e (changes.create_changes t.names g.named dir n room)
applied_good t u (kinds.Mkdir dir n) e f room g = named_good t u g (names.mkdir t.names dir n) e (changes.mkdir_changes t.names g.named dir n room)
applied_good t u (kinds.Remove dir n) e f room g = removed_good t u g (names.remove t.names dir n) e (changes.remove_changes t.names g.named dir n)
applied_good t u (kinds.Rename dir n dir2 n2) e f room g = named_good t u g (names.rename t.names dir n dir2 n2) e (changes.rename_changes t.names g.named dir n dir2 n2)

-- a refusal ends it
none_stays : (xs : List Change) (u : Stable) → after_changes None xs ≡ Some u → ⊥
none_stays [] u e = cc
none_stays (x ∷ xs) u e = none_stays xs u e

-- what holds after some changes: this many may have raised the counters
pub record IsReached (n : ℕ) (server : ServerId) (t : Stable) : Type 0 where
  pub good : IsGood t
  pub low : AreLow n t
  pub own : t.extents.server ≡ server

abbrev few_changes : ℕ → Type 0
few_changes n = n < 715827883

pub reaches : (server : ServerId) (xs : List Change) (n : ℕ) (t u : Stable) → after_changes (Some t) xs ≡ Some u → list_all fits xs ≡ true → few_changes (n + length xs) → IsReached n server t →
    IsReached (n + length xs) server u
reaches server [] n t u e f few r = subst (λ (k : ℕ). IsReached k server u) (omega arith) (subst (IsReached n server) (some_is t u e) r)
  where
    some_is : (x y : Stable) → Some x ≡ Some y → x ≡ y
    some_is x y e = cc
reaches server (x ∷ xs) n t u e f few r = by (λ v k g m s. reaches server xs (n + 1) v u k g m s) (apply t x) refl e
  where
    by : ((v : Stable) → after_changes (Some v) xs ≡ Some u → list_all fits xs ≡ true → few_changes (n + 1 + length xs) → IsReached (n + 1) server v → IsReached (n + 1 + length xs) server u) →
        (a : Result Stable ChangeRefusal) → apply t x ≡ a → after_changes (kept a) xs ≡ Some u → IsReached (n + length (x ∷ xs)) server u
    by on (Err why) q k = absurd (none_stays xs u k)
    by on (Ok v) q k =
        let both = and_parts (fits x) (list_all fits xs) f in
        subst (λ (m : ℕ). IsReached m server u) (omega arith)
        (on v k both.1 (omega (arith, few))
        (record {
          good = applied_good t v x q both.0 (low_room n t x (omega (arith, few)) r.low) r.good;
          low = applied_low n t x v both.0 q r.low;
          own = (marks_tell t v x q).server ∙ r.own;
        }))

-- each change of a journal has six bytes at least
bytes_some : (x : Change) → 1 ≤ length (bytes_of x)
unfolding bytes_of
bytes_some kinds.Epoch = omega arith
bytes_some (kinds.Allocate ino page count) = omega arith
bytes_some (kinds.Cut ino from) = omega arith
bytes_some (kinds.Create dir n) = omega arith
bytes_some (kinds.Mkdir dir n) = omega arith
bytes_some (kinds.Remove dir n) = omega arith
bytes_some (kinds.Rename dir n dir2 n2) = omega arith

opened_long : (x : Change) → 6 ≤ length (opened x)
unfolding framed word32
opened_long x =
    let n : ℕ = length (bytes_of x) in
    omega (arith, length-append (to_be_bytes w32 n) (bytes_of x), bytes_some x)

changes_fewer : (xs : List Change) → 6 * length xs ≤ length (all_opened xs)
changes_fewer [] = omega arith
changes_fewer (x ∷ xs) = omega (arith, changes_fewer xs, opened_long x, length-append (opened x) (all_opened xs))

fresh_reached : (id : ServerId) (w : Shape) → IsWithinLimits id.0 w.servers w.disks w.blocks → IsReached 0 id (start_of id w)
unfolding names.fresh_names
fresh_reached id w limits =
    record {
      good = record { named = record { entries = refl; next = omega arith }; mapped = record { rows = refl; disks = limits.few_disks; blocks = limits.few_blocks } };
      low = record { epochs = omega arith; inodes = omega arith; births = omega arith };
      own = refl;
    }

-- What a journal stands for is a stable part of its server.
pub is_of_server : (id : ServerId) (w : Shape) (bytes : List ℕ) (xs : List Change) (t : Stable) → IsWithinLimits id.0 w.servers w.disks w.blocks → length bytes < 4294967296 → StandsFor (start_of id w) bytes xs t →
    IsOfServer id t
is_of_server id w bytes xs t limits small stands =
    let within : length (all_opened xs) < length bytes = gate_within bytes xs (length (all_opened xs)) stands.journal refl in
    let r = reaches id xs 0 (start_of id w) t stands.leads stands.journal.ranges (omega (arith, changes_fewer xs, within, small)) (fresh_reached id w limits) in
    record { named = r.good.named; mapped = r.good.mapped; own = r.own }

-- the bytes of a record, by those of its change
pub record_long : (x : Change) → length (bytes_of x) + 5 ≡ room_for x
unfolding framed word32
record_long x = omega (arith, length-append (to_be_bytes w32 (length (bytes_of x))) (bytes_of x))
