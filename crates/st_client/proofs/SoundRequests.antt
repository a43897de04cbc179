-- The requests of a client have every field in its range, and so has what it keeps of them.
use Rattle.st_lemmas.proofs.Words
use Words.{◌≡◌, ℕ, ◌+◌, ◌-◌, ◌^◌, ◌<◌, ◌≤◌, Bool, true, false, ◌&&◌, ◌==◌, List, [], ◌∷◌, refl, arith, Option, Some, None, min, nat_le, nat_lt, ⊤, list_all}
use Words.{eqb-false, le-leb, leb-true, lt-ltb, ltb-true, FileId, GrantNo, PageNo, Stamp, Mode, NameAsk, Ask, Body, HeldLock, Operation, Release, Request}
use Words.names
use Words.Tables.{and_true, and_both, cond_either}
use Words.asks
use Words.bodies
use Words.Ranges.{has_length, is_ask, is_body, is_count, is_file, is_grant, is_ino, is_mode, is_name_ask, is_name_op, is_page, is_whole_page, is_word32}
use Words.Kinds.{between}
use Words.ClientLease as lease
use Words.ClientLocks as locks
use Words.ClientPages as pages
use Words.ClientPasses as passes
use Words.ClientPasses.{Asking, Wanted, ask, ask_again, repeat, keep_alive, name_op, need, want_lock, want_map, want_block, want_cut, want_held, want_under}
use Words.ClientPasses.{want_by, want_on, want_name, want_at, want, asked_by, asks_or, first_asking, ask_for, ask_for_or, ask_next, ask_release, ask_by}
use Words.ClientPasses.{reassert, ask_new, requests_at, requests_under, requests_by, requests}
use Words.ClientState.{ClientSession, Turn, asking, file_of, is_serving, meant, with_operations, with_session, with_store}
use Words.Keys.{page_no}
use Words.Truth.{if_either}
use Rattle.st_base.specs.Mode.{covers}
use Rattle.st_client.proofs.SoundInputs.{more_fit}
use Rattle.st_client.proofs.SoundLocks.{lock_parts}
use Rattle.st_client.proofs.SoundMessages.{Fit, FitIn, FitSession, asking_header, between_is, held_sound, in_between, locks_sound, positive_is, puts_fit}
use Rattle.st_client.proofs.SoundMessages.{sends_fit}
use Rattle.st_client.specs.Invariants.{is_asking, is_sound_asked, is_sound_operation, is_sound_release}

-- What is asked.

abbrev FitWanted : Option Wanted → Type 0
FitWanted None = ⊤
FitWanted (Some w) = (is_asking w.body ≡ true) × (is_body w.body ≡ true)

abbrev FitFile : Option ℕ → Type 0
FitFile None = ⊤
FitFile (Some ino) = is_ino ino ≡ true

need_fits : (a : Ask) → is_mode 1 2 (need a) ≡ true
need_fits (asks.Read f p) = refl
need_fits a = refl

lock_fits : (t : Turn) (s : ClientSession) (now : Stamp) (ino : ℕ) (mode : Mode) → is_ino ino ≡ true → is_mode 1 2 mode ≡ true → FitWanted (want_lock t s now ino mode)
unfolding want_lock is_body
lock_fits t s now ino mode i m = if_either FitWanted _ (passes.wanted (bodies.Acquire ino mode)) None (refl, and_both (is_ino ino) (is_mode 1 2 mode) i m) tt

map_fits : (t : Turn) (ino : ℕ) (g : GrantNo) (p : PageNo) → is_ino ino ≡ true → is_grant g ≡ true → is_page 0 p.0 ≡ true → FitWanted (want_map t ino g p)
unfolding want_map is_body
map_fits t ino g p i e q =
    if_either FitWanted (passes.is_at_hand t ino p) None (passes.wanted (bodies.Map ino g p)) tt
    (refl, and_both (is_ino ino) (is_grant g && is_page 0 p.0) i (and_both (is_grant g) (is_page 0 p.0) e q))

least_is : (n : ℕ) → 1 ≤ n → 1 ≤ min 64 n
least_is n l = grind (arith, l)

-- one block of a page
count_fits : (p : ℕ) → is_page 0 p ≡ true → is_count p 1 ≡ true
count_fits p e =
    let m = (in_between 0 1048575 p e).1 in
    between_is 1 (min 64 (1048576 - p)) 1 (omega arith) (least_is (1048576 - p) (omega (arith, m)))

block_fits : (t : Turn) (ino : ℕ) (g : GrantNo) (p : PageNo) → is_ino ino ≡ true → is_grant g ≡ true → is_page 0 p.0 ≡ true → FitWanted (want_block t ino g p)
unfolding want_block is_body
block_fits t ino g p i e q =
    if_either FitWanted (pages.is_mapped t.here.store.extents ino p) None (passes.wanted (bodies.Allocate ino g p 1)) tt (
      refl,
      and_both (is_ino ino) (is_grant g && (is_page 0 p.0 && is_count p.0 1)) i
          (and_both (is_grant g) (is_page 0 p.0 && is_count p.0 1) e (and_both (is_page 0 p.0) (is_count p.0 1) q (count_fits p.0 q))),
    )

cut_fits : (t : Turn) (ino : ℕ) (body : Body) (p : PageNo) → is_asking body ≡ true → is_body body ≡ true → FitWanted (want_cut t ino body p)
unfolding want_cut
cut_fits t ino body p a b = if_either FitWanted (pages.is_idle t.here.store ino) (passes.wanted_cut body ino p) None (a, b) tt

name_fits : (a : NameAsk) (g : GrantNo) → is_name_ask a ≡ true → is_grant g ≡ true → is_name_op (name_op a g) ≡ true
unfolding is_name_ask is_name_op
name_fits (names.Lookup dir name) g e h = e
name_fits (names.Create dir name) g e h = e
name_fits (names.Mkdir dir name) g e h = e
name_fits (names.Remove dir name ino) g e h =
    let a = and_true (is_ino dir) (has_length 1 255 name && is_word32 ino) e in
    let b = and_true (has_length 1 255 name) (is_word32 ino) a.1 in
    and_both (is_ino dir) (has_length 1 255 name && is_grant g) a.0 (and_both (has_length 1 255 name) (is_grant g) b.0 h)
name_fits (names.Rename dir name dir2 name2) g e h = e
name_fits (names.List dir after) g e h = e

page_of : (f : FileId) (p : PageNo) (more : Bool) → (is_file 1 f && (is_page 0 p.0 && more)) ≡ true → is_page 0 p.0 ≡ true
page_of f p more e = (and_true (is_page 0 p.0) more (and_true (is_file 1 f) (is_page 0 p.0 && more) e).1).0

held_fits : (t : Turn) (a : Ask) (ino : ℕ) (g : GrantNo) → is_ask a ≡ true → is_ino ino ≡ true → is_grant g ≡ true → FitWanted (want_held t a ino g)
unfolding want_held is_ask is_body
held_fits t (asks.Read f p) ino g e i h = map_fits t ino g p i h (and_true (is_file 1 f) (is_page 0 p.0) e).1
held_fits t (asks.Write f p bytes) ino g e i h = block_fits t ino g p i h (page_of f p (is_whole_page bytes) e)
held_fits t (asks.Patch f p at bytes) ino g e i h = block_fits t ino g p i h (page_of f p _ e)
held_fits t (asks.Cut f p) ino g e i h =
    cut_fits t ino (bodies.Cut ino g p) p refl
    (and_both (is_ino ino) (is_grant g && is_page 0 p.0) i (and_both (is_grant g) (is_page 0 p.0) h (and_true (is_file 1 f) (is_page 0 p.0) e).1))
held_fits t (asks.Name server a) ino g e i h =
    cut_fits t ino (bodies.Name (name_op a g)) (page_no 0) refl (name_fits a g (and_true (between 1 65535 server.0) (is_name_ask a) e).1 h)
held_fits t (asks.Sync f) ino g e i h = tt

by_fits : (t : Turn) (s : ClientSession) (now : Stamp) (a : Ask) (ino : ℕ) (o : Option HeldLock) → ((l : HeldLock) → o ≡ Some l → is_grant l.g ≡ true) → is_ask a ≡ true → is_ino ino ≡ true →
    FitWanted (want_by t s now a ino o)
unfolding want_by want_under
by_fits t s now a ino None g e i = lock_fits t s now ino (need a) i (need_fits a)
by_fits t s now a ino (Some l) g e i = if_either FitWanted (covers l.mode (need a)) _ _ (held_fits t a ino l.g e i (g l refl))
    (lock_fits t s now ino (need a) i (need_fits a))

-- the file that is meant
file_fits : (a : Ask) → is_ask a ≡ true → FitFile (file_of a)
unfolding is_ask is_name_ask meant
file_fits (asks.Write f p bytes) e = of_file f (and_true (is_file 1 f) _ e).0
  where
    of_file : (f : FileId) → is_file 1 f ≡ true → is_ino f.ino ≡ true
    of_file f e = (and_true (between 1 65535 f.server.0) (between 1 4294967295 f.ino) e).1
file_fits (asks.Read f p) e = (and_true (between 1 65535 f.server.0) (between 1 4294967295 f.ino) (and_true (is_file 1 f) _ e).0).1
file_fits (asks.Sync f) e = (and_true (between 1 65535 f.server.0) (between 1 4294967295 f.ino) e).1
file_fits (asks.Cut f p) e = (and_true (between 1 65535 f.server.0) (between 1 4294967295 f.ino) (and_true (is_file 1 f) _ e).0).1
file_fits (asks.Patch f p at bytes) e = (and_true (between 1 65535 f.server.0) (between 1 4294967295 f.ino) (and_true (is_file 1 f) _ e).0).1
file_fits (asks.Name server (names.Remove dir name ino)) e =
    let a = and_true (between 1 65535 server.0) (is_ino dir && (has_length 1 255 name && is_word32 ino)) e in
    let b = and_true (is_ino dir) (has_length 1 255 name && is_word32 ino) a.1 in
    let c = ltb-true ino (2 ^ 32) (and_true (has_length 1 255 name) (is_word32 ino) b.1).1 in
    cond_either FitFile (ino == 0) None (Some ino) (λ z. tt) (λ z. let n = eqb-false ino 0 z in between_is 1 4294967295 ino (omega (arith, n)) (omega (arith, c)))
file_fits (asks.Name server a) e = tt

at_fits : (most : ℕ) (t : Turn) (s : ClientSession) (now : Stamp) (a : Ask) (file : Option ℕ) → is_ask a ≡ true → FitFile file → FitSession most s → FitWanted (want_at t s now a file)
unfolding want_at want_on want_name is_ask is_body
at_fits most t s now a (Some ino) e i l = by_fits t s now a ino (locks.lock_of s.locks ino) (λ x f. (lock_parts x (held_sound s.locks ino x l.sound.locks.rows f).1).1) e i
at_fits most t s now (asks.Name server a) None e i l = (refl, name_fits a locks.no_grant (and_true (between 1 65535 server.0) (is_name_ask a) e).1 refl)
at_fits most t s now a None e i l = tt

want_fits : (most : ℕ) (t : Turn) (s : ClientSession) (now : Stamp) (a : Ask) → is_ask a ≡ true → FitSession most s → FitWanted (want t s now a)
unfolding want
want_fits most t s now (asks.Sync f) e l = tt
want_fits most t s now a e l = at_fits most t s now a (file_of a) e (file_fits a e) l

asked_fits : (most : ℕ) (t : Turn) (s : ClientSession) (now : Stamp) (o : Operation) → is_sound_operation o ≡ true → FitSession most s → FitWanted (asked_by t s now o)
unfolding asked_by
asked_fits most t s now o e l = if_either FitWanted (passes.may_ask t s o) (want t s now o.ask) None (want_fits most t s now o.ask e l) tt

-- The first operation that asks.

abbrev FitAsking : Option Asking → Type 0
FitAsking None = ⊤
FitAsking (Some a) = (is_asking a.wanted.body ≡ true) × (is_body a.wanted.body ≡ true) × (list_all is_sound_operation a.operations ≡ true)

sent_fits : (b : Bool) (o : Operation) → is_sound_operation o ≡ true → is_sound_operation (passes.sent_if b o) ≡ true
sent_fits true o e = e
sent_fits false o e = e

or_fits : (o : Operation) (os : List Operation) (later : Option Asking) (w : Option Wanted) → is_sound_operation o ≡ true → list_all is_sound_operation os ≡ true → FitAsking later → FitWanted w →
    FitAsking (asks_or o os later w)
unfolding asks_or
or_fits o os None None e h a w = tt
or_fits o os (Some b) None e h a w = (a.0, a.1, and_both (is_sound_operation o) (list_all is_sound_operation b.operations) e a.2)
or_fits o os later (Some w) e h a x = (x.0, x.1, and_both (is_sound_operation (passes.sent_if w.own o)) (list_all is_sound_operation os) (sent_fits w.own o e) h)

first_fits : (most : ℕ) (t : Turn) (s : ClientSession) (now : Stamp) (os : List Operation) → list_all is_sound_operation os ≡ true → FitSession most s → FitAsking (first_asking t s now os)
unfolding first_asking
first_fits most t s now [] h l = tt
first_fits most t s now (o ∷ os) h l =
    let p = and_true (is_sound_operation o) (list_all is_sound_operation os) h in
    or_fits o os (first_asking t s now os) (asked_by t s now o) p.0 p.1 (first_fits most t s now os p.1 l) (asked_fits most t s now o p.0 l)

-- Requests.

module _ (most : ℕ) (high : most + 1 < 2 ^ 64) (now : Stamp) (time : now.0 < 2 ^ 64) where
  ask_fit : (t : Turn) (s : ClientSession) (body : Body) (cutting : Option ℕ) → is_asking body ≡ true → is_body body ≡ true → FitSession most s → Fit most t → Fit (most + 1) (ask t s now body cutting)
  unfolding ask asking
  ask_fit t s body cutting a b l h =
      let n = l.sound.next in
      let r = l.room in
      let u = with_session (passes.asking_session s now body cutting) t in
      let k =
      and_both (nat_le 1 s.requests.next && nat_lt s.requests.next (s.requests.next + 1)) (is_asking body && is_body body)
      (and_both (nat_le 1 s.requests.next) (nat_lt s.requests.next (s.requests.next + 1)) (le-leb 1 s.requests.next n) (lt-ltb s.requests.next (s.requests.next + 1) (omega arith)))
      (and_both (is_asking body) (is_body body) a b) in
      let f : Fit (most + 1) u =
      puts_fit (most + 1) t (passes.asking_session s now body cutting)
      (record {
        sound = record { epoch = l.sound.epoch; next = omega (arith, n); asked = k; locks = l.sound.locks; releases = l.sound.releases };
        room = omega (arith, r);
      }) (more_fit most t h) in
      sends_fit (most + 1) u s.epoch.0 s.requests.next now.0 body
      (asking_header (most + 1) high u s.epoch.0 s.requests.next now.0 body a l.sound.epoch (positive_is s.requests.next n (omega (arith, r, high))) time f) b f

  again_fit : (t : Turn) (s : ClientSession) (q : Request) → is_sound_asked s.requests.next (Some q) ≡ true → FitSession most s → Fit most t → Fit (most + 1) (ask_again t s now q)
  unfolding ask_again
  again_fit t s q e l h =
      let r = l.room in
      let u = with_session (passes.again_session s now q) t in
      let p = and_true (nat_le 1 q.number && nat_lt q.number s.requests.next) (is_asking q.body && is_body q.body) e in
      let m = and_true (nat_le 1 q.number) (nat_lt q.number s.requests.next) p.0 in
      let b = and_true (is_asking q.body) (is_body q.body) p.1 in
      let o = leb-true 1 q.number m.0 in
      let n = ltb-true q.number s.requests.next m.1 in
      let f : Fit (most + 1) u =
      puts_fit (most + 1) t (passes.again_session s now q)
      (record {
        sound = record { epoch = l.sound.epoch; next = l.sound.next; asked = e; locks = l.sound.locks; releases = l.sound.releases };
        room = omega (arith, r);
      }) (more_fit most t h) in
      sends_fit (most + 1) u s.epoch.0 q.number now.0 q.body
      (asking_header (most + 1) high u s.epoch.0 q.number now.0 q.body b.0 l.sound.epoch (positive_is q.number o (omega (arith, n, r, high))) time f) b.1 f

  keep_alive_fit : (t : Turn) (s : ClientSession) → FitSession most s → Fit most t → Fit (most + 1) (keep_alive t s now)
  unfolding keep_alive is_body
  keep_alive_fit t s l h = if_either (Fit (most + 1)) (lease.is_renewing (lease.phase_of t.config s.lease now)) _ t
      (ask_fit t s bodies.KeepAlive None refl refl l h) (more_fit most t h)

  ask_for_fit : (t : Turn) (s : ClientSession) (a : Option Asking) → FitAsking a → FitSession most s → Fit most t → Fit (most + 1) (ask_for_or t s now a)
  unfolding ask_for_or ask_for
  ask_for_fit t s None e l h = keep_alive_fit t s l h
  ask_for_fit t s (Some a) e l h =
      ask_fit (with_store (passes.cut_store a.wanted.cut t.here.store) (with_operations a.operations t)) s a.wanted.body (passes.file_cut a.wanted.cut) e.0 e.1 l
      (record { id = h.id; here = h.here; operations = e.2; out = h.out })

  ask_next_fit : (t : Turn) (s : ClientSession) → FitSession most s → Fit most t → Fit (most + 1) (ask_next t s now)
  unfolding ask_next
  ask_next_fit t s l h =
      if_either (Fit (most + 1)) (is_serving t.config s now) _ _
      (ask_for_fit t s (first_asking t s now t.operations) (first_fits most t s now t.operations h.operations l) l h) (keep_alive_fit t s l h)

  ask_by_fit : (t : Turn) (s : ClientSession) (rs : List Release) → list_all is_sound_release rs ≡ true → FitSession most s → Fit most t → Fit (most + 1) (ask_by t s now rs)
  unfolding ask_by ask_release is_body
  ask_by_fit t s [] e l h = ask_next_fit t s l h
  ask_by_fit t s (r ∷ rs) e l h =
      let p = and_true (is_sound_release r) (list_all is_sound_release rs) e in
      ask_fit t (record s { releases = rs }) (bodies.Released r.ino r.g r.to) None refl p.0
      (record { sound = record { epoch = l.sound.epoch; next = l.sound.next; asked = l.sound.asked; locks = l.sound.locks; releases = p.1 }; room = l.room }) h

  ask_new_fit : (t : Turn) (s : ClientSession) → FitSession most s → Fit most t → Fit (most + 1) (ask_new t s now)
  unfolding ask_new reassert is_body
  ask_new_fit t s l h =
      if_either (Fit (most + 1)) s.due _ _ (ask_fit t s (bodies.Reassert (locks.all_locks s.locks)) None refl (locks_sound s.locks l.sound.locks) l h)
      (ask_by_fit t s s.releases l.sound.releases l h)

  at_fit : (t : Turn) (s : ClientSession) (tick : Bool) (q : Option Request) → is_sound_asked s.requests.next q ≡ true → FitSession most s → Fit most t → Fit (most + 1) (requests_at t s now tick q)
  unfolding requests_at repeat
  at_fit t s tick None e l h = ask_new_fit t s l h
  at_fit t s tick (Some q) e l h = if_either (Fit (most + 1)) (passes.is_old t.config now tick q) _ t (again_fit t s q e l h) (more_fit most t h)

  by_fit : (t : Turn) (tick : Bool) (o : Option ClientSession) → FitIn most o → Fit most t → Fit (most + 1) (requests_by t now tick o)
  unfolding requests_by requests_under
  by_fit t tick None l h = more_fit most t h
  by_fit t tick (Some s) l h = if_either (Fit (most + 1)) s.lease.condemned t _ (more_fit most t h) (at_fit t s tick s.requests.asked l.sound.asked l h)

  pub requests_fit : (tick : Bool) (t : Turn) → Fit most t → Fit (most + 1) (requests now tick t)
  unfolding requests
  requests_fit tick t h = by_fit t tick t.here.session h.here.session h
