-- Greeting and requests: the outstanding one again, the reassertion, releases, what operations ask, keep-alives.
use Rattle.st_lemmas.proofs.Words
use Words.{◌≡◌, ℕ, ◌≤◌, ◌⊎◌, Bool, true, false, ◌||◌, List, [], ◌∷◌, ◌==◌, Option, Some, None, refl, sym, ap, ◌∙◌, subst, inl, inr, arith, if◌then◌else◌, find}
use Words.{filter_map, map, option_map, nat_lt, list_any, cons_option, eqb-true, ne_eqb, GrantNo, PageNo, Stamp, Mode, Ask, Body, HeldLock, Request, Release}
use Words.{Operation}
use Words.asks
use Words.bodies
use Words.ServerInvariants.{are_once}
use Words.Keys.{rising, with_key, placed, past}
use Words.ClientLocks as locks
use Words.ClientLocks.{LockCache, lock_of, is_lock_on, lock_row_at, ino_of_lock, all_locks}
use Words.ClientPages as pages
use Words.ClientPages.{Store}
use Words.ClientState as st
use Words.ClientState.{ClientSession, Turn, with_session, with_store, with_operations, send, asking, reasserts}
use Words.ClientPasses as cp
use Words.ClientPasses.{Wanted, Asking}
use Words.Lookups.{if_true, if_false, some_is, found_ino}
use Words.Lists.{Has, Rises}
use Rattle.st_base.specs.Mode.{number_of, covers}
use Rattle.st_protocol.specs.Assoc.{Config, Lock, no_lock, Msg, msg, Alive, Greets, Asks, Repeats, Reasserts, of_request, Moves, Stays, GoesOn}
use Rattle.st_protocol.specs.Assoc as net
use Rattle.st_laws_refine.specs.Views.Messages.{is_clients, epoch_shown, Wishes, released_to, shown, lock_in, lock_in_row, is_row_on, Shows, on_same_file}
use Rattle.st_laws_refine.specs.Views.Halves.{held_at, busy_in, client_of}
use Rattle.st_laws_refine.specs.Client.Invariants.{at, Beside, is_request, Waiting, Standing, Outstanding, Quiet, Ready, Result, Goes, HaveModes}
use Rattle.st_lemmas.proofs.Keys.{rising_rises}
use Rattle.st_lemmas.proofs.Once.{once_none, once_both}
use Rattle.st_laws_refine.proofs.Views.Moves.{one, Grows, shows_more}
use Rattle.st_laws_refine.proofs.Client.Goes.{frame_send, said_both, waiting_more, ready_more, alive, goes_same, goes_then, if_goes, ops_goes, rests_goes}
use Rattle.st_laws_refine.proofs.Client.Reductions.{idle_free, with_it}
use Rattle.st_laws_refine.proofs.Client.Replies.{mode_found}

-- every body that a request shows may be sent again
abbrev pub AllRequests : List net.Body → Type 0
AllRequests [] = Unit {0}
AllRequests (b ∷ bs) = record { one : of_request b ≡ true; rest : AllRequests bs }

requests_of : (n : ℕ) (b : Body) → is_request b ≡ true → AllRequests (shown n b)
requests_of n bodies.KeepAlive e = record { one = refl; rest = record {} }
requests_of n (bodies.Acquire ino mode) e = record { one = refl; rest = record {} }
requests_of n (bodies.Released ino g to) e = record { one = refl; rest = record { one = refl; rest = record {} } }
requests_of n (bodies.Map ino g p) e = record { one = refl; rest = record {} }
requests_of n (bodies.Allocate ino g p count) e = record { one = refl; rest = record {} }
requests_of n (bodies.Cut ino g from) e = record { one = refl; rest = record {} }
requests_of n (bodies.Name op) e = record { one = refl; rest = record {} }
requests_of n (bodies.Reassert rows) e = record { one = refl; rest = record { one = refl; rest = record {} } }
requests_of n b e = cc

-- a request that shows nothing but itself
abbrev pub is_plain : Body → Bool
is_plain bodies.KeepAlive = true
is_plain (bodies.Acquire ino mode) = true
is_plain (bodies.Map ino g p) = true
is_plain (bodies.Allocate ino g p count) = true
is_plain (bodies.Cut ino g from) = true
is_plain (bodies.Name op) = true
is_plain b = false

plain_body : (n : ℕ) (b : Body) → is_plain b ≡ true → (shown n b ≡ net.Plain ∷ []) × (is_request b ≡ true)
plain_body n bodies.KeepAlive e = (refl, refl)
plain_body n (bodies.Acquire ino mode) e = (refl, refl)
plain_body n (bodies.Map ino g p) e = (refl, refl)
plain_body n (bodies.Allocate ino g p count) e = (refl, refl)
plain_body n (bodies.Cut ino g from) e = (refl, refl)
plain_body n (bodies.Name op) e = (refl, refl)
plain_body n b e = cc

-- all locks are reasserted
abbrev is_key : ℕ → ℕ → Bool
is_key i k = k == i

key_past : (i k x : ℕ) (xs rest : List ℕ) → list_any (is_key i) rest ≡ ((k == i) || list_any (is_key i) xs) → list_any (is_key i) (placed k x xs rest) ≡ ((k == i) || ((x == i) || list_any (is_key i) xs))
unfolding placed past
key_past i k x xs rest e = go (nat_lt k x) (k == x) refl
  where
    swap : (a b c : Bool) → (a || (b || c)) ≡ (b || (a || c))
    swap true true c = refl
    swap true false c = refl
    swap false true c = refl
    swap false false c = refl

    twice : (a b : Bool) → (a || b) ≡ (a || (a || b))
    twice true b = refl
    twice false b = refl

    go : (a b : Bool) → (k == x) ≡ b → list_any (is_key i) (if a then k ∷ (x ∷ xs) else (if b then x ∷ xs else x ∷ rest)) ≡ ((k == i) || ((x == i) || list_any (is_key i) xs))
    go true b q = refl
    go false true q = ap (λ n. (n == i) || list_any (is_key i) xs) (sym (eqb-true _ _ q)) ∙ twice (k == i) (list_any (is_key i) xs) ∙ ap (λ n. (k == i) || ((n == i) || list_any (is_key i) xs)) (eqb-true _ _ q)
    go false false q = ap (λ v. (x == i) || v) e ∙ swap (x == i) (k == i) (list_any (is_key i) xs)

key_with : (i k : ℕ) (xs : List ℕ) → list_any (is_key i) (with_key k xs) ≡ ((k == i) || list_any (is_key i) xs)
unfolding with_key
key_with i k [] = refl
key_with i k (x ∷ xs) = key_past i k x xs (with_key k xs) (key_with i k xs)

key_rising : (i : ℕ) (ks : List ℕ) → list_any (is_key i) (rising ks) ≡ list_any (is_key i) ks
unfolding rising
key_rising i [] = refl
key_rising i (k ∷ ks) = key_with i k (rising ks) ∙ ap (λ v. (k == i) || v) (key_rising i ks)

no_key : (i : ℕ) (rows : List HeldLock) → list_any (is_key i) (map ino_of_lock rows) ≡ false → find (is_lock_on i) rows ≡ None
no_key i [] e = refl
no_key i (l ∷ ls) e = go (l.ino == i) e (no_key i ls)
  where
    go : (b : Bool) → (b || list_any (is_key i) (map ino_of_lock ls)) ≡ false → (list_any (is_key i) (map ino_of_lock ls) ≡ false → find (is_lock_on i) ls ≡ None) → (if b then Some l else find (is_lock_on i) ls) ≡ None
    go true e f = cc
    go false e f = f e

listed : (c : LockCache) (i : ℕ) (ks : List ℕ) → lock_in (filter_map (lock_row_at c) ks) i ≡ (if list_any (is_key i) ks then held_at (lock_of c i) else no_lock)
listed c i [] = refl
listed c i (n ∷ ks) = row (lock_of c n) refl (listed c i ks)
  where
    rest : List (ℕ × GrantNo × Mode)
    rest = filter_map (lock_row_at c) ks

    own : (b q : Bool) → (n == i) ≡ b → lock_of c n ≡ None → lock_in rest i ≡ (if q then held_at (lock_of c i) else no_lock) → lock_in rest i ≡ (if b || q then held_at (lock_of c i) else no_lock)
    own true true e is h = h
    own true false e is h = h ∙ sym (ap (λ o. held_at o) (subst (λ m. lock_of c m ≡ None) (eqb-true _ _ e) is))
    own false q e is h = h

    some : (l : HeldLock) (b q : Bool) → (l.ino == i) ≡ b → l.ino ≡ n → lock_of c n ≡ Some l → lock_in rest i ≡ (if q then held_at (lock_of c i) else no_lock) → lock_in ((l.ino, l.g, l.mode) ∷ rest) i ≡ (if b || q then held_at (lock_of c i) else no_lock)
    some l true q e li is h = ap lock_in_row (if_true (l.ino == i) (Some (l.ino, l.g, l.mode)) (find (is_row_on i) rest) e) ∙ sym (ap (λ o. held_at o) (subst (λ m. lock_of c m ≡ Some l) (sym li ∙ eqb-true _ _ e) is))
    some l false q e li is h = ap lock_in_row (if_false (l.ino == i) (Some (l.ino, l.g, l.mode)) (find (is_row_on i) rest) e) ∙ h

    row : (o : Option HeldLock) → lock_of c n ≡ o → lock_in rest i ≡ (if list_any (is_key i) ks then held_at (lock_of c i) else no_lock) →
        lock_in (cons_option (option_map locks.lock_in_list o) rest) i ≡ (if (n == i) || list_any (is_key i) ks then held_at (lock_of c i) else no_lock)
    row None is h = own (n == i) (list_any (is_key i) ks) refl is h
    row (Some l) is h = subst (λ m. lock_in ((l.ino, l.g, l.mode) ∷ rest) i ≡ (if (m == i) || list_any (is_key i) ks then held_at (lock_of c i) else no_lock)) (found_ino (λ (r : HeldLock). r.ino) n l c.rows is)
        (some l (l.ino == i) (list_any (is_key i) ks) refl (found_ino (λ (r : HeldLock). r.ino) n l c.rows is) is h)

pub all_listed : (c : LockCache) (i : ℕ) → lock_in (all_locks c) i ≡ held_at (lock_of c i)
unfolding all_locks
all_listed c i = go (list_any (is_key i) (map ino_of_lock c.rows)) refl
  where
    keys : list_any (is_key i) (rising (map ino_of_lock c.rows)) ≡ list_any (is_key i) (map ino_of_lock c.rows)
    keys = key_rising i (map ino_of_lock c.rows)

    go : (b : Bool) → list_any (is_key i) (map ino_of_lock c.rows) ≡ b → lock_in (filter_map (lock_row_at c) (rising (map ino_of_lock c.rows))) i ≡ held_at (lock_of c i)
    go true e = listed c i (rising (map ino_of_lock c.rows)) ∙ if_true _ _ _ (keys ∙ e)
    go false e = listed c i (rising (map ino_of_lock c.rows)) ∙ if_false _ _ _ (keys ∙ e) ∙ sym (ap (λ o. held_at o) (no_key i c.rows e))

-- each reasserted row is a held lock
row_is : (c : LockCache) (ks : List ℕ) (r : ℕ × GrantNo × Mode) → Has r (filter_map (lock_row_at c) ks) → (l : HeldLock) × (lock_of c r.0 ≡ Some l) × (r ≡ (l.ino, l.g, l.mode))
row_is c [] r h = elim h [ ]
row_is c (n ∷ ks) r h = go (lock_of c n) refl h (λ i. row_is c ks r i)
  where
    rest : List (ℕ × GrantNo × Mode)
    rest = filter_map (lock_row_at c) ks

    go : (o : Option HeldLock) → lock_of c n ≡ o → Has r (cons_option (option_map locks.lock_in_list o) rest) → (Has r rest → (l : HeldLock) × (lock_of c r.0 ≡ Some l) × (r ≡ (l.ino, l.g, l.mode))) → (l : HeldLock) × (lock_of c r.0 ≡ Some l) × (r ≡ (l.ino, l.g, l.mode))
    go None is h f = f h
    go (Some l) is (inl e) f = (l, subst (λ m. lock_of c m ≡ Some l) (sym (found_ino (λ (r : HeldLock). r.ino) n l c.rows is) ∙ sym (ap (λ (q : ℕ × GrantNo × Mode). q.0) e)) is, e)
    go (Some l) is (inr i) f = f i

-- its file is one of the keys
row_key : (c : LockCache) (ks : List ℕ) (r : ℕ × GrantNo × Mode) → Has r (filter_map (lock_row_at c) ks) → Has r.0 ks
row_key c [] r h = elim h [ ]
row_key c (n ∷ ks) r h = go (lock_of c n) refl h (λ i. row_key c ks r i)
  where
    go : (o : Option HeldLock) → lock_of c n ≡ o → Has r (cons_option (option_map locks.lock_in_list o) (filter_map (lock_row_at c) ks)) →
        (Has r (filter_map (lock_row_at c) ks) → Has r.0 ks) → (r.0 ≡ n) ⊎ Has r.0 ks
    go None is h f = inr (f h)
    go (Some l) is (inl e) f = inl (ap (λ (q : ℕ × GrantNo × Mode). q.0) e ∙ found_ino (λ (r : HeldLock). r.ino) n l c.rows is)
    go (Some l) is (inr i) f = inr (f i)

-- so no file is reasserted twice
rows_once : (c : LockCache) (ks : List ℕ) → Rises ks → are_once on_same_file (filter_map (lock_row_at c) ks) ≡ true
rows_once c [] r = once_none on_same_file
rows_once c (n ∷ ks) r = go (lock_of c n) refl (rows_once c ks r.rest)
  where
    apart : (l : HeldLock) → lock_of c n ≡ Some l → (q : ℕ × GrantNo × Mode) → Has q (filter_map (lock_row_at c) ks) → on_same_file (locks.lock_in_list l) q ≡ false
    apart l is q h =
        let k = r.first q.0 (row_key c ks q h) in let i = found_ino (λ (r : HeldLock). r.ino) n l c.rows is in
        ne_eqb q.0 l.ino (λ e. let z = e in absurd (omega arith))

    go : (o : Option HeldLock) → lock_of c n ≡ o → are_once on_same_file (filter_map (lock_row_at c) ks) ≡ true →
        are_once on_same_file (cons_option (option_map locks.lock_in_list o) (filter_map (lock_row_at c) ks)) ≡ true
    go None is i = i
    go (Some l) is i = once_both on_same_file (locks.lock_in_list l) (filter_map (lock_row_at c) ks) (apart l is) i

-- what is reasserted is wished for as a server wants it
pub all_wished : (c : LockCache) → HaveModes c.rows → Wishes (bodies.Reassert (all_locks c))
unfolding all_locks
all_wished c h =
    record {
      some = λ r i. let own = row_is c ks r i in subst (λ (q : ℕ × GrantNo × Mode). 1 ≤ number_of q.2) (sym own.2) (mode_found (is_lock_on r.0) c.rows own.0 h own.1);
      once = rows_once c ks (rising_rises (map ino_of_lock c.rows));
    }
  where
    ks : List ℕ
    ks = rising (map ino_of_lock c.rows)

-- a request is a client's, and is shown at its own epoch
request_clients : (b : Body) → is_request b ≡ true → is_clients b ≡ true
request_clients bodies.KeepAlive e = refl
request_clients (bodies.Acquire ino mode) e = refl
request_clients (bodies.Released ino g to) e = refl
request_clients (bodies.Map ino g p) e = refl
request_clients (bodies.Allocate ino g p count) e = refl
request_clients (bodies.Cut ino g from) e = refl
request_clients (bodies.Name op) e = refl
request_clients (bodies.Reassert rows) e = refl
request_clients b e = cc

request_epoch : (b : Body) (n : ℕ) → is_request b ≡ true → epoch_shown b n ≡ n
request_epoch bodies.KeepAlive n e = refl
request_epoch (bodies.Acquire ino mode) n e = refl
request_epoch (bodies.Released ino g to) n e = refl
request_epoch (bodies.Map ino g p) n e = refl
request_epoch (bodies.Allocate ino g p count) n e = refl
request_epoch (bodies.Cut ino g from) n e = refl
request_epoch (bodies.Name op) n e = refl
request_epoch (bodies.Reassert rows) n e = refl
request_epoch b n e = cc

need_some : (a : Ask) → 1 ≤ number_of (cp.need a)
need_some (asks.Read f p) = omega arith
need_some a = omega arith

-- what an operation asks: a plain request, and if it cuts a file, that file is idle
record Well (x : Store) (w : Wanted) : Type 0 where
  pub plain : is_plain w.body ≡ true
  pub wishes : Wishes w.body
  pub quiet : (cut : ℕ × PageNo) → w.cut ≡ Some cut → busy_in x cut.0 ≡ false

abbrev AllWell : Store → Option Wanted → Type 0
AllWell x None = Unit {0}
AllWell x (Some w) = Well x w

well_if : (x : Store) (b : Bool) (u v : Option Wanted) → (b ≡ true → AllWell x u) → (b ≡ false → AllWell x v) → AllWell x (if b then u else v)
well_if x true u v p q = p refl
well_if x false u v p q = q refl

well_wanted : (x : Store) (b : Body) → is_plain b ≡ true → Wishes b → AllWell x (cp.wanted b)
well_wanted x b e w = record { plain = e; wishes = w; quiet = λ cut f. cc }

well_lock : (t : Turn) (s : ClientSession) (n : Stamp) (ino : ℕ) (mode : Mode) → 1 ≤ number_of mode → AllWell t.here.store (cp.want_lock t s n ino mode)
unfolding cp.want_lock
well_lock t s n ino mode some = well_if t.here.store (cp.is_wait_old t.config n mode (st.wait_of s.waits ino)) (cp.wanted (bodies.Acquire ino mode)) None (λ h. well_wanted t.here.store (bodies.Acquire ino mode) refl some) (λ h. record {})

well_cut : (t : Turn) (ino : ℕ) (b : Body) (p : PageNo) → is_plain b ≡ true → Wishes b → AllWell t.here.store (cp.want_cut t ino b p)
unfolding cp.want_cut
well_cut t ino b p e w = well_if t.here.store (pages.is_idle t.here.store ino) (cp.wanted_cut b ino p) None (λ h. record { plain = e; wishes = w; quiet = λ cut f. same cut f (idle_free t.here.store ino h) }) (λ h. record {})
  where
    same : (cut : ℕ × PageNo) → Some (ino, p) ≡ Some cut → busy_in t.here.store ino ≡ false → busy_in t.here.store cut.0 ≡ false
    same cut f h = subst (λ (c : ℕ × PageNo). busy_in t.here.store c.0 ≡ false) (some_is f) h

well_held : (t : Turn) (a : Ask) (ino : ℕ) (g : GrantNo) → AllWell t.here.store (cp.want_held t a ino g)
unfolding cp.want_held cp.want_map cp.want_block
well_held t (asks.Read f p) ino g = well_if t.here.store (cp.is_at_hand t ino p) None (cp.wanted (bodies.Map ino g p)) (λ h. record {}) (λ h. well_wanted t.here.store (bodies.Map ino g p) refl (record {}))
well_held t (asks.Write f p bytes) ino g = well_if t.here.store (pages.is_mapped t.here.store.extents ino p) None (cp.wanted (bodies.Allocate ino g p 1)) (λ h. record {}) (λ h. well_wanted t.here.store (bodies.Allocate ino g p 1) refl (record {}))
well_held t (asks.Patch f p at bytes) ino g = well_if t.here.store (pages.is_mapped t.here.store.extents ino p) None (cp.wanted (bodies.Allocate ino g p 1)) (λ h. record {}) (λ h. well_wanted t.here.store (bodies.Allocate ino g p 1) refl (record {}))
well_held t (asks.Cut f p) ino g = well_cut t ino (bodies.Cut ino g p) p refl (record {})
well_held t (asks.Name server ask) ino g = well_cut t ino (bodies.Name (cp.name_op ask g)) _ refl (record {})
well_held t (asks.Sync f) ino g = record {}

well_by : (t : Turn) (s : ClientSession) (n : Stamp) (a : Ask) (ino : ℕ) (o : Option HeldLock) → AllWell t.here.store (cp.want_by t s n a ino o)
unfolding cp.want_by cp.want_under
well_by t s n a ino None = well_lock t s n ino (cp.need a) (need_some a)
well_by t s n a ino (Some l) = well_if t.here.store (covers l.mode (cp.need a)) (cp.want_held t a ino l.g) (cp.want_lock t s n ino (cp.need a)) (λ h. well_held t a ino l.g) (λ h. well_lock t s n ino (cp.need a) (need_some a))

well_name : (x : Store) (a : Ask) → AllWell x (cp.want_name a)
unfolding cp.want_name
well_name x (asks.Name server ask) = record { plain = refl; wishes = record {}; quiet = λ cut f. cc }
well_name x a = record {}

well_at : (t : Turn) (s : ClientSession) (n : Stamp) (a : Ask) (o : Option ℕ) → AllWell t.here.store (cp.want_at t s n a o)
unfolding cp.want_at cp.want_on
well_at t s n a None = well_name t.here.store a
well_at t s n a (Some ino) = well_by t s n a ino (lock_of s.locks ino)

well_want : (t : Turn) (s : ClientSession) (n : Stamp) (a : Ask) → AllWell t.here.store (cp.want t s n a)
unfolding cp.want
well_want t s n (asks.Sync f) = record {}
well_want t s n a = well_at t s n a (st.file_of a)

abbrev WellAsking : Store → Option Asking → Type 0
WellAsking x None = Unit {0}
WellAsking x (Some a) = Well x a.wanted

well_first : (t : Turn) (s : ClientSession) (n : Stamp) (os : List Operation) → WellAsking t.here.store (cp.first_asking t s n os)
unfolding cp.first_asking cp.asks_or cp.asked_by
well_first t s n [] = record {}
well_first t s n (o ∷ os) = this (cp.asked_by t s n o) (well_if t.here.store (cp.may_ask t s o) (cp.want t s n o.ask) None (λ h. well_want t s n o.ask) (λ h. record {})) (well_first t s n os)
  where
    later : (x : Option Asking) → WellAsking t.here.store x → WellAsking t.here.store (cp.behind o x)
    later None r = r
    later (Some a) r = r

    this : (w : Option Wanted) → AllWell t.here.store w → WellAsking t.here.store (cp.first_asking t s n os) → WellAsking t.here.store (cp.asks_or o os (cp.first_asking t s n os) w)
    this None w r = later (cp.first_asking t s n os) r
    this (Some w) h r = h

module _ (k : Config) (sv : Beside) (n : Stamp) (hs : List Msg) where
  -- a request that is shown by moves
  requested : (t : Turn) (s : ClientSession) (N M : List Msg) (body : Body) (cutting : Option ℕ) → Ready k n.0 hs (with_session s t) M → is_request body ≡ true → Wishes body → (reasserts body ≡ false → s.due ≡ false) → Quiet t.here.store cutting →
      Moves k (at sv n.0 (with_session s t) N) (at sv n.0 (with_session s t) M) → Shows t.here.life.0 s.epoch.0 n.0 (shown s.requests.next body) M → Result k sv sv n.0 hs (with_session s t) (cp.ask (with_session s t) s n body cutting) N
  unfolding cp.ask send asking
  requested t s N M body cutting r q wi du qu m sh =
      record {
        net = M;
        moves = m;
        ready =
            record {
              terms = r.terms;
              born = r.born;
              lasts = r.lasts;
              said = said_both t.id.0 t.here.server t.out _ M r.said (record { from = refl; one = λ e. record { born = r.born; clients = request_clients body q; wishes = wi; shows = subst (λ x. Shows t.here.life.0 x n.0 (shown s.requests.next body) M) (sym (request_epoch body s.epoch.0 q)) sh }; rest = record {} });
              kept = record { queue = r.kept.queue; asked = record { stamp = n.0; before = sh; request = q; wishes = wi; settled = du }; told = r.kept.told; modes = r.kept.modes; quiet = qu };
              received = r.received;
            };
      }

  plain_goes : (t : Turn) (s : ClientSession) (body : Body) (cutting : Option ℕ) → is_plain body ≡ true → Wishes body → s.due ≡ false → Quiet t.here.store cutting → Goes k sv n.0 hs (with_session s t) (cp.ask (with_session s t) s n body cutting)
  unfolding cp.ask send
  plain_goes t s body cutting p wi du qu = record { frame = frame_send _ _ _ _ _ refl refl; go = λ N r. go N r (plain_body s.requests.next body p) }
    where
      go : (N : List Msg) → Ready k n.0 hs (with_session s t) N → (shown s.requests.next body ≡ net.Plain ∷ []) × (is_request body ≡ true) → Result k sv sv n.0 hs (with_session s t) (cp.ask (with_session s t) s n body cutting) N
      go N r h =
          let c : Msg = msg t.here.life.0 s.epoch.0 n.0 net.Plain in
          requested t s N (c ∷ N) body cutting (ready_more k n.0 hs (with_session s t) N (c ∷ N) (λ x i. inr i) r) h.1 wi (λ x. du) qu
          (one (Asks (at sv n.0 (with_session s t) N) (alive k sv n.0 hs t s N r)) refl)
          (subst (λ bs. Shows t.here.life.0 s.epoch.0 n.0 bs (c ∷ N)) (sym h.0) (record { one = inl refl; rest = record {} }))

  release_goes : (t : Turn) (s : ClientSession) (q : Release) (rs : List Release) → s.releases ≡ q ∷ rs → s.due ≡ false → Goes k sv n.0 hs (with_session s t) (cp.ask_release (with_session s t) s n q rs)
  unfolding cp.ask_release cp.ask send asking
  release_goes t s q rs is du = record { frame = frame_send _ _ _ _ _ refl refl; go = λ N r. go N r (subst (λ x. Waiting t.here.life.0 s.epoch.0 x N) is r.kept.queue) }
    where
      u : ClientSession
      u = record s { releases = rs }

      b : net.Body
      b = net.Released q.ino q.g.0 (released_to q.to)

      a : Msg
      a = msg t.here.life.0 s.epoch.0 n.0 net.Plain

      c : Msg
      c = msg t.here.life.0 s.epoch.0 n.0 b

      go : (N : List Msg) → Ready k n.0 hs (with_session s t) N → Waiting t.here.life.0 s.epoch.0 (q ∷ rs) N → Result k sv sv n.0 hs (with_session s t) (cp.ask_release (with_session s t) s n q rs) N
      go N r w =
          let x = ready_more k n.0 hs (with_session s t) N (c ∷ a ∷ N) (λ x i. inr (inr i)) r in
          let y : Ready k n.0 hs (with_session u t) (c ∷ a ∷ N) =
          record { terms = x.terms; born = x.born; lasts = x.lasts; said = x.said; kept = record { queue = waiting_more _ _ rs N (c ∷ a ∷ N) (λ x i. inr (inr i)) w.rest; asked = x.kept.asked; told = x.kept.told; modes = x.kept.modes; quiet = x.kept.quiet }; received = x.received } in
          let h = alive k sv n.0 hs t s N r in
          let z = requested t u N (c ∷ a ∷ N) (bodies.Released q.ino q.g q.to) None y refl (record {}) (λ x. du) (record {})
          (GoesOn (Asks (at sv n.0 (with_session u t) N) h) refl (one (Repeats (at sv n.0 (with_session u t) (a ∷ N)) 0 b (inr w.one) refl h) refl))
          (record { one = inr (inl refl); rest = record { one = inl refl; rest = record {} } }) in
          record { net = z.net; moves = z.moves; ready = z.ready }

  reassert_goes : (t : Turn) (s : ClientSession) → s.due ≡ true → Goes k sv n.0 hs (with_session s t) (cp.reassert (with_session s t) s n)
  unfolding cp.reassert cp.ask send
  reassert_goes t s du =
      record {
        frame = frame_send _ _ _ _ _ refl refl;
        go = λ N r.
            let a : Msg = msg t.here.life.0 s.epoch.0 n.0 net.Plain in
            let held : ℕ → Lock = λ i. held_at (lock_of s.locks i) in
            let c : Msg = msg t.here.life.0 s.epoch.0 n.0 (net.Reassert held) in
            let same : ◌≡◌ {A = ℕ → Lock} held (λ i. lock_in (all_locks s.locks) i) = λ j i. sym (all_listed s.locks i) j in
            let h = alive k sv n.0 hs t s N r in
            requested t s N (c ∷ a ∷ N) (bodies.Reassert (all_locks s.locks)) None (ready_more k n.0 hs (with_session s t) N (c ∷ a ∷ N) (λ x i. inr (inr i)) r) refl (all_wished s.locks r.kept.modes) (λ x. cc) (record {})
            (GoesOn (Asks (at sv n.0 (with_session s t) N) h) refl (one (Reasserts (at sv n.0 (with_session s t) (a ∷ N)) h du) refl))
            (record { one = inr (inl refl); rest = record { one = inl (ap (λ f. msg t.here.life.0 s.epoch.0 n.0 (net.Reassert f)) (sym same)); rest = record {} } });
      }

  -- a message's bodies, once more with this stamp
  record OnceMore (t : Turn) (s : ClientSession) (bs : List net.Body) (N : List Msg) : Type 0 where
    pub net : List Msg
    pub moves : Moves k (at sv n.0 (with_session s t) N) (at sv n.0 (with_session s t) net)
    pub grows : Grows N net
    pub shows : Shows t.here.life.0 s.epoch.0 n.0 bs net

  once_more : (t : Turn) (s : ClientSession) (old : ℕ) (bs : List net.Body) (N : List Msg) → Alive k (client_of sv.ended n.0 (with_session s t).here) → AllRequests bs → Shows t.here.life.0 s.epoch.0 old bs N → OnceMore t s bs N
  once_more t s old [] N h q w = record { net = N; moves = Stays (at sv n.0 (with_session s t) N); grows = λ x i. i; shows = record {} }
  once_more t s old (b ∷ bs) N h q w =
      let c : Msg = msg t.here.life.0 s.epoch.0 n.0 b in
      let z = once_more t s old bs (c ∷ N) h q.rest (shows_more _ _ old bs N (c ∷ N) (λ x i. inr i) w.rest) in
      record {
        net = z.net;
        moves = GoesOn (Repeats (at sv n.0 (with_session s t) N) old b w.one q.one h) refl z.moves;
        grows = λ x i. z.grows x (inr i);
        shows = record { one = z.grows c (inl refl); rest = z.shows };
      }

  again_goes : (t : Turn) (s : ClientSession) (q : Request) → s.requests.asked ≡ Some q → Goes k sv n.0 hs (with_session s t) (cp.ask_again (with_session s t) s n q)
  unfolding cp.ask_again send
  again_goes t s q is = record { frame = frame_send _ _ _ _ _ refl refl; go = λ N r. go N r (subst (λ o. Outstanding t.here.life.0 s.epoch.0 s.due o N) is r.kept.asked) }
    where
      go : (N : List Msg) → Ready k n.0 hs (with_session s t) N → Standing t.here.life.0 s.epoch.0 s.due q N → Result k sv sv n.0 hs (with_session s t) (cp.ask_again (with_session s t) s n q) N
      go N r w =
          let z = once_more t s w.stamp (shown q.number q.body) N (alive k sv n.0 hs t s N r) (requests_of q.number q.body w.request) w.before in
          let x = ready_more k n.0 hs (with_session s t) N z.net z.grows r in
          record {
            net = z.net;
            moves = z.moves;
            ready =
                record {
                  terms = x.terms;
                  born = x.born;
                  lasts = x.lasts;
                  said = said_both t.id.0 t.here.server t.out _ z.net x.said (record { from = refl; one = λ e. record { born = r.born; clients = request_clients q.body w.request; wishes = w.wishes; shows = subst (λ x. Shows t.here.life.0 x n.0 (shown q.number q.body) z.net) (sym (request_epoch q.body s.epoch.0 w.request)) z.shows }; rest = record {} });
                  kept = record { queue = x.kept.queue; asked = record { stamp = n.0; before = z.shows; request = w.request; wishes = w.wishes; settled = w.settled }; told = x.kept.told; modes = x.kept.modes; quiet = x.kept.quiet };
                  received = x.received;
                };
          }

  keep_goes : (t : Turn) (s : ClientSession) → s.due ≡ false → Goes k sv n.0 hs (with_session s t) (cp.keep_alive (with_session s t) s n)
  unfolding cp.keep_alive
  keep_goes t s du = if_goes k sv n.0 hs (with_session s t) _ _ (with_session s t) (λ h. plain_goes t s bodies.KeepAlive None refl (record {}) du (record {})) (λ h. goes_same k sv n.0 hs (with_session s t))

  asking_goes : (t : Turn) (s : ClientSession) (a : Asking) → Well t.here.store a.wanted → s.due ≡ false → Goes k sv n.0 hs (with_session s t) (cp.ask_for (with_session s t) s n a)
  unfolding cp.ask_for pages.forget_from pages.drop_from
  asking_goes t s a w du = go a.wanted.cut refl
    where
      u : Turn
      u = with_operations a.operations t

      cut_busy : (o : Option (ℕ × PageNo)) (i : ℕ) → busy_in (cp.cut_store o t.here.store) i ≡ busy_in t.here.store i
      cut_busy None i = refl
      cut_busy (Some c) i = refl

      quiet : (o : Option (ℕ × PageNo)) → a.wanted.cut ≡ o → Quiet (cp.cut_store o t.here.store) (cp.file_cut o)
      quiet None e = record {}
      quiet (Some c) e = w.quiet c e

      go : (o : Option (ℕ × PageNo)) → a.wanted.cut ≡ o → Goes k sv n.0 hs (with_session s t) (cp.ask (with_store (cp.cut_store o t.here.store) (with_session s u)) s n a.wanted.body (cp.file_cut o))
      go o e =
          goes_then k sv n.0 hs (with_session s t) (with_session s u) _ (ops_goes k sv n.0 hs (with_session s t) a.operations)
          (goes_then k sv n.0 hs (with_session s u) (with_store (cp.cut_store o t.here.store) (with_session s u)) _
          (rests_goes k sv n.0 hs (with_session s u) (cp.cut_store o t.here.store) (λ i x. sym (cut_busy o i) ∙ x))
          (plain_goes (with_store (cp.cut_store o t.here.store) u) s a.wanted.body (cp.file_cut o) w.plain w.wishes du (quiet o e)))

  next_goes : (t : Turn) (s : ClientSession) → s.due ≡ false → Goes k sv n.0 hs (with_session s t) (cp.ask_next (with_session s t) s n)
  unfolding cp.ask_next cp.ask_for_or
  next_goes t s du =
      if_goes k sv n.0 hs (with_session s t) _ _ _ (λ h. go (cp.first_asking (with_session s t) s n t.operations) (well_first (with_session s t) s n t.operations)) (λ h. keep_goes t s du)
    where
      go : (o : Option Asking) → WellAsking t.here.store o → Goes k sv n.0 hs (with_session s t) (cp.ask_for_or (with_session s t) s n o)
      go None w = keep_goes t s du
      go (Some a) w = asking_goes t s a w du

  by_goes : (t : Turn) (s : ClientSession) (rs : List Release) → s.releases ≡ rs → s.due ≡ false → Goes k sv n.0 hs (with_session s t) (cp.ask_by (with_session s t) s n rs)
  unfolding cp.ask_by
  by_goes t s [] is du = next_goes t s du
  by_goes t s (q ∷ rs) is du = release_goes t s q rs is du

  new_goes : (t : Turn) (s : ClientSession) → Goes k sv n.0 hs (with_session s t) (cp.ask_new (with_session s t) s n)
  unfolding cp.ask_new
  new_goes t s = if_goes k sv n.0 hs (with_session s t) s.due _ _ (λ h. reassert_goes t s h) (λ h. by_goes t s s.releases refl h)

  session_asks : (t : Turn) (s : ClientSession) (tick : Bool) → Goes k sv n.0 hs (with_session s t) (cp.requests_under (with_session s t) s n tick)
  unfolding cp.requests_under cp.requests_at cp.repeat
  session_asks t s tick = if_goes k sv n.0 hs (with_session s t) s.lease.condemned (with_session s t) _ (λ h. goes_same k sv n.0 hs (with_session s t)) (λ h. go s.requests.asked refl)
    where
      go : (o : Option Request) → s.requests.asked ≡ o → Goes k sv n.0 hs (with_session s t) (cp.requests_at (with_session s t) s n tick o)
      go None e = new_goes t s
      go (Some q) e = if_goes k sv n.0 hs (with_session s t) _ _ (with_session s t) (λ h. again_goes t s q e) (λ h. goes_same k sv n.0 hs (with_session s t))

  pub requests_goes : (t : Turn) (tick : Bool) → Goes k sv n.0 hs t (cp.requests n tick t)
  unfolding cp.requests cp.requests_by
  requests_goes t tick = go t.here.session refl
    where
      go : (o : Option ClientSession) → t.here.session ≡ o → Goes k sv n.0 hs t (cp.requests_by t n tick o)
      go None q = goes_same k sv n.0 hs t
      go (Some s) q = subst (λ u. Goes k sv n.0 hs u (cp.requests_under u s n tick)) (sym (with_it k sv n.0 hs t (Some s) q)) (session_asks t s tick)

  -- greeting
  hello_goes : (t : Turn) → Goes k sv n.0 hs (record t { here = record t.here { session = None } }) (cp.hello (record t { here = record t.here { session = None } }) n)
  unfolding cp.hello send
  hello_goes t =
      record {
        frame = frame_send _ _ _ _ _ refl refl;
        go = λ N r.
            let u : Turn = record t { here = record t.here { session = None } } in
            let c : Msg = msg t.here.life.0 0 n.0 net.Hello in
            let x = ready_more k n.0 hs u N (c ∷ N) (λ x i. inr i) r in
            record {
              net = c ∷ N;
              moves = one (Greets (at sv n.0 u N) refl) refl;
              ready =
                  record {
                    terms = x.terms;
                    born = x.born;
                    lasts = x.lasts;
                    said = said_both t.id.0 t.here.server t.out _ (c ∷ N) x.said (record { from = refl; one = λ e. record { born = r.born; clients = refl; wishes = record {}; shows = record { one = inl refl; rest = record {} } }; rest = record {} });
                    kept = x.kept;
                    received = x.received;
                  };
            };
      }

  pub greeting_goes : (t : Turn) (tick : Bool) → Goes k sv n.0 hs t (cp.greeting n tick t)
  unfolding cp.greeting cp.greeting_by cp.greet
  greeting_goes t tick = go t.here.session refl
    where
      none : (u : Turn) → Goes k sv n.0 hs (record u { here = record u.here { session = None } }) (cp.greet (record u { here = record u.here { session = None } }) n tick)
      none u = let v : Turn = record u { here = record u.here { session = None } } in if_goes k sv n.0 hs v (cp.must_greet v n tick) _ v (λ h. hello_goes u) (λ h. goes_same k sv n.0 hs v)

      go : (o : Option ClientSession) → t.here.session ≡ o → Goes k sv n.0 hs t (cp.greeting_by t n tick o)
      go None q = subst (λ u. Goes k sv n.0 hs u (cp.greet u n tick)) (sym (with_it k sv n.0 hs t None q)) (none t)
      go (Some s) q = goes_same k sv n.0 hs t
