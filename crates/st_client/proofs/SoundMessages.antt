-- Messages that a client sends have every field in its range; and the locks that it reasserts.
use Rattle.st_lemmas.proofs.Words
use Words.{◌≡◌, ℕ, ◌+◌, ◌^◌, ◌<◌, ◌≤◌, Bool, true, ◌&&◌, List, [], ◌∷◌, length, refl, arith, inl, inr, map, filter, not, nat_le, nat_lt, option_map, Option}
use Words.{Some, None, ⊤, list_all, cons_option, eqb-true, leb-true, le-leb, lt-ltb, AppAnswer, Kind, Body, Header, Output, HeldLock, Operation}
use Words.Lists.{Has, Rises}
use Words.Tables.{and_true, and_both, each_passes, found_at, has_map}
use Words.bodies
use Words.outputs
use Words.Ranges.{after_lock, are_ages, are_locks, are_marks, are_nodes, are_rows, fits, is_body, is_header, is_lock_row}
use Words.Kinds.{allows, between, epoch_of, kind_of_body, life_of, request_of, stamp_of}
use Words.ClientLocks.{LockCache, all_locks, ino_of_lock, is_lock_on, lock_in_list, lock_of, lock_row_at}
use Words.ClientState.{Association, ClientSession, Turn, answer_each, answer_to, header_of, say, send, with_session}
use Words.Keys.{rising, server_node}
use Words.Lengths.{length_map}
use Words.Tests.{all_last}
use Rattle.std.specs.List.{filter_map}
use Rattle.st_client.specs.Inputs.{is_sent}
use Rattle.st_client.specs.Invariants.{AreSoundLocks, IsSoundSession, is_asking, is_sound_lock, is_sound_operation}
use Rattle.st_client.proofs.SoundLists.{all_append, all_filter, all_made, filter_map_fits, rising_fits}
use Rattle.st_lemmas.proofs.Keys.{rising_has, rising_rises}
use Rattle.st_messages.specs.declared.kind.Kind.TheVariants as kinds
use Rattle.st_messages.specs.declared.kind.Need.TheVariants.{Positive}

-- What holds of a step at one server: the life and the number of the next request are at most this.

abbrev pub FitSession : ℕ → ClientSession → Type 0
FitSession most s = record { sound : IsSoundSession s; room : s.requests.next ≤ most }

abbrev pub FitIn : ℕ → Option ClientSession → Type 0
FitIn most None = ⊤
FitIn most (Some s) = FitSession most s

abbrev pub FitAt : ℕ → Association → Type 0
FitAt most a = record { server : between 1 4 a.server.0 ≡ true; first : 1 ≤ a.life.0; life : a.life.0 ≤ most; session : FitIn most a.session }

abbrev pub Fit : ℕ → Turn → Type 0
Fit most t = record { id : between 1 16 t.id.0 ≡ true; here : FitAt most t.here; operations : list_all is_sound_operation t.operations ≡ true; out : list_all is_sent t.out ≡ true }

-- Numbers.

pub between_is : (least most n : ℕ) → least ≤ n → n ≤ most → between least most n ≡ true
between_is least most n l m = and_both (nat_le least n) (nat_le n most) (le-leb least n l) (le-leb n most m)

pub in_between : (least most n : ℕ) → between least most n ≡ true → (least ≤ n) × (n ≤ most)
in_between least most n e =
    let s = and_true (nat_le least n) (nat_le n most) e in
    (leb-true least n s.0, leb-true n most s.1)

pub positive_is : (n : ℕ) → 1 ≤ n → n < 2 ^ 64 → allows Positive n ≡ true
positive_is n l m = and_both (nat_le 1 n) (nat_lt n (2 ^ 64)) (le-leb 1 n l) (lt-ltb n (2 ^ 64) m)

-- Headers.

pub header_by : (k : Kind) (h : Header) → are_nodes k h ≡ true → allows (life_of k) h.life ≡ true → allows (epoch_of k) h.epoch ≡ true → allows (request_of k) h.number ≡ true →
    allows (stamp_of k) h.stamp ≡ true → is_header k h ≡ true
unfolding is_header
header_by k h n l e r s =
    and_both (are_nodes k h) (are_ages k h && are_marks k h) n
    (and_both (are_ages k h) (are_marks k h) (and_both (allows (life_of k) h.life) (allows (epoch_of k) h.epoch) l e)
    (and_both (allows (request_of k) h.number) (allows (stamp_of k) h.stamp) r s))

pub epoch_in : (k : Kind) (h : Header) → is_header k h ≡ true → allows (epoch_of k) h.epoch ≡ true
unfolding is_header
epoch_in k h e =
    let a = and_true (are_nodes k h) (are_ages k h && are_marks k h) e in
    let b = and_true (are_ages k h) (are_marks k h) a.1 in
    (and_true (allows (life_of k) h.life) (allows (epoch_of k) h.epoch) b.0).1

pub fits_parts : (h : Header) (body : Body) → fits (record { header = h; body = body }) ≡ true → (is_header (kind_of_body body) h ≡ true) × (is_body body ≡ true)
unfolding fits
fits_parts h body e = and_true (is_header (kind_of_body body) h) (is_body body) e

module _ (most : ℕ) (high : most < 2 ^ 64) where
  nodes_fit : (t : Turn) → Fit most t → (between 1 16 t.id.0 && between 32769 32772 (server_node t.here.server)) ≡ true
  nodes_fit t h =
      let s = in_between 1 4 t.here.server.0 h.here.server in
      let l = s.0 in
      let m = s.1 in
      and_both (between 1 16 t.id.0) (between 32769 32772 (server_node t.here.server)) h.id
      (between_is 32769 32772 (server_node t.here.server) (omega (arith, l)) (omega (arith, m)))

  life_fits : (t : Turn) → Fit most t → allows Positive t.here.life.0 ≡ true
  life_fits t h = let l = h.here.life in positive_is t.here.life.0 h.here.first (omega (arith, l, high))

  -- a greeting
  pub hello_header : (t : Turn) (stamp : ℕ) → stamp < 2 ^ 64 → Fit most t → is_header kinds.Hello (header_of t 0 0 stamp) ≡ true
  hello_header t stamp s h = header_by kinds.Hello (header_of t 0 0 stamp) (nodes_fit t h) (life_fits t h) refl refl (lt-ltb stamp (2 ^ 64) s)

  -- a demand that was seen
  pub seen_header : (t : Turn) (epoch : ℕ) → allows Positive epoch ≡ true → Fit most t → is_header kinds.DemandSeen (header_of t epoch 0 0) ≡ true
  seen_header t epoch e h = header_by kinds.DemandSeen (header_of t epoch 0 0) (nodes_fit t h) (life_fits t h) e refl refl

  -- a request
  pub asking_header : (t : Turn) (epoch number stamp : ℕ) (body : Body) → is_asking body ≡ true → allows Positive epoch ≡ true → allows Positive number ≡ true → stamp < 2 ^ 64 → Fit most t →
      is_header (kind_of_body body) (header_of t epoch number stamp) ≡ true
  asking_header t epoch number stamp body a e n s h = by body a
    where
      by : (b : Body) → is_asking b ≡ true → is_header (kind_of_body b) (header_of t epoch number stamp) ≡ true
      by bodies.KeepAlive a = header_by kinds.KeepAlive _ (nodes_fit t h) (life_fits t h) e n (lt-ltb stamp (2 ^ 64) s)
      by (bodies.Acquire ino mode) a = header_by kinds.Acquire _ (nodes_fit t h) (life_fits t h) e n (lt-ltb stamp (2 ^ 64) s)
      by (bodies.Released ino g to) a = header_by kinds.Released _ (nodes_fit t h) (life_fits t h) e n (lt-ltb stamp (2 ^ 64) s)
      by (bodies.Map ino g p) a = header_by kinds.Map _ (nodes_fit t h) (life_fits t h) e n (lt-ltb stamp (2 ^ 64) s)
      by (bodies.Allocate ino g p count) a = header_by kinds.Allocate _ (nodes_fit t h) (life_fits t h) e n (lt-ltb stamp (2 ^ 64) s)
      by (bodies.Cut ino g from) a = header_by kinds.Cut _ (nodes_fit t h) (life_fits t h) e n (lt-ltb stamp (2 ^ 64) s)
      by (bodies.Name op) a = header_by kinds.Name _ (nodes_fit t h) (life_fits t h) e n (lt-ltb stamp (2 ^ 64) s)
      by (bodies.Reassert rows) a = header_by kinds.Reassert _ (nodes_fit t h) (life_fits t h) e n (lt-ltb stamp (2 ^ 64) s)
      by b a = cc

-- Small changes of a step.

pub says_fit : (most : ℕ) (t : Turn) (o : Output) → is_sent o ≡ true → Fit most t → Fit most (say t o)
says_fit most t o e h = record { id = h.id; here = h.here; operations = h.operations; out = all_last is_sent t.out o h.out e }

pub sends_fit : (most : ℕ) (t : Turn) (epoch number stamp : ℕ) (body : Body) → is_header (kind_of_body body) (header_of t epoch number stamp) ≡ true → is_body body ≡ true → Fit most t →
    Fit most (send t epoch number stamp body)
unfolding send fits
sends_fit most t epoch number stamp body e b h =
    says_fit most t (outputs.Send (record { header = header_of t epoch number stamp; body = body }))
    (and_both (is_header (kind_of_body body) (header_of t epoch number stamp)) (is_body body) e b) h

pub told_fit : (most : ℕ) (p : Operation → Bool) (a : AppAnswer) (t : Turn) → Fit most t → Fit most (answer_each p a t)
unfolding answer_each
told_fit most p a t h =
    record {
      id = h.id;
      here = h.here;
      operations = all_filter is_sound_operation (λ o. not (p o)) t.operations h.operations;
      out = all_append is_sent t.out (map (answer_to a) (filter p t.operations)) h.out (all_made is_sent (answer_to a) (λ o. refl) (filter p t.operations));
    }

pub puts_fit : (most : ℕ) (t : Turn) (s : ClientSession) → FitSession most s → Fit most t → Fit most (with_session s t)
puts_fit most t s l h =
    record {
      id = h.id;
      here = record { server = h.here.server; first = h.here.first; life = h.here.life; session = l };
      operations = h.operations;
      out = h.out;
    }

-- a lock that is held
pub held_sound : (c : LockCache) (ino : ℕ) (l : HeldLock) → list_all is_sound_lock c.rows ≡ true → lock_of c ino ≡ Some l → (l.ino ≡ ino) × (is_sound_lock l ≡ true)
held_sound c ino l h e =
    let f = found_at (is_lock_on ino) c.rows l e in
    (eqb-true l.ino ino f.0, each_passes is_sound_lock c.rows h l f.1)

-- Reassertions: the locks by rising file.

row_above : (least : ℕ) (l : HeldLock) → least ≤ l.ino → is_sound_lock l ≡ true → is_lock_row least (lock_in_list l) ≡ true
row_above least l m e =
    let s = and_true (between 1 4294967295 l.ino) _ e in
    and_both (between least 4294967295 l.ino) _ (between_is least 4294967295 l.ino m (in_between 1 4294967295 l.ino s.0).1) s.1

rows_rise : (c : LockCache) → list_all is_sound_lock c.rows ≡ true → (keys : List ℕ) (least : ℕ) → Rises keys → ((k : ℕ) → Has k keys → least ≤ k) →
    are_rows is_lock_row after_lock least (filter_map (lock_row_at c) keys) ≡ true
rows_rise c h [] least r m = refl
rows_rise c h (k ∷ ks) least r m = by (lock_of c k) refl (λ n i. rows_rise c h ks n r.rest i)
  where
    by : (o : Option HeldLock) → lock_of c k ≡ o →
        ((n : ℕ) → ((y : ℕ) → Has y ks → n ≤ y) → are_rows is_lock_row after_lock n (filter_map (lock_row_at c) ks) ≡ true) →
        are_rows is_lock_row after_lock least (cons_option (option_map lock_in_list o) (filter_map (lock_row_at c) ks)) ≡ true
    by None e i = i least (λ y j. m y (inr j))
    by (Some l) e i =
        let f = held_sound c k l h e in
        let q = f.0 in
        let n = m k (inl refl) in
        and_both (is_lock_row least (lock_in_list l)) (are_rows is_lock_row after_lock (l.ino + 1) (filter_map (lock_row_at c) ks)) (row_above least l (omega (arith, q, n)) f.1)
        (i (l.ino + 1) (λ y j. let z = r.first y j in omega (arith, q, z)))

key_above : (rows : List HeldLock) → list_all is_sound_lock rows ≡ true → (k : ℕ) → Has k (map ino_of_lock rows) → 1 ≤ k
key_above rows h k i =
    let m = has_map ino_of_lock rows k i in
    let s = and_true (between 1 4294967295 (m.0).ino) _ (each_passes is_sound_lock rows h m.0 m.1) in
    let l = (in_between 1 4294967295 (m.0).ino s.0).0 in
    let e = m.2 in
    omega (arith, l, e)

pub locks_sound : (c : LockCache) → AreSoundLocks c → are_locks (all_locks c) ≡ true
unfolding are_locks all_locks
locks_sound c h =
    let keys = rising (map ino_of_lock c.rows) in
    let a = filter_map_fits (lock_row_at c) keys in
    let b = rising_fits (map ino_of_lock c.rows) in
    let d = length_map ino_of_lock c.rows in
    let f = h.few in
    let m = h.limit in
    and_both (between 0 1024 (length (filter_map (lock_row_at c) keys))) (are_rows is_lock_row after_lock 1 (filter_map (lock_row_at c) keys))
    (between_is 0 1024 (length (filter_map (lock_row_at c) keys)) (omega arith) (omega (arith, a, b, d, f, m)))
    (rows_rise c h.rows keys 1 (rising_rises (map ino_of_lock c.rows)) (λ k i. key_above c.rows h.rows k (rising_has (map ino_of_lock c.rows) k i)))
