-- The requests at a server don't read what was said before.
use Rattle.st_lemmas.proofs.Words
use Words.{◌≡◌, ℕ, Bool, List, [], ◌∷◌, Option, Some, None, refl, Output, GrantNo, Stamp, Ask, Body, HeldLock, Operation, Release, Request}
use Words.asks
use Words.bodies
use Words.ClientLease as lease
use Words.ClientLocks as locks
use Words.ClientPasses as passes
use Words.ClientPasses.{Asking, ask, ask_again, repeat, keep_alive, want_lock, want_map, want_block, want_cut, want_held, want_under, want_by, want_on}
use Words.ClientPasses.{want_at, want, asked_by, first_asking, ask_for, ask_for_or, ask_next, ask_release, ask_by, reassert, ask_new, requests_at}
use Words.ClientPasses.{requests_under, requests_by, requests}
use Words.ClientState.{ClientSession, Turn, file_of, is_serving, send}
use Rattle.st_client_frames.proofs.Framing.{either, says}
use Rattle.st_client_frames.specs.Frames.{after}

-- What operations ask.

same_held : (xs : List Output) (t : Turn) (ask : Ask) (ino : ℕ) (g : GrantNo) → want_held (after xs t) ask ino g ≡ want_held t ask ino g
unfolding want_held want_map want_block want_cut
same_held xs t (asks.Read f p) ino g = refl
same_held xs t (asks.Write f p bytes) ino g = refl
same_held xs t (asks.Patch f p at bytes) ino g = refl
same_held xs t (asks.Cut f p) ino g = refl
same_held xs t (asks.Name server name) ino g = refl
same_held xs t (asks.Sync f) ino g = refl

same_by : (xs : List Output) (t : Turn) (s : ClientSession) (now : Stamp) (ask : Ask) (ino : ℕ) (l : Option HeldLock) →
    want_by (after xs t) s now ask ino l ≡ want_by t s now ask ino l
unfolding want_by want_under want_lock
same_by xs t s now ask ino None = refl
same_by xs t s now ask ino (Some l) = rw (same_held xs t ask ino l.g) refl

same_at : (xs : List Output) (t : Turn) (s : ClientSession) (now : Stamp) (ask : Ask) (file : Option ℕ) →
    want_at (after xs t) s now ask file ≡ want_at t s now ask file
unfolding want_at want_on
same_at xs t s now ask None = refl
same_at xs t s now ask (Some ino) = same_by xs t s now ask ino (locks.lock_of s.locks ino)

-- what an ask wants
same_want : (xs : List Output) (t : Turn) (s : ClientSession) (now : Stamp) (ask : Ask) → want (after xs t) s now ask ≡ want t s now ask
unfolding want
same_want xs t s now (asks.Sync f) = refl
same_want xs t s now (asks.Write f p bytes) = same_at xs t s now (asks.Write f p bytes) (file_of (asks.Write f p bytes))
same_want xs t s now (asks.Patch f p at bytes) = same_at xs t s now (asks.Patch f p at bytes) (file_of (asks.Patch f p at bytes))
same_want xs t s now (asks.Read f p) = same_at xs t s now (asks.Read f p) (file_of (asks.Read f p))
same_want xs t s now (asks.Cut f p) = same_at xs t s now (asks.Cut f p) (file_of (asks.Cut f p))
same_want xs t s now (asks.Name server name) = same_at xs t s now (asks.Name server name) (file_of (asks.Name server name))

same_asked : (xs : List Output) (t : Turn) (s : ClientSession) (now : Stamp) (o : Operation) → asked_by (after xs t) s now o ≡ asked_by t s now o
unfolding asked_by
same_asked xs t s now o = rw (same_want xs t s now o.ask) refl

same_first : (xs : List Output) (t : Turn) (s : ClientSession) (now : Stamp) (os : List Operation) →
    first_asking (after xs t) s now os ≡ first_asking t s now os
unfolding first_asking
same_first xs t s now [] = refl
same_first xs t s now (o ∷ os) = rw (same_first xs t s now os) (rw (same_asked xs t s now o) refl)

-- Requests.

frame_ask : (xs : List Output) (t : Turn) (s : ClientSession) (now : Stamp) (body : Body) (cutting : Option ℕ) →
    ask (after xs t) s now body cutting ≡ after xs (ask t s now body cutting)
unfolding ask send
frame_ask xs t s now body cutting = says xs (record t { here = record t.here { session = Some (passes.asking_session s now body cutting) } }) _

frame_repeat : (xs : List Output) (t : Turn) (s : ClientSession) (now : Stamp) (tick : Bool) (q : Request) →
    repeat (after xs t) s now tick q ≡ after xs (repeat t s now tick q)
unfolding repeat ask_again send
frame_repeat xs t s now tick q =
    either (passes.is_old t.config now tick q) xs _ _ _ _
    (says xs (record t { here = record t.here { session = Some (passes.again_session s now q) } }) _) refl

frame_keep_alive : (xs : List Output) (t : Turn) (s : ClientSession) (now : Stamp) → keep_alive (after xs t) s now ≡ after xs (keep_alive t s now)
unfolding keep_alive
frame_keep_alive xs t s now = either (lease.is_renewing (lease.phase_of t.config s.lease now)) xs _ _ _ _ (frame_ask xs t s now bodies.KeepAlive None) refl

-- the request of the first that asks, or a keep-alive
pub frame_ask_for : (xs : List Output) (t : Turn) (s : ClientSession) (now : Stamp) (a : Option Asking) →
    ask_for_or (after xs t) s now a ≡ after xs (ask_for_or t s now a)
unfolding ask_for_or ask_for
frame_ask_for xs t s now None = frame_keep_alive xs t s now
frame_ask_for xs t s now (Some a) =
    frame_ask xs
    (record t { operations = a.operations; here = record t.here { store = passes.cut_store a.wanted.cut t.here.store } }) s now a.wanted.body
    (passes.file_cut a.wanted.cut)

frame_ask_first : (xs : List Output) (t : Turn) (s : ClientSession) (now : Stamp) →
    ask_for_or (after xs t) s now (first_asking (after xs t) s now t.operations) ≡ after xs (ask_for_or t s now (first_asking t s now t.operations))
frame_ask_first xs t s now = rw (same_first xs t s now t.operations) (frame_ask_for xs t s now (first_asking t s now t.operations))

frame_ask_next : (xs : List Output) (t : Turn) (s : ClientSession) (now : Stamp) → ask_next (after xs t) s now ≡ after xs (ask_next t s now)
unfolding ask_next
frame_ask_next xs t s now = either (is_serving t.config s now) xs _ _ _ _ (frame_ask_first xs t s now) (frame_keep_alive xs t s now)

frame_ask_by : (xs : List Output) (t : Turn) (s : ClientSession) (now : Stamp) (rs : List Release) → ask_by (after xs t) s now rs ≡ after xs (ask_by t s now rs)
unfolding ask_by ask_release
frame_ask_by xs t s now [] = frame_ask_next xs t s now
frame_ask_by xs t s now (r ∷ rs) = frame_ask xs t (record s { releases = rs }) now (bodies.Released r.ino r.g r.to) None

frame_ask_new : (xs : List Output) (t : Turn) (s : ClientSession) (now : Stamp) → ask_new (after xs t) s now ≡ after xs (ask_new t s now)
unfolding ask_new reassert
frame_ask_new xs t s now = either s.due xs _ _ _ _ (frame_ask xs t s now (bodies.Reassert (locks.all_locks s.locks)) None) (frame_ask_by xs t s now s.releases)

frame_requests_at : (xs : List Output) (t : Turn) (s : ClientSession) (now : Stamp) (tick : Bool) (q : Option Request) →
    requests_at (after xs t) s now tick q ≡ after xs (requests_at t s now tick q)
unfolding requests_at
frame_requests_at xs t s now tick None = frame_ask_new xs t s now
frame_requests_at xs t s now tick (Some q) = frame_repeat xs t s now tick q

frame_requests_by : (xs : List Output) (t : Turn) (now : Stamp) (tick : Bool) (s : Option ClientSession) →
    requests_by (after xs t) now tick s ≡ after xs (requests_by t now tick s)
unfolding requests_by requests_under
frame_requests_by xs t now tick None = refl
frame_requests_by xs t now tick (Some s) = either s.lease.condemned xs _ _ _ _ refl (frame_requests_at xs t s now tick s.requests.asked)

pub frame_requests : (xs : List Output) (t : Turn) (now : Stamp) (tick : Bool) → requests now tick (after xs t) ≡ after xs (requests now tick t)
unfolding requests
frame_requests xs t now tick = frame_requests_by xs t now tick t.here.session
