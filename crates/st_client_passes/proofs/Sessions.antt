-- What is done with a session, by whether there is one.
use Rattle.std.proofs.Common.{◌≡◌, ℕ, Bool, true, false, List, [], ◌∷◌, map, Option, Some, None, refl, sym, ap, ◌∙◌, true≢false}
use Rattle.std.specs.Prelude.{if◌then◌else◌, is_some}
use Rattle.st_base.specs.declared.ids.Stamp.{Stamp}
use Rattle.st_rules.specs.declared.client.Operation.{Operation}
use Rattle.st_rules.specs.Client.{is_any}
use Rattle.st_rules.specs.ClientLocks as locks
use Rattle.st_rules.specs.ClientLocks.{LockCache}
use Rattle.st_rules.specs.ClientPasses.{operate_by, operate_under, may_reduce, reduce, reduce_by, reduce_idle, reductions, reduce_each, files_demanded, writes, writes_by, greeting, greeting_by, greet, hello, must_greet, requests, requests_at, requests_by, requests_under}
use Rattle.st_rules.specs.ClientState.{ClientSession, Turn, keep, send}
use Rattle.st_rules.specs.Keys.{rising}
use Rattle.st_client_association.specs.Turns.{has_session, session_of}

-- with this session, or none
abbrev with_it : Option ClientSession → Turn → Turn
with_it s t = record t { here = record t.here { session = s } }

-- there is the session, or none
pub session_is : (t : Turn) → has_session t ≡ true → t.here.session ≡ Some (session_of t)
session_is t h = by t.here.session h
  where
    by : (s : Option ClientSession) → is_some s ≡ true → s ≡ Some (session_of (with_it s t))
    by None h = absurd (true≢false (sym h))
    by (Some s) h = refl

pub no_session : (t : Turn) → has_session t ≡ false → t.here.session ≡ None
no_session t h = by t.here.session h
  where
    by : (s : Option ClientSession) → is_some s ≡ false → s ≡ None
    by None h = refl
    by (Some s) h = absurd (true≢false h)

pub operate_with : (all : List Operation) (t : Turn) (now : Stamp) (o : Operation) → has_session t ≡ true → operate_by all t now o t.here.session ≡ operate_under all t (session_of t) now o
unfolding operate_by
operate_with all t now o h = ap (operate_by all t now o) (session_is t h)

pub operate_without : (all : List Operation) (t : Turn) (now : Stamp) (o : Operation) → has_session t ≡ false → operate_by all t now o t.here.session ≡ keep o t
unfolding operate_by
operate_without all t now o h = ap (operate_by all t now o) (no_session t h)

reduce_with : (t : Turn) (ino : ℕ) → has_session t ≡ true → reduce t ino t.here.session ≡ reduce_idle t (session_of t) ino
unfolding reduce
reduce_with t ino h = ap (reduce t ino) (session_is t h)

-- a file is reduced if it may be
pub reduces : (t : Turn) (ino : ℕ) (b : Bool) → has_session t ≡ true → may_reduce t (session_of t) ino ≡ b →
    reduce t ino t.here.session ≡ (if b then reduce_by t (session_of t) ino (locks.reduce (session_of t).locks ino) else t)
unfolding reduce_idle
reduces t ino b h e = reduce_with t ino h ∙ ap (λ (b : Bool). if b then reduce_by t (session_of t) ino (locks.reduce (session_of t).locks ino) else t) e

pub reductions_with : (t : Turn) → has_session t ≡ true → reductions t ≡ reduce_each (locks.demanded_files (session_of t).locks) t
unfolding reductions
reductions_with t h = ap (λ s. reduce_each (files_demanded s) t) (session_is t h)

nothing_in : {A : Type 0} (xs : List A) → is_any xs ≡ false → xs ≡ []
nothing_in [] e = refl
nothing_in (x ∷ xs) e = absurd (true≢false e)

-- if no lock is demanded, no file is
pub none_demanded : (c : LockCache) → is_any c.demanded ≡ false → locks.demanded_files c ≡ []
unfolding rising
none_demanded c e = ap (λ ds. rising (map locks.ino_of_demand ds)) (nothing_in c.demanded e)

pub reductions_none : (t : Turn) → has_session t ≡ true → is_any (session_of t).locks.demanded ≡ false → reductions t ≡ t
unfolding reduce_each
reductions_none t h e = reductions_with t h ∙ ap (λ files. reduce_each files t) (none_demanded (session_of t).locks e)

pub reductions_without : (t : Turn) → has_session t ≡ false → reductions t ≡ t
unfolding reductions reduce_each
reductions_without t h = ap (λ s. reduce_each (files_demanded s) t) (no_session t h)

-- the dirty pages are looked at
pub writes_with : (now : Stamp) (tick : Bool) (t : Turn) → has_session t ≡ true → writes now tick t ≡ writes_by t now tick (Some (session_of t))
unfolding writes
writes_with now tick t h = ap (writes_by t now tick) (session_is t h)

pub writes_without : (now : Stamp) (tick : Bool) (t : Turn) → has_session t ≡ false → writes now tick t ≡ t
unfolding writes writes_by
writes_without now tick t h = ap (writes_by t now tick) (no_session t h)

pub greeting_with : (now : Stamp) (tick : Bool) (t : Turn) → has_session t ≡ true → greeting now tick t ≡ t
unfolding greeting greeting_by
greeting_with now tick t h = ap (greeting_by t now tick) (session_is t h)

pub greeting_without : (now : Stamp) (tick : Bool) (t : Turn) → has_session t ≡ false → greeting now tick t ≡ greet t now tick
unfolding greeting greeting_by
greeting_without now tick t h = ap (greeting_by t now tick) (no_session t h)

pub requests_with : (now : Stamp) (tick : Bool) (t : Turn) → has_session t ≡ true → requests now tick t ≡ requests_under t (session_of t) now tick
unfolding requests requests_by
requests_with now tick t h = ap (requests_by t now tick) (session_is t h)

pub requests_without : (now : Stamp) (tick : Bool) (t : Turn) → has_session t ≡ false → requests now tick t ≡ t
unfolding requests requests_by
requests_without now tick t h = ap (requests_by t now tick) (no_session t h)

-- With a session the client doesn't greet, and asks unless the lease is condemned.
module _ (now : Stamp) (tick : Bool) (t : Turn) where
  asks_with : has_session t ≡ true → requests now tick (greeting now tick t) ≡ requests_under t (session_of t) now tick
  asks_with h = ap (requests now tick) (greeting_with now tick t h) ∙ requests_with now tick t h

  under_as : (b : Bool) → (session_of t).lease.condemned ≡ b → requests_under t (session_of t) now tick ≡ (if b then t else requests_at t (session_of t) now tick (session_of t).requests.asked)
  unfolding requests_under
  under_as b e = ap (λ (b : Bool). if b then t else requests_at t (session_of t) now tick (session_of t).requests.asked) e

  pub asks_nothing : has_session t ≡ true → (session_of t).lease.condemned ≡ true → t ≡ requests now tick (greeting now tick t)
  asks_nothing h e = sym (asks_with h ∙ under_as true e)

  pub asks_at : has_session t ≡ true → (session_of t).lease.condemned ≡ false → requests_at t (session_of t) now tick (session_of t).requests.asked ≡ requests now tick (greeting now tick t)
  asks_at h e = sym (asks_with h ∙ under_as false e)

  -- Without a session it may greet, and asks nothing.
  greets_without : has_session t ≡ false → has_session (greet t now tick) ≡ false
  unfolding greet hello send
  greets_without h = by (must_greet t now tick)
    where
      by : (b : Bool) → has_session (if b then hello t now else t) ≡ false
      by true = h
      by false = h

  pub greets_alone : has_session t ≡ false → greet t now tick ≡ requests now tick (greeting now tick (writes now tick (reductions t)))
  greets_alone h =
      sym
      (ap (λ u. requests now tick (greeting now tick (writes now tick u))) (reductions_without t h)
      ∙ ap (λ u. requests now tick (greeting now tick u)) (writes_without now tick t h)
      ∙ ap (requests now tick) (greeting_without now tick t h)
      ∙ requests_without now tick (greet t now tick) (greets_without h))
