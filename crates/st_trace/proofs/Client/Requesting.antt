-- What a client sends to a server at the end of a step, walked: a greeting, and a request.
use Rattle.st_lemmas.proofs.Words
use Words.{◌≡◌, ℕ, Bool, true, false, List, [], ◌∷◌, ◌++◌, Option, Some, None, refl, sym, ap, ◌∙◌, subst, inl, inr, if◌then◌else◌, Stamp, Ask, HeldLock}
use Words.{Operation, Release, Request}
use Words.modes
use Words.asks
use Words.bodies
use Words.ClientLease as lease
use Words.ClientLocks as locks
use Words.ClientPages as pages
use Words.ClientPasses as cp
use Words.ClientState.{ClientSession, Turn, file_of, is_serving, is_sync, wait_of, with_operations, with_store}
use Words.Lists.{Has}
use Words.Lookups.{some_is}
use Words.Tables.{cond_either}
use Rattle.st_base.specs.Mode.{covers}
use Rattle.st_trace.specs.Client.Requests.{Greets, IsSilent, SaysHello, Wants, ForLock, ForPlace, ToWrite, ToPatch, ToCut, ToRemove, ToName, AsksFirst, MayAsk}
use Rattle.st_trace.specs.Client.Requests.{IsFree, asked, Requests, AsksNothing, AsksAgain, Reasserts, Releases, AsksFor, KeepsAlive}

-- A greeting
pub greets : (now : Stamp) (tick : Bool) (t : Turn) → Greets now tick t (cp.greeting now tick t)
unfolding cp.greeting cp.greeting_by cp.greet cp.hello
greets now tick t = go t.here.session refl
  where
    go : (x : Option ClientSession) → t.here.session ≡ x → Greets now tick t (cp.greeting_by t now tick x)
    go None e = cond_either (Greets now tick t) (cp.must_greet t now tick) _ t (λ m. SaysHello e m) (λ m. IsSilent)
    go (Some s) e = IsSilent

-- What an operation asks, if anything
abbrev WantsAt : Turn → ClientSession → Stamp → Ask → Option cp.Wanted → Type 0
WantsAt t s now ask None = Unit {0}
WantsAt t s now ask (Some w) = Wants t s now ask w

no_lock_serves : (ask : Ask) → covers modes.None (cp.need ask) ≡ false
no_lock_serves (asks.Read f p) = refl
no_lock_serves ask = refl

mode_here : (s : ClientSession) (ino : ℕ) (l : HeldLock) → locks.lock_of s.locks ino ≡ Some l → locks.mode_of s.locks ino ≡ l.mode
mode_here s ino l e = ap locks.mode_at e

module _ (t : Turn) (s : ClientSession) (now : Stamp) (ask : Ask) where
  abbrev W : Option cp.Wanted → Type 0
  W x = WantsAt t s now ask x

  for_lock : (ino : ℕ) → file_of ask ≡ Some ino → is_sync ask ≡ false → covers (locks.mode_of s.locks ino) (cp.need ask) ≡ false → W
      (cp.want_lock t s now ino (cp.need ask))
  unfolding cp.want_lock
  for_lock ino f n c = cond_either W (cp.is_wait_old t.config now (cp.need ask) (wait_of s.waits ino)) _ None (λ e. ForLock ino f n c e) (λ e. tt)

  -- with the lock that it needs
  with_lock : (a : Ask) → ask ≡ a → (ino : ℕ) → file_of a ≡ Some ino → (l : HeldLock) → locks.lock_of s.locks ino ≡ Some l → covers l.mode (cp.need a) ≡ true →
      W (cp.want_held t a ino l.g)
  unfolding cp.want_held cp.want_map cp.want_block cp.want_cut
  with_lock (asks.Read f p) q ino i l h c =
      subst (λ n. W (if cp.is_at_hand t n p then None else cp.wanted (bodies.Map n l.g p))) (some_is i)
      (cond_either W (cp.is_at_hand t f.ino p) None _ (λ e. tt) (λ e. ForPlace f p l q (subst (λ n. locks.lock_of s.locks n ≡ Some l) (sym (some_is i)) h) c e))
  with_lock (asks.Write f p bytes) q ino i l h c =
      subst (λ n. W (if pages.is_mapped t.here.store.extents n p then None else cp.wanted (bodies.Allocate n l.g p 1))) (some_is i)
      (cond_either W (pages.is_mapped t.here.store.extents f.ino p) None _ (λ e. tt)
      (λ e. ToWrite f p bytes l q (subst (λ n. locks.lock_of s.locks n ≡ Some l) (sym (some_is i)) h) c e))
  with_lock (asks.Patch f p at bytes) q ino i l h c =
      subst (λ n. W (if pages.is_mapped t.here.store.extents n p then None else cp.wanted (bodies.Allocate n l.g p 1))) (some_is i)
      (cond_either W (pages.is_mapped t.here.store.extents f.ino p) None _ (λ e. tt)
      (λ e. ToPatch f p at bytes l q (subst (λ n. locks.lock_of s.locks n ≡ Some l) (sym (some_is i)) h) c e))
  with_lock (asks.Cut f p) q ino i l h c =
      subst (λ n. W (if pages.is_idle t.here.store n then cp.wanted_cut (bodies.Cut n l.g p) n p else None)) (some_is i)
      (cond_either W (pages.is_idle t.here.store f.ino) _ None (λ e. ToCut f p l q (subst (λ n. locks.lock_of s.locks n ≡ Some l) (sym (some_is i)) h) c e)
      (λ e. tt))
  with_lock (asks.Name server n) q ino i l h c = cond_either W (pages.is_idle t.here.store ino) _ None (λ e. ToRemove server n ino l q i h c e) (λ e. tt)
  with_lock (asks.Sync f) q ino i l h c = tt

  -- on a file
  on_file : is_sync ask ≡ false → (ino : ℕ) → file_of ask ≡ Some ino → W (cp.want_on t s now ask ino)
  unfolding cp.want_on cp.want_by cp.want_under
  on_file n ino f = go (locks.lock_of s.locks ino) refl
    where
      go : (x : Option HeldLock) → locks.lock_of s.locks ino ≡ x → W (cp.want_by t s now ask ino x)
      go None e = for_lock ino f n (ap (λ x. covers (locks.mode_at x) (cp.need ask)) e ∙ no_lock_serves ask)
      go (Some l) e =
          cond_either W (covers l.mode (cp.need ask)) _ _ (λ c. with_lock ask refl ino f l e c)
          (λ c. for_lock ino f n (ap (λ x. covers x (cp.need ask)) (mode_here s ino l e) ∙ c))

  on_none : file_of ask ≡ None → (a : Ask) → ask ≡ a → W (cp.want_name a)
  unfolding cp.want_name
  on_none f (asks.Name server n) q = ToName server n q (ap file_of (sym q) ∙ f)
  on_none f a q = tt

  wants_at : is_sync ask ≡ false → (x : Option ℕ) → file_of ask ≡ x → W (cp.want_at t s now ask x)
  unfolding cp.want_at
  wants_at n None e = on_none e ask refl
  wants_at n (Some ino) e = on_file n ino e

wants : (t : Turn) (s : ClientSession) (now : Stamp) (ask : Ask) → WantsAt t s now ask (cp.want t s now ask)
unfolding cp.want
wants t s now (asks.Sync f) = tt
wants t s now ask = wants_at t s now ask refl (file_of ask) refl

-- a sync asks nothing
pub asks_no_sync : (t : Turn) (s : ClientSession) (now : Stamp) (ask : Ask) (w : cp.Wanted) → Wants t s now ask w → is_sync ask ≡ false
asks_no_sync t s now ask _ (ForLock ino f n c e) = n
asks_no_sync t s now ask _ (ForPlace f p l q h c e) = ap is_sync q
asks_no_sync t s now ask _ (ToWrite f p bytes l q h c e) = ap is_sync q
asks_no_sync t s now ask _ (ToPatch f p at bytes l q h c e) = ap is_sync q
asks_no_sync t s now ask _ (ToCut f p l q h c e) = ap is_sync q
asks_no_sync t s now ask _ (ToRemove server n ino l q f h c e) = ap is_sync q
asks_no_sync t s now ask _ (ToName server n q f) = ap is_sync q

-- The first operation that asks, if one does
pub record Asking (t : Turn) (s : ClientSession) (now : Stamp) (os : List Operation) (a : cp.Asking) : Type 0 where
  pub xs : List Operation
  pub operation : Operation
  pub ys : List Operation
  pub first : AsksFirst t s now xs operation ys a.wanted os
  pub after : a.operations ≡ xs ++ cp.sent_if a.wanted.own operation ∷ ys

abbrev AskingAt : Turn → ClientSession → Stamp → List Operation → Option cp.Asking → Type 0
AskingAt t s now os None = Unit {0}
AskingAt t s now os (Some a) = Asking t s now os a

-- it asks if it may
record Asks (t : Turn) (s : ClientSession) (now : Stamp) (o : Operation) (w : cp.Wanted) : Type 0 where
  pub may : cp.may_ask t s o ≡ true
  pub wants : Wants t s now o.ask w

abbrev AsksAt : Turn → ClientSession → Stamp → Operation → Option cp.Wanted → Type 0
AsksAt t s now o None = Unit {0}
AsksAt t s now o (Some w) = Asks t s now o w

asks_by : (t : Turn) (s : ClientSession) (now : Stamp) (o : Operation) → AsksAt t s now o (cp.asked_by t s now o)
unfolding cp.asked_by
asks_by t s now o = cond_either (AsksAt t s now o) (cp.may_ask t s o) _ None (λ m. go m (cp.want t s now o.ask) (wants t s now o.ask)) (λ m. tt)
  where
    go : cp.may_ask t s o ≡ true → (x : Option cp.Wanted) → WantsAt t s now o.ask x → AsksAt t s now o x
    go m None w = tt
    go m (Some x) w = record { may = m; wants = w }

first : (t : Turn) (s : ClientSession) (now : Stamp) (os : List Operation) → AskingAt t s now os (cp.first_asking t s now os)
unfolding cp.first_asking cp.asks_or
first t s now [] = tt
first t s now (o ∷ os) = go (cp.asked_by t s now o) refl (asks_by t s now o) (cp.first_asking t s now os) (first t s now os)
  where
    go : (x : Option cp.Wanted) → cp.asked_by t s now o ≡ x → AsksAt t s now o x → (a : Option cp.Asking) → AskingAt t s now os a → AskingAt t s now (o ∷ os)
        (cp.asks_or o os a x)
    go None e k None r = tt
    go None e k (Some a) r =
        record {
          xs = o ∷ r.xs;
          operation = r.operation;
          ys = r.ys;
          first = record { there = ap (λ z. o ∷ z) r.first.there; before = λ x h. earlier x h; may = r.first.may; wants = r.first.wants };
          after = ap (λ z. o ∷ z) r.after;
        }
      where
        earlier : (x : Operation) → Has x (o ∷ r.xs) → cp.asked_by t s now x ≡ None
        earlier x (inl q) = subst (λ z. cp.asked_by t s now z ≡ None) (sym q) e
        earlier x (inr h) = r.first.before x h
    go (Some w) e k a r = record {
      xs = [];
      operation = o;
      ys = os;
      first = record { there = refl; before = λ x h. absurd h; may = k.may; wants = k.wants };
      after = refl;
    }

-- A request
module _ (now : Stamp) (tick : Bool) (t : Turn) where
  abbrev Q : Turn → Type 0
  Q u = Requests now tick t u

  keeps_alive : (s : ClientSession) → IsFree t s → Q (cp.keep_alive t s now)
  unfolding cp.keep_alive cp.ask
  keeps_alive s f = cond_either Q (lease.is_renewing (lease.phase_of t.config s.lease now)) _ t (λ e. KeepsAlive s f e) (λ e. AsksNothing)

  asks_next : (s : ClientSession) → IsFree t s → Q (cp.ask_next t s now)
  unfolding cp.ask_next cp.ask_for_or cp.ask_for cp.ask
  asks_next s f = cond_either Q (is_serving t.config s now) _ _ (λ e. go e (cp.first_asking t s now t.operations) (first t s now t.operations))
      (λ e. keeps_alive s f)
    where
      go : is_serving t.config s now ≡ true → (x : Option cp.Asking) → AskingAt t s now t.operations x → Q (cp.ask_for_or t s now x)
      go e None r = keeps_alive s f
      go e (Some a) r =
          subst (λ os. Q (asked (with_store (cp.cut_store a.wanted.cut t.here.store) (with_operations os t)) s now a.wanted.body (cp.file_cut a.wanted.cut)))
          (sym r.after)
          (AsksFor s r.xs r.operation r.ys a.wanted f e r.first)

  asks_new : (s : ClientSession) → MayAsk t s → Q (cp.ask_new t s now)
  unfolding cp.ask_new cp.reassert cp.ask_by cp.ask_release cp.ask
  asks_new s m = cond_either Q s.due _ _ (λ d. Reasserts s m d) (λ d. go d s.releases refl)
    where
      go : s.due ≡ false → (rs : List Release) → s.releases ≡ rs → Q (cp.ask_by t s now rs)
      go d [] e = asks_next s (record { may = m; settled = d; released = e })
      go d (r ∷ rs) e = Releases s r rs m d e

  pub requests : Q (cp.requests now tick t)
  unfolding cp.requests cp.requests_by cp.requests_under cp.requests_at cp.repeat cp.ask_again
  requests = go t.here.session refl
    where
      at : (s : ClientSession) → t.here.session ≡ Some s → s.lease.condemned ≡ false → (x : Option Request) → s.requests.asked ≡ x → Q
          (cp.requests_at t s now tick x)
      at s e c None n = asks_new s (record { session = e; sound = c; none = n })
      at s e c (Some q) n = cond_either Q (cp.is_old t.config now tick q) _ t (λ o. AsksAgain s q e c n o) (λ o. AsksNothing)

      go : (x : Option ClientSession) → t.here.session ≡ x → Q (cp.requests_by t now tick x)
      go None e = AsksNothing
      go (Some s) e = cond_either Q s.lease.condemned t _ (λ c. AsksNothing) (λ c. at s e c s.requests.asked refl)
