-- What a client asks of a server at the end of a step, in any form: nothing, the outstanding request once more, or a new one; and the message that says so.
use Rattle.st_lemmas.proofs.Words
use Words.{◌≡◌, ℕ, ◌+◌, ◌⊎◌, Bool, true, false, List, [], ◌∷◌, ◌++◌, Option, Some, None, refl, sym, ap, ◌∙◌, subst, inl, inr, if◌then◌else◌, is_some}
use Words.{Ask, Body, ClientId, Config, Message, Operation, Output, Release, Request, Stamp}
use Words.bodies
use Words.outputs
use Words.ClientLease as lease
use Words.ClientLocks as locks
use Words.ClientPasses as cp
use Words.ClientState as cs
use Words.ClientState.{Association, ClientSession, Requests, Turn, asking, is_serving, reasserts, send, with_operations, with_store}
use Words.Keys.{server_node}
use Words.Lists.{Has}
use Words.Lookups.{some_is}
use Words.Members.{has_right}
use Words.Tables.{has_append}
use Rattle.st_laws_lasting.specs.Resting.{IsBusy}
use Rattle.st_laws_steps.specs.Client.Session.{MayAsk}
use Rattle.st_laws_steps.proofs.Client.Asking.{WantsAt, wants_what_it_needs}
use Rattle.st_laws_healthy.proofs.Passing.{After, Again, Alike, Anew, ByRequest, Empties, IsSentBy, Queued, Requested, Sends, Stays, Still}
use Rattle.st_laws_healthy.proofs.Passing.{Reasserts, alike_self}
use Rattle.st_laws_healthy.proofs.Queues.{Longer, Same, longer_then}
use Rattle.st_laws_healthy.proofs.Replies.{is_served}

-- alike sessions have requests as they were
pub after_alike : (now : Stamp) (a b : Option ClientSession) → Alike a b → After now a b
after_alike now None b e = e
after_alike now (Some s) b f = record {
  session = f.session;
  is = f.is;
  epoch = f.epoch;
  lease = f.lease;
  due = f.due;
  requests = Still f.requests;
  queue = Stays (ap (λ (y : Requests). y.next) f.requests) f.releases;
}

queued_behind : (x s v : ClientSession) → s.requests ≡ x.requests → s.due ≡ x.due → Longer x.releases s.releases → Queued s v → Queued x v
queued_behind x s v r d l (Stays n m) = Stays (n ∙ ap (λ (y : Requests). y.next) r) (longer_then x.releases s.releases v.releases l m)
queued_behind x s v r d l (Sends y q m a b) = Sends y q (longer_then x.releases s.releases (y ∷ v.releases) l m) a b
queued_behind x s v r d l (Empties m e) = Empties (longer_then x.releases s.releases v.releases l m) e
queued_behind x s v r d l (Reasserts e) = Reasserts (sym d ∙ e)

requested_behind : (now : Stamp) (x s : ClientSession) (r : Requests) → s.requests ≡ x.requests → s.due ≡ x.due → Requested now s r → Requested now x r
requested_behind now x s r e d (Still q) = Still (q ∙ e)
requested_behind now x s r e d (Again q a b) =
    Again q (ap (λ (y : Requests). y.asked) (sym e) ∙ a) (b ∙ ap (λ (y : Requests). record y { asked = Some (record q { sent = now }) }) e)
requested_behind now x s r e d (Anew b a k q) =
    Anew b (ap (λ (y : Requests). y.asked) (sym e) ∙ a) (λ f. k (d ∙ f))
    (q ∙ ap (λ (y : Requests). record { next = y.next + 1; asked = Some (record { number = y.next; body = b; sent = now }) }) e)

-- what becomes of a session, after one that is alike
pub after_behind : (now : Stamp) (a b c : Option ClientSession) → Alike a b → After now b c → After now a c
after_behind now None b c e x = subst (λ o. After now o c) e x
after_behind now (Some s) b c f x =
    let y = subst (λ o. After now o c) f.is x in
    record {
      session = y.session;
      is = y.is;
      epoch = y.epoch ∙ f.epoch;
      lease = y.lease ∙ f.lease;
      due = y.due ∙ f.due;
      requests = requested_behind now s f.session y.session.requests f.requests f.due y.requests;
      queue = queued_behind s f.session y.session f.requests f.due f.releases y.queue;
    }

-- a message of this client at an association, said now: in its session's epoch, or without a number
pub record IsSpoken (id : ClientId) (now : Stamp) (a : Association) (m : Message) : Type 0 where
  pub by : IsSentBy a m
  pub from : m.header.from ≡ id.0
  pub stamp : m.header.stamp ≡ now.0
  pub epoch : (z : ClientSession) → a.session ≡ Some z → m.header.epoch ≡ z.epoch.0
  pub plain : a.session ≡ None → m.header.number ≡ 0

-- Why a request is outstanding: it was so before, or the message that asks it was said.
pub data Asked (Says : Message → Type 0) (id : ClientId) (before : Option ClientSession) (a : Association) (z : ClientSession) (q : Request) : Type 0 where
  Earlier : (s : ClientSession) → before ≡ Some s → s.requests ≡ z.requests → s.epoch ≡ z.epoch → Asked Says id before a z q
  IsNow : (m : Message) → Says m → m.header.from ≡ id.0 → m.header.to ≡ server_node a.server → m.header.life ≡ a.life.0 → m.header.epoch ≡ z.epoch.0 →
      m.header.number ≡ q.number → Asked Says id before a z q

-- A session that rests isn't due for renewal, or its lease is condemned: else a request is outstanding.
abbrev pub Rests : Config → Stamp → Option ClientSession → Type 0
Rests k now None = Unit {0}
Rests k now (Some z) = IsBusy z ⊎ (lease.is_renewing (lease.phase_of k z.lease now) ≡ false)

-- the messages of a turn
abbrev pub Says : Turn → Message → Type 0
Says t m = Has (outputs.Send m) t.out

sent_is : (os : List Output) (x m : Message) (P : Type 0) → (m ≡ x → P) → Has (outputs.Send m) (os ++ outputs.Send x ∷ []) → Has (outputs.Send m) os ⊎ P
sent_is os x m P f h = go (has_append os (outputs.Send x ∷ []) (outputs.Send m) h)
  where
    same : outputs.Send m ≡ outputs.Send x → m ≡ x
    same e = cc

    go : Has (outputs.Send m) os ⊎ Has (outputs.Send m) (outputs.Send x ∷ []) → Has (outputs.Send m) os ⊎ P
    go (inl i) = inl i
    go (inr (inl e)) = inr (f (same e))
    go (inr (inr i)) = absurd i

last_sent : (os : List Output) (x : Message) → Has (outputs.Send x) (os ++ outputs.Send x ∷ [])
last_sent os x = has_right os (outputs.Send x ∷ []) (outputs.Send x) (inl refl)

none_some : {A B : Type 0} (x : A) → ◌≡◌ {A = Option A} None (Some x) → B
none_some x q = cc

module _ (now : Stamp) where
  -- What asking does.
  pub record Requesting (t u : Turn) : Type 0 where
    pub id : u.id ≡ t.id
    pub config : u.config ≡ t.config
    pub server : u.here.server ≡ t.here.server
    pub life : u.here.life ≡ t.here.life
    pub greeting : u.here.greeting ≡ t.here.greeting
    pub session : After now t.here.session u.here.session
    pub sends : (m : Message) → Says u m → Says t m ⊎ IsSpoken u.id now u.here m
    pub asked : (z : ClientSession) (q : Request) → u.here.session ≡ Some z → z.requests.asked ≡ Some q → Asked (Says u) u.id t.here.session u.here z q
    pub rests : Rests t.config now u.here.session

  pub asks_nothing : (t : Turn) → Rests t.config now t.here.session → Requesting t t
  asks_nothing t r =
      record {
        id = refl;
        config = refl;
        server = refl;
        life = refl;
        greeting = refl;
        session = after_alike now t.here.session t.here.session (alike_self t.here.session);
        sends = λ m h. inl h;
        asked = λ z q e a. Earlier z e refl refl;
        rests = r;
      }

  asks_either : (b : Bool) (t u v : Turn) → (b ≡ true → Requesting t u) → (b ≡ false → Requesting t v) → Requesting t (if b then u else v)
  asks_either true t u v x y = x refl
  asks_either false t u v x y = y refl

  module _ (t : Turn) (s : ClientSession) (there : t.here.session ≡ Some s) where
    asks_again : (q : Request) → s.requests.asked ≡ Some q → Requesting t (cp.ask_again t s now q)
    unfolding cp.ask_again send
    asks_again q e =
        record {
          id = refl;
          config = refl;
          server = refl;
          life = refl;
          greeting = refl;
          session = subst (λ o. After now o (Some z)) (sym there)
              (record { session = z; is = refl; epoch = refl; lease = refl; due = refl; requests = Again q e refl; queue = Stays refl Same });
          sends = λ m h. sent_is t.out x m (IsSpoken t.id now u.here m) (λ f. subst (IsSpoken t.id now u.here) (sym f) spoken) h;
          asked = λ y r f a. IsNow x (last_sent t.out x) refl refl refl (ap (λ (v : ClientSession). v.epoch.0) (some_is f))
              (ap (λ (v : Request). v.number) (some_is (ap (λ (v : ClientSession). v.requests.asked) (some_is f) ∙ a)));
          rests = inl (inr refl);
        }
      where
        z : ClientSession
        z = cp.again_session s now q

        u : Turn
        u = cp.ask_again t s now q

        x : Message
        x = record { header = cs.header_of t s.epoch.0 q.number now.0; body = q.body }

        spoken : IsSpoken t.id now u.here x
        spoken =
            record {
              by = record { to = refl; life = refl; cause = ByRequest z (record q { sent = now }) refl refl refl refl };
              from = refl;
              stamp = refl;
              epoch = λ y f. ap (λ (v : ClientSession). v.epoch.0) (some_is f);
              plain = λ f. none_some z (sym f);
            }

    -- a new request, by a session that is as this one except for what waits to be sent
    asks_new : (v : Turn) (r : ClientSession) (b : Body) (cut : Option ℕ) → v.id ≡ t.id → v.config ≡ t.config → v.here.server ≡ t.here.server →
        v.here.life ≡ t.here.life →
        v.here.greeting ≡ t.here.greeting → v.out ≡ t.out → r.epoch ≡ s.epoch → r.lease ≡ s.lease → r.due ≡ s.due → r.requests ≡ s.requests →
        s.requests.asked ≡ None → (s.due ≡ false → is_served b ≡ true) → Queued s (cp.asking_session r now b cut) → Requesting t (cp.ask v r now b cut)
    unfolding cp.ask send asking
    asks_new v r b cut i k0 server life greeting out e l d k n served queue =
        record {
          id = i;
          config = k0;
          server = server;
          life = life;
          greeting = greeting;
          session = subst (λ o. After now o (Some z)) (sym there)
              (record {
                session = z;
                is = refl;
                epoch = e;
                lease = l;
                due = d;
                requests = Anew b n served
                    (ap (λ (y : Requests). record { next = y.next + 1; asked = Some (record { number = y.next; body = b; sent = now }) }) k);
                queue = queue;
              });
          sends = λ m h. earlier m (sent_is v.out x m (IsSpoken v.id now u.here m) (λ f. subst (IsSpoken v.id now u.here) (sym f) spoken) h);
          asked = λ y p f a. IsNow x (last_sent v.out x) refl refl refl (ap (λ (w : ClientSession). w.epoch.0) (some_is f))
              (ap (λ (w : Request). w.number) (some_is (ap (λ (w : ClientSession). w.requests.asked) (some_is f) ∙ a)));
          rests = inl (inr refl);
        }
      where
        z : ClientSession
        z = cp.asking_session r now b cut

        u : Turn
        u = cp.ask v r now b cut

        x : Message
        x = record { header = cs.header_of v r.epoch.0 r.requests.next now.0; body = b }

        spoken : IsSpoken v.id now u.here x
        spoken =
            record {
              by = record { to = refl; life = refl; cause = ByRequest z (record { number = r.requests.next; body = b; sent = now }) refl refl refl refl };
              from = refl;
              stamp = refl;
              epoch = λ y f. ap (λ (w : ClientSession). w.epoch.0) (some_is f);
              plain = λ f. none_some z (sym f);
            }

        earlier : (m : Message) → Has (outputs.Send m) v.out ⊎ IsSpoken v.id now u.here m → Says t m ⊎ IsSpoken v.id now u.here m
        earlier m (inl h) = inl (subst (Has (outputs.Send m)) out h)
        earlier m (inr p) = inr p

    pub keeps_alive : s.requests.asked ≡ None → s.releases ≡ [] → Requesting t (cp.keep_alive t s now)
    unfolding cp.keep_alive
    keeps_alive n e =
        asks_either (lease.is_renewing (lease.phase_of t.config s.lease now)) t _ _
        (λ f. asks_new t s bodies.KeepAlive None refl refl refl refl refl refl refl refl refl refl n (λ f. refl) (Empties Same e))
        (λ f. asks_nothing t (subst (Rests t.config now) (sym there) (inr f)))

    -- a keep-alive while a release may wait
    pub asks_for : (a : cp.Asking) → s.requests.asked ≡ None → s.releases ≡ [] → is_served a.wanted.body ≡ true → Requesting t (cp.ask_for t s now a)
    unfolding cp.ask_for
    asks_for a n e k =
        asks_new (with_store (cp.cut_store a.wanted.cut t.here.store) (with_operations a.operations t)) s a.wanted.body (cp.file_cut a.wanted.cut)
        refl refl refl refl refl refl refl refl refl refl n (λ f. k) (Empties Same e)

  -- what is asked is one of the requests that a session serves
  abbrev pub AllServed : Option cp.Asking → Type 0
  AllServed None = Unit {0}
  AllServed (Some a) = is_served a.wanted.body ≡ true

  pub asks_for_or : (t : Turn) (s : ClientSession) → t.here.session ≡ Some s → (a : Option cp.Asking) → s.requests.asked ≡ None → s.releases ≡ [] →
      AllServed a → Requesting t (cp.ask_for_or t s now a)
  unfolding cp.ask_for_or
  asks_for_or t s there None n e k = keeps_alive t s there n e
  asks_for_or t s there (Some a) n e k = asks_for t s there a n e k

  may_served : (s : ClientSession) (c : Option ℕ) (b : Body) → MayAsk s c b → reasserts b ≡ false → is_served b ≡ true
  may_served s c bodies.KeepAlive m n = refl
  may_served s c (bodies.Reassert rows) m n = cc n
  may_served s c (bodies.Released ino g to) m n = refl
  may_served s c (bodies.Acquire ino mode) m n = refl
  may_served s c (bodies.Map ino g p) m n = refl
  may_served s c (bodies.Allocate ino g p count) m n = refl
  may_served s c (bodies.Cut ino g from) m n = refl
  may_served s c (bodies.Name op) m n = refl
  may_served s c b m n = absurd m

  abbrev pub WantedServed : Option cp.Wanted → Type 0
  WantedServed None = Unit {0}
  WantedServed (Some w) = is_served w.body ≡ true

  pub want_served : (t : Turn) (s : ClientSession) (ask : Ask) → WantedServed (cp.want t s now ask)
  want_served t s ask = go (cp.want t s now ask) (wants_what_it_needs t s now ask)
    where
      go : (w : Option cp.Wanted) → WantsAt s t.here.store w → WantedServed w
      go None k = tt
      go (Some w) k = may_served s (cp.file_cut w.cut) w.body k.may k.new

  pub first_or : (o : Operation) (os : List Operation) (w : Option cp.Wanted) → WantedServed w → (a : Option cp.Asking) → AllServed a →
      AllServed (cp.asks_or o os a w)
  unfolding cp.asks_or
  first_or o os None k None f = tt
  first_or o os None k (Some a) f = f
  first_or o os (Some w) k a f = k

  first_served : (t : Turn) (s : ClientSession) (os : List Operation) → AllServed (cp.first_asking t s now os)
  unfolding cp.first_asking cp.asked_by
  first_served t s [] = tt
  first_served t s (o ∷ os) = first_or o os (cp.asked_by t s now o) (by (cp.may_ask t s o)) (cp.first_asking t s now os) (first_served t s os)
    where
      by : (b : Bool) → WantedServed (if b then cp.want t s now o.ask else None)
      by true = want_served t s o.ask
      by false = tt

  -- requests of the first two forms
  module _ (t : Turn) (s : ClientSession) (there : t.here.session ≡ Some s) where
    asks_next : s.requests.asked ≡ None → s.releases ≡ [] → Requesting t (cp.ask_next t s now)
    unfolding cp.ask_next
    asks_next n e =
        asks_either (is_serving t.config s now) t _ _
        (λ f. asks_for_or t s there (cp.first_asking t s now t.operations) n e (first_served t s t.operations)) (λ f. keeps_alive t s there n e)

    asks_more : s.requests.asked ≡ None → Requesting t (cp.ask_new t s now)
    unfolding cp.ask_new cp.reassert cp.ask_by cp.ask_release asking
    asks_more n = due s.due refl
      where
        no : {P : Type 0} → ◌≡◌ {A = Bool} true false → P
        no f = cc

        by : (rs : List Release) → s.releases ≡ rs → Requesting t (cp.ask_by t s now rs)
        by [] e = asks_next n e
        by (r ∷ rs) e =
            asks_new t s there t (record s { releases = rs }) (bodies.Released r.ino r.g r.to) None refl refl refl refl refl refl refl refl refl refl n
            (λ f. refl) (Sends r (record { number = s.requests.next; body = bodies.Released r.ino r.g r.to; sent = now })
            (subst (Longer s.releases) e Same) refl refl)

        due : (b : Bool) → s.due ≡ b → Requesting t (if b then cp.reassert t s now else cp.ask_by t s now s.releases)
        due true d =
            asks_new t s there t s (bodies.Reassert (locks.all_locks s.locks)) None refl refl refl refl refl refl refl refl refl refl n (λ f. no (sym d ∙ f))
            (Reasserts d)
        due false d = by s.releases refl

    asks_under : (tick : Bool) → Requesting t (cp.requests_under t s now tick)
    unfolding cp.requests_under cp.requests_at cp.repeat
    asks_under tick =
        asks_either s.lease.condemned t _ _ (λ f. asks_nothing t (subst (Rests t.config now) (sym there) (inl (inl f)))) (λ f. at s.requests.asked refl)
      where
        at : (o : Option Request) → s.requests.asked ≡ o → Requesting t (cp.requests_at t s now tick o)
        at None n = asks_more n
        at (Some q) a = asks_either (cp.is_old t.config now tick q) t _ _ (λ f. asks_again t s there q a)
            (λ f. asks_nothing t (subst (Rests t.config now) (sym there) (inl (inr (ap is_some a)))))

  pub requests_ask : (tick : Bool) (t : Turn) → Requesting t (cp.requests now tick t)
  unfolding cp.requests cp.requests_by
  requests_ask tick t = go t.here.session refl
    where
      go : (o : Option ClientSession) → t.here.session ≡ o → Requesting t (cp.requests_by t now tick o)
      go None e = asks_nothing t (subst (Rests t.config now) (sym e) tt)
      go (Some s) e = asks_under t s e tick
