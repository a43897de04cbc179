-- What a client's passes at a server do to its session there, and what they send: a greeting, if there is no session; the outstanding request once more;
-- or a new one, if none is outstanding.
use Rattle.st_lemmas.proofs.Words
use Words.{◌≡◌, ℕ, ◌+◌, ◌⊎◌, Bool, true, false, List, [], ◌∷◌, ◌++◌, Option, Some, None, refl, sym, ap, ◌∙◌, subst, inl, inr, is_some, PageNo, Stamp, Ask, Body}
use Words.{Message, Output, Operation, Release, Request}
use Words.bodies
use Words.outputs
use Words.ClientPasses as cp
use Words.ClientState.{Association, ClientSession, Requests, Turn, asking, send, with_operations, with_store}
use Words.Keys.{server_node}
use Words.Lists.{Has}
use Words.Tables.{has_append}
use Rattle.st_trace.specs.Client.Operations as operating
use Rattle.st_trace.specs.Client.Operations.{Operated}
use Rattle.st_trace.specs.Client.Passes as passing
use Rattle.st_trace.specs.Client.Passes.{Passed, Reduced, WritesOut, places_of}
use Rattle.st_trace.specs.Client.Requests as asks
use Rattle.st_trace.specs.Client.Requests.{Greets, Wants}
use Rattle.st_trace.proofs.Client.Walk.{each_lasts, passes}
use Rattle.st_laws_healthy.proofs.Queues.{Longer, More, Same, longer_then}
use Rattle.st_laws_healthy.proofs.Receiving.{Follows, follows_self}
use Rattle.st_laws_healthy.proofs.Replies.{is_served}

-- Two sessions, or none, that have the same epoch, requests and lease, and are due alike.
abbrev pub Alike : Option ClientSession → Option ClientSession → Type 0
Alike None o = o ≡ None
Alike (Some s) o = Follows s o

pub alike_self : (o : Option ClientSession) → Alike o o
alike_self None = refl
alike_self (Some s) = follows_self s

pub follows_then : (s : ClientSession) (o p : Option ClientSession) (f : Follows s o) → Alike o p → Follows s p
follows_then s o p f a =
    let z = subst (λ q. Alike q p) f.is a in
    record {
      session = z.session;
      is = z.is;
      epoch = z.epoch ∙ f.epoch;
      requests = z.requests ∙ f.requests;
      lease = z.lease ∙ f.lease;
      due = z.due ∙ f.due;
      releases = longer_then s.releases f.session.releases z.session.releases f.releases z.releases;
    }

pub alike_then : (a b c : Option ClientSession) → Alike a b → Alike b c → Alike a c
alike_then None b c e f = subst (λ o. Alike o c) e f
alike_then (Some s) b c f a = follows_then s b c f a

-- What leaves the session alike, and sends nothing.
pub record IsIdle (t u : Turn) : Type 0 where
  pub id : u.id ≡ t.id
  pub server : u.here.server ≡ t.here.server
  pub life : u.here.life ≡ t.here.life
  pub greeting : u.here.greeting ≡ t.here.greeting
  pub session : Alike t.here.session u.here.session
  pub quiet : (m : Message) → Has (outputs.Send m) u.out → Has (outputs.Send m) t.out

pub idle_self : (t : Turn) → IsIdle t t
idle_self t = record { id = refl; server = refl; life = refl; greeting = refl; session = alike_self t.here.session; quiet = λ m h. h }

pub idle_then : (t u v : Turn) → IsIdle t u → IsIdle u v → IsIdle t v
idle_then t u v a b =
    record {
      id = b.id ∙ a.id;
      server = b.server ∙ a.server;
      life = b.life ∙ a.life;
      greeting = b.greeting ∙ a.greeting;
      session = alike_then t.here.session u.here.session v.here.session a.session b.session;
      quiet = λ m h. a.quiet m (b.quiet m h);
    }

-- an output that isn't a message
pub unsent : (os : List Output) (o : Output) → ((m : Message) → o ≡ outputs.Send m → ⊥) → (m : Message) → Has (outputs.Send m) (os ++ o ∷ []) →
    Has (outputs.Send m) os
unsent os o n m h = go (has_append os (o ∷ []) (outputs.Send m) h)
  where
    go : Has (outputs.Send m) os ⊎ Has (outputs.Send m) (o ∷ []) → Has (outputs.Send m) os
    go (inl i) = i
    go (inr (inl e)) = absurd (n m (sym e))
    go (inr (inr i)) = absurd i

-- with one more such output, and the association as it was
pub idle_says : (t : Turn) (o : Output) → ((m : Message) → o ≡ outputs.Send m → ⊥) → (u : Turn) → u.id ≡ t.id → u.here.server ≡ t.here.server →
    u.here.life ≡ t.here.life →
    u.here.greeting ≡ t.here.greeting → u.here.session ≡ t.here.session → u.out ≡ t.out ++ o ∷ [] → IsIdle t u
idle_says t o n u i s l g e q =
    record {
      id = i;
      server = s;
      life = l;
      greeting = g;
      session = subst (λ x. Alike t.here.session x) (sym e) (alike_self t.here.session);
      quiet = λ m h. unsent t.out o n m (subst (Has (outputs.Send m)) q h);
    }

operated_idle : (now : Stamp) (all : List Operation) (o : Operation) (t u : Turn) → Operated now all o t u → IsIdle t u
operated_idle now all o t _ operating.Waits = record {
  id = refl;
  server = refl;
  life = refl;
  greeting = refl;
  session = alike_self t.here.session;
  quiet = λ
      m h. h;
}
operated_idle now all o t u (operating.IsHard f a b c) = idle_says t (outputs.Answer o.op Rattle.st_messages.specs.declared.answer.AppAnswer.TheVariants.Hard)
    (λ m e. cc) _ refl refl refl refl refl refl
operated_idle now all o t u (operating.IsQuiesced s a b c d e) = idle_says t (outputs.Answer o.op
    Rattle.st_messages.specs.declared.answer.AppAnswer.TheVariants.Quiesced) (λ m e. cc) _ refl refl refl refl refl refl
operated_idle now all o t u (operating.ChangesPage s f p bytes n a b c d) =
    record {
      id = refl;
      server = refl;
      life = refl;
      greeting = refl;
      session = alike_self t.here.session;
      quiet = λ m h. unsent t.out (outputs.Note n) (λ m e. cc) m (unsent (t.out ++ outputs.Note n ∷ [])
          (outputs.Answer o.op Rattle.st_messages.specs.declared.answer.AppAnswer.TheVariants.Written) (λ m e. cc) m h);
    }
operated_idle now all o t u (operating.IsDirtyFull s f p bytes n a b c d) =
    idle_says t (outputs.Answer o.op Rattle.st_messages.specs.declared.answer.AppAnswer.TheVariants.DirtyFull) (λ m e. cc) _ refl refl refl refl refl refl
operated_idle now all o t u (operating.Fetches s f p m a b c d e) =
    idle_says t (outputs.Submit t.next_command m.at (Rattle.st_base.specs.declared.disk.Command.TheVariants.Read m.at)) (λ m e. cc) _ refl refl refl refl refl
    refl
operated_idle now all o t u (operating.ReadsCached s f p bytes a b c d) =
    idle_says t (outputs.Answer o.op (Rattle.st_messages.specs.declared.answer.AppAnswer.TheVariants.Read bytes)) (λ m e. cc) _ refl refl refl refl refl refl
operated_idle now all o t u (operating.ReadsZeros s f p x a b c d e g) =
    idle_says t (outputs.Answer o.op (Rattle.st_messages.specs.declared.answer.AppAnswer.TheVariants.Read (Rattle.st_base.specs.Page.filled 0))) (λ m e. cc) _
    refl refl refl refl refl refl

reduced_idle : (ino : ℕ) (t u : Turn) → Reduced ino t u → IsIdle t u
reduced_idle ino t _ passing.StaysHeld = idle_self t
reduced_idle ino t u (passing.IsReduced s g to e m q) =
    record {
      id = refl;
      server = refl;
      life = refl;
      greeting = refl;
      session = subst (λ o. Alike o u.here.session) (sym e) (record {
        session = _;
        is = refl;
        epoch = refl;
        requests = refl;
        lease = refl;
        due = refl;
        releases = More s.releases (record { ino = ino; g = g; to = to }) Same;
      });
      quiet = λ m h. h;
    }

written_idle : (now : Stamp) (tick : Bool) (place : ℕ × PageNo) (t u : Turn) → WritesOut now tick place t u → IsIdle t u
written_idle now tick place t _ passing.StaysDirty = idle_self t
written_idle now tick place t u (passing.IsWritten s d m e q w i) = idle_says t _ (λ m e. cc) _ refl refl refl refl refl refl

-- What becomes of a session's requests.
pub data Requested (now : Stamp) (s : ClientSession) (r : Requests) : Type 0 where
  Still : r ≡ s.requests → Requested now s r
  Again : (q : Request) → s.requests.asked ≡ Some q → r ≡ record s.requests { asked = Some (record q { sent = now }) } → Requested now s r
  Anew : (b : Body) → s.requests.asked ≡ None → (s.due ≡ false → is_served b ≡ true) →
      r ≡ record { next = s.requests.next + 1; asked = Some (record { number = s.requests.next; body = b; sent = now }) } → Requested now s r

-- What becomes of the releases that wait: no request is asked, or the first release is, or none waits.
pub data Queued (s v : ClientSession) : Type 0 where
  Stays : v.requests.next ≡ s.requests.next → Longer s.releases v.releases → Queued s v
  Sends : (r : Release) (q : Request) → Longer s.releases (r ∷ v.releases) → v.requests.asked ≡ Some q → q.body ≡ bodies.Released r.ino r.g r.to → Queued s v
  Empties : Longer s.releases v.releases → v.releases ≡ [] → Queued s v
  Reasserts : s.due ≡ true → Queued s v

-- What becomes of a session.
pub record IsPassed (now : Stamp) (s : ClientSession) (o : Option ClientSession) : Type 0 where
  pub session : ClientSession
  pub is : o ≡ Some session
  pub epoch : session.epoch ≡ s.epoch
  pub lease : session.lease ≡ s.lease
  pub due : session.due ≡ s.due
  pub requests : Requested now s session.requests
  pub queue : Queued s session

-- with a session, or without
abbrev pub After : Stamp → Option ClientSession → Option ClientSession → Type 0
After now None o = o ≡ None
After now (Some s) o = IsPassed now s o

-- Why a message was sent: a greeting without a session, or the request that is outstanding.
pub data SentBy (a : Association) (m : Message) : Type 0 where
  ByGreeting : m.body ≡ bodies.Hello → a.session ≡ None → is_some a.greeting ≡ true → SentBy a m
  ByRequest : (z : ClientSession) (q : Request) → a.session ≡ Some z → z.requests.asked ≡ Some q → m.header.number ≡ q.number → m.body ≡ q.body → SentBy a m

-- a message of the association's life to its server, with its cause
pub record IsSentBy (a : Association) (m : Message) : Type 0 where
  pub to : m.header.to ≡ server_node a.server
  pub life : m.header.life ≡ a.life.0
  pub cause : SentBy a m

-- What the passes do.
pub record Works (now : Stamp) (t u : Turn) : Type 0 where
  pub server : u.here.server ≡ t.here.server
  pub life : u.here.life ≡ t.here.life
  pub session : After now t.here.session u.here.session
  pub greeting : is_some t.here.greeting ≡ true → is_some u.here.greeting ≡ true
  pub sends : (m : Message) → Has (outputs.Send m) u.out → Has (outputs.Send m) t.out ⊎ IsSentBy u.here m

-- alike sessions have requests as they were
after_alike : (now : Stamp) (a b : Option ClientSession) → Alike a b → After now a b
after_alike now None b e = e
after_alike now (Some s) b f = record {
  session = f.session;
  is = f.is;
  epoch = f.epoch;
  lease = f.lease;
  due = f.due;
  requests = Still f.requests;
  queue = Stays (ap (λ (y : Requests). y.next) f.requests) f.releases;
}

sent_is : (os : List Output) (x m : Message) (P : Type 0) → (m ≡ x → P) → Has (outputs.Send m) (os ++ outputs.Send x ∷ []) → Has (outputs.Send m) os ⊎ P
sent_is os x m P f h = go (has_append os (outputs.Send x ∷ []) (outputs.Send m) h)
  where
    same : outputs.Send m ≡ outputs.Send x → m ≡ x
    same e = cc

    go : Has (outputs.Send m) os ⊎ Has (outputs.Send m) (outputs.Send x ∷ []) → Has (outputs.Send m) os ⊎ P
    go (inl i) = inl i
    go (inr (inl e)) = inr (f (same e))
    go (inr (inr i)) = absurd i

wants_served : (t : Turn) (s : ClientSession) (now : Stamp) (ask : Ask) (w : cp.Wanted) → Wants t s now ask w → is_served w.body ≡ true
wants_served t s now ask _ (asks.ForLock ino a b c d) = refl
wants_served t s now ask _ (asks.ForPlace f p l a b c d) = refl
wants_served t s now ask _ (asks.ToWrite f p bytes l a b c d) = refl
wants_served t s now ask _ (asks.ToPatch f p at bytes l a b c d) = refl
wants_served t s now ask _ (asks.ToCut f p l a b c d) = refl
wants_served t s now ask _ (asks.ToRemove sv n ino l a b c d e) = refl
wants_served t s now ask _ (asks.ToName sv n a b) = refl

module _ (now : Stamp) (t g : Turn) (idle : IsIdle t g) where
  quiet : (u : Turn) → u ≡ g → Works now t u
  quiet u e = subst (Works now t) (sym e)
      (record {
        server = idle.server;
        life = idle.life;
        session = after_alike now t.here.session g.here.session idle.session;
        greeting = λ e. ap is_some
            idle.greeting ∙ e;
        sends = λ m h. inl (idle.quiet m h);
      })

  -- the session of the turn, if there was one
  module _ (s : ClientSession) (there : g.here.session ≡ Some s) where
    -- a session whose requests are these, after one that is alike
    behind : (z : ClientSession) → z.epoch ≡ s.epoch → z.lease ≡ s.lease → z.due ≡ s.due →
        ((x : ClientSession) → s.requests ≡ x.requests → s.due ≡ x.due → Requested now x z.requests) →
        ((x : ClientSession) → s.requests ≡ x.requests → s.due ≡ x.due → Longer x.releases s.releases → Queued x z) →
        (o : Option ClientSession) → Alike o (Some s) → After now o (Some z)
    behind z e l d f w None a = no a
      where
        no : ◌≡◌ {A = Option ClientSession} (Some s) None → ◌≡◌ {A = Option ClientSession} (Some z) None
        no q = cc
    behind z e l d f w (Some x) a =
        let same : a.session ≡ s = Rattle.st_lemmas.proofs.Lookups.some_is (sym a.is) in
        record {
          session = z;
          is = refl;
          epoch = e ∙ ap (λ (y : ClientSession). y.epoch) (sym same) ∙ a.epoch;
          lease = l ∙ ap (λ (y : ClientSession). y.lease) (sym same) ∙ a.lease;
          due = d ∙ ap (λ (y : ClientSession). y.due) (sym same) ∙ a.due;
          requests = f x (ap (λ (y : ClientSession). y.requests) (sym same) ∙ a.requests) (ap (λ (y : ClientSession). y.due) (sym same) ∙ a.due);
          queue = w x (ap (λ (y : ClientSession). y.requests) (sym same) ∙ a.requests) (ap (λ (y : ClientSession). y.due) (sym same) ∙ a.due)
              (subst (λ (y : ClientSession). Longer x.releases y.releases) same a.releases);
        }

    alike : Alike t.here.session (Some s)
    alike = subst (Alike t.here.session) there idle.session

    again : (q : Request) → s.requests.asked ≡ Some q → Works now t (cp.ask_again g s now q)
    unfolding cp.ask_again send
    again q e =
        record {
          server = idle.server;
          life = idle.life;
          session = behind (cp.again_session s now q) refl refl refl
              (λ x r d. Again q (ap (λ (y : Requests). y.asked) (sym r) ∙ e) (ap (λ (y : Requests). record y { asked = Some (record q { sent = now }) }) r))
              (λ x r d w. Stays (ap (λ (y : Requests). y.next) r) w) t.here.session alike;
          greeting = λ e. ap is_some idle.greeting ∙ e;
          sends = λ m h. earlier m (sent_is g.out _ m (IsSentBy (cp.ask_again g s now q).here m)
              (λ f. subst (IsSentBy (cp.ask_again g s now q).here) (sym f) (record {
                to = refl;
                life = refl;
                cause = ByRequest (cp.again_session s now q)
                    (record q { sent = now }) refl refl refl refl;
              })) h);
        }
      where
        earlier : (m : Message) → Has (outputs.Send m) g.out ⊎ IsSentBy (cp.ask_again g s now q).here m →
            Has (outputs.Send m) t.out ⊎ IsSentBy (cp.ask_again g s now q).here m
        earlier m (inl h) = inl (idle.quiet m h)
        earlier m (inr p) = inr p

    anew : (v : Turn) (z : ClientSession) (b : Body) (cut : Option ℕ) → v.here.server ≡ g.here.server → v.here.life ≡ g.here.life →
        v.here.greeting ≡ g.here.greeting → v.out ≡ g.out → z.epoch ≡ s.epoch → z.lease ≡ s.lease →
        z.due ≡ s.due → z.requests ≡ s.requests → s.requests.asked ≡ None → (s.due ≡ false → is_served b ≡ true) →
        ((x : ClientSession) → s.due ≡ x.due → Longer x.releases s.releases → Queued x (cp.asking_session z now b cut)) → Works now t (cp.ask v z now b cut)
    unfolding cp.ask send asking
    anew v z b cut server life greeting out e l d r n served queue =
        record {
          server = server ∙ idle.server;
          life = life ∙ idle.life;
          session = behind (cp.asking_session z now b cut) e l d
              (λ x y w. Anew b (ap (λ (y : Requests). y.asked) (sym y) ∙ n) (λ f. served (w ∙ f))
              (ap (λ (y : Requests). record { next = y.next + 1; asked = Some (record { number = y.next; body = b; sent = now }) }) (r ∙ y)))
              (λ x y w l. queue x w l) t.here.session alike;
          greeting = λ f. ap is_some (greeting ∙ idle.greeting) ∙ f;
          sends = λ m h. earlier m (sent_is v.out _ m (IsSentBy (cp.ask v z now b cut).here m)
              (λ f. subst (IsSentBy (cp.ask v z now b cut).here) (sym f) (record {
                to = refl;
                life = refl;
                cause = ByRequest (cp.asking_session z now b cut)
                    (record { number = z.requests.next; body = b; sent = now }) refl refl refl refl;
              })) h);
        }
      where
        earlier : (m : Message) → Has (outputs.Send m) v.out ⊎ IsSentBy (cp.ask v z now b cut).here m →
            Has (outputs.Send m) t.out ⊎ IsSentBy (cp.ask v z now b cut).here m
        earlier m (inl h) = inl (idle.quiet m (subst (Has (outputs.Send m)) out h))
        earlier m (inr p) = inr p

  requested : (tick : Bool) (u : Turn) → asks.Requests now tick g u → Works now t u
  unfolding cp.ask_again cp.ask send asking
  requested tick _ asks.AsksNothing = quiet g refl
  requested tick _ (asks.AsksAgain s q e c a o) = again s e q a
  requested tick _ (asks.Reasserts s may d) = anew s may.session g s _ None refl refl refl refl refl refl refl refl may.none (λ f. no (sym d ∙ f))
      (λ x f l. Reasserts (sym f ∙ d))
    where
      no : {P : Type 0} → ◌≡◌ {A = Bool} true false → P
      no f = cc
  requested tick _ (asks.Releases s r rs may d e) = anew s may.session g (record s { releases = rs }) _ None refl refl refl refl refl refl refl refl may.none
      (λ f. refl) (λ x f l. Sends r (record { number = s.requests.next; body = bodies.Released r.ino r.g r.to; sent = now }) (subst (Longer x.releases) e l) refl refl)
  requested tick _ (asks.AsksFor s xs o ys w free serving first) =
      anew s free.may.session (with_store (cp.cut_store w.cut g.here.store) (with_operations (xs ++ cp.sent_if w.own o ∷ ys) g)) s w.body (cp.file_cut w.cut)
      refl refl refl refl refl refl refl refl free.may.none (λ f. wants_served g s now o.ask w first.wants)
      (λ x f l. Empties l free.released)
  requested tick _ (asks.KeepsAlive s free e) = anew s free.may.session g s bodies.KeepAlive None refl refl refl refl refl refl refl refl free.may.none
      (λ f. refl) (λ x f l. Empties l free.released)

-- After a greeting nothing is asked, for there is no session.
greeted : (now : Stamp) (tick : Bool) (t w u : Turn) → IsIdle t w → w.here.session ≡ None →
    asks.Requests now tick (send (cp.with_greeting now w) 0 0 now.0 bodies.Hello) u → Works now t u
unfolding send
greeted now tick t w u idle none r = go u r
  where
    g : Turn
    g = send (cp.with_greeting now w) 0 0 now.0 bodies.Hello

    gone : Alike t.here.session None
    gone = subst (Alike t.here.session) none idle.session

    without : (o : Option ClientSession) → Alike o None → After now o None
    without None a = refl
    without (Some s) a = no a.is
      where
        no : ◌≡◌ {A = Option ClientSession} None (Some a.session) → IsPassed now s None
        no e = cc

    said : Works now t g
    said =
        record {
          server = idle.server;
          life = idle.life;
          session = subst (After now t.here.session) (sym none) (without t.here.session gone);
          greeting = λ e. refl;
          sends = λ m h. earlier m (sent_is w.out _ m (IsSentBy g.here m) (λ f. subst (IsSentBy g.here) (sym f)
              (record { to = refl; life = refl; cause = ByGreeting refl none refl })) h);
        }
      where
        earlier : (m : Message) → Has (outputs.Send m) w.out ⊎ IsSentBy g.here m → Has (outputs.Send m) t.out ⊎ IsSentBy g.here m
        earlier m (inl h) = inl (idle.quiet m h)
        earlier m (inr p) = inr p

    clash : {P : Type 0} (s : ClientSession) → w.here.session ≡ Some s → P
    clash s e = absurd (no (sym none ∙ e))
      where
        no : ◌≡◌ {A = Option ClientSession} None (Some s) → ⊥
        no q = cc

    go : (u : Turn) → asks.Requests now tick g u → Works now t u
    go _ asks.AsksNothing = said
    go _ (asks.AsksAgain s q e c a o) = clash s e
    go _ (asks.Reasserts s may d) = clash s may.session
    go _ (asks.Releases s r rs may d e) = clash s may.session
    go _ (asks.AsksFor s xs o ys w free serving first) = clash s free.may.session
    go _ (asks.KeepsAlive s free e) = clash s free.may.session

-- All passes at a server.
pub passes_work : (now : Stamp) (tick : Bool) (t : Turn) → Works now t (cp.passes now tick t)
passes_work now tick t = go (passes now tick t)
  where
    u : Turn
    u = cp.passes now tick t

    go : Passed now tick t u → Works now t u
    go p = by p.greeted p.greeting p.requests
      where
        operated : IsIdle t p.operated
        operated =
            each_lasts (Operated now t.operations) (λ xs v. IsIdle t v) (λ x xs v w o i. idle_then t v w i (operated_idle now t.operations x v w o))
            t.operations (with_operations [] t) p.operated p.operations
            (record { id = refl; server = refl; life = refl; greeting = refl; session = alike_self t.here.session; quiet = λ m h. h })

        reduced : IsIdle t p.reduced
        reduced =
            each_lasts Reduced (λ xs v. IsIdle t v) (λ x xs v w o i. idle_then t v w i (reduced_idle x v w o)) (cp.files_demanded p.operated.here.session)
            p.operated p.reduced p.reductions operated

        written : IsIdle t p.written
        written =
            each_lasts (WritesOut now tick) (λ xs v. IsIdle t v) (λ x xs v w o i. idle_then t v w i (written_idle now tick x v w o))
            (places_of p.reduced.here.session p.reduced.here.store.pages) p.reduced
            p.written p.writes reduced

        by : (g : Turn) → Greets now tick p.written g → asks.Requests now tick g u → Works now t u
        by _ asks.IsSilent r = requested now t p.written written tick u r
        by _ (asks.SaysHello e m) r = greeted now tick t p.written u written e r
