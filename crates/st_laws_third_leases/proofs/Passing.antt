-- What the passes of a client of the third form do to its session at a server, and what they send: a session stays alike but for its requests, or its life
-- ends because the client leaves; and each message that is sent is a greeting, or asks the outstanding request.
use Rattle.st_lemmas.proofs.Words
use Words.{◌≡◌, ◌+◌, ◌⊎◌, ◌&&◌, Bool, true, false, not, List, [], ◌∷◌, Option, Some, None, map, refl, sym, ap, ◌∙◌, subst, inl, inr}
use Words.{if◌then◌else◌, is_some}
use Words.{Body, Life, Message, Operation, Release, Request, Stamp}
use Words.bodies
use Words.outputs
use Words.Client as cl
use Words.ClientPasses as cp
use Words.ClientState as cs
use Words.ClientState.{ClientSession, Turn, is_serving, send}
use Words.Lists.{Has}
use Words.Lookups.{some_is}
use Words.Tables.{and_true, has_append}
use Rattle.st_third.specs.Client as third
use Rattle.st_third.specs.GiveBack as giving
use Rattle.st_third.specs.Leave as leaving
use Rattle.st_third.specs.Room as room
use Rattle.st_third.specs.Runs as runs
use Rattle.st_third.specs.State.{ThirdTurn, all_said, plain_output, plainly, say, session}
use Rattle.st_laws_healthy.proofs.Passing.{After, Alike, ByGreeting}
use Rattle.st_laws_healthy.proofs.Replies.{is_served}
use Rattle.st_laws_third.specs.Changes.{ThirdLeaves, HasLeft, Stays}
use Rattle.st_laws_third.proofs.Chains.{left_has, right_has}
use Rattle.st_laws_third.proofs.Leaving.{leaves}
use Rattle.st_laws_third_leases.proofs.Idle.{LeavesAlike, Sent, alike_both, giving_alike, operations_alike, reductions_alike, said_plainly}
use Rattle.st_laws_third_leases.proofs.Idle.{sent_plainly, writes_alike}
use Rattle.st_laws_third_leases.proofs.Requesting.{AllServed, Asked, Earlier, IsNow, IsSpoken, Requesting, Rests, Says, WantedServed, after_alike}
use Rattle.st_laws_third_leases.proofs.Requesting.{after_behind, asks_for_or}
use Rattle.st_laws_third_leases.proofs.Requesting.{first_or, requests_ask, want_served}

-- with a session, or without, after the passes
pub record IsWorked (now : Stamp) (t u : ThirdTurn) : Type 0 where
  pub life : u.plain.here.life ≡ t.plain.here.life
  pub session : After now (session t) (session u)
  pub greeting : is_some t.plain.here.greeting ≡ true → is_some u.plain.here.greeting ≡ true

-- the client has left: its life ended, and nothing is left
pub record HasGone (t u : ThirdTurn) : Type 0 where
  pub life : u.plain.here.life.0 ≡ t.plain.here.life.0 + 1
  pub was : is_some (session t) ≡ true
  pub none : session u ≡ None

-- What the passes do.
pub record Works (now : Stamp) (t u : ThirdTurn) : Type 0 where
  pub id : u.plain.id ≡ t.plain.id
  pub server : u.plain.here.server ≡ t.plain.here.server
  pub goes : IsWorked now t u ⊎ HasGone t u
  pub sends : (m : Message) → Sent (all_said u) m → Sent (all_said t) m ⊎ IsSpoken u.plain.id now u.plain.here m
  pub asked : (z : ClientSession) (q : Request) → session u ≡ Some z → z.requests.asked ≡ Some q →
      Asked (Sent (all_said u)) u.plain.id (session t) u.plain.here z q
  pub rests : Rests u.plain.config now (session u)

-- What is asked at a server, as a rule of the first two forms.
pub record Asks (now : Stamp) (t u : ThirdTurn) : Type 0 where
  pub id : u.plain.id ≡ t.plain.id
  pub server : u.plain.here.server ≡ t.plain.here.server
  pub life : u.plain.here.life ≡ t.plain.here.life
  pub greeting : is_some t.plain.here.greeting ≡ true → is_some u.plain.here.greeting ≡ true
  pub sends : (m : Message) → Sent (all_said u) m → Sent (all_said t) m ⊎ IsSpoken u.plain.id now u.plain.here m
  pub asked : (z : ClientSession) (q : Request) → session u ≡ Some z → z.requests.asked ≡ Some q →
      Asked (Sent (all_said u)) u.plain.id (session t) u.plain.here z q
  pub rests : Rests u.plain.config now (session u)
  pub session : After now (session t) (session u)

module _ (now : Stamp) where
  none_some : {A B : Type 0} (x : A) → ◌≡◌ {A = Option A} None (Some x) → B
  none_some x q = cc

  asks_by : (t : ThirdTurn) (rule : Turn → Turn) → Requesting now t.plain (rule t.plain) → Asks now t (plainly rule t)
  unfolding plainly
  asks_by t rule r =
      record {
        id = r.id;
        server = r.server;
        life = r.life;
        greeting = λ e. ap is_some r.greeting ∙ e;
        session = r.session;
        sends = λ m h. go m (has_append t.said (map plain_output (rule t.plain).out) _ h);
        asked = λ z q e a. said z q (r.asked z q e a);
        rests = subst (λ k. Rests k now v.here.session) (sym r.config) r.rests;
      }
    where
      v : Turn
      v = rule t.plain

      plain : (m : Message) → Says t.plain m ⊎ IsSpoken v.id now v.here m → Sent (all_said t) m ⊎ IsSpoken v.id now v.here m
      plain m (inl h) = inl (right_has t.said (map plain_output t.plain.out) _ (said_plainly t.plain.out m h))
      plain m (inr p) = inr p

      go : (m : Message) → Sent t.said m ⊎ Sent (map plain_output v.out) m → Sent (all_said t) m ⊎ IsSpoken v.id now v.here m
      go m (inl h) = inl (left_has t.said (map plain_output t.plain.out) _ h)
      go m (inr h) = plain m (r.sends m (sent_plainly v.out m h))

      said : (z : ClientSession) (q : Request) → Asked (Says v) v.id t.plain.here.session v.here z q →
          Asked (Sent (all_said (plainly rule t))) v.id t.plain.here.session v.here z q
      said z q (Earlier s e a b) = Earlier s e a b
      said z q (IsNow m h a b c d e) = IsNow m (right_has t.said (map plain_output v.out) _ (said_plainly v.out m h)) a b c d e

  asks_still : (t : ThirdTurn) → session t ≡ None → Asks now t t
  asks_still t none =
      record {
        id = refl;
        server = refl;
        life = refl;
        greeting = λ e. e;
        session = after_alike now (session t) (session t) (Rattle.st_laws_healthy.proofs.Passing.alike_self (session t));
        sends = λ m h. inl h;
        asked = λ z q e a. Earlier z e refl refl;
        rests = subst (Rests t.plain.config now) (sym none) tt;
      }

  -- Requests: what an operation asks, with its run.

  run_served : (t : ThirdTurn) (b : Body) → is_served b ≡ true → is_served (runs.run_asked t b) ≡ true
  run_served t (bodies.Allocate ino g p count) e = refl
  run_served t b e = e

  with_run_served : (t : ThirdTurn) (w : Option cp.Wanted) → WantedServed now w → WantedServed now (runs.with_run t w)
  unfolding runs.with_run
  with_run_served t None k = tt
  with_run_served t (Some w) k = run_served t w.body k

  first_served : (t : ThirdTurn) (s : ClientSession) (os : List Operation) → AllServed now (third.first_asking t s now os)
  unfolding third.first_asking third.asked_by
  first_served t s [] = tt
  first_served t s (o ∷ os) =
      first_or now o os (third.asked_by t s now o) (by (third.may_ask t s o && not (third.must_wait t s now o))) (third.first_asking t s now os)
      (first_served t s os)
    where
      by : (b : Bool) → WantedServed now (if b then runs.with_run t (cp.want t.plain s now o.ask) else None)
      by true = with_run_served t (cp.want t.plain s now o.ask) (want_served now t.plain s o.ask)
      by false = tt

  -- no request is outstanding, and no release waits
  is_free : (t : ThirdTurn) (s : ClientSession) → third.may_operations_ask t s now ≡ true → (s.requests.asked ≡ None) × (s.releases ≡ [])
  is_free t s m =
      let z = (and_true (is_serving t.plain.config s now && not s.lease.condemned) _ m).1 in
      let y = and_true (not (is_some s.requests.asked)) _ z in
      let x = and_true (not s.due) _ y.1 in
      (nothing s.requests.asked y.0, empty s.releases x.1)
    where
      nothing : {A : Type 0} (o : Option A) → not (is_some o) ≡ true → o ≡ None
      nothing None e = refl
      nothing (Some x) e = cc e

      empty : (rs : List Release) → not (cl.is_any rs) ≡ true → rs ≡ []
      empty [] e = refl
      empty (r ∷ rs) e = cc e

  asks_with : (tick : Bool) (t : ThirdTurn) (s : ClientSession) → session t ≡ Some s → Asks now t (third.requests_under t s now tick)
  unfolding third.requests_under
  asks_with tick t s there = go (third.may_operations_ask t s now) refl
    where
      a : Option cp.Asking
      a = third.first_asking t s now t.plain.operations

      go : (b : Bool) → third.may_operations_ask t s now ≡ b →
          Asks now t (if b then plainly (third.asked_for s now a) t else plainly (cp.requests now tick) t)
      go true e =
          let z = is_free t s e in
          asks_by t (third.asked_for s now a) (asks_for_or now t.plain s there a z.0 z.1 (first_served t s t.plain.operations))
      go false e = asks_by t (cp.requests now tick) (requests_ask now tick t.plain)

  -- Greeting, and then nothing is asked: there is no session.

  greets : (t : ThirdTurn) → session t ≡ None → Asks now t (plainly (leaving.hello now) t)
  unfolding plainly cp.hello send
  greets t none =
      record {
        id = refl;
        server = refl;
        life = refl;
        greeting = λ e. refl;
        session = subst (λ o. After now o o) (sym none) refl;
        sends = λ m h. go m (has_append t.said (map plain_output v.out) _ h);
        asked = λ z q e a. none_some z (sym none ∙ e);
        rests = subst (Rests t.plain.config now) (sym none) tt;
      }
    where
      v : Turn
      v = cp.hello t.plain now

      x : Message
      x = record { header = cs.header_of t.plain 0 0 now.0; body = bodies.Hello }

      spoken : IsSpoken t.plain.id now v.here x
      spoken =
          record {
            by = record { to = refl; life = refl; cause = ByGreeting refl none refl };
            from = refl;
            stamp = refl;
            epoch = λ z e. none_some z (sym none ∙ e);
            plain = λ e. refl;
          }

      plain : (m : Message) → Has (outputs.Send m) t.plain.out ⊎ Has (outputs.Send m) (outputs.Send x ∷ []) →
          Sent (all_said t) m ⊎ IsSpoken t.plain.id now v.here m
      plain m (inl h) = inl (right_has t.said (map plain_output t.plain.out) _ (said_plainly t.plain.out m h))
      plain m (inr (inl e)) = inr (subst (IsSpoken t.plain.id now v.here) (sym (same e)) spoken)
        where
          same : outputs.Send m ≡ outputs.Send x → m ≡ x
          same e = cc
      plain m (inr (inr h)) = absurd h

      go : (m : Message) → Sent t.said m ⊎ Sent (map plain_output v.out) m → Sent (all_said t) m ⊎ IsSpoken t.plain.id now v.here m
      go m (inl h) = inl (left_has t.said (map plain_output t.plain.out) _ h)
      go m (inr h) = plain m (has_append t.plain.out (outputs.Send x ∷ []) _ (sent_plainly v.out m h))

  -- the last two passes
  asks_last : (tick : Bool) (t : ThirdTurn) → Asks now t (third.requests now tick (leaving.greeting now tick t))
  unfolding third.requests third.requests_by leaving.greeting leaving.greeting_by leaving.greet plainly cp.hello send
  asks_last tick t = go (session t) refl
    where
      -- without a session nothing is asked
      quiet : (u : ThirdTurn) → session u ≡ None → third.requests_by u now tick (session u) ≡ u
      quiet u e = ap (third.requests_by u now tick) e

      by : session t ≡ None → (b : Bool) →
          Asks now t (third.requests now tick (if b then plainly (leaving.hello now) t else t))
      by e true = subst (Asks now t) (sym (quiet (plainly (leaving.hello now) t) e)) (greets t e)
      by e false = subst (Asks now t) (sym (quiet t e)) (asks_still t e)

      go : (o : Option ClientSession) → session t ≡ o → Asks now t (third.requests now tick (leaving.greeting_by t now tick o))
      go None e = by e (leaving.must_greet t now tick)
      go (Some s) e = subst (λ o. Asks now t (third.requests_by t now tick o)) (sym e) (asks_with tick t s e)

  -- The passes that come before leave the session alike.
  abbrev pub written : Bool → ThirdTurn → ThirdTurn
  written tick t = room.writes now tick (leaving.reductions (giving.giving now (third.operations now t)))

  written_alike : (tick : Bool) (t : ThirdTurn) → LeavesAlike t (written tick t)
  written_alike tick t =
      let a : ThirdTurn = third.operations now t in
      let b : ThirdTurn = giving.giving now a in
      let c : ThirdTurn = leaving.reductions b in
      alike_both t a _ (operations_alike now t) (alike_both a b _ (giving_alike now a) (alike_both b c _ (reductions_alike b) (writes_alike now tick c)))

  -- a request that was outstanding before, in an alike session
  earlier : (o p : Option ClientSession) → Alike o p → (s : ClientSession) → p ≡ Some s →
      (x : ClientSession) × (o ≡ Some x) × (x.requests ≡ s.requests) × (x.epoch ≡ s.epoch)
  earlier None p a s e = none_some s (sym a ∙ e)
  earlier (Some x) p f s e =
      let q : f.session ≡ s = some_is (sym f.is ∙ e) in (
        x,
        refl,
        sym f.requests ∙ ap (λ (y : ClientSession). y.requests) q,
        sym f.epoch ∙ ap (λ (y : ClientSession). y.epoch) q,
      )

  module _ (t d : ThirdTurn) (l : LeavesAlike t d) (u : ThirdTurn) where
    sends_after : (e : ThirdTurn) → ((m : Message) → Sent (all_said e) m → Sent (all_said d) m) → Asks now e u → (m : Message) → Sent (all_said u) m →
        Sent (all_said t) m ⊎ IsSpoken u.plain.id now u.plain.here m
    sends_after e q a m h = go (a.sends m h)
      where
        go : Sent (all_said e) m ⊎ IsSpoken u.plain.id now u.plain.here m → Sent (all_said t) m ⊎ IsSpoken u.plain.id now u.plain.here m
        go (inl i) = inl (l.quiet m (q m i))
        go (inr p) = inr p

    stays : Asks now d u → Works now t u
    stays a =
        record {
          id = a.id ∙ l.id;
          server = a.server ∙ l.server;
          goes = inl (record {
            life = a.life ∙ l.life;
            session = after_behind now (session t) (session d) (session u) l.session a.session;
            greeting = λ e. a.greeting (ap is_some l.greeting ∙ e);
          });
          sends = sends_after d (λ m h. h) a;
          asked = λ z q e n. go z q (a.asked z q e n);
          rests = a.rests;
        }
      where
        go : (z : ClientSession) (q : Request) → Asked (Sent (all_said u)) u.plain.id (session d) u.plain.here z q →
            Asked (Sent (all_said u)) u.plain.id (session t) u.plain.here z q
        go z q (Earlier s e r x) =
            let y = earlier (session t) (session d) l.session s e in
            Earlier y.0 y.1 (y.2 ∙ r) (y.3 ∙ x)
        go z q (IsNow m h a b c d e) = IsNow m h a b c d e

    -- a life that ended leaves no session
    emptied_last : (e : ThirdTurn) → session e ≡ None → Asks now e u → session u ≡ None
    emptied_last e n a = subst (λ o. After now o (session u)) n a.session

    was_there : (s : ClientSession) → session d ≡ Some s → is_some (session t) ≡ true
    was_there s e = let y = earlier (session t) (session d) l.session s e in ap is_some y.1

    gone : (s : ClientSession) → session d ≡ Some s → (e : ThirdTurn) → e.plain.id ≡ d.plain.id → e.plain.here.server ≡ d.plain.here.server →
        e.plain.here.life.0 ≡ d.plain.here.life.0 + 1 → session e ≡ None → ((m : Message) → Sent (all_said e) m → Sent (all_said d) m) → Asks now e u →
        Works now t u
    gone s there e i sv li none quiet a =
        record {
          id = a.id ∙ i ∙ l.id;
          server = a.server ∙ sv ∙ l.server;
          goes = inr (record {
            life = ap (λ (x : Life). x.0) a.life ∙ li ∙ ap (λ (x : Life). x.0 + 1) l.life;
            was = was_there s there;
            none = emptied_last e none a;
          });
          sends = sends_after e quiet a;
          asked = λ z q f n. none_some z (sym (emptied_last e none a) ∙ f);
          rests = a.rests;
        }

  -- All passes at a server.
  pub passes_work : (tick : Bool) (t : ThirdTurn) → Works now t (third.third_passes now tick t)
  unfolding third.third_passes plainly say
  passes_work tick t = by (leaving.leaving (written tick t)) (leaves (written tick t)) (asks_last tick (leaving.leaving (written tick t)))
    where
      d : ThirdTurn
      d = written tick t

      u : ThirdTurn
      u = third.third_passes now tick t

      ended_quiet : (s : ClientSession) (m : Message) →
          Sent (all_said (leaving.emptied (say d (Rattle.st_third.specs.declared.output.ThirdOutput.TheVariants.Ended (Rattle.st_third.specs.State.here d)
          d.plain.here.life (Words.ClientLease.end_of d.plain.config s.lease))))) m → Sent (all_said d) m
      ended_quiet s m h =
          (Rattle.st_laws_third_leases.proofs.Idle.alike_said d (Rattle.st_third.specs.declared.output.ThirdOutput.TheVariants.Ended
          (Rattle.st_third.specs.State.here d) d.plain.here.life (Words.ClientLease.end_of d.plain.config s.lease)) (λ m e. cc)).quiet m h

      by : (e : ThirdTurn) → ThirdLeaves now d e → Asks now e u → Works now t u
      by _ Stays a = stays t d (written_alike tick t) u a
      by _ (HasLeft s there) a = gone t d (written_alike tick t) u s there _ refl refl refl refl (ended_quiet s) a
