-- In every run a client that is sent a new reply `queued` waits at the server after that step, or was granted the lock in it.
use Rattle.st_lemmas.proofs.Words
use Words.{◌≡◌, ℕ, ◌+◌, ◌⊎◌, true, ◌==◌, List, [], ◌∷◌, ◌++◌, refl, sym, ap, ◌∙◌, subst, inl, inr, arith, find, length, map, Option, Some, None, Ok}
use Words.{option_map, eq-eqb, eqb-true, le-leb, ClientId, ServerId, Life, Stamp, Mode, Header, Body, Message, Output, Event}
use Words.{ServerInput, LockRow, RowDemand, Waiter, Observation}
use Words.modes
use Words.bodies
use Words.outputs
use Words.notes
use Words.seen
use Words.nodes
use Words.serving.{Control}
use Rattle.st_rules.specs.declared.authority.AcceptRefusal.TheVariants as refusals
use Words.Events as ev
use Words.Events.{WorldTurn, counted, happens, quiet, server_says, server_says_all, with_node, world_step}
use Words.History.{Traced, traced}
use Words.Keys.{client}
use Words.Locks as locks
use Words.Locks.{Locks, greater, is_wait_of, new_wait, queue, queue_at, raise, wait_for, wait_of, with_demand, grant}
use Words.Safety.{Step, is_event, step}
use Words.Server as sv
use Words.Server.{ServerNode, ServerState, ServerTurn, keep_and_reply, life_in, reply, sender, server_step, suspect_client, tell, thefts, turn, with_locks}
use Words.Sessions as sessions
use Words.World.{clock_of, fresh_world}
use Words.Lists.{Has}
use Words.Lookups.{some_is}
use Words.Tables.{and_both, and_true, cond_either, cond_true, find_last, find_map, found_at, has_append}
use Words.Truth.{not_both}
use Rattle.st_base.specs.declared.config.Config as base
use Rattle.st_base.specs.Mode.{covers, number_of}
use Rattle.st_trace.specs.Server.Edits.{NoSends, Told, IsAlive, IsHeld, HasTooMany, HasNoRow, IsMapped, IsNoFile, HoldsNot, HasNoSpace, IsNamed, AreListed}
use Rattle.st_trace.specs.Server.Edits.{IsRefused, RemovesNot, Gets, AtOnce, InTurn, Ruled, Tells, Acquires, Releases, Allocates, Cuts, Creates, MakesDir, Renames}
use Rattle.st_trace.specs.Server.Edits.{RemovesDir, RemovesFile, Refused, IsSuspect, GreetsInGrace, OfOtherEpoch, HasNoSession, IsRefusedRows, AtInput}
use Rattle.st_trace.specs.Server.Edits.{AtSuspicion, AtGrants, AtDemands, Edit, Welcomes, Begins, Replaces, PutsOff, Sees, Reasserts, Serves, Repeats, Refuses}
use Rattle.st_trace.specs.Server.Edits.{Suspects, Grants, Demands}
use Rattle.st_trace.proofs.Server.Input.{no_sends_note, thefts_begun}
use Rattle.st_trace.proofs.Server.Walk.{walk_after_thefts}
use Rattle.st_laws_refine.proofs.Server.Delivery.{taken, takes_is}
use Rattle.st_laws_leases.proofs.Sides.Runs.{throughout_events}
use Rattle.st_laws_waits.specs.Ends.{IsGranted, IsWaiting}
use Rattle.st_laws_waits.specs.Queued.{IsQueued, QueuedClientsWait, WasKept}
use Rattle.st_laws_waits.specs.Waits.{InEveryRun, received}
use Rattle.st_laws_waits.proofs.AnyEnds.{stays_or_granted}
use Rattle.st_laws_waits.proofs.Causes.{message_takes_of}
use Rattle.st_laws_waits.proofs.Ends.{granted_besides, granted_demanded}
use Rattle.st_laws_waits.proofs.Events.{Done, stepped}
use Rattle.st_laws_waits.proofs.Events.Done.{Ticks, Receives, Waits, Stops, Starts}
use Rattle.st_laws_waits.proofs.Standing.{Basic, basic2, begins, change}

-- Nothing was sent.
none_sent : (os : List Output) (m : Message) → NoSends os → Has (outputs.Send m) os → ⊥
none_sent [] m q h = elim h [ ]
none_sent (outputs.Send x ∷ os) m q h = elim q [ ]
none_sent (outputs.Submit n b c ∷ os) m q (inl e) = cc e
none_sent (outputs.Answer n a ∷ os) m q (inl e) = cc e
none_sent (outputs.Note n ∷ os) m q (inl e) = cc e
none_sent (outputs.Submit n b c ∷ os) m q (inr i) = none_sent os m q i
none_sent (outputs.Answer n a ∷ os) m q (inr i) = none_sent os m q i
none_sent (outputs.Note n ∷ os) m q (inr i) = none_sent os m q i

send_is : (x m : Message) → outputs.Send x ≡ outputs.Send m → x ≡ m
send_is x m e = cc e

covers_itself : (mode : Mode) → covers mode mode ≡ true
covers_itself mode = le-leb (number_of mode) (number_of mode) (omega arith)

-- Whoever is queued waits, in the mode that was asked or a higher one.
queue_waits : (l : Locks) (c : ClientId) (life : Life) (ino : ℕ) (mode : Mode) → IsQueued c ino mode (queue l c life ino mode)
unfolding queue queue_at wait_for
queue_waits l c life ino mode = at (wait_of l c ino) refl
  where
    raised_its : (v : Waiter) → is_wait_of c ino (raise c ino mode v) ≡ is_wait_of c ino v
    raised_its v = cond_either (λ (y : Waiter). is_wait_of c ino y ≡ is_wait_of c ino v) (is_wait_of c ino v) (wait_for mode v) v (λ e. refl) (λ e. refl)

    higher : (m : Mode) → covers (greater m mode) mode ≡ true
    higher m = cond_either (λ (y : Mode). covers y mode ≡ true) (covers m mode) m mode (λ e. e) (λ e. covers_itself mode)

    raised : (w : Waiter) → wait_of l c ino ≡ Some w → is_wait_of c ino w ≡ true → (w.client.0 == c.0) ≡ true → (w.ino == ino) ≡ true →
        IsQueued c ino mode (record l { waiters = map (raise c ino mode) l.waiters })
    raised w e k a b =
        record {
          wait = wait_for mode w;
          client = eqb-true w.client.0 c.0 a;
          file = eqb-true w.ino ino b;
          covered = higher w.mode;
          there = inl (subst (λ n. find (is_wait_of (client n) w.ino) (map (raise c ino mode) l.waiters) ≡ Some (wait_for mode w)) (sym (eqb-true w.client.0 c.0 a))
              (subst (λ i. find (is_wait_of c i) (map (raise c ino mode) l.waiters) ≡ Some (wait_for mode w)) (sym (eqb-true w.ino ino b))
              (find_map (is_wait_of c ino) (raise c ino mode) raised_its l.waiters ∙ ap (option_map (raise c ino mode)) e
              ∙ ap (λ v. Some v) (cond_true (is_wait_of c ino w) (wait_for mode w) w k))));
        }

    at : (o : Option Waiter) → wait_of l c ino ≡ o → IsQueued c ino mode (queue_at l c life ino mode o)
    at None e =
        record {
          wait = new_wait c life ino mode;
          client = refl;
          file = refl;
          covered = covers_itself mode;
          there = inl (find_last (is_wait_of c ino) (new_wait c life ino mode) l.waiters e (and_both (c.0 == c.0) (ino == ino) (eq-eqb c.0 c.0 refl) (eq-eqb ino ino refl)));
        }
    at (Some w) e =
        let k = (found_at (is_wait_of c ino) l.waiters w e).0 in
        let z = and_true (w.client.0 == c.0) (w.ino == ino) k in
        raised w e k z.0 z.1

-- The rule of a request sends nothing by itself, and replies `queued` only as it queues the client.
rule_quiet : (now : Stamp) (t : ServerTurn) (h : Header) (b : Body) (u : ServerTurn) (r : Body) → Ruled now t h b u r → NoSends t.out → NoSends u.out
unfolding sv.cut_pages sv.cut_whole
rule_quiet now t h b u r (Tells _ _ told) q = q
rule_quiet now t h b u r (Acquires ino mode a file lacks gets) q = q
rule_quiet now t h b u r (Releases ino g to row at under) q = q
rule_quiet now t h b u r (Allocates ino g p count x file holds e) q = q
rule_quiet now t h b u r (Cuts ino g p file holds) q = no_sends_note t.out _ q tt
rule_quiet now t h b u r (Creates dir x d e) q = q
rule_quiet now t h b u r (MakesDir dir x d e) q = q
rule_quiet now t h b u r (Renames dir x dir2 x2 d e) q = q
rule_quiet now t h b u r (RemovesDir dir x g ino d at file zero e is) q = q
rule_quiet now t h b u r (RemovesFile dir x g ino d at file holds e is) q = no_sends_note t.out _ q tt

told_not : (t : ServerTurn) (h : Header) (b r : Body) → Told t h b r → (ino : ℕ) (mode : Mode) → r ≡ bodies.Queued ino mode → ⊥
told_not t h b r IsAlive ino mode e = cc e
told_not t h b r (IsHeld i m x f at c) ino mode e = cc e
told_not t h b r (HasTooMany i m f n p) ino mode e = cc e
told_not t h b r (HasNoRow i g to n) ino mode e = cc e
told_not t h b r (IsMapped i g p f k) ino mode e = cc e
told_not t h b r (IsNoFile _ i f n) ino mode e = cc e
told_not t h b r (HoldsNot _ i g m l f n) ino mode e = cc e
told_not t h b r (HasNoSpace i g p c x w f k n) ino mode e = cc e
told_not t h b r (IsNamed d x i n) ino mode e = cc e
told_not t h b r (AreListed d a rows n) ino mode e = cc e
told_not t h b r (IsRefused op y n) ino mode e = cc e
told_not t h b r (RemovesNot d x g i at f n) ino mode e = cc e

abbrev ino_in : Body → ℕ
ino_in (bodies.Queued ino mode) = ino
ino_in b = 0

abbrev mode_in : Body → Mode
mode_in (bodies.Queued ino mode) = mode
mode_in b = modes.None

got_queued : (g : _) (l : Locks) (c : ClientId) (life : Life) (i : ℕ) (m : Mode) (a : locks.Acquired) → Gets g l c life i m a → (ino : ℕ) (mode : Mode) →
    sv.verdict_body i m a.verdict ≡ bodies.Queued ino mode → IsQueued c ino mode a.locks
got_queued g l c life i m a (AtOnce on rows waits) ino mode e = cc e
got_queued g l c life i m a (InTurn busy) ino mode e =
    subst (λ z. IsQueued c z mode (queue l c life i m)) (ap ino_in e) (subst (λ z. IsQueued c i z (queue l c life i m)) (ap mode_in e) (queue_waits l c life i m))

rule_queued : (now : Stamp) (t : ServerTurn) (h : Header) (b : Body) (u : ServerTurn) (r : Body) → Ruled now t h b u r → (ino : ℕ) (mode : Mode) →
    r ≡ bodies.Queued ino mode → IsQueued (sender h) ino mode u.state.locks
rule_queued now t h b u r (Tells _ _ told) ino mode e = absurd (told_not t h b r told ino mode e)
rule_queued now t h b u r (Acquires i m a file lacks gets) ino mode e = got_queued _ t.state.locks (sender h) (life_in h) i m a gets ino mode e
rule_queued now t h b u r (Releases i g to row at under) ino mode e = cc e
rule_queued now t h b u r (Allocates i g p count x file holds f) ino mode e = cc e
rule_queued now t h b u r (Cuts i g p file holds) ino mode e = cc e
rule_queued now t h b u r (Creates dir x d f) ino mode e = cc e
rule_queued now t h b u r (MakesDir dir x d f) ino mode e = cc e
rule_queued now t h b u r (Renames dir x dir2 x2 d f) ino mode e = cc e
rule_queued now t h b u r (RemovesDir dir x g i d at file zero f is) ino mode e = cc e
rule_queued now t h b u r (RemovesFile dir x g i d at file holds f is) ino mode e = cc e

-- Through a step.
module _ (n : ServerState) (now : Stamp) (i : ServerInput) where
  -- each `queued` that was sent so far is true, or was kept before
  abbrev Fair : ServerTurn → Type 0
  Fair t = (m : Message) (ino : ℕ) (mode : Mode) → Has (outputs.Send m) t.out → m.body ≡ bodies.Queued ino mode →
      IsQueued (client m.header.to) ino mode t.state.locks ⊎ WasKept n m

  nothing : (t : ServerTurn) → NoSends t.out → Fair t
  nothing t q m ino mode h e = absurd (none_sent t.out m q h)

  -- a reply after nothing
  replied : (t : ServerTurn) (h : Header) (b : Body) → NoSends t.out →
      ((ino : ℕ) (mode : Mode) → b ≡ bodies.Queued ino mode → IsQueued (sender h) ino mode t.state.locks ⊎ WasKept n (record { header = sv.reply_header t.state h; body = b })) →
      Fair (reply t h b)
  unfolding reply
  replied t h b q f m ino mode k e = go (has_append t.out _ (outputs.Send m) k)
    where
      r : Message
      r = record { header = sv.reply_header t.state h; body = b }

      here : m ≡ r → IsQueued (client m.header.to) ino mode t.state.locks ⊎ WasKept n m
      here d =
          subst (λ (z : Message). IsQueued (client z.header.to) ino mode t.state.locks ⊎ WasKept n z) (sym d)
          (f ino mode (ap (λ (z : Message). z.body) (sym d) ∙ e))

      go : Has (outputs.Send m) t.out ⊎ Has (outputs.Send m) (outputs.Send r ∷ []) → IsQueued (client m.header.to) ino mode t.state.locks ⊎ WasKept n m
      go (inl x) = absurd (none_sent t.out m q x)
      go (inr (inl x)) = here (send_is m r x)
      go (inr (inr x)) = elim x [ ]

  -- a message that isn't `queued`, after others
  told : (t : ServerTurn) (c : ClientId) (life : Life) (b : Body) → ((ino : ℕ) (mode : Mode) → b ≡ bodies.Queued ino mode → ⊥) → Fair t → Fair (tell t c life b)
  unfolding tell
  told t c life b other f m ino mode k e = go (has_append t.out _ (outputs.Send m) k)
    where
      r : Message
      r = record { header = sv.own_header t.state c life; body = b }

      go : Has (outputs.Send m) t.out ⊎ Has (outputs.Send m) (outputs.Send r ∷ []) → IsQueued (client m.header.to) ino mode t.state.locks ⊎ WasKept n m
      go (inl x) = f m ino mode x e
      go (inr (inl x)) = absurd (other ino mode (ap (λ (z : Message). z.body) (sym (send_is m r x)) ∙ e))
      go (inr (inr x)) = elim x [ ]

  -- other locks, in which whoever is queued is so still
  moved : (t : ServerTurn) (v : Locks) → ((c : ClientId) (ino : ℕ) (mode : Mode) → IsQueued c ino mode t.state.locks → IsQueued c ino mode v) → Fair t → Fair (with_locks v t)
  moved t v f g m ino mode k e = go (g m ino mode k e)
    where
      go : IsQueued (client m.header.to) ino mode t.state.locks ⊎ WasKept n m → IsQueued (client m.header.to) ino mode v ⊎ WasKept n m
      go (inl x) = inl (f (client m.header.to) ino mode x)
      go (inr x) = inr x

  granted : (l : Locks) (v : Waiter) → Has v l.waiters → find (locks.is_wait_on v.ino) l.waiters ≡ Some v → (c : ClientId) (ino : ℕ) (mode : Mode) →
      IsQueued c ino mode l → IsQueued c ino mode (grant l v.client v.life v.ino v.mode)
  granted l v h f c ino mode q = record { wait = q.wait; client = q.client; file = q.file; covered = q.covered; there = by q.there }
    where
      by : IsWaiting q.wait l ⊎ IsGranted q.wait l →
          IsWaiting q.wait (grant l v.client v.life v.ino v.mode) ⊎ IsGranted q.wait (grant l v.client v.life v.ino v.mode)
      by (inl x) = stays_or_granted q.wait l v f x
      by (inr x) = inr (granted_besides q.wait l v h x)

  demanded : (l : Locks) (r : LockRow) (x : RowDemand) (c : ClientId) (ino : ℕ) (mode : Mode) → IsQueued c ino mode l → IsQueued c ino mode (with_demand r x l)
  demanded l r x c ino mode q = record { wait = q.wait; client = q.client; file = q.file; covered = q.covered; there = by q.there }
    where
      by : IsWaiting q.wait l ⊎ IsGranted q.wait l → IsWaiting q.wait (with_demand r x l) ⊎ IsGranted q.wait (with_demand r x l)
      by (inl y) = inl y
      by (inr y) = inr (granted_demanded q.wait l r x y)

  -- the input, after nothing was sent
  refused_fair : (t : ServerTurn) (m : Message) (b : Body) → Refused n now i t m b → Fair (reply t m.header b)
  refused_fair t m b (IsSuspect start came ask at) = replied t m.header _ came.begun.quiet (λ ino mode e. cc e)
  refused_fair t m b (GreetsInGrace heard ask on) = replied t m.header _ heard.came.begun.quiet (λ ino mode e. cc e)
  refused_fair t m b (OfOtherEpoch heard ask) = replied t m.header _ heard.came.begun.quiet (λ ino mode e. cc e)
  refused_fair t m b (HasNoSession asked e) = replied t m.header _ asked.heard.came.begun.quiet (λ ino mode e. cc e)
  refused_fair t m b (IsRefusedRows rows r re e) = replied t m.header _ re.asked.heard.came.begun.quiet (never r)
    where
      never : (r : _) (ino : ℕ) (mode : Mode) → sv.refused_reassertion r ≡ bodies.Queued ino mode →
          IsQueued (sender m.header) ino mode t.state.locks ⊎ WasKept n (record { header = sv.reply_header t.state m.header; body = sv.refused_reassertion r })
      never (refusals.GraceOver a d) ino mode e = cc e
      never (refusals.Conflict a d) ino mode e = cc e
      never (refusals.NotHolder a d) ino mode e = cc e

  input_fair : (t u : ServerTurn) → Edit n now i AtInput t u → Fair t → Fair u
  unfolding suspect_client keep_and_reply
  input_fair t u (Welcomes _ m s greeted at live life) f = replied t m.header bodies.Welcome greeted.heard.came.begun.quiet (λ ino mode e. cc e)
  input_fair t u (Begins _ m greeted new) f = replied _ m.header bodies.Welcome greeted.heard.came.begun.quiet (λ ino mode e. cc e)
  input_fair t u (Replaces _ m s greeted at live life none) f = replied _ m.header bodies.Welcome greeted.heard.came.begun.quiet (λ ino mode e. cc e)
  input_fair t u (PutsOff _ m s greeted at live life has) f =
      replied _ m.header _ (no_sends_note t.out _ greeted.heard.came.begun.quiet tt) (λ ino mode e. cc e)
  input_fair t u (Sees _ m ino g heard b served) f = nothing (with_locks (locks.demand_seen t.state.locks (sender m.header) ino g) t) heard.came.begun.quiet
  input_fair t u (Reasserts _ m rows re on first) f = replied _ m.header bodies.Reasserted re.asked.heard.came.begun.quiet (λ ino mode e. cc e)
  input_fair t u (Serves _ m v b served is ruled) f =
      replied _ m.header b (rule_quiet now t m.header m.body v b ruled served.asked.heard.came.begun.quiet)
      (λ ino mode e. inl (rule_queued now t m.header m.body v b ruled ino mode e))
  input_fair t u (Repeats _ m s b asked again at life state) f =
      replied t m.header b asked.heard.came.begun.quiet
      (λ ino mode e. inr (record {
        session = s;
        is = asked.heard.came.begun.sessions (sender m.header) s at (ap sessions.is_live_state state);
        life = life;
        state = state;
      }))
  input_fair t u (Refuses _ m b refused) f = refused_fair t m b refused

  suspicion_fair : (t u : ServerTurn) → Edit n now i AtSuspicion t u → Fair t → Fair u
  unfolding suspect_client
  suspicion_fair t u (Suspects _ c r tick q free h is late) f = nothing (suspect_client t now c) (no_sends_note t.out _ q tt)

  grants_fair : (t u : ServerTurn) → Edit n now i AtGrants t u → Fair t → Fair u
  grants_fair t u (Grants _ w off h first none) f =
      told (with_locks (grant t.state.locks w.client w.life w.ino w.mode) t) w.client w.life _ (λ ino mode e. cc e)
      (moved t (grant t.state.locks w.client w.life w.ino w.mode) (granted t.state.locks w h first) f)

  demands_fair : (t u : ServerTurn) → Edit n now i AtDemands t u → Fair t → Fair u
  demands_fair t u (Demands _ w r x first among same at due) f =
      told (with_locks (with_demand r x t.state.locks) t) r.client r.life _ (λ ino mode e. cc e) (moved t (with_demand r x t.state.locks) (demanded t.state.locks r x) f)

  step_fair : Fair (server_step n now i)
  step_fair = walk_after_thefts n now i Fair input_fair suspicion_fair grants_fair demands_fair (nothing (thefts (turn n []) now) (thefts_begun n now).quiet)

-- What is seen to be sent in a step of the server is among its outputs.
seen_sent : (s : ServerId) (os : List Output) (sc : WorldTurn) (k : ℕ) (m : Message) → Has (seen.Sent k m) (server_says_all s os sc).seen →
    Has (seen.Sent k m) sc.seen ⊎ Has (outputs.Send m) os
unfolding server_says_all server_says ev.server_notes ev.cuts ev.sends
seen_sent s [] sc k m h = inl h
seen_sent s (o ∷ os) sc k m h = go (λ d. seen_sent s os d k m) h
  where
    last : (os2 : List Observation) (z : Observation) → (z ≡ seen.Sent k m → Has (outputs.Send m) (o ∷ os)) → Has (seen.Sent k m) (os2 ++ z ∷ []) →
        Has (seen.Sent k m) os2 ⊎ Has (outputs.Send m) (o ∷ os)
    last os2 z f h = by (has_append os2 (z ∷ []) (seen.Sent k m) h)
      where
        by : Has (seen.Sent k m) os2 ⊎ Has (seen.Sent k m) (z ∷ []) → Has (seen.Sent k m) os2 ⊎ Has (outputs.Send m) (o ∷ os)
        by (inl x) = inl x
        by (inr (inl x)) = inr (f (sym x))
        by (inr (inr x)) = elim x [ ]

    one : (p : Output) → p ≡ o → Has (seen.Sent k m) (server_says sc s p).seen → Has (seen.Sent k m) sc.seen ⊎ Has (outputs.Send m) (o ∷ os)
    one (outputs.Send r) q h = last sc.seen _ (λ e. inl (sent_is r e ∙ q)) h
      where
        sent_is : (r : Message) → seen.Sent (length sc.world.net.messages + 1) r ≡ seen.Sent k m → outputs.Send m ≡ outputs.Send r
        sent_is r e = cc e
    one (outputs.Note (notes.Suspected c start)) q h = last sc.seen _ (λ e. cc e) h
    one (outputs.Note (notes.Stolen c life)) q h = last sc.seen _ (λ e. cc e) h
    one (outputs.Note (notes.CutDone f p)) q h = last sc.seen _ (λ e. cc e) h
    one p q h = inl h

    go : ((d : WorldTurn) → Has (seen.Sent k m) (server_says_all s os d).seen → Has (seen.Sent k m) d.seen ⊎ Has (outputs.Send m) os) →
        Has (seen.Sent k m) (server_says_all s os (server_says sc s o)).seen → Has (seen.Sent k m) sc.seen ⊎ Has (outputs.Send m) (o ∷ os)
    go f h = by (f (server_says sc s o) h)
      where
        by : Has (seen.Sent k m) (server_says sc s o).seen ⊎ Has (outputs.Send m) os → Has (seen.Sent k m) sc.seen ⊎ Has (outputs.Send m) (o ∷ os)
        by (inl x) = one o refl x
        by (inr x) = inr (inr x)

-- In every run.
module _ (k : base.Config) (count : ℕ) (s : ServerId) (past : List Step) (t : Traced) (e : Event) (sc : WorldTurn) (b : Basic k count s past t)
    (ok : is_event count e ≡ true) (h : world_step t.world e ≡ Ok sc) where
  abbrev x : Step
  x = step t e sc

  abbrev at_clock : Stamp
  at_clock = clock_of t.world (nodes.Server s)

  sent_by : (old : ServerNode) (i : ServerInput) → old.running ≡ true → happens (counted t.world) e ≡ ev.server_takes (counted t.world) s i old →
      (number : ℕ) (m : Message) → Has (seen.Sent number m) sc.seen → Has (outputs.Send m) (server_step old.state at_clock i).out
  sent_by old i up is number m j =
      by (seen_sent s (server_step old.state at_clock i).out (quiet (with_node s (stepped old at_clock i) (counted t.world))) number m
      (subst (λ (y : WorldTurn). Has (seen.Sent number m) y.seen) (sym (taken t.world e sc h) ∙ is ∙ takes_is (counted t.world) s i old up) j))
    where
      by : Has (seen.Sent number m) [] ⊎ Has (outputs.Send m) (server_step old.state at_clock i).out → Has (outputs.Send m) (server_step old.state at_clock i).out
      by (inl y) = elim y [ ]
      by (inr y) = y

  waits : QueuedClientsWait k s past x
  waits brought came old new at up f running number m ino mode sent q = go (change k count s past t e sc b ok h)
    where
      Result : ServerNode → ServerNode → Type 0
      Result u v = IsQueued (client m.header.to) ino mode v.state.locks ⊎ WasKept u.state m

      go : Done s.0 t.world sc.world e → Result old new
      go (Ticks v found r is next clock) = let z = sym (ap (received s t.world) is) ∙ came in cc z
      go (Receives v n mm found r is em to wish next clock) =
          subst (Result old) (some_is (sym next ∙ f)) (subst (λ (u : ServerNode). Result u (stepped v at_clock (Control mm.message))) (some_is (sym found ∙ at))
          (step_fair v.state at_clock (Control mm.message) m ino mode
          (sent_by v (Control mm.message) r (message_takes_of k count s t.world e v n mm found is em to) number m sent) q))
      go (Waits same le u deaf) = let z = sym deaf ∙ came in cc z
      go (Stops v found next) = absurd (not_both new.running running (sym (ap (λ (n : ServerNode). n.running) (some_is (sym next ∙ f)))))
      go (Starts v found off is next clock) = let z = sym (ap (received s t.world) is) ∙ came in cc z

pub queued_law : InEveryRun QueuedClientsWait
queued_law k clients servers disks blocks form es s head events =
    throughout_events (clients + servers) (QueuedClientsWait k s) (Basic k (clients + servers) s)
    (λ past t e sc ok b h. (waits k (clients + servers) s past t e sc b ok h, basic2 k (clients + servers) s past t e sc b ok h)) es events []
    (traced (fresh_world k clients servers disks blocks form)) (begins k clients servers disks blocks form s head)
