-- What becomes of a client's session with a server while a rule goes on, and what it says to the server.
use Rattle.st_lemmas.proofs.Words
use Words.{◌≡◌, ◌≤◌, ◌<◌, ◌+◌, ◌⊎◌, ◌==◌, ℕ, Bool, true, false, not, List, [], ◌∷◌, ◌++◌, map, Option, Some, None, refl, sym, ap, ◌∙◌, subst, inl, inr, arith, append-nil, append_assoc, eqb-true}
use Words.{ClientId, DemandedFile, HeldLock, Life, Message, Request, ServerId, Stamp}
use Words.bodies
use Words.notes
use Words.outputs
use Words.Client as plain
use Words.ClientLocks as locks
use Words.ClientPages.{Store}
use Words.ClientPasses as passes
use Words.ClientState.{Association, ClientSession, Requests, Turn, asking}
use Words.Keys.{server_node}
use Words.Lists.{Has}
use Words.Lookups.{some_is}
use Words.Tables.{and_true, has_append, not_true}
use Words.Truth.{none_not_some}
use Rattle.st_laws_steps.specs.Client.Client as client
use Rattle.st_laws_steps.specs.Client.Session.{SessionChange, Keeps, DropsLock, IsReasserted, EndsRequest, NewEpoch, AsksNew, AsksAgain}
use Rattle.st_laws_steps.specs.Client.Losses.{Ends, Unknown, Passes, Hardens, Fails, Fit}
use Rattle.st_laws_steps.proofs.Client.Nexts.{change_next}
use Rattle.st_laws_steps.proofs.Client.Stepping.{ends_fit}
use Rattle.st_third.specs.declared.beside.Leave.{Leave}
use Rattle.st_third.specs.declared.output.ThirdOutput.{ThirdOutput}
use Rattle.st_third.specs.declared.output.ThirdOutput.TheVariants as says
use Rattle.st_third.specs.Leave as leaving
use Rattle.st_third.specs.Leave.{is_unasked}
use Rattle.st_third.specs.State.{ThirdTurn, all_said, here, plain_output, plainly, session}
use Rattle.st_third.specs.UsedOnce.{reduced}
use Rattle.st_laws_third.specs.Changes.{AsksRight, Bounds, Continues, EpochFrom, HasLeave, Heard, NewerEpoch, SameEpoch, Sends, Greets, Sees, Asks}
use Rattle.st_laws_third.specs.Changes.{ArePending, ThirdChange, Plainly, Says, Leaves, IsBeside, WaitsForRoom, Begins, GivesBack, Reduces, bounds}
use Rattle.st_laws_third.specs.Changes.{ThirdChanges, Still, Then, ThirdFinishes, ThirdLeaves, HasLeft, Stays, ThirdLoses, IsLost, Lasts, ThirdPasses, heard_end, with_plain}
use Rattle.st_laws_third.proofs.Facts.{SaysMore, WordRight, change_says, change_third}
use Rattle.st_laws_third.proofs.Stepping.{same_session}
use Rattle.st_laws_leaving.specs.Going.{AtLeft, EpochOf, HasBegunBy, IsNumbered, IsWelcomed, OfMessage, OfSession, SentWell, Unasked, Went}
use Rattle.st_laws_leaving.specs.Serving.{IsCalm}

module _ (got : Heard) where
  -- How a session changes by itself.
  record SessionOn (a : Association) (new : Option ClientSession) : Type 0 where
    numbered : IsNumbered new
    epoch : (u : ClientSession) → new ≡ Some u → EpochOf got a u.epoch.0
    unasked : Unasked new → Unasked a.session
    begun : (u : ClientSession) → new ≡ Some u → ((s : ClientSession) × (a.session ≡ Some s)) ⊎ (IsWelcomed got a.server a.life.0)

  on_same : (a : Association) → IsNumbered a.session → SessionOn a a.session
  on_same a n = record { numbered = n; epoch = λ u e. OfSession u e refl; unasked = λ x. x; begun = λ u e. inl (u, e) }

  epoch_from : (a : Association) (s u : ClientSession) → a.session ≡ Some s → EpochFrom got a (Some s) u → EpochOf got a u.epoch.0
  epoch_from a s u e (SameEpoch v f q) = OfSession s e (ap (λ (z : ClientSession). z.epoch.0) (some_is f) ∙ sym (ap (λ (z : Words.Epoch). z.0) q))
  epoch_from a s u e (NewerEpoch b h) = OfMessage h.message (h.is, h.from) h.in_epoch

  -- a session that goes on
  on_follows : (a : Association) (s u : ClientSession) → a.session ≡ Some s → IsNumbered (Some u) → (Unasked (Some u) → Unasked (Some s)) →
      EpochFrom got a (Some s) u → SessionOn a (Some u)
  on_follows a s u e n f h =
      record {
        numbered = n;
        epoch = λ v q. subst (λ (z : ClientSession). EpochOf got a z.epoch.0) (some_is q) (epoch_from a s u e h);
        unasked = λ x. subst Unasked (sym e) (f x);
        begun = λ v q. inl (s, e);
      }

  -- with the same requests
  numbered_as : (s u : ClientSession) → u.requests ≡ s.requests → IsNumbered (Some s) → IsNumbered (Some u)
  numbered_as s u e n =
      record {
        least = subst (λ (r : Requests). 1 ≤ r.next) (sym e) n.least;
        asked = λ q f. let z = n.asked q (ap (λ (r : Requests). r.asked) (sym e) ∙ f) in (z.0, subst (λ (r : Requests). q.number < r.next) (sym e) z.1);
      }

  unasked_as : (s u : ClientSession) → u.requests ≡ s.requests → u.due ≡ s.due → Unasked (Some u) → Unasked (Some s)
  unasked_as s u e d x = (ap (λ (r : Requests). r.next) (sym e) ∙ x.0, sym d ∙ x.1)

  change_on : (run : ℕ) (st : Store) (s u : ClientSession) (c : SessionChange st s u) → AsksRight run st s u c → IsNumbered (Some s) →
      (IsNumbered (Some u)) × (Unasked (Some u) → Unasked (Some s))
  unfolding asking
  change_on run st s u (Keeps _ _ a) r n = (numbered_as s u a.requests n, unasked_as s u a.requests a.due)
  change_on run st s _ (DropsLock _ ino l) r n = (record { least = n.least; asked = n.asked }, λ x. (x.0, x.1))
  change_on run st s _ (IsReasserted _) r n = (
    record { least = n.least; asked = n.asked },
    λ x. absurd
        (let z = n.asked r.0 r.1 in let a = z.0 in let b = z.1 in let c = x.0 in omega (arith, a, b, c)),
  )
  change_on run st s _ (EndsRequest _ stamp) r n =
      (record { least = n.least; asked = λ q e. absurd (none_not_some q e) }, λ x. (x.0, x.1))
  change_on run st s _ (NewEpoch _ epoch k) r n =
      (record { least = omega arith; asked = λ q e. absurd (none_not_some q e) }, λ x. absurd (no x.1))
    where
      no : true ≡ false → ⊥
      no e = cc
  change_on run st s _ (AsksNew _ z now body cutting a c i) r n =
      let m : IsNumbered (Some z) = numbered_as s z a.requests n in
      let l = m.least in (
        record {
          least = omega (arith, l);
          asked =
              λ q e. let k : z.requests.next ≡ q.number = ap (λ (x : Request). x.number) (some_is e) in (omega (arith, k, l), omega (arith, k));
        },
        λ x. absurd (let y = x.0 in omega (arith, y, l)),
      )
  change_on run st s _ (AsksAgain _ now q e) r n = (
    record {
      least = n.least;
      asked =
          λ z f. let y = n.asked q e in let k : q.number ≡ z.number = ap (λ (x : Request). x.number) (some_is f) in
          let a = y.0 in let b = y.1 in (omega (arith, a, k), omega (arith, b, k));
    },
    λ x. (x.0, x.1),
  )

  -- A change of the first two forms.
  plain_on : (within : Bounds) (now : Stamp) (t u : Turn) (c : client.Change now t u) → within.heard ≡ got → Continues within now t u c →
      IsNumbered t.here.session → SessionOn t.here u.here.session
  unfolding passes.submit_read passes.submit_write passes.submit_command
  plain_on within now t _ (client.Says _ o p) g k n = on_same t.here n
  plain_on within now t _ (client.Operates _ os) g k n = on_same t.here n
  plain_on within now t _ (client.Answers _ os ops a) g k n = on_same t.here n
  plain_on within now t _ (client.Greets _ x) g k n = on_same t.here n
  plain_on within now t _ (client.TellsLost _ lost) g k n = on_same t.here n
  plain_on within now t _ (client.Begins _ s a b c) g k n = absurd k
  plain_on within now t _ (client.Follows _ s u e h) g k n =
      let z = change_on within.run t.here.store s u h.how k.0 (subst IsNumbered e n) in
      on_follows t.here s u e z.0 z.1 (subst (λ (x : Heard). EpochFrom x t.here (Some s) u) g k.1.epoch)
  plain_on within now t _ (client.Learns _ e u h) g k n = on_same t.here n
  plain_on within now t _ (client.Forgets _ ino p i) g k n = on_same t.here n
  plain_on within now t _ (client.Caches _ clean) g k n = on_same t.here n
  plain_on within now t _ (client.Writes _ s f p bytes x sv own m h i) g k n = on_same t.here n
  plain_on within now t _ (client.Reads _ ino p m i clean) g k n = on_same t.here n
  plain_on within now t _ (client.Submits _ s ino p d m e i y w) g k n = on_same t.here n

  -- a reduction asks nothing
  reduced_on : (t : ThirdTurn) (s : ClientSession) (d : DemandedFile) (ino : ℕ) → session t ≡ Some s → IsNumbered (session t) →
      SessionOn t.plain.here (reduced s (Some d) ino t.plain).here.session
  unfolding passes.reduce_by passes.reduce_given passes.reduce_to locks.reduce_at locks.reduce_lock
  reduced_on t s d ino e n = held (locks.lock_of s.locks d.ino)
    where
      old : IsNumbered (Some s)
      old = subst IsNumbered e n

      held : (l : Option HeldLock) → SessionOn t.plain.here (passes.reduce_by t.plain s ino (locks.reduce_lock s.locks d l)).here.session
      held None = on_same t.plain.here n
      held (Some l) =
          on_follows t.plain.here s _ e (record { least = old.least; asked = old.asked }) (λ x. (x.0, x.1)) (SameEpoch s refl refl)

  turn_on : (now : Stamp) (t u : ThirdTurn) → ThirdChange got now t u → IsNumbered (session t) → SessionOn t.plain.here (session u)
  unfolding Rattle.st_third.specs.State.say Rattle.st_third.specs.State.plainly
  turn_on now t _ (Plainly _ u c p) n = plain_on (bounds got t) now t.plain u c refl p n
  turn_on now t _ (Says _ o w) n = on_same t.plain.here n
  turn_on now t _ (Leaves _ ls k) n = on_same t.plain.here n
  turn_on now t _ (IsBeside _ b x) n = on_same t.plain.here n
  turn_on now t _ (WaitsForRoom _ m) n = on_same t.plain.here n
  turn_on now t _ (Begins _ epoch stamp e f w) n =
      record {
        numbered = record { least = omega arith; asked = λ q x. absurd (none_not_some q x) };
        epoch = λ u x. OfMessage w.message (w.is, w.from) (w.in_epoch ∙ ap (λ (z : ClientSession). z.epoch.0) (some_is x));
        unasked = λ x. subst Unasked (sym e) tt;
        begun = λ u x. inr (record { message = w.message; heard = (w.is, w.from); welcome = w.body; of_life = w.life });
      }
  turn_on now t _ (GivesBack _ s x e h) n =
      let old : IsNumbered (Some s) = subst IsNumbered e n in
      on_follows t.plain.here s _ e (record { least = old.least; asked = old.asked }) (λ y. (y.0, y.1)) (SameEpoch s refl refl)
  turn_on now t _ (Reduces _ s d ino e q i) n = reduced_on t s d ino e n

  -- What is said.

  abbrev SentIn : List ThirdOutput → Message → Type 0
  SentIn os m = Has (says.Plain (outputs.Send m)) os

  pub went_still : (a : Association) → IsNumbered a.session → Went got a [] a
  went_still a n =
      record {
        server = refl;
        life = omega arith;
        numbered = n;
        sent = λ m h q. absurd h;
        epoch = λ u e. OfSession u e refl;
        calm = λ x m h q l. absurd h;
        unasked = λ x e. x;
        begun = λ u e. inl ((u, e), refl);
      }

  epoch_then : (a b : Association) (os : List ThirdOutput) (epoch : ℕ) → Went got a os b → EpochOf got b epoch → EpochOf got a epoch
  epoch_then a b os epoch w (OfSession s e q) = subst (EpochOf got a) q (w.epoch s e)
  epoch_then a b os epoch w (OfMessage m h q) = OfMessage m (h.0, h.1 ∙ ap (λ (z : ServerId). server_node z) w.server) q

  begun_then : (a b : Association) (os : List ThirdOutput) (life : ℕ) → Went got a os b → HasBegunBy got b life → HasBegunBy got a life
  begun_then a b os life w (inl z) = at (w.begun z.0.0 z.0.1)
    where
      at : HasBegunBy got a b.life.0 → HasBegunBy got a life
      at (inl y) = inl (y.0, z.1 ∙ y.1)
      at (inr y) = inr (record { message = y.message; heard = y.heard; welcome = y.welcome; of_life = y.of_life ∙ sym z.1 })
  begun_then a b os life w (inr z) =
      inr (record {
        message = z.message;
        heard = (z.heard.0, z.heard.1 ∙ ap (λ (x : ServerId). server_node x) w.server);
        welcome = z.welcome;
        of_life = z.of_life;
      })

  -- one after another
  pub went_then : (a b c : Association) (os ps : List ThirdOutput) → Went got a os b → Went got b ps c → Went got a (os ++ ps) c
  went_then a b c os ps p q =
      let x = p.life in
      let y = q.life in
      record {
        server = q.server ∙ p.server;
        life = omega (arith, x, y);
        numbered = q.numbered;
        sent = λ m h t. sent m t (has_append os ps (says.Plain (outputs.Send m)) h);
        epoch = λ u e. epoch_then a b os u.epoch.0 p (q.epoch u e);
        calm = λ z m h t l. calm z m t l (has_append os ps (says.Plain (outputs.Send m)) h);
        unasked = λ z e. p.unasked (q.unasked z (omega (arith, e, x, y))) (omega (arith, e, x, y));
        begun = λ u e. begun_then a b os c.life.0 p (q.begun u e);
      }
    where
      to_b : (m : Message) → m.header.to ≡ server_node a.server → m.header.to ≡ server_node b.server
      to_b m t = t ∙ ap (λ (z : ServerId). server_node z) (sym p.server)

      sent : (m : Message) → m.header.to ≡ server_node a.server → (SentIn os m) ⊎ (SentIn ps m) → SentWell got a c m
      sent m t (inl h) =
          let z = p.sent m h t in let u = z.until in let y = q.life in
          record { since = z.since; until = omega (arith, u, y); epoch = z.epoch; begun = z.begun }
      sent m t (inr h) =
          let z = q.sent m h (to_b m t) in let u = z.since in let x = p.life in
          record { since = omega (arith, u, x); until = z.until; epoch = from z.epoch; begun = begun_in z.begun }
        where
          begun_in : (m.body ≡ bodies.Hello) ⊎ (HasBegunBy got b m.header.life) → (m.body ≡ bodies.Hello) ⊎ (HasBegunBy got a m.header.life)
          begun_in (inl e) = inl e
          begun_in (inr z) = inr (begun_then a b os m.header.life p z)

          from : (m.body ≡ bodies.Hello) ⊎ (EpochOf got b m.header.epoch) → (m.body ≡ bodies.Hello) ⊎ (EpochOf got a m.header.epoch)
          from (inl e) = inl e
          from (inr e) = inr (epoch_then a b os m.header.epoch p e)

      calm : Unasked c.session → (m : Message) → m.header.to ≡ server_node a.server → m.header.life ≡ c.life.0 → (SentIn os m) ⊎ (SentIn ps m) → IsCalm m.body
      calm z m t l (inr h) = q.calm z m h (to_b m t) l
      calm z m t l (inl h) =
          let u = (p.sent m h t).until in
          let y = q.life in
          let e : b.life.0 ≡ c.life.0 = omega (arith, u, y, l) in
          p.calm (q.unasked z (sym e)) m h t (l ∙ sym e)

  -- a session that changes by itself, in the same life
  went_on : (a b : Association) → b.server ≡ a.server → b.life ≡ a.life → SessionOn a b.session → Went got a [] b
  went_on a b s l o =
      let e : b.life.0 ≡ a.life.0 = ap (λ (x : Life). x.0) l in
      record {
        server = s;
        life = omega (arith, e);
        numbered = o.numbered;
        sent = λ m h q. absurd h;
        epoch = o.epoch;
        calm = λ x m h q k. absurd h;
        unasked = λ x q. o.unasked x;
        begun = λ u q. at (o.begun u q);
      }
    where
      at : ((s : ClientSession) × (a.session ≡ Some s)) ⊎ (IsWelcomed got a.server a.life.0) → HasBegunBy got a b.life.0
      at (inl z) = inl (z, ap (λ (x : Life). x.0) l)
      at (inr z) = inr (subst (IsWelcomed got a.server) (sym (ap (λ (x : Life). x.0) l)) z)

  -- a life that ended leaves no session
  pub went_over : (a b : Association) → b.server ≡ a.server → b.life.0 ≡ a.life.0 + 1 → b.session ≡ None → Went got a [] b
  went_over a b s l e =
      record {
        server = s;
        life = omega (arith, l);
        numbered = subst IsNumbered (sym e) tt;
        sent = λ m h q. absurd h;
        epoch = λ u q. absurd (none_not_some u (sym e ∙ q));
        calm = λ x m h q k. absurd h;
        unasked = λ x q. absurd (omega (arith, q, l));
        begun = λ u q. absurd (none_not_some u (sym e ∙ q));
      }

  -- One word that is right at a turn.
  module _ (t : ThirdTurn) (n : IsNumbered (session t)) where
    abbrev pub A : Association
    A = t.plain.here

    message : (m : Message) → Sends t.plain m → SentWell got A A m
    message _ (Greets stamp) = record { since = omega arith; until = omega arith; epoch = inl refl; begun = inl refl }
    message _ (Sees s ino g e) = record { since = omega arith; until = omega arith; epoch = inr (OfSession s e refl); begun = inr (inl ((s, e), refl)) }
    message _ (Asks s q stamp e f) =
        record { since = omega arith; until = omega arith; epoch = inr (OfSession s e refl); begun = inr (inl ((s, e), refl)) }

    calm_message : (m : Message) → Sends t.plain m → Unasked (session t) → IsCalm m.body
    calm_message _ (Greets stamp) x = tt
    calm_message _ (Sees s ino g e) x = tt
    calm_message _ (Asks s q stamp e f) x =
        let old : IsNumbered (Some s) = subst IsNumbered e n in
        let y : Unasked (Some s) = subst Unasked e x in
        let z = old.asked q f in
        let a = z.0 in let b = z.1 in let c = y.0 in absurd (omega (arith, a, b, c))

    pub went_words : (os : List ThirdOutput) → ((o : ThirdOutput) → Has o os → WordRight t.plain o) → Went got A os A
    went_words os right =
        record {
          server = refl;
          life = omega arith;
          numbered = n;
          sent = λ m h q. message m (right (says.Plain (outputs.Send m)) h);
          epoch = λ u e. OfSession u e refl;
          calm = λ x m h q l. calm_message m (right (says.Plain (outputs.Send m)) h) x;
          unasked = λ x e. x;
          begun = λ u e. inl ((u, e), refl);
        }

  -- Leaves that are answered `left`: each of these words after those before it.
  abbrev pub LeftWord : List Leave → Association → List ThirdOutput → ThirdOutput → Type 0
  LeftWord ls a before (says.Left op) = AtLeft got ls a before op
  LeftWord ls a before o = Unit {0}

  abbrev pub LeftsAt : List Leave → Association → List ThirdOutput → List ThirdOutput → Type 0
  LeftsAt ls a before [] = Unit {0}
  LeftsAt ls a before (o ∷ os) = (LeftWord ls a before o) × LeftsAt ls a (before ++ o ∷ []) os

  -- the words of one turn
  lefts_words : (t : ThirdTurn) → IsNumbered (session t) → (before os : List ThirdOutput) →
      ((o : ThirdOutput) → Has o before → WordRight t.plain o) → ((o : ThirdOutput) → Has o os → WordRight t.plain o) →
      ((op : ℕ) → Has (says.Left op) os → HasLeave t op) → LeftsAt t.leaves t.plain.here before os
  lefts_words t n before [] f g h = tt
  lefts_words t n before (o ∷ os) f g h =
      (word o (inl refl), lefts_words t n (before ++ o ∷ []) os (λ x i. more x (has_append before (o ∷ []) x i)) (λ x i. g x (inr i)) (λ op i. h op (inr i)))
    where
      more : (x : ThirdOutput) → (Has x before) ⊎ (Has x (o ∷ [])) → WordRight t.plain x
      more x (inl i) = f x i
      more x (inr (inl e)) = g x (inl e)
      more x (inr (inr i)) = absurd i

      unasked : (x : Option ClientSession) → is_unasked x ≡ true → (Unasked x) × ((s : ClientSession) × (x ≡ Some s))
      unasked None e = cc e
      unasked (Some s) e = let z = and_true (s.requests.next == 1) (not s.due) e in ((eqb-true s.requests.next 1 z.0, not_true s.due z.1), (s, refl))

      left : (op : ℕ) → HasLeave t op → AtLeft got t.leaves t.plain.here before op
      left op l =
          let u = unasked (session t) l.unasked in
          record {
            middle = t.plain.here;
            went = went_words t n before f;
            unasked = u.0;
            session = u.1.0;
            is = u.1.1;
            leave = l.leave;
            pending = inl l.pending;
            number = l.number;
            of_server = eqb-true l.leave.server.0 t.plain.here.server.0 l.of_server;
          }

      word : (x : ThirdOutput) → Has x (o ∷ os) → LeftWord t.leaves t.plain.here before x
      word (says.Left op) i = left op (h op i)
      word (says.Plain x) i = tt
      word (says.Unsynced op ino) i = tt
      word (says.Ended s life end) i = tt

  -- one turn after another
  pub at_left_then : (ls ms : List Leave) (a b : Association) (os before : List ThirdOutput) (op : ℕ) → ArePending got ls ms → Went got a os b →
      AtLeft got ms b before op → AtLeft got ls a (os ++ before) op
  at_left_then ls ms a b os before op k w x =
      record {
        middle = x.middle;
        went = went_then a b x.middle os before w x.went;
        unasked = x.unasked;
        session = x.session;
        is = x.is;
        leave = x.leave;
        pending = pending x.pending;
        number = x.number;
        of_server = x.of_server ∙ ap (λ (z : ServerId). z.0) w.server;
      }
    where
      pending : (Has x.leave ms) ⊎ (got ≡ Some (Rattle.st_laws_third.specs.Changes.HeardLeave x.leave)) →
          (Has x.leave ls) ⊎ (got ≡ Some (Rattle.st_laws_third.specs.Changes.HeardLeave x.leave))
      pending (inl h) = k x.leave h
      pending (inr e) = inr e

  lefts_then : (ls ms : List Leave) (a b : Association) (os before ps : List ThirdOutput) → ArePending got ls ms → Went got a os b → LeftsAt ms b before ps →
      LeftsAt ls a (os ++ before) ps
  lefts_then ls ms a b os before [] k w l = tt
  lefts_then ls ms a b os before (p ∷ ps) k w l =
      (word p l.0, subst (λ z. LeftsAt ls a z ps) (sym (append_assoc os before (p ∷ []))) (lefts_then ls ms a b os (before ++ p ∷ []) ps k w l.1))
    where
      word : (p : ThirdOutput) → LeftWord ms b before p → LeftWord ls a (os ++ before) p
      word (says.Left op) x = at_left_then ls ms a b os before op k w x
      word (says.Plain x) y = tt
      word (says.Unsynced op ino) y = tt
      word (says.Ended s life end) y = tt

  lefts_both : (ls : List Leave) (a : Association) (before os ps : List ThirdOutput) → LeftsAt ls a before os → LeftsAt ls a (before ++ os) ps →
      LeftsAt ls a before (os ++ ps)
  lefts_both ls a before [] ps l m = subst (λ z. LeftsAt ls a z ps) (append-nil before) m
  lefts_both ls a before (o ∷ os) ps l m =
      (l.0, lefts_both ls a (before ++ o ∷ []) os ps l.1 (subst (λ z. LeftsAt ls a z ps) (sym (append_assoc before (o ∷ []) os)) m))

  -- A turn.
  pub record Goes (t u : ThirdTurn) : Type 0 where
    pub id : u.plain.id ≡ t.plain.id
    pub fit : Fit t.plain.here → Fit u.plain.here
    pub leaves : ArePending got t.leaves u.leaves
    pub more : List ThirdOutput
    pub said : all_said u ≡ all_said t ++ more
    pub sent : (m : Message) → Has (says.Plain (outputs.Send m)) more → (m.header.from ≡ t.plain.id.0) × (m.header.to ≡ server_node t.plain.here.server)
    pub went : Went got t.plain.here more u.plain.here
    pub lefts : LeftsAt t.leaves t.plain.here [] more

  pub same_leaves : (ls : List Leave) → ArePending got ls ls
  same_leaves ls l h = inl h

  pub goes_still : (t : ThirdTurn) → IsNumbered (session t) → Goes t t
  goes_still t n =
      record {
        id = refl;
        fit = λ f. f;
        leaves = same_leaves t.leaves;
        more = [];
        said = sym (append-nil (all_said t));
        sent = λ m h. absurd h;
        went = went_still t.plain.here n;
        lefts = tt;
      }

  pub goes_then : (t u v : ThirdTurn) → Goes t u → Goes u v → Goes t v
  goes_then t u v p q =
      record {
        id = q.id ∙ p.id;
        fit = λ f. q.fit (p.fit f);
        leaves = λ l h. leaves l (q.leaves l h);
        more = p.more ++ q.more;
        said = q.said ∙ ap (λ z. z ++ q.more) p.said ∙ append_assoc (all_said t) p.more q.more;
        sent = λ m h. sent m (has_append p.more q.more (says.Plain (outputs.Send m)) h);
        went = went_then t.plain.here u.plain.here v.plain.here p.more q.more p.went q.went;
        lefts = lefts_both t.leaves t.plain.here [] p.more q.more p.lefts
            (subst (λ z. LeftsAt t.leaves t.plain.here z q.more) (append-nil p.more)
            (lefts_then t.leaves u.leaves t.plain.here u.plain.here p.more [] q.more p.leaves p.went q.lefts));
      }
    where
      leaves : (l : Leave) → (Has l u.leaves) ⊎ (got ≡ Some (Rattle.st_laws_third.specs.Changes.HeardLeave l)) →
          (Has l t.leaves) ⊎ (got ≡ Some (Rattle.st_laws_third.specs.Changes.HeardLeave l))
      leaves l (inl h) = p.leaves l h
      leaves l (inr e) = inr e

      sent : (m : Message) → (SentIn p.more m) ⊎ (SentIn q.more m) → (m.header.from ≡ t.plain.id.0) × (m.header.to ≡ server_node t.plain.here.server)
      sent m (inl h) = p.sent m h
      sent m (inr h) = let z = q.sent m h in (z.0 ∙ ap (λ (x : ClientId). x.0) p.id, z.1 ∙ ap (λ (x : ServerId). server_node x) p.went.server)

  -- words at a turn, and then a change of its session
  goes_by : (t u : ThirdTurn) → u.plain.id ≡ t.plain.id → (Fit t.plain.here → Fit u.plain.here) → ArePending got t.leaves u.leaves → IsNumbered (session t) →
      SaysMore (bounds got t) t u → Went got t.plain.here [] u.plain.here → Goes t u
  goes_by t u i f l n w o =
      record {
        id = i;
        fit = f;
        leaves = l;
        more = w.more;
        said = w.said;
        sent = λ m h. header m (w.right (says.Plain (outputs.Send m)) h);
        went = subst (λ z. Went got t.plain.here z u.plain.here) (append-nil w.more)
            (went_then t.plain.here t.plain.here u.plain.here w.more [] (went_words t n w.more w.right) o);
        lefts = lefts_words t n [] w.more (λ x h. absurd h) w.right w.left;
      }
    where
      header : (m : Message) → Sends t.plain m → (m.header.from ≡ t.plain.id.0) × (m.header.to ≡ server_node t.plain.here.server)
      header _ (Greets stamp) = (refl, refl)
      header _ (Sees s ino g e) = (refl, refl)
      header _ (Asks s q stamp e x) = (refl, refl)

  -- the leaves and the number of the client after a change
  change_leaves : (now : Stamp) (t u : ThirdTurn) → ThirdChange got now t u → ArePending got t.leaves u.leaves
  unfolding Rattle.st_third.specs.State.say Rattle.st_third.specs.State.plainly
  change_leaves now t _ (Plainly _ u c p) = same_leaves t.leaves
  change_leaves now t _ (Says _ o w) = same_leaves t.leaves
  change_leaves now t _ (Leaves _ ls k) = k
  change_leaves now t _ (IsBeside _ b x) = same_leaves t.leaves
  change_leaves now t _ (WaitsForRoom _ m) = same_leaves t.leaves
  change_leaves now t _ (Begins _ epoch stamp e f w) = same_leaves t.leaves
  change_leaves now t _ (GivesBack _ s x e h) = same_leaves t.leaves
  change_leaves now t _ (Reduces _ s d ino e q i) = same_leaves t.leaves

  reduced_id : (t : Turn) (s : ClientSession) (d : DemandedFile) (ino : ℕ) → (reduced s (Some d) ino t).id ≡ t.id
  unfolding passes.reduce_by passes.reduce_given passes.reduce_to locks.reduce_at locks.reduce_lock
  reduced_id t s d ino = held (locks.lock_of s.locks d.ino)
    where
      held : (o : Option HeldLock) → (passes.reduce_by t s ino (locks.reduce_lock s.locks d o)).id ≡ t.id
      held None = refl
      held (Some l) = refl

  change_id : (now : Stamp) (t u : ThirdTurn) → ThirdChange got now t u → u.plain.id ≡ t.plain.id
  unfolding Rattle.st_third.specs.State.say Rattle.st_third.specs.State.plainly
  change_id now t _ (Plainly _ u c p) = sym (change_next now t.plain u c).id
  change_id now t _ (Says _ o w) = refl
  change_id now t _ (Leaves _ ls k) = refl
  change_id now t _ (IsBeside _ b x) = refl
  change_id now t _ (WaitsForRoom _ m) = refl
  change_id now t _ (Begins _ epoch stamp e f w) = refl
  change_id now t _ (GivesBack _ s x e h) = refl
  change_id now t _ (Reduces _ s d ino e q i) = reduced_id t.plain s d ino

  change_goes : (now : Stamp) (t u : ThirdTurn) → ThirdChange got now t u → IsNumbered (session t) → Goes t u
  change_goes now t u c n =
      let k = change_third now t u c in
      goes_by t u (change_id now t u c) k.fit (change_leaves now t u c) n (change_says now t u c)
      (went_on t.plain.here u.plain.here (sym k.server) (sym k.life) (turn_on now t u c n))

  pub changes_go : (now : Stamp) (t u : ThirdTurn) → ThirdChanges got now t u → IsNumbered (session t) → Goes t u
  changes_go now t _ (Still _) n = goes_still t n
  changes_go now t v (Then _ u _ c cs) n =
      let g = change_goes now t u c n in goes_then t u v g (changes_go now u v cs g.went.numbered)

  -- A rule at one server.
  module _ (now : Stamp) where
    -- a life that ended leaves nothing
    emptied_goes : (t : ThirdTurn) → Goes t (leaving.emptied t)
    unfolding plainly
    emptied_goes t =
        record {
          id = refl;
          fit = λ f. record { mapped = λ ino p d e. absurd (none_not_some d e); fresh = tt };
          leaves = same_leaves t.leaves;
          more = [];
          said = sym (append-nil (all_said t));
          sent = λ m h. absurd h;
          went = went_over t.plain.here _ refl refl refl;
          lefts = tt;
        }

    -- a word that is neither a message nor `left`
    abbrev IsNeither : ThirdOutput → Type 0
    IsNeither (says.Plain (outputs.Send m)) = ⊥
    IsNeither (says.Left op) = ⊥
    IsNeither o = Unit {0}

    word_goes : (t u : ThirdTurn) (o : ThirdOutput) → IsNumbered (session t) → u.plain.id ≡ t.plain.id → (Fit t.plain.here → Fit u.plain.here) →
        u.leaves ≡ t.leaves → u.plain.here.server ≡ t.plain.here.server → u.plain.here.life ≡ t.plain.here.life → u.plain.here.session ≡ t.plain.here.session →
        all_said u ≡ all_said t ++ o ∷ [] → IsNeither o → Goes t u
    word_goes t u o n i f l s k e w q =
        record {
          id = i;
          fit = f;
          leaves = λ x h. inl (subst (Has x) l h);
          more = o ∷ [];
          said = w;
          sent = λ m h. absurd (no m h);
          went = subst (λ z. Went got t.plain.here z u.plain.here) refl (went_then t.plain.here u.plain.here u.plain.here [] (o ∷ []) on quiet);
          lefts = (left o q, tt);
        }
      where
        no : (m : Message) → Has (says.Plain (outputs.Send m)) (o ∷ []) → ⊥
        no m (inl e) = subst IsNeither (sym e) q
        no m (inr h) = h

        left : (o : ThirdOutput) → IsNeither o → LeftWord t.leaves t.plain.here [] o
        left (says.Left op) x = absurd x
        left (says.Plain x) y = tt
        left (says.Unsynced op ino) y = tt
        left (says.Ended r life end) y = tt

        on : Went got t.plain.here [] u.plain.here
        on = went_on t.plain.here u.plain.here s k (subst (SessionOn t.plain.here) (sym e) (on_same t.plain.here n))

        quiet : Went got u.plain.here (o ∷ []) u.plain.here
        quiet =
            record {
              server = refl;
              life = omega arith;
              numbered = subst IsNumbered (sym e) n;
              sent = λ m h r. absurd (no m h);
              epoch = λ v r. OfSession v r refl;
              calm = λ x m h r y. absurd (no m h);
              unasked = λ x r. x;
              begun = λ v r. inl ((v, r), refl);
            }

    noted_said : (t : ThirdTurn) → all_said (with_plain (leaving.noted_lost t.plain) t)
        ≡ all_said t ++ says.Plain (outputs.Note (notes.Lost t.plain.here.server t.plain.here.life)) ∷ []
    noted_said t = ap (λ os. t.said ++ os) (Words.map-append plain_output t.plain.out _) ∙ sym (append_assoc t.said (map plain_output t.plain.out) _)

    pub loses_go : (t u : ThirdTurn) → ThirdLoses now t u → got ≡ None → IsNumbered (session t) → Goes t u
    loses_go t _ (Lasts e) q n = goes_still t n
    loses_go t _ (IsLost s v e i cs) q n =
        let x : ThirdTurn = with_plain (leaving.noted_lost t.plain) t in
        let noted : Goes t x = word_goes t x _ n refl (λ f. record { mapped = f.mapped; fresh = f.fresh }) refl refl refl refl (noted_said t) tt in
        let rest : Goes x v = changes_go now x v (subst (λ (g : Heard). ThirdChanges g now x v) (sym q) cs) noted.went.numbered in
        goes_then t x _ noted (goes_then x v _ rest (emptied_goes v))

    leaves_go : (t u : ThirdTurn) → ThirdLeaves now t u → IsNumbered (session t) → Goes t u
    unfolding Rattle.st_third.specs.State.say
    leaves_go t _ Stays n = goes_still t n
    leaves_go t _ (HasLeft s e) n =
        goes_then t _ _
        (word_goes t (Rattle.st_third.specs.State.say t (says.Ended (here t) t.plain.here.life _)) _ n refl (λ f. f) refl refl refl refl
        (append-nil (all_said t ++ says.Ended (here t) t.plain.here.life _ ∷ [])) tt)
        (emptied_goes _)

    pub finishes_go : (number : ℕ) (ok : Bool) (t u : ThirdTurn) → ThirdFinishes now number ok t u → got ≡ heard_end number ok → IsNumbered (session t) →
        Goes t u
    unfolding plain.hardened
    finishes_go number ok t u f q n =
        let m : Turn = f.middle in
        let x : ThirdTurn = with_plain m t in
        let k = ends_fit now number ok t.plain m f.ends in
        let e : m.here.session ≡ t.plain.here.session = sym (same_session t.plain.config now t refl number ok m f.ends) in
        let on : Went got t.plain.here [] m.here =
        went_on t.plain.here m.here (sym k.server) (sym k.life) (subst (SessionOn t.plain.here) (sym e) (on_same t.plain.here n)) in
        let ended : Goes t x = record {
          id = sym k.id;
          fit = k.fit;
          leaves = same_leaves t.leaves;
          more = [];
          said = ap (λ os. t.said ++ map plain_output os) (quiet m f.ends) ∙ sym (append-nil (all_said t));
          sent = λ y h. absurd h;
          went = on;
          lefts = tt;
        } in
        goes_then t x u ended (changes_go now x u (subst (λ (g : Heard). ThirdChanges g now x u) (sym q) f.rest) ended.went.numbered)
      where
        quiet : (m : Turn) → Ends number ok t.plain m → m.out ≡ t.plain.out
        quiet _ Unknown = refl
        quiet _ (Passes x e o) = refl
        quiet _ (Hardens x v e o w r) = refl
        quiet _ (Fails x v e o w r) = refl

    pub passes_go : (t u : ThirdTurn) → ThirdPasses now t u → got ≡ None → IsNumbered (session t) → Goes t u
    passes_go t u p q n =
        let a : Goes t p.written = changes_go now t p.written (subst (λ (g : Heard). ThirdChanges g now t p.written) (sym q) p.works) n in
        let b : Goes p.written p.left = leaves_go p.written p.left p.leaves a.went.numbered in
        let ab : Goes t p.left = goes_then t p.written p.left a b in
        goes_then t p.left u ab (changes_go now p.left u (subst (λ (g : Heard). ThirdChanges g now p.left u) (sym q) p.asks) ab.went.numbered)
