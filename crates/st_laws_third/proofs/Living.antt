-- What lives on of a client's sessions in a step, and which messages the step sends.
use Rattle.st_lemmas.proofs.Words
use Words.{◌≡◌, ◌⊎◌, ◌==◌, ℕ, suc, Bool, true, false, List, [], ◌∷◌, ◌++◌, Option, Some, None, length, not, refl, sym, ap, ◌∙◌, subst, inl, inr, arith, append_assoc}
use Words.{eqb-true, if◌then◌else◌, map, AppAnswer, Body, ClientId, ClientInput, Config, DemandedFile, GrantNo, Header, HeldLock, Life, Message, Mode, ServerId, Stamp}
use Words.answers
use Words.bodies
use Words.modes
use Words.notes
use Words.outputs
use Words.Client as plain
use Words.ClientLocks as locks
use Words.ClientPasses as passes
use Words.ClientState.{Association, ClientSession, Turn, is_at}
use Words.Keys.{server_node}
use Words.Lengths.{nothing_after}
use Words.Lists.{Has}
use Words.Lookups.{some_is}
use Words.Members.{has_left, has_right}
use Words.Tables.{found_at, has_append, has_filter}
use Words.Truth.{server_is}
use Rattle.st_lemmas.proofs.Puts.{has_put}
use Rattle.st_rules.specs.declared.client.ClientInput.TheVariants as inputs
use Rattle.st_rules.specs.ClientReplies.{new_session}
use Rattle.st_laws_steps.specs.Client.Client as client
use Rattle.st_laws_steps.specs.Client.Losses.{Ends, Unknown, Passes, Hardens, Fails, Fit}
use Rattle.st_laws_steps.specs.Lives.Lives.{Pairwise}
use Rattle.st_laws_steps.proofs.Client.Nexts.{Next, change_next}
use Rattle.st_laws_steps.proofs.Client.Stepping.{ends_fit, pairs_same, pairs_then}
use Rattle.st_third.specs.declared.event.ThirdInput.{ThirdInput}
use Rattle.st_third.specs.declared.event.ThirdInput.TheVariants as third
use Rattle.st_third.specs.declared.limits.Limits.{Limits}
use Rattle.st_third.specs.declared.output.ThirdOutput.{ThirdOutput}
use Rattle.st_third.specs.declared.output.ThirdOutput.TheVariants as says
use Rattle.st_third.specs.Client as client_rules
use Rattle.st_third.specs.GiveBack.{demanded}
use Rattle.st_third.specs.Leave as leaving
use Rattle.st_third.specs.Limits.{limited_session}
use Rattle.st_third.specs.Replies.{receive, receive_at}
use Rattle.st_third.specs.State.{Beside, ThirdClient, ThirdClientTurn, ThirdTurn, all_said, at_each, at_these, enter, leave, only_at, plain_output, plainly, session, third_turn, with_none}
use Rattle.st_third.specs.UsedOnce.{reduced}
use Rattle.st_laws_third.specs.Changes.{Asks, Begins, Bounds, Continues, EpochFrom, GivesBack, GoesOnBy, Greets, HasLeft, Heard, HeardMessage, Hears, IsBeside, IsDemanded, IsGranted, IsLost, Lasts, Leaves}
use Rattle.st_laws_third.specs.Changes.{LockFrom, NewerEpoch, Plainly, Reduces, SameEpoch, Says, Sees, Sends, Stays, Still, Then, ThirdChange, ThirdChanges, ThirdFinishes, ThirdLeaves}
use Rattle.st_laws_third.specs.Changes.{ThirdLoses, ThirdPasses, WaitsForRoom, WasHeld, bounds, heard_end, locks_in, with_plain}
use Rattle.st_laws_third.specs.Living.{ClientsLiveOn, EndIsTold, HasSession, IsOf, IsOfOne, LastsUnlessTold, LivesOn, heard_in}
use Rattle.st_laws_third.specs.Pairs.{IsPaired}
use Rattle.st_laws_third.proofs.Chains.{same_locks}
use Rattle.st_laws_third.proofs.Facts.{SaysMore, change_says, change_third}
use Rattle.st_laws_third.proofs.Finishing.{finishes, takes}
use Rattle.st_laws_third.proofs.Leaving.{loses, takes_leave}
use Rattle.st_laws_third.proofs.Pairs as paired
use Rattle.st_laws_third.proofs.Passing.{passes_change}
use Rattle.st_laws_third.proofs.Receiving.{receives}
use Rattle.st_laws_third.proofs.Stepping.{each_goes, loses_it, stepped_fit, takes_input}

-- What was heard at an association that lived on, was heard at the one from before.
hears_before : (got : Heard) (a b : Association) (epoch : ℕ) (body : Body) → b.server ≡ a.server → b.life.0 ≡ a.life.0 → Hears got b epoch body →
    Hears got a epoch body
hears_before got a b epoch body p q h =
    record {
      message = h.message;
      is = h.is;
      from = h.from ∙ ap (λ (z : ServerId). server_node z) p;
      life = h.life ∙ q;
      in_epoch = h.in_epoch;
      body = h.body;
    }

-- an association with the same server, life and session
pub lives_kept : (got : Heard) (a b : Association) → b.server ≡ a.server → b.life ≡ a.life → b.session ≡ a.session → LivesOn got a b
lives_kept got a b p q r =
    let l : b.life.0 ≡ a.life.0 = ap (λ (x : Life). x.0) q in
    record {
      server = p;
      life = omega (arith, l);
      stays = λ e x. (x.0, r ∙ x.1);
      heard = λ e u f. record
          { locks = λ l h. WasHeld l (subst (λ o. Has l (locks_in o)) (sym (sym r ∙ f)) h) refl refl; epoch = SameEpoch u (sym r ∙ f) refl };
    }

pub lives_same : (got : Heard) (a : Association) → LivesOn got a a
lives_same got a = lives_kept got a a refl refl refl

module _ (got : Heard) (a b : Association) (p : LivesOn got a b) (same : b.life.0 ≡ a.life.0) where
  lock_before : (v : ClientSession) → b.session ≡ Some v → (l k : HeldLock) → k.ino ≡ l.ino → k.g ≡ l.g → Has k v.locks.rows →
      LockFrom got a (locks_in a.session) l
  lock_before v e l k i g h = by ((p.heard same v e).locks k h)
    where
      by : LockFrom got a (locks_in a.session) k → LockFrom got a (locks_in a.session) l
      by (WasHeld j m x y) = WasHeld j m (x ∙ i) (y ∙ g)
      by (IsGranted epoch mode x) = IsGranted epoch mode
          (subst (λ n. Hears got a epoch (bodies.Granted n l.g mode)) i (subst (λ (z : GrantNo). Hears got a epoch (bodies.Granted k.ino z mode)) g x))
      by (IsDemanded epoch to x) = IsDemanded epoch to
          (subst (λ n. Hears got a epoch (bodies.Demand n l.g to)) i (subst (λ (z : GrantNo). Hears got a epoch (bodies.Demand k.ino z to)) g x))

  lock_then : (o : Option ClientSession) → b.session ≡ o → (l : HeldLock) → LockFrom got b (locks_in o) l → LockFrom got a (locks_in a.session) l
  lock_then None e l (WasHeld k h i g) = absurd h
  lock_then (Some v) e l (WasHeld k h i g) = lock_before v e l k i g h
  lock_then o e l (IsGranted epoch mode x) = IsGranted epoch mode (hears_before got a b epoch _ p.server same x)
  lock_then o e l (IsDemanded epoch to x) = IsDemanded epoch to (hears_before got a b epoch _ p.server same x)

  epoch_then : (u : ClientSession) → EpochFrom got b b.session u → EpochFrom got a a.session u
  epoch_then u (SameEpoch v e q) = by (p.heard same v e).epoch
    where
      by : EpochFrom got a a.session v → EpochFrom got a a.session u
      by (SameEpoch s f r) = SameEpoch s f (q ∙ r)
      by (NewerEpoch body x) = NewerEpoch body (subst (λ n. Hears got a n body) (sym (ap (λ (z : Words.Epoch). z.0) q)) x)
  epoch_then u (NewerEpoch body x) = NewerEpoch body (hears_before got a b u.epoch.0 body p.server same x)

  goes_then : (u : ClientSession) → GoesOnBy got b b.session u → GoesOnBy got a a.session u
  goes_then u g = record { locks = λ l h. lock_then b.session refl l (g.locks l h); epoch = epoch_then u g.epoch }

pub lives_then : (got : Heard) (a b c : Association) → LivesOn got a b → LivesOn got b c → LivesOn got a c
lives_then got a b c p q =
    let x = p.life in
    let y = q.life in
    record {
      server = q.server ∙ p.server;
      life = omega (arith, x, y);
      stays = λ e s. q.stays (omega (arith, e, x, y)) (p.stays (omega (arith, e, x, y)) s);
      heard = λ e u f. goes_then got a b p (omega (arith, e, x, y)) u (q.heard (omega (arith, e, x, y)) u f);
    }

-- no message is heard
abbrev pub IsUnspoken : Heard → Type 0
IsUnspoken got = (m : Message) → got ≡ Some (HeardMessage m) → ⊥

pub nothing_heard : IsUnspoken None
nothing_heard m e = cc

pub end_heard : (number : ℕ) (ok : Bool) → IsUnspoken (heard_end number ok)
end_heard number true m e = cc
end_heard number false m e = cc

-- where no message is heard, anything may be
lives_wider : (less got : Heard) → IsUnspoken less → (a b : Association) → LivesOn less a b → LivesOn got a b
lives_wider less got none a b p = record { server = p.server; life = p.life; stays = p.stays; heard = λ e u f. wider u (p.heard e u f) }
  where
    lock : (l : HeldLock) → LockFrom less a (locks_in a.session) l → LockFrom got a (locks_in a.session) l
    lock l (WasHeld k h i g) = WasHeld k h i g
    lock l (IsGranted epoch mode x) = absurd (none x.message x.is)
    lock l (IsDemanded epoch to x) = absurd (none x.message x.is)

    epoch : (u : ClientSession) → EpochFrom less a a.session u → EpochFrom got a a.session u
    epoch u (SameEpoch s e q) = SameEpoch s e q
    epoch u (NewerEpoch body x) = absurd (none x.message x.is)

    wider : (u : ClientSession) → GoesOnBy less a a.session u → GoesOnBy got a a.session u
    wider u g = record { locks = λ l h. lock l (g.locks l h); epoch = epoch u g.epoch }

-- a message of a client stays one
pub of_then : (got : Heard) (id : ClientId) (a b c : Association) (m : Message) → LivesOn got b c → IsOf id a b m → IsOf id a c m
of_then got id a b c m p i =
    let x = p.life in
    let y = i.life in
    record {
      from = i.from;
      to = i.to ∙ ap (λ (z : ServerId). server_node z) (sym p.server);
      since = i.since;
      life = omega (arith, x, y);
      asks = λ e. by (omega (arith, e, x, y)) (i.asks (omega (arith, e, x, y)));
    }
  where
    by : c.life.0 ≡ b.life.0 → (m.body ≡ bodies.Hello) ⊎ HasSession b → (m.body ≡ bodies.Hello) ⊎ HasSession c
    by e (inl h) = inl h
    by e (inr s) = inr (p.stays e s)

-- and was one before
of_before : (got : Heard) (id : ClientId) (a b c : Association) (m : Message) → LivesOn got a b → IsOf id b c m → IsOf id a c m
of_before got id a b c m p i =
    let x = p.life in
    let y = i.since in
    record { from = i.from; to = i.to; since = omega (arith, x, y); life = i.life; asks = i.asks }

-- an end that some outputs tell, more outputs tell
told_left : (a : Association) (xs ys : List ThirdOutput) → EndIsTold a xs → EndIsTold a (xs ++ ys)
told_left a xs ys (inl h) = inl (has_left xs ys _ h)
told_left a xs ys (inr (end, h)) = inr (end, has_left xs ys _ h)

told_right : (a : Association) (xs ys : List ThirdOutput) → EndIsTold a ys → EndIsTold a (xs ++ ys)
told_right a xs ys (inl h) = inl (has_right xs ys _ h)
told_right a xs ys (inr (end, h)) = inr (end, has_right xs ys _ h)

-- of the same life at the same server
told_same : (a b : Association) (os : List ThirdOutput) → b.server ≡ a.server → b.life ≡ a.life → EndIsTold b os → EndIsTold a os
told_same a b os p q (inl h) = inl
    (subst (λ (l : Life). Has (says.Plain (outputs.Note (notes.Lost a.server l))) os) q
    (subst (λ (s : ServerId). Has (says.Plain (outputs.Note (notes.Lost s b.life))) os) p h))
told_same a b os p q (inr (end, h)) = inr
    (end, subst (λ (l : Life). Has (says.Ended a.server l end) os) q (subst (λ (s : ServerId). Has (says.Ended s b.life end) os) p h))

lasts_left : (xs ys : List ThirdOutput) (a b : Association) → LastsUnlessTold xs a b → LastsUnlessTold (xs ++ ys) a b
lasts_left xs ys a b (inl e) = inl e
lasts_left xs ys a b (inr t) = inr (told_left a xs ys t)

lasts_right : (xs ys : List ThirdOutput) (a b : Association) → LastsUnlessTold ys a b → LastsUnlessTold (xs ++ ys) a b
lasts_right xs ys a b (inl e) = inl e
lasts_right xs ys a b (inr t) = inr (told_right a xs ys t)

lasts_both : (xs ys : List ThirdOutput) (a b c : Association) → b.server ≡ a.server → LastsUnlessTold xs a b → LastsUnlessTold ys b c →
    LastsUnlessTold (xs ++ ys) a c
lasts_both xs ys a b c p (inl e) (inl f) = inl (f ∙ e)
lasts_both xs ys a b c p (inl e) (inr t) = inr (told_right a xs ys (told_same a b ys p e t))
lasts_both xs ys a b c p (inr t) l = inr (told_left a xs ys t)

-- What a change leaves at one server, and what it sends.
pub record Goes (got : Heard) (t u : ThirdTurn) : Type 0 where
  pub id : u.plain.id ≡ t.plain.id
  pub config : u.plain.config ≡ t.plain.config
  pub lives : LivesOn got t.plain.here u.plain.here
  pub more : List ThirdOutput
  pub said : all_said u ≡ all_said t ++ more
  pub sent : (m : Message) → Has (says.Plain (outputs.Send m)) more → IsOf t.plain.id t.plain.here u.plain.here m

sent_of : (t : Turn) (m : Message) → Sends t m → IsOf t.id t.here t.here m
sent_of t _ (Greets stamp) = record { from = refl; to = refl; since = omega arith; life = omega arith; asks = λ e. inl refl }
sent_of t _ (Sees s ino g e) = record { from = refl; to = refl; since = omega arith; life = omega arith; asks = λ q. inr (s, e) }
sent_of t _ (Asks s q stamp e f) = record { from = refl; to = refl; since = omega arith; life = omega arith; asks = λ r. inr (s, e) }

goes_by : (got : Heard) (t u : ThirdTurn) → u.plain.id ≡ t.plain.id → u.plain.config ≡ t.plain.config → LivesOn got t.plain.here u.plain.here →
    SaysMore (bounds got t) t u → Goes got t u
goes_by got t u i k l w =
    record {
      id = i;
      config = k;
      lives = l;
      more = w.more;
      said = w.said;
      sent = λ m h. of_then got t.plain.id t.plain.here t.plain.here u.plain.here m l (sent_of t.plain m (w.right (says.Plain (outputs.Send m)) h));
    }

goes_still : (got : Heard) (t : ThirdTurn) → Goes got t t
goes_still got t =
    record { id = refl; config = refl; lives = lives_same got t.plain.here; more = []; said = nothing_after (all_said t); sent = λ m h. absurd h }

goes_both : (got : Heard) (t u v : ThirdTurn) → Goes got t u → Goes got u v → Goes got t v
goes_both got t u v a b =
    record {
      id = b.id ∙ a.id;
      config = b.config ∙ a.config;
      lives = lives_then got t.plain.here u.plain.here v.plain.here a.lives b.lives;
      more = a.more ++ b.more;
      said = b.said ∙ ap (λ z. z ++ b.more) a.said ∙ append_assoc (all_said t) a.more b.more;
      sent = λ m h. by m (has_append a.more b.more (says.Plain (outputs.Send m)) h);
    }
  where
    by : (m : Message) → (Has (says.Plain (outputs.Send m)) a.more) ⊎ (Has (says.Plain (outputs.Send m)) b.more) → IsOf t.plain.id t.plain.here v.plain.here m
    by m (inl h) = of_then got t.plain.id t.plain.here u.plain.here v.plain.here m b.lives (a.sent m h)
    by m (inr h) = of_before got t.plain.id t.plain.here u.plain.here v.plain.here m a.lives
        (subst (λ (i : ClientId). IsOf i u.plain.here v.plain.here m) a.id (b.sent m h))

-- A change of the first two forms.

follows_lives : (got : Heard) (a : Association) (s u : ClientSession) → a.session ≡ Some s → GoesOnBy got a (Some s) u →
    LivesOn got a (record a { session = Some u })
follows_lives got a s u e g =
    record {
      server = refl;
      life = omega arith;
      stays = λ q x. (u, refl);
      heard = λ q v f. subst (GoesOnBy got a a.session) (some_is f) (subst (λ o. GoesOnBy got a o u) (sym e) g);
    }

plain_lives : (within : Bounds) (now : Stamp) (t u : Turn) (c : client.Change now t u) → Continues within now t u c → LivesOn within.heard t.here u.here
unfolding passes.submit_read passes.submit_write passes.submit_command
plain_lives within now t _ (client.Says _ o p) n = lives_same within.heard t.here
plain_lives within now t _ (client.Operates _ os) n = lives_same within.heard t.here
plain_lives within now t _ (client.Answers _ os ops a) n = lives_same within.heard t.here
plain_lives within now t _ (client.Greets _ g) n = lives_kept within.heard t.here _ refl refl refl
plain_lives within now t _ (client.TellsLost _ lost) n = lives_kept within.heard t.here _ refl refl refl
plain_lives within now t _ (client.Begins _ s a b c) n = absurd n
plain_lives within now t _ (client.Follows _ s u e g) n = follows_lives within.heard t.here s u e n.1
plain_lives within now t _ (client.Learns _ e u h) n = lives_kept within.heard t.here _ refl refl refl
plain_lives within now t _ (client.Forgets _ ino p i) n = lives_kept within.heard t.here _ refl refl refl
plain_lives within now t _ (client.Caches _ clean) n = lives_kept within.heard t.here _ refl refl refl
plain_lives within now t _ (client.Writes _ s g p bytes x sv own m h i) n = lives_kept within.heard t.here _ refl refl refl
plain_lives within now t _ (client.Reads _ ino p m i clean) n = lives_kept within.heard t.here _ refl refl refl
plain_lives within now t _ (client.Submits _ s ino p d m e i k w) n = lives_kept within.heard t.here _ refl refl refl

-- A reduction has the locks from before under their numbers.
reduced_lives : (got : Heard) (t : ThirdTurn) (s : ClientSession) (d : DemandedFile) (ino : ℕ) → session t ≡ Some s →
    LivesOn got t.plain.here (reduced s (Some d) ino t.plain).here
unfolding passes.reduce_by passes.reduce_given passes.reduce_to locks.reduce_at locks.reduce_lock locks.lower
reduced_lives got t s d ino e = held (locks.lock_of s.locks d.ino) refl
  where
    a : Association
    a = t.plain.here

    lower : (l : HeldLock) → locks.lock_of s.locks d.ino ≡ Some l → (to : Mode) (k : HeldLock) → Has k (locks.lowered_rows s.locks.rows d.ino l to) →
        LockFrom got a s.locks.rows k
    lower l q modes.None k h = WasHeld k (has_filter (λ r. not (locks.is_lock_on d.ino r)) s.locks.rows k h).0 refl refl
    lower l q modes.S k h = put_in l q k (has_put (locks.is_lock_on d.ino) (locks.held_lock d.ino l.g modes.S) s.locks.rows k h)
      where
        put_in : (l : HeldLock) → locks.lock_of s.locks d.ino ≡ Some l → (k : HeldLock) → (k ≡ locks.held_lock d.ino l.g modes.S) ⊎ Has k s.locks.rows →
            LockFrom got a s.locks.rows k
        put_in l q k (inl i) = let z = found_at (locks.is_lock_on d.ino) s.locks.rows l q in
            WasHeld l z.1 (Words.eqb-true l.ino d.ino z.0 ∙ ap (λ (x : HeldLock). x.ino) (sym i)) (ap (λ (x : HeldLock). x.g) (sym i))
        put_in l q k (inr i) = WasHeld k i refl refl
    lower l q modes.X k h = put_in l q k (has_put (locks.is_lock_on d.ino) (locks.held_lock d.ino l.g modes.S) s.locks.rows k h)
      where
        put_in : (l : HeldLock) → locks.lock_of s.locks d.ino ≡ Some l → (k : HeldLock) → (k ≡ locks.held_lock d.ino l.g modes.S) ⊎ Has k s.locks.rows →
            LockFrom got a s.locks.rows k
        put_in l q k (inl i) = let z = found_at (locks.is_lock_on d.ino) s.locks.rows l q in
            WasHeld l z.1 (Words.eqb-true l.ino d.ino z.0 ∙ ap (λ (x : HeldLock). x.ino) (sym i)) (ap (λ (x : HeldLock). x.g) (sym i))
        put_in l q k (inr i) = WasHeld k i refl refl

    -- what becomes of the store doesn't matter
    stored : (b : Association) (u : ClientSession) → b.server ≡ a.server → b.life ≡ a.life → b.session ≡ Some u → GoesOnBy got a (Some s) u → LivesOn got a b
    stored b u p q r g =
        lives_then got a (record a { session = Some u }) b (follows_lives got a s u e g) (lives_kept got (record a { session = Some u }) b p q r)

    held : (o : Option HeldLock) → locks.lock_of s.locks d.ino ≡ o → LivesOn got a (passes.reduce_by t.plain s ino (locks.reduce_lock s.locks d o)).here
    held None q = lives_same got a
    held (Some l) q =
        stored _ (passes.released (Words.ClientState.with_cache (locks.lower s.locks d.ino l d.to) s) ino l.g d.to) refl refl refl
        (record { locks = λ k h. lower l q d.to k h; epoch = SameEpoch s refl refl })

reduced_id : (t : Turn) (s : ClientSession) (d : DemandedFile) (ino : ℕ) → (reduced s (Some d) ino t).id ≡ t.id
unfolding passes.reduce_by passes.reduce_given passes.reduce_to locks.reduce_at locks.reduce_lock
reduced_id t s d ino = held (locks.lock_of s.locks d.ino)
  where
    held : (o : Option HeldLock) → (passes.reduce_by t s ino (locks.reduce_lock s.locks d o)).id ≡ t.id
    held None = refl
    held (Some l) = refl

-- A session that begins has no lock.
begun_lives : (got : Heard) (a : Association) (u : ClientSession) (body : Body) → a.session ≡ None → u.locks.rows ≡ [] → Hears got a u.epoch.0 body →
    LivesOn got a (record a { session = Some u })
begun_lives got a u body e n w =
    record {
      server = refl;
      life = omega arith;
      stays = λ q x. (u, refl);
      heard = λ q v f. subst (GoesOnBy got a a.session) (some_is f)
          (record { locks = λ l h. absurd (subst (Has l) n h); epoch = NewerEpoch body w });
    }

-- One change
change_goes : (got : Heard) (now : Stamp) (t u : ThirdTurn) → ThirdChange got now t u → Goes got t u
unfolding Rattle.st_third.specs.State.say Rattle.st_third.specs.State.plainly
change_goes got now t _ (Plainly _ u c k) =
    let n : Next now t.plain u = change_next now t.plain u c in
    goes_by got t _ (sym n.id) (sym n.config) (plain_lives (bounds got t) now t.plain u c k) (change_says now t _ (Plainly t u c k))
change_goes got now t _ (Says _ o w) = goes_by got t _ refl refl (lives_same got t.plain.here) (change_says {got = got} now t _ (Says t o w))
change_goes got now t _ (Leaves _ ls k) = goes_by got t _ refl refl (lives_same got t.plain.here) (change_says {got = got} now t _ (Leaves t ls k))
change_goes got now t _ (IsBeside _ b l) = goes_by got t _ refl refl (lives_same got t.plain.here) (change_says {got = got} now t _ (IsBeside t b l))
change_goes got now t _ (WaitsForRoom _ n) = goes_by got t _ refl refl (lives_same got t.plain.here) (change_says {got = got} now t _ (WaitsForRoom t n))
change_goes got now t _ (Begins _ epoch stamp e f w) =
    goes_by got t _ refl refl (begun_lives got t.plain.here (limited_session t.limits (new_session epoch stamp)) bodies.Welcome e refl w)
    (change_says now t _ (Begins t epoch stamp e f w))
change_goes got now t _ (GivesBack _ s l e h) =
    goes_by got t _ refl refl (follows_lives got t.plain.here s (demanded l.ino s) e (same_locks t.plain.here s (demanded l.ino s) refl refl))
    (change_says {got = got} now t _ (GivesBack t s l e h))
change_goes got now t _ (Reduces _ s d ino e q i) =
    let n = change_third {got = got} now t _ (Reduces t s d ino e q i) in
    goes_by got t _ (reduced_id t.plain s d ino) (sym n.config) (reduced_lives got t s d ino e) (change_says {got = got} now t _ (Reduces t s d ino e q i))

changes_go : (got : Heard) (now : Stamp) (t u : ThirdTurn) → ThirdChanges got now t u → Goes got t u
changes_go got now t _ (Still _) = goes_still got t
changes_go got now t v (Then _ u _ c cs) = goes_both got t u v (change_goes got now t u c) (changes_go got now u v cs)

-- they leave the life
changes_last : (got : Heard) (now : Stamp) (t u : ThirdTurn) → ThirdChanges got now t u → u.plain.here.life ≡ t.plain.here.life
changes_last got now t _ (Still _) = refl
changes_last got now t v (Then _ u _ c cs) = changes_last got now u v cs ∙ sym (change_third now t u c).life

-- So it goes, and the end of the life is told.
record Leads (got : Heard) (t u : ThirdTurn) : Type 0 where
  goes : Goes got t u
  lasts : LastsUnlessTold goes.more t.plain.here u.plain.here

leads_both : (got : Heard) (t u v : ThirdTurn) → Leads got t u → Leads got u v → Leads got t v
unfolding goes_both
leads_both got t u v a b =
    record {
      goes = goes_both got t u v a.goes b.goes;
      lasts = lasts_both a.goes.more b.goes.more t.plain.here u.plain.here v.plain.here a.goes.lives.server a.lasts b.lasts;
    }

changes_lead : (got : Heard) (now : Stamp) (t u : ThirdTurn) → ThirdChanges got now t u → Leads got t u
changes_lead got now t u cs = record { goes = changes_go got now t u cs; lasts = inl (changes_last got now t u cs) }

-- where no message is heard
goes_wider : (less got : Heard) → IsUnspoken less → (t u : ThirdTurn) → Goes less t u → Goes got t u
goes_wider less got none t u g =
    record { id = g.id; config = g.config; lives = lives_wider less got none t.plain.here u.plain.here g.lives; more = g.more; said = g.said; sent = g.sent }

-- One rule at one server.
module _ (got : Heard) (now : Stamp) where
  -- a life that ended leaves nothing
  emptied_goes : (t : ThirdTurn) → Goes got t (leaving.emptied t)
  unfolding plainly
  emptied_goes t =
      record {
        id = refl;
        config = refl;
        lives = record { server = refl; life = omega arith; stays = λ e s. absurd (omega (arith, e)); heard = λ e u f. absurd (omega (arith, e)) };
        more = [];
        said = nothing_after (all_said t);
        sent = λ m h. absurd h;
      }

  -- with one more word, which isn't a message
  word_goes : (t u : ThirdTurn) (o : ThirdOutput) → u.plain.here ≡ t.plain.here → u.plain.id ≡ t.plain.id → u.plain.config ≡ t.plain.config →
      all_said u ≡ all_said t ++ o ∷ [] →
      ((m : Message) → says.Plain (outputs.Send m) ≡ o → ⊥) → Goes got t u
  word_goes t u o p i k e quiet =
      record {
        id = i;
        config = k;
        lives = subst (LivesOn got t.plain.here) (sym p) (lives_same got t.plain.here);
        more = o ∷ [];
        said = e;
        sent = λ m h. absurd (one m h);
      }
    where
      one : (m : Message) → Has (says.Plain (outputs.Send m)) (o ∷ []) → ⊥
      one m (inl q) = quiet m q
      one m (inr q) = q

  noted_said : (t : ThirdTurn) → all_said (with_plain (leaving.noted_lost t.plain) t)
      ≡ all_said t ++ says.Plain (outputs.Note (notes.Lost t.plain.here.server t.plain.here.life)) ∷ []
  noted_said t = ap (λ os. t.said ++ os) (Words.map-append plain_output t.plain.out _) ∙ sym (append_assoc t.said (map plain_output t.plain.out) _)

  loses_go : (t u : ThirdTurn) → ThirdLoses now t u → Leads got t u
  unfolding goes_both
  loses_go t _ (Lasts e) = record { goes = goes_still got t; lasts = inl refl }
  loses_go t _ (IsLost s v e i cs) =
      let x : ThirdTurn = with_plain (leaving.noted_lost t.plain) t in
      let noted : Goes got t x = record {
        id = refl;
        config = refl;
        lives = lives_kept got t.plain.here x.plain.here refl refl refl;
        more = says.Plain (outputs.Note (notes.Lost t.plain.here.server t.plain.here.life)) ∷ [];
        said = noted_said t;
        sent = λ m h. absurd (no m h);
      } in
      let rest : Goes got x (leaving.emptied v) = goes_both got x v _ (goes_wider None got nothing_heard x v (changes_go None now x v cs)) (emptied_goes v) in
      record { goes = goes_both got t x _ noted rest; lasts = inr (inl (has_left noted.more rest.more _ (inl refl))) }
    where
      no : (m : Message) → Has (says.Plain (outputs.Send m)) (says.Plain (outputs.Note (notes.Lost t.plain.here.server t.plain.here.life)) ∷ []) → ⊥
      no m (inl q) = cc
      no m (inr q) = q

  leaves_go : (t u : ThirdTurn) → ThirdLeaves now t u → Leads got t u
  unfolding Rattle.st_third.specs.State.say goes_both word_goes
  leaves_go t _ Stays = record { goes = goes_still got t; lasts = inl refl }
  leaves_go t _ (HasLeft s e) =
      record {
        goes = goes_both got t _ _ (word_goes t _ _ refl refl refl (sym (nothing_after _)) (λ m q. cc)) (emptied_goes _);
        lasts = inr (inr (_, inl refl));
      }

  finishes_go : (number : ℕ) (ok : Bool) (t u : ThirdTurn) → ThirdFinishes now number ok t u → Leads got t u
  unfolding plain.hardened
  finishes_go number ok t u f =
      let v : ThirdTurn = with_plain f.middle t in
      record {
        goes = goes_both got t v u (ends_go f.middle f.ends) (goes_wider (heard_end number ok) got (end_heard number ok) v u (changes_go _ now v u f.rest));
        lasts = inl (changes_last _ now v u f.rest ∙ sym (ends_fit now number ok t.plain f.middle f.ends).life);
      }
    where
      ends_go : (m : Turn) → Ends number ok t.plain m → Goes got t (with_plain m t)
      ends_go m e =
          let n : Next now t.plain m = ends_fit now number ok t.plain m e in
          record {
            id = sym n.id;
            config = sym n.config;
            lives = lives_kept got t.plain.here m.here (sym n.server) (sym n.life) (same m e);
            more = [];
            said = ap (λ os. t.said ++ map plain_output os) (quiet m e) ∙ nothing_after (all_said t);
            sent = λ m h. absurd h;
          }
        where
          same : (m : Turn) → Ends number ok t.plain m → m.here.session ≡ t.plain.here.session
          same _ Unknown = refl
          same _ (Passes x e o) = refl
          same _ (Hardens x v e o w q) = refl
          same _ (Fails x v e o w q) = refl

          quiet : (m : Turn) → Ends number ok t.plain m → m.out ≡ t.plain.out
          quiet _ Unknown = refl
          quiet _ (Passes x e o) = refl
          quiet _ (Hardens x v e o w q) = refl
          quiet _ (Fails x v e o w q) = refl

  -- where nothing is heard
  deaf : (u v : ThirdTurn) → ThirdChanges None now u v → Leads got u v
  deaf u v cs = record { goes = goes_wider None got nothing_heard u v (changes_go None now u v cs); lasts = inl (changes_last None now u v cs) }

  passes_go : (t u : ThirdTurn) → ThirdPasses now t u → Leads got t u
  passes_go t u p =
      leads_both got t p.written u (deaf t p.written p.works)
      (leads_both got p.written p.left u (leaves_go p.written p.left p.leaves) (deaf p.left u p.asks))

  -- At each server in turn.
  abbrev Rule : (ThirdTurn → ThirdTurn) → Type 0
  Rule rule = (t : ThirdTurn) → Fit t.plain.here → Leads got t (rule t)

  -- ends are told among more
  all_left : (xs ys : List ThirdOutput) (as_ bs : List Association) → Pairwise (LastsUnlessTold xs) as_ bs → Pairwise (LastsUnlessTold (xs ++ ys)) as_ bs
  all_left xs ys [] [] p = tt
  all_left xs ys [] (b ∷ bs) p = absurd p
  all_left xs ys (a ∷ as_) [] p = absurd p
  all_left xs ys (a ∷ as_) (b ∷ bs) p = record { one = lasts_left xs ys a b p.one; rest = all_left xs ys as_ bs p.rest }

  all_right : (xs ys : List ThirdOutput) (as_ bs : List Association) → Pairwise (LastsUnlessTold ys) as_ bs → Pairwise (LastsUnlessTold (xs ++ ys)) as_ bs
  all_right xs ys [] [] p = tt
  all_right xs ys [] (b ∷ bs) p = absurd p
  all_right xs ys (a ∷ as_) [] p = absurd p
  all_right xs ys (a ∷ as_) (b ∷ bs) p = record { one = lasts_right xs ys a b p.one; rest = all_right xs ys as_ bs p.rest }

  -- associations that go on, of which the ends are told, one after another
  all_both : (xs ys : List ThirdOutput) (as_ bs cs : List Association) → Pairwise (LivesOn got) as_ bs → Pairwise (LastsUnlessTold xs) as_ bs →
      Pairwise (LastsUnlessTold ys) bs cs → Pairwise (LastsUnlessTold (xs ++ ys)) as_ cs
  all_both xs ys [] [] [] l p q = tt
  all_both xs ys [] [] (c ∷ cs) l p q = absurd q
  all_both xs ys [] (b ∷ bs) cs l p q = absurd p
  all_both xs ys (a ∷ as_) [] cs l p q = absurd p
  all_both xs ys (a ∷ as_) (b ∷ bs) [] l p q = absurd q
  all_both xs ys (a ∷ as_) (b ∷ bs) (c ∷ cs) l p q =
      record { one = lasts_both xs ys a b c l.one.server p.one q.one; rest = all_both xs ys as_ bs cs l.rest p.rest q.rest }

  all_same : (as_ : List Association) → Pairwise (LastsUnlessTold []) as_ as_
  all_same [] = tt
  all_same (a ∷ as_) = record { one = inl refl; rest = all_same as_ }

  record Went (as_ : List Association) (t u : ThirdClientTurn) : Type 0 where
    id : u.client.plain.id ≡ t.client.plain.id
    left : List Association
    is : u.client.plain.associations ≡ t.client.plain.associations ++ left
    pairs : Pairwise (LivesOn got) as_ left
    more : List ThirdOutput
    said : u.out ≡ t.out ++ more
    sent : (m : Message) → Has (says.Plain (outputs.Send m)) more → IsOfOne t.client.plain.id as_ left m
    lasts : Pairwise (LastsUnlessTold more) as_ left

  module _ (k : Limits) (rule : ThirdTurn → ThirdTurn) (one : Rule rule) where
    these_go : (as_ : List Association) (bs : List Beside) (t : ThirdClientTurn) → length bs ≡ length as_ → ((a : Association) → Has a as_ → Fit a) →
        Went as_ t (at_these k rule as_ bs t)
    unfolding at_these
    these_go [] bs t e f =
        record {
          id = refl;
          left = [];
          is = nothing_after t.client.plain.associations;
          pairs = tt;
          more = [];
          said = nothing_after t.out;
          sent = λ m h. absurd h;
          lasts = tt;
        }
    these_go (a ∷ as_) [] t e f = absurd (nothing (length as_) e)
      where
        nothing : (n : ℕ) → 0 ≡ suc n → ⊥
        nothing n e = cc
    these_go (a ∷ as_) (b ∷ bs) t e f =
        let r : ThirdTurn = rule (enter k t a b) in
        let led : Leads got (enter k t a b) r = one (enter k t a b) (f a (inl refl)) in
        let g : Goes got (enter k t a b) r = led.goes in
        let w = these_go as_ bs (leave t r) (omega (arith, e)) (λ x h. f x (inr h)) in
        record {
          id = w.id;
          left = r.plain.here ∷ w.left;
          is = w.is ∙ append_assoc t.client.plain.associations (r.plain.here ∷ []) w.left;
          pairs = record { one = g.lives; rest = w.pairs };
          more = g.more ++ w.more;
          said =
              w.said ∙ ap (λ z. z ++ w.more) (g.said ∙ ap (λ z. z ++ g.more) (sym (nothing_after t.out))) ∙ append_assoc t.out g.more w.more;
          sent = λ m h. by r g w m (has_append g.more w.more (says.Plain (outputs.Send m)) h);
          lasts = record { one = lasts_left g.more w.more a r.plain.here led.lasts; rest = all_right g.more w.more as_ w.left w.lasts };
        }
      where
        by : (r : ThirdTurn) (g : Goes got (enter k t a b) r) (w : Went as_ (leave t r) (at_these k rule as_ bs (leave t r))) (m : Message) →
            (Has (says.Plain (outputs.Send m)) g.more) ⊎ (Has (says.Plain (outputs.Send m)) w.more) →
            IsOfOne t.client.plain.id (a ∷ as_) (r.plain.here ∷ w.left) m
        by r g w m (inl h) = inl (g.sent m h)
        by r g w m (inr h) = inr (w.sent m h)
        -- the associations and the words afterwards

  record LivedOn (t u : ThirdClientTurn) : Type 0 where
    id : u.client.plain.id ≡ t.client.plain.id
    pairs : Pairwise (LivesOn got) t.client.plain.associations u.client.plain.associations
    more : List ThirdOutput
    said : u.out ≡ t.out ++ more
    sent : (m : Message) → Has (says.Plain (outputs.Send m)) more → IsOfOne u.client.plain.id t.client.plain.associations u.client.plain.associations m
    lasts : Pairwise (LastsUnlessTold more) t.client.plain.associations u.client.plain.associations

  abbrev AllFit : ThirdClientTurn → Type 0
  AllFit t = (a : Association) → Has a t.client.plain.associations → Fit a

  each_lives : (k : Limits) (rule : ThirdTurn → ThirdTurn) → Rule rule → (t : ThirdClientTurn) → IsPaired t.client → AllFit t → LivedOn t (at_each k rule t)
  unfolding at_each
  each_lives k rule one t e f =
      let start : ThirdClientTurn = record t { client = with_none t.client } in
      let u : ThirdClientTurn = at_these k rule t.client.plain.associations t.client.beside.besides start in
      let w : Went t.client.plain.associations start u = these_go k rule one t.client.plain.associations t.client.beside.besides start e f in
      record {
        id = w.id;
        pairs = subst (Pairwise (LivesOn got) t.client.plain.associations) (sym w.is) w.pairs;
        more = w.more;
        said = w.said;
        sent = λ m h. subst (λ (i : ClientId). IsOfOne i t.client.plain.associations u.client.plain.associations m) (sym w.id)
            (subst (λ bs. IsOfOne t.client.plain.id t.client.plain.associations bs m) (sym w.is) (w.sent m h));
        lasts = subst (Pairwise (LastsUnlessTold w.more) t.client.plain.associations) (sym w.is) w.lasts;
      }

  lived_same : (t u : ThirdClientTurn) (os : List ThirdOutput) → u.client ≡ t.client → u.out ≡ t.out ++ os →
      ((m : Message) → Has (says.Plain (outputs.Send m)) os → ⊥) → LivedOn t u
  lived_same t u os e f quiet =
      record {
        id = ap (λ (x : ThirdClient). x.plain.id) e;
        pairs =
            subst (λ (x : ThirdClient). Pairwise (LivesOn got) t.client.plain.associations x.plain.associations) (sym e)
            (pairs_same (LivesOn got) (lives_same got) t.client.plain.associations);
        more = os;
        said = f;
        sent = λ m h. absurd (quiet m h);
        lasts =
            subst (λ (x : ThirdClient). Pairwise (LastsUnlessTold os) t.client.plain.associations x.plain.associations) (sym e)
            (all_left [] os t.client.plain.associations t.client.plain.associations (all_same t.client.plain.associations));
      }

  -- what was sent stays sent
  sent_on : (id : ClientId) (as_ bs cs : List Association) (m : Message) → Pairwise (LivesOn got) bs cs → IsOfOne id as_ bs m → IsOfOne id as_ cs m
  sent_on id [] bs cs m p z = absurd z
  sent_on id (a ∷ as_) [] cs m p z = absurd z
  sent_on id (a ∷ as_) (b ∷ bs) [] m p z = absurd p
  sent_on id (a ∷ as_) (b ∷ bs) (c ∷ cs) m p (inl i) = inl (of_then got id a b c m p.one i)
  sent_on id (a ∷ as_) (b ∷ bs) (c ∷ cs) m p (inr z) = inr (sent_on id as_ bs cs m p.rest z)

  sent_since : (id : ClientId) (as_ bs cs : List Association) (m : Message) → Pairwise (LivesOn got) as_ bs → IsOfOne id bs cs m → IsOfOne id as_ cs m
  sent_since id as_ [] cs m p z = absurd z
  sent_since id [] (b ∷ bs) cs m p z = absurd p
  sent_since id (a ∷ as_) (b ∷ bs) [] m p z = absurd z
  sent_since id (a ∷ as_) (b ∷ bs) (c ∷ cs) m p (inl i) = inl (of_before got id a b c m p.one i)
  sent_since id (a ∷ as_) (b ∷ bs) (c ∷ cs) m p (inr z) = inr (sent_since id as_ bs cs m p.rest z)

  lived_then : (t u v : ThirdClientTurn) → LivedOn t u → LivedOn u v → LivedOn t v
  lived_then t u v a b =
      record {
        id = b.id ∙ a.id;
        pairs = pairs_then (LivesOn got) (LivesOn got) (LivesOn got) (lives_then got) _ _ _ a.pairs b.pairs;
        more = a.more ++ b.more;
        said = b.said ∙ ap (λ z. z ++ b.more) a.said ∙ append_assoc t.out a.more b.more;
        sent = λ m h. by m (has_append a.more b.more (says.Plain (outputs.Send m)) h);
        lasts = all_both a.more b.more _ _ _ a.pairs a.lasts b.lasts;
      }
    where
      by : (m : Message) → (Has (says.Plain (outputs.Send m)) a.more) ⊎ (Has (says.Plain (outputs.Send m)) b.more) →
          IsOfOne v.client.plain.id t.client.plain.associations v.client.plain.associations m
      by m (inl h) = subst (λ (i : ClientId). IsOfOne i t.client.plain.associations v.client.plain.associations m) (sym b.id)
          (sent_on u.client.plain.id t.client.plain.associations u.client.plain.associations v.client.plain.associations m b.pairs (a.sent m h))
      by m (inr h) = sent_since v.client.plain.id t.client.plain.associations u.client.plain.associations v.client.plain.associations m a.pairs (b.sent m h)

  -- Inputs.

  abbrev RuleAt : ServerId → (ThirdTurn → ThirdTurn) → Type 0
  RuleAt s rule = (t : ThirdTurn) → is_at s t.plain.here ≡ true → Fit t.plain.here → Leads got t (rule t)

  only_goes : (s : ServerId) (rule : ThirdTurn → ThirdTurn) → RuleAt s rule → Rule (only_at s rule)
  unfolding only_at
  only_goes s rule one t f = go (is_at s t.plain.here) refl
    where
      go : (b : Bool) → is_at s t.plain.here ≡ b → Leads got t (if b then rule t else t)
      go true e = one t e f
      go false e = record { goes = goes_still got t; lasts = inl refl }

  module _ (k : Limits) (t : ThirdClientTurn) (p : IsPaired t.client) (f : AllFit t) where
    stays : LivedOn t t
    stays = lived_same t t [] refl (nothing_after t.out) (λ m h. h)

    asks : (op : ℕ) (s : ServerId) (rule : ThirdTurn → ThirdTurn) → RuleAt s rule → LivedOn t (client_rules.ask_by k t op s rule)
    unfolding client_rules.ask_by client_rules.ask_at
    asks op s rule one = go (client_rules.is_full k t.client) (plain.is_configured t.client.plain s)
      where
        at_once : (a : AppAnswer) → LivedOn t (client_rules.answered_at_once t op a)
        at_once a = lived_same t _ (says.Plain (outputs.Answer op a) ∷ []) refl refl no
          where
            no : (m : Message) → Has (says.Plain (outputs.Send m)) (says.Plain (outputs.Answer op a) ∷ []) → ⊥
            no m (inl q) = cc
            no m (inr q) = q

        go : (b d : Bool) → LivedOn t
            (if b then client_rules.answered_at_once t op answers.OpsFull else
            (if d then at_each k (only_at s rule) t else client_rules.answered_at_once t op answers.NoFile))
        go true d = at_once answers.OpsFull
        go false true = each_lives k (only_at s rule) (only_goes s rule one) t p f
        go false false = at_once answers.NoFile

    hears : (h : Header) (body : Body) → got ≡ Some (HeardMessage (record { header = h; body = body })) → LivedOn t (receive k t now h body)
    unfolding receive
    hears h body e = go (h.to == t.client.plain.id.0)
      where
        one : Rule (receive_at now h body)
        one u x = subst (λ (g : Heard). Leads g u (receive_at now h body u)) (sym e) (changes_lead _ now u _ (receives now h body u x.fresh))

        go : (b : Bool) → LivedOn t (if b then at_each k (receive_at now h body) t else t)
        go true = each_lives k (receive_at now h body) one t p f
        go false = stays

    takes_plainly : (input : ClientInput) → got ≡ heard_in (third.Plain input) → LivedOn t (client_rules.take_plain k t now input)
    unfolding client_rules.take_plain client_rules.app client_rules.done
    takes_plainly inputs.Tick e = stays
    takes_plainly (inputs.App op ask) e = asks op _ _ (λ u i x. deaf u _ (takes now op ask u))
    takes_plainly (inputs.Control message) e = hears message.header message.body e
    takes_plainly (inputs.Done number result) e =
        each_lives k (client_rules.finish number result) (λ u x. finishes_go number _ u _ (finishes now number u result)) t p f

    -- an ask to leave, at its server
    asked : (op : ℕ) (s : ServerId) → got ≡ heard_in (third.Leave op s) → (u : ThirdTurn) → is_at s u.plain.here ≡ true → Leads got u (leaving.take_leave op u)
    asked op s e u i =
        subst (λ (g : Heard). Leads g u (leaving.take_leave op u))
        (ap (λ (z : ServerId). heard_in (third.Leave op z)) (server_is u.plain.here.server s (eqb-true u.plain.here.server.0 s.0 i)) ∙ sym e)
        (changes_lead (heard_in (third.Leave op u.plain.here.server)) now u _ (takes_leave op u))

    takes_it : (input : ThirdInput) → got ≡ heard_in input → LivedOn t (client_rules.take_input k t now input)
    unfolding client_rules.take_input client_rules.app_leave
    takes_it (third.Plain input) e = takes_plainly input e
    takes_it (third.Leave op s) e = asks op s _ (λ u i x. asked op s e u i)

pub clients_live_on : ClientsLiveOn
unfolding client_rules.client_step client_rules.losses client_rules.work
clients_live_on m c now input p f =
    let k : Config = c.plain.config in
    let got : Heard = heard_in input in
    let t : ThirdClientTurn = third_turn c [] in
    let u : ThirdClientTurn = client_rules.losses m t now in
    let v : ThirdClientTurn = client_rules.take_input m u now input in
    let w : ThirdClientTurn = client_rules.work m v now input in
    let a = each_goes k now m (leaving.lose now) (λ x d g. loses_it k now x d _ (loses x)) t refl p f in
    let pu : IsPaired u.client = (paired.each_stays m (leaving.lose now) t p).paired in
    let fu = stepped_fit k now t u a f in
    let b = takes_input k now m u a.config pu fu input in
    let pv : IsPaired v.client = (paired.input_stays m u now input pu).paired in
    let fv = stepped_fit k now u v b fu in
    let x : LivedOn got now t u = each_lives got now m (leaving.lose now) (λ y g. loses_go got now y _ (loses y)) t p f in
    let y : LivedOn got now u v = takes_it got now m u pu fu input refl in
    let z : LivedOn got now v w =
    each_lives got now m (client_rules.third_passes now (client_rules.is_tick input))
    (λ q g. passes_go got now q _ (passes_change now (client_rules.is_tick input) q)) v pv fv
    in
    let all : LivedOn got now t w = lived_then got now t u w x (lived_then got now u v w y z) in
    record {
      id = all.id;
      associations = all.pairs;
      sent = λ n h. all.sent n (subst (Has (says.Plain (outputs.Send n))) all.said h);
      lasts = subst (λ os. Pairwise (LastsUnlessTold os) c.plain.associations w.client.plain.associations) (sym all.said) all.lasts;
    }
