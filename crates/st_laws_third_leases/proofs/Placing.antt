-- The numbers of the messages from before, through the rules of a client of the third form: an association's requests go on from them. And a message of a
-- client that tells that a demand was seen has no number.
use Rattle.st_lemmas.proofs.Words
use Words.{◌≡◌, ℕ, ◌+◌, ◌≤◌, ◌<◌, ◌⊎◌, true, false, List, [], ◌++◌, Option, Some, None, refl, sym, ap, ◌∙◌, subst, inl, inr, arith, append_assoc}
use Words.{Body, ClientId, DemandedFile, HeldLock, Life, Message, Request, ServerId, Stamp}
use Words.bodies
use Words.outputs
use Words.ClientLocks as locks
use Words.ClientPages.{Store}
use Words.ClientPasses as passes
use Words.ClientReplies as replies
use Words.ClientState.{Association, ClientSession, Requests, Turn, asking}
use Words.Dating as dating
use Words.Lengths.{nothing_after}
use Words.Lists.{Has}
use Words.Tables.{has_append}
use Words.Truth.{not_both}
use Rattle.st_laws_requests.specs.Cuts.Cuts.{Between, Counts, Numbered, Placed, SameBody, view}
use Rattle.st_laws_steps.specs.Client.Client as client
use Rattle.st_laws_steps.specs.Client.Session.{AsksAgain, AsksNew, DropsLock, EndsRequest, IsReasserted, Keeps, MayAsk, NewEpoch, SessionChange}
use Rattle.st_third.specs.declared.output.ThirdOutput.{ThirdOutput}
use Rattle.st_third.specs.declared.output.ThirdOutput.TheVariants as says
use Rattle.st_third.specs.GiveBack.{demanded}
use Rattle.st_third.specs.Limits.{limited_session}
use Rattle.st_third.specs.State.{ThirdTurn, all_said, session}
use Rattle.st_third.specs.UsedOnce.{reduced}
use Rattle.st_laws_third.specs.Changes.{Asks, Begins, Bounds, Continues, GivesBack, Greets, Heard, IsBeside, Leaves, Plainly, Reduces, Says, Sees}
use Rattle.st_laws_third.specs.Changes.{Sends, Still, Then}
use Rattle.st_laws_third.specs.Changes.{ThirdChange, ThirdChanges, WaitsForRoom, bounds}
use Rattle.st_laws_third.proofs.Facts.{SaysMore, WordRight, change_says}

-- the outstanding request doesn't tell that a demand was seen
abbrev pub RequestPlain : Option Request → Type 0
RequestPlain None = Unit {0}
RequestPlain (Some q) = dating.is_request q.body ≡ true

abbrev pub ViewPlain : Option (ℕ × Requests) → Type 0
ViewPlain None = Unit {0}
ViewPlain (Some v) = RequestPlain v.1.asked

-- a message that tells so has no number
abbrev pub WordPlain : ThirdOutput → Type 0
WordPlain (says.Plain (outputs.Send m)) = dating.is_request m.body ≡ false → m.header.number ≡ 0
WordPlain o = Unit {0}

abbrev pub AllPlain : List ThirdOutput → Type 0
AllPlain os = (o : ThirdOutput) → Has o os → WordPlain o

-- The messages to a server belong to no later life, and their numbers are the session's.
pub record Place (ms : List Message) (c : ClientId) (s : ServerId) (life : ℕ) (v : Option (ℕ × Requests)) : Type 0 where
  pub lives : (m : Message) → Has m ms → Between c s m → m.header.life ≤ life
  pub placed : (m : Message) → Has m ms → Between c s m → Placed life v m
  pub counts : Counts v
  pub plain : ViewPlain v

-- of an association
abbrev pub PlaceOf : List Message → ClientId → Association → Type 0
PlaceOf ms c a = Place ms c a.server a.life.0 (view a.session)

-- The request that is outstanding is one of the session's, and doesn't tell that a demand was seen.
abbrev pub Resting : Association → Type 0
Resting a = Counts (view a.session) × ViewPlain (view a.session)

-- What becomes of an association keeps them.
abbrev pub Places : Association → Association → Type 0
Places a b = (ms : List Message) (c : ClientId) → PlaceOf ms c a → PlaceOf ms c b

-- What becomes of a session's epoch and requests.
pub record KeepsOn (v w : Option (ℕ × Requests)) : Type 0 where
  pub placed : (life : ℕ) (m : Message) → Placed life v m → Placed life w m
  pub counts : Counts v → Counts w
  pub plain : ViewPlain v → ViewPlain w

pub keeps_same : (v : Option (ℕ × Requests)) → KeepsOn v v
keeps_same v = record { placed = λ life m p. p; counts = λ c. c; plain = λ p. p }

keeps_then : (u v w : Option (ℕ × Requests)) → KeepsOn u v → KeepsOn v w → KeepsOn u w
keeps_then u v w a b =
    record { placed = λ life m x. b.placed life m (a.placed life m x); counts = λ c. b.counts (a.counts c); plain = λ x. b.plain (a.plain x) }

pub keeps_new : (e : ℕ) (r : Requests) (b : Body) (now : Stamp) → dating.is_request b ≡ true →
    KeepsOn (Some (e, r)) (Some (e, record { next = r.next + 1; asked = Some (record { number = r.next; body = b; sent = now }) }))
keeps_new e r b now n =
    record { placed = λ life m p l i. numbered m (p l i); counts = λ c. (let z = c.0 in omega (arith, z), (c.0, omega arith)); plain = λ p. n }
  where
    new : Requests
    new = record { next = r.next + 1; asked = Some (record { number = r.next; body = b; sent = now }) }

    numbered : (m : Message) → Numbered e r m → Numbered e new m
    numbered m p =
        record {
          up_to = p.up_to;
          below = λ i. let z = p.below i in omega (arith, z);
          same = λ i j. absurd (let z = p.below i in omega (arith, z, j));
        }

-- the outstanding request ends
pub keeps_ended : (e : ℕ) (r : Requests) → KeepsOn (Some (e, r)) (Some (e, record r { asked = None }))
keeps_ended e r =
    record {
      placed = λ life m p l i. let y = p l i in record { up_to = y.up_to; below = y.below; same = λ j. tt };
      counts = λ c. (c.0, tt);
      plain = λ p. tt;
    }

-- it is asked once more
pub keeps_again : (e : ℕ) (r : Requests) (q : Request) (now : Stamp) → r.asked ≡ Some q →
    KeepsOn (Some (e, r)) (Some (e, record r { asked = Some (record q { sent = now }) }))
keeps_again e r q now a =
    record {
      placed = λ life m p l i. let y = p l i in record { up_to = y.up_to; below = y.below; same = λ j. subst (λ o. SameBody o m) a (y.same j) };
      counts = λ c. (c.0, subst (Rattle.st_laws_requests.specs.Cuts.Cuts.Given r.next) a c.1);
      plain = λ p. subst RequestPlain a p;
    }

-- the epoch is a newer one
keeps_newer : (e f : ℕ) (r : Requests) → e < f → KeepsOn (Some (e, r)) (Some (f, record { next = 1; asked = None }))
keeps_newer e f r l =
    record {
      placed = λ life m p i j. let y = p i j in
          let u = y.up_to in
          record { up_to = omega (arith, u, l); below = λ q. absurd (omega (arith, u, l, q)); same = λ q. tt };
      counts = λ c. (omega arith, tt);
      plain = λ p. tt;
    }

-- a session begins
keeps_begun : (e : ℕ) → KeepsOn None (Some (e, record { next = 1; asked = None }))
keeps_begun e =
    record {
      placed = λ life m p i j. absurd (let z = p i in omega (arith, z, j));
      counts = λ c. (omega arith, tt);
      plain = λ p. tt;
    }

-- Changes of a session.

pub same_view : (s u : ClientSession) → u.epoch ≡ s.epoch → u.requests ≡ s.requests → view (Some u) ≡ view (Some s)
same_view s u e r = ap (λ (x : Words.Epoch). Some (x.0, u.requests)) e ∙ ap (λ (x : Requests). Some (s.epoch.0, x)) r

may_plain : (s : ClientSession) (c : Option ℕ) (b : Body) → MayAsk s c b → dating.is_request b ≡ true
may_plain s c (bodies.DemandSeen ino g) m = absurd m
may_plain s c b m = refl

session_keeps : (st : Store) (s u : ClientSession) → SessionChange st s u → KeepsOn (view (Some s)) (view (Some u))
unfolding asking
session_keeps st s u (Keeps _ _ a) = subst (KeepsOn (view (Some s))) (sym (same_view s u a.epoch a.requests)) (keeps_same (view (Some s)))
session_keeps st s _ (DropsLock _ ino l) = keeps_same (view (Some s))
session_keeps st s _ (IsReasserted _) = keeps_same (view (Some s))
session_keeps st s _ (EndsRequest _ stamp) = keeps_ended s.epoch.0 s.requests
session_keeps st s _ (NewEpoch _ epoch n) = keeps_newer s.epoch.0 epoch.0 s.requests n
session_keeps st s _ (AsksNew _ r now body cutting a c i) =
    keeps_then (view (Some s)) (view (Some r)) _
    (subst (KeepsOn (view (Some s))) (sym (same_view s r a.epoch a.requests)) (keeps_same (view (Some s))))
    (keeps_new r.epoch.0 r.requests body now (may_plain r cutting body i.may))
session_keeps st s _ (AsksAgain _ now q e) = keeps_again s.epoch.0 s.requests q now e

change_keeps : (within : Bounds) (now : Stamp) (t u : Turn) (c : client.Change now t u) → Continues within now t u c →
    KeepsOn (view t.here.session) (view u.here.session)
unfolding passes.submit_read passes.submit_write passes.submit_command
change_keeps within now t _ (client.Says _ o p) n = keeps_same (view t.here.session)
change_keeps within now t _ (client.Operates _ os) n = keeps_same (view t.here.session)
change_keeps within now t _ (client.Answers _ os ops a) n = keeps_same (view t.here.session)
change_keeps within now t _ (client.Greets _ g) n = keeps_same (view t.here.session)
change_keeps within now t _ (client.TellsLost _ lost) n = keeps_same (view t.here.session)
change_keeps within now t _ (client.Begins _ s a b c) n = absurd n
change_keeps within now t _ (client.Follows _ s u e g) n =
    subst (λ o. KeepsOn (view o) (view (Some u))) (sym e) (session_keeps t.here.store s u g.how)
change_keeps within now t _ (client.Learns _ e u h) n = keeps_same (view t.here.session)
change_keeps within now t _ (client.Forgets _ ino p i) n = keeps_same (view t.here.session)
change_keeps within now t _ (client.Caches _ clean) n = keeps_same (view t.here.session)
change_keeps within now t _ (client.Writes _ s f p bytes x sv own m h i) n = keeps_same (view t.here.session)
change_keeps within now t _ (client.Reads _ ino p m i clean) n = keeps_same (view t.here.session)
change_keeps within now t _ (client.Submits _ s ino p d m e i k w) n = keeps_same (view t.here.session)

-- a reduction leaves the epoch and the requests
reduced_keeps : (t : Turn) (s : ClientSession) (d : DemandedFile) (ino : ℕ) → t.here.session ≡ Some s →
    KeepsOn (view t.here.session) (view (reduced s (Some d) ino t).here.session)
unfolding passes.reduce_by passes.reduce_given passes.reduce_to locks.reduce_at locks.reduce_lock
reduced_keeps t s d ino e = go (locks.lock_of s.locks d.ino)
  where
    go : (l : Option HeldLock) → KeepsOn (view t.here.session) (view (passes.reduce_by t s ino (locks.reduce_lock s.locks d l)).here.session)
    go None = keeps_same (view t.here.session)
    go (Some l) = subst (λ o. KeepsOn (view o) (view (Some s))) (sym e) (keeps_same (view (Some s)))

third_keeps : (got : Heard) (now : Stamp) (t u : ThirdTurn) → ThirdChange got now t u → KeepsOn (view (session t)) (view (session u))
unfolding Rattle.st_third.specs.State.say Rattle.st_third.specs.State.plainly
third_keeps got now t _ (Plainly _ u c k) = change_keeps (bounds got t) now t.plain u c k
third_keeps got now t _ (Says _ o w) = keeps_same (view (session t))
third_keeps got now t _ (Leaves _ ls pending) = keeps_same (view (session t))
third_keeps got now t _ (IsBeside _ b l) = keeps_same (view (session t))
third_keeps got now t _ (WaitsForRoom _ n) = keeps_same (view (session t))
third_keeps got now t _ (Begins _ epoch stamp e f w) =
    subst (λ o. KeepsOn (view o) (view (Some (limited_session t.limits (replies.new_session epoch stamp))))) (sym e) (keeps_begun epoch.0)
third_keeps got now t _ (GivesBack _ s l e h) =
    subst (λ o. KeepsOn (view o) (view (Some (demanded l.ino s)))) (sym e) (keeps_same (view (Some s)))
third_keeps got now t _ (Reduces _ s d ino e q i) = reduced_keeps t.plain s d ino e

-- what is sent
sends_plain : (t : Turn) (m : Message) → Sends t m → ViewPlain (view t.here.session) → WordPlain (says.Plain (outputs.Send m))
sends_plain t _ (Greets stamp) p = λ e. refl
sends_plain t _ (Sees s ino g e) p = λ f. refl
sends_plain t _ (Asks s q stamp e f) p =
    λ n. absurd (not_both (dating.is_request q.body) (subst RequestPlain f (subst (λ o. ViewPlain (view o)) e p)) n)

word_plain : (t : Turn) (o : ThirdOutput) → WordRight t o → ViewPlain (view t.here.session) → WordPlain o
word_plain t (says.Plain (outputs.Send m)) w p = sends_plain t m w p
word_plain t (says.Plain (outputs.Submit number at what)) w p = tt
word_plain t (says.Plain (outputs.Answer op a)) w p = tt
word_plain t (says.Plain (outputs.Note n)) w p = tt
word_plain t (says.Left op) w p = tt
word_plain t (says.Unsynced op ino) w p = tt
word_plain t (says.Ended s life end) w p = tt

-- What changes do.
pub record Goes (t u : ThirdTurn) : Type 0 where
  pub keeps : KeepsOn (view (session t)) (view (session u))
  pub more : List ThirdOutput
  pub said : all_said u ≡ all_said t ++ more
  pub words : ViewPlain (view (session t)) → AllPlain more

pub changes_go : (got : Heard) (now : Stamp) (t u : ThirdTurn) → ThirdChanges got now t u → Goes t u
changes_go got now t _ (Still _) =
    record { keeps = keeps_same (view (session t)); more = []; said = nothing_after (all_said t); words = λ p o h. absurd h }
changes_go got now t v (Then _ u _ c cs) = joined (changes_go got now u v cs)
  where
    w : SaysMore (bounds got t) t u
    w = change_says now t u c

    k : KeepsOn (view (session t)) (view (session u))
    k = third_keeps got now t u c

    joined : Goes u v → Goes t v
    joined g =
        record {
          keeps = keeps_then (view (session t)) (view (session u)) (view (session v)) k g.keeps;
          more = w.more ++ g.more;
          said = g.said ∙ ap (λ z. z ++ g.more) w.said ∙ append_assoc (all_said t) w.more g.more;
          words = λ p o h. by p o (has_append w.more g.more o h);
        }
      where
        by : ViewPlain (view (session t)) → (o : ThirdOutput) → Has o w.more ⊎ Has o g.more → WordPlain o
        by p o (inl h) = word_plain t.plain o (w.right o h) p
        by p o (inr h) = g.words (k.plain p) o h

-- an association with the same server and life
pub place_on : (ms : List Message) (c : ClientId) (a b : Association) → b.server ≡ a.server → b.life ≡ a.life → KeepsOn (view a.session) (view b.session) →
    PlaceOf ms c a → PlaceOf ms c b
place_on ms c a b s l k p =
    let e : b.life.0 ≡ a.life.0 = ap (λ (x : Life). x.0) l in
    subst (λ x. Place ms c x b.life.0 (view b.session)) (sym s)
    (subst (λ n. Place ms c a.server n (view b.session)) (sym e)
    (record { lives = p.lives; placed = λ m h y. k.placed a.life.0 m (p.placed m h y); counts = k.counts p.counts; plain = k.plain p.plain }))

-- a life that ended leaves no session
pub place_next : (ms : List Message) (c : ClientId) (a b : Association) → b.server ≡ a.server → b.life.0 ≡ a.life.0 + 1 → b.session ≡ None →
    PlaceOf ms c a → PlaceOf ms c b
place_next ms c a b s l n p =
    subst (λ x. Place ms c x b.life.0 (view b.session)) (sym s)
    (subst (λ o. Place ms c a.server b.life.0 (view o)) (sym n)
    (record {
      lives = λ m h y. let z = p.lives m h y in omega (arith, z, l);
      placed = λ m h y e. absurd (let z = p.lives m h y in omega (arith, z, l, e));
      counts = tt;
      plain = tt;
    }))

pub rests_on : (a b : Association) → Places a b → Resting a → Resting b
rests_on a b p r =
    let y = p [] (record { 0 = 0 }) (record { lives = λ m h i. absurd h; placed = λ m h i. absurd h; counts = r.0; plain = r.1 }) in (y.counts, y.plain)
