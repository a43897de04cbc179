-- What a list of changes of the third form leaves: the server and the life, what fits, what was said so
-- far, and a session whose lease isn't older than before or was dated by a fresh welcome.
use Rattle.st_lemmas.proofs.Words
use Words.{◌≡◌, ◌⊎◌, ℕ, true, List, [], ◌∷◌, ◌++◌, Option, Some, None, map, refl, sym, ap, ◌∙◌, subst, inl, inr, arith, append_assoc, map-append}
use Words.{AppAnswer, Config, DemandedFile, GrantNo, HeldLock, Mode, Output, PageNo, Stamp}
use Words.{Body, Message}
use Words.bodies
use Words.modes
use Words.outputs
use Words.Lists.{Has}
use Words.Tables.{has_append, has_map}
use Words.ClientPages.{Store}
use Words.Keys.{page_no}
use Words.ClientLocks as locks
use Words.ClientPages as pages
use Words.ClientPasses as passes
use Words.ClientState.{ClientSession, Requests, Turn, answer_to, asking, with_cache, with_session, with_store}
use Words.Lengths.{nothing_after}
use Rattle.st_laws_steps.specs.Client.Client as client
use Rattle.st_laws_steps.specs.Client.Losses.{Fit, SessionFresh}
use Rattle.st_laws_steps.specs.Client.Session.{MayAsk, SessionChange, Keeps, DropsLock, IsReasserted, EndsRequest, NewEpoch, AsksNew, AsksAgain}
use Rattle.st_laws_steps.proofs.Client.Nexts.{change_next}
use Rattle.st_third.specs.declared.output.ThirdOutput.{ThirdOutput}
use Rattle.st_third.specs.declared.output.ThirdOutput.TheVariants as says
use Rattle.st_rules.specs.ClientReplies.{new_session}
use Rattle.st_third.specs.GiveBack.{demanded}
use Rattle.st_third.specs.Limits.{limited_session}
use Rattle.st_third.specs.State.{ThirdTurn, all_said, plain_output, session}
use Rattle.st_third.specs.UsedOnce.{reduced}
use Rattle.st_laws_third.specs.Changes.{ThirdChange, ThirdChanges, Bounds, Continues, Still, Then, Plainly, Says, Leaves, IsBeside, WaitsForRoom, Begins, GivesBack}
use Rattle.st_laws_third.specs.Changes.{Reduces, bounds, with_plain}
use Rattle.st_laws_third.specs.Changes.{AnswersRight, HasLeave, Heard, PlainWord, SaysRight, Sends, SendsRight, Greets, Sees, Asks}
use Rattle.st_laws_third.specs.Sessions.{AllFine, Dates, NoDemand, RequestFine, SessionFine, WordFine}

-- Dates

pub dates_same : (k : Config) (now : Stamp) (x : Option ClientSession) → Dates k now x x
dates_same k now None = tt
dates_same k now (Some s) = inl (omega arith)

pub dates_then : (k : Config) (now : Stamp) (x y z : Option ClientSession) → Dates k now x y → Dates k now y z → Dates k now x z
dates_then k now x y None d e = tt
dates_then k now None None (Some w) d e = e
dates_then k now (Some s) None (Some w) d e = inr e
dates_then k now None (Some v) (Some w) d (inl e) = omega (arith, d, e)
dates_then k now None (Some v) (Some w) d (inr e) = e
dates_then k now (Some s) (Some v) (Some w) (inl d) (inl e) = inl (omega (arith, d, e))
dates_then k now (Some s) (Some v) (Some w) (inr d) (inl e) = inr (omega (arith, d, e))
dates_then k now (Some s) (Some v) (Some w) d (inr e) = inr e

-- What changes leave.
pub record ThirdNext (now : Stamp) (t u : ThirdTurn) : Type 0 where
  pub config : t.plain.config ≡ u.plain.config
  pub limits : t.limits ≡ u.limits
  pub server : t.plain.here.server ≡ u.plain.here.server
  pub life : t.plain.here.life ≡ u.plain.here.life
  pub dates : Dates t.plain.config now (session t) (session u)
  pub fit : Fit t.plain.here → Fit u.plain.here
  pub more : List ThirdOutput
  pub said : all_said u ≡ all_said t ++ more
  pub asks : SessionFine (session t) → SessionFine (session u)
  pub quiet : SessionFine (session t) → AllFine more

pub next_still : (now : Stamp) (t : ThirdTurn) → ThirdNext now t t
next_still now t =
    record {
      config = refl;
      limits = refl;
      server = refl;
      life = refl;
      dates = dates_same t.plain.config now (session t);
      fit = λ f. f;
      more = [];
      said =
          nothing_after (all_said t);
      asks = λ f. f;
      quiet = λ f o h. absurd h;
    }

pub next_both : (now : Stamp) (t u v : ThirdTurn) → ThirdNext now t u → ThirdNext now u v → ThirdNext now t v
next_both now t u v a b =
    record {
      config = a.config ∙ b.config;
      limits = a.limits ∙ b.limits;
      server = a.server ∙ b.server;
      life = a.life ∙ b.life;
      dates =
          dates_then t.plain.config now (session t) (session u) (session v) a.dates
          (subst (λ k. Dates k now (session u) (session v)) (sym a.config) b.dates);
      fit = λ f. b.fit (a.fit f);
      more = a.more ++ b.more;
      said = b.said ∙ ap (λ z. z ++ b.more) a.said ∙ append_assoc (all_said t) a.more b.more;
      asks = λ f. b.asks (a.asks f);
      quiet = λ f o h. either_of (a.quiet f) (b.quiet (a.asks f)) o (has_append a.more b.more o h);
    }
  where
    either_of : AllFine a.more → AllFine b.more → (o : ThirdOutput) → (Has o a.more) ⊎ (Has o b.more) → WordFine o
    either_of x y o (inl i) = x o i
    either_of x y o (inr i) = y o i

-- A change of the first two forms.

continues_dates : (within : Bounds) (now : Stamp) (t u : Turn) (c : client.Change now t u) → Continues within now t u c → Dates t.config now t.here.session u.here.session
unfolding passes.submit_read passes.submit_write passes.submit_command
continues_dates within now t _ (client.Says _ o p) n = dates_same t.config now t.here.session
continues_dates within now t _ (client.Operates _ os) n = dates_same t.config now t.here.session
continues_dates within now t _ (client.Answers _ os ops a) n = dates_same t.config now t.here.session
continues_dates within now t _ (client.Greets _ g) n = dates_same t.config now t.here.session
continues_dates within now t _ (client.TellsLost _ lost) n = dates_same t.config now t.here.session
continues_dates within now t _ (client.Begins _ s a b c) n = absurd n
continues_dates within now t _ (client.Follows _ s u e g) n = subst (λ z. Dates t.config now z (Some u)) (sym e) (inl g.date)
continues_dates within now t _ (client.Learns _ e u h) n = dates_same t.config now t.here.session
continues_dates within now t _ (client.Forgets _ ino p i) n = dates_same t.config now t.here.session
continues_dates within now t _ (client.Caches _ clean) n = dates_same t.config now t.here.session
continues_dates within now t _ (client.Writes _ s f p bytes x sv own m h i) n = dates_same t.config now t.here.session
continues_dates within now t _ (client.Reads _ ino p m i clean) n = dates_same t.config now t.here.session
continues_dates within now t _ (client.Submits _ s ino p d m e i k w) n = dates_same t.config now t.here.session

plain_said : (t : ThirdTurn) (u : Turn) (more : List Output) → u.out ≡ t.plain.out ++ more → all_said (with_plain u t) ≡ all_said t ++ map plain_output more
plain_said t u more e =
    ap (λ os. t.said ++ map plain_output os) e
    ∙ ap (λ os. t.said ++ os) (map-append plain_output t.plain.out more)
    ∙ sym (append_assoc t.said (map plain_output t.plain.out) (map plain_output more))

-- what a change says
record Spoken (within : Bounds) (t u : Turn) (k : Type 0) : Type 0 where
  more : List Output
  out : u.out ≡ t.out ++ more
  right : k → (o : Output) → Has o more → SaysRight within t o

silent : (within : Bounds) (t u : Turn) (k : Type 0) → u.out ≡ t.out → Spoken within t u k
silent within t u k e = record { more = []; out = e ∙ nothing_after t.out; right = λ x o h. absurd h }

one_word : (within : Bounds) (t u : Turn) (k : Type 0) (o : Output) → u.out ≡ t.out ++ o ∷ [] → (k → SaysRight within t o) → Spoken within t u k
one_word within t u k o e f = record { more = o ∷ []; out = e; right = λ x y h. one x y h }
  where
    one : k → (y : Output) → Has y (o ∷ []) → SaysRight within t y
    one x y (inl q) = subst (SaysRight within t) (sym q) (f x)
    one x y (inr i) = absurd i

-- what is right to say is right to send
sends_right : (within : Bounds) (t : Turn) (o : Output) → SaysRight within t o → SendsRight t o
sends_right within t (outputs.Send m) r = r
sends_right within t (outputs.Submit number at what) r = tt
sends_right within t (outputs.Answer op a) r = tt
sends_right within t (outputs.Note n) r = tt

sent_fine : (t : Turn) (m : Message) → Sends t m → SessionFine t.here.session → NoDemand m.body
sent_fine t _ (Greets stamp) f = tt
sent_fine t _ (Sees s ino g e) f = tt
sent_fine t _ (Asks s q stamp e p) f = subst RequestFine p (subst SessionFine e f)

pub said_fine : (t : Turn) (o : Output) → SendsRight t o → SessionFine t.here.session → WordFine (plain_output o)
said_fine t (outputs.Send m) s f = sent_fine t m s f
said_fine t (outputs.Submit number at what) s f = tt
said_fine t (outputs.Answer op a) s f = tt
said_fine t (outputs.Note n) s f = tt

spoken : (within : Bounds) (now : Stamp) (t u : Turn) (c : client.Change now t u) → Spoken within t u (Continues within now t u c)
unfolding passes.submit_read passes.submit_write passes.submit_command
spoken within now t _ (client.Says _ o p) = one_word within t _ _ o refl (λ k. k)
spoken within now t _ (client.Operates _ os) = silent within t _ _ refl
spoken within now t _ (client.Answers _ os ops a) =
    record {
      more = map (answer_to a) ops;
      out = refl;
      right = λ k o h. let z = has_map (answer_to a) ops o h in subst (SaysRight within t) (sym z.2) k;
    }
spoken within now t _ (client.Greets _ g) = silent within t _ _ refl
spoken within now t _ (client.TellsLost _ lost) = silent within t _ _ refl
spoken within now t _ (client.Begins _ s a b c) = silent within t _ _ refl
spoken within now t _ (client.Follows _ s u e g) = silent within t _ _ refl
spoken within now t _ (client.Learns _ e u h) = silent within t _ _ refl
spoken within now t _ (client.Forgets _ ino p i) = silent within t _ _ refl
spoken within now t _ (client.Caches _ clean) = silent within t _ _ refl
spoken within now t _ (client.Writes _ s f p bytes x sv own m h i) = one_word within t _ _ (outputs.Note x) refl (λ k. tt)
spoken within now t _ (client.Reads _ ino p m i clean) = one_word within t _ _ _ refl (λ k. tt)
spoken within now t _ (client.Submits _ s ino p d m e i k w) = one_word within t _ _ _ refl (λ k. tt)

-- what may be asked isn't a demand
may_fine : (s : ClientSession) (cutting : Option ℕ) (b : Body) → MayAsk s cutting b → NoDemand b
may_fine s cutting (bodies.Demand ino g to) m = absurd m
may_fine s cutting b m = tt

session_fine : (st : Store) (s u : ClientSession) → SessionChange st s u → SessionFine (Some s) → SessionFine (Some u)
unfolding asking
session_fine st s u (Keeps _ _ a) f = subst (λ (r : Requests). RequestFine r.asked) (sym a.requests) f
session_fine st s _ (DropsLock _ ino l) f = f
session_fine st s _ (IsReasserted _) f = f
session_fine st s _ (EndsRequest _ stamp) f = tt
session_fine st s _ (NewEpoch _ epoch n) f = tt
session_fine st s _ (AsksNew _ r now body cutting a c i) f = may_fine r cutting body i.may
session_fine st s _ (AsksAgain _ now q e) f = subst RequestFine e f

asks_fine : (within : Bounds) (now : Stamp) (t u : Turn) (c : client.Change now t u) → Continues within now t u c → SessionFine t.here.session → SessionFine u.here.session
unfolding passes.submit_read passes.submit_write passes.submit_command
asks_fine within now t _ (client.Says _ o p) n f = f
asks_fine within now t _ (client.Operates _ os) n f = f
asks_fine within now t _ (client.Answers _ os ops a) n f = f
asks_fine within now t _ (client.Greets _ g) n f = f
asks_fine within now t _ (client.TellsLost _ lost) n f = f
asks_fine within now t _ (client.Begins _ s a b c) n f = absurd n
asks_fine within now t _ (client.Follows _ s u e g) n f = session_fine t.here.store s u g.how (subst SessionFine e f)
asks_fine within now t _ (client.Learns _ e u h) n f = f
asks_fine within now t _ (client.Forgets _ ino p i) n f = f
asks_fine within now t _ (client.Caches _ clean) n f = f
asks_fine within now t _ (client.Writes _ s g p bytes x sv own m h i) n f = f
asks_fine within now t _ (client.Reads _ ino p m i clean) n f = f
asks_fine within now t _ (client.Submits _ s ino p d m e i k w) n f = f

plain_next : (within : Bounds) (now : Stamp) (t : ThirdTurn) (u : Turn) (c : client.Change now t.plain u) → Continues within now t.plain u c →
    ThirdNext now t (with_plain u t)
plain_next within now t u c k =
    let n = change_next now t.plain u c in
    let w = spoken within now t.plain u c in
    record {
      config = n.config;
      limits = refl;
      server = n.server;
      life = n.life;
      dates = continues_dates within now t.plain u c k;
      fit = n.fit;
      more = map plain_output w.more;
      said = plain_said t u w.more w.out;
      asks = asks_fine within now t.plain u c k;
      quiet = λ f o h. let z = has_map plain_output w.more o h in subst WordFine (sym z.2) (said_fine t.plain z.0 (sends_right within t.plain z.0 (w.right k z.0 z.1)) f);
    }

-- A change of the session alone.

session_next : (now : Stamp) (t : ThirdTurn) (u : ClientSession) → Dates t.plain.config now (session t) (Some u) →
    (SessionFresh t.plain.here.store (session t) → SessionFresh t.plain.here.store (Some u)) → (SessionFine (session t) → SessionFine (Some u)) →
    ThirdNext now t (with_plain (with_session u t.plain) t)
session_next now t u d f g =
    record {
      config = refl;
      limits = refl;
      server = refl;
      life = refl;
      dates = d;
      fit = λ h. record { mapped = h.mapped; fresh = f h.fresh };
      more = [];
      said =
          nothing_after (all_said t);
      asks = g;
      quiet = λ x o h. absurd h;
    }

-- A reduction

reduced_next : (now : Stamp) (t : ThirdTurn) (s : ClientSession) (d : DemandedFile) (ino : ℕ) → session t ≡ Some s →
    pages.is_idle t.plain.here.store ino ≡ true → ThirdNext now t (with_plain (reduced s (Some d) ino t.plain) t)
unfolding passes.reduce_by passes.reduce_given passes.reduce_to locks.reduce_at locks.reduce_lock
reduced_next now t s d ino e i = held (locks.lock_of s.locks d.ino)
  where
    given : (r : locks.Reduced) (g : GrantNo) (to : Mode) → ThirdNext now t (with_plain (passes.reduce_to t.plain (with_cache r.locks s) ino g to) t)
    given r g to =
        let v : ThirdTurn = with_plain (with_store (passes.forgotten_at ino to t.plain.here.store) t.plain) t in
        let z : ClientSession = passes.released (with_cache r.locks s) ino g to in
        next_both now t v _ (forgets to)
        (session_next now v z (subst (λ o. Dates t.plain.config now o (Some z)) (sym e) (inl (omega arith)))
        (λ f. subst (SessionFresh v.plain.here.store) e f) (λ f. subst SessionFine e f))
      where
        forgets : (to : Mode) → ThirdNext now t (with_plain (with_store (passes.forgotten_at ino to t.plain.here.store) t.plain) t)
        forgets modes.None =
            let c : client.Change now t.plain _ = client.Forgets t.plain ino (page_no 0) i in
            plain_next (bounds None t) now t _ c tt
        forgets modes.S = next_still now t
        forgets modes.X = next_still now t

    held : (l : Option HeldLock) → ThirdNext now t (with_plain (passes.reduce_by t.plain s ino (locks.reduce_lock s.locks d l)) t)
    held None = session_same
      where
        session_same : ThirdNext now t t
        session_same = next_still now t
    held (Some l) = given (record { locks = locks.lower s.locks d.ino l d.to; given = Some (l.g, d.to) }) l.g d.to

-- Changes

-- a word of the third form isn't a message
said_word : (got : Heard) (t : ThirdTurn) (o : ThirdOutput) → PlainWord got t o → (x : ThirdOutput) → Has x (o ∷ []) → WordFine x
said_word got t o w x (inl e) = subst WordFine (sym e) (word o w)
  where
    word : (o : ThirdOutput) → PlainWord got t o → WordFine o
    word (says.Plain (outputs.Send m)) w = absurd w
    word (says.Plain (outputs.Submit number at what)) w = tt
    word (says.Plain (outputs.Answer op a)) w = tt
    word (says.Plain (outputs.Note n)) w = tt
    word (says.Left op) w = tt
    word (says.Unsynced op ino) w = tt
    word (says.Ended s life end) w = tt
said_word got t o w x (inr i) = absurd i

pub change_third : {got : Heard} (now : Stamp) (t u : ThirdTurn) → ThirdChange got now t u → ThirdNext now t u
unfolding Rattle.st_third.specs.State.say Rattle.st_third.specs.State.plainly
change_third {got} now t _ (Plainly _ u c p) = plain_next (bounds got t) now t u c p
change_third {got} now t _ (Says _ o w) =
    record {
      config = refl;
      limits = refl;
      server = refl;
      life = refl;
      dates = dates_same t.plain.config now (session t);
      fit = λ f. f;
      more = o ∷ [];
      said =
          sym (nothing_after (all_said t ++ o ∷ []));
      asks = λ f. f;
      quiet = λ f x h. said_word got t o w x h;
    }
change_third {got} now t _ (Leaves _ ls k) =
    record {
      config = refl;
      limits = refl;
      server = refl;
      life = refl;
      dates = dates_same t.plain.config now (session t);
      fit = λ f. f;
      more = [];
      said =
          nothing_after (all_said t);
      asks = λ f. f;
      quiet = λ f o h. absurd h;
    }
change_third {got} now t _ (IsBeside _ b l) =
    record {
      config = refl;
      limits = refl;
      server = refl;
      life = refl;
      dates = dates_same t.plain.config now (session t);
      fit = λ f. f;
      more = [];
      said =
          nothing_after (all_said t);
      asks = λ f. f;
      quiet = λ f o h. absurd h;
    }
change_third {got} now t _ (WaitsForRoom _ n) =
    record {
      config = refl;
      limits = refl;
      server = refl;
      life = refl;
      dates = dates_same t.plain.config now (session t);
      fit = λ f. f;
      more = [];
      said =
          nothing_after (all_said t);
      asks = λ f. f;
      quiet = λ f o h. absurd h;
    }
change_third {got} now t _ (Begins _ epoch stamp e f w) =
    let u : ClientSession = limited_session t.limits (new_session epoch stamp) in
    session_next now t u (subst (λ z. Dates t.plain.config now z (Some u)) (sym e) f) (λ h x q. absurd (no x q)) (λ f. tt)
  where
    no : (x : ℕ × PageNo) → ◌≡◌ {A = Option (ℕ × PageNo)} None (Some x) → ⊥
    no x q = cc
change_third {got} now t _ (GivesBack _ s l e h) =
    session_next now t (demanded l.ino s) (subst (λ z. Dates t.plain.config now z (Some (demanded l.ino s))) (sym e) (inl (omega arith)))
    (λ f. subst (SessionFresh t.plain.here.store) e f) (λ f. subst SessionFine e f)
change_third {got} now t _ (Reduces _ s d ino e q i) = reduced_next now t s d ino e i

pub changes_third : {got : Heard} (now : Stamp) (t u : ThirdTurn) → ThirdChanges got now t u → ThirdNext now t u
changes_third {got} now t _ (Still _) = next_still now t
changes_third {got} now t v (Then _ u _ c cs) = next_both now t u v (change_third now t u c) (changes_third now u v cs)

-- a reduction says nothing
reduced_says : (t : ThirdTurn) (s : ClientSession) (d : DemandedFile) (ino : ℕ) → all_said (with_plain (reduced s (Some d) ino t.plain) t) ≡ all_said t
unfolding passes.reduce_by passes.reduce_given passes.reduce_to locks.reduce_at locks.reduce_lock
reduced_says t s d ino = held (locks.lock_of s.locks d.ino)
  where
    held : (l : Option HeldLock) → all_said (with_plain (passes.reduce_by t.plain s ino (locks.reduce_lock s.locks d l)) t) ≡ all_said t
    held None = refl
    held (Some l) = refl

-- What a change says

-- a word that is right at a turn: a message is one of those that are sent, and no life ends
abbrev pub WordRight : Turn → ThirdOutput → Type 0
WordRight t (says.Plain o) = SendsRight t o
WordRight t (says.Ended s life end) = ⊥
WordRight t o = Unit {0}

-- the words that a change says, and no others
pub record SaysMore (within : Bounds) (t u : ThirdTurn) : Type 0 where
  pub more : List ThirdOutput
  pub said : all_said u ≡ all_said t ++ more
  pub right : (o : ThirdOutput) → Has o more → WordRight t.plain o
  pub left : (op : ℕ) → Has (says.Left op) more → HasLeave t op
  pub answers : (op : ℕ) (a : AppAnswer) → Has (says.Plain (outputs.Answer op a)) more → AnswersRight within t.plain a

says_none : (within : Bounds) (t u : ThirdTurn) → all_said u ≡ all_said t → SaysMore within t u
says_none within t u e =
    record { more = []; said = e ∙ nothing_after (all_said t); right = λ o h. absurd h; left = λ op h. absurd h; answers = λ op a h. absurd h }

word_right : (got : Heard) (t : ThirdTurn) (o : ThirdOutput) → PlainWord got t o → WordRight t.plain o
word_right got t (says.Plain (outputs.Send m)) w = absurd w
word_right got t (says.Plain (outputs.Submit number at what)) w = tt
word_right got t (says.Plain (outputs.Answer op a)) w = tt
word_right got t (says.Plain (outputs.Note n)) w = tt
word_right got t (says.Left op) w = tt
word_right got t (says.Unsynced op ino) w = tt
word_right got t (says.Ended s life end) w = w

pub change_says : {got : Heard} (now : Stamp) (t u : ThirdTurn) → ThirdChange got now t u → SaysMore (bounds got t) t u
unfolding Rattle.st_third.specs.State.say Rattle.st_third.specs.State.plainly
change_says {got} now t _ (Plainly _ u c p) =
    let w = spoken (bounds got t) now t.plain u c in
    record {
      more = map plain_output w.more;
      said = plain_said t u w.more w.out;
      right = λ o h. let z = has_map plain_output w.more o h in
          subst (WordRight t.plain) (sym z.2) (sends_right (bounds got t) t.plain z.0 (w.right p z.0 z.1));
      left = λ op h. let z = has_map plain_output w.more (says.Left op) h in absurd (no_left op z.0 z.2);
      answers =
          λ op a h. let z = has_map plain_output w.more (says.Plain (outputs.Answer op a)) h in
          subst (SaysRight (bounds got t) t.plain) (sym (same_word (outputs.Answer op a) z.0 z.2)) (w.right p z.0 z.1);
    }
  where
    same_word : (o y : Output) → says.Plain o ≡ plain_output y → o ≡ y
    same_word o y e = cc

    no_left : (op : ℕ) (o : Output) → says.Left op ≡ plain_output o → ⊥
    no_left op o e = cc
change_says {got} now t _ (Says _ o w) =
    record {
      more = o ∷ [];
      said = sym (nothing_after (all_said t ++ o ∷ []));
      right = λ x h. one x h;
      left = λ op h. left op h;
      answers = λ op a h. answered op a h;
    }
  where
    one : (x : ThirdOutput) → Has x (o ∷ []) → WordRight t.plain x
    one x (inl e) = subst (WordRight t.plain) (sym e) (word_right got t o w)
    one x (inr i) = absurd i

    left : (op : ℕ) → Has (says.Left op) (o ∷ []) → HasLeave t op
    left op (inl e) = subst (PlainWord got t) (sym e) w
    left op (inr i) = absurd i

    answered : (op : ℕ) (a : AppAnswer) → Has (says.Plain (outputs.Answer op a)) (o ∷ []) → AnswersRight (bounds got t) t.plain a
    answered op a (inl e) = subst (PlainWord got t) (sym e) w
    answered op a (inr i) = absurd i
change_says {got} now t _ (Leaves _ ls k) = says_none (bounds got t) t _ refl
change_says {got} now t _ (IsBeside _ b l) = says_none (bounds got t) t _ refl
change_says {got} now t _ (WaitsForRoom _ n) = says_none (bounds got t) t _ refl
change_says {got} now t _ (Begins _ epoch stamp e f w) = says_none (bounds got t) t _ refl
change_says {got} now t _ (GivesBack _ s l e h) = says_none (bounds got t) t _ refl
change_says {got} now t _ (Reduces _ s d ino e q i) = says_none (bounds got t) t _ (reduced_says t s d ino)
