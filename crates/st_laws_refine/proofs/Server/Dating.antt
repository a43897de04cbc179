-- The replies by which leases are dated, through a step of their server.
use Rattle.st_lemmas.proofs.Words
use Words.{◌≡◌, ◌≢◌, ℕ, ◌+◌, ◌<◌, ◌⊎◌, Bool, true, false, ◌&&◌, not, List, [], ◌∷◌, ◌++◌, ◌==◌, refl, sym, ap, ◌∙◌, subst, inl, inr, arith, cond, filter}
use Words.{length, Option, Some, None, is_some, eq-eqb, lt-leb, ClientId, ServerId, Stamp, Message, Header, Body, GrantNo, Mode, Output, Suspect, ServerInput}
use Words.{Observation, Session}
use Words.bodies as bd
use Words.notes
use Words.outputs
use Words.serving.{Control}
use Words.Keys.{client}
use Words.Authority as authority
use Words.Authority.{Authority, suspect_of, is_over}
use Words.Server.{ServerState, ServerTurn, reply, tell, steal_from, suspect_client, keep_and_reply, with_authority, sender, reply_header, own_header}
use Words.World.{World}
use Words.Events.{WorldTurn, sends, cuts, server_notes, server_says, server_says_all}
use Words.History.{History, TimerStart, timer_start, is_timer_of, recall, recall_all}
use Words.Dating.{is_request, may_date, goes_back, answers_to, is_reply_to}
use Words.Lists.{Has}
use Words.Tables.{same_or_not, and_both, not_true, not_false, cond_either, find_kept_in, has_append, has_filter}
use Words.Serving.{has_suspect, suspect_wait}
use Words.Truth.{not_both}
use Rattle.st_trace.specs.Server.Edits.{NoSends}
use Rattle.st_laws_refine.specs.Server.Edits.{Edit, TakesTimers, Steals, Suspects, Begins, DropsWaits, Keeps, Reasserts, Sees, Acquires, Releases, DropsFile}
use Rattle.st_laws_refine.specs.Server.Edits.{Grants, Demands, NamesChange, ExtentsChange, Cuts, Replies, Repeats, Refuses, TellsGrant, TellsDemand}
use Rattle.st_laws_refine.proofs.Server.Changes.{suspect_own, suspect_other}

-- The timers that the history has after outputs of a server.
abbrev pub timers_by : World → ServerId → List Output → List TimerStart → List TimerStart
timers_by w s [] ts = ts
timers_by w s (outputs.Note (notes.Suspected c start) ∷ os) ts = timers_by w s os (ts ++ timer_start w s c ∷ [])
timers_by w s (outputs.Note (notes.Stolen c life) ∷ os) ts = timers_by w s os (filter (λ t. not (is_timer_of s c t)) ts)
timers_by w s (o ∷ os) ts = timers_by w s os ts

pub timers_more : (w : World) (s : ServerId) (os : List Output) (o : Output) (ts : List TimerStart) → timers_by w s (os ++ o ∷ []) ts ≡ timers_by w s (o ∷ []) (timers_by w s os ts)
timers_more w s [] o ts = refl
timers_more w s (outputs.Note (notes.Suspected c start) ∷ os) o ts = timers_more w s os o _
timers_more w s (outputs.Note (notes.Stolen c life) ∷ os) o ts = timers_more w s os o _
timers_more w s (outputs.Note x ∷ os) o ts = timers_more w s os o ts
timers_more w s (outputs.Send m ∷ os) o ts = timers_more w s os o ts
timers_more w s (outputs.Answer x y ∷ os) o ts = timers_more w s os o ts
timers_more w s (outputs.Submit x y z ∷ os) o ts = timers_more w s os o ts

recall_more : (w v : World) (xs ys : List Observation) (h : History) → recall_all w v (xs ++ ys) h ≡ recall_all w v ys (recall_all w v xs h)
unfolding recall_all
recall_more w v [] ys h = refl
recall_more w v (x ∷ xs) ys h = recall_more w v xs ys (recall w v h x)

says_timers : (w v : World) (s : ServerId) (o : Output) (sc : WorldTurn) (h : History) → (recall_all w v (server_says sc s o).seen h).timers ≡ timers_by w s (o ∷ []) (recall_all w v sc.seen h).timers
unfolding server_says server_notes sends cuts recall_all recall
says_timers w v s (outputs.Send m) sc h = ap (λ (h : History). h.timers) (recall_more w v sc.seen _ h)
says_timers w v s (outputs.Note (notes.Suspected c start)) sc h = ap (λ (h : History). h.timers) (recall_more w v sc.seen _ h)
says_timers w v s (outputs.Note (notes.Stolen c life)) sc h = ap (λ (h : History). h.timers) (recall_more w v sc.seen _ h)
says_timers w v s (outputs.Note (notes.CutDone f p)) sc h = ap (λ (h : History). h.timers) (recall_more w v sc.seen _ h)
says_timers w v s (outputs.Note x) sc h = refl
says_timers w v s (outputs.Answer x y) sc h = refl
says_timers w v s (outputs.Submit x y z) sc h = refl

timers_first : (w : World) (s : ServerId) (o : Output) (os : List Output) (ts : List TimerStart) → timers_by w s os (timers_by w s (o ∷ []) ts) ≡ timers_by w s (o ∷ os) ts
timers_first w s (outputs.Note (notes.Suspected c start)) os ts = refl
timers_first w s (outputs.Note (notes.Stolen c life)) os ts = refl
timers_first w s (outputs.Note x) os ts = refl
timers_first w s (outputs.Send m) os ts = refl
timers_first w s (outputs.Answer x y) os ts = refl
timers_first w s (outputs.Submit x y z) os ts = refl

pub all_timers : (w v : World) (s : ServerId) (os : List Output) (sc : WorldTurn) (h : History) → (recall_all w v (server_says_all s os sc).seen h).timers ≡ timers_by w s os (recall_all w v sc.seen h).timers
unfolding server_says_all
all_timers w v s [] sc h = refl
all_timers w v s (o ∷ os) sc h = all_timers w v s os (server_says sc s o) h ∙ ap (timers_by w s os) (says_timers w v s o sc h) ∙ timers_first w s o os _

-- a timer after the outputs was there, or started in this event
pub timers_old : (w : World) (s : ServerId) (os : List Output) (ts : List TimerStart) (x : TimerStart) → Has x (timers_by w s os ts) → Has x ts ⊎ (x.sent ≡ length w.net.messages)
timers_old w s [] ts x h = inl h
timers_old w s (outputs.Note (notes.Suspected c start) ∷ os) ts x h = go (timers_old w s os _ x h)
  where
    last : Has x ts ⊎ Has x (timer_start w s c ∷ []) → Has x ts ⊎ (x.sent ≡ length w.net.messages)
    last (inl i) = inl i
    last (inr (inl e)) = inr (ap (λ (y : TimerStart). y.sent) e)
    last (inr (inr i)) = elim i [ ]

    go : Has x (ts ++ timer_start w s c ∷ []) ⊎ (x.sent ≡ length w.net.messages) → Has x ts ⊎ (x.sent ≡ length w.net.messages)
    go (inl i) = last (has_append ts (timer_start w s c ∷ []) x i)
    go (inr e) = inr e
timers_old w s (outputs.Note (notes.Stolen c life) ∷ os) ts x h = go (timers_old w s os _ x h)
  where
    go : Has x (filter (λ t. not (is_timer_of s c t)) ts) ⊎ (x.sent ≡ length w.net.messages) → Has x ts ⊎ (x.sent ≡ length w.net.messages)
    go (inl i) = inl (has_filter (λ t. not (is_timer_of s c t)) ts x i).0
    go (inr e) = inr e
timers_old w s (outputs.Note y ∷ os) ts x h = timers_old w s os ts x h
timers_old w s (outputs.Send m ∷ os) ts x h = timers_old w s os ts x h
timers_old w s (outputs.Answer y z ∷ os) ts x h = timers_old w s os ts x h
timers_old w s (outputs.Submit y z u ∷ os) ts x h = timers_old w s os ts x h

-- What is sent that may date a lease answers the request that came, and its client isn't a suspect.
pub record AnswersRequest (s : ℕ) (i : ServerInput) (a : Authority) (m : Message) : Type 0 where
  pub ack : authority.may_ack a (client m.header.to) ≡ true
  pub request : Message
  pub came : i ≡ Control request
  pub asks : is_request request.body ≡ true
  pub replies : is_reply_to request m ≡ true

-- a step so far, after its thefts
pub record DatingTurn (w : World) (s : ℕ) (i : ServerInput) (now : Stamp) (ts : List TimerStart) (t : ServerTurn) : Type 0 where
  pub id : t.state.id.0 ≡ s
  pub wait : 0 < t.state.authority.wait
  pub young : (x : Suspect) → Has x t.state.authority.suspects → is_over t.state.authority.wait now x ≡ false
  pub timers : (x : TimerStart) → Has x (timers_by w (record { 0 = s }) t.out ts) → x.server.0 ≡ s → is_some (suspect_of t.state.authority x.client) ≡ true
  pub sends : (m : Message) → Has (outputs.Send m) t.out → may_date m.header.number m.body ≡ true → AnswersRequest s i t.state.authority m

-- one more output that starts no timer
same_timers : (w : World) (s : ServerId) (os : List Output) (o : Output) (ts : List TimerStart) → timers_by w s (o ∷ []) (timers_by w s os ts) ≡ timers_by w s os ts → timers_by w s (os ++ o ∷ []) ts ≡ timers_by w s os ts
same_timers w s os o ts e = timers_more w s os o ts ∙ e

sent_one : (s : ℕ) (i : ServerInput) (a : Authority) (os : List Output) (o : Output) → ((m : Message) → Has (outputs.Send m) os → may_date m.header.number m.body ≡ true → AnswersRequest s i a m) →
    ((m : Message) → outputs.Send m ≡ o → may_date m.header.number m.body ≡ true → AnswersRequest s i a m) → (m : Message) → Has (outputs.Send m) (os ++ o ∷ []) → may_date m.header.number m.body ≡ true → AnswersRequest s i a m
sent_one s i a os o f g m h d = go (has_append os (o ∷ []) (outputs.Send m) h)
  where
    go : Has (outputs.Send m) os ⊎ Has (outputs.Send m) (o ∷ []) → AnswersRequest s i a m
    go (inl j) = f m j d
    go (inr (inl e)) = g m e d
    go (inr (inr e)) = elim e [ ]

-- a reply to the request that came
replied_to : (s : ℕ) (i : ServerInput) (t : ServerTurn) (q : Message) (b : Body) → t.state.id.0 ≡ s → i ≡ Control q → q.header.to ≡ 32768 + s → is_request q.body ≡ true → (may_date q.header.number b ≡ true → authority.may_ack t.state.authority (sender q.header) ≡ true) →
    (m : Message) → ◌≡◌ {A = Output} (outputs.Send m) (outputs.Send (record { header = reply_header t.state q.header; body = b })) → may_date m.header.number m.body ≡ true → AnswersRequest s i t.state.authority m
replied_to s i t q b id came to r free m e d = subst (AnswersRequest s i t.state.authority) (sym (same m e)) (here (subst (λ (m : Message). may_date m.header.number m.body ≡ true) (same m e) d))
  where
    reply_is : Message
    reply_is = record { header = reply_header t.state q.header; body = b }

    same : (m : Message) → ◌≡◌ {A = Output} (outputs.Send m) (outputs.Send (record { header = reply_header t.state q.header; body = b })) → m ≡ record { header = reply_header t.state q.header; body = b }
    same m e = cc

    here : may_date q.header.number b ≡ true → AnswersRequest s i t.state.authority (record { header = reply_header t.state q.header; body = b })
    here d = record {
      ack = free d;
      request = q;
      came = came;
      asks = r;
      replies = and_both (may_date q.header.number b) _ d
          (and_both (goes_back q.header (reply_header t.state q.header)) (answers_to q.header (reply_header t.state q.header))
          (and_both (32768 + t.state.id.0 == q.header.to) (q.header.from == q.header.from) (eq-eqb _ _ (ap (λ n. 32768 + n) id ∙ sym to)) (eq-eqb q.header.from q.header.from refl))
          (and_both (q.header.life == q.header.life) ((q.header.number == q.header.number) && (q.header.stamp == q.header.stamp)) (eq-eqb q.header.life q.header.life refl)
          (and_both (q.header.number == q.header.number) (q.header.stamp == q.header.stamp) (eq-eqb q.header.number q.header.number refl) (eq-eqb q.header.stamp q.header.stamp refl))));
    }

-- what no reply dates
no_date : (s : ℕ) (i : ServerInput) (a : Authority) (o : Output) → ((m : Message) → outputs.Send m ≡ o → may_date m.header.number m.body ≡ false) → (m : Message) → outputs.Send m ≡ o → may_date m.header.number m.body ≡ true → AnswersRequest s i a m
no_date s i a o f m e d = absurd (not_both _ d (f m e))

-- timers that are not over are all kept
kept_timers : (a : Authority) (now : Stamp) (c : ClientId) → ((x : Suspect) → Has x a.suspects → is_over a.wait now x ≡ false) → suspect_of (authority.still_running a now) c ≡ suspect_of a c
unfolding authority.still_running
kept_timers a now c y = find_kept_in (authority.is_suspect c) (λ s. not (is_over a.wait now s)) a.suspects (λ x h e. ap not (y x h))

kept_young : (a : Authority) (now : Stamp) → ((x : Suspect) → Has x a.suspects → is_over a.wait now x ≡ false) → (x : Suspect) → Has x (authority.still_running a now).suspects → is_over (authority.still_running a now).wait now x ≡ false
unfolding authority.still_running
kept_young a now y x h = y x (has_filter _ a.suspects x h).0

kept_wait : (a : Authority) (now : Stamp) → (authority.still_running a now).wait ≡ a.wait
unfolding authority.still_running
kept_wait a now = refl

suspect_there : (a : Authority) (c : ClientId) (now : Stamp) → is_some (suspect_of (authority.suspect a c now) c) ≡ true
unfolding authority.suspect authority.start_timer
suspect_there a c now =
    cond_either (λ (b : Authority). is_some (suspect_of b c) ≡ true) (authority.may_ack a c) (record a { suspects = authority.with_suspect (authority.new_suspect c now) a.suspects }) a
    (λ e. ap is_some (suspect_own (authority.new_suspect c now) c.0 refl a.suspects (none_of (suspect_of a c) (not_true _ e)))) (λ e. not_false _ e)
  where
    none_of : (o : Option Suspect) → is_some o ≡ false → o ≡ None
    none_of None e = refl
    none_of (Some x) e = cc

suspect_apart : (a : Authority) (c : ClientId) (now : Stamp) (d : ClientId) → c.0 ≢ d.0 → is_some (suspect_of a d) ≡ true → is_some (suspect_of (authority.suspect a c now) d) ≡ true
unfolding authority.suspect authority.start_timer
suspect_apart a c now d ne h =
    cond_either (λ (b : Authority). is_some (suspect_of b d) ≡ true) (authority.may_ack a c) (record a { suspects = authority.with_suspect (authority.new_suspect c now) a.suspects }) a
    (λ e. ap is_some (suspect_other (authority.new_suspect c now) d.0 ne a.suspects) ∙ h) (λ e. h)

pub suspect_stays : (a : Authority) (c : ClientId) (now : Stamp) (d : ClientId) → is_some (suspect_of a d) ≡ true → is_some (suspect_of (authority.suspect a c now) d) ≡ true
suspect_stays a c now d h = go (same_or_not c.0 d.0)
  where
    go : (c.0 ≡ d.0) ⊎ (c.0 ≢ d.0) → is_some (suspect_of (authority.suspect a c now) d) ≡ true
    go (inl e) = subst (λ n. is_some (suspect_of (authority.suspect a c now) (client n)) ≡ true) e (suspect_there a c now)
    go (inr ne) = suspect_apart a c now d ne h

young_more : (a : Authority) (c : ClientId) (now : Stamp) → 0 < a.wait → ((x : Suspect) → Has x a.suspects → is_over a.wait now x ≡ false) → (x : Suspect) → Has x (authority.suspect a c now).suspects → is_over (authority.suspect a c now).wait now x ≡ false
unfolding authority.suspect authority.start_timer
young_more a c now pos y x h = by (authority.may_ack a c) h
  where
    go : (x ≡ authority.new_suspect c now) ⊎ Has x a.suspects → is_over a.wait now x ≡ false
    go (inl e) = subst (λ (v : Suspect). is_over a.wait now v ≡ false) (sym e) (lt-leb (now.0 + a.wait) now.0 (omega arith))
    go (inr i) = y x i

    by : (b : Bool) → Has x (cond b (record a { suspects = authority.with_suspect (authority.new_suspect c now) a.suspects }) a).suspects → is_over (cond b (record a { suspects = authority.with_suspect (authority.new_suspect c now) a.suspects }) a).wait now x ≡ false
    by true i = go (has_suspect (authority.new_suspect c now) a.suspects x i)
    by false i = y x i

none_sent : (os : List Output) (o : Output) → NoSends os → (m : Message) → Has (outputs.Send m) (os ++ o ∷ []) → (outputs.Send m ≡ o → ⊥) → ⊥
none_sent [] o q m (inl e) f = f e
none_sent [] o q m (inr h) f = h
none_sent (outputs.Send x ∷ os) o q m h f = q
none_sent (outputs.Note x ∷ os) o q m (inl e) f = cc
none_sent (outputs.Note x ∷ os) o q m (inr h) f = none_sent os o q m h f
none_sent (outputs.Answer x y ∷ os) o q m (inl e) f = cc
none_sent (outputs.Answer x y ∷ os) o q m (inr h) f = none_sent os o q m h f
none_sent (outputs.Submit x y z ∷ os) o q m (inl e) f = cc
none_sent (outputs.Submit x y z ∷ os) o q m (inr h) f = none_sent os o q m h f

-- grants and demands that answer no request date nothing
grant_dates_not : (m : Message) (h : Header) (ino : ℕ) (g : GrantNo) (mode : Mode) → ◌≡◌ {A = Output} (outputs.Send m) (outputs.Send (record { header = h; body = bd.Granted ino g mode })) → h.number ≡ 0 → may_date m.header.number m.body ≡ false
grant_dates_not m h ino g mode e z = ap (λ (m : Message). may_date m.header.number m.body) (same e) ∙ ap not (eq-eqb h.number 0 z)
  where
    same : ◌≡◌ {A = Output} (outputs.Send m) (outputs.Send (record { header = h; body = bd.Granted ino g mode })) → m ≡ record { header = h; body = bd.Granted ino g mode }
    same e = cc

demand_dates_not : (m : Message) (h : Header) (ino : ℕ) (g : GrantNo) (mode : Mode) → ◌≡◌ {A = Output} (outputs.Send m) (outputs.Send (record { header = h; body = bd.Demand ino g mode })) → may_date m.header.number m.body ≡ false
demand_dates_not m h ino g mode e = ap (λ (m : Message). may_date m.header.number m.body) (same e)
  where
    same : ◌≡◌ {A = Output} (outputs.Send m) (outputs.Send (record { header = h; body = bd.Demand ino g mode })) → m ≡ record { header = h; body = bd.Demand ino g mode }
    same e = cc

module _ (w : World) (s : ℕ) (n : ServerState) (now : Stamp) (i : ServerInput) (ts : List TimerStart) (to_s : (q : Message) → i ≡ Control q → q.header.to ≡ 32768 + s) where
  abbrev S : ServerId
  S = record { 0 = s }

  abbrev D : ServerTurn → Type 0
  D t = DatingTurn w s i now ts t

  -- one more output that isn't a timer's, if the rest of what this speaks of is as it was
  said : (t : ServerTurn) (o : Output) → timers_by w S (o ∷ []) (timers_by w S t.out ts) ≡ timers_by w S t.out ts → ((m : Message) → outputs.Send m ≡ o → may_date m.header.number m.body ≡ true → AnswersRequest s i t.state.authority m) → D t → D (record t { out = t.out ++ o ∷ [] })
  said t o e g d = record {
    id = d.id;
    wait = d.wait;
    young = d.young;
    timers = λ x h f. d.timers x (subst (Has x) (same_timers w S t.out o ts e) h) f;
    sends = sent_one s i t.state.authority t.out o d.sends g;
  }

  -- a timer starts, if nothing was sent yet
  starts_timer : (t : ServerTurn) (c : ClientId) → NoSends t.out → authority.may_ack t.state.authority c ≡ true → D t → D (suspect_client t now c)
  unfolding suspect_client
  starts_timer t c quiet free d = record {
    id = d.id;
    wait = subst (λ a. 0 < a) (sym (suspect_wait t.state.authority c now)) d.wait;
    young = young_more t.state.authority c now d.wait d.young;
    timers = λ x h f. by x f (has_append (timers_by w S t.out ts) (timer_start w S c ∷ []) x (subst (Has x) (timers_more w S t.out (outputs.Note (notes.Suspected c now)) ts) h));
    sends = λ m h e. absurd (none_sent t.out (outputs.Note (notes.Suspected c now)) quiet m h (λ z. cc));
  }
    where
      by : (x : TimerStart) → x.server.0 ≡ s → Has x (timers_by w S t.out ts) ⊎ Has x (timer_start w S c ∷ []) → is_some (suspect_of (authority.suspect t.state.authority c now) x.client) ≡ true
      by x f (inl h) = suspect_stays t.state.authority c now x.client (d.timers x h f)
      by x f (inr (inl e)) = subst (λ (y : TimerStart). is_some (suspect_of (authority.suspect t.state.authority c now) y.client) ≡ true) (sym e) (suspect_there t.state.authority c now)
      by x f (inr (inr e)) = elim e [ ]

  -- more of the parts of which this does not speak
  same_parts : (t : ServerTurn) (v : ServerState) → v.id ≡ t.state.id → v.authority ≡ t.state.authority → D t → D (record t { state = v })
  same_parts t v e f d = record {
    id = ap (λ (x : ServerId). x.0) e ∙ d.id;
    wait = subst (λ (a : Authority). 0 < a.wait) (sym f) d.wait;
    young = subst (λ (a : Authority). (x : Suspect) → Has x a.suspects → is_over a.wait now x ≡ false) (sym f) d.young;
    timers = subst (λ (a : Authority). (x : TimerStart) → Has x (timers_by w S t.out ts) → x.server.0 ≡ s → is_some (suspect_of a x.client) ≡ true) (sym f) d.timers;
    sends = subst (λ (a : Authority). (m : Message) → Has (outputs.Send m) t.out → may_date m.header.number m.body ≡ true → AnswersRequest s i a m) (sym f) d.sends;
  }

  -- a reply to the request
  replied : (t : ServerTurn) (v : ServerState) (q : Message) (b : Body) → v.id ≡ t.state.id → v.authority ≡ t.state.authority → i ≡ Control q → is_request q.body ≡ true → (may_date q.header.number b ≡ true → authority.may_ack t.state.authority (sender q.header) ≡ true) → D t → D (reply (record t { state = v }) q.header b)
  unfolding reply
  replied t v q b e f came r free d =
      let d2 = same_parts t v e f d in
      said (record t { state = v }) (outputs.Send (record { header = reply_header v q.header; body = b })) refl
      (replied_to s i (record t { state = v }) q b d2.id came (to_s q came) r (subst (λ (a : Authority). may_date q.header.number b ≡ true → authority.may_ack a (sender q.header) ≡ true) (sym f) free)) d2

  taken_out : (t : ServerTurn) → D t → D (with_authority (authority.still_running t.state.authority now) t)
  taken_out t d = record {
    id = d.id;
    wait = subst (λ a. 0 < a) (sym (kept_wait t.state.authority now)) d.wait;
    young = kept_young t.state.authority now d.young;
    timers = λ x h f. ap is_some (kept_timers t.state.authority now x.client d.young) ∙ d.timers x h f;
    sends = λ m h e. let a = d.sends m h e in record { ack = ap (λ o. not (is_some o)) (kept_timers t.state.authority now (client m.header.to) d.young) ∙ a.ack; request = a.request; came = a.came; asks = a.asks; replies = a.replies };
  }

  stolen : (t : ServerTurn) (c : ClientId) (x : Session) → D t → D (steal_from t c x)
  unfolding steal_from
  stolen t c x d = record {
    id = d.id;
    wait = d.wait;
    young = d.young;
    timers = λ y h f. d.timers y (has_filter (λ z. not (is_timer_of S c z)) (timers_by w S t.out ts) y (subst (Has y) (timers_more w S t.out (outputs.Note (notes.Stolen c x.life)) ts) h)).0 f;
    sends = sent_one s i t.state.authority t.out (outputs.Note (notes.Stolen c x.life)) d.sends (λ m e. cc);
  }

  pub dating_edit : (t u : ServerTurn) → Edit n now i t u → D t → D u
  unfolding keep_and_reply tell
  dating_edit t u (TakesTimers _ first) d = taken_out t d
  dating_edit t u (Steals _ c x h e) d = stolen t c x d
  dating_edit t u (Suspects _ c q f z) d = starts_timer t c q f d
  dating_edit t u (Begins _ c life) d = same_parts t _ refl refl d
  dating_edit t u (DropsWaits _ m s is b e lower) d = same_parts t _ refl refl d
  dating_edit t u (Keeps _ c number b e) d = same_parts t _ refl refl d
  dating_edit t u (Reasserts _ m rows is wi g f) d = same_parts t _ refl refl d
  dating_edit t u (Sees _ m ino g is fi b) d = same_parts t _ refl refl d
  dating_edit t u (Acquires _ m ino mode l b s is fi eb es el ok k a) d = replied t _ m b refl refl is ok.request ok.free d
  dating_edit t u (Releases _ m ino g to r is fi b er eu) d = same_parts t _ refl refl d
  dating_edit t u (DropsFile _ m dir name g ino is b e) d = same_parts t _ refl refl d
  dating_edit t u (Grants _ wt off h first f) d = same_parts t _ refl refl d
  dating_edit t u (Demands _ r x to er ed) d = same_parts t _ refl refl d
  dating_edit t u (NamesChange _ v) d = same_parts t _ refl refl d
  dating_edit t u (ExtentsChange _ v) d = same_parts t _ refl refl d
  dating_edit t u (Cuts _ f p) d = said t (outputs.Note (notes.CutDone f p)) refl (λ m e. cc) d
  dating_edit t u (Replies _ m b is ok) d = replied t t.state m b refl refl is ok.request ok.free d
  dating_edit t u (Repeats _ m x last b is r f e g) d = replied t t.state m b refl refl is r (λ z. f) d
  dating_edit t u (Refuses _ m rows r is f g e) d = replied t t.state m _ refl refl is (ap is_request g.body) (λ z. f) d
  dating_edit t u (TellsGrant _ c life ino g mode) d = said t _ refl (no_date s i t.state.authority _ (λ m e. grant_dates_not m (own_header t.state c life) ino g mode e refl)) d
  dating_edit t u (TellsDemand _ c life ino g mode) d = said t _ refl (no_date s i t.state.authority _ (λ m e. demand_dates_not m (own_header t.state c life) ino g mode e)) d
