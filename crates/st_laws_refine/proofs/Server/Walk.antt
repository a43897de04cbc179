-- What every small change of a step keeps, the whole step keeps: each change of the trace is a list of small ones.
use Rattle.st_lemmas.proofs.Words
use Words.{◌≡◌, ℕ, Bool, true, false, List, [], refl, sym, ap, ◌∙◌, subst, inl, inr, cond, Option, is_some, Result as Res, Ok, Err, ClientId, GrantNo, Life}
use Words.{Stamp, Mode, Message, Body, ServerInput, AcceptRefusal}
use Words.bodies as bd
use Words.why
use Words.serving.{Tick, Control}
use Words.Authority as authority
use Words.Dating.{is_request, may_date}
use Words.Grace as grace
use Words.Grace.{accept, accept_rows}
use Words.Locks as locks
use Words.Locks.{Locks}
use Words.Names as names
use Words.Safety.{is_conflict}
use Words.Sessions as sessions
use Words.Server as sv
use Words.Server.{ServerState, ServerTurn, turn, with_locks, sender, life_in, reply, thefts, keep_and_reply, take_input, suspecting, granting, demanding}
use Words.Server.{server_step, refused_reassertion}
use Words.Tables.{not_true}
use Rattle.st_rules.specs.declared.authority.AcceptRefusal.TheVariants as refusals
use Rattle.st_trace.specs.Server.Edits as tr
use Rattle.st_trace.specs.Server.Edits.{NoSends}
use Rattle.st_trace.proofs.Server.Walk as trace
use Rattle.st_laws_refine.specs.Server.Edits.{Wish, WishInput, is_kept, Acquired, AtOnce, InTurn, InGrace, Edit, TakesTimers, Steals, Suspects, Begins}
use Rattle.st_laws_refine.specs.Server.Edits.{DropsWaits, Keeps, Reasserts, Sees, Acquires, Releases, DropsFile, Grants, Demands, NamesChange, ExtentsChange}
use Rattle.st_laws_refine.specs.Server.Edits.{Cuts, Replies, Repeats, Refuses, TellsGrant, TellsDemand}

-- what is kept isn't a conflict
pub kept_calm : (b : Body) → is_kept b ≡ true → is_conflict b ≡ false
kept_calm (bd.Nack why.Conflict a b) e = cc
kept_calm b e = refl

-- outside grace a reassertion comes too late
accept_off : (g : Option grace.Grace) (now : Stamp) (c : ClientId) (life : Life) (rs : List (ℕ × GrantNo × Mode)) (l : Locks) (t : sessions.Sessions)
    (r : AcceptRefusal) →
    grace.is_on g now ≡ false → accept g now c life rs l t ≡ Err r → r ≡ refusals.GraceOver (grace.grace_start g) now
unfolding accept
accept_off g now c life rs l t r e f = err_is r (refusals.GraceOver (grace.grace_start g) now)
    (sym f ∙ ap (λ b. cond b (accept_rows l t c life rs) (Err (refusals.GraceOver (grace.grace_start g) now))) e)
  where
    err_is : (x y : AcceptRefusal) → ◌≡◌ {A = Res grace.Accepted AcceptRefusal} (Err x) (Err y) → x ≡ y
    err_is x y e = cc

-- what is reported about a request is kept
told_kept : (t : ServerTurn) (m : Message) (b r : Body) → tr.Told t m.header b r → is_kept r ≡ true
told_kept t m b r tr.IsAlive = refl
told_kept t m b r (tr.IsHeld ino mode x f e q) = refl
told_kept t m b r (tr.HasTooMany ino mode f e q) = refl
told_kept t m b r (tr.HasNoRow ino g to e) = refl
told_kept t m b r (tr.IsMapped ino g p f e) = refl
told_kept t m b r (tr.IsNoFile _ ino e f) = refl
told_kept t m b r (tr.HoldsNot _ ino g mode e f q) = refl
told_kept t m b r (tr.HasNoSpace ino g p k x y f q e) = refl
told_kept t m b r (tr.IsNamed dir x ino e) = refl
told_kept t m b r (tr.AreListed dir x rows e) = refl
told_kept t m b r (tr.IsRefused op x e) = refl
told_kept t m b r (tr.RemovesNot dir x g ino l f q) = refl

module _ (n : ServerState) (now : Stamp) (i : ServerInput) (P : ServerTurn → Type 0) (keeps : (t u : ServerTurn) → Edit n now i t u → P t → P u) where
  edit : {t u : ServerTurn} → Edit n now i t u → P t → P u
  edit {t} {u} e p = keeps t u e p

  says : (t u : ServerTurn) (m : Message) (b : Body) → tr.Came n now i t m → is_request m.body ≡ true → is_conflict b ≡ false →
      (may_date m.header.number b ≡ true → authority.may_ack u.state.authority (sender m.header) ≡ true) → P u → P (reply u m.header b)
  says t u m b c r e f p = edit (Replies u m b c.is (record { calm = e; free = f; request = r })) p

  answer : (t u : ServerTurn) (m : Message) (b : Body) → tr.Served n now i t m → is_kept b ≡ true → u.state.authority ≡ t.state.authority → P u →
      P (keep_and_reply u m.header b)
  unfolding keep_and_reply
  answer t u m b s k e p =
      says t _ m b s.asked.heard.came s.asked.request (kept_calm b k) (λ d. ap (λ a. authority.may_ack a (sender m.header)) e ∙ s.asked.heard.free)
      (edit (Keeps u (sender m.header) m.header.number b k) p)

  -- each change of the trace, by its phase
  small_thefts : (t u : ServerTurn) → tr.Edit n now i tr.AtThefts t u → P t → P u
  small_thefts t u (tr.TakesTimers _ e) p = edit (TakesTimers t e) p
  small_thefts t u (tr.Steals _ c s h e) p = edit (Steals t c s h e) p

  small_suspicion : (t u : ServerTurn) → tr.Edit n now i tr.AtSuspicion t u → P t → P u
  small_suspicion t u (tr.Suspects _ c r is q f h e o) p = edit (Suspects t c q f (inr (r, h, e))) p

  small_grants : (t u : ServerTurn) → tr.Edit n now i tr.AtGrants t u → P t → P u
  small_grants t u (tr.Grants _ w off h e f) p = edit (TellsGrant _ w.client w.life w.ino (locks.next_grant t.state.locks) w.mode)
      (edit (Grants t w off h e f) p)

  small_demands : (t u : ServerTurn) → tr.Edit n now i tr.AtDemands t u → P t → P u
  small_demands t u (tr.Demands _ w r x e k o f d) p = edit (TellsDemand _ r.client r.life r.ino r.g x.to) (edit (Demands t r x (locks.wish w.mode) f d) p)

module _ (n : ServerState) (now : Stamp) (i : ServerInput) (P : ServerTurn → Type 0) (keeps : (t u : ServerTurn) → Edit n now i t u → P t →
    P u) (w : WishInput i) where
  change : {t u : ServerTurn} → Edit n now i t u → P t → P u
  change {t} {u} e p = keeps t u e p

  wish : (m : Message) (t : ServerTurn) → tr.Came n now i t m → Wish m.body
  wish m t c = subst WishInput c.is w c.from

  in_grace : (t : ServerTurn) (m : Message) (rows : List (ℕ × GrantNo × Mode)) → tr.Reasserted n now i t m rows →
      grace.is_on t.state.grace now ≡ true → InGrace n now t m rows
  in_grace t m rows r on =
      let c = r.asked.heard.came in record { from = c.from; there = c.there; body = r.asks; first = c.first; on = on; epoch = r.asked.epoch; new = r.new }

  acquired : (t : ServerTurn) (m : Message) (ino : ℕ) (mode : Mode) (l : Locks) (b : Body) → tr.Served n now i t m → m.body ≡ bd.Acquire ino mode →
      is_kept b ≡ true →
      Acquired (grace.is_on t.state.grace now) t.state.locks (sender m.header) (life_in m.header) ino mode l → P t →
      P (keep_and_reply (with_locks l t) m.header b)
  acquired t m ino mode l b s q k a p =
      let c = s.asked.heard.came in
      change (Acquires t m ino mode l b s.in_life.session c.is c.first q s.in_life.is s.in_life.of_life
      (record { calm = kept_calm b k; free = λ d. s.asked.heard.free; request = s.asked.request }) k a) p

  served : (t : ServerTurn) (m : Message) (b : Body) (u : ServerTurn) (r : Body) → tr.Served n now i t m → m.body ≡ b →
      tr.Ruled now t m.header b u r → P t → P (keep_and_reply u m.header r)
  unfolding sv.cut_pages sv.cut_whole
  served t m b u r s q (tr.Tells _ _ x) p = answer n now i P keeps t t m r s (told_kept t m b r x) refl p
  served t m b u r s q (tr.Acquires ino mode a f l (tr.AtOnce g x y)) p = acquired t m ino mode _ _ s q refl
      (AtOnce (not_true (grace.is_on t.state.grace now) g) (subst Wish q (wish m t s.asked.heard.came)) x y) p
  served t m b u r s q (tr.Acquires ino mode a f l (tr.InTurn g)) p = acquired t m ino mode _ _ s q refl (InTurn (subst Wish q (wish m t s.asked.heard.came))) p
  served t m b u r s q (tr.Releases ino g to x e f) p = answer n now i P keeps t _ m bd.Ack s refl refl
      (change (Releases t m ino g to x s.asked.heard.came.is s.asked.heard.came.first q e f) p)
  served t m b u r s q (tr.Allocates ino g pg k x f e a) p = answer n now i P keeps t _ m _ s refl refl (change (ExtentsChange t x) p)
  served t m b u r s q (tr.Cuts ino g pg f e) p = answer n now i P keeps t _ m bd.Ack s refl refl (change (Cuts _ _ pg) (change (ExtentsChange t _) p))
  served t m b u r s q (tr.Creates dir x d e) p = answer n now i P keeps t _ m _ s refl refl (change (NamesChange t d.names) p)
  served t m b u r s q (tr.MakesDir dir x d e) p = answer n now i P keeps t _ m _ s refl refl (change (NamesChange t d.names) p)
  served t m b u r s q (tr.Renames dir x dir2 x2 d e) p = answer n now i P keeps t _ m _ s refl refl (change (NamesChange t d.names) p)
  served t m b u r s q (tr.RemovesDir dir x g ino d l f z e j) p = answer n now i P keeps t _ m _ s refl refl (change (NamesChange t d.names) p)
  served t m b u r s q (tr.RemovesFile dir x g ino d l f z e j) p =
      answer n now i P keeps t _ m _ s refl refl
      (change (Cuts _ _ _) (change (ExtentsChange _ _)
      (change (DropsFile _ m dir x g d.ino s.asked.heard.came.is q (ap (λ (u : ServerTurn). names.lookup u.state.stable.names dir x)
      (sym s.asked.heard.came.first) ∙ l ∙ ap Ok (sym j)))
      (change (NamesChange t d.names) p))))

  refused : (t : ServerTurn) (m : Message) (b : Body) → tr.Refused n now i t m b → P t → P (reply t m.header b)
  refused t m b (tr.IsSuspect start c r e) p = says n now i P keeps t t m _ c r refl (λ d. cc) p
  refused t m b (tr.GreetsInGrace h asks on) p = says n now i P keeps t t m _ h.came (ap is_request asks) refl (λ d. cc) p
  refused t m b (tr.OfOtherEpoch h r) p = says n now i P keeps t t m _ h.came r refl (λ d. cc) p
  refused t m b (tr.HasNoSession a e) p = says n now i P keeps t t m _ a.heard.came a.request refl (λ d. cc) p
  refused t m b (tr.IsRefusedRows rows x r e) p = by_grace (grace.is_on t.state.grace now) refl
    where
      by_grace : (g : Bool) → grace.is_on t.state.grace now ≡ g → P (reply t m.header (refused_reassertion x))
      by_grace true on = change (Refuses t m rows x r.asked.heard.came.is r.asked.heard.free (in_grace t m rows r on) e) p
      by_grace false off =
          subst (λ x. P (reply t m.header (refused_reassertion x)))
          (sym (accept_off t.state.grace now (sender m.header) (life_in m.header) rows t.state.locks t.state.sessions x off e))
          (says n now i P keeps t t m _ r.asked.heard.came r.asked.request refl (λ d. cc) p)

  small_input : (t u : ServerTurn) → tr.Edit n now i tr.AtInput t u → P t → P u
  small_input t u (tr.Welcomes _ m s g e x f) p = says n now i P keeps t t m bd.Welcome g.heard.came (ap is_request g.asks) refl (λ d. g.heard.free) p
  small_input t u (tr.Begins _ m g f) p = says n now i P keeps t _ m bd.Welcome g.heard.came (ap is_request g.asks) refl (λ d. g.heard.free)
      (change (Begins t (sender m.header) (life_in m.header)) p)
  small_input t u (tr.Replaces _ m s g e x f r) p =
      says n now i P keeps t _ m bd.Welcome g.heard.came (ap is_request g.asks) refl (λ d. g.heard.free)
      (change (DropsWaits _ m s g.heard.came.is g.asks (ap (λ (v : ServerTurn). sessions.session_of v.state.sessions (sender m.header))
      (sym g.heard.came.first) ∙ e) f)
      (change (Begins t (sender m.header) (life_in m.header)) p))
  small_input t u (tr.PutsOff _ m s g e x f r) p =
      says n now i P keeps t _ m _ g.heard.came (ap is_request g.asks) refl (λ d. cc) (change
      (Suspects t (sender m.header) g.heard.came.begun.quiet g.heard.free (inl (ap is_some e))) p)
  small_input t u (tr.Sees _ m ino g h b e) p = change (Sees t m ino g h.came.is h.came.first b) p
  small_input t u (tr.Reasserts _ m rows r on f) p =
      says n now i P keeps t _ m bd.Reasserted r.asked.heard.came r.asked.request refl (λ d. r.asked.heard.free)
      (change (Reasserts t m rows r.asked.heard.came.is (subst Wish r.asks (wish m t r.asked.heard.came)) (in_grace t m rows r on) f) p)
  small_input t u (tr.Serves _ m v b s e r) p = served t m m.body v b s refl r p
  small_input t u (tr.Repeats _ m s b k e f g st) p = change (Repeats t m s m.header.number b k.heard.came.is k.request k.heard.free f st) p
  small_input t u (tr.Refuses _ m b r) p = refused t m b r p

  small : (a : tr.Phase) (t u : ServerTurn) → tr.Edit n now i a t u → P t → P u
  small tr.AtThefts t u e p = small_thefts n now i P keeps t u e p
  small tr.AtInput t u e p = small_input t u e p
  small tr.AtSuspicion t u e p = small_suspicion n now i P keeps t u e p
  small tr.AtGrants t u e p = small_grants n now i P keeps t u e p
  small tr.AtDemands t u e p = small_demands n now i P keeps t u e p

-- a whole step, and only after the thefts
pub walk : (n : ServerState) (now : Stamp) (i : ServerInput) (P : ServerTurn → Type 0) → ((t u : ServerTurn) → Edit n now i t u → P t → P u) →
    WishInput i → P (turn n []) → P (server_step n now i)
walk n now i P k w p = trace.walk n now i P (small n now i P k w) p

pub walk_on : (n : ServerState) (now : Stamp) (i : ServerInput) (P : ServerTurn → Type 0) → ((t u : ServerTurn) → Edit n now i t u → P t → P u) →
    WishInput i → P (thefts (turn n []) now) → P (server_step n now i)
walk_on n now i P k w p = trace.walk_on n now i P (small n now i P k w) p

-- and its parts
pub kept_by_message : (n : ServerState) (now : Stamp) (m : Message) (P : ServerTurn → Type 0) → ((t u : ServerTurn) → Edit n now (Control m) t u → P t → P u) →
    WishInput (Control m) → P (thefts (turn n []) now) → P (take_input (thefts (turn n []) now) now (Control m))
kept_by_message n now m P k w p = trace.walk_of_input n now (Control m) P P (λ t q. q) (small_input n now (Control m) P k w) p

pub kept_by_suspicions : (n : ServerState) (now : Stamp) (P : ServerTurn → Type 0) → ((t u : ServerTurn) → Edit n now Tick t u → P t → P u) →
    (t : ServerTurn) → NoSends t.out → P t → P (suspecting t now)
kept_by_suspicions n now P k t q p = trace.walk_of_suspecting n now Tick P (small_suspicion n now Tick P k) t refl q p

pub kept_by_grants : (n : ServerState) (now : Stamp) (i : ServerInput) (P : ServerTurn → Type 0) → ((t u : ServerTurn) → Edit n now i t u → P t → P u) →
    (t : ServerTurn) → P t → P (granting t now)
kept_by_grants n now i P k t p = trace.walk_of_granting n now i P (small_grants n now i P k) t p

pub kept_by_demands : (n : ServerState) (now : Stamp) (i : ServerInput) (P : ServerTurn → Type 0) → ((t u : ServerTurn) → Edit n now i t u → P t → P u) →
    (t : ServerTurn) → P t → P (demanding t now i)
kept_by_demands n now i P k t p = trace.walk_of_demanding n now i P (small_demands n now i P k) t p
