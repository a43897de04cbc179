-- Replies of a kind: each that a server sends or keeps is of a request that it served, or refuses a reassertion; a cut that it acknowledges
-- was noted, and names did and said what a reply for a name says.
use Rattle.st_lemmas.proofs.Words
use Words.{◌≡◌, ℕ, ◌⊎◌, Bool, true, false, List, [], ◌∷◌, ◌++◌, ◌==◌, refl, sym, ap, ◌∙◌, subst, inl, inr, if◌then◌else◌, Option, Some, None, Result as Res, Ok}
use Words.{Err, option_map, eqb-true, eq-eqb, ClientId, Epoch, ServerId, GrantNo, Life, Stamp, Mode, NameRow, Header, Message, Body, NameOp, Why, Note, Output}
use Words.{ServerInput, EntryRefusal, Session, SessionState}
use Words.modes
use Words.answers
use Words.bodies as bd
use Words.ops.{Lookup, Create, Mkdir, Remove, Rename, List as ListFrom}
use Words.replies
use Words.why
use Words.notes
use Words.outputs
use Words.serving.{Tick, Control}
use Words.states
use Words.takes
use Words.Locks as locks
use Words.Locks.{Locks}
use Words.Sessions as sessions
use Words.ClientReplies as cr
use Words.ClientState.{reasserts}
use Words.Keys.{client, server_node}
use Words.Names as names
use Words.Names.{Names}
use Words.Server as sv
use Words.Server.{ServerState, Stable, ServerTurn, Replied, turn, with_locks, with_sessions, sender, life_in, note, reply, say, tell, steal_from, thefts}
use Words.Server.{suspect_client, rule, keep_and_reply, server_step}
use Words.Lists.{Has}
use Words.Lookups.{some_is}
use Words.Tables.{find_map, found_at, has_append}
use Words.Members.{has_left, has_right}
use Words.Serving.{end_client}
use Words.Truth.{client_is, if_either}
use Rattle.st_rules.specs.declared.names.EntryRefusal.TheVariants.{IsDir}
use Rattle.st_lemmas.proofs.Puts.{find_put_by, find_put_other}
use Rattle.st_promises.specs.NameAnswers.{Saying, changed, found, listed, refused, said}
use Rattle.st_laws_requests.specs.Cuts.Cuts.{KeptBy, does, does_remove, does_remove_dir, is_report}
use Rattle.st_trace.specs.Server.Edits as edits
use Rattle.st_trace.specs.Server.Edits.{AtThefts, AtInput, AtSuspicion, AtGrants, AtDemands, Came, Served, Refused, IsSuspect, GreetsInGrace, OfOtherEpoch}
use Rattle.st_trace.specs.Server.Edits.{HasNoSession, IsRefusedRows, Edit, TakesTimers, Steals, Welcomes, Begins, Replaces, PutsOff, Sees, Reasserts, Repeats}
use Rattle.st_trace.specs.Server.Edits.{Refuses, Suspects, Grants, Demands}
use Rattle.st_trace.proofs.Server.Input.{walk_of_thefts}
use Rattle.st_trace.proofs.Server.Taking.{clash}
use Rattle.st_trace.proofs.Server.Walk.{walk_in_two}
use Rattle.st_laws_requests.proofs.Clients.{keep_client}
use Rattle.st_laws_requests.proofs.Rules.{ruled}

-- Replies of a kind: none of them greets, tells of a lock, or refuses a client.
pub record Kind (Q : Body → Bool) : Type 0 where
  pub welcome : Q bd.Welcome ≡ false
  pub reasserted : Q bd.Reasserted ≡ false
  pub granted : (ino : ℕ) (g : GrantNo) (mode : Mode) → Q (bd.Granted ino g mode) ≡ false
  pub demand : (ino : ℕ) (g : GrantNo) (mode : Mode) → Q (bd.Demand ino g mode) ≡ false
  pub suspect : (x y : ℕ) → Q (bd.Nack why.Suspect x y) ≡ false
  pub no_session : (x y : ℕ) → Q (bd.Nack why.NoSession x y) ≡ false
  pub other_epoch : (x y : ℕ) → Q (bd.Nack why.OtherEpoch x y) ≡ false
  pub grace : (x y : ℕ) → Q (bd.Nack why.Grace x y) ≡ false

-- reports are of a kind
pub report_kind : Kind is_report
report_kind =
    record {
      welcome = refl;
      reasserted = refl;
      granted = λ ino g mode. refl;
      demand = λ ino g mode. refl;
      suspect = λ x y. refl;
      no_session = λ x y. refl;
      other_epoch = λ x y. refl;
      grace = λ x y. refl;
    }

-- Sessions, with a fact of each reply of these that is kept.
module _ (Q : Body → Bool) (A : ClientId → ℕ → ℕ → Body → Type 0) where
  abbrev pub Keeps : sessions.Sessions → Type 0
  Keeps t = (c : ClientId) (x : Session) → sessions.session_of t c ≡ Some x → KeptBy Q (A c x.life.0) x.state

  pub kept_new : (t : sessions.Sessions) (x : Session) → ((B : ℕ → Body → Type 0) → KeptBy Q B x.state) → Keeps t → Keeps (sessions.with_session x t)
  kept_new t x k o d y h = go (sessions.is_session_of d x) refl
    where
      other : (z : Session) → (x.client.0 == d.0) ≡ false → sessions.is_session_of d z ≡ true → sessions.is_session_of x.client z ≡ false
      other z f e = pick (z.client.0 == x.client.0) refl
        where
          pick : (b : Bool) → (z.client.0 == x.client.0) ≡ b → b ≡ false
          pick true g = absurd (clash (eq-eqb x.client.0 d.0 (sym (eqb-true _ _ g) ∙ eqb-true _ _ e)) f)
          pick false g = refl

      go : (b : Bool) → sessions.is_session_of d x ≡ b → KeptBy Q (A d y.life.0) y.state
      go true e =
          let i = find_put_by (sessions.is_session_of d) (sessions.is_session_of x.client) x t.rows e
          (λ z f. eq-eqb z.client.0 x.client.0 (eqb-true _ _ f ∙ sym (eqb-true _ _ e))) in
          subst (λ (z : Session). KeptBy Q (A d z.life.0) z.state) (some_is (sym i ∙ h)) (k (A d x.life.0))
      go false e = o d y (sym (find_put_other (sessions.is_session_of d) (sessions.is_session_of x.client) x t.rows e (λ z f. other z e f)) ∙ h)

  -- sessions that were changed in place
  kept_map : (t : sessions.Sessions) (f : Session → Session) → ((x : Session) → (f x).client ≡ x.client) →
      ((c : ClientId) (x : Session) → sessions.session_of t c ≡ Some x → KeptBy Q (A c (f x).life.0) (f x).state) →
      Keeps (record t { rows = Rattle.std.specs.Prelude.map f t.rows })
  kept_map t f same k d y h =
      go (sessions.session_of t d) refl (sym (find_map (sessions.is_session_of d) f (λ x. ap (λ (z : ClientId). z.0 == d.0) (same x)) t.rows) ∙ h)
    where
      go : (o : Option Session) → sessions.session_of t d ≡ o → option_map f o ≡ Some y → KeptBy Q (A d y.life.0) y.state
      go None e q = cc
      go (Some x) e q = subst (λ (z : Session). KeptBy Q (A d z.life.0) z.state) (some_is q) (k d x e)

  pub kept_stored : (t : sessions.Sessions) (c : ClientId) (number : ℕ) (b : Body) → (Q b ≡ true → (x : Session) → sessions.session_of t c ≡ Some x →
      A c x.life.0 number b) → Keeps t → Keeps (sessions.store t c number b)
  unfolding sessions.store sessions.keep_reply
  kept_stored t c number b w o = kept_map t (sessions.keep_of c number b) (keep_client c number b) (λ d x e. go d x e (sessions.is_session_of c x) refl)
    where
      kept : (B : ℕ → Body → Type 0) (z : SessionState) → (Q b ≡ true → B number b) → KeptBy Q B (sessions.kept_state number b z)
      kept B (states.Live last r) f = f
      kept B states.Ended f = tt

      go : (d : ClientId) (x : Session) → sessions.session_of t d ≡ Some x → (z : Bool) → sessions.is_session_of c x ≡ z →
          KeptBy Q (A d (if z then sessions.keep_reply number b x else x).life.0) (if z then sessions.keep_reply number b x else x).state
      go d x e true q =
          let same = client_is d c
          (eq-eqb d.0 c.0 (sym (eqb-true x.client.0 d.0 (found_at (sessions.is_session_of d) t.rows x e).0) ∙ eqb-true x.client.0 c.0 q)) in
          kept (A d x.life.0) x.state (λ f. subst (λ y. A y x.life.0 number b) (sym same) (w f x (subst (λ y. sessions.session_of t y ≡ Some x) same e)))
      go d x e false q = o d x e

  pub kept_ended : (t : sessions.Sessions) (c : ClientId) → Keeps t → Keeps (sessions.end t c)
  unfolding sessions.end sessions.ended
  kept_ended t c o = kept_map t (sessions.end_of c) (end_client c) (λ d x e. go d x e (sessions.is_session_of c x))
    where
      go : (d : ClientId) (x : Session) → sessions.session_of t d ≡ Some x → (z : Bool) →
          KeptBy Q (A d (if z then sessions.ended x else x).life.0) (if z then sessions.ended x else x).state
      go d x e true = tt
      go d x e false = o d x e

  pub kept_reasserted : (t : sessions.Sessions) (c : ClientId) (life : Life) → Q bd.Reasserted ≡ false → Keeps t → Keeps (sessions.reasserted t c life)
  unfolding sessions.reasserted
  kept_reasserted t c life n o = kept_new t (sessions.reasserted_session c life) (λ B q. absurd (clash q n)) o

-- What a step of a server keeps: of each reply of this kind and key that it sends or keeps a fact, which more outputs leave.
module _ (Q : Body → Bool) (kind : Kind Q) (s : ServerId) (e : Epoch) (F : List Output → ClientId → ℕ → ℕ → Body → Type 0)
    (more : (out os : List Output) (c : ClientId) (life number : ℕ) (b : Body) → F out c life number b → F (out ++ os) c life number b) where
  state_more : (out os : List Output) (c : ClientId) (life : ℕ) (x : SessionState) → KeptBy Q (F out c life) x → KeptBy Q (F (out ++ os) c life) x
  state_more out os c life (states.Live last (Some b)) k = λ q. more out os c life last b (k q)
  state_more out os c life (states.Live last None) k = tt
  state_more out os c life states.Ended k = tt

  -- what a message of the server is
  abbrev pub Said : List Output → Message → Type 0
  Said out x = (x.header.from ≡ server_node s) × (Q x.body ≡ true → (x.header.epoch ≡ e.0) × F out (client x.header.to) x.header.life x.header.number x.body)

  -- What holds within a step.
  pub record Acks (t : ServerTurn) : Type 0 where
    pub id : t.state.id ≡ s
    pub epoch : t.state.stable.epoch ≡ e
    pub kept : Keeps Q (F t.out) t.state.sessions
    pub sent : (x : Message) → Has (outputs.Send x) t.out → Said t.out x

  pub acks_state : (t : ServerTurn) (x : ServerState) → x.id ≡ t.state.id → x.stable.epoch ≡ t.state.stable.epoch → x.sessions ≡ t.state.sessions →
      Acks t → Acks (record t { state = x })
  acks_state t x a b c o = record { id = a ∙ o.id; epoch = b ∙ o.epoch; kept = subst (Keeps Q (F t.out)) (sym c) o.kept; sent = o.sent }

  acks_say : (t : ServerTurn) (o : Output) → ((x : Message) → outputs.Send x ≡ o → Said (t.out ++ o ∷ []) x) → Acks t → Acks (say t o)
  acks_say t o f k = record {
    id = k.id;
    epoch = k.epoch;
    kept = λ c x h. state_more t.out (o ∷ []) c x.life.0 x.state (k.kept c x h);
    sent = λ x h. go x (has_append t.out (o ∷ []) (outputs.Send x) h);
  }
    where
      go : (x : Message) → Has (outputs.Send x) t.out ⊎ Has (outputs.Send x) (o ∷ []) → Said (t.out ++ o ∷ []) x
      go x (inl h) = let z = k.sent x h in (z.0, λ q. let y = z.1 q in (y.0, more t.out (o ∷ []) (client x.header.to) x.header.life x.header.number x.body y.1))
      go x (inr (inl q)) = f x q
      go x (inr (inr n)) = absurd n

  pub acks_note : (t : ServerTurn) (x : Note) → Acks t → Acks (note t x)
  acks_note t x o = acks_say t (outputs.Note x) (λ y q. cc q) o

  pub acks_reply : (t : ServerTurn) (h : Header) (b : Body) → (Q b ≡ true → F t.out (client h.from) h.life h.number b) → Acks t → Acks (reply t h b)
  unfolding reply
  acks_reply t h b w o =
      acks_say t (outputs.Send m) (λ x q. subst (Said (t.out ++ outputs.Send m ∷ [])) (sym (same x q)) (
        ap server_node o.id,
        λ f. (ap (λ (y : Epoch). y.0) o.epoch, more t.out _ (client h.from) h.life h.number b (w f)),
      )) o
    where
      m : Message
      m = record { header = sv.reply_header t.state h; body = b }

      same : (x : Message) → outputs.Send x ≡ outputs.Send m → x ≡ m
      same x q = cc

  acks_tell : (t : ServerTurn) (c : ClientId) (life : Life) (b : Body) → (Q b ≡ true → ⊥) → Acks t → Acks (tell t c life b)
  unfolding tell
  acks_tell t c life b w o =
      acks_say t (outputs.Send m) (λ x q. subst (Said (t.out ++ outputs.Send m ∷ [])) (sym (same x q)) (ap server_node o.id, λ f. absurd (w f))) o
    where
      m : Message
      m = record { header = sv.own_header t.state c life; body = b }

      same : (x : Message) → outputs.Send x ≡ outputs.Send m → x ≡ m
      same x q = cc

  -- The same, if the names of the server are these.
  module _ (n : Names) where
    pub record O (t : ServerTurn) : Type 0 where
      pub acks : Acks t
      pub names : t.state.stable.names ≡ n

    -- other parts of the state
    own_after_state : (t : ServerTurn) (x : ServerState) → x.id ≡ t.state.id → x.stable ≡ t.state.stable → x.sessions ≡ t.state.sessions → O t →
        O (record t { state = x })
    own_after_state t x a b c o = record { acks = acks_state t x a (ap (λ (y : Stable). y.epoch) b) c o.acks; names = ap (λ (y : Stable). y.names) b ∙ o.names }

    own_after_sessions : (t : ServerTurn) (x : sessions.Sessions) → Keeps Q (F t.out) x → O t → O (with_sessions x t)
    own_after_sessions t x k o = record { acks = record { id = o.acks.id; epoch = o.acks.epoch; kept = k; sent = o.acks.sent }; names = o.names }

    own_after_note : (t : ServerTurn) (x : Note) → O t → O (note t x)
    own_after_note t x o = record { acks = acks_note t x o.acks; names = o.names }

    pub own_after_reply : (t : ServerTurn) (h : Header) (b : Body) → (Q b ≡ true → F t.out (client h.from) h.life h.number b) → O t → O (reply t h b)
    unfolding reply
    own_after_reply t h b w o = record { acks = acks_reply t h b w o.acks; names = o.names }

    own_after_tell : (t : ServerTurn) (c : ClientId) (life : Life) (b : Body) → (Q b ≡ true → ⊥) → O t → O (tell t c life b)
    unfolding tell
    own_after_tell t c life b w o = record { acks = acks_tell t c life b w o.acks; names = o.names }

    own_after_suspect : (t : ServerTurn) (now : Stamp) (c : ClientId) → O t → O (suspect_client t now c)
    unfolding suspect_client
    own_after_suspect t now c o = own_after_state _ _ refl refl refl (own_after_note t _ o)

    module _ (x : ServerState) (now : Stamp) (i : ServerInput) where
      own_after_steals : (t u : ServerTurn) → Edit x now i AtThefts t u → O t → O u
      unfolding steal_from
      own_after_steals t u (TakesTimers _ k) o = own_after_state t _ refl refl refl o
      own_after_steals t u (Steals _ c y h k) o =
          let v = own_after_note t (notes.Stolen c y.life) o in
          own_after_sessions (with_locks (locks.forget t.state.locks c) (note t (notes.Stolen c y.life))) _
          (kept_ended Q (F (t.out ++ outputs.Note (notes.Stolen c y.life) ∷ [])) t.state.sessions c v.acks.kept) (own_after_state _ _ refl refl refl v)

      own_after_suspects : (t u : ServerTurn) → Edit x now i AtSuspicion t u → O t → O u
      own_after_suspects t u (Suspects _ c r is q f h k z) o = own_after_suspect t now c o

      own_after_grants : (t u : ServerTurn) → Edit x now i AtGrants t u → O t → O u
      own_after_grants t u (Grants _ w off h k f) o = own_after_tell _ w.client w.life _ (λ q. clash q (kind.granted _ _ _))
          (own_after_state t _ refl refl refl o)

      own_after_demands : (t u : ServerTurn) → Edit x now i AtDemands t u → O t → O u
      own_after_demands t u (Demands _ w r y k h f q d) o =
          own_after_tell _ r.client r.life _ (λ z. clash z (kind.demand _ _ _)) (own_after_state t _ refl refl refl o)

      own_after_begins : (t : ServerTurn) (c : ClientId) (life : Life) → O t → O (with_sessions (sessions.with_new_session c life t.state.sessions) t)
      own_after_begins t c life o = own_after_sessions t _ (kept_new Q (F t.out) t.state.sessions (sessions.new_session c life) (λ B. tt) o.acks.kept) o

      own_after_reasserts : (t : ServerTurn) (l : Locks) (c : ClientId) (life : Life) → O t →
          O (with_sessions (sessions.reasserted t.state.sessions c life) (with_locks l t))
      own_after_reasserts t l c life o = own_after_sessions (with_locks l t) _ (kept_reasserted Q (F t.out) t.state.sessions c life kind.reasserted o.acks.kept)
          (own_after_state t _ refl refl refl o)

    pub own_after_thefts : (x : ServerState) (now : Stamp) → O (turn x []) → O (thefts (turn x []) now)
    own_after_thefts x now o = walk_of_thefts x now Tick O (own_after_steals x now Tick) o

-- A step of a server with an input, from these names.
module _ (Q : Body → Bool) (kind : Kind Q) (s : ServerId) (e : Epoch) (i : ServerInput) (n : Names) (Old : ClientId → ℕ → ℕ → Body →
    Type 0) (state : ServerState) (now : Stamp) where
  -- after the thefts
  abbrev pub start : ServerTurn
  start = thefts (turn state []) now

  -- names said this, and are these now
  abbrev pub IsSaid : Saying → Names → Body → Type 0
  IsSaid x m (bd.Named r) = x ≡ said m (cr.name_answer r)
  IsSaid x m b = m ≡ n

  -- a cut that is acknowledged was noted, or names did what is asked and said what is replied
  abbrev pub Noted : Body → List Output → Names → Body → Type 0
  Noted (bd.Cut ino g p) out m bd.Ack = Has (outputs.Note (notes.CutDone (record { server = s; ino = ino }) p)) out
  Noted (bd.Name op) out m b = IsSaid (does n op) m b
  Noted asked out m b = Unit {0}

  -- the request is served, and its rule replies so
  pub record Serves (by : Message) (b : Body) : Type 0 where
    pub client : sv.is_client_node by.header.from ≡ true
    pub fresh : sv.take start by.header ≡ takes.Fresh
    pub replied : (rule start now by.header by.body).reply ≡ Some b

  -- the request that is served, of this key, by which names became these; or it is a reassertion, and refused
  pub record New (m : Names) (out : List Output) (c : ClientId) (life number : ℕ) (b : Body) : Type 0 where
    pub by : Message
    pub is : i ≡ Control by
    pub from : by.header.from ≡ c.0
    pub there : by.header.to ≡ server_node s
    pub of_life : by.header.life ≡ life
    pub of_epoch : by.header.epoch ≡ e.0
    pub under : by.header.number ≡ number
    pub noted : Noted by.body out m b
    pub how : Serves by b ⊎ (reasserts by.body ≡ true)

  -- a reply of this key is of such a request, or was there before
  abbrev pub Good : Names → List Output → ClientId → ℕ → ℕ → Body → Type 0
  Good m out c life number b = Old c life number b ⊎ New m out c life number b

  abbrev pub Before : List Output → ClientId → ℕ → ℕ → Body → Type 0
  Before out c life number b = Old c life number b

  noted_more : (m : Names) (asked : Body) (out os : List Output) (b : Body) → Noted asked out m b → Noted asked (out ++ os) m b
  noted_more m (bd.Cut ino g p) out os bd.Ack h = has_left out os _ h
  noted_more m (bd.Name op) out os b h = h
  noted_more m asked out os b h = tt

  pub good_more : (m : Names) (out os : List Output) (c : ClientId) (life number : ℕ) (b : Body) → Good m out c life number b →
      Good m (out ++ os) c life number b
  good_more m out os c life number b (inl o) = inl o
  good_more m out os c life number b (inr k) =
      inr (record {
        by = k.by;
        is = k.is;
        from = k.from;
        there = k.there;
        of_life = k.of_life;
        of_epoch = k.of_epoch;
        under = k.under;
        noted = noted_more m k.by.body out os b k.noted;
        how = k.how;
      })

  pub before_more : (out os : List Output) (c : ClientId) (life number : ℕ) (b : Body) → Before out c life number b → Before (out ++ os) c life number b
  before_more out os c life number b o = o

  -- before the input is taken, and after it
  abbrev Ob : ServerTurn → Type 0
  Ob t = O Q kind s e Before before_more n t

  abbrev Oa : Names → ServerTurn → Type 0
  Oa m t = O Q kind s e (Good m) (good_more m) m t

  -- a request was served, by whose rule names became these
  pub record ServesNames (m : Names) : Type 0 where
    pub by : Message
    pub is : i ≡ Control by
    pub there : by.header.to ≡ server_node s
    pub client : sv.is_client_node by.header.from ≡ true
    pub of_epoch : by.header.epoch ≡ e.0
    pub fresh : sv.take start by.header ≡ takes.Fresh
    pub names_ : (rule start now by.header by.body).turn.state.stable.names ≡ m

  -- what holds after the input, and why names are these
  abbrev Left : ServerTurn → Type 0
  Left t = (m : Names) × (Oa m t × ((m ≡ n) ⊎ ServesNames m))

  -- nothing was served
  state_left : (out : List Output) (c : ClientId) (life : ℕ) (x : SessionState) → KeptBy Q (Before out c life) x → KeptBy Q (Good n out c life) x
  state_left out c life (states.Live last (Some b)) k = λ q. inl (k q)
  state_left out c life (states.Live last None) k = tt
  state_left out c life states.Ended k = tt

  acks_left : (m : Names) (t : ServerTurn) → m ≡ n → Acks Q kind s e Before before_more t → Acks Q kind s e (Good m) (good_more m) t
  acks_left m t q o = subst (λ y. Acks Q kind s e (Good y) (good_more y) t) (sym q)
      (record {
        id = o.id;
        epoch = o.epoch;
        kept = λ c x h. state_left t.out c x.life.0 x.state (o.kept c x h);
        sent = λ x h. let z = o.sent x h in
            (z.0, λ f. let y = z.1 f in (y.0, inl y.1));
      })

  left : (t : ServerTurn) → Ob t → Left t
  left t o = (n, (record { acks = acks_left n t refl o.acks; names = o.names }, inl refl))

  -- what names say
  abbrev Telling : Saying → Names → Option Body → Type 0
  Telling x m r = (b : Body) → r ≡ Some b → IsSaid x m b

  abbrev TellingBy : Saying → Replied → Type 0
  TellingBy x a = Telling x a.turn.state.stable.names a.reply

  telling : (x : Saying) (m : Names) (b : Body) → IsSaid x m b → Telling x m (Some b)
  telling x m b k c q = subst (IsSaid x m) (some_is q) k

  telling_refused : (t : ServerTurn) (r : EntryRefusal) → TellingBy (refused t.state.stable.names r) (sv.name_refused t r)
  unfolding sv.name_refused
  telling_refused t r = telling (refused t.state.stable.names r) t.state.stable.names (bd.Named (replies.Refused (names.code_of r))) refl

  telling_found : (t : ServerTurn) (r : Res ℕ EntryRefusal) → TellingBy (found t.state.stable.names r) (sv.name_found t r)
  unfolding sv.name_found
  telling_found t (Ok ino) = telling (said t.state.stable.names (answers.Named ino)) t.state.stable.names (bd.Named (replies.Ino ino)) refl
  telling_found t (Err r) = telling_refused t r

  telling_changed : (t : ServerTurn) (r : Res names.Changed EntryRefusal) → TellingBy (changed t.state.stable.names r) (sv.name_changed t r)
  unfolding sv.name_changed
  telling_changed t (Ok d) = telling (said d.names (answers.Named d.ino)) d.names (bd.Named (replies.Ino d.ino)) refl
  telling_changed t (Err r) = telling_refused t r

  telling_listed : (t : ServerTurn) (r : Res (List NameRow) EntryRefusal) → TellingBy (listed t.state.stable.names r) (sv.names_listed t r)
  unfolding sv.names_listed
  telling_listed t (Ok rows) = telling (said t.state.stable.names (answers.Listed rows)) t.state.stable.names (bd.Named (replies.Listed rows)) refl
  telling_listed t (Err r) = telling_refused t r

  telling_removed : (t : ServerTurn) (r : Res names.Changed EntryRefusal) → TellingBy (changed t.state.stable.names r) (sv.remove_by t r)
  unfolding sv.remove_by sv.cut_whole sv.cut_pages
  telling_removed t (Ok d) = telling (said d.names (answers.Named d.ino)) d.names (bd.Named (replies.Ino d.ino)) refl
  telling_removed t (Err r) = telling_refused t r

  telling_choice : (c : Bool) (x y : Saying) (a b : Replied) → TellingBy x a → TellingBy y b → TellingBy (if c then x else y) (if c then a else b)
  telling_choice true x y a b p q = p
  telling_choice false x y a b p q = q

  telling_held : (c : Bool) (x : Saying) (t : ServerTurn) (ino : ℕ) (g : GrantNo) (a : Replied) → t.state.stable.names ≡ n → TellingBy x a →
      TellingBy x (if c then a else sv.not_holder t ino g)
  unfolding sv.not_holder
  telling_held true x t ino g a at p = p
  telling_held false x t ino g a at p = telling x t.state.stable.names (bd.Nack why.NotHolder ino g.0) at

  telling_remove : (t : ServerTurn) (h : Header) (dir : ℕ) (x : List ℕ) (g : GrantNo) (r : Res ℕ EntryRefusal) → t.state.stable.names ≡ n →
      TellingBy (does_remove t.state.stable.names dir x g r) (sv.remove_found t h dir x g r)
  unfolding sv.remove_found sv.remove_ino sv.remove_file sv.remove_dir
  telling_remove t h dir x g (Err r) at = telling_refused t r
  telling_remove t h dir x g (Ok ino) at =
      telling_choice (sv.is_file t ino) (changed t.state.stable.names (names.remove t.state.stable.names dir x)) (does_remove_dir t.state.stable.names dir x g)
      _ _
      (telling_held (sv.holds t h ino g modes.X) (changed t.state.stable.names (names.remove t.state.stable.names dir x)) t ino g
      (sv.remove_by t (names.remove t.state.stable.names dir x)) at (telling_removed t (names.remove t.state.stable.names dir x)))
      (telling_choice (g.0 == 0) (changed t.state.stable.names (names.remove t.state.stable.names dir x)) (refused t.state.stable.names IsDir) _ _
      (telling_changed t (names.remove t.state.stable.names dir x)) (telling_refused t IsDir))

  pub telling_name : (t : ServerTurn) (h : Header) (op : NameOp) → t.state.stable.names ≡ n → TellingBy (does t.state.stable.names op) (sv.name t h op)
  unfolding sv.name sv.remove
  telling_name t h (Lookup dir x) at = telling_found t _
  telling_name t h (Create dir x) at = telling_changed t _
  telling_name t h (Mkdir dir x) at = telling_changed t _
  telling_name t h (Remove dir x g) at = telling_remove t h dir x g _ at
  telling_name t h (Rename dir x dir2 x2) at = telling_changed t _
  telling_name t h (ListFrom dir after) at = telling_listed t _

  -- a cut that is acknowledged was noted, and a reply for a name tells what names did
  abbrev Noting : Body → Replied → Type 0
  Noting m a = (b : Body) → a.reply ≡ Some b → Q b ≡ true → Noted m a.turn.out a.turn.state.stable.names b

  rule_notes : (t : ServerTurn) (now : Stamp) (h : Header) (m : Body) → t.state.id ≡ s → t.state.stable.names ≡ n → Noting m (rule t now h m)
  unfolding rule sv.cut sv.cut_held sv.cut_from sv.cut_pages sv.no_file sv.not_holder
  rule_notes t now h (bd.Cut k g p) id at = if_either (Noting (bd.Cut k g p)) (sv.is_file t k) _ _
      (if_either (Noting (bd.Cut k g p)) (sv.holds t h k g modes.X) _ _ cut (λ b q f. no why.NotHolder k g.0 b q)) (λ b q f. no why.NoFile k 0 b q)
    where
      no : (w : Why) (x y : ℕ) (b : Body) → ◌≡◌ {A = Option Body} (Some (bd.Nack w x y)) (Some b) → Noted (bd.Cut k g p) t.out t.state.stable.names b
      no w x y b q = subst (Noted (bd.Cut k g p) t.out t.state.stable.names) (some_is q) tt

      cut : Noting (bd.Cut k g p) (sv.cut_from t k p)
      cut b q f = subst (Noted (bd.Cut k g p) (sv.cut_from t k p).turn.out (sv.cut_from t k p).turn.state.stable.names) (some_is q)
          (has_right t.out (outputs.Note (notes.CutDone (sv.file t k) p) ∷ []) _
          (inl (ap (λ (y : ServerId). outputs.Note (notes.CutDone (record { server = y; ino = k }) p)) (sym id))))
  rule_notes t now h (bd.Name op) id at = λ b q f. subst (λ y. IsSaid (does y op) (sv.name t h op).turn.state.stable.names b) at (telling_name t h op at b q)
  rule_notes t now h m id at = λ b q f. tt

  -- the request that is served
  module _ (t u : ServerTurn) (m : Message) (b : Body) (sent : Served state now i t m) (did : rule t now m.header m.body ≡ sv.replied u b)
      (r : Acks Q kind s e Before before_more u × (u.state.sessions ≡ t.state.sessions)) (o : Ob t) where
    abbrev y : Names
    y = u.state.stable.names

    came : Came state now i t m
    came = sent.asked.heard.came

    there : m.header.to ≡ server_node s
    there = came.there ∙ ap server_node o.acks.id

    of_epoch : m.header.epoch ≡ e.0
    of_epoch = sent.asked.epoch ∙ ap (λ (z : Epoch). z.0) o.acks.epoch

    fresh : sv.take start m.header ≡ takes.Fresh
    fresh = subst (λ (z : ServerTurn). sv.take z m.header ≡ takes.Fresh) came.first sent.fresh

    its_rule : rule start now m.header m.body ≡ sv.replied u b
    its_rule = subst (λ (z : ServerTurn). rule z now m.header m.body ≡ sv.replied u b) came.first did

    notes_it : Q b ≡ true → Noted m.body u.out y b
    notes_it f =
        subst (λ (a : Replied). Noted m.body a.turn.out a.turn.state.stable.names b) did
        (rule_notes t now m.header m.body o.acks.id o.names b (ap (λ (a : Replied). a.reply) did) f)

    good : Q b ≡ true → Good y u.out (sender m.header) m.header.life m.header.number b
    good f =
        inr (record {
          by = m;
          is = came.is;
          from = refl;
          there = there;
          of_life = refl;
          of_epoch = of_epoch;
          under = refl;
          noted = notes_it f;
          how = inl (record { client = came.from; fresh = fresh; replied = ap (λ (a : Replied). a.reply) its_rule });
        })

    its_life : (x : Session) → sessions.session_of u.state.sessions (sender m.header) ≡ Some x → x.life.0 ≡ m.header.life
    its_life x j =
        let z = sent.in_life in
        let v = some_is (sym (ap (λ (w : sessions.Sessions). sessions.session_of w (sender m.header)) (sym r.1) ∙ j) ∙ z.is) in
        ap (λ (w : Session). w.life.0) v ∙ z.of_life

    -- what was kept and sent before
    state_old : (out : List Output) (c : ClientId) (life : ℕ) (x : SessionState) → KeptBy Q (Before out c life) x → KeptBy Q (Good y out c life) x
    state_old out c life (states.Live last (Some d)) k = λ q. inl (k q)
    state_old out c life (states.Live last None) k = tt
    state_old out c life states.Ended k = tt

    serves_it : Left (keep_and_reply u m.header b)
    unfolding keep_and_reply
    serves_it = (
      y,
      (
        own_after_reply Q kind s e (Good y) (good_more y) y _ m.header b good
            (record {
              acks = record {
                id = r.0.id;
                epoch = r.0.epoch;
                kept = kept_stored Q (Good y u.out) u.state.sessions (sender m.header) m.header.number b
                    (λ k x j. subst (λ l. Good y u.out (sender m.header) l m.header.number b) (sym (its_life x j)) (good k))
                    (λ c x h. state_old u.out c x.life.0 x.state (r.0.kept c x h));
                sent = λ x h. let z = r.0.sent x h in (z.0, λ f. let k = z.1 f in (k.0, inl k.1));
              };
              names = refl;
            }),
        inr (record {
          by = m;
          is = came.is;
          there = there;
          client = came.from;
          of_epoch = of_epoch;
          fresh = fresh;
          names_ = ap (λ (a : Replied). a.turn.state.stable.names) its_rule;
        }),
      ),
    )

  -- a message that is refused
  refuses : (t : ServerTurn) (m : Message) (b : Body) → Refused state now i t m b → Ob t → Left (reply t m.header b)
  refuses t m b (IsSuspect since c r k) o = left _ (own_after_reply Q kind s e Before before_more n t m.header _ (λ f. absurd (clash f (kind.suspect _ _))) o)
  refuses t m b (GreetsInGrace h k g) o = left _ (own_after_reply Q kind s e Before before_more n t m.header _ (λ f. absurd (clash f (kind.grace _ _))) o)
  refuses t m b (OfOtherEpoch h r) o = left _ (own_after_reply Q kind s e Before before_more n t m.header _ (λ f. absurd (clash f (kind.other_epoch _ _))) o)
  refuses t m b (HasNoSession a k) o = left _ (own_after_reply Q kind s e Before before_more n t m.header _ (λ f. absurd (clash f (kind.no_session _ _))) o)
  refuses t m b (IsRefusedRows rows r a k) o = (
    n,
    (
      own_after_reply Q kind s e (Good n) (good_more n) n t m.header b
          (λ q. inr (record {
            by = m;
            is = a.asked.heard.came.is;
            from = refl;
            there = a.asked.heard.came.there ∙ ap server_node o.acks.id;
            of_life = refl;
            of_epoch = a.asked.epoch ∙ ap (λ (y : Epoch). y.0) o.acks.epoch;
            under = refl;
            noted = subst (λ z. Noted z t.out n b) (sym a.asks) tt;
            how = inr (ap reasserts a.asks);
          })) (record { acks = acks_left n t refl o.acks; names = o.names }),
      inl refl,
    ),
  )

  takes_input : (t u : ServerTurn) → Edit state now i AtInput t u → Ob t → Left u
  takes_input t u (Welcomes _ m y g k a f) o = left _ (own_after_reply Q kind s e Before before_more n t m.header _ (λ q. absurd (clash q kind.welcome)) o)
  takes_input t u (Begins _ m g f) o =
      left _ (own_after_reply Q kind s e Before before_more n _ m.header _ (λ q. absurd (clash q kind.welcome))
      (own_after_begins Q kind s e Before before_more n state now i t (sender m.header) (life_in m.header) o))
  takes_input t u (Replaces _ m y g k a f r) o =
      left _ (own_after_reply Q kind s e Before before_more n _ m.header _ (λ q. absurd (clash q kind.welcome))
      (own_after_state Q kind s e Before before_more n (with_sessions (sessions.with_new_session (sender m.header) (life_in m.header) t.state.sessions) t) _
      refl refl refl
      (own_after_begins Q kind s e Before before_more n state now i t (sender m.header) (life_in m.header) o)))
  takes_input t u (PutsOff _ m y g k a f r) o =
      left _ (own_after_reply Q kind s e Before before_more n _ m.header _ (λ q. absurd (clash q (kind.suspect _ _)))
      (own_after_suspect Q kind s e Before before_more n t now (sender m.header) o))
  takes_input t u (Sees _ m ino g h b k) o = left _ (own_after_state Q kind s e Before before_more n t _ refl refl refl o)
  takes_input t u (Reasserts _ m rows r on f) o =
      left _ (own_after_reply Q kind s e Before before_more n _ m.header _ (λ q. absurd (clash q kind.reasserted))
      (own_after_reasserts Q kind s e Before before_more n state now i t (locks.with_rows t.state.locks (sender m.header) (life_in m.header) rows)
      (sender m.header) (life_in m.header) o))
  takes_input t u (edits.Serves _ m v b y k r) o =
      serves_it t v m b y k
      (ruled (Acks Q kind s e Before before_more) (acks_state Q kind s e Before before_more)
      (acks_note Q kind s e Before before_more) now t m.header m.body v b r o.acks) o
  takes_input t u (Repeats _ m y b k a f g st) o =
      left _ (own_after_reply Q kind s e Before before_more n t m.header b
      (λ q. subst (λ l. Before t.out (sender m.header) l m.header.number b) g
      ((subst (KeptBy Q (Before t.out (sender m.header) y.life.0)) st (o.acks.kept (sender m.header) y f)) q)) o)
  takes_input t u (Refuses _ m b r) o = refuses t m b r o

  -- The whole step, and the names that it leaves.
  pub served : Ob (turn state []) → Left (server_step state now i)
  served o =
      walk_in_two state now i Ob Left (own_after_steals Q kind s e Before before_more n state now i) left takes_input
      (λ t u k z. (z.0, (own_after_suspects Q kind s e (Good z.0) (good_more z.0) z.0 state now i t u k z.1.0, z.1.1)))
      (λ t u k z. (z.0, (own_after_grants Q kind s e (Good z.0) (good_more z.0) z.0 state now i t u k z.1.0, z.1.1)))
      (λ t u k z. (z.0, (own_after_demands Q kind s e (Good z.0) (good_more z.0) z.0 state now i t u k z.1.0, z.1.1))) o
