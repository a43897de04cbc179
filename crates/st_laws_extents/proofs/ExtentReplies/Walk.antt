-- The replies that a server sends and keeps and that tell extents.
use Rattle.st_lemmas.proofs.Words
use Words.{◌≡◌, ℕ, ◌⊎◌, List, [], ◌∷◌, refl, sym, ap, ◌∙◌, subst, inl, inr, Some, ClientId, Life, Stamp, ExtentRow, Header, Message, Body, Note, Output}
use Words.{ServerInput, AcceptRefusal, Session}
use Words.bodies as bd
use Words.notes
use Words.outputs
use Words.states
use Words.Extents.{Extents}
use Words.Locks as locks
use Words.Sessions as sessions
use Words.Server as sv
use Words.Server.{ServerState, ServerTurn, with_locks, with_sessions, sender, life_in, note, reply, say, tell, steal_from, suspect_client, keep_and_reply}
use Words.Lists.{Has}
use Words.Lookups.{some_is}
use Words.Tables.{has_append}
use Rattle.st_rules.specs.declared.authority.AcceptRefusal.TheVariants as refusals
use Rattle.st_laws_extents.specs.ExtentReplies.Steps.{KeptRows}
use Rattle.st_laws_extents.proofs.ExtentReplies.Rule.{Ruled, ruled}
use Rattle.st_laws_extents.proofs.ExtentReplies.Sessions.{From, IsStored, from_ended, from_new, from_reasserted, from_rows, stored_rows}
use Rattle.st_trace.specs.Server.Edits as edits
use Rattle.st_trace.specs.Server.Edits.{AtThefts, AtInput, AtSuspicion, AtGrants, AtDemands, Served, Refused, IsSuspect, GreetsInGrace, OfOtherEpoch}
use Rattle.st_trace.specs.Server.Edits.{HasNoSession, IsRefusedRows, Edit, TakesTimers, Steals, Welcomes, Begins, Replaces, PutsOff, Sees, Reasserts, Serves}
use Rattle.st_trace.specs.Server.Edits.{Repeats, Refuses, Suspects, Grants, Demands}

-- a fact of a reply of extents: to whom, of which life and number, and its file and rows
abbrev pub Fact : Type 1
Fact = ℕ → ℕ → ℕ → ℕ → List ExtentRow → Type 0

-- What holds within a step: the extents, and what is kept and sent of extents.
pub record Stands (Good : Fact) (x : Extents) (t : ServerTurn) : Type 0 where
  pub extents : t.state.stable.extents ≡ x
  pub kept : (c : ClientId) (life number ino : ℕ) (rows : List ExtentRow) → KeptRows t.state.sessions c life number ino rows → Good c.0 life number ino rows
  pub sent : (m : Message) (ino : ℕ) (rows : List ExtentRow) → Has (outputs.Send m) t.out → m.body ≡ bd.Extents ino rows →
      Good m.header.to m.header.life m.header.number ino rows

module _ (Good : Fact) (x : Extents) where
  abbrev O : ServerTurn → Type 0
  O t = Stands Good x t

  -- other parts of the state
  stands_after_state : (t : ServerTurn) (y : ServerState) → y.stable.extents ≡ t.state.stable.extents → y.sessions ≡ t.state.sessions → O t →
      O (record t { state = y })
  stands_after_state t y a b o = record {
    extents = a ∙ o.extents;
    kept = λ c life number ino rows k. o.kept c life number ino rows (subst (λ s. KeptRows s c life number ino rows) b k);
    sent = o.sent;
  }

  stands_after_sessions : (t : ServerTurn) (s : sessions.Sessions) → From t.state.sessions s → O t → O (with_sessions s t)
  stands_after_sessions t s f o = record {
    extents = o.extents;
    kept = λ c life number ino rows k. o.kept c life number ino rows (from_rows t.state.sessions s f c life number ino rows k);
    sent = o.sent;
  }

  stands_after_say : (t : ServerTurn) (o : Output) → ((m : Message) (ino : ℕ) (rows : List ExtentRow) → outputs.Send m ≡ o → m.body ≡ bd.Extents ino rows →
      Good m.header.to m.header.life m.header.number ino rows) → O t → O (say t o)
  stands_after_say t o f k =
      record { extents = k.extents; kept = k.kept; sent = λ m ino rows h e. go m ino rows e (has_append t.out (o ∷ []) (outputs.Send m) h) }
    where
      go : (m : Message) (ino : ℕ) (rows : List ExtentRow) → m.body ≡ bd.Extents ino rows →
          Has (outputs.Send m) t.out ⊎ Has (outputs.Send m) (o ∷ []) → Good m.header.to m.header.life m.header.number ino rows
      go m ino rows e (inl h) = k.sent m ino rows h e
      go m ino rows e (inr (inl q)) = f m ino rows q e
      go m ino rows e (inr (inr n)) = absurd n

  stands_after_note : (t : ServerTurn) (n : Note) → O t → O (note t n)
  stands_after_note t n o = stands_after_say t (outputs.Note n) (λ m ino rows q e. cc q) o

  stands_after_reply : (t : ServerTurn) (h : Header) (b : Body) → ((ino : ℕ) (rows : List ExtentRow) → b ≡ bd.Extents ino rows →
      Good h.from h.life h.number ino rows) → O t → O (reply t h b)
  unfolding reply
  stands_after_reply t h b f o = stands_after_say t (outputs.Send m) (λ y ino rows q e. go y ino rows (same y q) e) o
    where
      m : Message
      m = record { header = sv.reply_header t.state h; body = b }

      same : (y : Message) → outputs.Send y ≡ outputs.Send m → m ≡ y
      same y q = cc

      go : (y : Message) (ino : ℕ) (rows : List ExtentRow) → m ≡ y → y.body ≡ bd.Extents ino rows → Good y.header.to y.header.life y.header.number ino rows
      go y ino rows q = subst (λ (z : Message). z.body ≡ bd.Extents ino rows → Good z.header.to z.header.life z.header.number ino rows) q (λ e. f ino rows e)

  stands_after_tell : (t : ServerTurn) (c : ClientId) (life : Life) (b : Body) → ((ino : ℕ) (rows : List ExtentRow) → b ≡ bd.Extents ino rows → ⊥) → O t →
      O (tell t c life b)
  unfolding tell
  stands_after_tell t c life b f o = stands_after_say t (outputs.Send m) (λ y ino rows q e. absurd (f ino rows (ap (λ (z : Message). z.body) (same y q) ∙ e))) o
    where
      m : Message
      m = record { header = sv.own_header t.state c life; body = b }

      same : (y : Message) → outputs.Send y ≡ outputs.Send m → m ≡ y
      same y q = cc

  stands_after_suspect : (t : ServerTurn) (now : Stamp) (c : ClientId) → O t → O (suspect_client t now c)
  unfolding suspect_client
  stands_after_suspect t now c o = stands_after_state _ _ refl refl (stands_after_note t _ o)

  module _ (n : ServerState) (now : Stamp) (i : ServerInput) where
    pub steals : (t u : ServerTurn) → Edit n now i AtThefts t u → O t → O u
    unfolding steal_from
    steals t u (TakesTimers _ e) o = stands_after_state t _ refl refl o
    steals t u (Steals _ c y h e) o =
        stands_after_sessions (with_locks (locks.forget t.state.locks c) (note t (notes.Stolen c y.life))) _ (from_ended t.state.sessions c)
        (stands_after_state _ _ refl refl (stands_after_note t (notes.Stolen c y.life) o))

    pub suspects : (t u : ServerTurn) → Edit n now i AtSuspicion t u → O t → O u
    suspects t u (Suspects _ c r is q f h e k) o = stands_after_suspect t now c o

    pub grants : (t u : ServerTurn) → Edit n now i AtGrants t u → O t → O u
    grants t u (Grants _ w off h e f) o = stands_after_tell _ w.client w.life _ (λ j z q. cc q) (stands_after_state t _ refl refl o)

    pub demands : (t u : ServerTurn) → Edit n now i AtDemands t u → O t → O u
    demands t u (Demands _ w r y e k f q d) o = stands_after_tell _ r.client r.life _ (λ j z q. cc q) (stands_after_state t _ refl refl o)

    begins : (t : ServerTurn) (c : ClientId) (life : Life) → O t → O (with_sessions (sessions.with_new_session c life t.state.sessions) t)
    begins t c life o = stands_after_sessions t _ (from_new t.state.sessions c life) o

-- The request that is served now: with this message and this reply.
module _ (Good : Fact) (m : Message) (b : Body) where
  abbrev pub Now : Fact
  Now to life number ino rows = (m.header.from ≡ to) × (m.header.life ≡ life) × (m.header.number ≡ number) × (b ≡ bd.Extents ino rows)

  abbrev pub Right : Fact
  Right to life number ino rows = Good to life number ino rows ⊎ Now to life number ino rows

module _ (Good : Fact) (x : Extents) (n : ServerState) (now : Stamp) (i : ServerInput) where
  -- it is served anew
  pub record Anew (u : ServerTurn) : Type 0 where
    pub message : Message
    pub turn : ServerTurn
    pub after : ServerTurn
    pub reply : Body
    pub sent : Served n now i turn message
    pub rule : edits.Ruled now turn message.header message.body after reply
    pub stands : Stands (Right Good message reply) after.state.stable.extents u

  -- nothing is served, or this request
  abbrev pub Came : ServerTurn → Type 0
  Came u = Stands Good x u ⊎ Anew u

  serves : (t : ServerTurn) (m : Message) (v : ServerTurn) (b : Body) → Served n now i t m → edits.Ruled now t m.header m.body v b → Stands Good x t →
      Stands (Right Good m b) v.state.stable.extents (keep_and_reply v m.header b)
  unfolding keep_and_reply
  serves t m v b sent rule o =
      stands_after_reply (Right Good m b) v.state.stable.extents _ m.header b (λ ino rows q. inr (refl, refl, refl, q))
      (record {
        extents = refl;
        kept = λ c life number ino rows k. of c life number ino rows (stored_rows v.state.sessions
            (sender m.header) m.header.number b c life number ino rows k);
        sent = λ y ino rows h e. inl (o.sent y ino rows (r.sent y h) e);
      })
    where
      r : Ruled t m.header m.body v b
      r = ruled now t m.header m.body v b rule

      life_is : (y : Session) → sessions.session_of v.state.sessions (sender m.header) ≡ Some y → m.header.life ≡ y.life.0
      life_is y q =
          let z = sent.in_life in
          sym z.of_life ∙ ap (λ (w : Session). w.life.0)
          (some_is (sym z.is ∙ ap (λ (w : sessions.Sessions). sessions.session_of w (sender m.header)) (sym r.sessions) ∙ q))

      of : (c : ClientId) (life number ino : ℕ) (rows : List ExtentRow) → KeptRows v.state.sessions c life number ino rows
          ⊎ IsStored v.state.sessions (sender m.header) c life m.header.number b number ino rows → Right Good m b c.0 life number ino rows
      of c life number ino rows (inl k) = inl (o.kept c life number ino rows (subst (λ w. KeptRows w c life number ino rows) r.sessions k))
      of c life number ino rows (inr k) = inr (ap (λ (y : ClientId). y.0) (sym k.by), life_is k.session k.was ∙ k.of_life, k.under, k.body)

  refused_reply : (t : ServerTurn) (m : Message) (b : Body) → Refused n now i t m b → (ino : ℕ) (rows : List ExtentRow) → b ≡ bd.Extents ino rows → ⊥
  refused_reply t m b (IsSuspect start c r e) ino rows q = cc q
  refused_reply t m b (GreetsInGrace h e g) ino rows q = cc q
  refused_reply t m b (OfOtherEpoch h e) ino rows q = cc q
  refused_reply t m b (HasNoSession a e) ino rows q = cc q
  refused_reply t m b (IsRefusedRows rs r a e) ino rows q = none r q
    where
      none : (r : AcceptRefusal) → sv.refused_reassertion r ≡ bd.Extents ino rows → ⊥
      none (refusals.GraceOver a b) e = cc e
      none (refusals.Conflict a b) e = cc e
      none (refusals.NotHolder a b) e = cc e

  pub takes : (t u : ServerTurn) → Edit n now i AtInput t u → Stands Good x t → Came u
  takes t u (Welcomes _ m y g e a f) o = inl (stands_after_reply Good x t m.header _ (λ i r e. cc e) o)
  takes t u (Begins _ m g f) o = inl (stands_after_reply Good x _ m.header _ (λ i r e. cc e) (begins Good x n now i t (sender m.header) (life_in m.header) o))
  takes t u (Replaces _ m y g e a f r) o =
      inl (stands_after_reply Good x _ m.header _ (λ i r e. cc e)
      (stands_after_state Good x (with_sessions (sessions.with_new_session (sender m.header) (life_in m.header) t.state.sessions) t) _ refl refl
      (begins Good x n now i t (sender m.header) (life_in m.header) o)))
  takes t u (PutsOff _ m y g e a f r) o = inl (stands_after_reply Good x _ m.header _ (λ i r e. cc e) (stands_after_suspect Good x t now (sender m.header) o))
  takes t u (Sees _ m ino g h b e) o = inl (stands_after_state Good x t _ refl refl o)
  takes t u (Reasserts _ m rows r on f) o =
      inl (stands_after_reply Good x _ m.header _ (λ i r e. cc e)
      (stands_after_sessions Good x (with_locks (locks.with_rows t.state.locks (sender m.header) (life_in m.header) rows) t) _
      (from_reasserted t.state.sessions (sender m.header) (life_in m.header)) (stands_after_state Good x t _ refl refl o)))
  takes t u (Serves _ m v b y e r) o =
      inr (record { message = m; turn = t; after = v; reply = b; sent = y; rule = r; stands = serves t m v b y r o })
  takes t u (Repeats _ m y b k a f g st) o =
      inl (stands_after_reply Good x t m.header b
      (λ ino rows q. o.kept (sender m.header) m.header.life m.header.number ino rows
      (record { session = y; is = f; of_life = g; state = st ∙ ap (λ z. states.Live m.header.number (Some z)) q })) o)
  takes t u (Refuses _ m b r) o = inl (stands_after_reply Good x t m.header b (λ ino rows q. absurd (refused_reply t m b r ino rows q)) o)

  -- what holds of what was served, holds through the passes
  pub came_by : (t u : ServerTurn) → ((Good : Fact) (x : Extents) → Stands Good x t → Stands Good x u) → Came t → Came u
  came_by t u f (inl o) = inl (f Good x o)
  came_by t u f (inr a) =
      inr (record { message = a.message; turn = a.turn; after = a.after; reply = a.reply; sent = a.sent; rule = a.rule; stands = f _ _ a.stands })
