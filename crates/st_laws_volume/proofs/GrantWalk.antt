-- A step of a server, walked for the locks that it may grant: each wait, each kept reply and each
-- grant that is sent comes from a request for a lock that was served in the same life of its client
-- and in this epoch, when the file was there.
use Rattle.st_lemmas.proofs.Words
use Words.{◌≡◌, ◌⊎◌, ℕ, true, List, [], ◌∷◌, Option, Some, None, refl, sym, ap, ◌∙◌, subst, inl, inr}
use Words.{AcceptRefusal, Body, ClientId, Epoch, Header, Life, Message, Mode, Note, Output, ServerId, ServerInput, Session, Stamp, Waiter}
use Words.bodies
use Words.modes
use Words.outputs
use Words.notes
use Words.Keys.{client, server_node}
use Words.Lists.{Has}
use Words.Locks as locks
use Words.Locks.{Locks}
use Words.Lookups.{some_is}
use Words.Names as names
use Words.Server as sv
use Words.Server.{ServerState, ServerTurn, keep_and_reply, life_in, note, reply, say, sender, server_step, steal_from, suspect_client, tell, turn, with_locks, with_sessions}
use Words.Sessions as sessions
use Words.Tables.{has_append, has_filter, has_map}
use Words.Truth.{if_either}
use Rattle.st_rules.specs.declared.authority.AcceptRefusal.TheVariants as refusals
use Rattle.st_trace.specs.Server.Edits as edits
use Rattle.st_trace.specs.Server.Edits.{AtOnce, Begins, Demands, Edit, Grants, InTurn, Phase, PutsOff, Reasserts, Refuses, Repeats, Replaces, Ruled, Sees, Served, Serves, Steals, Suspects, TakesTimers, Told, Welcomes}
use Rattle.st_trace.proofs.Server.Walk.{walk}
use Rattle.st_laws_volume.proofs.AskedWaits.{GrantedBody}
use Rattle.st_laws_volume.proofs.KeptGrants as keeping
use Rattle.st_laws_volume.proofs.KeptGrants.{KeepsGrants, kept_ended, kept_new, kept_reasserted, kept_stored}

-- who waits, in which life, and for which file
abbrev pub AllWait : (ClientId → ℕ → ℕ → Type 0) → Locks → Type 0
AllWait W l = (x : Waiter) → Has x l.waiters → W x.client x.life.0 x.ino

module _ (W : ClientId → ℕ → ℕ → Type 0) (l : Locks) (h : AllWait W l) where
  after_forget : (c : ClientId) → AllWait W (locks.forget l c)
  unfolding locks.forget
  after_forget c x i = h x (has_filter _ l.waiters x i).0

  after_drop : (c : ClientId) → AllWait W (locks.drop_waits l c)
  unfolding locks.drop_waits
  after_drop c x i = h x (has_filter _ l.waiters x i).0

  after_file : (ino : ℕ) → AllWait W (locks.drop_file_waits l ino)
  unfolding locks.drop_file_waits
  after_file ino x i = h x (has_filter _ l.waiters x i).0

  after_seen : (c : ClientId) (ino : ℕ) (g : Words.GrantNo) →
      AllWait W (locks.demand_seen l c ino g)
  unfolding locks.demand_seen
  after_seen c ino g = h

  after_release : (c : ClientId) (ino : ℕ) (to : Mode) → AllWait W (locks.release_to l c ino to)
  unfolding locks.release_to
  after_release c ino modes.None = h
  after_release c ino modes.S = h
  after_release c ino modes.X = h

  after_rows : (c : ClientId) (life : Life) (rows : List (ℕ × Words.GrantNo × Mode)) →
      AllWait W (locks.with_rows l c life rows)
  unfolding locks.with_rows
  after_rows c life rows = h

  after_grant : (c : ClientId) (life : Life) (ino : ℕ) (mode : Mode) →
      AllWait W (locks.grant l c life ino mode)
  unfolding locks.grant
  after_grant c life ino mode x i = h x (has_filter _ l.waiters x i).0

  after_queue : (c : ClientId) (life : Life) (ino : ℕ) (mode : Mode) → W c life.0 ino →
      AllWait W (locks.queue l c life ino mode)
  unfolding locks.queue locks.queue_at locks.wait_for
  after_queue c life ino mode f = go (locks.wait_of l c ino)
    where
      new : (x : Waiter) → Has x l.waiters ⊎ Has x (locks.new_wait c life ino mode ∷ []) →
          W x.client x.life.0 x.ino
      new x (inl i) = h x i
      new x (inr (inl e)) = subst (λ (y : Waiter). W y.client y.life.0 y.ino) (sym e) f
      new x (inr (inr i)) = absurd i

      raised : (y : Waiter) → W y.client y.life.0 y.ino →
          W (locks.raise c ino mode y).client (locks.raise c ino mode y).life.0
          (locks.raise c ino mode y).ino
      raised y k = if_either (λ (x : Waiter). W x.client x.life.0 x.ino)
          (locks.is_wait_of c ino y) _ _ k k

      go : (o : Option Waiter) → AllWait W (locks.queue_at l c life ino mode o)
      go None x i = new x (has_append l.waiters (locks.new_wait c life ino mode ∷ []) x i)
      go (Some w) x i =
          let z = has_map (locks.raise c ino mode) l.waiters x i in
          subst (λ (y : Waiter). W y.client y.life.0 y.ino) (sym z.2) (raised z.0 (h z.0 z.1))

-- A server in an epoch, and what is known of a request for a lock that it serves.
module _ (s : ServerId) (E : ℕ) (W : ClientId → ℕ → ℕ → Type 0) (n : ServerState) (now : Stamp)
    (i : ServerInput)
    (asked : (m : Message) (t : ServerTurn) → Served n now i t m → (ino : ℕ) (mode : Mode) →
    m.body ≡ bodies.Acquire ino mode → names.is_file t.state.stable.names ino ≡ true →
    W (sender m.header) m.header.life ino) where
  pub record IsRight (m : Message) : Type 0 where
    pub from : m.header.from ≡ server_node s
    pub epoch : m.header.epoch ≡ E
    pub grants : GrantedBody (W (client m.header.to) m.header.life) m.body

  pub record Gives (t : ServerTurn) : Type 0 where
    pub id : t.state.id ≡ s
    pub epoch : t.state.stable.epoch.0 ≡ E
    pub waits : AllWait W t.state.locks
    pub kept : KeepsGrants W t.state.sessions
    pub sent : (m : Message) → Has (outputs.Send m) t.out → IsRight m

  gives_state : (t : ServerTurn) (x : ServerState) → x.id ≡ t.state.id →
      x.stable.epoch ≡ t.state.stable.epoch → AllWait W x.locks → KeepsGrants W x.sessions →
      Gives t → Gives (record t { state = x })
  gives_state t x a b p q k =
      record {
        id = a ∙ k.id;
        epoch = ap (λ (y : Epoch). y.0) b ∙ k.epoch;
        waits = p;
        kept = q;
        sent = k.sent;
      }

  gives_say : (t : ServerTurn) (x : Output) → Gives t →
      ((m : Message) → outputs.Send m ≡ x → IsRight m) → Gives (say t x)
  gives_say t x k f =
      record {
        id = k.id;
        epoch = k.epoch;
        waits = k.waits;
        kept = k.kept;
        sent = λ m h. go m (has_append t.out (x ∷ []) (outputs.Send m) h);
      }
    where
      go : (m : Message) → Has (outputs.Send m) t.out ⊎ Has (outputs.Send m) (x ∷ []) → IsRight m
      go m (inl h) = k.sent m h
      go m (inr (inl e)) = f m e
      go m (inr (inr e)) = absurd e

  gives_note : (t : ServerTurn) (x : Note) → Gives t → Gives (note t x)
  gives_note t x k = gives_say t (outputs.Note x) k (λ y q. cc q)

  same_sent : (x m : Message) → outputs.Send x ≡ outputs.Send m → x ≡ m
  same_sent x m q = cc

  gives_send : (t : ServerTurn) (h : Header) (b : Body) → Gives t → h.from ≡ server_node s →
      h.epoch ≡ E → GrantedBody (W (client h.to) h.life) b → Gives (sv.send t h b)
  gives_send t h b k f e w =
      gives_say t (outputs.Send (record { header = h; body = b })) k
      (λ x q. subst IsRight (sym (same_sent x (record { header = h; body = b }) q))
      (record { from = f; epoch = e; grants = w }))

  gives_reply : (t : ServerTurn) (h : Header) (b : Body) → Gives t →
      GrantedBody (W (sender h) h.life) b → Gives (reply t h b)
  unfolding reply
  gives_reply t h b k w =
      gives_send t (sv.reply_header t.state h) b k (ap server_node k.id) k.epoch w

  gives_tell : (t : ServerTurn) (c : ClientId) (life : Life) (b : Body) → Gives t →
      GrantedBody (W c life.0) b → Gives (tell t c life b)
  unfolding tell
  gives_tell t c life b k w =
      gives_send t (sv.own_header t.state c life) b k (ap server_node k.id) k.epoch w

  gives_suspect : (t : ServerTurn) (c : ClientId) → Gives t → Gives (suspect_client t now c)
  unfolding suspect_client
  gives_suspect t c k =
      gives_state (note t (notes.Suspected c now)) _ refl refl
      (after_drop W t.state.locks k.waits c) k.kept (gives_note t (notes.Suspected c now) k)

  -- a reply to a request of the living session is kept
  gives_keeps : (u : ServerTurn) (h : Header) (b : Body) → Gives u →
      ((y : Session) → sessions.session_of u.state.sessions (sender h) ≡ Some y →
      y.life.0 ≡ h.life) →
      GrantedBody (W (sender h) h.life) b → Gives (keep_and_reply u h b)
  unfolding keep_and_reply
  gives_keeps u h b k life w =
      gives_reply (with_sessions (sessions.store u.state.sessions (sender h) h.number b) u) h b
      (gives_state u _ refl refl k.waits
      (kept_stored W u.state.sessions (sender h) h.number b
      (λ y e. subst (λ l. GrantedBody (W (sender h) l) b) (sym (life y e)) w) k.kept) k) w

  module _ (t : ServerTurn) (m : Message) (z : Served n now i t m) (k : Gives t) where
    abbrev h : Header
    h = m.header

    its_life : (y : Session) → sessions.session_of t.state.sessions (sender h) ≡ Some y →
        y.life.0 ≡ h.life
    its_life y e = ap (λ (v : Session). v.life.0) (some_is (sym e ∙ z.in_life.is)) ∙
        z.in_life.of_life

    its : (ino : ℕ) (mode : Mode) → m.body ≡ bodies.Acquire ino mode →
        names.is_file t.state.stable.names ino ≡ true → W (sender h) h.life ino
    its ino mode e f = asked m t z ino mode e f

    told_right : (b r : Body) → m.body ≡ b → Told t h b r → GrantedBody (W (sender h) h.life) r
    told_right _ _ q edits.IsAlive = tt
    told_right _ _ q (edits.IsHeld ino mode r f e c) = its ino mode q f
    told_right _ _ q (edits.HasTooMany ino mode f e c) = tt
    told_right _ _ q (edits.HasNoRow ino x to e) = tt
    told_right _ _ q (edits.IsMapped ino x p f e) = tt
    told_right _ _ q (edits.IsNoFile _ ino e f) = tt
    told_right _ _ q (edits.HoldsNot _ ino x mode e f c) = tt
    told_right _ _ q (edits.HasNoSpace ino x p a y v f c e) = tt
    told_right _ _ q (edits.IsNamed dir x ino e) = tt
    told_right _ _ q (edits.AreListed dir x rows e) = tt
    told_right _ _ q (edits.IsRefused op x e) = tt
    told_right _ _ q (edits.RemovesNot dir x y ino e f c) = tt

    serves : (b : Body) (u : ServerTurn) (r : Body) → m.body ≡ b → Ruled now t h b u r →
        Gives (keep_and_reply u h r)
    unfolding sv.cut_pages sv.cut_whole
    serves b u r q (edits.Tells _ _ x) =
        gives_keeps t h r k its_life (told_right b r q x)
    serves _ u r q (edits.Acquires ino mode a f l (AtOnce x y v)) =
        gives_keeps u h r
        (gives_state t _ refl refl
        (after_grant W t.state.locks k.waits (sender h) (life_in h) ino mode) k.kept k) its_life
        (its ino mode q f)
    serves _ u r q (edits.Acquires ino mode a f l (InTurn x)) =
        gives_keeps u h r
        (gives_state t _ refl refl
        (after_queue W t.state.locks k.waits (sender h) (life_in h) ino mode (its ino mode q f))
        k.kept k) its_life tt
    serves _ u r q (edits.Releases ino x to row e f) =
        gives_keeps u h r
        (gives_state t _ refl refl (after_release W t.state.locks k.waits (sender h) ino to) k.kept
        k) its_life tt
    serves _ u r q (edits.Allocates ino x p a y f c e) =
        gives_keeps u h r (gives_state t _ refl refl k.waits k.kept k) its_life tt
    serves _ u r q (edits.Cuts ino x p f c) =
        gives_keeps u h r
        (gives_note (sv.with_extents _ t) _ (gives_state t _ refl refl k.waits k.kept k)) its_life
        tt
    serves _ u r q (edits.Creates dir x d e) =
        gives_keeps u h r (gives_state t _ refl refl k.waits k.kept k) its_life tt
    serves _ u r q (edits.MakesDir dir x d e) =
        gives_keeps u h r (gives_state t _ refl refl k.waits k.kept k) its_life tt
    serves _ u r q (edits.Renames dir x dir2 x2 d e) =
        gives_keeps u h r (gives_state t _ refl refl k.waits k.kept k) its_life tt
    serves _ u r q (edits.RemovesDir dir x y ino d l f v e c) =
        gives_keeps u h r (gives_state t _ refl refl k.waits k.kept k) its_life tt
    serves _ u r q (edits.RemovesFile dir x y ino d l f v e c) =
        gives_keeps u h r
        (gives_note
        (sv.with_extents _
        (with_locks (locks.drop_file_waits t.state.locks d.ino) (sv.with_names d.names t))) _
        (gives_state t _ refl refl (after_file W t.state.locks k.waits d.ino) k.kept k)) its_life tt

  refused_right : (t : ServerTurn) (m : Message) (b : Body) → edits.Refused n now i t m b →
      (F : ℕ → Type 0) → GrantedBody F b
  refused_right t m b (edits.IsSuspect start c r e) F = tt
  refused_right t m b (edits.GreetsInGrace h e g) F = tt
  refused_right t m b (edits.OfOtherEpoch h e) F = tt
  refused_right t m b (edits.HasNoSession a e) F = tt
  refused_right t m b (edits.IsRefusedRows rows r a e) F = none r
    where
      none : (r : AcceptRefusal) → GrantedBody F (sv.refused_reassertion r)
      none (refusals.GraceOver a b) = tt
      none (refusals.Conflict a b) = tt
      none (refusals.NotHolder a b) = tt

  gives_new : (t : ServerTurn) (h : Header) → Gives t →
      Gives (with_sessions (sessions.with_new_session (sender h) (life_in h) t.state.sessions) t)
  gives_new t h k =
      gives_state t _ refl refl k.waits
      (kept_new W t.state.sessions (sessions.new_session (sender h) (life_in h)) tt k.kept) k

  gives_edit : (a : Phase) (t u : ServerTurn) → Edit n now i a t u → Gives t → Gives u
  unfolding steal_from tell
  gives_edit a t u (TakesTimers _ e) k = gives_state t _ refl refl k.waits k.kept k
  gives_edit a t u (Steals _ c y h e) k =
      gives_state (note t (notes.Stolen c y.life)) _ refl refl
      (after_forget W t.state.locks k.waits c) (kept_ended W t.state.sessions c k.kept)
      (gives_note t (notes.Stolen c y.life) k)
  gives_edit a t u (Welcomes _ m y g e z f) k = gives_reply t m.header _ k tt
  gives_edit a t u (Begins _ m g f) k = gives_reply _ m.header _ (gives_new t m.header k) tt
  gives_edit a t u (Replaces _ m y g e z f r) k =
      gives_reply _ m.header _
      (gives_state
      (with_sessions (sessions.with_new_session (sender m.header) (life_in m.header)
      t.state.sessions) t) _ refl refl
      (after_drop W t.state.locks k.waits (sender m.header)) (gives_new t m.header k).kept
      (gives_new t m.header k)) tt
  gives_edit a t u (PutsOff _ m y g e z f r) k =
      gives_reply _ m.header _ (gives_suspect t (sender m.header) k) tt
  gives_edit a t u (Sees _ m ino g h b e) k =
      gives_state t _ refl refl (after_seen W t.state.locks k.waits (sender m.header) ino g) k.kept
      k
  gives_edit a t u (Reasserts _ m rs r on f) k =
      gives_reply _ m.header _
      (gives_state t _ refl refl
      (after_rows W t.state.locks k.waits (sender m.header) (life_in m.header) rs)
      (kept_reasserted W t.state.sessions (sender m.header) (life_in m.header) k.kept) k) tt
  gives_edit a t u (Serves _ m v b y e r) k = serves t m y k m.body v b refl r
  gives_edit a t u (Repeats _ m y b z e f g q) k =
      gives_reply t m.header b k
      (subst (λ l. GrantedBody (W (sender m.header) l) b) g
      (subst (keeping.GrantsKept (W (sender m.header) y.life.0)) q (k.kept (sender m.header) y f)))
  gives_edit a t u (Refuses _ m b r) k =
      gives_reply t m.header b k (refused_right t m b r (W (sender m.header) m.header.life))
  gives_edit a t u (Suspects _ c r is q f h e z) k = gives_suspect t c k
  gives_edit a t u (Grants _ w off h e f) k =
      gives_tell (with_locks (locks.grant t.state.locks w.client w.life w.ino w.mode) t) w.client
      w.life _
      (gives_state t _ refl refl
      (after_grant W t.state.locks k.waits w.client w.life w.ino w.mode) k.kept k) (k.waits w h)
  gives_edit a t u (Demands _ w r d e h f row z) k =
      gives_tell (with_locks (locks.with_demand r d t.state.locks) t) r.client r.life _
      (gives_state t (record t.state { locks = locks.with_demand r d t.state.locks }) refl refl
      k.waits k.kept k) tt

  -- The whole step.
  pub served : Gives (turn n []) → Gives (server_step n now i)
  served k = walk n now i Gives gives_edit k
