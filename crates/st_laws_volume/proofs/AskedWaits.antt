-- A step of a server, walked for who waits for locks and who is granted them: each wait, and each
-- grant that is sent, is of a file of which that client was asked.
use Rattle.st_lemmas.proofs.Words
use Words.{◌≡◌, ◌⊎◌, ℕ, Bool, true, false, ◌&&◌, ◌==◌, List, [], ◌∷◌, ◌++◌, Option, Some, None, refl, sym, ap, ◌∙◌, subst, inl, inr, map}
use Words.{eqb-true, AcceptRefusal, Body, ClientId, Header, Life, LockRow, Message, Mode, Note, Output, ServerId, ServerInput, Session, Stamp, Waiter}
use Words.bodies
use Words.modes
use Words.outputs
use Words.notes
use Words.states
use Words.serving.{Control}
use Words.Authority as authority
use Words.Keys.{client, server_node}
use Words.Locks as locks
use Words.Locks.{Locks}
use Words.Sessions as sessions
use Words.Server as sv
use Words.Server.{ServerState, ServerTurn, is_client_node, keep_and_reply, life_in, note, reply, say, sender, server_step, steal_from, suspect_client, tell, thefts, turn, with_locks, with_sessions}
use Words.Lists.{Has}
use Words.Tables.{has_append, has_filter, has_map}
use Words.Truth.{if_either}
use Rattle.st_rules.specs.declared.authority.AcceptRefusal.TheVariants as refusals
use Rattle.st_trace.specs.Server.Edits as edits
use Rattle.st_trace.specs.Server.Edits.{AtOnce, Begins, Begun, Demands, Edit, Grants, InTurn, Phase, PutsOff, Reasserts, Refuses, Repeats, Replaces, Ruled, Sees, Serves, Steals, Suspects, TakesTimers, Told, Welcomes}
use Rattle.st_trace.proofs.Server.Input.{walk_of_thefts}
use Rattle.st_trace.proofs.Server.Walk.{walk}

-- a grant is of a file with this fact
abbrev pub GrantedBody : (ℕ → Type 0) → Body → Type 0
GrantedBody F (bodies.Granted ino g mode) = F ino
GrantedBody F b = Unit {0}

-- A lock table with the limit of the first two forms, and who waits in it.
pub record AllWait (W : ClientId → ℕ → Type 0) (l : Locks) : Type 0 where
  pub limit : l.limit ≡ 1024
  pub waits : (x : Waiter) → Has x l.waiters → W x.client x.ino

module _ (W : ClientId → ℕ → Type 0) (l : Locks) (h : AllWait W l) where
  after_forget : (c : ClientId) → AllWait W (locks.forget l c)
  unfolding locks.forget
  after_forget c =
      record { limit = h.limit; waits = λ x i. h.waits x (has_filter _ l.waiters x i).0 }

  after_drop : (c : ClientId) → AllWait W (locks.drop_waits l c)
  unfolding locks.drop_waits
  after_drop c = record { limit = h.limit; waits = λ x i. h.waits x (has_filter _ l.waiters x i).0 }

  after_file : (ino : ℕ) → AllWait W (locks.drop_file_waits l ino)
  unfolding locks.drop_file_waits
  after_file ino =
      record { limit = h.limit; waits = λ x i. h.waits x (has_filter _ l.waiters x i).0 }

  after_seen : (c : ClientId) (ino : ℕ) (g : Words.GrantNo) →
      AllWait W (locks.demand_seen l c ino g)
  unfolding locks.demand_seen
  after_seen c ino g = record { limit = h.limit; waits = h.waits }

  after_release : (c : ClientId) (ino : ℕ) (to : Mode) → AllWait W (locks.release_to l c ino to)
  unfolding locks.release_to
  after_release c ino modes.None = record { limit = h.limit; waits = h.waits }
  after_release c ino modes.S = record { limit = h.limit; waits = h.waits }
  after_release c ino modes.X = record { limit = h.limit; waits = h.waits }

  after_rows : (c : ClientId) (life : Life) (rows : List (ℕ × Words.GrantNo × Mode)) →
      AllWait W (locks.with_rows l c life rows)
  unfolding locks.with_rows
  after_rows c life rows = record { limit = h.limit; waits = h.waits }

  after_grant : (c : ClientId) (life : Life) (ino : ℕ) (mode : Mode) →
      AllWait W (locks.grant l c life ino mode)
  unfolding locks.grant
  after_grant c life ino mode =
      record { limit = h.limit; waits = λ x i. h.waits x (has_filter _ l.waiters x i).0 }

  after_queue : (c : ClientId) (life : Life) (ino : ℕ) (mode : Mode) → W c ino →
      AllWait W (locks.queue l c life ino mode)
  unfolding locks.queue locks.queue_at locks.wait_for
  after_queue c life ino mode f = go (locks.wait_of l c ino)
    where
      new : (x : Waiter) → Has x l.waiters ⊎ Has x (locks.new_wait c life ino mode ∷ []) →
          W x.client x.ino
      new x (inl i) = h.waits x i
      new x (inr (inl e)) = subst (λ (y : Waiter). W y.client y.ino) (sym e) f
      new x (inr (inr i)) = absurd i

      raised : (y : Waiter) → W y.client y.ino →
          W (locks.raise c ino mode y).client (locks.raise c ino mode y).ino
      raised y k = if_either (λ (x : Waiter). W x.client x.ino) (locks.is_wait_of c ino y) _ _ k k

      go : (o : Option Waiter) → AllWait W (locks.queue_at l c life ino mode o)
      go None =
          record {
            limit = h.limit;
            waits = λ x i. new x (has_append l.waiters (locks.new_wait c life ino mode ∷ []) x i);
          }
      go (Some w) =
          record {
            limit = h.limit;
            waits = λ x i.
                let z = has_map (locks.raise c ino mode) l.waiters x i in
                subst (λ (y : Waiter). W y.client y.ino) (sym z.2) (raised z.0 (h.waits z.0 z.1));
          }

-- The thefts add neither rows nor waits.
pub record Fewer (l m : Locks) : Type 0 where
  pub limit : m.limit ≡ l.limit
  pub rows : (r : LockRow) → Has r m.rows → Has r l.rows
  pub waits : (x : Waiter) → Has x m.waiters → Has x l.waiters

fewer_edit : (l : Locks) (n : ServerState) (now : Stamp) (i : ServerInput) (t u : ServerTurn) →
    Edit n now i edits.AtThefts t u → Fewer l t.state.locks → Fewer l u.state.locks
unfolding steal_from locks.forget
fewer_edit l n now i t _ (TakesTimers _ e) k = k
fewer_edit l n now i t _ (Steals _ c s h e) k =
    record {
      limit = k.limit;
      rows = λ r j. k.rows r (has_filter _ t.state.locks.rows r j).0;
      waits = λ x j. k.waits x (has_filter _ t.state.locks.waiters x j).0;
    }

pub thefts_fewer : (n : ServerState) (now : Stamp) →
    Fewer n.locks (thefts (turn n []) now).state.locks
thefts_fewer n now =
    walk_of_thefts n now Words.serving.Tick (λ t. Fewer n.locks t.state.locks)
    (λ t u x k. fewer_edit n.locks n now Words.serving.Tick t u x k)
    (record { limit = refl; rows = λ r i. i; waits = λ x i. i })

-- A server with the files that its clients have locks of, or wait for.
module _ (s : ServerId) (W : ClientId → ℕ → Type 0) (n : ServerState) (now : Stamp)
    (i : ServerInput)
    (rows : (c : ClientId) (ino : ℕ) (r : LockRow) → locks.row_of n.locks c ino ≡ Some r → W c ino)
    (kept : (c : ClientId) (y : Session) → sessions.session_of n.sessions c ≡ Some y → (last : ℕ)
    (b : Body) → y.state ≡ states.Live last (Some b) → GrantedBody (W c) b)
    (asked : (m : Message) → i ≡ Control m → m.header.to ≡ server_node s →
    is_client_node m.header.from ≡ true → (ino : ℕ) (mode : Mode) →
    m.body ≡ bodies.Acquire ino mode → W (sender m.header) ino) where
  abbrev IsRight : Message → Type 0
  IsRight m = (m.header.from ≡ server_node s) × GrantedBody (W (client m.header.to)) m.body

  pub record Gives (t : ServerTurn) : Type 0 where
    pub id : t.state.id ≡ s
    pub waits : AllWait W t.state.locks
    pub sent : (m : Message) → Has (outputs.Send m) t.out → IsRight m

  gives_state : (t : ServerTurn) (x : ServerState) → x.id ≡ t.state.id → AllWait W x.locks →
      Gives t →
      Gives (record t { state = x })
  gives_state t x a p k = record { id = a ∙ k.id; waits = p; sent = k.sent }

  gives_say : (t : ServerTurn) (x : Output) → Gives t →
      ((m : Message) → outputs.Send m ≡ x → IsRight m) →
      Gives (say t x)
  gives_say t x k f =
      record {
        id = k.id;
        waits = k.waits;
        sent =
            λ m h. go m (has_append t.out (x ∷ []) (outputs.Send m) h);
      }
    where
      go : (m : Message) → Has (outputs.Send m) t.out ⊎ Has (outputs.Send m) (x ∷ []) → IsRight m
      go m (inl h) = k.sent m h
      go m (inr (inl e)) = f m e
      go m (inr (inr e)) = absurd e

  gives_note : (t : ServerTurn) (x : Note) → Gives t → Gives (note t x)
  gives_note t x k = gives_say t (outputs.Note x) k (λ y q. cc q)

  same_sent : (x m : Message) → outputs.Send x ≡ outputs.Send m → x ≡ m
  same_sent x m q = cc

  gives_send : (t : ServerTurn) (h : Header) (b : Body) → Gives t → h.from ≡ server_node s →
      GrantedBody (W (client h.to)) b → Gives (sv.send t h b)
  gives_send t h b k f w =
      gives_say t (outputs.Send (record { header = h; body = b })) k
      (λ x e. subst IsRight (sym (same_sent x (record { header = h; body = b }) e)) (f, w))

  gives_reply : (t : ServerTurn) (h : Header) (b : Body) → Gives t → GrantedBody (W (sender h)) b →
      Gives (reply t h b)
  unfolding reply
  gives_reply t h b k w = gives_send t (sv.reply_header t.state h) b k (ap server_node k.id) w

  gives_tell : (t : ServerTurn) (c : ClientId) (life : Life) (b : Body) → Gives t →
      GrantedBody (W c) b →
      Gives (tell t c life b)
  unfolding tell
  gives_tell t c life b k w = gives_send t (sv.own_header t.state c life) b k (ap server_node k.id)
      w

  gives_suspect : (t : ServerTurn) (c : ClientId) → Gives t → Gives (suspect_client t now c)
  unfolding suspect_client
  gives_suspect t c k =
      gives_state (note t (notes.Suspected c now)) _ refl (after_drop W t.state.locks k.waits c)
      (gives_note t (notes.Suspected c now) k)

  gives_keeps : (u : ServerTurn) (h : Header) (b : Body) → Gives u → GrantedBody (W (sender h)) b →
      Gives (keep_and_reply u h b)
  unfolding keep_and_reply
  gives_keeps u h b k w =
      gives_reply (with_sessions (sessions.store u.state.sessions (sender h) h.number b) u) h b
      (gives_state u _ refl k.waits k) w

  told_right : (t : ServerTurn) → Begun n t → (h : Header) (m b : Body) → Told t h m b →
      GrantedBody (W (sender h)) b
  told_right t g h m b edits.IsAlive = tt
  told_right t g h m b (edits.IsHeld ino mode r f e q) =
      rows (sender h) ino r (g.rows (sender h) ino r e)
  told_right t g h m b (edits.HasTooMany ino mode f e q) = tt
  told_right t g h m b (edits.HasNoRow ino x to e) = tt
  told_right t g h m b (edits.IsMapped ino x p f e) = tt
  told_right t g h m b (edits.IsNoFile _ ino e f) = tt
  told_right t g h m b (edits.HoldsNot _ ino x mode e f q) = tt
  told_right t g h m b (edits.HasNoSpace ino x p a y z f q e) = tt
  told_right t g h m b (edits.IsNamed dir x ino e) = tt
  told_right t g h m b (edits.AreListed dir x rows e) = tt
  told_right t g h m b (edits.IsRefused op x e) = tt
  told_right t g h m b (edits.RemovesNot dir x y ino e f q) = tt

  serves : (t : ServerTurn) → Begun n t → (h : Header) (m : Body) (u : ServerTurn) (b : Body) →
      ((ino : ℕ) (mode : Mode) → m ≡ bodies.Acquire ino mode → W (sender h) ino) →
      Ruled now t h m u b → Gives t → Gives (keep_and_reply u h b)
  unfolding sv.cut_pages sv.cut_whole
  serves t g h m u b its (edits.Tells _ _ r) k = gives_keeps t h b k (told_right t g h m b r)
  serves t g h m u b its (edits.Acquires ino mode a f l (AtOnce x y z)) k =
      gives_keeps u h b
      (gives_state t _ refl (after_grant W t.state.locks k.waits (sender h) (life_in h) ino mode) k)
      (its ino mode refl)
  serves t g h m u b its (edits.Acquires ino mode a f l (InTurn x)) k =
      gives_keeps u h b
      (gives_state t _ refl
      (after_queue W t.state.locks k.waits (sender h) (life_in h) ino mode (its ino mode refl)) k)
      tt
  serves t g h m u b its (edits.Releases ino x to r e f) k =
      gives_keeps u h b
      (gives_state t _ refl (after_release W t.state.locks k.waits (sender h) ino to) k) tt
  serves t g h m u b its (edits.Allocates ino x p a y f q e) k =
      gives_keeps u h b (gives_state t _ refl k.waits k) tt
  serves t g h m u b its (edits.Cuts ino x p f q) k =
      gives_keeps u h b (gives_note (sv.with_extents _ t) _ (gives_state t _ refl k.waits k)) tt
  serves t g h m u b its (edits.Creates dir x d e) k =
      gives_keeps u h b (gives_state t _ refl k.waits k) tt
  serves t g h m u b its (edits.MakesDir dir x d e) k =
      gives_keeps u h b (gives_state t _ refl k.waits k) tt
  serves t g h m u b its (edits.Renames dir x dir2 x2 d e) k =
      gives_keeps u h b (gives_state t _ refl k.waits k) tt
  serves t g h m u b its (edits.RemovesDir dir x y ino d l f z e q) k =
      gives_keeps u h b (gives_state t _ refl k.waits k) tt
  serves t g h m u b its (edits.RemovesFile dir x y ino d l f z e q) k =
      gives_keeps u h b
      (gives_note
      (sv.with_extents _
      (with_locks (locks.drop_file_waits t.state.locks d.ino) (sv.with_names d.names t))) _
      (gives_state t _ refl (after_file W t.state.locks k.waits d.ino) k)) tt

  refused_right : (t : ServerTurn) (m : Message) (b : Body) → edits.Refused n now i t m b →
      (F : ℕ → Type 0) →
      GrantedBody F b
  refused_right t m b (edits.IsSuspect start c r e) F = tt
  refused_right t m b (edits.GreetsInGrace h e g) F = tt
  refused_right t m b (edits.OfOtherEpoch h e) F = tt
  refused_right t m b (edits.HasNoSession a e) F = tt
  refused_right t m b (edits.IsRefusedRows rows r a e) F = none r
    where
      none : (r : AcceptRefusal) → GrantedBody F (sv.refused_reassertion r)
      none (refusals.GraceOver a b) = tt
      none (refusals.Conflict a b) = tt
      none (refusals.NotHolder a b) = tt

  gives_edit : (a : Phase) (t u : ServerTurn) → Edit n now i a t u → Gives t → Gives u
  unfolding steal_from tell
  gives_edit a t u (TakesTimers _ e) k = gives_state t _ refl k.waits k
  gives_edit a t u (Steals _ c y h e) k =
      gives_state (note t (notes.Stolen c y.life)) _ refl (after_forget W t.state.locks k.waits c)
      (gives_note t (notes.Stolen c y.life) k)
  gives_edit a t u (Welcomes _ m y g e z f) k = gives_reply t m.header _ k tt
  gives_edit a t u (Begins _ m g f) k = gives_reply _ m.header _ (gives_state t _ refl k.waits k) tt
  gives_edit a t u (Replaces _ m y g e z f r) k =
      gives_reply _ m.header _
      (gives_state t _ refl (after_drop W t.state.locks k.waits (sender m.header)) k) tt
  gives_edit a t u (PutsOff _ m y g e z f r) k =
      gives_reply _ m.header _ (gives_suspect t (sender m.header) k) tt
  gives_edit a t u (Sees _ m ino g h b e) k =
      gives_state t _ refl (after_seen W t.state.locks k.waits (sender m.header) ino g) k
  gives_edit a t u (Reasserts _ m rs r on f) k =
      gives_reply _ m.header _
      (gives_state t _ refl
      (after_rows W t.state.locks k.waits (sender m.header) (life_in m.header) rs) k) tt
  gives_edit a t u (Serves _ m v b y e r) k =
      let came = y.asked.heard.came in
      serves t came.begun m.header m.body v b
      (λ ino mode z. asked m came.is (came.there ∙ ap server_node k.id) came.from ino mode z) r k
  gives_edit a t u (Repeats _ m y b z e f g q) k =
      let f2 = z.heard.came.begun.sessions (sender m.header) y f (ap sessions.is_live_state q) in
      gives_reply t m.header b k (kept (sender m.header) y f2 m.header.number b q)
  gives_edit a t u (Refuses _ m b r) k =
      gives_reply t m.header b k (refused_right t m b r (W (sender m.header)))
  gives_edit a t u (Suspects _ c r is q f h e z) k = gives_suspect t c k
  gives_edit a t u (Grants _ w off h e f) k =
      gives_tell (with_locks (locks.grant t.state.locks w.client w.life w.ino w.mode) t) w.client
      w.life _
      (gives_state t _ refl (after_grant W t.state.locks k.waits w.client w.life w.ino w.mode) k)
      (k.waits.waits w h)
  gives_edit a t u (Demands _ w r d e h f row z) k =
      gives_tell (with_locks (locks.with_demand r d t.state.locks) t) r.client r.life _
      (gives_state t (record t.state { locks = locks.with_demand r d t.state.locks }) refl
      (record { limit = k.waits.limit; waits = k.waits.waits }) k) tt

  -- The whole step.
  pub served : Gives (turn n []) → Gives (server_step n now i)
  served k = walk n now i Gives gives_edit k
