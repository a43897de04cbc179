-- Each number that a server tells a client, keeps for it, or has in a row of it, is the client's.
use Rattle.st_lemmas.proofs.Words
use Words.{◌≡◌, ℕ, ◌≤◌, ◌<◌, ◌⊎◌, ◌==◌, true, List, [], ◌∷◌, ◌++◌, Some, refl, sym, ap, ◌∙◌, subst, inl, inr, arith, eqb-true, ClientId, GrantNo, Life}
use Words.{ServerId, Stamp, Mode, Header, Message, Body, Note, Output, AcceptRefusal, ServerInput, LockRow}
use Words.bodies as bd
use Words.notes
use Words.outputs
use Words.serving.{Control}
use Words.Authority as authority
use Words.Keys.{server_node}
use Words.Locks as locks
use Words.Locks.{Locks}
use Words.Sessions as sessions
use Words.Server as sv
use Words.Server.{ServerState, ServerTurn, turn, with_locks, with_sessions, sender, life_in, note, reply, say, tell, steal_from, suspect_client, keep_and_reply}
use Words.Server.{server_step, is_client_node}
use Words.Lists.{Has}
use Words.Tables.{and_true, found_at, has_append}
use Words.Members.{has_left, has_right}
use Rattle.st_rules.specs.declared.authority.AcceptRefusal.TheVariants as refusals
use Rattle.st_laws_leases.proofs.Dates.Known.{client_is}
use Rattle.st_laws_grants.specs.Owners.{Fits, FitsState, Grows, Keeps, LocksOk, Owner}
use Rattle.st_laws_grants.proofs.Locking.{Part, extend, extend_from, extend_own, grant_ok, grows_grant, installed_ok, more_top, over_top, part_demand}
use Rattle.st_laws_grants.proofs.Locking.{part_file_waits, part_forget, part_ok, part_queue, part_seen, part_to, part_up, part_waits, top}
use Rattle.st_laws_grants.proofs.Sessions.{fits_more, keeps_more, kept_ended, kept_new, kept_reasserted, kept_stored}
use Rattle.st_trace.specs.Server.Edits as edits
use Rattle.st_trace.specs.Server.Edits.{Phase, Told, AtOnce, InTurn, Ruled, Edit, TakesTimers, Steals, Welcomes, Begins, Replaces, PutsOff, Sees, Reasserts}
use Rattle.st_trace.specs.Server.Edits.{Serves, Repeats, Refuses, Suspects, Grants, Demands}
use Rattle.st_trace.proofs.Server.Walk.{walk}

-- rows of a reassertion are the client's
abbrev pub RowsOwned : Owner → ℕ → List (ℕ × GrantNo × Mode) → Type 0
RowsOwned o c rows = (r : ℕ × GrantNo × Mode) → Has r rows → o r.1.0 ≡ Some (c, r.0)

-- a grant was sent in these outputs
pub record IsTold (s : ServerId) (out : List Output) (g : ℕ) (y : ℕ × ℕ) : Type 0 where
  pub message : Message
  pub among : Has (outputs.Send message) out
  pub from : message.header.from ≡ server_node s
  pub to : message.header.to ≡ y.0
  pub mode : Mode
  pub body : message.body ≡ bd.Granted y.1 (record { 0 = g }) mode

told_more : (s : ServerId) (out os : List Output) (g : ℕ) (y : ℕ × ℕ) → IsTold s out g y → IsTold s (out ++ os) g y
told_more s out os g y z = record { message = z.message; among = has_left out os _ z.among; from = z.from; to = z.to; mode = z.mode; body = z.body }

pub under : (a b c : ℕ) → a ≤ b → b < c → a < c
under a b c x y = omega (arith, x, y)

-- a step of a server, with the numbers that were given before, up to the last one
module _ (s : ServerId) (o : Owner) (n : ℕ) (i : ServerInput)
    (asserted : (m : Message) → i ≡ Control m → m.header.to ≡ server_node s → is_client_node m.header.from ≡ true →
    (rows : List (ℕ × GrantNo × Mode)) → m.body ≡ bd.Reassert rows → RowsOwned o m.header.from rows) where
  -- What holds within a step.
  pub record Gives (t : ServerTurn) : Type 0 where
    pub owner : Owner
    pub grows : Grows o owner
    pub id : t.state.id ≡ s
    pub locked : LocksOk owner t.state.locks
    pub kept : Keeps owner t.state.sessions
    pub sent : (x : Message) → Has (outputs.Send x) t.out → (x.header.from ≡ server_node s) × Fits owner x.header.to x.body
    pub told : (g : ℕ) (y : ℕ × ℕ) → owner g ≡ Some y → (o g ≡ Some y) ⊎ ((n < g) × IsTold s t.out g y)
    pub up : n ≤ top t.state.locks

  -- with more outputs
  still_told : (out os : List Output) (g : ℕ) (y : ℕ × ℕ) → (o g ≡ Some y) ⊎ ((n < g) × IsTold s out g y) →
      (o g ≡ Some y) ⊎ ((n < g) × IsTold s (out ++ os) g y)
  still_told out os g y (inl e) = inl e
  still_told out os g y (inr (l, z)) = inr (l, told_more s out os g y z)

  -- other parts of the state
  gives_after_state : (t : ServerTurn) (x : ServerState) → x.id ≡ t.state.id → Part t.state.locks x.locks → x.sessions ≡ t.state.sessions → Gives t →
      Gives (record t { state = x })
  gives_after_state t x a p c k = record {
    owner = k.owner;
    grows = k.grows;
    id = a ∙ k.id;
    locked = part_ok k.owner t.state.locks x.locks p k.locked;
    kept = subst (Keeps k.owner) (sym c) k.kept;
    sent = k.sent;
    told = k.told;
    up = part_up t.state.locks x.locks n p k.up;
  }

  gives_after_same : (t : ServerTurn) (x : ServerState) → x.id ≡ t.state.id → x.locks ≡ t.state.locks → x.sessions ≡ t.state.sessions → Gives t →
      Gives (record t { state = x })
  gives_after_same t x a p c k = record {
    owner = k.owner;
    grows = k.grows;
    id = a ∙ k.id;
    locked = subst (LocksOk k.owner) (sym p) k.locked;
    kept = subst (Keeps k.owner) (sym c) k.kept;
    sent = k.sent;
    told = k.told;
    up = subst (λ l. n ≤ top l) (sym p) k.up;
  }

  gives_after_sessions : (t : ServerTurn) (x : sessions.Sessions) → ((p : Owner) → Keeps p t.state.sessions → Keeps p x) → Gives t → Gives (with_sessions x t)
  gives_after_sessions t x f k = record {
    owner = k.owner;
    grows = k.grows;
    id = k.id;
    locked = k.locked;
    kept = f k.owner k.kept;
    sent = k.sent;
    told = k.told;
    up = k.up;
  }

  -- one more output
  gives_after_say : (t : ServerTurn) (x : Output) (k : Gives t) → ((m : Message) → outputs.Send m ≡ x →
      (m.header.from ≡ server_node s) × Fits k.owner m.header.to m.body) → Gives (say t x)
  gives_after_say t x k f =
      record {
        owner = k.owner;
        grows = k.grows;
        id = k.id;
        locked = k.locked;
        kept = k.kept;
        sent = λ m h. go m (has_append t.out (x ∷ []) (outputs.Send m) h);
        told = λ g y e. still_told t.out (x ∷ []) g y (k.told g y e);
        up = k.up;
      }
    where
      go : (m : Message) → Has (outputs.Send m) t.out ⊎ Has (outputs.Send m) (x ∷ []) → (m.header.from ≡ server_node s) × Fits k.owner m.header.to m.body
      go m (inl h) = k.sent m h
      go m (inr (inl e)) = f m e
      go m (inr (inr e)) = absurd e

  gives_after_note : (t : ServerTurn) (x : Note) → Gives t → Gives (note t x)
  gives_after_note t x k = gives_after_say t (outputs.Note x) k (λ y q. cc q)

  same_sent : (x m : Message) → outputs.Send x ≡ outputs.Send m → x ≡ m
  same_sent x m q = cc

  gives_after_send : (t : ServerTurn) (h : Header) (b : Body) (k : Gives t) → h.from ≡ server_node s → Fits k.owner h.to b → Gives (sv.send t h b)
  gives_after_send t h b k f w =
      gives_after_say t (outputs.Send (record { header = h; body = b })) k
      (λ x e. subst (λ (y : Message). (y.header.from ≡ server_node s) × Fits k.owner y.header.to y.body)
      (sym (same_sent x (record { header = h; body = b }) e)) (f, w))

  gives_after_reply : (t : ServerTurn) (h : Header) (b : Body) (k : Gives t) → Fits k.owner h.from b → Gives (reply t h b)
  unfolding reply
  gives_after_reply t h b k w = gives_after_send t (sv.reply_header t.state h) b k (ap server_node k.id) w

  gives_after_tell : (t : ServerTurn) (c : ClientId) (life : Life) (b : Body) (k : Gives t) → Fits k.owner c.0 b → Gives (tell t c life b)
  unfolding tell
  gives_after_tell t c life b k w = gives_after_send t (sv.own_header t.state c life) b k (ap server_node k.id) w

  gives_after_suspect : (t : ServerTurn) (now : Stamp) (c : ClientId) → Gives t → Gives (suspect_client t now c)
  unfolding suspect_client
  gives_after_suspect t now c k = gives_after_state (sv.with_authority (authority.suspect t.state.authority c now) (note t (notes.Suspected c now))) _ refl
      (part_waits t.state.locks c) refl (gives_after_same (note t (notes.Suspected c now)) _ refl refl refl (gives_after_note t (notes.Suspected c now) k))

  -- a grant, with the message that tells it
  gives_after_grants : (t : ServerTurn) (x : ServerState) (c : ClientId) (life : Life) (ino : ℕ) (mode : Mode) (h : Header) → x.id ≡ t.state.id →
      x.locks ≡ locks.grant t.state.locks c life ino mode →
      ((p : Owner) → p (locks.next_grant t.state.locks).0 ≡ Some (c.0, ino) → Keeps p t.state.sessions → Keeps p x.sessions) →
      h.from ≡ server_node s → h.to ≡ c.0 → Gives t →
      Gives (record { state = x; out = t.out ++ outputs.Send (record { header = h; body = bd.Granted ino (locks.next_grant t.state.locks) mode }) ∷ [] })
  unfolding locks.grant
  gives_after_grants t x c life ino mode h a e f from to k =
      record {
        owner = p;
        grows = λ g y q. more g y (k.grows g y q);
        id = a ∙ k.id;
        locked = subst (LocksOk p) (sym e) (grant_ok k.owner l c life ino mode k.locked);
        kept = f p own (keeps_more k.owner p more t.state.sessions k.kept);
        sent = λ y i. sent y (has_append t.out (outputs.Send m ∷ []) (outputs.Send y) i);
        told = λ g y q. told g y (extend_from k.owner num (c.0, ino) g y q);
        up = subst (λ z. n ≤ top z) (sym e) (more_top (locks.first_after l.epoch) l.grants n k.up);
      }
    where
      l : Locks
      l = t.state.locks

      num : ℕ
      num = (locks.next_grant l).0

      p : Owner
      p = extend k.owner num (c.0, ino)

      own : p num ≡ Some (c.0, ino)
      own = extend_own k.owner num (c.0, ino)

      more : Grows k.owner p
      more = grows_grant k.owner l (c.0, ino) k.locked

      m : Message
      m = record { header = h; body = bd.Granted ino (locks.next_grant l) mode }

      sent : (y : Message) → Has (outputs.Send y) t.out ⊎ Has (outputs.Send y) (outputs.Send m ∷ []) →
          (y.header.from ≡ server_node s) × Fits p y.header.to y.body
      sent y (inl i) = let q = k.sent y i in (q.0, fits_more k.owner p more y.header.to y.body q.1)
      sent y (inr (inl i)) =
          subst (λ (z : Message). (z.header.from ≡ server_node s) × Fits p z.header.to z.body) (sym (same_sent y m i)) (
            from,
            own ∙ ap (λ d. Some (d, ino)) (sym to),
          )
      sent y (inr (inr i)) = absurd i

      told : (g : ℕ) (y : ℕ × ℕ) → (k.owner g ≡ Some y) ⊎ ((g ≡ num) × (y ≡ (c.0, ino))) →
          (o g ≡ Some y) ⊎ ((n < g) × IsTold s (t.out ++ outputs.Send m ∷ []) g y)
      told g y (inl q) = still_told t.out (outputs.Send m ∷ []) g y (k.told g y q)
      told g y (inr (q, r)) =
          inr (
            under n (top l) g k.up (over_top (locks.first_after l.epoch) l.grants g q),
            record {
              message = m;
              among = has_right t.out _ _ (inl refl);
              from = from;
              to = to ∙ sym (ap (λ (u : ℕ × ℕ). u.0) r);
              mode = mode;
              body = ap (λ b. bd.Granted ino (record { 0 = b }) mode) (sym q) ∙ ap (λ b. bd.Granted b (record { 0 = g }) mode)
                  (sym (ap (λ (u : ℕ × ℕ). u.1) r));
            },
          )

  -- the number of a lock that is held already is its client's
  held_fits : (p : Owner) (l : Locks) (c : ClientId) (ino : ℕ) (r : LockRow) → LocksOk p l → locks.row_of l c ino ≡ Some r → p r.g.0 ≡ Some (c.0, ino)
  held_fits p l c ino r k e =
      let z = found_at (locks.is_row_of c ino) l.rows r e in
      let y = and_true _ (r.ino == ino) z.0 in
      k.rows r z.1 ∙ ap (λ (x : ClientId). Some (x.0, r.ino)) (client_is r.client c y.0) ∙ ap (λ (m : ℕ). Some (c.0, m)) (eqb-true r.ino ino y.1)

  told_fits : (t : ServerTurn) (h : Header) (m b : Body) → Told t h m b → (k : Gives t) → Fits k.owner h.from b
  told_fits t h m b edits.IsAlive k = tt
  told_fits t h m b (edits.IsHeld ino mode r f e q) k = held_fits k.owner t.state.locks (sender h) ino r k.locked e
  told_fits t h m b (edits.HasTooMany ino mode f e q) k = tt
  told_fits t h m b (edits.HasNoRow ino g to e) k = tt
  told_fits t h m b (edits.IsMapped ino g p f e) k = tt
  told_fits t h m b (edits.IsNoFile _ ino e f) k = tt
  told_fits t h m b (edits.HoldsNot _ ino g mode e f q) k = tt
  told_fits t h m b (edits.HasNoSpace ino g p x y z f q e) k = tt
  told_fits t h m b (edits.IsNamed dir x ino e) k = tt
  told_fits t h m b (edits.AreListed dir x rows e) k = tt
  told_fits t h m b (edits.IsRefused op x e) k = tt
  told_fits t h m b (edits.RemovesNot dir x g ino e f q) k = tt

  -- a request that is served: its reply is kept, and sent
  keeps : (u : ServerTurn) (h : Header) (b : Body) (k : Gives u) → Fits k.owner h.from b → Gives (keep_and_reply u h b)
  unfolding keep_and_reply
  keeps u h b k w =
      gives_after_reply (with_sessions (sessions.store u.state.sessions (sender h) h.number b) u) h b
      (record {
        owner = k.owner;
        grows = k.grows;
        id = k.id;
        locked = k.locked;
        kept = kept_stored k.owner u.state.sessions (sender h) h.number b w k.kept;
        sent = k.sent;
        told = k.told;
        up = k.up;
      }) w

  serves : (now : Stamp) (t : ServerTurn) (h : Header) (m : Body) (u : ServerTurn) (b : Body) → Ruled now t h m u b → Gives t → Gives (keep_and_reply u h b)
  unfolding keep_and_reply reply sv.cut_pages sv.cut_whole
  serves now t h m u b (edits.Tells _ _ r) k = keeps t h b k (told_fits t h m b r k)
  serves now t h m u b (edits.Acquires ino mode a f l (AtOnce g x y)) k =
      gives_after_grants t _ (sender h) (life_in h) ino mode _ refl refl
      (λ p q z. kept_stored p t.state.sessions (sender h) h.number (bd.Granted ino (locks.next_grant t.state.locks) mode) q z) (ap server_node k.id) refl k
  serves now t h m u b (edits.Acquires ino mode a f l (InTurn g)) k =
      keeps u h b (gives_after_state t _ refl (part_queue t.state.locks (sender h) (life_in h) ino mode) refl k) tt
  serves now t h m u b (edits.Releases ino g to r e f) k = keeps u h b (gives_after_state t _ refl (part_to t.state.locks (sender h) ino to) refl k) tt
  serves now t h m u b (edits.Allocates ino g p count x f q e) k = keeps u h b (gives_after_same t _ refl refl refl k) tt
  serves now t h m u b (edits.Cuts ino g p f q) k = keeps u h b (gives_after_note (sv.with_extents _ t) _ (gives_after_same t _ refl refl refl k)) tt
  serves now t h m u b (edits.Creates dir x d e) k = keeps u h b (gives_after_same t _ refl refl refl k) tt
  serves now t h m u b (edits.MakesDir dir x d e) k = keeps u h b (gives_after_same t _ refl refl refl k) tt
  serves now t h m u b (edits.Renames dir x dir2 x2 d e) k = keeps u h b (gives_after_same t _ refl refl refl k) tt
  serves now t h m u b (edits.RemovesDir dir x g ino d l f z e q) k = keeps u h b (gives_after_same t _ refl refl refl k) tt
  serves now t h m u b (edits.RemovesFile dir x g ino d l f z e q) k =
      keeps u h b (gives_after_note (sv.with_extents _ (with_locks (locks.drop_file_waits t.state.locks d.ino) (sv.with_names d.names t))) _
      (gives_after_state t _ refl (part_file_waits t.state.locks d.ino) refl k)) tt

  module _ (x : ServerState) (now : Stamp) where
    refused_fits : (t : ServerTurn) (m : Message) (b : Body) → edits.Refused x now i t m b → (p : Owner) (c : ℕ) → Fits p c b
    refused_fits t m b (edits.IsSuspect start c r e) p d = tt
    refused_fits t m b (edits.GreetsInGrace h e g) p d = tt
    refused_fits t m b (edits.OfOtherEpoch h e) p d = tt
    refused_fits t m b (edits.HasNoSession a e) p d = tt
    refused_fits t m b (edits.IsRefusedRows rows r a e) p d = none r
      where
        none : (r : AcceptRefusal) → Fits p d (sv.refused_reassertion r)
        none (refusals.GraceOver a b) = tt
        none (refusals.Conflict a b) = tt
        none (refusals.NotHolder a b) = tt

    begins : (t : ServerTurn) (c : ClientId) (life : Life) → Gives t → Gives (with_sessions (sessions.with_new_session c life t.state.sessions) t)
    begins t c life k = gives_after_sessions t _ (λ p q. kept_new p t.state.sessions (sessions.new_session c life) tt q) k

    reasserts : (t : ServerTurn) (m : Message) (rows : List (ℕ × GrantNo × Mode)) → edits.Reasserted x now i t m rows → Gives t →
        Gives (with_sessions (sessions.reasserted t.state.sessions (sender m.header) (life_in m.header))
        (with_locks (locks.with_rows t.state.locks (sender m.header) (life_in m.header) rows) t))
    unfolding locks.with_rows
    reasserts t m rows r k =
        record {
          owner = k.owner;
          grows = k.grows;
          id = k.id;
          locked = installed_ok k.owner t.state.locks (sender m.header) (life_in m.header) rows
              (λ y h. k.grows y.1.0 (m.header.from, y.0) (owned y h)) k.locked;
          kept = kept_reasserted k.owner t.state.sessions (sender m.header) (life_in m.header) k.kept;
          sent = k.sent;
          told = k.told;
          up = k.up;
        }
      where
        owned : RowsOwned o m.header.from rows
        owned = let c = r.asked.heard.came in asserted m c.is (c.there ∙ ap server_node k.id) c.from rows r.asks

    gives_edit : (a : Phase) (t u : ServerTurn) → Edit x now i a t u → Gives t → Gives u
    unfolding steal_from tell
    gives_edit a t u (TakesTimers _ e) k = gives_after_same t _ refl refl refl k
    gives_edit a t u (Steals _ c y h e) k =
        gives_after_sessions (with_locks (locks.forget t.state.locks c) (note t (notes.Stolen c y.life))) _ (λ p q. kept_ended p t.state.sessions c q)
        (gives_after_state (note t (notes.Stolen c y.life)) _ refl (part_forget t.state.locks c) refl (gives_after_note t (notes.Stolen c y.life) k))
    gives_edit a t u (Welcomes _ m y g e z f) k = gives_after_reply t m.header _ k tt
    gives_edit a t u (Begins _ m g f) k = gives_after_reply _ m.header _ (begins t (sender m.header) (life_in m.header) k) tt
    gives_edit a t u (Replaces _ m y g e z f r) k =
        gives_after_reply _ m.header _
        (gives_after_state (with_sessions (sessions.with_new_session (sender m.header) (life_in m.header) t.state.sessions) t) _ refl
        (part_waits t.state.locks (sender m.header)) refl
        (begins t (sender m.header) (life_in m.header) k)) tt
    gives_edit a t u (PutsOff _ m y g e z f r) k = gives_after_reply _ m.header _ (gives_after_suspect t now (sender m.header) k) tt
    gives_edit a t u (Sees _ m ino g h b e) k = gives_after_state t _ refl (part_seen t.state.locks (sender m.header) ino g) refl k
    gives_edit a t u (Reasserts _ m rows r on f) k = gives_after_reply _ m.header _ (reasserts t m rows r k) tt
    gives_edit a t u (Serves _ m v b y e r) k = serves now t m.header m.body v b r k
    gives_edit a t u (Repeats _ m y b z e f g q) k = gives_after_reply t m.header b k (subst (FitsState k.owner m.header.from) q (k.kept (sender m.header) y f))
    gives_edit a t u (Refuses _ m b r) k = gives_after_reply t m.header b k (refused_fits t m b r k.owner m.header.from)
    gives_edit a t u (Suspects _ c r is q f h e z) k = gives_after_suspect t now c k
    gives_edit a t u (Grants _ w off h e f) k = gives_after_grants t _ w.client w.life w.ino w.mode _ refl refl (λ p q z. z) (ap server_node k.id) refl k
    gives_edit a t u (Demands _ w r d e h f row z) k =
        let p = part_demand r d t.state.locks in
        gives_after_send (with_locks (locks.with_demand r d t.state.locks) t) _ _
        (record {
          owner = k.owner;
          grows = k.grows;
          id = k.id;
          locked = part_ok k.owner t.state.locks (locks.with_demand r d t.state.locks) p k.locked;
          kept = k.kept;
          sent = k.sent;
          told = k.told;
          up = part_up t.state.locks (locks.with_demand r d t.state.locks) n p k.up;
        }) (ap server_node k.id) (k.locked.rows r (found_at (locks.is_row_of r.client r.ino) t.state.locks.rows r row).1)

  -- The whole step.
  pub served : (x : ServerState) (now : Stamp) → Gives (turn x []) → Gives (server_step x now i)
  served x now k = walk x now i Gives (gives_edit x now) k
