-- Whoever has a row or a wait at a server has asked for it, in the life of the row or the wait, by a message that isn't a greeting.
use Rattle.st_lemmas.proofs.Words
use Words.{◌≡◌, ◌⊎◌, ℕ, Bool, true, false, [], ◌∷◌, refl, sym, ap, ◌∙◌, subst, inl, inr, map, Option, Some, None, not}
use Words.{ClientId, Life, Stamp, Mode, Header, Body, Message, ServerInput, LockRow, Waiter}
use Words.modes
use Words.bodies as bd
use Words.serving.{Control}
use Words.Grace as grace
use Words.Keys.{server_node}
use Words.Lists.{Has}
use Words.Locks as locks
use Words.Locks.{Locks, is_row_of}
use Words.Server as sv
use Words.Server.{ServerState, ServerTurn, life_in, sender}
use Words.Tables.{cond_either, has_append, has_filter, has_map}
use Rattle.st_lemmas.proofs.Puts.{has_put}
use Rattle.st_trace.specs.Server.Edits.{Acquires, AtOnce, Demands, EditOf, Gets, Grants, InTurn, Phase, PutsOff, Reasserts, Releases, RemovesFile, Replaces}
use Rattle.st_trace.specs.Server.Edits.{Ruled, Sees, Serves, Steals, Suspects}
use Rattle.st_trace.specs.Server.Steps.{step_of}
use Rattle.st_trace.proofs.Server.Walk.{walk_of}
use Rattle.st_laws_suspicions.proofs.Served.{Holds, holds_edit}

-- A client asked in a life, by what is known of messages.
module _ (Asked : ClientId → Life → Type 0) where
  -- so did whoever has a row or a wait
  pub record AreAsked (l : Locks) : Type 0 where
    pub rows : (r : LockRow) → Has r l.rows → Asked r.client r.life
    pub waits : (w : Waiter) → Has w l.waiters → Asked w.client w.life

  asked_part : (l v : Locks) → ((r : LockRow) → Has r v.rows → Has r l.rows) → ((w : Waiter) → Has w v.waiters → Has w l.waiters) → AreAsked l → AreAsked v
  asked_part l v rows waits a = record { rows = λ r h. a.rows r (rows r h); waits = λ w h. a.waits w (waits w h) }

  -- a change of each row that leaves its client and its life
  asked_map : (f : LockRow → LockRow) (l v : Locks) → v.rows ≡ map f l.rows → v.waiters ≡ l.waiters →
      ((r : LockRow) → ((f r).client ≡ r.client) × ((f r).life ≡ r.life)) → AreAsked l → AreAsked v
  asked_map f l v e q same a =
      record {
        rows = λ r h. let m = has_map f l.rows r (subst (Has r) e h) in
            let s = same m.0 in
            subst (λ (x : LockRow). Asked x.client x.life) (sym m.2)
            (subst (λ x. Asked x (f m.0).life) (sym s.0) (subst (Asked m.0.client) (sym s.1) (a.rows m.0 m.1)));
        waits = λ w h. a.waits w (subst (Has w) q h);
      }

  asked_grant : (l : Locks) (c : ClientId) (life : Life) (ino : ℕ) (mode : Mode) → Asked c life → AreAsked l → AreAsked (locks.grant l c life ino mode)
  unfolding locks.grant
  asked_grant l c life ino mode x a =
      record {
        rows = λ r h. go r (has_put (is_row_of c ino) (locks.new_row l c life ino mode) l.rows r h);
        waits = λ w h. a.waits w (has_filter (λ y. not (locks.is_wait_of c ino y)) l.waiters w h).0;
      }
    where
      go : (r : LockRow) → (r ≡ locks.new_row l c life ino mode) ⊎ Has r l.rows → Asked r.client r.life
      go r (inl e) = subst (λ (q : LockRow). Asked q.client q.life) (sym e) x
      go r (inr h) = a.rows r h

  asked_queue : (l : Locks) (c : ClientId) (life : Life) (ino : ℕ) (mode : Mode) → Asked c life → AreAsked l → AreAsked (locks.queue l c life ino mode)
  unfolding locks.queue locks.queue_at locks.wait_for
  asked_queue l c life ino mode x a = go (locks.wait_of l c ino)
    where
      same : (w : Waiter) → ((locks.raise c ino mode w).client ≡ w.client) × ((locks.raise c ino mode w).life ≡ w.life)
      same w =
          cond_either (λ (y : Waiter). (y.client ≡ w.client) × (y.life ≡ w.life)) (locks.is_wait_of c ino w) (locks.wait_for mode w) w (λ e. (refl, refl))
          (λ e. (refl, refl))

      go : (o : Option Waiter) → AreAsked (locks.queue_at l c life ino mode o)
      go None = record { rows = a.rows; waits = λ w h. at w (has_append l.waiters (locks.new_wait c life ino mode ∷ []) w h) }
        where
          at : (w : Waiter) → Has w l.waiters ⊎ Has w (locks.new_wait c life ino mode ∷ []) → Asked w.client w.life
          at w (inl h) = a.waits w h
          at w (inr (inl e)) = subst (λ (y : Waiter). Asked y.client y.life) (sym e) x
          at w (inr (inr h)) = absurd h
      go (Some v) =
          record {
            rows = a.rows;
            waits = λ w h. let m = has_map (locks.raise c ino mode) l.waiters w h in
                let s = same m.0 in
                subst (λ (y : Waiter). Asked y.client y.life) (sym m.2)
                (subst (λ y. Asked y (locks.raise c ino mode m.0).life) (sym s.0) (subst (Asked m.0.client) (sym s.1) (a.waits m.0 m.1)));
          }

  asked_release : (l : Locks) (c : ClientId) (ino : ℕ) (to : Mode) → AreAsked l → AreAsked (locks.release_to l c ino to)
  unfolding locks.release_to locks.lowered
  asked_release l c ino to a = go to
    where
      lowers : (r : LockRow) → ((locks.lower c ino r).client ≡ r.client) × ((locks.lower c ino r).life ≡ r.life)
      lowers r =
          cond_either (λ (y : LockRow). (y.client ≡ r.client) × (y.life ≡ r.life)) (is_row_of c ino r) (locks.lowered r) r (λ e. (refl, refl))
          (λ e. (refl, refl))

      go : (to : Mode) → AreAsked (locks.release_to l c ino to)
      go modes.None = asked_part l (locks.release_to l c ino modes.None) (λ r h. (has_filter (λ q. not (is_row_of c ino q)) l.rows r h).0) (λ w h. h) a
      go modes.S = asked_map (locks.lower c ino) l (locks.release_to l c ino modes.S) refl refl lowers a
      go modes.X = asked_map (locks.lower c ino) l (locks.release_to l c ino modes.X) refl refl lowers a

  module _ (clients : ℕ → Bool) (k : Words.Config) (s : Words.ServerId) (n : ServerState) (now : Stamp) (i : ServerInput)
      (hears : (m : Message) → i ≡ Control m → m.header.to ≡ server_node n.id → clients m.header.from ≡ true → ((m.body ≡ bd.Hello) → ⊥) →
      Asked (sender m.header) (life_in m.header)) where
    record HeldAndAsked (t : ServerTurn) : Type 0 where
      holds : Holds clients k s t.state
      asked : AreAsked t.state.locks

    -- the rule of a request
    ruled : (t : ServerTurn) (h : Header) (b : Body) (v : ServerTurn) (r : Body) → (((b ≡ bd.Hello) → ⊥) → Asked (sender h) (life_in h)) →
        Ruled now t h b v r → AreAsked t.state.locks → AreAsked v.state.locks
    unfolding sv.cut_pages sv.cut_whole locks.drop_file_waits
    ruled t h b v r x (Acquires ino mode a file lacks gets) y = taken gets
      where
        no : bd.Acquire ino mode ≡ bd.Hello → ⊥
        no e = cc

        taken : {a : locks.Acquired} → Gets (sv.grants_now t now) t.state.locks (sender h) (life_in h) ino mode a → AreAsked a.locks
        taken (AtOnce may free first) = asked_grant t.state.locks (sender h) (life_in h) ino mode (x no) y
        taken (InTurn held) = asked_queue t.state.locks (sender h) (life_in h) ino mode (x no) y
    ruled t h b v r x (Releases ino g to q is under) y = asked_release t.state.locks (sender h) ino to y
    ruled t h b v r x (RemovesFile dir nm g ino d look is_file holds remove e) y =
        asked_part t.state.locks v.state.locks (λ q i. i) (λ w i. (has_filter (λ u. not (locks.is_wait_on d.ino u)) t.state.locks.waiters w i).0) y
    ruled t h b v r x rule y = y

    asked_edit : (a : Phase) (t u : ServerTurn) → EditOf clients n now i a t u → Holds clients k s t.state → AreAsked t.state.locks → AreAsked u.state.locks
    unfolding sv.reply sv.tell sv.suspect_client sv.keep_and_reply sv.steal_from locks.forget locks.drop_waits locks.demand_seen locks.answered_row
        locks.demanded
    asked_edit a t u (Steals _ c x o e) g h =
        asked_part t.state.locks u.state.locks (λ r j. (has_filter (λ q. not (locks.is_row_by c q)) t.state.locks.rows r j).0)
        (λ w j. (has_filter (λ v. not (locks.is_wait_by c v)) t.state.locks.waiters w j).0) h
    asked_edit a t u (Replaces _ m x f e live life none) g h =
        asked_part t.state.locks u.state.locks (λ r j. j) (λ w j. (has_filter (λ v. not (locks.is_wait_by (sender m.header) v)) t.state.locks.waiters w j).0) h
    asked_edit a t u (PutsOff _ m x f e live life some) g h =
        asked_part t.state.locks u.state.locks (λ r j. j) (λ w j. (has_filter (λ v. not (locks.is_wait_by (sender m.header) v)) t.state.locks.waiters w j).0) h
    asked_edit a t u (Suspects _ c r is q f j e o) g h =
        asked_part t.state.locks u.state.locks (λ r j. j) (λ w j. (has_filter (λ v. not (locks.is_wait_by c v)) t.state.locks.waiters w j).0) h
    asked_edit a t u (Sees _ m ino x f b e) g h =
        asked_map (locks.observe (sender m.header) ino x) t.state.locks u.state.locks refl refl
        (λ r. cond_either (λ (y : LockRow). (y.client ≡ r.client) × (y.life ≡ r.life)) _ (locks.answered_row r) r (λ e. (refl, refl)) (λ e. (refl, refl))) h
    asked_edit a t u (Reasserts _ m rows r graced f) g h = absurd (off (sym (ap (λ x. grace.is_on x now) g.calm) ∙ graced))
      where
        off : ◌≡◌ {A = Bool} false true → ⊥
        off e = cc
    asked_edit a t u (Serves _ m v b x e r) g h =
        let came = x.asked.heard.came in
        ruled t m.header m.body v b (λ ne. hears m came.is (came.there ∙ ap (λ (z : Words.ServerId). server_node z) came.begun.id) came.from ne) r h
    asked_edit a t u (Grants _ w off j e f) g h = asked_grant t.state.locks w.client w.life w.ino w.mode (h.waits w j) h
    asked_edit a t u (Demands _ w r x e j q f d) g h =
        asked_map (locks.demand_of r.client r.ino x) t.state.locks u.state.locks refl refl
        (λ q. cond_either (λ (y : LockRow). (y.client ≡ q.client) × (y.life ≡ q.life)) _ (locks.demanded x q) q (λ e. (refl, refl)) (λ e. (refl, refl))) h
    asked_edit a t u edit g h = h

    -- So it is after a step.
    pub step_asked : Holds clients k s n → AreAsked n.locks → AreAsked (step_of clients n now i).state.locks
    step_asked g h =
        (walk_of clients n now i HeldAndAsked
        (λ a t u edit x. record { holds = holds_edit clients k s n now i a t u edit x.holds; asked = asked_edit a t u edit x.holds x.asked })
        (record { holds = g; asked = h })).asked
