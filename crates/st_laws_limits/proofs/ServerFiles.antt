-- In a step of a server no client gets more files than may be, if a reassertion in grace is of few locks, and of no later life than that of a living session.
use Rattle.st_lemmas.proofs.Words
use Words.{◌≡◌, ◌≢◌, ◌≤◌, ◌+◌, ◌⊎◌, ℕ, ◌==◌, ◌&&◌, ◌||◌, Bool, true, false, not, List, [], ◌∷◌, length, Option, Some, None, refl, sym, ap, ◌∙◌, subst, inl, inr, eq-eqb, lt-ltb, nat_lt}
use Words.{Body, ClientId, GrantNo, Header, LockRow, Message, Mode, RowDemand, ServerInput, Session, Stamp}
use Words.bodies
use Words.modes
use Words.Grace as grace
use Words.Locks as locks
use Words.Locks.{Locks}
use Words.Server as sv
use Words.Server.{ServerState, ServerTurn, Stable, life_in, sender, thefts, turn}
use Words.Sessions as sessions
use Words.Sessions.{is_live, session_of}
use Words.Tables.{cond_either, same_or_not}
use Rattle.st_rules.specs.declared.input.ServerInput.TheVariants as inputs
use Rattle.st_rules.specs.Authority as authority
use Rattle.st_third.specs.Server as every
use Rattle.st_third.specs.Limits.{is_client_node}
use Rattle.st_trace.specs.Server.Edits as edits
use Rattle.st_trace.specs.Server.Edits.{EditOf, Gets, Phase, ReassertedOf, Ruled}
use Rattle.st_trace.proofs.Server.Walk.{walk_of}
use Rattle.st_laws_leaving.specs.Serving.{HasSession, IsServing}
use Rattle.st_laws_leaving.proofs.Betweens.{ne_below}
use Rattle.st_laws_leaving.proofs.ServedClients.{end_other, same_step}
use Rattle.st_laws_limits.proofs.Files.{ByRow, ByWait, FilesFew, HasFile, few_fewer, fewer_rows, fewer_waits, forgotten_file, granted_few, has_place, mapped_file, queued_few, rows_few}

-- Whoever has a file has a session that lives; so it is after thefts.

abbrev Lives : ServerTurn → Type 0
Lives t = (c : ClientId) (i : ℕ) → HasFile t.state.locks c i → HasSession t.state.sessions c

serving_lives : (n : ServerState) → IsServing n → Lives (turn n [])
serving_lives n s c i (ByRow r h e q) = subst (λ m. HasSession n.sessions (record { 0 = m })) e (s.rows r h)
serving_lives n s c i (ByWait w h e q) = subst (λ m. HasSession n.sessions (record { 0 = m })) e (s.waits w h)

stolen_lives : (t : ServerTurn) (c : ClientId) (x : Session) → Lives t → Lives (sv.steal_from t c x)
unfolding sv.steal_from
stolen_lives t c x f d i h =
    let z = forgotten_file t.state.locks c d i h in
    let y = f d i z.0 in
    record { session = y.session; is = end_other t.state.sessions c d (λ e. z.1 e) ∙ y.is; live = y.live }

thefts_live : (cs : List ClientId) (t : ServerTurn) → Lives t → Lives (sv.steal_each cs t)
unfolding sv.steal_each sv.steal sv.steal_at
thefts_live [] t f = f
thefts_live (c ∷ cs) t f = thefts_live cs _ (go (session_of t.state.sessions c))
  where
    go : (o : Option Session) → Lives (sv.steal_at t c o)
    go None = f
    go (Some x) = stolen_lives t c x f

-- What a reassertion in grace owes.
pub record IsTimely (clients : ℕ → Bool) (m : ℕ) (n : ServerState) (now : Stamp) (i : ServerInput) : Type 0 where
  pub few : (x : Message) (rows : List (ℕ × GrantNo × Mode)) → i ≡ inputs.Control x → x.body ≡ bodies.Reassert rows → clients x.header.from ≡ true → length rows ≤ m
  pub lives : (x : Message) (rows : List (ℕ × GrantNo × Mode)) → i ≡ inputs.Control x → x.body ≡ bodies.Reassert rows →
      clients x.header.from ≡ true → x.header.epoch ≡ n.stable.epoch.0 → grace.is_on n.grace now ≡ true →
      (y : Session) → session_of n.sessions (sender x.header) ≡ Some y → is_live y ≡ true → x.header.life ≤ y.life.0

module _ (m : ℕ) (clients : ℕ → Bool) (n : ServerState) (now : Stamp) (i : ServerInput) (serving : IsServing n) (timely : IsTimely clients m n now i) where
  begun_lives : Lives (thefts (turn n []) now)
  unfolding sv.thefts
  begun_lives = thefts_live (authority.over n.authority now) _ (serving_lives n serving)

  -- who reasserts has no file yet
  module _ (t : ServerTurn) (x : Message) (rows : List (ℕ × GrantNo × Mode)) (r : ReassertedOf clients n now i t x rows)
      (on : grace.is_on t.state.grace now ≡ true) where
    known : (y : Session) → session_of t.state.sessions (sender x.header) ≡ Some y → is_live y ≡ true → sessions.knows_life (life_in x.header) y ≡ false → ⊥
    known y e l k = go (same_or_not x.header.life y.life.0)
      where
        begun : edits.Begun n t
        begun = r.asked.heard.came.begun

        low : x.header.life ≤ y.life.0
        low =
            timely.lives x rows r.asked.heard.came.is r.asks r.asked.heard.came.from
            (r.asked.epoch ∙ ap (λ (s : Stable). s.epoch.0) begun.stable)
            (sym (ap (λ g. grace.is_on g now) begun.grace) ∙ on) y (begun.sessions (sender x.header) y e l) l

        none : (a b c : Bool) → (a || (b && c)) ≡ false → ((a ≡ true) ⊎ ((b ≡ true) × (c ≡ true))) → ⊥
        none true b c q h = cc q
        none false true true q h = cc q
        none false true false q (inl h) = cc h
        none false true false q (inr h) = let z = h.1 in cc z
        none false false c q (inl h) = cc h
        none false false c q (inr h) = let z = h.0 in cc z

        go : (x.header.life ≡ y.life.0) ⊎ (x.header.life ≢ y.life.0) → ⊥
        go (inl q) = none (nat_lt x.header.life y.life.0) (is_live y) (x.header.life == y.life.0) k (inr (l, eq-eqb x.header.life y.life.0 q))
        go (inr ne) =
            none (nat_lt x.header.life y.life.0) (is_live y) (x.header.life == y.life.0) k
            (inl (lt-ltb x.header.life y.life.0 (ne_below x.header.life y.life.0 ne low)))

    no_file : (ino : ℕ) → HasFile t.state.locks (sender x.header) ino → ⊥
    no_file ino h =
        let z = subst Lives (sym r.asked.heard.came.first) begun_lives (sender x.header) ino h in
        known z.session z.is z.live (ap (λ o. sessions.knows_at o (life_in x.header)) (sym z.is) ∙ r.new)

  abbrev Few : ServerTurn → Type 0
  Few t = FilesFew m t.state.locks

  lowered_same : (c : ClientId) (ino : ℕ) (r : LockRow) → ((locks.lower c ino r).client ≡ r.client) × ((locks.lower c ino r).ino ≡ r.ino)
  unfolding locks.lowered
  lowered_same c ino r =
      cond_either (λ (y : LockRow). (y.client ≡ r.client) × (y.ino ≡ r.ino)) (locks.is_row_of c ino r) (locks.lowered r) r (λ e. (refl, refl)) (λ e. (refl, refl))

  released_few : (l : Locks) (c : ClientId) (ino : ℕ) (to : Mode) → FilesFew m l → FilesFew m (locks.release_to l c ino to)
  unfolding locks.release_to
  released_few l c ino modes.None h = few_fewer m l _ refl (λ d j. fewer_rows l (λ r. not (locks.is_row_of c ino r)) d j) h
  released_few l c ino modes.S h = few_fewer m l _ refl (λ d j. mapped_file l (locks.lower c ino) (lowered_same c ino) d j) h
  released_few l c ino modes.X h = few_fewer m l _ refl (λ d j. mapped_file l (locks.lower c ino) (lowered_same c ino) d j) h

  ruled_few : (t : ServerTurn) (h : Header) (b : Body) (u : ServerTurn) (r : Body) → Ruled now t h b u r → Few t → Few u
  unfolding sv.cut_pages sv.cut_whole locks.drop_file_waits
  ruled_few t h _ _ _ (edits.Acquires ino mode a file lacks gets) f = go gets
    where
      place : (HasFile t.state.locks (sender h) ino) ⊎ (length (locks.files_of t.state.locks (sender h)) + 1 ≤ m)
      place = has_place m t.state.locks (sender h) ino lacks.place f

      go : {a : locks.Acquired} → Gets (sv.grants_now t now) t.state.locks (sender h) (life_in h) ino mode a → FilesFew m a.locks
      go (edits.AtOnce on free first) = granted_few m t.state.locks (sender h) (life_in h) ino mode place f
      go (edits.InTurn held) = queued_few m t.state.locks (sender h) (life_in h) ino mode place f
  ruled_few t h _ _ _ (edits.Releases ino g to q is under) f = released_few t.state.locks (sender h) ino to f
  ruled_few t h _ _ _ (edits.RemovesFile dir nm g ino d look is_file holds remove e) f =
      few_fewer m t.state.locks _ refl (λ c j. fewer_waits t.state.locks (λ w. not (locks.is_wait_on d.ino w)) c j) f
  ruled_few t h _ _ _ (edits.Cuts ino g p q k) f = f
  ruled_few t h _ _ _ (edits.Tells b r x) f = f
  ruled_few t h _ _ _ (edits.Allocates ino g p count x q k e) f = f
  ruled_few t h _ _ _ (edits.Creates dir x d e) f = f
  ruled_few t h _ _ _ (edits.MakesDir dir x d e) f = f
  ruled_few t h _ _ _ (edits.Renames dir x dir2 x2 d e) f = f
  ruled_few t h _ _ _ (edits.RemovesDir dir x g ino d l q z e k) f = f

  suspected_few : (t : ServerTurn) (c : ClientId) → Few t → Few (sv.suspect_client t now c)
  unfolding sv.suspect_client locks.drop_waits
  suspected_few t c f = few_fewer m t.state.locks _ refl (λ d j. fewer_waits t.state.locks (λ w. not (locks.is_wait_by c w)) d j) f

  observed_same : (c : ClientId) (ino : ℕ) (g : GrantNo) (r : LockRow) → ((locks.observe c ino g r).client ≡ r.client) × ((locks.observe c ino g r).ino ≡ r.ino)
  unfolding locks.answered_row
  observed_same c ino g r =
      cond_either (λ (y : LockRow). (y.client ≡ r.client) × (y.ino ≡ r.ino)) _ (locks.answered_row r) r (λ e. (refl, refl)) (λ e. (refl, refl))

  demanded_same : (c : ClientId) (ino : ℕ) (d : RowDemand) (r : LockRow) →
      ((locks.demand_of c ino d r).client ≡ r.client) × ((locks.demand_of c ino d r).ino ≡ r.ino)
  unfolding locks.demanded
  demanded_same c ino d r =
      cond_either (λ (y : LockRow). (y.client ≡ r.client) × (y.ino ≡ r.ino)) _ (locks.demanded d r) r (λ e. (refl, refl)) (λ e. (refl, refl))

  edit_few : (a : Phase) (t u : ServerTurn) → EditOf clients n now i a t u → Few t → Few u
  unfolding sv.steal_from sv.keep_and_reply sv.reply sv.tell locks.forget locks.drop_waits locks.demand_seen
  edit_few _ t _ (edits.TakesTimers _ e) f = f
  edit_few _ t _ (edits.Steals _ c y h e) f = few_fewer m t.state.locks _ refl (λ d j z. (forgotten_file t.state.locks c d j z).0) f
  edit_few _ t _ (edits.Welcomes _ x y g e l q) f = f
  edit_few _ t _ (edits.Begins _ x g q) f = f
  edit_few _ t _ (edits.Replaces _ x y g e l q o) f =
      few_fewer m t.state.locks _ refl (λ d j. fewer_waits t.state.locks (λ w. not (locks.is_wait_by (sender x.header) w)) d j) f
  edit_few _ t _ (edits.PutsOff _ x y g e l q o) f = suspected_few t (sender x.header) f
  edit_few _ t _ (edits.Sees _ x ino g h e q) f =
      few_fewer m t.state.locks _ refl (λ d j. mapped_file t.state.locks (locks.observe (sender x.header) ino g) (observed_same (sender x.header) ino g) d j) f
  edit_few _ t _ (edits.Reasserts _ x rows h g e) f =
      rows_few m t.state.locks (sender x.header) (life_in x.header) rows (no_file t x rows h g)
      (timely.few x rows h.asked.heard.came.is h.asks h.asked.heard.came.from) f
  edit_few _ t _ (edits.Serves _ x v b h e r) f = ruled_few t x.header x.body v b r f
  edit_few _ t _ (edits.Repeats _ x y b h e q l o) f = f
  edit_few _ t _ (edits.Refuses _ x b h) f = f
  edit_few _ t _ (edits.Suspects _ c r e q k h o l) f = suspected_few t c f
  edit_few _ t _ (edits.Grants _ w off h e q) f = granted_few m t.state.locks w.client w.life w.ino w.mode (inl (ByWait w h refl refl)) f
  edit_few _ t _ (edits.Demands _ w r x e h k g o) f =
      few_fewer m t.state.locks _ refl (λ d j. mapped_file t.state.locks (locks.demand_of r.client r.ino x) (demanded_same r.client r.ino x) d j) f

-- A step.
pub server_files : (m form : ℕ) (n : ServerState) (now : Stamp) (i : ServerInput) → IsServing n → IsTimely (is_client_node form) m n now i → FilesFew m n.locks →
    FilesFew m (every.server_step form n now i).state.locks
server_files m form n now i s t f =
    subst (λ (u : ServerTurn). FilesFew m u.state.locks) (sym (same_step form n now i))
    (walk_of (is_client_node form) n now i (λ u. FilesFew m u.state.locks) (edit_few m (is_client_node form) n now i s t) f)
