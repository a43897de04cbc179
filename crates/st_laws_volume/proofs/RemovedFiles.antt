-- A server's step: a file stays, unless the step removes it for a client that has an exclusive row of it; and what it tells of extents anew is of a file.
use Rattle.st_lemmas.proofs.Words
use Words.{◌≡◌, ◌≢◌, ◌⊎◌, ℕ, ◌==◌, true, List, Option, Some, None, refl, sym, ap, ◌∙◌, subst, inl, inr, eqb-true}
use Words.{Body, ExtentRow, GrantNo, Header, LockRow, Message, Mode, ServerInput, Stamp, Verdict}
use Words.bodies
use Words.modes
use Words.outputs
use Words.serving
use Words.verdicts
use Words.Extents.{Extents}
use Words.Keys.{page_no, server_node}
use Words.Lists.{Has}
use Words.Locks as locks
use Words.Names as names
use Words.Names.{Names}
use Words.Server as sv
use Words.Server.{ServerState, ServerTurn, Stable, sender, server_step, turn}
use Words.Sessions.{is_live_state}
use Words.Tables.{and_true, same_or_not}
use Words.Truth.{clash, exclusive_covers}
use Rattle.st_base.specs.Mode.{covers}
use Rattle.st_trace.specs.Server.Changing.{StableChange, Stays, Changes}
use Rattle.st_trace.specs.Server.Edits as edits
use Rattle.st_trace.specs.Server.Edits.{Begun, Ruled, Served}
use Rattle.st_trace.proofs.Server.StableParts.{step_stable}
use Rattle.st_trace.proofs.Server.Walk.{walk_in_two}
use Rattle.st_laws_reads.specs.Copies.Copies.{file_at}
use Rattle.st_laws_extents.specs.CutRequests.Cut.{AsksCut, CutBy}
use Rattle.st_laws_extents.specs.ExtentReplies.Steps.{KeptRows}
use Rattle.st_laws_extents.proofs.ExtentReplies.Walk as walk
use Rattle.st_laws_extents.proofs.ExtentReplies.Walk.{Stands, came_by, demands, grants, steals, suspects, takes}
use Rattle.st_laws_volume.specs.TreeNames.{IsSound}
use Rattle.st_laws_volume.proofs.MappedFiles.{create_stays, files_stay, mkdir_stays, others_stay, rename_stays}
use Rattle.st_laws_volume.proofs.TreeSound.{stay_sound}

-- a file is removed for a message: its client's next request, to remove a file under the grant of the exclusive row that the client has of it
pub record IsRemoved (n : ServerState) (i : ServerInput) (ino : ℕ) : Type 0 where
  pub message : Message
  pub is : i ≡ serving.Control message
  pub by : CutBy n message (file_at n.id ino) (page_no 0)

-- The rule of a request for which a file goes.
record Removes (t : ServerTurn) (h : Header) (b : Body) (ino : ℕ) : Type 0 where
  row : LockRow
  found : locks.row_of t.state.locks (sender h) ino ≡ Some row
  exclusive : row.mode ≡ modes.X
  asks : AsksCut b ino (page_no 0) row.g

held_row : (t : ServerTurn) (h : Header) (ino : ℕ) (g : GrantNo) → sv.holds t h ino g modes.X ≡ true →
    (r : LockRow) × (locks.row_of t.state.locks (sender h) ino ≡ Some r) × (g.0 ≡ r.g.0) × (r.mode ≡ modes.X)
held_row t h ino g e = go (locks.row_of t.state.locks (sender h) ino) refl e
  where
    go : (o : Option LockRow) → locks.row_of t.state.locks (sender h) ino ≡ o → sv.is_held g modes.X o ≡ true →
        (r : LockRow) × (locks.row_of t.state.locks (sender h) ino ≡ Some r) × (g.0 ≡ r.g.0) × (r.mode ≡ modes.X)
    go None q e = clash e refl
    go (Some r) q e =
        let y = and_true (r.g.0 == g.0) (covers r.mode modes.X) e in
        (r, q, sym (eqb-true r.g.0 g.0 y.0), exclusive_covers r.mode y.1)

module _ (now : Stamp) (t : ServerTurn) (sound : IsSound t.state.stable.names) (ino : ℕ) (file : names.is_file t.state.stable.names ino ≡ true) where
  abbrev Goes : Header → Body → Names → Type 0
  Goes h b m = (names.is_file m ino ≡ true) ⊎ Removes t h b ino

  ruled_goes : (h : Header) (b : Body) (u : ServerTurn) (r : Body) → Ruled now t h b u r → Goes h b u.state.stable.names
  unfolding sv.cut_whole sv.cut_pages
  ruled_goes h b _ r (edits.Tells _ _ x) = inl file
  ruled_goes h b _ r (edits.Acquires j mode a f k g) = inl file
  ruled_goes h b _ r (edits.Releases j g to x e f) = inl file
  ruled_goes h b _ r (edits.Allocates j g p count x f q e) = inl file
  ruled_goes h b _ r (edits.Cuts j g p f q) = inl file
  ruled_goes h b _ r (edits.Creates dir x d e) =
      inl (files_stay t.state.stable.names d.names (create_stays t.state.stable.names dir x d e)
      (stay_sound.create dir x t.state.stable.names d sound e) ino file)
  ruled_goes h b _ r (edits.MakesDir dir x d e) =
      inl (files_stay t.state.stable.names d.names (mkdir_stays t.state.stable.names dir x d e)
      (stay_sound.mkdir dir x t.state.stable.names d sound e) ino file)
  ruled_goes h b _ r (edits.Renames dir x dir2 x2 d e) =
      inl (files_stay t.state.stable.names d.names (rename_stays t.state.stable.names dir x dir2 x2 d e)
      (stay_sound.rename dir x dir2 x2 t.state.stable.names d sound e) ino file)
  ruled_goes h b _ r (edits.RemovesDir dir x g j d k f z e q) =
      inl (others_stay t.state.stable.names sound dir x d e ino (λ i. clash file (ap (names.is_file t.state.stable.names) (i ∙ q) ∙ f)) file)
  ruled_goes h b _ r (edits.RemovesFile dir x g j d k f z e q) = go (same_or_not ino d.ino)
    where
      go : (ino ≡ d.ino) ⊎ (ino ≢ d.ino) →
          (names.is_file d.names ino ≡ true) ⊎ Removes t h (bodies.Name (Words.ops.Remove dir x g)) ino
      go (inr n) = inl (others_stay t.state.stable.names sound dir x d e ino n file)
      go (inl i) =
          let y = held_row t h ino g (subst (λ l. sv.holds t h l g modes.X ≡ true) (sym (i ∙ q)) z) in
          inr (record { row = y.0; found = y.1; exclusive = y.3; asks = (refl, y.2) })

-- A whole step.
module _ (n : ServerState) (now : Stamp) (i : ServerInput) (sound : IsSound n.stable.names) (ino : ℕ) (file : names.is_file n.stable.names ino ≡ true) where
  served_goes : (m : Message) (t u : ServerTurn) (b : Body) → Served n now i t m → Ruled now t m.header m.body u b →
      (names.is_file u.state.stable.names ino ≡ true) ⊎ IsRemoved n i ino
  served_goes m t u b s r =
      go (ruled_goes now t (subst (λ (y : Stable). IsSound y.names) (sym begun.stable) sound) ino
      (ap (λ (y : Stable). names.is_file y.names ino) begun.stable ∙ file) m.header m.body u b r)
    where
      begun : Begun n t
      begun = s.asked.heard.came.begun

      go : (names.is_file u.state.stable.names ino ≡ true) ⊎ Removes t m.header m.body ino → (names.is_file u.state.stable.names ino ≡ true) ⊎ IsRemoved n i ino
      go (inl f) = inl f
      go (inr y) =
          let c = s.asked.heard.came in
          let z = s.in_life in
          inr (record {
            message = m;
            is = c.is;
            by =
                record {
                  server = refl;
                  client = c.from;
                  to = c.there ∙ ap server_node begun.id;
                  of_epoch = s.asked.epoch ∙ ap (λ (x : Stable). x.epoch.0) begun.stable;
                  session = z.session;
                  is = begun.sessions (sender m.header) z.session z.is (ap is_live_state z.state);
                  of_life = z.of_life;
                  last = z.last;
                  reply = z.old;
                  state = z.state;
                  next = s.next;
                  row = y.row;
                  found = begun.rows (sender m.header) ino y.row y.found;
                  exclusive = y.exclusive;
                  asks = y.asks;
                };
          })

  pub file_goes : (names.is_file (server_step n now i).state.stable.names ino ≡ true) ⊎ IsRemoved n i ino
  file_goes = go (server_step n now i).state.stable (step_stable n now i)
    where
      go : (y : Stable) → StableChange n now i y → (names.is_file y.names ino ≡ true) ⊎ IsRemoved n i ino
      go _ Stays = inl file
      go _ (Changes m t u b s r) = served_goes m t u b s r

-- A reply that tells extents answers a request of a file that the server has.
ino_of : (i j : ℕ) (x y : List ExtentRow) → bodies.Extents i x ≡ bodies.Extents j y → i ≡ j
ino_of i j x y e = cc

answered_file : (t : ServerTurn) (h : Header) (b r : Body) → edits.Told t h b r → (ino : ℕ) (rows : List ExtentRow) → r ≡ bodies.Extents ino rows →
    names.is_file t.state.stable.names ino ≡ true
answered_file t h _ _ edits.IsAlive ino rows q = cc q
answered_file t h _ _ (edits.IsHeld j mode x f e p) ino rows q = cc q
answered_file t h _ _ (edits.HasTooMany j mode f e p) ino rows q = cc q
answered_file t h _ _ (edits.HasNoRow j g to e) ino rows q = cc q
answered_file t h _ _ (edits.IsMapped j g p f e) ino rows q = subst (λ l. names.is_file t.state.stable.names l ≡ true) (ino_of j ino _ rows q) f
answered_file t h _ _ (edits.IsNoFile _ j e f) ino rows q = cc q
answered_file t h _ _ (edits.HoldsNot _ j g mode e f p) ino rows q = cc q
answered_file t h _ _ (edits.HasNoSpace j g p k x y f z e) ino rows q = cc q
answered_file t h _ _ (edits.IsNamed dir x j e) ino rows q = cc q
answered_file t h _ _ (edits.AreListed dir x y e) ino rows q = cc q
answered_file t h _ _ (edits.IsRefused op x e) ino rows q = cc q
answered_file t h _ _ (edits.RemovesNot dir x g j e f p) ino rows q = cc q

verdict_tells_none : (ino : ℕ) (mode : Mode) (v : Verdict) (j : ℕ) (rows : List ExtentRow) → sv.verdict_body ino mode v ≡ bodies.Extents j rows → ⊥
verdict_tells_none ino mode (verdicts.Granted g held) j rows e = cc e
verdict_tells_none ino mode (verdicts.Queued clients) j rows e = cc e

replied_file : (now : Stamp) (t : ServerTurn) (h : Header) (b : Body) (u : ServerTurn) (r : Body) → Ruled now t h b u r → (ino : ℕ) (rows : List ExtentRow) →
    r ≡ bodies.Extents ino rows → names.is_file t.state.stable.names ino ≡ true
replied_file now t h b _ r (edits.Tells _ _ x) ino rows q = answered_file t h b r x ino rows q
replied_file now t h _ _ _ (edits.Acquires j mode a f k g) ino rows q = absurd (verdict_tells_none j mode a.verdict ino rows q)
replied_file now t h _ _ _ (edits.Releases j g to x e f) ino rows q = cc q
replied_file now t h _ _ _ (edits.Allocates j g p count x f y e) ino rows q =
    subst (λ l. names.is_file t.state.stable.names l ≡ true) (ino_of j ino _ rows q) f
replied_file now t h _ _ _ (edits.Cuts j g p f y) ino rows q = cc q
replied_file now t h _ _ _ (edits.Creates dir x d e) ino rows q = cc q
replied_file now t h _ _ _ (edits.MakesDir dir x d e) ino rows q = cc q
replied_file now t h _ _ _ (edits.Renames dir x dir2 x2 d e) ino rows q = cc q
replied_file now t h _ _ _ (edits.RemovesDir dir x g j d k f z e y) ino rows q = cc q
replied_file now t h _ _ _ (edits.RemovesFile dir x g j d k f z e y) ino rows q = cc q

-- a reply of extents was kept before the step, or is of a file that the server has
abbrev pub KeptOrFile : ServerState → ℕ → ℕ → ℕ → ℕ → List ExtentRow → Type 0
KeptOrFile n to life number ino rows = KeptRows n.sessions (record { 0 = to }) life number ino rows ⊎ (names.is_file n.stable.names ino ≡ true)

pub record RepliesOfFiles (n : ServerState) (u : ServerTurn) : Type 0 where
  pub kept : (c : Words.ClientId) (life number ino : ℕ) (rows : List ExtentRow) → KeptRows u.state.sessions c life number ino rows →
      KeptOrFile n c.0 life number ino rows
  pub sent : (m : Message) (ino : ℕ) (rows : List ExtentRow) → Has (outputs.Send m) u.out → m.body ≡ bodies.Extents ino rows →
      KeptOrFile n m.header.to m.header.life m.header.number ino rows

module _ (n : ServerState) (now : Stamp) (i : ServerInput) where
  abbrev Before : walk.Fact
  Before to life number ino rows = KeptRows n.sessions (record { 0 = to }) life number ino rows

  abbrev Came : ServerTurn → Type 0
  Came u = walk.Came Before n.stable.extents n now i u

  came : Came (server_step n now i)
  came =
      walk_in_two n now i (Stands Before n.stable.extents) Came (steals Before n.stable.extents n now i) (λ t o. inl o) (takes Before n.stable.extents n now i)
      (λ t u e. came_by Before n.stable.extents n now i t u (λ g y. suspects g y n now i t u e))
      (λ t u e. came_by Before n.stable.extents n now i t u (λ g y. grants g y n now i t u e))
      (λ t u e. came_by Before n.stable.extents n now i t u (λ g y. demands g y n now i t u e))
      (record { extents = refl; kept = λ c life number ino rows k. k; sent = λ y ino rows j e. absurd j })

  told : (u : ServerTurn) → Came u → RepliesOfFiles n u
  told u (inl z) =
      record { kept = λ c life number ino rows k. inl (z.kept c life number ino rows k); sent = λ m ino rows h e. inl (z.sent m ino rows h e) }
  told u (inr a) =
      record {
        kept = λ c life number ino rows k. one c.0 life number ino rows (a.stands.kept c life number ino rows k);
        sent = λ m ino rows h e. one m.header.to m.header.life m.header.number ino rows (a.stands.sent m ino rows h e);
      }
    where
      begun : Begun n a.turn
      begun = a.sent.asked.heard.came.begun

      one : (to life number ino : ℕ) (rows : List ExtentRow) → walk.Right Before a.message a.reply to life number ino rows →
          KeptOrFile n to life number ino rows
      one to life number ino rows (inl k) = inl k
      one to life number ino rows (inr k) =
          inr (sym (ap (λ (y : Stable). names.is_file y.names ino) begun.stable)
          ∙ replied_file now a.turn a.message.header a.message.body a.after a.reply a.rule ino rows k.3)

  pub replies_of_files : RepliesOfFiles n (server_step n now i)
  replies_of_files = told (server_step n now i) came
