-- Line by line of an event that gives no fates: each entry that is gone stays met, until its page is owed or its client was told.
use Rattle.st_lemmas.proofs.Words
use Words.{◌≡◌, ℕ, zero, suc, ◌⊎◌, Bool, true, false, ◌&&◌, ◌||◌, ◌==◌, List, [], ◌∷◌, ◌++◌, Option, Some, None, refl, sym, ap, ◌∙◌, subst, inl, inr, if◌then◌else◌}
use Words.{eq-eqb, eqb-true, find, length, list_any, map, slice_get, ClientId, FileId, Life, PageNo, ServerId, Ask, LogEntry, LogOwner, LostPage, Observation}
use Words.answers
use Words.asks
use Words.changes
use Words.fates
use Words.seen
use Words.ClientPages.{is_lost_of}
use Words.Events as ev
use Words.Events.{changes_page, is_change}
use Words.FlatLog as log
use Words.History.{association_of}
use Words.Keys.{same_client, same_server}
use Words.Lines as lines
use Words.Lists.{Has}
use Words.Lookups.{or_left, or_right, some_is}
use Words.Numbers.{get_more}
use Words.Safety.{Step, ask_of}
use Words.Tables.{and_both, and_true, found_at, some_passes}
use Words.Truth.{client_is, clash}
use Words.World as world
use Words.World.{World}
use Rattle.st_base.specs.declared.rows.LostRow.{LostRow}
use Rattle.st_promises.specs.Losses.{IsLossTold, IsToldBy, IsToldTo, owed, owed_along, owed_at, owed_behind, owed_of_file, owes, still_owed, told_by, with_dirty}
use Rattle.st_rules.specs.declared.log.Change.{Change}
use Rattle.st_laws_pages.proofs.Asks.World.{asks_of}
use Rattle.st_laws_volume.specs.Logs.{IsSame, ask_of as ask_at, fate_of}
use Rattle.st_laws_volume.specs.LossMarks.{AreMet, IsLate, IsMet, is_owed}
use Rattle.st_laws_volume.specs.Options.{OnSome}
use Rattle.st_laws_volume.specs.Seen.{of_line}
use Rattle.st_laws_volume.specs.Witness.{before_line}
use Rattle.st_laws_volume.proofs.AskedAsks.{AreOf, Asked, IsOf, all_has}
use Rattle.st_laws_volume.proofs.FailureEntries.{kept_at}
use Rattle.st_laws_volume.proofs.FateKeeps.{AllKeep, Keeps, LogKept, run_keeps}
use Rattle.st_laws_volume.proofs.FateSeen.{tells_none}
use Rattle.st_laws_volume.proofs.LogEntries.{AreFirst}
use Rattle.st_laws_volume.proofs.LogSteps.{IsTold}
use Rattle.st_laws_volume.proofs.LossRows.{dirty_joins, dirty_keeps, told_or_owed}
use Rattle.st_laws_volume.proofs.OpenAnswers.{block}
use Rattle.st_laws_volume.proofs.Options.{on_if, on_more, on_then}
use Rattle.st_volume.specs.declared.step.VolumeStep.{VolumeStep}
use Rattle.st_volume.specs.declared.step.VolumeStep.TheVariants as kinds
use Rattle.st_volume.specs.Pages.{Entry, is_at as is_place, is_by, is_by_at, is_dropped, same_file, same_place}
use Rattle.st_volume.specs.Volume as volume
use Rattle.st_volume.specs.Volume.{Pending, Volume, acts, after_answer, answered, answers_so, closed, is_ask, is_told, run, step, tell}

-- The lines of a client's losses.
abbrev pub is_loss_of : ClientId → ServerId → Observation → Bool
is_loss_of c s (seen.Lost d t life) = same_client d c && same_server t s
is_loss_of c s o = false

-- An entry of the volume at a place of the world's log.
pub first_at : (os : List LogEntry) (es : List Entry) → AreFirst os es → (n : ℕ) (o : LogEntry) → slice_get os n ≡ Some o →
    (e : Entry) × (slice_get es n ≡ Some e) × IsSame o e
first_at [] es h n o q = cc q
first_at (x ∷ os) [] h n o q = absurd h
first_at (x ∷ os) (y ∷ es) h zero o q = (y, refl, subst (λ z. IsSame z y) (some_is q) h.0)
first_at (x ∷ os) (y ∷ es) h (suc n) o q = first_at os es h.1 n o q

-- what an entry that is met is after steps that keep it
met_kept : (rows : ClientId → ServerId → List LostPage) (late : LogOwner → Type 0) (o : LogOwner) (e f : Entry) → Keeps ⊥ e f → IsMet rows late o e →
    IsMet rows late o f
met_kept rows late o e f k (inl h) = inl (k.crashed h)
met_kept rows late o e f k (inr (inl h)) = inr (inl (k.told h))
met_kept rows late o e f k (inr (inr h)) = inr (inr h)

-- steps keep what is met, if the world's log only gains entries that aren't gone
pub met_by_steps : (rows : ClientId → ServerId → List LostPage) (late : LogOwner → Type 0) (os ps : List LogEntry) (u : Volume) (its : List VolumeStep) →
    AreFirst os u.log →
    ((n : ℕ) (p : LogEntry) → slice_get ps n ≡ Some p → log.counts p.fate ≡ false → slice_get os n ≡ Some p) → AreMet rows late os u →
    OnSome (AreMet rows late ps) (run its u)
met_by_steps rows late os ps u its first back h =
    on_more (LogKept ⊥ u) (AreMet rows late ps)
    (λ z k n p f at there c g. go z k n p f at there c g (back n p at g))
    (run its u) (run_keeps ⊥ its u (λ x. absurd x))
  where
    go : (z : Volume) → AllKeep ⊥ u.log z.log → (n : ℕ) (p : LogEntry) (f : Entry) → slice_get ps n ≡ Some p → slice_get z.log n ≡ Some f →
        is_change p ≡ true → log.counts p.fate ≡ false → slice_get os n ≡ Some p → IsMet rows late p.of f
    go z k n p f at there c g was =
        let e = first_at os u.log first n p was in
        let m = kept_at ⊥ u.log z.log k n e.0 e.1 in
        subst (IsMet rows late p.of) (some_is (sym m.1 ∙ there)) (met_kept rows late p.of e.0 m.0 m.2 (h n p e.0 was e.1 c g))

-- A log that only gains an entry that counts.
gained : (os : List LogEntry) (x : LogEntry) → log.counts x.fate ≡ true → (n : ℕ) (p : LogEntry) → slice_get (os ++ x ∷ []) n ≡ Some p →
    log.counts p.fate ≡ false →
    slice_get os n ≡ Some p
gained os x c n p q g = go (get_more os x n p q)
  where
    go : (slice_get os n ≡ Some p) ⊎ ((n ≡ length os) × (p ≡ x)) → slice_get os n ≡ Some p
    go (inl h) = h
    go (inr h) = absurd (clash (ap (λ (z : LogEntry). log.counts z.fate) h.1 ∙ c) g)

-- What is owed, by the lines before.
module _ (past : List Step) (x : Step) where
  abbrev w : World
  w = x.before.world

  abbrev as_ : Asked
  as_ = asks_of (past ++ x ∷ [])

  abbrev pub RowsAt : List Observation → ClientId → ServerId → List LostPage
  RowsAt done c s = owed_at past x done c s

  -- what had to be lost before the event, and is not yet told to be lost by a line
  abbrev pub LateAt : List Observation → LogOwner → Type 0
  LateAt done o = IsLate w o × (list_any (is_loss_of o.client o.file.server) done ≡ false)

  abbrev pub MetAt : List Observation → List LogEntry → Volume → Type 0
  MetAt done es u = AreMet (RowsAt done) (LateAt done) es u

  along_last : (c : ClientId) (s : ServerId) (os : List Observation) (o : Observation) (rows : List LostPage) →
      owed_along (ask_of past x c) w c s rows (os ++ o ∷ []) ≡ owed_behind (ask_of past x c) w c s (owed_along (ask_of past x c) w c s rows os) o
  unfolding owed_along
  along_last c s [] o rows = refl
  along_last c s (y ∷ os) o rows = along_last c s os o (owed_behind (ask_of past x c) w c s rows y)

  pub rows_last : (done : List Observation) (o : Observation) (c : ClientId) (s : ServerId) →
      RowsAt (done ++ o ∷ []) c s ≡ owed_behind (ask_of past x c) w c s (RowsAt done c s) o
  rows_last done o c s = along_last c s done o (owed past c s)

  any_end : (p : Observation → Bool) (os : List Observation) (o : Observation) → list_any p (os ++ o ∷ []) ≡ (list_any p os || p o)
  any_end p [] o = go (p o)
    where
      go : (b : Bool) → (b || false) ≡ b
      go true = refl
      go false = refl
  any_end p (y ∷ os) o = go (p y) (any_end p os o)
    where
      go : (b : Bool) → list_any p (os ++ o ∷ []) ≡ (list_any p os || p o) → (b || list_any p (os ++ o ∷ [])) ≡ ((b || list_any p os) || p o)
      go true e = refl
      go false e = e

  -- a line that isn't a loss and tells no lost pages leaves what is owed
  abbrev pub is_plain : Observation → Bool
  is_plain (seen.Lost c s life) = false
  is_plain (seen.Answered c op (answers.Lost rows)) = false
  is_plain o = true

  pub plain_rows : (o : Observation) → is_plain o ≡ true → (c : ClientId) (s : ServerId) (rows : List LostPage) → owed_behind (ask_of past x c) w c s rows o ≡ rows
  plain_rows (seen.Lost d t life) q c s rows = cc q
  plain_rows (seen.Answered d op (answers.Lost told)) q c s rows = cc q
  plain_rows (seen.Answered d op answer) q c s rows = refl
  plain_rows o q c s rows = refl

  no_loss : (o : Observation) → is_plain o ≡ true → (c : ClientId) (s : ServerId) → is_loss_of c s o ≡ false
  no_loss (seen.Lost d t life) q c s = cc q
  no_loss o q c s = refl

  -- what is met, with other rows
  met_more : (done : List Observation) (o : Observation) (k : LogOwner) (e : Entry) →
      (is_owed (RowsAt done) k ≡ true → (e.told ≡ true) ⊎ (is_owed (RowsAt (done ++ o ∷ [])) k ≡ true)) →
      (IsLate w k → list_any (is_loss_of k.client k.file.server) done ≡ false →
      (is_owed (RowsAt (done ++ o ∷ [])) k ≡ true) ⊎ (list_any (is_loss_of k.client k.file.server) (done ++ o ∷ []) ≡ false)) →
      IsMet (RowsAt done) (LateAt done) k e → IsMet (RowsAt (done ++ o ∷ [])) (LateAt (done ++ o ∷ [])) k e
  met_more done o k e rows late (inl h) = inl h
  met_more done o k e rows late (inr (inl h)) = inr (inl h)
  met_more done o k e rows late (inr (inr (inl h))) = go (rows h)
    where
      go : (e.told ≡ true) ⊎ (is_owed (RowsAt (done ++ o ∷ [])) k ≡ true) → IsMet (RowsAt (done ++ o ∷ [])) (LateAt (done ++ o ∷ [])) k e
      go (inl t) = inr (inl t)
      go (inr t) = inr (inr (inl t))
  met_more done o k e rows late (inr (inr (inr h))) = go (late h.0 h.1)
    where
      go : (is_owed (RowsAt (done ++ o ∷ [])) k ≡ true) ⊎ (list_any (is_loss_of k.client k.file.server) (done ++ o ∷ []) ≡ false) →
          IsMet (RowsAt (done ++ o ∷ [])) (LateAt (done ++ o ∷ [])) k e
      go (inl t) = inr (inr (inl t))
      go (inr t) = inr (inr (inr (h.0, t)))

  owed_now : (done : List Observation) (o : Observation) (k : LogOwner) →
      list_any (is_lost_of k.file.ino k.page) (owed_behind (ask_of past x k.client) w k.client k.file.server (RowsAt done k.client k.file.server) o) ≡ true →
      is_owed (RowsAt (done ++ o ∷ [])) k ≡ true
  owed_now done o k q = ap (list_any (is_lost_of k.file.ino k.page)) (rows_last done o k.client k.file.server) ∙ q

  none_after : (done : List Observation) (o : Observation) (k : LogOwner) → is_loss_of k.client k.file.server o ≡ false →
      list_any (is_loss_of k.client k.file.server) done ≡ false → list_any (is_loss_of k.client k.file.server) (done ++ o ∷ []) ≡ false
  none_after done o k q n =
      any_end (is_loss_of k.client k.file.server) done o
      ∙ (ap (λ b. b || is_loss_of k.client k.file.server o) n ∙ q)

  plain_met : (done : List Observation) (o : Observation) → is_plain o ≡ true → (es : List LogEntry) (u : Volume) → MetAt done es u →
      MetAt (done ++ o ∷ []) es u
  plain_met done o q es u h n p e at there c g =
      met_more done o p.of e
      (λ r. inr
      (owed_now done o p.of
      (ap (list_any (is_lost_of p.of.file.ino p.of.page)) (plain_rows o q p.of.client p.of.file.server (RowsAt done p.of.client p.of.file.server)) ∙ r)))
      (λ l n. inr (none_after done o p.of (no_loss o q p.of.client p.of.file.server) n)) (h n p e at there c g)

  -- A loss: the dirty pages of that client and server are owed.
  loss_met : (done : List Observation) (d : ClientId) (t : ServerId) (life : Life) (es : List LogEntry) (u : Volume) → MetAt done es u →
      MetAt (done ++ seen.Lost d t life ∷ []) es u
  loss_met done d t life es u h n p e at there c g = met_more done (seen.Lost d t life) p.of e rows late (h n p e at there c g)
    where
      k : LogOwner
      k = p.of

      before : List LostPage
      before = RowsAt done k.client k.file.server

      if_rows : (b : Bool) → list_any (is_lost_of k.file.ino k.page) before ≡ true →
          list_any (is_lost_of k.file.ino k.page) (if b then with_dirty (association_of w k.client k.file.server) before else before) ≡ true
      if_rows true q = dirty_keeps k.file.ino k.page (association_of w k.client k.file.server) before q
      if_rows false q = q

      rows : is_owed (RowsAt done) k ≡ true → (e.told ≡ true) ⊎ (is_owed (RowsAt (done ++ seen.Lost d t life ∷ [])) k ≡ true)
      rows q = inr (owed_now done (seen.Lost d t life) k (if_rows (same_client d k.client && same_server t k.file.server) q))

      late : IsLate w k → list_any (is_loss_of k.client k.file.server) done ≡ false →
          (is_owed (RowsAt (done ++ seen.Lost d t life ∷ [])) k ≡ true) ⊎
          (list_any (is_loss_of k.client k.file.server) (done ++ seen.Lost d t life ∷ []) ≡ false)
      late l none = go (same_client d k.client && same_server t k.file.server) refl
        where
          its : association_of w k.client k.file.server ≡ Some l.a
          its = ap (Rattle.st_rules.specs.History.association_at k.file.server) l.there ∙ l.place

          go : (b : Bool) → (same_client d k.client && same_server t k.file.server) ≡ b →
              (is_owed (RowsAt (done ++ seen.Lost d t life ∷ [])) k ≡ true) ⊎
              (list_any (is_loss_of k.client k.file.server) (done ++ seen.Lost d t life ∷ []) ≡ false)
          go false q = inr (none_after done (seen.Lost d t life) k q none)
          go true q =
              inl (owed_now done (seen.Lost d t life) k
              (subst (λ b. list_any (is_lost_of k.file.ino k.page) (if b then with_dirty (association_of w k.client k.file.server) before else before) ≡ true)
              (sym q)
              (subst (λ a. list_any (is_lost_of k.file.ino k.page) (with_dirty a before) ≡ true) (sym its)
              (dirty_joins k.file.ino k.page l.a l.page before l.dirty))))

  -- An answer that tells of lost pages: each of these is told, and the others are owed.
  module _ (done : List Observation) (d : ClientId) (op : ℕ) (told : List LostRow) (es : List LogEntry) (u : Volume) (first : AreFirst es u.log)
      (r : AreOf as_ u)
      (right : IsToldTo (ask_of past x d op) (RowsAt done d) (answers.Lost told)) (h : MetAt done es u) where
    abbrev line : Observation
    line = seen.Answered d op (answers.Lost told)

    -- whose ask it is
    pub ask_is : (a : Pending) → find (is_ask d op) u.pending ≡ Some a → (a.client ≡ d) × (ask_of past x d op ≡ Some a.ask)
    ask_is a q =
        let b = found_at (is_ask d op) u.pending a q in
        let k = and_true (volume.is_of_client d a) (a.op == op) b.0 in
        let own : IsOf as_ a = all_has as_ u.pending a r.pending b.1 in
        let client = client_is a.client d k.0 in
        (client, sym (ap (λ c. world.numbered (as_ c) a.op) client ∙ ap (λ i. world.numbered (as_ d) i) (eqb-true a.op op k.1)) ∙ own)

    told_entry : (f : FileId) (p : LogEntry) (e : Entry) → IsSame p e → is_change p ≡ true → log.counts p.fate ≡ false → p.of.client ≡ d → f ≡ p.of.file →
        (y : LostRow) → Has y told → y.page ≡ p.of.page → is_told d f told e ≡ true
    told_entry f p e s c g client file y i page =
        some_passes (λ (z : LostRow). is_by_at d (f, z.page) e && (is_dropped e.fate || (e.failed == z.command))) told y i
        (and_both (is_by_at d (f, y.page) e) (is_dropped e.fate || (e.failed == y.command))
        (and_both (is_by d e) (is_place (f, y.page) e.what) (eq-eqb d.0 e.client.0 (ap (λ (z : ClientId). z.0) (sym client ∙ sym (s.client c))))
        (ap (is_place (f, y.page)) s.what ∙ place p.change c))
        (or_left (is_dropped e.fate) (e.failed == y.command) (ap is_dropped s.fate ∙ gone p.fate g)))
      where
        gone : (z : Rattle.st_rules.specs.declared.log.Fate.Fate) → log.counts z ≡ false → is_dropped (fate_of z) ≡ true
        gone (fates.Gone cause) q = refl
        gone fates.Pending q = cc q
        gone fates.Hard q = cc q

        same : same_place (f, y.page) (p.of.file, p.of.page) ≡ true
        same =
            and_both (same_file f p.of.file) (y.page.0 == p.of.page.0)
            (and_both (f.server.0 == p.of.file.server.0) (f.ino == p.of.file.ino) (eq-eqb f.server.0 p.of.file.server.0 (ap (λ (z : FileId). z.server.0) file))
            (eq-eqb f.ino p.of.file.ino (ap (λ (z : FileId). z.ino) file)))
            (eq-eqb y.page.0 p.of.page.0 (ap (λ (z : PageNo). z.0) page))

        place : (ch : Change) → changes_page ch ≡ true → is_place (f, y.page) (ask_at p.of.file p.of.page ch) ≡ true
        place (changes.Write bytes) q = same
        place (changes.Patch at bytes) q = same
        place changes.Cut q = cc q

    -- of the client's ask for a file
    module _ (a : Pending) (client : a.client ≡ d) (f : FileId) (sync : a.ask ≡ asks.Sync f) (asked : ask_of past x d op ≡ Some (asks.Sync f)) where
      told_is : told ≡ owed_of_file (RowsAt done d f.server) f.ino
      told_is = go (owes (RowsAt done d f.server) f.ino) (subst (λ o. IsToldTo o (RowsAt done d) (answers.Lost told)) asked right)
        where
          go : (b : Bool) → IsToldBy b (owed_of_file (RowsAt done d f.server) f.ino) (answers.Lost told) → told ≡ owed_of_file (RowsAt done d f.server) f.ino
          go true k = k
          go false k = absurd k

      one : (p : LogEntry) (e g : Entry) → IsSame p e → is_change p ≡ true → log.counts p.fate ≡ false →
          g ≡ tell (is_told a.client (volume.file_of a.ask) told) e → IsMet (RowsAt done) (LateAt done) p.of e →
          IsMet (RowsAt (done ++ line ∷ [])) (LateAt (done ++ line ∷ [])) p.of g
      one p e g s c gone q m =
          met_more done line p.of g rows (λ l n. inr (none_after done line p.of refl n))
          (go m)
        where
          k : LogOwner
          k = p.of

          before : List LostPage
          before = RowsAt done k.client k.file.server

          kept : (t : Bool) → e.told ≡ true → (e.told || t) ≡ true
          kept t z = or_left e.told t z

          go : IsMet (RowsAt done) (LateAt done) k e → IsMet (RowsAt done) (LateAt done) k g
          go (inl z) = inl (ap (λ (y : Entry). y.crashed) q ∙ z)
          go (inr (inl z)) = inr (inl (ap (λ (y : Entry). y.told) q ∙ kept (is_told a.client (volume.file_of a.ask) told e) z))
          go (inr (inr z)) = inr (inr z)

          told_now : is_told d f told e ≡ true → g.told ≡ true
          told_now t =
              ap (λ (y : Entry). y.told) q
              ∙ or_right e.told (is_told a.client (volume.file_of a.ask) told e)
              (ap (λ c. is_told c (volume.file_of a.ask) told e) client ∙ (ap (λ y. is_told d (volume.file_of y) told e) sync ∙ t))

          same_owed : list_any (is_lost_of k.file.ino k.page) before ≡ true → (b : Bool) → same_client d k.client ≡ b →
              (c2 : Bool) → same_server f.server k.file.server ≡ c2 → (g.told ≡ true) ⊎ (is_owed (RowsAt (done ++ line ∷ [])) k ≡ true)
          same_owed z false i c2 j =
              inr (owed_now done line k
              (ap (λ b. list_any (is_lost_of k.file.ino k.page) (if b then told_by (ask_of past x k.client op) k.file.server before else before)) i ∙ z))
          same_owed z true i false j =
              inr (owed_now done line k
              (ap (λ b. list_any (is_lost_of k.file.ino k.page) (if b then told_by (ask_of past x k.client op) k.file.server before else before)) i
              ∙ (ap (λ y. list_any (is_lost_of k.file.ino k.page) (told_by y k.file.server before)) asked_k
              ∙ (ap (λ b. list_any (is_lost_of k.file.ino k.page) (if b then still_owed before f.ino else before)) j ∙ z))))
            where
              asked_k : ask_of past x k.client op ≡ Some (asks.Sync f)
              asked_k = ap (λ (y : ClientId). ask_of past x y op) (sym (client_is d k.client i)) ∙ asked
          same_owed z true i true j = by (told_or_owed before k.file.ino k.page f.ino z)
            where
              d_is : d ≡ k.client
              d_is = client_is d k.client i

              server : f.server ≡ k.file.server
              server = ap (λ n. record { 0 = n }) (eqb-true f.server.0 k.file.server.0 j)

              by : (list_any (is_lost_of k.file.ino k.page) (still_owed before f.ino) ≡ true)
                  ⊎ ((k.file.ino ≡ f.ino) × ((y : LostRow) × Has y (owed_of_file before f.ino) × (y.page ≡ k.page))) →
                  (g.told ≡ true) ⊎ (is_owed (RowsAt (done ++ line ∷ [])) k ≡ true)
              by (inl y) =
                  inr (owed_now done line k
                  (ap (λ b. list_any (is_lost_of k.file.ino k.page) (if b then told_by (ask_of past x k.client op) k.file.server before else before)) i
                  ∙ (ap (λ y. list_any (is_lost_of k.file.ino k.page) (told_by y k.file.server before))
                  (ap (λ (y : ClientId). ask_of past x y op) (sym d_is) ∙ asked)
                  ∙ (ap (λ b. list_any (is_lost_of k.file.ino k.page) (if b then still_owed before f.ino else before)) j ∙ y))))
              by (inr (ino, (y, i2, page))) =
                  inl (told_now
                  (told_entry f p e s c gone (sym d_is)
                  (ap (λ z. record { server = z; ino = f.ino }) server ∙ ap (λ z. record { server = k.file.server; ino = z }) (sym ino)) y
                  (subst (Has y)
                  (sym (told_is ∙ ap (λ (z : ClientId). owed_of_file (RowsAt done z f.server) f.ino) d_is ∙
                  ap (λ z. owed_of_file (RowsAt done k.client z) f.ino) server)) i2)
                  page))

          rows : is_owed (RowsAt done) k ≡ true → (g.told ≡ true) ⊎ (is_owed (RowsAt (done ++ line ∷ [])) k ≡ true)
          rows z = same_owed z (same_client d k.client) refl (same_server f.server k.file.server) refl

      all : (z : Volume) → z.log ≡ map (tell (is_told a.client (volume.file_of a.ask) told)) u.log → MetAt (done ++ line ∷ []) es z
      all z q n p g at there c gone =
          let e = first_at es u.log first n p at in
          one p e.0 g e.2 c gone (some_is (sym there ∙ (ap (λ xs. slice_get xs n) q ∙ mapped u.log n e.0 e.1))) (h n p e.0 at e.1 c gone)
        where
          mapped : (xs : List Entry) (n : ℕ) (e : Entry) → slice_get xs n ≡ Some e →
              slice_get (map (tell (is_told a.client (volume.file_of a.ask) told)) xs) n ≡ Some (tell (is_told a.client (volume.file_of a.ask) told) e)
          mapped [] n e q = cc q
          mapped (y ∷ xs) zero e q = ap (λ o. Some (tell (is_told a.client (volume.file_of a.ask) told) o)) (some_is q)
          mapped (y ∷ xs) (suc n) e q = mapped xs n e q

    -- the ask was a sync
    by_ask : (a : Pending) → a.client ≡ d → (what : Ask) → a.ask ≡ what → ask_of past x d op ≡ Some what →
        MetAt (done ++ line ∷ []) es (closed a (after_answer u a (answers.Lost told)))
    by_ask a client (asks.Sync f) e asked = all a client f e asked (closed a (after_answer u a (answers.Lost told))) refl
    by_ask a client (asks.Write f p bytes) e asked = absurd (subst (λ o. IsToldTo o (RowsAt done d) (answers.Lost told)) asked right)
    by_ask a client (asks.Patch f p at bytes) e asked = absurd (subst (λ o. IsToldTo o (RowsAt done d) (answers.Lost told)) asked right)
    by_ask a client (asks.Read f p) e asked = absurd (subst (λ o. IsToldTo o (RowsAt done d) (answers.Lost told)) asked right)
    by_ask a client (asks.Cut f p) e asked = absurd (subst (λ o. IsToldTo o (RowsAt done d) (answers.Lost told)) asked right)
    by_ask a client (asks.Name s ask) e asked = absurd (subst (λ o. IsToldTo o (RowsAt done d) (answers.Lost told)) asked right)

    told_met : OnSome (MetAt (done ++ line ∷ []) es) (run (kinds.Answered d op (answers.Lost told) ∷ []) u)
    unfolding run
    told_met =
        on_then (MetAt (done ++ line ∷ []) es) (run []) (step u (kinds.Answered d op (answers.Lost told)))
        (on_if (MetAt (done ++ line ∷ []) es) (u.lines == length u.log) (acts u (kinds.Answered d op (answers.Lost told)))
        (on_then (MetAt (done ++ line ∷ []) es) (answered u (answers.Lost told)) (find (is_ask d op) u.pending) (go (find (is_ask d op) u.pending) refl)))
      where
        go : (o : Option Pending) → find (is_ask d op) u.pending ≡ o → OnSome (λ a. OnSome (MetAt (done ++ line ∷ []) es) (answered u (answers.Lost told) a)) o
        go None q = tt
        go (Some a) q =
            let k = ask_is a q in
            on_if (MetAt (done ++ line ∷ []) es) (answers_so u a (answers.Lost told) a.result) (Some (closed a (after_answer u a (answers.Lost told))))
            (by_ask a k.0 a.ask refl k.1)

  -- One line.
  abbrev Same : List LogEntry → List LogEntry → Type 0
  Same os ps = (n : ℕ) (p : LogEntry) → slice_get ps n ≡ Some p → log.counts p.fate ≡ false → slice_get os n ≡ Some p

  plain_block : (done : List Observation) (o : Observation) (os : List Observation) (es fs : List LogEntry) (u : Volume) → is_plain o ≡ true →
      AreFirst es u.log →
      Same es fs → MetAt done es u → OnSome (MetAt (done ++ o ∷ []) fs) (run (block w o os) u)
  plain_block done o os es fs u q first same h =
      on_more (MetAt done fs) (MetAt (done ++ o ∷ []) fs) (λ z k. plain_met done o q fs z k) (run (block w o os) u)
      (met_by_steps (RowsAt done) (LateAt done) es fs u (block w o os) first same h)

  pub block_met : (done : List Observation) (o : Observation) (os : List Observation) (es : List LogEntry) (u : Volume) → tells_none o ≡ true →
      IsTold es u → AreOf as_ u → IsLossTold past x done o → MetAt done es u →
      OnSome (MetAt (done ++ o ∷ []) (lines.log_behind x.after.world es o)) (run (block w o os) u)
  unfolding before_line of_line lines.log_behind log.accept log.patch log.cut run
  block_met done (seen.Wrote i c f p bytes) os es u t told r l h =
      plain_block done (seen.Wrote i c f p bytes) os es _ u refl told.first (gained es _ refl) h
  block_met done (seen.Patched i c f p at bytes) os es u t told r l h =
      plain_block done (seen.Patched i c f p at bytes) os es _ u refl told.first (gained es _ refl) h
  block_met done (seen.CutAt i f p) os es u t told r l h =
      plain_block done (seen.CutAt i f p) os es _ u refl told.first (gained es _ refl) h
  block_met done (seen.Answered c op (answers.Lost rows)) os es u t told r l h = told_met done c op rows es u told.first r l h
  block_met done (seen.Answered c op answer) os es u t told r l h =
      plain_block done (seen.Answered c op answer) os es es u refl told.first (λ n p z g. z) h
  block_met done (seen.Lost c s life) os es u t told r l h = loss_met done c s life es u h
  block_met done (seen.Sent k m) os es u t told r l h = plain_met done (seen.Sent k m) refl es u h
  block_met done (seen.Submitted k c number what) os es u t told r l h = plain_met done (seen.Submitted k c number what) refl es u h
  block_met done (seen.Leased c s end) os es u t told r l h = plain_met done (seen.Leased c s end) refl es u h
  block_met done (seen.Suspected s c start) os es u t told r l h = plain_met done (seen.Suspected s c start) refl es u h
  block_met done (seen.Stolen s c life) os es u t told r l h = plain_met done (seen.Stolen s c life) refl es u h
  block_met done (seen.Hardened i) os es u t told r l h = cc t
  block_met done (seen.Dropped i cause) os es u t told r l h = cc t
