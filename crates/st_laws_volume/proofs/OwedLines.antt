-- Line by line of a client's step: what rows name stays so, no entry of a present life was failed by the command of a row, and who was told of which entries.
use Rattle.st_lemmas.proofs.Words
use Words.{◌≡◌, ◌≤◌, ◌<◌, ◌⊎◌, ℕ, suc, Bool, true, false, ◌&&◌, ◌||◌, ◌==◌, List, [], ◌∷◌, ◌++◌, Option, Some, None, Ok, refl, sym, ap, ◌∙◌, subst, inl, inr, arith, if◌then◌else◌}
use Words.{eq-eqb, eqb-true, find, length, list_all, list_any, slice_get, ClientId, Event, FileId, Life, PageNo, ServerId, Stamp, AppAnswer, Ask, Fate}
use Words.{DirtyPage, LogEntry, LogOwner, LostPage, Observation}
use Words.answers
use Words.asks
use Words.nodes
use Words.seen
use Words.fates
use Words.Client as cl
use Words.ClientPages as pages
use Words.ClientState.{Association, is_at}
use Words.Events as ev
use Words.Events.{WorldTurn, is_change, latest, world_step}
use Words.FlatLog as log
use Words.History.{Traced}
use Words.Keys.{same_client, same_server}
use Words.Lines as lines
use Words.Lines.{IsLogTold}
use Words.Lists.{Has}
use Words.Lookups.{or_left, some_is}
use Words.Members.{some_member_passes}
use Words.Numbers.{get_below, get_has, get_more, numbered_below}
use Words.Safety.{Step, ask_of, step}
use Words.Tables.{and_both, and_true, found_at, has_map_in, some_passes}
use Words.Truth.{client_is, clash, file_is, none_not_some}
use Words.World as world
use Words.World.{World, clock_of, site_of}
use Rattle.st_base.specs.declared.rows.LostRow.{LostRow}
use Rattle.st_promises.specs.Losses.{IsLossTold, IsToldBy, IsToldTo, is_of_file, owed, owed_of_file, owes, still_owed, told_by}
use Rattle.st_laws_steps.specs.Client.Losses.{is_ended}
use Rattle.st_laws_steps.specs.Lives.Lives.{LifeNext, LivesHold, NodeHolds, owner_of}
use Rattle.st_laws_steps.proofs.Lives.Associations.{own_found}
use Rattle.st_laws_pages.specs.Disks.Obligations.{FatesHold}
use Rattle.st_laws_pages.specs.Flush.Flush.{file_at, owner_at_page}
use Rattle.st_laws_pages.proofs.Asks.World.{asks_of}
use Rattle.st_laws_pages.proofs.Causes.Latest.{entry_last}
use Rattle.st_laws_pages.proofs.Flush.Caring.{latest_stays}
use Rattle.st_laws_volume.specs.DirtyPages.{WasDirty, is_change_of}
use Rattle.st_laws_volume.specs.HardFiles.{after_line, after_lines, is_sync_at}
use Rattle.st_laws_volume.specs.Logs.{IsLogOf, IsSame, fate_of}
use Rattle.st_laws_volume.specs.LossMarks.{AreMet, IsLate, IsOnce}
use Rattle.st_laws_volume.specs.Options.{OnSome}
use Rattle.st_laws_volume.specs.Witness.{Witness}
use Rattle.st_laws_volume.proofs.AskedAsks.{AreOf, Asked, IsOf, all_has}
use Rattle.st_laws_volume.proofs.CrashedLives.{is_over}
use Rattle.st_laws_volume.proofs.EntryMarks as marks
use Rattle.st_laws_volume.proofs.EntryMarks.{IsNew, LogStays, run_stays, told_hard, told_lost}
use Rattle.st_laws_volume.proofs.EventAnswers.{Stepping}
use Rattle.st_laws_volume.proofs.EventClients.{SiteStep}
use Rattle.st_laws_volume.proofs.FailureEntries.{kept_at}
use Rattle.st_laws_volume.proofs.FailureLives.{PresentOf, life_upto}
use Rattle.st_laws_volume.proofs.FailureMarks.{AreMarked}
use Rattle.st_laws_volume.proofs.FateCrashes.{MarksOf}
use Rattle.st_laws_volume.proofs.FateSeen.{tells_none, gives_fates}
use Rattle.st_laws_volume.proofs.GoneLives.{gone_ended}
use Rattle.st_laws_volume.proofs.HardAnswers as hard
use Rattle.st_laws_volume.proofs.HardAnswers.{still_there}
use Rattle.st_laws_volume.proofs.LogEntries.{same_first}
use Rattle.st_laws_volume.proofs.LossesMet.{MetHold}
use Rattle.st_laws_volume.proofs.LossLines as loss
use Rattle.st_laws_volume.proofs.LossLines.{RowsAt, first_at, plain_rows, rows_last}
use Rattle.st_laws_volume.proofs.OpenAnswers.{block}
use Rattle.st_laws_volume.proofs.Options.{on_more}
use Rattle.st_laws_volume.proofs.OwedEntries.{AllRows, Apart, Block, RowAt, Tell, block_plain, never, row_moved}
use Rattle.st_laws_volume.proofs.OwedRows.{StillOwed, still, told_row}
use Rattle.st_laws_volume.proofs.PresentLives.{next_life_upto, stepped}
use Rattle.st_laws_volume.proofs.QuietAnswers.{step_calm}
use Rattle.st_laws_volume.proofs.SyncsSettled.{IsOn, is_on_it}
use Rattle.st_laws_volume.proofs.SyncsWait.{AllWait}
use Rattle.st_volume.specs.Pages.{Entry, is_at as is_place, is_by, is_by_at, is_by_on, is_dropped, is_on, place_of, same_file, same_place, is_any}
use Rattle.st_volume.specs.Volume as volume
use Rattle.st_volume.specs.Volume.{Pending, Volume, is_ask, is_sync, run}
use Rattle.st_laws_volume.proofs.ListTests.{any_before, any_parts}

-- Asks.
pub sync_is : (ask : Ask) → is_sync ask ≡ true → (f : FileId) × (ask ≡ asks.Sync f)
sync_is (asks.Sync f) q = (f, refl)
sync_is (asks.Write f p bytes) q = cc q
sync_is (asks.Patch f p at bytes) q = cc q
sync_is (asks.Read f p) q = cc q
sync_is (asks.Cut f p) q = cc q
sync_is (asks.Name s ask) q = cc q

-- Files of entries.
on_same : (x : FileId × PageNo) (g : FileId) (what : Ask) → is_place x what ≡ true → is_on g what ≡ true → g ≡ x.0
on_same x g what p q = go (place_of what) p q
  where
    go : (o : Option (FileId × PageNo)) → is_any (same_place x) o ≡ true →
        is_any (λ (y : FileId × PageNo). same_file g y.0) o ≡ true → g ≡ x.0
    go None i j = cc i
    go (Some y) i j =
        file_is g y.0 j ∙ sym (file_is x.0 y.0 (and_true (same_file x.0 y.0) (x.1.0 == y.1.0) i).0)

at_same : (f g : FileId) (p q : PageNo) (what : Ask) → is_place (f, p) what ≡ true → is_place (g, q) what ≡ true → (g ≡ f) × (q.0 ≡ p.0)
at_same f g p q what a b = go (place_of what) a b
  where
    go : (o : Option (FileId × PageNo)) → is_any (same_place (f, p)) o ≡ true →
        is_any (same_place (g, q)) o ≡ true → (g ≡ f) × (q.0 ≡ p.0)
    go None i j = cc i
    go (Some y) i j =
        let u = and_true (same_file f y.0) (p.0 == y.1.0) i in
        let v = and_true (same_file g y.0) (q.0 == y.1.0) j in
        (file_is g y.0 v.0 ∙ sym (file_is f y.0 u.0), eqb-true q.0 y.1.0 v.1 ∙ sym (eqb-true p.0 y.1.0 u.1))

on_place : (g : FileId) (q : PageNo) (what : Ask) → is_place (g, q) what ≡ true → is_on g what ≡ true
on_place g q what a = go (place_of what) a
  where
    go : (o : Option (FileId × PageNo)) → is_any (same_place (g, q)) o ≡ true →
        is_any (λ (y : FileId × PageNo). same_file g y.0) o ≡ true
    go None i = cc i
    go (Some y) i = (and_true (same_file g y.0) (q.0 == y.1.0) i).0

-- a page that is dirty once is found
pub once_found : (ds : List DirtyPage) → IsOnce ds → (d : DirtyPage) → Has d ds → find (pages.is_dirty_of d.ino d.page) ds ≡ Some d
once_found [] o d h = absurd h
once_found (x ∷ ds) o d (inl e) =
    ap (λ b. if b then Some x else find (pages.is_dirty_of d.ino d.page) ds)
    (ap (λ (y : DirtyPage). pages.is_dirty_of y.ino y.page x) e
    ∙ and_both (x.ino == x.ino) (x.page.0 == x.page.0) (eq-eqb x.ino x.ino refl) (eq-eqb x.page.0 x.page.0 refl))
    ∙ ap (λ z. Some z) (sym e)
once_found (x ∷ ds) o d (inr i) = go (pages.is_dirty_of d.ino d.page x) refl (once_found ds o.1 d i)
  where
    turned : pages.is_dirty_of d.ino d.page x ≡ true → pages.is_dirty_of x.ino x.page d ≡ true
    turned q =
        let b = and_true (x.ino == d.ino) (x.page.0 == d.page.0) q in
        and_both (d.ino == x.ino) (d.page.0 == x.page.0) (eq-eqb d.ino x.ino (sym (eqb-true x.ino d.ino b.0)))
        (eq-eqb d.page.0 x.page.0 (sym (eqb-true x.page.0 d.page.0 b.1)))

    go : (b : Bool) → pages.is_dirty_of d.ino d.page x ≡ b → find (pages.is_dirty_of d.ino d.page) ds ≡ Some d →
        (if b then Some x else find (pages.is_dirty_of d.ino d.page) ds) ≡ Some d
    go true q r = absurd (clash (turned q) (o.0 d i))
    go false q r = r

-- Lines that answer syncs of a server.
abbrev pub is_sync_to : ServerId → Option Ask → Bool
is_sync_to s (Some (asks.Sync f)) = f.server.0 == s.0
is_sync_to s o = false

-- What came of a page's flag.
pub after_end : (asked : ℕ → Option Ask) (c : ClientId) (s : ServerId) (ino : ℕ) (p : PageNo) (b : Bool) (os : List Observation) (o : Observation) →
    after_lines asked c s ino p b (os ++ o ∷ []) ≡ after_line asked c s ino p (after_lines asked c s ino p b os) o
unfolding after_lines
after_end asked c s ino p b [] o = refl
after_end asked c s ino p b (x ∷ os) o = after_end asked c s ino p (after_line asked c s ino p b x) os o

pub line_false : (asked : ℕ → Option Ask) (c : ClientId) (s : ServerId) (ino : ℕ) (p : PageNo) (b : Bool) (o : Observation) →
    after_line asked c s ino p b o ≡ false → is_change_of c s ino p o ≡ false → b ≡ false
line_false asked c s ino p b (seen.Answered d op answers.Hard) q n = go (same_client d c && is_sync_at s ino (asked op)) q
  where
    go : (k : Bool) → (k || b) ≡ false → b ≡ false
    go true h = cc h
    go false h = h
line_false asked c s ino p b (seen.Answered d op answer) q n = q
line_false asked c s ino p b (seen.Wrote i d f r bytes) q n = ap (λ k. if k then false else b) (sym n) ∙ q
line_false asked c s ino p b (seen.Patched i d f r at bytes) q n = ap (λ k. if k then false else b) (sym n) ∙ q
line_false asked c s ino p b o q n = q

-- An entry that lines add counts.
added_counts : (f : World) (fs : List LogEntry) (x : Observation) (n : ℕ) (k : LogEntry) → tells_none x ≡ true → slice_get fs n ≡ None →
    slice_get (lines.log_behind f fs x) n ≡ Some k → log.counts k.fate ≡ true
unfolding lines.log_behind log.accept log.patch log.cut
added_counts f fs x n k q none i = by x q i
  where
    more : (y : LogEntry) → log.counts y.fate ≡ true → slice_get (fs ++ y ∷ []) n ≡ Some k → log.counts k.fate ≡ true
    more y g j = go (get_more fs y n k j)
      where
        go : (slice_get fs n ≡ Some k) ⊎ ((n ≡ length fs) × (k ≡ y)) → log.counts k.fate ≡ true
        go (inl z) = absurd (none_not_some k (sym none ∙ z))
        go (inr z) = ap (λ (o : LogEntry). log.counts o.fate) z.1 ∙ g

    same : slice_get fs n ≡ Some k → log.counts k.fate ≡ true
    same z = absurd (none_not_some k (sym none ∙ z))

    by : (x : Observation) → tells_none x ≡ true → slice_get (lines.log_behind f fs x) n ≡ Some k → log.counts k.fate ≡ true
    by (seen.Wrote m d g p bytes) z j = more _ refl j
    by (seen.Patched m d g p at bytes) z j = more _ refl j
    by (seen.CutAt m g p) z j = more _ refl j
    by (seen.Hardened m) z j = cc z
    by (seen.Dropped m cause) z j = cc z
    by x z j = same j

made_counts : (f : World) (xs : List Observation) (fs : List LogEntry) (n : ℕ) (k : LogEntry) → list_all tells_none xs ≡ true → slice_get fs n ≡ None →
    slice_get (lines.log_told f fs xs) n ≡ Some k → log.counts k.fate ≡ true
unfolding lines.log_told
made_counts f [] fs n k q none i = absurd (none_not_some k (sym none ∙ i))
made_counts f (x ∷ xs) fs n k q none i = go (slice_get (lines.log_behind f fs x) n) refl (λ y. made_counts f xs (lines.log_behind f fs x) n k b.1 y i)
  where
    b : (tells_none x ≡ true) × (list_all tells_none xs ≡ true)
    b = and_true (tells_none x) (list_all tells_none xs) q

    go : (o : Option LogEntry) → slice_get (lines.log_behind f fs x) n ≡ o →
        (slice_get (lines.log_behind f fs x) n ≡ None → log.counts k.fate ≡ true) → log.counts k.fate ≡ true
    go None y r = r y
    go (Some o) y r =
        ap (λ (z : LogEntry). log.counts z.fate) (some_is (sym i ∙ still_there f (lines.log_behind f fs x) xs b.1 n o y))
        ∙ added_counts f fs x n o b.0 none y

-- A step of a client.
module _ (past : List Step) (t : Traced) (e : Event) (sc : WorldTurn) (happened : world_step t.world e ≡ Ok sc) (it : Witness) (held : MetHold past t it)
    (later : FatesHold sc.world) (v : Volume) (a : IsLogOf t.world.log v) (right : AreOf (asks_of past) v) (marked : MarksOf t.world v)
    (met : AreMet (owed past) (IsLate t.world) t.world.log v) (wait : AllWait v) (whole : IsLogTold sc.world t.world.log sc.seen)
    (r : Stepping t.world e sc) (s : SiteStep t.world sc r.client) where
  abbrev w : World
  w = t.world

  abbrev x' : Step
  x' = step t e sc

  abbrev as_ : Asked
  as_ = asks_of (past ++ x' ∷ [])

  abbrev c : ClientId
  c = r.client

  lives : LivesHold w
  lives = held.failures.stand.stand.fates.lives

  abbrev pub calm : gives_fates e ≡ false
  calm = step_calm w e c r.site r.input r.takes

  abbrev pub State : List Observation → List Observation → List LogEntry → Volume → Type 0
  State = hard.State past t e sc happened it held later v a right marked met wait calm whole

  abbrev now : Stamp
  now = clock_of w (nodes.Client c)

  abbrev pub answers_sync : ServerId → Observation → Bool
  answers_sync n (seen.Answered d op answer) = is_sync_to n (ask_of past x' d op)
  answers_sync n o = false

  abbrev flag : ServerId → ℕ → PageNo → List Observation → Bool
  flag n ino p done = after_lines (ask_of past x' c) c n ino p false done

  -- What holds before a line.
  pub record J (done : List Observation) (es : List LogEntry) (u : Volume) : Type 0 where
    pub rows : AllRows (RowsAt past x' done) w sc.world u
    pub apart : Apart (RowsAt past x' done) sc.world es u
    pub marks : AreMarked past w u
    pub fresh : (n : ℕ) (f : Entry) → slice_get w.log n ≡ None → slice_get u.log n ≡ Some f → f.failed ≡ 0
    pub over : (n : ℕ) (o : LogEntry) (f : Entry) → slice_get w.log n ≡ Some o → slice_get u.log n ≡ Some f → is_change o ≡ true → f.crashed ≡ true →
        is_over w.ended o.of ≡ true
    pub others : (n : ℕ) (o : LogEntry) (f : Entry) → slice_get w.log n ≡ Some o → slice_get u.log n ≡ Some f → (o.of.client ≡ c → ⊥) →
        (g : Entry) × (slice_get v.log n ≡ Some g) × (f.told ≡ g.told)
    pub late : (b : Association) → Has b s.site.node.state.associations → is_ended s.site.node.state.config now b.session ≡ true → (ino : ℕ) (p : PageNo)
        (d : DirtyPage) → pages.dirty_of b.store.pages ino p ≡ Some d → (n : ℕ) (o : LogEntry) (f : Entry) → slice_get w.log n ≡ Some o →
        slice_get u.log n ≡ Some f → latest w.log c (file_at b ino) p ≡ suc n → o.of ≡ owner_at_page c b ino p →
        list_any (answers_sync b.server) done ≡ false → f.told ≡ false
    pub live : (b : Association) → Has b s.after.node.state.associations → (ino : ℕ) (p : PageNo) (d : DirtyPage) →
        pages.dirty_of b.store.pages ino p ≡ Some d → (n : ℕ) (o : LogEntry) (f : Entry) → slice_get es n ≡ Some o → slice_get u.log n ≡ Some f →
        latest es c (file_at b ino) p ≡ suc n → o.of ≡ owner_at_page c b ino p → flag b.server ino p done ≡ false →
        WasDirty w c b ino p ⊎ (list_any (is_change_of c b.server ino p) done ≡ true) → f.told ≡ false

  born : 1 ≤ c.0
  born = (numbered_below w.clients c.0 s.site s.there).0

  -- The ask that a line answers.
  pub its_ask : (u : Volume) → AreOf as_ u → (d : ClientId) (op : ℕ) (b : Pending) → find (is_ask d op) u.pending ≡ Some b →
      (b.client ≡ d) × (ask_of past x' d op ≡ Some b.ask)
  its_ask u k d op b q =
      let z = found_at (is_ask d op) u.pending b q in
      let y = and_true (volume.is_of_client d b) (b.op == op) z.0 in
      let own : IsOf as_ b = all_has as_ u.pending b k.pending z.1 in
      let client = client_is b.client d y.0 in
      (client, sym (ap (λ j. world.numbered (as_ j) b.op) client ∙ ap (λ i. world.numbered (as_ d) i) (eqb-true b.op op y.1)) ∙ own)

  -- Entries by their places.
  module _ (done rest : List Observation) (es : List LogEntry) (u : Volume) (st : State done rest es u) where
    pub lengths : length u.log ≡ length es
    lengths = sym st.lined ∙ st.told.lines

    pub old_there : (n : ℕ) (o : LogEntry) → slice_get w.log n ≡ Some o → (f : Entry) × (slice_get u.log n ≡ Some f)
    old_there n o q =
        let g = first_at w.log v.log (same_first w.log v.log a.entries) n o q in
        let m = kept_at ⊥ v.log u.log st.keeps n g.0 g.1 in (m.0, m.1)

    pub same_here : (n : ℕ) (o : LogEntry) (f : Entry) → slice_get es n ≡ Some o → slice_get u.log n ≡ Some f → IsSame o f
    same_here n o f q i =
        let y = first_at es u.log st.told.first n o q in subst (IsSame o) (some_is (sym y.1 ∙ i)) y.2

    -- one more line
    unchanged : (o : Observation) → tells_none o ≡ true → (n : ℕ) (p : LogEntry) → n < length es → slice_get (lines.log_behind sc.world es o) n ≡ Some p →
        slice_get es n ≡ Some p
    unfolding lines.log_behind log.accept log.patch log.cut
    unchanged o q n p l i = by o q i
      where
        more : (x : LogEntry) → slice_get (es ++ x ∷ []) n ≡ Some p → slice_get es n ≡ Some p
        more x j = go (get_more es x n p j)
          where
            go : (slice_get es n ≡ Some p) ⊎ ((n ≡ length es) × (p ≡ x)) → slice_get es n ≡ Some p
            go (inl k) = k
            go (inr k) = let z = k.0 in absurd (omega (arith, l, z))

        by : (o : Observation) → tells_none o ≡ true → slice_get (lines.log_behind sc.world es o) n ≡ Some p → slice_get es n ≡ Some p
        by (seen.Wrote k d f g bytes) z j = more _ j
        by (seen.Patched k d f g at bytes) z j = more _ j
        by (seen.CutAt k f g) z j = more _ j
        by (seen.Hardened k) z j = cc z
        by (seen.Dropped k cause) z j = cc z
        by o z j = j

    -- an entry that is the latest of its page, and no new one
    page_same : (o : Observation) → tells_none o ≡ true → (n : ServerId) (ino : ℕ) (p : PageNo) (m : ℕ) → m < length es →
        latest (lines.log_behind sc.world es o) c (record { server = n; ino = ino }) p ≡ suc m →
        (is_change_of c n ino p o ≡ false) × (latest es c (record { server = n; ino = ino }) p ≡ suc m)
    unfolding lines.log_behind log.accept log.patch log.cut
    page_same o q n ino p m l i = by o q i
      where
        file : FileId
        file = record { server = n; ino = ino }

        more : (x : LogEntry) → latest (es ++ x ∷ []) c file p ≡ suc m → (ev.is_entry_of c file p x ≡ false) × (latest es c file p ≡ suc m)
        more x j = go (ev.is_entry_of c file p x) refl
          where
            go : (b : Bool) → ev.is_entry_of c file p x ≡ b → (b ≡ false) × (latest es c file p ≡ suc m)
            go true k = absurd (let z = sym (entry_last c file p es x k) ∙ j in omega (arith, l, z))
            go false k = (refl, sym (latest_stays c file p es x k) ∙ j)

        by : (o : Observation) → tells_none o ≡ true → latest (lines.log_behind sc.world es o) c file p ≡ suc m →
            (is_change_of c n ino p o ≡ false) × (latest es c file p ≡ suc m)
        by (seen.Wrote k d f g bytes) z j = more (log.pending (log.owner d (ev.present_life sc.world d f.server) f g) (Words.changes.Write bytes)) j
        by (seen.Patched k d f g at bytes) z j = more (log.pending (log.owner d (ev.present_life sc.world d f.server) f g) (Words.changes.Patch at bytes)) j
        by (seen.CutAt k f g) z j = (refl, (more (log.hard_cut f g) j).1)
        by (seen.Hardened k) z j = cc z
        by (seen.Dropped k cause) z j = cc z
        by (seen.Sent k x) z j = (refl, j)
        by (seen.Submitted k d number what) z j = (refl, j)
        by (seen.Answered d op answer) z j = (refl, j)
        by (seen.Leased d k end) z j = (refl, j)
        by (seen.Lost d k life) z j = (refl, j)
        by (seen.Suspected k d start) z j = (refl, j)
        by (seen.Stolen k d life) z j = (refl, j)

    -- What a line must leave.
    pub record Lets (o : Observation) (test : Entry → Bool) : Type 0 where
      pub rows : (d : ClientId) (n : ServerId) (k : LostPage) → Has k (RowsAt past x' (done ++ o ∷ []) d n) →
          Has k (RowsAt past x' done d n) × ((row : RowAt w sc.world u d n k) → test row.f ≡ false)
      pub others : (n : ℕ) (k : LogEntry) (f : Entry) → slice_get es n ≡ Some k → slice_get u.log n ≡ Some f → (k.of.client ≡ c → ⊥) → test f ≡ false
      pub late : (b : Association) (ino : ℕ) (p : PageNo) (n : ℕ) (k : LogEntry) (f : Entry) → slice_get es n ≡ Some k → slice_get u.log n ≡ Some f →
          k.of ≡ owner_at_page c b ino p → answers_sync b.server o ≡ false → test f ≡ false
      pub live : (b : Association) → Has b s.after.node.state.associations → (ino : ℕ) (p : PageNo) (d : DirtyPage) →
          pages.dirty_of b.store.pages ino p ≡ Some d → (n : ℕ) (k : LogEntry) (f : Entry) → slice_get es n ≡ Some k → slice_get u.log n ≡ Some f →
          k.of ≡ owner_at_page c b ino p → flag b.server ino p (done ++ o ∷ []) ≡ false → test f ≡ false

    pub still_es : (n : ℕ) (o : LogEntry) → slice_get w.log n ≡ Some o → lines.log_told sc.world w.log done ≡ es → list_all tells_none done ≡ true →
        slice_get es n ≡ Some o
    still_es n o q g m = subst (λ xs. slice_get xs n ≡ Some o) g (still_there sc.world w.log done m n o q)

    pub moved : (o : Observation) (test : Entry → Bool) (z : Volume) → tells_none o ≡ true → lines.log_told sc.world w.log done ≡ es →
        list_all tells_none done ≡ true → Block test u z → Lets o test → J done es u → J (done ++ o ∷ []) (lines.log_behind sc.world es o) z
    moved o test z q g m b l j =
        record {
          rows = λ d n k i. let y = l.rows d n k i in let row = j.rows d n k y.0 in row_moved w sc.world test u z b d n k row (y.1 row);
          apart = apart;
          marks = marks_;
          fresh = fresh;
          over = over;
          others = others;
          late = late;
          live = live;
        }
      where
        fs : List LogEntry
        fs = lines.log_behind sc.world es o

        low : (n : ℕ) (f : Entry) → slice_get u.log n ≡ Some f → n < length es
        low n f i = let y = get_below u.log n f i in let k = lengths in omega (arith, y, k)

        apart : Apart (RowsAt past x' (done ++ o ∷ [])) sc.world fs z
        apart n k h at there ch p row i same = by (b.back n h there)
          where
            by : ((f : Entry) × (slice_get u.log n ≡ Some f) × Tell test f h) ⊎ ((slice_get u.log n ≡ None) × IsNew h) → ⊥
            by (inl (f, y, y2)) =
                j.apart n k f (unchanged o q n k (low n f y) at) y ch p row (l.rows k.of.client k.of.file.server row i).0 (sym y2.failed ∙ same)
            by (inr (y, new)) =
                let first = (j.rows k.of.client k.of.file.server row (l.rows k.of.client k.of.file.server row i).0).first in
                let none = sym new.failed ∙ same in omega (arith, first, none)

        none : {A : Type 0} (n : ℕ) (k : LogEntry) → slice_get w.log n ≡ Some k → slice_get u.log n ≡ None → A
        none n k at y = let f = old_there n k at in absurd (none_not_some f.0 (sym y ∙ f.1))

        marks_ : AreMarked past w z
        marks_ n k h at there p x y ch iss carries reach rep = by (b.back n h there)
          where
            by : ((f : Entry) × (slice_get u.log n ≡ Some f) × Tell test f h) ⊎ ((slice_get u.log n ≡ None) × IsNew h) →
                (h.failed ≡ x.number) × (x.starts ≡ p.site.starts)
            by (inl (f, i, y2)) = let m = j.marks n k f at i p x y ch iss carries reach rep in (y2.failed ∙ m.0, m.1)
            by (inr (i, new)) = none n k at i

        fresh : (n : ℕ) (h : Entry) → slice_get w.log n ≡ None → slice_get z.log n ≡ Some h → h.failed ≡ 0
        fresh n h at there = by (b.back n h there)
          where
            by : ((f : Entry) × (slice_get u.log n ≡ Some f) × Tell test f h) ⊎ ((slice_get u.log n ≡ None) × IsNew h) → h.failed ≡ 0
            by (inl (f, i, y2)) = y2.failed ∙ j.fresh n f at i
            by (inr (i, new)) = new.failed

        over : (n : ℕ) (k : LogEntry) (h : Entry) → slice_get w.log n ≡ Some k → slice_get z.log n ≡ Some h → is_change k ≡ true → h.crashed ≡ true →
            is_over w.ended k.of ≡ true
        over n k h at there ch y = by (b.back n h there)
          where
            by : ((f : Entry) × (slice_get u.log n ≡ Some f) × Tell test f h) ⊎ ((slice_get u.log n ≡ None) × IsNew h) → is_over w.ended k.of ≡ true
            by (inl (f, i, y2)) = j.over n k f at i ch (sym y2.crashed ∙ y)
            by (inr (i, new)) = none n k at i

        others : (n : ℕ) (k : LogEntry) (h : Entry) → slice_get w.log n ≡ Some k → slice_get z.log n ≡ Some h → (k.of.client ≡ c → ⊥) →
            (g2 : Entry) × (slice_get v.log n ≡ Some g2) × (h.told ≡ g2.told)
        others n k h at there non = by (b.back n h there)
          where
            plain : (x y : Bool) → y ≡ false → (x || y) ≡ x
            plain true y q2 = refl
            plain false y q2 = q2

            by : ((f : Entry) × (slice_get u.log n ≡ Some f) × Tell test f h) ⊎ ((slice_get u.log n ≡ None) × IsNew h) →
                (g2 : Entry) × (slice_get v.log n ≡ Some g2) × (h.told ≡ g2.told)
            by (inl (f, i, y2)) =
                let old = j.others n k f at i non in
                (old.0, old.1, y2.told ∙ (plain f.told (test f) (l.others n k f (still_es n k at g m) i non) ∙ old.2))
            by (inr (i, new)) = none n k at i

        two : (x y : Bool) → x ≡ false → y ≡ false → (x || y) ≡ false
        two true y p r = cc p
        two false y p r = r

        late : (b2 : Association) → Has b2 s.site.node.state.associations → is_ended s.site.node.state.config now b2.session ≡ true → (ino : ℕ) (p : PageNo)
            (d : DirtyPage) → pages.dirty_of b2.store.pages ino p ≡ Some d → (n : ℕ) (k : LogEntry) (h : Entry) → slice_get w.log n ≡ Some k →
            slice_get z.log n ≡ Some h → latest w.log c (file_at b2 ino) p ≡ suc n → k.of ≡ owner_at_page c b2 ino p →
            list_any (answers_sync b2.server) (done ++ o ∷ []) ≡ false → h.told ≡ false
        late b2 i over_ ino p d dirty n k h at there lat own none_ = by (b.back n h there)
          where
            parts : (list_any (answers_sync b2.server) done ≡ false) × (answers_sync b2.server o ≡ false)
            parts = any_parts (answers_sync b2.server) done o none_

            by : ((f : Entry) × (slice_get u.log n ≡ Some f) × Tell test f h) ⊎ ((slice_get u.log n ≡ None) × IsNew h) → h.told ≡ false
            by (inl (f, y, y2)) =
                y2.told
                ∙ two f.told (test f) (j.late b2 i over_ ino p d dirty n k f at y lat own parts.0)
                (l.late b2 ino p n k f (still_es n k at g m) y own parts.1)
            by (inr (y, new)) = none n k at y

        live : (b2 : Association) → Has b2 s.after.node.state.associations → (ino : ℕ) (p : PageNo) (d : DirtyPage) →
            pages.dirty_of b2.store.pages ino p ≡ Some d → (n : ℕ) (k : LogEntry) (h : Entry) → slice_get fs n ≡ Some k → slice_get z.log n ≡ Some h →
            latest fs c (file_at b2 ino) p ≡ suc n → k.of ≡ owner_at_page c b2 ino p → flag b2.server ino p (done ++ o ∷ []) ≡ false →
            WasDirty w c b2 ino p ⊎ (list_any (is_change_of c b2.server ino p) (done ++ o ∷ []) ≡ true) → h.told ≡ false
        live b2 i ino p d dirty n k h at there lat own clean was = by (b.back n h there)
          where
            by : ((f : Entry) × (slice_get u.log n ≡ Some f) × Tell test f h) ⊎ ((slice_get u.log n ≡ None) × IsNew h) → h.told ≡ false
            by (inr (y, new)) = new.told
            by (inl (f, y, y2)) =
                y2.told
                ∙ two f.told (test f)
                (j.live b2 i ino p d dirty n k f old y page.1 own
                (line_false (ask_of past x' c) c b2.server ino p (flag b2.server ino p done) o
                (sym (after_end (ask_of past x' c) c b2.server ino p false done o) ∙ clean) page.0) (before was))
                (l.live b2 i ino p d dirty n k f old y own clean)
              where
                old : slice_get es n ≡ Some k
                old = unchanged o q n k (low n f y) at

                page : (is_change_of c b2.server ino p o ≡ false) × (latest es c (file_at b2 ino) p ≡ suc n)
                page = page_same o q b2.server ino p n (low n f y) lat

                before : WasDirty w c b2 ino p ⊎ (list_any (is_change_of c b2.server ino p) (done ++ o ∷ []) ≡ true) →
                    WasDirty w c b2 ino p ⊎ (list_any (is_change_of c b2.server ino p) done ≡ true)
                before (inl x) = inl x
                before (inr x) = inr (any_before (is_change_of c b2.server ino p) done o x page.0)

    -- Lines that mark nothing.
    rows_same : (o : Observation) → loss.is_plain past x' o ≡ true → (d : ClientId) (n : ServerId) (k : LostPage) →
        Has k (RowsAt past x' (done ++ o ∷ []) d n) →
        Has k (RowsAt past x' done d n)
    rows_same o q d n k i =
        subst (Has k) (rows_last past x' done o d n ∙ plain_rows past x' o q d n (RowsAt past x' done d n)) i

    plain_lets : (o : Observation) → loss.is_plain past x' o ≡ true → Lets o never
    plain_lets o q =
        record {
          rows = λ d n k i. (rows_same o q d n k i, λ row. refl);
          others = λ n k f x y no. refl;
          late = λ b ino p n k f x y own no. refl;
          live = λ b i ino p d dirty n k f x y own clean. refl;
        }

    pub plain_block : (o : Observation) (os : List Observation) → loss.is_plain past x' o ≡ true → list_all marks.is_plain (block w o os) ≡ true →
        tells_none o ≡ true → lines.log_told sc.world w.log done ≡ es → list_all tells_none done ≡ true → J done es u →
        OnSome (J (done ++ o ∷ []) (lines.log_behind sc.world es o)) (run (block w o os) u)
    plain_block o os q m z g n j =
        on_more (LogStays u) (J (done ++ o ∷ []) (lines.log_behind sc.world es o))
        (λ y k. moved o never y z g n (block_plain u y k) (plain_lets o q) j) (run (block w o os) u) (run_stays (block w o os) u m)

    -- An entry of a present life isn't gone, if its association has a dirty page after the step.
    present_after : (b : Association) → Has b s.after.node.state.associations → (o : LogOwner) → (ino : ℕ) (p : PageNo) → o ≡ owner_at_page c b ino p →
        PresentOf sc.world o
    present_after b i o ino p own =
        subst (PresentOf sc.world) (sym own)
        (record {
          site = s.after;
          there = s.left;
          runs = ap (λ (n : cl.ClientNode). n.running) s.node ∙ s.runs;
          a = b;
          has = i;
          place = own_found s.after.node.state.associations (later.lives.lives.sites c s.after s.left).once b i;
          server = refl;
          life = refl;
        })

    pub not_gone : (b : Association) → Has b s.after.node.state.associations → (ino : ℕ) (p : PageNo) (n : ℕ) (k : LogEntry) → slice_get es n ≡ Some k →
        k.of ≡ owner_at_page c b ino p → lines.log_told sc.world w.log done ≡ es → list_all tells_none done ≡ true → log.counts k.fate ≡ false → ⊥
    not_gone b i ino p n k at own g m gone = by (stepped w e sc lives c s b i)
      where
        node : NodeHolds w.config w.clocks w.ended c s.site.node
        node = lives.lives.sites c s.site s.there

        by : (x : Association) × Has x s.site.node.state.associations × LifeNext now s.site.node.state x b → ⊥
        by (x, ix, next) = old (slice_get w.log n) refl
          where
            place : find (is_at b.server) s.site.node.state.associations ≡ Some x
            place = ap (λ y. find (is_at y) s.site.node.state.associations) (sym next.server) ∙ own_found s.site.node.state.associations node.once x ix

            same_life : is_ended s.site.node.state.config now x.session ≡ true → x.life.0 < b.life.0
            same_life q = let z = ap (λ (y : Life). y.0) (next.lost q) in omega (arith, z)

            old : (o : Option LogEntry) → slice_get w.log n ≡ o → ⊥
            old (Some o) q = dead (some_is (sym (still_es n o q g m) ∙ at))
              where
                dead : o ≡ k → ⊥
                dead same = absurd (let z = same_life over in let y = life in omega (arith, z, y))
                  where
                    of_own : o.of ≡ owner_at_page c b ino p
                    of_own = ap (λ (y : LogEntry). y.of) same ∙ own

                    low : o.of.life.0 ≤ x.life.0
                    low =
                        life_upto w lives o.of (has_map_in owner_of w.log o (get_has w.log n o q)) s.site
                        (ap (λ (y : LogOwner). site_of w y.client) of_own ∙ s.there) x
                        (ap (λ (y : LogOwner). find (is_at y.file.server) s.site.node.state.associations) of_own ∙ place)

                    life : x.life.0 ≡ b.life.0
                    life =
                        let up = next_life_upto now s.site.node.state x b next in
                        let z = ap (λ (y : LogOwner). y.life.0) of_own in
                        let l = low in omega (arith, l, up, z)

                    p0 : PresentOf w (owner_at_page c b ino p)
                    p0 =
                        record {
                          site = s.site;
                          there = s.there;
                          runs = s.runs;
                          a = x;
                          has = ix;
                          place = place;
                          server = next.server;
                          life = ap (λ y. record { 0 = y }) life;
                        }

                    over : is_ended s.site.node.state.config now x.session ≡ true
                    over =
                        gone_ended w held.failures.stand.stand.fates (owner_at_page c b ino p) p0 n o q of_own
                        (ap (λ (y : LogEntry). log.counts y.fate) same ∙ gone)
            old None q =
                clash
                (made_counts sc.world done w.log n k m q (subst (λ ys. slice_get ys n ≡ Some k) (sym g) at))
                gone

    -- An answer that tells goes to a sync.
    module _ (d : ClientId) (op : ℕ) (mine : d ≡ c) (b : Pending) (found : find (is_ask d op) u.pending ≡ Some b) (g : FileId)
        (words : b.ask ≡ asks.Sync g) where
      whose : b.client ≡ d
      whose = (its_ask u st.asked d op b found).0

      asked : ask_of past x' d op ≡ Some (asks.Sync g)
      asked = (its_ask u st.asked d op b found).1 ∙ ap (λ z. Some z) words

      -- it tells no entry of a page of another server
      told_late : (answer : AppAnswer) (b2 : Association) (ino : ℕ) (p : PageNo) (n : ℕ) (k : LogEntry) (f : Entry) → slice_get es n ≡ Some k →
          slice_get u.log n ≡ Some f → k.of ≡ owner_at_page c b2 ino p → answers_sync b2.server (seen.Answered d op answer) ≡ false →
          is_by_on b.client (volume.file_of b.ask) f ≡ false
      told_late answer b2 ino p n k f x y own non = go (is_by_on b.client (volume.file_of b.ask) f) refl
        where
          go : (z : Bool) → is_by_on b.client (volume.file_of b.ask) f ≡ z → z ≡ false
          go false z = refl
          go true z =
              let on = is_on_it b.client (volume.file_of b.ask) k f (same_here n k f x y) z in
              let file : g ≡ k.of.file = ap volume.file_of (sym words) ∙ on.its_file in
              absurd
              (clash
              (ap (is_sync_to b2.server) asked
              ∙ eq-eqb g.server.0 b2.server.0 (ap (λ (q : FileId). q.server.0) file ∙ ap (λ (q : LogOwner). q.file.server.0) own))
              non)

      -- and none of another client
      told_own : (n : ℕ) (k : LogEntry) (f : Entry) → slice_get es n ≡ Some k → slice_get u.log n ≡ Some f → (k.of.client ≡ c → ⊥) →
          is_by_on b.client (volume.file_of b.ask) f ≡ false
      told_own n k f x y non = go (is_by_on b.client (volume.file_of b.ask) f) refl
        where
          go : (z : Bool) → is_by_on b.client (volume.file_of b.ask) f ≡ z → z ≡ false
          go false z = refl
          go true z =
              absurd (non (sym (is_on_it b.client (volume.file_of b.ask) k f (same_here n k f x y) z).client ∙ (whose ∙ mine)))

      -- of the client's own page it is a line that the flag knows
      own_page : (b2 : Association) (ino : ℕ) (p : PageNo) (n : ℕ) (k : LogEntry) (f : Entry) → slice_get es n ≡ Some k → slice_get u.log n ≡ Some f →
          k.of ≡ owner_at_page c b2 ino p → is_by_on b.client (volume.file_of b.ask) f ≡ true → (d ≡ c) × (g ≡ file_at b2 ino)
      own_page b2 ino p n k f x y own z =
          let on = is_on_it b.client (volume.file_of b.ask) k f (same_here n k f x y) z in (
            sym whose ∙ (on.client ∙ ap (λ (q : LogOwner). q.client) own),
            ap volume.file_of (sym words) ∙ (on.its_file ∙ ap (λ (q : LogOwner). q.file) own),
          )

      -- `hard`
      pub hard_lets : IsLossTold past x' done (seen.Answered d op answers.Hard) → Lets (seen.Answered d op answers.Hard) (told_hard b)
      hard_lets l =
          record {
            rows = λ k n y i.
                let j = rows_same (seen.Answered d op answers.Hard) refl k n y i in
                (j, λ row. spared k n y j row (is_by_on b.client (volume.file_of b.ask) row.f) refl);
            others = λ n k f x y non. told_own n k f x y non;
            late = λ b2 ino p n k f x y own non. told_late answers.Hard b2 ino p n k f x y own non;
            live = λ b2 i ino p dd dirty n k f x y own clean. kept b2 ino p n k f x y own clean (is_by_on b.client (volume.file_of b.ask) f) refl;
          }
        where
          unowed : owes (RowsAt past x' done d g.server) g.ino ≡ true → ⊥
          unowed q =
              subst (λ z. IsToldBy z (owed_of_file (RowsAt past x' done d g.server) g.ino) answers.Hard) q
              (subst (λ o. IsToldTo o (RowsAt past x' done d) answers.Hard) asked l)

          spared : (k : ClientId) (n : ServerId) (y : LostPage) → Has y (RowsAt past x' done k n) → (row : RowAt w sc.world u k n y) → (z : Bool) →
              is_by_on b.client (volume.file_of b.ask) row.f ≡ z → z ≡ false
          spared k n y j row false z = refl
          spared k n y j row true z =
              let mine = and_true (is_by b.client row.f) (is_on (volume.file_of b.ask) row.f.what) z in
              let its = and_true (is_by k row.f) (is_place (record { server = n; ino = y.ino }, y.page) row.f.what) row.by in
              let client : d ≡ k = sym whose ∙ (client_is b.client row.f.client mine.0 ∙ sym (client_is k row.f.client its.0)) in
              let file : g ≡ record { server = n; ino = y.ino } =
              ap volume.file_of (sym words) ∙ on_same (record { server = n; ino = y.ino }, y.page) (volume.file_of b.ask) row.f.what its.1 mine.1 in
              absurd
              (unowed
              (some_passes (is_of_file g.ino) (RowsAt past x' done d g.server) y
              (subst (λ (q : ClientId). Has y (RowsAt past x' done q g.server)) (sym client)
              (subst (λ (q : ServerId). Has y (RowsAt past x' done k q)) (ap (λ (q : FileId). q.server) (sym file)) j))
              (eq-eqb y.ino g.ino (ap (λ (q : FileId). q.ino) (sym file)))))

          kept : (b2 : Association) (ino : ℕ) (p : PageNo) (n : ℕ) (k : LogEntry) (f : Entry) → slice_get es n ≡ Some k → slice_get u.log n ≡ Some f →
              k.of ≡ owner_at_page c b2 ino p → flag b2.server ino p (done ++ seen.Answered d op answers.Hard ∷ []) ≡ false → (z : Bool) →
              is_by_on b.client (volume.file_of b.ask) f ≡ z → z ≡ false
          kept b2 ino p n k f x y own clean false z = refl
          kept b2 ino p n k f x y own clean true z =
              let m = own_page b2 ino p n k f x y own z in
              absurd
              (clash
              (or_left (same_client d c && is_sync_at b2.server ino (ask_of past x' c op)) (flag b2.server ino p done)
              (and_both (same_client d c) (is_sync_at b2.server ino (ask_of past x' c op)) (eq-eqb d.0 c.0 (ap (λ (q : ClientId). q.0) m.0))
              (ap (is_sync_at b2.server ino) (ap (λ (q : ClientId). ask_of past x' q op) (sym m.0) ∙ asked)
              ∙ and_both (g.server.0 == b2.server.0) (g.ino == ino) (eq-eqb g.server.0 b2.server.0 (ap (λ (q : FileId). q.server.0) m.1))
              (eq-eqb g.ino ino (ap (λ (q : FileId). q.ino) m.1)))))
              (sym (after_end (ask_of past x' c) c b2.server ino p false done (seen.Answered d op answers.Hard)) ∙ clean))

      -- `lost`
      module _ (told : List LostRow) (l : IsLossTold past x' done (seen.Answered d op (answers.Lost told))) where
        abbrev line : Observation
        line = seen.Answered d op (answers.Lost told)

        rows_are : told ≡ owed_of_file (RowsAt past x' done d g.server) g.ino
        rows_are = go (owes (RowsAt past x' done d g.server) g.ino) (subst (λ o. IsToldTo o (RowsAt past x' done d) (answers.Lost told)) asked l)
          where
            go : (z : Bool) → IsToldBy z (owed_of_file (RowsAt past x' done d g.server) g.ino) (answers.Lost told) →
                told ≡ owed_of_file (RowsAt past x' done d g.server) g.ino
            go true k = k
            go false k = absurd k

        abbrev its_row : Entry → LostRow → Bool
        its_row f y = is_by_at b.client (volume.file_of b.ask, y.page) f && (is_dropped f.fate || (f.failed == y.command))

        -- what is still owed
        left : (k : ClientId) (n : ServerId) (y : LostPage) → Has y (RowsAt past x' (done ++ line ∷ []) k n) →
            Has y (RowsAt past x' done k n) × (d ≡ k → g.server ≡ n → StillOwed (RowsAt past x' done k n) g.ino y)
        left k n y i = by (same_client d k) refl (subst (Has y) (rows_last past x' done line k n) i)
          where
            at : (z : Bool) → same_server g.server n ≡ z → d ≡ k →
                Has y (if z then still_owed (RowsAt past x' done k n) g.ino else RowsAt past x' done k n) →
                Has y (RowsAt past x' done k n) × (d ≡ k → g.server ≡ n → StillOwed (RowsAt past x' done k n) g.ino y)
            at true q same h = let z = still (RowsAt past x' done k n) g.ino y h in (z.was, λ u1 u2. z)
            at false q same h = (h, λ u1 u2. absurd (clash (eq-eqb g.server.0 n.0 (ap (λ (q : ServerId). q.0) u2)) q))

            by : (z : Bool) → same_client d k ≡ z → Has y (if z then told_by (ask_of past x' k op) n (RowsAt past x' done k n) else RowsAt past x' done k n) →
                Has y (RowsAt past x' done k n) × (d ≡ k → g.server ≡ n → StillOwed (RowsAt past x' done k n) g.ino y)
            by false q h = (h, λ u1 u2. absurd (clash (eq-eqb d.0 k.0 (ap (λ (q : ClientId). q.0) u1)) q))
            by true q h =
                let same : d ≡ k = client_is d k q in
                at (same_server g.server n) refl same
                (subst (λ o. Has y (told_by o n (RowsAt past x' done k n))) (ap (λ (q : ClientId). ask_of past x' q op) (sym same) ∙ asked) h)

        pub lost_lets : lines.log_told sc.world w.log done ≡ es → list_all tells_none done ≡ true → J done es u → Lets line (told_lost told b)
        lost_lets same_log none j =
            record {
              rows = λ k n y i. let z = left k n y i in
                  (z.0, λ row. spared k n y z.0 z.1 row (list_any (its_row row.f) told) refl);
              others = λ n k f x y non. unmarked (λ (z : list_any (its_row f) told ≡ true). clash (by_row f z) (told_own n k f x y non));
              late = λ b2 ino p n k f x y own non. unmarked (λ (z : list_any (its_row f) told ≡ true).
                  clash (by_row f z) (told_late (answers.Lost told) b2 ino p n k f x y own non));
              live = λ b2 i ino p dd dirty n k f x y own clean. unmarked (λ (z : list_any (its_row f) told ≡ true). kept b2 i ino p n k f x y own z);
            }
          where
            unmarked : {q : Bool} → (q ≡ true → ⊥) → q ≡ false
            unmarked {q} h = go q refl
              where
                go : (k : Bool) → q ≡ k → q ≡ false
                go true z = absurd (h z)
                go false z = z

            by_row : (f : Entry) → list_any (its_row f) told ≡ true → is_by_on b.client (volume.file_of b.ask) f ≡ true
            by_row f z =
                let m = some_member_passes (its_row f) told z in
                let at = and_true (is_by_at b.client (volume.file_of b.ask, m.0.page) f) (is_dropped f.fate || (f.failed == m.0.command)) m.2 in
                let by = and_true (is_by b.client f) (is_place (volume.file_of b.ask, m.0.page) f.what) at.0 in
                and_both (is_by b.client f) (is_on (volume.file_of b.ask) f.what) by.0 (on_place (volume.file_of b.ask) m.0.page f.what by.1)

            spared : (k : ClientId) (n : ServerId) (y : LostPage) → Has y (RowsAt past x' done k n) →
                (d ≡ k → g.server ≡ n → StillOwed (RowsAt past x' done k n) g.ino y) → (row : RowAt w sc.world u k n y) → (z : Bool) →
                list_any (its_row row.f) told ≡ z → z ≡ false
            spared k n y i o row false z = refl
            spared k n y i o row true z =
                let m = some_member_passes (its_row row.f) told z in
                let at =
                and_true (is_by_at b.client (volume.file_of b.ask, m.0.page) row.f) (is_dropped row.f.fate || (row.f.failed == m.0.command)) m.2 in
                let by = and_true (is_by b.client row.f) (is_place (volume.file_of b.ask, m.0.page) row.f.what) at.0 in
                let its = and_true (is_by k row.f) (is_place (record { server = n; ino = y.ino }, y.page) row.f.what) row.by in
                let client : d ≡ k = sym whose ∙ (client_is b.client row.f.client by.0 ∙ sym (client_is k row.f.client its.0)) in
                let place = at_same (record { server = n; ino = y.ino }) (volume.file_of b.ask) y.page m.0.page row.f.what its.1 by.1 in
                let file : g ≡ record { server = n; ino = y.ino } = ap volume.file_of (sym words) ∙ place.0 in
                let low =
                (o client (ap (λ (q : FileId). q.server) file)).other (ap (λ (q : FileId). q.ino) (sym file)) m.0
                (subst (Has m.0)
                (rows_are
                ∙ (ap (λ (q : ClientId). owed_of_file (RowsAt past x' done q g.server) g.ino) client
                ∙ ap (λ (q : ServerId). owed_of_file (RowsAt past x' done k q) g.ino) (ap (λ (q : FileId). q.server) file))) m.1) in
                let page = place.1 in absurd (omega (arith, low, page))

            kept : (b2 : Association) → Has b2 s.after.node.state.associations → (ino : ℕ) (p : PageNo) (n : ℕ) (k : LogEntry) (f : Entry) →
                slice_get es n ≡ Some k → slice_get u.log n ≡ Some f → k.of ≡ owner_at_page c b2 ino p → list_any (its_row f) told ≡ true → ⊥
            kept b2 i ino p n k f x y own z = by (is_dropped f.fate) refl (f.failed == m.0.command) refl at.1
              where
                m : (q : LostRow) × Has q told × (its_row f q ≡ true)
                m = some_member_passes (its_row f) told z

                at : (is_by_at b.client (volume.file_of b.ask, m.0.page) f ≡ true) × ((is_dropped f.fate || (f.failed == m.0.command)) ≡ true)
                at = and_true (is_by_at b.client (volume.file_of b.ask, m.0.page) f) (is_dropped f.fate || (f.failed == m.0.command)) m.2

                on : (is_by b.client f ≡ true) × (is_place (volume.file_of b.ask, m.0.page) f.what ≡ true)
                on = and_true (is_by b.client f) (is_place (volume.file_of b.ask, m.0.page) f.what) at.0

                same : IsSame k f
                same = same_here n k f x y

                its : IsOn b.client (volume.file_of b.ask) k
                its =
                    is_on_it b.client (volume.file_of b.ask) k f same
                    (and_both (is_by b.client f) (is_on (volume.file_of b.ask) f.what) on.0 (on_place (volume.file_of b.ask) m.0.page f.what on.1))

                client : d ≡ k.of.client
                client = sym whose ∙ its.client

                file : g ≡ k.of.file
                file = ap volume.file_of (sym words) ∙ its.its_file

                dropped_gone : (q : Fate) → is_dropped (fate_of q) ≡ true → log.counts q ≡ false
                dropped_gone (fates.Gone cause) h = refl
                dropped_gone fates.Pending h = cc h
                dropped_gone fates.Hard h = cc h

                by : (q : Bool) → is_dropped f.fate ≡ q → (q2 : Bool) → (f.failed == m.0.command) ≡ q2 → (q || q2) ≡ true → ⊥
                by true e q2 e2 h =
                    not_gone b2 i ino p n k x own same_log none (dropped_gone k.fate (sym (ap is_dropped same.fate) ∙ e))
                by false e true e2 h =
                    let row =
                    told_row (RowsAt past x' done d g.server) g.ino m.0 (subst (Has m.0) rows_are m.1) in
                    j.apart n k f x y its.change (present_after b2 i k.of ino p own) row.0
                    (subst (λ (q : ClientId). Has row.0 (RowsAt past x' done q k.of.file.server)) client
                    (subst (λ (q : ServerId). Has row.0 (RowsAt past x' done d q)) (ap (λ (q : FileId). q.server) file) row.1))
                    (eqb-true f.failed m.0.command e2 ∙ ap (λ (q : LostRow). q.command) row.3)
                by false e false e2 h = cc h
