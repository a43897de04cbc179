-- What an event's own steps leave: rows keep the entries that they name, and no entry of a present life is failed by the command of a row.
use Rattle.st_lemmas.proofs.Words
use Words.{◌≡◌, ◌≤◌, ◌<◌, ◌⊎◌, ℕ, suc, Bool, true, false, ◌&&◌, ◌==◌, List, Option, Some, None, Ok, refl, sym, ap, ◌∙◌, subst, inl, inr, arith}
use Words.{eqb-true, option_map, slice_get, ClientId, Event, Life, ServerId, Fate, LogEntry, LogOwner, LostPage}
use Words.events
use Words.fates
use Words.nodes
use Words.changes
use Words.ClientState.{Association}
use Words.Events as ev
use Words.Events.{WorldTurn, is_change, world_step}
use Words.FlatLog as log
use Words.Lines.{IsLogTold}
use Words.Lists.{Has}
use Words.Lookups.{some_is}
use Words.Numbers.{get_has}
use Words.Safety.{Step}
use Words.Tables.{and_true, has_map_in}
use Words.Truth.{client_is, clash, file_is, none_not_some}
use Words.World as world
use Words.World.{World, WorldClient, site_of}
use Rattle.st_rules.specs.History.{Traced}
use Rattle.st_rules.specs.declared.log.Change.{Change}
use Rattle.st_rules.specs.Client.{ClientNode}
use Rattle.st_lemmas.proofs.Marks.{of_entry}
use Rattle.st_promises.specs.Losses.{owed}
use Rattle.st_laws_steps.specs.Lives.Lives.{LivesHold, owner_of}
use Rattle.st_laws_pages.specs.Disks.Folds.{owner_at}
use Rattle.st_laws_volume.specs.FateMarks.{is_crashed_life}
use Rattle.st_laws_volume.specs.Logs.{IsLogOf, IsSame, ask_of, fate_of}
use Rattle.st_laws_volume.proofs.CrashedLives.{AreOver, is_over, over_at}
use Rattle.st_laws_volume.proofs.EntryEvents.{AllOwn, Hit, Own, Was}
use Rattle.st_laws_volume.proofs.EventClients.{Crashes, SiteNext, Starts, Stays, Steps, event_clients}
use Rattle.st_laws_volume.proofs.FailureEntries.{kept_at}
use Rattle.st_laws_volume.proofs.FailureLives.{PresentOf, present}
use Rattle.st_laws_volume.proofs.FailureMarks.{FailuresStand, same_there}
use Rattle.st_laws_volume.proofs.FailureTouches.{Shut, number_own, shut_out}
use Rattle.st_laws_volume.proofs.FailureWrites as writes
use Rattle.st_laws_volume.proofs.FailureWrites.{touched}
use Rattle.st_laws_volume.proofs.FateCrashes.{MarksOf}
use Rattle.st_laws_volume.proofs.FateEnds.{marked_at}
use Rattle.st_laws_volume.proofs.FateKeeps.{AllKeep, Keeps}
use Rattle.st_laws_volume.proofs.LogEntries.{AtBoth, same_at}
use Rattle.st_laws_volume.proofs.OwedEntries.{AllRows, Apart, RowAt}
use Rattle.st_laws_volume.proofs.PresentLives.{next_life_upto, present_before, stepped}
use Rattle.st_volume.specs.Pages.{Entry, is_at as is_place, is_by, is_open, same_file, same_place}
use Rattle.st_volume.specs.Volume.{Volume}

-- A life that is over stays so, while its client runs.
module _ (t : World) (e : Event) (sc : WorldTurn) (lives : LivesHold t) (c : ClientId) (next : SiteNext t e sc c) (site : WorldClient)
    (there : site_of t c ≡ Some site) (runs : site.node.running ≡ true) (calm : e ≡ events.Crash (nodes.Client c) → ⊥) where
  -- the client after the event: the same instance, at lives that never fall
  pub record Goes (after : WorldClient) : Type 0 where
    pub starts : after.starts ≡ site.starts
    pub runs_on : after.node.running ≡ true
    pub each : (b : Association) → Has b after.node.state.associations →
        (a : Association) × Has a site.node.state.associations × ((a.server ≡ b.server) × (a.life.0 ≤ b.life.0))

  pub goes_on : (after : WorldClient) → site_of sc.world c ≡ Some after → Goes after
  goes_on after left = by next
    where
      by : SiteNext t e sc c → Goes after
      by (Stays q) =
          let same : after ≡ site = some_is (sym left ∙ (q ∙ there)) in
          record {
            starts = ap (λ (z : WorldClient). z.starts) same;
            runs_on = ap (λ (z : WorldClient). z.node.running) same ∙ runs;
            each = λ b i. (b, subst (λ (z : WorldClient). Has b z.node.state.associations) same i, (refl, omega arith));
          }
      by (Steps s r q) =
          let same : after ≡ s.after = some_is (sym left ∙ s.left) in
          let old : s.site ≡ site = some_is (sym s.there ∙ there) in
          record {
            starts = ap (λ (z : WorldClient). z.starts) same ∙ (s.starts ∙ ap (λ (z : WorldClient). z.starts) old);
            runs_on =
                ap (λ (z : WorldClient). z.node.running) same
                ∙ (ap (λ (n : ClientNode). n.running) s.node ∙ s.runs);
            each = λ b i.
                let z = stepped t e sc lives c s b (subst (λ (k : WorldClient). Has b k.node.state.associations) same i) in (
                  z.0,
                  subst (λ (k : WorldClient). Has z.0 k.node.state.associations) old z.1,
                  (z.2.server, next_life_upto (world.clock_of t (nodes.Client c)) s.site.node.state z.0 b z.2),
                );
          }
      by (Crashes old q l stopped) = absurd (calm q)
      by (Starts old was stopped l) = absurd (clash runs (ap (λ (z : WorldClient). z.node.running) (some_is (sym there ∙ was)) ∙ stopped))

module _ (past : List Step) (t : Traced) (e : Event) (sc : WorldTurn) (happened : world_step t.world e ≡ Ok sc) (b : FailuresStand past t)
    (told : IsLogTold sc.world t.world.log sc.seen) (v : Volume) (a : IsLogOf t.world.log v) (marked : MarksOf t.world v)
    (rows : AllRows (owed past) t.world t.world v) (apart : Apart (owed past) t.world t.world.log v) (over : AreOver t.world.ended t.world.log v.log) where
  abbrev w : World
  w = t.world

  lives : LivesHold w
  lives = b.stand.fates.lives

  -- the entry of the world's log
  log_at : (n : ℕ) (o : LogEntry) → slice_get w.log n ≡ Some o → (f : Entry) × (slice_get v.log n ≡ Some f) × IsSame o f
  log_at n o q = same_there o (slice_get v.log n) (subst (λ k. AtBoth k (slice_get v.log n)) q (same_at w.log v.log n a.entries))

  no_log : (n : ℕ) (f : Entry) → slice_get w.log n ≡ None → slice_get v.log n ≡ Some f → ⊥
  no_log n f q i = subst (λ k. AtBoth k (Some f)) q (subst (λ k. AtBoth (slice_get w.log n) k) i (same_at w.log v.log n a.entries))

  -- The entry that a row names isn't reached by a failed write.
  untouched : (d : ClientId) (s : ServerId) (r : LostPage) (row : RowAt w w v d s r) (g : Entry) → Hit w row.n row.f g → ⊥
  untouched d s r row g hit = by hit.how
    where
      owner : owner_at w.log row.y.index ≡ Some (world.owner_carried row.x row.y)
      owner = (b.entries.owned row.k row.x row.is row.y row.carries).0

      entry : (o : LogEntry) × (slice_get w.log row.n ≡ Some o) × (o.of ≡ world.owner_carried row.x row.y)
      entry = go (slice_get w.log row.n) refl (sym (ap (owner_at w.log) row.index) ∙ owner)
        where
          go : (o : Option LogEntry) → slice_get w.log row.n ≡ o → option_map of_entry o ≡ Some (world.owner_carried row.x row.y) →
              (o : LogEntry) × (slice_get w.log row.n ≡ Some o) × (o.of ≡ world.owner_carried row.x row.y)
          go None q h = cc h
          go (Some o) q h = (o, q, some_is h)

      same : IsSame entry.0 row.f
      same = let z = log_at row.n entry.0 entry.1 in subst (IsSame entry.0) (some_is (sym z.1 ∙ row.at)) z.2

      opened : (f : Fate) → is_open (fate_of f) ≡ true → f ≡ fates.Pending
      opened fates.Pending q = refl
      opened fates.Hard q = cc q
      opened (fates.Gone cause) q = cc q

      by : (suc row.n ≡ hit.y.index) ⊎ (is_open row.f.fate ≡ true) → ⊥
      by (inl q) =
          shut_out past t b.stand b.opens b.entries hit.k hit.x hit.d hit.y hit.issued hit.is hit.unreported hit.carries row.k row.x row.y row.is row.carries
          (row.index ∙ q)
          (subst (λ n. Shut w row.x.client n row.x.life) (sym row.server) (subst (λ k. Shut w k s row.x.life) (sym row.client) row.shut))
      by (inr q) =
          let pend : entry.0.fate ≡ fates.Pending = opened entry.0.fate (ap is_open (sym same.fate) ∙ q) in
          let p = present w b.stand.fates entry.0 (get_has w.log row.n entry.0 entry.1) pend (spared pend) in
          let low =
          row.over p.site
          (ap (site_of w) (sym row.client ∙ ap (λ (k : LogOwner). k.client) (sym entry.2)) ∙ p.there) p.a p.has
          (p.server ∙ (ap (λ (k : LogOwner). k.file.server) entry.2 ∙ row.server)) in
          let life = ap (λ (l : Life). l.0) p.life in
          let own = ap (λ (k : LogOwner). k.life.0) entry.2 in omega (arith, low, life, own)
        where
          spared : entry.0.fate ≡ fates.Pending → is_crashed_life w.ended entry.0.of ≡ false
          spared pend = go (is_crashed_life w.ended entry.0.of) refl
            where
              go : (k : Bool) → is_crashed_life w.ended entry.0.of ≡ k → k ≡ false
              go false z = refl
              go true z =
                  absurd
                  (clash (marked_at w.ended w.log v.log marked row.n entry.0 row.f entry.1 row.at (same.change (ap log.is_pending pend)) z) row.crashed)

  -- A failed write that reaches a present entry has a number of its own.
  numbers_own : (n : ℕ) (o : LogEntry) (f g : Entry) → slice_get w.log n ≡ Some o → slice_get v.log n ≡ Some f → is_change o ≡ true → PresentOf w o.of →
      (r : LostPage) → Has r (owed past o.of.client o.of.file.server) → Hit w n f g → g.failed ≡ r.command → ⊥
  numbers_own n o f g at there ch p r i hit same =
      let life = ap (λ (l : Life). l.0) other in let low = row.over p.site p.there p.a p.has p.server in let mine = ap (λ (l : Life). l.0) p.life in
      omega (arith, life, low, mine)
    where
      row : RowAt w w v o.of.client o.of.file.server r
      row = rows o.of.client o.of.file.server r i

      s : IsSame o f
      s = let z = log_at n o at in subst (IsSame o) (some_is (sym z.1 ∙ there)) z.2

      by : (is_by hit.x.client f ≡ true) × (is_place (hit.y.file, hit.y.page) f.what ≡ true)
      by = and_true (is_by hit.x.client f) (is_place (hit.y.file, hit.y.page) f.what) hit.by

      place : (ch2 : Change) → ev.changes_page ch2 ≡ true → is_place (hit.y.file, hit.y.page) (ask_of o.of.file o.of.page ch2) ≡ true →
          same_place (hit.y.file, hit.y.page) (o.of.file, o.of.page) ≡ true
      place (changes.Write bytes) q h = h
      place (changes.Patch at2 bytes) q h = h
      place changes.Cut q h = cc q

      both : (same_file hit.y.file o.of.file ≡ true) × ((hit.y.page.0 == o.of.page.0) ≡ true)
      both =
          and_true (same_file hit.y.file o.of.file) (hit.y.page.0 == o.of.page.0)
          (place o.change ch (sym (ap (is_place (hit.y.file, hit.y.page)) s.what) ∙ by.1))

      own : writes.IsOf hit.x hit.y o.of
      own =
          touched past t b.stand b.opens b.entries b.ordered hit.k hit.x hit.d hit.y hit.issued hit.is hit.unreported hit.carries n o at ch p
          (let l = hit.low in omega (arith, l)) (client_is hit.x.client f.client by.0 ∙ s.client ch) (file_is hit.y.file o.of.file both.0)
          (ap (λ k. record { 0 = k }) (eqb-true hit.y.page.0 o.of.page.0 both.1))

      other : row.x.life ≡ o.of.life
      other =
          number_own past t b.stand b.opens b.entries hit.k hit.x hit.d hit.y hit.issued hit.is hit.unreported hit.carries o.of p own row.k row.x row.is
          row.client (row.starts ∙ ap (λ (z : WorldClient). z.starts) (some_is (sym row.there ∙ p.there))) (row.number ∙ (sym same ∙ hit.number))

  -- After the event's own steps.
  module _ (u : Volume) (own : AllOwn w e v u) (keeps : AllKeep ⊥ v.log u.log) where
    pub rows_on : (d : ClientId) → (e ≡ events.Crash (nodes.Client d) → ⊥) → (s : ServerId) (r : LostPage) → Has r (owed past d s) → RowAt w sc.world u d s r
    rows_on d calm s r i = by (own row.n y.0 y.1)
      where
        row : RowAt w w v d s r
        row = rows d s r i

        y : (g : Entry) × (slice_get u.log row.n ≡ Some g) × Keeps ⊥ row.f g
        y = kept_at ⊥ v.log u.log keeps row.n row.f row.at

        ends : (after : WorldClient) → site_of sc.world d ≡ Some after → (b2 : Association) → Has b2 after.node.state.associations → b2.server ≡ s →
            row.x.life.0 < b2.life.0
        ends after left b2 j its =
            let z =
            (goes_on w e sc lives d ((event_clients w e sc happened).sites d) row.site row.there row.runs calm after left).each b2 j in
            let low = row.over row.site row.there z.0 z.1 (z.2.0 ∙ its) in
            let up = z.2.1 in omega (arith, low, up)

        by : Was (Own w e row.n) v.log row.n y.0 → RowAt w sc.world u d s r
        by (inr z) = absurd (none_not_some row.f (sym z.0 ∙ row.at))
        by (inl (f, q, k)) =
            record {
              k = row.k;
              x = row.x;
              y = row.y;
              is = row.is;
              client = row.client;
              number = row.number;
              first = row.first;
              carries = row.carries;
              server = row.server;
              site = row.site;
              there = row.there;
              runs = row.runs;
              starts = row.starts;
              over = ends;
              born = row.born;
              shut = row.shut;
              n = row.n;
              index = row.index;
              f = y.0;
              at = y.1;
              by =
                  ap (λ what. (d.0 == y.0.client.0) && is_place (record { server = s; ino = r.ino }, r.page) what) (k.what ∙ ap (λ (h : Entry). h.what) same)
                  ∙ (ap (λ (h : ClientId). (d.0 == h.0) && is_place (record { server = s; ino = r.ino }, r.page) row.f.what)
                  (k.client ∙ ap (λ (h : Entry). h.client) same)
                  ∙ row.by);
              failed = failed k.failed ∙ row.failed;
              told = k.told ∙ (ap (λ (h : Entry). h.told) same ∙ row.told);
              crashed = crashed k.crashed ∙ row.crashed;
            }
          where
            same : f ≡ row.f
            same = some_is (sym q ∙ row.at)

            failed : (y.0.failed ≡ f.failed) ⊎ Hit w row.n f y.0 → y.0.failed ≡ row.f.failed
            failed (inl z) = z ∙ ap (λ (h : Entry). h.failed) same
            failed (inr z) = absurd (untouched d s r row y.0 (subst (λ h. Hit w row.n h y.0) same z))

            crashed : (y.0.crashed ≡ f.crashed) ⊎ ((c : ClientId) × (e ≡ events.Crash (nodes.Client c)) × (is_by c f ≡ true)) → y.0.crashed ≡ row.f.crashed
            crashed (inl z) = z ∙ ap (λ (h : Entry). h.crashed) same
            crashed (inr (c, z, m)) =
                absurd
                (calm
                (z ∙ ap (λ k2. events.Crash (nodes.Client k2))
                (client_is c f.client m ∙ (ap (λ (h : Entry). h.client) same
                ∙ sym (client_is d row.f.client (and_true (is_by d row.f) (is_place (record { server = s; ino = r.ino }, r.page) row.f.what) row.by).0)))))

    -- of entries of lives that are present after the event
    pub apart_on : (n : ℕ) (o : LogEntry) (g : Entry) → slice_get w.log n ≡ Some o → slice_get u.log n ≡ Some g → is_change o ≡ true →
        PresentOf sc.world o.of → (r : LostPage) → Has r (owed past o.of.client o.of.file.server) → g.failed ≡ r.command → ⊥
    apart_on n o g at there ch p r i same = by (own n g there)
      where
        p0 : PresentOf w o.of
        p0 =
            (present_before w e sc lives o.of (has_map_in owner_of w.log o (get_has w.log n o at)) p
            ((event_clients w e sc happened).sites o.of.client)).was

        by : Was (Own w e n) v.log n g → ⊥
        by (inr z) =
            let first = (rows o.of.client o.of.file.server r i).first in let none = z.1.failed in omega (arith, first, none, same)
        by (inl (f, q, k)) = how k.failed
          where
            how : (g.failed ≡ f.failed) ⊎ Hit w n f g → ⊥
            how (inl z) = apart n o f at q ch p0 r i (sym z ∙ same)
            how (inr z) = numbers_own n o f g at q ch p0 r i z same

    pub fresh_on : (n : ℕ) (g : Entry) → slice_get w.log n ≡ None → slice_get u.log n ≡ Some g → g.failed ≡ 0
    fresh_on n g at there = by (own n g there)
      where
        by : Was (Own w e n) v.log n g → g.failed ≡ 0
        by (inr z) = z.1.failed
        by (inl (f, q, k)) = absurd (no_log n f at q)

    pub over_on : ((c : ClientId) → e ≡ events.Crash (nodes.Client c) → ⊥) → (n : ℕ) (o : LogEntry) (g : Entry) → slice_get w.log n ≡ Some o →
        slice_get u.log n ≡ Some g → is_change o ≡ true → g.crashed ≡ true → is_over w.ended o.of ≡ true
    over_on calm n o g at there ch z = by (own n g there)
      where
        by : Was (Own w e n) v.log n g → is_over w.ended o.of ≡ true
        by (inr k) = absurd (none_not_some (log_at n o at).0 (sym k.0 ∙ (log_at n o at).1))
        by (inl (f, q, k)) = how k.crashed
          where
            how : (g.crashed ≡ f.crashed) ⊎ ((c : ClientId) × (e ≡ events.Crash (nodes.Client c)) × (is_by c f ≡ true)) → is_over w.ended o.of ≡ true
            how (inl y) = over_at w.ended w.log v.log over n o f at q ch (sym y ∙ z)
            how (inr (c, y, m)) = absurd (calm c y)

    -- each entry stays told or untold
    pub told_on : (n : ℕ) (o : LogEntry) (g : Entry) → slice_get w.log n ≡ Some o → slice_get u.log n ≡ Some g →
        (f : Entry) × (slice_get v.log n ≡ Some f) × (g.told ≡ f.told)
    told_on n o g at there = by (own n g there)
      where
        by : Was (Own w e n) v.log n g → (f : Entry) × (slice_get v.log n ≡ Some f) × (g.told ≡ f.told)
        by (inr k) = absurd (none_not_some (log_at n o at).0 (sym k.0 ∙ (log_at n o at).1))
        by (inl (f, q, k)) = (f, q, k.told)
