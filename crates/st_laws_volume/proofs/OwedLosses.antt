-- The line of a loss, and all lines of a step of a client: which pages are owed after them.
use Rattle.st_lemmas.proofs.Words
use Words.{◌≡◌, ◌≤◌, ◌<◌, ◌⊎◌, ℕ, zero, suc, Bool, true, false, ◌&&◌, ◌==◌, List, [], ◌∷◌, ◌++◌, Option, Some, None, Ok, refl, sym, ap, ◌∙◌, subst, inl, inr, arith, if◌then◌else◌}
use Words.{append_assoc, append-nil, eq-eqb, eqb-true, find, list_all, list_any, slice_get, ClientId, Event, FileId, Life, PageNo, ServerId, Stamp, AppAnswer, Ask, Command}
use Words.{Carried, DirtyPage, LogEntry, LogOwner, LostPage, Observation}
use Words.answers
use Words.asks
use Words.commands
use Words.nodes
use Words.seen
use Words.ClientPages as pages
use Words.ClientState.{Association, is_at}
use Words.Events as ev
use Words.Events.{WorldTurn, is_change, last_write, latest, world_step}
use Words.History.{Traced, association_at, association_of}
use Words.Keys.{same_client, same_server}
use Words.Lines as lines
use Words.Lines.{IsLogTold}
use Words.Lists.{Has}
use Words.Lookups.{some_is}
use Words.Members.{some_member_passes}
use Words.Numbers.{get_has, numbered_below}
use Words.Safety.{Step, ask_of, reports_failure, step}
use Words.Tables.{and_both, and_true, has_map_in, some_passes}
use Words.Truth.{client_is, clash, none_not_some}
use Words.World as world
use Words.World.{World, WorldClient, clock_of, numbered, site_of}
use Rattle.st_lemmas.proofs.Marks.{of_entry}
use Rattle.st_lemmas.proofs.Members.{has_left}
use Rattle.st_promises.specs.Losses.{AreLossesTold, IsLossTold, owed, owed_page, with_dirty, writer, writes_page}
use Rattle.st_laws_steps.specs.Client.Losses.{is_ended}
use Rattle.st_laws_steps.specs.Lives.Lives.{LifeNext, LivesHold, NodeHolds, owner_of}
use Rattle.st_laws_steps.proofs.Lives.Associations.{own_found}
use Rattle.st_laws_pages.specs.Disks.Folds.{owner_at}
use Rattle.st_laws_pages.specs.Disks.Obligations.{FatesHold}
use Rattle.st_laws_pages.specs.Flush.Flush.{Cared, LastFailed, file_at, owner_at_page}
use Rattle.st_laws_pages.proofs.Asks.World.{asks_of}
use Rattle.st_laws_volume.specs.DirtyPages.{WasDirty, is_change_of}
use Rattle.st_laws_volume.specs.HardFiles.{after_lines}
use Rattle.st_laws_volume.specs.Logs.{IsLogOf, IsSame}
use Rattle.st_laws_volume.specs.LossMarks.{AllOnce, AreMet, HasFailed, IsLate, LateFailed}
use Rattle.st_laws_volume.specs.Options.{OnSome}
use Rattle.st_laws_volume.specs.Seen.{of_line, of_event}
use Rattle.st_laws_volume.specs.StepKinds.{AtEachStep}
use Rattle.st_laws_volume.specs.Witness.{Witness, before_line, of_lines}
use Rattle.st_laws_volume.specs.Asks.{at_site}
use Rattle.st_laws_volume.proofs.AnswerLines.{AllAsked, comes_to}
use Rattle.st_laws_volume.proofs.AskedAsks.{AreOf, Asked}
use Rattle.st_laws_volume.proofs.CrashedLives.{is_over, past_of}
use Rattle.st_laws_volume.proofs.EntryMarks as marks
use Rattle.st_laws_volume.proofs.EntryMarks.{TellsOf, hard_sync, hard_tells, lost_sync, lost_tells, told_hard, told_lost}
use Rattle.st_laws_volume.proofs.EventAnswers.{Stepping}
use Rattle.st_laws_volume.proofs.EventClients.{SiteStep}
use Rattle.st_laws_volume.proofs.FailedWrites.{changed}
use Rattle.st_laws_volume.proofs.FailureLives.{PresentOf, life_upto}
use Rattle.st_laws_volume.proofs.FailureTouches.{Shut}
use Rattle.st_laws_volume.proofs.FailureWrites as writes
use Rattle.st_laws_volume.proofs.FailureWrites.{last_of}
use Rattle.st_laws_volume.proofs.FateCrashes.{MarksOf}
use Rattle.st_laws_volume.proofs.FateSeen.{tells_none, gives_fates}
use Rattle.st_laws_volume.proofs.HardAnswers as hard
use Rattle.st_laws_pages.proofs.Causes.HardSeen.{told_both}
use Rattle.st_laws_pages.proofs.Asks.Client.{key}
use Rattle.st_laws_volume.proofs.LossesMet.{MetHold}
use Rattle.st_laws_volume.proofs.LossesOnce.{answer_mine, loss_mine, loss_once, loss_over, IsOver}
use Rattle.st_laws_volume.proofs.LossLines as loss
use Rattle.st_laws_volume.proofs.LossLines.{RowsAt, is_loss_of, rows_last}
use Rattle.st_laws_volume.proofs.OpenAnswers.{at_both, block}
use Rattle.st_laws_volume.proofs.Options.{on_more}
use Rattle.st_laws_volume.proofs.ChangeLines.{on_both}
use Rattle.st_laws_volume.proofs.LogLines.{run_then}
use Rattle.st_laws_volume.proofs.OwedEntries.{RowAt, block_tells}
use Rattle.st_laws_volume.proofs.OwedRows.{has_owing}
use Rattle.st_laws_volume.proofs.PresentLives.{stepped}
use Rattle.st_laws_volume.proofs.QuietAnswers.{step_calm, InFirst, InRest, order_at, where_is}
use Rattle.st_laws_volume.proofs.SyncsWait.{AllWait}
use Rattle.st_laws_volume.proofs.AskClient.{coming}
use Rattle.st_laws_volume.proofs.AskSteps.{told_all}
use Rattle.st_laws_volume.proofs.LossOrder.{AfterLoss, InOrder, Ordered, ordered}
use Rattle.st_volume.specs.declared.step.VolumeStep.{VolumeStep}
use Rattle.st_volume.specs.Pages.{Entry, is_at as is_place, is_by, is_by_at, same_place}
use Rattle.st_volume.specs.Volume.{Volume, run}
use Rattle.st_rules.specs.ClientState.{server_of}
use Rattle.st_rules.specs.declared.log.Change.{Change}
use Rattle.std.specs.Prelude.{map, option_map}
use Rattle.st_laws_volume.proofs.ListTests.{any_before, any_front, any_parts, found_in}
use Rattle.st_laws_volume.proofs.OwedLines as owing
use Rattle.st_laws_volume.proofs.OwedLines.{after_end, is_sync_to, line_false, once_found, sync_is}

module _ (past : List Step) (t : Traced) (e : Event) (sc : WorldTurn) (happened : world_step t.world e ≡ Ok sc) (it : Witness) (held : MetHold past t it)
    (later : FatesHold sc.world) (v : Volume) (a : IsLogOf t.world.log v) (right : AreOf (asks_of past) v) (marked : MarksOf t.world v)
    (met : AreMet (owed past) (IsLate t.world) t.world.log v) (wait : AllWait v) (whole : IsLogTold sc.world t.world.log sc.seen)
    (r : Stepping t.world e sc) (s : SiteStep t.world sc r.client) where
  abbrev w : World
  w = t.world

  abbrev x' : Step
  x' = step t e sc

  abbrev as_ : Asked
  as_ = asks_of (past ++ x' ∷ [])

  abbrev c : ClientId
  c = r.client

  lives : LivesHold w
  lives = held.failures.stand.stand.fates.lives

  abbrev calm : gives_fates e ≡ false
  calm = step_calm w e c r.site r.input r.takes

  abbrev State : List Observation → List Observation → List LogEntry → Volume → Type 0
  State = owing.State past t e sc happened it held later v a right marked met wait whole r s

  abbrev J : List Observation → List LogEntry → Volume → Type 0
  J = owing.J past t e sc happened it held later v a right marked met wait whole r s

  abbrev now : Stamp
  now = clock_of w (nodes.Client c)

  abbrev answers_sync : ServerId → Observation → Bool
  answers_sync = owing.answers_sync past t e sc happened it held later v a right marked met wait whole r s

  abbrev flag : ServerId → ℕ → PageNo → List Observation → Bool
  flag n ino p done = after_lines (ask_of past x' c) c n ino p false done

  born : 1 ≤ c.0
  born = (numbered_below w.clients c.0 s.site s.there).0

  -- A line that marks nothing.
  plain_block : (done : List Observation) (o : Observation) (os : List Observation) (es : List LogEntry) (u : Volume) → State done (o ∷ os) es u →
      loss.is_plain past x' o ≡ true → list_all marks.is_plain (block w o os) ≡ true → tells_none o ≡ true →
      lines.log_told sc.world w.log done ≡ es → list_all tells_none done ≡ true → J done es u →
      OnSome (J (done ++ o ∷ []) (lines.log_behind sc.world es o)) (run (block w o os) u)
  plain_block done o os es u st = owing.plain_block past t e sc happened it held later v a right marked met wait whole r s done (o ∷ os) es u st o os

  module _ (done rest : List Observation) (es : List LogEntry) (u : Volume) (st : State done rest es u) where
    -- The line of a loss: each page that is dirty there is owed.
    module _ (os : List Observation) (d : ClientId) (n : ServerId) (life : Life) (q : done ++ seen.Lost d n life ∷ os ≡ sc.seen) (late_failed : LateFailed w)
        (once : AllOnce w)
        (all : AllAsked w e as_) (same_log : lines.log_told sc.world w.log done ≡ es) (none : list_all tells_none done ≡ true) (j : J done es u) where
      abbrev this_line : Observation
      this_line = seen.Lost d n life

      mine : d ≡ c
      mine = loss_mine w sc lives c s d n life done os q

      alone : list_any (is_loss_of c n) done ≡ false
      alone = subst (λ k. list_any (is_loss_of k n) done ≡ false) mine (loss_once w sc lives c s d n life done os q)

      abbrev lost : IsOver c s.site.node.state now n.0 s.site.node.state.associations
      lost = loss_over w sc lives c s d n life done os q

      abbrev b : Association
      b = lost.a

      server : b.server ≡ n
      server = ap (λ k. record { 0 = k }) lost.its

      node : NodeHolds w.config w.clocks w.ended c s.site.node
      node = lives.lives.sites c s.site s.there

      place : find (is_at n) s.site.node.state.associations ≡ Some b
      place = ap (λ k. find (is_at k) s.site.node.state.associations) (sym server) ∙ own_found s.site.node.state.associations node.once b lost.has

      -- no sync of the server was answered before
      abbrev start : List (ℕ × Ask)
      start =
          map key r.site.node.state.operations
          ++ coming r.input

      order : Ordered w c r.site.node.state r.input start sc.seen
      order = ordered w e sc r (lives.lives.sites c r.site r.at).fit start refl

      starts : (k : ℕ × Ask) → Has k start → world.numbered (as_ c) k.0 ≡ Some k.1
      starts k i =
          all c k
          (subst (Has k)
          (sym (ap (λ o. (told_all c (of_event w e)
          (at_site o)).pending) r.at
          ∙ comes_to w e c r.site r.input r.takes)) i)

      none_before : (o : LogOwner) → o.client ≡ c → o.file.server ≡ n → IsLate w o → list_any (answers_sync n) done ≡ false
      none_before o own at late = go (list_any (answers_sync n) done) refl
        where
          loss_in : (xs ys : List Observation) → xs ++ ys ≡ done → list_any (is_loss_of c n) xs ≡ false
          loss_in xs ys z = any_front (is_loss_of c n) xs ys (ap (list_any (is_loss_of c n)) z ∙ alone)

          after : (front : List Observation) (k : ClientId) (op : ℕ) (answer : AppAnswer) (f : FileId) → k ≡ c → ask_of past x' k op ≡ Some (asks.Sync f) →
              f.server.0 ≡ n.0 → list_any (is_loss_of c n) front ≡ false → AfterLoss w c front op answer → ⊥
          after front k op answer f same is on non z =
              clash (subst (λ (y : ServerId). list_any (is_loss_of c y) front ≡ true) its z.told) non
            where
              among : Has z.operation r.site.node.state.operations
              among = subst (λ (y : WorldClient). Has z.operation y.node.state.operations) (some_is (sym z.at ∙ r.at)) z.among

              words : z.operation.ask ≡ asks.Sync f
              words =
                  some_is
                  (sym
                  (starts (key z.operation)
                  (has_left
                  (map key r.site.node.state.operations)
                  (coming r.input) (key z.operation)
                  (has_map_in key r.site.node.state.operations z.operation among)))
                  ∙ (ap (world.numbered (as_ c)) z.is ∙ (ap (λ y. world.numbered (as_ y) op) (sym same) ∙ is)))

              its : z.a.server ≡ n
              its =
                  ap (λ k. record { 0 = k })
                  (sym (eqb-true (server_of z.operation.ask).0 z.a.server.0 z.own)
                  ∙ (ap (λ (y : Ask). (server_of y).0) words ∙ on))

          to_sync : (k : ClientId) (op : ℕ) (o : Option Ask) → ask_of past x' k op ≡ o → is_sync_to n o ≡ true →
              (f : FileId) × (ask_of past x' k op ≡ Some (asks.Sync f)) × (f.server.0 ≡ n.0)
          to_sync k op (Some (asks.Sync f)) z p = (f, z, eqb-true f.server.0 n.0 p)
          to_sync k op None z p = cc p
          to_sync k op (Some (asks.Write f g bytes)) z p = cc p
          to_sync k op (Some (asks.Patch f g at bytes)) z p = cc p
          to_sync k op (Some (asks.Read f g)) z p = cc p
          to_sync k op (Some (asks.Cut f g)) z p = cc p
          to_sync k op (Some (asks.Name g ask)) z p = cc p

          at_line : (front back : List Observation) (x : Observation) → done ≡ front ++ x ∷ back → answers_sync n x ≡ true → ⊥
          at_line front back (seen.Answered k op answer) is p = go2 (where_is order.first order.rest front
              (seen.Answered k op answer) (back ++ this_line ∷ os)
              (sym (append_assoc front (seen.Answered k op answer ∷ back) (this_line ∷ os)) ∙ (ap (λ xs. xs ++ this_line ∷ os) (sym is) ∙ (q ∙ order.is))))
            where
              f : (f : FileId) × (ask_of past x' k op ≡ Some (asks.Sync f)) × (f.server.0 ≡ n.0)
              f = to_sync k op (ask_of past x' k op) refl p

              non : list_any (is_loss_of c n) front ≡ false
              non = loss_in front (seen.Answered k op answer ∷ back) (sym is)

              go2 : InFirst order.first front (seen.Answered k op answer)
                  ⊎ InRest order.first order.rest front (seen.Answered k op answer) (back ++ this_line ∷ os) → ⊥
              go2 (inl (post, i)) =
                  let z =
                  order_at w c [] front post (seen.Answered k op answer)
                  (subst (InOrder w c []) i order.order) in
                  after front k op answer f.0 z.0 f.1 f.2 non z.1
              go2 (inr (pre, i, k2)) =
                  clash (subst (λ (y : ServerId). list_any (is_loss_of c y) order.first ≡ true) at (order.losses o own late))
                  (any_front (is_loss_of c n) order.first pre (ap (list_any (is_loss_of c n)) (sym i) ∙ non))
          at_line front back (seen.Wrote m k f g bytes) is p = cc p
          at_line front back (seen.Patched m k f g at bytes) is p = cc p
          at_line front back (seen.CutAt m f g) is p = cc p
          at_line front back (seen.Hardened m) is p = cc p
          at_line front back (seen.Dropped m cause) is p = cc p
          at_line front back (seen.Sent k m) is p = cc p
          at_line front back (seen.Submitted k m number what) is p = cc p
          at_line front back (seen.Leased k m end) is p = cc p
          at_line front back (seen.Lost k m l) is p = cc p
          at_line front back (seen.Suspected k m l) is p = cc p
          at_line front back (seen.Stolen k m l) is p = cc p

          go : (k : Bool) → list_any (answers_sync n) done ≡ k → k ≡ false
          go false z = refl
          go true z = let y = found_in (answers_sync n) done z in absurd (at_line y.front y.back y.it y.is y.passes)

      -- One page: the entry that its last write carried.
      module _ (x : DirtyPage) (i : Has x b.store.pages.dirty) where
        dirty : pages.dirty_of b.store.pages x.ino x.page ≡ Some x
        dirty = once_found b.store.pages.dirty (once c s.site s.there b lost.has) x i

        failed : HasFailed b x
        failed = late_failed c s.site s.there s.runs b lost.has lost.over x.ino x.page x dirty

        abbrev number : ℕ
        number = failed.0.0

        owner : LogOwner
        owner = owner_at_page c b x.ino x.page

        cared : Cared past w.commands w.log c s.site.starts s.site.node.state.next_command b
        cared = (held.failures.stand.stand.both.flush.sites c s.site s.there s.runs).cared b lost.has

        last : LastFailed past w.commands w.log (owner_at_page c b x.ino x.page) number
        last = go (cared.failed x.ino x.page x number dirty failed.0.1.0)
          where
            go : (pages.is_being_written b.store.commands x.ino x.page ≡ true) ⊎ LastFailed past w.commands w.log (owner_at_page c b x.ino x.page) number →
                LastFailed past w.commands w.log (owner_at_page c b x.ino x.page) number
            go (inr z) = z
            go (inl z) =
                let m = some_member_passes (pages.is_write_of x.ino x.page) b.store.commands z in
                absurd
                (clash (some_passes pages.is_any_write b.store.commands m.0 m.1 (and_true (pages.is_write m.0.kind) _ m.2).0) failed.1)

        y : Carried
        y = record { file = file_at b x.ino; page = x.page; index = latest w.log c (file_at b x.ino) x.page }

        late : IsLate w (owner_at_page c b x.ino x.page)
        late =
            record {
              site = s.site;
              there = s.there;
              runs = s.runs;
              a = b;
              place = ap (λ k. find (is_at k) s.site.node.state.associations) server ∙ place;
              over = lost.over;
              page = x;
              dirty = dirty;
            }

        of : writes.IsOf last.command y (owner_at_page c b x.ino x.page)
        unfolding y
        of = last_of (owner_at_page c b x.ino x.page) w.commands (last_write w.commands (owner_at_page c b x.ino x.page)) last.command y last.is last.carries
            refl

        -- the entry
        record Entry0 : Type 0 where
          m : ℕ
          index : latest w.log c (file_at b x.ino) x.page ≡ suc m
          o : LogEntry
          at : slice_get w.log m ≡ Some o
          own : o.of ≡ owner_at_page c b x.ino x.page

        entry0 : Entry0
        entry0 = go (latest w.log c (file_at b x.ino) x.page) refl
            (held.failures.stand.stand.both.writes.latest_own c s.site s.there s.runs b lost.has x.ino x.page x dirty)
          where
            at_place : (m : ℕ) → latest w.log c (file_at b x.ino) x.page ≡ suc m → (o : Option LogEntry) → slice_get w.log m ≡ o →
                option_map of_entry o ≡ Some (owner_at_page c b x.ino x.page) → Entry0
            at_place m z None k h = cc h
            at_place m z (Some o) k h = record { m = m; index = z; o = o; at = k; own = some_is h }

            go : (k : ℕ) → latest w.log c (file_at b x.ino) x.page ≡ k → owner_at w.log k ≡ Some (owner_at_page c b x.ino x.page) → Entry0
            go zero z h = cc h
            go (suc m) z h = at_place m z (slice_get w.log m) refl h

        present : PresentOf w entry0.o.of
        unfolding entry0
        present =
            subst (PresentOf w) (sym entry0.own)
            (record {
              site = s.site;
              there = s.there;
              runs = s.runs;
              a = b;
              has = lost.has;
              place = ap (λ k. find (is_at k) s.site.node.state.associations) server ∙ place;
              server = refl;
              life = refl;
            })

        change : is_change entry0.o ≡ true
        change =
            changed w.log entry0.m entry0.o held.failures.stand.entries.cuts entry0.at (subst (λ (k : LogOwner). 1 ≤ k.client.0) (sym entry0.own) born)
            (is_change entry0.o) refl

        f : (f : Entry) × (slice_get u.log entry0.m ≡ Some f)
        f = owing.old_there past t e sc happened it held later v a right marked met wait whole r s done rest es u st entry0.m entry0.o entry0.at

        same : IsSame entry0.o f.0
        same =
            owing.same_here past t e sc happened it held later v a right marked met wait whole r s done rest es u st entry0.m entry0.o f.0
            (owing.still_es past t e sc happened it held later v a right marked met wait whole r s done rest es u st entry0.m entry0.o entry0.at same_log none) f.1

        marked0 : (f.0.failed ≡ last.command.number) × (last.command.starts ≡ present.site.starts)
        unfolding y
        marked0 =
            j.marks entry0.m entry0.o f.0 entry0.at f.1 present last.command y change
            (ap (λ k. numbered w.commands (last_write w.commands k)) entry0.own ∙ last.is) last.carries
            (inr (let z = entry0.index in omega (arith, z))) (ap (λ k. list_any (reports_failure (last_write w.commands k)) past) entry0.own ∙ last.told)

        starts_same : last.command.starts ≡ s.site.starts
        starts_same =
            marked0.1
            ∙ ap (λ (k : WorldClient). k.starts)
            (some_is (sym present.there ∙ (ap (λ (k : LogOwner). site_of w k.client) entry0.own ∙ s.there)))

        untold : f.0.told ≡ false
        untold =
            j.late b lost.has lost.over x.ino x.page x dirty entry0.m entry0.o f.0 entry0.at f.1 entry0.index entry0.own
            (ap (λ k. list_any (answers_sync k) done) server ∙ none_before (owner_at_page c b x.ino x.page) refl server late)

        uncrashed : f.0.crashed ≡ false
        uncrashed = go f.0.crashed refl
          where
            go : (k : Bool) → f.0.crashed ≡ k → k ≡ false
            go false z = refl
            go true z =
                let over = j.over entry0.m entry0.o f.0 entry0.at f.1 change z in
                let low =
                past_of w lives (owner_at_page c b x.ino x.page) (ap (is_over w.ended) (sym entry0.own) ∙ over) s.site b s.there s.runs
                (ap (λ k. find (is_at k) s.site.node.state.associations) server ∙ place) in
                absurd (omega (arith, low))

        over_after : (after : WorldClient) → site_of sc.world c ≡ Some after → (b2 : Association) → Has b2 after.node.state.associations → b2.server ≡ n →
            last.command.life.0 < b2.life.0
        over_after after there b2 i2 its =
            by (stepped w e sc lives c s b2 (subst (λ (k : WorldClient). Has b2 k.node.state.associations) (some_is (sym there ∙ s.left)) i2))
          where
            by : (k : Association) × Has k s.site.node.state.associations × LifeNext now s.site.node.state k b2 → last.command.life.0 < b2.life.0
            by (k, ik, next) =
                let same_k : k ≡ b =
                some_is
                (sym (own_found s.site.node.state.associations node.once k ik)
                ∙ (ap (λ z. find (is_at z) s.site.node.state.associations) (next.server ∙ its) ∙ place)) in
                let z = ap (λ (l : Life). l.0) (next.lost (ap (λ (h : Association). is_ended s.site.node.state.config now h.session) same_k ∙ lost.over)) in
                let own = ap (λ (l : Life). l.0) of.life in
                let up = ap (λ (h : Association). h.life.0) same_k in omega (arith, z, own, up)

        shut : Shut w c n last.command.life
        shut k x2 d2 y2 at unreported carries client on life2 = by d2.what refl
          where
            by : (what : Command) → d2.what ≡ what → ⊥
            by (commands.Read at2) z =
                none_not_some y2 (sym (held.failures.stand.stand.both.writes.commands.reads k x2 d2 at2 at.0 at.1 z) ∙ carries)
            by (commands.Write at2 tag bytes) z =
                let l =
                held.failures.stand.opens c s.site s.there s.runs b lost.has k x2 d2 at2 tag bytes at.0 at.1 z unreported client (on ∙ sym server)
                (life2 ∙ of.life) in
                clash
                (some_passes pages.is_any_write b.store.commands l.listed.command l.listed.here (ap pages.is_write l.listed.kind)) failed.1

        by_row : is_by_at c (record { server = n; ino = x.ino }, x.page) f.0 ≡ true
        by_row =
            and_both (is_by c f.0) (is_place (record { server = n; ino = x.ino }, x.page) f.0.what)
            (eq-eqb c.0 f.0.client.0 (ap (λ (k : ClientId). k.0) (sym (same.client change ∙ ap (λ (k : LogOwner). k.client) entry0.own))))
            (ap (is_place (record { server = n; ino = x.ino }, x.page)) same.what
            ∙ at_change entry0.o.change change)
          where
            matches : same_place (record { server = n; ino = x.ino }, x.page) (entry0.o.of.file, entry0.o.of.page) ≡ true
            matches =
                subst (λ (k : LogOwner). same_place (record { server = n; ino = x.ino }, x.page) (k.file, k.page) ≡ true) (sym entry0.own)
                (and_both ((n.0 == b.server.0) && (x.ino == x.ino)) (x.page.0 == x.page.0)
                (and_both (n.0 == b.server.0) (x.ino == x.ino) (eq-eqb n.0 b.server.0 (sym lost.its)) (eq-eqb x.ino x.ino refl))
                (eq-eqb x.page.0 x.page.0 refl))

            at_change : (ch : Change) → ev.changes_page ch ≡ true →
                is_place (record { server = n; ino = x.ino }, x.page)
                (Rattle.st_laws_volume.specs.Logs.ask_of entry0.o.of.file entry0.o.of.page ch) ≡ true
            at_change (Words.changes.Write bytes) z = matches
            at_change (Words.changes.Patch at bytes) z = matches
            at_change Words.changes.Cut z = cc z

        command_is : (owed_page b.store.commands x).command ≡ number
        command_is = ap (λ o. writer o (find (writes_page x) b.store.commands)) failed.0.1.0

        new_row : RowAt w sc.world u c n (owed_page b.store.commands x)
        unfolding y
        new_row =
            record {
              k = last_write w.commands (owner_at_page c b x.ino x.page);
              x = last.command;
              y = y;
              is = last.is;
              client = of.client;
              number = last.number_is ∙ sym command_is;
              first = subst (λ k. 1 ≤ k) (sym command_is) last.first;
              carries = last.carries;
              server = server;
              site = s.site;
              there = s.there;
              runs = s.runs;
              starts = starts_same;
              over = over_after;
              born = let z = ap (λ (l : Life). l.0) of.life in let y = node.born b lost.has in omega (arith, z, y);
              shut = shut;
              n = entry0.m;
              index = entry0.index;
              f = f.0;
              at = f.1;
              by = by_row;
              failed = marked0.0 ∙ (last.number_is ∙ sym command_is);
              told = untold;
              crashed = uncrashed;
            }

      abbrev New : ClientId → ServerId → LostPage → Type 0
      New k m y = (k ≡ c) × ((m ≡ n) × ((x : DirtyPage) × Has x b.store.pages.dirty × (y ≡ owed_page b.store.commands x)))

      -- what is owed after the line
      joined : (k : ClientId) (m : ServerId) (y : LostPage) → Has y (RowsAt past x' (done ++ this_line ∷ []) k m) →
          Has y (RowsAt past x' done k m) ⊎ ((k ≡ c) × ((m ≡ n) × ((x : DirtyPage) × Has x b.store.pages.dirty × (y ≡ owed_page b.store.commands x))))
      joined k m y i = go (same_client d k && same_server n m) refl (subst (Has y) (rows_last past x' done this_line k m) i)
        where
          go : (z : Bool) → (same_client d k && same_server n m) ≡ z →
              Has y (if z then with_dirty (association_of w k m) (RowsAt past x' done k m) else RowsAt past x' done k m) →
              Has y (RowsAt past x' done k m) ⊎ ((k ≡ c) × ((m ≡ n) × ((x : DirtyPage) × Has x b.store.pages.dirty × (y ≡ owed_page b.store.commands x))))
          go false z h = inl h
          go true z h =
              let p = and_true (same_client d k) (same_server n m) z in
              let k_is : k ≡ c = sym (client_is d k p.0) ∙ mine in
              let m_is : m ≡ n = ap (λ o. record { 0 = o }) (sym (eqb-true n.0 m.0 p.1)) in
              let found : association_of w k m ≡ Some b =
              ap (λ o. association_of w o m) k_is ∙ (ap (association_of w c) m_is ∙ (ap (association_at n) s.there ∙ place)) in
              more k_is m_is (has_owing b.store.commands b.store.pages.dirty (RowsAt past x' done k m) y
              (subst (λ o. Has y (with_dirty o (RowsAt past x' done k m))) found h))
            where
              more : k ≡ c → m ≡ n → Has y (RowsAt past x' done k m) ⊎ ((x : DirtyPage) × Has x b.store.pages.dirty × (y ≡ owed_page b.store.commands x)) →
                  Has y (RowsAt past x' done k m) ⊎ ((k ≡ c) × ((m ≡ n) × ((x : DirtyPage) × Has x b.store.pages.dirty × (y ≡ owed_page b.store.commands x))))
              more p1 p2 (inl o) = inl o
              more p1 p2 (inr o) = inr (p1, (p2, o))

      loss_line : J (done ++ this_line ∷ []) es u
      loss_line =
          record {
            rows = λ k m y i. row k m y (joined k m y i);
            apart = λ m o g at there ch p y i same. apart m o g at there ch p y (joined o.of.client o.of.file.server y i) same;
            marks = j.marks;
            fresh = j.fresh;
            over = j.over;
            others = j.others;
            late = λ b2 i over ino p x dirty m o g at there lat own non.
                j.late b2 i over ino p x dirty m o g at there lat own (any_parts (answers_sync b2.server) done this_line non).0;
            live = λ b2 i ino p x dirty m o g at there lat own clean was.
                j.live b2 i ino p x dirty m o g at there lat own
                (line_false (ask_of past x' c) c b2.server ino p (flag b2.server ino p done) this_line
                (sym (after_end (ask_of past x' c) c b2.server ino p false done this_line) ∙ clean) refl)
                (before b2 ino p was);
          }
        where
          before : (b2 : Association) (ino : ℕ) (p : PageNo) →
              WasDirty w c b2 ino p ⊎ (list_any (is_change_of c b2.server ino p) (done ++ this_line ∷ []) ≡ true) →
              WasDirty w c b2 ino p ⊎ (list_any (is_change_of c b2.server ino p) done ≡ true)
          before b2 ino p (inl z) = inl z
          before b2 ino p (inr z) = inr (any_before (is_change_of c b2.server ino p) done this_line z refl)

          row : (k : ClientId) (m : ServerId) (y : LostPage) → Has y (RowsAt past x' done k m) ⊎ New k m y → RowAt w sc.world u k m y
          row k m y (inl i) = j.rows k m y i
          row k m y (inr (k_is, (m_is, (x, i, y_is)))) =
              subst (λ k2. RowAt w sc.world u k2 m y) (sym k_is)
              (subst (λ m2. RowAt w sc.world u c m2 y) (sym m_is) (subst (RowAt w sc.world u c n) (sym y_is) (new_row x i)))

          apart : (m : ℕ) (o : LogEntry) (g : Entry) → slice_get es m ≡ Some o → slice_get u.log m ≡ Some g → is_change o ≡ true → PresentOf sc.world o.of →
              (y : LostPage) → Has y (RowsAt past x' done o.of.client o.of.file.server) ⊎ New o.of.client o.of.file.server y → g.failed ≡ y.command → ⊥
          apart m o g at there ch p y (inl i) z = j.apart m o g at there ch p y i z
          apart m o g at there ch p y (inr (k_is, (m_is, (x, i, y_is)))) z = old (slice_get w.log m) refl
            where
              new : RowAt w sc.world u c n (owed_page b.store.commands x)
              new = new_row x i

              old : (k : Option LogEntry) → slice_get w.log m ≡ k → ⊥
              old None h =
                  let zero_ = j.fresh m g h there in
                  let first = new.first in
                  let same_y = ap (λ (k : LostPage). k.command) y_is in omega (arith, zero_, first, z, same_y)
              old (Some k) h =
                  let same_k : k ≡ o = some_is (sym (owing.still_es past t e sc happened it held later v a right marked met wait whole r s done rest es u st m k h same_log none) ∙ at) in
                  let low =
                  life_upto w lives k.of (has_map_in owner_of w.log k (get_has w.log m k h)) s.site
                  (ap (λ (l : LogEntry). site_of w l.of.client) same_k ∙ (ap (site_of w) k_is ∙ s.there)) b
                  (ap (λ (l : LogEntry). find (is_at l.of.file.server) s.site.node.state.associations) same_k
                  ∙ (ap (λ l. find (is_at l) s.site.node.state.associations) m_is ∙ place)) in
                  let up = over_after x i p.site (sym (ap (site_of sc.world) k_is) ∙ p.there) p.a p.has (p.server ∙ m_is) in
                  let own = ap (λ (l : Life). l.0) p.life in
                  let its = ap (λ (l : LogEntry). l.of.life.0) same_k in
                  let was = ap (λ (l : Life). l.0) (of x i).life in omega (arith, low, up, own, its, was)

  -- One line.
  module _ (late_failed : LateFailed w) (once : AllOnce w) (all : AllAsked w e as_) where
    pub block_J : (done : List Observation) (o : Observation) (os : List Observation) (es : List LogEntry) (u : Volume) → done ++ o ∷ os ≡ sc.seen →
        tells_none o ≡ true → list_all tells_none done ≡ true → lines.log_told sc.world w.log done ≡ es → IsLossTold past x' done o →
        State done (o ∷ os) es u → J done es u → OnSome (J (done ++ o ∷ []) (lines.log_behind sc.world es o)) (run (block w o os) u)
    unfolding before_line of_line lines.log_behind run
    block_J done (seen.Answered d op answers.Hard) os es u q z n g l st j =
        on_more (TellsOf d op answers.Hard told_hard u) (J (done ++ seen.Answered d op answers.Hard ∷ []) es)
        (λ y k.
        let f = sync_is k.ask.ask (hard_sync u k.ask k.so) in
        owing.moved past t e sc happened it held later v a right marked met wait whole r s done (seen.Answered d op answers.Hard ∷ os) es u st (seen.Answered d op answers.Hard) (told_hard k.ask) y z g n
        (block_tells (told_hard k.ask) u y k.log)
        (owing.hard_lets past t e sc happened it held later v a right marked met wait whole r s done (seen.Answered d op answers.Hard ∷ os) es u st d op
        (answer_mine w sc lives c s d op answers.Hard done os q) k.ask k.found f.0 f.1 l) j)
        (run (block w (seen.Answered d op answers.Hard) os) u) (hard_tells d op u)
    block_J done (seen.Answered d op (answers.Lost rows)) os es u q z n g l st j =
        on_more (TellsOf d op (answers.Lost rows) (told_lost rows) u) (J (done ++ seen.Answered d op (answers.Lost rows) ∷ []) es)
        (λ y k.
        let f = sync_is k.ask.ask (lost_sync rows u k.ask k.so) in
        owing.moved past t e sc happened it held later v a right marked met wait whole r s done (seen.Answered d op (answers.Lost rows) ∷ os) es u st (seen.Answered d op (answers.Lost rows)) (told_lost rows k.ask) y z g n
        (block_tells (told_lost rows k.ask) u y k.log)
        (owing.lost_lets past t e sc happened it held later v a right marked met wait whole r s done (seen.Answered d op (answers.Lost rows) ∷ os) es u st d op
        (answer_mine w sc lives c s d op (answers.Lost rows) done os q) k.ask k.found f.0 f.1 rows l g n j) j)
        (run (block w (seen.Answered d op (answers.Lost rows)) os) u) (lost_tells d op rows u)
    block_J done (seen.Answered d op answer) os es u q z n g l st j =
        plain_block done (seen.Answered d op answer) os es u st refl refl z g n j
    block_J done (seen.Lost d k life) os es u q z n g l st j =
        loss_line done (seen.Lost d k life ∷ os) es u st os d k life q late_failed once all g n j
    block_J done (seen.Wrote i d f p bytes) os es u q z n g l st j =
        plain_block done (seen.Wrote i d f p bytes) os es u st refl refl z g n j
    block_J done (seen.Patched i d f p at bytes) os es u q z n g l st j =
        plain_block done (seen.Patched i d f p at bytes) os es u st refl refl z g n j
    block_J done (seen.CutAt i f p) os es u q z n g l st j =
        plain_block done (seen.CutAt i f p) os es u st refl refl z g n j
    block_J done (seen.Hardened i) os es u q z n g l st j = cc z
    block_J done (seen.Dropped i cause) os es u q z n g l st j = cc z
    block_J done (seen.Sent k m) os es u q z n g l st j =
        plain_block done (seen.Sent k m) os es u st refl refl z g n j
    block_J done (seen.Submitted k d number what) os es u q z n g l st j =
        plain_block done (seen.Submitted k d number what) os es u st refl refl z g n j
    block_J done (seen.Leased d k end) os es u q z n g l st j =
        plain_block done (seen.Leased d k end) os es u st refl refl z g n j
    block_J done (seen.Suspected k d start) os es u q z n g l st j =
        plain_block done (seen.Suspected k d start) os es u st refl refl z g n j
    block_J done (seen.Stolen k d life) os es u q z n g l st j =
        plain_block done (seen.Stolen k d life) os es u st refl refl z g n j

    tells_last : (done : List Observation) (o : Observation) → list_all tells_none done ≡ true → tells_none o ≡ true →
        list_all tells_none (done ++ o ∷ []) ≡ true
    tells_last [] o n z = and_both (tells_none o) true z refl
    tells_last (x ∷ done) o n z =
        let b = and_true (tells_none x) (list_all tells_none done) n in
        and_both (tells_none x) (list_all tells_none (done ++ o ∷ [])) b.0 (tells_last done o b.1 z)

    -- All lines: a fact of each step, by what holds there; and what holds after them.
    module _ (fact : VolumeStep → Volume → Type 0)
        (one : (done : List Observation) (o : Observation) (os : List Observation) (es : List LogEntry) (u : Volume) → done ++ o ∷ os ≡ sc.seen →
        lines.log_told sc.world w.log done ≡ es → list_all tells_none done ≡ true → IsLossTold past x' done o → State done (o ∷ os) es u → J done es u →
        AtEachStep fact (block w o os) u) where
      pub lines_J : (done os : List Observation) (es : List LogEntry) (u : Volume) → done ++ os ≡ sc.seen → list_all tells_none os ≡ true →
          list_all tells_none done ≡ true → AreLossesTold past x' done os → lines.log_told sc.world w.log done ≡ es → State done os es u → J done es u →
          AtEachStep fact (of_lines w os) u × OnSome (J sc.seen sc.world.log) (run (of_lines w os) u)
      unfolding of_lines AtEachStep AreLossesTold lines.log_told run
      lines_J done [] es u q m n l g st j =
          (tt, subst (λ xs. J xs sc.world.log u) done_is (subst (λ fs. J done fs u) log_is j))
        where
          done_is : done ≡ sc.seen
          done_is = sym (append-nil done) ∙ q

          log_is : es ≡ sc.world.log
          log_is = sym g ∙ (ap (λ xs. lines.log_told sc.world w.log xs) done_is ∙ whole.entries)
      lines_J done (o ∷ os) es u q m n l g st j =
          let b = and_true (tells_none o) (list_all tells_none os) m in
          let fs : List LogEntry = lines.log_behind sc.world es o in
          let More : Volume → Type 0 = (λ y. State (done ++ o ∷ []) os fs y × J (done ++ o ∷ []) fs y) in
          let Rest : Volume → Type 0 = (λ y. AtEachStep fact (of_lines w os) y × OnSome (J sc.seen sc.world.log) (run (of_lines w os) y)) in
          let after : OnSome More (run (block w o os) u) =
          on_both (State (done ++ o ∷ []) os fs) (J (done ++ o ∷ []) fs) (run (block w o os) u)
          (hard.block_state past t e sc happened it held later v a right marked met wait calm whole done o os es u b.0 l.0 st)
          (block_J done o os es u q b.0 n g l.0 st j) in
          let rest : OnSome Rest (run (block w o os) u) =
          on_more More Rest
          (λ y k. lines_J (done ++ o ∷ []) os fs y (append_assoc done (o ∷ []) os ∙ q) b.1 (tells_last done o n b.0) l.1
          (told_both sc.world w.log done (o ∷ []) ∙ ap (λ xs. lines.log_behind sc.world xs o) g) k.0 k.1) (run (block w o os) u) after in
          let its : List VolumeStep = before_line o os ++ (of_line w o ++ of_lines w os) in (
            subst (λ xs. AtEachStep fact xs u) (append_assoc (before_line o os) (of_line w o) (of_lines w os))
                (at_both fact (block w o os) (of_lines w os) u (one done o os es u q g n l.0 st j)
                (on_more Rest (AtEachStep fact (of_lines w os)) (λ y k. k.0) (run (block w o os) u) rest)),
            subst (λ xs. OnSome (J sc.seen sc.world.log) (run xs u)) (append_assoc (before_line o os) (of_line w o) (of_lines w os))
                (run_then (J sc.seen sc.world.log) (block w o os) (of_lines w os) u
                (on_more Rest (λ y. OnSome (J sc.seen sc.world.log) (run (of_lines w os) y)) (λ y k. k.1) (run (block w o os) u) rest)),
          )
