-- In every run each answer `lost` goes to a sync that has no result, its rows rise, and unless they are 1,024 it leaves no dropped entry of the file.
use Rattle.st_lemmas.proofs.Words
use Words.{◌≡◌, ◌≤◌, ℕ, suc, ◌⊎◌, Bool, true, false, not, ◌&&◌, ◌||◌, ◌==◌, List, [], ◌∷◌, ◌++◌, Option, Some, None, Ok, refl, sym, ap, ◌∙◌, subst, inl, inr, arith}
use Words.{eq-eqb, eqb-true, find, is_some, length, list_any, map, nat_le, nat_lt, slice_get, ClientId, Event, FileId, PageNo, ServerId, AppAnswer, Ask, Fate}
use Words.{LogEntry, LostPage, Observation}
use Words.answers
use Words.asks
use Words.changes
use Words.fates
use Words.seen
use Words.ClientPages.{is_lost_of}
use Words.ClientState as cs
use Words.ClientState.{ClientState}
use Words.Events.{WorldTurn, changes_page, world_step}
use Words.FlatLog as log
use Words.Lines as lines
use Words.Lines.{IsLogTold}
use Words.Lists.{Has}
use Words.Lookups.{or_left, or_right, some_is}
use Words.Members.{has_left}
use Words.Safety.{IsHead, Promise, Step, ask_of, step, steps}
use Words.Tables.{and_both, and_true, each_passes, found_at, has_map_in, not_true, some_passes}
use Words.Truth.{clash, client_is}
use Words.World as world
use Words.World.{World, WorldClient, fresh_world, site_of}
use Rattle.st_base.specs.declared.rows.LostRow.{LostRow}
use Rattle.st_rules.specs.History.{Traced, traced}
use Rattle.st_rules.specs.declared.log.Change.{Change}
use Rattle.st_promises.specs.Losses.{AreLossesTold, IsLossTold, IsToldBy, IsToldTo, owed, owed_of_file, owes}
use Rattle.st_promises.specs.Safe.{EveryRunIsSafe, IsSafeRun}
use Rattle.st_laws_pages.specs.Asks.Law.{PlacesHold}
use Rattle.st_laws_pages.specs.Disks.Obligations.{FatesHold}
use Rattle.st_laws_pages.specs.Disks.Runs.{PagesAfter}
use Rattle.st_laws_pages.proofs.Asks.Client.{key}
use Rattle.st_laws_pages.proofs.Asks.Law.{places_law}
use Rattle.st_laws_pages.proofs.Asks.World.{asks_of}
use Rattle.st_laws_pages.proofs.Disks.Whole.{fates_law}
use Rattle.st_laws_volume.specs.AnswerKinds.{LossIsToldWhole, LossesAreToldWhole, is_told_whole}
use Rattle.st_laws_volume.specs.Asks.{HasAsksOf, at_site, in_volume}
use Rattle.st_laws_volume.specs.Logs.{InEveryRun, IsLogOf, IsSame, ask_of as ask_at, fate_of}
use Rattle.st_laws_volume.specs.LossMarks.{AreMet, IsLate, IsMet}
use Rattle.st_laws_volume.specs.Options.{OnSome}
use Rattle.st_laws_volume.specs.Seen.{of_event}
use Rattle.st_laws_volume.specs.StepKinds.{AtEachStep}
use Rattle.st_laws_volume.specs.Witness.{Witness, begun, led_by, steps_of}
use Rattle.st_laws_volume.proofs.AnswerLines.{AllAsked, AllFit, IsFineBy, block_by, comes_to, event_each, event_fine, none_served, step_of}
use Rattle.st_laws_volume.proofs.AskClient.{coming}
use Rattle.st_laws_volume.proofs.AskedAsks.{AreOf, Asked}
use Rattle.st_laws_volume.proofs.AskEvents.{AllOpenFor}
use Rattle.st_laws_volume.proofs.Asks.{AsksHold, asks_begin, asks_kept}
use Rattle.st_laws_volume.proofs.AskSteps.{told_all}
use Rattle.st_laws_volume.proofs.Carried.{IsGiven, given_in}
use Rattle.st_laws_volume.proofs.EventAnswers.{AnswersOf, GivesNone, Given, Stepping, Steps, event_answers, given_in_lines}
use Rattle.st_laws_volume.proofs.FateCrashes.{MarksOf}
use Rattle.st_laws_volume.proofs.FateSeen.{gives_fates}
use Rattle.st_laws_volume.proofs.HardAnswers as hard
use Rattle.st_laws_volume.proofs.HardAnswers.{after_wait, each_line}
use Rattle.st_laws_volume.proofs.LossesMet as losses
use Rattle.st_laws_volume.proofs.LossesMet.{MetHold, met_begins, met_kept}
use Rattle.st_laws_volume.proofs.LossLines.{LateAt, RowsAt, is_loss_of}
use Rattle.st_laws_volume.proofs.LossOrder.{AfterLoss, InOrder, LaterLines, Ordered, ordered}
use Rattle.st_laws_volume.proofs.LostRows.{row_is_told, rows_rise, rows_some}
use Rattle.st_laws_volume.proofs.OpenAnswers.{OfAnswers, block, open_left}
use Rattle.st_laws_volume.proofs.Options.{on_more}
use Rattle.st_laws_volume.proofs.QuietAnswers.{Always, InFirst, InRest, always_fit, later_at, order_at, step_calm, where_is}
use Rattle.st_laws_volume.proofs.ReadPages.{throughout_both}
use Rattle.st_laws_volume.proofs.SyncsSettled.{Here, IsOn, here, is_on_it, owed_row}
use Rattle.st_laws_volume.proofs.SyncsWait.{AllWait, waits}
use Rattle.st_laws_volume.proofs.ToldSteps.{Told}
use Rattle.st_volume.specs.declared.step.VolumeStep.{VolumeStep}
use Rattle.st_volume.specs.declared.step.VolumeStep.TheVariants as kinds
use Rattle.st_volume.specs.Pages.{Entry, is_at as is_place, is_by, is_by_at, is_by_on, is_dropped, is_on, same_file, same_place}
use Rattle.st_volume.specs.Volume as volume
use Rattle.st_volume.specs.Volume.{Pending, Volume, is_ask, is_left, is_told}

-- none of a list passes a test, if none does at its place
none_at : {A : Type 0} (p : A → Bool) (xs : List A) → ((n : ℕ) (x : A) → slice_get xs n ≡ Some x → p x ≡ false) → list_any p xs ≡ false
none_at p [] h = refl
none_at p (x ∷ xs) h = go (p x) (h 0 x refl) (none_at p xs (λ n y q. h (suc n) y q))
  where
    go : (b : Bool) → b ≡ false → list_any p xs ≡ false → (b || list_any p xs) ≡ false
    go true e r = cc e
    go false e r = r

any_front : (p : Observation → Bool) (xs ys : List Observation) → list_any p xs ≡ true → list_any p (xs ++ ys) ≡ true
any_front p [] ys q = cc q
any_front p (x ∷ xs) ys q = go (p x) q (any_front p xs ys)
  where
    go : (b : Bool) → (b || list_any p xs) ≡ true → (list_any p xs ≡ true → list_any p (xs ++ ys) ≡ true) → (b || list_any p (xs ++ ys)) ≡ true
    go true q r = refl
    go false q r = r q

-- A row of the page of an entry that is dropped tells it.
page_told : (c : ClientId) (f : FileId) (o : LogEntry) (e : Entry) → IsSame o e → IsOn c f o → is_by c e ≡ true → is_dropped e.fate ≡ true →
    (rows : List LostRow)
    (r : LostRow) → Has r rows → r.page ≡ o.of.page → is_told c f rows e ≡ true
page_told c f o e s k by dropped rows r i page =
    some_passes (λ (z : LostRow). is_by_at c (f, z.page) e && (is_dropped e.fate || (e.failed == z.command))) rows r i
    (and_both (is_by_at c (f, r.page) e) (is_dropped e.fate || (e.failed == r.command))
    (and_both (is_by c e) (is_place (f, r.page) e.what) by (ap (is_place (f, r.page)) s.what ∙ place o.change k.change))
    (or_left (is_dropped e.fate) (e.failed == r.command) dropped))
  where
    same : same_place (f, r.page) (o.of.file, o.of.page) ≡ true
    same =
        and_both (same_file f o.of.file) (r.page.0 == o.of.page.0)
        (and_both (f.server.0 == o.of.file.server.0) (f.ino == o.of.file.ino)
        (eq-eqb f.server.0 o.of.file.server.0 (ap (λ (z : FileId). z.server.0) k.its_file))
        (eq-eqb f.ino o.of.file.ino (ap (λ (z : FileId). z.ino) k.its_file)))
        (eq-eqb r.page.0 o.of.page.0 (ap (λ (z : PageNo). z.0) page))

    place : (ch : Change) → changes_page ch ≡ true → is_place (f, r.page) (ask_at o.of.file o.of.page ch) ≡ true
    place (changes.Write bytes) q = same
    place (changes.Patch at bytes) q = same
    place changes.Cut q = cc q

loss_silent : OfAnswers LossIsToldWhole
loss_silent (kinds.Answered c op answer) u q = cc
loss_silent it u q = tt

-- An event in which a client takes a step.
module _ (past : List Step) (t : Traced) (e : Event) (sc : WorldTurn) (happened : world_step t.world e ≡ Ok sc) (it : Witness) (held : MetHold past t it)
    (later : FatesHold sc.world) (v : Volume) (a : IsLogOf t.world.log v) (right : AreOf (asks_of past) v) (marked : MarksOf t.world v)
    (met : AreMet (owed past) (IsLate t.world) t.world.log v) (wait : AllWait v) (whole : IsLogTold sc.world t.world.log sc.seen) (r : Stepping t.world e sc)
  where
    abbrev w : World
    w = t.world

    abbrev x' : Step
    x' = step t e sc

    abbrev as_ : Asked
    as_ = asks_of (past ++ x' ∷ [])

    abbrev c : ClientId
    c = r.client

    abbrev s : ClientState
    s = r.site.node.state

    abbrev start : List (ℕ × Ask)
    start = map key s.operations ++ coming r.input

    abbrev pub calm : gives_fates e ≡ false
    calm = step_calm w e c r.site r.input r.takes

    abbrev pub State : List Observation → List Observation → List LogEntry → Volume → Type 0
    State = hard.State past t e sc happened it held later v a right marked met wait calm whole

    order : Ordered w c s r.input start sc.seen
    order = ordered w e sc r (held.failures.stand.stand.fates.lives.lives.sites c r.site r.at).fit start refl

    starts : AllAsked w e as_ → (j : ℕ × Ask) → Has j start → world.numbered (as_ c) j.0 ≡ Some j.1
    starts all j i =
        all c j
        (subst (Has j) (sym (ap (λ o. (told_all c (of_event w e) (at_site o)).pending) r.at ∙ comes_to w e c r.site r.input r.takes)) i)

    abbrev IsWhole : ClientId → FileId → List LostRow → Volume → Type 0
    IsWhole d f rows u = (nat_le 1024 (length rows) || not (list_any (is_left d f rows) u.log)) ≡ true

    -- what holds of such an answer
    pub record Whole (d : ClientId) (op : ℕ) (rows : List LostRow) (u : Volume) : Type 0 where
      pub file : FileId
      pub is : world.numbered (as_ d) op ≡ Some (asks.Sync file)
      pub some : (nat_lt 0 (length rows) && volume.are_rising rows) ≡ true
      pub left : IsWhole d file rows u
      pub waits_ : AllWait u

    abbrev WholeAt : VolumeStep → Volume → Type 0
    WholeAt (kinds.Answered d op (answers.Lost rows)) u = AllAsked w e as_ → Whole d op rows u
    WholeAt (kinds.Answered d op answer) u = Unit {0}
    WholeAt it u = Unit {0}

    whole_silent : OfAnswers WholeAt
    whole_silent (kinds.Answered d op answer) u q = cc
    whole_silent it u q = tt

    -- what must be lost was told to be before the answer
    told_before : (done os : List Observation) (d : ClientId) (op : ℕ) (answer : AppAnswer) (f : FileId) →
        done ++ seen.Answered d op answer ∷ os ≡ sc.seen → AllAsked w e as_ → world.numbered (as_ d) op ≡ Some (asks.Sync f) →
        (o : LogEntry) → IsOn d f o → LateAt past x' done o.of → ⊥
    told_before done os d op answer f q all is o k l =
        go (where_is order.first order.rest done (seen.Answered d op answer) os (q ∙ order.is))
      where
        -- by the loss that answers
        after : d ≡ c → AfterLoss w c done op answer → ⊥
        after same z =
            clash
            (subst (λ y. list_any (is_loss_of y o.of.file.server) done ≡ true) (sym same ∙ k.client)
            (subst (λ (y : ServerId). list_any (is_loss_of c y) done ≡ true) (server ∙ ap (λ (y : FileId). y.server) k.its_file) z.told))
            l.1
          where
            among : Has z.operation s.operations
            among = subst (λ (y : WorldClient). Has z.operation y.node.state.operations) (some_is (sym z.at ∙ r.at)) z.among

            words : z.operation.ask ≡ asks.Sync f
            words =
                some_is
                (sym
                (starts all (key z.operation)
                (has_left (map key s.operations) (coming r.input) (key z.operation) (has_map_in key s.operations z.operation among)))
                ∙ (ap (world.numbered (as_ c)) z.is ∙ (ap (λ y. world.numbered (as_ y) op) (sym same) ∙ is)))

            server : z.a.server ≡ f.server
            server = ap (λ n. record { 0 = n }) (sym (eqb-true (cs.server_of z.operation.ask).0 z.a.server.0 z.own)) ∙ ap cs.server_of words

        go : InFirst order.first done (seen.Answered d op answer) ⊎ InRest order.first order.rest done (seen.Answered d op answer) os → ⊥
        go (inl (post, i)) =
            let z = order_at w c [] done post (seen.Answered d op answer) (subst (InOrder w c []) i order.order) in after z.0 z.1
        go (inr (pre, i, j)) =
            let z = later_at c s r.input start pre os (seen.Answered d op answer) (subst (LaterLines c s r.input start) j order.later) in
            clash
            (ap (list_any (is_loss_of o.of.client o.of.file.server)) i
            ∙ any_front (is_loss_of o.of.client o.of.file.server) order.first pre
            (subst (λ y. list_any (is_loss_of y o.of.file.server) order.first ≡ true) (sym z.0 ∙ k.client) (order.losses o.of (sym k.client ∙ z.0) l.0)))
            l.1

    -- One such answer.
    module _ (done os : List Observation) (es : List LogEntry) (u : Volume) (d : ClientId) (op : ℕ) (rows : List LostRow)
        (q : done ++ seen.Answered d op (answers.Lost rows) ∷ os ≡ sc.seen) (st : State done (seen.Answered d op (answers.Lost rows) ∷ os) es u)
        (all : AllAsked w e as_) (f : FileId) (is : world.numbered (as_ d) op ≡ Some (asks.Sync f))
        (owing : owes (RowsAt past x' done d f.server) f.ino ≡ true) (rows_are : rows ≡ owed_of_file (RowsAt past x' done d f.server) f.ino) where
      long : length u.log ≤ length es
      long = let l = st.told.lines in let n = st.lined in omega (arith, l, n)

      dropped_gone : (z : Fate) → is_dropped (fate_of z) ≡ true → log.counts z ≡ false
      dropped_gone (fates.Gone cause) p = refl
      dropped_gone fates.Pending p = cc p
      dropped_gone fates.Hard p = cc p

      -- no dropped entry is left
      none_left : nat_le 1024 (length rows) ≡ false → (n : ℕ) (g : Entry) → slice_get u.log n ≡ Some g → is_left d f rows g ≡ false
      none_left few n g j = go (is_left d f rows g) refl
        where
          left : is_left d f rows g ≡ true → ⊥
          left p = by (st.met_ n y.o g y.at j k.change (dropped_gone y.o.fate (sym (ap is_dropped y.same.fate) ∙ b.0)))
            where
              i : (is_by_on d f g ≡ true) × ((is_dropped g.fate && not (g.crashed || (g.told || is_told d f rows g))) ≡ true)
              i = and_true (is_by_on d f g) _ p

              b : (is_dropped g.fate ≡ true) × (not (g.crashed || (g.told || is_told d f rows g)) ≡ true)
              b = and_true (is_dropped g.fate) _ i.1

              never : (g.crashed || (g.told || is_told d f rows g)) ≡ false
              never = not_true (g.crashed || (g.told || is_told d f rows g)) b.1

              y : Here past x' done es u st.told.first long st.met_ d f n g
              y = here past x' done es u st.told.first long st.met_ d f n g j

              k : IsOn d f y.o
              k = is_on_it d f y.o g y.same i.0

              told_row : list_any (is_lost_of y.o.of.file.ino y.o.of.page) (RowsAt past x' done y.o.of.client y.o.of.file.server) ≡ true →
                  is_told d f rows g ≡ true
              told_row h =
                  let z = owed_row past x' done es u st.told.first long st.met_ d f y.o k h in
                  let m =
                  row_is_told (RowsAt past x' done d f.server) f.ino y.o.of.page
                  (some_passes (is_lost_of f.ino y.o.of.page) (RowsAt past x' done d f.server) z.0 z.1
                  (subst (λ (n : ℕ). is_lost_of n y.o.of.page z.0 ≡ true) (sym (ap (λ (x : FileId). x.ino) k.its_file)) z.2))
                  (ap (λ xs. nat_le 1024 (length xs)) (sym rows_are) ∙ few) in
                  page_told d f y.o g y.same k (and_true (is_by d g) (is_on f g.what) i.0).0 b.0 rows m.0 (subst (Has m.0) (sym rows_are) m.1) m.2

              by : IsMet (RowsAt past x' done) (LateAt past x' done) y.o.of g → ⊥
              by (inl z) = clash (or_left g.crashed (g.told || is_told d f rows g) z) never
              by (inr (inl z)) = clash (or_right g.crashed (g.told || is_told d f rows g) (or_left g.told (is_told d f rows g) z)) never
              by (inr (inr (inl z))) = clash (or_right g.crashed (g.told || is_told d f rows g) (or_right g.told (is_told d f rows g) (told_row z))) never
              by (inr (inr (inr z))) = told_before done os d op (answers.Lost rows) f q all is y.o k z

          go : (b : Bool) → is_left d f rows g ≡ b → is_left d f rows g ≡ false
          go true p = absurd (left p)
          go false p = p

      is_whole : IsWhole d f rows u
      is_whole = go (nat_le 1024 (length rows)) refl
        where
          go : (b : Bool) → nat_le 1024 (length rows) ≡ b → (b || not (list_any (is_left d f rows) u.log)) ≡ true
          go true p = refl
          go false p = ap not (none_at (is_left d f rows) u.log (none_left p))

      answer_whole : Whole d op rows u
      answer_whole =
          record {
            file = f;
            is = is;
            some =
                and_both (nat_lt 0 (length rows)) (volume.are_rising rows)
                (ap (λ xs. nat_lt 0 (length xs)) rows_are ∙ rows_some (RowsAt past x' done d f.server) f.ino owing)
                (ap volume.are_rising rows_are ∙ rows_rise (RowsAt past x' done d f.server) f.ino);
            left = is_whole;
            waits_ = st.wait_;
          }

    pub whole_now : (done os : List Observation) (es : List LogEntry) (u : Volume) (d : ClientId) (op : ℕ) (rows : List LostRow) →
        done ++ seen.Answered d op (answers.Lost rows) ∷ os ≡ sc.seen → IsLossTold past x' done (seen.Answered d op (answers.Lost rows)) →
        State done (seen.Answered d op (answers.Lost rows) ∷ os) es u → AllAsked w e as_ → Whole d op rows u
    whole_now done os es u d op rows q l st all = by_ask (ask_of past x' d op) refl l
      where
        owe : (f : FileId) → ask_of past x' d op ≡ Some (asks.Sync f) → (b : Bool) → owes (RowsAt past x' done d f.server) f.ino ≡ b →
            IsToldBy b (owed_of_file (RowsAt past x' done d f.server) f.ino) (answers.Lost rows) → Whole d op rows u
        owe f i true j h = answer_whole done os es u d op rows q st all f i j h
        owe f i false j h = absurd h

        by_ask : (o : Option Ask) → ask_of past x' d op ≡ o → IsToldTo o (RowsAt past x' done d) (answers.Lost rows) → Whole d op rows u
        by_ask (Some (asks.Sync f)) i h = owe f i (owes (RowsAt past x' done d f.server) f.ino) refl h
        by_ask None i h = absurd h
        by_ask (Some (asks.Write f p bytes)) i h = absurd h
        by_ask (Some (asks.Patch f p at bytes)) i h = absurd h
        by_ask (Some (asks.Read f p)) i h = absurd h
        by_ask (Some (asks.Cut f p)) i h = absurd h
        by_ask (Some (asks.Name n ask)) i h = absurd h

    at_answer : (answer : AppAnswer) (done os : List Observation) (es : List LogEntry) (u : Volume) (d : ClientId) (op : ℕ) →
        done ++ seen.Answered d op answer ∷ os ≡ sc.seen → IsLossTold past x' done (seen.Answered d op answer) →
        State done (seen.Answered d op answer ∷ os) es u → WholeAt (kinds.Answered d op answer) u
    at_answer (answers.Lost rows) done os es u d op q l st = λ all. whole_now done os es u d op rows q l st all
    at_answer answer done os es u d op q l st = tt

    one_line : (done : List Observation) (o : Observation) (os : List Observation) (es : List LogEntry) (u : Volume) → done ++ o ∷ os ≡ sc.seen →
        lines.log_told sc.world w.log done ≡ es → IsLossTold past x' done o → State done (o ∷ os) es u → AtEachStep WholeAt (block w o os) u
    one_line done o os es u q g l st =
        block_by WholeAt whole_silent w o os u
        (λ d op answer i. at_answer answer done os es u d op (subst (λ y. done ++ y ∷ os ≡ sc.seen) i q) (subst (IsLossTold past x' done) i l)
        (subst (λ y. State done (y ∷ os) es u) i st))

    -- of the ask that it answers
    module _ (all : AllAsked w e as_) (u : Volume) (d : ClientId) (op : ℕ) (rows : List LostRow) (b : Pending) (h : Whole d op rows u)
        (q : find (is_ask d op) u.pending ≡ Some b) (asked : world.numbered (as_ d) op ≡ Some b.ask) where
      found : (is_ask d op b ≡ true) × Has b u.pending
      found = found_at (is_ask d op) u.pending b q

      client : b.client ≡ d
      client = client_is b.client d (and_true (b.client.0 == d.0) (b.op == op) found.0).0

      words : b.ask ≡ asks.Sync h.file
      words = some_is (sym asked ∙ h.is)

      unresulted : (o : Bool) → is_some b.result ≡ o → not o ≡ true
      unresulted false i = refl
      unresulted true i =
          absurd (clash (each_passes waits u.pending h.waits_ b found.1) (ap (λ ask. not (volume.is_sync ask) || not (is_some b.result)) words ∙ ap not i))

      pub told_whole : is_told_whole u b rows ≡ true
      told_whole =
          and_both (volume.is_sync b.ask && not (is_some b.result))
          ((nat_lt 0 (length rows) && volume.are_rising rows) &&
          (nat_le 1024 (length rows) || not (list_any (is_left b.client (volume.file_of b.ask) rows) u.log)))
          (and_both (volume.is_sync b.ask) (not (is_some b.result)) (ap volume.is_sync words) (unresulted (is_some b.result) refl))
          (and_both (nat_lt 0 (length rows) && volume.are_rising rows)
          (nat_le 1024 (length rows) || not (list_any (is_left b.client (volume.file_of b.ask) rows) u.log)) h.some
          (subst (λ ask. (nat_le 1024 (length rows) || not (list_any (is_left b.client (volume.file_of ask) rows) u.log)) ≡ true) (sym words)
          (subst (λ y. IsWhole y h.file rows u) (sym client) h.left)))

    takes_one : AllAsked w e as_ → IsFineBy LossIsToldWhole WholeAt Always as_
    takes_one all u g b told fact q asked fits = by g.answer fact
      where
        by : (answer : AppAnswer) → WholeAt (kinds.Answered g.client g.op answer) u → LossIsToldWhole (kinds.Answered g.client g.op answer) u
        by (answers.Lost rows) h =
            λ z i. subst (λ y. is_told_whole u y rows ≡ true) (some_is (sym q ∙ i)) (told_whole all u g.client g.op rows b (h all) q asked)
        by answer h = tt

    pub event_whole : HasAsksOf w v → ((d : ClientId) → AllOpenFor w d sc.seen (told_all d (of_event w e) (at_site (site_of w d)))) →
        AreLossesTold past x' [] sc.seen →
        AtEachStep LossIsToldWhole (steps_of it v x') v
    event_whole agree opened l =
        event_fine LossIsToldWhole loss_silent WholeAt Always past x' takes_one it v (none_served it.behind v w e c r.site r.input r.takes) a.lines right agree
        opened
        (each_line past t e sc happened it held later v a right marked met wait calm whole WholeAt one_line
        (none_served it.behind v w e c r.site r.input r.takes) l
        (λ d. subst (λ h. AllOpenFor w d sc.seen (told_all d (of_event w e) h)) (sym (agree d)) (opened d)))
        (always_fit (given_in_lines sc.seen))

-- In every run.
WholeToo : List Step → Step → Witness → Type 0
WholeToo past x it = OnSome (λ v. AtEachStep LossIsToldWhole (steps_of it v x) v) it.volume

record WholeHolds (past : List Step) (t : Traced) (it : Witness) : Type 0 where
  met : MetHold past t it
  asks : AsksHold past t it
  wait : OnSome AllWait it.volume

abbrev Known : Promise
Known past x = losses.Known past x × (FatesHold x.after.world × PlacesHold x.after.world)

record AllOf (past : List Step) (t : Traced) (v : Volume) : Type 0 where
  log_ : IsLogOf t.world.log v
  asked : AreOf (asks_of past) v
  marked : MarksOf t.world v
  met : AreMet (owed past) (IsLate t.world) t.world.log v
  wait : AllWait v
  agree : HasAsksOf t.world v

all_of : (past : List Step) (t : Traced) (it : Witness) → WholeHolds past t it → OnSome (AllOf past t) it.volume
all_of past t it h = go it.volume h.met.failures.log h.met.right h.met.crashes.marked h.met.met h.wait h.asks.agree
  where
    go : (o : Option Volume) → OnSome (IsLogOf t.world.log) o → OnSome (AreOf (asks_of past)) o → OnSome (MarksOf t.world) o →
        OnSome (AreMet (owed past) (IsLate t.world) t.world.log) o → OnSome AllWait o → OnSome (HasAsksOf t.world) o → OnSome (AllOf past t) o
    go None p q r m u y = tt
    go (Some v) p q r m u y = record { log_ = p; asked = q; marked = r; met = m; wait = u; agree = y }

whole_on : IsGiven Known WholeHolds WholeToo
unfolding WholeToo led_by
whole_on past t e sc it f g h = (
  on_more (AllOf past t) (λ v. AtEachStep LossIsToldWhole (steps_of it v (step t e sc)) v) (λ v m. by v m (event_answers t.world e sc f)) it.volume
      (all_of past t it h),
  record {
    met = met_kept past t e sc it f g.0 h.met;
    asks = asks_kept past t e sc it f g.1 h.asks;
    wait = after_wait it past (step t e sc) it.volume h.met.right h.wait;
  },
)
  where
    none_given : (gs : List Given) → gs ≡ [] → AllFit (λ g. (u : Volume) → LossIsToldWhole (step_of g) u) gs
    none_given [] q = tt
    none_given (g ∷ gs) q = cc q

    by : (v : Volume) → AllOf past t v → AnswersOf t.world e sc → AtEachStep LossIsToldWhole (steps_of it v (step t e sc)) v
    by v m (GivesNone q) = event_each LossIsToldWhole loss_silent t.world it v sc.seen e (none_given (given_in_lines sc.seen) q)
    by v m (Steps r) =
        event_whole past t e sc f it h.met g.1.0 v m.log_ m.asked m.marked m.met m.wait g.0.0.0 r m.agree (open_left past t e sc it f h.asks) g.0.1.1

pub losses_are_told_whole : EveryRunIsSafe → InEveryRun PagesAfter → InEveryRun LossesAreToldWhole
unfolding WholeToo begun
losses_are_told_whole safe pages k clients servers disks blocks form es head events =
    let t : Traced = traced (fresh_world k clients servers disks blocks form) in
    let kept : IsSafeRun (fresh_world k clients servers disks blocks form) es = safe k clients servers disks blocks form es head events in
    given_in Known WholeHolds WholeToo whole_on es t
    (record {
      met = met_begins k clients servers disks blocks form;
      asks = asks_begin k clients servers disks blocks form;
      wait = refl;
    })
    (throughout_both losses.Known (λ past x. FatesHold x.after.world × PlacesHold x.after.world) [] (steps es t)
    (losses.known_in k clients servers disks blocks form es head kept (pages k clients servers disks blocks form es head events))
    (throughout_both (λ past x. FatesHold x.after.world) (λ past x. PlacesHold x.after.world) [] (steps es t) (fates_law k clients servers disks blocks form es)
    (places_law k clients servers disks blocks form es head)))
