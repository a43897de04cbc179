-- In every run the volume takes each answer `hard`: each entry of the sync's file by its client is hard, or the client crashed since or was told.
use Rattle.st_lemmas.proofs.Words
use Words.{◌≡◌, ℕ, suc, ◌⊎◌, Bool, true, false, not, ◌&&◌, ◌||◌, ◌==◌, List, [], ◌∷◌, ◌++◌, Option, Some, None, refl, sym, ap, ◌∙◌, subst, inl, inr, arith}
use Words.{append_assoc, eq-eqb, eqb-true, find, is_some, length, list_all, list_any, option_and_then, slice_get, Ok, Err, Result, ClientId, Event, FileId, Life, ServerId, AppAnswer, Ask, Fate, LogEntry, LostPage, NodeId, Observation, SentMessage, StepRefusal}
use Words.answers
use Words.asks
use Words.changes
use Words.events
use Words.fates
use Words.nodes
use Words.seen
use Words.serving
use Words.Admissible as adm
use Words.ClientPages.{is_lost_of}
use Words.Events as ev
use Words.Events.{WorldTurn, changes_page, counted, happens, is_change, present_life, world_step}
use Words.FlatLog as log
use Words.Keys.{same_client, same_server}
use Words.Lines as lines
use Words.Lines.{AtEach, IsLogTold}
use Words.Lists.{Has}
use Words.Lookups.{if_true, or_left, or_right, some_is}
use Words.Members.{has_right, some_member_passes}
use Words.Numbers.{get_below, get_has, get_more, get_old, get_there}
use Words.Safety as safety
use Words.Safety.{HardIsHard, Promise, Step, ask_of, step, steps}
use Words.Server as server
use Words.Server.{ServerNode}
use Words.Tables.{and_both, and_true, each_passes, found_at, some_passes}
use Words.Truth.{clash, client_is, eqb_self, file_is}
use Words.World as world
use Words.World.{World, fresh_world, message_of, node_of, receiver_of, site_of}
use Rattle.st_base.specs.declared.rows.LostRow.{LostRow}
use Rattle.st_rules.specs.History.{Traced, traced}
use Rattle.st_rules.specs.declared.log.Change.{Change}
use Rattle.st_lemmas.proofs.Steps.{step_happens}
use Rattle.st_promises.specs.Losses.{AreLossesTold, IsLossTold, IsToldBy, IsToldTo, is_of_file, owed, owed_of_file, owes}
use Rattle.st_promises.specs.Safe.{EveryRunIsSafe, IsSafeRun}
use Rattle.st_laws_pages.specs.Asks.Law.{PlacesHold}
use Rattle.st_laws_pages.specs.Disks.Obligations.{FatesHold}
use Rattle.st_laws_pages.specs.Disks.Runs.{PagesAfter}
use Rattle.st_laws_pages.proofs.Asks.Law.{dull_fates, places_law}
use Rattle.st_laws_pages.proofs.Asks.Says.{AllDull, server_dull}
use Rattle.st_laws_pages.proofs.Asks.World.{asks_more, asks_of}
use Rattle.st_laws_pages.proofs.Causes.HardSeen.{told_both}
use Rattle.st_laws_pages.proofs.Disks.Whole.{fates_law}
use Rattle.st_laws_volume.specs.Asks.{HasAsksOf, in_volume}
use Rattle.st_laws_volume.specs.FateMarks.{is_crashed_life}
use Rattle.st_laws_volume.specs.Logs.{InEveryRun, IsLogOf, IsSame, ask_of as ask_at, fate_of}
use Rattle.st_laws_volume.specs.LossMarks.{AreMet, IsLate, IsMet}
use Rattle.st_laws_volume.specs.Options.{OnSome}
use Rattle.st_laws_volume.specs.Seen.{cause_of, of_event, of_line}
use Rattle.st_laws_volume.specs.StepKinds.{AreTaken, AtEachStep, StepsAreTaken, is_hard_answer}
use Rattle.st_laws_volume.specs.Witness.{Behind, Witness, before_line, begun, if_told, led_by, next_op, of_delivery, of_lines, of_message, steps_of, to_node, volume_after}
use Rattle.st_laws_volume.proofs.AnswerSteps.{OnlyAnswers, delivery_silent, event_silent, is_silent, none_answered, open_there}
use Rattle.st_laws_volume.proofs.AskedAsks.{AreOf, Asked, IsOf, all_has, asked_after, event_right, moved, run_right}
use Rattle.st_laws_volume.proofs.Asks.{AsksHold, asks_begin, asks_kept}
use Rattle.st_laws_volume.proofs.AskEvents.{AllOpenFor}
use Rattle.st_laws_volume.proofs.AskSteps.{told_all}
use Rattle.st_laws_volume.proofs.AsksTaken.{all_other}
use Rattle.st_laws_volume.proofs.Carried.{IsGiven, given_in}
use Rattle.st_laws_volume.proofs.ChangeLines.{block_other, on_both, taken_both}
use Rattle.st_laws_volume.proofs.FailureEntries.{kept_at}
use Rattle.st_laws_volume.proofs.FailureLives.{PresentOf, present}
use Rattle.st_laws_volume.proofs.FateCrashes.{MarksOf, event_adds}
use Rattle.st_laws_volume.proofs.FateEnds.{marked_at}
use Rattle.st_laws_volume.proofs.FateKeeps.{AllKeep, Keeps, LogKept, keep_then, run_keeps}
use Rattle.st_laws_volume.proofs.FateSeen as quiet
use Rattle.st_laws_volume.proofs.FateSeen.{gives_fates, tells_none}
use Rattle.st_laws_volume.proofs.LogEntries.{same_first}
use Rattle.st_laws_volume.proofs.LogLines.{line_told, run_then}
use Rattle.st_laws_volume.proofs.LogSteps.{IsTold}
use Rattle.st_laws_volume.proofs.LossEvents.{event_part}
use Rattle.st_laws_volume.proofs.LossesMet as losses
use Rattle.st_laws_volume.proofs.LossesMet.{MetHold, met_begins, met_kept}
use Rattle.st_laws_volume.proofs.LossLines.{LateAt, MetAt, RowsAt, block_met, first_at, is_loss_of}
use Rattle.st_laws_volume.proofs.LossShapes.{Part, is_unhard}
use Rattle.st_laws_volume.proofs.OpenAnswers.{Open, at_both, block, block_open, first_open, open_left}
use Rattle.st_laws_volume.proofs.Options.{on_all, on_if, on_more, on_then}
use Rattle.st_laws_volume.proofs.ReadPages.{throughout_both}
use Rattle.st_laws_volume.proofs.StepKinds.{both_inside, delivery_inside, lines_inside}
use Rattle.st_laws_volume.proofs.SyncsSettled.{IsOn, all_settled}
use Rattle.st_laws_volume.proofs.SyncsWait.{AllWait, kept_wait, other_wait, waits}
use Rattle.st_laws_volume.proofs.ToldSteps.{Near, Told, effect_near, event_kept, kept_told, step_told}
use Rattle.st_volume.specs.declared.step.VolumeStep.{VolumeStep}
use Rattle.st_volume.specs.declared.step.VolumeStep.TheVariants as kinds
use Rattle.st_volume.specs.Pages.{Entry, is_by, is_by_on, is_dropped, is_on, is_open, is_settled}
use Rattle.st_volume.specs.Volume as volume
use Rattle.st_volume.specs.Volume.{Pending, Volume, answered, answers_so, is_ask, is_hard, run}

-- An answer that finds the ask of a sync whose file is settled is taken.
hard_taken : (u : Volume) (c : ClientId) (op : ℕ) → Told u → is_some (find (is_ask c op) u.pending) ≡ true →
    ((a : Pending) → find (is_ask c op) u.pending ≡ Some a → (a.result ≡ None) × (is_hard u a ≡ true)) →
    is_some (volume.step u (kinds.Answered c op answers.Hard)) ≡ true
hard_taken u c op told there hard =
    ap is_some (if_true (u.lines == length u.log) (volume.acts u (kinds.Answered c op answers.Hard)) None (eq-eqb u.lines (length u.log) told))
    ∙ go (find (is_ask c op) u.pending) there hard
  where
    go : (o : Option Pending) → is_some o ≡ true → ((a : Pending) → o ≡ Some a → (a.result ≡ None) × (is_hard u a ≡ true)) →
        is_some (option_and_then (answered u answers.Hard) o) ≡ true
    go None q h = cc q
    go (Some a) q h =
        let z = h a refl in
        ap is_some (if_true (answers_so u a answers.Hard a.result) (Some (volume.closed a (volume.after_answer u a answers.Hard))) None
        (ap (answers_so u a answers.Hard) z.0 ∙ z.1))

-- what was lost is told before
lost_before : (c : ClientId) (op : ℕ) (q : Observation → Bool) (first rest done more : List Observation) →
    done ++ seen.Answered c op answers.Hard ∷ more ≡ first ++ rest → list_all is_unhard first ≡ true → list_any q first ≡ true → list_any q done ≡ true
lost_before c op q [] rest done more e u l = cc l
lost_before c op q (y ∷ first) rest [] more e u l =
    absurd (clash (and_true (is_unhard y) (list_all is_unhard first) u).0 (ap is_unhard (sym (head_is e))))
  where
    head_is : seen.Answered c op answers.Hard ∷ more ≡ y ∷ (first ++ rest) → seen.Answered c op answers.Hard ≡ y
    head_is z = cc
lost_before c op q (y ∷ first) rest (z ∷ done) more e u l =
    go (q z) (ap q (head_is e)) (lost_before c op q first rest done more (tail_is e) (and_true (is_unhard y) (list_all is_unhard first) u).1) l
  where
    head_is : z ∷ (done ++ seen.Answered c op answers.Hard ∷ more) ≡ y ∷ (first ++ rest) → z ≡ y
    head_is k = cc

    tail_is : z ∷ (done ++ seen.Answered c op answers.Hard ∷ more) ≡ y ∷ (first ++ rest) → done ++ seen.Answered c op answers.Hard ∷ more ≡ first ++ rest
    tail_is k = cc

    go : (b : Bool) → b ≡ q y → (list_any q first ≡ true → list_any q done ≡ true) → (q y || list_any q first) ≡ true → (b || list_any q done) ≡ true
    go true i r l = refl
    go false i r l = r (ap (λ k. k || list_any q first) i ∙ l)

-- lines that tell no fates only add entries
pub still_there : (f : World) (os : List LogEntry) (xs : List Observation) → list_all tells_none xs ≡ true → (n : ℕ) (o : LogEntry) → slice_get os n ≡ Some o →
    slice_get (lines.log_told f os xs) n ≡ Some o
unfolding lines.log_told lines.log_behind log.accept log.patch log.cut
still_there f os [] q n o i = i
still_there f os (x ∷ xs) q n o i =
    let b = and_true (tells_none x) (list_all tells_none xs) q in still_there f (lines.log_behind f os x) xs b.1 n o (one x b.0)
  where
    one : (x : Observation) → tells_none x ≡ true → slice_get (lines.log_behind f os x) n ≡ Some o
    one (seen.Wrote j c g p bytes) t = get_old os _ n o i
    one (seen.Patched j c g p at bytes) t = get_old os _ n o i
    one (seen.CutAt j g p) t = get_old os _ n o i
    one (seen.Hardened j) t = cc t
    one (seen.Dropped j cause) t = cc t
    one x t = i

-- Lines that answer nothing hold no answer.
pub dull_silent : (w : World) (os : List Observation) → AllDull os → list_all is_silent (of_lines w os) ≡ true
unfolding of_lines before_line of_line
dull_silent w [] d = refl
dull_silent w (seen.Wrote i c f p bytes ∷ os) d = absurd d.one
dull_silent w (seen.Patched i c f p at bytes ∷ os) d = absurd d.one
dull_silent w (seen.Answered c op answer ∷ os) d = absurd d.one
dull_silent w (seen.CutAt i f p ∷ os) d = dull_silent w os d.rest
dull_silent w (seen.Hardened i ∷ os) d = dull_silent w os d.rest
dull_silent w (seen.Dropped i cause ∷ os) d = dull_silent w os d.rest
dull_silent w (seen.Sent k m ∷ os) d = dull_silent w os d.rest
dull_silent w (seen.Submitted k c number what ∷ os) d = dull_silent w os d.rest
dull_silent w (seen.Leased c s end ∷ os) d = dull_silent w os d.rest
dull_silent w (seen.Lost c s life ∷ os) d = dull_silent w os d.rest
dull_silent w (seen.Suspected s c start ∷ os) d = dull_silent w os d.rest
dull_silent w (seen.Stolen s c life ∷ os) d = dull_silent w os d.rest

only_hard : OnlyAnswers is_hard_answer
only_hard (kinds.Answered c op answer) q = cc q
only_hard (kinds.Asked c ask) q = refl
only_hard (kinds.TakesEffect c op) q = refl
only_hard (kinds.Joined i c what) q = refl
only_hard (kinds.Hardened i) q = refl
only_hard (kinds.Dropped i cause) q = refl
only_hard (kinds.Crashed c) q = refl
only_hard (kinds.Restarted s) q = refl
only_hard (kinds.WriteFailed c number i) q = refl
only_hard (kinds.ReadFailed c s number) q = refl

-- a message to a client makes no server do anything, and a server's step answers nothing
module _ (t : World) (bs : List Behind) (v : Volume) where
  by_server : (m : SentMessage) (s : ServerId) (o : Option ServerNode) → AllDull (ev.at_server (counted t) s (serving.Control m.message) o).seen
  unfolding ev.at_server ev.server_takes ev.server_took
  by_server m s None = tt
  by_server m s (Some node) = took (server.node_step node (world.clock_of (counted t) (nodes.Server s)) (serving.Control m.message))
    where
      took : (r : Result server.NodeTurn StepRefusal) → AllDull (ev.server_took (counted t) s r).seen
      took (Err x) = tt
      took (Ok u) = server_dull s u.out (ev.quiet (ev.with_node s u.node (counted t))) tt

  delivered : (o : Option SentMessage) → (of_message bs v t o ≡ []) ⊎ AllDull (ev.delivers (counted t) o).seen
  unfolding ev.delivers ev.delivers_to
  delivered None = inl refl
  delivered (Some m) = to (receiver_of m)
    where
      to : (n : NodeId) → (to_node bs v t m.message n ≡ []) ⊎ AllDull (ev.delivers_to (counted t) m.message n).seen
      to (nodes.Client c) = inl refl
      to (nodes.Server s) = inr (by_server m s (node_of t s))

  served_or_dull : (e : Event) → (of_delivery bs v t e ≡ []) ⊎ AllDull (happens (counted t) e).seen
  unfolding happens
  served_or_dull (events.Deliver k) = delivered (message_of t k)
  served_or_dull (events.App c ask) = inl refl
  served_or_dull (events.Tick n) = inl refl
  served_or_dull (events.Lose k) = inl refl
  served_or_dull (events.Cut from to) = inl refl
  served_or_dull (events.Heal from to) = inl refl
  served_or_dull (events.Advance increments) = inl refl
  served_or_dull (events.Effect k) = inl refl
  served_or_dull (events.Report k ok) = inl refl
  served_or_dull (events.Crash n) = inl refl
  served_or_dull (events.Start n) = inl refl

-- An event.
module _ (past : List Step) (t : Traced) (e : Event) (sc : WorldTurn) (happened : world_step t.world e ≡ Ok sc) (it : Witness) (held : MetHold past t it)
    (later : FatesHold sc.world) (v : Volume) (a : IsLogOf t.world.log v) (r : AreOf (asks_of past) v) (marked : MarksOf t.world v)
    (met : AreMet (owed past) (IsLate t.world) t.world.log v) (wait : AllWait v) (calm : gives_fates e ≡ false)
    (whole : IsLogTold sc.world t.world.log sc.seen) where
  abbrev w : World
  w = t.world

  abbrev x' : Step
  x' = step t e sc

  abbrev as_ : Asked
  as_ = asks_of (past ++ x' ∷ [])

  -- an entry was there before the event, or belongs to its client's present life
  abbrev Fresh : List LogEntry → Type 0
  Fresh es =
      (n : ℕ) (o : LogEntry) → slice_get es n ≡ Some o → is_change o ≡ true →
      (slice_get w.log n ≡ Some o) ⊎ (o.of.life ≡ present_life sc.world o.of.client o.of.file.server)

  pub record State (done os : List Observation) (es : List LogEntry) (u : Volume) : Type 0 where
    pub told : IsTold es u
    pub asked : AreOf as_ u
    pub met_ : MetAt past x' done es u
    pub wait_ : AllWait u
    pub keeps : AllKeep ⊥ v.log u.log
    pub lined : Told u
    pub open_ : Open w os u

  -- One answer.
  module _ (done rest : List Observation) (c : ClientId) (op : ℕ) (es : List LogEntry) (u : Volume)
      (seen_is : done ++ seen.Answered c op answers.Hard ∷ rest ≡ sc.seen) (mute : list_all tells_none rest ≡ true) (fresh : Fresh es)
      (log_is : lines.log_told sc.world es rest ≡ sc.world.log) (s : State done (seen.Answered c op answers.Hard ∷ rest) es u)
      (hard : safety.all_hard sc.world c es (ask_of past x' c op) ≡ true)
      (owes_none : IsToldTo (ask_of past x' c op) (RowsAt past x' done c) answers.Hard) where
    -- it is an answer to a sync
    record IsSyncOf : Type 0 where
      file : FileId
      is : ask_of past x' c op ≡ Some (asks.Sync file)
      all : list_all (safety.is_hard_of c (present_life sc.world c file.server) file) es ≡ true
      none : list_any (is_of_file file.ino) (RowsAt past x' done c file.server) ≡ false

    sync : IsSyncOf
    sync = go (ask_of past x' c op) refl hard owes_none
      where
        unowed : (b : Bool) (rows : List LostRow) → IsToldBy b rows answers.Hard → b ≡ false
        unowed true rows k = absurd k
        unowed false rows k = refl

        go : (o : Option Ask) → ask_of past x' c op ≡ o → safety.all_hard sc.world c es o ≡ true → IsToldTo o (RowsAt past x' done c) answers.Hard → IsSyncOf
        go (Some (asks.Sync f)) q h k =
            record {
              file = f;
              is = q;
              all = h;
              none =
                  unowed (owes (RowsAt past x' done c f.server) f.ino) (owed_of_file (RowsAt past x' done c f.server) f.ino) k;
            }
        go None q h k = cc h
        go (Some (asks.Write f p bytes)) q h k = cc h
        go (Some (asks.Patch f p at bytes)) q h k = cc h
        go (Some (asks.Read f p)) q h k = cc h
        go (Some (asks.Cut f p)) q h k = cc h
        go (Some (asks.Name s ask)) q h k = cc h

    -- it isn't pending in its client's present life
    unpending : (n : ℕ) (o : LogEntry) → slice_get es n ≡ Some o → IsOn c sync.file o → o.fate ≡ fates.Pending →
        o.of.life ≡ present_life sc.world o.of.client o.of.file.server → ⊥
    unpending n o i k p life =
        clash
        (each_passes (safety.is_hard_of c (present_life sc.world c sync.file.server) sync.file) es sync.all o (get_has es n o i))
        (ap (λ b. not b || ev.is_hard_fate o.fate) of_it ∙ ap ev.is_hard_fate p)
      where
        server : sync.file.server ≡ o.of.file.server
        server = ap (λ (f : FileId). f.server) k.its_file

        life_is : present_life sc.world c sync.file.server ≡ o.of.life
        life_is = ap (λ d. present_life sc.world d sync.file.server) k.client ∙ (ap (present_life sc.world o.of.client) server ∙ sym life)

        of_it : safety.is_of_file c (present_life sc.world c sync.file.server) sync.file o.of ≡ true
        of_it =
            and_both (log.is_of_life c sync.file.server (present_life sc.world c sync.file.server) o.of)
            (Rattle.st_rules.specs.Keys.same_file o.of.file sync.file)
            (and_both (same_client o.of.client c)
            (same_server o.of.file.server sync.file.server && (o.of.life.0 == (present_life sc.world c sync.file.server).0))
            (eq-eqb o.of.client.0 c.0 (ap (λ (d : ClientId). d.0) (sym k.client)))
            (and_both (same_server o.of.file.server sync.file.server) (o.of.life.0 == (present_life sc.world c sync.file.server).0)
            (eq-eqb o.of.file.server.0 sync.file.server.0 (ap (λ (d : ServerId). d.0) (sym server)))
            (eq-eqb o.of.life.0 (present_life sc.world c sync.file.server).0 (ap (λ (d : Life). d.0) (sym life_is)))))
            (and_both (same_server o.of.file.server sync.file.server) (o.of.file.ino == sync.file.ino)
            (eq-eqb o.of.file.server.0 sync.file.server.0 (ap (λ (d : ServerId). d.0) (sym server)))
            (eq-eqb o.of.file.ino sync.file.ino (ap (λ (f : FileId). f.ino) (sym k.its_file))))

    -- of an earlier life no crash ended it is not pending either
    no_crash : (c2 : ClientId) → e ≡ events.Crash (nodes.Client c2) → ⊥
    no_crash c2 q = no (sym (ap gives_fates q) ∙ calm)
      where
        no : true ≡ false → ⊥
        no z = cc

    pending_crashed : (n : ℕ) (o : LogEntry) (f : Entry) → slice_get es n ≡ Some o → slice_get u.log n ≡ Some f → IsOn c sync.file o →
        o.fate ≡ fates.Pending → f.crashed ≡ true
    pending_crashed n o f i j k p = by (fresh n o i k.change)
      where
        by : (slice_get w.log n ≡ Some o) ⊎ (o.of.life ≡ present_life sc.world o.of.client o.of.file.server) → f.crashed ≡ true
        by (inr life) = absurd (unpending n o i k p life)
        by (inl old) = go (is_crashed_life sc.world.ended o.of) refl
          where
            g : (z : Entry) × (slice_get v.log n ≡ Some z) × IsSame o z
            g = first_at w.log v.log (same_first w.log v.log a.entries) n o old

            m : (z : Entry) × (slice_get u.log n ≡ Some z) × Keeps ⊥ g.0 z
            m = kept_at ⊥ v.log u.log s.keeps n g.0 g.1

            was : is_crashed_life w.ended o.of ≡ true → f.crashed ≡ true
            was q = ap (λ (z : Entry). z.crashed) (some_is (sym j ∙ m.1)) ∙ m.2.crashed (marked_at w.ended w.log v.log marked n o g.0 old g.1 k.change q)

            go : (b : Bool) → is_crashed_life sc.world.ended o.of ≡ b → f.crashed ≡ true
            go true q =
                back ((event_adds w e (λ d site there. (held.failures.stand.stand.fates.lives.lives.sites d site there).id) sc happened).0 o.of q)
              where
                back : (is_crashed_life w.ended o.of ≡ true) ⊎ ((d : ClientId) × (e ≡ events.Crash (nodes.Client d)) × (o.of.client ≡ d)) → f.crashed ≡ true
                back (inl z) = was z
                back (inr (d, z, y)) = absurd (no_crash d z)
            go false q =
                absurd (unpending n o i k p
                (sym (ap (λ y. ev.life_of_site o.of.file.server y) z.there ∙ (ap world.life_at z.place ∙ z.life))))
              where
                z : PresentOf sc.world o.of
                z = present sc.world later o (get_has sc.world.log n o (subst (λ es. slice_get es n ≡ Some o) log_is (still_there sc.world es rest mute n o i)))
                    p q

    -- what is gone of it was told
    late_never : (o : LogEntry) → IsOn c sync.file o → LateAt past x' done o.of → ⊥
    late_never o k l =
        by (event_part w c (λ d site there. (held.failures.stand.stand.fates.lives.lives.sites d site there).fit) e (step_happens w e sc happened).0
        (no_crash c))
      where
        by : Part w c (happens (counted w) e) → ⊥
        by (inr z) =
            z.silent op
            (subst (Has (seen.Answered c op answers.Hard)) (seen_is ∙ ap (λ (y : WorldTurn). y.seen) (step_happens w e sc happened).1)
            (has_right done (seen.Answered c op answers.Hard ∷ rest) (seen.Answered c op answers.Hard) (inl refl)))
        by (inl z) =
            clash
            (subst (λ d. list_any (is_loss_of d o.of.file.server) done ≡ true) k.client
            (lost_before c op (is_loss_of c o.of.file.server) z.first z.rest done rest
            (seen_is ∙ (ap (λ (y : WorldTurn). y.seen) (step_happens w e sc happened).1 ∙ z.is)) z.unhard
            (z.losses o.of (sym k.client) l.0)))
            l.1

    -- the ask itself
    ask_settled : (b : Pending) → find (is_ask c op) u.pending ≡ Some b → (b.result ≡ None) × (is_hard u b ≡ true)
    ask_settled b q = (unresulted b.result refl, and_both (volume.is_sync b.ask) _ (ap volume.is_sync words) all)
      where
        found : (is_ask c op b ≡ true) × Has b u.pending
        found = found_at (is_ask c op) u.pending b q

        keys : ((b.client.0 == c.0) ≡ true) × ((b.op == op) ≡ true)
        keys = and_true (b.client.0 == c.0) (b.op == op) found.0

        client : b.client ≡ c
        client = client_is b.client c keys.0

        own : IsOf as_ b
        own = all_has as_ u.pending b s.asked.pending found.1

        words : b.ask ≡ asks.Sync sync.file
        words =
            some_is
            (sym own
            ∙ (ap (λ d. world.numbered (as_ d) b.op) client ∙ (ap (λ n. world.numbered (as_ c) n) (eqb-true b.op op keys.1) ∙ sync.is)))

        unresulted : (o : Option AppAnswer) → b.result ≡ o → o ≡ None
        unresulted None z = refl
        unresulted (Some answer) z =
            absurd (clash (each_passes waits u.pending s.wait_ b found.1)
            (ap (λ ask. not (volume.is_sync ask) || not (is_some b.result)) words ∙ ap (λ o. not (is_some o)) z))

        all : list_all (λ (f : Entry). is_settled f || not (is_by_on b.client (volume.file_of b.ask) f)) u.log ≡ true
        all =
            subst (λ ask. list_all (λ (f : Entry). is_settled f || not (is_by_on b.client (volume.file_of ask) f)) u.log ≡ true) (sym words)
            (subst (λ d. list_all (λ (f : Entry). is_settled f || not (is_by_on d sync.file f)) u.log ≡ true) (sym client)
            (all_settled past x' done es u s.told.first (let m = s.told.lines in let k = s.lined in omega (arith, m, k)) s.met_ c sync.file sync.none
            pending_crashed late_never))

    pub hard_is_taken : is_some (volume.step u (kinds.Answered c op answers.Hard)) ≡ true
    hard_is_taken = hard_taken u c op s.lined (open_there c op u ((s.open_ c).0 (eqb_self c.0))) ask_settled

  -- One line leaves what the next one needs.
  block_told : (o : Observation) (os : List Observation) (u : Volume) → Told u → OnSome Told (run (block w o os) u)
  unfolding before_line of_line run
  block_told (seen.Wrote i c f p bytes) os u h =
      on_then Told (run (kinds.Joined i (Some c) (asks.Write f p bytes) ∷ [])) (volume.step u (kinds.TakesEffect c (next_op os)))
      (on_more Near (λ y. OnSome Told (run (kinds.Joined i (Some c) (asks.Write f p bytes) ∷ []) y))
      (λ y k. on_then Told (run []) (volume.step y (kinds.Joined i (Some c) (asks.Write f p bytes)))
      (step_told y (kinds.Joined i (Some c) (asks.Write f p bytes)) refl k))
      (volume.step u (kinds.TakesEffect c (next_op os))) (effect_near u c (next_op os)))
  block_told (seen.Patched i c f p at bytes) os u h =
      on_then Told (run (kinds.Joined i (Some c) (asks.Patch f p at bytes) ∷ [])) (volume.step u (kinds.TakesEffect c (next_op os)))
      (on_more Near (λ y. OnSome Told (run (kinds.Joined i (Some c) (asks.Patch f p at bytes) ∷ []) y))
      (λ y k. on_then Told (run []) (volume.step y (kinds.Joined i (Some c) (asks.Patch f p at bytes)))
      (step_told y (kinds.Joined i (Some c) (asks.Patch f p at bytes)) refl k))
      (volume.step u (kinds.TakesEffect c (next_op os))) (effect_near u c (next_op os)))
  block_told (seen.CutAt i f p) os u h = kept_told (kinds.Joined i None (asks.Cut f p) ∷ []) u refl h
  block_told (seen.Hardened i) os u h = kept_told (kinds.Hardened i ∷ []) u refl h
  block_told (seen.Dropped i cause) os u h = kept_told (kinds.Dropped i (cause_of w cause) ∷ []) u refl h
  block_told (seen.Answered c op answer) os u h = kept_told (kinds.Answered c op answer ∷ []) u refl h
  block_told (seen.Sent k m) os u h = h
  block_told (seen.Submitted k c number what) os u h = h
  block_told (seen.Leased c s end) os u h = h
  block_told (seen.Lost c s life) os u h = h
  block_told (seen.Suspected s c start) os u h = h
  block_told (seen.Stolen s c life) os u h = h

  one_fresh : (es : List LogEntry) (x : LogEntry) → (is_change x ≡ true → x.of.life ≡ present_life sc.world x.of.client x.of.file.server) → Fresh es →
      Fresh (es ++ x ∷ [])
  one_fresh es x new h n o i c = go (get_more es x n o i)
    where
      go : (slice_get es n ≡ Some o) ⊎ ((n ≡ length es) × (o ≡ x)) →
          (slice_get w.log n ≡ Some o) ⊎ (o.of.life ≡ present_life sc.world o.of.client o.of.file.server)
      go (inl j) = h n o j c
      go (inr j) = inr (subst (λ (k : LogEntry). is_change k ≡ true → k.of.life ≡ present_life sc.world k.of.client k.of.file.server) (sym j.1) new c)

  pub block_fresh : (es : List LogEntry) (o : Observation) → tells_none o ≡ true → Fresh es → Fresh (lines.log_behind sc.world es o)
  unfolding lines.log_behind log.accept log.patch log.cut
  block_fresh es (seen.Wrote i c f p bytes) t h = one_fresh es _ (λ k. refl) h
  block_fresh es (seen.Patched i c f p at bytes) t h = one_fresh es _ (λ k. refl) h
  block_fresh es (seen.CutAt i f p) t h = one_fresh es _ (λ k. cc k) h
  block_fresh es (seen.Hardened i) t h = cc t
  block_fresh es (seen.Dropped i cause) t h = cc t
  block_fresh es o t h = h

  pub block_state : (done : List Observation) (o : Observation) (os : List Observation) (es : List LogEntry) (u : Volume) → tells_none o ≡ true →
      IsLossTold past x' done o →
      State done (o ∷ os) es u → OnSome (State (done ++ o ∷ []) os (lines.log_behind sc.world es o)) (run (block w o os) u)
  block_state done o os es u t l s =
      on_more (λ z. IsTold fs z × (AreOf as_ z × (MetAt past x' (done ++ o ∷ []) fs z × (AllWait z × (LogKept ⊥ u z × (Told z × Open w os z))))))
      (State (done ++ o ∷ []) os fs)
      (λ z k. record {
        told = k.0;
        asked = k.1.0;
        met_ = k.1.1.0;
        wait_ = k.1.1.1.0;
        keeps = keep_then ⊥ v.log u.log z.log s.keeps k.1.1.1.1.0;
        lined = k.1.1.1.1.1.0;
        open_ = k.1.1.1.1.1.1;
      })
      (run its u)
      (on_both (IsTold fs) (λ z. AreOf as_ z × (MetAt past x' (done ++ o ∷ []) fs z × (AllWait z × (LogKept ⊥ u z × (Told z × Open w os z))))) (run its u)
      (run_then (IsTold fs) (before_line o os) (of_line w o) u (line_told w sc.world es o os u s.told))
      (on_both (AreOf as_) (λ z. MetAt past x' (done ++ o ∷ []) fs z × (AllWait z × (LogKept ⊥ u z × (Told z × Open w os z)))) (run its u)
      (run_right as_ its u (block_other w o os) s.asked)
      (on_both (MetAt past x' (done ++ o ∷ []) fs) (λ z. AllWait z × (LogKept ⊥ u z × (Told z × Open w os z))) (run its u)
      (block_met past x' done o os es u t s.told s.asked l s.met_)
      (on_both AllWait (λ z. LogKept ⊥ u z × (Told z × Open w os z)) (run its u) (other_wait as_ its u (block_other w o os) s.asked s.wait_)
      (on_both (LogKept ⊥ u) (λ z. Told z × Open w os z) (run its u) (run_keeps ⊥ its u (λ z. absurd z))
      (on_both Told (Open w os) (run its u) (block_told o os u s.lined) (block_open w o os u s.open_)))))))
    where
      its : List VolumeStep
      its = block w o os

      fs : List LogEntry
      fs = lines.log_behind sc.world es o

  one_taken : (it : VolumeStep) (u : Volume) → (is_hard_answer it ≡ true → is_some (volume.step u it) ≡ true) → AreTaken is_hard_answer (it ∷ []) u
  unfolding AreTaken
  one_taken it u h = (h, on_all (AreTaken is_hard_answer []) (λ z. tt) (volume.step u it))

  block_taken : (done : List Observation) (o : Observation) (os : List Observation) (es : List LogEntry) (u : Volume) → done ++ o ∷ os ≡ sc.seen →
      list_all tells_none os ≡ true → IsLossTold past x' done o → safety.IsHardAt past x' es o → Fresh es →
      lines.log_told sc.world (lines.log_behind sc.world es o) os ≡ sc.world.log → State done (o ∷ os) es u → AreTaken is_hard_answer (block w o os) u
  unfolding before_line of_line AreTaken lines.log_behind
  block_taken done (seen.Answered c op answers.Hard) os es u q m l h f g s =
      one_taken (kinds.Answered c op answers.Hard) u (λ z. hard_is_taken done os c op es u q m f g s h l)
  block_taken done (seen.Answered c op answer) os es u q m l h f g s = one_taken (kinds.Answered c op answer) u (λ z. cc z)
  block_taken done (seen.Wrote i c k p bytes) os es u q m l h f g s =
      none_answered is_hard_answer only_hard (kinds.TakesEffect c (next_op os) ∷ kinds.Joined i (Some c) (asks.Write k p bytes) ∷ []) u refl
  block_taken done (seen.Patched i c k p at bytes) os es u q m l h f g s =
      none_answered is_hard_answer only_hard (kinds.TakesEffect c (next_op os) ∷ kinds.Joined i (Some c) (asks.Patch k p at bytes) ∷ []) u refl
  block_taken done (seen.CutAt i k p) os es u q m l h f g s = none_answered is_hard_answer only_hard (kinds.Joined i None (asks.Cut k p) ∷ []) u refl
  block_taken done (seen.Hardened i) os es u q m l h f g s = none_answered is_hard_answer only_hard (kinds.Hardened i ∷ []) u refl
  block_taken done (seen.Dropped i cause) os es u q m l h f g s = none_answered is_hard_answer only_hard (kinds.Dropped i (cause_of w cause) ∷ []) u refl
  block_taken done (seen.Sent k n) os es u q m l h f g s = tt
  block_taken done (seen.Submitted k c number what) os es u q m l h f g s = tt
  block_taken done (seen.Leased c k end) os es u q m l h f g s = tt
  block_taken done (seen.Lost c k life) os es u q m l h f g s = tt
  block_taken done (seen.Suspected k c start) os es u q m l h f g s = tt
  block_taken done (seen.Stolen k c life) os es u q m l h f g s = tt

  lines_taken : (done os : List Observation) (es : List LogEntry) (u : Volume) → done ++ os ≡ sc.seen → list_all tells_none os ≡ true →
      AreLossesTold past x' done os → AtEach (safety.IsHardAt past x') sc.world es os → Fresh es → lines.log_told sc.world es os ≡ sc.world.log →
      State done os es u → AreTaken is_hard_answer (of_lines w os) u
  unfolding of_lines AreTaken AreLossesTold AtEach lines.log_told
  lines_taken done [] es u q m l h f g s = tt
  lines_taken done (o ∷ os) es u q m l h f g s =
      let b = and_true (tells_none o) (list_all tells_none os) m in
      subst (λ its. AreTaken is_hard_answer its u) (append_assoc (before_line o os) (of_line w o) (of_lines w os))
      (taken_both is_hard_answer (block w o os) (of_lines w os) u (block_taken done o os es u q b.1 l.0 h.0 f g s)
      (on_more (State (done ++ o ∷ []) os (lines.log_behind sc.world es o)) (AreTaken is_hard_answer (of_lines w os))
      (λ z k. lines_taken (done ++ o ∷ []) os (lines.log_behind sc.world es o) z (append_assoc done (o ∷ []) os ∙ q) b.1 l.1 h.1 (block_fresh es o b.0 f) g k)
      (run (block w o os) u) (block_state done o os es u b.0 l.0 s)))

  -- What holds before the lines, if the event delivers no message to a server.
  abbrev first : List VolumeStep
  first = of_event w e

  silent : list_all tells_none sc.seen ≡ true
  silent = ap (λ (z : WorldTurn). list_all tells_none z.seen) (step_happens w e sc happened).1 ∙ quiet.event_silent (counted w) e calm

  pub state_begins : of_delivery it.behind v w e ≡ [] → ((c : ClientId) → AllOpenFor w c sc.seen (told_all c (of_event w e) (in_volume v c))) →
      OnSome (State [] sc.seen w.log) (run first v)
  unfolding run
  state_begins none open_all =
      on_more (λ y. (IsTold w.log y × (AreOf as_ y × MetAt past x' [] w.log y)) × (AllWait y × (LogKept ⊥ v y × (Told y × Open w sc.seen y))))
      (State [] sc.seen w.log)
      (λ y k. record {
        told = k.0.0;
        asked = k.0.1.0;
        met_ = k.0.1.1;
        wait_ = k.1.0;
        keeps = k.1.1.0;
        lined = k.1.1.1.0;
        open_ = k.1.1.1.1;
      })
      (run first v)
      (on_both (λ y. IsTold w.log y × (AreOf as_ y × MetAt past x' [] w.log y)) (λ y. AllWait y × (LogKept ⊥ v y × (Told y × Open w sc.seen y))) (run first v)
      (on_more (λ y. OnSome (λ z. IsTold w.log z × (AreOf as_ z × MetAt past x' [] w.log z)) (run (of_delivery it.behind v w e) y))
      (λ y. IsTold w.log y × (AreOf as_ y × MetAt past x' [] w.log y))
      (λ y k. subst (λ its. OnSome (λ z. IsTold w.log z × (AreOf as_ z × MetAt past x' [] w.log z)) (run its y)) none k) (run first v)
      (losses.before_lines past t e sc happened it held.failures.stand v a r marked met))
      (on_both AllWait (λ y. LogKept ⊥ v y × (Told y × Open w sc.seen y)) (run first v) (kept_wait as_ first v (event_kept w e) wait)
      (on_both (LogKept ⊥ v) (λ y. Told y × Open w sc.seen y) (run first v) (run_keeps ⊥ first v (λ z. absurd z))
      (on_both Told (Open w sc.seen) (run first v) (kept_told first v (event_kept w e) a.lines) (first_open w e sc.seen v open_all)))))

  -- All steps of such an event.
  pub unserved : of_delivery it.behind v w e ≡ [] → AreLossesTold past x' [] sc.seen → AtEach (safety.IsHardAt past x') sc.world w.log sc.seen →
      ((c : ClientId) → AllOpenFor w c sc.seen (told_all c (of_event w e) (in_volume v c))) →
      AreTaken is_hard_answer (of_event w e ++ of_lines w sc.seen) v
  unserved none l h open_all =
      taken_both is_hard_answer first (of_lines w sc.seen) v (none_answered is_hard_answer only_hard first v (event_silent w e))
      (on_more (State [] sc.seen w.log) (AreTaken is_hard_answer (of_lines w sc.seen))
      (λ y k. lines_taken [] sc.seen w.log y refl silent l h (λ n o i c. inl i) whole.entries k) (run first v) (state_begins none open_all))

  -- A fact of each line, by what holds there.
  module _ (fact : VolumeStep → Volume → Type 0)
      (one : (done : List Observation) (o : Observation) (os : List Observation) (es : List LogEntry) (u : Volume) → done ++ o ∷ os ≡ sc.seen →
      lines.log_told sc.world w.log done ≡ es → IsLossTold past x' done o → State done (o ∷ os) es u → AtEachStep fact (block w o os) u) where
    lines_each : (done os : List Observation) (es : List LogEntry) (u : Volume) → done ++ os ≡ sc.seen → list_all tells_none os ≡ true →
        AreLossesTold past x' done os → lines.log_told sc.world w.log done ≡ es → State done os es u → AtEachStep fact (of_lines w os) u
    unfolding of_lines AtEachStep AreLossesTold lines.log_told
    lines_each done [] es u q m l g s = tt
    lines_each done (o ∷ os) es u q m l g s =
        let b = and_true (tells_none o) (list_all tells_none os) m in
        subst (λ its. AtEachStep fact its u) (append_assoc (before_line o os) (of_line w o) (of_lines w os))
        (at_both fact (block w o os) (of_lines w os) u (one done o os es u q g l.0 s)
        (on_more (State (done ++ o ∷ []) os (lines.log_behind sc.world es o)) (AtEachStep fact (of_lines w os))
        (λ z k. lines_each (done ++ o ∷ []) os (lines.log_behind sc.world es o) z (append_assoc done (o ∷ []) os ∙ q) b.1 l.1
        (told_both sc.world w.log done (o ∷ []) ∙ ap (λ xs. lines.log_behind sc.world xs o) g) k)
        (run (block w o os) u) (block_state done o os es u b.0 l.0 s)))

    pub each_line : of_delivery it.behind v w e ≡ [] → AreLossesTold past x' [] sc.seen →
        ((c : ClientId) → AllOpenFor w c sc.seen (told_all c (of_event w e) (in_volume v c))) →
        OnSome (AtEachStep fact (of_lines w sc.seen)) (run (of_event w e) v)
    unfolding lines.log_told
    each_line none l open_all =
        on_more (State [] sc.seen w.log) (AtEachStep fact (of_lines w sc.seen)) (λ y k. lines_each [] sc.seen w.log y refl silent l refl k) (run first v)
        (state_begins none open_all)

-- Steps that answer nothing.
silent_both : (xs ys : List VolumeStep) → list_all is_silent xs ≡ true → list_all is_silent ys ≡ true → list_all is_silent (xs ++ ys) ≡ true
silent_both [] ys p q = q
silent_both (x ∷ xs) ys p q =
    let b = and_true (is_silent x) (list_all is_silent xs) p in and_both (is_silent x) (list_all is_silent (xs ++ ys)) b.0 (silent_both xs ys b.1 q)

dull_taken : (it : Witness) (v : Volume) (x : Step) → AllDull x.seen → AreTaken is_hard_answer (steps_of it v x) v
dull_taken it v x d =
    let w : World = x.before.world in
    none_answered is_hard_answer only_hard (steps_of it v x) v
    (silent_both (of_event w x.event) (of_delivery it.behind v w x.event ++ of_lines w x.seen) (event_silent w x.event)
    (silent_both (of_delivery it.behind v w x.event) (of_lines w x.seen) (delivery_silent it.behind v w x.event) (dull_silent w x.seen d)))

-- an event that gives fates answers nothing
fates_dull : (w : World) (e : Event) → gives_fates e ≡ true → AllDull (happens (counted w) e).seen
unfolding happens ev.effects ev.advances ev.marks ev.crashes ev.crashes_client
fates_dull w (events.Effect k) q = dull_fates 1 w.log (ev.log_hard w.log (ev.carried_by (world.issued_of w k)))
fates_dull w (events.Advance increments) q = dull_fates 1 w.log (ev.log_ended_all w.commands (ev.lives_reached (counted w) increments) w.log)
fates_dull w (events.Crash (nodes.Client c)) q = go (site_of w c)
  where
    go : (o : Option world.WorldClient) → AllDull (ev.crashes_client (counted w) c o).seen
    go None = tt
    go (Some site) = dull_fates 1 w.log (ev.log_crashed (counted w) c)
fates_dull w (events.Crash (nodes.Server s)) q = cc q
fates_dull w (events.Tick n) q = cc q
fates_dull w (events.App c ask) q = cc q
fates_dull w (events.Deliver k) q = cc q
fates_dull w (events.Lose k) q = cc q
fates_dull w (events.Cut from to) q = cc q
fates_dull w (events.Heal from to) q = cc q
fates_dull w (events.Report k ok) q = cc q
fates_dull w (events.Start n) q = cc q

-- In every run.
HardToo : List Step → Step → Witness → Type 0
HardToo past x it = OnSome (λ v. AreTaken is_hard_answer (steps_of it v x) v) it.volume

record Holds (past : List Step) (t : Traced) (it : Witness) : Type 0 where
  met : MetHold past t it
  asks : AsksHold past t it
  wait : OnSome AllWait it.volume

abbrev Known : Promise
Known past x = losses.Known past x × ((FatesHold x.after.world × PlacesHold x.after.world) × HardIsHard past x)

-- syncs wait after each event
pub after_wait : (it : Witness) (past : List Step) (x : Step) (o : Option Volume) → OnSome (AreOf (asks_of past)) o → OnSome AllWait o →
    OnSome AllWait (volume_after it x o)
after_wait it past x None r h = tt
after_wait it past x (Some v) r h =
    let w : World = x.before.world in
    let as_ : Asked = asks_of (past ++ x ∷ []) in
    let first : List VolumeStep = of_event w x.event in
    let rest : List VolumeStep = of_delivery it.behind v w x.event ++ of_lines w x.seen in
    on_then AllWait if_told (run (steps_of it v x) v)
    (on_more AllWait (λ u. OnSome AllWait (if_told u)) (λ u k. on_if AllWait (u.lines == length u.log) (Some u) k) (run (steps_of it v x) v)
    (run_then AllWait first rest v
    (on_more (λ y. AreOf as_ y × AllWait y) (λ y. OnSome AllWait (run rest y))
    (λ y k. other_wait as_ rest y
    (all_other rest (both_inside (of_delivery it.behind v w x.event) (of_lines w x.seen) (delivery_inside it.behind v w x.event) (lines_inside w x.seen))) k.0
    k.1)
    (run first v)
    (on_both (AreOf as_) AllWait (run first v)
    (on_more (AreOf (asked_after (asks_of past) x.event)) (AreOf as_) (λ y k. moved (asked_after (asks_of past) x.event) as_ (λ c. asks_more past x c) y k)
    (run first v) (event_right (asks_of past) w x.event v r))
    (kept_wait as_ first v (event_kept w x.event) h)))))

event_hard : (past : List Step) (t : Traced) (e : Event) (sc : WorldTurn) (it : Witness) → world_step t.world e ≡ Ok sc → Known past (step t e sc) →
    Holds past t it → (v : Volume) → IsLogOf t.world.log v → AreOf (asks_of past) v → MarksOf t.world v →
    AreMet (owed past) (IsLate t.world) t.world.log v → AllWait v → HasAsksOf t.world v → AreTaken is_hard_answer (steps_of it v (step t e sc)) v
event_hard past t e sc it f g h v a r marked met wait agree = by (gives_fates e) refl
  where
    x : Step
    x = step t e sc

    is_so : sc ≡ happens (counted t.world) e
    is_so = (step_happens t.world e sc f).1

    dull : AllDull (happens (counted t.world) e).seen → AreTaken is_hard_answer (steps_of it v x) v
    dull d = dull_taken it v x (subst (λ (z : WorldTurn). AllDull z.seen) (sym is_so) d)

    by : (b : Bool) → gives_fates e ≡ b → AreTaken is_hard_answer (steps_of it v x) v
    by true q = dull (fates_dull t.world e q)
    by false q = at (served_or_dull t.world it.behind v e)
      where
        at : (of_delivery it.behind v t.world e ≡ []) ⊎ AllDull (happens (counted t.world) e).seen → AreTaken is_hard_answer (steps_of it v x) v
        at (inr d) = dull d
        at (inl none) =
            subst (λ its. AreTaken is_hard_answer (of_event t.world e ++ (its ++ of_lines t.world sc.seen)) v) (sym none)
            (unserved past t e sc f it h.met g.0.1.0 v a r marked met wait q g.0.0.0 none g.0.1.1 g.1.1
            (λ c. subst (λ k. AllOpenFor t.world c sc.seen (told_all c (of_event t.world e) k)) (sym (agree c)) (open_left past t e sc it f h.asks c)))

hard_on : IsGiven Known Holds HardToo
unfolding HardToo led_by
hard_on past t e sc it f g h = (
  on_more (λ v. IsLogOf t.world.log v ×
      (AreOf (asks_of past) v × (MarksOf t.world v × (AreMet (owed past) (IsLate t.world) t.world.log v × (AllWait v × HasAsksOf t.world v)))))
      (λ v. AreTaken is_hard_answer (steps_of it v (step t e sc)) v)
      (λ v k. event_hard past t e sc it f g h v k.0 k.1.0 k.1.1.0 k.1.1.1.0 k.1.1.1.1.0 k.1.1.1.1.1) it.volume
      (on_both (IsLogOf t.world.log)
      (λ v. AreOf (asks_of past) v × (MarksOf t.world v × (AreMet (owed past) (IsLate t.world) t.world.log v × (AllWait v × HasAsksOf t.world v))))
      it.volume
      h.met.failures.log
      (on_both (AreOf (asks_of past)) (λ v. MarksOf t.world v × (AreMet (owed past) (IsLate t.world) t.world.log v × (AllWait v × HasAsksOf t.world v)))
      it.volume h.met.right
      (on_both (MarksOf t.world) (λ v. AreMet (owed past) (IsLate t.world) t.world.log v × (AllWait v × HasAsksOf t.world v)) it.volume h.met.crashes.marked
      (on_both (AreMet (owed past) (IsLate t.world) t.world.log) (λ v. AllWait v × HasAsksOf t.world v) it.volume h.met.met
      (on_both AllWait (HasAsksOf t.world) it.volume h.wait h.asks.agree))))),
  record {
    met = met_kept past t e sc it f g.0 h.met;
    asks = asks_kept past t e sc it f g.1.0 h.asks;
    wait = after_wait it past (step t e sc) it.volume h.met.right h.wait;
  },
)

pub hard_answers_are_taken : EveryRunIsSafe → InEveryRun PagesAfter → InEveryRun (StepsAreTaken is_hard_answer)
unfolding HardToo begun
hard_answers_are_taken safe pages k clients servers disks blocks form es head events =
    let t : Traced = traced (fresh_world k clients servers disks blocks form) in
    let kept : IsSafeRun (fresh_world k clients servers disks blocks form) es = safe k clients servers disks blocks form es head events in
    given_in Known Holds HardToo hard_on es t
    (record {
      met = met_begins k clients servers disks blocks form;
      asks = asks_begin k clients servers disks blocks form;
      wait = refl;
    })
    (throughout_both losses.Known (λ past x. (FatesHold x.after.world × PlacesHold x.after.world) × HardIsHard past x) [] (steps es t)
    (losses.known_in k clients servers disks blocks form es head kept (pages k clients servers disks blocks form es head events))
    (throughout_both (λ past x. FatesHold x.after.world × PlacesHold x.after.world) HardIsHard [] (steps es t)
    (throughout_both (λ past x. FatesHold x.after.world) (λ past x. PlacesHold x.after.world) [] (steps es t) (fates_law k clients servers disks blocks form es)
    (places_law k clients servers disks blocks form es head)) kept.hard))
