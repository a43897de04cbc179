-- In every run the volume takes each answer `dirtyfull`: 64 other pages of the server have entries
-- of the client, of which it may still be told.
use Rattle.st_lemmas.proofs.Words
use Words.{◌≡◌, ◌≤◌, ◌<◌, ◌⊎◌, ℕ, suc, ◌+◌, Bool, true, false, ◌&&◌, ◌||◌, ◌==◌, List, [], ◌∷◌, ◌++◌, Option, Some, None, Ok, refl, sym, ap, ◌∙◌, subst, inl, inr, arith}
use Words.{eqb-true, not, find, is_some, length, list_all, list_any, map, option_and_then, slice_get, AppAnswer, Ask, Change, ClientId, DirtyPage, Event, FileId, Life}
use Words.{LogEntry, LogOwner, Observation, PageNo, ServerId}
use Words.answers
use Words.asks
use Words.changes
use Words.fates
use Words.nodes
use Words.seen
use Words.ClientPages as pages
use Words.ClientState.{Association, is_at}
use Words.Events as ev
use Words.Events.{WorldTurn, is_change, latest, world_step}
use Words.FlatLog as log
use Words.Lines as lines
use Words.Lists.{Has}
use Words.Lookups.{some_is}
use Words.Numbers.{get_last, numbered_below}
use Words.Safety.{Promise, Step, ask_of, step, steps}
use Words.Tables.{and_true}
use Words.Truth.{client_is, clash, file_is}
use Words.World as world
use Words.World.{World, WorldClient, clock_of, fresh_world, site_of}
use Rattle.st_lemmas.proofs.Marks.{of_entry}
use Rattle.st_rules.specs.History.{Traced, traced}
use Rattle.st_rules.specs.declared.log.Fate as world_fate
use Rattle.st_promises.specs.Losses.{IsLossTold}
use Rattle.st_promises.specs.Safe.{EveryRunIsSafe}
use Rattle.st_laws_steps.specs.Lives.Lives.{LifeNext, LivesHold}
use Rattle.st_laws_steps.proofs.Lives.Associations.{own_found}
use Rattle.st_laws_pages.specs.Disks.Folds.{owner_at}
use Rattle.st_laws_pages.specs.Disks.Runs.{PagesAfter}
use Rattle.st_laws_pages.specs.Flush.Flush.{file_at, owner_at_page}
use Rattle.st_laws_pages.proofs.Causes.Latest.{entry_last}
use Rattle.st_laws_pages.proofs.Causes.Law.{one_step}
use Rattle.st_laws_volume.specs.AnswerKinds.{FilesAreAnsweredWithoutResults, ResultFits, is_dirty_full_answer}
use Rattle.st_laws_volume.specs.DirtyPages.{WasDirty, is_change_of}
use Rattle.st_laws_volume.specs.HardFiles.{is_page_at}
use Rattle.st_laws_volume.specs.Logs.{InEveryRun, IsLogOf, IsSame, fate_of}
use Rattle.st_laws_volume.specs.Options.{OnSome}
use Rattle.st_laws_volume.specs.Results.{may_have_result}
use Rattle.st_laws_volume.specs.Seen.{of_event}
use Rattle.st_laws_volume.specs.StepKinds.{AtEachStep, AtEachStepOf, StepsAreTaken}
use Rattle.st_laws_volume.specs.Witness.{Witness, begun, of_delivery, of_lines, steps_of}
use Rattle.st_laws_volume.proofs.AnswerLines.{LastsInside, Takes, at_two, block_by, lasting_at}
use Rattle.st_laws_volume.proofs.AnswerResults.{files_are_answered_without_results}
use Rattle.st_laws_volume.proofs.AnswerSteps.{delivery_silent, event_silent}
use Rattle.st_laws_volume.proofs.Carried.{IsGiven, given_in}
use Rattle.st_laws_volume.proofs.ChangeLines.{on_both}
use Rattle.st_laws_volume.proofs.CrashedLives.{is_over, past_of}
use Rattle.st_laws_volume.proofs.EntryEvents.{AllOwn, Own, Was, own_steps}
use Rattle.st_laws_volume.proofs.EntryMarks.{LogStays, TellsOf, hard_tells, is_plain, lost_tells, run_stays, told_hard, told_lost}
use Rattle.st_laws_volume.proofs.EventAnswers.{Stepping}
use Rattle.st_laws_volume.proofs.EventClients.{SiteStep, event_clients, is_mute}
use Rattle.st_laws_volume.proofs.FailedWrites.{changed}
use Rattle.st_laws_volume.proofs.FailureEntries.{lines_back}
use Rattle.st_laws_volume.proofs.FateSeen.{tells_none}
use Rattle.st_laws_volume.proofs.FullLines.{AllLines, FullLines, IsFullIn, IsKeptIn, full_lines, line_at}
use Rattle.st_laws_volume.proofs.FullPlaces.{HasEntry, entry_has, is_full}
use Rattle.st_laws_volume.proofs.LeftAnswers.{Known as KnownOf, both_of, each_more, in_runs, taken_of, takes}
use Rattle.st_laws_volume.proofs.LogEntries.{AtBoth, same_at}
use Rattle.st_laws_volume.proofs.LossLines.{first_at}
use Rattle.st_laws_volume.proofs.LossesOnce.{answer_mine}
use Rattle.st_laws_volume.proofs.OpenAnswers.{OfAnswers, at_both, at_silent, block, open_left}
use Rattle.st_laws_volume.proofs.Options.{on_more}
use Rattle.st_laws_volume.proofs.OwedEntries.{Block, Tell, block_plain, block_tells}
use Rattle.st_laws_volume.proofs.OwedHolds as owed
use Rattle.st_laws_volume.proofs.OwedHolds.{AllOf, Known, RowsHold, all_of, mute_silent, rows_begin, rows_kept, silent_both}
use Rattle.st_laws_volume.proofs.UnchangedEntries.{latest_on}
use Rattle.st_laws_volume.proofs.OwedLines as owing
use Rattle.st_laws_volume.proofs.OwedLosses as losing
use Rattle.st_laws_volume.proofs.PresentLives.{next_life_upto, stepped}
use Rattle.st_laws_volume.proofs.ReadPages.{throughout_both}
use Rattle.st_laws_volume.proofs.StepKinds.{lines_inside}
use Rattle.st_volume.specs.declared.step.VolumeStep.{VolumeStep}
use Rattle.st_volume.specs.declared.step.VolumeStep.TheVariants as kinds
use Rattle.st_volume.specs.Pages.{Entry, is_dropped, place_of}
use Rattle.st_volume.specs.Volume as volume
use Rattle.st_volume.specs.Volume.{Pending, Volume, answers_so, is_ask, is_cut_or_name, is_dirty_full, run}

-- What is proved of each answer `dirtyfull`.
abbrev FullFact : AppAnswer → ClientId → ℕ → Volume → Type 0
FullFact answers.DirtyFull c op u = (a : Pending) → find (is_ask c op) u.pending ≡ Some a →
    is_dirty_full u a ≡ true
FullFact answer c op u = Unit {0}

abbrev IsOfFull : VolumeStep → Volume → Type 0
IsOfFull (kinds.Answered c op answer) u = FullFact answer c op u
IsOfFull it u = Unit {0}

-- Entries that join the log in an event aren't marked by a crash within its lines.
module _ (w : World) where
  abbrev IsClear : Volume → Type 0
  IsClear u = (n : ℕ) (f : Entry) → slice_get w.log n ≡ None → slice_get u.log n ≡ Some f →
      f.crashed ≡ false

  clear_on : (test : Entry → Bool) (u z : Volume) → Block test u z → IsClear u → IsClear z
  clear_on test u z b h n f none i = go (b.back n f i)
    where
      go : Was (Tell test) u.log n f → f.crashed ≡ false
      go (inl (g, q, k)) = k.crashed ∙ h n g none q
      go (inr k) = k.1.crashed

  one_run : (u : Volume) (it : VolumeStep) → OnSome IsClear (run (it ∷ []) u) →
      OnSome IsClear (volume.step u it)
  unfolding run
  one_run u it h = go (volume.step u it) h
    where
      go : (o : Option Volume) → OnSome IsClear (option_and_then (run []) o) → OnSome IsClear o
      go None k = tt
      go (Some z) k = k

  plain_clear : (it : VolumeStep) (u : Volume) → is_plain it ≡ true → IsClear u →
      OnSome IsClear (volume.step u it)
  plain_clear it u q h =
      let r : list_all is_plain (it ∷ []) ≡ true =
      Words.Tables.and_both (is_plain it) true q refl in
      one_run u it
      (on_more (LogStays u) IsClear (λ z k. clear_on _ u z (block_plain u z k) h)
      (run (it ∷ []) u) (run_stays (it ∷ []) u r))

  clear_lasts : LastsInside IsClear
  clear_lasts (kinds.Answered c op answer) u q h = by answer
    where
      by : (answer : AppAnswer) → OnSome IsClear (volume.step u (kinds.Answered c op answer))
      by answers.Hard =
          one_run u (kinds.Answered c op answers.Hard)
          (on_more (TellsOf c op answers.Hard told_hard u) IsClear
          (λ z k. clear_on (told_hard k.ask) u z (block_tells (told_hard k.ask) u z k.log) h)
          (run (kinds.Answered c op answers.Hard ∷ []) u) (hard_tells c op u))
      by (answers.Lost rows) =
          one_run u (kinds.Answered c op (answers.Lost rows))
          (on_more (TellsOf c op (answers.Lost rows) (told_lost rows) u) IsClear
          (λ z k. clear_on (told_lost rows k.ask) u z (block_tells (told_lost rows k.ask) u z k.log)
          h) (run (kinds.Answered c op (answers.Lost rows) ∷ []) u)
          (lost_tells c op rows u))
      by answer = plain_clear (kinds.Answered c op answer) u refl h
  clear_lasts (kinds.TakesEffect c op) u q h = plain_clear (kinds.TakesEffect c op) u refl h
  clear_lasts (kinds.Joined i c what) u q h = plain_clear (kinds.Joined i c what) u refl h
  clear_lasts (kinds.Hardened i) u q h = plain_clear (kinds.Hardened i) u refl h
  clear_lasts (kinds.Dropped i cause) u q h = plain_clear (kinds.Dropped i cause) u refl h
  clear_lasts it u q h = cc q

  -- and not before the lines, if nobody crashes
  clear_start : (e : Event) (v y : Volume) → IsLogOf w.log v → AllOwn w e v y → IsClear y
  clear_start e v y a own n g none i = go (own n g i)
    where
      go : Was (Own w e n) v.log n g → g.crashed ≡ false
      go (inr k) = k.1.crashed
      go (inl (f, q, k)) =
          absurd (subst (λ z. AtBoth z (Some f)) none
          (subst (λ z. AtBoth (slice_get w.log n) z) q (same_at w.log v.log n a.entries)))

-- The latest entry of a page of an association, in a log.
record Latest (c : ClientId) (b : Association) (ino : ℕ) (p : PageNo) (fs : List LogEntry) : Type 0
  where
    n : ℕ
    index : latest fs c (file_at b ino) p ≡ suc n
    o : LogEntry
    at : slice_get fs n ≡ Some o
    own : o.of ≡ owner_at_page c b ino p
    change : is_change o ≡ true

module _ (v : World) (c : ClientId) (born : 1 ≤ c.0) (b : Association)
    (present : ev.present_life v c b.server ≡ b.life) (ino : ℕ) (p : PageNo) where
  abbrev Its : List LogEntry → Type 0
  Its = Latest c b ino p

  abbrev changes_it : Observation → Bool
  changes_it = is_change_of c b.server ino p

  -- lines that don't change the page
  latest_stays : (xs : List Observation) (fs : List LogEntry) → list_any changes_it xs ≡ false →
      Its fs → Its (lines.log_told v fs xs)
  latest_stays xs fs q h =
      let k = lines_back v fs xs h.n h.o h.at in
      record {
        n = h.n;
        index = latest_on v c b.server ino p born xs fs q ∙ h.index;
        o = k.0;
        at = k.1;
        own = k.2.of ∙ h.own;
        change = ap ev.changes_page k.2.change ∙ h.change;
      }

  -- a line that does
  added : (d : ClientId) (f : FileId) (q : PageNo) (ch : Change) (fs : List LogEntry) →
      (Words.Keys.same_client d c && is_page_at b.server ino p f q) ≡ true →
      ev.changes_page ch ≡ true → Its
      (fs ++ log.pending (log.owner d (ev.present_life v d f.server) f q) ch ∷ [])
  added d f q ch fs z y =
      record {
        n = length fs;
        index = entry_last c (file_at b ino) p fs new same;
        o = new;
        at = get_last fs new;
        own = own;
        change = y;
      }
    where
      new : LogEntry
      new = log.pending (log.owner d (ev.present_life v d f.server) f q) ch

      k : (Words.Keys.same_client d c ≡ true) × (is_page_at b.server ino p f q ≡ true)
      k = and_true (Words.Keys.same_client d c) (is_page_at b.server ino p f q) z

      client : d ≡ c
      client = client_is d c k.0

      file : f ≡ file_at b ino
      file = file_is f (file_at b ino)
          (and_true ((f.server.0 == b.server.0) && (f.ino == ino)) (q.0 == p.0) k.1).0

      page : q ≡ p
      page = ap (λ n. record { 0 = n })
          (eqb-true q.0 p.0
          (and_true ((f.server.0 == b.server.0) && (f.ino == ino)) (q.0 == p.0) k.1).1)

      own : new.of ≡ owner_at_page c b ino p
      own =
          ap (λ x. log.owner x (ev.present_life v x f.server) f q) client
          ∙ (ap (λ (x : FileId). log.owner c (ev.present_life v c x.server) x q) file
          ∙ (ap (λ x. log.owner c x (file_at b ino) q) present ∙
          ap (λ x. log.owner c b.life (file_at b ino) x) page))

      same : ev.is_entry_of c (file_at b ino) p new ≡ true
      same =
          subst (λ (x : LogOwner).
          (log.is_of_client c x &&
          (Words.Keys.same_file x.file (file_at b ino) && Words.Keys.same_page x.page p)) ≡
          true) (sym own)
          (Words.Tables.and_both (c.0 == c.0)
          (Words.Keys.same_file (file_at b ino) (file_at b ino) && Words.Keys.same_page p p)
          (Words.eq-eqb c.0 c.0 refl)
          (Words.Tables.and_both (Words.Keys.same_file (file_at b ino) (file_at b ino)) (p.0 == p.0)
          (Words.Tables.and_both (b.server.0 == b.server.0) (ino == ino)
          (Words.eq-eqb b.server.0 b.server.0 refl) (Words.eq-eqb ino ino refl))
          (Words.eq-eqb p.0 p.0 refl)))

  new_line : (x : Observation) (fs : List LogEntry) → changes_it x ≡ true →
      Its (lines.log_behind v fs x)
  unfolding lines.log_behind log.accept log.patch
  new_line (seen.Wrote i d f q bytes) fs z = added d f q (changes.Write bytes) fs z refl
  new_line (seen.Patched i d f q at bytes) fs z = added d f q (changes.Patch at bytes) fs z refl
  new_line x fs z = cc z

  latest_new : (xs : List Observation) (fs : List LogEntry) → list_any changes_it xs ≡ true →
      Its (lines.log_told v fs xs)
  unfolding lines.log_told
  latest_new [] fs q = cc q
  latest_new (x ∷ xs) fs q = go (list_any changes_it xs) refl (changes_it x) refl q
      (latest_new xs (lines.log_behind v fs x))
    where
      go : (k : Bool) → list_any changes_it xs ≡ k → (y : Bool) → changes_it x ≡ y →
          (y || k) ≡ true →
          (list_any changes_it xs ≡ true → Its (lines.log_told v (lines.log_behind v fs x) xs)) →
          Its (lines.log_told v (lines.log_behind v fs x) xs)
      go true z y i j r = r z
      go false z true i j r = latest_stays xs (lines.log_behind v fs x) z (new_line x fs i)
      go false z false i j r = cc j

-- An event in which a client takes a step.
module _ (past : List Step) (t : Traced) (e : Event) (sc : WorldTurn) (it : Witness)
    (f : world_step t.world e ≡ Ok sc) (g : Known past (step t e sc))
    (h : RowsHold past t it) (v : Volume) (m : AllOf past t v) (full : FullLines past (step t e sc))
    (r : Stepping t.world e sc)
    (s : SiteStep t.world sc r.client) where
  abbrev w : World
  w = t.world

  abbrev x' : Step
  x' = step t e sc

  abbrev c : ClientId
  c = r.client

  abbrev State : List Observation → List Observation → List LogEntry → Volume → Type 0
  State = owing.State past t e sc f it h.met g.1.0.0 v m.log_ m.asked m.marked m.met m.wait g.0.0.0
      r s

  abbrev J : List Observation → List LogEntry → Volume → Type 0
  J = owing.J past t e sc f it h.met g.1.0.0 v m.log_ m.asked m.marked m.met m.wait g.0.0.0 r s

  lives : LivesHold w
  lives = h.met.failures.stand.stand.fates.lives

  born : 1 ≤ c.0
  born = (numbered_below w.clients c.0 s.site s.there).0

  -- the present life after the event
  present : (b : Association) → Has b s.after.node.state.associations →
      ev.present_life sc.world c b.server ≡ b.life
  present b i =
      ap (ev.life_of_site b.server) s.left
      ∙ ap world.life_at
      (own_found s.after.node.state.associations
      (g.1.0.0.lives.lives.sites c s.after s.left).once b i)

  -- the latest entry of a page that was dirty before
  old_latest : (b : Association) (ino : ℕ) (p : PageNo) → WasDirty w c b ino p →
      Latest c b ino p w.log
  old_latest b ino p was = go (latest w.log c (file_at b ino) p) refl owner
    where
      owner : owner_at w.log (latest w.log c (file_at b ino) p) ≡ Some (owner_at_page c b ino p)
      owner =
          subst (λ k. owner_at w.log (latest w.log c (record { server = k; ino = ino }) p) ≡ Some
          (log.owner c b.life (record { server = k; ino = ino }) p))
          was.server
          (h.met.failures.stand.stand.both.writes.latest_own c was.site was.there was.runs was.a
          was.has ino p was.page was.dirty
          ∙ ap (λ k. Some (log.owner c k (file_at was.a ino) p)) was.life)

      at_place : (n : ℕ) → latest w.log c (file_at b ino) p ≡ suc n → (o : Option LogEntry) →
          slice_get w.log n ≡ o →
          Words.option_map of_entry o ≡ Some (owner_at_page c b ino p) → Latest c b ino p w.log
      at_place n z None k q = cc q
      at_place n z (Some o) k q =
          let own : o.of ≡ owner_at_page c b ino p = some_is q in
          record {
            n = n;
            index = z;
            o = o;
            at = k;
            own = own;
            change =
                changed w.log n o h.met.failures.stand.entries.cuts k
                (subst (λ (y : LogOwner). 1 ≤ y.client.0) (sym own) born) (is_change o) refl;
          }

      go : (k : ℕ) → latest w.log c (file_at b ino) p ≡ k →
          owner_at w.log k ≡ Some (owner_at_page c b ino p) → Latest c b ino p w.log
      go Words.zero z q = cc q
      go (suc n) z q = at_place n z (slice_get w.log n) refl q

  -- One page, at the line of an answer.
  module _ (done rest : List Observation) (es : List LogEntry) (u : Volume)
      (st : State done rest es u) (j : J done es u)
      (is : lines.log_told sc.world w.log done ≡ es) (none : list_all tells_none done ≡ true)
      (clear : IsClear w u) (b : Association)
      (i : Has b s.after.node.state.associations) (ino : ℕ) (p : PageNo)
      (k : IsKeptIn past x' done c b ino p) where
    its : Latest c b ino p es
    its = subst (Latest c b ino p) is
        (by (list_any (is_change_of c b.server ino p) done) refl k.was)
      where
        by : (z : Bool) → list_any (is_change_of c b.server ino p) done ≡ z →
            WasDirty w c b ino p ⊎ (list_any (is_change_of c b.server ino p) done ≡ true) →
            Latest c b ino p (lines.log_told sc.world w.log done)
        by true q y = latest_new sc.world c born b (present b i) ino p done w.log q
        by false q (inl was) = latest_stays sc.world c born b (present b i) ino p done w.log q
            (old_latest b ino p was)
        by false q (inr y) = absurd (clash y q)

    entry : (f : Entry) × (slice_get u.log its.n ≡ Some f) × IsSame its.o f
    entry = first_at es u.log st.told.first its.n its.o its.at

    untold : entry.0.told ≡ false
    untold = j.live b i ino p k.page k.dirty its.n its.o entry.0 its.at entry.1 its.index its.own
        k.clean k.was

    dropped_gone : (z : world_fate.Fate) → is_dropped (fate_of z) ≡ true → log.counts z ≡ false
    dropped_gone (fates.Gone cause) q = refl
    dropped_gone fates.Pending q = cc q
    dropped_gone fates.Hard q = cc q

    kept : is_dropped entry.0.fate ≡ false
    kept = go (is_dropped entry.0.fate) refl
      where
        go : (z : Bool) → is_dropped entry.0.fate ≡ z → z ≡ false
        go false q = refl
        go true q =
            absurd
            (owing.not_gone past t e sc f it h.met g.1.0.0 v m.log_ m.asked m.marked m.met m.wait
            g.0.0.0 r s done rest es u st b i ino p its.n its.o
            its.at its.own is none (dropped_gone its.o.fate (ap is_dropped (sym entry.2.fate) ∙ q)))

    uncrashed : entry.0.crashed ≡ false
    uncrashed = at (slice_get w.log its.n) refl
      where
        x : (x : Association) × Has x s.site.node.state.associations ×
            LifeNext (clock_of w (nodes.Client c)) s.site.node.state x b
        x = stepped w e sc lives c s b i

        place : find (is_at b.server) s.site.node.state.associations ≡ Some x.0
        place =
            ap (λ y. find (is_at y) s.site.node.state.associations) (sym x.2.server)
            ∙ own_found s.site.node.state.associations (lives.lives.sites c s.site s.there).once x.0
            x.1

        old : (o : LogEntry) → slice_get w.log its.n ≡ Some o →
            (o.of ≡ its.o.of) × (is_change o ≡ true)
        old o q =
            let y = lines_back sc.world w.log done its.n o q in
            let same : y.0 ≡ its.o =
            some_is (sym y.1 ∙ (ap (λ zs. slice_get zs its.n) is ∙ its.at)) in (
              sym y.2.of ∙ ap (λ (z : LogEntry). z.of) same,
              ap ev.changes_page (sym y.2.change ∙ ap (λ (z : LogEntry). z.change) same) ∙
                  its.change,
            )

        over : (o : LogEntry) → slice_get w.log its.n ≡ Some o → (z : Bool) → entry.0.crashed ≡ z →
            z ≡ false
        over o q false y = refl
        over o q true y =
            let same = old o q in
            let past_life = j.over its.n o entry.0 q entry.1 same.1 y in
            let low = past_of w lives (owner_at_page c b ino p)
            (ap (is_over w.ended) (sym (same.0 ∙ its.own)) ∙ past_life) s.site x.0 s.there
            s.runs place in
            let up = next_life_upto (clock_of w (nodes.Client c)) s.site.node.state x.0 b x.2 in
            absurd (omega (arith, low, up))

        at : (o : Option LogEntry) → slice_get w.log its.n ≡ o → entry.0.crashed ≡ false
        at None q = clear its.n entry.0 q entry.1
        at (Some o) q = over o q entry.0.crashed refl

    has_entry : HasEntry u c b.server ino p
    has_entry = entry_has u c b ino p its.n its.o entry.0 entry.1 entry.2 its.change its.own untold
        uncrashed kept

  -- The answer.
  answered : (done os : List Observation) (es : List LogEntry) (u : Volume) (d : ClientId) (op : ℕ)
      →
      done ++ seen.Answered d op answers.DirtyFull ∷ os ≡ sc.seen →
      lines.log_told sc.world w.log done ≡ es → list_all tells_none done ≡ true →
      State done (seen.Answered d op answers.DirtyFull ∷ os) es u → J done es u → IsClear w u →
      FullFact answers.DirtyFull d op u
  answered done os es u d op q is none st j clear a found = on mine at
    where
      mine : d ≡ c
      mine = answer_mine w sc lives c s d op answers.DirtyFull done os q

      at : IsFullIn past x' done d op
      at = line_at (IsFullIn past x') [] done os (seen.Answered d op answers.DirtyFull)
          (subst (AllLines (IsFullIn past x') []) (sym q) full)

      asked : (a.client ≡ d) × (ask_of past x' d op ≡ Some a.ask)
      asked = owing.its_ask past t e sc f it h.met g.1.0.0 v m.log_ m.asked m.marked m.met m.wait
          g.0.0.0 r s u st.asked d op a found

      on : d ≡ c → IsFullIn past x' done d op → is_dirty_full u a ≡ true
      on same z = full_now
        where
          z' : IsFullIn past x' done c op
          z' = subst (λ k. IsFullIn past x' done k op) same z

          its_ask : z'.ask ≡ a.ask
          its_ask = some_is (sym z'.known ∙ (ap (λ k. ask_of past x' k op) (sym same) ∙ asked.1))

          here : Has z'.b s.after.node.state.associations
          here = subst (λ (y : WorldClient). Has z'.b y.node.state.associations)
              (some_is (sym z'.there ∙ s.left)) z'.has

          full_now : is_dirty_full u a ≡ true
          full_now =
              is_full u c z'.b.server z'.ds z'.alone
              (λ y i. has_entry done (seen.Answered d op answers.DirtyFull ∷ os) es u st j is none
              clear z'.b here y.ino y.page (z'.each y i)) a
              (asked.0 ∙ same) z'.f z'.p (ap place_of (sym its_ask) ∙ z'.place) z'.own z'.many

  -- All lines, and all steps.
  abbrev Clearly : VolumeStep → Volume → Type 0
  Clearly it u = IsClear w u → IsOfFull it u

  full_silent : OfAnswers IsOfFull
  full_silent (kinds.Answered c op answer) u q = cc
  full_silent it u q = tt

  clearly_silent : OfAnswers Clearly
  clearly_silent it u q = λ k. full_silent it u q

  one_line : (done : List Observation) (o : Observation) (os : List Observation)
      (es : List LogEntry) (u : Volume) → done ++ o ∷ os ≡ sc.seen →
      lines.log_told sc.world w.log done ≡ es → list_all tells_none done ≡ true →
      IsLossTold past x' done o → State done (o ∷ os) es u → J done es u →
      AtEachStep Clearly (block w o os) u
  one_line done o os es u q z n i st j =
      block_by Clearly clearly_silent w o os u
      (λ d op answer k. by d op answer (subst (λ y. done ++ y ∷ os ≡ sc.seen) k q)
      (subst (λ y. State done (y ∷ os) es u) k st))
    where
      by : (d : ClientId) (op : ℕ) (answer : AppAnswer) →
          done ++ seen.Answered d op answer ∷ os ≡ sc.seen →
          State done (seen.Answered d op answer ∷ os) es u →
          Clearly (kinds.Answered d op answer) u
      by d op answers.DirtyFull q2 st2 = λ clear. answered done os es u d op q2 z n st2 j clear
      by d op answer q2 st2 = λ clear. tt

  abbrev counts : length sc.world.commands ≡ length sc.world.disks.commands
  counts = (one_step past t e sc f h.met.failures.stand.places
      h.met.failures.stand.stand).stand.both.writes.commands.counts

  abbrev Begun : Volume → Type 0
  Begun = owed.Begun past t e sc f it h.met g.1.0.0 counts v m.log_ m.asked m.marked m.met m.wait
      g.0.0.0 m.carried_ m.over h.late h.once
      m.rows.untold_ m.rows.apart_ m.rows.rows_ r s g.1.1.0 m.agree
      (open_left past t e sc it f h.asks) g.0.1.1

  begun_on : OnSome Begun (run (of_event w e) v)
  begun_on = owed.begun_on past t e sc f it h.met g.1.0.0 counts v m.log_ m.asked m.marked m.met
      m.wait g.0.0.0 m.carried_ m.over h.late h.once
      m.rows.untold_ m.rows.apart_ m.rows.rows_ r s g.1.1.0 m.agree
      (open_left past t e sc it f h.asks) g.0.1.1

  silent : list_all tells_none sc.seen ≡ true
  silent = owed.silent past t e sc f it h.met g.1.0.0 counts v m.log_ m.asked m.marked m.met m.wait
      g.0.0.0 m.carried_ m.over h.late h.once
      m.rows.untold_ m.rows.apart_ m.rows.rows_ r s g.1.1.0 m.agree
      (open_left past t e sc it f h.asks) g.0.1.1

  served : of_delivery it.behind v w e ≡ []
  served = owed.none past t e sc f it h.met g.1.0.0 counts v m.log_ m.asked m.marked m.met m.wait
      g.0.0.0 m.carried_ m.over h.late h.once
      m.rows.untold_ m.rows.apart_ m.rows.rows_ r s g.1.1.0 m.agree
      (open_left past t e sc it f h.asks) g.0.1.1

  lines_full : (y : Volume) → Begun y → IsClear w y → AtEachStep IsOfFull (of_lines w sc.seen) y
  unfolding lines.log_told
  lines_full y k clear =
      each_more (λ it u. IsClear w u × Clearly it u) IsOfFull (λ it u z. z.1 z.0)
      (of_lines w sc.seen) y
      (at_two (λ it u. IsClear w u) Clearly (of_lines w sc.seen) y
      (lasting_at (IsClear w) (clear_lasts w) (of_lines w sc.seen) y (lines_inside w sc.seen) clear)
      (losing.lines_J past t e sc f it h.met g.1.0.0 v m.log_ m.asked m.marked m.met m.wait g.0.0.0 r
      s h.late h.once k.all Clearly one_line [] sc.seen
      w.log y refl silent refl g.0.1.1 refl k.state k.its).0)

  steps_full : AtEachStep IsOfFull (steps_of it v x') v
  steps_full =
      subst (λ its. AtEachStep IsOfFull (of_event w e ++ (its ++ of_lines w sc.seen)) v)
      (sym served)
      (at_both IsOfFull (of_event w e) (of_lines w sc.seen) v
      (at_silent IsOfFull full_silent (of_event w e) v (event_silent w e))
      (on_more (λ y. Begun y × AllOwn w e v y) (AtEachStep IsOfFull (of_lines w sc.seen))
      (λ y k. lines_full y k.0 (clear_start w e v y m.log_ k.1)) (run (of_event w e) v)
      (on_both Begun (AllOwn w e v) (run (of_event w e) v) begun_on
      (own_steps past t e sc f h.met.failures.stand g.0.0.0 v m.log_ m.carried_))))

-- Any event.
event_full : (past : List Step) (t : Traced) (e : Event) (sc : WorldTurn) (it : Witness) →
    world_step t.world e ≡ Ok sc → Known past (step t e sc) →
    RowsHold past t it → FullLines past (step t e sc) → (v : Volume) → AllOf past t v →
    AtEachStep IsOfFull (steps_of it v (step t e sc)) v
event_full past t e sc it f g h full v m = by (event_clients t.world e sc f).who
  where
    silent : OfAnswers IsOfFull
    silent (kinds.Answered c op answer) u q = cc
    silent it u q = tt

    by : ((r : Stepping t.world e sc) × SiteStep t.world sc r.client) ⊎
        (list_all is_mute sc.seen ≡ true) →
        AtEachStep IsOfFull (steps_of it v (step t e sc)) v
    by (inl (r, s)) = steps_full past t e sc it f g h v m full r s
    by (inr q) =
        at_silent IsOfFull silent (steps_of it v (step t e sc)) v
        (silent_both (of_event t.world e)
        (of_delivery it.behind v t.world e ++ of_lines t.world sc.seen) (event_silent t.world e)
        (silent_both (of_delivery it.behind v t.world e) (of_lines t.world sc.seen)
        (delivery_silent it.behind v t.world e)
        (mute_silent t.world sc.seen q)))

-- In every run.
abbrev FullAsksAreFull : Promise
FullAsksAreFull = AtEachStepOf IsOfFull

FullToo : List Step → Step → Witness → Type 0
FullToo past x it = OnSome (λ v. AtEachStep IsOfFull (steps_of it v x) v) it.volume

full_given : IsGiven (λ past x. Known past x × FullLines past x) RowsHold FullToo
unfolding FullToo
full_given past t e sc it f g h = (
  on_more (AllOf past t) (λ v. AtEachStep IsOfFull (steps_of it v (step t e sc)) v)
      (λ v m. event_full past t e sc it f g.0 h g.1 v m) it.volume
      (all_of past t it h),
  rows_kept past t e sc it f g.0 h,
)

full_asks : EveryRunIsSafe → InEveryRun PagesAfter → InEveryRun FullAsksAreFull
unfolding FullToo begun
full_asks safe pages k clients servers disks blocks form es head events =
    let t : Traced = traced (fresh_world k clients servers disks blocks form) in
    given_in (λ past x. Known past x × FullLines past x) RowsHold FullToo full_given es t
    (rows_begin k clients servers disks blocks form)
    (throughout_both Known FullLines [] (steps es t)
    (owed.known_in k clients servers disks blocks form es head events safe pages)
    (full_lines k clients servers disks blocks form es head events))

-- The answer is taken.
placed : (ask : Ask) → is_some (place_of ask) ≡ true → is_cut_or_name ask ≡ false
placed (asks.Write f p bytes) q = refl
placed (asks.Patch f p at bytes) q = refl
placed (asks.Read f p) q = refl
placed (asks.Sync f) q = refl
placed (asks.Cut f p) q = cc q
placed (asks.Name s ask) q = cc q

undone : (a : Pending) (u : Volume) → is_dirty_full u a ≡ true → may_have_result a ≡ true →
    a.result ≡ None
undone a u q m =
    go a.result
    (ap (λ k. k || not (is_some a.result))
    (sym (placed a.ask (and_true (is_some (place_of a.ask)) _ q).0)) ∙ m)
  where
    go : (o : Option AppAnswer) → (false || not (is_some o)) ≡ true → o ≡ None
    go None z = refl
    go (Some x) z = cc z

full_taken : (it : VolumeStep) (u : Volume) →
    KnownOf (λ it u. ResultFits it u × IsOfFull it u) it u → Takes is_dirty_full_answer it u
full_taken (kinds.Answered c op answer) u h = by answer h
  where
    by : (answer : AppAnswer) → KnownOf (λ it u. ResultFits it u × IsOfFull it u)
        (kinds.Answered c op answer) u →
        Takes is_dirty_full_answer (kinds.Answered c op answer) u
    by answers.DirtyFull h = λ w. takes u c op answers.DirtyFull h.0 h.1.0 one
      where
        one : (a : Pending) → find (is_ask c op) u.pending ≡ Some a →
            answers_so u a answers.DirtyFull a.result ≡ true
        one a q =
            ap (answers_so u a answers.DirtyFull) (undone a u (h.1.1.1 a q) (h.1.1.0 a q)) ∙
            h.1.1.1 a q
    by answer h = λ w. cc w
full_taken it u h = λ w. cc w

pub dirty_full_answers_are_taken : EveryRunIsSafe → InEveryRun PagesAfter →
    InEveryRun (StepsAreTaken is_dirty_full_answer)
dirty_full_answers_are_taken safe pages =
    in_runs FilesAreAnsweredWithoutResults FullAsksAreFull is_dirty_full_answer safe
    (λ past x l o a b.
    taken_of is_dirty_full_answer (λ it u. ResultFits it u × IsOfFull it u) full_taken past x l o
    (both_of ResultFits IsOfFull past x a b))
    (files_are_answered_without_results safe) (full_asks safe pages)
