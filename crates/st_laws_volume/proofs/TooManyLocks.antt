-- In every run the volume takes each answer `toomanylocks`: a server refused a request of the client
-- for a lock, since the client had locks of 1,024 other files, or waited for them; and it was asked
-- of each.
use Rattle.st_lemmas.proofs.Words
use Words.{◌≡◌, ◌⊎◌, ℕ, ◌+◌, ◌≤◌, arith, true, not, ◌&&◌, ◌==◌, List, [], ◌∷◌, ◌++◌, Option, Some, Ok, refl, sym, ap, ◌∙◌, subst, inl, inr}
use Words.{eq-eqb, find, length, list_all, nat_lt, AppAnswer, Ask, Body, ClientId, Event, FileId, Header, Mode, ServerId, Stamp}
use Words.answers
use Words.bodies
use Words.why
use Words.ClientState as cs
use Words.ClientState.{Association, is_refusal}
use Words.Events.{WorldTurn, world_step}
use Words.History.{Traced, traced, traced_after}
use Words.Keys.{same_server}
use Words.Lists.{Has}
use Words.Locks as locks
use Words.Lookups.{some_is}
use Words.Numbers.{numbered_has}
use Words.Safety.{Promise, Step, all_answered_once, all_followed, step}
use Words.Server as sv
use Words.Server.{ServerTurn}
use Words.Tables.{and_both, and_true, each_passes, found_at, has_append, not_true}
use Words.Truth.{clash, client_is}
use Words.World.{World, fresh_world, numbered}
use Rattle.st_messages.specs.Ranges.{is_ask as is_ask_in_range}
use Rattle.st_lemmas.proofs.Keys.{rising_rises}
use Rattle.st_lemmas.proofs.Tests.{all_last}
use Rattle.st_protocol.specs.Assoc as net
use Rattle.st_promises.specs.Safe.{EveryRunIsSafe}
use Rattle.st_laws_pages.specs.Asks.Law.{PlacesHold}
use Rattle.st_laws_pages.proofs.Asks.World.{asks_of}
use Rattle.st_laws_pages.proofs.Causes.Law.{Stand, fresh_places, fresh_stand, one_step}
use Rattle.st_laws_refine.specs.Server.Pair.{terms_of}
use Rattle.st_laws_grants.specs.Owners.{AllGiveOnce}
use Rattle.st_laws_names.specs.Keys.{behind_thefts, now_at}
use Rattle.st_laws_names.proofs.Facts.{FactsHold}
use Rattle.st_laws_volume.specs.AnswerKinds.{IsOfUndone, ResultsAreAnswered, is_too_many_locks}
use Rattle.st_laws_volume.specs.Logs.{InEveryRun}
use Rattle.st_laws_volume.specs.Options.{OnSome}
use Rattle.st_laws_volume.specs.StepKinds.{AtEachStep, AtEachStepOf, StepsAreTaken}
use Rattle.st_laws_volume.specs.Witness.{Witness, led_by, steps_of}
use Rattle.st_laws_volume.proofs.AnswerCauses.{IsOfFile, IsRefusal, Says}
use Rattle.st_laws_volume.proofs.AnswerFacts.{AllOf, FactsOf, Known, all_of, facts_begin, facts_on, known_in}
use Rattle.st_laws_volume.proofs.AnswerLines.{LastsInside, Takes, step_of}
use Rattle.st_laws_volume.proofs.AskWords.{file_words, sync_words}
use Rattle.st_laws_volume.proofs.AskedFiles.{AllThere, asked_after, event_asked, step_asked}
use Rattle.st_laws_volume.proofs.AskedLocks.{AreAsked, TablesAsked, WasAsked, asked_begins, asked_on, tables_more, tables_now}
use Rattle.st_laws_volume.proofs.AskedWaits.{Fewer, thefts_fewer}
use Rattle.st_laws_volume.proofs.Carried.{IsGiven, given_in}
use Rattle.st_laws_volume.proofs.ChangeLines.{on_both}
use Rattle.st_laws_volume.proofs.EventAnswers.{Given, Stepping, event_answers}
use Rattle.st_laws_volume.proofs.FileReplies as replied
use Rattle.st_laws_volume.proofs.FileReplies.{Answers, answers}
use Rattle.st_laws_volume.proofs.GrantOwners.{fresh_gives, gives_on}
use Rattle.st_laws_volume.proofs.LeftAnswers as left
use Rattle.st_laws_volume.proofs.LeftAnswers.{both_of, in_runs, taken_of, takes}
use Rattle.st_laws_volume.proofs.ManyFiles.{HasRow, Has_it, IsAtLimit, Waits, asked_of_many, at_limit, file_of, many_files, other_files}
use Rattle.st_laws_volume.proofs.NameReplies.{IsNamed, NameReplied, RemovesNot}
use Rattle.st_laws_volume.proofs.NoFileAnswers.{has_inode}
use Rattle.st_laws_volume.proofs.OpenAnswers.{OfAnswers, open_left}
use Rattle.st_laws_volume.proofs.Options.{on_all, on_more}
use Rattle.st_laws_volume.proofs.ReadRanges.{asks_in_range, is_in_range}
use Rattle.st_laws_volume.proofs.RefusedRequests.{RefusedBy, refused_by}
use Rattle.st_laws_volume.proofs.SessionEpochs.{EpochsRight}
use Rattle.st_laws_volume.proofs.StepAnswers as stepping
use Rattle.st_laws_volume.proofs.StepAnswers.{before, event_answered, start}
use Rattle.st_laws_volume.proofs.UnresultedAnswers.{results_are_answered}
use Rattle.st_volume.specs.declared.step.VolumeStep.{VolumeStep}
use Rattle.st_volume.specs.declared.step.VolumeStep.TheVariants as kinds
use Rattle.st_volume.specs.Volume as volume
use Rattle.st_volume.specs.Volume.{Pending, Volume, answers_so, is_ask, is_too_many, run}

-- What holds at each such answer.
abbrev IsOfTooMany : VolumeStep → Volume → Type 0
IsOfTooMany (kinds.Answered c op answers.TooManyLocks) u = (a : Pending) →
    find (is_ask c op) u.pending ≡ Some a → is_too_many u a ≡ true
IsOfTooMany it u = Unit {0}

many_silent : OfAnswers IsOfTooMany
many_silent (kinds.Answered c op answer) u q = cc
many_silent it u q = tt

-- A request that is refused so is for a lock.
record AsksLock (b : Body) : Type 0 where
  ino : ℕ
  mode : Mode
  asks : b ≡ bodies.Acquire ino mode

module _ (t : ServerTurn) (h : Header) (b : Body) (x n : ℕ) where
  abbrev Says_so : Option Body → Type 0
  Says_so r = r ≡ Some (bodies.Nack why.TooManyLocks x n)

  asks_lock : (r : Option Body) → Answers t h b r → Says_so r → AsksLock b
  asks_lock _ replied.IsSilent q = cc q
  asks_lock _ (replied.IsDone r f) q = absurd (clash (ap is_refusal (some_is q)) f)
  asks_lock _ (replied.IsNoFile i e f) q = cc q
  asks_lock _ (replied.HoldsNot i g mode e f k) q = cc q
  asks_lock _ (replied.HasTooMany i mode e) q = record { ino = i; mode = mode; asks = e }
  asks_lock _ (replied.HasNoSpace i g p count free w e f) q = cc q
  asks_lock r (replied.IsOfName op _ e k) q = absurd (named r k q)
    where
      named : (r : Option Body) → NameReplied t h op r → Says_so r → ⊥
      named _ (IsNamed reply) q = cc q
      named _ (RemovesNot dir name g i is l f k) q = cc q

-- What holds of an event.
module _ (k : net.Config) (count : ℕ) (past : List Step) (t : Traced) (e : Event) (sc : WorldTurn)
    (happened : world_step t.world e ≡ Ok sc)
    (facts : FactsHold k count past t)
    (n : FactsHold k count (past ++ step t e sc ∷ []) (traced_after e t sc))
    (right : EpochsRight t.world) (it : Witness)
    (ranges_ : list_all (is_in_range count) (past ++ step t e sc ∷ []) ≡ true)
    (tables : (y : Step) → Has y past →
    TablesAsked (asks_of (past ++ step t e sc ∷ [])) y.before.world) (v : Volume) where
  abbrev w : World
  w = t.world

  abbrev as_ : ClientId → List Ask
  as_ = asks_of (past ++ step t e sc ∷ [])

  there_lasts : LastsInside (AllThere as_)
  there_lasts it u q h =
      on_more (λ z. (y : ClientId × FileId) → Has y u.asked → Has y z.asked) (AllThere as_)
      (λ z kept c ask i. kept (c, volume.file_of ask) (h c ask i)) (volume.step u it)
      (step_asked u it)

  abbrev IsHere : Stepping w e sc → Volume → Given → Pending → Type 0
  IsHere = stepping.IsGiven k count past t e sc happened facts n right it v (AllThere as_)
      there_lasts IsOfTooMany many_silent

  abbrev asks_then : Stepping w e sc → List (ℕ × Ask)
  asks_then = start k count past t e sc happened facts n right it v (AllThere as_) there_lasts
      IsOfTooMany many_silent

  abbrev had : Stepping w e sc → List Association
  had = before k count past t e sc happened facts n right it v (AllThere as_) there_lasts
      IsOfTooMany many_silent

  module _ (r : Stepping w e sc) (u : Volume) (g : Given) (a : Pending) (h : IsHere r u g a)
      (x m : ℕ)
      (f : IsRefusal w r.client (asks_then r) r.input (had r) g.op why.TooManyLocks x m IsOfFile)
    where
      abbrev s : ServerId
      s = f.association.server

      abbrev c : ClientId
      c = r.client

      z : RefusedBy past c s f.request.body (bodies.Nack why.TooManyLocks x m)
      z =
          refused_by k count past t facts r.client r.site r.at r.runs e r.input r.takes (asks_then r)
          g.op why.TooManyLocks x m refl IsOfFile f

      abbrev now : Stamp
      now = now_at z.y.before.world s

      abbrev turn : ServerTurn
      turn = behind_thefts z.y.before.world s z.served.serves.old.state

      abbrev header : Header
      header = z.served.sent.message.header

      lock : AsksLock z.served.sent.message.body
      lock =
          asks_lock turn header z.served.sent.message.body x m
          (sv.rule turn now header z.served.sent.message.body).reply
          (answers turn now header z.served.sent.message.body) z.served.serves.replied

      sender_is : sv.sender header ≡ c
      sender_is = ap (λ d. record { 0 = d }) z.served.serves.keyed.between.0

      limit : IsAtLimit turn c lock.ino
      limit =
          subst (λ d. IsAtLimit turn d lock.ino) sender_is
          (at_limit turn now header lock.ino lock.mode x m
          (subst (λ b. (sv.rule turn now header b).reply ≡ Some (bodies.Nack why.TooManyLocks x m))
          lock.asks z.served.serves.replied))

      abbrev files : List ℕ
      files = locks.files_of turn.state.locks c

      fewer : Fewer z.served.serves.old.state.locks turn.state.locks
      fewer = thefts_fewer z.served.serves.old.state now

      table : TablesAsked as_ z.y.before.world
      table = tables z.y z.among

      many : 1024 ≤ length files
      many =
          let l = many_files turn.state.locks c lock.ino limit.row limit.place in
          let p = fewer.limit in
          let q = (table.waits s z.served.serves.old z.served.serves.was).limit in
          omega (arith, l, p, q)

      -- a file of the client was asked of
      asked_of : (i : ℕ) → Has i files → WasAsked as_ c s i
      asked_of i j = by (file_of turn.state.locks c i j)
        where
          by : Has_it turn.state.locks c i → WasAsked as_ c s i
          by (HasRow y l client its) =
              subst (λ d. WasAsked as_ d s i) client
              (subst (λ p. WasAsked as_ y.client s p) its
              (table.rows s z.served.serves.old z.served.serves.was z.served.serves.running y
              (fewer.rows y l)))
          by (Waits y l client its) =
              subst (λ d. WasAsked as_ d s i) client
              (subst (λ p. WasAsked as_ y.client s p) its
              ((table.waits s z.served.serves.old z.served.serves.was).waits y (fewer.waits y l)))

      -- so the volume knows of it
      known : (i : ℕ) (ask : Ask) → Has ask (as_ c) →
          (same_server (cs.server_of ask) s && cs.is_file i (cs.file_of ask)) ≡ true →
          (nat_lt 0 i ≡ true) × Has (c, record { server = s; ino = i }) u.asked
      known i ask j q = (
        has_inode s i ask q
            (each_passes is_ask_in_range (as_ c)
            (asks_in_range count c (past ++ step t e sc ∷ []) ranges_) ask j),
        subst (λ (y : FileId). Has (c, y) u.asked) (file_words s i ask q) (h.lasting c ask j),
      )

      parts : ((same_server (cs.server_of f.ask) s && cs.is_file f.concerns.0 (cs.file_of f.ask)) ≡
          true) × (not (cs.is_sync f.ask) ≡ true)
      parts = and_true
          (same_server (cs.server_of f.ask) s && cs.is_file f.concerns.0 (cs.file_of f.ask))
          (not (cs.is_sync f.ask)) f.concerns.2

      ino_is : f.concerns.0 ≡ lock.ino
      ino_is = some_is
          (sym f.concerns.1 ∙ ap (cs.file_asked f.session.cutting) (sym z.asks ∙ lock.asks))

      its_file : (same_server (cs.server_of f.ask) s && cs.is_file lock.ino (cs.file_of f.ask)) ≡ true
      its_file =
          subst (λ i. (same_server (cs.server_of f.ask) s && cs.is_file i (cs.file_of f.ask)) ≡ true)
          ino_is parts.0

      there : (i : ℕ) → (i ≡ lock.ino) ⊎ Has i files →
          (nat_lt 0 i ≡ true) × Has (c, record { server = s; ino = i }) u.asked
      there i (inl q) =
          subst (λ y. (nat_lt 0 y ≡ true) × Has (c, record { server = s; ino = y }) u.asked) (sym q)
          (known lock.ino f.ask (numbered_has (as_ c) g.op f.ask (h.all c (g.op, f.ask) f.known))
          its_file)
      there i (inr j) =
          let o = asked_of i j in
          known i o.0 o.1
          (and_both (same_server (cs.server_of o.0) s) (cs.is_file i (cs.file_of o.0))
          (eq-eqb (cs.server_of o.0).0 s.0 (ap (λ (y : ServerId). y.0) o.2.1))
          (ap (cs.is_file i) o.2.0 ∙ eq-eqb i i refl))

      ask_is : a.ask ≡ f.ask
      ask_is = some_is
          (sym h.asked ∙ (ap (λ d. numbered (as_ d) g.op) h.fits.0 ∙ h.all c (g.op, f.ask) f.known))

      mine : a.client ≡ c
      mine =
          client_is a.client g.client
          (and_true (a.client.0 == g.client.0) (a.op == g.op)
          (found_at (is_ask g.client g.op) u.pending a h.found).0).0
          ∙ h.fits.0

      too_many : is_too_many u a ≡ true
      too_many =
          asked_of_many u c s lock.ino files
          (rising_rises _)
          (other_files turn.state.locks c lock.ino limit.row limit.place) many there a mine
          (ap volume.file_of ask_is ∙ file_words s lock.ino f.ask its_file)
          (ap volume.is_sync ask_is ∙ (sync_words f.ask ∙ not_true (cs.is_sync f.ask) parts.1))

  one : (r : Stepping w e sc) (u : Volume) (g : Given) (a : Pending) → IsHere r u g a →
      IsOfTooMany (step_of g) u
  one r u g a h = by g.answer h.fits.1
    where
      by : (answer : AppAnswer) → Says w r.client (asks_then r) r.input (had r) g.op answer →
          IsOfTooMany (kinds.Answered g.client g.op answer) u
      by answers.TooManyLocks says =
          λ b q. subst (λ y. is_too_many u y ≡ true) (some_is (sym h.found ∙ q))
          (too_many r u g a h says.0 says.1 says.2)
      by answer says = tt

-- In every run.
abbrev ManyAreAsked : Promise
ManyAreAsked = AtEachStepOf IsOfTooMany

ManyToo : List Step → Step → Witness → Type 0
ManyToo past x it = OnSome (λ v. AtEachStep IsOfTooMany (steps_of it v x) v) it.volume

record ManyHold (k : net.Config) (count : ℕ) (past : List Step) (t : Traced) (it : Witness) : Type 0
  where
    facts : FactsOf k count past t it
    ranges_ : list_all (is_in_range count) past ≡ true
    places : PlacesHold t.world
    stand : Stand past t
    gives : AllGiveOnce t.world
    are : AreAsked (asks_of past) t.world
    tables : (y : Step) → Has y past → TablesAsked (asks_of past) y.before.world
    there : OnSome (AllThere (asks_of past)) it.volume

many_on : (k : net.Config) (count : ℕ) → IsGiven (Known count) (ManyHold k count) ManyToo
unfolding ManyToo
many_on k count past t e sc it f g h = (
  on_more (λ v. AllOf past t v × AllThere (asks_of past) v)
      (λ v. AtEachStep IsOfTooMany (steps_of it v x') v)
      (λ v m. event_answered k count past t e sc f h.facts.unserved.facts after.unserved.facts
      h.facts.knows.right it v (AllThere (asks_of past2))
      (there_lasts k count past t e sc f h.facts.unserved.facts after.unserved.facts
      h.facts.knows.right it ranged tabled v) IsOfTooMany many_silent
      (one k count past t e sc f h.facts.unserved.facts after.unserved.facts h.facts.knows.right it
      ranged tabled v) m.0.log.lines m.0.agree m.0.asked
      (open_left past t e sc it f h.facts.asks)
      (and_true (all_answered_once past x' [] sc.seen) (all_followed sc.seen) g.0.1.0).1
      m.0.fine
      (event_asked past x' it v m.1) (event_answers t.world e sc f)) it.volume
      (on_both (AllOf past t) (AllThere (asks_of past)) it.volume (all_of k count past t it h.facts)
      h.there),
  record {
    facts = after;
    ranges_ = ranged;
    places = g.1.1.1;
    stand = (one_step past t e sc f h.places h.stand).stand;
    gives = gives_on k count past t e sc g.0.0 h.facts.unserved.facts.changes_.names_.all.base f
        h.gives;
    are = asked_on past t e sc h.facts.knows.dated h.stand h.gives h.are f;
    tables = tabled_all;
    there = asked_after past x' it h.there;
  },
)
  where
    x' : Step
    x' = step t e sc

    past2 : List Step
    past2 = past ++ x' ∷ []

    after : FactsOf k count (past ++ step t e sc ∷ []) (traced_after e t sc)
        (led_by it (step t e sc))
    after = facts_on k count past t e sc it f g h.facts

    ranged : list_all (is_in_range count) (past ++ step t e sc ∷ []) ≡ true
    ranged = all_last (is_in_range count) past (step t e sc) h.ranges_ g.0.0

    tabled : (y : Step) → Has y past →
        TablesAsked (asks_of (past ++ step t e sc ∷ [])) y.before.world
    tabled y i = tables_more past (step t e sc) y.before.world (h.tables y i)

    tabled_all : (y : Step) → Has y (past ++ step t e sc ∷ []) →
        TablesAsked (asks_of (past ++ step t e sc ∷ [])) y.before.world
    tabled_all y i = by (has_append past (step t e sc ∷ []) y i)
      where
        by : Has y past ⊎ Has y (step t e sc ∷ []) →
            TablesAsked (asks_of (past ++ step t e sc ∷ [])) y.before.world
        by (inl j) = tabled y j
        by (inr (inl q)) =
            subst (λ (y : Step). TablesAsked (asks_of (past ++ step t e sc ∷ [])) y.before.world)
            (sym q)
            (tables_now past t e sc h.facts.knows.dated h.stand h.gives h.are)
        by (inr (inr j)) = absurd j

many_are_asked : EveryRunIsSafe → InEveryRun ManyAreAsked
unfolding ManyToo
many_are_asked safe k clients servers disks blocks form es head events =
    let count : ℕ = clients + servers in
    given_in (Known count) (ManyHold (terms_of k) count) ManyToo (many_on (terms_of k) count) es
    (traced (fresh_world k clients servers disks blocks form))
    (record {
      facts = facts_begin k clients servers disks blocks form head;
      ranges_ = refl;
      places = fresh_places k clients servers disks blocks form;
      stand = fresh_stand k clients servers disks blocks form;
      gives = fresh_gives k clients servers disks blocks form;
      are = asked_begins k clients servers disks blocks form;
      tables = λ y i. absurd i;
      there = on_all (AllThere (asks_of [])) (λ v c ask i. absurd i) _;
    })
    (known_in k clients servers disks blocks form es head events
    (safe k clients servers disks blocks form es head events))

-- The answer is taken.
many_taken : (it : VolumeStep) (u : Volume) →
    left.Known (λ it u. IsOfUndone it u × IsOfTooMany it u) it u → Takes is_too_many_locks it u
many_taken (kinds.Answered c op answer) u h = by answer h
  where
    by : (answer : AppAnswer) → left.Known (λ it u. IsOfUndone it u × IsOfTooMany it u)
        (kinds.Answered c op answer) u →
        Takes is_too_many_locks (kinds.Answered c op answer) u
    by answers.TooManyLocks h = λ w. takes u c op answers.TooManyLocks h.0 h.1.0 one
      where
        one : (a : Pending) → find (is_ask c op) u.pending ≡ Some a →
            answers_so u a answers.TooManyLocks a.result ≡ true
        one a q = ap (answers_so u a answers.TooManyLocks) (h.1.1.0 refl a q) ∙ h.1.1.1 a q
    by answer h = λ w. cc w
many_taken it u h = λ w. cc w

pub too_many_answers_are_taken : EveryRunIsSafe → InEveryRun (StepsAreTaken is_too_many_locks)
too_many_answers_are_taken safe =
    in_runs ResultsAreAnswered ManyAreAsked is_too_many_locks safe
    (λ past x l o a b.
    taken_of is_too_many_locks (λ it u. IsOfUndone it u × IsOfTooMany it u) many_taken past x l o
    (both_of IsOfUndone IsOfTooMany past x a b))
    (results_are_answered safe) (many_are_asked safe)
