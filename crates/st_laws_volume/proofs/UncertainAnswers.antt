-- In every run the volume takes each answer `uncertain`: it goes to a cut or an ask for a name, and its epochs are epochs of the asked server.
use Rattle.std.proofs.Common.{◌≡◌, ◌≤◌, ◌<◌, ◌⊎◌, ℕ, ◌+◌, arith, true, ◌&&◌, ◌||◌, ◌==◌, List, [], ◌∷◌, ◌++◌, length, Option, Some, None, refl, sym, ap, ◌∙◌, subst, inl, inr, if◌then◌else◌, le-leb, lt-ltb}
use Rattle.std.specs.Prelude.{filter, find, is_some, nat_le, nat_lt, option_and_then}
use Rattle.std.proofs.lemmas.Bool.{eq-eqb}
use Rattle.st_base.specs.declared.ids.ClientId.{ClientId}
use Rattle.st_base.specs.declared.ids.ServerId.{ServerId}
use Rattle.st_base.specs.declared.ids.Stamp.{Stamp}
use Rattle.st_base.specs.declared.names.NameAsk.{NameAsk}
use Rattle.st_base.specs.declared.names.NameAsk.TheVariants as names
use Rattle.st_messages.specs.declared.answer.AppAnswer.{AppAnswer}
use Rattle.st_messages.specs.declared.answer.AppAnswer.TheVariants as answers
use Rattle.st_messages.specs.declared.ask.Ask.{Ask}
use Rattle.st_messages.specs.declared.ask.Ask.TheVariants as asks
use Rattle.st_messages.specs.declared.event.Event.{Event}
use Rattle.st_messages.specs.declared.output.Output.{Output}
use Rattle.st_messages.specs.declared.output.Output.TheVariants as outputs
use Rattle.st_rules.specs.declared.client.ClientInput.{ClientInput}
use Rattle.st_rules.specs.declared.client.ClientInput.TheVariants as inputs
use Rattle.st_rules.specs.declared.client.Operation.{Operation}
use Rattle.st_rules.specs.Client as cl
use Rattle.st_rules.specs.ClientState as cs
use Rattle.st_rules.specs.ClientState.{Association}
use Rattle.st_rules.specs.Events.{WorldTurn}
use Rattle.st_rules.specs.History.{Traced, traced}
use Rattle.st_rules.specs.Safety.{Promise, Step, TheReportTellsTheLog, step, steps}
use Rattle.st_rules.specs.World as world
use Rattle.st_rules.specs.World.{World, WorldClient, fresh_world, site_of}
use Rattle.st_lemmas.specs.Lists.{Has}
use Rattle.st_lemmas.proofs.Lookups.{if_true, or_left, or_right, some_is}
use Rattle.st_lemmas.proofs.Numbers.{numbered_has}
use Rattle.st_lemmas.proofs.Tables.{and_both, has_map_in}
use Rattle.st_promises.specs.Safe.{EveryRunIsSafe, IsSafeRun}
use Rattle.st_laws_pages.specs.Asks.Law.{PlacesHold}
use Rattle.st_laws_pages.specs.Disks.Obligations.{FatesHold}
use Rattle.st_laws_pages.proofs.Asks.Law.{places_law}
use Rattle.st_laws_pages.proofs.Asks.World.{asks_of}
use Rattle.st_laws_pages.proofs.Disks.Whole.{fates_law}
use Rattle.st_laws_leases.specs.Dates.Dates.{message_in}
use Rattle.st_laws_requests.specs.Replies.ServedRequests.{ReassertionsNew}
use Rattle.st_laws_extents.proofs.CutRequests.New.{reassertions_new}
use Rattle.st_laws_volume.specs.AnswerKinds.{is_uncertain}
use Rattle.st_laws_volume.specs.Asks.{HasAsksOf, at_site}
use Rattle.st_laws_volume.specs.Epochs.{HasEpochsOf}
use Rattle.st_laws_volume.specs.StepKinds.{AreTaken, AtEachStep, StepsAreTaken}
use Rattle.st_laws_volume.specs.Logs.{InEveryRun, IsLogOf}
use Rattle.st_laws_volume.specs.Options.{OnSome}
use Rattle.st_laws_volume.specs.Seen.{of_event}
use Rattle.st_laws_volume.specs.Witness.{Witness, of_lines, steps_of}
use Rattle.st_laws_volume.proofs.AnswerLines.{AllAsked, AllFit, IsFineBy, LastsInside, NoneOf, Takes, comes_to, event_fine, event_none, lasting_at, none_served, taken_at, takes_silent}
use Rattle.st_laws_volume.proofs.AnswerSteps.{OnlyAnswers}
use Rattle.st_laws_volume.proofs.AskedAsks.{AreOf, RightHold, right_begins, right_kept}
use Rattle.st_laws_volume.proofs.AskEvents.{AllOpenFor}
use Rattle.st_laws_volume.proofs.Asks.{AsksHold, asks_begin, asks_kept}
use Rattle.st_laws_volume.proofs.AskSteps.{told_all}
use Rattle.st_laws_volume.proofs.Carried.{IsGiven, given_in}
use Rattle.st_laws_volume.proofs.ChangeLines.{on_both}
use Rattle.st_laws_volume.proofs.AnswerCauses.{Fits, Says, all_say, input_tells}
use Rattle.st_laws_volume.proofs.ClientAnswers.{Tells}
use Rattle.st_laws_volume.proofs.Epochs.{EpochsHold, epochs_begin, epochs_kept, event_starts, started}
use Rattle.st_laws_volume.proofs.EpochSteps.{inside_starts, run_starts, started_all, started_by, step_starts}
use Rattle.st_laws_volume.proofs.EventAnswers.{AnswersOf, ByAsk, ByMessage, ByReport, ByTick, GivesNone, Steps, TakesAt, event_answers}
use Rattle.st_laws_volume.proofs.Logs.{LogHolds, log_begins, log_kept}
use Rattle.st_laws_volume.proofs.OpenAnswers.{open_left}
use Rattle.st_laws_volume.proofs.Options.{on_more}
use Rattle.st_laws_volume.proofs.ReadPages.{throughout_both}
use Rattle.st_laws_volume.proofs.SessionEpochs.{EpochsRight, KnowsEpochs, Within, knows_begin, knows_on}
use Rattle.st_laws_volume.proofs.StepKinds.{is_inside, lines_inside}
use Rattle.st_laws_volume.proofs.ToldSteps.{Told}
use Rattle.st_volume.specs.declared.step.VolumeStep.{VolumeStep}
use Rattle.st_volume.specs.declared.step.VolumeStep.TheVariants as kinds
use Rattle.st_volume.specs.Volume as volume
use Rattle.st_volume.specs.Volume.{Pending, Volume, acts, answered, answers_so, epoch, is_ask, run}

only_uncertain : OnlyAnswers is_uncertain
only_uncertain (kinds.Answered c op answer) q = cc q
only_uncertain (kinds.Asked c ask) q = refl
only_uncertain (kinds.TakesEffect c op) q = refl
only_uncertain (kinds.Joined i c what) q = refl
only_uncertain (kinds.Hardened i) q = refl
only_uncertain (kinds.Dropped i cause) q = refl
only_uncertain (kinds.Crashed c) q = refl
only_uncertain (kinds.Restarted s) q = refl
only_uncertain (kinds.WriteFailed c number i) q = refl
only_uncertain (kinds.ReadFailed c s number) q = refl

-- The volume's words for asks are the client's.
pub server_same : (a : Ask) → volume.server_of a ≡ cs.server_of a
server_same (asks.Write f p bytes) = refl
server_same (asks.Patch f p at bytes) = refl
server_same (asks.Read f p) = refl
server_same (asks.Sync f) = refl
server_same (asks.Cut f p) = refl
server_same (asks.Name s (names.Remove dir name ino)) = refl
server_same (asks.Name s (names.Lookup dir name)) = refl
server_same (asks.Name s (names.Create dir name)) = refl
server_same (asks.Name s (names.Mkdir dir name)) = refl
server_same (asks.Name s (names.Rename dir name dir2 name2)) = refl
server_same (asks.Name s (names.List dir after)) = refl

pub cut_same : (a : Ask) → cs.is_cut_or_name a ≡ true → volume.is_cut_or_name a ≡ true
cut_same (asks.Cut f p) e = refl
cut_same (asks.Name s ask) e = refl
cut_same (asks.Write f p bytes) e = cc e
cut_same (asks.Patch f p at bytes) e = cc e
cut_same (asks.Read f p) e = cc e
cut_same (asks.Sync f) e = cc e

-- One answer is taken while the epochs are the world's.
module _ (t : World) where
  epoch_there : (u : Volume) → HasEpochsOf t u → (s : ServerId) (n : ℕ) → Within t s n → (1 ≤ n) × (n ≤ epoch u s)
  epoch_there u h s n (l, (node, (at, m))) = let e = h s node at in (l, omega (arith, m, e))

  uncertain_so : (u : Volume) (ask : Ask) (n m : ℕ) → HasEpochsOf t u → cs.is_cut_or_name ask ≡ true → Within t (cs.server_of ask) n →
      (m ≡ 0) ⊎ ((n < m) × Within t (cs.server_of ask) m) → volume.is_uncertain u ask n m ≡ true
  uncertain_so u ask n m h cut old new =
      let x = epoch_there u h (cs.server_of ask) n old in
      and_both
      (volume.is_cut_or_name ask && (nat_lt 0 n && nat_le n (epoch u (volume.server_of ask))))
      ((m == 0) || (nat_lt n m && nat_le m (epoch u (volume.server_of ask))))
      (and_both (volume.is_cut_or_name ask) (nat_lt 0 n && nat_le n (epoch u (volume.server_of ask))) (cut_same ask cut)
      (and_both (nat_lt 0 n) (nat_le n (epoch u (volume.server_of ask))) (lt-ltb 0 n (let l = x.0 in omega (arith, l))) (below n x.1)))
      (later new)
    where
      below : (k : ℕ) → k ≤ epoch u (cs.server_of ask) → nat_le k (epoch u (volume.server_of ask)) ≡ true
      below k l = ap (λ s. nat_le k (epoch u s)) (server_same ask) ∙ le-leb k (epoch u (cs.server_of ask)) l

      later : (m ≡ 0) ⊎ ((n < m) × Within t (cs.server_of ask) m) → ((m == 0) || (nat_lt n m && nat_le m (epoch u (volume.server_of ask)))) ≡ true
      later (inl e) = or_left (m == 0) _ (eq-eqb m 0 e)
      later (inr z) =
          or_right (m == 0) (nat_lt n m && nat_le m (epoch u (volume.server_of ask)))
          (and_both (nat_lt n m) (nat_le m (epoch u (volume.server_of ask))) (lt-ltb n m z.0) (below m (epoch_there u h (cs.server_of ask) m z.1).1))

  one_taken : (u : Volume) (c : ClientId) (op n m : ℕ) (a : Pending) → Told u → find (is_ask c op) u.pending ≡ Some a → volume.is_uncertain u a.ask n m ≡ true →
      is_some (volume.step u (kinds.Answered c op (answers.Uncertain n m))) ≡ true
  one_taken u c op n m a told q e =
      ap is_some
      (if_true (u.lines == length u.log) (acts u (kinds.Answered c op (answers.Uncertain n m))) None (eq-eqb u.lines (length u.log) told))
      ∙ (ap (λ (o : Option Pending). is_some (option_and_then (answered u (answers.Uncertain n m)) o)) q ∙ so a.result)
    where
      left : Option Volume
      left = Some (volume.closed a (volume.after_answer u a (answers.Uncertain n m)))

      so : (o : Option AppAnswer) → is_some (if answers_so u a (answers.Uncertain n m) o then left else None) ≡ true
      so None = ap is_some (if_true (volume.is_uncertain u a.ask n m) left None e)
      so (Some result) = ap is_some (if_true (volume.is_uncertain u a.ask n m) left None e)

-- All steps of an event.
abbrev HasStarts : List ServerId → Volume → Type 0
HasStarts xs u = u.starts ≡ xs

starts_last : (xs : List ServerId) → LastsInside (HasStarts xs)
starts_last xs it u q h =
    on_more (λ z. z.starts ≡ started_by it u.starts) (HasStarts xs)
    (λ z k. k ∙ (inside_starts (it ∷ []) u.starts (and_both (is_inside it) true q refl) ∙ h)) (volume.step u it) (step_starts u it)

module _ (past : List Step) (t : Traced) (e : Event) (sc : WorldTurn) (v : Volume) (epochs : HasEpochsOf t.world v) (right : EpochsRight t.world) where
  -- the same epochs
  has_epochs : (u : Volume) → HasStarts v.starts u → HasEpochsOf t.world u
  has_epochs u h s node at = ap (λ xs. length (filter (λ (r : ServerId). r.0 == s.0) xs) + 1) h ∙ epochs s node at

  takes_one : (c : ClientId) (start : List (ℕ × Ask)) (input : ClientInput) (before : List Association) →
      (told_all c (of_event t.world e) (at_site (site_of t.world c))).pending ≡ start →
      AllAsked t.world e (asks_of (past ++ step t e sc ∷ [])) →
      IsFineBy (Takes is_uncertain) (λ it u. HasStarts v.starts u) (Fits t.world c start input before) (asks_of (past ++ step t e sc ∷ []))
  takes_one c start input before is all u g a told i q asked fits = λ w. by g.answer fits.1 w
    where
      by : (answer : AppAnswer) → Says t.world c start input before g.op answer → is_uncertain (kinds.Answered g.client g.op answer) ≡ true →
          is_some (volume.step u (kinds.Answered g.client g.op answer)) ≡ true
      by (answers.Uncertain n m) s w =
          let same : a.ask ≡ s.ask =
          some_is
          (sym asked
          ∙ (ap (λ d. world.numbered (asks_of (past ++ step t e sc ∷ []) d) g.op) fits.0
          ∙ all c (g.op, s.ask) (subst (Has (g.op, s.ask)) (sym is) s.known))) in
          one_taken t.world u g.client g.op n m a told q
          (ap (λ ask. volume.is_uncertain u ask n m) same ∙ uncertain_so t.world u s.ask n m (has_epochs u i) s.cut s.old s.new)
      by answer s w = cc w

  no_start : (c : ClientId) (site : WorldClient) (i : ClientInput) → TakesAt t.world e c site i → (xs : List ServerId) → started e xs ≡ xs
  unfolding started
  no_start c site _ (ByTick f) xs = ap (λ y. started y xs) f
  no_start c site _ (ByAsk ask f) xs = ap (λ y. started y xs) f
  no_start c site _ (ByMessage k m f q z) xs = ap (λ y. started y xs) f
  no_start c site _ (ByReport k ok y r f q a s d) xs = ap (λ y. started y xs) f

  event_uncertain : (it : Witness) → IsLogOf t.world.log v → HasAsksOf t.world v → AreOf (asks_of past) v →
      ((c : ClientId) → AllOpenFor t.world c sc.seen (told_all c (of_event t.world e) (at_site (site_of t.world c)))) → AnswersOf t.world e sc →
      AreTaken is_uncertain (steps_of it v (step t e sc)) v
  event_uncertain it log agree asked opened (GivesNone q) =
      event_none is_uncertain only_uncertain t.world it v sc.seen e (subst (λ gs. NoneOf is_uncertain gs) (sym q) tt)
  event_uncertain it log agree asked opened (Steps r) =
      taken_at is_uncertain (steps_of it v (step t e sc)) v
      (event_fine (Takes is_uncertain) (takes_silent is_uncertain only_uncertain) (λ it u. HasStarts v.starts u)
      (Fits t.world r.client start r.input r.site.node.state.associations) past (step t e sc)
      (takes_one r.client start r.input r.site.node.state.associations refl) it v
      (none_served it.behind v t.world e r.client r.site r.input r.takes) log.lines asked agree opened
      (on_more (λ u. u.starts ≡ started_all (of_event t.world e) v.starts) (AtEachStep (λ it u. HasStarts v.starts u) (of_lines t.world sc.seen))
      (λ u k. lasting_at (HasStarts v.starts) (starts_last v.starts) (of_lines t.world sc.seen) u (lines_inside t.world sc.seen)
      (k ∙ (event_starts t.world e v.starts ∙ no_start r.client r.site r.input r.takes v.starts))) (run (of_event t.world e) v)
      (run_starts (of_event t.world e) v))
      (subst (AllFit (Fits t.world r.client start r.input r.site.node.state.associations)) (sym r.gives)
      (all_say t.world r.client start r.input r.site.node.state.associations r.site.node.state r.now right r.site r.at refl refl
      (ap (λ o. (told_all r.client (of_event t.world e) (at_site o)).pending) r.at ∙ comes_to t.world e r.client r.site r.input r.takes)
      (input_tells t.world e right r.client r.site r.input r.takes))))
    where
      start : List (ℕ × Ask)
      start = (told_all r.client (of_event t.world e) (at_site (site_of t.world r.client))).pending

-- In every run.
UncertainToo : List Step → Step → Witness → Type 0
UncertainToo past x it = OnSome (λ v. AreTaken is_uncertain (steps_of it v x) v) it.volume

record UncertainHolds (past : List Step) (t : Traced) (it : Witness) : Type 0 where
  asks : AsksHold past t it
  right : RightHold past t it
  log : LogHolds past t it
  epochs : EpochsHold past t it
  knows : KnowsEpochs past t

abbrev Known : Promise
Known past x = TheReportTellsTheLog past x × (ReassertionsNew past x × (FatesHold x.after.world × PlacesHold x.after.world))

uncertain_on : IsGiven Known UncertainHolds UncertainToo
unfolding UncertainToo
uncertain_on past t e sc it f g h =
    let x : Step = step t e sc in (
      on_more (λ v. IsLogOf t.world.log v × (HasAsksOf t.world v × (AreOf (asks_of past) v × HasEpochsOf t.world v)))
          (λ v. AreTaken is_uncertain (steps_of it v x) v)
          (λ v k. event_uncertain past t e sc v k.1.1.1 h.knows.right it k.0 k.1.0 k.1.1.0 (open_left past t e sc it f h.asks) (event_answers t.world e sc f))
          it.volume
          (on_both (IsLogOf t.world.log) (λ v. HasAsksOf t.world v × (AreOf (asks_of past) v × HasEpochsOf t.world v)) it.volume h.log
          (on_both (HasAsksOf t.world) (λ v. AreOf (asks_of past) v × HasEpochsOf t.world v) it.volume h.asks.agree
          (on_both (AreOf (asks_of past)) (HasEpochsOf t.world) it.volume h.right h.epochs))),
      record {
        asks = asks_kept past t e sc it f g.1.1 h.asks;
        right = right_kept past t e sc it f tt h.right;
        log = log_kept past t e sc it f g.0 h.log;
        epochs = epochs_kept past t e sc it f tt h.epochs;
        knows = knows_on past t e sc f g.1.0 h.knows;
      },
    )

pub uncertain_answers_are_taken : EveryRunIsSafe → InEveryRun (StepsAreTaken is_uncertain)
unfolding UncertainToo
uncertain_answers_are_taken safe k clients servers disks blocks form es head events =
    let t : Traced = traced (fresh_world k clients servers disks blocks form) in
    let kept : IsSafeRun (fresh_world k clients servers disks blocks form) es = safe k clients servers disks blocks form es head events in
    given_in Known UncertainHolds UncertainToo uncertain_on es t
    (record {
      asks = asks_begin k clients servers disks blocks form;
      right = right_begins k clients servers disks blocks form;
      log = log_begins k clients servers disks blocks form;
      epochs = epochs_begin k clients servers disks blocks form;
      knows = knows_begin k clients servers disks blocks form head;
    })
    (throughout_both TheReportTellsTheLog (λ past x. ReassertionsNew past x × (FatesHold x.after.world × PlacesHold x.after.world)) [] (steps es t) kept.told
    (throughout_both ReassertionsNew (λ past x. FatesHold x.after.world × PlacesHold x.after.world) [] (steps es t)
    (reassertions_new k clients servers disks blocks form es head events)
    (throughout_both (λ past x. FatesHold x.after.world) (λ past x. PlacesHold x.after.world) [] (steps es t)
    (fates_law k clients servers disks blocks form es) (places_law k clients servers disks blocks form es head))))
