-- In every run an answer that tells no result goes to an ask that has none, unless it is `uncertain`, or `written` just after the effect. If the ask has a
-- result, a server served its request and did what is asked; so the one reply under the key of this request tells the result.
use Rattle.st_lemmas.proofs.Words
use Words.{◌≡◌, ◌⊎◌, ℕ, ◌+◌, true, false, ◌==◌, List, [], ◌∷◌, ◌++◌, Option, Some, None, Ok, refl, sym, ap, ◌∙◌, subst, inl, inr}
use Words.{eqb-true, find, is_some, AppAnswer, Ask, Body, ClientId, Event, Message, NameReply, Observation}
use Words.answers
use Words.asks
use Words.bodies
use Words.replies
use Words.seen
use Words.ClientReplies.{name_answer}
use Words.ClientState.{asks_cut_or_name, is_refusal, reasserts}
use Words.Events.{WorldTurn, world_step}
use Words.History.{Traced, traced, traced_after}
use Words.Keys.{client}
use Words.Lists.{Has}
use Words.Safety.{Step, all_answered_once, all_followed, step}
use Words.Tables.{and_true, found_at}
use Words.Truth.{client_is, clash}
use Words.World.{World, fresh_world}
use Rattle.st_messages.specs.declared.message.Why.{Why}
use Rattle.st_messages.specs.declared.message.Why.TheVariants as why
use Rattle.st_protocol.specs.Assoc as net
use Rattle.st_promises.specs.CutAsks.{is_uncertain}
use Rattle.st_promises.specs.Safe.{EveryRunIsSafe}
use Rattle.st_laws_refine.specs.Server.Pair.{terms_of}
use Rattle.st_laws_leases.specs.Dates.Dates.{messages}
use Rattle.st_laws_requests.specs.Cuts.Cuts.{AsksFor, Keyed}
use Rattle.st_laws_requests.proofs.Cuts.Keeping.{Answers}
use Rattle.st_laws_names.specs.Keys.{HasEvent, ServedAt, is_final}
use Rattle.st_laws_names.specs.OutstandingKeys.{SameKey}
use Rattle.st_laws_names.proofs.Facts.{FactsHold}
use Rattle.st_laws_names.proofs.Frames.{IsKeptRefusal}
use Rattle.st_laws_names.proofs.Keys.{IsRequested, keyed_same, one_body}
use Rattle.st_laws_names.proofs.World.{Received, TellsOrRefuses}
use Rattle.st_laws_names.proofs.World as once
use Rattle.st_laws_volume.specs.AnswerKinds.{IsOfUndone, ResultsAreAnswered}
use Rattle.st_laws_volume.specs.Logs.{InEveryRun}
use Rattle.st_laws_volume.specs.Options.{OnSome}
use Rattle.st_laws_volume.specs.ResultAnswers.{tells_result}
use Rattle.st_laws_volume.specs.Seen.{of_event}
use Rattle.st_laws_volume.specs.StepKinds.{AtEachStep}
use Rattle.st_laws_volume.specs.Witness.{Witness, of_lines, steps_of}
use Rattle.st_laws_volume.proofs.AnswerLines.{event_each, lines_more, none_served}
use Rattle.st_laws_volume.proofs.AnswerSteps.{event_silent}
use Rattle.st_laws_volume.proofs.Carried.{IsGiven, given_in}
use Rattle.st_laws_volume.proofs.EventAnswers.{AnswersOf, GivesNone, Steps, event_answers}
use Rattle.st_laws_volume.proofs.AnswerLines.{AllFit}
use Rattle.st_laws_volume.proofs.OpenAnswers.{OfAnswers, at_both, at_silent}
use Rattle.st_laws_volume.proofs.OpenResults.{AllFine, run_fine}
use Rattle.st_laws_volume.proofs.Options.{on_more}
use Rattle.st_laws_volume.proofs.ResultsAtAnswers.{FineAt, lines_fine_at}
use Rattle.st_laws_volume.proofs.ToldSteps.{event_kept}
use Rattle.st_laws_volume.proofs.UnservedAsks.{Known, NoneHold, WasServed, known_in, none_begins, none_on}
use Rattle.st_volume.specs.declared.step.VolumeStep.TheVariants as kinds
use Rattle.st_volume.specs.Volume.{Pending, Volume, is_ask, run}

-- Replies that tell no such answer.
tells_so : (reply : NameReply) → tells_result (name_answer reply) ≡ true
tells_so (replies.Ino ino) = refl
tells_so (replies.Listed rows) = refl
tells_so (replies.Refused code) = refl

untold : (a : AppAnswer) → tells_result a ≡ false → (b : Body) → Answers b a → ⊥
untold a q bodies.Ack w = clash (ap tells_result w) q
untold a q (bodies.Named reply) w = clash (ap tells_result w ∙ tells_so reply) q
untold a q b w = absurd w

refusal_is : (b : Body) → IsKeptRefusal b → (is_refusal b ≡ true) × (is_final b ≡ true)
refusal_is (bodies.Nack w x y) k = (refl, kept w k)
  where
    kept : (w : Why) → IsKeptRefusal (bodies.Nack w x y) → is_final (bodies.Nack w x y) ≡ true
    kept why.Suspect k = absurd k
    kept why.NoSession k = absurd k
    kept why.OtherEpoch k = absurd k
    kept why.Grace k = absurd k
    kept why.GraceOver k = absurd k
    kept why.Conflict k = absurd k
    kept w k = refl
refusal_is b k = absurd k

own_of : (a : Ask) (b : Body) → AsksFor a b → asks_cut_or_name b ≡ true
own_of (asks.Cut f p) (bodies.Cut ino g q) h = refl
own_of (asks.Name s ask) (bodies.Name op) h = refl
own_of a b h = absurd h

no_reassertion : (b : Body) → asks_cut_or_name b ≡ true → reasserts b ≡ true → ⊥
no_reassertion (bodies.Reassert rows) q e = cc q
no_reassertion b q e = cc e

-- One event.
module _ (k : net.Config) (count : ℕ) (past : List Step) (t : Traced) (e : Event) (sc : WorldTurn) (happened : world_step t.world e ≡ Ok sc)
    (facts : FactsHold k count past t) (n : FactsHold k count (past ++ step t e sc ∷ []) (traced_after e t sc)) where
  abbrev w : World
  w = t.world

  abbrev S : ClientId → ℕ → Type 0
  S = WasServed past w

  -- a refusal under the key of a request that was done
  module _ (c : ClientId) (op : ℕ) (z : WasServed past w c op) (m : Message) (among : Has m (messages w)) (to : m.header.to ≡ c.0)
      (life : m.header.life ≡ z.k.life_) (epoch : m.header.epoch ≡ z.k.epoch_) (number : m.header.number ≡ z.k.number_)
      (refused : is_refusal m.body ≡ true) where
    asked : IsRequested past w c op z.k.server z.k.life_ z.k.epoch_ z.k.number_
    asked = facts.keys.requested c op z.k

    here : client m.header.to ≡ c
    here = ap (λ j. record { 0 = j }) to

    served : (y : Step) → Has y past → ServedAt y (client m.header.to) z.k.server m.header.life m.header.epoch m.header.number m.body → ⊥
    served y i a =
        clash refused
        (z.done y i m.body
        (subst (λ j. ServedAt y c z.k.server z.k.life_ z.k.epoch_ j m.body) number
        (subst (λ j. ServedAt y c z.k.server z.k.life_ j m.header.number m.body) epoch
        (subst (λ j. ServedAt y c z.k.server j m.header.epoch m.header.number m.body) life
        (subst (λ (d : ClientId). ServedAt y d z.k.server m.header.life m.header.epoch m.header.number m.body) here a)))))

    same : SameKey z.k.server z.k.server m.header.life m.header.epoch m.header.number z.k.life_ z.k.epoch_ z.k.number_
    same = record { server = refl; life_ = life; epoch_ = epoch; number_ = number }

    never : HasEvent past w (client m.header.to) z.k.server m.header.life m.header.epoch m.header.number m.body → ⊥
    never (inl (y, i, a)) = served y i a
    never (inr r) =
        no_reassertion r.by.body
        (subst (λ b. asks_cut_or_name b ≡ true)
        (one_body k count past t facts.changes_.names_.all c z.k.server (facts.keys.places c op z.k) z.k.life_ z.k.epoch_ z.k.number_ asked.first
        asked.message r.by asked.among r.among asked.keyed
        (keyed_same c z.k.server z.k.server m.header.life m.header.epoch m.header.number z.k.life_ z.k.epoch_ z.k.number_ r.by same
        (subst (λ (d : ClientId). Keyed d z.k.server m.header.life m.header.epoch m.header.number r.by) here r.keyed)))
        (own_of asked.ask asked.message.body asked.means))
        r.asks

  undone : (c : ClientId) (op : ℕ) (a : AppAnswer) → Has (seen.Answered c op a) sc.seen → is_uncertain a ≡ false → tells_result a ≡ false → S c op → ⊥
  undone c op a i u q z =
      go (once.answered k count past t e sc facts.changes_.names_.all n.changes_.names_.all happened facts.changes_.names_.once c op a i z.k)
    where
      says : (y : Received (TellsOrRefuses a) past w c op z.k) → TellsOrRefuses a y.message.body → ⊥
      says y (inl d) = untold a q y.message.body d
      says y (inr r) =
          let f = refusal_is y.message.body r in
          never c op z y.message y.among y.replies.to y.replies.of_life y.replies.of_epoch y.replies.under f.0
          (facts.replies.replies y.message y.among z.k.server y.replies.from f.1)

      go : (is_uncertain a ≡ true) ⊎ Received (TellsOrRefuses a) past w c op z.k → ⊥
      go (inl f) = clash f u
      go (inr y) = says y y.says

  abbrev In : Observation → Type 0
  In o = Has o sc.seen

  none_there : (c : ClientId) (op : ℕ) (a : AppAnswer) → In (seen.Answered c op a) → is_uncertain a ≡ false → tells_result a ≡ false → (u : Volume) →
      AllFine S None u → (b : Pending) → find (is_ask c op) u.pending ≡ Some b → b.result ≡ None
  none_there c op a i f q u h b e = by b.result refl
    where
      found : (is_ask c op b ≡ true) × Has b u.pending
      found = found_at (is_ask c op) u.pending b e

      keys : ((b.client.0 == c.0) ≡ true) × ((b.op == op) ≡ true)
      keys = and_true (b.client.0 == c.0) (b.op == op) found.0

      never_done : S b.client b.op ⊎ (false ≡ true) → ⊥
      never_done (inr z) = cc z
      never_done (inl z) = undone c op a i f q (subst (S c) (eqb-true b.op op keys.1) (subst (λ (d : ClientId). S d b.op) (client_is b.client c keys.0) z))

      by : (o : Option AppAnswer) → b.result ≡ o → b.result ≡ None
      by None r = r
      by (Some result) r = absurd (never_done (h b found.1 (ap is_some r)))

  one : (c : ClientId) (op : ℕ) (a : AppAnswer) → In (seen.Answered c op a) → (u : Volume) → FineAt S (kinds.Answered c op a) u →
      IsOfUndone (kinds.Answered c op a) u
  one c op answers.Written i u h = tt
  one c op (answers.Uncertain old new) i u h = tt
  one c op a i u h = λ q b e. none_there c op a i refl q u h b e

  silent : OfAnswers IsOfUndone
  silent (kinds.Answered c op a) u q = cc
  silent it u q = tt

  pub lines_undone : (u : Volume) → all_followed sc.seen ≡ true → AllFine S None u → AtEachStep IsOfUndone (of_lines w sc.seen) u
  lines_undone u followed h = lines_more IsOfUndone silent (FineAt S) w In one sc.seen (λ o i. i) u (lines_fine_at S w sc.seen u followed h)

  event_undone : (it : Witness) (v : Volume) → all_followed sc.seen ≡ true → AllFine S None v → AnswersOf w e sc →
      AtEachStep IsOfUndone (steps_of it v (step t e sc)) v
  event_undone it v followed fine (GivesNone q) =
      event_each IsOfUndone silent w it v sc.seen e (subst (AllFit (λ g. (u : Volume) → IsOfUndone (kinds.Answered g.client g.op g.answer) u)) (sym q) tt)
  event_undone it v followed fine (Steps r) =
      subst (λ served. AtEachStep IsOfUndone (of_event w e ++ (served ++ of_lines w sc.seen)) v)
      (sym (none_served it.behind v w e r.client r.site r.input r.takes))
      (at_both IsOfUndone (of_event w e) (of_lines w sc.seen) v (at_silent IsOfUndone silent (of_event w e) v (event_silent w e))
      (on_more (AllFine S None) (AtEachStep IsOfUndone (of_lines w sc.seen))
      (λ u h. lines_undone u followed h) (run (of_event w e) v)
      (run_fine S None (of_event w e) v (event_kept w e) fine)))

-- In every run.
UndoneToo : List Step → Step → Witness → Type 0
UndoneToo past x it = OnSome (λ v. AtEachStep IsOfUndone (steps_of it v x) v) it.volume

undone_on : (k : net.Config) (count : ℕ) → IsGiven (Known count) (NoneHold k count) UndoneToo
unfolding UndoneToo
undone_on k count past t e sc it f g h =
    let kept = (none_on k count past t e sc it f g h).1 in (
      on_more (AllFine (WasServed past t.world) None) (λ v. AtEachStep IsOfUndone (steps_of it v (step t e sc)) v)
          (λ v j. event_undone k count past t e sc f h.facts kept.facts it v
          (and_true (all_answered_once past (step t e sc) [] sc.seen) (all_followed sc.seen) g.1.0).1 j (event_answers t.world e sc f))
          it.volume h.fine,
      kept,
    )

pub results_are_answered : EveryRunIsSafe → InEveryRun ResultsAreAnswered
unfolding UndoneToo
results_are_answered safe k clients servers disks blocks form es head events =
    let t : Traced = traced (fresh_world k clients servers disks blocks form) in
    let count : ℕ = clients + servers in
    given_in (Known count) (NoneHold (terms_of k) count) UndoneToo (undone_on (terms_of k) count) es t (none_begins k clients servers disks blocks form head)
    (known_in k clients servers disks blocks form es head events (safe k clients servers disks blocks form es head events))
