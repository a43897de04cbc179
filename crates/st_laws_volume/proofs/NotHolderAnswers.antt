-- In every run each answer `notholder` goes to an ask without a result: its server refused a cut or a remove, for which its client lacked the lock.
use Rattle.st_lemmas.proofs.Words
use Words.{◌≡◌, ℕ, ◌+◌, ◌==◌, true, false, List, [], ◌∷◌, ◌++◌, Option, Some, None, Ok, refl, sym, ap, ◌∙◌, subst}
use Words.{AppAnswer, Ask, Body, ClientId, Event, GrantNo, Header, Mode, NameOp, ServerId}
use Words.answers
use Words.bodies
use Words.modes
use Words.why
use Words.ClientState as cs
use Words.ClientState.{Association, is_refusal}
use Words.Events.{WorldTurn, world_step}
use Words.History.{Traced, traced, traced_after}
use Words.Lookups.{some_is}
use Words.Safety.{Step, all_answered_once, all_followed, step}
use Words.Server as sv
use Words.Server.{ServerTurn}
use Words.Tables.{and_true, found_at}
use Words.Truth.{clash, client_is}
use Words.World.{World, fresh_world, numbered}
use Rattle.st_protocol.specs.Assoc as net
use Rattle.st_promises.specs.Safe.{EveryRunIsSafe}
use Rattle.st_trace.specs.Server.Edits.{lock_in}
use Rattle.st_laws_pages.proofs.Asks.World.{asks_of}
use Rattle.st_laws_refine.specs.Server.Pair.{terms_of}
use Rattle.st_laws_names.specs.Keys.{behind_thefts, now_at}
use Rattle.st_laws_names.proofs.Facts.{FactsHold}
use Rattle.st_laws_volume.specs.AnswerKinds.{IsOfUndone}
use Rattle.st_laws_volume.specs.Logs.{InEveryRun}
use Rattle.st_laws_volume.specs.NotHolderAnswers.{IsNotHolder, IsOfUnheld, IsUnheld, LocksWereMissing, WasUnheld}
use Rattle.st_laws_volume.specs.Options.{OnSome}
use Rattle.st_laws_volume.specs.Seen.{of_event}
use Rattle.st_laws_volume.specs.StepKinds.{AtEachStep}
use Rattle.st_laws_volume.specs.Witness.{Witness, led_by, steps_of}
use Rattle.st_laws_volume.proofs.AnswerCauses.{IsAskedOf, IsRefusal, Says}
use Rattle.st_laws_volume.proofs.AnswerFacts.{AllOf, FactsOf, Known, all_of, facts_begin, facts_on, known_in}
use Rattle.st_laws_volume.proofs.AnswerLines.{step_of}
use Rattle.st_laws_volume.proofs.AskWords.{server_words}
use Rattle.st_laws_volume.proofs.Carried.{IsGiven, given_in}
use Rattle.st_laws_volume.proofs.EventAnswers.{Given, Stepping, event_answers}
use Rattle.st_laws_volume.proofs.FileReplies as replied
use Rattle.st_laws_volume.proofs.FileReplies.{Answers, answers}
use Rattle.st_laws_volume.proofs.NameReplies.{IsNamed, NameReplied, RemovesNot}
use Rattle.st_laws_volume.proofs.OpenAnswers.{OfAnswers, open_left}
use Rattle.st_laws_volume.proofs.Options.{on_all, on_more}
use Rattle.st_laws_volume.proofs.RefusedRequests.{RefusedBy, refused_by}
use Rattle.st_laws_volume.proofs.SessionEpochs.{EpochsRight}
use Rattle.st_laws_volume.proofs.StepAnswers as stepping
use Rattle.st_laws_volume.proofs.StepAnswers.{Any, any_lasts, before, event_answered, start}
use Rattle.st_volume.specs.declared.step.VolumeStep.{VolumeStep}
use Rattle.st_volume.specs.declared.step.VolumeStep.TheVariants as kinds
use Rattle.st_volume.specs.Volume as volume
use Rattle.st_volume.specs.Volume.{Pending, Volume, is_ask, run}

-- Such a refusal of a cut or a remove.
module _ (t : ServerTurn) (h : Header) (ino n : ℕ) where
  abbrev Says_so : Option Body → Type 0
  Says_so r = r ≡ Some (bodies.Nack why.NotHolder ino n)

  unlocked : (b : Body) → cs.asks_cut_or_remove b ≡ true → (i : ℕ) (g : GrantNo) (mode : Mode) → lock_in b ≡ Some (i, g, mode) → sv.holds t h i g mode ≡ false →
      IsUnheld t h b
  unlocked (bodies.Cut j k p) a i g mode e f = is_so (sym e) f
    where
      file_of : Option (ℕ × GrantNo × Mode) → ℕ
      file_of (Some x) = x.0
      file_of None = 0

      grant_of : Option (ℕ × GrantNo × Mode) → GrantNo
      grant_of (Some x) = x.1
      grant_of None = k

      mode_of : Option (ℕ × GrantNo × Mode) → Mode
      mode_of (Some x) = x.2
      mode_of None = modes.X

      is_so : ◌≡◌ {A = Option (ℕ × GrantNo × Mode)} (Some (i, g, mode)) (Some (j, k, modes.X)) → sv.holds t h i g mode ≡ false →
          sv.holds t h j k modes.X ≡ false
      is_so q f = ap (λ o. sv.holds t h (file_of o) (grant_of o) (mode_of o)) (sym q) ∙ f
  unlocked (bodies.Name op) a i g mode e f = cc e
  unlocked b a i g mode e f = cc a

  removes_unheld : (op : NameOp) (r : Option Body) → NameReplied t h op r → Says_so r → IsUnheld t h (bodies.Name op)
  removes_unheld op _ (IsNamed reply) q = cc q
  removes_unheld op _ (RemovesNot dir name g i is l f k) q = subst (λ o. IsUnheld t h (bodies.Name o)) (sym is) (i, l, k)

  pub lacks_lock : (b : Body) → cs.asks_cut_or_remove b ≡ true → (r : Option Body) → Answers t h b r → Says_so r → IsUnheld t h b
  lacks_lock b a _ replied.IsSilent q = cc q
  lacks_lock b a _ (replied.IsDone r f) q = absurd (clash (ap is_refusal (some_is q)) f)
  lacks_lock b a _ (replied.IsNoFile i e f) q = cc q
  lacks_lock b a _ (replied.HoldsNot i g mode e f k) q = unlocked b a i g mode e k
  lacks_lock b a _ (replied.HasTooMany i mode e) q = cc q
  lacks_lock b a _ (replied.HasNoSpace i g p count free w e f) q = cc q
  lacks_lock b a r (replied.IsOfName op _ e k) q = subst (IsUnheld t h) (sym e) (removes_unheld op r k q)

-- What holds of an event.
module _ (k : net.Config) (count : ℕ) (past : List Step) (t : Traced) (e : Event) (sc : WorldTurn) (happened : world_step t.world e ≡ Ok sc)
    (facts : FactsHold k count past t) (n : FactsHold k count (past ++ step t e sc ∷ []) (traced_after e t sc)) (right : EpochsRight t.world) (it : Witness)
    (v : Volume) where
  abbrev w : World
  w = t.world

  abbrev Goal : VolumeStep → Volume → Type 0
  Goal = IsNotHolder past

  silent : OfAnswers Goal
  silent (kinds.Answered c op answer) u q = cc
  silent i u q = tt

  abbrev IsHere : Stepping w e sc → Volume → Given → Pending → Type 0
  IsHere = stepping.IsGiven k count past t e sc happened facts n right it v Any any_lasts Goal silent

  abbrev asks_then : Stepping w e sc → List (ℕ × Ask)
  asks_then = start k count past t e sc happened facts n right it v Any any_lasts Goal silent

  abbrev had : Stepping w e sc → List Association
  had = before k count past t e sc happened facts n right it v Any any_lasts Goal silent

  module _ (r : Stepping w e sc) (u : Volume) (g : Given) (a : Pending) (h : IsHere r u g a) (undone : a.result ≡ None) (file m : ℕ)
      (f : IsRefusal w r.client (asks_then r) r.input (had r) g.op why.NotHolder file m IsAskedOf) where
    abbrev s : ServerId
    s = f.association.server

    z : RefusedBy past r.client s f.request.body (bodies.Nack why.NotHolder file m)
    z =
        refused_by k count past t facts r.client r.site r.at r.runs e r.input r.takes (asks_then r) g.op why.NotHolder file m refl IsAskedOf f

    abbrev turn : ServerTurn
    turn = behind_thefts z.y.before.world s z.served.serves.old.state

    unheld : IsUnheld turn z.served.sent.message.header z.served.sent.message.body
    unheld =
        lacks_lock turn z.served.sent.message.header file m z.served.sent.message.body (ap cs.asks_cut_or_remove z.asks ∙ f.concerns.0)
        (sv.rule turn (now_at z.y.before.world s) z.served.sent.message.header z.served.sent.message.body).reply
        (answers turn (now_at z.y.before.world s) z.served.sent.message.header z.served.sent.message.body) z.served.serves.replied

    ask_is : a.ask ≡ f.ask
    ask_is = some_is (sym h.asked ∙ (ap (λ d. numbered (asks_of (past ++ step t e sc ∷ []) d) g.op) h.fits.0 ∙ h.all r.client (g.op, f.ask) f.known))

    mine : a.client ≡ r.client
    mine =
        client_is a.client g.client (and_true (a.client.0 == g.client.0) (a.op == g.op) (found_at (is_ask g.client g.op) u.pending a h.found).0).0
        ∙ h.fits.0

    its_server : volume.server_of a.ask ≡ s
    its_server = ap volume.server_of ask_is ∙ (server_words f.ask ∙ sym f.concerns.1)

    refused : IsOfUnheld past a
    refused =
        record {
          undone = undone;
          unheld =
              subst (λ (d : ClientId). WasUnheld past d (volume.server_of a.ask)) (sym mine)
              (subst (WasUnheld past r.client) (sym its_server)
              (record {
                refused = z.y;
                among = z.among;
                life_ = z.life_;
                epoch_ = z.epoch_;
                number_ = z.number_;
                file = file;
                n = m;
                served = z.served;
                unheld = unheld;
              }));
        }

  one : (r : Stepping w e sc) (u : Volume) (g : Given) (a : Pending) → IsHere r u g a → Goal (step_of g) u
  one r u g a h = by g.answer h.undone h.fits.1
    where
      by : (answer : AppAnswer) → IsOfUndone (kinds.Answered g.client g.op answer) u →
          Says w r.client (asks_then r) r.input (had r) g.op answer → Goal (kinds.Answered g.client g.op answer) u
      by answers.NotHolder undone says =
          λ b q. subst (IsOfUnheld past) (some_is (sym h.found ∙ q)) (refused r u g a h (undone refl a h.found) says.0 says.1 says.2)
      by answer undone says = tt

-- In every run.
UnheldToo : List Step → Step → Witness → Type 0
UnheldToo past x it = OnSome (λ v. AtEachStep (IsNotHolder past) (steps_of it v x) v) it.volume

unheld_on : (k : net.Config) (count : ℕ) → IsGiven (Known count) (FactsOf k count) UnheldToo
unfolding UnheldToo
unheld_on k count past t e sc it f g h = (
  on_more (AllOf past t) (λ v. AtEachStep (IsNotHolder past) (steps_of it v (step t e sc)) v)
      (λ v m. event_answered k count past t e sc f h.unserved.facts after.unserved.facts h.knows.right it v Any any_lasts
      (IsNotHolder past) (silent k count past t e sc f h.unserved.facts after.unserved.facts h.knows.right it v)
      (one k count past t e sc f h.unserved.facts after.unserved.facts h.knows.right it v) m.log.lines m.agree m.asked (open_left past t e sc it f h.asks)
      (and_true (all_answered_once past (step t e sc) [] sc.seen) (all_followed sc.seen) g.0.1.0).1 m.fine
      (on_all Any (λ z. tt) (run (of_event t.world e) v)) (event_answers t.world e sc f)) it.volume (all_of k count past t it h),
  after,
)
  where
    after : FactsOf k count (past ++ step t e sc ∷ []) (traced_after e t sc) (led_by it (step t e sc))
    after = facts_on k count past t e sc it f g h

pub locks_were_missing : EveryRunIsSafe → InEveryRun LocksWereMissing
unfolding UnheldToo
locks_were_missing safe k clients servers disks blocks form es head events =
    let count : ℕ = clients + servers in
    given_in (Known count) (FactsOf (terms_of k) count) UnheldToo (unheld_on (terms_of k) count) es (traced (fresh_world k clients servers disks blocks form))
    (facts_begin k clients servers disks blocks form head)
    (known_in k clients servers disks blocks form es head events (safe k clients servers disks blocks form es head events))
