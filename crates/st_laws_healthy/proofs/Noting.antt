-- What a step of a client notes and answers, by a fold over its trace: it notes no loss of a server whose lease lasts, and answers no ask of a server
-- `quiesced` whose lease serves.
use Rattle.st_lemmas.proofs.Words
use Words.{◌≡◌, ◌≢◌, ◌==◌, ℕ, ◌⊎◌, Bool, true, false, not, List, [], ◌∷◌, ◌++◌, Option, Some, refl, sym, ap, ◌∙◌, subst, inl, inr}
use Words.{if◌then◌else◌, filter, map, eqb-true, Config, Tag, FileId, PageNo, ServerId, Stamp, AppAnswer, Ask, Body, Header, Note, Output, Why, ClientInput, Operation, NameReply}
use Words.answers
use Words.commands
use Words.replies
use Words.notes
use Words.outputs
use Words.inputs
use Words.Client as cl
use Words.ClientLease.{ClientLease, may_use, standing_of}
use Words.ClientPasses as cp
use Words.ClientReplies as cr
use Words.ClientState as cs
use Words.ClientState.{Association, ClientSession, ClientState, ClientTurn, Turn, answer_to, at_each, at_these, client_turn, enter, is_serving, leave, only_at}
use Words.ClientState.{server_of, with_associations, with_operations, with_session}
use Words.Lists.{Has}
use Words.Members.{has_left, has_right}
use Words.Tables.{cond_either, has_append, has_filter, has_map}
use Words.Truth.{not_both}
use Rattle.st_trace.specs.Client.Commands as ends
use Rattle.st_trace.specs.Client.Commands.{Finishes, Takes}
use Rattle.st_trace.specs.Client.Losses as losing
use Rattle.st_trace.specs.Client.Losses.{Ended, Loses}
use Rattle.st_trace.specs.Client.Messages as trace
use Rattle.st_trace.specs.Client.Messages.{Effect, Receives, Refusal, Renews}
use Rattle.st_trace.specs.Client.Operations as pass
use Rattle.st_trace.specs.Client.Operations.{Changed, Operated}
use Rattle.st_trace.specs.Client.Passes.{Reduced, StaysHeld, IsReduced, WritesOut, StaysDirty, IsWritten, places_of}
use Rattle.st_trace.specs.Client.Requests as asking
use Rattle.st_trace.specs.Client.Requests.{Greets, Requests}
use Rattle.st_trace.proofs.Client.Finishing.{at_server, finishes, takes}
use Rattle.st_trace.proofs.Client.Losing.{loses}
use Rattle.st_trace.proofs.Client.Receiving.{receives}
use Rattle.st_trace.proofs.Client.Walk.{each_lasts, passes}
use Rattle.st_laws_steps.specs.Client.Losses.{Fit, is_ended}
use Rattle.st_laws_steps.proofs.Client.Losing.{over_is}
use Rattle.st_laws_healthy.proofs.Passing.{After, IsPassed}
use Rattle.st_laws_healthy.proofs.Stepping.{works_on}

-- the server of an operation
server_is : (v : ServerId) (o : Operation) → cs.is_of v o ≡ true → server_of o.ask ≡ v
server_is v o e = ap (λ n. record { 0 = n }) (eqb-true (server_of o.ask).0 v.0 e)

-- the server s; whether a lease that lasts serves; what was asked under a number; the settings and the moment
module _ (s : ServerId) (Serves : Type 0) (asked : ℕ → Option Ask) (k : Config) (now : Stamp) where
  -- under this number an ask of another server was made
  pub record IsOther (op : ℕ) : Type 0 where
    pub ask : Ask
    pub known : asked op ≡ Some ask
    pub elsewhere : server_of ask ≢ s

  -- no loss of the server, and no answer `quiesced` to an ask of it
  abbrev pub IsFine : Output → Type 0
  IsFine (outputs.Answer op answers.Quiesced) = Serves → IsOther op
  IsFine (outputs.Note (notes.Lost v life)) = v ≢ s
  IsFine o = Unit {0}

  abbrev pub AllFine : List Output → Type 0
  AllFine os = (o : Output) → Has o os → IsFine o

  abbrev pub AllKnown : List Operation → Type 0
  AllKnown os = (o : Operation) → Has o os → asked o.op ≡ Some o.ask

  -- the settings are these, each output is fine, and each pending operation was asked under its number
  pub record Calm (kb : Config) (out : List Output) (ops : List Operation) : Type 0 where
    pub config : kb ≡ k
    pub fine : AllFine out
    pub known : AllKnown ops

  abbrev IsAsked : Operation → Type 0
  IsAsked o = asked o.op ≡ Some o.ask

  abbrev C : Turn → Type 0
  C t = Calm t.config t.out t.operations

  -- an answer other than `quiesced`
  abbrev IsPlain : AppAnswer → Type 0
  IsPlain answers.Quiesced = ⊥
  IsPlain a = Unit {0}

  plain_fine : (op : ℕ) (a : AppAnswer) → IsPlain a → IsFine (outputs.Answer op a)
  plain_fine op answers.Quiesced p = absurd p
  plain_fine op a p = tt

  fine_more : (os : List Output) (o : Output) → IsFine o → AllFine os → AllFine (os ++ o ∷ [])
  fine_more os o f w x h = go (has_append os (o ∷ []) x h)
    where
      go : Has x os ⊎ Has x (o ∷ []) → IsFine x
      go (inl i) = w x i
      go (inr (inl e)) = subst IsFine (sym e) f
      go (inr (inr i)) = absurd i

  known_more : (os : List Operation) (o : Operation) → asked o.op ≡ Some o.ask → AllKnown os → AllKnown (os ++ o ∷ [])
  known_more os o f w x h = go (has_append os (o ∷ []) x h)
    where
      go : Has x os ⊎ Has x (o ∷ []) → asked x.op ≡ Some x.ask
      go (inl i) = w x i
      go (inr (inl e)) = subst (λ (y : Operation). asked y.op ≡ Some y.ask) (sym e) f
      go (inr (inr i)) = absurd i

  -- one more output, and one more pending operation
  says : (kb : Config) (out : List Output) (ops : List Operation) (o : Output) → IsFine o → Calm kb out ops → Calm kb (out ++ o ∷ []) ops
  says kb out ops o f w = record { config = w.config; fine = fine_more out o f w.fine; known = w.known }

  keeps : (kb : Config) (out : List Output) (ops : List Operation) (o : Operation) → asked o.op ≡ Some o.ask → Calm kb out ops → Calm kb out (ops ++ o ∷ [])
  keeps kb out ops o f w = record { config = w.config; fine = w.fine; known = known_more ops o f w.known }

  each_answered : (t : Turn) (picked : Operation → Bool) (a : AppAnswer) → IsPlain a → C t → C (cs.answer_each picked a t)
  unfolding cs.answer_each
  each_answered t picked a p w =
      record {
        config = w.config;
        fine = λ o h. go o (has_append t.out (map (answer_to a) (filter picked t.operations)) o h);
        known = λ o h. w.known o (has_filter (λ o. not (picked o)) t.operations o h).0;
      }
    where
      go : (o : Output) → Has o t.out ⊎ Has o (map (answer_to a) (filter picked t.operations)) → IsFine o
      go o (inl h) = w.fine o h
      go o (inr h) = let z = has_map (answer_to a) (filter picked t.operations) o h in subst IsFine (sym z.2) (plain_fine z.0.op a p)

  stuck : (t : Turn) → C t → C (with_operations (map (cr.stuck t) t.operations) t)
  stuck t w =
      record {
        config = w.config;
        fine = w.fine;
        known = λ o h. let z = has_map (cr.stuck t) t.operations o h in subst IsAsked (sym z.2) (one z.0 (w.known z.0 z.1));
      }
    where
      one : (o : Operation) → asked o.op ≡ Some o.ask → asked (cr.stuck t o).op ≡ Some (cr.stuck t o).ask
      one o e = go (cs.is_asked t.here.server o)
        where
          go : (b : Bool) → IsAsked (if b then cs.at_stage Rattle.st_rules.specs.declared.client.Stage.TheVariants.Stuck o else o)
          go true = e
          go false = e

  -- A message.
  refused : (t : Turn) (file : Option ℕ) (question : Body) (y : Why) (a b : ℕ) (u : Turn) → Refusal t file question y a b u → C t → C u
  refused t file question _ a b _ (trace.NoFile _ _ ino e) w = each_answered t (cr.works_on t ino) answers.NoFile tt w
  refused t file question _ a b _ (trace.TooManyLocks _ _ ino e) w = each_answered t (cr.works_on t ino) answers.TooManyLocks tt w
  refused t file question _ a b _ (trace.NoSpace _ _ ino p e q) w = each_answered t (cr.writes_on t ino p) (answers.NoSpace a b) tt w
  refused t file question _ a b _ (trace.NotHolder _ _ e) w = each_answered t (cs.is_asked t.here.server) answers.NotHolder tt w
  refused t file question y a b _ (trace.AnswersNone _ _ _) w = w

  plain_name : (r : NameReply) → IsPlain (cr.name_answer r)
  plain_name (replies.Ino ino) = tt
  plain_name (replies.Listed rows) = tt
  plain_name (replies.Refused code) = tt

  has_effect : (t : Turn) (v : ClientSession) (file : Option ℕ) (question b : Body) (u : Turn) → Effect now t v file question b u → C t → C u
  has_effect t v file question _ _ (trace.IsGranted ino g mode x e) w = w
  has_effect t v file question _ _ (trace.IsQueued ino mode e) w = w
  has_effect t v file question _ _ (trace.HoldsAlready ino mode e) w = w
  has_effect t v file question _ _ (trace.IsToldExtents ino rows e) w = w
  has_effect t v file question _ _ (trace.IsToldLate ino rows e) w = w
  has_effect t v file question _ _ trace.IsAcknowledged w = each_answered t (cs.is_asked t.here.server) answers.Cut tt w
  has_effect t v file question _ _ (trace.IsNamed r e) w = each_answered t (cs.is_asked t.here.server) (cr.name_answer r) (plain_name r) w
  has_effect t v file question _ _ (trace.IsRemoved ino removed l e q) w = each_answered t (cs.is_asked t.here.server) (answers.Named ino) tt w
  has_effect t v file question _ _ trace.IsReasserted w = w
  has_effect t v file question _ _ (trace.Effect.IsRefused y a b u r) w = stuck u (refused t file question y a b u r w)

  renewed : (t : Turn) (v : ClientSession) (stamp : Stamp) (u : Turn) → Renews t v stamp u → C t → C u
  renewed t v stamp _ (trace.IsLater e) w = says t.config t.out t.operations _ tt w
  renewed t v stamp _ (trace.IsNoLater e) w = w

  heard : (h : Header) (t : Turn) (b : Body) (u : Turn) → Receives now h t b u → C t → C u
  unfolding cs.send
  heard h t _ _ (trace.PassesOver b) w = w
  heard h t _ _ (trace.Begins r e i) w = says t.config t.out t.operations _ tt w
  heard h t _ _ (trace.FollowsEpoch v a b m e) w =
      each_answered (with_session (cr.in_epoch (trace.epoch_of h) v) t) (cs.is_asked t.here.server) (answers.Uncertain v.epoch.0 h.epoch) tt w
  heard h t _ _ (trace.IsCondemned b v m e) w = w
  heard h t _ _ (trace.IsGrantedLater ino g mode v x m e y) w = w
  heard h t _ _ (trace.SeesDemand ino g to v m e) w = says t.config t.out t.operations _ tt w
  heard h t _ _ (trace.GivesUp ino g to v m e y) w = w
  heard h t _ _ (trace.HasGivenUp ino g to v m e y) w = w
  heard h t _ u (trace.IsAnswered b v q x _ r n f) w =
      has_effect (with_session (cr.ended_by (trace.stamp_of h) v) x) (cr.ended_by (trace.stamp_of h) v) (cs.file_asked v.cutting q.body) q.body b u f
      (renewed t v (trace.stamp_of h) x n w)

  received : (h : Header) (b : Body) (t : Turn) → C t → C (cr.receive_at now h b t)
  received h b t w = heard h t b (cr.receive_at now h b t) (receives now h t b) w

  -- A loss, at a server whose lease is over: so it isn't this one.
  module _ (x : ClientSession) (server : ServerId) (away : server ≢ s) where
    -- with those operations that were not looked at yet
    record Ending (os : List Operation) (v : Turn) : Type 0 where
      pub at : v.here.server ≡ server
      pub calm : C v
      pub rest : AllKnown os

    quiesced : (o : Operation) (v : Turn) → v.here.server ≡ server → cs.is_of v.here.server o ≡ true → asked o.op ≡ Some o.ask →
        IsFine (outputs.Answer o.op answers.Quiesced)
    quiesced o v at own e = λ serves. record {
      ask = o.ask;
      known = e;
      elsewhere = λ q. away (sym at ∙ sym (server_is v.here.server o own) ∙ q);
    }

    ended : (o : Operation) (os : List Operation) (v u : Turn) → Ended x o v u → Ending (o ∷ os) v → Ending os u
    ended o os v _ (losing.IsElsewhere e) z = record {
      at = z.at;
      calm = keeps v.config v.out v.operations o (z.rest o (inl refl)) z.calm;
      rest = λ y h. z.rest y (inr h);
    }
    ended o os v _ (losing.IsUncertain e q) z = record { at = z.at; calm = says v.config v.out v.operations _ tt z.calm; rest = λ y h. z.rest y (inr h) }
    ended o os v _ (losing.IsToldLost f e q a l) z = record { at = z.at; calm = says v.config v.out v.operations _ tt z.calm; rest = λ y h. z.rest y (inr h) }
    ended o os v _ (losing.LostNothing f e q a l) z =
        record { at = z.at; calm = says v.config v.out v.operations _ (quiesced o v z.at e (z.rest o (inl refl))) z.calm; rest = λ y h. z.rest y (inr h) }
    ended o os v _ (losing.IsQuiesced e q a) z =
        record { at = z.at; calm = says v.config v.out v.operations _ (quiesced o v z.at e (z.rest o (inl refl))) z.calm; rest = λ y h. z.rest y (inr h) }

  -- a lease of the server lasts
  abbrev pub IsOpen : Association → Type 0
  IsOpen a = a.server ≡ s → is_ended k now a.session ≡ false

  lost : (t : Turn) → IsOpen t.here → C t → C (cl.lose now t)
  lost t ongoing w = go (cl.lose now t) (loses now t)
    where
      go : (u : Turn) → Loses now t u → C u
      go _ (losing.HasNoSession e) = w
      go _ (losing.Lasts x e o) = w
      go _ (losing.IsLost x u e o p) = r.calm
        where
          away : t.here.server ≢ s
          away q = not_both (is_ended k now t.here.session)
              (ap (is_ended k now) e ∙ sym (over_is k x.lease now) ∙ ap (λ kb. Rattle.st_rules.specs.ClientLease.must_discard (standing_of kb x.lease now))
              (sym w.config) ∙ o) (ongoing q)

          r : Ending x t.here.server away [] u
          r =
              each_lasts (Ended x) (λ os v. Ending x t.here.server away os v) (λ o os v y step z. ended x t.here.server away o os v y step z) t.operations
              (with_operations [] (losing.loss_noted t)) u p
              (record {
                at = refl;
                calm = record { config = w.config; fine = fine_more t.out _ away w.fine; known = λ o h. absurd h };
                rest = w.known;
              })

  -- An ask.
  taken : (op : ℕ) (ask : Ask) → asked op ≡ Some ask → (t : Turn) → C t → C (only_at (server_of ask) (cl.take_ask op ask) t)
  taken op ask e t w = at_server (λ (u : Turn). C u) (server_of ask) (cl.take_ask op ask) t (λ i. go (cl.take_ask op ask t) (takes op ask t)) (λ i. w)
    where
      go : (u : Turn) → Takes op ask t u → C u
      go _ (ends.TellsLost f q l) = says t.config t.out t.operations _ tt w
      go _ (ends.WaitsForSync f q l) = keeps t.config t.out t.operations (cs.new_operation op ask) e w
      go _ (ends.Waits n) = keeps t.config t.out t.operations (cs.new_operation op ask) e w

  -- The end of a command.
  finished : (number : ℕ) (r : Option (Option (Tag × List ℕ))) (t : Turn) → C t → C (cl.finish number r t)
  finished number r t w = go (cl.finish number r t) (finishes number r t)
    where
      go : (u : Turn) → Finishes number r t u → C u
      go _ (ends.IsUnknown e) = w
      go _ (ends.IsOfOtherKind x block o e i) = w
      go _ (ends.Fills x block o i e) = w
      go _ (ends.Hardens x v o i e j) = w
      go _ (ends.WroteOlder x v o i e j) = w
      go _ (ends.FailsToRead x o i e) = each_answered (ends.without x t) _ _ tt w
      go _ (ends.FailsToWrite x v o i e j) =
          each_answered (ends.with_pages (Rattle.st_rules.specs.ClientPages.fail t.here.store.pages x.ino x.page x.number) (ends.without x t)) _ _ tt w
      go _ (ends.FailsToWriteOlder x v o i e j) = each_answered (ends.without x t) _ _ tt w

  -- The passes, at a server whose lease serves.
  abbrev pub IsServed : Association → Type 0
  IsServed a = Serves → a.server ≡ s → (x : ClientSession) → a.session ≡ Some x → is_serving k x now ≡ true

  module _ (here : Association) (served : IsServed here) where
    -- with those operations that were not looked at yet
    record Passing (os : List Operation) (v : Turn) : Type 0 where
      pub server : v.here.server ≡ here.server
      pub session : v.here.session ≡ here.session
      pub calm : C v
      pub rest : AllKnown os

    quiesces : (o : Operation) (v : Turn) (x : ClientSession) → v.here.server ≡ here.server → v.here.session ≡ here.session → v.config ≡ k →
        cs.is_of v.here.server o ≡ true → v.here.session ≡ Some x → is_serving v.config x now ≡ false → asked o.op ≡ Some o.ask →
        IsFine (outputs.Answer o.op answers.Quiesced)
    quiesces o v x at same config own there none e = λ serves. record {
      ask = o.ask;
      known = e;
      elsewhere = λ q. not_both (is_serving k x now)
          (served serves (sym at ∙ sym (server_is v.here.server o own) ∙ q) x (sym same ∙ there))
          (ap (λ kb. is_serving kb x now) (sym config) ∙ none);
    }

    noted : (o : Operation) (v : Turn) (f : FileId) (p : PageNo) (bytes : List ℕ) (n : Note) → Changed o.ask v f p bytes n → IsFine (outputs.Note n)
    noted o v _ _ _ _ (pass.IsWritten f p bytes e) = tt
    noted o v _ _ _ _ (pass.IsPatched f p at bytes old e i) = tt

    operated : (all : List Operation) (o : Operation) (os : List Operation) (v u : Turn) → Operated now all o v u → Passing (o ∷ os) v → Passing os u
    operated all o os v _ pass.Waits z = record {
      server = z.server;
      session = z.session;
      calm = keeps v.config v.out v.operations o (z.rest o (inl refl)) z.calm;
      rest = λ y h. z.rest y (inr h);
    }
    operated all o os v _ (pass.IsHard f e q h) z = record {
      server = z.server;
      session = z.session;
      calm = says v.config v.out v.operations _ tt z.calm;
      rest = λ y h. z.rest y (inr h);
    }
    operated all o os v _ (pass.IsQuiesced x own n there none unsent) z = record {
      server = z.server;
      session = z.session;
      calm = says v.config v.out v.operations _ (quiesces o v x z.server z.session z.calm.config own there none (z.rest o (inl refl))) z.calm;
      rest = λ y h. z.rest y (inr h);
    }
    operated all o os v _ (pass.ChangesPage x f p bytes n served_by changed may full) z = record {
      server = z.server;
      session = z.session;
      calm = says v.config (v.out ++ outputs.Note n ∷ []) v.operations _ tt
          (says v.config v.out v.operations (outputs.Note n) (noted o v f p bytes n changed) z.calm);
      rest = λ y h. z.rest y (inr h);
    }
    operated all o os v _ (pass.IsDirtyFull x f p bytes n served_by changed may full) z = record {
      server = z.server;
      session = z.session;
      calm = says v.config v.out v.operations _ tt z.calm;
      rest = λ y h. z.rest y (inr h);
    }
    operated all o os v _ (pass.Fetches x f p m served_by needs e j b) z = record {
      server = z.server;
      session = z.session;
      calm = keeps v.config (v.out ++ outputs.Submit v.next_command m.at (commands.Read m.at) ∷ []) v.operations o (z.rest o (inl refl))
          (says v.config v.out v.operations (outputs.Submit v.next_command m.at (commands.Read m.at)) tt z.calm);
      rest = λ y h. z.rest y (inr h);
    }
    operated all o os v _ (pass.ReadsCached x f p bytes served_by e h q) z = record {
      server = z.server;
      session = z.session;
      calm = says v.config v.out v.operations _ tt z.calm;
      rest = λ y i. z.rest y (inr i);
    }
    operated all o os v _ (pass.ReadsZeros x f p e served_by q h i j m) z = record {
      server = z.server;
      session = z.session;
      calm = says v.config v.out v.operations _ tt z.calm;
      rest = λ y l. z.rest y (inr l);
    }

  reduced : (ino : ℕ) (t u : Turn) → Reduced ino t u → C t → C u
  reduced ino t _ StaysHeld w = w
  reduced ino t _ (IsReduced v g to e m q) w = w

  wrote : (tick : Bool) (x : ℕ × PageNo) (t u : Turn) → WritesOut now tick x t u → C t → C u
  wrote tick x t _ StaysDirty w = w
  wrote tick x t _ (IsWritten v d m e q i j) w = says t.config t.out t.operations _ tt w

  greeted : (tick : Bool) (t u : Turn) → Greets now tick t u → C t → C u
  unfolding cs.send
  greeted tick t _ asking.IsSilent w = w
  greeted tick t _ (asking.SaysHello e m) w = says t.config t.out t.operations _ tt w

  sent_known : (o : Operation) (b : Bool) → asked o.op ≡ Some o.ask → asked (cp.sent_if b o).op ≡ Some (cp.sent_if b o).ask
  sent_known o true e = e
  sent_known o false e = e

  requested : (tick : Bool) (t u : Turn) → Requests now tick t u → C t → C u
  unfolding cs.send
  requested tick t _ asking.AsksNothing w = w
  requested tick t _ (asking.AsksAgain v q e c n o) w = says t.config t.out t.operations _ tt w
  requested tick t _ (asking.Reasserts v m d) w = says t.config t.out t.operations _ tt w
  requested tick t _ (asking.Releases v r rs m d e) w = says t.config t.out t.operations _ tt w
  requested tick t _ (asking.AsksFor v xs o ys x f e first) w =
      record {
        config = w.config;
        fine = fine_more t.out _ tt w.fine;
        known = λ y h. go y (has_append xs (cp.sent_if x.own o ∷ ys) y h);
      }
    where
      old : (y : Operation) → Has y (xs ++ o ∷ ys) → asked y.op ≡ Some y.ask
      old y h = w.known y (subst (Has y) (sym first.there) h)

      go : (y : Operation) → Has y xs ⊎ Has y (cp.sent_if x.own o ∷ ys) → asked y.op ≡ Some y.ask
      go y (inl h) = old y (has_left xs (o ∷ ys) y h)
      go y (inr (inl q)) = subst (λ (z : Operation). asked z.op ≡ Some z.ask) (sym q) (sent_known o x.own (old o (has_right xs (o ∷ ys) o (inl refl))))
      go y (inr (inr h)) = old y (has_right xs (o ∷ ys) y (inr h))
  requested tick t _ (asking.KeepsAlive v f e) w = says t.config t.out t.operations _ tt w

  passed : (tick : Bool) (t : Turn) → IsServed t.here → C t → C (cp.passes now tick t)
  passed tick t served w =
      let r = passes now tick t in
      let z : Passing t.here served [] r.operated =
      each_lasts (Operated now t.operations) (λ os v. Passing t.here served os v) (λ o os v y step z. operated t.here served t.operations o os v y step z)
      t.operations (with_operations [] t) r.operated r.operations
      (record { server = refl; session = refl; calm = record { config = w.config; fine = w.fine; known = λ o h. absurd h }; rest = w.known }) in
      requested tick r.greeted (cp.passes now tick t) r.requests
      (greeted tick r.written r.greeted r.greeting
      (each_lasts (WritesOut now tick) (λ xs v. C v) (λ x xs v y step z. wrote tick x v y step z) (places_of r.reduced.here.session r.reduced.here.store.pages)
      r.reduced r.written r.writes
      (each_lasts Reduced (λ xs v. C v) (λ x xs v y step z. reduced x v y step z) (cp.files_demanded r.operated.here.session) r.operated r.reduced
      r.reductions z.calm)))

  -- A rule at each server in turn, if each association is as it must be.
  abbrev CT : ClientTurn → Type 0
  CT t = Calm t.state.config t.out t.state.operations

  these : (Is : Association → Type 0) (rule : Turn → Turn) → ((t : Turn) → Is t.here → C t → C (rule t)) → (al : List Association) (t : ClientTurn) →
      ((a : Association) → Has a al → Is a) → CT t → CT (at_these rule al t)
  unfolding at_these
  these Is rule one [] t f w = w
  these Is rule one (a ∷ al) t f w =
      let z = one (enter t a) (f a (inl refl)) w in
      these Is rule one al (leave t (rule (enter t a))) (λ b h. f b (inr h)) (record { config = w.config; fine = z.fine; known = z.known })

  each : (Is : Association → Type 0) (rule : Turn → Turn) → ((t : Turn) → Is t.here → C t → C (rule t)) → (t : ClientTurn) →
      ((a : Association) → Has a t.state.associations → Is a) → CT t → CT (at_each rule t)
  unfolding at_each
  each Is rule one t f w = these Is rule one t.state.associations (with_associations [] t) f w

  -- an input that is an ask is known
  abbrev pub IsAsk : ClientInput → Type 0
  IsAsk (inputs.App op ask) = asked op ≡ Some ask
  IsAsk i = Unit {0}

  input_taken : (t : ClientTurn) (i : ClientInput) → IsAsk i → CT t → CT (cl.take_input t now i)
  unfolding cl.take_input cl.app cl.app_known cl.done cr.receive cr.receive_here
  input_taken t inputs.Tick f w = w
  input_taken t (inputs.App op ask) f w =
      cond_either (λ (u : ClientTurn). CT u) (cl.is_full t.state) (cl.answered_at_once t op answers.OpsFull) (cl.app_known t op ask)
      (λ e. says t.state.config t.out t.state.operations (outputs.Answer op answers.OpsFull) tt w)
      (λ e. cond_either (λ (u : ClientTurn). CT u) (cl.is_configured t.state (server_of ask)) (at_each (only_at (server_of ask) (cl.take_ask op ask)) t)
      (cl.answered_at_once t op answers.NoFile)
      (λ i. each (λ a. Unit {0}) (only_at (server_of ask) (cl.take_ask op ask)) (λ u y z. taken op ask f u z) t (λ a h. tt) w)
      (λ i. says t.state.config t.out t.state.operations (outputs.Answer op answers.NoFile) tt w))
  input_taken t (inputs.Control m) f w =
      cond_either (λ (u : ClientTurn). CT u) (m.header.to == t.state.id.0) (at_each (cr.receive_at now m.header m.body) t) t
      (λ e. each (λ a. Unit {0}) (cr.receive_at now m.header m.body) (λ u y z. received m.header m.body u z) t (λ a h. tt) w) (λ e. w)
  input_taken t (inputs.Done number r) f w = each (λ a. Unit {0}) (cl.finish number r) (λ u y z. finished number r u z) t (λ a h. tt) w

  -- The whole step.
  module _ (st : ClientState) (i : ClientInput) (fit : (a : Association) → Has a st.associations → Fit a) (config : st.config ≡ k)
      (ongoing : (a : Association) → Has a st.associations → IsOpen a)
      (serving : (b : Association) → Has b (cl.client_step st now i).state.associations → IsServed b) (known : AllKnown st.operations) (ask : IsAsk i) where
    -- the passes leave leases, so a lease that serves after them served before them
    served_before : (a : Association) → Has a (cl.take_input (cl.losses (client_turn st []) now) now i).state.associations → IsServed a
    served_before a h serves at x e = go (works_on st now i fit a h)
      where
        go : (b : Association) × Has b (cl.client_step st now i).state.associations × Rattle.st_laws_healthy.proofs.Stepping.WorksAt now a b →
            is_serving k x now ≡ true
        go (b, j, z) =
            let p : IsPassed now x b.session = subst (λ o. After now o b.session) e z.session in
            subst (λ (l : ClientLease). may_use (standing_of k l now) ≡ true) p.lease (serving b j serves (z.server ∙ at) p.session p.is)

    pub stepped : AllFine (cl.client_step st now i).out
    unfolding cl.client_step cl.work cl.losses
    stepped =
        (each IsServed (cp.passes now (cl.is_tick i)) (λ u f w. passed (cl.is_tick i) u f w)
        (cl.take_input (cl.losses (client_turn st []) now) now i) served_before (input_taken (cl.losses (client_turn st []) now) i ask
        (each IsOpen (cl.lose now) (λ u f w. lost u f w) (client_turn st []) ongoing (record { config = config; fine = λ o h. absurd h; known = known })))).fine
