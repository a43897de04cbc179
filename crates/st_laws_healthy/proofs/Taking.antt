-- What a client does with an input at a server, and with a lease that is over: asks of applications and ends of commands leave its session there alike; and
-- before the passes it sends nothing but that it saw a demand.
use Rattle.st_lemmas.proofs.Words
use Words.{◌≡◌, ℕ, ◌⊎◌, Bool, List, [], ◌∷◌, ◌++◌, Option, refl, sym, ap, ◌∙◌, subst, inl, inr, map, filter, Tag, GrantNo, ServerId, Stamp, AppAnswer, Ask}
use Words.{Body, Header, Message, Why, Output, Operation}
use Words.answers
use Words.bodies
use Words.outputs
use Words.Client as cl
use Words.ClientReplies as cr
use Words.ClientState as cs
use Words.ClientState.{ClientSession, Turn, answer_each, answer_to, only_at, with_operations}
use Words.Lists.{Has}
use Words.Tables.{has_append, has_map}
use Rattle.st_trace.specs.Client.Commands as commands
use Rattle.st_trace.specs.Client.Commands.{Finishes, Takes}
use Rattle.st_trace.specs.Client.Losses as losses
use Rattle.st_trace.specs.Client.Losses.{Ended, Loses, loss_noted}
use Rattle.st_trace.specs.Client.Messages as messages
use Rattle.st_trace.specs.Client.Messages.{Effect, Receives, Refusal, Renews}
use Rattle.st_trace.proofs.Client.Finishing.{at_server, finishes, takes}
use Rattle.st_trace.proofs.Client.Losing.{loses}
use Rattle.st_trace.proofs.Client.Receiving.{receives}
use Rattle.st_trace.proofs.Client.Walk.{each_lasts}
use Rattle.st_laws_healthy.proofs.Passing.{Alike, IsIdle, alike_self, idle_says, idle_self, idle_then, unsent}

-- Nothing is sent.
abbrev pub Sends : Turn → Turn → Type 0
Sends t u = (m : Message) → Has (outputs.Send m) u.out → Has (outputs.Send m) t.out

-- answers aren't messages
pub unsent_answers : (os : List Output) (a : AppAnswer) (xs : List Operation) (m : Message) → Has (outputs.Send m) (os ++ map (answer_to a) xs) →
    Has (outputs.Send m) os
unsent_answers os a xs m h = go (has_append os (map (answer_to a) xs) (outputs.Send m) h)
  where
    no : (x : Operation) → outputs.Send m ≡ answer_to a x → ⊥
    no x e = cc

    go : Has (outputs.Send m) os ⊎ Has (outputs.Send m) (map (answer_to a) xs) → Has (outputs.Send m) os
    go (inl i) = i
    go (inr i) = let z = has_map (answer_to a) xs (outputs.Send m) i in absurd (no z.0 z.2)

idle_answers : (t : Turn) (picked : Operation → Bool) (a : AppAnswer) → IsIdle t (answer_each picked a t)
unfolding answer_each
idle_answers t picked a =
    record {
      id = refl;
      server = refl;
      life = refl;
      greeting = refl;
      session = alike_self t.here.session;
      quiet = λ m h. unsent_answers t.out a (filter picked t.operations) m h;
    }

-- the same turn with other operations or pages
idle_beside : (t u : Turn) → u.id ≡ t.id → u.here.server ≡ t.here.server → u.here.life ≡ t.here.life → u.here.greeting ≡ t.here.greeting →
    u.here.session ≡ t.here.session → u.out ≡ t.out →
    IsIdle t u
idle_beside t u i s l g e o =
    record {
      id = i;
      server = s;
      life = l;
      greeting = g;
      session = subst (λ x. Alike t.here.session x) (sym e) (alike_self t.here.session);
      quiet = λ m h. subst (Has (outputs.Send m)) o h;
    }

-- An ask.
taken_idle : (op : ℕ) (ask : Ask) (t u : Turn) → Takes op ask t u → IsIdle t u
taken_idle op ask t _ (commands.TellsLost f e h) = idle_says t _ (λ m e. cc) _ refl refl refl refl refl refl
taken_idle op ask t _ (commands.WaitsForSync f e h) = idle_beside t _ refl refl refl refl refl refl
taken_idle op ask t _ (commands.Waits e) = idle_beside t _ refl refl refl refl refl refl

pub ask_idle : (v : ServerId) (op : ℕ) (ask : Ask) (t : Turn) → IsIdle t (only_at v (cl.take_ask op ask) t)
ask_idle v op ask t = at_server (IsIdle t) v (cl.take_ask op ask) t (λ e. taken_idle op ask t (cl.take_ask op ask t) (takes op ask t)) (λ e. idle_self t)

-- The end of a command.
finished_idle : (number : ℕ) (r : Option (Option (Tag × List ℕ))) (t u : Turn) → Finishes number r t u → IsIdle t u
finished_idle number r t _ (commands.IsUnknown e) = idle_self t
finished_idle number r t _ (commands.IsOfOtherKind c b o e k) = idle_self t
finished_idle number r t _ (commands.Fills c b o k e) = idle_beside t _ refl refl refl refl refl refl
finished_idle number r t _ (commands.Hardens c v o k e w) = idle_beside t _ refl refl refl refl refl refl
finished_idle number r t _ (commands.WroteOlder c v o k e w) = idle_beside t _ refl refl refl refl refl refl
finished_idle number r t _ (commands.FailsToRead c o k e) =
    idle_then t (commands.without c t) _ (idle_beside t (commands.without c t) refl refl refl refl refl refl)
    (idle_answers (commands.without c t) (cl.waits_for_read t c) (answers.DiskFault c.number))
finished_idle number r t _ (commands.FailsToWrite c v o k e p) =
    let w = commands.with_pages (Rattle.st_rules.specs.ClientPages.fail t.here.store.pages c.ino c.page c.number) (commands.without c t) in
    idle_then t w _ (idle_beside t w refl refl refl refl refl refl) (idle_answers w (cl.waits_for_write t c) (answers.DiskFault c.number))
finished_idle number r t _ (commands.FailsToWriteOlder c v o k e p) =
    idle_then t (commands.without c t) _ (idle_beside t (commands.without c t) refl refl refl refl refl refl)
    (idle_answers (commands.without c t) (cl.waits_for_write t c) (answers.DiskFault c.number))

pub end_idle : (number : ℕ) (r : Option (Option (Tag × List ℕ))) (t : Turn) → IsIdle t (cl.finish number r t)
end_idle number r t = finished_idle number r t (cl.finish number r t) (finishes number r t)

-- A loss.
ended_quiet : (s : ClientSession) (o : Operation) (t u : Turn) → Ended s o t u → Sends t u
ended_quiet s o t _ (losses.IsElsewhere e) m h = h
ended_quiet s o t _ (losses.IsUncertain e f) m h = unsent t.out _ (λ m e. cc) m h
ended_quiet s o t _ (losses.IsToldLost f a b c d) m h = unsent t.out _ (λ m e. cc) m h
ended_quiet s o t _ (losses.LostNothing f a b c d) m h = unsent t.out _ (λ m e. cc) m h
ended_quiet s o t _ (losses.IsQuiesced a b c) m h = unsent t.out _ (λ m e. cc) m h

lost_quiet : (now : Stamp) (t u : Turn) → Loses now t u → Sends t u
lost_quiet now t _ (losses.HasNoSession e) m h = h
lost_quiet now t _ (losses.Lasts s e f) m h = h
lost_quiet now t _ (losses.IsLost s u e f each) m h =
    unsent t.out _ (λ m e. cc) m
    (each_lasts (Ended s) (λ xs v. Sends (loss_noted t) v) (λ x xs v w o q n i. q n (ended_quiet s x v w o n i)) t.operations
    (with_operations [] (loss_noted t)) u each (λ n i. i) m h)

pub lose_quiet : (now : Stamp) (t : Turn) → Sends t (cl.lose now t)
lose_quiet now t = lost_quiet now t (cl.lose now t) (loses now t)

-- A message: what is sent tells that a demand was seen.
pub data IsSeen : Body → Type 0 where
  SawDemand : (ino : ℕ) (g : GrantNo) → IsSeen (bodies.DemandSeen ino g)

abbrev pub SendsSeen : Turn → Turn → Type 0
SendsSeen t u = (m : Message) → Has (outputs.Send m) u.out → Has (outputs.Send m) t.out ⊎ IsSeen m.body

seen_sent : (os : List Output) (x : Message) (ino : ℕ) (g : GrantNo) → x.body ≡ bodies.DemandSeen ino g → (m : Message) →
    Has (outputs.Send m) (os ++ outputs.Send x ∷ []) →
    Has (outputs.Send m) os ⊎ IsSeen m.body
seen_sent os x ino g e m h = go (has_append os (outputs.Send x ∷ []) (outputs.Send m) h)
  where
    same : outputs.Send m ≡ outputs.Send x → m ≡ x
    same q = cc

    go : Has (outputs.Send m) os ⊎ Has (outputs.Send m) (outputs.Send x ∷ []) → Has (outputs.Send m) os ⊎ IsSeen m.body
    go (inl j) = inl j
    go (inr (inl q)) = inr (subst IsSeen (sym (ap (λ (y : Message). y.body) (same q) ∙ e)) (SawDemand ino g))
    go (inr (inr j)) = absurd j

refused_quiet : (t : Turn) (file : Option ℕ) (asked : Body) (w : Why) (a b : ℕ) (u : Turn) → Refusal t file asked w a b u → Sends t u
unfolding answer_each
refused_quiet t file asked _ a b _ (messages.NoFile _ _ ino e) m h = unsent_answers t.out _ _ m h
refused_quiet t file asked _ a b _ (messages.TooManyLocks _ _ ino e) m h = unsent_answers t.out _ _ m h
refused_quiet t file asked _ a b _ (messages.NoSpace _ _ ino p e q) m h = unsent_answers t.out _ _ m h
refused_quiet t file asked _ a b _ (messages.NotHolder _ _ e) m h = unsent_answers t.out _ _ m h
refused_quiet t file asked w a b _ (messages.AnswersNone _ _ _) m h = h

effect_quiet : (now : Stamp) (t : Turn) (s : ClientSession) (file : Option ℕ) (asked b : Body) (u : Turn) → Effect now t s file asked b u → Sends t u
unfolding answer_each
effect_quiet now t s file asked _ _ (messages.IsGranted ino g mode v k) m h = h
effect_quiet now t s file asked _ _ (messages.IsQueued ino mode e) m h = h
effect_quiet now t s file asked _ _ (messages.HoldsAlready ino mode e) m h = h
effect_quiet now t s file asked _ _ (messages.IsToldExtents ino rows e) m h = h
effect_quiet now t s file asked _ _ (messages.IsToldLate ino rows e) m h = h
effect_quiet now t s file asked _ _ messages.IsAcknowledged m h = unsent_answers t.out _ _ m h
effect_quiet now t s file asked _ _ (messages.IsNamed r k) m h = unsent_answers t.out _ _ m h
effect_quiet now t s file asked _ _ (messages.IsRemoved ino removed l e q) m h = unsent_answers t.out _ _ m h
effect_quiet now t s file asked _ _ messages.IsReasserted m h = h
effect_quiet now t s file asked _ _ (messages.Effect.IsRefused w a b u r) m h = refused_quiet t file asked w a b u r m h

renews_quiet : (t : Turn) (s : ClientSession) (stamp : Stamp) (u : Turn) → Renews t s stamp u → Sends t u
renews_quiet t s stamp _ (messages.IsLater e) m h = unsent t.out _ (λ m e. cc) m h
renews_quiet t s stamp _ (messages.IsNoLater e) m h = h

receives_seen : (now : Stamp) (h : Header) (t : Turn) (b : Body) (u : Turn) → Receives now h t b u → SendsSeen t u
unfolding answer_each cs.send
receives_seen now h t b _ (messages.PassesOver _) m i = inl i
receives_seen now h t _ _ (messages.Begins r n f) m i = inl (unsent t.out _ (λ m e. cc) m i)
receives_seen now h t _ _ (messages.FollowsEpoch s a b e f) m i = inl (unsent_answers t.out _ _ m i)
receives_seen now h t b _ (messages.IsCondemned _ s e f) m i = inl i
receives_seen now h t _ _ (messages.IsGrantedLater ino g mode s v e f k) m i = inl i
receives_seen now h t _ _ (messages.SeesDemand ino g to s e f) m i = seen_sent t.out _ ino g refl m i
receives_seen now h t _ _ (messages.GivesUp ino g to s e f n) m i = inl i
receives_seen now h t _ _ (messages.HasGivenUp ino g to s e f n) m i = inl i
receives_seen now h t b _ (messages.IsAnswered _ s q v u p r k) m i =
    inl (renews_quiet t s _ v r m (effect_quiet now (cs.with_session (cr.ended_by (messages.stamp_of h) s) v) (cr.ended_by (messages.stamp_of h) s) _ _ b u k
    m i))

pub receive_seen : (now : Stamp) (h : Header) (b : Body) (t : Turn) → SendsSeen t (cr.receive_at now h b t)
receive_seen now h b t = receives_seen now h t b (cr.receive_at now h b t) (receives now h t b)
