-- What a client's rules leave of what is pending, answered and sent, and whose request is outstanding.
use Rattle.st_lemmas.proofs.Words
use Words.{◌≡◌, ℕ, ◌+◌, ◌≤◌, ◌⊎◌, Bool, true, false, ◌==◌, List, [], ◌∷◌, ◌++◌, Option, Some, None, refl, sym, ap, ◌∙◌, subst, inl, inr, arith, if◌then◌else◌}
use Words.{append_assoc, eqb-true, eq-eqb, Tag, ClientId, FileId, GrantNo, PageNo, ServerId, Stamp, Mode, NameAsk, AppAnswer, Ask, Body, Header, Note, Output}
use Words.{Operation, PageCommand, Request, Stage, append-nil}
use Words.commands
use Words.names
use Words.answers
use Words.asks
use Words.bodies
use Words.outputs
use Words.io
use Words.stages
use Words.Client as cl
use Words.ClientLocks as locks
use Words.ClientPages as pages
use Words.ClientPasses as cp
use Words.ClientReplies as cr
use Words.ClientState as cs
use Words.ClientState.{ClientSession, Turn, server_of, say, with_session, with_store, with_operations}
use Words.Lists.{Has}
use Words.Lookups.{some_is}
use Words.Tables.{and_both, and_left, and_right, and_true, has_append}
use Words.Keys.{page_no}
use Words.Members.{has_left, has_right}
use Words.Truth.{clash}
use Rattle.st_laws_requests.specs.Cuts.Cuts.{MeansNone}
use Rattle.st_laws_cuts.specs.Owners.{Means, MeansCut, Owned, OwnedBy, Owner, view}
use Rattle.st_laws_cuts.proofs.Losing.{Silent, silent_more}
use Rattle.st_laws_cuts.proofs.Counts.{one_if, pending, pending_more, told, told_more}
use Rattle.st_laws_cuts.proofs.Owning.{Base, C, Fine, W, base_after_longer_list, base_after_operations, base_after_say, one_good, turn_base_after_answers, turn_base_after_say, into, means_other, owned_after_answers, owned_after_free}
use Rattle.st_laws_cuts.proofs.Owning.{whole_after_asked, whole_after_refused, whole_after_say, whole_after_view}
use Rattle.st_trace.specs.Client.Commands as ending
use Rattle.st_trace.specs.Client.Commands.{Finishes, Takes}
use Rattle.st_trace.specs.Client.Losses as losing
use Rattle.st_trace.specs.Client.Losses.{Ended, Loses}
use Rattle.st_trace.specs.Client.Messages as trace
use Rattle.st_trace.specs.Client.Messages.{Effect, Grants, Receives, Renews}
use Rattle.st_trace.specs.Client.Operations as pass
use Rattle.st_trace.specs.Client.Operations.{Changed, Operated}
use Rattle.st_trace.specs.Client.Passes.{Reduced, StaysHeld, IsReduced, WritesOut, StaysDirty, IsWritten, places_of}
use Rattle.st_trace.specs.Client.Requests as asking
use Rattle.st_trace.specs.Client.Requests.{AsksFirst, Greets, Requests, Wants}
use Rattle.st_trace.proofs.Client.Finishing.{finishes, takes}
use Rattle.st_trace.proofs.Client.Losing.{loses}
use Rattle.st_trace.proofs.Client.Receiving.{receives}
use Rattle.st_trace.proofs.Client.Walk.{each_lasts, passes}

module _ (c : ClientId) (K : ℕ → Type 0) (G : List Output) (s : ServerId) (B : List Operation) (out0 : List Output) where
  abbrev CC : Turn → Type 0
  CC t = C c K G s B out0 t

  abbrev WW : Turn → Type 0
  WW t = W c K G s B out0 t

  -- Messages.
  sent_fine : (t : Turn) (epoch number stamp : ℕ) (body : Body) → t.id ≡ c → Fine c K G t.here.server t.here.life.0
      (outputs.Send (record { header = cs.header_of t epoch number stamp; body = body }))
  sent_fine t epoch number stamp body e = ((ap (λ (y : ClientId). y.0) e, refl), refl)

  -- A new request, if none is outstanding.
  whole_after_ask : (t : Turn) (x : ClientSession) (now : Stamp) (body : Body) (cutting : Option ℕ) →
      (cs.asks_cut_or_name body ≡ true → Owner t.here.server cutting body t.operations) → CC t → WW (asking.asked t x now body cutting)
  unfolding cs.send cs.asking
  whole_after_ask t x now body cutting f w = (
    turn_base_after_say c K G s B out0 (with_session (cp.asking_session x now body cutting) t) _
        (sent_fine (with_session (cp.asking_session x now body cutting) t) x.epoch.0 x.requests.next now.0 body w.id_) w,
    f,
  )

  -- What an operation asks is its own request, if that cuts a file or is for a name.
  record OwnWant (a : Ask) (w : cp.Wanted) : Type 0 where
    pub own : w.own ≡ true
    pub means : Means a (cp.file_cut w.cut) w.body

  -- the inode that a removal means
  meant_is : (i ino : ℕ) → cs.meant i ≡ Some ino → ino ≡ i
  unfolding cs.meant
  meant_is i ino e = by (i == 0) e
    where
      by : (b : Bool) → (if b then None else Some i) ≡ Some ino → ino ≡ i
      by true q = cc
      by false q = sym (some_is q)

  held_none : (n : NameAsk) (ino : ℕ) (g : GrantNo) → cs.file_of_name n ≡ Some ino → MeansNone n g
  unfolding cs.meant
  held_none (names.Remove dir name i) ino g q = λ z. by (i == 0) (eq-eqb i 0 z) q
    where
      by : {A : Type 0} (b : Bool) → b ≡ true → (if b then None else Some i) ≡ Some ino → A
      by true e r = cc r
      by false e r = cc e
  held_none n ino g q = tt

  held_cut : (n : NameAsk) (ino : ℕ) (g : GrantNo) → cs.file_of_name n ≡ Some ino → MeansCut n (Some ino) g
  held_cut (names.Remove dir name i) ino g q = λ l. ap Some (meant_is i ino q)
  held_cut n ino g q = tt

  name_held : (n : NameAsk) (sv : ServerId) (ino : ℕ) (g : GrantNo) → cs.file_of_name n ≡ Some ino → Means (asks.Name sv n) (Some ino)
      (bodies.Name (cp.name_op n g))
  name_held n sv ino g q = record { g = g; is = refl; none = held_none n ino g q; cut = held_cut n ino g q }

  plain_none : (n : NameAsk) → MeansNone n locks.no_grant
  plain_none (names.Remove dir name i) = λ z. refl
  plain_none n = tt

  plain_cut : (n : NameAsk) → MeansCut n None locks.no_grant
  plain_cut (names.Remove dir name i) = λ l. absurd (omega (arith, l))
  plain_cut n = tt

  plain : (n : NameAsk) (sv : ServerId) → OwnWant (asks.Name sv n) (record { body = bodies.Name (cp.name_op n locks.no_grant); own = true; cut = None })
  plain n sv = record { own = refl; means = record { g = locks.no_grant; is = refl; none = plain_none n; cut = plain_cut n } }

  want_is : (t : Turn) (x : ClientSession) (now : Stamp) (a : Ask) (w : cp.Wanted) → Wants t x now a w → cs.asks_cut_or_name w.body ≡ true → OwnWant a w
  want_is t x now a _ (asking.ForLock ino f n c e) q = cc
  want_is t x now a _ (asking.ForPlace f p l i h c e) q = cc
  want_is t x now a _ (asking.ToWrite f p bytes l i h c e) q = cc
  want_is t x now a _ (asking.ToPatch f p at bytes l i h c e) q = cc
  want_is t x now a _ (asking.ToCut f p l i h c e) q = subst (λ z. OwnWant z (record { body = bodies.Cut f.ino l.g p; own = true; cut = Some (f.ino, p) }))
      (sym i) (record { own = refl; means = (refl, refl) })
  want_is t x now a _ (asking.ToRemove sv n ino l i f h c e) q =
      subst (λ z. OwnWant z (record { body = bodies.Name (cp.name_op n l.g); own = true; cut = Some (ino, page_no 0) })) (sym i)
      (record { own = refl; means = name_held n sv ino l.g f })
  want_is t x now a _ (asking.ToName sv n i f) q = subst (λ z. OwnWant z (record { body = bodies.Name (cp.name_op n locks.no_grant); own = true; cut = None }))
      (sym i) (plain n sv)

  -- The operations once the first of them asks: their numbers, those of other servers, and who asked.
  record AskingOk (sv : ServerId) (os qs : List Operation) (w : cp.Wanted) : Type 0 where
    pub known : ((o : Operation) → Has o os → K o.op) → (o : Operation) → Has o qs → K o.op
    pub others : (o : Operation) → Has o os → cs.is_of sv o ≡ false → Has o qs
    pub count : (k : ℕ) → pending k qs ≡ pending k os
    pub owner : cs.asks_cut_or_name w.body ≡ true → Owner sv (cp.file_cut w.cut) w.body qs

  asking_is : (t : Turn) (x : ClientSession) (now : Stamp) (xs : List Operation) (o : Operation) (ys os : List Operation) (w : cp.Wanted) →
      AsksFirst t x now xs o ys w os → AskingOk t.here.server os (xs ++ cp.sent_if w.own o ∷ ys) w
  asking_is t x now xs o ys os w k =
      record {
        known = λ f p h. known f p (has_append xs (cp.sent_if w.own o ∷ ys) p h);
        others = λ p h e. others p (has_append xs (o ∷ ys) p (subst (Has p) k.there h)) e;
        count = λ n. count n;
        owner = λ q. owner (want_is t x now o.ask w k.wants q);
      }
    where
      sv : ServerId
      sv = t.here.server

      own_it : cs.is_of sv o ≡ true
      own_it = (and_true (cs.is_of sv o) _ k.may).0

      op_same : (b : Bool) → (cp.sent_if b o).op ≡ o.op
      op_same true = refl
      op_same false = refl

      there : (p : Operation) → Has p (xs ++ o ∷ ys) → Has p os
      there p h = subst (Has p) (sym k.there) h

      known : ((p : Operation) → Has p os → K p.op) → (p : Operation) → Has p xs ⊎ Has p (cp.sent_if w.own o ∷ ys) → K p.op
      known f p (inl h) = f p (there p (has_left xs (o ∷ ys) p h))
      known f p (inr (inl q)) = subst K (sym (ap (λ (z : Operation). z.op) q ∙ op_same w.own)) (f o (there o (has_right xs (o ∷ ys) o (inl refl))))
      known f p (inr (inr h)) = f p (there p (has_right xs (o ∷ ys) p (inr h)))

      others : (p : Operation) → Has p xs ⊎ Has p (o ∷ ys) → cs.is_of sv p ≡ false → Has p (xs ++ cp.sent_if w.own o ∷ ys)
      others p (inl h) e = has_left xs _ p h
      others p (inr (inl q)) e = clash own_it (subst (λ r. cs.is_of sv r ≡ false) q e)
      others p (inr (inr h)) e = has_right xs (cp.sent_if w.own o ∷ ys) p (inr h)

      count : (n : ℕ) → pending n (xs ++ cp.sent_if w.own o ∷ ys) ≡ pending n os
      count n =
          let a = pending_more n xs (cp.sent_if w.own o ∷ ys) in let b = pending_more n xs (o ∷ ys) in let d = ap (λ z. pending n z) k.there in
          let e = ap (λ m. one_if (m == n) + pending n ys) (op_same w.own) in omega (arith, a, b, d, e)

      owner : OwnWant o.ask w → Owner sv (cp.file_cut w.cut) w.body (xs ++ cp.sent_if w.own o ∷ ys)
      owner z =
          subst (λ b. Owner sv (cp.file_cut w.cut) w.body (xs ++ cp.sent_if b o ∷ ys)) (sym z.own)
          (record {
            operation = cs.at_stage stages.Sent o;
            there = has_right xs (cs.at_stage stages.Sent o ∷ ys) (cs.at_stage stages.Sent o) (inl refl);
            asked = and_both (cs.is_of sv o) true own_it refl;
            means = z.means;
          })

  -- Requests.
  whole_after_plain_ask : (t : Turn) (x : ClientSession) (now : Stamp) (body : Body) → cs.asks_cut_or_name body ≡ false → CC t →
      WW (asking.asked t x now body None)
  whole_after_plain_ask t x now body n w = whole_after_ask t x now body None (λ e. clash e n) w

  whole_after_requested : (now : Stamp) (tick : Bool) (t u : Turn) → Requests now tick t u → WW t → WW u
  unfolding cs.send
  whole_after_requested now tick t _ asking.AsksNothing w = w
  whole_after_requested now tick t _ (asking.AsksAgain x q e n a d) w = (
    turn_base_after_say c K G s B out0 (with_session (cp.again_session x now q) t) _ (sent_fine
        (with_session (cp.again_session x now q) t) x.epoch.0 q.number now.0 q.body w.0.id_) w.0,
    subst (OwnedBy t.here.server x.cutting t.operations) a (into c K G s B out0 t x e w.1),
  )
  whole_after_requested now tick t _ (asking.Reasserts x m d) w = whole_after_plain_ask t x now _ refl w.0
  whole_after_requested now tick t _ (asking.Releases x r rs m d e) w = whole_after_plain_ask t (record x { releases = rs }) now _ refl w.0
  whole_after_requested now tick t _ (asking.AsksFor x xs o ys a f e i) w =
      let k = asking_is t x now xs o ys t.operations a i in let qs = xs ++ cp.sent_if a.own o ∷ ys in
      whole_after_ask (with_store (cp.cut_store a.cut t.here.store) (with_operations qs t)) x now a.body (cp.file_cut a.cut) k.owner
      (base_after_operations c K G s B out0 t.id t.here.server t.here.life.0 t.operations qs t.out (k.known w.0.known) k.others
      (λ n. let z = k.count n in omega (arith, z)) w.0)
  whole_after_requested now tick t _ (asking.KeepsAlive x f e) w = whole_after_plain_ask t x now _ refl w.0

  -- Messages.
  granted_view : (x : ClientSession) (ino : ℕ) (g : GrantNo) (mode : Mode) (v : ClientSession) → Grants (cs.forget_wait ino x) ino g mode v → view
      (Some v) ≡ view (Some x)
  granted_view x ino g mode _ (trace.Installs a p) = refl
  granted_view x ino g mode _ (trace.Declines a p) = refl
  granted_view x ino g mode _ (trace.IsOld a) = refl

  whole_after_effect : (now : Stamp) (t u : Turn) (x : ClientSession) (file : Option ℕ) (asked b : Body) → t.here.session ≡ Some x → x.requests.asked ≡ None →
      Effect now t x file asked b u → CC t → WW u
  unfolding cs.answer_each
  whole_after_effect now t u x file asked b e n f w = go b u f
    where
      all : WW t
      all = (w, owned_after_free c K G s B out0 t x e n)

      go : (b : Body) (u : Turn) → Effect now t x file asked b u → WW u
      go _ _ (trace.IsGranted ino g mode v k) = whole_after_view c K G s B out0 t x v e (granted_view x ino g mode v k) all
      go _ _ (trace.IsQueued ino mode q) = (w, into c K G s B out0 t x e all.1)
      go _ _ (trace.HoldsAlready ino mode q) = whole_after_view c K G s B out0 t x x e refl all
      go _ _ (trace.IsToldExtents ino rows q) = all
      go _ _ (trace.IsToldLate ino rows q) = all
      go _ _ trace.IsAcknowledged = whole_after_asked c K G s B out0 t x answers.Cut e n w
      go _ _ (trace.IsNamed r k) = whole_after_asked c K G s B out0 t x (cr.name_answer r) e n w
      go _ _ (trace.IsRemoved ino removed l q k) = let v = cs.answer_each (cs.is_asked t.here.server)
          (answers.Named ino) t in let z = whole_after_asked c K G s B out0 t x (answers.Named ino) e n w in (z.0, into c K G s B out0 v x e z.1)
      go _ _ trace.IsReasserted = (w, into c K G s B out0 t x e all.1)
      go _ _ (trace.Effect.IsRefused z a b v r) = whole_after_refused c K G s B out0 t v x z a b file asked e n r w

  renewed : (t : Turn) (x : ClientSession) (stamp : Stamp) (u : Turn) → Renews t x stamp u → CC t → CC u
  renewed t x stamp _ (trace.IsLater e) w = turn_base_after_say c K G s B out0 t _ tt w
  renewed t x stamp _ (trace.IsNoLater e) w = w

  whole_after_heard : (now : Stamp) (h : Header) (t : Turn) (b : Body) (u : Turn) → Receives now h t b u → WW t → WW u
  unfolding cs.send
  whole_after_heard now h t _ _ (trace.PassesOver b) w = w
  whole_after_heard now h t _ _ (trace.Begins r e i) w =
      (turn_base_after_say c K G s B out0 (cr.begin_here (cr.new_session (trace.epoch_of h) (trace.stamp_of h)) t) _ tt w.0, tt)
  whole_after_heard now h t _ _ (trace.FollowsEpoch x a b m e) w = whole_after_asked c K G s B out0 (with_session (cr.in_epoch (trace.epoch_of h) x) t)
      (cr.in_epoch (trace.epoch_of h) x) _ refl refl w.0
  whole_after_heard now h t _ _ (trace.IsCondemned b x m k) w = (w.0, into c K G s B out0 t x m.session w.1)
  whole_after_heard now h t _ _ (trace.IsGrantedLater ino g mode x v m e k) w =
      whole_after_view c K G s B out0 t x v m.session (granted_view x ino g mode v k) w
  whole_after_heard now h t _ _ (trace.SeesDemand ino g to x m e) w =
      let l = cs.with_cache (locks.demand x.locks ino g to).locks x in
      whole_after_say c K G s B out0 (with_session l t) (outputs.Send
      (record { header = cs.header_of (with_session l t) x.epoch.0 0 0; body = bodies.DemandSeen ino g }))
      (sent_fine (with_session l t) x.epoch.0 0 0 (bodies.DemandSeen ino g) w.0.id_) (whole_after_view c K G s B out0 t x l m.session refl w)
  whole_after_heard now h t _ _ (trace.GivesUp ino g to x m e k) w = (w.0, into c K G s B out0 t x m.session w.1)
  whole_after_heard now h t _ _ (trace.HasGivenUp ino g to x m e k) w = (w.0, into c K G s B out0 t x m.session w.1)
  whole_after_heard now h t _ u (trace.IsAnswered b x q v _ r n f) w =
      let y = cr.ended_by (trace.stamp_of h) x in
      whole_after_effect now (with_session y v) u y (cs.file_asked x.cutting q.body) q.body b refl refl f (renewed t x (trace.stamp_of h) v n w.0)

  pub whole_after_receive : (now : Stamp) (h : Header) (b : Body) (t : Turn) → WW t → WW (cr.receive_at now h b t)
  whole_after_receive now h b t w = whole_after_heard now h t b (cr.receive_at now h b t) (receives now h t b) w

  -- An operation is answered.
  more_has : (o p : Operation) (xs os : List Operation) → Has p xs ⊎ Has p os → Has p (xs ++ o ∷ os)
  more_has o p xs os (inl h) = has_left xs _ p h
  more_has o p xs os (inr h) = has_right xs (o ∷ os) p (inr h)

  less_has : (o p : Operation) (xs os : List Operation) → (p ≡ o → ⊥) → Has p xs ⊎ Has p (o ∷ os) → Has p (xs ++ os)
  less_has o p xs os n (inl h) = has_left xs _ p h
  less_has o p xs os n (inr (inl q)) = absurd (n q)
  less_has o p xs os n (inr (inr h)) = has_right xs os p h

  base_after_answer : (id : ClientId) (sv : ServerId) (life : ℕ) (xs os : List Operation) (out : List Output) (o : Operation) (a : AppAnswer) →
      cs.is_of sv o ≡ true →
      Base c K G s B out0 id sv life (xs ++ o ∷ os) out →
      Base c K G s B out0 id sv life (xs ++ os) (out ++ outputs.Answer o.op a ∷ [])
  base_after_answer id sv life xs os out o a here b =
      base_after_longer_list c K G s B out0 id sv life (xs ++ o ∷ os) (xs ++ os) out (outputs.Answer o.op a ∷ [])
      (one_good c K G s B out0 sv life (outputs.Answer o.op a) (b.known o (has_right xs (o ∷ os) o (inl refl))))
      (λ p h. b.known p (more_has o p xs os (has_append xs os p h)))
      (λ p h e. less_has o p xs os (λ q. clash here (subst (λ z. cs.is_of sv z ≡ false) q e)) (has_append xs (o ∷ os) p h))
      (λ k.
      let u = pending_more k xs os in
      let v = pending_more k xs (o ∷ os) in
      let w = told_more k out (outputs.Answer o.op a ∷ []) in
      let z = b.few k in
      omega (arith, u, v, w, z)) b

  -- Ends of commands.
  own_reads : (sv : ServerId) (ino : ℕ) (p : PageNo) (o : Operation) → cs.is_of sv o ≡ false → cs.reads_page sv ino p o.ask ≡ false
  own_reads sv ino p o e = go o.ask e
    where
      go : (a : Ask) → Rattle.st_rules.specs.Keys.same_server (server_of a) sv ≡ false → cs.reads_page sv ino p a ≡ false
      go (asks.Read f q) e = and_left _ _ e
      go (asks.Patch f q at bytes) e = and_left _ _ e
      go a e = refl

  pub whole_after_finish : (number : ℕ) (r : Option (Option (Tag × List ℕ))) (t : Turn) → WW t → WW (cl.finish number r t)
  whole_after_finish number r t w = go (cl.finish number r t) (finishes number r t)
    where
      reads : (x : PageCommand) (u : Turn) → WW u → u.here.server ≡ t.here.server → WW (cs.answer_each (cl.waits_for_read t x) (answers.DiskFault x.number) u)
      reads x u k e = (
        turn_base_after_answers c K G s B out0 u (cl.waits_for_read t x) _ (λ o q. own_reads t.here.server x.ino x.page o
            (subst (λ (z : ServerId). cs.is_of z o ≡ false) e q)) k.0,
        owned_after_answers c K G s B out0 u (cl.waits_for_read t x) (answers.DiskFault x.number)
            (λ o cutting body m. means_other (cs.reads_page t.here.server x.ino x.page) (λ f p. refl) (λ sv n. refl) o.ask cutting body m) k.1,
      )

      syncs : (x : PageCommand) (u : Turn) → WW u → u.here.server ≡ t.here.server → WW (cs.answer_each (cl.waits_for_write t x) (answers.DiskFault x.number) u)
      syncs x u k e = (
        turn_base_after_answers c K G s B out0 u (cl.waits_for_write t x) _ (λ o q. and_left _ _
            (and_left (cs.is_of t.here.server o) _ (subst (λ (z : ServerId). cs.is_of z o ≡ false) e q))) k.0,
        owned_after_answers c K G s B out0 u (cl.waits_for_write t x) (answers.DiskFault x.number)
            (λ o cutting body m. and_right _ _ (means_other cs.is_sync (λ f p. refl) (λ sv n. refl) o.ask cutting body m)) k.1,
      )

      go : (u : Turn) → Finishes number r t u → WW u
      go _ (ending.IsUnknown e) = w
      go _ (ending.IsOfOtherKind x block o e k) = w
      go _ (ending.Fills x block o k e) = w
      go _ (ending.Hardens x v o k e i) = w
      go _ (ending.WroteOlder x v o k e i) = w
      go _ (ending.FailsToRead x o k e) = reads x (ending.without x t) w refl
      go _ (ending.FailsToWrite x v o k e i) = syncs x (ending.with_pages (pages.fail t.here.store.pages x.ino x.page x.number) (ending.without x t)) w refl
      go _ (ending.FailsToWriteOlder x v o k e i) = syncs x (ending.without x t) w refl

  -- The pass over the operations: those that were not yet looked at come after those that stay. An operation that waits for a reply stays.
  abbrev R : List Operation → Turn → Type 0
  R os t = Base c K G s B out0 t.id t.here.server t.here.life.0 (t.operations ++ os) t.out × Owned t.here.server (view t.here.session) (t.operations ++ os)

  rest_whole_after_keeping : (os : List Operation) (o : Operation) (t : Turn) → R (o ∷ os) t → R os (cs.keep o t)
  rest_whole_after_keeping os o t r = subst (λ x. Base c K G s B out0 t.id t.here.server t.here.life.0 x t.out × Owned t.here.server (view t.here.session) x)
      (sym (append_assoc t.operations (o ∷ []) os)) r

  -- an answer to an operation of this server that waits for no reply
  record Drops (sv : ServerId) (o : Operation) : Type 0 where
    pub here : cs.is_of sv o ≡ true
    pub idle : (cutting : Option ℕ) (body : Body) → cs.is_asked sv o ≡ true → Means o.ask cutting body → ⊥

  rest_whole_after_answer : (os : List Operation) (o : Operation) (a : AppAnswer) (t : Turn) → Drops t.here.server o → R (o ∷ os) t → R os (cp.answer o a t)
  rest_whole_after_answer os o a t d r = (base_after_answer t.id t.here.server t.here.life.0 t.operations os t.out o a d.here r.0, go (view t.here.session) r.1)
    where
      by : (cutting : Option ℕ) (q : Option Request) → OwnedBy t.here.server cutting (t.operations ++ o ∷ os) q → OwnedBy t.here.server cutting
          (t.operations ++ os) q
      by cutting None w = tt
      by cutting (Some q) w = λ e. let z = w e in
          record {
            operation = z.operation;
            there = less_has o z.operation t.operations os (λ i. d.idle cutting q.body (subst (λ y. cs.is_asked t.here.server y ≡ true) i z.asked)
                (subst (λ (y : Operation). Means y.ask cutting q.body) i z.means)) (has_append t.operations (o ∷ os) z.operation z.there);
            asked = z.asked;
            means = z.means;
          }

      go : (v : Option (Option Request × Option ℕ)) → Owned t.here.server v (t.operations ++ o ∷ os) → Owned t.here.server v (t.operations ++ os)
      go None w = tt
      go (Some v) w = by v.1 v.0 w

  rest_whole_after_say : (os : List Operation) (t : Turn) (o : Output) → Fine c K G t.here.server t.here.life.0 o → R os t → R os (say t o)
  rest_whole_after_say os t o k r = (base_after_say c K G s B out0 t.id t.here.server t.here.life.0 (t.operations ++ os) t.out o k r.0, r.1)

  -- an operation that is neither a cut nor a name
  works : (sv : ServerId) (o : Operation) (a : Ask) → o.ask ≡ a → ((cutting : Option ℕ) (body : Body) → Means a cutting body → ⊥) → cs.is_of sv o ≡ true →
      Drops sv o
  works sv o a e n h = record { here = h; idle = λ cutting body q m. n cutting body (subst (λ y. Means y cutting body) e m) }

  changed_works : (sv : ServerId) (o : Operation) (t : Turn) (f : FileId) (p : PageNo) (bytes : List ℕ) (n : Note) → Changed o.ask t f p bytes n →
      cs.is_of sv o ≡ true → Drops sv o
  changed_works sv o t _ _ _ _ (pass.IsWritten f p bytes e) h = works sv o _ e (λ cutting body m. m) h
  changed_works sv o t _ _ _ _ (pass.IsPatched f p at bytes old e q) h = works sv o _ e (λ cutting body m. m) h

  -- one that was not sent waits for no reply
  unsent : (sv : ServerId) (o : Operation) → cs.is_of sv o ≡ true → cs.is_sent o ≡ false → Drops sv o
  unsent sv o h n = record { here = h; idle = λ cutting body q m. clash (sent o.stage (and_true (cs.is_of sv o) _ q).1) n }
    where
      sent : (g : Stage) → cs.is_asked_at g ≡ true → cs.is_sent_at g ≡ true
      sent stages.Sent e = refl
      sent stages.Unsent e = cc e
      sent stages.Stuck e = refl

  rest_whole_after_operated : (now : Stamp) (all os : List Operation) (o : Operation) (t u : Turn) → Operated now all o t u → R (o ∷ os) t → R os u
  rest_whole_after_operated now all os o t _ pass.Waits r = rest_whole_after_keeping os o t r
  rest_whole_after_operated now all os o t _ (pass.IsHard f h e q) r = rest_whole_after_answer os o _ t (works t.here.server o _ e (λ cutting body m. m) h) r
  rest_whole_after_operated now all os o t _ (pass.IsQuiesced x h n a b d) r = rest_whole_after_answer os o _ t (unsent t.here.server o h d) r
  rest_whole_after_operated now all os o t _ (pass.ChangesPage x f p bytes n v d m e) r =
      rest_whole_after_answer os o answers.Written (cp.with_pages_changed (pages.written t.here.store.pages f.ino p bytes) f.ino p (cs.note t n))
      (changed_works t.here.server o t f p bytes n d v.own) (rest_whole_after_say (o ∷ os) t (outputs.Note n) tt r)
  rest_whole_after_operated now all os o t _ (pass.IsDirtyFull x f p bytes n v d m e) r =
      rest_whole_after_answer os o _ t (changed_works t.here.server o t f p bytes n d v.own) r
  rest_whole_after_operated now all os o t _ (pass.Fetches x f p m v n a e b) r = rest_whole_after_keeping os o
      (say (cp.with_command f.ino p io.Read t) (outputs.Submit t.next_command m.at (commands.Read m.at)))
      (rest_whole_after_say (o ∷ os) (cp.with_command f.ino p io.Read t) _ tt r)
  rest_whole_after_operated now all os o t _ (pass.ReadsCached x f p bytes v e h q) r =
      rest_whole_after_answer os o _ (with_store (record t.here.store { pages = pages.use_page t.here.store.pages f.ino p }) t)
      (works t.here.server o _ e (λ cutting body m. m) v.own) r
  rest_whole_after_operated now all os o t _ (pass.ReadsZeros x f p e v a h q k m) r =
      rest_whole_after_answer os o _ t (works t.here.server o _ a (λ cutting body m. m) v.own) r

  -- Reductions, writes and greeting.
  whole_after_reduced : (ino : ℕ) (t u : Turn) → Reduced ino t u → WW t → WW u
  whole_after_reduced ino t _ StaysHeld w = w
  whole_after_reduced ino t _ (IsReduced x g to e m q) w = (w.0, into c K G s B out0 t x e w.1)

  whole_after_written : (now : Stamp) (tick : Bool) (y : ℕ × PageNo) (t u : Turn) → WritesOut now tick y t u → WW t → WW u
  whole_after_written now tick y t _ StaysDirty w = w
  whole_after_written now tick y t _ (IsWritten x d m e q k i) w = whole_after_say c K G s B out0 (cp.with_command d.ino d.page (io.Write d.version) t) _ tt w

  whole_after_greeted : (now : Stamp) (tick : Bool) (t u : Turn) → Greets now tick t u → WW t → WW u
  unfolding cs.send
  whole_after_greeted now tick t _ asking.IsSilent w = w
  whole_after_greeted now tick t _ (asking.SaysHello e m) w =
      whole_after_say c K G s B out0 (cp.with_greeting now t)
      (outputs.Send (record { header = cs.header_of (cp.with_greeting now t) 0 0 now.0; body = bodies.Hello }))
      (sent_fine (cp.with_greeting now t) 0 0 now.0 bodies.Hello w.0.id_) w

  pub whole_after_passes : (now : Stamp) (tick : Bool) (t : Turn) → WW t → WW (cp.passes now tick t)
  whole_after_passes now tick t w =
      let r = passes now tick t in let o = r.operated in
      let z = each_lasts (Operated now t.operations) (λ os v. R os v) (λ o os v u step y. rest_whole_after_operated now t.operations os o v u step y)
      t.operations
      (with_operations [] t) o r.operations w in
      whole_after_requested now tick r.greeted (cp.passes now tick t) r.requests
      (whole_after_greeted now tick r.written r.greeted r.greeting
      (each_lasts (WritesOut now tick) (λ xs v. WW v) (λ x xs v u step y. whole_after_written now tick x v u step y)
      (places_of r.reduced.here.session r.reduced.here.store.pages) r.reduced r.written r.writes
      (each_lasts Reduced (λ inos v. WW v) (λ ino inos v u step y. whole_after_reduced ino v u step y) (cp.files_demanded o.here.session) o r.reduced
      r.reductions
      (subst (λ os. Base c K G s B out0 o.id o.here.server o.here.life.0 os o.out × Owned o.here.server (view o.here.session) os) (append-nil o.operations) z))))

  -- Asks of applications, under a number that is new.
  pub whole_after_take : (op : ℕ) (ask : Ask) → K op → (t : Turn) → pending op t.operations + told op t.out ≡ 0 → WW t → WW (cl.take_ask op ask t)
  whole_after_take op ask k t zero w = by (cl.take_ask op ask t) (takes op ask t)
    where
      new : Operation
      new = cs.new_operation op ask

      more : (cutting : Option ℕ) (q : Option Request) → OwnedBy t.here.server cutting t.operations q → OwnedBy t.here.server cutting
          (t.operations ++ new ∷ []) q
      more cutting None z = tt
      more cutting (Some q) z = λ e. let y = z e in record {
        operation = y.operation;
        there = has_left t.operations _ y.operation y.there;
        asked = y.asked;
        means = y.means;
      }

      owned : (v : Option (Option Request × Option ℕ)) → Owned t.here.server v t.operations → Owned t.here.server v (t.operations ++ new ∷ [])
      owned None z = tt
      owned (Some v) z = more v.1 v.0 z

      known : (o : Operation) → Has o t.operations ⊎ Has o (new ∷ []) → K o.op
      known o (inl h) = w.0.known o h
      known o (inr (inl e)) = subst (λ (z : Operation). K z.op) (sym e) k
      known o (inr (inr i)) = absurd i

      one : (n : ℕ) → (b : Bool) → (op == n) ≡ b → pending n t.operations + told n t.out + one_if b ≤ 1
      one n true e = let q = eqb-true op n e in subst (λ m. pending m t.operations + told m t.out + 1 ≤ 1) q (omega (arith, zero))
      one n false e = let z = w.0.few n in omega (arith, z)

      enqueued : WW (cs.keep new t)
      enqueued = (
        record {
          id_ = w.0.id_;
          server = w.0.server;
          known = λ o h. known o (has_append t.operations (new ∷ []) o h);
          others = λ o h e. has_left t.operations _ o (w.0.others o h e);
          said = w.0.said;
          from = w.0.from;
          sent = w.0.sent;
          kept = w.0.kept;
          few = λ n. let z = pending_more n t.operations (new ∷ []) in let y = one n (op == n) refl in omega (arith, z, y);
        },
        owned (view t.here.session) w.1,
      )

      lost : (f : FileId) → WW (cs.answered (cs.with_lost_rows (pages.untold t.here.lost f.ino) t) op (answers.Lost (pages.told_rows t.here.lost f.ino)))
      lost f = (
        base_after_longer_list c K G s B out0 t.id t.here.server t.here.life.0 t.operations t.operations t.out
            (outputs.Answer op (answers.Lost (pages.told_rows t.here.lost f.ino)) ∷ []) (one_good c K G s B out0 t.here.server t.here.life.0 _ k) w.0.known
            (λ o h e. h)
            (λ n. let z = told_more n t.out (outputs.Answer op (answers.Lost (pages.told_rows t.here.lost f.ino)) ∷ []) in let y = one n
            (op == n) refl in omega (arith, z, y)) w.0,
        w.1,
      )

      by : (u : Turn) → Takes op ask t u → WW u
      by _ (ending.TellsLost f q h) = lost f
      by _ (ending.WaitsForSync f q h) = enqueued
      by _ (ending.Waits n) = enqueued

  -- Losses: the operations of the server are answered, and nothing is sent.
  record Losing (os : List Operation) (t : Turn) : Type 0 where
    pub base : Base c K G s B out0 t.id t.here.server t.here.life.0 (t.operations ++ os) t.out
    pub quiet : Silent t.out

  ended : (x : ClientSession) (o : Operation) (os : List Operation) (t u : Turn) → Ended x o t u → Losing (o ∷ os) t → Losing os u
  ended x o os t _ (losing.IsElsewhere e) w =
      record {
        base = subst (λ z. Base c K G s B out0 t.id t.here.server t.here.life.0 z t.out) (sym (append_assoc t.operations (o ∷ []) os)) w.base;
        quiet = w.quiet;
      }
  ended x o os t _ (losing.IsUncertain h e) w = record {
    base = base_after_answer t.id t.here.server t.here.life.0 t.operations os t.out o _ h w.base;
    quiet = silent_more t.out _ (λ n e. cc e) w.quiet;
  }
  ended x o os t _ (losing.IsToldLost f h e q l) w = record {
    base = base_after_answer t.id t.here.server t.here.life.0 t.operations os t.out o _ h w.base;
    quiet = silent_more t.out _ (λ n e. cc e) w.quiet;
  }
  ended x o os t _ (losing.LostNothing f h e q l) w = record {
    base = base_after_answer t.id t.here.server t.here.life.0 t.operations os t.out o _ h w.base;
    quiet = silent_more t.out _ (λ n e. cc e) w.quiet;
  }
  ended x o os t _ (losing.IsQuiesced h e q) w = record {
    base = base_after_answer t.id t.here.server t.here.life.0 t.operations os t.out o _ h w.base;
    quiet = silent_more t.out _ (λ n e. cc e) w.quiet;
  }

  -- a lease that may be over, if nothing was sent yet in the step
  pub whole_after_lose : (now : Stamp) (t : Turn) → Silent t.out → WW t → WW (cl.lose now t)
  whole_after_lose now t quiet w = go (cl.lose now t) (loses now t)
    where
      lost : (u : Turn) → Losing [] u → WW (cl.empty_here u)
      lost u r = (
        record {
          id_ = b.id_;
          server = b.server;
          known = b.known;
          others = b.others;
          said = b.said;
          from = b.from;
          sent = λ m h z. absurd
              (r.quiet m h);
          kept = b.kept;
          few = b.few;
        },
        tt,
      )
        where
          b : Base c K G s B out0 u.id u.here.server u.here.life.0 u.operations u.out
          b = subst (λ os. Base c K G s B out0 u.id u.here.server u.here.life.0 os u.out) (append-nil u.operations) r.base

      go : (u : Turn) → Loses now t u → WW u
      go _ (losing.HasNoSession e) = w
      go _ (losing.Lasts x e o) = w
      go _ (losing.IsLost x u e o p) =
          lost u (each_lasts (Ended x) (λ os v. Losing os v) (λ o os v u step y. ended x o os v u step y) t.operations
          (with_operations [] (losing.loss_noted t)) u p
          (record {
            base = base_after_say c K G s B out0 t.id t.here.server t.here.life.0 t.operations t.out _ tt w.0;
            quiet = silent_more t.out _
                (λ n e. cc e) quiet;
          }))
