-- No operation is stuck. A server refuses a request for a name only if it should remove a file that
-- its client doesn't hold, and one for a cut only if the client doesn't hold the file or there is no
-- file. Then the client answers the operation.
use Rattle.st_lemmas.proofs.Words
use Words.{◌≡◌, ◌⊎◌, ℕ, ◌+◌, Bool, true, false, not, ◌&&◌, ◌==◌, List, [], ◌∷◌, ◌++◌, Option, Some, None, Ok, Err, refl, sym, ap, ◌∙◌, subst, inl, inr, if◌then◌else◌}
use Words.{eqb-true, filter, AppAnswer, Ask, Body, ClientId, ClientInput, EntryRefusal, GrantNo, Header, Message, NameOp, NameRow, Operation, PageNo, Result, Stamp, Tag, Why}
use Words.answers
use Words.bodies
use Words.inputs
use Words.modes
use Words.stages
use Words.ops.{Lookup, Create, Mkdir, Remove, Rename, List as ListFrom}
use Words.Client as cl
use Words.ClientLease as lease
use Words.ClientPasses as cp
use Words.ClientReplies as cr
use Words.ClientState as cs
use Words.ClientState.{Association, ClientSession, ClientState, ClientTurn, Turn, at_each, at_these, client_turn, enter, leave, only_at, server_of}
use Words.ClientState.{with_associations, with_operations, with_session}
use Words.Lists.{Has}
use Words.Lookups.{some_is}
use Words.Members.{has_left, has_right}
use Words.Names as names
use Words.Server as sv
use Words.Server.{Replied, ServerTurn}
use Words.Tables.{and_true, cond_either, has_append, has_filter, has_map, not_true}
use Words.Truth.{clash}
use Rattle.st_messages.specs.declared.message.Why.TheVariants as why
use Rattle.st_rules.specs.declared.client.Request.{Request}
use Rattle.st_trace.specs.Client.Commands as ends
use Rattle.st_trace.specs.Client.Commands.{Finishes, Takes}
use Rattle.st_trace.specs.Client.Losses as losing
use Rattle.st_trace.specs.Client.Losses.{Ended, Loses}
use Rattle.st_trace.specs.Client.Messages as trace
use Rattle.st_trace.specs.Client.Messages.{Effect, Receives, Refusal, Renews}
use Rattle.st_trace.specs.Client.Operations as pass
use Rattle.st_trace.specs.Client.Operations.{Operated}
use Rattle.st_trace.specs.Client.Passes.{Reduced, StaysHeld, IsReduced, WritesOut, StaysDirty, IsWritten, places_of}
use Rattle.st_trace.specs.Client.Requests as asking
use Rattle.st_trace.specs.Client.Requests.{Greets, Requests}
use Rattle.st_trace.proofs.Client.Finishing.{at_server, finishes, takes}
use Rattle.st_trace.proofs.Client.Losing.{loses}
use Rattle.st_trace.proofs.Client.Receiving.{receives}
use Rattle.st_trace.proofs.Client.Walk.{each_lasts, passes}

-- A server refuses a request for a name only if it should remove a file that its client doesn't hold.
abbrev RefusesSo : NameOp → Replied → Type 0
RefusesSo op r = (w : Why) (a b : ℕ) → r.reply ≡ Some (bodies.Nack w a b) → (w ≡ why.NotHolder) × (cs.removes op ≡ true)

refused_so : (op : NameOp) (t : ServerTurn) (r : EntryRefusal) → RefusesSo op (sv.name_refused t r)
unfolding sv.name_refused
refused_so op t r w a b e = cc e

found_so : (op : NameOp) (t : ServerTurn) (r : Result ℕ EntryRefusal) → RefusesSo op (sv.name_found t r)
unfolding sv.name_found
found_so op t (Ok ino) w a b e = cc e
found_so op t (Err r) w a b e = refused_so op t r w a b e

changed_so : (op : NameOp) (t : ServerTurn) (r : Result names.Changed EntryRefusal) → RefusesSo op (sv.name_changed t r)
unfolding sv.name_changed
changed_so op t (Ok d) w a b e = cc e
changed_so op t (Err r) w a b e = refused_so op t r w a b e

listed_so : (op : NameOp) (t : ServerTurn) (r : Result (List NameRow) EntryRefusal) → RefusesSo op (sv.names_listed t r)
unfolding sv.names_listed
listed_so op t (Ok rows) w a b e = cc e
listed_so op t (Err r) w a b e = refused_so op t r w a b e

removed_so : (op : NameOp) (t : ServerTurn) (r : Result names.Changed EntryRefusal) → RefusesSo op (sv.remove_by t r)
unfolding sv.remove_by sv.cut_whole sv.cut_pages
removed_so op t (Ok d) w a b e = cc e
removed_so op t (Err r) w a b e = refused_so op t r w a b e

choice_so : (op : NameOp) (c : Bool) (x y : Replied) → RefusesSo op x → RefusesSo op y → RefusesSo op (if c then x else y)
choice_so op true x y p q = p
choice_so op false x y p q = q

holder_so : (op : NameOp) → cs.removes op ≡ true → (t : ServerTurn) (ino : ℕ) (g : GrantNo) → RefusesSo op (sv.not_holder t ino g)
unfolding sv.not_holder
holder_so op k t ino g w a b e = (cc e, k)

remove_so : (op : NameOp) → cs.removes op ≡ true → (t : ServerTurn) (h : Header) (dir : ℕ) (x : List ℕ) (g : GrantNo) (r : Result ℕ EntryRefusal) →
    RefusesSo op (sv.remove_found t h dir x g r)
unfolding sv.remove_found sv.remove_ino sv.remove_file sv.remove_dir
remove_so op k t h dir x g (Err r) = refused_so op t r
remove_so op k t h dir x g (Ok ino) =
    choice_so op (sv.is_file t ino) _ _ (choice_so op (sv.holds t h ino g modes.X) _ _ (removed_so op t _) (holder_so op k t ino g))
    (choice_so op (g.0 == 0) _ _ (changed_so op t _) (refused_so op t _))

pub names_refused : (t : ServerTurn) (now : Stamp) (h : Header) (op : NameOp) → RefusesSo op (sv.rule t now h (bodies.Name op))
unfolding sv.rule sv.name sv.remove
names_refused t now h (Lookup dir x) = found_so (Lookup dir x) t _
names_refused t now h (Create dir x) = changed_so (Create dir x) t _
names_refused t now h (Mkdir dir x) = changed_so (Mkdir dir x) t _
names_refused t now h (Remove dir x g) = remove_so (Remove dir x g) refl t h dir x g _
names_refused t now h (Rename dir x dir2 x2) = changed_so (Rename dir x dir2 x2) t _
names_refused t now h (ListFrom dir after) = listed_so (ListFrom dir after) t _

-- A client that is told so leaves no operation stuck.
module _ (now : Stamp) (h : Header) (a b : ℕ) (t : Turn) where
  abbrev WasThere : Turn → Type 0
  WasThere u = (o : Operation) → Has o u.operations → Has o t.operations

  noted : (s : ClientSession) (stamp : Stamp) → ((cr.note_renewal t s stamp).operations ≡ t.operations) ×
      ((cr.note_renewal t s stamp).here.server ≡ t.here.server)
  unfolding cr.note_renewal cr.note_lease
  noted s stamp =
      cond_either (λ (u : Turn). (u.operations ≡ t.operations) × (u.here.server ≡ t.here.server)) (lease.is_renewal stamp s.lease)
      (cr.note_lease (lease.renewed stamp s.lease) t) t (λ e. (refl, refl)) (λ e. (refl, refl))

  ended_there : (s : ClientSession) (stamp : Stamp) → (cr.end_request t s stamp).operations ≡ t.operations
  unfolding cr.end_request
  ended_there s stamp = (noted s stamp).0

  ended_server : (s : ClientSession) (stamp : Stamp) → (cr.end_request t s stamp).here.server ≡ t.here.server
  unfolding cr.end_request
  ended_server s stamp = (noted s stamp).1

  -- all operations that asked are answered
  left_there : (u : Turn) → u.operations ≡ t.operations → (picked : Operation → Bool) (answer : AppAnswer) →
      ((o : Operation) → Has o u.operations → cs.is_asked u.here.server o ≡ true → picked o ≡ true) → WasThere (cr.leave_stuck (cs.answer_each picked answer u))
  unfolding cr.leave_stuck cs.answer_each
  left_there u e picked answer all o i = go (has_map (cr.stuck u) (filter (λ p. not (picked p)) u.operations) o i)
    where
      go : (p : Operation) × Has p (filter (λ p. not (picked p)) u.operations) × (o ≡ cr.stuck u p) → Has o t.operations
      go (p, j, q) =
          let f = has_filter (λ p. not (picked p)) u.operations p j in
          subst (λ (y : Operation). Has y t.operations) (sym (q ∙ same p f.0 (not_true (picked p) f.1))) (subst (Has p) e f.0)
        where
          same : (p : Operation) → Has p u.operations → picked p ≡ false → cr.stuck u p ≡ p
          same p i r = pick (cs.is_asked u.here.server p) refl
            where
              pick : (b : Bool) → cs.is_asked u.here.server p ≡ b → cr.stuck u p ≡ p
              pick true w = clash (all p i w) r
              pick false w = ap (λ b. if b then cs.at_stage stages.Stuck p else p) w

  -- the client doesn't hold the file
  module _ (removes : (s : ClientSession) (q : Request) → t.here.session ≡ Some s → s.requests.asked ≡ Some q → cs.asks_cut_or_remove q.body ≡ true) where
    abbrev unheld : Body
    unheld = bodies.Nack why.NotHolder a b

    holder_replied : (s : ClientSession) (q : Request) (stamp : Stamp) → cs.asks_cut_or_remove q.body ≡ true →
        WasThere (cr.reply_to t s now stamp unheld q.body)
    unfolding cr.reply_to cr.effect cr.refused cr.refuse_as cr.refuse_holder
    holder_replied s q stamp r =
        cond_either (λ u. WasThere (cr.leave_stuck u)) (cs.asks_cut_or_remove q.body) _ _
        (λ e. left_there (cr.end_request t s stamp) (ended_there s stamp) (cs.is_asked (cr.end_request t s stamp).here.server) answers.NotHolder (λ o i w. w))
        (λ e. clash r e)

    holder_counted : (s : ClientSession) → t.here.session ≡ Some s → (o : Option Request) → s.requests.asked ≡ o → (stamp : Stamp) →
        WasThere (cr.counted t s now h.number stamp unheld o)
    unfolding cr.counted cr.by_request cr.count_reply cr.condemn
    holder_counted s e None f stamp = λ o i. i
    holder_counted s e (Some q) f stamp =
        cond_either WasThere (cr.is_counting h.number unheld q) _ t
        (λ c. cond_either WasThere (cr.refuses_reassertion unheld q.body) _ _ (λ d. λ o i. i) (λ d. holder_replied s q stamp (removes s q e f)))
        (λ c. λ o i. i)

    pub holder_left : WasThere (cr.receive_at now h unheld t)
    unfolding cr.receive_at cr.by_session cr.with_a_session cr.of_epoch cr.of_other_epoch cr.reply_of cr.without_session
    holder_left = cond_either WasThere (cr.is_received t now h) _ t (λ r. by t.here.session refl) (λ r. λ o i. i)
      where
        by : (x : Option ClientSession) → t.here.session ≡ x → WasThere (cr.by_session t now h unheld x)
        by None e = λ o i. i
        by (Some s) e =
            cond_either WasThere (h.epoch == s.epoch.0) _ _ (λ q. holder_counted s e s.requests.asked refl (record { 0 = h.stamp })) (λ q. λ o i. i)

  -- there is no file
  module _ (ino : ℕ)
      (files : (s : ClientSession) (q : Request) → t.here.session ≡ Some s → s.requests.asked ≡ Some q → cs.file_asked s.cutting q.body ≡ Some ino)
      (all : (o : Operation) → Has o t.operations → cs.is_asked t.here.server o ≡ true → cr.works_on t ino o ≡ true) where
    abbrev lacking : Body
    lacking = bodies.Nack why.NoFile a b

    file_replied : (s : ClientSession) (q : Request) (stamp : Stamp) → cs.file_asked s.cutting q.body ≡ Some ino →
        WasThere (cr.reply_to t s now stamp lacking q.body)
    unfolding cr.reply_to cr.effect cr.refused cr.refuse_as cr.refuse_file
    file_replied s q stamp r =
        subst (λ o. WasThere (cr.leave_stuck (cr.refuse_file (cr.end_request t s stamp) answers.NoFile o))) (sym r)
        (left_there (cr.end_request t s stamp) (ended_there s stamp) (cr.works_on (cr.end_request t s stamp) ino) answers.NoFile own)
      where
        own : (o : Operation) → Has o (cr.end_request t s stamp).operations → cs.is_asked (cr.end_request t s stamp).here.server o ≡ true →
            cr.works_on (cr.end_request t s stamp) ino o ≡ true
        own o i w =
            subst (λ v. (cs.is_on v ino o && not (cs.is_sync o.ask)) ≡ true) (sym (ended_server s stamp))
            (all o (subst (Has o) (ended_there s stamp) i) (subst (λ v. cs.is_asked v o ≡ true) (ended_server s stamp) w))

    file_counted : (s : ClientSession) → t.here.session ≡ Some s → (o : Option Request) → s.requests.asked ≡ o → (stamp : Stamp) →
        WasThere (cr.counted t s now h.number stamp lacking o)
    unfolding cr.counted cr.by_request cr.count_reply cr.condemn
    file_counted s e None f stamp = λ o i. i
    file_counted s e (Some q) f stamp =
        cond_either WasThere (cr.is_counting h.number lacking q) _ t
        (λ c. cond_either WasThere (cr.refuses_reassertion lacking q.body) _ _ (λ d. λ o i. i) (λ d. file_replied s q stamp (files s q e f)))
        (λ c. λ o i. i)

    pub file_left : WasThere (cr.receive_at now h lacking t)
    unfolding cr.receive_at cr.by_session cr.with_a_session cr.of_epoch cr.of_other_epoch cr.reply_of cr.without_session
    file_left = cond_either WasThere (cr.is_received t now h) _ t (λ r. by t.here.session refl) (λ r. λ o i. i)
      where
        by : (x : Option ClientSession) → t.here.session ≡ x → WasThere (cr.by_session t now h lacking x)
        by None e = λ o i. i
        by (Some s) e =
            cond_either WasThere (h.epoch == s.epoch.0) _ _ (λ q. file_counted s e s.requests.asked refl (record { 0 = h.stamp })) (λ q. λ o i. i)

-- What becomes of the operations at a message: each was there, or is stuck now, as its request was refused.
module _ (now : Stamp) (head : Header) where
  pub record Became (t : Turn) (body : Body) (p : Operation) : Type 0 where
    pub o : Operation
    pub there : Has o t.operations
    pub asked : cs.is_asked t.here.server o ≡ true
    pub is : p ≡ cs.at_stage stages.Stuck o
    pub w : Why
    pub a : ℕ
    pub b : ℕ
    pub says : body ≡ bodies.Nack w a b
    pub session : ClientSession
    pub request : Request
    pub replied_ : trace.Replied now head body t session request

  abbrev Left : Turn → Body → Turn → Type 0
  Left t body u = (p : Operation) → Has p u.operations → Has p t.operations ⊎ Became t body p

  answered_from : (u : Turn) (picked : Operation → Bool) (a : AppAnswer) (p : Operation) → Has p (cs.answer_each picked a u).operations → Has p u.operations
  unfolding cs.answer_each
  answered_from u picked a p i = (has_filter (λ o. not (picked o)) u.operations p i).0

  refusal_from : (u : Turn) (file : Option ℕ) (asked : Body) (y : Why) (a b : ℕ) (v : Turn) → Refusal u file asked y a b v →
      ((p : Operation) → Has p v.operations → Has p u.operations) × (v.here.server ≡ u.here.server)
  unfolding cs.answer_each
  refusal_from u file asked _ a b _ (trace.NoFile _ _ ino e) = (answered_from u (cr.works_on u ino) answers.NoFile, refl)
  refusal_from u file asked _ a b _ (trace.TooManyLocks _ _ ino e) = (answered_from u (cr.works_on u ino) answers.TooManyLocks, refl)
  refusal_from u file asked _ a b _ (trace.NoSpace _ _ ino p e q) = (answered_from u (cr.writes_on u ino p) (answers.NoSpace a b), refl)
  refusal_from u file asked _ a b _ (trace.NotHolder _ _ e) = (answered_from u (cs.is_asked u.here.server) answers.NotHolder, refl)
  refusal_from u file asked y a b _ (trace.AnswersNone _ _ _) = (λ p i. i, refl)

  -- a reply: the turn at which it came, and what follows the end of the request
  module _ (t : Turn) (body : Body) (s : ClientSession) (q : Request) (r : trace.Replied now head body t s q) (u : Turn) (from : u.operations ≡ t.operations)
      (server : u.here.server ≡ t.here.server) where
    old : (p : Operation) → Has p u.operations → Has p t.operations ⊎ Became t body p
    old p i = inl (subst (Has p) from i)

    stuck_now : (y : Why) (a b : ℕ) → body ≡ bodies.Nack y a b → (v : Turn) → ((p : Operation) → Has p v.operations → Has p u.operations) →
        v.here.server ≡ u.here.server → Left t body (trace.left_stuck v)
    stuck_now y a b says v f same p i = go (has_map (cr.stuck v) v.operations p i)
      where
        go : (o : Operation) × Has o v.operations × (p ≡ cr.stuck v o) → Has p t.operations ⊎ Became t body p
        go (o, j, e) = pick (cs.is_asked v.here.server o) refl
          where
            there : Has o t.operations
            there = subst (Has o) from (f o j)

            pick : (z : Bool) → cs.is_asked v.here.server o ≡ z → Has p t.operations ⊎ Became t body p
            pick false w =
                inl (subst (λ (y : Operation). Has y t.operations) (sym (e ∙ ap (λ z. if z then cs.at_stage stages.Stuck o else o) w)) there)
            pick true w =
                inr (record {
                  o = o;
                  there = there;
                  asked = ap (λ v. cs.is_asked v o) (sym (same ∙ server)) ∙ w;
                  is = e ∙ ap (λ z. if z then cs.at_stage stages.Stuck o else o) w;
                  w = y;
                  a = a;
                  b = b;
                  says = says;
                  session = s;
                  request = q;
                  replied_ = r;
                })

    has_effect : (x : ClientSession) (file : Option ℕ) (b : Body) (v : Turn) → body ≡ b → Effect now u x file q.body b v → Left t body v
    has_effect x file _ _ e (trace.IsGranted ino g mode y k) = λ p i. old p i
    has_effect x file _ _ e (trace.IsQueued ino mode k) = λ p i. old p i
    has_effect x file _ _ e (trace.HoldsAlready ino mode k) = λ p i. old p i
    has_effect x file _ _ e (trace.IsToldExtents ino rows k) = λ p i. old p i
    has_effect x file _ _ e (trace.IsToldLate ino rows k) = λ p i. old p i
    has_effect x file _ _ e trace.IsAcknowledged = λ p i. old p (answered_from u (cs.is_asked u.here.server) answers.Cut p i)
    has_effect x file _ _ e (trace.IsNamed y k) = λ p i. old p (answered_from u (cs.is_asked u.here.server) (cr.name_answer y) p i)
    has_effect x file _ _ e (trace.IsRemoved ino removed l f k) = λ p i. old p (answered_from u (cs.is_asked u.here.server) (answers.Named ino) p i)
    has_effect x file _ _ e trace.IsReasserted = λ p i. old p i
    has_effect x file _ _ e (trace.Effect.IsRefused y a b v f) =
        let z = refusal_from u file q.body y a b v f in stuck_now y a b e v z.0 z.1

  renewed_same : (t : Turn) (s : ClientSession) (stamp : Stamp) (u : Turn) → Renews t s stamp u →
      (u.operations ≡ t.operations) × (u.here.server ≡ t.here.server)
  renewed_same t s stamp _ (trace.IsLater e) = (refl, refl)
  renewed_same t s stamp _ (trace.IsNoLater e) = (refl, refl)

  heard : (t : Turn) (body : Body) (u : Turn) → Receives now head t body u → Left t body u
  unfolding cs.send
  heard t _ _ (trace.PassesOver b) = λ p i. inl i
  heard t _ _ (trace.Begins r e i) = λ p i. inl i
  heard t _ _ (trace.FollowsEpoch s x y m e) =
      λ p i. inl (answered_from (with_session (cr.in_epoch (trace.epoch_of head) s) t) (cs.is_asked t.here.server) (answers.Uncertain s.epoch.0 head.epoch) p i)
  heard t _ _ (trace.IsCondemned b s m c) = λ p i. inl i
  heard t _ _ (trace.IsGrantedLater ino g mode s v m e k) = λ p i. inl i
  heard t _ _ (trace.SeesDemand ino g to s m e) = λ p i. inl i
  heard t _ _ (trace.GivesUp ino g to s m e k) = λ p i. inl i
  heard t _ _ (trace.HasGivenUp ino g to s m e k) = λ p i. inl i
  heard t _ u (trace.IsAnswered b s q v _ r x f) =
      let z = renewed_same t s (trace.stamp_of head) v x in
      has_effect t b s q r (with_session (cr.ended_by (trace.stamp_of head) s) v) z.0 z.1 (cr.ended_by (trace.stamp_of head) s)
      (cs.file_asked s.cutting q.body) b u refl f

-- A step of a client.
abbrev pub Stays : List Operation → Type 0
Stays os = (o : Operation) → Has o os → o.stage ≡ stages.Stuck → ⊥

-- A refusal of the request of an operation, by which the client answers it.
abbrev pub IsTold : Turn → Operation → ClientSession → Request → Why → Type 0
IsTold t o x q w =
    ((w ≡ why.NotHolder) × (cs.asks_cut_or_remove q.body ≡ true))
    ⊎ ((w ≡ why.NoFile) × ((ino : ℕ) × (cs.file_asked x.cutting q.body ≡ Some ino) × (cr.works_on t ino o ≡ true)))

module _ (s : ClientState) (now : Stamp) (input : ClientInput) where
  -- an association before the input
  abbrev pub Place : Association → Type 0
  Place a = (a.session ≡ None) ⊎ Has a s.associations

  -- what is known of a refusal of the request of an operation
  pub record Knows : Type 0 where
    pub tells :
        (m : Message) → input ≡ inputs.Control m → m.header.to ≡ s.id.0 → (t : Turn) → Place t.here → (o : Operation) → Has o s.operations →
        cs.is_asked t.here.server o ≡ true → (x : ClientSession) (q : Request) → trace.Replied now m.header m.body t x q →
        (w : Why) (a b : ℕ) → m.body ≡ bodies.Nack w a b → IsTold t o x q w

  module _ (knows : Knows) where
    record Fine (os : List Operation) : Type 0 where
      stays : Stays os
      orig : (o : Operation) → Has o os → cs.is_asked_at o.stage ≡ true → Has o s.operations

    fewer : (os ps : List Operation) → ((p : Operation) → Has p ps → Has p os) → Fine os → Fine ps
    fewer os ps f h = record { stays = λ o i. h.stays o (f o i); orig = λ o i. h.orig o (f o i) }

    one_more : (os : List Operation) (o : Operation) → (o.stage ≡ stages.Stuck → ⊥) →
        (cs.is_asked_at o.stage ≡ true → Has o s.operations) → Fine os → Fine (os ++ o ∷ [])
    one_more os o f g h =
        record {
          stays = λ p i. go p (has_append os (o ∷ []) p i);
          orig = λ p i. too p (has_append os (o ∷ []) p i);
        }
      where
        go : (p : Operation) → Has p os ⊎ Has p (o ∷ []) → p.stage ≡ stages.Stuck → ⊥
        go p (inl i) = h.stays p i
        go p (inr (inl e)) = subst (λ (y : Operation). y.stage ≡ stages.Stuck → ⊥) (sym e) f
        go p (inr (inr i)) = absurd i

        too : (p : Operation) → Has p os ⊎ Has p (o ∷ []) → cs.is_asked_at p.stage ≡ true → Has p s.operations
        too p (inl i) = h.orig p i
        too p (inr (inl e)) = subst (λ (y : Operation). cs.is_asked_at y.stage ≡ true → Has y s.operations) (sym e) g
        too p (inr (inr i)) = absurd i

    -- the operations so far, and those to come
    record Both (os : List Operation) (t : Turn) : Type 0 where
      done : Fine t.operations
      left : Fine os

    kept : (o : Operation) (os : List Operation) (t : Turn) → Both (o ∷ os) t → Both os (cs.keep o t)
    kept o os t h =
        record {
          done = one_more t.operations o (h.left.stays o (inl refl)) (h.left.orig o (inl refl)) h.done;
          left = fewer (o ∷ os) os (λ p i. inr i) h.left;
        }

    gone : (o : Operation) (os : List Operation) (t u : Turn) → u.operations ≡ t.operations → Both (o ∷ os) t → Both os u
    gone o os t u e h = record { done = subst Fine (sym e) h.done; left = fewer (o ∷ os) os (λ p i. inr i) h.left }

    none_fine : Fine []
    none_fine = record { stays = λ o i. absurd i; orig = λ o i. absurd i }

    -- Losses.
    ended : (x : ClientSession) (o : Operation) (os : List Operation) (t u : Turn) → Ended x o t u → Both (o ∷ os) t → Both os u
    ended x o os t _ (losing.IsElsewhere e) h = kept o os t h
    ended x o os t _ (losing.IsUncertain e f) h = gone o os t _ refl h
    ended x o os t _ (losing.IsToldLost f e q a l) h = gone o os t _ refl h
    ended x o os t _ (losing.LostNothing f e q a l) h = gone o os t _ refl h
    ended x o os t _ (losing.IsQuiesced e q a) h = gone o os t _ refl h

    lost : (t : Turn) → Has t.here s.associations → Fine t.operations → Fine (cl.lose now t).operations × Place (cl.lose now t).here
    lost t i h = go (cl.lose now t) (loses now t)
      where
        go : (u : Turn) → Loses now t u → Fine u.operations × Place u.here
        go _ (losing.HasNoSession e) = (h, inr i)
        go _ (losing.Lasts x e o) = (h, inr i)
        go _ (losing.IsLost x u e o p) =
            let z =
            each_lasts (Ended x) (λ os v. Both os v) (λ o os v y k w. ended x o os v y k w) t.operations (with_operations [] (losing.loss_noted t)) u p
            (record { done = none_fine; left = h }) in
            (z.done, inl refl)

    -- A message.
    received : (m : Message) → input ≡ inputs.Control m → m.header.to ≡ s.id.0 → (t : Turn) → Place t.here → Fine t.operations →
        Fine (cr.receive_at now m.header m.body t).operations
    received m is to t place h =
        record {
          stays = λ p i e. stay p i e (heard now m.header t m.body (cr.receive_at now m.header m.body t) (receives now m.header t m.body) p i);
          orig = λ p i e. orig_ p e (heard now m.header t m.body (cr.receive_at now m.header m.body t) (receives now m.header t m.body) p i);
        }
      where
        stay : (p : Operation) → Has p (cr.receive_at now m.header m.body t).operations → p.stage ≡ stages.Stuck →
            Has p t.operations ⊎ Became now m.header t m.body p → ⊥
        stay p i e (inl j) = h.stays p j e
        stay p i e (inr z) = go (told z.o z.there z.asked)
          where
            told : (o : Operation) → Has o t.operations → cs.is_asked t.here.server o ≡ true → IsTold t o z.session z.request z.w
            told o j asked =
                knows.tells m is to t place o (h.orig o j (and_true (cs.is_of t.here.server o) (cs.is_asked_at o.stage) asked).1) asked z.session z.request
                z.replied_ z.w z.a z.b z.says

            now_here : (w : Why) → z.w ≡ w → Has p (cr.receive_at now m.header (bodies.Nack w z.a z.b) t).operations
            now_here w q = subst (λ d. Has p (cr.receive_at now m.header d t).operations) (z.says ∙ ap (λ w. bodies.Nack w z.a z.b) q) i

            -- the session and its outstanding request are these
            own : (F : ClientSession → Request → Type 0) → F z.session z.request → (x : ClientSession) (q : Request) → t.here.session ≡ Some x →
                x.requests.asked ≡ Some q → F x q
            own F k x q a b =
                let s = some_is (sym z.replied_.heard.session ∙ a) in
                subst (λ (v : ClientSession). F v q) s
                (subst (F z.session) (some_is (sym z.replied_.asked ∙ (ap (λ (y : ClientSession). y.requests.asked) s ∙ b))) k)

            both : (ino : ℕ) → cs.file_asked z.session.cutting z.request.body ≡ Some ino → z.w ≡ why.NoFile → (o : Operation) →
                IsTold t o z.session z.request z.w → cr.works_on t ino o ≡ true
            both ino f q o (inl y) = absurd (no (sym q ∙ y.0))
              where
                no : why.NoFile ≡ why.NotHolder → ⊥
                no e = cc e
            both ino f q o (inr y) = subst (λ n. cr.works_on t n o ≡ true) (some_is (sym y.1.1 ∙ f)) y.1.2

            go : IsTold t z.o z.session z.request z.w → ⊥
            go (inl y) =
                h.stays p
                (holder_left now m.header z.a z.b t (own (λ x q. cs.asks_cut_or_remove q.body ≡ true) y.1) p (now_here why.NotHolder y.0)) e
            go (inr y) =
                h.stays p
                (file_left now m.header z.a z.b t y.1.0 (own (λ x q. cs.file_asked x.cutting q.body ≡ Some y.1.0) y.1.1)
                (λ o j a. both y.1.0 y.1.1 y.0 o (told o j a)) p (now_here why.NoFile y.0)) e

        orig_ : (p : Operation) → cs.is_asked_at p.stage ≡ true → Has p t.operations ⊎ Became now m.header t m.body p → Has p s.operations
        orig_ p e (inl j) = h.orig p j e
        orig_ p e (inr z) = clash e (ap (λ (y : Operation). cs.is_asked_at y.stage) z.is)

    -- An ask, and the end of a command.
    took : (op : ℕ) (ask : Ask) (t : Turn) → Fine t.operations → Fine (only_at (server_of ask) (cl.take_ask op ask) t).operations
    took op ask t h =
        at_server (λ u. Fine u.operations) (server_of ask) (cl.take_ask op ask) t (λ i. go (cl.take_ask op ask t) (takes op ask t)) (λ i. h)
      where
        new : Fine (t.operations ++ cs.new_operation op ask ∷ [])
        new = one_more t.operations (cs.new_operation op ask) (λ e. unsent e) (λ e. clash e refl) h
          where
            unsent : stages.Unsent ≡ stages.Stuck → ⊥
            unsent e = cc e

        go : (u : Turn) → Takes op ask t u → Fine u.operations
        go _ (ends.TellsLost f q l) = h
        go _ (ends.WaitsForSync f q l) = new
        go _ (ends.Waits n) = new

    finished : (number : ℕ) (r : Option (Option (Tag × List ℕ))) (t : Turn) → Fine t.operations → Fine (cl.finish number r t).operations
    unfolding cs.answer_each
    finished number r t h = go (cl.finish number r t) (finishes number r t)
      where
        go : (u : Turn) → Finishes number r t u → Fine u.operations
        go _ (ends.IsUnknown e) = h
        go _ (ends.IsOfOtherKind x block o e f) = h
        go _ (ends.Fills x block o f e) = h
        go _ (ends.Hardens x v o f e j) = h
        go _ (ends.WroteOlder x v o f e j) = h
        go _ (ends.FailsToRead x o f e) =
            fewer t.operations _ (λ p i. (has_filter (λ o. not (cl.waits_for_read t x o)) t.operations p i).0) h
        go _ (ends.FailsToWrite x v o f e j) =
            fewer t.operations _ (λ p i. (has_filter (λ o. not (cl.waits_for_write t x o)) t.operations p i).0) h
        go _ (ends.FailsToWriteOlder x v o f e j) =
            fewer t.operations _ (λ p i. (has_filter (λ o. not (cl.waits_for_write t x o)) t.operations p i).0) h

    -- The passes: what is sent is no longer one of these, and nothing gets stuck.
    operated : (all : List Operation) (o : Operation) (os : List Operation) (t u : Turn) → Operated now all o t u → Stays t.operations × Stays (o ∷ os) →
        Stays u.operations × Stays os
    operated all o os t u step h = (go u step, λ p i. h.1 p (inr i))
      where
        keeps : Stays (t.operations ++ o ∷ [])
        keeps p i = by (has_append t.operations (o ∷ []) p i)
          where
            by : Has p t.operations ⊎ Has p (o ∷ []) → p.stage ≡ stages.Stuck → ⊥
            by (inl j) = h.0 p j
            by (inr (inl e)) = h.1 p (inl e)
            by (inr (inr j)) = absurd j

        go : (u : Turn) → Operated now all o t u → Stays u.operations
        go _ pass.Waits = keeps
        go _ (pass.IsHard f e q d) = h.0
        go _ (pass.IsQuiesced x own n there none unsent) = h.0
        go _ (pass.ChangesPage x f p bytes n v c m e) = h.0
        go _ (pass.IsDirtyFull x f p bytes n v c m e) = h.0
        go _ (pass.Fetches x f p m v n c e r) = keeps
        go _ (pass.ReadsCached x f p bytes v e d q) = h.0
        go _ (pass.ReadsZeros x f p e v a d q j m) = h.0

    reduced : (ino : ℕ) (t u : Turn) → Reduced ino t u → Stays t.operations → Stays u.operations
    reduced ino t _ StaysHeld h = h
    reduced ino t _ (IsReduced x g to e m q) h = h

    wrote : (tick : Bool) (y : ℕ × PageNo) (t u : Turn) → WritesOut now tick y t u → Stays t.operations → Stays u.operations
    wrote tick y t _ StaysDirty h = h
    wrote tick y t _ (IsWritten x d m e q i j) h = h

    greeted : (tick : Bool) (t u : Turn) → Greets now tick t u → Stays t.operations → Stays u.operations
    unfolding cs.send
    greeted tick t _ asking.IsSilent h = h
    greeted tick t _ (asking.SaysHello e m) h = h

    requested : (tick : Bool) (t u : Turn) → Requests now tick t u → Stays t.operations → Stays u.operations
    unfolding cs.send
    requested tick t _ asking.AsksNothing h = h
    requested tick t _ (asking.AsksAgain x q e c n o) h = h
    requested tick t _ (asking.Reasserts x m d) h = h
    requested tick t _ (asking.Releases x r rs m d e) h = h
    requested tick t _ (asking.AsksFor x xs o ys y f e first) h = λ p i. go p (has_append xs (cp.sent_if y.own o ∷ ys) p i)
      where
        old : (p : Operation) → Has p (xs ++ o ∷ ys) → p.stage ≡ stages.Stuck → ⊥
        old p i = h p (subst (Has p) (sym first.there) i)

        sent : (b : Bool) → (cp.sent_if b o).stage ≡ stages.Stuck → ⊥
        sent true e = no e
          where
            no : stages.Sent ≡ stages.Stuck → ⊥
            no e = cc e
        sent false e = old o (has_right xs (o ∷ ys) o (inl refl)) e

        go : (p : Operation) → Has p xs ⊎ Has p (cp.sent_if y.own o ∷ ys) → p.stage ≡ stages.Stuck → ⊥
        go p (inl i) = old p (has_left xs (o ∷ ys) p i)
        go p (inr (inl q)) = subst (λ (z : Operation). z.stage ≡ stages.Stuck → ⊥) (sym q) (sent y.own)
        go p (inr (inr i)) = old p (has_right xs (o ∷ ys) p (inr i))
    requested tick t _ (asking.KeepsAlive x f e) h = h

    passed : (tick : Bool) (t : Turn) → Stays t.operations → Stays (cp.passes now tick t).operations
    passed tick t h =
        let r = passes now tick t in
        requested tick r.greeted (cp.passes now tick t) r.requests
        (greeted tick r.written r.greeted r.greeting
        (each_lasts (WritesOut now tick) (λ xs v. Stays v.operations) (λ x xs v y o p. wrote tick x v y o p)
        (places_of r.reduced.here.session r.reduced.here.store.pages) r.reduced r.written r.writes
        (each_lasts Reduced (λ xs v. Stays v.operations) (λ x xs v y o p. reduced x v y o p) (cp.files_demanded r.operated.here.session) r.operated r.reduced
        r.reductions
        (each_lasts (Operated now t.operations) (λ os v. Stays v.operations × Stays os) (λ o os v x y z. operated t.operations o os v x y z) t.operations
        (with_operations [] t) r.operated r.operations ((λ o i. absurd i), h)).0)))

    -- Each server in turn.
    record All (t : ClientTurn) : Type 0 where
      id : t.state.id ≡ s.id
      fine : Fine t.state.operations
      each : (a : Association) → Has a t.state.associations → Place a

    these_lost : (al : List Association) (t : ClientTurn) → ((a : Association) → Has a al → Has a s.associations) → All t → All (at_these (cl.lose now) al t)
    unfolding at_these
    these_lost [] t f h = h
    these_lost (a ∷ al) t f h =
        let z = lost (enter t a) (f a (inl refl)) h.fine in
        these_lost al (leave t (cl.lose now (enter t a))) (λ b i. f b (inr i))
        (record { id = h.id; fine = z.0; each = λ b i. go b z.1 (has_append t.state.associations ((cl.lose now (enter t a)).here ∷ []) b i) })
      where
        go : (b : Association) → Place (cl.lose now (enter t a)).here → Has b t.state.associations ⊎ Has b ((cl.lose now (enter t a)).here ∷ []) → Place b
        go b p (inl i) = h.each b i
        go b p (inr (inl e)) = subst Place (sym e) p
        go b p (inr (inr i)) = absurd i

    these_fine : (rule : Turn → Turn) → ((t : Turn) → Place t.here → Fine t.operations → Fine (rule t).operations) → (al : List Association) (t : ClientTurn) →
        ((a : Association) → Has a al → Place a) → Fine t.state.operations → Fine (at_these rule al t).state.operations
    unfolding at_these
    these_fine rule one [] t f h = h
    these_fine rule one (a ∷ al) t f h =
        these_fine rule one al (leave t (rule (enter t a))) (λ b i. f b (inr i)) (one (enter t a) (f a (inl refl)) h)

    these_passed : (tick : Bool) (al : List Association) (t : ClientTurn) → Stays t.state.operations →
        Stays (at_these (cp.passes now tick) al t).state.operations
    unfolding at_these
    these_passed tick [] t h = h
    these_passed tick (a ∷ al) t h = these_passed tick al (leave t (cp.passes now tick (enter t a))) (passed tick (enter t a) h)

    input_fine : (t : ClientTurn) (i : ClientInput) → input ≡ i → All t → Fine (cl.take_input t now i).state.operations
    unfolding cl.take_input cl.app cl.app_known cl.done cr.receive cr.receive_here at_each
    input_fine t inputs.Tick is h = h.fine
    input_fine t (inputs.App op ask) is h =
        cond_either (λ (u : ClientTurn). Fine u.state.operations) (cl.is_full t.state) (cl.answered_at_once t op answers.OpsFull) (cl.app_known t op ask)
        (λ e. h.fine)
        (λ e. cond_either (λ (u : ClientTurn). Fine u.state.operations) (cl.is_configured t.state (server_of ask))
        (at_each (only_at (server_of ask) (cl.take_ask op ask)) t) (cl.answered_at_once t op answers.NoFile)
        (λ c. these_fine (only_at (server_of ask) (cl.take_ask op ask)) (λ u p k. took op ask u k) t.state.associations (with_associations [] t) h.each h.fine)
        (λ c. h.fine))
    input_fine t (inputs.Control m) is h =
        cond_either (λ (u : ClientTurn). Fine u.state.operations) (m.header.to == t.state.id.0) (at_each (cr.receive_at now m.header m.body) t) t
        (λ e. these_fine (cr.receive_at now m.header m.body)
        (λ u p k. received m is (eqb-true m.header.to t.state.id.0 e ∙ ap (λ (v : ClientId). v.0) h.id) u p k) t.state.associations (with_associations [] t)
        h.each h.fine)
        (λ e. h.fine)
    input_fine t (inputs.Done number r) is h =
        these_fine (cl.finish number r) (λ u p k. finished number r u k) t.state.associations (with_associations [] t) h.each h.fine

    pub step_stays : Stays s.operations → Stays (cl.client_step s now input).state.operations
    unfolding cl.client_step cl.work cl.losses at_each
    step_stays h =
        these_passed (cl.is_tick input) t.state.associations (with_associations [] t)
        (input_fine first input refl
        (these_lost s.associations (with_associations [] (client_turn s [])) (λ a i. i)
        (record { id = refl; fine = record { stays = h; orig = λ o i e. i }; each = λ a i. absurd i }))).stays
      where
        first : ClientTurn
        first = cl.losses (client_turn s []) now

        t : ClientTurn
        t = cl.take_input first now input
