-- The rules of a client, walked once: what they do to the pending operations, to the outputs and to what is known of places.
use Rattle.st_lemmas.proofs.Words
use Words.{◌≡◌, ℕ, Bool, true, false, not, ◌||◌, List, [], ◌∷◌, ◌++◌, Option, Some, None, refl, sym, ap, ◌∙◌, subst, inl, inr, if◌then◌else◌, append_assoc, ◌⊎◌}
use Words.{filter, is_some, map, eqb-true, Config, BlockAt, Command, Tag, ClientId, FileId, PageNo, ServerId, Stamp, Mode, ExtentRow, AppAnswer, Ask, Body}
use Words.{Header, NameReply, Why, Note, Output, Operation, PageCommand, append-nil}
use Words.commands
use Words.modes
use Words.answers
use Words.asks
use Words.bodies
use Words.replies
use Words.notes
use Words.outputs
use Words.io
use Words.Client as cl
use Words.ClientLease as lease
use Words.ClientLocks as locks
use Words.ClientPages as pages
use Words.ClientPages.{Store, Pages}
use Words.ClientPasses as cp
use Words.ClientReplies as cr
use Words.ClientState as cs
use Words.ClientState.{ClientSession, Association, ClientTurn, Turn, enter, leave, at_these, at_each, answer_to, server_of, say, with_session, with_store}
use Words.ClientState.{with_operations}
use Words.Keys.{server_node}
use Words.Safety.{is_use, block_of}
use Words.Lists.{Has}
use Words.Tables.{and_true, has_append}
use Words.Lookups.{or_left, or_right}
use Rattle.st_laws_pages.proofs.Asks.Places.{On, Knows, OwnBody, OwnRows, knows_at, knows_fewer, knows_rows, knows_unmapped}
use Rattle.st_trace.specs.Client.Commands as ending
use Rattle.st_trace.specs.Client.Commands.{Finishes}
use Rattle.st_trace.specs.Client.Each as each_of
use Rattle.st_trace.specs.Client.Losses as losing
use Rattle.st_trace.specs.Client.Losses.{Ended, Loses}
use Rattle.st_trace.specs.Client.Messages as trace
use Rattle.st_trace.specs.Client.Messages.{Effect, Receives, Refusal, Renews}
use Rattle.st_trace.specs.Client.Operations as pass
use Rattle.st_trace.specs.Client.Operations.{Changed, Operated, Served}
use Rattle.st_trace.specs.Client.Passes.{Reduced, StaysHeld, IsReduced, WritesOut, StaysDirty, IsWritten, places_of}
use Rattle.st_trace.specs.Client.Requests as asking
use Rattle.st_trace.specs.Client.Requests.{Greets, Requests}
use Rattle.st_trace.proofs.Client.Finishing.{finishes}
use Rattle.st_trace.proofs.Client.Losing.{loses}
use Rattle.st_trace.proofs.Client.Receiving.{receives}
use Rattle.st_trace.proofs.Client.Walk.{each_lasts, passes}

-- A note of no change of a page.
abbrev pub PlainNote : Note → Type 0
PlainNote (notes.Accepted f p bytes) = ⊥
PlainNote (notes.Patched f p at bytes) = ⊥
PlainNote n = Unit {0}

-- An output of this client that neither answers, nor submits, nor notes a change of a page.
abbrev pub Neutral : ClientId → Output → Type 0
Neutral c (outputs.Send m) = m.header.from ≡ c.0
Neutral c (outputs.Submit number at what) = ⊥
Neutral c (outputs.Answer op answer) = ⊥
Neutral c (outputs.Note n) = PlainNote n

-- The note of the change that was asked.
abbrev pub NotesChange : Note → Ask → Type 0
NotesChange (notes.Accepted f p bytes) ask = ask ≡ asks.Write f p bytes
NotesChange (notes.Patched f p at bytes) ask = ask ≡ asks.Patch f p at bytes
NotesChange n ask = ⊥

-- the number and the ask of an operation
abbrev pub key : Operation → ℕ × Ask
key o = (o.op, o.ask)

-- What lasts of the pending operations and the outputs, through the small changes of which all rules are made: n servers, the
-- servers that may be used, the client.
pub record Lasts (n : ℕ) (Use : ServerId → Type 0) (c : ClientId) (Q : List Operation → List Output → Type 0) : Type 0 where
  pub says : (ops : List Operation) (out : List Output) (o : Output) → Neutral c o → Q ops out → Q ops (out ++ o ∷ [])
  pub submits : (ops : List Operation) (out : List Output) (s : ServerId) (number : ℕ) (at : BlockAt) (what : Command) → Use s → On n s (block_of what) →
      Q ops out → Q ops (out ++ outputs.Submit number at what ∷ [])
  pub answered : (xs ys : List Operation) (out : List Output) (o : Operation) (a : AppAnswer) → is_use a ≡ false →
      Q (xs ++ o ∷ ys) out → Q (xs ++ ys) (out ++ outputs.Answer o.op a ∷ [])
  pub reads : (xs ys : List Operation) (out : List Output) (o : Operation) (bytes : List ℕ) → Use (server_of o.ask) →
      Q (xs ++ o ∷ ys) out → Q (xs ++ ys) (out ++ outputs.Answer o.op (answers.Read bytes) ∷ [])
  pub changes : (xs ys : List Operation) (out : List Output) (o : Operation) (x : Note) → NotesChange x o.ask → Use (server_of o.ask) →
      Q (xs ++ o ∷ ys) out → Q (xs ++ ys) ((out ++ outputs.Note x ∷ []) ++ outputs.Answer o.op answers.Written ∷ [])
  pub stages : (xs ys : List Operation) (out : List Output) → map key xs ≡ map key ys → Q xs out → Q ys out

-- What holds of a turn, with a condition on the association.
pub record Stands (n : ℕ) (c : ClientId) (k : Config) (Q : List Operation → List Output → Type 0) (C : ServerId → Option ClientSession → Option Stamp → Type 0)
    (t : Turn) : Type 0 where
  pub id : t.id ≡ c
  pub config : t.config ≡ k
  pub done : Q t.operations t.out
  pub own : Knows n t.here.server t.here.store.extents
  pub cond : C t.here.server t.here.session t.here.greeting

-- The conditions: the server may be used; it may if there is a session; and it may if there is a session or a greeting.
abbrev pub Used : (ServerId → Type 0) → ServerId → Option ClientSession → Option Stamp → Type 0
Used Use s o g = Use s

abbrev pub Usable : (ServerId → Type 0) → ServerId → Option ClientSession → Option Stamp → Type 0
Usable Use s o g = is_some o ≡ true → Use s

abbrev pub Begun : (ServerId → Type 0) → ServerId → Option ClientSession → Option Stamp → Type 0
Begun Use s o g = (is_some o || is_some g) ≡ true → Use s

-- a lease that is over at this moment
abbrev pub is_lost : Config → Stamp → Option ClientSession → Bool
is_lost k now None = false
is_lost k now (Some s) = lease.must_discard (lease.standing_of k s.lease now)

abbrev pub Lasting : Config → Stamp → (ServerId → Type 0) → ServerId → Option ClientSession → Option Stamp → Type 0
Lasting k now Use s o g = is_lost k now o ≡ false → Use s

keys_both : (xs ys : List Operation) (o p : Operation) → key o ≡ key p → map key xs ≡ map key ys → map key (o ∷ xs) ≡ map key (p ∷ ys)
keys_both xs ys o p a b = ap (λ z. z ∷ map key xs) a ∙ ap (λ z. key p ∷ z) b

module _ (n : ℕ) (Use : ServerId → Type 0) (c : ClientId) (k : Config) (Q : List Operation → List Output → Type 0) (q : Lasts n Use c Q) where
  abbrev W : (ServerId → Option ClientSession → Option Stamp → Type 0) → Turn → Type 0
  W C t = Stands n c k Q C t

  abbrev U : Turn → Type 0
  U t = W (Used Use) t

  abbrev S : Turn → Type 0
  S t = W (Usable Use) t

  abbrev G : Turn → Type 0
  G t = W (Begun Use) t

  -- from one condition to another
  used : (t : Turn) (s : ClientSession) → t.here.session ≡ Some s → S t → U t
  used t s e w = record { id = w.id; config = w.config; done = w.done; own = w.own; cond = w.cond (ap is_some e) }

  usable : (t : Turn) → U t → S t
  usable t w = record { id = w.id; config = w.config; done = w.done; own = w.own; cond = λ e. w.cond }

  pub begun : (t : Turn) → G t → S t
  begun t w = record { id = w.id; config = w.config; done = w.done; own = w.own; cond = λ e. w.cond (or_left (is_some t.here.session) _ e) }

  begun_used : (t : Turn) (s : ClientSession) → t.here.session ≡ Some s → G t → U t
  begun_used t s e w = record { id = w.id; config = w.config; done = w.done; own = w.own; cond = w.cond (or_left (is_some t.here.session) _ (ap is_some e)) }

  greets_used : (t : Turn) → is_some t.here.greeting ≡ true → G t → U t
  greets_used t e w = record { id = w.id; config = w.config; done = w.done; own = w.own; cond = w.cond (or_right (is_some t.here.session) _ e) }

  -- Small changes.
  module _ (C : ServerId → Option ClientSession → Option Stamp → Type 0) where
    stands_after_say : (t : Turn) (o : Output) → Neutral c o → W C t → W C (say t o)
    stands_after_say t o m w = record { id = w.id; config = w.config; done = q.says t.operations t.out o m w.done; own = w.own; cond = w.cond }

    stands_after_send : (t : Turn) (epoch number stamp : ℕ) (b : Body) → W C t → W C (cs.send t epoch number stamp b)
    unfolding cs.send
    stands_after_send t epoch number stamp b w = stands_after_say t _ (ap (λ (z : ClientId). z.0) w.id) w

    stands_after_store : (t : Turn) (st : Store) → Knows n t.here.server st.extents → W C t → W C (with_store st t)
    stands_after_store t st x w = record { id = w.id; config = w.config; done = w.done; own = x; cond = w.cond }

    stands_after_stages : (t : Turn) (os : List Operation) → map key t.operations ≡ map key os → W C t → W C (with_operations os t)
    stands_after_stages t os e w = record { id = w.id; config = w.config; done = q.stages t.operations os t.out e w.done; own = w.own; cond = w.cond }

    each_answered : (picked : Operation → Bool) (a : AppAnswer) → is_use a ≡ false → (kept os : List Operation) (out : List Output) → Q (kept ++ os) out →
        Q (kept ++ filter (λ o. not (picked o)) os) (out ++ map (answer_to a) (filter picked os))
    each_answered picked a p kept [] out z = subst (λ x. Q (kept ++ []) x) (sym (append-nil out)) z
    each_answered picked a p kept (o ∷ os) out z = go (picked o) (λ kept out z. each_answered picked a p kept os out z)
      where
        go : (b : Bool) → ((kept : List Operation) (out : List Output) → Q (kept ++ os) out → Q (kept ++ filter (λ o. not (picked o)) os)
            (out ++ map (answer_to a) (filter picked os))) →
            Q (kept ++ (if not b then o ∷ filter (λ o. not (picked o)) os else filter (λ o. not (picked o)) os))
            (out ++ map (answer_to a) (if b then o ∷ filter picked os else filter picked os))
        go true f =
            subst (λ x. Q (kept ++ filter (λ o. not (picked o)) os) x) (append_assoc out (answer_to a o ∷ []) (map (answer_to a) (filter picked os)))
            (f kept (out ++ answer_to a o ∷ []) (q.answered kept os out o a p z))
        go false f =
            subst (λ x. Q x (out ++ map (answer_to a) (filter picked os))) (append_assoc kept (o ∷ []) (filter (λ o. not (picked o)) os))
            (f (kept ++ o ∷ []) out (subst (λ x. Q x out) (sym (append_assoc kept (o ∷ []) os)) z))

    stands_after_answers : (t : Turn) (picked : Operation → Bool) (a : AppAnswer) → is_use a ≡ false → W C t → W C (cs.answer_each picked a t)
    unfolding cs.answer_each
    stands_after_answers t picked a p w =
        record { id = w.id; config = w.config; done = each_answered picked a p [] t.operations t.out w.done; own = w.own; cond = w.cond }

  used_after_session : (t : Turn) (s : ClientSession) → U t → U (with_session s t)
  used_after_session t s w = record { id = w.id; config = w.config; done = w.done; own = w.own; cond = w.cond }

  abbrev D : ServerId → Option ClientSession → Option Stamp → Type 0
  D = Used Use

  -- What a message does.
  learned_knows : (s : ServerId) (ino : ℕ) (rows : List ExtentRow) (asked : Body) (st : Store) → OwnRows n s rows → Knows n s st.extents → Knows n s
      (cr.learned ino rows asked st).extents
  learned_knows s ino [] (bodies.Map i g p) st o x = knows_unmapped n s ino p st.extents x
  learned_knows s ino (r ∷ rs) (bodies.Map i g p) st o x = knows_rows n s ino (r ∷ rs) st.extents o x
  learned_knows s ino rows asked st o x = knows_rows n s ino rows st.extents o x

  used_after_refused : (t : Turn) (file : Option ℕ) (asked : Body) (y : Why) (a b : ℕ) (u : Turn) → Refusal t file asked y a b u → U t → U u
  used_after_refused t file asked _ a b _ (trace.NoFile _ _ ino e) w = stands_after_answers D t _ _ refl w
  used_after_refused t file asked _ a b _ (trace.TooManyLocks _ _ ino e) w = stands_after_answers D t _ _ refl w
  used_after_refused t file asked _ a b _ (trace.NoSpace _ _ ino p e q) w = stands_after_answers D t _ _ refl w
  used_after_refused t file asked _ a b _ (trace.NotHolder _ _ e) w = stands_after_answers D t _ _ refl w
  used_after_refused t file asked y a b _ (trace.AnswersNone _ _ _) w = w

  keys_stuck : (t : Turn) (os : List Operation) → map key os ≡ map key (map (cr.stuck t) os)
  keys_stuck t [] = refl
  keys_stuck t (o ∷ os) = keys_both os (map (cr.stuck t) os) o (cr.stuck t o) (one (cs.is_asked t.here.server o)) (keys_stuck t os)
    where
      one : (b : Bool) → key o ≡ key (if b then cs.at_stage Rattle.st_rules.specs.declared.client.Stage.TheVariants.Stuck o else o)
      one true = refl
      one false = refl

  used_after_effect : (now : Stamp) (t : Turn) (s : ClientSession) (file : Option ℕ) (asked b : Body) (u : Turn) → OwnBody n t.here.server b →
      Effect now t s file asked b u → U t → U u
  used_after_effect now t s file asked _ _ o (trace.IsGranted ino g mode v k) w = used_after_session t v w
  used_after_effect now t s file asked _ _ o (trace.IsQueued ino mode e) w = used_after_session t _ w
  used_after_effect now t s file asked _ _ o (trace.HoldsAlready ino mode e) w = used_after_session t s w
  used_after_effect now t s file asked _ _ o (trace.IsToldExtents ino rows e) w =
      stands_after_store D t _ (learned_knows t.here.server ino rows asked t.here.store o w.own) w
  used_after_effect now t s file asked _ _ o (trace.IsToldLate ino rows e) w = w
  used_after_effect now t s file asked _ _ o trace.IsAcknowledged w = stands_after_answers D t _ _ refl w
  used_after_effect now t s file asked _ _ o (trace.IsNamed r k) w = stands_after_answers D t _ (cr.name_answer r) (no_use r) w
    where
      no_use : (r : NameReply) → is_use (cr.name_answer r) ≡ false
      no_use (replies.Ino ino) = refl
      no_use (replies.Listed rows) = refl
      no_use (replies.Refused code) = refl
  used_after_effect now t s file asked _ _ o (trace.IsRemoved ino removed l e q) w =
      used_after_session (cs.answer_each (cs.is_asked t.here.server) (answers.Named ino) t) _
      (stands_after_answers D t _ _ refl w)
  used_after_effect now t s file asked _ _ o trace.IsReasserted w = used_after_session t _ w
  used_after_effect now t s file asked _ _ o (trace.Effect.IsRefused y a b u r) w =
      stands_after_stages D u _ (keys_stuck u u.operations) (used_after_refused t file asked y a b u r w)

  -- a lease that is renewed, and a message's own places
  used_after_renewed : (t : Turn) (s : ClientSession) (stamp : Stamp) (b : Body) (u : Turn) → Renews t s stamp u → OwnBody n t.here.server b → U t →
      U u × OwnBody n u.here.server b
  used_after_renewed t s stamp b _ (trace.IsLater e) o w = (stands_after_say D t _ tt w, o)
  used_after_renewed t s stamp b _ (trace.IsNoLater e) o w = (w, o)

  begins_after_heard : (now : Stamp) (h : Header) (t : Turn) (b : Body) (u : Turn) → ((s : ServerId) → h.from ≡ server_node s → OwnBody n s b) →
      Receives now h t b u →
      G t → S u
  begins_after_heard now h t _ _ o (trace.PassesOver b) w = begun t w
  begins_after_heard now h t _ _ o (trace.Begins r e i) w =
      let v = greets_used t (and_true _ _ i).0 w in
      usable _ (stands_after_say D (cr.begin_here (cr.new_session (trace.epoch_of h) (trace.stamp_of h)) t) _ tt
      (record { id = v.id; config = v.config; done = v.done; own = v.own; cond = v.cond }))
  begins_after_heard now h t _ _ o (trace.FollowsEpoch s x y m e) w =
      usable _ (stands_after_answers D (with_session (cr.in_epoch (trace.epoch_of h) s) t) _ _ refl
      (used_after_session t (cr.in_epoch (trace.epoch_of h) s) (begun_used t s m.session w)))
  begins_after_heard now h t _ _ o (trace.IsCondemned b s m c) w = usable _ (used_after_session t _ (begun_used t s m.session w))
  begins_after_heard now h t _ _ o (trace.IsGrantedLater ino g mode s v m e k) w = usable _ (used_after_session t v (begun_used t s m.session w))
  begins_after_heard now h t _ _ o (trace.SeesDemand ino g to s m e) w = usable _ (stands_after_send D _ _ _ _ _
      (used_after_session t (cs.with_cache (locks.demand s.locks ino g to).locks s) (begun_used t s m.session w)))
  begins_after_heard now h t _ _ o (trace.GivesUp ino g to s m e k) w = usable _ (used_after_session t _ (begun_used t s m.session w))
  begins_after_heard now h t _ _ o (trace.HasGivenUp ino g to s m e k) w = usable _ (used_after_session t _ (begun_used t s m.session w))
  begins_after_heard now h t _ u o (trace.IsAnswered b s q v _ r x f) w =
      let m = r.heard in let y = cr.ended_by (trace.stamp_of h) s in
      let z = used_after_renewed t s (trace.stamp_of h) b v x (o t.here.server m.received.from) (begun_used t s m.session w) in
      usable u (used_after_effect now (with_session y v) y (cs.file_asked s.cutting q.body) q.body b u z.1 f (used_after_session v y z.0))

  pub begins_after_receive : (now : Stamp) (h : Header) (b : Body) (t : Turn) → ((s : ServerId) → h.from ≡ server_node s → OwnBody n s b) → G t → S
      (cr.receive_at now h b t)
  begins_after_receive now h b t o w = begins_after_heard now h t b (cr.receive_at now h b t) o (receives now h t b) w

  -- Losses.
  record Ending (os : List Operation) (t : Turn) : Type 0 where
    pub id : t.id ≡ c
    pub config : t.config ≡ k
    pub done : Q (t.operations ++ os) t.out

  ended : (s : ClientSession) (o : Operation) (os : List Operation) (t u : Turn) → Ended s o t u → Ending (o ∷ os) t → Ending os u
  ended s o os t _ (losing.IsElsewhere e) w = record {
    id = w.id;
    config = w.config;
    done = subst (λ x. Q x t.out)
        (sym (append_assoc t.operations (o ∷ []) os)) w.done;
  }
  ended s o os t _ (losing.IsUncertain e q_) w = record { id = w.id; config = w.config; done = q.answered t.operations os t.out o _ refl w.done }
  ended s o os t _ (losing.IsToldLost f e q_ a l) w = record { id = w.id; config = w.config; done = q.answered t.operations os t.out o _ refl w.done }
  ended s o os t _ (losing.LostNothing f e q_ a l) w = record { id = w.id; config = w.config; done = q.answered t.operations os t.out o _ refl w.done }
  ended s o os t _ (losing.IsQuiesced e q_ a) w = record { id = w.id; config = w.config; done = q.answered t.operations os t.out o _ refl w.done }

  pub stands_after_lose : (now : Stamp) (t : Turn) → W (Lasting k now Use) t → G (cl.lose now t)
  stands_after_lose now t w = go (cl.lose now t) (loses now t)
    where
      lasting : is_lost k now t.here.session ≡ false → G t
      lasting e = record { id = w.id; config = w.config; done = w.done; own = w.own; cond = λ z. w.cond e }

      go : (u : Turn) → Loses now t u → G u
      go _ (losing.HasNoSession e) = lasting (ap (is_lost k now) e)
      go _ (losing.Lasts s e o) = lasting (ap (is_lost k now) e ∙ ap (λ z. lease.must_discard (lease.standing_of z s.lease now)) (sym w.config) ∙ o)
      go _ (losing.IsLost s u e o p) =
          let r = each_lasts (Ended s) (λ os v. Ending os v) (λ o os v x step z. ended s o os v x step z) t.operations
          (with_operations [] (losing.loss_noted t)) u p
          (record { id = w.id; config = w.config; done = q.says t.operations t.out (outputs.Note (notes.Lost t.here.server t.here.life)) tt w.done }) in
          record { id = r.id; config = r.config; done = subst (λ x. Q x u.out) (append-nil u.operations) r.done; own = λ e h. absurd h; cond = λ e. cc e }

  -- Ends of commands.
  module _ (C : ServerId → Option ClientSession → Option Stamp → Type 0) where
    stands_after_commands : (t : Turn) (x : PageCommand) → W C t → W C (ending.without x t)
    stands_after_commands t x w = stands_after_store C t _ w.own w

    stands_after_pages : (t : Turn) (ps : Pages) → W C t → W C (with_store (record t.here.store { pages = ps }) t)
    stands_after_pages t ps w = stands_after_store C t _ w.own w

    pub stands_after_finish : (number : ℕ) (r : Option (Option (Tag × List ℕ))) (t : Turn) → W C t → W C (cl.finish number r t)
    stands_after_finish number r t w = go (cl.finish number r t) (finishes number r t)
      where
        go : (u : Turn) → Finishes number r t u → W C u
        go _ (ending.IsUnknown e) = w
        go _ (ending.IsOfOtherKind x block o e i) = w
        go _ (ending.Fills x block o i e) = stands_after_pages (ending.without x t) _ (stands_after_commands t x w)
        go _ (ending.Hardens x v o i e j) = stands_after_pages (ending.without x t) _ (stands_after_commands t x w)
        go _ (ending.WroteOlder x v o i e j) = stands_after_commands t x w
        go _ (ending.FailsToRead x o i e) = stands_after_answers C _ _ _ refl (stands_after_commands t x w)
        go _ (ending.FailsToWrite x v o i e j) = stands_after_answers C _ _ _ refl
            (stands_after_pages (ending.without x t) (pages.fail t.here.store.pages x.ino x.page x.number) (stands_after_commands t x w))
        go _ (ending.FailsToWriteOlder x v o i e j) = stands_after_answers C _ _ _ refl (stands_after_commands t x w)

  -- The pass over the operations: those that were not yet looked at come after those that stay.
  record Rest (os : List Operation) (t : Turn) : Type 0 where
    pub id : t.id ≡ c
    pub config : t.config ≡ k
    pub done : Q (t.operations ++ os) t.out
    pub own : Knows n t.here.server t.here.store.extents
    pub cond : is_some t.here.session ≡ true → Use t.here.server

  rest_after_keeping : (os : List Operation) (o : Operation) (t : Turn) → Rest (o ∷ os) t → Rest os (cs.keep o t)
  rest_after_keeping os o t r = record {
    id = r.id;
    config = r.config;
    done = subst (λ x. Q x t.out) (sym (append_assoc t.operations (o ∷ []) os)) r.done;
    own = r.own;
    cond = r.cond;
  }

  rest_after_answer : (os : List Operation) (o : Operation) (a : AppAnswer) (t : Turn) → is_use a ≡ false → Rest (o ∷ os) t → Rest os (cp.answer o a t)
  rest_after_answer os o a t p r = record { id = r.id; config = r.config; done = q.answered t.operations os t.out o a p r.done; own = r.own; cond = r.cond }

  rest_after_read : (os : List Operation) (o : Operation) (bytes : List ℕ) (t : Turn) → Use (server_of o.ask) → Rest (o ∷ os) t → Rest os
      (cp.answer o (answers.Read bytes) t)
  rest_after_read os o bytes t u r = record { id = r.id; config = r.config; done = q.reads t.operations os t.out o bytes u r.done; own = r.own; cond = r.cond }

  rest_after_store : (os : List Operation) (t : Turn) (st : Store) → Knows n t.here.server st.extents → Rest os t → Rest os (with_store st t)
  rest_after_store os t st x r = record { id = r.id; config = r.config; done = r.done; own = x; cond = r.cond }

  -- the server that serves an operation may be used
  rest_after_used : (now : Stamp) (all os : List Operation) (o : Operation) (t : Turn) (s : ClientSession) → Served now all o t s → Rest os t →
      Use t.here.server × Use
      (server_of o.ask)
  rest_after_used now all os o t s v r =
      let u = r.cond (ap is_some v.session) in (u, subst Use (ap (λ m. record { 0 = m }) (sym (eqb-true (server_of o.ask).0 t.here.server.0 v.own))) u)

  notes_change : (o : Operation) (t : Turn) (f : FileId) (p : PageNo) (bytes : List ℕ) (x : Note) → Changed o.ask t f p bytes x → NotesChange x o.ask
  notes_change o t _ _ _ _ (pass.IsWritten f p bytes e) = e
  notes_change o t _ _ _ _ (pass.IsPatched f p at bytes old e i) = e

  rest_after_operated : (now : Stamp) (all os : List Operation) (o : Operation) (t u : Turn) → Operated now all o t u → Rest (o ∷ os) t → Rest os u
  rest_after_operated now all os o t _ pass.Waits r = rest_after_keeping os o t r
  rest_after_operated now all os o t _ (pass.IsHard f e i h) r = rest_after_answer os o _ t refl r
  rest_after_operated now all os o t _ (pass.IsQuiesced s e i a b d) r = rest_after_answer os o _ t refl r
  rest_after_operated now all os o t _ (pass.ChangesPage s f p bytes x v i m e) r =
      record {
        id = r.id;
        config = r.config;
        done = q.changes t.operations os t.out o x (notes_change o t f p bytes x i)
            (rest_after_used now all (o ∷ os) o t s v r).1 r.done;
        own = r.own;
        cond = r.cond;
      }
  rest_after_operated now all os o t _ (pass.IsDirtyFull s f p bytes x v i m e) r = rest_after_answer os o _ t refl r
  rest_after_operated now all os o t _ (pass.Fetches s f p m v i e j b) r =
      rest_after_keeping os o (say (cp.with_command f.ino p io.Read t) (outputs.Submit t.next_command m.at (commands.Read m.at)))
      (record {
        id = r.id;
        config = r.config;
        done = q.submits (t.operations ++ o ∷ os) t.out t.here.server t.next_command m.at (commands.Read m.at)
            (rest_after_used now all (o ∷ os) o t s v r).0 (knows_at n t.here.server f.ino p t.here.store.extents m r.own j) r.done;
        own = r.own;
        cond = r.cond;
      })
  rest_after_operated now all os o t _ (pass.ReadsCached s f p bytes v e h i) r = rest_after_read os o bytes _ (rest_after_used now all (o ∷ os) o t s v r).1
      (rest_after_store (o ∷ os) t _ r.own r)
  rest_after_operated now all os o t _ (pass.ReadsZeros s f p e v a h i j m) r = rest_after_read os o _ t (rest_after_used now all (o ∷ os) o t s v r).1 r

  usable_after_operated : (now : Stamp) (t u : Turn) → each_of.Each (Operated now t.operations) t.operations (with_operations [] t) u → S t → S u
  usable_after_operated now t u x w = go (each_lasts (Operated now t.operations) (λ os v. Rest os v)
      (λ o os v y step z. rest_after_operated now t.operations os o v y step z) t.operations (with_operations [] t) u x
      (record { id = w.id; config = w.config; done = w.done; own = w.own; cond = w.cond }))
    where
      go : Rest [] u → S u
      go r = record { id = r.id; config = r.config; done = subst (λ x. Q x u.out) (append-nil u.operations) r.done; own = r.own; cond = r.cond }

  -- Reductions, writes and greeting.
  usable_after_reduced : (ino : ℕ) (t u : Turn) → Reduced ino t u → S t → S u
  unfolding pages.forget_from
  usable_after_reduced ino t _ StaysHeld w = w
  usable_after_reduced ino t _ (IsReduced s g to e m i) w = usable _ (go to (used t s e w))
    where
      r : ClientSession
      r = cs.with_cache (locks.reduce s.locks ino).locks s

      go : (to : Mode) → U t → U (with_store (cp.forgotten_at ino to t.here.store) (with_session (cp.released r ino g to) t))
      go modes.None v = stands_after_store D _ _ (knows_fewer n t.here.server _ t.here.store.extents v.own) (used_after_session t _ v)
      go modes.S v = stands_after_store D _ _ v.own (used_after_session t _ v)
      go modes.X v = stands_after_store D _ _ v.own (used_after_session t _ v)

  usable_after_written : (now : Stamp) (tick : Bool) (x : ℕ × PageNo) (t u : Turn) → WritesOut now tick x t u → S t → S u
  usable_after_written now tick x t _ StaysDirty w = w
  usable_after_written now tick x t _ (IsWritten s d m e i j l) w =
      let v = used t s e w in
      usable _ (record {
        id = v.id;
        config = v.config;
        done = q.submits t.operations t.out t.here.server t.next_command m.at _ v.cond
            (knows_at n t.here.server d.ino d.page t.here.store.extents m v.own l) v.done;
        own = v.own;
        cond = v.cond;
      })

  usable_after_greeted : (now : Stamp) (tick : Bool) (t u : Turn) → Greets now tick t u → S t → S u
  usable_after_greeted now tick t _ asking.IsSilent w = w
  usable_after_greeted now tick t _ (asking.SaysHello e m) w = stands_after_send (Usable Use) _ _ _ _ _
      (record { id = w.id; config = w.config; done = w.done; own = w.own; cond = w.cond })

  -- Requests.
  used_after_ask : (t : Turn) (s : ClientSession) (now : Stamp) (b : Body) (cutting : Option ℕ) → U t → U (asking.asked t s now b cutting)
  used_after_ask t s now b cutting w = stands_after_send D _ _ _ _ _ (used_after_session t _ w)

  keys_sent : (o : Operation) (b : Bool) (xs ys : List Operation) → map key (xs ++ o ∷ ys) ≡ map key (xs ++ cp.sent_if b o ∷ ys)
  keys_sent o true [] ys = refl
  keys_sent o false [] ys = refl
  keys_sent o b (x ∷ xs) ys = keys_both (xs ++ o ∷ ys) (xs ++ cp.sent_if b o ∷ ys) x x refl (keys_sent o b xs ys)

  usable_after_requested : (now : Stamp) (tick : Bool) (t u : Turn) → Requests now tick t u → S t → S u
  unfolding pages.forget_from
  usable_after_requested now tick t _ asking.AsksNothing w = w
  usable_after_requested now tick t _ (asking.AsksAgain s x e i j l) w = usable _ (stands_after_send D _ _ _ _ _ (used_after_session t _ (used t s e w)))
  usable_after_requested now tick t _ (asking.Reasserts s m d) w = usable _ (used_after_ask t s now _ _ (used t s m.session w))
  usable_after_requested now tick t _ (asking.Releases s r rs m d e) w = usable _ (used_after_ask t (record s { releases = rs }) now _ _ (used t s m.session w))
  usable_after_requested now tick t _ (asking.AsksFor s xs o ys x f e i) w =
      let v = used t s f.may.session w in
      usable _ (used_after_ask _ s now _ _
      (stands_after_store D _ _ (cut x.cut t.here.store v.own) (stands_after_stages D t _ (ap (λ z. map key z) i.there ∙ keys_sent o x.own xs ys) v)))
    where
      cut : (o : Option (ℕ × PageNo)) (st : Store) → Knows n t.here.server st.extents → Knows n t.here.server (cp.cut_store o st).extents
      cut None st x = x
      cut (Some (ino, p)) st x = knows_fewer n t.here.server _ st.extents x
  usable_after_requested now tick t _ (asking.KeepsAlive s f e) w = usable _ (used_after_ask t s now _ _ (used t s f.may.session w))

  pub usable_after_passes : (now : Stamp) (tick : Bool) (t : Turn) → S t → S (cp.passes now tick t)
  usable_after_passes now tick t w =
      let r = passes now tick t in
      usable_after_requested now tick r.greeted (cp.passes now tick t) r.requests
      (usable_after_greeted now tick r.written r.greeted r.greeting
      (each_lasts (WritesOut now tick) (λ xs v. S v) (λ x xs v u step z. usable_after_written now tick x v u step z)
      (places_of r.reduced.here.session r.reduced.here.store.pages) r.reduced r.written r.writes
      (each_lasts Reduced (λ inos v. S v) (λ ino inos v u step z. usable_after_reduced ino v u step z)
      (cp.files_demanded r.operated.here.session) r.operated r.reduced r.reductions (usable_after_operated now t r.operated r.operations w))))

  -- A rule at each server in turn.
  pub record Each (C : ServerId → Option ClientSession → Option Stamp → Type 0) (t : ClientTurn) : Type 0 where
    pub id : t.state.id ≡ c
    pub config : t.state.config ≡ k
    pub done : Q t.state.operations t.out
    pub own : (a : Association) → Has a t.state.associations → Knows n a.server a.store.extents
    pub cond : (a : Association) → Has a t.state.associations → C a.server a.session a.greeting

  module _ (C E : ServerId → Option ClientSession → Option Stamp → Type 0) (rule : Turn → Turn) (one : (t : Turn) → W C t → W E (rule t)) where
    pub these : (al : List Association) (t : ClientTurn) → ((a : Association) → Has a al → Knows n a.server a.store.extents) →
        ((a : Association) → Has a al → C a.server a.session a.greeting) → Each E t → Each E (at_these rule al t)
    unfolding at_these
    these [] t x y e = e
    these (a ∷ al) t x y e = these al (leave t u) (λ b h. x b (inr h)) (λ b h. y b (inr h))
        (record {
          id = e.id;
          config = e.config;
          done = w.done;
          own = λ b h. owns b (has_append t.state.associations (u.here ∷ []) b h);
          cond = λ b h. conds b
              (has_append t.state.associations (u.here ∷ []) b h);
        })
      where
        u : Turn
        u = rule (enter t a)

        w : W E u
        w = one (enter t a) (record { id = e.id; config = e.config; done = e.done; own = x a (inl refl); cond = y a (inl refl) })

        owns : (b : Association) → Has b t.state.associations ⊎ Has b (u.here ∷ []) → Knows n b.server b.store.extents
        owns b (inl h) = e.own b h
        owns b (inr (inl h)) = subst (λ (z : Association). Knows n z.server z.store.extents) (sym h) w.own
        owns b (inr (inr h)) = absurd h

        conds : (b : Association) → Has b t.state.associations ⊎ Has b (u.here ∷ []) → E b.server b.session b.greeting
        conds b (inl h) = e.cond b h
        conds b (inr (inl h)) = subst (λ (z : Association). E z.server z.session z.greeting) (sym h) w.cond
        conds b (inr (inr h)) = absurd h

    pub each : (t : ClientTurn) → Each C t → Each E (at_each rule t)
    unfolding at_each
    each t e = these t.state.associations _ e.own e.cond (record { id = e.id; config = e.config; done = e.done; own = λ b h. absurd h; cond = λ b h. absurd h })
