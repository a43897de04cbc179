-- What a client makes of a message, and its passes that neither serve operations nor send requests, walked for facts of what it says and of the operations that
-- it leaves: such a fact holds again, if it does so after a message, a command or a note, after operations that are answered, and when operations are
-- stuck.
use Rattle.st_lemmas.proofs.Words
use Words.{◌≡◌, ℕ, Bool, true, List, [], ◌∷◌, ◌++◌, Option, refl, PageNo, ServerId, Stamp, AppAnswer, Body, Header, NameReply, Why, Output, LostPage, Operation}
use Words.answers
use Words.replies
use Words.notes
use Words.outputs
use Words.ClientPasses as cp
use Words.ClientReplies as cr
use Words.ClientState as cs
use Words.ClientState.{ClientSession, Turn, with_session}
use Rattle.st_promises.specs.Faults.{refuses, refuses_name}
use Rattle.st_trace.specs.Client.Messages as trace
use Rattle.st_trace.specs.Client.Messages.{Refusal, Effect, Renews, Receives}
use Rattle.st_trace.specs.Client.Passes.{Reduced, StaysHeld, IsReduced, WritesOut, StaysDirty, IsWritten, places_of}
use Rattle.st_trace.specs.Client.Requests.{Greets, IsSilent, SaysHello}
use Rattle.st_trace.proofs.Client.Receiving.{receives}
use Rattle.st_trace.proofs.Client.Requesting.{greets}
use Rattle.st_trace.proofs.Client.Walk.{each_lasts, reductions, writes}

-- an answer that a reply may give: of no fault, of no lost pages, and not that there are too many operations; and a server's refusal only if one came
abbrev pub Mild : Type 0 → AppAnswer → Type 0
Mild Told (answers.DiskFault number) = ⊥
Mild Told answers.OpsFull = ⊥
Mild Told (answers.Lost rows) = ⊥
Mild Told answers.NotHolder = Told
Mild Told (answers.NoSpace free wanted) = Told
Mild Told answers.TooManyLocks = Told
Mild Told (answers.Refused code) = Told
Mild Told a = Unit {0}

-- no answer, and no note that a lease is lost
abbrev pub Calm : Output → Type 0
Calm (outputs.Answer op a) = ⊥
Calm (outputs.Note (notes.Lost s life)) = ⊥
Calm o = Unit {0}

-- a fact of a server, of the lost pages there, of what was said and of the operations
abbrev pub Fact : Type 1
Fact = ServerId → List LostPage → List Output → List Operation → Type 0

abbrev pub At : Fact → Turn → Type 0
At Q t = Q t.here.server t.here.lost t.out t.operations

module _ (Told : Type 0) (Q : Fact) (calm : (s : ServerId) (lost : List LostPage) (out : List Output) (ops : List Operation) (o : Output) → Calm o →
    Q s lost out ops → Q s lost (out ++ o ∷ []) ops)
    (each_answered : (t : Turn) (picked : Operation → Bool) (a : AppAnswer) → Mild Told a → At Q t → At Q (cs.answer_each picked a t))
    (stuck : (t : Turn) → At Q t → At Q (cr.leave_stuck t)) where
  abbrev F : Turn → Type 0
  F t = At Q t

  last : (t : Turn) (o : Output) → Calm o → F t → Q t.here.server t.here.lost (t.out ++ o ∷ []) t.operations
  last t o p w = calm t.here.server t.here.lost t.out t.operations o p w

  -- Replies.
  refused : (t : Turn) (file : Option ℕ) (asked : Body) (y : Why) (a b : ℕ) (u : Turn) → Told → Refusal t file asked y a b u → F t → F u
  refused t file asked _ a b _ told (trace.NoFile _ _ ino e) w = each_answered t (cr.works_on t ino) answers.NoFile tt w
  refused t file asked _ a b _ told (trace.TooManyLocks _ _ ino e) w = each_answered t (cr.works_on t ino) answers.TooManyLocks told w
  refused t file asked _ a b _ told (trace.NoSpace _ _ ino p e q) w = each_answered t (cr.writes_on t ino p) (answers.NoSpace a b) told w
  refused t file asked _ a b _ told (trace.NotHolder _ _ e) w = each_answered t (cs.is_asked t.here.server) answers.NotHolder told w
  refused t file asked y a b _ told (trace.AnswersNone _ _ _) w = w

  mild_name : (r : NameReply) → (refuses_name r ≡ true → Told) → Mild Told (cr.name_answer r)
  mild_name (replies.Ino ino) told = tt
  mild_name (replies.Listed rows) told = tt
  mild_name (replies.Refused code) told = told refl

  has_effect : (now : Stamp) (t : Turn) (v : ClientSession) (file : Option ℕ) (asked b : Body) (u : Turn) → (refuses b ≡ true → Told) →
      Effect now t v file asked b u → F t → F u
  unfolding cr.leave_stuck
  has_effect now t v file asked _ _ told (trace.IsGranted ino g mode x k) w = w
  has_effect now t v file asked _ _ told (trace.IsQueued ino mode e) w = w
  has_effect now t v file asked _ _ told (trace.HoldsAlready ino mode e) w = w
  has_effect now t v file asked _ _ told (trace.IsToldExtents ino rows e) w = w
  has_effect now t v file asked _ _ told (trace.IsToldLate ino rows e) w = w
  has_effect now t v file asked _ _ told trace.IsAcknowledged w = each_answered t (cs.is_asked t.here.server) answers.Cut tt w
  has_effect now t v file asked _ _ told (trace.IsNamed r k) w = each_answered t (cs.is_asked t.here.server) (cr.name_answer r) (mild_name r told) w
  has_effect now t v file asked _ _ told (trace.IsRemoved ino removed l e q) w = each_answered t (cs.is_asked t.here.server) (answers.Named ino) tt w
  has_effect now t v file asked _ _ told trace.IsReasserted w = w
  has_effect now t v file asked _ _ told (trace.Effect.IsRefused y a b u r) w = stuck u (refused t file asked y a b u (told refl) r w)

  renewed : (t : Turn) (v : ClientSession) (stamp : Stamp) (u : Turn) → Renews t v stamp u → F t → F u
  renewed t v stamp _ (trace.IsLater e) w = last t _ tt w
  renewed t v stamp _ (trace.IsNoLater e) w = w

  heard : (now : Stamp) (h : Header) (t : Turn) (b : Body) (u : Turn) → (refuses b ≡ true → Told) → Receives now h t b u → F t → F u
  unfolding cs.send
  heard now h t _ _ told (trace.PassesOver b) w = w
  heard now h t _ _ told (trace.Begins r e i) w = last t _ tt w
  heard now h t _ _ told (trace.FollowsEpoch v a b m e) w = each_answered (with_session (cr.in_epoch (trace.epoch_of h) v) t) (cs.is_asked t.here.server)
      (answers.Uncertain v.epoch.0 h.epoch) tt w
  heard now h t _ _ told (trace.IsCondemned b v m c) w = w
  heard now h t _ _ told (trace.IsGrantedLater ino g mode v x m e k) w = w
  heard now h t _ _ told (trace.SeesDemand ino g to v m e) w = last t _ tt w
  heard now h t _ _ told (trace.GivesUp ino g to v m e k) w = w
  heard now h t _ _ told (trace.HasGivenUp ino g to v m e k) w = w
  heard now h t _ u told (trace.IsAnswered b v q x _ r n f) w =
      has_effect now (with_session (cr.ended_by (trace.stamp_of h) v) x) (cr.ended_by (trace.stamp_of h) v) (cs.file_asked v.cutting q.body) q.body b u told f
      (renewed t v (trace.stamp_of h) x n w)

  pub received : (now : Stamp) (h : Header) (b : Body) → (refuses b ≡ true → Told) → (t : Turn) → F t → F (cr.receive_at now h b t)
  received now h b told t w = heard now h t b (cr.receive_at now h b t) told (receives now h t b) w

  -- Reductions, writes and greeting.
  reduced : (ino : ℕ) (t u : Turn) → Reduced ino t u → F t → F u
  reduced ino t _ StaysHeld w = w
  reduced ino t _ (IsReduced v g to e m q) w = w

  wrote : (now : Stamp) (tick : Bool) (x : ℕ × PageNo) (t u : Turn) → WritesOut now tick x t u → F t → F u
  wrote now tick x t _ StaysDirty w = w
  wrote now tick x t _ (IsWritten v d m e q i k) w = last t _ tt w

  greeted : (now : Stamp) (tick : Bool) (t u : Turn) → Greets now tick t u → F t → F u
  unfolding cs.send
  greeted now tick t _ IsSilent w = w
  greeted now tick t _ (SaysHello e m) w = last t _ tt w

  -- the passes between operations and requests
  pub rested : (now : Stamp) (tick : Bool) (t : Turn) → F t → F (cp.greeting now tick (cp.writes now tick (cp.reductions t)))
  rested now tick t w =
      let a = cp.reductions t in
      let b = cp.writes now tick a in
      greeted now tick b (cp.greeting now tick b) (greets now tick b)
      (each_lasts (WritesOut now tick) (λ xs u. F u) (λ x xs u v o p. wrote now tick x u v o p) (places_of a.here.session a.here.store.pages) a b
      (writes now tick a)
      (each_lasts Reduced (λ xs u. F u) (λ x xs u v o p. reduced x u v o p) (cp.files_demanded t.here.session) t a (reductions t) w))
