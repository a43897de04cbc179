-- The operations of a client that asked before: none asks again, and each that is answered was told so under its own key.
use Rattle.st_lemmas.proofs.Words
use Words.{◌≡◌, ℕ, ◌⊎◌, Bool, true, false, not, ◌&&◌, List, [], ◌∷◌, ◌++◌, Option, Some, None, refl, sym, ap, ◌∙◌, subst, inl, inr, if◌then◌else◌, append_assoc}
use Words.{filter, map, eqb-true, eq-eqb, Tag, FileId, GrantNo, PageNo, ServerId, Stamp, Mode, AppAnswer, Ask, Body, Header, Why, Note, Output, Operation}
use Words.{PageCommand, Request, Stage}
use Words.commands
use Words.answers
use Words.why
use Words.outputs
use Words.io
use Words.Dating.{may_date, refuses_client}
use Words.Client as cl
use Words.ClientLocks as locks
use Words.ClientPages as pages
use Words.ClientPasses as cp
use Words.ClientReplies as cr
use Words.ClientState as cs
use Words.ClientState.{ClientSession, Turn, answer_to, server_of, say, with_session, with_store, with_operations}
use Words.Lists.{Has}
use Words.Tables.{and_both, and_true, has_append, has_filter, has_map, not_true}
use Words.stages
use Words.Keys.{server_node}
use Words.Members.{has_left, has_middle, has_right}
use Words.Truth.{clash}
use Rattle.st_laws_requests.proofs.Cuts.Keeping.{Answers, asked_of, no_acquire, no_map, no_reassert}
use Rattle.st_laws_names.proofs.Frames.{IsKeptRefusal, Own, has_none, other, view}
use Rattle.st_trace.specs.Client.Commands as ending
use Rattle.st_trace.specs.Client.Commands.{Finishes, Takes}
use Rattle.st_trace.specs.Client.Losses as losing
use Rattle.st_trace.specs.Client.Losses.{Loses}
use Rattle.st_trace.specs.Client.Messages as trace
use Rattle.st_trace.specs.Client.Messages.{Effect, Grants, Receives, Refusal, Renews, Replied}
use Rattle.st_trace.specs.Client.Operations as pass
use Rattle.st_trace.specs.Client.Operations.{Changed, Operated}
use Rattle.st_trace.specs.Client.Passes.{Reduced, StaysHeld, IsReduced, WritesOut, StaysDirty, IsWritten, places_of}
use Rattle.st_trace.specs.Client.Requests as asking
use Rattle.st_trace.specs.Client.Requests.{AsksFirst, Greets}
use Rattle.st_trace.proofs.Client.Finishing.{at_server, finishes, takes}
use Rattle.st_trace.proofs.Client.Losing.{loses}
use Rattle.st_trace.proofs.Client.Receiving.{receives}
use Rattle.st_trace.proofs.Client.Walk.{each_lasts, passes}
use Rattle.st_laws_requests.specs.Replies.ServedRequests.{KeptWhy}

-- a refusal by which a lease may be dated is kept
kept_why : (w : Why) → not (refuses_client w) ≡ true → KeptWhy w
kept_why why.NoFile k = tt
kept_why why.TooManyLocks k = tt
kept_why why.NoSpace k = tt
kept_why why.NotHolder k = tt
kept_why w k = cc

module _ (S : ℕ → Type 0) (Key : ServerId → ℕ → ℕ → ℕ → ℕ → Type 0) (Ended : ℕ → AppAnswer → Type 0) (Refused : ℕ → Type 0)
    (open_ : (op n m : ℕ) → Ended op (answers.Uncertain n m)) (gone_ : (op : ℕ) (a : AppAnswer) → Refused op → Ended op a) where
  -- the outstanding request cuts or is for a name, under the key of an operation
  abbrev pub AtRequest : ServerId → ℕ → ℕ → Option Request → ℕ → Type 0
  AtRequest s life epoch None op = ⊥
  AtRequest s life epoch (Some q) op = (cs.asks_cut_or_name q.body ≡ true) × Key s life epoch q.number op

  -- in a session
  abbrev pub Under : ServerId → ℕ → Option (ℕ × Option Request) → ℕ → Type 0
  Under s life None op = ⊥
  Under s life (Some v) op = AtRequest s life v.0 v.1 op

  -- an operation that asked is not unsent, and is stuck if it was refused
  abbrev pub AtStage : Stage → ℕ → Type 0
  AtStage stages.Unsent op = ⊥
  AtStage stages.Sent op = Unit {0}
  AtStage stages.Stuck op = Refused op

  -- what holds of an operation, within a rule at a server
  pub record Fine (sv : ServerId) (B : List Operation) (o : Operation) : Type 0 where
    pub others : cs.is_of sv o ≡ false → Has o B
    pub kind : S o.op → Own o.ask
    pub state : S o.op → cs.is_of sv o ≡ true → AtStage o.stage o.op

  sent_of : (g : Stage) (op : ℕ) → AtStage g op → cs.is_sent_at g ≡ true
  sent_of stages.Unsent op h = absurd h
  sent_of stages.Sent op h = refl
  sent_of stages.Stuck op h = refl

  module _ (s : ServerId) (B : List Operation) where
    -- of all operations, and of what is answered
    pub record Base (sv : ServerId) (ops : List Operation) (out : List Output) : Type 0 where
      pub server : sv ≡ s
      pub fine : (o : Operation) → Has o ops → Fine sv B o
      pub said : (op : ℕ) (a : AppAnswer) → Has (outputs.Answer op a) out → S op → Ended op a

    -- and of those that wait
    pub record Whole (sv : ServerId) (life : ℕ) (v : Option (ℕ × Option Request)) (ops : List Operation) (out : List Output) : Type 0 where
      pub base : Base sv ops out
      pub asked : (o : Operation) → Has o ops → S o.op → cs.is_asked sv o ≡ true → Under sv life v o.op

    abbrev C : Turn → Type 0
    C t = Base t.here.server t.operations t.out

    abbrev pub W : Turn → Type 0
    W t = Whole t.here.server t.here.life.0 (view t.here.session) t.operations t.out

    -- of a turn, were its session this one
    abbrev WIn : Turn → ClientSession → Type 0
    WIn t x = Whole t.here.server t.here.life.0 (view (Some x)) t.operations t.out

    -- nobody waits
    abbrev Free : ServerId → List Operation → Type 0
    Free sv ops = (o : Operation) → Has o ops → S o.op → cs.is_asked sv o ≡ true → ⊥

    into : (t : Turn) (x : ClientSession) → t.here.session ≡ Some x → W t → WIn t x
    into t x e w = subst (λ o. Whole t.here.server t.here.life.0 (view o) t.operations t.out) e w

    free_all : (sv : ServerId) (life : ℕ) (v : Option (ℕ × Option Request)) (ops : List Operation) (out : List Output) → Free sv ops → Base sv ops out →
        Whole sv life v ops out
    free_all sv life v ops out f b = record { base = b; asked = λ o h z e. absurd (f o h z e) }

    -- fewer operations
    base_after_fewer : (sv : ServerId) (ops qs : List Operation) (out : List Output) → ((o : Operation) → Has o qs → Has o ops) → Base sv ops out →
        Base sv qs out
    base_after_fewer sv ops qs out f b = record { server = b.server; fine = λ o h. b.fine o (f o h); said = b.said }

    whole_after_fewer : (sv : ServerId) (life : ℕ) (v : Option (ℕ × Option Request)) (ops qs : List Operation) (out : List Output) →
        ((o : Operation) → Has o qs → Has o ops) → Whole sv life v ops out → Whole sv life v qs out
    whole_after_fewer sv life v ops qs out f w = record { base = base_after_fewer sv ops qs out f w.base; asked = λ o h. w.asked o (f o h) }

    -- more outputs
    abbrev Okay : Output → Type 0
    Okay (outputs.Answer op a) = S op → Ended op a
    Okay o = Unit {0}

    base_after_longer_list : (sv : ServerId) (ops : List Operation) (out os : List Output) → ((x : Output) → Has x os → Okay x) → Base sv ops out →
        Base sv ops (out ++ os)
    base_after_longer_list sv ops out os k b =
        record { server = b.server; fine = b.fine; said = λ op a h. says op a (has_append out os (outputs.Answer op a) h) }
      where
        says : (op : ℕ) (a : AppAnswer) → Has (outputs.Answer op a) out ⊎ Has (outputs.Answer op a) os → S op → Ended op a
        says op a (inl h) = b.said op a h
        says op a (inr h) = k (outputs.Answer op a) h

    base_after_say : (sv : ServerId) (ops : List Operation) (out : List Output) (o : Output) → Okay o → Base sv ops out → Base sv ops (out ++ o ∷ [])
    base_after_say sv ops out o k b = base_after_longer_list sv ops out (o ∷ []) one b
      where
        one : (x : Output) → Has x (o ∷ []) → Okay x
        one x (inl e) = subst Okay (sym e) k
        one x (inr i) = absurd i

    whole_after_say : (t : Turn) (o : Output) → Okay o → W t → W (say t o)
    whole_after_say t o k w = record { base = base_after_say t.here.server t.operations t.out o k w.base; asked = w.asked }

    -- operations are answered
    base_after_answers : (t : Turn) (picked : Operation → Bool) (a : AppAnswer) →
        ((o : Operation) → Has o t.operations → S o.op → picked o ≡ true → Ended o.op a) →
        C t → C (cs.answer_each picked a t)
    unfolding cs.answer_each
    base_after_answers t picked a k b = base_after_longer_list t.here.server _ t.out _ okay
        (base_after_fewer t.here.server t.operations _ t.out (λ o h. (has_filter _ t.operations o h).0) b)
      where
        okay : (x : Output) → Has x (map (answer_to a) (filter picked t.operations)) → Okay x
        okay x h =
            let z = has_map (answer_to a) (filter picked t.operations) x h in
            let y = has_filter picked t.operations z.0 z.1 in
            subst Okay (sym z.2) (λ q. k z.0 y.0 q y.1)

    whole_after_answers : (t : Turn) (picked : Operation → Bool) (a : AppAnswer) →
        ((o : Operation) → Has o t.operations → S o.op → picked o ≡ true → Ended o.op a) →
        W t → W (cs.answer_each picked a t)
    unfolding cs.answer_each
    whole_after_answers t picked a k w = record { base = base_after_answers t picked a k w.base; asked = λ o h. w.asked o (has_filter _ t.operations o h).0 }

    -- the operations that wait are answered, and nobody waits
    freed : (t : Turn) (a : AppAnswer) → Free t.here.server (cs.answer_each (cs.is_asked t.here.server) a t).operations
    unfolding cs.answer_each
    freed t a o h z e = clash e (not_true _ (has_filter (λ o. not (cs.is_asked t.here.server o)) t.operations o h).1)

    -- Sessions that go on.
    whole_after_view : (t : Turn) (x y : ClientSession) → view (Some y) ≡ view (Some x) → WIn t x → WIn t y
    whole_after_view t x y e w = subst (λ v. Whole t.here.server t.here.life.0 v t.operations t.out) (sym e) w

    granted_view : (x : ClientSession) (ino : ℕ) (g : GrantNo) (mode : Mode) (v : ClientSession) → Grants (cs.forget_wait ino x) ino g mode v → view
        (Some v) ≡ view (Some x)
    granted_view x ino g mode _ (trace.Installs a p) = refl
    granted_view x ino g mode _ (trace.Declines a p) = refl
    granted_view x ino g mode _ (trace.IsOld a) = refl

    -- Requests.
    whole_after_ask : (t : Turn) (x : ClientSession) (now : Stamp) (body : Body) (cutting : Option ℕ) → Free t.here.server t.operations → C t → W
        (asking.asked t x now body cutting)
    unfolding cs.send cs.asking
    whole_after_ask t x now body cutting f b = whole_after_say (with_session (cp.asking_session x now body cutting) t) _ tt
        (free_all _ _ _ t.operations t.out f b)

    none_waits : (t : Turn) (x : ClientSession) → x.requests.asked ≡ None → WIn t x → Free t.here.server t.operations
    none_waits t x e w o h z a = subst (λ q. AtRequest t.here.server t.here.life.0 x.epoch.0 q o.op) e (w.asked o h z a)

    -- the operations once the first of them asks: an operation that asked before does not ask again
    record AskingOk (sv : ServerId) (qs : List Operation) : Type 0 where
      pub fine : (o : Operation) → Has o qs → Fine sv B o
      pub free : Free sv qs

    asking_is : (t : Turn) (x : ClientSession) (now : Stamp) (xs : List Operation) (o : Operation) (ys os : List Operation) (w : cp.Wanted) →
        AsksFirst t x now xs o ys w os →
        ((p : Operation) → Has p os → Fine t.here.server B p) → Free t.here.server os → AskingOk t.here.server (xs ++ cp.sent_if w.own o ∷ ys)
    asking_is t x now xs o ys os w k f g = record {
      fine = λ p h. fine p (has_append xs (cp.sent_if w.own o ∷ ys) p h);
      free = λ p h. free p
          (has_append xs (cp.sent_if w.own o ∷ ys) p h);
    }
      where
        sv : ServerId
        sv = t.here.server

        there : (p : Operation) → Has p (xs ++ o ∷ ys) → Has p os
        there p h = subst (Has p) (sym k.there) h

        own : cs.is_of sv o ≡ true
        own = (and_true (cs.is_of sv o) _ k.may).0

        unsent : cs.is_sent o ≡ false
        unsent = not_true _ (and_true (not (cs.is_sent o)) _ (and_true (cs.is_of sv o) _ k.may).1).0

        new : S o.op → ⊥
        new z = clash (sent_of o.stage o.op ((f o (there o (has_right xs (o ∷ ys) o (inl refl)))).state z own)) unsent

        new_it : (b : Bool) → S (cp.sent_if b o).op → ⊥
        new_it true z = new z
        new_it false z = new z

        of_it : (b : Bool) → cs.is_of sv (cp.sent_if b o) ≡ true
        of_it true = own
        of_it false = own

        it : (b : Bool) → Fine sv B (cp.sent_if b o)
        it b = record { others = λ q. clash (of_it b) q; kind = λ z. absurd (new_it b z); state = λ z q. absurd (new_it b z) }

        fine : (p : Operation) → Has p xs ⊎ Has p (cp.sent_if w.own o ∷ ys) → Fine sv B p
        fine p (inl h) = f p (there p (has_left xs (o ∷ ys) p h))
        fine p (inr (inl q)) = subst (Fine sv B) (sym q) (it w.own)
        fine p (inr (inr h)) = f p (there p (has_right xs (o ∷ ys) p (inr h)))

        free : (p : Operation) → Has p xs ⊎ Has p (cp.sent_if w.own o ∷ ys) → S p.op → cs.is_asked sv p ≡ true → ⊥
        free p (inl h) z r = g p (there p (has_left xs (o ∷ ys) p h)) z r
        free p (inr (inl q)) z r = new_it w.own (subst (λ (r : Operation). S r.op) q z)
        free p (inr (inr h)) z r = g p (there p (has_right xs (o ∷ ys) p (inr h))) z r

    whole_after_plain_ask : (t : Turn) (x : ClientSession) (now : Stamp) (body : Body) → x.requests.asked ≡ None → WIn t x → W (asking.asked t x now body None)
    whole_after_plain_ask t x now body e w = whole_after_ask t x now body None (none_waits t x e w) w.base

    whole_after_requested : (now : Stamp) (tick : Bool) (t u : Turn) → asking.Requests now tick t u → W t → W u
    unfolding cs.send
    whole_after_requested now tick t _ asking.AsksNothing w = w
    whole_after_requested now tick t _ (asking.AsksAgain x q e c n o) w =
        let v = into t x e w in
        whole_after_say (with_session (cp.again_session x now q) t) _ tt
        (record { base = v.base; asked = λ o h z a. subst (λ r. AtRequest t.here.server t.here.life.0 x.epoch.0 r o.op) n (v.asked o h z a) })
    whole_after_requested now tick t _ (asking.Reasserts x m d) w = whole_after_plain_ask t x now _ m.none (into t x m.session w)
    whole_after_requested now tick t _ (asking.Releases x r rs m d e) w =
        whole_after_plain_ask t (record x { releases = rs }) now _ m.none (into t x m.session w)
    whole_after_requested now tick t _ (asking.AsksFor x xs o ys a f e i) w =
        let v = into t x f.may.session w in
        let k = asking_is t x now xs o ys t.operations a i v.base.fine (none_waits t x f.may.none v) in
        whole_after_ask (with_store (cp.cut_store a.cut t.here.store) (with_operations (xs ++ cp.sent_if a.own o ∷ ys) t)) x now a.body (cp.file_cut a.cut)
        k.free
        (record { server = v.base.server; fine = k.fine; said = v.base.said })
    whole_after_requested now tick t _ (asking.KeepsAlive x f e) w = whole_after_plain_ask t x now _ f.may.none (into t x f.may.session w)

    -- Replies.
    module _ (now : Stamp) (h : Header) (m : Body)
        (told : (sv : ServerId) (op : ℕ) (a : AppAnswer) → h.from ≡ server_node sv → Key sv h.life h.epoch h.number op → Answers m a → Ended op a)
        (refuses : (sv : ServerId) (op : ℕ) → h.from ≡ server_node sv → Key sv h.life h.epoch h.number op → IsKeptRefusal m → Refused op) where
      -- the request has ended, and who waited for it is yet to be answered
      record Mid (sv : ServerId) (ops : List Operation) (out : List Output) : Type 0 where
        pub base : Base sv ops out
        pub meant : (o : Operation) → Has o ops → S o.op → cs.is_asked sv o ≡ true → Key sv h.life h.epoch h.number o.op

      abbrev MM : Turn → Type 0
      MM t = Mid t.here.server t.operations t.out

      -- an operation of this server that asked was refused
      refused_all : (t : Turn) → h.from ≡ server_node t.here.server → IsKeptRefusal m → MM t → (o : Operation) → Has o t.operations → S o.op →
          cs.is_of t.here.server o ≡ true → Refused o.op
      refused_all t from n w o i z of = go o.stage refl ((w.base.fine o i).state z of)
        where
          go : (g : Stage) → o.stage ≡ g → AtStage g o.op → Refused o.op
          go stages.Unsent e k = absurd k
          go stages.Sent e k = refuses t.here.server o.op from (w.meant o i z (and_both (cs.is_of t.here.server o) _ of (ap cs.is_asked_at e))) n
          go stages.Stuck e k = k

      whole_after_told : (t : Turn) (a : AppAnswer) → h.from ≡ server_node t.here.server → Answers m a → MM t →
          W (cs.answer_each (cs.is_asked t.here.server) a t)
      unfolding cs.answer_each
      whole_after_told t a from its w = free_all _ _ _ _ _ (freed t a) (base_after_answers t (cs.is_asked t.here.server) a
          (λ o i z p. told t.here.server o.op a from (w.meant o i z p) its) w.base)

      -- refusals
      both_after_answers : (t : Turn) (picked : Operation → Bool) (a : AppAnswer) →
          ((o : Operation) → Has o t.operations → S o.op → picked o ≡ true → Ended o.op a) →
          MM t → MM (cs.answer_each picked a t)
      unfolding cs.answer_each
      both_after_answers t picked a k w = record { base = base_after_answers t picked a k w.base; meant = λ o i. w.meant o (has_filter _ t.operations o i).0 }

      both_after_refused : (t : Turn) (y : Why) (a b : ℕ) (file : Option ℕ) (asked : Body) (u : Turn) → h.from ≡ server_node t.here.server → IsKeptRefusal m →
          Refusal t file asked y a b u → MM t → MM u × (u.here.server ≡ t.here.server)
      unfolding cs.answer_each
      both_after_refused t _ a b file asked _ from n (trace.NoFile _ _ ino e) w = (
        both_after_answers t _ answers.NoFile (λ o i z p. gone_ o.op answers.NoFile
            (refused_all t from n w o i z (and_true (cs.is_of t.here.server o) _ (and_true (cs.is_on t.here.server ino o) _ p).0).0)) w,
        refl,
      )
      both_after_refused t _ a b file asked _ from n (trace.TooManyLocks _ _ ino e) w = (
        both_after_answers t _ answers.TooManyLocks (λ o i z p. gone_ o.op answers.TooManyLocks
            (refused_all t from n w o i z (and_true (cs.is_of t.here.server o) _ (and_true (cs.is_on t.here.server ino o) _ p).0).0)) w,
        refl,
      )
      both_after_refused t _ a b file asked _ from n (trace.NoSpace _ _ ino p e q) w = (
        both_after_answers t _ (answers.NoSpace a b) (λ o i z q. other (cs.changes_page t.here.server ino p) (λ f r. refl) (λ sv k. refl) o.ask
            ((w.base.fine o i).kind z) q) w,
        refl,
      )
      both_after_refused t _ a b file asked _ from n (trace.NotHolder _ _ e) w = (
        both_after_answers t _ answers.NotHolder (λ o i z q. gone_ o.op answers.NotHolder (refused_all t from n w o i z (asked_of t.here.server o q).0)) w,
        refl,
      )
      both_after_refused t y a b file asked _ from n (trace.AnswersNone _ _ _) w = (w, refl)

      whole_after_stuck : (t : Turn) → h.from ≡ server_node t.here.server → IsKeptRefusal m → MM t → W (trace.left_stuck t)
      whole_after_stuck t from n w = record {
        base = record { server = w.base.server; fine = λ o i. fine o (has_map (cr.stuck t) t.operations o i); said = w.base.said };
        asked = λ o i z e. absurd (free o (has_map (cr.stuck t) t.operations o i) e);
      }
        where
          stays : (a : Bool) → (a && false) ≡ true → ⊥
          stays true e = cc
          stays false e = cc

          From : Operation → Type 0
          From o = (p : Operation) × Has p t.operations × (o ≡ cr.stuck t p)

          fine_of : (p : Operation) → Has p t.operations → (b : Bool) → cs.is_asked t.here.server p ≡ b → Fine t.here.server B
              (if b then cs.at_stage stages.Stuck p else p)
          fine_of p i true e = record {
            others = λ f. clash (asked_of t.here.server p e).0 f;
            kind = (w.base.fine p i).kind;
            state = λ z of. refused_all t from n w p i z of;
          }
          fine_of p i false e = w.base.fine p i

          fine : (o : Operation) → From o → Fine t.here.server B o
          fine o (p, i, e) = subst (Fine t.here.server B) (sym e) (fine_of p i (cs.is_asked t.here.server p) refl)

          free_of : (p : Operation) (b : Bool) → cs.is_asked t.here.server p ≡ b → cs.is_asked t.here.server
              (if b then cs.at_stage stages.Stuck p else p) ≡ true → ⊥
          free_of p true e q = stays (cs.is_of t.here.server p) q
          free_of p false e q = clash q e

          free : (o : Operation) → From o → cs.is_asked t.here.server o ≡ true → ⊥
          free o (p, i, e) q = free_of p (cs.is_asked t.here.server p) refl (subst (λ r. cs.is_asked t.here.server r ≡ true) e q)

      -- what a reply does, besides ending the request
      whole_after_effect : (t : Turn) (y : ClientSession) (q : Request) (file : Option ℕ) (b : Body) (u : Turn) → m ≡ b → h.from ≡ server_node t.here.server →
          MM t →
          ((cs.asks_cut_or_name q.body ≡ true → ⊥) → Free t.here.server t.operations) → cs.fits b q.body ≡ true → may_date h.number b ≡ true →
          Effect now t y file q.body b u → W u
      unfolding cs.answer_each
      whole_after_effect t y q file _ _ e from w f fit kept (trace.IsGranted ino g mode v k) =
          free_all _ _ _ t.operations t.out (f (no_acquire ino q.body fit)) w.base
      whole_after_effect t y q file _ _ e from w f fit kept (trace.IsQueued ino mode c) =
          free_all _ _ _ t.operations t.out (f (no_acquire ino q.body fit)) w.base
      whole_after_effect t y q file _ _ e from w f fit kept (trace.HoldsAlready ino mode c) =
          free_all _ _ _ t.operations t.out (f (no_acquire ino q.body fit)) w.base
      whole_after_effect t y q file _ _ e from w f fit kept (trace.IsToldExtents ino rows c) =
          free_all _ _ _ t.operations t.out (f (no_map ino q.body fit)) w.base
      whole_after_effect t y q file _ _ e from w f fit kept (trace.IsToldLate ino rows c) = free_all _ _ _ t.operations t.out (f (no_map ino q.body fit)) w.base
      whole_after_effect t y q file _ _ e from w f fit kept trace.IsAcknowledged =
          whole_after_told t answers.Cut from (subst (λ b. Answers b answers.Cut) (sym e) refl) w
      whole_after_effect t y q file _ _ e from w f fit kept (trace.IsNamed r k) = whole_after_told t (cr.name_answer r) from
          (subst (λ b. Answers b (cr.name_answer r)) (sym e) refl) w
      whole_after_effect t y q file _ _ e from w f fit kept (trace.IsRemoved ino removed l i k) =
          let v = whole_after_told t (answers.Named ino) from (subst (λ b. Answers b (answers.Named ino)) (sym e) refl) w in
          free_all _ _ _ _ _ (freed t (answers.Named ino)) v.base
      whole_after_effect t y q file _ _ e from w f fit kept trace.IsReasserted = free_all _ _ _ t.operations t.out (f (no_reassert q.body fit)) w.base
      whole_after_effect t y q file _ _ e from w f fit kept (trace.Effect.IsRefused z a b u r) =
          let n = subst IsKeptRefusal (sym e) (kept_why z kept) in
          let v = both_after_refused t z a b file q.body u from n r w in whole_after_stuck u (subst (λ s. h.from ≡ server_node s) (sym v.1) from) n v.0

      -- a note of a lease that was renewed
      noted : (t : Turn) (x : ClientSession) (stamp : Stamp) (u : Turn) → Renews t x stamp u → MM t → MM u × (u.here.server ≡ t.here.server) ×
          (u.operations ≡ t.operations)
      noted t x stamp _ (trace.IsLater e) w = (record { base = base_after_say t.here.server t.operations t.out _ tt w.base; meant = w.meant }, refl, refl)
      noted t x stamp _ (trace.IsNoLater e) w = (w, refl, refl)

      whole_after_answered : (t v u : Turn) (x : ClientSession) (q : Request) → Replied now h m t x q → Renews t x (trace.stamp_of h) v →
          Effect now (with_session (cr.ended_by (trace.stamp_of h) x) v) (cr.ended_by (trace.stamp_of h) x) (cs.file_asked x.cutting q.body) q.body m u → W t →
          W u
      whole_after_answered t v u x q r n f w =
          let k = noted t x (trace.stamp_of h) v n (record { base = w.base; meant = meant }) in
          whole_after_effect (with_session (cr.ended_by (trace.stamp_of h) x) v) (cr.ended_by (trace.stamp_of h) x) q (cs.file_asked x.cutting q.body) m u refl
          (subst (λ z. h.from ≡ server_node z) (sym k.1) r.heard.received.from) k.0
          (λ no. subst (λ z. Free z v.operations) (sym k.1) (subst (Free t.here.server) (sym k.2) (λ o i z a. no (at o i z a).0))) r.fits r.dates f
        where
          at : (o : Operation) → Has o t.operations → S o.op → cs.is_asked t.here.server o ≡ true → AtRequest t.here.server t.here.life.0 x.epoch.0
              (Some q) o.op
          at o i z a = subst (λ p. AtRequest t.here.server t.here.life.0 x.epoch.0 p o.op) r.asked ((into t x r.heard.session w).asked o i z a)

          meant : (o : Operation) → Has o t.operations → S o.op → cs.is_asked t.here.server o ≡ true → Key t.here.server h.life h.epoch h.number o.op
          meant o i z a =
              subst (λ n. Key t.here.server n h.epoch h.number o.op) (sym r.heard.received.life)
              (subst (λ n. Key t.here.server t.here.life.0 n h.number o.op) (sym r.heard.epoch)
              (subst (λ n. Key t.here.server t.here.life.0 x.epoch.0 n o.op) r.number (at o i z a).1))

      whole_after_heard : (t : Turn) (b : Body) (u : Turn) → m ≡ b → Receives now h t b u → W t → W u
      unfolding cs.send cs.answer_each
      whole_after_heard t _ _ e (trace.PassesOver b) w = w
      whole_after_heard t _ _ e (trace.Begins r n i) w = whole_after_say (cr.begin_here (cr.new_session (trace.epoch_of h) (trace.stamp_of h)) t) _ tt
          (free_all _ _ _ t.operations t.out free w.base)
        where
          free : Free t.here.server t.operations
          free o i z a = (subst (λ o. Whole t.here.server t.here.life.0 (view o) t.operations t.out) n w).asked o i z a
      whole_after_heard t _ _ e (trace.FollowsEpoch x a b k i) w =
          let y = with_session (cr.in_epoch (trace.epoch_of h) x) t in
          free_all _ _ _ _ _ (freed y (answers.Uncertain x.epoch.0 h.epoch))
          (base_after_answers y (cs.is_asked t.here.server) (answers.Uncertain x.epoch.0 h.epoch) (λ o h2 z p. open_ o.op x.epoch.0 h.epoch) w.base)
      whole_after_heard t _ _ e (trace.IsCondemned b x k c) w = into t x k.session w
      whole_after_heard t _ _ e (trace.IsGrantedLater ino g mode x v k i j) w = whole_after_view t x v (granted_view x ino g mode v j) (into t x k.session w)
      whole_after_heard t _ _ e (trace.SeesDemand ino g to x k i) w =
          whole_after_say (with_session (cs.with_cache (locks.demand x.locks ino g to).locks x) t) _ tt
          (into t x k.session w)
      whole_after_heard t _ _ e (trace.GivesUp ino g to x k i j) w = into t x k.session w
      whole_after_heard t _ _ e (trace.HasGivenUp ino g to x k i j) w = into t x k.session w
      whole_after_heard t _ u e (trace.IsAnswered b x q v _ r n f) w =
          whole_after_answered t v u x q (subst (λ b. Replied now h b t x q) (sym e) r) n
          (subst (λ b. Effect now (with_session (cr.ended_by (trace.stamp_of h) x) v) (cr.ended_by (trace.stamp_of h) x)
          (cs.file_asked x.cutting q.body) q.body b u) (sym e) f) w

      pub whole_after_receive : (t : Turn) → W t → W (cr.receive_at now h m t)
      whole_after_receive t w = whole_after_heard t m (cr.receive_at now h m t) refl (receives now h t m) w

    -- Losses: the operations of the server are answered, and the next life begins.
    abbrev Said : List Output → Type 0
    Said out = (op : ℕ) (a : AppAnswer) → Has (outputs.Answer op a) out → S op → Ended op a

    says_more : (out : List Output) (op : ℕ) (a : AppAnswer) → (S op → Ended op a) → Said out → Said (out ++ outputs.Answer op a ∷ [])
    says_more out op a k f n b h = go (has_append out (outputs.Answer op a ∷ []) (outputs.Answer n b) h)
      where
        same : outputs.Answer n b ≡ outputs.Answer op a → (n ≡ op) × (b ≡ a)
        same e = (cc e, cc e)

        go : Has (outputs.Answer n b) out ⊎ Has (outputs.Answer n b) (outputs.Answer op a ∷ []) → S n → Ended n b
        go (inl i) z = f n b i z
        go (inr (inl e)) z = let q = same e in subst (λ x. Ended n x) (sym q.1) (subst (λ x. Ended x a) (sym q.0) (k (subst S q.0 z)))
        go (inr (inr i)) z = absurd i

    -- what stays pending is of other servers
    record Losing (sv : ServerId) (all : List Operation) (t : Turn) : Type 0 where
      pub server_ : t.here.server ≡ sv
      pub said : Said t.out
      pub away : (o : Operation) → Has o t.operations → Has o all × (cs.is_of sv o ≡ false)

    ended : (sv : ServerId) (all : List Operation) (x : ClientSession) (o : Operation) (t u : Turn) → losing.Ended x o t u → Has o all →
        (S o.op → cs.is_of sv o ≡ true → cs.is_sent o ≡ true) → Losing sv all t → Losing sv all u
    ended sv all x o t _ (losing.IsElsewhere e) h k w = record {
      server_ = w.server_;
      said = w.said;
      away = λ p i. away p
          (has_append t.operations (o ∷ []) p i);
    }
      where
        away : (p : Operation) → Has p t.operations ⊎ Has p (o ∷ []) → Has p all × (cs.is_of sv p ≡ false)
        away p (inl i) = w.away p i
        away p (inr (inl q)) = (subst (λ z. Has z all) (sym q) h, subst (λ z. cs.is_of sv z ≡ false) (sym q) (subst (λ z. cs.is_of z o ≡ false) w.server_ e))
        away p (inr (inr i)) = absurd i
    ended sv all x o t _ (losing.IsUncertain own e) h k w = record {
      server_ = w.server_;
      said = says_more t.out o.op (answers.Uncertain x.epoch.0 0)
          (λ z. open_ o.op x.epoch.0 0) w.said;
      away = w.away;
    }
    ended sv all x o t _ (losing.IsToldLost f own e q l) h k w = record {
      server_ = w.server_;
      said = says_more t.out o.op _
          (λ z. clash (k z (subst (λ y. cs.is_of y o ≡ true) w.server_ own)) e) w.said;
      away = w.away;
    }
    ended sv all x o t _ (losing.LostNothing f own e q l) h k w = record {
      server_ = w.server_;
      said = says_more t.out o.op _
          (λ z. clash (k z (subst (λ y. cs.is_of y o ≡ true) w.server_ own)) e) w.said;
      away = w.away;
    }
    ended sv all x o t _ (losing.IsQuiesced own e n) h k w = record {
      server_ = w.server_;
      said = says_more t.out o.op _
          (λ z. clash (k z (subst (λ y. cs.is_of y o ≡ true) w.server_ own)) e) w.said;
      away = w.away;
    }

    pub whole_after_lose : (now : Stamp) (t : Turn) → W t → W (cl.lose now t)
    whole_after_lose now t w = go (cl.lose now t) (loses now t)
      where
        sent : (o : Operation) → Has o t.operations → S o.op → cs.is_of t.here.server o ≡ true → cs.is_sent o ≡ true
        sent o h z own = sent_of o.stage o.op ((w.base.fine o h).state z own)

        lost : (u : Turn) → Losing t.here.server t.operations u → W (cl.empty_here u)
        lost u r = record {
          base = record { server = r.server_ ∙ w.base.server; fine = fine; said = r.said };
          asked = λ o h z a. absurd
              (gone o h (asked_of u.here.server o a).0);
        }
          where
            gone : (o : Operation) → Has o u.operations → cs.is_of u.here.server o ≡ true → ⊥
            gone o h e = clash (subst (λ z. cs.is_of z o ≡ true) r.server_ e) (r.away o h).1

            fine : (o : Operation) → Has o u.operations → Fine u.here.server B o
            fine o h = let y = w.base.fine o (r.away o h).0 in record {
              others = λ e. y.others (r.away o h).1;
              kind = y.kind;
              state = λ z of. absurd
                  (gone o h of);
            }

        go : (u : Turn) → Loses now t u → W u
        go _ (losing.HasNoSession e) = w
        go _ (losing.Lasts x e o) = w
        go _ (losing.IsLost x u e o p) =
            let z = each_lasts (losing.Ended x) (λ os v. ((o : Operation) → Has o os → Has o t.operations) × Losing t.here.server t.operations v)
            (λ o os v u step y. (
              λ p h. y.0 p (inr h),
              ended t.here.server t.operations x o v u step (y.0 o (inl refl))
                  (sent o (y.0 o (inl refl))) y.1,
            )) t.operations (with_operations [] (losing.loss_noted t)) u p
            (λ o h. h, record { server_ = refl; said = (base_after_say t.here.server t.operations t.out _ tt w.base).said; away = λ o h. absurd h }) in
            lost u z.1

    -- Ends of commands.
    pub whole_after_finish : (number : ℕ) (r : Option (Option (Tag × List ℕ))) (t : Turn) → W t → W (cl.finish number r t)
    whole_after_finish number r t w = go (cl.finish number r t) (finishes number r t)
      where
        syncs : (x : PageCommand) (u : Turn) → W u → W (cs.answer_each (cl.waits_for_write t x) (answers.DiskFault x.number) u)
        syncs x u k = whole_after_answers u _ _ (λ o i z p. other cs.is_sync (λ f q. refl) (λ sv n. refl) o.ask ((k.base.fine o i).kind z)
            (and_true (cs.is_on t.here.server x.ino o) _ p).1) k

        go : (u : Turn) → Finishes number r t u → W u
        go _ (ending.IsUnknown e) = w
        go _ (ending.IsOfOtherKind x block o e k) = w
        go _ (ending.Fills x block o k e) = w
        go _ (ending.Hardens x v o k e i) = w
        go _ (ending.WroteOlder x v o k e i) = w
        go _ (ending.FailsToRead x o k e) = whole_after_answers (ending.without x t) _ _
            (λ o i z p. other (cs.reads_page t.here.server x.ino x.page) (λ f q. refl) (λ sv n. refl) o.ask ((w.base.fine o i).kind z) p) w
        go _ (ending.FailsToWrite x v o k e i) = syncs x (ending.with_pages (pages.fail t.here.store.pages x.ino x.page x.number) (ending.without x t)) w
        go _ (ending.FailsToWriteOlder x v o k e i) = syncs x (ending.without x t) w

    -- The pass over the operations: those that were not yet looked at come after those that stay.
    abbrev R : List Operation → Turn → Type 0
    R os t = Whole t.here.server t.here.life.0 (view t.here.session) (t.operations ++ os) t.out

    rest_after_keeping : (os : List Operation) (o : Operation) (t : Turn) → R (o ∷ os) t → R os (cs.keep o t)
    rest_after_keeping os o t r = subst (λ x. Whole t.here.server t.here.life.0 (view t.here.session) x t.out) (sym (append_assoc t.operations (o ∷ []) os)) r

    rest_after_answer : (os : List Operation) (o : Operation) (a : AppAnswer) (t : Turn) → (S o.op → ⊥) → R (o ∷ os) t → R os (cp.answer o a t)
    rest_after_answer os o a t n r =
        let z = whole_after_fewer t.here.server t.here.life.0 (view t.here.session) (t.operations ++ o ∷ os) (t.operations ++ os) t.out
        (λ x h. has_middle o x t.operations os h) r in
        record { base = base_after_say t.here.server (t.operations ++ os) t.out (outputs.Answer o.op a) (λ q. absurd (n q)) z.base; asked = z.asked }

    rest_after_say : (os : List Operation) (t : Turn) (o : Output) → Okay o → R os t → R os (say t o)
    rest_after_say os t o k r = record { base = base_after_say t.here.server (t.operations ++ os) t.out o k r.base; asked = r.asked }

    rest_after_fine : (os : List Operation) (t : Turn) (o : Operation) → R (o ∷ os) t → Fine t.here.server B o
    rest_after_fine os t o r = r.base.fine o (has_right t.operations (o ∷ os) o (inl refl))

    -- an operation that is served is neither a cut nor for a name
    rest_after_nothing : (os : List Operation) (t : Turn) (o : Operation) (a : Ask) → o.ask ≡ a → cs.is_cut_or_name a ≡ false → R (o ∷ os) t → S o.op → ⊥
    rest_after_nothing os t o a e f r z = clash (subst Own e ((rest_after_fine os t o r).kind z)) f

    rest_after_changed : (os : List Operation) (t : Turn) (o : Operation) (f : FileId) (p : PageNo) (bytes : List ℕ) (n : Note) → Changed o.ask t f p bytes n →
        R
        (o ∷ os) t → S o.op → ⊥
    rest_after_changed os t o _ _ _ _ (pass.IsWritten f p bytes e) r = rest_after_nothing os t o _ e refl r
    rest_after_changed os t o _ _ _ _ (pass.IsPatched f p at bytes old e q) r = rest_after_nothing os t o _ e refl r

    rest_after_operated : (now : Stamp) (all os : List Operation) (o : Operation) (t u : Turn) → Operated now all o t u → R (o ∷ os) t → R os u
    rest_after_operated now all os o t _ pass.Waits r = rest_after_keeping os o t r
    rest_after_operated now all os o t _ (pass.IsHard f e q h) r = rest_after_answer os o _ t (rest_after_nothing os t o _ q refl r) r
    rest_after_operated now all os o t _ (pass.IsQuiesced s e n a b c) r =
        rest_after_answer os o _ t (λ z. clash (sent_of o.stage o.op ((rest_after_fine os t o r).state z e)) c) r
    rest_after_operated now all os o t _ (pass.ChangesPage s f p bytes n v c m e) r =
        rest_after_answer os o answers.Written (cp.with_pages_changed (pages.written t.here.store.pages f.ino p bytes) f.ino p (cs.note t n))
        (rest_after_changed os t o f p bytes n c r) (rest_after_say (o ∷ os) t (outputs.Note n) (okay n) r)
      where
        okay : (n : Note) → Okay (outputs.Note n)
        okay n = tt
    rest_after_operated now all os o t _ (pass.IsDirtyFull s f p bytes n v c m e) r = rest_after_answer os o _ t (rest_after_changed os t o f p bytes n c r) r
    rest_after_operated now all os o t _ (pass.Fetches s f p m v n c e b) r = rest_after_keeping os o
        (say (cp.with_command f.ino p io.Read t) (outputs.Submit t.next_command m.at (commands.Read m.at)))
        (rest_after_say (o ∷ os) (cp.with_command f.ino p io.Read t) _ tt r)
    rest_after_operated now all os o t _ (pass.ReadsCached s f p bytes v e h q) r = rest_after_answer os o _
        (with_store (record t.here.store { pages = pages.use_page t.here.store.pages f.ino p }) t) (rest_after_nothing os t o _ e refl r) r
    rest_after_operated now all os o t _ (pass.ReadsZeros s f p e v a h q k m) r = rest_after_answer os o _ t (rest_after_nothing os t o _ a refl r) r

    -- Reductions, writes and greeting.
    whole_after_reduced : (ino : ℕ) (t u : Turn) → Reduced ino t u → W t → W u
    whole_after_reduced ino t _ StaysHeld w = w
    whole_after_reduced ino t _ (IsReduced x g to e m q) w = into t x e w

    whole_after_written : (now : Stamp) (tick : Bool) (y : ℕ × PageNo) (t u : Turn) → WritesOut now tick y t u → W t → W u
    whole_after_written now tick y t _ StaysDirty w = w
    whole_after_written now tick y t _ (IsWritten x d m e q k i) w = whole_after_say (cp.with_command d.ino d.page (io.Write d.version) t) _ tt w

    whole_after_greeted : (now : Stamp) (tick : Bool) (t u : Turn) → Greets now tick t u → W t → W u
    unfolding cs.send
    whole_after_greeted now tick t _ asking.IsSilent w = w
    whole_after_greeted now tick t _ (asking.SaysHello e m) w = whole_after_say (cp.with_greeting now t) _ tt w

    pub whole_after_passes : (now : Stamp) (tick : Bool) (t : Turn) → W t → W (cp.passes now tick t)
    whole_after_passes now tick t w =
        let r = passes now tick t in
        let z = each_lasts (Operated now t.operations) (λ os v. R os v) (λ o os v u step y. rest_after_operated now t.operations os o v u step y) t.operations
        (with_operations [] t) r.operated r.operations w in
        let o = r.operated in
        whole_after_requested now tick r.greeted (cp.passes now tick t) r.requests
        (whole_after_greeted now tick r.written r.greeted r.greeting
        (each_lasts (WritesOut now tick) (λ xs v. W v) (λ x xs v u step y. whole_after_written now tick x v u step y)
        (places_of r.reduced.here.session r.reduced.here.store.pages) r.reduced r.written r.writes
        (each_lasts Reduced (λ inos v. W v) (λ ino inos v u step y. whole_after_reduced ino v u step y) (cp.files_demanded o.here.session) o r.reduced
        r.reductions
        (whole_after_fewer o.here.server o.here.life.0 (view o.here.session) (o.operations ++ []) o.operations o.out (λ p h. has_none o.operations p h) z))))

    -- Asks of applications, under a number that is new.
    pub whole_after_take : (op : ℕ) (ask : Ask) → (S op → ⊥) → (t : Turn) → W t → W (cs.only_at (server_of ask) (cl.take_ask op ask) t)
    whole_after_take op ask n t w = at_server (λ u. W u) (server_of ask) (cl.take_ask op ask) t (λ e. by e (cl.take_ask op ask t) (takes op ask t)) (λ e. w)
      where
        new : Operation
        new = cs.new_operation op ask

        enqueued : cs.is_at (server_of ask) t.here ≡ true → W (cs.keep new t)
        enqueued at = record {
          base = record { server = w.base.server; fine = λ o h. fine o (has_append t.operations (new ∷ []) o h); said = w.base.said };
          asked = λ o h z e. asked o (has_append t.operations (new ∷ []) o h) z e;
        }
          where
            own : cs.is_of t.here.server new ≡ true
            own = eq-eqb (server_of ask).0 t.here.server.0 (sym (eqb-true t.here.server.0 (server_of ask).0 at))

            new_fine : Fine t.here.server B new
            new_fine = record { others = λ q. clash own q; kind = λ z. absurd (n z); state = λ z q. absurd (n z) }

            fine : (o : Operation) → Has o t.operations ⊎ Has o (new ∷ []) → Fine t.here.server B o
            fine o (inl h) = w.base.fine o h
            fine o (inr (inl e)) = subst (Fine t.here.server B) (sym e) new_fine
            fine o (inr (inr i)) = absurd i

            asked : (o : Operation) → Has o t.operations ⊎ Has o (new ∷ []) → S o.op → cs.is_asked t.here.server o ≡ true → Under t.here.server t.here.life.0
                (view t.here.session) o.op
            asked o (inl h) z e = w.asked o h z e
            asked o (inr (inl q)) z e = absurd (n (subst (λ (r : Operation). S r.op) q z))
            asked o (inr (inr i)) z e = absurd i

        told_lost : (f : FileId) → W (cs.answered (cs.with_lost_rows (pages.untold t.here.lost f.ino) t) op (answers.Lost (pages.told_rows t.here.lost f.ino)))
        told_lost f = whole_after_say (cs.with_lost_rows (pages.untold t.here.lost f.ino) t) _ (λ z. absurd (n z)) w

        by : cs.is_at (server_of ask) t.here ≡ true → (u : Turn) → Takes op ask t u → W u
        by at _ (ending.TellsLost f q h) = told_lost f
        by at _ (ending.WaitsForSync f q h) = enqueued at
        by at _ (ending.Waits k) = enqueued at
