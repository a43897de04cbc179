-- What a client's rules do to the requests of a session, to the operations that wait for one, and to what is sent and answered.
use Rattle.st_lemmas.proofs.Words
use Words.{◌≡◌, ℕ, ◌≤◌, ◌<◌, ◌⊎◌, Bool, true, false, ◌&&◌, List, [], ◌∷◌, ◌++◌, Option, Some, refl, sym, ap, ◌∙◌, subst, inl, inr, arith, append_assoc, filter}
use Words.{map, eqb-true, eq-eqb, Tag, ClientId, PageNo, ServerId, Stamp, AppAnswer, Ask, Body, Header, Message, Output, Operation, Request, nat_lt, ltb-true}
use Words.commands
use Words.answers
use Words.bodies
use Words.replies
use Words.outputs
use Words.io
use Words.Client as cl
use Words.ClientLocks as locks
use Words.ClientPages as pages
use Words.ClientPasses as cp
use Words.ClientReplies as cr
use Words.ClientState as cs
use Words.ClientState.{ClientSession, Association, Turn, answer_to, server_of, say, with_session, with_store, with_operations}
use Words.Keys.{server_node}
use Words.Lists.{Has}
use Words.Tables.{and_true, has_append, has_filter, has_map}
use Words.Members.{has_middle}
use Rattle.st_laws_requests.specs.Cuts.Cuts.{AsksFor, Given, Keyed, SameBody, Waits, WaitsAt, is_report, view}
use Rattle.st_laws_requests.proofs.Cuts.Asking.{whole_after_idle, whole_after_requests}
use Rattle.st_laws_requests.proofs.Cuts.Keeping.{Answers, C, CIn, Free, K, Okay, Plain, W, WIn, Whole, asked_of, base_after_begins, base_after_fewer, base_after_longer_list, base_after_refused, base_after_say}
use Rattle.st_laws_requests.proofs.Cuts.Keeping.{free_all, freed, granted_view, into, no_acquire, no_map, no_reassert, only_own, said_of, whole_after_answers}
use Rattle.st_laws_requests.proofs.Cuts.Keeping.{whole_after_fewer, whole_after_follows, whole_after_say, whole_after_stuck, whole_after_view}
use Rattle.st_trace.specs.Client.Commands as ending
use Rattle.st_trace.specs.Client.Commands.{Finishes, Takes}
use Rattle.st_trace.specs.Client.Losses as losing
use Rattle.st_trace.specs.Client.Losses.{Ended, Loses}
use Rattle.st_trace.specs.Client.Messages as trace
use Rattle.st_trace.specs.Client.Messages.{Effect, Receives, Renews, Replied}
use Rattle.st_trace.specs.Client.Operations as pass
use Rattle.st_trace.specs.Client.Operations.{Operated}
use Rattle.st_trace.specs.Client.Passes.{Reduced, StaysHeld, IsReduced, WritesOut, StaysDirty, IsWritten, places_of}
use Rattle.st_trace.specs.Client.Requests as asking
use Rattle.st_trace.specs.Client.Requests.{Greets}
use Rattle.st_trace.proofs.Client.Finishing.{at_server, finishes, takes}
use Rattle.st_trace.proofs.Client.Losing.{loses}
use Rattle.st_trace.proofs.Client.Operating.{operations}
use Rattle.st_trace.proofs.Client.Receiving.{receives}
use Rattle.st_trace.proofs.Client.Requesting.{greets}
use Rattle.st_trace.proofs.Client.Walk.{each_lasts, reductions, writes}

module _ (M : List Message) (c : ClientId) (Known : ℕ → Ask → Type 0) (Before : ServerId → ℕ → ℕ → ℕ → ℕ → Type 0) (Done : ℕ → Ask → AppAnswer → Type 0) where
  module _ (s : ServerId) (B : List Operation) (out0 : List Output) where
    abbrev WW : Turn → Type 0
    WW t = (W M c Known Before Done s B out0) t

    -- Replies.
    module _ (now : Stamp) (m : Message) (Told : Body → ServerId → Type 0)
        (ends : (sv : ServerId) (b : Body) (a : AppAnswer) → Told b sv → Answers b a → (q : Request) (o : Operation) → server_of o.ask ≡ sv → 1 ≤ q.number →
        m.header.number ≡ q.number → AsksFor o.ask q.body → cs.fits b q.body ≡ true →
        ((y : Message) → Has y M → Keyed c sv m.header.life m.header.epoch q.number y → y.body ≡ q.body) →
        Before sv m.header.life m.header.epoch q.number o.op → Done o.op o.ask a) where
      abbrev h : Header
      h = m.header

      -- the request ends: nothing is outstanding, and who waited is yet to be answered
      base_after_ended : (t : Turn) (x : ClientSession) (stamp : Stamp) → (CIn M c Known Before Done s B out0) t x → (CIn M c Known Before Done s B out0) t
          (cr.ended_by stamp x)
      base_after_ended t x stamp b =
          record {
            id_ = b.id_;
            server = b.server;
            asked = b.asked;
            others = b.others;
            numbers = record {
              lives = b.numbers.lives;
              placed = λ a i u l k. let z = b.numbers.placed a i u l k in record { up_to = z.up_to; below = z.below; same = λ q. tt };
              one = b.numbers.one;
              sent = tt;
              counts = (b.numbers.counts.0, tt);
            };
            sent = b.sent;
            kept = b.kept;
            said = b.said;
          }

      record Noted (t u : Turn) (x : ClientSession) : Type 0 where
        pub here : u.here ≡ t.here
        pub operations : u.operations ≡ t.operations
        pub base : (CIn M c Known Before Done s B out0) u x

      noted : (t : Turn) (x y : ClientSession) (stamp : Stamp) (u : Turn) → Renews t x stamp u → (CIn M c Known Before Done s B out0) t y → Noted t u y
      noted t x y stamp _ (trace.IsLater e) b = record {
        here = refl;
        operations = refl;
        base =
            (base_after_say M c Known Before Done s B out0) t.id t.here.server t.here.life.0 (view (Some y)) t.operations t.out _ tt b;
      }
      noted t x y stamp _ (trace.IsNoLater e) b = record { here = refl; operations = refl; base = b }

      -- nobody waits for a reply of another kind
      none_for : (t : Turn) (x : ClientSession) (q : Request) → x.requests.asked ≡ Some q → (WIn M c Known Before Done s B out0) t x →
          (cs.asks_cut_or_name q.body ≡ true → ⊥) → (Free M c Known Before Done) t.here.server t.operations
      none_for t x q e w f o i a = f (only_own o.ask q.body (subst (λ r. WaitsAt Before t.here.server t.here.life.0 x.epoch.0 r o) e (w.waits o i a)).0)

      -- what a report answers is done for each that waits
      is_done : (t : Turn) (x : ClientSession) (q : Request) (b : Body) (answer : AppAnswer) → Answers b answer → x.requests.asked ≡ Some q →
          (WIn M c Known Before Done s B out0) t x → Told b t.here.server → h.life ≡ t.here.life.0 → h.epoch ≡ x.epoch.0 → h.number ≡ q.number →
          cs.fits b q.body ≡ true → (o : Operation) → Has o t.operations → cs.is_asked t.here.server o ≡ true → Done o.op o.ask answer
      is_done t x q b answer its e w told lf ep nm fit o i a = ends t.here.server b answer told its q o of given.0 nm waits.0 fit bodies_same
          (subst (λ n. Before t.here.server n h.epoch q.number o.op) (sym lf)
          (subst (λ n. Before t.here.server t.here.life.0 n q.number o.op) (sym ep) waits.1))
        where
          waits : AsksFor o.ask q.body × Before t.here.server t.here.life.0 x.epoch.0 q.number o.op
          waits = subst (λ r. WaitsAt Before t.here.server t.here.life.0 x.epoch.0 r o) e (w.waits o i a)

          given : (1 ≤ q.number) × (q.number < x.requests.next)
          given = subst (Given x.requests.next) e w.base.numbers.counts.1

          of : server_of o.ask ≡ t.here.server
          of = ap (λ n. record { 0 = n }) (eqb-true (server_of o.ask).0 t.here.server.0 (asked_of t.here.server o a).0)

          bodies_same : (y : Message) → Has y M → Keyed c t.here.server h.life h.epoch q.number y → y.body ≡ q.body
          bodies_same y j k =
              let g = given.0 in
              let u = k.under in
              (subst (λ r. SameBody r y) e ((w.base.numbers.placed y (inl j) k.between (k.of_life ∙ lf) (omega (arith, g, u))).same (k.of_epoch ∙ ep))) k.under

      -- What a reply does, besides ending the request.
      whole_after_told : (u : Turn) (answer : AppAnswer) → (C M c Known Before Done s B out0) u →
          ((o : Operation) → Has o u.operations → cs.is_asked u.here.server o ≡ true → Done o.op o.ask answer) →
          (W M c Known Before Done s B out0) (cs.answer_each (cs.is_asked u.here.server) answer u)
      unfolding cs.answer_each
      whole_after_told u answer b f =
          record {
            base = (base_after_longer_list M c Known Before Done s B out0) u.id u.here.server u.here.life.0 (view u.here.session) _ u.out _ okay
                ((base_after_fewer M c Known Before Done s B out0) u.id u.here.server u.here.life.0 (view u.here.session) u.operations _ u.out
                (λ o i. (has_filter _ u.operations o i).0) b);
            waits = λ o i a. absurd ((freed M c Known Before Done s B out0) u answer o i a);
            alone = λ o p i j a g. absurd ((freed M c Known Before Done s B out0) u answer o i a);
          }
        where
          okay : (x : Output) → Has x (map (answer_to answer) (filter (cs.is_asked u.here.server) u.operations)) →
              (Okay M c Known Before Done) u.here.server u.here.life.0 x
          okay x i =
              let z = has_map (answer_to answer) _ x i in
              let y = has_filter (cs.is_asked u.here.server) u.operations z.0 z.1 in
              subst ((Okay M c Known Before Done) u.here.server u.here.life.0) (sym z.2)
              ((said_of M c Known Before Done) z.0.op answer (z.0.ask, b.asked z.0 y.0, f z.0 y.0 y.1))

      whole_after_effect : (t u : Turn) (x y : ClientSession) (q : Request) (b : Body) (file : Option ℕ) (r : Turn) → Replied now h b t x q →
          (WIn M c Known Before Done s B out0) t x → u.here ≡ record t.here { session = Some y } → u.operations ≡ t.operations →
          (C M c Known Before Done s B out0) u → (is_report b ≡ true → Told b t.here.server) → Effect now u y file q.body b r → WW r
      unfolding cs.answer_each
      whole_after_effect t u x y q b file r rep w here ops base told f = go b r rep.fits told f
        where
          same_server : t.here.server ≡ u.here.server
          same_server = sym (ap (λ (a : Association). a.server) here)

          session : u.here.session ≡ Some y
          session = ap (λ (a : Association). a.session) here

          free : (cs.asks_cut_or_name q.body ≡ true → ⊥) → (Free M c Known Before Done) u.here.server u.operations
          free f = subst (λ (z : ServerId). (Free M c Known Before Done) z u.operations) same_server
              (subst ((Free M c Known Before Done) t.here.server) (sym ops) (none_for t x q rep.asked w f))

          whole : (cs.asks_cut_or_name q.body ≡ true → ⊥) → (W M c Known Before Done s B out0) u
          whole f = (free_all M c Known Before Done s B out0) u.id u.here.server u.here.life.0 (view u.here.session) u.operations u.out (free f) base

          whole_in : (cs.asks_cut_or_name q.body ≡ true → ⊥) → (WIn M c Known Before Done s B out0) u y
          whole_in f = (into M c Known Before Done s B out0) u y session (whole f)

          done : (b : Body) (answer : AppAnswer) → Answers b answer → Told b t.here.server → cs.fits b q.body ≡ true → (o : Operation) → Has o u.operations →
              cs.is_asked u.here.server o ≡ true → Done o.op o.ask answer
          done b answer its k fit o i a = is_done t x q b answer its rep.asked w k rep.heard.received.life rep.heard.epoch (sym rep.number) fit o
              (subst (Has o) ops i) (subst (λ z. cs.is_asked z o ≡ true) (sym same_server) a)

          go : (b : Body) (r : Turn) → cs.fits b q.body ≡ true → (is_report b ≡ true → Told b t.here.server) → Effect now u y file q.body b r → WW r
          go _ _ f k (trace.IsGranted ino g mode v i) = (whole_after_view M c Known Before Done s B out0) u y v
              ((granted_view M c Known Before Done s B out0) y ino g mode v i) (whole_in (no_acquire ino q.body f))
          go _ _ f k (trace.IsQueued ino mode e) = (whole_in (no_acquire ino q.body f))
          go _ _ f k (trace.HoldsAlready ino mode e) = whole_in (no_acquire ino q.body f)
          go _ _ f k (trace.IsToldExtents ino rows e) = whole (no_map ino q.body f)
          go _ _ f k (trace.IsToldLate ino rows e) = whole (no_map ino q.body f)
          go _ _ f k trace.IsAcknowledged = whole_after_told u answers.Cut base (done bodies.Ack answers.Cut refl (k refl) f)
          go _ _ f k (trace.IsNamed n i) = whole_after_told u (cr.name_answer n) base (done (bodies.Named n) (cr.name_answer n) refl (k refl) f)
          go _ _ f k (trace.IsRemoved ino removed l e i) =
              let v = cs.answer_each (cs.is_asked u.here.server) (answers.Named ino) u in
              ((into M c Known Before Done s B out0) v y session
              (whole_after_told u (answers.Named ino) base (done (bodies.Named (replies.Ino ino)) (answers.Named ino) refl (k refl) f)))
          go _ _ f k trace.IsReasserted = (whole_in (no_reassert q.body f))
          go _ _ f k (trace.Effect.IsRefused z a b v i) = (whole_after_stuck M c Known Before Done s B out0) v
              ((base_after_refused M c Known Before Done s B out0) u z a b file q.body v i base)

      whole_after_heard : (t : Turn) (b : Body) (u : Turn) → (is_report b ≡ true → (sv : ServerId) → h.from ≡ server_node sv → Told b sv) →
          Receives now h t b u → WW t →
          WW u
      whole_after_heard t _ _ told (trace.PassesOver b) w = w
      whole_after_heard t _ _ told (trace.Begins r e i) w =
          let x = cr.new_session (trace.epoch_of h) (trace.stamp_of h) in (whole_after_say M c Known Before Done s B out0) (cr.begin_here x t) _ tt
          ((base_after_begins M c Known Before Done s B out0) t x e refl w)
      whole_after_heard t _ _ told (trace.FollowsEpoch x a b k e) w =
          (whole_after_follows M c Known Before Done s B out0) t x (trace.epoch_of h) k.session
          (ltb-true x.epoch.0 h.epoch (and_true (nat_lt x.epoch.0 h.epoch) _ e).0) w
      whole_after_heard t _ _ told (trace.IsCondemned b x k i) w = (into M c Known Before Done s B out0) t x k.session w
      whole_after_heard t _ _ told (trace.IsGrantedLater ino g mode x v k e i) w = (whole_after_view M c Known Before Done s B out0) t x v
          ((granted_view M c Known Before Done s B out0) x ino g mode v i) ((into M c Known Before Done s B out0) t x k.session w)
      whole_after_heard t _ _ told (trace.SeesDemand ino g to x k e) w =
          let l = cs.with_cache (locks.demand x.locks ino g to).locks x in (whole_after_idle M c Known Before Done s B out0) (with_session l t) _ _ _
          ((whole_after_view M c Known Before Done s B out0) t x l refl ((into M c Known Before Done s B out0) t x k.session w))
      whole_after_heard t _ _ told (trace.GivesUp ino g to x k e i) w = (into M c Known Before Done s B out0) t x k.session w
      whole_after_heard t _ _ told (trace.HasGivenUp ino g to x k e i) w = (into M c Known Before Done s B out0) t x k.session w
      whole_after_heard t _ u told (trace.IsAnswered b x q v _ r n f) w =
          let y = cr.ended_by (trace.stamp_of h) x in let j = (into M c Known Before Done s B out0) t x r.heard.session w in
          let z = noted t x y (trace.stamp_of h) v n (base_after_ended t x (trace.stamp_of h) j.base) in
          whole_after_effect t (with_session y v) x y q b (cs.file_asked x.cutting q.body) u r j
          (ap (λ (a : Association). record a { session = Some y }) z.here) z.operations z.base (λ i. told i t.here.server r.heard.received.from) f

      pub whole_after_receive : (t : Turn) → (is_report m.body ≡ true → (sv : ServerId) → h.from ≡ server_node sv → Told m.body sv) → WW t → WW
          (cr.receive_at now h m.body t)
      whole_after_receive t told w = whole_after_heard t m.body (cr.receive_at now h m.body t) told (receives now h t m.body) w

    -- Losses: the operations of the server are answered, and the next life begins.
    record Losing (sv : ServerId) (all : List Operation) (t : Turn) : Type 0 where
      pub base : (K M c Known Before Done s B out0) t.id t.here.server t.here.life.0 (view t.here.session) all t.out
      pub server_ : t.here.server ≡ sv
      pub away : (o : Operation) → Has o t.operations → Has o all × (cs.is_of sv o ≡ false)

    ended : (sv : ServerId) (all : List Operation) (x : ClientSession) (o : Operation) (t u : Turn) → Ended x o t u → Has o all → Losing sv all t →
        Losing sv all u
    ended sv all x o t _ (losing.IsElsewhere e) h w = record { base = w.base; server_ = w.server_; away = λ p i. away p (has_append t.operations (o ∷ []) p i) }
      where
        away : (p : Operation) → Has p t.operations ⊎ Has p (o ∷ []) → Has p all × (cs.is_of sv p ≡ false)
        away p (inl i) = w.away p i
        away p (inr (inl q)) = (subst (λ z. Has z all) (sym q) h, subst (λ z. cs.is_of sv z ≡ false) (sym q) (subst (λ z. cs.is_of z o ≡ false) w.server_ e))
        away p (inr (inr i)) = absurd i
    ended sv all x o t _ (losing.IsUncertain own e) h w = record {
      base = (base_after_say M c Known Before Done s B out0) t.id t.here.server t.here.life.0
          (view t.here.session) all t.out _ tt w.base;
      server_ = w.server_;
      away = w.away;
    }
    ended sv all x o t _ (losing.IsToldLost f own e q l) h w = record {
      base = (base_after_say M c Known Before Done s B out0) t.id t.here.server t.here.life.0
          (view t.here.session) all t.out _ tt w.base;
      server_ = w.server_;
      away = w.away;
    }
    ended sv all x o t _ (losing.LostNothing f own e q l) h w = record {
      base = (base_after_say M c Known Before Done s B out0) t.id t.here.server t.here.life.0
          (view t.here.session) all t.out _ tt w.base;
      server_ = w.server_;
      away = w.away;
    }
    ended sv all x o t _ (losing.IsQuiesced own e n) h w = record {
      base = (base_after_say M c Known Before Done s B out0) t.id t.here.server t.here.life.0
          (view t.here.session) all t.out _ tt w.base;
      server_ = w.server_;
      away = w.away;
    }

    lost : (all : List Operation) (sv : ServerId) (u : Turn) → Losing sv all u → WW (cl.empty_here u)
    lost all sv u r =
        record {
          base = record {
            id_ = b.id_;
            server = b.server;
            asked = b.asked;
            others = b.others;
            numbers = record {
              lives = λ m h k. let z = b.numbers.lives m h k in omega (arith, z);
              placed = λ m h k l. let z = b.numbers.lives m h k in absurd (omega (arith, z, l));
              one = b.numbers.one;
              sent = tt;
              counts = tt;
            };
            sent = b.sent;
            kept = b.kept;
            said = b.said;
          };
          waits = λ o h a. absurd (gone o h (asked_of u.here.server o a).0);
          alone = λ o p h i a g. absurd (gone o h (asked_of u.here.server o a).0);
        }
      where
        b : (K M c Known Before Done s B out0) u.id u.here.server u.here.life.0 (view u.here.session) u.operations u.out
        b = (base_after_fewer M c Known Before Done s B out0) u.id u.here.server u.here.life.0 (view u.here.session) all u.operations u.out
            (λ o h. (r.away o h).0) r.base

        clash : {b : Bool} → b ≡ true → b ≡ false → ⊥
        clash x y = cc

        gone : (o : Operation) → Has o u.operations → cs.is_of u.here.server o ≡ true → ⊥
        gone o h e = clash (subst (λ z. cs.is_of z o ≡ true) r.server_ e) (r.away o h).1

    pub whole_after_lose : (now : Stamp) (t : Turn) → WW t → WW (cl.lose now t)
    whole_after_lose now t w = go (cl.lose now t) (loses now t)
      where
        go : (u : Turn) → Loses now t u → WW u
        go _ (losing.HasNoSession e) = w
        go _ (losing.Lasts x e o) = w
        go _ (losing.IsLost x u e o p) =
            let z = each_lasts (Ended x) (λ os v. ((o : Operation) → Has o os → Has o t.operations) × Losing t.here.server t.operations v)
            (λ o os v u step y. (λ p h. y.0 p (inr h), ended t.here.server t.operations x o v u step (y.0 o (inl refl)) y.1)) t.operations
            (with_operations [] (losing.loss_noted t)) u p (
              λ o h. h,
              record {
                base = (base_after_say M c Known Before Done s B out0) t.id t.here.server t.here.life.0
                    (view t.here.session) t.operations t.out _ tt w.base;
                server_ = refl;
                away = λ o h. absurd h;
              },
            ) in
            lost t.operations t.here.server u z.1

    -- Ends of commands.
    pub whole_after_finish : (number : ℕ) (r : Option (Option (Tag × List ℕ))) (t : Turn) → WW t → WW (cl.finish number r t)
    whole_after_finish number r t w = go (cl.finish number r t) (finishes number r t)
      where
        go : (u : Turn) → Finishes number r t u → WW u
        go _ (ending.IsUnknown e) = w
        go _ (ending.IsOfOtherKind x block o e i) = w
        go _ (ending.Fills x block o i e) = w
        go _ (ending.Hardens x v o i e j) = w
        go _ (ending.WroteOlder x v o i e j) = w
        go _ (ending.FailsToRead x o i e) = (whole_after_answers M c Known Before Done s B out0) (ending.without x t) _ _ (λ op. tt) w
        go _ (ending.FailsToWrite x v o i e j) = (whole_after_answers M c Known Before Done s B out0)
            (ending.with_pages (pages.fail t.here.store.pages x.ino x.page x.number) (ending.without x t)) _ _ (λ op. tt) w
        go _ (ending.FailsToWriteOlder x v o i e j) = (whole_after_answers M c Known Before Done s B out0) (ending.without x t) _ _ (λ op. tt) w

    -- The pass over the operations: those that were not yet looked at come after those that stay.
    abbrev R : List Operation → Turn → Type 0
    R os t = (Whole M c Known Before Done) s B out0 t.id t.here.server t.here.life.0 (view t.here.session) (t.operations ++ os) t.out

    rest_after_keeping : (os : List Operation) (o : Operation) (t : Turn) → R (o ∷ os) t → R os (cs.keep o t)
    rest_after_keeping os o t r = subst (λ x. (Whole M c Known Before Done) s B out0 t.id t.here.server t.here.life.0 (view t.here.session) x t.out)
        (sym (append_assoc t.operations (o ∷ []) os)) r

    rest_after_answer : (os : List Operation) (o : Operation) (a : AppAnswer) (t : Turn) → (Plain M c Known Before Done s B out0) a → R (o ∷ os) t → R os
        (cp.answer o a t)
    rest_after_answer os o a t p r =
        let z = (whole_after_fewer M c Known Before Done s B out0) t.id t.here.server t.here.life.0 (view t.here.session) (t.operations ++ o ∷ os)
        (t.operations ++ os) t.out (λ x h. has_middle o x t.operations os h) r in
        record {
          base = (base_after_say M c Known Before Done s B out0) t.id t.here.server t.here.life.0 (view t.here.session) (t.operations ++ os) t.out _
              (p o.op) z.base;
          waits = z.waits;
          alone = z.alone;
        }

    rest_after_say : (os : List Operation) (t : Turn) (o : Output) → (Okay M c Known Before Done) t.here.server t.here.life.0 o → R os t → R os (say t o)
    rest_after_say os t o k r = record {
      base = (base_after_say M c Known Before Done s B out0) t.id t.here.server t.here.life.0 (view t.here.session)
          (t.operations ++ os) t.out o k r.base;
      waits = r.waits;
      alone = r.alone;
    }

    rest_after_operated : (now : Stamp) (all os : List Operation) (o : Operation) (t u : Turn) → Operated now all o t u → R (o ∷ os) t → R os u
    rest_after_operated now all os o t _ pass.Waits r = rest_after_keeping os o t r
    rest_after_operated now all os o t _ (pass.IsHard f h e q) r = rest_after_answer os o answers.Hard t (λ op. tt) r
    rest_after_operated now all os o t _ (pass.IsQuiesced x h n a b d) r = rest_after_answer os o answers.Quiesced t (λ op. tt) r
    rest_after_operated now all os o t _ (pass.ChangesPage x f p bytes n v d m e) r =
        rest_after_answer os o answers.Written (cp.with_pages_changed (pages.written t.here.store.pages f.ino p bytes) f.ino p (cs.note t n)) (λ op. tt)
        (rest_after_say (o ∷ os) t (outputs.Note n) tt r)
    rest_after_operated now all os o t _ (pass.IsDirtyFull x f p bytes n v d m e) r = rest_after_answer os o answers.DirtyFull t (λ op. tt) r
    rest_after_operated now all os o t _ (pass.Fetches x f p m v n a e b) r = rest_after_keeping os o
        (say (cp.with_command f.ino p io.Read t) (outputs.Submit t.next_command m.at (commands.Read m.at)))
        (rest_after_say (o ∷ os) (cp.with_command f.ino p io.Read t) _ tt r)
    rest_after_operated now all os o t _ (pass.ReadsCached x f p bytes v e h q) r = rest_after_answer os o (answers.Read bytes)
        (with_store (record t.here.store { pages = pages.use_page t.here.store.pages f.ino p }) t) (λ op. tt) r
    rest_after_operated now all os o t _ (pass.ReadsZeros x f p e v a h q k m) r = rest_after_answer os o _ t (λ op. tt) r

    has_none : {A : Type 0} (xs : List A) (x : A) → Has x xs → Has x (xs ++ [])
    has_none (y ∷ ys) x (inl e) = inl e
    has_none (y ∷ ys) x (inr h) = inr (has_none ys x h)
    has_none [] x h = h

    -- Reductions, writes and greeting.
    whole_after_reduced : (ino : ℕ) (t u : Turn) → Reduced ino t u → WW t → WW u
    whole_after_reduced ino t _ StaysHeld w = w
    whole_after_reduced ino t _ (IsReduced x g to e m q) w = (into M c Known Before Done s B out0) t x e w

    whole_after_written : (now : Stamp) (tick : Bool) (y : ℕ × PageNo) (t u : Turn) → WritesOut now tick y t u → WW t → WW u
    whole_after_written now tick y t _ StaysDirty w = w
    whole_after_written now tick y t _ (IsWritten x d m e q k i) w =
        (whole_after_say M c Known Before Done s B out0) (cp.with_command d.ino d.page (io.Write d.version) t) _ tt w

    whole_after_greeted : (now : Stamp) (tick : Bool) (t u : Turn) → Greets now tick t u → WW t → WW u
    whole_after_greeted now tick t _ asking.IsSilent w = w
    whole_after_greeted now tick t _ (asking.SaysHello e m) w =
        (whole_after_idle M c Known Before Done s B out0) (cp.with_greeting now t) 0 now.0 bodies.Hello w

    pub whole_after_passes : ((sv : ServerId) (life epoch number op : ℕ) → ((m : Message) → Has m M → Keyed c sv life epoch number m → ⊥) →
        Before sv life epoch number op) →
        (now : Stamp) (tick : Bool) (t : Turn) → (W M c Known Before Done s B out0) t → (W M c Known Before Done s B out0) (cp.passes now tick t)
    unfolding cp.passes
    whole_after_passes fresh now tick t w =
        let o = cp.operations now t in let r = cp.reductions o in let v = cp.writes now tick r in
        let z = each_lasts (Operated now t.operations) (λ os u. R os u) (λ p os u x step y. rest_after_operated now t.operations os p u x step y) t.operations
        (with_operations [] t) o (operations now t) w in
        (whole_after_requests M c Known Before Done s B out0) fresh now tick _
        (whole_after_greeted now tick v (cp.greeting now tick v) (greets now tick v)
        (each_lasts (WritesOut now tick) (λ xs u. WW u) (λ x xs u y step i. whole_after_written now tick x u y step i)
        (places_of r.here.session r.here.store.pages) r v
        (writes now tick r)
        (each_lasts Reduced (λ inos u. WW u) (λ ino inos u y step i. whole_after_reduced ino u y step i) (cp.files_demanded o.here.session) o r (reductions o)
        ((whole_after_fewer M c Known Before Done s B out0) o.id o.here.server o.here.life.0 (view o.here.session) (o.operations ++ []) o.operations o.out
        (λ p h. has_none o.operations p h) z))))

    -- Asks of applications.
    pub whole_after_take : (op : ℕ) (ask : Ask) → Known op ask → (t : Turn) → (W M c Known Before Done s B out0) t → (W M c Known Before Done s B out0)
        (cs.only_at (server_of ask) (cl.take_ask op ask) t)
    whole_after_take op ask k t w = at_server (λ u. WW u) (server_of ask) (cl.take_ask op ask) t (λ e. by e (cl.take_ask op ask t) (takes op ask t)) (λ e. w)
      where
        new : Operation
        new = cs.new_operation op ask

        unsent : (a : Bool) → (a && false) ≡ true → ⊥
        unsent true e = cc
        unsent false e = cc

        clash : {b : Bool} → b ≡ true → b ≡ false → ⊥
        clash x y = cc

        enqueued : cs.is_at (server_of ask) t.here ≡ true → (W M c Known Before Done s B out0) (cs.keep new t)
        enqueued at =
            record {
              base = record {
                id_ = w.base.id_;
                server = w.base.server;
                asked = λ o h. asked o (has_append t.operations (new ∷ []) o h);
                others = λ o h e. others o (has_append t.operations (new ∷ []) o h) e;
                numbers = w.base.numbers;
                sent = w.base.sent;
                kept = w.base.kept;
                said = w.base.said;
              };
              waits = λ o h e. waits o (has_append t.operations (new ∷ []) o h) e;
              alone = λ o p h i. alone o p (has_append t.operations (new ∷ []) o h) (has_append t.operations (new ∷ []) p i);
            }
          where
            asks_not : (o : Operation) → o ≡ new → cs.is_asked t.here.server o ≡ true → ⊥
            asks_not o q e = unsent (cs.is_of t.here.server new) (subst (λ z. cs.is_asked t.here.server z ≡ true) q e)

            alone : (o p : Operation) → Has o t.operations ⊎ Has o (new ∷ []) → Has p t.operations ⊎ Has p (new ∷ []) → cs.is_asked t.here.server o ≡ true →
                cs.is_asked t.here.server p ≡ true → o.op ≡ p.op
            alone o p (inl h) (inl i) e g = w.alone o p h i e g
            alone o p (inl h) (inr (inl q)) e g = absurd (asks_not p q g)
            alone o p (inl h) (inr (inr i)) e g = absurd i
            alone o p (inr (inl q)) i e g = absurd (asks_not o q e)
            alone o p (inr (inr h)) i e g = absurd h

            own : cs.is_of t.here.server new ≡ true
            own = eq-eqb (server_of ask).0 t.here.server.0 (sym (eqb-true t.here.server.0 (server_of ask).0 at))

            asked : (o : Operation) → Has o t.operations ⊎ Has o (new ∷ []) → Known o.op o.ask
            asked o (inl h) = w.base.asked o h
            asked o (inr (inl e)) = subst (λ (z : Operation). Known z.op z.ask) (sym e) k
            asked o (inr (inr i)) = absurd i

            others : (o : Operation) → Has o t.operations ⊎ Has o (new ∷ []) → cs.is_of t.here.server o ≡ false → Has o B
            others o (inl h) e = w.base.others o h e
            others o (inr (inl q)) e = absurd (clash own (subst (λ z. cs.is_of t.here.server z ≡ false) q e))
            others o (inr (inr i)) e = absurd i

            waits : (o : Operation) → Has o t.operations ⊎ Has o (new ∷ []) → cs.is_asked t.here.server o ≡ true → Waits Before t.here.server t.here.life.0
                (view t.here.session) o
            waits o (inl h) e = w.waits o h e
            waits o (inr (inl q)) e = absurd (asks_not o q e)
            waits o (inr (inr i)) e = absurd i

        by : cs.is_at (server_of ask) t.here ≡ true → (u : Turn) → Takes op ask t u → WW u
        by at _ (ending.TellsLost f q h) = (whole_after_say M c Known Before Done s B out0) (cs.with_lost_rows (pages.untold t.here.lost f.ino) t) _ tt w
        by at _ (ending.WaitsForSync f q h) = enqueued at
        by at _ (ending.Waits n) = enqueued at
