-- A step of a client, walked for the locks that it requests: each is of a file of which the client
-- was asked.
use Rattle.st_lemmas.proofs.Words
use Words.{◌≡◌, ◌⊎◌, ℕ, Bool, true, false, not, ◌&&◌, ◌==◌, List, [], ◌∷◌, ◌++◌, Option, Some, None, refl, sym, ap, ◌∙◌, subst, inl, inr, arith}
use Words.{eqb-true, Ask, Body, ClientInput, Header, Message, Operation, Output, PageNo, ServerId, Stamp, Tag}
use Words.bodies
use Words.outputs
use Words.Client as cl
use Words.ClientPasses as cp
use Words.ClientReplies as cr
use Words.ClientState as cs
use Words.ClientState.{Association, ClientSession, ClientState, ClientTurn, Turn, at_each, at_these, client_turn, enter, leave, only_at, server_of}
use Words.ClientState.{with_associations, with_operations}
use Words.Keys.{server_node}
use Words.Lists.{Has}
use Words.Members.{has_right}
use Words.Tables.{and_true, has_append}
use Rattle.st_rules.specs.ClientPasses.{Wanted}
use Rattle.st_trace.specs.Client.Operations as pass
use Rattle.st_trace.specs.Client.Operations.{Operated}
use Rattle.st_trace.specs.Client.Passes.{Reduced, StaysHeld, IsReduced, WritesOut, StaysDirty, IsWritten, places_of}
use Rattle.st_trace.specs.Client.Requests as asking
use Rattle.st_trace.specs.Client.Requests.{Greets, Requests, Wants}
use Rattle.st_trace.proofs.Client.Walk.{each_lasts, passes}
use Rattle.st_laws_steps.specs.Client.Inputs.{Each}
use Rattle.st_laws_steps.specs.Client.Losses.{Fit}
use Rattle.st_laws_steps.specs.Lives.Lives.{Once, server_number}
use Rattle.st_laws_steps.proofs.Client.Losing.{changes_by_only, lose_is}
use Rattle.st_laws_steps.proofs.Client.Nexts.{changes_next}
use Rattle.st_laws_steps.proofs.Client.Replying.{changes_by_receive}
use Rattle.st_laws_steps.proofs.Client.Sessions as sessions
use Rattle.st_laws_steps.proofs.Client.Stepping.{finish_next, lost_fit}
use Rattle.st_laws_steps.proofs.Client.Taking.{each, each_taken, taken}
use Rattle.st_laws_pages.proofs.Causes.Placed.{EachOut, Since}
use Rattle.st_laws_volume.proofs.ClientAnswers.{Tells}
use Rattle.st_laws_volume.proofs.DirtyAfterHard.{AllAsked, passes_known, told_known}
use Rattle.st_laws_volume.proofs.FullInPasses.{Early, IsSeen, early_before}
use Rattle.st_laws_volume.proofs.KeptRequests.{AsksSo, SessionAsks, SoHere, after_reduction, received}

-- a request for a lock is of a file of which the client was asked
abbrev pub AskedBody : (ServerId → ℕ → Type 0) → ServerId → Body → Type 0
AskedBody A s (bodies.Acquire ino mode) = A s ino
AskedBody A s b = Unit {0}

-- all that a client sends
abbrev pub AllSent : (ServerId → ℕ → Type 0) → List Output → Type 0
AllSent A out =
    (m : Message) → Has (outputs.Send m) out → (s : ServerId) → m.header.to ≡ server_node s →
    AskedBody A s m.body

-- of an association
abbrev pub AsksAt : (ServerId → ℕ → Type 0) → Association → Type 0
AsksAt A a = SoHere (AskedBody A a.server) a

pub same_server : (s r : ServerId) → server_node s ≡ server_node r → s ≡ r
same_server s r e = ap (λ n. record { 0 = n }) (omega (arith, e))

module _ (A : ServerId → ℕ → Type 0) (asked : ℕ → Option Ask)
    (knows : (op : ℕ) (ask : Ask) → asked op ≡ Some ask → (ino : ℕ) → cs.file_of ask ≡ Some ino →
    A (server_of ask) ino) (now : Stamp) where
  -- One more output.
  module _ (out : List Output) (h : AllSent A out) where
    sent_more : (x : Output) → ((m : Message) → outputs.Send m ≡ x → (s : ServerId) →
        m.header.to ≡ server_node s → AskedBody A s m.body) → AllSent A (out ++ x ∷ [])
    sent_more x f m i s e = go (has_append out (x ∷ []) (outputs.Send m) i)
      where
        go : Has (outputs.Send m) out ⊎ Has (outputs.Send m) (x ∷ []) → AskedBody A s m.body
        go (inl j) = h m j s e
        go (inr (inl q)) = f m q s e
        go (inr (inr j)) = absurd j

    sent_note : (n : Words.Note) → AllSent A (out ++ outputs.Note n ∷ [])
    sent_note n = sent_more (outputs.Note n) (λ m q s e. cc q)

    sent_answer : (op : ℕ) (a : Words.AppAnswer) → AllSent A (out ++ outputs.Answer op a ∷ [])
    sent_answer op a = sent_more (outputs.Answer op a) (λ m q s e. cc q)

    sent_submit : (n : ℕ) (at : Words.BlockAt) (what : Words.Command) →
        AllSent A (out ++ outputs.Submit n at what ∷ [])
    sent_submit n at what = sent_more (outputs.Submit n at what) (λ m q s e. cc q)

    sent_body : (x : Header) (server : ServerId) (b : Body) → x.to ≡ server_node server →
        AskedBody A server b → AllSent A
        (out ++ outputs.Send (record { header = x; body = b }) ∷ [])
    sent_body x server b to f = sent_more (outputs.Send (record { header = x; body = b })) one
      where
        same : (m : Message) → outputs.Send m ≡ outputs.Send (record { header = x; body = b }) →
            m ≡ record { header = x; body = b }
        same m q = cc

        one : (m : Message) → outputs.Send m ≡ outputs.Send (record { header = x; body = b }) →
            (s : ServerId) → m.header.to ≡ server_node s → AskedBody A s m.body
        one m q s e =
            let z = same m q in
            let its = same_server server s
            (sym to ∙ (ap (λ (y : Message). y.header.to) (sym z) ∙ e)) in
            subst (λ (y : Message). AskedBody A s y.body) (sym z)
            (subst (λ r. AskedBody A r b) its f)

  -- The passes at a server.
  record Passing (os : List Operation) (t : Turn) : Type 0 where
    so : AsksAt A t.here
    ops : AllAsked asked t.operations
    left : AllAsked asked os
    sent : AllSent A t.out

  operated : (all : List Operation) (o : Operation) (os : List Operation) (t u : Turn) →
      Operated now all o t u → Passing (o ∷ os) t → Passing os u
  operated all o os t u x h = record {
    so = so u x;
    ops = ops u x;
    left = λ a i. h.left a (inr i);
    sent = sent u x;
  }
    where
      so : (u : Turn) → Operated now all o t u → AsksAt A u.here
      so _ pass.Waits = h.so
      so _ (pass.IsHard f e q d) = h.so
      so _ (pass.IsQuiesced s own n there none unsent) = h.so
      so _ (pass.ChangesPage s f p bytes n v c m e) = h.so
      so _ (pass.IsDirtyFull s f p bytes n v c m e) = h.so
      so _ (pass.Fetches s f p m v n c e r) = h.so
      so _ (pass.ReadsCached s f p bytes v e d q) = h.so
      so _ (pass.ReadsZeros s f p e v a d q j m) = h.so

      one_more : AllAsked asked (t.operations ++ o ∷ [])
      one_more a i = go (has_append t.operations (o ∷ []) a i)
        where
          go : Has a t.operations ⊎ Has a (o ∷ []) → asked a.op ≡ Some a.ask
          go (inl j) = h.ops a j
          go (inr (inl q)) =
              subst (λ (y : Operation). asked y.op ≡ Some y.ask) (sym q) (h.left o (inl refl))
          go (inr (inr j)) = absurd j

      ops : (u : Turn) → Operated now all o t u → AllAsked asked u.operations
      ops _ pass.Waits = one_more
      ops _ (pass.IsHard f e q d) = h.ops
      ops _ (pass.IsQuiesced s own n there none unsent) = h.ops
      ops _ (pass.ChangesPage s f p bytes n v c m e) = h.ops
      ops _ (pass.IsDirtyFull s f p bytes n v c m e) = h.ops
      ops _ (pass.Fetches s f p m v n c e r) = one_more
      ops _ (pass.ReadsCached s f p bytes v e d q) = h.ops
      ops _ (pass.ReadsZeros s f p e v a d q j m) = h.ops

      sent : (u : Turn) → Operated now all o t u → AllSent A u.out
      sent _ pass.Waits = h.sent
      sent _ (pass.IsHard f e q d) = sent_answer t.out h.sent o.op _
      sent _ (pass.IsQuiesced s own n there none unsent) = sent_answer t.out h.sent o.op _
      sent _ (pass.ChangesPage s f p bytes n v c m e) =
          sent_answer (t.out ++ outputs.Note n ∷ []) (sent_note t.out h.sent n) o.op _
      sent _ (pass.IsDirtyFull s f p bytes n v c m e) = sent_answer t.out h.sent o.op _
      sent _ (pass.Fetches s f p m v n c e r) = sent_submit t.out h.sent t.next_command m.at _
      sent _ (pass.ReadsCached s f p bytes v e d q) = sent_answer t.out h.sent o.op _
      sent _ (pass.ReadsZeros s f p e v a d q j m) = sent_answer t.out h.sent o.op _

  reduced : (ino : ℕ) (t u : Turn) → Reduced ino t u → Passing [] t → Passing [] u
  reduced ino t _ StaysHeld h = h
  reduced ino t u (IsReduced s g to e m q) h =
      record {
        so = after_reduction (AskedBody A t.here.server) ino t u (IsReduced s g to e m q) h.so;
        ops = h.ops;
        left = h.left;
        sent = h.sent;
      }

  wrote : (tick : Bool) (x : ℕ × PageNo) (t u : Turn) → WritesOut now tick x t u → Passing [] t →
      Passing [] u
  wrote tick x t _ StaysDirty h = h
  wrote tick x t _ (IsWritten s d m e q i j) h =
      record {
        so = h.so;
        ops = h.ops;
        left = h.left;
        sent = sent_submit t.out h.sent t.next_command m.at _;
      }

  greeted : (tick : Bool) (t u : Turn) → Greets now tick t u → Passing [] t → Passing [] u
  unfolding cs.send
  greeted tick t _ asking.IsSilent h = h
  greeted tick t _ (asking.SaysHello e m) h =
      record {
        so = h.so;
        ops = h.ops;
        left = h.left;
        sent = sent_body t.out h.sent _ t.here.server bodies.Hello refl tt;
      }

  wants_asked : (t : Turn) (s : ClientSession) (o : Operation) (w : Wanted) →
      asked o.op ≡ Some o.ask →
      cs.is_of t.here.server o ≡ true → Wants t s now o.ask w → AskedBody A t.here.server w.body
  wants_asked t s o _ k own (asking.ForLock ino e q c d) =
      subst (λ v. A v ino)
      (ap (λ n. record { 0 = n }) (eqb-true (server_of o.ask).0 t.here.server.0 own))
      (knows o.op o.ask k ino e)
  wants_asked t s o _ k own (asking.ForPlace f p l e q c d) = tt
  wants_asked t s o _ k own (asking.ToWrite f p bytes l e q c d) = tt
  wants_asked t s o _ k own (asking.ToPatch f p at bytes l e q c d) = tt
  wants_asked t s o _ k own (asking.ToCut f p l e q c d) = tt
  wants_asked t s o _ k own (asking.ToRemove server n ino l e f q c d) = tt
  wants_asked t s o _ k own (asking.ToName server n e f) = tt

  -- what a client does at a server leaves what it asks there, and what it sent
  record Passed (u : Turn) : Type 0 where
    so : AsksAt A u.here
    sent : AllSent A u.out

  requested : (tick : Bool) (t u : Turn) → Requests now tick t u → Passing [] t → Passed u
  unfolding cs.send cs.asking
  requested tick t _ asking.AsksNothing h = record { so = h.so; sent = h.sent }
  requested tick t _ (asking.AsksAgain s q e c n o) h =
      let its : AskedBody A t.here.server q.body =
      subst (AsksSo (AskedBody A t.here.server)) n
      (subst (SessionAsks (AskedBody A t.here.server)) e h.so) in
      record { so = its; sent = sent_body t.out h.sent _ t.here.server q.body refl its }
  requested tick t _ (asking.Reasserts s m d) h =
      record { so = tt; sent = sent_body t.out h.sent _ t.here.server _ refl tt }
  requested tick t _ (asking.Releases s r rs m d e) h =
      record { so = tt; sent = sent_body t.out h.sent _ t.here.server _ refl tt }
  requested tick t _ (asking.AsksFor s xs o ys x f e first) h =
      let k = h.ops o (subst (Has o) (sym first.there) (has_right xs (o ∷ ys) o (inl refl))) in
      let own = (and_true (cs.is_of t.here.server o) _ first.may).0 in
      let its = wants_asked t s o x k own first.wants in
      record { so = its; sent = sent_body t.out h.sent _ t.here.server x.body refl its }
  requested tick t _ (asking.KeepsAlive s f e) h =
      record { so = tt; sent = sent_body t.out h.sent _ t.here.server _ refl tt }

  passed : (tick : Bool) (t : Turn) → AsksAt A t.here → AllAsked asked t.operations →
      AllSent A t.out →
      Passed (cp.passes now tick t)
  passed tick t so ops sent =
      let r = passes now tick t in
      requested tick r.greeted (cp.passes now tick t) r.requests
      (greeted tick r.written r.greeted r.greeting
      (each_lasts (WritesOut now tick) (λ xs v. Passing [] v) (λ x xs v y o p. wrote tick x v y o p)
      (places_of r.reduced.here.session r.reduced.here.store.pages) r.reduced r.written r.writes
      (each_lasts Reduced (λ xs v. Passing [] v) (λ x xs v y o p. reduced x v y o p)
      (cp.files_demanded r.operated.here.session) r.operated r.reduced r.reductions
      (each_lasts (Operated now t.operations) Passing
      (λ o os v x y z. operated t.operations o os v x y z)
      t.operations (with_operations [] t) r.operated r.operations
      (record { so = so; ops = λ a i. absurd i; left = ops; sent = sent })))))

  -- Each server in turn.
  record AllAsk (t : ClientTurn) (al : List Association) : Type 0 where
    known : AllAsked asked t.state.operations
    done : (b : Association) → Has b t.state.associations → AsksAt A b
    rest : (b : Association) → Has b al → AsksAt A b
    sent : AllSent A t.out

  these_ask : (tick : Bool) (al : List Association) (t : ClientTurn) → AllAsk t al →
      ((b : Association) → Has b (at_these (cp.passes now tick) al t).state.associations →
      AsksAt A b)
      × AllSent A (at_these (cp.passes now tick) al t).out
  unfolding at_these
  these_ask tick [] t h = (h.done, h.sent)
  these_ask tick (a ∷ al) t h =
      these_ask tick al (leave t (cp.passes now tick (enter t a)))
      (record {
        known = passes_known asked now tick (enter t a) h.known;
        done = λ b i. go b (has_append t.state.associations _ b i);
        rest = λ b i. h.rest b (inr i);
        sent = z.sent;
      })
    where
      z : Passed (cp.passes now tick (enter t a))
      z = passed tick (enter t a) (h.rest a (inl refl)) h.known h.sent

      go : (b : Association) →
          Has b t.state.associations ⊎ Has b ((cp.passes now tick (enter t a)).here ∷ []) →
          AsksAt A b
      go b (inl i) = h.done b i
      go b (inr (inl e)) = subst (AsksAt A) (sym e) z.so
      go b (inr (inr i)) = absurd i

  -- Before the passes.
  abbrev Q : ServerId → ℕ → Option ClientSession → Type 0
  Q server life o = SessionAsks (AskedBody A server) o

  abbrev Here : Association → Type 0
  Here a = Fit a × AsksAt A a

  by_take : (s : ServerId) (op : ℕ) (ask : Ask) (t : Turn) → Here t.here →
      Here (only_at s (cl.take_ask op ask) t).here
  by_take s op ask t (f, h) = (
    (changes_next now t _ (changes_by_only now s op ask t)).fit f,
    sessions.sessions_kept_by_take Q s op ask t h,
  )

  by_message : (m : Header) (b : Body) (t : Turn) → Here t.here →
      Here (cr.receive_at now m b t).here
  by_message m b t (f, h) =
      let n = changes_next now t (cr.receive_at now m b t) (changes_by_receive now m b t f.fresh) in (
        n.fit f,
        subst (λ v. SessionAsks (AskedBody A v) (cr.receive_at now m b t).here.session) n.server
            (received (AskedBody A t.here.server) now m b t h),
      )

  by_end : (number : ℕ) (r : Option (Option (Tag × List ℕ))) (t : Turn) → Here t.here →
      Here (cl.finish number r t).here
  by_end number r t (f, h) =
      ((finish_next now number r t).fit f, sessions.sessions_kept_by_finish Q number r t h)

  by_loss : (t : Turn) → Here t.here → Here (cl.lose now t).here
  by_loss t (f, h) = (
    lost_fit now t (cl.lose now t) (lose_is now t) f,
    sessions.sessions_kept_by_lose Q (λ server life. tt) now t h,
  )

  told_asks : (s : ClientState) (input : ClientInput) → Each Here s.associations →
      Each Here (cl.take_input (cl.losses (client_turn s []) now) now input).state.associations
  unfolding cl.losses
  told_asks s input h =
      let t : ClientTurn = cl.losses (client_turn s []) now in
      each_taken Here (λ m a. Unit {0}) now by_take (λ m u p q. by_message m.header m.body u p)
      by_end t
      (cl.take_input t now input) input (taken t now input) (λ m e e2 a i. tt)
      (each Here Here (cl.lose now) by_loss (client_turn s []) h)

  early_sent : (os : List Output) → EachOut Early os → AllSent A os
  early_sent [] q m i s e = absurd i
  early_sent (o ∷ os) q m (inr i) s e = early_sent os q.rest m i s e
  early_sent (o ∷ os) q m (inl i) s e = seen m.body (subst Early (sym i) q.one)
    where
      seen : (b : Body) → IsSeen b → AskedBody A s b
      seen (bodies.DemandSeen ino g) z = tt
      seen b z = absurd z

  -- The whole step.
  pub step_asks : (s : ClientState) (input : ClientInput) →
      ((a : Association) → Has a s.associations → Fit a) →
      ((a : Association) → Has a s.associations → AsksAt A a) →
      Once (Words.map server_number s.associations) →
      AllAsked asked s.operations → Tells (λ op ask. asked op ≡ Some ask) (λ v n. Unit {0}) input →
      ((b : Association) → Has b (cl.client_step s now input).state.associations → AsksAt A b)
      × AllSent A (cl.client_step s now input).out
  unfolding cl.client_step cl.work at_each
  step_asks s input fit asks apart known tells =
      these_ask (cl.is_tick input) told.state.associations (with_associations [] told)
      (record {
        known = told_known asked now s.id s input fit apart known tells;
        done = λ b i. absurd i;
        rest = λ b i. (told_asks s input (λ a j. (fit a j, asks a j)) b i).1;
        sent = subst (AllSent A) (sym none.out) (early_sent none.more none.each);
      })
    where
      told : ClientTurn
      told = cl.take_input (cl.losses (client_turn s []) now) now input

      none : Since Early [] told.out
      none = early_before now s input
