-- What a client receives, asks and loses: no command and no change, one loss, and one message at most.
use Rattle.st_lemmas.proofs.Words
use Words.{◌≡◌, ℕ, ◌≤◌, List, [], ◌∷◌, ◌++◌, Option, Some, None, refl, sym, subst, arith, length, map, not, Tag, PageNo, Stamp, ExtentRow, Ask, Body}
use Words.{Header, Why, Output, Operation, PageCommand, DirtyPage}
use Words.answers
use Words.bodies
use Words.notes
use Words.outputs
use Words.Client as cl
use Words.ClientPages as pages
use Words.ClientPages.{Pages, Store}
use Words.ClientReplies as cr
use Words.ClientState as state
use Words.ClientState.{ClientSession, Turn, send, with_session}
use Words.Lengths.{length_map}
use Words.Tests.{filtered_no_longer}
use Rattle.st_laws_bounds.proofs.Counters.Weights.{of_rise, of_message, weigh, weigh_both}
use Rattle.st_laws_bounds.proofs.FewMessages.Passing.{C, Costs, few_in_after, few_in_answers, few_in_answers_one, few_in_keeping, few_in_nothing, few_in_says, few_in_sends}
use Rattle.st_trace.specs.Client.Commands as ending
use Rattle.st_trace.specs.Client.Commands.{Finishes, Takes}
use Rattle.st_trace.specs.Client.Each.{Each, Ends, Next}
use Rattle.st_trace.specs.Client.Losses as losing
use Rattle.st_trace.specs.Client.Losses.{Ended, Loses}
use Rattle.st_trace.specs.Client.Messages as trace
use Rattle.st_trace.specs.Client.Messages.{Effect, Receives, Refusal, Renews}
use Rattle.st_trace.proofs.Client.Finishing.{finishes, takes}
use Rattle.st_trace.proofs.Client.Losing.{loses}
use Rattle.st_trace.proofs.Client.Receiving.{receives}

-- notes are said
few_in_quiet : (t : Turn) (os : List Output) → weigh of_rise os ≡ 0 → weigh of_message os ≡ 0 → C 0 0 0 t (record t { out = t.out ++ os })
few_in_quiet t os e f = few_in_says 0 0 0 0 0 t os e f (omega arith) (omega arith)

-- what costs nothing costs one message at most
one_at_most : {os : List Operation} {ds : List DirtyPage} {out : List Output} {os2 : List Operation} {ds2 : List DirtyPage} {out2 : List Output} →
    Costs 0 0 0 os ds out os2 ds2 out2 → Costs 0 0 1 os ds out os2 ds2 out2
one_at_most x = let m = x.messages in record { ops = x.ops; dirty = x.dirty; commands = x.commands; messages = omega (arith, m) }

-- What is heard.
learned_dirty : (st : Store) (ino : ℕ) (rows : List ExtentRow) (asked : Body) → (cr.learned ino rows asked st).pages.dirty ≡ st.pages.dirty
learned_dirty st ino rows (bodies.Map i g p) = map_rows rows
  where
    map_rows : (rs : List ExtentRow) → (cr.learn_map ino p rs st).pages.dirty ≡ st.pages.dirty
    map_rows [] = refl
    map_rows (r ∷ rs) = refl
learned_dirty st ino rows asked = refl

few_in_refused : (t : Turn) (file : Option ℕ) (asked : Body) (w : Why) (a b : ℕ) (u : Turn) → Refusal t file asked w a b u → C 0 0 0 t u
few_in_refused t file asked _ a b _ (trace.NoFile _ _ ino e) = few_in_answers _ _ t
few_in_refused t file asked _ a b _ (trace.TooManyLocks _ _ ino e) = few_in_answers _ _ t
few_in_refused t file asked _ a b _ (trace.NoSpace _ _ ino p e q) = few_in_answers _ _ t
few_in_refused t file asked _ a b _ (trace.NotHolder _ _ e) = few_in_answers _ _ t
few_in_refused t file asked w a b _ (trace.AnswersNone _ _ _) = few_in_nothing 0 0 0 t

few_in_stuck : (f : Operation → Operation) (t : Turn) → C 0 0 0 t (state.with_operations (map f t.operations) t)
few_in_stuck f t = let z = length_map f t.operations in record { ops = omega (arith, z); dirty = λ h. h; commands = omega arith; messages = omega arith }

few_in_effect : (now : Stamp) (t : Turn) (s : ClientSession) (file : Option ℕ) (asked b : Body) (u : Turn) → Effect now t s file asked b u → C 0 0 0 t u
few_in_effect now t s file asked _ _ (trace.IsGranted ino g mode v k) = few_in_nothing 0 0 0 t
few_in_effect now t s file asked _ _ (trace.IsQueued ino mode c) = few_in_nothing 0 0 0 t
few_in_effect now t s file asked _ _ (trace.HoldsAlready ino mode c) = few_in_nothing 0 0 0 t
few_in_effect now t s file asked _ _ (trace.IsToldExtents ino rows c) =
    record {
      ops = omega arith;
      dirty = λ h. subst (λ (ds : List DirtyPage). length ds ≤ 64) (sym (learned_dirty t.here.store ino rows asked)) h;
      commands = omega arith;
      messages = omega arith;
    }
few_in_effect now t s file asked _ _ (trace.IsToldLate ino rows c) = few_in_nothing 0 0 0 t
few_in_effect now t s file asked _ _ trace.IsAcknowledged = few_in_answers _ _ t
few_in_effect now t s file asked _ _ (trace.IsNamed r k) = few_in_answers _ _ t
few_in_effect now t s file asked _ _ (trace.IsRemoved ino removed l f h) = few_in_answers (state.is_asked t.here.server) (answers.Named ino) t
few_in_effect now t s file asked _ _ trace.IsReasserted = few_in_nothing 0 0 0 t
few_in_effect now t s file asked _ _ (trace.Effect.IsRefused w a b u r) = few_in_after 0 0 0 t u (trace.left_stuck u) (few_in_refused t file asked w a b u r)
    (few_in_stuck (cr.stuck u) u)

few_in_renewed : (t : Turn) (s : ClientSession) (stamp : Stamp) (u : Turn) → Renews t s stamp u → C 0 0 0 t u
few_in_renewed t s stamp _ (trace.IsLater e) = few_in_quiet t (_ ∷ []) refl refl
few_in_renewed t s stamp _ (trace.IsNoLater e) = few_in_nothing 0 0 0 t

few_in_heard : (now : Stamp) (h : Header) (t : Turn) (b : Body) (u : Turn) → Receives now h t b u → C 0 0 1 t u
unfolding send
few_in_heard now h t _ _ (trace.PassesOver b) = few_in_nothing 0 0 1 t
few_in_heard now h t _ _ (trace.Begins r e i) = one_at_most (few_in_quiet t (_ ∷ []) refl refl)
few_in_heard now h t _ _ (trace.FollowsEpoch s a b m e) = one_at_most (few_in_answers (state.is_asked t.here.server) (answers.Uncertain s.epoch.0 h.epoch)
    (with_session (cr.in_epoch (trace.epoch_of h) s) t))
few_in_heard now h t _ _ (trace.IsCondemned b s m c) = few_in_nothing 0 0 1 t
few_in_heard now h t _ _ (trace.IsGrantedLater ino g mode s v m e k) = few_in_nothing 0 0 1 t
few_in_heard now h t _ _ (trace.SeesDemand ino g to s m e) = few_in_sends t (_ ∷ []) refl refl
few_in_heard now h t _ _ (trace.GivesUp ino g to s m e k) = few_in_nothing 0 0 1 t
few_in_heard now h t _ _ (trace.HasGivenUp ino g to s m e k) = few_in_nothing 0 0 1 t
few_in_heard now h t _ u (trace.IsAnswered b s q v _ r n f) =
    let x = cr.ended_by (trace.stamp_of h) s in
    one_at_most (few_in_after 0 0 0 t (with_session x v) u (few_in_renewed t s (trace.stamp_of h) v n)
    (few_in_effect now (with_session x v) x (state.file_asked s.cutting q.body) q.body b u f))

pub few_in_receive : (now : Stamp) (h : Header) (b : Body) (t : Turn) → C 0 0 1 t (cr.receive_at now h b t)
few_in_receive now h b t = few_in_heard now h t b (cr.receive_at now h b t) (receives now h t b)

-- The end of a command.
harden_few : (ps : Pages) (ino : ℕ) (p : PageNo) → length ps.dirty ≤ 64 → length (pages.harden ps ino p).dirty ≤ 64
unfolding pages.harden pages.harden_at pages.harden_page
harden_few ps ino p h = go (pages.dirty_of ps ino p)
  where
    go : (o : Option DirtyPage) → length (pages.harden_at ps o).dirty ≤ 64
    go None = h
    go (Some d) = let z = filtered_no_longer (λ e. not (pages.is_dirty_of d.ino d.page e)) ps.dirty in omega (arith, z, h)

pub few_in_finish : (number : ℕ) (r : Option (Option (Tag × List ℕ))) (t : Turn) → C 0 0 0 t (cl.finish number r t)
unfolding pages.fill pages.fail
few_in_finish number r t = go (cl.finish number r t) (finishes number r t)
  where
    failing : (c : PageCommand) → C 0 0 0 t (ending.with_pages (pages.fail t.here.store.pages c.ino c.page c.number) (ending.without c t))
    failing c =
        record {
          ops = omega arith;
          dirty = λ h. let z = length_map (pages.fail_of c.ino c.page c.number) t.here.store.pages.dirty in omega (arith, z, h);
          commands = omega arith;
          messages = omega arith;
        }

    go : (u : Turn) → Finishes number r t u → C 0 0 0 t u
    go _ (ending.IsUnknown e) = few_in_nothing 0 0 0 t
    go _ (ending.IsOfOtherKind c block o e k) = few_in_nothing 0 0 0 t
    go _ (ending.Fills c block o k e) = few_in_nothing 0 0 0 t
    go _ (ending.Hardens c v o k e i) =
        record { ops = omega arith; dirty = harden_few t.here.store.pages c.ino c.page; commands = omega arith; messages = omega arith }
    go _ (ending.WroteOlder c v o k e i) = few_in_nothing 0 0 0 t
    go _ (ending.FailsToRead c o k e) = few_in_answers _ _ (ending.without c t)
    go _ (ending.FailsToWrite c v o k e i) =
        let u = ending.with_pages (pages.fail t.here.store.pages c.ino c.page c.number) (ending.without c t) in
        few_in_after 0 0 0 t u (state.answer_each (cl.waits_for_write t c) (answers.DiskFault c.number) u) (failing c) (few_in_answers _ _ u)
    go _ (ending.FailsToWriteOlder c v o k e i) = few_in_answers _ _ (ending.without c t)

-- An ask is one more operation at its server.
pub few_in_take : (op : ℕ) (ask : Ask) (t : Turn) → C 1 0 0 t (cl.take_ask op ask t)
few_in_take op ask t = go (cl.take_ask op ask t) (takes op ask t)
  where
    go : (u : Turn) → Takes op ask t u → C 1 0 0 t u
    go _ (ending.TellsLost f q l) = few_in_says 1 0 0 0 0 t (_ ∷ []) refl refl (omega arith) (omega arith)
    go _ (ending.WaitsForSync f q l) = few_in_keeping 0 0 (state.new_operation op ask) t t (few_in_nothing 0 0 0 t)
    go _ (ending.Waits n) = few_in_keeping 0 0 (state.new_operation op ask) t t (few_in_nothing 0 0 0 t)

-- Losses.
few_in_ended : (s : ClientSession) (o : Operation) (t u : Turn) → Ended s o t u → C 1 0 0 t u
few_in_ended s o t _ (losing.IsElsewhere e) = few_in_keeping 0 0 o t t (few_in_nothing 0 0 0 t)
few_in_ended s o t _ (losing.IsUncertain e q) = few_in_answers_one 1 0 t o.op (answers.Uncertain s.epoch.0 0)
few_in_ended s o t _ (losing.IsToldLost f e q a l) = few_in_says 1 0 0 0 0 t (_ ∷ []) refl refl (omega arith) (omega arith)
few_in_ended s o t _ (losing.LostNothing f e q a l) = few_in_answers_one 1 0 t o.op answers.Quiesced
few_in_ended s o t _ (losing.IsQuiesced e q a) = few_in_answers_one 1 0 t o.op answers.Quiesced

few_in_ends : (s : ClientSession) (os : List Operation) (t u : Turn) → Each (Ended s) os t u → C (length os) 0 0 t u
few_in_ends s _ _ _ (Ends t) = few_in_nothing 0 0 0 t
few_in_ends s _ t u (Next o os _ v _ k rest) =
    let x = few_in_ended s o t v k in let y = few_in_ends s os v u rest in
    let e = x.ops in let f = x.commands in let g = x.messages in let h = y.ops in let i = y.commands in let j = y.messages in
    record { ops = omega (arith, e, h); dirty = λ z. y.dirty (x.dirty z); commands = omega (arith, f, i); messages = omega (arith, g, j) }

pub few_in_lose : (now : Stamp) (t : Turn) → C 0 1 0 t (cl.lose now t)
few_in_lose now t = go (cl.lose now t) (loses now t)
  where
    begun : Turn
    begun = state.with_operations [] (losing.loss_noted t)

    go : (u : Turn) → Loses now t u → C 0 1 0 t u
    go _ (losing.HasNoSession e) = few_in_nothing 0 1 0 t
    go _ (losing.Lasts s e o) = few_in_nothing 0 1 0 t
    go _ (losing.IsLost s v e o p) =
        let z = few_in_ends s t.operations begun v p in
        let a = z.ops in let b = z.commands in let c = z.messages in
        let d = weigh_both of_rise t.out (outputs.Note (notes.Lost t.here.server t.here.life) ∷ []) in
        let f = weigh_both of_message t.out (outputs.Note (notes.Lost t.here.server t.here.life) ∷ []) in
        record { ops = omega (arith, a); dirty = λ h. omega arith; commands = omega (arith, b, d); messages = omega (arith, c, f) }
