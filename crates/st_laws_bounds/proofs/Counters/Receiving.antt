-- What a client receives, asks and loses raises a counter only with an output that is counted for it.
use Rattle.st_lemmas.proofs.Words
use Words.{◌≡◌, ℕ, ◌+◌, ◌≤◌, false, List, [], ◌∷◌, ◌++◌, Option, Some, None, refl, sym, ◌∙◌, subst, arith, Tag, GrantNo, ServerId, Stamp, Mode}
use Words.{ExtentRow, Ask, Body, Header, Why, Operation, Life, Output}
use Words.modes
use Words.answers
use Words.bodies
use Words.Client as cl
use Words.ClientLocks as locks
use Words.ClientPages as pages
use Words.ClientPages.{Store}
use Words.ClientReplies as cr
use Words.ClientState as state
use Words.ClientState.{ClientSession, Turn, answer_each, is_at, only_at, send, with_session}
use Words.notes
use Words.outputs
use Words.Versions.{version_hardened}
use Rattle.st_laws_bounds.proofs.Counters.Weights.{Kept, Rises, kept_loses, kept_session, of_loss, rises_more, rises_none, rises_then, weigh_both}
use Rattle.st_laws_bounds.proofs.Counters.Passing.{K, counters_in_answers, counters_in_choice, counters_in_nothing, counters_in_pages, counters_in_says, counters_in_session, counters_in_sequence}
use Rattle.st_trace.specs.Client.Commands as ending
use Rattle.st_trace.specs.Client.Commands.{Finishes, Takes}
use Rattle.st_trace.specs.Client.Losses as losing
use Rattle.st_trace.specs.Client.Losses.{Ended, Loses}
use Rattle.st_trace.specs.Client.Messages as trace
use Rattle.st_trace.specs.Client.Messages.{Effect, Grants, Receives, Refusal, Renews}
use Rattle.st_trace.proofs.Client.Finishing.{finishes, takes}
use Rattle.st_trace.proofs.Client.Losing.{loses}
use Rattle.st_trace.proofs.Client.Receiving.{receives}
use Rattle.st_trace.proofs.Client.Walk.{each_lasts}

-- What is heard.
granted_same : (s : ClientSession) (ino : ℕ) (g : GrantNo) (mode : Mode) (v : ClientSession) → Grants s ino g mode v → v.requests.next ≡ s.requests.next
granted_same s ino g mode _ (trace.Installs a p) = refl
granted_same s ino g mode _ (trace.Declines a p) = refl
granted_same s ino g mode _ (trace.IsOld a) = refl

learned_same : (st : Store) (ino : ℕ) (rows : List ExtentRow) (asked : Body) → (cr.learned ino rows asked st).pages.next_version ≡ st.pages.next_version
learned_same st ino rows (bodies.Map i g p) = map rows
  where
    map : (rs : List ExtentRow) → (cr.learn_map ino p rs st).pages.next_version ≡ st.pages.next_version
    map [] = refl
    map (r ∷ rs) = refl
learned_same st ino rows asked = refl

counters_in_refused : (t : Turn) (file : Option ℕ) (asked : Body) (w : Why) (a b : ℕ) (u : Turn) → Refusal t file asked w a b u → K t u
counters_in_refused t file asked _ a b _ (trace.NoFile _ _ ino e) = counters_in_answers _ _ t
counters_in_refused t file asked _ a b _ (trace.TooManyLocks _ _ ino e) = counters_in_answers _ _ t
counters_in_refused t file asked _ a b _ (trace.NoSpace _ _ ino p e q) = counters_in_answers _ _ t
counters_in_refused t file asked _ a b _ (trace.NotHolder _ _ e) = counters_in_answers _ _ t
counters_in_refused t file asked w a b _ (trace.AnswersNone _ _ _) = counters_in_nothing t

counters_in_effect : (now : Stamp) (t : Turn) (s : ClientSession) (file : Option ℕ) (asked b : Body) (u : Turn) → t.here.session ≡ Some s →
    Effect now t s file asked b u → K t u
unfolding answer_each
counters_in_effect now t s file asked _ _ e (trace.IsGranted ino g mode v k) =
    counters_in_session t s v e (granted_same (state.forget_wait ino s) ino g mode v k)
counters_in_effect now t s file asked _ _ e (trace.IsQueued ino mode c) = counters_in_session t s _ e refl
counters_in_effect now t s file asked _ _ e (trace.HoldsAlready ino mode c) = counters_in_session t s s e refl
counters_in_effect now t s file asked _ _ e (trace.IsToldExtents ino rows c) =
    counters_in_pages t (cr.learned ino rows asked t.here.store) (learned_same t.here.store ino rows asked)
counters_in_effect now t s file asked _ _ e (trace.IsToldLate ino rows c) = counters_in_nothing t
counters_in_effect now t s file asked _ _ e trace.IsAcknowledged = counters_in_answers _ _ t
counters_in_effect now t s file asked _ _ e (trace.IsNamed r k) = counters_in_answers _ _ t
counters_in_effect now t s file asked _ _ e (trace.IsRemoved ino removed l f h) =
    let u = answer_each (state.is_asked t.here.server) (answers.Named ino) t in
    let r = state.with_release removed l.g modes.None (state.with_cache (locks.drop_lock s.locks removed) s) in
    counters_in_sequence t u (with_session r u) (counters_in_answers (state.is_asked t.here.server) (answers.Named ino) t) (counters_in_session u s r e refl)
counters_in_effect now t s file asked _ _ e trace.IsReasserted = counters_in_session t s (record s { due = false }) e refl
counters_in_effect now t s file asked _ _ e (trace.Effect.IsRefused w a b u r) = counters_in_refused t file asked w a b u r

counters_in_renewed : (t : Turn) (s : ClientSession) (stamp : Stamp) (u : Turn) → Renews t s stamp u → (K t u) × (u.here.session ≡ t.here.session)
counters_in_renewed t s stamp _ (trace.IsLater e) = (counters_in_says t _, refl)
counters_in_renewed t s stamp _ (trace.IsNoLater e) = (counters_in_nothing t, refl)

-- a session that asked nothing yet, in place of any
counters_in_begun : (t : Turn) (r : ClientSession) → r.requests.next ≡ 1 → K t (with_session r t)
counters_in_begun t r e = kept_session t.next_command t.here.store.pages.next_version t.here.life.0 t.here.session (Some r) t.out
    (λ m one h. subst (λ n. n ≤ m) (sym e) one)

-- more is said after a change
counters_in_weaker : (t u : Turn) (os : List Output) → K t u → K t (record u { out = u.out ++ os })
counters_in_weaker t u os k = counters_in_sequence t u (record u { out = u.out ++ os }) k (counters_in_says u os)

counters_in_heard : (now : Stamp) (h : Header) (t : Turn) (b : Body) (u : Turn) → Receives now h t b u → K t u
unfolding send
counters_in_heard now h t _ _ (trace.PassesOver b) = counters_in_nothing t
counters_in_heard now h t _ _ (trace.Begins r e i) =
    let s = cr.new_session (trace.epoch_of h) (trace.stamp_of h) in counters_in_weaker t (cr.begin_here s t) _ (counters_in_begun t s refl)
counters_in_heard now h t _ _ (trace.FollowsEpoch s a b m e) =
    let u = with_session (cr.in_epoch (trace.epoch_of h) s) t in
    counters_in_sequence t u (answer_each (state.is_asked t.here.server) (answers.Uncertain s.epoch.0 h.epoch) u)
    (counters_in_begun t (cr.in_epoch (trace.epoch_of h) s) refl)
    (counters_in_answers (state.is_asked t.here.server) (answers.Uncertain s.epoch.0 h.epoch) u)
counters_in_heard now h t _ _ (trace.IsCondemned b s m c) = counters_in_session t s _ m.session refl
counters_in_heard now h t _ _ (trace.IsGrantedLater ino g mode s v m e k) =
    counters_in_session t s v m.session (granted_same (state.forget_wait ino s) ino g mode v k)
counters_in_heard now h t _ _ (trace.SeesDemand ino g to s m e) =
    let r = state.with_cache (locks.demand s.locks ino g to).locks s in counters_in_weaker t (with_session r t) _ (counters_in_session t s r m.session refl)
counters_in_heard now h t _ _ (trace.GivesUp ino g to s m e k) =
    counters_in_session t s (state.with_release ino g modes.None (state.with_cache (locks.demand s.locks ino g to).locks s)) m.session refl
counters_in_heard now h t _ _ (trace.HasGivenUp ino g to s m e k) =
    counters_in_session t s (state.with_cache (locks.demand s.locks ino g to).locks s) m.session refl
counters_in_heard now h t _ u (trace.IsAnswered b s q v _ r n f) =
    let x = cr.ended_by (trace.stamp_of h) s in
    let y = counters_in_renewed t s (trace.stamp_of h) v n in
    counters_in_sequence t (with_session x v) u (counters_in_sequence t v (with_session x v) y.0 (counters_in_session v s x (y.1 ∙ r.heard.session) refl))
    (counters_in_effect now (with_session x v) x (state.file_asked s.cutting q.body) q.body b u refl f)

pub counters_in_receive : (now : Stamp) (h : Header) (b : Body) (t : Turn) → K t (cr.receive_at now h b t)
counters_in_receive now h b t = counters_in_heard now h t b (cr.receive_at now h b t) (receives now h t b)

pub counters_in_finish : (number : ℕ) (r : Option (Option (Tag × List ℕ))) (t : Turn) → K t (cl.finish number r t)
unfolding pages.fill pages.fail
counters_in_finish number r t = go (cl.finish number r t) (finishes number r t)
  where
    go : (u : Turn) → Finishes number r t u → K t u
    go _ (ending.IsUnknown e) = counters_in_nothing t
    go _ (ending.IsOfOtherKind c block o e k) = counters_in_nothing t
    go _ (ending.Fills c block o k e) = counters_in_nothing t
    go _ (ending.Hardens c v o k e i) =
        counters_in_pages t (record (ending.without c t).here.store { pages = pages.harden (ending.without c t).here.store.pages c.ino c.page })
        (version_hardened t.here.store.pages c.ino c.page)
    go _ (ending.WroteOlder c v o k e i) = counters_in_nothing t
    go _ (ending.FailsToRead c o k e) = counters_in_answers _ _ (ending.without c t)
    go _ (ending.FailsToWrite c v o k e i) = counters_in_answers _ _
        (ending.with_pages (pages.fail t.here.store.pages c.ino c.page c.number) (ending.without c t))
    go _ (ending.FailsToWriteOlder c v o k e i) = counters_in_answers _ _ (ending.without c t)

-- An ask, and losses.
pub counters_in_take : (s : ServerId) (op : ℕ) (ask : Ask) (t : Turn) → K t (only_at s (cl.take_ask op ask) t)
unfolding only_at
counters_in_take s op ask t = counters_in_choice t (is_at s t.here) _ t (go (cl.take_ask op ask t) (takes op ask t)) (counters_in_nothing t)
  where
    go : (u : Turn) → Takes op ask t u → K t u
    go _ (ending.TellsLost f q l) = counters_in_says t _
    go _ (ending.WaitsForSync f q l) = counters_in_nothing t
    go _ (ending.Waits n) = counters_in_nothing t

-- what ends operations says no more than answers, and leaves the life and the count of commands
record Answers (t u : Turn) : Type 0 where
  pub next : u.next_command ≡ t.next_command
  pub life : u.here.life ≡ t.here.life
  pub rises : Rises t.out u.out

answered_more : (s : ClientSession) (o : Operation) (t u v : Turn) → Ended s o u v → Answers t u → Answers t v
answered_more s o t u _ (losing.IsElsewhere e) x = record { next = x.next; life = x.life; rises = x.rises }
answered_more s o t u _ (losing.IsUncertain e q) x = record { next = x.next; life = x.life; rises = rises_then t.out u.out _ x.rises (rises_more u.out _) }
answered_more s o t u _ (losing.IsToldLost f e q a l) x = record { next = x.next; life = x.life; rises = rises_then t.out u.out _ x.rises (rises_more u.out _) }
answered_more s o t u _ (losing.LostNothing f e q a l) x = record {
  next = x.next;
  life = x.life;
  rises = rises_then t.out u.out _ x.rises
      (rises_more u.out _);
}
answered_more s o t u _ (losing.IsQuiesced e q a) x = record { next = x.next; life = x.life; rises = rises_then t.out u.out _ x.rises (rises_more u.out _) }

pub counters_in_lose : (now : Stamp) (t : Turn) → K t (cl.lose now t)
counters_in_lose now t = go (cl.lose now t) (loses now t)
  where
    begun : Turn
    begun = state.with_operations [] (losing.loss_noted t)

    lost : (v : Turn) → Answers begun v → K t (cl.empty_here v)
    lost v x =
        let first = weigh_both of_loss t.out (outputs.Note (notes.Lost t.here.server t.here.life) ∷ []) in
        let l = x.rises.losses in
        subst (λ n. Kept t.next_command t.here.store.pages.next_version t.here.life.0 t.here.session t.out n 1 (v.here.life.0 + 1) None v.out) (sym x.next)
        (subst (λ (y : Life). Kept t.next_command t.here.store.pages.next_version t.here.life.0 t.here.session t.out t.next_command 1 (y.0 + 1) None v.out)
        (sym x.life)
        (kept_loses t.next_command t.here.store.pages.next_version t.here.life.0 t.here.session t.out v.out
        (rises_then t.out begun.out v.out (rises_more t.out _) x.rises) (omega (arith, l, first))))

    go : (u : Turn) → Loses now t u → K t u
    go _ (losing.HasNoSession e) = counters_in_nothing t
    go _ (losing.Lasts s e o) = counters_in_nothing t
    go _ (losing.IsLost s v e o p) =
        lost v (each_lasts (Ended s) (λ os u. Answers begun u) (λ x os u w k z. answered_more s x begun u w k z) t.operations begun v p
        (record { next = refl; life = refl; rises = rises_none begun.out }))
