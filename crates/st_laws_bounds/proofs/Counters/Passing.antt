-- The rules of a client raise a counter only with an output that is counted for it.
use Rattle.st_lemmas.proofs.Words
use Words.{◌≡◌, ℕ, ◌+◌, ◌≤◌, Bool, true, false, List, [], ◌∷◌, ◌++◌, Option, Some, None, refl, sym, subst, arith, if◌then◌else◌, FileId, PageNo, Stamp, Mode}
use Words.{Ask, Body, AppAnswer, Note, Output, Operation}
use Words.modes
use Words.answers
use Words.ClientLocks as locks
use Words.ClientPages as pages
use Words.ClientPages.{Store}
use Words.ClientPasses as cp
use Words.ClientState as state
use Words.ClientState.{ClientSession, Turn, answer_each, answered, send, with_session, with_store}
use Words.Versions.{version_used}
use Rattle.st_laws_bounds.specs.Counters.Counts.{AsksLow}
use Rattle.st_laws_bounds.proofs.Counters.Weights.{Kept, kept_asks, kept_changes, kept_none, kept_says, kept_session, kept_submits, kept_then, note_of_change}
use Rattle.st_trace.specs.Client.Operations as pass
use Rattle.st_trace.specs.Client.Operations.{Changed, Operated}
use Rattle.st_trace.specs.Client.Passes.{Reduced, StaysHeld, IsReduced, WritesOut, StaysDirty, IsWritten, places_of}
use Rattle.st_trace.specs.Client.Requests as asking
use Rattle.st_trace.specs.Client.Requests.{Greets, Requests}
use Rattle.st_trace.proofs.Client.Operating.{operations}
use Rattle.st_trace.proofs.Client.Requesting.{greets, requests}
use Rattle.st_trace.proofs.Client.Walk.{each_lasts, reductions, writes}

abbrev pub K : Turn → Turn → Type 0
K t u =
    Kept t.next_command t.here.store.pages.next_version t.here.life.0 t.here.session t.out
    u.next_command u.here.store.pages.next_version u.here.life.0 u.here.session u.out

pub counters_in_nothing : (t : Turn) → K t t
counters_in_nothing t = kept_none t.next_command t.here.store.pages.next_version t.here.life.0 t.here.session t.out

pub counters_in_sequence : (t u v : Turn) → K t u → K u v → K t v
counters_in_sequence t u v x y =
    kept_then t.next_command t.here.store.pages.next_version t.here.life.0 t.here.session t.out
    u.next_command u.here.store.pages.next_version u.here.life.0 u.here.session u.out
    v.next_command v.here.store.pages.next_version v.here.life.0 v.here.session v.out x y

pub counters_in_choice : (t : Turn) (b : Bool) (u v : Turn) → K t u → K t v → K t (if b then u else v)
counters_in_choice t true u v f g = f
counters_in_choice t false u v f g = g

-- more is said
pub counters_in_says : (t : Turn) (os : List Output) → K t (record t { out = t.out ++ os })
counters_in_says t os = kept_says t.next_command t.here.store.pages.next_version t.here.life.0 t.here.session t.out os

pub counters_in_answers : (picked : Operation → Bool) (a : AppAnswer) (t : Turn) → K t (answer_each picked a t)
unfolding answer_each
counters_in_answers picked a t = counters_in_says t _

-- with pages of the same next version
pub counters_in_pages : (t : Turn) (st : Store) → st.pages.next_version ≡ t.here.store.pages.next_version → K t (with_store st t)
counters_in_pages t st e = subst
    (λ v. Kept t.next_command t.here.store.pages.next_version t.here.life.0 t.here.session t.out t.next_command v t.here.life.0 t.here.session t.out) (sym e)
    (counters_in_nothing t)

-- Sessions.
same_asks : (s r : ClientSession) → r.requests.next ≡ s.requests.next → (m : ℕ) → AsksLow m (Some s) → AsksLow m (Some r)
same_asks s r e m h = subst (λ n. n ≤ m) (sym e) h

pub counters_in_session : (t : Turn) (s r : ClientSession) → t.here.session ≡ Some s → r.requests.next ≡ s.requests.next → K t (with_session r t)
counters_in_session t s r e q = kept_session t.next_command t.here.store.pages.next_version t.here.life.0 t.here.session (Some r) t.out
    (λ m one h. same_asks s r q m (subst (AsksLow m) e h))

-- The pass over the operations.
-- a write and a patch are counted
changed_counts : (ask : Ask) (t : Turn) (f : FileId) (p : PageNo) (bytes : List ℕ) (n : Note) → Changed ask t f p bytes n → note_of_change n ≡ 1
changed_counts ask t _ _ _ _ (pass.IsWritten f p bytes e) = refl
changed_counts ask t _ _ _ _ (pass.IsPatched f p at bytes old e q) = refl

counters_in_operated : (now : Stamp) (all : List Operation) (o : Operation) (t u : Turn) → Operated now all o t u → K t u
unfolding pages.written
counters_in_operated now all o t _ pass.Waits = counters_in_nothing t
counters_in_operated now all o t _ (pass.IsHard f e q h) = counters_in_says t _
counters_in_operated now all o t _ (pass.IsQuiesced s e n a b c) = counters_in_says t _
counters_in_operated now all o t _ (pass.ChangesPage s f p bytes n v c m e) =
    let done = cp.with_pages_changed (pages.written t.here.store.pages f.ino p bytes) f.ino p (state.note t n) in
    counters_in_sequence t done (answered done o.op answers.Written)
    (kept_changes t.next_command t.here.store.pages.next_version t.here.life.0 t.here.session t.out n (changed_counts o.ask t f p bytes n c))
    (counters_in_says done _)
counters_in_operated now all o t _ (pass.IsDirtyFull s f p bytes n v c m e) = counters_in_says t _
counters_in_operated now all o t _ (pass.Fetches s f p m v n c e r) =
    kept_submits t.next_command t.here.store.pages.next_version t.here.life.0 t.here.session t.out t.next_command m.at _
counters_in_operated now all o t _ (pass.ReadsCached s f p bytes v e h q) =
    let used = with_store (record t.here.store { pages = pages.use_page t.here.store.pages f.ino p }) t in
    counters_in_sequence t used (answered used o.op (answers.Read bytes))
    (counters_in_pages t (record t.here.store { pages = pages.use_page t.here.store.pages f.ino p })
    (version_used t.here.store.pages f.ino p)) (counters_in_says used _)
counters_in_operated now all o t _ (pass.ReadsZeros s f p e v a h q k m) = counters_in_says t _

pub counters_in_operations : (now : Stamp) (t : Turn) → K t (cp.operations now t)
counters_in_operations now t =
    let z = state.with_operations [] t in
    each_lasts (Operated now t.operations) (λ os u. K z u) (λ o os u v x k. counters_in_sequence z u v k (counters_in_operated now t.operations o u v x))
    t.operations z
    (cp.operations now t) (operations now t) (counters_in_nothing z)

-- Reductions, writes and greeting.
counters_in_reduced : (ino : ℕ) (t u : Turn) → Reduced ino t u → K t u
unfolding pages.forget_from pages.drop_from
counters_in_reduced ino t _ StaysHeld = counters_in_nothing t
counters_in_reduced ino t _ (IsReduced s g to e m q) = go to
  where
    r : ClientSession
    r = state.with_cache (locks.reduce s.locks ino).locks s

    go : (to : Mode) → K t (with_store (cp.forgotten_at ino to t.here.store) (with_session (cp.released r ino g to) t))
    go modes.None = counters_in_session t s (cp.released r ino g modes.None) e refl
    go modes.S = counters_in_session t s (cp.released r ino g modes.S) e refl
    go modes.X = counters_in_session t s (cp.released r ino g modes.X) e refl

pub counters_in_reductions : (t : Turn) → K t (cp.reductions t)
counters_in_reductions t = each_lasts Reduced (λ inos u. K t u) (λ ino inos u v x k. counters_in_sequence t u v k (counters_in_reduced ino u v x))
    (cp.files_demanded t.here.session) t
    (cp.reductions t) (reductions t) (counters_in_nothing t)

counters_in_written : (now : Stamp) (tick : Bool) (x : ℕ × PageNo) (t u : Turn) → WritesOut now tick x t u → K t u
counters_in_written now tick x t _ StaysDirty = counters_in_nothing t
counters_in_written now tick x t _ (IsWritten s d m e q w i) =
    kept_submits t.next_command t.here.store.pages.next_version t.here.life.0 t.here.session t.out t.next_command m.at _

pub counters_in_writes : (now : Stamp) (tick : Bool) (t : Turn) → K t (cp.writes now tick t)
counters_in_writes now tick t =
    each_lasts (WritesOut now tick) (λ xs u. K t u) (λ y xs u v x k. counters_in_sequence t u v k (counters_in_written now tick y u v x))
    (places_of t.here.session t.here.store.pages) t (cp.writes now tick t) (writes now tick t) (counters_in_nothing t)

pub counters_in_greeting : (now : Stamp) (tick : Bool) (t : Turn) → K t (cp.greeting now tick t)
unfolding send
counters_in_greeting now tick t = go (cp.greeting now tick t) (greets now tick t)
  where
    go : (u : Turn) → Greets now tick t u → K t u
    go _ asking.IsSilent = counters_in_nothing t
    go _ (asking.SaysHello e m) = counters_in_says t _

-- Requests.
asking_more : (s r : ClientSession) (now : Stamp) (b : Body) (cutting : Option ℕ) → r.requests.next ≡ s.requests.next → (m : ℕ) → AsksLow m (Some s) → AsksLow
    (m + 1) (Some (cp.asking_session r now b cutting))
unfolding state.asking
asking_more s r now b cutting e m h = omega (arith, e, h)

counters_in_ask : (t : Turn) (s r : ClientSession) (now : Stamp) (b : Body) (cutting : Option ℕ) → t.here.session ≡ Some s → r.requests.next ≡ s.requests.next →
    K t
    (asking.asked t r now b cutting)
unfolding send
counters_in_ask t s r now b cutting e q =
    kept_asks t.next_command t.here.store.pages.next_version t.here.life.0 t.here.session (Some (cp.asking_session r now b cutting)) t.out _
    (λ m h. asking_more s r now b cutting q m (subst (AsksLow m) e h))

-- the request of an operation
counters_in_asks_for : (t : Turn) (s : ClientSession) (now : Stamp) (xs : List Operation) (b : Body) → t.here.session ≡ Some s → (c : Option (ℕ × PageNo)) →
    K t (asking.asked (with_store (cp.cut_store c t.here.store) (state.with_operations xs t)) s now b (cp.file_cut c))
unfolding pages.forget_from pages.drop_from
counters_in_asks_for t s now xs b e None = counters_in_ask (state.with_operations xs t) s s now b None e refl
counters_in_asks_for t s now xs b e (Some c) =
    counters_in_ask (with_store (cp.cut_store (Some c) t.here.store) (state.with_operations xs t)) s s now b (cp.file_cut (Some c)) e refl

counters_in_requested : (now : Stamp) (tick : Bool) (t u : Turn) → Requests now tick t u → K t u
unfolding send
counters_in_requested now tick t _ asking.AsksNothing = counters_in_nothing t
counters_in_requested now tick t _ (asking.AsksAgain s q e c n o) =
    let u = with_session (cp.again_session s now q) t in
    counters_in_sequence t u (send u s.epoch.0 q.number now.0 q.body) (counters_in_session t s (cp.again_session s now q) e refl)
    (counters_in_says u _)
counters_in_requested now tick t _ (asking.Reasserts s m d) = counters_in_ask t s s now _ None m.session refl
counters_in_requested now tick t _ (asking.Releases s r rs m d e) = counters_in_ask t s (record s { releases = rs }) now _ None m.session refl
counters_in_requested now tick t _ (asking.AsksFor s xs o ys w f e k) = counters_in_asks_for t s now (xs ++ cp.sent_if w.own o ∷ ys) w.body f.may.session w.cut
counters_in_requested now tick t _ (asking.KeepsAlive s f e) = counters_in_ask t s s now _ None f.may.session refl

pub counters_in_requests : (now : Stamp) (tick : Bool) (t : Turn) → K t (cp.requests now tick t)
counters_in_requests now tick t = counters_in_requested now tick t (cp.requests now tick t) (requests now tick t)

pub counters_in_passes : (now : Stamp) (tick : Bool) (t : Turn) → K t (cp.passes now tick t)
unfolding cp.passes
counters_in_passes now tick t =
    let o = cp.operations now t in
    let a = cp.reductions o in
    let b = cp.writes now tick a in
    let c = cp.greeting now tick b in
    let d = cp.requests now tick c in
    counters_in_sequence t o d (counters_in_operations now t) (counters_in_sequence o a d (counters_in_reductions o)
    (counters_in_sequence a b d (counters_in_writes now tick a)
    (counters_in_sequence b c d (counters_in_greeting now tick b) (counters_in_requests now tick c))))
