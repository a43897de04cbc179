-- The passes of a client at a server: at most one command or change for each operation, one command for each dirty page, and two messages.
-- Commands, changes and losses are counted together, by what raises a counter.
use Rattle.st_lemmas.proofs.Words
use Words.{◌≡◌, ℕ, ◌+◌, ◌≤◌, Bool, List, [], ◌∷◌, ◌++◌, Option, Some, None, refl, sym, ap, ◌∙◌, subst, arith, length, filter, map, not, leb-false, PageNo}
use Words.{Stamp, Mode, AppAnswer, Body, Output, Operation, DirtyPage, length-append}
use Words.modes
use Words.answers
use Words.outputs
use Words.Keys.{page_no, rising}
use Words.ClientLocks as locks
use Words.ClientPages as pages
use Words.ClientPages.{Pages}
use Words.ClientPasses as cp
use Words.ClientState as state
use Words.ClientState.{ClientSession, Turn, answer_each, keep, say, send}
use Words.commands
use Words.io
use Words.Lengths.{length_map}
use Words.Tests.{filtered_no_longer}
use Words.Versions.{dirty_used}
use Rattle.st_laws_bounds.proofs.Counters.Reading.{as_many}
use Rattle.st_laws_bounds.proofs.Counters.Servers.{flat_many}
use Rattle.st_laws_bounds.proofs.Counters.Weights.{note_rises, of_message, of_rise, weigh, weigh_both}
use Rattle.st_laws_bounds.proofs.FewMessages.Lengths.{put_few, rising_length}
use Rattle.st_trace.specs.Client.Each.{Each, Ends, Next}
use Rattle.st_trace.specs.Client.Operations as pass
use Rattle.st_trace.specs.Client.Operations.{Operated}
use Rattle.st_trace.specs.Client.Passes.{Reduced, StaysHeld, IsReduced, WritesOut, StaysDirty, IsWritten, places_of}
use Rattle.st_trace.specs.Client.Requests as asking
use Rattle.st_trace.specs.Client.Requests.{Greets, Requests}
use Rattle.st_trace.proofs.Client.Operating.{operations}
use Rattle.st_trace.proofs.Client.Requesting.{greets, requests}
use Rattle.st_trace.proofs.Client.Walk.{each_lasts, reductions, writes}

-- What a rule leaves: at most this many more operations are pending, at most 64 pages are dirty if they were, and at most this many
-- commands and messages more were said.
pub record Costs (k c m : ℕ) (os : List Operation) (ds : List DirtyPage) (out : List Output) (os2 : List Operation) (ds2 : List DirtyPage)
    (out2 : List Output) : Type 0 where
  pub ops : length os2 ≤ k + length os
  pub dirty : length ds ≤ 64 → length ds2 ≤ 64
  pub commands : weigh of_rise out2 ≤ c + weigh of_rise out
  pub messages : weigh of_message out2 ≤ m + weigh of_message out

abbrev pub C : ℕ → ℕ → ℕ → Turn → Turn → Type 0
C k c m t u = Costs k c m t.operations t.here.store.pages.dirty t.out u.operations u.here.store.pages.dirty u.out

pub few_in_nothing : (k c m : ℕ) (t : Turn) → C k c m t t
few_in_nothing k c m t = record { ops = omega arith; dirty = λ h. h; commands = omega arith; messages = omega arith }

pub few_in_sequence : (k c m l d n : ℕ) (t u v : Turn) → C k c m t u → C l d n u v → C (k + l) (c + d) (m + n) t v
few_in_sequence k c m l d n t u v x y =
    let e = x.ops in let f = x.commands in let g = x.messages in let h = y.ops in let i = y.commands in let j = y.messages in
    record { ops = omega (arith, e, h); dirty = λ z. y.dirty (x.dirty z); commands = omega (arith, f, i); messages = omega (arith, g, j) }

-- after what costs nothing
pub few_in_after : (k c m : ℕ) (t u v : Turn) → C 0 0 0 t u → C k c m u v → C k c m t v
few_in_after k c m t u v x y =
    let e = x.ops in let f = x.commands in let g = x.messages in let h = y.ops in let i = y.commands in let j = y.messages in
    record { ops = omega (arith, e, h); dirty = λ z. y.dirty (x.dirty z); commands = omega (arith, f, i); messages = omega (arith, g, j) }

-- before what costs nothing
pub few_in_before : (k c m : ℕ) (t u v : Turn) → C k c m t u → C 0 0 0 u v → C k c m t v
few_in_before k c m t u v x y =
    let e = x.ops in let f = x.commands in let g = x.messages in let h = y.ops in let i = y.commands in let j = y.messages in
    record { ops = omega (arith, e, h); dirty = λ z. y.dirty (x.dirty z); commands = omega (arith, f, i); messages = omega (arith, g, j) }

-- more is said, this many commands and messages of it
costs_say : (k c m i j : ℕ) (ops ops2 : List Operation) (dirty dirty2 : List DirtyPage) (out os : List Output) → length ops2 ≤ k + length ops →
    (length dirty ≤ 64 → length dirty2 ≤ 64) →
    weigh of_rise os ≡ i → weigh of_message os ≡ j → i ≤ c → j ≤ m → Costs k c m ops dirty out ops2 dirty2 (out ++ os)
costs_say k c m i j ops ops2 dirty dirty2 out os l d e f p q =
    let x = weigh_both of_rise out os in let y = weigh_both of_message out os in
    record { ops = l; dirty = d; commands = omega (arith, x, e, p); messages = omega (arith, y, f, q) }

pub few_in_says : (k c m i j : ℕ) (t : Turn) (os : List Output) → weigh of_rise os ≡ i → weigh of_message os ≡ j → i ≤ c → j ≤ m → C k c m t
    (record t { out = t.out ++ os })
few_in_says k c m i j t os e f p q = costs_say k c m i j t.operations t.operations t.here.store.pages.dirty t.here.store.pages.dirty t.out os (omega arith)
    (λ h. h) e f p q

-- an answer, and a message
pub few_in_answers_one : (k c : ℕ) (t : Turn) (op : ℕ) (a : AppAnswer) → C k c 0 t (state.answered t op a)
few_in_answers_one k c t op a = few_in_says k c 0 0 0 t (outputs.Answer op a ∷ []) refl refl (omega arith) (omega arith)

pub few_in_sends : (t : Turn) (os : List Output) → weigh of_rise os ≡ 0 → weigh of_message os ≡ 1 → C 0 0 1 t (record t { out = t.out ++ os })
few_in_sends t os e f = few_in_says 0 0 1 0 1 t os e f (omega arith) (omega arith)

-- one more operation is pending
pub few_in_keeping : (c m : ℕ) (o : Operation) (t u : Turn) → C 0 c m t u → C 1 c m t (keep o u)
few_in_keeping c m o t u x = let a = x.ops in let z = length-append u.operations (o ∷ []) in record {
  ops = omega (arith, a, z);
  dirty = x.dirty;
  commands = x.commands;
  messages = x.messages;
}

-- operations are answered
no_commands : (a : AppAnswer) (os : List Operation) → weigh of_rise (map (state.answer_to a) os) ≡ 0
no_commands a [] = refl
no_commands a (o ∷ os) = let z = no_commands a os in omega (arith, z)

no_messages : (a : AppAnswer) (os : List Operation) → weigh of_message (map (state.answer_to a) os) ≡ 0
no_messages a [] = refl
no_messages a (o ∷ os) = let z = no_messages a os in omega (arith, z)

pub few_in_answers : (picked : Operation → Bool) (a : AppAnswer) (t : Turn) → C 0 0 0 t (answer_each picked a t)
unfolding answer_each
few_in_answers picked a t =
    let x = weigh_both of_rise t.out (map (state.answer_to a) (filter picked t.operations)) in
    let y = weigh_both of_message t.out (map (state.answer_to a) (filter picked t.operations)) in
    let e = no_commands a (filter picked t.operations) in let f = no_messages a (filter picked t.operations) in
    let g = filtered_no_longer (λ o. not (picked o)) t.operations in
    record { ops = omega (arith, g); dirty = λ h. h; commands = omega (arith, x, e); messages = omega (arith, y, f) }

-- a command is submitted
few_in_submitted : (t : Turn) (os : List Output) → weigh of_rise os ≡ 1 → weigh of_message os ≡ 0 → C 0 1 0 t (record t { out = t.out ++ os })
few_in_submitted t os e f = few_in_says 0 1 0 1 0 t os e f (omega arith) (omega arith)

stays : (t : Turn) (o : Operation) → C 1 1 0 t (keep o t)
stays t o = few_in_keeping 1 0 o t t (few_in_nothing 0 1 0 t)

few_in_operated : (now : Stamp) (all : List Operation) (o : Operation) (t u : Turn) → Operated now all o t u → C 1 1 0 t u
unfolding pages.written
few_in_operated now all o t _ pass.Waits = stays t o
few_in_operated now all o t _ (pass.IsHard f e q h) = few_in_answers_one 1 1 t o.op _
few_in_operated now all o t _ (pass.IsQuiesced s e n a b c) = few_in_answers_one 1 1 t o.op _
few_in_operated now all o t _ (pass.ChangesPage s f p bytes n v c m e) =
    let dirty = t.here.store.pages.dirty in
    let a = weigh_both of_rise t.out (outputs.Note n ∷ []) in let b = weigh_both of_rise (t.out ++ outputs.Note n ∷ [])
    (outputs.Answer o.op answers.Written ∷ []) in
    let d = weigh_both of_message t.out (outputs.Note n ∷ []) in let g = weigh_both of_message (t.out ++ outputs.Note n ∷ [])
    (outputs.Answer o.op answers.Written ∷ []) in
    record {
      ops = omega arith;
      dirty = λ h. put_few (pages.is_dirty_of f.ino p) (pages.new_dirty t.here.store.pages f.ino p bytes) dirty h (leb-false 64 _ e);
      commands = let r = note_rises n in omega (arith, a, b, r);
      messages = omega (arith, d, g);
    }
few_in_operated now all o t _ (pass.IsDirtyFull s f p bytes n v c m e) = few_in_answers_one 1 1 t o.op _
few_in_operated now all o t _ (pass.Fetches s f p m v n c e r) =
    let u = say (cp.with_command f.ino p io.Read t) (outputs.Submit t.next_command m.at (commands.Read m.at)) in few_in_keeping 1 0 o t u
    (few_in_submitted t (_ ∷ []) refl refl)
few_in_operated now all o t _ (pass.ReadsCached s f p bytes v e h q) =
    costs_say 1 1 0 0 0 t.operations t.operations t.here.store.pages.dirty (pages.use_page t.here.store.pages f.ino p).dirty t.out
    (outputs.Answer o.op (answers.Read bytes) ∷ []) (omega arith)
    (λ z. subst (λ (ds : List DirtyPage). length ds ≤ 64) (sym (dirty_used t.here.store.pages f.ino p)) z) refl refl (omega arith) (omega arith)
few_in_operated now all o t _ (pass.ReadsZeros s f p e v a h q k m) = few_in_answers_one 1 1 t o.op _

few_in_operates : (now : Stamp) (all os : List Operation) (t u : Turn) → Each (Operated now all) os t u → C (length os) (length os) 0 t u
few_in_operates now all _ _ _ (Ends t) = few_in_nothing 0 0 0 t
few_in_operates now all _ t u (Next o os _ v _ k rest) =
    let x = few_in_operated now all o t v k in let y = few_in_operates now all os v u rest in
    let e = x.ops in let f = x.commands in let g = x.messages in let h = y.ops in let i = y.commands in let j = y.messages in
    record { ops = omega (arith, e, h); dirty = λ z. y.dirty (x.dirty z); commands = omega (arith, f, i); messages = omega (arith, g, j) }

few_in_operations : (now : Stamp) (t : Turn) → C 0 (length t.operations) 0 t (cp.operations now t)
few_in_operations now t =
    let x = few_in_operates now t.operations t.operations (state.with_operations [] t) (cp.operations now t) (operations now t) in let e = x.ops in
    record { ops = omega (arith, e); dirty = x.dirty; commands = x.commands; messages = x.messages }

-- Reductions.
few_in_reduced : (ino : ℕ) (t u : Turn) → Reduced ino t u → C 0 0 0 t u
unfolding pages.forget_from pages.drop_from
few_in_reduced ino t _ StaysHeld = few_in_nothing 0 0 0 t
few_in_reduced ino t _ (IsReduced s g to e m q) = go to
  where
    go : (to : Mode) → C 0 0 0 t (state.with_store (cp.forgotten_at ino to t.here.store)
        (state.with_session (cp.released (state.with_cache (locks.reduce s.locks ino).locks s) ino g to) t))
    go modes.None = few_in_nothing 0 0 0 t
    go modes.S = few_in_nothing 0 0 0 t
    go modes.X = few_in_nothing 0 0 0 t

few_in_reductions : (t : Turn) → C 0 0 0 t (cp.reductions t)
few_in_reductions t = each_lasts Reduced (λ inos u. C 0 0 0 t u) (λ ino inos u v x k. few_in_before 0 0 0 t u v k (few_in_reduced ino u v x))
    (cp.files_demanded t.here.session) t (cp.reductions t) (reductions t) (few_in_nothing 0 0 0 t)

-- Writes: one at most for each place of a dirty page.
few_in_written : (now : Stamp) (tick : Bool) (x : ℕ × PageNo) (t u : Turn) → WritesOut now tick x t u → C 0 1 0 t u
few_in_written now tick x t _ StaysDirty = few_in_nothing 0 1 0 t
few_in_written now tick x t _ (IsWritten s d m e q w i) = few_in_submitted t (_ ∷ []) refl refl

few_in_writes_each : (now : Stamp) (tick : Bool) (xs : List (ℕ × PageNo)) (t u : Turn) → Each (WritesOut now tick) xs t u → C 0 (length xs) 0 t u
few_in_writes_each now tick _ _ _ (Ends t) = few_in_nothing 0 0 0 t
few_in_writes_each now tick _ t u (Next y xs _ v _ k rest) =
    let a = few_in_written now tick y t v k in let b = few_in_writes_each now tick xs v u rest in
    let e = a.ops in let f = a.commands in let g = a.messages in let h = b.ops in let i = b.commands in let j = b.messages in
    record { ops = omega (arith, e, h); dirty = λ z. b.dirty (a.dirty z); commands = omega (arith, f, i); messages = omega (arith, g, j) }

-- at most 64 places of each of at most 64 files
few_places : (ps : Pages) → length ps.dirty ≤ 64 → length (pages.dirty_places ps) ≤ 4096
unfolding pages.dirty_places
few_places ps h =
    let a = flat_many (pages.dirty_on ps) 64 (λ ino. on ino) (rising (map pages.ino_of_dirty ps.dirty)) in
    let b = rising_length (map pages.ino_of_dirty ps.dirty) in
    let c = length_map pages.ino_of_dirty ps.dirty in
    omega (arith, a, b, c, h)
  where
    on : (ino : ℕ) → length (pages.dirty_on ps ino) ≤ 64
    on ino =
        let ds = filter (pages.is_dirty_on ino) ps.dirty in
        let a = length_map {B = ℕ × PageNo} (λ p. (ino, page_no p)) (rising (map pages.page_of_dirty ds)) in
        let b = rising_length (map pages.page_of_dirty ds) in
        let c = length_map pages.page_of_dirty ds in
        let d = filtered_no_longer (pages.is_dirty_on ino) ps.dirty in
        omega (arith, a, b, c, d, h)

few_written : (x : Option ClientSession) (ps : Pages) → length ps.dirty ≤ 64 → length (places_of x ps) ≤ 4096
few_written None ps h = omega arith
few_written (Some s) ps h = few_places ps h

few_in_writes : (now : Stamp) (tick : Bool) (t : Turn) → length t.here.store.pages.dirty ≤ 64 → C 0 4096 0 t (cp.writes now tick t)
few_in_writes now tick t h =
    let x = few_in_writes_each now tick (places_of t.here.session t.here.store.pages) t (cp.writes now tick t) (writes now tick t) in
    let a = x.commands in let b = few_written t.here.session t.here.store.pages h in
    record { ops = x.ops; dirty = x.dirty; commands = omega (arith, a, b); messages = x.messages }

-- Greeting and requests: one message each at most.
few_in_greeting : (now : Stamp) (tick : Bool) (t : Turn) → C 0 0 1 t (cp.greeting now tick t)
unfolding send
few_in_greeting now tick t = go (cp.greeting now tick t) (greets now tick t)
  where
    go : (u : Turn) → Greets now tick t u → C 0 0 1 t u
    go _ asking.IsSilent = few_in_nothing 0 0 1 t
    go _ (asking.SaysHello e m) = few_in_sends t (_ ∷ []) refl refl

few_in_requests : (now : Stamp) (tick : Bool) (t : Turn) → C 0 0 1 t (cp.requests now tick t)
unfolding send pages.forget_from pages.drop_from
few_in_requests now tick t = go (cp.requests now tick t) (requests now tick t)
  where
    sends_it : (s : ClientSession) (xs : List Operation) (b : Body) → length xs ≡ length t.operations → (c : Option (ℕ × PageNo)) →
        C 0 0 1 t (asking.asked (state.with_store (cp.cut_store c t.here.store) (state.with_operations xs t)) s now b (cp.file_cut c))
    sends_it s xs b e None = costs_say 0 0 1 0 1 t.operations xs t.here.store.pages.dirty t.here.store.pages.dirty t.out (_ ∷ []) (omega (arith, e))
        (λ h. h) refl refl (omega arith) (omega arith)
    sends_it s xs b e (Some c) = costs_say 0 0 1 0 1 t.operations xs t.here.store.pages.dirty t.here.store.pages.dirty t.out (_ ∷ []) (omega (arith, e))
        (λ h. h) refl refl (omega arith) (omega arith)

    go : (u : Turn) → Requests now tick t u → C 0 0 1 t u
    go _ asking.AsksNothing = few_in_nothing 0 0 1 t
    go _ (asking.AsksAgain s q e c n o) = few_in_sends t (_ ∷ []) refl refl
    go _ (asking.Reasserts s m d) = few_in_sends t (_ ∷ []) refl refl
    go _ (asking.Releases s r rs m d e) = few_in_sends t (_ ∷ []) refl refl
    go _ (asking.AsksFor s xs o ys w f e k) = sends_it s (xs ++ cp.sent_if w.own o ∷ ys) w.body
        (as_many o w.own xs ys ∙ ap (λ (z : List Operation). length z) (sym k.there)) w.cut
    go _ (asking.KeepsAlive s f e) = few_in_sends t (_ ∷ []) refl refl

-- All passes at a server, if at most 20 operations are pending and at most 64 pages are dirty.
pub few_in_passes : (now : Stamp) (tick : Bool) (t : Turn) → length t.operations ≤ 20 → length t.here.store.pages.dirty ≤ 64 →
    C 0 4116 2 t (cp.passes now tick t)
unfolding cp.passes
few_in_passes now tick t few low =
    let a = x.ops in let b = x.commands in let c = x.messages in let d = y.ops in let e = y.commands in let f = y.messages in
    record { ops = omega (arith, a, d); dirty = λ h. y.dirty (x.dirty h); commands = omega (arith, b, e, few); messages = omega (arith, c, f) }
  where
    o : Turn
    o = cp.operations now t

    r : Turn
    r = cp.reductions o

    w : Turn
    w = cp.writes now tick r

    g : Turn
    g = cp.greeting now tick w

    x : C 0 (length t.operations) 0 t r
    x = few_in_before 0 (length t.operations) 0 t o r (few_in_operations now t) (few_in_reductions o)

    y : C 0 4096 2 r (cp.requests now tick g)
    y = few_in_sequence 0 4096 0 0 0 2 r w (cp.requests now tick g) (few_in_writes now tick r (x.dirty low))
        (few_in_sequence 0 0 1 0 0 1 w g (cp.requests now tick g) (few_in_greeting now tick w) (few_in_requests now tick g))
