-- Reads are answered of operations that were pending: what the rules of a client leave of both together.
use Rattle.st_lemmas.proofs.Words
use Words.{◌≡◌, ℕ, ◌+◌, ◌≤◌, Bool, true, false, List, [], ◌∷◌, ◌++◌, refl, sym, ap, ◌∙◌, arith, if◌then◌else◌, length, map, PageNo, ServerId, Stamp}
use Words.{AppAnswer, Output, Operation, filter, not, length-append}
use Words.Events.{reads_in}
use Words.answers
use Words.ClientPasses as cp
use Words.ClientState as state
use Words.ClientState.{Turn, answer_each, answered, keep, say, send}
use Words.outputs
use Words.commands
use Words.Page.{filled}
use Words.io
use Rattle.st_laws_bounds.proofs.Counters.Weights.{weigh, weigh_both}
use Rattle.st_laws_bounds.proofs.Counters.Tallies.{of_read}
use Rattle.st_trace.specs.Client.Each.{Each, Ends, Next}
use Rattle.st_trace.specs.Client.Operations as pass
use Rattle.st_trace.specs.Client.Operations.{Operated}
use Rattle.st_trace.specs.Client.Passes.{Reduced, StaysHeld, IsReduced, WritesOut, StaysDirty, IsWritten, places_of}
use Rattle.st_trace.specs.Client.Requests as asking
use Rattle.st_trace.specs.Client.Requests.{Greets, Requests}
use Rattle.st_trace.proofs.Client.Operating.{operations}
use Rattle.st_trace.proofs.Client.Requesting.{greets, requests}
use Rattle.st_trace.proofs.Client.Walk.{each_lasts, reductions, writes}

-- What a rule leaves: reads that were answered and operations that are pending are at most this many more than before, at the same server.
pub record ReadLow (n : ℕ) (here : ServerId) (ops : List Operation) (out : List Output) (here2 : ServerId) (ops2 : List Operation)
    (out2 : List Output) : Type 0 where
  pub server : here2 ≡ here
  pub low : weigh of_read out2 + length ops2 ≤ n + (weigh of_read out + length ops)

abbrev pub R : ℕ → Turn → Turn → Type 0
R n t u = ReadLow n t.here.server t.operations t.out u.here.server u.operations u.out

pub few_reads_in_nothing : (n : ℕ) (t : Turn) → R n t t
few_reads_in_nothing n t = record { server = refl; low = omega arith }

pub few_reads_in_sequence : (m n : ℕ) (t u v : Turn) → R m t u → R n u v → R (m + n) t v
few_reads_in_sequence m n t u v x y = let a = x.low in let b = y.low in record { server = y.server ∙ x.server; low = omega (arith, a, b) }

pub few_reads_in_next : (n : ℕ) (t u v : Turn) → R n t u → R 0 u v → R n t v
few_reads_in_next n t u v x y = let a = x.low in let b = y.low in record { server = y.server ∙ x.server; low = omega (arith, a, b) }

pub few_reads_in_weaker : (m n : ℕ) (t u : Turn) → m ≤ n → R m t u → R n t u
few_reads_in_weaker m n t u l x = let a = x.low in record { server = x.server; low = omega (arith, a, l) }

-- one more is pending
pub few_reads_in_keeping : (n : ℕ) (o : Operation) (t u : Turn) → R n t u → R (n + 1) t (keep o u)
few_reads_in_keeping n o t u x = let a = x.low in let z = length-append u.operations (o ∷ []) in record { server = x.server; low = omega (arith, a, z) }

-- more is said
pub few_reads_in_says : (n : ℕ) (t : Turn) (os : List Output) → weigh of_read os ≤ n → R n t (record t { out = t.out ++ os })
few_reads_in_says n t os l = let z = weigh_both of_read t.out os in record { server = refl; low = omega (arith, z, l) }

-- what is said answers no read, and no more operations are pending
pub quietly : (here : ServerId) (ops ops2 : List Operation) (out os : List Output) → weigh of_read os ≡ 0 → length ops2 ≡ length ops →
    ReadLow 0 here ops out here ops2 (out ++ os)
quietly here ops ops2 out os e l = let z = weigh_both of_read out os in record { server = refl; low = omega (arith, z, e, l) }

read_one : (a : AppAnswer) → reads_in a ≤ 1
read_one (answers.Read bytes) = omega arith
read_one answers.Written = omega arith
read_one answers.Hard = omega arith
read_one answers.Cut = omega arith
read_one (answers.Named ino) = omega arith
read_one (answers.Listed rows) = omega arith
read_one a = omega arith

-- operations are answered
answers_weigh : (a : AppAnswer) (os : List Operation) → weigh of_read (map (state.answer_to a) os) ≤ length os
answers_weigh a [] = omega arith
answers_weigh a (o ∷ os) = let x = read_one a in let y = answers_weigh a os in omega (arith, x, y)

pub parted : (p : Operation → Bool) (os : List Operation) → length (filter p os) + length (filter (λ o. not (p o)) os) ≡ length os
parted p [] = refl
parted p (o ∷ os) = go (p o) (parted p os)
  where
    go : (b : Bool) → length (filter p os) + length (filter (λ o. not (p o)) os) ≡ length os →
        length (if b then o ∷ filter p os else filter p os) + length (if not b then o ∷ filter (λ o. not (p o)) os else filter (λ o. not (p o)) os) ≡ length
        (o ∷ os)
    go true h = omega (arith, h)
    go false h = omega (arith, h)

pub few_reads_in_answers : (picked : Operation → Bool) (a : AppAnswer) (t : Turn) → R 0 t (answer_each picked a t)
unfolding answer_each
few_reads_in_answers picked a t =
    let x = weigh_both of_read t.out (map (state.answer_to a) (filter picked t.operations)) in
    let y = answers_weigh a (filter picked t.operations) in
    let z = parted picked t.operations in
    record { server = refl; low = omega (arith, x, y, z) }

-- The pass over the operations: one that was pending is answered, or stays. an answer that isn't a read
pub few_reads_in_said : (n : ℕ) (t : Turn) (op : ℕ) (a : AppAnswer) → reads_in a ≡ 0 → R n t (answered t op a)
few_reads_in_said n t op a e = few_reads_in_says n t (outputs.Answer op a ∷ []) (omega (arith, e))

few_reads_in_operated : (now : Stamp) (all : List Operation) (o : Operation) (t u : Turn) → Operated now all o t u → R 1 t u
few_reads_in_operated now all o t _ pass.Waits = few_reads_in_keeping 0 o t t (few_reads_in_nothing 0 t)
few_reads_in_operated now all o t _ (pass.IsHard f e q h) = few_reads_in_said 1 t o.op answers.Hard refl
few_reads_in_operated now all o t _ (pass.IsQuiesced s e n a b c) = few_reads_in_said 1 t o.op answers.Quiesced refl
few_reads_in_operated now all o t _ (pass.ChangesPage s f p bytes n v c m e) =
    let a = weigh_both of_read t.out (outputs.Note n ∷ []) in let b = weigh_both of_read (t.out ++ outputs.Note n ∷ [])
    (outputs.Answer o.op answers.Written ∷ []) in
    record { server = refl; low = omega (arith, a, b) }
few_reads_in_operated now all o t _ (pass.IsDirtyFull s f p bytes n v c m e) = few_reads_in_said 1 t o.op answers.DirtyFull refl
few_reads_in_operated now all o t _ (pass.Fetches s f p m v n c e r) =
    let u = say (cp.with_command f.ino p io.Read t) (outputs.Submit t.next_command m.at (commands.Read m.at)) in
    few_reads_in_keeping 0 o t u (quietly t.here.server t.operations t.operations t.out _ refl refl)
few_reads_in_operated now all o t _ (pass.ReadsCached s f p bytes v e h q) = few_reads_in_says 1 t (outputs.Answer o.op (answers.Read bytes) ∷ []) (omega arith)
few_reads_in_operated now all o t _ (pass.ReadsZeros s f p e v a h q k m) =
    few_reads_in_says 1 t (outputs.Answer o.op (answers.Read (filled 0)) ∷ []) (omega arith)

-- a pass over operations answers or keeps each of them
pub few_reads_in_pass : (One : Operation → Turn → Turn → Type 0) → ((o : Operation) (t u : Turn) → One o t u → R 1 t u) → (os : List Operation) (t u : Turn) →
    Each One os t u → R (length os) t u
few_reads_in_pass One one _ _ _ (Ends t) = few_reads_in_nothing 0 t
few_reads_in_pass One one _ t u (Next o os _ v _ x rest) = few_reads_in_weaker (1 + length os) (length (o ∷ os)) t u (omega arith)
    (few_reads_in_sequence 1 (length os) t v u (one o t v x) (few_reads_in_pass One one os v u rest))

few_reads_in_operations : (now : Stamp) (t : Turn) → R 0 t (cp.operations now t)
few_reads_in_operations now t =
    let z = few_reads_in_pass (Operated now t.operations) (λ o u v x. few_reads_in_operated now t.operations o u v x) t.operations (state.with_operations [] t)
    (cp.operations now t)
    (operations now t) in
    let a = z.low in record { server = z.server; low = omega (arith, a) }

-- Reductions, writes and greeting.
few_reads_in_reduced : (ino : ℕ) (t u : Turn) → Reduced ino t u → R 0 t u
few_reads_in_reduced ino t _ StaysHeld = few_reads_in_nothing 0 t
few_reads_in_reduced ino t _ (IsReduced s g to e m q) = few_reads_in_nothing 0 t

few_reads_in_reductions : (t : Turn) → R 0 t (cp.reductions t)
few_reads_in_reductions t = each_lasts Reduced (λ inos u. R 0 t u) (λ ino inos u v x k. few_reads_in_next 0 t u v k (few_reads_in_reduced ino u v x))
    (cp.files_demanded t.here.session) t
    (cp.reductions t) (reductions t) (few_reads_in_nothing 0 t)

few_reads_in_written : (now : Stamp) (tick : Bool) (x : ℕ × PageNo) (t u : Turn) → WritesOut now tick x t u → R 0 t u
few_reads_in_written now tick x t _ StaysDirty = few_reads_in_nothing 0 t
few_reads_in_written now tick x t _ (IsWritten s d m e q w i) = quietly t.here.server t.operations t.operations t.out _ refl refl

few_reads_in_writes : (now : Stamp) (tick : Bool) (t : Turn) → R 0 t (cp.writes now tick t)
few_reads_in_writes now tick t =
    each_lasts (WritesOut now tick) (λ xs u. R 0 t u) (λ y xs u v x k. few_reads_in_next 0 t u v k (few_reads_in_written now tick y u v x))
    (places_of t.here.session t.here.store.pages) t (cp.writes now tick t) (writes now tick t) (few_reads_in_nothing 0 t)

-- a message is sent
few_reads_in_sends : (t : Turn) (os : List Output) → weigh of_read os ≡ 0 → R 0 t (record t { out = t.out ++ os })
few_reads_in_sends t os e = few_reads_in_says 0 t os (omega (arith, e))

few_reads_in_greeting : (now : Stamp) (tick : Bool) (t : Turn) → R 0 t (cp.greeting now tick t)
unfolding send
few_reads_in_greeting now tick t = go (cp.greeting now tick t) (greets now tick t)
  where
    go : (u : Turn) → Greets now tick t u → R 0 t u
    go _ asking.IsSilent = few_reads_in_nothing 0 t
    go _ (asking.SaysHello e m) = few_reads_in_sends t (_ ∷ []) refl

-- Requests.
-- as many operations are there when one of them asks
pub as_many : (o : Operation) (b : Bool) (xs ys : List Operation) → length (xs ++ cp.sent_if b o ∷ ys) ≡ length (xs ++ o ∷ ys)
as_many o b xs ys = let x = length-append xs (cp.sent_if b o ∷ ys) in let y = length-append xs (o ∷ ys) in omega (arith, x, y)

few_reads_in_requests : (now : Stamp) (tick : Bool) (t : Turn) → R 0 t (cp.requests now tick t)
unfolding send
few_reads_in_requests now tick t = go (cp.requests now tick t) (requests now tick t)
  where
    go : (u : Turn) → Requests now tick t u → R 0 t u
    go _ asking.AsksNothing = few_reads_in_nothing 0 t
    go _ (asking.AsksAgain s q e c n o) = few_reads_in_sends t (_ ∷ []) refl
    go _ (asking.Reasserts s m d) = few_reads_in_sends t (_ ∷ []) refl
    go _ (asking.Releases s r rs m d e) = few_reads_in_sends t (_ ∷ []) refl
    go _ (asking.AsksFor s xs o ys w f e k) =
        quietly t.here.server t.operations (xs ++ cp.sent_if w.own o ∷ ys) t.out _ refl
        (as_many o w.own xs ys ∙ ap (λ (z : List Operation). length z) (sym k.there))
    go _ (asking.KeepsAlive s f e) = few_reads_in_sends t (_ ∷ []) refl

pub few_reads_in_passes : (now : Stamp) (tick : Bool) (t : Turn) → R 0 t (cp.passes now tick t)
unfolding cp.passes
few_reads_in_passes now tick t =
    let o = cp.operations now t in
    let a = cp.reductions o in
    let b = cp.writes now tick a in
    let c = cp.greeting now tick b in
    let d = cp.requests now tick c in
    few_reads_in_next 0 t o d (few_reads_in_operations now t) (few_reads_in_next 0 o a d (few_reads_in_reductions o)
    (few_reads_in_next 0 a b d (few_reads_in_writes now tick a)
    (few_reads_in_next 0 b c d (few_reads_in_greeting now tick b) (few_reads_in_requests now tick c))))
