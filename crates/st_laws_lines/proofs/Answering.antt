-- When a client answers `diskfault`, `opsfull` and what a server refused: only at the end of a command that failed, only when 16 operations are
-- pending, and only when a refusal comes.
use Rattle.st_lemmas.proofs.Words
use Words.{◌≡◌, ℕ, ◌+◌, ◌⊎◌, Bool, true, false, ◌≤◌, List, [], ◌∷◌, ◌++◌, Option, None, refl, sym, subst, arith, inl, inr, if◌then◌else◌, filter, length, map}
use Words.{le-leb, leb-true, Tag, Stamp, AppAnswer, Ask, Body, Header, Output, ClientInput, Operation, PageCommand, length-append}
use Words.answers
use Words.outputs
use Words.inputs
use Words.Client as cl
use Words.ClientPages as pages
use Words.ClientPasses as cp
use Words.ClientReplies as cr
use Words.ClientState as cs
use Words.ClientState.{Association, ClientSession, ClientState, ClientTurn, Turn, answer_to, at_each, at_these, client_turn, enter, leave, only_at, say}
use Words.ClientState.{with_associations, with_operations}
use Words.Lists.{Has}
use Words.Tables.{has_append, has_map}
use Rattle.st_promises.specs.Faults.{refuses}
use Rattle.st_laws_lines.proofs.Walking as walk
use Rattle.st_trace.specs.Client.Commands as ends
use Rattle.st_trace.specs.Client.Commands.{Takes, Finishes}
use Rattle.st_trace.specs.Client.Losses as losing
use Rattle.st_trace.specs.Client.Losses.{Ended, Loses}
use Rattle.st_trace.specs.Client.Operations as pass
use Rattle.st_trace.specs.Client.Operations.{Operated}
use Rattle.st_trace.specs.Client.Requests as asking
use Rattle.st_trace.specs.Client.Requests.{Requests}
use Rattle.st_trace.proofs.Client.Finishing.{at_server, finishes, takes}
use Rattle.st_trace.proofs.Client.Losing.{loses}
use Rattle.st_trace.proofs.Client.Operating.{operations}
use Rattle.st_trace.proofs.Client.Requesting.{requests}
use Rattle.st_trace.proofs.Client.Walk.{each_lasts}

-- an output that answers no fault, but of a command that failed, or of a client with this many operations
abbrev pub Fault_free : (ℕ → Type 0) → Type 0 → Type 0 → AppAnswer → Type 0
Fault_free Failed Full Told (answers.DiskFault number) = Failed number
Fault_free Failed Full Told answers.OpsFull = Full
Fault_free Failed Full Told answers.NotHolder = Told
Fault_free Failed Full Told (answers.NoSpace free wanted) = Told
Fault_free Failed Full Told answers.TooManyLocks = Told
Fault_free Failed Full Told (answers.Refused code) = Told
Fault_free Failed Full Told a = Unit {0}

-- an output
abbrev pub Free : (ℕ → Type 0) → Type 0 → Type 0 → Output → Type 0
Free Failed Full Told (outputs.Answer op a) = Fault_free Failed Full Told a
Free Failed Full Told o = Unit {0}

-- all of these
abbrev pub All_free : (ℕ → Type 0) → Type 0 → Type 0 → List Output → Type 0
All_free Failed Full Told os = (o : Output) → Has o os → Free Failed Full Told o

-- Losses end operations, and begin none.
-- what ends is no longer pending, and nothing else joins it
fewer_ended : (s : ClientSession) (n : ℕ) (o : Operation) (os : List Operation) (t u : Turn) → Ended s o t u → length t.operations + length (o ∷ os) ≤ n →
    length u.operations + length os ≤ n
fewer_ended s n o os t _ (losing.IsElsewhere e) h = let z = length-append t.operations (o ∷ []) in omega (arith, h, z)
fewer_ended s n o os t _ (losing.IsUncertain e q) h = omega (arith, h)
fewer_ended s n o os t _ (losing.IsToldLost f e q a l) h = omega (arith, h)
fewer_ended s n o os t _ (losing.LostNothing f e q a l) h = omega (arith, h)
fewer_ended s n o os t _ (losing.IsQuiesced e q a) h = omega (arith, h)

fewer_lost : (now : Stamp) (t : Turn) → length (cl.lose now t).operations ≤ length t.operations
fewer_lost now t = go (cl.lose now t) (loses now t)
  where
    go : (u : Turn) → Loses now t u → length u.operations ≤ length t.operations
    go _ (losing.HasNoSession e) = omega arith
    go _ (losing.Lasts s e o) = omega arith
    go _ (losing.IsLost s u e o p) =
        let x = each_lasts (Ended s) (λ os v. length v.operations + length os ≤ length t.operations)
        (λ o os v w k h. fewer_ended s (length t.operations) o os v w k h) t.operations
        (with_operations [] (losing.loss_noted t)) u p (omega arith) in
        omega (arith, x)

fewer_these : (now : Stamp) (al : List Association) (t : ClientTurn) → length (at_these (cl.lose now) al t).state.operations ≤ length t.state.operations
unfolding at_these
fewer_these now [] t = omega arith
fewer_these now (a ∷ al) t =
    let u = cl.lose now (enter t a) in let x = fewer_lost now (enter t a) in let y = fewer_these now al (leave t u) in omega (arith, x, y)

still_full : (s : ClientState) (now : Stamp) → cl.is_full (cl.losses (client_turn s []) now).state ≡ true → cl.is_full s ≡ true
unfolding cl.losses at_each
still_full s now e =
    let x = leb-true 16 (length (cl.losses (client_turn s []) now).state.operations) e in let y = fewer_these now s.associations
    (with_associations [] (client_turn s [])) in
    le-leb 16 (length s.operations) (omega (arith, x, y))

module _ (Failed : ℕ → Type 0) (Full : Type 0) (Told : Type 0) where
  abbrev F : Turn → Type 0
  F t = All_free Failed Full Told t.out

  all_free_append : (os ps : List Output) → All_free Failed Full Told os → All_free Failed Full Told ps → All_free Failed Full Told (os ++ ps)
  all_free_append os ps a b o h = go (has_append os ps o h)
    where
      go : Has o os ⊎ Has o ps → Free Failed Full Told o
      go (inl i) = a o i
      go (inr i) = b o i

  single : (o : Output) → Free Failed Full Told o → All_free Failed Full Told (o ∷ [])
  single o f x (inl e) = subst (Free Failed Full Told) (sym e) f
  single o f x (inr h) = absurd h

  last : (os : List Output) (o : Output) → Free Failed Full Told o → All_free Failed Full Told os → All_free Failed Full Told (os ++ o ∷ [])
  last os o f w = all_free_append os (o ∷ []) w (single o f)

  said : (t : Turn) (o : Output) → Free Failed Full Told o → F t → F (say t o)
  said t o f w = last t.out o f w

  each_answered : (t : Turn) (picked : Operation → Bool) (a : AppAnswer) → Fault_free Failed Full Told a → F t → F (cs.answer_each picked a t)
  unfolding cs.answer_each
  each_answered t picked a f w = all_free_append t.out (map (answer_to a) (filter picked t.operations)) w
      (λ o h. let x = has_map (answer_to a) (filter picked t.operations) o h in subst (Free Failed Full Told) (sym x.2) f)

  -- A message: no reply answers a fault, or that there are too many operations.
  calm_free : (o : Output) → walk.Calm o → Free Failed Full Told o
  calm_free (outputs.Answer op a) c = absurd c
  calm_free o c = tt

  mild_free : (a : AppAnswer) → walk.Mild Told a → Fault_free Failed Full Told a
  mild_free (answers.DiskFault number) m = absurd m
  mild_free answers.OpsFull m = absurd m
  mild_free answers.NotHolder m = m
  mild_free (answers.NoSpace free wanted) m = m
  mild_free answers.TooManyLocks m = m
  mild_free (answers.Refused code) m = m
  mild_free a m = tt

  received : (now : Stamp) (h : Header) (b : Body) → (refuses b ≡ true → Told) → (t : Turn) → F t → F (cr.receive_at now h b t)
  unfolding cr.leave_stuck
  received = walk.received Told (λ v lost out ops. All_free Failed Full Told out) (λ v lost out ops o c w. last out o (calm_free o c) w)
      (λ t picked a m w. each_answered t picked a (mild_free a m) w) (λ t w. w)

  rested : (now : Stamp) (tick : Bool) (t : Turn) → F t → F (cp.greeting now tick (cp.writes now tick (cp.reductions t)))
  unfolding cr.leave_stuck
  rested = walk.rested Told (λ v lost out ops. All_free Failed Full Told out) (λ v lost out ops o c w. last out o (calm_free o c) w)
      (λ t picked a m w. each_answered t picked a (mild_free a m) w) (λ t w. w)

  -- Losses.
  ended : (s : ClientSession) (o : Operation) (t u : Turn) → Ended s o t u → F t → F u
  ended s o t _ (losing.IsElsewhere e) w = w
  ended s o t _ (losing.IsUncertain e q) w = said t _ tt w
  ended s o t _ (losing.IsToldLost f e q a l) w = last t.out _ tt w
  ended s o t _ (losing.LostNothing f e q a l) w = said t _ tt w
  ended s o t _ (losing.IsQuiesced e q a) w = said t _ tt w

  lost : (now : Stamp) (t : Turn) → F t → F (cl.lose now t)
  lost now t w = go (cl.lose now t) (loses now t)
    where
      go : (u : Turn) → Loses now t u → F u
      go _ (losing.HasNoSession e) = w
      go _ (losing.Lasts s e o) = w
      go _ (losing.IsLost s u e o p) = each_lasts (Ended s) (λ os v. F v) (λ o os v x k z. ended s o v x k z) t.operations
          (with_operations [] (losing.loss_noted t)) u p (last t.out _ tt w)

  -- Asks.
  taken : (op : ℕ) (ask : Ask) (t : Turn) → F t → F (only_at (cs.server_of ask) (cl.take_ask op ask) t)
  taken op ask t w = at_server (λ u. F u) (cs.server_of ask) (cl.take_ask op ask) t (λ e. go (cl.take_ask op ask t) (takes op ask t)) (λ e. w)
    where
      go : (u : Turn) → Takes op ask t u → F u
      go _ (ends.TellsLost f q l) = last t.out _ tt w
      go _ (ends.WaitsForSync f q l) = w
      go _ (ends.Waits n) = w

  -- Ends of commands: a fault is answered only if the command failed.
  finished : (number : ℕ) (r : Option (Option (Tag × List ℕ))) → (r ≡ None → Failed number) → (t : Turn) → F t → F (cl.finish number r t)
  finished number r f t w = go (cl.finish number r t) (finishes number r t)
    where
      faulted : (x : PageCommand) → ends.IsOutstanding number t x → r ≡ None → Failed x.number
      faulted x o e = subst Failed (sym o.numbered) (f e)

      go : (u : Turn) → Finishes number r t u → F u
      go _ (ends.IsUnknown e) = w
      go _ (ends.IsOfOtherKind x block o e k) = w
      go _ (ends.Fills x block o k e) = w
      go _ (ends.Hardens x v o k e i) = w
      go _ (ends.WroteOlder x v o k e i) = w
      go _ (ends.FailsToRead x o k e) = each_answered (ends.without x t) _ _ (faulted x o e) w
      go _ (ends.FailsToWrite x v o k e i) = each_answered (ends.with_pages (pages.fail t.here.store.pages x.ino x.page x.number) (ends.without x t)) _ _
          (faulted x o e) w
      go _ (ends.FailsToWriteOlder x v o k e i) = each_answered (ends.without x t) _ _ (faulted x o e) w

  -- Operations.
  operated : (now : Stamp) (all : List Operation) (o : Operation) (t u : Turn) → Operated now all o t u → F t → F u
  operated now all o t _ pass.Waits w = w
  operated now all o t _ (pass.IsHard f e q h) w = said t _ tt w
  operated now all o t _ (pass.IsQuiesced s e n a b c) w = said t _ tt w
  operated now all o t _ (pass.ChangesPage s f p bytes n v c m e) w = last (t.out ++ outputs.Note n ∷ []) (outputs.Answer o.op answers.Written) tt
      (last t.out (outputs.Note n) tt w)
  operated now all o t _ (pass.IsDirtyFull s f p bytes n v c m e) w = said t _ tt w
  operated now all o t _ (pass.Fetches s f p m v n c e r) w = last t.out _ tt w
  operated now all o t _ (pass.ReadsCached s f p bytes v e h q) w = last t.out _ tt w
  operated now all o t _ (pass.ReadsZeros s f p e v a h q k m) w = said t _ tt w

  -- Requests.
  requested : (now : Stamp) (tick : Bool) (t u : Turn) → Requests now tick t u → F t → F u
  unfolding cs.send
  requested now tick t _ asking.AsksNothing w = w
  requested now tick t _ (asking.AsksAgain s q e c n o) w = last t.out _ tt w
  requested now tick t _ (asking.Reasserts s m d) w = last t.out _ tt w
  requested now tick t _ (asking.Releases s r rs m d e) w = last t.out _ tt w
  requested now tick t _ (asking.AsksFor s xs o ys x f e k) w = last t.out _ tt w
  requested now tick t _ (asking.KeepsAlive s f e) w = last t.out _ tt w

  passed : (now : Stamp) (tick : Bool) (t : Turn) → F t → F (cp.passes now tick t)
  unfolding cp.passes
  passed now tick t w =
      let a = cp.operations now t in
      let b = cp.greeting now tick (cp.writes now tick (cp.reductions a)) in
      requested now tick b (cp.requests now tick b) (requests now tick b)
      (rested now tick a (each_lasts (Operated now t.operations) (λ os v. F v) (λ o os v x k z. operated now t.operations o v x k z) t.operations
      (with_operations [] t) a (operations now t) w))

  -- A rule at each server in turn.
  these : (rule : Turn → Turn) → ((t : Turn) → F t → F (rule t)) → (al : List Association) (t : ClientTurn) → All_free Failed Full Told t.out →
      All_free Failed Full Told (at_these rule al t).out
  unfolding at_these
  these rule one [] t w = w
  these rule one (a ∷ al) t w = these rule one al (leave t (rule (enter t a))) (one (enter t a) w)

  each : (rule : Turn → Turn) → ((t : Turn) → F t → F (rule t)) → (t : ClientTurn) → All_free Failed Full Told t.out → All_free Failed Full Told
      (at_each rule t).out
  unfolding at_each
  each rule one t w = these rule one t.state.associations _ w

  -- an input in which a command fails only as said, and a client is as full as said
  abbrev pub Fails_as : ClientState → ClientInput → Type 0
  Fails_as s (inputs.App op ask) = cl.is_full s ≡ true → Full
  Fails_as s (inputs.Control m) = refuses m.body ≡ true → Told
  Fails_as s (inputs.Done number r) = r ≡ None → Failed number
  Fails_as s i = Unit {0}

  any_either : (b : Bool) (t u : ClientTurn) → All_free Failed Full Told t.out → All_free Failed Full Told u.out → All_free Failed Full Told
      (if b then t else u).out
  any_either true t u x y = x
  any_either false t u x y = y

  where_full : (b : Bool) (t u : ClientTurn) → (b ≡ true → All_free Failed Full Told t.out) → All_free Failed Full Told u.out → All_free Failed Full Told
      (if b then t else u).out
  where_full true t u x y = x refl
  where_full false t u x y = y

  input_taken : (t : ClientTurn) (now : Stamp) (i : ClientInput) → Fails_as t.state i → All_free Failed Full Told t.out → All_free Failed Full Told
      (cl.take_input t now i).out
  unfolding cl.take_input cl.app cl.app_known cl.done cr.receive cr.receive_here
  input_taken t now inputs.Tick f w = w
  input_taken t now (inputs.App op ask) f w =
      where_full (cl.is_full t.state) _ _ (λ e. all_free_append t.out _ w (single _ (f e)))
      (any_either (cl.is_configured t.state (cs.server_of ask)) _ _ (each _ (taken op ask) t w) (all_free_append t.out _ w (single _ tt)))
  input_taken t now (inputs.Control m) f w = any_either _ _ t (each _ (received now m.header m.body f) t w) w
  input_taken t now (inputs.Done number r) f w = each _ (finished number r f) t w

  -- the same after the losses
  after_losses : (s : ClientState) (now : Stamp) (i : ClientInput) → Fails_as s i → Fails_as (cl.losses (client_turn s []) now).state i
  after_losses s now inputs.Tick f = tt
  after_losses s now (inputs.App op ask) f = λ e. f (still_full s now e)
  after_losses s now (inputs.Control m) f = f
  after_losses s now (inputs.Done number r) f = f

  -- the whole step
  pub stepped : (s : ClientState) (now : Stamp) (i : ClientInput) → Fails_as s i → All_free Failed Full Told (cl.client_step s now i).out
  unfolding cl.client_step cl.work cl.losses
  stepped s now i f = each _ (passed now (cl.is_tick i)) _ (input_taken _ now i (after_losses s now i f)
      (each _ (lost now) (client_turn s []) (λ o h. absurd h)))
