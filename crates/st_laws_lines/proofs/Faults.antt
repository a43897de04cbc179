-- Faults have a cause, in every run.
use Rattle.st_lemmas.proofs.Words
use Words.{◌≡◌, ℕ, ◌+◌, ◌⊎◌, Bool, true, false, List, [], ◌∷◌, ◌++◌, Option, Some, None, Ok, Err, refl, sym, ap, ◌∙◌, subst, inl, inr, if◌then◌else◌, Result}
use Words.{not, eq-eqb, ClientId, NodeId, ServerId, AppAnswer, Event, Note, Output, ClientInput, Block, ServerInput, Fate, LogEntry, Observation}
use Words.{IssuedCommand, SentMessage}
use Words.nodes
use Words.answers
use Words.events
use Words.notes
use Words.outputs
use Words.inputs
use Words.fates
use Words.seen
use Words.Client as cl
use Words.ClientState.{ClientState}
use Words.Disks as disks
use Words.Events as ev
use Words.Events.{WorldTurn, world_step}
use Words.History.{Traced, traced}
use Words.Safety.{Step, step}
use Words.Server as server
use Words.Server.{ServerNode}
use Words.World as world
use Words.World.{World, WorldClient, clock_of, fresh_world, issued_of, node_of, site_of}
use Words.Lists.{Has}
use Words.Tables.{all_pass, and_both, has_append}
use Words.Worlds.{client_at_node}
use Rattle.st_rules.specs.declared.node.StepRefusal.TheVariants.{Crashed}
use Rattle.st_promises.specs.Faults.{delivers_refusal, fails_command, FaultsHaveACause, is_fault_caused, is_full_at, is_refusal_to, refuses}
use Rattle.st_lemmas.proofs.Steps.{step_happens, throughout_all}
use Rattle.st_laws_pages.specs.Asks.Law.{InEveryRun}
use Rattle.st_laws_lines.proofs.Answering.{All_free, Fails_as, Free, Fault_free, stepped}

-- a line reports a fault only if a command of its client failed, its client was full, or its client was told so
abbrev Fine : (ClientId → ℕ → Type 0) → (ClientId → Type 0) → (ClientId → Type 0) → Observation → Type 0
Fine Failed Full Told (seen.Answered c op (answers.DiskFault number)) = Failed c number
Fine Failed Full Told (seen.Answered c op answers.OpsFull) = Full c
Fine Failed Full Told (seen.Answered c op answers.NotHolder) = Told c
Fine Failed Full Told (seen.Answered c op (answers.NoSpace free wanted)) = Told c
Fine Failed Full Told (seen.Answered c op answers.TooManyLocks) = Told c
Fine Failed Full Told (seen.Answered c op (answers.Refused code)) = Told c
Fine Failed Full Told o = Unit {0}

abbrev AllFine : (ClientId → ℕ → Type 0) → (ClientId → Type 0) → (ClientId → Type 0) → List Observation → Type 0
AllFine Failed Full Told os = (o : Observation) → Has o os → Fine Failed Full Told o

module _ (Failed : ClientId → ℕ → Type 0) (Full : ClientId → Type 0) (Told : ClientId → Type 0) where
  none_fine : AllFine Failed Full Told []
  none_fine o h = absurd h

  fine_with_one_more : (os : List Observation) (o : Observation) → Fine Failed Full Told o → AllFine Failed Full Told os →
      AllFine Failed Full Told (os ++ o ∷ [])
  fine_with_one_more os o f w x h = go (has_append os (o ∷ []) x h)
    where
      go : Has x os ⊎ Has x (o ∷ []) → Fine Failed Full Told x
      go (inl i) = w x i
      go (inr (inl e)) = subst (Fine Failed Full Told) (sym e) f
      go (inr (inr i)) = absurd i

  client_one : (c : ClientId) (before : ClientState) (o : Output) (sc : WorldTurn) → Free (Failed c) (Full c) (Told c) o → AllFine Failed Full Told sc.seen → AllFine Failed Full Told (ev.client_says sc c before o).seen
  unfolding ev.client_says ev.client_notes ev.sends ev.submits ev.answers_with ev.accepts ev.patches ev.loses
  client_one c before (outputs.Send m) sc f h = fine_with_one_more sc.seen _ tt h
  client_one c before (outputs.Answer op a) sc f h = fine_with_one_more sc.seen (seen.Answered c op a) (by a f) h
    where
      by : (a : AppAnswer) → Fault_free (Failed c) (Full c) (Told c) a → Fine Failed Full Told (seen.Answered c op a)
      by (answers.DiskFault number) f = f
      by answers.OpsFull f = f
      by answers.NotHolder f = f
      by (answers.NoSpace free wanted) f = f
      by answers.TooManyLocks f = f
      by (answers.Refused code) f = f
      by a f = tt
  client_one c before (outputs.Submit number at what) sc f h = go (site_of sc.world c)
    where
      go : (o : Option WorldClient) → AllFine Failed Full Told (ev.submits sc c o number at what).seen
      go None = h
      go (Some site) = fine_with_one_more sc.seen _ tt h
  client_one c before (outputs.Note n) sc f h = note n
    where
      note : (n : Note) → AllFine Failed Full Told (ev.client_notes sc c before n).seen
      note (notes.Leased s e) = fine_with_one_more sc.seen _ tt h
      note (notes.Lost s l) = fine_with_one_more sc.seen _ tt h
      note (notes.Accepted g p bytes) = fine_with_one_more sc.seen _ tt h
      note (notes.Patched g p at bytes) = fine_with_one_more sc.seen _ tt h
      note n = h

  client_all : (c : ClientId) (before : ClientState) (os : List Output) (sc : WorldTurn) → All_free (Failed c) (Full c) (Told c) os → AllFine Failed Full Told sc.seen → AllFine Failed Full Told (ev.client_says_all c before os sc).seen
  unfolding ev.client_says_all
  client_all c before [] sc f h = h
  client_all c before (o ∷ os) sc f h = client_all c before os (ev.client_says sc c before o) (λ x i. f x (inr i)) (client_one c before o sc (f o (inl refl)) h)

  server_one : (s : ServerId) (o : Output) (sc : WorldTurn) → AllFine Failed Full Told sc.seen → AllFine Failed Full Told (ev.server_says sc s o).seen
  unfolding ev.server_says ev.server_notes ev.cuts ev.sends
  server_one s (outputs.Send m) sc h = fine_with_one_more sc.seen _ tt h
  server_one s (outputs.Note n) sc h = note n
    where
      note : (n : Note) → AllFine Failed Full Told (ev.server_notes sc s n).seen
      note (notes.Suspected c t) = fine_with_one_more sc.seen _ tt h
      note (notes.Stolen c l) = fine_with_one_more sc.seen _ tt h
      note (notes.CutDone f p) = fine_with_one_more sc.seen _ tt h
      note n = h
  server_one s o sc h = h

  server_all : (s : ServerId) (os : List Output) (sc : WorldTurn) → AllFine Failed Full Told sc.seen → AllFine Failed Full Told (ev.server_says_all s os sc).seen
  unfolding ev.server_says_all
  server_all s [] sc h = h
  server_all s (o ∷ os) sc h = server_all s os (ev.server_says sc s o) (server_one s o sc h)

  takes : (w : World) (c : ClientId) (input : ClientInput) (site : WorldClient) → Fails_as (Failed c) (Full c) (Told c) site.node.state input → AllFine Failed Full Told (ev.client_takes w c input site).seen
  unfolding ev.client_takes ev.client_took cl.node_step
  takes w c input site f = go site.node.running
    where
      t : cl.NodeTurn
      t = cl.node_turn site.node (cl.client_step site.node.state (clock_of w (nodes.Client c)) input)

      go : (b : Bool) → AllFine Failed Full Told (ev.client_took w c site (if b then Ok t else Err Crashed)).seen
      go true = client_all c site.node.state t.out (ev.quiet (ev.with_site c (ev.at_node t.node site) w)) (stepped (Failed c) (Full c) (Told c) site.node.state (clock_of w (nodes.Client c)) input f) none_fine
      go false = none_fine

  at_client : (w : World) (c : ClientId) (input : ClientInput) (o : Option WorldClient) → ((s : ClientState) → Fails_as (Failed c) (Full c) (Told c) s input) → AllFine Failed Full Told (ev.at_client w c input o).seen
  unfolding ev.at_client
  at_client w c input None f = none_fine
  at_client w c input (Some site) f = takes w c input site (f site.node.state)

  at_server : (w : World) (s : ServerId) (input : ServerInput) (o : Option ServerNode) → AllFine Failed Full Told (ev.at_server w s input o).seen
  unfolding ev.at_server ev.server_takes ev.server_took
  at_server w s input None = none_fine
  at_server w s input (Some node) = go (server.node_step node (clock_of w (nodes.Server s)) input)
    where
      go : (r : Result server.NodeTurn _) → AllFine Failed Full Told (ev.server_took w s r).seen
      go (Err e) = none_fine
      go (Ok t) = server_all s t.out (ev.quiet (ev.with_node s t.node w)) none_fine

  first : (o : Observation) (os : List Observation) → Fine Failed Full Told o → AllFine Failed Full Told os → AllFine Failed Full Told (o ∷ os)
  first o os f w x (inl e) = subst (Fine Failed Full Told) (sym e) f
  first o os f w x (inr h) = w x h

  fates_fine : (n : ℕ) (es fs : List LogEntry) → AllFine Failed Full Told (ev.fates_from n es fs)
  unfolding ev.fates_from
  fates_fine n [] fs = none_fine
  fates_fine n (e ∷ es) [] = none_fine
  fates_fine n (e ∷ es) (f ∷ fs) = go e.fate f.fate (fates_fine (n + 1) es fs)
    where
      go : (a b : Fate) → AllFine Failed Full Told (ev.fates_from (n + 1) es fs) → AllFine Failed Full Told (ev.fate_seen n a b ++ ev.fates_from (n + 1) es fs)
      go fates.Pending fates.Pending h = h
      go fates.Pending fates.Hard h = first _ _ tt h
      go fates.Pending (fates.Gone c) h = first _ _ tt h
      go fates.Hard b h = h
      go (fates.Gone c) b h = h

  -- what an event reports as failed, and a client that is full when it is asked
  abbrev pub Reports_so : World → Event → Type 0
  Reports_so w (events.App c ask) = (site : WorldClient) → site_of w c ≡ Some site → cl.is_full site.node.state ≡ true → Full c
  Reports_so w (events.Deliver k) = (m : SentMessage) (c : ClientId) → world.message_of w k ≡ Some m → m.message.header.to ≡ c.0 → refuses m.message.body ≡ true → Told c
  Reports_so w (events.Report k ok) = (x : IssuedCommand) → issued_of w k ≡ Some x → ok ≡ false → Failed x.client x.number
  Reports_so w e = Unit {0}

  event_fine : (w : World) (e : Event) → Reports_so w e → AllFine Failed Full Told (ev.happens w e).seen
  unfolding ev.happens ev.ticks ev.asks_at ev.delivers ev.delivers_to ev.marks ev.effects ev.reports_of ev.tells ev.tells_client ev.tells_site ev.advances ev.crashes ev.crashes_client
  event_fine w (events.Tick (nodes.Client c)) f = at_client w c inputs.Tick (site_of w c) (λ s. tt)
  event_fine w (events.Tick (nodes.Server s)) f = at_server w s _ (node_of w s)
  event_fine w (events.App c ask) f = go (site_of w c) refl
    where
      go : (o : Option WorldClient) → site_of w c ≡ o → AllFine Failed Full Told (ev.asks_at w c ask o).seen
      go None e = none_fine
      go (Some site) e = takes w c (inputs.App (site.asks + 1) ask) (ev.asked_once_more site) (f site e)
  event_fine w (events.Deliver k) f = go (world.message_of w k) refl
    where
      to : (m : SentMessage) → world.message_of w k ≡ Some m → (n : NodeId) → world.receiver_of m ≡ n → AllFine Failed Full Told (ev.delivers_to w m.message n).seen
      to m e (nodes.Client c) q = at_client w c (inputs.Control m.message) (site_of w c) (λ s r. f m c e (client_at_node m.message.header.to c q) r)
      to m e (nodes.Server s) q = at_server w s _ (node_of w s)

      go : (m : Option SentMessage) → world.message_of w k ≡ m → AllFine Failed Full Told (ev.delivers w m).seen
      go None e = none_fine
      go (Some m) e = to m e (world.receiver_of m) refl
  event_fine w (events.Lose k) f = none_fine
  event_fine w (events.Cut from to) f = none_fine
  event_fine w (events.Heal from to) f = none_fine
  event_fine w (events.Advance ns) f = fates_fine 1 _ _
  event_fine w (events.Effect k) f = fates_fine 1 _ _
  event_fine w (events.Report k ok) f = go (issued_of w k) refl
    where
      v : World
      v = ev.with_disks (ev.disks_after w.disks (disks.done w.disks k ok)) w

      failed : (ok : Bool) (s : Option Block) → ev.result_of ok s ≡ None → ok ≡ false
      failed true s e = cc
      failed false s e = refl

      same : (x : IssuedCommand) → issued_of w k ≡ Some x → (site : WorldClient) (b : Bool) → AllFine Failed Full Told (if b then ev.client_takes v x.client (ev.end_told v k ok x) site else ev.quiet v).seen
      same x e site true = takes v x.client (ev.end_told v k ok x) site (λ r. f x e (failed ok (disks.sample v.disks k) r))
      same x e site false = none_fine

      told : (x : IssuedCommand) → issued_of w k ≡ Some x → (o : Option WorldClient) → AllFine Failed Full Told (ev.tells_client v k ok x o).seen
      told x e None = none_fine
      told x e (Some site) = same x e site (ev.is_same_instance x site)

      go : (o : Option IssuedCommand) → issued_of w k ≡ o → AllFine Failed Full Told (ev.tells v k ok o).seen
      go None e = none_fine
      go (Some x) e = told x e (site_of v x.client)
  event_fine w (events.Crash (nodes.Client c)) f = go (site_of w c)
    where
      go : (o : Option WorldClient) → AllFine Failed Full Told (ev.crashes_client w c o).seen
      go None = none_fine
      go (Some site) = fates_fine 1 _ _
  event_fine w (events.Crash (nodes.Server s)) f = none_fine
  event_fine w (events.Start n) f = none_fine

-- What is reported as failed is what the promise asks for.
caused : (w : World) (e : Event) → Reports_so (λ c number. fails_command w c number e ≡ true) (λ c. is_full_at (site_of w c) ≡ true) (λ c. delivers_refusal w c e ≡ true) (ev.counted w) e
caused w (events.Report k ok) = λ x is no. and_both (not ok) _ (ap not no) (ap (Rattle.st_promises.specs.Faults.is_own_command x.client x.number) is ∙ and_both _ _ (eq-eqb x.client.0 x.client.0 refl) (eq-eqb x.number x.number refl))
caused w (events.Tick n) = tt
caused w (events.App c ask) = λ site is e. ap is_full_at is ∙ e
caused w (events.Deliver k) = λ m c is to r. ap (is_refusal_to c) is ∙ and_both _ _ (eq-eqb m.message.header.to c.0 to) r
caused w (events.Lose k) = tt
caused w (events.Cut a b) = tt
caused w (events.Heal a b) = tt
caused w (events.Advance ns) = tt
caused w (events.Effect k) = tt
caused w (events.Crash n) = tt
caused w (events.Start n) = tt

step_caused : (past : List Step) (t : Traced) (e : Event) (sc : WorldTurn) → world_step t.world e ≡ Ok sc → FaultsHaveACause past (step t e sc)
step_caused past t e sc is = all_pass (is_fault_caused (step t e sc)) sc.seen (λ o h. one o (fine o h))
  where
    fine : AllFine (λ c number. fails_command t.world c number e ≡ true) (λ c. is_full_at (site_of t.world c) ≡ true) (λ c. delivers_refusal t.world c e ≡ true) sc.seen
    fine = subst (λ (s : WorldTurn). AllFine (λ c number. fails_command t.world c number e ≡ true) (λ c. is_full_at (site_of t.world c) ≡ true) (λ c. delivers_refusal t.world c e ≡ true) s.seen) (sym (step_happens t.world e sc is).1) (event_fine _ _ _ (ev.counted t.world) e (caused t.world e))

    one : (o : Observation) → Fine (λ c number. fails_command t.world c number e ≡ true) (λ c. is_full_at (site_of t.world c) ≡ true) (λ c. delivers_refusal t.world c e ≡ true) o → is_fault_caused (step t e sc) o ≡ true
    one (seen.Answered c op (answers.DiskFault number)) f = f
    one (seen.Answered c op answers.OpsFull) f = f
    one (seen.Answered c op answers.NotHolder) f = f
    one (seen.Answered c op (answers.NoSpace free wanted)) f = f
    one (seen.Answered c op answers.TooManyLocks) f = f
    one (seen.Answered c op (answers.Refused code)) f = f
    one o f = refl

pub faults_law : InEveryRun FaultsHaveACause
faults_law k clients servers disks blocks form es head = throughout_all FaultsHaveACause step_caused es [] (traced (fresh_world k clients servers disks blocks form))
