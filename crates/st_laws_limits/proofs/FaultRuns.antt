-- In every run of the third form each answer that reports a fault has a cause, but for *toomanylocks*.
use Rattle.st_lemmas.proofs.Words
use Words.{◌≡◌, ◌≤◌, ◌⊎◌, ◌+◌, ◌-◌, ◌==◌, ◌&&◌, ◌||◌, ℕ, Bool, true, false, List, [], Option, Some, None, Ok, refl, sym, ap, ◌∙◌, subst, inl, inr, if◌then◌else◌}
use Words.{eq-eqb, length, leb-true, list_any, map, nat_le, AppAnswer, ClientId, Config, IssuedCommand, Message, Observation, SentMessage, Stamp}
use Words.answers
use Words.events
use Words.nodes
use Words.Client.{ClientNode}
use Words.ClientPages as pages
use Words.ClientState.{Association}
use Words.Events as ev
use Words.Events.{quiet}
use Words.Keys.{client}
use Words.Lists.{Has}
use Words.Server.{ServerNode}
use Words.Tables.{all_pass, and_both, and_true, has_map, some_passes}
use Words.World.{WorldClient, clock_of, issued_of, message_of, site_of}
use Rattle.st_rules.specs.declared.observation.Observation.TheVariants as plain_seen
use Rattle.st_rules.specs.declared.client.ClientInput.TheVariants as inputs
use Rattle.st_promises.specs.Faults as faults
use Rattle.st_third.specs.declared.event.ThirdEvent.{ThirdEvent}
use Rattle.st_third.specs.declared.event.ThirdEvent.TheVariants as third
use Rattle.st_third.specs.declared.event.ThirdInput.{ThirdInput}
use Rattle.st_third.specs.declared.event.ThirdInput.TheVariants as takes
use Rattle.st_third.specs.declared.limits.Limits.{Limits}
use Rattle.st_third.specs.declared.observation.ThirdObservation.{ThirdObservation}
use Rattle.st_third.specs.declared.observation.ThirdObservation.TheVariants as seen
use Rattle.st_third.specs.declared.output.ThirdOutput.{ThirdOutput}
use Rattle.st_third.specs.Events as every
use Rattle.st_third.specs.Events.{ThirdWorldTurn, third_counted}
use Rattle.st_third.specs.Limits.{limited_association, most_clients}
use Rattle.st_third.specs.Promises as promises
use Rattle.st_third.specs.State.{Beside, ClientBeside, ThirdClient, fresh_beside}
use Rattle.st_third.specs.Steps as steps
use Rattle.st_third.specs.Steps.{ThirdStep, ThirdTraced}
use Rattle.st_third.specs.World as worlds
use Rattle.st_third.specs.World.{ThirdWorld, beside_of, third_world}
use Rattle.st_laws_third.proofs.AllNumbered.{AllGood, good_after, good_first}
use Rattle.st_laws_third.proofs.EventWalk.{ClientTakes, ClientTicks, ClientGets, IsAsked, IsAskedToLeave, IsTold, Client_step, EventLawOf, Server_step, walk_by_event}
use Rattle.st_laws_third.proofs.Folds.{KeepsBy, anything}
use Rattle.st_laws_third.proofs.Moves.{Changes, Moved, Rests}
use Rattle.st_laws_third.proofs.Sound.{Sound, kept_throughout_with, sound_first}
use Rattle.st_laws_third.proofs.Told as told
use Rattle.st_laws_limits.specs.Faults.{EveryOtherFaultHasACause, OtherFaultsHaveACause, is_caused_or_many}
use Rattle.st_laws_limits.proofs.FailedChanges.{PagesAt, begun_at, emptied_at, ends_at, later_at, turn_pages}
use Rattle.st_laws_limits.proofs.FaultCauses.{FineAnswer, words_fine}

-- What holds of the pages of each association of every client.

abbrev Pages_of : Config → Limits → ℕ → Association → Beside → Type 0
Pages_of k m n a b = PagesAt m n a

abbrev AnyWord : Limits → ThirdOutput → Type 0
AnyWord m o = Unit {0}

pages_law : (k : Config) (m : Limits) (now : Stamp) → KeepsBy anything k m now (Pages_of k m) (AnyWord m)
pages_law k m now =
    record {
      change = λ t u c e l f g. (turn_pages now m t u c l g).at;
      word = λ got t h l g o r a. tt;
      ends = λ t b number ok v h x g. ends_at m t number ok v x g;
      noted = λ t b g. record { fit = g.fit; few = g.few };
      emptied = λ n a. emptied_at m n a;
      later = λ n o l a b g. later_at m n o l a g;
      lost = λ s life. tt;
      ended = λ s life end. tt;
      at_once = λ op a h. tt;
    }

pages_begun : (k : Config) (m : Limits) (n : ℕ) (a : Association) → a.session ≡ None → a.store ≡ pages.empty_store →
    Pages_of k m n (limited_association m a) fresh_beside
pages_begun k m n a e q = begun_at m n a q

abbrev AllPages : ThirdWorld → Type 0
AllPages w = AllGood Pages_of AnyWord pages_law pages_begun w

-- with room for a dirty page
record Fits (w : ThirdWorld) : Type 0 where
  pages : AllPages w
  some : 1 ≤ w.limits.dirty

fits_after : (w v : ThirdWorld) → Sound w → Fits w → Moved w v → Fits v
fits_after w v so f mv =
    record {
      pages = good_after Pages_of AnyWord pages_law pages_begun w v so f.pages mv;
      some = subst (λ (m : Limits). 1 ≤ m.dirty) (sym (limits mv)) f.some;
    }
  where
    limits : Moved w v → v.limits ≡ w.limits
    limits (Rests p k q) = k.limits
    limits (Changes c old new d there k own others x y b) = k.limits

-- the client of a message
to_client : (form n : ℕ) (c : ClientId) → Rattle.st_third.specs.Limits.node_at form n ≡ nodes.Client c → n ≡ c.0
unfolding Rattle.st_third.specs.Limits.node_at
to_client form n c e = go (nat_le n (most_clients form)) e
  where
    its : (a b : ClientId) → nodes.Client a ≡ nodes.Client b → a ≡ b
    its a b i = cc

    go : (b : Bool) → (if b then nodes.Client (client n) else nodes.Server (Words.World.server (n - Rattle.st_base.specs.Nodes.SERVER_BASE))) ≡ nodes.Client c → n ≡ c.0
    go true i = ap (λ (d : ClientId). d.0) (its (client n) c i)
    go false i = cc

-- Why an observation of an event may be made: an answer that reports a fault has its cause.
module _ (e : ThirdEvent) where
  -- a command of the client failed
  record Failed (w : ThirdWorld) (c : ClientId) (number : ℕ) : Type 0 where
    place : ℕ
    event : e ≡ third.Plain (events.Report place false)
    command : IssuedCommand
    issued : issued_of w.world place ≡ Some command
    client : command.client ≡ c
    number_is : command.number ≡ number

  -- a message refuses what a client asked
  record Refused (w : ThirdWorld) (c : ClientId) : Type 0 where
    place : ℕ
    event : e ≡ third.Plain (events.Deliver place)
    message : SentMessage
    sent : message_of w.world place ≡ Some message
    to : message.message.header.to ≡ c.0
    refuses : faults.refuses message.message.body ≡ true

  abbrev Cause : ThirdWorld → ClientId → AppAnswer → Type 0
  Cause w c (answers.DiskFault number) = Failed w c number
  Cause w c answers.NotHolder = Refused w c
  Cause w c (answers.NoSpace free wanted) = Refused w c
  Cause w c (answers.Refused code) = Refused w c
  Cause w c answers.DirtyFull = (promises.is_dirty_full w c ≡ true) ⊎ (promises.reports_failure e ≡ true)
  Cause w c answers.OpsFull = promises.is_full w c ≡ true
  Cause w c a = Unit {0}

  abbrev CauseOf : ThirdWorld → ThirdObservation → Type 0
  CauseOf w (seen.Plain (plain_seen.Answered c op a)) = Cause w c a
  CauseOf w o = Unit {0}

  abbrev AllCaused : ThirdWorld → List ThirdObservation → Type 0
  AllCaused w os = (o : ThirdObservation) → Has o os → CauseOf w o

  -- the world before a command is reported at the disks has the same clients, messages and commands
  cause_before : (w : ThirdWorld) (k : ℕ) (ok : Bool) (c : ClientId) (a : AppAnswer) → Cause (every.with_report k ok w) c a → Cause w c a
  cause_before w k ok c (answers.DiskFault number) h =
      record { place = h.place; event = h.event; command = h.command; issued = h.issued; client = h.client; number_is = h.number_is }
  cause_before w k ok c answers.NotHolder h =
      record { place = h.place; event = h.event; message = h.message; sent = h.sent; to = h.to; refuses = h.refuses }
  cause_before w k ok c (answers.NoSpace free wanted) h =
      record { place = h.place; event = h.event; message = h.message; sent = h.sent; to = h.to; refuses = h.refuses }
  cause_before w k ok c (answers.Refused code) h =
      record { place = h.place; event = h.event; message = h.message; sent = h.sent; to = h.to; refuses = h.refuses }
  cause_before w k ok c answers.DirtyFull h = h
  cause_before w k ok c answers.OpsFull h = h
  cause_before w k ok c a h = tt

  reported : (w : ThirdWorld) (k : ℕ) (ok : Bool) (o : ThirdObservation) → CauseOf (every.with_report k ok w) o → CauseOf w o
  reported w k ok (seen.Plain (plain_seen.Answered c op a)) h = cause_before w k ok c a h
  reported w k ok o h = tt

  -- what the client's node takes
  module _ (w : ThirdWorld) (so : Sound w) (f : Fits w) (c : ClientId) (old site : WorldClient) (b : ClientBeside) (input : ThirdInput)
      (there : site_of w.world c ≡ Some old) (q : site.node ≡ old.node) (beside : beside_of w c ≡ Some b) (why : ClientTakes w c old e site input) where
    abbrev its : ThirdClient
    its = record { plain = old.node.state; beside = b }

    abbrev now : Stamp
    now = clock_of w.world (nodes.Client c)

    failed : (number : ℕ) → input ≡ takes.Plain (inputs.Done number None) → Failed w c number
    failed number = go why refl
      where
        done_is : (a b : ℕ) (x y : Option (Option (Rattle.st_base.specs.declared.disk.Tag.Tag × List ℕ))) →
            takes.Plain (inputs.Done a x) ≡ takes.Plain (inputs.Done b y) → (a ≡ b) × (x ≡ y)
        done_is a b x y i = (cc, cc)

        go : {ev2 : ThirdEvent} {site : WorldClient} {input : ThirdInput} → ClientTakes w c old ev2 site input → ev2 ≡ e →
            input ≡ takes.Plain (inputs.Done number None) → Failed w c number
        go ClientTicks i j = cc
        go (IsAsked ask) i j = cc
        go (IsAskedToLeave s) i j = cc
        go (ClientGets k x r s) i j = cc
        go (IsTold k true x found own) i j = cc
        go (IsTold k false x found own) i j =
            record {
              place = k;
              event = sym i;
              command = x;
              issued = found;
              client = own;
              number_is = (done_is x.number number _ None j).0;
            }

    refused : (x : Message) → input ≡ takes.Plain (inputs.Control x) → faults.refuses x.body ≡ true → Refused w c
    refused x = go why refl
      where
        it_is : (y : Message) → takes.Plain (inputs.Control y) ≡ takes.Plain (inputs.Control x) → y ≡ x
        it_is y i = cc

        go : {ev2 : ThirdEvent} {site : WorldClient} {input : ThirdInput} → ClientTakes w c old ev2 site input → ev2 ≡ e →
            input ≡ takes.Plain (inputs.Control x) → faults.refuses x.body ≡ true → Refused w c
        go ClientTicks i j r = cc
        go (IsAsked ask) i j r = cc
        go (IsAskedToLeave s) i j r = cc
        go (IsTold k ok y found own) i j r = cc
        go (ClientGets k y got to) i j r =
            record {
              place = k;
              event = sym i;
              message = y;
              sent = got;
              to = to_client w.world.form y.message.header.to c to;
              refuses = ap (λ (z : Message). faults.refuses z.body) (it_is y.message j) ∙ r;
            }

    answer_caused : (a : AppAnswer) → FineAnswer w.world.config w.limits now f.some its input a → Cause w c a
    answer_caused (answers.DiskFault number) h = failed number h
    answer_caused answers.NotHolder h = refused h.message h.is h.refuses
    answer_caused (answers.NoSpace free wanted) h = refused h.message h.is h.refuses
    answer_caused (answers.Refused code) h = refused h.message h.is h.refuses
    answer_caused answers.DirtyFull (inl (a, i, r)) =
        inl (subst (λ o. list_any (promises.is_dirty_full_at w.limits) (promises.associations_at o) ≡ true) (sym there)
        (some_passes (promises.is_dirty_full_at w.limits) old.node.state.associations a i r))
    answer_caused answers.DirtyFull (inr (number, h)) = inr (ap promises.reports_failure (failed number h).event)
    answer_caused answers.OpsFull h =
        subst (λ o. nat_le w.limits.operations (length (promises.operations_at o) + length (promises.leaves_at (beside_of w c))) ≡ true) (sym there)
        (subst (λ o. nat_le w.limits.operations (length old.node.state.operations + length (promises.leaves_at o)) ≡ true) (sym beside) h)
    answer_caused a h = tt

    client_caused : AllCaused w (every.client_took w c site (Client_step w c site b input)).seen
    client_caused o h =
        let z = told.took_told w c site (Client_step w c site b input) o h in
        let said =
        subst
        (λ (n : ClientNode). Has z.0 (Rattle.st_third.specs.Client.client_step w.limits (record { plain = n.state; beside = b }) now input).out) q z.1 in
        by z.0 o z.2
        (words_fine w.world.config w.limits now f.some its input (so.fits.sites c.0 old there).config (f.pages c.0 old b there beside) z.0 said)
      where
        by : (x : ThirdOutput) (o : ThirdObservation) → told.SeenOf c x o →
            Rattle.st_laws_limits.proofs.FaultCauses.Fine w.world.config w.limits now f.some its input x → CauseOf w o
        by _ _ (told.Answers op a) r = answer_caused a r
        by _ _ (told.Sends x k) r = tt
        by _ _ (told.Submits number at what k) r = tt
        by _ _ (told.Leases s end) r = tt
        by _ _ (told.Loses s life) r = tt
        by _ _ (told.Writes g p bytes k) r = tt
        by _ _ (told.Patches g p at bytes k) r = tt
        by _ _ (told.Leaves op) r = tt
        by _ _ (told.IsUnsynced op ino) r = tt
        by _ _ (told.Ends s life end) r = tt

  abbrev Caused : ThirdWorld → ThirdWorldTurn → Type 0
  Caused w sc = Sound w → Fits w → AllCaused w sc.seen

  none_caused : (w : ThirdWorld) → AllCaused w []
  none_caused w o h = absurd h

  server_caused : (w : ThirdWorld) (s : Words.ServerId) (node : ServerNode) (input : Words.ServerInput) →
      AllCaused w (every.as_plain w (ev.server_took w.world s (Ok (Server_step w s node input)))).seen
  unfolding ev.server_took
  server_caused w s node input o h =
      let t = Server_step w s node input in
      let z = has_map every.plain_seen _ o h in
      subst (CauseOf w) (sym z.2) (by z.0 (told.server_words s t.out (quiet (ev.with_node s t.node w.world)) z.0 z.1))
    where
      one : (x : Words.Output) (y : Observation) → told.ServerSeen s x y → CauseOf w (seen.Plain y)
      one _ _ (told.ServerSends x k) = tt
      one _ _ (told.Suspects d start) = tt
      one _ _ (told.Steals d life) = tt
      one _ _ (told.Cuts g p k) = tt

      by : (y : Observation) → (Has y []) ⊎ (told.ServerAmong s (Server_step w s node input).out y) → CauseOf w (seen.Plain y)
      by y (inl i) = absurd i
      by y (inr x) = one x.0 y x.2

  fate_caused : (w : ThirdWorld) (y : Observation) → told.IsFate y → CauseOf w (seen.Plain y)
  fate_caused w (plain_seen.Answered c op a) i = absurd i
  fate_caused w y i = tt

  marks_caused : (w : ThirdWorld) (os : List Observation) → ((y : Observation) → Has y os → told.IsFate y) → AllCaused w (map every.plain_seen os)
  marks_caused w os f o h = let z = has_map every.plain_seen os o h in subst (CauseOf w) (sym z.2) (fate_caused w z.0 (f z.0 z.1))

  caused_law : EventLawOf e Caused
  unfolding ev.advances ev.effects ev.marks ev.crashes_client every.client_begins every.server_begins
  caused_law =
      record {
        still = λ w so f. none_caused w;
        takes = λ w c old site b input there q beside why r so f. client_caused w so f c old site b input there q beside why;
        serves = λ w s node input there why r so f. server_caused w s node input;
        loses = λ w k m q so f. none_caused w;
        cuts = λ w from to so f. none_caused w;
        heals = λ w from to so f. none_caused w;
        advances = λ w steps so f. marks_caused w _ (told.fates_all 1 _ _);
        effects = λ w k so f. marks_caused w _ (told.fates_all 1 _ _);
        reports =
            λ w k ok sc i h so f o j. reported w k ok o
            (h (record { fits = record { sites = so.fits.sites; there = so.fits.there; pairs = so.fits.pairs }; form = so.form })
            (record { pages = f.pages; some = f.some }) o j);
        client_crashes = λ w c site there so f. marks_caused w _ (told.fates_all 1 _ _);
        server_crashes = λ w s node there so f. none_caused w;
        client_starts = λ w c site there i so f. none_caused w;
        server_starts = λ w s node there i so f. none_caused w;
      }

-- In a run.

or_right : (a : Bool) → (a || true) ≡ true
or_right true = refl
or_right false = refl

step_caused : (past : List ThirdStep) (t : ThirdTraced) (e : ThirdEvent) → Sound t.third → Fits t.third → worlds.refusal t.third e ≡ None →
    Moved t.third (every.happens (third_counted t.third) e).third → Fits (every.happens (third_counted t.third) e).third →
    OtherFaultsHaveACause past (steps.third_step t e (every.happens (third_counted t.third) e))
step_caused past t e so f q mv fv = all_pass (is_caused_or_many x) x.seen (λ o h. by o (all o h))
  where
    w : ThirdWorld
    w = third_counted t.third

    x : ThirdStep
    x = steps.third_step t e (every.happens (third_counted t.third) e)

    all : AllCaused e w (every.happens w e).seen
    all =
        walk_by_event e (Caused e) (caused_law e) w so.form
        (record { fits = record { sites = so.fits.sites; there = so.fits.there; pairs = so.fits.pairs }; form = so.form })
        (record { pages = f.pages; some = f.some })

    fails : (c : ClientId) (number : ℕ) → Failed e w c number → faults.fails_command t.third.world c number (steps.plain_event e) ≡ true
    fails c number h =
        ap (λ z. faults.fails_command t.third.world c number (steps.plain_event z)) h.event
        ∙ (ap (faults.is_own_command c number) h.issued
        ∙ and_both (h.command.client.0 == c.0) (h.command.number == number)
        (eq-eqb h.command.client.0 c.0 (ap (λ (z : ClientId). z.0) h.client)) (eq-eqb h.command.number number h.number_is))

    refuses : (c : ClientId) → Refused e w c → faults.delivers_refusal t.third.world c (steps.plain_event e) ≡ true
    refuses c h =
        ap (λ z. faults.delivers_refusal t.third.world c (steps.plain_event z)) h.event
        ∙ (ap (faults.is_refusal_to c) h.sent
        ∙ and_both (h.message.message.header.to == c.0) (faults.refuses h.message.message.body) (eq-eqb h.message.message.header.to c.0 h.to) h.refuses)

    by : (o : ThirdObservation) → CauseOf e w o → is_caused_or_many x o ≡ true
    by (seen.Plain (plain_seen.Answered c op (answers.DiskFault number))) h = fails c number h
    by (seen.Plain (plain_seen.Answered c op answers.NotHolder)) h = refuses c h
    by (seen.Plain (plain_seen.Answered c op (answers.NoSpace free wanted))) h = refuses c h
    by (seen.Plain (plain_seen.Answered c op (answers.Refused code))) h = refuses c h
    by (seen.Plain (plain_seen.Answered c op answers.DirtyFull)) (inl h) =
        ap (λ b. (b || promises.is_dirty_full x.after.third c) || promises.reports_failure e) h
    by (seen.Plain (plain_seen.Answered c op answers.DirtyFull)) (inr h) =
        ap (λ b. (promises.is_dirty_full x.before.third c || promises.is_dirty_full x.after.third c) || b) h
        ∙ or_right (promises.is_dirty_full x.before.third c || promises.is_dirty_full x.after.third c)
    by (seen.Plain (plain_seen.Answered c op answers.OpsFull)) h = h
    by o h = refl

-- a head of the third form leaves room for a dirty page
room_of : (m : Limits) → Rattle.st_third.specs.Limits.are_limits m ≡ true → 1 ≤ m.dirty
room_of m e =
    let a = (and_true (nat_le 10 m.inodes && nat_le m.inodes 16777216) _ e).1 in
    let b = (and_true (nat_le 1 m.locks && nat_le m.locks 4096) _ a).1 in
    let d = (and_true (nat_le 1 m.dirty && nat_le m.dirty 65536) _ b).0 in
    leb-true 1 m.dirty (and_true (nat_le 1 m.dirty) (nat_le m.dirty 65536) d).0

fits_first : (k : Config) (m : Limits) (clients servers disks blocks : ℕ) → 1 ≤ m.dirty → Fits (third_world k m clients servers disks blocks 3)
unfolding third_world Rattle.st_third.specs.Limits.with_limits
fits_first k m clients servers disks blocks l =
    record { pages = good_first Pages_of AnyWord pages_law pages_begun k m clients servers disks blocks; some = l }

pub every_other_fault_has_a_cause : EveryOtherFaultHasACause
every_other_fault_has_a_cause k m clients servers disks blocks es head =
    kept_throughout_with Fits fits_after OtherFaultsHaveACause step_caused es [] (steps.third_traced (third_world k m clients servers disks blocks 3))
    (sound_first k m clients servers disks blocks) (fits_first k m clients servers disks blocks (room_of m head.known_form))
