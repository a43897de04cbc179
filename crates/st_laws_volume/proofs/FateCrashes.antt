-- In every run the entries of lives that a crash ended are marked.
use Rattle.std.proofs.Common.{◌≡◌, ℕ, zero, suc, ◌+◌, ◌<◌, ◌⊎◌, Bool, true, false, ◌&&◌, ◌||◌, ◌==◌, List, [], ◌∷◌, ◌++◌, map, Option, Some, None, Ok, Err, refl, sym, ap, ◌∙◌, subst, inl, inr, arith, if◌then◌else◌}
use Rattle.std.specs.Prelude.{length, Result, find, set, slice_get}
use Rattle.std.specs.List.{list_all, list_any}
use Rattle.std.proofs.lemmas.Bool.{eq-eqb, eqb-true}
use Rattle.st_base.specs.declared.config.Config.{Config}
use Rattle.st_base.specs.declared.ids.ClientId.{ClientId}
use Rattle.st_base.specs.declared.ids.ServerId.{ServerId}
use Rattle.st_base.specs.declared.ids.Life.{Life}
use Rattle.st_base.specs.declared.ids.NodeId.{NodeId}
use Rattle.st_base.specs.declared.ids.NodeId.TheVariants as nodes
use Rattle.st_base.specs.declared.disk.BlockAt.{BlockAt}
use Rattle.st_base.specs.declared.disk.Command.{Command}
use Rattle.st_messages.specs.declared.ask.Ask.{Ask}
use Rattle.st_messages.specs.declared.event.Event.{Event}
use Rattle.st_messages.specs.declared.event.Event.TheVariants as events
use Rattle.st_messages.specs.declared.output.Note.{Note}
use Rattle.st_messages.specs.declared.output.Note.TheVariants as notes
use Rattle.st_messages.specs.declared.output.Output.{Output}
use Rattle.st_messages.specs.declared.output.Output.TheVariants as outputs
use Rattle.st_rules.specs.declared.client.ClientInput.{ClientInput}
use Rattle.st_rules.specs.declared.input.ServerInput.{ServerInput}
use Rattle.st_rules.specs.declared.log.Fate.{Fate}
use Rattle.st_rules.specs.declared.log.Fate.TheVariants as fates
use Rattle.st_rules.specs.declared.log.Change.TheVariants as changes
use Rattle.st_rules.specs.declared.log.LogEntry.{LogEntry}
use Rattle.st_rules.specs.declared.log.LogOwner.{LogOwner}
use Rattle.st_rules.specs.declared.node.StepRefusal.{StepRefusal}
use Rattle.st_rules.specs.declared.observation.Observation.{Observation}
use Rattle.st_rules.specs.declared.observation.Observation.TheVariants as seen
use Rattle.st_rules.specs.declared.world.IssuedCommand.{IssuedCommand}
use Rattle.st_rules.specs.declared.world.LeaseLife.{LeaseLife}
use Rattle.st_rules.specs.declared.world.SentMessage.{SentMessage}
use Rattle.st_rules.specs.Client as cl
use Rattle.st_rules.specs.ClientLease.{end_at}
use Rattle.st_rules.specs.ClientState.{Association, ClientState, is_at}
use Rattle.st_rules.specs.Events as ev
use Rattle.st_rules.specs.Events.{WorldTurn, is_change, is_of_life_over, present_life, world_step}
use Rattle.st_rules.specs.FlatLog as log
use Rattle.st_rules.specs.History.{Traced, traced}
use Rattle.st_rules.specs.Keys.{same_client, same_server}
use Rattle.st_rules.specs.Lines as lines
use Rattle.st_rules.specs.Safety.{ChangesAreLocked, Promise, Step, TheReportTellsTheLog, changes_alone, is_change_locked, step}
use Rattle.st_rules.specs.Safety as safety
use Rattle.st_rules.specs.Server as server
use Rattle.st_rules.specs.Server.{ServerNode}
use Rattle.st_rules.specs.World as world
use Rattle.st_rules.specs.World.{World, WorldClient, clock_of, fresh_world, issued_of, lives_of, message_of, node_of, site_of}
use Rattle.st_promises.specs.Safe.{EveryRunIsSafe, IsSafeRun}
use Rattle.st_lemmas.specs.Lists.{Has}
use Rattle.st_lemmas.proofs.Steps.{step_happens}
use Rattle.st_lemmas.proofs.Tables.{and_true}
use Rattle.st_laws_steps.specs.Lives.Lives.{LivesHold}
use Rattle.st_laws_pages.specs.Disks.Obligations.{FatesHold}
use Rattle.st_laws_pages.proofs.Disks.Whole.{fates_law, fresh_fates}
use Rattle.st_laws_pages.proofs.Lives.Lasting.{flush_parts}
use Rattle.st_laws_volume.specs.FateMarks.{AreMarked, CrashesAreMarked, is_crash_of, is_crashed_life}
use Rattle.st_laws_volume.specs.Logs.{AreSame, InEveryRun, IsLogOf}
use Rattle.st_laws_volume.specs.Options.{OnSome}
use Rattle.st_laws_volume.specs.Seen.{of_event}
use Rattle.st_laws_volume.specs.Witness.{Witness, begun, if_told, led_by, of_delivery, of_lines, steps_of, volume_after}
use Rattle.st_laws_volume.proofs.Carried.{IsKept, Led, carried}
use Rattle.st_laws_volume.proofs.FateKeeps.{AllCrashed, AllKeep, crash_marks, run_keeps}
use Rattle.st_laws_volume.proofs.Logs.{LogHolds, log_begins, log_kept}
use Rattle.st_laws_volume.proofs.Options.{on_if, on_more, on_then}
use Rattle.st_laws_volume.proofs.ReadPages.{throughout_both, throughout_more}
use Rattle.st_volume.specs.Pages.{Entry}
use Rattle.st_volume.specs.Volume.{Volume, run}

-- Lives that a crash ended: only a crash of their client adds such a life. No life that ended is forgotten.
abbrev Crashes : Event → LogOwner → Type 0
Crashes e o = (c : ClientId) × (e ≡ events.Crash (nodes.Client c)) × (o.client ≡ c)

abbrev pub Adds : World → Event → World → Type 0
Adds w e v =
    ((o : LogOwner) → is_crashed_life v.ended o ≡ true → (is_crashed_life w.ended o ≡ true) ⊎ Crashes e o)
    × ((p : LeaseLife → Bool) → list_any p w.ended ≡ true → list_any p v.ended ≡ true)

same_ended : (w v : World) (e : Event) → v.ended ≡ w.ended → Adds w e v
same_ended w v e q = (λ o h. inl (ap (λ es. is_crashed_life es o) (sym q) ∙ h), λ p h. ap (λ es. list_any p es) q ∙ h)

one_more : (o : LogOwner) (es : List LeaseLife) (l : LeaseLife) → l.crashed ≡ false → is_crashed_life (es ++ l ∷ []) o ≡ is_crashed_life es o
one_more o [] l q = ap (λ b. (b && is_of_life_over l 0 o) || false) q
one_more o (x ∷ es) l q = ap (λ b. is_crash_of o x || b) (one_more o es l q)

note_ended : (c : ClientId) (before : ClientState) (n : Note) (sc : WorldTurn) (o : LogOwner) →
    is_crashed_life (ev.client_notes sc c before n).world.ended o ≡ is_crashed_life sc.world.ended o
unfolding ev.client_notes ev.accepts ev.patches ev.loses
note_ended c before (notes.Leased s end) sc o = refl
note_ended c before (notes.Lost s life) sc o = one_more o sc.world.ended (ev.life_over c s life (cl.lease_end_with before s)) refl
note_ended c before (notes.Accepted f p bytes) sc o = refl
note_ended c before (notes.Patched f p at bytes) sc o = refl
note_ended c before n sc o = refl

submit_ended : (c : ClientId) (site : Option WorldClient) (number : ℕ) (at : BlockAt) (what : Command) (sc : WorldTurn) →
    (ev.submits sc c site number at what).world.ended ≡ sc.world.ended
unfolding ev.submits
submit_ended c None number at what sc = refl
submit_ended c (Some site) number at what sc = refl

says_ended : (c : ClientId) (before : ClientState) (x : Output) (sc : WorldTurn) (o : LogOwner) →
    is_crashed_life (ev.client_says sc c before x).world.ended o ≡ is_crashed_life sc.world.ended o
unfolding ev.client_says ev.sends ev.answers_with
says_ended c before (outputs.Send m) sc o = refl
says_ended c before (outputs.Submit number at what) sc o = ap (λ es. is_crashed_life es o) (submit_ended c (site_of sc.world c) number at what sc)
says_ended c before (outputs.Answer op answer) sc o = refl
says_ended c before (outputs.Note n) sc o = note_ended c before n sc o

all_ended : (c : ClientId) (before : ClientState) (os : List Output) (sc : WorldTurn) (o : LogOwner) →
    is_crashed_life (ev.client_says_all c before os sc).world.ended o ≡ is_crashed_life sc.world.ended o
unfolding ev.client_says_all
all_ended c before [] sc o = refl
all_ended c before (x ∷ os) sc o = all_ended c before os (ev.client_says sc c before x) o ∙ says_ended c before x sc o

any_front : (p : LeaseLife → Bool) (es ls : List LeaseLife) → list_any p es ≡ true → list_any p (es ++ ls) ≡ true
any_front p [] ls q = cc q
any_front p (x ∷ es) ls q = go (p x) q (any_front p es ls)
  where
    go : (b : Bool) → (b || list_any p es) ≡ true → (list_any p es ≡ true → list_any p (es ++ ls) ≡ true) → (b || list_any p (es ++ ls)) ≡ true
    go true q r = refl
    go false q r = r q

note_front : (c : ClientId) (before : ClientState) (n : Note) (sc : WorldTurn) (p : LeaseLife → Bool) →
    list_any p sc.world.ended ≡ true → list_any p (ev.client_notes sc c before n).world.ended ≡ true
unfolding ev.client_notes ev.accepts ev.patches ev.loses
note_front c before (notes.Leased s end) sc p h = h
note_front c before (notes.Lost s life) sc p h = any_front p sc.world.ended (ev.life_over c s life (cl.lease_end_with before s) ∷ []) h
note_front c before (notes.Accepted f q bytes) sc p h = h
note_front c before (notes.Patched f q at bytes) sc p h = h
note_front c before n sc p h = h

says_front : (c : ClientId) (before : ClientState) (x : Output) (sc : WorldTurn) (p : LeaseLife → Bool) →
    list_any p sc.world.ended ≡ true → list_any p (ev.client_says sc c before x).world.ended ≡ true
unfolding ev.client_says ev.sends ev.answers_with
says_front c before (outputs.Send m) sc p h = h
says_front c before (outputs.Submit number at what) sc p h = ap (λ es. list_any p es) (submit_ended c (site_of sc.world c) number at what sc) ∙ h
says_front c before (outputs.Answer op answer) sc p h = h
says_front c before (outputs.Note n) sc p h = note_front c before n sc p h

all_front : (c : ClientId) (before : ClientState) (os : List Output) (sc : WorldTurn) (p : LeaseLife → Bool) →
    list_any p sc.world.ended ≡ true → list_any p (ev.client_says_all c before os sc).world.ended ≡ true
unfolding ev.client_says_all
all_front c before [] sc p h = h
all_front c before (x ∷ os) sc p h = all_front c before os (ev.client_says sc c before x) p (says_front c before x sc p h)

served_note : (s : ServerId) (n : Note) (sc : WorldTurn) → (ev.server_notes sc s n).world.ended ≡ sc.world.ended
unfolding ev.server_notes ev.cuts
served_note s (notes.Suspected c t) sc = refl
served_note s (notes.Stolen c life) sc = refl
served_note s (notes.CutDone f p) sc = refl
served_note s n sc = refl

served_one : (s : ServerId) (x : Output) (sc : WorldTurn) → (ev.server_says sc s x).world.ended ≡ sc.world.ended
unfolding ev.server_says ev.sends
served_one s (outputs.Send m) sc = refl
served_one s (outputs.Note n) sc = served_note s n sc
served_one s x sc = refl

server_ended : (s : ServerId) (os : List Output) (sc : WorldTurn) → (ev.server_says_all s os sc).world.ended ≡ sc.world.ended
unfolding ev.server_says_all
server_ended s [] sc = refl
server_ended s (x ∷ os) sc = server_ended s os (ev.server_says sc s x) ∙ served_one s x sc

-- the lives of a client that crashes are its own
lives_own : (c : ClientId) (es : List LeaseLife) (ls : List LeaseLife) (o : LogOwner) → ((l : LeaseLife) → Has l ls → l.client ≡ c) →
    is_crashed_life (es ++ map ev.crashed_life ls) o ≡ true → (is_crashed_life es o ≡ true) ⊎ (o.client ≡ c)
lives_own c (x ∷ es) ls o h q = go (is_crash_of o x) q (lives_own c es ls o h)
  where
    go : (b : Bool) → (b || is_crashed_life (es ++ map ev.crashed_life ls) o) ≡ true →
        (is_crashed_life (es ++ map ev.crashed_life ls) o ≡ true → (is_crashed_life es o ≡ true) ⊎ (o.client ≡ c)) →
        ((b || is_crashed_life es o) ≡ true) ⊎ (o.client ≡ c)
    go true q r = inl refl
    go false q r = r q
lives_own c [] [] o h q = cc
lives_own c [] (l ∷ ls) o h q = go (is_crash_of o (ev.crashed_life l)) refl q (lives_own c [] ls o (λ x i. h x (inr i)))
  where
    go : (b : Bool) → is_crash_of o (ev.crashed_life l) ≡ b → (b || is_crashed_life (map ev.crashed_life ls) o) ≡ true →
        (is_crashed_life (map ev.crashed_life ls) o ≡ true → (false ≡ true) ⊎ (o.client ≡ c)) → (false ≡ true) ⊎ (o.client ≡ c)
    go true f q r = inr (ap (λ n. record { 0 = n }) (eqb-true o.client.0 l.client.0 (and_true (o.client.0 == l.client.0) _ f).0) ∙ h l (inl refl))
    go false f q r = r q

lives_client : (k : Config) (c : ClientId) (as_ : List Association) (l : LeaseLife) → Has l (map (world.life_of_association k c) as_) → l.client ≡ c
lives_client k c [] l h = absurd h
lives_client k c (a ∷ as_) l (inl e) = ap (λ (x : LeaseLife). x.client) e
lives_client k c (a ∷ as_) l (inr i) = lives_client k c as_ l i

module _ (t : World) (e : Event) (ids : (c : ClientId) (site : WorldClient) → site_of t c ≡ Some site → site.node.state.id ≡ c) where
  w : World
  w = ev.counted t

  abbrev R : WorldTurn → Type 0
  R sc = Adds t e sc.world

  nothing : (sc : WorldTurn) → sc.world.ended ≡ t.ended → R sc
  nothing sc q = same_ended t sc.world e q

  takes : (v : World) (c : ClientId) (i : ClientInput) (site : WorldClient) → v.ended ≡ t.ended → R (ev.client_takes v c i site)
  unfolding ev.client_takes ev.client_took
  takes v c i site q = go (cl.node_step site.node (clock_of v (nodes.Client c)) i)
    where
      go : (r : Result cl.NodeTurn StepRefusal) → R (ev.client_took v c site r)
      go (Err x) = nothing (ev.quiet v) q
      go (Ok u) =
          let sc : WorldTurn = ev.client_says_all c site.node.state u.out (ev.quiet (ev.with_site c (ev.at_node u.node site) v)) in
          let same : (o : LogOwner) → is_crashed_life (ev.flushes c u.node.state (world.all_servers sc.world) sc.world).ended o ≡ is_crashed_life t.ended o =
          λ o. ap (λ es. is_crashed_life es o) (flush_parts c u.node.state (world.all_servers sc.world) sc.world).ended
          ∙ (all_ended c site.node.state u.out (ev.quiet (ev.with_site c (ev.at_node u.node site) v)) o ∙ ap (λ es. is_crashed_life es o) q) in (
            λ o h. inl (sym (same o) ∙ h),
            λ p h. ap (λ es. list_any p es) (flush_parts c u.node.state (world.all_servers sc.world) sc.world).ended
                ∙ all_front c site.node.state u.out (ev.quiet (ev.with_site c (ev.at_node u.node site) v)) p (ap (λ es. list_any p es) q ∙ h),
          )

  by_client : (v : World) (c : ClientId) (i : ClientInput) → v.ended ≡ t.ended → (o : Option WorldClient) → R (ev.at_client v c i o)
  unfolding ev.at_client
  by_client v c i q None = nothing (ev.quiet v) q
  by_client v c i q (Some site) = takes v c i site q

  by_server : (s : ServerId) (i : ServerInput) (o : Option ServerNode) → R (ev.at_server w s i o)
  unfolding ev.at_server ev.server_takes ev.server_took w
  by_server s i None = nothing (ev.quiet w) refl
  by_server s i (Some node) = go (server.node_step node (clock_of w (nodes.Server s)) i)
    where
      go : (r : Result server.NodeTurn StepRefusal) → R (ev.server_took w s r)
      go (Err x) = nothing (ev.quiet w) refl
      go (Ok u) = nothing (ev.server_says_all s u.out (ev.quiet (ev.with_node s u.node w))) (server_ended s u.out (ev.quiet (ev.with_node s u.node w)))

  asks : (c : ClientId) (ask : Ask) (o : Option WorldClient) → R (ev.asks_at w c ask o)
  unfolding ev.asks_at w
  asks c ask None = nothing (ev.quiet w) refl
  asks c ask (Some site) = takes w c _ (ev.asked_once_more site) refl

  delivered : (o : Option SentMessage) → R (ev.delivers w o)
  unfolding ev.delivers ev.delivers_to w
  delivered None = nothing (ev.quiet w) refl
  delivered (Some m) = to (world.receiver_of m)
    where
      to : (r : NodeId) → R (ev.delivers_to w m.message r)
      to (nodes.Client c) = by_client w c _ refl (site_of t c)
      to (nodes.Server s) = by_server s _ (node_of t s)

  reported : (k : ℕ) (ok : Bool) → R (ev.reports_of w k ok)
  unfolding ev.reports_of ev.tells ev.tells_client ev.tells_site w
  reported k ok = go (issued_of t k)
    where
      v : World
      v = ev.with_disks (ev.disks_after w.disks (Rattle.st_rules.specs.Disks.done w.disks k ok)) w

      same : (x : IssuedCommand) (site : WorldClient) (b : Bool) → R (if b then ev.client_takes v x.client (ev.end_told v k ok x) site else ev.quiet v)
      same x site true = takes v x.client (ev.end_told v k ok x) site refl
      same x site false = nothing (ev.quiet v) refl

      at : (x : IssuedCommand) (o : Option WorldClient) → R (ev.tells_client v k ok x o)
      at x None = nothing (ev.quiet v) refl
      at x (Some site) = same x site (ev.is_same_instance x site)

      go : (o : Option IssuedCommand) → R (ev.tells v k ok o)
      go None = nothing (ev.quiet v) refl
      go (Some x) = at x (site_of t x.client)

  crashes : (c : ClientId) → e ≡ events.Crash (nodes.Client c) → (o : Option WorldClient) → site_of t c ≡ o → R (ev.crashes_client w c o)
  unfolding ev.crashes_client ev.marks w
  crashes c q None at = nothing (ev.quiet w) refl
  crashes c q (Some site) at = (
    λ o h. go o
        (lives_own c t.ended (lives_of site.node.state) o
        (λ l i. lives_client site.node.state.config site.node.state.id site.node.state.associations l i ∙ ids c site at) h),
    λ p h. any_front p t.ended (map ev.crashed_life (lives_of site.node.state)) h,
  )
    where
      go : (o : LogOwner) → (is_crashed_life t.ended o ≡ true) ⊎ (o.client ≡ c) → (is_crashed_life t.ended o ≡ true) ⊎ Crashes e o
      go o (inl h) = inl h
      go o (inr h) = inr (c, q, h)

  starts : (c : ClientId) (o : Option WorldClient) → R (ev.quiet (ev.starts_client w c o))
  unfolding ev.starts_client w
  starts c None = nothing (ev.quiet w) refl
  starts c (Some site) = nothing (ev.quiet (ev.with_site c (ev.started_site site) w)) refl

  crashes_server : (s : ServerId) (o : Option ServerNode) → R (ev.quiet (ev.crashes_server w s o))
  unfolding ev.crashes_server w
  crashes_server s None = nothing (ev.quiet w) refl
  crashes_server s (Some node) = nothing (ev.quiet (ev.with_node s (server.crash_node node) w)) refl

  starts_server : (s : ServerId) (o : Option ServerNode) → R (ev.quiet (ev.starts_server w s o))
  unfolding ev.starts_server w
  starts_server s None = nothing (ev.quiet w) refl
  starts_server s (Some node) = nothing (ev.quiet (ev.with_node s (server.start_node node (clock_of w (nodes.Server s))) w)) refl

  loses : (k : ℕ) (o : Option SentMessage) → R (ev.quiet (ev.loses_message w k o))
  unfolding ev.loses_message w
  loses k None = nothing (ev.quiet w) refl
  loses k (Some m) = nothing (ev.quiet (ev.with_lost k m w)) refl

  happens : (f : Event) → e ≡ f → R (ev.happens w f)
  unfolding ev.happens ev.ticks ev.crashes ev.starts ev.advances ev.effects ev.marks w
  happens (events.Tick (nodes.Client c)) i = by_client w c _ refl (site_of t c)
  happens (events.Tick (nodes.Server s)) i = by_server s _ (node_of t s)
  happens (events.App c ask) i = asks c ask (site_of t c)
  happens (events.Deliver k) i = delivered (message_of t k)
  happens (events.Lose k) i = loses k (message_of t k)
  happens (events.Cut from to) i = nothing (ev.quiet (ev.with_cut from to w)) refl
  happens (events.Heal from to) i = nothing (ev.quiet (ev.without_cut from to w)) refl
  happens (events.Advance increments) i = nothing (ev.advances w increments) refl
  happens (events.Effect k) i = nothing (ev.effects w k) refl
  happens (events.Report k ok) i = reported k ok
  happens (events.Crash (nodes.Client c)) i = crashes c i (site_of t c) refl
  happens (events.Crash (nodes.Server s)) i = crashes_server s (node_of t s)
  happens (events.Start (nodes.Client c)) i = starts c (site_of t c)
  happens (events.Start (nodes.Server s)) i = starts_server s (node_of t s)

  pub event_adds : (sc : WorldTurn) → world_step t e ≡ Ok sc → R sc
  unfolding w
  event_adds sc h = let z = step_happens t e sc h in subst R (sym z.1) (happens e refl)

-- Entries that join the log are of present lives, which no crash ended.
abbrev pub IsFresh : World → LogEntry → Type 0
IsFresh v o = is_change o ≡ true → (changes_alone v o.of.client o.of.file o.of.page ≡ true) × (o.of.life ≡ present_life v o.of.client o.of.file.server)

abbrev pub AllFresh : World → List LogEntry → Type 0
AllFresh v [] = Unit {0}
AllFresh v (o ∷ os) = IsFresh v o × AllFresh v os

-- the same entry, perhaps with another fate
abbrev pub SameEntry : LogEntry → LogEntry → Type 0
SameEntry o p = (p.of ≡ o.of) × (p.change ≡ o.change)

abbrev pub Grown : World → List LogEntry → List LogEntry → Type 0
Grown v [] ps = AllFresh v ps
Grown v (o ∷ os) [] = ⊥
Grown v (o ∷ os) (p ∷ ps) = SameEntry o p × Grown v os ps

fresh_last : (v : World) (ps : List LogEntry) (p : LogEntry) → AllFresh v ps → IsFresh v p → AllFresh v (ps ++ p ∷ [])
fresh_last v [] p h f = (f, tt)
fresh_last v (x ∷ ps) p h f = (h.0, fresh_last v ps p h.1 f)

grown_last : (v : World) (os ps : List LogEntry) (p : LogEntry) → Grown v os ps → IsFresh v p → Grown v os (ps ++ p ∷ [])
grown_last v [] ps p h f = fresh_last v ps p h f
grown_last v (o ∷ os) [] p h f = absurd h
grown_last v (o ∷ os) (x ∷ ps) p h f = (h.0, grown_last v os ps p h.1 f)

fresh_set : (v : World) (ps : List LogEntry) (n : ℕ) (p q : LogEntry) → slice_get ps n ≡ Some p → SameEntry p q → AllFresh v ps → AllFresh v (set ps n q)
fresh_set v [] n p q i s h = tt
fresh_set v (x ∷ ps) zero p q i s h = (fresh s, h.1)
  where
    is : Some x ≡ Some p → x ≡ p
    is i = cc

    fresh : SameEntry p q → IsFresh v q
    fresh s c =
        let z = is i in
        let own : q.of ≡ x.of = s.0 ∙ ap (λ (y : LogEntry). y.of) (sym z) in
        let f = h.0 (ap (λ k. ev.changes_page k) (ap (λ (y : LogEntry). y.change) z ∙ sym s.1) ∙ c) in (
          subst (λ (k : LogOwner). changes_alone v k.client k.file k.page ≡ true) (sym own) f.0,
          subst (λ (k : LogOwner). k.life ≡ present_life v k.client k.file.server) (sym own) f.1,
        )
fresh_set v (x ∷ ps) (suc n) p q i s h = (h.0, fresh_set v ps n p q i s h.1)

grown_set : (v : World) (os ps : List LogEntry) (n : ℕ) (p q : LogEntry) → slice_get ps n ≡ Some p → SameEntry p q → Grown v os ps → Grown v os (set ps n q)
grown_set v [] ps n p q i s h = fresh_set v ps n p q i s h
grown_set v (o ∷ os) [] n p q i s h = absurd h
grown_set v (o ∷ os) (x ∷ ps) zero p q i s h =
    let z = is i in ((s.0 ∙ (ap (λ (y : LogEntry). y.of) (sym z) ∙ h.0.0), s.1 ∙ (ap (λ (y : LogEntry). y.change) (sym z) ∙ h.0.1)), h.1)
  where
    is : Some x ≡ Some p → x ≡ p
    is i = cc
grown_set v (o ∷ os) (x ∷ ps) (suc n) p q i s h = (h.0, grown_set v os ps n p q i s h.1)

fated_grown : (v : World) (os ps : List LogEntry) (index : ℕ) (fate : Fate) → Grown v os ps → Grown v os (lines.fated ps index fate)
fated_grown v os ps zero fate h = h
fated_grown v os ps (suc n) fate h = go (slice_get ps n) refl
  where
    go : (o : Option LogEntry) → slice_get ps n ≡ o → Grown v os (lines.with_fate (suc n) fate o ps)
    go None q = h
    go (Some p) q = grown_set v os ps n p (record p { fate = fate }) q (refl, refl) h

line_grown : (v : World) (os ps : List LogEntry) (x : Observation) → is_change_locked v x ≡ true → Grown v os ps → Grown v os (lines.log_behind v ps x)
unfolding lines.log_behind log.accept log.patch log.cut
line_grown v os ps (seen.Wrote i c f p bytes) l h =
    grown_last v os ps (log.pending (log.owner c (present_life v c f.server) f p) (changes.Write bytes)) h (λ k. (l, refl))
line_grown v os ps (seen.Patched i c f p at bytes) l h =
    grown_last v os ps (log.pending (log.owner c (present_life v c f.server) f p) (changes.Patch at bytes)) h (λ k. (l, refl))
line_grown v os ps (seen.CutAt i f p) l h = grown_last v os ps (log.hard_cut f p) h (λ k. cc)
line_grown v os ps (seen.Hardened i) l h = fated_grown v os ps i fates.Hard h
line_grown v os ps (seen.Dropped i cause) l h = fated_grown v os ps i (fates.Gone cause) h
line_grown v os ps (seen.Sent k m) l h = h
line_grown v os ps (seen.Submitted k c number what) l h = h
line_grown v os ps (seen.Answered c op answer) l h = h
line_grown v os ps (seen.Leased c s end) l h = h
line_grown v os ps (seen.Lost c s life) l h = h
line_grown v os ps (seen.Suspected s c start) l h = h
line_grown v os ps (seen.Stolen s c life) l h = h

pub lines_grown : (v : World) (os ps : List LogEntry) (xs : List Observation) → list_all (is_change_locked v) xs ≡ true → Grown v os ps →
    Grown v os (lines.log_told v ps xs)
unfolding lines.log_told
lines_grown v os ps [] l h = h
lines_grown v os ps (x ∷ xs) l h =
    let b = and_true (is_change_locked v x) (list_all (is_change_locked v) xs) l in
    lines_grown v os (lines.log_behind v ps x) xs b.1 (line_grown v os ps x b.0 h)

pub grown_self : (v : World) (os : List LogEntry) → Grown v os os
grown_self v [] = tt
grown_self v (o ∷ os) = ((refl, refl), grown_self v os)

-- no crash ended a present life under a lease
not_crashed : (v : World) (o : LogEntry) → LivesHold v → changes_alone v o.of.client o.of.file o.of.page ≡ true →
    o.of.life ≡ present_life v o.of.client o.of.file.server → is_crashed_life v.ended o.of ≡ true → ⊥
not_crashed v o lives a life c = at (site_of v o.of.client) refl (and_true (safety.lasts v o.of.client o.of.file.server) _ a).0
  where
    s : ServerId
    s = o.of.file.server

    member : (es : List LeaseLife) → is_crashed_life es o.of ≡ true → (l : LeaseLife) × Has l es × (is_crash_of o.of l ≡ true)
    member [] q = cc
    member (l ∷ es) q = go (is_crash_of o.of l) refl q (member es)
      where
        go : (b : Bool) → is_crash_of o.of l ≡ b → (b || is_crashed_life es o.of) ≡ true →
            (is_crashed_life es o.of ≡ true → (x : LeaseLife) × Has x es × (is_crash_of o.of x ≡ true)) →
            (x : LeaseLife) × Has x (l ∷ es) × (is_crash_of o.of x ≡ true)
        go true f q r = (l, inl refl, f)
        go false f q r = let z = r q in (z.0, inr z.1, z.2)

    found : (site : WorldClient) → site_of v o.of.client ≡ Some site → site.node.running ≡ true → (y : Option Association) →
        cl.association_with site.node.state s ≡ y →
        safety.is_before (clock_of v (nodes.Client o.of.client)) (end_at site.node.state.config (cl.lease_at y)) ≡ true → ⊥
    found site there runs None q b = cc
    found site there runs (Some a) q b =
        let m = member v.ended c in
        let l = m.0 in
        let f = (and_true l.crashed (is_of_life_over l 0 o.of) m.2).1 in
        let g = and_true (same_client o.of.client l.client) _ f in
        let k = and_true (same_server s l.server) (o.of.life.0 == l.life.0) g.1 in
        let client : l.client ≡ o.of.client = ap (λ n. record { 0 = n }) (sym (eqb-true o.of.client.0 l.client.0 g.0)) in
        let at_server : s ≡ l.server = ap (λ n. record { 0 = n }) (eqb-true s.0 l.server.0 k.0) in
        let its_place = ap (λ (z : ServerId). find (is_at z) site.node.state.associations) (sym at_server) ∙ q in
        let below : l.life.0 < a.life.0 = ((lives.lives.sites o.of.client site there).below l m.1 client a its_place).below runs in
        let its : o.of.life.0 ≡ l.life.0 = eqb-true o.of.life.0 l.life.0 k.1 in
        let at_site = ap (λ (z : Option WorldClient). (ev.life_of_site s z).0) there in
        let at_association = ap (λ (z : Option Association). (world.life_at z).0) q in
        let now : o.of.life.0 ≡ a.life.0 = ap (λ (z : Life). z.0) life ∙ (at_site ∙ at_association) in
        none below its now
      where
        none : {x y z : ℕ} → x < y → z ≡ x → z ≡ y → ⊥
        none a b c = omega (arith, a, b, c)

    at : (y : Option WorldClient) → site_of v o.of.client ≡ y → safety.lasts_at (clock_of v (nodes.Client o.of.client)) s y ≡ true → ⊥
    at None q h = cc
    at (Some site) q h =
        let b = and_true site.node.running (safety.is_before (clock_of v (nodes.Client o.of.client)) (cl.lease_end_with site.node.state s)) h in
        found site q b.0 (cl.association_with site.node.state s) refl b.1

fresh_marked : (v : World) (ps : List LogEntry) (fs : List Entry) → LivesHold v → AllFresh v ps → AreMarked v.ended ps fs
fresh_marked v [] fs lives h = tt
fresh_marked v (p ∷ ps) [] lives h = tt
fresh_marked v (p ∷ ps) (f ∷ fs) lives h = (λ k c. let z = h.0 k in absurd (not_crashed v p lives z.0 z.1 c), fresh_marked v ps fs lives h.1)

-- Marks after an event.
marked_on : (w v : World) (e : Event) (os ps : List LogEntry) (es fs : List Entry) → LivesHold v → Adds w e v →
    ((c : ClientId) → e ≡ events.Crash (nodes.Client c) → AllCrashed c es fs) → Grown v os ps → AllKeep ⊥ es fs → AreSame os es → AreMarked w.ended os es →
    AreMarked v.ended ps fs
marked_on w v e [] ps es fs lives adds marks g k s h = fresh_marked v ps fs lives g
marked_on w v e (o ∷ os) [] es fs lives adds marks g k s h = absurd g
marked_on w v e (o ∷ os) (p ∷ ps) [] fs lives adds marks g k s h = absurd s
marked_on w v e (o ∷ os) (p ∷ ps) (y ∷ es) [] lives adds marks g k s h = tt
marked_on w v e (o ∷ os) (p ∷ ps) (y ∷ es) (f ∷ fs) lives adds marks g k s h =
    (one, marked_on w v e os ps es fs lives adds (λ c q. (marks c q).1) g.1 k.1 s.1 h.1)
  where
    one : is_change p ≡ true → is_crashed_life v.ended p.of ≡ true → f.crashed ≡ true
    one ch cr = go (adds.0 o.of (ap (is_crashed_life v.ended) (sym g.0.0) ∙ cr))
      where
        was : is_change o ≡ true
        was = ap (λ x. ev.changes_page x) (sym g.0.1) ∙ ch

        go : (is_crashed_life w.ended o.of ≡ true) ⊎ Crashes e o.of → f.crashed ≡ true
        go (inl c) = k.0.crashed (h.0 was c)
        go (inr c) = (marks c.0 c.1).0 (ap (λ (d : ClientId). c.0.0 == d.0) (s.0.client was ∙ c.2) ∙ eq-eqb c.0.0 c.0.0 refl)

on_both : {A : Type 0} (P Q : A → Type 0) (o : Option A) → OnSome P o → OnSome Q o → OnSome (λ x. P x × Q x) o
on_both P Q None p q = tt
on_both P Q (Some x) p q = (p, q)

for_each : (f : Event) (es : List Entry) (o : Option Volume) → ((c : ClientId) → f ≡ events.Crash (nodes.Client c) → OnSome (λ u. AllCrashed c es u.log) o) →
    OnSome (λ u. (c : ClientId) → f ≡ events.Crash (nodes.Client c) → AllCrashed c es u.log) o
for_each f es None h = tt
for_each f es (Some u) h = h

crash_marked : (t : Witness) (v : Volume) (x : Step) (c : ClientId) → x.event ≡ events.Crash (nodes.Client c) →
    OnSome (λ u. AllCrashed c v.log u.log) (run (steps_of t v x) v)
unfolding of_event
crash_marked t v x c q =
    let w = x.before.world in
    subst (λ f. OnSome (λ u. AllCrashed c v.log u.log) (run (of_event w f ++ (of_delivery t.behind v w x.event ++ of_lines w x.seen)) v)) (sym q)
    (crash_marks c (of_delivery t.behind v w x.event ++ of_lines w x.seen) v)

abbrev pub MarksOf : World → Volume → Type 0
MarksOf w v = AreMarked w.ended w.log v.log

after_marks : (t : Witness) (x : Step) (o : Option Volume) → TheReportTellsTheLog [] x → ChangesAreLocked [] x → LivesHold x.after.world →
    Adds x.before.world x.event x.after.world → OnSome (IsLogOf x.before.world.log) o → OnSome (MarksOf x.before.world) o →
    OnSome (MarksOf x.after.world) (volume_after t x o)
after_marks t x None told locked lives adds a h = tt
after_marks t x (Some v) told locked lives adds a h =
    let w = x.before.world in
    let lined = lines_grown x.after.world w.log w.log x.seen locked (grown_self x.after.world w.log) in
    let grown : Grown x.after.world w.log x.after.world.log = subst (Grown x.after.world w.log) told.entries lined in
    on_then (MarksOf x.after.world) if_told (run (steps_of t v x) v)
    (on_more (λ u. AllKeep ⊥ v.log u.log × ((c : ClientId) → x.event ≡ events.Crash (nodes.Client c) → AllCrashed c v.log u.log))
    (λ u. OnSome (MarksOf x.after.world) (if_told u))
    (λ u k. on_if (MarksOf x.after.world) (u.lines == length u.log) (Some u)
    (marked_on w x.after.world x.event w.log x.after.world.log v.log u.log lives adds k.1 grown k.0 a.entries h))
    (run (steps_of t v x) v)
    (on_both (λ u. AllKeep ⊥ v.log u.log) (λ u. (c : ClientId) → x.event ≡ events.Crash (nodes.Client c) → AllCrashed c v.log u.log) (run (steps_of t v x) v)
    (run_keeps ⊥ (steps_of t v x) v (λ z. absurd z)) (for_each x.event v.log (run (steps_of t v x) v) (crash_marked t v x))))

-- What is carried.
pub record MarksHold (past : List Step) (t : Traced) (it : Witness) : Type 0 where
  pub agree : LogHolds past t it
  pub marked : OnSome (MarksOf t.world) it.volume
  pub fates : FatesHold t.world

abbrev pub Given : Promise
Given past x = TheReportTellsTheLog past x × (ChangesAreLocked past x × FatesHold x.after.world)

pub marks_kept : IsKept Given MarksHold
unfolding led_by
marks_kept past t e sc it f g h =
    let x : Step = step t e sc in
    record {
      agree = log_kept past t e sc it f g.0 h.agree;
      marked =
          after_marks it x it.volume g.0 g.1.0 g.1.1.lives (event_adds t.world e (λ c site at. (h.fates.lives.lives.sites c site at).id) sc f) h.agree
          h.marked;
      fates = g.1.1;
    }

pub marks_begin : (k : Config) (clients servers disks blocks form : ℕ) →
    MarksHold [] (traced (fresh_world k clients servers disks blocks form))
    (begun (fresh_world k clients servers disks blocks form) (fresh_world k clients servers disks blocks form))
unfolding fresh_world begun
marks_begin k clients servers disks blocks form =
    record { agree = log_begins k clients servers disks blocks form; marked = tt; fates = fresh_fates k clients servers disks blocks form }

pub crashes_are_marked : EveryRunIsSafe → InEveryRun CrashesAreMarked
crashes_are_marked safe k clients servers disks blocks form es head events =
    let t : Traced = traced (fresh_world k clients servers disks blocks form) in
    let kept : IsSafeRun (fresh_world k clients servers disks blocks form) es = safe k clients servers disks blocks form es head events in
    throughout_more (Led MarksHold) CrashesAreMarked (λ past x h. h.marked) [] (safety.steps es t)
    (carried Given MarksHold marks_kept es t (marks_begin k clients servers disks blocks form)
    (throughout_both TheReportTellsTheLog (λ past x. ChangesAreLocked past x × FatesHold x.after.world) [] (safety.steps es t) kept.told
    (throughout_both ChangesAreLocked (λ past x. FatesHold x.after.world) [] (safety.steps es t) kept.locked
    (fates_law k clients servers disks blocks form es))))
