-- What each event is for a client: a step of it, which tells its losses first, or one that leaves what it is to lose.
use Rattle.st_lemmas.proofs.Words
use Words.{◌≡◌, ◌≢◌, ◌≤◌, ℕ, ◌⊎◌, Bool, true, false, List, [], ◌∷◌, ◌++◌, Option, Some, None, Ok, Err, refl, sym, ap, ◌∙◌, subst, inl, inr, arith, if◌then◌else◌}
use Words.{Result, Ask, ClientId, Event, Stamp, NodeId, Note, Observation, Output, ClientInput, ServerId, ServerInput, StepRefusal, IssuedCommand, SentMessage, LogOwner}
use Words.answers
use Words.events
use Words.inputs
use Words.nodes
use Words.notes
use Words.outputs
use Words.seen
use Words.Admissible as adm
use Words.Client as cl
use Words.ClientState.{Association, ClientState}
use Words.Disks as disks
use Words.Events as ev
use Words.Events.{WorldTurn, counted, happens, is_same_instance}
use Words.Lists.{Has}
use Words.Numbers.{numbered_below, numbered_other}
use Words.Server as server
use Words.Server.{ServerNode}
use Words.Tables.{has_append, same_or_not}
use Words.Truth.{clash}
use Words.World as world
use Words.World.{World, WorldClient, clock_of, issued_of, message_of, node_of, receiver_of, site_of}
use Words.Worlds.{stands_not}
use Rattle.st_rules.specs.declared.node.StepRefusal.TheVariants.{Crashed}
use Rattle.st_laws_steps.specs.Client.Losses.{Fit}
use Rattle.st_laws_pages.proofs.Asks.Law.{dull_fates}
use Rattle.st_laws_pages.proofs.Asks.Says.{AllDull, Dull, server_dull, server_leaves}
use Rattle.st_laws_pages.proofs.Disks.Effects.{or_none}
use Rattle.st_laws_pages.proofs.Disks.Moves.{clock_up}
use Rattle.st_laws_pages.proofs.Lives.Lasting.{flush_parts}
use Rattle.st_laws_pages.proofs.Lives.Turning.{says_lives}
use Rattle.st_laws_volume.specs.LossMarks.{IsLate}
use Rattle.st_laws_volume.proofs.LossShapes.{Part, Shape, late_stays, step_shape}

-- Lines that answer nothing.
dull_unanswered : (os : List Observation) → AllDull os → (c : ClientId) (op : ℕ) → Has (seen.Answered c op answers.Hard) os → ⊥
dull_unanswered [] d c op h = h
dull_unanswered (o ∷ os) d c op (inl e) = subst Dull (sym e) d.one
dull_unanswered (o ∷ os) d c op (inr i) = dull_unanswered os d.rest c op i

-- Lines of a client are answers to it.
abbrev Mine : ClientId → List Observation → Type 0
Mine c os = (b : ClientId) (op : ℕ) → Has (seen.Answered b op answers.Hard) os → b ≡ c

one_mine : (c : ClientId) (os : List Observation) (o : Observation) → ((b : ClientId) (op : ℕ) → seen.Answered b op answers.Hard ≡ o → b ≡ c) → Mine c os →
    Mine c (os ++ o ∷ [])
one_mine c os o f h b op i = go (has_append os (o ∷ []) (seen.Answered b op answers.Hard) i)
  where
    go : Has (seen.Answered b op answers.Hard) os ⊎ Has (seen.Answered b op answers.Hard) (o ∷ []) → b ≡ c
    go (inl j) = h b op j
    go (inr (inl e)) = f b op e
    go (inr (inr j)) = absurd j

note_mine : (c : ClientId) (before : ClientState) (n : Note) (sc : WorldTurn) → Mine c sc.seen → Mine c (ev.client_notes sc c before n).seen
unfolding ev.client_notes ev.accepts ev.patches ev.loses
note_mine c before (notes.Leased s end) sc h = one_mine c sc.seen _ (λ b op e. cc e) h
note_mine c before (notes.Lost s life) sc h = one_mine c sc.seen _ (λ b op e. cc e) h
note_mine c before (notes.Accepted f p bytes) sc h = one_mine c sc.seen _ (λ b op e. cc e) h
note_mine c before (notes.Patched f p at bytes) sc h = one_mine c sc.seen _ (λ b op e. cc e) h
note_mine c before n sc h = h

output_mine : (c : ClientId) (before : ClientState) (o : Output) (sc : WorldTurn) → Mine c sc.seen → Mine c (ev.client_says sc c before o).seen
unfolding ev.client_says ev.sends ev.answers_with ev.submits
output_mine c before (outputs.Send m) sc h = one_mine c sc.seen _ (λ b op e. cc e) h
output_mine c before (outputs.Answer k answer) sc h = one_mine c sc.seen _ (λ b op e. cc e) h
output_mine c before (outputs.Note n) sc h = note_mine c before n sc h
output_mine c before (outputs.Submit number at what) sc h = go (site_of sc.world c)
  where
    go : (o : Option WorldClient) → Mine c (ev.submits sc c o number at what).seen
    go None = h
    go (Some site) = one_mine c sc.seen _ (λ b op e. cc e) h

outputs_mine : (c : ClientId) (before : ClientState) (os : List Output) (sc : WorldTurn) → Mine c sc.seen → Mine c (ev.client_says_all c before os sc).seen
unfolding ev.client_says_all
outputs_mine c before [] sc h = h
outputs_mine c before (o ∷ os) sc h = outputs_mine c before os (ev.client_says sc c before o) (output_mine c before o sc h)

-- What a server says leaves the clocks.
served_note : (s : ServerId) (n : Note) (sc : WorldTurn) → (ev.server_notes sc s n).world.clocks ≡ sc.world.clocks
unfolding ev.server_notes ev.cuts
served_note s (notes.Suspected c t) sc = refl
served_note s (notes.Stolen c life) sc = refl
served_note s (notes.CutDone f p) sc = refl
served_note s n sc = refl

served_one : (s : ServerId) (x : Output) (sc : WorldTurn) → (ev.server_says sc s x).world.clocks ≡ sc.world.clocks
unfolding ev.server_says ev.sends
served_one s (outputs.Send m) sc = refl
served_one s (outputs.Note n) sc = served_note s n sc
served_one s x sc = refl

served_clocks : (s : ServerId) (os : List Output) (sc : WorldTurn) → (ev.server_says_all s os sc).world.clocks ≡ sc.world.clocks
unfolding ev.server_says_all
served_clocks s [] sc = refl
served_clocks s (x ∷ os) sc = served_clocks s os (ev.server_says sc s x) ∙ served_one s x sc

module _ (t : World) (c : ClientId)
    (fits : (d : ClientId) (site : WorldClient) → site_of t d ≡ Some site → (a : Association) → Has a site.node.state.associations → Fit a) where
  abbrev pub w : World
  w = counted t

  -- an event that is nothing to the client
  idle : (v : World) (os : List Observation) → site_of v c ≡ site_of t c → (clock_of t (nodes.Client c)).0 ≤ (clock_of v (nodes.Client c)).0 → AllDull os →
      Part t c (ev.world_turn v os)
  idle v os same later d = inr (record { late = late_stays t v c same later; silent = dull_unanswered os d c })

  same_clock : (v : World) → v.clocks ≡ t.clocks → (clock_of t (nodes.Client c)).0 ≤ (clock_of v (nodes.Client c)).0
  same_clock v e =
      let z : (clock_of v (nodes.Client c)).0 ≡ (clock_of t (nodes.Client c)).0 =
      ap (λ ts. (Rattle.std.specs.Prelude.unwrap_or {T = Stamp} (world.numbered ts c.0) (record { 0 = 0 })).0) e in omega (arith, z)

  still : (v : World) (os : List Observation) → v.clients ≡ t.clients → v.clocks ≡ t.clocks → AllDull os → Part t c (ev.world_turn v os)
  still v os e k d = idle v os (ap (λ zs. world.numbered zs c.0) e) (same_clock v k) d

  -- a step of another client
  other : (v : World) (d : ClientId) (site : WorldClient) (u : cl.NodeTurn) → (c.0 ≡ d.0 → ⊥) → 1 ≤ d.0 → v.clients ≡ t.clients → v.clocks ≡ t.clocks →
      Part t c (ev.with_flushes d u.node.state (ev.client_says_all d site.node.state u.out (ev.quiet (ev.with_site d (ev.at_node u.node site) v))))
  other v d site u n l e k =
      inr (record {
        late =
            late_stays t (ev.flushes d u.node.state (world.all_servers sc.world) sc.world) c
            (ap (λ zs. world.numbered zs c.0) (fl.clients ∙ said.clients)
            ∙ (numbered_other v.clients d.0 c.0 (ev.at_node u.node site) l n ∙ ap (λ zs. world.numbered zs c.0) e))
            (same_clock (ev.flushes d u.node.state (world.all_servers sc.world) sc.world) (fl.clocks ∙ (said.clocks ∙ k)));
        silent = λ op i. n (ap (λ (b : ClientId). b.0) (outputs_mine d site.node.state u.out sc0 (λ b op i. absurd i) c op i));
      })
    where
      sc0 : WorldTurn
      sc0 = ev.quiet (ev.with_site d (ev.at_node u.node site) v)

      sc : WorldTurn
      sc = ev.client_says_all d site.node.state u.out sc0

      fl : Rattle.st_laws_pages.proofs.Lives.Lasting.Flushed sc.world (ev.flushes d u.node.state (world.all_servers sc.world) sc.world)
      fl = flush_parts d u.node.state (world.all_servers sc.world) sc.world

      said : Rattle.st_laws_pages.proofs.Lives.Turning.Said d (Rattle.st_laws_steps.specs.Lives.Lives.ended_rows d site.node.state u.out) sc0.world sc.world
      said = says_lives d site.node.state u.out sc0

  -- a step of a client
  stepped : (v : World) (d : ClientId) (i : ClientInput) (old site : WorldClient) → site_of t d ≡ Some old → old.node ≡ site.node → v.clients ≡ t.clients →
      v.clocks ≡ t.clocks → Part t c (ev.client_takes v d i site)
  unfolding ev.client_takes ev.client_took cl.node_step
  stepped v d i old site there same e k = by (same_or_not c.0 d.0)
    where
      clock : clock_of v (nodes.Client d) ≡ clock_of t (nodes.Client d)
      clock = ap (λ ts. Rattle.std.specs.Prelude.unwrap_or {T = Stamp} (world.numbered ts d.0) (record { 0 = 0 })) k

      away : (c.0 ≡ d.0 → ⊥) → Part t c (ev.client_takes v d i site)
      away n = go site.node.running
        where
          go : (b : Bool) → Part t c
              (ev.client_took v d site
              (if b then Ok (cl.node_turn site.node (cl.client_step site.node.state (clock_of v (nodes.Client d)) i)) else Err Crashed))
          go true =
              other v d site (cl.node_turn site.node (cl.client_step site.node.state (clock_of v (nodes.Client d)) i)) n
              (numbered_below t.clients d.0 old there).0 e k
          go false = still v [] e k tt

      by : (c.0 ≡ d.0) ⊎ (c.0 ≢ d.0) → Part t c (ev.client_takes v d i site)
      by (inl q) =
          inl (subst (λ b. Shape t b (ev.client_takes v d i site).seen) (sym (ap (λ n. record { 0 = n }) q))
          (step_shape t v d old site there same clock (fits d old there) i))
      by (inr n) = away n

  by_client : (v : World) (d : ClientId) (i : ClientInput) → v.clients ≡ t.clients → v.clocks ≡ t.clocks → (o : Option WorldClient) → site_of t d ≡ o →
      Part t c (ev.at_client v d i o)
  unfolding ev.at_client
  by_client v d i e k None q = still v [] e k tt
  by_client v d i e k (Some site) q = stepped v d i site site q refl e k

  by_server : (s : ServerId) (i : ServerInput) (o : Option ServerNode) → Part t c (ev.at_server w s i o)
  unfolding ev.at_server ev.server_takes ev.server_took
  by_server s i None = still w [] refl refl tt
  by_server s i (Some node) = go (server.node_step node (clock_of w (nodes.Server s)) i)
    where
      go : (r : Result server.NodeTurn StepRefusal) → Part t c (ev.server_took w s r)
      go (Err x) = still w [] refl refl tt
      go (Ok u) =
          let sc : WorldTurn = ev.server_says_all s u.out (ev.quiet (ev.with_node s u.node w)) in
          still sc.world sc.seen (server_leaves s u.out (ev.quiet (ev.with_node s u.node w))).clients
          (served_clocks s u.out (ev.quiet (ev.with_node s u.node w)))
          (server_dull s u.out (ev.quiet (ev.with_node s u.node w)) tt)

  asked : (d : ClientId) (ask : Ask) (o : Option WorldClient) → site_of t d ≡ o → Part t c (ev.asks_at w d ask o)
  unfolding ev.asks_at
  asked d ask None q = still w [] refl refl tt
  asked d ask (Some site) q = stepped w d _ site (ev.asked_once_more site) q refl refl refl

  delivered : (o : Option SentMessage) → Part t c (ev.delivers w o)
  unfolding ev.delivers ev.delivers_to
  delivered None = still w [] refl refl tt
  delivered (Some m) = to (receiver_of m)
    where
      to : (r : NodeId) → Part t c (ev.delivers_to w m.message r)
      to (nodes.Client d) = by_client w d _ refl refl (site_of t d) refl
      to (nodes.Server s) = by_server s _ (node_of t s)

  reported : (k : ℕ) (ok : Bool) → Part t c (ev.reports_of w k ok)
  unfolding ev.reports_of ev.tells ev.tells_client ev.tells_site
  reported k ok = go (issued_of t k)
    where
      v : World
      v = ev.with_disks (ev.disks_after w.disks (disks.done w.disks k ok)) w

      same : (x : IssuedCommand) (site : WorldClient) → site_of t x.client ≡ Some site → (b : Bool) →
          Part t c (if b then ev.client_takes v x.client (ev.end_told v k ok x) site else ev.quiet v)
      same x site q true = stepped v x.client (ev.end_told v k ok x) site site q refl refl refl
      same x site q false = still v [] refl refl tt

      at : (x : IssuedCommand) (o : Option WorldClient) → site_of t x.client ≡ o → Part t c (ev.tells_client v k ok x o)
      at x None q = still v [] refl refl tt
      at x (Some site) q = same x site q (is_same_instance x site)

      go : (o : Option IssuedCommand) → Part t c (ev.tells v k ok o)
      go None = still v [] refl refl tt
      go (Some x) = at x (site_of t x.client) refl

  crashed : (d : ClientId) → (c.0 ≡ d.0 → ⊥) → (o : Option WorldClient) → site_of t d ≡ o → Part t c (ev.crashes_client w d o)
  unfolding ev.crashes_client ev.marks
  crashed d n None q = still w [] refl refl tt
  crashed d n (Some site) q =
      idle _ _ (numbered_other t.clients d.0 c.0 (ev.stopped_site site) (numbered_below t.clients d.0 site q).0 n) (same_clock t refl)
      (dull_fates 1 t.log (ev.log_crashed w d))

  started : (d : ClientId) → adm.refusal t (events.Start (nodes.Client d)) ≡ None → (o : Option WorldClient) → site_of t d ≡ o →
      Part t c (ev.quiet (ev.starts_client w d o))
  unfolding ev.starts_client adm.refusal
  started d r None q = still w [] refl refl tt
  started d r (Some site) q =
      by (ap world.site_runs (sym q) ∙ stands_not (world.is_running t (nodes.Client d)) _ (or_none _ _ r).1) (same_or_not c.0 d.0)
    where
      by : site.node.running ≡ false → (c.0 ≡ d.0) ⊎ (c.0 ≢ d.0) → Part t c (ev.quiet (ev.with_site d (ev.started_site site) w))
      by stopped (inr n) = idle _ [] (numbered_other t.clients d.0 c.0 (ev.started_site site) (numbered_below t.clients d.0 site q).0 n) (same_clock t refl) tt
      by stopped (inl e) =
          inr (record {
            late = λ o f l. absurd (clash l.runs (ap (λ (x : WorldClient). x.node.running) (its o f l) ∙ stopped));
            silent = λ op i. i;
          })
        where
          its : (o : LogOwner) → o.client ≡ c → (l : IsLate t o) → l.site ≡ site
          its o f l =
              Rattle.st_lemmas.proofs.Lookups.some_is
              (sym l.there ∙ (ap (λ (b : ClientId). site_of t b) (f ∙ ap (λ n. record { 0 = n }) e) ∙ q))

  loses : (k : ℕ) (o : Option SentMessage) → Part t c (ev.quiet (ev.loses_message w k o))
  unfolding ev.loses_message
  loses k None = still w [] refl refl tt
  loses k (Some m) = still (ev.with_lost k m w) [] refl refl tt

  crashes_server : (s : ServerId) (o : Option ServerNode) → Part t c (ev.quiet (ev.crashes_server w s o))
  unfolding ev.crashes_server
  crashes_server s None = still w [] refl refl tt
  crashes_server s (Some node) = still (ev.with_node s (server.crash_node node) w) [] refl refl tt

  starts_server : (s : ServerId) (o : Option ServerNode) → Part t c (ev.quiet (ev.starts_server w s o))
  unfolding ev.starts_server
  starts_server s None = still w [] refl refl tt
  starts_server s (Some node) = still (ev.with_node s (server.start_node node (clock_of w (nodes.Server s))) w) [] refl refl tt

  -- each event but a crash of the client itself
  pub event_part : (e : Event) → adm.refusal t e ≡ None → (e ≡ events.Crash (nodes.Client c) → ⊥) → Part t c (happens w e)
  unfolding happens ev.ticks ev.crashes ev.starts ev.advances ev.effects ev.marks
  event_part (events.Tick (nodes.Client d)) r n = by_client w d _ refl refl (site_of t d) refl
  event_part (events.Tick (nodes.Server s)) r n = by_server s _ (node_of t s)
  event_part (events.App d ask) r n = asked d ask (site_of t d) refl
  event_part (events.Deliver k) r n = delivered (message_of t k)
  event_part (events.Lose k) r n = loses k (message_of t k)
  event_part (events.Cut from to) r n = still (ev.with_cut from to w) [] refl refl tt
  event_part (events.Heal from to) r n = still (ev.without_cut from to w) [] refl refl tt
  event_part (events.Advance increments) r n =
      idle _ _ refl (clock_up t increments c) (dull_fates 1 t.log (ev.log_ended_all w.commands (ev.lives_reached w increments) w.log))
  event_part (events.Effect k) r n = still _ _ refl refl (dull_fates 1 t.log (ev.log_hard w.log (ev.carried_by (issued_of w k))))
  event_part (events.Report k ok) r n = reported k ok
  event_part (events.Crash (nodes.Client d)) r n = crashed d (λ e. n (ap (λ k. events.Crash (nodes.Client (record { 0 = k }))) (sym e))) (site_of t d) refl
  event_part (events.Crash (nodes.Server s)) r n = crashes_server s (node_of t s)
  event_part (events.Start (nodes.Client d)) r n = started d r (site_of t d) refl
  event_part (events.Start (nodes.Server s)) r n = starts_server s (node_of t s)
