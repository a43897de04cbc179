-- In the third form, too, messages keep their numbers, and the line of a message tells its number. And a delivery leaves the clocks.
use Rattle.st_lemmas.proofs.Words
use Words.{◌≡◌, ℕ, ◌+◌, append-nil, Bool, true, false, List, [], ◌∷◌, ◌++◌, filter_map, map, Option, Some, None, Ok, Err, refl, sym, ap, ◌∙◌, subst, if◌then◌else◌}
use Words.{ClientId, IssuedCommand, Message, NodeId, Note, Observation, Output, Phase, SentMessage, ServerId, ServerInput, Stamp}
use Words.events
use Words.nodes
use Words.notes
use Words.outputs
use Words.phases
use Words.Client as plain
use Words.ClientState.{ClientState}
use Words.Events as ev
use Words.Events.{WorldTurn, quiet}
use Words.Lengths.{length_map, map_last}
use Words.Server as server
use Words.Server.{ServerNode}
use Words.World as world
use Words.World.{World, WorldClient, all_servers, clock_of, issued_of, message_of, node_of, site_of}
use Rattle.std.proofs.lemmas.List.Elements.{filter_map-append}
use Rattle.st_promises.specs.Counts.{message_told, under_numbers}
use Rattle.st_rules.specs.declared.node.StepRefusal.TheVariants.{Crashed}
use Rattle.st_laws_leases.specs.Dates.Dates.{message_in, messages}
use Rattle.st_laws_lines.proofs.Counting.{tells_event}
use Rattle.st_laws_lines.proofs.Growing.{Grows, grows_none, grows_then}
use Rattle.st_third.specs.declared.event.ThirdEvent.{ThirdEvent}
use Rattle.st_third.specs.declared.event.ThirdEvent.TheVariants as third
use Rattle.st_third.specs.declared.event.ThirdInput.{ThirdInput}
use Rattle.st_third.specs.declared.event.ThirdInput.TheVariants as takes
use Rattle.st_third.specs.declared.observation.ThirdObservation.{ThirdObservation}
use Rattle.st_third.specs.declared.observation.ThirdObservation.TheVariants as third_seen
use Rattle.st_third.specs.declared.output.ThirdOutput.{ThirdOutput}
use Rattle.st_third.specs.declared.output.ThirdOutput.TheVariants as says
use Rattle.st_third.specs.Events as every
use Rattle.st_third.specs.Events.{ThirdWorldTurn, plain_seen, unseen}
use Rattle.st_third.specs.Limits.{is_third}
use Rattle.st_third.specs.Server as hearing
use Rattle.st_third.specs.State.{ClientBeside, ThirdClientTurn}
use Rattle.st_third.specs.Steps.{plain_observation, plainly_seen}
use Rattle.st_third.specs.World.{ThirdWorld, beside_of, receiver_of}

-- what was observed in the other forms is seen as it is
same_seen : (os : List Observation) → plainly_seen (map plain_seen os) ≡ os
same_seen [] = refl
same_seen (o ∷ os) = ap (λ z. o ∷ z) (same_seen os)

seen_both : (xs : List ThirdObservation) (os : List Observation) → plainly_seen (xs ++ map plain_seen os) ≡ plainly_seen xs ++ os
seen_both xs os = filter_map-append plain_observation xs (map plain_seen os) ∙ ap (λ z. plainly_seen xs ++ z) (same_seen os)

-- The lines tell the messages, from those of a world on.
abbrev Told : World → WorldTurn → Type 0
Told w sc = Grows message_told (messages w) sc.seen (messages sc.world)

abbrev pub ThirdTold : ThirdWorld → ThirdWorldTurn → Type 0
ThirdTold w sc = Grows message_told (messages w.world) (plainly_seen sc.seen) (messages sc.third.world)

none : (w v : World) (os : List Observation) → filter_map message_told os ≡ [] → v.net ≡ w.net → Grows message_told (messages w) os (messages v)
none w v os e q =
    subst (λ (n : world.Net). Grows message_told (messages w) os (map message_in n.messages)) (sym q) (grows_none message_told (messages w) os e)

sent : (w : World) (m : Message) → Told w (ev.sends (quiet w) m)
unfolding ev.sends under_numbers
sent w m =
    record {
      new = m ∷ [];
      lines = ap (λ n. (n + 1, m) ∷ []) (sym (length_map message_in w.net.messages));
      is = map_last message_in w.net.messages (record { message = m; lost = false });
    }

client_note : (w : World) (c : ClientId) (before : ClientState) (n : Note) → Told w (ev.client_notes (quiet w) c before n)
unfolding ev.client_notes ev.accepts ev.patches ev.loses
client_note w c before (notes.Leased s e) = none w w _ refl refl
client_note w c before (notes.Lost s l) = none w (ev.client_notes (quiet w) c before (notes.Lost s l)).world _ refl refl
client_note w c before (notes.Accepted f p bytes) = none w (ev.client_notes (quiet w) c before (notes.Accepted f p bytes)).world _ refl refl
client_note w c before (notes.Patched f p at bytes) = none w (ev.client_notes (quiet w) c before (notes.Patched f p at bytes)).world _ refl refl
client_note w c before n = none w w [] refl refl

client_one : (w : World) (c : ClientId) (before : ClientState) (o : Output) → Told w (ev.client_says (quiet w) c before o)
unfolding ev.client_says ev.submits ev.answers_with
client_one w c before (outputs.Send m) = sent w m
client_one w c before (outputs.Submit number at what) = go (site_of w c)
  where
    go : (o : Option WorldClient) → Told w (ev.submits (quiet w) c o number at what)
    go None = none w w [] refl refl
    go (Some site) = none w (ev.submits (quiet w) c (Some site) number at what).world _ refl refl
client_one w c before (outputs.Answer op a) = none w (ev.client_says (quiet w) c before (outputs.Answer op a)).world _ refl refl
client_one w c before (outputs.Note n) = client_note w c before n

server_note : (w : World) (s : ServerId) (n : Note) → Told w (ev.server_notes (quiet w) s n)
unfolding ev.server_notes ev.cuts
server_note w s (notes.Suspected c t) = none w w _ refl refl
server_note w s (notes.Stolen c l) = none w (ev.server_notes (quiet w) s (notes.Stolen c l)).world _ refl refl
server_note w s (notes.CutDone f p) = none w (ev.server_notes (quiet w) s (notes.CutDone f p)).world _ refl refl
server_note w s n = none w w [] refl refl

server_one : (w : World) (s : ServerId) (o : Output) → Told w (ev.server_says (quiet w) s o)
unfolding ev.server_says
server_one w s (outputs.Send m) = sent w m
server_one w s (outputs.Note n) = server_note w s n
server_one w s o = none w w [] refl refl

-- what a server says after a while is what it would say at once, with what was seen before
says_later : (sc : WorldTurn) (s : ServerId) (o : Output) →
    ev.server_says sc s o ≡ record { world = (ev.server_says (quiet sc.world) s o).world; seen = sc.seen ++ (ev.server_says (quiet sc.world) s o).seen }
unfolding ev.server_says ev.server_notes ev.cuts ev.sends
says_later sc s (outputs.Send m) = refl
says_later sc s (outputs.Note n) = go n
  where
    same : sc ≡ record { world = sc.world; seen = sc.seen ++ [] }
    same = ap (λ os. record { world = sc.world; seen = os }) (sym (append-nil sc.seen))

    go : (n : Note) →
        ev.server_notes sc s n ≡ record { world = (ev.server_notes (quiet sc.world) s n).world; seen = sc.seen ++ (ev.server_notes (quiet sc.world) s n).seen }
    go (notes.Suspected c t) = refl
    go (notes.Stolen c l) = refl
    go (notes.CutDone f p) = refl
    go n = same
says_later sc s o = ap (λ os. record { world = sc.world; seen = os }) (sym (append-nil sc.seen))

server_all : (w : World) (s : ServerId) (os : List Output) (sc : WorldTurn) → Told w sc → Told w (ev.server_says_all s os sc)
unfolding ev.server_says_all
server_all w s [] sc h = h
server_all w s (o ∷ os) sc h =
    server_all w s os (ev.server_says sc s o)
    (subst (Told w) (sym (says_later sc s o)) (grows_then message_told (messages w) (messages sc.world) _ sc.seen _ h (server_one sc.world s o)))

-- Clients.

third_one : (w : ThirdWorld) (sc : ThirdWorldTurn) (c : ClientId) (before : ClientState) (o : ThirdOutput) → ThirdTold w sc →
    ThirdTold w (every.client_says sc c before o)
unfolding every.client_says
third_one w sc c before (says.Plain o) h =
    let t : WorldTurn = ev.client_says (quiet sc.third.world) c before o in
    subst (λ os. Grows message_told (messages w.world) os (messages t.world)) (sym (seen_both sc.seen t.seen))
    (grows_then message_told (messages w.world) (messages sc.third.world) (messages t.world) (plainly_seen sc.seen) t.seen h
    (client_one sc.third.world c before o))
third_one w sc c before (says.Left op) h =
    subst (λ os. Grows message_told (messages w.world) os (messages sc.third.world))
    (sym (filter_map-append plain_observation sc.seen (third_seen.Left c op ∷ [])))
    (grows_then message_told (messages w.world) (messages sc.third.world) (messages sc.third.world) (plainly_seen sc.seen) _ h
    (grows_none message_told (messages sc.third.world) (plainly_seen (third_seen.Left c op ∷ [])) refl))
third_one w sc c before (says.Unsynced op ino) h =
    subst (λ os. Grows message_told (messages w.world) os (messages sc.third.world))
    (sym (filter_map-append plain_observation sc.seen (third_seen.Unsynced c op ino ∷ [])))
    (grows_then message_told (messages w.world) (messages sc.third.world) (messages sc.third.world) (plainly_seen sc.seen) _ h
    (grows_none message_told (messages sc.third.world) (plainly_seen (third_seen.Unsynced c op ino ∷ [])) refl))
third_one w sc c before (says.Ended s life end) h =
    subst (λ os. Grows message_told (messages w.world) os (messages sc.third.world))
    (sym (filter_map-append plain_observation sc.seen (third_seen.Ended c s life ∷ [])))
    (grows_then message_told (messages w.world) (messages sc.third.world) (messages sc.third.world) (plainly_seen sc.seen) _ h
    (grows_none message_told (messages sc.third.world) (plainly_seen (third_seen.Ended c s life ∷ [])) refl))

third_all : (w : ThirdWorld) (c : ClientId) (before : ClientState) (os : List ThirdOutput) (sc : ThirdWorldTurn) → ThirdTold w sc →
    ThirdTold w (every.client_says_all c before os sc)
unfolding every.client_says_all
third_all w c before [] sc h = h
third_all w c before (o ∷ os) sc h = third_all w c before os (every.client_says sc c before o) (third_one w sc c before o h)

flush_one : (w : World) (c : ClientId) (s : ServerId) (end : Option Stamp) (phase : Option Phase) → (ev.flushed_in w c s end phase).net ≡ w.net
flush_one w c s None (Some phases.Flush) = refl
flush_one w c s (Some end) (Some phases.Flush) = refl
flush_one w c s end phase = refl

flush_all : (c : ClientId) (state : ClientState) (ss : List ServerId) (w : World) → (ev.flushes c state ss w).net ≡ w.net
unfolding ev.flushes
flush_all c state [] w = refl
flush_all c state (s ∷ ss) w =
    flush_all c state ss (ev.flushed_at w c s state) ∙ flush_one w c s (plain.lease_end_with state s) (plain.phase_with state s (clock_of w (nodes.Client c)))

quiet_turn : (w v : ThirdWorld) → v.world.net ≡ w.world.net → ThirdTold w (unseen v)
quiet_turn w v q = none w.world v.world [] refl q

took : (w : ThirdWorld) (c : ClientId) (site : WorldClient) (t : ThirdClientTurn) → ThirdTold w (every.client_took w c site t)
unfolding every.client_took
took w c site t =
    let sc : ThirdWorldTurn = every.client_says_all c site.node.state t.out (unseen (every.with_client c site t.client w)) in
    subst (λ (n : world.Net). Grows message_told (messages w.world) (plainly_seen sc.seen) (map message_in n.messages))
    (sym (flush_all c t.client.plain (all_servers sc.third.world) sc.third.world))
    (third_all w c site.node.state t.out (unseen (every.with_client c site t.client w)) (quiet_turn w (every.with_client c site t.client w) refl))

module _ (w : ThirdWorld) (f : is_third w.world.form ≡ true) where
  client_takes : (c : ClientId) (input : ThirdInput) (site : WorldClient) → ThirdTold w (every.client_takes w c input site)
  unfolding every.client_takes every.running_takes every.third_takes
  client_takes c input site = running site.node.running
    where
      by_beside : (b : Option ClientBeside) → ThirdTold w (every.third_takes w c input site b)
      by_beside None = quiet_turn w w refl
      by_beside (Some b) = took w c site _

      by_form : (x : Bool) → x ≡ true → ThirdTold w (if x then every.third_takes w c input site (beside_of w c) else every.plain_takes w c input site)
      by_form true q = by_beside (beside_of w c)
      by_form false q = absurd (no q)
        where
          no : false ≡ true → ⊥
          no q = cc

      running : (x : Bool) → ThirdTold w (if x then every.running_takes w c input site else unseen w)
      running true = by_form (is_third w.world.form) f
      running false = quiet_turn w w refl

  at_client : (c : ClientId) (input : ThirdInput) (site : Option WorldClient) → ThirdTold w (every.at_client w c input site)
  unfolding every.at_client
  at_client c input None = quiet_turn w w refl
  at_client c input (Some site) = client_takes c input site

  asks : (c : ClientId) (ask : ℕ → ThirdInput) (site : Option WorldClient) → ThirdTold w (every.asks_at w c ask site)
  unfolding every.asks_at
  asks c ask None = quiet_turn w w refl
  asks c ask (Some site) = client_takes c (ask (site.asks + 1)) (ev.asked_once_more site)

  tells : (k : ℕ) (ok : Bool) (c : Option IssuedCommand) → ThirdTold w (every.tells w k ok c)
  unfolding every.tells every.tells_client every.tells_site
  tells k ok None = quiet_turn w w refl
  tells k ok (Some c) = go (site_of w.world c.client)
    where
      by_instance : (site : WorldClient) (b : Bool) →
          ThirdTold w (if b then every.client_takes w c.client (takes.Plain (ev.end_told w.world k ok c)) site else unseen w)
      by_instance site true = client_takes c.client _ site
      by_instance site false = quiet_turn w w refl

      go : (site : Option WorldClient) → ThirdTold w (every.tells_client w k ok c site)
      go None = quiet_turn w w refl
      go (Some site) = by_instance site (ev.is_same_instance c site)

  -- an event as in the other forms
  as_plain : (t : WorldTurn) → Told w.world t → ThirdTold w (every.as_plain w t)
  as_plain t h = subst (λ os. Grows message_told (messages w.world) os (messages t.world)) (sym (same_seen t.seen)) h

  at_server : (s : ServerId) (i : ServerInput) (o : Option ServerNode) → ThirdTold w (every.at_server w s i o)
  unfolding every.at_server every.server_takes ev.server_took hearing.node_step
  at_server s i None = quiet_turn w w refl
  at_server s i (Some node) = go node.running
    where
      t : server.NodeTurn
      t = server.node_turn node (hearing.server_step w.world.form node.state (clock_of w.world (nodes.Server s)) i)

      go : (b : Bool) → ThirdTold w (every.as_plain w (ev.server_took w.world s (if b then Ok t else Err Crashed)))
      go true =
          let v : WorldTurn = quiet (ev.with_node s t.node w.world) in
          as_plain (ev.server_says_all s t.out v) (server_all w.world s t.out v (none w.world v.world [] refl refl))
      go false = quiet_turn w w refl

  ticks : (n : NodeId) → ThirdTold w (every.ticks w n)
  unfolding every.ticks
  ticks (nodes.Client c) = at_client c _ (site_of w.world c)
  ticks (nodes.Server s) = at_server s _ (node_of w.world s)

  delivers : (o : Option SentMessage) → ThirdTold w (every.delivers w o)
  unfolding every.delivers every.delivers_to
  delivers None = quiet_turn w w refl
  delivers (Some m) = go (receiver_of w.world m)
    where
      go : (n : NodeId) → ThirdTold w (every.delivers_to w m.message n)
      go (nodes.Client c) = at_client c _ (site_of w.world c)
      go (nodes.Server s) = at_server s _ (node_of w.world s)

-- a node that begins leaves what was sent and seen
begins_node : (w : ThirdWorld) (n : NodeId) (sc : ThirdWorldTurn) → ThirdTold w sc → ThirdTold w (every.node_begins n sc)
unfolding every.node_begins every.client_begins every.server_begins
begins_node w (nodes.Client c) sc h = go (site_of sc.third.world c)
  where
    go : (o : Option WorldClient) → ThirdTold w (every.client_begins sc c o)
    go None = h
    go (Some x) = h
begins_node w (nodes.Server s) sc h = go (node_of sc.third.world s)
  where
    go : (o : Option ServerNode) → ThirdTold w (every.server_begins sc s o)
    go None = h
    go (Some x) = h

begins : (w : ThirdWorld) (n : NodeId) (sc : ThirdWorldTurn) → ThirdTold w sc → ThirdTold w (every.begins w n sc)
unfolding every.begins
begins w n sc h = go (is_third w.world.form)
  where
    go : (b : Bool) → ThirdTold w (if b then every.node_begins n sc else sc)
    go true = begins_node w n sc h
    go false = h

-- The lines of an event tell the messages.
pub third_tells : (w : ThirdWorld) (e : ThirdEvent) → is_third w.world.form ≡ true → ThirdTold w (every.happens w e)
unfolding every.happens every.plain_happens every.reports_of
third_tells w (third.Leave c s) f = asks w f c _ (site_of w.world c)
third_tells w (third.Plain (events.Tick n)) f = ticks w f n
third_tells w (third.Plain (events.App c ask)) f = asks w f c _ (site_of w.world c)
third_tells w (third.Plain (events.Deliver k)) f = delivers w f (message_of w.world k)
third_tells w (third.Plain (events.Report k ok)) f = tells (every.with_report k ok w) f k ok (issued_of w.world k)
third_tells w (third.Plain (events.Crash n)) f =
    begins w n (every.as_plain w (ev.happens w.world (events.Crash n)))
    (as_plain w f (ev.happens w.world (events.Crash n)) (tells_event w.world (events.Crash n)).messages)
third_tells w (third.Plain (events.Start n)) f =
    begins w n (every.as_plain w (ev.happens w.world (events.Start n)))
    (as_plain w f (ev.happens w.world (events.Start n)) (tells_event w.world (events.Start n)).messages)
third_tells w (third.Plain e) f = as_plain w f (ev.happens w.world e) (tells_event w.world e).messages
