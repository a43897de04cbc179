-- What each event adds to what its lines count.
use Rattle.st_lemmas.proofs.Words
use Words.{◌≡◌, ℕ, ◌+◌, Bool, true, false, List, [], ◌∷◌, ◌++◌, Option, Some, None, Ok, Err, refl, sym, ap, ◌∙◌, subst, arith, if◌then◌else◌, cons_option}
use Words.{Result, length, filter_map, map, pred, set, suc, zero, Command, ClientId, NodeId, ServerId, Stamp, AppAnswer, Event, Message, Note, Output}
use Words.{ClientInput, Phase, DiskCommand, CommandRefusal, Report, ServerInput, Fate, LogEntry, StepRefusal, Observation, IssuedCommand, SentMessage}
use Words.commands
use Words.nodes
use Words.answers
use Words.events
use Words.notes
use Words.outputs
use Words.phases
use Words.reports
use Words.fates
use Words.seen
use Words.Client as cl
use Words.ClientState.{ClientState}
use Words.Disks as disks
use Words.Disks.{Disks}
use Words.Events as ev
use Words.Events.{WorldTurn}
use Words.Server as server
use Words.Server.{ServerNode}
use Words.World as world
use Words.World.{World, WorldClient, clock_of, issued_of, node_of, numbered, site_of}
use Words.Lengths.{length_map, map_last}
use Rattle.std.proofs.lemmas.List.Elements.{filter_map-append}
use Rattle.st_promises.specs.Counts.{command_in, command_told, count_lines, is_read_line, is_theft_line, message_in, message_told, what_in, what_told}
use Rattle.st_laws_lines.proofs.Growing.{Adds, Grows, adds_none, adds_then, count_more, grows_none, grows_then, map_set}

-- What lines tell of two worlds: the messages, the commands and the counts of the second one are those of the first and theirs.
pub record Tells (w : World) (os : List Observation) (v : World) : Type 0 where
  pub messages : Grows message_told (map message_in w.net.messages) os (map message_in v.net.messages)
  pub commands : Grows command_told (map command_in w.commands) os (map command_in v.commands)
  pub whats : Adds what_told (map what_in w.disks.commands) os (map what_in v.disks.commands)
  pub reads : v.tally.reads ≡ w.tally.reads + count_lines is_read_line os
  pub stolen : v.tally.stolen ≡ w.tally.stolen + count_lines is_theft_line os
  pub events : v.tally.events ≡ w.tally.events

pub tells_then : (u v w : World) (os ps : List Observation) → Tells u os v → Tells v ps w → Tells u (os ++ ps) w
tells_then u v w os ps a b =
    record {
      messages = grows_then message_told _ _ _ os ps a.messages b.messages;
      commands = grows_then command_told _ _ _ os ps a.commands b.commands;
      whats = adds_then what_told _ _ _ os ps a.whats b.whats;
      reads = let x = a.reads in let y = b.reads in let z = count_more is_read_line os ps in omega (arith, x, y, z);
      stolen = let x = a.stolen in let y = b.stolen in let z = count_more is_theft_line os ps in omega (arith, x, y, z);
      events = b.events ∙ a.events;
    }

-- lines of nothing that is counted here
pub record Silent (os : List Observation) : Type 0 where
  pub messages : filter_map message_told os ≡ []
  pub commands : filter_map command_told os ≡ []
  pub whats : filter_map what_told os ≡ []
  pub reads : count_lines is_read_line os ≡ 0
  pub stolen : count_lines is_theft_line os ≡ 0

-- worlds that are alike in all that is counted here
pub record Alike (w v : World) : Type 0 where
  pub messages : map message_in v.net.messages ≡ map message_in w.net.messages
  pub commands : v.commands ≡ w.commands
  pub whats : map what_in v.disks.commands ≡ map what_in w.disks.commands
  pub tally : v.tally ≡ w.tally

pub silent_tells : (w v : World) (os : List Observation) → Silent os → Alike w v → Tells w os v
silent_tells w v os s a =
    record {
      messages = subst (Grows message_told (map message_in w.net.messages) os) (sym a.messages) (grows_none message_told (map message_in w.net.messages) os s.messages);
      commands = subst (λ z. Grows command_told (map command_in w.commands) os (map command_in z)) (sym a.commands) (grows_none command_told (map command_in w.commands) os s.commands);
      whats = subst (Adds what_told (map what_in w.disks.commands) os) (sym a.whats) (adds_none what_told (map what_in w.disks.commands) os s.whats);
      reads = let x : v.tally.reads ≡ w.tally.reads = ap (λ (t : world.Tally). t.reads) a.tally in let y = s.reads in omega (arith, x, y);
      stolen = let x : v.tally.stolen ≡ w.tally.stolen = ap (λ (t : world.Tally). t.stolen) a.tally in let y = s.stolen in omega (arith, x, y);
      events = ap (λ (t : world.Tally). t.events) a.tally;
    }

no_lines : Silent []
no_lines = record { messages = refl; commands = refl; whats = refl; reads = refl; stolen = refl }

pub alike_tells : (w v : World) → Alike w v → Tells w [] v
alike_tells w v a = silent_tells w v [] no_lines a

self : (w : World) → Alike w w
self w = record { messages = refl; commands = refl; whats = refl; tally = refl }

-- one more member, and its line
one_grows : {A B : Type 0} (line : Observation → Option (ℕ × A)) (f : B → A) (xs : List B) (x : B) (o : Observation) → line o ≡ Some (length xs + 1, f x) → Grows line (map f xs) (o ∷ []) (map f (xs ++ x ∷ []))
unfolding Rattle.st_promises.specs.Counts.under_numbers
one_grows line f xs x o e =
    record {
      new = f x ∷ [];
      lines = ap (λ z. cons_option z []) (e ∙ ap (λ n. Some (n + 1, f x)) (sym (length_map f xs)));
      is = map_last f xs x;
    }

-- Outputs: with what was reported before them.
abbrev pub Told : World → WorldTurn → Type 0
Told w sc = Tells w sc.seen sc.world

told_with_one_more : (w : World) (sc : WorldTurn) (v : World) (o : Observation) → Tells sc.world (o ∷ []) v → Told w sc → Told w (ev.observe v sc o)
told_with_one_more w sc v o a h = tells_then w sc.world v sc.seen (o ∷ []) h a

-- a line that counts nothing, of a world that is alike
quiet_line : (w : World) (sc : WorldTurn) (v : World) (o : Observation) → Silent (o ∷ []) → Alike sc.world v → Told w sc → Told w (ev.observe v sc o)
quiet_line w sc v o s a h = told_with_one_more w sc v o (silent_tells sc.world v (o ∷ []) s a) h

sent : (w : World) (sc : WorldTurn) (m : Message) → Told w sc → Told w (ev.sends sc m)
unfolding ev.sends
sent w sc m h =
    told_with_one_more w sc (ev.with_message m sc.world) (seen.Sent (length sc.world.net.messages + 1) m)
    (record {
      messages = one_grows message_told message_in sc.world.net.messages (record { message = m; lost = false }) _ refl;
      commands = grows_none command_told _ _ refl;
      whats = adds_none what_told _ _ refl;
      reads = omega arith;
      stolen = omega arith;
      events = refl;
    })
    h

submitted : (w : World) (sc : WorldTurn) (c : ClientId) (o : Option WorldClient) (number : ℕ) (at : _) (what : Command) → Told w sc → Told w (ev.submits sc c o number at what)
unfolding ev.submits
submitted w sc c None number at what h = h
submitted w sc c (Some site) number at what h =
    let x = ev.issued sc.world c site number at what in
    told_with_one_more w sc (ev.with_command x what sc.world) (seen.Submitted (length sc.world.commands + 1) c number what)
    (record {
      messages = grows_none message_told _ _ refl;
      commands = one_grows command_told command_in sc.world.commands x _ refl;
      whats = record { is = map_last what_in sc.world.disks.commands (disks.new_command what) };
      reads = omega arith;
      stolen = omega arith;
      events = refl;
    })
    h

answered : (w : World) (sc : WorldTurn) (c : ClientId) (op : ℕ) (a : AppAnswer) → Told w sc → Told w (ev.answers_with sc c op a)
unfolding ev.answers_with
answered w sc c op a h = told_with_one_more w sc (ev.with_read a sc.world) (seen.Answered c op a) (by a) h
  where
    tells : (a : AppAnswer) → ev.reads_in a ≡ count_lines is_read_line (seen.Answered c op a ∷ []) → Tells sc.world (seen.Answered c op a ∷ []) (ev.with_read a sc.world)
    tells a e =
        record {
          messages = grows_none message_told _ _ refl;
          commands = grows_none command_told _ _ refl;
          whats = adds_none what_told _ _ refl;
          reads = ap (λ n. sc.world.tally.reads + n) e;
          stolen = omega arith;
          events = refl;
        }

    by : (a : AppAnswer) → Tells sc.world (seen.Answered c op a ∷ []) (ev.with_read a sc.world)
    by (answers.Read bytes) = tells (answers.Read bytes) refl
    by a = tells a refl

client_one : (w : World) (c : ClientId) (before : ClientState) (o : Output) (sc : WorldTurn) → Told w sc → Told w (ev.client_says sc c before o)
unfolding ev.client_says ev.client_notes ev.accepts ev.patches ev.loses
client_one w c before (outputs.Send m) sc h = sent w sc m h
client_one w c before (outputs.Submit number at what) sc h = submitted w sc c (site_of sc.world c) number at what h
client_one w c before (outputs.Answer op a) sc h = answered w sc c op a h
client_one w c before (outputs.Note n) sc h = note n
  where
    note : (n : Note) → Told w (ev.client_notes sc c before n)
    note (notes.Leased s e) = quiet_line w sc _ _ (record { messages = refl; commands = refl; whats = refl; reads = refl; stolen = refl }) (self sc.world) h
    note (notes.Lost s l) = quiet_line w sc _ _ (record { messages = refl; commands = refl; whats = refl; reads = refl; stolen = refl }) (record { messages = refl; commands = refl; whats = refl; tally = refl }) h
    note (notes.Accepted f p bytes) = quiet_line w sc _ _ (record { messages = refl; commands = refl; whats = refl; reads = refl; stolen = refl }) (record { messages = refl; commands = refl; whats = refl; tally = refl }) h
    note (notes.Patched f p at bytes) = quiet_line w sc _ _ (record { messages = refl; commands = refl; whats = refl; reads = refl; stolen = refl }) (record { messages = refl; commands = refl; whats = refl; tally = refl }) h
    note n = h

client_all : (w : World) (c : ClientId) (before : ClientState) (os : List Output) (sc : WorldTurn) → Told w sc → Told w (ev.client_says_all c before os sc)
unfolding ev.client_says_all
client_all w c before [] sc h = h
client_all w c before (o ∷ os) sc h = client_all w c before os (ev.client_says sc c before o) (client_one w c before o sc h)

server_one : (w : World) (s : ServerId) (o : Output) (sc : WorldTurn) → Told w sc → Told w (ev.server_says sc s o)
unfolding ev.server_says ev.server_notes ev.cuts
server_one w s (outputs.Send m) sc h = sent w sc m h
server_one w s (outputs.Note n) sc h = note n
  where
    note : (n : Note) → Told w (ev.server_notes sc s n)
    note (notes.Suspected c t) = quiet_line w sc _ _ (record { messages = refl; commands = refl; whats = refl; reads = refl; stolen = refl }) (self sc.world) h
    note (notes.Stolen c l) =
        told_with_one_more w sc (ev.with_theft sc.world) (seen.Stolen s c l)
        (record {
          messages = grows_none message_told _ _ refl;
          commands = grows_none command_told _ _ refl;
          whats = adds_none what_told _ _ refl;
          reads = omega arith;
          stolen = refl;
          events = refl;
        })
        h
    note (notes.CutDone f p) = quiet_line w sc _ _ (record { messages = refl; commands = refl; whats = refl; reads = refl; stolen = refl }) (record { messages = refl; commands = refl; whats = refl; tally = refl }) h
    note n = h
server_one w s o sc h = h

server_all : (w : World) (s : ServerId) (os : List Output) (sc : WorldTurn) → Told w sc → Told w (ev.server_says_all s os sc)
unfolding ev.server_says_all
server_all w s [] sc h = h
server_all w s (o ∷ os) sc h = server_all w s os (ev.server_says sc s o) (server_one w s o sc h)

-- Flush steps count nothing.
alike_then : (u v w : World) → Alike u v → Alike v w → Alike u w
alike_then u v w a b = record { messages = b.messages ∙ a.messages; commands = b.commands ∙ a.commands; whats = b.whats ∙ a.whats; tally = b.tally ∙ a.tally }

flushed : (c : ClientId) (s : ClientState) (ss : List ServerId) (w : World) → Alike w (ev.flushes c s ss w)
unfolding ev.flushes
flushed c s [] w = self w
flushed c s (x ∷ ss) w = alike_then w (ev.flushed_at w c x s) _ (in_phase (cl.lease_end_with s x) (cl.phase_with s x (clock_of w (nodes.Client c)))) (flushed c s ss (ev.flushed_at w c x s))
  where
    same : (v : World) → v.net ≡ w.net → v.commands ≡ w.commands → v.disks ≡ w.disks → v.tally ≡ w.tally → Alike w v
    same v n k d t = record { messages = ap (λ (z : world.Net). map message_in z.messages) n; commands = k; whats = ap (λ (z : Disks). map what_in z.commands) d; tally = t }

    under : (o : Option Stamp) → Alike w (ev.flushed_under w c x o)
    under None = same w refl refl refl refl
    under (Some e) = same _ refl refl refl refl

    in_phase : (o : Option Stamp) (p : Option Phase) → Alike w (ev.flushed_in w c x o p)
    in_phase o (Some phases.Flush) = under o
    in_phase o (Some phases.Valid) = same w refl refl refl refl
    in_phase o (Some phases.Renewal) = same w refl refl refl refl
    in_phase o (Some phases.Quiesce) = same w refl refl refl refl
    in_phase o (Some phases.Expired) = same w refl refl refl refl
    in_phase o None = same w refl refl refl refl

then_alike : (u v w : World) (os : List Observation) → Tells u os v → Alike v w → Tells u os w
then_alike u v w os a b = subst (λ z. Tells u z w) (none os) (tells_then u v w os [] a (alike_tells v w b))
  where
    none : (xs : List Observation) → xs ++ [] ≡ xs
    none [] = refl
    none (x ∷ xs) = ap (λ z. x ∷ z) (none xs)

alike_before : (u v w : World) (os : List Observation) → Alike u v → Tells v os w → Tells u os w
alike_before u v w os a b = tells_then u v w [] os (alike_tells u v a) b

-- A step of a client, and of a server.
takes : (w : World) (c : ClientId) (input : ClientInput) (site : WorldClient) → Told w (ev.client_takes w c input site)
unfolding ev.client_takes ev.client_took
takes w c input site = go (cl.node_step site.node (clock_of w (nodes.Client c)) input)
  where
    go : (r : Result cl.NodeTurn StepRefusal) → Told w (ev.client_took w c site r)
    go (Err e) = alike_tells w w (self w)
    go (Ok t) =
        let v : World = ev.with_site c (ev.at_node t.node site) w in
        let sc : WorldTurn = ev.client_says_all c site.node.state t.out (ev.quiet v) in
        then_alike w sc.world _ sc.seen (client_all w c site.node.state t.out (ev.quiet v) (alike_tells w v (record { messages = refl; commands = refl; whats = refl; tally = refl })))
        (flushed c t.node.state (world.all_servers sc.world) sc.world)

at_client : (w : World) (c : ClientId) (input : ClientInput) (o : Option WorldClient) → Told w (ev.at_client w c input o)
unfolding ev.at_client
at_client w c input None = alike_tells w w (self w)
at_client w c input (Some site) = takes w c input site

at_server : (w : World) (s : ServerId) (input : ServerInput) (o : Option ServerNode) → Told w (ev.at_server w s input o)
unfolding ev.at_server ev.server_takes ev.server_took
at_server w s input None = alike_tells w w (self w)
at_server w s input (Some node) = go (server.node_step node (clock_of w (nodes.Server s)) input)
  where
    go : (r : Result server.NodeTurn StepRefusal) → Told w (ev.server_took w s r)
    go (Err e) = alike_tells w w (self w)
    go (Ok t) = server_all w s t.out (ev.quiet (ev.with_node s t.node w)) (alike_tells w _ (record { messages = refl; commands = refl; whats = refl; tally = refl }))

-- Lines of fates count nothing here.
silent_then : (o : Observation) (os : List Observation) → Silent (o ∷ []) → Silent os → Silent (o ∷ os)
silent_then o os a b =
    record {
      messages = filter_map-append message_told (o ∷ []) os ∙ both _ _ a.messages b.messages;
      commands = filter_map-append command_told (o ∷ []) os ∙ both _ _ a.commands b.commands;
      whats = filter_map-append what_told (o ∷ []) os ∙ both _ _ a.whats b.whats;
      reads = let x = a.reads in let y = b.reads in let z = count_more is_read_line (o ∷ []) os in omega (arith, x, y, z);
      stolen = let x = a.stolen in let y = b.stolen in let z = count_more is_theft_line (o ∷ []) os in omega (arith, x, y, z);
    }
  where
    both : {A : Type 0} (xs ys : List A) → xs ≡ [] → ys ≡ [] → xs ++ ys ≡ []
    both xs ys e f = ap (λ z. z ++ ys) e ∙ f

fates_silent : (n : ℕ) (es fs : List LogEntry) → Silent (ev.fates_from n es fs)
unfolding ev.fates_from
fates_silent n [] fs = no_lines
fates_silent n (e ∷ es) [] = no_lines
fates_silent n (e ∷ es) (f ∷ fs) = go e.fate f.fate (fates_silent (n + 1) es fs)
  where
    go : (a b : Fate) → Silent (ev.fates_from (n + 1) es fs) → Silent (ev.fate_seen n a b ++ ev.fates_from (n + 1) es fs)
    go fates.Pending fates.Pending h = h
    go fates.Pending fates.Hard h = silent_then _ _ (record { messages = refl; commands = refl; whats = refl; reads = refl; stolen = refl }) h
    go fates.Pending (fates.Gone c) h = silent_then _ _ (record { messages = refl; commands = refl; whats = refl; reads = refl; stolen = refl }) h
    go fates.Hard b h = h
    go (fates.Gone c) b h = h

marked : (w v : World) (es : List LogEntry) → Alike w v → Told w (ev.marks v es)
unfolding ev.marks
marked w v es a = silent_tells w _ _ (fates_silent 1 v.log es) (alike_then w v _ a (record { messages = refl; commands = refl; whats = refl; tally = refl }))

-- The disks: an effect or a report leaves what each command is.
command_there : (cs : List DiskCommand) (n : ℕ) (c d : DiskCommand) → disks.command_at cs n ≡ Some c → d.what ≡ c.what → map what_in (set cs (pred n) d) ≡ map what_in cs
command_there cs zero c d e q = cc
command_there cs (suc n) c d e q = map_set what_in cs n d c e q

effect_alike : (d : Disks) (n : ℕ) → map what_in (ev.disks_after d (disks.effect d n)).commands ≡ map what_in d.commands
unfolding disks.effect disks.effect_at disks.effect_reported disks.effect_once disks.effect_of
effect_alike d n = at (disks.command d n) refl
  where
    what : (c : DiskCommand) (w : Command) → disks.command d n ≡ Some c → map what_in (disks.effect_of d n c w).commands ≡ map what_in d.commands
    what c (commands.Read b) e = command_there d.commands n c _ e refl
    what c (commands.Write b tag bytes) e = command_there d.commands n c _ e refl

    once : (c : DiskCommand) → disks.command d n ≡ Some c → (b : Bool) → map what_in (ev.disks_after d (if b then Err (Rattle.st_rules.specs.declared.disks.CommandRefusal.TheVariants.Twice n) else Ok (disks.effect_of d n c c.what))).commands ≡ map what_in d.commands
    once c e true = refl
    once c e false = what c c.what e

    open_ : (c : DiskCommand) → disks.command d n ≡ Some c → (r : Report) → map what_in (ev.disks_after d (disks.effect_reported d n c r)).commands ≡ map what_in d.commands
    open_ c e reports.Open = once c e c.effected
    open_ c e reports.Succeeded = refl
    open_ c e reports.Failed = refl

    at : (o : Option DiskCommand) → disks.command d n ≡ o → map what_in (ev.disks_after d (disks.effect_at d n o)).commands ≡ map what_in d.commands
    at None e = refl
    at (Some c) e = open_ c e c.report

done_alike : (d : Disks) (n : ℕ) (ok : Bool) → map what_in (ev.disks_after d (disks.done d n ok)).commands ≡ map what_in d.commands
unfolding disks.done disks.done_at disks.done_unreported disks.done_once
done_alike d n ok = at (disks.command d n) refl
  where
    once : (c : DiskCommand) → disks.command d n ≡ Some c → (b : Bool) → map what_in (ev.disks_after d (if b then Err (Rattle.st_rules.specs.declared.disks.CommandRefusal.TheVariants.NotEffected n) else Ok (disks.with_command n (disks.reported ok c) d))).commands ≡ map what_in d.commands
    once c e true = refl
    once c e false = command_there d.commands n c _ e refl

    open_ : (c : DiskCommand) → disks.command d n ≡ Some c → (r : Report) → map what_in (ev.disks_after d (disks.done_unreported d n ok c r)).commands ≡ map what_in d.commands
    open_ c e reports.Open = once c e (disks.lacks_effect ok c)
    open_ c e reports.Succeeded = refl
    open_ c e reports.Failed = refl

    at : (o : Option DiskCommand) → disks.command d n ≡ o → map what_in (ev.disks_after d (disks.done_at d n ok o)).commands ≡ map what_in d.commands
    at None e = refl
    at (Some c) e = open_ c e c.report

disks_alike : (w : World) (d : Disks) → map what_in d.commands ≡ map what_in w.disks.commands → Alike w (ev.with_disks d w)
disks_alike w d e = record { messages = refl; commands = refl; whats = e; tally = refl }

-- a message that is lost is that message
lost_alike : (w : World) (n : ℕ) (o : Option SentMessage) → world.message_of w n ≡ o → Alike w (ev.loses_message w n o)
unfolding ev.loses_message
lost_alike w n None e = self w
lost_alike w n (Some m) e = record { messages = at n e; commands = refl; whats = refl; tally = refl }
  where
    at : (n : ℕ) → numbered w.net.messages n ≡ Some m → map message_in (set w.net.messages (pred n) (record m { lost = true })) ≡ map message_in w.net.messages
    at zero e = cc
    at (suc n) e = map_set message_in w.net.messages n (record m { lost = true }) m e refl

-- Every event.
pub tells_event : (w : World) (e : Event) → Told w (ev.happens w e)
unfolding ev.happens ev.ticks ev.asks_at ev.delivers ev.delivers_to ev.effects ev.reports_of ev.tells ev.tells_client ev.tells_site ev.advances ev.crashes ev.crashes_client ev.crashes_server ev.starts ev.starts_client ev.starts_server
tells_event w (events.Tick (nodes.Client c)) = at_client w c _ (site_of w c)
tells_event w (events.Tick (nodes.Server s)) = at_server w s _ (node_of w s)
tells_event w (events.App c ask) = go (site_of w c)
  where
    go : (o : Option WorldClient) → Told w (ev.asks_at w c ask o)
    go None = alike_tells w w (self w)
    go (Some site) = takes w c _ (ev.asked_once_more site)
tells_event w (events.Deliver k) = go (world.message_of w k)
  where
    to : (m : Message) (n : NodeId) → Told w (ev.delivers_to w m n)
    to m (nodes.Client c) = at_client w c _ (site_of w c)
    to m (nodes.Server s) = at_server w s _ (node_of w s)

    go : (m : Option SentMessage) → Told w (ev.delivers w m)
    go None = alike_tells w w (self w)
    go (Some m) = to m.message (world.receiver_of m)
tells_event w (events.Lose k) = alike_tells w _ (lost_alike w k (world.message_of w k) refl)
tells_event w (events.Cut from to) = alike_tells w _ (record { messages = refl; commands = refl; whats = refl; tally = refl })
tells_event w (events.Heal from to) = alike_tells w _ (record { messages = refl; commands = refl; whats = refl; tally = refl })
tells_event w (events.Advance steps) = marked w _ _ (record { messages = refl; commands = refl; whats = refl; tally = refl })
tells_event w (events.Effect k) = marked w _ _ (disks_alike w _ (effect_alike w.disks k))
tells_event w (events.Report k ok) = go (issued_of w k)
  where
    v : World
    v = ev.with_disks (ev.disks_after w.disks (disks.done w.disks k ok)) w

    same : Alike w v
    same = disks_alike w _ (done_alike w.disks k ok)

    told : (x : IssuedCommand) (site : WorldClient) (b : Bool) → Told w (if b then ev.client_takes v x.client (ev.end_told v k ok x) site else ev.quiet v)
    told x site true = alike_before w v _ _ same (takes v x.client (ev.end_told v k ok x) site)
    told x site false = alike_tells w v same

    at : (x : IssuedCommand) (o : Option WorldClient) → Told w (ev.tells_client v k ok x o)
    at x None = alike_tells w v same
    at x (Some site) = told x site (ev.is_same_instance x site)

    go : (o : Option IssuedCommand) → Told w (ev.tells v k ok o)
    go None = alike_tells w v same
    go (Some x) = at x (site_of v x.client)
tells_event w (events.Crash (nodes.Client c)) = go (site_of w c)
  where
    go : (o : Option WorldClient) → Told w (ev.crashes_client w c o)
    go None = alike_tells w w (self w)
    go (Some site) = marked w _ _ (record { messages = refl; commands = refl; whats = refl; tally = refl })
tells_event w (events.Crash (nodes.Server s)) = go (node_of w s)
  where
    go : (o : Option ServerNode) → Tells w [] (ev.crashes_server w s o)
    go None = alike_tells w w (self w)
    go (Some node) = alike_tells w _ (record { messages = refl; commands = refl; whats = refl; tally = refl })
tells_event w (events.Start (nodes.Client c)) = go (site_of w c)
  where
    go : (o : Option WorldClient) → Tells w [] (ev.starts_client w c o)
    go None = alike_tells w w (self w)
    go (Some site) = alike_tells w _ (record { messages = refl; commands = refl; whats = refl; tally = refl })
tells_event w (events.Start (nodes.Server s)) = go (node_of w s)
  where
    go : (o : Option ServerNode) → Tells w [] (ev.starts_server w s o)
    go None = alike_tells w w (self w)
    go (Some node) = alike_tells w _ (record { messages = refl; commands = refl; whats = refl; tally = refl })
