-- In every run each read that is answered finds its file: it exists, and what is pending of the file is of the client that reads.
use Rattle.st_lemmas.proofs.Words
use Words.{◌≡◌, ◌≢◌, ◌⊎◌, ℕ, ◌+◌, ◌≤◌, arith, true, ◌==◌, List, [], ◌∷◌, ◌++◌, Option, Some, None, Ok, refl, sym, ap, ◌∙◌, subst, inl, inr, suc, length, if◌then◌else◌}
use Words.{eq-eqb, eqb-true, list_all, list_any, lt-ltb, option_map, Ask, BlockAt, ClientId, ClientInput, Command, Event, FileId, LogEntry, Message, Note, Operation, Output, PageNo, ServerId}
use Words.answers
use Words.asks
use Words.inputs
use Words.nodes
use Words.notes
use Words.outputs
use Words.seen
use Words.Client as cl
use Words.ClientLease as lease
use Words.ClientLocks.{is_lock_on}
use Words.ClientState as cs
use Words.ClientState.{Association, ClientSession, ClientState}
use Words.Events as ev
use Words.Events.{WorldTurn, world_step}
use Words.FlatLog.{is_pending}
use Words.History.{Traced, association_at, association_of, locks_at, traced, traced_after}
use Words.Keys.{client, same_client}
use Words.Lengths.{numbered_there}
use Words.Lists.{Has}
use Words.Lookups.{or_left, some_is}
use Words.Numbers.{get_last, numbered_has, numbered_old}
use Words.Safety.{Promise, Step, ask_in, ask_of_client, has_row, holds, is_before, is_event, lasts, lasts_at, step, steps}
use Words.Server.{ServerNode}
use Words.Tables.{and_both, and_true, has_map_in, some_passes}
use Words.Tests.{all_last}
use Words.Truth.{eqb_self, server_is}
use Words.World as world
use Words.World.{World, WorldClient, clock_of, fresh_world, node_of, site_of}
use Words.Worlds.{client_at_node}
use Rattle.std.specs.List.{cons_option}
use Rattle.st_protocol.specs.Assoc.{Config}
use Rattle.st_lemmas.proofs.Steps.{throughout_all, throughout_under}
use Rattle.st_laws_steps.proofs.Lives.Associations.{own_found}
use Rattle.st_laws_refine.specs.Client.Invariants.{Lasts}
use Rattle.st_laws_refine.specs.Server.Pair.{terms_of}
use Rattle.st_laws_refine.specs.Views.Halves.{held_in}
use Rattle.st_laws_pages.specs.Asks.Law.{PlacesAfter, PlacesHold}
use Rattle.st_laws_pages.specs.Flush.Flush.{FlushHold}
use Rattle.st_laws_pages.proofs.Asks.Law.{places_law}
use Rattle.st_laws_pages.proofs.Asks.World.{asks_more, asks_of}
use Rattle.st_laws_pages.proofs.Causes.Law.{Stand, fresh_places, fresh_stand, one_step}
use Rattle.st_laws_leases.specs.Dates.Dates.{message_in}
use Rattle.st_laws_leases.proofs.Sides.Runs.{full}
use Rattle.st_laws_reads.specs.AllClients.Events.{FrozenStandAlone}
use Rattle.st_laws_reads.specs.Copies.World.{Unheld}
use Rattle.st_laws_reads.specs.FrozenLives.PendingEntries.{FrozenHold}
use Rattle.st_laws_reads.proofs.FrozenLives.Law.{alone, events_keep, first}
use Rattle.st_laws_extents.specs.ExtentReplies.Law.{IsAsked}
use Rattle.st_laws_extents.specs.Known.Known.{Locked}
use Rattle.st_laws_extents.proofs.Known.Held.{held_mode}
use Rattle.st_laws_extents.proofs.LockedRequests.Law.{is_asked}
use Rattle.st_laws_volume.specs.Effects.{FindsFile}
use Rattle.st_laws_volume.specs.KnownFiles.{KnownFilesExist}
use Rattle.st_laws_volume.specs.Logs.{InEveryRun}
use Rattle.st_laws_volume.specs.ReadFiles.{FindsRead, ReadsAreOfFiles, is_line_of}
use Rattle.st_laws_volume.proofs.Carried.{Led, carried}
use Rattle.st_laws_volume.proofs.ChangeFiles.{unheld_at}
use Rattle.st_laws_volume.proofs.ClientAnswers.{Tells}
use Rattle.st_laws_volume.proofs.EventAnswers.{ByAsk, ByMessage, ByReport, ByTick, Stepping, TakesAt, event_answers}
use Rattle.st_laws_volume.proofs.KnownFiles.{Comes, FilesKnown, FoundFile, client_done, known_first, known_next_to}
use Rattle.st_laws_volume.proofs.KnownReads.{Done, ReadSome}
use Rattle.st_laws_volume.proofs.LastingSessions.{ItsAnswer, its_answer}
use Rattle.st_laws_volume.proofs.PendingAlone.{client_there, no_other}
use Rattle.st_laws_volume.proofs.ReadPages.{throughout_both, throughout_more}
use Rattle.st_laws_volume.proofs.Trees.{Nothing, TreesHold, trees_begin, trees_kept}
use Rattle.st_laws_volume.proofs.TreeWorld.{AllSound}

-- The lines of a client's step: no fate is among them, and each change is its own.
note_own : (c : ClientId) (before : ClientState) (n : Note) (sc : WorldTurn) → list_all (is_line_of c) sc.seen ≡ true →
    list_all (is_line_of c) (ev.client_notes sc c before n).seen ≡ true
unfolding ev.client_notes ev.accepts ev.patches ev.loses
note_own c before (notes.Leased s end) sc h = all_last (is_line_of c) sc.seen _ h refl
note_own c before (notes.Lost s life) sc h = all_last (is_line_of c) sc.seen _ h refl
note_own c before (notes.Accepted f p bytes) sc h = all_last (is_line_of c) sc.seen _ h (eqb_self c.0)
note_own c before (notes.Patched f p at bytes) sc h = all_last (is_line_of c) sc.seen _ h (eqb_self c.0)
note_own c before n sc h = h

submit_own : (c : ClientId) (o : Option WorldClient) (number : ℕ) (at : BlockAt) (what : Command) (sc : WorldTurn) →
    list_all (is_line_of c) sc.seen ≡ true → list_all (is_line_of c) (ev.submits sc c o number at what).seen ≡ true
unfolding ev.submits
submit_own c None number at what sc h = h
submit_own c (Some site) number at what sc h = all_last (is_line_of c) sc.seen _ h refl

one_own : (c : ClientId) (before : ClientState) (o : Output) (sc : WorldTurn) → list_all (is_line_of c) sc.seen ≡ true →
    list_all (is_line_of c) (ev.client_says sc c before o).seen ≡ true
unfolding ev.client_says ev.sends ev.answers_with
one_own c before (outputs.Send m) sc h = all_last (is_line_of c) sc.seen _ h refl
one_own c before (outputs.Submit number at what) sc h = submit_own c (site_of sc.world c) number at what sc h
one_own c before (outputs.Answer op answer) sc h = all_last (is_line_of c) sc.seen _ h refl
one_own c before (outputs.Note n) sc h = note_own c before n sc h

says_own : (c : ClientId) (before : ClientState) (os : List Output) (sc : WorldTurn) → list_all (is_line_of c) sc.seen ≡ true →
    list_all (is_line_of c) (ev.client_says_all c before os sc).seen ≡ true
unfolding ev.client_says_all
says_own c before [] sc h = h
says_own c before (o ∷ os) sc h = says_own c before os (ev.client_says sc c before o) (one_own c before o sc h)

-- A client that has a lock of a file, under a lease that isn't over.
module _ (k : Config) (count : ℕ) (past : List Step) (w : World) (h : FrozenHold k count w) (frozen : FrozenStandAlone w) (flush : FlushHold past w)
    (c : ClientId) (f : FileId) (found : FoundFile w c f.server f.ino) where
  abbrev a : Association
  a = found.association

  node_there : (node : ServerNode) × (node_of w f.server ≡ Some node)
  node_there =
      let z = flush.servers c found.site found.there a found.has in
      let q = ap (λ (s : ServerId). s.0) found.at in
      let low = z.0 in
      let high = z.1 in
      numbered_there w.servers f.server.0 (omega (arith, low, q)) (omega (arith, high, q))

  its : cl.association_with found.site.node.state f.server ≡ Some a
  its =
      subst (λ (s : ServerId). cl.association_with found.site.node.state s ≡ Some a) found.at
      (own_found found.site.node.state.associations (h.all.fates.lives.lives.sites c found.site found.there).once a found.has)

  its_of : association_of w c f.server ≡ Some a
  its_of = ap (association_at f.server) found.there ∙ its

  held_here : holds w c f ≡ true
  held_here = by a.session refl found.locked found.lasts
    where
      by : (o : Option ClientSession) → a.session ≡ o → Locked o f.ino → Lasts found.site.node.state.config.lease (clock_of w (nodes.Client c)).0 o →
          holds w c f ≡ true
      by None q l t = absurd l
      by (Some s) q l t =
          and_both (lasts w c f.server) (list_any (is_lock_on f.ino) (locks_at (association_of w c f.server)))
          (ap (lasts_at (clock_of w (nodes.Client c)) f.server) found.there
          ∙ and_both found.site.node.running (is_before (clock_of w (nodes.Client c)) (cl.lease_end_with found.site.node.state f.server)) found.runs
          (ap (λ o. is_before (clock_of w (nodes.Client c)) (lease.end_at found.site.node.state.config (cl.lease_at o))) its
          ∙ (ap (λ o. is_before (clock_of w (nodes.Client c)) (lease.end_at found.site.node.state.config (option_map cl.lease_of_session o))) q
          ∙ lt-ltb (clock_of w (nodes.Client c)).0 (lease.end_of found.site.node.state.config s.lease).0 t)))
          (ap (λ o. list_any (is_lock_on f.ino) (locks_at o)) its_of
          ∙ (ap (λ o. list_any (is_lock_on f.ino) (Words.History.locks_of_session o)) q
          ∙ some_passes (is_lock_on f.ino) s.locks.rows l.lock l.has (eq-eqb l.lock.ino f.ino l.on)))

  mode : 1 ≤ (held_in a.session f.ino).mode
  mode =
      held_mode k count w h.all c.0 found.site found.there a found.has
      (record { node = node_there.0; is = ap (node_of w) found.at ∙ node_there.1 }) f.ino found.locked

  -- what is pending of the file is its own
  only_own : (e : LogEntry) → Has e w.log → is_pending e.fate ≡ true → e.of.file ≡ f → e.of.client ≡ c
  only_own e logged open_ same = go (Words.Tables.same_or_not e.of.client.0 c.0)
    where
      is_held : Unheld e.of.file found.site.node.state.config.lease (clock_of w (nodes.Client c)).0 found.site.node.state.associations → ⊥
      is_held u = no mode none
        where
          none : (held_in a.session f.ino).mode ≡ 0
          none =
              unheld_at f found.site.node.state.config.lease (clock_of w (nodes.Client c)).0 found.site.node.state.associations a
              (subst (λ (x : FileId). Unheld x found.site.node.state.config.lease (clock_of w (nodes.Client c)).0 found.site.node.state.associations) same u)
              found.has found.lasts (sym found.at)

          no : {n : ℕ} → 1 ≤ n → n ≡ 0 → ⊥
          no l q = omega (arith, l, q)

      go : (e.of.client.0 ≡ c.0) ⊎ (e.of.client.0 ≢ c.0) → e.of.client ≡ c
      go (inl q) = ap (λ n. record { 0 = n }) q
      go (inr n) =
          absurd
          (is_held
          (frozen e logged open_
          (λ d other b running has life.
          no_other k count past w h.all flush c f (client_there w c found.site found.there) (or_left (holds w c f) (has_row w c f) held_here) d other running b
          has e logged open_ life same
          (λ q. n (sym
          (eqb-true d e.of.client.0 (eq-eqb d e.of.client.0 (sym (eqb-true e.of.client.0 d (and_true (same_client e.of.client (client d)) _ life).0))))
          ∙ ap (λ (x : ClientId). x.0) q)))
          c.0 found.site (record { there = found.there; runs = found.runs })))

  pub found_file : FindsFile w c f
  found_file = record { node = node_there.0; there = node_there.1; file = found.file node_there.0 node_there.1; own = only_own }

-- A step of a client that answers a read.
module _ (k : Config) (count : ℕ) (past : List Step) (t : Traced) (e : Event) (sc : WorldTurn) (h : FilesKnown k count past t) (stand : Stand past t)
    (frozen_lives : FrozenHold k count t.world) (taken : world_step t.world e ≡ Ok sc) where
  abbrev w : World
  w = t.world

  abbrev x : Step
  x = step t e sc

  abbrev past2 : List Step
  past2 = past ++ x ∷ []

  comes_of : (c : ClientId) (site : WorldClient) (i : ClientInput) → TakesAt w e c site i → Comes w c i
  comes_of c site _ (ByTick f) m q = cc q
  comes_of c site _ (ByAsk ask f) m q = cc q
  comes_of c site _ (ByReport j ok y r f q a s d) m z = cc z
  comes_of c site _ (ByMessage j s f q z) m g =
      let is : s.message ≡ m = same s.message m g in (
        subst (λ y. Has y (Rattle.st_laws_leases.specs.Dates.Dates.messages w)) is
            (has_map_in message_in w.net.messages s (numbered_has w.net.messages j s q)),
        ap (λ (y : Message). y.header.to) (sym is) ∙ client_at_node s.message.header.to c z,
      )
    where
      same : (a b : Message) → inputs.Control a ≡ inputs.Control b → a ≡ b
      same a b e = cc

  abbrev AsAsked : ClientId → ℕ → Ask → Type 0
  AsAsked c op ask = world.numbered (asks_of past2 c) op ≡ Some ask

  its_known : (c : ClientId) (site : WorldClient) → site_of w c ≡ Some site → (o : Operation) → Has o site.node.state.operations → AsAsked c o.op o.ask
  its_known c site at o i = asks_longer (ask_in c e) ((h.asks.cuts.clients c site at).asked o i)
    where
      longer : (o2 : Option Ask) → world.numbered (asks_of past c) o.op ≡ Some o.ask → world.numbered (asks_of past c ++ cons_option o2 []) o.op ≡ Some o.ask
      longer None q = subst (λ ys. world.numbered ys o.op ≡ Some o.ask) (sym (Words.append-nil (asks_of past c))) q
      longer (Some y) q = numbered_old (asks_of past c) y o.op o.ask q

      asks_longer : (o2 : Option Ask) → world.numbered (asks_of past c) o.op ≡ Some o.ask → AsAsked c o.op o.ask
      asks_longer o2 q = ap (λ ys. world.numbered ys o.op) (asks_more past x c) ∙ longer (ask_in c e) q

  comes_asked : (c : ClientId) (site : WorldClient) → site_of w c ≡ Some site → (i : ClientInput) → TakesAt w e c site i →
      Tells (AsAsked c) (λ s j. Unit {0}) i
  unfolding ask_of_client
  comes_asked c site at _ (ByTick f) = tt
  comes_asked c site at _ (ByMessage j m f q z) = λ s g. tt
  comes_asked c site at _ (ByReport j ok y r f q a s d) = tt
  comes_asked c site at _ (ByAsk ask f) = now_asked
    where
      own : ask_in c e ≡ Some ask
      own = ap (ask_in c) f ∙ ap (λ b. if b then Some ask else None) (eqb_self c.0)

      counted : length (asks_of past c) ≡ site.asks
      counted = (h.asks.cuts.clients c site at).count

      now_asked : world.numbered (asks_of past2 c) (site.asks + 1) ≡ Some ask
      now_asked =
          ap (λ ys. world.numbered ys (site.asks + 1)) (asks_more past x c ∙ ap (λ o. asks_of past c ++ cons_option o []) own)
          ∙ (ap (world.numbered (asks_of past c ++ ask ∷ [])) (let l = counted in last l) ∙ get_last (asks_of past c) ask)
        where
          last : length (asks_of past c) ≡ site.asks → site.asks + 1 ≡ suc (length (asks_of past c))
          last l = omega (arith, l)

  -- the file that is read
  read_found : (c : ClientId) (op : ℕ) (f : FileId) (p : PageNo) → AsAsked c op (asks.Read f p) →
      ReadSome (FoundFile w c) (record { 0 = 0 }) (AsAsked c) op → FoundFile w c f.server f.ino
  read_found c op f p asked (server, z) =
      subst (λ (s : ServerId). FoundFile w c s f.ino) (sym (server_is f.server server place)) (z.file f p its)
    where
      its : z.operation.ask ≡ asks.Read f p
      its = some_is (sym z.known ∙ (ap (world.numbered (asks_of past2 c)) z.is ∙ asked))

      place : f.server.0 ≡ server.0
      place = eqb-true f.server.0 server.0 (ap (λ (y : Ask). (cs.server_of y).0 == server.0) (sym its) ∙ z.own)

  step_reads : (r : Stepping w e sc) (op : ℕ) (bytes : List ℕ) →
      Has (outputs.Answer op (answers.Read bytes)) (cl.client_step r.site.node.state r.now r.input).out → (f : FileId) (p : PageNo) →
      AsAsked r.client op (asks.Read f p) → FindsRead x r.client f
  step_reads r op bytes i f p asked =
      record {
        finds =
            found_file k count past w frozen_lives (alone past k count w frozen_lives stand.both.flush) stand.both.flush r.client f
            (read_found r.client op f p asked (some (done.reads op bytes i)));
        alone =
            subst (λ os. list_all (is_line_of r.client) os ≡ true) (sym r.says)
            (says_own r.client r.site.node.state (cl.client_step r.site.node.state r.now r.input).out r.before
            (ap (list_all (is_line_of r.client)) r.unseen));
      }
    where
      done : Done (FoundFile w r.client) r.now (AsAsked r.client) (cl.client_step r.site.node.state r.now r.input)
      done =
          client_done k count past t h r.client r.site r.at r.runs r.now r.clock r.input (comes_of r.client r.site r.input r.takes) (AsAsked r.client)
          (its_known r.client r.site r.at) (comes_asked r.client r.site r.at r.input r.takes)

      some : ReadSome (FoundFile w r.client) r.now (AsAsked r.client) op → ReadSome (FoundFile w r.client) (record { 0 = 0 }) (AsAsked r.client) op
      some (server, z) = (server, record { operation = z.operation; known = z.known; is = z.is; own = z.own; file = z.file })

  pub reads_found : ReadsAreOfFiles past x
  reads_found (seen.Answered c op (answers.Read bytes)) i = λ f p asked.
      go (its_answer w e sc (event_answers w e sc taken) c op (answers.Read bytes) i) f p asked
    where
      go : ItsAnswer w e sc c op (answers.Read bytes) → (f : FileId) (p : PageNo) → AsAsked c op (asks.Read f p) → FindsRead x c f
      go (r, q, j) f p asked =
          subst (λ (d : ClientId). FindsRead x d f) (sym q)
          (step_reads r op bytes j f p (subst (λ (d : ClientId). AsAsked d op (asks.Read f p)) q asked))
  reads_found o i = tt

-- In every run.
record Stood (k : Config) (count : ℕ) (past : List Step) (t : Traced) : Type 0 where
  known : FilesKnown k count past t
  places : PlacesHold t.world
  stand : Stand past t
  frozen_lives : FrozenHold k count t.world

abbrev SoundAfter : Promise
SoundAfter past x = AllSound x.after.world

abbrev Owed : Promise
Owed past x = IsAsked past x × (SoundAfter past x × PlacesAfter past x)

abbrev Both : Promise
Both past x = KnownFilesExist past x × ReadsAreOfFiles past x

one_reads : (k : Config) (count : ℕ) (past : List Step) (t : Traced) (e : Event) (sc : WorldTurn) → is_event count e ≡ true → Stood k count past t →
    world_step t.world e ≡ Ok sc → Owed past (step t e sc) →
    Both past (step t e sc) × Stood k count (past ++ step t e sc ∷ []) (traced_after e t sc)
one_reads k count past t e sc in_range s taken g =
    let next : FilesKnown k count (past ++ step t e sc ∷ []) (traced_after e t sc) = known_next_to k count past t s.known e sc in_range taken g.0 g.1.0 in (
      (next.known, reads_found k count past t e sc s.known s.stand s.frozen_lives taken),
      record {
        known = next;
        places = g.1.1;
        stand = (one_step past t e sc taken s.places s.stand).stand;
        frozen_lives = events_keep past k count t.world e sc s.frozen_lives s.stand.both.flush (full count t.world e s.frozen_lives.all.nodes in_range) taken;
      },
    )

sound_after : InEveryRun SoundAfter
sound_after k clients servers disks blocks form es head events =
    throughout_more (Led TreesHold) SoundAfter (λ past x h. h.sound) [] (steps es (traced (fresh_world k clients servers disks blocks form)))
    (carried Nothing TreesHold trees_kept es (traced (fresh_world k clients servers disks blocks form)) (trees_begin k clients servers disks blocks form)
    (throughout_all Nothing (λ past t e sc f. tt) es [] (traced (fresh_world k clients servers disks blocks form))))

both_hold : InEveryRun Both
both_hold k clients servers disks blocks form es head events =
    let t : Traced = traced (fresh_world k clients servers disks blocks form) in
    throughout_under (clients + servers) Owed Both (Stood (terms_of k) (clients + servers)) (one_reads (terms_of k) (clients + servers)) es events [] t
    (record {
      known = known_first k clients servers disks blocks form head (trees_begin k clients servers disks blocks form).sound;
      places = fresh_places k clients servers disks blocks form;
      stand = fresh_stand k clients servers disks blocks form;
      frozen_lives = first k clients servers disks blocks form head;
    })
    (throughout_both IsAsked (λ past x. SoundAfter past x × PlacesAfter past x) [] (steps es t)
    (is_asked k clients servers disks blocks form es head events)
    (throughout_both SoundAfter PlacesAfter [] (steps es t) (sound_after k clients servers disks blocks form es head events)
    (places_law k clients servers disks blocks form es head)))

pub known_files_exist : InEveryRun KnownFilesExist
known_files_exist k clients servers disks blocks form es head events =
    throughout_more Both KnownFilesExist (λ past x h. h.0) [] (steps es (traced (fresh_world k clients servers disks blocks form)))
    (both_hold k clients servers disks blocks form es head events)

pub reads_are_of_files : InEveryRun ReadsAreOfFiles
reads_are_of_files k clients servers disks blocks form es head events =
    throughout_more Both ReadsAreOfFiles (λ past x h. h.1) [] (steps es (traced (fresh_world k clients servers disks blocks form)))
    (both_hold k clients servers disks blocks form es head events)
