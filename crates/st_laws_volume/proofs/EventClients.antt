-- What an event does to each client: it takes a step, crashes, starts, or stays as it was; and which commands are open after it.
use Rattle.st_lemmas.proofs.Words
use Words.{◌≡◌, ◌≢◌, ◌⊎◌, ◌+◌, ℕ, Bool, true, false, List, [], ◌∷◌, ◌++◌, Option, Some, None, Ok, Err, refl, sym, ap, ◌∙◌, subst, inl, inr, if◌then◌else◌}
use Words.{length, list_all}
use Words.{Result, Ask, ClientId, Event, Message, Stamp, NodeId, Note, Output, ClientInput, DiskCommand, ServerId, ServerInput, StepRefusal, IssuedCommand, SentMessage, Fate, LogEntry, Observation}
use Words.events
use Words.fates
use Words.inputs
use Words.nodes
use Words.notes
use Words.outputs
use Words.refusals
use Words.reports
use Words.seen
use Words.serving
use Words.Admissible as adm
use Words.Client as cl
use Words.Disks as disks
use Words.Events as ev
use Words.Events.{WorldTurn, happens, is_same_instance, world_step}
use Words.FlatLog as log
use Words.Lists.{Has}
use Words.Lookups.{some_is}
use Words.Numbers.{numbered_below, numbered_has, numbered_other, numbered_own}
use Words.Server as server
use Words.Server.{ServerNode}
use Words.Tables.{and_both, and_true, has_map_in, same_or_not}
use Words.World as world
use Words.World.{World, WorldClient, clock_of, issued_of, message_of, node_of, numbered, receiver_of, site_of}
use Words.Worlds.{client_at_node, stands_not}
use Rattle.st_rules.specs.declared.disks.Block.{Block}
use Rattle.st_rules.specs.declared.node.StepRefusal.TheVariants.{Crashed}
use Rattle.st_lemmas.proofs.Steps.{step_happens}
use Rattle.st_laws_leases.specs.Dates.Dates.{message_in, messages}
use Rattle.st_laws_pages.proofs.Causes.FlushSteps.{flushes_disks}
use Rattle.st_laws_pages.proofs.Disks.Effects.{or_none}
use Rattle.st_laws_pages.proofs.Disks.Opens.{OpensFrom, goes_effect, goes_report, opens_same}
use Rattle.st_laws_pages.proofs.Lives.Lasting.{Flushed, flush_parts}
use Rattle.st_laws_volume.proofs.CarriedEntries.{IsAt, IsFresh, Says, less_more, says_all}
use Rattle.st_laws_volume.proofs.EventAnswers.{ByAsk, ByMessage, ByReport, ByTick, Stepping, TakesAt, all_give, given_by}
use Rattle.std.specs.Prelude.{unwrap_or}

-- A message that a client takes was sent to it.
abbrev pub IsSentTo : World → ClientId → ClientInput → Type 0
IsSentTo t d i = (m : Message) → i ≡ inputs.Control m → Has m (messages t) × (m.header.to ≡ d.0)

sent_to : (t : World) (e : Event) (d : ClientId) (site : WorldClient) (i : ClientInput) → TakesAt t e d site i → IsSentTo t d i
sent_to t e d site i z m q = go i z q
  where
    message_of_input : ClientInput → Option Message
    message_of_input (inputs.Control m) = Some m
    message_of_input i = None

    go : (i : ClientInput) → TakesAt t e d site i → i ≡ inputs.Control m → Has m (messages t) × (m.header.to ≡ d.0)
    go _ (ByTick q) i = cc i
    go _ (ByAsk ask q) i = cc i
    go _ (ByMessage k x q is r) i =
        let same : x.message ≡ m = some_is (ap message_of_input i) in (
          subst (λ y. Has y (messages t)) same (has_map_in message_in t.net.messages x (numbered_has t.net.messages k x is)),
          ap (λ (y : Message). y.header.to) (sym same) ∙ client_at_node x.message.header.to d r,
        )
    go _ (ByReport k ok x r q j y o failed) i = cc i

-- A step of a client that runs, with its lines.
pub record SiteStep (t : World) (sc : WorldTurn) (d : ClientId) : Type 0 where
  pub site : WorldClient
  pub there : site_of t d ≡ Some site
  pub runs : site.node.running ≡ true
  pub input : ClientInput
  pub comes : IsSentTo t d input
  pub after : WorldClient
  pub left : site_of sc.world d ≡ Some after
  pub node : after.node ≡ (cl.node_turn site.node (cl.client_step site.node.state (clock_of t (nodes.Client d)) input)).node
  pub starts : after.starts ≡ site.starts
  pub before : WorldTurn
  pub unseen : before.seen ≡ []
  pub says : sc.seen ≡ (ev.client_says_all d site.node.state (cl.client_step site.node.state (clock_of t (nodes.Client d)) input).out before).seen

pub data SiteNext (t : World) (e : Event) (sc : WorldTurn) (d : ClientId) : Type 0 where
  Stays : site_of sc.world d ≡ site_of t d → SiteNext t e sc d
  Steps : SiteStep t sc d → (r : Stepping t e sc) → r.client ≡ d → SiteNext t e sc d
  Crashes : (site : WorldClient) → e ≡ events.Crash (nodes.Client d) → site_of sc.world d ≡ Some site → site.node.running ≡ false → SiteNext t e sc d
  Starts : (old : WorldClient) → site_of t d ≡ Some old → old.node.running ≡ false → site_of sc.world d ≡ Some (ev.started_site old) → SiteNext t e sc d

-- A command that isn't reported after an event wasn't before it, or its client has just submitted it, in its present life.
abbrev pub OldOpen : World → ℕ → IssuedCommand → DiskCommand → Type 0
OldOpen t k x d = (c : DiskCommand) × IsAt t k x c × (c.report ≡ reports.Open) × (d.what ≡ c.what)

abbrev pub NewOf : World → IssuedCommand → Type 0
NewOf v x = (site : WorldClient) × (site_of v x.client ≡ Some site) × (x.life ≡ world.life_with site.node.state x.server)

abbrev pub OpensSo : World → World → Type 0
OpensSo t v =
    length v.commands ≡ length v.disks.commands → (k : ℕ) (x : IssuedCommand) (d : DiskCommand) → IsAt v k x d → d.report ≡ reports.Open →
    OldOpen t k x d ⊎ NewOf v x

-- What a server says leaves the clients, the commands and the disks.
record SameParts (v u : World) : Type 0 where
  clients : u.clients ≡ v.clients
  commands : u.commands ≡ v.commands
  disks : u.disks ≡ v.disks

server_note : (s : ServerId) (n : Note) (sc : WorldTurn) → SameParts sc.world (ev.server_notes sc s n).world
unfolding ev.server_notes ev.cuts log.cut
server_note s (notes.Suspected c x) sc = record { clients = refl; commands = refl; disks = refl }
server_note s (notes.Stolen c life) sc = record { clients = refl; commands = refl; disks = refl }
server_note s (notes.CutDone f p) sc = record { clients = refl; commands = refl; disks = refl }
server_note s n sc = record { clients = refl; commands = refl; disks = refl }

server_one : (s : ServerId) (x : Output) (sc : WorldTurn) → SameParts sc.world (ev.server_says sc s x).world
unfolding ev.server_says ev.sends
server_one s (outputs.Send m) sc = record { clients = refl; commands = refl; disks = refl }
server_one s (outputs.Note n) sc = server_note s n sc
server_one s x sc = record { clients = refl; commands = refl; disks = refl }

-- Lines that tell of no loss, no answer and no change of a page.
abbrev pub is_mute : Observation → Bool
is_mute (seen.Lost c s life) = false
is_mute (seen.Answered c op answer) = false
is_mute (seen.Wrote i c f p bytes) = false
is_mute (seen.Patched i c f p at bytes) = false
is_mute o = true

mute_last : (os : List Observation) (o : Observation) → is_mute o ≡ true → list_all is_mute os ≡ true → list_all is_mute (os ++ o ∷ []) ≡ true
mute_last [] o q h = and_both (is_mute o) true q refl
mute_last (x ∷ os) o q h =
    let b = and_true (is_mute x) (list_all is_mute os) h in and_both (is_mute x) (list_all is_mute (os ++ o ∷ [])) b.0 (mute_last os o q b.1)

note_mute : (s : ServerId) (n : Note) (sc : WorldTurn) → list_all is_mute sc.seen ≡ true → list_all is_mute (ev.server_notes sc s n).seen ≡ true
unfolding ev.server_notes ev.cuts
note_mute s (notes.Suspected c x) sc h = mute_last sc.seen _ refl h
note_mute s (notes.Stolen c life) sc h = mute_last sc.seen _ refl h
note_mute s (notes.CutDone f p) sc h = mute_last sc.seen _ refl h
note_mute s n sc h = h

output_mute : (s : ServerId) (x : Output) (sc : WorldTurn) → list_all is_mute sc.seen ≡ true → list_all is_mute (ev.server_says sc s x).seen ≡ true
unfolding ev.server_says ev.sends
output_mute s (outputs.Send m) sc h = mute_last sc.seen _ refl h
output_mute s (outputs.Note n) sc h = note_mute s n sc h
output_mute s x sc h = h

server_mute : (s : ServerId) (os : List Output) (sc : WorldTurn) → list_all is_mute sc.seen ≡ true → list_all is_mute (ev.server_says_all s os sc).seen ≡ true
unfolding ev.server_says_all
server_mute s [] sc h = h
server_mute s (x ∷ os) sc h = server_mute s os (ev.server_says sc s x) (output_mute s x sc h)

fates_mute : (n : ℕ) (es fs : List LogEntry) → list_all is_mute (ev.fates_from n es fs) ≡ true
unfolding ev.fates_from
fates_mute n [] fs = refl
fates_mute n (e ∷ es) [] = refl
fates_mute n (e ∷ es) (f ∷ fs) = go e.fate f.fate (fates_mute (n + 1) es fs)
  where
    go : (a b : Fate) → list_all is_mute (ev.fates_from (n + 1) es fs) ≡ true → list_all is_mute (ev.fate_seen n a b ++ ev.fates_from (n + 1) es fs) ≡ true
    go fates.Pending fates.Pending h = h
    go fates.Pending fates.Hard h = h
    go fates.Pending (fates.Gone cause) h = h
    go fates.Hard b h = h
    go (fates.Gone cause) b h = h

server_all : (s : ServerId) (os : List Output) (sc : WorldTurn) → SameParts sc.world (ev.server_says_all s os sc).world
unfolding ev.server_says_all
server_all s [] sc = record { clients = refl; commands = refl; disks = refl }
server_all s (x ∷ os) sc =
    let a = server_one s x sc in
    let b = server_all s os (ev.server_says sc s x) in
    record { clients = b.clients ∙ a.clients; commands = b.commands ∙ a.commands; disks = b.disks ∙ a.disks }

module _ (t : World) (e : Event) where
  abbrev w : World
  w = ev.counted t

  pub record After (sc : WorldTurn) : Type 0 where
    pub sites : (d : ClientId) → SiteNext t e sc d
    pub opens : OpensSo t sc.world
    pub who : ((r : Stepping t e sc) × SiteStep t sc r.client) ⊎ (list_all is_mute sc.seen ≡ true)

  old_open : (v : World) → v.commands ≡ t.commands → OpensFrom t.disks.commands v.disks.commands → OpensSo t v
  old_open v cs ds n k x d i o = let z = ds k d i.1 o in inl (z.0, (ap (λ xs. numbered xs k) (sym cs) ∙ i.0, z.1), z.2, z.3)

  -- no client takes a step
  still : (sc : WorldTurn) → sc.world.clients ≡ t.clients → sc.world.commands ≡ t.commands → OpensFrom t.disks.commands sc.world.disks.commands →
      list_all is_mute sc.seen ≡ true → After sc
  still sc same cs ds mute = record { sites = λ d. Stays (ap (λ zs. numbered zs d.0) same); opens = old_open sc.world cs ds; who = inr mute }

  nothing : (v : World) → v.clients ≡ t.clients → v.commands ≡ t.commands → v.disks ≡ t.disks → After (ev.quiet v)
  nothing v a b c = still (ev.quiet v) a b (subst (λ (z : disks.Disks). OpensFrom t.disks.commands z.commands) (sym c) (opens_same t.disks.commands)) refl

  -- one client takes a step
  module _ (y : World) (same_clients : y.clients ≡ t.clients) (cs : y.commands ≡ t.commands) (clocks : y.clocks ≡ t.clocks)
      (ds : OpensFrom t.disks.commands y.disks.commands) (c : ClientId) (i : ClientInput) (old site : WorldClient) (there : site_of t c ≡ Some old)
      (same : old.node ≡ site.node) (starts : old.starts ≡ site.starts) (runs : site.node.running ≡ true) (z : TakesAt t e c old i) where
    abbrev now : Stamp
    now = clock_of y (nodes.Client c)

    abbrev turn : cl.NodeTurn
    turn = cl.node_turn site.node (cl.client_step site.node.state now i)

    abbrev after : WorldClient
    after = ev.at_node turn.node site

    abbrev sc0 : WorldTurn
    sc0 = ev.quiet (ev.with_site c after y)

    abbrev sc1 : WorldTurn
    sc1 = ev.client_says_all c site.node.state turn.out sc0

    abbrev sc : WorldTurn
    sc = ev.with_flushes c turn.node.state sc1

    own : site_of sc0.world c ≡ Some after
    own = numbered_own y.clients c.0 after old (ap (λ zs. numbered zs c.0) same_clients ∙ there)

    said : Says c after sc0.world sc1.world
    said = says_all c site.node.state after turn.out sc0 own

    fl : Flushed sc1.world sc.world
    fl = flush_parts c turn.node.state (world.all_servers sc1.world) sc1.world

    clients : sc.world.clients ≡ world.with_numbered c.0 after y.clients
    clients = fl.clients ∙ said.clients

    clock : now ≡ clock_of t (nodes.Client c)
    clock = ap (λ ts. unwrap_or {T = Stamp} (numbered ts c.0) (record { 0 = 0 })) clocks

    step : SiteStep t sc c
    step =
        record {
          site = old;
          there = there;
          runs = ap (λ (n : cl.ClientNode). n.running) same ∙ runs;
          input = i;
          comes = sent_to t e c old i z;
          after = after;
          left = ap (λ zs. numbered zs c.0) clients ∙ own;
          node =
              ap (λ (n : cl.ClientNode). (cl.node_turn n (cl.client_step n.state now i)).node) (sym same)
              ∙ ap (λ k. (cl.node_turn old.node (cl.client_step old.node.state k i)).node) clock;
          starts = sym starts;
          before = sc0;
          unseen = refl;
          says =
              ap (λ (n : cl.ClientNode). (ev.client_says_all c n.state (cl.client_step n.state now i).out sc0).seen) (sym same)
              ∙ ap (λ k. (ev.client_says_all c old.node.state (cl.client_step old.node.state k i).out sc0).seen) clock;
        }

    stepping : Stepping t e sc
    stepping =
        record {
          client = c;
          site = old;
          input = i;
          now = now;
          at = there;
          runs = ap (λ (n : cl.ClientNode). n.running) same ∙ runs;
          clock = clock;
          takes = z;
          before = sc0;
          unseen = refl;
          says = ap (λ (n : cl.ClientNode). (ev.client_says_all c n.state (cl.client_step n.state now i).out sc0).seen) (sym same);
          after = after;
          left = ap (λ zs. numbered zs c.0) clients ∙ own;
          time = ap (λ ts. Rattle.std.specs.Prelude.unwrap_or {T = Stamp} (numbered ts c.0) (record { 0 = 0 })) (fl.clocks ∙ said.clocks);
          runs_on = runs;
          state_is = ap (λ (n : cl.ClientNode). (cl.client_step n.state now i).state) (sym same);
          gives =
              (all_give c site.node.state turn.out sc0).is
              ∙ ap (λ (n : cl.ClientNode). given_by c (cl.client_step n.state now i).out) (sym same);
        }

    disks_same : sc.world.disks ≡ sc1.world.disks
    disks_same = flushes_disks c turn.node.state (world.all_servers sc1.world) sc1.world

    opened : OpensSo t sc.world
    opened n k x d j o =
        by (said.from
        (less_more (length sc1.world.commands) (length sc1.world.disks.commands) (length y.commands) (length y.disks.commands) said.more said.commands
        said.disks_too
        (ap (λ (xs : List IssuedCommand). length xs) (sym fl.commands) ∙ (n ∙ ap (λ (z : disks.Disks). length z.commands) disks_same)))
        k x d (ap (λ xs. numbered xs k) (sym fl.commands) ∙ j.0, ap (λ (z : disks.Disks). disks.command_at z.commands k) (sym disks_same) ∙ j.1))
      where
        by : IsAt y k x d ⊎ IsFresh c after x d → OldOpen t k x d ⊎ NewOf sc.world x
        by (inl q) = let z = ds k d q.1 o in inl (z.0, (ap (λ xs. numbered xs k) (sym cs) ∙ q.0, z.1), z.2, z.3)
        by (inr f) = inr (after, ap (site_of sc.world) f.client ∙ (ap (λ zs. numbered zs c.0) clients ∙ own), f.life)

    took : After sc
    unfolding stepping
    took = record { sites = λ d. go d (same_or_not d.0 c.0); opens = opened; who = inl (stepping, step) }
      where
        go : (d : ClientId) → (d.0 ≡ c.0) ⊎ (d.0 ≢ c.0) → SiteNext t e sc d
        go d (inl q) = subst (SiteNext t e sc) (sym (ap (λ n. record { 0 = n }) q)) (Steps step stepping refl)
        go d (inr n) =
            Stays
            (ap (λ zs. numbered zs d.0) clients
            ∙ (numbered_other y.clients c.0 d.0 after (numbered_below t.clients c.0 old there).0 n ∙ ap (λ zs. numbered zs d.0) same_clients))

  takes : (y : World) → y.clients ≡ t.clients → y.commands ≡ t.commands → y.clocks ≡ t.clocks → OpensFrom t.disks.commands y.disks.commands →
      (c : ClientId) (i : ClientInput) (old site : WorldClient) → site_of t c ≡ Some old → old.node ≡ site.node → old.starts ≡ site.starts →
      TakesAt t e c old i → After (ev.client_takes y c i site)
  unfolding ev.client_takes ev.client_took cl.node_step
  takes y a cs k ds c i old site there same starts z = go site.node.running refl
    where
      go : (b : Bool) → site.node.running ≡ b →
          After (ev.client_took y c site
          (if b then Ok (cl.node_turn site.node (cl.client_step site.node.state (clock_of y (nodes.Client c)) i)) else Err Crashed))
      go true r = took y a cs k ds c i old site there same starts r z
      go false r = still (ev.quiet y) a cs ds refl

  by_client : (c : ClientId) (i : ClientInput) → ((site : WorldClient) → site_of t c ≡ Some site → TakesAt t e c site i) → (o : Option WorldClient) →
      site_of t c ≡ o → After (ev.at_client w c i o)
  unfolding ev.at_client
  by_client c i z None q = nothing w refl refl refl
  by_client c i z (Some site) q = takes w refl refl refl (opens_same t.disks.commands) c i site site q refl refl (z site q)

  by_server : (s : ServerId) (i : ServerInput) (o : Option ServerNode) → After (ev.at_server w s i o)
  unfolding ev.at_server ev.server_takes ev.server_took
  by_server s i None = nothing w refl refl refl
  by_server s i (Some node) = go (server.node_step node (clock_of w (nodes.Server s)) i)
    where
      go : (r : Result server.NodeTurn StepRefusal) → After (ev.server_took w s r)
      go (Err x) = nothing w refl refl refl
      go (Ok u) =
          let p = server_all s u.out (ev.quiet (ev.with_node s u.node w)) in
          still (ev.server_says_all s u.out (ev.quiet (ev.with_node s u.node w))) p.clients p.commands
          (subst (λ (z : disks.Disks). OpensFrom t.disks.commands z.commands) (sym p.disks) (opens_same t.disks.commands))
          (server_mute s u.out (ev.quiet (ev.with_node s u.node w)) refl)

  asked : (c : ClientId) (ask : Ask) → e ≡ events.App c ask → (o : Option WorldClient) → site_of t c ≡ o → After (ev.asks_at w c ask o)
  unfolding ev.asks_at
  asked c ask i None q = nothing w refl refl refl
  asked c ask i (Some site) q =
      takes w refl refl refl (opens_same t.disks.commands) c (inputs.App (site.asks + 1) ask) site (ev.asked_once_more site) q refl refl (ByAsk ask i)

  delivered : (k : ℕ) → e ≡ events.Deliver k → (o : Option SentMessage) → message_of t k ≡ o → After (ev.delivers w o)
  unfolding ev.delivers ev.delivers_to
  delivered k i None q = nothing w refl refl refl
  delivered k i (Some m) q = to (receiver_of m) refl
    where
      to : (n : NodeId) → receiver_of m ≡ n → After (ev.delivers_to w m.message n)
      to (nodes.Client c) r = by_client c (inputs.Control m.message) (λ site at. ByMessage k m i q r) (site_of t c) refl
      to (nodes.Server s) r = by_server s (serving.Control m.message) (node_of t s)

  reported : (k : ℕ) (ok : Bool) → e ≡ events.Report k ok → After (ev.reports_of w k ok)
  unfolding ev.reports_of ev.tells ev.tells_client ev.tells_site
  reported k ok i = go (issued_of t k) refl
    where
      v : World
      v = ev.with_disks (ev.disks_after w.disks (disks.done w.disks k ok)) w

      ds : OpensFrom t.disks.commands v.disks.commands
      ds = (goes_report t.disks k ok).opens

      failed : (b : Bool) (s : Option Block) → ev.result_of b s ≡ None → b ≡ false
      failed true s q = cc
      failed false s q = refl

      same : (x : IssuedCommand) → issued_of t k ≡ Some x → (site : WorldClient) → site_of t x.client ≡ Some site → (b : Bool) →
          is_same_instance x site ≡ b → After (if b then ev.client_takes v x.client (ev.end_told v k ok x) site else ev.quiet v)
      same x q site at true r =
          takes v refl refl refl ds x.client (ev.end_told v k ok x) site site at refl refl
          (ByReport k ok x (ev.result_of ok (disks.sample v.disks k)) i q refl r (failed ok (disks.sample v.disks k)))
      same x q site at false r = still (ev.quiet v) refl refl ds refl

      told : (x : IssuedCommand) → issued_of t k ≡ Some x → (o : Option WorldClient) → site_of t x.client ≡ o → After (ev.tells_client v k ok x o)
      told x q None at = still (ev.quiet v) refl refl ds refl
      told x q (Some site) at = same x q site at (is_same_instance x site) refl

      go : (o : Option IssuedCommand) → issued_of t k ≡ o → After (ev.tells v k ok o)
      go None q = still (ev.quiet v) refl refl ds refl
      go (Some x) q = told x q (site_of t x.client) refl

  crashed : (c : ClientId) → e ≡ events.Crash (nodes.Client c) → (o : Option WorldClient) → site_of t c ≡ o → After (ev.crashes_client w c o)
  unfolding ev.crashes_client ev.marks cl.crash
  crashed c q None there = nothing w refl refl refl
  crashed c q (Some site) there =
      record {
        sites = λ d. go d (same_or_not d.0 c.0);
        opens = old_open (ev.crashes_client w c (Some site)).world refl (opens_same t.disks.commands);
        who = inr (fates_mute 1 t.log (ev.log_crashed w c));
      }
    where
      go : (d : ClientId) → (d.0 ≡ c.0) ⊎ (d.0 ≢ c.0) → SiteNext t e (ev.crashes_client w c (Some site)) d
      go d (inl z) =
          subst (SiteNext t e (ev.crashes_client w c (Some site))) (sym (ap (λ n. record { 0 = n }) z))
          (Crashes (ev.stopped_site site) q (numbered_own t.clients c.0 (ev.stopped_site site) site there) refl)
      go d (inr n) = Stays (numbered_other t.clients c.0 d.0 (ev.stopped_site site) (numbered_below t.clients c.0 site there).0 n)

  started : (c : ClientId) → adm.refusal t (events.Start (nodes.Client c)) ≡ None → (o : Option WorldClient) → site_of t c ≡ o →
      After (ev.quiet (ev.starts_client w c o))
  unfolding ev.starts_client adm.refusal
  started c r None there = nothing w refl refl refl
  started c r (Some site) there =
      record {
        sites = λ d. go d (same_or_not d.0 c.0);
        opens = old_open (ev.with_site c (ev.started_site site) w) refl (opens_same t.disks.commands);
        who = inr refl;
      }
    where
      stopped : site.node.running ≡ false
      stopped =
          ap world.site_runs (sym there)
          ∙ stands_not (world.is_running t (nodes.Client c)) (refusals.Running (nodes.Client c))
          (or_none (adm.no_node t (nodes.Client c)) (adm.still_running t (nodes.Client c)) r).1

      go : (d : ClientId) → (d.0 ≡ c.0) ⊎ (d.0 ≢ c.0) → SiteNext t e (ev.quiet (ev.with_site c (ev.started_site site) w)) d
      go d (inl z) =
          subst (SiteNext t e (ev.quiet (ev.with_site c (ev.started_site site) w))) (sym (ap (λ n. record { 0 = n }) z))
          (Starts site there stopped (numbered_own t.clients c.0 (ev.started_site site) site there))
      go d (inr n) = Stays (numbered_other t.clients c.0 d.0 (ev.started_site site) (numbered_below t.clients c.0 site there).0 n)

  loses : (k : ℕ) (o : Option SentMessage) → After (ev.quiet (ev.loses_message w k o))
  unfolding ev.loses_message
  loses k None = nothing w refl refl refl
  loses k (Some m) = nothing (ev.with_lost k m w) refl refl refl

  crashes_server : (s : ServerId) (o : Option ServerNode) → After (ev.quiet (ev.crashes_server w s o))
  unfolding ev.crashes_server
  crashes_server s None = nothing w refl refl refl
  crashes_server s (Some node) = nothing (ev.with_node s (server.crash_node node) w) refl refl refl

  starts_server : (s : ServerId) (o : Option ServerNode) → After (ev.quiet (ev.starts_server w s o))
  unfolding ev.starts_server
  starts_server s None = nothing w refl refl refl
  starts_server s (Some node) = nothing (ev.with_node s (server.start_node node (clock_of w (nodes.Server s))) w) refl refl refl

  happening : adm.refusal t e ≡ None → After (happens w e)
  unfolding happens ev.ticks ev.crashes ev.starts ev.advances ev.effects ev.marks
  happening r = by e refl
    where
      by : (f : Event) → e ≡ f → After (happens w f)
      by (events.Tick (nodes.Client c)) q = by_client c inputs.Tick (λ site at. ByTick q) (site_of t c) refl
      by (events.Tick (nodes.Server s)) q = by_server s serving.Tick (node_of t s)
      by (events.App c ask) q = asked c ask q (site_of t c) refl
      by (events.Deliver k) q = delivered k q (message_of t k) refl
      by (events.Lose k) q = loses k (message_of t k)
      by (events.Cut from to) q = nothing (ev.with_cut from to w) refl refl refl
      by (events.Heal from to) q = nothing (ev.without_cut from to w) refl refl refl
      by (events.Advance increments) q =
          still (ev.advances w increments) refl refl (opens_same t.disks.commands)
          (fates_mute 1 t.log (ev.log_ended_all w.commands (ev.lives_reached w increments) w.log))
      by (events.Effect k) q =
          still (ev.effects w k) refl refl (goes_effect t.disks k).opens
          (fates_mute 1 t.log (ev.log_hard w.log (ev.carried_by (issued_of w k))))
      by (events.Report k ok) q = reported k ok q
      by (events.Crash (nodes.Client c)) q = crashed c q (site_of t c) refl
      by (events.Crash (nodes.Server s)) q = crashes_server s (node_of t s)
      by (events.Start (nodes.Client c)) q = started c (ap (adm.refusal t) (sym q) ∙ r) (site_of t c) refl
      by (events.Start (nodes.Server s)) q = starts_server s (node_of t s)

-- each event
pub event_clients : (t : World) (e : Event) (sc : WorldTurn) → world_step t e ≡ Ok sc → After t e sc
event_clients t e sc f = let z = step_happens t e sc f in subst (After t e) (sym z.1) (happening t e z.0)
