-- What is owed when a client takes an input, from what is left of it.
use Rattle.st_lemmas.proofs.Words
use Words.{◌≡◌, ℕ, Bool, true, false, List, [], ◌∷◌, Option, Some, None, Ok, refl, sym, ◌∙◌, subst, inl, inr, arith, if◌then◌else◌, length}
use Words.{ClientId, Life, NodeId, PageNo, ServerId, Ask, Event, Body, ClientInput, Request, DiskCommand, LogEntry, IssuedCommand, SentMessage}
use Words.nodes
use Words.events
use Words.bodies
use Words.inputs
use Words.Admissible as adm
use Words.Client as cl
use Words.ClientState.{Association, ClientSession, asks_name, client_turn}
use Words.Disks as disks
use Words.Events as ev
use Words.Events.{WorldTurn, counted, world_step}
use Words.History.{Traced}
use Words.Keys.{client, page_no}
use Words.Safety.{Step, step}
use Words.World as world
use Words.World.{World, WorldClient, issued_of, life_with, message_of, receiver_of, site_of}
use Words.Lists.{Has}
use Words.Lookups.{some_is}
use Words.Numbers.{numbered_has}
use Words.Worlds.{client_at_node}
use Rattle.st_protocol.specs.Assoc.{Config}
use Rattle.st_lemmas.proofs.Steps.{step_happens}
use Rattle.st_laws_pages.specs.Asks.Law.{PlacesHold}
use Rattle.st_laws_pages.specs.Fates.Fates.{BeforeEnd}
use Rattle.st_laws_pages.specs.Disks.Obligations.{FatesHold}
use Rattle.st_laws_pages.proofs.Disks.Effects.{ReportFinds, report_finds, reported_is, reported_world}
use Rattle.st_laws_pages.proofs.Fates.Fates.{pending_map}
use Rattle.st_laws_pages.proofs.Fates.GoneLaw.{Over, gone_known, kept}
use Rattle.st_laws_pages.proofs.Causes.Events.{counted_both, lacks_none, no_report, own_set, reported_both}
use Rattle.st_laws_pages.proofs.Causes.Law.{Stand}
use Rattle.st_laws_pages.proofs.Causes.Placed.{PlacesAt, places_at}
use Rattle.st_laws_leases.specs.Sides.World.{AllStand}
use Rattle.st_laws_reads.specs.Copies.Copies.{Nothing}
use Rattle.st_laws_reads.specs.Copies.Law.{AllOwed}
use Rattle.st_laws_reads.specs.Copies.Obligations.{OwedAt}
use Rattle.st_laws_reads.specs.Copies.World.{OwedOf, Taking, asking, receiving, receiving_of, now_at, taken, taking, told_at, told_of, turn_of}
use Rattle.st_laws_steps.specs.Client.Session.{cuts_from}
use Rattle.st_laws_reads.specs.AllClients.CutFiles.{AllCleared, Clear, Cleared}
use Rattle.st_laws_reads.specs.AllClients.Law.{Running}
use Rattle.st_laws_reads.specs.AllClients.Obligations.{AllLeft, LeftAt}
use Rattle.st_laws_reads.specs.AllClients.Runs.{InputOwed}
use Rattle.st_laws_reads.proofs.AllClients.ClearPages.{nothing_of}
use Rattle.st_laws_reads.proofs.AllClients.Behind.{Behind, behind}
use Rattle.st_laws_reads.proofs.AllClients.Hardened.{told_hard}
use Rattle.st_laws_reads.proofs.AllClients.Replied.{reply_modes, reply_up}

-- the associations after the losses
abbrev left_of : Taking → List Association
left_of x = (cl.losses (client_turn x.site.node.state []) (now_at x)).state.associations

owed_all : (c : ClientId) (lives : ServerId → Life) (es : List LogEntry) (input : ClientInput) (xs : List Association) → ((a : Association) → Has a xs → LeftAt es input a → OwedAt c lives es input a) → AllLeft es input xs → AllOwed c lives es input xs
owed_all c lives es input [] f h = record {}
owed_all c lives es input (a ∷ xs) f h = record { one = f a (inl refl) h.one; rest = owed_all c lives es input xs (λ b i. f b (inr i)) h.rest }

-- if a remove is asked, nothing of its file is cached
cleared : (a : Association) → Cleared a → (s : ClientSession) (q : Request) (ino : ℕ) (p : PageNo) → a.session ≡ Some s → s.requests.asked ≡ Some q → asks_name q.body ≡ true → s.cutting ≡ Some ino → Nothing a.store ino p
cleared a h s q ino p e asked name cutting = nothing_of a.store ino (page_no 0) z p (omega arith)
  where
    from : (b : Body) → asks_name b ≡ true → cuts_from b ≡ Some (page_no 0)
    from (bodies.Name op) n = refl
    from b n = cc n

    z : Clear a.store ino (page_no 0)
    z = h ino (page_no 0) (record { session = s; is = e; request = q; asked = asked; from = from q.body name; cutting = cutting })

-- what is left suffices
abbrev Suffices : Taking → Type 0
Suffices x = (a : Association) → Has a (left_of x) → LeftAt x.world.log x.input a → OwedAt x.client (life_with (turn_of x).state) x.world.log x.input a

module _ (k : Config) (count : ℕ) (past : List Step) (t : Traced) (e : Event) (sc : WorldTurn) (is : world_step t.world e ≡ Ok sc) (all : AllStand k count t.world) (places : PlacesHold t.world) (st : Stand past t) (clear : AllCleared t.world) where
  abbrev w : World
  w = counted t.world

  -- A message.
  module _ (n : ℕ) (m : SentMessage) (found : message_of w n ≡ Some m) (c : ClientId) (to : receiver_of m ≡ nodes.Client c) (site : WorldClient) (there : site_of w c ≡ Some site) where
    abbrev x : Taking
    x = record { world = w; client = c; input = inputs.Control m.message; site = site }

    receives : Suffices x
    receives a i h s session from life epoch =
        record {
          modes = reply_modes k count t.world all c.0 site run m sent number a b.was s session from life epoch;
          up = reply_up k count t.world all c.0 site run m sent number a b.was s session from life epoch b.lasts;
          zeros = (h s session from life epoch).zeros;
          removed = λ q ino p asked name cutting. cleared a (clear c site there a b.was) s q ino p session asked name cutting;
        }
      where
        sent : Has m t.world.net.messages
        sent = numbered_has t.world.net.messages n m found

        number : m.message.header.to ≡ c.0
        number = client_at_node m.message.header.to c to

        b : Behind site.node.state (now_at x) a
        b = behind c site.node.state (now_at x) (st.fates.lives.lives.sites c site there).fit a i s session

        run : Running t.world c.0 site
        run = record { there = there; runs = go site.node.running refl }
          where
            none_some : ◌≡◌ {A = Option ClientSession} None (Some s) → ⊥
            none_some z = cc

            go : (o : Bool) → site.node.running ≡ o → o ≡ true
            go true q = refl
            go false q = absurd (none_some (sym ((st.fates.lives.lives.sites c site there).stopped q a b.was).session ∙ session))

  -- The end of a command.
  module _ (n : ℕ) (ok : Bool) (happens : e ≡ events.Report n ok) (free : adm.refusal w (events.Report n ok) ≡ None) (d : DiskCommand) (found : disks.command w.disks n ≡ Some d) (y : IssuedCommand) (issued : issued_of w n ≡ Some y) (site : WorldClient) (there : site_of w y.client ≡ Some site) (same : ev.is_same_instance y site ≡ true) where
    abbrev v : World
    v = reported_world w n ok d

    abbrev told : Taking
    told = record { world = v; client = y.client; input = ev.end_told v n ok y; site = site }

    fates : FatesHold v
    fates =
        record {
          lives = record { lives = st.fates.lives.lives; known = st.fates.lives.known };
          pending = pending_map (BeforeEnd t.world) (BeforeEnd v) t.world.log (λ o z. record { end = z.end; is = z.is; before = z.before }) st.fates.pending;
          gone = gone_known (Over t.world) (Over v) t.world.log (λ o z u. kept t.world o v (λ q. record { row = q.row; is = q.is; crashed = q.crashed }) (λ q. record { end = q.end; is = q.is; late = q.late }) u) st.fates.gone;
        }

    finds : ReportFinds w n ok d
    finds = report_finds w n ok d found free

    placed : PlacesAt (length t.world.servers) v
    placed = let z = places_at t.world places in record { count = z.count; told = z.told; known = z.known }

    ends : Suffices told
    ends a i h =
        record {
          hard = λ pc version q kind r same_version.
              told_hard past (step t e sc) v (length t.world.servers) fates placed
              (reported_both past (step t e sc) w n ok d found (counted_both past t.world st.both)) n ok (disks.reported ok d) (own_set past (step t e sc) w ok d n found) (lacks_none past (step t e sc) ok d finds.done) happens y issued site there same a i pc version q kind (done ok refl r) same_version;
          read = h.read;
        }
      where
        done : (o : Bool) → ok ≡ o → ev.result_of o (disks.sample v.disks n) ≡ Some None → o ≡ true
        done true q r = refl
        done false q r = cc r

  by_tick : (c : ClientId) (o : Option WorldClient) (x : Taking) → taking w c inputs.Tick o ≡ Some x → Suffices x
  by_tick c None x q = cc q
  by_tick c (Some site) x q = subst Suffices (some_is q) (λ a i h. record {})

  by_ask : (c : ClientId) (ask : Ask) (o : Option WorldClient) (x : Taking) → asking w c ask o ≡ Some x → Suffices x
  by_ask c ask None x q = cc q
  by_ask c ask (Some site) x q = subst Suffices (some_is q) (λ a i h. record {})

  by_message : (n : ℕ) (m : SentMessage) → message_of w n ≡ Some m → (r : NodeId) → receiver_of m ≡ r → (x : Taking) → receiving w m.message r ≡ Some x → Suffices x
  by_message n m found (nodes.Server s) to x q = cc q
  by_message n m found (nodes.Client c) to x q = go (site_of w c) refl q
    where
      go : (o : Option WorldClient) → site_of w c ≡ o → taking w c (inputs.Control m.message) o ≡ Some x → Suffices x
      go None there q = cc q
      go (Some site) there q = subst Suffices (some_is q) (receives n m found c to site there)

  by_delivery : (n : ℕ) (o : Option SentMessage) → message_of w n ≡ o → (x : Taking) → receiving_of w o ≡ Some x → Suffices x
  by_delivery n None found x q = cc q
  by_delivery n (Some m) found x q = by_message n m found (receiver_of m) refl x q

  by_report : (n : ℕ) (ok : Bool) → e ≡ events.Report n ok → adm.refusal w (events.Report n ok) ≡ None → (d : DiskCommand) → disks.command w.disks n ≡ Some d → (o : Option IssuedCommand) → issued_of w n ≡ o → (x : Taking) → told_of (reported_world w n ok d) n ok o ≡ Some x → Suffices x
  by_report n ok happens free d found None issued x q = cc q
  by_report n ok happens free d found (Some y) issued x q = at (site_of w y.client) refl q
    where
      v : World
      v = reported_world w n ok d

      go : (site : WorldClient) → site_of w y.client ≡ Some site → (b : Bool) → ev.is_same_instance y site ≡ b → (if b then taking v y.client (ev.end_told v n ok y) (Some site) else None) ≡ Some x → Suffices x
      go site there true same q = subst Suffices (some_is q) (ends n ok happens free d found y issued site there same)
      go site there false same q = cc q

      at : (o : Option WorldClient) → site_of w y.client ≡ o → told_at v n ok y o ≡ Some x → Suffices x
      at None there q = cc q
      at (Some site) there q = go site there (ev.is_same_instance y site) refl q

  by_event : (f : Event) → e ≡ f → adm.refusal w f ≡ None → (x : Taking) → taken w f ≡ Some x → Suffices x
  by_event (events.Tick (nodes.Client c)) i free x q = by_tick c (site_of w c) x q
  by_event (events.App c ask) i free x q = by_ask c ask (site_of w c) x q
  by_event (events.Deliver n) i free x q = by_delivery n (message_of w n) refl x q
  by_event (events.Report n ok) i free x q = go (disks.command w.disks n) refl
    where
      go : (o : Option DiskCommand) → disks.command w.disks n ≡ o → Suffices x
      go None found = absurd (no_report past (step t e sc) w n ok found free)
      go (Some d) found =
          by_report n ok i free d found (issued_of w n) refl x
          (subst (λ (u : World). told_of u n ok (issued_of w n) ≡ Some x) (reported_is w n ok d (report_finds w n ok d found free)) q)
  by_event f i free x q = cc q

  -- For each input.
  tick_owed : (c : ClientId) (lives : ServerId → Life) (es : List LogEntry) (xs : List Association) → AllOwed c lives es inputs.Tick xs
  tick_owed c lives es [] = record {}
  tick_owed c lives es (a ∷ xs) = record { one = record {}; rest = tick_owed c lives es xs }

  app_owed : (c : ClientId) (lives : ServerId → Life) (es : List LogEntry) (op : ℕ) (ask : Ask) (xs : List Association) → AllOwed c lives es (inputs.App op ask) xs
  app_owed c lives es op ask [] = record {}
  app_owed c lives es op ask (a ∷ xs) = record { one = record {}; rest = app_owed c lives es op ask xs }

  by_input : (x : Taking) → Suffices x → InputOwed x x.input → OwedOf x
  by_input x f o = go x.input refl o
    where
      All : ClientInput → Type 0
      All i = AllOwed x.client (life_with (turn_of x).state) x.world.log i (left_of x)

      go : (i : ClientInput) → x.input ≡ i → InputOwed x i → OwedOf x
      go inputs.Tick q o = subst All (sym q) (tick_owed x.client (life_with (turn_of x).state) x.world.log (left_of x))
      go (inputs.App op ask) q o = subst All (sym q) (app_owed x.client (life_with (turn_of x).state) x.world.log op ask (left_of x))
      go (inputs.Control m) q o = owed_all x.client (life_with (turn_of x).state) x.world.log x.input (left_of x) f o
      go (inputs.Done number result) q o = owed_all x.client (life_with (turn_of x).state) x.world.log x.input (left_of x) f o

  pub input_owed : (x : Taking) → taken w e ≡ Some x → InputOwed x x.input → OwedOf x
  unfolding adm.refusal adm.refused_delivery adm.clocks_refused adm.flush_missed adm.refused_effect adm.refused_report adm.missed_by world.node_of_place
  input_owed y q o = by_input y (by_event e refl (step_happens t.world e sc is).0 y q) o
