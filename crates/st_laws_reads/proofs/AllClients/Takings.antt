-- An event at which a client takes an input keeps the copies of all clients.
use Rattle.st_lemmas.proofs.Words
use Words.{◌≡◌, ◌≢◌, ℕ, ◌+◌, ◌⊎◌, Bool, true, false, List, [], ◌∷◌, ◌++◌, Option, Some, None, Ok, Err, refl, sym, ap, ◌∙◌, subst, inl, inr, append_assoc}
use Words.{if◌then◌else◌, eqb-true, ne_eqb, ClientId, NodeId, ServerId, Stamp, Ask, Event, Message, ClientInput, LogEntry, IssuedCommand, SentMessage}
use Words.nodes
use Words.events
use Words.inputs
use Words.Client as cl
use Words.ClientState.{Association, ClientState}
use Words.Disks as disks
use Words.Events as ev
use Words.Events.{WorldTurn, counted, happens, world_step}
use Words.FlatLog.{is_of_client}
use Words.Keys.{client}
use Words.World.{World, WorldClient, clock_of, issued_of, message_of, numbered, receiver_of, site_of}
use Words.Lists.{Has}
use Words.Lookups.{some_is}
use Words.Numbers.{numbered_below, numbered_other, numbered_own}
use Words.Tables.{and_true, same_or_not}
use Rattle.st_rules.specs.declared.node.StepRefusal.TheVariants.{Crashed}
use Rattle.st_protocol.specs.Assoc.{Config}
use Rattle.st_lemmas.proofs.Steps.{step_happens}
use Rattle.st_laws_refine.specs.Client.World.{WorldLeft, site_left, world_left}
use Rattle.st_laws_refine.proofs.Client.Sim.{world_is}
use Rattle.st_laws_steps.specs.Lives.Lives.{LifeNext, Pairwise, clock_in}
use Rattle.st_laws_steps.specs.Client.Losses.{Fit}
use Rattle.st_laws_steps.proofs.Client.Stepping.{step_lives}
use Rattle.st_laws_leases.specs.Sides.World.{AllStand, There}
use Rattle.st_laws_reads.specs.Copies.Law.{ClientCopies}
use Rattle.st_laws_reads.specs.Copies.World.{AllOwn, ClientRests, OwnEntry, Taking, Unheld, WorldKeeps, asking, receiving, receiving_of, now_at, taken, taking}
use Rattle.st_laws_reads.specs.Copies.World.{told_at, told_of, turn_of}
use Rattle.st_laws_reads.proofs.Copies.Others.{entries_law}
use Rattle.st_laws_reads.proofs.Copies.Rests.{clocks_law, rests_law}
use Rattle.st_laws_reads.proofs.Copies.World as own
use Rattle.st_laws_reads.specs.AllClients.World.{AllThere, CopiesHold, SiteHolds, TakingOwed, TakingsKeepCopies}
use Rattle.st_laws_reads.proofs.AllClients.Alone as alone
use Words.{append-nil}

-- Entries of other clients join.
more_copies : (asked_as : ℕ → Option Ask) (c : ClientId) (now : Stamp) (s : ClientState) (es more : List LogEntry) → ((e : LogEntry) → Has e more → is_of_client c e.of ≡ false) →
    ((e : LogEntry) → Has e more → Unheld e.of.file s.config.lease now.0 s.associations) → ClientCopies asked_as c es now s → ClientCopies asked_as c (es ++ more) now s
more_copies asked_as c now s es [] n u h = subst (λ l. ClientCopies asked_as c l now s) (sym (append-nil es)) h
more_copies asked_as c now s es (e ∷ more) n u h =
    subst (λ l. ClientCopies asked_as c l now s) (append_assoc es (e ∷ []) more)
    (more_copies asked_as c now s (es ++ e ∷ []) more (λ x i. n x (inr i)) (λ x i. u x (inr i)) (entries_law asked_as c es now s e (n e (inl refl)) (u e (inl refl)) h))

more_rests : (c : ClientId) (s : ClientState) (es more : List LogEntry) → ((e : LogEntry) → Has e more → is_of_client c e.of ≡ false) → ClientRests c es s → ClientRests c (es ++ more) s
more_rests c s es [] n h = subst (λ l. ClientRests c l s) (sym (append-nil es)) h
more_rests c s es (e ∷ more) n h =
    subst (λ l. ClientRests c l s) (append_assoc es (e ∷ []) more) (more_rests c s (es ++ e ∷ []) more (λ x i. n x (inr i)) ((rests_law c es s h).entry e (n e (inl refl))))

own_at : (c : ClientId) (xs : List Association) (es : List LogEntry) (e : LogEntry) → AllOwn c xs es → Has e es → OwnEntry c xs e
own_at c xs [] e r h = elim h [ ]
own_at c xs (y ∷ es) e r (inl q) = subst (λ (z : LogEntry). OwnEntry c xs z) (sym q) r.one
own_at c xs (y ∷ es) e r (inr h) = own_at c xs es e r.rest h

has_behind : (es more : List LogEntry) (e : LogEntry) → Has e more → Has e (es ++ more)
has_behind [] more e h = h
has_behind (y ∷ es) more e h = inr (has_behind es more e h)

not_of : (c d : ℕ) (xs : List Association) (e : LogEntry) → d ≢ c → OwnEntry (client c) xs e → is_of_client (client d) e.of ≡ false
not_of c d xs e n o = ne_eqb e.of.client.0 d (λ q. n (sym q ∙ eqb-true e.of.client.0 c (and_true (is_of_client (client c) e.of) _ o.own).0))

-- servers that are there
pub there_on : (w v : World) (xs : List Association) → v.servers ≡ w.servers → AllThere w xs → AllThere v xs
there_on w v [] q t = record {}
there_on w v (a ∷ xs) q t = record { one = record { node = t.one.node; is = ap (λ ns. numbered ns a.server.0) q ∙ t.one.is }; rest = there_on w v xs q t.rest }

there_next : (w : World) (now : Stamp) (s : ClientState) (xs ys : List Association) → Pairwise (LifeNext now s) xs ys → AllThere w xs → AllThere w ys
there_next w now s [] [] p t = record {}
there_next w now s (a ∷ xs) (b ∷ ys) p t = record { one = subst (λ (v : ServerId). There w v) p.one.server t.one; rest = there_next w now s xs ys p.rest t.rest }
there_next w now s [] (b ∷ ys) p t = absurd p
there_next w now s (a ∷ xs) [] p t = absurd p

pub there_at : (w : World) (xs : List Association) (a : Association) → AllThere w xs → Has a xs → There w a.server
there_at w [] a t h = elim h [ ]
there_at w (x ∷ xs) a t (inl e) = subst (λ (y : Association). There w y.server) (sym e) t.one
there_at w (x ∷ xs) a t (inr h) = there_at w xs a t.rest h

-- What is taken, and the step that follows.
pub record Takes (w : World) (sc : WorldTurn) (x : Taking) : Type 0 where
  pub old : WorldClient
  pub there : site_of w x.client ≡ Some old
  pub same : old.node ≡ x.site.node
  pub clients : x.world.clients ≡ w.clients
  pub clocks : x.world.clocks ≡ w.clocks
  pub servers : x.world.servers ≡ w.servers
  pub log : x.world.log ≡ w.log
  pub is : sc ≡ ev.client_takes x.world x.client x.input x.site

by_client : (w : World) (c : ClientId) (input : ClientInput) (o : Option WorldClient) (x : Taking) → site_of w c ≡ o → taking w c input o ≡ Some x → Takes w (ev.at_client w c input o) x
unfolding ev.at_client
by_client w c input None x e q = cc q
by_client w c input (Some site) x e q =
    subst (Takes w (ev.client_takes w c input site)) (some_is q) (record { old = site; there = e; same = refl; clients = refl; clocks = refl; servers = refl; log = refl; is = refl })

by_ask : (w : World) (c : ClientId) (ask : Ask) (o : Option WorldClient) (x : Taking) → site_of w c ≡ o → asking w c ask o ≡ Some x → Takes w (ev.asks_at w c ask o) x
unfolding ev.asks_at
by_ask w c ask None x e q = cc q
by_ask w c ask (Some site) x e q =
    subst (Takes w (ev.client_takes w c (inputs.App (site.asks + 1) ask) (ev.asked_once_more site))) (some_is q)
    (record { old = site; there = e; same = refl; clients = refl; clocks = refl; servers = refl; log = refl; is = refl })

by_message : (w : World) (m : Message) (n : NodeId) (x : Taking) → receiving w m n ≡ Some x → Takes w (ev.delivers_to w m n) x
unfolding ev.delivers_to
by_message w m (nodes.Client c) x q = by_client w c (inputs.Control m) (site_of w c) x refl q
by_message w m (nodes.Server s) x q = cc q

by_delivery : (w : World) (o : Option SentMessage) (x : Taking) → receiving_of w o ≡ Some x → Takes w (ev.delivers w o) x
unfolding ev.delivers
by_delivery w None x q = cc q
by_delivery w (Some m) x q = by_message w m.message (receiver_of m) x q

by_end : (w : World) (d : disks.Disks) (k : ℕ) (ok : Bool) (y : IssuedCommand) (o : Option WorldClient) (x : Taking) → site_of w y.client ≡ o → told_at (ev.with_disks d w) k ok y o ≡ Some x → Takes w (ev.tells_client (ev.with_disks d w) k ok y o) x
unfolding ev.tells_client ev.tells_site
by_end w d k ok y None x e q = cc q
by_end w d k ok y (Some site) x e q = go (ev.is_same_instance y site) q
  where
    v : World
    v = ev.with_disks d w

    go : (b : Bool) → (if b then taking v y.client (ev.end_told v k ok y) (Some site) else None) ≡ Some x → Takes w (if b then ev.client_takes v y.client (ev.end_told v k ok y) site else ev.quiet v) x
    go true q =
        subst (Takes w (ev.client_takes v y.client (ev.end_told v k ok y) site)) (some_is q)
        (record { old = site; there = e; same = refl; clients = refl; clocks = refl; servers = refl; log = refl; is = refl })
    go false q = cc q

by_report : (w : World) (d : disks.Disks) (k : ℕ) (ok : Bool) (o : Option IssuedCommand) (x : Taking) → told_of (ev.with_disks d w) k ok o ≡ Some x → Takes w (ev.tells (ev.with_disks d w) k ok o) x
unfolding ev.tells
by_report w d k ok None x q = cc q
by_report w d k ok (Some y) x q = by_end w d k ok y (site_of w y.client) x refl q

pub takes_event : (w : World) (e : Event) (x : Taking) → taken w e ≡ Some x → Takes w (happens w e) x
unfolding ev.happens ev.ticks ev.reports_of
takes_event w (events.Tick (nodes.Client c)) x q = by_client w c inputs.Tick (site_of w c) x refl q
takes_event w (events.App c ask) x q = by_ask w c ask (site_of w c) x refl q
takes_event w (events.Deliver k) x q = by_delivery w (message_of w k) x q
takes_event w (events.Report k ok) x q = by_report w (ev.disks_after w.disks (disks.done w.disks k ok)) k ok (issued_of w k) x q
takes_event w e x q = cc q

-- A step of a client that runs.
module _ (asks : ℕ → ℕ → Option Ask) (k : Config) (count : ℕ) (w : World) (e : Event) (sc : WorldTurn) (x : Taking) (all : AllStand k count w) (after : AllStand k count sc.world) (step : world_step w e ≡ Ok sc) (q : taken (counted w) e ≡ Some x) (t : Takes (counted w) sc x) (owed : TakingOwed asks x) (h : CopiesHold asks w) (runs : x.site.node.running ≡ true) where
  left : WorldLeft x.world x.client x.site x.input
  left = world_is x.world x.client x.site x.input

  goes : sc.world ≡ world_left x.world x.client x.site x.input
  unfolding ev.client_takes cl.node_step
  goes =
      ap (λ (z : WorldTurn). z.world) t.is
      ∙ ap (λ b. (ev.client_took x.world x.client x.site (if b then Ok (cl.node_turn x.site.node (turn_of x)) else Err Crashed)).world) runs

  clients : sc.world.clients ≡ (ev.with_site x.client (site_left x.world x.client x.site x.input) x.world).clients
  clients = ap (λ (z : World). z.clients) goes ∙ left.clients

  clock : (c : ClientId) → clock_of sc.world (nodes.Client c) ≡ clock_of w (nodes.Client c)
  clock c = ap (λ ts. clock_in ts c) (ap (λ (z : World). z.clocks) goes ∙ left.clocks ∙ t.clocks)

  clock_there : clock_of w (nodes.Client x.client) ≡ now_at x
  clock_there = ap (λ ts. clock_in ts x.client) (sym t.clocks)

  servers : sc.world.servers ≡ w.servers
  servers = ap (λ (z : World). z.servers) goes ∙ left.servers ∙ t.servers

  abbrev c : ℕ
  c = x.client.0

  there : site_of x.world x.client ≡ Some t.old
  there = ap (λ cs. numbered cs c) t.clients ∙ t.there

  old_holds : SiteHolds (asks c) w c t.old
  old_holds = h c t.old t.there

  old_runs : t.old.node.running ≡ true
  old_runs = ap (λ (n : cl.ClientNode). n.running) t.same ∙ runs

  pub keeps : WorldKeeps (asks c) x.client x.world.log sc.world.log (turn_of x)
  keeps =
      own.events_keep_copies (asks c) w e sc x step q runs
      (subst (λ (n : cl.ClientNode). ClientCopies (asks c) x.client x.world.log (now_at x) n.state) t.same
      (subst (λ n. ClientCopies (asks c) x.client x.world.log n t.old.node.state) clock_there (subst (λ l. ClientCopies (asks c) x.client l (clock_of w (nodes.Client x.client)) t.old.node.state) (sym t.log) (old_holds.runs old_runs)))) owed.numbered owed.owed

  abbrev pub mine : WorldClient
  mine = site_left x.world x.client x.site x.input

  pub mine_there : site_of sc.world x.client ≡ Some mine
  mine_there = ap (λ cs. numbered cs c) clients ∙ numbered_own x.world.clients c mine t.old there

  mine_holds : SiteHolds (asks c) sc.world c mine
  mine_holds =
      record {
        servers = there_on w sc.world (turn_of x).state.associations servers (there_next w (now_at x) x.site.node.state x.site.node.state.associations (turn_of x).state.associations pairs before);
        runs = λ r. (clocks_law (asks c) x.client sc.world.log (clock_of sc.world (nodes.Client x.client)) (turn_of x).state).behind keeps.stands;
        rests = λ r. let z = sym runs ∙ r in cc z;
      }
    where
      before : AllThere w x.site.node.state.associations
      before = subst (λ (n : cl.ClientNode). AllThere w n.state.associations) t.same old_holds.servers

      pairs : Pairwise (LifeNext (now_at x) x.site.node.state) x.site.node.state.associations (turn_of x).state.associations
      pairs =
          (step_lives x.client x.site.node.state (now_at x) x.input
          (subst (λ (n : cl.ClientNode). (a : Association) → Has a n.state.associations → Fit a) t.same (all.fates.lives.lives.sites x.client t.old t.there).fit)).pairs

  others : (d : ℕ) (site : WorldClient) → d ≢ c → site_of sc.world (client d) ≡ Some site → SiteHolds (asks d) sc.world d site
  others d site n f =
      record {
        servers = there_on w sc.world site.node.state.associations servers was.servers;
        runs = λ r. subst (λ l. ClientCopies (asks d) (client d) l (clock_of sc.world (nodes.Client (client d))) site.node.state) (sym joined)
            (more_copies (asks d) (client d) (clock_of sc.world (nodes.Client (client d))) site.node.state w.log keeps.more not_its (unheld r)
            (subst (λ u. ClientCopies (asks d) (client d) w.log u site.node.state) (sym (clock (client d))) (was.runs r)));
        rests = λ r. subst (λ l. ClientRests (client d) l site.node.state) (sym joined) (more_rests (client d) site.node.state w.log keeps.more not_its (was.rests r));
      }
    where
      was : SiteHolds (asks d) w d site
      was =
          h d site
          (sym (ap (λ cs. numbered cs d) clients ∙ numbered_other x.world.clients c d mine (numbered_below x.world.clients c t.old there).0 n ∙ ap (λ cs. numbered cs d) t.clients) ∙ f)

      joined : sc.world.log ≡ w.log ++ keeps.more
      joined = keeps.joined ∙ ap (λ l. l ++ keeps.more) t.log

      not_its : (y : LogEntry) → Has y keeps.more → is_of_client (client d) y.of ≡ false
      not_its y i = not_of c d (turn_of x).state.associations y n (own_at x.client (turn_of x).state.associations keeps.more y keeps.own i)

      unheld : site.node.running ≡ true → (y : LogEntry) → Has y keeps.more → Unheld y.of.file site.node.state.config.lease (clock_of sc.world (nodes.Client (client d))).0 site.node.state.associations
      unheld r y i =
          let o = own_at x.client (turn_of x).state.associations keeps.more y keeps.own i in
          alone.pending_pages_stand_alone (asks c) k count sc.world c d mine site o.association y after (λ z. n (sym z)) (record { there = mine_there; runs = runs }) (record { there = f; runs = r }) (mine_holds.runs runs) o.listed
          (record { logged = subst (λ l. Has y l) (sym joined) (has_behind w.log keeps.more y i); pending = o.pending; own = o.own; server = there_at sc.world (turn_of x).state.associations o.association mine_holds.servers o.listed })

  all_hold : CopiesHold asks sc.world
  all_hold d site f = go (same_or_not d c)
    where
      go : (d ≡ c) ⊎ (d ≢ c) → SiteHolds (asks d) sc.world d site
      go (inr n) = others d site n f
      go (inl i) =
          subst (λ j. SiteHolds (asks j) sc.world j site) (sym i)
          (subst (λ (s : WorldClient). SiteHolds (asks c) sc.world c s) (some_is (sym mine_there ∙ subst (λ j. site_of sc.world (client j) ≡ Some site) i f)) mine_holds)

-- A client that does not run takes nothing.
stopped : (asks : ℕ → ℕ → Option Ask) (w : World) (sc : WorldTurn) (x : Taking) → Takes (counted w) sc x → CopiesHold asks w → x.site.node.running ≡ false → CopiesHold asks sc.world
unfolding ev.client_takes cl.node_step ev.client_took
stopped asks w sc x t h r = λ d site f.
    let is : sc.world ≡ x.world = ap (λ (z : WorldTurn). z.world) t.is ∙ ap (λ b. (ev.client_took x.world x.client x.site (if b then Ok (cl.node_turn x.site.node (turn_of x)) else Err Crashed)).world) r in
    let s = h d site (sym (ap (λ (z : World). site_of z (client d)) is ∙ ap (λ cs. numbered cs d) t.clients) ∙ f) in
    let log : sc.world.log ≡ w.log = ap (λ (z : World). z.log) is ∙ t.log in
    let clock : clock_of sc.world (nodes.Client (client d)) ≡ clock_of w (nodes.Client (client d)) = ap (λ ts. clock_in ts (client d)) (ap (λ (z : World). z.clocks) is ∙ t.clocks) in
    record {
      servers = there_on w sc.world site.node.state.associations (ap (λ (z : World). z.servers) is ∙ t.servers) s.servers;
      runs = λ y. subst (λ l. ClientCopies (asks d) (client d) l (clock_of sc.world (nodes.Client (client d))) site.node.state) (sym log) (subst (λ u. ClientCopies (asks d) (client d) w.log u site.node.state) (sym clock) (s.runs y));
      rests = λ y. subst (λ l. ClientRests (client d) l site.node.state) (sym log) (s.rests y);
    }

pub takings_keep_copies : TakingsKeepCopies
takings_keep_copies asks k count w e sc x all after step q owed h = go x.site.node.running refl
  where
    t : Takes (counted w) sc x
    t = let z = step_happens w e sc step in subst (λ (s : WorldTurn). Takes (counted w) s x) (sym z.1) (takes_event (counted w) e x q)

    go : (b : Bool) → x.site.node.running ≡ b → CopiesHold asks sc.world
    go true r = all_hold asks k count w e sc x all after step q t owed h r
    go false r = stopped asks w sc x t h r
