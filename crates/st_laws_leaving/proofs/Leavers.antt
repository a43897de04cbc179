-- Who left has nothing: each event keeps it.
use Rattle.st_lemmas.proofs.Words
use Words.{◌≡◌, ◌≢◌, ◌≤◌, ◌+◌, ◌⊎◌, ℕ, true, List, [], length, map, Some, Ok, refl, sym, ap, ◌∙◌, subst, inl, inr, arith, if◌then◌else◌}
use Words.{ClientId, Message, Observation, ServerId, ServerInput}
use Words.events
use Words.nodes
use Words.Client as plain
use Words.Events as ev
use Words.Events.{asked_once_more, quiet}
use Words.Lists.{Has}
use Words.Lookups.{some_is}
use Words.Numbers.{numbered_below, numbered_other, numbered_own}
use Words.Server as server
use Words.Server.{ServerNode}
use Words.Tables.{has_map, same_or_not}
use Words.World.{World, WorldClient, clock_of, node_of, numbered, site_of, with_numbered}
use Rattle.st_third.specs.declared.beside.Leave.{Leave}
use Rattle.st_third.specs.declared.event.ThirdEvent.{ThirdEvent}
use Rattle.st_third.specs.declared.event.ThirdEvent.TheVariants as third
use Rattle.st_third.specs.declared.event.ThirdInput.{ThirdInput}
use Rattle.st_third.specs.declared.observation.ThirdObservation.{ThirdObservation}
use Rattle.st_third.specs.Events as every
use Rattle.st_third.specs.Events.{ThirdWorldTurn, unseen}
use Rattle.st_third.specs.Limits.{limited_node, limited_site}
use Rattle.st_third.specs.Promises.{Leaver, left_along}
use Rattle.st_third.specs.State.{ClientBeside, fresh_beside_client}
use Rattle.st_third.specs.Steps.{ThirdStep}
use Rattle.st_third.specs.World.{ThirdWorld, beside_of}
use Rattle.st_laws_third.specs.Changes.{HeardLeave}
use Rattle.st_laws_third.specs.Living.{heard_in}
use Rattle.st_laws_third.proofs.DemandsSeen.{People}
use Rattle.st_laws_third.proofs.EventWalk.{Client_step, ClientTakes, EventLawOf, ServerTakes, Server_step}
use Rattle.st_laws_third.proofs.Sound.{Sound}
use Rattle.st_laws_leaving.specs.Leavers.{AllGone, AsksKnown, IsGone}
use Rattle.st_laws_leaving.specs.Quiet.{IsQuiet, IsSent, IsTo, Standing}
use Rattle.st_laws_leaving.specs.Serving.{IsCalm}
use Rattle.st_laws_leaving.proofs.Along.{NoLeft, along_fewer}
use Rattle.st_laws_leaving.proofs.Asked.{AsksGrow, IsNew, leave_server, new_asks, new_leave, took_grows}
use Rattle.st_laws_leaving.proofs.BeginsStanding.{begun_quiet, by_node}
use Rattle.st_laws_leaving.proofs.Posts.{lost_sent}
use Rattle.st_laws_leaving.proofs.ServesStanding.{by_server, epoch_same, old_mail, quiet_on, step_post}
use Rattle.st_laws_leaving.proofs.Standing.{twice_other, twice_own}
use Rattle.st_laws_leaving.proofs.TakesGone.{takes_gone}

-- an event that asks nothing of a client
abbrev pub NoAsk : ThirdEvent → Type 0
NoAsk (third.Leave c s) = ⊥
NoAsk (third.Plain (events.App c ask)) = ⊥
NoAsk e = Unit {0}

no_asks : (e : ThirdEvent) → NoAsk e → (n : ℕ) → new_asks n e ≡ []
no_asks (third.Leave c s) k n = absurd k
no_asks (third.Plain (events.App c ask)) k n = absurd k
no_asks (third.Plain p) k n = refl

-- What an event keeps of who has left, and what it adds to the asks.
abbrev pub Kept : ThirdEvent → List ThirdStep → ThirdStep → List Leaver → ThirdWorld → ThirdWorldTurn → Type 0
Kept e past x ls w sc = (AllGone sc.third.world (left_along past x ls sc.seen)) × AsksGrow e w sc.third

abbrev pub KeptWithoutAsk : ThirdEvent → List ThirdStep → ThirdStep → ThirdWorld → ThirdWorldTurn → Type 0
KeptWithoutAsk e past x w sc =
    NoAsk e → Sound w → People w → Standing w.world → AsksKnown past w → (ls : List Leaver) → AllGone w.world ls → Kept e past x ls w sc

-- Nobody leaves.

pub not_left : (os : List Observation) (y : ThirdObservation) → Has y (map every.plain_seen os) → NoLeft y
not_left os y h = let z = has_map every.plain_seen os y h in subst NoLeft (sym z.2) tt

fewer : (past : List ThirdStep) (x : ThirdStep) (ls : List Leaver) (v : World) (os : List Observation) → AllGone v ls →
    AllGone v (left_along past x ls (map every.plain_seen os))
fewer past x ls v os f l h = f l (along_fewer past x ls (map every.plain_seen os) (not_left os) l h)

-- the same servers, and no message more
pub gone_as : (w v : World) (ls : List Leaver) → v.servers ≡ w.servers → ((m : Message) → IsSent v m → IsSent w m) → AllGone w ls → AllGone v ls
gone_as w v ls s sent all l h =
    let g = all l h in
    record {
      low = g.low;
      few = g.few;
      quiet =
          λ node at. let q = g.quiet node (back node at) in record { nothing = q.nothing; harmless = λ up m i t. q.harmless up m (sent m i) t };
      epochs = λ node at m i t. g.epochs node (back node at) m (sent m i) t;
    }
  where
    back : (node : ServerNode) → node_of v l.server ≡ Some node → node_of w l.server ≡ Some node
    back node at = sym (ap (λ xs. numbered xs l.server.0) s) ∙ at

-- the same clients
same_grows : (e : ThirdEvent) (w v : ThirdWorld) → NoAsk e → v.world.clients ≡ w.world.clients → v.besides ≡ w.besides → AsksGrow e w v
same_grows e w v k c d =
    record {
      sites = λ n new q. (new, sym (ap (λ xs. numbered xs n) c) ∙ q, none new.asks ∙ ap (λ ys. new.asks + length ys) (sym (no_asks e k n)));
      besides = λ n new q. (new, sym (ap (λ xs. numbered xs n) d) ∙ q, λ l h. inl h);
    }
  where
    none : (a : ℕ) → a ≡ a + 0
    none a = omega arith

-- A client takes an input.
pub took_kept : (e : ThirdEvent) (past : List ThirdStep) (x : ThirdStep) → x.event ≡ e → (w : ThirdWorld) → Sound w → People w → Standing w.world →
    AsksKnown past w → (c : ClientId) (old site : WorldClient) (b : ClientBeside) (input : ThirdInput) → site_of w.world c ≡ Some old →
    site.node ≡ old.node → beside_of w c ≡ Some b → ClientTakes w c old e site input → site.node.running ≡ true → (ls : List Leaver) → AllGone w.world ls →
    Kept e past x ls w (every.client_took w c site (Client_step w c site b input))
took_kept e past x is w so pe st k c old site b input there same beside why up ls all = (
  takes_gone e w so pe st c old site b input there same beside why up past x (λ l h. leave_server past x w c b k beside l (asked l h)) ls all,
  took_grows e w so pe st c old site b input there same beside why,
)
  where
    asked : (l : Leave) → (Has l b.leaves) ⊎ (heard_in input ≡ Some (HeardLeave l)) → (Has l b.leaves) ⊎ (IsNew w c.0 x.event l)
    asked l (inl h) = inl h
    asked l (inr q) = inr (subst (λ y. IsNew w c.0 y l) (sym is) (new_leave e w so pe st c old site b input there same beside why l q))

-- A server takes an input.
module _ (e : ThirdEvent) (w : ThirdWorld) (so : Sound w) (pe : People w) (st : Standing w.world) (s : ServerId) (node : ServerNode) (input : ServerInput)
    (there : node_of w.world s ≡ Some node) (why : ServerTakes w s e input) (up : node.running ≡ true) where
  abbrev Served : ThirdWorldTurn
  Served = every.as_plain w (ev.server_took w.world s (Ok (Server_step w s node input)))

  served_gone : (ls : List Leaver) → AllGone w.world ls → AllGone Served.third.world ls
  served_gone ls all l h =
      record {
        low = g.low;
        few = g.few;
        quiet =
            λ x at. by_server e w so pe st s node input there why up (λ k y. k ≡ l.server.0 → IsQuiet Served.third.world l.client l.server y)
            (λ i. quiet_on e w so pe st s node input there why up l.client.0 l.server g.few (sym i) (g.quiet node (own i)))
            (λ k y ne q i. other k y (g.quiet y (ap (numbered w.world.servers) (sym i) ∙ q))) l.server.0 x at refl;
        epochs =
            λ x at. by_server e w so pe st s node input there why up
            (λ k y. k ≡ l.server.0 → (m : Message) → IsSent Served.third.world m → IsTo l.client l.server m →
            (IsCalm m.body) ⊎ (m.header.epoch ≤ y.state.stable.epoch.0))
            (λ i m j t. still m (g.epochs node (own i) m (old m j t) t))
            (λ k y ne q i m j t. g.epochs y (ap (numbered w.world.servers) (sym i) ∙ q) m (old m j t) t) l.server.0 x at refl;
      }
    where
      g : IsGone w.world l
      g = all l h

      own : s.0 ≡ l.server.0 → node_of w.world l.server ≡ Some node
      own i = ap (numbered w.world.servers) (sym i) ∙ there

      old : (m : Message) → IsSent Served.third.world m → IsTo l.client l.server m → IsSent w.world m
      old m j t = old_mail e w so pe st s node input there why up l.client.0 m g.few j t.0

      other : (k : ℕ) (y : ServerNode) → IsQuiet w.world l.client l.server y → IsQuiet Served.third.world l.client l.server y
      other k y q = record { nothing = q.nothing; harmless = λ run m j t. q.harmless run m (old m j t) t }

      still : (m : Message) → (IsCalm m.body) ⊎ (m.header.epoch ≤ node.state.stable.epoch.0) →
          (IsCalm m.body) ⊎ (m.header.epoch ≤ (Server_step w s node input).node.state.stable.epoch.0)
      still m (inl y) = inl y
      still m (inr y) = let z = epoch_same e w so pe st s node input there why up in inr (omega (arith, y, z))

-- A server crashes or starts.
module _ (w v : World) (s : ServerId) (node new : ServerNode) (there : node_of w s ≡ Some node) (at_own : numbered v.servers s.0 ≡ Some new)
    (at_other : (k : ℕ) → k ≢ s.0 → numbered v.servers k ≡ numbered w.servers k) (clients : v.clients ≡ w.clients)
    (sent : (m : Message) → IsSent v m → IsSent w m) (id : new.state.id ≡ node.state.id) (rows : new.state.locks.rows ≡ [])
    (waits : new.state.locks.waiters ≡ [])
    (served : new.state.sessions.rows ≡ []) (suspects : new.state.authority.suspects ≡ []) (epoch : node.state.stable.epoch.0 ≤ new.state.stable.epoch.0)
    (risen : new.running ≡ true → node.state.stable.epoch.0 + 1 ≤ new.state.stable.epoch.0) (st : Standing w) (ls : List Leaver) (all : AllGone w ls) where
  begun_gone : AllGone v ls
  begun_gone l h =
      record {
        low = g.low;
        few = g.few;
        quiet =
            λ x at. by_node w v s node new there at_own at_other clients sent id rows waits served suspects epoch risen st
            (λ k y. k ≡ l.server.0 → IsQuiet v l.client l.server y)
            (λ i. begun_quiet w v s node new there at_own at_other clients sent id rows waits served suspects epoch risen st l.client l.server
            (g.epochs node (own i)))
            (λ k y ne q i. other y (g.quiet y (ap (numbered w.servers) (sym i) ∙ q))) l.server.0 x at refl;
        epochs =
            λ x at. by_node w v s node new there at_own at_other clients sent id rows waits served suspects epoch risen st
            (λ k y. k ≡ l.server.0 → (m : Message) → IsSent v m → IsTo l.client l.server m → (IsCalm m.body) ⊎ (m.header.epoch ≤ y.state.stable.epoch.0))
            (λ i m j t. still m (g.epochs node (own i) m (sent m j) t))
            (λ k y ne q i m j t. g.epochs y (ap (numbered w.servers) (sym i) ∙ q) m (sent m j) t) l.server.0 x at refl;
      }
    where
      g : IsGone w l
      g = all l h

      own : s.0 ≡ l.server.0 → node_of w l.server ≡ Some node
      own i = ap (numbered w.servers) (sym i) ∙ there

      other : (y : ServerNode) → IsQuiet w l.client l.server y → IsQuiet v l.client l.server y
      other y q = record { nothing = q.nothing; harmless = λ run m j t. q.harmless run m (sent m j) t }

      still : (m : Message) → (IsCalm m.body) ⊎ (m.header.epoch ≤ node.state.stable.epoch.0) →
          (IsCalm m.body) ⊎ (m.header.epoch ≤ new.state.stable.epoch.0)
      still m (inl y) = inl y
      still m (inr y) = inr (omega (arith, y, epoch))

-- A client crashes or starts.
begun_grows : (e : ThirdEvent) (w v : ThirdWorld) → NoAsk e → Sound w → (c : ClientId) (site new : WorldClient) → site_of w.world c ≡ Some site →
    numbered v.world.clients c.0 ≡ Some new → ((n : ℕ) → n ≢ c.0 → numbered v.world.clients n ≡ numbered w.world.clients n) → new.asks ≡ site.asks →
    (fresh : ClientBeside) → fresh.leaves ≡ [] → v.besides ≡ with_numbered c.0 fresh w.besides → AsksGrow e w v
begun_grows e w v k so c site new there at_own at_other count fresh no_leaves besides =
    record { sites = λ n x q. sites n x q (same_or_not n c.0); besides = λ n x q. with_besides n x q (same_or_not n c.0) }
  where
    low : 1 ≤ c.0
    low = (numbered_below w.world.clients c.0 site there).0

    none : (n a : ℕ) → a ≡ a + length (new_asks n e)
    none n a = let z : a ≡ a + 0 = omega arith in z ∙ ap (λ ys. a + length ys) (sym (no_asks e k n))

    sites : (n : ℕ) (x : WorldClient) → numbered v.world.clients n ≡ Some x → (n ≡ c.0) ⊎ (n ≢ c.0) →
        (old : WorldClient) × (numbered w.world.clients n ≡ Some old) × (x.asks ≡ old.asks + length (new_asks n e))
    sites n x q (inl i) =
        let z : new ≡ x = some_is (sym at_own ∙ ap (numbered v.world.clients) (sym i) ∙ q) in
        (site, ap (numbered w.world.clients) i ∙ there, ap (λ (y : WorldClient). y.asks) (sym z) ∙ count ∙ none n site.asks)
    sites n x q (inr ne) = (x, sym (at_other n ne) ∙ q, none n x.asks)

    with_besides : (n : ℕ) (x : ClientBeside) → numbered v.besides n ≡ Some x → (n ≡ c.0) ⊎ (n ≢ c.0) →
        (old : ClientBeside) × (numbered w.besides n ≡ Some old) × ((l : Leave) → Has l x.leaves → (Has l old.leaves) ⊎ (IsNew w n e l))
    with_besides n x q (inl i) =
        let b = so.fits.there c.0 site there in
        let z : fresh ≡ x = some_is (sym (numbered_own w.besides c.0 fresh b.0 b.1) ∙ ap (λ xs. numbered xs c.0) (sym besides)
        ∙ ap (numbered v.besides) (sym i) ∙ q) in
        (b.0, ap (numbered w.besides) i ∙ b.1, λ l h. absurd (subst (Has l) (ap (λ (y : ClientBeside). y.leaves) (sym z) ∙ no_leaves) h))
    with_besides n x q (inr ne) =
        (x, sym (numbered_other w.besides c.0 n fresh low ne) ∙ ap (λ xs. numbered xs n) (sym besides) ∙ q, λ l h. inl h)

-- Each event that asks nothing.

pub kept_law : (e : ThirdEvent) (past : List ThirdStep) (x : ThirdStep) → x.event ≡ e → EventLawOf e (KeptWithoutAsk e past x)
unfolding ev.advances ev.effects ev.marks ev.crashes_client ev.crashes_server ev.starts_client ev.starts_server every.client_begins every.server_begins
    server.crash
    server.start server.begin_epoch plain.crash plain.start fresh_beside_client
kept_law e past x is =
    record {
      still = λ w n so pe st k ls all. (fewer past x ls w.world [] all, same_grows e w w n refl refl);
      takes =
          λ w c old site b input there same q why r n so pe st k ls all. took_kept e past x is w so pe st k c old site b input there same q why r ls all;
      serves =
          λ w s node input there why up n so pe st k ls all. (
            fewer past x ls _ _ (served_gone e w so pe st s node input there why up ls all),
            same_grows e w _ n (step_post e w so pe st s node input there why up).1 refl,
          );
      loses =
          λ w j m q n so pe st k ls all. (fewer past x ls _ [] (gone_as w.world _ ls refl (lost_sent w.world j m q) all), same_grows e w _ n refl refl);
      cuts = λ w from to n so pe st k ls all. (fewer past x ls _ [] (gone_as w.world _ ls refl (λ m h. h) all), same_grows e w _ n refl refl);
      heals = λ w from to n so pe st k ls all. (fewer past x ls _ [] (gone_as w.world _ ls refl (λ m h. h) all), same_grows e w _ n refl refl);
      advances = λ w steps n so pe st k ls all. (fewer past x ls _ _ (gone_as w.world _ ls refl (λ m h. h) all), same_grows e w _ n refl refl);
      effects = λ w j n so pe st k ls all. (fewer past x ls _ _ (gone_as w.world _ ls refl (λ m h. h) all), same_grows e w _ n refl refl);
      reports = λ w j ok sc which f n so pe st k ls all. reported w j ok sc f n so pe st k ls all;
      client_crashes =
          λ w c site q n so pe st k ls all. let mid : WorldClient = ev.stopped_site site in (
            fewer past x ls _ _ (gone_as w.world _ ls refl (λ m h. h) all),
            begun_grows e w _ n so c site (limited_site w.limits mid) q (twice_own w.world.clients c.0 site mid (limited_site w.limits mid) q)
                (λ j ne. twice_other w.world.clients c.0 j site mid (limited_site w.limits mid) q ne) refl (fresh_beside_client mid.node.state) refl refl,
          );
      server_crashes =
          λ w s node q n so pe st k ls all. let mid : ServerNode = server.crash_node node in (
            fewer past x ls _ []
                (begun_gone w.world _ s node (limited_node w.limits mid) q (twice_own w.world.servers s.0 node mid (limited_node w.limits mid) q)
                (λ j ne. twice_other w.world.servers s.0 j node mid (limited_node w.limits mid) q ne) refl (λ m h. h) refl refl refl refl refl (omega arith)
                (λ r. Words.Truth.false_not_true r) st ls all),
            same_grows e w _ n refl refl,
          );
      client_starts =
          λ w c site q which n so pe st k ls all. let mid : WorldClient = ev.started_site site in (
            fewer past x ls _ [] (gone_as w.world _ ls refl (λ m h. h) all),
            begun_grows e w _ n so c site (limited_site w.limits mid) q (twice_own w.world.clients c.0 site mid (limited_site w.limits mid) q)
                (λ j ne. twice_other w.world.clients c.0 j site mid (limited_site w.limits mid) q ne) refl (fresh_beside_client mid.node.state) refl refl,
          );
      server_starts =
          λ w s node q which n so pe st k ls all. let mid : ServerNode = server.start_node node (clock_of w.world (nodes.Server s)) in (
            fewer past x ls _ []
                (begun_gone w.world _ s node (limited_node w.limits mid) q (twice_own w.world.servers s.0 node mid (limited_node w.limits mid) q)
                (λ j ne. twice_other w.world.servers s.0 j node mid (limited_node w.limits mid) q ne) refl (λ m h. h) refl refl refl refl refl (omega arith)
                (λ r. omega arith) st ls all),
            same_grows e w _ n refl refl,
          );
    }
  where
    reported : (w : ThirdWorld) (j : ℕ) (ok : Words.Bool) (sc : ThirdWorldTurn) → KeptWithoutAsk e past x (every.with_report j ok w) sc →
        KeptWithoutAsk e past x w sc
    reported w j ok sc f n so pe st k ls all =
        let v : ThirdWorld = every.with_report j ok w in
        let z = f n (record { fits = record { sites = so.fits.sites; there = so.fits.there; pairs = so.fits.pairs }; form = so.form })
        (record { asks = pe.asks; ids = pe.ids; servers = pe.servers; few = pe.few })
        (Rattle.st_laws_leaving.proofs.Betweens.standing_as w.world v.world refl refl (λ m i. i) st) (record { count = k.count; leaves = k.leaves }) ls
        (gone_as w.world v.world ls refl (λ m h. h) all) in
        (z.0, record { sites = λ n new q. z.1.sites n new q; besides = λ n new q. besides v n new z.1 q })
      where
        besides : (v : ThirdWorld) (n : ℕ) (new : ClientBeside) → AsksGrow e (every.with_report j ok w) sc.third → numbered sc.third.besides n ≡ Some new →
            (old : ClientBeside) × (numbered w.besides n ≡ Some old) × ((l : Leave) → Has l new.leaves → (Has l old.leaves) ⊎ (IsNew w n e l))
        besides v n new g q = let y = g.besides n new q in (y.0, y.1, λ l h. from y.0 l (y.2 l h))
          where
            from : (o : ClientBeside) (l : Leave) → (Has l o.leaves) ⊎ (IsNew (every.with_report j ok w) n e l) → (Has l o.leaves) ⊎ (IsNew w n e l)
            from o l (inl h) = inl h
            from o l (inr i) = inr (record { site = i.site; there = i.there; number = i.number; is = i.is })

-- An ask of a client that runs.

abbrev pub Asks_it : ThirdWorld → ClientId → WorldClient → ClientBeside → (ℕ → ThirdInput) → ThirdWorldTurn
Asks_it w c old b ask = every.client_took w c (asked_once_more old) (Client_step w c (asked_once_more old) b (ask (old.asks + 1)))

pub asks_it : (w : ThirdWorld) → Sound w → (c : ClientId) (old : WorldClient) → site_of w.world c ≡ Some old → old.node.running ≡ true →
    (ask : ℕ → ThirdInput) (P : ThirdWorldTurn → Type 0) → ((b : ClientBeside) → beside_of w c ≡ Some b → P (Asks_it w c old b ask)) →
    P (every.asks_at w c ask (site_of w.world c))
unfolding every.asks_at every.client_takes every.running_takes every.third_takes
asks_it w so c old there runs ask P p =
    let b = so.fits.there c.0 old there in
    let site : WorldClient = asked_once_more old in
    let i : ThirdInput = ask (old.asks + 1) in
    subst (λ o. P (every.asks_at w c ask o)) (sym there)
    (subst (λ y. P (if y then every.running_takes w c i site else unseen w)) (sym runs)
    (subst (λ y. P (if y then every.third_takes w c i site (beside_of w c) else every.plain_takes w c i site)) (sym so.form)
    (subst (λ o. P (every.third_takes w c i site o)) (sym b.1) (p b.0 b.1))))
