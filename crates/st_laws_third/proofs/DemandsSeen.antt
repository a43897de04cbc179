-- In every run of the third form, demands are seen.
use Rattle.st_lemmas.proofs.Words
use Words.{◌≡◌, ◌≤◌, ◌+◌, ◌-◌, ℕ, zero, suc, ◌==◌, Bool, true, false, ◌||◌, not, List, [], ◌∷◌, find, map, Option, Some, None, is_some, length-map, option_map, refl, sym, ap, ◌∙◌, subst, inl, inr, arith, if◌then◌else◌, eqb-true, eq-eqb, leb-true, le-leb, list_any, slice_get, nat_le}
use Words.{Body, ClientId, Config, GrantNo, Header, HeldLock, Life, Message, Mode, SentMessage, ServerId, Stamp, WorldRefusal}
use Words.bodies
use Words.events
use Words.nodes
use Words.Client as plain
use Words.ClientLocks as locks
use Words.ClientState.{Association, ClientSession, ClientState, is_at}
use Words.Keys.{client, same_server, server_node}
use Words.Lists.{Has}
use Words.Lookups.{some_is}
use Words.Numbers.{numbered_below, numbered_has, numbered_own}
use Words.Tables.{and_both, and_true, found_at, has_map}
use Words.World.{World, WorldClient, clock_of, fresh_site, fresh_world, life_at, message_of, is_running, node_at_start, numbered, server, site_of, site_runs}
use Rattle.st_base.specs.Nodes.{SERVER_BASE}
use Rattle.st_lemmas.proofs.Lengths.{numbers_length}
use Rattle.st_lemmas.proofs.Members.{numbers_between}
use Rattle.st_rules.specs.Extents.{numbers}
use Rattle.st_rules.specs.Events as ev
use Rattle.st_rules.specs.History.{association_at}
use Rattle.st_rules.specs.Server as server_rules
use Rattle.st_rules.specs.declared.client.ClientInput.TheVariants as inputs
use Rattle.st_laws_steps.specs.Client.Losses.{is_ended}
use Rattle.st_laws_steps.specs.Lives.Lives.{Pairwise}
use Rattle.st_laws_steps.proofs.Client.Stepping.{pairs_has}
use Rattle.st_third.specs.declared.event.ThirdEvent.{ThirdEvent}
use Rattle.st_third.specs.declared.event.ThirdEvent.TheVariants as third
use Rattle.st_third.specs.declared.event.ThirdInput.{ThirdInput}
use Rattle.st_third.specs.declared.event.ThirdInput.TheVariants as takes
use Rattle.st_third.specs.declared.limits.Limits.{Limits}
use Rattle.st_third.specs.Client.{client_step}
use Rattle.st_third.specs.Events as every
use Rattle.st_third.specs.Events.{ThirdWorldTurn, third_counted, unseen}
use Rattle.st_third.specs.Limits.{is_third, is_within, limited_association, limited_node, limited_site, most_clients, node_at, with_limits}
use Rattle.st_third.specs.Promises as promises
use Rattle.st_third.specs.Promises.{DemandsAreSeen, ThirdPromise, Throughout, session_at}
use Rattle.st_third.specs.State.{ClientBeside, ThirdClientTurn}
use Rattle.st_third.specs.Steps as steps
use Rattle.st_third.specs.Steps.{ThirdStep, ThirdTraced}
use Rattle.st_third.specs.World as worlds
use Rattle.st_third.specs.World.{ThirdWorld, receiver_of, third_world}
use Rattle.st_laws_third.specs.Demands.{Reaches}
use Rattle.st_laws_third.specs.DemandsSeen.{EveryDemandIsSeen}
use Rattle.st_laws_third.specs.Sessions.{EndsLife, SessionFine, StepsOn}
use Rattle.st_laws_third.proofs.DemandRuns.{answers_demands, runs_there}
use Rattle.st_laws_third.proofs.Mail.{Mailed, mails}
use Rattle.st_laws_third.proofs.Moves.{Becomes, Moved, Rests, Changes, Stepped, Crashed, Started, elsewhere, moves, took_core}
use Rattle.st_laws_third.proofs.ServerWords.{KeptFine, Stamped}
use Rattle.st_laws_third.proofs.Sound.{Sound, apart, numbered_map, sound_after, sound_first}
use Rattle.st_laws_third.proofs.Stepping.{clients_step_on}

-- What holds of the clients of a world: none asks a demand; each has its number, up to 64; and servers are numbered from 1.
pub record People (w : ThirdWorld) : Type 0 where
  pub asks : (n : ℕ) (site : WorldClient) → numbered w.world.clients n ≡ Some site → (a : Association) → Has a site.node.state.associations →
      SessionFine a.session
  pub ids : (n : ℕ) (site : WorldClient) → numbered w.world.clients n ≡ Some site → site.node.state.id.0 ≡ n
  pub servers : (n : ℕ) (site : WorldClient) → numbered w.world.clients n ≡ Some site → (a : Association) → Has a site.node.state.associations → 1 ≤ a.server.0
  pub few : (n : ℕ) (site : WorldClient) → numbered w.world.clients n ≡ Some site → n ≤ 64

-- of one client
record Person (n : ℕ) (site : WorldClient) : Type 0 where
  asks : (a : Association) → Has a site.node.state.associations → SessionFine a.session
  id : site.node.state.id.0 ≡ n
  servers : (a : Association) → Has a site.node.state.associations → 1 ≤ a.server.0

-- A client that begins anew asks nothing, and has the servers from before.
begun_associations : (m : Limits) (f : Association → Association) → ((a : Association) → (f a).session ≡ None) → ((a : Association) → (f a).server ≡ a.server) →
    (as_ : List Association) → ((a : Association) → Has a as_ → 1 ≤ a.server.0) → (b : Association) → Has b (map (limited_association m) (map f as_)) →
    (SessionFine b.session) × (1 ≤ b.server.0)
begun_associations m f n s as_ low b h =
    let x = has_map (limited_association m) (map f as_) b h in
    let y = has_map f as_ x.0 x.1 in
    let z : b ≡ limited_association m (f y.0) = x.2 ∙ ap (limited_association m) y.2 in (
      subst (λ (a : Association). SessionFine a.session) (sym z) (subst SessionFine (sym (n y.0)) tt),
      subst (λ (a : Association). 1 ≤ a.server.0) (sym z) (subst (λ (r : ServerId). 1 ≤ r.0) (sym (s y.0)) (low y.0 y.1)),
    )

module _ (w v : ThirdWorld) (so : Sound w) (p : People w) (c : ClientId) (old new : WorldClient) (d : ClientBeside) (there : site_of w.world c ≡ Some old) where
  becomes_person : Becomes w v c old new d → Person c.0 new
  unfolding plain.crash plain.start
  becomes_person (Stepped b input q t u z) =
      let now : Stamp = clock_of w.world (nodes.Client c) in
      let s = clients_step_on w.limits (record { plain = old.node.state; beside = b }) now input (so.fits.pairs c.0 old b there q)
      (so.fits.sites c.0 old there).fit in
      record {
        asks =
            subst (λ (x : ClientState). (a : Association) → Has a x.associations → SessionFine a.session) (sym u)
            (pairs_has (StepsOn old.node.state.config now) (λ (a : Association). SessionFine a.session) (λ (a : Association). SessionFine a.session)
            (λ a e r. r.asks) _ _ s.associations
            (p.asks c.0 old there));
        id = ap (λ (x : ClientState). x.id.0) u ∙ ap (λ (i : ClientId). i.0) s.id ∙ p.ids c.0 old there;
        servers =
            subst (λ (x : ClientState). (a : Association) → Has a x.associations → 1 ≤ a.server.0) (sym u)
            (pairs_has (StepsOn old.node.state.config now) (λ (a : Association). 1 ≤ a.server.0) (λ (a : Association). 1 ≤ a.server.0)
            (λ a e r h. subst (λ (x : ServerId). 1 ≤ x.0) r.server h) _ _ s.associations (p.servers c.0 old there));
      }
  becomes_person (Crashed u z) =
      let g = begun_associations w.limits plain.crashed_association (λ a. refl) (λ a. refl) old.node.state.associations (p.servers c.0 old there) in
      record {
        asks = subst (λ (x : ClientState). (a : Association) → Has a x.associations → SessionFine a.session) (sym u) (λ a h. (g a h).0);
        id = ap (λ (x : ClientState). x.id.0) u ∙ p.ids c.0 old there;
        servers = subst (λ (x : ClientState). (a : Association) → Has a x.associations → 1 ≤ a.server.0) (sym u) (λ a h. (g a h).1);
      }
  becomes_person (Started u z) =
      let g = begun_associations w.limits plain.started_association (λ a. refl) (λ a. refl) old.node.state.associations (p.servers c.0 old there) in
      record {
        asks = subst (λ (x : ClientState). (a : Association) → Has a x.associations → SessionFine a.session) (sym u) (λ a h. (g a h).0);
        id = ap (λ (x : ClientState). x.id.0) u ∙ p.ids c.0 old there;
        servers = subst (λ (x : ClientState). (a : Association) → Has a x.associations → 1 ≤ a.server.0) (sym u) (λ a h. (g a h).1);
      }

pub people_after : (w v : ThirdWorld) → Sound w → People w → Moved w v → People v
people_after w v so p (Rests q k r) =
    record {
      asks = λ n site e. p.asks n site (sym (ap (λ xs. numbered xs n) q) ∙ e);
      ids = λ n site e. p.ids n site (sym (ap (λ xs. numbered xs n) q) ∙ e);
      servers = λ n site e. p.servers n site (sym (ap (λ xs. numbered xs n) q) ∙ e);
      few = λ n site e. p.few n site (sym (ap (λ xs. numbered xs n) q) ∙ e);
    }
people_after w v so p (Changes c old new d there k own others x y b) =
    record {
      asks = λ n site e. (person n site e (n == c.0) refl).asks;
      ids = λ n site e. (person n site e (n == c.0) refl).id;
      servers = λ n site e. (person n site e (n == c.0) refl).servers;
      few = λ n site e. few n site e (n == c.0) refl;
    }
  where
    person : (n : ℕ) (site : WorldClient) → numbered v.world.clients n ≡ Some site → (r : Bool) → (n == c.0) ≡ r → Person n site
    person n site e true r =
        let i = eqb-true n c.0 r in
        subst (λ z. Person z site) (sym i)
        (subst (Person c.0) (some_is (sym own ∙ sym (ap (numbered v.world.clients) i) ∙ e)) (becomes_person w v so p c old new d there b))
    person n site e false r =
        let f = sym (others n (apart n c.0 r)) ∙ e in record { asks = p.asks n site f; id = p.ids n site f; servers = p.servers n site f }

    few : (n : ℕ) (site : WorldClient) → numbered v.world.clients n ≡ Some site → (r : Bool) → (n == c.0) ≡ r → n ≤ 64
    few n site e true r = subst (λ z. z ≤ 64) (sym (eqb-true n c.0 r)) (p.few c.0 old there)
    few n site e false r = p.few n site (sym (others n (apart n c.0 r)) ∙ e)

-- A lease that was over, and a life that did not rise, do not go together.

life_found : (k : Config) (now : Stamp) (s : ServerId) (as_ bs : List Association) → Pairwise (StepsOn k now) as_ bs → Pairwise (EndsLife k now) as_ bs →
    (a : Association) → find (is_at s) as_ ≡ Some a → is_ended k now a.session ≡ true → a.life.0 + 1 ≤ (life_at (find (is_at s) bs)).0
life_found k now s [] bs p q a e f = absurd (no e)
  where
    no : ◌≡◌ {A = Option Association} None (Some a) → ⊥
    no q = cc
life_found k now s (x ∷ xs) [] p q a e f = absurd p
life_found k now s (x ∷ xs) (y ∷ ys) p q a e f = go (is_at s x) (is_at s y) (ap (λ z. same_server z s) p.one.server) e
    (life_found k now s xs ys p.rest q.rest a)
  where
    go : (b c : Bool) → b ≡ c → (if b then Some x else find (is_at s) xs) ≡ Some a →
        (find (is_at s) xs ≡ Some a → is_ended k now a.session ≡ true → a.life.0 + 1 ≤ (life_at (find (is_at s) ys)).0) →
        a.life.0 + 1 ≤ (life_at (if c then Some y else find (is_at s) ys)).0
    go true true i e r =
        subst (λ (z : Association). z.life.0 + 1 ≤ y.life.0) (some_is e)
        (q.one (subst (λ (z : Association). is_ended k now z.session ≡ true) (sym (some_is e)) f))
    go false false i e r = r e f
    go true false i e r = cc i
    go false true i e r = cc i

-- At the start.

pub numbers_get : (a count n i : ℕ) → slice_get (numbers a count) n ≡ Some i → i ≡ a + n
unfolding numbers
numbers_get a zero n i e = cc e
numbers_get a (suc count) zero i e = let z = some_is e in omega (arith, z)
numbers_get a (suc count) (suc n) i e = let z = numbers_get (a + 1) count n i e in omega (arith, z)

pub within_most : (low high n : ℕ) → is_within low high n ≡ true → n ≤ high
within_most low high n e = leb-true n high (and_true (nat_le low n) (nat_le n high) e).1

pub people_first : (k : Config) (m : Limits) (clients servers disks blocks : ℕ) → clients ≤ 64 → People (third_world k m clients servers disks blocks 3)
unfolding third_world fresh_world with_limits plain.fresh_client
people_first k m clients servers disks blocks most =
    record {
      asks = λ n site e a h. (person n site e).1.asks a h;
      ids = λ n site e. (person n site e).1.id;
      servers = λ n site e a h. (person n site e).1.servers a h;
      few = λ n site e. (person n site e).0;
    }
  where
    v : World
    v = fresh_world k clients servers disks blocks 3

    -- the client of a number
    fresh_is : (n : ℕ) (x : WorldClient) → numbered v.clients n ≡ Some x → (n ≤ clients) × (x ≡ fresh_site k servers n)
    fresh_is zero x q = cc q
    fresh_is (suc n) x q =
        let i = (numbered_below (map (fresh_site k servers) (numbers 1 clients)) (suc n) x q).1 in
        let l = length-map (numbers 1 clients) (fresh_site k servers) ∙ numbers_length 1 clients in
        (omega (arith, i, l), go (slice_get (numbers 1 clients) n) refl (sym (numbered_map (fresh_site k servers) (numbers 1 clients) (suc n)) ∙ q))
      where
        go : (o : Option ℕ) → slice_get (numbers 1 clients) n ≡ o → option_map (fresh_site k servers) o ≡ Some x → x ≡ fresh_site k servers (suc n)
        go None j e = cc e
        go (Some y) j e = sym (some_is e) ∙ ap (fresh_site k servers) (let z = numbers_get 1 clients n y j in omega (arith, z))

    person : (n : ℕ) (site : WorldClient) → numbered (map (limited_site m) v.clients) n ≡ Some site → (n ≤ 64) × (Person n site)
    person n site e = at (numbered v.clients n) refl (sym (numbered_map (limited_site m) v.clients n) ∙ e)
      where
        low : (a : Association) → Has a (map (limited_association m) (map plain.fresh_association (numbers 1 servers))) →
            (SessionFine a.session) × (1 ≤ a.server.0)
        low a h =
            let x = has_map (limited_association m) (map plain.fresh_association (numbers 1 servers)) a h in
            let y = has_map plain.fresh_association (numbers 1 servers) x.0 x.1 in
            let z : a ≡ limited_association m (plain.fresh_association y.0) = x.2 ∙ ap (limited_association m) y.2 in (
              subst (λ (b : Association). SessionFine b.session) (sym z) tt,
              subst (λ (b : Association). 1 ≤ b.server.0) (sym z) (numbers_between 1 servers y.0 y.1).0,
            )

        at : (o : Option WorldClient) → numbered v.clients n ≡ o → option_map (limited_site m) o ≡ Some site → (n ≤ 64) × (Person n site)
        at None q r = cc r
        at (Some x) q r =
            let f = fresh_is n x q in
            let i = f.0 in (
              omega (arith, i, most),
              subst (Person n) (ap (limited_site m) (sym f.1) ∙ some_is r)
                  (record { asks = λ a h. (low a h).0; id = refl; servers = λ a h. (low a h).1 }),
            )

-- A demand that is heard.

any_has : {A : Type 0} (f : A → Bool) (xs : List A) (y : A) → Has y xs → f y ≡ true → list_any f xs ≡ true
any_has f [] y h e = absurd h
any_has f (x ∷ xs) y (inl q) e = ap (λ b. b || list_any f xs) (ap f (sym q) ∙ e)
any_has f (x ∷ xs) y (inr h) e = or_true (f x) (list_any f xs) (any_has f xs y h e)
  where
    or_true : (a b : Bool) → b ≡ true → a || b ≡ true
    or_true true b e = refl
    or_true false b e = e

-- what is heard: a client, an association and its session
record Unheld (w : ThirdWorld) (h : Header) (ino : ℕ) (c : ClientId) (s : ServerId) : Type 0 where
  site : WorldClient
  there : site_of w.world c ≡ Some site
  association : Association
  found : find (is_at s) site.node.state.associations ≡ Some association
  session : ClientSession
  is : association.session ≡ Some session
  epoch : h.epoch ≡ session.epoch.0
  free : locks.lock_of session.locks ino ≡ None

unheld : (w : ThirdWorld) (h : Header) (ino : ℕ) (c : ClientId) (s : ServerId) → promises.is_unheld_in h ino (promises.session_of w.world c s) ≡ true →
    Unheld w h ino c s
unheld w h ino c s e = of_site (site_of w.world c) refl e
  where
    none : (o : Option HeldLock) → not (is_some o) ≡ true → o ≡ None
    none None q = refl
    none (Some l) q = cc q

    of_session : (site : WorldClient) → site_of w.world c ≡ Some site → (a : Association) → find (is_at s) site.node.state.associations ≡ Some a →
        (o : Option ClientSession) → a.session ≡ o → promises.is_unheld_in h ino o ≡ true → Unheld w h ino c s
    of_session site t a f None q r = cc r
    of_session site t a f (Some x) q r =
        let z = and_true (x.epoch.0 == h.epoch) (not (is_some (locks.lock_of x.locks ino))) r in
        record {
          site = site;
          there = t;
          association = a;
          found = f;
          session = x;
          is = q;
          epoch = sym (eqb-true x.epoch.0 h.epoch z.0);
          free =
              none (locks.lock_of x.locks ino) z.1;
        }

    of_association : (site : WorldClient) → site_of w.world c ≡ Some site → (o : Option Association) → find (is_at s) site.node.state.associations ≡ o →
        promises.is_unheld_in h ino (session_at o) ≡ true → Unheld w h ino c s
    of_association site t None q r = cc r
    of_association site t (Some a) q r = of_session site t a q a.session refl r

    of_site : (o : Option WorldClient) → site_of w.world c ≡ o → promises.is_unheld_in h ino (session_at (association_at s o)) ≡ true → Unheld w h ino c s
    of_site None q r = cc r
    of_site (Some site) q r = of_association site q (find (is_at s) site.node.state.associations) refl r

-- The client takes the message.
module _ (w : ThirdWorld) (so : Sound w) (c : ClientId) (site : WorldClient) (there : site_of w.world c ≡ Some site) (runs : site.node.running ≡ true)
    (message : Message) where
  abbrev pub Input : ThirdInput
  Input = takes.Plain (inputs.Control message)

  abbrev pub Beside : ClientBeside
  Beside = (so.fits.there c.0 site there).0

  abbrev pub Taken : ThirdClientTurn
  Taken = client_step w.limits (every.third_client site Beside) (clock_of w.world (nodes.Client c)) Input

  pub delivered_is : every.delivers_to w message (nodes.Client c) ≡ every.client_took w c site Taken
  unfolding every.delivers_to every.at_client every.client_takes every.running_takes every.third_takes
  delivered_is =
      ap (every.at_client w c Input) there
      ∙ (ap (λ x. if x then every.running_takes w c Input site else unseen w) runs
      ∙ (ap (λ x. if x then every.third_takes w c Input site (worlds.beside_of w c) else every.plain_takes w c Input site) so.form
      ∙ ap (every.third_takes w c Input site) (so.fits.there c.0 site there).1))

  site_after : site_of (every.delivers_to w message (nodes.Client c)).third.world c ≡ Some (ev.at_node (record site.node { state = Taken.client.plain }) site)
  site_after =
      ap (λ (sc : ThirdWorldTurn). site_of sc.third.world c) delivered_is
      ∙ (ap (λ x. numbered x.plain.clients c.0) (took_core w c site Taken) ∙ numbered_own w.world.clients c.0 _ site there)

  -- a lease that is over ends the life
  rises : (s : ServerId) (a : Association) → find (is_at s) site.node.state.associations ≡ Some a →
      is_ended site.node.state.config (clock_of w.world (nodes.Client c)) a.session ≡ true →
      a.life.0 + 1 ≤ (promises.life_of (every.delivers_to w message (nodes.Client c)).third.world c s).0
  rises s a f e =
      let now : Stamp = clock_of w.world (nodes.Client c) in
      let z = clients_step_on w.limits (every.third_client site Beside) now Input (so.fits.pairs c.0 site Beside there (so.fits.there c.0 site there).1)
      (so.fits.sites c.0 site there).fit in
      subst (λ (x : Life). a.life.0 + 1 ≤ x.0) (sym (ap (promises.life_at s) site_after))
      (life_found site.node.state.config now s _ _ z.associations z.over a f e)

receiver_is : (form n : ℕ) → is_third form ≡ true → n ≤ 64 → node_at form n ≡ nodes.Client (client n)
unfolding node_at most_clients
receiver_is form n f l =
    ap (λ b. if nat_le n (if b then 64 else 16) then nodes.Client (client n) else nodes.Server (server (n - SERVER_BASE))) f
    ∙ ap (λ b. if b then nodes.Client (client n) else nodes.Server (server (n - SERVER_BASE))) (le-leb n 64 l)

from_is : (n m : ℕ) → m ≡ n - 32768 → 1 ≤ m → n ≡ 32768 + m
from_is n m e l = omega (arith, e, l)

module _ (t : ThirdTraced) (past : List ThirdStep) (k : ℕ) (so : Sound t.third) (ma : Mailed t.third) (p : People t.third)
    (q : worlds.refusal t.third (third.Plain (events.Deliver k)) ≡ None)
    (mv : Moved t.third (every.happens (third_counted t.third) (third.Plain (events.Deliver k))).third)
    (sent : SentMessage) (found : message_of t.third.world k ≡ Some sent) where
  abbrev W : ThirdWorld
  W = third_counted t.third

  abbrev X : ThirdStep
  X = steps.third_step t (third.Plain (events.Deliver k)) (every.happens W (third.Plain (events.Deliver k)))

  abbrev H : Header
  H = sent.message.header

  same_sound : Sound W
  same_sound = record { fits = record { sites = so.fits.sites; there = so.fits.there; pairs = so.fits.pairs }; form = so.form }

  happens_is : receiver_of W.world sent ≡ nodes.Client (client H.to) →
      every.happens W (third.Plain (events.Deliver k)) ≡ every.delivers_to W sent.message (nodes.Client (client H.to))
  unfolding every.happens every.plain_happens every.delivers
  happens_is r = ap (every.delivers W) found ∙ ap (every.delivers_to W sent.message) r

  module _ (ino : ℕ) (g : GrantNo) (to : Mode) (is : sent.message.body ≡ bodies.Demand ino g to) where
    heard_is_answered : promises.is_heard X H ino (client H.to) (promises.server_from H) ≡ true → list_any (promises.answers_demand H ino g) X.seen ≡ true
    heard_is_answered r =
        let c : ClientId = client H.to in
        let s : ServerId = promises.server_from H in
        let parts = and_true _ _ r in
        let lives = and_true _ _ parts.0 in
        let u = unheld t.third H ino c s parts.1 in
        let a : Association = u.association in
        let here = found_at (is_at s) u.site.node.state.associations a u.found in
        let from : H.from ≡ server_node a.server = from_is H.from a.server.0 (eqb-true a.server.0 s.0 here.0) (p.servers H.to u.site u.there a here.1) in
        let named : u.site.node.state.id.0 ≡ H.to = p.ids H.to u.site u.there in
        let receiver : receiver_of t.third.world sent ≡ nodes.Client c = receiver_is t.third.world.form H.to so.form (p.few H.to u.site u.there) in
        let runs : u.site.node.running ≡ true = sym (ap site_runs u.there) ∙
        (sym (ap (is_running t.third.world) receiver) ∙ runs_there t.third k sent found q) in
        let life : H.life ≡ a.life.0 =
        sym (eqb-true (promises.life_of t.third.world c s).0 H.life lives.0) ∙ ap (λ (x : Life). x.0) (ap (promises.life_at s) u.there ∙ ap life_at u.found) in
        let stamp : H.stamp ≡ 0 = subst (λ b. Stamped H.stamp b) is (ma.mail sent (numbered_has t.third.world.net.messages k sent found)) in
        let after : (promises.life_of X.after.third.world c s).0 ≡ H.life = eqb-true (promises.life_of X.after.third.world c s).0 H.life lives.1 in
        let now : Stamp = clock_of t.third.world (nodes.Client c) in
        let lasts : is_ended u.site.node.state.config now a.session ≡ false =
        not_over (is_ended u.site.node.state.config now a.session) (λ e.
        let i = rises W same_sound c u.site u.there runs sent.message s a u.found e in
        let j : (promises.life_of (every.delivers_to W sent.message (nodes.Client c)).third.world c s).0 ≡ H.life =
        ap (λ (sc : ThirdWorldTurn). (promises.life_of sc.third.world c s).0) (sym (happens_is receiver)) ∙ after in
        above _ _ _ i j life) in
        let reach : Reaches u.site.node.state now H a u.session =
        record { here = sym named; there = here.1; from = from; life = life; stamp = least H.stamp now.0 stamp; session = u.is; lasts = lasts; epoch = u.epoch }
        in
        let result = answers_demands past t (third.Plain (events.Deliver k)) so q mv k sent c u.site ino g to a u.session refl found is receiver u.there reach
        (λ l e. absurd (none l (sym u.free ∙ e))) in
        any_has (promises.answers_demand H ino g) X.seen _ result.1
        (and_both _ _ (and_both _ _ (eq-eqb u.site.node.state.id.0 H.to named) (eq-eqb (server_node a.server) H.from (sym from)))
        (and_both _ _ (eq-eqb ino ino refl) (eq-eqb g.0 g.0 refl)))
      where
        none : (l : HeldLock) → ◌≡◌ {A = Option HeldLock} None (Some l) → ⊥
        none l e = cc

        not_over : (b : Bool) → (b ≡ true → ⊥) → b ≡ false
        not_over true f = absurd (f refl)
        not_over false f = refl

        above : (x y z : ℕ) → x + 1 ≤ y → y ≡ z → z ≡ x → ⊥
        above x y z i j l = omega (arith, i, j, l)

        least : (x y : ℕ) → x ≡ 0 → x ≤ y
        least x y e = omega (arith, e)

    demand_is_seen : promises.is_demand_seen X H (bodies.Demand ino g to) ≡ true
    demand_is_seen = go (promises.is_heard X H ino (client H.to) (promises.server_from H)) refl
      where
        go : (b : Bool) → promises.is_heard X H ino (client H.to) (promises.server_from H) ≡ b →
            not b || list_any (promises.answers_demand H ino g) X.seen ≡ true
        go true r = heard_is_answered r
        go false r = refl

  body_is_seen : (b : Body) → sent.message.body ≡ b → promises.is_demand_seen X H b ≡ true
  body_is_seen (bodies.Demand ino g to) e = demand_is_seen ino g to e
  body_is_seen b e = refl

step_sees : (past : List ThirdStep) (t : ThirdTraced) (e : ThirdEvent) → Sound t.third → Mailed t.third → People t.third → worlds.refusal t.third e ≡ None →
    Moved t.third (every.happens (third_counted t.third) e).third → DemandsAreSeen past (steps.third_step t e (every.happens (third_counted t.third) e))
step_sees past t (third.Plain (events.Deliver k)) so ma p q mv = go (message_of t.third.world k) refl
  where
    go : (o : Option SentMessage) → message_of t.third.world k ≡ o →
        promises.is_answered (steps.third_step t (third.Plain (events.Deliver k)) (every.happens (third_counted t.third) (third.Plain (events.Deliver k))))
        (promises.message_at o) ≡ true
    go None e = refl
    go (Some sent) e = body_is_seen t past k so ma p q mv sent e sent.message.body refl
step_sees past t (third.Plain (events.Tick n)) so ma p q mv = refl
step_sees past t (third.Plain (events.App c ask)) so ma p q mv = refl
step_sees past t (third.Plain (events.Lose k)) so ma p q mv = refl
step_sees past t (third.Plain (events.Cut a b)) so ma p q mv = refl
step_sees past t (third.Plain (events.Heal a b)) so ma p q mv = refl
step_sees past t (third.Plain (events.Advance ds)) so ma p q mv = refl
step_sees past t (third.Plain (events.Effect k)) so ma p q mv = refl
step_sees past t (third.Plain (events.Report k ok)) so ma p q mv = refl
step_sees past t (third.Plain (events.Crash n)) so ma p q mv = refl
step_sees past t (third.Plain (events.Start n)) so ma p q mv = refl
step_sees past t (third.Leave c s) so ma p q mv = refl

-- Over a run: a promise holds throughout, if it is kept at each step from a world in which all this holds, and what else each event keeps.
module _ (more : ThirdWorld → Type 0) (after : (w v : ThirdWorld) → Sound w → more w → Moved w v → more v) (promise : ThirdPromise)
    (one : (past : List ThirdStep) (t : ThirdTraced) (e : ThirdEvent) → Sound t.third → Mailed t.third → People t.third → more t.third →
    worlds.refusal t.third e ≡ None → Moved t.third (every.happens (third_counted t.third) e).third →
    promise past (steps.third_step t e (every.happens (third_counted t.third) e))) where
  -- over these events, from wherever they begin
  abbrev Goes_on : List ThirdEvent → Type 0
  Goes_on es =
      (past : List ThirdStep) (t : ThirdTraced) → Sound t.third → Mailed t.third → People t.third → more t.third → Throughout promise past (steps.steps es t)

  pub mail_throughout : (es : List ThirdEvent) → Goes_on es
  unfolding Throughout steps.steps steps.steps_on every.world_step every.world_by
  mail_throughout [] past t so ma p x = tt
  mail_throughout (e ∷ es) past t so ma p x = go (mail_throughout es) (worlds.refusal t.third e) refl
    where
      go : Goes_on es → (r : Option WorldRefusal) → worlds.refusal t.third e ≡ r →
          Throughout promise past (steps.steps_on (steps.steps es) t e (every.world_by t.third e r))
      go rest (Some r) q = tt
      go rest None q =
          let w : ThirdWorld = third_counted t.third in
          let sc : ThirdWorldTurn = every.happens w e in
          let same : Sound w = record { fits = record { sites = so.fits.sites; there = so.fits.there; pairs = so.fits.pairs }; form = so.form } in
          let mv : Moved t.third sc.third = elsewhere t.third w sc.third refl refl (moves w e so.form) in (
            one past t e so ma p x q mv,
            rest _ (steps.traced_after e t sc) (sound_after t.third sc.third so mv) (mails w e same (record { mail = ma.mail; kept = ma.kept }) p.asks)
                (people_after t.third sc.third so p mv) (after t.third sc.third so x mv),
          )

pub mailed_first : (k : Config) (m : Limits) (clients servers disks blocks : ℕ) → Mailed (third_world k m clients servers disks blocks 3)
unfolding third_world fresh_world with_limits server_rules.fresh_server
mailed_first k m clients servers disks blocks = record { mail = λ x h. absurd h; kept = kept }
  where
    kept : (n : ℕ) (node : server_rules.ServerNode) →
        numbered (map (limited_node m) (map (node_at_start k servers disks blocks) (numbers 1 servers))) n ≡ Some node → KeptFine node.state.sessions
    kept n node e =
        let x = has_map (limited_node m) (map (node_at_start k servers disks blocks) (numbers 1 servers)) node (numbered_has _ n node e) in
        let y = has_map (node_at_start k servers disks blocks) (numbers 1 servers) x.0 x.1 in
        subst (λ (z : server_rules.ServerNode). KeptFine z.state.sessions) (sym (x.2 ∙ ap (limited_node m) y.2)) (λ s h. absurd h)

pub every_demand_is_seen : EveryDemandIsSeen
unfolding most_clients
every_demand_is_seen k m clients servers disks blocks es h =
    mail_throughout (λ w. Unit {0}) (λ w v so x mv. tt) DemandsAreSeen (λ past t e so ma p x q mv. step_sees past t e so ma p q mv) es []
    (steps.third_traced (third_world k m clients servers disks blocks 3)) (sound_first k m clients servers disks blocks)
    (mailed_first k m clients servers disks blocks) (people_first k m clients servers disks blocks (within_most 1 64 clients h.some_clients)) tt
