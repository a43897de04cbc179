-- What is between clients and servers holds at the start of a run of the third form, and so after each of its events.
use Rattle.st_lemmas.proofs.Words
use Words.{◌≡◌, ◌≢◌, ◌+◌, ℕ, zero, suc, true, List, [], ◌∷◌, ◌++◌, map, option_map, Option, Some, None, refl, sym, ap, ◌∙◌, subst, arith, slice_get}
use Words.{ClientId, Config, Message, Session, WorldRefusal}
use Words.Client as plain
use Words.ClientState.{Association, ClientSession}
use Words.Lists.{Has}
use Words.Lookups.{some_is}
use Words.Numbers.{numbered_has}
use Words.Server as server
use Words.Server.{ServerNode}
use Words.Sessions.{session_of}
use Words.Tables.{has_map}
use Words.Truth.{none_not_some}
use Words.World.{World, WorldClient, fresh_site, fresh_world, node_at_start, node_of, numbered, site_of}
use Rattle.st_lemmas.proofs.Members.{numbers_between}
use Rattle.st_rules.specs.Extents.{numbers}
use Rattle.st_third.specs.declared.event.ThirdEvent.{ThirdEvent}
use Rattle.st_third.specs.declared.limits.Limits.{Limits}
use Rattle.st_third.specs.Events as every
use Rattle.st_third.specs.Events.{ThirdWorldTurn, third_counted}
use Rattle.st_third.specs.Limits.{limited_association, limited_node, limited_site, with_limits}
use Rattle.st_third.specs.Promises.{ThirdPromise, Throughout}
use Rattle.st_third.specs.Steps as steps
use Rattle.st_third.specs.Steps.{ThirdStep, ThirdTraced}
use Rattle.st_third.specs.World as worlds
use Rattle.st_third.specs.World.{ThirdWorld, third_world}
use Rattle.st_laws_third.proofs.DemandsSeen.{People, people_after, people_first, within_most}
use Rattle.st_laws_third.proofs.Moves.{Moved, elsewhere, moves}
use Rattle.st_laws_third.proofs.Sound.{Sound, numbered_map, sound_after, sound_first}
use Rattle.st_laws_leaving.specs.Going.{Apart, IsNumbered, Unasked}
use Rattle.st_laws_leaving.specs.Quiet.{AtClient, AtServer, Between, HasBegun, IsSent, OnItsWay, Standing, UnaskedHaveNothing, WhoAskedNothingHasNothing}
use Rattle.st_laws_leaving.specs.Serving.{HasNothing, IsServing}
use Rattle.st_laws_leaving.proofs.Betweens.{standing_as}
use Rattle.st_laws_leaving.proofs.Standing.{stands_on}

numbers_get : (a count n i : ℕ) → slice_get (numbers a count) n ≡ Some i → i ≡ a + n
unfolding numbers
numbers_get a zero n i e = absurd (none_not_some i e)
numbers_get a (suc count) zero i e = let z = some_is e in omega (arith, z)
numbers_get a (suc count) (suc n) i e = let z = numbers_get (a + 1) count n i e in omega (arith, z)

-- The servers of a client are apart at the start.
apart_first : (m : Limits) (a count : ℕ) → Apart (map (limited_association m) (map plain.fresh_association (numbers a count)))
unfolding numbers
apart_first m a zero = tt
apart_first m a (suc count) = record { first = first; rest = apart_first m (a + 1) count }
  where
    first : (d : Association) → Has d (map (limited_association m) (map plain.fresh_association (numbers (a + 1) count))) → d.server.0 ≢ a
    first d h e =
        let y = has_map (limited_association m) (map plain.fresh_association (numbers (a + 1) count)) d h in
        let z = has_map plain.fresh_association (numbers (a + 1) count) y.0 y.1 in
        let l = (numbers_between (a + 1) count z.0 z.1).0 in
        let i : d.server.0 ≡ z.0 = ap (λ (x : Association). x.server.0) (y.2 ∙ ap (limited_association m) z.2) in omega (arith, l, i, e)

module _ (k : Config) (m : Limits) (clients servers disks blocks : ℕ) where
  abbrev W : World
  W = (third_world k m clients servers disks blocks 3).world

  abbrev V : World
  V = fresh_world k clients servers disks blocks 3

  first_clients : W.clients ≡ map (limited_site m) (map (fresh_site k servers) (numbers 1 clients))
  unfolding third_world fresh_world with_limits
  first_clients = refl

  first_servers : W.servers ≡ map (limited_node m) (map (node_at_start k servers disks blocks) (numbers 1 servers))
  unfolding third_world fresh_world with_limits
  first_servers = refl

  no_messages : W.net.messages ≡ []
  unfolding third_world fresh_world with_limits
  no_messages = refl

  none_sent : (x : Message) → IsSent W x → ⊥
  none_sent x h = subst (Has h.0) no_messages h.1.0

  pub client_is : (n : ℕ) (site : WorldClient) → numbered W.clients n ≡ Some site → (i : ℕ) × (site ≡ limited_site m (fresh_site k servers i))
  client_is n site e =
      let x = has_map (limited_site m) (map (fresh_site k servers) (numbers 1 clients)) site (subst (Has site) first_clients (numbered_has W.clients n site e))
      in
      let y = has_map (fresh_site k servers) (numbers 1 clients) x.0 x.1 in (y.0, x.2 ∙ ap (limited_site m) y.2)

  server_is : (n : ℕ) (node : ServerNode) → numbered W.servers n ≡ Some node → node ≡ limited_node m (node_at_start k servers disks blocks n)
  server_is zero node e = absurd (none_not_some node e)
  server_is (suc n) node e = go (slice_get (numbers 1 servers) n) refl (sym same ∙ e)
    where
      same : numbered W.servers (suc n) ≡ option_map (limited_node m) (option_map (node_at_start k servers disks blocks) (slice_get (numbers 1 servers) n))
      same =
          ap (λ xs. numbered xs (suc n)) first_servers
          ∙ numbered_map (limited_node m) (map (node_at_start k servers disks blocks) (numbers 1 servers)) (suc n)
          ∙ ap (option_map (limited_node m)) (numbered_map (node_at_start k servers disks blocks) (numbers 1 servers) (suc n))

      go : (o : Option ℕ) → slice_get (numbers 1 servers) n ≡ o →
          option_map (limited_node m) (option_map (node_at_start k servers disks blocks) o) ≡ Some node →
          node ≡ limited_node m (node_at_start k servers disks blocks (suc n))
      go None q r = absurd (none_not_some node r)
      go (Some y) q r =
          let i : y ≡ suc n = let z = numbers_get 1 servers n y q in omega (arith, z) in
          sym (some_is r) ∙ ap (λ j. limited_node m (node_at_start k servers disks blocks j)) i

  fresh_serving : (n : ℕ) → IsServing (limited_node m (node_at_start k servers disks blocks n)).state
  unfolding server.fresh_server
  fresh_serving n = record { rows = λ r h. absurd h; waits = λ w h. absurd h; kept = λ x h. absurd h }

  fresh_session : (n : ℕ) (c : ClientId) → session_of (limited_node m (node_at_start k servers disks blocks n)).state.sessions c ≡ None
  unfolding server.fresh_server
  fresh_session n c = refl

  fresh_id : (n : ℕ) → (limited_node m (node_at_start k servers disks blocks n)).state.id.0 ≡ n
  unfolding server.fresh_server
  fresh_id n = refl

  fresh_apart : (i : ℕ) → Apart (limited_site m (fresh_site k servers i)).node.state.associations
  unfolding plain.fresh_client
  fresh_apart i = apart_first m 1 servers

  fresh_none : (i : ℕ) (a : Association) → Has a (limited_site m (fresh_site k servers i)).node.state.associations → a.session ≡ None
  unfolding plain.fresh_client
  fresh_none i a h =
      let x = has_map (limited_association m) (map plain.fresh_association (numbers 1 servers)) a h in
      let y = has_map plain.fresh_association (numbers 1 servers) x.0 x.1 in ap (λ (z : Association). z.session) (x.2 ∙ ap (limited_association m) y.2)

  no_session : (n : ℕ) (site : WorldClient) → numbered W.clients n ≡ Some site → (a : Association) → Has a site.node.state.associations → a.session ≡ None
  no_session n site e a h =
      let z = client_is n site e in fresh_none z.0 a (subst (λ (x : WorldClient). Has a x.node.state.associations) z.1 h)

  pub standing_first : Standing W
  standing_first =
      record {
        apart = λ n site e. let z = client_is n site e in subst (λ (x : WorldClient). Apart x.node.state.associations) (sym z.1) (fresh_apart z.0);
        requests = λ n site e a h. subst IsNumbered (sym (no_session n site e a h)) tt;
        ids = λ n node e. ap (λ (x : ServerNode). x.state.id.0) (server_is n node e) ∙ fresh_id n;
        serving = λ n node e. subst (λ (x : ServerNode). IsServing x.state) (sym (server_is n node e)) (fresh_serving n);
        epochs = λ n node e x h f. absurd (none_sent x h);
        between = λ n site a node e h i. between n site a node e h i;
      }
    where
      between : (n : ℕ) (site : WorldClient) (a : Association) (node : ServerNode) → numbered W.clients n ≡ Some site → Has a site.node.state.associations →
          numbered W.servers a.server.0 ≡ Some node → Between W (record { 0 = n }) site a node
      between n site a node e h i =
          record {
            lives = λ x j t. absurd (none_sent x j);
            epochs = λ x j t ne. absurd (none_sent x j);
            session = λ u q. absurd (none_not_some u (sym (no_session n site e a h) ∙ q));
            served = λ x q. absurd (nobody x q);
            welcomes = λ x j f t q. absurd (none_sent x j);
            calm = λ r u x j t l. absurd (none_sent x j);
            quiet = λ r u g. absurd (begun g);
          }
        where
          nobody : (x : Session) → session_of node.state.sessions (record { 0 = n }) ≡ Some x → ⊥
          nobody x q =
              none_not_some x
              (sym (ap (λ (y : ServerNode). session_of y.state.sessions (record { 0 = n })) (server_is a.server.0 node i) ∙
              fresh_session a.server.0 (record { 0 = n })) ∙ q)

          begun : HasBegun W (record { 0 = n }) a node → ⊥
          begun (AtServer x q l) = nobody x q
          begun (OnItsWay x j f t q l) = none_sent x j
          begun (AtClient u q) = none_not_some u (sym (no_session n site e a h) ∙ q)

-- What holds after each event, and what else does.
pub record Stand (more : List ThirdStep → ThirdTraced → Type 0) (past : List ThirdStep) (t : ThirdTraced) : Type 0 where
  pub sound : Sound t.third
  pub people : People t.third
  pub standing : Standing t.third.world
  pub also : more past t

-- Over a run: a promise holds throughout, if it is kept at each step from a world in which all this holds, and what else each event keeps.
module _ (more : List ThirdStep → ThirdTraced → Type 0) (promise : ThirdPromise)
    (one : (past : List ThirdStep) (t : ThirdTraced) (e : ThirdEvent) → Stand more past t → worlds.refusal t.third e ≡ None →
    (promise past (steps.third_step t e (every.happens (third_counted t.third) e)))
    × (more (past ++ steps.third_step t e (every.happens (third_counted t.third) e) ∷ [])
    (steps.traced_after e t (every.happens (third_counted t.third) e)))) where
  same_sound : (w : ThirdWorld) → Sound w → Sound (third_counted w)
  same_sound w so = record { fits = record { sites = so.fits.sites; there = so.fits.there; pairs = so.fits.pairs }; form = so.form }

  same_people : (w : ThirdWorld) → People w → People (third_counted w)
  same_people w p = record { asks = p.asks; ids = p.ids; servers = p.servers; few = p.few }

  same_standing : (w : ThirdWorld) → Standing w.world → Standing (third_counted w).world
  same_standing w st = standing_as w.world (third_counted w).world refl refl (λ m h. h) st

  stand_on : (past : List ThirdStep) (t : ThirdTraced) (e : ThirdEvent) → Stand more past t → worlds.refusal t.third e ≡ None →
      Stand more (past ++ steps.third_step t e (every.happens (third_counted t.third) e) ∷ [])
      (steps.traced_after e t (every.happens (third_counted t.third) e))
  stand_on past t e s q =
      let w : ThirdWorld = third_counted t.third in
      let sc : ThirdWorldTurn = every.happens w e in
      let so : Sound w = same_sound t.third s.sound in
      let mv : Moved t.third sc.third = elsewhere t.third w sc.third refl refl (moves w e s.sound.form) in
      record {
        sound = sound_after t.third sc.third s.sound mv;
        people = people_after t.third sc.third s.sound s.people mv;
        standing = stands_on w e so (same_people t.third s.people) (same_standing t.third s.standing);
        also = (one past t e s q).1;
      }

  abbrev Goes_on : List ThirdEvent → Type 0
  Goes_on es = (past : List ThirdStep) (t : ThirdTraced) → Stand more past t → Throughout promise past (steps.steps es t)

  pub stands_throughout : (es : List ThirdEvent) → Goes_on es
  unfolding Throughout steps.steps steps.steps_on every.world_step every.world_by
  stands_throughout [] past t s = tt
  stands_throughout (e ∷ es) past t s = go (stands_throughout es) (worlds.refusal t.third e) refl
    where
      go : Goes_on es → (r : Option WorldRefusal) → worlds.refusal t.third e ≡ r →
          Throughout promise past (steps.steps_on (steps.steps es) t e (every.world_by t.third e r))
      go rest (Some r) q = tt
      go rest None q = ((one past t e s q).0, rest _ _ (stand_on past t e s q))

-- Who asked for nothing has nothing.

asked_nothing : (w : World) → Standing w → (c : ClientId) (site : WorldClient) (a : Association) (u : ClientSession) (node : ServerNode) →
    site_of w c ≡ Some site →
    site.node.running ≡ true → Has a site.node.state.associations → a.session ≡ Some u → Unasked (Some u) → node_of w a.server ≡ Some node →
    HasNothing node.state c
asked_nothing w st c site a u node there up h e x at =
    ((st.between c.0 site a node there h at).quiet up (subst Unasked (sym e) x) (AtClient u e)).nothing

pub who_asked_nothing_has_nothing : WhoAskedNothingHasNothing
unfolding Rattle.st_third.specs.Limits.most_clients
who_asked_nothing_has_nothing k m clients servers disks blocks es head =
    stands_throughout (λ past t. Unit {0}) UnaskedHaveNothing
    (λ past t e s q. let w : ThirdWorld = third_counted t.third in (
      λ c site a u node there up h i x at. asked_nothing (every.happens w e).third.world
          (stands_on w e (record { fits = record { sites = s.sound.fits.sites; there = s.sound.fits.there; pairs = s.sound.fits.pairs }; form = s.sound.form })
          (record { asks = s.people.asks; ids = s.people.ids; servers = s.people.servers; few = s.people.few })
          (standing_as t.third.world w.world refl refl (λ y j. j) s.standing)) c site a u node there up h i x at,
      tt,
    ))
    es [] (steps.third_traced (third_world k m clients servers disks blocks 3))
    (record {
      sound = sound_first k m clients servers disks blocks;
      people = people_first k m clients servers disks blocks (within_most 1 64 clients head.some_clients);
      standing = standing_first k m clients servers disks blocks;
      also = tt;
    })
