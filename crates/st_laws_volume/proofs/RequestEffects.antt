-- In every run a request that a server serves can be done in the volume: what is asked has an effect there.
use Rattle.st_lemmas.proofs.Words
use Words.{◌≡◌, ◌⊎◌, ℕ, ◌+◌, ◌≤◌, arith, true, ◌&&◌, List, [], ◌∷◌, ◌++◌, Option, Some, None, refl, sym, ap, ◌∙◌, subst, inl, inr, if◌then◌else◌}
use Words.{is_some, list_all, option_and_then, option_map, Ask, Body, ClientId, Config, Event, FileId, GrantNo, Message, NameAsk, NodeId, PageNo, SentMessage, ServerId}
use Words.answers
use Words.asks
use Words.bodies
use Words.events
use Words.nodes
use Words.ClientPasses.{name_op}
use Words.ClientState.{asks_cut_or_name}
use Words.History.{Traced, traced}
use Words.Keys.{client}
use Words.Lists.{Has}
use Words.Lookups.{some_is}
use Words.Members.{has_left}
use Words.Numbers.{numbered_has}
use Words.Safety.{Promise, Step, TheReportTellsTheLog, step, steps}
use Words.Server as sv
use Words.Server.{ServerNode, sender}
use Words.Tables.{and_both, and_true, has_map_in}
use Words.Worlds.{site_there}
use Words.World as world
use Words.World.{World, all_clients, fresh_world, message_of, node_of, receiver_of}
use Rattle.st_base.specs.declared.names.NameAsk.TheVariants as asked
use Rattle.st_base.specs.Mode.{number_of}
use Rattle.st_protocol.specs.Assoc as net
use Rattle.st_promises.specs.Safe.{EveryRunIsSafe, IsSafeRun}
use Rattle.st_laws_pages.specs.Asks.Law.{PlacesAfter, PlacesHold}
use Rattle.st_laws_pages.specs.Disks.Obligations.{FatesHold}
use Rattle.st_laws_pages.proofs.Asks.Law.{places_law}
use Rattle.st_laws_pages.proofs.Causes.Law.{Stand, fresh_places, fresh_stand, one_step}
use Rattle.st_laws_pages.proofs.Disks.Whole.{fates_law}
use Rattle.st_laws_refine.specs.Server.Pair.{terms_of}
use Rattle.st_laws_leases.specs.Dates.Dates.{message_in, messages}
use Rattle.st_laws_leases.proofs.Sides.Runs.{full}
use Rattle.st_laws_reads.specs.FrozenLives.PendingEntries.{FrozenHold}
use Rattle.st_laws_reads.proofs.FrozenLives.Law.{events_keep, first}
use Rattle.st_laws_requests.specs.Cuts.Cuts.{asks_of}
use Rattle.st_laws_extents.specs.CutRequests.NamedGrants.{Given}
use Rattle.st_laws_extents.proofs.CutRequests.Standing.{given_row, named}
use Rattle.st_laws_cuts.specs.EndedRequests.{MeansOf, MeansTo}
use Rattle.st_laws_cuts.specs.ServedRequests.{IsServedBy}
use Rattle.st_laws_names.specs.OutstandingKeys.{KeysHaveOneOperation, WaitsUnder}
use Rattle.st_laws_names.proofs.Behind as served
use Rattle.st_laws_names.proofs.Changes.{ChangesHold, changes_begin}
use Rattle.st_laws_names.proofs.Changes as changes
use Rattle.st_laws_names.proofs.Facts.{operations_law}
use Rattle.st_laws_volume.specs.Logs.{InEveryRun, IsLogOf}
use Rattle.st_laws_volume.specs.Options.{OnSome}
use Rattle.st_laws_volume.specs.Requests.{AtNode, CanBeDone, OfDelivery, OfMessage, RequestsHaveEffects}
use Rattle.st_laws_volume.specs.TreeNames.{tree_of}
use Rattle.st_laws_volume.specs.Trees.{HasTreesOf, tree_at}
use Rattle.st_laws_volume.specs.Witness.{Behind, Witness, begun, does_at, is_done_as, now_at, serves, turn_of}
use Rattle.st_laws_volume.proofs.Carried.{IsGiven, given_in}
use Rattle.st_laws_volume.proofs.ChangeEffects.{all_clear}
use Rattle.st_laws_volume.proofs.Logs.{LogHolds, log_begins, log_kept}
use Rattle.st_laws_volume.proofs.Options.{on_more}
use Rattle.st_laws_volume.proofs.PendingAlone.{client_there, row_alone}
use Rattle.st_laws_volume.proofs.ReadPages.{InRange, all_in_range, throughout_both}
use Rattle.st_laws_volume.proofs.RequestAsks.{GhostHolds, Grants, HasKey, cut_or_name, ghost_begins, ghost_kept, has_key, is_served}
use Rattle.st_laws_volume.proofs.ServedFiles.{Finds, IsMeant, cut_finds, name_makes}
use Rattle.st_laws_volume.proofs.TreeKinds.{kind_is}
use Rattle.st_laws_volume.proofs.Trees.{TreesHold, trees_begin, trees_kept}
use Rattle.st_laws_volume.proofs.TreeWorld.{tree_there}
use Rattle.st_volume.specs.declared.step.Fate.TheVariants as fates
use Rattle.st_volume.specs.Pages.{is_any, is_clear}
use Rattle.st_volume.specs.Trees as trees
use Rattle.st_volume.specs.Trees.{Made, Tree}
use Rattle.st_volume.specs.Volume as volume
use Rattle.st_volume.specs.Volume.{Volume, cuts, cuts_removed, effect, entry, exists, is_free, made}

-- An effect: of a cut if its file is free, and of an ask for a name that makes something, if a file that it removes is free.
pub some_map : {A B : Type 0} (f : A → B) (o : Option A) → is_some o ≡ true → is_some (option_map f o) ≡ true
some_map f None q = cc q
some_map f (Some x) q = refl

cut_there : (v : Volume) (c : ClientId) (f : FileId) (p : PageNo) → is_free v c f ≡ true → is_some (cuts v c f p) ≡ true
cut_there v c f p free =
    ap (λ b. is_some (if b then Some (record v { claims = volume.freed v (asks.Cut f p); log = v.log ++ entry c (asks.Cut f p) fates.Hard ∷ [] }) else None))
    free

cut_done : (v : Volume) (c : ClientId) (f : FileId) (p : PageNo) → is_free v c f ≡ true → is_some (effect v c (asks.Cut f p)) ≡ true
cut_done v c f p free = some_map (λ (w : Volume). (w, answers.Cut)) (cuts v c f p) (cut_there v c f p free)

name_done : (v : Volume) (c : ClientId) (s : ServerId) (ask : NameAsk) (t : Tree) → volume.tree_of v s ≡ Some t → (m : Made) → trees.does t ask ≡ Some m →
    is_some (cuts_removed v c s m.1.1) ≡ true → is_some (effect v c (asks.Name s ask)) ≡ true
name_done v c s ask t there (tree, (answer, removed)) is cut =
    ap (λ o. is_some (option_and_then (made v c s) (option_and_then (λ x. trees.does x ask) o))) there
    ∙ (ap (λ o. is_some (option_and_then (made v c s) o)) is
    ∙ some_map (λ (w : Volume). (w, answer)) (option_map (volume.with_tree s tree) (cuts_removed v c s removed))
    (some_map (volume.with_tree s tree) (cuts_removed v c s removed) cut))

-- What is carried.
record EffectsHold (k : net.Config) (count : ℕ) (past : List Step) (t : Traced) (it : Witness) : Type 0 where
  names_ : ChangesHold k count past t
  ghost_ : GhostHolds past t it
  log_ : LogHolds past t it
  trees_ : TreesHold past t it
  places : PlacesHold t.world
  stand : Stand past t
  frozen_lives : FrozenHold k count t.world

abbrev Known : ℕ → Promise
Known n past x = InRange n past x × (FatesHold x.after.world × (KeysHaveOneOperation past x × (TheReportTellsTheLog past x × PlacesAfter past x)))

-- What is known of the volume before an event.
record Facts (t : World) (v : Volume) : Type 0 where
  log_ : IsLogOf t.log v
  trees_ : HasTreesOf t v

facts_all : (t : World) (o : Option Volume) → OnSome (IsLogOf t.log) o → OnSome (HasTreesOf t) o → OnSome (Facts t) o
facts_all t None a b = tt
facts_all t (Some v) a b = record { log_ = a; trees_ = b }

module _ (k : net.Config) (count : ℕ) (past : List Step) (t : Traced) (it : Witness) (h : EffectsHold k count past t it)
    (one : (y z : Step) → Has y past → Has z past → (c : ClientId) (s : ServerId) (life epoch number op n : ℕ) →
    WaitsUnder y.after.world c s life epoch number op → WaitsUnder z.after.world c s life epoch number n → op ≡ n) (v : Volume) (facts : Facts t.world v) where
  abbrev w : World
  w = t.world

  -- A request that a server serves.
  module _ (s : ServerId) (node : ServerNode) (at : node_of w s ≡ Some node) (m : Message) (among : Has m (messages w))
      (done : does_at w s (Some node) m ≡ true) where
    abbrev c : ClientId
    c = sender m.header

    key : HasKey it past w (Grants k count past t it h.names_ h.ghost_ one s m) s m
    key = has_key k count past t it h.names_ h.ghost_ one s node at m among done

    parts : (node.running ≡ true) × ((serves (turn_of node (now_at w s)) m.header
        && is_done_as m.body (sv.rule (turn_of node (now_at w s)) (now_at w s) m.header m.body).reply) ≡ true)
    parts = and_true node.running _ done

    does_it : (serves (turn_of node (now_at w s)) m.header ≡ true)
        × (is_done_as m.body (sv.rule (turn_of node (now_at w s)) (now_at w s) m.header m.body).reply ≡ true)
    does_it = and_true (serves (turn_of node (now_at w s)) m.header) _ parts.1

    taken : IsServedBy node.state m
    taken = is_served s node (now_at w s) m does_it.0

    own : asks_cut_or_name m.body ≡ true
    own = cut_or_name m.body _ does_it.1

    its_client : Has c (all_clients w)
    its_client =
        let b = served.bounds k count past t h.names_.names_.all h.names_.rows s node at parts.0 m among taken own in
        let z = site_there w c b.0 (h.names_.names_.all.owners.senders m among taken.client) in client_there w c z.0 z.1

    tree_is : volume.tree_of v s ≡ Some (tree_at node)
    tree_is = tree_there w h.trees_.sound it.behind v facts.trees_ s node at

    -- the file that the server cuts is free
    file_free : (ino : ℕ) (g : GrantNo) → Finds node (now_at w s) m.header ino g → is_free v c (record { server = s; ino = ino }) ≡ true
    file_free ino g z =
        and_both (exists v f) (list_all (is_clear c f) v.log)
        (ap (is_any (trees.is_file ino)) tree_is
        ∙ ((kind_is node.state.stable.names (h.trees_.sound node (numbered_has w.servers s.0 node at)) ino).file ∙ z.file))
        (all_clear c f w.log v.log facts.log_.entries
        (λ o i p q. row_alone k count past w h.frozen_lives h.stand.both.flush f node at parts.0 c its_client z.row z.found z.exclusive o i p q))
      where
        f : FileId
        f = record { server = s; ino = ino }

    -- a file that is removed under a grant is the one of which the grant was given
    meant_is : (ino : ℕ) (g : GrantNo) → (1 ≤ g.0 → Grants k count past t it h.names_ h.ghost_ one s m ino g) → (there : ℕ) →
        Finds node (now_at w s) m.header there g → there ≡ ino
    meant_is ino g of there z = sym its
      where
        of_grant : Given ((h.names_.names_.all.base.all.servers s.0 node at).ghosts c.0).net there g.0
        of_grant =
            subst (Given ((h.names_.names_.all.base.all.servers s.0 node at).ghosts c.0).net there) z.under
            (given_row k count w h.names_.names_.all.base.all s.0 node at c.0 there z.row z.found
            (let q = ap number_of z.exclusive in omega (arith, q)))

        positive : 1 ≤ g.0
        positive = (named k count w h.names_.names_.all.base.all s.0 node at c.0).net.positive there g.0 of_grant

        its : ino ≡ there
        its = (named k count w h.names_.names_.all.base.all s.0 node at c.0).net.one ino there g.0 (of positive node at) of_grant

    is_meant : (ask : NameAsk) (g : GrantNo) → MeansOf (Grants k count past t it h.names_ h.ghost_ one s m) ask g → IsMeant node (now_at w s) m.header ask g
    is_meant (asked.Remove dir name ino) g of = meant_is ino g of
    is_meant (asked.Lookup dir name) g of = tt
    is_meant (asked.Create dir name) g of = tt
    is_meant (asked.Mkdir dir name) g of = tt
    is_meant (asked.Rename dir name dir2 name2) g of = tt
    is_meant (asked.List dir after) g of = tt

    abbrev Done : Body → Type 0
    Done b = is_done_as b (sv.rule (turn_of node (now_at w s)) (now_at w s) m.header b).reply ≡ true

    cut_so : (ino : ℕ) (g : GrantNo) (from : PageNo) → Done (bodies.Cut ino g from) → (f : FileId) (p : PageNo) → f.server ≡ s → f.ino ≡ ino →
        is_some (effect v c (asks.Cut f p)) ≡ true
    cut_so ino g from d f p e i =
        cut_done v c f p
        (ap (λ (r : ServerId). is_free v c (record { server = r; ino = f.ino })) e
        ∙ (ap (λ n. is_free v c (record { server = s; ino = n })) i ∙ file_free ino g (cut_finds node (now_at w s) m.header ino g from d)))

    removed_so : (removed : Option ℕ) (g : GrantNo) → (removed ≡ None) ⊎ ((ino : ℕ) × (removed ≡ Some ino) × Finds node (now_at w s) m.header ino g) →
        is_some (cuts_removed v c s removed) ≡ true
    removed_so removed g (inl e) = ap (λ o. is_some (cuts_removed v c s o)) e
    removed_so removed g (inr (ino, e, z)) =
        ap (λ o. is_some (cuts_removed v c s o)) e ∙ cut_there v c (record { server = s; ino = ino }) (record { 0 = 0 }) (file_free ino g z)

    name_so : (ask : NameAsk) (g : GrantNo) → Done (bodies.Name (name_op ask g)) →
        MeansOf (Grants k count past t it h.names_ h.ghost_ one s m) ask g → is_some (effect v c (asks.Name s ask)) ≡ true
    name_so ask g d of =
        let z = name_makes node (now_at w s) m.header (h.trees_.sound node (numbered_has w.servers s.0 node at)) ask g (is_meant ask g of) d in
        name_done v c s ask (tree_at node) tree_is z.made z.is (removed_so z.made.1.1 g z.cut)

    done_so : (ask : Ask) (b : Body) → Done b → MeansTo (Grants k count past t it h.names_ h.ghost_ one s m) s ask b → is_some (effect v c ask) ≡ true
    done_so (asks.Cut f p) (bodies.Cut ino g from) d z = cut_so ino g from d f p z.0 z.1
    done_so (asks.Name r ask) (bodies.Name op) d z =
        ap (λ (x : ServerId). is_some (effect v c (asks.Name x ask))) z.0
        ∙ name_so ask z.1.g (subst (λ o. Done (bodies.Name o)) z.1.is d) z.1.of
    done_so ask b d z = absurd z

    can_be_done : CanBeDone it past v s m
    can_be_done =
        record {
          done =
              λ b found ask asked_. subst (λ a. is_some (effect v c a) ≡ true)
              (some_is (sym key.asked ∙ (ap (λ (x : Behind). world.numbered (asks_of past c) x.op) (some_is (sym key.found ∙ found)) ∙ asked_)))
              (done_so key.ask m.body does_it.1 key.to);
        }

  at_delivery : (e : Event) → OfDelivery (CanBeDone it past v) w e
  at_delivery (events.Deliver n) = go (message_of w n) (λ m q. numbered_has w.net.messages n m q)
    where
      at_node : (s : ServerId) (m : Message) → Has m (messages w) → (o : Option ServerNode) → node_of w s ≡ o → does_at w s o m ≡ true →
          CanBeDone it past v s m
      at_node s m among None at q = cc q
      at_node s m among (Some node) at q = can_be_done s node at m among q

      to : (m : SentMessage) → Has m.message (messages w) → (n : NodeId) → AtNode (CanBeDone it past v) w m.message n
      to m among (nodes.Client c) = tt
      to m among (nodes.Server s) = λ q. at_node s m.message among (node_of w s) refl q

      go : (o : Option SentMessage) → ((m : SentMessage) → o ≡ Some m → Has m w.net.messages) → OfMessage (CanBeDone it past v) w o
      go None g = tt
      go (Some m) g = to m (has_map_in message_in w.net.messages m (g m refl)) (receiver_of m)
  at_delivery e = tt

-- In every run.
EffectsToo : List Step → Step → Witness → Type 0
EffectsToo past x it = OnSome (λ v. OfDelivery (CanBeDone it past v) x.before.world x.event) it.volume

effects_on : (k : net.Config) (count : ℕ) → IsGiven (Known count) (EffectsHold k count) EffectsToo
unfolding EffectsToo
effects_on k count past t e sc it f g h = (
  on_more (Facts t.world) (λ v. OfDelivery (CanBeDone it past v) t.world e)
      (λ v facts. at_delivery k count past t it h
      (λ y z i j c s life epoch number op n a b.
      g.1.1.0 y z (has_left past (step t e sc ∷ []) y i) (has_left past (step t e sc ∷ []) z j) c s life epoch number op n a b) v facts e) it.volume
      (facts_all t.world it.volume h.log_ h.trees_.agree),
  record {
    names_ = (changes.one k count past t e sc g.0 h.names_ f).1;
    ghost_ = ghost_kept past t e sc it g.1.0 g.1.1.0 h.ghost_;
    log_ = log_kept past t e sc it f g.1.1.1.0 h.log_;
    trees_ = trees_kept past t e sc it f tt h.trees_;
    places = g.1.1.1.1;
    stand = (one_step past t e sc f h.places h.stand).stand;
    frozen_lives = events_keep past k count t.world e sc h.frozen_lives h.stand.both.flush (full count t.world e h.frozen_lives.all.nodes g.0) f;
  },
)

pub requests_have_effects : EveryRunIsSafe → InEveryRun RequestsHaveEffects
unfolding EffectsToo begun
requests_have_effects safe k clients servers disks blocks form es head events =
    let t : Traced = traced (fresh_world k clients servers disks blocks form) in
    let n : ℕ = clients + servers in
    let kept : IsSafeRun (fresh_world k clients servers disks blocks form) es = safe k clients servers disks blocks form es head events in
    given_in (Known n) (EffectsHold (terms_of k) n) EffectsToo (effects_on (terms_of k) n) es t
    (record {
      names_ = changes_begin k clients servers disks blocks form head;
      ghost_ = ghost_begins k clients servers disks blocks form;
      log_ = log_begins k clients servers disks blocks form;
      trees_ = trees_begin k clients servers disks blocks form;
      places = fresh_places k clients servers disks blocks form;
      stand = fresh_stand k clients servers disks blocks form;
      frozen_lives = first k clients servers disks blocks form head;
    })
    (throughout_both (InRange n)
    (λ past x. FatesHold x.after.world × (KeysHaveOneOperation past x × (TheReportTellsTheLog past x × PlacesAfter past x))) [] (steps es t)
    (all_in_range n es [] t events)
    (throughout_both (λ past x. FatesHold x.after.world)
    (λ past x. KeysHaveOneOperation past x × (TheReportTellsTheLog past x × PlacesAfter past x)) [] (steps es t)
    (fates_law k clients servers disks blocks form es)
    (throughout_both KeysHaveOneOperation (λ past x. TheReportTellsTheLog past x × PlacesAfter past x) [] (steps es t)
    (operations_law k clients servers disks blocks form es head events)
    (throughout_both TheReportTellsTheLog PlacesAfter [] (steps es t) kept.told (places_law k clients servers disks blocks form es head)))))
