-- In every run the open asks that a server's refusal may answer have noticed its cause before: the volume's trees are the servers' names, and open asks have
-- noticed all that there is to notice in them.
use Rattle.std.proofs.Common.{◌≡◌, ℕ, Bool, true, false, not, ◌&&◌, ◌||◌, ◌==◌, List, [], Option, Some, None, Ok, refl, sym, ap, ◌∙◌, subst, if◌then◌else◌}
use Rattle.std.specs.Prelude.{bytes_eq, nat_lt, option_map}
use Rattle.std.proofs.lemmas.Bool.{eqb-true}
use Rattle.std.proofs.lemmas.Slice.Eq.{bytes_eq-Decides}
use Rattle.st_base.specs.declared.ids.NodeId.{NodeId}
use Rattle.st_base.specs.declared.ids.NodeId.TheVariants as nodes
use Rattle.st_base.specs.declared.ids.ServerId.{ServerId}
use Rattle.st_base.specs.declared.ids.Stamp.{Stamp}
use Rattle.st_base.specs.declared.names.NameAsk.TheVariants as asked
use Rattle.st_messages.specs.declared.ask.Ask.{Ask}
use Rattle.st_messages.specs.declared.ask.Ask.TheVariants as asks
use Rattle.st_messages.specs.declared.event.Event.{Event}
use Rattle.st_messages.specs.declared.event.Event.TheVariants as events
use Rattle.st_messages.specs.declared.message.Body.{Body}
use Rattle.st_messages.specs.declared.message.Body.TheVariants as bodies
use Rattle.st_messages.specs.declared.message.Message.{Message}
use Rattle.st_messages.specs.declared.message.Why.TheVariants as why
use Rattle.st_rules.specs.declared.world.SentMessage.{SentMessage}
use Rattle.st_rules.specs.History.{Traced, traced}
use Rattle.st_rules.specs.Names as names
use Rattle.st_rules.specs.Names.{Names}
use Rattle.st_rules.specs.Safety.{Step}
use Rattle.st_rules.specs.Server.{ServerNode, ServerTurn, Stable}
use Rattle.st_rules.specs.World.{World, fresh_world, message_of, node_of, receiver_of}
use Rattle.st_lemmas.specs.Lists.{Has}
use Rattle.st_lemmas.proofs.Lookups.{or_right}
use Rattle.st_lemmas.proofs.Numbers.{numbered_has}
use Rattle.st_lemmas.proofs.Steps.{throughout_all}
use Rattle.st_lemmas.proofs.Tables.{and_both, and_true}
use Rattle.st_laws_volume.specs.Logs.{InEveryRun}
use Rattle.st_laws_volume.specs.Options.{OnSome}
use Rattle.st_laws_volume.specs.Refusals.{AtReceiver, IsNoticed, IsNoticedAt, OfRefused, RefusalsAreNoticed, removes_other, reply_at}
use Rattle.st_laws_volume.specs.TreeNames.{IsSound, entry_of, tree_of}
use Rattle.st_laws_volume.specs.Trees.{HasTreesOf}
use Rattle.st_laws_volume.specs.Witness.{Behind, Witness, now_at, same_text, turn_of}
use Rattle.st_laws_volume.proofs.Carried.{IsGiven, given_in}
use Rattle.st_laws_volume.proofs.ChangeLines.{on_both}
use Rattle.st_laws_volume.proofs.FileReplies.{lacks, removes_not}
use Rattle.st_laws_volume.proofs.Notices.{Noticed, NoticesHold, each_fixed, notices_begin, notices_kept}
use Rattle.st_laws_volume.proofs.Options.{on_more}
use Rattle.st_laws_volume.proofs.Trees.{Nothing, TreesHold, trees_begin, trees_kept}
use Rattle.st_laws_volume.proofs.TreeAnswers.{kind_there, there}
use Rattle.st_laws_volume.proofs.TreeKinds.{entry_same, kind_is}
use Rattle.st_laws_volume.proofs.TreeTurns.{thefts_stable}
use Rattle.st_laws_volume.proofs.TreeWorld.{AllSound, tree_there}
use Rattle.st_volume.specs.Pages.{is_any, same_file}
use Rattle.st_volume.specs.Trees as trees
use Rattle.st_volume.specs.Volume as volume
use Rattle.st_volume.specs.Volume.{Pending, Volume, exists, file_of, names_other, noticing}

-- What the tree of a server tells the open asks.
module _ (t : World) (sound : AllSound t) (bs : List Behind) (v : Volume) (agree : HasTreesOf t v) (noticed : Noticed v) (s : ServerId) (node : ServerNode)
    (at : node_of t s ≡ Some node) where
  abbrev n : Names
  n = node.state.stable.names

  its_sound : IsSound n
  its_sound = sound node (numbered_has t.servers s.0 node at)

  its_tree : volume.tree_of v s ≡ Some (tree_of n)
  its_tree = tree_there t sound bs v agree s node at

  -- what was noticed stays so
  marks : (a : Pending) → Has a v.pending → noticing v a ≡ a
  marks a i = each_fixed (noticing v) v.pending noticed a i

  pub has_missed : (ino : ℕ) → names.is_file n ino ≡ false → nat_lt 0 ino ≡ true → (a : Pending) → Has a v.pending →
      same_file (file_of a.ask) (record { server = s; ino = ino }) ≡ true → a.missed ≡ true
  has_missed ino f above a i q =
      sym (ap (λ (b : Pending). b.missed) (marks a i))
      ∙ or_right a.missed (nat_lt 0 (file_of a.ask).ino && not (exists v (file_of a.ask)))
      (subst (λ g. (nat_lt 0 g.ino && not (exists v g)) ≡ true) (sym same)
      (and_both (nat_lt 0 ino) (not (exists v (record { server = s; ino = ino }))) above none))
    where
      same : file_of a.ask ≡ record { server = s; ino = ino }
      same =
          let z = and_true ((file_of a.ask).server.0 == s.0) ((file_of a.ask).ino == ino) q in
          ap (λ k. record { server = record { 0 = k }; ino = (file_of a.ask).ino }) (eqb-true (file_of a.ask).server.0 s.0 z.0)
          ∙ ap (λ k. record { server = s; ino = k }) (eqb-true (file_of a.ask).ino ino z.1)

      none : not (exists v (record { server = s; ino = ino })) ≡ true
      none = ap (λ o. not (is_any (trees.is_file ino) o)) its_tree ∙ ap not ((kind_is n its_sound ino).file ∙ f)

  pub has_other : (dir : ℕ) (name : List ℕ) (ino : ℕ) → names.lookup n dir name ≡ Ok ino → names.is_file n ino ≡ true → (a : Pending) → Has a v.pending →
      removes_other s dir name ino a.ask ≡ true → a.other ≡ true
  has_other dir name ino found file a i q =
      sym (ap (λ (b : Pending). b.other) (marks a i))
      ∙ or_right a.other (is_any (names_other a.ask) (volume.tree_of v (volume.server_of a.ask))) (by a.ask q)
    where
      by : (ask : Ask) → removes_other s dir name ino ask ≡ true → is_any (names_other ask) (volume.tree_of v (volume.server_of ask)) ≡ true
      by (asks.Name r (asked.Remove d m j)) q =
          let z = and_true (r.0 == s.0) (same_text dir name d m && not (ino == j)) q in
          let y = and_true (same_text dir name d m) (not (ino == j)) z.1 in
          let x = and_true (dir == d) (bytes_eq name m) y.0 in
          let place = there n dir name ino found in
          ap (λ k. is_any (names_other (asks.Name r (asked.Remove d m j))) (volume.tree_of v (record { 0 = k }))) (eqb-true r.0 s.0 z.0)
          ∙ (ap (is_any (names_other (asks.Name r (asked.Remove d m j)))) its_tree
          ∙ (ap (λ k. is_any (λ e. not (e.directory || (e.ino == j))) (trees.entry_at (tree_of n) k m)) (sym (eqb-true dir d x.0))
          ∙ (ap (λ k. is_any (λ e. not (e.directory || (e.ino == j))) (trees.entry_at (tree_of n) dir k)) (sym ((bytes_eq-Decides name m).0 x.1))
          ∙ (ap (is_any (λ e. not (e.directory || (e.ino == j)))) (entry_same n dir name ∙ ap (option_map entry_of) place.found)
          ∙ (ap (λ b. not (b || (place.entry.ino == j))) (kind_there n its_sound dir name ino place true file)
          ∙ (ap (λ k. not (k == j)) place.its ∙ y.1))))))
      by (asks.Name r (asked.Lookup d m)) q = cc q
      by (asks.Name r (asked.Create d m)) q = cc q
      by (asks.Name r (asked.Mkdir d m)) q = cc q
      by (asks.Name r (asked.Rename d m d2 m2)) q = cc q
      by (asks.Name r (asked.List d after)) q = cc q
      by (asks.Write f p bytes) q = cc q
      by (asks.Patch f p x bytes) q = cc q
      by (asks.Read f p) q = cc q
      by (asks.Sync f) q = cc q
      by (asks.Cut f p) q = cc q

  -- a request that this server refuses
  module _ (m : Message) where
    abbrev now : Stamp
    now = now_at t s

    abbrev T : ServerTurn
    T = turn_of node now

    same_names : T.state.stable.names ≡ n
    same_names = ap (λ (y : Stable). y.names) (thefts_stable node.state now)

    replied : (b : Bool) (reply : Option Body) (body : Body) → (if b then reply else None) ≡ Some body → reply ≡ Some body
    replied true reply body q = q
    replied false reply body q = cc q

    refused : IsNoticed v s m.body (reply_at t s (Some node) m)
    refused =
        record {
          missed = λ ino k q above a i f.
              has_missed ino
              (ap (λ x. names.is_file x ino) (sym same_names)
              ∙ (lacks T now m.header m.body ino k (replied node.running _ (bodies.Nack why.NoFile ino k) q)).none) above a i f;
          other = λ dir name g ino k is q a i f.
              let z = removes_not T now m.header m.body dir name g ino k is (replied node.running _ (bodies.Nack why.NotHolder ino k) q) in
              has_other dir name ino (ap (λ x. names.lookup x dir name) (sym same_names) ∙ z.found)
              (ap (λ x. names.is_file x ino) (sym same_names) ∙ z.file) a i f;
        }

-- At each event.
event_noticed : (t : World) → AllSound t → (bs : List Behind) (v : Volume) → HasTreesOf t v → Noticed v → (e : Event) → IsNoticedAt v t e
event_noticed t sound bs v agree noticed (events.Deliver k) = go (message_of t k)
  where
    there_ : (s : ServerId) (m : Message) (o : Option ServerNode) → node_of t s ≡ o → IsNoticed v s m.body (reply_at t s o m)
    there_ s m None at =
        record { missed = λ ino n q above a i f. absurd (none q); other = λ dir name g ino n is q a i f. absurd (none q) }
      where
        none : {b : Body} → None ≡ Some b → ⊥
        none q = cc
    there_ s m (Some node) at = refused t sound bs v agree noticed s node at m

    to : (m : Message) (n : NodeId) → AtReceiver v t m n
    to m (nodes.Client c) = tt
    to m (nodes.Server s) = there_ s m (node_of t s) refl

    go : (o : Option SentMessage) → OfRefused v t o
    go None = tt
    go (Some m) = to m.message (receiver_of m)
event_noticed t sound bs v agree noticed e = tt

-- In every run.
RefusalsToo : List Step → Step → Witness → Type 0
RefusalsToo past x it = OnSome (λ v. IsNoticedAt v x.before.world x.event) it.volume

record RefusalsHold (past : List Step) (t : Traced) (it : Witness) : Type 0 where
  trees_ : TreesHold past t it
  notices : NoticesHold past t it

refusals_on : IsGiven Nothing RefusalsHold RefusalsToo
unfolding RefusalsToo
refusals_on past t e sc it f g h = (
  on_more (λ v. HasTreesOf t.world v × Noticed v) (λ v. IsNoticedAt v t.world e)
      (λ v k. event_noticed t.world h.trees_.sound it.behind v k.0 k.1 e) it.volume
      (on_both (HasTreesOf t.world) Noticed it.volume h.trees_.agree h.notices),
  record { trees_ = trees_kept past t e sc it f tt h.trees_; notices = notices_kept past t e sc it f tt h.notices },
)

pub refusals_are_noticed : InEveryRun RefusalsAreNoticed
unfolding RefusalsToo
refusals_are_noticed k clients servers disks blocks form es head events =
    let t : Traced = traced (fresh_world k clients servers disks blocks form) in
    given_in Nothing RefusalsHold RefusalsToo refusals_on es t
    (record { trees_ = trees_begin k clients servers disks blocks form; notices = notices_begin k clients servers disks blocks form })
    (throughout_all Nothing (λ past t e sc f. tt) es [] t)
