-- In every run a server that has no free block for a page is full in the volume, since room was wanted for that page and for each page that it has mapped.
use Rattle.st_lemmas.proofs.Words
use Words.{◌≡◌, ℕ, List, [], ◌∷◌, ◌++◌, Option, Some, None, Ok, refl, ap, ◌∙◌, subst, length, lt-ltb, nat_lt, ServerId}
use Words.Extents as extents
use Words.History.{Traced, traced}
use Words.Lists.{Has}
use Words.Numbers.{numbered_has}
use Words.Safety.{Promise, Step, step, steps}
use Words.Server.{ServerNode}
use Words.World.{World, fresh_world, node_of}
use Rattle.st_promises.specs.Safe.{EveryRunIsSafe}
use Rattle.st_laws_pages.specs.Disks.Runs.{PagesAfter}
use Rattle.st_laws_pages.specs.Disks.World.{PagesHold}
use Rattle.st_laws_pages.proofs.Disks.Whole.{fresh_holds}
use Rattle.st_laws_volume.specs.FullServers.{AreFull, FullServersHaveNoRoom, LacksRoom}
use Rattle.st_laws_volume.specs.Logs.{InEveryRun}
use Rattle.st_laws_volume.specs.Options.{OnSome}
use Rattle.st_laws_volume.specs.PageBlocks.{AllHaveRoom, AllLie, PagesLie, RoomIsWanted}
use Rattle.st_laws_volume.specs.Witness.{Witness, begun, led_by, led_from, led_to}
use Rattle.st_laws_volume.proofs.Carried.{IsGiven, IsLed, given_in, led_more}
use Rattle.st_laws_volume.proofs.ChangeLines.{on_both}
use Rattle.st_laws_volume.proofs.Options.{on_more}
use Rattle.st_laws_volume.proofs.PagesLie.{LieHold, lie_begins, lie_kept}
use Rattle.st_laws_volume.proofs.ReadPages.{throughout_both}
use Rattle.st_laws_volume.proofs.RoomCounts.{blocks_wanted}
use Rattle.st_laws_volume.proofs.RoomSizes.{Sized, SizesHold, sizes_begin, sizes_kept, sizes_of}
use Rattle.st_laws_volume.proofs.RoomWanted.{room_is_wanted}
use Rattle.st_volume.specs.Pages.{is_any}
use Rattle.st_volume.specs.Volume.{Volume, numbered, places_at}

full_so : (w : World) (v : Volume) (sizes : List ℕ) → v.sizes ≡ sizes →
    ((node : ServerNode) → Has node w.servers → Sized sizes node.state.id node.state.stable) →
    AllLie w → ((s : ServerId) (node : ServerNode) → node_of w s ≡ Some node → node.state.id ≡ s) → AllHaveRoom w v → AreFull w v
full_so w v sizes same sized lie ids room s z =
    ap (is_any (λ size. nat_lt size (length (places_at s v.claims))))
    (ap (λ xs. numbered xs s.0) same ∙ subst (λ (r : ServerId). Sized sizes r z.node.state.stable) id (sized z.node there))
    ∙ lt-ltb (length (extents.own_blocks z.node.state.stable.extents)) (length (places_at s v.claims))
    (blocks_wanted s z.node.state.stable.extents (subst (λ (r : ServerId). PagesLie r z.node.state.stable.extents) id (lie z.node there)) v.claims
    (room s z.node z.there) z.full z.file z.page z.own z.wanted z.unmapped)
  where
    there : Has z.node w.servers
    there = numbered_has w.servers s.0 z.node z.there

    id : z.node.state.id ≡ s
    id = ids s z.node z.there

-- In every run.
FullToo : List Step → Step → Witness → Type 0
FullToo past x it = OnSome (AreFull x.before.world) it.volume

record RoomHold (sizes : List ℕ) (past : List Step) (t : Traced) (it : Witness) : Type 0 where
  led : IsLed past t it
  sizes_ : SizesHold sizes past t it
  lie : LieHold past t it
  pages : PagesHold t.world

abbrev Known : Promise
Known past x = RoomIsWanted past x × PagesAfter past x

full_on : (sizes : List ℕ) → IsGiven Known (RoomHold sizes) FullToo
unfolding FullToo
full_on sizes past t e sc it f g h = (
  on_more (λ v. AllHaveRoom t.world v × (v.sizes ≡ sizes)) (AreFull t.world)
      (λ v z. full_so t.world v sizes z.1 h.sizes_.sized h.lie.lie h.pages.extents.ids z.0) it.volume
      (on_both (AllHaveRoom t.world) (λ v. v.sizes ≡ sizes) it.volume (subst (λ (w : Witness). OnSome (AllHaveRoom t.world) w.volume) q g.0) h.sizes_.same),
  record {
    led = λ y i. led_more past x y ∙ ap (λ j. led_by j x) q;
    sizes_ = sizes_kept sizes past t e sc it f tt h.sizes_;
    lie = lie_kept past t e sc it f tt h.lie;
    pages = g.1;
  },
)
  where
    x : Step
    x = step t e sc

    q : led_to past x ≡ it
    q = h.led x refl

pub full_servers_have_no_room : EveryRunIsSafe → InEveryRun PagesAfter → InEveryRun FullServersHaveNoRoom
unfolding FullToo begun led_from
full_servers_have_no_room safe pages k clients servers disks blocks form es head events =
    let t : Traced = traced (fresh_world k clients servers disks blocks form) in
    given_in Known (RoomHold (sizes_of k clients servers disks blocks form)) FullToo (full_on (sizes_of k clients servers disks blocks form)) es t
    (record {
      led = λ x i. ap (λ (s : Traced). begun s.world s.world) i;
      sizes_ = sizes_begin k clients servers disks blocks form;
      lie = lie_begins k clients servers disks blocks form;
      pages = fresh_holds k clients servers disks blocks form;
    })
    (throughout_both RoomIsWanted PagesAfter [] (steps es t) (room_is_wanted safe k clients servers disks blocks form es head events)
    (pages k clients servers disks blocks form es head events))
