-- In every run room is wanted in the volume for each page that a server has mapped, and for the page of each request for a block that a server serves.
use Rattle.st_lemmas.proofs.Words
use Words.{◌≡◌, ℕ, ◌+◌, Bool, true, false, ◌==◌, ◌≤◌, arith, List, [], ◌∷◌, ◌++◌, length, Option, Some, None, refl, subst, inl, inr, if◌then◌else◌}
use Words.{eq-eqb, option_and_then, ClientId, Extent, Message, ServerId}
use Words.bodies
use Words.Extents as extents
use Words.History.{Traced, traced, traced_after}
use Words.Lists.{Has}
use Words.Numbers.{numbered_has}
use Words.Safety.{IsHead, Promise, Step, TheReportTellsTheLog, step, steps}
use Words.Server as sv
use Words.Server.{ServerNode}
use Words.Tables.{all_pass, and_both, has_map, has_map_in, some_passes}
use Words.World as world
use Words.World.{World, fresh_world}
use Rattle.st_lemmas.proofs.Steps.{step_happens}
use Rattle.st_base.specs.declared.config.Config as base
use Rattle.st_protocol.specs.Assoc.{Config}
use Rattle.st_promises.specs.Safe.{EveryRunIsSafe}
use Rattle.st_laws_pages.specs.Asks.Law.{PlacesHold}
use Rattle.st_laws_pages.specs.Disks.Obligations.{FatesHold}
use Rattle.st_laws_pages.specs.LockedCuts.CutLocks.{WaitsHold}
use Rattle.st_laws_pages.proofs.Asks.Law.{places_law}
use Rattle.st_laws_pages.proofs.Disks.Whole.{fates_law, fresh_waits}
use Rattle.st_laws_pages.proofs.LockedCuts.CutLaw.{steps_lock_cuts}
use Rattle.st_laws_refine.specs.Server.Pair.{terms_of}
use Rattle.st_laws_leases.proofs.Sides.Waiting.{waits_owed}
use Rattle.st_laws_leases.specs.Dates.Dates.{message_in}
use Rattle.st_laws_cuts.proofs.Law.{AllHold, begins, holds_on}
use Rattle.st_laws_names.proofs.Behind.{not_past}
use Rattle.st_laws_names.proofs.World as once
use Rattle.st_laws_volume.specs.Asks.{HasAsksOf}
use Rattle.st_laws_volume.specs.Logs.{InEveryRun, IsLogOf}
use Rattle.st_laws_volume.specs.Options.{OnSome}
use Rattle.st_laws_volume.specs.PageBlocks.{AllHaveRoom, RoomIsWanted, ServedHaveRoom, ServedPagesAreWanted, ServesBlock}
use Rattle.st_laws_volume.specs.Witness.{Witness, begun, if_told, is_claimed, led_by, led_to, steps_of, volume_after}
use Rattle.st_laws_volume.proofs.BlocksWanted.{AllWanted, PastOrWanted, WantedFor, blocks_on, file_at}
use Rattle.st_laws_volume.proofs.Asks.{AsksHold, asks_begin, asks_kept}
use Rattle.st_laws_volume.proofs.Carried.{IsGiven, given_in}
use Rattle.st_laws_volume.proofs.Logs.{LogHolds, log_begins, log_kept}
use Rattle.st_laws_volume.proofs.MappedRoom.{AllRoom, room_on}
use Rattle.st_laws_volume.proofs.Options.{on_more}
use Rattle.st_laws_volume.proofs.ReadPages.{InRange, all_in_range, throughout_both, throughout_more}
use Rattle.st_laws_volume.proofs.RoomClaims.{OpenWanted, Place}
use Rattle.st_laws_volume.proofs.RoomCuts.{kept_or_cut, open_kept}
use Rattle.st_volume.specs.Pages.{same_place}
use Rattle.st_volume.specs.Volume.{Volume, run}

-- Room is wanted for the page of each open ask, of each request for a block that its server may
-- serve, and for each mapped page.
record Roomy (w : World) (v : Volume) : Type 0 where
  open_ : OpenWanted v
  fine : AllWanted w v
  room : AllRoom w v

have_room : (w : World) (v : Volume) → AllRoom w v → AllHaveRoom w v
have_room w v h s node at =
    all_pass (is_claimed v.claims) node.state.stable.extents.rows
    (λ x i. some_passes (same_place (x.file, x.page)) v.claims (x.file, x.page) (h s node at x i).1
    (self x))
  where
    self : (x : Extent) → same_place (x.file, x.page) (x.file, x.page) ≡ true
    self x =
        and_both _ (x.page.0 == x.page.0)
        (and_both (x.file.server.0 == x.file.server.0) (x.file.ino == x.file.ino)
        (eq-eqb x.file.server.0 x.file.server.0 refl)
        (eq-eqb x.file.ino x.file.ino refl)) (eq-eqb x.page.0 x.page.0 refl)

-- A request that is served isn't past.
served_have_room : (x : Step) (v : Volume) → AllWanted x.before.world v → ServedHaveRoom x v
served_have_room x v h s z =
    by
    (h z.client s m
    (has_map_in message_in x.before.world.net.messages z.served.sent
    (numbered_has x.before.world.net.messages z.served.index z.served.sent z.served.is))
    z.served.serves.keyed.between z.served.serves.served.client pos)
  where
    m : Message
    m = z.served.sent.message

    pos : 1 ≤ m.header.number
    pos = let q = z.served.serves.served.next in omega (arith, q)

    of_body : WantedFor x.before.world v z.client s m (bodies.Allocate z.ino z.g z.page z.count) →
        Has (file_at s z.ino, z.page) v.claims
    of_body f = f.wanted

    by : PastOrWanted x.before.world v z.client s m → Has (file_at s z.ino, z.page) v.claims
    by (inl p) =
        absurd
        (not_past z.client z.served.serves.old m z.served.serves.served z.served.serves.running
        z.served.serves.keyed.between.0 (p z.served.serves.old z.served.serves.was))
    by (inr f) = of_body (subst (WantedFor x.before.world v z.client s m) z.asks f)

-- In every run.
record RoomHold (k : Config) (count : ℕ) (past : List Step) (t : Traced) (it : Witness) : Type 0
  where
    all : AllHold k count past t
    waits : WaitsHold t.world
    asks_ : AsksHold past t it
    log : LogHolds past t it
    roomy : OnSome (Roomy t.world) it.volume

abbrev Known : ℕ → Promise
Known count past x = InRange count past x ×
    (TheReportTellsTheLog past x × (FatesHold x.after.world × PlacesHold x.after.world))

RoomToo : List Step → Step → Witness → Type 0
RoomToo past x it = OnSome (λ v. AllHaveRoom x.before.world v × ServedHaveRoom x v) it.volume

room_kept : (k : Config) (count : ℕ) → IsGiven (Known count) (RoomHold k count) RoomToo
unfolding RoomToo led_by
room_kept k count past t e sc it f g h = (
  on_more (Roomy t.world) (λ v. AllHaveRoom t.world v × ServedHaveRoom (step t e sc) v)
      (λ v z. (have_room t.world v z.room, served_have_room (step t e sc) v z.fine)) it.volume
      h.roomy,
  record {
    all = all2;
    waits = waits2;
    asks_ = asks_kept past t e sc it f g.1.1 h.asks_;
    log = log2;
    roomy = go it.volume h.roomy h.log h.asks_.agree log2;
  },
)
  where
    x : Step
    x = step t e sc

    all2 : AllHold k count (past ++ step t e sc ∷ []) (traced_after e t sc)
    all2 = (holds_on k count past t e sc g.0 h.all f).0

    waits2 : WaitsHold sc.world
    waits2 = (steps_lock_cuts t.world e sc f
        (waits_owed k count t.world h.all.base.all e (step_happens t.world e sc f).0) h.waits).holds

    log2 : LogHolds (past ++ step t e sc ∷ []) (traced_after e t sc) (led_by it (step t e sc))
    log2 = log_kept past t e sc it f g.1.0 h.log

    now : (v u : Volume) → run (steps_of it v (step t e sc)) v ≡ Some u → Roomy t.world v →
        IsLogOf t.world.log v → HasAsksOf t.world v →
        IsLogOf sc.world.log u → Roomy sc.world u
    now v u led z old agree new =
        record {
          open_ = open_kept it (step t e sc) v u led old g.1.0 new z.open_;
          fine = blocks_on k count past t e sc g.0 f h.all all2 waits2 it v u led old g.1.0 new
              agree z.open_ z.fine;
          room =
              room_on k count past t e sc g.0 h.all.base f v u
              (λ (y : Place) i. kept_or_cut it (step t e sc) v u led old g.1.0 new y i) z.fine
              z.room;
        }

    after : (v : Volume) → Roomy t.world v → IsLogOf t.world.log v → HasAsksOf t.world v →
        (o : Option Volume) → run (steps_of it v (step t e sc)) v ≡ o →
        OnSome (IsLogOf sc.world.log) (option_and_then if_told o) →
        OnSome (Roomy sc.world) (option_and_then if_told o)
    after v z old agree None q l = tt
    after v z old agree (Some u) q l = told (u.lines == length u.log) l
      where
        told : (b : Bool) → OnSome (IsLogOf sc.world.log) (if b then Some u else None) →
            OnSome (Roomy sc.world) (if b then Some u else None)
        told true l = now v u q z old agree l
        told false l = tt

    go : (o : Option Volume) → OnSome (Roomy t.world) o → OnSome (IsLogOf t.world.log) o →
        OnSome (HasAsksOf t.world) o →
        OnSome (IsLogOf sc.world.log) (volume_after it (step t e sc) o) →
        OnSome (Roomy sc.world) (volume_after it (step t e sc) o)
    go None z old agree l = tt
    go (Some v) z old agree l = after v z old agree (run (steps_of it v (step t e sc)) v) refl l

none_mapped : (k : base.Config) (clients servers disks blocks form : ℕ) (node : ServerNode) →
    Has node (fresh_world k clients servers disks blocks form).servers → (x : Extent) →
    Has x node.state.stable.extents.rows → ⊥
unfolding fresh_world sv.fresh_server
none_mapped k clients servers disks blocks form node j x i =
    let z = has_map (world.node_at_start k servers disks blocks) (extents.numbers 1 servers) node j
    in
    absurd (subst (λ (n : ServerNode). Has x n.state.stable.extents.rows) z.2 i)

room_begins : (k : base.Config) (clients servers disks blocks form : ℕ) →
    IsHead k clients servers disks blocks form →
    RoomHold (terms_of k) (clients + servers) []
    (traced (fresh_world k clients servers disks blocks form))
    (begun (fresh_world k clients servers disks blocks form)
    (fresh_world k clients servers disks blocks form))
unfolding begun
room_begins k clients servers disks blocks form head =
    record {
      all = begins k clients servers disks blocks form head;
      waits = fresh_waits k clients servers disks blocks form;
      asks_ = asks_begin k clients servers disks blocks form;
      log = log_begins k clients servers disks blocks form;
      roomy =
          record {
            open_ = λ a i. absurd i;
            fine = λ c s m among. absurd
                (once.none_sent k clients servers disks blocks form m among);
            room = λ s node at x i. absurd
                (none_mapped k clients servers disks blocks form node
                (numbered_has (fresh_world k clients servers disks blocks form).servers s.0 node at)
                x i);
          };
    }

Both : Promise
Both past x = OnSome (λ v. AllHaveRoom x.before.world v × ServedHaveRoom x v) (led_to past x).volume

both_wanted : EveryRunIsSafe → InEveryRun Both
unfolding RoomToo Both begun
both_wanted safe k clients servers disks blocks form es head events =
    let t : Traced = traced (fresh_world k clients servers disks blocks form) in
    let count : ℕ = clients + servers in
    given_in (Known count) (RoomHold (terms_of k) count) RoomToo (room_kept (terms_of k) count) es t
    (room_begins k clients servers disks blocks form head)
    (throughout_both (InRange count)
    (λ past x. TheReportTellsTheLog past x ×
    (FatesHold x.after.world × PlacesHold x.after.world)) [] (steps es t)
    (all_in_range count es [] t events)
    (throughout_both TheReportTellsTheLog
    (λ past x. FatesHold x.after.world × PlacesHold x.after.world) [] (steps es t)
    (safe k clients servers disks blocks form es head events).told
    (throughout_both (λ past x. FatesHold x.after.world) (λ past x. PlacesHold x.after.world) []
    (steps es t)
    (fates_law k clients servers disks blocks form es)
    (places_law k clients servers disks blocks form es head))))

pub room_is_wanted : EveryRunIsSafe → InEveryRun RoomIsWanted
unfolding Both
room_is_wanted safe k clients servers disks blocks form es head events =
    let t : Traced = traced (fresh_world k clients servers disks blocks form) in
    throughout_more Both RoomIsWanted
    (λ past x z. on_more (λ v. AllHaveRoom x.before.world v × ServedHaveRoom x v)
    (AllHaveRoom x.before.world) (λ v y. y.0) (led_to past x).volume z) [] (steps es t)
    (both_wanted safe k clients servers disks blocks form es head events)

pub served_pages_are_wanted : EveryRunIsSafe → InEveryRun ServedPagesAreWanted
unfolding Both
served_pages_are_wanted safe k clients servers disks blocks form es head events =
    let t : Traced = traced (fresh_world k clients servers disks blocks form) in
    throughout_more Both ServedPagesAreWanted
    (λ past x z. on_more (λ v. AllHaveRoom x.before.world v × ServedHaveRoom x v) (ServedHaveRoom x)
    (λ v y. y.1) (led_to past x).volume z) [] (steps es t)
    (both_wanted safe k clients servers disks blocks form es head events)
