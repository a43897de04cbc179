-- What is between clients and servers is kept by each event of the third form.
use Rattle.st_lemmas.proofs.Words
use Words.{◌≡◌, ◌≢◌, ◌≤◌, ℕ, List, Some, refl, ◌∙◌, arith}
use Words.nodes
use Words.Client as plain
use Words.Events as ev
use Words.Numbers.{numbered_below, numbered_other, numbered_own}
use Words.Server as server
use Words.Server.{ServerNode}
use Words.Truth.{false_not_true}
use Words.World.{WorldClient, clock_of, numbered, with_numbered}
use Rattle.st_third.specs.declared.event.ThirdEvent.{ThirdEvent}
use Rattle.st_third.specs.Events as every
use Rattle.st_third.specs.Events.{ThirdWorldTurn}
use Rattle.st_third.specs.Limits.{limited_node, limited_site}
use Rattle.st_third.specs.World.{ThirdWorld}
use Rattle.st_laws_third.proofs.DemandsSeen.{People}
use Rattle.st_laws_third.proofs.EventWalk.{EventLawOf}
use Rattle.st_laws_third.proofs.EventWalk.{walk_by_event}
use Rattle.st_laws_third.proofs.Sound.{Sound}
use Rattle.st_laws_leaving.specs.Quiet.{Standing}
use Rattle.st_laws_leaving.proofs.Posts.{lost_sent}
use Rattle.st_laws_leaving.proofs.Betweens.{standing_as}
use Rattle.st_laws_leaving.proofs.TakesStanding.{takes_standing}
use Rattle.st_laws_leaving.proofs.ServesStanding.{serves_standing}
use Rattle.st_laws_leaving.proofs.BeginsStanding.{begun_standing, server_standing}

-- Each event.

abbrev Stands : ThirdWorld → ThirdWorldTurn → Type 0
Stands w sc = Sound w → People w → Standing w.world → Standing sc.third.world

pub twice_own : {A : Type 0} (xs : List A) (n : ℕ) (old mid new : A) → numbered xs n ≡ Some old →
    numbered (with_numbered n new (with_numbered n mid xs)) n ≡ Some new
twice_own xs n old mid new e = numbered_own (with_numbered n mid xs) n new mid (numbered_own xs n mid old e)

pub twice_other : {A : Type 0} (xs : List A) (n k : ℕ) (old mid new : A) → numbered xs n ≡ Some old → k ≢ n →
    numbered (with_numbered n new (with_numbered n mid xs)) k ≡ numbered xs k
twice_other xs n k old mid new e ne =
    let l : 1 ≤ n = (numbered_below xs n old e).0 in numbered_other (with_numbered n mid xs) n k new l ne ∙ numbered_other xs n k mid l ne

standing_law : (e : ThirdEvent) → EventLawOf e Stands
unfolding ev.advances ev.effects ev.marks ev.crashes_client ev.crashes_server ev.starts_client ev.starts_server every.client_begins every.server_begins
    server.crash
    server.start server.begin_epoch plain.crash plain.start
standing_law e =
    record {
      still = λ w so pe st. st;
      takes = λ w c old site b input there same q why r so pe st. takes_standing e w so pe st c old site b input there same q why;
      serves = λ w s node input there why up so pe st. serves_standing e w so pe st s node input there why up;
      loses = λ w k m q so pe st. standing_as w.world _ refl refl (lost_sent w.world k m q) st;
      cuts = λ w from to so pe st. standing_as w.world _ refl refl (λ m h. h) st;
      heals = λ w from to so pe st. standing_as w.world _ refl refl (λ m h. h) st;
      advances = λ w steps so pe st. standing_as w.world _ refl refl (λ m h. h) st;
      effects = λ w k so pe st. standing_as w.world _ refl refl (λ m h. h) st;
      reports =
          λ w k ok sc which h so pe st. h (record { fits = record { sites = so.fits.sites; there = so.fits.there; pairs = so.fits.pairs }; form = so.form })
          (record { asks = pe.asks; ids = pe.ids; servers = pe.servers; few = pe.few }) (standing_as w.world _ refl refl (λ m i. i) st);
      client_crashes =
          λ w c site q so pe st. let mid : WorldClient = ev.stopped_site site in
          begun_standing w.world _ c site (limited_site w.limits mid) q (twice_own w.world.clients c.0 site mid (limited_site w.limits mid) q)
          (λ n ne. twice_other w.world.clients c.0 n site mid (limited_site w.limits mid) q ne) refl (λ m h. h) plain.crashed_association w.limits refl
          (λ a. refl) (λ a. refl) (λ a. omega arith) (λ r. false_not_true r) (pe.few c.0 site q) st;
      server_crashes =
          λ w s node q so pe st. let mid : ServerNode = server.crash_node node in
          server_standing w.world _ s node (limited_node w.limits mid) q (twice_own w.world.servers s.0 node mid (limited_node w.limits mid) q)
          (λ n ne. twice_other w.world.servers s.0 n node mid (limited_node w.limits mid) q ne) refl (λ m h. h) refl refl refl refl refl (omega arith)
          (λ r. false_not_true r) st;
      client_starts =
          λ w c site q which so pe st. let mid : WorldClient = ev.started_site site in
          begun_standing w.world _ c site (limited_site w.limits mid) q (twice_own w.world.clients c.0 site mid (limited_site w.limits mid) q)
          (λ n ne. twice_other w.world.clients c.0 n site mid (limited_site w.limits mid) q ne) refl (λ m h. h) plain.started_association w.limits refl
          (λ a. refl) (λ a. refl) (λ a. omega arith) (λ r a. omega arith) (pe.few c.0 site q) st;
      server_starts =
          λ w s node q which so pe st. let mid : ServerNode = server.start_node node (clock_of w.world (nodes.Server s)) in
          server_standing w.world _ s node (limited_node w.limits mid) q (twice_own w.world.servers s.0 node mid (limited_node w.limits mid) q)
          (λ n ne. twice_other w.world.servers s.0 n node mid (limited_node w.limits mid) q ne) refl (λ m h. h) refl refl refl refl refl (omega arith)
          (λ r. omega arith) st;
    }

pub stands_on : (w : ThirdWorld) (e : ThirdEvent) → Sound w → People w → Standing w.world → Standing (every.happens w e).third.world
stands_on w e so = walk_by_event e Stands (standing_law e) w so.form so
