-- What laws of answers know before each event: that no request with a result is served again, the log, the epochs, and the open asks.
use Rattle.st_lemmas.proofs.Words
use Words.{◌≡◌, ℕ, ◌+◌, true, List, [], ◌∷◌, ◌++◌, Option, Some, None, Ok, list_all, Event}
use Words.Events.{WorldTurn, world_step}
use Words.History.{Traced, traced, traced_after}
use Words.Safety.{IsHead, Promise, Step, TheReportTellsTheLog, Throughout, is_event, step, steps}
use Words.World.{fresh_world}
use Rattle.st_base.specs.declared.config.Config.{Config}
use Rattle.st_protocol.specs.Assoc as net
use Rattle.st_promises.specs.Safe.{IsSafeRun}
use Rattle.st_laws_pages.specs.Asks.Law.{PlacesHold}
use Rattle.st_laws_pages.proofs.Asks.Law.{places_law}
use Rattle.st_laws_pages.proofs.Asks.World.{asks_of}
use Rattle.st_laws_refine.specs.Server.Pair.{terms_of}
use Rattle.st_laws_requests.specs.Replies.ServedRequests.{ReassertionsNew}
use Rattle.st_laws_extents.proofs.CutRequests.New.{reassertions_new}
use Rattle.st_laws_volume.specs.Asks.{HasAsksOf}
use Rattle.st_laws_volume.specs.Logs.{IsLogOf}
use Rattle.st_laws_volume.specs.Options.{OnSome}
use Rattle.st_laws_volume.specs.Witness.{Witness, begun, led_by}
use Rattle.st_laws_volume.proofs.AskedAsks.{AreOf, RightHold, right_begins, right_kept}
use Rattle.st_laws_volume.proofs.Asks.{AsksHold, asks_begin, asks_kept}
use Rattle.st_laws_volume.proofs.Logs.{LogHolds, log_begins, log_kept}
use Rattle.st_laws_volume.proofs.OpenResults.{AllFine}
use Rattle.st_laws_volume.proofs.ReadPages.{throughout_both}
use Rattle.st_laws_volume.proofs.SessionEpochs.{KnowsEpochs, knows_begin, knows_on}
use Rattle.st_laws_volume.proofs.UnservedAsks as none
use Rattle.st_laws_volume.proofs.UnservedAsks.{NoneHold, WasServed, none_begins, none_on}
use Rattle.st_volume.specs.Volume.{Volume}

pub record FactsOf (k : net.Config) (count : ℕ) (past : List Step) (t : Traced) (it : Witness) : Type 0 where
  pub unserved : NoneHold k count past t it
  pub log : LogHolds past t it
  pub knows : KnowsEpochs past t
  pub right : RightHold past t it
  pub asks : AsksHold past t it

abbrev pub Known : ℕ → Promise
Known count past x = none.Known count past x × (TheReportTellsTheLog past x × (ReassertionsNew past x × PlacesHold x.after.world))

-- of the volume, if there is one
pub record AllOf (past : List Step) (t : Traced) (v : Volume) : Type 0 where
  pub log : IsLogOf t.world.log v
  pub asked : AreOf (asks_of past) v
  pub agree : HasAsksOf t.world v
  pub fine : AllFine (WasServed past t.world) None v

pub all_of : (k : net.Config) (count : ℕ) (past : List Step) (t : Traced) (it : Witness) → FactsOf k count past t it → OnSome (AllOf past t) it.volume
all_of k count past t it h = go it.volume h.log h.right h.asks.agree h.unserved.fine
  where
    go : (o : Option Volume) → OnSome (IsLogOf t.world.log) o → OnSome (AreOf (asks_of past)) o → OnSome (HasAsksOf t.world) o →
        OnSome (AllFine (WasServed past t.world) None) o → OnSome (AllOf past t) o
    go None p q r m = tt
    go (Some v) p q r m = record { log = p; asked = q; agree = r; fine = m }

pub facts_on : (k : net.Config) (count : ℕ) (past : List Step) (t : Traced) (e : Event) (sc : WorldTurn) (it : Witness) → world_step t.world e ≡ Ok sc →
    Known count past (step t e sc) → FactsOf k count past t it →
    FactsOf k count (past ++ step t e sc ∷ []) (traced_after e t sc) (led_by it (step t e sc))
facts_on k count past t e sc it f g h =
    record {
      unserved = (none_on k count past t e sc it f g.0 h.unserved).1;
      log = log_kept past t e sc it f g.1.0 h.log;
      knows = knows_on past t e sc f g.1.1.0 h.knows;
      right = right_kept past t e sc it f tt h.right;
      asks = asks_kept past t e sc it f (g.0.1.1.0, g.1.1.1) h.asks;
    }

pub facts_begin : (k : Config) (clients servers disks blocks form : ℕ) → IsHead k clients servers disks blocks form →
    FactsOf (terms_of k) (clients + servers) [] (traced (fresh_world k clients servers disks blocks form))
    (begun (fresh_world k clients servers disks blocks form) (fresh_world k clients servers disks blocks form))
facts_begin k clients servers disks blocks form head =
    record {
      unserved = none_begins k clients servers disks blocks form head;
      log = log_begins k clients servers disks blocks form;
      knows = knows_begin k clients servers disks blocks form head;
      right = right_begins k clients servers disks blocks form;
      asks = asks_begin k clients servers disks blocks form;
    }

pub known_in : (k : Config) (clients servers disks blocks form : ℕ) (es : List Event) → IsHead k clients servers disks blocks form →
    list_all (is_event (clients + servers)) es ≡ true → IsSafeRun (fresh_world k clients servers disks blocks form) es →
    Throughout (Known (clients + servers)) [] (steps es (traced (fresh_world k clients servers disks blocks form)))
known_in k clients servers disks blocks form es head events kept =
    let t : Traced = traced (fresh_world k clients servers disks blocks form) in
    let count : ℕ = clients + servers in
    throughout_both (none.Known count) (λ past x. TheReportTellsTheLog past x × (ReassertionsNew past x × PlacesHold x.after.world)) [] (steps es t)
    (none.known_in k clients servers disks blocks form es head events kept)
    (throughout_both TheReportTellsTheLog (λ past x. ReassertionsNew past x × PlacesHold x.after.world) [] (steps es t) kept.told
    (throughout_both ReassertionsNew (λ past x. PlacesHold x.after.world) [] (steps es t) (reassertions_new k clients servers disks blocks form es head events)
    (places_law k clients servers disks blocks form es head)))
