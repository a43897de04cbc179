-- What holds of keys and of replies, with what holds of changes of names: after every event, and over whole runs.
use Rattle.st_lemmas.proofs.Words
use Words.{◌≡◌, ℕ, ◌+◌, true, List, [], ◌∷◌, ◌++◌, Ok, refl, inl, Event}
use Words.Events.{WorldTurn, world_step}
use Words.History.{Traced, traced, traced_after}
use Words.Safety.{IsHead, Step, is_event, step}
use Words.World.{fresh_world}
use Rattle.st_base.specs.declared.config.Config as base
use Rattle.st_protocol.specs.Assoc.{Config}
use Rattle.st_laws_refine.specs.Server.Pair.{terms_of}
use Rattle.st_laws_leases.specs.Sides.Law.{InEveryRun}
use Rattle.st_laws_leases.proofs.Sides.Runs.{throughout_events}
use Rattle.st_laws_names.specs.Keys.{RepliesAreOfTheirEvents}
use Rattle.st_laws_names.specs.OutstandingKeys.{KeysHaveOneOperation}
use Rattle.st_laws_names.proofs.Changes.{ChangesHold, changes_begin}
use Rattle.st_laws_names.proofs.Changes as changes
use Rattle.st_laws_names.proofs.Keys.{KeysHold, keys_begin, keys_on}
use Rattle.st_laws_names.proofs.Replies.{RepliesHold, replies_begin, replies_on}

-- All that holds after every event.
pub record FactsHold (k : Config) (count : ℕ) (past : List Step) (t : Traced) : Type 0 where
  pub changes_ : ChangesHold k count past t
  pub keys : KeysHold past t.world
  pub replies : RepliesHold past t.world

pub facts_on : (k : Config) (count : ℕ) (past : List Step) (t : Traced) (e : Event) (sc : WorldTurn) → is_event count e ≡ true → FactsHold k count past t → world_step t.world e ≡ Ok sc → FactsHold k count (past ++ step t e sc ∷ []) (traced_after e t sc)
facts_on k count past t e sc r h taken =
    record {
      changes_ = n;
      keys = keys_on k count past t e sc h.changes_.names_.all n.names_.all taken h.keys;
      replies = replies_on k count past t e sc r h.changes_.names_.all n.names_.all taken h.keys h.changes_.pairs.pasts h.replies;
    }
  where
    n : ChangesHold k count (past ++ step t e sc ∷ []) (traced_after e t sc)
    n = (changes.one k count past t e sc r h.changes_ taken).1

pub facts_begin : (k : base.Config) (clients servers disks blocks form : ℕ) → IsHead k clients servers disks blocks form → FactsHold (terms_of k) (clients + servers) [] (traced (fresh_world k clients servers disks blocks form))
facts_begin k clients servers disks blocks form head =
    record { changes_ = changes_begin k clients servers disks blocks form head; keys = keys_begin k clients servers disks blocks form; replies = replies_begin k clients servers disks blocks form }

-- The laws.
operations_one : (k : Config) (count : ℕ) (past : List Step) (t : Traced) (e : Event) (sc : WorldTurn) → is_event count e ≡ true → FactsHold k count past t → world_step t.world e ≡ Ok sc → KeysHaveOneOperation past (step t e sc) × FactsHold k count (past ++ step t e sc ∷ []) (traced_after e t sc)
operations_one k count past t e sc r h taken = (found, n)
  where
    n : FactsHold k count (past ++ step t e sc ∷ []) (traced_after e t sc)
    n = facts_on k count past t e sc r h taken

    found : KeysHaveOneOperation past (step t e sc)
    found y z i j c s life epoch number op p a b =
        n.keys.one c op p (record { at = y.after.world; among = inl (y, i, refl); server = s; life_ = life; epoch_ = epoch; number_ = number; waits = a })
        (record { at = z.after.world; among = inl (z, j, refl); server = s; life_ = life; epoch_ = epoch; number_ = number; waits = b }) (record { server = refl; life_ = refl; epoch_ = refl; number_ = refl })

replies_one : (k : Config) (count : ℕ) (past : List Step) (t : Traced) (e : Event) (sc : WorldTurn) → is_event count e ≡ true → FactsHold k count past t → world_step t.world e ≡ Ok sc → RepliesAreOfTheirEvents past (step t e sc) × FactsHold k count (past ++ step t e sc ∷ []) (traced_after e t sc)
replies_one k count past t e sc r h taken = let n = facts_on k count past t e sc r h taken in ((n.replies.replies, n.replies.once), n)

pub operations_law : InEveryRun KeysHaveOneOperation
operations_law k clients servers disks blocks form es head events =
    throughout_events (clients + servers) KeysHaveOneOperation (FactsHold (terms_of k) (clients + servers)) (operations_one (terms_of k) (clients + servers)) es events [] (traced (fresh_world k clients servers disks blocks form)) (facts_begin k clients servers disks blocks form head)

pub replies_law : InEveryRun RepliesAreOfTheirEvents
replies_law k clients servers disks blocks form es head events =
    throughout_events (clients + servers) RepliesAreOfTheirEvents (FactsHold (terms_of k) (clients + servers)) (replies_one (terms_of k) (clients + servers)) es events [] (traced (fresh_world k clients servers disks blocks form)) (facts_begin k clients servers disks blocks form head)
