-- Operations are answered before or after the rest is emptied: what is left is the same.
use Rattle.st_lemmas.proofs.Words
use Words.{◌≡◌, ℕ, Bool, true, false, List, [], ◌∷◌, refl, ap, ◌∙◌, if◌then◌else◌, filter, not, Some, None, FileId, Ask, Operation}
use Words.answers
use Words.asks
use Words.notes
use Words.Client.{empty_here, end_each, end_operation, end_operations, end_sync, end_unsent, lose_session, enqueue, take_ask, take_by, take_sync, tell_lost}
use Words.Client.{with_lost_pages}
use Words.ClientPages.{has_lost}
use Words.ClientState.{ClientSession, Turn, answered, is_of, is_sent, note, with_operations}
use Rattle.st_client_rules.specs.Inputs.{session_in, synced}

sync_empty : (t : Turn) (o : Operation) (f : FileId) → end_sync (empty_here t) o f ≡ empty_here (end_sync t o f)
unfolding end_sync tell_lost
sync_empty t o f = by (has_lost t.here.lost f.ino)
  where
    by : (b : Bool) → (if b then tell_lost (empty_here t) o.op f.ino else answered (empty_here t) o.op answers.Quiesced) ≡ empty_here (if b then tell_lost t o.op f.ino else answered t o.op answers.Quiesced)
    by true = refl
    by false = refl

unsent_empty : (t : Turn) (o : Operation) (ask : Ask) → end_unsent (empty_here t) o ask ≡ empty_here (end_unsent t o ask)
unfolding end_unsent
unsent_empty t o (asks.Sync f) = sync_empty t o f
unsent_empty t o (asks.Write f p bytes) = refl
unsent_empty t o (asks.Read f p) = refl
unsent_empty t o (asks.Cut f p) = refl
unsent_empty t o (asks.Name s ask) = refl
unsent_empty t o (asks.Patch f p at bytes) = refl

operation_empty : (t : Turn) (s : ClientSession) (o : Operation) → end_operation (empty_here t) (session_in s.epoch) o ≡ empty_here (end_operation t s o)
unfolding end_operation
operation_empty t s o = by (is_sent o)
  where
    by : (b : Bool) → (if b then answered (empty_here t) o.op (answers.Uncertain s.epoch.0 0) else end_unsent (empty_here t) o o.ask)
        ≡ empty_here (if b then answered t o.op (answers.Uncertain s.epoch.0 0) else end_unsent t o o.ask)
    by true = refl
    by false = unsent_empty t o o.ask

each_empty : (s : ClientSession) (os : List Operation) (t : Turn) → end_each (session_in s.epoch) os (empty_here t) ≡ empty_here (end_each s os t)
unfolding end_each
each_empty s [] t = refl
each_empty s (o ∷ os) t = ap (end_each (session_in s.epoch) os) (operation_empty t s o) ∙ each_empty s os (end_operation t s o)

-- a lost session
pub lost_is : (t new : Turn) (s : ClientSession) → new ≡ empty_here (with_lost_pages t.here.store (note t (notes.Lost t.here.server t.here.life))) →
    end_operations new (session_in s.epoch) ≡ lose_session t s
unfolding end_operations lose_session
lost_is t new s n =
    ap (λ z. end_operations z (session_in s.epoch)) n
    ∙ each_empty s (filter (is_of t.here.server) t.operations)
    (with_operations (filter (λ o. not (is_of t.here.server o)) t.operations) (with_lost_pages t.here.store (note t (notes.Lost t.here.server t.here.life))))

-- an ask, by whether it is a sync
pub sync_is : (t : Turn) (op : ℕ) (ask : Ask) (f : FileId) → Some f ≡ synced ask → take_sync t op ask f ≡ take_ask op ask t
unfolding take_ask take_by
sync_is t op (asks.Sync g) f e = ap (take_sync t op (asks.Sync g)) (some_is e)
  where
    some_is : {x y : FileId} → Some x ≡ Some y → x ≡ y
    some_is e = cc
sync_is t op (asks.Write g p bytes) f e = cc
sync_is t op (asks.Read g p) f e = cc
sync_is t op (asks.Cut g p) f e = cc
sync_is t op (asks.Name s ask) f e = cc
sync_is t op (asks.Patch g p at bytes) f e = cc

pub other_is : (t : Turn) (op : ℕ) (ask : Ask) → None ≡ synced ask → enqueue t op ask ≡ take_ask op ask t
unfolding take_ask take_by
other_is t op (asks.Sync g) e = cc
other_is t op (asks.Write g p bytes) e = refl
other_is t op (asks.Read g p) e = refl
other_is t op (asks.Cut g p) e = refl
other_is t op (asks.Name s ask) e = refl
other_is t op (asks.Patch g p at bytes) e = refl
