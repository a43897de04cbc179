-- Losses, asks and ends of commands leave all that a client keeps and sends in the ranges of messages.
use Rattle.st_lemmas.proofs.Words
use Words.{◌≡◌, ℕ, ◌+◌, Bool, true, false, not, List, [], ◌∷◌, refl, arith, filter, Option, Some, None, Tag, FileId, ServerId, Stamp, Ask, Ended, IoKind}
use Words.{Operation, PageCommand}
use Words.answers
use Words.asks
use Words.notes
use Words.outputs
use Words.Ranges.{is_ask}
use Words.ends.{Unknown, Filled, Hard, Redirty, Failed}
use Words.io.{Read, Write}
use Words.Client as rules
use Words.Client.{filled_by, hardened, mark_failed, failed_as, finish_as, ended_by, finish_command, done_by, finish_by, finish_at, finish, tell_lost, end_sync}
use Words.Client.{end_unsent, end_operation, end_each, end_operations, lose_session, lose_over, lose_by, lose, enqueue, take_sync, take_by, take_ask}
use Words.ClientPages as pages
use Words.ClientState.{ClientSession, Turn, is_at, is_of, is_sent, new_operation, note, only_at, with_operations}
use Words.Tests.{all_last}
use Words.Truth.{if_either}
use Rattle.st_client.proofs.SoundLists.{all_filter}
use Rattle.st_client.proofs.SoundMessages.{Fit, FitIn, says_fit, told_fit}
use Rattle.st_client.specs.Invariants.{is_sound_operation}

-- Ends of commands.

filled_fit : (most : ℕ) (t : Turn) (c : PageCommand) (block : Option (Tag × List ℕ)) → Fit most t → Fit most (filled_by t c block)
unfolding filled_by
filled_fit most t c None h = h
filled_fit most t c (Some block) h = h

marked_fit : (most : ℕ) (t : Turn) (c : PageCommand) (version : ℕ) → Fit most t → Fit most (mark_failed t c version)
unfolding mark_failed
marked_fit most t c version h = if_either (Fit most) (rules.is_present t c version) (rules.with_failed c t) t h h

failed_fit : (most : ℕ) (t : Turn) (c : PageCommand) (kind : IoKind) → Fit most t → Fit most (failed_as t c kind)
unfolding failed_as
failed_fit most t c Read h = told_fit most _ _ t h
failed_fit most t c (Write version) h = told_fit most _ _ (mark_failed t c version) (marked_fit most t c version h)

finished_fit : (most : ℕ) (t : Turn) (c : PageCommand) (block : Option (Tag × List ℕ)) (ended : Ended) → Fit most t → Fit most (finish_as t c block ended)
unfolding finish_as hardened
finished_fit most t c block Unknown h = h
finished_fit most t c block Filled h = filled_fit most t c block h
finished_fit most t c block Hard h = h
finished_fit most t c block Redirty h = h
finished_fit most t c block Failed h = failed_fit most t c c.kind h

command_fit : (most : ℕ) (t : Turn) (c : PageCommand) (ok : Bool) (block : Option (Tag × List ℕ)) → Fit most t → Fit most (finish_command t c ok block)
unfolding finish_command ended_by
command_fit most t c ok block h =
    let e = pages.end_command t.here.store.commands c.number ok (pages.version_of t.here.store.pages c.ino c.page) in
    finished_fit most (rules.with_commands e.commands t) c block e.ended h

finish_by_fit : (most : ℕ) (t : Turn) (c : PageCommand) (result : Option (Option (Tag × List ℕ))) → Fit most t → Fit most (finish_by t c result)
unfolding finish_by done_by
finish_by_fit most t c None h = command_fit most t c false None h
finish_by_fit most t c (Some block) h = if_either (Fit most) (rules.is_result_of c.kind block) (finish_command t c true block) t
    (command_fit most t c true block h) h

finish_at_fit : (most : ℕ) (t : Turn) (c : Option PageCommand) (result : Option (Option (Tag × List ℕ))) → Fit most t → Fit most (finish_at t c result)
unfolding finish_at
finish_at_fit most t None result h = h
finish_at_fit most t (Some c) result h = finish_by_fit most t c result h

pub finish_fit : (most number : ℕ) (result : Option (Option (Tag × List ℕ))) (t : Turn) → Fit most t → Fit most (finish number result t)
unfolding finish
finish_fit most number result t h = finish_at_fit most t (pages.command_of t.here.store.commands number) result h

-- Asks.

tell_fit : (most : ℕ) (t : Turn) (op ino : ℕ) → Fit most t → Fit most (tell_lost t op ino)
unfolding tell_lost
tell_fit most t op ino h = says_fit most t (outputs.Answer op (answers.Lost (pages.told_rows t.here.lost ino))) refl h

pend_fit : (most : ℕ) (t : Turn) (op : ℕ) (ask : Ask) → is_ask ask ≡ true → Fit most t → Fit most (enqueue t op ask)
unfolding enqueue
pend_fit most t op ask a h = record { id = h.id; here = h.here; operations = all_last is_sound_operation t.operations (new_operation op ask) h.operations a; out = h.out }

take_fit : (most : ℕ) (t : Turn) (op : ℕ) (ask other : Ask) → is_ask ask ≡ true → Fit most t → Fit most (take_by t op ask other)
unfolding take_by take_sync
take_fit most t op ask (asks.Sync f) a h = if_either (Fit most) (pages.has_lost t.here.lost f.ino) (tell_lost t op f.ino) (enqueue t op ask)
    (tell_fit most t op f.ino h) (pend_fit most t op ask a h)
take_fit most t op ask other a h = pend_fit most t op ask a h

pub asked_fit : (most : ℕ) (s : ServerId) (op : ℕ) (ask : Ask) → is_ask ask ≡ true → (t : Turn) → Fit most t → Fit most (only_at s (take_ask op ask) t)
unfolding only_at take_ask
asked_fit most s op ask a t h = if_either (Fit most) (is_at s t.here) (take_by t op ask ask) t (take_fit most t op ask ask a h) h

-- Losses.

end_sync_fit : (most : ℕ) (t : Turn) (o : Operation) (f : FileId) → Fit most t → Fit most (end_sync t o f)
unfolding end_sync
end_sync_fit most t o f h = if_either (Fit most) (pages.has_lost t.here.lost f.ino) (tell_lost t o.op f.ino) _ (tell_fit most t o.op f.ino h)
    (says_fit most t _ refl h)

end_unsent_fit : (most : ℕ) (t : Turn) (o : Operation) (ask : Ask) → Fit most t → Fit most (end_unsent t o ask)
unfolding end_unsent
end_unsent_fit most t o (asks.Sync f) h = end_sync_fit most t o f h
end_unsent_fit most t o ask h = says_fit most t _ refl h

end_operation_fit : (most : ℕ) (t : Turn) (s : ClientSession) (o : Operation) → Fit most t → Fit most (end_operation t s o)
unfolding end_operation
end_operation_fit most t s o h = if_either (Fit most) (is_sent o) _ (end_unsent t o o.ask) (says_fit most t _ refl h) (end_unsent_fit most t o o.ask h)

end_each_fit : (most : ℕ) (s : ClientSession) (os : List Operation) (t : Turn) → Fit most t → Fit most (end_each s os t)
unfolding end_each
end_each_fit most s [] t h = h
end_each_fit most s (o ∷ os) t h = end_each_fit most s os (end_operation t s o) (end_operation_fit most t s o h)

end_operations_fit : (most : ℕ) (t : Turn) (s : ClientSession) → Fit most t → Fit most (end_operations t s)
unfolding end_operations
end_operations_fit most t s h =
    end_each_fit most s (filter (is_of t.here.server) t.operations) (with_operations (filter (λ o. not (is_of t.here.server o)) t.operations) t)
    (record { id = h.id; here = h.here; operations = all_filter is_sound_operation (λ o. not (is_of t.here.server o)) t.operations h.operations; out = h.out })

-- the next life
empty_fit : (most : ℕ) (t : Turn) → Fit most t → Fit (most + 1) (rules.empty_here t)
empty_fit most t h =
    let l = h.here.life in
    let f = h.here.first in
    record { id = h.id; here = record { server = h.here.server; first = omega (arith, f); life = omega (arith, l); session = tt }; operations = h.operations; out = h.out }

session_more : (most : ℕ) (o : Option ClientSession) → FitIn most o → FitIn (most + 1) o
session_more most None h = tt
session_more most (Some s) h = let r = h.room in record { sound = h.sound; room = omega (arith, r) }

pub more_fit : (most : ℕ) (t : Turn) → Fit most t → Fit (most + 1) t
more_fit most t h =
    let l = h.here.life in
    record { id = h.id; here = record { server = h.here.server; first = h.here.first; life = omega (arith, l); session = session_more most t.here.session h.here.session }; operations = h.operations; out = h.out }

lost_fit : (most : ℕ) (t : Turn) (s : ClientSession) → Fit most t → Fit (most + 1) (lose_session t s)
unfolding lose_session
lost_fit most t s h =
    let u = rules.with_lost_pages t.here.store (note t (notes.Lost t.here.server t.here.life)) in
    empty_fit most (end_operations u s) (end_operations_fit most u s (says_fit most t _ refl h))

lose_by_fit : (most : ℕ) (t : Turn) (now : Stamp) (s : Option ClientSession) → Fit most t → Fit (most + 1) (lose_by t now s)
unfolding lose_by lose_over
lose_by_fit most t now None h = more_fit most t h
lose_by_fit most t now (Some s) h = if_either (Fit (most + 1)) (rules.is_over t s now) (lose_session t s) t (lost_fit most t s h) (more_fit most t h)

pub lose_fit : (most : ℕ) (now : Stamp) (t : Turn) → Fit most t → Fit (most + 1) (lose now t)
unfolding lose
lose_fit most now t h = lose_by_fit most t now t.here.session h
