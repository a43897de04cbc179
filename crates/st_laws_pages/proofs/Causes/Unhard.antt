-- Where no sync is answered hard: in every rule of a client but the pass over its operations.
use Rattle.st_lemmas.proofs.Words
use Words.{ℕ, Bool, true, false, not, List, [], ◌∷◌, Option, Some, None, refl, if◌then◌else◌, filter, map, Tag, ServerId, Stamp, AppAnswer, Ask, Body, Header}
use Words.{Output, Operation}
use Words.notes
use Words.outputs
use Words.Client as cl
use Words.ClientReplies as cr
use Words.ClientState as state
use Words.ClientState.{ClientSession, Turn, answer_to, only_at}
use Rattle.st_laws_steps.specs.Client.Client as client
use Rattle.st_laws_steps.specs.Client.Client.{Change, Unhard, UnhardAnswer}
use Rattle.st_laws_steps.specs.Client.Losses.{Ends, Unknown, Passes, Hardens, Fails, SessionFresh}
use Rattle.st_laws_steps.proofs.Client.Calm.{IsCalm, SaysCalm}
use Rattle.st_laws_steps.proofs.Client.Losing.{Finished, changes_by_end_each, calm_only, finish_is, is_done}
use Rattle.st_laws_steps.proofs.Client.Only.{Only, Goes}
use Rattle.st_laws_steps.proofs.Client.Only as only
use Rattle.st_laws_steps.proofs.Client.Replying.{calm_receive}
use Rattle.st_laws_pages.proofs.Causes.Placed.{EachOut, Since, since_none, since_one, since_then}

abbrev pub H : Turn → Turn → Type 0
H t u = Since Unhard t.out u.out

each_unhard : (a : AppAnswer) → UnhardAnswer a → (os : List Operation) → EachOut Unhard (map (answer_to a) os)
each_unhard a q [] = tt
each_unhard a q (o ∷ os) = record { one = q; rest = each_unhard a q os }

-- Changes that are calm.
said_calm : (receives : Bool) (o : Output) → SaysCalm receives o → Unhard o
said_calm receives (outputs.Note n) q = tt
said_calm receives (outputs.Send m) q = tt
said_calm receives (outputs.Submit number at what) q = q
said_calm receives (outputs.Answer op a) q = q

change_calm : (receives : Bool) (now : Stamp) (t u : Turn) (c : Change now t u) → IsCalm receives now t u c → H t u
change_calm receives now t _ (client.Says _ o p) q = since_one Unhard t.out o (said_calm receives o q)
change_calm receives now t _ (client.Operates _ os) q = since_none Unhard t.out
change_calm receives now t _ (client.Answers _ os ops a) q = record { more = map (answer_to a) ops; out = refl; each = each_unhard a q ops }
change_calm receives now t _ (client.Greets _ g) q = since_none Unhard t.out
change_calm receives now t _ (client.TellsLost _ lost) q = since_none Unhard t.out
change_calm receives now t _ (client.Begins _ s a b c) q = since_none Unhard t.out
change_calm receives now t _ (client.Follows _ s u e g) q = since_none Unhard t.out
change_calm receives now t _ (client.Learns _ e a b) q = since_none Unhard t.out
change_calm receives now t _ (client.Forgets _ ino p i) q = absurd q
change_calm receives now t _ (client.Caches _ clean) q = since_none Unhard t.out
change_calm receives now t _ (client.Writes _ s f p bytes n se sv own m h) q = absurd q
change_calm receives now t _ (client.Reads _ ino p m i clean) q = absurd q
change_calm receives now t _ (client.Submits _ s ino p d m se e i w) q = absurd q

changes_calm : (receives : Bool) (now : Stamp) (t u : Turn) → Only (IsCalm receives) now t u → H t u
changes_calm receives now t _ (only.Ends _) = since_none Unhard t.out
changes_calm receives now t v (Goes _ u _ c q r) = since_then Unhard t.out u.out v.out (change_calm receives now t u c q) (changes_calm receives now u v r)

-- The rules.
pub unhard_kept_by_receive : (now : Stamp) (h : Header) (b : Body) (t : Turn) → SessionFresh t.here.store t.here.session → H t (cr.receive_at now h b t)
unhard_kept_by_receive now h b t f = changes_calm true now t (cr.receive_at now h b t) (calm_receive now h b t f)

ends_unhard : (number : ℕ) (ok : Bool) (t u : Turn) → Ends number ok t u → H t u
unfolding cl.hardened
ends_unhard number ok t _ Unknown = since_none Unhard t.out
ends_unhard number ok t _ (Passes c e o) = since_none Unhard t.out
ends_unhard number ok t _ (Hardens c v e o k w) = since_none Unhard t.out
ends_unhard number ok t _ (Fails c v e o k w) = since_none Unhard t.out

finished_unhard : (now : Stamp) (number : ℕ) (ok : Bool) (t u : Turn) → Finished now number ok t u → H t u
finished_unhard now number ok t u f = since_then Unhard t.out f.mid.out u.out (ends_unhard number ok t f.mid f.ends) (changes_calm false now f.mid u f.calm)

pub unhard_kept_by_finish : (number : ℕ) (r : Option (Option (Tag × List ℕ))) (t : Turn) → H t (cl.finish number r t)
unhard_kept_by_finish number r t = finished_unhard (record { 0 = 0 }) number (is_done r) t (cl.finish number r t) (finish_is (record { 0 = 0 }) number r t)

pub unhard_kept_by_lose : (now : Stamp) (t : Turn) → H t (cl.lose now t)
unfolding cl.lose cl.lose_by cl.lose_over cl.lose_session cl.end_operations
unhard_kept_by_lose now t = go t.here.session
  where
    session : (s : ClientSession) → H t (cl.lose_session t s)
    session s =
        let begun : Turn = state.with_operations (filter (λ o. not (state.is_of t.here.server o)) t.operations) (cl.with_lost_pages t.here.store (state.note t (notes.Lost t.here.server t.here.life))) in
        let os = filter (state.is_of t.here.server) t.operations in
        since_then Unhard t.out begun.out (cl.end_each s os begun).out (since_one Unhard t.out (outputs.Note (notes.Lost t.here.server t.here.life)) tt) (changes_calm false now begun (cl.end_each s os begun) (changes_by_end_each now s os begun))

    over : (s : ClientSession) (b : Bool) → H t (if b then cl.lose_session t s else t)
    over s true = session s
    over s false = since_none Unhard t.out

    go : (o : Option ClientSession) → H t (cl.lose_by t now o)
    go None = since_none Unhard t.out
    go (Some s) = over s (cl.is_over t s now)

pub unhard_kept_by_ask : (s : ServerId) (op : ℕ) (ask : Ask) (t : Turn) → H t (only_at s (cl.take_ask op ask) t)
unhard_kept_by_ask s op ask t = changes_calm false (record { 0 = 0 }) t (only_at s (cl.take_ask op ask) t) (calm_only (record { 0 = 0 }) s op ask t)
