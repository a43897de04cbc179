-- What a client of the third form does with a server's message is a list of changes.
use Rattle.st_lemmas.proofs.Words
use Words.{◌≡◌, ◌⊎◌, ℕ, Bool, true, false, ◌==◌, Option, Some, None, refl, sym, ap, ◌∙◌, subst, inl, inr, if◌then◌else◌, is_some, eqb-true, ltb-true, nat_le}
use Words.{nat_lt, Asked, Body, Epoch, GrantNo, Header, HeldLock, Mode, Request, Stamp, Why}
use Words.bodies
use Words.modes
use Words.why
use Words.ClientLocks as locks
use Words.ClientReplies as replies
use Words.ClientState as cs
use Words.ClientState.{Association, ClientSession, fits, send, with_cache, with_release, with_session}
use Words.Keys.{server_node}
use Words.Lists.{Has}
use Words.Tables.{and_true}
use Rattle.st_rules.specs.declared.client.Asked.TheVariants.{Reduce, NotHeld, Stale}
use Rattle.st_laws_steps.specs.Client.Client as client
use Rattle.st_laws_steps.specs.Client.Client.{map_asked, with_greeted}
use Rattle.st_laws_steps.specs.Client.Losses.{AskedFresh, SessionFresh}
use Rattle.st_laws_steps.proofs.Client.Changes.{goes_keeps}
use Rattle.st_laws_steps.proofs.Client.Replying.{Fresh, alike_demanded, alike_unheld, session_ended}
use Rattle.st_third.specs.Limits.{limited_session}
use Rattle.st_third.specs.Replies as third
use Rattle.st_third.specs.Runs as runs
use Rattle.st_third.specs.State.{ThirdTurn, fresh_beside, plainly, session}
use Rattle.st_lemmas.proofs.Puts.{has_put}
use Rattle.st_laws_third.specs.Changes.{HeardMessage, ThirdChanges, Begins, FreeRun, GoesOnBy, Heard, Hears, IsDemanded, LockFrom, SameEpoch, Sees, IsBeside, Plainly, Still}
use Rattle.st_laws_third.specs.Changes.{WasHeld, WholeRun, bounds, with_plain}
use Rattle.st_laws_third.proofs.Chains.{Old, both, by_rule, either, old_both, old_one, old_still, one, same_locks}
use Rattle.st_laws_third.proofs.GivingBack.{is_full_at}
use Rattle.st_laws_third.proofs.Replying.{ends_request, of_other_epoch, still_hears}
use Rattle.st_laws_third.proofs.Replying.{condemns as condemns_lease, counts as counts_as_before}
use Rattle.st_laws_third.proofs.UsedOnce.{grants}

module _ (got : Heard) (now : Stamp) where
  abbrev C : ThirdTurn → ThirdTurn → Type 0
  C t u = ThirdChanges got now t u

  -- the server says this
  abbrev Said : ThirdTurn → ℕ → Body → Type 0
  Said t epoch b = Hears got t.plain.here epoch b

  -- Without a session.

  begins : (t : ThirdTurn) (epoch : Epoch) (stamp : Stamp) → session t ≡ None → third.is_fresh t.plain now stamp ≡ true →
      Said t epoch.0 bodies.Welcome → C t (third.begin_session t epoch stamp)
  unfolding plainly replies.note_lease
  begins t epoch stamp e f h =
      let u : ThirdTurn = with_plain (with_greeted None t.plain) t in
      let s : ClientSession = limited_session t.limits (replies.new_session epoch stamp) in
      let v : ThirdTurn = with_plain (with_session s u.plain) u in
      both (one (Plainly t _ (client.Greets t.plain None) tt))
      (both (one (Begins u epoch stamp e (ltb-true now.0 _ (and_true (is_some t.plain.here.greeting) _ f).1)
      (record { message = h.message; is = h.is; from = h.from; life = h.life; in_epoch = h.in_epoch; body = h.body })))
      (both (one (Plainly v _ (client.Says v.plain _ tt) tt)) (one (IsBeside _ fresh_beside (WholeRun refl)))))

  without : (t : ThirdTurn) (h : Header) (body : Body) → session t ≡ None → Said t h.epoch body → C t (third.without_session t now h body)
  unfolding third.without_session third.welcome
  without t h bodies.Welcome e x =
      let stamp : Stamp = record { 0 = h.stamp } in
      either (third.is_fresh t.plain now stamp) t _ _ (λ f. begins t (record { 0 = h.epoch }) stamp e f x) (λ f. Still t)
  without t h body e x = Still t

  -- With a session.

  module _ (s : ClientSession) where
    -- the lock that is demanded has the number of the demand, and the others were there
    is_demanded : (a : Association) (epoch ino : ℕ) (g : GrantNo) (to : Mode) → Hears got a epoch (bodies.Demand ino g to) →
        GoesOnBy got a (Some s) (with_cache (locks.demand s.locks ino g to).locks s)
    unfolding locks.demand locks.demand_at locks.demand_held locks.demand_lock locks.demand_stale locks.demand_unheld locks.observe
    is_demanded a epoch ino g to h = at (locks.lock_of s.locks ino)
      where
        put_in : (l k : HeldLock) → (k ≡ locks.held_lock ino g l.mode) ⊎ Has k s.locks.rows → LockFrom got a s.locks.rows k
        put_in l k (inl e) = subst (LockFrom got a s.locks.rows) (sym e) (IsDemanded epoch to h)
        put_in l k (inr i) = WasHeld k i refl refl

        held : (l : HeldLock) (b : Bool) → GoesOnBy got a (Some s) (with_cache (if b then locks.demand_lock s.locks ino g to l else locks.demand_stale s.locks).locks s)
        held l false = same_locks a s _ refl refl
        held l true =
            record {
              locks = λ k i. put_in l k (has_put (locks.is_lock_on ino) (locks.held_lock ino g l.mode) s.locks.rows k i);
              epoch = SameEpoch s refl refl;
            }

        at : (o : Option HeldLock) → GoesOnBy got a (Some s) (with_cache (locks.demand_at s.locks ino g to o).locks s)
        at None = same_locks a s _ refl refl
        at (Some l) = held l (nat_le l.g.0 g.0)

    demands : (t : ThirdTurn) (epoch ino : ℕ) (g : GrantNo) (to : Mode) → session t ≡ Some s → Said t epoch (bodies.Demand ino g to) →
        C t (third.demand t s ino g to)
    unfolding third.demand replies.observe_demand replies.demand_as replies.release_unheld send
    demands t epoch ino g to e h =
        by_rule t (third.demand_by s ino g (locks.demand s.locks ino g to)) (go (locks.demand s.locks ino g to).asked)
      where
        r : ClientSession
        r = with_cache (locks.demand s.locks ino g to).locks s

        by : GoesOnBy got t.plain.here (Some s) r
        by = is_demanded t.plain.here epoch ino g to h

        unheld : (b : Bool) → GoesOnBy got t.plain.here (Some s) (if b then r else with_release ino g modes.None r)
        unheld true = by
        unheld false = record { locks = by.locks; epoch = SameEpoch s refl refl }

        goes : (u : ClientSession) → Rattle.st_laws_steps.specs.Client.Session.AsksNothing t.plain.here.store.extents s u → GoesOnBy got t.plain.here (Some s) u →
            Old (bounds got t) now t.plain (with_session u t.plain)
        goes u a y = old_one (client.Follows t.plain s u e (goes_keeps t.plain.here.store s u a)) (tt, y)

        seen : (u : ClientSession) → Old (bounds got t) now t.plain (with_session u t.plain) →
            Old (bounds got t) now t.plain (replies.observe_demand t.plain u ino g)
        seen u c = old_both c (old_one (client.Says (with_session u t.plain) _ tt) (Sees u ino g refl))

        go : (a : Asked) → Old (bounds got t) now t.plain (third.demand_as r ino g a t.plain)
        go Reduce = seen r (goes r (alike_demanded t.plain.here.store.extents s ino g to) by)
        go NotHeld =
            seen (replies.release_unheld r ino g)
            (goes (replies.release_unheld r ino g) (alike_unheld t.plain.here.store.extents s ino g to) (unheld (replies.has_release r ino g)))
        go Stale = old_still t.plain

    ends : (t : ThirdTurn) (stamp : Stamp) → session t ≡ Some s → C t (third.end_request t s stamp)
    ends t stamp e = by_rule t (third.request_ended s stamp) (ends_request (bounds got t) now t.plain s stamp e)

    ended : (t : ThirdTurn) (stamp : Stamp) → session (third.end_request t s stamp) ≡ Some (replies.ended_by stamp s)
    unfolding plainly
    ended t stamp = session_ended now t.plain s stamp

    -- the outstanding request is for this
    abbrev Asked_for : Body → Type 0
    Asked_for asked = (q : Request) × (s.requests.asked ≡ Some q) × (q.body ≡ asked)

    counts : (t : ThirdTurn) (epoch : ℕ) (stamp : Stamp) (reply asked : Body) → Asked_for asked → session t ≡ Some s → fits reply asked ≡ true →
        Fresh t.plain.here.store asked → Said t epoch reply → C t (plainly (third.plain_reply s now stamp reply asked) t)
    counts t epoch stamp reply asked x e f fr h = by_rule t (third.plain_reply s now stamp reply asked)
        (counts_as_before (bounds got t) now t.plain s epoch stamp reply asked (x.0, x.1) e f fr h)

    refuses : (t : ThirdTurn) (epoch : ℕ) (stamp : Stamp) (w : Why) (a b : ℕ) (asked : Body) → Asked_for asked → session t ≡ Some s →
        fits (bodies.Nack w a b) asked ≡ true →
        Fresh t.plain.here.store asked → Said t epoch (bodies.Nack w a b) → C t (third.refused t s now stamp w a b asked)
    unfolding third.refused third.no_space plainly
    refuses t epoch stamp why.TooManyLocks a b (bodies.Acquire ino mode) x e f fr h =
        both (ends t stamp e) (is_full_at (replies.ended_by stamp s) (third.end_request t s stamp) ino (ended t stamp))
    refuses t epoch stamp why.NoSpace free wanted (bodies.Allocate ino g p count) x e f fr h =
        either (runs.is_partly_free free count) t _ _
        (λ q. both
        (one (IsBeside t _ (FreeRun s x.0 ino g p count e x.1 x.2 (ltb-true free count (and_true (nat_lt 0 free) (nat_lt free count) q).1))))
        (ends (runs.with_run_limit free t) stamp e))
        (λ q. counts t epoch stamp (bodies.Nack why.NoSpace free wanted) (bodies.Allocate ino g p count) x e f fr h)
    refuses t epoch stamp w a b asked x e f fr h = counts t epoch stamp (bodies.Nack w a b) asked x e f fr h

    replies_to : (t : ThirdTurn) (epoch : ℕ) (stamp : Stamp) (reply asked : Body) → Asked_for asked → session t ≡ Some s → fits reply asked ≡ true →
        Fresh t.plain.here.store asked → Said t epoch reply → C t (third.count_reply t s now stamp reply asked)
    unfolding third.count_reply runs.run_restored plainly
    replies_to t epoch stamp (bodies.Granted ino g mode) asked x e f fr h =
        both (ends t stamp e)
        (grants (third.end_request t s stamp) (replies.ended_by stamp s) epoch ino g mode (ended t stamp)
        (still_hears (bounds got t) now t.plain s stamp epoch (bodies.Granted ino g mode) h))
    replies_to t epoch stamp (bodies.Extents ino rows) asked x e f fr h =
        let u : ThirdTurn = plainly (third.plain_reply s now stamp (bodies.Extents ino rows) asked) t in
        both (counts t epoch stamp (bodies.Extents ino rows) asked x e f fr h)
        (either (runs.is_allocated s asked) u _ _ (λ q. one (IsBeside u _ (WholeRun refl))) (λ q. Still u))
    replies_to t epoch stamp (bodies.Nack w a b) asked x e f fr h = refuses t epoch stamp w a b asked x e f fr h
    replies_to t epoch stamp reply asked x e f fr h = counts t epoch stamp reply asked x e f fr h

    replied : (t : ThirdTurn) (h : Header) (reply : Body) → session t ≡ Some s → AskedFresh t.plain.here.store s.requests.asked → Said t h.epoch reply →
        C t (third.reply_of t s now h reply)
    unfolding third.reply_of third.counted third.by_request
    replied t h reply e fr x = go s.requests.asked refl
      where
        go : (o : Option Request) → s.requests.asked ≡ o → C t (third.counted t s now h.number (record { 0 = h.stamp }) reply o)
        go None q = Still t
        go (Some r) q =
            either (replies.is_counting h.number reply r) t _ _
            (λ b. replies_to t h.epoch (record { 0 = h.stamp }) reply r.body (r, q, refl) e (and_true (cs.is_request_of h.number r) (fits reply r.body) b).1
            (λ y i. fr y (ap map_asked q ∙ i)) x) (λ b. Still t)

    condemns : (t : ThirdTurn) → session t ≡ Some s → C t (plainly (third.condemned s) t)
    condemns t e = by_rule t (third.condemned s) (condemns_lease (bounds got t) now t.plain s e)

    nacks : (t : ThirdTurn) (h : Header) (w : Why) (a b : ℕ) → session t ≡ Some s → AskedFresh t.plain.here.store s.requests.asked →
        Said t h.epoch (bodies.Nack w a b) → C t (third.nack t s now h w a b)
    unfolding third.nack
    nacks t h why.Suspect a b e fr x = condemns t e
    nacks t h why.NoSession a b e fr x = condemns t e
    nacks t h why.OtherEpoch a b e fr x = Still t
    nacks t h why.Grace a b e fr x = Still t
    nacks t h why.GraceOver a b e fr x = condemns t e
    nacks t h why.Conflict a b e fr x = condemns t e
    nacks t h w a b e fr x = replied t h (bodies.Nack w a b) e fr x

    hears : (t : ThirdTurn) (h : Header) (body : Body) → session t ≡ Some s → AskedFresh t.plain.here.store s.requests.asked → Said t h.epoch body →
        C t (third.of_epoch t s now h body)
    unfolding third.of_epoch third.grant_or_reply
    hears t h (bodies.Nack w a b) e fr x = nacks t h w a b e fr x
    hears t h (bodies.Granted ino g mode) e fr x =
        either (h.number == 0) t _ _ (λ b. grants t s h.epoch ino g mode e x) (λ b. replied t h (bodies.Granted ino g mode) e fr x)
    hears t h (bodies.Demand ino g to) e fr x = demands t h.epoch ino g to e x
    hears t h body e fr x = replied t h body e fr x

pub receives : (now : Stamp) (h : Header) (body : Body) (t : ThirdTurn) → SessionFresh t.plain.here.store (session t) →
    ThirdChanges (Some (HeardMessage (record { header = h; body = body }))) now t (third.receive_at now h body t)
unfolding third.receive_at third.by_session third.with_a_session
receives now h body t fr = either (replies.is_received t.plain now h) t _ _ (λ b. go (said b) (session t) refl fr) (λ b. Still t)
  where
    got : Heard
    got = Some (HeardMessage (record { header = h; body = body }))

    said : replies.is_received t.plain now h ≡ true → Hears got t.plain.here h.epoch body
    said b =
        let x = and_true (h.from == server_node t.plain.here.server) _ b in
        let y = and_true (h.life == t.plain.here.life.0) _ x.1 in
        record {
          message = record { header = h; body = body };
          is = refl;
          from = eqb-true h.from (server_node t.plain.here.server) x.0;
          life = eqb-true h.life t.plain.here.life.0 y.0;
          in_epoch = refl;
          body = refl;
        }

    go : Hears got t.plain.here h.epoch body → (x : Option ClientSession) → session t ≡ x → SessionFresh t.plain.here.store x →
        ThirdChanges got now t (third.by_session t now h body x)
    go i None e fr = without got now t h body e i
    go i (Some s) e fr =
        either (h.epoch == s.epoch.0) t _ _ (λ b. hears got now s t h body e fr i)
        (λ b. by_rule t (third.of_other_epoch s (record { 0 = h.epoch }) body) (of_other_epoch (bounds got t) now t.plain s _ body e i))
