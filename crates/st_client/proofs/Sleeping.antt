-- If nothing waits and nothing is due, rules do nothing.
use Rattle.st_lemmas.proofs.Words
use Words.{◌≡◌, ℕ, Bool, true, false, ◌&&◌, ◌||◌, List, [], ◌∷◌, ◌++◌, refl, sym, ap, ◌∙◌, append_assoc, Option, Some, None, ◌==◌, cond, is_some, not, list_any}
use Words.{ServerId, Stamp, Tag, Ask, Body, Header, Operation, PageCommand, Release, Request, DirtyPage}
use Words.Tables.{and_left, and_right, cond_false, not_false, not_true}
use Words.asks
use Words.Client.{finish, finish_at, is_any, is_over, lose, lose_by, lose_over, take_ask}
use Words.ClientInvariants.{lasts_here, lasts_in}
use Words.ClientLease.{is_renewing, phase_of}
use Words.ClientLocks.{demanded_files}
use Words.ClientPages.{Pages, command_of, dirty_places}
use Words.ClientPasses as passes
use Words.ClientPasses.{ask_by, ask_new, ask_next, asked_by, asks_or, first_asking, greet, greeting, greeting_by, is_greeting_due, is_old, keep_alive}
use Words.ClientPasses.{ask_for_or, may_ask, must_greet, operate, operate_by, operate_each, operate_on, operations, reduce_each, reductions, repeat, requests}
use Words.ClientPasses.{requests_at, requests_by, requests_under, write_each, writes, writes_by}
use Words.ClientReplies.{receive_at, is_received}
use Words.ClientState.{ClientSession, Turn, is_at, is_of, is_serving, is_sync, keep, only_at, with_operations}
use Words.Keys.{rising, server_node}
use Words.Lookups.{or_false}
use Rattle.std.proofs.Common.{append-nil}
use Rattle.st_client_association.specs.Associations.{ClientAssociation}
use Rattle.st_client_association.specs.Activity.{is_awake, is_awake_by, may_send, takes_all}
use Rattle.st_operations.specs.PendingOperations.{may_act}
use Rattle.st_client.specs.IdleRules.{IsIdle}

-- Losses, messages and asks.

lose_idle : (now : Stamp) (t : Turn) (s : Option ClientSession) → lasts_in t.config now s ≡ true → lose_by t now s ≡ t
unfolding lose_by lose_over
lose_idle now t None e = refl
lose_idle now t (Some s) e = cond_false (is_over t s now) _ t (not_true (is_over t s now) e)

pub idle_lose : (now : Stamp) (operations : List Operation) (a : ClientAssociation) (b : Bool) → b ≡ not (lasts_here a.config now a.here) → b ≡ false → IsIdle (lose now) operations a
unfolding lose
idle_lose now os a b e f t h k o =
    lose_idle now t t.here.session
    (ap (λ c. lasts_here c now t.here) k ∙ ap (λ x. lasts_here a.config now x) h ∙ not_false (lasts_here a.config now a.here) (sym e ∙ f))

pub idle_receive : (now : Stamp) (h : Header) (body : Body) (operations : List Operation) (a : ClientAssociation) (b : Bool) → b ≡ (h.from == server_node a.here.server) → b ≡ false → IsIdle (receive_at now h body) operations a
unfolding receive_at
idle_receive now h body os a b e f t i k o =
    cond_false (is_received t now h) _ t (and_left (h.from == server_node t.here.server) _ (ap (λ x. h.from == server_node x.server) i ∙ sym e ∙ f))

pub idle_ask : (op : ℕ) (ask : Ask) (server : ServerId) (operations : List Operation) (a : ClientAssociation) (b : Bool) → b ≡ is_at server a.here → b ≡ false → IsIdle (only_at server (take_ask op ask)) operations a
unfolding only_at
idle_ask op ask server os a b e f t i k o = cond_false (is_at server t.here) _ t (ap (is_at server) i ∙ sym e ∙ f)

finish_none : (t : Turn) (o : Option PageCommand) (result : Option (Option (Tag × List ℕ))) → is_some o ≡ false → finish_at t o result ≡ t
unfolding finish_at
finish_none t None result e = refl
finish_none t (Some c) result e = cc

pub idle_finish : (number : ℕ) (result : Option (Option (Tag × List ℕ))) (operations : List Operation) (a : ClientAssociation) (b : Bool) → b ≡ is_some (command_of a.here.store.commands number) →
    b ≡ false → IsIdle (finish number result) operations a
unfolding finish
idle_finish number result os a b e f t h k o =
    finish_none t (command_of t.here.store.commands number) result (ap (λ x. is_some (command_of x.store.commands number)) h ∙ sym e ∙ f)

-- Operations: none is of the server.

each_kept : (all : List Operation) (now : Stamp) (os : List Operation) (t : Turn) → list_any (is_of t.here.server) os ≡ false → operate_each all now os t ≡ with_operations (t.operations ++ os) t
unfolding operate_each operate
each_kept all now [] t e = ap (λ xs. with_operations xs t) (sym (append-nil t.operations))
each_kept all now (o ∷ os) t e =
    let p = or_false (is_of t.here.server o) (list_any (is_of t.here.server) os) e in
    let q : operate all t now o ≡ keep o t = cond_false (is_of t.here.server o) _ (keep o t) p.0 in
    ap (operate_each all now os) q ∙ each_kept all now os (keep o t) p.1 ∙ ap (λ xs. with_operations xs t) (append_assoc t.operations (o ∷ []) os)

operations_idle : (now : Stamp) (t : Turn) → list_any (is_of t.here.server) t.operations ≡ false → operations now t ≡ t
unfolding operations
operations_idle now t e = each_kept t.operations now t.operations (with_operations [] t) e

-- Reductions and writes.

none_there : {A : Type 0} (xs : List A) → is_any xs ≡ false → xs ≡ []
none_there [] e = refl
none_there (x ∷ xs) e = cc

reductions_idle : (t : Turn) → passes.files_demanded t.here.session ≡ [] → reductions t ≡ t
unfolding reductions reduce_each
reductions_idle t e = ap (λ xs. reduce_each xs t) e

writes_idle : (now : Stamp) (tick : Bool) (t : Turn) (s : Option ClientSession) → dirty_places t.here.store.pages ≡ [] → writes_by t now tick s ≡ t
unfolding writes_by write_each
writes_idle now tick t None e = refl
writes_idle now tick t (Some s) e = ap (λ xs. write_each s now tick xs t) e

no_places : (ps : Pages) → ps.dirty ≡ [] → dirty_places ps ≡ []
unfolding dirty_places rising
no_places ps e = ap (λ (ds : List DirtyPage). dirty_places (record ps { dirty = ds })) e

-- Greeting.

greeting_idle : (now : Stamp) (tick : Bool) (t : Turn) (s : Option ClientSession) → list_any (is_of t.here.server) t.operations ≡ false → greeting_by t now tick s ≡ t
unfolding greeting_by greet
greeting_idle now tick t None e = cond_false (must_greet t now tick) _ t (and_left (list_any (is_of t.here.server) t.operations) (is_greeting_due t.config now tick t.here.greeting) e)
greeting_idle now tick t (Some s) e = refl

-- Requests.

no_asking : (t : Turn) (s : ClientSession) (now : Stamp) (os : List Operation) → list_any (is_of t.here.server) os ≡ false → first_asking t s now os ≡ None
unfolding first_asking asks_or asked_by
no_asking t s now [] e = refl
no_asking t s now (o ∷ os) e =
    let p = or_false (is_of t.here.server o) (list_any (is_of t.here.server) os) e in
    let q : asked_by t s now o ≡ None = cond_false (may_ask t s o) _ None (and_left (is_of t.here.server o) _ p.0) in
    ap (asks_or o os (first_asking t s now os)) q ∙ ap (λ a. passes.behind o a) (no_asking t s now os p.1)

keep_alive_idle : (t : Turn) (s : ClientSession) (now : Stamp) → is_renewing (phase_of t.config s.lease now) ≡ false → keep_alive t s now ≡ t
unfolding keep_alive
keep_alive_idle t s now e = cond_false (is_renewing (phase_of t.config s.lease now)) _ t e

either_same : (b : Bool) (x y t : Turn) → x ≡ t → y ≡ t → cond b x y ≡ t
either_same true x y t e f = e
either_same false x y t e f = f

next_idle : (t : Turn) (s : ClientSession) (now : Stamp) → list_any (is_of t.here.server) t.operations ≡ false → is_renewing (phase_of t.config s.lease now) ≡ false → ask_next t s now ≡ t
unfolding ask_next ask_for_or
next_idle t s now e f =
    either_same (is_serving t.config s now) _ (keep_alive t s now) t (ap (ask_for_or t s now) (no_asking t s now t.operations e) ∙ keep_alive_idle t s now f) (keep_alive_idle t s now f)

new_idle : (t : Turn) (s : ClientSession) (now : Stamp) (rs : List Release) → list_any (is_of t.here.server) t.operations ≡ false → is_any rs ≡ false →
    is_renewing (phase_of t.config s.lease now) ≡ false → ask_by t s now rs ≡ t
unfolding ask_by
new_idle t s now [] e r f = next_idle t s now e f
new_idle t s now (x ∷ rs) e r f = cc

at_idle : (t : Turn) (s : ClientSession) (now : Stamp) (tick : Bool) (q : Option Request) → list_any (is_of t.here.server) t.operations ≡ false →
    cond (is_some q) tick (s.due || (is_any s.releases || is_renewing (phase_of t.config s.lease now))) ≡ false → requests_at t s now tick q ≡ t
unfolding requests_at ask_new repeat
at_idle t s now tick None e f =
    let p = or_false s.due (is_any s.releases || is_renewing (phase_of t.config s.lease now)) f in
    let r = or_false (is_any s.releases) (is_renewing (phase_of t.config s.lease now)) p.1 in
    cond_false s.due _ (ask_by t s now s.releases) p.0 ∙ new_idle t s now s.releases e r.0 r.1
at_idle t s now tick (Some q) e f = cond_false (is_old t.config now tick q) _ t (and_left tick _ f)

requests_idle : (now : Stamp) (tick : Bool) (t : Turn) (s : ClientSession) → list_any (is_of t.here.server) t.operations ≡ false → may_send t.config now tick s ≡ false → requests_by t now tick (Some s) ≡ t
unfolding requests_by requests_under
requests_idle now tick t s e f = either_same s.lease.condemned t (requests_at t s now tick s.requests.asked) t refl (at_idle t s now tick s.requests.asked e f)

-- All passes.

with_session_idle : (now : Stamp) (tick : Bool) (t : Turn) (o : Option ClientSession) → t.here.session ≡ o → list_any (is_of t.here.server) t.operations ≡ false →
    is_awake_by t.config now tick t.here.store o ≡ false → passes.passes now tick t ≡ t
unfolding passes.passes greeting writes writes_by requests requests_by
with_session_idle now tick t None h e f =
    ap (λ u. requests now tick (greeting now tick (writes now tick (reductions u)))) (operations_idle now t e)
    ∙ ap (λ u. requests now tick (greeting now tick (writes now tick u))) (reductions_idle t (ap passes.files_demanded h))
    ∙ ap (λ u. requests now tick (greeting now tick u)) (ap (writes_by t now tick) h)
    ∙ ap (requests now tick) (greeting_idle now tick t t.here.session e)
    ∙ ap (requests_by t now tick) h
with_session_idle now tick t (Some s) h e f =
    let p = or_false (is_any (demanded_files s.locks)) (is_any t.here.store.pages.dirty || may_send t.config now tick s) f in
    let q = or_false (is_any t.here.store.pages.dirty) (may_send t.config now tick s) p.1 in
    ap (λ u. requests now tick (greeting now tick (writes now tick (reductions u)))) (operations_idle now t e)
    ∙ ap (λ u. requests now tick (greeting now tick (writes now tick u))) (reductions_idle t (ap passes.files_demanded h ∙ none_there (demanded_files s.locks) p.0))
    ∙ ap (λ u. requests now tick (greeting now tick u)) (writes_idle now tick t t.here.session (no_places t.here.store.pages (none_there t.here.store.pages.dirty q.0)))
    ∙ ap (requests now tick) (greeting_idle now tick t t.here.session e)
    ∙ ap (requests_by t now tick) h
    ∙ requests_idle now tick t s e q.1

-- Without a session, if no greeting is due: only syncs do anything.

ask_kept : (all : List Operation) (now : Stamp) (o : Operation) (t : Turn) (ask : Ask) → t.here.session ≡ None → is_sync ask ≡ false → operate_on all t now o ask ≡ keep o t
unfolding operate_on operate_by
ask_kept all now o t (asks.Write f p bytes) h e = ap (operate_by all t now o) h
ask_kept all now o t (asks.Read f p) h e = ap (operate_by all t now o) h
ask_kept all now o t (asks.Sync f) h e = cc
ask_kept all now o t (asks.Cut f p) h e = ap (operate_by all t now o) h
ask_kept all now o t (asks.Name s ask) h e = ap (operate_by all t now o) h
ask_kept all now o t (asks.Patch f p at bytes) h e = ap (operate_by all t now o) h

kept_both : (b c : Bool) (x y : Turn) → (b && c) ≡ false → (b ≡ false → x ≡ y) → cond c x y ≡ y
kept_both true true x y e f = cc
kept_both false true x y e f = f refl
kept_both b false x y e f = refl

operation_kept : (all : List Operation) (now : Stamp) (o : Operation) (t : Turn) → t.here.session ≡ None → may_act t.here.server false o ≡ false → operate all t now o ≡ keep o t
unfolding operate
operation_kept all now o t h e = kept_both (is_sync o.ask) (is_of t.here.server o) _ (keep o t) e (ask_kept all now o t o.ask h)

each_left : (all : List Operation) (now : Stamp) (os : List Operation) (t : Turn) → t.here.session ≡ None → list_any (may_act t.here.server false) os ≡ false → operate_each all now os t ≡ with_operations (t.operations ++ os) t
unfolding operate_each
each_left all now [] t h e = ap (λ xs. with_operations xs t) (sym (append-nil t.operations))
each_left all now (o ∷ os) t h e =
    let p = or_false (may_act t.here.server false o) (list_any (may_act t.here.server false) os) e in
    ap (operate_each all now os) (operation_kept all now o t h p.0) ∙ each_left all now os (keep o t) h p.1
    ∙ ap (λ xs. with_operations xs t) (append_assoc t.operations (o ∷ []) os)

no_sync_idle : (now : Stamp) (t : Turn) → t.here.session ≡ None → list_any (may_act t.here.server false) t.operations ≡ false → operations now t ≡ t
unfolding operations
no_sync_idle now t h e = each_left t.operations now t.operations (with_operations [] t) h e

not_due_idle : (now : Stamp) (tick : Bool) (t : Turn) → is_greeting_due t.config now tick t.here.greeting ≡ false → greeting_by t now tick None ≡ t
unfolding greeting_by greet
not_due_idle now tick t e = cond_false (must_greet t now tick) _ t (and_right (list_any (is_of t.here.server) t.operations) _ e)

without_session_idle : (now : Stamp) (tick : Bool) (t : Turn) → t.here.session ≡ None → is_greeting_due t.config now tick t.here.greeting ≡ false →
    list_any (may_act t.here.server false) t.operations ≡ false → passes.passes now tick t ≡ t
unfolding passes.passes greeting writes writes_by requests requests_by
without_session_idle now tick t h d e =
    ap (λ u. requests now tick (greeting now tick (writes now tick (reductions u)))) (no_sync_idle now t h e)
    ∙ ap (λ u. requests now tick (greeting now tick (writes now tick u))) (reductions_idle t (ap passes.files_demanded h))
    ∙ ap (λ u. requests now tick (greeting now tick u)) (ap (writes_by t now tick) h)
    ∙ ap (requests now tick) (ap (greeting_by t now tick) h ∙ not_due_idle now tick t d)
    ∙ ap (requests_by t now tick) h

no_session : (s : Option ClientSession) → is_some s ≡ false → s ≡ None
no_session None e = refl
no_session (Some s) e = cc

-- The passes, by whether each pending operation of the server may do something.

passes_idle : (now : Stamp) (tick : Bool) (t : Turn) (all : Bool) → takes_all t.config now tick t.here ≡ all → list_any (may_act t.here.server all) t.operations ≡ false →
    is_awake t.config now tick t.here ≡ false → passes.passes now tick t ≡ t
passes_idle now tick t true k e f = with_session_idle now tick t t.here.session refl e f
passes_idle now tick t false k e f =
    let p = or_false (is_some t.here.session) (is_greeting_due t.config now tick t.here.greeting) k in
    without_session_idle now tick t (no_session t.here.session p.0) p.1 e

pub idle_passes : (now : Stamp) (tick : Bool) (operations : List Operation) (a : ClientAssociation) (server : ServerId) (all : Bool) → server ≡ a.here.server → all ≡ takes_all a.config now tick a.here →
    list_any (may_act server all) operations ≡ false → is_awake a.config now tick a.here ≡ false → IsIdle (passes.passes now tick) operations a
idle_passes now tick os a server all s u e g t h k o =
    passes_idle now tick t all (ap (λ c. takes_all c now tick t.here) k ∙ ap (takes_all a.config now tick) h ∙ sym u)
    (ap (λ x. list_any (may_act x.server all) t.operations) h ∙ ap (list_any (may_act a.here.server all)) o ∙ ap (λ x. list_any (may_act x all) os) (sym s) ∙ e)
    (ap (λ c. is_awake c now tick t.here) k ∙ ap (is_awake a.config now tick) h ∙ g)
