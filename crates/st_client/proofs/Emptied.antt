-- A step of a client, at an association whose lease is over: the loss empties it, and neither the input nor the passes fill it again.
use Rattle.st_lemmas.proofs.Words
use Words.{◌≡◌, ℕ, ◌+◌, Bool, true, false, ◌&&◌, ◌==◌, not, List, [], ◌∷◌, ◌++◌, Option, Some, None, refl, sym, ap, ◌∙◌, subst, if◌then◌else◌, cond, filter}
use Words.{find, is_some, nat_lt, Config, Tag, ServerId, Stamp, Ask, Body, Header, ClientInput, Operation}
use Words.Tables.{find_before, find_last}
use Words.answers
use Words.asks
use Words.bodies
use Words.notes
use Words.inputs.{Tick, App, Control, Done}
use Words.Client as cl
use Words.Client.{association_with, client_step, next_life}
use Words.ClientPages as pages
use Words.ClientPages.{Store, empty_store}
use Words.ClientPasses as cp
use Words.ClientReplies as cr
use Words.ClientState as cs
use Words.ClientState.{Association, ClientSession, ClientState, ClientTurn, Turn, at_each, at_these, client_turn, enter, is_at, leave, only_at, server_of}
use Words.ClientState.{with_associations}
use Words.Truth.{if_either}
use Rattle.st_client.proofs.ReceiveGrows.{receive_grows}
use Rattle.st_client.proofs.InputsGrow.{finish_grows, lose_grows, take_ask_grows}
use Rattle.st_client.proofs.PassesGrow.{passes_grow}
use Rattle.st_client.specs.Losses.{IsEmptied, IsEmptiedIn, is_ended}

-- A rule at each association in turn: the first one of a server.

abbrev FoundIn : (Association → Type 0) → Option Association → Type 0
FoundIn P None = ⊥
FoundIn P (Some b) = P b

find_more : (p : Association → Bool) (xs : List Association) (x b : Association) → find p xs ≡ Some b → find p (xs ++ x ∷ []) ≡ Some b
find_more p [] x b e = cc
find_more p (y ∷ ys) x b e = go (p y) e (find_more p ys x b)
  where
    go : (z : Bool) → cond z (Some y) (find p ys) ≡ Some b → (find p ys ≡ Some b → find p (ys ++ x ∷ []) ≡ Some b) → cond z (Some y) (find p (ys ++ x ∷ [])) ≡ Some b
    go true e i = e
    go false e i = i e

module _ (v : ServerId) (f : Turn → Turn) where
  found_stays : (xs : List Association) (t : ClientTurn) (b : Association) → find (is_at v) t.state.associations ≡ Some b → find (is_at v) (at_these f xs t).state.associations ≡ Some b
  unfolding at_these
  found_stays [] t b e = e
  found_stays (x ∷ xs) t b e = found_stays xs (leave t (f (enter t x))) b (find_more (is_at v) t.state.associations (f (enter t x)).here b e)

  config_these : (xs : List Association) (t : ClientTurn) → (at_these f xs t).state.config ≡ t.state.config
  unfolding at_these
  config_these [] t = refl
  config_these (x ∷ xs) t = config_these xs (leave t (f (enter t x)))

  config_each : (t : ClientTurn) → (at_each f t).state.config ≡ t.state.config
  unfolding at_each
  config_each t = config_these t.state.associations (with_associations [] t)

  module _ (server : (t : Turn) → (f t).here.server ≡ t.here.server) (k : Config) (P Q : Association → Type 0) (gives : (t : Turn) → t.config ≡ k → P t.here → Q (f t).here) where
    found_these : (xs : List Association) (t : ClientTurn) → t.state.config ≡ k → find (is_at v) t.state.associations ≡ None → FoundIn P (find (is_at v) xs) →
        FoundIn Q (find (is_at v) (at_these f xs t).state.associations)
    unfolding at_these
    found_these [] t c d p = absurd p
    found_these (x ∷ xs) t c d p = go (is_at v x) refl p (λ d p. found_these xs (leave t (f (enter t x))) c d p)
      where
        there : (b : Bool) → is_at v x ≡ b → is_at v (f (enter t x)).here ≡ b
        there b q = ap (λ (s : ServerId). s.0 == v.0) (server (enter t x)) ∙ q

        go : (b : Bool) → is_at v x ≡ b → FoundIn P (cond b (Some x) (find (is_at v) xs)) →
            (find (is_at v) (t.state.associations ++ (f (enter t x)).here ∷ []) ≡ None → FoundIn P (find (is_at v) xs) →
            FoundIn Q (find (is_at v) (at_these f xs (leave t (f (enter t x)))).state.associations)) →
            FoundIn Q (find (is_at v) (at_these f xs (leave t (f (enter t x)))).state.associations)
        go true q p r =
            subst (FoundIn Q)
            (sym (found_stays xs (leave t (f (enter t x))) (f (enter t x)).here (find_last (is_at v) (f (enter t x)).here t.state.associations d (there true q))))
            (gives (enter t x) c p)
        go false q p r = r (find_before (is_at v) (f (enter t x)).here t.state.associations (there false q) ∙ d) p

    found_each : (t : ClientTurn) → t.state.config ≡ k → FoundIn P (find (is_at v) t.state.associations) → FoundIn Q (find (is_at v) (at_each f t).state.associations)
    unfolding at_each
    found_each t c p = found_these t.state.associations (with_associations [] t) c refl p

-- What is left of an association: nothing but the next life, and after the input perhaps a greeting.

record Bare (a b : Association) : Type 0 where
  pub life : b.life ≡ next_life a.life
  pub session : b.session ≡ None
  pub greeting : b.greeting ≡ None
  pub store : b.store ≡ empty_store

if_here : (P : Association → Type 0) (b : Bool) (t u : Turn) → P t.here → P u.here → P (if b then t else u).here
if_here P true t u p q = p
if_here P false t u p q = q

-- operations that end leave the life
end_life : (t : Turn) (s : ClientSession) (o : Operation) → (cl.end_operation t s o).here.life ≡ t.here.life
unfolding cl.end_operation cl.end_unsent cl.end_sync cl.tell_lost
end_life t s o = if_here (λ b. b.life ≡ t.here.life) (cs.is_sent o) _ (cl.end_unsent t o o.ask) refl (by o.ask)
  where
    by : (a : Ask) → (cl.end_unsent t o a).here.life ≡ t.here.life
    by (asks.Sync f) = if_here (λ b. b.life ≡ t.here.life) (pages.has_lost t.here.lost f.ino) (cl.tell_lost t o.op f.ino) _ refl refl
    by a = refl

ends_life : (s : ClientSession) (os : List Operation) (t : Turn) → (cl.end_each s os t).here.life ≡ t.here.life
unfolding cl.end_each
ends_life s [] t = refl
ends_life s (o ∷ os) t = ends_life s os (cl.end_operation t s o) ∙ end_life t s o

lost_bare : (t : Turn) (s : ClientSession) → Bare t.here (cl.lose_session t s).here
unfolding cl.lose_session cl.end_operations
lost_bare t s =
    let u = cl.with_lost_pages t.here.store (cs.note t (notes.Lost t.here.server t.here.life)) in
    record {
      life = ap next_life (ends_life s (filter (cs.is_of u.here.server) u.operations) (cs.with_operations (filter (λ o. not (cs.is_of u.here.server o)) u.operations) u));
      session = refl;
      greeting = refl;
      store = refl;
    }

lose_bare : (k : Config) (now : Stamp) (a : Association) → is_ended k now a.session ≡ true → (t : Turn) → t.config ≡ k → t.here ≡ a → Bare a (cl.lose now t).here
unfolding cl.lose cl.lose_by cl.lose_over
lose_bare k now a over t c e = subst (λ b. Bare b (cl.lose now t).here) e (by t.here.session (ap (λ (b : Association). is_ended k now b.session) e ∙ over))
  where
    by : (o : Option ClientSession) → is_ended k now o ≡ true → Bare t.here (cl.lose_by t now o).here
    by None q = cc
    by (Some s) q = go (cl.is_over t s now) (ap (λ z. is_ended z now (Some s)) c ∙ q)
      where
        go : (b : Bool) → b ≡ true → Bare t.here (if b then cl.lose_session t s else t).here
        go true q = lost_bare t s
        go false q = cc

-- The input.

take_bare : (a : Association) (s : ServerId) (op : ℕ) (ask : Ask) (t : Turn) → Bare a t.here → Bare a (only_at s (cl.take_ask op ask) t).here
unfolding only_at cl.take_ask cl.take_by cl.take_sync cl.enqueue cl.tell_lost
take_bare a s op ask t b = if_here (Bare a) (is_at s t.here) (cl.take_by t op ask ask) t (by ask) b
  where
    by : (z : Ask) → Bare a (cl.take_by t op ask z).here
    by (asks.Sync f) =
        if_here (Bare a) (pages.has_lost t.here.lost f.ino) (cl.tell_lost t op f.ino) (cl.enqueue t op ask) (record { life = b.life; session = b.session; greeting = b.greeting; store = b.store }) b
    by z = b

receive_bare : (a : Association) (now : Stamp) (h : Header) (body : Body) (t : Turn) → Bare a t.here → Bare a (cr.receive_at now h body t).here
unfolding cr.receive_at cr.by_session cr.without_session cr.welcome
receive_bare a now h body t b = if_here (Bare a) (cr.is_received t now h) (cr.by_session t now h body t.here.session) t (subst (λ o. Bare a (cr.by_session t now h body o).here) (sym b.session) (by body)) b
  where
    late : (stamp : Stamp) → cr.is_timely t now stamp ≡ false
    late stamp = ap (λ g. is_some g && nat_lt now.0 (stamp.0 + t.config.lease)) b.greeting

    none : (u : Turn) (z : Bool) → z ≡ false → Bare a (if z then u else t).here
    none u true e = cc
    none u false e = b

    by : (m : Body) → Bare a (cr.without_session t now h m).here
    by bodies.Welcome = none (cr.begin_session t (record { 0 = h.epoch }) (record { 0 = h.stamp })) (cr.is_timely t now (record { 0 = h.stamp })) (late (record { 0 = h.stamp }))
    by m = b

finish_bare : (a : Association) (number : ℕ) (result : Option (Option (Tag × List ℕ))) (t : Turn) → Bare a t.here → Bare a (cl.finish number result t).here
unfolding cl.finish cl.finish_at
finish_bare a number result t b = subst (λ (st : Store). Bare a (cl.finish_at t (pages.command_of st.commands number) result).here) (sym b.store) b

-- The passes.

operate_here : (all : List Operation) (t : Turn) (now : Stamp) (o : Operation) → t.here.session ≡ None → (cp.operate all t now o).here ≡ t.here
unfolding cp.operate cp.operate_on cp.operate_by cp.sync
operate_here all t now o e = if_here (λ b. b ≡ t.here) (cs.is_of t.here.server o) (cp.operate_on all t now o o.ask) (cs.keep o t) (on o.ask) refl
  where
    on : (a : Ask) → (cp.operate_on all t now o a).here ≡ t.here
    on (asks.Sync f) = if_here (λ b. b ≡ t.here) (pages.is_hard t.here.store f.ino) _ (cs.keep o t) refl refl
    on a = ap (λ s. (cp.operate_by all t now o s).here) e

each_here : (all : List Operation) (now : Stamp) (os : List Operation) (t : Turn) → t.here.session ≡ None → (cp.operate_each all now os t).here ≡ t.here
unfolding cp.operate_each
each_here all now [] t e = refl
each_here all now (o ∷ os) t e =
    let q = operate_here all t now o e in
    each_here all now os (cp.operate all t now o) (ap (λ (a : Association). a.session) q ∙ e) ∙ q

operations_empty : (a : Association) (now : Stamp) (t : Turn) → IsEmptied a t.here → IsEmptied a (cp.operations now t).here
unfolding cp.operations
operations_empty a now t e = subst (IsEmptied a) (sym (each_here t.operations now t.operations (cs.with_operations [] t) e.session)) e

reductions_empty : (a : Association) (t : Turn) → IsEmptied a t.here → IsEmptied a (cp.reductions t).here
unfolding cp.reductions cp.reduce_each
reductions_empty a t e = subst (λ s. IsEmptied a (cp.reduce_each (cp.files_demanded s) t).here) (sym e.session) e

writes_empty : (a : Association) (now : Stamp) (tick : Bool) (t : Turn) → IsEmptied a t.here → IsEmptied a (cp.writes now tick t).here
unfolding cp.writes cp.writes_by
writes_empty a now tick t e = subst (λ s. IsEmptied a (cp.writes_by t now tick s).here) (sym e.session) e

greeting_empty : (a : Association) (now : Stamp) (tick : Bool) (t : Turn) → IsEmptied a t.here → IsEmptied a (cp.greeting now tick t).here
unfolding cp.greeting cp.greeting_by cp.greet cp.hello cs.send
greeting_empty a now tick t e =
    subst (λ s. IsEmptied a (cp.greeting_by t now tick s).here) (sym e.session)
    (if_here (IsEmptied a) (cp.must_greet t now tick) (cp.hello t now) t (record { life = e.life; session = e.session; store = e.store }) e)

requests_empty : (a : Association) (now : Stamp) (tick : Bool) (t : Turn) → IsEmptied a t.here → IsEmptied a (cp.requests now tick t).here
unfolding cp.requests cp.requests_by
requests_empty a now tick t e = subst (λ s. IsEmptied a (cp.requests_by t now tick s).here) (sym e.session) e

passes_empty : (a : Association) (now : Stamp) (tick : Bool) (t : Turn) → Bare a t.here → IsEmptied a (cp.passes now tick t).here
unfolding cp.passes
passes_empty a now tick t b =
    requests_empty a now tick _
    (greeting_empty a now tick _
    (writes_empty a now tick _ (reductions_empty a _ (operations_empty a now t (record { life = b.life; session = b.session; store = b.store })))))

-- The whole step, at the association that is found.

take_server : (s : ServerId) (op : ℕ) (ask : Ask) (t : Turn) → (only_at s (cl.take_ask op ask) t).here.server ≡ t.here.server
unfolding only_at
take_server s op ask t = if_here (λ b. b.server ≡ t.here.server) (is_at s t.here) (cl.take_ask op ask t) t (take_ask_grows op ask t).2 refl

FoundLeft : ServerId → Association → ClientTurn → Type 0
FoundLeft v a t = FoundIn (Bare a) (find (is_at v) t.state.associations)

input_found : (v : ServerId) (a : Association) (t : ClientTurn) (now : Stamp) (input : ClientInput) → FoundLeft v a t → FoundLeft v a (cl.take_input t now input)
unfolding FoundLeft cl.take_input cl.app cl.app_known cl.done cr.receive cr.receive_here
input_found v a t now Tick p = p
input_found v a t now (App op ask) p =
    if_either (FoundLeft v a) (cl.is_full t.state) (cl.answered_at_once t op answers.OpsFull) (cl.app_known t op ask) p
    (if_either (FoundLeft v a) (cl.is_configured t.state (server_of ask)) (at_each (only_at (server_of ask) (cl.take_ask op ask)) t)
    (cl.answered_at_once t op answers.NoFile)
    (found_each v (only_at (server_of ask) (cl.take_ask op ask)) (take_server (server_of ask) op ask) t.state.config (Bare a) (Bare a) (λ u c b. take_bare a (server_of ask) op ask u b) t refl p) p)
input_found v a t now (Control m) p =
    if_either (FoundLeft v a) (m.header.to == t.state.id.0) (at_each (cr.receive_at now m.header m.body) t) t
    (found_each v (cr.receive_at now m.header m.body) (λ u. (receive_grows now m.header m.body u).2) t.state.config (Bare a) (Bare a) (λ u c b. receive_bare a now m.header m.body u b) t refl p) p
input_found v a t now (Done number result) p =
    found_each v (cl.finish number result) (λ u. (finish_grows number result u).2) t.state.config (Bare a) (Bare a) (λ u c b. finish_bare a number result u b) t refl p

step_found : (v : ServerId) (c : ClientState) (now : Stamp) (input : ClientInput) (a : Association) → association_with c v ≡ Some a → is_ended c.config now a.session ≡ true →
    FoundIn (IsEmptied a) (association_with (client_step c now input).state v)
unfolding FoundLeft client_step cl.work cl.losses
step_found v c now input a e over =
    let t = at_each (cl.lose now) (client_turn c []) in
    let p : FoundLeft v a t =
    found_each v (cl.lose now) (λ u. (lose_grows now u).2) c.config (λ b. b ≡ a) (Bare a) (λ u k q. lose_bare c.config now a over u k q) (client_turn c []) refl
    (subst (FoundIn (λ b. b ≡ a)) (sym e) refl) in
    found_each v (cp.passes now (cl.is_tick input)) (λ u. (passes_grow now (cl.is_tick input) u).2) (cl.take_input t now input).state.config (Bare a) (IsEmptied a) (λ u k b. passes_empty a now (cl.is_tick input) u b)
    (cl.take_input t now input) refl (input_found v a t now input p)

-- What is left of the association that is found.
pub step_emptied : (v : ServerId) (c : ClientState) (now : Stamp) (input : ClientInput) (a : Association) → association_with c v ≡ Some a → is_ended c.config now a.session ≡ true →
    IsEmptiedIn a (association_with (client_step c now input).state v)
step_emptied v c now input a e over = by (association_with (client_step c now input).state v) (step_found v c now input a e over)
  where
    by : (o : Option Association) → FoundIn (IsEmptied a) o → IsEmptiedIn a o
    by None p = p
    by (Some b) p = p
