-- A client's step, at an association whose lease is over: the loss empties it, and neither the input nor the passes fill it again.
use Rattle.st_lemmas.proofs.Words
use Words.{◌≡◌, ℕ, ◌+◌, Bool, true, false, List, [], ◌∷◌, ◌++◌, ◌==◌, Option, Some, None, refl, sym, ap, ◌∙◌, subst, if◌then◌else◌, find, ◌&&◌, is_some, nat_lt}
use Words.{Config, Tag, ClientId, ServerId, Stamp, Ask, Body, Header, ClientInput, Operation, append_assoc}
use Words.asks
use Words.bodies
use Words.inputs
use Words.ClientPages as pages
use Words.ClientPages.{Store, empty_store}
use Words.ClientPasses as cp
use Words.ClientReplies as cr
use Words.Client as cl
use Words.ClientState as cs
use Words.ClientState.{Association, ClientState, ClientTurn, Turn, client_turn, enter, leave, at_these, at_each, with_associations, only_at, is_at, server_of}
use Words.Lists.{Has}
use Words.Lookups.{some_is}
use Words.Lengths.{nothing_after}
use Words.Truth.{not_both}
use Rattle.st_laws_steps.specs.Client.Losses.{Fit, is_ended, Loses, Lasts, IsLost}
use Rattle.st_laws_steps.specs.Lives.Lives.{LifeNext, Pairwise}
use Rattle.st_laws_steps.proofs.Client.Losing.{lose_is}
use Rattle.st_laws_steps.proofs.Client.Stepping.{step_lives}

-- nothing of pages, no session and no greeting, so that no welcome counts
pub record Bare (a : Association) : Type 0 where
  pub session : a.session ≡ None
  pub greeting : a.greeting ≡ None
  pub store : a.store ≡ empty_store

-- nothing of pages, and no session
pub record Empty (a : Association) : Type 0 where
  pub session : a.session ≡ None
  pub store : a.store ≡ empty_store

-- the lease of an association is over
abbrev pub Over : Config → Stamp → Association → Type 0
Over k now a = is_ended k now a.session ≡ true

if_turn : (P : Association → Type 0) (b : Bool) (t u : Turn) → P t.here → P u.here → P (if b then t else u).here
if_turn P true t u p q = p
if_turn P false t u p q = q

if_here : (b : Bool) (a : Association) (t u : Turn) → t.here ≡ a → u.here ≡ a → (if b then t else u).here ≡ a
if_here true a t u p q = p
if_here false a t u p q = q

-- The loss.
lose_bare : (k : Config) (now : Stamp) (t : Turn) → t.config ≡ k → Over k now t.here → Bare (cl.lose now t).here
lose_bare k now t e o = go _ (lose_is now t)
  where
    go : (u : Turn) → Loses now t u → Bare u.here
    go _ (Lasts n) = absurd (not_both (is_ended t.config now t.here.session) (ap (λ z. is_ended z now t.here.session) e ∙ o) n)
    go _ (IsLost s i n v m) = record { session = refl; greeting = refl; store = refl }

-- The input.
take_bare : (s : ServerId) (op : ℕ) (ask : Ask) (t : Turn) → Bare t.here → Bare (only_at s (cl.take_ask op ask) t).here
unfolding only_at cl.take_ask cl.take_by cl.take_sync cl.enqueue cl.tell_lost
take_bare s op ask t b = if_turn Bare (is_at s t.here) _ t (by ask) b
  where
    by : (a : Ask) → Bare (cl.take_by t op ask a).here
    by (asks.Sync f) = if_turn Bare (pages.has_lost t.here.lost f.ino) _ _ (record { session = b.session; greeting = b.greeting; store = b.store }) b
    by a = b

receive_bare : (now : Stamp) (h : Header) (body : Body) (t : Turn) → Bare t.here → Bare (cr.receive_at now h body t).here
unfolding cr.receive_at cr.by_session cr.without_session cr.welcome
receive_bare now h body t b = if_turn Bare (cr.is_received t now h) _ t (subst (λ o. Bare (cr.by_session t now h body o).here) (sym b.session) (by body)) b
  where
    late : (stamp : Stamp) → cr.is_timely t now stamp ≡ false
    late stamp = ap (λ g. is_some g && nat_lt now.0 (stamp.0 + t.config.lease)) b.greeting

    none : (u : Turn) (z : Bool) → z ≡ false → Bare (if z then u else t).here
    none u true e = cc
    none u false e = b

    by : (m : Body) → Bare (cr.without_session t now h m).here
    by bodies.Welcome = none _ _ (late (record { 0 = h.stamp }))
    by m = b

finish_bare : (number : ℕ) (result : Option (Option (Tag × List ℕ))) (t : Turn) → Bare t.here → Bare (cl.finish number result t).here
unfolding cl.finish cl.finish_at
finish_bare number result t b = subst (λ (st : Store). Bare (cl.finish_at t (pages.command_of st.commands number) result).here) (sym b.store) b

-- The passes.
operate_here : (all : List Operation) (t : Turn) (now : Stamp) (o : Operation) → t.here.session ≡ None → (cp.operate all t now o).here ≡ t.here
unfolding cp.operate cp.operate_on cp.operate_by cp.sync
operate_here all t now o e = if_here (cs.is_of t.here.server o) t.here _ (cs.keep o t) (on o.ask) refl
  where
    by : (cp.operate_by all t now o t.here.session).here ≡ t.here
    by = ap (λ s. (cp.operate_by all t now o s).here) e

    on : (a : Ask) → (cp.operate_on all t now o a).here ≡ t.here
    on (asks.Sync f) = if_here (pages.is_hard t.here.store f.ino) t.here _ _ refl refl
    on a = by

each_here : (all : List Operation) (now : Stamp) (os : List Operation) (t : Turn) → t.here.session ≡ None → (cp.operate_each all now os t).here ≡ t.here
unfolding cp.operate_each
each_here all now [] t e = refl
each_here all now (o ∷ os) t e =
    let q = operate_here all t now o e in
    each_here all now os (cp.operate all t now o) (ap (λ (a : Association). a.session) q ∙ e) ∙ q

operations_empty : (now : Stamp) (t : Turn) → Empty t.here → Empty (cp.operations now t).here
unfolding cp.operations
operations_empty now t e = subst Empty (sym (each_here t.operations now t.operations (cs.with_operations [] t) e.session)) e

reductions_empty : (t : Turn) → Empty t.here → Empty (cp.reductions t).here
unfolding cp.reductions cp.reduce_each
reductions_empty t e = subst (λ s. Empty (cp.reduce_each (cp.files_demanded s) t).here) (sym e.session) e

writes_empty : (now : Stamp) (tick : Bool) (t : Turn) → Empty t.here → Empty (cp.writes now tick t).here
unfolding cp.writes cp.writes_by
writes_empty now tick t e = subst (λ s. Empty (cp.writes_by t now tick s).here) (sym e.session) e

greeting_empty : (now : Stamp) (tick : Bool) (t : Turn) → Empty t.here → Empty (cp.greeting now tick t).here
unfolding cp.greeting cp.greeting_by cp.greet cp.hello cs.send
greeting_empty now tick t e =
    subst (λ s. Empty (cp.greeting_by t now tick s).here) (sym e.session)
    (if_turn Empty (cp.must_greet t now tick) _ t (record { session = e.session; store = e.store }) e)

requests_empty : (now : Stamp) (tick : Bool) (t : Turn) → Empty t.here → Empty (cp.requests now tick t).here
unfolding cp.requests cp.requests_by
requests_empty now tick t e = subst (λ s. Empty (cp.requests_by t now tick s).here) (sym e.session) e

passes_empty : (now : Stamp) (tick : Bool) (t : Turn) → Empty t.here → Empty (cp.passes now tick t).here
unfolding cp.passes
passes_empty now tick t e =
    requests_empty now tick _ (greeting_empty now tick _ (writes_empty now tick _ (reductions_empty _ (operations_empty now t e))))

-- A rule at each server in turn.
abbrev Gives : (Association → Type 0) → (Association → Type 0) → Association → Association → Type 0
Gives P Q a b = P a → Q b

record EachGives (k : Config) (P Q : Association → Type 0) (al : List Association) (t u : ClientTurn) : Type 0 where
  pub config : u.state.config ≡ k
  pub left : List Association
  pub is : u.state.associations ≡ t.state.associations ++ left
  pub pairs : Pairwise (Gives P Q) al left

these : (k : Config) (P Q : Association → Type 0) (rule : Turn → Turn) → ((t : Turn) → t.config ≡ k → P t.here → Q (rule t).here) → (al : List Association) (t : ClientTurn) → t.state.config ≡ k →
    EachGives k P Q al t (at_these rule al t)
unfolding at_these
these k P Q rule step [] t c = record { config = c; left = []; is = nothing_after t.state.associations; pairs = tt }
these k P Q rule step (a ∷ al) t c = go (these k P Q rule step al (leave t (rule (enter t a))) c)
  where
    u : Turn
    u = rule (enter t a)

    go : EachGives k P Q al (leave t u) (at_these rule al (leave t u)) → EachGives k P Q (a ∷ al) t (at_these rule al (leave t u))
    go r = record { config = r.config; left = u.here ∷ r.left; is = r.is ∙ append_assoc t.state.associations (u.here ∷ []) r.left; pairs = record { one = step (enter t a) c; rest = r.pairs } }

record TurnGives (k : Config) (P Q : Association → Type 0) (t u : ClientTurn) : Type 0 where
  pub config : u.state.config ≡ k
  pub pairs : Pairwise (Gives P Q) t.state.associations u.state.associations

each : (k : Config) (P Q : Association → Type 0) (rule : Turn → Turn) → ((t : Turn) → t.config ≡ k → P t.here → Q (rule t).here) → (t : ClientTurn) → t.state.config ≡ k → TurnGives k P Q t (at_each rule t)
unfolding at_each
each k P Q rule step t c = go (these k P Q rule step t.state.associations (with_associations [] t) c)
  where
    u : ClientTurn
    u = at_these rule t.state.associations (with_associations [] t)

    go : EachGives k P Q t.state.associations (with_associations [] t) u → TurnGives k P Q t u
    go r = record { config = r.config; pairs = subst (Pairwise (Gives P Q) t.state.associations) (sym r.is) r.pairs }

same_pairs : (P : Association → Type 0) (al : List Association) → Pairwise (Gives P P) al al
same_pairs P [] = tt
same_pairs P (a ∷ al) = record { one = λ p. p; rest = same_pairs P al }

then_pairs : (P Q R : Association → Type 0) (al bs cs : List Association) → Pairwise (Gives P Q) al bs → Pairwise (Gives Q R) bs cs → Pairwise (Gives P R) al cs
then_pairs P Q R [] [] [] p q = tt
then_pairs P Q R [] [] (c ∷ cs) p q = absurd q
then_pairs P Q R [] (b ∷ bs) cs p q = absurd p
then_pairs P Q R (a ∷ al) [] cs p q = absurd p
then_pairs P Q R (a ∷ al) (b ∷ bs) [] p q = absurd q
then_pairs P Q R (a ∷ al) (b ∷ bs) (c ∷ cs) p q = record { one = λ z. q.one (p.one z); rest = then_pairs P Q R al bs cs p.rest q.rest }

gives_then : (k : Config) (P Q R : Association → Type 0) (t u v : ClientTurn) → TurnGives k P Q t u → TurnGives k Q R u v → TurnGives k P R t v
gives_then k P Q R t u v a b = record { config = b.config; pairs = then_pairs P Q R t.state.associations u.state.associations v.state.associations a.pairs b.pairs }

if_gives : (k : Config) (P Q : Association → Type 0) (b : Bool) (t u v : ClientTurn) → TurnGives k P Q t u → TurnGives k P Q t v → TurnGives k P Q t (if b then u else v)
if_gives k P Q true t u v p q = p
if_gives k P Q false t u v p q = q

-- The whole step.
input_gives : (k : Config) (t : ClientTurn) (now : Stamp) (input : ClientInput) → t.state.config ≡ k → TurnGives k Bare Bare t (cl.take_input t now input)
unfolding cl.take_input cl.app cl.app_known cl.done cr.receive cr.receive_here
input_gives k t now input c = go input
  where
    same : TurnGives k Bare Bare t t
    same = record { config = c; pairs = same_pairs Bare t.state.associations }

    go : (i : ClientInput) → TurnGives k Bare Bare t (cl.take_input t now i)
    go inputs.Tick = same
    go (inputs.App op ask) =
        if_gives k Bare Bare (cl.is_full t.state) t _ _ (record { config = same.config; pairs = same.pairs })
        (if_gives k Bare Bare (cl.is_configured t.state (server_of ask)) t _ _ (each k Bare Bare _ (λ u e b. take_bare (server_of ask) op ask u b) t c) (record { config = same.config; pairs = same.pairs }))
    go (inputs.Control m) = if_gives k Bare Bare (m.header.to == t.state.id.0) t _ t (each k Bare Bare _ (λ u e b. receive_bare now m.header m.body u b) t c) same
    go (inputs.Done number result) = each k Bare Bare _ (λ u e b. finish_bare number result u b) t c

step_gives : (s : ClientState) (now : Stamp) (input : ClientInput) → TurnGives s.config (Over s.config now) Empty (client_turn s []) (cl.client_step s now input)
unfolding cl.client_step cl.work cl.losses
step_gives s now input = go (each s.config (Over s.config now) Bare (cl.lose now) (λ u e o. lose_bare s.config now u e o) (client_turn s []) refl)
  where
    t : ClientTurn
    t = at_each (cl.lose now) (client_turn s [])

    u : ClientTurn
    u = cl.take_input t now input

    v : ClientTurn
    v = at_each (cp.passes now (cl.is_tick input)) u

    go : TurnGives s.config (Over s.config now) Bare (client_turn s []) t → TurnGives s.config (Over s.config now) Empty (client_turn s []) v
    go l = received (input_gives s.config t now input l.config)
      where
        received : TurnGives s.config Bare Bare t u → TurnGives s.config (Over s.config now) Empty (client_turn s []) v
        received i =
            gives_then s.config (Over s.config now) Bare Empty (client_turn s []) u v (gives_then s.config (Over s.config now) Bare Bare (client_turn s []) t u l i)
            (each s.config Bare Empty (cp.passes now (cl.is_tick input)) (λ x e b. passes_empty now (cl.is_tick input) x (record { session = b.session; store = b.store })) u i.config)

-- What is left of the association that is found.
pub record Emptied (v : ServerId) (a : Association) (bs : List Association) : Type 0 where
  pub last : Association
  pub found : find (is_at v) bs ≡ Some last
  pub life : cl.next_life a.life ≡ last.life
  pub empty : Empty last

found_pair : (s : ClientState) (now : Stamp) (v : ServerId) (al bs : List Association) → Pairwise (LifeNext now s) al bs → Pairwise (Gives (Over s.config now) Empty) al bs → (a : Association) → find (is_at v) al ≡ Some a → Over s.config now a →
    Emptied v a bs
found_pair s now v [] [] p q a f o = cc
found_pair s now v [] (y ∷ ys) p q a f o = absurd p
found_pair s now v (x ∷ xs) [] p q a f o = absurd p
found_pair s now v (x ∷ xs) (y ∷ ys) p q a f o = go (is_at v x) refl f (λ f. found_pair s now v xs ys p.rest q.rest a f o)
  where
    there : (b : Bool) → is_at v x ≡ b → is_at v y ≡ b
    there b e = ap (λ (z : ServerId). z.0 == v.0) (sym p.one.server) ∙ e

    go : (b : Bool) → is_at v x ≡ b → (if b then Some x else find (is_at v) xs) ≡ Some a → (find (is_at v) xs ≡ Some a → Emptied v a ys) → Emptied v a (y ∷ ys)
    go true e f r =
        let is : x ≡ a = some_is f in
        let over : Over s.config now x = subst (Over s.config now) (sym is) o in
        record { last = y; found = ap (λ b. if b then Some y else find (is_at v) ys) (there true e); life = ap (λ (z : Association). cl.next_life z.life) (sym is) ∙ p.one.lost over; empty = q.one over }
    go false e f r = let z = r f in record { last = z.last; found = ap (λ b. if b then Some y else find (is_at v) ys) (there false e) ∙ z.found; life = z.life; empty = z.empty }

pub step_empties : (c : ClientId) (s : ClientState) (now : Stamp) (input : ClientInput) → ((a : Association) → Has a s.associations → Fit a) → (v : ServerId) (a : Association) → find (is_at v) s.associations ≡ Some a → Over s.config now a →
    Emptied v a (cl.client_step s now input).state.associations
step_empties c s now input fit v a f o =
    found_pair s now v s.associations (cl.client_step s now input).state.associations (step_lives c s now input fit).pairs (step_gives s now input).pairs a f o
