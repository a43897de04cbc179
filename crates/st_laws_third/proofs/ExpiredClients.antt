-- A step of a client of the third form leaves nothing of a lease that was over: the loss empties the association, and neither the input nor the passes fill it.
use Rattle.st_lemmas.proofs.Words
use Words.{◌≡◌, ◌+◌, ℕ, ◌==◌, Bool, true, false, ◌&&◌, List, [], ◌∷◌, Option, Some, None, find, refl, sym, ap, ◌∙◌, subst, arith, is_some, if◌then◌else◌, nat_lt}
use Words.{Ask, Body, ClientInput, Config, Header, Operation, ServerId, Stamp, Tag}
use Words.answers
use Words.asks
use Words.bodies
use Words.Client as plain
use Words.ClientPages as pages
use Words.ClientPasses as passes
use Words.ClientReplies as replies
use Words.ClientState.{Association, is_at, is_of, keep, send, with_operations}
use Words.Lists.{Has}
use Rattle.st_rules.specs.declared.client.ClientInput.TheVariants as inputs
use Rattle.st_laws_steps.specs.Client.Losses.{Fit, is_ended}
use Rattle.st_laws_steps.specs.Lives.Lives.{Pairwise}
use Rattle.st_laws_steps.proofs.Client.Stepping.{pairs_same, pairs_then}
use Rattle.st_third.specs.declared.beside.Leave.{Leave}
use Rattle.st_third.specs.declared.event.ThirdInput.{ThirdInput}
use Rattle.st_third.specs.declared.event.ThirdInput.TheVariants as third
use Rattle.st_third.specs.declared.limits.Limits.{Limits}
use Rattle.st_third.specs.Client as client
use Rattle.st_third.specs.GiveBack as giving
use Rattle.st_third.specs.Leave as leaving
use Rattle.st_third.specs.Replies as messages
use Rattle.st_third.specs.Room as room
use Rattle.st_third.specs.State as state
use Rattle.st_third.specs.State.{ThirdClient, ThirdClientTurn, ThirdTurn, at_each, only_at, plainly, session, third_turn}
use Rattle.st_laws_third.specs.Changes.{ThirdLoses, Lasts, IsLost, with_plain}
use Rattle.st_laws_third.specs.Pairs.{IsPaired}
use Rattle.st_laws_third.proofs.Facts.{changes_third}
use Rattle.st_laws_third.proofs.Leaving.{loses}
use Rattle.st_laws_third.proofs.Pairs as paired
use Rattle.st_laws_third.proofs.Stepping as stepping

-- nothing of pages is left, no session, and no greeting
record Bare (a : Association) : Type 0 where
  session : a.session ≡ None
  greeting : a.greeting ≡ None
  extents : a.store.extents ≡ []
  clean : a.store.pages.clean ≡ []
  dirty : a.store.pages.dirty ≡ []
  commands : a.store.commands ≡ []

-- but for a greeting
pub record Empty (a : Association) : Type 0 where
  pub session : a.session ≡ None
  pub extents : a.store.extents ≡ []
  pub clean : a.store.pages.clean ≡ []
  pub dirty : a.store.pages.dirty ≡ []
  pub commands : a.store.commands ≡ []

-- What the input leaves of a bare association.
abbrev Rests : Association → Association → Type 0
Rests a b = Bare a → (Bare b) × (a.life ≡ b.life)

rests_as : (a b : Association) → b.session ≡ a.session → b.greeting ≡ a.greeting → b.store ≡ a.store → b.life ≡ a.life → Rests a b
rests_as a b s g e l p = (
  record {
    session = s ∙ p.session;
    greeting = g ∙ p.greeting;
    extents = ap (λ x. x.extents) e ∙ p.extents;
    clean = ap (λ x. x.pages.clean) e ∙ p.clean;
    dirty = ap (λ x. x.pages.dirty) e ∙ p.dirty;
    commands = ap (λ x. x.commands) e ∙ p.commands;
  },
  sym l,
)

rests_same : (a : Association) → Rests a a
rests_same a p = (p, refl)

-- a rule that leaves a turn leaves it so
rests_if_same : (t u : ThirdTurn) → (Bare t.plain.here → u ≡ t) → Rests t.plain.here u.plain.here
rests_if_same t u f p = subst (λ (x : ThirdTurn). (Bare x.plain.here) × (t.plain.here.life ≡ x.plain.here.life)) (sym (f p)) (p, refl)

-- What the passes leave of one.
abbrev Passes : Association → Association → Type 0
Passes a b = Bare a → (Empty b) × (a.life ≡ b.life)

module _ (k : Config) (m : Limits) (now : Stamp) where
  -- What the losses leave of a lease that is over.
  abbrev Loses : Association → Association → Type 0
  Loses a b = is_ended k now a.session ≡ true → (Bare b) × (b.life.0 ≡ a.life.0 + 1)

  loses_all : (t u : ThirdTurn) → t.plain.config ≡ k → ThirdLoses now t u → Loses t.plain.here u.plain.here
  unfolding plainly
  loses_all t _ c (Lasts e) f = absurd (no (sym (subst (λ x. is_ended x now (session t) ≡ false) c e) ∙ f))
    where
      no : false ≡ true → ⊥
      no q = cc
  loses_all t _ c (IsLost s v e i cs) f =
      let n = changes_third now (with_plain (leaving.noted_lost t.plain) t) v cs in
      let z : t.plain.here.life.0 ≡ v.plain.here.life.0 = ap (λ x. x.0) n.life in
      (record { session = refl; greeting = refl; extents = refl; clean = refl; dirty = refl; commands = refl }, omega (arith, z))

  -- Input.

  unheard : (h : Header) (t : ThirdTurn) → Bare t.plain.here → (body : Body) → messages.without_session t now h body ≡ t
  unfolding messages.without_session messages.welcome
  unheard h t p bodies.Welcome =
      ap (λ (b : Bool). if b then messages.begin_session t (record { 0 = h.epoch }) (record { 0 = h.stamp }) else t)
      (ap (λ (o : Option Stamp). is_some o && nat_lt now.0 (h.stamp + t.plain.config.renew)) p.greeting)
  unheard h t p body = refl

  hears : (h : Header) (body : Body) (t : ThirdTurn) → Rests t.plain.here (messages.receive_at now h body t).plain.here
  unfolding messages.receive_at messages.by_session
  hears h body t = rests_if_same t _ (λ p. go p (replies.is_received t.plain now h))
    where
      by : Bare t.plain.here → messages.by_session t now h body (session t) ≡ t
      by p = ap (messages.by_session t now h body) p.session ∙ unheard h t p body

      go : Bare t.plain.here → (b : Bool) → (if b then messages.by_session t now h body (session t) else t) ≡ t
      go p true = by p
      go p false = refl

  is_asked : (op : ℕ) (ask : Ask) (t : ThirdTurn) → Rests t.plain.here (client.take_plainly op ask t).plain.here
  unfolding plainly plain.take_ask plain.take_by plain.take_sync plain.enqueue plain.tell_lost
  is_asked op (asks.Sync f) t = go (pages.has_lost t.plain.here.lost f.ino)
    where
      go : (b : Bool) → Rests t.plain.here (if b then plain.tell_lost t.plain op f.ino else plain.enqueue t.plain op (asks.Sync f)).here
      go true = rests_as _ _ refl refl refl refl
      go false = rests_same t.plain.here
  is_asked op ask t = rests_same t.plain.here

  asks_leave : (op : ℕ) (t : ThirdTurn) → Rests t.plain.here (leaving.take_leave op t).plain.here
  unfolding leaving.take_leave leaving.take_leave_at state.say
  asks_leave op t = go (leaving.least_lost t.plain.here.lost)
    where
      go : (o : Option ℕ) → Rests t.plain.here (leaving.take_leave_at op t o).plain.here
      go None = rests_same t.plain.here
      go (Some ino) = rests_as _ _ refl refl refl refl

  ends : (number : ℕ) (result : Option (Option (Tag × List ℕ))) (t : ThirdTurn) → Rests t.plain.here (client.finish number result t).plain.here
  unfolding client.finish client.finish_at
  ends number result t =
      rests_if_same t _
      (λ p. ap (λ o. client.finish_at t o result) (ap (λ cs. pages.command_of cs number) p.commands))

  abbrev All : ThirdClientTurn → ThirdClientTurn → Type 0
  All t u = Pairwise Rests t.client.plain.associations u.client.plain.associations

  abbrev AllFit : ThirdClientTurn → Type 0
  AllFit t = (a : Association) → Has a t.client.plain.associations → Fit a

  module _ (t : ThirdClientTurn) (c : t.client.plain.config ≡ k) (p : IsPaired t.client) (f : AllFit t) where
    each : (rule : ThirdTurn → ThirdTurn) → ((u : ThirdTurn) → Rests u.plain.here (rule u).plain.here) → All t (at_each m rule t)
    each rule one = (stepping.each_walk k Rests m rule (λ u d g. one u) t c p f).pairs

    only : (s : ServerId) (rule : ThirdTurn → ThirdTurn) → ((u : ThirdTurn) → Rests u.plain.here (rule u).plain.here) → (u : ThirdTurn) →
        Rests u.plain.here (only_at s rule u).plain.here
    unfolding only_at
    only s rule one u = go (is_at s u.plain.here)
      where
        go : (b : Bool) → Rests u.plain.here (if b then rule u else u).plain.here
        go true = one u
        go false = rests_same u.plain.here

    at_once : All t t
    at_once = pairs_same Rests rests_same t.client.plain.associations

    asks_at : (op : ℕ) (s : ServerId) (rule : ThirdTurn → ThirdTurn) → ((u : ThirdTurn) → Rests u.plain.here (rule u).plain.here) → All t (client.ask_by m t op s rule)
    unfolding client.ask_by client.ask_at
    asks_at op s rule one = go (client.is_full m t.client) (plain.is_configured t.client.plain s)
      where
        go : (b d : Bool) → All t
            (if b then client.answered_at_once t op answers.OpsFull else (if d then at_each m (only_at s rule) t else client.answered_at_once t op answers.NoFile))
        go true d = at_once
        go false true = each (only_at s rule) (only s rule one)
        go false false = at_once

    takes_message : (h : Header) (body : Body) → All t (messages.receive m t now h body)
    unfolding messages.receive
    takes_message h body = go (h.to == t.client.plain.id.0)
      where
        go : (b : Bool) → All t (if b then at_each m (messages.receive_at now h body) t else t)
        go true = each (messages.receive_at now h body) (hears h body)
        go false = at_once

    takes_plain : (input : ClientInput) → All t (client.take_plain m t now input)
    unfolding client.take_plain client.app client.done
    takes_plain inputs.Tick = at_once
    takes_plain (inputs.App op ask) = asks_at op _ _ (is_asked op ask)
    takes_plain (inputs.Control message) = takes_message message.header message.body
    takes_plain (inputs.Done number result) = each (client.finish number result) (ends number result)

    takes : (input : ThirdInput) → All t (client.take_input m t now input)
    unfolding client.take_input client.app_leave
    takes (third.Plain input) = takes_plain input
    takes (third.Leave op s) = asks_at op s _ (asks_leave op)

  -- Passes.

  serves_leave : (t : ThirdTurn) (l : Option Leave) → (leaving.serve_leave_at t l).plain.here ≡ t.plain.here
  unfolding leaving.serve_leave_at leaving.serve_leave leaving.left state.say
  serves_leave t None = refl
  serves_leave t (Some l) = go (leaving.is_done t l)
    where
      go : (b : Bool) → (if b then leaving.left l t else t).plain.here ≡ t.plain.here
      go true = refl
      go false = refl

  operates : (os : List Operation) (ls : List Leave) (t : ThirdTurn) (o : Operation) → session t ≡ None → (client.operate os ls t now o).plain.here ≡ t.plain.here
  unfolding client.operate client.operate_on client.operate_by plainly passes.sync
  operates os ls t o e = go (is_of (state.here t) o)
    where
      by : (client.operate_by os ls t now o (session t)).plain.here ≡ t.plain.here
      by = ap (λ x. (client.operate_by os ls t now o x).plain.here) e

      sync : (f : Words.FileId) (b : Bool) → (if b then passes.answer o answers.Hard t.plain else keep o t.plain).here ≡ t.plain.here
      sync f true = refl
      sync f false = refl

      on : (ask : Ask) → (client.operate_on os ls t now o ask).plain.here ≡ t.plain.here
      on (asks.Sync f) = sync f (pages.is_hard t.plain.here.store f.ino)
      on ask = by

      go : (b : Bool) → (if b then client.operate_on os ls t now o o.ask else plainly (keep o) t).plain.here ≡ t.plain.here
      go true = on o.ask
      go false = refl

  operates_each : (os : List Operation) (ls : List Leave) (ns : List ℕ) (t : ThirdTurn) → session t ≡ None →
      (client.operate_numbers os ls now ns t).plain.here ≡ t.plain.here
  unfolding client.operate_numbers client.operate_either
  operates_each os ls [] t e = refl
  operates_each os ls (op ∷ ops) t e =
      let h = one (find (state.is_operation_numbered op) os) in
      operates_each os ls ops _ (ap (λ (a : Association). a.session) h ∙ e) ∙ h
    where
      one : (o : Option Operation) → (client.operate_either os ls now op t o).plain.here ≡ t.plain.here
      one None = serves_leave t (find (state.is_leave_numbered op) ls)
      one (Some o) = operates os ls t o e

  -- without a session only a greeting is left to do
  greets : (tick : Bool) (t : ThirdTurn) → session t ≡ None → Bare t.plain.here →
      (Empty (client.requests now tick (leaving.greeting now tick t)).plain.here) × (t.plain.here.life ≡ (client.requests now tick (leaving.greeting now tick t)).plain.here.life)
  unfolding client.requests client.requests_by leaving.greeting leaving.greeting_by leaving.greet plainly passes.hello send
  greets tick t e p = subst Left (sym (ap (λ x. client.requests now tick (leaving.greeting_by t now tick x)) e)) (go (leaving.must_greet t now tick))
    where
      Left : ThirdTurn → Type 0
      Left u = (Empty u.plain.here) × (t.plain.here.life ≡ u.plain.here.life)

      done : (u : ThirdTurn) → u.plain.here.session ≡ None → u.plain.here.store ≡ t.plain.here.store → u.plain.here.life ≡ t.plain.here.life →
          Left (client.requests_by u now tick (session u))
      done u s st l =
          subst Left (sym (ap (client.requests_by u now tick) s)) (
            record {
              session = s;
              extents = ap (λ x. x.extents) st ∙ p.extents;
              clean = ap (λ x. x.pages.clean) st ∙ p.clean;
              dirty = ap (λ x. x.pages.dirty) st ∙ p.dirty;
              commands = ap (λ x. x.commands) st ∙ p.commands;
            },
            sym l,
          )

      go : (b : Bool) → Left (client.requests now tick (if b then plainly (leaving.hello now) t else t))
      go true = done (plainly (leaving.hello now) t) e refl refl
      go false = done t e refl refl

  -- the passes between operations and greeting need a session
  between : (tick : Bool) (t : ThirdTurn) → session t ≡ None → leaving.leaving (room.writes now tick (leaving.reductions (giving.giving now t))) ≡ t
  unfolding leaving.leaving leaving.leaving_by room.writes room.writes_by leaving.reductions leaving.reductions_by giving.giving giving.giving_by
  between tick t e =
      let a : giving.giving now t ≡ t = ap (giving.giving_by t now) e in
      let b : leaving.reductions (giving.giving now t) ≡ t = ap leaving.reductions a ∙ ap (leaving.reductions_by t) e in
      let d : room.writes now tick (leaving.reductions (giving.giving now t)) ≡ t = ap (room.writes now tick) b ∙ ap (room.writes_by t now tick) e in
      ap leaving.leaving d ∙ ap (leaving.leaving_by t) e

  passes_all : (tick : Bool) (t : ThirdTurn) → Passes t.plain.here (client.third_passes now tick t).plain.here
  unfolding client.third_passes client.operations plainly
  passes_all tick t p =
      let a : ThirdTurn = client.operations now t in
      let h : a.plain.here ≡ t.plain.here = operates_each _ _ _ (plainly (with_operations []) t) p.session in
      let s : session a ≡ None = ap (λ (x : Association). x.session) h ∙ p.session in
      let z = subst (λ (u : ThirdTurn). (Empty (client.requests now tick (leaving.greeting now tick u)).plain.here) × (a.plain.here.life ≡ (client.requests now tick (leaving.greeting now tick u)).plain.here.life))
      (sym (between tick a s)) (greets tick a s (subst Bare (sym h) p)) in
      (z.0, sym (ap (λ (x : Association). x.life) h) ∙ z.1)

-- What a step leaves of a lease that was over.
abbrev pub IsEmptied : Config → Stamp → Association → Association → Type 0
IsEmptied k now a b = is_ended k now a.session ≡ true → (Empty b) × (b.life.0 ≡ a.life.0 + 1)

pub step_empties : (m : Limits) (c : ThirdClient) (now : Stamp) (input : ThirdInput) → IsPaired c → ((a : Association) → Has a c.plain.associations → Fit a) →
    Pairwise (IsEmptied c.plain.config now) c.plain.associations (client.client_step m c now input).client.plain.associations
unfolding client.client_step client.losses client.work
step_empties m c now input p f =
    let k : Config = c.plain.config in
    let t : ThirdClientTurn = third_turn c [] in
    let u : ThirdClientTurn = client.losses m t now in
    let v : ThirdClientTurn = client.take_input m u now input in
    let a = stepping.each_goes k now m (leaving.lose now) (λ x e g. stepping.loses_it k now x e _ (loses x)) t refl p f in
    let pu : IsPaired u.client = (paired.each_stays m (leaving.lose now) t p).paired in
    let fu = stepping.stepped_fit k now t u a f in
    let b = stepping.takes_input k now m u a.config pu fu input in
    let pv : IsPaired v.client = (paired.input_stays m u now input pu).paired in
    let fv = stepping.stepped_fit k now u v b fu in
    let x = stepping.each_walk k (Loses k m now) m (leaving.lose now) (λ x e g. loses_all k m now x _ e (loses x)) t refl p f in
    let y = takes k m now u a.config pu fu input in
    let z = stepping.each_walk k Passes m (client.third_passes now (client.is_tick input)) (λ x e g. passes_all k m now (client.is_tick input) x) v (b.config ∙ a.config) pv fv in
    pairs_then (Loses k m now) (λ d e. Bare d → (Empty e) × (d.life ≡ e.life)) (IsEmptied k now)
    (λ d e g h i j. let w = h j in let q = i w.0 in (q.0, (let l = w.1 in let n = ap (λ (x : Words.Life). x.0) q.1 in omega (arith, l, n)))) _ _ _ x.pairs
    (pairs_then Rests Passes (λ d e. Bare d → (Empty e) × (d.life ≡ e.life)) (λ d e g h i j. let w = h j in let q = i w.0 in (q.0, w.1 ∙ q.1)) _ _ _ y z.pairs)
