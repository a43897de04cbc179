-- A step of a client of the third form leaves no more pending operations and leaves than it finds, and than may be.
use Rattle.st_lemmas.proofs.Words
use Words.{◌≡◌, ◌≤◌, ◌+◌, ◌==◌, ℕ, Bool, true, false, List, [], ◌∷◌, ◌++◌, length, Option, Some, None, refl, sym, ◌∙◌, inl, inr, arith, if◌then◌else◌, leb-false, eqb-true, ne_eqb, append_assoc, length-append, subst}
use Words.{Ask, ClientInput, Operation, ServerId, Stamp}
use Words.answers
use Words.asks
use Words.Client as cl
use Words.ClientPages as pages
use Words.ClientState as cs
use Words.ClientState.{Association}
use Words.Lengths.{nothing_after}
use Words.Lists.{Has}
use Rattle.st_rules.specs.declared.client.ClientInput.TheVariants as inputs
use Rattle.st_third.specs.declared.event.ThirdInput.{ThirdInput}
use Rattle.st_third.specs.declared.event.ThirdInput.TheVariants as third
use Rattle.st_third.specs.declared.limits.Limits.{Limits}
use Rattle.st_third.specs.Client as client
use Rattle.st_third.specs.Leave as leaving
use Rattle.st_third.specs.Replies as hearing
use Rattle.st_third.specs.State as state
use Rattle.st_third.specs.State.{Beside, ThirdClient, ThirdClientTurn, ThirdTurn, at_each, at_these, enter, leave, only_at, plainly, third_turn}
use Rattle.st_laws_steps.specs.Lives.Lives.{Pairwise}
use Rattle.st_laws_third.specs.Changes.{IsLost, Lasts, ThirdLoses, with_plain}
use Rattle.st_laws_third.specs.Pairs.{IsPaired}
use Rattle.st_laws_third.proofs.Facts.{changes_third}
use Rattle.st_laws_third.proofs.Leaving as lost
use Rattle.st_laws_leaving.specs.Going.{Apart}
use Rattle.st_laws_leaving.proofs.ClientSteps.{apart_on}
use Rattle.st_laws_limits.proofs.Pending.{Fewer, loses, receives}
use Rattle.st_laws_limits.proofs.PendingPasses.{finishes, passes_all}

-- how many operations and leaves are pending
abbrev pub waiting : ThirdClient → ℕ
waiting c = length c.plain.operations + length c.beside.leaves

abbrev at_turn : ThirdTurn → ℕ
at_turn t = length t.plain.operations + length t.leaves

-- At each server in turn.
module _ (m : Limits) (rule : ThirdTurn → ThirdTurn) (one : (t : ThirdTurn) → Fewer t (rule t)) where
  these_wait : (as_ : List Association) (bs : List Beside) (t : ThirdClientTurn) → waiting (at_these m rule as_ bs t).client ≤ waiting t.client
  unfolding at_these
  these_wait [] bs t = omega arith
  these_wait (a ∷ as_) [] t = omega arith
  these_wait (a ∷ as_) (b ∷ bs) t =
      let f = one (enter m t a b) in
      let x = f.operations in let y = f.leaves in
      let z = these_wait as_ bs (leave t (rule (enter m t a b))) in omega (arith, x, y, z)

  pub each_waits : (t : ThirdClientTurn) → waiting (at_each m rule t).client ≤ waiting t.client
  unfolding at_each
  each_waits t = these_wait t.client.plain.associations t.client.beside.besides (record t { client = state.with_none t.client })

-- After a rule at each server the servers are the same.

abbrev SameServer : Association → Association → Type 0
SameServer a b = b.server ≡ a.server

module _ (m : Limits) (rule : ThirdTurn → ThirdTurn) (one : (t : ThirdTurn) → SameServer t.plain.here (rule t).plain.here) where
  these_same : (as_ : List Association) (bs : List Beside) (t : ThirdClientTurn) → length bs ≡ length as_ →
      (ys : List Association) × ((at_these m rule as_ bs t).client.plain.associations ≡ t.client.plain.associations ++ ys) × (Pairwise SameServer as_ ys)
  unfolding at_these
  these_same [] [] t e = ([], nothing_after t.client.plain.associations, tt)
  these_same [] (b ∷ bs) t e = cc e
  these_same (a ∷ as_) [] t e = cc e
  these_same (a ∷ as_) (b ∷ bs) t e =
      let r : ThirdTurn = rule (enter m t a b) in
      let z = these_same as_ bs (leave t r) (omega (arith, e)) in (
        r.plain.here ∷ z.0,
        z.1 ∙ append_assoc t.client.plain.associations (r.plain.here ∷ []) z.0,
        record { one = one (enter m t a b); rest = z.2 },
      )

  each_same : (t : ThirdClientTurn) → IsPaired t.client → Apart t.client.plain.associations → Apart (at_each m rule t).client.plain.associations
  unfolding at_each
  each_same t e p =
      let z = these_same t.client.plain.associations t.client.beside.besides (record t { client = state.with_none t.client }) e in
      subst Apart (sym z.1) (apart_on SameServer (λ a b q. q) t.client.plain.associations z.0 z.2 p)

lost_same : (now : Stamp) (t u : ThirdTurn) → ThirdLoses now t u → SameServer t.plain.here u.plain.here
unfolding plainly
lost_same now t _ (Lasts e) = refl
lost_same now t _ (IsLost s v e i cs) = sym (changes_third now (with_plain (leaving.noted_lost t.plain) t) v cs).server

-- Asks: an operation or a leave more, at the server that is asked.

module _ (m : Limits) (s : ServerId) (rule : ThirdTurn → ThirdTurn) (one : (t : ThirdTurn) → at_turn (rule t) ≤ at_turn t + 1) where
  -- at none of these
  none_asked : (as_ : List Association) (bs : List Beside) (t : ThirdClientTurn) → ((a : Association) → Has a as_ → cs.is_at s a ≡ false) →
      waiting (at_these m (only_at s rule) as_ bs t).client ≤ waiting t.client
  unfolding at_these only_at
  none_asked [] bs t f = omega arith
  none_asked (a ∷ as_) [] t f = omega arith
  none_asked (a ∷ as_) (b ∷ bs) t f =
      let z = none_asked as_ bs (leave t (if cs.is_at s a then rule (enter m t a b) else enter m t a b)) (λ x h. f x (inr h)) in
      go (cs.is_at s a) (f a (inl refl)) z
    where
      go : (i : Bool) → i ≡ false →
          waiting (at_these m (only_at s rule) as_ bs (leave t (if i then rule (enter m t a b) else enter m t a b))).client
          ≤ waiting (leave t (if i then rule (enter m t a b) else enter m t a b)).client →
          waiting (at_these m (only_at s rule) as_ bs (leave t (if i then rule (enter m t a b) else enter m t a b))).client ≤ waiting t.client
      go true q z = cc q
      go false q z = z

  asked_once : (as_ : List Association) (bs : List Beside) (t : ThirdClientTurn) → Apart as_ →
      waiting (at_these m (only_at s rule) as_ bs t).client ≤ waiting t.client + 1
  unfolding at_these only_at
  asked_once [] bs t p = omega arith
  asked_once (a ∷ as_) [] t p = omega arith
  asked_once (a ∷ as_) (b ∷ bs) t p = go (cs.is_at s a) refl (asked_once as_ bs (leave t (enter m t a b)) p.rest)
    where
      go : (i : Bool) → cs.is_at s a ≡ i → waiting (at_these m (only_at s rule) as_ bs (leave t (enter m t a b))).client ≤ waiting t.client + 1 →
          waiting (at_these m (only_at s rule) as_ bs (leave t (if i then rule (enter m t a b) else enter m t a b))).client ≤ waiting t.client + 1
      go true q l =
          let x = one (enter m t a b) in
          let z = none_asked as_ bs (leave t (rule (enter m t a b)))
          (λ c h. ne_eqb c.server.0 s.0 (λ e. p.first c h (e ∙ sym (eqb-true a.server.0 s.0 q)))) in
          omega (arith, x, z)
      go false q l = l

takes_one : (op : ℕ) (ask : Ask) (t : ThirdTurn) → at_turn (client.take_plainly op ask t) ≤ at_turn t + 1
unfolding plainly cl.take_ask cl.take_by cl.take_sync cl.enqueue cl.tell_lost
takes_one op ask t = go ask
  where
    last : (o : Operation) → length (t.plain.operations ++ o ∷ []) ≡ length t.plain.operations + 1
    last o = length-append t.plain.operations (o ∷ [])

    kept : (o : Operation) → length (t.plain.operations ++ o ∷ []) + length t.leaves ≤ at_turn t + 1
    kept o = let e = last o in omega (arith, e)

    go : (a : Ask) → at_turn (record t { plain = cl.take_by t.plain op ask a }) ≤ at_turn t + 1
    go (asks.Sync f) = by (pages.has_lost t.plain.here.lost f.ino)
      where
        by : (b : Bool) → at_turn (record t { plain = if b then cl.tell_lost t.plain op f.ino else cl.enqueue t.plain op ask }) ≤ at_turn t + 1
        by true = omega arith
        by false = kept (cs.new_operation op ask)
    go a = kept (cs.new_operation op ask)

leaves_one : (op : ℕ) (t : ThirdTurn) → at_turn (leaving.take_leave op t) ≤ at_turn t + 1
unfolding leaving.take_leave leaving.take_leave_at state.say
leaves_one op t = go (leaving.least_lost t.plain.here.lost)
  where
    go : (o : Option ℕ) → at_turn (leaving.take_leave_at op t o) ≤ at_turn t + 1
    go None = let e = length-append t.leaves (record { op = op; server = state.here t } ∷ []) in omega (arith, e)
    go (Some ino) = omega arith

-- A step.
module _ (m : Limits) (now : Stamp) where
  asks_one : (t : ThirdClientTurn) (op : ℕ) (s : ServerId) (rule : ThirdTurn → ThirdTurn) → ((t : ThirdTurn) → at_turn (rule t) ≤ at_turn t + 1) →
      Apart t.client.plain.associations → waiting t.client ≤ m.operations → waiting (client.ask_by m t op s rule).client ≤ m.operations
  unfolding client.ask_by client.ask_at at_each
  asks_one t op s rule one p l = go (client.is_full m t.client) refl (cl.is_configured t.client.plain s)
    where
      go : (b : Bool) → client.is_full m t.client ≡ b → (d : Bool) →
          waiting (if b then client.answered_at_once t op answers.OpsFull else
          (if d then at_each m (only_at s rule) t else client.answered_at_once t op answers.NoFile)).client ≤ m.operations
      go true q d = l
      go false q true =
          let a = asked_once m s rule one t.client.plain.associations t.client.beside.besides (record t { client = state.with_none t.client }) p in
          let b = leb-false m.operations (waiting t.client) q in omega (arith, a, b)
      go false q false = l

  hears : (t : ThirdClientTurn) (i : ClientInput) → Apart t.client.plain.associations → waiting t.client ≤ m.operations →
      waiting (client.take_plain m t now i).client ≤ m.operations
  unfolding client.take_plain client.app client.done hearing.receive
  hears t inputs.Tick p l = l
  hears t (inputs.App op ask) p l = asks_one t op (cs.server_of ask) (client.take_plainly op ask) (takes_one op ask) p l
  hears t (inputs.Control x) p l = go (x.header.to == t.client.plain.id.0)
    where
      go : (b : Bool) → waiting (if b then at_each m (hearing.receive_at now x.header x.body) t else t).client ≤ m.operations
      go true = let a = each_waits m (hearing.receive_at now x.header x.body) (receives now x.header x.body) t in omega (arith, a, l)
      go false = l
  hears t (inputs.Done number result) p l = let a = each_waits m (client.finish number result) (finishes number result) t in omega (arith, a, l)

  pub steps_wait : (c : ThirdClient) (i : ThirdInput) → IsPaired c → Apart c.plain.associations → waiting c ≤ m.operations →
      waiting (client.client_step m c now i).client ≤ m.operations
  unfolding client.client_step client.work client.losses client.take_input client.app_leave
  steps_wait c i e p l =
      let u : ThirdClientTurn = client.losses m (third_turn c []) now in
      let a = each_waits m (leaving.lose now) (loses now) (third_turn c []) in
      go i u (each_same m (leaving.lose now) (λ t. lost_same now t _ (lost.loses t)) (third_turn c []) e p) (omega (arith, a, l))
    where
      after : (v : ThirdClientTurn) (tick : Bool) → waiting v.client ≤ m.operations → waiting (at_each m (client.third_passes now tick) v).client ≤ m.operations
      after v tick l = let a = each_waits m (client.third_passes now tick) (passes_all now tick) v in omega (arith, a, l)

      go : (i : ThirdInput) (u : ThirdClientTurn) → Apart u.client.plain.associations → waiting u.client ≤ m.operations →
          waiting (at_each m (client.third_passes now (client.is_tick i)) (client.take_input m u now i)).client ≤ m.operations
      go (third.Plain j) u p l = after (client.take_plain m u now j) (cl.is_tick j) (hears u j p l)
      go (third.Leave op s) u p l = after (client.app_leave m u op s) false (asks_one u op s (leaving.take_leave op) (leaves_one op) p l)
