-- Nothing of a server whose lease is over goes out of a client's step.
use Rattle.st_lemmas.proofs.Words
use Words.{◌≡◌, ℕ, Bool, true, false, ◌||◌, ◌==◌, not, List, [], ◌∷◌, ◌++◌, Option, Some, None, refl, sym, ap, ◌∙◌, inl, inr, if◌then◌else◌, arith, filter}
use Words.{is_some, ⊤, list_all, list_any, eqb-false, eqb-true, ne_eqb, Config, BlockAt, FileId, ServerId, Stamp, AppAnswer, Ask, Body, Message, Output}
use Words.{ClientInput, KnownExtent, MappedBlock, Operation}
use Words.Lists.{Has}
use Words.Tables.{all_pass, and_both, and_true, some_passes}
use Words.answers
use Words.asks
use Words.bodies
use Words.notes
use Words.outputs
use Words.inputs.{Tick, App, Control, Done}
use Words.Client as cl
use Words.Client.{client_step}
use Words.ClientPages as pages
use Words.ClientPasses as cp
use Words.ClientReplies as cr
use Words.ClientState as cs
use Words.ClientState.{Association, ClientSession, ClientState, ClientTurn, Turn, at_each, at_these, client_turn, enter, is_at, leave, only_at, server_of}
use Words.ClientState.{with_associations}
use Words.Keys.{same_server, server_node}
use Words.Truth.{block_self, eqb_self, if_either}
use Words.Lookups.{or_right}
use Words.Members.{has_left, has_right}
use Words.Tests.{all_last}
use Rattle.st_client.proofs.ExpiredAssociations.{Begun, FineBody, Stands, Usable, begins_usable_after_receive, is_fine, is_placed, is_row_placed, lies, usable_after_passes, stands_after_finish}
use Rattle.st_client.proofs.ExpiredAssociations.{stands_after_take}
use Rattle.st_client.proofs.SoundLists.{all_filter}
use Rattle.st_client.specs.Losses.{IsOver, coming, comes_at, is_block_elsewhere, is_elsewhere, is_ended, is_known_at, is_other_operation, is_over_at, is_row_at}
use Rattle.st_client.specs.Losses.{knows_at, tells_at}

-- Members.

-- a test that passes, or another one
or_else : (a b : Bool) → (a ≡ false → b ≡ true) → (a || b) ≡ true
or_else true b f = refl
or_else false b f = f refl

left_of : (a b : Bool) → b ≡ false → (not a || b) ≡ true → a ≡ false
left_of true b e h = cc
left_of false b e h = refl

-- A rule at each association in turn.

abbrev Each : (Association → Type 0) → List Association → Type 0
Each P [] = ⊤
Each P (a ∷ more) = P a × Each P more

each_last : (P : Association → Type 0) (xs : List Association) (a : Association) → Each P xs → P a → Each P (xs ++ a ∷ [])
each_last P [] a h p = (p, tt)
each_last P (x ∷ xs) a h p = (h.0, each_last P xs a h.1 p)

module _ (v : ServerId) (known : BlockAt → Bool) (os : List Operation) where
  -- an association, without its step
  abbrev At : (ServerId → Option ClientSession → Option Stamp → Type 0) → Association → Type 0
  At C a = (list_all (is_placed v known os) a.store.extents ≡ true) × C a.server a.session a.greeting

  -- a client within a step
  abbrev Holds : (Association → Type 0) → ClientTurn → Type 0
  Holds P t =
      record {
        each : Each P t.state.associations;
        operations : list_all (is_fine v known os) t.state.operations ≡ true;
        out : list_all (is_elsewhere v known os) t.out ≡ true;
      }

  -- what holds of a rule's step, except for its association
  abbrev Fine : Turn → Type 0
  Fine t = (list_all (is_fine v known os) t.operations ≡ true) × (list_all (is_elsewhere v known os) t.out ≡ true)

  module _ (k : Config) (P Q : Association → Type 0) (f : Turn → Turn) (one : (t : Turn) → t.config ≡ k → P t.here → Fine t → Q (f t).here × Fine (f t)) where
    these_hold : (xs : List Association) (t : ClientTurn) → t.state.config ≡ k → Each P xs → Holds Q t → Holds Q (at_these f xs t)
    unfolding at_these
    these_hold [] t c p h = h
    these_hold (x ∷ xs) t c p h =
        let u = one (enter t x) c p.0 (h.operations, h.out) in
        these_hold xs (leave t (f (enter t x))) c p.1
        (record { each = each_last Q t.state.associations (f (enter t x)).here h.each u.0; operations = u.1.0; out = u.1.1 })

    each_holds : (t : ClientTurn) → t.state.config ≡ k → Holds P t → Holds Q (at_each f t)
    unfolding at_each
    each_holds t c h = these_hold t.state.associations (with_associations [] t) c h.each (record { each = tt; operations = h.operations; out = h.out })

  -- Losses.

  -- before it: the lease is over at the server itself; what is known elsewhere is known there
  abbrev Before : Config → Stamp → Association → Type 0
  Before k now a = (is_over_at v k now a ≡ true) × (is_at v a ≡ false → list_all (is_placed v known os) a.store.extents ≡ true)

  says_fine : (t : Turn) (o : Output) → is_elsewhere v known os o ≡ true → Fine t → Fine (cs.say t o)
  says_fine t o e w = (w.0, all_last (is_elsewhere v known os) t.out o w.1 e)

  end_sync_fine : (t : Turn) (o : Operation) (f : FileId) → Fine t → Fine (cl.end_sync t o f)
  unfolding cl.end_sync cl.tell_lost
  end_sync_fine t o f w =
      if_either Fine (pages.has_lost t.here.lost f.ino) (cl.tell_lost t o.op f.ino) _
      (says_fine t (outputs.Answer o.op (answers.Lost (pages.told_rows t.here.lost f.ino))) refl w)
      (says_fine t (outputs.Answer o.op answers.Quiesced) refl w)

  end_unsent_fine : (t : Turn) (o : Operation) (a : Ask) → Fine t → Fine (cl.end_unsent t o a)
  unfolding cl.end_unsent
  end_unsent_fine t o (asks.Sync f) w = end_sync_fine t o f w
  end_unsent_fine t o a w = says_fine t (outputs.Answer o.op answers.Quiesced) refl w

  ends_fine : (s : ClientSession) (xs : List Operation) (t : Turn) → Fine t → Fine (cl.end_each s xs t)
  unfolding cl.end_each cl.end_operation
  ends_fine s [] t w = w
  ends_fine s (o ∷ xs) t w =
      ends_fine s xs (cl.end_operation t s o)
      (if_either Fine (cs.is_sent o) _ (cl.end_unsent t o o.ask) (says_fine t (outputs.Answer o.op (answers.Uncertain s.epoch.0 0)) refl w)
      (end_unsent_fine t o o.ask w))

  lost_fine : (t : Turn) (s : ClientSession) → Fine t → Fine (cl.lose_session t s)
  unfolding cl.lose_session cl.end_operations
  lost_fine t s w =
      let u = cl.with_lost_pages t.here.store (cs.note t (notes.Lost t.here.server t.here.life)) in
      let r = says_fine t (outputs.Note (notes.Lost t.here.server t.here.life)) refl w in
      ends_fine s (filter (cs.is_of u.here.server) u.operations) (cs.with_operations (filter (λ o. not (cs.is_of u.here.server o)) u.operations) u)
      (all_filter (is_fine v known os) (λ o. not (cs.is_of u.here.server o)) t.operations w.0, r.1)

  lose_holds : (k : Config) (now : Stamp) (t : Turn) → t.config ≡ k → Before k now t.here → Fine t →
      At (Begun v known os) (cl.lose now t).here × Fine (cl.lose now t)
  unfolding cl.lose cl.lose_by cl.lose_over cl.lose_session
  lose_holds k now t c b w = by t.here.session refl
    where
      other : is_at v t.here ≡ false → At (Begun v known os) t.here × Fine t
      other q = ((b.1 q, λ e. q), w)

      by : (o : Option ClientSession) → t.here.session ≡ o → At (Begun v known os) (cl.lose_by t now o).here × Fine (cl.lose_by t now o)
      by None e = other (left_of (is_at v t.here) (is_ended k now t.here.session) (ap (is_ended k now) e) b.0)
      by (Some s) e = go (cl.is_over t s now) refl
        where
          go : (z : Bool) → cl.is_over t s now ≡ z → At (Begun v known os) (if z then cl.lose_session t s else t).here ×
              Fine (if z then cl.lose_session t s else t)
          go true q = ((refl, λ n. absurd (no n)), lost_fine t s w)
            where
              no : false ≡ true → ⊥
              no n = cc
          go false q =
              other (left_of (is_at v t.here) (is_ended k now t.here.session) (ap (is_ended k now) e ∙ ap (λ y. is_ended y now (Some s)) (sym c) ∙ q) b.0)

  -- The input and the passes.

  abbrev G : ServerId → Option ClientSession → Option Stamp → Type 0
  G s o g = Begun v known os s o g

  abbrev S : ServerId → Option ClientSession → Option Stamp → Type 0
  S s o g = Usable v known os s o g

  at_once : (C : Association → Type 0) (t : ClientTurn) (op : ℕ) (a : AppAnswer) → is_elsewhere v known os (outputs.Answer op a) ≡ true → Holds C t →
      Holds C (cl.answered_at_once t op a)
  at_once C t op a e h = record { each = h.each; operations = h.operations; out = all_last (is_elsewhere v known os) t.out (outputs.Answer op a) h.out e }

  by_stands : (C D : ServerId → Option ClientSession → Option Stamp → Type 0) (f : Turn → Turn) →
      ((t : Turn) → Stands v known os C t → Stands v known os D (f t)) →
      (t : Turn) → At C t.here → Fine t → At D (f t).here × Fine (f t)
  by_stands C D f one t a w =
      let r = one t (record { placed = a.0; operations = w.0; out = w.1; cond = a.1 }) in
      ((r.placed, r.cond), (r.operations, r.out))

  usable_at : (xs : List Association) → Each (At G) xs → Each (At S) xs
  usable_at [] h = tt
  usable_at (a ∷ xs) h = ((h.0.0, λ e. h.0.1 (ap (λ z. z || is_some a.greeting) e)), usable_at xs h.1)

  usable_all : (t : ClientTurn) → Holds (At G) t → Holds (At S) t
  usable_all t h = record { each = usable_at t.state.associations h.each; operations = h.operations; out = h.out }

  -- what the input must be: an ask is one of the operations, and a message tells places elsewhere
  abbrev Comes : ClientInput → Type 0
  Comes Tick = ⊤
  Comes (App op ask) = is_fine v known os (cs.new_operation op ask) ≡ true
  Comes (Control m) = (s : ServerId) → (m.header.from == server_node s) ≡ true → same_server s v ≡ false → FineBody v known os m.body
  Comes (Done number result) = ⊤

  input_holds : (t : ClientTurn) (now : Stamp) (input : ClientInput) → Comes input → Holds (At G) t → Holds (At S) (cl.take_input t now input)
  unfolding cl.take_input cl.app cl.app_known cl.done cr.receive cr.receive_here
  input_holds t now Tick e h = usable_all t h
  input_holds t now (App op ask) e h =
      usable_all (cl.app t op ask)
      (if_either (Holds (At G)) (cl.is_full t.state) (cl.answered_at_once t op answers.OpsFull) (cl.app_known t op ask)
      (at_once (At G) t op answers.OpsFull refl h)
      (if_either (Holds (At G)) (cl.is_configured t.state (server_of ask)) (at_each (only_at (server_of ask) (cl.take_ask op ask)) t)
      (cl.answered_at_once t op answers.NoFile)
      (each_holds t.state.config (At G) (At G) (only_at (server_of ask) (cl.take_ask op ask))
      (λ u c a w. by_stands G G (only_at (server_of ask) (cl.take_ask op ask)) (stands_after_take v known os G (server_of ask) op ask e) u a w) t refl h)
      (at_once (At G) t op answers.NoFile refl h)))
  input_holds t now (Control m) e h =
      if_either (Holds (At S)) (m.header.to == t.state.id.0) (at_each (cr.receive_at now m.header m.body) t) t
      (each_holds t.state.config (At G) (At S) (cr.receive_at now m.header m.body)
      (λ u c a w. by_stands G S (cr.receive_at now m.header m.body) (begins_usable_after_receive v known os now m.header m.body e) u a w) t refl h)
      (usable_all t h)
  input_holds t now (Done number result) e h =
      usable_all (cl.done t number result)
      (each_holds t.state.config (At G) (At G) (cl.finish number result)
      (λ u c a w. by_stands G G (cl.finish number result) (stands_after_finish v known os G number result) u a w) t refl h)

  step_holds : (c : ClientState) (now : Stamp) (input : ClientInput) → Comes input → Holds (Before c.config now) (client_turn c []) →
      Holds (At S) (client_step c now input)
  unfolding client_step cl.work cl.losses
  step_holds c now input e h =
      let t = at_each (cl.lose now) (client_turn c []) in
      let a : Holds (At G) t = each_holds c.config (Before c.config now) (At G) (cl.lose now) (lose_holds c.config now) (client_turn c []) refl h in
      let u = cl.take_input t now input in
      each_holds u.state.config (At S) (At S) (cp.passes now (cl.is_tick input))
      (λ x k b w. by_stands S S (cp.passes now (cl.is_tick input)) (usable_after_passes v known os now (cl.is_tick input)) x b w) u refl
      (input_holds t now input e a)

-- The step begins: what is known elsewhere, and which operations are pending.

module _ (v : ServerId) (c : ClientState) (input : ClientInput) where
  abbrev Known : BlockAt → Bool
  Known at = is_block_elsewhere v c input at

  abbrev pending : List Operation
  pending = c.operations ++ coming input

  placed_here : (a : Association) → Has a c.associations → is_at v a ≡ false → list_all (is_placed v Known pending) a.store.extents ≡ true
  placed_here a i q = all_pass (is_placed v Known pending) a.store.extents (λ e j. by e j e.mapping refl)
    where
      by : (e : KnownExtent) → Has e a.store.extents → (o : Option MappedBlock) → e.mapping ≡ o → lies v Known pending o ≡ true
      by e j None m = refl
      by e j (Some x) m =
          let there : is_known_at x.at e ≡ true = rw m (block_self x.at) in
          ap (λ z. z || comes_at v x.at input)
          (some_passes (knows_at v x.at) c.associations a i
          (and_both (not (is_at v a)) (list_any (is_known_at x.at) a.store.extents) (ap not q) (some_passes (is_known_at x.at) a.store.extents e j there)))

  fine_pending : (o : Operation) → Has o pending → is_fine v Known pending o ≡ true
  fine_pending o i =
      or_else (cs.is_of v o) (list_any (is_other_operation v o.op) pending)
      (λ q. some_passes (is_other_operation v o.op) pending o i (and_both (o.op == o.op) (not (cs.is_of v o)) (eqb_self o.op) (ap not q)))

  fine_rows : (m : Message) → input ≡ Control m → (s : ServerId) → (m.header.from == server_node s) ≡ true → same_server s v ≡ false →
      FineBody v Known pending m.body
  fine_rows m i s f n = by m.body refl
    where
      from : (m.header.from == server_node v) ≡ false
      from =
          let a = eqb-true m.header.from (server_node s) f in
          let b = eqb-false s.0 v.0 n in
          ne_eqb m.header.from (server_node v) (λ e. b (omega (arith, a, e)))

      by : (b : Body) → m.body ≡ b → FineBody v Known pending b
      by (bodies.Extents ino rows) e =
          all_pass (is_row_placed v Known pending) rows
          (λ r j. or_right (list_any (knows_at v r.at) c.associations) (comes_at v r.at input)
          (ap (comes_at v r.at) i
          ∙ and_both (not (m.header.from == server_node v)) (tells_at r.at m.body) (ap not from)
          (ap (tells_at r.at) e ∙ some_passes (is_row_at r.at) rows r j (block_self r.at))))
      by b e = tt

  comes : (i : ClientInput) → input ≡ i → Comes v Known pending i
  comes Tick e = tt
  comes (App op ask) e = fine_pending (cs.new_operation op ask) (has_right c.operations (coming input) (cs.new_operation op ask) (rw e (inl refl)))
  comes (Control m) e = fine_rows m e
  comes (Done number result) e = tt

  before_each : (now : Stamp) → IsOver v c now → (xs : List Association) → ((a : Association) → Has a xs → Has a c.associations) →
      list_all (is_over_at v c.config now) xs ≡ true →
      Each (Before v Known pending c.config now) xs
  before_each now over [] i h = tt
  before_each now over (a ∷ xs) i h =
      let p = and_true (is_over_at v c.config now a) (list_all (is_over_at v c.config now) xs) h in
      ((p.0, placed_here a (i a (inl refl))), before_each now over xs (λ b j. i b (inr j)) p.1)

  pub step_unused : (now : Stamp) → IsOver v c now → list_all (is_elsewhere v Known pending) (client_step c now input).out ≡ true
  step_unused now over =
      let h =
      step_holds v Known pending c now input (comes input refl)
      (record {
        each = before_each now over c.associations (λ a j. j) over;
        operations = all_pass (is_fine v Known pending) c.operations (λ o j. fine_pending o (has_left c.operations (coming input) o j));
        out = refl;
      }) in
      h.out
