-- A whole step of a client, whatever it takes.
use Rattle.st_lemmas.proofs.Words
use Words.{◌≡◌, ℕ, Bool, true, false, ◌||◌, List, [], ◌∷◌, ◌++◌, ◌==◌, Option, Some, None, refl, sym, ap, ◌∙◌, subst, inl, inr, if◌then◌else◌, ◌⊎◌, is_some}
use Words.{map, list_any, eqb-true, Config, ClientId, ServerId, Stamp, AppAnswer, Ask, Body, Output, ClientInput, Operation}
use Words.asks
use Words.outputs
use Words.inputs
use Words.Client as cl
use Words.ClientPages as pages
use Words.ClientPasses as cp
use Words.ClientReplies as cr
use Words.ClientState as cs
use Words.ClientState.{ClientSession, Association, ClientState, ClientTurn, Turn, client_turn, enter, leave, at_these, at_each, only_at, is_at, server_of}
use Words.Keys.{same_server, server_node}
use Words.Safety.{is_use}
use Words.Lists.{Has}
use Words.Tables.{has_append, has_map_in}
use Words.Lookups.{or_left}
use Rattle.st_laws_steps.specs.Lives.Lives.{Once, server_number}
use Rattle.st_laws_pages.proofs.Asks.Places.{Knows, OwnBody}
use Rattle.st_laws_pages.proofs.Asks.Client.{Lasts, Stands, Usable, Begun, Lasting, Each, begins_after_receive, stands_after_lose, stands_after_finish, usable_after_passes, each, these, begun}

-- A fact of operations and outputs, before the input and after it.
abbrev pub Fact : Type 1
Fact = List Operation → List Output → Type 0

abbrev pub Goes : Fact → Fact → Type 0
Goes P R = (ops : List Operation) (out : List Output) → P ops out → R ops out

-- an ask is pending from now on, or is answered at once
pub record TakesAsk (P R : Fact) (op : ℕ) (ask : Ask) : Type 0 where
  pub enqueues : (ops : List Operation) (out : List Output) → P ops out → R (ops ++ cs.new_operation op ask ∷ []) out
  pub at_once : (ops : List Operation) (out : List Output) (a : AppAnswer) → is_use a ≡ false → P ops out → R ops (out ++ outputs.Answer op a ∷ [])

-- what a message tells of pages is of the disks of its sender
abbrev pub ToldBy : ℕ → ℕ → Body → Type 0
ToldBy n from b = (s : ServerId) → from ≡ server_node s → OwnBody n s b

-- what an input does to a fact, and what it tells
abbrev pub Takes : ℕ → Fact → Fact → ClientInput → Type 0
Takes n P R inputs.Tick = Goes P R
Takes n P R (inputs.App op ask) = TakesAsk P R op ask
Takes n P R (inputs.Control m) = Goes P R × ToldBy n m.header.from m.body
Takes n P R (inputs.Done number result) = Goes P R

-- Losses leave the servers of the associations.
server_if : (s : ServerId) (b : Bool) (t u : Turn) → t.here.server ≡ s → u.here.server ≡ s → (if b then t else u).here.server ≡ s
server_if s true t u x y = x
server_if s false t u x y = y

end_server : (t : Turn) (s : ClientSession) (o : Operation) → (cl.end_operation t s o).here.server ≡ t.here.server
unfolding cl.end_operation cl.end_unsent cl.end_sync cl.tell_lost
end_server t s o = server_if t.here.server (cs.is_sent o) _ _ refl (by o.ask)
  where
    by : (a : Ask) → (cl.end_unsent t o a).here.server ≡ t.here.server
    by (asks.Sync f) = server_if t.here.server (pages.has_lost t.here.lost f.ino) _ _ refl refl
    by a = refl

end_servers : (s : ClientSession) (os : List Operation) (t : Turn) → (cl.end_each s os t).here.server ≡ t.here.server
unfolding cl.end_each
end_servers s [] t = refl
end_servers s (o ∷ os) t = end_servers s os (cl.end_operation t s o) ∙ end_server t s o

lose_server : (now : Stamp) (t : Turn) → (cl.lose now t).here.server ≡ t.here.server
unfolding cl.lose cl.lose_by cl.lose_over cl.lose_session cl.end_operations
lose_server now t = go t.here.session
  where
    go : (o : Option ClientSession) → (cl.lose_by t now o).here.server ≡ t.here.server
    go None = refl
    go (Some s) = server_if t.here.server (cl.is_over t s now) _ _ (end_servers s _ _) refl

numbers_last : (xs : List Association) (a : Association) (ys : List ℕ) → map server_number (xs ++ a ∷ []) ++ ys ≡ map server_number xs ++ server_number a ∷ ys
numbers_last [] a ys = refl
numbers_last (x ∷ xs) a ys = ap (λ z. server_number x ∷ z) (numbers_last xs a ys)

none_numbers : (xs : List ℕ) → xs ≡ xs ++ []
none_numbers [] = refl
none_numbers (x ∷ xs) = ap (λ z. x ∷ z) (none_numbers xs)

these_servers : (now : Stamp) (al : List Association) (t : ClientTurn) → map server_number (at_these (cl.lose now) al t).state.associations ≡ map server_number t.state.associations ++ map server_number al
unfolding at_these
these_servers now [] t = none_numbers (map server_number t.state.associations)
these_servers now (a ∷ al) t =
    these_servers now al (leave t (cl.lose now (enter t a)))
    ∙ numbers_last t.state.associations (cl.lose now (enter t a)).here (map server_number al)
    ∙ ap (λ (z : ServerId). map server_number t.state.associations ++ z.0 ∷ map server_number al) (lose_server now (enter t a))

module _ (n : ℕ) (Use : ServerId → Type 0) (c : ClientId) (k : Config) (P R : Fact) (p : Lasts n Use c P) (r : Lasts n Use c R) where
  abbrev A : (ServerId → Option ClientSession → Option Stamp → Type 0) → ClientTurn → Type 0
  A C t = Each n Use c k P p C t

  abbrev B : (ServerId → Option ClientSession → Option Stamp → Type 0) → ClientTurn → Type 0
  B C t = Each n Use c k R r C t

  goes : (C : ServerId → Option ClientSession → Option Stamp → Type 0) → Goes P R → (t : ClientTurn) → A C t → B C t
  goes C g t e = record { id = e.id; config = e.config; done = g t.state.operations t.out e.done; own = e.own; cond = e.cond }

  weaker : (t : ClientTurn) → A (Begun Use) t → A (Usable Use) t
  weaker t e =
      record { id = e.id; config = e.config; done = e.done; own = e.own; cond = λ a h z. e.cond a h (or_left (is_some a.session) (is_some a.greeting) z) }

  -- An ask.
  module _ (op : ℕ) (ask : Ask) (g : TakesAsk P R op ask) where
    abbrev s : ServerId
    s = server_of ask

    taken : (t : Turn) → Stands n c k P (Begun Use) t → Stands n c k R (Usable Use) (cl.take_ask op ask t)
    unfolding cl.take_ask cl.take_by cl.take_sync cl.enqueue cl.tell_lost
    taken t w = by ask
      where
        enqueued : Stands n c k R (Usable Use) (cl.enqueue t op ask)
        enqueued = record { id = w.id; config = w.config; done = g.enqueues t.operations t.out w.done; own = w.own; cond = (begun n Use c k P p t w).cond }

        by : (a : Ask) → Stands n c k R (Usable Use) (cl.take_by t op ask a)
        by (asks.Sync f) = lost (pages.has_lost t.here.lost f.ino)
          where
            lost : (b : Bool) → Stands n c k R (Usable Use) (if b then cl.tell_lost t op f.ino else cl.enqueue t op ask)
            lost true = record { id = w.id; config = w.config; done = g.at_once t.operations t.out _ refl w.done; own = w.own; cond = (begun n Use c k P p t w).cond }
            lost false = enqueued
        by a = enqueued

    -- the associations with other servers
    abbrev Elsewhere : ServerId → Option ClientSession → Option Stamp → Type 0
    Elsewhere v o z = (same_server v s ≡ false) × Begun Use v o z

    passed : (t : Turn) → Stands n c k R Elsewhere t → Stands n c k R (Usable Use) (only_at s (cl.take_ask op ask) t)
    unfolding only_at
    passed t w = go (is_at s t.here) w.cond.0
      where
        go : (b : Bool) → b ≡ false → Stands n c k R (Usable Use) (if b then cl.take_ask op ask t else t)
        go true e = cc
        go false e =
            record {
              id = w.id;
              config = w.config;
              done = w.done;
              own = w.own;
              cond = λ z. w.cond.1 (or_left (is_some t.here.session) (is_some t.here.greeting) z);
            }

    other : (a : Association) (al : List Association) → ((m : ℕ) → Has m (map server_number al) → server_number a ≡ m → ⊥) → same_server a.server s ≡ true → (b : Association) → Has b al → same_server b.server s ≡ false
    other a al o e b h = go (same_server b.server s) refl
      where
        go : (z : Bool) → same_server b.server s ≡ z → same_server b.server s ≡ false
        go true f = absurd (o (server_number b) (has_map_in server_number al b h) (eqb-true a.server.0 s.0 e ∙ sym (eqb-true b.server.0 s.0 f)))
        go false f = f

    asks_these : (al : List Association) (t : ClientTurn) → Once (map server_number al) → list_any (is_at s) al ≡ true → ((a : Association) → Has a al → Knows n a.server a.store.extents) →
        ((a : Association) → Has a al → Begun Use a.server a.session a.greeting) → A (Usable Use) t → B (Usable Use) (at_these (only_at s (cl.take_ask op ask)) al t)
    unfolding at_these only_at
    asks_these [] t o f x y e = cc
    asks_these (a ∷ al) t o f x y e = go (is_at s a) refl f (λ v f e. asks_these al v o.rest f (λ b h. x b (inr h)) (λ b h. y b (inr h)) e)
      where
        w : Stands n c k P (Begun Use) (enter t a)
        w = record { id = e.id; config = e.config; done = e.done; own = x a (inl refl); cond = y a (inl refl) }

        more : (Z : Association → Type 0) (u : Association) → ((b : Association) → Has b t.state.associations → Z b) → Z u → (b : Association) → Has b (t.state.associations ++ u ∷ []) → Z b
        more Z u f z b h = at (has_append t.state.associations (u ∷ []) b h)
          where
            at : Has b t.state.associations ⊎ Has b (u ∷ []) → Z b
            at (inl i) = f b i
            at (inr (inl i)) = subst Z (sym i) z
            at (inr (inr i)) = absurd i

        go : (b : Bool) → is_at s a ≡ b → (b || list_any (is_at s) al) ≡ true → ((v : ClientTurn) → list_any (is_at s) al ≡ true → A (Usable Use) v → B (Usable Use) (at_these (only_at s (cl.take_ask op ask)) al v)) →
            B (Usable Use) (at_these (only_at s (cl.take_ask op ask)) al (leave t (if b then cl.take_ask op ask (enter t a) else enter t a)))
        go true i f rec =
            let u = cl.take_ask op ask (enter t a) in
            let z = taken (enter t a) w in
            these n Use c k R r Elsewhere (Usable Use) (only_at s (cl.take_ask op ask)) passed al (leave t u) (λ b h. x b (inr h)) (λ b h. (other a al o.first i b h, y b (inr h)))
            (record {
              id = e.id;
              config = e.config;
              done = z.done;
              own = more (λ b. Knows n b.server b.store.extents) u.here e.own z.own;
              cond = more (λ b. Usable Use b.server b.session b.greeting) u.here e.cond z.cond;
            })
        go false i f rec =
            rec (leave t (enter t a)) f
            (record {
              id = e.id;
              config = e.config;
              done = e.done;
              own = more (λ b. Knows n b.server b.store.extents) a e.own (x a (inl refl));
              cond = more (λ b. Usable Use b.server b.session b.greeting) a e.cond (begun n Use c k P p (enter t a) w).cond;
            })

    asked : (t : ClientTurn) → Once (map server_number t.state.associations) → A (Begun Use) t → B (Usable Use) (cl.app t op ask)
    unfolding cl.app cl.app_known at_each
    asked t o e = full (cl.is_full t.state)
      where
        now : (a : AppAnswer) → is_use a ≡ false → B (Usable Use) (cl.answered_at_once t op a)
        now a u = let z = weaker t e in record { id = e.id; config = e.config; done = g.at_once t.state.operations t.out a u e.done; own = e.own; cond = z.cond }

        known : (b : Bool) → cl.is_configured t.state s ≡ b → B (Usable Use) (if b then at_each (only_at s (cl.take_ask op ask)) t else cl.answered_at_once t op Rattle.st_messages.specs.declared.answer.AppAnswer.TheVariants.NoFile)
        known true i = asks_these t.state.associations _ o i e.own e.cond (record { id = e.id; config = e.config; done = e.done; own = λ b h. absurd h; cond = λ b h. absurd h })
        known false i = now _ refl

        full : (b : Bool) → B (Usable Use) (if b then cl.answered_at_once t op Rattle.st_messages.specs.declared.answer.AppAnswer.TheVariants.OpsFull else cl.app_known t op ask)
        full true = now _ refl
        full false = known (cl.is_configured t.state s) refl

  -- The input.
  input_taken : (t : ClientTurn) (now : Stamp) (input : ClientInput) → Once (map server_number t.state.associations) → Takes n P R input → A (Begun Use) t → B (Usable Use) (cl.take_input t now input)
  unfolding cl.take_input cl.done cr.receive cr.receive_here
  input_taken t now input o g e = go input g
    where
      go : (i : ClientInput) → Takes n P R i → B (Usable Use) (cl.take_input t now i)
      go inputs.Tick g = goes (Usable Use) g t (weaker t e)
      go (inputs.App op ask) g = asked op ask g t o e
      go (inputs.Control m) g = to (m.header.to == t.state.id.0)
        where
          to : (b : Bool) → B (Usable Use) (if b then cr.receive_here t now m.header m.body else t)
          to true = each n Use c k R r (Begun Use) (Usable Use) (cr.receive_at now m.header m.body) (λ u w. begins_after_receive n Use c k R r now m.header m.body u g.1 w) t (goes (Begun Use) g.0 t e)
          to false = goes (Usable Use) g.0 t (weaker t e)
      go (inputs.Done number result) g =
          each n Use c k R r (Usable Use) (Usable Use) (cl.finish number result) (λ u w. stands_after_finish n Use c k R r (Usable Use) number result u w) t (goes (Usable Use) g t (weaker t e))

  -- the whole step
  pub stepped : (s : ClientState) (now : Stamp) (input : ClientInput) → Once (map server_number s.associations) → Takes n P R input → A (Lasting k now Use) (client_turn s []) →
      B (Usable Use) (cl.client_step s now input)
  unfolding cl.client_step cl.work cl.losses at_each
  stepped s now input o g e =
      each n Use c k R r (Usable Use) (Usable Use) (cp.passes now (cl.is_tick input)) (λ u w. usable_after_passes n Use c k R r now (cl.is_tick input) u w) _
      (input_taken _ now input (subst Once (sym (these_servers now s.associations (cs.with_associations [] (client_turn s [])))) o) g
      (each n Use c k P p (Lasting k now Use) (Begun Use) (cl.lose now) (λ u w. stands_after_lose n Use c k P p now u w) (client_turn s []) e))
