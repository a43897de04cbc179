-- A whole step of a client keeps what holds of its requests at all its servers.
use Rattle.st_lemmas.proofs.Words
use Words.{◌≡◌, ℕ, ◌≤◌, ◌⊎◌, Bool, true, false, ◌==◌, List, [], ◌∷◌, ◌++◌, refl, sym, ap, ◌∙◌, subst, inl, inr, arith, if◌then◌else◌, map, eqb-true, ClientId}
use Words.{ServerId, Stamp, AppAnswer, Ask, Body, Message, Output, ClientInput, Operation, Request}
use Words.answers
use Words.outputs
use Words.inputs
use Words.Client as cl
use Words.ClientPasses as cp
use Words.ClientReplies as cr
use Words.ClientState as cs
use Words.ClientState.{Association, ClientState, ClientTurn, Turn, at_each, at_these, client_turn, enter, leave, server_of, with_associations}
use Words.Keys.{server_node}
use Words.Lists.{Has}
use Words.Tables.{has_append, has_map_in}
use Words.Members.{has_left}
use Rattle.st_laws_steps.specs.Lives.Lives.{Once, server_number}
use Rattle.st_laws_requests.specs.Cuts.Cuts.{AllWait, AsksFor, Between, Keyed, Numbers, OneWaits, is_report, view}
use Rattle.st_laws_requests.proofs.Cuts.Client.{whole_after_finish, whole_after_receive, whole_after_lose, whole_after_passes, whole_after_take}
use Rattle.st_laws_requests.proofs.Cuts.Keeping.{Answers, SaidOf, Sent, Whole, asked_of, sent_more}

-- associations of servers that differ
abbrev pub Onces : List Association → Type 0
Onces [] = Unit {0}
Onces (a ∷ al) = record { first : (b : Association) → Has b al → a.server.0 ≡ b.server.0 → ⊥; rest : Onces al }

pub onces : (al : List Association) → Once (map server_number al) → Onces al
onces [] o = tt
onces (a ∷ al) o = record { first = λ b h e. o.first (server_number b) (has_map_in server_number al b h) e; rest = onces al o.rest }

pub onces_last : (xs : List Association) (a : Association) → Onces xs → ((b : Association) → Has b xs → b.server.0 ≡ a.server.0 → ⊥) → Onces (xs ++ a ∷ [])
onces_last [] a o f = record { first = λ b h e. absurd h; rest = tt }
onces_last (x ∷ xs) a o f = record { first = λ b h e. first b (has_append xs (a ∷ []) b h) e; rest = onces_last xs a o.rest (λ b h e. f b (inr h) e) }
  where
    first : (b : Association) → Has b xs ⊎ Has b (a ∷ []) → x.server.0 ≡ b.server.0 → ⊥
    first b (inl h) e = o.first b h e
    first b (inr (inl q)) e = f x (inl refl) (e ∙ ap (λ (z : Association). z.server.0) q)
    first b (inr (inr i)) e = i

module _ (M : List Message) (c : ClientId) (Known : ℕ → Ask → Type 0) (Before : ServerId → ℕ → ℕ → ℕ → ℕ → Type 0) (Done : ℕ → Ask → AppAnswer → Type 0) where
  -- what holds of an association, within a step
  pub record At (ops : List Operation) (out : List Output) (a : Association) : Type 0 where
    pub numbers : Numbers (Sent M c Known Before Done out) c a.server a.life.0 (view a.session)
    pub waits : AllWait Before a.server a.life.0 (view a.session) ops
    pub alone : OneWaits a.server ops

  -- what holds of a step so far, with associations that are still to come
  pub record Held (rest : List Association) (t : ClientTurn) : Type 0 where
    pub id_ : t.state.id ≡ c
    pub asked : (o : Operation) → Has o t.state.operations → Known o.op o.ask
    pub done : (a : Association) → Has a t.state.associations → At t.state.operations t.out a
    pub todo : (a : Association) → Has a rest → At t.state.operations t.out a
    pub said : (op : ℕ) (a : AppAnswer) → Has (outputs.Answer op a) t.out → SaidOf M c Known Before Done op a
    pub from : (m : Message) → Has (outputs.Send m) t.out → m.header.from ≡ c.0
    pub once_done : Onces t.state.associations
    pub once_todo : Onces rest
    pub apart : (a b : Association) → Has a t.state.associations → Has b rest → a.server.0 ≡ b.server.0 → ⊥

  abbrev WOf : ServerId → List Operation → List Output → Turn → Type 0
  WOf s B out0 t = Whole M c Known Before Done s B out0 t.id t.here.server t.here.life.0 (view t.here.session) t.operations t.out

  abbrev RuleOk : (Turn → Turn) → Type 0
  RuleOk rule = (s : ServerId) (B : List Operation) (out0 : List Output) (t : Turn) → WOf s B out0 t → WOf s B out0 (rule t)

  -- an association with a server other than that of the rule
  elsewhere : (t : ClientTurn) (a : Association) (u : Turn) → WOf a.server t.state.operations t.out u → (b : Association) → (b.server.0 ≡ a.server.0 → ⊥) →
      At t.state.operations t.out b → At u.operations u.out b
  elsewhere t a u w b ne k =
      record {
        numbers = record {
          lives = λ m h z. k.numbers.lives m (was m h z) z;
          placed = λ m h z. k.numbers.placed m (was m h z) z;
          one = λ m p h i z y. k.numbers.one m p (was m h z) (was p i y) z y;
          sent = sent_more (Sent M c Known Before Done t.out) (Sent M c Known Before Done u.out) c b.server b.life.0 (view b.session) still k.numbers.sent;
          counts = k.numbers.counts;
        };
        waits = λ o h e. k.waits o (w.base.others o h (not_here o e)) e;
        alone = λ o p h i e f. k.alone o p (w.base.others o h (not_here o e)) (w.base.others p i (not_here p f)) e f;
      }
    where
      still : (m : Message) → Sent M c Known Before Done t.out m → Sent M c Known Before Done u.out m
      still m (inl h) = inl h
      still m (inr h) = inr (w.base.kept m h)

      was : (m : Message) → Sent M c Known Before Done u.out m → Between c b.server m → Sent M c Known Before Done t.out m
      was m (inl h) z = inl h
      was m (inr h) z = go (w.base.sent m h)
        where
          go : Has (outputs.Send m) t.out ⊎ Between c u.here.server m → Sent M c Known Before Done t.out m
          go (inl i) = inr i
          go (inr y) = let p = y.1 in let q = z.1 in let r = ap (λ (v : ServerId). v.0) w.base.server in absurd (ne (omega (arith, p, q, r)))

      not_here : (o : Operation) → cs.is_asked b.server o ≡ true → cs.is_of u.here.server o ≡ false
      not_here o e = go (cs.is_of u.here.server o) refl
        where
          go : (z : Bool) → cs.is_of u.here.server o ≡ z → z ≡ false
          go true q =
              let p = eqb-true (server_of o.ask).0 b.server.0 (asked_of b.server o e).0 in
              let r = eqb-true (server_of o.ask).0 u.here.server.0 q in
              let v = ap (λ (v : ServerId). v.0) w.base.server in
              absurd (ne (sym p ∙ r ∙ v))
          go false q = refl

  these : (rule : Turn → Turn) → RuleOk rule → (rest : List Association) (t : ClientTurn) → Held rest t → Held [] (at_these rule rest t)
  unfolding at_these
  these rule ok [] t k = k
  these rule ok (a ∷ rest) t k = these rule ok rest (leave t (rule (enter t a))) held
    where
      u : Turn
      u = rule (enter t a)

      here : At t.state.operations t.out a
      here = k.todo a (inl refl)

      w : WOf a.server t.state.operations t.out u
      w = ok a.server t.state.operations t.out (enter t a)
          (record {
            base =
                record
                { id_ = k.id_; server = refl; asked = k.asked; others = λ o h e. h; numbers = here.numbers; sent = λ m h. inl h; kept = λ m h. h; said = k.said };
            waits = here.waits;
            alone = here.alone;
          })

      server : u.here.server.0 ≡ a.server.0
      server = ap (λ (v : ServerId). v.0) w.base.server

      done : (b : Association) → Has b t.state.associations ⊎ Has b (u.here ∷ []) → At u.operations u.out b
      done b (inl h) = elsewhere t a u w b (λ e. k.apart b a h (inl refl) e) (k.done b h)
      done b (inr (inl e)) = subst (At u.operations u.out) (sym e) (record { numbers = w.base.numbers; waits = w.waits; alone = w.alone })
      done b (inr (inr i)) = absurd i

      from : (m : Message) → Has (outputs.Send m) t.out ⊎ Between c u.here.server m → m.header.from ≡ c.0
      from m (inl h) = k.from m h
      from m (inr y) = y.0

      apart : (x y : Association) → Has x t.state.associations ⊎ Has x (u.here ∷ []) → Has y rest → x.server.0 ≡ y.server.0 → ⊥
      apart x y (inl h) i e = k.apart x y h (inr i) e
      apart x y (inr (inl q)) i e = k.once_todo.first y i (sym server ∙ sym (ap (λ (z : Association). z.server.0) q) ∙ e)
      apart x y (inr (inr i)) j e = i

      held : Held rest (leave t u)
      held =
          record {
            id_ = k.id_;
            asked = w.base.asked;
            done = λ b h. done b (has_append t.state.associations (u.here ∷ []) b h);
            todo = λ b h. elsewhere t a u w b (λ e. k.once_todo.first b h (sym e)) (k.todo b (inr h));
            said = w.base.said;
            from = λ m h. from m (w.base.sent m h);
            once_done = onces_last t.state.associations u.here k.once_done (λ b h e. k.apart b a h (inl refl) (e ∙ server));
            once_todo = k.once_todo.rest;
            apart = λ x y h i e. apart x y (has_append t.state.associations (u.here ∷ []) x h) i e;
          }

  each : (rule : Turn → Turn) → RuleOk rule → (t : ClientTurn) → Held [] t → Held [] (at_each rule t)
  unfolding at_each
  each rule ok t k =
      these rule ok t.state.associations (with_associations [] t)
      (record {
        id_ = k.id_;
        asked = k.asked;
        done = λ a h. absurd h;
        todo = k.done;
        said = k.said;
        from = k.from;
        once_done = tt;
        once_todo =
            k.once_done;
        apart = λ a b h i e. absurd h;
      })

  -- an answer at once
  at_once : (t : ClientTurn) (op : ℕ) (a : AppAnswer) → ((x : ℕ) → SaidOf M c Known Before Done x a) → Held [] t → Held [] (cl.answered_at_once t op a)
  at_once t op a n k =
      record {
        id_ = k.id_;
        asked = k.asked;
        done = λ b h. let z = k.done b h in
            record {
              numbers = record {
                lives = λ m i y. z.numbers.lives m (was m i) y;
                placed = λ m i y. z.numbers.placed m (was m i) y;
                one = λ m p i j. z.numbers.one m p (was m i) (was p j);
                sent = sent_more (Sent M c Known Before Done t.out) (Sent M c Known Before Done (t.out ++ outputs.Answer op a ∷ [])) c b.server b.life.0
                    (view b.session) more z.numbers.sent;
                counts = z.numbers.counts;
              };
              waits = z.waits;
              alone = z.alone;
            };
        todo = λ b h. absurd h;
        said = λ x b h. says x b (has_append t.out (outputs.Answer op a ∷ []) _ h);
        from = λ m h. from m (has_append t.out (outputs.Answer op a ∷ []) _ h);
        once_done = k.once_done;
        once_todo = tt;
        apart = λ x y h i e. absurd i;
      }
    where
      more : (m : Message) → Sent M c Known Before Done t.out m → Sent M c Known Before Done (t.out ++ outputs.Answer op a ∷ []) m
      more m (inl h) = inl h
      more m (inr h) = inr (has_left t.out _ _ h)

      was : (m : Message) → Sent M c Known Before Done (t.out ++ outputs.Answer op a ∷ []) m → Sent M c Known Before Done t.out m
      was m (inl h) = inl h
      was m (inr h) = go (has_append t.out (outputs.Answer op a ∷ []) (outputs.Send m) h)
        where
          go : Has (outputs.Send m) t.out ⊎ Has (outputs.Send m) (outputs.Answer op a ∷ []) → Sent M c Known Before Done t.out m
          go (inl i) = inr i
          go (inr (inl e)) = cc e
          go (inr (inr i)) = absurd i

      says : (x : ℕ) (b : AppAnswer) → Has (outputs.Answer x b) t.out ⊎ Has (outputs.Answer x b) (outputs.Answer op a ∷ []) → SaidOf M c Known Before Done x b
      says x b (inl h) = k.said x b h
      says x b (inr (inl e)) = subst (λ y. SaidOf M c Known Before Done x y) (sym (same e)) (n x)
        where
          same : outputs.Answer x b ≡ outputs.Answer op a → b ≡ a
          same e = cc
      says x b (inr (inr i)) = absurd i

      from : (m : Message) → Has (outputs.Send m) t.out ⊎ Has (outputs.Send m) (outputs.Answer op a ∷ []) → m.header.from ≡ c.0
      from m (inl h) = k.from m h
      from m (inr (inl e)) = cc e
      from m (inr (inr i)) = absurd i

  module _ (fresh : (sv : ServerId) (life epoch number op : ℕ) → ((m : Message) → Has m M → Keyed c sv life epoch number m → ⊥) →
      Before sv life epoch number op)
      (Told : Message → Body → ServerId → Type 0)
      (ends : (m : Message) (sv : ServerId) (b : Body) (a : AppAnswer) → Told m b sv → Answers b a → (q : Request) (o : Operation) → server_of o.ask ≡ sv →
      1 ≤ q.number → m.header.number ≡ q.number → AsksFor o.ask q.body → cs.fits b q.body ≡ true →
      ((y : Message) → Has y M → Keyed c sv m.header.life m.header.epoch q.number y → y.body ≡ q.body) → Before sv m.header.life m.header.epoch q.number o.op →
      Done o.op o.ask a) where
    -- what an input tells
    abbrev pub InputOk : ClientInput → Type 0
    InputOk inputs.Tick = Unit {0}
    InputOk (inputs.App op ask) = Known op ask
    InputOk (inputs.Control m) = m.header.to ≡ c.0 → is_report m.body ≡ true → (sv : ServerId) → m.header.from ≡ server_node sv → Told m m.body sv
    InputOk (inputs.Done number result) = Unit {0}

    if_held : (b : Bool) (t u : ClientTurn) → Held [] t → Held [] u → Held [] (if b then t else u)
    if_held true t u x y = x
    if_held false t u x y = y

    taken : (t : ClientTurn) (now : Stamp) (i : ClientInput) → InputOk i → Held [] t → Held [] (cl.take_input t now i)
    unfolding cl.take_input cl.done cr.receive cr.receive_here cl.app cl.app_known
    taken t now inputs.Tick g k = k
    taken t now (inputs.App op ask) g k =
        if_held (cl.is_full t.state) _ _ (at_once t op answers.OpsFull (λ x. tt) k)
        (if_held (cl.is_configured t.state (server_of ask)) _ _
        (each (cs.only_at (server_of ask) (cl.take_ask op ask)) (λ s B out0 u w. whole_after_take M c Known Before Done s B out0 op ask g u w) t k)
        (at_once t op answers.NoFile (λ x. tt) k))
    taken t now (inputs.Control m) g k = go (m.header.to == t.state.id.0) refl
      where
        received : m.header.to ≡ c.0 → Held [] (at_each (cr.receive_at now m.header m.body) t)
        received to = each (cr.receive_at now m.header m.body)
            (λ s B out0 u w. whole_after_receive M c Known Before Done s B out0 now m (Told m) (ends m) u (g to) w) t k

        go : (b : Bool) → (m.header.to == t.state.id.0) ≡ b → Held [] (if b then at_each (cr.receive_at now m.header m.body) t else t)
        go true e = received (eqb-true m.header.to t.state.id.0 e ∙ ap (λ (v : ClientId). v.0) k.id_)
        go false e = k
    taken t now (inputs.Done number result) g k = each (cl.finish number result)
        (λ s B out0 u w. whole_after_finish M c Known Before Done s B out0 number result u w) t k

    -- the whole step
    pub stepped : (x : ClientState) (now : Stamp) (i : ClientInput) → InputOk i → Held [] (client_turn x []) → Held [] (cl.client_step x now i)
    unfolding cl.client_step cl.work cl.losses
    stepped x now i g k =
        each (cp.passes now (cl.is_tick i)) (λ s B out0 u w. whole_after_passes M c Known Before Done s B out0 fresh now (cl.is_tick i) u w) _
        (taken _ now i g (each (cl.lose now) (λ s B out0 u w. whole_after_lose M c Known Before Done s B out0 now u w) (client_turn x []) k))
