-- A whole step of a client keeps what holds of the operations that asked before, at all its servers.
use Rattle.st_lemmas.proofs.Words
use Words.{◌≡◌, ℕ, ◌⊎◌, Bool, true, false, ◌==◌, List, [], ◌∷◌, refl, sym, ap, ◌∙◌, subst, inl, inr, if◌then◌else◌, eqb-true, ClientId, ServerId, Stamp}
use Words.{AppAnswer, Message, ClientInput, Operation}
use Words.answers
use Words.outputs
use Words.inputs
use Words.Client as cl
use Words.ClientPasses as cp
use Words.ClientReplies as cr
use Words.ClientState as cs
use Words.ClientState.{Association, ClientState, ClientTurn, Turn, at_each, at_these, client_turn, enter, leave, server_of, with_associations}
use Words.Keys.{server_node}
use Words.Lists.{Has}
use Words.Tables.{has_append}
use Rattle.st_laws_requests.proofs.Cuts.Keeping.{Answers, asked_of}
use Rattle.st_laws_requests.proofs.Cuts.Step.{Onces, onces_last}
use Rattle.st_laws_names.proofs.Frames.{IsKeptRefusal, Own, view}
use Rattle.st_laws_names.proofs.Keeping.{AtStage, Under, Whole, whole_after_finish, whole_after_receive, whole_after_lose, whole_after_passes, whole_after_take}

module _ (c : ClientId) (S : ℕ → Type 0) (Key : ServerId → ℕ → ℕ → ℕ → ℕ → Type 0) (Ended : ℕ → AppAnswer → Type 0) (Refused : ℕ → Type 0)
    (open_ : (op n m : ℕ) → Ended op (answers.Uncertain n m)) (gone_ : (op : ℕ) (a : AppAnswer) → Refused op → Ended op a) where
  -- what holds of an association, within a step
  pub record At (ops : List Operation) (a : Association) : Type 0 where
    pub state : (o : Operation) → Has o ops → S o.op → cs.is_of a.server o ≡ true → AtStage S Key Ended Refused open_ gone_ o.stage o.op
    pub asked : (o : Operation) → Has o ops → S o.op → cs.is_asked a.server o ≡ true →
        Under S Key Ended Refused open_ gone_ a.server a.life.0 (view a.session) o.op

  -- what holds of a step so far, with associations that are still to come
  pub record Held (rest : List Association) (t : ClientTurn) : Type 0 where
    pub id_ : t.state.id ≡ c
    pub kind : (o : Operation) → Has o t.state.operations → S o.op → Own o.ask
    pub said : (op : ℕ) (a : AppAnswer) → Has (outputs.Answer op a) t.out → S op → Ended op a
    pub done : (a : Association) → Has a t.state.associations → At t.state.operations a
    pub todo : (a : Association) → Has a rest → At t.state.operations a
    pub once_done : Onces t.state.associations
    pub once_todo : Onces rest
    pub apart : (a b : Association) → Has a t.state.associations → Has b rest → a.server.0 ≡ b.server.0 → ⊥

  abbrev WOf : ServerId → List Operation → Turn → Type 0
  WOf s B t = Whole S Key Ended Refused open_ gone_ s B t.here.server t.here.life.0 (view t.here.session) t.operations t.out

  abbrev RuleOk : (Turn → Turn) → Type 0
  RuleOk rule = (s : ServerId) (B : List Operation) (t : Turn) → WOf s B t → WOf s B (rule t)

  -- an association with a server other than that of the rule
  elsewhere : (t : ClientTurn) (a : Association) (u : Turn) → WOf a.server t.state.operations u → (b : Association) → (b.server.0 ≡ a.server.0 → ⊥) →
      At t.state.operations b → At u.operations b
  elsewhere t a u w b ne k = record { state = λ o h z e. k.state o (was o h e) z e; asked = λ o h z e. k.asked o (was o h (asked_of b.server o e).0) z e }
    where
      not_here : (o : Operation) → cs.is_of b.server o ≡ true → cs.is_of u.here.server o ≡ false
      not_here o e = go (cs.is_of u.here.server o) refl
        where
          go : (z : Bool) → cs.is_of u.here.server o ≡ z → z ≡ false
          go true q =
              let p = eqb-true (server_of o.ask).0 b.server.0 e in
              let r = eqb-true (server_of o.ask).0 u.here.server.0 q in
              let v = ap (λ (v : ServerId). v.0) w.base.server in
              absurd (ne (sym p ∙ r ∙ v))
          go false q = refl

      was : (o : Operation) → Has o u.operations → cs.is_of b.server o ≡ true → Has o t.state.operations
      was o h e = (w.base.fine o h).others (not_here o e)

  these : (rule : Turn → Turn) → RuleOk rule → (rest : List Association) (t : ClientTurn) → Held rest t → Held [] (at_these rule rest t)
  unfolding at_these
  these rule ok [] t k = k
  these rule ok (a ∷ rest) t k = these rule ok rest (leave t (rule (enter t a))) held
    where
      u : Turn
      u = rule (enter t a)

      here : At t.state.operations a
      here = k.todo a (inl refl)

      w : WOf a.server t.state.operations u
      w = ok a.server t.state.operations (enter t a)
          (record {
            base = record { server = refl; fine = λ o h. record { others = λ e. h; kind = k.kind o h; state = here.state o h }; said = k.said };
            asked =
                here.asked;
          })

      server : u.here.server.0 ≡ a.server.0
      server = ap (λ (v : ServerId). v.0) w.base.server

      done : (b : Association) → Has b t.state.associations ⊎ Has b (u.here ∷ []) → At u.operations b
      done b (inl h) = elsewhere t a u w b (λ e. k.apart b a h (inl refl) e) (k.done b h)
      done b (inr (inl e)) = subst (At u.operations) (sym e) (record { state = λ o h. (w.base.fine o h).state; asked = w.asked })
      done b (inr (inr i)) = absurd i

      apart : (x y : Association) → Has x t.state.associations ⊎ Has x (u.here ∷ []) → Has y rest → x.server.0 ≡ y.server.0 → ⊥
      apart x y (inl h) i e = k.apart x y h (inr i) e
      apart x y (inr (inl q)) i e = k.once_todo.first y i (sym server ∙ sym (ap (λ (z : Association). z.server.0) q) ∙ e)
      apart x y (inr (inr i)) j e = i

      held : Held rest (leave t u)
      held =
          record {
            id_ = k.id_;
            kind = λ o h. (w.base.fine o h).kind;
            said = w.base.said;
            done = λ b h. done b (has_append t.state.associations (u.here ∷ []) b h);
            todo = λ b h. elsewhere t a u w b (λ e. k.once_todo.first b h (sym e)) (k.todo b (inr h));
            once_done = onces_last t.state.associations u.here k.once_done (λ b h e. k.apart b a h (inl refl) (e ∙ server));
            once_todo = k.once_todo.rest;
            apart = λ x y h i e. apart x y (has_append t.state.associations (u.here ∷ []) x h) i e;
          }

  each : (rule : Turn → Turn) → RuleOk rule → (t : ClientTurn) → Held [] t → Held [] (at_each rule t)
  unfolding at_each
  each rule ok t k =
      these rule ok t.state.associations (with_associations [] t)
      (record {
        id_ = k.id_;
        kind = k.kind;
        said = k.said;
        done = λ a h. absurd h;
        todo = k.done;
        once_done = tt;
        once_todo = k.once_done;
        apart =
            λ a b h i e. absurd h;
      })

  -- an answer at once
  at_once : (t : ClientTurn) (op : ℕ) (a : AppAnswer) → (S op → ⊥) → Held [] t → Held [] (cl.answered_at_once t op a)
  at_once t op a n k =
      record {
        id_ = k.id_;
        kind = k.kind;
        said = λ x b h. says x b (has_append t.out (outputs.Answer op a ∷ []) _ h);
        done = λ b h. record { state = (k.done b h).state; asked = (k.done b h).asked };
        todo = λ b h. absurd h;
        once_done = k.once_done;
        once_todo = tt;
        apart = λ x y h i e. absurd i;
      }
    where
      says : (x : ℕ) (b : AppAnswer) → Has (outputs.Answer x b) t.out ⊎ Has (outputs.Answer x b) (outputs.Answer op a ∷ []) → S x → Ended x b
      says x b (inl h) z = k.said x b h z
      says x b (inr (inl e)) z = absurd (n (subst S (same e) z))
        where
          same : outputs.Answer x b ≡ outputs.Answer op a → x ≡ op
          same e = cc e
      says x b (inr (inr i)) z = absurd i

  -- what is owed of an input: an ask is new, and a reply tells what it says
  pub record Tells (m : Message) : Type 0 where
    pub told : (sv : ServerId) (op : ℕ) (a : AppAnswer) → m.header.from ≡ server_node sv → Key sv m.header.life m.header.epoch m.header.number op →
        Answers m.body a → Ended op a
    pub refuses : (sv : ServerId) (op : ℕ) → m.header.from ≡ server_node sv → Key sv m.header.life m.header.epoch m.header.number op → IsKeptRefusal m.body →
        Refused op

  abbrev pub InputOk : ClientInput → Type 0
  InputOk inputs.Tick = Unit {0}
  InputOk (inputs.App op ask) = S op → ⊥
  InputOk (inputs.Control m) = m.header.to ≡ c.0 → Tells m
  InputOk (inputs.Done number result) = Unit {0}

  if_held : (b : Bool) (t u : ClientTurn) → Held [] t → Held [] u → Held [] (if b then t else u)
  if_held true t u x y = x
  if_held false t u x y = y

  taken : (t : ClientTurn) (now : Stamp) (i : ClientInput) → InputOk i → Held [] t → Held [] (cl.take_input t now i)
  unfolding cl.take_input cl.done cr.receive cr.receive_here cl.app cl.app_known
  taken t now inputs.Tick g k = k
  taken t now (inputs.App op ask) g k =
      if_held (cl.is_full t.state) _ _ (at_once t op answers.OpsFull g k)
      (if_held (cl.is_configured t.state (server_of ask)) _ _
      (each (cs.only_at (server_of ask) (cl.take_ask op ask)) (λ s B u w. whole_after_take S Key Ended Refused open_ gone_ s B op ask g u w) t k)
      (at_once t op answers.NoFile g k))
  taken t now (inputs.Control m) g k = go (m.header.to == t.state.id.0) refl
    where
      go : (b : Bool) → (m.header.to == t.state.id.0) ≡ b → Held [] (if b then cr.receive_here t now m.header m.body else t)
      go true e = let z = g (eqb-true m.header.to t.state.id.0 e ∙ ap (λ (x : ClientId). x.0) k.id_) in
          each (cr.receive_at now m.header m.body) (λ s B u w. whole_after_receive S Key Ended Refused open_ gone_ s B now m.header m.body z.told z.refuses u w)
          t k
      go false e = k
  taken t now (inputs.Done number result) g k = each (cl.finish number result)
      (λ s B u w. whole_after_finish S Key Ended Refused open_ gone_ s B number result u w) t k

  -- the whole step
  pub stepped : (x : ClientState) (now : Stamp) (i : ClientInput) → InputOk i → Held [] (client_turn x []) → Held [] (cl.client_step x now i)
  unfolding cl.client_step cl.work cl.losses
  stepped x now i g k =
      each (cp.passes now (cl.is_tick i)) (λ s B u w. whole_after_passes S Key Ended Refused open_ gone_ s B now (cl.is_tick i) u w) _
      (taken _ now i g (each (cl.lose now) (λ s B u w. whole_after_lose S Key Ended Refused open_ gone_ s B now u w) (client_turn x []) k))
