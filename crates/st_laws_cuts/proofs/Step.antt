-- A whole step of a client: what is pending and answered belongs to known asks, what is sent belongs to the life that the step leaves, and the
-- operation of each outstanding request is pending.
use Rattle.st_lemmas.proofs.Words
use Words.{◌≡◌, ℕ, ◌+◌, ◌≤◌, ◌⊎◌, Bool, true, false, ◌==◌, List, [], ◌∷◌, Option, Some, None, refl, sym, ap, ◌∙◌, subst, inl, inr, arith, if◌then◌else◌}
use Words.{eqb-true, ClientId, ServerId, Stamp, AppAnswer, Ask, Message, Output, ClientInput, Operation, Request}
use Words.answers
use Words.outputs
use Words.inputs
use Words.Client as cl
use Words.ClientPasses as cp
use Words.ClientReplies as cr
use Words.ClientState as cs
use Words.ClientState.{Association, ClientSession, ClientState, ClientTurn, Turn, at_each, at_these, client_turn, enter, leave, server_of, with_associations}
use Words.Lists.{Has}
use Words.Tables.{and_true, has_append}
use Words.Members.{has_left}
use Rattle.st_laws_requests.specs.Cuts.Cuts.{Between}
use Rattle.st_laws_cuts.specs.Owners.{Owned, OwnedBy, view}
use Rattle.st_laws_cuts.proofs.Counts.{one_if, pending, told, told_more}
use Rattle.st_laws_cuts.proofs.Client.{whole_after_finish, whole_after_receive, whole_after_lose, whole_after_passes, whole_after_take}
use Rattle.st_laws_cuts.proofs.Losing.{Silent, left, lose_tells}
use Rattle.st_laws_cuts.proofs.Owning.{W}
use Rattle.st_laws_requests.proofs.Cuts.Step.{onces_last}

-- associations of servers that differ
abbrev pub Onces : List Association → Type 0
Onces [] = Unit {0}
Onces (a ∷ al) = record { first : (b : Association) → Has b al → a.server.0 ≡ b.server.0 → ⊥; rest : Onces al }

-- one of these, or of another server
pub apart_from : (al : List Association) → Onces al → (a : Association) → Has a al → (b : Association) → Has b al → (b ≡ a) ⊎ (b.server.0 ≡ a.server.0 → ⊥)
apart_from (x ∷ al) o a (inl e) b (inl f) = inl (f ∙ sym e)
apart_from (x ∷ al) o a (inl e) b (inr k) = inr (λ q. o.first b k (sym (q ∙ ap (λ (z : Association). z.server.0) e)))
apart_from (x ∷ al) o a (inr h) b (inl f) = inr (λ q. o.first a h (ap (λ (z : Association). z.server.0) (sym f) ∙ q))
apart_from (x ∷ al) o a (inr h) b (inr k) = apart_from al o.rest a h b k
apart_from [] o a h b k = absurd h

module _ (c : ClientId) (K : ℕ → Type 0) (G : List Output) where
  -- what holds of an association, within a step
  pub record At (ops : List Operation) (out : List Output) (a : Association) : Type 0 where
    pub owned : Owned a.server (view a.session) ops
    pub sent : (m : Message) → Has (outputs.Send m) out → Between c a.server m → m.header.life ≡ a.life.0

  -- what holds of a step so far, with associations that are still to come
  pub record Held (rest : List Association) (t : ClientTurn) : Type 0 where
    pub id_ : t.state.id ≡ c
    pub known : (o : Operation) → Has o t.state.operations → K o.op
    pub said : (op : ℕ) (a : AppAnswer) → Has (outputs.Answer op a) t.out → K op
    pub from : (m : Message) → Has (outputs.Send m) t.out → m.header.from ≡ c.0
    pub kept : (y : Output) → Has y G → Has y t.out
    pub few : (k : ℕ) → pending k t.state.operations + told k t.out ≤ 1
    pub done : (a : Association) → Has a t.state.associations → At t.state.operations t.out a
    pub todo : (a : Association) → Has a rest → At t.state.operations t.out a
    pub once_done : Onces t.state.associations
    pub once_todo : Onces rest
    pub apart : (a b : Association) → Has a t.state.associations → Has b rest → a.server.0 ≡ b.server.0 → ⊥

  abbrev WOf : ServerId → List Operation → List Output → Turn → Type 0
  WOf s B out0 t = W c K G s B out0 t

  abbrev RuleOk : (List Output → Type 0) → (Turn → Turn) → Type 0
  RuleOk Pre rule = (s : ServerId) (B : List Operation) (out0 : List Output) (t : Turn) → Pre t.out → WOf s B out0 t → WOf s B out0 (rule t) × Pre (rule t).out

  -- an association with a server other than that of the rule
  elsewhere : (t : ClientTurn) (a : Association) (u : Turn) → WOf a.server t.state.operations t.out u → (b : Association) → (b.server.0 ≡ a.server.0 → ⊥) → At t.state.operations t.out b → At u.operations u.out b
  elsewhere t a u w b ne k = record { owned = owned (view b.session) k.owned; sent = λ m h z. k.sent m (was m h z) z }
    where
      here : u.here.server.0 ≡ a.server.0
      here = ap (λ (v : ServerId). v.0) w.0.server

      was : (m : Message) → Has (outputs.Send m) u.out → Between c b.server m → Has (outputs.Send m) t.out
      was m h z = go (w.0.from m h)
        where
          go : Has (outputs.Send m) t.out ⊎ Between c u.here.server m → Has (outputs.Send m) t.out
          go (inl i) = i
          go (inr y) = let p = y.1 in let q = z.1 in absurd (ne (omega (arith, p, q, here)))

      not_here : (o : Operation) → cs.is_asked b.server o ≡ true → cs.is_of u.here.server o ≡ false
      not_here o e = go (cs.is_of u.here.server o) refl
        where
          go : (z : Bool) → cs.is_of u.here.server o ≡ z → z ≡ false
          go true q =
              let p = eqb-true (server_of o.ask).0 b.server.0 (and_true (cs.is_of b.server o) _ e).0 in
              let r = eqb-true (server_of o.ask).0 u.here.server.0 q in
              absurd (ne (sym p ∙ r ∙ here))
          go false q = refl

      by : (cutting : Option ℕ) (q : Option Request) → OwnedBy b.server cutting t.state.operations q → OwnedBy b.server cutting u.operations q
      by cutting None z = tt
      by cutting (Some q) z = λ e. let y = z e in record { operation = y.operation; there = w.0.others y.operation y.there (not_here y.operation y.asked); asked = y.asked; means = y.means }

      owned : (v : Option (Option Request × Option ℕ)) → Owned b.server v t.state.operations → Owned b.server v u.operations
      owned None z = tt
      owned (Some v) z = by v.1 v.0 z

  -- an association that a rule left goes last
  abbrev Before : (a : Association) → ClientTurn → Type 0
  Before a t = WOf a.server t.state.operations t.out (enter t a)

  begins : (a : Association) (rest : List Association) (t : ClientTurn) → Held (a ∷ rest) t → Before a t
  begins a rest t k =
      let here = k.todo a (inl refl) in
      (record { id_ = k.id_; server = refl; known = k.known; others = λ o h e. h; said = k.said; from = λ m h. inl h; sent = λ m h b. here.sent m h b; kept = k.kept; few = k.few }, here.owned)

  passed : (a : Association) (rest : List Association) (t : ClientTurn) (u : Turn) → Held (a ∷ rest) t → WOf a.server t.state.operations t.out u → Held rest (leave t u)
  passed a rest t u k w =
      record {
        id_ = k.id_;
        known = w.0.known;
        said = w.0.said;
        from = λ m h. from m (w.0.from m h);
        kept = w.0.kept;
        few = w.0.few;
        done = λ b h. done b (has_append t.state.associations (u.here ∷ []) b h);
        todo = λ b h. elsewhere t a u w b (λ e. k.once_todo.first b h (sym e)) (k.todo b (inr h));
        once_done = onces_last t.state.associations u.here k.once_done (λ b h e. k.apart b a h (inl refl) (e ∙ server));
        once_todo = k.once_todo.rest;
        apart = λ x y h i e. apart x y (has_append t.state.associations (u.here ∷ []) x h) i e;
      }
    where
      server : u.here.server.0 ≡ a.server.0
      server = ap (λ (v : ServerId). v.0) w.0.server

      done : (b : Association) → Has b t.state.associations ⊎ Has b (u.here ∷ []) → At u.operations u.out b
      done b (inl h) = elsewhere t a u w b (λ e. k.apart b a h (inl refl) e) (k.done b h)
      done b (inr (inl e)) = subst (At u.operations u.out) (sym e) (record { owned = w.1; sent = w.0.sent })
      done b (inr (inr i)) = absurd i

      from : (m : Message) → Has (outputs.Send m) t.out ⊎ Between c u.here.server m → m.header.from ≡ c.0
      from m (inl h) = k.from m h
      from m (inr y) = y.0

      apart : (x y : Association) → Has x t.state.associations ⊎ Has x (u.here ∷ []) → Has y rest → x.server.0 ≡ y.server.0 → ⊥
      apart x y (inl h) i e = k.apart x y h (inr i) e
      apart x y (inr (inl q)) i e = k.once_todo.first y i (sym server ∙ sym (ap (λ (z : Association). z.server.0) q) ∙ e)
      apart x y (inr (inr i)) j e = i

  these : (Pre : List Output → Type 0) (rule : Turn → Turn) → RuleOk Pre rule → (rest : List Association) (t : ClientTurn) → Pre t.out → Held rest t → Held [] (at_these rule rest t) × Pre (at_these rule rest t).out
  unfolding at_these
  these Pre rule ok [] t p k = (k, p)
  these Pre rule ok (a ∷ rest) t p k =
      let z = ok a.server t.state.operations t.out (enter t a) p (begins a rest t k) in
      these Pre rule ok rest (leave t (rule (enter t a))) z.1 (passed a rest t (rule (enter t a)) k z.0)

  opened : (t : ClientTurn) → Held [] t → Held t.state.associations (with_associations [] t)
  opened t k = record { id_ = k.id_; known = k.known; said = k.said; from = k.from; kept = k.kept; few = k.few; done = λ a h. absurd h; todo = k.done; once_done = tt; once_todo = k.once_done; apart = λ a b h i e. absurd h }

  each : (Pre : List Output → Type 0) (rule : Turn → Turn) → RuleOk Pre rule → (t : ClientTurn) → Pre t.out → Held [] t → Held [] (at_each rule t) × Pre (at_each rule t).out
  unfolding at_each
  each Pre rule ok t p k = these Pre rule ok t.state.associations (with_associations [] t) p (opened t k)

  -- An ask is taken only at its server.
  module _ (op : ℕ) (ask : Ask) (known_ask : K op) where
    -- at the servers after it
    passes_over : (rest : List Association) → ((a : Association) → Has a rest → cs.is_at (server_of ask) a ≡ false) → (t : ClientTurn) → Held rest t → Held [] (at_these (cs.only_at (server_of ask) (cl.take_ask op ask)) rest t)
    unfolding at_these cs.only_at
    passes_over [] f t k = k
    passes_over (a ∷ rest) f t k = go (cs.is_at (server_of ask) a) (f a (inl refl)) (passes_over rest (λ y h. f y (inr h)) (leave t (enter t a)) (passed a rest t (enter t a) k (begins a rest t k)))
      where
        Wanted : Turn → Type 0
        Wanted u = Held [] (at_these (cs.only_at (server_of ask) (cl.take_ask op ask)) rest (leave t u))

        go : (b : Bool) → b ≡ false → Wanted (enter t a) → Held [] (at_these (cs.only_at (server_of ask) (cl.take_ask op ask)) rest (leave t (if b then cl.take_ask op ask (enter t a) else enter t a)))
        go false e w = w
        go true e w = cc e

    takes_at : (rest : List Association) (t : ClientTurn) → pending op t.state.operations + told op t.out ≡ 0 → Held rest t → Held [] (at_these (cs.only_at (server_of ask) (cl.take_ask op ask)) rest t)
    unfolding at_these cs.only_at
    takes_at [] t z k = k
    takes_at (a ∷ rest) t z k = go (cs.is_at (server_of ask) a) refl (takes_at rest (leave t (enter t a)) z (passed a rest t (enter t a) k (begins a rest t k)))
      where
        others : cs.is_at (server_of ask) a ≡ true → (y : Association) → Has y rest → cs.is_at (server_of ask) y ≡ false
        others e y h = by (cs.is_at (server_of ask) y) refl
          where
            by : (b : Bool) → cs.is_at (server_of ask) y ≡ b → b ≡ false
            by true q = absurd (k.once_todo.first y h (eqb-true _ _ e ∙ sym (eqb-true _ _ q)))
            by false q = refl

        go : (b : Bool) → cs.is_at (server_of ask) a ≡ b → Held [] (at_these (cs.only_at (server_of ask) (cl.take_ask op ask)) rest (leave t (enter t a))) → Held [] (at_these (cs.only_at (server_of ask) (cl.take_ask op ask)) rest (leave t (if b then cl.take_ask op ask (enter t a) else enter t a)))
        go true e w =
            passes_over rest (others e) (leave t (cl.take_ask op ask (enter t a)))
            (passed a rest t (cl.take_ask op ask (enter t a)) k (whole_after_take c K G a.server t.state.operations t.out op ask known_ask (enter t a) z (begins a rest t k)))
        go false e w = w

    takes : (t : ClientTurn) → pending op t.state.operations + told op t.out ≡ 0 → Held [] t → Held [] (at_each (cs.only_at (server_of ask) (cl.take_ask op ask)) t)
    unfolding at_each
    takes t z k = takes_at t.state.associations (with_associations [] t) z (opened t k)

  abbrev Any : List Output → Type 0
  Any out = Unit {0}

  any : (rule : Turn → Turn) → ((s : ServerId) (B : List Operation) (out0 : List Output) (t : Turn) → WOf s B out0 t → WOf s B out0 (rule t)) → (t : ClientTurn) → Held [] t → Held [] (at_each rule t)
  any rule ok t k = (each Any rule (λ s B out0 u p w. (ok s B out0 u w, tt)) t tt k).0

  -- an answer at once
  at_once : (t : ClientTurn) (op : ℕ) (a : AppAnswer) → K op → pending op t.state.operations + told op t.out ≡ 0 → Held [] t → Held [] (cl.answered_at_once t op a)
  at_once t op a n zero k =
      record {
        id_ = k.id_;
        known = k.known;
        said = λ x b h. says x b (has_append t.out (outputs.Answer op a ∷ []) _ h);
        from = λ m h. k.from m (was m (has_append t.out (outputs.Answer op a ∷ []) _ h));
        kept = λ y h. has_left t.out _ y (k.kept y h);
        few = λ n. let z = told_more n t.out (outputs.Answer op a ∷ []) in let y = one n (op == n) refl in omega (arith, z, y);
        done = λ b h. let z = k.done b h in record { owned = z.owned; sent = λ m i y. z.sent m (was m (has_append t.out (outputs.Answer op a ∷ []) _ i)) y };
        todo = λ b h. absurd h;
        once_done = k.once_done;
        once_todo = tt;
        apart = λ x y h i e. absurd i;
      }
    where
      one : (n : ℕ) → (b : Bool) → (op == n) ≡ b → pending n t.state.operations + told n t.out + one_if b ≤ 1
      one n true e = let q = eqb-true op n e in subst (λ m. pending m t.state.operations + told m t.out + 1 ≤ 1) q (omega (arith, zero))
      one n false e = let z = k.few n in omega (arith, z)

      was : (m : Message) → Has (outputs.Send m) t.out ⊎ Has (outputs.Send m) (outputs.Answer op a ∷ []) → Has (outputs.Send m) t.out
      was m (inl i) = i
      was m (inr (inl e)) = cc e
      was m (inr (inr i)) = absurd i

      says : (x : ℕ) (b : AppAnswer) → Has (outputs.Answer x b) t.out ⊎ Has (outputs.Answer x b) (outputs.Answer op a ∷ []) → K x
      says x b (inl h) = k.said x b h
      says x b (inr (inl e)) = subst K (same e) n
        where
          same : outputs.Answer x b ≡ outputs.Answer op a → op ≡ x
          same e = cc e
      says x b (inr (inr i)) = absurd i

  -- the ask that comes is known, and new
  abbrev pub InputOk : ClientTurn → ClientInput → Type 0
  InputOk t (inputs.App op ask) = K op × (pending op t.state.operations + told op t.out ≡ 0)
  InputOk t i = Unit {0}

  if_held : (b : Bool) (t u : ClientTurn) → Held [] t → Held [] u → Held [] (if b then t else u)
  if_held true t u x y = x
  if_held false t u x y = y

  taken : (t : ClientTurn) (now : Stamp) (i : ClientInput) → InputOk t i → Held [] t → Held [] (cl.take_input t now i)
  unfolding cl.take_input cl.done cr.receive cr.receive_here cl.app cl.app_known
  taken t now inputs.Tick g k = k
  taken t now (inputs.App op ask) g k =
      if_held (cl.is_full t.state) _ _ (at_once t op answers.OpsFull g.0 g.1 k)
      (if_held (cl.is_configured t.state (server_of ask)) _ _ (takes op ask g.0 t g.1 k) (at_once t op answers.NoFile g.0 g.1 k))
  taken t now (inputs.Control m) g k =
      if_held (m.header.to == t.state.id.0) _ _ (any (cr.receive_at now m.header m.body) (λ s B out0 u w. whole_after_receive c K G s B out0 now m.header m.body u w) t k) k
  taken t now (inputs.Done number result) g k = any (cl.finish number result) (λ s B out0 u w. whole_after_finish c K G s B out0 number result u w) t k

  -- after the losses
  worked : (t : ClientTurn) (now : Stamp) (i : ClientInput) → InputOk t i → Held [] t → Held [] (cl.work (cl.take_input t now i) now i)
  unfolding cl.work
  worked t now i g k = any (cp.passes now (cl.is_tick i)) (λ s B out0 u w. whole_after_passes c K G s B out0 now (cl.is_tick i) u w) _ (taken t now i g k)

  lost : (t : ClientTurn) (now : Stamp) → Silent t.out → Held [] t → Held [] (cl.losses t now)
  unfolding cl.losses
  lost t now q k = (each Silent (cl.lose now) (λ s B out0 u p w. (whole_after_lose c K G s B out0 now u p w, (left now u).quiet p)) t q k).0

-- the losses of a step
abbrev pub Losses : ClientState → Stamp → ClientTurn
Losses x now = cl.losses (client_turn x []) now

-- The whole step, with what its losses said.
pub after_losses : (c : ClientId) (K : ℕ → Type 0) (x : ClientState) (now : Stamp) → Held c K [] [] (client_turn x []) → Held c K [] [] (Losses x now)
after_losses c K x now k = lost c K [] (client_turn x []) now (λ m h. absurd h) k

pub stepped : (c : ClientId) (K J : ℕ → Type 0) → ((op : ℕ) → K op → J op) → (x : ClientState) (now : Stamp) (i : ClientInput) → Held c K [] [] (Losses x now) → InputOk c J (Losses x now).out (Losses x now) i → Held c J (Losses x now).out [] (cl.client_step x now i)
unfolding cl.client_step
stepped c K J f x now i z g =
    worked c J (Losses x now).out (Losses x now) now i g
    (record { id_ = z.id_; known = λ o h. f o.op (z.known o h); said = λ op a h. f op (z.said op a h); from = z.from; kept = λ y h. h; few = z.few; done = λ a h. let y = z.done a h in record { owned = y.owned; sent = y.sent }; todo = λ a h. absurd h; once_done = z.once_done; once_todo = tt; apart = λ a b h i e. absurd i })

-- what was asked of a server whose lease is over is uncertain
pub uncertain : (c : ClientId) (K : ℕ → Type 0) (x : ClientState) (now : Stamp) (u : ClientTurn) → Held c K (Losses x now).out [] u → Onces x.associations → (a : Association) → Has a x.associations → (s : ClientSession) → a.session ≡ Some s →
    cl.is_over (enter (client_turn x []) a) s now ≡ true → (o : Operation) → Has o x.operations → cs.is_of a.server o ≡ true → cs.is_sent o ≡ true → Has (outputs.Answer o.op (answers.Uncertain s.epoch.0 0)) u.out
unfolding cl.losses at_each
uncertain c K x now u k once a h s e l o i f g = k.kept _ (lose_tells now x.associations (with_associations [] (client_turn x [])) a h (λ b j. apart_from x.associations once a h b j) s e l o i f g)
