-- A whole step of a client keeps account of the lost pages of all its servers.
use Rattle.st_lemmas.proofs.Words
use Words.{◌≡◌, ℕ, ◌⊎◌, Bool, true, false, ◌==◌, List, [], ◌∷◌, ◌++◌, Option, Some, refl, sym, ap, ◌∙◌, subst, inl, inr, if◌then◌else◌, map, ServerId, Stamp}
use Words.{AppAnswer, Ask, ClientInput, LostPage, Operation}
use Words.answers
use Words.asks
use Words.outputs
use Words.inputs
use Words.Client as cl
use Words.ClientPages as pages
use Words.ClientPasses as cp
use Words.ClientReplies as cr
use Words.ClientState as cs
use Words.ClientState.{Association, ClientState, ClientTurn, Turn, at_each, at_these, client_turn, enter, leave, server_of, with_associations}
use Words.Lists.{Has}
use Words.Tables.{has_append, has_map_in}
use Rattle.st_promises.specs.Losses.{IsToldBy, IsToldTo, owed_of_file}
use Rattle.st_laws_steps.specs.Lives.Lives.{Once, server_number}
use Rattle.st_laws_reports.proofs.Telling.{Fine, K, Moved, OpOk, Rows, along, along_more, finished, received, lost, only, passed, stays, told_same}

-- associations of servers that differ
abbrev pub Onces : List Association → Type 0
Onces [] = Unit {0}
Onces (a ∷ al) = record { first : (b : Association) → Has b al → a.server.0 ≡ b.server.0 → ⊥; rest : Onces al }

pub onces : (al : List Association) → Once (map server_number al) → Onces al
onces [] o = tt
onces (a ∷ al) o = record { first = λ b h e. o.first (server_number b) (has_map_in server_number al b h) e; rest = onces al o.rest }

onces_last : (xs : List Association) (a : Association) → Onces xs → ((b : Association) → Has b xs → b.server.0 ≡ a.server.0 → ⊥) → Onces (xs ++ a ∷ [])
onces_last [] a o f = record { first = λ b h e. absurd h; rest = tt }
onces_last (x ∷ xs) a o f = record { first = λ b h e. first b (has_append xs (a ∷ []) b h) e; rest = onces_last xs a o.rest (λ b h e. f b (inr h) e) }
  where
    first : (b : Association) → Has b xs ⊎ Has b (a ∷ []) → x.server.0 ≡ b.server.0 → ⊥
    first b (inl h) e = o.first b h e
    first b (inr (inl q)) e = f x (inl refl) (e ∙ ap (λ (z : Association). z.server.0) q)
    first b (inr (inr i)) e = i

-- none of these is of this server
abbrev pub NoneOf : ServerId → List Association → Type 0
NoneOf r al = (a : Association) → Has a al → a.server.0 ≡ r.0 → ⊥

module _ (asked : ℕ → Option Ask) (had : ServerId → Option Association) (rows0 : Rows) where
  -- what holds of a step so far, with associations that are still to come
  pub record Held (R : Rows) (rest : List Association) (t : ClientTurn) : Type 0 where
    pub rows : (r : ServerId) → along asked had r (rows0 r) t.out ≡ R r
    pub fine : Fine asked had rows0 t.out
    pub ops : (o : Operation) → Has o t.state.operations → OpOk asked had R o
    pub done : (a : Association) → Has a t.state.associations → R a.server ≡ a.lost
    pub todo : (a : Association) → Has a rest → R a.server ≡ a.lost
    pub none : (r : ServerId) → NoneOf r t.state.associations → NoneOf r rest → R r ≡ []
    pub once_done : Onces t.state.associations
    pub once_todo : Onces rest
    pub apart : (a b : Association) → Has a t.state.associations → Has b rest → a.server.0 ≡ b.server.0 → ⊥

  -- for some rows
  pub record Stands (t : ClientTurn) : Type 0 where
    pub now : Rows
    pub held : Held now [] t

  abbrev RuleOk : (Association → Type 0) → (Turn → Turn) → Type 0
  RuleOk P rule = (s : ServerId) (R : Rows) (t : Turn) → t.here.server ≡ s → P t.here → K asked had s rows0 R t → Moved asked had s rows0 R (rule t)

  these : (P : Association → Type 0) (rule : Turn → Turn) → RuleOk P rule → (rest : List Association) → ((a : Association) → Has a rest → P a) → (R : Rows) (t : ClientTurn) → Held R rest t → Stands (at_these rule rest t)
  unfolding at_these
  these P rule ok [] p R t k = record { now = R; held = k }
  these P rule ok (a ∷ rest) p R t k = these P rule ok rest (λ b h. p b (inr h)) m.now (leave t u) held
    where
      u : Turn
      u = rule (enter t a)

      m : Moved asked had a.server rows0 R u
      m = ok a.server R (enter t a) refl (p a (inl refl)) (record { at = refl; rows = k.rows; here = k.todo a (inl refl); fine = k.fine; ops = k.ops })

      server : u.here.server.0 ≡ a.server.0
      server = ap (λ (v : ServerId). v.0) m.keeps.at

      done : (b : Association) → Has b t.state.associations ⊎ Has b (u.here ∷ []) → m.now b.server ≡ b.lost
      done b (inl h) = m.away b.server (λ e. k.apart b a h (inl refl) e) ∙ k.done b h
      done b (inr (inl e)) = subst (λ (z : Association). m.now z.server ≡ z.lost) (sym e) (ap m.now m.keeps.at ∙ m.keeps.here)
      done b (inr (inr i)) = absurd i

      apart : (x y : Association) → Has x t.state.associations ⊎ Has x (u.here ∷ []) → Has y rest → x.server.0 ≡ y.server.0 → ⊥
      apart x y (inl h) i e = k.apart x y h (inr i) e
      apart x y (inr (inl q)) i e = k.once_todo.first y i (sym server ∙ sym (ap (λ (z : Association). z.server.0) q) ∙ e)
      apart x y (inr (inr i)) j e = i

      has_front : (xs : List Association) (b : Association) → Has b xs → Has b (xs ++ u.here ∷ [])
      has_front [] b h = absurd h
      has_front (x ∷ xs) b (inl e) = inl e
      has_front (x ∷ xs) b (inr h) = inr (has_front xs b h)

      has_back : (xs : List Association) → Has u.here (xs ++ u.here ∷ [])
      has_back [] = inl refl
      has_back (x ∷ xs) = inr (has_back xs)

      none : (r : ServerId) → NoneOf r (t.state.associations ++ u.here ∷ []) → NoneOf r rest → m.now r ≡ []
      none r f g = m.away r (λ e. far (sym e)) ∙ k.none r (λ b h e. f b (has_front t.state.associations b h) e) before
        where
          far : a.server.0 ≡ r.0 → ⊥
          far e = f u.here (has_back t.state.associations) (server ∙ e)

          before : NoneOf r (a ∷ rest)
          before b (inl q) e = far (sym (ap (λ (z : Association). z.server.0) q) ∙ e)
          before b (inr h) e = g b h e

      held : Held m.now rest (leave t u)
      held =
          record {
            rows = m.keeps.rows;
            fine = m.keeps.fine;
            ops = m.keeps.ops;
            done = λ b h. done b (has_append t.state.associations (u.here ∷ []) b h);
            todo = λ b h. m.away b.server (λ e. k.once_todo.first b h (sym e)) ∙ k.todo b (inr h);
            none = none;
            once_done = onces_last t.state.associations u.here k.once_done (λ b h e. k.apart b a h (inl refl) (e ∙ server));
            once_todo = k.once_todo.rest;
            apart = λ x y h i e. apart x y (has_append t.state.associations (u.here ∷ []) x h) i e;
          }

  each : (P : Association → Type 0) (rule : Turn → Turn) → RuleOk P rule → (t : ClientTurn) → ((a : Association) → Has a t.state.associations → P a) → Stands t → Stands (at_each rule t)
  unfolding at_each
  each P rule ok t p k =
      these P rule ok t.state.associations p k.now (with_associations [] t)
      (record {
        rows = k.held.rows;
        fine = k.held.fine;
        ops = k.held.ops;
        done = λ a h. absurd h;
        todo = k.held.done;
        none = λ r f g. k.held.none r g (λ a h e. h);
        once_done = tt;
        once_todo = k.held.once_done;
        apart = λ a b h i e. absurd h;
      })

  each_any : (rule : Turn → Turn) → ((s : ServerId) (R : Rows) (t : Turn) → K asked had s rows0 R t → Moved asked had s rows0 R (rule t)) → (t : ClientTurn) → Stands t → Stands (at_each rule t)
  each_any rule ok t k = each (λ a. Unit {0}) rule (λ s R u e p w. ok s R u w) t (λ a h. tt) k

  -- an answer at once
  at_once : (t : ClientTurn) (op : ℕ) (a : AppAnswer) → ((R : Rows) → (Held R [] t) → IsToldTo (asked op) R a) → (a ≡ answers.OpsFull ⊎ a ≡ answers.NoFile) → Stands t → Stands (cl.answered_at_once t op a)
  at_once t op a f w k =
      record {
        now = k.now;
        held = record {
          rows = λ r. along_more asked had r (rows0 r) t.out (outputs.Answer op a ∷ []) ∙ plain a w r _ ∙ k.held.rows r;
          fine = more;
          ops = k.held.ops;
          done = k.held.done;
          todo = k.held.todo;
          none = k.held.none;
          once_done = k.held.once_done;
          once_todo = k.held.once_todo;
          apart = k.held.apart;
        };
      }
    where
      plain : (a : AppAnswer) → (a ≡ answers.OpsFull ⊎ a ≡ answers.NoFile) → (r : ServerId) (rows : List LostPage) → along asked had r rows (outputs.Answer op a ∷ []) ≡ rows
      plain a (inl e) r rows = ap (λ z. along asked had r rows (outputs.Answer op z ∷ [])) e
      plain a (inr e) r rows = ap (λ z. along asked had r rows (outputs.Answer op z ∷ [])) e

      more : Fine asked had rows0 (t.out ++ outputs.Answer op a ∷ [])
      more = Rattle.st_laws_reports.proofs.Telling.fine_more asked had rows0 t.out (outputs.Answer op a ∷ []) k.held.fine (record { one = told_same (asked op) k.now _ a k.held.rows (f k.now k.held); rest = tt })

  -- what an input owes
  abbrev pub InputOk : ClientInput → Type 0
  InputOk (inputs.App op ask) = asked op ≡ Some ask
  InputOk i = Unit {0}

  if_stands : (b : Bool) (t u : ClientTurn) → (b ≡ true → Stands t) → (b ≡ false → Stands u) → Stands (if b then t else u)
  if_stands true t u x y = x refl
  if_stands false t u x y = y refl

  full_told : (ask : Ask) (R : Rows) → IsToldTo (Some ask) R answers.OpsFull
  full_told (asks.Sync f) R = go (pages.has_lost (R f.server) f.ino)
    where
      go : (b : Bool) → IsToldBy b (owed_of_file (R f.server) f.ino) answers.OpsFull
      go true = tt
      go false = tt
  full_told ask R = tt

  -- a server that is none of this world
  unknown_told : (ask : Ask) (t : ClientTurn) (R : Rows) → cl.is_configured t.state (server_of ask) ≡ false → Held R [] t → IsToldTo (Some ask) R answers.NoFile
  unknown_told (asks.Sync f) t R e k = subst (λ (z : List LostPage). IsToldBy (pages.has_lost z f.ino) (owed_of_file z f.ino) answers.NoFile) (sym (k.none f.server none (λ a h e. h))) tt
    where
      clash : {b : Bool} → b ≡ true → b ≡ false → ⊥
      clash x y = cc

      none : NoneOf f.server t.state.associations
      none a h q = clash (Rattle.std.proofs.lemmas.Bool.eq-eqb a.server.0 f.server.0 q) (Rattle.st_lemmas.proofs.Tables.none_passes (cs.is_at f.server) t.state.associations e a h)
  unknown_told ask t R e k = tt

  taken : (t : ClientTurn) (now : Stamp) (i : ClientInput) → InputOk i → Stands t → Stands (cl.take_input t now i)
  unfolding cl.take_input cl.done cr.receive cr.receive_here cl.app cl.app_known
  taken t now inputs.Tick g k = k
  taken t now (inputs.App op ask) g k =
      if_stands (cl.is_full t.state) _ _ (λ e. at_once t op answers.OpsFull (λ R h. subst (λ z. IsToldTo z R answers.OpsFull) (sym g) (full_told ask R)) (inl refl) k)
      (λ e. if_stands (cl.is_configured t.state (server_of ask)) _ _ (λ q. each_any (cs.only_at (server_of ask) (cl.take_ask op ask)) (λ s R u w. only asked had s rows0 op ask g R u w) t k)
      (λ q. at_once t op answers.NoFile (λ R h. subst (λ z. IsToldTo z R answers.NoFile) (sym g) (unknown_told ask t R q h)) (inr refl) k))
  taken t now (inputs.Control m) g k = if_stands (m.header.to == t.state.id.0) _ t (λ e. each_any (cr.receive_at now m.header m.body) (λ s R u w. stays asked had s rows0 R _ (received asked had s rows0 R now m.header m.body u w)) t k) (λ e. k)
  taken t now (inputs.Done number result) g k = each_any (cl.finish number result) (λ s R u w. stays asked had s rows0 R _ (finished asked had s rows0 R number result u w)) t k

  -- the whole step
  pub stepped : (x : ClientState) (now : Stamp) (i : ClientInput) → InputOk i → ((a : Association) → Has a x.associations → had a.server ≡ Some a) → Stands (client_turn x []) → Stands (cl.client_step x now i)
  unfolding cl.client_step cl.work cl.losses
  stepped x now i g own k =
      each_any (cp.passes now (cl.is_tick i)) (λ s R u w. stays asked had s rows0 R _ (passed asked had s rows0 R now (cl.is_tick i) u w)) _
      (taken _ now i g
      (each (λ a. had a.server ≡ Some a) (cl.lose now) (λ s R u e p w. lost asked had s rows0 now R u (ap had (sym e) ∙ p) w) (client_turn x []) own k))
