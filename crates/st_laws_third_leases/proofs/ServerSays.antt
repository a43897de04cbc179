-- What a server of any form sends is from it; and a step of it leaves its number, its epochs and its grace.
use Rattle.st_lemmas.proofs.Words
use Words.{◌≡◌, ℕ, ◌⊎◌, Bool, true, eqb-true, List, [], ◌∷◌, ◌++◌, refl, sym, ap, ◌∙◌, subst, inl, inr, Body, Header, Message, Output, ServerId}
use Words.{ServerInput, Stamp}
use Words.notes
use Words.outputs
use Words.serving.{Tick, Control}
use Words.Keys.{server_node}
use Words.Lists.{Has}
use Words.Locks as locks
use Words.Server as sv
use Words.Server.{ServerState, ServerTurn}
use Words.Sessions as sessions
use Words.Tables.{has_append}
use Rattle.st_third.specs.Limits.{is_client_node, is_third}
use Rattle.st_third.specs.Server as hearing
use Rattle.st_trace.specs.Server.Edits as trace
use Rattle.st_trace.specs.Server.Steps.{step_of}
use Rattle.st_trace.proofs.Server.Walk.{walk_of}

-- each message among these is from this server
abbrev pub AllFrom : ServerId → List Output → Type 0
AllFrom id os = (m : Message) → Has (outputs.Send m) os → m.header.from ≡ server_node id

sends_more : (id : ServerId) (os : List Output) (x : Message) → x.header.from ≡ server_node id → AllFrom id os → AllFrom id (os ++ outputs.Send x ∷ [])
sends_more id os x f k m h = go (has_append os (outputs.Send x ∷ []) (outputs.Send m) h)
  where
    same : outputs.Send m ≡ outputs.Send x → m ≡ x
    same e = cc

    go : Has (outputs.Send m) os ⊎ Has (outputs.Send m) (outputs.Send x ∷ []) → m.header.from ≡ server_node id
    go (inl i) = k m i
    go (inr (inl e)) = ap (λ (y : Message). y.header.from) (same e) ∙ f
    go (inr (inr i)) = absurd i

notes_more : (id : ServerId) (os : List Output) (n : Words.Note) → AllFrom id os → AllFrom id (os ++ outputs.Note n ∷ [])
notes_more id os n k m h = go (has_append os (outputs.Note n ∷ []) (outputs.Send m) h)
  where
    never : outputs.Send m ≡ outputs.Note n → ⊥
    never e = cc

    go : Has (outputs.Send m) os ⊎ Has (outputs.Send m) (outputs.Note n ∷ []) → m.header.from ≡ server_node id
    go (inl i) = k m i
    go (inr (inl e)) = absurd (never e)
    go (inr (inr i)) = absurd i

-- What a step of a server leaves.
pub record Says (n : ServerState) (t : ServerTurn) : Type 0 where
  pub id : t.state.id ≡ n.id
  pub config : t.state.config ≡ n.config
  pub epoch : t.state.stable.epoch ≡ n.stable.epoch
  pub sepoch : t.state.sessions.epoch ≡ n.sessions.epoch
  pub grace : t.state.grace ≡ n.grace
  pub from : AllFrom n.id t.out

-- what a rule leaves, too
ruled_says : (n : ServerState) (now : Stamp) (t : ServerTurn) (h : Header) (b : Body) (u : ServerTurn) (r : Body) → trace.Ruled now t h b u r → Says n t →
    Says n u
unfolding sv.cut_pages sv.cut_whole locks.drop_file_waits
ruled_says n now t h _ _ _ (trace.Tells _ _ x) s = s
ruled_says n now t h _ _ _ (trace.Cuts ino g p a b) s =
    record { id = s.id; config = s.config; epoch = s.epoch; sepoch = s.sepoch; grace = s.grace; from = notes_more n.id t.out _ s.from }
ruled_says n now t h _ _ _ (trace.RemovesFile dir x g ino d a b c e f) s =
    record { id = s.id; config = s.config; epoch = s.epoch; sepoch = s.sepoch; grace = s.grace; from = notes_more n.id t.out _ s.from }
ruled_says n now t h b u r rule s = record { id = s.id; config = s.config; epoch = s.epoch; sepoch = s.sepoch; grace = s.grace; from = s.from }

-- one more reply, or what nobody asked for
module _ (n : ServerState) where
  sent : (t u : ServerTurn) (x : Message) → Says n t → u.state.id ≡ t.state.id → u.state.config ≡ t.state.config →
      u.state.stable.epoch ≡ t.state.stable.epoch → u.state.sessions.epoch ≡ t.state.sessions.epoch →
      u.state.grace ≡ t.state.grace → u.out ≡ t.out ++ outputs.Send x ∷ [] → x.header.from ≡ server_node t.state.id → Says n u
  sent t u x s i c e f g o q =
      record {
        id = i ∙ s.id;
        config = c ∙ s.config;
        epoch = e ∙ s.epoch;
        sepoch = f ∙ s.sepoch;
        grace = g ∙ s.grace;
        from = subst (AllFrom n.id) (sym o) (sends_more n.id t.out x (q ∙ ap (λ (y : ServerId). server_node y) s.id) s.from);
      }

  noted : (t u : ServerTurn) (x : Words.Note) → Says n t → u.state.id ≡ t.state.id → u.state.config ≡ t.state.config →
      u.state.stable.epoch ≡ t.state.stable.epoch → u.state.sessions.epoch ≡ t.state.sessions.epoch →
      u.state.grace ≡ t.state.grace → u.out ≡ t.out ++ outputs.Note x ∷ [] → Says n u
  noted t u x s i c e f g o =
      record {
        id = i ∙ s.id;
        config = c ∙ s.config;
        epoch = e ∙ s.epoch;
        sepoch = f ∙ s.sepoch;
        grace = g ∙ s.grace;
        from = subst (AllFrom n.id) (sym o) (notes_more n.id t.out x s.from);
      }

  edit_says : (clients : ℕ → Bool) (now : Stamp) (i : ServerInput) (a : trace.Phase) (t u : ServerTurn) → trace.EditOf clients n now i a t u → Says n t →
      Says n u
  unfolding sv.steal_from sv.suspect_client sv.keep_and_reply sv.reply sv.tell sessions.end sessions.store sessions.reasserted
  edit_says clients now i _ t _ (trace.TakesTimers _ e) s =
      record { id = s.id; config = s.config; epoch = s.epoch; sepoch = s.sepoch; grace = s.grace; from = s.from }
  edit_says clients now i _ t _ (trace.Steals _ c y h e) s = noted t _ (notes.Stolen c y.life) s refl refl refl refl refl refl
  edit_says clients now i _ t _ (trace.Welcomes _ m y g e l f) s = sent t _ _ s refl refl refl refl refl refl refl
  edit_says clients now i _ t _ (trace.Begins _ m g f) s = sent t _ _ s refl refl refl refl refl refl refl
  edit_says clients now i _ t _ (trace.Replaces _ m y g e l f o) s = sent t _ _ s refl refl refl refl refl refl refl
  edit_says clients now i _ t _ (trace.PutsOff _ m y g e l f o) s =
      sent (sv.suspect_client t now (sv.sender m.header)) _ _
      (noted t (sv.suspect_client t now (sv.sender m.header)) (notes.Suspected (sv.sender m.header) now) s refl refl refl refl refl refl)
      refl refl refl refl refl refl refl
  edit_says clients now i _ t _ (trace.Sees _ m ino g h e f) s =
      record { id = s.id; config = s.config; epoch = s.epoch; sepoch = s.sepoch; grace = s.grace; from = s.from }
  edit_says clients now i _ t _ (trace.Reasserts _ m rows h g e) s = sent t _ _ s refl refl refl refl refl refl refl
  edit_says clients now i _ t _ (trace.Serves _ m v b h e r) s =
      sent v _ _ (ruled_says n now t m.header m.body v b r s) refl refl refl refl refl refl refl
  edit_says clients now i _ t _ (trace.Repeats _ m y b h e f l o) s = sent t _ _ s refl refl refl refl refl refl refl
  edit_says clients now i _ t _ (trace.Refuses _ m b h) s = sent t _ _ s refl refl refl refl refl refl refl
  edit_says clients now i _ t _ (trace.Suspects _ c r e q f h o l) s = noted t _ (notes.Suspected c now) s refl refl refl refl refl refl
  edit_says clients now i _ t _ (trace.Grants _ w off h e f) s = sent t _ _ s refl refl refl refl refl refl refl
  edit_says clients now i _ t _ (trace.Demands _ w r x e h f g o) s = sent t _ _ s refl refl refl refl refl refl refl

  -- A whole step.
  pub step_says : (clients : ℕ → Bool) (now : Stamp) (i : ServerInput) → Says n (step_of clients n now i)
  step_says clients now i =
      walk_of clients n now i (Says n) (edit_says clients now i)
      (record { id = refl; config = refl; epoch = refl; sepoch = refl; grace = refl; from = λ m h. absurd h })

-- the clients that a server of the third form hears
abbrev pub Near : ℕ → Bool
Near = is_client_node 3

third_step : (n : ServerState) (now : Stamp) (i : ServerInput) → hearing.server_step 3 n now i ≡ step_of Near n now i
unfolding hearing.server_step hearing.take_input hearing.receive
third_step n now Tick = refl
third_step n now (Control m) = refl

-- a step of a server of the third form is one that hears 64 clients
pub third_step_is : (form : ℕ) → is_third form ≡ true → (n : ServerState) (now : Stamp) (i : ServerInput) →
    hearing.server_step form n now i ≡ step_of Near n now i
third_step_is form f n now i = ap (λ x. hearing.server_step x n now i) (eqb-true form 3 f) ∙ third_step n now i
