-- In grace a server welcomes nobody, and a session begins only by a reassertion of this epoch.
use Rattle.st_lemmas.proofs.Words
use Words.{◌≡◌, ◌≢◌, ◌⊎◌, ℕ, Bool, true, false, List, [], ◌∷◌, ◌++◌, option_map, Option, Some, None, refl, sym, ap, ◌∙◌, subst, inl, inr}
use Words.{Body, ClientId, Epoch, GrantNo, Header, Life, Message, Mode, Note, Output, ServerInput, Session, Stamp}
use Words.bodies
use Words.notes
use Words.outputs
use Words.Grace as grace
use Words.Lists.{Has}
use Words.Lookups.{some_is}
use Words.Server as sv
use Words.Server.{ServerState, ServerTurn, life_in, sender}
use Words.Sessions as sessions
use Words.Sessions.{Sessions, session_of}
use Words.Tables.{found_at, has_append, same_or_not}
use Words.Truth.{none_not_some}
use Rattle.st_rules.specs.declared.sessions.SessionState.TheVariants.{Live}
use Rattle.st_rules.specs.declared.authority.AcceptRefusal.{AcceptRefusal}
use Rattle.st_rules.specs.declared.authority.AcceptRefusal.TheVariants as refusals
use Rattle.st_rules.specs.declared.input.ServerInput.TheVariants as inputs
use Rattle.st_third.specs.Limits.{is_client_node}
use Rattle.st_third.specs.Server as every
use Rattle.st_trace.specs.Server.Edits as edits
use Rattle.st_trace.specs.Server.Edits.{AskedOf, EditOf, Phase, RefusedOf, Ruled}
use Rattle.st_trace.specs.Server.Steps.{step_of}
use Rattle.st_trace.proofs.Server.Walk.{walk_of}
use Rattle.st_laws_leaving.specs.Serving.{IsServing, KeepsNoWelcome, NoWelcome}
use Rattle.st_laws_leaving.proofs.ServedClients.{end_is, end_life, kept_is, kept_life, put_other, put_own, rule_leaves, ruled_plain, same_step}

-- whose life a session has in grace: the session's from before, or that of a reassertion that comes, of this epoch
pub data CameBy (n : ServerState) (i : ServerInput) (c : ClientId) (life : ℕ) : Type 0 where
  WasThere : (x : Session) → session_of n.sessions c ≡ Some x → x.life.0 ≡ life → CameBy n i c life
  HasReasserted : (m : Message) (rows : List (ℕ × GrantNo × Mode)) → i ≡ inputs.Control m → m.header.from ≡ c.0 → m.header.life ≡ life →
      m.header.epoch ≡ n.stable.epoch.0 → m.body ≡ bodies.Reassert rows → CameBy n i c life

mapped : {A B : Type 0} (f : A → B) (o : Option A) (y : B) → option_map f o ≡ Some y → (x : A) × ((o ≡ Some x) × (f x ≡ y))
mapped f None y e = absurd (none_not_some y e)
mapped f (Some x) y e = (x, (refl, some_is e))

module _ (clients : ℕ → Bool) (n : ServerState) (now : Stamp) (i : ServerInput) (serving : IsServing n) where
  record InGrace (t : ServerTurn) : Type 0 where
    still : t.state.grace ≡ n.grace
    epoch : t.state.stable.epoch ≡ n.stable.epoch
    lives : grace.is_on n.grace now ≡ true → (c : ClientId) (y : Session) → session_of t.state.sessions c ≡ Some y → CameBy n i c y.life.0
    quiet : grace.is_on n.grace now ≡ true → (m : Message) → Has (outputs.Send m) t.out → NoWelcome m.body

  never : {A : Type 0} (t : ServerTurn) → InGrace t → grace.is_on t.state.grace now ≡ false → grace.is_on n.grace now ≡ true → A
  never t s off on = absurd (no (sym on ∙ ap (λ g. grace.is_on g now) (sym s.still) ∙ off))
    where
      no : true ≡ false → ⊥
      no e = cc

  sent_quiet : (os : List Output) (x : Message) → NoWelcome x.body → ((m : Message) → Has (outputs.Send m) os → NoWelcome m.body) →
      (m : Message) → Has (outputs.Send m) (os ++ outputs.Send x ∷ []) → NoWelcome m.body
  sent_quiet os x w f m h = go (has_append os (outputs.Send x ∷ []) (outputs.Send m) h)
    where
      same : outputs.Send m ≡ outputs.Send x → m ≡ x
      same e = cc e

      go : Has (outputs.Send m) os ⊎ Has (outputs.Send m) (outputs.Send x ∷ []) → NoWelcome m.body
      go (inl k) = f m k
      go (inr (inl e)) = subst (λ (y : Message). NoWelcome y.body) (sym (same e)) w
      go (inr (inr k)) = absurd k

  noted_quiet : (os : List Output) (x : Note) → ((m : Message) → Has (outputs.Send m) os → NoWelcome m.body) →
      (m : Message) → Has (outputs.Send m) (os ++ outputs.Note x ∷ []) → NoWelcome m.body
  noted_quiet os x f m h = go (has_append os (outputs.Note x ∷ []) (outputs.Send m) h)
    where
      other : outputs.Send m ≡ outputs.Note x → ⊥
      other e = cc e

      go : Has (outputs.Send m) os ⊎ Has (outputs.Send m) (outputs.Note x ∷ []) → NoWelcome m.body
      go (inl k) = f m k
      go (inr (inl e)) = absurd (other e)
      go (inr (inr k)) = absurd k

  refused_plain : (t : ServerTurn) (m : Message) (b : Body) → RefusedOf clients n now i t m b → NoWelcome b
  refused_plain t m _ (edits.IsSuspect start c q e) = tt
  refused_plain t m _ (edits.GreetsInGrace h e q) = tt
  refused_plain t m _ (edits.OfOtherEpoch h q) = tt
  refused_plain t m _ (edits.HasNoSession h q) = tt
  refused_plain t m _ (edits.IsRefusedRows rows r h e) = reason r
    where
      reason : (r : AcceptRefusal) → NoWelcome (sv.refused_reassertion r)
      reason (refusals.GraceOver start x) = tt
      reason (refusals.Conflict ino holder) = tt
      reason (refusals.NotHolder ino g) = tt

  -- nor is a reply that was kept one
  kept_plain : (t : ServerTurn) (m : Message) (y : Session) (b : Body) → AskedOf clients n now i t m → session_of t.state.sessions (sender m.header) ≡ Some y →
      y.state ≡ Live m.header.number (Some b) → NoWelcome b
  kept_plain t m y b h q o =
      subst KeepsNoWelcome o
      (serving.kept y
      (found_at (sessions.is_session_of (sender m.header)) n.sessions.rows y
      (h.heard.came.begun.sessions (sender m.header) y q (ap sessions.is_live_state o))).1)

  -- the lives stay
  ended_lives : (t : ServerTurn) (d : ClientId) → InGrace t → grace.is_on n.grace now ≡ true → (c : ClientId) (y : Session) → session_of (sessions.end t.state.sessions d) c ≡ Some y →
      CameBy n i c y.life.0
  ended_lives t d s on c y e =
      let z = mapped (sessions.end_of d) (session_of t.state.sessions c) y (sym (end_is t.state.sessions d c) ∙ e) in
      subst (CameBy n i c) (ap (λ (l : Life). l.0) (sym (end_life d z.0)) ∙ ap (λ (x : Session). x.life.0) z.1.1) (s.lives on c z.0 z.1.0)

  kept_lives : (v : Sessions) (d : ClientId) (number : ℕ) (b : Body) →
      ((c : ClientId) (y : Session) → session_of v c ≡ Some y → CameBy n i c y.life.0) → (c : ClientId) (y : Session) →
      session_of (sessions.store v d number b) c ≡ Some y → CameBy n i c y.life.0
  kept_lives v d number b f c y e =
      let z = mapped (sessions.keep_of d number b) (session_of v c) y (sym (kept_is v d c number b) ∙ e) in
      subst (CameBy n i c) (ap (λ (l : Life). l.0) (sym (kept_life d number b z.0).0) ∙ ap (λ (x : Session). x.life.0) z.1.1) (f c z.0 z.1.0)

  -- the grace that a rule leaves
  ruled_grace : (t : ServerTurn) (h : Header) (b : Body) (u : ServerTurn) (r : Body) → Ruled now t h b u r → u.state.grace ≡ t.state.grace
  unfolding sv.cut_pages sv.cut_whole
  ruled_grace t h _ _ _ (edits.Tells _ _ x) = refl
  ruled_grace t h _ _ _ (edits.Cuts ino g p a b) = refl
  ruled_grace t h _ _ _ (edits.RemovesFile dir x g ino d a b c e f) = refl
  ruled_grace t h b u r rule = refl

  edit_grace : (a : Phase) (t u : ServerTurn) → EditOf clients n now i a t u → InGrace t → InGrace u
  unfolding sv.steal_from sv.suspect_client sv.keep_and_reply sv.reply sv.tell sessions.reasserted
  edit_grace _ t _ (edits.TakesTimers _ e) s = record { still = s.still; epoch = s.epoch; lives = s.lives; quiet = s.quiet }
  edit_grace _ t _ (edits.Steals _ c y h e) s =
      record { still = s.still; epoch = s.epoch; lives = ended_lives t c s; quiet = λ on. noted_quiet t.out (notes.Stolen c y.life) (s.quiet on) }
  edit_grace _ t _ (edits.Welcomes _ x y g e l q) s = record { still = s.still; epoch = s.epoch; lives = never t s g.off; quiet = never t s g.off }
  edit_grace _ t _ (edits.Begins _ x g q) s = record { still = s.still; epoch = s.epoch; lives = never t s g.off; quiet = never t s g.off }
  edit_grace _ t _ (edits.Replaces _ x y g e l q o) s = record { still = s.still; epoch = s.epoch; lives = never t s g.off; quiet = never t s g.off }
  edit_grace _ t _ (edits.PutsOff _ x y g e l q o) s = record { still = s.still; epoch = s.epoch; lives = never t s g.off; quiet = never t s g.off }
  edit_grace _ t _ (edits.Sees _ x ino g h e q) s = record { still = s.still; epoch = s.epoch; lives = s.lives; quiet = s.quiet }
  edit_grace _ t _ (edits.Reasserts _ x rows h g e) s =
      record {
        still = s.still;
        epoch = s.epoch;
        lives = λ on c y q. at on c y q (same_or_not c.0 x.header.from);
        quiet = λ on. sent_quiet t.out _ tt (s.quiet on);
      }
    where
      own : Session
      own = sessions.reasserted_session (sender x.header) (life_in x.header)

      at : grace.is_on n.grace now ≡ true → (c : ClientId) (y : Session) → session_of (sessions.with_session own t.state.sessions) c ≡ Some y → (c.0 ≡ x.header.from) ⊎ (c.0 ≢ x.header.from) →
          CameBy n i c y.life.0
      at on c y q (inl k) =
          HasReasserted x rows h.asked.heard.came.is (sym k)
          (ap (λ (z : Session). z.life.0) (some_is (sym (put_own t.state.sessions own c k) ∙ q)))
          (h.asked.epoch ∙ ap (λ (z : Epoch). z.0) s.epoch) h.asks
      at on c y q (inr ne) = s.lives on c y (sym (put_other t.state.sessions own c ne) ∙ q)
  edit_grace _ t _ (edits.Serves _ x v b h e r) s =
      let z = rule_leaves now t x.header x.body v b r in
      record {
        still = ruled_grace t x.header x.body v b r ∙ s.still;
        epoch = z.epoch ∙ s.epoch;
        lives =
            λ on. kept_lives v.state.sessions (sender x.header) x.header.number b
            (λ c y q. s.lives on c y (sym (ap (λ k. session_of k c) z.sessions) ∙ q));
        quiet = λ on. sent_quiet v.out _ (ruled_plain now t x.header x.body v b r) (λ m k. s.quiet on m (z.said m k));
      }
  edit_grace _ t _ (edits.Repeats _ x y b h e q l o) s =
      record { still = s.still; epoch = s.epoch; lives = s.lives; quiet = λ on. sent_quiet t.out _ (kept_plain t x y b h q o) (s.quiet on) }
  edit_grace _ t _ (edits.Refuses _ x b h) s =
      record { still = s.still; epoch = s.epoch; lives = s.lives; quiet = λ on. sent_quiet t.out _ (refused_plain t x b h) (s.quiet on) }
  edit_grace _ t _ (edits.Suspects _ c r e q k h o l) s =
      record { still = s.still; epoch = s.epoch; lives = s.lives; quiet = λ on. noted_quiet t.out (notes.Suspected c now) (s.quiet on) }
  edit_grace _ t _ (edits.Grants _ w off h e q) s =
      record { still = s.still; epoch = s.epoch; lives = s.lives; quiet = λ on. sent_quiet t.out _ tt (s.quiet on) }
  edit_grace _ t _ (edits.Demands _ w r x e h k g o) s =
      record { still = s.still; epoch = s.epoch; lives = s.lives; quiet = λ on. sent_quiet t.out _ tt (s.quiet on) }

  in_grace : InGrace (step_of clients n now i)
  in_grace =
      walk_of clients n now i InGrace edit_grace
      (record { still = refl; epoch = refl; lives = λ on c y e. WasThere y e refl; quiet = λ on m h. absurd h })

-- A step.
module _ (form : ℕ) (n : ServerState) (now : Stamp) (i : ServerInput) (serving : IsServing n) where
  step_in : InGrace (is_client_node form) n now i serving (every.server_step form n now i)
  step_in = subst (InGrace (is_client_node form) n now i serving) (sym (same_step form n now i)) (in_grace (is_client_node form) n now i serving)

  pub lives_in_grace : grace.is_on n.grace now ≡ true → (c : ClientId) (y : Session) →
      session_of (every.server_step form n now i).state.sessions c ≡ Some y → CameBy n i c y.life.0
  lives_in_grace = step_in.lives

  pub quiet_in_grace : grace.is_on n.grace now ≡ true → (m : Message) → Has (outputs.Send m) (every.server_step form n now i).out → m.body ≡ bodies.Welcome → ⊥
  quiet_in_grace on m h e = subst NoWelcome e (step_in.quiet on m h)

  -- its grace stays
  pub grace_same : (every.server_step form n now i).state.grace ≡ n.grace
  grace_same = step_in.still
