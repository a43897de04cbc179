-- A whole step of a client: what becomes of each of its associations, from one part of the step to the next, and why each message is sent.
use Rattle.st_lemmas.proofs.Words
use Words.{◌≡◌, ℕ, ◌⊎◌, true, ◌==◌, List, [], ◌∷◌, None, refl, sym, ap, ◌∙◌, subst, inl, inr, eq-eqb, Config, ClientId, Stamp, AppAnswer, Message}
use Words.{Output, ClientInput}
use Words.answers
use Words.outputs
use Words.inputs
use Words.Client as cl
use Words.ClientLease.{must_discard, standing_of}
use Words.ClientPasses as cp
use Words.ClientReplies as cr
use Words.ClientState.{Association, ClientState, ClientTurn, Turn, at_each, at_these, client_turn, enter, leave, only_at, server_of, with_associations}
use Words.Lists.{Has}
use Words.Tables.{cond_either, has_append}
use Words.Members.{has_left, has_right}
use Words.Truth.{not_both}
use Rattle.st_trace.specs.Client.Losses.{HasNoSession, IsLost, Lasts, Loses}
use Rattle.st_trace.proofs.Client.Losing.{loses}
use Rattle.st_laws_steps.specs.Client.Losses.{Fit, is_ended}
use Rattle.st_laws_steps.specs.Lives.Lives.{Pairwise}
use Rattle.st_laws_steps.proofs.Client.Losing.{over_is}
use Rattle.st_laws_steps.proofs.Client.Nexts.{changes_next}
use Rattle.st_laws_steps.proofs.Client.Replying.{changes_by_receive}
use Rattle.st_laws_steps.proofs.Client.Stepping.{Left, LossesLeft, LostOrNot, each, losses_left, pairs_has, pairs_same, pairs_then}
use Rattle.st_laws_healthy.proofs.Emptying.{NoneWaits, passes_empty}
use Rattle.st_laws_healthy.proofs.Passing.{After, Alike, IsIdle, IsSentBy, alike_self, passes_work}
use Rattle.st_laws_healthy.proofs.Taking.{IsSeen, ask_idle, end_idle, lose_quiet, receive_seen}

-- What a rule sends, at each server in turn: what was sent before, or what its association accounts for.
module _ (rule : Turn → Turn) (Q : Association → Message → Type 0)
    (one : (u : Turn) (m : Message) → Has (outputs.Send m) (rule u).out → Has (outputs.Send m) u.out ⊎ Q (rule u).here m) where
  abbrev pub Accounted : ClientTurn → Message → Type 0
  Accounted t m = (b : Association) × Has b t.state.associations × Q b m

  kept : (al : List Association) (t : ClientTurn) (b : Association) → Has b t.state.associations → Has b (at_these rule al t).state.associations
  unfolding at_these
  kept [] t b h = h
  kept (a ∷ al) t b h = kept al (leave t (rule (enter t a))) b (has_left t.state.associations ((rule (enter t a)).here ∷ []) b h)

  these : (al : List Association) (t : ClientTurn) (m : Message) → Has (outputs.Send m) (at_these rule al t).out →
      Has (outputs.Send m) t.out ⊎ Accounted (at_these rule al t) m
  unfolding at_these
  these [] t m h = inl h
  these (a ∷ al) t m h = go (these al (leave t u) m h)
    where
      u : Turn
      u = rule (enter t a)

      by : Has (outputs.Send m) t.out ⊎ Q u.here m → Has (outputs.Send m) t.out ⊎ Accounted (at_these rule al (leave t u)) m
      by (inl i) = inl i
      by (inr q) = inr (u.here, kept al (leave t u) u.here (has_right t.state.associations (u.here ∷ []) u.here (inl refl)), q)

      go : Has (outputs.Send m) u.out ⊎ Accounted (at_these rule al (leave t u)) m → Has (outputs.Send m) t.out ⊎ Accounted (at_these rule al (leave t u)) m
      go (inl i) = by (one (enter t a) m i)
      go (inr f) = inr f

  pub sends_each : (t : ClientTurn) (m : Message) → Has (outputs.Send m) (at_each rule t).out → Has (outputs.Send m) t.out ⊎ Accounted (at_each rule t) m
  unfolding at_each
  sends_each t m h = these t.state.associations (with_associations [] t) m h

-- an input that isn't a message
abbrev pub IsNoMessage : ClientInput → Type 0
IsNoMessage (inputs.Control m) = ⊥
IsNoMessage i = Unit {0}

-- What an input does at an association: its session stays alike, or the input is a message, and the association heard it.
pub data TakesIn (k : Config) (now : Stamp) (i : ClientInput) (a b : Association) : Type 0 where
  IsLeft : IsNoMessage i → b.server ≡ a.server → b.life ≡ a.life → b.greeting ≡ a.greeting → Alike a.session b.session → TakesIn k now i a b
  IsHeard : (t : Turn) (m : Message) → i ≡ inputs.Control m → t.config ≡ k → t.here ≡ a → b ≡ (cr.receive_at now m.header m.body t).here →
      b.server ≡ a.server → b.life ≡ a.life →
      TakesIn k now i a b

-- What the passes do to an association.
pub record WorksAt (now : Stamp) (a b : Association) : Type 0 where
  pub server : b.server ≡ a.server
  pub life : b.life ≡ a.life
  pub session : After now a.session b.session
  pub greeting : Rattle.std.specs.Prelude.is_some a.greeting ≡ true → Rattle.std.specs.Prelude.is_some b.greeting ≡ true
  pub none_waits : NoneWaits b.session

-- a lease that is over leaves no session, and no greeting
abbrev pub Gone : Config → Stamp → Association → Association → Type 0
Gone k now a b = is_ended k now a.session ≡ true → (b.session ≡ None) × (b.greeting ≡ None)

lose_gone : (k : Config) (now : Stamp) (t : Turn) → t.config ≡ k → Gone k now t.here (cl.lose now t).here
lose_gone k now t config = go (cl.lose now t) (loses now t)
  where
    go : (u : Turn) → Loses now t u → Gone k now t.here u.here
    go _ (HasNoSession e) = λ q. absurd (not_both (is_ended k now t.here.session) q (ap (is_ended k now) e))
    go _ (Lasts x e o) = λ q. absurd (not_both (is_ended k now t.here.session) q
        (ap (is_ended k now) e ∙ sym (over_is k x.lease now) ∙ ap (λ kb. must_discard (standing_of kb x.lease now)) (sym config) ∙ o))
    go _ (IsLost x u e o p) = λ q. (refl, refl)

-- two facts of each row
pairs_both : (R S : Association → Association → Type 0) (al bs : List Association) → Pairwise R al bs → Pairwise S al bs → Pairwise (λ a b. R a b × S a b) al bs
pairs_both R S [] [] p q = tt
pairs_both R S [] (y ∷ bs) p q = p
pairs_both R S (x ∷ al) [] p q = p
pairs_both R S (x ∷ al) (y ∷ bs) p q = record { one = (p.one, q.one); rest = pairs_both R S al bs p.rest q.rest }

-- each row has its partner in the other list
pairs_find : (R : Association → Association → Type 0) (al bs : List Association) → Pairwise R al bs → (a : Association) → Has a al →
    (b : Association) × Has b bs × R a b
pairs_find R [] bs p a h = absurd h
pairs_find R (x ∷ al) [] p a h = absurd p
pairs_find R (x ∷ al) (y ∷ bs) p a (inl e) = (y, inl refl, subst (λ z. R z y) (sym e) p.one)
pairs_find R (x ∷ al) (y ∷ bs) p a (inr h) = let z = pairs_find R al bs p.rest a h in (z.0, inr z.1, z.2)

left_of : (R : Association → Association → Type 0) (t u : Turn) → R t.here u.here → Left R (λ a. []) (λ os. []) t u
left_of R t u r = record { one = r; said = refl }

module _ (s : ClientState) (now : Stamp) (i : ClientInput) (fit : (a : Association) → Has a s.associations → Fit a) where
  abbrev t1 : ClientTurn
  t1 = cl.losses (client_turn s []) now

  abbrev t2 : ClientTurn
  t2 = cl.take_input t1 now i

  lost : LossesLeft s.id s now (client_turn s []) t1
  lost = losses_left s.id s now (client_turn s []) refl fit

  gone_pairs : Pairwise (Gone s.config now) s.associations t1.state.associations
  unfolding cl.losses
  gone_pairs =
      (each (λ a. Unit {0}) (Gone s.config now) (λ a. []) (λ os. []) (cl.lose now) (client_turn s [])
      (λ u q p. left_of (Gone s.config now) u (cl.lose now u) (lose_gone s.config now u q)) (λ a h. tt)).pairs

  -- what becomes of an association, from one part of the step to the next
  pub record Walks (a b : Association) : Type 0 where
    pub first : Association
    pub second : Association
    pub loses : LostOrNot s.config now a first
    pub gone : Gone s.config now a first
    pub takes : TakesIn s.config now i first second
    pub works : WorksAt now second b

  abbrev Pairs : ClientTurn → ClientTurn → Type 0
  Pairs t u = Pairwise (TakesIn s.config now i) t.state.associations u.state.associations

  idle_pairs : (rule : Turn → Turn) → IsNoMessage i → ((u : Turn) → IsIdle u (rule u)) → (t : ClientTurn) → Pairs t (at_each rule t)
  idle_pairs rule n idle t =
      (each (λ a. Unit {0}) (TakesIn s.config now i) (λ a. []) (λ os. []) rule t
      (λ u e p. left_of (TakesIn s.config now i) u (rule u) (let z = idle u in IsLeft n z.server z.life z.greeting z.session)) (λ a h. tt)).pairs

  same_pairs : IsNoMessage i → (t : ClientTurn) → Pairs t t
  same_pairs n t = pairs_same (TakesIn s.config now i) (λ a. IsLeft n refl refl refl (alike_self a.session)) t.state.associations

  -- the input is heard, if it is a message to this client
  abbrev pub Told : ClientInput → Type 0
  Told (inputs.Control m) = m.header.to ≡ s.id.0
  Told i = Unit {0}

  takes_pairs : (j : ClientInput) → i ≡ j → Told j → (t : ClientTurn) → t.state.id ≡ s.id → t.state.config ≡ s.config →
      ((a : Association) → Has a t.state.associations → Fit a) → Pairs t (cl.take_input t now j)
  unfolding cl.take_input cl.app cl.app_known cl.done cr.receive cr.receive_here
  takes_pairs inputs.Tick e told t id config fits = same_pairs (subst IsNoMessage (sym e) tt) t
  takes_pairs (inputs.App op ask) e told t id config fits =
      cond_either (Pairs t) (cl.is_full t.state) (cl.answered_at_once t op answers.OpsFull) (cl.app_known t op ask) (λ f. same_pairs n t)
      (λ f. cond_either (Pairs t) (cl.is_configured t.state (server_of ask)) (at_each (only_at (server_of ask) (cl.take_ask op ask)) t)
      (cl.answered_at_once t op answers.NoFile)
      (λ g. idle_pairs (only_at (server_of ask) (cl.take_ask op ask)) n (ask_idle (server_of ask) op ask) t) (λ g. same_pairs n t))
    where
      n : IsNoMessage i
      n = subst IsNoMessage (sym e) tt
  takes_pairs (inputs.Control m) e told t id config fits =
      cond_either (Pairs t) (m.header.to == t.state.id.0) (at_each (cr.receive_at now m.header m.body) t) t
      (λ f. (each Fit (TakesIn s.config now i) (λ a. []) (λ os. []) (cr.receive_at now m.header m.body) t
      (λ u q p. left_of (TakesIn s.config now i) u (cr.receive_at now m.header m.body u)
      (let z = changes_next now u (cr.receive_at now m.header m.body u) (changes_by_receive now m.header m.body u p.fresh) in
      IsHeard u m e (q ∙ config) refl refl
      (sym z.server) (sym z.life))) fits).pairs)
      (λ f. absurd (not_both (m.header.to == t.state.id.0) (eq-eqb m.header.to t.state.id.0 (told ∙ ap (λ (x : ClientId). x.0) (sym id))) f))
  takes_pairs (inputs.Done number result) e told t id config fits = idle_pairs (cl.finish number result) (subst IsNoMessage (sym e) tt)
      (end_idle number result) t

  works_pairs : Pairwise (WorksAt now) t2.state.associations (cl.work t2 now i).state.associations
  unfolding cl.work
  works_pairs =
      (each (λ a. Unit {0}) (WorksAt now) (λ a. []) (λ os. []) (cp.passes now (cl.is_tick i)) t2
      (λ u e p. left_of (WorksAt now) u (cp.passes now (cl.is_tick i) u)
      (let z = passes_work now (cl.is_tick i) u in record {
        server = z.server;
        life = z.life;
        session = z.session;
        greeting = z.greeting;
        none_waits = passes_empty now (cl.is_tick i) u;
      })) (λ a h. tt)).pairs

  -- where an association after the input is after the passes
  pub works_on : (a : Association) → Has a t2.state.associations → (b : Association) × Has b (cl.client_step s now i).state.associations × WorksAt now a b
  unfolding cl.client_step
  works_on a h = pairs_find (WorksAt now) t2.state.associations (cl.work t2 now i).state.associations works_pairs a h

  pub walks : Told i → (b : Association) → Has b (cl.client_step s now i).state.associations → (a : Association) × Has a s.associations × Walks a b
  unfolding cl.client_step
  walks told b h =
      pairs_has Walks (λ a. Has a s.associations) (λ b. (a : Association) × Has a s.associations × Walks a b) (λ a b r j. (a, j, r)) s.associations
      (cl.work t2 now i).state.associations all (λ a j. j) b h
    where
      fits : (a : Association) → Has a t1.state.associations → Fit a
      fits = pairs_has (LostOrNot s.config now) Fit Fit (λ a b r. r.fit) s.associations t1.state.associations lost.pairs fit

      LG : Association → Association → Type 0
      LG a f = LostOrNot s.config now a f × Gone s.config now a f

      Two : Association → Association → Type 0
      Two a b = (f : Association) × LG a f × TakesIn s.config now i f b

      two : Pairwise Two s.associations t2.state.associations
      two =
          pairs_then LG (TakesIn s.config now i) Two (λ a f b p q. (f, p, q)) s.associations t1.state.associations t2.state.associations
          (pairs_both (LostOrNot s.config now) (Gone s.config now) s.associations t1.state.associations lost.pairs gone_pairs)
          (takes_pairs i refl told t1 (sym lost.id) (sym lost.config) fits)

      all : Pairwise Walks s.associations (cl.work t2 now i).state.associations
      all =
          pairs_then Two (WorksAt now) Walks
          (λ a f b p q. record { first = p.0; second = f; loses = p.1.0; gone = p.1.1; takes = p.2; works = q }) s.associations t2.state.associations
          (cl.work t2 now i).state.associations two works_pairs

  -- What is sent: that a demand was seen, or what an association accounts for.
  abbrev Sees : List Output → Type 0
  Sees os = (m : Message) → Has (outputs.Send m) os → IsSeen m.body

  sees_lost : Sees t1.out
  unfolding cl.losses
  sees_lost m h = go (sends_each (cl.lose now) (λ a m. ⊥) (λ u m h. inl (lose_quiet now u m h)) (client_turn s []) m h)
    where
      go : Has (outputs.Send m) [] ⊎ Accounted (cl.lose now) (λ a m. ⊥) (λ u m h. inl (lose_quiet now u m h)) t1 m → IsSeen m.body
      go (inl j) = absurd j
      go (inr f) = absurd f.2

  sees_idle : (rule : Turn → Turn) → ((u : Turn) → IsIdle u (rule u)) → (t : ClientTurn) → Sees t.out → Sees (at_each rule t).out
  sees_idle rule idle t k m h = go (sends_each rule (λ a m. ⊥) (λ u m h. inl ((idle u).quiet m h)) t m h)
    where
      go : Has (outputs.Send m) t.out ⊎ Accounted rule (λ a m. ⊥) (λ u m h. inl ((idle u).quiet m h)) (at_each rule t) m → IsSeen m.body
      go (inl j) = k m j
      go (inr f) = absurd f.2

  sees_once : (t : ClientTurn) (op : ℕ) (a : AppAnswer) → Sees t.out → Sees (cl.answered_at_once t op a).out
  sees_once t op a k m h = go (has_append t.out (outputs.Answer op a ∷ []) (outputs.Send m) h)
    where
      no : outputs.Send m ≡ outputs.Answer op a → ⊥
      no e = cc

      go : Has (outputs.Send m) t.out ⊎ Has (outputs.Send m) (outputs.Answer op a ∷ []) → IsSeen m.body
      go (inl j) = k m j
      go (inr (inl e)) = absurd (no e)
      go (inr (inr j)) = absurd j

  sees_taken : (j : ClientInput) (t : ClientTurn) → Sees t.out → Sees (cl.take_input t now j).out
  unfolding cl.take_input cl.app cl.app_known cl.done cr.receive cr.receive_here
  sees_taken inputs.Tick t k = k
  sees_taken (inputs.App op ask) t k =
      cond_either (λ (u : ClientTurn). Sees u.out) (cl.is_full t.state) (cl.answered_at_once t op answers.OpsFull) (cl.app_known t op ask)
      (λ f. sees_once t op answers.OpsFull k)
      (λ f. cond_either (λ (u : ClientTurn). Sees u.out) (cl.is_configured t.state (server_of ask)) (at_each (only_at (server_of ask) (cl.take_ask op ask)) t)
      (cl.answered_at_once t op answers.NoFile)
      (λ g. sees_idle (only_at (server_of ask) (cl.take_ask op ask)) (ask_idle (server_of ask) op ask) t k) (λ g. sees_once t op answers.NoFile k))
  sees_taken (inputs.Control n) t k =
      cond_either (λ (u : ClientTurn). Sees u.out) (n.header.to == t.state.id.0) (at_each (cr.receive_at now n.header n.body) t) t
      (λ f m h. go m (sends_each (cr.receive_at now n.header n.body) (λ a m. IsSeen m.body) (λ u m h. receive_seen now n.header n.body u m h) t m h)) (λ f. k)
    where
      go : (m : Message) → Has (outputs.Send m) t.out ⊎ Accounted (cr.receive_at now n.header n.body) (λ a m. IsSeen m.body)
          (λ u m h. receive_seen now n.header n.body u m h)
          (at_each (cr.receive_at now n.header n.body) t) m → IsSeen m.body
      go m (inl j) = k m j
      go m (inr f) = f.2
  sees_taken (inputs.Done number result) t k = sees_idle (cl.finish number result) (end_idle number result) t k

  pub sends : (m : Message) → Has (outputs.Send m) (cl.client_step s now i).out →
      IsSeen m.body ⊎ ((b : Association) × Has b (cl.client_step s now i).state.associations × IsSentBy b m)
  unfolding cl.client_step cl.work
  sends m h = go (sends_each (cp.passes now (cl.is_tick i)) IsSentBy (λ u m h. (passes_work now (cl.is_tick i) u).sends m h) t2 m h)
    where
      go : Has (outputs.Send m) t2.out ⊎ Accounted (cp.passes now (cl.is_tick i)) IsSentBy (λ u m h. (passes_work now (cl.is_tick i) u).sends m h)
          (at_each (cp.passes now (cl.is_tick i)) t2) m →
          IsSeen m.body ⊎ ((b : Association) × Has b (at_each (cp.passes now (cl.is_tick i)) t2).state.associations × IsSentBy b m)
      go (inl j) = inl (sees_taken i t1 sees_lost m j)
      go (inr f) = inr f
