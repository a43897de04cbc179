-- What a client does with a message, an ask and the end of a command, and its whole step: its leases stay dated.
use Rattle.st_lemmas.proofs.Words
use Words.{◌≡◌, ℕ, ◌⊎◌, Bool, true, false, List, [], ◌∷◌, ◌==◌, Option, Some, refl, sym, ap, ◌∙◌, subst, inl, inr, eqb-true, Tag, ClientId, ServerId, Life}
use Words.{GrantNo, Stamp, Mode, Ask, AppAnswer, Header, Message, Body, Why, ClientInput, Operation}
use Words.answers
use Words.bodies
use Words.outputs
use Words.inputs.{Tick, App, Control, Done}
use Words.Keys.{server_node}
use Words.Client as cl
use Words.ClientLease as lease
use Words.ClientLease.{ClientLease}
use Words.ClientLocks as locks
use Words.ClientPasses as cp
use Words.ClientReplies as cr
use Words.ClientState as cs
use Words.ClientState.{ClientSession, Association, ClientState, ClientTurn, Turn, client_turn, enter, leave, at_these, at_each, with_associations, with_session}
use Words.ClientState.{with_cache, forget_wait, is_asked, only_at, answer_each}
use Words.Dating as dating
use Words.Lists.{Has}
use Words.Tables.{cond_either, has_append}
use Words.ClientPages as pages
use Rattle.st_laws_leases.specs.Dates.Dates.{Dates, CalmRequest, SessionDated, AssociationDated, ClientDated}
use Rattle.st_laws_steps.specs.Client.Losses.{Ends, Unknown, Passes, Hardens, Fails}
use Rattle.st_laws_steps.proofs.Client.Losing.{Finished, calm_only, finish_is, is_done}
use Rattle.st_laws_leases.proofs.Dates.Asking.{Outs, Good, good_after_answer, good_after_note, good_after_store, good_after_lost, good_after_ops, good_after_each, good_after_session, good_after_send, idle, outs_more, dated_after_passes}
use Rattle.st_trace.specs.Client.Losses as losing
use Rattle.st_trace.specs.Client.Losses.{Ended, Loses}
use Rattle.st_trace.specs.Client.Messages as trace
use Rattle.st_trace.specs.Client.Messages.{Effect, Grants, Received, Receives, Refusal, Renews}
use Rattle.st_trace.proofs.Client.Losing.{loses}
use Rattle.st_trace.proofs.Client.Receiving.{receives}
use Rattle.st_trace.proofs.Client.Walk.{each_lasts}

module _ (ms : List Message) (c : ClientId) (now : Stamp) (Lv : ServerId → ℕ → Type 0) (s : ServerId) (life : Life) where
  abbrev G : Turn → Type 0
  G t = Good ms c now Lv s life t

  abbrev D : ClientSession → Type 0
  D x = Dates ms c s life x.lease.date × CalmRequest x.requests.asked

  good_after_with : (t : Turn) (x : ClientSession) → D x → G t → G (with_session x t)
  good_after_with t x d p = good_after_session ms c now Lv s life t x d p

  -- Losses and ends.
  pub good_after_only : (v : ServerId) (op : ℕ) (ask : Ask) (t : Turn) → G t → G (only_at v (cl.take_ask op ask) t)
  good_after_only v op ask t p = idle ms c now Lv s life t (only_at v (cl.take_ask op ask) t) (calm_only now v op ask t) p

  good_after_ends : (number : ℕ) (ok : Bool) (t u : Turn) → Ends number ok t u → G t → G u
  unfolding cl.hardened
  good_after_ends number ok t _ Unknown p = p
  good_after_ends number ok t _ (Passes x e o) p = good_after_store ms c now Lv s life t _ p
  good_after_ends number ok t _ (Hardens x v e o k w) p = good_after_store ms c now Lv s life t _ p
  good_after_ends number ok t _ (Fails x v e o k w) p = good_after_store ms c now Lv s life t _ p

  good_after_finished : (number : ℕ) (ok : Bool) (t u : Turn) → Finished now number ok t u → G t → G u
  good_after_finished number ok t u f p = idle ms c now Lv s life f.mid u f.calm (good_after_ends number ok t f.mid f.ends p)

  pub good_after_finish : (number : ℕ) (result : Option (Option (Tag × List ℕ))) (t : Turn) → G t → G (cl.finish number result t)
  good_after_finish number r t p = good_after_finished number (is_done r) t (cl.finish number r t) (finish_is now number r t) p

  -- Messages: the one that came.
  module _ (m : Message) (among : Has m ms) (to : m.header.to ≡ c.0) where
    abbrev h : Header
    h = m.header

    abbrev stamp : Stamp
    stamp = record { 0 = h.stamp }

    date : (t : Turn) (b : Body) → Received now h t → m.body ≡ b → dating.may_date h.number b ≡ true → G t → Dates ms c s life stamp
    date t b r e d p =
        record {
          by = m;
          among = among;
          from = r.from ∙ ap server_node p.server_;
          to = to;
          of_life = r.life ∙ ap (λ (l : Life). l.0) p.life_;
          stamp = refl;
          dating = ap (dating.may_date h.number) e ∙ d;
        }

    dated : (t : Turn) (x : ClientSession) → t.here.session ≡ Some x → G t → D x
    dated t x e p = subst (SessionDated ms c s life) e p.dated

    dated_after_granted : (x : ClientSession) (ino : ℕ) (g : GrantNo) (mode : Mode) (v : ClientSession) → Grants x ino g mode v → D x → D v
    dated_after_granted x ino g mode _ (trace.Installs a p) d = d
    dated_after_granted x ino g mode _ (trace.Declines a p) d = d
    dated_after_granted x ino g mode _ (trace.IsOld a) d = d

    good_after_refused : (t : Turn) (file : Option ℕ) (asked : Body) (w : Why) (a b : ℕ) (u : Turn) → Refusal t file asked w a b u → G t → G u
    good_after_refused t file asked _ a b _ (trace.NoFile _ _ ino e) p = good_after_each ms c now Lv s life _ _ t p
    good_after_refused t file asked _ a b _ (trace.TooManyLocks _ _ ino e) p = good_after_each ms c now Lv s life _ _ t p
    good_after_refused t file asked _ a b _ (trace.NoSpace _ _ ino q e f) p = good_after_each ms c now Lv s life _ _ t p
    good_after_refused t file asked _ a b _ (trace.NotHolder _ _ e) p = good_after_each ms c now Lv s life _ _ t p
    good_after_refused t file asked w a b _ (trace.AnswersNone _ _ _) p = p

    good_after_effect : (t : Turn) (x : ClientSession) (file : Option ℕ) (asked b : Body) (u : Turn) → Effect now t x file asked b u → D x → G t → G u
    good_after_effect t x file asked _ _ (trace.IsGranted ino g mode v k) d p = good_after_with t v (dated_after_granted (forget_wait ino x) ino g mode v k d) p
    good_after_effect t x file asked _ _ (trace.IsQueued ino mode e) d p = good_after_with t _ d p
    good_after_effect t x file asked _ _ (trace.HoldsAlready ino mode e) d p = good_after_with t x d p
    good_after_effect t x file asked _ _ (trace.IsToldExtents ino rows e) d p = good_after_store ms c now Lv s life t _ p
    good_after_effect t x file asked _ _ (trace.IsToldLate ino rows e) d p = p
    good_after_effect t x file asked _ _ trace.IsAcknowledged d p = good_after_each ms c now Lv s life _ _ t p
    good_after_effect t x file asked _ _ (trace.IsNamed r k) d p = good_after_each ms c now Lv s life _ _ t p
    good_after_effect t x file asked _ _ (trace.IsRemoved ino removed l e q) d p =
        good_after_with (answer_each (is_asked t.here.server) (answers.Named ino) t) _ d
        (good_after_each ms c now Lv s life (is_asked t.here.server) (answers.Named ino) t p)
    good_after_effect t x file asked _ _ trace.IsReasserted d p = good_after_with t (record x { due = false }) d p
    good_after_effect t x file asked _ _ (trace.Effect.IsRefused w a b u r) d p =
        good_after_ops ms c now Lv s life u _ (good_after_refused t file asked w a b u r p)

    good_after_renewed : (t : Turn) (x : ClientSession) (u : Turn) → Renews t x stamp u → G t → G u
    good_after_renewed t x _ (trace.IsLater e) p = good_after_note ms c now Lv s life t _ p
    good_after_renewed t x _ (trace.IsNoLater e) p = p

    -- a session whose request ended is dated by the reply, or as before
    dated_after_ended : (x : ClientSession) → Dates ms c s life stamp → D x → D (cr.ended_by stamp x)
    unfolding lease.renewed lease.dated
    dated_after_ended x new d = (
      cond_either (λ (l : ClientLease). Dates ms c s life l.date) (lease.is_renewal stamp x.lease) (lease.dated stamp x.lease) x.lease
          (λ e. new) (λ e. d.0),
      tt,
    )

    heard : (t : Turn) (b : Body) (u : Turn) → m.body ≡ b → Receives now h t b u → G t → G u
    unfolding lease.condemned
    heard t _ _ e (trace.PassesOver b) p = p
    heard t _ _ e (trace.Begins r n i) p =
        good_after_note ms c now Lv s life (cr.begin_here (cr.new_session (trace.epoch_of h) stamp) t) _
        (record { id_ = p.id_; server_ = p.server_; life_ = p.life_; lives = p.lives; dated = (date t bodies.Welcome r e refl p, tt); outs = p.outs })
    heard t _ _ e (trace.FollowsEpoch x a b k i) p =
        good_after_each ms c now Lv s life _ _ (with_session (cr.in_epoch (trace.epoch_of h) x) t)
        (good_after_with t (cr.in_epoch (trace.epoch_of h) x) ((dated t x k.session p).0, tt) p)
    heard t _ _ e (trace.IsCondemned b x k q) p = good_after_with t _ (dated t x k.session p) p
    heard t _ _ e (trace.IsGrantedLater ino g mode x v k i j) p =
        good_after_with t v (dated_after_granted (forget_wait ino x) ino g mode v j (dated t x k.session p)) p
    heard t _ _ e (trace.SeesDemand ino g md x k i) p =
        let y = with_cache (locks.demand x.locks ino g md).locks x in
        good_after_send ms c now Lv s life (with_session y t) x.epoch.0 0 0 (bodies.DemandSeen ino g) (λ e. cc) refl
        (good_after_with t y (dated t x k.session p) p)
    heard t _ _ e (trace.GivesUp ino g md x k i j) p = good_after_with t _ (dated t x k.session p) p
    heard t _ _ e (trace.HasGivenUp ino g md x k i j) p = good_after_with t _ (dated t x k.session p) p
    heard t _ u e (trace.IsAnswered b x q v _ r n f) p =
        let y = cr.ended_by stamp x in
        let d = dated_after_ended x (date t b r.heard.received e r.dates p) (dated t x r.heard.session p) in
        good_after_effect (with_session y v) y (cs.file_asked x.cutting q.body) q.body b u f d (good_after_with v y d (good_after_renewed t x v n p))

    pub good_after_received : (t : Turn) → G t → G (cr.receive_at now h m.body t)
    good_after_received t p = heard t m.body (cr.receive_at now h m.body t) refl (receives now h t m.body) p

-- At each server in turn.
module _ (ms : List Message) (c : ClientId) (now : Stamp) (Lv : ServerId → ℕ → Type 0)
    (on : (s : ServerId) (life : Life) → Lv s life.0 → Lv s (cl.next_life life).0) where
  -- what holds of a step so far
  pub record Held (t : ClientTurn) : Type 0 where
    pub id_ : t.state.id ≡ c
    pub all : (a : Association) → Has a t.state.associations → AssociationDated ms c a × Lv a.server a.life.0
    pub outs : Outs ms c now Lv t.out

  -- in some life
  abbrev GoodIn : ServerId → Turn → Type 0
  GoodIn s t = (life : Life) × Good ms c now Lv s life t

  abbrev AliveDated : Association → Type 0
  AliveDated a = AssociationDated ms c a × Lv a.server a.life.0

  abbrev RuleOk : (Turn → Turn) → Type 0
  RuleOk rule = (t : Turn) → Good ms c now Lv t.here.server t.here.life t → GoodIn t.here.server (rule t)

  here_dated : (s : ServerId) (life : Life) (t : Turn) → Good ms c now Lv s life t → AliveDated t.here
  here_dated s life t p = (
    subst (λ v. SessionDated ms c v t.here.life t.here.session) (sym p.server_)
        (subst (λ l. SessionDated ms c s l t.here.session) (sym p.life_) p.dated),
    subst (λ v. Lv v t.here.life.0) (sym p.server_)
        (subst (λ (l : Life). Lv s l.0) (sym p.life_) p.lives),
  )

  each : (rule : Turn → Turn) → RuleOk rule → (list : List Association) (t : ClientTurn) → ((a : Association) → Has a list → AliveDated a) → Held t → Held
      (at_these rule list t)
  unfolding at_these
  each rule ok [] t k p = p
  each rule ok (a ∷ rest) t k p = each rule ok rest (leave t (rule (enter t a))) (λ b h. k b (inr h))
      (left (ok (enter t a) (record { id_ = p.id_; server_ = refl; life_ = refl; lives = (k a (inl refl)).1; dated = (k a (inl refl)).0; outs = p.outs })))
    where
      left : GoodIn a.server (rule (enter t a)) → Held (leave t (rule (enter t a)))
      left (life, q) = record { id_ = p.id_; all = λ b h. go b (has_append t.state.associations _ b h); outs = q.outs }
        where
          go : (b : Association) → Has b t.state.associations ⊎ Has b ((rule (enter t a)).here ∷ []) → AliveDated b
          go b (inl i) = p.all b i
          go b (inr (inl e)) = subst (λ b. AssociationDated ms c b × Lv b.server b.life.0) (sym e) (here_dated a.server life _ q)
          go b (inr (inr i)) = elim i [ ]

  each_all : (rule : Turn → Turn) → RuleOk rule → (t : ClientTurn) → Held t → Held (at_each rule t)
  unfolding at_each
  each_all rule ok t p = each rule ok t.state.associations (with_associations [] t) p.all (record { id_ = p.id_; all = λ a h. elim h [ ]; outs = p.outs })

  -- losses
  lost : RuleOk (cl.lose now)
  lost t p = go (cl.lose now t) (loses now t)
    where
      s : ServerId
      s = t.here.server

      ended : (x : ClientSession) (o : Operation) (u v : Turn) → Ended x o u v → Good ms c now Lv s t.here.life u → Good ms c now Lv s t.here.life v
      ended x o u _ (losing.IsElsewhere e) q = good_after_ops ms c now Lv s t.here.life u _ q
      ended x o u _ (losing.IsUncertain e a) q = good_after_answer ms c now Lv s t.here.life u _ _ q
      ended x o u _ (losing.IsToldLost f e a b l) q = good_after_answer ms c now Lv s t.here.life (cs.with_lost_rows (pages.untold u.here.lost f.ino) u) _ _
          (good_after_lost ms c now Lv s t.here.life u _ q)
      ended x o u _ (losing.LostNothing f e a b l) q = good_after_answer ms c now Lv s t.here.life u _ _ q
      ended x o u _ (losing.IsQuiesced e a b) q = good_after_answer ms c now Lv s t.here.life u _ _ q

      go : (u : Turn) → Loses now t u → GoodIn s u
      go _ (losing.HasNoSession e) = (t.here.life, p)
      go _ (losing.Lasts x e o) = (t.here.life, p)
      go _ (losing.IsLost x u e o k) =
          let q = each_lasts (Ended x) (λ os v. Good ms c now Lv s t.here.life v) (λ o os v w step z. ended x o v w step z) t.operations
          (cs.with_operations [] (losing.loss_noted t)) u k
          (good_after_ops ms c now Lv s t.here.life _ _ (good_after_lost ms c now Lv s t.here.life _ _ (good_after_note ms c now Lv s t.here.life t _ p))) in (
            cl.next_life u.here.life,
            record {
              id_ = q.id_;
              server_ = q.server_;
              life_ = refl;
              lives = on s u.here.life
                  (subst (λ (l : Life). Lv s l.0) (sym q.life_) q.lives);
              dated = tt;
              outs = q.outs;
            },
          )

  -- a message that came
  received : (m : Message) → Has m ms → m.header.to ≡ c.0 → RuleOk (cr.receive_at now m.header m.body)
  received m among to t p = (t.here.life, good_after_received ms c now Lv t.here.server t.here.life m among to t p)

  -- a message that is an input is one of these
  abbrev pub Comes : ClientInput → Type 0
  Comes (Control m) = Has m ms
  Comes i = Unit {0}

  at_once : (t : ClientTurn) (op : ℕ) (a : AppAnswer) → Held t → Held (cl.answered_at_once t op a)
  at_once t op a p = record { id_ = p.id_; all = p.all; outs = outs_more ms c now Lv t.out _ p.outs (λ m e. absurd (no m e)) }
    where
      no : (m : Message) → outputs.Answer op a ≡ outputs.Send m → ⊥
      no m e = cc

  takes : (t : ClientTurn) (i : ClientInput) → Comes i → Held t → Held (cl.take_input t now i)
  unfolding cl.take_input cl.app cl.app_known cl.done cr.receive cr.receive_here
  takes t Tick k p = p
  takes t (App op ask) k p =
      cond_either Held (cl.is_full t.state) (cl.answered_at_once t op answers.OpsFull) (cl.app_known t op ask) (λ e. at_once t op answers.OpsFull p)
      (λ e. cond_either Held (cl.is_configured t.state (cs.server_of ask)) _ (cl.answered_at_once t op answers.NoFile)
      (λ e. each_all (only_at (cs.server_of ask) (cl.take_ask op ask)) (λ u q.
      (u.here.life, good_after_only ms c now Lv u.here.server u.here.life (cs.server_of ask) op ask u q)) t p) (λ e. at_once t op answers.NoFile p))
  takes t (Control m) k p =
      cond_either Held (m.header.to == t.state.id.0) _ t (λ e. each_all (cr.receive_at now m.header m.body)
      (received m k (eqb-true _ _ e ∙ ap (λ (x : ClientId). x.0) p.id_)) t p) (λ e. p)
  takes t (Done number result) k p = each_all (cl.finish number result)
      (λ u q. (u.here.life, good_after_finish ms c now Lv u.here.server u.here.life number result u q)) t p

  -- a whole step
  pub step_held : (x : ClientState) (i : ClientInput) → Comes i → ClientDated ms c x → ((a : Association) → Has a x.associations → Lv a.server a.life.0) → Held
      (cl.client_step x now i)
  unfolding cl.client_step cl.work cl.losses
  step_held x i k p lv =
      each_all (cp.passes now (cl.is_tick i)) (λ u q. (u.here.life, dated_after_passes ms c now Lv u.here.server u.here.life (cl.is_tick i) u q)) _
      (takes _ i k (each_all (cl.lose now) lost (client_turn x []) (record { id_ = p.id; all = λ a h. (p.all a h, lv a h); outs = λ m h. elim h [ ] })))

-- if nothing is asked of lives
abbrev pub Ever : ServerId → ℕ → Type 0
Ever s life = Unit {0}

pub ever_on : (s : ServerId) (life : Life) → Ever s life.0 → Ever s (cl.next_life life).0
ever_on s life h = tt
