-- What a client says of a demand is said by the whole step: nothing that is said is taken back.
use Rattle.st_lemmas.proofs.Words
use Words.{◌≡◌, ℕ, Bool, false, ◌==◌, List, [], ◌∷◌, Option, Some, None, refl, sym, ap, ◌∙◌, subst, inl, inr, eq-eqb, ClientId, GrantNo, Stamp, Mode}
use Words.{Header, Message, Output}
use Words.bodies
use Words.outputs
use Words.inputs
use Words.Client as cl
use Words.ClientLocks as locks
use Words.ClientPasses as cp
use Words.ClientReplies as cr
use Words.ClientState.{Association, ClientSession, ClientState, ClientTurn, Turn, at_each, at_these, client_turn, enter, leave, send, with_associations, with_cache}
use Words.Lists.{Has}
use Words.Tables.{cond_either}
use Words.Truth.{not_both}
use Rattle.st_rules.specs.declared.client.Asked.{Asked}
use Rattle.st_rules.specs.declared.client.Asked.TheVariants.{Reduce, NotHeld, Stale}
use Words.Members.{has_left}
use Rattle.st_laws_steps.specs.Client.Losses.{Fit, is_ended}
use Rattle.st_laws_steps.specs.Lives.Lives.{Pairwise}
use Rattle.st_laws_steps.proofs.Client.Asking.{changes_by_passes}
use Rattle.st_laws_steps.proofs.Client.Nexts.{changes_next}
use Rattle.st_laws_steps.proofs.Client.Stepping.{LossesLeft, LostOrNot, losses_left}

-- a rule that takes nothing back, at each server in turn
module _ (rule : Turn → Turn) (grows : (u : Turn) (o : Output) → Has o u.out → Has o (rule u).out) where
  these_grow : (al : List Association) (t : ClientTurn) (o : Output) → Has o t.out → Has o (at_these rule al t).out
  unfolding at_these
  these_grow [] t o h = h
  these_grow (a ∷ al) t o h = these_grow al (leave t (rule (enter t a))) o (grows (enter t a) o h)

  each_grows : (t : ClientTurn) (o : Output) → Has o t.out → Has o (at_each rule t).out
  unfolding at_each
  each_grows t o h = these_grow t.state.associations (with_associations [] t) o h

  these_say : (al : List Association) (t : ClientTurn) (a : Association) (o : Output) → Has a al →
      ((u : Turn) → u.here ≡ a → u.id ≡ t.state.id → Has o (rule u).out) → Has o (at_these rule al t).out
  unfolding at_these
  these_say [] t a o h f = absurd h
  these_say (x ∷ al) t a o (inl e) f = these_grow al (leave t (rule (enter t x))) o (f (enter t x) (sym e) refl)
  these_say (x ∷ al) t a o (inr h) f = these_say al (leave t (rule (enter t x))) a o h f

  each_says : (t : ClientTurn) (a : Association) (o : Output) → Has a t.state.associations →
      ((u : Turn) → u.here ≡ a → u.id ≡ t.state.id → Has o (rule u).out) → Has o (at_each rule t).out
  unfolding at_each
  each_says t a o h f = these_say t.state.associations (with_associations [] t) a o h f

passes_grow : (now : Stamp) (tick : Bool) (u : Turn) (o : Output) → Has o u.out → Has o (cp.passes now tick u).out
passes_grow now tick u o h =
    let z = changes_next now u (cp.passes now tick u) (changes_by_passes now tick u) in subst (Has o) (sym z.out) (has_left u.out z.more o h)

demand_grows : (now : Stamp) (h : Header) (ino : ℕ) (g : GrantNo) (to : Mode) (u : Turn) (o : Output) → Has o u.out →
    Has o (cr.receive_at now h (bodies.Demand ino g to) u).out
unfolding cr.receive_at cr.by_session cr.without_session cr.with_a_session cr.of_epoch cr.of_other_epoch cr.demand cr.demand_by cr.demand_as cr.observe_demand send
demand_grows now h ino g to u o j =
    cond_either G (cr.is_received u now h) (cr.by_session u now h (bodies.Demand ino g to) u.here.session) u (λ e. by u.here.session) (λ e. j)
  where
    G : Turn → Type 0
    G v = Has o v.out

    sees : (s : ClientSession) (k : Asked) → G (cr.demand_as u s ino g k)
    sees s Reduce = has_left u.out (outputs.Send _ ∷ []) o j
    sees s NotHeld = j
    sees s Stale = j

    by : (x : Option ClientSession) → G (cr.by_session u now h (bodies.Demand ino g to) x)
    by None = j
    by (Some s) =
        cond_either G (h.epoch == s.epoch.0) (cr.of_epoch u s now h (bodies.Demand ino g to))
        (cr.of_other_epoch u s (record { 0 = h.epoch }) (bodies.Demand ino g to))
        (λ e. sees (with_cache (locks.demand s.locks ino g to).locks s) (locks.demand s.locks ino g to).asked) (λ e. j)

-- each of one list has a partner in the other
paired : (R : Association → Association → Type 0) (al bs : List Association) → Pairwise R al bs → (a : Association) → Has a al →
    (b : Association) × Has b bs × R a b
paired R [] bs p a h = absurd h
paired R (x ∷ xs) [] p a h = absurd p
paired R (x ∷ xs) (y ∷ ys) p a (inl e) = (y, inl refl, subst (λ z. R z y) (sym e) p.one)
paired R (x ∷ xs) (y ∷ ys) p a (inr h) = let z = paired R xs ys p.rest a h in (z.0, inr z.1, z.2)

module _ (s : ClientState) (now : Stamp) (m : Message) (fit : (a : Association) → Has a s.associations → Fit a) (to_it : m.header.to ≡ s.id.0)
    (ino : ℕ) (g : GrantNo) (to : Mode) (body : m.body ≡ bodies.Demand ino g to) where
  abbrev t1 : ClientTurn
  t1 = cl.losses (client_turn s []) now

  lost : LossesLeft s.id s now (client_turn s []) t1
  lost = losses_left s.id s now (client_turn s []) refl fit

  -- what an association whose lease lasts says to a demand, the step says
  pub demand_said : (a : Association) → Has a s.associations → is_ended s.config now a.session ≡ false → (o : Output) →
      ((u : Turn) → u.here ≡ a → u.id ≡ s.id → Has o (cr.receive_at now m.header (bodies.Demand ino g to) u).out) →
      Has o (cl.client_step s now (inputs.Control m)).out
  unfolding cl.client_step cl.work cl.take_input cr.receive cr.receive_here
  demand_said a h lasts o f =
      each_grows (cp.passes now false) (passes_grow now false) (cr.receive t1 now m.header m.body) o
      (subst (λ b. Has o (cr.receive t1 now m.header b).out) (sym body) said)
    where
      pair : (b : Association) × Has b t1.state.associations × LostOrNot s.config now a b
      pair = paired (LostOrNot s.config now) s.associations t1.state.associations lost.pairs a h

      there : Has a t1.state.associations
      there = subst (λ (x : Association). Has x t1.state.associations) (sym (pair.2.lasts lasts)) pair.1

      said : Has o (cr.receive t1 now m.header (bodies.Demand ino g to)).out
      said =
          cond_either (λ (t : ClientTurn). Has o t.out) (m.header.to == t1.state.id.0) (at_each (cr.receive_at now m.header (bodies.Demand ino g to)) t1) t1
          (λ e. each_says (cr.receive_at now m.header (bodies.Demand ino g to)) (demand_grows now m.header ino g to) t1 a o there (λ u e q. f u e (q ∙ sym lost.id)))
          (λ e. absurd (not_both (m.header.to == t1.state.id.0) (eq-eqb m.header.to t1.state.id.0 (to_it ∙ ap (λ (x : ClientId). x.0) lost.id)) e))
