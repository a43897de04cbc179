-- What a step of a client notes as changed, at each of its servers in turn.
use Rattle.st_lemmas.proofs.Words
use Words.{◌≡◌, ℕ, Bool, true, false, List, [], ◌∷◌, ◌++◌, Option, Some, None, refl, sym, ap, ◌∙◌, subst, inl, inr, if◌then◌else◌, Config, Tag, ClientId}
use Words.{FileId, PageNo, Stamp, Ask, AppAnswer, Output, ClientInput, Operation, append_assoc}
use Words.asks
use Words.answers
use Words.outputs
use Words.ClientPages as pages
use Words.ClientState.{ClientSession, Association, ClientState, ClientTurn, Turn, client_turn, enter, leave, at_these, at_each, with_associations, only_at}
use Words.ClientState.{server_of, is_sent}
use Words.ClientPasses as cp
use Words.ClientReplies as cr
use Words.Client as cl
use Words.Lists.{Has}
use Words.Lengths.{nothing_after}
use Rattle.st_laws_steps.specs.Client.Losses.{Fit, Ends, Unknown, Passes, Hardens, Fails}
use Rattle.st_laws_steps.specs.Lives.Lives.{Pairwise}
use Rattle.st_laws_steps.specs.Client.Notes.{NotesAll, IsChanged, IsChangedAt}
use Rattle.st_laws_steps.specs.Client.Inputs as taking
use Rattle.st_laws_steps.specs.Client.Inputs.{Taken}
use Rattle.st_laws_steps.proofs.Client.Asking.{changes_by_passes}
use Rattle.st_laws_steps.proofs.Client.Replying.{changes_by_receive}
use Rattle.st_laws_steps.proofs.Client.Losing.{changes_by_only, Finished, finish_is, is_done, rest_of}
use Rattle.st_laws_steps.proofs.Client.Stepping.{Phased, StaysChanged, changes_last, phased}
use Rattle.st_laws_steps.proofs.Client.Taking.{taken}
use Rattle.st_laws_steps.proofs.Client.Dirtying.{Dirtied, changes_dirty, notes_both, notes_map}

-- nothing is noted as changed
abbrev Quiet : List Output → Type 0
Quiet os = NotesAll (λ f p. ⊥) os

quiet_as : (Q : FileId → PageNo → Type 0) (os : List Output) → Quiet os → NotesAll Q os
quiet_as Q os q = notes_map (λ f p. ⊥) Q (λ f p z. absurd z) os q

-- more was said, and what of it
record More (P : List Output → Type 0) (os ps : List Output) : Type 0 where
  pub more : List Output
  pub out : ps ≡ os ++ more
  pub is : P more

quiet_none : (os : List Output) → More Quiet os os
quiet_none os = record { more = []; out = nothing_after os; is = record {} }

quiet_then : (os ps qs : List Output) → More Quiet os ps → More Quiet ps qs → More Quiet os qs
quiet_then os ps qs a b = record { more = a.more ++ b.more; out = b.out ∙ ap (λ z. z ++ b.more) a.out ∙ append_assoc os a.more b.more; is = notes_both (λ f p. ⊥) a.more b.more a.is b.is }

quiet_answer : (os : List Output) (op : ℕ) (a : AppAnswer) → More Quiet os (os ++ outputs.Answer op a ∷ [])
quiet_answer os op a = record { more = outputs.Answer op a ∷ []; out = refl; is = record { one = tt; rest = record {} } }

-- The losses note no change.
end_quiet : (t : Turn) (s : ClientSession) (o : Operation) → More Quiet t.out (cl.end_operation t s o).out
unfolding cl.end_operation cl.end_unsent cl.end_sync cl.tell_lost
end_quiet t s o = go (is_sent o)
  where
    lost : (f : FileId) (b : Bool) → More Quiet t.out (if b then cl.tell_lost t o.op f.ino else Rattle.st_rules.specs.ClientState.answered t o.op answers.Quiesced).out
    lost f true = quiet_answer t.out o.op _
    lost f false = quiet_answer t.out o.op _

    unsent : (a : Ask) → More Quiet t.out (cl.end_unsent t o a).out
    unsent (asks.Sync f) = lost f (pages.has_lost t.here.lost f.ino)
    unsent a = quiet_answer t.out o.op _

    go : (b : Bool) → More Quiet t.out (if b then Rattle.st_rules.specs.ClientState.answered t o.op (answers.Uncertain s.epoch.0 0) else cl.end_unsent t o o.ask).out
    go true = quiet_answer t.out o.op _
    go false = unsent o.ask

end_each_quiet : (s : ClientSession) (os : List Operation) (t : Turn) → More Quiet t.out (cl.end_each s os t).out
unfolding cl.end_each
end_each_quiet s [] t = quiet_none t.out
end_each_quiet s (o ∷ os) t = quiet_then t.out (cl.end_operation t s o).out _ (end_quiet t s o) (end_each_quiet s os (cl.end_operation t s o))

lose_quiet : (now : Stamp) (t : Turn) → More Quiet t.out (cl.lose now t).out
unfolding cl.lose cl.lose_by cl.lose_over cl.lose_session cl.end_operations
lose_quiet now t = go t.here.session
  where
    over : (s : ClientSession) (b : Bool) → More Quiet t.out (if b then cl.lose_session t s else t).out
    over s true = quiet_then t.out (t.out ++ _ ∷ []) _ (record { more = _ ∷ []; out = refl; is = record { one = tt; rest = record {} } }) (end_each_quiet s _ _)
    over s false = quiet_none t.out

    go : (x : Option ClientSession) → More Quiet t.out (cl.lose_by t now x).out
    go None = quiet_none t.out
    go (Some s) = over s (cl.is_over t s now)

-- A rule at each server.
record NotedThese (k : Config) (now : Stamp) (t u : ClientTurn) : Type 0 where
  pub left : List Association
  pub is : u.state.associations ≡ t.state.associations ++ left
  pub more : List Output
  pub out : u.out ≡ t.out ++ more
  pub noted : NotesAll (IsChangedAt k now left) more

noted_these : (k : Config) (now : Stamp) (rule : Turn → Turn) → ((t : Turn) → t.config ≡ k → Fit t.here → More (NotesAll (IsChanged k now (rule t).here)) t.out (rule t).out) →
    (al : List Association) (t : ClientTurn) → t.state.config ≡ k → ((a : Association) → Has a al → Fit a) → NotedThese k now t (at_these rule al t)
unfolding at_these
noted_these k now rule step [] t c f = record { left = []; is = nothing_after t.state.associations; more = []; out = nothing_after t.out; noted = record {} }
noted_these k now rule step (a ∷ al) t c f = go (step (enter t a) c (f a (inl refl))) (noted_these k now rule step al (leave t (rule (enter t a))) c (λ b h. f b (inr h)))
  where
    u : Turn
    u = rule (enter t a)

    go : More (NotesAll (IsChanged k now u.here)) t.out u.out → NotedThese k now (leave t u) (at_these rule al (leave t u)) → NotedThese k now t (at_these rule al (leave t u))
    go m r =
        record {
          left = u.here ∷ r.left;
          is = r.is ∙ append_assoc t.state.associations (u.here ∷ []) r.left;
          more = m.more ++ r.more;
          out = r.out ∙ ap (λ z. z ++ r.more) m.out ∙ append_assoc t.out m.more r.more;
          noted =
              notes_both (IsChangedAt k now (u.here ∷ r.left)) m.more r.more (notes_map (IsChanged k now u.here) (IsChangedAt k now (u.here ∷ r.left)) (λ g p z. (u.here, inl refl, z)) m.more m.is)
              (notes_map (IsChangedAt k now r.left) (IsChangedAt k now (u.here ∷ r.left)) (λ g p z. (z.0, inr z.1, z.2)) r.more r.noted);
        }

record NotedAll (k : Config) (now : Stamp) (t u : ClientTurn) : Type 0 where
  pub more : List Output
  pub out : u.out ≡ t.out ++ more
  pub noted : NotesAll (IsChangedAt k now u.state.associations) more

noted_each : (now : Stamp) (rule : Turn → Turn) (t : ClientTurn) → ((u : Turn) → Fit u.here → More (NotesAll (IsChanged u.config now (rule u).here)) u.out (rule u).out) → ((a : Association) → Has a t.state.associations → Fit a) → NotedAll t.state.config now t (at_each rule t)
unfolding at_each
noted_each now rule t step f = go (noted_these t.state.config now rule (λ u e p. subst (λ k. More (NotesAll (IsChanged k now (rule u).here)) u.out (rule u).out) e (step u p)) t.state.associations (with_associations [] t) refl f)
  where
    go : NotedThese t.state.config now (with_associations [] t) (at_these rule t.state.associations (with_associations [] t)) → NotedAll t.state.config now t (at_these rule t.state.associations (with_associations [] t))
    go r = record { more = r.more; out = r.out; noted = subst (λ z. NotesAll (IsChangedAt t.state.config now z) r.more) (sym r.is) r.noted }

dirtied_more : (now : Stamp) (t u : Turn) → Dirtied now t u → More (NotesAll (IsChanged t.config now u.here)) t.out u.out
dirtied_more now t u d = record { more = d.more; out = d.out; is = d.noted }

-- the end of a command says nothing
ends_silent : (number : ℕ) (ok : Bool) (t u : Turn) → Ends number ok t u → (u.out ≡ t.out) × (u.config ≡ t.config)
unfolding cl.hardened
ends_silent number ok t _ Unknown = (refl, refl)
ends_silent number ok t _ (Passes c e o) = (refl, refl)
ends_silent number ok t _ (Hardens c v e o k w) = (refl, refl)
ends_silent number ok t _ (Fails c v e o k w) = (refl, refl)

finish_more : (now : Stamp) (number : ℕ) (result : Option (Option (Tag × List ℕ))) (t : Turn) → More (NotesAll (IsChanged t.config now (cl.finish number result t).here)) t.out (cl.finish number result t).out
finish_more now number result t = go (finish_is now number result t)
  where
    go : Finished now number (is_done result) t (cl.finish number result t) → More (NotesAll (IsChanged t.config now (cl.finish number result t).here)) t.out (cl.finish number result t).out
    go f =
        let e = ends_silent number (is_done result) t f.mid f.ends in
        subst (λ os. More (NotesAll (IsChanged t.config now (cl.finish number result t).here)) os (cl.finish number result t).out) e.0
        (subst (λ k. More (NotesAll (IsChanged k now (cl.finish number result t).here)) f.mid.out (cl.finish number result t).out) e.1 (dirtied_more now f.mid _ (changes_dirty now f.mid (cl.finish number result t) (rest_of f))))

-- The input.
quiet_all : (k : Config) (now : Stamp) (t u : ClientTurn) → More Quiet t.out u.out → NotedAll k now t u
quiet_all k now t u m = record { more = m.more; out = m.out; noted = quiet_as (IsChangedAt k now u.state.associations) m.more m.is }

input_noted : (now : Stamp) (input : ClientInput) (t u : ClientTurn) → Taken t now input u → ((a : Association) → Has a t.state.associations → Fit a) →
    NotedAll t.state.config now t u
input_noted now _ t _ (taking.Nothing i) f = quiet_all t.state.config now t t (quiet_none t.out)
input_noted now _ t _ (taking.Full op ask e) f = quiet_all t.state.config now t (cl.answered_at_once t op answers.OpsFull) (quiet_answer t.out op answers.OpsFull)
input_noted now _ t _ (taking.Unknown op ask e g) f = quiet_all t.state.config now t (cl.answered_at_once t op answers.NoFile) (quiet_answer t.out op answers.NoFile)
input_noted now _ t _ (taking.Takes op ask e g) f = noted_each now (only_at (server_of ask) (cl.take_ask op ask)) t (λ u p. dirtied_more now u _ (changes_dirty now u _ (changes_by_only now (server_of ask) op ask u))) f
input_noted now _ t _ (taking.Receives m e) f = noted_each now (cr.receive_at now m.header m.body) t (λ u p. dirtied_more now u _ (changes_dirty now u _ (changes_by_receive now m.header m.body u p.fresh))) f
input_noted now _ t _ (taking.Finishes number result) f = noted_each now (cl.finish number result) t (λ u p. finish_more now number result u) f

losses_quiet : (now : Stamp) (al : List Association) (t : ClientTurn) → More Quiet t.out (at_these (cl.lose now) al t).out
unfolding at_these
losses_quiet now [] t = quiet_none t.out
losses_quiet now (a ∷ al) t = quiet_then t.out (leave t (cl.lose now (enter t a))).out _ (lose_quiet now (enter t a)) (losses_quiet now al (leave t (cl.lose now (enter t a))))

pub pair_has : (R : Association → Association → Type 0) (al bl : List Association) → Pairwise R al bl → (a : Association) → Has a al →
    (b : Association) × Has b bl × R a b
pair_has R [] bl p a h = absurd h
pair_has R (x ∷ al) [] p a h = absurd p
pair_has R (x ∷ al) (y ∷ bl) p a (inl e) = (y, inl refl, subst (λ z. R z y) (sym e) p.one)
pair_has R (x ∷ al) (y ∷ bl) p a (inr h) = let z = pair_has R al bl p.rest a h in (z.0, inr z.1, z.2)

-- All that a step notes as changed is dirty after it, under a lease that is not over.
pub step_notes : (c : ClientId) (s : ClientState) (now : Stamp) (input : ClientInput) → ((a : Association) → Has a s.associations → Fit a) → NotesAll (IsChangedAt s.config now (cl.client_step s now input).state.associations) (cl.client_step s now input).out
unfolding cl.client_step cl.work cl.losses at_each
step_notes c s now input f = go (losses_quiet now s.associations (with_associations [] (client_turn s []))) (phased c s now input f)
  where
    t : ClientTurn
    t = cl.losses (client_turn s []) now

    u : ClientTurn
    u = cl.take_input t now input

    v : ClientTurn
    v = cl.work u now input

    go : More Quiet [] t.out → Phased c s now t u v → NotesAll (IsChangedAt s.config now v.state.associations) v.out
    go q r = received (input_noted now input t u (taken t now input) r.fit) (noted_each now (cp.passes now (cl.is_tick input)) u (λ x p. dirtied_more now x _ (changes_dirty now x _ (changes_by_passes now (cl.is_tick input) x))) r.fit_too)
      where
        received : NotedAll t.state.config now t u → NotedAll u.state.config now u v → NotesAll (IsChangedAt s.config now v.state.associations) v.out
        received i w =
            subst (NotesAll (IsChangedAt s.config now v.state.associations)) (sym (w.out ∙ ap (λ z. z ++ w.more) (i.out ∙ ap (λ z. z ++ i.more) q.out)))
            (notes_both (IsChangedAt s.config now v.state.associations) (q.more ++ i.more) w.more
            (notes_both (IsChangedAt s.config now v.state.associations) q.more i.more (quiet_as (IsChangedAt s.config now v.state.associations) q.more q.is)
            (notes_map (IsChangedAt t.state.config now u.state.associations) (IsChangedAt s.config now v.state.associations) (λ g p z. last g p (subst (λ k. IsChangedAt k now u.state.associations g p) (sym r.lost.config) z)) i.more i.noted))
            (subst (λ k. NotesAll (IsChangedAt k now v.state.associations) w.more) (sym (r.lost.config ∙ r.received.config)) w.noted))
          where
            last : (g : FileId) (p : PageNo) → IsChangedAt s.config now u.state.associations g p → IsChangedAt s.config now v.state.associations g p
            last g p (a, h, z) = let y = pair_has (StaysChanged s.config now) u.state.associations v.state.associations (changes_last c s now input t u r) a h in (y.0, y.1, y.2 g p z)
