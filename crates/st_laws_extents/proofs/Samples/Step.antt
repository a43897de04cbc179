-- The reads that a whole step of a client submits: the step knows that their pages lie where they go.
use Rattle.st_lemmas.proofs.Words
use Words.{◌≡◌, ℕ, ◌<◌, ◌⊎◌, Bool, true, false, List, [], ◌∷◌, refl, sym, ◌∙◌, subst, inl, inr, arith, BlockAt, Command, ClientId, Stamp, AppAnswer, Output}
use Words.{ClientInput, PageCommand}
use Words.commands
use Words.answers
use Words.outputs
use Words.io
use Words.Client as cl
use Words.ClientPages as pages
use Words.ClientPasses as cp
use Words.ClientReplies as cr
use Words.ClientState.{Association, ClientState, ClientTurn, Turn, at_each, at_these, client_turn, enter, leave, only_at, server_of, with_associations}
use Words.Lists.{Has}
use Words.Tables.{has_append, has_filter}
use Words.Lengths.{nothing_after}
use Rattle.st_laws_steps.specs.Client.Losses.{Ends, Fails, Fit, Hardens, Passes, Unknown, is_ended}
use Rattle.st_laws_pages.proofs.Flush.Adding.{AllStill}
use Rattle.st_laws_steps.specs.Client.Inputs as taking
use Rattle.st_laws_steps.specs.Client.Inputs.{Taken}
use Rattle.st_laws_steps.proofs.Client.Taking.{taken}
use Rattle.st_laws_pages.proofs.Flush.Flushing.{pair_of}
use Rattle.st_laws_steps.proofs.Client.Stepping.{LossesLeft, LostOrNot, losses_left, pairs_has}
use Rattle.st_laws_pages.proofs.Flush.Quiet.{AllQuiet, losses_quiet}
use Rattle.st_laws_extents.specs.Samples.SubmittedReads.{AllSent, Begun, Calm, KnownTo, NoneSent, ReadsSent, SentRight, StaysKnown, SubmitsNone}
use Rattle.st_laws_steps.proofs.Client.Asking.{passes_keep_or_ask}
use Rattle.st_laws_steps.proofs.Client.Losing.{Finished, calm_only, finish_is, is_done}
use Rattle.st_laws_steps.proofs.Client.Passing.{KeepsOrAsks}
use Rattle.st_laws_steps.proofs.Client.Replying.{calm_receive}
use Rattle.st_laws_extents.proofs.Samples.Calm.{both_none, both_of, changes_calm, none_said, plain_none}
use Rattle.st_laws_extents.proofs.Samples.Rules.{changes_sent}

-- The end of a command.
ends_calm : (now : Stamp) (number : ℕ) (ok : Bool) (t u : Turn) → Ends number ok t u → Calm now t u
unfolding cl.hardened pages.harden pages.harden_at pages.harden_page pages.fail pages.failed_by
ends_calm now number ok t _ Unknown = record { more = []; out = nothing_after t.out; none = none_said; next = refl; fewer = λ pc i. i }
ends_calm now number ok t _ (Passes pc e o) = record { more = []; out = nothing_after t.out; none = none_said; next = refl; fewer = λ c i. (has_filter _ t.here.store.commands c i).0 }
ends_calm now number ok t _ (Hardens pc v e o k w) = record { more = []; out = nothing_after t.out; none = none_said; next = refl; fewer = λ c i. (has_filter _ t.here.store.commands c i).0 }
ends_calm now number ok t _ (Fails pc v e o k w) = record { more = []; out = nothing_after t.out; none = none_said; next = refl; fewer = λ c i. (has_filter _ t.here.store.commands c i).0 }

finished_calm : (now : Stamp) (number : ℕ) (ok : Bool) (t u : Turn) → Finished now number ok t u → Calm now t u
finished_calm now number ok t u f = both_of now t f.mid u (ends_calm now number ok t f.mid f.ends) (changes_calm false now f.mid u f.calm)

-- One pass at one server.
module _ (now : Stamp) where
  said_one : (t u : Turn) → ReadsSent now t u → ((n : ℕ) (at to : BlockAt) → Has (outputs.Submit n at (commands.Read to)) t.out → n < t.next_command) →
      (n : ℕ) (at to : BlockAt) → Has (outputs.Submit n at (commands.Read to)) u.out → n < u.next_command
  said_one t u k f n at to i = go (has_append t.out k.more (outputs.Submit n at (commands.Read to)) (subst (Has (outputs.Submit n at (commands.Read to))) k.out i))
    where
      go : Has (outputs.Submit n at (commands.Read to)) t.out ⊎ Has (outputs.Submit n at (commands.Read to)) k.more → n < u.next_command
      go (inl j) = let z = f n at to j in let l = k.low in omega (arith, z, l)
      go (inr j) = (k.fresh n at to j).1

  -- at another server
  other_right : (t u : Turn) (b : Association) → ReadsSent now t u → SentRight t.next_command t.out b → SentRight u.next_command u.out b
  other_right t u b k h =
      record {
        below = λ pc i r. let z = h.below pc i r in let l = k.low in omega (arith, z, l);
        to = λ pc i r at to j. go pc i r at to (has_append t.out k.more (outputs.Submit pc.number at (commands.Read to)) (subst (Has (outputs.Submit pc.number at (commands.Read to))) k.out j));
      }
    where
      go : (pc : PageCommand) → Has pc b.store.commands → pc.kind ≡ io.Read → (at to : BlockAt) → Has (outputs.Submit pc.number at (commands.Read to)) t.out ⊎ Has (outputs.Submit pc.number at (commands.Read to)) k.more → KnownTo b.store pc to
      go pc i r at to (inl j) = h.to pc i r at to j
      go pc i r at to (inr j) = let z = h.below pc i r in let l = (k.fresh pc.number at to j).0 in absurd (omega (arith, z, l))

  -- at the server of the pass
  own_right : (t u : Turn) → ReadsSent now t u → ((n : ℕ) (at to : BlockAt) → Has (outputs.Submit n at (commands.Read to)) t.out → n < t.next_command) → SentRight t.next_command t.out t.here → SentRight u.next_command u.out u.here
  own_right t u k said h = record { below = λ pc i r. below pc r (k.reads pc i r); to = λ pc i r at to j. go pc r at to (k.reads pc i r) (has_append t.out k.more (outputs.Submit pc.number at (commands.Read to)) (subst (Has (outputs.Submit pc.number at (commands.Read to))) k.out j)) }
    where
      below : (pc : PageCommand) → pc.kind ≡ io.Read → (Has pc t.here.store.commands × StaysKnown t.here.store u.here.store pc) ⊎ Begun t u k.more pc → pc.number < u.next_command
      below pc r (inl w) = let z = h.below pc w.0 r in let l = k.low in omega (arith, z, l)
      below pc r (inr w) = w.high

      go : (pc : PageCommand) → pc.kind ≡ io.Read → (at to : BlockAt) → (Has pc t.here.store.commands × StaysKnown t.here.store u.here.store pc) ⊎ Begun t u k.more pc →
          Has (outputs.Submit pc.number at (commands.Read to)) t.out ⊎ Has (outputs.Submit pc.number at (commands.Read to)) k.more → KnownTo u.here.store pc to
      go pc r at to (inl w) (inl j) = let z = h.to pc w.0 r at to j in record { mapping = z.mapping; is = w.1 z.mapping z.is; at = z.at }
      go pc r at to (inl w) (inr j) = let z = h.below pc w.0 r in let l = (k.fresh pc.number at to j).0 in absurd (omega (arith, z, l))
      go pc r at to (inr w) (inl j) = let z = said pc.number at to j in let l = w.low in absurd (omega (arith, z, l))
      go pc r at to (inr w) (inr j) = w.to at to j

  -- The passes at each server in turn.
  these_sent : (rule : Turn → Turn) → ((t : Turn) → ReadsSent now t (rule t)) → (al : List Association) (t : ClientTurn) → AllSent t → ((a : Association) → Has a al → SentRight t.state.next_command t.out a) → AllSent (at_these rule al t)
  unfolding at_these
  these_sent rule k [] t h g = h
  these_sent rule k (a ∷ al) t h g =
      these_sent rule k al (leave t u)
      (record { said = said_one (enter t a) u kept h.said; right = λ b i. one b (has_append t.state.associations (u.here ∷ []) b i) })
      (λ b i. other_right (enter t a) u b kept (g b (inr i)))
    where
      u : Turn
      u = rule (enter t a)

      kept : ReadsSent now (enter t a) u
      kept = k (enter t a)

      one : (b : Association) → Has b t.state.associations ⊎ Has b (u.here ∷ []) → SentRight u.next_command u.out b
      one b (inl i) = other_right (enter t a) u b kept (h.right b i)
      one b (inr (inl e)) = subst (SentRight u.next_command u.out) (sym e) (own_right (enter t a) u kept h.said (g a (inl refl)))
      one b (inr (inr i)) = absurd i

  each_sent : (rule : Turn → Turn) → ((t : Turn) → ReadsSent now t (rule t)) → (t : ClientTurn) → AllSent t → AllSent (at_each rule t)
  unfolding at_each
  each_sent rule k t h = these_sent rule k t.state.associations (with_associations [] t) (record { said = h.said; right = λ a i. absurd i }) h.right

  -- Rules that submit nothing, at each server in turn.
  these_none : (n : ℕ) (rule : Turn → Turn) → ((t : Turn) → Fit t.here → Calm now t (rule t)) → (al : List Association) (t : ClientTurn) → ((a : Association) → Has a al → Fit a) → NoneSent n t →
      ((a : Association) → Has a al → (pc : PageCommand) → Has pc a.store.commands → pc.number < n) → NoneSent n (at_these rule al t)
  unfolding at_these
  these_none n rule k [] t f h g = h
  these_none n rule k (a ∷ al) t f h g =
      these_none n rule k al (leave t u) (λ b i. f b (inr i))
      (record {
        none = λ m at what i. said m at what (has_append t.out kept.more (outputs.Submit m at what) (subst (Has (outputs.Submit m at what)) kept.out i));
        next = kept.next ∙ h.next;
        below = λ b i. one b (has_append t.state.associations (u.here ∷ []) b i);
      }) (λ b i. g b (inr i))
    where
      u : Turn
      u = rule (enter t a)

      kept : Calm now (enter t a) u
      kept = k (enter t a) (f a (inl refl))

      said : (m : ℕ) (at : BlockAt) (what : Command) → Has (outputs.Submit m at what) t.out ⊎ Has (outputs.Submit m at what) kept.more → ⊥
      said m at what (inl i) = h.none m at what i
      said m at what (inr i) = kept.none m at what i

      one : (b : Association) → Has b t.state.associations ⊎ Has b (u.here ∷ []) → (pc : PageCommand) → Has pc b.store.commands → pc.number < n
      one b (inl i) pc j = h.below b i pc j
      one b (inr (inl e)) pc j = g a (inl refl) pc (kept.fewer pc (subst (λ (z : Association). Has pc z.store.commands) e j))
      one b (inr (inr i)) pc j = absurd i

  each_none : (n : ℕ) (rule : Turn → Turn) → ((t : Turn) → Fit t.here → Calm now t (rule t)) → (t : ClientTurn) → ((a : Association) → Has a t.state.associations → Fit a) → NoneSent n t → NoneSent n (at_each rule t)
  unfolding at_each
  each_none n rule k t f h = these_none n rule k t.state.associations (with_associations [] t) f (record { none = h.none; next = h.next; below = λ a i. absurd i }) h.below

still_none : (os : List Output) → AllStill os → SubmitsNone os
still_none [] h n at what i = absurd i
still_none (o ∷ os) h n at what (inr i) = still_none os h.rest n at what i
still_none (outputs.Submit k b w ∷ os) h n at what (inl e) = absurd h.one
still_none (outputs.Send m ∷ os) h n at what (inl e) = absurd h.one
still_none (outputs.Answer op a ∷ os) h n at what (inl e) = no e
  where
    no : outputs.Submit n at what ≡ outputs.Answer op a → ⊥
    no z = cc
still_none (outputs.Note m ∷ os) h n at what (inl e) = no e
  where
    no : outputs.Submit n at what ≡ outputs.Note m → ⊥
    no z = cc

-- The whole step.
module _ (c : ClientId) (s : ClientState) (now : Stamp) (input : ClientInput) (fit : (a : Association) → Has a s.associations → Fit a) (below : (a : Association) → Has a s.associations → (pc : PageCommand) → Has pc a.store.commands → pc.number < s.next_command) where
  abbrev t : ClientTurn
  t = cl.losses (client_turn s []) now

  abbrev N : ClientTurn → Type 0
  N x = NoneSent s.next_command x

  lost : LossesLeft c s now (client_turn s []) t
  lost = losses_left c s now (client_turn s []) refl fit

  quiet : AllQuiet (client_turn s []) t
  quiet = losses_quiet now s

  fit_t : (a : Association) → Has a t.state.associations → Fit a
  fit_t = pairs_has (LostOrNot s.config now) Fit Fit (λ a b r. r.fit) s.associations t.state.associations lost.pairs fit

  below_t : (b : Association) → Has b t.state.associations → (pc : PageCommand) → Has pc b.store.commands → pc.number < s.next_command
  below_t b i pc j = go (pair_of (LostOrNot s.config now) s.associations t.state.associations lost.pairs b i)
    where
      go : (a : Association) × Has a s.associations × LostOrNot s.config now a b → pc.number < s.next_command
      go (a, m, r) = by (is_ended s.config now a.session) refl
        where
          by : (x : Bool) → is_ended s.config now a.session ≡ x → pc.number < s.next_command
          by false e = below a m pc (subst (λ (z : Association). Has pc z.store.commands) (sym (r.lasts e)) j)
          by true e = absurd (none (subst (λ (st : pages.Store). Has pc st.commands) (r.emptied e) j))
            where
              none : Has pc [] → ⊥
              none z = z

  begins : N t
  begins = record { none = subst SubmitsNone (sym quiet.out) (still_none quiet.more quiet.still); next = quiet.next; below = below_t }

  answered : (op : ℕ) (a : AppAnswer) → N (cl.answered_at_once t op a)
  answered op a = record { none = both_none t.out (outputs.Answer op a ∷ []) begins.none (plain_none (outputs.Answer op a) tt); next = begins.next; below = begins.below }

  input_none : (i : ClientInput) (u : ClientTurn) → Taken t now i u → N u
  input_none _ _ (taking.Nothing i) = begins
  input_none _ _ (taking.Full op ask e) = answered op answers.OpsFull
  input_none _ _ (taking.Unknown op ask e f) = answered op answers.NoFile
  input_none _ _ (taking.Takes op ask e f) = each_none now s.next_command (only_at (server_of ask) (cl.take_ask op ask)) (λ x f. changes_calm false now x _ (calm_only now (server_of ask) op ask x)) t fit_t begins
  input_none _ _ (taking.Receives m e) = each_none now s.next_command (cr.receive_at now m.header m.body) (λ y f. changes_calm true now y _ (calm_receive now m.header m.body y f.fresh)) t fit_t begins
  input_none _ _ (taking.Finishes number result) =
      each_none now s.next_command (cl.finish number result) (λ y f. finished_calm now number (is_done result) y (cl.finish number result y) (finish_is now number result y)) t fit_t begins

  -- nothing was submitted, so all that was is right
  from_none : (x : ClientTurn) → N x → AllSent x
  from_none x h =
      record {
        said = λ n at to i. absurd (h.none n at (commands.Read to) i);
        right = λ a i. record { below = λ pc j r. let z = h.below a i pc j in let e = h.next in omega (arith, z, e); to = λ pc j r at to k. absurd (h.none pc.number at (commands.Read to) k) };
      }

  pub all_sent : AllSent (cl.client_step s now input)
  unfolding cl.client_step cl.work
  all_sent = each_sent now (cp.passes now (cl.is_tick input)) (λ x. changes_sent x.operations KeepsOrAsks now x _ (passes_keep_or_ask now (cl.is_tick input) x)) (cl.take_input t now input) (from_none (cl.take_input t now input) (input_none input (cl.take_input t now input) (taken t now input)))
