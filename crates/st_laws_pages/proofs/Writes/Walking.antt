-- Outstanding writes through a whole step of a client, and what it submits.
use Rattle.st_lemmas.proofs.Words
use Words.{◌≡◌, ℕ, ◌⊎◌, Bool, true, false, List, [], ◌∷◌, ◌++◌, Option, Some, None, refl, sym, ◌∙◌, subst, inl, inr, if◌then◌else◌, Config, BlockAt, Tag}
use Words.{ClientId, Stamp, AppAnswer, Ask, Output, ClientInput, Operation}
use Words.answers
use Words.asks
use Words.notes
use Words.outputs
use Words.inputs
use Words.ClientPages as pages
use Words.ClientPasses as cp
use Words.ClientReplies as cr
use Words.Client as cl
use Words.ClientState as state
use Words.ClientState.{Association, ClientState, ClientSession, ClientTurn, Turn, client_turn, enter, leave, at_these, at_each, with_associations, only_at}
use Words.ClientState.{server_of, is_sent}
use Words.Lists.{Has}
use Words.Tables.{has_append}
use Words.Members.{has_last, has_left}
use Rattle.st_laws_steps.specs.Client.Losses.{Fit, is_ended}
use Rattle.st_laws_steps.specs.Client.Inputs as taking
use Rattle.st_laws_steps.specs.Client.Inputs.{Taken}
use Rattle.st_laws_steps.specs.Lives.Lives.{Pairwise}
use Rattle.st_laws_steps.proofs.Client.Nexts.{changes_next}
use Rattle.st_laws_steps.proofs.Client.Asking.{changes_by_passes}
use Rattle.st_laws_steps.proofs.Client.Replying.{changes_by_receive}
use Rattle.st_laws_steps.proofs.Client.Losing.{changes_by_only, finish_is, is_done}
use Rattle.st_laws_steps.proofs.Client.Noting.{pair_has}
use Rattle.st_laws_steps.proofs.Client.Stepping.{each, LostOrNot, Phased, finish_next, pairs_then, pairs_has, pairs_same, phased}
use Rattle.st_laws_steps.proofs.Client.Taking.{taken}
use Rattle.st_laws_pages.specs.Writes.Writes.{IsListed, WritesOnce}
use Rattle.st_laws_pages.proofs.Writes.Listing.{Keeps, NoneEnds, write_said, changes_keep, finished_keeps}

-- An association goes on: its life is the same, and its outstanding writes stay, except for those that end.
pub record FollowsOn (E : ℕ → Type 0) (a b : Association) : Type 0 where
  pub server : a.server ≡ b.server
  pub life : a.life ≡ b.life
  pub stays : (n : ℕ) (tag : Tag) → (E n → ⊥) → IsListed a n tag → IsListed b n tag

-- a rule of this kind
record RuleKeeps (E : ℕ → Type 0) (t u : Turn) : Type 0 where
  keeps : Keeps E t u
  server : t.here.server ≡ u.here.server
  life : t.here.life ≡ u.here.life

abbrev RuleIs : (Association → Type 0) → (ℕ → Type 0) → (Turn → Turn) → Type 0
RuleIs P E rule = (t : Turn) → P t.here → RuleKeeps E t (rule t)

-- what is known of an association whose command ends
record FitOnce (a : Association) : Type 0 where
  fit : Fit a
  once : WritesOnce a

-- each write that is submitted since is outstanding at an association
abbrev pub ListedAt : List Association → ℕ → Tag → Type 0
ListedAt al n tag = (b : Association) × Has b al × IsListed b n tag

record AllKeep (E : ℕ → Type 0) (t u : ClientTurn) : Type 0 where
  pairs : Pairwise (FollowsOn E) t.state.associations u.state.associations
  said : (n : ℕ) (at to : BlockAt) (tag : Tag) (bytes : List ℕ) → Has (write_said n at to tag bytes) u.out → Has (write_said n at to tag bytes) t.out ⊎ ListedAt u.state.associations n tag

these_hold : (rule : Turn → Turn) (al : List Association) (t : ClientTurn) (b : Association) → Has b t.state.associations → Has b (at_these rule al t).state.associations
unfolding at_these
these_hold rule [] t b i = i
these_hold rule (a ∷ al) t b i = these_hold rule al (leave t (rule (enter t a))) b (has_left t.state.associations ((rule (enter t a)).here ∷ []) b i)

these_said : (P : Association → Type 0) (E : ℕ → Type 0) (rule : Turn → Turn) → RuleIs P E rule → (al : List Association) (t : ClientTurn) → ((a : Association) → Has a al → P a) →
    (n : ℕ) (at to : BlockAt) (tag : Tag) (bytes : List ℕ) → Has (write_said n at to tag bytes) (at_these rule al t).out → Has (write_said n at to tag bytes) t.out ⊎ ListedAt (at_these rule al t).state.associations n tag
unfolding at_these
these_said P E rule k [] t f n at to tag bytes i = inl i
these_said P E rule k (a ∷ al) t f n at to tag bytes i = go (these_said P E rule k al (leave t u) (λ b j. f b (inr j)) n at to tag bytes i)
  where
    u : Turn
    u = rule (enter t a)

    end : ClientTurn
    end = at_these rule al (leave t u)

    one : Has (write_said n at to tag bytes) t.out ⊎ IsListed u.here n tag → Has (write_said n at to tag bytes) t.out ⊎ ListedAt end.state.associations n tag
    one (inl j) = inl j
    one (inr h) = inr (u.here, these_hold rule al (leave t u) u.here (has_last t.state.associations u.here), h)

    go : Has (write_said n at to tag bytes) u.out ⊎ ListedAt end.state.associations n tag → Has (write_said n at to tag bytes) t.out ⊎ ListedAt end.state.associations n tag
    go (inr h) = inr h
    go (inl j) = one ((k (enter t a) (f a (inl refl))).keeps.said n at to tag bytes j)

each_said : (P : Association → Type 0) (E : ℕ → Type 0) (rule : Turn → Turn) → RuleIs P E rule → (t : ClientTurn) → ((a : Association) → Has a t.state.associations → P a) →
    (n : ℕ) (at to : BlockAt) (tag : Tag) (bytes : List ℕ) → Has (write_said n at to tag bytes) (at_each rule t).out → Has (write_said n at to tag bytes) t.out ⊎ ListedAt (at_each rule t).state.associations n tag
unfolding at_each
each_said P E rule k t f n at to tag bytes i = these_said P E rule k t.state.associations (with_associations [] t) f n at to tag bytes i

each_keeps : (P : Association → Type 0) (E : ℕ → Type 0) (rule : Turn → Turn) → RuleIs P E rule → (t : ClientTurn) → ((a : Association) → Has a t.state.associations → P a) → AllKeep E t (at_each rule t)
each_keeps P E rule k t f =
    record {
      pairs = (each P (FollowsOn E) (λ a. []) (λ os. []) rule t (λ u e p. let z = k u p in record { one = record { server = z.server; life = z.life; stays = z.keeps.stays }; said = refl }) f).pairs;
      said = each_said P E rule k t f;
    }

-- a rule that is a list of changes
changes_rule : (now : Stamp) (t u : Turn) → Rattle.st_laws_steps.specs.Client.Client.Changes now t u → RuleKeeps NoneEnds t u
changes_rule now t u c = let n = changes_next now t u c in record { keeps = changes_keep now t u c; server = n.server; life = n.life }

-- what an input ends
abbrev pub EndedBy : ClientInput → ℕ → Type 0
EndedBy (inputs.Done number result) n = n ≡ number
EndedBy input n = ⊥

same_on : (E : ℕ → Type 0) (a : Association) → FollowsOn E a a
same_on E a = record { server = refl; life = refl; stays = λ n tag f h. h }

input_keeps : (now : Stamp) (input : ClientInput) (t u : ClientTurn) → Taken t now input u → ((a : Association) → Has a t.state.associations → Fit a) →
    ((a : Association) → Has a t.state.associations → WritesOnce a) → AllKeep (EndedBy input) t u
input_keeps now _ t _ k f o = go _ _ k
  where
    at_once : (op : ℕ) (a : AppAnswer) → AllKeep NoneEnds t (cl.answered_at_once t op a)
    at_once op a = record { pairs = pairs_same (FollowsOn NoneEnds) (same_on NoneEnds) t.state.associations; said = said }
      where
        said : (n : ℕ) (at to : BlockAt) (tag : Tag) (bytes : List ℕ) → Has (write_said n at to tag bytes) (cl.answered_at_once t op a).out → Has (write_said n at to tag bytes) t.out ⊎ ListedAt t.state.associations n tag
        said n at to tag bytes i = go (has_append t.out (outputs.Answer op a ∷ []) (write_said n at to tag bytes) i)
          where
            no : write_said n at to tag bytes ≡ outputs.Answer op a → ⊥
            no z = cc

            go : Has (write_said n at to tag bytes) t.out ⊎ Has (write_said n at to tag bytes) (outputs.Answer op a ∷ []) → Has (write_said n at to tag bytes) t.out ⊎ ListedAt t.state.associations n tag
            go (inl j) = inl j
            go (inr (inl e)) = absurd (no e)
            go (inr (inr j)) = absurd j

    go : (i : ClientInput) (u : ClientTurn) → Taken t now i u → AllKeep (EndedBy i) t u
    go _ _ (taking.Nothing i) = record { pairs = pairs_same (FollowsOn (EndedBy i)) (same_on (EndedBy i)) t.state.associations; said = λ n at to tag bytes j. inl j }
    go _ _ (taking.Full op ask e) = at_once op answers.OpsFull
    go _ _ (taking.Unknown op ask e g) = at_once op answers.NoFile
    go _ _ (taking.Takes op ask e g) = each_keeps Fit NoneEnds (only_at (server_of ask) (cl.take_ask op ask)) (λ u p. changes_rule now u _ (changes_by_only now (server_of ask) op ask u)) t f
    go _ _ (taking.Receives m e) = each_keeps Fit NoneEnds (cr.receive_at now m.header m.body) (λ u p. changes_rule now u _ (changes_by_receive now m.header m.body u p.fresh)) t f
    go _ _ (taking.Finishes number result) =
        each_keeps FitOnce (λ n. n ≡ number) (cl.finish number result)
        (λ u p. let n = finish_next now number result u in record { keeps = finished_keeps now number (is_done result) u (cl.finish number result u) p.once (finish_is now number result u); server = n.server; life = n.life }) t
        (λ a i. record { fit = f a i; once = o a i })

-- The losses submit nothing.
abbrev SilentOne : Output → Type 0
SilentOne (outputs.Submit n at what) = ⊥
SilentOne o = Unit {0}

abbrev Silent : List Output → Type 0
Silent [] = Unit {0}
Silent (o ∷ os) = record { one : SilentOne o; rest : Silent os }

silent_more : (os ps : List Output) → Silent os → Silent ps → Silent (os ++ ps)
silent_more [] ps a b = b
silent_more (o ∷ os) ps a b = record { one = a.one; rest = silent_more os ps a.rest b }

silent_answer : (t : Turn) (op : ℕ) (a : AppAnswer) → Silent t.out → Silent (state.answered t op a).out
silent_answer t op a h = silent_more t.out (outputs.Answer op a ∷ []) h (record { one = tt; rest = tt })

silent_end : (t : Turn) (s : ClientSession) (o : Operation) → Silent t.out → Silent (cl.end_operation t s o).out
unfolding cl.end_operation cl.end_unsent cl.end_sync cl.tell_lost
silent_end t s o h = go (is_sent o)
  where
    lost : (ino : ℕ) (b : Bool) → Silent (if b then cl.tell_lost t o.op ino else state.answered t o.op answers.Quiesced).out
    lost ino true = silent_more t.out (_ ∷ []) h (record { one = tt; rest = tt })
    lost ino false = silent_answer t o.op answers.Quiesced h

    unsent : (a : Ask) → Silent (cl.end_unsent t o a).out
    unsent (asks.Sync f) = lost f.ino (pages.has_lost t.here.lost f.ino)
    unsent a = silent_answer t o.op answers.Quiesced h

    go : (b : Bool) → Silent (if b then state.answered t o.op (answers.Uncertain s.epoch.0 0) else cl.end_unsent t o o.ask).out
    go true = silent_answer t o.op (answers.Uncertain s.epoch.0 0) h
    go false = unsent o.ask

silent_each : (s : ClientSession) (os : List Operation) (t : Turn) → Silent t.out → Silent (cl.end_each s os t).out
unfolding cl.end_each
silent_each s [] t h = h
silent_each s (o ∷ os) t h = silent_each s os (cl.end_operation t s o) (silent_end t s o h)

silent_lose : (now : Stamp) (t : Turn) → Silent t.out → Silent (cl.lose now t).out
unfolding cl.lose cl.lose_by cl.lose_over cl.lose_session cl.end_operations
silent_lose now t h = go t.here.session
  where
    over : (s : ClientSession) (b : Bool) → Silent (if b then cl.lose_session t s else t).out
    over s true = silent_each s _ _ (silent_more t.out (outputs.Note (notes.Lost t.here.server t.here.life) ∷ []) h (record { one = tt; rest = tt }))
    over s false = h

    go : (x : Option ClientSession) → Silent (cl.lose_by t now x).out
    go None = h
    go (Some s) = over s (cl.is_over t s now)

silent_these : (now : Stamp) (al : List Association) (t : ClientTurn) → Silent t.out → Silent (at_these (cl.lose now) al t).out
unfolding at_these
silent_these now [] t h = h
silent_these now (a ∷ al) t h = silent_these now al (leave t (cl.lose now (enter t a))) (silent_lose now (enter t a) h)

losses_silent : (now : Stamp) (s : ClientState) → Silent (cl.losses (client_turn s []) now).out
unfolding cl.losses at_each
losses_silent now s = silent_these now s.associations (with_associations [] (client_turn s [])) tt

silent_none : (os : List Output) → Silent os → (n : ℕ) (at to : BlockAt) (tag : Tag) (bytes : List ℕ) → Has (write_said n at to tag bytes) os → ⊥
silent_none [] h n at to tag bytes i = absurd i
silent_none (o ∷ os) h n at to tag bytes (inl e) = subst SilentOne (sym e) h.one
silent_none (o ∷ os) h n at to tag bytes (inr i) = silent_none os h.rest n at to tag bytes i

-- The whole step.

-- an association before and after it
pub record AfterStep (E : ℕ → Type 0) (k : Config) (now : Stamp) (a b : Association) : Type 0 where
  pub server : a.server ≡ b.server
  pub lasts : is_ended k now a.session ≡ false → FollowsOn E a b
  pub lost : is_ended k now a.session ≡ true → cl.next_life a.life ≡ b.life

pub record StepKeeps (E : ℕ → Type 0) (now : Stamp) (s after : ClientState) (out : List Output) : Type 0 where
  pub pairs : Pairwise (AfterStep E s.config now) s.associations after.associations
  pub said : (n : ℕ) (at to : BlockAt) (tag : Tag) (bytes : List ℕ) → Has (write_said n at to tag bytes) out → ListedAt after.associations n tag

on_then : (E : ℕ → Type 0) (a b c : Association) → FollowsOn E a b → FollowsOn NoneEnds b c → FollowsOn E a c
on_then E a b c p q = record { server = p.server ∙ q.server; life = p.life ∙ q.life; stays = λ n tag f h. q.stays n tag (λ z. z) (p.stays n tag f h) }

lost_then : (E : ℕ → Type 0) (k : Config) (now : Stamp) (a b c : Association) → LostOrNot k now a b → FollowsOn E b c → AfterStep E k now a c
lost_then E k now a b c p q = record { server = p.server ∙ q.server; lasts = λ e. subst (λ z. FollowsOn E z c) (sym (p.lasts e)) q; lost = λ e. p.lost e ∙ q.life }

lost_once : (k : Config) (now : Stamp) (a b : Association) → LostOrNot k now a b → WritesOnce a → WritesOnce b
lost_once k now a b r h = go (is_ended k now a.session) refl
  where
    go : (z : Bool) → is_ended k now a.session ≡ z → WritesOnce b
    go false e = subst WritesOnce (r.lasts e) h
    go true e = λ c d i j. absurd (subst (λ (x : pages.Store). Has c x.commands) (r.emptied e) i)

pub step_keeps : (c : ClientId) (s : ClientState) (now : Stamp) (input : ClientInput) → ((a : Association) → Has a s.associations → Fit a) → ((a : Association) → Has a s.associations → WritesOnce a) →
    StepKeeps (EndedBy input) now s (cl.client_step s now input).state (cl.client_step s now input).out
unfolding cl.client_step cl.work
step_keeps c s now input f o =
    record {
      pairs = pairs_then (LostOrNot s.config now) (FollowsOn (EndedBy input)) (AfterStep (EndedBy input) s.config now) (lost_then (EndedBy input) s.config now) s.associations t.state.associations v.state.associations p.lost.pairs
          (pairs_then (FollowsOn (EndedBy input)) (FollowsOn NoneEnds) (FollowsOn (EndedBy input)) (on_then (EndedBy input)) t.state.associations u.state.associations v.state.associations received.pairs worked.pairs);
      said = λ n at to tag bytes i. late n at to tag bytes (worked.said n at to tag bytes i);
    }
  where
    t : ClientTurn
    t = cl.losses (client_turn s []) now

    u : ClientTurn
    u = cl.take_input t now input

    v : ClientTurn
    v = at_each (cp.passes now (cl.is_tick input)) u

    p : Phased c s now t u (cl.work u now input)
    p = phased c s now input f

    once_t : (a : Association) → Has a t.state.associations → WritesOnce a
    once_t = pairs_has (LostOrNot s.config now) WritesOnce WritesOnce (λ a b r h. lost_once s.config now a b r h) s.associations t.state.associations p.lost.pairs o

    received : AllKeep (EndedBy input) t u
    received = input_keeps now input t u (taken t now input) p.fit once_t

    worked : AllKeep NoneEnds u v
    worked = each_keeps Fit NoneEnds (cp.passes now (cl.is_tick input)) (λ x p. changes_rule now x _ (changes_by_passes now (cl.is_tick input) x)) u p.fit_too

    early : (n : ℕ) (at to : BlockAt) (tag : Tag) (bytes : List ℕ) → Has (write_said n at to tag bytes) t.out ⊎ ListedAt u.state.associations n tag → ListedAt v.state.associations n tag
    early n at to tag bytes (inl i) = absurd (silent_none t.out (losses_silent now s) n at to tag bytes i)
    early n at to tag bytes (inr (b, i, h)) = let z = pair_has (FollowsOn NoneEnds) u.state.associations v.state.associations worked.pairs b i in (z.0, z.1, z.2.stays n tag (λ y. y) h)

    late : (n : ℕ) (at to : BlockAt) (tag : Tag) (bytes : List ℕ) → Has (write_said n at to tag bytes) u.out ⊎ ListedAt v.state.associations n tag → ListedAt v.state.associations n tag
    late n at to tag bytes (inl i) = early n at to tag bytes (received.said n at to tag bytes i)
    late n at to tag bytes (inr h) = h
