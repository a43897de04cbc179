-- Losses of a step: what is said stays said, operations of other servers stay, and those of the server whose requests were sent are uncertain.
use Rattle.st_lemmas.proofs.Words
use Words.{◌≡◌, ℕ, ◌⊎◌, Bool, true, false, not, List, [], ◌∷◌, ◌++◌, Option, Some, None, refl, sym, ap, ◌∙◌, subst, inl, inr, if◌then◌else◌, filter, Stamp}
use Words.{AppAnswer, Ask, Message, Output, Operation}
use Words.answers
use Words.asks
use Words.outputs
use Words.Client as cl
use Words.ClientPages as pages
use Words.ClientState as cs
use Words.ClientState.{Association, ClientSession, ClientTurn, Turn, at_these, enter, leave, with_operations}
use Words.Lists.{Has}
use Words.Lookups.{some_is}
use Words.Tables.{has_append, has_filter_in}
use Words.Members.{has_left, has_right}
use Words.Truth.{clash}

-- nothing was sent
abbrev pub Silent : List Output → Type 0
Silent out = (m : Message) → Has (outputs.Send m) out → ⊥

-- More outputs, none of them a message.
pub record More (t u : Turn) : Type 0 where
  pub grows : (y : Output) → Has y t.out → Has y u.out
  pub quiet : Silent t.out → Silent u.out
  pub operations : u.operations ≡ t.operations

more_then : (t u v : Turn) → More t u → More u v → More t v
more_then t u v a b = record { grows = λ y h. b.grows y (a.grows y h); quiet = λ q. b.quiet (a.quiet q); operations = b.operations ∙ a.operations }

more_if : (t : Turn) (b : Bool) (u v : Turn) → More t u → More t v → More t (if b then u else v)
more_if t true u v x y = x
more_if t false u v x y = y

pub silent_more : (out : List Output) (o : Output) → ((m : Message) → outputs.Send m ≡ o → ⊥) → Silent out → Silent (out ++ o ∷ [])
silent_more out o n q m h = go (has_append out (o ∷ []) (outputs.Send m) h)
  where
    go : Has (outputs.Send m) out ⊎ Has (outputs.Send m) (o ∷ []) → ⊥
    go (inl i) = q m i
    go (inr (inl e)) = n m e
    go (inr (inr i)) = i

more_answer : (t : Turn) (op : ℕ) (a : AppAnswer) → More t (cs.answered t op a)
more_answer t op a = record { grows = λ y h. has_left t.out _ y h; quiet = λ q. silent_more t.out (outputs.Answer op a) (λ m e. cc e) q; operations = refl }

end_one : (t : Turn) (x : ClientSession) (o : Operation) → More t (cl.end_operation t x o)
unfolding cl.end_operation cl.end_unsent cl.end_sync cl.tell_lost
end_one t x o = more_if t (cs.is_sent o) _ _ (more_answer t o.op _) (by o.ask)
  where
    by : (a : Ask) → More t (cl.end_unsent t o a)
    by (asks.Sync f) = more_if t (pages.has_lost t.here.lost f.ino) _ _ (record { grows = λ y h. has_left t.out _ y h; quiet = λ q. silent_more t.out _ (λ m e. cc e) q; operations = refl }) (more_answer t o.op answers.Quiesced)
    by a = more_answer t o.op answers.Quiesced

pub end_all : (x : ClientSession) (os : List Operation) (t : Turn) → More t (cl.end_each x os t)
unfolding cl.end_each
end_all x [] t = record { grows = λ y h. h; quiet = λ q. q; operations = refl }
end_all x (o ∷ os) t = more_then t (cl.end_operation t x o) _ (end_one t x o) (end_all x os (cl.end_operation t x o))

-- what was sent is uncertain
uncertain_one : (t : Turn) (x : ClientSession) (o : Operation) → cs.is_sent o ≡ true → Has (outputs.Answer o.op (answers.Uncertain x.epoch.0 0)) (cl.end_operation t x o).out
unfolding cl.end_operation
uncertain_one t x o e = go (cs.is_sent o) e
  where
    go : (b : Bool) → b ≡ true → Has (outputs.Answer o.op (answers.Uncertain x.epoch.0 0)) (if b then cs.answered t o.op (answers.Uncertain x.epoch.0 0) else cl.end_unsent t o o.ask).out
    go true q = has_right t.out _ _ (inl refl)
    go false q = cc q

uncertain_all : (x : ClientSession) (os : List Operation) (t : Turn) (o : Operation) → Has o os → cs.is_sent o ≡ true → Has (outputs.Answer o.op (answers.Uncertain x.epoch.0 0)) (cl.end_each x os t).out
unfolding cl.end_each
uncertain_all x (p ∷ os) t o (inl q) e = (end_all x os (cl.end_operation t x p)).grows _ (subst (λ r. Has (outputs.Answer o.op (answers.Uncertain x.epoch.0 0)) (cl.end_operation t x r).out) q (uncertain_one t x o e))
uncertain_all x (p ∷ os) t o (inr h) e = uncertain_all x os (cl.end_operation t x p) o h e
uncertain_all x [] t o h e = absurd h

-- A lease that may be over.
pub record Left (now : Stamp) (t u : Turn) : Type 0 where
  pub grows : (y : Output) → Has y t.out → Has y u.out
  pub quiet : Silent t.out → Silent u.out
  pub keeps : (o : Operation) → Has o t.operations → cs.is_of t.here.server o ≡ false → Has o u.operations
  pub told : (x : ClientSession) → t.here.session ≡ Some x → cl.is_over t x now ≡ true → (o : Operation) → Has o t.operations → cs.is_of t.here.server o ≡ true → cs.is_sent o ≡ true →
      Has (outputs.Answer o.op (answers.Uncertain x.epoch.0 0)) u.out

pub left : (now : Stamp) (t : Turn) → Left now t (cl.lose now t)
unfolding cl.lose cl.lose_by cl.lose_over cl.lose_session cl.end_operations
left now t = go t.here.session refl
  where
    no : {A : Type 0} {x : ClientSession} → ◌≡◌ {A = Option ClientSession} None (Some x) → A
    no e = cc

    go : (o : Option ClientSession) → t.here.session ≡ o → Left now t (cl.lose_by t now o)
    go None e = record { grows = λ y h. h; quiet = λ q. q; keeps = λ o h i. h; told = λ x f. no (sym e ∙ f) }
    go (Some x) e = over (cl.is_over t x now) refl
      where
        v : Turn
        v = cl.with_lost_pages t.here.store (cs.note t (Rattle.st_messages.specs.declared.output.Note.TheVariants.Lost t.here.server t.here.life))

        v2 : Turn
        v2 = with_operations (filter (λ o. not (cs.is_of t.here.server o)) t.operations) v

        m : More v2 (cl.end_each x (filter (cs.is_of t.here.server) t.operations) v2)
        m = end_all x (filter (cs.is_of t.here.server) t.operations) v2

        over : (b : Bool) → cl.is_over t x now ≡ b → Left now t (if b then cl.lose_session t x else t)
        over true f =
            record {
              grows = λ y h. m.grows y (has_left t.out _ y h);
              quiet = λ q. m.quiet (silent_more t.out _ (λ n z. cc z) q);
              keeps = λ o h i. subst (Has o) (sym m.operations) (has_filter_in (λ o. not (cs.is_of t.here.server o)) t.operations o h (ap not i));
              told = λ y g l o h i s. subst (λ (z : ClientSession). Has (outputs.Answer o.op (answers.Uncertain z.epoch.0 0)) (cl.lose_session t x).out) (some_is (sym e ∙ g)) (uncertain_all x (filter (cs.is_of t.here.server) t.operations) v2 o (has_filter_in (cs.is_of t.here.server) t.operations o h i) s);
            }
        over false f = record { grows = λ y h. h; quiet = λ q. q; keeps = λ o h i. h; told = λ y g l. clash (subst (λ (z : ClientSession). cl.is_over t z now ≡ true) (sym (some_is (sym e ∙ g))) l) f }

-- At these servers in turn.
pub lose_grows : (now : Stamp) (al : List Association) (t : ClientTurn) (y : Output) → Has y t.out → Has y (at_these (cl.lose now) al t).out
unfolding at_these
lose_grows now [] t y h = h
lose_grows now (a ∷ al) t y h = lose_grows now al (leave t (cl.lose now (enter t a))) y ((left now (enter t a)).grows y h)

pub lose_tells : (now : Stamp) (al : List Association) (t : ClientTurn) (a : Association) → Has a al → ((b : Association) → Has b al → (b ≡ a) ⊎ (b.server.0 ≡ a.server.0 → ⊥)) →
    (x : ClientSession) → a.session ≡ Some x → cl.is_over (enter t a) x now ≡ true → (o : Operation) → Has o t.state.operations → cs.is_of a.server o ≡ true → cs.is_sent o ≡ true →
    Has (outputs.Answer o.op (answers.Uncertain x.epoch.0 0)) (at_these (cl.lose now) al t).out
unfolding at_these
lose_tells now [] t a h apart x e l o i s z = absurd h
lose_tells now (b ∷ al) t a h apart x e l o i s z = go (apart b (inl refl)) h (λ k j. lose_tells now al (leave t (cl.lose now (enter t b))) a k (λ y w. apart y (inr w)) x e l o j s z)
  where
    u : Turn
    u = cl.lose now (enter t b)

    not_here : (b.server.0 ≡ a.server.0 → ⊥) → cs.is_of b.server o ≡ false
    not_here n = by (cs.is_of b.server o) refl
      where
        by : (y : Bool) → cs.is_of b.server o ≡ y → y ≡ false
        by true q = absurd (n (sym (Rattle.std.proofs.lemmas.Bool.eqb-true _ _ q) ∙ Rattle.std.proofs.lemmas.Bool.eqb-true _ _ s))
        by false q = refl

    go : (b ≡ a) ⊎ (b.server.0 ≡ a.server.0 → ⊥) → Has a (b ∷ al) → (Has a al → Has o u.operations → Has (outputs.Answer o.op (answers.Uncertain x.epoch.0 0)) (at_these (cl.lose now) al (leave t u)).out) →
        Has (outputs.Answer o.op (answers.Uncertain x.epoch.0 0)) (at_these (cl.lose now) al (leave t u)).out
    go (inl q) k f = lose_grows now al (leave t u) _ (subst (λ (y : Association). Has (outputs.Answer o.op (answers.Uncertain x.epoch.0 0)) (cl.lose now (enter t y)).out) (sym q) ((left now (enter t a)).told x e l o i s z))
    go (inr n) (inl q) f = absurd (n (ap (λ (y : Association). y.server.0) (sym q)))
    go (inr n) (inr k) f = f k ((left now (enter t b)).keeps o i (not_here n))
