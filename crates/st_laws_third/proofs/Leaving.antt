-- Asking to leave, leaving, greeting, losing and being answered `left` are lists of changes.
use Rattle.st_lemmas.proofs.Words
use Words.{◌≡◌, ◌⊎◌, ℕ, Bool, true, false, List, [], ◌∷◌, ◌++◌, Option, Some, None, find, refl, ap, sym, ◌∙◌, inl, inr, if◌then◌else◌, Operation, Stamp}
use Words.Client as cl
use Words.ClientPasses as passes
use Words.ClientState.{ClientSession, send}
use Words.Lists.{Has}
use Words.Tables.{and_true, has_append}
use Rattle.st_laws_steps.specs.Client.Client as client
use Rattle.st_laws_steps.specs.Client.Losses.{is_ended}
use Rattle.st_laws_steps.proofs.Client.Losing.{over_is}
use Rattle.st_third.specs.declared.beside.Leave.{Leave}
use Rattle.st_third.specs.declared.output.ThirdOutput.TheVariants as says
use Rattle.st_third.specs.Leave as leaving
use Rattle.st_third.specs.State as third
use Rattle.st_third.specs.State.{ThirdTurn, plainly, session}
use Rattle.st_laws_third.specs.Changes.{ThirdChanges, ArePending, ThirdLeaves, ThirdLoses, Greets, HasLeft, Heard, HeardLeave, IsLost, Lasts, Leaves, Says, Stays, Still}
use Rattle.st_laws_third.proofs.Chains.{both, by_rule, either, fewer_leaves, leave_quiesced, old_both, old_ends, old_one, one}
use Rattle.st_laws_third.proofs.UsedOnce.{reduces_each}

module _ {got : Heard} {now : Stamp} where
  -- Reductions
  pub reduces_all : (t : ThirdTurn) → ThirdChanges got now t (leaving.reductions t)
  unfolding leaving.reductions leaving.reductions_by
  reduces_all t = go (session t)
    where
      go : (x : Option ClientSession) → ThirdChanges got now t (leaving.reductions_by t x)
      go None = Still t
      go (Some s) = reduces_each (leaving.demands t s.locks) _ t

  -- Greeting
  pub greets : (tick : Bool) (t : ThirdTurn) → ThirdChanges got now t (leaving.greeting now tick t)
  unfolding leaving.greeting passes.hello send leaving.greeting_by leaving.greet
  greets tick t = go (session t)
    where
      hello : ThirdChanges got now t (plainly (leaving.hello now) t)
      hello = by_rule t (leaving.hello now)
          (old_both (old_one (client.Greets t.plain (Some now)) tt) (old_one (client.Says (passes.with_greeting now t.plain) _ tt) (Greets now.0)))

      go : (x : Option ClientSession) → ThirdChanges got now t (leaving.greeting_by t now tick x)
      go None = either (leaving.must_greet t now tick) t _ _ (λ e. hello) (λ e. Still t)
      go (Some s) = Still t

  -- Left
  pub serves_leave : (t : ThirdTurn) (l : Option Leave) → ((x : Leave) → l ≡ Some x → Has x t.leaves) → ThirdChanges got now t (leaving.serve_leave_at t l)
  unfolding leaving.serve_leave_at leaving.serve_leave leaving.left third.say
  serves_leave t None p = Still t
  serves_leave t (Some l) p =
      either (leaving.is_done t l) t _ _
      (λ e. let z = and_true (third.is_first_leave (third.here t) t.plain.operations l) (leaving.is_unasked (session t)) e in
      both
      (one (Says t (says.Left l.op)
      (record { leave = l; pending = p l refl; number = refl; of_server = (and_true (third.is_leave_of (third.here t) l) _ z.0).0; unasked = z.1 })))
      (one (Leaves (third.say t (says.Left l.op)) _ (fewer_leaves t.leaves _))))
      (λ e. Still t)

  -- Losses
  ends_leave : (t : ThirdTurn) (l : Option Leave) → ThirdChanges got now t (leaving.end_leave_at t l)
  unfolding leaving.end_leave_at leaving.end_leave
  ends_leave t None = Still t
  ends_leave t (Some l) = go (leaving.least_lost t.plain.here.lost)
    where
      go : (o : Option ℕ) → ThirdChanges got now t (leaving.end_leave l t o)
      go None = leave_quiesced l t
      go (Some ino) = both (one (Leaves t _ (fewer_leaves t.leaves _))) (one (Says (third.without_leave l t) (says.Unsynced l.op ino) tt))

  ends_each : (s : ClientSession) (os : List Operation) (ls : List Leave) (ns : List ℕ) (t : ThirdTurn) →
      ThirdChanges got now t (leaving.end_numbers s os ls ns t)
  unfolding leaving.end_numbers leaving.end_either
  ends_each s os ls [] t = Still t
  ends_each s os ls (op ∷ ops) t = both (go (find (third.is_operation_numbered op) os)) (ends_each s os ls ops _)
    where
      go : (o : Option Operation) → ThirdChanges got now t (leaving.end_either s ls op t o)
      go None = ends_leave t (find (third.is_leave_numbered op) ls)
      go (Some o) = by_rule t (leaving.ended s o) (old_ends s o t.plain)

  ends_operations : (s : ClientSession) (t : ThirdTurn) → ThirdChanges got now t (leaving.end_operations s t)
  unfolding leaving.end_operations
  ends_operations s t = both (by_rule t leaving.without_own (old_one (client.Operates t.plain _) tt)) (ends_each s _ _ _ _)

module _ {now : Stamp} where
  -- An ask to leave.
  pub takes_leave : (op : ℕ) (t : ThirdTurn) → ThirdChanges (Some (HeardLeave (record { op = op; server = third.here t }))) now t (leaving.take_leave op t)
  unfolding leaving.take_leave leaving.take_leave_at
  takes_leave op t = go (leaving.least_lost t.plain.here.lost)
    where
      got : Heard
      got = Some (HeardLeave (record { op = op; server = third.here t }))

      asked : ArePending got t.leaves (t.leaves ++ record { op = op; server = third.here t } ∷ [])
      asked l h = at (has_append t.leaves (record { op = op; server = third.here t } ∷ []) l h)
        where
          at : (Has l t.leaves) ⊎ (Has l (record { op = op; server = third.here t } ∷ [])) → (Has l t.leaves) ⊎ (got ≡ Some (HeardLeave l))
          at (inl i) = inl i
          at (inr (inl e)) = inr (sym (ap (λ (x : Leave). Some (HeardLeave x)) e))
          at (inr (inr i)) = absurd i

      go : (o : Option ℕ) → ThirdChanges got now t (leaving.take_leave_at op t o)
      go None = one (Leaves t _ asked)
      go (Some ino) = one (Says t (says.Unsynced op ino) tt)

  -- Leaving
  pub leaves : (t : ThirdTurn) → ThirdLeaves now t (leaving.leaving t)
  unfolding leaving.leaving leaving.end_life leaving.leaving_by leaving.end_if
  leaves t = go (session t) refl
    where
      by : (s : ClientSession) → session t ≡ Some s → (b : Bool) → ThirdLeaves now t (if b then leaving.end_life t s else t)
      by s e true = HasLeft s e
      by s e false = Stays

      go : (x : Option ClientSession) → session t ≡ x → ThirdLeaves now t (leaving.leaving_by t x)
      go None e = Stays
      go (Some s) e = by s e (leaving.may_end t s)

  -- A lease that is over is lost.
  pub loses : (t : ThirdTurn) → ThirdLoses now t (leaving.lose now t)
  unfolding leaving.lose leaving.lose_session plainly leaving.lose_by leaving.lose_over
  loses t = go (session t) refl
    where
      by : (s : ClientSession) (b : Bool) → session t ≡ Some s → is_ended t.plain.config now (session t) ≡ b →
          ThirdLoses now t (if b then leaving.lose_session t s else t)
      by s true e i = IsLost s _ e i (ends_operations s (plainly leaving.noted_lost t))
      by s false e i = Lasts i

      go : (x : Option ClientSession) → session t ≡ x → ThirdLoses now t (leaving.lose_by t now x)
      go None e = Lasts (ap (is_ended t.plain.config now) e)
      go (Some s) e = by s (cl.is_over t.plain s now) e (ap (is_ended t.plain.config now) e ∙ sym (over_is t.plain.config s.lease now))
