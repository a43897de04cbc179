-- A tick at a client: the losses and the passes at each server do something exactly if a lease is over or a pass is due.
use Rattle.st_lemmas.proofs.Words
use Words.{◌≡◌, ℕ, ◌+◌, ◌≤◌, ◌<◌, Bool, true, false, ◌||◌, List, [], ◌∷◌, ◌++◌, refl, sym, ap, ◌∙◌, subst, arith, append_assoc, append-nil, cond, filter, length, list_any, Option, Some, None, not}
use Words.{Ask, FileId, Operation, Stamp}
use Words.answers
use Words.asks
use Words.inputs.{Tick}
use Words.notes
use Words.outputs
use Words.ClientPages as pages
use Words.Client.{client_step, empty_here, end_each, end_operation, end_operations, end_sync, end_unsent, is_over, lose, lose_by, lose_over, lose_session, losses, take_input, tell_lost, with_lost_pages, work}
use Words.ClientPasses.{passes}
use Words.ClientState.{Association, ClientSession, ClientState, ClientTurn, Turn, at_each, at_these, client_turn, enter, is_of, is_sent, leave, note, with_associations, with_operations}
use Rattle.st_laws_due.proofs.Advances.{DoesIf, composed, folds_by, if_does, never}
use Rattle.st_laws_due.proofs.Passes.{fold_steps, one_longer}
use Rattle.st_laws_due.proofs.ClientOperations.{Does, Speaks, demanded, demands, said}
use Rattle.st_laws_due.proofs.ClientWorks.{passes_does, passes_due}

-- Losses: each is a note, and takes all demands away.

sync_said : (t : Turn) (o : Operation) (f : FileId) → said t ≤ said (end_sync t o f)
unfolding end_sync tell_lost
sync_said t o f = by (pages.has_lost t.here.lost f.ino)
  where
    by : (b : Bool) → said t ≤ said (cond b (tell_lost t o.op f.ino) (Words.ClientState.answered t o.op answers.Quiesced))
    by true = let l = one_longer t.out (outputs.Answer o.op (answers.Lost (pages.told_rows t.here.lost f.ino))) in omega (arith, l)
    by false = let l = one_longer t.out (outputs.Answer o.op answers.Quiesced) in omega (arith, l)

unsent_said : (t : Turn) (o : Operation) (ask : Ask) → said t ≤ said (end_unsent t o ask)
unfolding end_unsent
unsent_said t o (asks.Sync f) = sync_said t o f
unsent_said t o (asks.Write f p bytes) = let l = one_longer t.out (outputs.Answer o.op answers.Quiesced) in omega (arith, l)
unsent_said t o (asks.Patch f p at bytes) = let l = one_longer t.out (outputs.Answer o.op answers.Quiesced) in omega (arith, l)
unsent_said t o (asks.Read f p) = let l = one_longer t.out (outputs.Answer o.op answers.Quiesced) in omega (arith, l)
unsent_said t o (asks.Cut f p) = let l = one_longer t.out (outputs.Answer o.op answers.Quiesced) in omega (arith, l)
unsent_said t o (asks.Name server ask) = let l = one_longer t.out (outputs.Answer o.op answers.Quiesced) in omega (arith, l)

operation_said : (t : Turn) (s : ClientSession) (o : Operation) → said t ≤ said (end_operation t s o)
unfolding end_operation
operation_said t s o = by (is_sent o)
  where
    by : (b : Bool) → said t ≤ said (cond b (Words.ClientState.answered t o.op (answers.Uncertain s.epoch.0 0)) (end_unsent t o o.ask))
    by true = let l = one_longer t.out (outputs.Answer o.op (answers.Uncertain s.epoch.0 0)) in omega (arith, l)
    by false = unsent_said t o o.ask

each_said : (s : ClientSession) (os : List Operation) (t : Turn) → said t ≤ said (end_each s os t)
unfolding end_each
each_said s [] t = omega arith
each_said s (o ∷ os) t =
    let a = operation_said t s o in
    let b = each_said s os (end_operation t s o) in
    omega (arith, a, b)

lose_speaks : (t : Turn) (s : ClientSession) → Speaks t (lose_session t s)
unfolding lose_session end_operations
lose_speaks t s =
    let u = with_lost_pages t.here.store (note t (notes.Lost t.here.server t.here.life)) in
    let a = one_longer t.out (outputs.Note (notes.Lost t.here.server t.here.life)) in
    let b = each_said s (filter (is_of u.here.server) u.operations) (with_operations (filter (λ o. not (is_of u.here.server o)) u.operations) u) in
    omega (arith, a, b)

-- a lease is over, with a session
abbrev pub over_in : Turn → Stamp → Option ClientSession → Bool
over_in t now None = false
over_in t now (Some s) = is_over t s now

abbrev pub over_at : Stamp → Turn → Bool
over_at now t = over_in t now t.here.session

lose_does : (now : Stamp) (t : Turn) → Does (over_at now t) t (lose now t)
unfolding lose lose_by lose_over
lose_does now t = by t.here.session
  where
    by : (o : Option ClientSession) → Does (over_in t now o) t (lose_by t now o)
    by None = never said demanded t
    by (Some s) = if_does said demanded (is_over t s now) t (lose_session t s) (lose_speaks t s)

-- A rule at each server.

-- the number of outputs so far
abbrev pub all_said : ClientTurn → ℕ
all_said t = length t.out

-- the number of demands of these associations
abbrev pub demands_of : List Association → ℕ
demands_of [] = 0
demands_of (a ∷ xs) = demands a.session + demands_of xs

-- the number of demands at all servers
abbrev pub all_demanded : ClientTurn → ℕ
all_demanded t = demands_of t.state.associations

-- a step at all servers does something exactly if a test passes
abbrev pub DoesAtEach : Bool → ClientTurn → ClientTurn → Type 0
DoesAtEach b t u = DoesIf all_said all_demanded b t u

demands_last : (xs : List Association) (a : Association) → demands_of (xs ++ a ∷ []) ≡ demands_of xs + demands a.session
demands_last [] a = omega arith
demands_last (x ∷ xs) a = let h = demands_last xs a in omega (arith, h)

module _ (rule : Turn → Turn) (test : Turn → Bool) (does : (t : Turn) → Does (test t) t (rule t)) where
  -- the rule at an association
  abbrev pub rule_step : Association → ClientTurn → ClientTurn
  rule_step a t = leave t (rule (enter t a))

  -- an association as it is
  abbrev pub passed : Association → ClientTurn → ClientTurn
  passed a t = leave t (enter t a)

  abbrev pub test_at : Association → ClientTurn → Bool
  test_at a t = test (enter t a)

  rule_does : (a : Association) (t : ClientTurn) → DoesAtEach (test_at a t) (passed a t) (rule_step a t)
  rule_does a t =
      let h = does (enter t a) in
      record {
        same = λ e. ap (leave t) (h.same e);
        more = λ e.
            let r = rule (enter t a) in
            let m = h.more e in
            let x = demands_last t.state.associations a in
            let y = demands_last t.state.associations r.here in
            omega (arith, m, x, y);
      }

  passed_level : (a : Association) (p q : ClientTurn) → all_said p + all_demanded q < all_said q + all_demanded p →
      all_said (passed a p) + all_demanded (passed a q) < all_said (passed a q) + all_demanded (passed a p)
  passed_level a p q l =
      let x = demands_last p.state.associations a in
      let y = demands_last q.state.associations a in
      omega (arith, l, x, y)

  rule_fold : (xs : List Association) (t : ClientTurn) → fold_steps rule_step xs t ≡ at_these rule xs t
  unfolding at_these
  rule_fold [] t = refl
  rule_fold (a ∷ xs) t = rule_fold xs (rule_step a t)

  passed_fold : (xs : List Association) (t : ClientTurn) → fold_steps passed xs t ≡ with_associations (t.state.associations ++ xs) t
  passed_fold [] t = ap (λ (ys : List Association). with_associations ys t) (sym (append-nil t.state.associations))
  passed_fold (a ∷ xs) t = passed_fold xs (passed a t) ∙ ap (λ (ys : List Association). with_associations ys t) (append_assoc t.state.associations (a ∷ []) xs)

  pub at_each_does : (t : ClientTurn) → DoesAtEach (list_any (λ a. test (enter t a)) t.state.associations) t (at_each rule t)
  unfolding at_each
  at_each_does t =
      let xs = t.state.associations in
      let begun = with_associations [] t in
      let b = list_any (λ a. test (enter t a)) xs in
      subst (λ u. DoesAtEach b u (at_these rule xs begun)) (passed_fold xs begun)
      (subst (DoesAtEach b (fold_steps passed xs begun)) (rule_fold xs begun)
      (folds_by all_said all_demanded rule_step passed test_at rule_does passed_level (λ a x p. refl) xs begun))

-- The step.

-- a lease is over
abbrev pub any_over : Stamp → ClientTurn → Bool
any_over now t = list_any (λ a. over_at now (enter t a)) t.state.associations

-- a pass is due at a server
abbrev pub any_due : Stamp → ClientTurn → Bool
any_due now t = list_any (λ a. passes_due now (enter t a)) t.state.associations

pub tick_does : (s : ClientState) (now : Stamp) → DoesAtEach (any_over now (client_turn s []) || any_due now (client_turn s [])) (client_turn s [])
    (client_step s now Tick)
unfolding client_step work take_input losses
tick_does s now =
    composed all_said all_demanded (at_each (lose now)) (at_each (passes now true)) (any_over now) (any_due now)
    (at_each_does (lose now) (over_at now) (lose_does now)) (at_each_does (passes now true) (passes_due now) (passes_does now)) (client_turn s [])
