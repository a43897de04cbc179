-- Without a session the syncs of hard files are answered, and the client may greet.
use Rattle.std.proofs.Common.{◌≡◌, Bool, true, false, ◌&&◌, not, if◌then◌else◌, List, [], ◌∷◌, ◌++◌, cond, map, refl, sym, ap, ◌∙◌, append_assoc, append-nil}
use Rattle.std.specs.Prelude.{filter}
use Rattle.st_base.specs.declared.ids.Stamp.{Stamp}
use Rattle.st_messages.specs.declared.ask.Ask.{Ask}
use Rattle.st_messages.specs.declared.ask.Ask.TheVariants as asks
use Rattle.st_messages.specs.declared.answer.AppAnswer.TheVariants as answers
use Rattle.st_rules.specs.declared.client.Operation.{Operation}
use Rattle.st_rules.specs.ClientPasses.{answer, greet, greeting, operate, operate_each, operate_on, operations, passes, reductions, requests, sync, writes}
use Rattle.st_rules.specs.ClientState.{Turn, answer_each, answer_to, is_of, keep, with_operations}
use Rattle.st_client_association.specs.Syncs.{is_hard_sync, is_hard_sync_of}
use Rattle.st_client_association.specs.Turns.{has_session}
use Rattle.st_client_passes.proofs.Sessions.{greets_alone, operate_without}

-- the syncs of hard files are answered
abbrev pub with_syncs_answered : Turn → Turn
with_syncs_answered t = answer_each (is_hard_sync_of t.here.server t.here.store) answers.Hard t

-- what follows the operations
abbrev after_operations : Stamp → Bool → Turn → Turn
after_operations now tick t = requests now tick (greeting now tick (writes now tick (reductions t)))

-- these operations are answered, or stay after those so far
abbrev answered_among : List Operation → List Operation → Turn → Turn
answered_among hard others t = record t { operations = t.operations ++ others; out = t.out ++ map (answer_to answers.Hard) hard }

-- answered if it is a sync of a hard file
abbrev answered_if : Bool → Operation → Turn → Turn
answered_if hard o t = if hard then answer o answers.Hard t else keep o t

-- of these, the syncs of hard files
abbrev hard_in : Turn → List Operation → List Operation
hard_in t os = filter (is_hard_sync_of t.here.server t.here.store) os

-- and the others
abbrev others_in : Turn → List Operation → List Operation
others_in t os = filter (λ o. not (is_hard_sync_of t.here.server t.here.store o)) os

module _ (all : List Operation) (now : Stamp) where
  -- an ask of this server
  on_ask : (t : Turn) (o : Operation) (ask : Ask) → has_session t ≡ false → operate_on all t now o ask ≡ answered_if (is_hard_sync t.here.store ask) o t
  unfolding operate_on sync
  on_ask t o (asks.Sync f) h = refl
  on_ask t o (asks.Write f p bytes) h = operate_without all t now o h
  on_ask t o (asks.Patch f p at bytes) h = operate_without all t now o h
  on_ask t o (asks.Read f p) h = operate_without all t now o h
  on_ask t o (asks.Cut f p) h = operate_without all t now o h
  on_ask t o (asks.Name server ask) h = operate_without all t now o h

  one : (t : Turn) (o : Operation) → has_session t ≡ false → operate all t now o ≡ answered_if (is_hard_sync_of t.here.server t.here.store o) o t
  unfolding operate
  one t o h = by (is_of t.here.server o)
    where
      by : (b : Bool) → (if b then operate_on all t now o o.ask else keep o t) ≡ answered_if (b && is_hard_sync t.here.store o.ask) o t
      by true = on_ask t o o.ask h
      by false = refl

  -- one more operation is answered, or stays
  next : (t : Turn) (o : Operation) (os : List Operation) (b : Bool) →
      operate_each all now os (answer o answers.Hard t) ≡ answered_among (hard_in t os) (others_in t os) (answer o answers.Hard t) →
      operate_each all now os (keep o t) ≡ answered_among (hard_in t os) (others_in t os) (keep o t) →
      operate_each all now os (answered_if b o t)
      ≡ answered_among (cond b (o ∷ hard_in t os) (hard_in t os)) (cond (not b) (o ∷ others_in t os) (others_in t os)) t
  next t o os true p q =
      p ∙ (λ i. record t { operations = t.operations ++ others_in t os; out = append_assoc t.out (answer_to answers.Hard o ∷ []) (map (answer_to answers.Hard) (hard_in t os)) i })
  next t o os false p q =
      q ∙ (λ i. record t { operations = append_assoc t.operations (o ∷ []) (others_in t os) i; out = t.out ++ map (answer_to answers.Hard) (hard_in t os) })

  each : (os : List Operation) (t : Turn) → has_session t ≡ false → operate_each all now os t ≡ answered_among (hard_in t os) (others_in t os) t
  unfolding operate_each
  each [] t h = λ i. record t { operations = sym (append-nil t.operations) i; out = sym (append-nil t.out) i }
  each (o ∷ os) t h =
      ap (operate_each all now os) (one t o h)
      ∙ next t o os (is_hard_sync_of t.here.server t.here.store o) (each os (answer o answers.Hard t) h) (each os (keep o t) h)

module _ (now : Stamp) (tick : Bool) (t : Turn) where
  -- the pass over the operations
  syncs_answered : has_session t ≡ false → operations now t ≡ with_syncs_answered t
  unfolding operations answer_each
  syncs_answered h = each t.operations now t.operations (with_operations [] t) h

  none_still : has_session t ≡ false → has_session (with_syncs_answered t) ≡ false
  unfolding answer_each
  none_still h = h

  -- all that is done at the server
  pub only_syncs : has_session t ≡ false → greet (with_syncs_answered t) now tick ≡ passes now tick t
  unfolding passes
  only_syncs h = greets_alone now tick (with_syncs_answered t) (none_still h) ∙ ap (after_operations now tick) (sym (syncs_answered h))
