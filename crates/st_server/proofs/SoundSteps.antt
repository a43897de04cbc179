-- A whole step keeps a server sound, and sends what fits.
use Rattle.st_lemmas.proofs.Words
use Words.{◌≡◌, ℕ, ◌+◌, ◌-◌, ◌^◌, ◌<◌, ◌≤◌, ◌⊎◌, Bool, true, false, ◌&&◌, List, [], ◌∷◌, Option, Some, None, refl, sym, ap, subst, ◌∙◌, arith, inl, inr}
use Words.{if◌then◌else◌, Result, Ok, Err, OnOk, list_all, and_parts, lt-ltb, ClientId, Stamp, Message, ServerInput, Session, Output, StepFault}
use Words.Kinds.{is_word64, kind_of_body}
use Words.Ranges.{fits, is_body, is_header}
use Words.serving.{Tick, Control}
use Words.Authority as authority
use Words.Sessions as sessions
use Words.Server as server
use Words.faults
use Words.Server.{ServerNode, ServerState, Stable, ServerTurn, turn, crash}
use Words.Tables.{cond_either}
use Rattle.std.specs.Prelude.{IfErr}
use Rattle.st_rules.specs.declared.node.StepRefusal.TheVariants.{Crashed}
use Rattle.st_server.specs.RuleConditions.{AreServed, comes_fit, has_body, is_row_lived}
use Rattle.st_server.specs.Room.{HasRoom, taken_locks}
use Rattle.st_server.specs.Invariants.{IsSound, IsSoundTo, is_good_row, is_sent, is_told, is_told_lock}
use Rattle.st_server.specs.Steps.{Fails, Keeps, Steps, stepped}
use Rattle.st_server.specs.Answers.{Adds, AnswersAreNamed}
use Rattle.st_server.proofs.OneAnswer.{from_adds, nothing_added}
use Rattle.st_server.proofs.Begins.{crash_sound}
use Rattle.st_server.proofs.Crashes.{passes_crash}
use Rattle.st_server.proofs.Every.{every_too}
use Rattle.st_server.proofs.Receiving.{message_is}
use Rattle.st_server.proofs.Sending.{IsTurn}
use Rattle.st_server.proofs.SoundMessages.{from_turn}
use Rattle.st_server.proofs.SoundRules.{thefts_turn, more_turn, suspecting_turn, granting_turn, demanding_turn}

-- moments fit into a word
pub moment_word : (now : ℕ) → now ≤ 2 ^ 62 → is_word64 now ≡ true
moment_word now b = lt-ltb now (2 ^ 64) (omega (arith, b))

pub body_comes : (i : ServerInput) → comes_fit i ≡ true → has_body i ≡ true
unfolding fits
body_comes Tick e = refl
body_comes (Control m) e = (and_parts (is_header (kind_of_body m.body) m.header) (is_body m.body) e).1

module _ (n : ℕ) (now : Stamp) (word : is_word64 now.0 ≡ true) where
  -- the rule for the input
  message_turn : (t : ServerTurn) (m : Message) → IsTurn n t → HasRoom t.state → n < 2 ^ 32 - 1 → fits m ≡ true → IsTurn (n + 1) (server.receive t now m.header m.body)
  unfolding server.receive fits
  message_turn t m p room few e =
      let q = and_parts (is_header (kind_of_body m.body) m.header) (is_body m.body) e in
      cond_either (IsTurn (n + 1)) (server.is_for t.state m.header) (server.receive_from t now m.header m.body) t
      (λ f. let k = message_is t.state m.header f m.body q.0 in from_turn n t p now word m.header k.asked room few m.body q.1 k.numbered k.epoch)
      (λ f. more_turn n (n + 1) t (omega arith) p)

  input_turn : (t : ServerTurn) (i : ServerInput) → IsTurn n t → HasRoom t.state → n < 2 ^ 32 - 1 → comes_fit i ≡ true → IsTurn (n + 1) (server.take_input t now i)
  unfolding server.take_input
  input_turn t Tick p room few e = more_turn n (n + 1) t (omega arith) p
  input_turn t (Control m) p room few e = message_turn t m p room few e

  pub suspecting_on_turn : (t : ServerTurn) (i : ServerInput) → IsTurn n t → IsTurn n (server.suspecting_on t now i)
  unfolding server.suspecting_on
  suspecting_on_turn t Tick p = suspecting_turn n t now word p
  suspecting_on_turn t (Control m) p = p

  passed_turn : (t : ServerTurn) (i : ServerInput) → n < 2 ^ 32 → IsTurn n t → IsTurn n (server.demanding (server.granting (server.suspecting_on t now i) now) now i)
  unfolding server.demanding
  passed_turn t i b p = demanding_turn n (server.granting (server.suspecting_on t now i) now) now (server.is_tick i) (granting_turn n (server.suspecting_on t now i) now b (suspecting_on_turn t i p))

-- Thefts leave the stable part.
steal_crash : (t : ServerTurn) (c : ClientId) (o : Option Session) → crash (server.steal_at t c o).state ≡ crash t.state
unfolding server.steal_at server.steal_from crash
steal_crash t c None = refl
steal_crash t c (Some s) = refl

steals_crash : (cs : List ClientId) (t : ServerTurn) → crash (server.steal_each cs t).state ≡ crash t.state
unfolding server.steal_each server.steal
steals_crash [] t = refl
steals_crash (c ∷ cs) t = steals_crash cs (server.steal t c) ∙ steal_crash t c (sessions.session_of t.state.sessions c)

timers_crash : (t : ServerTurn) (a : authority.Authority) → crash (server.with_authority a t).state ≡ crash t.state
unfolding crash
timers_crash t a = refl

thefts_crash : (t : ServerTurn) (now : Stamp) → crash (server.thefts t now).state ≡ crash t.state
unfolding server.thefts
thefts_crash t now =
    steals_crash (authority.over t.state.authority now) (server.with_authority (authority.still_running t.state.authority now) t)
    ∙ timers_crash t (authority.still_running t.state.authority now)

-- the stable part by what a crash leaves
same_stable : (s v : ServerState) → crash s ≡ crash v → s.stable ≡ v.stable
unfolding crash
same_stable s v e = ap (λ (x : ServerState). x.stable) e

-- What a step needs and leaves.
pub first_turn : (t : ServerTurn) → t.out ≡ [] → IsSound t.state → IsTurn (taken_locks t.state.locks) t
first_turn t e k = record { sound = k; sent = ap (list_all is_sent) e }

rows_served : (n : ℕ) (s : ServerState) → IsSoundTo n s → AreServed s
rows_served n s k =
    every_too (is_good_row s.sessions) (is_row_lived s.sessions)
    (λ r e. (and_parts (is_row_lived s.sessions r) (is_told r.client r.life r.ino && is_told_lock r.g r.mode r.demand) e).0) s.locks.rows k.held.rows

module _ (t : ServerTurn) (now : Stamp) (empty : t.out ≡ []) (sound : IsSound t.state) (room : HasRoom t.state) (word : is_word64 now.0 ≡ true) where
  begun : IsTurn (taken_locks t.state.locks) (server.thefts t now)
  begun = thefts_turn (taken_locks t.state.locks) t now (first_turn t empty sound)

  pub served_after_thefts : AreServed (server.thefts t now).state
  served_after_thefts = rows_served (taken_locks t.state.locks) (server.thefts t now).state begun.sound

  pub room_after_thefts : HasRoom (server.thefts t now).state
  room_after_thefts =
      let stable = same_stable (server.thefts t now).state t.state (thefts_crash t now) in
      let few : taken_locks (server.thefts t now).state.locks ≤ taken_locks t.state.locks = begun.sound.held.few in
      record {
        locks = omega (arith, few, room.locks);
        inodes = subst (λ (x : Stable). x.names.next < 2 ^ 32 - 1) (sym stable) room.inodes;
        births = subst (λ (x : Stable). x.extents.births < 2 ^ 62) (sym stable) room.births;
      }

  taken : (i : ServerInput) → comes_fit i ≡ true → IsTurn (taken_locks t.state.locks + 1) (server.take_input (server.thefts t now) now i)
  taken i e = input_turn (taken_locks t.state.locks) now word (server.thefts t now) i begun room_after_thefts room.locks e

  pub room_for_grants : (i : ServerInput) → comes_fit i ≡ true → taken_locks (server.suspecting_on (server.take_input (server.thefts t now) now i) now i).state.locks < 2 ^ 32
  room_for_grants i e =
      let few : taken_locks (server.suspecting_on (server.take_input (server.thefts t now) now i) now i).state.locks ≤ taken_locks t.state.locks + 1
      = (suspecting_on_turn (taken_locks t.state.locks + 1) now word (server.take_input (server.thefts t now) now i) i (taken i e)).sound.held.few in
      omega (arith, few, room.locks)

  -- the whole step
  pub step_turn : (i : ServerInput) → comes_fit i ≡ true → IsTurn (taken_locks t.state.locks + 1) (stepped t now i)
  step_turn i e = passed_turn (taken_locks t.state.locks + 1) now word (server.take_input (server.thefts t now) now i) i (omega (arith, room.locks)) (taken i e)

-- the bound may be what holds
pub exact_sound : (n : ℕ) (s : ServerState) → IsSoundTo n s → IsSound s
exact_sound n s k =
    record {
      id = k.id;
      epoch = k.epoch;
      held = record { rows = k.held.rows; waits = k.held.waits; few = omega arith; epoch = k.held.epoch; limit = k.held.limit };
      kept = k.kept;
      timed = k.timed;
      graced = k.graced;
      named = k.named;
      mapped = k.mapped;
    }

-- A step fails in the rule for its input, or in its passes.
pub step_fails_input : (t mid new : ServerTurn) (now : Stamp) (i : ServerInput) → Keeps t mid → mid ≡ server.thefts t now → Fails mid new (server.take_input mid now i) → Fails t new (stepped t now i)
step_fails_input t mid new now i k e f = after (subst (λ (u : ServerTurn). Fails mid new (server.take_input u now i)) e f)
  where
    after : Fails mid new (server.take_input (server.thefts t now) now i) → Fails t new (stepped t now i)
    after (inl g) = inl (g ∙ k)
    after (inr g) = inr (g ∙ sym (passes_crash (server.take_input (server.thefts t now) now i) now i))

pub step_fails_passes : (t mid new : ServerTurn) (now : Stamp) (i : ServerInput) → mid ≡ server.take_input (server.thefts t now) now i → Keeps mid new → Fails t new (stepped t now i)
step_fails_passes t mid new now i e k = inr (k ∙ ap (λ (u : ServerTurn). crash u.state) e ∙ sym (passes_crash (server.take_input (server.thefts t now) now i) now i))

-- A step of the definition begins without outputs.
pub stepped_is : (t : ServerTurn) (now : Stamp) (i : ServerInput) → t.out ≡ [] → stepped t now i ≡ server.server_step t.state now i
unfolding server.server_step
stepped_is t now i e = λ j. stepped (record { state = t.state; out = e j }) now i

-- What holds after a step, and after a crash in it.
pub step_sound : (t : ServerTurn) (now : Stamp) (i : ServerInput) → t.out ≡ [] → IsSound t.state → HasRoom t.state → is_word64 now.0 ≡ true → comes_fit i ≡ true → IsSound (stepped t now i).state
step_sound t now i e k r w f = exact_sound (taken_locks t.state.locks + 1) (stepped t now i).state (step_turn t now e k r w i f).sound

pub step_sent : (t : ServerTurn) (now : Stamp) (i : ServerInput) → t.out ≡ [] → IsSound t.state → HasRoom t.state → is_word64 now.0 ≡ true → comes_fit i ≡ true → list_all is_sent (stepped t now i).out ≡ true
step_sent t now i e k r w f = (step_turn t now e k r w i f).sent

pub fails_sound : (t new rule : ServerTurn) → IsSound t.state → IsSound rule.state → Fails t new rule → IsSound (crash new.state)
fails_sound t new rule k l (inl e) = subst IsSound (sym e) (crash_sound (taken_locks t.state.locks) t.state k)
fails_sound t new rule k l (inr e) = subst IsSound (sym e) (crash_sound (taken_locks rule.state.locks) rule.state l)

-- What a step leaves of its node.
pub ran_is : (node : ServerNode) (t left : ServerTurn) (running : Bool) (out : List Output) (now : Stamp) (i : ServerInput) → t.state ≡ node.state → t.out ≡ [] → running ≡ node.running →
    left.state ≡ (stepped t now i).state → out ≡ (stepped t now i).out →
    server.node_turn node (server.server_step node.state now i) ≡ record { node = record { state = left.state; running = running }; out = out }
ran_is node t left running out now i s e r f g =
    let q : stepped t now i ≡ server.server_step t.state now i = stepped_is t now i e in
    let begins : server.server_step node.state now i ≡ stepped t now i = ap (λ (x : ServerState). server.server_step x now i) (sym s) ∙ sym q in
    λ j. record {
      node = record { state = (ap (λ (u : ServerTurn). u.state) begins ∙ sym f) j; running = sym r j };
      out = (ap (λ (u : ServerTurn). u.out) begins ∙ sym g) j;
    }

-- What is left of a node that ran out of memory in a step.
pub crashed_is : (node : ServerNode) (t new : ServerTurn) (left : ServerState) (now : Stamp) (i : ServerInput) → t.state ≡ node.state → t.out ≡ [] → left ≡ crash new.state → Fails t new (stepped t now i) →
    (server.crash_node node ≡ record { state = left; running = false }) ⊎ (server.crash_node (server.node_turn node (server.server_step node.state now i)).node ≡ record { state = left; running = false })
crashed_is node t new left now i s e f (inl g) = inl (λ j. record { state = (ap crash (sym s) ∙ sym g ∙ sym f) j; running = false })
crashed_is node t new left now i s e f (inr g) =
    let q : stepped t now i ≡ server.server_step t.state now i = stepped_is t now i e in
    let begins : server.server_step node.state now i ≡ stepped t now i = ap (λ (x : ServerState). server.server_step x now i) (sym s) ∙ sym q in
    inr (λ j. record { state = (ap (λ (u : ServerTurn). crash u.state) begins ∙ sym g ∙ sym f) j; running = false })

pub either_back : {A : Type 0} {a b c : A} → (b ≡ a) ⊎ (c ≡ a) → (a ≡ b) ⊎ (a ≡ c)
either_back (inl e) = inl (sym e)
either_back (inr e) = inr (sym e)

-- The rule for a message adds at most one answer, to the sender.
message_adds : (t : ServerTurn) (n : ℕ) (now : Stamp) (m : Message) → IsTurn n t → HasRoom t.state → n < 2 ^ 32 - 1 → fits m ≡ true → Adds m.header.from 1 t.out (server.receive t now m.header m.body).out
unfolding server.receive fits
message_adds t n now m p room few e =
    let q = and_parts (is_header (kind_of_body m.body) m.header) (is_body m.body) e in
    let a = nothing_added m.header.from t.out in
    cond_either (λ (u : ServerTurn). Adds m.header.from 1 t.out u.out) (server.is_for t.state m.header) (server.receive_from t now m.header m.body) t
    (λ f. let k = message_is t.state m.header f m.body q.0 in from_adds m.header t.out n t p now k.asked room few a m.body q.1)
    (λ f. record { added = a.added; is = a.is; few = omega arith; named = a.named })

pub answers_named : (s : ServerState) (now : Stamp) (m : Message) → IsSound s → HasRoom s → now.0 ≤ 2 ^ 62 → fits m ≡ true → AnswersAreNamed s now m
unfolding server.take_input
answers_named s now m k r b e =
    message_adds (server.thefts (turn s []) now) (taken_locks s.locks) now m (begun (turn s []) now refl k r (moment_word now.0 b))
    (room_after_thefts (turn s []) now refl k r (moment_word now.0 b)) r.locks e

-- A node that runs goes on running, or runs out of memory.
ok_is : {A B : Type 0} (b : Bool) (x y : A) (z : B) → b ≡ true → (if b then Ok x else Err z) ≡ Ok y → x ≡ y
ok_is true x y z e f = cc
ok_is false x y z e f = cc

no_err : {A B : Type 0} (b : Bool) (x : A) (z w : B) → b ≡ true → (if b then Ok x else Err z) ≡ Err w → ⊥
no_err true x z w e f = cc
no_err false x z w e f = cc

pub goes_on : (old new : ServerNode) (r : Result (List Output) StepFault) (now : Stamp) (i : ServerInput) → old.running ≡ true → Steps old new r (server.node_step old now i) → OnOk r (new.running ≡ true)
unfolding server.node_step
goes_on old new (Ok out) now i e f =
    let same = ok_is old.running (server.node_turn old (server.server_step old.state now i)) (record { node = new; out = out }) Crashed e f in
    sym (ap (λ (t : server.NodeTurn). t.node.running) same) ∙ e
goes_on old new (Err x) now i e f = tt

pub only_memory : (old new : ServerNode) (r : Result (List Output) StepFault) (now : Stamp) (i : ServerInput) → old.running ≡ true → Steps old new r (server.node_step old now i) → IfErr r (λ x. x ≡ faults.Memory)
unfolding server.node_step
only_memory old new (Ok out) now i e f = tt
only_memory old new (Err faults.Memory) now i e f = refl
only_memory old new (Err faults.Crashed) now i e f = elim (no_err old.running (server.node_turn old (server.server_step old.state now i)) Crashed Crashed e f.0) [ ]
