-- A whole step of a client: at most 12 messages and 16,468 commands, changes and losses, if at most 20 operations are pending, at most 64 pages are dirty
-- at each server, and there are at most four servers.
use Rattle.st_lemmas.proofs.Words
use Words.{◌≡◌, ◌⊎◌, ℕ, suc, ◌+◌, ◌*◌, ◌≤◌, ◌<◌, Bool, true, false, List, [], ◌∷◌, refl, sym, subst, inl, inr, arith, if◌then◌else◌, length, leb-false}
use Words.{ServerId, Stamp, AppAnswer, ClientInput, length-append}
use Words.answers
use Words.outputs
use Words.Client as cl
use Words.ClientPasses as cp
use Words.ClientReplies as cr
use Words.ClientState.{Association, ClientState, ClientTurn, Turn, at_each, at_these, client_turn, enter, is_at, leave, only_at, server_of, with_associations}
use Words.Lists.{Has}
use Words.Tables.{has_append}
use Rattle.st_laws_steps.specs.Client.Inputs as taking
use Rattle.st_laws_steps.specs.Client.Inputs.{Taken}
use Rattle.st_laws_steps.proofs.Client.Taking.{taken}
use Rattle.st_laws_bounds.proofs.Counters.Weights.{commands_rise, of_command, of_message, of_rise, weigh, weigh_both}
use Rattle.st_laws_bounds.proofs.FewMessages.Passing.{C, few_in_nothing, few_in_passes}
use Rattle.st_laws_bounds.proofs.FewMessages.Receiving.{few_in_finish, few_in_receive, few_in_lose, few_in_take}

-- at most 64 pages are dirty at each of these servers
abbrev pub EachLow : List Association → Type 0
EachLow al = (a : Association) → Has a al → length a.store.pages.dirty ≤ 64

-- What a rule at that many servers leaves.
record Goes (k c m n more : ℕ) (t u : ClientTurn) : Type 0 where
  many : length u.state.associations ≡ more + length t.state.associations
  ops : length u.state.operations ≤ k * n + length t.state.operations
  each : EachLow u.state.associations
  commands : weigh of_rise u.out ≤ c * n + weigh of_rise t.out
  messages : weigh of_message u.out ≤ m * n + weigh of_message t.out

one_more : (k n : ℕ) → k * suc n ≡ k + k * n
one_more k n = grind arith

-- a rule that costs this much if at most 20 operations are pending and at most 64 pages are dirty
abbrev Rule : ℕ → ℕ → ℕ → (Turn → Turn) → Type 0
Rule k c m rule = (t : Turn) → length t.operations ≤ 20 → length t.here.store.pages.dirty ≤ 64 → C k c m t (rule t)

these : (k c m : ℕ) (rule : Turn → Turn) → Rule k c m rule → (al : List Association) (t : ClientTurn) → length t.state.operations + k * length al ≤ 20 → EachLow al → EachLow t.state.associations →
    Goes k c m (length al) (length al) t (at_these rule al t)
unfolding at_these
these k c m rule f [] t few low each =
    record { many = omega arith; ops = omega arith; each = each; commands = omega arith; messages = omega arith }
these k c m rule f (a ∷ al) t few low each = go (λ room each. these k c m rule f al (leave t (rule (enter t a))) room (λ b i. low b (inr i)) each)
  where
    u : Turn
    u = rule (enter t a)

    x : C k c m (enter t a) u
    x = f (enter t a) (let h = one_more k (length al) in omega (arith, few, h)) (low a (inl refl))

    one : (b : Association) → Has b t.state.associations ⊎ Has b (u.here ∷ []) → length b.store.pages.dirty ≤ 64
    one b (inl i) = each b i
    one b (inr (inl e)) = subst (λ (z : Association). length z.store.pages.dirty ≤ 64) (sym e) (x.dirty (low a (inl refl)))
    one b (inr (inr i)) = absurd i

    go : (length (leave t u).state.operations + k * length al ≤ 20 → EachLow (leave t u).state.associations → Goes k c m (length al) (length al) (leave t u) (at_these rule al (leave t u))) →
        Goes k c m (length (a ∷ al)) (length (a ∷ al)) t (at_these rule al (leave t u))
    go rest =
        let y = rest (let e = x.ops in let h = one_more k (length al) in omega (arith, e, few, h)) (λ b i. one b (has_append t.state.associations (u.here ∷ []) b i)) in
        let a1 = x.ops in let a2 = x.commands in let a3 = x.messages in
        let b1 = y.ops in let b2 = y.commands in let b3 = y.messages in let b4 = y.many in
        let c1 = one_more k (length al) in let c2 = one_more c (length al) in let c3 = one_more m (length al) in let c4 = length-append t.state.associations (u.here ∷ []) in
        record { many = omega (arith, b4, c4); ops = omega (arith, a1, b1, c1); each = y.each; commands = omega (arith, a2, b2, c2); messages = omega (arith, a3, b3, c3) }

at_all : (k c m : ℕ) (rule : Turn → Turn) → Rule k c m rule → (t : ClientTurn) → length t.state.operations + k * length t.state.associations ≤ 20 → EachLow t.state.associations →
    Goes k c m (length t.state.associations) 0 t (at_each rule t)
unfolding at_each
at_all k c m rule f t few low =
    let z = these k c m rule f t.state.associations (with_associations [] t) few low (λ a i. absurd i) in
    record { many = let e = z.many in omega (arith, e); ops = z.ops; each = z.each; commands = z.commands; messages = z.messages }

-- What holds of a client.
pub record Few (s : ClientState) : Type 0 where
  pub ops : length s.operations ≤ 20
  pub many : length s.associations ≤ 4
  pub each : EachLow s.associations

-- What a part of a step leaves.
record Left (c m : ℕ) (t u : ClientTurn) : Type 0 where
  few : Few u.state
  commands : weigh of_rise u.out ≤ c + weigh of_rise t.out
  messages : weigh of_message u.out ≤ m + weigh of_message t.out

-- a rule that makes no operation pend, at each of four servers at most
each_left : (c m : ℕ) (rule : Turn → Turn) → Rule 0 c m rule → (t : ClientTurn) → Few t.state → Left (4 * c) (4 * m) t (at_each rule t)
each_left c m rule f t h =
    let z = at_all 0 c m rule f t (let o = h.ops in omega (arith, o)) h.each in
    let a = z.ops in let b = z.many in let d = z.commands in let e = z.messages in let o = h.ops in let n = h.many in
    let p = four c (length t.state.associations) n in let q = four m (length t.state.associations) n in
    record {
      few = record { ops = omega (arith, a, o); many = omega (arith, b, n); each = z.each };
      commands = omega (arith, d, p);
      messages = omega (arith, e, q);
    }
  where
    four : (x n : ℕ) → n ≤ 4 → x * n ≤ 4 * x
    four x n l = grind arith

left_none : (c m : ℕ) (t : ClientTurn) → Few t.state → Left c m t t
left_none c m t h = record { few = h; commands = omega arith; messages = omega arith }

said : (c m : ℕ) (t : ClientTurn) (op : ℕ) (a : AppAnswer) → Few t.state → Left c m t (cl.answered_at_once t op a)
said c m t op a h =
    let x = weigh_both of_rise t.out (outputs.Answer op a ∷ []) in let y = weigh_both of_message t.out (outputs.Answer op a ∷ []) in
    record { few = h; commands = omega (arith, x); messages = omega (arith, y) }

-- an ask is one more operation at its server, if fewer than 16 are pending
takes : (s : ServerId) (op : ℕ) (ask : Rattle.st_messages.specs.declared.ask.Ask.Ask) → Rule 1 0 0 (only_at s (cl.take_ask op ask))
unfolding only_at
takes s op ask t few low = go (is_at s t.here)
  where
    go : (b : Bool) → C 1 0 0 t (if b then cl.take_ask op ask t else t)
    go true = few_in_take op ask t
    go false = few_in_nothing 1 0 0 t

asked : (t : ClientTurn) (s : ServerId) (op : ℕ) (ask : Rattle.st_messages.specs.declared.ask.Ask.Ask) → length t.state.operations < 16 → Few t.state → Left 0 4 t (at_each (only_at s (cl.take_ask op ask)) t)
asked t s op ask room h =
    let n = h.many in
    let z = at_all 1 0 0 (only_at s (cl.take_ask op ask)) (takes s op ask) t (omega (arith, room, n)) h.each in
    let a = z.ops in let b = z.many in let d = z.commands in let e = z.messages in
    record {
      few = record { ops = omega (arith, a, room, n); many = omega (arith, b, n); each = z.each };
      commands = omega (arith, d);
      messages = omega (arith, e);
    }

input_left : (now : Stamp) (t u : ClientTurn) (input : ClientInput) → Taken t now input u → Few t.state → Left 0 4 t u
input_left now t _ _ (taking.Nothing i) h = left_none 0 4 t h
input_left now t _ _ (taking.Full op ask e) h = said 0 4 t op answers.OpsFull h
input_left now t _ _ (taking.Unknown op ask e f) h = said 0 4 t op answers.NoFile h
input_left now t _ _ (taking.Takes op ask e f) h = asked t (server_of ask) op ask (leb-false 16 (length t.state.operations) e) h
input_left now t _ _ (taking.Receives m e) h = each_left 0 1 (cr.receive_at now m.header m.body) (λ u few low. few_in_receive now m.header m.body u) t h
input_left now t _ _ (taking.Finishes number result) h =
    let z = each_left 0 0 (cl.finish number result) (λ u few low. few_in_finish number result u) t h in let m = z.messages in
    record { few = z.few; commands = z.commands; messages = omega (arith, m) }

-- the whole step
pub record Steps (u : ClientTurn) : Type 0 where
  pub few : Few u.state
  pub rises : weigh of_rise u.out ≤ 16468
  pub commands : weigh of_command u.out ≤ 16468
  pub messages : weigh of_message u.out ≤ 12

pub step_costs : (s : ClientState) (now : Stamp) (input : ClientInput) → Few s → Steps (cl.client_step s now input)
unfolding cl.client_step cl.work cl.losses
step_costs s now input h =
    let t = cl.losses (client_turn s []) now in
    let u = cl.take_input t now input in
    let a = each_left 1 0 (cl.lose now) (λ v few low. few_in_lose now v) (client_turn s []) h in
    let b = input_left now t u input (taken t now input) a.few in
    let c = each_left 4116 2 (cp.passes now (cl.is_tick input)) (λ v few low. few_in_passes now (cl.is_tick input) v few low) u b.few in
    let d = a.commands in let e = b.commands in let f = c.commands in let g = a.messages in let i = b.messages in let j = c.messages in
    let k = commands_rise (at_each (cp.passes now (cl.is_tick input)) u).out in
    record { few = c.few; rises = omega (arith, d, e, f); commands = omega (arith, d, e, f, k); messages = omega (arith, g, i, j) }
