-- A step of a client: what it answers was pending and no longer is, and the other pending operations stay in their order.
use Rattle.std.proofs.Common.{◌≡◌, ℕ, Bool, true, not, ◌||◌, ◌==◌, List, [], ◌∷◌, ◌++◌, map, refl, sym, ap, ◌∙◌, subst, inl, inr, append_assoc}
use Rattle.std.proofs.lemmas.Bool.{eq-eqb, ne_eqb}
use Rattle.std.proofs.lemmas.List.{append-nil}
use Rattle.st_base.specs.declared.ids.ClientId.{ClientId}
use Rattle.st_base.specs.declared.ids.ServerId.{ServerId}
use Rattle.st_base.specs.declared.ids.Stamp.{Stamp}
use Rattle.st_messages.specs.declared.answer.AppAnswer.{AppAnswer}
use Rattle.st_messages.specs.declared.answer.AppAnswer.TheVariants as answers
use Rattle.st_messages.specs.declared.ask.Ask.{Ask}
use Rattle.st_messages.specs.declared.output.Output.{Output}
use Rattle.st_messages.specs.declared.output.Output.TheVariants as outputs
use Rattle.st_rules.specs.declared.client.ClientInput.{ClientInput}
use Rattle.st_rules.specs.declared.client.ClientInput.TheVariants as inputs
use Rattle.st_rules.specs.declared.client.Operation.{Operation}
use Rattle.st_rules.specs.Client as cl
use Rattle.st_rules.specs.ClientState as cs
use Rattle.st_rules.specs.ClientState.{Association, ClientState, client_turn}
use Rattle.st_lemmas.specs.Lists.{Has}
use Rattle.st_lemmas.proofs.Lookups.{if_false, if_true, or_right}
use Rattle.st_laws_steps.specs.Lives.Lives.{Once, server_number}
use Rattle.st_laws_pages.proofs.Asks.Asks.{Apart, map_more}
use Rattle.st_laws_pages.proofs.Asks.Client.{Each, Lasting, Lasts, Neutral, key}
use Rattle.st_laws_pages.proofs.Asks.Places.{Knows}
use Rattle.st_laws_pages.proofs.Asks.Step.{Takes, TakesAsk, stepped}
use Rattle.st_laws_pages.proofs.Causes.Placed.{InputTells}
use Rattle.st_laws_volume.proofs.AskSteps.{is_open_op, without_ask}

-- What outputs answer is no longer open.
abbrev pub closed_by : Output → List (ℕ × Ask) → List (ℕ × Ask)
closed_by (outputs.Answer op a) ks = without_ask op ks
closed_by o ks = ks

abbrev pub closed_all : List Output → List (ℕ × Ask) → List (ℕ × Ask)
closed_all [] ks = ks
closed_all (o ∷ os) ks = closed_all os (closed_by o ks)

pub closed_last : (os : List Output) (o : Output) (ks : List (ℕ × Ask)) → closed_all (os ++ o ∷ []) ks ≡ closed_by o (closed_all os ks)
closed_last [] o ks = refl
closed_last (x ∷ os) o ks = closed_last os o (closed_by x ks)

-- Each answer is one to an open ask.
abbrev pub AnswersOne : Output → List (ℕ × Ask) → Type 0
AnswersOne (outputs.Answer op a) ks = is_open_op op ks ≡ true
AnswersOne o ks = Unit {0}

abbrev pub AnswersOpen : List Output → List (ℕ × Ask) → Type 0
AnswersOpen [] ks = Unit {0}
AnswersOpen (o ∷ os) ks = AnswersOne o ks × AnswersOpen os (closed_by o ks)

open_last : (os : List Output) (o : Output) (ks : List (ℕ × Ask)) → AnswersOpen os ks → AnswersOne o (closed_all os ks) → AnswersOpen (os ++ o ∷ []) ks
open_last [] o ks h k = (k, tt)
open_last (x ∷ os) o ks h k = (h.0, open_last os o (closed_by x ks) h.1 k)

open_mid : (k : ℕ × Ask) (xs ys : List (ℕ × Ask)) → is_open_op k.0 (xs ++ k ∷ ys) ≡ true
open_mid k [] ys = ap (λ b. b || is_open_op k.0 ys) (eq-eqb k.0 k.0 refl)
open_mid k (x ∷ xs) ys = or_right (x.0 == k.0) (is_open_op k.0 (xs ++ k ∷ ys)) (open_mid k xs ys)

-- Lists of asks without one of them.
has_skip : (k p : ℕ × Ask) (xs ys : List (ℕ × Ask)) → Has p (xs ++ ys) → Has p (xs ++ k ∷ ys)
has_skip k p [] ys h = inr h
has_skip k p (x ∷ xs) ys (inl e) = inl e
has_skip k p (x ∷ xs) ys (inr h) = inr (has_skip k p xs ys h)

has_mid : (k : ℕ × Ask) (xs ys : List (ℕ × Ask)) → Has k (xs ++ k ∷ ys)
has_mid k [] ys = inl refl
has_mid k (x ∷ xs) ys = inr (has_mid k xs ys)

apart_less : (k : ℕ × Ask) (xs ys : List (ℕ × Ask)) → Apart (xs ++ k ∷ ys) → Apart (xs ++ ys)
apart_less k [] ys a = a.rest
apart_less k (x ∷ xs) ys a = record { first = λ j h. a.first j (has_skip k j xs ys h); rest = apart_less k xs ys a.rest }

without_none : (op : ℕ) (ks : List (ℕ × Ask)) → ((j : ℕ × Ask) → Has j ks → op ≡ j.0 → ⊥) → without_ask op ks ≡ ks
without_none op [] h = refl
without_none op (k ∷ ks) h =
    if_true (not (k.0 == op)) (k ∷ without_ask op ks) (without_ask op ks) (ap not (ne_eqb k.0 op (λ q. h k (inl refl) (sym q))))
    ∙ ap (λ js. k ∷ js) (without_none op ks (λ j i. h j (inr i)))

without_mid : (k : ℕ × Ask) (xs ys : List (ℕ × Ask)) → Apart (xs ++ k ∷ ys) → without_ask k.0 (xs ++ k ∷ ys) ≡ xs ++ ys
without_mid k [] ys a =
    if_false (not (k.0 == k.0)) (k ∷ without_ask k.0 ys) (without_ask k.0 ys) (ap not (eq-eqb k.0 k.0 refl))
    ∙ without_none k.0 ys a.first
without_mid k (x ∷ xs) ys a =
    if_true (not (x.0 == k.0)) (x ∷ without_ask k.0 (xs ++ k ∷ ys)) (without_ask k.0 (xs ++ k ∷ ys)) (ap not (ne_eqb x.0 k.0 (a.first k (has_mid k xs ys))))
    ∙ ap (λ js. x ∷ js) (without_mid k xs ys a.rest)

-- The open asks so far: those at the start without those that were answered.
record Open (start ks : List (ℕ × Ask)) (out : List Output) : Type 0 where
  closed : closed_all out start ≡ ks
  apart : Apart ks
  opened : AnswersOpen out start

module _ (n : ℕ) (c : ClientId) (start : List (ℕ × Ask)) where
  abbrev Free : ServerId → Type 0
  Free s = Unit {0}

  abbrev Asks : List (ℕ × Ask) → List Operation → List Output → Type 0
  Asks tail ops out = Open start (map key ops ++ tail) out

  split : (tail : List (ℕ × Ask)) (xs ys : List Operation) (o : Operation) → map key (xs ++ o ∷ ys) ++ tail ≡ map key xs ++ key o ∷ (map key ys ++ tail)
  split tail xs ys o = ap (λ z. z ++ tail) (map_more xs (o ∷ ys)) ∙ append_assoc (map key xs) (key o ∷ map key ys) tail

  joined : (tail : List (ℕ × Ask)) (xs ys : List Operation) → map key xs ++ (map key ys ++ tail) ≡ map key (xs ++ ys) ++ tail
  joined tail xs ys = sym (append_assoc (map key xs) (map key ys) tail) ∙ ap (λ z. z ++ tail) (sym (map_more xs ys))

  kept : (ks : List (ℕ × Ask)) (out : List Output) (o : Output) → closed_by o ks ≡ ks → ((js : List (ℕ × Ask)) → AnswersOne o js) → Open start ks out →
      Open start ks (out ++ o ∷ [])
  kept ks out o e n h =
      record {
        closed = closed_last out o start ∙ (ap (closed_by o) h.closed ∙ e);
        apart = h.apart;
        opened = open_last out o start h.opened (n (closed_all out start));
      }

  gone : (tail : List (ℕ × Ask)) (xs ys : List Operation) (out : List Output) (o : Operation) (a : AppAnswer) → Asks tail (xs ++ o ∷ ys) out →
      Asks tail (xs ++ ys) (out ++ outputs.Answer o.op a ∷ [])
  gone tail xs ys out o a h =
      let g : Open start (map key xs ++ key o ∷ (map key ys ++ tail)) out = subst (λ z. Open start z out) (split tail xs ys o) h in
      let r : Open start (map key xs ++ (map key ys ++ tail)) (out ++ outputs.Answer o.op a ∷ []) = record {
        closed =
            closed_last out (outputs.Answer o.op a) start ∙ (ap (without_ask o.op) g.closed ∙ without_mid (key o) (map key xs) (map key ys ++ tail) g.apart);
        apart = apart_less (key o) (map key xs) (map key ys ++ tail) g.apart;
        opened =
            open_last out (outputs.Answer o.op a) start g.opened
            (ap (is_open_op o.op) g.closed ∙ open_mid (key o) (map key xs) (map key ys ++ tail));
      } in
      subst (λ z. Open start z (out ++ outputs.Answer o.op a ∷ [])) (joined tail xs ys) r

  neutral : (o : Output) (ks : List (ℕ × Ask)) → Neutral c o → closed_by o ks ≡ ks
  neutral (outputs.Send m) ks h = refl
  neutral (outputs.Note x) ks h = refl
  neutral (outputs.Submit number at what) ks h = absurd h
  neutral (outputs.Answer op a) ks h = absurd h

  answers_none : (o : Output) → Neutral c o → (ks : List (ℕ × Ask)) → AnswersOne o ks
  answers_none (outputs.Send m) h ks = tt
  answers_none (outputs.Note x) h ks = tt
  answers_none (outputs.Submit number at what) h ks = absurd h
  answers_none (outputs.Answer op a) h ks = absurd h

  lasts : (tail : List (ℕ × Ask)) → Lasts n Free c (Asks tail)
  lasts tail =
      record {
        says = λ ops out o m h. kept (map key ops ++ tail) out o (neutral o (map key ops ++ tail) m) (answers_none o m) h;
        submits = λ ops out s number at what u o h. kept (map key ops ++ tail) out (outputs.Submit number at what) refl (λ ks. tt) h;
        answered = λ xs ys out o a e h. gone tail xs ys out o a h;
        reads = λ xs ys out o bytes u h. gone tail xs ys out o (answers.Read bytes) h;
        changes =
            λ xs ys out o x m u h. gone tail xs ys (out ++ outputs.Note x ∷ []) o answers.Written
            (kept (map key (xs ++ o ∷ ys) ++ tail) out (outputs.Note x) refl (λ ks. tt) h);
        stages = λ xs ys out e h. subst (λ z. Open start (z ++ tail) out) e h;
      }

  -- an ask that comes is pending from now on, or is answered at once
  asks_taken : (op : ℕ) (ask : Ask) → TakesAsk (Asks ((op, ask) ∷ [])) (Asks []) op ask
  asks_taken op ask =
      record {
        enqueues =
            λ ops out h. subst (λ z. Open start z out)
            (sym (map_more ops (cs.new_operation op ask ∷ [])) ∙ sym (append-nil (map key (ops ++ cs.new_operation op ask ∷ [])))) h;
        at_once = λ ops out a e h.
            record {
              closed = closed_last out (outputs.Answer op a) start ∙ (ap (without_ask op) h.closed ∙ without_mid (op, ask) (map key ops) [] h.apart);
              apart = apart_less (op, ask) (map key ops) [] h.apart;
              opened = open_last out (outputs.Answer op a) start h.opened (ap (is_open_op op) h.closed ∙ open_mid (op, ask) (map key ops) []);
            };
      }

-- the ask that comes
abbrev pub coming : ClientInput → List (ℕ × Ask)
coming (inputs.App op ask) = (op, ask) ∷ []
coming input = []

-- what a step of a client leaves of its asks
pub record StepCloses (s : ClientState) (now : Stamp) (input : ClientInput) : Type 0 where
  pub closed : closed_all (cl.client_step s now input).out (map key s.operations ++ coming input) ≡ map key (cl.client_step s now input).state.operations
  pub opened : AnswersOpen (cl.client_step s now input).out (map key s.operations ++ coming input)

pub step_closes : (n : ℕ) (c : ClientId) (s : ClientState) (now : Stamp) (input : ClientInput) → s.id ≡ c → Once (map server_number s.associations) →
    ((a : Association) → Has a s.associations → Knows n a.server a.store.extents) → InputTells n input →
    Apart (map key s.operations ++ coming input) → StepCloses s now input
step_closes n c s now input id once knows told apart =
    record { closed = ended.closed ∙ append-nil (map key (cl.client_step s now input).state.operations); opened = ended.opened }
  where
    start : List (ℕ × Ask)
    start = map key s.operations ++ coming input

    takes : (i : ClientInput) → InputTells n i → Takes n (Asks n c start (coming i)) (Asks n c start []) i
    takes inputs.Tick t = λ ops out h. h
    takes (inputs.App op ask) t = asks_taken n c start op ask
    takes (inputs.Control m) t = (λ ops out h. h, t)
    takes (inputs.Done number result) t = λ ops out h. h

    begun :
        Each n (Free n c start) c s.config (Asks n c start (coming input)) (lasts n c start (coming input)) (Lasting s.config now (Free n c start))
        (client_turn s [])
    begun = record { id = id; config = refl; done = record { closed = refl; apart = apart; opened = tt }; own = knows; cond = λ a i l. tt }

    ended : Open start (map key (cl.client_step s now input).state.operations ++ []) (cl.client_step s now input).out
    ended =
        (stepped n (Free n c start) c s.config (Asks n c start (coming input)) (Asks n c start []) (lasts n c start (coming input))
        (lasts n c start []) s now input once (takes input told) begun).done
