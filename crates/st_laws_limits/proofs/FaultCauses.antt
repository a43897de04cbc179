-- In a step of a client of the third form each answer that reports a fault has a cause: in the input, or in what the client has before the step.
use Rattle.st_lemmas.proofs.Words
use Words.{◌≡◌, ◌≤◌, ◌⊎◌, ℕ, Bool, true, false, List, [], ◌∷◌, Option, Some, None, refl, subst, inl, inr, arith}
use Words.{le-leb, leb-true, nat_le, AppAnswer, Config, Message, Output, Stamp, Tag}
use Words.answers
use Words.outputs
use Words.Client as plain
use Words.ClientState.{Association, Turn}
use Words.Lists.{Has}
use Words.Tables.{and_true}
use Rattle.st_rules.specs.declared.client.ClientInput.TheVariants as inputs
use Rattle.st_promises.specs.Faults as faults
use Rattle.st_laws_steps.specs.Client.Losses.{Ends}
use Rattle.st_laws_steps.proofs.Client.Losing.{is_done}
use Rattle.st_third.specs.declared.event.ThirdInput.{ThirdInput}
use Rattle.st_third.specs.declared.event.ThirdInput.TheVariants as third
use Rattle.st_third.specs.declared.limits.Limits.{Limits}
use Rattle.st_third.specs.declared.output.ThirdOutput.{ThirdOutput}
use Rattle.st_third.specs.declared.output.ThirdOutput.TheVariants as says
use Rattle.st_third.specs.Client as client
use Rattle.st_third.specs.Leave as leaving
use Rattle.st_third.specs.Limits.{limited_association}
use Rattle.st_third.specs.Promises.{is_dirty_full_at}
use Rattle.st_third.specs.State.{Beside, ThirdClient, ThirdTurn, third_turn}
use Rattle.st_laws_third.specs.Changes.{AnswersRight, Heard, HeardFailure, HeardLeave, HeardMessage, ThirdChange, bounds, heard_end}
use Rattle.st_laws_third.proofs.Folds.{AnswerWord, Both, Given, KeepsBy, Provides, client_holds_by}
use Rattle.st_laws_third.proofs.Receiving.{receives}
use Rattle.st_laws_limits.proofs.FailedChanges.{PagesAt, done_comes, emptied_at, ends_at, full_before, later_at, turn_pages}
use Rattle.st_laws_limits.proofs.Pending.{loses}
use Rattle.st_laws_limits.proofs.PendingSteps.{each_waits, waiting}

module _ (k : Config) (m : Limits) (now : Stamp) (some : 1 ≤ m.dirty) (c : ThirdClient) (input : ThirdInput) where
  -- the input tells that the command of this number failed
  abbrev pub HasFailed : ℕ → Type 0
  HasFailed number = input ≡ third.Plain (inputs.Done number None)

  -- it is a message that refuses what was asked
  pub record HasRefused : Type 0 where
    pub message : Message
    pub is : input ≡ third.Plain (inputs.Control message)
    pub refuses : faults.refuses message.body ≡ true

  -- as many pages of a server are dirty as may be, and none of them makes room
  abbrev pub IsFull : Type 0
  IsFull = (a : Association) × Has a c.plain.associations × (is_dirty_full_at m a ≡ true)

  -- so it is before the step, or a command failed
  abbrev pub WasFull : Type 0
  WasFull = IsFull ⊎ ((number : ℕ) × HasFailed number)

  -- why an application may be answered so
  abbrev pub FineAnswer : AppAnswer → Type 0
  FineAnswer (answers.DiskFault number) = HasFailed number
  FineAnswer answers.NotHolder = HasRefused
  FineAnswer (answers.NoSpace free wanted) = HasRefused
  FineAnswer (answers.Refused code) = HasRefused
  FineAnswer answers.DirtyFull = WasFull
  FineAnswer answers.OpsFull = client.is_full m c ≡ true
  FineAnswer a = Unit {0}

  abbrev pub FineOutput : Output → Type 0
  FineOutput (outputs.Answer op a) = FineAnswer a
  FineOutput o = Unit {0}

  abbrev pub Fine : ThirdOutput → Type 0
  Fine (says.Plain o) = FineOutput o
  Fine o = Unit {0}

  -- what is heard came with the input
  abbrev Came : Heard → Type 0
  Came None = Unit {0}
  Came (Some (HeardMessage x)) = input ≡ third.Plain (inputs.Control x)
  Came (Some (HeardLeave l)) = Unit {0}
  Came (Some (HeardFailure number)) = HasFailed number

  abbrev EndsSo : Bool → Type 0
  EndsSo true = Unit {0}
  EndsSo false = (number : ℕ) × HasFailed number

  abbrev given : Given
  given = record { heard = Came; ended = EndsSo; at_once = FineAnswer }

  abbrev Good : ℕ → Association → Beside → Type 0
  Good n a b = PagesAt m n a × (is_dirty_full_at m a ≡ true → WasFull)

  refusal : (got : Heard) → Came got → (x : Message) → got ≡ Some (HeardMessage x) → faults.refuses x.body ≡ true → HasRefused
  refusal got g x e r = record { message = x; is = subst Came e g; refuses = r }

  answer_fine : (got : Heard) (t : ThirdTurn) → Came got → t.limits ≡ m → Good t.plain.next_command t.plain.here t.beside → (a : AppAnswer) →
      AnswersRight (bounds got t) t.plain a → FineAnswer a
  answer_fine got t g l f (answers.DiskFault number) r = subst Came r g
  answer_fine got t g l f answers.NotHolder r = refusal got g r.message r.is r.refuses
  answer_fine got t g l f (answers.NoSpace free wanted) r = refusal got g r.message r.is r.refuses
  answer_fine got t g l f (answers.Refused code) r = refusal got g r.message r.is r.refuses
  answer_fine got t g l f answers.DirtyFull r = f.1 (subst (λ x. is_dirty_full_at x t.plain.here ≡ true) l r)
  answer_fine got t g l f answers.OpsFull r = absurd r
  answer_fine got t g l f a r = tt

  word_fine : (got : Heard) (t : ThirdTurn) → Came got → t.limits ≡ m → Good t.plain.next_command t.plain.here t.beside → (o : ThirdOutput) →
      AnswerWord got t o → Fine o
  word_fine got t g l f (says.Plain (outputs.Answer op a)) r = answer_fine got t g l f a (r op a refl)
  word_fine got t g l f (says.Plain (outputs.Send x)) r = tt
  word_fine got t g l f (says.Plain (outputs.Submit number at what)) r = tt
  word_fine got t g l f (says.Plain (outputs.Note n)) r = tt
  word_fine got t g l f (says.Left op) r = tt
  word_fine got t g l f (says.Unsynced op ino) r = tt
  word_fine got t g l f (says.Ended s life end) r = tt

  changed : {got : Heard} (t u : ThirdTurn) → ThirdChange got now t u → t.limits ≡ m → Good t.plain.next_command t.plain.here t.beside →
      Good u.plain.next_command u.plain.here u.beside
  changed t u d l g =
      let z = turn_pages now m t u d l g.0 in (z.at, λ q. g.1 (full_before m t.plain.here u.plain.here g.0.few z.comes q))

  ended : (t : Turn) (b : Beside) (number : ℕ) (ok : Bool) (v : Turn) → EndsSo ok → Ends number ok t v → Good t.next_command t.here b →
      Good t.next_command v.here b
  ended t b number true v e x g =
      (ends_at m t number true v x g.0, λ q. g.1 (full_before m t.here v.here g.0.few (done_comes m t number v x g.0) q))
  ended t b number false v e x g = (ends_at m t number false v x g.0, λ q. inr e)

  nothing_full : (n : ℕ) (a : Association) → is_dirty_full_at m (limited_association m (plain.emptied a)) ≡ true → WasFull
  nothing_full n a q = let z = leb-true m.dirty 0 (and_true (nat_le m.dirty 0) _ q).0 in absurd (omega (arith, z, some))

  law : KeepsBy given k m now Good Fine
  law =
      record {
        change = λ t u d e l f g. changed t u d l g;
        word = λ got t h l g o r a. word_fine got t h l g o a;
        ends = ended;
        noted = λ t b g. (record { fit = g.0.fit; few = g.0.few }, g.1);
        emptied = λ n a. (emptied_at m n a, nothing_full n a);
        later = λ n o l a b g. (later_at m n o l a g.0, g.1);
        lost = λ s life. tt;
        ended = λ s life end. tt;
        at_once = λ op a r. r;
      }

  failed : (number : ℕ) (result : Option (Option (Tag × List ℕ))) → input ≡ third.Plain (inputs.Done number result) →
      EndsSo (is_done result) × Came (heard_end number (is_done result))
  failed number None e = ((number, e), e)
  failed number (Some b) e = (tt, tt)

  full : client.is_full m (client.losses m (third_turn c []) now).client ≡ true → client.is_full m c ≡ true
  unfolding client.losses
  full e =
      let a = each_waits m (leaving.lose now) (loses now) (third_turn c []) in
      let b = leb-true m.operations (waiting (client.losses m (third_turn c []) now).client) e in
      le-leb m.operations (waiting c) (omega (arith, a, b))

  provides : Provides given k m now Good Fine law c input
  provides =
      record {
        nothing = tt;
        message = λ h body e t f g. (Some (HeardMessage (record { header = h; body = body })), e, receives now h body t f);
        asked = λ op s e x. tt;
        failed = failed;
        full = full;
        missing = tt;
      }

  good_from : (as_ : List Association) (bs : List Beside) → ((a : Association) → Has a as_ → Has a c.plain.associations) →
      Both (λ a b. PagesAt m c.plain.next_command a) as_ bs → Both (Good c.plain.next_command) as_ bs
  good_from [] [] f p = tt
  good_from [] (b ∷ bs) f p = p
  good_from (a ∷ as_) [] f p = p
  good_from (a ∷ as_) (b ∷ bs) f p =
      record {
        fit = p.fit;
        one = (p.one, λ q. inl (a, f a (inl refl), q));
        rest = good_from as_ bs (λ x h. f x (inr h)) p.rest;
      }

  -- each word has its cause
  pub words_fine : c.plain.config ≡ k → Both (λ a b. PagesAt m c.plain.next_command a) c.plain.associations c.beside.besides → (o : ThirdOutput) →
      Has o (client.client_step m c now input).out → Fine o
  words_fine e p =
      (client_holds_by given k m now Good Fine law c input provides e (good_from c.plain.associations c.beside.besides (λ a h. h) p)).1
