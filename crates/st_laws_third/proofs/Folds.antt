-- A step of a client of the third form as a fold: what holds at each of its servers, and is kept by each change, holds after the step; and each word is one
-- that changes say.
use Rattle.st_lemmas.proofs.Words
use Words.{◌≡◌, ◌≤◌, ◌⊎◌, ℕ, ◌==◌, Bool, true, false, List, [], ◌∷◌, ◌++◌, Option, Some, None, length, map, refl, sym, ◌∙◌, subst, inl, inr, arith, if◌then◌else◌}
use Words.{AppAnswer, Body, ClientInput, Config, DemandedFile, DirtyPage, Header, HeldLock, Life, Output, ServerId, Stamp, Tag}
use Words.answers
use Words.notes
use Words.outputs
use Words.Client as plain
use Words.ClientLocks as locks
use Words.ClientPasses as passes
use Words.ClientState.{Association, ClientSession, Turn, is_at}
use Words.Lists.{Has}
use Words.Tables.{has_append}
use Rattle.st_rules.specs.declared.client.ClientInput.TheVariants as inputs
use Rattle.st_laws_steps.specs.Client.Client as client_changes
use Rattle.st_laws_steps.specs.Client.Losses.{Ends, Unknown, Passes, Hardens, Fails, Fit, SessionFresh}
use Rattle.st_laws_steps.proofs.Client.Losing.{is_done}
use Rattle.st_laws_steps.proofs.Client.Stepping.{ends_fit}
use Rattle.st_third.specs.declared.event.ThirdInput.{ThirdInput}
use Rattle.st_third.specs.declared.event.ThirdInput.TheVariants as third
use Rattle.st_third.specs.declared.limits.Limits.{Limits}
use Rattle.st_third.specs.declared.output.ThirdOutput.{ThirdOutput}
use Rattle.st_third.specs.declared.output.ThirdOutput.TheVariants as says
use Rattle.st_third.specs.Client as client
use Rattle.st_third.specs.Leave as leaving
use Rattle.st_third.specs.Limits.{limited_association}
use Rattle.st_third.specs.Replies.{receive, receive_at}
use Rattle.st_third.specs.State.{Beside, ThirdClient, ThirdClientTurn, ThirdTurn, all_said, at_each, at_these, enter, fresh_beside, leave, only_at, plain_output, plainly, session, third_turn}
use Rattle.st_third.specs.UsedOnce.{reduced}
use Rattle.st_laws_third.specs.Changes.{Begins, GivesBack, IsBeside, Leaves, Plainly, Reduces, Says, WaitsForRoom}
use Rattle.st_laws_third.specs.Changes.{AnswersRight, Heard, HeardLeave, HeardMessage, ThirdChange, ThirdChanges, ThirdFinishes, ThirdLeaves, ThirdLoses, ThirdPasses, HasLeft, IsLost, Lasts, Stays, Still, Then, bounds, heard_end, with_plain}
use Rattle.st_laws_third.proofs.Chains.{left_has, right_has}
use Rattle.st_laws_third.proofs.Facts.{WordRight, change_says, change_third}
use Rattle.st_laws_third.proofs.Finishing.{finishes, takes}
use Rattle.st_laws_third.proofs.Leaving.{loses, takes_leave}
use Rattle.st_laws_third.proofs.Passing.{passes_change}
use Rattle.st_laws_third.proofs.Receiving.{receives}

-- The next command's number doesn't fall.

plain_rises : (now : Stamp) (t u : Turn) → client_changes.Change now t u → t.next_command ≤ u.next_command
unfolding passes.submit_read passes.submit_write passes.submit_command
plain_rises now t _ (client_changes.Says _ o p) = omega arith
plain_rises now t _ (client_changes.Operates _ os) = omega arith
plain_rises now t _ (client_changes.Answers _ os ops a) = omega arith
plain_rises now t _ (client_changes.Greets _ g) = omega arith
plain_rises now t _ (client_changes.TellsLost _ lost) = omega arith
plain_rises now t _ (client_changes.Begins _ s a b c) = omega arith
plain_rises now t _ (client_changes.Follows _ s u e g) = omega arith
plain_rises now t _ (client_changes.Learns _ e u h) = omega arith
plain_rises now t _ (client_changes.Forgets _ ino p i) = omega arith
plain_rises now t _ (client_changes.Caches _ clean) = omega arith
plain_rises now t _ (client_changes.Writes _ s g p bytes x sv own y h i) = omega arith
plain_rises now t _ (client_changes.Reads _ ino p b i clean) = omega arith
plain_rises now t _ (client_changes.Submits _ s ino p d b e i k w) = omega arith

reduced_next : (t : ThirdTurn) (s : ClientSession) (d : DemandedFile) (ino : ℕ) → (reduced s (Some d) ino t.plain).next_command ≡ t.plain.next_command
unfolding passes.reduce_by passes.reduce_given passes.reduce_to locks.reduce_at locks.reduce_lock
reduced_next t s d ino = held (locks.lock_of s.locks d.ino)
  where
    held : (l : Option HeldLock) → (passes.reduce_by t.plain s ino (locks.reduce_lock s.locks d l)).next_command ≡ t.plain.next_command
    held None = refl
    held (Some l) = refl

change_rises : {got : Heard} (now : Stamp) (t u : ThirdTurn) → ThirdChange got now t u → t.plain.next_command ≤ u.plain.next_command
unfolding Rattle.st_third.specs.State.say plainly
change_rises now t _ (Plainly _ u c p) = plain_rises now t.plain u c
change_rises now t _ (Says _ o w) = omega arith
change_rises now t _ (Leaves _ ls k) = omega arith
change_rises now t _ (IsBeside _ b x) = omega arith
change_rises now t _ (WaitsForRoom _ n) = omega arith
change_rises now t _ (Begins _ epoch stamp e x w) = omega arith
change_rises now t _ (GivesBack _ s x e h) = omega arith
change_rises now t _ (Reduces _ s d ino e q i) = let z = reduced_next t s d ino in omega (arith, z)

ends_next : (number : ℕ) (ok : Bool) (t v : Turn) → Ends number ok t v → v.next_command ≡ t.next_command
unfolding plain.hardened
ends_next number ok t _ Unknown = refl
ends_next number ok t _ (Passes x e o) = refl
ends_next number ok t _ (Hardens x v e o w q) = refl
ends_next number ok t _ (Fails x v e o w q) = refl

-- Associations, each with what is beside it.

-- each fits, and so it is with each of them
abbrev pub Both : (Association → Beside → Type 0) → List Association → List Beside → Type 0
Both good [] [] = Unit {0}
Both good [] (b ∷ bs) = ⊥
Both good (a ∷ as_) [] = ⊥
Both good (a ∷ as_) (b ∷ bs) = record { fit : Fit a; one : good a b; rest : Both good as_ bs }

pub both_more : (good : Association → Beside → Type 0) (as_ : List Association) (bs : List Beside) (a : Association) (b : Beside) → Fit a → good a b →
    Both good as_ bs → Both good (as_ ++ a ∷ []) (bs ++ b ∷ [])
both_more good [] [] a b f g h = record { fit = f; one = g; rest = tt }
both_more good [] (d ∷ bs) a b f g h = absurd h
both_more good (c ∷ as_) [] a b f g h = absurd h
both_more good (c ∷ as_) (d ∷ bs) a b f g h = record { fit = h.fit; one = h.one; rest = both_more good as_ bs a b f g h.rest }

-- if each association fits, and has as many beside it
pub both_of : (good : Association → Beside → Type 0) (as_ : List Association) (bs : List Beside) → length bs ≡ length as_ →
    ((a : Association) → Has a as_ → Fit a) → ((a : Association) (b : Beside) → Has a as_ → Has b bs → good a b) → Both good as_ bs
both_of good [] [] e f g = tt
both_of good [] (b ∷ bs) e f g = cc e
both_of good (a ∷ as_) [] e f g = cc e
both_of good (a ∷ as_) (b ∷ bs) e f g =
    record {
      fit = f a (inl refl);
      one = g a b (inl refl) (inl refl);
      rest =
          both_of good as_ bs (omega (arith, e)) (λ x h. f x (inr h)) (λ x y h i. g x y (inr h) (inr i));
    }

-- What is given: what may be heard, how a command may end, and what may be answered at once.
pub record Given : Type 1 where
  pub heard : Heard → Type 0
  pub ended : Bool → Type 0
  pub at_once : AppAnswer → Type 0

-- anything
abbrev pub anything : Given
anything = record { heard = λ got. Unit {0}; ended = λ ok. Unit {0}; at_once = λ a. Unit {0} }

-- why a word that is an answer is said
abbrev pub AnswerWord : Heard → ThirdTurn → ThirdOutput → Type 0
AnswerWord got t o = (op : ℕ) (a : AppAnswer) → o ≡ says.Plain (outputs.Answer op a) → AnswersRight (bounds got t) t.plain a

-- so it is with a later number of the next command
pub both_later : (good : ℕ → Association → Beside → Type 0) → ((n o : ℕ) → n ≤ o → (a : Association) (b : Beside) → good n a b → good o a b) → (n o : ℕ) → n ≤ o →
    (as_ : List Association) (bs : List Beside) → Both (good n) as_ bs → Both (good o) as_ bs
both_later good later n o l [] [] h = tt
both_later good later n o l [] (b ∷ bs) h = h
both_later good later n o l (a ∷ as_) [] h = h
both_later good later n o l (a ∷ as_) (b ∷ bs) h =
    record { fit = h.fit; one = later n o l a b h.one; rest = both_later good later n o l as_ bs h.rest }

-- What a law owes of what is given: each change keeps it, and what is left of a lease that was lost and of a life that ended has it; its words are those that
-- changes say. It may speak of the number of the next command.
pub record KeepsBy (given : Given) (k : Config) (m : Limits) (now : Stamp) (good : ℕ → Association → Beside → Type 0) (fine : ThirdOutput → Type 0) :
    Type 0 where
  pub change : {got : Heard} (t u : ThirdTurn) → ThirdChange got now t u → t.plain.config ≡ k → t.limits ≡ m → Fit t.plain.here →
      good t.plain.next_command t.plain.here t.beside →
      good u.plain.next_command u.plain.here u.beside
  pub word : (got : Heard) (t : ThirdTurn) → given.heard got → t.limits ≡ m → good t.plain.next_command t.plain.here t.beside → (o : ThirdOutput) →
      WordRight t.plain o → AnswerWord got t o → fine o
  pub ends : (t : Turn) (b : Beside) (number : ℕ) (ok : Bool) (v : Turn) → given.ended ok → Ends number ok t v → good t.next_command t.here b →
      good t.next_command v.here b
  pub noted : (t : Turn) (b : Beside) → good t.next_command t.here b → good t.next_command (leaving.noted_lost t).here b
  pub emptied : (n : ℕ) (a : Association) → good n (limited_association m (plain.emptied a)) fresh_beside
  pub later : (n o : ℕ) → n ≤ o → (a : Association) (b : Beside) → good n a b → good o a b
  pub lost : (s : ServerId) (life : Life) → fine (says.Plain (outputs.Note (notes.Lost s life)))
  pub ended : (s : ServerId) (life : Life) (end : Stamp) → fine (says.Ended s life end)
  pub at_once : (op : ℕ) (a : AppAnswer) → given.at_once a → fine (says.Plain (outputs.Answer op a))

-- What a law owes of anything: each change keeps it, and what is left of a lease that was lost and of a life that ended has it;
-- its words are those that changes say.
pub record Keeps (k : Config) (m : Limits) (now : Stamp) (good : Association → Beside → Type 0) (fine : ThirdOutput → Type 0) : Type 0 where
  pub change : {got : Heard} (t u : ThirdTurn) → ThirdChange got now t u → t.plain.config ≡ k → t.limits ≡ m → Fit t.plain.here → good t.plain.here t.beside →
      good u.plain.here u.beside
  pub word : (t : ThirdTurn) → good t.plain.here t.beside → (o : ThirdOutput) → WordRight t.plain o → fine o
  pub ends : (t : Turn) (b : Beside) (number : ℕ) (ok : Bool) (v : Turn) → Ends number ok t v → good t.here b → good v.here b
  pub noted : (t : Turn) (b : Beside) → good t.here b → good (leaving.noted_lost t).here b
  pub emptied : (a : Association) → good (limited_association m (plain.emptied a)) fresh_beside
  pub lost : (s : ServerId) (life : Life) → fine (says.Plain (outputs.Note (notes.Lost s life)))
  pub ended : (s : ServerId) (life : Life) (end : Stamp) → fine (says.Ended s life end)
  pub at_once : (op : ℕ) (a : AppAnswer) → fine (says.Plain (outputs.Answer op a))

-- it owes it of anything
pub keeps_by : (k : Config) (m : Limits) (now : Stamp) (good : Association → Beside → Type 0) (fine : ThirdOutput → Type 0) → Keeps k m now good fine →
    KeepsBy anything k m now (λ n. good) fine
keeps_by k m now good fine law =
    record {
      change = λ t u c e l f g. law.change t u c e l f g;
      word = λ got t h l g o r a. law.word t g o r;
      ends = λ t b number ok v h x g. law.ends t b number ok v x g;
      noted = law.noted;
      emptied = λ n. law.emptied;
      later = λ n o l a b g. g;
      lost = law.lost;
      ended = law.ended;
      at_once = λ op a h. law.at_once op a;
    }

module _ (given : Given) (k : Config) (m : Limits) (now : Stamp) (good : ℕ → Association → Beside → Type 0) (fine : ThirdOutput → Type 0)
    (law : KeepsBy given k m now good fine) where
  abbrev AllFine : List ThirdOutput → Type 0
  AllFine os = (o : ThirdOutput) → Has o os → fine o

  fine_both : (xs ys : List ThirdOutput) → AllFine xs → AllFine ys → AllFine (xs ++ ys)
  fine_both xs ys f g o h = go (has_append xs ys o h)
    where
      go : (Has o xs) ⊎ (Has o ys) → fine o
      go (inl i) = f o i
      go (inr i) = g o i

  fine_one : (o : ThirdOutput) → fine o → AllFine (o ∷ [])
  fine_one o w x (inl e) = subst fine (sym e) w
  fine_one o w x (inr i) = absurd i

  fine_none : AllFine []
  fine_none o h = absurd h

  -- At one server.
  record At (from : ℕ) (t : ThirdTurn) : Type 0 where
    config : t.plain.config ≡ k
    limits : t.limits ≡ m
    fit : Fit t.plain.here
    next : from ≤ t.plain.next_command
    holds : good t.plain.next_command t.plain.here t.beside
    said : AllFine (all_said t)

  change_kept : (from : ℕ) (got : Heard) → given.heard got → (t u : ThirdTurn) → ThirdChange got now t u → At from t → At from u
  change_kept from got given_it t u c a =
      let n = change_third now t u c in
      let w = change_says now t u c in
      record {
        config = sym n.config ∙ a.config;
        limits = sym n.limits ∙ a.limits;
        fit = n.fit a.fit;
        next = let x = a.next in let y = change_rises now t u c in omega (arith, x, y);
        holds = law.change t u c a.config a.limits a.fit a.holds;
        said =
            subst AllFine (sym w.said)
            (fine_both (all_said t) w.more a.said
            (λ o h. law.word got t given_it a.limits a.holds o (w.right o h) (λ op x e. w.answers op x (subst (λ y. Has y w.more) e h))));
      }

  changes_kept : (from : ℕ) (got : Heard) → given.heard got → (t u : ThirdTurn) → ThirdChanges got now t u → At from t → At from u
  changes_kept from got given_it t _ (Still _) a = a
  changes_kept from got given_it t v (Then _ u _ c cs) a = changes_kept from got given_it u v cs (change_kept from got given_it t u c a)

  -- nothing is left of an association
  emptied_kept : (from : ℕ) (t : ThirdTurn) → At from t → At from (leaving.emptied t)
  unfolding plainly
  emptied_kept from t a =
      record {
        config = a.config;
        limits = a.limits;
        fit = record { mapped = λ ino p d e. absurd (no d e); fresh = tt };
        next = a.next;
        holds =
            subst (λ l. good t.plain.next_command (limited_association l (plain.emptied t.plain.here)) fresh_beside) (sym a.limits)
            (law.emptied t.plain.next_command t.plain.here);
        said = a.said;
      }
    where
      no : (d : DirtyPage) → ◌≡◌ {A = Option DirtyPage} None (Some d) → ⊥
      no d e = cc

  -- the loss is noted
  noted_kept : (from : ℕ) (t : ThirdTurn) → At from t → At from (with_plain (leaving.noted_lost t.plain) t)
  noted_kept from t a =
      record {
        config = a.config;
        limits = a.limits;
        fit = record { mapped = a.fit.mapped; fresh = a.fit.fresh };
        next = a.next;
        holds = law.noted t.plain t.beside a.holds;
        said = λ o h. noted o (has_append t.said _ o h);
      }
    where
      among : (os : List Output) (o : ThirdOutput) → ((x : ThirdOutput) → Has x (map plain_output os) → fine x) →
          Has o (map plain_output (os ++ outputs.Note (notes.Lost t.plain.here.server t.plain.here.life) ∷ [])) → fine o
      among [] o g (inl e) = subst fine (sym e) (law.lost t.plain.here.server t.plain.here.life)
      among [] o g (inr h) = absurd h
      among (x ∷ os) o g (inl e) = g o (inl e)
      among (x ∷ os) o g (inr h) = among os o (λ y k. g y (inr k)) h

      noted : (o : ThirdOutput) → (Has o t.said) ⊎ (Has o (map plain_output (leaving.noted_lost t.plain).out)) → fine o
      noted o (inl h) = a.said o (left_has t.said _ o h)
      noted o (inr h) = among t.plain.out o (λ x k. a.said x (right_has t.said _ x k)) h

  loses_kept : (from : ℕ) → given.heard None → (t u : ThirdTurn) → ThirdLoses now t u → At from t → At from u
  loses_kept from given_it t _ (Lasts e) a = a
  loses_kept from given_it t _ (IsLost r v e i cs) a = emptied_kept from v (changes_kept from None given_it (with_plain (leaving.noted_lost t.plain) t) v cs (noted_kept from t a))

  leaves_kept : (from : ℕ) (t u : ThirdTurn) → ThirdLeaves now t u → At from t → At from u
  unfolding Rattle.st_third.specs.State.say
  leaves_kept from t _ Stays a = a
  leaves_kept from t _ (HasLeft r e) a =
      emptied_kept from _
      (record {
        config = a.config;
        limits = a.limits;
        fit = a.fit;
        next = a.next;
        holds = a.holds;
        said = fine_both (all_said t ++ _) [] (fine_both (all_said t) _ a.said (fine_one _ (law.ended _ _ _))) fine_none;
      })

  -- the end of a command says nothing
  ends_quiet : (number : ℕ) (ok : Bool) (t v : Turn) → Ends number ok t v → v.out ≡ t.out
  unfolding plain.hardened
  ends_quiet number ok t _ Unknown = refl
  ends_quiet number ok t _ (Passes x e o) = refl
  ends_quiet number ok t _ (Hardens x v e o w q) = refl
  ends_quiet number ok t _ (Fails x v e o w q) = refl

  finishes_kept : (from : ℕ) (number : ℕ) (ok : Bool) → given.ended ok → given.heard (heard_end number ok) → (t u : ThirdTurn) → ThirdFinishes now number ok t u → At from t →
      At from u
  finishes_kept from number ok may given_it t u x a =
      let n = ends_fit now number ok t.plain x.middle x.ends in
      changes_kept from (heard_end number ok) given_it (with_plain x.middle t) u x.rest
      (record {
        config = sym n.config ∙ a.config;
        limits = a.limits;
        fit = n.fit a.fit;
        next = let y = a.next in let z = ends_next number ok t.plain x.middle x.ends in omega (arith, y, z);
        holds =
            subst (λ n. good n x.middle.here t.beside) (sym (ends_next number ok t.plain x.middle x.ends))
            (law.ends t.plain t.beside number ok x.middle may x.ends a.holds);
        said = subst (λ os. AllFine (t.said ++ map plain_output os)) (sym (ends_quiet number ok t.plain x.middle x.ends)) a.said;
      })

  passes_kept : (from : ℕ) → given.heard None → (tick : Bool) (t : ThirdTurn) → At from t → At from (client.third_passes now tick t)
  passes_kept from given_it tick t a =
      let p : ThirdPasses now t (client.third_passes now tick t) = passes_change now tick t in
      changes_kept from None given_it p.left _ p.asks (leaves_kept from p.written p.left p.leaves (changes_kept from None given_it t p.written p.works a))

  -- At each server in turn.
  record Holds (t : ThirdClientTurn) : Type 0 where
    config : t.client.plain.config ≡ k
    both : Both (good t.client.plain.next_command) t.client.plain.associations t.client.beside.besides
    said : AllFine t.out

  abbrev Rule : (ThirdTurn → ThirdTurn) → Type 0
  Rule rule = (from : ℕ) (t : ThirdTurn) → At from t → At from (rule t)

  module _ (rule : ThirdTurn → ThirdTurn) (one : Rule rule) where
    these_hold : (as_ : List Association) (bs : List Beside) (t : ThirdClientTurn) → Both (good t.client.plain.next_command) as_ bs → Holds t →
        Holds (at_these m rule as_ bs t)
    unfolding at_these
    these_hold [] bs t p h = h
    these_hold (a ∷ as_) [] t p h = h
    these_hold (a ∷ as_) (b ∷ bs) t p h =
        let n : ℕ = t.client.plain.next_command in
        let r : ThirdTurn = rule (enter m t a b) in
        let z : At n r =
        one n (enter m t a b)
        (record { config = h.config; limits = refl; fit = p.fit; next = omega arith; holds = p.one; said = fine_both t.out [] h.said fine_none }) in
        these_hold as_ bs (leave t r) (both_later good law.later n r.plain.next_command z.next as_ bs p.rest)
        (record {
          config = h.config;
          both =
              both_more (good r.plain.next_command) t.client.plain.associations t.client.beside.besides _ _ z.fit z.holds
              (both_later good law.later n r.plain.next_command z.next t.client.plain.associations t.client.beside.besides h.both);
          said = z.said;
        })

    each_holds : (t : ThirdClientTurn) → Holds t → Holds (at_each m rule t)
    unfolding at_each
    each_holds t h = these_hold t.client.plain.associations t.client.beside.besides _ h.both (record { config = h.config; both = tt; said = h.said })

  only : (x : ServerId) (rule : ThirdTurn → ThirdTurn) → Rule rule → Rule (only_at x rule)
  unfolding only_at
  only x rule one from t a = go (is_at x t.plain.here)
    where
      go : (b : Bool) → At from (if b then rule t else t)
      go true = one from t a
      go false = a

  -- What a step gives: nothing is heard but what comes with its input.
  pub record Provides (c : ThirdClient) (input : ThirdInput) : Type 0 where
    pub nothing : given.heard None
    pub message : (h : Header) (body : Body) → input ≡ third.Plain (inputs.Control (record { header = h; body = body })) → (t : ThirdTurn) →
        SessionFresh t.plain.here.store (session t) → good t.plain.next_command t.plain.here t.beside →
        (got : Heard) × given.heard got × ThirdChanges got now t (receive_at now h body t)
    pub asked : (op : ℕ) (s : ServerId) → input ≡ third.Leave op s → (x : ServerId) → given.heard (Some (HeardLeave (record { op = op; server = x })))
    pub failed : (number : ℕ) (result : Option (Option (Tag × List ℕ))) → input ≡ third.Plain (inputs.Done number result) →
        given.ended (is_done result) × given.heard (heard_end number (is_done result))
    pub full : client.is_full m (client.losses m (third_turn c []) now).client ≡ true → given.at_once answers.OpsFull
    pub missing : given.at_once answers.NoFile

  module _ (c : ThirdClient) (input : ThirdInput) (its : Provides c input) where
    asks : (t : ThirdClientTurn) (op : ℕ) (x : ServerId) (rule : ThirdTurn → ThirdTurn) → Rule rule → t ≡ client.losses m (third_turn c []) now → Holds t →
        Holds (client.ask_by m t op x rule)
    unfolding client.ask_by client.ask_at
    asks t op x rule one e h = go (client.is_full m t.client) (plain.is_configured t.client.plain x) refl
      where
        at_once : (a : AppAnswer) → given.at_once a → Holds (client.answered_at_once t op a)
        at_once a r = record { config = h.config; both = h.both; said = fine_both t.out _ h.said (fine_one _ (law.at_once op a r)) }

        go : (b d : Bool) → client.is_full m t.client ≡ b → Holds
            (if b then client.answered_at_once t op answers.OpsFull else
            (if d then at_each m (only_at x rule) t else client.answered_at_once t op answers.NoFile))
        go true d q = at_once answers.OpsFull (its.full (subst (λ (y : ThirdClientTurn). client.is_full m y.client ≡ true) e q))
        go false true q = each_holds (only_at x rule) (only x rule one) t h
        go false false q = at_once answers.NoFile its.missing

    hears : (t : ThirdClientTurn) (h : Header) (body : Body) → input ≡ third.Plain (inputs.Control (record { header = h; body = body })) → Holds t →
        Holds (receive m t now h body)
    unfolding receive
    hears t h body e g = go (h.to == t.client.plain.id.0)
      where
        one : Rule (receive_at now h body)
        one from u a = let z = its.message h body e u a.fit.fresh a.holds in changes_kept from z.0 z.1 u _ z.2 a

        go : (b : Bool) → Holds (if b then at_each m (receive_at now h body) t else t)
        go true = each_holds (receive_at now h body) one t g
        go false = g

    takes_plain : (t : ThirdClientTurn) (i : ClientInput) → input ≡ third.Plain i → t ≡ client.losses m (third_turn c []) now → Holds t →
        Holds (client.take_plain m t now i)
    unfolding client.take_plain client.app client.done
    takes_plain t inputs.Tick e q h = h
    takes_plain t (inputs.App op ask) e q h = asks t op _ _ (λ from u a. changes_kept from None its.nothing u _ (takes now op ask u) a) q h
    takes_plain t (inputs.Control message) e q h = hears t message.header message.body e h
    takes_plain t (inputs.Done number result) e q h =
        let z = its.failed number result e in
        each_holds (client.finish number result) (λ from u a. finishes_kept from number _ z.0 z.1 u _ (finishes now number u result) a) t h

    takes_input : (t : ThirdClientTurn) (i : ThirdInput) → input ≡ i → t ≡ client.losses m (third_turn c []) now → Holds t → Holds (client.take_input m t now i)
    unfolding client.take_input client.app_leave
    takes_input t (third.Plain i) e q h = takes_plain t i e q h
    takes_input t (third.Leave op x) e q h =
        asks t op x _ (λ from u a. changes_kept from _ (its.asked op x e u.plain.here.server) u _ (takes_leave op u) a) q h

    pub client_holds_by : c.plain.config ≡ k → Both (good c.plain.next_command) c.plain.associations c.beside.besides →
        (Both (good (client.client_step m c now input).client.plain.next_command) (client.client_step m c now input).client.plain.associations
        (client.client_step m c now input).client.beside.besides)
        × ((o : ThirdOutput) → Has o (client.client_step m c now input).out → fine o)
    unfolding client.client_step client.losses client.work
    client_holds_by e p =
        let u : ThirdClientTurn = client.losses m (third_turn c []) now in
        let v : ThirdClientTurn = client.take_input m u now input in
        let hu : Holds u =
        each_holds (leaving.lose now) (λ from x a. loses_kept from its.nothing x _ (loses x) a) (third_turn c []) (record { config = e; both = p; said = fine_none }) in
        let hw =
        each_holds (client.third_passes now (client.is_tick input)) (λ from x a. passes_kept from its.nothing (client.is_tick input) x a) v (takes_input u input refl refl hu)
        in
        (hw.both, hw.said)

-- of anything, whatever comes
pub provided : (k : Config) (m : Limits) (now : Stamp) (good : ℕ → Association → Beside → Type 0) (fine : ThirdOutput → Type 0)
    (law : KeepsBy anything k m now good fine) (c : ThirdClient) (input : ThirdInput) → Provides anything k m now good fine law c input
provided k m now good fine law c input =
    record {
      nothing = tt;
      message = λ h body i t f g. (Some (HeardMessage (record { header = h; body = body })), tt, receives now h body t f);
      asked = λ op s i x. tt;
      failed = λ number result i. (tt, tt);
      full = λ i. tt;
      missing = tt;
    }

-- what holds of anything
pub client_holds : (k : Config) (m : Limits) (now : Stamp) (good : Association → Beside → Type 0) (fine : ThirdOutput → Type 0) → Keeps k m now good fine →
    (c : ThirdClient) (input : ThirdInput) → c.plain.config ≡ k → Both good c.plain.associations c.beside.besides →
    (Both good (client.client_step m c now input).client.plain.associations (client.client_step m c now input).client.beside.besides)
    × ((o : ThirdOutput) → Has o (client.client_step m c now input).out → fine o)
client_holds k m now good fine law c input e p =
    let l : KeepsBy anything k m now (λ n. good) fine = keeps_by k m now good fine law in
    client_holds_by anything k m now (λ n. good) fine l c input (provided k m now (λ n. good) fine l c input) e p
