-- What holds of the asks of a client within a step: each pending one was asked under its number and not answered yet; each answer is the first one to an ask;
-- each change is noted and answered `written` at once; and nothing is used of servers whose use isn't allowed.
use Rattle.st_lemmas.proofs.Words
use Words.{◌≡◌, ℕ, Bool, true, false, ◌&&◌, ◌||◌, List, [], ◌∷◌, ◌++◌, ◌==◌, Option, Some, None, refl, sym, ap, ◌∙◌, subst, inl, inr, append_assoc, ◌⊎◌, map}
use Words.{list_any, eqb-true, BlockAt, Command, ClientId, ServerId, AppAnswer, Ask, Message, Note, Output, Operation}
use Words.answers
use Words.outputs
use Words.ClientState as cs
use Words.ClientState.{server_of}
use Words.Keys.{same_server}
use Words.Safety.{is_use, is_of_server, block_of}
use Words.Lists.{Has}
use Words.Tables.{has_append, and_left, and_right}
use Words.Members.{has_middle}
use Words.Truth.{server_is}
use Rattle.st_laws_pages.proofs.Asks.Places.{On}
use Rattle.st_laws_pages.proofs.Asks.Client.{Lasts, Neutral, NotesChange, key}
use Rattle.st_laws_pages.proofs.Asks.Step.{TakesAsk}
use Rattle.std.proofs.lemmas.List.Folds.{list_any-append}

abbrev pub Pending : Type 0
Pending = List (ℕ × Ask)

-- no two pending asks have one number
abbrev pub Apart : Pending → Type 0
Apart [] = Unit {0}
Apart (k ∷ ks) = record { first : (j : ℕ × Ask) → Has j ks → k.0 ≡ j.0 → ⊥; rest : Apart ks }

-- an answer to the ask of a number
abbrev pub answers_op : ℕ → Output → Bool
answers_op op (outputs.Answer n a) = n == op
answers_op op o = false

-- it is not `written`
abbrev pub Unwritten : AppAnswer → Type 0
Unwritten answers.Written = ⊥
Unwritten a = Unit {0}

-- The outputs of a step so far: each answer is the first one to an ask; `written` follows the note of the change that was asked.
pub data Said (c : ClientId) (asked : ℕ → Option Ask) (old : ℕ → Bool) : List Output → Type 0 where
  Nothing : Said c asked old []
  Other : (out : List Output) (o : Output) → Neutral c o → Said c asked old out → Said c asked old (out ++ o ∷ [])
  Submits : (out : List Output) (number : ℕ) (at : BlockAt) (what : Command) → Said c asked old out →
      Said c asked old (out ++ outputs.Submit number at what ∷ [])
  Answers : (out : List Output) (op : ℕ) (ask : Ask) (a : AppAnswer) → asked op ≡ Some ask → old op ≡ false → list_any (answers_op op) out ≡ false →
      Unwritten a → Said c asked old out →
      Said c asked old (out ++ outputs.Answer op a ∷ [])
  Changes : (out : List Output) (op : ℕ) (ask : Ask) (x : Note) → asked op ≡ Some ask → old op ≡ false → list_any (answers_op op) out ≡ false →
      NotesChange x ask → Said c asked old out →
      Said c asked old ((out ++ outputs.Note x ∷ []) ++ outputs.Answer op answers.Written ∷ [])

-- nothing is submitted to this server's disks, and no read or write of its files is answered
abbrev pub Unused : ℕ → (ℕ → Option Ask) → ServerId → Output → Type 0
Unused n asked v (outputs.Submit number at what) = On n v (block_of what) → ⊥
Unused n asked v (outputs.Answer op a) = (is_use a && is_of_server v (asked op)) ≡ false
Unused n asked v o = Unit {0}

-- a server that may be used: none of those that are gone
abbrev pub Here : (ServerId → Type 0) → ServerId → Type 0
Here Gone s = (v : ServerId) → Gone v → s ≡ v → ⊥

-- What holds of the pending asks and the outputs.
pub record Holds (c : ClientId) (n : ℕ) (asked : ℕ → Option Ask) (old : ℕ → Bool) (Gone : ServerId → Type 0) (ks : Pending) (out : List Output) : Type 0 where
  pub pending : (k : ℕ × Ask) → Has k ks → asked k.0 ≡ Some k.1
  pub apart : Apart ks
  pub unsaid : (k : ℕ × Ask) → Has k ks → (old k.0 ≡ false) × (list_any (answers_op k.0) out ≡ false)
  pub said : Said c asked old out
  pub unused : (o : Output) → Has o out → (v : ServerId) → Gone v → Unused n asked v o

-- Lists.

none_last : (a b : Bool) → a ≡ false → b ≡ false → (a || (b || false)) ≡ false
none_last true b e f = cc
none_last false true e f = cc
none_last false false e f = refl

pub any_last_none : {A : Type 0} (p : A → Bool) (xs : List A) (x : A) → list_any p xs ≡ false → p x ≡ false → list_any p (xs ++ x ∷ []) ≡ false
any_last_none p xs x e f = list_any-append p xs (x ∷ []) ∙ none_last (list_any p xs) (p x) e f

unasked : (asked : ℕ → Option Ask) (m op : ℕ) (ask : Ask) → asked m ≡ Some ask → asked op ≡ None → (m == op) ≡ false
unasked asked m op ask e n = go (m == op) refl
  where
    no : ◌≡◌ {A = Option Ask} (Some ask) None → ⊥
    no q = cc

    go : (b : Bool) → (m == op) ≡ b → b ≡ false
    go true q = absurd (no (sym e ∙ ap asked (eqb-true m op q) ∙ n))
    go false q = refl

-- what is sent belongs to this client
sent_last : (c : ClientId) (out : List Output) (o : Output) (m : Message) → ((m : Message) → Has (outputs.Send m) out → m.header.from ≡ c.0) →
    (outputs.Send m ≡ o → m.header.from ≡ c.0) → Has (outputs.Send m) (out ++ o ∷ []) → m.header.from ≡ c.0
sent_last c out o m f g h = go (has_append out (o ∷ []) (outputs.Send m) h)
  where
    go : Has (outputs.Send m) out ⊎ Has (outputs.Send m) (o ∷ []) → m.header.from ≡ c.0
    go (inl i) = f m i
    go (inr (inl e)) = g e
    go (inr (inr i)) = absurd i

pub said_sends : (c : ClientId) (asked : ℕ → Option Ask) (old : ℕ → Bool) (out : List Output) → Said c asked old out → (m : Message) →
    Has (outputs.Send m) out → m.header.from ≡ c.0
said_sends c asked old _ Nothing m h = absurd h
said_sends c asked old _ (Other out o d s) m h = sent_last c out o m (said_sends c asked old out s) (λ e. subst (Neutral c) (sym e) d) h
said_sends c asked old _ (Submits out x at what s) m h = sent_last c out (outputs.Submit x at what) m (said_sends c asked old out s) (λ e. cc e) h
said_sends c asked old _ (Answers out op ask a e o l w s) m h = sent_last c out (outputs.Answer op a) m (said_sends c asked old out s) (λ e. cc e) h
said_sends c asked old _ (Changes out op ask x e o l w s) m h =
    sent_last c (out ++ outputs.Note x ∷ []) (outputs.Answer op answers.Written) m
    (λ m i. sent_last c out (outputs.Note x) m (said_sends c asked old out s) (λ e. cc e) i) (λ e. cc e) h

-- an ask that was not made is not answered
pub said_below : (c : ClientId) (asked : ℕ → Option Ask) (old : ℕ → Bool) (op : ℕ) (out : List Output) → asked op ≡ None → Said c asked old out →
    list_any (answers_op op) out ≡ false
said_below c asked old op _ n Nothing = refl
said_below c asked old op _ n (Other out o d s) = any_last_none (answers_op op) out o (said_below c asked old op out n s) (no o d)
  where
    no : (o : Output) → Neutral c o → answers_op op o ≡ false
    no (outputs.Send x) m = refl
    no (outputs.Note x) m = refl
    no o m = absurd m
said_below c asked old op _ n (Submits out x at what s) = any_last_none (answers_op op) out (outputs.Submit x at what) (said_below c asked old op out n s) refl
said_below c asked old op _ n (Answers out m ask a e o l w s) =
    any_last_none (answers_op op) out (outputs.Answer m a) (said_below c asked old op out n s) (unasked asked m op ask e n)
said_below c asked old op _ n (Changes out m ask x e o l w s) =
    any_last_none (answers_op op) (out ++ outputs.Note x ∷ []) (outputs.Answer m answers.Written)
    (any_last_none (answers_op op) out (outputs.Note x) (said_below c asked old op out n s) refl) (unasked asked m op ask e n)

has_mid : {A : Type 0} (k : A) (xs ys : List A) → Has k (xs ++ k ∷ ys)
has_mid k [] ys = inl refl
has_mid k (x ∷ xs) ys = inr (has_mid k xs ys)

apart_mid : (k : ℕ × Ask) (xs ys : Pending) → Apart (xs ++ k ∷ ys) → Apart (xs ++ ys) × ((p : ℕ × Ask) → Has p (xs ++ ys) → k.0 ≡ p.0 → ⊥)
apart_mid k [] ys a = (a.rest, a.first)
apart_mid k (x ∷ xs) ys a = go (apart_mid k xs ys a.rest)
  where
    go : Apart (xs ++ ys) × ((p : ℕ × Ask) → Has p (xs ++ ys) → k.0 ≡ p.0 → ⊥) →
        Apart (x ∷ (xs ++ ys)) × ((p : ℕ × Ask) → Has p (x ∷ (xs ++ ys)) → k.0 ≡ p.0 → ⊥)
    go r = (record { first = λ j h. a.first j (has_middle k j xs ys h); rest = r.0 }, λ p h e. at p h e)
      where
        at : (p : ℕ × Ask) → Has p (x ∷ (xs ++ ys)) → k.0 ≡ p.0 → ⊥
        at p (inl q) e = a.first k (has_mid k xs ys) (sym (e ∙ ap (λ (z : ℕ × Ask). z.0) q))
        at p (inr h) e = r.1 p h e

pub map_more : (xs ys : List Operation) → map key (xs ++ ys) ≡ map key xs ++ map key ys
map_more [] ys = refl
map_more (x ∷ xs) ys = ap (λ z. key x ∷ z) (map_more xs ys)

module _ (c : ClientId) (n : ℕ) (asked : ℕ → Option Ask) (old : ℕ → Bool) (Gone : ServerId → Type 0) where
  abbrev H : Pending → List Output → Type 0
  H ks out = Holds c n asked old Gone ks out

  abbrev Idle : Output → Type 0
  Idle o = (v : ServerId) → Gone v → Unused n asked v o

  idle_more : (out : List Output) (o : Output) → Idle o → ((x : Output) → Has x out → Idle x) → (x : Output) → Has x (out ++ o ∷ []) → Idle x
  idle_more out o i f x h = go (has_append out (o ∷ []) x h)
    where
      go : Has x out ⊎ Has x (o ∷ []) → Idle x
      go (inl j) = f x j
      go (inr (inl e)) = subst Idle (sym e) i
      go (inr (inr j)) = absurd j

  -- an answer that isn't a use, or of a server that is not gone
  idle_answer : (op : ℕ) (a : AppAnswer) → is_use a ≡ false → Idle (outputs.Answer op a)
  idle_answer op a e v g = and_left (is_use a) _ e

  idle_use : (op : ℕ) (ask : Ask) (a : AppAnswer) → asked op ≡ Some ask → Here Gone (server_of ask) → Idle (outputs.Answer op a)
  idle_use op ask a e u v g = and_right (is_use a) _ (ap (is_of_server v) e ∙ go (same_server (server_of ask) v) refl)
    where
      go : (b : Bool) → same_server (server_of ask) v ≡ b → b ≡ false
      go true q = absurd (u v g (server_is (server_of ask) v (eqb-true (server_of ask).0 v.0 q)))
      go false q = refl

  holds_after_neutral : (ks : Pending) (out : List Output) (o : Output) → Neutral c o → H ks out → H ks (out ++ o ∷ [])
  holds_after_neutral ks out o m h =
      record {
        pending = h.pending;
        apart = h.apart;
        unsaid = λ k i. ((h.unsaid k i).0, any_last_none (answers_op k.0) out o (h.unsaid k i).1 (no k.0 o m));
        said = Other out o m h.said;
        unused = idle_more out o (idle o m) h.unused;
      }
    where
      no : (op : ℕ) (o : Output) → Neutral c o → answers_op op o ≡ false
      no op (outputs.Send x) m = refl
      no op (outputs.Note x) m = refl
      no op o m = absurd m

      idle : (o : Output) → Neutral c o → Idle o
      idle (outputs.Send x) m = λ v g. tt
      idle (outputs.Note x) m = λ v g. tt
      idle o m = absurd m

  holds_after_submits : (ks : Pending) (out : List Output) (s : ServerId) (number : ℕ) (at : BlockAt) (what : Command) → Here Gone s → On n s (block_of what) →
      H ks out → H ks (out ++ outputs.Submit number at what ∷ [])
  holds_after_submits ks out s number at what u o h =
      record {
        pending = h.pending;
        apart = h.apart;
        unsaid = λ k i. ((h.unsaid k i).0, any_last_none (answers_op k.0) out (outputs.Submit number at what) (h.unsaid k i).1 refl);
        said = Submits out number at what h.said;
        unused = idle_more out _ (λ v g e. u v g (server_is s v (sym o ∙ e))) h.unused;
      }

  holds_after_answers : (xs ys : Pending) (out : List Output) (k : ℕ × Ask) (a : AppAnswer) → Unwritten a → Idle (outputs.Answer k.0 a) → H (xs ++ k ∷ ys) out →
      H (xs ++ ys) (out ++ outputs.Answer k.0 a ∷ [])
  holds_after_answers xs ys out k a w i h =
      let z = apart_mid k xs ys h.apart in
      let f = h.unsaid k (has_mid k xs ys) in
      record {
        pending = λ p j. h.pending p (has_middle k p xs ys j);
        apart = z.0;
        unsaid = λ p j. let g = h.unsaid p (has_middle k p xs ys j) in
            (g.0, any_last_none (answers_op p.0) out (outputs.Answer k.0 a) g.1 (differ k.0 p.0 (z.1 p j)));
        said = Answers out k.0 k.1 a (h.pending k (has_mid k xs ys)) f.0 f.1 w h.said;
        unused = idle_more out _ i h.unused;
      }
    where
      differ : (m j : ℕ) → (m ≡ j → ⊥) → (m == j) ≡ false
      differ m j f = go (m == j) refl
        where
          go : (b : Bool) → (m == j) ≡ b → b ≡ false
          go true e = absurd (f (eqb-true m j e))
          go false e = refl

  holds_after_changes : (xs ys : Pending) (out : List Output) (k : ℕ × Ask) (x : Note) → NotesChange x k.1 → Here Gone (server_of k.1) → H (xs ++ k ∷ ys) out →
      H (xs ++ ys) ((out ++ outputs.Note x ∷ []) ++ outputs.Answer k.0 answers.Written ∷ [])
  holds_after_changes xs ys out k x m u h =
      let z = apart_mid k xs ys h.apart in
      let f = h.unsaid k (has_mid k xs ys) in
      let e = h.pending k (has_mid k xs ys) in
      record {
        pending = λ p j. h.pending p (has_middle k p xs ys j);
        apart = z.0;
        unsaid = λ p j. let g = h.unsaid p (has_middle k p xs ys j) in (
          g.0,
          any_last_none (answers_op p.0) (out ++ outputs.Note x ∷ []) (outputs.Answer k.0 answers.Written)
              (any_last_none (answers_op p.0) out (outputs.Note x) g.1 refl) (differ k.0 p.0 (z.1 p j)),
        );
        said = Changes out k.0 k.1 x e f.0 f.1 m h.said;
        unused = idle_more (out ++ outputs.Note x ∷ []) _ (idle_use k.0 k.1 answers.Written e u) (idle_more out (outputs.Note x) (λ v g. tt) h.unused);
      }
    where
      differ : (m j : ℕ) → (m ≡ j → ⊥) → (m == j) ≡ false
      differ m j f = go (m == j) refl
        where
          go : (b : Bool) → (m == j) ≡ b → b ≡ false
          go true e = absurd (f (eqb-true m j e))
          go false e = refl

  -- The fact of a turn's operations and outputs, with asks that are yet to come.
  abbrev pub Asks : Pending → List Operation → List Output → Type 0
  Asks tail ops out = H (map key ops ++ tail) out

  split : (tail : Pending) (xs ys : List Operation) (o : Operation) → map key (xs ++ o ∷ ys) ++ tail ≡ map key xs ++ key o ∷ (map key ys ++ tail)
  split tail xs ys o = ap (λ z. z ++ tail) (map_more xs (o ∷ ys)) ∙ append_assoc (map key xs) (key o ∷ map key ys) tail

  joined : (tail : Pending) (xs ys : List Operation) → map key xs ++ (map key ys ++ tail) ≡ map key (xs ++ ys) ++ tail
  joined tail xs ys = sym (append_assoc (map key xs) (map key ys) tail) ∙ ap (λ z. z ++ tail) (sym (map_more xs ys))

  unwritten : (a : AppAnswer) → is_use a ≡ false → Unwritten a
  unwritten answers.Written e = cc
  unwritten a e = tt

  pub asks_last : (tail : Pending) → Lasts n (Here Gone) c (Asks tail)
  asks_last tail =
      record {
        says = λ ops out o m h. holds_after_neutral (map key ops ++ tail) out o m h;
        submits = λ ops out s number at what u o h. holds_after_submits (map key ops ++ tail) out s number at what u o h;
        answered = λ xs ys out o a e h.
            subst (λ z. H z (out ++ outputs.Answer o.op a ∷ [])) (joined tail xs ys)
            (holds_after_answers (map key xs) (map key ys ++ tail) out (key o) a (unwritten a e) (idle_answer o.op a e)
            (subst (λ z. H z out) (split tail xs ys o) h));
        reads = λ xs ys out o bytes u h.
            let g = subst (λ z. H z out) (split tail xs ys o) h in
            subst (λ z. H z (out ++ outputs.Answer o.op (answers.Read bytes) ∷ [])) (joined tail xs ys)
            (holds_after_answers (map key xs) (map key ys ++ tail) out (key o) (answers.Read bytes) tt
            (idle_use o.op o.ask (answers.Read bytes) (g.pending (key o) (has_mid (key o) (map key xs) _)) u) g);
        changes = λ xs ys out o x m u h.
            subst (λ z. H z ((out ++ outputs.Note x ∷ []) ++ outputs.Answer o.op answers.Written ∷ [])) (joined tail xs ys)
            (holds_after_changes (map key xs) (map key ys ++ tail) out (key o) x m u (subst (λ z. H z out) (split tail xs ys o) h));
        stages = λ xs ys out e h. subst (λ z. H (z ++ tail) out) e h;
      }

  -- the ask that is yet to come is pending, or is answered at once
  pub asks_taken : (op : ℕ) (ask : Ask) → TakesAsk (Asks ((op, ask) ∷ [])) (Asks []) op ask
  asks_taken op ask =
      record {
        enqueues = λ ops out h. subst (λ z. H z out) (none_behind (map key (ops ++ cs.new_operation op ask ∷ [])) (map_more ops (cs.new_operation op ask ∷ [])))
            h;
        at_once = λ ops out a e h. holds_after_answers (map key ops) [] out (op, ask) a (unwritten a e) (idle_answer op a e) h;
      }
    where
      none : (xs : Pending) → xs ≡ xs ++ []
      none [] = refl
      none (x ∷ xs) = ap (λ z. x ∷ z) (none xs)

      none_behind : {ys : Pending} (xs : Pending) → xs ≡ ys → ys ≡ xs ++ []
      none_behind xs e = sym e ∙ none xs
