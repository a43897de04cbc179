-- Each outstanding write of a client after a step was outstanding before it and did not end, or the step submits it.
use Rattle.st_lemmas.proofs.Words
use Words.{◌≡◌, ℕ, ◌⊎◌, Bool, true, false, not, ◌==◌, List, [], ◌∷◌, ◌++◌, Option, Some, None, refl, sym, ap, ◌∙◌, subst, inl, inr, map, append_assoc}
use Words.{eq-eqb, filter, is_some, BlockAt, Tag, Config, ClientId, ServerId, Stamp, AppAnswer, Output, ClientInput, PageCommand}
use Words.answers
use Words.outputs
use Words.inputs
use Words.io
use Words.ClientPages as pages
use Words.ClientPasses as cp
use Words.ClientReplies as cr
use Words.Client as cl
use Words.ClientState as state
use Words.ClientState.{Association, ClientState, ClientTurn, Turn, answer_to, client_turn, enter, leave, at_these, at_each, with_associations, only_at, note, server_of}
use Words.Lists.{Has}
use Words.Tables.{found_at, has_append, has_filter, none_has, not_true}
use Words.Lengths.{nothing_after}
use Words.Members.{has_last, has_left}
use Words.Truth.{not_both}
use Rattle.st_laws_steps.specs.Client.Client.{Change, Changes, Says, Operates, Answers, Greets, TellsLost, Begins, Follows, Learns, Forgets, Caches}
use Rattle.st_laws_steps.specs.Client.Client.{Writes, Reads, Submits, Still, Then}
use Rattle.st_laws_steps.specs.Client.Losses.{Fit, is_ended}
use Rattle.st_laws_steps.specs.Client.Inputs as taking
use Rattle.st_laws_steps.specs.Client.Inputs.{Taken}
use Rattle.st_laws_steps.specs.Lives.Lives.{Pairwise}
use Rattle.st_laws_steps.proofs.Client.Asking.{changes_by_passes}
use Rattle.st_laws_steps.proofs.Client.Replying.{changes_by_receive}
use Rattle.st_laws_steps.proofs.Client.Losing.{changes_by_only}
use Rattle.st_laws_steps.proofs.Client.Stepping.{LostOrNot, Phased, pairs_has, pairs_same, pairs_then, phased}
use Rattle.st_laws_steps.proofs.Client.Taking.{taken}
use Rattle.st_trace.specs.Client.Commands.{Finishes, IsUnknown, IsOfOtherKind, Fills, Hardens, WroteOlder, FailsToRead, FailsToWrite}
use Rattle.st_trace.specs.Client.Commands.{FailsToWriteOlder}
use Rattle.st_trace.proofs.Client.Finishing.{finishes}
use Rattle.st_laws_pages.specs.Flush.Flush.{NumbersApart}
use Rattle.st_laws_pages.proofs.Writes.Listing.{NoneEnds, write_said}
use Rattle.st_laws_pages.proofs.Writes.Walking.{EndedBy}

-- these outputs submit a write of this number, of a file of this server
pub record IsSaid (os : List Output) (s : ServerId) (number : ℕ) : Type 0 where
  pub at : BlockAt
  pub to : BlockAt
  pub tag : Tag
  pub bytes : List ℕ
  pub said : Has (write_said number at to tag bytes) os
  pub server : tag.file.server ≡ s

-- whatever the first outputs say, the second ones say
abbrev pub SaysMore : List Output → List Output → Type 0
SaysMore os ps = (o : Output) → Has o os → Has o ps

-- An association goes on: each of its outstanding writes was outstanding and does not end, or the outputs submit it.
pub record ComesFrom (E : ℕ → Type 0) (os : List Output) (a b : Association) : Type 0 where
  pub server : a.server ≡ b.server
  pub life : a.life ≡ b.life
  pub from : (pc : PageCommand) (v : ℕ) → Has pc b.store.commands → pc.kind ≡ io.Write v →
      (Has pc a.store.commands × (E pc.number → ⊥)) ⊎ IsSaid os b.server pc.number

said_more : (os ps : List Output) → SaysMore os ps → (s : ServerId) (n : ℕ) → IsSaid os s n → IsSaid ps s n
said_more os ps f s n h = record { at = h.at; to = h.to; tag = h.tag; bytes = h.bytes; said = f _ h.said; server = h.server }

comes_more : (E : ℕ → Type 0) (os ps : List Output) (a b : Association) → SaysMore os ps → ComesFrom E os a b → ComesFrom E ps a b
comes_more E os ps a b f h = record { server = h.server; life = h.life; from = λ pc v i k. go pc (h.from pc v i k) }
  where
    go : (pc : PageCommand) → (Has pc a.store.commands × (E pc.number → ⊥)) ⊎ IsSaid os b.server pc.number →
        (Has pc a.store.commands × (E pc.number → ⊥)) ⊎ IsSaid ps b.server pc.number
    go pc (inl z) = inl z
    go pc (inr z) = inr (said_more os ps f b.server pc.number z)

comes_then : (E : ℕ → Type 0) (os ps : List Output) (a b c : Association) → SaysMore os ps → ComesFrom E os a b → ComesFrom NoneEnds ps b c → ComesFrom E ps a c
comes_then E os ps a b c f g h = record { server = g.server ∙ h.server; life = g.life ∙ h.life; from = λ pc v i k. go pc v k (h.from pc v i k) }
  where
    first : (pc : PageCommand) → (Has pc a.store.commands × (E pc.number → ⊥)) ⊎ IsSaid os b.server pc.number →
        (Has pc a.store.commands × (E pc.number → ⊥)) ⊎ IsSaid ps c.server pc.number
    first pc (inl z) = inl z
    first pc (inr z) = inr (subst (λ s. IsSaid ps s pc.number) h.server (said_more os ps f b.server pc.number z))

    go : (pc : PageCommand) (v : ℕ) → pc.kind ≡ io.Write v → (Has pc b.store.commands × (NoneEnds pc.number → ⊥)) ⊎ IsSaid ps c.server pc.number →
        (Has pc a.store.commands × (E pc.number → ⊥)) ⊎ IsSaid ps c.server pc.number
    go pc v k (inl z) = first pc (g.from pc v z.0 k)
    go pc v k (inr z) = inr z

comes_same : (E : ℕ → Type 0) (os : List Output) → ((n : ℕ) → E n → ⊥) → (a : Association) → ComesFrom E os a a
comes_same E os f a = record { server = refl; life = refl; from = λ pc v i k. inl (i, f pc.number) }

-- a rule of this kind
pub record RuleComes (E : ℕ → Type 0) (t u : Turn) : Type 0 where
  pub one : ComesFrom E u.out t.here u.here
  pub more : SaysMore t.out u.out

none : (n : ℕ) → NoneEnds n → ⊥
none n e = e

saying : (os ps qs : List Output) → qs ≡ os ++ ps → SaysMore os qs
saying os ps qs e o i = subst (Has o) (sym e) (has_left os ps o i)

-- outstanding writes are among those that were
fewer : (E : ℕ → Type 0) (t u : Turn) (os : List Output) → t.here.server ≡ u.here.server → t.here.life ≡ u.here.life → u.out ≡ t.out ++ os →
    ((pc : PageCommand) (v : ℕ) → Has pc u.here.store.commands → pc.kind ≡ io.Write v → Has pc t.here.store.commands × (E pc.number → ⊥)) → RuleComes E t u
fewer E t u os s l o f = record { one = record { server = s; life = l; from = λ pc v i k. inl (f pc v i k) }; more = saying t.out os u.out o }

quietly : (t u : Turn) (os : List Output) → t.here.server ≡ u.here.server → t.here.life ≡ u.here.life → u.out ≡ t.out ++ os →
    u.here.store.commands ≡ t.here.store.commands → RuleComes NoneEnds t u
quietly t u os s l o e = fewer NoneEnds t u os s l o (λ pc v i k. (subst (Has pc) e i, none pc.number))

-- A change.
change_comes : (now : Stamp) (t u : Turn) → Change now t u → RuleComes NoneEnds t u
unfolding cp.submit_read cp.submit_write cp.submit_command pages.begin_command pages.forget_read pages.forget_from pages.drop_from pages.written
change_comes now t _ (Says _ o p) = quietly t _ (o ∷ []) refl refl refl refl
change_comes now t _ (Operates _ os) = quietly t _ [] refl refl (nothing_after t.out) refl
change_comes now t _ (Answers _ os ops a) = quietly t _ (map (answer_to a) ops) refl refl refl refl
change_comes now t _ (Greets _ g) = quietly t _ [] refl refl (nothing_after t.out) refl
change_comes now t _ (TellsLost _ lost) = quietly t _ [] refl refl (nothing_after t.out) refl
change_comes now t _ (Begins _ s e b n) = quietly t _ [] refl refl (nothing_after t.out) refl
change_comes now t _ (Follows _ s v e g) = quietly t _ [] refl refl (nothing_after t.out) refl
change_comes now t _ (Learns _ e v n) = quietly t _ [] refl refl (nothing_after t.out) refl
change_comes now t _ (Forgets _ ino p i) = quietly t _ [] refl refl (nothing_after t.out) refl
change_comes now t _ (Caches _ clean) = quietly t _ [] refl refl (nothing_after t.out) refl
change_comes now t _ (Writes _ s f p bytes n e sv own m x) =
    fewer NoneEnds t (cp.with_pages_changed (pages.written t.here.store.pages f.ino p bytes) f.ino p (note t n)) (outputs.Note n ∷ []) refl refl refl
    (λ pc v i k. ((has_filter (λ c. not (pages.is_read_of f.ino p c)) t.here.store.commands pc i).0, none pc.number))
change_comes now t _ (Reads _ ino p m i clean) =
    fewer NoneEnds t (cp.submit_read t ino p m) (_ ∷ []) refl refl refl
    (λ pc v j k. (go pc v k (has_append t.here.store.commands (c ∷ []) pc j), none pc.number))
  where
    c : PageCommand
    c = pages.page_command t.next_command ino p io.Read

    read : (v : ℕ) → io.Read ≡ io.Write v → ⊥
    read v e = cc

    go : (pc : PageCommand) (v : ℕ) → pc.kind ≡ io.Write v → Has pc t.here.store.commands ⊎ Has pc (c ∷ []) → Has pc t.here.store.commands
    go pc v k (inl j) = j
    go pc v k (inr (inl q)) = absurd (read v (ap (λ (x : PageCommand). x.kind) (sym q) ∙ k))
    go pc v k (inr (inr j)) = absurd j
change_comes now t _ (Submits _ s ino p d m e i k w) =
    record {
      one = record { server = refl; life = refl; from = λ pc v j h. go pc (has_append t.here.store.commands (c ∷ []) pc j) };
      more = saying t.out (o ∷ []) u.out refl;
    }
  where
    u : Turn
    u = cp.submit_write t d m

    c : PageCommand
    c = pages.page_command t.next_command d.ino d.page (io.Write d.version)

    its : Tag
    its = record { file = cp.file t d.ino; page = d.page; birth = m.birth }

    o : Output
    o = write_said t.next_command m.at m.at its d.bytes

    new : IsSaid u.out t.here.server t.next_command
    new = record { at = m.at; to = m.at; tag = its; bytes = d.bytes; said = has_last t.out o; server = refl }

    go : (pc : PageCommand) → Has pc t.here.store.commands ⊎ Has pc (c ∷ []) →
        (Has pc t.here.store.commands × (NoneEnds pc.number → ⊥)) ⊎ IsSaid u.out t.here.server pc.number
    go pc (inl j) = inl (j, none pc.number)
    go pc (inr (inl q)) = inr (subst (λ n. IsSaid u.out t.here.server n) (ap (λ (x : PageCommand). x.number) (sym q)) new)
    go pc (inr (inr j)) = absurd j

rule_then : (E : ℕ → Type 0) (t u v : Turn) → RuleComes E t u → RuleComes NoneEnds u v → RuleComes E t v
rule_then E t u v a b = record { one = comes_then E u.out v.out t.here u.here v.here b.more a.one b.one; more = λ o i. b.more o (a.more o i) }

changes_come : (now : Stamp) (t u : Turn) → Changes now t u → RuleComes NoneEnds t u
changes_come now t _ (Still _) = record { one = comes_same NoneEnds t.out none t.here; more = λ o i. i }
changes_come now t _ (Then _ u v c rest) = rule_then NoneEnds t u v (change_comes now t u c) (changes_come now u v rest)

-- The end of a command.

-- a result is not that of a read
abbrev pub EndsWrite : Option (Option (Tag × List ℕ)) → Type 0
EndsWrite result = (block : Option (Tag × List ℕ)) → result ≡ Some block → block ≡ None

-- an input that ends an outstanding write ends it as a write
abbrev pub InputEnds : ClientInput → Type 0
InputEnds (inputs.Done number result) = EndsWrite result
InputEnds input = Unit {0}

abbrev pub AllToldAsWrites : ClientInput → List PageCommand → Type 0
AllToldAsWrites input cs = (pc : PageCommand) (v : ℕ) → Has pc cs → pc.kind ≡ io.Write v → EndedBy input pc.number → InputEnds input

abbrev pub ToldAsWrites : ClientInput → Association → Type 0
ToldAsWrites input a = AllToldAsWrites input a.store.commands

-- without the command that ends
ended : (number : ℕ) (t u : Turn) (c : PageCommand) → c.number ≡ number → (os : List Output) → t.here.server ≡ u.here.server → t.here.life ≡ u.here.life →
    u.out ≡ t.out ++ os → u.here.store.commands ≡ pages.without_command c.number t.here.store.commands → RuleComes (λ n. n ≡ number) t u
ended number t u c its os s l o e =
    fewer (λ n. n ≡ number) t u os s l o
    (λ pc v i k. go pc (has_filter (λ x. not (pages.is_numbered c.number x)) t.here.store.commands pc (subst (Has pc) e i)))
  where
    go : (pc : PageCommand) → Has pc t.here.store.commands × (not (pages.is_numbered c.number pc) ≡ true) →
        Has pc t.here.store.commands × (pc.number ≡ number → ⊥)
    go pc z = (z.0, λ q. not_both (pc.number == c.number) (eq-eqb pc.number c.number (q ∙ sym its)) (not_true (pc.number == c.number) z.1))

finish_comes : (number : ℕ) (result : Option (Option (Tag × List ℕ))) (t u : Turn) → NumbersApart t.here.store.commands →
    ToldAsWrites (inputs.Done number result) t.here →
    Finishes number result t u → RuleComes (λ n. n ≡ number) t u
unfolding pages.harden pages.harden_at pages.harden_page pages.fail pages.failed_by state.answer_each
finish_comes number result t _ apart told (IsUnknown e) =
    fewer (λ n. n ≡ number) t t [] refl refl (nothing_after t.out)
    (λ pc v i k. (i, λ q. not_both (pc.number == number) (eq-eqb pc.number number q) (none_has (pages.is_numbered number) t.here.store.commands e pc i)))
finish_comes number result t _ apart told (IsOfOtherKind c block o r f) =
    fewer (λ n. n ≡ number) t t [] refl refl (nothing_after t.out) (λ pc v i k. (i, λ q. other pc v i k q))
  where
    other : (pc : PageCommand) (v : ℕ) → Has pc t.here.store.commands → pc.kind ≡ io.Write v → pc.number ≡ number → ⊥
    other pc v i k q =
        let same : c ≡ pc = apart c pc (found_at (pages.is_numbered number) t.here.store.commands c o.there).1 i (o.numbered ∙ sym q) in
        let kind : c.kind ≡ io.Write v = ap (λ (x : PageCommand). x.kind) same ∙ k in
        not_both (cl.is_result_of c.kind block) (ap (λ z. cl.is_result_of z block) kind ∙ ap (λ b. not (is_some b)) (told pc v i k q block r)) f
finish_comes number result t _ apart told (Fills c block o k r) = ended number t _ c o.numbered [] refl refl (nothing_after t.out) refl
finish_comes number result t _ apart told (Hardens c v o k r p) = ended number t _ c o.numbered [] refl refl (nothing_after t.out) refl
finish_comes number result t _ apart told (WroteOlder c v o k r p) = ended number t _ c o.numbered [] refl refl (nothing_after t.out) refl
finish_comes number result t _ apart told (FailsToRead c o k r) =
    ended number t _ c o.numbered (map (answer_to (answers.DiskFault c.number)) (filter (cl.waits_for_read t c) t.operations)) refl refl refl refl
finish_comes number result t _ apart told (FailsToWrite c v o k r p) =
    ended number t _ c o.numbered (map (answer_to (answers.DiskFault c.number)) (filter (cl.waits_for_write t c) t.operations)) refl refl refl refl
finish_comes number result t _ apart told (FailsToWriteOlder c v o k r p) =
    ended number t _ c o.numbered (map (answer_to (answers.DiskFault c.number)) (filter (cl.waits_for_write t c) t.operations)) refl refl refl refl

-- At each server.
abbrev RuleIs : (Association → Type 0) → (ℕ → Type 0) → (Turn → Turn) → Type 0
RuleIs P E rule = (t : Turn) → P t.here → RuleComes E t (rule t)

record TheseCome (E : ℕ → Type 0) (al : List Association) (t u : ClientTurn) : Type 0 where
  left : List Association
  is : u.state.associations ≡ t.state.associations ++ left
  pairs : Pairwise (ComesFrom E u.out) al left
  more : SaysMore t.out u.out

these_come : (P : Association → Type 0) (E : ℕ → Type 0) (rule : Turn → Turn) → RuleIs P E rule → (al : List Association) (t : ClientTurn) →
    ((a : Association) → Has a al → P a) → TheseCome E al t (at_these rule al t)
unfolding at_these
these_come P E rule k [] t f = record { left = []; is = nothing_after t.state.associations; pairs = tt; more = λ o i. i }
these_come P E rule k (a ∷ al) t f = go (k (enter t a) (f a (inl refl))) (these_come P E rule k al (leave t u) (λ b i. f b (inr i)))
  where
    u : Turn
    u = rule (enter t a)

    end : ClientTurn
    end = at_these rule al (leave t u)

    go : RuleComes E (enter t a) u → TheseCome E al (leave t u) end → TheseCome E (a ∷ al) t end
    go l r =
        record {
          left = u.here ∷ r.left;
          is = r.is ∙ append_assoc t.state.associations (u.here ∷ []) r.left;
          pairs = record { one = comes_more E u.out end.out a u.here r.more l.one; rest = r.pairs };
          more = λ o i. r.more o (l.more o i);
        }

record AllCome (E : ℕ → Type 0) (t u : ClientTurn) : Type 0 where
  pairs : Pairwise (ComesFrom E u.out) t.state.associations u.state.associations
  more : SaysMore t.out u.out

each_comes : (P : Association → Type 0) (E : ℕ → Type 0) (rule : Turn → Turn) → RuleIs P E rule → (t : ClientTurn) →
    ((a : Association) → Has a t.state.associations → P a) → AllCome E t (at_each rule t)
unfolding at_each
each_comes P E rule k t f = go (these_come P E rule k t.state.associations (with_associations [] t) f)
  where
    u : ClientTurn
    u = at_these rule t.state.associations (with_associations [] t)

    go : TheseCome E t.state.associations (with_associations [] t) u → AllCome E t u
    go r = record { pairs = subst (Pairwise (ComesFrom E u.out) t.state.associations) (sym r.is) r.pairs; more = r.more }

-- What is known of an association before its input.
record Ready (input : ClientInput) (a : Association) : Type 0 where
  fit : Fit a
  apart : NumbersApart a.store.commands
  told : ToldAsWrites input a

-- an input that ends no command
abbrev EndsNone : ClientInput → Type 0
EndsNone (inputs.Done number result) = ⊥
EndsNone input = Unit {0}

idle_comes : (now : Stamp) (input : ClientInput) (t u : ClientTurn) → Taken t now input u → EndsNone input →
    ((a : Association) → Has a t.state.associations → Fit a) →
    AllCome NoneEnds t u
idle_comes now _ t _ k quiet f = go _ _ k quiet
  where
    at_once : (op : ℕ) (a : AppAnswer) → AllCome NoneEnds t (cl.answered_at_once t op a)
    at_once op a =
        record {
          pairs = pairs_same (ComesFrom NoneEnds (t.out ++ outputs.Answer op a ∷ [])) (comes_same NoneEnds (t.out ++ outputs.Answer op a ∷ []) none)
              t.state.associations;
          more = saying t.out (outputs.Answer op a ∷ []) (t.out ++ outputs.Answer op a ∷ []) refl;
        }

    go : (i : ClientInput) (u : ClientTurn) → Taken t now i u → EndsNone i → AllCome NoneEnds t u
    go _ _ (taking.Nothing i) n =
        record { pairs = pairs_same (ComesFrom NoneEnds t.out) (comes_same NoneEnds t.out none) t.state.associations; more = λ o j. j }
    go _ _ (taking.Full op ask e) n = at_once op answers.OpsFull
    go _ _ (taking.Unknown op ask e g) n = at_once op answers.NoFile
    go _ _ (taking.Takes op ask e g) n =
        each_comes Fit NoneEnds (only_at (server_of ask) (cl.take_ask op ask)) (λ u p. changes_come now u _ (changes_by_only now (server_of ask) op ask u)) t f
    go _ _ (taking.Receives m e) n =
        each_comes Fit NoneEnds (cr.receive_at now m.header m.body) (λ u p. changes_come now u _ (changes_by_receive now m.header m.body u p.fresh)) t f
    go _ _ (taking.Finishes number result) n = absurd n

input_comes : (now : Stamp) (input : ClientInput) (t : ClientTurn) → ((a : Association) → Has a t.state.associations → Ready input a) →
    AllCome (EndedBy input) t (cl.take_input t now input)
unfolding cl.take_input cl.done
input_comes now (inputs.Done number result) t f =
    each_comes (Ready (inputs.Done number result)) (λ n. n ≡ number) (cl.finish number result)
    (λ u p. finish_comes number result u (cl.finish number result u) p.apart p.told (finishes number result u)) t f
input_comes now inputs.Tick t f = idle_comes now inputs.Tick t _ (taken t now inputs.Tick) tt (λ a i. (f a i).fit)
input_comes now (inputs.App op ask) t f = idle_comes now (inputs.App op ask) t _ (taken t now (inputs.App op ask)) tt (λ a i. (f a i).fit)
input_comes now (inputs.Control m) t f = idle_comes now (inputs.Control m) t _ (taken t now (inputs.Control m)) tt (λ a i. (f a i).fit)

-- The whole step.

-- each outstanding write of an association after it was outstanding before, in the same life, and did not end, or the outputs submit it
pub record StepComes (E : ℕ → Type 0) (out : List Output) (a b : Association) : Type 0 where
  pub server : a.server ≡ b.server
  pub from : (pc : PageCommand) (v : ℕ) → Has pc b.store.commands → pc.kind ≡ io.Write v →
      ((a.life ≡ b.life) × Has pc a.store.commands × (E pc.number → ⊥)) ⊎ IsSaid out b.server pc.number

lost_then : (E : ℕ → Type 0) (k : Config) (now : Stamp) (out : List Output) (a b c : Association) → LostOrNot k now a b → ComesFrom E out b c →
    StepComes E out a c
lost_then E k now out a b c p q = record { server = p.server ∙ q.server; from = λ pc v i h. go pc (q.from pc v i h) }
  where
    old : (pc : PageCommand) → Has pc b.store.commands → (E pc.number → ⊥) → (z : Bool) → is_ended k now a.session ≡ z →
        (a.life ≡ c.life) × Has pc a.store.commands × (E pc.number → ⊥)
    old pc i n true e = absurd (subst (λ (x : pages.Store). Has pc x.commands) (p.emptied e) i)
    old pc i n false e =
        let same = p.lasts e in
        (ap (λ (x : Association). x.life) same ∙ q.life, subst (λ (x : Association). Has pc x.store.commands) (sym same) i, n)

    go : (pc : PageCommand) → (Has pc b.store.commands × (E pc.number → ⊥)) ⊎ IsSaid out c.server pc.number →
        ((a.life ≡ c.life) × Has pc a.store.commands × (E pc.number → ⊥)) ⊎ IsSaid out c.server pc.number
    go pc (inl z) = inl (old pc z.0 z.1 (is_ended k now a.session) refl)
    go pc (inr z) = inr z

-- what is known of outstanding commands alone holds also if they are lost
lost_keeps : (P : List PageCommand → Type 0) → P [] → (k : Config) (now : Stamp) (a b : Association) → LostOrNot k now a b → P a.store.commands →
    P b.store.commands
lost_keeps P e k now a b r h = go (is_ended k now a.session) refl
  where
    go : (z : Bool) → is_ended k now a.session ≡ z → P b.store.commands
    go false q = subst (λ (x : Association). P x.store.commands) (r.lasts q) h
    go true q = subst (λ (x : pages.Store). P x.commands) (sym (r.emptied q)) e

pub step_comes : (c : ClientId) (s : ClientState) (now : Stamp) (input : ClientInput) → ((a : Association) → Has a s.associations → Fit a) →
    ((a : Association) → Has a s.associations → NumbersApart a.store.commands) → ((a : Association) → Has a s.associations → ToldAsWrites input a) →
    Pairwise (StepComes (EndedBy input) (cl.client_step s now input).out) s.associations (cl.client_step s now input).state.associations
unfolding cl.client_step cl.work
step_comes c s now input f g h =
    pairs_then (LostOrNot s.config now) (ComesFrom (EndedBy input) v.out) (StepComes (EndedBy input) v.out) (lost_then (EndedBy input) s.config now v.out)
    s.associations t.state.associations v.state.associations p.lost.pairs
    (pairs_then (ComesFrom (EndedBy input) u.out) (ComesFrom NoneEnds v.out) (ComesFrom (EndedBy input) v.out)
    (λ a b c x y. comes_then (EndedBy input) u.out v.out a b c worked.more x y) t.state.associations u.state.associations v.state.associations
    received.pairs worked.pairs)
  where
    t : ClientTurn
    t = cl.losses (client_turn s []) now

    u : ClientTurn
    u = cl.take_input t now input

    v : ClientTurn
    v = at_each (cp.passes now (cl.is_tick input)) u

    p : Phased c s now t u (cl.work u now input)
    p = phased c s now input f

    apart : (a : Association) → Has a t.state.associations → NumbersApart a.store.commands
    apart = pairs_has (LostOrNot s.config now) (λ a. NumbersApart a.store.commands) (λ a. NumbersApart a.store.commands)
        (lost_keeps NumbersApart (λ x y i. absurd i) s.config now) s.associations t.state.associations p.lost.pairs g

    told : (a : Association) → Has a t.state.associations → ToldAsWrites input a
    told = pairs_has (LostOrNot s.config now) (ToldAsWrites input) (ToldAsWrites input)
        (lost_keeps (AllToldAsWrites input) (λ x v i. absurd i) s.config now) s.associations t.state.associations p.lost.pairs h

    received : AllCome (EndedBy input) t u
    received = input_comes now input t (λ a i. record { fit = p.fit a i; apart = apart a i; told = told a i })

    worked : AllCome NoneEnds u v
    worked = each_comes Fit NoneEnds (cp.passes now (cl.is_tick input)) (λ x q. changes_come now x _ (changes_by_passes now (cl.is_tick input) x)) u p.fit_too
