-- Each command that is outstanding after a client's step was so before, or was submitted in it; and what is submitted by its number goes to its server's disks.
use Rattle.st_lemmas.proofs.Words
use Words.{◌≡◌, ℕ, ◌≤◌, ◌<◌, ◌+◌, ◌⊎◌, Bool, true, false, List, [], ◌∷◌, ◌++◌, Option, refl, sym, ap, ◌∙◌, subst, inl, inr, arith, if◌then◌else◌, map, not}
use Words.{BlockAt, Body, ClientId, Command, Header, ServerId, Stamp, AppAnswer, Ask, FileId, Operation, Output, PageCommand, ClientInput, Tag}
use Words.answers
use Words.asks
use Words.commands
use Words.notes
use Words.outputs
use Words.io
use Words.Client as cl
use Words.ClientPages as pages
use Words.ClientPasses as cp
use Words.ClientReplies as cr
use Words.ClientState.{Association, ClientSession, ClientState, ClientTurn, Turn, answer_to, at_each, at_these, client_turn, enter, is_at, leave, note, only_at, server_of, with_associations}
use Words.Keys.{server_node}
use Words.Lists.{Has}
use Words.Tables.{has_append, has_filter}
use Words.Safety.{block_of}
use Rattle.st_laws_steps.specs.Client.Client.{Plain, Change, Says, Operates, Answers, Greets, TellsLost, Begins, Follows, Learns, Forgets, Caches, Writes}
use Rattle.st_laws_steps.specs.Client.Client.{Reads, Submits, Changes, Still, Then}
use Rattle.st_laws_steps.specs.Client.Losses.{Fit, Ends, Unknown, Passes, Hardens, Fails, Loses, IsLost, Lasts as IsLasting}
use Rattle.st_laws_steps.specs.Client.Inputs as taking
use Rattle.st_laws_steps.specs.Client.Inputs.{Taken}
use Rattle.st_laws_steps.proofs.Client.Asking.{changes_by_passes}
use Rattle.st_laws_steps.proofs.Client.Replying.{changes_by_receive}
use Rattle.st_laws_steps.proofs.Client.Stepping.{Phased, phased}
use Rattle.st_laws_steps.proofs.Client.Taking.{taken}
use Rattle.st_laws_steps.proofs.Client.Losing.{Finished, changes_by_only, finish_is, is_done, lose_is, rest_of}
use Rattle.st_laws_pages.proofs.Asks.Client.{Begun, Lasting, Lasts, Neutral, Stands, Usable, begins_after_receive, stands_after_finish, stands_after_lose, usable_after_passes}
use Rattle.st_laws_pages.proofs.Asks.Places.{Knows, On, OwnBody}
use Rattle.st_laws_pages.proofs.Causes.Placed.{AllPlaced, EachOut, InputTells, each_place, input_places, lose_places, only_left}

-- An output that submits nothing.
abbrev Silent : Output → Type 0
Silent (outputs.Submit number at what) = ⊥
Silent o = Unit {0}

none_said : (os : List Output) → EachOut Silent os → (number : ℕ) (at : BlockAt) (what : Command) → Has (outputs.Submit number at what) os → ⊥
none_said [] e number at what i = absurd i
none_said (o ∷ os) e number at what (inl q) = subst Silent (sym q) e.one
none_said (o ∷ os) e number at what (inr i) = none_said os e.rest number at what i

answers_silent : (a : AppAnswer) (os : List Operation) → EachOut Silent (map (answer_to a) os)
answers_silent a [] = tt
answers_silent a (o ∷ os) = record { one = tt; rest = answers_silent a os }

plain_silent : (o : Output) → Plain o → Silent o
plain_silent (outputs.Send m) p = tt
plain_silent (outputs.Submit number at what) p = absurd p
plain_silent (outputs.Answer op a) p = tt
plain_silent (outputs.Note n) p = tt

-- Numbers that a turn gives to commands.
abbrev Within : ℕ → ℕ → ℕ → Type 0
Within a b n = (a ≤ n) × (n < b)

record Adds (t u : Turn) : Type 0 where
  low : t.next_command ≤ u.next_command
  server : u.here.server ≡ t.here.server
  outstanding : (pc : PageCommand) → Has pc u.here.store.commands → Has pc t.here.store.commands ⊎ Within t.next_command u.next_command pc.number
  said : (number : ℕ) (at : BlockAt) (what : Command) → Has (outputs.Submit number at what) u.out →
      Has (outputs.Submit number at what) t.out ⊎ (Within t.next_command u.next_command number × (at ≡ block_of what))

-- the outputs are more by these, and nothing is submitted
more_said : (os ps : List Output) → EachOut Silent ps → (number : ℕ) (at : BlockAt) (what : Command) → Has (outputs.Submit number at what) (os ++ ps) →
    Has (outputs.Submit number at what) os
more_said os ps e number at what i = go (has_append os ps (outputs.Submit number at what) i)
  where
    go : Has (outputs.Submit number at what) os ⊎ Has (outputs.Submit number at what) ps → Has (outputs.Submit number at what) os
    go (inl j) = j
    go (inr j) = absurd (none_said ps e number at what j)

adds_self : (t : Turn) → Adds t t
adds_self t = record { low = omega arith; server = refl; outstanding = λ pc i. inl i; said = λ number at what i. inl i }

adds_then : (t u v : Turn) → Adds t u → Adds u v → Adds t v
adds_then t u v a b =
    record {
      low = let p = a.low in let q = b.low in omega (arith, p, q);
      server = b.server ∙ a.server;
      outstanding = λ pc i. one pc (b.outstanding pc i);
      said = λ number at what i. two number at what (b.said number at what i);
    }
  where
    first : (n : ℕ) → Within t.next_command u.next_command n → Within t.next_command v.next_command n
    first n w = let q = b.low in let x = w.1 in (w.0, omega (arith, q, x))

    later : (n : ℕ) → Within u.next_command v.next_command n → Within t.next_command v.next_command n
    later n w = let p = a.low in let x = w.0 in (omega (arith, p, x), w.1)

    early : (pc : PageCommand) → Has pc t.here.store.commands ⊎ Within t.next_command u.next_command pc.number →
        Has pc t.here.store.commands ⊎ Within t.next_command v.next_command pc.number
    early pc (inl i) = inl i
    early pc (inr w) = inr (first pc.number w)

    one : (pc : PageCommand) → Has pc u.here.store.commands ⊎ Within u.next_command v.next_command pc.number →
        Has pc t.here.store.commands ⊎ Within t.next_command v.next_command pc.number
    one pc (inl i) = early pc (a.outstanding pc i)
    one pc (inr w) = inr (later pc.number w)

    before : (number : ℕ) (at : BlockAt) (what : Command) →
        Has (outputs.Submit number at what) t.out ⊎ (Within t.next_command u.next_command number × (at ≡ block_of what)) →
        Has (outputs.Submit number at what) t.out ⊎ (Within t.next_command v.next_command number × (at ≡ block_of what))
    before number at what (inl i) = inl i
    before number at what (inr w) = inr (first number w.0, w.1)

    two : (number : ℕ) (at : BlockAt) (what : Command) →
        Has (outputs.Submit number at what) u.out ⊎ (Within u.next_command v.next_command number × (at ≡ block_of what)) →
        Has (outputs.Submit number at what) t.out ⊎ (Within t.next_command v.next_command number × (at ≡ block_of what))
    two number at what (inl i) = before number at what (a.said number at what i)
    two number at what (inr w) = inr (later number w.0, w.1)

-- nothing is submitted
quiet : (t u : Turn) (more : List Output) → u.next_command ≡ t.next_command → u.here.server ≡ t.here.server →
    ((pc : PageCommand) → Has pc u.here.store.commands → Has pc t.here.store.commands) → u.out ≡ t.out ++ more → EachOut Silent more → Adds t u
quiet t u more n s k o e =
    record {
      low = omega (arith, n);
      server = s;
      outstanding = λ pc i. inl (k pc i);
      said = λ number at what i. inl (more_said t.out more e number at what (subst (Has (outputs.Submit number at what)) o i));
    }

still : (t u : Turn) → u.next_command ≡ t.next_command → u.here.server ≡ t.here.server →
    ((pc : PageCommand) → Has pc u.here.store.commands → Has pc t.here.store.commands) → u.out ≡ t.out → Adds t u
still t u n s k o =
    record {
      low = omega (arith, n);
      server = s;
      outstanding = λ pc i. inl (k pc i);
      said = λ number at what i. inl (subst (Has (outputs.Submit number at what)) o i);
    }

one_more : (o : Output) → Silent o → EachOut Silent (o ∷ [])
one_more o s = record { one = s; rest = tt }

-- one command is submitted
submitted : (t u : Turn) (new : PageCommand) (at : BlockAt) (what : Command) → u.next_command ≡ t.next_command + 1 → u.here.server ≡ t.here.server →
    new.number ≡ t.next_command → u.here.store.commands ≡ t.here.store.commands ++ new ∷ [] → at ≡ block_of what →
    u.out ≡ t.out ++ outputs.Submit t.next_command at what ∷ [] → Adds t u
submitted t u new at what n s k c b o =
    record {
      low = omega (arith, n);
      server = s;
      outstanding = λ pc i. one pc (has_append t.here.store.commands (new ∷ []) pc (subst (Has pc) c i));
      said = λ number to w i. two number to w (has_append t.out (outputs.Submit t.next_command at what ∷ []) _ (subst (Has (outputs.Submit number to w)) o i));
    }
  where
    within : (m : ℕ) → m ≡ t.next_command → Within t.next_command u.next_command m
    within m q = (omega (arith, q), omega (arith, q, n))

    one : (pc : PageCommand) → Has pc t.here.store.commands ⊎ Has pc (new ∷ []) → Has pc t.here.store.commands ⊎ Within t.next_command u.next_command pc.number
    one pc (inl i) = inl i
    one pc (inr (inl q)) = inr (within pc.number (ap (λ (z : PageCommand). z.number) q ∙ k))
    one pc (inr (inr i)) = absurd i

    number_is : (a d : ℕ) (x y : BlockAt) (p q : Command) → outputs.Submit a x p ≡ outputs.Submit d y q → (a ≡ d) × ((x ≡ y) × (p ≡ q))
    number_is a d x y p q e = (cc, (cc, cc))

    two : (number : ℕ) (to : BlockAt) (w : Command) →
        Has (outputs.Submit number to w) t.out ⊎ Has (outputs.Submit number to w) (outputs.Submit t.next_command at what ∷ []) →
        Has (outputs.Submit number to w) t.out ⊎ (Within t.next_command u.next_command number × (to ≡ block_of w))
    two number to w (inl i) = inl i
    two number to w (inr (inl q)) =
        let z = number_is number t.next_command to at w what q in
        inr (within number z.0, z.1.0 ∙ (b ∙ ap block_of (sym z.1.1)))
    two number to w (inr (inr i)) = absurd i

-- Changes.
change_adds : (now : Stamp) (t u : Turn) → Change now t u → Adds t u
unfolding cp.submit_read cp.submit_write cp.submit_command pages.begin_command pages.forget_read pages.forget_from
change_adds now t _ (Says _ o p) = quiet t _ (o ∷ []) refl refl (λ pc i. i) refl (one_more o (plain_silent o p))
change_adds now t _ (Operates _ os) = still t _ refl refl (λ pc i. i) refl
change_adds now t _ (Answers _ os ops a) = quiet t _ (map (answer_to a) ops) refl refl (λ pc i. i) refl (answers_silent a ops)
change_adds now t _ (Greets _ g) = still t _ refl refl (λ pc i. i) refl
change_adds now t _ (TellsLost _ lost) = still t _ refl refl (λ pc i. i) refl
change_adds now t _ (Begins _ s e b n) = still t _ refl refl (λ pc i. i) refl
change_adds now t _ (Follows _ s v e g) = still t _ refl refl (λ pc i. i) refl
change_adds now t _ (Learns _ e v n) = still t _ refl refl (λ pc i. i) refl
change_adds now t _ (Forgets _ ino p i) = still t _ refl refl (λ pc i. i) refl
change_adds now t _ (Caches _ clean) = still t _ refl refl (λ pc i. i) refl
change_adds now t _ (Writes _ s f p bytes n e sv own m x) =
    quiet t _ (outputs.Note n ∷ []) refl refl (λ pc i. (has_filter (λ c. not (pages.is_read_of f.ino p c)) t.here.store.commands pc i).0) refl
    (one_more (outputs.Note n) tt)
change_adds now t _ (Reads _ ino p m i clean) = submitted t _ (pages.page_command t.next_command ino p io.Read) m.at (commands.Read m.at) refl refl refl refl
    refl refl
change_adds now t _ (Submits _ s ino p d m e i k w) =
    submitted t _ (pages.page_command t.next_command d.ino d.page (io.Write d.version)) m.at
    (commands.Write m.at (record { file = cp.file t d.ino; page = d.page; birth = m.birth }) d.bytes) refl refl refl refl refl refl

changes_add : (now : Stamp) (t u : Turn) → Changes now t u → Adds t u
changes_add now t _ (Still _) = adds_self t
changes_add now t _ (Then _ u v c rest) = adds_then t u v (change_adds now t u c) (changes_add now u v rest)

-- The end of a command.
ends_add : (number : ℕ) (ok : Bool) (t u : Turn) → Ends number ok t u → Adds t u
unfolding cl.hardened
ends_add number ok t _ Unknown = adds_self t
ends_add number ok t _ (Passes c e o) = still t _ refl refl (λ pc i. (has_filter (λ x. not (pages.is_numbered number x)) t.here.store.commands pc i).0) refl
ends_add number ok t _ (Hardens c v e o k w) =
    still t _ refl refl (λ pc i. (has_filter (λ x. not (pages.is_numbered number x)) t.here.store.commands pc i).0) refl
ends_add number ok t _ (Fails c v e o k w) =
    still t _ refl refl (λ pc i. (has_filter (λ x. not (pages.is_numbered number x)) t.here.store.commands pc i).0) refl

finished_adds : (now : Stamp) (number : ℕ) (ok : Bool) (t u : Turn) → Finished now number ok t u → Adds t u
finished_adds now number ok t u f = adds_then t f.mid u (ends_add number ok t f.mid f.ends) (changes_add now f.mid u (rest_of f))

-- A loss.
lose_adds : (now : Stamp) (t u : Turn) → Loses now t u → Adds t u
lose_adds now t _ (IsLasting n) = adds_self t
lose_adds now t _ (IsLost s e n v c) =
    adds_then t (note t (notes.Lost t.here.server t.here.life)) _
    (quiet t (note t (notes.Lost t.here.server t.here.life)) (outputs.Note (notes.Lost t.here.server t.here.life) ∷ []) refl refl (λ pc i. i) refl
    (one_more (outputs.Note (notes.Lost t.here.server t.here.life)) tt))
    (adds_then (note t (notes.Lost t.here.server t.here.life)) v _ (changes_add now _ v c) (still v (cl.empty_here v) refl refl (λ pc i. absurd i) refl))

-- The blocks of commands.
abbrev Blocks : ℕ → ServerId → List Output → List Operation → List Output → Type 0
Blocks n s os ops out =
    (number : ℕ) (at : BlockAt) (what : Command) → Has (outputs.Submit number at what) out →
    Has (outputs.Submit number at what) os ⊎ On n s (block_of what)

quiet_block : (n : ℕ) (s : ServerId) (os out more : List Output) → EachOut Silent more → Blocks n s os [] out → Blocks n s os [] (out ++ more)
quiet_block n s os out more e h number at what i = h number at what (more_said out more e number at what i)

blocks_last : (n : ℕ) (s : ServerId) (c : ClientId) (os : List Output) → Lasts n (λ v. v ≡ s) c (Blocks n s os)
blocks_last n s c os =
    record {
      says = λ ops out o m z. quiet_block n s os out (o ∷ []) (one_more o (neutral o m)) z;
      submits = λ ops out v number at what u on z. λ k to w i. new k to w out number at what (subst (λ y. On n y (block_of what)) u on) z
          (has_append out (outputs.Submit number at what ∷ []) (outputs.Submit k to w) i);
      answered = λ xs ys out o a m z. quiet_block n s os out (outputs.Answer o.op a ∷ []) (one_more (outputs.Answer o.op a) tt) z;
      reads = λ xs ys out o bytes u z.
          quiet_block n s os out (outputs.Answer o.op (answers.Read bytes) ∷ []) (one_more (outputs.Answer o.op (answers.Read bytes)) tt) z;
      changes = λ xs ys out o x m u z.
          quiet_block n s os (out ++ outputs.Note x ∷ []) (outputs.Answer o.op answers.Written ∷ []) (one_more (outputs.Answer o.op answers.Written) tt)
          (quiet_block n s os out (outputs.Note x ∷ []) (one_more (outputs.Note x) tt) z);
      stages = λ xs ys out e z. z;
    }
  where
    neutral : (o : Output) → Neutral c o → Silent o
    neutral (outputs.Send m) p = tt
    neutral (outputs.Submit number at what) p = absurd p
    neutral (outputs.Answer op a) p = absurd p
    neutral (outputs.Note x) p = tt

    what_is : (a d : ℕ) (x y : BlockAt) (p q : Command) → outputs.Submit a x p ≡ outputs.Submit d y q → p ≡ q
    what_is a d x y p q e = cc

    new : (k : ℕ) (to : BlockAt) (w : Command) (out : List Output) (number : ℕ) (at : BlockAt) (what : Command) → On n s (block_of what) →
        Blocks n s os [] out → Has (outputs.Submit k to w) out ⊎ Has (outputs.Submit k to w) (outputs.Submit number at what ∷ []) →
        Has (outputs.Submit k to w) os ⊎ On n s (block_of w)
    new k to w out number at what on z (inl i) = z k to w i
    new k to w out number at what on z (inr (inl q)) = inr (subst (λ y. On n s (block_of y)) (sym (what_is k number to at w what q)) on)
    new k to w out number at what on z (inr (inr i)) = absurd i

-- A rule at one server.
record RuleAdds (n : ℕ) (t u : Turn) : Type 0 where
  adds : Adds t u
  blocks : Blocks n t.here.server t.out [] u.out

abbrev RuleIs : ℕ → (Turn → Turn) → Type 0
RuleIs n rule = (t : Turn) → Fit t.here → Knows n t.here.server t.here.store.extents → RuleAdds n t (rule t)

abbrev Own : ℕ → Turn → (ServerId → Option ClientSession → Option Stamp → Type 0) → Turn → Type 0
Own n t C u = Stands n t.id t.config (Blocks n t.here.server t.out) C u

own_begins : (n : ℕ) (t : Turn) (C : ServerId → Option ClientSession → Option Stamp → Type 0) → C t.here.server t.here.session t.here.greeting →
    Knows n t.here.server t.here.store.extents → Own n t C t
own_begins n t C c k = record { id = refl; config = refl; done = λ number at what i. inl i; own = k; cond = c }

passes_add : (n : ℕ) (now : Stamp) (tick : Bool) → RuleIs n (cp.passes now tick)
passes_add n now tick t f k =
    let s = t.here.server in
    record {
      adds = changes_add now t _ (changes_by_passes now tick t);
      blocks =
          (usable_after_passes n (λ v. v ≡ s) t.id t.config (Blocks n s t.out) (blocks_last n s t.id t.out) now tick t
          (own_begins n t (Usable (λ v. v ≡ s)) (λ e. refl) k)).done;
    }

receive_adds : (n : ℕ) (now : Stamp) (h : Header) (b : Body) →
    ((s : ServerId) → h.from ≡ server_node s → OwnBody n s b) → RuleIs n (cr.receive_at now h b)
receive_adds n now h b o t f k =
    let s = t.here.server in
    record {
      adds = changes_add now t _ (changes_by_receive now h b t f.fresh);
      blocks =
          (begins_after_receive n (λ v. v ≡ s) t.id t.config (Blocks n s t.out) (blocks_last n s t.id t.out) now h b t o
          (own_begins n t (Begun (λ v. v ≡ s)) (λ e. refl) k)).done;
    }

finish_adds : (n : ℕ) (now : Stamp) (number : ℕ) (r : Option (Option (Tag × List ℕ))) → RuleIs n (cl.finish number r)
finish_adds n now number r t f k =
    let s = t.here.server in
    record {
      adds = finished_adds now number (is_done r) t _ (finish_is now number r t);
      blocks =
          (stands_after_finish n (λ v. v ≡ s) t.id t.config (Blocks n s t.out) (blocks_last n s t.id t.out) (Usable (λ v. v ≡ s)) number r t
          (own_begins n t (Usable (λ v. v ≡ s)) (λ e. refl) k)).done;
    }

loss_adds : (n : ℕ) (now : Stamp) → RuleIs n (cl.lose now)
loss_adds n now t f k =
    let s = t.here.server in
    record {
      adds = lose_adds now t _ (lose_is now t);
      blocks =
          (stands_after_lose n (λ v. v ≡ s) t.id t.config (Blocks n s t.out) (blocks_last n s t.id t.out) now t
          (own_begins n t (Lasting t.config now (λ v. v ≡ s)) (λ e. refl) k)).done;
    }

-- an ask is given no command
ask_adds : (n : ℕ) (now : Stamp) (s : ServerId) (op : ℕ) (ask : Ask) → RuleIs n (only_at s (cl.take_ask op ask))
unfolding only_at cl.take_ask cl.take_by cl.take_sync cl.enqueue cl.tell_lost
ask_adds n now s op ask t f k = record { adds = adds; blocks = λ number at what i. blocks number at what (adds.said number at what i) }
  where
    u : Turn
    u = only_at s (cl.take_ask op ask) t

    adds : Adds t u
    adds = changes_add now t u (changes_by_only now s op ask t)

    lost : (g : FileId) (b : Bool) → (if b then cl.tell_lost t op g.ino else cl.enqueue t op ask).next_command ≡ t.next_command
    lost g true = refl
    lost g false = refl

    by : (a : Ask) → (cl.take_by t op ask a).next_command ≡ t.next_command
    by (asks.Sync g) = lost g (pages.has_lost t.here.lost g.ino)
    by a = refl

    go : (b : Bool) → (if b then cl.take_ask op ask t else t).next_command ≡ t.next_command
    go true = by ask
    go false = refl

    next : u.next_command ≡ t.next_command
    next = go (is_at s t.here)

    blocks : (number : ℕ) (at : BlockAt) (what : Command) →
        Has (outputs.Submit number at what) t.out ⊎ (Within t.next_command u.next_command number × (at ≡ block_of what)) →
        Has (outputs.Submit number at what) t.out ⊎ On n t.here.server (block_of what)
    blocks number at what (inl i) = inl i
    blocks number at what (inr w) = let a = w.0.0 in let b = w.0.1 in let e = next in absurd (omega (arith, a, b, e))

-- At all servers: what was outstanding at first, and the first number.
module _ (n first : ℕ) (old : List Association) where
  abbrev pub IsOld : ServerId → PageCommand → Type 0
  IsOld s pc = (b : Association) × (Has b old × ((b.server ≡ s) × Has pc b.store.commands))

  pub record FineAt (next : ℕ) (out : List Output) (a : Association) : Type 0 where
    pub below : (pc : PageCommand) → Has pc a.store.commands → pc.number < next
    pub from : (pc : PageCommand) → Has pc a.store.commands → IsOld a.server pc ⊎ (first ≤ pc.number)
    pub placed : (pc : PageCommand) → Has pc a.store.commands → (number : ℕ) (at : BlockAt) (what : Command) → Has (outputs.Submit number at what) out →
        number ≡ pc.number → On n a.server at

  abbrev SaidBelow : ℕ → List Output → Type 0
  SaidBelow next out = (number : ℕ) (at : BlockAt) (what : Command) → Has (outputs.Submit number at what) out → number < next

  said_too : (t u : Turn) → Adds t u → SaidBelow t.next_command t.out → SaidBelow u.next_command u.out
  said_too t u a h number at what i = go (a.said number at what i)
    where
      go : Has (outputs.Submit number at what) t.out ⊎ (Within t.next_command u.next_command number × (at ≡ block_of what)) → number < u.next_command
      go (inl j) = let p = h number at what j in let q = a.low in omega (arith, p, q)
      go (inr w) = w.0.1

  others : (t u : Turn) → Adds t u → (b : Association) → FineAt t.next_command t.out b → FineAt u.next_command u.out b
  others t u a b h =
      record {
        below = λ pc i. let p = h.below pc i in let q = a.low in omega (arith, p, q);
        from = h.from;
        placed = λ pc i number at what j q. go pc i number at what q (a.said number at what j);
      }
    where
      go : (pc : PageCommand) → Has pc b.store.commands → (number : ℕ) (at : BlockAt) (what : Command) → number ≡ pc.number →
          Has (outputs.Submit number at what) t.out ⊎ (Within t.next_command u.next_command number × (at ≡ block_of what)) → On n b.server at
      go pc i number at what q (inl j) = h.placed pc i number at what j q
      go pc i number at what q (inr w) = let p = h.below pc i in let x = w.0.0 in absurd (omega (arith, p, x, q))

  own : (t u : Turn) → RuleAdds n t u → first ≤ t.next_command → SaidBelow t.next_command t.out → FineAt t.next_command t.out t.here →
      FineAt u.next_command u.out u.here
  own t u r low said h =
      record {
        below = λ pc i. below pc (r.adds.outstanding pc i);
        from = λ pc i. from pc (r.adds.outstanding pc i);
        placed = λ pc i number at what j q. placed pc number at what q (r.adds.outstanding pc i) (r.adds.said number at what j) (r.blocks number at what j);
      }
    where
      below : (pc : PageCommand) → Has pc t.here.store.commands ⊎ Within t.next_command u.next_command pc.number → pc.number < u.next_command
      below pc (inl i) = let p = h.below pc i in let q = r.adds.low in omega (arith, p, q)
      below pc (inr w) = w.1

      from : (pc : PageCommand) → Has pc t.here.store.commands ⊎ Within t.next_command u.next_command pc.number → IsOld u.here.server pc ⊎ (first ≤ pc.number)
      from pc (inl i) = subst (λ s. IsOld s pc ⊎ (first ≤ pc.number)) (sym r.adds.server) (h.from pc i)
      from pc (inr w) = let p = w.0 in inr (omega (arith, low, p))

      here : (at : BlockAt) → On n t.here.server at → On n u.here.server at
      here at o = subst (λ s. On n s at) (sym r.adds.server) o

      placed : (pc : PageCommand) (number : ℕ) (at : BlockAt) (what : Command) → number ≡ pc.number →
          Has pc t.here.store.commands ⊎ Within t.next_command u.next_command pc.number →
          Has (outputs.Submit number at what) t.out ⊎ (Within t.next_command u.next_command number × (at ≡ block_of what)) →
          Has (outputs.Submit number at what) t.out ⊎ On n t.here.server (block_of what) → On n u.here.server at
      placed pc number at what q (inl i) (inl j) o = here at (h.placed pc i number at what j q)
      placed pc number at what q (inl i) (inr w) o = let p = h.below pc i in let x = w.0.0 in absurd (omega (arith, p, x, q))
      placed pc number at what q (inr v) (inl j) o = let p = said number at what j in let x = v.0 in absurd (omega (arith, p, x, q))
      placed pc number at what q (inr v) (inr w) (inl j) = let p = said number at what j in let x = v.0 in absurd (omega (arith, p, x, q))
      placed pc number at what q (inr v) (inr w) (inr o) = here at (subst (On n t.here.server) (sym w.1) o)

  -- A rule at each server in turn.
  pub record AllFine (t : ClientTurn) : Type 0 where
    pub low : first ≤ t.state.next_command
    pub said : SaidBelow t.state.next_command t.out
    pub each : (a : Association) → Has a t.state.associations → FineAt t.state.next_command t.out a

  abbrev AllKnow : List Association → Type 0
  AllKnow al = (b : Association) → Has b al → Knows n b.server b.store.extents

  these_fine : (rule : Turn → Turn) → RuleIs n rule → (al : List Association) (t : ClientTurn) → ((b : Association) → Has b al → Fit b) → AllKnow al →
      ((b : Association) → Has b al → FineAt t.state.next_command t.out b) → AllFine t → AllFine (at_these rule al t)
  unfolding at_these
  these_fine rule one [] t f k e h = h
  these_fine rule one (a ∷ al) t f k e h =
      let r = one (enter t a) (f a (inl refl)) (k a (inl refl)) in
      these_fine rule one al (leave t u) (λ b i. f b (inr i)) (λ b i. k b (inr i)) (λ b i. others (enter t a) u r.adds b (e b (inr i)))
      (record {
        low = let p = h.low in let q = r.adds.low in omega (arith, p, q);
        said = said_too (enter t a) u r.adds h.said;
        each = λ b i. each r b (has_append t.state.associations (u.here ∷ []) b i);
      })
    where
      u : Turn
      u = rule (enter t a)

      each : RuleAdds n (enter t a) u → (b : Association) → Has b t.state.associations ⊎ Has b (u.here ∷ []) → FineAt u.next_command u.out b
      each r b (inl i) = others (enter t a) u r.adds b (h.each b i)
      each r b (inr (inl q)) = subst (FineAt u.next_command u.out) (sym q) (own (enter t a) u r h.low h.said (e a (inl refl)))
      each r b (inr (inr i)) = absurd i

  each_fine : (rule : Turn → Turn) → RuleIs n rule → (t : ClientTurn) → ((b : Association) → Has b t.state.associations → Fit b) →
      AllKnow t.state.associations → AllFine t → AllFine (at_each rule t)
  unfolding at_each
  each_fine rule one t f k h =
      these_fine rule one t.state.associations (with_associations [] t) f k h.each (record { low = h.low; said = h.said; each = λ a i. absurd i })

  at_once : (t : ClientTurn) (op : ℕ) (a : AppAnswer) → AllFine t → AllFine (cl.answered_at_once t op a)
  at_once t op a h =
      record {
        low = h.low;
        said = λ number at what i. h.said number at what (less number at what i);
        each = λ b i. let z = h.each b i in
            record { below = z.below; from = z.from; placed = λ pc j number at what k q. z.placed pc j number at what (less number at what k) q };
      }
    where
      less : (number : ℕ) (at : BlockAt) (what : Command) → Has (outputs.Submit number at what) (t.out ++ outputs.Answer op a ∷ []) →
          Has (outputs.Submit number at what) t.out
      less = more_said t.out (outputs.Answer op a ∷ []) (one_more (outputs.Answer op a) tt)

  input_fine : (now : Stamp) (input : ClientInput) (t u : ClientTurn) → Taken t now input u → InputTells n input →
      ((b : Association) → Has b t.state.associations → Fit b) → AllKnow t.state.associations → AllFine t → AllFine u
  input_fine now _ t _ (taking.Nothing i) told f k h = h
  input_fine now _ t _ (taking.Full op ask e) told f k h = at_once t op _ h
  input_fine now _ t _ (taking.Unknown op ask e g) told f k h = at_once t op _ h
  input_fine now _ t _ (taking.Takes op ask e g) told f k h =
      each_fine (only_at (server_of ask) (cl.take_ask op ask)) (ask_adds n now (server_of ask) op ask) t f k h
  input_fine now _ t _ (taking.Receives m e) told f k h = each_fine (cr.receive_at now m.header m.body) (receive_adds n now m.header m.body told) t f k h
  input_fine now _ t _ (taking.Finishes number r) told f k h = each_fine (cl.finish number r) (finish_adds n now number r) t f k h

-- The whole step.
pub step_fine : (n : ℕ) (c : ClientId) (s : ClientState) (now : Stamp) (input : ClientInput) → InputTells n input →
    ((b : Association) → Has b s.associations → Fit b) → ((b : Association) → Has b s.associations → Knows n b.server b.store.extents) →
    ((b : Association) → Has b s.associations → (pc : PageCommand) → Has pc b.store.commands → pc.number < s.next_command) →
    AllFine n s.next_command s.associations (cl.client_step s now input)
unfolding cl.client_step cl.work cl.losses
step_fine n c s now input told f k below =
    each_fine n s.next_command s.associations (cp.passes now (cl.is_tick input)) (passes_add n now (cl.is_tick input)) u p.fit_too b.knows
    (input_fine n s.next_command s.associations now input t u (taken t now input) told p.fit a.knows
    (each_fine n s.next_command s.associations (cl.lose now) (loss_adds n now) (client_turn s []) f k
    (record {
      low = omega arith;
      said = λ number at what i. absurd i;
      each = λ b i. record { below = below b i; from = λ pc j. inl (b, (i, (refl, j))); placed = λ pc j number at what x. absurd x };
    })))
  where
    t : ClientTurn
    t = cl.losses (client_turn s []) now

    u : ClientTurn
    u = cl.take_input t now input

    v : ClientTurn
    v = cl.work u now input

    p : Phased c s now t u v
    p = phased c s now input f

    a : AllPlaced n (client_turn s []) t
    a = each_place n (cl.lose now) (only_left n (cl.lose now) (lose_places n now)) (client_turn s []) f k

    b : AllPlaced n t u
    b = input_places n now input t u (taken t now input) told p.fit a.knows
