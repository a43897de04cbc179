-- Which losses a step of a client of the third form notes: only those of leases that are over.
use Rattle.st_lemmas.proofs.Words
use Words.{◌≡◌, ℕ, ◌⊎◌, Bool, true, false, ◌==◌, List, [], ◌∷◌, ◌++◌, Option, Some, None, map, map-append, append-nil, append_assoc, refl, sym, ap}
use Words.{◌∙◌, subst, inl, inr}
use Words.{if◌then◌else◌, AppAnswer, Body, ClientInput, Config, DemandedFile, Header, HeldLock, Life, Note, Output, PageNo, ServerId, Stamp}
use Words.answers
use Words.inputs
use Words.notes
use Words.outputs
use Words.Client as cl
use Words.ClientLease as lease
use Words.ClientLocks as locks
use Words.ClientPasses as passes
use Words.ClientState.{Association, ClientSession, Turn, answer_to, is_at, server_of}
use Words.Lengths.{nothing_after}
use Words.Lists.{Has}
use Words.Tables.{has_append, has_map, has_map_in}
use Rattle.st_base.specs.declared.ids.FileId.{FileId}
use Rattle.st_laws_steps.specs.Client.Client as client
use Rattle.st_laws_steps.specs.Client.Losses.{Ends, Fails, Fit, Hardens, Passes, Unknown, is_ended}
use Rattle.st_third.specs.declared.event.ThirdInput.{ThirdInput}
use Rattle.st_third.specs.declared.event.ThirdInput.TheVariants as third_inputs
use Rattle.st_third.specs.declared.limits.Limits.{Limits}
use Rattle.st_third.specs.declared.output.ThirdOutput.{ThirdOutput}
use Rattle.st_third.specs.declared.output.ThirdOutput.TheVariants as says
use Rattle.st_third.specs.Client as third
use Rattle.st_third.specs.Leave as leaving
use Rattle.st_third.specs.Replies.{receive, receive_at}
use Rattle.st_third.specs.State.{Beside, ThirdClient, ThirdClientTurn, ThirdTurn, all_said, at_each, at_these, enter, here, leave, only_at}
use Rattle.st_third.specs.State.{plain_output, plainly, say, session, third_turn}
use Rattle.st_third.specs.UsedOnce.{reduced}
use Rattle.st_laws_requests.specs.Cuts.Cuts.{view}
use Rattle.st_laws_third.specs.Changes.{Begins, GivesBack, Heard, IsBeside, Leaves, Plainly, PlainWord, Reduces, Says, Still, Then, ThirdChange}
use Rattle.st_laws_third.specs.Changes.{ThirdChanges}
use Rattle.st_laws_third.specs.Changes.{HasLeft, IsLost, Lasts, Stays, ThirdFinishes, ThirdLeaves, ThirdLoses, ThirdPasses, WaitsForRoom, with_plain}
use Rattle.st_laws_third.specs.Pairs.{IsPaired}
use Rattle.st_laws_third.proofs.Chains.{left_has, right_has}
use Rattle.st_laws_third.proofs.Finishing.{finishes, takes}
use Rattle.st_laws_third.proofs.Leaving.{loses, takes_leave}
use Rattle.st_laws_third.proofs.Passing.{passes_change}
use Rattle.st_laws_third.proofs.Receiving.{receives}
use Rattle.st_laws_third_leases.proofs.Placing.{ViewPlain}
use Rattle.st_laws_third_leases.proofs.Stepping.{lost, ready1}

-- an output that notes no loss
abbrev NoLossNote : Note → Type 0
NoLossNote (notes.Lost s life) = ⊥
NoLossNote n = Unit {0}

abbrev NoLossIn : Output → Type 0
NoLossIn (outputs.Note n) = NoLossNote n
NoLossIn o = Unit {0}

abbrev pub NoLoss : ThirdOutput → Type 0
NoLoss (says.Plain o) = NoLossIn o
NoLoss o = Unit {0}

-- the note of a loss
abbrev pub loss : ServerId → Life → ThirdOutput
loss s life = says.Plain (outputs.Note (notes.Lost s life))

-- Changes of the first two forms.
record Noted (t u : Turn) : Type 0 where
  more : List Output
  out : u.out ≡ t.out ++ more
  right : (o : Output) → Has o more → NoLossIn o

nothing_noted : (t u : Turn) → u.out ≡ t.out → Noted t u
nothing_noted t u e = record { more = []; out = e ∙ nothing_after t.out; right = λ o h. absurd h }

one_noted : (t u : Turn) (o : Output) → u.out ≡ t.out ++ o ∷ [] → NoLossIn o → Noted t u
one_noted t u o e f = record { more = o ∷ []; out = e; right = λ y h. one y h }
  where
    one : (y : Output) → Has y (o ∷ []) → NoLossIn y
    one y (inl q) = subst NoLossIn (sym q) f
    one y (inr i) = absurd i

plain_noted : (o : Output) → client.Plain o → NoLossIn o
plain_noted (outputs.Send m) p = tt
plain_noted (outputs.Submit number at what) p = tt
plain_noted (outputs.Answer op a) p = tt
plain_noted (outputs.Note n) p = by n p
  where
    by : (n : Note) → client.PlainNote n → NoLossNote n
    by (notes.Lost s life) p = p
    by n p = tt

page_noted : (f : FileId) (p : PageNo) (n : Note) → client.ChangesPage f p n → NoLossIn (outputs.Note n)
page_noted f p (notes.Lost s life) c = absurd c
page_noted f p n c = tt

change_noted : (now : Stamp) (t u : Turn) → client.Change now t u → Noted t u
unfolding passes.submit_read passes.submit_write passes.submit_command
change_noted now t _ (client.Says _ o p) = one_noted t _ o refl (plain_noted o p)
change_noted now t _ (client.Operates _ os) = nothing_noted t _ refl
change_noted now t _ (client.Answers _ os ops a) =
    record { more = map (answer_to a) ops; out = refl; right = λ o h. let z = has_map (answer_to a) ops o h in subst NoLossIn (sym z.2) tt }
change_noted now t _ (client.Greets _ g) = nothing_noted t _ refl
change_noted now t _ (client.TellsLost _ ls) = nothing_noted t _ refl
change_noted now t _ (client.Begins _ s a b c) = nothing_noted t _ refl
change_noted now t _ (client.Follows _ s u e g) = nothing_noted t _ refl
change_noted now t _ (client.Learns _ e u h) = nothing_noted t _ refl
change_noted now t _ (client.Forgets _ ino p i) = nothing_noted t _ refl
change_noted now t _ (client.Caches _ clean) = nothing_noted t _ refl
change_noted now t _ (client.Writes _ s f p bytes x sv own m h i) = one_noted t _ (outputs.Note x) refl (page_noted f p x i)
change_noted now t _ (client.Reads _ ino p m i clean) = one_noted t _ _ refl tt
change_noted now t _ (client.Submits _ s ino p d m e i k w) = one_noted t _ _ refl tt

-- What is said after a rule was said before it, or notes no loss.
abbrev Adds : ThirdTurn → ThirdTurn → Type 0
Adds t u = (o : ThirdOutput) → Has o (all_said u) → Has o (all_said t) ⊎ NoLoss o

adds_same : (t u : ThirdTurn) → all_said u ≡ all_said t → Adds t u
adds_same t u e o h = inl (subst (Has o) e h)

adds_then : (t u v : ThirdTurn) → Adds t u → Adds u v → Adds t v
adds_then t u v a b o h = go (b o h)
  where
    go : Has o (all_said u) ⊎ NoLoss o → Has o (all_said t) ⊎ NoLoss o
    go (inl i) = a o i
    go (inr n) = inr n

adds_more : (t u : ThirdTurn) (more : List ThirdOutput) → all_said u ≡ all_said t ++ more → ((o : ThirdOutput) → Has o more → NoLoss o) → Adds t u
adds_more t u more e f o h = go (has_append (all_said t) more o (subst (Has o) e h))
  where
    go : Has o (all_said t) ⊎ Has o more → Has o (all_said t) ⊎ NoLoss o
    go (inl i) = inl i
    go (inr i) = inr (f o i)

-- a change of the first two forms
plainly_adds : (t : ThirdTurn) (u : Turn) → Noted t.plain u → Adds t (with_plain u t)
plainly_adds t u n =
    adds_more t (with_plain u t) (map plain_output n.more)
    (ap (λ os. t.said ++ map plain_output os) n.out ∙ ap (λ os. t.said ++ os) (map-append plain_output t.plain.out n.more) ∙
    sym (append_assoc t.said (map plain_output t.plain.out) (map plain_output n.more)))
    (λ o h. let z = has_map plain_output n.more o h in subst NoLoss (sym z.2) (n.right z.0 z.1))

word_noted : (got : Heard) (t : ThirdTurn) (o : ThirdOutput) → PlainWord got t o → NoLoss o
word_noted got t (says.Plain (outputs.Send m)) w = tt
word_noted got t (says.Plain (outputs.Submit number at what)) w = tt
word_noted got t (says.Plain (outputs.Answer op a)) w = tt
word_noted got t (says.Plain (outputs.Note n)) w = absurd w
word_noted got t (says.Left op) w = tt
word_noted got t (says.Unsynced op ino) w = tt
word_noted got t (says.Ended s life end) w = tt

one_noted_word : (o : ThirdOutput) → NoLoss o → (x : ThirdOutput) → Has x (o ∷ []) → NoLoss x
one_noted_word o n x (inl e) = subst NoLoss (sym e) n
one_noted_word o n x (inr i) = absurd i

-- a reduction says nothing
reduced_same : (t : ThirdTurn) (s : ClientSession) (d : DemandedFile) (ino : ℕ) → all_said (with_plain (reduced s (Some d) ino t.plain) t) ≡ all_said t
unfolding passes.reduce_by passes.reduce_given passes.reduce_to locks.reduce_at locks.reduce_lock
reduced_same t s d ino = held (locks.lock_of s.locks d.ino)
  where
    held : (l : Option HeldLock) → all_said (with_plain (passes.reduce_by t.plain s ino (locks.reduce_lock s.locks d l)) t) ≡ all_said t
    held None = refl
    held (Some l) = refl

third_adds : (got : Heard) (now : Stamp) (t u : ThirdTurn) → ThirdChange got now t u → Adds t u
unfolding say plainly
third_adds got now t _ (Plainly _ u c k) = plainly_adds t u (change_noted now t.plain u c)
third_adds got now t _ (Says _ o w) =
    adds_more t (say t o) (o ∷ []) (sym (nothing_after (all_said t ++ o ∷ []))) (one_noted_word o (word_noted got t o w))
third_adds got now t _ (Leaves _ ls pending) = λ o h. inl h
third_adds got now t _ (IsBeside _ b l) = λ o h. inl h
third_adds got now t _ (WaitsForRoom _ n) = λ o h. inl h
third_adds got now t _ (Begins _ epoch stamp e f w) = λ o h. inl h
third_adds got now t _ (GivesBack _ s l e h) = λ o i. inl i
third_adds got now t _ (Reduces _ s d ino e q i) = adds_same t (with_plain (reduced s (Some d) ino t.plain) t) (reduced_same t s d ino)

changes_add : (got : Heard) (now : Stamp) (t u : ThirdTurn) → ThirdChanges got now t u → Adds t u
changes_add got now t _ (Still _) = λ o h. inl h
changes_add got now t v (Then _ u _ c cs) = adds_then t u v (third_adds got now t u c) (changes_add got now u v cs)

-- the end of a command says nothing
ends_same : (number : ℕ) (ok : Bool) (t v : Turn) → Ends number ok t v → v.out ≡ t.out
unfolding cl.hardened
ends_same number ok t _ Unknown = refl
ends_same number ok t _ (Passes x e o) = refl
ends_same number ok t _ (Hardens x v e o w q) = refl
ends_same number ok t _ (Fails x v e o w q) = refl

finishes_add : (now : Stamp) (number : ℕ) (ok : Bool) (t u : ThirdTurn) → ThirdFinishes now number ok t u → Adds t u
finishes_add now number ok t u f =
    adds_then t (with_plain f.middle t) u (plainly_adds t f.middle (nothing_noted t.plain f.middle (ends_same number ok t.plain f.middle f.ends)))
    (changes_add _ now (with_plain f.middle t) u f.rest)

leaves_add : (now : Stamp) (t u : ThirdTurn) → ThirdLeaves now t u → Adds t u
unfolding say plainly
leaves_add now t _ Stays = λ o h. inl h
leaves_add now t _ (HasLeft s f) =
    let o : ThirdOutput = says.Ended (here t) t.plain.here.life (lease.end_of t.plain.config s.lease) in
    adds_more t (leaving.emptied (say t o)) (o ∷ []) (sym (nothing_after (all_said t ++ o ∷ []))) (one_noted_word o tt)

passes_add : (now : Stamp) (tick : Bool) (t : ThirdTurn) → Adds t (third.third_passes now tick t)
passes_add now tick t = go (passes_change now tick t)
  where
    u : ThirdTurn
    u = third.third_passes now tick t

    go : ThirdPasses now t u → Adds t u
    go p =
        adds_then t p.left u (adds_then t p.written p.left (changes_add None now t p.written p.works) (leaves_add now p.written p.left p.leaves))
        (changes_add None now p.left u p.asks)

-- Whose loss an output may note: that of a lease that is over.
abbrev pub Blames : Config → Stamp → Association → ThirdOutput → Type 0
Blames k now a o = (s : ServerId) (life : Life) → o ≡ loss s life → (a.server ≡ s) × (is_ended k now a.session ≡ true)

lose_adds : (k : Config) (now : Stamp) (t : ThirdTurn) → t.plain.config ≡ k → (o : ThirdOutput) → Has o (all_said (leaving.lose now t)) →
    Has o (all_said t) ⊎ (NoLoss o ⊎ Blames k now t.plain.here o)
unfolding plainly
lose_adds k now t c o = go (leaving.lose now t) (loses t)
  where
    server_is : (r s : ServerId) (x y : Life) → loss r x ≡ loss s y → r ≡ s
    server_is r s x y e = cc

    note : Output
    note = outputs.Note (notes.Lost t.plain.here.server t.plain.here.life)

    among : is_ended t.plain.config now (session t) ≡ true → (z : Output) → o ≡ plain_output z → Has z t.plain.out ⊎ Has z (note ∷ []) →
        Has o (all_said t) ⊎ (NoLoss o ⊎ Blames k now t.plain.here o)
    among i z e (inl h) = inl (subst (λ x. Has x (all_said t)) (sym e) (right_has t.said _ (plain_output z) (has_map_in plain_output t.plain.out z h)))
    among i z e (inr (inl q)) =
        inr (inr (λ s life f. (
          server_is t.plain.here.server s t.plain.here.life life (ap plain_output (sym q) ∙ sym e ∙ f),
          subst (λ kb. is_ended kb now (session t) ≡ true) c i,
        )))
    among i z e (inr (inr h)) = absurd h

    noted : is_ended t.plain.config now (session t) ≡ true → Has o t.said ⊎ Has o (map plain_output (t.plain.out ++ note ∷ [])) →
        Has o (all_said t) ⊎ (NoLoss o ⊎ Blames k now t.plain.here o)
    noted i (inl h) = inl (left_has t.said _ o h)
    noted i (inr h) = let z = has_map plain_output (t.plain.out ++ note ∷ []) o h in among i z.0 z.2 (has_append t.plain.out (note ∷ []) z.0 z.1)

    by : is_ended t.plain.config now (session t) ≡ true → Has o (all_said (with_plain (leaving.noted_lost t.plain) t)) ⊎ NoLoss o →
        Has o (all_said t) ⊎ (NoLoss o ⊎ Blames k now t.plain.here o)
    by i (inl h) = noted i (has_append t.said _ o h)
    by i (inr n) = inr (inl n)

    go : (u : ThirdTurn) → ThirdLoses now t u → Has o (all_said u) → Has o (all_said t) ⊎ (NoLoss o ⊎ Blames k now t.plain.here o)
    go _ (Lasts e) h = inl h
    go _ (IsLost s v e i cs) h = by i (changes_add None now (with_plain (leaving.noted_lost t.plain) t) v cs o h)

-- A rule at each server in turn.
module _ (m : Limits) (k : Config) (rule : ThirdTurn → ThirdTurn) (P : Association → Type 0) (B : Association → ThirdOutput → Type 0)
    (one : (t : ThirdTurn) → t.plain.config ≡ k → P t.plain.here → (o : ThirdOutput) → Has o (all_said (rule t)) → Has o (all_said t) ⊎ B t.plain.here o) where
  abbrev Said_at : List Association → ThirdClientTurn → ThirdOutput → Type 0
  Said_at as_ t o = Has o t.out ⊎ ((a : Association) × Has a as_ × B a o)

  these_say : (as_ : List Association) (bs : List Beside) (t : ThirdClientTurn) → t.client.plain.config ≡ k → ((a : Association) → Has a as_ → P a) →
      (o : ThirdOutput) → Has o (at_these m rule as_ bs t).out → Said_at as_ t o
  unfolding at_these
  these_say [] bs t c f o h = inl h
  these_say (a ∷ as_) [] t c f o h = inl h
  these_say (a ∷ as_) (b ∷ bs) t c f o h = later (these_say as_ bs (leave t (rule (enter m t a b))) c (λ x i. f x (inr i)) o h)
    where
      first : Has o (all_said (enter m t a b)) ⊎ B a o → Said_at (a ∷ as_) t o
      first (inl i) = inl (subst (Has o) (append-nil t.out) i)
      first (inr x) = inr (a, inl refl, x)

      later : Said_at as_ (leave t (rule (enter m t a b))) o → Said_at (a ∷ as_) t o
      later (inl i) = first (one (enter m t a b) c (f a (inl refl)) o i)
      later (inr (d, i, x)) = inr (d, inr i, x)

  each_says : (t : ThirdClientTurn) → t.client.plain.config ≡ k → ((a : Association) → Has a t.client.plain.associations → P a) → (o : ThirdOutput) →
      Has o (at_each m rule t).out → Said_at t.client.plain.associations t o
  unfolding at_each
  each_says t c f o h = these_say t.client.plain.associations t.client.beside.besides _ c f o h

-- A whole step.
module _ (m : Limits) (c : ThirdClient) (now : Stamp) (input : ThirdInput) (pairing : IsPaired c) (fit : (a : Association) → Has a c.plain.associations → Fit a)
    (unseen : (a : Association) → Has a c.plain.associations → ViewPlain (view a.session)) where
  abbrev k : Config
  k = c.plain.config

  abbrev t0 : ThirdClientTurn
  t0 = third_turn c []

  abbrev t1 : ThirdClientTurn
  t1 = third.losses m t0 now

  abbrev t2 : ThirdClientTurn
  t2 = third.take_input m t1 now input

  abbrev Blamed : ThirdOutput → Type 0
  Blamed o = NoLoss o ⊎ ((a : Association) × Has a c.plain.associations × Blames k now a o)

  first : (o : ThirdOutput) → Has o t1.out → Blamed o
  unfolding third.losses
  first o h = by (each_says m k (leaving.lose now) (λ a. Unit {0}) (λ a o. NoLoss o ⊎ Blames k now a o)
      (λ t q p o h. lose_adds k now t q o h) t0 refl (λ a h. tt) o h)
    where
      at : (a : Association) → Has a c.plain.associations → NoLoss o ⊎ Blames k now a o → Blamed o
      at a i (inl n) = inl n
      at a i (inr x) = inr (a, i, x)

      by : Has o [] ⊎ ((a : Association) × Has a c.plain.associations × (NoLoss o ⊎ Blames k now a o)) → Blamed o
      by (inl i) = absurd i
      by (inr (a, i, x)) = at a i x

  -- what notes no loss is added
  abbrev Adds_all : ThirdClientTurn → ThirdClientTurn → Type 0
  Adds_all t u = (o : ThirdOutput) → Has o u.out → Has o t.out ⊎ NoLoss o

  fit1 : (a : Association) → Has a t1.client.plain.associations → Fit a
  fit1 a h = (ready1 m c now input pairing fit unseen a h).0

  each_adds : (rule : ThirdTurn → ThirdTurn) → ((t : ThirdTurn) → Fit t.plain.here → Adds t (rule t)) → (t : ThirdClientTurn) → t.client.plain.config ≡ k →
      ((a : Association) → Has a t.client.plain.associations → Fit a) → Adds_all t (at_each m rule t)
  each_adds rule adds t q f o h = by (each_says m k rule Fit (λ a o. NoLoss o) (λ t q p o h. adds t p o h) t q f o h)
    where
      by : Has o t.out ⊎ ((a : Association) × Has a t.client.plain.associations × NoLoss o) → Has o t.out ⊎ NoLoss o
      by (inl i) = inl i
      by (inr (a, i, n)) = inr n

  only_adds : (s : ServerId) (rule : ThirdTurn → ThirdTurn) → ((t : ThirdTurn) → Adds t (rule t)) → (t : ThirdTurn) → Adds t (only_at s rule t)
  unfolding only_at
  only_adds s rule adds t = go (is_at s t.plain.here)
    where
      go : (b : Bool) → Adds t (if b then rule t else t)
      go true = adds t
      go false = λ o h. inl h

  config1 : t1.client.plain.config ≡ k
  config1 = (lost m c now input pairing fit unseen).config

  asks_add : (op : ℕ) (s : ServerId) (rule : ThirdTurn → ThirdTurn) → ((t : ThirdTurn) → Adds t (rule t)) → Adds_all t1 (third.ask_by m t1 op s rule)
  unfolding third.ask_by third.ask_at
  asks_add op s rule adds = go (third.is_full m t1.client) (cl.is_configured t1.client.plain s)
    where
      at_once : (a : AppAnswer) → Adds_all t1 (third.answered_at_once t1 op a)
      at_once a o h = by (has_append t1.out (says.Plain (outputs.Answer op a) ∷ []) o h)
        where
          by : Has o t1.out ⊎ Has o (says.Plain (outputs.Answer op a) ∷ []) → Has o t1.out ⊎ NoLoss o
          by (inl i) = inl i
          by (inr i) = inr (one_noted_word (says.Plain (outputs.Answer op a)) tt o i)

      go : (b d : Bool) → Adds_all t1
          (if b then third.answered_at_once t1 op answers.OpsFull else
          (if d then at_each m (only_at s rule) t1 else third.answered_at_once t1 op answers.NoFile))
      go true d = at_once answers.OpsFull
      go false true = each_adds (only_at s rule) (λ t f. only_adds s rule adds t) t1 config1 fit1
      go false false = at_once answers.NoFile

  hears_add : (h : Header) (body : Body) → Adds_all t1 (receive m t1 now h body)
  unfolding receive
  hears_add h body = go (h.to == t1.client.plain.id.0)
    where
      go : (b : Bool) → Adds_all t1 (if b then at_each m (receive_at now h body) t1 else t1)
      go true = each_adds (receive_at now h body) (λ t f. changes_add _ now t _ (receives now h body t f.fresh)) t1 config1 fit1
      go false = λ o i. inl i

  plain_adds : (i : ClientInput) → Adds_all t1 (third.take_plain m t1 now i)
  unfolding third.take_plain third.app third.done
  plain_adds inputs.Tick = λ o h. inl h
  plain_adds (inputs.App op ask) = asks_add op (server_of ask) (third.take_plainly op ask) (λ t. changes_add _ now t _ (takes now op ask t))
  plain_adds (inputs.Control message) = hears_add message.header message.body
  plain_adds (inputs.Done number result) =
      each_adds (third.finish number result) (λ t f. finishes_add now number _ t _ (finishes now number t result)) t1 config1 fit1

  input_adds : (j : ThirdInput) → Adds_all t1 (third.take_input m t1 now j)
  unfolding third.take_input third.app_leave
  input_adds (third_inputs.Plain i) = plain_adds i
  input_adds (third_inputs.Leave op s) = asks_add op s (leaving.take_leave op) (λ t. changes_add _ now t _ (takes_leave op t))

  -- the passes, at each server
  works_add : (t : ThirdClientTurn) → Adds_all t (third.work m t now input)
  unfolding third.work
  works_add t o h =
      by (each_says m t.client.plain.config (third.third_passes now (third.is_tick input)) (λ a. Unit {0}) (λ a o. NoLoss o)
      (λ t q p o h. passes_add now (third.is_tick input) t o h) t refl (λ a h. tt) o h)
    where
      by : Has o t.out ⊎ ((a : Association) × Has a t.client.plain.associations × NoLoss o) → Has o t.out ⊎ NoLoss o
      by (inl i) = inl i
      by (inr (a, i, n)) = inr n

  pub losses_noted : (o : ThirdOutput) → Has o (third.client_step m c now input).out → Blamed o
  unfolding third.client_step
  losses_noted o h = passed (works_add t2 o h)
    where
      input_taken : Has o t1.out ⊎ NoLoss o → Blamed o
      input_taken (inl i) = first o i
      input_taken (inr n) = inl n

      passed : Has o t2.out ⊎ NoLoss o → Blamed o
      passed (inl i) = input_taken (input_adds input o i)
      passed (inr n) = inl n
