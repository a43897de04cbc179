-- When a client's step submits writes: each goes to a disk of its file's server.
use Rattle.st_lemmas.proofs.Words
use Words.{◌≡◌, ℕ, Bool, true, false, ◌⊎◌, List, [], ◌∷◌, ◌++◌, Option, refl, sym, ap, ◌∙◌, subst, inl, inr, append_assoc, if◌then◌else◌, map, Tag, ClientId}
use Words.{FileId, ServerId, Stamp, AppAnswer, Ask, Body, Header, Output, ClientInput, Operation, ◌%◌, ◌+◌, pred, Some, BlockAt, length}
use Words.{eqb-true, SentMessage}
use Words.commands
use Words.asks
use Words.notes
use Words.outputs
use Words.inputs
use Words.Client as cl
use Words.ClientPasses as cp
use Words.ClientPages as pages
use Words.ClientReplies as cr
use Words.ClientState.{Association, ClientState, ClientTurn, Turn, ClientSession, answer_to, at_each, at_these, client_turn, enter, is_at, leave, note, only_at}
use Words.ClientState.{server_of, with_associations}
use Words.Keys.{server_node}
use Words.Lists.{Has}
use Words.Tables.{has_append, each_passes}
use Words.nodes
use Words.bodies
use Words.World.{World, WorldClient, site_of}
use Words.WorldInvariants.{is_on_disk_of, is_own_known, is_own_mapping, is_own_row, knows_own, knows_own_at, tells_own, tells_own_rows}
use Words.Numbers.{numbered_has}
use Words.Safety.{block_of}
use Words.Lengths.{nothing_after}
use Words.Worlds.{server_at_node}
use Rattle.st_laws_steps.specs.Client.Client.{Plain, Change, Says, Operates, Answers, Greets, TellsLost, Begins, Follows, Learns, Forgets, Caches, Writes}
use Rattle.st_laws_steps.specs.Client.Client.{Reads, Submits, Changes, Still, Then}
use Rattle.st_laws_steps.specs.Client.Losses.{Fit, Ends, Unknown, Passes, Hardens, Fails, Loses, IsLost, Lasts as IsLasting}
use Rattle.st_laws_steps.specs.Client.Inputs as taking
use Rattle.st_laws_steps.specs.Client.Inputs.{Taken}
use Rattle.st_laws_steps.proofs.Client.Asking.{changes_by_passes}
use Rattle.st_laws_steps.proofs.Client.Replying.{changes_by_receive}
use Rattle.st_laws_steps.proofs.Client.Stepping.{Phased, phased}
use Rattle.st_laws_steps.proofs.Client.Taking.{taken}
use Rattle.st_laws_steps.proofs.Client.Nexts.{change_next}
use Rattle.st_laws_steps.proofs.Client.Losing.{Finished, finish_is, is_done, lose_is, rest_of}
use Rattle.st_laws_pages.specs.Asks.Law.{PlacesHold}
use Rattle.st_laws_pages.proofs.Asks.Places.{On, Knows, OwnBody}
use Rattle.st_laws_pages.proofs.Asks.Client.{key, Begun, Lasting, Lasts, Neutral, Stands, Usable, begins_after_receive, usable_after_passes, stands_after_finish, stands_after_lose}

-- a fact of each output
abbrev pub EachOut : (Output → Type 0) → List Output → Type 0
EachOut P [] = Unit {0}
EachOut P (o ∷ os) = record { one : P o; rest : EachOut P os }

-- more was said, each output with this fact
pub record Since (P : Output → Type 0) (os ps : List Output) : Type 0 where
  pub more : List Output
  pub out : ps ≡ os ++ more
  pub each : EachOut P more

pub each_both : (P : Output → Type 0) (os ps : List Output) → EachOut P os → EachOut P ps → EachOut P (os ++ ps)
each_both P [] ps a b = b
each_both P (o ∷ os) ps a b = record { one = a.one; rest = each_both P os ps a.rest b }

pub since_none : (P : Output → Type 0) (os : List Output) → Since P os os
since_none P os = record { more = []; out = nothing_after os; each = tt }

pub since_same : (P : Output → Type 0) (os ps : List Output) → ps ≡ os → Since P os ps
since_same P os ps e = record { more = []; out = e ∙ nothing_after os; each = tt }

pub since_then : (P : Output → Type 0) (os ps qs : List Output) → Since P os ps → Since P ps qs → Since P os qs
since_then P os ps qs a b = record { more = a.more ++ b.more; out = b.out ∙ ap (λ z. z ++ b.more) a.out ∙ append_assoc os a.more b.more; each = each_both P a.more b.more a.each b.each }

pub since_one : (P : Output → Type 0) (os : List Output) (o : Output) → P o → Since P os (os ++ o ∷ [])
since_one P os o p = record { more = o ∷ []; out = refl; each = record { one = p; rest = tt } }

same_behind : (os ps qs : List Output) → os ++ ps ≡ os ++ qs → ps ≡ qs
same_behind [] ps qs e = e
same_behind (o ∷ os) ps qs e = same_behind os ps qs (tail_is e)
  where
    tail_is : o ∷ os ++ ps ≡ o ∷ os ++ qs → os ++ ps ≡ os ++ qs
    tail_is z = cc

each_with : (P Q R : Output → Type 0) → ((o : Output) → P o → Q o → R o) → (os : List Output) → EachOut P os → EachOut Q os → EachOut R os
each_with P Q R f [] a b = tt
each_with P Q R f (o ∷ os) a b = record { one = f o a.one b.one; rest = each_with P Q R f os a.rest b.rest }

since_with : (P Q R : Output → Type 0) → ((o : Output) → P o → Q o → R o) → (os ps : List Output) → Since P os ps → Since Q os ps → Since R os ps
since_with P Q R f os ps a b =
    record { more = a.more; out = a.out; each = each_with P Q R f a.more a.each (subst (EachOut Q) (same_behind os b.more a.more (sym b.out ∙ a.out)) b.each) }

-- A write goes to a disk of its file's server if there are that many servers.
abbrev pub PlacedOne : ℕ → Output → Type 0
PlacedOne n (outputs.Submit number at (commands.Write to tag bytes)) = On n tag.file.server at
PlacedOne n o = Unit {0}

-- all that are submitted
abbrev pub Placed : ℕ → List Output → Type 0
Placed n = EachOut (PlacedOne n)

-- a write is of a file of this server, and goes to the block that it names
abbrev pub TaggedOne : ServerId → Output → Type 0
TaggedOne s (outputs.Submit number at (commands.Write to tag bytes)) = (tag.file.server ≡ s) × (at ≡ to)
TaggedOne s o = Unit {0}

-- a command is for a disk of this server
abbrev pub BlockOne : ℕ → ServerId → Output → Type 0
BlockOne n s (outputs.Submit number at what) = On n s (block_of what)
BlockOne n s o = Unit {0}

both_placed : (n : ℕ) (s : ServerId) (o : Output) → TaggedOne s o → BlockOne n s o → PlacedOne n o
both_placed n s (outputs.Send m) a b = tt
both_placed n s (outputs.Answer op r) a b = tt
both_placed n s (outputs.Note m) a b = tt
both_placed n s (outputs.Submit number at (commands.Read to)) a b = tt
both_placed n s (outputs.Submit number at (commands.Write to tag bytes)) a b = subst (λ v. On n v at) (sym a.0) (subst (λ z. On n s z) (sym a.1) b)

-- Tags, through changes at one server.
answers_tagged : (s : ServerId) (a : AppAnswer) (os : List Operation) → EachOut (TaggedOne s) (map (answer_to a) os)
answers_tagged s a [] = tt
answers_tagged s a (o ∷ os) = record { one = tt; rest = answers_tagged s a os }

plain_tagged : (s : ServerId) (o : Output) → Plain o → TaggedOne s o
plain_tagged s (outputs.Send m) p = tt
plain_tagged s (outputs.Submit n at what) p = absurd p
plain_tagged s (outputs.Answer op a) p = tt
plain_tagged s (outputs.Note n) p = tt

change_tagged : (now : Stamp) (t u : Turn) → Change now t u → Since (TaggedOne t.here.server) t.out u.out
unfolding cp.submit_read cp.submit_write cp.submit_command
change_tagged now t _ (Says _ o p) = since_one _ t.out o (plain_tagged t.here.server o p)
change_tagged now t _ (Operates _ os) = since_none _ t.out
change_tagged now t _ (Answers _ os ops a) = record { more = map (answer_to a) ops; out = refl; each = answers_tagged t.here.server a ops }
change_tagged now t _ (Greets _ g) = since_none _ t.out
change_tagged now t _ (TellsLost _ lost) = since_none _ t.out
change_tagged now t _ (Begins _ s e b n) = since_none _ t.out
change_tagged now t _ (Follows _ s v e g) = since_none _ t.out
change_tagged now t _ (Learns _ e v n) = since_none _ t.out
change_tagged now t _ (Forgets _ ino p i) = since_none _ t.out
change_tagged now t _ (Caches _ clean) = since_none _ t.out
change_tagged now t _ (Writes _ s f p bytes n e sv own m x) = since_one (TaggedOne t.here.server) t.out (outputs.Note n) tt
change_tagged now t _ (Reads _ ino p m i clean) = since_one (TaggedOne t.here.server) t.out (outputs.Submit t.next_command m.at (commands.Read m.at)) tt
change_tagged now t _ (Submits _ s ino p d m e i k w) =
    since_one (TaggedOne t.here.server) t.out (outputs.Submit t.next_command m.at (commands.Write m.at (record { file = cp.file t d.ino; page = d.page; birth = m.birth }) d.bytes)) (refl, refl)

changes_tagged : (now : Stamp) (t u : Turn) → Changes now t u → Since (TaggedOne t.here.server) t.out u.out
changes_tagged now t _ (Still _) = since_none _ t.out
changes_tagged now t _ (Then _ u v c rest) =
    since_then _ t.out u.out v.out (change_tagged now t u c) (subst (λ s. Since (TaggedOne s) u.out v.out) (sym (change_next now t u c).server) (changes_tagged now u v rest))

ends_quiet : (number : ℕ) (ok : Bool) (t u : Turn) → Ends number ok t u → (u.out ≡ t.out) × (u.here.server ≡ t.here.server)
unfolding cl.hardened
ends_quiet number ok t _ Unknown = (refl, refl)
ends_quiet number ok t _ (Passes pc e o) = (refl, refl)
ends_quiet number ok t _ (Hardens pc v e o k w) = (refl, refl)
ends_quiet number ok t _ (Fails pc v e o k w) = (refl, refl)

finished_tagged : (now : Stamp) (number : ℕ) (ok : Bool) (t u : Turn) → Finished now number ok t u → Since (TaggedOne t.here.server) t.out u.out
finished_tagged now number ok t u f =
    let q = ends_quiet number ok t f.mid f.ends in
    since_then _ t.out f.mid.out u.out (since_same _ t.out f.mid.out q.0) (subst (λ s. Since (TaggedOne s) f.mid.out u.out) q.1 (changes_tagged now f.mid u (rest_of f)))

-- the keys of operations are among these
abbrev pub From : List (ℕ × Ask) → List Operation → Type 0
From ks ops = (k : ℕ × Ask) → Has k (map key ops) → Has k ks

fewer_has : (xs ys : List Operation) (o : Operation) (k : ℕ × Ask) → Has k (map key (xs ++ ys)) → Has k (map key (xs ++ o ∷ ys))
fewer_has [] ys o k h = inr h
fewer_has (x ∷ xs) ys o k (inl e) = inl e
fewer_has (x ∷ xs) ys o k (inr h) = inr (fewer_has xs ys o k h)

-- Blocks and operations, by what holds of places at one server.
record Blocks (n : ℕ) (s : ServerId) (os : List Output) (ks : List (ℕ × Ask)) (ops : List Operation) (out : List Output) : Type 0 where
  since : Since (BlockOne n s) os out
  from : From ks ops

blocks_last : (n : ℕ) (s : ServerId) (c : ClientId) (os : List Output) (ks : List (ℕ × Ask)) → Lasts n (λ v. v ≡ s) c (Blocks n s os ks)
blocks_last n s c os ks =
    record {
      says = λ ops out o m z. record { since = since_then _ os out _ z.since (since_one _ out o (neutral o m)); from = z.from };
      submits = λ ops out v number at what u on z. record { since = since_then _ os out _ z.since (since_one (BlockOne n s) out (outputs.Submit number at what) (subst (λ w. On n w (block_of what)) u on)); from = z.from };
      answered = λ xs ys out o a m z. record { since = since_then _ os out _ z.since (since_one (BlockOne n s) out (outputs.Answer o.op a) tt); from = λ k i. z.from k (fewer_has xs ys o k i) };
      reads = λ xs ys out o bytes u z. record { since = since_then _ os out _ z.since (since_one (BlockOne n s) out _ tt); from = λ k i. z.from k (fewer_has xs ys o k i) };
      changes = λ xs ys out o x m u z.
          record {
            since = since_then _ os (out ++ outputs.Note x ∷ []) _ (since_then _ os out _ z.since (since_one (BlockOne n s) out (outputs.Note x) tt)) (since_one (BlockOne n s) (out ++ outputs.Note x ∷ []) _ tt);
            from = λ k i. z.from k (fewer_has xs ys o k i);
          };
      stages = λ xs ys out e z. record { since = z.since; from = λ k i. z.from k (subst (λ l. Has k l) (sym e) i) };
    }
  where
    neutral : (o : Output) → Neutral c o → BlockOne n s o
    neutral (outputs.Send m) p = tt
    neutral (outputs.Submit number at what) p = absurd p
    neutral (outputs.Answer op a) p = absurd p
    neutral (outputs.Note x) p = tt

-- What a rule at one server leaves: what is known of places is of its disks, and what was submitted is placed.
pub record RuleLeft (n : ℕ) (t u : Turn) : Type 0 where
  pub knows : Knows n u.here.server u.here.store.extents
  pub placed : Since (PlacedOne n) t.out u.out

-- It leaves no other operations than there were.
pub record RuleKeeps (n : ℕ) (t u : Turn) : Type 0 where
  pub left : RuleLeft n t u
  pub from : From (map key t.operations) u.operations

abbrev pub RulePlaces : ℕ → (Turn → Turn) → Type 0
RulePlaces n rule = (t : Turn) → Fit t.here → Knows n t.here.server t.here.store.extents → RuleLeft n t (rule t)

abbrev pub RuleKept : ℕ → (Turn → Turn) → Type 0
RuleKept n rule = (t : Turn) → Fit t.here → Knows n t.here.server t.here.store.extents → RuleKeeps n t (rule t)

abbrev Own : ℕ → Turn → (ServerId → Option ClientSession → Option Stamp → Type 0) → Turn → Type 0
Own n t C u = Stands n t.id t.config (Blocks n t.here.server t.out (map key t.operations)) C u

own_begins : (n : ℕ) (t : Turn) (C : ServerId → Option ClientSession → Option Stamp → Type 0) → C t.here.server t.here.session t.here.greeting → Knows n t.here.server t.here.store.extents → Own n t C t
own_begins n t C c k = record { id = refl; config = refl; done = record { since = since_none _ t.out; from = λ k i. i }; own = k; cond = c }

joined : (n : ℕ) (t u : Turn) (C : ServerId → Option ClientSession → Option Stamp → Type 0) → Since (TaggedOne t.here.server) t.out u.out → Own n t C u → RuleKeeps n t u
joined n t u C a w = record { left = record { knows = w.own; placed = since_with _ _ _ (both_placed n t.here.server) t.out u.out a w.done.since }; from = w.done.from }

pub passes_place : (n : ℕ) (now : Stamp) (tick : Bool) → RuleKept n (cp.passes now tick)
passes_place n now tick t f k =
    let s = t.here.server in
    joined n t (cp.passes now tick t) (Usable (λ v. v ≡ s)) (changes_tagged now t _ (changes_by_passes now tick t))
    (usable_after_passes n (λ v. v ≡ s) t.id t.config (Blocks n s t.out (map key t.operations)) (blocks_last n s t.id t.out (map key t.operations)) now tick t (own_begins n t (Usable (λ v. v ≡ s)) (λ e. refl) k))

pub receive_places : (n : ℕ) (now : Stamp) (h : Header) (b : Body) → ((s : ServerId) → h.from ≡ server_node s → OwnBody n s b) → RuleKept n (cr.receive_at now h b)
receive_places n now h b o t f k =
    let s = t.here.server in
    joined n t (cr.receive_at now h b t) (Usable (λ v. v ≡ s)) (changes_tagged now t _ (changes_by_receive now h b t f.fresh))
    (begins_after_receive n (λ v. v ≡ s) t.id t.config (Blocks n s t.out (map key t.operations)) (blocks_last n s t.id t.out (map key t.operations)) now h b t o (own_begins n t (Begun (λ v. v ≡ s)) (λ e. refl) k))

pub finish_places : (n : ℕ) (now : Stamp) (number : ℕ) (r : Option (Option (Tag × List ℕ))) → RuleKept n (cl.finish number r)
finish_places n now number r t f k =
    let s = t.here.server in
    joined n t (cl.finish number r t) (Usable (λ v. v ≡ s)) (finished_tagged now number (is_done r) t _ (finish_is now number r t))
    (stands_after_finish n (λ v. v ≡ s) t.id t.config (Blocks n s t.out (map key t.operations)) (blocks_last n s t.id t.out (map key t.operations)) (Usable (λ v. v ≡ s)) number r t (own_begins n t (Usable (λ v. v ≡ s)) (λ e. refl) k))

lose_tagged : (now : Stamp) (t u : Turn) → Loses now t u → Since (TaggedOne t.here.server) t.out u.out
lose_tagged now t _ (IsLasting n) = since_none _ t.out
lose_tagged now t _ (IsLost s e n v c) =
    since_then _ t.out (t.out ++ outputs.Note (notes.Lost t.here.server t.here.life) ∷ []) v.out (since_one (TaggedOne t.here.server) t.out (outputs.Note (notes.Lost t.here.server t.here.life)) tt)
    (changes_tagged now (note t (notes.Lost t.here.server t.here.life)) v c)

pub lose_places : (n : ℕ) (now : Stamp) → RuleKept n (cl.lose now)
lose_places n now t f k =
    let s = t.here.server in
    joined n t (cl.lose now t) (Begun (λ v. v ≡ s)) (lose_tagged now t _ (lose_is now t))
    (stands_after_lose n (λ v. v ≡ s) t.id t.config (Blocks n s t.out (map key t.operations)) (blocks_last n s t.id t.out (map key t.operations)) now t (own_begins n t (Lasting t.config now (λ v. v ≡ s)) (λ e. refl) k))

-- An ask: at most an answer is said.
pub ask_places : (n : ℕ) (s : ServerId) (op : ℕ) (ask : Ask) → RulePlaces n (only_at s (cl.take_ask op ask))
unfolding only_at cl.take_ask cl.take_by cl.take_sync cl.enqueue cl.tell_lost
ask_places n s op ask t f k = go (is_at s t.here)
  where
    lost : (g : FileId) (b : Bool) → RuleLeft n t (if b then cl.tell_lost t op g.ino else cl.enqueue t op ask)
    lost g true = record { knows = k; placed = since_one (PlacedOne n) t.out _ tt }
    lost g false = record { knows = k; placed = since_none _ t.out }

    by : (a : Ask) → RuleLeft n t (cl.take_by t op ask a)
    by (asks.Sync g) = lost g (pages.has_lost t.here.lost g.ino)
    by a = record { knows = k; placed = since_none _ t.out }

    go : (b : Bool) → RuleLeft n t (if b then cl.take_ask op ask t else t)
    go true = by ask
    go false = record { knows = k; placed = since_none _ t.out }

-- A rule at each server in turn.
pub record AllPlaced (n : ℕ) (t u : ClientTurn) : Type 0 where
  pub knows : (b : Association) → Has b u.state.associations → Knows n b.server b.store.extents
  pub placed : Since (PlacedOne n) t.out u.out

pub only_left : (n : ℕ) (rule : Turn → Turn) → RuleKept n rule → RulePlaces n rule
only_left n rule r t f k = (r t f k).left

these_place : (n : ℕ) (rule : Turn → Turn) → RulePlaces n rule → (al : List Association) (t : ClientTurn) → ((b : Association) → Has b al → Fit b) → ((b : Association) → Has b al → Knows n b.server b.store.extents) →
    ((b : Association) → Has b t.state.associations → Knows n b.server b.store.extents) → AllPlaced n t (at_these rule al t)
unfolding at_these
these_place n rule one [] t f k d = record { knows = d; placed = since_none _ t.out }
these_place n rule one (a ∷ al) t f k d =
    let u = rule (enter t a) in
    let x = one (enter t a) (f a (inl refl)) (k a (inl refl)) in
    let r = these_place n rule one al (leave t u) (λ b i. f b (inr i)) (λ b i. k b (inr i)) (λ b i. known b x.knows (has_append t.state.associations (u.here ∷ []) b i)) in
    record { knows = r.knows; placed = since_then _ t.out u.out _ x.placed r.placed }
  where
    known : (b : Association) → Knows n (rule (enter t a)).here.server (rule (enter t a)).here.store.extents → Has b t.state.associations ⊎ Has b ((rule (enter t a)).here ∷ []) → Knows n b.server b.store.extents
    known b x (inl i) = d b i
    known b x (inr (inl e)) = subst (λ (z : Association). Knows n z.server z.store.extents) (sym e) x
    known b x (inr (inr i)) = absurd i

pub each_place : (n : ℕ) (rule : Turn → Turn) → RulePlaces n rule → (t : ClientTurn) → ((b : Association) → Has b t.state.associations → Fit b) → ((b : Association) → Has b t.state.associations → Knows n b.server b.store.extents) → AllPlaced n t (at_each rule t)
unfolding at_each
each_place n rule one t f k = let r = these_place n rule one t.state.associations (with_associations [] t) f k (λ b i. absurd i) in record { knows = r.knows; placed = r.placed }

-- the operations that a rule at each server leaves
pub these_from : (n : ℕ) (rule : Turn → Turn) → RuleKept n rule → (al : List Association) (t : ClientTurn) → ((b : Association) → Has b al → Fit b) → ((b : Association) → Has b al → Knows n b.server b.store.extents) →
    From (map key t.state.operations) (at_these rule al t).state.operations
unfolding at_these
these_from n rule one [] t f k = λ x i. i
these_from n rule one (a ∷ al) t f k = λ x i. (one (enter t a) (f a (inl refl)) (k a (inl refl))).from x (these_from n rule one al (leave t (rule (enter t a))) (λ b j. f b (inr j)) (λ b j. k b (inr j)) x i)

pub each_from : (n : ℕ) (rule : Turn → Turn) → RuleKept n rule → (t : ClientTurn) → ((b : Association) → Has b t.state.associations → Fit b) → ((b : Association) → Has b t.state.associations → Knows n b.server b.store.extents) →
    From (map key t.state.operations) (at_each rule t).state.operations
unfolding at_each
each_from n rule one t f k = these_from n rule one t.state.associations (with_associations [] t) f k

-- What an input tells of places.
abbrev pub InputTells : ℕ → ClientInput → Type 0
InputTells n (inputs.Control m) = (s : ServerId) → m.header.from ≡ server_node s → OwnBody n s m.body
InputTells n input = Unit {0}

pub input_places : (n : ℕ) (now : Stamp) (input : ClientInput) (t u : ClientTurn) → Taken t now input u → InputTells n input →
    ((b : Association) → Has b t.state.associations → Fit b) → ((b : Association) → Has b t.state.associations → Knows n b.server b.store.extents) →
    AllPlaced n t u
input_places n now _ t _ (taking.Nothing i) told f k = record { knows = k; placed = since_none _ t.out }
input_places n now _ t _ (taking.Full op ask e) told f k = record { knows = k; placed = since_one (PlacedOne n) t.out _ tt }
input_places n now _ t _ (taking.Unknown op ask e g) told f k = record { knows = k; placed = since_one (PlacedOne n) t.out _ tt }
input_places n now _ t _ (taking.Takes op ask e g) told f k = each_place n (only_at (server_of ask) (cl.take_ask op ask)) (ask_places n (server_of ask) op ask) t f k
input_places n now _ t _ (taking.Receives m e) told f k = each_place n (cr.receive_at now m.header m.body) (only_left n (cr.receive_at now m.header m.body) (receive_places n now m.header m.body told)) t f k
input_places n now _ t _ (taking.Finishes number r) told f k = each_place n (cl.finish number r) (only_left n (cl.finish number r) (finish_places n now number r)) t f k

-- The whole step.
pub step_placed : (n : ℕ) (c : ClientId) (s : ClientState) (now : Stamp) (input : ClientInput) → InputTells n input → ((b : Association) → Has b s.associations → Fit b) → ((b : Association) → Has b s.associations → Knows n b.server b.store.extents) →
    Placed n (cl.client_step s now input).out
unfolding cl.client_step cl.work cl.losses
step_placed n c s now input told f k = whole (since_then _ [] t.out v.out a.placed (since_then _ t.out u.out v.out b.placed d.placed))
  where
    t : ClientTurn
    t = cl.losses (client_turn s []) now

    u : ClientTurn
    u = cl.take_input t now input

    v : ClientTurn
    v = cl.work u now input

    p : Phased c s now t u v
    p = phased c s now input f

    a : AllPlaced n (client_turn s []) t
    a = each_place n (cl.lose now) (only_left n (cl.lose now) (lose_places n now)) (client_turn s []) f k

    b : AllPlaced n t u
    b = input_places n now input t u (taken t now input) told p.fit a.knows

    d : AllPlaced n u v
    d = each_place n (cp.passes now (cl.is_tick input)) (only_left n (cp.passes now (cl.is_tick input)) (passes_place n now (cl.is_tick input))) u p.fit_too b.knows

    whole : Since (PlacedOne n) [] v.out → Placed n v.out
    whole z = subst (Placed n) (sym z.out) z.each

-- What is known and reported about places in a world of that many servers.
pub record PlacesAt (size : ℕ) (w : World) : Type 0 where
  pub count : length w.servers ≡ size
  pub told : (m : SentMessage) → Has m w.net.messages → (s : ServerId) → m.message.header.from ≡ server_node s → OwnBody size s m.message.body
  pub known : (c : ClientId) (site : WorldClient) → site_of w c ≡ Some site → (a : Association) → Has a site.node.state.associations → Knows size a.server a.store.extents

pub places_at : (w : World) → PlacesHold w → PlacesAt (length w.servers) w
places_at w h = record { count = refl; told = told; known = known }
  where
    on : (s : ServerId) (at : BlockAt) → is_on_disk_of w s at ≡ true → On (length w.servers) s at
    on s at e = eqb-true (pred at.disk.0 % length w.servers + 1) s.0 e

    told : (m : SentMessage) → Has m w.net.messages → (s : ServerId) → m.message.header.from ≡ server_node s → OwnBody (length w.servers) s m.message.body
    told m i s e = by m.message.body (subst (λ r. tells_own_rows w r m.message.body ≡ true) (server_at_node m.message.header.from s e) (each_passes (tells_own w) w.net.messages h.told m i))
      where
        by : (b : Body) → tells_own_rows w (nodes.Server s) b ≡ true → OwnBody (length w.servers) s b
        by (bodies.Extents ino rows) q = λ r j. on s r.at (each_passes (is_own_row w s) rows q r j)
        by b q = tt

    known : (c : ClientId) (site : WorldClient) → site_of w c ≡ Some site → (a : Association) → Has a site.node.state.associations → Knows (length w.servers) a.server a.store.extents
    known c site e a i x j m q =
        on a.server m.at
        (subst (λ o. is_own_mapping w a.server o ≡ true) q
        (each_passes (is_own_known w a.server) a.store.extents (each_passes (knows_own_at w) site.node.state.associations (each_passes (knows_own w) w.clients h.known site (numbered_has w.clients c.0 site e)) a i) x j))
