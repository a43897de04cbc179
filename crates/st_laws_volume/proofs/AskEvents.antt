-- What is seen of an event tells what becomes of the asks of each client.
use Rattle.std.proofs.Common.{◌≡◌, ℕ, ◌+◌, ◌≤◌, ◌⊎◌, arith, Bool, true, false, not, ◌==◌, List, [], ◌∷◌, ◌++◌, map, Option, Some, None, Ok, Err, refl, sym, ap, ◌∙◌, subst, inl, inr, if◌then◌else◌}
use Rattle.std.specs.Prelude.{filter, length}
use Rattle.std.specs.List.{flat_map}
use Rattle.std.proofs.lemmas.Bool.{both_ways, eq-eqb, eqb-true}
use Rattle.std.proofs.lemmas.List.{append-nil}
use Rattle.st_base.specs.declared.ids.ClientId.{ClientId}
use Rattle.st_base.specs.declared.ids.ServerId.{ServerId}
use Rattle.st_base.specs.declared.ids.NodeId.{NodeId}
use Rattle.st_base.specs.declared.ids.NodeId.TheVariants as nodes
use Rattle.st_base.specs.declared.disk.BlockAt.{BlockAt}
use Rattle.st_base.specs.declared.disk.Command.{Command}
use Rattle.st_messages.specs.declared.answer.AppAnswer.{AppAnswer}
use Rattle.st_messages.specs.declared.ask.Ask.{Ask}
use Rattle.st_messages.specs.declared.event.Event.{Event}
use Rattle.st_messages.specs.declared.event.Event.TheVariants as events
use Rattle.st_messages.specs.declared.output.Note.{Note}
use Rattle.st_messages.specs.declared.output.Note.TheVariants as notes
use Rattle.st_messages.specs.declared.output.Output.{Output}
use Rattle.st_messages.specs.declared.output.Output.TheVariants as outputs
use Rattle.st_rules.specs.declared.client.ClientInput.{ClientInput}
use Rattle.st_rules.specs.declared.client.ClientInput.TheVariants as inputs
use Rattle.st_rules.specs.declared.input.ServerInput.{ServerInput}
use Rattle.st_rules.specs.declared.input.ServerInput.TheVariants as serving
use Rattle.st_rules.specs.declared.log.Fate.{Fate}
use Rattle.st_rules.specs.declared.log.Fate.TheVariants as fates
use Rattle.st_rules.specs.declared.log.LogEntry.{LogEntry}
use Rattle.st_rules.specs.declared.node.StepRefusal.TheVariants.{Crashed}
use Rattle.st_rules.specs.declared.observation.Observation.{Observation}
use Rattle.st_rules.specs.declared.observation.Observation.TheVariants as seen
use Rattle.st_rules.specs.declared.observation.WorldRefusal.{WorldRefusal}
use Rattle.st_rules.specs.declared.world.Carried.{Carried}
use Rattle.st_rules.specs.declared.world.IssuedCommand.{IssuedCommand}
use Rattle.st_rules.specs.declared.world.SentMessage.{SentMessage}
use Rattle.st_rules.specs.Admissible as adm
use Rattle.st_rules.specs.Client as cl
use Rattle.st_rules.specs.ClientState.{Association, ClientState, ClientTurn}
use Rattle.st_rules.specs.Disks as disks
use Rattle.st_rules.specs.Events as ev
use Rattle.st_rules.specs.Events.{WorldTurn, world_step}
use Rattle.st_rules.specs.Server as server
use Rattle.st_rules.specs.Server.{ServerNode}
use Rattle.st_rules.specs.World as world
use Rattle.st_rules.specs.World.{World, WorldClient, clock_of, node_of, numbered, site_of, site_runs, with_numbered}
use Rattle.st_lemmas.specs.Lists.{Has}
use Rattle.st_lemmas.proofs.Lookups.{if_false, if_true, some_is}
use Rattle.st_lemmas.proofs.Numbers.{numbered_below, numbered_has, numbered_other, numbered_own}
use Rattle.st_lemmas.proofs.Steps.{step_happens}
use Rattle.st_lemmas.proofs.Tables.{has_append, has_filter, not_false}
use Rattle.st_lemmas.proofs.Truth.{clash, or_first, or_second}
use Rattle.st_lemmas.proofs.Worlds.{stands_not}
use Rattle.st_laws_steps.specs.Lives.Lives.{NodeHolds}
use Rattle.st_laws_pages.proofs.Asks.Asks.{Apart}
use Rattle.st_laws_pages.proofs.Asks.Client.{key}
use Rattle.st_laws_pages.proofs.Asks.Places.{Knows}
use Rattle.st_laws_pages.proofs.Asks.Says.{client_leaves, server_leaves}
use Rattle.st_laws_pages.proofs.Causes.Placed.{InputTells, PlacesAt}
use Rattle.st_laws_pages.proofs.Lives.Lasting.{flush_parts}
use Rattle.st_laws_volume.specs.Asks.{AsksOf, at_site}
use Rattle.st_laws_volume.specs.Seen.{failure, failure_of, failure_told, of_event, of_line}
use Rattle.st_laws_volume.proofs.AskClient.{AnswersOne, AnswersOpen, StepCloses, closed_all, coming, step_closes}
use Rattle.st_laws_volume.proofs.AskSteps.{asked_once, asks_as, is_open_op, without_ask, told_all, told_both, told_by}
use Rattle.st_volume.specs.declared.step.VolumeStep.{VolumeStep}
use Rattle.st_volume.specs.declared.step.VolumeStep.TheVariants as steps

-- What lines tell of the asks of a client.
abbrev pub lined : World → ClientId → List Observation → AsksOf → AsksOf
lined w c os a = told_all c (flat_map (of_line w) os) a

lined_last : (w : World) (c : ClientId) (os : List Observation) (o : Observation) (a : AsksOf) →
    lined w c (os ++ o ∷ []) a ≡ told_all c (of_line w o) (lined w c os a)
lined_last w c [] o a = told_both c (of_line w o) [] a
lined_last w c (x ∷ os) o a =
    told_both c (of_line w x) (flat_map (of_line w) (os ++ o ∷ [])) a
    ∙ (lined_last w c os o (told_all c (of_line w x) a)
    ∙ ap (told_all c (of_line w o)) (sym (told_both c (of_line w x) (flat_map (of_line w) os) a)))

-- Outputs of a client: of its own asks, and of those of others.
abbrev pub closes : List Output → AsksOf → AsksOf
closes os a = record { count = a.count; pending = closed_all os a.pending }

abbrev pub Line : Observation → Type 0
Line (seen.Answered c op answer) = ⊥
Line o = Unit {0}

-- a line that isn't an answer tells nothing of asks
line_tells : (w : World) (c : ClientId) (o : Observation) (a : AsksOf) → Line o → told_all c (of_line w o) a ≡ a
unfolding of_line
line_tells w c (seen.Sent k m) a l = refl
line_tells w c (seen.Submitted k d number what) a l = refl
line_tells w c (seen.Answered d op answer) a l = absurd l
line_tells w c (seen.Wrote i d f p bytes) a l = refl
line_tells w c (seen.Patched i d f p at bytes) a l = refl
line_tells w c (seen.CutAt i f p) a l = refl
line_tells w c (seen.Hardened i) a l = refl
line_tells w c (seen.Dropped i cause) a l = refl
line_tells w c (seen.Leased d s end) a l = refl
line_tells w c (seen.Lost d s life) a l = refl
line_tells w c (seen.Suspected s d start) a l = refl
line_tells w c (seen.Stolen s d life) a l = refl

one_line : (w : World) (c : ClientId) (os : List Observation) (o : Observation) (a : AsksOf) → Line o → lined w c (os ++ o ∷ []) a ≡ lined w c os a
one_line w c os o a l = lined_last w c os o a ∙ line_tells w c o (lined w c os a) l

-- an answer of a client closes its own ask
answer_own : (w : World) (c : ClientId) (op : ℕ) (answer : AppAnswer) (a : AsksOf) →
    told_all c (of_line w (seen.Answered c op answer)) a ≡ closes (outputs.Answer op answer ∷ []) a
unfolding of_line
answer_own w c op answer a = if_true (c.0 == c.0) (closes (outputs.Answer op answer ∷ []) a) a (eq-eqb c.0 c.0 refl)

answer_other : (w : World) (c d : ClientId) (op : ℕ) (answer : AppAnswer) (a : AsksOf) → (c.0 == d.0) ≡ false →
    told_all d (of_line w (seen.Answered c op answer)) a ≡ a
unfolding of_line
answer_other w c d op answer a q = if_false (c.0 == d.0) (closes (outputs.Answer op answer ∷ []) a) a q

note_tells : (w : World) (c d : ClientId) (before : ClientState) (n : Note) (sc : WorldTurn) (a : AsksOf) →
    lined w d (ev.client_notes sc c before n).seen a ≡ lined w d sc.seen a
unfolding ev.client_notes ev.accepts ev.patches ev.loses
note_tells w c d before (notes.Leased s end) sc a = one_line w d sc.seen _ a tt
note_tells w c d before (notes.Lost s life) sc a = one_line w d sc.seen _ a tt
note_tells w c d before (notes.Accepted f p bytes) sc a = one_line w d sc.seen _ a tt
note_tells w c d before (notes.Patched f p at bytes) sc a = one_line w d sc.seen _ a tt
note_tells w c d before n sc a = refl

submit_tells : (w : World) (c d : ClientId) (o : Option WorldClient) (number : ℕ) (at : BlockAt) (what : Command) (sc : WorldTurn) (a : AsksOf) →
    lined w d (ev.submits sc c o number at what).seen a ≡ lined w d sc.seen a
unfolding ev.submits
submit_tells w c d None number at what sc a = refl
submit_tells w c d (Some site) number at what sc a = one_line w d sc.seen _ a tt

pub own_one : (w : World) (c : ClientId) (before : ClientState) (o : Output) (sc : WorldTurn) (a : AsksOf) →
    lined w c (ev.client_says sc c before o).seen a ≡ closes (o ∷ []) (lined w c sc.seen a)
unfolding ev.client_says ev.sends ev.answers_with
own_one w c before (outputs.Send m) sc a = one_line w c sc.seen _ a tt
own_one w c before (outputs.Submit number at what) sc a = submit_tells w c c (site_of sc.world c) number at what sc a
own_one w c before (outputs.Answer op answer) sc a = lined_last w c sc.seen _ a ∙ answer_own w c op answer (lined w c sc.seen a)
own_one w c before (outputs.Note n) sc a = note_tells w c c before n sc a

own_all : (w : World) (c : ClientId) (before : ClientState) (os : List Output) (sc : WorldTurn) (a : AsksOf) →
    lined w c (ev.client_says_all c before os sc).seen a ≡ closes os (lined w c sc.seen a)
unfolding ev.client_says_all
own_all w c before [] sc a = refl
own_all w c before (o ∷ os) sc a = own_all w c before os (ev.client_says sc c before o) a ∙ ap (closes os) (own_one w c before o sc a)

other_one : (w : World) (c d : ClientId) (before : ClientState) (o : Output) (sc : WorldTurn) (a : AsksOf) → (c.0 == d.0) ≡ false →
    lined w d (ev.client_says sc c before o).seen a ≡ lined w d sc.seen a
unfolding ev.client_says ev.sends ev.answers_with
other_one w c d before (outputs.Send m) sc a q = one_line w d sc.seen _ a tt
other_one w c d before (outputs.Submit number at what) sc a q = submit_tells w c d (site_of sc.world c) number at what sc a
other_one w c d before (outputs.Answer op answer) sc a q = lined_last w d sc.seen _ a ∙ answer_other w c d op answer (lined w d sc.seen a) q
other_one w c d before (outputs.Note n) sc a q = note_tells w c d before n sc a

other_all : (w : World) (c d : ClientId) (before : ClientState) (os : List Output) (sc : WorldTurn) (a : AsksOf) → (c.0 == d.0) ≡ false →
    lined w d (ev.client_says_all c before os sc).seen a ≡ lined w d sc.seen a
unfolding ev.client_says_all
other_all w c d before [] sc a q = refl
other_all w c d before (o ∷ os) sc a q = other_all w c d before os (ev.client_says sc c before o) a q ∙ other_one w c d before o sc a q

-- Outputs of a server, and fates.
server_one : (w : World) (s : ServerId) (d : ClientId) (o : Output) (sc : WorldTurn) (a : AsksOf) →
    lined w d (ev.server_says sc s o).seen a ≡ lined w d sc.seen a
unfolding ev.server_says ev.sends ev.server_notes ev.cuts
server_one w s d (outputs.Send m) sc a = one_line w d sc.seen _ a tt
server_one w s d (outputs.Note n) sc a = note n
  where
    note : (n : Note) → lined w d (ev.server_notes sc s n).seen a ≡ lined w d sc.seen a
    note (notes.Suspected c t) = one_line w d sc.seen _ a tt
    note (notes.Stolen c life) = one_line w d sc.seen _ a tt
    note (notes.CutDone f p) = one_line w d sc.seen _ a tt
    note n = refl
server_one w s d o sc a = refl

server_all : (w : World) (s : ServerId) (d : ClientId) (os : List Output) (sc : WorldTurn) (a : AsksOf) →
    lined w d (ev.server_says_all s os sc).seen a ≡ lined w d sc.seen a
unfolding ev.server_says_all
server_all w s d [] sc a = refl
server_all w s d (o ∷ os) sc a = server_all w s d os (ev.server_says sc s o) a ∙ server_one w s d o sc a

fates_tell : (w : World) (d : ClientId) (n : ℕ) (es fs : List LogEntry) (a : AsksOf) → lined w d (ev.fates_from n es fs) a ≡ a
unfolding ev.fates_from of_line
fates_tell w d n [] fs a = refl
fates_tell w d n (e ∷ es) [] a = refl
fates_tell w d n (e ∷ es) (f ∷ fs) a = go e.fate f.fate (fates_tell w d (n + 1) es fs)
  where
    go : (x y : Fate) → ((a : AsksOf) → lined w d (ev.fates_from (n + 1) es fs) a ≡ a) → lined w d (ev.fate_seen n x y ++ ev.fates_from (n + 1) es fs) a ≡ a
    go fates.Pending fates.Hard h = h a
    go fates.Pending (fates.Gone cause) h = h a
    go fates.Pending fates.Pending h = h a
    go fates.Hard y h = h a
    go (fates.Gone cause) y h = h a

-- Each answer to a client is one to an open ask of it.
abbrev pub OpenFor : ClientId → Observation → AsksOf → Type 0
OpenFor c (seen.Answered d op answer) a = (d.0 == c.0) ≡ true → is_open_op op a.pending ≡ true
OpenFor c o a = Unit {0}

abbrev pub AllOpenFor : World → ClientId → List Observation → AsksOf → Type 0
AllOpenFor w c [] a = Unit {0}
AllOpenFor w c (o ∷ os) a = OpenFor c o a × AllOpenFor w c os (told_all c (of_line w o) a)

open_last : (w : World) (c : ClientId) (os : List Observation) (o : Observation) (a : AsksOf) → AllOpenFor w c os a → OpenFor c o (lined w c os a) →
    AllOpenFor w c (os ++ o ∷ []) a
open_last w c [] o a h k = (k, tt)
open_last w c (x ∷ os) o a h k =
    (h.0, open_last w c os o (told_all c (of_line w x) a) h.1 (subst (λ z. OpenFor c o z) (told_both c (of_line w x) (flat_map (of_line w) os) a) k))

line_open : (c : ClientId) (o : Observation) (a : AsksOf) → Line o → OpenFor c o a
line_open c (seen.Answered d op answer) a l = absurd l
line_open c o a l = tt

one_open : (w : World) (c : ClientId) (os : List Observation) (o : Observation) (a : AsksOf) → Line o → AllOpenFor w c os a → AllOpenFor w c (os ++ o ∷ []) a
one_open w c os o a l h = open_last w c os o a h (line_open c o (lined w c os a) l)

note_open : (w : World) (c d : ClientId) (before : ClientState) (n : Note) (sc : WorldTurn) (a : AsksOf) → AllOpenFor w d sc.seen a →
    AllOpenFor w d (ev.client_notes sc c before n).seen a
unfolding ev.client_notes ev.accepts ev.patches ev.loses
note_open w c d before (notes.Leased s end) sc a h = one_open w d sc.seen _ a tt h
note_open w c d before (notes.Lost s life) sc a h = one_open w d sc.seen _ a tt h
note_open w c d before (notes.Accepted f p bytes) sc a h = one_open w d sc.seen _ a tt h
note_open w c d before (notes.Patched f p at bytes) sc a h = one_open w d sc.seen _ a tt h
note_open w c d before n sc a h = h

submit_open : (w : World) (c d : ClientId) (o : Option WorldClient) (number : ℕ) (at : BlockAt) (what : Command) (sc : WorldTurn) (a : AsksOf) →
    AllOpenFor w d sc.seen a → AllOpenFor w d (ev.submits sc c o number at what).seen a
unfolding ev.submits
submit_open w c d None number at what sc a h = h
submit_open w c d (Some site) number at what sc a h = one_open w d sc.seen _ a tt h

own_open_one : (w : World) (c : ClientId) (before : ClientState) (o : Output) (sc : WorldTurn) (a : AsksOf) → AnswersOne o (lined w c sc.seen a).pending →
    AllOpenFor w c sc.seen a → AllOpenFor w c (ev.client_says sc c before o).seen a
unfolding ev.client_says ev.sends ev.answers_with
own_open_one w c before (outputs.Send m) sc a k h = one_open w c sc.seen _ a tt h
own_open_one w c before (outputs.Submit number at what) sc a k h = submit_open w c c (site_of sc.world c) number at what sc a h
own_open_one w c before (outputs.Answer op answer) sc a k h = open_last w c sc.seen _ a h (λ q. k)
own_open_one w c before (outputs.Note n) sc a k h = note_open w c c before n sc a h

own_open : (w : World) (c : ClientId) (before : ClientState) (os : List Output) (sc : WorldTurn) (a : AsksOf) →
    AnswersOpen os (lined w c sc.seen a).pending → AllOpenFor w c sc.seen a → AllOpenFor w c (ev.client_says_all c before os sc).seen a
unfolding ev.client_says_all
own_open w c before [] sc a k h = h
own_open w c before (o ∷ os) sc a k h =
    own_open w c before os (ev.client_says sc c before o) a
    (subst (AnswersOpen os) (sym (ap (λ (z : AsksOf). z.pending) (own_one w c before o sc a))) k.1)
    (own_open_one w c before o sc a k.0 h)

other_open_one : (w : World) (c d : ClientId) (before : ClientState) (o : Output) (sc : WorldTurn) (a : AsksOf) → (c.0 == d.0) ≡ false →
    AllOpenFor w d sc.seen a → AllOpenFor w d (ev.client_says sc c before o).seen a
unfolding ev.client_says ev.sends ev.answers_with
other_open_one w c d before (outputs.Send m) sc a q h = one_open w d sc.seen _ a tt h
other_open_one w c d before (outputs.Submit number at what) sc a q h = submit_open w c d (site_of sc.world c) number at what sc a h
other_open_one w c d before (outputs.Answer op answer) sc a q h = open_last w d sc.seen _ a h (λ e. clash e q)
other_open_one w c d before (outputs.Note n) sc a q h = note_open w c d before n sc a h

other_open : (w : World) (c d : ClientId) (before : ClientState) (os : List Output) (sc : WorldTurn) (a : AsksOf) → (c.0 == d.0) ≡ false →
    AllOpenFor w d sc.seen a → AllOpenFor w d (ev.client_says_all c before os sc).seen a
unfolding ev.client_says_all
other_open w c d before [] sc a q h = h
other_open w c d before (o ∷ os) sc a q h = other_open w c d before os (ev.client_says sc c before o) a q (other_open_one w c d before o sc a q h)

server_open_one : (w : World) (s : ServerId) (d : ClientId) (o : Output) (sc : WorldTurn) (a : AsksOf) → AllOpenFor w d sc.seen a →
    AllOpenFor w d (ev.server_says sc s o).seen a
unfolding ev.server_says ev.sends ev.server_notes ev.cuts
server_open_one w s d (outputs.Send m) sc a h = one_open w d sc.seen _ a tt h
server_open_one w s d (outputs.Note n) sc a h = note n
  where
    note : (n : Note) → AllOpenFor w d (ev.server_notes sc s n).seen a
    note (notes.Suspected c t) = one_open w d sc.seen _ a tt h
    note (notes.Stolen c life) = one_open w d sc.seen _ a tt h
    note (notes.CutDone f p) = one_open w d sc.seen _ a tt h
    note n = h
server_open_one w s d o sc a h = h

server_open : (w : World) (s : ServerId) (d : ClientId) (os : List Output) (sc : WorldTurn) (a : AsksOf) → AllOpenFor w d sc.seen a →
    AllOpenFor w d (ev.server_says_all s os sc).seen a
unfolding ev.server_says_all
server_open w s d [] sc a h = h
server_open w s d (o ∷ os) sc a h = server_open w s d os (ev.server_says sc s o) a (server_open_one w s d o sc a h)

fates_open : (w : World) (d : ClientId) (n : ℕ) (es fs : List LogEntry) (a : AsksOf) → AllOpenFor w d (ev.fates_from n es fs) a
unfolding ev.fates_from of_line
fates_open w d n [] fs a = tt
fates_open w d n (e ∷ es) [] a = tt
fates_open w d n (e ∷ es) (f ∷ fs) a = go e.fate f.fate (fates_open w d (n + 1) es fs a)
  where
    go : (x y : Fate) → AllOpenFor w d (ev.fates_from (n + 1) es fs) a → AllOpenFor w d (ev.fate_seen n x y ++ ev.fates_from (n + 1) es fs) a
    go fates.Pending fates.Hard h = (tt, h)
    go fates.Pending (fates.Gone cause) h = (tt, h)
    go fates.Pending fates.Pending h = h
    go fates.Hard y h = h
    go (fates.Gone cause) y h = h

-- The numbers of a client's open asks are apart, and none is above their count.
pub record IsCounted (a : AsksOf) : Type 0 where
  pub below : (k : ℕ × Ask) → Has k a.pending → k.0 ≤ a.count
  pub apart : Apart a.pending

apart_last : (ks : List (ℕ × Ask)) (k : ℕ × Ask) → ((j : ℕ × Ask) → Has j ks → j.0 ≡ k.0 → ⊥) → Apart ks → Apart (ks ++ k ∷ [])
apart_last [] k h a = record { first = λ j i. absurd i; rest = tt }
apart_last (x ∷ ks) k h a = record { first = λ j i q. go j (has_append ks (k ∷ []) j i) q; rest = apart_last ks k (λ j i. h j (inr i)) a.rest }
  where
    go : (j : ℕ × Ask) → Has j ks ⊎ Has j (k ∷ []) → x.0 ≡ j.0 → ⊥
    go j (inl i) q = a.first j i q
    go j (inr (inl i)) q = h x (inl refl) (q ∙ ap (λ (z : ℕ × Ask). z.0) i)
    go j (inr (inr i)) q = absurd i

asked_once_counted : (ask : Ask) (a : AsksOf) → IsCounted a → IsCounted (asked_once ask a)
asked_once_counted ask a h =
    record {
      below = λ k i. below k (has_append a.pending _ k i);
      apart = apart_last a.pending (a.count + 1, ask) (λ j i q. let l = h.below j i in omega (arith, l, q)) h.apart;
    }
  where
    below : (k : ℕ × Ask) → Has k a.pending ⊎ Has k ((a.count + 1, ask) ∷ []) → k.0 ≤ a.count + 1
    below k (inl i) = let l = h.below k i in omega (arith, l)
    below k (inr (inl i)) = let q = ap (λ (z : ℕ × Ask). z.0) i in omega (arith, q)
    below k (inr (inr i)) = absurd i

apart_kept : (test : ℕ × Ask → Bool) (ks : List (ℕ × Ask)) → Apart ks → Apart (filter test ks)
apart_kept test [] a = tt
apart_kept test (k ∷ ks) a = go (test k) (apart_kept test ks a.rest)
  where
    go : (b : Bool) → Apart (filter test ks) → Apart (if b then k ∷ filter test ks else filter test ks)
    go true r = record { first = λ j i. a.first j (has_filter test ks j i).0; rest = r }
    go false r = r

if_counted : (b : Bool) (x y : AsksOf) → IsCounted x → IsCounted y → IsCounted (if b then x else y)
if_counted true x y p q = p
if_counted false x y p q = q

without_counted : (op : ℕ) (a : AsksOf) → IsCounted a → IsCounted (record a { pending = without_ask op a.pending })
without_counted op a h =
    record {
      below = λ k i. h.below k (has_filter (λ (j : ℕ × Ask). not (j.0 == op)) a.pending k i).0;
      apart = apart_kept (λ (j : ℕ × Ask). not (j.0 == op)) a.pending h.apart;
    }

none_counted : (a : AsksOf) → IsCounted (record a { pending = [] })
none_counted a = record { below = λ k i. absurd i; apart = tt }

told_counted : (c : ClientId) (it : VolumeStep) (a : AsksOf) → IsCounted a → IsCounted (told_by c it a)
told_counted c (steps.Asked d ask) a h = if_counted (d.0 == c.0) (asked_once ask a) a (asked_once_counted ask a h) h
told_counted c (steps.Answered d op answer) a h = if_counted (d.0 == c.0) (record a { pending = without_ask op a.pending }) a (without_counted op a h) h
told_counted c (steps.Crashed d) a h = if_counted (d.0 == c.0) (record a { pending = [] }) a (none_counted a) h
told_counted c (steps.TakesEffect d op) a h = h
told_counted c (steps.Joined i d what) a h = h
told_counted c (steps.Hardened i) a h = h
told_counted c (steps.Dropped i cause) a h = h
told_counted c (steps.Restarted s) a h = h
told_counted c (steps.WriteFailed d number i) a h = h
told_counted c (steps.ReadFailed d s number) a h = h

pub all_counted : (c : ClientId) (its : List VolumeStep) (a : AsksOf) → IsCounted a → IsCounted (told_all c its a)
all_counted c [] a h = h
all_counted c (it ∷ its) a h = all_counted c its (told_by c it a) (told_counted c it a h)

-- What is seen of the event itself.
abbrev pub Dull : World → Event → Type 0
Dull w e = (c : ClientId) (a : AsksOf) → told_all c (of_event w e) a ≡ a

failure_dull : (k : IssuedCommand) (carries : Option Carried) (c : ClientId) (a : AsksOf) → told_all c (failure k carries ∷ []) a ≡ a
failure_dull k None c a = refl
failure_dull k (Some x) c a = refl

told_dull : (k : IssuedCommand) (site : Option WorldClient) (c : ClientId) (a : AsksOf) → told_all c (failure_told k site) a ≡ a
told_dull k None c a = refl
told_dull k (Some site) c a = go (ev.is_same_instance k site)
  where
    go : (b : Bool) → told_all c (if b then failure k k.carries ∷ [] else []) a ≡ a
    go true = failure_dull k k.carries c a
    go false = refl

failed_dull : (w : World) (k : Option IssuedCommand) (c : ClientId) (a : AsksOf) → told_all c (failure_of w k) a ≡ a
failed_dull w None c a = refl
failed_dull w (Some k) c a = told_dull k (site_of w k.client) c a

pub report_dull : (w : World) (k : ℕ) (ok : Bool) → Dull w (events.Report k ok)
unfolding of_event
report_dull w k true c a = refl
report_dull w k false c a = failed_dull w (world.issued_of w k) c a

runs_if : (b : Bool) (r : WorldRefusal) → adm.stands (not b) r ≡ None → b ≡ true
runs_if b r q = not_false b (stands_not (not b) r q)

-- A client that does not run has no pending operation.
abbrev pub Rests : World → Type 0
Rests w = (c : ClientId) (site : WorldClient) → site_of w c ≡ Some site → site.node.running ≡ false → site.node.state.operations ≡ []

-- what an event leaves
pub record AsksLeft (w : World) (e : Event) (sc : WorldTurn) : Type 0 where
  pub told : (c : ClientId) → lined w c sc.seen (told_all c (of_event w e) (at_site (site_of w c))) ≡ at_site (site_of sc.world c)
  pub rests : Rests sc.world
  pub opened : (c : ClientId) → AllOpenFor w c sc.seen (told_all c (of_event w e) (at_site (site_of w c)))

module _ (t : World) (e : Event) (rests : Rests t) where
  abbrev R : WorldTurn → Type 0
  R sc = AsksLeft t e sc

  -- nothing happens to clients
  quiet : (sc : WorldTurn) → Dull t e → sc.world.clients ≡ t.clients → ((c : ClientId) (a : AsksOf) → lined t c sc.seen a ≡ a) →
      ((c : ClientId) (a : AsksOf) → AllOpenFor t c sc.seen a) → R sc
  quiet sc d cs l o =
      record {
        told = λ c. l c _ ∙ (d c (at_site (site_of t c)) ∙ ap (λ xs. at_site (numbered xs c.0)) (sym cs));
        rests = λ c site at r. rests c site (ap (λ xs. numbered xs c.0) (sym cs) ∙ at) r;
        opened = λ c. o c (told_all c (of_event t e) (at_site (site_of t c)));
      }

  -- a client is replaced
  site_own : (c : ClientId) (old new : WorldClient) (cs : List WorldClient) → site_of t c ≡ Some old → cs ≡ with_numbered c.0 new t.clients →
      numbered cs c.0 ≡ Some new
  site_own c old new cs at q = ap (λ xs. numbered xs c.0) q ∙ numbered_own t.clients c.0 new old at

  site_other : (c d : ClientId) (old new : WorldClient) (cs : List WorldClient) → site_of t c ≡ Some old → cs ≡ with_numbered c.0 new t.clients →
      (c.0 == d.0) ≡ false → numbered cs d.0 ≡ site_of t d
  site_other c d old new cs at q n =
      ap (λ xs. numbered xs d.0) q
      ∙ numbered_other t.clients c.0 d.0 new (numbered_below t.clients c.0 old at).0 (λ i. both_ways (c.0 == d.0) n (eq-eqb c.0 d.0 (sym i)))

  client_is : (c d : ClientId) → (c.0 == d.0) ≡ true → c ≡ d
  client_is c d q = ap (λ n. record { 0 = n }) (eqb-true c.0 d.0 q)

  -- one client is changed
  changed : (c : ClientId) (old new : WorldClient) (sc : WorldTurn) → site_of t c ≡ Some old → sc.world.clients ≡ with_numbered c.0 new t.clients →
      (lined t c sc.seen (told_all c (of_event t e) (at_site (Some old))) ≡ at_site (Some new)) →
      ((d : ClientId) → (c.0 == d.0) ≡ false → (a : AsksOf) → lined t d sc.seen (told_all d (of_event t e) a) ≡ a) →
      AllOpenFor t c sc.seen (told_all c (of_event t e) (at_site (Some old))) →
      ((d : ClientId) → (c.0 == d.0) ≡ false → (a : AsksOf) → AllOpenFor t d sc.seen a) →
      (new.node.running ≡ false → new.node.state.operations ≡ []) → R sc
  changed c old new sc at cs own other mine others stops =
      record {
        told = λ d. told d (c.0 == d.0) refl;
        rests = λ d site i r. rested d site i r (c.0 == d.0) refl;
        opened = λ d. opened d (c.0 == d.0) refl;
      }
    where
      opened : (d : ClientId) (b : Bool) → (c.0 == d.0) ≡ b → AllOpenFor t d sc.seen (told_all d (of_event t e) (at_site (site_of t d)))
      opened d true q =
          subst (λ (z : ClientId). AllOpenFor t z sc.seen (told_all z (of_event t e) (at_site (site_of t z)))) (client_is c d q)
          (subst (λ o. AllOpenFor t c sc.seen (told_all c (of_event t e) (at_site o))) (sym at) mine)
      opened d false q = others d q (told_all d (of_event t e) (at_site (site_of t d)))

      told : (d : ClientId) (b : Bool) → (c.0 == d.0) ≡ b → lined t d sc.seen (told_all d (of_event t e) (at_site (site_of t d))) ≡ at_site (site_of sc.world d)
      told d true q =
          subst (λ (z : ClientId). lined t z sc.seen (told_all z (of_event t e) (at_site (site_of t z))) ≡ at_site (site_of sc.world z)) (client_is c d q)
          (ap (λ o. lined t c sc.seen (told_all c (of_event t e) (at_site o))) at ∙ (own ∙ ap at_site (sym (site_own c old new sc.world.clients at cs))))
      told d false q = other d q (at_site (site_of t d)) ∙ ap at_site (sym (site_other c d old new sc.world.clients at cs q))

      new_is : (d : ClientId) (site : WorldClient) → site_of sc.world d ≡ Some site → (c.0 == d.0) ≡ true → new ≡ site
      new_is d site i q =
          some_is
          (sym (site_own c old new sc.world.clients at cs)
          ∙ subst (λ (z : ClientId). site_of sc.world z ≡ Some site) (sym (client_is c d q)) i)

      rested : (d : ClientId) (site : WorldClient) → site_of sc.world d ≡ Some site → site.node.running ≡ false → (b : Bool) → (c.0 == d.0) ≡ b →
          site.node.state.operations ≡ []
      rested d site i r false q = rests d site (sym (site_other c d old new sc.world.clients at cs q) ∙ i) r
      rested d site i r true q =
          subst (λ (z : WorldClient). z.node.state.operations ≡ []) (new_is d site i q)
          (stops (ap (λ (z : WorldClient). z.node.running) (new_is d site i q) ∙ r))

  -- a client takes a step
  takes : (n : ℕ) (v : World) (c : ClientId) (i : ClientInput) (old site : WorldClient) → v.clients ≡ t.clients → site_of t c ≡ Some old →
      site.node ≡ old.node → site.node.state.id ≡ c →
      NodeHolds t.config t.clocks t.ended c site.node → ((a : Association) → Has a site.node.state.associations → Knows n a.server a.store.extents) →
      InputTells n i →
      told_all c (of_event t e) (at_site (Some old)) ≡ asks_as site.asks (map key site.node.state.operations ++ coming i) →
      Apart (map key site.node.state.operations ++ coming i) →
      ((d : ClientId) → (c.0 == d.0) ≡ false → (a : AsksOf) → told_all d (of_event t e) a ≡ a) → site.node.running ≡ true → R (ev.client_takes v c i site)
  unfolding ev.client_takes ev.client_took cl.node_step
  takes n v c i old site cs at same id holds knows tells own apart other runs =
      subst (λ b. R (ev.client_took v c site (if b then Ok (cl.node_turn site.node u) else Err Crashed))) (sym runs)
      (changed c old new _ at clients
      (ap (lined t c said.seen) own ∙ (own_all t c site.node.state u.out (ev.quiet v0) _ ∙ ap (asks_as site.asks) closes.closed))
      (λ d q a. ap (lined t d said.seen) (other d q a) ∙ other_all t c d site.node.state u.out (ev.quiet v0) a q)
      (subst (AllOpenFor t c said.seen) (sym own)
      (own_open t c site.node.state u.out (ev.quiet v0) (asks_as site.asks (map key site.node.state.operations ++ coming i)) closes.opened tt))
      (λ d q a. other_open t c d site.node.state u.out (ev.quiet v0) a q tt)
      (λ r. clash (sym runs ∙ r)))
    where
      clash : {A : Type 0} → ◌≡◌ {A = Bool} true false → A
      clash q = cc

      u : ClientTurn
      u = cl.client_step site.node.state (clock_of v (nodes.Client c)) i

      new : WorldClient
      new = ev.at_node (record site.node { state = u.state }) site

      v0 : World
      v0 = ev.with_site c new v

      said : WorldTurn
      said = ev.client_says_all c site.node.state u.out (ev.quiet v0)

      closes : StepCloses site.node.state (clock_of v (nodes.Client c)) i
      closes = step_closes n c site.node.state (clock_of v (nodes.Client c)) i id holds.once knows tells apart

      clients : (ev.flushes c u.state (world.all_servers said.world) said.world).clients ≡ with_numbered c.0 new t.clients
      clients =
          (flush_parts c u.state (world.all_servers said.world) said.world).clients
          ∙ ((client_leaves c site.node.state u.out (ev.quiet v0)).clients ∙ ap (with_numbered c.0 new) cs)

  -- What holds of clients and messages before the event.
  module _
      (holds : (c : ClientId) (site : WorldClient) → site_of t c ≡ Some site → NodeHolds t.config t.clocks t.ended c site.node)
      (places : PlacesAt (length t.servers) t)
      (counted : (c : ClientId) → IsCounted (at_site (site_of t c))) where
    w : World
    w = ev.counted t

    fine : (c : ClientId) (site : WorldClient) → site_of t c ≡ Some site → IsCounted (at_site (Some site))
    fine c site at = subst (λ o. IsCounted (at_site o)) at (counted c)

    nothing : (sc : WorldTurn) → Dull t e → sc.world.clients ≡ t.clients → sc.seen ≡ [] → R sc
    nothing sc d cs os = quiet sc d cs (λ c a. ap (λ xs. lined t c xs a) os) (λ c a. subst (λ xs. AllOpenFor t c xs a) (sym os) tt)

    -- a client takes an input that isn't an ask
    plain : (v : World) → v.clients ≡ t.clients → (c : ClientId) (i : ClientInput) → coming i ≡ [] → InputTells (length t.servers) i → Dull t e →
        (site : WorldClient) → site_of t c ≡ Some site → R (ev.client_takes v c i site)
    unfolding ev.client_takes ev.client_took cl.node_step
    plain v cs c i silent tells d site at = go site.node.running refl
      where
        h : NodeHolds t.config t.clocks t.ended c site.node
        h = holds c site at

        none_comes : map key site.node.state.operations ++ coming i ≡ map key site.node.state.operations
        none_comes = ap (λ ks. map key site.node.state.operations ++ ks) silent ∙ append-nil (map key site.node.state.operations)

        stopped : site.node.running ≡ false → ev.client_takes v c i site ≡ ev.quiet v
        stopped r =
            ap
            (λ b. ev.client_took v c site
            (if b then Ok (cl.node_turn site.node (cl.client_step site.node.state (clock_of v (nodes.Client c)) i)) else Err Crashed))
            r

        go : (b : Bool) → site.node.running ≡ b → R (ev.client_takes v c i site)
        go true r =
            takes (length t.servers) v c i site site cs at refl h.id h (places.known c site at) tells
            (d c (at_site (Some site)) ∙ ap (asks_as site.asks) (sym none_comes))
            (subst Apart (sym none_comes) (fine c site at).apart)
            (λ k q a. d k a) r
        go false r = subst R (sym (stopped r)) (nothing (ev.quiet v) d cs refl)

    by_client : (v : World) → v.clients ≡ t.clients → (c : ClientId) (i : ClientInput) → coming i ≡ [] → InputTells (length t.servers) i → Dull t e →
        (o : Option WorldClient) → site_of t c ≡ o → R (ev.at_client v c i o)
    unfolding ev.at_client
    by_client v cs c i silent tells d None at = nothing (ev.quiet v) d cs refl
    by_client v cs c i silent tells d (Some site) at = plain v cs c i silent tells d site at

    by_server : (s : ServerId) (i : ServerInput) → Dull t e → (o : Option ServerNode) → R (ev.at_server w s i o)
    unfolding ev.at_server ev.server_takes ev.server_took server.node_step w
    by_server s i d None = nothing (ev.quiet w) d refl refl
    by_server s i d (Some node) = go node.running
      where
        u : server.ServerTurn
        u = server.server_step node.state (clock_of w (nodes.Server s)) i

        v : World
        v = ev.with_node s (record node { state = u.state }) w

        go : (b : Bool) → R (ev.server_took w s (if b then Ok (server.node_turn node u) else Err Crashed))
        go true = quiet (ev.server_says_all s u.out (ev.quiet v)) d (server_leaves s u.out (ev.quiet v)).clients (λ c a. server_all t s c u.out (ev.quiet v) a)
            (λ c a. server_open t s c u.out (ev.quiet v) a tt)
        go false = nothing (ev.quiet w) d refl refl

    delivered : Dull t e → (o : Option SentMessage) → ((m : SentMessage) → o ≡ Some m → Has m t.net.messages) → R (ev.delivers w o)
    unfolding ev.delivers ev.delivers_to w
    delivered d None h = nothing (ev.quiet w) d refl refl
    delivered d (Some m) h = to (world.receiver_of m)
      where
        to : (r : NodeId) → R (ev.delivers_to w m.message r)
        to (nodes.Client c) = by_client w refl c (inputs.Control m.message) refl (places.told m (h m refl)) d (site_of t c) refl
        to (nodes.Server s) = by_server s (serving.Control m.message) d (node_of t s)

    reported : (k : ℕ) (ok : Bool) → Dull t e → R (ev.reports_of w k ok)
    unfolding ev.reports_of ev.tells ev.tells_client ev.tells_site w
    reported k ok d = go (world.issued_of t k)
      where
        v : World
        v = ev.with_disks (ev.disks_after w.disks (disks.done w.disks k ok)) w

        same : (x : IssuedCommand) (site : WorldClient) → site_of t x.client ≡ Some site → (b : Bool) →
            R (if b then ev.client_takes v x.client (ev.end_told v k ok x) site else ev.quiet v)
        same x site q true = plain v refl x.client (ev.end_told v k ok x) refl tt d site q
        same x site q false = nothing (ev.quiet v) d refl refl

        at : (x : IssuedCommand) (o : Option WorldClient) → site_of t x.client ≡ o → R (ev.tells_client v k ok x o)
        at x None q = nothing (ev.quiet v) d refl refl
        at x (Some site) q = same x site q (ev.is_same_instance x site)

        go : (o : Option IssuedCommand) → R (ev.tells v k ok o)
        go None = nothing (ev.quiet v) d refl refl
        go (Some x) = at x (site_of t x.client) refl

    -- an ask of a client that runs
    asked : (c : ClientId) (ask : Ask) → of_event t e ≡ steps.Asked c ask ∷ [] → site_runs (site_of t c) ≡ true → R (ev.asks_at w c ask (site_of t c))
    unfolding ev.asks_at w
    asked c ask is runs = go (site_of t c) refl runs
      where
        go : (o : Option WorldClient) → site_of t c ≡ o → site_runs o ≡ true → R (ev.asks_at w c ask o)
        go None at r = cc r
        go (Some site) at r =
            let h : NodeHolds t.config t.clocks t.ended c site.node = holds c site at in
            let f : IsCounted (at_site (Some site)) = fine c site at in
            takes (length t.servers) w c (inputs.App (site.asks + 1) ask) site (ev.asked_once_more site) refl at refl h.id h (places.known c site at) tt
            (ap (λ its. told_all c its (at_site (Some site))) is
            ∙ if_true (c.0 == c.0) (asked_once ask (at_site (Some site))) (at_site (Some site)) (eq-eqb c.0 c.0 refl))
            (asked_once_counted ask (at_site (Some site)) f).apart
            (λ d q a. ap (λ its. told_all d its a) is ∙ if_false (c.0 == d.0) (asked_once ask a) a q) r

    crashes : (c : ClientId) → of_event t e ≡ steps.Crashed c ∷ [] → site_runs (site_of t c) ≡ true → R (ev.crashes_client w c (site_of t c))
    unfolding ev.crashes_client ev.marks cl.crash w
    crashes c is runs = go (site_of t c) refl runs
      where
        go : (o : Option WorldClient) → site_of t c ≡ o → site_runs o ≡ true → R (ev.crashes_client w c o)
        go None at r = cc r
        go (Some site) at r =
            changed c site (ev.stopped_site site) _ at refl
            (fates_tell t c 1 t.log (ev.log_crashed w c) _
            ∙ (ap (λ its. told_all c its (at_site (Some site))) is ∙ if_true (c.0 == c.0) (asks_as site.asks []) (at_site (Some site)) (eq-eqb c.0 c.0 refl)))
            (λ d q a. fates_tell t d 1 t.log (ev.log_crashed w c) _ ∙ (ap (λ its. told_all d its a) is ∙ if_false (c.0 == d.0) (asks_as a.count []) a q))
            (fates_open t c 1 t.log (ev.log_crashed w c) (told_all c (of_event t e) (at_site (Some site))))
            (λ d q a. fates_open t d 1 t.log (ev.log_crashed w c) a)
            (λ z. refl)

    starts : (c : ClientId) → Dull t e → site_runs (site_of t c) ≡ false → R (ev.quiet (ev.starts_client w c (site_of t c)))
    unfolding ev.starts_client cl.start w
    starts c d runs = go (site_of t c) refl runs
      where
        go : (o : Option WorldClient) → site_of t c ≡ o → site_runs o ≡ false → R (ev.quiet (ev.starts_client w c o))
        go None at r = nothing (ev.quiet w) d refl refl
        go (Some site) at r =
            changed c site (ev.started_site site) (ev.quiet (ev.with_site c (ev.started_site site) w)) at refl
            (d c (at_site (Some site)) ∙ ap (λ os. asks_as site.asks (map key os)) (rests c site at r))
            (λ k q a. d k a)
            tt
            (λ k q a. tt)
            (λ z. refl)

    crashes_server : (s : ServerId) → Dull t e → (o : Option ServerNode) → R (ev.quiet (ev.crashes_server w s o))
    unfolding ev.crashes_server w
    crashes_server s d None = nothing (ev.quiet w) d refl refl
    crashes_server s d (Some node) = nothing _ d refl refl

    starts_server : (s : ServerId) → Dull t e → (o : Option ServerNode) → R (ev.quiet (ev.starts_server w s o))
    unfolding ev.starts_server w
    starts_server s d None = nothing (ev.quiet w) d refl refl
    starts_server s d (Some node) = nothing _ d refl refl

    loses : (k : ℕ) → Dull t e → (o : Option SentMessage) → R (ev.quiet (ev.loses_message w k o))
    unfolding ev.loses_message w
    loses k d None = nothing (ev.quiet w) d refl refl
    loses k d (Some m) = nothing _ d refl refl

    dull : {f : Event} → e ≡ f → Dull t f → Dull t e
    dull i d = subst (Dull t) (sym i) d

    happens : adm.refusal t e ≡ None → R (ev.happens w e)
    unfolding ev.happens ev.ticks ev.crashes ev.starts ev.advances ev.effects ev.marks adm.refusal of_event w
    happens q = by e refl q
      where
        by : (f : Event) → e ≡ f → adm.refusal t f ≡ None → R (ev.happens w f)
        by (events.Tick (nodes.Client c)) i q = by_client w refl c inputs.Tick refl tt (dull i (λ d a. refl)) (site_of t c) refl
        by (events.Tick (nodes.Server s)) i q = by_server s serving.Tick (dull i (λ d a. refl)) (node_of t s)
        by (events.App c ask) i q =
            asked c ask (ap (of_event t) i)
            (runs_if (site_runs (site_of t c)) _
            (or_first (adm.not_running t (nodes.Client c)) (adm.net_full t)
            (or_second (adm.no_node t (nodes.Client c)) (adm.cannot_step t (nodes.Client c)) q)))
        by (events.Deliver k) i q = delivered (dull i (λ d a. refl)) (world.message_of t k) (λ m j. numbered_has t.net.messages k m j)
        by (events.Lose k) i q = loses k (dull i (λ d a. refl)) (world.message_of t k)
        by (events.Cut from to) i q = nothing _ (dull i (λ d a. refl)) refl refl
        by (events.Heal from to) i q = nothing _ (dull i (λ d a. refl)) refl refl
        by (events.Advance increments) i q = quiet _ (dull i (λ d a. refl)) refl (λ c a. fates_tell t c 1 t.log _ a) (λ c a. fates_open t c 1 t.log _ a)
        by (events.Effect k) i q = quiet _ (dull i (λ d a. refl)) refl (λ c a. fates_tell t c 1 t.log _ a) (λ c a. fates_open t c 1 t.log _ a)
        by (events.Report k ok) i q = reported k ok (dull i (report_dull t k ok))
        by (events.Crash (nodes.Client c)) i q =
            crashes c (ap (of_event t) i)
            (runs_if (site_runs (site_of t c)) _ (or_second (adm.no_node t (nodes.Client c)) (adm.not_running t (nodes.Client c)) q))
        by (events.Crash (nodes.Server s)) i q = crashes_server s (dull i (λ d a. refl)) (node_of t s)
        by (events.Start (nodes.Client c)) i q =
            starts c (dull i (λ d a. refl))
            (stands_not (site_runs (site_of t c)) _ (or_second (adm.no_node t (nodes.Client c)) (adm.still_running t (nodes.Client c)) q))
        by (events.Start (nodes.Server s)) i q = starts_server s (dull i (λ d a. refl)) (node_of t s)

    pub event_leaves : (sc : WorldTurn) → world_step t e ≡ Ok sc → R sc
    unfolding w
    event_leaves sc h = let z = step_happens t e sc h in subst R (sym z.1) (happens z.0)
