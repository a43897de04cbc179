-- The lines of an event tell the log after it.
use Rattle.st_lemmas.proofs.Words
use Words.{◌≡◌, ℕ, ◌+◌, ◌⊎◌, Bool, true, false, ◌&&◌, List, [], ◌∷◌, ◌++◌, Option, Some, None, Ok, Err, refl, sym, ap, ◌∙◌, subst, inl, inr, arith}
use Words.{if◌then◌else◌, Result, length, suc, set, slice_get, nat_le, eq-eqb, ClientId, FileId, PageNo, ServerId, NodeId, Message, Event, Note, Output}
use Words.{ClientInput, ServerInput, Cause, Fate, LogEntry, LogOwner, StepRefusal, Observation, Carried, IssuedCommand, LeaseLife, SentMessage}
use Words.nodes
use Words.events
use Words.notes
use Words.outputs
use Words.fates
use Words.seen
use Words.FlatLog as log
use Words.Disks as disks
use Words.Server as server
use Words.Server.{ServerNode}
use Words.Client as cl
use Words.ClientState.{ClientState}
use Words.World as world
use Words.World.{World, WorldClient, numbered, site_of, node_of, issued_of, clock_of}
use Words.Events as ev
use Words.Events.{WorldTurn, client_says, client_says_all, client_notes}
use Words.History.{Traced}
use Words.Lines as lines
use Words.Lines.{IsLogTold}
use Words.Safety.{Step, step, TheReportTellsTheLog}
use Words.Tables.{and_both, and_true}
use Rattle.st_lemmas.proofs.Steps.{step_happens}
use Rattle.st_laws_steps.specs.Lives.Lives.{ended_rows}
use Rattle.st_laws_pages.proofs.Lives.Turning.{Said, says_one, says_lives}
use Rattle.st_laws_pages.proofs.Lives.Lasting.{Flushed, flush_parts}

-- What is reported so far, with lives looked up in this world.
record Told (f : World) (old : List LogEntry) (os : List Observation) (now : List LogEntry) : Type 0 where
  pub entries : lines.log_told f old os ≡ now
  pub numbers : lines.all_tell_log f old os ≡ true

told_more : (f : World) (old : List LogEntry) (os : List Observation) (now : List LogEntry) (o : Observation) → lines.tells_log now o ≡ true → Told f old os now → Told f old (os ++ o ∷ []) (lines.log_behind f now o)
unfolding lines.log_told lines.all_tell_log
told_more f old [] now o t h = record { entries = ap (λ es. lines.log_behind f es o) h.entries; numbers = and_both (lines.tells_log old o) true (ap (λ es. lines.tells_log es o) h.entries ∙ t) refl }
told_more f old (x ∷ os) now o t h =
    go (told_more f (lines.log_behind f old x) os now o t (record { entries = h.entries; numbers = (and_true (lines.tells_log old x) _ h.numbers).1 }))
  where
    go : Told f (lines.log_behind f old x) (os ++ o ∷ []) (lines.log_behind f now o) → Told f old (x ∷ (os ++ o ∷ [])) (lines.log_behind f now o)
    go r = record { entries = r.entries; numbers = and_both (lines.tells_log old x) _ (and_true (lines.tells_log old x) _ h.numbers).0 r.numbers }

-- What a scene has told.
abbrev SceneTold : World → List LogEntry → WorldTurn → Type 0
SceneTold f old sc = Told f old sc.seen sc.world.log

next_is : (es : List LogEntry) → lines.is_next es (length es + 1) ≡ true
next_is es = eq-eqb (length es + 1) (length es + 1) refl

says_told : (f : World) (old : List LogEntry) (c : ClientId) (before : ClientState) (o : Output) (sc : WorldTurn) → ((s : ServerId) → ev.present_life f c s ≡ ev.present_life sc.world c s) → SceneTold f old sc → SceneTold f old (client_says sc c before o)
unfolding client_says ev.sends ev.submits ev.answers_with client_notes ev.accepts ev.patches ev.loses lines.log_behind
says_told f old c before (outputs.Send m) sc l h = told_more f old sc.seen sc.world.log _ refl h
says_told f old c before (outputs.Answer op a) sc l h = told_more f old sc.seen sc.world.log _ refl h
says_told f old c before (outputs.Submit n at what) sc l h = go (site_of sc.world c)
  where
    go : (o : Option WorldClient) → SceneTold f old (ev.submits sc c o n at what)
    go None = h
    go (Some site) = told_more f old sc.seen sc.world.log _ refl h
says_told f old c before (outputs.Note n) sc l h = note n
  where
    note : (n : Note) → SceneTold f old (client_notes sc c before n)
    note (notes.Accepted g p bytes) =
        subst (λ x. Told f old (sc.seen ++ seen.Wrote (length sc.world.log + 1) c g p bytes ∷ []) (log.accept sc.world.log c x g p bytes)) (l g.server)
        (told_more f old sc.seen sc.world.log (seen.Wrote (length sc.world.log + 1) c g p bytes) (next_is sc.world.log) h)
    note (notes.Patched g p at bytes) =
        subst (λ x. Told f old (sc.seen ++ seen.Patched (length sc.world.log + 1) c g p at bytes ∷ []) (log.patch sc.world.log c x g p at bytes)) (l g.server)
        (told_more f old sc.seen sc.world.log (seen.Patched (length sc.world.log + 1) c g p at bytes) (next_is sc.world.log) h)
    note (notes.Lost s life) = told_more f old sc.seen sc.world.log _ refl h
    note (notes.Leased s e) = told_more f old sc.seen sc.world.log _ refl h
    note n = h

says_all_told : (f : World) (old : List LogEntry) (c : ClientId) (before : ClientState) (os : List Output) (sc : WorldTurn) → ((s : ServerId) → ev.present_life f c s ≡ ev.present_life sc.world c s) → SceneTold f old sc → SceneTold f old (client_says_all c before os sc)
unfolding client_says_all
says_all_told f old c before [] sc l h = h
says_all_told f old c before (o ∷ os) sc l h =
    says_all_told f old c before os (client_says sc c before o) (λ s. l s ∙ ap (λ z. ev.life_of_site s (numbered z c.0)) (sym (says_one c before o sc).clients)) (says_told f old c before o sc l h)

takes_told : (w : World) (c : ClientId) (input : ClientInput) (site : WorldClient) → SceneTold (ev.client_takes w c input site).world w.log (ev.client_takes w c input site)
unfolding ev.client_takes ev.client_took lines.log_told lines.all_tell_log
takes_told w c input site = go (cl.node_step site.node (clock_of w (nodes.Client c)) input)
  where
    go : (r : Result cl.NodeTurn StepRefusal) → SceneTold (ev.client_took w c site r).world w.log (ev.client_took w c site r)
    go (Err e) = record { entries = refl; numbers = refl }
    go (Ok t) =
        let v : World = ev.with_site c (ev.at_node t.node site) w in
        let sc : WorldTurn = client_says_all c site.node.state t.out (ev.quiet v) in
        let u : World = ev.flushes c t.node.state (world.all_servers sc.world) sc.world in
        let fl : Flushed sc.world u = flush_parts c t.node.state (world.all_servers sc.world) sc.world in
        let said : Said c (ended_rows c site.node.state t.out) v sc.world = says_lives c site.node.state t.out (ev.quiet v) in
        subst (Told u w.log sc.seen) (sym fl.log)
        (says_all_told u w.log c site.node.state t.out (ev.quiet v) (λ s. ap (λ z. ev.life_of_site s (numbered z c.0)) (fl.clients ∙ said.clients)) (record { entries = refl; numbers = refl }))

at_client_told : (w : World) (c : ClientId) (input : ClientInput) (o : Option WorldClient) → SceneTold (ev.at_client w c input o).world w.log (ev.at_client w c input o)
unfolding ev.at_client lines.log_told lines.all_tell_log
at_client_told w c input None = record { entries = refl; numbers = refl }
at_client_told w c input (Some site) = takes_told w c input site

-- A server's step.
server_one_told : (f : World) (old : List LogEntry) (s : ServerId) (o : Output) (sc : WorldTurn) → SceneTold f old sc → SceneTold f old (ev.server_says sc s o)
unfolding ev.server_says ev.server_notes ev.cuts ev.sends lines.log_behind
server_one_told f old s (outputs.Send m) sc h = told_more f old sc.seen sc.world.log _ refl h
server_one_told f old s (outputs.Note n) sc h = note n
  where
    note : (n : Note) → SceneTold f old (ev.server_notes sc s n)
    note (notes.Suspected c t) = told_more f old sc.seen sc.world.log _ refl h
    note (notes.Stolen c life) = told_more f old sc.seen sc.world.log _ refl h
    note (notes.CutDone g p) = told_more f old sc.seen sc.world.log (seen.CutAt (length sc.world.log + 1) g p) (next_is sc.world.log) h
    note n = h
server_one_told f old s o sc h = h

server_told : (f : World) (old : List LogEntry) (s : ServerId) (os : List Output) (sc : WorldTurn) → SceneTold f old sc → SceneTold f old (ev.server_says_all s os sc)
unfolding ev.server_says_all
server_told f old s [] sc h = h
server_told f old s (o ∷ os) sc h = server_told f old s os (ev.server_says sc s o) (server_one_told f old s o sc h)

at_server_told : (w : World) (s : ServerId) (input : ServerInput) (o : Option ServerNode) → SceneTold (ev.at_server w s input o).world w.log (ev.at_server w s input o)
unfolding ev.at_server ev.server_takes ev.server_took lines.log_told lines.all_tell_log
at_server_told w s input None = record { entries = refl; numbers = refl }
at_server_told w s input (Some node) = go (server.node_step node (clock_of w (nodes.Server s)) input)
  where
    go : (r : Result server.NodeTurn StepRefusal) → SceneTold (ev.server_took w s r).world w.log (ev.server_took w s r)
    go (Err e) = record { entries = refl; numbers = refl }
    go (Ok t) = server_told _ w.log s t.out (ev.quiet (ev.with_node s t.node w)) (record { entries = refl; numbers = refl })

-- Fates: an entry is as it was, or its pending fate has changed.
record Fated (e f : LogEntry) : Type 0 where
  pub is : f ≡ record e { fate = f.fate }
  pub open_or_same : (e.fate ≡ fates.Pending) ⊎ (f.fate ≡ e.fate)

abbrev AllFated : List LogEntry → List LogEntry → Type 0
AllFated [] [] = Unit {0}
AllFated [] (f ∷ fs) = ⊥
AllFated (e ∷ es) [] = ⊥
AllFated (e ∷ es) (f ∷ fs) = record { one : Fated e f; rest : AllFated es fs }

same_fated : (es : List LogEntry) → AllFated es es
same_fated [] = tt
same_fated (e ∷ es) = record { one = record { is = refl; open_or_same = inr refl }; rest = same_fated es }

fated_then : (es fs gs : List LogEntry) → AllFated es fs → AllFated fs gs → AllFated es gs
fated_then [] [] [] p q = tt
fated_then [] [] (g ∷ gs) p q = absurd q
fated_then [] (f ∷ fs) gs p q = absurd p
fated_then (e ∷ es) [] gs p q = absurd p
fated_then (e ∷ es) (f ∷ fs) [] p q = absurd q
fated_then (e ∷ es) (f ∷ fs) (g ∷ gs) p q = record { one = record { is = q.one.is ∙ ap (λ (x : LogEntry). record x { fate = g.fate }) p.one.is; open_or_same = go p.one.open_or_same q.one.open_or_same }; rest = fated_then es fs gs p.rest q.rest }
  where
    go : (e.fate ≡ fates.Pending) ⊎ (f.fate ≡ e.fate) → (f.fate ≡ fates.Pending) ⊎ (g.fate ≡ f.fate) → (e.fate ≡ fates.Pending) ⊎ (g.fate ≡ e.fate)
    go (inl a) b = inl a
    go (inr a) (inl b) = inl (sym a ∙ b)
    go (inr a) (inr b) = inr (b ∙ a)

fated_harden : (n i : ℕ) (o : LogOwner) (es : List LogEntry) → AllFated es (log.harden_from n i o es)
unfolding log.harden_from log.hardened log.harder_entry
fated_harden n i o [] = tt
fated_harden n i o (e ∷ es) = record { one = go (nat_le n i && log.same_owner e.of o); rest = fated_harden (n + 1) i o es }
  where
    fate : (x : Fate) → (x ≡ fates.Pending) ⊎ (log.harder x ≡ x)
    fate fates.Pending = inl refl
    fate fates.Hard = inr refl
    fate (fates.Gone d) = inr refl

    go : (b : Bool) → Fated e (if b then record e { fate = log.harder e.fate } else e)
    go true = record { is = refl; open_or_same = fate e.fate }
    go false = record { is = refl; open_or_same = inr refl }

fated_drop : (n : ℕ) (picked : ℕ → LogOwner → Bool) (cause : FileId → PageNo → Cause) (es : List LogEntry) → AllFated es (log.drop_from n picked cause es)
unfolding log.drop_from log.dropped log.lost_entry
fated_drop n picked cause [] = tt
fated_drop n picked cause (e ∷ es) = record { one = go (picked n e.of); rest = fated_drop (n + 1) picked cause es }
  where
    fate : (c : Cause) (x : Fate) → (x ≡ fates.Pending) ⊎ (log.lost c x ≡ x)
    fate c fates.Pending = inl refl
    fate c fates.Hard = inr refl
    fate c (fates.Gone d) = inr refl

    go : (b : Bool) → Fated e (if b then record e { fate = log.lost (cause e.of.file e.of.page) e.fate } else e)
    go true = record { is = refl; open_or_same = fate (cause e.of.file e.of.page) e.fate }
    go false = record { is = refl; open_or_same = inr refl }

fated_ended : (cs : List IssuedCommand) (ls : List LeaseLife) (es : List LogEntry) → AllFated es (ev.log_ended_all cs ls es)
unfolding ev.log_ended_all ev.log_ended log.drop_picked
fated_ended cs [] es = same_fated es
fated_ended cs (l ∷ ls) es = fated_then es (ev.log_ended cs l es) _ (fated_drop 1 (ev.is_of_life_over l) (ev.cause_at_end cs l) es) (fated_ended cs ls (ev.log_ended cs l es))

fated_hard : (es : List LogEntry) (x : Option Carried) → AllFated es (ev.log_hard es x)
unfolding log.harden log.harden_at
fated_hard es None = same_fated es
fated_hard es (Some x) = go (log.entry_at es x.index)
  where
    go : (o : Option LogEntry) → AllFated es (log.harden_at es x.index o)
    go None = same_fated es
    go (Some e) = fated_harden 1 x.index e.of es

-- the entry after a list, and that entry replaced
at_behind : (pre : List LogEntry) (e : LogEntry) (es : List LogEntry) → slice_get (pre ++ e ∷ es) (length pre) ≡ Some e
at_behind [] e es = refl
at_behind (x ∷ pre) e es = at_behind pre e es

set_behind : (pre : List LogEntry) (e f : LogEntry) (es : List LogEntry) → set (pre ++ e ∷ es) (length pre) f ≡ pre ++ f ∷ es
set_behind [] e f es = refl
set_behind (x ∷ pre) e f es = ap (λ z. x ∷ z) (set_behind pre e f es)

one_behind : (pre : List LogEntry) (f : LogEntry) (es : List LogEntry) → pre ++ f ∷ es ≡ (pre ++ f ∷ []) ++ es
one_behind [] f es = refl
one_behind (x ∷ pre) f es = ap (λ z. x ∷ z) (one_behind pre f es)

length_behind : (pre : List LogEntry) (f : LogEntry) → length (pre ++ f ∷ []) ≡ suc (length pre)
length_behind [] f = refl
length_behind (x ∷ pre) f = ap suc (length_behind pre f)

fated_is : (pre : List LogEntry) (e : LogEntry) (es : List LogEntry) (x : Fate) → lines.fated (pre ++ e ∷ es) (suc (length pre)) x ≡ pre ++ record e { fate = x } ∷ es
fated_is pre e es x = ap (λ o. lines.with_fate (suc (length pre)) x o (pre ++ e ∷ es)) (at_behind pre e es) ∙ set_behind pre e (record e { fate = x }) es

pending_is : (pre : List LogEntry) (e : LogEntry) (es : List LogEntry) → e.fate ≡ fates.Pending → lines.is_pending_at (pre ++ e ∷ es) (suc (length pre)) ≡ true
pending_is pre e es q = ap lines.is_pending_entry (at_behind pre e es) ∙ ap log.is_pending q

-- the lines of fates that change, after entries that have had their lines
fates_told : (f : World) (pre es fs : List LogEntry) → AllFated es fs → Told f (pre ++ es) (ev.fates_from (suc (length pre)) es fs) (pre ++ fs)
unfolding ev.fates_from lines.log_told lines.all_tell_log lines.log_behind
fates_told f pre [] [] p = record { entries = refl; numbers = refl }
fates_told f pre [] (y ∷ fs) p = absurd p
fates_told f pre (e ∷ es) [] p = absurd p
fates_told f pre (e ∷ es) (y ∷ fs) p = go e.fate refl y.fate refl p.one.open_or_same (fates_told f (pre ++ y ∷ []) es fs p.rest)
  where
    later : List Observation
    later = ev.fates_from (suc (length pre) + 1) es fs

    place : suc (length (pre ++ y ∷ [])) ≡ suc (length pre) + 1
    place = ap suc (length_behind pre y) ∙ (let z : suc (suc (length pre)) ≡ suc (length pre) + 1 = omega arith in z)

    behind : Told f ((pre ++ y ∷ []) ++ es) (ev.fates_from (suc (length (pre ++ y ∷ []))) es fs) ((pre ++ y ∷ []) ++ fs) → Told f (pre ++ y ∷ es) later (pre ++ y ∷ fs)
    behind r =
        subst (λ z. Told f (pre ++ y ∷ es) later z) (sym (one_behind pre y fs))
        (subst (λ z. Told f z later ((pre ++ y ∷ []) ++ fs)) (sym (one_behind pre y es)) (subst (λ n. Told f ((pre ++ y ∷ []) ++ es) (ev.fates_from n es fs) ((pre ++ y ∷ []) ++ fs)) place r))

    changed : e.fate ≡ fates.Pending → (x : Fate) → y.fate ≡ x → (o : Observation) → lines.log_behind f (pre ++ e ∷ es) o ≡ lines.fated (pre ++ e ∷ es) (suc (length pre)) x → lines.tells_log (pre ++ e ∷ es) o ≡ lines.is_pending_at (pre ++ e ∷ es) (suc (length pre)) →
        Told f (pre ++ y ∷ es) later (pre ++ y ∷ fs) → Told f (pre ++ e ∷ es) (o ∷ later) (pre ++ y ∷ fs)
    changed q x w o b t r =
        let z : lines.log_behind f (pre ++ e ∷ es) o ≡ pre ++ y ∷ es = b ∙ fated_is pre e es x ∙ ap (λ v. pre ++ record e { fate = v } ∷ es) (sym w) ∙ ap (λ v. pre ++ v ∷ es) (sym p.one.is) in
        record { entries = ap (λ v. lines.log_told f v later) z ∙ r.entries; numbers = and_both (lines.tells_log (pre ++ e ∷ es) o) _ (t ∙ pending_is pre e es q) (ap (λ v. lines.all_tell_log f v later) z ∙ r.numbers) }

    same : y ≡ e → Told f (pre ++ y ∷ es) later (pre ++ y ∷ fs) → Told f (pre ++ e ∷ es) later (pre ++ y ∷ fs)
    same q r = subst (λ v. Told f (pre ++ v ∷ es) later (pre ++ y ∷ fs)) q r

    unchanged : y.fate ≡ e.fate → y ≡ e
    unchanged q = p.one.is ∙ ap (λ v. record e { fate = v }) q

    go : (a : Fate) → e.fate ≡ a → (b : Fate) → y.fate ≡ b → (e.fate ≡ fates.Pending) ⊎ (y.fate ≡ e.fate) → Told f ((pre ++ y ∷ []) ++ es) (ev.fates_from (suc (length (pre ++ y ∷ []))) es fs) ((pre ++ y ∷ []) ++ fs) →
        Told f (pre ++ e ∷ es) (ev.fate_seen (suc (length pre)) a b ++ later) (pre ++ y ∷ fs)
    go fates.Pending q fates.Pending w s r = same (unchanged (w ∙ sym q)) (behind r)
    go fates.Pending q fates.Hard w s r = changed q fates.Hard w (seen.Hardened (suc (length pre))) refl refl (behind r)
    go fates.Pending q (fates.Gone c) w s r = changed q (fates.Gone c) w (seen.Dropped (suc (length pre)) c) refl refl (behind r)
    go fates.Hard q b w (inl s) r = absurd (no (sym q ∙ s))
      where
        no : fates.Hard ≡ fates.Pending → ⊥
        no z = cc
    go fates.Hard q b w (inr s) r = same (unchanged s) (behind r)
    go (fates.Gone c) q b w (inl s) r = absurd (no (sym q ∙ s))
      where
        no : fates.Gone c ≡ fates.Pending → ⊥
        no z = cc
    go (fates.Gone c) q b w (inr s) r = same (unchanged s) (behind r)

marks_told : (w : World) (new : List LogEntry) (f : World) → AllFated w.log new → Told f w.log (ev.fates_from 1 w.log new) new
marks_told w new f p = fates_told f [] w.log new p

-- Every event.
happens_told : (w : World) (e : Event) → SceneTold (ev.happens w e).world w.log (ev.happens w e)
unfolding ev.happens ev.ticks ev.asks_at ev.delivers ev.delivers_to ev.loses_message ev.marks ev.effects ev.reports_of ev.tells ev.tells_client ev.tells_site ev.advances ev.crashes ev.crashes_client ev.crashes_server ev.starts ev.starts_client ev.starts_server ev.log_crashed log.drop_picked lines.log_told lines.all_tell_log
happens_told w (events.Tick (nodes.Client c)) = at_client_told w c _ (site_of w c)
happens_told w (events.Tick (nodes.Server s)) = at_server_told w s _ (node_of w s)
happens_told w (events.App c ask) = go (site_of w c)
  where
    go : (o : Option WorldClient) → SceneTold (ev.asks_at w c ask o).world w.log (ev.asks_at w c ask o)
    go None = record { entries = refl; numbers = refl }
    go (Some site) = takes_told w c _ (ev.asked_once_more site)
happens_told w (events.Deliver k) = go (world.message_of w k)
  where
    to : (m : Message) (n : NodeId) → SceneTold (ev.delivers_to w m n).world w.log (ev.delivers_to w m n)
    to m (nodes.Client c) = at_client_told w c _ (site_of w c)
    to m (nodes.Server s) = at_server_told w s _ (node_of w s)

    go : (m : Option SentMessage) → SceneTold (ev.delivers w m).world w.log (ev.delivers w m)
    go None = record { entries = refl; numbers = refl }
    go (Some m) = to m.message (world.receiver_of m)
happens_told w (events.Lose k) = go (world.message_of w k)
  where
    go : (m : Option SentMessage) → Told (ev.loses_message w k m) w.log [] (ev.loses_message w k m).log
    go None = record { entries = refl; numbers = refl }
    go (Some m) = record { entries = refl; numbers = refl }
happens_told w (events.Cut from to) = record { entries = refl; numbers = refl }
happens_told w (events.Heal from to) = record { entries = refl; numbers = refl }
happens_told w (events.Advance steps) = marks_told w _ _ (fated_ended w.commands (ev.lives_reached w steps) w.log)
happens_told w (events.Effect k) = marks_told w _ _ (fated_hard w.log (ev.carried_by (issued_of w k)))
happens_told w (events.Report k ok) = go (issued_of w k)
  where
    v : World
    v = ev.with_disks (ev.disks_after w.disks (disks.done w.disks k ok)) w

    same : (x : IssuedCommand) (site : WorldClient) (b : Bool) → SceneTold (if b then ev.client_takes v x.client (ev.end_told v k ok x) site else ev.quiet v).world w.log (if b then ev.client_takes v x.client (ev.end_told v k ok x) site else ev.quiet v)
    same x site true = takes_told v x.client (ev.end_told v k ok x) site
    same x site false = record { entries = refl; numbers = refl }

    told : (x : IssuedCommand) (o : Option WorldClient) → SceneTold (ev.tells_client v k ok x o).world w.log (ev.tells_client v k ok x o)
    told x None = record { entries = refl; numbers = refl }
    told x (Some site) = same x site (ev.is_same_instance x site)

    go : (o : Option IssuedCommand) → SceneTold (ev.tells v k ok o).world w.log (ev.tells v k ok o)
    go None = record { entries = refl; numbers = refl }
    go (Some x) = told x (site_of v x.client)
happens_told w (events.Crash (nodes.Client c)) = go (site_of w c)
  where
    go : (o : Option WorldClient) → SceneTold (ev.crashes_client w c o).world w.log (ev.crashes_client w c o)
    go None = record { entries = refl; numbers = refl }
    go (Some site) = marks_told w _ _ (fated_drop 1 (ev.is_of_crashed w c) (log.always Rattle.st_rules.specs.declared.log.Cause.TheVariants.Crash) w.log)
happens_told w (events.Crash (nodes.Server s)) = go (node_of w s)
  where
    go : (o : Option ServerNode) → Told (ev.crashes_server w s o) w.log [] (ev.crashes_server w s o).log
    go None = record { entries = refl; numbers = refl }
    go (Some node) = record { entries = refl; numbers = refl }
happens_told w (events.Start (nodes.Client c)) = go (site_of w c)
  where
    go : (o : Option WorldClient) → Told (ev.starts_client w c o) w.log [] (ev.starts_client w c o).log
    go None = record { entries = refl; numbers = refl }
    go (Some site) = record { entries = refl; numbers = refl }
happens_told w (events.Start (nodes.Server s)) = go (node_of w s)
  where
    go : (o : Option ServerNode) → Told (ev.starts_server w s o) w.log [] (ev.starts_server w s o).log
    go None = record { entries = refl; numbers = refl }
    go (Some node) = record { entries = refl; numbers = refl }

-- The promise, at a step.
pub step_told : (past : List Step) (t : Traced) (e : Event) (sc : WorldTurn) → ev.world_step t.world e ≡ Ok sc → TheReportTellsTheLog past (step t e sc)
step_told past t e sc is =
    let s = (step_happens t.world e sc is).1 in
    let h : Told (ev.happens (ev.counted t.world) e).world t.world.log (ev.happens (ev.counted t.world) e).seen (ev.happens (ev.counted t.world) e).world.log = happens_told (ev.counted t.world) e in
    subst (λ (z : WorldTurn). IsLogTold z.world t.world.log z.seen) (sym s) (record { entries = h.entries; numbers = h.numbers })
