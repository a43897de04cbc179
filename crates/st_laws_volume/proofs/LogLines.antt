-- The lines of an event make the same of the volume's log as of the world's.
use Rattle.std.proofs.Common.{◌≡◌, ℕ, zero, suc, ◌+◌, Bool, true, false, not, ◌&&◌, ◌==◌, List, [], ◌∷◌, ◌++◌, length, Option, Some, None, refl, sym, ap, ◌∙◌, subst, if◌then◌else◌, arith}
use Rattle.std.specs.Prelude.{set, option_map, option_and_then, slice_get}
use Rattle.std.specs.List.{list_all}
use Rattle.std.proofs.lemmas.Bool.{eqb-true, ne_eqb}
use Rattle.st_base.specs.declared.ids.ClientId.{ClientId}
use Rattle.st_base.specs.declared.ids.NodeId.TheVariants as nodes
use Rattle.st_messages.specs.declared.ask.Ask.{Ask}
use Rattle.st_messages.specs.declared.ask.Ask.TheVariants as asks
use Rattle.st_messages.specs.declared.message.Message.{Message}
use Rattle.st_base.specs.declared.ids.NodeId.{NodeId}
use Rattle.st_base.specs.declared.ids.ServerId.{ServerId}
use Rattle.st_messages.specs.declared.event.Event.{Event}
use Rattle.st_messages.specs.declared.event.Event.TheVariants as events
use Rattle.st_rules.specs.declared.log.Change.TheVariants as changes
use Rattle.st_rules.specs.declared.log.Fate as world_fate
use Rattle.st_rules.specs.declared.log.Fate.TheVariants as old_fates
use Rattle.st_rules.specs.declared.log.LogEntry.{LogEntry}
use Rattle.st_rules.specs.declared.observation.Observation.{Observation}
use Rattle.st_rules.specs.declared.observation.Observation.TheVariants as seen
use Rattle.st_rules.specs.declared.world.Carried.{Carried}
use Rattle.st_rules.specs.declared.world.IssuedCommand.{IssuedCommand}
use Rattle.st_rules.specs.declared.world.SentMessage.{SentMessage}
use Rattle.st_rules.specs.Events.{is_change, is_same_instance, present_life}
use Rattle.st_rules.specs.FlatLog as log
use Rattle.st_rules.specs.Lines as lines
use Rattle.st_rules.specs.Safety.{Step}
use Rattle.st_rules.specs.World.{World, WorldClient, issued_of, message_of, node_of, receiver_of, site_of}
use Rattle.st_lemmas.proofs.Lookups.{if_false, some_is}
use Rattle.st_lemmas.proofs.Numbers.{length_more, set_length}
use Rattle.st_lemmas.proofs.Tables.{and_true, not_false, not_true}
use Rattle.st_lemmas.proofs.Truth.{client_is}
use Rattle.st_laws_volume.specs.Logs.{AreSame, IsSame, ask_of, fate_of}
use Rattle.st_laws_volume.specs.Options.{OnSome}
use Rattle.st_laws_volume.specs.Seen.{cause_of, failure, failure_of, failure_told, of_event, of_line}
use Rattle.st_laws_volume.specs.Witness.{Behind, Witness, before_line, does_at, next_op, of_delivery, of_lines, of_message, steps_of, takes_op, to_node}
use Rattle.st_laws_volume.proofs.LogEntries.{AtBoth, change_is, first_all, first_next, new_fate, same_at, same_first, same_set}
use Rattle.st_laws_volume.proofs.LogSteps.{IsTold, is_quiet, quiet_run}
use Rattle.st_laws_volume.proofs.Options.{on_if, on_map, on_more, on_then, on_true}
use Rattle.st_laws_volume.proofs.Parts.{in_parts}
use Rattle.st_volume.specs.declared.step.VolumeStep.{VolumeStep}
use Rattle.st_volume.specs.declared.step.VolumeStep.TheVariants as steps
use Rattle.st_volume.specs.declared.step.Fate.{Fate}
use Rattle.st_volume.specs.declared.step.Fate.TheVariants as fates
use Rattle.st_volume.specs.Pages.{Entry, is_any, is_by, is_cause, is_open}
use Rattle.st_volume.specs.Volume.{Volume, ends, numbered, run, same_change, step, with_changed, with_fate}

-- By numbers.
pub numbered_suc : {A : Type 0} (xs : List A) (n : ℕ) → numbered xs (suc n) ≡ slice_get xs n
numbered_suc xs n = if_false (suc n == 0) None (slice_get xs n) (ne_eqb (suc n) 0 (λ q. omega (arith, q)))

pub suc_is : (n : ℕ) → n + 1 ≡ suc n
suc_is n = omega arith

pub numbered_next : {A : Type 0} (xs : List A) (n i : ℕ) → i ≡ n + 1 → numbered xs i ≡ slice_get xs n
numbered_next xs n i e = ap (numbered xs) (e ∙ suc_is n) ∙ numbered_suc xs n

-- Two lists of steps.
pub run_then : (P : Volume → Type 0) (xs ys : List VolumeStep) (v : Volume) → OnSome (λ u. OnSome P (run ys u)) (run xs v) → OnSome P (run (xs ++ ys) v)
run_then P xs ys v h = subst (OnSome P) (sym (in_parts xs ys v)) (on_then P (run ys) (run xs v) h)

pub one_step : (P : Volume → Type 0) (it : VolumeStep) (v : Volume) → OnSome P (step v it) → OnSome P (run (it ∷ []) v)
unfolding run
one_step P it v h = on_then P (run []) (step v it) h

-- The line of an entry.
pub record LineOf (c : Option ClientId) (what : Ask) (o : LogEntry) : Type 0 where
  pub change : what ≡ ask_of o.of.file o.of.page o.change
  pub whose : is_change o ≡ true → c ≡ Some o.of.client
  pub fresh : new_fate what ≡ fate_of o.fate
  pub kind : log.is_pending o.fate ≡ true → is_change o ≡ true

joined_is : (c : Option ClientId) (what : Ask) (o : LogEntry) (e : Entry) → LineOf c what o →
    (same_change e.what what && not (is_any (λ d. not (is_by d e)) c)) ≡ true → e.fate ≡ new_fate e.what → IsSame o e
joined_is c what o e l t n =
    let b = and_true (same_change e.what what) (not (is_any (λ d. not (is_by d e)) c)) t in
    let w = change_is e.what what b.0 in
    record { what = w ∙ l.change; client = λ k. by_client c (l.whose k) b.1; fate = n ∙ (ap new_fate w ∙ l.fresh); change = l.kind }
  where
    by_client : (c : Option ClientId) → c ≡ Some o.of.client → not (is_any (λ d. not (is_by d e)) c) ≡ true → e.client ≡ o.of.client
    by_client None q t = cc
    by_client (Some d) q t = sym (client_is d e.client (not_false _ (not_true _ t))) ∙ some_is q

pub joined_told : (os : List LogEntry) (v : Volume) (i : ℕ) (c : Option ClientId) (what : Ask) (o : LogEntry) → LineOf c what o → IsTold os v →
    OnSome (IsTold (os ++ o ∷ [])) (step v (steps.Joined i c what))
joined_told os v i c what o l h = on_true (IsTold (os ++ o ∷ [])) ((i == v.lines + 1) && is_any test (numbered v.log i)) (Some (record v { lines = i })) go
  where
    test : Entry → Bool
    test e = same_change e.what what && not (is_any (λ d. not (is_by d e)) c)

    found : i ≡ length os + 1 → (m : Option Entry) → numbered v.log i ≡ m → is_any test m ≡ true → IsTold (os ++ o ∷ []) (record v { lines = i })
    found n None q t = cc
    found n (Some e) q t =
        record {
          lines = n ∙ sym (length_more os o ∙ sym (suc_is (length os)));
          first = first_next os v.log o e h.first (sym (numbered_next v.log (length os) i n) ∙ q) (joined_is c what o e l t);
        }

    go : ((i == v.lines + 1) && is_any test (numbered v.log i)) ≡ true → IsTold (os ++ o ∷ []) (record v { lines = i })
    go q =
        let b = and_true (i == v.lines + 1) (is_any test (numbered v.log i)) q in
        found (eqb-true _ _ b.0 ∙ ap (λ k. k + 1) h.lines) (numbered v.log i) refl b.1

-- The line of a fate.
fated_told : (os : List LogEntry) (v : Volume) (i : ℕ) (test : Entry → Bool) (old : world_fate.Fate) (fate : Fate) → fate ≡ fate_of old →
    log.is_pending old ≡ false → (v.lines == length v.log) ≡ true → IsTold os v → OnSome (IsTold (lines.fated os i old)) (with_fate v i test fate)
fated_told os v zero test old fate q p m h = tt
fated_told os v (suc n) test old fate q p m h =
    subst (λ (e : Option Entry). OnSome (IsTold (lines.fated os (suc n) old)) (option_map (with_changed v (suc n)) (option_and_then (ends test fate) e)))
    (sym (numbered_suc v.log n))
    (go (slice_get os n) (slice_get v.log n) (same_at os v.log n same))
  where
    same : AreSame os v.log
    same = first_all os v.log (sym (eqb-true _ _ m) ∙ h.lines) h.first

    never : (x : Bool) (f : world_fate.Fate) → log.is_pending f ≡ false → log.is_pending f ≡ true → x ≡ true
    never x f p k = cc

    go : (o : Option LogEntry) (e : Option Entry) → AtBoth o e →
        OnSome (IsTold (lines.with_fate (suc n) old o os)) (option_map (with_changed v (suc n)) (option_and_then (ends test fate) e))
    go None None a = tt
    go None (Some e) a = absurd a
    go (Some o) None a = absurd a
    go (Some o) (Some e) a =
        on_map (IsTold (lines.with_fate (suc n) old (Some o) os)) (with_changed v (suc n)) (ends test fate e)
        (on_if (λ y. IsTold (lines.with_fate (suc n) old (Some o) os) (with_changed v (suc n) y)) (is_open e.fate && test e) (Some (record e { fate = fate }))
        (record {
          lines = h.lines ∙ sym (set_length os n (record o { fate = old }));
          first =
              same_first (set os n (record o { fate = old })) (set v.log n (record e { fate = fate }))
              (same_set os v.log n (record o { fate = old }) (record e { fate = fate }) same
              (record { what = a.what; client = a.client; fate = q; change = λ k. never _ old p k }));
        }))

-- One line.
pub line_told : (w f : World) (os : List LogEntry) (o : Observation) (rest : List Observation) (v : Volume) → IsTold os v →
    OnSome (λ u. OnSome (IsTold (lines.log_behind f os o)) (run (of_line w o) u)) (run (before_line o rest) v)
unfolding before_line of_line lines.log_behind run log.accept log.patch log.cut
line_told w f os (seen.Wrote i c g p bytes) rest v h =
    on_more (IsTold os) (λ u. OnSome (IsTold (lines.log_behind f os (seen.Wrote i c g p bytes))) (run (of_line w (seen.Wrote i c g p bytes)) u))
    (λ u k. one_step (IsTold (lines.log_behind f os (seen.Wrote i c g p bytes))) (steps.Joined i (Some c) (asks.Write g p bytes)) u
    (joined_told os u i (Some c) (asks.Write g p bytes) (log.pending (log.owner c (present_life f c g.server) g p) (changes.Write bytes))
    (record { change = refl; whose = λ k. refl; fresh = refl; kind = λ k. refl }) k))
    (run (steps.TakesEffect c (next_op rest) ∷ []) v)
    (quiet_run os (steps.TakesEffect c (next_op rest) ∷ []) v refl h)
line_told w f os (seen.Patched i c g p at bytes) rest v h =
    on_more (IsTold os) (λ u. OnSome (IsTold (lines.log_behind f os (seen.Patched i c g p at bytes))) (run (of_line w (seen.Patched i c g p at bytes)) u))
    (λ u k. one_step (IsTold (lines.log_behind f os (seen.Patched i c g p at bytes))) (steps.Joined i (Some c) (asks.Patch g p at bytes)) u
    (joined_told os u i (Some c) (asks.Patch g p at bytes) (log.pending (log.owner c (present_life f c g.server) g p) (changes.Patch at bytes))
    (record { change = refl; whose = λ k. refl; fresh = refl; kind = λ k. refl }) k))
    (run (steps.TakesEffect c (next_op rest) ∷ []) v)
    (quiet_run os (steps.TakesEffect c (next_op rest) ∷ []) v refl h)
line_told w f os (seen.CutAt i g p) rest v h =
    one_step (IsTold (lines.log_behind f os (seen.CutAt i g p))) (steps.Joined i None (asks.Cut g p)) v
    (joined_told os v i None (asks.Cut g p) (log.hard_cut g p) (record { change = refl; whose = λ k. cc; fresh = refl; kind = λ k. cc }) h)
line_told w f os (seen.Hardened i) rest v h =
    one_step (IsTold (lines.fated os i old_fates.Hard)) (steps.Hardened i) v
    (on_true (IsTold (lines.fated os i old_fates.Hard)) (v.lines == length v.log) (with_fate v i (λ e. true) fates.Hard)
    (λ m. fated_told os v i (λ e. true) old_fates.Hard fates.Hard refl refl m h))
line_told w f os (seen.Dropped i cause) rest v h =
    one_step (IsTold (lines.fated os i (old_fates.Gone cause))) (steps.Dropped i (cause_of w cause)) v
    (on_true (IsTold (lines.fated os i (old_fates.Gone cause))) (v.lines == length v.log) (with_fate v i (is_cause (cause_of w cause)) fates.Dropped)
    (λ m. fated_told os v i (is_cause (cause_of w cause)) (old_fates.Gone cause) fates.Dropped refl refl m h))
line_told w f os (seen.Answered c op answer) rest v h = quiet_run os (steps.Answered c op answer ∷ []) v refl h
line_told w f os (seen.Sent k m) rest v h = h
line_told w f os (seen.Submitted k c number what) rest v h = h
line_told w f os (seen.Leased c s end) rest v h = h
line_told w f os (seen.Lost c s life) rest v h = h
line_told w f os (seen.Suspected s c start) rest v h = h
line_told w f os (seen.Stolen s c life) rest v h = h

-- All lines of an event.
lines_told : (w f : World) (os : List LogEntry) (obs : List Observation) (v : Volume) → IsTold os v →
    OnSome (IsTold (lines.log_told f os obs)) (run (of_lines w obs) v)
unfolding of_lines lines.log_told run
lines_told w f os [] v h = h
lines_told w f os (o ∷ rest) v h =
    run_then (IsTold (lines.log_told f os (o ∷ rest))) (before_line o rest) (of_line w o ++ of_lines w rest) v
    (on_more (λ u. OnSome (IsTold (lines.log_behind f os o)) (run (of_line w o) u))
    (λ u. OnSome (IsTold (lines.log_told f os (o ∷ rest))) (run (of_line w o ++ of_lines w rest) u))
    (λ u k. run_then (IsTold (lines.log_told f os (o ∷ rest))) (of_line w o) (of_lines w rest) u
    (on_more (IsTold (lines.log_behind f os o)) (λ z. OnSome (IsTold (lines.log_told f os (o ∷ rest))) (run (of_lines w rest) z))
    (λ z k. lines_told w f (lines.log_behind f os o) rest z k) (run (of_line w o) u) k))
    (run (before_line o rest) v) (line_told w f os o rest v h))

-- Neither the event itself nor what a server does with a request is a line of the log.
quiet_if : (b : Bool) (xs : List VolumeStep) → list_all is_quiet xs ≡ true → list_all is_quiet (if b then xs else []) ≡ true
quiet_if true xs p = p
quiet_if false xs p = refl

failure_quiet : (k : IssuedCommand) (carries : Option Carried) → list_all is_quiet (failure k carries ∷ []) ≡ true
failure_quiet k None = refl
failure_quiet k (Some x) = refl

told_quiet : (k : IssuedCommand) (site : Option WorldClient) → list_all is_quiet (failure_told k site) ≡ true
told_quiet k None = refl
told_quiet k (Some site) = quiet_if (is_same_instance k site) (failure k k.carries ∷ []) (failure_quiet k k.carries)

failed_quiet : (w : World) (k : Option IssuedCommand) → list_all is_quiet (failure_of w k) ≡ true
failed_quiet w None = refl
failed_quiet w (Some k) = told_quiet k (site_of w k.client)

pub event_quiet : (w : World) (e : Event) → list_all is_quiet (of_event w e) ≡ true
unfolding of_event
event_quiet w (events.Tick n) = refl
event_quiet w (events.App c ask) = refl
event_quiet w (events.Deliver k) = refl
event_quiet w (events.Lose k) = refl
event_quiet w (events.Cut from to) = refl
event_quiet w (events.Heal from to) = refl
event_quiet w (events.Advance increments) = refl
event_quiet w (events.Effect k) = refl
event_quiet w (events.Report k true) = refl
event_quiet w (events.Report k false) = failed_quiet w (issued_of w k)
event_quiet w (events.Crash (nodes.Client c)) = refl
event_quiet w (events.Crash (nodes.Server s)) = refl
event_quiet w (events.Start (nodes.Client c)) = refl
event_quiet w (events.Start (nodes.Server s)) = refl

node_quiet : (bs : List Behind) (v : Volume) (w : World) (m : Message) (n : NodeId) → list_all is_quiet (to_node bs v w m n) ≡ true
node_quiet bs v w m (nodes.Client c) = refl
node_quiet bs v w m (nodes.Server s) = quiet_if (does_at w s (node_of w s) m) (takes_op bs v s m ∷ []) refl

message_quiet : (bs : List Behind) (v : Volume) (w : World) (m : Option SentMessage) → list_all is_quiet (of_message bs v w m) ≡ true
message_quiet bs v w None = refl
message_quiet bs v w (Some m) = node_quiet bs v w m.message (receiver_of m)

pub delivery_quiet : (bs : List Behind) (v : Volume) (w : World) (e : Event) → list_all is_quiet (of_delivery bs v w e) ≡ true
delivery_quiet bs v w (events.Tick n) = refl
delivery_quiet bs v w (events.App c ask) = refl
delivery_quiet bs v w (events.Deliver k) = message_quiet bs v w (message_of w k)
delivery_quiet bs v w (events.Lose k) = refl
delivery_quiet bs v w (events.Cut from to) = refl
delivery_quiet bs v w (events.Heal from to) = refl
delivery_quiet bs v w (events.Advance increments) = refl
delivery_quiet bs v w (events.Effect k) = refl
delivery_quiet bs v w (events.Report k ok) = refl
delivery_quiet bs v w (events.Crash n) = refl
delivery_quiet bs v w (events.Start n) = refl

-- All steps of an event.
pub event_told : (t : Witness) (v u : Volume) (x : Step) → IsTold x.before.world.log u →
    OnSome (IsTold (lines.log_told x.after.world x.before.world.log x.seen)) (run (steps_of t v x) u)
event_told t v u x h =
    let w = x.before.world in
    run_then (IsTold (lines.log_told x.after.world w.log x.seen)) (of_event w x.event) (of_delivery t.behind v w x.event ++ of_lines w x.seen) u
    (on_more (IsTold w.log) (λ z. OnSome (IsTold (lines.log_told x.after.world w.log x.seen)) (run (of_delivery t.behind v w x.event ++ of_lines w x.seen) z))
    (λ z k. run_then (IsTold (lines.log_told x.after.world w.log x.seen)) (of_delivery t.behind v w x.event) (of_lines w x.seen) z
    (on_more (IsTold w.log) (λ y. OnSome (IsTold (lines.log_told x.after.world w.log x.seen)) (run (of_lines w x.seen) y))
    (λ y k. lines_told w x.after.world w.log x.seen y k) (run (of_delivery t.behind v w x.event) z)
    (quiet_run w.log (of_delivery t.behind v w x.event) z (delivery_quiet t.behind v w x.event) k))) (run (of_event w x.event) u)
    (quiet_run w.log (of_event w x.event) u (event_quiet w x.event) h))
