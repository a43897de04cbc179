-- In every run the volume takes each effect of a write or a patch: its file exists, nothing of the file is open of another client, and it comes in its order.
use Rattle.st_lemmas.proofs.Words
use Words.{◌≡◌, ◌⊎◌, ℕ, ◌+◌, ◌<◌, ◌==◌, arith, Bool, true, false, not, ◌&&◌, ◌||◌, List, [], ◌∷◌, ◌++◌, length, map, Option, Some, None, Ok, Err, refl, sym, ap, ◌∙◌, subst, inl, inr, if◌then◌else◌}
use Words.{append-nil, append_assoc, eq-eqb, eqb-true, filter, find, flat_map, is_some, list_all, list_any, ltb-true, nat_lt, option_map, option_and_then, unwrap_or}
use Words.{AppAnswer, Ask, BlockAt, ClientId, Command, Config, Event, Fate, FileId, LogEntry, Message, NodeId, Note, Observation, Output, PageNo, SentMessage, ServerId}
use Words.answers
use Words.asks
use Words.changes
use Words.events
use Words.fates
use Words.nodes
use Words.notes
use Words.outputs
use Words.seen
use Words.Client as cl
use Words.ClientState.{ClientState, ClientTurn}
use Words.Events as ev
use Words.Events.{WorldTurn, is_change, world_step}
use Words.FlatLog as log
use Words.History.{Traced, traced}
use Words.Lines as lines
use Words.Lists.{Has}
use Words.Lookups.{if_true, or_left, some_is}
use Words.Members.{has_left}
use Words.Names as names
use Words.Safety.{AnswersAreLogged, AreLogged, AsksAreAnsweredOnce, Promise, Step, TheReportTellsTheLog, all_answered_once, all_followed, begins_written, is_followed, is_written_to, step, steps}
use Words.Server.{ServerNode}
use Words.Tables.{and_both, and_left, and_right, and_true, each_passes, found_at, has_filter_in, has_map_in, not_true}
use Words.Tests.{all_last, find_longer}
use Words.Truth.{clash, client_is}
use Words.World as world
use Words.World.{World, WorldClient, fresh_world, message_of, node_of, receiver_of, site_of}
use Rattle.st_rules.specs.declared.node.StepRefusal.TheVariants.{Crashed}
use Rattle.st_lemmas.proofs.Once.{none_any}
use Rattle.st_lemmas.proofs.Steps.{step_happens}
use Rattle.st_promises.specs.Safe.{EveryRunIsSafe, IsSafeRun}
use Rattle.st_laws_pages.specs.Asks.Law.{PlacesHold}
use Rattle.st_laws_pages.specs.Disks.Obligations.{FatesHold}
use Rattle.st_laws_pages.proofs.Asks.Law.{places_law}
use Rattle.st_laws_pages.proofs.Asks.World.{asks_more, asks_of}
use Rattle.st_laws_pages.proofs.Causes.Placed.{places_at}
use Rattle.st_laws_pages.proofs.Disks.Whole.{fates_law}
use Rattle.st_laws_reads.specs.Copies.World.{Taking, now_at, receiving, taken}
use Rattle.st_laws_reads.proofs.AllClients.Takings.{Takes, takes_event}
use Rattle.st_laws_reads.proofs.AllClients.Untaken.{others}
use Rattle.st_laws_volume.specs.Asks.{AsksOf, HasAsksOf, ask_key, at_site, in_volume}
use Rattle.st_laws_volume.specs.Effects.{ChangesFindTheirFiles, ChangesTakeEffect, FindsFile, LineFinds, steps_before}
use Rattle.st_laws_volume.specs.Logs.{AreSame, InEveryRun, IsLogOf, IsSame, ask_of, fate_of}
use Rattle.st_laws_volume.specs.Options.{OnSome}
use Rattle.st_laws_volume.specs.Seen.{cause_of, of_event, of_line}
use Rattle.st_laws_volume.specs.StepKinds.{AreTaken, is_effect}
use Rattle.st_laws_volume.specs.Trees.{HasTreesOf}
use Rattle.st_laws_volume.specs.Witness.{Behind, Witness, before_line, begun, led_to, next_op, of_delivery, of_lines, of_message, to_node}
use Rattle.st_laws_volume.proofs.AnswerSteps.{open_there}
use Rattle.st_laws_volume.proofs.AskedAsks.{AreOf, Asked, IsOf, all_has, asked_after, event_right, moved, run_right}
use Rattle.st_laws_volume.proofs.AskEvents.{AllOpenFor, AsksLeft, event_leaves}
use Rattle.st_laws_volume.proofs.Asks.{AsksHold, asks_begin, asks_kept, before_dull, fresh_asks, of_each}
use Rattle.st_laws_volume.proofs.AskSteps.{is_open_op, run_tells, told_all, told_both}
use Rattle.st_laws_volume.proofs.Carried.{IsGiven, given_in}
use Rattle.st_laws_volume.proofs.ChangeFiles.{changes_find_their_files}
use Rattle.st_laws_volume.proofs.ChangeLines.{block_other, followed_asked, on_both, patched_is, taken_both, wrote_is}
use Rattle.st_laws_volume.proofs.KeptResults.{AllRight, ResultsHold, answer_right, change_right, results_begin, results_kept, right, run_kept, step_right}
use Rattle.st_laws_volume.proofs.LineOrder.{AllInOrder, Rising, all_rising, event_in_order}
use Rattle.st_laws_volume.proofs.LogEntries.{first_all}
use Rattle.st_laws_volume.proofs.LogLines.{event_quiet, line_told, one_step, run_then}
use Rattle.st_laws_volume.proofs.LogSteps.{IsTold, quiet_run}
use Rattle.st_laws_volume.proofs.Logs.{LogHolds, log_begins, log_kept, told_of}
use Rattle.st_laws_volume.proofs.OpenAnswers.{Open, block, block_open, first_open, open_left}
use Rattle.st_laws_volume.proofs.Options.{on_all, on_more}
use Rattle.st_laws_volume.proofs.ReadPages.{throughout_both}
use Rattle.st_laws_volume.proofs.ReadRanges.{Written, written_is}
use Rattle.st_laws_volume.proofs.ToldSteps.{Near, Told, event_kept, kept_told, one_near, step_told}
use Rattle.st_laws_volume.proofs.TreeKinds.{kind_is}
use Rattle.st_laws_volume.proofs.Trees.{TreesHold, event_is, trees_begin, trees_kept}
use Rattle.st_laws_volume.proofs.TreeSteps.{SameTrees, all_same, line_same}
use Rattle.st_laws_volume.proofs.TreeWorld.{AllSound, at_client_servers, tree_there}
use Rattle.st_laws_volume.proofs.WriteOrder.{NoSooner}
use Rattle.st_volume.specs.declared.step.VolumeStep.{VolumeStep}
use Rattle.st_volume.specs.declared.step.VolumeStep.TheVariants as kinds
use Rattle.st_volume.specs.declared.step.Fate.TheVariants as volume_fates
use Rattle.st_volume.specs.Pages.{Entry, is_any, is_by, is_clear, is_on, is_open, place_of, same_file}
use Rattle.st_volume.specs.Trees as trees
use Rattle.st_volume.specs.Volume as volume
use Rattle.st_volume.specs.Volume.{Pending, Volume, acts, done, effect, entry, exists, is_ask, is_before, is_cut_or_name, is_free, is_of_client, is_sooner, notice, open_of, run, takes}

-- An ask takes effect as a write or a patch: it is open, has no result, comes in its order, and its file is free.
record MayChange (u : Volume) (c : ClientId) (op : ℕ) (what : Ask) (f : FileId) (a : Pending) : Type 0 where
  found : find (is_ask c op) u.pending ≡ Some a
  asked : a.ask ≡ what
  fresh : is_some a.result ≡ false
  order : list_any (is_before a) u.pending ≡ false
  free : is_free u c f ≡ true

module _ (u : Volume) (c : ClientId) (op : ℕ) (told : Told u) where
  its_client : (a : Pending) → find (is_ask c op) u.pending ≡ Some a → a.client ≡ c
  its_client a q = client_is a.client c (and_true (is_of_client c a) (a.op == op) (found_at (is_ask c op) u.pending a q).0).0

  made : (f : FileId) (what : Ask) → is_free u c f ≡ true → (a : Pending) →
      is_some (option_map notice (option_map (done a) (option_map (λ (w : Volume). (w, answers.Written))
      (volume.with_entry u f (entry c what volume_fates.Open))))) ≡ true
  made f what free a =
      ap (λ b. is_some (option_map notice (option_map (done a) (option_map (λ (w : Volume). (w, answers.Written))
      (if b then Some (record u { log = u.log ++ entry c what volume_fates.Open ∷ [] }) else None))))) free

  has_effect : (what : Ask) (f : FileId) (p : PageNo) → place_of what ≡ Some (f, p) → (a : Pending) → is_free u c f ≡ true →
      is_some (option_map notice (option_map (done a) (effect u c what))) ≡ true
  has_effect (asks.Write g q bytes) f p e a free =
      made g (asks.Write g q bytes) (ap (λ (x : FileId). is_free u c x) (ap (λ (x : FileId × PageNo). x.0) (some_is e)) ∙ free) a
  has_effect (asks.Patch g q at bytes) f p e a free =
      made g (asks.Patch g q at bytes) (ap (λ (x : FileId). is_free u c x) (ap (λ (x : FileId × PageNo). x.0) (some_is e)) ∙ free) a
  has_effect (asks.Read g q) f p e a free = cc e
  has_effect (asks.Sync g) f p e a free = cc e
  has_effect (asks.Cut g q) f p e a free = cc e
  has_effect (asks.Name s ask) f p e a free = cc e

  effect_is_taken : (what : Ask) (f : FileId) (p : PageNo) → place_of what ≡ Some (f, p) → (a : Pending) → MayChange u c op what f a →
      is_some (volume.step u (kinds.TakesEffect c op)) ≡ true
  effect_is_taken what f p e a m =
      ap is_some (if_true (u.lines == length u.log) (acts u (kinds.TakesEffect c op)) None (eq-eqb u.lines (length u.log) told))
      ∙ (ap (λ o. is_some (option_map notice (option_and_then (takes u) o))) (find_longer (is_ask c op) a u.pending u.orphans m.found)
      ∙ (ap (λ b. is_some (option_map notice (if b || list_any (is_before a) u.pending then None else option_map (done a) (effect u a.client a.ask)))) m.fresh
      ∙ (ap (λ b. is_some (option_map notice (if b then None else option_map (done a) (effect u a.client a.ask)))) m.order
      ∙ (ap (λ (x : ClientId). is_some (option_map notice (option_map (done a) (effect u x a.ask)))) (its_client a m.found)
      ∙ (ap (λ ask. is_some (option_map notice (option_map (done a) (effect u c ask)))) m.asked
      ∙ has_effect what f p e a m.free)))))

-- No open ask must take effect before it.
none_before : (u : Volume) (c : ClientId) (op : ℕ) (a : Pending) → find (is_ask c op) u.pending ≡ Some a → NoSooner op (in_volume u c).pending →
    list_any (is_before a) u.pending ≡ false
none_before u c op a q n = none_any (is_before a) u.pending one
  where
    k : ((is_of_client c a ≡ true) × ((a.op == op) ≡ true)) × Has a u.pending
    k = let z = found_at (is_ask c op) u.pending a q in (and_true (is_of_client c a) (a.op == op) z.0, z.1)

    listed : (b : Pending) → Has b u.pending → is_of_client c b ≡ true → Has (ask_key b) (in_volume u c).pending
    listed b i e = has_map_in ask_key (open_of u c) b (has_filter_in (is_of_client c) u.pending b i e)

    one : (b : Pending) → Has b u.pending → is_before a b ≡ false
    one b i = go (is_of_client a.client b) refl (nat_lt b.op a.op) refl
      where
        go : (x : Bool) → is_of_client a.client b ≡ x → (y : Bool) → nat_lt b.op a.op ≡ y → is_before a b ≡ false
        go false e y l = and_left (is_of_client a.client b && nat_lt b.op a.op) _ (and_left (is_of_client a.client b) (nat_lt b.op a.op) e)
        go true e false l = and_left (is_of_client a.client b && nat_lt b.op a.op) _ (and_right (is_of_client a.client b) (nat_lt b.op a.op) l)
        go true e true l =
            and_right (is_of_client a.client b && nat_lt b.op a.op) (not (is_some b.result) && is_sooner b.ask a.ask)
            (and_right (not (is_some b.result)) (is_sooner b.ask a.ask)
            (n (ask_key a) (ask_key b) (listed a k.1 k.0.0)
            (listed b i (ap (λ (x : ClientId). is_of_client x b) (sym (client_is a.client c k.0.0)) ∙ e)) (eqb-true a.op op k.0.1)
            (subst (λ (m : ℕ). b.op < m) (eqb-true a.op op k.0.1) (ltb-true b.op a.op l))))

-- Its file: it exists, and what is open of it is its client's.
change_place : (o : LogEntry) (f : FileId) → is_on f (ask_of o.of.file o.of.page o.change) ≡ true → f ≡ o.of.file
change_place o f = go o.change
  where
    same : same_file f o.of.file ≡ true → f ≡ o.of.file
    same e =
        let b = and_true (f.server.0 == o.of.file.server.0) (f.ino == o.of.file.ino) e in
        ap (λ (m : ℕ). record { server = record { 0 = m }; ino = f.ino }) (eqb-true f.server.0 o.of.file.server.0 b.0)
        ∙ ap (λ (m : ℕ). record { server = o.of.file.server; ino = m }) (eqb-true f.ino o.of.file.ino b.1)

    go : (ch : Words.Change) → is_on f (ask_of o.of.file o.of.page ch) ≡ true → f ≡ o.of.file
    go (changes.Write bytes) e = same e
    go (changes.Patch at bytes) e = same e
    go changes.Cut e = cc e

open_fate : (x : Fate) → is_open (fate_of x) ≡ true → log.is_pending x ≡ true
open_fate fates.Pending e = refl
open_fate fates.Hard e = cc e
open_fate (fates.Gone cause) e = cc e

module _ (c : ClientId) (f : FileId) where
  one_clear : (o : LogEntry) (e : Entry) → IsSame o e → (log.is_pending o.fate ≡ true → o.of.file ≡ f → o.of.client ≡ c) → is_clear c f e ≡ true
  one_clear o e s own = go (is_on f e.what) refl (is_open e.fate) refl
    where
      mine : is_on f e.what ≡ true → is_open e.fate ≡ true → is_by c e ≡ true
      mine p q =
          let pending = open_fate o.fate (ap is_open (sym s.fate) ∙ q) in
          let file = change_place o f (ap (is_on f) (sym s.what) ∙ p) in
          eq-eqb c.0 e.client.0 (ap (λ (x : ClientId). x.0) (sym (s.client (s.change pending) ∙ own pending (sym file))))

      go : (x : Bool) → is_on f e.what ≡ x → (y : Bool) → is_open e.fate ≡ y → is_clear c f e ≡ true
      go false p y q = Words.Lookups.or_right (is_by c e) (not (is_on f e.what && is_open e.fate)) (ap not (and_left (is_on f e.what) (is_open e.fate) p))
      go true p false q = Words.Lookups.or_right (is_by c e) (not (is_on f e.what && is_open e.fate)) (ap not (and_right (is_on f e.what) (is_open e.fate) q))
      go true p true q = or_left (is_by c e) (not (is_on f e.what && is_open e.fate)) (mine p q)

  pub all_clear : (os : List LogEntry) (es : List Entry) → AreSame os es →
      ((o : LogEntry) → Has o os → log.is_pending o.fate ≡ true → o.of.file ≡ f → o.of.client ≡ c) → list_all (is_clear c f) es ≡ true
  all_clear [] [] s h = refl
  all_clear [] (e ∷ es) s h = absurd s
  all_clear (o ∷ os) [] s h = absurd s
  all_clear (o ∷ os) (e ∷ es) s h =
      and_both (is_clear c f e) (list_all (is_clear c f) es) (one_clear o e s.0 (h o (inl refl))) (all_clear os es s.1 (λ x i. h x (inr i)))

-- The lines of a client's step: no fate is among them, so each entry stays in the log.
abbrev is_unfated : Observation → Bool
is_unfated (seen.Hardened i) = false
is_unfated (seen.Dropped i cause) = false
is_unfated o = true

-- lines that are of no write or patch
abbrev is_unchanged : Observation → Bool
is_unchanged (seen.Wrote i c f p bytes) = false
is_unchanged (seen.Patched i c f p at bytes) = false
is_unchanged o = true

stays : (w : World) (es : List LogEntry) (o : Observation) (e : LogEntry) → is_unfated o ≡ true → Has e es → Has e (lines.log_behind w es o)
unfolding lines.log_behind log.accept log.patch log.cut
stays w es (seen.Wrote i c f p bytes) e q h = has_left es _ e h
stays w es (seen.Patched i c f p at bytes) e q h = has_left es _ e h
stays w es (seen.CutAt i f p) e q h = has_left es _ e h
stays w es (seen.Hardened i) e q h = cc q
stays w es (seen.Dropped i cause) e q h = cc q
stays w es (seen.Answered c op answer) e q h = h
stays w es (seen.Sent k m) e q h = h
stays w es (seen.Submitted k c number what) e q h = h
stays w es (seen.Leased c s end) e q h = h
stays w es (seen.Lost c s life) e q h = h
stays w es (seen.Suspected s c start) e q h = h
stays w es (seen.Stolen s c life) e q h = h

all_stay : (w : World) (es : List LogEntry) (os : List Observation) (e : LogEntry) → list_all is_unfated os ≡ true → Has e es → Has e (lines.log_told w es os)
unfolding lines.log_told
all_stay w es [] e q h = h
all_stay w es (o ∷ os) e q h =
    let b = and_true (is_unfated o) (list_all is_unfated os) q in all_stay w (lines.log_behind w es o) os e b.1 (stays w es o e b.0 h)

note_unfated : (c : ClientId) (before : ClientState) (n : Note) (sc : WorldTurn) → list_all is_unfated sc.seen ≡ true →
    list_all is_unfated (ev.client_notes sc c before n).seen ≡ true
unfolding ev.client_notes ev.accepts ev.patches ev.loses
note_unfated c before (notes.Leased s end) sc h = all_last is_unfated sc.seen _ h refl
note_unfated c before (notes.Lost s life) sc h = all_last is_unfated sc.seen _ h refl
note_unfated c before (notes.Accepted f p bytes) sc h = all_last is_unfated sc.seen _ h refl
note_unfated c before (notes.Patched f p at bytes) sc h = all_last is_unfated sc.seen _ h refl
note_unfated c before n sc h = h

submit_unfated : (c : ClientId) (o : Option WorldClient) (number : ℕ) (at : BlockAt) (what : Command) (sc : WorldTurn) → list_all is_unfated sc.seen ≡ true →
    list_all is_unfated (ev.submits sc c o number at what).seen ≡ true
unfolding ev.submits
submit_unfated c None number at what sc h = h
submit_unfated c (Some site) number at what sc h = all_last is_unfated sc.seen _ h refl

one_unfated : (c : ClientId) (before : ClientState) (o : Output) (sc : WorldTurn) → list_all is_unfated sc.seen ≡ true →
    list_all is_unfated (ev.client_says sc c before o).seen ≡ true
unfolding ev.client_says ev.sends ev.answers_with
one_unfated c before (outputs.Send m) sc h = all_last is_unfated sc.seen _ h refl
one_unfated c before (outputs.Submit number at what) sc h = submit_unfated c (site_of sc.world c) number at what sc h
one_unfated c before (outputs.Answer op answer) sc h = all_last is_unfated sc.seen _ h refl
one_unfated c before (outputs.Note n) sc h = note_unfated c before n sc h

says_unfated : (c : ClientId) (before : ClientState) (os : List Output) (sc : WorldTurn) → list_all is_unfated sc.seen ≡ true →
    list_all is_unfated (ev.client_says_all c before os sc).seen ≡ true
unfolding ev.client_says_all
says_unfated c before [] sc h = h
says_unfated c before (o ∷ os) sc h = says_unfated c before os (ev.client_says sc c before o) (one_unfated c before o sc h)

took_unfated : (x : Taking) → list_all is_unfated (ev.client_takes x.world x.client x.input x.site).seen ≡ true
unfolding ev.client_takes ev.client_took cl.node_step
took_unfated x = go x.site.node.running
  where
    u : ClientTurn
    u = cl.client_step x.site.node.state (now_at x) x.input

    go : (b : Bool) → list_all is_unfated (ev.client_took x.world x.client x.site (if b then Ok (cl.node_turn x.site.node u) else Err Crashed)).seen ≡ true
    go true =
        says_unfated x.client x.site.node.state u.out
        (ev.quiet (ev.with_site x.client (ev.at_node (record x.site.node { state = u.state }) x.site) x.world)) refl
    go false = refl

took_servers : (x : Taking) → (ev.client_takes x.world x.client x.input x.site).world.servers ≡ x.world.servers
unfolding ev.at_client
took_servers x = at_client_servers x.world x.client x.input (Some x.site)

-- Other events have no line of a write or a patch.
server_unchanged_one : (s : ServerId) (o : Output) (sc : WorldTurn) → list_all is_unchanged sc.seen ≡ true →
    list_all is_unchanged (ev.server_says sc s o).seen ≡ true
unfolding ev.server_says ev.sends ev.server_notes ev.cuts
server_unchanged_one s (outputs.Send m) sc h = all_last is_unchanged sc.seen _ h refl
server_unchanged_one s (outputs.Note n) sc h = note n
  where
    note : (n : Note) → list_all is_unchanged (ev.server_notes sc s n).seen ≡ true
    note (notes.Suspected d t) = all_last is_unchanged sc.seen _ h refl
    note (notes.Stolen d life) = all_last is_unchanged sc.seen _ h refl
    note (notes.CutDone f p) = all_last is_unchanged sc.seen _ h refl
    note n = h
server_unchanged_one s o sc h = h

server_unchanged : (s : ServerId) (os : List Output) (sc : WorldTurn) → list_all is_unchanged sc.seen ≡ true →
    list_all is_unchanged (ev.server_says_all s os sc).seen ≡ true
unfolding ev.server_says_all
server_unchanged s [] sc h = h
server_unchanged s (o ∷ os) sc h = server_unchanged s os (ev.server_says sc s o) (server_unchanged_one s o sc h)

fates_unchanged : (n : ℕ) (es fs : List LogEntry) → list_all is_unchanged (ev.fates_from n es fs) ≡ true
unfolding ev.fates_from
fates_unchanged n [] fs = refl
fates_unchanged n (e ∷ es) [] = refl
fates_unchanged n (e ∷ es) (f ∷ fs) = go e.fate f.fate (fates_unchanged (n + 1) es fs)
  where
    go : (x y : Fate) → list_all is_unchanged (ev.fates_from (n + 1) es fs) ≡ true →
        list_all is_unchanged (ev.fate_seen n x y ++ ev.fates_from (n + 1) es fs) ≡ true
    go fates.Pending fates.Hard h = h
    go fates.Pending (fates.Gone cause) h = h
    go fates.Pending fates.Pending h = h
    go fates.Hard y h = h
    go (fates.Gone cause) y h = h

-- Steps other than effects.
abbrev pub is_other : VolumeStep → Bool
is_other it = not (is_effect it)

pub none_taken : (its : List VolumeStep) (v : Volume) → list_all is_other its ≡ true → AreTaken is_effect its v
unfolding AreTaken
none_taken [] v q = tt
none_taken (it ∷ its) v q =
    let b = and_true (is_other it) (list_all is_other its) q in
    (λ p. clash p (not_true (is_effect it) b.0), on_all (AreTaken is_effect its) (λ u. none_taken its u b.1) (volume.step v it))

unchanged_taken : (w : World) (os : List Observation) (v : Volume) → list_all is_unchanged os ≡ true → AreTaken is_effect (of_lines w os) v
unfolding of_lines before_line of_line AreTaken
unchanged_taken w [] v q = tt
unchanged_taken w (seen.Wrote i c f p bytes ∷ os) v q = cc q
unchanged_taken w (seen.Patched i c f p at bytes ∷ os) v q = cc q
unchanged_taken w (seen.CutAt i f p ∷ os) v q = (λ p. cc p, on_all (AreTaken is_effect (of_lines w os)) (λ u. unchanged_taken w os u q) _)
unchanged_taken w (seen.Hardened i ∷ os) v q = (λ p. cc p, on_all (AreTaken is_effect (of_lines w os)) (λ u. unchanged_taken w os u q) _)
unchanged_taken w (seen.Dropped i cause ∷ os) v q = (λ p. cc p, on_all (AreTaken is_effect (of_lines w os)) (λ u. unchanged_taken w os u q) _)
unchanged_taken w (seen.Answered c op answer ∷ os) v q = (λ p. cc p, on_all (AreTaken is_effect (of_lines w os)) (λ u. unchanged_taken w os u q) _)
unchanged_taken w (seen.Sent k m ∷ os) v q = unchanged_taken w os v q
unchanged_taken w (seen.Submitted k c number what ∷ os) v q = unchanged_taken w os v q
unchanged_taken w (seen.Leased c s end ∷ os) v q = unchanged_taken w os v q
unchanged_taken w (seen.Lost c s life ∷ os) v q = unchanged_taken w os v q
unchanged_taken w (seen.Suspected s c start ∷ os) v q = unchanged_taken w os v q
unchanged_taken w (seen.Stolen s c life ∷ os) v q = unchanged_taken w os v q

one_taken : (c : ClientId) (op : ℕ) (it : VolumeStep) (v : Volume) → is_effect it ≡ false → is_some (volume.step v (kinds.TakesEffect c op)) ≡ true →
    AreTaken is_effect (kinds.TakesEffect c op ∷ it ∷ []) v
unfolding AreTaken
one_taken c op it v n h = (
  λ p. h,
  on_all (AreTaken is_effect (it ∷ [])) (λ u. none_taken (it ∷ []) u (and_both (is_other it) true (ap not n) refl))
      (volume.step v (kinds.TakesEffect c op)),
)

-- Which open asks may have a result: after the line of a write or a patch, the one that is answered next.
abbrev ResultsAfter : Option Observation → List Observation → Volume → Type 0
ResultsAfter (Some (seen.Wrote i c f p bytes)) os u = AllRight (Some (c, next_op os)) u
ResultsAfter (Some (seen.Patched i c f p at bytes)) os u = AllRight (Some (c, next_op os)) u
ResultsAfter line os u = AllRight None u

-- the line before is followed by these
abbrev is_fit : Option Observation → List Observation → Bool
is_fit None os = true
is_fit (Some o) os = is_followed o os

abbrev is_answer_line : Observation → Bool
is_answer_line (seen.Answered c op answer) = true
is_answer_line o = false

not_written : (c : ClientId) (o : Observation) → is_answer_line o ≡ false → is_written_to c o ≡ false
not_written c (seen.Answered d op answer) q = cc q
not_written c o q = refl

calm : (line : Option Observation) (o : Observation) (os : List Observation) (u : Volume) → is_answer_line o ≡ false → is_fit line (o ∷ os) ≡ true →
    ResultsAfter line (o ∷ os) u → AllRight None u
calm (Some (seen.Wrote i c f p bytes)) o os u n b h = clash b (not_written c o n)
calm (Some (seen.Patched i c f p at bytes)) o os u n b h = clash b (not_written c o n)
calm line o os u n b h = h

answered_right : (line : Option Observation) (d : ClientId) (op : ℕ) (answer : AppAnswer) (os : List Observation) (u : Volume) →
    is_fit line (seen.Answered d op answer ∷ os) ≡ true → ResultsAfter line (seen.Answered d op answer ∷ os) u →
    OnSome (AllRight None) (volume.step u (kinds.Answered d op answer))
answered_right (Some (seen.Wrote i c f p bytes)) d op answers.Written os u b h =
    subst (λ (z : ClientId). OnSome (AllRight None) (volume.step u (kinds.Answered z op answers.Written))) (sym (client_is d c b))
    (answer_right u c op answers.Written h)
answered_right (Some (seen.Patched i c f p at bytes)) d op answers.Written os u b h =
    subst (λ (z : ClientId). OnSome (AllRight None) (volume.step u (kinds.Answered z op answers.Written))) (sym (client_is d c b))
    (answer_right u c op answers.Written h)
answered_right (Some (seen.Wrote i c f p bytes)) d op answer os u b h = cc b
answered_right (Some (seen.Patched i c f p at bytes)) d op answer os u b h = cc b
answered_right line d op answer os u b h = step_right None u (kinds.Answered d op answer) refl h

-- the ask that is answered next is open, and in its order
next_open : (w : World) (c : ClientId) (os : List Observation) (a : AsksOf) → begins_written c os ≡ true → AllOpenFor w c os a →
    is_open_op (next_op os) a.pending ≡ true
next_open w c [] a b h = cc b
next_open w c (o ∷ os) a b h = go (written_is c o b)
  where
    go : Written o → is_open_op (next_op (o ∷ os)) a.pending ≡ true
    go (d, op, e) =
        ap (λ y. is_open_op (next_op (y ∷ os)) a.pending) e
        ∙ (subst (λ y. Rattle.st_laws_volume.proofs.AskEvents.OpenFor c y a) e h.0) (subst (λ y. begins_written c (y ∷ os) ≡ true) e b)

next_order : (w : World) (c : ClientId) (os : List Observation) (a : AsksOf) → begins_written c os ≡ true → AllInOrder w c os a →
    NoSooner (next_op os) a.pending
next_order w c [] a b h = cc b
next_order w c (o ∷ os) a b h = go (written_is c o b)
  where
    go : Written o → NoSooner (next_op (o ∷ os)) a.pending
    go (d, op, e) =
        subst (λ y. NoSooner (next_op (y ∷ os)) a.pending) (sym e)
        ((subst (λ y. Rattle.st_laws_volume.proofs.LineOrder.LineInOrder c y a) e h.0) (subst (λ y. begins_written c (y ∷ os) ≡ true) e b))

module _ (past : List Step) (x : Step) (w f : World) (sound : AllSound w) (servers : f.servers ≡ w.servers) where
  abbrev as_ : Asked
  as_ = asks_of (past ++ x ∷ [])

  abbrev Ordered : List Observation → Volume → Type 0
  Ordered os u = (c : ClientId) → AllInOrder w c os (in_volume u c)

  block_ordered : (o : Observation) (os : List Observation) (u : Volume) → Ordered (o ∷ os) u → OnSome (Ordered os) (run (block w o os) u)
  block_ordered o os u h =
      on_more (λ z. (c : ClientId) → in_volume z c ≡ told_all c (block w o os) (in_volume u c)) (Ordered os)
      (λ z k c. subst (AllInOrder w c os)
      (sym (k c ∙ (told_both c (before_line o os) (of_line w o) (in_volume u c) ∙ ap (told_all c (of_line w o)) (before_dull c o os (in_volume u c)))))
      (h c).1)
      (run (block w o os) u)
      (of_each (block w o os) u (run (block w o os) u) (λ c. run_tells c (block w o os) u))

  pair_told : (c : ClientId) (op : ℕ) (i : ℕ) (d : Option ClientId) (what : Ask) (u : Volume) →
      OnSome Told (run (kinds.TakesEffect c op ∷ kinds.Joined i d what ∷ []) u)
  pair_told c op i d what u =
      run_then Told (kinds.TakesEffect c op ∷ []) (kinds.Joined i d what ∷ []) u
      (on_more Near (λ z. OnSome Told (run (kinds.Joined i d what ∷ []) z))
      (λ z n. one_step Told (kinds.Joined i d what) z (step_told z (kinds.Joined i d what) refl n)) (run (kinds.TakesEffect c op ∷ []) u) (one_near u c op))

  block_even : (o : Observation) (os : List Observation) (u : Volume) → Told u → OnSome Told (run (block w o os) u)
  unfolding before_line of_line run
  block_even (seen.Wrote i c g p bytes) os u h = pair_told c (next_op os) i (Some c) (asks.Write g p bytes) u
  block_even (seen.Patched i c g p at bytes) os u h = pair_told c (next_op os) i (Some c) (asks.Patch g p at bytes) u
  block_even (seen.CutAt i g p) os u h = kept_told (kinds.Joined i None (asks.Cut g p) ∷ []) u refl h
  block_even (seen.Hardened i) os u h = kept_told (kinds.Hardened i ∷ []) u refl h
  block_even (seen.Dropped i cause) os u h = kept_told (kinds.Dropped i (cause_of w cause) ∷ []) u refl h
  block_even (seen.Answered c op answer) os u h = kept_told (kinds.Answered c op answer ∷ []) u refl h
  block_even (seen.Sent k m) os u h = h
  block_even (seen.Submitted k c number what) os u h = h
  block_even (seen.Leased c s end) os u h = h
  block_even (seen.Lost c s life) os u h = h
  block_even (seen.Suspected s c start) os u h = h
  block_even (seen.Stolen s c life) os u h = h

  pair_right : (c : ClientId) (op : ℕ) (i : ℕ) (d : Option ClientId) (what : Ask) (u : Volume) → AllRight None u →
      OnSome (AllRight (Some (c, op))) (run (kinds.TakesEffect c op ∷ kinds.Joined i d what ∷ []) u)
  pair_right c op i d what u h =
      run_then (AllRight (Some (c, op))) (kinds.TakesEffect c op ∷ []) (kinds.Joined i d what ∷ []) u
      (on_more (AllRight (Some (c, op))) (λ z. OnSome (AllRight (Some (c, op))) (run (kinds.Joined i d what ∷ []) z))
      (λ z n. one_step (AllRight (Some (c, op))) (kinds.Joined i d what) z (step_right (Some (c, op)) z (kinds.Joined i d what) refl n))
      (run (kinds.TakesEffect c op ∷ []) u) (one_step (AllRight (Some (c, op))) (kinds.TakesEffect c op) u (change_right u c op h)))

  block_results : (line : Option Observation) (o : Observation) (os : List Observation) (u : Volume) → is_fit line (o ∷ os) ≡ true →
      ResultsAfter line (o ∷ os) u → OnSome (ResultsAfter (Some o) os) (run (block w o os) u)
  unfolding before_line of_line run
  block_results line (seen.Wrote i c g p bytes) os u b h =
      pair_right c (next_op os) i (Some c) (asks.Write g p bytes) u (calm line (seen.Wrote i c g p bytes) os u refl b h)
  block_results line (seen.Patched i c g p at bytes) os u b h =
      pair_right c (next_op os) i (Some c) (asks.Patch g p at bytes) u (calm line (seen.Patched i c g p at bytes) os u refl b h)
  block_results line (seen.CutAt i g p) os u b h =
      one_step (AllRight None) (kinds.Joined i None (asks.Cut g p)) u
      (step_right None u (kinds.Joined i None (asks.Cut g p)) refl (calm line (seen.CutAt i g p) os u refl b h))
  block_results line (seen.Hardened i) os u b h =
      one_step (AllRight None) (kinds.Hardened i) u (step_right None u (kinds.Hardened i) refl (calm line (seen.Hardened i) os u refl b h))
  block_results line (seen.Dropped i cause) os u b h =
      one_step (AllRight None) (kinds.Dropped i (cause_of w cause)) u
      (step_right None u (kinds.Dropped i (cause_of w cause)) refl (calm line (seen.Dropped i cause) os u refl b h))
  block_results line (seen.Answered c op answer) os u b h =
      one_step (AllRight None) (kinds.Answered c op answer) u (answered_right line c op answer os u b h)
  block_results line (seen.Sent k m) os u b h = calm line (seen.Sent k m) os u refl b h
  block_results line (seen.Submitted k c number what) os u b h = calm line (seen.Submitted k c number what) os u refl b h
  block_results line (seen.Leased c s end) os u b h = calm line (seen.Leased c s end) os u refl b h
  block_results line (seen.Lost c s life) os u b h = calm line (seen.Lost c s life) os u refl b h
  block_results line (seen.Suspected s c start) os u b h = calm line (seen.Suspected s c start) os u refl b h
  block_results line (seen.Stolen s c life) os u b h = calm line (seen.Stolen s c life) os u refl b h

  block_trees : (o : Observation) (os : List Observation) (u : Volume) → HasTreesOf w u → OnSome (HasTreesOf w) (run (block w o os) u)
  block_trees o os u h =
      run_then (HasTreesOf w) (before_line o os) (of_line w o) u
      (on_more (λ z. OnSome (SameTrees u) (run (of_line w o) z)) (λ z. OnSome (HasTreesOf w) (run (of_line w o) z))
      (λ z k. on_more (SameTrees u) (HasTreesOf w) (λ y j. j ∙ h) (run (of_line w o) z) k) (run (before_line o os) u) (line_same w o os u))

  -- What holds of the volume at a line.
  record State (es : List LogEntry) (line : Option Observation) (os : List Observation) (u : Volume) : Type 0 where
    told : IsTold es u
    even : Told u
    right : AreOf as_ u
    open_ : Open w os u
    order : Ordered os u
    results : ResultsAfter line os u
    trees : HasTreesOf w u

  state_all : (es : List LogEntry) (line : Option Observation) (os : List Observation) (o : Option Volume) → OnSome (IsTold es) o → OnSome Told o →
      OnSome (AreOf as_) o → OnSome (Open w os) o → OnSome (Ordered os) o → OnSome (ResultsAfter line os) o → OnSome (HasTreesOf w) o →
      OnSome (State es line os) o
  state_all es line os None a b c d e g h = tt
  state_all es line os (Some u) a b c d e g h = record { told = a; even = b; right = c; open_ = d; order = e; results = g; trees = h }

  -- a write or a patch takes effect at its line
  module _ (es : List LogEntry) (os : List Observation) (u : Volume) (told : IsTold es u) (even : Told u) (right_ : AreOf as_ u) (open_ : Open w os u)
      (order : Ordered os u) (calm_ : AllRight None u) (trees_ : HasTreesOf w u) (c : ClientId) (g : FileId) (finds : FindsFile f c g)
      (left : (e : LogEntry) → Has e es → Has e f.log) (b : begins_written c os ≡ true) where
    there : is_some (find (is_ask c (next_op os)) u.pending) ≡ true
    there = open_there c (next_op os) u (next_open w c os (in_volume u c) b (open_ c))

    file_exists : exists u g ≡ true
    file_exists =
        let at : node_of w g.server ≡ Some finds.node = ap (λ ns. world.numbered ns g.server.0) (sym servers) ∙ finds.there in
        let has : Has finds.node w.servers = Words.Numbers.numbered_has w.servers g.server.0 finds.node at in
        ap (is_any (trees.is_file g.ino)) (tree_there w sound [] u trees_ g.server finds.node at)
        ∙ ((kind_is finds.node.state.stable.names (sound finds.node has) g.ino).file ∙ finds.file)

    is_clear_here : list_all (is_clear c g) u.log ≡ true
    is_clear_here =
        all_clear c g es u.log (first_all es u.log (sym even ∙ told.lines) told.first) (λ o i p q. finds.own o (left o i) p q)

    changes_at : (what : Ask) (p : PageNo) → place_of what ≡ Some (g, p) → world.numbered (as_ c) (next_op os) ≡ Some what →
        is_some (volume.step u (kinds.TakesEffect c (next_op os))) ≡ true
    changes_at what p e asked = go (find (is_ask c (next_op os)) u.pending) refl there
      where
        words : (a : Pending) → find (is_ask c (next_op os)) u.pending ≡ Some a → a.ask ≡ what
        words a q =
            let z = found_at (is_ask c (next_op os)) u.pending a q in
            let k = and_true (is_of_client c a) (a.op == next_op os) z.0 in
            let own : IsOf as_ a = all_has as_ u.pending a right_.pending z.1 in
            some_is
            (sym own ∙
            (ap (λ d. world.numbered (as_ d) a.op) (client_is a.client c k.0) ∙
            (ap (λ n. world.numbered (as_ c) n) (eqb-true a.op (next_op os) k.1) ∙ asked)))

        not_kept : (ask : Ask) → is_some (place_of ask) ≡ true → is_cut_or_name ask ≡ false
        not_kept (asks.Write h q bytes) k = refl
        not_kept (asks.Patch h q at bytes) k = refl
        not_kept (asks.Read h q) k = refl
        not_kept (asks.Sync h) k = refl
        not_kept (asks.Cut h q) k = cc k
        not_kept (asks.Name s ask) k = cc k

        no_result : (a : Pending) → find (is_ask c (next_op os)) u.pending ≡ Some a → is_some a.result ≡ false
        no_result a q =
            let z = each_passes (right None) u.pending calm_ a (found_at (is_ask c (next_op os)) u.pending a q).1 in
            let n = not_kept a.ask (ap (λ y. is_some (place_of y)) (words a q) ∙ ap is_some e) in
            not_true (is_some a.result) (sym (ap (λ y. (y || not (is_some a.result)) || false) n ∙ plain (not (is_some a.result))) ∙ z)
          where
            plain : (y : Bool) → (y || false) ≡ y
            plain true = refl
            plain false = refl

        go : (o : Option Pending) → find (is_ask c (next_op os)) u.pending ≡ o → is_some o ≡ true →
            is_some (volume.step u (kinds.TakesEffect c (next_op os))) ≡ true
        go None q k = cc k
        go (Some a) q k =
            effect_is_taken u c (next_op os) even what g p e a
            (record {
              found = q;
              asked = words a q;
              fresh = no_result a q;
              order = none_before u c (next_op os) a q (next_order w c os (in_volume u c) b (order c));
              free = and_both (exists u g) (list_all (is_clear c g) u.log) file_exists is_clear_here;
            })

  block_taken : (es : List LogEntry) (line : Option Observation) (o : Observation) (os : List Observation) (u : Volume) → AreLogged past x (Some o) os →
      is_followed o os ≡ true → is_fit line (o ∷ os) ≡ true → LineFinds f o → ((e : LogEntry) → Has e es → Has e f.log) → State es line (o ∷ os) u →
      AreTaken is_effect (block w o os) u
  unfolding before_line of_line AreTaken
  block_taken es line (seen.Wrote i c g p bytes) os u l b k n left s =
      one_taken c (next_op os) (kinds.Joined i (Some c) (asks.Write g p bytes)) u refl
      (changes_at es os u s.told s.even s.right (λ d. (s.open_ d).1) (λ d. (s.order d).1) (calm line (seen.Wrote i c g p bytes) os u refl k s.results) s.trees
      c g n left b (asks.Write g p bytes) p refl
      (followed_asked past x (seen.Wrote i c g p bytes) c (asks.Write g p bytes) (λ d asked z. wrote_is d asked i c g p bytes z) os b l))
  block_taken es line (seen.Patched i c g p at bytes) os u l b k n left s =
      one_taken c (next_op os) (kinds.Joined i (Some c) (asks.Patch g p at bytes)) u refl
      (changes_at es os u s.told s.even s.right (λ d. (s.open_ d).1) (λ d. (s.order d).1) (calm line (seen.Patched i c g p at bytes) os u refl k s.results)
      s.trees c g n left b (asks.Patch g p at bytes) p refl
      (followed_asked past x (seen.Patched i c g p at bytes) c (asks.Patch g p at bytes) (λ d asked z. patched_is d asked i c g p at bytes z) os b l))
  block_taken es line (seen.CutAt i g p) os u l b k n left s = none_taken (kinds.Joined i None (asks.Cut g p) ∷ []) u refl
  block_taken es line (seen.Hardened i) os u l b k n left s = none_taken (kinds.Hardened i ∷ []) u refl
  block_taken es line (seen.Dropped i cause) os u l b k n left s = none_taken (kinds.Dropped i (cause_of w cause) ∷ []) u refl
  block_taken es line (seen.Answered c op answer) os u l b k n left s = none_taken (kinds.Answered c op answer ∷ []) u refl
  block_taken es line (seen.Sent j m) os u l b k n left s = tt
  block_taken es line (seen.Submitted j c number what) os u l b k n left s = tt
  block_taken es line (seen.Leased c s2 end) os u l b k n left s = tt
  block_taken es line (seen.Lost c s2 life) os u l b k n left s = tt
  block_taken es line (seen.Suspected s2 c start) os u l b k n left s = tt
  block_taken es line (seen.Stolen s2 c life) os u l b k n left s = tt

  lines_taken : (es : List LogEntry) (line : Option Observation) (os : List Observation) (u : Volume) → AreLogged past x line os → all_followed os ≡ true →
      is_fit line os ≡ true → list_all is_unfated os ≡ true → lines.log_told f es os ≡ f.log → ((o : Observation) → Has o os → LineFinds f o) →
      State es line os u → AreTaken is_effect (of_lines w os) u
  unfolding of_lines AreTaken AreLogged all_followed lines.log_told
  lines_taken es line [] u l b k n t d s = tt
  lines_taken es line (o ∷ os) u l b k n t d s =
      let g = and_true (is_followed o os) (all_followed os) b in
      let m = and_true (is_unfated o) (list_all is_unfated os) n in
      subst (λ its. AreTaken is_effect its u) (append_assoc (before_line o os) (of_line w o) (of_lines w os))
      (taken_both is_effect (block w o os) (of_lines w os) u
      (block_taken es line o os u l.1 g.0 k (d o (inl refl))
      (λ e i. subst (Has e) t (all_stay f (lines.log_behind f es o) os e m.1 (stays f es o e m.0 i))) s)
      (on_more (State (lines.log_behind f es o) (Some o) os) (AreTaken is_effect (of_lines w os))
      (λ z j. lines_taken (lines.log_behind f es o) (Some o) os z l.1 g.1 g.0 m.1 t (λ y i. d y (inr i)) j) (run (block w o os) u)
      (state_all (lines.log_behind f es o) (Some o) os (run (block w o os) u)
      (run_then (IsTold (lines.log_behind f es o)) (before_line o os) (of_line w o) u (line_told w f es o os u s.told))
      (block_even o os u s.even) (run_right as_ (block w o os) u (block_other w o os) s.right) (block_open w o os u s.open_) (block_ordered o os u s.order)
      (block_results line o os u k s.results) (block_trees o os u s.trees))))

-- When a client takes an input, nothing is delivered to a server.
client_delivery : (bs : List Behind) (v : Volume) (t : World) (e : Event) (x : Taking) → taken (ev.counted t) e ≡ Some x → of_delivery bs v t e ≡ []
client_delivery bs v t (events.Deliver k) x q = go (message_of t k) q
  where
    to : (m : Message) (n : NodeId) → receiving (ev.counted t) m n ≡ Some x → to_node bs v t m n ≡ []
    to m (nodes.Client c) q = refl
    to m (nodes.Server s) q = cc q

    go : (o : Option SentMessage) → Rattle.st_laws_reads.specs.Copies.World.receiving_of (ev.counted t) o ≡ Some x → of_message bs v t o ≡ []
    go None q = cc
    go (Some m) q = to m.message (receiver_of m) q
client_delivery bs v t (events.Tick n) x q = refl
client_delivery bs v t (events.App c ask) x q = refl
client_delivery bs v t (events.Lose k) x q = refl
client_delivery bs v t (events.Cut from to) x q = refl
client_delivery bs v t (events.Heal from to) x q = refl
client_delivery bs v t (events.Advance increments) x q = refl
client_delivery bs v t (events.Effect k) x q = refl
client_delivery bs v t (events.Report k ok) x q = refl
client_delivery bs v t (events.Crash n) x q = refl
client_delivery bs v t (events.Start n) x q = refl

-- What is carried.
record EffectsHold (past : List Step) (t : Traced) (it : Witness) : Type 0 where
  asks : AsksHold past t it
  results : ResultsHold past t it
  log : LogHolds past t it
  trees : TreesHold past t it
  rising : (c : ClientId) → Rising (at_site (site_of t.world c))

abbrev Known : Promise
Known past x =
    TheReportTellsTheLog past x ×
    (AsksAreAnsweredOnce past x × (AnswersAreLogged past x × (ChangesFindTheirFiles past x × (FatesHold x.after.world × PlacesHold x.after.world))))

-- What is known of the volume before an event.
record Facts (past : List Step) (t : World) (v : Volume) : Type 0 where
  asks : HasAsksOf t v
  right_ : AreOf (asks_of past) v
  results : AllRight None v
  log_ : IsLogOf t.log v
  trees_ : HasTreesOf t v

facts_all : (past : List Step) (t : World) (o : Option Volume) → OnSome (HasAsksOf t) o → OnSome (AreOf (asks_of past)) o → OnSome (AllRight None) o →
    OnSome (IsLogOf t.log) o → OnSome (HasTreesOf t) o → OnSome (Facts past t) o
facts_all past t None a b c d e = tt
facts_all past t (Some v) a b c d e = record { asks = a; right_ = b; results = c; log_ = d; trees_ = e }

module _ (past : List Step) (t : Traced) (e : Event) (sc : WorldTurn) (it : Witness) (happens : world_step t.world e ≡ Ok sc) (g : Known past (step t e sc))
    (h : EffectsHold past t it) (v : Volume) (k : Facts past t.world v) where
  abbrev x : Step
  x = step t e sc

  abbrev w : World
  w = t.world

  abbrev first : List VolumeStep
  first = of_event w e

  is : sc ≡ ev.happens (ev.counted w) e
  is = (step_happens w e sc happens).1

  abbrev OrderedAt : Volume → Type 0
  OrderedAt u = (c : ClientId) → AllInOrder w c sc.seen (in_volume u c)

  first_ordered : OnSome OrderedAt (run first v)
  first_ordered =
      on_more (λ y. (c : ClientId) → in_volume y c ≡ told_all c first (in_volume v c)) OrderedAt
      (λ y j c. subst (AllInOrder w c sc.seen)
      (ap (told_all c first) (sym (k.asks c)) ∙ sym (j c)) (event_in_order w e sc happens h.rising c))
      (run first v) (of_each first v (run first v) (λ c. run_tells c first v))

  module _ (y : Taking) (q : taken (ev.counted w) e ≡ Some y) where
    its : Takes (ev.counted w) sc y
    its = subst (λ (z : WorldTurn). Takes (ev.counted w) z y) (sym is) (takes_event (ev.counted w) e y q)

    servers_same : sc.world.servers ≡ w.servers
    servers_same = ap (λ (z : WorldTurn). z.world.servers) its.is ∙ (took_servers y ∙ its.servers)

    unfated : list_all is_unfated sc.seen ≡ true
    unfated = ap (λ (z : WorldTurn). list_all is_unfated z.seen) its.is ∙ took_unfated y

    at_first : OnSome (AreTaken is_effect (of_lines w sc.seen)) (run first v)
    at_first =
        on_more (State past x w sc.world h.trees.sound servers_same w.log None sc.seen) (AreTaken is_effect (of_lines w sc.seen))
        (λ z s. lines_taken past x w sc.world h.trees.sound servers_same w.log None sc.seen z g.1.1.0
        (and_true (all_answered_once past x [] sc.seen) (all_followed sc.seen) g.1.0).1 refl unfated g.0.entries g.1.1.1.0 s)
        (run first v)
        (state_all past x w sc.world h.trees.sound servers_same w.log None sc.seen (run first v)
        (quiet_run w.log first v (event_quiet w e) (told_of w.log v k.log_))
        (kept_told first v (event_kept w e) k.log_.lines)
        (on_more (AreOf (asked_after (asks_of past) e)) (AreOf (asks_of (past ++ x ∷ [])))
        (λ z j. moved (asked_after (asks_of past) e) (asks_of (past ++ x ∷ [])) (λ c. asks_more past x c) z j) (run first v)
        (event_right (asks_of past) w e v k.right_))
        (first_open w e sc.seen v
        (λ c. subst (λ a. AllOpenFor w c sc.seen (told_all c first a)) (sym (k.asks c)) (open_left past t e sc it happens h.asks c)))
        first_ordered (run_kept None first v (event_kept w e) k.results)
        (on_more (SameTrees v) (HasTreesOf w) (λ u j. j ∙ k.trees_) (run first v) (all_same first v (event_is w e))))

    client_effects : OnSome (AreTaken is_effect (of_lines w sc.seen)) (run (steps_before it v x) v)
    client_effects =
        subst (λ ds. OnSome (AreTaken is_effect (of_lines w sc.seen)) (run (first ++ ds) v)) (sym (client_delivery it.behind v w e y q))
        (subst (λ its. OnSome (AreTaken is_effect (of_lines w sc.seen)) (run its v)) (sym (append-nil first)) at_first)

  other_effects : taken (ev.counted w) e ≡ None → OnSome (AreTaken is_effect (of_lines w sc.seen)) (run (steps_before it v x) v)
  other_effects q =
      on_all (AreTaken is_effect (of_lines w sc.seen))
      (λ u. unchanged_taken w sc.seen u
      (ap (λ (z : WorldTurn). list_all is_unchanged z.seen) is
      ∙ others (λ os. list_all is_unchanged os ≡ true) refl server_unchanged fates_unchanged (ev.counted w) e q))
      (run (steps_before it v x) v)

  event_effects : OnSome (AreTaken is_effect (of_lines w sc.seen)) (run (steps_before it v x) v)
  event_effects = go (taken (ev.counted w) e) refl
    where
      go : (o : Option Taking) → taken (ev.counted w) e ≡ o → OnSome (AreTaken is_effect (of_lines w sc.seen)) (run (steps_before it v x) v)
      go None q = other_effects q
      go (Some y) q = client_effects y q

-- In every run.
EffectsToo : List Step → Step → Witness → Type 0
EffectsToo past x it = OnSome (λ v. OnSome (AreTaken is_effect (of_lines x.before.world x.seen)) (run (steps_before it v x) v)) it.volume

effects_on : IsGiven Known EffectsHold EffectsToo
unfolding EffectsToo
effects_on past t e sc it f g h =
    let x : Step = step t e sc in
    let l : AsksLeft t.world e sc =
    event_leaves t.world e h.asks.rests h.asks.fates.lives.lives.sites (places_at t.world h.asks.places) h.asks.counted sc f in (
      on_more (Facts past t.world) (λ v. OnSome (AreTaken is_effect (of_lines t.world sc.seen)) (run (steps_before it v x) v))
          (λ v k. event_effects past t e sc it f g h v k) it.volume
          (facts_all past t.world it.volume h.asks.agree h.results.asks h.results.results h.log h.trees.agree),
      record {
        asks = asks_kept past t e sc it f g.1.1.1.1 h.asks;
        results = results_kept past t e sc it f g.1.0 h.results;
        log = log_kept past t e sc it f g.0 h.log;
        trees = trees_kept past t e sc it f tt h.trees;
        rising =
            λ c. subst Rising (l.told c) (all_rising c (flat_map (of_line t.world) sc.seen) _ (all_rising c (of_event t.world e) _ (h.rising c)));
      },
    )

pub rising_begins : (k : Config) (clients servers disks blocks form : ℕ) (c : ClientId) →
    Rising (at_site (site_of (fresh_world k clients servers disks blocks form) c))
rising_begins k clients servers disks blocks form c =
    subst Rising (sym (fresh_asks k clients servers disks blocks form c))
    (record { counted = record { below = λ j i. absurd i; apart = tt }; mounts = tt })

pub changes_take_effect : EveryRunIsSafe → InEveryRun ChangesTakeEffect
unfolding EffectsToo
changes_take_effect safe k clients servers disks blocks form es head events =
    let t : Traced = traced (fresh_world k clients servers disks blocks form) in
    let kept : IsSafeRun (fresh_world k clients servers disks blocks form) es = safe k clients servers disks blocks form es head events in
    given_in Known EffectsHold EffectsToo effects_on es t
    (record {
      asks = asks_begin k clients servers disks blocks form;
      results = results_begin k clients servers disks blocks form;
      log = log_begins k clients servers disks blocks form;
      trees = trees_begin k clients servers disks blocks form;
      rising = rising_begins k clients servers disks blocks form;
    })
    (throughout_both TheReportTellsTheLog
    (λ past x. AsksAreAnsweredOnce past x × (AnswersAreLogged past x × (ChangesFindTheirFiles past x × (FatesHold x.after.world × PlacesHold x.after.world))))
    []
    (steps es t) kept.told
    (throughout_both AsksAreAnsweredOnce
    (λ past x. AnswersAreLogged past x × (ChangesFindTheirFiles past x × (FatesHold x.after.world × PlacesHold x.after.world))) [] (steps es t) kept.once
    (throughout_both AnswersAreLogged (λ past x. ChangesFindTheirFiles past x × (FatesHold x.after.world × PlacesHold x.after.world)) [] (steps es t)
    kept.logged
    (throughout_both ChangesFindTheirFiles (λ past x. FatesHold x.after.world × PlacesHold x.after.world) [] (steps es t)
    (changes_find_their_files safe k clients servers disks blocks form es head events)
    (throughout_both (λ past x. FatesHold x.after.world) (λ past x. PlacesHold x.after.world) [] (steps es t)
    (fates_law k clients servers disks blocks form es) (places_law k clients servers disks blocks form es head))))))
