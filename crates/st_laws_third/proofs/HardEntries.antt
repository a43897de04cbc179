-- In every run of the third form, an entry that is hard stays hard.
use Rattle.st_lemmas.proofs.Words
use Words.{List, [], ◌∷◌, Option, Some, None, sym, subst}
use Words.{Carried, ClientId, IssuedCommand, LeaseLife, LogEntry, Output, ServerId}
use Words.causes
use Words.notes
use Words.outputs
use Words.ClientState.{ClientState}
use Words.Events as ev
use Words.Events.{WorldTurn, quiet}
use Words.FlatLog as log
use Words.Safety.{HardStaysHard}
use Words.Server.{ServerNode}
use Words.World.{WorldClient, all_servers, issued_of, site_of}
use Words.Worlds.{flushes_log}
use Rattle.st_lemmas.proofs.Marks.{Kept_hard, hard_drop, hard_harden, hard_more, hard_same, hard_then}
use Rattle.st_third.specs.declared.output.ThirdOutput.{ThirdOutput}
use Rattle.st_third.specs.declared.output.ThirdOutput.TheVariants as says
use Rattle.st_third.specs.Events as every
use Rattle.st_third.specs.Events.{ThirdWorldTurn, unseen}
use Rattle.st_third.specs.State.{ThirdClientTurn}
use Rattle.st_third.specs.Steps as steps
use Rattle.st_third.specs.World.{ThirdWorld, third_world}
use Rattle.st_laws_third.specs.FirstPromises.{EveryHardEntryStays, Plainly}
use Rattle.st_laws_third.proofs.EventWalk.{Client_step, EventLaw, Server_step, walk_of_event}
use Rattle.st_laws_third.proofs.Sound.{kept_throughout, sound_first}

-- the log of a world of the third form
abbrev pub log_of : ThirdWorldTurn → List LogEntry
log_of sc = sc.third.world.log

-- A client's words.

word_hard : (sc : ThirdWorldTurn) (c : ClientId) (before : ClientState) (o : ThirdOutput) → Kept_hard (log_of sc) (log_of (every.client_says sc c before o))
unfolding every.client_says ev.client_says ev.sends ev.submits ev.answers_with ev.client_notes ev.accepts ev.patches ev.loses log.accept log.patch
word_hard sc c before (says.Plain (outputs.Send m)) = hard_same (log_of sc)
word_hard sc c before (says.Plain (outputs.Submit number at what)) = go (site_of sc.third.world c)
  where
    go : (site : Option WorldClient) → Kept_hard (log_of sc) (ev.submits (quiet sc.third.world) c site number at what).world.log
    go None = hard_same (log_of sc)
    go (Some site) = hard_same (log_of sc)
word_hard sc c before (says.Plain (outputs.Answer op answer)) = hard_same (log_of sc)
word_hard sc c before (says.Plain (outputs.Note (notes.Accepted f p bytes))) = hard_more (log_of sc) _
word_hard sc c before (says.Plain (outputs.Note (notes.Patched f p at bytes))) = hard_more (log_of sc) _
word_hard sc c before (says.Plain (outputs.Note (notes.Leased s end))) = hard_same (log_of sc)
word_hard sc c before (says.Plain (outputs.Note (notes.Lost s life))) = hard_same (log_of sc)
word_hard sc c before (says.Plain (outputs.Note (notes.Suspected d start))) = hard_same (log_of sc)
word_hard sc c before (says.Plain (outputs.Note (notes.Stolen d life))) = hard_same (log_of sc)
word_hard sc c before (says.Plain (outputs.Note (notes.CutDone f p))) = hard_same (log_of sc)
word_hard sc c before (says.Left op) = hard_same (log_of sc)
word_hard sc c before (says.Unsynced op ino) = hard_same (log_of sc)
word_hard sc c before (says.Ended s life end) = hard_same (log_of sc)

words_hard : (c : ClientId) (before : ClientState) (os : List ThirdOutput) (sc : ThirdWorldTurn) →
    Kept_hard (log_of sc) (log_of (every.client_says_all c before os sc))
unfolding every.client_says_all
words_hard c before [] sc = hard_same (log_of sc)
words_hard c before (o ∷ os) sc =
    hard_then (log_of sc) (log_of (every.client_says sc c before o)) _ (word_hard sc c before o) (words_hard c before os (every.client_says sc c before o))

took_hard : (w : ThirdWorld) (c : ClientId) (site : WorldClient) (t : ThirdClientTurn) → Kept_hard w.world.log (log_of (every.client_took w c site t))
unfolding every.client_took
took_hard w c site t =
    let sc : ThirdWorldTurn = every.client_says_all c site.node.state t.out (unseen (every.with_client c site t.client w)) in
    subst (Kept_hard w.world.log) (sym (flushes_log c t.client.plain (all_servers sc.third.world) sc.third.world))
    (words_hard c site.node.state t.out (unseen (every.with_client c site t.client w)))

-- A server's words.

server_word_hard : (s : ServerId) (o : Output) (sc : WorldTurn) → Kept_hard sc.world.log (ev.server_says sc s o).world.log
unfolding ev.server_says ev.server_notes ev.cuts ev.sends log.cut
server_word_hard s (outputs.Note (notes.CutDone f p)) sc = hard_more sc.world.log _
server_word_hard s (outputs.Note (notes.Suspected c start)) sc = hard_same sc.world.log
server_word_hard s (outputs.Note (notes.Stolen c life)) sc = hard_same sc.world.log
server_word_hard s (outputs.Note (notes.Leased t end)) sc = hard_same sc.world.log
server_word_hard s (outputs.Note (notes.Lost t life)) sc = hard_same sc.world.log
server_word_hard s (outputs.Note (notes.Accepted f p bytes)) sc = hard_same sc.world.log
server_word_hard s (outputs.Note (notes.Patched f p at bytes)) sc = hard_same sc.world.log
server_word_hard s (outputs.Send m) sc = hard_same sc.world.log
server_word_hard s (outputs.Submit number at what) sc = hard_same sc.world.log
server_word_hard s (outputs.Answer op answer) sc = hard_same sc.world.log

server_words_hard : (s : ServerId) (os : List Output) (sc : WorldTurn) → Kept_hard sc.world.log (ev.server_says_all s os sc).world.log
unfolding ev.server_says_all
server_words_hard s [] sc = hard_same sc.world.log
server_words_hard s (o ∷ os) sc =
    hard_then sc.world.log (ev.server_says sc s o).world.log _ (server_word_hard s o sc) (server_words_hard s os (ev.server_says sc s o))

-- Fates

carried_hard : (es : List LogEntry) (x : Option Carried) → Kept_hard es (ev.log_hard es x)
unfolding log.harden log.harden_at
carried_hard es None = hard_same es
carried_hard es (Some x) = go (log.entry_at es x.index)
  where
    go : (o : Option LogEntry) → Kept_hard es (log.harden_at es x.index o)
    go None = hard_same es
    go (Some e) = hard_harden 1 x.index e.of es

ended_hard : (cs : List IssuedCommand) (ls : List LeaseLife) (es : List LogEntry) → Kept_hard es (ev.log_ended_all cs ls es)
unfolding ev.log_ended_all ev.log_ended log.drop_picked
ended_hard cs [] es = hard_same es
ended_hard cs (l ∷ ls) es =
    hard_then es (ev.log_ended cs l es) _ (hard_drop 1 (ev.is_of_life_over l) (ev.cause_at_end cs l) es) (ended_hard cs ls (ev.log_ended cs l es))

-- Events

abbrev KeepsHard : ThirdWorld → ThirdWorldTurn → Type 0
KeepsHard w sc = Kept_hard w.world.log (log_of sc)

-- a node that begins anew leaves the log
client_begins_hard : (w : ThirdWorld) (c : ClientId) (site : Option WorldClient) (sc : ThirdWorldTurn) → KeepsHard w sc → KeepsHard w (every.client_begins sc c site)
unfolding every.client_begins
client_begins_hard w c None sc h = h
client_begins_hard w c (Some site) sc h = h

server_begins_hard : (w : ThirdWorld) (s : ServerId) (node : Option ServerNode) (sc : ThirdWorldTurn) → KeepsHard w sc → KeepsHard w (every.server_begins sc s node)
unfolding every.server_begins
server_begins_hard w s None sc h = h
server_begins_hard w s (Some node) sc h = h

hard_law : EventLaw KeepsHard
unfolding ev.server_took ev.advances ev.effects ev.marks ev.crashes_client ev.crashes_server ev.starts_client ev.starts_server ev.log_crashed log.drop_picked
hard_law =
    record {
      still = λ w. hard_same w.world.log;
      takes = λ w c old site b input there e q. took_hard w c site (Client_step w c site b input);
      serves = λ w s node input there. server_words_hard s (Server_step w s node input).out (quiet (ev.with_node s (Server_step w s node input).node w.world));
      loses = λ w k m e. hard_same w.world.log;
      cuts = λ w from to. hard_same w.world.log;
      heals = λ w from to. hard_same w.world.log;
      advances = λ w steps. ended_hard w.world.commands (ev.lives_reached w.world steps) w.world.log;
      effects = λ w k. carried_hard w.world.log (ev.carried_by (issued_of w.world k));
      reports = λ w k ok sc h. h;
      client_crashes = λ w c site there. client_begins_hard w c _ _ (hard_drop 1 (ev.is_of_crashed w.world c) (log.always causes.Crash) w.world.log);
      server_crashes = λ w s node there. server_begins_hard w s _ _ (hard_same w.world.log);
      client_starts = λ w c site there. client_begins_hard w c _ _ (hard_same w.world.log);
      server_starts = λ w s node there. server_begins_hard w s _ _ (hard_same w.world.log);
    }

pub every_hard_entry_stays : EveryHardEntryStays
every_hard_entry_stays k m clients servers disks blocks es =
    kept_throughout (Plainly HardStaysHard) (λ past t e so q move. walk_of_event KeepsHard hard_law (every.third_counted t.third) e so.form) es []
    (steps.third_traced (third_world k m clients servers disks blocks 3)) (sound_first k m clients servers disks blocks)
