-- Short words for events and for what is observed of a world.
use Rattle.std.specs.Prelude.{ℕ, List, Option, ⊤}
use Rattle.st_base.specs.declared.config.Config.{Config}
use Rattle.st_base.specs.declared.disk.Command.TheVariants as commands
use Rattle.st_base.specs.declared.ids.NodeId.{NodeId}
use Rattle.st_base.specs.declared.ids.NodeId.TheVariants as nodes
use Rattle.st_messages.specs.declared.answer.AppAnswer.{AppAnswer}
use Rattle.st_messages.specs.declared.ask.Ask.{Ask}
use Rattle.st_messages.specs.declared.event.Event.{Event}
use Rattle.st_messages.specs.declared.event.Event.TheVariants as events
use Rattle.st_messages.specs.declared.message.Body.{Body}
use Rattle.st_rules.specs.declared.log.Cause.TheVariants as causes
use Rattle.st_rules.specs.declared.observation.Observation.{Observation}
use Rattle.st_rules.specs.declared.observation.Observation.TheVariants as seen
use Rattle.st_rules.specs.declared.observation.Summary.{Summary}
use Rattle.st_rules.specs.declared.observation.WorldRefusal.{WorldRefusal}
use Rattle.st_messages.specs.Sizes.{size_of}
use Rattle.st_rules.specs.Rules.{rules_open}
use Rattle.st_rules.specs.World.{World, fresh_world}
use Rattle.st_rules.specs.Events.{summary}
use Rattle.st_rules.specs.Run.{Run, run_open}
use Rattle.st_rules.specs.History.{history_open}
use Rattle.st_rules.specs.Safety.{safety_open}
use Rattle.st_rows.specs.Words.{c, life, page, stamp, at}
use Rattle.st_rows.specs.ClientWords.{on, server, tag_of}
use Rattle.st_rows.specs.Script.{settings}

-- a client and a server as nodes
abbrev pub client_node : ℕ → NodeId
client_node n = nodes.Client (c n)

abbrev pub server_node : ℕ → NodeId
server_node n = nodes.Server (server n)

-- an ask of a client
abbrev pub ask : ℕ → Ask → Event
ask n a = events.App (c n) a

-- a message is sent: its number, from, to, life, epoch, number and stamp
abbrev pub sent : ℕ → ℕ → ℕ → ℕ → ℕ → ℕ → ℕ → Body → Observation
sent k s r l e number moment body =
    seen.Sent k (record { header = record { from = s; to = r; life = l; epoch = e; number = number; stamp = moment }; body = body })

-- a read of a block is submitted, and a write of one: number, client, its own number, disk, block, and the tag's server, inode,
-- page and birth
abbrev pub read_out : ℕ → ℕ → ℕ → ℕ → ℕ → Observation
read_out k n number disk block = seen.Submitted k (c n) number (commands.Read (at disk block))

abbrev pub write_out : ℕ → ℕ → ℕ → ℕ → ℕ → ℕ → ℕ → ℕ → ℕ → List ℕ → Observation
write_out k n number disk block s ino p birth bytes = seen.Submitted k (c n) number (commands.Write (at disk block) (tag_of s ino p birth) bytes)

-- a client answers
abbrev pub answered : ℕ → ℕ → AppAnswer → Observation
answered n op a = seen.Answered (c n) op a

-- entries of the log: index, client, server, inode and page
abbrev pub wrote : ℕ → ℕ → ℕ → ℕ → ℕ → List ℕ → Observation
wrote index n s ino p bytes = seen.Wrote index (c n) (on s ino) (page p) bytes

abbrev pub patched : ℕ → ℕ → ℕ → ℕ → ℕ → ℕ → List ℕ → Observation
patched index n s ino p place bytes = seen.Patched index (c n) (on s ino) (page p) place bytes

abbrev pub cut : ℕ → ℕ → ℕ → ℕ → Observation
cut index s ino p = seen.CutAt index (on s ino) (page p)

abbrev pub dropped : ℕ → Observation
dropped index = seen.Dropped index causes.Crash

abbrev pub failed : ℕ → ℕ → Observation
failed index k = seen.Dropped index (causes.Failed k)

-- notes
abbrev pub leased : ℕ → ℕ → ℕ → Observation
leased n s end = seen.Leased (c n) (server s) (stamp end)

abbrev pub lost : ℕ → ℕ → ℕ → Observation
lost n s l = seen.Lost (c n) (server s) (life l)

abbrev pub suspected : ℕ → ℕ → ℕ → Observation
suspected s n start = seen.Suspected (server s) (c n) (stamp start)

abbrev pub stolen : ℕ → ℕ → ℕ → Observation
stolen s n l = seen.Stolen (server s) (c n) (life l)

-- a world of the rows under the first form, and under the second with a grain: clients, servers, disks and blocks
unfoldable pub world_of : ℕ → ℕ → ℕ → ℕ → World
world_of clients servers disks blocks = fresh_world settings clients servers disks blocks 1

abbrev pub grainy : ℕ → Config
grainy grain = record settings { grain = grain }

unfoldable pub grainy_world : ℕ → ℕ → ℕ → ℕ → ℕ → World
grainy_world grain clients servers disks blocks = fresh_world (grainy grain) clients servers disks blocks 2

-- what is reported about a run: what was observed at each event, what was counted, and the refusal that ended it
pub record Told : Type 0 where
  pub seen : List (List Observation)
  pub counts : Summary
  pub refused : Option WorldRefusal

abbrev pub told : Run → Told
told r = record { seen = r.seen; counts = summary r.world; refused = r.refused }

-- events, messages, commands, writes, reads, hard and gone writes, and thefts
abbrev pub counts : ℕ → ℕ → ℕ → ℕ → ℕ → ℕ → ℕ → ℕ → Summary
counts events sent commands writes reads hard gone stolen =
    record { events = events; sent = sent; commands = commands; writes = writes; reads = reads; hard = hard; gone = gone; stolen = stolen }

abbrev pub tells : List (List Observation) → Summary → Option WorldRefusal → Told
tells seen counts refused = record { seen = seen; counts = counts; refused = refused }

unfoldable pub world_words_open : ⊤
unfolding rules_open run_open history_open safety_open size_of world_of grainy_world
world_words_open = tt
