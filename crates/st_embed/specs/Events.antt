-- What a step tells the program around its node beside frames, as plain structs.
use Rattle.std.specs.Prelude.{ℕ, List, filter_map, Option, Some, None}
use Rattle.st_base.specs.Mode.{number_of}
use Rattle.st_messages.specs.declared.message.Body.{Body}
use Rattle.st_messages.specs.declared.message.Body.TheVariants as bodies
use Rattle.st_messages.specs.declared.message.Header.{Header}
use Rattle.st_messages.specs.declared.output.Note.{Note}
use Rattle.st_messages.specs.declared.output.Note.TheVariants as notes
use Rattle.st_messages.specs.declared.output.Output.{Output}
use Rattle.st_messages.specs.declared.output.Output.TheVariants as outputs
use Rattle.st_embed.specs.declared.events.TankEvent.{TankEvent}

-- an event of this number, of which nothing else is told
abbrev pub plain : ℕ → TankEvent
plain n = record { life = 0; moment = 0; grant = 0; event = n; ino = 0; page = 0; mode = 0; client = 0; server = 0 }

-- A server's notes: its client is suspected from this moment on, or its session's locks were stolen; or a file was cut. A client's notes: a lease was begun or
-- renewed, or lost with a life; or a page was written or patched.
abbrev pub event_of_note : Note → Option TankEvent
event_of_note (notes.Suspected client start) = Some (record (plain 1) { client = client.0; moment = start.0 })
event_of_note (notes.Stolen client life) = Some (record (plain 2) { client = client.0; life = life.0 })
event_of_note (notes.CutDone file from) = Some (record (plain 3) { server = file.server.0; ino = file.ino; page = from.0 })
event_of_note (notes.Leased server end) = Some (record (plain 6) { server = server.0; moment = end.0 })
event_of_note (notes.Lost server life) = Some (record (plain 7) { server = server.0; life = life.0 })
event_of_note (notes.Accepted file page bytes) = Some (record (plain 8) { server = file.server.0; ino = file.ino; page = page.0 })
event_of_note (notes.Patched file page at bytes) = Some (record (plain 8) { server = file.server.0; ino = file.ino; page = page.0 })

-- What a server sends: a grant of a lock, or the answer to a greeting.
abbrev pub event_of_body : Header → Body → Option TankEvent
event_of_body h (bodies.Granted ino g mode) = Some (record (plain 4) { client = h.to; ino = ino; grant = g.0; mode = number_of mode })
event_of_body h bodies.Welcome = Some (record (plain 5) { client = h.to; life = h.life })
event_of_body h b = None

-- the event of an output, if it is one
abbrev pub event_of : Output → Option TankEvent
event_of (outputs.Note note) = event_of_note note
event_of (outputs.Send m) = event_of_body m.header m.body
event_of o = None

-- the events of a step's outputs, in order
abbrev pub events_in : List Output → List TankEvent
events_in out = filter_map event_of out
