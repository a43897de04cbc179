-- The kinds of messages: of which kind a body is, who sends and takes it, and what its header's numbers may be.
use Rattle.std.specs.Prelude.{ℕ, Bool, ◌==◌, ◌&&◌, ◌||◌, ◌^◌, nat_le, nat_lt}
use Rattle.st_messages.specs.declared.ask.Ask.{Ask}
use Rattle.st_messages.specs.declared.ask.Ask.TheVariants as asks
use Rattle.st_messages.specs.declared.kind.Kind.{Kind}
use Rattle.st_messages.specs.declared.kind.Kind.TheVariants as kinds
use Rattle.st_messages.specs.declared.kind.Need.{Need}
use Rattle.st_messages.specs.declared.kind.Need.TheVariants.{Zero, Positive, Any}
use Rattle.st_messages.specs.declared.kind.Party.{Party}
use Rattle.st_messages.specs.declared.kind.Party.TheVariants.{Client, Server, Node, Surroundings}
use Rattle.st_messages.specs.declared.message.Body.{Body}
use Rattle.st_messages.specs.declared.message.Body.TheVariants as bodies

abbrev pub between : ℕ → ℕ → ℕ → Bool
between least most n = nat_le least n && nat_le n most

-- what a word of eight bytes can hold
abbrev pub is_word64 : ℕ → Bool
is_word64 n = nat_lt n (2 ^ 64)

-- a client is the node of its own number, a server is 32,768 and its number, and 0 is a node's own surroundings
abbrev pub includes : Party → ℕ → Bool
includes Client n = between 1 16 n
includes Server n = between 32769 32772 n
includes Node n = between 1 16 n || between 32769 32772 n
includes Surroundings n = n == 0

abbrev pub allows : Need → ℕ → Bool
allows Zero n = n == 0
allows Positive n = nat_le 1 n && is_word64 n
allows Any n = is_word64 n

-- the kind of a body: an ask of version 2 is a kind of its own
abbrev pub kind_of_ask : Ask → Kind
kind_of_ask (asks.Patch f page at bytes) = kinds.Patch
kind_of_ask a = kinds.App

abbrev pub kind_of_body : Body → Kind
kind_of_body bodies.Hello = kinds.Hello
kind_of_body bodies.KeepAlive = kinds.KeepAlive
kind_of_body (bodies.Acquire ino m) = kinds.Acquire
kind_of_body (bodies.Released ino g to) = kinds.Released
kind_of_body (bodies.Map ino g page) = kinds.Map
kind_of_body (bodies.Allocate ino g page count) = kinds.Allocate
kind_of_body (bodies.Cut ino g from) = kinds.Cut
kind_of_body (bodies.Name op) = kinds.Name
kind_of_body (bodies.Reassert rs) = kinds.Reassert
kind_of_body (bodies.DemandSeen ino g) = kinds.DemandSeen
kind_of_body bodies.Welcome = kinds.Welcome
kind_of_body bodies.Ack = kinds.Ack
kind_of_body (bodies.Nack why a b) = kinds.Nack
kind_of_body (bodies.Granted ino g m) = kinds.Granted
kind_of_body (bodies.Queued ino m) = kinds.Queued
kind_of_body (bodies.Demand ino g to) = kinds.Demand
kind_of_body (bodies.Extents ino rs) = kinds.Extents
kind_of_body (bodies.Named reply) = kinds.Named
kind_of_body bodies.Reasserted = kinds.Reasserted
kind_of_body bodies.Tick = kinds.Tick
kind_of_body (bodies.App op a) = kind_of_ask a
kind_of_body (bodies.AppDone op a) = kinds.AppDone
kind_of_body (bodies.Submit number at what) = kinds.Submit
kind_of_body (bodies.Done number result) = kinds.Done

abbrev pub sender : Kind → Party
sender kinds.Tick = Surroundings
sender kinds.App = Surroundings
sender kinds.Patch = Surroundings
sender kinds.Done = Surroundings
sender kinds.Welcome = Server
sender kinds.Ack = Server
sender kinds.Nack = Server
sender kinds.Granted = Server
sender kinds.Queued = Server
sender kinds.Demand = Server
sender kinds.Extents = Server
sender kinds.Named = Server
sender kinds.Reasserted = Server
sender k = Client

abbrev pub receiver : Kind → Party
receiver kinds.AppDone = Surroundings
receiver kinds.Submit = Surroundings
receiver kinds.Tick = Node
receiver kinds.App = Client
receiver kinds.Patch = Client
receiver kinds.Done = Client
receiver kinds.Welcome = Client
receiver kinds.Ack = Client
receiver kinds.Nack = Client
receiver kinds.Granted = Client
receiver kinds.Queued = Client
receiver kinds.Demand = Client
receiver kinds.Extents = Client
receiver kinds.Named = Client
receiver kinds.Reasserted = Client
receiver k = Server

-- local messages have no life, epoch, number and stamp
abbrev pub life_of : Kind → Need
life_of kinds.Tick = Zero
life_of kinds.App = Zero
life_of kinds.Patch = Zero
life_of kinds.AppDone = Zero
life_of kinds.Submit = Zero
life_of kinds.Done = Zero
life_of k = Positive

abbrev pub epoch_of : Kind → Need
epoch_of kinds.Hello = Zero
epoch_of kinds.Tick = Zero
epoch_of kinds.App = Zero
epoch_of kinds.Patch = Zero
epoch_of kinds.AppDone = Zero
epoch_of kinds.Submit = Zero
epoch_of kinds.Done = Zero
epoch_of k = Positive

abbrev pub request_of : Kind → Need
request_of kinds.Hello = Zero
request_of kinds.DemandSeen = Zero
request_of kinds.Welcome = Zero
request_of kinds.Demand = Zero
request_of kinds.Tick = Zero
request_of kinds.App = Zero
request_of kinds.Patch = Zero
request_of kinds.AppDone = Zero
request_of kinds.Submit = Zero
request_of kinds.Done = Zero
request_of kinds.Nack = Any
request_of kinds.Granted = Any
request_of k = Positive

abbrev pub stamp_of : Kind → Need
stamp_of kinds.DemandSeen = Zero
stamp_of kinds.Demand = Zero
stamp_of kinds.Tick = Zero
stamp_of kinds.App = Zero
stamp_of kinds.Patch = Zero
stamp_of kinds.AppDone = Zero
stamp_of kinds.Submit = Zero
stamp_of kinds.Done = Zero
stamp_of k = Any
