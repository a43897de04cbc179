-- Containers at one server: what it has of each, and its calls. docs/PROTOCOL.md, "A container moves by order".
use Rattle.std.specs.Prelude.{ℕ, zero, suc, ◌+◌, ◌%◌, Bool, true, false, ◌&&◌, not, ◌==◌, nat_lt, if◌then◌else◌, List, [], ◌∷◌, ◌++◌, Option, Some, None, Result, Ok, Err, ⊤}
use Rattle.std.specs.List.{list_any}
use Rattle.st_base.specs.declared.ids.ServerId.{ServerId}
use Rattle.st_rules.specs.Keys.{same_server}
use Rattle.st_rules.specs.Locks.{Locks, is_row_on}
use Rattle.st_rules.specs.World.{numbered, with_numbered}
use Rattle.st_move.specs.declared.record.ContainerState.{ContainerState}
use Rattle.st_move.specs.declared.record.ContainerState.TheVariants.{Holding, Leaving, Sent, Gone}
use Rattle.st_move.specs.declared.record.ContainerRecord.{ContainerRecord}
use Rattle.st_move.specs.declared.record.MoveMessage.{MoveMessage}
use Rattle.st_move.specs.declared.record.MoveMessage.TheVariants.{Image, Taken}
use Rattle.st_move.specs.declared.refusal.MoveRefusal.{MoveRefusal}
use Rattle.st_move.specs.declared.refusal.MoveRefusal.TheVariants as refusals
use Rattle.st_move.specs.Updates.{added}

-- The containers of a server: of each container, from 1, the record that the server has of it, if it has one.
pub record Containers : Type 0 where
  pub server : ServerId
  pub records : List (Option ContainerRecord)

-- the containers with another list of records
abbrev pub with_records : Containers → List (Option ContainerRecord) → Containers
with_records m rs = record { server = m.server; records = rs }

-- a record with this version, state and updates
abbrev pub recorded : ℕ → ContainerState → List (List ℕ) → ContainerRecord
recorded version state updates = record { version = version; state = state; updates = updates }

-- The beginning: container c is held in version 1 by server 1 + (c - 1) mod servers, and has no updates.
abbrev pub begins_at : ServerId → ℕ → ℕ → Bool
begins_at server servers place = (place % servers + 1) == server.0

-- the record with which a container begins
unfoldable pub beginning : ServerId → ℕ → ℕ → Option ContainerRecord
beginning server servers place = if begins_at server servers place then Some (recorded 1 Holding []) else None

-- this many containers from this place on, as they begin
unfoldable pub beginnings : ServerId → ℕ → ℕ → ℕ → List (Option ContainerRecord)
beginnings server servers place zero = []
beginnings server servers place (suc n) = beginning server servers place ∷ beginnings server servers (place + 1) n

-- the containers of a server as they begin
abbrev pub fresh_containers : ServerId → ℕ → ℕ → Containers
fresh_containers server servers containers = record { server = server; records = beginnings server servers 0 containers }

-- Look-ups. The refusals of a call on a container, in their order: there is no such container; the server never had it; it
-- is leaving; it was sent.
unfoldable pub found_at : ℕ → Option (Option ContainerRecord) → Result ContainerRecord MoveRefusal
found_at c None = Err (refusals.NoContainer c)
found_at c (Some None) = Err refusals.Absent
found_at c (Some (Some r)) = Ok r

-- the server's record of a container
unfoldable pub found : List (Option ContainerRecord) → ℕ → Result ContainerRecord MoveRefusal
found rs c = found_at c (numbered rs c)

-- a record, unless the container was sent
unfoldable pub unless_sent : ContainerRecord → ContainerState → Result ContainerRecord MoveRefusal
unless_sent r (Sent to) = Err (refusals.Redirect to r.version)
unless_sent r (Gone to) = Err (refusals.Redirect to r.version)
unless_sent r s = Ok r

-- a record, unless the container leaves or was sent
unfoldable pub unless_leaving : ContainerRecord → ContainerState → Result ContainerRecord MoveRefusal
unless_leaving r (Leaving to) = Err (refusals.Leaving to)
unless_leaving r s = unless_sent r s

-- the record of a container whose updates may be listed
unfoldable pub readable : Result ContainerRecord MoveRefusal → Result ContainerRecord MoveRefusal
readable (Ok r) = unless_sent r r.state
readable (Err e) = Err e

-- the record of a container that may be changed
unfoldable pub changeable : Result ContainerRecord MoveRefusal → Result ContainerRecord MoveRefusal
changeable (Ok r) = unless_leaving r r.state
changeable (Err e) = Err e

-- the record of a held container, or why a put or an order on it is refused
abbrev pub held : Containers → ℕ → Result ContainerRecord MoveRefusal
held m c = changeable (found m.records c)

-- Whether the server serves a container: exactly if it holds it and is not about to send it.
abbrev pub is_holding : ContainerState → Bool
is_holding Holding = true
is_holding s = false

-- the record of a container that is served
abbrev pub serves_by : Result ContainerRecord MoveRefusal → Bool
serves_by (Ok r) = is_holding r.state
serves_by (Err e) = false

-- the server serves the container
abbrev pub serves : Containers → ℕ → Bool
serves m c = serves_by (found m.records c)

-- List: the updates, also while the container leaves.
unfoldable pub updates_of : Result ContainerRecord MoveRefusal → Result (List (List ℕ)) MoveRefusal
updates_of (Ok r) = Ok r.updates
updates_of (Err e) = Err e

-- the updates of a container
abbrev pub listed : Containers → ℕ → Result (List (List ℕ)) MoveRefusal
listed m c = updates_of (readable (found m.records c))

-- Put: one more update of a held container.
abbrev pub with_record : ℕ → ContainerRecord → List (Option ContainerRecord) → List (Option ContainerRecord)
with_record c r rs = with_numbered c (Some r) rs

-- a record with these updates
abbrev pub with_updates : ContainerRecord → List (List ℕ) → ContainerRecord
with_updates r us = record { version = r.version; state = r.state; updates = us }

-- the record with one more update
unfoldable pub updated_with : ContainerRecord → Result (List (List ℕ)) MoveRefusal → Result ContainerRecord MoveRefusal
updated_with r (Ok us) = Ok (with_updates r us)
updated_with r (Err e) = Err e

-- the record with one more update, if it may be changed
unfoldable pub updated : List ℕ → Result ContainerRecord MoveRefusal → Result ContainerRecord MoveRefusal
updated u (Ok r) = updated_with r (added r.updates u)
updated u (Err e) = Err e

-- the containers with a changed record
unfoldable pub changed : Containers → ℕ → Result ContainerRecord MoveRefusal → Result Containers MoveRefusal
changed m c (Ok r) = Ok (with_records m (with_record c r m.records))
changed m c (Err e) = Err e

-- the containers after a put
abbrev pub after_put : Containers → ℕ → List ℕ → Result Containers MoveRefusal
after_put m c u = changed m c (updated u (held m c))

-- Order: a held container must leave for another server.
abbrev pub with_state : ContainerRecord → ContainerState → ContainerRecord
with_state r s = record { version = r.version; state = s; updates = r.updates }

-- the record that leaves, unless it should stay where it is
unfoldable pub ordered : ServerId → ServerId → Result ContainerRecord MoveRefusal → Result ContainerRecord MoveRefusal
ordered server to (Ok r) = if same_server to server then Err refusals.Same else Ok (with_state r (Leaving to))
ordered server to (Err e) = Err e

-- the containers after an order
abbrev pub after_order : Containers → ℕ → ServerId → Result Containers MoveRefusal
after_order m c to = changed m c (ordered m.server to (held m c))

-- Tick: a container that leaves, and of which nobody has a lock row, is sent in the next version; each container that was
-- sent and is not known to be taken sends its image, by rising container.
abbrev pub is_locked : Locks → ℕ → Bool
is_locked l c = list_any (is_row_on c) l.rows

-- it is about to move
abbrev pub is_leaving : ContainerState → Bool
is_leaving (Leaving to) = true
is_leaving s = false

-- a record that leaves now: of a container that is not locked
abbrev pub leaves : Locks → ℕ → Option ContainerRecord → Bool
leaves l c None = false
leaves l c (Some r) = is_leaving r.state && not (is_locked l c)

-- the record of a container that was sent, in the next version
unfoldable pub sent_on : ContainerRecord → ContainerState → ContainerRecord
sent_on r (Leaving to) = recorded (r.version + 1) (Sent to) r.updates
sent_on r s = r

-- a record that is sent on, or stays as it is
unfoldable pub sent_if : Bool → Option ContainerRecord → Option ContainerRecord
sent_if goes None = None
sent_if goes (Some r) = Some (if goes then sent_on r r.state else r)

-- the records from this place on, after a tick
unfoldable pub sent_from : Locks → ℕ → List (Option ContainerRecord) → List (Option ContainerRecord)
sent_from l place [] = []
sent_from l place (r ∷ rs) = sent_if (leaves l (place + 1) r) r ∷ sent_from l (place + 1) rs

-- the image of a container that was sent
unfoldable pub image_by : ℕ → ContainerRecord → ContainerState → List (ServerId × MoveMessage)
image_by c r (Sent to) = (to, Image c r.version r.updates) ∷ []
image_by c r s = []

-- the image that a record sends, if it sends one
unfoldable pub image_of : ℕ → Option ContainerRecord → List (ServerId × MoveMessage)
image_of c None = []
image_of c (Some r) = image_by c r r.state

-- the images from this place on
unfoldable pub images_from : ℕ → List (Option ContainerRecord) → List (ServerId × MoveMessage)
images_from place [] = []
images_from place (r ∷ rs) = image_of (place + 1) r ++ images_from (place + 1) rs

-- the containers after a tick
abbrev pub after_tick : Containers → Locks → Containers
after_tick m l = with_records m (sent_from l 0 m.records)

-- what a server sends on a tick: of its containers after the tick
abbrev pub images : Containers → List (ServerId × MoveMessage)
images m = images_from 0 m.records

-- Take: an image above the record's version, or without a record, is held from now on; every image is answered with its own
-- version. An answer of the version that was sent ends what is kept of the container; every other answer is ignored.
abbrev pub is_below : ℕ → Option ContainerRecord → Bool
is_below version None = true
is_below version (Some r) = nat_lt r.version version

-- the record after an image
unfoldable pub with_image : ℕ → List (List ℕ) → Option ContainerRecord → Option ContainerRecord
with_image version updates r = if is_below version r then Some (recorded version Holding updates) else r

-- the record after the answer to what it sent
unfoldable pub gone_by : ContainerRecord → ContainerState → ContainerRecord
gone_by r (Sent to) = recorded r.version (Gone to) []
gone_by r s = r

-- the record after an answer of this version
unfoldable pub answered : ℕ → Option ContainerRecord → Option ContainerRecord
answered version None = None
answered version (Some r) = Some (if r.version == version then gone_by r r.state else r)

-- the container of a message
abbrev pub container_of : MoveMessage → ℕ
container_of (Image c version updates) = c
container_of (Taken c version) = c

-- the record after a message on it
abbrev pub taken_in : MoveMessage → Option ContainerRecord → Option ContainerRecord
taken_in (Image c version updates) r = with_image version updates r
taken_in (Taken c version) r = answered version r

-- the records after a message, by the record found
unfoldable pub taken_at : MoveMessage → Option (Option ContainerRecord) → List (Option ContainerRecord) → List (Option ContainerRecord)
taken_at message None rs = rs
taken_at message (Some r) rs = with_numbered (container_of message) (taken_in message r) rs

-- the containers after a message
abbrev pub after_take : Containers → MoveMessage → Containers
after_take m message = with_records m (taken_at message (numbered m.records (container_of message)) m.records)

-- the answer to a message
abbrev pub answer_to : MoveMessage → Option MoveMessage
answer_to (Image c version updates) = Some (Taken c version)
answer_to (Taken c version) = None

-- A version that a u64 can still follow.
abbrev pub has_next : Option ContainerRecord → Bool
has_next None = true
has_next (Some r) = nat_lt (r.version + 1) 18446744073709551616

-- opens all of this file
unfoldable pub containers_open : ⊤
unfolding beginning beginnings found_at found unless_sent unless_leaving readable changeable updates_of updated_with updated changed ordered sent_on sent_if sent_from image_by image_of images_from with_image gone_by answered taken_at added
containers_open = tt
