-- What a call used: a stream, a link or a clock, each before the call and after it.
use Rattle.std.specs.Prelude.{◌≡◌, ℕ, List, Option}
use Rattle.std.specs.Io.KnownBytes.{Appends}
use Rattle.st_base.specs.declared.ids.Stamp.{Stamp}
use Rattle.st_link.specs.Causes.{Rose}
use Rattle.st_link.specs.Prefixes.{AppendsPrefix}

-- a source or a sink: the bytes that it has left or has received, if it tells them, and how many of its calls failed
pub record StreamUse (Stream : Type 0) : Type 0 where
  pub before : Stream
  pub now : Stream
  pub bytes_before : Option (List ℕ)
  pub bytes_now : Option (List ℕ)
  pub faults_before : ℕ
  pub faults_now : ℕ

-- a link: the bytes that it had left, those that it was sent, the names at which it was attached, and how many of its calls failed
pub record LinkUse (Link : Type 0) : Type 0 where
  pub before : Link
  pub now : Link
  pub left : Option (List ℕ)
  pub written_before : Option (List ℕ)
  pub written_now : Option (List ℕ)
  pub attached_before : Option (List (List ℕ))
  pub attached_now : Option (List (List ℕ))
  pub faults_before : ℕ
  pub faults_now : ℕ

-- a clock, and the readings that it had to come
pub record ClockUse (Clock : Type 0) : Type 0 where
  pub before : Clock
  pub now : Clock
  pub readings : Option (List Stamp)

-- the use of a stream that tells its bytes and its count of faults so, from one state to another
abbrev pub stream_use : {Stream : Type 0} → (Stream → Option (List ℕ)) → (Stream → ℕ) → Stream → Stream → StreamUse Stream
stream_use bytes faults before now = record {
  before = before;
  now = now;
  bytes_before = bytes before;
  bytes_now = bytes now;
  faults_before = faults before;
  faults_now = faults now;
}

-- the same of a link, which also tells its names
abbrev pub link_use : {Link : Type 0} → (Link → Option (List ℕ)) → (Link → Option (List ℕ)) → (Link → Option (List (List ℕ))) → (Link → ℕ) → Link →
    Link → LinkUse Link
link_use left written attached faults before now = record {
  before = before;
  now = now;
  left = left before;
  written_before = written before;
  written_now = written now;
  attached_before = attached before;
  attached_now = attached now;
  faults_before = faults before;
  faults_now = faults now;
}

-- the same of a clock that tells its readings so
abbrev pub clock_use : {Clock : Type 0} → (Clock → Option (List Stamp)) → Clock → Clock → ClockUse Clock
clock_use readings before now = record { before = before; now = now; readings = readings before }

-- no call of the stream failed
abbrev pub NoneFailed : {Stream : Type 0} → StreamUse Stream → Type 0
NoneFailed stream = stream.faults_now ≡ stream.faults_before

-- a call of the stream failed
abbrev pub OneFailed : {Stream : Type 0} → StreamUse Stream → Type 0
OneFailed stream = Rose stream.faults_before stream.faults_now

-- a sink received exactly this text
abbrev pub Receives : {Stream : Type 0} → StreamUse Stream → List ℕ → Type 0
Receives sink text = Appends sink.bytes_before sink.bytes_now text

-- a sink received a prefix of this text
abbrev pub ReceivesPrefix : {Stream : Type 0} → StreamUse Stream → List ℕ → Type 0
ReceivesPrefix sink text = AppendsPrefix sink.bytes_before sink.bytes_now text

-- a text was written: all of it, and no call of the sink failed
pub record IsWritten {Stream : Type 0} (sink : StreamUse Stream) (text : List ℕ) : Type 0 where
  pub whole : Receives sink text
  pub still : NoneFailed sink

-- a text was cut: a prefix of it was written, and a call of the sink failed
pub record IsCut {Stream : Type 0} (sink : StreamUse Stream) (text : List ℕ) : Type 0 where
  pub front : ReceivesPrefix sink text
  pub failed : OneFailed sink

-- the streams were left as they were
abbrev pub LeavesStreams : {Input Output : Type 0} → StreamUse Input → StreamUse Output → Type 0
LeavesStreams input out = (input.now ≡ input.before) × (out.now ≡ out.before)

-- the link and the clock were left as they were
abbrev pub LeavesLink : {Link Clock : Type 0} → LinkUse Link → ClockUse Clock → Type 0
LeavesLink link clock = (link.now ≡ link.before) × (clock.now ≡ clock.before)
